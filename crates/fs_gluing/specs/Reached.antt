-- What is reached from polygon 0 by steps of any kind.
use Rattle.std.specs.Prelude.{ℕ, Bool, IsTrue}

-- k is in each set of numbers that has 0 and, with a number, all to which a step leads from it
abbrev pub IsReached : (ℕ → ℕ → Type 0) → ℕ → Type 0
IsReached Leads k = (held : ℕ → Bool) → IsTrue (held 0) → ((i j : ℕ) → Leads i j → IsTrue (held i) → IsTrue (held j)) → IsTrue (held k)
