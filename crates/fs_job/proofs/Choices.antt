-- Outcomes of one of two cases that exclude each other.
use Rattle.std.proofs.Common.{◌≡◌, ◌⊎◌, inl, inr, sym, ◌∙◌}
use Rattle.fs_job.specs.Draft.{Outcome}

-- at most one outcome has P
abbrev pub Unique : (Outcome → Type 0) → Type 0
Unique P = (o o' : Outcome) → P o → P o' → o ≡ o'

-- in the case A the outcome has P, in the case B it has Q
abbrev pub Choice : Type 0 → (Outcome → Type 0) → Type 0 → (Outcome → Type 0) → Outcome → Type 0
Choice A P B Q o = (A × P o) ⊎ (B × Q o)

-- unique in each of two cases that exclude each other
pub choice_unique : (A B : Type 0) (P Q : Outcome → Type 0) → (A → B → ⊥) → Unique P → Unique Q → Unique (Choice A P B Q)
choice_unique A B P Q apart p q o o' c c' = elim c [
  | inl a ↦ elim c' [ inl a' ↦ p o o' a.1 a'.1 | inr b' ↦ absurd (apart a.0 b'.0) ]
  | inr b ↦ elim c' [ inl a' ↦ absurd (apart a'.0 b.0) | inr b' ↦ q o o' b.1 b'.1 ]
]

-- this outcome
abbrev pub Is : Outcome → Outcome → Type 0
Is wanted o = o ≡ wanted

-- it is one
pub is_unique : (wanted : Outcome) → Unique (Is wanted)
is_unique wanted o o' p q = p ∙ sym q
