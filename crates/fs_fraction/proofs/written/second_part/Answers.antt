use Rattle.std.proofs.Common.{◌≢◌, ◌∷◌, [], rules}
use Rattle.std.proofs.lemmas.Slice.Eq.{bytes_eq-Decides}
use Rattle.fs_fraction.proofs.Parts.{no_second_letter}
use Rattle.fs_fraction.proofs.written.second_part.Goals as goal

pub returns-else-eq : goal.returns-else-eq
returns-else-eq c =
    let tail = c.in_ok-ratio.tail.now in
    let other : tail ≢ 114 ∷ [] = search (rules, bytes_eq-Decides) in
    rw c.in_ok-sign.ensures.cases.0 (no_second_letter c.in_ok-sign.sign.now c.in_ok-sign.rest.now _ tail c.in_ok-ratio.ensures other)
