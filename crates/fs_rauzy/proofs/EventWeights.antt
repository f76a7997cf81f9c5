-- How many letters there are after an event, and that only won comparisons don't lessen the weight of the open components. A library for crates to come.
use Rattle.std.proofs.Common.{◌≡◌, ℕ, ◌+◌, ◌≤◌, Option, List, length, ap, ◌∙◌, arith, length-append}
use Rattle.std.specs.List.{AllByRecursion}
use Rattle.std.proofs.lemmas.List.{length-map, length_push}
use Rattle.std.proofs.lemmas.List.Sorted.{length_permutation}
use Rattle.fs_ring.specs.OrderedRing.{IsOrderedRing}
use Rattle.fs_quadratic.specs.Ring.{quadratic, IsPositive}
use Rattle.fs_gluing.specs.Exchanges.{Letter, Component, IsLawful, names_of}
use Rattle.fs_rauzy.specs.declared.events.Found.{Found}
use Rattle.fs_rauzy.specs.Events.{with_letter, won_over, lost_below, lost_above, merged_of, IsWonByTop, IsWonByBottom, IsMerged, IsSplit, Outcome, Makes, splits, closes, wins_above, wins_below, merges}
use Rattle.fs_rauzy.specs.Measures.{weight, weight_taken}
use Rattle.fs_rauzy.proofs.RowEnds.{moved_permutation}
use Rattle.fs_rauzy.proofs.LetterChanges.{with_letter-length}
use Rattle.fs_rauzy.proofs.EventRows.{merged_lawful, split_left_lawful, split_right_lawful}
use Rattle.fs_rauzy.proofs.LawfulEvents.{parts_names}

-- a won comparison keeps the number of letters
pub won_above_letters : {d : ℕ} {c a : Component} → IsWonByTop d c a → length a.top ≡ length c.top
won_above_letters {d} {c} {a} w =
    ap length w.top ∙ with_letter-length (lost_below w.x w.y) (with_letter (won_over w.x w.y) c.top) ∙ with_letter-length (won_over w.x w.y) c.top

pub won_below_letters : {d : ℕ} {c a : Component} → IsWonByBottom d c a → length a.top ≡ length c.top
won_below_letters {d} {c} {a} w =
    ap length w.top ∙ with_letter-length (lost_above w.y w.x) (with_letter (won_over w.y w.x) w.row) ∙ with_letter-length (won_over w.y w.x) w.row
    ∙ length_permutation c.top w.row (moved_permutation w.moved)

-- a merge takes one letter away
pub merged_letters : {c a : Component} {f : Option Found} → IsMerged c a f → length a.top + 1 ≡ length c.top
merged_letters {c} {a} {f} m =
    omega (arith, ap length m.top, with_letter-length (merged_of m.x m.y) m.last.before_top, ap length m.last.top, length_push m.last.before_top m.x)

module _ {d : ℕ} (L : IsOrderedRing (quadratic d) (IsPositive d)) where
  -- a split keeps the number of letters
  pub split_letters : {c : Component} (lawful : IsLawful d c) {k : ℕ} {left right : Component} {f : Option Found} → IsSplit c k left right f
      → length left.top + length right.top ≡ length c.top
  split_letters {c} lawful {k} {left} {right} {f} s =
      let name : Letter → ℕ = λ (l : Letter). l.name in
      omega (
        arith,
        ap length (parts_names L lawful s),
        length-append (names_of left.top) (names_of right.top),
        length-map left.top name,
        length-map right.top name,
        length-map c.top name,
      )

  less_weight : (cs : List Component) (o : Outcome) → AllByRecursion (IsLawful d) cs → Makes d cs o → weight o.components + weight_taken o.event ≤ weight cs
  less_weight cs o all (splits c l r rest k f v) =
      let left = (split_left_lawful L all.0 v).some_letter in
      let right = (split_right_lawful L all.0 v).some_letter in
      omega (arith, split_letters all.0 v)
  less_weight cs o all (closes c rest) = let some = all.0.some_letter in omega arith
  less_weight cs o all (wins_above c a rest w) = omega (arith, won_above_letters w)
  less_weight cs o all (wins_below c a rest w) = omega (arith, won_below_letters w)
  less_weight cs o all (merges c a rest f m) = let some = (merged_lawful L all.0 m).some_letter in omega (arith, merged_letters m)

  -- each event takes at least its part from the weight
  pub event_weight : {components : List Component} {outcome : Outcome} → AllByRecursion (IsLawful d) components → Makes d components outcome
      → weight outcome.components + weight_taken outcome.event ≤ weight components
  event_weight {components} {outcome} all m = less_weight components outcome all m
