-- The call that makes a merge: from what its callees give, the event and the lists after it; or where it overflows.
use Rattle.std.proofs.Common.{◌≡◌, ℕ, ◌+◌, ◌<◌, true, Option, Some, None, IsSome, Ok, Err, List, [], ◌∷◌, ◌++◌, length, get_or, set, take, refl, sym, ◌∙◌, subst}
use Rattle.std.proofs.lemmas.List.{same_from_push}
use Rattle.std.specs.Option.{option_to_list}
use Rattle.fs_ring.specs.OrderedRing.{IsOrderedRing}
use Rattle.fs_quadratic.specs.Ring.{quadratic, IsPositive}
use Rattle.fs_quadratic.specs.declared.steps.Place.{Place}
use Rattle.fs_gluing.specs.Exchanges.{Letter, Component}
use Rattle.fs_rauzy.specs.declared.events.Event.TheVariants.{Merged}
use Rattle.fs_rauzy.specs.declared.rows.Extent.{Extent}
use Rattle.fs_rauzy.specs.Events.{Makes, connection}
use Rattle.fs_rauzy.specs.Rule.{MergedNumbers, checked_merged, is_step, Tests, of_merged}
use Rattle.fs_rauzy.specs.States.{IsState}
use Rattle.fs_rauzy.specs.StatesInPlace.{no_letter, component_at, opened, IsInPlace}
use Rattle.fs_rauzy.specs.Steps.{IsStoppedBy}
use Rattle.fs_rauzy.proofs.EventNumbers.{merged_numbers}
use Rattle.fs_rauzy.proofs.EventsInPlace.{IsEventInPlace, event_in_place, event_at, passed_ok, passed_err, place_at, opened_at, lawful_at}
use Rattle.fs_rauzy.proofs.LastInPlace.{AreLastInPlace, around_below, place_below}
use Rattle.fs_rauzy.proofs.MergedInPlace.{merged_letters, merged_top, merged_bottom, merged_extent, merged_makes, merged_place, top_was}
use Rattle.fs_rauzy.proofs.RowsAround.{whole_row}
use Rattle.fs_rauzy.proofs.WonSteps.{IsFoundAt}

-- the row after its last name was put in the place of the one at a place
abbrev pub IsPutAt : List ℕ → ℕ → List ℕ → Type 0
IsPutAt row n after = (left right : List ℕ) (x y : ℕ) → length left ≡ n → row ≡ left ++ x ∷ (right ++ y ∷ []) → after ≡ left ++ y ∷ right

-- a row that loses an item
pub popped : (row after : List ℕ) (o : Option ℕ) → row ≡ after ++ option_to_list o → IsSome o → (z : ℕ) × (row ≡ after ++ z ∷ [])
popped row after None e h = absurd cc
popped row after (Some z) e h = (z, e)

module _ {d : ℕ} (L : IsOrderedRing (quadratic d) (IsPositive d)) {letters : List Letter} {top bottom : List ℕ} {extents : List Extent} {e : Extent} {rest : List Extent} (is : extents ≡ e ∷ rest)
    (place : IsInPlace letters top bottom extents) (state : IsState (record { d = d; components = opened letters top bottom extents })) (x y : ℕ)
    (last : AreLastInPlace (λ a b. a.length ≡ b.length) letters top bottom e x y) where
  abbrev a : Letter
  a = get_or letters x no_letter

  abbrev b : Letter
  b = get_or letters y no_letter

  -- it stops where its numbers do
  pub merge_stops : (stop : Place) → checked_merged a b e.total ≡ Err stop → IsStoppedBy d (λ event. is_step event ≡ true) (opened letters top bottom extents) stop
  merge_stops stop overflows =
      let p = place_at letters top bottom is place in
      let lawful = lawful_at letters top bottom is state in
      subst (λ (components : List Component). IsStoppedBy d (λ event. is_step event ≡ true) components stop) (sym (opened_at letters top bottom is))
      (record {
        outcome = record {
          event = Merged (connection b a);
          length = b.length;
          components = opened (merged_letters p lawful last) (merged_top p lawful last) (merged_bottom p lawful last) (merged_extent p lawful last ∷ rest);
        };
        kind = refl;
        made = merged_makes p lawful last;
        overflows =
            subst (Tests (opened letters top bottom (e ∷ rest)) (Merged (connection b a))) (passed_err (checked_merged a b e.total) stop overflows)
            (of_merged (component_at letters top bottom e) (opened letters (take e.first top) (take e.first bottom) rest) (connection b a) a b last.last);
      })

  -- the place of the top row's last name in the bottom row, behind which there is another
  pub merge_place_within : (n : ℕ) → IsFoundAt bottom x n → n + 1 < length bottom
  merge_place_within n found =
      (place_below (place_at letters top bottom is place) (lawful_at letters top bottom is state) last n found.0 found.1 found.2 found.3 found.4).1

  -- it is made
  pub merge_made : (numbers : MergedNumbers) → checked_merged a b e.total ≡ Ok numbers → (n : ℕ) → IsFoundAt bottom x n
      → (letters2 : List Letter) → letters2 ≡ set letters y (record b { back = numbers.back; corner = a.corner; start = a.start })
      → (top2 : List ℕ) (z : ℕ) → top ≡ top2 ++ z ∷ [] → (bottom2 : List ℕ) → IsPutAt bottom n bottom2 → (extents2 : List Extent) → extents2 ≡ record e { total = numbers.total } ∷ rest
      → IsEventInPlace (record { d = d; components = opened letters top bottom extents }) (Merged numbers.found) b.length letters2 top2 bottom2 extents2
  merge_made numbers fits n found letters2 letters_are top2 z top_is bottom2 put extents2 extents_are =
      let p = place_at letters top bottom is place in
      let lawful = lawful_at letters top bottom is state in
      let at = around_below p lawful last in
      let are = merged_numbers a b e.total numbers fits in
      let there = place_below p lawful last n found.0 found.1 found.2 found.3 found.4 in
      subst (λ found. IsEventInPlace (record { d = d; components = opened letters top bottom extents }) (Merged found) b.length letters2 top2 bottom2 extents2) (sym are.found)
      (event_at refl
      (letters_are ∙ (λ i. set letters y (record b { back = are.back i; corner = a.corner; start = a.start })))
      (same_from_push top2 (merged_top p lawful last) z x (sym top_is ∙ top_was p lawful last)).0
      (put (take e.first bottom ++ at.left) at.right x y there.0 (whole_row e.first bottom at.left (x ∷ (at.right ++ y ∷ [])) at.was))
      (extents_are ∙ (λ i. record e { total = are.total i } ∷ rest))
      (event_in_place L state
      (subst (λ (components : List Component). Makes d components (record {
        event = Merged (connection b a);
        length = b.length;
        components = opened (merged_letters p lawful last) (merged_top p lawful last) (merged_bottom p lawful last) (merged_extent p lawful last ∷ rest);
      })) (sym (opened_at letters top bottom is)) (merged_makes p lawful last))
      (subst (λ (components : List Component). Tests components (Merged (connection b a)) (Ok true)) (sym (opened_at letters top bottom is))
      (subst (Tests (opened letters top bottom (e ∷ rest)) (Merged (connection b a))) (passed_ok (checked_merged a b e.total) numbers fits)
      (of_merged (component_at letters top bottom e) (opened letters (take e.first top) (take e.first bottom) rest) (connection b a) a b last.last)))
      (merged_place p lawful last)))
