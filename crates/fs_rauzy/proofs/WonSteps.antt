-- The calls that make won comparisons: from what their callees give, the event and the lists after it; or where it overflows.
use Rattle.std.proofs.Common.{◌≡◌, ℕ, ◌+◌, ◌<◌, Bool, true, false, Ok, Err, List, [], ◌∷◌, ◌++◌, length, get_or, set, take, refl, sym, ◌∙◌, subst}
use Rattle.std.specs.List.{AllByRecursion}
use Rattle.fs_lists.specs.Members.{IsIn}
use Rattle.fs_ring.specs.OrderedRing.{IsOrderedRing}
use Rattle.fs_quadratic.specs.Ring.{Quadratic, quadratic, IsPositive, IsLess, sub}
use Rattle.fs_quadratic.specs.declared.steps.Place.{Place}
use Rattle.fs_gluing.specs.Exchanges.{Letter, Component, IsLawful}
use Rattle.fs_rauzy.specs.declared.events.Event.TheVariants.{Won}
use Rattle.fs_rauzy.specs.declared.rows.Extent.{Extent}
use Rattle.fs_rauzy.specs.Events.{Makes, wins_above, wins_below}
use Rattle.fs_rauzy.specs.Rule.{WonNumbers, checked_won, is_step, Tests, of_won_above, of_won_below}
use Rattle.fs_rauzy.specs.States.{IsState}
use Rattle.fs_rauzy.specs.StatesInPlace.{no_letter, component_at, opened, IsInPlace, IsSearched}
use Rattle.fs_rauzy.specs.Steps.{IsStoppedBy}
use Rattle.fs_rauzy.proofs.EventNumbers.{won_numbers}
use Rattle.fs_rauzy.proofs.EventsInPlace.{IsEventInPlace, event_in_place, event_at, passed_ok, passed_err, place_at, opened_at, lawful_at}
use Rattle.fs_rauzy.proofs.LastInPlace.{AreLastInPlace, around_below, around_above, place_below, place_above}
use Rattle.fs_rauzy.proofs.RowsAround.{whole_row}
use Rattle.fs_rauzy.proofs.SplitPlaces.{won_above_no_split, won_below_no_split}
use Rattle.fs_rauzy.proofs.WonInPlace.{won_above_letters, won_above_row, won_above_extent, won_above_makes, won_above_place, won_below_letters, won_below_row, won_below_extent, won_below_makes, won_below_place}

-- the last place of a name in a row, as it is found
abbrev pub IsFoundAt : List ℕ → ℕ → ℕ → Type 0
IsFoundAt row name n = (left : List ℕ) × (right : List ℕ) × (row ≡ left ++ name ∷ right) × (length left ≡ n) × ¬ IsIn name right

-- the row after its last name was moved behind the one at a place
abbrev pub IsMovedTo : List ℕ → ℕ → List ℕ → Type 0
IsMovedTo row n after = (left right : List ℕ) (winner loser : ℕ) → length left ≡ n → row ≡ left ++ winner ∷ (right ++ loser ∷ []) → after ≡ left ++ winner ∷ (loser ∷ right)

module _ {d : ℕ} (L : IsOrderedRing (quadratic d) (IsPositive d)) {letters : List Letter} {top bottom : List ℕ} {extents : List Extent} {e : Extent} {rest : List Extent} (is : extents ≡ e ∷ rest)
    (place : IsInPlace letters top bottom extents) (state : IsState (record { d = d; components = opened letters top bottom extents })) (x y : ℕ) where
  abbrev a : Letter
  a = get_or letters x no_letter

  abbrev b : Letter
  b = get_or letters y no_letter

  -- ---- the top row's last letter wins

  module _ (last : AreLastInPlace (λ a b. IsLess d b.length a.length) letters top bottom e x y) where
    -- it stops where its numbers do
    pub won_above_stops : (stop : Place) → checked_won a b e.total b.start.vector ≡ Err stop → IsStoppedBy d (λ event. is_step event ≡ true) (opened letters top bottom extents) stop
    won_above_stops stop overflows =
        subst (λ (components : List Component). IsStoppedBy d (λ event. is_step event ≡ true) components stop) (sym (opened_at letters top bottom is))
        (record {
          outcome = record {
            event = Won true;
            length = sub a.length b.length;
            components = opened (won_above_letters (place_at letters top bottom is place) (lawful_at letters top bottom is state) x y last) top (won_above_row (place_at letters top bottom is place) (lawful_at letters top bottom is state) x y last)
                (won_above_extent (place_at letters top bottom is place) (lawful_at letters top bottom is state) x y last ∷ rest);
          };
          kind = refl;
          made = won_above_makes (place_at letters top bottom is place) (lawful_at letters top bottom is state) x y last;
          overflows =
              subst (Tests (opened letters top bottom (e ∷ rest)) (Won true)) (passed_err (checked_won a b e.total b.start.vector) stop overflows)
              (of_won_above (component_at letters top bottom e) (opened letters (take e.first top) (take e.first bottom) rest) a b last.last);
        })

    -- the place of the winner in the bottom row, behind which there is another
    pub won_above_place_within : (n : ℕ) → IsFoundAt bottom x n → n + 1 < length bottom
    won_above_place_within n found = (place_below (place_at letters top bottom is place) (lawful_at letters top bottom is state) last n found.0 found.1 found.2 found.3 found.4).1

    -- it is made
    pub won_above_made : (numbers : WonNumbers) → checked_won a b e.total b.start.vector ≡ Ok numbers → (n : ℕ) → IsFoundAt bottom x n
        → (letters2 : List Letter) → letters2 ≡ set (set letters x (record a { length = numbers.length })) y (record b { back = numbers.back; start = record b.start { vector = numbers.vector } })
        → (bottom2 : List ℕ) → IsMovedTo bottom n bottom2 → (extents2 : List Extent) → extents2 ≡ record e { total = numbers.total } ∷ rest
        → IsEventInPlace (record { d = d; components = opened letters top bottom extents }) (Won true) numbers.length letters2 top bottom2 extents2
    won_above_made numbers fits n found letters2 letters_are bottom2 moved extents2 extents_are =
        let p = place_at letters top bottom is place in
        let lawful = lawful_at letters top bottom is state in
        let at = around_below p lawful last in
        let are = won_numbers a b e.total b.start.vector numbers fits in
        let there = place_below p lawful last n found.0 found.1 found.2 found.3 found.4 in
        event_at are.length
        (letters_are ∙ (λ i. set (set letters x (record a { length = are.length i })) y (record b { back = are.back i; start = record b.start { vector = are.vector i } })))
        refl
        (moved (take e.first bottom ++ at.left) at.right x y there.0 (whole_row e.first bottom at.left (x ∷ (at.right ++ y ∷ [])) at.was))
        (extents_are ∙ (λ i. record e { total = are.total i } ∷ rest))
        (event_in_place L state
        (subst (λ (components : List Component). Makes d components (record {
          event = Won true;
          length = sub a.length b.length;
          components = opened (won_above_letters p lawful x y last) top (won_above_row p lawful x y last) (won_above_extent p lawful x y last ∷ rest);
        })) (sym (opened_at letters top bottom is)) (won_above_makes p lawful x y last))
        (subst (λ (components : List Component). Tests components (Won true) (Ok true)) (sym (opened_at letters top bottom is))
        (subst (Tests (opened letters top bottom (e ∷ rest)) (Won true)) (passed_ok (checked_won a b e.total b.start.vector) numbers fits)
        (of_won_above (component_at letters top bottom e) (opened letters (take e.first top) (take e.first bottom) rest) a b last.last)))
        (won_above_place p lawful x y last))

  -- ---- the bottom row's last letter wins

  module _ (last : AreLastInPlace (λ a b. IsLess d a.length b.length) letters top bottom e x y) where
    -- it stops where its numbers do
    pub won_below_stops : (stop : Place) → checked_won b a e.total a.end.vector ≡ Err stop → IsStoppedBy d (λ event. is_step event ≡ true) (opened letters top bottom extents) stop
    won_below_stops stop overflows =
        subst (λ (components : List Component). IsStoppedBy d (λ event. is_step event ≡ true) components stop) (sym (opened_at letters top bottom is))
        (record {
          outcome = record {
            event = Won false;
            length = sub b.length a.length;
            components = opened (won_below_letters (place_at letters top bottom is place) (lawful_at letters top bottom is state) x y last) (won_below_row (place_at letters top bottom is place) (lawful_at letters top bottom is state) x y last) bottom
                (won_below_extent (place_at letters top bottom is place) (lawful_at letters top bottom is state) x y last ∷ rest);
          };
          kind = refl;
          made = won_below_makes (place_at letters top bottom is place) (lawful_at letters top bottom is state) x y last;
          overflows =
              subst (Tests (opened letters top bottom (e ∷ rest)) (Won false)) (passed_err (checked_won b a e.total a.end.vector) stop overflows)
              (of_won_below (component_at letters top bottom e) (opened letters (take e.first top) (take e.first bottom) rest) a b last.last);
        })

    -- the place of the winner in the top row, behind which there is another
    pub won_below_place_within : (n : ℕ) → IsFoundAt top y n → n + 1 < length top
    won_below_place_within n found = (place_above (place_at letters top bottom is place) (lawful_at letters top bottom is state) last n found.0 found.1 found.2 found.3 found.4).1

    -- it is made
    pub won_below_made : (numbers : WonNumbers) → checked_won b a e.total a.end.vector ≡ Ok numbers → (n : ℕ) → IsFoundAt top y n
        → (letters2 : List Letter) → letters2 ≡ set (set letters y (record b { length = numbers.length })) x (record a { back = numbers.back; end = record a.end { vector = numbers.vector } })
        → (top2 : List ℕ) → IsMovedTo top n top2 → (extents2 : List Extent) → extents2 ≡ record e { total = numbers.total } ∷ rest
        → IsEventInPlace (record { d = d; components = opened letters top bottom extents }) (Won false) numbers.length letters2 top2 bottom extents2
    won_below_made numbers fits n found letters2 letters_are top2 moved extents2 extents_are =
        let p = place_at letters top bottom is place in
        let lawful = lawful_at letters top bottom is state in
        let at = around_above p lawful last in
        let are = won_numbers b a e.total a.end.vector numbers fits in
        let there = place_above p lawful last n found.0 found.1 found.2 found.3 found.4 in
        event_at are.length
        (letters_are ∙ (λ i. set (set letters y (record b { length = are.length i })) x (record a { back = are.back i; end = record a.end { vector = are.vector i } })))
        (moved (take e.first top ++ at.left) at.right y x there.0 (whole_row e.first top at.left (y ∷ (at.right ++ x ∷ [])) at.was))
        refl
        (extents_are ∙ (λ i. record e { total = are.total i } ∷ rest))
        (event_in_place L state
        (subst (λ (components : List Component). Makes d components (record {
          event = Won false;
          length = sub b.length a.length;
          components = opened (won_below_letters p lawful x y last) (won_below_row p lawful x y last) bottom (won_below_extent p lawful x y last ∷ rest);
        })) (sym (opened_at letters top bottom is)) (won_below_makes p lawful x y last))
        (subst (λ (components : List Component). Tests components (Won false) (Ok true)) (sym (opened_at letters top bottom is))
        (subst (Tests (opened letters top bottom (e ∷ rest)) (Won false)) (passed_ok (checked_won b a e.total a.end.vector) numbers fits)
        (of_won_below (component_at letters top bottom e) (opened letters (take e.first top) (take e.first bottom) rest) a b last.last)))
        (won_below_place p lawful x y last))

-- ---- a won comparison makes no split

-- what is known of splits stays known
pub won_searched : {d : ℕ} (L : IsOrderedRing (quadratic d) (IsPositive d)) {components : List Component} {event : Bool} {noted : Quadratic} {after : List Component} (searched : Bool)
    → AllByRecursion (IsLawful d) components → Makes d components (record { event = Won event; length = noted; components = after }) → IsSearched searched components → IsSearched searched after
won_searched L false lawful made known = tt
won_searched L true lawful (wins_above c after rest won) known = won_above_no_split L lawful.0 known won
won_searched L true lawful (wins_below c after rest won) known = won_below_no_split L lawful.0 known won
