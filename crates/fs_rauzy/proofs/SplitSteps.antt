-- The call that makes a split: from what its callees give, the event and the lists after it; or where it overflows.
use Rattle.std.proofs.Common.{◌≡◌, ◌⊎◌, ℕ, ◌+◌, Bool, true, false, is_some, if◌then◌else◌, Result, Ok, Err, List, ◌∷◌, map, get_or, set, take, drop, refl, sym, ap, ◌∙◌, subst, inl, inr}
use Rattle.std.proofs.lemmas.List.{take-map}
use Rattle.fs_ring.specs.OrderedRing.{IsOrderedRing}
use Rattle.fs_quadratic.specs.Checked.{◌>>=◌}
use Rattle.fs_quadratic.specs.Ring as ring
use Rattle.fs_quadratic.specs.Ring.{Quadratic, quadratic, IsPositive}
use Rattle.fs_quadratic.specs.declared.steps.Place.{Place}
use Rattle.fs_gluing.specs.Exchanges.{Letter, Component}
use Rattle.fs_rauzy.specs.declared.events.Event.TheVariants.{Split}
use Rattle.fs_rauzy.specs.declared.rows.Extent.{Extent}
use Rattle.fs_rauzy.specs.Events.{Makes, HasSplit, prefix_sum, without_start, without_end}
use Rattle.fs_rauzy.specs.Rule.{SplitNumbers, checked_prefix, checked_parts, checked_split, Tests, of_split}
use Rattle.fs_rauzy.specs.States.{IsState}
use Rattle.fs_rauzy.specs.StatesInPlace.{no_letter, letters_at, component_at, opened, IsInPlace}
use Rattle.fs_rauzy.specs.Steps.{IsStoppedBy, SplitsAt}
use Rattle.fs_rauzy.proofs.EventNumbers.{prefix_value, part_numbers}
use Rattle.fs_rauzy.proofs.EventsInPlace.{IsEventInPlace, event_in_place, event_at, passed_ok, passed_err, place_at, opened_at, lawful_at}
use Rattle.fs_rauzy.proofs.SplitInPlace.{split_at_letters, split_found, left_extent, right_extent, letters_at_end, split_makes, split_place}

-- two results in turn
after_ok : {A B : Type 0} (r : Result A Place) (next : A → Result B Place) (x : A) → r ≡ Ok x → r >>= next ≡ next x
after_ok {A = A} r next x e = ap (λ (s : Result A Place). s >>= next) e

after_err : {A B : Type 0} (r : Result A Place) (next : A → Result B Place) (stop : Place) → r ≡ Err stop → r >>= next ≡ Err stop
after_err {A = A} r next stop e = ap (λ (s : Result A Place). s >>= next) e

module _ {d : ℕ} (L : IsOrderedRing (quadratic d) (IsPositive d)) {letters : List Letter} {top bottom : List ℕ} {extents : List Extent} {e : Extent} {rest : List Extent} (is : extents ≡ e ∷ rest)
    (place : IsInPlace letters top bottom extents) (state : IsState (record { d = d; components = opened letters top bottom extents })) {k : ℕ}
    (split : HasSplit (component_at letters top bottom e) k) where
  -- the names at the new end
  abbrev starting : ℕ
  starting = get_or bottom (e.first + k) 0

  abbrev ending : ℕ
  ending = get_or top (e.first + k) 0

  abbrev a : Letter
  a = get_or letters starting no_letter

  abbrev b : Letter
  b = get_or letters ending no_letter

  -- the lengths of the letters before it
  abbrev prefix : Result Quadratic Place
  prefix = checked_prefix (letters_at letters (take k (drop e.first top)))

  all_numbers : checked_split (component_at letters top bottom e) k a b ≡ prefix >>= (λ sum. checked_parts e.base e.total k sum a b)
  all_numbers = ap (λ (ls : List Letter). checked_prefix ls >>= (λ sum. checked_parts e.base e.total k sum a b)) (take-map (λ (name : ℕ). get_or letters name no_letter) k (drop e.first top))

  -- it stops where its numbers do
  stops : (stop : Place) → checked_split (component_at letters top bottom e) k a b ≡ Err stop → IsStoppedBy d (SplitsAt k) (opened letters top bottom extents) stop
  stops stop overflows =
      let p = place_at letters top bottom is place in
      let lawful = lawful_at letters top bottom is state in
      let found = split_found p lawful split in
      subst (λ (components : List Component). IsStoppedBy d (SplitsAt k) components stop) (sym (opened_at letters top bottom is))
      (record {
        outcome = record {
          event = Split k found;
          length = ring.zero;
          components = opened (split_at_letters p lawful split) top bottom (right_extent p lawful split ∷ (left_extent p lawful split ∷ rest));
        };
        kind = (found, refl);
        made = split_makes p lawful split;
        overflows =
            subst (Tests (opened letters top bottom (e ∷ rest)) (Split k found)) (passed_err (checked_split (component_at letters top bottom e) k a b) stop overflows)
            (of_split (component_at letters top bottom e) (opened letters (take e.first top) (take e.first bottom) rest) k found a b (letters_at_end p lawful split));
      })

  pub split_stops_first : (stop : Place) → prefix ≡ Err stop → IsStoppedBy d (SplitsAt k) (opened letters top bottom extents) stop
  split_stops_first stop fails = stops stop (all_numbers ∙ after_err prefix (λ sum. checked_parts e.base e.total k sum a b) stop fails)

  pub split_stops_then : (sum : Quadratic) → prefix ≡ Ok sum → (stop : Place) → checked_parts e.base e.total k sum a b ≡ Err stop
      → IsStoppedBy d (SplitsAt k) (opened letters top bottom extents) stop
  split_stops_then sum fits stop fails = stops stop (all_numbers ∙ after_ok prefix (λ s. checked_parts e.base e.total k s a b) sum fits ∙ fails)

  -- the letters without the ends that are met
  abbrev cleared : List Letter
  cleared =
      let after = set letters starting (without_start starting a) in
      set after ending (without_end ending (get_or after ending no_letter))

  cleared_if : (found : Bool) (after : List Letter) → ((found ≡ true) × (after ≡ cleared)) ⊎ ((found ≡ false) × (after ≡ letters)) → after ≡ (if found then cleared else letters)
  cleared_if found after (inl h) = h.1 ∙ ap (λ (t : Bool). if t then cleared else letters) (sym h.0)
  cleared_if found after (inr h) = h.1 ∙ ap (λ (t : Bool). if t then cleared else letters) (sym h.0)

  -- it is made
  pub split_made : (sum : Quadratic) → prefix ≡ Ok sum → (numbers : SplitNumbers) → checked_parts e.base e.total k sum a b ≡ Ok numbers
      → (letters2 : List Letter) → ((is_some numbers.found ≡ true) × (letters2 ≡ cleared)) ⊎ ((is_some numbers.found ≡ false) × (letters2 ≡ letters))
      → (extents2 : List Extent) → extents2 ≡ record { first = e.first + k; base = numbers.base; total = numbers.rest } ∷ (record e { total = numbers.sum } ∷ rest)
      → IsEventInPlace (record { d = d; components = opened letters top bottom extents }) (Split k numbers.found) ring.zero letters2 top bottom extents2
  split_made sum fits numbers parts_fit letters2 letters_are extents2 extents_are =
      let p = place_at letters top bottom is place in
      let lawful = lawful_at letters top bottom is state in
      let c = component_at letters top bottom e in
      let found = split_found p lawful split in
      let are = part_numbers e.base e.total k sum a b numbers parts_fit in
      let all : checked_split c k a b ≡ Ok numbers = all_numbers ∙ after_ok prefix (λ s. checked_parts e.base e.total k s a b) sum fits ∙ parts_fit in
      let sum_is : sum ≡ prefix_sum c k =
      prefix_value (letters_at letters (take k (drop e.first top))) sum fits
      ∙ ap (λ (ls : List Letter). ring.total (map (λ letter. letter.length) ls)) (sym (take-map (λ (name : ℕ). get_or letters name no_letter) k (drop e.first top))) in
      subst (λ f. IsEventInPlace (record { d = d; components = opened letters top bottom extents }) (Split k f) ring.zero letters2 top bottom extents2) (sym are.found)
      (event_at refl
      (cleared_if (is_some numbers.found) letters2 letters_are ∙ ap (λ f. if is_some f then cleared else letters) are.found)
      refl refl
      (extents_are
      ∙ (λ i. record { first = e.first + k; base = are.base i; total = are.rest i } ∷ (record e { total = are.sum i } ∷ rest))
      ∙ (λ i. record { first = e.first + k; base = ring.add e.base (sum_is i); total = ring.sub e.total (sum_is i) } ∷ (record e { total = sum_is i } ∷ rest)))
      (event_in_place L state
      (subst (λ (components : List Component). Makes d components (record {
        event = Split k found;
        length = ring.zero;
        components = opened (split_at_letters p lawful split) top bottom (right_extent p lawful split ∷ (left_extent p lawful split ∷ rest));
      })) (sym (opened_at letters top bottom is)) (split_makes p lawful split))
      (subst (λ (components : List Component). Tests components (Split k found) (Ok true)) (sym (opened_at letters top bottom is))
      (subst (Tests (opened letters top bottom (e ∷ rest)) (Split k found)) (passed_ok (checked_split c k a b) numbers all)
      (of_split c (opened letters (take e.first top) (take e.first bottom) rest) k found a b (letters_at_end p lawful split))))
      (split_place p lawful split)))
