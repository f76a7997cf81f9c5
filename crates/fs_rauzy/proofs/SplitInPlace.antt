-- Splits where a state keeps its components: the rows stay, the letters' ends that are met are real no more, and the two extents give the parts.
use Rattle.std.proofs.Common.{◌≡◌, ℕ, zero, suc, ◌+◌, ◌<◌, ◌≤◌, if◌then◌else◌, is_some, Option, Some, List, [], ◌∷◌, length, map, get_or, take, drop, refl, sym, ap, ◌∙◌, subst, inl, arith}
use Rattle.std.proofs.Math.Seq.{take-take, drop-drop, get_or-drop}
use Rattle.std.proofs.lemmas.List.{length-drop, length-map, drop-take, take-map, drop-map}
use Rattle.std.proofs.lemmas.List.Sorted.{IsPermutation-sym}
use Rattle.std.proofs.lemmas.Option.{same_Some, slice_get-get_or, slice_get-map}
use Rattle.std.specs.List.{AllByRecursion, slice_get, range_with_len}
use Rattle.std.specs.Option.{option_map}
use Rattle.fs_lists.specs.Members.{IsIn, IsDistinct}
use Rattle.fs_lists.proofs.All.{All-slice_get}
use Rattle.fs_lists.proofs.Members.{All-member, in_map}
use Rattle.fs_lists.proofs.Ranges.{in_range}
use Rattle.fs_lists.proofs.Removal.{at_most_partners}
use Rattle.fs_quadratic.specs.Ring as ring
use Rattle.fs_quadratic.specs.Ring.{Quadratic, add, sub}
use Rattle.fs_gluing.specs.Exchanges.{Letter, Component, IsLawful, names_of}
use Rattle.fs_iet.specs.ExchangeValue.{most_letters}
use Rattle.fs_iet.proofs.Rearrangements.{in_permutation, distinct_permutation}
use Rattle.fs_rauzy.specs.declared.events.Event.TheVariants.{Split}
use Rattle.fs_rauzy.specs.declared.events.Found.{Found}
use Rattle.fs_rauzy.specs.declared.rows.Extent.{Extent}
use Rattle.fs_rauzy.specs.Events.{without_start, without_end, connection, prefix_sum, HasSplit, AreAt, IsSplit, Makes, splits}
use Rattle.fs_rauzy.specs.StatesInPlace.{no_letter, letters_at, component_at, opened, AreLaid, IsInPlace}
use Rattle.fs_rauzy.proofs.RowsAround.{All-drop, All-take, distinct_drop, not_in_take}
use Rattle.fs_rauzy.proofs.WonInPlace.{with_total}
use Rattle.fs_rauzy.proofs.WrittenLetters.{AreWithin, name_at, names_at, letters_at_same, in_drop, opened_same}
use Rattle.fs_rauzy.proofs.ClearedEnds.{after_split, split_named, split_long, split_letters, split_same}

-- an item at an index is in the rest of the list from there on
in_rest : {X : Type 0} (xs : List X) (n : ℕ) (x : X) → slice_get xs n ≡ Some x → IsIn x (drop n xs)
in_rest [] n x e = absurd cc
in_rest (y ∷ ys) zero x e = inl (sym (same_Some y x e))
in_rest (y ∷ ys) (suc n) x e = in_rest ys n x e

-- ---- the event

module _ {letters : List Letter} {top bottom : List ℕ} {e : Extent} {extents : List Extent} (place : IsInPlace letters top bottom (e ∷ extents))
    {d : ℕ} (lawful : IsLawful d (component_at letters top bottom e)) {k : ℕ} (split : HasSplit (component_at letters top bottom e) k) where
  abbrev at_name : ℕ → Letter
  at_name name = get_or letters name no_letter

  -- the names at the new end
  abbrev pub starting_name : ℕ
  starting_name = get_or bottom (e.first + k) 0

  abbrev pub ending_name : ℕ
  ending_name = get_or top (e.first + k) 0

  abbrev pub starting_letter : Letter
  starting_letter = at_name starting_name

  abbrev pub ending_letter : Letter
  ending_letter = at_name ending_name

  -- the new end is within the rows
  pub end_within : (k < length (drop e.first top)) × (k < length (drop e.first bottom)) × (e.first + k < length top) × (e.first + k < length bottom)
  end_within =
      let others = split.others in
      let mapped = length-map (drop e.first top) at_name in
      let long_top = length-drop e.first top in
      let long_bottom = length-drop e.first bottom in
      let same = place.as_long in
      (omega arith, omega arith, omega arith, omega arith)

  start_at : slice_get (drop e.first bottom) k ≡ Some starting_name
  start_at = slice_get-get_or (drop e.first bottom) k 0 end_within.1 ∙ ap (λ (n : ℕ). Some n) (get_or-drop e.first bottom k 0)

  end_at : slice_get (drop e.first top) k ≡ Some ending_name
  end_at = slice_get-get_or (drop e.first top) k 0 end_within.0 ∙ ap (λ (n : ℕ). Some n) (get_or-drop e.first top k 0)

  row_within : AreWithin letters (drop e.first top)
  row_within = All-drop (λ name. name < length letters) e.first top place.top_within

  row_names : names_of (letters_at letters (drop e.first top)) ≡ drop e.first top
  row_names = names_at letters (drop e.first top) place.named row_within

  pub start_inside : starting_name < length letters
  start_inside = All-slice_get (λ name. name < length letters) (drop e.first bottom) k starting_name (All-drop (λ name. name < length letters) e.first bottom place.bottom_within) start_at

  pub end_inside : ending_name < length letters
  end_inside = All-slice_get (λ name. name < length letters) (drop e.first top) k ending_name row_within end_at

  pub start_named : starting_letter.name ≡ starting_name
  start_named = name_at letters starting_name place.named start_inside

  pub end_named : ending_letter.name ≡ ending_name
  end_named = name_at letters ending_name place.named end_inside

  start_there : IsIn starting_name (drop e.first top)
  start_there =
      subst (IsIn starting_name) row_names
      (in_permutation starting_name (drop e.first bottom) (names_of (letters_at letters (drop e.first top)))
      (IsPermutation-sym (names_of (letters_at letters (drop e.first top))) (drop e.first bottom) lawful.rows)
      (in_drop starting_name k (drop e.first bottom) (in_rest (drop e.first bottom) k starting_name start_at)))

  end_there : IsIn ending_name (drop e.first top)
  end_there = in_drop ending_name k (drop e.first top) (in_rest (drop e.first top) k ending_name end_at)

  -- the letters at the new end are in the right part
  start_not_left : ¬ IsIn starting_name (take k (drop e.first top))
  start_not_left h =
      let names : names_of (take k (letters_at letters (drop e.first top))) ≡ take k (drop e.first top) =
      ap names_of (take-map at_name k (drop e.first top)) ∙ names_at letters (take k (drop e.first top)) place.named (All-take (λ name. name < length letters) k (drop e.first top) row_within) in
      not_in_take starting_name k (drop e.first bottom) (distinct_permutation (names_of (letters_at letters (drop e.first top))) (drop e.first bottom) lawful.rows lawful.names)
      (in_rest (drop e.first bottom) k starting_name start_at) ((split.equal starting_name).0 (subst (IsIn starting_name) (sym names) h))

  end_not_left : ¬ IsIn ending_name (take k (drop e.first top))
  end_not_left = not_in_take ending_name k (drop e.first top) (distinct_drop e.first top place.apart) (in_rest (drop e.first top) k ending_name end_at)

  -- the letters at the new end
  pub letters_at_end : AreAt (component_at letters top bottom e) k starting_letter ending_letter
  letters_at_end = record {
    there = in_map at_name starting_name (drop e.first top) start_there;
    at_bottom = start_at ∙ ap (λ (n : ℕ). Some n) (sym start_named);
    at_top = slice_get-map at_name (drop e.first top) k ∙ ap (option_map at_name) end_at;
  }

  abbrev pub split_found : Option Found
  split_found = connection starting_letter ending_letter

  -- the letters after the split
  abbrev pub split_at_letters : List Letter
  split_at_letters = after_split letters starting_name ending_name place.named start_inside end_inside (is_some split_found)

  -- the extents of the parts
  abbrev pub left_extent : Extent
  left_extent = with_total e (prefix_sum (component_at letters top bottom e) k)

  abbrev pub right_extent : Extent
  right_extent =
      let sum = prefix_sum (component_at letters top bottom e) k in
      record { first = e.first + k; base = add e.base sum; total = sub e.total sum }

  -- the parts
  abbrev pub left_part : Component
  left_part = component_at split_at_letters (take (e.first + k) top) (take (e.first + k) bottom) left_extent

  abbrev pub right_part : Component
  right_part = component_at split_at_letters top bottom right_extent

  left_top : letters_at split_at_letters (drop e.first (take (e.first + k) top)) ≡ take k (letters_at letters (drop e.first top))
  left_top =
      ap (letters_at split_at_letters) (drop-take e.first k top)
      ∙ letters_at_same split_at_letters letters (take k (drop e.first top))
      (split_same letters starting_name ending_name place.named start_inside end_inside (is_some split_found) (take k (drop e.first top)) start_not_left end_not_left)
      ∙ sym (take-map at_name k (drop e.first top))

  right_top : letters_at split_at_letters (drop (e.first + k) top)
      ≡ (if is_some split_found then map (λ letter. without_end ending_letter.name (without_start starting_letter.name letter)) (drop k (letters_at letters (drop e.first top)))
      else drop k (letters_at letters (drop e.first top)))
  right_top =
      let ends = λ (m n : ℕ) (ls : List Letter). if is_some split_found then map (λ letter. without_end n (without_start m letter)) ls else ls in
      ap (letters_at split_at_letters) (sym (drop-drop k e.first top))
      ∙ split_letters letters starting_name ending_name place.named start_inside end_inside (is_some split_found) (drop k (drop e.first top))
      (All-drop (λ name. name < length letters) k (drop e.first top) row_within)
      ∙ ap (ends starting_name ending_name) (sym (drop-map at_name k (drop e.first top)))
      ∙ (λ i. ends (sym start_named i) (sym end_named i) (drop k (letters_at letters (drop e.first top))))

  pub split_component : IsSplit (component_at letters top bottom e) k left_part right_part split_found
  split_component =
      let c = component_at letters top bottom e in
      let sum = prefix_sum c k in
      record {
        split = split;
        starting = starting_letter;
        ending = ending_letter;
        at = letters_at_end;
        connected = refl;
        left_part = λ i. record { base = e.base; total = sum; top = left_top i; bottom = drop-take e.first k bottom i };
        right_part = λ i. record { base = add e.base sum; total = sub e.total sum; top = right_top i; bottom = sym (drop-drop k e.first bottom) i };
      }

  -- the state after it
  pub split_makes : Makes d (opened letters top bottom (e ∷ extents)) (record {
    event = Split k split_found;
    length = ring.zero;
    components = opened split_at_letters top bottom (right_extent ∷ (left_extent ∷ extents));
  })
  split_makes =
      let others : opened split_at_letters (take e.first (take (e.first + k) top)) (take e.first (take (e.first + k) bottom)) extents ≡ opened letters (take e.first top) (take e.first bottom) extents =
      (λ i. opened split_at_letters (take-take e.first (e.first + k) top (omega arith) i) (take-take e.first (e.first + k) bottom (omega arith) i) extents)
      ∙ opened_same split_at_letters letters (take e.first top) (take e.first bottom) extents
      (split_same letters starting_name ending_name place.named start_inside end_inside (is_some split_found) (take e.first top)
      (not_in_take starting_name e.first top place.apart start_there) (not_in_take ending_name e.first top place.apart end_there)) in
      subst (λ (rest : List Component). Makes d (opened letters top bottom (e ∷ extents)) (record {
        event = Split k split_found;
        length = ring.zero;
        components = right_part ∷ (left_part ∷ rest);
      })) (sym others)
      (splits (component_at letters top bottom e) left_part right_part (opened letters (take e.first top) (take e.first bottom) extents) k split_found split_component)

  -- it is in place
  pub split_place : IsInPlace split_at_letters top bottom (right_extent ∷ (left_extent ∷ extents))
  split_place =
      let long = split_long letters starting_name ending_name place.named start_inside end_inside (is_some split_found) in
      let some = split.some in
      let inside = end_within in
      record {
        named = split_named letters starting_name ending_name place.named start_inside end_inside (is_some split_found);
        few = subst (λ (n : ℕ). n ≤ most_letters) (sym long) place.few;
        top_within = subst (λ (n : ℕ). AllByRecursion (λ name. name < n) top) (sym long) place.top_within;
        bottom_within = subst (λ (n : ℕ). AllByRecursion (λ name. name < n) bottom) (sym long) place.bottom_within;
        as_long = place.as_long;
        apart = place.apart;
        laid = (inside.2, (omega arith, place.laid.1));
      }

-- ---- room for one more component

-- extents that are laid are at most as many as the names
laid_few : (n : ℕ) (extents : List Extent) → AreLaid n extents → length extents ≤ n
laid_few n [] laid = omega arith
laid_few n (e ∷ extents) laid = let rest = laid_few e.first extents laid.1 in let first = laid.0 in omega arith

-- a component that can be split leaves room for its parts
pub room_to_split : (letters : List Letter) (top bottom : List ℕ) (e : Extent) (extents : List Extent) (k : ℕ) → IsInPlace letters top bottom (e ∷ extents)
    → 0 < k → e.first + k < length top → length (e ∷ extents) < length letters
room_to_split letters top bottom e extents k place some within =
    let rest = laid_few e.first extents place.laid.1 in
    let names : length top ≤ length letters = distinct_below (length letters) top place.top_within place.apart in
    omega arith
  where
    length-range : (i n : ℕ) → length (range_with_len i n) ≡ n
    length-range i zero = refl
    length-range i (suc n) = ap suc (length-range (i + 1) n)

    distinct_below : (n : ℕ) (names : List ℕ) → AllByRecursion (λ name. name < n) names → IsDistinct names → length names ≤ n
    distinct_below n names within apart =
        subst (λ (m : ℕ). length names ≤ m) (length-range 0 n)
        (at_most_partners (λ u v. u ≡ v) (λ u v. u ≡ v) names (range_with_len 0 n)
        (λ x h. (x, in_range 0 n x (omega arith) (let below : x < n = All-member (λ name. name < n) names x within h in omega arith), refl))
        (λ x w y hx hw e f. e ∙ sym f) apart)
