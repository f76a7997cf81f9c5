-- The last names of the current component's rows, where a state keeps them.
use Rattle.std.proofs.Common.{◌≡◌, ◌≢◌, ℕ, ◌+◌, ◌<◌, ◌≤◌, List, [], ◌∷◌, ◌++◌, length, get_or, take, drop, refl, sym, ap, ◌∙◌, subst, inl, arith}
use Rattle.std.proofs.lemmas.List.{map_push, length-append}
use Rattle.fs_lists.specs.Members.{IsIn, IsDistinct}
use Rattle.fs_lists.proofs.Members.{All-member, in_append_right}
use Rattle.fs_gluing.specs.Exchanges.{Letter, IsLawful, names_of}
use Rattle.fs_iet.proofs.Rearrangements.{in_permutation, distinct_permutation}
use Rattle.fs_rauzy.specs.declared.rows.Extent.{Extent}
use Rattle.fs_rauzy.specs.Events.{AreLast}
use Rattle.fs_rauzy.specs.StatesInPlace.{no_letter, letters_at, component_at, IsInPlace, AreLastNames}
use Rattle.fs_rauzy.proofs.RowsAround.{All-drop, IsAround, around, not_after, same_place, whole_row}
use Rattle.fs_rauzy.proofs.WrittenLetters.{name_at, names_at, letter_of_names}

-- the names of the current component are its ends, and its letters stand at them
pub record AreLastInPlace (R : Letter → Letter → Type 0) (letters : List Letter) (top bottom : List ℕ) (e : Extent) (x y : ℕ) : Type 0 where
  pub x_inside : x < length letters
  pub y_inside : y < length letters
  pub x_named : (get_or letters x no_letter).name ≡ x
  pub y_named : (get_or letters y no_letter).name ≡ y
  pub differ : x ≢ y
  pub x_there : IsIn x (drop e.first top)
  pub y_there : IsIn y (drop e.first top)
  pub top_before : List ℕ
  pub top_end : drop e.first top ≡ top_before ++ x ∷ []
  pub bottom_before : List ℕ
  pub bottom_end : drop e.first bottom ≡ bottom_before ++ y ∷ []
  pub last : AreLast (component_at letters top bottom e) (get_or letters x no_letter) (get_or letters y no_letter)
  pub holds : R (get_or letters x no_letter) (get_or letters y no_letter)

-- a name that was looked for from the end stands at its only place
place_around : (k x y : ℕ) (row : List ℕ) → IsDistinct (drop k row) → (at : IsAround x y (drop k row)) (n : ℕ) (left right : List ℕ) → row ≡ left ++ x ∷ right → length left ≡ n → ¬ IsIn x right
    → (length (take k row ++ at.left) ≡ n) × (n + 1 < length row)
place_around k x y row apart at n left right is long other =
    let whole = whole_row k row at.left (x ∷ (at.right ++ y ∷ [])) at.was in
    let same : length (take k row ++ at.left) ≡ n =
    same_place x (take k row ++ at.left) (at.right ++ y ∷ []) left right (sym whole ∙ is) (not_after x at.left (at.right ++ y ∷ []) (subst IsDistinct at.was apart)) other ∙ long in
    let total : length row ≡ length (take k row ++ at.left) + length (x ∷ (at.right ++ y ∷ [])) = ap length whole ∙ length-append (take k row ++ at.left) (x ∷ (at.right ++ y ∷ [])) in
    let more : length (at.right ++ y ∷ []) ≡ length at.right + 1 = length-append at.right (y ∷ []) in
    (same, omega arith)

module _ {letters : List Letter} {top bottom : List ℕ} {e : Extent} {extents : List Extent} (place : IsInPlace letters top bottom (e ∷ extents)) where
  -- the rows of the component begin within the rows of all
  pub first_within : (e.first ≤ length top) × (e.first ≤ length bottom)
  first_within = let begins = place.laid.0 in let long = place.as_long in (omega arith, omega arith)

  -- so it is for the names of last letters
  pub last_in_place : (R : Letter → Letter → Type 0) (x y : ℕ) → AreLastNames (component_at letters top bottom e) x y R → AreLastInPlace R letters top bottom e x y
  last_in_place R x y (a, b, last, a_name, b_name, holds) =
      let row = drop e.first top in
      let within = All-drop (λ name. name < length letters) e.first top place.top_within in
      let a_in : IsIn a (letters_at letters row) = subst (IsIn a) (sym last.top) (in_append_right a last.before_top (a ∷ []) (inl refl)) in
      let a_from = letter_of_names letters row a place.named within a_in in
      let b_from = letter_of_names letters row b place.named within last.there in
      let a_is : a ≡ get_or letters x no_letter = a_from.1 ∙ ap (λ (n : ℕ). get_or letters n no_letter) a_name in
      let b_is : b ≡ get_or letters y no_letter = b_from.1 ∙ ap (λ (n : ℕ). get_or letters n no_letter) b_name in
      let x_there : IsIn x row = subst (λ (n : ℕ). IsIn n row) a_name a_from.0 in
      let y_there : IsIn y row = subst (λ (n : ℕ). IsIn n row) b_name b_from.0 in
      let x_inside : x < length letters = All-member (λ name. name < length letters) row x within x_there in
      let y_inside : y < length letters = All-member (λ name. name < length letters) row y within y_there in
      record {
        x_inside = x_inside;
        y_inside = y_inside;
        x_named = name_at letters x place.named x_inside;
        y_named = name_at letters y place.named y_inside;
        differ = λ same. last.differ (a_name ∙ same ∙ sym b_name);
        x_there = x_there;
        y_there = y_there;
        top_before = names_of last.before_top;
        top_end =
            sym (names_at letters row place.named within) ∙ ap names_of last.top ∙ map_push (λ (l : Letter). l.name) last.before_top a
            ∙ ap (λ (n : ℕ). names_of last.before_top ++ n ∷ []) a_name;
        bottom_before = last.before_bottom;
        bottom_end = last.bottom ∙ ap (λ (n : ℕ). last.before_bottom ++ n ∷ []) b_name;
        last =
            subst (λ (l : Letter). AreLast (component_at letters top bottom e) l (get_or letters y no_letter)) a_is
            (subst (λ (l : Letter). AreLast (component_at letters top bottom e) a l) b_is last);
        holds = subst (λ (l : Letter). R l (get_or letters y no_letter)) a_is (subst (λ (l : Letter). R a l) b_is holds);
      }

  -- ---- where the names stand

  module _ {d : ℕ} (lawful : IsLawful d (component_at letters top bottom e)) {R : Letter → Letter → Type 0} {x y : ℕ} (last : AreLastInPlace R letters top bottom e x y) where
    below_distinct : IsDistinct (drop e.first bottom)
    below_distinct = distinct_permutation (names_of (letters_at letters (drop e.first top))) (drop e.first bottom) lawful.rows lawful.names

    above_distinct : IsDistinct (drop e.first top)
    above_distinct = subst IsDistinct (names_at letters (drop e.first top) place.named (All-drop (λ name. name < length letters) e.first top place.top_within)) lawful.names

    pub x_below : IsIn x (drop e.first bottom)
    x_below =
        in_permutation x (names_of (letters_at letters (drop e.first top))) (drop e.first bottom) lawful.rows
        (subst (IsIn x) (sym (names_at letters (drop e.first top) place.named (All-drop (λ name. name < length letters) e.first top place.top_within))) last.x_there)

    -- the top row's last name, in the bottom row
    pub around_below : IsAround x y (drop e.first bottom)
    around_below = around x y (drop e.first bottom) last.bottom_before last.bottom_end last.differ x_below

    -- the bottom row's last name, in the top row
    pub around_above : IsAround y x (drop e.first top)
    around_above = around y x (drop e.first top) last.top_before last.top_end (λ same. last.differ (sym same)) last.y_there

    -- the place of a name that was looked for from the end
    pub place_below : (n : ℕ) (left right : List ℕ) → bottom ≡ left ++ x ∷ right → length left ≡ n → ¬ IsIn x right
        → (length (take e.first bottom ++ around_below.left) ≡ n) × (n + 1 < length bottom)
    place_below n left right is long other = place_around e.first x y bottom below_distinct around_below n left right is long other

    pub place_above : (n : ℕ) (left right : List ℕ) → top ≡ left ++ y ∷ right → length left ≡ n → ¬ IsIn y right
        → (length (take e.first top ++ around_above.left) ≡ n) × (n + 1 < length top)
    place_above n left right is long other = place_around e.first y x top above_distinct around_above n left right is long other
