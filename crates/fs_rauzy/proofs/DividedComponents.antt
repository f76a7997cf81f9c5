-- The parts of a component that is split: left ends stay, and each part takes what the component takes.
use Rattle.std.proofs.Common.{◌≡◌, ℕ, ◌==◌, if◌then◌else◌, Bool, true, false, Option, is_some, List, [], ◌∷◌, ◌++◌, map, take, drop, refl, sym, ap, ◌∙◌, subst, append-nil, take-append-drop}
use Rattle.std.proofs.lemmas.List.{map-append}
use Rattle.fs_lists.specs.Members.{IsIn}
use Rattle.fs_lists.proofs.Members.{in_append_left, in_append_right, in_map, in_map_cases}
use Rattle.fs_ring.specs.OrderedRing.{IsOrderedRing, IsAtMost}
use Rattle.fs_ring.proofs.Order as order
use Rattle.fs_ring.proofs.Solver.{identity, derived, ◌⊕◌, ◌⊖◌, ◌≐◌, ◌from◌, numeral}
use Rattle.fs_quadratic.specs.Ring.{Quadratic, quadratic, IsPositive, add}
use Rattle.fs_convex.proofs.Rows.{Tiles, tiles_bounds}
use Rattle.fs_gluing.specs.Exchanges.{Letter, Component, IsLawful, names_of, length_of, top_left, bottom_left, Takes}
use Rattle.fs_iet.proofs.LetterRows.{length_of_letter, name_long, name_in_top, name_in_bottom, bottom_tiles}
use Rattle.fs_iet.proofs.TakenPositions.{takes_within}
use Rattle.fs_rauzy.specs.declared.events.Found.{Found}
use Rattle.fs_rauzy.specs.Events.{without_start, without_end, prefix_sum, IsSplit}
use Rattle.fs_rauzy.proofs.LeftEnds.{Stays, left_in, top_names_tiles}
use Rattle.fs_rauzy.proofs.RowIntervals.{BeginAlike, begin_alike}
use Rattle.fs_rauzy.proofs.TakenAfter.{TakenAs, IsTakenFrom, once, taken_by_old}

-- a letter has the name, the length and the return vector of one before
pub record HasOld (c : Component) (letter old : Letter) : Type 0 where
  pub there : IsIn old c.top
  pub named : letter.name ≡ old.name
  pub length : letter.length ≡ old.length
  pub back : letter.back ≡ old.back

-- each letter of a part has one of the whole
abbrev pub HaveOlds : Component → Component → Type 0
HaveOlds c part = (letter : Letter) → IsIn letter part.top → (old : Letter) × HasOld c letter old

-- both parts together have the rows of the whole, and the right one begins where the left one ends
pub record IsDivided (c left right : Component) : Type 0 where
  pub base : left.base ≡ c.base
  pub next : right.base ≡ add c.base left.total
  pub sum : add left.total right.total ≡ c.total
  pub top : names_of c.top ≡ names_of left.top ++ names_of right.top
  pub bottom : c.bottom ≡ left.bottom ++ right.bottom
  pub lefts : HaveOlds c left
  pub rights : HaveOlds c right

module _ {d : ℕ} (L : IsOrderedRing (quadratic d) (IsPositive d)) where
  -- a lawful component doesn't end before it begins
  begins_before_end : {c : Component} → IsLawful d c → IsAtMost (quadratic d) (IsPositive d) c.base (add c.base c.total)
  begins_before_end {c} lawful =
      (tiles_bounds L (bottom_left c) (length_of c.top) c.base (add c.base c.total) c.bottom (λ name h. name_long L lawful name (name_in_top L lawful name h)) (bottom_tiles L lawful)).0

  module _ {c : Component} (lawful : IsLawful d c) where
    same_length : {part : Component} → IsLawful d part → HaveOlds c part → (name : ℕ) → IsIn name (names_of part.top) → length_of part.top name ≡ length_of c.top name
    same_length {part} lawful_part olds name h =
        let source = in_map_cases (λ (l : Letter). l.name) name part.top h in
        let old = olds source.0 source.1 in
        ap (length_of part.top) source.2
        ∙ length_of_letter part.top source.0 lawful_part.names source.1
        ∙ old.1.length
        ∙ sym (length_of_letter c.top old.0 lawful.names old.1.there)
        ∙ ap (length_of c.top) (sym (source.2 ∙ old.1.named))

    module _ {left right : Component} (lawful_left : IsLawful d left) (lawful_right : IsLawful d right) (e : IsDivided c left right) where
      -- ---- left ends

      module _ (old first second : List ℕ)
          (same : (name : ℕ) → IsIn name first → length_of left.top name ≡ length_of c.top name)
          (same2 : (name : ℕ) → IsIn name second → length_of right.top name ≡ length_of c.top name)
          (whole : Tiles (quadratic d) (left_in c old) (length_of c.top) c.base (first ++ second) (add c.base c.total))
          (part : Tiles (quadratic d) (left_in left first) (length_of left.top) left.base first (add left.base left.total))
          (part2 : Tiles (quadratic d) (left_in right second) (length_of right.top) right.base second (add right.base right.total)) where
        first_alike : BeginAlike (quadratic d) (left_in c old) (length_of c.top) (left_in left first) (length_of left.top) first second [] (add c.base c.total) (add left.base left.total)
        first_alike =
            begin_alike (quadratic d) (left_in c old) (length_of c.top) (left_in left first) (length_of left.top) c.base (add c.base c.total) (add left.base left.total) first second [] same whole
            (subst (λ row. Tiles (quadratic d) (left_in left first) (length_of left.top) c.base row (add left.base left.total)) (sym (append-nil first))
            (subst (λ y. Tiles (quadratic d) (left_in left first) (length_of left.top) y first (add left.base left.total)) e.base part))

        second_alike : BeginAlike (quadratic d) (left_in c old) (length_of c.top) (left_in right second) (length_of right.top) second [] [] (add c.base c.total) (add right.base right.total)
        second_alike =
            let reached = first_alike.reached in
            let begins : right.base ≡ reached = e.next ∙ ap (λ b. add b left.total) (sym e.base) ∙ first_alike.after2 in
            begin_alike (quadratic d) (left_in c old) (length_of c.top) (left_in right second) (length_of right.top) reached (add c.base c.total) (add right.base right.total) second [] [] same2
            (subst (λ row. Tiles (quadratic d) (left_in c old) (length_of c.top) reached row (add c.base c.total)) (sym (append-nil second)) first_alike.after)
            (subst (λ row. Tiles (quadratic d) (left_in right second) (length_of right.top) reached row (add right.base right.total)) (sym (append-nil second))
            (subst (λ y. Tiles (quadratic d) (left_in right second) (length_of right.top) y second (add right.base right.total)) begins part2))

        rows_alike : ((name : ℕ) → IsIn name first → left_in left first name ≡ left_in c old name) × ((name : ℕ) → IsIn name second → left_in right second name ≡ left_in c old name)
        rows_alike = (first_alike.lefts, second_alike.lefts)

      left_lengths : (name : ℕ) → IsIn name (names_of left.top) → length_of left.top name ≡ length_of c.top name
      left_lengths = same_length lawful_left e.lefts

      right_lengths : (name : ℕ) → IsIn name (names_of right.top) → length_of right.top name ≡ length_of c.top name
      right_lengths = same_length lawful_right e.rights

      top_alike : ((name : ℕ) → IsIn name (names_of left.top) → top_left left name ≡ top_left c name) × ((name : ℕ) → IsIn name (names_of right.top) → top_left right name ≡ top_left c name)
      top_alike =
          rows_alike (names_of c.top) (names_of left.top) (names_of right.top) left_lengths right_lengths
          (subst (λ row. Tiles (quadratic d) (top_left c) (length_of c.top) c.base row (add c.base c.total)) e.top (top_names_tiles L lawful))
          (top_names_tiles L lawful_left) (top_names_tiles L lawful_right)

      bottom_alike : ((name : ℕ) → IsIn name left.bottom → bottom_left left name ≡ bottom_left c name) × ((name : ℕ) → IsIn name right.bottom → bottom_left right name ≡ bottom_left c name)
      bottom_alike =
          rows_alike c.bottom left.bottom right.bottom
          (λ name h. left_lengths name (name_in_top L lawful_left name h)) (λ name h. right_lengths name (name_in_top L lawful_right name h))
          (subst (λ row. Tiles (quadratic d) (bottom_left c) (length_of c.top) c.base row (add c.base c.total)) e.bottom (bottom_tiles L lawful))
          (bottom_tiles L lawful_left) (bottom_tiles L lawful_right)

      -- ---- what the parts take

      stays_in_part : {part : Component} → IsLawful d part → HaveOlds c part
          → ((name : ℕ) → IsIn name (names_of part.top) → top_left part name ≡ top_left c name) → ((name : ℕ) → IsIn name part.bottom → bottom_left part name ≡ bottom_left c name)
          → (letter : Letter) → IsIn letter part.top → (old : Letter) × Stays d c part letter old
      stays_in_part {part} lawful_part olds top bottom letter h =
          let old = olds letter h in
          let there = in_map (λ (l : Letter). l.name) letter part.top h in (
            old.0,
            record {
              there = old.1.there;
              back = old.1.back;
              top = top letter.name there ∙ ap (top_left c) old.1.named;
              bottom = bottom letter.name (name_in_bottom L lawful_part letter.name there) ∙ ap (bottom_left c) old.1.named;
              shorter = order.at_most_of_eq L letter.length old.0.length old.1.length;
            },
          )

      -- each letter of a part has both left ends and the return vector of one before
      pub left_stays : (letter : Letter) → IsIn letter left.top → (old : Letter) × Stays d c left letter old
      left_stays = stays_in_part lawful_left e.lefts top_alike.0 bottom_alike.0

      pub right_stays : (letter : Letter) → IsIn letter right.top → (old : Letter) × Stays d c right letter old
      right_stays = stays_in_part lawful_right e.rights top_alike.1 bottom_alike.1

      taken_once : {part : Component} → ((letter : Letter) → IsIn letter part.top → (old : Letter) × Stays d c part letter old) → (letter : Letter) (y z : Quadratic) → Takes d part letter y z → TakenAs d c part letter y z
      taken_once stays letter y z t = let k = stays letter t.there in once k.0 (taken_by_old L k.0 k.1.there k.1.top k.1.bottom k.1.shorter t) k.1.back

      -- the right part begins where the left one ends
      pub meet : add left.base left.total ≡ right.base
      meet = ap (λ b. add b left.total) e.base ∙ sym e.next

      -- and ends where the whole ends
      pub end_together : add right.base right.total ≡ add c.base c.total
      end_together =
          derived L.ring (right.base ∷ right.total ∷ c.base ∷ c.total ∷ left.total ∷ []) (λ b r c t l. b ⊕ r ≐ c ⊕ t from (numeral 1, b ≐ c ⊕ l) ∷ (numeral 1, l ⊕ r ≐ t) ∷ []) refl (e.next, (e.sum, tt))

      pub taken_by_left : IsTakenFrom d c left
      taken_by_left = record {
        from_left = order.at_most_of_eq L c.base left.base (sym e.base);
        to_right =
            subst (λ y. IsAtMost (quadratic d) (IsPositive d) y (add c.base c.total)) (sym meet)
            (subst (IsAtMost (quadratic d) (IsPositive d) right.base) end_together (begins_before_end lawful_right));
        within = λ letter y z t. (takes_within L lawful_left t).1;
        taken = taken_once left_stays;
      }

      pub taken_by_right : IsTakenFrom d c right
      taken_by_right = record {
        from_left =
            subst (λ y. IsAtMost (quadratic d) (IsPositive d) y right.base) e.base
            (subst (IsAtMost (quadratic d) (IsPositive d) left.base) meet (begins_before_end lawful_left));
        to_right = order.at_most_of_eq L (add right.base right.total) (add c.base c.total) end_together;
        within = λ letter y z t. (takes_within L lawful_right t).1;
        taken = taken_once right_stays;
      }

-- ---- a split

-- an end that isn't real any more changes nothing else of a letter
stays_without_ends : {X : Type 0} (P : Letter → X) → ((l : Letter) → P (record l { start = record l.start { real = false } }) ≡ P l)
    → ((l : Letter) → P (record l { end = record l.end { real = false } }) ≡ P l) → (starting ending : ℕ) (letter : Letter) → P (without_end ending (without_start starting letter)) ≡ P letter
stays_without_ends P at_start at_end starting ending letter =
    choice (without_start starting letter).name ending (record (without_start starting letter) { end = record (without_start starting letter).end { real = false } }) (without_start starting letter)
    (at_end (without_start starting letter))
    ∙ choice letter.name starting (record letter { start = record letter.start { real = false } }) letter (at_start letter)
  where
    choice : (a b : ℕ) (x y : Letter) → P x ≡ P y → P (if a == b then x else y) ≡ P y
    choice a b x y e = elim (a == b) as (λ t. P (if t then x else y) ≡ P y) [ true ↦ e | false ↦ refl ]

-- a split divides a component
pub divided_by_split : {d : ℕ} (L : IsOrderedRing (quadratic d) (IsPositive d)) {c left right : Component} {k : ℕ} {found : Option Found} → IsSplit c k left right found → IsDivided c left right
divided_by_split {d} L {c} {left} {right} {k} {found} s =
    record {
      base = ap (λ (e : Component). e.base) s.left_part;
      next = ap (λ (e : Component). e.base) s.right_part ∙ ap (add c.base) (sym left_total);
      sum =
          (λ i. add (left_total i) (s.right_part i).total)
          ∙ identity L.ring (prefix_sum c k ∷ c.total ∷ []) (λ p t. p ⊕ (t ⊖ p) ≐ t) refl;
      top =
          ap names_of (sym (take-append-drop k c.top)) ∙ map-append (λ (l : Letter). l.name) (take k c.top) (drop k c.top)
          ∙ (λ i. names_of (sym left_top i) ++ sym right_names i);
      bottom = sym (take-append-drop k c.bottom) ∙ (λ i. (sym s.left_part i).bottom ++ (sym s.right_part i).bottom);
      lefts = λ letter h. (letter, record { there = in_left letter (subst (IsIn letter) left_top h); named = refl; length = refl; back = refl });
      rights = λ letter h. old_of (is_some found) letter (subst (IsIn letter) right_top h);
    }
  where
    relabelled : Bool → List Letter
    relabelled b = if b then map (λ letter. without_end s.ending.name (without_start s.starting.name letter)) (drop k c.top) else drop k c.top

    left_total : left.total ≡ prefix_sum c k
    left_total = ap (λ (e : Component). e.total) s.left_part

    left_top : left.top ≡ take k c.top
    left_top = ap (λ (e : Component). e.top) s.left_part

    right_top : right.top ≡ relabelled (is_some found)
    right_top = ap (λ (e : Component). e.top) s.right_part

    names_stay : (letters : List Letter) → names_of (map (λ letter. without_end s.ending.name (without_start s.starting.name letter)) letters) ≡ names_of letters
    names_stay [] = refl
    names_stay (letter ∷ letters) = λ i. stays_without_ends (λ l. l.name) (λ l. refl) (λ l. refl) s.starting.name s.ending.name letter i ∷ names_stay letters i

    right_names : names_of right.top ≡ names_of (drop k c.top)
    right_names = ap names_of right_top ∙ (elim (is_some found) as (λ b. names_of (relabelled b) ≡ names_of (drop k c.top)) [ true ↦ names_stay (drop k c.top) | false ↦ refl ])

    in_left : (letter : Letter) → IsIn letter (take k c.top) → IsIn letter c.top
    in_left letter h = subst (IsIn letter) (take-append-drop k c.top) (in_append_left letter (take k c.top) (drop k c.top) h)

    in_right : (letter : Letter) → IsIn letter (drop k c.top) → IsIn letter c.top
    in_right letter h = subst (IsIn letter) (take-append-drop k c.top) (in_append_right letter (take k c.top) (drop k c.top) h)

    old_of : (b : Bool) (letter : Letter) → IsIn letter (relabelled b) → (old : Letter) × HasOld c letter old
    old_of false letter h = (letter, record { there = in_right letter h; named = refl; length = refl; back = refl })
    old_of true letter h =
        let source = in_map_cases (λ l. without_end s.ending.name (without_start s.starting.name l)) letter (drop k c.top) h in (
          source.0,
          record {
            there = in_right source.0 source.1;
            named = ap (λ (l : Letter). l.name) source.2 ∙ stays_without_ends (λ l. l.name) (λ l. refl) (λ l. refl) s.starting.name s.ending.name source.0;
            length = ap (λ (l : Letter). l.length) source.2 ∙ stays_without_ends (λ l. l.length) (λ l. refl) (λ l. refl) s.starting.name s.ending.name source.0;
            back = ap (λ (l : Letter). l.back) source.2 ∙ stays_without_ends (λ l. l.back) (λ l. refl) (λ l. refl) s.starting.name s.ending.name source.0;
          },
        )
