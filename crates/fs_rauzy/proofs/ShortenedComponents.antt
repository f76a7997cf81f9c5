-- A won comparison or a merge shortens the component by a length that both last letters have at their ends.
use Rattle.std.proofs.Common.{◌≡◌, ◌≢◌, ℕ, Option, List, [], ◌∷◌, refl, sym, ap, ◌∙◌, subst, inl, inr, append-nil}
use Rattle.std.proofs.lemmas.List.Sorted.{IsPermutation-sym}
use Rattle.fs_lists.specs.Members.{IsIn, IsDistinct}
use Rattle.fs_lists.proofs.Members.{in_append_left, in_append_cases, in_map}
use Rattle.fs_ring.specs.OrderedRing.{IsOrderedRing, IsAtMost}
use Rattle.fs_ring.proofs.Order as order
use Rattle.fs_ring.proofs.PlaneSolver.{vector_identity, ◌≐ᵥ◌}
use Rattle.fs_ring.proofs.Solver.{expressions as E}
use Rattle.fs_ring.specs.Vector.{add_vector}
use Rattle.fs_quadratic.specs.Ring.{quadratic, IsPositive, add, sub}
use Rattle.fs_convex.proofs.Rows.{Tiles}
use Rattle.fs_gluing.specs.Exchanges.{Letter, Component, IsLawful, names_of, length_of, top_left, bottom_left}
use Rattle.fs_iet.proofs.LetterRows.{length_of_letter, letter_long, name_in_top, name_in_bottom, bottom_distinct, bottom_tiles}
use Rattle.fs_iet.proofs.Rearrangements.{in_permutation}
use Rattle.fs_rauzy.specs.declared.events.Found.{Found}
use Rattle.fs_rauzy.specs.Events.{won_over, lost_above, lost_below, merged_of, IsWonByTop, IsWonByBottom, IsMerged}
use Rattle.fs_rauzy.proofs.EventRows.{last_in}
use Rattle.fs_rauzy.proofs.LeftEnds.{IsShortened, TilesIn, sub_add, add_none, sub_at_most, top_names_tiles, names_top, not_last_above, top_row}
use Rattle.fs_rauzy.proofs.LetterChanges.{with_letter-names}
use Rattle.fs_rauzy.proofs.NamedLetters.{length_of_new, length_of_others, in_with_cases, same_name_or_not, length_of_rearranged, names_after, length_of_winner, length_of_rest, in_after_cases}
use Rattle.fs_rauzy.proofs.NameRows.{kept_row, moved_row, put_row}
use Rattle.fs_rauzy.proofs.RowEnds.{distinct_left, moved_permutation, moved_names}
use Rattle.fs_rauzy.proofs.RowIntervals.{begin_alike}

module _ {d : ℕ} (L : IsOrderedRing (quadratic d) (IsPositive d)) {c after : Component} (lawful : IsLawful d c) (lawful_after : IsLawful d after) where
  -- ---- names

  name_there : (letter : Letter) → IsIn letter c.top → IsIn letter.name (names_of c.top)
  name_there letter h = in_map (λ (l : Letter). l.name) letter c.top h

  name_below : (letter : Letter) → IsIn letter c.top → IsIn letter.name c.bottom
  name_below letter h = name_in_bottom L lawful letter.name (name_there letter h)

  -- ---- the last letter of the top row wins

  module _ (w : IsWonByTop d c after) where
    top_length_x : length_of after.top w.x.name ≡ sub w.x.length w.y.length
    top_length_x =
        ap (λ letters. length_of letters w.x.name) w.top
        ∙ length_of_winner c.top lawful.names w.x w.y (lost_below w.x w.y) (last_in w.last) w.last.there w.last.differ refl refl

    top_rest : (name : ℕ) → IsIn name (names_of c.top) → name ≢ w.x.name → length_of after.top name ≡ length_of c.top name
    top_rest name h n =
        ap (λ letters. length_of letters name) w.top
        ∙ length_of_rest c.top lawful.names w.x w.y (lost_below w.x w.y) (last_in w.last) w.last.there w.last.differ refl refl name n

    top_names : names_of after.top ≡ names_of c.top
    top_names = ap names_of w.top ∙ names_after (lost_below w.x w.y) (won_over w.x w.y) c.top

    top_shorter : add (length_of after.top w.x.name) (length_of after.top w.y.name) ≡ length_of c.top w.x.name
    top_shorter =
        (λ i. add (top_length_x i) (length_y i)) ∙ sub_add L w.x.length w.y.length ∙ sym (length_of_letter c.top w.x lawful.names (last_in w.last))
      where
        length_y : length_of after.top w.y.name ≡ w.y.length
        length_y = top_rest w.y.name (name_there w.y w.last.there) (λ e. w.last.differ (sym e)) ∙ length_of_letter c.top w.y lawful.names w.last.there

    top_stays : (name : ℕ) → IsIn name (names_of c.top) → top_left after name ≡ top_left c name
    top_stays name h =
        kept_row L c after w.base w.x.name w.y.name top_rest (names_of c.top) (names_of after.top) lawful.names (top_names_tiles L lawful) (top_names_tiles L lawful_after) (λ name h. h)
        (names_of w.last.before_top) (names_top L lawful w.last) top_names name h

    bottom_moves : ((name : ℕ) → IsIn name c.bottom → name ≢ w.y.name → bottom_left after name ≡ bottom_left c name)
        × (bottom_left after w.y.name ≡ add (bottom_left c w.x.name) (length_of after.top w.x.name))
    bottom_moves =
        moved_row L c after w.base w.x.name w.y.name top_rest c.bottom after.bottom (bottom_distinct L lawful) (bottom_tiles L lawful) (bottom_tiles L lawful_after) (name_in_top L lawful)
        w.bottom.left w.bottom.right w.bottom.was w.bottom.becomes top_shorter

    -- the component is shorter by the last letter of the bottom row
    pub shortened_by_top : IsShortened d c after
    shortened_by_top = record {
      x = w.x;
      y = w.y;
      last = w.last;
      cut = w.y.length;
      long = letter_long L lawful w.y w.last.there;
      above = order.at_most_of_less L w.y.length w.x.length w.longer;
      below = order.at_most_refl L w.y.length;
      exact = inr refl;
      base = w.base;
      sum = w.sum;
      letters = λ letter h.
          elim (in_after_cases c.top lawful.names w.x w.y (lost_below w.x w.y) (last_in w.last) w.last.there w.last.differ refl refl letter (subst (IsIn letter) w.top h)) [
            | inl e ↦ inr (record {
              back = ap (λ (l : Letter). l.back) e;
              length = ap (λ (l : Letter). l.length) e;
              top = ap (λ (l : Letter). top_left after l.name) e ∙ top_stays w.y.name (name_there w.y w.last.there) ∙ add_none L (top_left c w.y.name) w.y.length w.y.length refl;
              bottom = ap (λ (l : Letter). bottom_left after l.name) e ∙ bottom_moves.1 ∙ ap (add (bottom_left c w.x.name)) top_length_x;
            })
            | inr k ↦ elim k [
              | inl e ↦ inl (
                w.x,
                record {
                  there = last_in w.last;
                  back = ap (λ (l : Letter). l.back) e;
                  top = ap (λ (l : Letter). top_left after l.name) e ∙ top_stays w.x.name (name_there w.x (last_in w.last));
                  bottom = ap (λ (l : Letter). bottom_left after l.name) e ∙ bottom_moves.0 w.x.name (name_below w.x (last_in w.last)) w.last.differ;
                  shorter =
                      subst (λ l. IsAtMost (quadratic d) (IsPositive d) l w.x.length) (sym (ap (λ (l : Letter). l.length) e))
                      (sub_at_most L w.x.length w.y.length (letter_long L lawful w.y w.last.there));
                },
              )
              | inr m ↦ inl (
                letter,
                record {
                  there = m.0;
                  back = refl;
                  top = top_stays letter.name (name_there letter m.0);
                  bottom = bottom_moves.0 letter.name (name_below letter m.0) m.2;
                  shorter = order.at_most_refl L letter.length;
                },
              )
            ]
          ];
    }

  -- ---- the last letter of the bottom row wins

  module _ (w : IsWonByBottom d c after) where
    other_way : w.y.name ≢ w.x.name
    other_way e = w.last.differ (sym e)

    bottom_names : names_of after.top ≡ names_of w.row
    bottom_names = ap names_of w.top ∙ names_after (lost_above w.y w.x) (won_over w.y w.x) w.row

    row_apart : IsDistinct (names_of w.row)
    row_apart = subst (λ (names : List ℕ). IsDistinct names) bottom_names lawful_after.names

    in_row : (letter : Letter) → IsIn letter c.top → IsIn letter w.row
    in_row letter h = in_permutation letter c.top w.row (moved_permutation w.moved) h

    in_top : (letter : Letter) → IsIn letter w.row → IsIn letter c.top
    in_top letter h = in_permutation letter w.row c.top (IsPermutation-sym c.top w.row (moved_permutation w.moved)) h

    x_in_row : IsIn w.x w.row
    x_in_row = in_row w.x (last_in w.last)

    y_in_row : IsIn w.y w.row
    y_in_row = in_row w.y w.last.there

    bottom_length_y : length_of after.top w.y.name ≡ sub w.y.length w.x.length
    bottom_length_y =
        ap (λ letters. length_of letters w.y.name) w.top
        ∙ length_of_winner w.row row_apart w.y w.x (lost_above w.y w.x) y_in_row x_in_row other_way refl refl

    bottom_rest : (name : ℕ) → IsIn name (names_of c.top) → name ≢ w.y.name → length_of after.top name ≡ length_of c.top name
    bottom_rest name h n =
        ap (λ letters. length_of letters name) w.top
        ∙ length_of_rest w.row row_apart w.y w.x (lost_above w.y w.x) y_in_row x_in_row other_way refl refl name n
        ∙ length_of_rearranged c.top w.row lawful.names row_apart in_row name h

    bottom_shorter : add (length_of after.top w.y.name) (length_of after.top w.x.name) ≡ length_of c.top w.y.name
    bottom_shorter =
        (λ i. add (bottom_length_y i) (length_x i)) ∙ sub_add L w.y.length w.x.length ∙ sym (length_of_letter c.top w.y lawful.names w.last.there)
      where
        length_x : length_of after.top w.x.name ≡ w.x.length
        length_x =
            bottom_rest w.x.name (name_there w.x (last_in w.last)) w.last.differ
            ∙ length_of_letter c.top w.x lawful.names (last_in w.last)

    bottom_stays : (name : ℕ) → IsIn name c.bottom → bottom_left after name ≡ bottom_left c name
    bottom_stays name h =
        kept_row L c after w.base w.y.name w.x.name bottom_rest c.bottom after.bottom (bottom_distinct L lawful) (bottom_tiles L lawful) (bottom_tiles L lawful_after) (name_in_top L lawful)
        w.last.before_bottom w.last.bottom w.bottom name h

    top_moves : ((name : ℕ) → IsIn name (names_of c.top) → name ≢ w.x.name → top_left after name ≡ top_left c name)
        × (top_left after w.x.name ≡ add (top_left c w.y.name) (length_of after.top w.y.name))
    top_moves =
        moved_row L c after w.base w.y.name w.x.name bottom_rest (names_of c.top) (names_of after.top) lawful.names (top_names_tiles L lawful) (top_names_tiles L lawful_after) (λ name h. h)
        (moved_names w.moved).left (moved_names w.moved).right (moved_names w.moved).was (bottom_names ∙ (moved_names w.moved).becomes) bottom_shorter

    -- the component is shorter by the last letter of the top row
    pub shortened_by_bottom : IsShortened d c after
    shortened_by_bottom = record {
      x = w.x;
      y = w.y;
      last = w.last;
      cut = w.x.length;
      long = letter_long L lawful w.x (last_in w.last);
      above = order.at_most_refl L w.x.length;
      below = order.at_most_of_less L w.x.length w.y.length w.longer;
      exact = inl refl;
      base = w.base;
      sum = w.sum;
      letters = λ letter h.
          elim (in_after_cases w.row row_apart w.y w.x (lost_above w.y w.x) y_in_row x_in_row other_way refl refl letter (subst (IsIn letter) w.top h)) [
            | inl e ↦ inr (record {
              back =
                  ap (λ (l : Letter). l.back) e
                  ∙ vector_identity L.ring [] (w.x.back ∷ w.y.back ∷ []) (λ a b. add_vector E a b ≐ᵥ add_vector E b a) refl;
              length = ap (λ (l : Letter). l.length) e;
              top = ap (λ (l : Letter). top_left after l.name) e ∙ top_moves.1 ∙ ap (add (top_left c w.y.name)) bottom_length_y;
              bottom =
                  ap (λ (l : Letter). bottom_left after l.name) e ∙ bottom_stays w.x.name (name_below w.x (last_in w.last))
                  ∙ add_none L (bottom_left c w.x.name) w.x.length w.x.length refl;
            })
            | inr k ↦ elim k [
              | inl e ↦ inl (
                w.y,
                record {
                  there = w.last.there;
                  back = ap (λ (l : Letter). l.back) e;
                  top = ap (λ (l : Letter). top_left after l.name) e ∙ top_moves.0 w.y.name (name_there w.y w.last.there) other_way;
                  bottom = ap (λ (l : Letter). bottom_left after l.name) e ∙ bottom_stays w.y.name (name_below w.y w.last.there);
                  shorter =
                      subst (λ l. IsAtMost (quadratic d) (IsPositive d) l w.y.length) (sym (ap (λ (l : Letter). l.length) e))
                      (sub_at_most L w.y.length w.x.length (letter_long L lawful w.x (last_in w.last)));
                },
              )
              | inr m ↦ inl (
                letter,
                record {
                  there = in_top letter m.0;
                  back = refl;
                  top = top_moves.0 letter.name (name_there letter (in_top letter m.0)) m.2;
                  bottom = bottom_stays letter.name (name_below letter (in_top letter m.0));
                  shorter = order.at_most_refl L letter.length;
                },
              )
            ]
          ];
    }

  -- ---- the last letters merge

  module _ {found : Option Found} (w : IsMerged c after found) where
    before_apart : IsDistinct (names_of w.last.before_top)
    before_apart = distinct_left (names_of w.last.before_top) (w.x.name ∷ []) (subst (λ (names : List ℕ). IsDistinct names) (names_top L lawful w.last) lawful.names)

    in_c : (letter : Letter) → IsIn letter w.last.before_top → IsIn letter c.top
    in_c letter h = subst (IsIn letter) (sym w.last.top) (in_append_left letter w.last.before_top (w.x ∷ []) h)

    before_or_x : (name : ℕ) → IsIn name (names_of c.top) → name ≢ w.x.name → IsIn name (names_of w.last.before_top)
    before_or_x name h n = elim (in_append_cases name (names_of w.last.before_top) (w.x.name ∷ []) (subst (IsIn name) (names_top L lawful w.last) h)) [
      | inl k ↦ k
      | inr k ↦ elim k [ inl e ↦ absurd (n e) | inr m ↦ absurd m ]
    ]

    y_before : IsIn w.y.name (names_of w.last.before_top)
    y_before = before_or_x w.y.name (name_there w.y w.last.there) (λ e. w.last.differ (sym e))

    merged_length_y : length_of after.top w.y.name ≡ w.y.length
    merged_length_y = ap (λ letters. length_of letters w.y.name) w.top ∙ length_of_new (merged_of w.x w.y) w.last.before_top y_before

    merged_rest : (name : ℕ) → IsIn name (names_of c.top) → name ≢ w.x.name → length_of after.top name ≡ length_of c.top name
    merged_rest name h n = elim (same_name_or_not name w.y.name) [
      | inl e ↦ ap (length_of after.top) e ∙ merged_length_y ∙ sym (length_of_letter c.top w.y lawful.names w.last.there) ∙ ap (length_of c.top) (sym e)
      | inr m ↦
          ap (λ letters. length_of letters name) w.top
          ∙ length_of_others (merged_of w.x w.y) w.last.before_top name m
          ∙ sym (length_of_rearranged w.last.before_top c.top before_apart lawful.names in_c name (before_or_x name h n))
    ]

    merged_top : (name : ℕ) → IsIn name (names_of c.top) → name ≢ w.x.name → top_left after name ≡ top_left c name
    merged_top name h n =
        let names = names_of w.last.before_top in
        let same : names_of after.top ≡ names = ap names_of w.top ∙ with_letter-names (merged_of w.x w.y) w.last.before_top in
        let v =
        subst (λ y. Tiles (quadratic d) (top_left after) (length_of after.top) y names (add after.base after.total)) w.base
        (subst (TilesIn d after (names_of after.top)) same (top_names_tiles L lawful_after)) in
        (begin_alike (quadratic d) (top_left c) (length_of c.top) (top_left after) (length_of after.top) c.base (add c.base c.total) (add after.base after.total)
        names (w.x.name ∷ []) []
        (λ other k. merged_rest other (in_c_name other k) (not_last_above L lawful w.last other k))
        (top_row L lawful w.last)
        (subst (λ row. Tiles (quadratic d) (top_left after) (length_of after.top) c.base row (add after.base after.total)) (sym (append-nil names)) v)).lefts
        name (before_or_x name h n)
      where
        in_c_name : (other : ℕ) → IsIn other (names_of w.last.before_top) → IsIn other (names_of c.top)
        in_c_name other k = subst (IsIn other) (sym (names_top L lawful w.last)) (in_append_left other (names_of w.last.before_top) (w.x.name ∷ []) k)

    bottom_put : ((name : ℕ) → IsIn name c.bottom → name ≢ w.x.name → name ≢ w.y.name → bottom_left after name ≡ bottom_left c name)
        × (bottom_left after w.y.name ≡ bottom_left c w.x.name)
    bottom_put =
        put_row L c after w.base w.x.name w.y.name merged_rest c.bottom after.bottom (bottom_distinct L lawful) (bottom_tiles L lawful) (bottom_tiles L lawful_after) (name_in_top L lawful)
        w.bottom.left w.bottom.right w.bottom.was w.bottom.becomes
        (merged_length_y ∙ sym w.equal ∙ sym (length_of_letter c.top w.x lawful.names (last_in w.last)))

    -- the component is shorter by the last letter of the top row
    pub shortened_by_merge : IsShortened d c after
    shortened_by_merge = record {
      x = w.x;
      y = w.y;
      last = w.last;
      cut = w.x.length;
      long = letter_long L lawful w.x (last_in w.last);
      above = order.at_most_refl L w.x.length;
      below = order.at_most_of_eq L w.x.length w.y.length w.equal;
      exact = inl refl;
      base = w.base;
      sum = w.sum;
      letters = λ letter h. elim (in_with_cases (merged_of w.x w.y) w.last.before_top letter (subst (IsIn letter) w.top h)) [
        | inl e ↦ inr (record {
          back = ap (λ (l : Letter). l.back) e;
          length = ap (λ (l : Letter). l.length) e ∙ sym w.equal;
          top =
              ap (λ (l : Letter). top_left after l.name) e ∙ merged_top w.y.name (name_there w.y w.last.there) (λ f. w.last.differ (sym f))
              ∙ add_none L (top_left c w.y.name) w.y.length w.x.length (sym w.equal);
          bottom = ap (λ (l : Letter). bottom_left after l.name) e ∙ bottom_put.1 ∙ add_none L (bottom_left c w.x.name) w.x.length w.x.length refl;
        })
        | inr m ↦
            let n = not_last_above L lawful w.last letter.name (in_map (λ (l : Letter). l.name) letter w.last.before_top m.0) in
            inl (
              letter,
              record {
                there = in_c letter m.0;
                back = refl;
                top = merged_top letter.name (name_there letter (in_c letter m.0)) n;
                bottom = bottom_put.0 letter.name (name_below letter (in_c letter m.0)) n m.1;
                shorter = order.at_most_refl L letter.length;
              },
            )
      ];
    }
