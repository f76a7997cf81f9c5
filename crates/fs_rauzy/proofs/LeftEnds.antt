-- What letters have after a won comparison or a merge of those before: left ends stay as positions, but for those of one letter.
use Rattle.std.proofs.Common.{◌≡◌, ◌≢◌, ◌⊎◌, ℕ, List, [], ◌∷◌, ◌++◌, refl, sym, ap, ◌∙◌, subst, inl}
use Rattle.std.proofs.lemmas.List.{map-append}
use Rattle.fs_lists.specs.Members.{IsIn, IsDistinct}
use Rattle.fs_ring.specs.OrderedRing.{IsOrderedRing, IsAtMost}
use Rattle.fs_ring.proofs.Order as order
use Rattle.fs_ring.proofs.Signs as signs
use Rattle.fs_ring.proofs.Solver.{identity, ◌⊕◌, ◌⊖◌, ◌≐◌}
use Rattle.fs_quadratic.specs.Ring.{Quadratic, quadratic, IsPositive, add, sub}
use Rattle.fs_plane.specs.Vector.{vector_add}
use Rattle.fs_convex.proofs.Rows.{Tiles}
use Rattle.fs_gluing.specs.Exchanges.{Letter, Component, IsLawful, names_of, length_of, length_before, top_left, bottom_left}
use Rattle.fs_iet.proofs.LetterRows.{row_tiles, total_of_names, length_of_letter, bottom_tiles}
use Rattle.fs_rauzy.specs.Events.{AreLast}
use Rattle.fs_rauzy.proofs.EventRows.{last_in}
use Rattle.fs_rauzy.proofs.RowEnds.{distinct_across}
use Rattle.fs_rauzy.proofs.RowIntervals.{last_ends}

-- ---- letters after an event

module _ (d : ℕ) (c after : Component) where
  -- both left ends and the return vector are those of a letter before, and the length is at most that letter's
  pub record Stays (letter old : Letter) : Type 0 where
    pub there : IsIn old c.top
    pub back : letter.back ≡ old.back
    pub top : top_left after letter.name ≡ top_left c old.name
    pub bottom : bottom_left after letter.name ≡ bottom_left c old.name
    pub shorter : IsAtMost (quadratic d) (IsPositive d) letter.length old.length

  -- it is the end of the last letter of the bottom row, and goes on as the end of the last letter of the top row
  pub record Joins (x y letter : Letter) (cut : Quadratic) : Type 0 where
    pub back : letter.back ≡ vector_add y.back x.back
    pub length : letter.length ≡ cut
    pub top : top_left after letter.name ≡ add (top_left c y.name) (sub y.length cut)
    pub bottom : bottom_left after letter.name ≡ add (bottom_left c x.name) (sub x.length cut)

  -- the component is shorter by a length that both last letters have at their ends, and that one of them has, and each letter stays or joins these ends
  pub record IsShortened : Type 0 where
    pub x : Letter
    pub y : Letter
    pub last : AreLast c x y
    pub cut : Quadratic
    pub long : IsPositive d cut
    pub above : IsAtMost (quadratic d) (IsPositive d) cut x.length
    pub below : IsAtMost (quadratic d) (IsPositive d) cut y.length
    pub exact : (cut ≡ x.length) ⊎ (cut ≡ y.length)
    pub base : after.base ≡ c.base
    pub sum : after.total ≡ sub c.total cut
    pub letters : (letter : Letter) → IsIn letter after.top → ((old : Letter) × Stays letter old) ⊎ Joins x y letter cut

-- ---- rows of names

-- where a name begins in a row of a component
abbrev pub left_in : Component → List ℕ → ℕ → Quadratic
left_in c row name = add c.base (length_before c.top name row)

-- the intervals of these names, which begin where they do in the row, are laid from the component's one end to its other
abbrev pub TilesIn : ℕ → Component → List ℕ → List ℕ → Type 0
TilesIn d c row names = Tiles (quadratic d) (left_in c row) (length_of c.top) c.base names (add c.base c.total)

module _ {d : ℕ} (L : IsOrderedRing (quadratic d) (IsPositive d)) where
  -- ---- sums

  -- what was taken away is added again
  pub sub_add : (a b : Quadratic) → add (sub a b) b ≡ a
  sub_add a b = identity L.ring (a ∷ b ∷ []) (λ a b. (a ⊖ b) ⊕ b ≐ a) refl

  -- the difference of equal lengths adds nothing
  pub add_none : (t a b : Quadratic) → a ≡ b → t ≡ add t (sub a b)
  add_none t a b e = identity L.ring (t ∷ a ∷ []) (λ t a. t ≐ t ⊕ (a ⊖ a)) refl ∙ ap (λ u. add t (sub a u)) e

  -- a difference by a number above 0 isn't greater
  pub sub_at_most : (a b : Quadratic) → IsPositive d b → IsAtMost (quadratic d) (IsPositive d) (sub a b) a
  sub_at_most a b h = order.at_most_of_less L (sub a b) a (signs.positive_by L (a ∷ b ∷ []) (λ a b. a ⊖ (a ⊖ b) ≐ b) refl h)

  -- the names of the top row, one after another
  pub top_names_tiles : {c : Component} → IsLawful d c → TilesIn d c (names_of c.top) (names_of c.top)
  top_names_tiles {c} lawful =
      subst (Tiles (quadratic d) (top_left c) (length_of c.top) c.base (names_of c.top)) (ap (add c.base) (total_of_names c.top lawful.names ∙ lawful.sum))
      (row_tiles L c.top c.base (names_of c.top) lawful.names)

  -- ---- the last letters of both rows

  module _ {c : Component} (lawful : IsLawful d c) {x y : Letter} (last : AreLast c x y) where
    -- the names of the top row, the last one apart
    pub names_top : names_of c.top ≡ names_of last.before_top ++ x.name ∷ []
    names_top = ap names_of last.top ∙ map-append (λ (l : Letter). l.name) last.before_top (x ∷ [])

    -- those before it are others
    pub not_last_above : (name : ℕ) → IsIn name (names_of last.before_top) → name ≢ x.name
    not_last_above name h e = distinct_across (names_of last.before_top) (x.name ∷ []) name (subst (λ (names : List ℕ). IsDistinct names) names_top lawful.names) h (inl e)

    -- their intervals
    pub top_row : TilesIn d c (names_of c.top) (names_of last.before_top ++ x.name ∷ [])
    top_row = subst (TilesIn d c (names_of c.top)) names_top (top_names_tiles lawful)

    -- both end where the component ends
    pub top_ends : add (top_left c x.name) x.length ≡ add c.base c.total
    top_ends =
        ap (add (top_left c x.name)) (sym (length_of_letter c.top x lawful.names (last_in last)))
        ∙ last_ends (quadratic d) (top_left c) (length_of c.top) c.base (add c.base c.total) (names_of last.before_top) x.name top_row

    pub bottom_ends : add (bottom_left c y.name) y.length ≡ add c.base c.total
    bottom_ends =
        ap (add (bottom_left c y.name)) (sym (length_of_letter c.top y lawful.names last.there))
        ∙ last_ends (quadratic d) (bottom_left c) (length_of c.top) c.base (add c.base c.total) last.before_bottom y.name
        (subst (TilesIn d c c.bottom) last.bottom (bottom_tiles L lawful))
