-- A component with one letter: the flow brings each position of its base back to itself, by the return vector of the letter. A library for crates to come.
use Rattle.std.proofs.Common.{◌≡◌, ℕ, ◌<◌, List, [], ◌∷◌, length, refl, sym, ap, ◌∙◌, subst, inl, inr}
use Rattle.fs_lists.specs.Members.{IsIn}
use Rattle.fs_ring.specs.Operations.{Operations}
use Rattle.fs_ring.specs.OrderedRing.{IsOrderedRing, IsAtMost}
use Rattle.fs_ring.proofs.Solver.{expressions as E, identity, derived, ◌⊕◌, ◌⊖◌, ◌≐◌, ◌from◌, numeral}
use Rattle.fs_quadratic.specs.Ring.{Quadratic, quadratic, IsPositive, IsLess, add, sub, zero as nil}
use Rattle.fs_plane.specs.Vector.{PlaneVector}
use Rattle.fs_convex.proofs.Rows.{Tiles}
use Rattle.fs_gluing.specs.CrossingMap.{block_start, Orbit}
use Rattle.fs_gluing.specs.Exchanges.{Letter, Component, IsLawful, names_of, length_of, top_left, bottom_left, Takes}
use Rattle.fs_gluing.specs.Surface.{GluedPolygons, IsTranslationSurface}
use Rattle.fs_iet.specs.FirstReturns.{IsBetween, IsFirstReturn}
use Rattle.fs_iet.proofs.Floors.{IsClear}
use Rattle.fs_iet.proofs.LetterRows.{letter_long, name_in_top, name_in_bottom, top_tiles, bottom_tiles}
use Rattle.fs_iet.proofs.SideMeasures.{surface_order}
use Rattle.fs_rauzy.specs.Towers.{HasTowers}

-- the positions from x on, as many as the width is long, come back to themselves after m crossings and not before, by the vector h; and none strictly inside meets the left end of an outgoing side on the way
pub record IsBand (s : GluedPolygons) (v : PlaneVector) (x width : Quadratic) (m : ℕ) (h : PlaneVector) : Type 0 where
  pub some : 0 < m
  pub wide : IsPositive s.d width
  pub from_zero : IsAtMost (quadratic s.d) (IsPositive s.d) nil x
  pub to_total : IsAtMost (quadratic s.d) (IsPositive s.d) (add x width) (block_start s v (length s.polygons))
  pub closes : (y : Quadratic) → IsBetween s.d x (add x width) y → Orbit s v m y y h
  pub not_before : (y : Quadratic) (i : ℕ) (g : PlaneVector) → IsBetween s.d x (add x width) y → 0 < i → i < m → ¬ Orbit s v i y y g
  pub clear : IsClear s v x width m

-- in a row of one name alone it begins where the row does
one_begins : {A X : Type 0} (R : Operations A) (left len : X → A) (y z : A) (xs : List X) (x : X) → ((w : X) → IsIn w xs → w ≡ x) → IsIn x xs → Tiles R left len y xs z → left x ≡ y
one_begins R left len y z [] x one h t = absurd h
one_begins R left len y z (w ∷ xs) x one h t = ap left (sym (one w (inl refl))) ∙ t.0

-- a letter alone has the only name
name_of_one : (letters : List Letter) (letter : Letter) → letters ≡ letter ∷ [] → (name : ℕ) → IsIn name (names_of letters) → name ≡ letter.name
name_of_one letters letter one name h = elim (subst (λ (ls : List Letter). IsIn name (names_of ls)) one h) [ inl e ↦ e | inr k ↦ absurd k ]

module _ {d : ℕ} (L : IsOrderedRing (quadratic d) (IsPositive d)) {c : Component} (lawful : IsLawful d c) {letter : Letter} (one : c.top ≡ letter ∷ []) where
  -- the letter is in the top row
  pub letter_there : IsIn letter c.top
  letter_there = subst (IsIn letter) (sym one) (inl refl)

  -- the letter begins where the component does, and ends where that does
  pub one_on_top : (top_left c letter.name ≡ c.base) × (add c.base c.total ≡ add c.base letter.length)
  one_on_top =
      subst (λ (letters : List Letter). Tiles (quadratic d) (λ letter. top_left c letter.name) (λ letter. letter.length) c.base letters (add c.base c.total)) one
      (top_tiles L lawful)

  one_length : letter.length ≡ c.total
  one_length = derived L.ring (c.base ∷ c.total ∷ letter.length ∷ []) (λ b t l. l ≐ t from (E.neg (numeral 1), b ⊕ t ≐ b ⊕ l) ∷ []) refl (one_on_top.1, tt)

  -- also in the bottom row
  one_below : bottom_left c letter.name ≡ c.base
  one_below =
      one_begins (quadratic d) (bottom_left c) (length_of c.top) c.base (add c.base c.total) c.bottom letter.name
      (λ name h. name_of_one c.top letter one name (name_in_top L lawful name h))
      (name_in_bottom L lawful letter.name (subst (λ (letters : List Letter). IsIn letter.name (names_of letters)) (sym one) (inl refl)))
      (bottom_tiles L lawful)

  -- so each position is taken to itself
  one_takes : (y : Quadratic) → IsBetween d c.base (add c.base c.total) y → Takes d c letter y y
  one_takes y k = record {
    there = letter_there;
    from_left = subst (λ t. IsAtMost (quadratic d) (IsPositive d) t y) (sym one_on_top.0) k.from_left;
    before_right = subst (IsLess d y) (sym ((λ i. add (one_on_top.0 i) (one_length i)))) k.before_right;
    beyond = identity L.ring (c.base ∷ y ∷ []) (λ b y. y ≐ (y ⊖ b) ⊕ b) refl ∙ (λ i. add (sub y (sym one_on_top.0 i)) (sym one_below i));
  }

module _ (s : GluedPolygons) (surface : IsTranslationSurface s) (v : PlaneVector) where
  -- the base of a component with one letter is a band
  pub band_of_component : (c : Component) (letter : Letter) → IsLawful s.d c → c.top ≡ letter ∷ [] → HasTowers s v c → (m : ℕ) × IsBand s v c.base c.total m letter.back
  band_of_component c letter lawful one towers =
      let L = surface_order s surface in
      let there = letter_there L lawful one in
      let tower = towers.tower letter there in
      let returns : (y : Quadratic) → IsBetween s.d c.base (add c.base c.total) y → IsFirstReturn s v c.base (add c.base c.total) tower.0 y y letter.back =
      λ y k. tower.1.returns y y (one_takes L lawful one y k) in (
        tower.0,
        record {
          some = tower.1.some;
          wide = subst (IsPositive s.d) (one_length L lawful one) (letter_long L lawful letter there);
          from_zero = towers.from_zero;
          to_total = towers.to_total;
          closes = λ y k. (returns y k).orbit;
          not_before = λ y i g k p l o. (returns y k).not_before i y g p l o k;
          clear = λ i y u g l p q o.
              tower.1.clear i y u g l (subst (λ t. IsLess s.d t y) (sym (one_on_top L lawful one).0) p)
              (subst (IsLess s.d y) (λ j. add (sym (one_on_top L lawful one).0 j) (sym (one_length L lawful one) j)) q) o;
        },
      )
