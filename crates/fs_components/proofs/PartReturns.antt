-- A closed component is a part whose letters give first returns, and is of its kind.
use Rattle.std.proofs.Common.{◌≡◌, ◌≢◌, ℕ, zero, suc, List, [], ◌∷◌, length, map, take, Some, refl, sym, ap, ◌∙◌, subst, arith}
use Rattle.std.proofs.lemmas.Option.{same_Some, none-some}
use Rattle.std.specs.List.{slice_get}
use Rattle.fs_lists.proofs.All.{All-map}
use Rattle.fs_ring.specs.OrderedRing.{IsOrderedRing}
use Rattle.fs_ring.proofs.Signs as signs
use Rattle.fs_ring.proofs.Solver.{◌⊕◌, ◌⊖◌, ◌≐◌}
use Rattle.fs_convex.proofs.Rows.{Tiles}
use Rattle.fs_quadratic.specs.Ring.{Quadratic, quadratic, IsPositive, add, total}
use Rattle.fs_quadratic.proofs.Laws.{quadratic_ring}
use Rattle.fs_plane.specs.Vector.{PlaneVector, vector_zero}
use Rattle.fs_gluing.specs.Exchanges.{Letter as Long, Component, IsLawful, Takes, top_left, bottom_left}
use Rattle.fs_gluing.specs.Surface.{GluedPolygons, IsTranslationSurface}
use Rattle.fs_iet.specs.FirstReturns.{IsBetween, IsFirstReturn}
use Rattle.fs_iet.proofs.LetterRows.{top_tiles}
use Rattle.fs_iet.proofs.ListsInTurn.{in_by_number}
use Rattle.fs_iet.proofs.ShiftedIntervals.{moved}
use Rattle.fs_iet.proofs.SideMeasures.{surface_order}
use Rattle.fs_iet.proofs.TakenPositions.{takes_held}
use Rattle.fs_rauzy.specs.declared.parts.Kind.TheVariants.{Cylinder, Looped}
use Rattle.fs_rauzy.specs.declared.parts.Kind.{Kind}
use Rattle.fs_rauzy.specs.declared.parts.Letter.{Letter}
use Rattle.fs_rauzy.specs.declared.parts.Part.{Part}
use Rattle.fs_rauzy.specs.Runs.{part_of}
use Rattle.fs_rauzy.specs.Towers.{HasTowers, IsTouched}
use Rattle.fs_rauzy.proofs.BasesMet.{holds_base}
use Rattle.fs_rauzy.proofs.ClosedComponents.{cylinder_of_component}
use Rattle.fs_rauzy.proofs.PartsMet.{IsClosedAs, IsClosedPart}
use Rattle.fs_components.specs.FlowMeaning.{letter_left, HasReturns, IsOfKind}

-- a letter, as a part keeps it
abbrev pub kept_letter : Long → Letter
kept_letter letter = record { length = letter.length; back = letter.back }

-- a letter of the part is one of the component
letter_at : (letters : List Long) (n : ℕ) (letter : Letter) → slice_get (map kept_letter letters) n ≡ Some letter → (old : Long) × (slice_get letters n ≡ Some old) × (letter ≡ kept_letter old)
letter_at [] n letter e = absurd (none-some letter e)
letter_at (x ∷ xs) zero letter e = (x, refl, sym (same_Some (kept_letter x) letter e))
letter_at (x ∷ xs) (suc n) letter e = letter_at xs n letter e

-- it begins where the ones before it end
left_is : (d : ℕ) (left : Long → Quadratic) (y z : Quadratic) (letters : List Long) (n : ℕ) (old : Long) → Tiles (quadratic d) left (λ l. l.length) y letters z → slice_get letters n ≡ Some old
    → left old ≡ add y (total (map (λ (l : Letter). l.length) (take n (map kept_letter letters))))
left_is d left y z [] n old t e = absurd (none-some old e)
left_is d left y z (x ∷ xs) zero old t e = ap left (sym (same_Some x old e)) ∙ t.0 ∙ sym ((quadratic_ring 0).add_zero y)
left_is d left y z (x ∷ xs) (suc n) old t e =
    left_is d left (add y x.length) z xs n old t.1 e ∙ (quadratic_ring 0).add_assoc y x.length (total (map (λ (l : Letter). l.length) (take n (map kept_letter xs))))

lengths_are : (letters : List Long) → map (λ (l : Letter). l.length) (map kept_letter letters) ≡ map (λ (l : Long). l.length) letters
lengths_are [] = refl
lengths_are (x ∷ xs) = ap (λ (ls : List Quadratic). x.length ∷ ls) (lengths_are xs)

-- a list of one item
pub one_item : {X : Type 0} (xs : List X) → length xs ≡ 1 → (x : X) × (xs ≡ x ∷ [])
one_item [] e = absurd (omega arith)
one_item (x ∷ []) e = (x, refl)
one_item (x ∷ y ∷ xs) e = absurd (omega arith)

module _ (s : GluedPolygons) (v : PlaneVector) (surface : IsTranslationSurface s) (some : v ≢ vector_zero) where
  abbrev L : IsOrderedRing (quadratic s.d) (IsPositive s.d)
  L = surface_order s surface

  module _ (c : Component) (lawful : IsLawful s.d c) (towers : HasTowers s v c) where
    -- a lawful component is long
    wide : IsPositive s.d c.total
    wide = signs.positive_by L (c.base ∷ c.total ∷ []) (λ b t. t ≐ (b ⊕ t) ⊖ b) refl (holds_base L lawful).before_right

    module _ (kind : Kind) where
      back_on_base : (n : ℕ) (letter : Letter) (y : Quadratic) → slice_get (part_of c kind).letters n ≡ Some letter
          → IsBetween s.d (letter_left (part_of c kind) n) (add (letter_left (part_of c kind) n) letter.length) y
          → (m : ℕ) × (z : Quadratic) × IsFirstReturn s v c.base (add c.base c.total) m y z letter.back
      back_on_base n letter y e on =
          let k = letter_at c.top n letter e in
          let old = k.0 in
          let there = in_by_number c.top n old k.1 in
          let tower = towers.tower old there in
          let left : top_left c old.name ≡ letter_left (part_of c kind) n = left_is s.d (λ l. top_left c l.name) c.base (add c.base c.total) c.top n old (top_tiles L lawful) k.1 in
          let on_top : IsBetween s.d (top_left c old.name) (add (top_left c old.name) old.length) y
          = subst (λ l. IsBetween s.d l (add l old.length) y) (sym left) (subst (λ (l : Letter). IsBetween s.d (letter_left (part_of c kind) n) (add (letter_left (part_of c kind) n) l.length) y) k.2 on) in
          let z = moved (quadratic s.d) (top_left c old.name) (bottom_left c old.name) y in
          let t : Takes s.d c old y z = takes_held L lawful old y there (record { from_left = on_top.from_left; before_right = on_top.before_right }) in
          (tower.0, z, subst (λ (l : Letter). IsFirstReturn s v c.base (add c.base c.total) tower.0 y z l.back) (sym k.2) (tower.1.returns y z t))

      part_returns : HasReturns s v (part_of c kind)
      part_returns = record {
        lengths = All-map kept_letter (λ (l : Letter). IsPositive s.d l.length) c.top lawful.lengths;
        cut = ap total (lengths_are c.top) ∙ lawful.sum;
        returns = back_on_base;
      }

    kind_of : IsTouched s v c → (kind : Kind) → IsClosedAs s.d c kind → IsOfKind s v (part_of c kind) kind
    kind_of touched Cylinder one =
        let k = one_item c.top one in
        let found = cylinder_of_component s surface v some c k.0 lawful k.1 towers touched in
        (kept_letter k.0, found.0, ap (map kept_letter) k.1, found.1)
    kind_of touched (Looped from to) h = (h.0, c, h.1, refl, h.2)

  module _ {part : Part} (h : IsClosedPart s v part) where
    -- a part is wide
    pub part_wide : IsPositive s.d part.width
    part_wide = subst (λ (p : Part). IsPositive s.d p.width) (sym h.is) (wide h.component h.lawful h.towers)

    -- its letters give first returns
    pub part_has_returns : HasReturns s v part
    part_has_returns = subst (HasReturns s v) (sym h.is) (part_returns h.component h.lawful h.towers part.kind)

    -- and it is of its kind
    pub part_is_of_kind : IsOfKind s v part part.kind
    part_is_of_kind = subst (λ (p : Part). IsOfKind s v p part.kind) (sym h.is) (kind_of h.component h.lawful h.towers h.touched part.kind h.closed)
