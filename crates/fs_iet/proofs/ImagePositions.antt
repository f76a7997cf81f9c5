-- The image of a position that is computed by a component's lengths is where the component takes the position.
use Rattle.std.proofs.Common.{◌≡◌, ◌≢◌, ℕ, ◌+◌, if◌then◌else◌, Bool, true, false, Result, Ok, Err, IfOk, List, [], ◌∷◌, refl, sym, ap, ◌∙◌, subst, inl, inr}
use Rattle.std.proofs.lemmas.Bool.Decides.{eqb_tells}
use Rattle.fs_lists.specs.Members.{IsIn}
use Rattle.fs_ring.specs.OrderedRing.{IsOrderedRing, IsAtMost}
use Rattle.fs_ring.proofs.RingLaws as ring_laws
use Rattle.fs_ring.proofs.Signs as signs
use Rattle.fs_ring.proofs.Solver.{identity, derived, ◌⊕◌, ◌⊖◌, ◌≐◌, ◌from◌, numeral}
use Rattle.fs_quadratic.specs.Checked.{step, ◌>>=◌, checked_sum, checked_difference}
use Rattle.fs_quadratic.specs.Radicand.{IsNoSquare}
use Rattle.fs_quadratic.specs.Ring.{Quadratic, quadratic, IsPositive, IsLess, add, sub, zero as nil}
use Rattle.fs_quadratic.specs.Width.{is_fitting}
use Rattle.fs_quadratic.specs.declared.steps.Place.{Place}
use Rattle.fs_quadratic.proofs.Laws.{quadratic_ring, quadratic_order}
use Rattle.fs_plane.specs.declared.corners.Corner.{Corner}
use Rattle.fs_plane.specs.Vector.{PlaneVector, vector_zero}
use Rattle.fs_plane.proofs.ComputedSigns.{after_value}
use Rattle.fs_convex.proofs.Rows.{Tiles}
use Rattle.fs_gluing.specs.CrossingMap.{Crosses}
use Rattle.fs_gluing.specs.Exchanges.{Letter, Component, IsLawful, length_of, length_before, top_left, Takes, IsExchange}
use Rattle.fs_gluing.specs.Surface.{GluedPolygons, IsTranslationSurface}
use Rattle.fs_iet.specs.Images.{Offset, letter_at, bottom_position, image}
use Rattle.fs_iet.proofs.ComputedMeasures.{choice_by_comparison}
use Rattle.fs_iet.proofs.LetterRows.{top_tiles}
use Rattle.fs_iet.proofs.SideMeasures.{surface_no_square}
use Rattle.fs_iet.proofs.ExchangeRows.{exchange_lawful}
use Rattle.fs_iet.proofs.ExchangeCrossings.{crosses_of_takes}

-- a step that gives a value gives its exact one
step_gives : {A : Type 0} (n : ℕ) (test : Bool) (value x : A) → step n test value ≡ Ok x → x ≡ value
step_gives n true value x e = let h : Ok value ≡ Ok x = e in cc
step_gives n false value x e = absurd cc

-- ---- the place in the bottom row

-- the computed sum is the sum of the lengths before the name
pub bottom_position_is : (letters : List Letter) (n name : ℕ) (y z : Quadratic) (row : List ℕ) → bottom_position letters n name y row ≡ Ok z → z ≡ add y (length_before letters name row)
bottom_position_is letters n name y z [] e = value_is e ∙ sym ((quadratic_ring 0).add_zero y)
  where
    value_is : ◌≡◌ {A = Result Quadratic Place} (Ok y) (Ok z) → z ≡ y
    value_is h = cc
bottom_position_is letters n name y z (other ∷ row) e = elim (eqb_tells other name) [
  | inl h ↦
      value_is (sym (ap (λ t. if t then ok else later) h.0) ∙ e) ∙ sym ((quadratic_ring 0).add_zero y)
      ∙ ap (add y) (sym (ap (λ t. if t then nil else add (length_of letters other) (length_before letters name row)) h.0))
  | inr h ↦
      let found = after_value (checked_sum (513 + n) y (length_of letters other)) (λ sum. bottom_position letters (n + 1) name sum row) z (sym (ap (λ t. if t then ok else later) h.0) ∙ e) in
      let sum = step_gives (513 + n) (is_fitting (add y (length_of letters other))) (add y (length_of letters other)) found.0 found.1 in
      bottom_position_is letters (n + 1) name found.0 z row found.2
      ∙ ap (λ x. add x (length_before letters name row)) sum
      ∙ (quadratic_ring 0).add_assoc y (length_of letters other) (length_before letters name row)
      ∙ ap (add y) (sym (ap (λ t. if t then nil else add (length_of letters other) (length_before letters name row)) h.0))
]
  where
    ok : Result Quadratic Place
    ok = Ok y

    later : Result Quadratic Place
    later = checked_sum (513 + n) y (length_of letters other) >>= (λ sum. bottom_position letters (n + 1) name sum row)

    value_is : ok ≡ Ok z → z ≡ y
    value_is h = cc

-- ---- the letter in the top row

-- a letter of a row holds a position that is so far right of the beginning of the row
pub record IsOffsetIn (d : ℕ) (left : Letter → Quadratic) (base y : Quadratic) (letters : List Letter) (at : Offset) : Type 0 where
  pub letter : Letter
  pub there : IsIn letter letters
  pub named : at.name ≡ letter.name
  pub from_zero : IsAtMost (quadratic d) (IsPositive d) nil at.offset
  pub below_length : IsLess d at.offset letter.length
  pub is : add (left letter) at.offset ≡ add base y

-- a letter of the rest of a row is one of the row
offset_later : {d : ℕ} (left : Letter → Quadratic) (b base x y : Quadratic) (first : Letter) (letters : List Letter) (at : Offset) → IsOffsetIn d left b x letters at → add b x ≡ add base y
    → IsOffsetIn d left base y (first ∷ letters) at
offset_later left b base x y first letters at o same =
    record { letter = o.letter; there = inr o.there; named = o.named; from_zero = o.from_zero; below_length = o.below_length; is = o.is ∙ same }

module _ {d : ℕ} (no_square : IsNoSquare d) where
  abbrev L : IsOrderedRing (quadratic d) (IsPositive d)
  L = quadratic_order no_square

  abbrev len : Letter → Quadratic
  len letter = letter.length

  after_length : (b l y r : Quadratic) → r ≡ sub y l → add (add b l) r ≡ add b y
  after_length b l y r e = ap (add (add b l)) e ∙ identity L.ring (b ∷ l ∷ y ∷ []) (λ b l y. (b ⊕ l) ⊕ (y ⊖ l) ≐ b ⊕ y) refl

  -- the computed letter holds the position
  pub letter_at_holds : (left : Letter → Quadratic) (n : ℕ) (base end y : Quadratic) (letters : List Letter) (at : Offset) → Tiles (quadratic d) left len base letters end
      → IsAtMost (quadratic d) (IsPositive d) nil y → IsLess d (add base y) end → letter_at d n y letters ≡ Ok at → IsOffsetIn d left base y letters at
  letter_at_holds left n base end y [] at t h k e =
      absurd (h (signs.positive_by L (base ∷ y ∷ []) (λ b y. numeral 0 ⊖ y ≐ b ⊖ (b ⊕ y)) refl (subst (IsLess d (add base y)) t k)))
  letter_at_holds left n base end y (letter ∷ letters) at t h k e = elim (choice_by_comparison no_square y letter.length here later) [
    | inl m ↦
        let same : record { name = letter.name; offset = y } ≡ at = value_is (sym m.1 ∙ e) in
        record {
          letter = letter;
          there = inl refl;
          named = sym (ap (λ (o : Offset). o.name) same);
          from_zero = subst (λ (o : Offset). IsAtMost (quadratic d) (IsPositive d) nil o.offset) same h;
          below_length = subst (λ (o : Offset). IsLess d o.offset letter.length) same m.0;
          is = (λ i. add (t.0 i) (sym same i).offset);
        }
    | inr m ↦
        let found = after_value (checked_difference (1 + n) y letter.length) (λ rest. letter_at d (n + 1) rest letters) at (sym m.1 ∙ e) in
        let rest = step_gives (1 + n) (is_fitting (sub y letter.length)) (sub y letter.length) found.0 found.1 in
        let same = after_length base letter.length y found.0 rest in
        let o = letter_at_holds left (n + 1) (add base letter.length) end found.0 letters at t.1
        (subst (IsAtMost (quadratic d) (IsPositive d) nil) (sym rest)
        (λ q. m.0 (signs.positive_by L (y ∷ letter.length ∷ []) (λ y l. l ⊖ y ≐ numeral 0 ⊖ (y ⊖ l)) refl q)))
        (subst (λ x. IsLess d x end) (sym same) k) found.2 in
        offset_later left (add base letter.length) base found.0 y letter letters at o same
  ]
    where
      here : Result Offset Place
      here = Ok (record { name = letter.name; offset = y })

      later : Result Offset Place
      later = checked_difference (1 + n) y letter.length >>= (λ rest. letter_at d (n + 1) rest letters)

      value_is : here ≡ Ok at → record { name = letter.name; offset = y } ≡ at
      value_is h = cc

  -- ---- the image

  -- a position that is so far right of the base is taken as far right of it as its image says
  pub image_taken : {c : Component} → IsLawful d c → (y z : Quadratic) → IsAtMost (quadratic d) (IsPositive d) nil y → IsLess d y c.total → image d c y ≡ Ok z
      → (letter : Letter) × Takes d c letter (add c.base y) (add c.base z)
  unfolding image
  image_taken {c} lawful y z h k e =
      let found = after_value (letter_at d 0 y c.top) (λ at. bottom_position c.top 0 at.name at.offset c.bottom) z e in
      let at = found.0 in
      let top : Letter → Quadratic = λ letter. top_left c letter.name in
      let o = letter_at_holds top 0 c.base (add c.base c.total) y c.top at (top_tiles L lawful) h
      (signs.positive_by L (c.base ∷ y ∷ c.total ∷ []) (λ b y t. (b ⊕ t) ⊖ (b ⊕ y) ≐ t ⊖ y) refl k) found.1 in
      let letter = o.letter in
      let before = length_before c.top letter.name c.bottom in
      let sum : z ≡ add at.offset before =
      bottom_position_is c.top 0 at.name at.offset z c.bottom found.2 ∙ ap (λ (m : ℕ). add at.offset (length_before c.top m c.bottom)) o.named in (
        letter,
        record {
          there = o.there;
          from_left =
              subst (IsAtMost (quadratic d) (IsPositive d) (top letter)) o.is
              (λ q. o.from_zero (signs.positive_by L (top letter ∷ at.offset ∷ []) (λ t x. numeral 0 ⊖ x ≐ t ⊖ (t ⊕ x)) refl q));
          before_right =
              subst (λ x. IsLess d x (add (top letter) letter.length)) o.is
              (signs.positive_by L (top letter ∷ at.offset ∷ letter.length ∷ []) (λ t x l. (t ⊕ l) ⊖ (t ⊕ x) ≐ l ⊖ x) refl o.below_length);
          beyond =
              derived L.ring (c.base ∷ y ∷ z ∷ top letter ∷ at.offset ∷ before ∷ [])
              (λ b y z t x l. b ⊕ z ≐ ((b ⊕ y) ⊖ t) ⊕ (b ⊕ l) from (numeral 1, z ≐ x ⊕ l) ∷ (numeral 1, t ⊕ x ≐ b ⊕ y) ∷ []) refl (sum, (o.is, tt));
        },
      )

-- the image of a position under the exchange of a flow is where the flow is after the next crossing
pub image_crosses : (s : GluedPolygons) → IsTranslationSurface s → (v : PlaneVector) → v ≢ vector_zero → (c : Component) → IsExchange s v c → (y z : Quadratic)
    → IsAtMost (quadratic s.d) (IsPositive s.d) nil y → IsLess s.d y c.total → image s.d c y ≡ Ok z → (h : PlaneVector) × (f : Corner) × Crosses s v y z h f
image_crosses s surface v some c exchange y z h k e =
    let t = image_taken (surface_no_square s surface) (exchange_lawful s surface v some exchange) y z h k e in
    let at_zero : (x : Quadratic) → add c.base x ≡ x = λ x. ap (λ b. add b x) exchange.base ∙ ring_laws.zero_add (quadratic_ring 0) x in
    let crosses = crosses_of_takes s surface v some exchange (subst (λ x. Takes s.d c t.0 x z) (at_zero y) (subst (Takes s.d c t.0 (add c.base y)) (at_zero z) t.1)) in
    (t.0.back, crosses.0, crosses.1)

-- the clause of `Exchange::image` on crossings follows from its formula
pub image_crossing : (d : ℕ) (c : Component) (y : Quadratic) (result : Result Quadratic Place) → result ≡ image d c y → IsAtMost (quadratic d) (IsPositive d) nil y → IsLess d y c.total
    → (s : GluedPolygons) (v : PlaneVector) → IsTranslationSurface s → v ≢ vector_zero → s.d ≡ d → IsExchange s v c → IfOk result (λ z. (h : PlaneVector) × (f : Corner) × Crosses s v y z h f)
image_crossing d c y result formula h k s v surface some same exchange = go result formula
  where
    go : (r : Result Quadratic Place) → r ≡ image d c y → IfOk r (λ z. (h : PlaneVector) × (f : Corner) × Crosses s v y z h f)
    go (Err stop) e = tt
    go (Ok z) e =
        image_crosses s surface v some c exchange y z
        (subst (λ (d : ℕ). IsAtMost (quadratic d) (IsPositive d) nil y) (sym same) h) (subst (λ (d : ℕ). IsLess d y c.total) (sym same) k)
        (ap (λ (d : ℕ). image d c y) same ∙ sym e)
