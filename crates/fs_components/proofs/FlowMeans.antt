-- What the decomposition of a flow means: its parts fill the surface, and each is what it is said to be.
use Rattle.std.proofs.Common.{◌≡◌, ◌≢◌, ◌⊎◌, ℕ, ◌<◌, Result, Ok, List, [], ◌∷◌, ◌++◌, length, map, refl, sym, ap, ◌∙◌, subst, inl, inr, arith}
use Rattle.std.proofs.lemmas.Int.{ints}
use Rattle.std.specs.List.{AllByRecursion}
use Rattle.std.specs.Prelude.{unsigned_abs}
use Rattle.fs_lists.specs.Members.{IsIn, IsDistinct}
use Rattle.fs_lists.proofs.Members.{in_map, in_map_cases}
use Rattle.fs_ring.specs.OrderedRing.{IsAtMost}
use Rattle.fs_quadratic.specs.Ring.{Quadratic, quadratic, IsPositive, add, mul, total, zero as nil}
use Rattle.fs_quadratic.specs.declared.steps.Place.{Place}
use Rattle.fs_quadratic.proofs.Laws.{quadratic_ring}
use Rattle.fs_quadratic.proofs.SquareRoot.{radicand_no_square}
use Rattle.fs_plane.specs.Vector.{PlaneVector, vector_zero, norm, dot}
use Rattle.fs_gluing.specs.CrossingMap.{block_start, IsPosition}
use Rattle.fs_gluing.specs.Exchanges.{Component, IsExchange}
use Rattle.fs_gluing.specs.Surface.{GluedPolygons, IsSurface}
use Rattle.fs_iet.specs.ExchangeSites.{GivesExchange, exchanged}
use Rattle.fs_iet.proofs.SideMeasures.{surface_order}
use Rattle.fs_rauzy.specs.declared.parts.Kind.TheVariants.{Cylinder, Looped}
use Rattle.fs_rauzy.specs.declared.parts.Letter.{Letter}
use Rattle.fs_rauzy.specs.declared.parts.Part.{Part}
use Rattle.fs_rauzy.specs.declared.parts.Run.{Run}
use Rattle.fs_rauzy.specs.Runs.{Point, Leads, start_of, EndsRun, all_closed, ArePartsAscending}
use Rattle.fs_rauzy.specs.Towers.{Base, base_of, MeetsBase}
use Rattle.fs_rauzy.proofs.AscendingBases.{run_ascending}
use Rattle.fs_rauzy.proofs.BasesMet.{AreMetOnce}
use Rattle.fs_rauzy.proofs.PartsMet.{part_base, IsClosedPart, run_has_parts}
use Rattle.fs_components.specs.declared.flow.Flow.{Flow}
use Rattle.fs_components.specs.declared.flow.Measured.{Measured}
use Rattle.fs_components.specs.FlowMeaning.{Meets, IsPart, HasSquares, IsQuotient, scaled_area, den_square, FlowMeans}
use Rattle.fs_components.specs.Flows.{measured, GivesMeasures, of_cylinder, of_looped, AreMeasured, EndsFlow, decomposed}
use Rattle.fs_components.specs.Measures.{PartMeasures, checked_cylinder, checked_looped}
use Rattle.fs_components.proofs.AlongSides.{norm-ne-zero}
use Rattle.fs_components.proofs.ExchangeAreas.{exchange_area}
use Rattle.fs_components.proofs.ExchangeStates.{given_state}
use Rattle.fs_components.proofs.MeasuredValues.{cylinder_values, looped_values}
use Rattle.fs_components.proofs.PartReturns.{part_wide, part_has_returns, part_is_of_kind}
use Rattle.fs_components.proofs.RunAreas.{run_area}

-- ---- lists

-- members of a list whose images differ are equal where their images are
equal_by_images : {X Y : Type 0} (g : X → Y) (xs : List X) → IsDistinct (map g xs) → (x y : X) → IsIn x xs → IsIn y xs → g x ≡ g y → x ≡ y
equal_by_images g [] p x y hx hy e = absurd hx
equal_by_images g (z ∷ zs) p x y (inl ex) (inl ey) e = ex ∙ sym ey
equal_by_images g (z ∷ zs) p x y (inl ex) (inr hy) e = absurd (p.0 (g y) (in_map g y zs hy) (ap g (sym ex) ∙ e))
equal_by_images g (z ∷ zs) p x y (inr hx) (inl ey) e = absurd (p.0 (g x) (in_map g x zs hx) (ap g (sym ey) ∙ sym e))
equal_by_images g (z ∷ zs) p x y (inr hx) (inr hy) e = equal_by_images g zs p.1 x y hx hy e

module _ (s : GluedPolygons) (v : PlaneVector) where
  -- the measured parts are the parts, in order
  parts_of_measured : (ps : List Part) (ms : List Measured) → AreMeasured s v ps ms → map (λ (m : Measured). m.part) ms ≡ ps
  parts_of_measured [] [] h = refl
  parts_of_measured [] (m ∷ ms) h = absurd h
  parts_of_measured (p ∷ ps) [] h = absurd h
  parts_of_measured (p ∷ ps) (m ∷ ms) h = λ i. (h.0.2 i).part ∷ parts_of_measured ps ms h.1 i

  -- what is read of parts is read of measured parts
  read_through : (Y : Type 0) (g : Part → Y) (ms : List Measured) → map (λ (m : Measured). g m.part) ms ≡ map g (map (λ (m : Measured). m.part) ms)
  read_through Y g [] = refl
  read_through Y g (m ∷ ms) = ap (λ (ys : List Y). g m.part ∷ ys) (read_through Y g ms)

  -- what holds of each part holds of each measured one
  each_measured : (P : Part → Type 0) (Q : Measured → Type 0) → ((p : Part) (m : PartMeasures) → P p → GivesMeasures s v p (Ok m) → Q (measured p m)) → (ps : List Part) (ms : List Measured) → AreMeasured s v ps ms
      → AllByRecursion P ps → AllByRecursion Q ms
  each_measured P Q f [] [] h k = tt
  each_measured P Q f [] (m ∷ ms) h k = absurd h
  each_measured P Q f (p ∷ ps) [] h k = absurd h
  each_measured P Q f (p ∷ ps) (m ∷ ms) h k = (subst Q (sym h.0.2) (f p h.0.0 k.0 h.0.1), each_measured P Q f ps ms h.1 k.1)

  -- ---- the measures of a part

  measures_cases : (p : Part) (r : Result PartMeasures Place) → GivesMeasures s v p r
      → ((letter : Letter) × (p.kind ≡ Cylinder) × (p.letters ≡ letter ∷ []) × (r ≡ checked_cylinder s.d (unsigned_abs s.den) v p.width letter.back))
      ⊎ ((from to : ℕ) × (p.kind ≡ Looped from to) × (r ≡ checked_looped s.d (unsigned_abs s.den) v p.letters))
  measures_cases p _ (of_cylinder letter kind is) = inl (letter, kind, is, refl)
  measures_cases p _ (of_looped from to kind) = inr (from, to, kind, refl)

  module _ (surface : IsSurface s) (some : v ≢ vector_zero) where
    den_positive : 0 < unsigned_abs s.den
    den_positive = let h = surface.den in omega (arith, ints, h)

    other : norm s.d v ≢ nil
    other = norm-ne-zero surface.radicand v some

    -- the area of a cylinder
    one_area : (p : Part) (letter : Letter) → p.letters ≡ letter ∷ [] → total (map (λ (l : Letter). l.length) p.letters) ≡ p.width → mul s.d p.width (dot s.d v letter.back) ≡ scaled_area s.d v p.letters
    one_area p letter is cut =
        let width : p.width ≡ letter.length = sym cut ∙ ap (λ (ls : List Letter). total (map (λ (l : Letter). l.length) ls)) is ∙ (quadratic_ring s.d).add_zero letter.length in
        ap (λ w. mul s.d w (dot s.d v letter.back)) width
        ∙ sym ((quadratic_ring s.d).add_zero (mul s.d letter.length (dot s.d v letter.back)))
        ∙ ap (scaled_area s.d v) (sym is)

    -- the squares and the area of a part
    part_values : (p : Part) (m : PartMeasures) → total (map (λ (l : Letter). l.length) p.letters) ≡ p.width → GivesMeasures s v p (Ok m)
        → HasSquares s v (measured p m) p.kind × IsQuotient s.d m.area (scaled_area s.d v p.letters) (norm s.d v) (den_square s v)
    part_values p m cut g = elim (measures_cases p (Ok m) g) [
      | inl k ↦
          let values = cylinder_values (radicand_no_square surface.radicand) v (unsigned_abs s.den) other den_positive p.width k.0.back m (sym k.3) in (
            subst (HasSquares s v (measured p m)) (sym k.1) (k.0, k.2, values.holonomy, values.height),
            subst (λ a. IsQuotient s.d m.area a (norm s.d v) (den_square s v)) (one_area p k.0 k.2 cut) values.area,
          )
      | inr k ↦
          let values = looped_values (radicand_no_square surface.radicand) v (unsigned_abs s.den) other den_positive p.letters m (sym k.3) in (
            subst (HasSquares s v (measured p m)) (sym k.2) (values.holonomy, values.height),
            values.area,
          )
    ]

    -- a part is what it is said to be
    part_is : (p : Part) (m : PartMeasures) → IsClosedPart s v p → GivesMeasures s v p (Ok m) → IsPart s v (measured p m)
    part_is p m h g =
        let returns = part_has_returns s v surface.surface some h in
        let values = part_values p m returns.cut g in
        record {
          from_zero = subst (λ (p : Part). IsAtMost (quadratic s.d) (IsPositive s.d) nil p.base) (sym h.is) h.towers.from_zero;
          wide = part_wide s v surface.surface some h;
          to_total = subst (λ (p : Part). IsAtMost (quadratic s.d) (IsPositive s.d) (add p.base p.width) (block_start s v (length s.polygons))) (sym h.is) h.towers.to_total;
          letters = returns;
          kind = part_is_of_kind s v surface.surface some h;
          squares = values.0;
          area = values.1;
        }

    -- ---- all parts

    module _ (parts : List Measured) (met : AreMetOnce s v (map (λ (m : Measured). part_base m.part) parts)) where
      meets_some : (y : Quadratic) → IsPosition s v y → (p : Measured) × IsIn p parts × Meets s v y p.part
      meets_some y h =
          let k = met.0.some y h in
          let p = in_map_cases (λ (m : Measured). part_base m.part) k.0 parts k.1 in
          let there : MeetsBase s v y (part_base p.0.part) = subst (MeetsBase s v y) p.2 k.2 in
          (p.0, p.1, record { m = there.m; z = there.z; h = there.h; orbit = there.orbit; on_base = there.there })

      meets_one : (y : Quadratic) (p q : Measured) → IsIn p parts → IsIn q parts → Meets s v y p.part → Meets s v y q.part → p ≡ q
      meets_one y p q hp hq kp kq =
          let base = λ (m : Measured). part_base m.part in
          equal_by_images base parts met.1 p q hp hq
          (met.0.only_one y (base p) (base q) (in_map base p parts hp) (in_map base q parts hq)
          (record { m = kp.m; z = kp.z; h = kp.h; orbit = kp.orbit; there = kp.on_base })
          (record { m = kq.m; z = kq.z; h = kq.h; orbit = kq.orbit; there = kq.on_base }))

    -- the parts at the end of the run of the exchange
    module _ (c : Component) (given : GivesExchange s v (Ok c)) (exchange : IsExchange s v c) (p : Point) (leads : Leads s.d (start_of (c ∷ [])) p) (closed : p.components ≡ []) (parts : List Measured)
        (measures : AreMeasured s v p.parts parts) where
      parts_mean : FlowMeans s v parts
      parts_mean =
          let L = surface_order s surface.surface in
          let state = given_state s surface v some c given in
          let h = run_has_parts s v surface.surface some c exchange state p leads in
          let are = parts_of_measured p.parts parts measures in
          let met = subst (λ (bs : List Base). AreMetOnce s v bs) (sym (read_through Base part_base parts ∙ ap (map part_base) are)) (subst (λ cs. AreMetOnce s v (map base_of cs ++ map part_base p.parts)) closed h.met) in
          let area : total (map (λ (m : Measured). scaled_area s.d v m.part.letters) parts) ≡ total (map (λ letter. mul s.d letter.length (dot s.d v letter.back)) c.top)
          = ap total (read_through Quadratic (λ (p : Part). scaled_area s.d v p.letters) parts ∙ ap (map (λ (p : Part). scaled_area s.d v p.letters)) are) ∙ run_area s.d v L c state p leads closed in
          record {
            ascending = subst (ArePartsAscending s.d) (sym are) (run_ascending L (c ∷ []) state p leads);
            each = each_measured (IsClosedPart s v) (IsPart s v) part_is p.parts parts measures h.parts;
            some = meets_some parts met;
            only_one = meets_one parts met;
            areas = (λ i. add (area i) (area i)) ∙ exchange_area s surface.surface v some c exchange;
          }

    run_means : (n : ℕ) (c : Component) (run : Run) (parts : List Measured) → GivesExchange s v (Ok c) → EndsRun s.d n (c ∷ []) (Ok run) → AreMeasured s v run.parts parts → FlowMeans s v parts
    run_means n c _ parts (exchanged _ ok fits is) (all_closed p leads closed few) measures = parts_mean c (exchanged c ok fits is) is p leads closed parts measures

-- the parts of a decomposition ascend, fill the surface, and are what they are said to be
pub flow_means : (s : GluedPolygons) → IsSurface s → (v : PlaneVector) → v ≢ vector_zero → (n : ℕ) (flow : Flow) → EndsFlow s v n (Ok flow) → FlowMeans s v flow.parts
flow_means s surface v some n _ (decomposed c run list parts given ended connected measures) = run_means s v surface some n c run parts given ended measures
