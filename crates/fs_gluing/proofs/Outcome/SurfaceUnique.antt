-- A shape that passes all tests has at most one surface.
use Rattle.std.proofs.Common.{◌≡◌, ◌⊎◌, inl, inr, ℕ, ◌+◌, suc, Result, Ok, Err, Some, List, [], ◌∷◌, map, sym, ap, ◌∙◌, refl, subst, arith}
use Rattle.std.proofs.lemmas.List.Elements.{All-contains, All-from_recursion}
use Rattle.std.proofs.lemmas.Option.{same_Some}
use Rattle.std.specs.Option.{option_map}
use Rattle.std.specs.List.{AllByRecursion, Contains, slice_get}
use Rattle.fs_lists.proofs.First.{first_not_all}
use Rattle.fs_lists.proofs.Equal.{heads_equal, tails_equal, cons_equal}
use Rattle.fs_plane.specs.Vector.{PlaneVector}
use Rattle.fs_plane.specs.declared.corners.Corner.{Corner}
use Rattle.fs_gluing.specs.declared.shapes.Glue.{Glue}
use Rattle.fs_gluing.specs.declared.shapes.Shape.{Shape}
use Rattle.fs_gluing.specs.declared.surfaces.Side.{Side}
use Rattle.fs_gluing.specs.declared.faults.BuildStop.{BuildStop}
use Rattle.fs_gluing.specs.declared.faults.BuildStop.TheVariants.{NoMemory}
use Rattle.fs_gluing.specs.FirstFault.{PassesOf, tests_of, IsBuildResult}
use Rattle.fs_gluing.specs.Polygons.{at_side, all_sides}
use Rattle.fs_gluing.specs.Shape.{AreGlued, HasShape, glued_sides, polygons_of}
use Rattle.fs_gluing.specs.Surface.{GluedPolygons, IsSurface, side_vectors}
use Rattle.fs_gluing.proofs.Gluing.GluedPolygons.{rows_hold}
use Rattle.fs_gluing.proofs.Scale.ScaledVectors.{at_side-map}
use Rattle.fs_gluing.proofs.Outcome.SurfaceExists.{listed}

-- ---- polygons with the same vectors and the same partners

same_side : (a b : Side) → a.vector ≡ b.vector → a.partner ≡ b.partner → a ≡ b
same_side a b vectors partners = λ i. record { vector = vectors i; partner = partners i }

same_row : (p q : List Side) → side_vectors p ≡ side_vectors q → ((j : ℕ) (a b : Side) → slice_get p j ≡ Some a → slice_get q j ≡ Some b → a.partner ≡ b.partner) → p ≡ q
same_row [] [] e h = refl
same_row [] (b ∷ q) e h = cc
same_row (a ∷ p) [] e h = cc
same_row (a ∷ p) (b ∷ q) e h =
    cons_equal a b p q (same_side a b (heads_equal _ _ _ _ e) (h 0 a b refl refl)) (same_row p q (tails_equal _ _ _ _ e) (λ j. h (suc j)))

-- the side at c has the same partner in both
abbrev HasOnePartner : List (List Side) → List (List Side) → Corner → Type 0
HasOnePartner ps qs c = (a b : Side) → at_side ps c ≡ Some a → at_side qs c ≡ Some b → a.partner ≡ b.partner

same_rows : (ps qs : List (List Side)) → map side_vectors ps ≡ map side_vectors qs → ((c : Corner) → HasOnePartner ps qs c) → ps ≡ qs
same_rows [] [] e h = refl
same_rows [] (q ∷ qs) e h = cc
same_rows (p ∷ ps) [] e h = cc
same_rows (p ∷ ps) (q ∷ qs) e h =
    cons_equal p q ps qs
    (same_row p q (heads_equal _ _ _ _ e) (λ j. h (record { polygon = 0; side = j })))
    (same_rows ps qs (tails_equal _ _ _ _ e) (λ c. h (record { polygon = suc c.polygon; side = c.side })))

-- ---- the partners on the lines

partner_is : (ps : List (List Side)) (c e : Corner) (a : Side) → at_side ps c ≡ Some a → (side : Side) × (at_side ps c ≡ Some side) × (side.partner ≡ e) → a.partner ≡ e
partner_is ps c e a there glued = ap (λ (side : Side). side.partner) (same_Some _ _ (sym there ∙ glued.1)) ∙ glued.2

partners_on_lines : (ps qs : List (List Side)) (glues : List Glue) → AllByRecursion (λ g. AreGlued ps g.one g.two) glues → AllByRecursion (λ g. AreGlued qs g.one g.two) glues
    → AllByRecursion (HasOnePartner ps qs) (glued_sides glues)
partners_on_lines ps qs [] in_p in_q = tt
partners_on_lines ps qs (g ∷ glues) in_p in_q = (
  (λ a b at_p at_q. partner_is ps g.one g.two a at_p in_p.0.forth ∙ sym (partner_is qs g.one g.two b at_q in_q.0.forth)),
  (
    (λ a b at_p at_q. partner_is ps g.two g.one a at_p in_p.0.back ∙ sym (partner_is qs g.two g.one b at_q in_q.0.back)),
    partners_on_lines ps qs glues in_p.1 in_q.1,
  ),
)

-- what holds of all sides holds of a side that exists
side_holds : (P : Corner → Type 0) (polygons : List (List PlaneVector)) (ps : List (List Side)) (c : Corner) (a : Side) → map side_vectors ps ≡ polygons → AllByRecursion P (all_sides polygons)
    → at_side ps c ≡ Some a → P c
side_holds P polygons ps c a same h there =
    let vector : at_side polygons c ≡ Some a.vector =
    ap (λ (vs : List (List PlaneVector)). at_side vs c) (sym same) ∙ at_side-map (λ (side : Side). side.vector) ps c ∙ ap (option_map (λ (side : Side). side.vector)) there in
    let same_number : 0 + c.polygon ≡ c.polygon = omega arith in
    subst (λ n. P (record { polygon = n; side = c.side })) same_number (rows_hold P 0 polygons c.polygon c.side a.vector h vector)

-- where each side is on a line, the lines give all partners
partners_of_all : (polygons : List (List PlaneVector)) (glues : List Glue) (ps qs : List (List Side)) → map side_vectors ps ≡ polygons → AllByRecursion (Contains (glued_sides glues)) (all_sides polygons)
    → AllByRecursion (λ g. AreGlued ps g.one g.two) glues → AllByRecursion (λ g. AreGlued qs g.one g.two) glues → (c : Corner) → HasOnePartner ps qs c
partners_of_all polygons glues ps qs same listed in_p in_q c a b at_p at_q =
    All-contains (HasOnePartner ps qs) (glued_sides glues) c (All-from_recursion _ (glued_sides glues) (partners_on_lines ps qs glues in_p in_q))
    (side_holds (Contains (glued_sides glues)) polygons ps c a same listed at_p) a b at_p at_q

-- ---- the surface

same_surface : (s t : GluedPolygons) → s.d ≡ t.d → s.straight ≡ t.straight → s.den ≡ t.den → s.polygons ≡ t.polygons → s ≡ t
same_surface s t d straight den polygons = λ i. record { d = d i; straight = straight i; den = den i; polygons = polygons i }

pub surface_unique : (d : ℕ) (shape : Shape) (s t : GluedPolygons) → HasShape d shape s → HasShape d shape t → AllByRecursion (PassesOf d shape) (tests_of shape) → s ≡ t
surface_unique d shape s t of_s of_t passed =
    same_surface s t (of_s.field ∙ sym of_t.field) (of_s.straight ∙ sym of_t.straight) (of_s.denominator ∙ sym of_t.denominator)
    (same_rows s.polygons t.polygons (of_s.same_vectors ∙ sym of_t.same_vectors)
    (partners_of_all (polygons_of shape) shape.glues s.polygons t.polygons of_s.same_vectors (listed d shape passed) of_s.as_the_lines of_t.as_the_lines))

-- a surface of the shape is the one that is returned, where one is
pub returned_of_outcome : (d : ℕ) (shape : Shape) (r : Result GluedPolygons BuildStop) → IsBuildResult d shape r → (s : GluedPolygons) → IsSurface s → HasShape d shape s
    → AllByRecursion (PassesOf d shape) (tests_of shape) → (r ≡ Ok s) ⊎ (r ≡ Err NoMemory)
returned_of_outcome d shape (Ok t) j s surface of_s passed = inl (ap Ok (surface_unique d shape t s j.1 of_s passed))
returned_of_outcome d shape (Err e) j s surface of_s passed = elim j [
  | inl memory ↦ inr (ap Err memory)
  | inr h ↦ absurd (first_not_all (PassesOf d shape) (tests_of shape) h.0 h.1 passed)
]
