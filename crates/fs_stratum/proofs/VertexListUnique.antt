-- A surface has at most one list of vertices, and one genus for their number.
use Rattle.std.proofs.Common.{◌≡◌, inl, inr, ℕ, suc, List, [], ◌∷◌, sym, ap, ◌∙◌, refl, subst, arith}
use Rattle.std.specs.declared.cmp.Ordering.TheVariants.{Less}
use Rattle.fs_lists.specs.Members.{IsIn}
use Rattle.fs_lists.proofs.Members.{in_of_contains, in_map, All-member}
use Rattle.fs_plane.specs.declared.corners.Corner.{Corner}
use Rattle.fs_gluing.specs.Gluing.{corner_cmp}
use Rattle.fs_gluing.specs.Surface.{GluedPolygons, IsTranslationSurface}
use Rattle.fs_gluing.specs.Vertices.{AreOneVertex, IsCount, IsConeNumber}
use Rattle.fs_stratum.specs.declared.cones.Cone.{Cone}
use Rattle.fs_stratum.specs.VertexList.{IsVertex, AreVertices, AreAscending, IsGenus}
use Rattle.fs_gluing.proofs.Sides.CornerOrder.{not_less_both_ways, corner_cases, not_less_itself}
use Rattle.fs_gluing.proofs.Sides.VertexOrbits.{one_vertex_comm}
use Rattle.fs_stratum.proofs.Parity.{firsts, ascending_tail, ascending_less}

-- ---- a count is unique

count_unique : (P : Corner → Type 0) (xs : List Corner) (m n : ℕ) → IsCount P xs m → IsCount P xs n → m ≡ n
count_unique P [] m n h k = h ∙ sym k
count_unique P (x ∷ xs) m n h k = elim h [
  | inl a ↦ elim k [
    | inl b ↦ a.1.1 ∙ ap (λ n. suc n) (count_unique P xs a.1.0 b.1.0 a.1.2 b.1.2) ∙ sym b.1.1
    | inr b ↦ absurd (b.0 a.0)
  ]
  | inr a ↦ elim k [
    | inl b ↦ absurd (a.0 b.0)
    | inr b ↦ count_unique P xs m n a.1 b.1
  ]
]

-- ---- ascending lists with the same cones

head_unique : (x y : Cone) (xs ys : List Cone) → AreAscending (firsts (x ∷ xs)) → AreAscending (firsts (y ∷ ys)) → IsIn x (y ∷ ys) → IsIn y (x ∷ xs) → x ≡ y
head_unique x y xs ys a b h k = elim h [
  | inl e ↦ e
  | inr i ↦ elim k [
    | inl e ↦ sym e
    | inr j ↦ absurd (not_less_both_ways x.first y.first
        (ascending_less x xs a y.first (in_map (λ (cone : Cone). cone.first) y xs j))
        (ascending_less y ys b x.first (in_map (λ (cone : Cone). cone.first) x ys i)))
  ]
]

-- an item after the head of one list is after the head of the other
later_in : (x y c : Cone) (xs ys : List Cone) → AreAscending (firsts (x ∷ xs)) → x ≡ y → IsIn c xs → IsIn c (y ∷ ys) → IsIn c ys
later_in x y c xs ys a e i h = elim h [
  | inl f ↦ absurd (not_less_itself x.first (subst (λ (z : Cone). corner_cmp x.first z.first ≡ Less) (f ∙ sym e) (ascending_less x xs a c.first (in_map (λ (cone : Cone). cone.first) c xs i))))
  | inr j ↦ j
]

ascending_unique : (xs ys : List Cone) → AreAscending (firsts xs) → AreAscending (firsts ys) → ((c : Cone) → IsIn c xs → IsIn c ys) → ((c : Cone) → IsIn c ys → IsIn c xs) → xs ≡ ys
ascending_unique [] [] a b f g = refl
ascending_unique [] (y ∷ ys) a b f g = absurd (g y (inl refl))
ascending_unique (x ∷ xs) [] a b f g = absurd (f x (inl refl))
ascending_unique (x ∷ xs) (y ∷ ys) a b f g =
    let e = head_unique x y xs ys a b (f x (inl refl)) (g y (inl refl)) in
    let rest = ascending_unique xs ys (ascending_tail x xs a) (ascending_tail y ys b)
    (λ c i. later_in x y c xs ys a e i (f c (inr i)))
    (λ c i. later_in y x c ys xs b (sym e) i (g c (inr i))) in
    λ i. e i ∷ rest i

-- ---- the vertices of a surface

module _ (s : GluedPolygons) (surface : IsTranslationSurface s) where
  -- a vertex has one least corner and one cone number
  vertex_unique : (x y : Cone) → IsVertex s x → IsVertex s y → AreOneVertex s.polygons x.first y.first → x ≡ y
  vertex_unique x y p q o =
      let there = p.there in
      let first : x.first ≡ y.first = elim (corner_cases x.first y.first) [
        | inl e ↦ e
        | inr c ↦ elim c [
          | inl l ↦ absurd (q.least x.first (one_vertex_comm s.polygons surface.glued x.first y.first there o) l)
          | inr l ↦ absurd (p.least y.first o l)
        ]
      ] in
      let number : x.k ≡ y.k = count_unique _ _ x.k y.k p.number (subst (λ c. IsConeNumber s c y.k) (sym first) q.number) in
      λ i. record { first = first i; k = number i }

  listed_too : (xs ys : List Cone) → AreVertices s xs → AreVertices s ys → (c : Cone) → IsIn c xs → IsIn c ys
  listed_too xs ys a b c i =
      let p = All-member (IsVertex s) xs c a.each i in
      let found = b.all c.first p.there in
      let j = in_of_contains found.0 ys found.1 in
      subst (λ (x : Cone). IsIn x ys) (vertex_unique found.0 c (All-member (IsVertex s) ys found.0 b.each j) p found.2) j

pub vertex_list_unique : (s : GluedPolygons) → IsTranslationSurface s → (xs ys : List Cone) → AreVertices s xs → AreVertices s ys → xs ≡ ys
vertex_list_unique s surface xs ys a b = ascending_unique xs ys a.ascending b.ascending (listed_too s surface xs ys a b) (listed_too s surface ys xs b a)

pub genus_unique : (s : GluedPolygons) (vertices g h : ℕ) → IsGenus s vertices g → IsGenus s vertices h → g ≡ h
genus_unique s vertices g h a b = omega arith
