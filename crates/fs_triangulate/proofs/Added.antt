-- Triangles that are added to a list of triangles, one after another.
use Rattle.std.proofs.Common.{◌≡◌, ℕ, zero, suc, ◌+◌, ◌-◌, ◌<◌, List, [], ◌∷◌, ◌++◌, length, map, take, sym, ap, ◌∙◌, subst, arith}
use Rattle.std.specs.List.{range_with_len}
use Rattle.std.proofs.lemmas.List.{append-nil, append_assoc, map-append}
use Rattle.std.proofs.lemmas.List.Concat.{flat_map-append}
use Rattle.std.proofs.lemmas.List.FromFn.{map-range_with_len_more}
use Rattle.fs_plane.specs.Vector.{PlaneVector}
use Rattle.fs_gluing.specs.declared.surfaces.Side.{Side}
use Rattle.fs_gluing.specs.declared.triangulations.Triangles.{Triangles}
use Rattle.fs_gluing.specs.declared.triangulations.Way.{Way}
use Rattle.fs_gluing.specs.FirstCut.{CornerTriangle, all_ways, ways_of, way_vector, way_start, glued_way, fan_of, fans_from}
use Rattle.fs_gluing.specs.NextCorner.{side_count}
use Rattle.fs_gluing.specs.Surface.{GluedPolygons}
use Rattle.fs_triangulate.specs.Fans.{half_edge_of, fan_triangle, AddsHalfEdge, AddsTriangles, HasTriangles}

-- a list that is longer by two lists is longer by both joined
joined : {X : Type 0} (a b c xs ys : List X) → b ≡ a ++ xs → c ≡ b ++ ys → c ≡ a ++ (xs ++ ys)
joined a b c xs ys e f = f ∙ ap (λ zs. zs ++ ys) e ∙ append_assoc a xs ys

-- a map of all ways of joined lists
ways_joined : {X : Type 0} (f : Way → X) (xs ys : List CornerTriangle) → map f (all_ways (xs ++ ys)) ≡ map f (all_ways xs) ++ map f (all_ways ys)
ways_joined f xs ys = ap (map f) (flat_map-append ways_of xs ys) ∙ map-append f (all_ways xs) (all_ways ys)

-- lists of three equal items are equal
pub three_equal : {X : Type 0} (a b c x y z : X) → a ≡ x → b ≡ y → c ≡ z → a ∷ b ∷ c ∷ [] ≡ x ∷ y ∷ z ∷ []
three_equal a b c x y z p q r = λ i. p i ∷ q i ∷ r i ∷ []

module _ (s : GluedPolygons) where
  abbrev twin_of : Way → ℕ
  twin_of w = half_edge_of s.polygons (glued_way s.polygons w)

  abbrev face_of : CornerTriangle → List PlaneVector
  face_of t = map (way_vector s) (ways_of t)

  -- more triangles were added
  adds_more : (xs ys : List CornerTriangle) (a b c : Triangles) → AddsTriangles s xs a b → AddsTriangles s ys b c → AddsTriangles s (xs ++ ys) a c
  adds_more xs ys a b c p q = record {
    faces = joined a.faces b.faces c.faces (map face_of xs) (map face_of ys) p.faces q.faces ∙ ap (λ zs. a.faces ++ zs) (sym (map-append face_of xs ys));
    homes = joined a.homes b.homes c.homes (map way_start (all_ways xs)) (map way_start (all_ways ys)) p.homes q.homes ∙ ap (λ zs. a.homes ++ zs) (sym (ways_joined way_start xs ys));
    twins = joined a.twins b.twins c.twins (map twin_of (all_ways xs)) (map twin_of (all_ways ys)) p.twins q.twins ∙ ap (λ zs. a.twins ++ zs) (sym (ways_joined twin_of xs ys));
  }

  -- a fan with one face more
  pub fan_more : (i t : ℕ) (a b c : Triangles) → AddsTriangles s (map (fan_triangle i) (range_with_len 0 t)) a b → AddsTriangles s (fan_triangle i t ∷ []) b c
      → AddsTriangles s (map (fan_triangle i) (range_with_len 0 (t + 1))) a c
  fan_more i t a b c p q =
      subst (λ xs. AddsTriangles s xs a c) (sym (map-range_with_len_more (fan_triangle i) 0 t t (omega arith)))
      (adds_more (map (fan_triangle i) (range_with_len 0 t)) (fan_triangle i t ∷ []) a b c p q)

  -- the whole fan
  pub fan_all : (i t n : ℕ) (a b : Triangles) → t ≡ n - 2 → AddsTriangles s (map (fan_triangle i) (range_with_len 0 t)) a b → AddsTriangles s (fan_of i n) a b
  fan_all i t n a b e p = subst (λ m. AddsTriangles s (map (fan_triangle i) (range_with_len 0 m)) a b) e p

  -- a face and its three half-edges are added
  pub adds_face : (i t : ℕ) (face : List PlaneVector) (a b c d e : Triangles) → face ≡ face_of (fan_triangle i t) → b.faces ≡ a.faces ++ face ∷ [] → b.homes ≡ a.homes → b.twins ≡ a.twins
      → AddsHalfEdge s.polygons (record { polygon = i; from = 0; to = t + 1 }) b c
      → AddsHalfEdge s.polygons (record { polygon = i; from = t + 1; to = t + 2 }) c d
      → AddsHalfEdge s.polygons (record { polygon = i; from = t + 2; to = 0 }) d e
      → AddsTriangles s (fan_triangle i t ∷ []) a e
  adds_face i t face a b c d e is faces homes twins p q r = record {
    faces = r.faces ∙ q.faces ∙ p.faces ∙ faces ∙ ap (λ f. a.faces ++ f ∷ []) is;
    homes = three a.homes b.homes c.homes d.homes e.homes _ _ _ homes p.homes q.homes r.homes;
    twins = three a.twins b.twins c.twins d.twins e.twins _ _ _ twins p.twins q.twins r.twins;
  }
    where
      three : {X : Type 0} (a b c d e : List X) (x y z : X) → b ≡ a → c ≡ b ++ x ∷ [] → d ≡ c ++ y ∷ [] → e ≡ d ++ z ∷ [] → e ≡ a ++ x ∷ y ∷ z ∷ []
      three a b c d e x y z h p q r = joined a c e (x ∷ []) (y ∷ z ∷ []) (p ∙ ap (λ xs. xs ++ x ∷ []) h) (joined c d e (y ∷ []) (z ∷ []) q r)

  -- ---- the triangles so far

  has_more : (xs ys : List CornerTriangle) (a b : Triangles) → HasTriangles s xs a → AddsTriangles s ys a b → HasTriangles s (xs ++ ys) b
  has_more xs ys a b p q = record {
    faces = q.faces ∙ ap (λ zs. zs ++ map face_of ys) p.faces ∙ sym (map-append face_of xs ys);
    homes = q.homes ∙ ap (λ zs. zs ++ map way_start (all_ways ys)) p.homes ∙ sym (ways_joined way_start xs ys);
    twins = q.twins ∙ ap (λ zs. zs ++ map twin_of (all_ways ys)) p.twins ∙ sym (ways_joined twin_of xs ys);
  }

  -- the fans of one polygon more
  pub fans_more : (k : ℕ) (a b : Triangles) → k < length s.polygons → HasTriangles s (fans_from 0 (take k s.polygons)) a → AddsTriangles s (fan_of k (side_count s.polygons k)) a b
      → HasTriangles s (fans_from 0 (take (k + 1) s.polygons)) b
  fans_more k a b l p q =
      let same : k ≡ 0 + k = omega arith in
      subst (λ xs. HasTriangles s xs b)
      (ap (λ i. fans_from 0 (take k s.polygons) ++ fan_of i (side_count s.polygons k)) same ∙ sym (more 0 s.polygons k l))
      (has_more (fans_from 0 (take k s.polygons)) (fan_of k (side_count s.polygons k)) a b p q)
    where
      more : (i : ℕ) (polygons : List (List Side)) (k : ℕ) → k < length polygons → fans_from i (take (k + 1) polygons) ≡ fans_from i (take k polygons) ++ fan_of (i + k) (side_count polygons k)
      more i [] k l = absurd (omega arith)
      more i (polygon ∷ polygons) zero l =
          let same : i ≡ i + 0 = omega arith in
          append-nil (fan_of i (length polygon)) ∙ ap (λ j. fan_of j (length polygon)) same
      more i (polygon ∷ polygons) (suc k) l =
          let one : suc k + 1 ≡ suc (k + 1) = omega arith in
          let same : i + 1 + k ≡ i + suc k = omega arith in
          ap (λ n. fans_from i (take n (polygon ∷ polygons))) one
          ∙ ap (λ xs. fan_of i (length polygon) ++ xs) (more (i + 1) polygons k (omega arith))
          ∙ sym (append_assoc (fan_of i (length polygon)) (fans_from (i + 1) (take k polygons)) (fan_of (i + 1 + k) (side_count polygons k)))
          ∙ ap (λ j. fan_of i (length polygon) ++ fans_from (i + 1) (take k polygons) ++ fan_of j (side_count polygons k)) same
