-- A direction at a corner leads along a segment exactly where it does so after a cut. A library for crates to come.
use Rattle.std.proofs.Common.{◌≡◌, ◌≢◌, Bool, List, [], ◌∷◌, ◌++◌, refl, sym, ap, ◌∙◌, subst, inl, inr}
use Rattle.fs_ring.specs.Operations.{Operations}
use Rattle.fs_ring.specs.OrderedRing.{IsOrderedRing}
use Rattle.fs_ring.specs.Vector.{Vector, zero_vector, add_vector}
use Rattle.fs_ring.specs.Direction.{IsAlong, at_start, inside}
use Rattle.fs_ring.proofs.Order as order
use Rattle.fs_ring.proofs.Plane as plane
use Rattle.fs_ring.proofs.Chords as chords
use Rattle.fs_ring.proofs.Directions as directions
use Rattle.fs_ring.proofs.Turns as turns
use Rattle.fs_ring.proofs.Solver.{expressions as E}
use Rattle.fs_ring.proofs.PlaneSolver.{vector_identity, ◌≐ᵥ◌}
use Rattle.fs_convex.specs.Turning.{DecidesHalfPlanes}
use Rattle.fs_paths.specs.SideGluing.{SideGluing, IsSide, AreGluedPolygons, InSectorOf, StrictlyInSectorOf}
use Rattle.fs_paths.specs.Development.{IsPutAt}
use Rattle.fs_paths.specs.StraightPaths.{Reaches, Path, IsMetBefore}
use Rattle.fs_paths.specs.Segments.{IsSegment}
use Rattle.fs_paths.specs.Passages.{ComesInto, begins, by_side, at_corner}
use Rattle.fs_paths.proofs.Developments as developments
use Rattle.fs_paths.proofs.Passages as passages
use Rattle.fs_paths.proofs.Words as words
use Rattle.fs_paths.proofs.Ends as ends
use Rattle.fs_paths.proofs.AlongSide as along_side
use Rattle.fs_cuts.specs.Cuts.{IsCut, IsCornerAt, at_kept, at_e, at_d, IsGerm}
use Rattle.fs_cuts.specs.Halves.{LiesIn, by_e}
use Rattle.fs_cuts.proofs.Cuts as cuts
use Rattle.fs_cuts.proofs.Germs as germs
use Rattle.fs_cuts.proofs.Halves as halves
use Rattle.fs_cuts.proofs.WordsAcross as words_across
use Rattle.fs_cuts.proofs.PathsAfter as paths_after
use Rattle.fs_cuts.proofs.EndsAfter as ends_after

module _ {A : Type 0} (R : Operations A) (IsPositive : A → Type 0) {X : Type 0} (G : SideGluing X A) where
  -- v leads from the corner c to some corner, across the sides of some word, and meets no corner before
  abbrev pub LeadsToCorner : X → Vector A → Type 0
  LeadsToCorner c v = (word : List X) × (x : X) × IsSegment R IsPositive G c word v x

-- ---- along a side

module _ {A : Type 0} {R : Operations A} {IsPositive : A → Type 0} (L : IsOrderedRing R IsPositive)
    {is_ahead : Vector A → Vector A → Bool} (test : DecidesHalfPlanes R IsPositive is_ahead)
    {X : Type 0} {G : SideGluing X A} (g : AreGluedPolygons R IsPositive is_ahead G) {c : X} (c_side : IsSide G c) {v : Vector A} where
  -- a vector that leads to a corner along the side at which it begins is the side's
  pub side_of_segment : IsAlong R IsPositive (G.vector c) v → LeadsToCorner R IsPositive G c v → v ≡ G.vector c
  side_of_segment a (word, x, m) =
      let none = along_side.no_word_along_side L test g word m.last m.put a m.reached in
      let back = directions.along_comm L a in
      let there : IsPutAt R G c (zero_vector R) x v = subst (λ w. IsPutAt R G w (zero_vector R) x v) none.1 (subst (λ w. IsPutAt R G m.last w x v) none.2 m.end) in
      let first = along_side.first_met_along_side L test g c_side a there (plane.cross_self L.ring v) (directions.norm_positive L v (directions.dot_positive-ne-zero_right L a.same_way)) in
      let end : IsPutAt R G c (zero_vector R) (G.next c) (G.vector c) =
      subst (IsPutAt R G c (zero_vector R) (G.next c)) (vector_identity L.ring [] (G.vector c ∷ []) (λ u. add_vector E (zero_vector E) u ≐ᵥ u) refl)
      (developments.put_next (developments.put_refl c (zero_vector R))) in
      elim (order.at_most_cases L _ _ first) [
        | inr f ↦ chords.equal_of_norm-dot L back (sym f)
        | inl less ↦
            absurd (m.none_before (G.vector c) (subst (λ w. IsMetBefore R IsPositive G v w m.put (G.vector c)) (sym none.1)
            (subst (λ w. IsMetBefore R IsPositive G v c w (G.vector c)) (sym none.2)
            (record { corner = G.next c; there = end; on_line = back.parallel; ahead = back.same_way; before = less }))))
      ]

  -- and the side's vector leads to a corner
  pub segment_of_side : v ≢ zero_vector R → v ≡ G.vector c → LeadsToCorner R IsPositive G c v
  segment_of_side some f =
      ([], G.next c, subst (λ w. IsSegment R IsPositive G c [] w (G.next c)) (sym f) (along_side.segment_along_side L test g c c_side (λ z. some (f ∙ z))))

-- ---- through a cut

module _ {A : Type 0} {R : Operations A} {IsPositive : A → Type 0} (L : IsOrderedRing R IsPositive)
    {is_ahead : Vector A → Vector A → Bool} (test : DecidesHalfPlanes R IsPositive is_ahead)
    {X Y : Type 0} {G : SideGluing X A} {H : SideGluing Y A} (g : AreGluedPolygons R IsPositive is_ahead G) (h : AreGluedPolygons R IsPositive is_ahead H)
    {kept : X → Y} {p q : X} {d e : Y} (cut : IsCut R G H kept p q d e) where
  -- where the path begins at the corner of e, the other end of the cut is where e leads
  end_of_e : {c : X} → c ≡ G.next q → IsPutAt R G c (zero_vector R) (G.next p) (H.vector e)
  end_of_e f = subst (λ w. IsPutAt R G w (zero_vector R) (G.next p) (H.vector e)) (sym f) (cuts.mirrored L test g h cut).span

  lies_at_e : {c : X} → c ≡ G.next q → LiesIn R G H kept p q d e c (zero_vector R) e (zero_vector R)
  lies_at_e {c} f =
      by_e refl (subst (λ w. IsPutAt R G c (zero_vector R) w (zero_vector R)) f (developments.put_refl c (zero_vector R)))
      (subst (IsPutAt R G c (zero_vector R) (G.next p)) (vector_identity L.ring [] (H.vector e ∷ []) (λ u. u ≐ᵥ add_vector E (zero_vector E) u) refl) (end_of_e f))

  -- a vector that leads to a corner along e is that of e
  cut_of_segment : {c : X} {v : Vector A} → IsSide G c → c ≡ G.next q → IsAlong R IsPositive (H.vector e) v → StrictlyInSectorOf R IsPositive G c v → LeadsToCorner R IsPositive G c v
      → v ≡ H.vector e
  cut_of_segment {c} {v} s f a strict (word, x, m) = go word m.reached
    where
      back : IsAlong R IsPositive v (H.vector e)
      back = directions.along_comm L a

      comes : ComesInto R IsPositive G v c (zero_vector R)
      comes = begins refl strict

      only : IsPutAt R G c (zero_vector R) x v → v ≡ H.vector e
      only j = elim (passages.leaves L test g s comes) [
        | by_side w O k ↦ absurd (k.no_corner (G.next p) (H.vector e) (end_of_e f) back.parallel back.same_way)
        | at_corner w O k ↦
            k.only x v j (plane.cross_self L.ring v) (directions.norm_positive L v (passages.comes_into-ne-zero L test g comes))
            ∙ sym (k.only (G.next p) (H.vector e) (end_of_e f) back.parallel back.same_way)
      ]

      go : (word : List X) → Reaches R IsPositive G v c word m.last m.put → v ≡ H.vector e
      go [] r = only (subst (λ w. IsPutAt R G w (zero_vector R) x v) r.1 (subst (λ w. IsPutAt R G m.last w x v) r.2 m.end))
      go (z ∷ rest) r = absurd (words.not_crossed_and_met L test g s comes r.1.1 r.1.2 (end_of_e f) back.parallel back.same_way)

module _ {A : Type 0} {R : Operations A} {IsPositive : A → Type 0} (L : IsOrderedRing R IsPositive)
    {is_ahead : Vector A → Vector A → Bool} (test : DecidesHalfPlanes R IsPositive is_ahead)
    {X Y : Type 0} {G : SideGluing X A} {H : SideGluing Y A} (g : AreGluedPolygons R IsPositive is_ahead G) (h : AreGluedPolygons R IsPositive is_ahead H)
    {kept : X → Y} {p q : X} {d e : Y} (cut : IsCut R G H kept p q d e) {c : X} {v : Vector A} {y : Y} (m : IsGerm R IsPositive G H kept p q d e c v y) where
  other_cut : IsCut R G H kept q p e d
  other_cut = cuts.mirrored L test g h cut

  -- along the side that begins at the corner, the corner keeps its name
  kept_along_side : IsAlong R IsPositive (G.vector c) v → y ≡ kept c
  kept_along_side a =
      germs.germ_after_unique L test g h cut m (record {
        start_side = m.start_side;
        start = m.start;
        end_side = cut.kept_side c m.start_side;
        end = at_start (subst (λ w. IsAlong R IsPositive w v) (sym (cut.vector c m.start_side)) a);
        corner = at_kept refl;
      })

  vector_along_side : IsAlong R IsPositive (G.vector c) v → H.vector y ≡ G.vector c
  vector_along_side a = ap H.vector (kept_along_side a) ∙ cut.vector c m.start_side

  -- the half at the corner lies in the polygon
  lies : LiesIn R G H kept p q d e c (zero_vector R) y (zero_vector R)
  lies = go m.corner
    where
      go : IsCornerAt R IsPositive G H kept p q d e c y → LiesIn R G H kept p q d e c (zero_vector R) y (zero_vector R)
      go (at_kept f) = halves.lies_of (sym f) refl (halves.lies_at_side c m.start_side (zero_vector R))
      go (at_e a f) = halves.lies_of (sym f) refl (lies_at_e L test g h cut a)
      go (at_d a f) = halves.lies_of (sym f) refl (halves.lies_mirrored (lies_at_e L test g h other_cut a))

  -- a direction that leads to a corner after the cut did so before it
  pub segment_before : LeadsToCorner R IsPositive H y v → LeadsToCorner R IsPositive G c v
  segment_before (word, z, s) = go m.start
    where
      strictly : StrictlyInSectorOf R IsPositive G c v → LeadsToCorner R IsPositive G c v
      strictly strict =
          let before = words_across.path_before L test g h cut v word c y s.last (zero_vector R) (zero_vector R) s.put m.start_side lies
          (words.path_of_reaches R IsPositive H v y word s.last s.put s.reached) in
          let corner = halves.corner_of_lies (halves.lies_put L test g h cut before.6 s.end) in
          let there = words.path_comes_into L test g before.0 c before.2 (zero_vector R) before.3 m.start_side (begins refl strict) before.5 in (
            before.0,
            corner.0,
            ends.segment_of_corner_at_end L test g there.0 there.1 (words.reaches_of_path R IsPositive G v c before.0 before.2 before.3 strict before.5) corner.1,
          )

      go : InSectorOf R IsPositive G c v → LeadsToCorner R IsPositive G c v
      go (at_start a) =
          let along = subst (λ w. IsAlong R IsPositive w v) (sym (vector_along_side a)) a in
          segment_of_side L test g m.start_side (directions.dot_positive-ne-zero_right L a.same_way) (side_of_segment L test h m.end_side along (word, z, s) ∙ vector_along_side a)
      go (inside i j) = strictly (record { left_of_start = i; right_of_end = j })

  -- and the other way round
  pub segment_after : LeadsToCorner R IsPositive G c v → LeadsToCorner R IsPositive H y v
  segment_after (word, x, s) = go m.start
    where
      strictly : StrictlyInSectorOf R IsPositive G c v → StrictlyInSectorOf R IsPositive H y v → LeadsToCorner R IsPositive H y v
      strictly strict strict_after = end (ends_after.ends_after L test g h cut v s.last s.put there.0 there.1 s.end after.4 after.5 after.7)
        where
          path : Path R IsPositive G v c (zero_vector R) word s.last s.put
          path = words.path_of_reaches R IsPositive G v c word s.last s.put s.reached

          there : IsSide G s.last × ComesInto R IsPositive G v s.last s.put
          there = words.path_comes_into L test g word c s.last (zero_vector R) s.put m.start_side (begins refl strict) path

          after : paths_after.WithCut L test g h cut v y (zero_vector R) word s.last s.put
          after = paths_after.path_after L test g h cut v word c s.last y (zero_vector R) (zero_vector R) s.put m.start_side m.end_side (begins refl strict) (begins refl strict_after) lies path

          reached : Reaches R IsPositive H v y after.0 after.2 after.3
          reached = words.reaches_of_path R IsPositive H v y after.0 after.2 after.3 strict_after after.6

          end : ends_after.EndsAfter L test g h cut v s.last s.put there.0 there.1 s.end after.2 after.3 → LeadsToCorner R IsPositive H y v
          end (inl r) = (after.0, r.0, ends.segment_of_corner_at_end L test h after.4 after.5 reached r.1)
          end (inr r) = (
            after.0 ++ r.0 ∷ [],
            r.4,
            ends.segment_of_corner_at_end L test h (h.twin_side r.0 (developments.put_is_side L test h after.4 r.2)) (passages.comes_into_next L test h after.4 after.5 r.2 r.3)
                (words.reaches_one_more R IsPositive H v y after.0 strict_after reached r.2 r.3) r.5,
          )

      along_cut : StrictlyInSectorOf R IsPositive G c v → IsAlong R IsPositive (H.vector y) v → v ≡ H.vector y
      along_cut strict a = by_corner m.corner
        where
          by_corner : IsCornerAt R IsPositive G H kept p q d e c y → v ≡ H.vector y
          by_corner (at_kept f) =
              absurd (turns.along_not_left L (subst (λ w. IsAlong R IsPositive w v) (ap H.vector f ∙ cut.vector c m.start_side) a) strict.left_of_start)
          by_corner (at_e f j) =
              cut_of_segment L test g h cut m.start_side f (subst (λ w. IsAlong R IsPositive w v) (ap H.vector j) a) strict (word, x, s) ∙ ap H.vector (sym j)
          by_corner (at_d f j) =
              cut_of_segment L test g h other_cut m.start_side f (subst (λ w. IsAlong R IsPositive w v) (ap H.vector j) a) strict (word, x, s) ∙ ap H.vector (sym j)

      go_strict : StrictlyInSectorOf R IsPositive G c v → InSectorOf R IsPositive H y v → LeadsToCorner R IsPositive H y v
      go_strict strict (at_start a) = segment_of_side L test h m.end_side (directions.dot_positive-ne-zero_right L a.same_way) (along_cut strict a)
      go_strict strict (inside i j) = strictly strict (record { left_of_start = i; right_of_end = j })

      go : InSectorOf R IsPositive G c v → LeadsToCorner R IsPositive H y v
      go (at_start a) =
          segment_of_side L test h m.end_side (directions.dot_positive-ne-zero_right L a.same_way)
          (side_of_segment L test g m.start_side a (word, x, s) ∙ sym (vector_along_side a))
      go (inside i j) = go_strict (record { left_of_start = i; right_of_end = j }) m.end
