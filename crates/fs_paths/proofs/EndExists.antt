-- A straight path has an end, within any number of crossings. A library for crates to come.
use Rattle.std.proofs.Common.{◌≡◌, ◌⊎◌, ℕ, Bool, zero, suc, ◌+◌, ◌≤◌, List, [], ◌∷◌, ◌++◌, length, refl, sym, subst, inl, inr, arith, zero-add, length-append}
use Rattle.fs_ring.specs.Operations.{Operations}
use Rattle.fs_ring.specs.OrderedRing.{IsOrderedRing, positive, null, negative, less, equal, greater, IsNonNegative}
use Rattle.fs_ring.specs.Vector.{Vector, zero_vector, add_vector, sub_vector, neg_vector, cross, dot, norm}
use Rattle.fs_ring.specs.Direction.{IsAlong, at_start, inside}
use Rattle.fs_ring.proofs.Signs as signs
use Rattle.fs_ring.proofs.Order as order
use Rattle.fs_ring.proofs.Directions as directions
use Rattle.fs_ring.proofs.Sectors as sectors
use Rattle.fs_ring.proofs.Chords as chords
use Rattle.fs_ring.proofs.Solver.{expressions as E, ◌≐◌}
use Rattle.fs_convex.specs.Turning.{DecidesHalfPlanes}
use Rattle.fs_paths.specs.SideGluing.{SideGluing, IsSide, AreGluedPolygons, InSectorOf, StrictlyInSectorOf}
use Rattle.fs_paths.specs.Development.{IsPutAt}
use Rattle.fs_paths.specs.StraightPaths.{Crosses, Reaches}
use Rattle.fs_paths.specs.Segments.{IsSegment}
use Rattle.fs_paths.specs.Passages.{ComesInto, begins, LeavesBySide, LeavesAtCorner, by_side, at_corner}
use Rattle.fs_paths.specs.Ends.{PathEnd, outside_sector, segment, corner_before_end, ends_inside, longer, IsEnd}
use Rattle.fs_paths.proofs.Developments as developments
use Rattle.fs_paths.proofs.Passages as passages
use Rattle.fs_paths.proofs.Words as words
use Rattle.fs_paths.proofs.Ends as ends
use Rattle.fs_paths.proofs.AlongSide as along_side
use Rattle.fs_paths.proofs.EndUnique as end_unique

module _ {A : Type 0} {R : Operations A} {IsPositive : A → Type 0} (L : IsOrderedRing R IsPositive)
    {is_ahead : Vector A → Vector A → Bool} (test : DecidesHalfPlanes R IsPositive is_ahead)
    {X : Type 0} {G : SideGluing X A} (g : AreGluedPolygons R IsPositive is_ahead G) (c : X) (v : Vector A) where
  abbrev SomeEnd : ℕ → Type 0
  SomeEnd n = (a : PathEnd X) × IsEnd R IsPositive G c v n a

  -- ---- a path strictly inside the sector

  -- it ends in the polygon to which it has come, or crosses a side of it
  module _ (n : ℕ) (word : List X) (f : X) (F : Vector A) (short : length word ≤ n) (h : IsSide G f) (comes : ComesInto R IsPositive G v f F)
      (reached : Reaches R IsPositive G v c word f F)
      (go_on : (x : X) (Q : Vector A) → IsPutAt R G f F x Q → Crosses R IsPositive v Q (add_vector R Q (G.vector x)) → SomeEnd n) where
    end_before_side : (x : X) (Q : Vector A) → LeavesBySide R IsPositive G v f F x Q → IsNonNegative R IsPositive (cross R (G.vector x) (sub_vector R v Q)) → SomeEnd n
    end_before_side x Q l k = (ends_inside word, (short, ends.inside_before_side L test g h comes reached l k))

    end_at_side : (x : X) (Q : Vector A) → LeavesBySide R IsPositive G v f F x Q → SomeEnd n
    end_at_side x Q l = elim (L.trichotomy (cross R (sub_vector R v Q) (sub_vector R (add_vector R Q (G.vector x)) Q))) [
      | positive p ↦ go_on x Q l.side (record { right = l.right; left = l.left; beyond = p })
      | null e ↦ end_before_side x Q l (λ m. signs.positive-ne-zero L (over m) e)
      | negative p ↦ end_before_side x Q l (λ m. signs.not_both_signs L (over m) p)
    ]
      where
        over : IsPositive (R.neg (cross R (G.vector x) (sub_vector R v Q))) → IsPositive (cross R (sub_vector R v Q) (sub_vector R (add_vector R Q (G.vector x)) Q))
        over m =
            directions.positive_by_plane L [] (v ∷ Q ∷ G.vector x ∷ [])
            (λ v q u. cross E (sub_vector E v q) (sub_vector E (add_vector E q u) q) ≐ E.neg (cross E u (sub_vector E v q))) refl m

    end_at_corner : (x : X) (Q : Vector A) → LeavesAtCorner R IsPositive G v f F x Q → SomeEnd n
    end_at_corner x Q l = elim (order.compare L (dot R v Q) (dot R v v)) [
      | less k ↦ (corner_before_end word, (short, ends.meets_corner L test g h comes reached l k))
      | equal e ↦ (segment word x, (short, ends.segment_at_corner L test g h comes reached l (ends.corner_is_end L test g l e)))
      | greater k ↦ (ends_inside word, (short, ends.inside_before_corner L test g h comes reached l k))
    ]

    end_here : SomeEnd n
    end_here = elim (passages.leaves L test g h comes) [ by_side x Q l ↦ end_at_side x Q l | at_corner x Q l ↦ end_at_corner x Q l ]

  end_after : StrictlyInSectorOf R IsPositive G c v → (n m : ℕ) (word : List X) (f : X) (F : Vector A) → length word + m ≡ n → IsSide G f → ComesInto R IsPositive G v f F
      → Reaches R IsPositive G v c word f F → SomeEnd n
  end_after s n zero word f F e h comes reached =
      end_here n word f F (omega arith) h comes reached
      (λ x Q k cr. (longer word, ends.longer_by_side L test g h comes reached s (omega arith) k cr))
  end_after s n (suc m) word f F e h comes reached =
      end_here n word f F (omega arith) h comes reached
      (λ x Q k cr.
      let size : length (word ++ x ∷ []) + m ≡ n = (let z = length-append word (x ∷ []) in omega arith) in
      end_after s n m (word ++ x ∷ []) (G.twin x) (add_vector R Q (G.vector x)) size (g.twin_side x (developments.put_is_side L test g h k))
      (passages.comes_into_next L test g h comes k cr) (words.reaches_one_more R IsPositive G v c word s reached k cr))

  -- ---- a path along the side at which it begins

  module _ (h : IsSide G c) where
    end_along_side : IsAlong R IsPositive (G.vector c) v → (n : ℕ) → SomeEnd n
    end_along_side a n = elim (order.compare L (norm R v) (norm R (G.vector c))) [
      | less l ↦ (ends_inside [], (omega arith, along_side.inside_along_side L test g h a l))
      | equal e ↦
          let same : G.vector c ≡ v = chords.equal_of_norms L a (sym e) in (
            segment [] (G.next c),
            (omega arith, subst (λ w. IsSegment R IsPositive G c [] w (G.next c)) same (along_side.segment_along_side L test g c h (directions.dot_positive-ne-zero_left L a.same_way))),
          )
      | greater l ↦ (corner_before_end [], (omega arith, along_side.corner_along_side L test g h a l))
    ]

    -- a path has an end, within any number of crossings
    pub end_exists : (n : ℕ) → (a : PathEnd X) × IsEnd R IsPositive G c v n a
    end_exists n = go (sectors.decide_sector L (G.vector c) (neg_vector R (G.vector (G.prev c))) v)
      where
        go : InSectorOf R IsPositive G c v ⊎ ¬ InSectorOf R IsPositive G c v → SomeEnd n
        go (inr out) = (outside_sector, out)
        go (inl (at_start a)) = end_along_side a n
        go (inl (inside p q)) =
            let s : StrictlyInSectorOf R IsPositive G c v = record { left_of_start = p; right_of_end = q } in
            end_after s n n [] c (zero_vector R) (zero-add n) h (begins refl s) (inside p q, refl, refl)

    -- a path along the side at which it begins ends at a corner only where v is the vector of the side, and then at the side's end
    pub segment_along_side_is_side : IsAlong R IsPositive (G.vector c) v → (word : List X) (y : X) → IsSegment R IsPositive G c word v y → (v ≡ G.vector c) × (word ≡ []) × (y ≡ G.next c)
    segment_along_side_is_side a word y k = elim (order.compare L (norm R v) (norm R (G.vector c))) [
      | less l ↦ absurd (let e = same (ends_inside []) (omega arith, along_side.inside_along_side L test g h a l) in cc)
      | equal e ↦
          let side : G.vector c ≡ v = chords.equal_of_norms L a (sym e) in
          let e = same (segment [] (G.next c))
          (omega arith, subst (λ w. IsSegment R IsPositive G c [] w (G.next c)) side (along_side.segment_along_side L test g c h (directions.dot_positive-ne-zero_left L a.same_way))) in
          (sym side, cc, cc)
      | greater l ↦ absurd (let e = same (corner_before_end []) (omega arith, along_side.corner_along_side L test g h a l) in cc)
    ]
      where
        same : (o : PathEnd X) → IsEnd R IsPositive G c v (length word) o → segment word y ≡ o
        same o m = end_unique.end_unique L test g c v (length word) h (segment word y) o (omega arith, k) m
