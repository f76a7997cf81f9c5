-- Laws of live words: which words go on from a live one, a prefix of a live word is live, and a word whose tip is near is live. A library for crates to come.
use Rattle.std.proofs.Common.{◌≡◌, ◌↔◌, ℕ, ◌≤◌, Bool, List, [], ◌∷◌, ◌++◌, length, refl, sym, ap, ◌∙◌, subst, inl, inr}
use Rattle.fs_ring.specs.Operations.{Operations}
use Rattle.fs_ring.specs.OrderedRing.{IsOrderedRing, IsAtMost}
use Rattle.fs_ring.specs.Vector.{Vector, add_vector, neg_vector, cross, norm}
use Rattle.fs_ring.specs.Discs.{ComesWithin}
use Rattle.fs_ring.proofs.Signs as signs
use Rattle.fs_ring.proofs.Directions as directions
use Rattle.fs_ring.proofs.Solver.{expressions as E, ◌⊕◌, ◌≐◌}
use Rattle.fs_paths.specs.SideGluing.{SideGluing, IsSide}
use Rattle.fs_triangles.specs.Triangles.{AreTriangles}
use Rattle.fs_words.specs.Words.{Letter, right, left, Crossing, first_crossing, tip_of, crossing_after, last_crossing, nth_crossing, tip}
use Rattle.fs_words.specs.LiveWords.{IsBetween, Passes, IsLive}
use Rattle.fs_words.specs.Sectors.{View, TellsLeft, view_after, last_view}
use Rattle.fs_words.proofs.Orientations.{Chooses, IsWithin}
use Rattle.fs_words.proofs.Orientations as orientations
use Rattle.fs_words.proofs.Crossings.{first_open, last_crossing-snoc, last_view-snoc, last_view-crossing, of_crossings-nil, of_crossings-snoc, of_crossings-prefix, of_crossings-last}
use Rattle.fs_words.proofs.CrossingOrder.{near_tip}
use Rattle.fs_words.proofs.NarrowedSectors as narrowed

module _ {A : Type 0} {R : Operations A} {IsPositive : A → Type 0} (L : IsOrderedRing R IsPositive) {X : Type 0} {G : SideGluing X A} (T : AreTriangles R IsPositive G) where
  -- the crossed half-edge comes within the bound
  abbrev Near : A → Crossing X A → Type 0
  Near bound c = ComesWithin R IsPositive c.right_end c.left_end bound

  -- the sum that the definition of a live word asks for
  abbrev sum : {bound : A} {h : X} {letters : List Letter} → IsLive R IsPositive G bound h letters → Vector A
  sum {bound} {h} {letters} live = add_vector R (nth_crossing R G h letters live.at_right).right_end (nth_crossing R G h letters live.at_left).left_end

  -- a word is live where any vector leads between the ends of its crossed half-edges, and they come within the bound
  live_of_vector : (bound : A) (h : X) → IsSide G h → (letters : List Letter) {v : Vector A} → Passes R IsPositive G h letters v
      → ((m : ℕ) → m ≤ length letters → Near bound (nth_crossing R G h letters m)) → IsLive R IsPositive G bound h letters
  live_of_vector bound h s letters p near =
      let test = narrowed.left_by_sign L in
      let ends = narrowed.bounds_are_ends R G test h letters in
      let at = last_view R test G h letters in
      record {
        at_right = ends.0.0;
        at_left = ends.1.0;
        right_there = ends.0.1;
        left_there = ends.1.1;
        passes = subst (Passes R IsPositive G h letters) (λ i. add_vector R (ends.0.2 i) (ends.1.2 i)) (narrowed.sum_passes L T (narrowed.tells_by_sign L) h s letters p);
        near = near;
      }

  -- the empty word is live where the half-edge that the path crosses first comes within the bound
  pub opening : (bound : A) (h : X) → IsSide G h → ComesWithin R IsPositive (G.vector h) (neg_vector R (G.vector (G.prev h))) bound ↔ IsLive R IsPositive G bound h []
  opening bound h s = (
    (λ c.
        let o = first_open L T h s in
        let first = first_crossing R G h in
        live_of_vector bound h s []
        (of_crossings-nil R G (IsBetween R IsPositive (add_vector R first.right_end first.left_end)) h
        (record { right = directions.cross-add_self_right L first.right_end first.left_end o; left = directions.cross-add_self_left L first.right_end first.left_end o }))
        (of_crossings-nil R G (Near bound) h c)),
    (λ live. of_crossings-last R G (Near bound) h [] live.near),
  )

  -- a prefix of a live word is live
  pub live_prefix : (bound : A) (h : X) → IsSide G h → (letters more : List Letter) → IsLive R IsPositive G bound h (letters ++ more) → IsLive R IsPositive G bound h letters
  live_prefix bound h s letters more live =
      live_of_vector bound h s letters (of_crossings-prefix R G (IsBetween R IsPositive (sum live)) h letters more live.passes) (of_crossings-prefix R G (Near bound) h letters more live.near)

  -- a word is live where the path to its tip passes between the ends of its crossed half-edges, and the tip is within the bound
  pub live_of_tip : (bound : A) (h : X) → IsSide G h → (letters : List Letter) → Passes R IsPositive G h letters (tip R G h letters) → IsAtMost R IsPositive (norm R (tip R G h letters)) bound
      → IsLive R IsPositive G bound h letters
  live_of_tip bound h s letters p near = live_of_vector bound h s letters p (near_tip L T h s letters bound p near)

  module _ {is_left : Vector A → Vector A → Bool} (tells : TellsLeft R IsPositive is_left) where
    abbrev Sector : X → List Letter → View X A → Type 0
    Sector h letters s = narrowed.IsSectorOf R IsPositive G h letters s

    -- the crossing after the last one comes within the bound
    near_next : (bound : A) (h : X) (letters : List Letter) (letter : Letter) (s : View X A) → s.crossing ≡ last_crossing R G h letters → IsLive R IsPositive G bound h (letters ++ letter ∷ [])
        → Near bound (crossing_after R G s.crossing letter)
    near_next bound h letters letter s e live =
        subst (Near bound) (last_crossing-snoc R G h letters letter ∙ ap (λ c. crossing_after R G c letter) (sym e)) (of_crossings-last R G (Near bound) h (letters ++ letter ∷ []) live.near)

    sector_next : (bound : A) (h : X) → IsSide G h → (letters : List Letter) (letter : Letter) → IsLive R IsPositive G bound h (letters ++ letter ∷ [])
        → Sector h (letters ++ letter ∷ []) (view_after R is_left G (last_view R is_left G h letters) letter)
    sector_next bound h s letters letter live =
        subst (Sector h (letters ++ letter ∷ [])) (last_view-snoc R G is_left h letters letter) (narrowed.sector_of L T tells h s (letters ++ letter ∷ []) live.passes)

    -- a word is live that goes on by a letter, where a vector leads between the ends of the next half-edge too, and that comes within the bound
    live_next : (bound : A) (h : X) → IsSide G h → (letters : List Letter) (letter : Letter) (s : View X A) → s.crossing ≡ last_crossing R G h letters → IsLive R IsPositive G bound h letters
        → {v : Vector A} → Passes R IsPositive G h letters v → IsBetween R IsPositive v (crossing_after R G s.crossing letter) → Near bound (crossing_after R G s.crossing letter)
        → IsLive R IsPositive G bound h (letters ++ letter ∷ [])
    live_next bound h side letters letter s e live {v} p b c =
        live_of_vector bound h side (letters ++ letter ∷ [])
        (of_crossings-snoc R G (IsBetween R IsPositive v) h letters letter p (subst (λ c. IsBetween R IsPositive v (crossing_after R G c letter)) e b))
        (of_crossings-snoc R G (Near bound) h letters letter live.near (subst (λ c. Near bound (crossing_after R G c letter)) e c))

    -- between the bounds a and c some vector is right of d, where d is left of a
    right_of_tip : (a c d : Vector A) → IsPositive (cross R a c) → IsPositive (cross R a d)
        → (v : Vector A) × IsWithin R IsPositive (cross R) a c v × IsPositive (cross R v d)
    right_of_tip a c d ac ad = go (orientations.choice L (orientations.counterclockwise L) d c (is_left d c) (tells d c))
      where
        go : {e : Vector A} → Chooses R IsPositive (cross R) d c e → (v : Vector A) × IsWithin R IsPositive (cross R) a c v × IsPositive (cross R v d)
        go (inl k) = (
          add_vector R a d,
          record {
            after = directions.cross-add_self_right L a d ad;
            before = directions.positive_by_plane L [] (a ∷ d ∷ c ∷ []) (λ a d c. cross E (add_vector E a d) c ≐ cross E a c ⊕ cross E d c) refl (L.add_positive ac k.0);
          },
          directions.cross-add_self_left L a d ad,
        )
        go (inr k) = (
          add_vector R a c,
          record { after = directions.cross-add_self_right L a c ac; before = directions.cross-add_self_left L a c ac },
          directions.positive_by_plane L [] (a ∷ c ∷ d ∷ []) (λ a c d. cross E (add_vector E a c) d ≐ cross E a d ⊕ cross E c d) refl (signs.add_positive_non_negative L ad k.0),
        )

    -- and some vector is left of d, where d is right of c
    left_of_tip : (a c d : Vector A) → IsPositive (cross R a c) → IsPositive (cross R d c)
        → (v : Vector A) × IsWithin R IsPositive (cross R) a c v × IsPositive (cross R d v)
    left_of_tip a c d ac dc = go (orientations.choice L (orientations.clockwise L) d a (is_left a d) (tells a d))
      where
        go : {e : Vector A} → Chooses R IsPositive (λ x y. cross R y x) d a e → (v : Vector A) × IsWithin R IsPositive (cross R) a c v × IsPositive (cross R d v)
        go (inl k) = (
          add_vector R d c,
          record {
            after = directions.positive_by_plane L [] (a ∷ d ∷ c ∷ []) (λ a d c. cross E a (add_vector E d c) ≐ cross E a c ⊕ cross E a d) refl (L.add_positive ac k.0);
            before = directions.cross-add_self_left L d c dc;
          },
          directions.cross-add_self_right L d c dc,
        )
        go (inr k) = (
          add_vector R a c,
          record { after = directions.cross-add_self_right L a c ac; before = directions.cross-add_self_left L a c ac },
          directions.positive_by_plane L [] (a ∷ c ∷ d ∷ []) (λ a c d. cross E d (add_vector E a c) ≐ cross E d c ⊕ cross E d a) refl (signs.add_positive_non_negative L dc k.0),
        )

    -- a live word goes on by right where its tip is left of its right bound, and the half-edge from the right end to the tip comes within the bound
    pub extension_right : (bound : A) (h : X) → IsSide G h → (letters : List Letter) → IsLive R IsPositive G bound h letters
        → let s = last_view R is_left G h letters in
        IsLive R IsPositive G bound h (letters ++ right ∷ [])
        ↔ (IsPositive (cross R s.right_bound (tip_of R G s.crossing)) × ComesWithin R IsPositive s.crossing.right_end (tip_of R G s.crossing) bound)
    extension_right bound h side letters live =
        let s = last_view R is_left G h letters in
        let e = last_view-crossing R G is_left h letters in
        let n = narrowed.sector_of L T tells h side letters live.passes in (
          (λ next. ((sector_next bound h side letters right next).narrowed.bound_end, near_next bound h letters right s e next)),
          (λ k.
              let v = right_of_tip s.right_bound s.left_bound (tip_of R G s.crossing) n.narrowed.wide k.0 in
              let p = n.passes v.0 v.1 in
              let b = subst (IsBetween R IsPositive v.0) (sym e) (of_crossings-last R G (IsBetween R IsPositive v.0) h letters p) in
              live_next bound h side letters right s e live p (record { right = b.right; left = v.2 }) k.1),
        )

    -- and by left where the tip is right of its left bound, and the half-edge from the tip to the left end comes within the bound
    pub extension_left : (bound : A) (h : X) → IsSide G h → (letters : List Letter) → IsLive R IsPositive G bound h letters
        → let s = last_view R is_left G h letters in
        IsLive R IsPositive G bound h (letters ++ left ∷ [])
        ↔ (IsPositive (cross R (tip_of R G s.crossing) s.left_bound) × ComesWithin R IsPositive (tip_of R G s.crossing) s.crossing.left_end bound)
    extension_left bound h side letters live =
        let s = last_view R is_left G h letters in
        let e = last_view-crossing R G is_left h letters in
        let n = narrowed.sector_of L T tells h side letters live.passes in (
          (λ next. ((sector_next bound h side letters left next).narrowed.end_bound, near_next bound h letters left s e next)),
          (λ k.
              let v = left_of_tip s.right_bound s.left_bound (tip_of R G s.crossing) n.narrowed.wide k.0 in
              let p = n.passes v.0 v.1 in
              let b = subst (IsBetween R IsPositive v.0) (sym e) (of_crossings-last R G (IsBetween R IsPositive v.0) h letters p) in
              live_next bound h side letters left s e live p (record { right = v.2; left = b.left }) k.1),
        )

    -- the path to the tip of a live word passes between the ends of its crossed half-edges where the tip is between its bounds
    pub passes_tip : (bound : A) (h : X) → IsSide G h → (letters : List Letter) → IsLive R IsPositive G bound h letters
        → let s = last_view R is_left G h letters in
        Passes R IsPositive G h letters (tip R G h letters) ↔ (IsPositive (cross R s.right_bound (tip_of R G s.crossing)) × IsPositive (cross R (tip_of R G s.crossing) s.left_bound))
    passes_tip bound h side letters live =
        let s = last_view R is_left G h letters in
        let e = ap (tip_of R G) (last_view-crossing R G is_left h letters) in
        let n = narrowed.sector_of L T tells h side letters live.passes in (
          (λ p. let w = n.within (tip_of R G s.crossing) (subst (Passes R IsPositive G h letters) (sym e) p) in (w.after, w.before)),
          (λ k. subst (Passes R IsPositive G h letters) e (n.passes (tip_of R G s.crossing) (record { after = k.0; before = k.1 }))),
        )
