-- The end that a walk finds is the only end of its path, and the check of a word tells whether the path is a segment with that word.
use Rattle.std.proofs.Common.{◌≡◌, ◌↔◌, ℕ, Bool, suc, ◌+◌, ◌≤◌, List, [], ◌∷◌, ◌++◌, length, Result, Ok, Err, IfOk, IsTrue, refl, sym, ap, ◌∙◌, subst, arith, length-append, append_assoc, append-nil}
use Rattle.fs_plane.specs.declared.corners.Corner.{Corner}
use Rattle.fs_plane.specs.Vector.{PlaneVector}
use Rattle.fs_paths.specs.Ends.{PathEnd, outside_sector, segment, corner_before_end, ends_inside, longer}
use Rattle.fs_paths.proofs.EndUnique as paths
use Rattle.fs_gluing.specs.Polygons.{HasSide}
use Rattle.fs_gluing.specs.Surface.{GluedPolygons, IsTranslationSurface}
use Rattle.fs_gluing.specs.SurfaceSides.{polygon_sides}
use Rattle.fs_gluing.proofs.Sides.GluedSurface.{path_laws, end_unique}
use Rattle.fs_plane.specs.declared.sites.Site.{Site}
use Rattle.fs_plane.specs.declared.sites.Stop.{Stop}
use Rattle.fs_plane.specs.declared.sites.Stop.TheVariants as stops
use Rattle.fs_develop.specs.declared.walking.Walk.{Walk}
use Rattle.fs_develop.specs.Walks.{end_of, IsPathEnd, IsSurfaceSegment, IsWithin, IsNextOf, WalksTo, FollowsWord, IsOnly, IsSegmentEnd, ReturnsWalk, ReturnsCheck}
use Rattle.fs_develop.proofs.RunUnique.{leads_unique}
use Rattle.fs_develop.proofs.PathEnds.{Means, leads_means}

module _ (s : GluedPolygons) (surface : IsTranslationSurface s) (c : Corner) (there : HasSide s.polygons c) (v : PlaneVector) where
  -- ---- walks within a number of crossings

  module _ (n : ℕ) where
    abbrev IsShort : List Corner → Type 0
    IsShort word = length word ≤ n

    one_more : (word : List Corner) (x : Corner) → IsShort word → IsWithin n word x → IsShort (word ++ x ∷ [])
    one_more word x short within = (let e = length-append word (x ∷ []) in omega arith)

    abbrev WalkMeans : PathEnd Corner → Type 0
    WalkMeans a = (let laws = path_laws s surface in Means surface.radicand laws.test laws.glued v (IsWithin n) IsShort (omega arith) one_more c there a)

    end_of_meaning : (a : PathEnd Corner) → WalkMeans a → IsPathEnd s c v n a
    end_of_meaning outside_sector m = m
    end_of_meaning (segment word y) m = m
    end_of_meaning (corner_before_end word) m = m
    end_of_meaning (ends_inside word) m = m
    end_of_meaning (longer word) m =
        let x = m.1 in
        record { crossings = (let short = m.0 in let long = x.3 in grind arith); more = x.0; last = x.1; put = x.2; reached = x.4 }

    -- the end to which a walk leads is an end of the path
    pub walk_end : (a : PathEnd Corner) → WalksTo s c v n (Ok a) → IsPathEnd s c v n a
    walk_end a h =
        let laws = path_laws s surface in
        end_of_meaning a (leads_means surface.radicand laws.test laws.glued v (IsWithin n) IsShort (omega arith) one_more c there a h)

    -- and its only one
    pub walk_end_only : (a : PathEnd Corner) → WalksTo s c v n (Ok a) → IsOnly (IsPathEnd s c v n) a
    walk_end_only a h = record { is = walk_end a h; only = λ o k. end_unique s surface c there v n o a k (walk_end a h) }

  -- ---- checks of a word

  module _ (given : List Corner) where
    -- the word is a prefix of the given one
    abbrev IsPrefix : List Corner → Type 0
    IsPrefix word = (rest : List Corner) × (given ≡ word ++ rest)

    next_prefix : (word : List Corner) (x : Corner) → IsPrefix word → IsNextOf given word x → IsPrefix (word ++ x ∷ [])
    next_prefix word x before h = (h.0, h.1 ∙ sym (append_assoc word (x ∷ []) h.0))

    abbrev CheckMeans : PathEnd Corner → Type 0
    CheckMeans a = (let laws = path_laws s surface in Means surface.radicand laws.test laws.glued v (IsNextOf given) IsPrefix (given, refl) next_prefix c there a)

    short_prefix : (word : List Corner) → IsPrefix word → length word ≤ length given
    short_prefix word before = (let e = ap length before.1 ∙ length-append word before.0 in omega arith)

    -- the path is a segment with the given word
    abbrev IsGiven : Type 0
    IsGiven = (y : Corner) × IsSurfaceSegment s c given v y

    given_end : IsGiven → (n : ℕ) → length given ≤ n → (a : PathEnd Corner) → IsPathEnd s c v n a → IsSegmentEnd given a
    given_end g n short a k = (g.0, end_unique s surface c there v n a (segment given g.0) k (short, g.1))

    -- the path crosses a side that isn't the next one of the given word: then it is no segment with that word
    not_longer : (word : List Corner) → CheckMeans (longer word) → IsGiven → ⊥
    not_longer word m g = go m.0.0 m.0.1
      where
        go : (rest : List Corner) → given ≡ word ++ rest → ⊥
        go [] e =
            let same : length given ≡ length word = ap length (e ∙ append-nil word) in
            let k : IsPathEnd s c v (length word) (longer word) = record { crossings = refl; more = m.1.0; last = m.1.1; put = m.1.2; reached = m.1.4 } in
            (let f = (given_end g (length word) (omega arith) (longer word) k).1 in cc)
        go (z ∷ rest) e =
            let laws = path_laws s surface in
            let x = m.1.0 in
            let size : length given ≡ length word + suc (length rest) = ap length e ∙ length-append word (z ∷ rest) in
            let step = length-append word (x ∷ []) in
            let more = paths.end_continues laws.order laws.test laws.glued c v (length given) there (word ++ x ∷ []) m.1.1 m.1.2 m.1.4 (segment given g.0) (omega arith, g.1) (omega arith) in
            m.1.3 (more.0, more.1 ∙ append_assoc word (x ∷ []) more.0)

    means_given : (a : PathEnd Corner) → CheckMeans a → IsGiven → IsSegmentEnd given a
    means_given outside_sector m g = given_end g (length given) (omega arith) outside_sector m
    means_given (segment word y) m g = given_end g (length given) (omega arith) (segment word y) (short_prefix word m.0, m.1)
    means_given (corner_before_end word) m g = given_end g (length given) (omega arith) (corner_before_end word) (short_prefix word m.0, m.1)
    means_given (ends_inside word) m g = given_end g (length given) (omega arith) (ends_inside word) (short_prefix word m.0, m.1)
    means_given (longer word) m g = absurd (not_longer word m g)

    segment_given : (a : PathEnd Corner) → CheckMeans a → IsSegmentEnd given a → IsGiven
    segment_given a m e =
        let k : CheckMeans (segment given e.0) = subst CheckMeans e.1 m in
        (e.0, k.1)

    -- the end to which a path along a word leads is a segment's with that word exactly where the path is such a segment
    pub check_end : (a : PathEnd Corner) → FollowsWord s c v given (Ok a) → IsSegmentEnd given a ↔ ((y : Corner) × IsSurfaceSegment s c given v y)
    check_end a h =
        let laws = path_laws s surface in
        let m : CheckMeans a = leads_means surface.radicand laws.test laws.glued v (IsNextOf given) IsPrefix (given, refl) next_prefix c there a h in
        ((λ e. segment_given a m e), (λ g. means_given a m g))

  -- ---- what is returned

  -- a result of the run is its only one
  pub walk_run_only : (n : ℕ) (result : Result Walk Stop) → ReturnsWalk (WalksTo s c v n) result → ReturnsWalk (IsOnly (WalksTo s c v n)) result
  walk_run_only n (Ok walk) h = record { is = h; only = λ r k. leads_unique s.d (polygon_sides s.polygons) v (IsWithin n) c (Ok (end_of walk)) r h k }
  walk_run_only n (Err (stops.Overflow site)) h = record { is = h; only = λ r k. leads_unique s.d (polygon_sides s.polygons) v (IsWithin n) c (Err site) r h k }
  walk_run_only n (Err (stops.Undecided steps)) h = h
  walk_run_only n (Err stops.NoMemory) h = h

  -- and its end is the only end of the path
  pub walk_run_end : (n : ℕ) (result : Result Walk Stop) → ReturnsWalk (WalksTo s c v n) result → IfOk result (λ walk. IsOnly (IsPathEnd s c v n) (end_of walk))
  walk_run_end n (Ok walk) h = walk_end_only n (end_of walk) h
  walk_run_end n (Err stop) h = tt

  -- the same of the check of a word
  pub check_run_only : (given : List Corner) (result : Result Bool Site) → ReturnsCheck (FollowsWord s c v given) given result → ReturnsCheck (IsOnly (FollowsWord s c v given)) given result
  check_run_only given (Ok held) h = (h.0, record { is = h.1; only = λ r k. leads_unique s.d (polygon_sides s.polygons) v (IsNextOf given) c (Ok h.0) r h.1 k }, h.2)
  check_run_only given (Err site) h = record { is = h; only = λ r k. leads_unique s.d (polygon_sides s.polygons) v (IsNextOf given) c (Err site) r h k }

  pub check_run_segment : (given : List Corner) (result : Result Bool Site) → ReturnsCheck (FollowsWord s c v given) given result
      → IfOk result (λ held. IsTrue held ↔ ((y : Corner) × IsSurfaceSegment s c given v y))
  check_run_segment given (Ok held) h =
      let both = check_end given h.0 h.1 in
      ((λ t. both.0 (h.2.0 t)), (λ g. h.2.1 (both.1 g)))
  check_run_segment given (Err site) h = tt
