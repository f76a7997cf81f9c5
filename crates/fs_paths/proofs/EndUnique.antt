-- A straight path has at most one end: any two are the same, with the same word and the same corner. A library for crates to come.
use Rattle.std.proofs.Common.{◌≡◌, ◌≢◌, ◌⊎◌, ℕ, Bool, ◌<◌, ◌≤◌, List, [], ◌∷◌, ◌++◌, length, refl, sym, ap, ◌∙◌, subst, inl, inr, arith, length-append, append-nil}
use Rattle.fs_ring.specs.Operations.{Operations}
use Rattle.fs_ring.specs.OrderedRing.{IsOrderedRing}
use Rattle.fs_ring.specs.Vector.{Vector, zero_vector, add_vector, dot}
use Rattle.fs_ring.specs.Direction.{at_start, inside}
use Rattle.fs_ring.proofs.Order as order
use Rattle.fs_ring.proofs.Plane as plane
use Rattle.fs_ring.proofs.Directions as directions
use Rattle.fs_ring.proofs.Turns as turns
use Rattle.fs_convex.specs.Turning.{DecidesHalfPlanes}
use Rattle.fs_paths.specs.SideGluing.{SideGluing, IsSide, AreGluedPolygons, InSectorOf, StrictlyInSectorOf}
use Rattle.fs_paths.specs.Development.{IsPutAt, InPutPolygon}
use Rattle.fs_paths.specs.StraightPaths.{Crosses, Path, Reaches, IsMet, IsMetBefore}
use Rattle.fs_paths.specs.Passages.{ComesInto, begins}
use Rattle.fs_paths.specs.Ends.{PathEnd, outside_sector, segment, corner_before_end, ends_inside, longer, crossed_sides, IsEnd}
use Rattle.fs_paths.proofs.PutPolygons as put_polygons
use Rattle.fs_paths.proofs.Words as words
use Rattle.fs_paths.proofs.AlongSide as along_side

module _ {A : Type 0} {R : Operations A} {IsPositive : A → Type 0} (L : IsOrderedRing R IsPositive)
    {is_ahead : Vector A → Vector A → Bool} (test : DecidesHalfPlanes R IsPositive is_ahead)
    {X : Type 0} {G : SideGluing X A} (g : AreGluedPolygons R IsPositive is_ahead G) (c : X) (v : Vector A) (n : ℕ) where
  abbrev Put : X → Vector A → X → Vector A → Type 0
  Put b B x Q = IsPutAt R G b B x Q

  abbrev End : PathEnd X → Type 0
  End a = IsEnd R IsPositive G c v n a

  abbrev PathTo : X → Vector A → List X → X → Vector A → Type 0
  PathTo b B word f F = Path R IsPositive G v b B word f F

  abbrev Reach : List X → X → Vector A → Type 0
  Reach word f F = Reaches R IsPositive G v c word f F

  abbrev Strict : Type 0
  Strict = StrictlyInSectorOf R IsPositive G c v

  -- ---- what an end says of the polygon that the word leads to

  -- the path crosses a side of it
  abbrev CrossesFrom : X → Vector A → Type 0
  CrossesFrom f F = (x : X) × (Q : Vector A) × Put f F x Q × Crosses R IsPositive v Q (add_vector R Q (G.vector x))

  -- the path ends so in the polygon of f
  abbrev EndsIn : X → Vector A → PathEnd X → Type 0
  EndsIn f F outside_sector = ⊥
  EndsIn f F (segment word y) = (length word ≤ n) × Put f F y v × ((Q : Vector A) → ¬ IsMetBefore R IsPositive G v f F Q)
  EndsIn f F (corner_before_end word) = (length word ≤ n) × ((Q : Vector A) × IsMetBefore R IsPositive G v f F Q)
  EndsIn f F (ends_inside word) = (length word ≤ n) × InPutPolygon R G IsPositive f F v × ((Q : Vector A) → ¬ IsMet R IsPositive G v f F Q)
  EndsIn f F (longer word) = (length word ≡ n) × Strict × CrossesFrom f F

  abbrev Reached : PathEnd X → Type 0
  Reached a = (f : X) × (F : Vector A) × Reach (crossed_sides a) f F × EndsIn f F a

  -- each end but the first is that of a path that reaches a polygon
  reached : (a : PathEnd X) → End a → (¬ InSectorOf R IsPositive G c v × (a ≡ outside_sector)) ⊎ Reached a
  reached outside_sector h = inl (h, refl)
  reached (segment word y) h = inr (h.1.last, h.1.put, h.1.reached, (h.0, h.1.end, h.1.none_before))
  reached (corner_before_end word) h = inr (h.1.last, h.1.put, h.1.reached, (h.0, (h.1.at, h.1.met)))
  reached (ends_inside word) h = inr (h.1.last, h.1.put, h.1.reached, (h.0, h.1.inside, h.1.none_met))
  reached (longer word) h =
      let last = words.reaches_last R IsPositive G v c word h.more h.last h.put h.reached in
      inr (last.0, last.1, last.3, (h.crossings, words.strict_of_reaches R IsPositive G v c word h.more h.last h.put h.reached, (h.more, last.2, last.4, last.5)))

  word_length : (f : X) (F : Vector A) (a : PathEnd X) → EndsIn f F a → length (crossed_sides a) ≤ n
  word_length f F outside_sector h = absurd h
  word_length f F (segment word y) h = h.0
  word_length f F (corner_before_end word) h = h.0
  word_length f F (ends_inside word) h = h.0
  word_length f F (longer word) h = omega (arith, h.0)

  met_of_met_before : {f : X} {F Q : Vector A} → IsMetBefore R IsPositive G v f F Q → IsMet R IsPositive G v f F Q
  met_of_met_before m = record { corner = m.corner; there = m.there; on_line = m.on_line; ahead = m.ahead; not_beyond = order.at_most_of_less L _ _ m.before }

  met_at_end : v ≢ zero_vector R → (f y : X) (F : Vector A) → Put f F y v → IsMet R IsPositive G v f F v
  met_at_end some f y F k =
      record { corner = y; there = k; on_line = plane.cross_self L.ring v; ahead = directions.norm_positive L v some; not_beyond = order.at_most_refl L (dot R v v) }

  -- ---- the ends exclude each other

  module _ (f : X) (F : Vector A) (h : IsSide G f) (comes : Strict → ComesInto R IsPositive G v f F) where
    crosses_or_ends : (a : PathEnd X) → Strict → EndsIn f F a → CrossesFrom f F → length (crossed_sides a) ≡ n
    crosses_or_ends outside_sector s k m = absurd k
    crosses_or_ends (segment word y) s k m = absurd (words.not_crossed_at_end L test g h (comes s) m.2 m.3 k.1)
    crosses_or_ends (corner_before_end word) s k m =
        absurd (words.not_crossed_and_met L test g h (comes s) m.2 m.3 k.1.1.there k.1.1.on_line k.1.1.ahead)
    crosses_or_ends (ends_inside word) s k m = absurd (words.not_crossed_inside L test g m.2 m.3 k.1)
    crosses_or_ends (longer word) s k m = k.0

    same_end : v ≢ zero_vector R → (a o : PathEnd X) → EndsIn f F a → EndsIn f F o → crossed_sides a ≡ crossed_sides o → a ≡ o
    same_end some outside_sector o k m e = absurd k
    same_end some (segment word y) outside_sector k m e = absurd m
    same_end some (segment word y) (segment other z) k m e = λ i. segment (e i) (put_polygons.put_corner_unique L test g h k.1 m.1 i)
    same_end some (segment word y) (corner_before_end other) k m e = absurd (k.2 m.1.0 m.1.1)
    same_end some (segment word y) (ends_inside other) k m e = absurd (m.2 v (met_at_end some f y F k.1))
    same_end some (segment word y) (longer other) k m e = absurd (words.not_crossed_at_end L test g h (comes m.1) m.2.2 m.2.3 k.1)
    same_end some (corner_before_end word) outside_sector k m e = absurd m
    same_end some (corner_before_end word) (segment other z) k m e = absurd (m.2 k.1.0 k.1.1)
    same_end some (corner_before_end word) (corner_before_end other) k m e = ap corner_before_end e
    same_end some (corner_before_end word) (ends_inside other) k m e = absurd (m.2 k.1.0 (met_of_met_before k.1.1))
    same_end some (corner_before_end word) (longer other) k m e =
        absurd (words.not_crossed_and_met L test g h (comes m.1) m.2.2 m.2.3 k.1.1.there k.1.1.on_line k.1.1.ahead)
    same_end some (ends_inside word) outside_sector k m e = absurd m
    same_end some (ends_inside word) (segment other z) k m e = absurd (k.2 v (met_at_end some f z F m.1))
    same_end some (ends_inside word) (corner_before_end other) k m e = absurd (k.2 m.1.0 (met_of_met_before m.1.1))
    same_end some (ends_inside word) (ends_inside other) k m e = ap ends_inside e
    same_end some (ends_inside word) (longer other) k m e = absurd (words.not_crossed_inside L test g m.2.2 m.2.3 k.1)
    same_end some (longer word) outside_sector k m e = absurd m
    same_end some (longer word) (segment other z) k m e = absurd (words.not_crossed_at_end L test g h (comes k.1) k.2.2 k.2.3 m.1)
    same_end some (longer word) (corner_before_end other) k m e =
        absurd (words.not_crossed_and_met L test g h (comes k.1) k.2.2 k.2.3 m.1.1.there m.1.1.on_line m.1.1.ahead)
    same_end some (longer word) (ends_inside other) k m e = absurd (words.not_crossed_inside L test g k.2.2 k.2.3 m.1)
    same_end some (longer word) (longer other) k m e = ap longer e

  -- ---- the words are the same

  longer_word : (word more other : List X) (x : X) → other ≡ word ++ x ∷ more → length word < length other
  longer_word word more other x e = let z = ap length e in let s = length-append word (x ∷ more) in omega arith

  -- no word of an end goes on after another one
  no_more : Strict → (a : PathEnd X) (f e : X) (F M : Vector A) (more other : List X) → IsSide G f → ComesInto R IsPositive G v f F → EndsIn f F a → length other ≤ n
      → other ≡ crossed_sides a ++ more → PathTo f F more e M → more ≡ []
  no_more s a f e F M [] other h k m l z p = refl
  no_more s a f e F M (x ∷ more) other h k m l z p =
      let end = crosses_or_ends f F h (λ t. k) a s m (x, p.0, p.1, p.2) in
      let more = longer_word (crossed_sides a) more other x z in
      absurd (omega arith)

  nothing_more : (word other more : List X) → other ≡ word ++ more → more ≡ [] → word ≡ other
  nothing_more word other more e z = sym (e ∙ ap (λ r. word ++ r) z ∙ append-nil word)

  module _ (hc : IsSide G c) where
    same_word : Strict → (a o : PathEnd X) (f e : X) (F M : Vector A) → Reach (crossed_sides a) f F → Reach (crossed_sides o) e M → EndsIn f F a → EndsIn e M o
        → (crossed_sides a ≡ crossed_sides o) × (e ≡ f) × (M ≡ F)
    same_word s a o f e F M k j m l = go (words.paths_continue L test g (crossed_sides a) (crossed_sides o) c f e (zero_vector R) F M hc start first second)
      where
        start : ComesInto R IsPositive G v c (zero_vector R)
        start = begins refl s

        first : PathTo c (zero_vector R) (crossed_sides a) f F
        first = words.path_of_reaches R IsPositive G v c (crossed_sides a) f F k

        second : PathTo c (zero_vector R) (crossed_sides o) e M
        second = words.path_of_reaches R IsPositive G v c (crossed_sides o) e M j

        at_first : IsSide G f × ComesInto R IsPositive G v f F
        at_first = words.path_comes_into L test g (crossed_sides a) c f (zero_vector R) F hc start first

        at_second : IsSide G e × ComesInto R IsPositive G v e M
        at_second = words.path_comes_into L test g (crossed_sides o) c e (zero_vector R) M hc start second

        go : ((more : List X) × (crossed_sides o ≡ crossed_sides a ++ more) × PathTo f F more e M) ⊎ ((more : List X) × (crossed_sides a ≡ crossed_sides o ++ more) × PathTo e M more f F)
            → (crossed_sides a ≡ crossed_sides o) × (e ≡ f) × (M ≡ F)
        go (inl r) =
            let none = no_more s a f e F M r.0 (crossed_sides o) at_first.0 at_first.1 m (word_length e M o l) r.1 r.2 in
            let same = subst (λ w. PathTo f F w e M) none r.2 in
            (nothing_more (crossed_sides a) (crossed_sides o) r.0 r.1 none, same.0, same.1)
        go (inr r) =
            let none = no_more s o e f M F r.0 (crossed_sides a) at_second.0 at_second.1 l (word_length f F a m) r.1 r.2 in
            let same = subst (λ w. PathTo e M w f F) none r.2 in
            (sym (nothing_more (crossed_sides o) (crossed_sides a) r.0 r.1 none), sym same.0, sym same.1)

    end_of_same : v ≢ zero_vector R → (a o : PathEnd X) (f e : X) (F M : Vector A) → IsSide G f → (Strict → ComesInto R IsPositive G v f F)
        → (crossed_sides a ≡ crossed_sides o) × (e ≡ f) × (M ≡ F) → EndsIn f F a → EndsIn e M o → a ≡ o
    end_of_same some a o f e F M h comes same k m = same_end f F h comes some a o k (subst (λ x. EndsIn x F o) same.1 (subst (λ w. EndsIn e w o) same.2 m)) same.0

    -- any two ends of a path are the same
    pub end_unique : (a o : PathEnd X) → IsEnd R IsPositive G c v n a → IsEnd R IsPositive G c v n o → a ≡ o
    end_unique a o k j = go (reached a k) (reached o j)
      where
        in_sector : (d : PathEnd X) → Reached d → InSectorOf R IsPositive G c v
        in_sector d r = words.sector_of_reaches R IsPositive G v c (crossed_sides d) r.0 r.1 r.2

        by_sector : InSectorOf R IsPositive G c v → Reached a → Reached o → a ≡ o
        by_sector (at_start h) r t =
            let first = along_side.no_word_along_side L test g (crossed_sides a) r.0 r.1 h r.2 in
            let second = along_side.no_word_along_side L test g (crossed_sides o) t.0 t.1 h t.2 in
            end_of_same (directions.dot_positive-ne-zero_right L h.same_way) a o r.0 t.0 r.1 t.1 (subst (IsSide G) (sym first.1) hc)
            (λ s. absurd (turns.along_not_left L h s.left_of_start)) (first.0 ∙ sym second.0, second.1 ∙ sym first.1, second.2 ∙ sym first.2) r.3 t.3
        by_sector (inside p q) r t =
            let s : Strict = record { left_of_start = p; right_of_end = q } in
            let there = words.path_comes_into L test g (crossed_sides a) c r.0 (zero_vector R) r.1 hc (begins refl s) (words.path_of_reaches R IsPositive G v c (crossed_sides a) r.0 r.1 r.2) in
            end_of_same (directions.cross_positive-ne-zero_right L p) a o r.0 t.0 r.1 t.1 there.0 (λ z. there.1) (same_word s a o r.0 t.0 r.1 t.1 r.2 t.2 r.3 t.3) r.3 t.3

        go : (¬ InSectorOf R IsPositive G c v × (a ≡ outside_sector)) ⊎ Reached a → (¬ InSectorOf R IsPositive G c v × (o ≡ outside_sector)) ⊎ Reached o → a ≡ o
        go (inl r) (inl t) = r.1 ∙ sym t.1
        go (inl r) (inr t) = absurd (r.0 (in_sector o t))
        go (inr r) (inl t) = absurd (t.0 (in_sector a r))
        go (inr r) (inr t) = by_sector (in_sector a r) r t

    -- where a path from c crosses the sides of a word, no more than n, its end within n crossings has a word that continues it
    pub end_continues : (word : List X) (f : X) (F : Vector A) → Reaches R IsPositive G v c word f F → (a : PathEnd X) → IsEnd R IsPositive G c v n a → length word ≤ n
        → (more : List X) × (crossed_sides a ≡ word ++ more)
    end_continues word f F k a j short = go (reached a j)
      where
        strictly : Strict → Reached a → (more : List X) × (crossed_sides a ≡ word ++ more)
        strictly s r = next (words.paths_continue L test g word (crossed_sides a) c f r.0 (zero_vector R) F r.1 hc (begins refl s) (words.path_of_reaches R IsPositive G v c word f F k) there)
          where
            there : PathTo c (zero_vector R) (crossed_sides a) r.0 r.1
            there = words.path_of_reaches R IsPositive G v c (crossed_sides a) r.0 r.1 r.2

            at_end : IsSide G r.0 × ComesInto R IsPositive G v r.0 r.1
            at_end = words.path_comes_into L test g (crossed_sides a) c r.0 (zero_vector R) r.1 hc (begins refl s) there

            next : ((more : List X) × (crossed_sides a ≡ word ++ more) × PathTo f F more r.0 r.1) ⊎ ((more : List X) × (word ≡ crossed_sides a ++ more) × PathTo r.0 r.1 more f F)
                → (more : List X) × (crossed_sides a ≡ word ++ more)
            next (inl m) = (m.0, m.1)
            next (inr m) =
                let none = no_more s a r.0 f r.1 F m.0 word at_end.0 at_end.1 r.3 short m.1 m.2 in
                ([], nothing_more (crossed_sides a) word m.0 m.1 none ∙ sym (append-nil word))

        by_sector : InSectorOf R IsPositive G c v → Reached a → (more : List X) × (crossed_sides a ≡ word ++ more)
        by_sector (at_start h) r =
            let none = along_side.no_word_along_side L test g word f F h k in
            (crossed_sides a, ap (λ w. w ++ crossed_sides a) (sym none.0))
        by_sector (inside p q) r = strictly (record { left_of_start = p; right_of_end = q }) r

        go : (¬ InSectorOf R IsPositive G c v × (a ≡ outside_sector)) ⊎ Reached a → (more : List X) × (crossed_sides a ≡ word ++ more)
        go (inl r) = absurd (r.0 (words.sector_of_reaches R IsPositive G v c word f F k))
        go (inr r) = by_sector (words.sector_of_reaches R IsPositive G v c word f F k) r
