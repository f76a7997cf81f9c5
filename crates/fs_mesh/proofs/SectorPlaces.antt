-- The places of the sector test: after other steps they are counted on, and there are nine.
use Rattle.std.proofs.Common.{◌≡◌, ℕ, ◌+◌, ◌≤◌, Bool, Result, Ok, Err, refl, sym, ap, ◌∙◌, arith}
use Rattle.std.specs.declared.cmp.Ordering.{Ordering}
use Rattle.std.specs.declared.cmp.Ordering.TheVariants.{Less, Equal, Greater}
use Rattle.fs_quadratic.specs.Ring.{Quadratic, sign}
use Rattle.fs_quadratic.specs.Checked.{place, shifted, ◌>>=◌, IsFirstOfThree, first, second, third}
use Rattle.fs_quadratic.specs.declared.steps.Place.{Place}
use Rattle.fs_plane.specs.Formulas.{cross_after, dot_after, is_above_zero, by_turn, in_sector_after}
use Rattle.fs_plane.specs.Vector.{PlaneVector, vector_neg}
use Rattle.fs_plane.proofs.FormulaLaws.{cross_stops, dot_stops, cross_after-shifted, dot_after-shifted}

-- ---- counted on

after-shifted : {A B : Type 0} (n : ℕ) (r : Result A Place) (f g : A → Result B Place) → ((x : A) → f x ≡ shifted n (g x)) → shifted n r >>= f ≡ shifted n (r >>= g)
after-shifted n (Ok x) f g h = h x
after-shifted n (Err stop) f g h = refl

above_zero-shifted : (n d : ℕ) (r : Result Quadratic Place) → is_above_zero d (shifted n r) ≡ shifted n (is_above_zero d r)
above_zero-shifted n d (Ok x) = refl
above_zero-shifted n d (Err stop) = refl

by_turn-shifted : (n : ℕ) (o : Ordering) (along ends : Result Bool Place) → by_turn o (shifted n along) (shifted n ends) ≡ shifted n (by_turn o along ends)
by_turn-shifted n Less along ends = refl
by_turn-shifted n Equal along ends = refl
by_turn-shifted n Greater along ends = refl

shifted-shifted : {A : Type 0} (n k : ℕ) (r : Result A Place) → shifted (n + k) r ≡ shifted n (shifted k r)
shifted-shifted n k (Ok x) = refl
shifted-shifted n k (Err stop) = let sum : (n + k) + stop.0 ≡ n + (k + stop.0) = omega arith in ap (λ j. Err (place j)) sum

test-shifted : (n k d : ℕ) (formula : ℕ → Result Quadratic Place) → ((j : ℕ) → formula j ≡ shifted j (formula 0)) → is_above_zero d (formula (n + k)) ≡ shifted n (is_above_zero d (formula k))
test-shifted n k d formula law =
    ap (is_above_zero d) (law (n + k) ∙ shifted-shifted n k (formula 0) ∙ ap (shifted n) (sym (law k))) ∙ above_zero-shifted n d (formula k)

-- ---- within a number of places

-- the place of an error is at most n
abbrev AtMost : {A : Type 0} → ℕ → Result A Place → Type 0
AtMost n (Ok x) = Unit {0}
AtMost n (Err stop) = stop.0 ≤ n

at_most : {A : Type 0} (n : ℕ) (r : Result A Place) → ((stop : Place) → r ≡ Err stop → stop.0 ≤ n) → AtMost n r
at_most n (Ok x) h = tt
at_most n (Err stop) h = h stop refl

of_three : {P Q S : Type 0} (before : ℕ) (stop : Place) → IsFirstOfThree P Q S before stop → stop.0 ≤ before + 3
of_three before stop (first h e) = let at : stop.0 ≡ before + 1 = ap (λ p. p.0) e in omega arith
of_three before stop (second h k e) = let at : stop.0 ≡ before + 2 = ap (λ p. p.0) e in omega arith
of_three before stop (third h k l e) = let at : stop.0 ≡ before + 3 = ap (λ p. p.0) e in omega arith

after_at_most : {A B : Type 0} (n : ℕ) (r : Result A Place) (f : A → Result B Place) → AtMost n r → ((x : A) → AtMost n (f x)) → AtMost n (r >>= f)
after_at_most n (Ok x) f h k = k x
after_at_most n (Err stop) f h k = h

by_turn_at_most : (n : ℕ) (o : Ordering) (along ends : Result Bool Place) → AtMost n along → AtMost n ends → AtMost n (by_turn o along ends)
by_turn_at_most n Less along ends h k = tt
by_turn_at_most n Equal along ends h k = h
by_turn_at_most n Greater along ends h k = k

above_zero_at_most : (n d : ℕ) (r : Result Quadratic Place) → AtMost n r → AtMost n (is_above_zero d r)
above_zero_at_most n d (Ok x) h = tt
above_zero_at_most n d (Err stop) h = h

stops_at_most : (n : ℕ) (r : Result Bool Place) (stop : Place) → AtMost n r → r ≡ Err stop → stop.0 ≤ n
stops_at_most n (Ok x) stop h e = absurd cc
stops_at_most n (Err other) stop h e = let same : other ≡ stop = cc in let at : other.0 ≡ stop.0 = ap (λ p. p.0) same in omega (arith, h)

module _ (d : ℕ) (outgoing incoming v : PlaneVector) where
  -- after n other steps the sector test stops n places later
  pub in_sector_after-shifted : (n : ℕ) → in_sector_after n d outgoing incoming v ≡ shifted n (in_sector_after 0 d outgoing incoming v)
  unfolding in_sector_after
  in_sector_after-shifted n =
      ap (λ r. r >>= rest n) (cross_after-shifted n d outgoing v)
      ∙ after-shifted n (cross_after 0 d outgoing v) (rest n) (rest 0) (λ turn.
      (λ i. by_turn (sign d turn) (along i) (ends i)) ∙ by_turn-shifted n (sign d turn) (is_above_zero d (dot_after 3 d outgoing v)) (is_above_zero d (cross_after 6 d v (vector_neg incoming))))
    where
      rest : ℕ → Quadratic → Result Bool Place
      rest before turn = by_turn (sign d turn) (is_above_zero d (dot_after (before + 3) d outgoing v)) (is_above_zero d (cross_after (before + 6) d v (vector_neg incoming)))

      along : is_above_zero d (dot_after (n + 3) d outgoing v) ≡ shifted n (is_above_zero d (dot_after 3 d outgoing v))
      along = test-shifted n 3 d (λ j. dot_after j d outgoing v) (λ j. dot_after-shifted j d outgoing v)

      ends : is_above_zero d (cross_after (n + 6) d v (vector_neg incoming)) ≡ shifted n (is_above_zero d (cross_after 6 d v (vector_neg incoming)))
      ends = test-shifted n 6 d (λ j. cross_after j d v (vector_neg incoming)) (λ j. cross_after-shifted j d v (vector_neg incoming))

  cross_at_most : (before n : ℕ) (a b : PlaneVector) → before + 3 ≤ n → AtMost n (cross_after before d a b)
  cross_at_most before n a b l =
      at_most n (cross_after before d a b) (λ stop e. let bound = of_three before stop ((cross_stops before d a b stop).0 e) in omega arith)

  dot_at_most : (before n : ℕ) (a b : PlaneVector) → before + 3 ≤ n → AtMost n (dot_after before d a b)
  dot_at_most before n a b l =
      at_most n (dot_after before d a b) (λ stop e. let bound = of_three before stop ((dot_stops before d a b stop).0 e) in omega arith)

  -- the test has nine places
  pub sector_place_bound : (stop : Place) → in_sector_after 0 d outgoing incoming v ≡ Err stop → stop.0 ≤ 9
  unfolding in_sector_after
  sector_place_bound stop =
      stops_at_most 9 _ stop
      (after_at_most 9 (cross_after 0 d outgoing v) rest (cross_at_most 0 9 outgoing v (omega arith)) (λ turn.
      by_turn_at_most 9 (sign d turn) (is_above_zero d (dot_after 3 d outgoing v)) (is_above_zero d (cross_after 6 d v (vector_neg incoming)))
      (above_zero_at_most 9 d (dot_after 3 d outgoing v) (dot_at_most 3 9 outgoing v (omega arith)))
      (above_zero_at_most 9 d (cross_after 6 d v (vector_neg incoming)) (cross_at_most 6 9 v (vector_neg incoming) (omega arith)))))
    where
      rest : Quadratic → Result Bool Place
      rest turn = by_turn (sign d turn) (is_above_zero d (dot_after 3 d outgoing v)) (is_above_zero d (cross_after 6 d v (vector_neg incoming)))
