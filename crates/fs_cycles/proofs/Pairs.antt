-- A permutation and the same followed by a joining of the items in pairs: the numbers of their cycles and of the pairs have an even sum.
use Rattle.std.proofs.Common.{◌≡◌, ◌≢◌, ℕ, zero, suc, ◌+◌, ◌*◌, ◌≤◌, ◌⊎◌, List, [], ◌∷◌, length, refl, sym, ap, ◌∙◌, subst, inl, inr, arith}
use Rattle.fs_cycles.specs.Cycles.{Permutes, Pairs, FollowedByPairs, Represents, iterate, LeadsTo}
use Rattle.fs_lists.specs.Members.{IsIn, IsDistinct, IsDecidable}
use Rattle.fs_lists.proofs.Removal.{without, length-without, in_without, without_or, apart_without, apart_from, apart_by}
use Rattle.fs_cycles.proofs.Iterates.{iterate_after, iterate_in}
use Rattle.fs_cycles.proofs.Representatives.{representatives, same_length}
use Rattle.fs_cycles.proofs.Exchange.{IsExchanged, exchanged}

module _ {X : Type 0} {f g : X → X} {xs : List X} (same : (x : X) → IsIn x xs → g x ≡ f x) where
  -- two maps that agree on the items lead to the same items

  pub permutes_same : Permutes f xs → Permutes g xs
  permutes_same P =
      record {
        inside = λ x h. subst (λ w. IsIn w xs) (sym (same x h)) (P.inside x h);
        one_to_one = λ x y h k e. P.one_to_one x y h k (sym (same x h) ∙ e ∙ same y k);
      }

  iterate_same : Permutes f xs → (n : ℕ) (x : X) → IsIn x xs → iterate g n x ≡ iterate f n x
  iterate_same P zero x h = refl
  iterate_same P (suc n) x h =
      iterate_after g n x
      ∙ ap g (iterate_same P n x h)
      ∙ same (iterate f n x) (iterate_in P n x h)
      ∙ sym (iterate_after f n x)

  leads_same : Permutes f xs → (x y : X) → IsIn x xs → LeadsTo f x y → LeadsTo g x y
  leads_same P x y h k = (k.0, iterate_same P k.0 x h ∙ k.1)

  leads_same_back : Permutes f xs → (x y : X) → IsIn x xs → LeadsTo g x y → LeadsTo f x y
  leads_same_back P x y h k = (k.0, sym (iterate_same P k.0 x h) ∙ k.1)

  pub represents_same : Permutes f xs → (chosen : List X) → Represents f xs chosen → Represents g xs chosen
  represents_same P chosen R =
      record {
        there = R.there;
        each = λ x h. let r = R.each x h in (r.0, r.1, leads_same P r.0 x (R.there r.0 r.1) r.2);
        apart = apart_by (LeadsTo f) (LeadsTo g) chosen (λ u v hu hv. leads_same_back P u v (R.there u hu)) R.apart;
      }

-- the two items of a pair
pub record Pair (X : Type 0) : Type 0 where
  pub one : X
  pub two : X

module _ {X : Type 0} (decide : IsDecidable X) where
  -- a and b exchanged
  exchange_by : (a b x : X) → (x ≡ a) ⊎ (x ≢ a) → (x ≡ b) ⊎ (x ≢ b) → X
  exchange_by a b x (inl e) d = b
  exchange_by a b x (inr n) (inl e) = a
  exchange_by a b x (inr n) (inr m) = x

  pub exchange : X → X → X → X
  exchange a b x = exchange_by a b x (decide x a) (decide x b)

  first_by : (a b x : X) (c : (x ≡ a) ⊎ (x ≢ a)) (d : (x ≡ b) ⊎ (x ≢ b)) → x ≡ a → exchange_by a b x c d ≡ b
  unfolding exchange_by
  first_by a b x (inl e) d h = refl
  first_by a b x (inr n) d h = absurd (n h)

  second_by : (a b x : X) (c : (x ≡ a) ⊎ (x ≢ a)) (d : (x ≡ b) ⊎ (x ≢ b)) → x ≡ b → exchange_by a b x c d ≡ a
  unfolding exchange_by
  second_by a b x (inl e) d h = sym h ∙ e
  second_by a b x (inr n) (inl e) h = refl
  second_by a b x (inr n) (inr m) h = absurd (m h)

  other_by : (a b x : X) (c : (x ≡ a) ⊎ (x ≢ a)) (d : (x ≡ b) ⊎ (x ≢ b)) → x ≢ a → x ≢ b → exchange_by a b x c d ≡ x
  unfolding exchange_by
  other_by a b x (inl e) d n m = absurd (n e)
  other_by a b x (inr _) (inl e) n m = absurd (m e)
  other_by a b x (inr _) (inr _) n m = refl

  pub exchange_first : (a b : X) → exchange a b a ≡ b
  unfolding exchange
  exchange_first a b = first_by a b a (decide a a) (decide a b) refl

  pub exchange_second : (a b : X) → exchange a b b ≡ a
  unfolding exchange
  exchange_second a b = second_by a b b (decide b a) (decide b b) refl

  pub exchange_other : (a b x : X) → x ≢ a → x ≢ b → exchange a b x ≡ x
  unfolding exchange
  exchange_other a b x n m = other_by a b x (decide x a) (decide x b) n m

  exchange_twice : (a b x : X) → exchange a b (exchange a b x) ≡ x
  exchange_twice a b x =
      elim (decide x a) [
        | inl e ↦ rw (e, exchange_first a b) (exchange_second a b)
        | inr n ↦
            elim (decide x b) [
              | inl e ↦ rw (e, exchange_second a b) (exchange_first a b)
              | inr m ↦ ap (exchange a b) (exchange_other a b x n m) ∙ exchange_other a b x n m
            ]
      ]

  exchange_in : (xs : List X) (a b x : X) → IsIn a xs → IsIn b xs → IsIn x xs → IsIn (exchange a b x) xs
  exchange_in xs a b x ha hb h =
      elim (decide x a) [
        | inl e ↦ subst (λ w. IsIn w xs) (sym (ap (exchange a b) e ∙ exchange_first a b)) hb
        | inr n ↦
            elim (decide x b) [
              | inl e ↦ subst (λ w. IsIn w xs) (sym (ap (exchange a b) e ∙ exchange_second a b)) ha
              | inr m ↦ subst (λ w. IsIn w xs) (sym (exchange_other a b x n m)) h
            ]
      ]

  pub permutes_exchange : (f : X → X) (xs : List X) (a b : X) → IsIn a xs → IsIn b xs → Permutes f xs → Permutes (λ x. exchange a b (f x)) xs
  permutes_exchange f xs a b ha hb P =
      record {
        inside = λ x h. exchange_in xs a b (f x) ha hb (P.inside x h);
        one_to_one = λ x y h k e.
            P.one_to_one x y h k (sym (exchange_twice a b (f x)) ∙ ap (exchange a b) e ∙ exchange_twice a b (f y));
      }

  -- what `exchange` makes of f is f with a and b exchanged after it
  pub is_exchanged : (f : X → X) (xs : List X) (a b : X) → IsExchanged f (λ x. exchange a b (f x)) a b xs
  is_exchanged f xs a b =
      record {
        first = λ x h e. ap (exchange a b) e ∙ exchange_first a b;
        second = λ x h e. ap (exchange a b) e ∙ exchange_second a b;
        other = λ x h. exchange_other a b (f x);
      }

  -- f followed by an exchange has one cycle more, or one fewer
  pub exchange_cycles : (f : X → X) (xs : List X) (a b : X) → a ≢ b → IsIn a xs → IsIn b xs → Permutes f xs → (chosen others : List X)
      → Represents f xs chosen → Represents (λ x. exchange a b (f x)) xs others
      → (length chosen ≡ suc (length others)) ⊎ (length others ≡ suc (length chosen))
  exchange_cycles f xs a b apart ha hb P =
      exchanged decide a b apart P (permutes_exchange f xs a b ha hb P) (is_exchanged f xs a b) ha hb

  -- ---- many exchanges

  -- the pairs exchanged, the last of the list first
  abbrev pub exchanges : List (Pair X) → X → X
  exchanges [] x = x
  exchanges (p ∷ ps) x = exchange p.one p.two (exchanges ps x)

  -- each pair is of two items of the list
  abbrev pub AreOf : List X → List (Pair X) → Type 0
  AreOf xs [] = Unit {0}
  AreOf xs (p ∷ ps) = (IsIn p.one xs × IsIn p.two xs × (p.one ≢ p.two)) × AreOf xs ps

  permutes_exchanges : (f : X → X) (xs : List X) (ps : List (Pair X)) → AreOf xs ps → Permutes f xs → Permutes (λ x. exchanges ps (f x)) xs
  permutes_exchanges f xs [] o P = P
  permutes_exchanges f xs (p ∷ ps) o P =
      permutes_exchange (λ x. exchanges ps (f x)) xs p.one p.two o.0.0 o.0.1 (permutes_exchanges f xs ps o.1 P)

  exchanges_even : (f : X → X) (xs : List X) (ps : List (Pair X)) → AreOf xs ps → Permutes f xs
      → (chosen others : List X) → Represents f xs chosen → Represents (λ x. exchanges ps (f x)) xs others
      → (m : ℕ) × (length chosen + length others + length ps ≡ 2 * m)
  exchanges_even f xs [] o P chosen others R S =
      (length chosen, omega (arith, same_length decide P chosen others R S))
  exchanges_even f xs (p ∷ ps) o P chosen others R S =
      let Q = permutes_exchanges f xs ps o.1 P in
      let between = representatives decide Q in
      let before = exchanges_even f xs ps o.1 P chosen between.0 R between.1 in
      let sum : length chosen + length between.0 + length ps ≡ 2 * before.0 = before.1 in
      elim (exchange_cycles (λ x. exchanges ps (f x)) xs p.one p.two o.0.2 o.0.0 o.0.1 Q between.0 others between.1 S) [
        | inl e ↦ (before.0, omega (arith, e))
        | inr e ↦ (suc before.0, omega (arith, e))
      ]

  -- ---- a joining in pairs is made of exchanges

  record IsMade (s : X → X) (xs : List X) (ps : List (Pair X)) : Type 0 where
    of_items : AreOf xs ps
    half : 2 * length ps ≡ length xs
    on : (x : X) → IsIn x xs → exchanges ps x ≡ s x
    still : (x : X) → ¬ IsIn x xs → exchanges ps x ≡ x

  of_more : (ys zs : List X) (ps : List (Pair X)) → ((x : X) → IsIn x ys → IsIn x zs) → AreOf ys ps → AreOf zs ps
  of_more ys zs [] to o = tt
  of_more ys zs (p ∷ ps) to o = ((to p.one o.0.0, to p.two o.0.1, o.0.2), of_more ys zs ps to o.1)

  module _ {s : X → X} (a : X) (rest : List X) (D : IsDistinct (a ∷ rest)) (P : Pairs s (a ∷ rest)) where
    partner_in : IsIn (s a) rest
    partner_in = elim (P.inside a (inl refl)) [ inl e ↦ absurd (P.moved a (inl refl) e) | inr h ↦ h ]

    -- the items without a and its partner
    abbrev fewer : List X
    fewer = without (s a) rest partner_in

    fewer_in : (x : X) → IsIn x fewer → IsIn x (a ∷ rest)
    fewer_in x m = inr (in_without (s a) rest partner_in x m)

    not_first : ¬ IsIn a fewer
    not_first m = D.0 a (in_without (s a) rest partner_in a m) refl

    not_partner : ¬ IsIn (s a) fewer
    not_partner m = apart_from (λ x y. x ≡ y) (s a) rest partner_in (s a) (λ u v _ _ e. sym e) D.1 m refl

    fewer_inside : (x : X) → IsIn x fewer → IsIn (s x) fewer
    fewer_inside x m =
        elim (P.inside x (fewer_in x m)) [
          | inl e ↦ absurd (not_partner (subst (λ w. IsIn w fewer) (sym (P.back x (fewer_in x m)) ∙ ap s e) m))
          | inr h ↦
              elim (without_or (s a) rest partner_in (s x) h) [
                | inl e ↦
                    absurd (not_first (subst (λ w. IsIn w fewer) (sym (P.back x (fewer_in x m)) ∙ ap s e ∙ P.back a (inl refl)) m))
                | inr k ↦ k
              ]
        ]

    fewer_pairs : Pairs s fewer
    fewer_pairs =
        record {
          inside = fewer_inside;
          back = λ x m. P.back x (fewer_in x m);
          moved = λ x m. P.moved x (fewer_in x m);
        }

    fewer_distinct : IsDistinct fewer
    fewer_distinct = apart_without (λ x y. x ≡ y) (s a) rest partner_in D.1

    made_more : (ps : List (Pair X)) → IsMade s fewer ps → IsMade s (a ∷ rest) (record { one = a; two = s a } ∷ ps)
    made_more ps M =
        record {
          of_items = ((inl refl, P.inside a (inl refl), λ e. P.moved a (inl refl) (sym e)), of_more fewer (a ∷ rest) ps fewer_in M.of_items);
          half = omega (arith, M.half, length-without (s a) rest partner_in);
          on = on;
          still = λ x n.
              ap (exchange a (s a)) (M.still x (λ m. n (fewer_in x m)))
              ∙ exchange_other a (s a) x (λ e. n (inl e)) (λ e. n (inr (subst (λ w. IsIn w rest) (sym e) partner_in)));
        }
      where
        at_first : exchange a (s a) (exchanges ps a) ≡ s a
        at_first = ap (exchange a (s a)) (M.still a not_first) ∙ exchange_first a (s a)

        at_partner : exchange a (s a) (exchanges ps (s a)) ≡ s (s a)
        at_partner =
            ap (exchange a (s a)) (M.still (s a) not_partner) ∙ exchange_second a (s a) ∙ sym (P.back a (inl refl))

        at_other : (x : X) → IsIn x fewer → exchange a (s a) (exchanges ps x) ≡ s x
        at_other x m =
            ap (exchange a (s a)) (M.on x m)
            ∙ exchange_other a (s a) (s x)
            (λ e. not_first (subst (λ w. IsIn w fewer) e (fewer_inside x m)))
            (λ e. not_partner (subst (λ w. IsIn w fewer) e (fewer_inside x m)))

        on : (x : X) → IsIn x (a ∷ rest) → exchange a (s a) (exchanges ps x) ≡ s x
        on x (inl e) = subst (λ w. exchange a (s a) (exchanges ps w) ≡ s w) (sym e) at_first
        on x (inr h) =
            elim (without_or (s a) rest partner_in x h) [
              | inl e ↦ subst (λ w. exchange a (s a) (exchanges ps w) ≡ s w) (sym e) at_partner
              | inr m ↦ at_other x m
            ]

  -- every joining in pairs is made of exchanges, one for each pair
  made : {s : X → X} (n : ℕ) (xs : List X) → length xs ≤ n → IsDistinct xs → Pairs s xs → (ps : List (Pair X)) × IsMade s xs ps
  made n [] l D P = ([], record { of_items = tt; half = refl; on = λ x h. absurd h; still = λ x _. refl })
  made zero (a ∷ rest) l D P = absurd (omega arith)
  made (suc n) (a ∷ rest) l D P =
      let smaller = made n (fewer a rest D P) (omega (arith, length-without _ rest (partner_in a rest D P))) (fewer_distinct a rest D P) (fewer_pairs a rest D P) in
      (_, made_more a rest D P smaller.0 smaller.1)

  -- what is followed by pairs permutes the items too
  pub permutes_followed : {f s h : X → X} {xs : List X} → FollowedByPairs f s h xs → Permutes h xs
  permutes_followed {f} {s} {h} {xs} F =
      permutes_same F.followed
      (record {
        inside = λ x m. F.pairs.inside (f x) (F.permutes.inside x m);
        one_to_one = λ x y m n e.
            F.permutes.one_to_one x y m n
            (sym (F.pairs.back (f x) (F.permutes.inside x m)) ∙ ap s e ∙ F.pairs.back (f y) (F.permutes.inside y n));
      })

  -- f followed by a joining in e pairs: the cycles before, the cycles after and the pairs are even in number together
  pub even_with_pairs : {f s h : X → X} {xs : List X} (chosen others : List X) (e : ℕ)
      → FollowedByPairs f s h xs → Represents f xs chosen → Represents h xs others → 2 * e ≡ length xs
      → (m : ℕ) × (length chosen + length others + e ≡ 2 * m)
  even_with_pairs {f} {s} {h} {xs} chosen others e F R S pairs =
      let M = made (length xs) xs (omega arith) F.distinct F.pairs in
      let to : (x : X) → IsIn x xs → exchanges M.0 (f x) ≡ h x =
      λ x m. M.1.on (f x) (F.permutes.inside x m) ∙ sym (F.followed x m) in
      let even =
      exchanges_even f xs M.0 M.1.of_items F.permutes chosen others R (represents_same to (permutes_followed F) others S) in
      (even.0, omega (arith, M.1.half, even.1))
