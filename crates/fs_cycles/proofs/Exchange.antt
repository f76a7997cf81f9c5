-- A permutation followed by the exchange of two items has one cycle more, or one fewer.
use Rattle.std.proofs.Common.{◌≡◌, ◌≢◌, ℕ, zero, suc, ◌%◌, ◌<◌, ◌⊎◌, List, length, refl, sym, ap, ◌∙◌, subst, inl, inr, arith, mod-lt, zero-lt-suc}
use Rattle.fs_cycles.specs.Cycles.{Permutes, Represents, iterate, LeadsTo}
use Rattle.fs_lists.specs.Members.{IsIn, IsDecidable}
use Rattle.fs_lists.proofs.Removal.{without, length-without, in_without, without_or, apart_without, apart_by, apart_from}
use Rattle.fs_cycles.proofs.Iterates.{first_below, iterate_after, iterate-mod, leads_refl, leads_trans, iterate_in, returns, leads_symm}
use Rattle.fs_cycles.proofs.Representatives.{same_length}

module _ {X : Type 0} where
  -- h doesn't lead from a to b where it returns to a before it meets b
  unmet : (h : X → X) (a b : X) (m : ℕ) → iterate h (suc m) a ≡ a → a ≢ b → ((k : ℕ) → k < m → iterate h (suc k) a ≢ b) → ¬ LeadsTo h a b
  unmet h a b m e apart away k =
      among (k.0 % suc m) (mod-lt k.0 (zero-lt-suc m)) (sym (iterate-mod h m a e k.0) ∙ k.1)
    where
      among : (r : ℕ) → r < suc m → iterate h r a ≢ b
      among zero l d = apart d
      among (suc r) l d = away r (omega arith) d

  -- g is f with a and b exchanged after it
  pub record IsExchanged (f g : X → X) (a b : X) (xs : List X) : Type 0 where
    pub first : (x : X) → IsIn x xs → f x ≡ a → g x ≡ b
    pub second : (x : X) → IsIn x xs → f x ≡ b → g x ≡ a
    pub other : (x : X) → IsIn x xs → f x ≢ a → f x ≢ b → g x ≡ f x

module _ {X : Type 0} (decide : IsDecidable X) {xs : List X} (a b : X) (apart : a ≢ b) where
  -- f is g with a and b exchanged after it
  back : {f g : X → X} → IsExchanged f g a b xs → IsExchanged g f a b xs
  back {f} {g} E =
      record {
        first = λ x h d.
            elim (decide (f x) a) [
              | inl e ↦ absurd (apart (sym d ∙ E.first x h e))
              | inr not_a ↦ elim (decide (f x) b) [ inl e ↦ e | inr not_b ↦ absurd (not_a (sym (E.other x h not_a not_b) ∙ d)) ]
            ];
        second = λ x h d.
            elim (decide (f x) a) [
              | inl e ↦ e
              | inr not_a ↦
                  elim (decide (f x) b) [
                    | inl e ↦ absurd (apart (sym (E.second x h e) ∙ d))
                    | inr not_b ↦ absurd (not_b (sym (E.other x h not_a not_b) ∙ d))
                  ]
            ];
        other = λ x h away_a away_b.
            elim (decide (f x) a) [
              | inl e ↦ absurd (away_b (E.first x h e))
              | inr not_a ↦ elim (decide (f x) b) [ inl e ↦ absurd (away_a (E.second x h e)) | inr not_b ↦ sym (E.other x h not_a not_b) ]
            ];
      }

  module _ {f g : X → X} (P : Permutes f xs) (Q : Permutes g xs) (E : IsExchanged f g a b xs) (ha : IsIn a xs) (hb : IsIn b xs) where
    -- f and g go one way from a until f meets a or b
    same : (m : ℕ) → ((k : ℕ) → k < m → ¬ ((iterate f (suc k) a ≡ a) ⊎ (iterate f (suc k) a ≡ b)))
        → (k : ℕ) → k < suc m → iterate g k a ≡ iterate f k a
    same m none zero l = refl
    same m none (suc k) l =
        iterate_after g k a
        ∙ ap g (same m none k (omega arith))
        ∙ E.other (iterate f k a) (iterate_in P k a ha)
        (λ e. none k (omega arith) (inl (iterate_after f k a ∙ e)))
        (λ e. none k (omega arith) (inr (iterate_after f k a ∙ e)))
        ∙ sym (iterate_after f k a)

    next : (m : ℕ) → ((k : ℕ) → k < m → ¬ ((iterate f (suc k) a ≡ a) ⊎ (iterate f (suc k) a ≡ b)))
        → iterate g (suc m) a ≡ g (iterate f m a)
    next m none = iterate_after g m a ∙ ap g (same m none m (omega arith))

    -- one of the two leads from a to b, and the other doesn't
    parted : ((¬ LeadsTo f a b) × LeadsTo g a b) ⊎ ((¬ LeadsTo g a b) × LeadsTo f a b)
    parted =
        let r = returns decide P a ha in
        elim (first_below (λ k. (iterate f (suc k) a ≡ a) ⊎ (iterate f (suc k) a ≡ b)) (λ k. either (iterate f (suc k) a)) (suc r.0)) [
          | inl s ↦ meets s.0 s.3 s.2
          | inr none ↦ absurd (none r.0 (omega arith) (inl r.2))
        ]
      where
        either : (x : X) → ((x ≡ a) ⊎ (x ≡ b)) ⊎ ¬ ((x ≡ a) ⊎ (x ≡ b))
        either x =
            elim (decide x a) [
              | inl e ↦ inl (inl e)
              | inr not_a ↦
                  elim (decide x b) [
                    | inl e ↦ inl (inr e)
                    | inr not_b ↦ inr (λ c. elim c [ inl e ↦ not_a e | inr e ↦ not_b e ])
                  ]
            ]

        meets : (m : ℕ) → ((k : ℕ) → k < m → ¬ ((iterate f (suc k) a ≡ a) ⊎ (iterate f (suc k) a ≡ b)))
            → (iterate f (suc m) a ≡ a) ⊎ (iterate f (suc m) a ≡ b)
            → ((¬ LeadsTo f a b) × LeadsTo g a b) ⊎ ((¬ LeadsTo g a b) × LeadsTo f a b)
        meets m none (inl e) =
            inl (
              unmet f a b m e apart (λ k l d. none k l (inr d)),
              (suc m, next m none ∙ E.first (iterate f m a) (iterate_in P m a ha) (sym (iterate_after f m a) ∙ e)),
            )
        meets m none (inr e) =
            inr (
              unmet g a b m
                  (next m none ∙ E.second (iterate f m a) (iterate_in P m a ha) (sym (iterate_after f m a) ∙ e))
                  apart
                  (λ k l d. none k l (inr (sym (same m none (suc k) (omega arith)) ∙ d))),
              (suc m, e),
            )

    -- where f doesn't lead from a to b, and g does: the cycles of f at a and b are one of g, and the others stay

    module _ (away : ¬ LeadsTo f a b) (leads : LeadsTo g a b) where
      kept_step : (x : X) → IsIn x xs → LeadsTo g x (f x)
      kept_step x h =
          elim (decide (f x) a) [
            | inl e ↦
                subst (λ w. LeadsTo g x w) (sym e) (leads_trans g x b a (1, E.first x h e) (leads_symm decide Q a b ha leads))
            | inr not_a ↦
                elim (decide (f x) b) [
                  | inl e ↦ subst (λ w. LeadsTo g x w) (sym e) (leads_trans g x a b (1, E.second x h e) leads)
                  | inr not_b ↦ (1, E.other x h not_a not_b)
                ]
          ]

      kept : (n : ℕ) (x : X) → IsIn x xs → LeadsTo g x (iterate f n x)
      kept zero x h = leads_refl g x
      kept (suc n) x h = leads_trans g x (f x) (iterate f n (f x)) (kept_step x h) (kept n (f x) (P.inside x h))

      still : (x y : X) → IsIn x xs → LeadsTo f x y → LeadsTo g x y
      still x y h k = subst (λ w. LeadsTo g x w) k.1 (kept k.0 x h)

      abbrev IsNear : X → Type 0
      IsNear x = LeadsTo f a x ⊎ LeadsTo f b x

      near_before : (x y : X) → IsIn x xs → LeadsTo f x y → IsNear y → IsNear x
      near_before x y h k (inl l) = inl (leads_trans f a y x l (leads_symm decide P x y h k))
      near_before x y h k (inr l) = inr (leads_trans f b y x l (leads_symm decide P x y h k))

      near_after : (x y : X) → IsNear x → LeadsTo f x y → IsNear y
      near_after x y (inl l) k = inl (leads_trans f a x y l k)
      near_after x y (inr l) k = inr (leads_trans f b x y l k)

      -- what g joins, f joined, or both are of the cycle of a or b
      merged : (n : ℕ) (x : X) → IsIn x xs → LeadsTo f x (iterate g n x) ⊎ (IsNear x × IsNear (iterate g n x))
      merged zero x h = inl (leads_refl f x)
      merged (suc n) x h =
          let later = merged n (g x) (Q.inside x h) in
          elim (decide (f x) a) [
            | inl e ↦ inr (near_before x a h (1, e) (inl (leads_refl f a)), near_end x (inr (0, sym (E.first x h e))) later)
            | inr not_a ↦
                elim (decide (f x) b) [
                  | inl e ↦ inr (near_before x b h (1, e) (inr (leads_refl f b)), near_end x (inl (0, sym (E.second x h e))) later)
                  | inr not_b ↦
                      let one : LeadsTo f x (g x) = (1, sym (E.other x h not_a not_b)) in
                      elim later [
                        | inl k ↦ inl (leads_trans f x (g x) (iterate g n (g x)) one k)
                        | inr c ↦ inr (near_before x (g x) h one c.0, c.1)
                      ]
                ]
          ]
        where
          near_end : (x : X) → IsNear (g x) → LeadsTo f (g x) (iterate g n (g x)) ⊎ (IsNear (g x) × IsNear (iterate g n (g x))) → IsNear (iterate g n (g x))
          near_end x c (inl k) = near_after (g x) (iterate g n (g x)) c k
          near_end x c (inr d) = d.1

      module _ (chosen : List X) (R : Represents f xs chosen) where
        abbrev first_chosen : (r : X) × IsIn r chosen × LeadsTo f r a
        first_chosen = R.each a ha

        abbrev second_chosen : (r : X) × IsIn r chosen × LeadsTo f r b
        second_chosen = R.each b hb

        abbrev others : List X
        others = without second_chosen.0 chosen second_chosen.1

        not_near_b : (x : X) → IsIn x others → ¬ LeadsTo f b x
        not_near_b x m k =
            apart_from (LeadsTo f) second_chosen.0 chosen second_chosen.1 x (λ u v hu hv. leads_symm decide P u v (R.there u hu)) R.apart m
            (leads_trans f second_chosen.0 b x second_chosen.2 k)

        there_others : (x : X) → IsIn x others → IsIn x xs
        there_others x m = R.there x (in_without second_chosen.0 chosen second_chosen.1 x m)

        near_both : (x y : X) → IsIn x others → IsIn y others → IsNear x → IsNear y → LeadsTo f x y
        near_both x y m n (inl k) (inl l) = leads_trans f x a y (leads_symm decide P a x ha k) l
        near_both x y m n (inr k) l = absurd (not_near_b x m k)
        near_both x y m n (inl k) (inr l) = absurd (not_near_b y n l)

        was_joined : (x y : X) → IsIn x others → IsIn y others → LeadsTo g x y → LeadsTo f x y
        was_joined x y m n k =
            elim (subst (λ w. LeadsTo f x w ⊎ (IsNear x × IsNear w)) k.1 (merged k.0 x (there_others x m))) [
              | inl l ↦ l
              | inr c ↦ near_both x y m n c.0 c.1
            ]

        first_in_others : IsIn first_chosen.0 others
        first_in_others =
            elim (without_or second_chosen.0 chosen second_chosen.1 first_chosen.0 first_chosen.1) [
              | inl e ↦
                  absurd (away (
                  leads_trans f a first_chosen.0 b
                  (leads_symm decide P first_chosen.0 a (R.there first_chosen.0 first_chosen.1) first_chosen.2)
                  (subst (λ w. LeadsTo f w b) (sym e) second_chosen.2)
                  ))
              | inr m ↦ m
            ]

        first_to_second : LeadsTo g first_chosen.0 second_chosen.0
        first_to_second =
            leads_trans g first_chosen.0 a second_chosen.0
            (still first_chosen.0 a (R.there first_chosen.0 first_chosen.1) first_chosen.2)
            (leads_trans g a b second_chosen.0 leads (still b second_chosen.0 hb (leads_symm decide P second_chosen.0 b (R.there second_chosen.0 second_chosen.1) second_chosen.2)))

        each_other : (x : X) → IsIn x xs → (r : X) × IsIn r others × LeadsTo g r x
        each_other x h =
            let r = R.each x h in
            let goes = still r.0 x (R.there r.0 r.1) r.2 in
            elim (without_or second_chosen.0 chosen second_chosen.1 r.0 r.1) [
              | inl e ↦ (first_chosen.0, first_in_others, leads_trans g first_chosen.0 second_chosen.0 x first_to_second (subst (λ w. LeadsTo g w x) e goes))
              | inr m ↦ (r.0, m, goes)
            ]

        others_represent : Represents g xs others
        others_represent =
            record {
              there = there_others;
              each = each_other;
              apart =
                  apart_by (LeadsTo f) (LeadsTo g) others was_joined (apart_without (LeadsTo f) second_chosen.0 chosen second_chosen.1 R.apart);
            }

      joined : (chosen less : List X) → Represents f xs chosen → Represents g xs less → length chosen ≡ suc (length less)
      joined chosen less R S =
          length-without (second_chosen chosen R).0 chosen (second_chosen chosen R).1
          ∙ ap suc (same_length decide Q (others chosen R) less (others_represent chosen R) S)

  -- representatives after an exchange: one more, or one fewer
  pub exchanged : {f g : X → X} → Permutes f xs → Permutes g xs → IsExchanged f g a b xs → IsIn a xs → IsIn b xs
      → (chosen others : List X) → Represents f xs chosen → Represents g xs others
      → (length chosen ≡ suc (length others)) ⊎ (length others ≡ suc (length chosen))
  exchanged P Q E ha hb chosen others R S =
      elim (parted P Q E ha hb) [
        | inl h ↦ inl (joined P Q E ha hb h.0 h.1 chosen others R S)
        | inr h ↦ inr (joined Q P (back E) ha hb h.0 h.1 others chosen S R)
      ]
