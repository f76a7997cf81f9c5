-- Every permutation of a finite list has a list that represents its cycles, and all such lists are equally long.
use Rattle.std.proofs.Common.{◌≡◌, ◌≤◌, ◌⊎◌, List, [], ◌∷◌, length, refl, sym, subst, inl, inr, arith}
use Rattle.fs_cycles.specs.Cycles.{Permutes, Represents, LeadsTo}
use Rattle.fs_lists.specs.Members.{IsIn, AreApart, IsDecidable}
use Rattle.fs_lists.proofs.Removal.{at_most_partners}
use Rattle.fs_cycles.proofs.Iterates.{leads_refl, leads_trans, leads_symm, decide_leads}

module _ {X : Type 0} {f : X → X} {xs : List X} (decide : IsDecidable X) (P : Permutes f xs) where
  -- an item of the list to which f leads from x, or none
  leads_to_one : (x : X) (ys : List X) → IsIn x xs → ((y : X) × IsIn y ys × LeadsTo f x y) ⊎ ((y : X) → IsIn y ys → ¬ LeadsTo f x y)
  leads_to_one x [] h = inr (λ y m. absurd m)
  leads_to_one x (y ∷ ys) h =
      elim (decide_leads decide P x y h) [
        | inl k ↦ inl (y, inl refl, k)
        | inr away ↦
            elim (leads_to_one x ys h) [
              | inl r ↦ inl (r.0, inr r.1, r.2)
              | inr none ↦ inr (λ z m. elim m [ inl e ↦ subst (λ w. ¬ LeadsTo f x w) (sym e) away | inr n ↦ none z n ])
            ]
      ]

  -- chosen represents the cycles that meet ys
  record Covers (ys chosen : List X) : Type 0 where
    there : (r : X) → IsIn r chosen → IsIn r ys
    each : (x : X) → IsIn x ys → (r : X) × IsIn r chosen × LeadsTo f r x
    apart : AreApart (LeadsTo f) chosen

  covers : (ys : List X) → ((y : X) → IsIn y ys → IsIn y xs) → (chosen : List X) × Covers ys chosen
  covers [] among = ([], record { there = λ r m. m; each = λ x m. absurd m; apart = tt })
  covers (y ∷ ys) among =
      let rest = covers ys (λ z m. among z (inr m)) in
      let c = rest.1 in
      elim (leads_to_one y rest.0 (among y (inl refl))) [
        | inl r ↦ (
          rest.0,
          record {
            there = λ z m. inr (c.there z m);
            each = λ x m.
                elim m [
                  | inl e ↦ (r.0, r.1, subst (λ w. LeadsTo f r.0 w) (sym e) (leads_symm decide P y r.0 (among y (inl refl)) r.2))
                  | inr n ↦ c.each x n
                ];
            apart = c.apart;
          },
        )
        | inr none ↦ (
          y ∷ rest.0,
          record {
            there = λ z m. elim m [ inl e ↦ inl e | inr n ↦ inr (c.there z n) ];
            each = λ x m.
                elim m [
                  | inl e ↦ (y, inl refl, subst (λ w. LeadsTo f y w) (sym e) (leads_refl f y))
                  | inr n ↦ let r = c.each x n in (r.0, inr r.1, r.2)
                ];
            apart = (none, c.apart);
          },
        )
      ]

  pub representatives : (chosen : List X) × Represents f xs chosen
  representatives =
      let r = covers xs (λ y m. m) in
      (r.0, record { there = r.1.there; each = r.1.each; apart = r.1.apart })

  at_most_representatives : (chosen others : List X) → Represents f xs chosen → Represents f xs others → length chosen ≤ length others
  at_most_representatives chosen others R S =
      at_most_partners (LeadsTo f) (λ x y. IsIn y xs × LeadsTo f y x) chosen others
      (λ x m. let r = S.each x (R.there x m) in (r.0, r.1, (S.there r.0 r.1, r.2)))
      (λ x w y m n p q. leads_trans f x y w (leads_symm decide P y x p.0 p.1) q.1)
      R.apart

  -- any two lists that represent the cycles are equally long
  pub same_length : (chosen others : List X) → Represents f xs chosen → Represents f xs others → length chosen ≡ length others
  same_length chosen others R S = omega (arith, at_most_representatives chosen others R S, at_most_representatives others chosen S R)
