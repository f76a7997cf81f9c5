-- The cycles of a permutation that steps back through blocks: one for each block. And what follows for a permutation after it that joins in pairs.
use Rattle.std.proofs.Common.{◌≡◌, ℕ, zero, suc, ◌+◌, ◌*◌, ◌<◌, List, map, length, refl, sym, ap, ◌∙◌, subst, arith}
use Rattle.std.specs.List.{range_with_len}
use Rattle.std.proofs.lemmas.List.FromFn.{length-map-range_with_len}
use Rattle.fs_cycles.specs.Cycles.{Permutes, FollowedByPairs, Represents, iterate, LeadsTo}
use Rattle.fs_lists.specs.Members.{IsIn, IsDecidable}
use Rattle.fs_cycles.specs.Blocks.{StepsBack}
use Rattle.fs_lists.proofs.Members.{in_map, in_map_cases, apart_map}
use Rattle.fs_lists.proofs.Ranges.{in_range, range_bounds, range_distinct}
use Rattle.fs_cycles.proofs.Iterates.{leads_symm}
use Rattle.fs_cycles.proofs.Pairs.{even_with_pairs}

-- the heads of n blocks
abbrev pub heads : {X : Type 0} → (ℕ → X) → ℕ → List X
heads head n = map head (range_with_len 0 n)

module _ {X : Type 0} {f : X → X} {xs : List X} {n : ℕ} {block place : X → ℕ} {head : ℕ → X} (P : Permutes f xs) (B : StepsBack f xs n block place head) where
  to_head : (p : ℕ) (x : X) → IsIn x xs → place x ≡ p → iterate f p x ≡ head (block x)
  to_head zero x h e = B.arrives x h e
  to_head (suc p) x h e = to_head p (f x) (P.inside x h) (B.steps x h p e) ∙ ap head (B.stays x h)

  one_block : (p : ℕ) (x : X) → IsIn x xs → block (iterate f p x) ≡ block x
  one_block zero x h = refl
  one_block (suc p) x h = one_block p (f x) (P.inside x h) ∙ B.stays x h

  heads_in : (r : X) → IsIn r (heads head n) → (i : ℕ) × (i < n) × (r ≡ head i)
  heads_in r h = let i = in_map_cases head r (range_with_len 0 n) h in let b = range_bounds 0 n i.0 i.1 in (i.0, omega (arith, b.1), i.2)

  -- the heads of the blocks represent the cycles
  pub heads_represent : IsDecidable X → Represents f xs (heads head n)
  heads_represent decide =
      record {
        there = λ r h. let i = heads_in r h in subst (λ w. IsIn w xs) (sym i.2) (B.there i.0 i.1);
        each = λ x h. (
          head (block x),
          in_map head (block x) (range_with_len 0 n) (in_range 0 n (block x) (omega arith) (omega (arith, B.below x h))),
          leads_symm decide P x (head (block x)) h (place x, to_head (place x) x h refl),
        );
        apart =
            apart_map head (λ i j. i ≡ j) (LeadsTo f) (range_with_len 0 n)
            (λ i j hi hj k.
            let bi = range_bounds 0 n i hi in
            let bj = range_bounds 0 n j hj in
            sym (B.named i (omega (arith, bi.1)))
            ∙ sym (one_block k.0 (head i) (B.there i (omega (arith, bi.1))))
            ∙ ap block k.1
            ∙ B.named j (omega (arith, bj.1)))
            (range_distinct 0 n);
      }

-- f steps back through n blocks, s joins the items in e pairs, and h is f followed by s: blocks, cycles of h and pairs are even in number together
pub even_with_blocks : {X : Type 0} {f s h : X → X} {xs : List X} {block place : X → ℕ} {head : ℕ → X} → IsDecidable X
    → (chosen : List X) (n e : ℕ)
    → FollowedByPairs f s h xs → StepsBack f xs n block place head → Represents h xs chosen → 2 * e ≡ length xs
    → (m : ℕ) × (n + length chosen + e ≡ 2 * m)
even_with_blocks {X} {f} {s} {h} {xs} {block} {place} {head} decide chosen n e F B R pairs =
    let even = even_with_pairs decide (heads head n) chosen e F (heads_represent F.permutes B decide) R pairs in
    (even.0, omega (arith, length-map-range_with_len head 0 n, even.1))
