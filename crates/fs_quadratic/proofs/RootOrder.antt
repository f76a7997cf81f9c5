-- A fraction compares with a complete quotient as their whole parts do; where these are equal, one step of Euclid's algorithm decides as the rests do.
use Rattle.std.proofs.Common.{◌≡◌, ◌≢◌, ℕ, suc, ◌+◌, ◌-◌, ◌*◌, ◌/◌, ◌%◌, ◌<◌, ◌≤◌, refl, sym, ap, ◌∙◌, arith}
use Rattle.std.proofs.Math.Nat.{lt-mul-div-succ, div-mul-le_self, mul-le-mul, mod-add-div'}
use Rattle.std.specs.Ordering.{nat_cmp, ordering_reverse, MatchOrdering}
use Rattle.std.specs.declared.cmp.Ordering.{Ordering}
use Rattle.std.specs.declared.cmp.Ordering.TheVariants.{Less, Equal, Greater}
use Rattle.std.proofs.lemmas.Cmp.{ranked}
use Rattle.fs_quadratic.specs.Radicand.{IsNoSquare}
use Rattle.fs_quadratic.specs.CompleteQuotient.{IsCompleteQuotient, whole_part, excess}
use Rattle.fs_quadratic.specs.Ring.{sign}
use Rattle.fs_quadratic.proofs.CompleteQuotients as quotients
use Rattle.fs_quadratic.proofs.Excess.{sign-excess_less, sign-excess_greater, sign-step}

-- the number that is left where a is at most b
rest_of : (a b : ℕ) → a ≤ b → b ≡ a + (b - a)
rest_of a b h = omega arith

module _ {d root m a : ℕ} (no_square : IsNoSquare d) (q : IsCompleteQuotient d root m a) (n b : ℕ) (positive : 0 < b) where
  abbrev whole : ℕ
  whole = whole_part root m a

  less : n / b < whole → sign d (excess m a n b) ≡ Less
  less h =
      let above : n < b * (n / b + 1) = lt-mul-div-succ n positive in
      let step : (n / b + 1) * (b * a) ≤ whole * (b * a) = mul-le-mul (omega arith) (omega arith) in
      let bound : whole * a * b ≤ (root + m) * b = mul-le-mul (quotients.whole_at_most q) (omega arith) in
      let up : n * a ≤ b * (n / b + 1) * a = mul-le-mul (omega arith) (omega arith) in
      let low : n * a ≤ (root + m) * b = omega arith in
      sign-excess_less no_square m a n b ((root + m) * b - n * a) root positive q.below (rest_of (n * a) ((root + m) * b) low)

  greater : whole < n / b → sign d (excess m a n b) ≡ Greater
  greater h =
      let below : n / b * b ≤ n = div-mul-le_self n b in
      let step : (whole + 1) * (b * a) ≤ n / b * (b * a) = mul-le-mul (omega arith) (omega arith) in
      let next = quotients.below_whole_next q in
      let bound : (suc root + m) * b ≤ (whole * a + a) * b = mul-le-mul (omega arith) (omega arith) in
      let up : n / b * b * a ≤ n * a = mul-le-mul below (omega arith) in
      let low : (suc root + m) * b ≤ n * a = omega arith in
      sign-excess_greater no_square m a n b (n * a - (suc root + m) * b) (suc root) positive (omega arith) q.above (rest_of ((suc root + m) * b) (n * a) low)

  equal : n / b ≡ whole → sign d (excess m a n b) ≡ ordering_reverse (sign d (excess (quotients.next_m q) (quotients.next_a q) b (n % b)))
  equal e =
      sign-step no_square whole m (quotients.next_m q) a (quotients.next_a q) n b (n % b) q.positive (quotients.next_m-add q) (quotients.next_a-mul q)
      (let parts = mod-add-div' n b in let product = ap (λ v. v * b) e in omega arith)

  by_rank : (r : Ordering) → MatchOrdering r (n / b < whole) (n / b ≡ whole) (whole < n / b) → r ≢ Equal → r ≡ sign d (excess m a n b)
  by_rank Less h ne = sym (less h)
  by_rank Equal h ne = absurd (ne refl)
  by_rank Greater h ne = sym (greater h)

  -- where the whole parts differ, they tell
  pub by_whole_parts : (r : Ordering) → r ≡ nat_cmp (n / b) whole → r ≢ Equal → r ≡ sign d (excess m a n b)
  by_whole_parts r e ne = by_rank r (ranked (n / b) whole r e) ne

  -- where they are equal, what the next step says tells, turned
  pub by_next : (r : Ordering) → Equal ≡ nat_cmp (n / b) whole → r ≡ sign d (excess (quotients.next_m q) (quotients.next_a q) b (n % b))
      → ordering_reverse r ≡ sign d (excess m a n b)
  by_next r e h = ap ordering_reverse h ∙ sym (equal (ranked (n / b) whole Equal e))
