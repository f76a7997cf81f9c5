-- Products of numbers with tiny parts have 64 bits.
use Rattle.std.proofs.Common.{◌≡◌, ℕ, ◌*◌, ◌^◌, ◌<◌, ◌≤◌, ℤ, pos, negsuc, ◌+ℤ◌, ◌*ℤ◌, arith, sym, ap, subst, to_z, of_z, ◌∙◌}
use Rattle.std.proofs.lemmas.Int.{ints, fits_signed_from_abs}
use Rattle.std.specs.Prelude.{unsigned_abs, FitsSigned}
use Rattle.std.specs.Int.{w64}
use Rattle.fs_quadratic.specs.Width.{InWidth}
use Rattle.fs_quadratic.proofs.Bits.{within_of_abs, of_bits, of_bits-is}
use Rattle.fs_quadratic.proofs.Small.{abs_add, abs_mul}

-- the number that the 64 bits of a number say
abbrev of_word : ℤ → ℤ
of_word z = to_z w64 (of_z w64 z)

of_word-is : (z : ℤ) → unsigned_abs z < 2 ^ 63 → of_word z ≡ z
of_word-is (pos n) h = omega (arith, ints)
of_word-is (negsuc n) h = omega (arith, ints)

-- a product of bits is the product of the numbers
pub word_product : {a f g x y : ℤ} → a ≡ of_bits f *ℤ of_bits g → f ≡ x → InWidth x → g ≡ y → InWidth y → a ≡ x *ℤ y
word_product e hf wf hg wg = e ∙ (λ i. of_bits-is hf wf i *ℤ of_bits-is hg wg i)

module _ (a b f : ℤ) (d : ℕ) (is : f ≡ pos d) (most : d ≤ 999) (h : unsigned_abs a < 2 ^ 52) (k : unsigned_abs b < 2 ^ 52) where
  multiple_size : unsigned_abs (pos d *ℤ b) ≤ 999 * (2 ^ 52)
  multiple_size = abs_mul (pos d) b 999 (2 ^ 52) most (omega arith)

  sum_size : unsigned_abs (a +ℤ (pos d *ℤ b)) < 2 ^ 63
  sum_size = let s = abs_add a (pos d *ℤ b) in let m = multiple_size in omega arith

  factor : of_word f ≡ pos d
  factor = ap of_word is ∙ of_word-is (pos d) (omega arith)

  multiple : of_word (of_word f *ℤ of_word b) ≡ pos d *ℤ b
  multiple =
      ap of_word (λ i. factor i *ℤ of_word-is b (omega arith) i)
      ∙ of_word-is (pos d *ℤ b) (let m = multiple_size in omega arith)

  sum : of_word a +ℤ of_word (of_word f *ℤ of_word b) ≡ a +ℤ (pos d *ℤ b)
  sum = λ i. of_word-is a (omega arith) i +ℤ multiple i

  -- the rational part fits 64 bits
  pub rational_fits : FitsSigned w64 (of_word a +ℤ of_word (of_word f *ℤ of_word b))
  rational_fits = subst (FitsSigned w64) (sym sum) (fits_signed_from_abs w64 _ sum_size)

  -- and is read back from wider bits
  pub rational_read : {r : ℤ} → r ≡ of_word (of_word a +ℤ of_word (of_word f *ℤ of_word b)) → of_bits r ≡ a +ℤ (pos d *ℤ b)
  rational_read e =
      of_bits-is (e ∙ (ap of_word sum ∙ of_word-is (a +ℤ (pos d *ℤ b)) sum_size)) (within_of_abs (a +ℤ (pos d *ℤ b)) (let s = sum_size in omega arith))

-- so is the r part
pub r_read : (a b : ℤ) → unsigned_abs a < 2 ^ 52 → unsigned_abs b < 2 ^ 52 → {r : ℤ} → r ≡ of_word (of_word a +ℤ of_word b) → of_bits r ≡ a +ℤ b
r_read a b h k e =
    let size : unsigned_abs (a +ℤ b) < 2 ^ 63 = let s = abs_add a b in omega arith in
    let sum : of_word a +ℤ of_word b ≡ a +ℤ b = λ i. of_word-is a (omega arith) i +ℤ of_word-is b (omega arith) i in
    of_bits-is (e ∙ (ap of_word sum ∙ of_word-is (a +ℤ b) size)) (within_of_abs (a +ℤ b) (omega arith))
