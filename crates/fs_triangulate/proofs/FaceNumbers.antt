-- Half-edges by their numbers: side r of face f has the number 3·f + r.
use Rattle.std.proofs.Common.{◌≡◌, ℕ, zero, suc, ◌+◌, ◌-◌, ◌*◌, cond, eqb, refl, ap, ◌∙◌, arith}
use Rattle.std.proofs.Math.Nat.{mul-add-mod_self_left}
use Rattle.fs_gluing.specs.Triangulation.{next_in_face, prev_in_face}

pub next_first : (f : ℕ) → next_in_face (3 * f + 0) ≡ 3 * f + 1
next_first f = ap (λ r. cond (eqb r 2) (3 * f + 0 - 2) (3 * f + 0 + 1)) (mul-add-mod_self_left 3 f 0) ∙ (let e : 3 * f + 0 + 1 ≡ 3 * f + 1 = omega arith in e)

pub next_second : (f : ℕ) → next_in_face (3 * f + 1) ≡ 3 * f + 2
next_second f = ap (λ r. cond (eqb r 2) (3 * f + 1 - 2) (3 * f + 1 + 1)) (mul-add-mod_self_left 3 f 1) ∙ (let e : 3 * f + 1 + 1 ≡ 3 * f + 2 = omega arith in e)

pub next_third : (f : ℕ) → next_in_face (3 * f + 2) ≡ 3 * f + 0
next_third f = ap (λ r. cond (eqb r 2) (3 * f + 2 - 2) (3 * f + 2 + 1)) (mul-add-mod_self_left 3 f 2) ∙ (let e : 3 * f + 2 - 2 ≡ 3 * f + 0 = omega arith in e)

pub prev_first : (f : ℕ) → prev_in_face (3 * f + 0) ≡ 3 * f + 2
prev_first f = ap (λ r. cond (eqb r 0) (3 * f + 0 + 2) (3 * f + 0 - 1)) (mul-add-mod_self_left 3 f 0) ∙ (let e : 3 * f + 0 + 2 ≡ 3 * f + 2 = omega arith in e)

pub prev_second : (f : ℕ) → prev_in_face (3 * f + 1) ≡ 3 * f + 0
prev_second f = ap (λ r. cond (eqb r 0) (3 * f + 1 + 2) (3 * f + 1 - 1)) (mul-add-mod_self_left 3 f 1) ∙ (let e : 3 * f + 1 - 1 ≡ 3 * f + 0 = omega arith in e)

pub prev_third : (f : ℕ) → prev_in_face (3 * f + 2) ≡ 3 * f + 1
prev_third f = ap (λ r. cond (eqb r 0) (3 * f + 2 + 2) (3 * f + 2 - 1)) (mul-add-mod_self_left 3 f 2) ∙ (let e : 3 * f + 2 - 1 ≡ 3 * f + 1 = omega arith in e)

-- a number is that of side 0, 1 or 2 of a face
pub data IsSideOfFace (h : ℕ) : Type 0 where
  is_first : (f : ℕ) → h ≡ 3 * f + 0 → IsSideOfFace h
  is_second : (f : ℕ) → h ≡ 3 * f + 1 → IsSideOfFace h
  is_third : (f : ℕ) → h ≡ 3 * f + 2 → IsSideOfFace h

-- each number is one
pub side_of_face : (h : ℕ) → IsSideOfFace h
side_of_face zero = is_first 0 refl
side_of_face (suc zero) = is_second 0 refl
side_of_face (suc (suc zero)) = is_third 0 refl
side_of_face (suc (suc (suc h))) = elim (side_of_face h) [
  | is_first f e ↦ is_first (suc f) (omega arith)
  | is_second f e ↦ is_second (suc f) (omega arith)
  | is_third f e ↦ is_third (suc f) (omega arith)
]
