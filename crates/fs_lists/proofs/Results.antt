-- Results: what equal ones hold, what holds of a value, and the exit of a `?`.
use Rattle.std.proofs.Common.{◌≡◌, Result, Ok, Err, IfOk, sym, subst}
use Rattle.std.specs.Result.{IsErrAnd, OkIff}

module _ {A E : Type 0} where
  pub ok_equal : (x y : A) → ◌≡◌ {A = Result A E} (Ok x) (Ok y) → x ≡ y
  ok_equal x y e = cc

  pub err_equal : (x y : E) → ◌≡◌ {A = Result A E} (Err x) (Err y) → x ≡ y
  err_equal x y e = cc

  pub ok_not_err : (x : A) (e : E) → ◌≡◌ {A = Result A E} (Ok x) (Err e) → ⊥
  ok_not_err x e h = cc

  -- what holds of the error that is handed on holds of the result that it came from
  pub at_exit : (P : Result A E → Type 0) (r : Result A E) (e : E) → IsErrAnd r (λ y. y ≡ e) → P (Err e) → P r
  at_exit P (Ok x) e h q = absurd h
  at_exit P (Err y) e h q = subst (λ z. P (Err z)) (sym h) q

  -- what holds of the value that a result has under a condition holds of its value
  pub ok_value : (P : Type 0) (v : A) (Q : A → Type 0) (r : Result A E) → OkIff r P v → Q v → IfOk r Q
  ok_value P v Q (Ok x) h q = subst Q (sym h.1) q
  ok_value P v Q (Err e) h q = tt

  -- a value under a condition is one under two where the other holds
  pub ok_and : (r : Result A E) (P Q : Type 0) (v : A) → P → OkIff r Q v → OkIff r (P × Q) v
  ok_and (Ok x) P Q v p h = ((p, h.0), h.1)
  ok_and (Err e) P Q v p h = λ both. h both.1
