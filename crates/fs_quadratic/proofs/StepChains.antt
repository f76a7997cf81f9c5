-- A call that gives a value exactly where its numbers fit is a step of a checked computation.
use Rattle.std.proofs.Common.{◌≡◌, ℕ, ◌+◌, Bool, true, false, cond, Result, Ok, Err, refl, sym, ap, ◌∙◌, subst, ◌↔◌}
use Rattle.std.specs.Bool.{Decides}
use Rattle.std.specs.Result.{OkIff, MatchResult}
use Rattle.fs_quadratic.specs.declared.steps.Place.{Place}
use Rattle.fs_quadratic.specs.Checked.{place, step, shifted, ◌>>=◌, IsFirstOfThree, first, second, third}

false_not_true : false ≡ true → ⊥
false_not_true e = cc

-- s is what the call r gives, or the step's place
pub step_of_call : {A E : Type 0} (r : Result A E) (s : Result A Place) (n : ℕ) (test : Bool) (P : Type 0) (value : A) → Decides test P → OkIff r P value
    → MatchResult r (λ x. s ≡ Ok x) (λ _. s ≡ Err (place n)) → s ≡ step n test value
step_of_call (Ok x) s n true P value t h e = e ∙ ap Ok h.1
step_of_call (Ok x) s n false P value t h e = absurd (false_not_true (t.1 h.0))
step_of_call (Err x) s n true P value t h e = absurd (h (t.0 refl))
step_of_call (Err x) s n false P value t h e = e

-- a step that gives a value gives its own
pub step_value : {A : Type 0} (n : ℕ) (test : Bool) (value x : A) → step n test value ≡ Ok x → x ≡ value
step_value n true value x e = cc
step_value n false value x e = absurd cc

-- and it does where its numbers fit
pub step_fits : {A : Type 0} {P : Type 0} (n : ℕ) (test : Bool) (value : A) → Decides test P → P → step n test value ≡ Ok value
step_fits n test value t h = ap (λ passed. step n passed value) (t.1 h)

-- ---- three steps in turn, the last of which tests and gives what the first two give

module _ {A B C : Type 0} (before : ℕ) (x : A) (y : B) (test : A → B → Bool) (value : A → B → C) where
  abbrev chain : Bool → Bool → Result C Place
  chain one two = step (before + 1) one x >>= (λ a. step (before + 2) two y >>= (λ b. step (before + 3) (test a b) (value a b)))

  -- the same as one choice after another
  abbrev ladder : Bool → Bool → Bool → Result C Place
  ladder one two three = cond one (cond two (cond three (Ok (value x y)) (Err (place (before + 3)))) (Err (place (before + 2)))) (Err (place (before + 1)))

  chain-is : (one two : Bool) → chain one two ≡ ladder one two (test x y)
  chain-is false two = refl
  chain-is true false = refl
  chain-is true true = refl

  module _ {P Q S : Type 0} where
    ladder_ok : (one two three : Bool) → Decides one P → Decides two Q → Decides three S → OkIff (ladder one two three) (P × Q × S) (value x y)
    ladder_ok false two three p q s = λ all. false_not_true (p.1 all.0)
    ladder_ok true false three p q s = λ all. false_not_true (q.1 all.1)
    ladder_ok true true false p q s = λ all. false_not_true (s.1 all.2)
    ladder_ok true true true p q s = ((p.0 refl, q.0 refl, s.0 refl), refl)

    ladder_stops : (one two three : Bool) (stop : Place) → Decides one P → Decides two Q → Decides three S
        → ladder one two three ≡ Err stop → IsFirstOfThree P Q S before stop
    ladder_stops false two three stop p q s e = first (λ h. false_not_true (p.1 h)) cc
    ladder_stops true false three stop p q s e = second (p.0 refl) (λ h. false_not_true (q.1 h)) cc
    ladder_stops true true false stop p q s e = third (p.0 refl) (q.0 refl) (λ h. false_not_true (s.1 h)) cc
    ladder_stops true true true stop p q s e = absurd cc

    ladder_stopped : (one two three : Bool) (stop : Place) → Decides one P → Decides two Q → Decides three S
        → IsFirstOfThree P Q S before stop → ladder one two three ≡ Err stop
    ladder_stopped false two three stop p q s (first n e) = ap Err (sym e)
    ladder_stopped true two three stop p q s (first n e) = absurd (n (p.0 refl))
    ladder_stopped one false three stop p q s (second h n e) = rw (p.1 h) (ap Err (sym e))
    ladder_stopped one true three stop p q s (second h n e) = absurd (n (q.0 refl))
    ladder_stopped one two false stop p q s (third h k n e) = rw (p.1 h, q.1 k) (ap Err (sym e))
    ladder_stopped one two true stop p q s (third h k n e) = absurd (n (s.0 refl))

    -- it gives the value exactly where all three fit
    pub chain_ok : (one two : Bool) → Decides one P → Decides two Q → Decides (test x y) S → OkIff (chain one two) (P × Q × S) (value x y)
    chain_ok one two p q s = subst (λ r. OkIff r (P × Q × S) (value x y)) (sym (chain-is one two)) (ladder_ok one two (test x y) p q s)

    -- and else the place of the first that doesn't
    pub chain_stops : (one two : Bool) (stop : Place) → Decides one P → Decides two Q → Decides (test x y) S
        → chain one two ≡ Err stop ↔ IsFirstOfThree P Q S before stop
    chain_stops one two stop p q s = (
      (λ e. ladder_stops one two (test x y) stop p q s (sym (chain-is one two) ∙ e)),
      (λ h. chain-is one two ∙ ladder_stopped one two (test x y) stop p q s h),
    )

-- after n other steps the same chain stops n places later
module _ {A B C : Type 0} (n : ℕ) (x : A) (y : B) (test : A → B → Bool) (value : A → B → C) where
  ladder-shifted : (one two three : Bool) → ladder n x y test value one two three ≡ shifted n (ladder 0 x y test value one two three)
  ladder-shifted false two three = refl
  ladder-shifted true false three = refl
  ladder-shifted true true false = refl
  ladder-shifted true true true = refl

  pub chain-shifted : (one two : Bool) → chain n x y test value one two ≡ shifted n (chain 0 x y test value one two)
  chain-shifted one two =
      chain-is n x y test value one two ∙ ladder-shifted one two (test x y) ∙ ap (shifted n) (sym (chain-is 0 x y test value one two))
