-- How the checked steps of a product add up to its contract.
use Rattle.std.proofs.Common.{◌≡◌, Option, None, Some, ◌∙◌}
use Rattle.std.specs.Option.{SomeIff}

-- a result under a condition is one under each equivalent condition
pub same_answer : {T : Type 0} (r : Option T) (P Q : Type 0) (v w : T) → SomeIff r P v → (P → Q) → (Q → P) → v ≡ w → SomeIff r Q w
same_answer None P Q v w h to from e = λ q. h (from q)
same_answer (Some x) P Q v w h to from e = (to h.0, h.1 ∙ e)
