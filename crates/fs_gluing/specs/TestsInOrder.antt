-- A list of tests in its order: how far it passes, and the stop of the first that fails. Only proofs and inner calls of this crate cite it; the contract of `flat` doesn't rest on it.
use Rattle.std.specs.Prelude.{◌≡◌, List, ◌++◌}
use Rattle.std.specs.List.{AllByRecursion}
use Rattle.fs_lists.specs.First.{IsFirstWithout}
use Rattle.fs_gluing.specs.declared.faults.BuildStop.{BuildStop}

-- the rest is a suffix of the tests, and all tests before it pass
pub record PassesBefore {X : Type 0} (P : X → Type 0) (tests rest : List X) : Type 0 where
  pub before : List X
  pub whole : tests ≡ before ++ rest
  pub passed : AllByRecursion P before

-- e is the stop of the first test that fails
pub record IsFirstStop {X : Type 0} (P : X → Type 0) (tests : List X) (stop : X → BuildStop) (e : BuildStop) : Type 0 where
  pub test : X
  pub first : IsFirstWithout P tests test
  pub is : e ≡ stop test
