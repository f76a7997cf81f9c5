-- Tests in order: a prefix that passes, and the stop of the first test that fails.
use Rattle.std.proofs.Common.{◌≡◌, List, [], ◌∷◌, ◌++◌, sym, ◌∙◌, refl, subst, map, append_assoc}
use Rattle.std.proofs.lemmas.List.{append-nil}
use Rattle.std.specs.List.{AllByRecursion}
use Rattle.fs_lists.specs.First.{IsFirstWithout}
use Rattle.fs_lists.proofs.All.{All-append, All-weaker}
use Rattle.fs_lists.proofs.First.{first_of_prefix, first_of_suffix, first_of_map}
use Rattle.fs_gluing.specs.declared.faults.BuildStop.{BuildStop}
use Rattle.fs_gluing.specs.TestsInOrder.{PassesBefore, IsFirstStop}

-- no test comes before the whole list
pub passes_before_none : {X : Type 0} (P : X → Type 0) (tests rest : List X) → tests ≡ rest → PassesBefore P tests rest
passes_before_none P tests rest e = record { before = []; whole = e; passed = tt }

-- a list of tests after a prefix passes too
pub passes_before_more : {X : Type 0} (P : X → Type 0) (tests xs rest : List X) → PassesBefore P tests (xs ++ rest) → AllByRecursion P xs → PassesBefore P tests rest
passes_before_more P tests xs rest b a = record {
  before = b.before ++ xs;
  whole = b.whole ∙ sym (append_assoc b.before xs rest);
  passed = All-append P b.before xs b.passed a;
}

-- the same for an equal rest
pub passes_before_same : {X : Type 0} (P : X → Type 0) (tests rest others : List X) → rest ≡ others → PassesBefore P tests rest → PassesBefore P tests others
passes_before_same P tests rest others e b = subst (PassesBefore P tests) e b

-- where nothing is left, all tests pass
pub all_from_passes_before : {X : Type 0} (P : X → Type 0) (tests : List X) → PassesBefore P tests [] → AllByRecursion P tests
all_from_passes_before P tests b = subst (AllByRecursion P) (sym (b.whole ∙ append-nil b.before)) b.passed

-- where a prefix passes, the first stop of the rest is that of the whole list
pub first_stop_of_rest : {X : Type 0} (P : X → Type 0) (tests rest : List X) (stop : X → BuildStop) (e : BuildStop) → PassesBefore P tests rest → IsFirstStop P rest stop e → IsFirstStop P tests stop e
first_stop_of_rest P tests rest stop e b a = record {
  test = a.test;
  first = subst (λ ts. IsFirstWithout P ts a.test) (sym b.whole) (first_of_suffix P b.before rest a.test b.passed a.first);
  is = a.is;
}

-- a first test that fails gives the stop
pub first_stop_of_head : {X : Type 0} (P : X → Type 0) (x : X) (rest : List X) (stop : X → BuildStop) (e : BuildStop) → e ≡ stop x → ¬ P x → IsFirstStop P (x ∷ rest) stop e
first_stop_of_head P x rest stop e is fails = record {
  test = x;
  first = record { before = []; after = rest; whole = refl; passed = tt; fails = fails };
  is = is;
}

-- the first stop of a prefix is that of the whole list
pub first_stop_of_prefix : {X : Type 0} (P : X → Type 0) (xs ys : List X) (stop : X → BuildStop) (e : BuildStop) → IsFirstStop P xs stop e → IsFirstStop P (xs ++ ys) stop e
first_stop_of_prefix P xs ys stop e a = record { test = a.test; first = first_of_prefix P xs ys a.test a.first; is = a.is }

-- the first stop of a mapped list
pub first_stop_of_map : {X Y : Type 0} (f : X → Y) (P : Y → Type 0) (xs : List X) (stop : Y → BuildStop) (e : BuildStop) → IsFirstStop (λ x. P (f x)) xs (λ x. stop (f x)) e → IsFirstStop P (map f xs) stop e
first_stop_of_map f P xs stop e a = record { test = f a.test; first = first_of_map f P xs a.test a.first; is = a.is }

-- of two properties that hold of the same items, the first stop is the same
pub first_stop_of_same : {X : Type 0} (P Q : X → Type 0) (xs : List X) (stop : X → BuildStop) (e : BuildStop) → ((x : X) → P x → Q x) → ((x : X) → Q x → P x) → IsFirstStop P xs stop e → IsFirstStop Q xs stop e
first_stop_of_same P Q xs stop e forth back a = record {
  test = a.test;
  first = record {
    before = a.first.before;
    after = a.first.after;
    whole = a.first.whole;
    passed = All-weaker a.first.before forth a.first.passed;
    fails = λ q. a.first.fails (back a.test q);
  };
  is = a.is;
}
