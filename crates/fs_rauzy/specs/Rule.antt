-- The rule of the induction, which chooses the next event, and the tests of each event: its numbers, in the order of their places.
use Rattle.std.specs.Prelude.{◌≡◌, ℕ, ◌+◌, ◌≤◌, ◌&&◌, if◌then◌else◌, Bool, true, false, Option, Some, None, Result, Ok, Err, List, [], ◌∷◌, length, take}
use Rattle.fs_quadratic.specs.Checked.{◌>>=◌, checked_sum, checked_difference}
use Rattle.fs_quadratic.specs.Ring as ring
use Rattle.fs_quadratic.specs.Ring.{Quadratic}
use Rattle.fs_quadratic.specs.declared.steps.Place.{Place}
use Rattle.fs_plane.specs.Formulas.{vector_sum_after}
use Rattle.fs_plane.specs.Vector.{PlaneVector}
use Rattle.fs_gluing.specs.Exchanges.{Letter, Component}
use Rattle.fs_rauzy.specs.declared.events.Event.{Event}
use Rattle.fs_rauzy.specs.declared.events.Event.TheVariants.{Won, Merged, Split, Closed}
use Rattle.fs_rauzy.specs.declared.events.Found.{Found}
use Rattle.fs_rauzy.specs.Events.{AreLast, AreAt, HasSplit, Makes, Outcome}

-- ---- the rule

-- the component can't be split
abbrev pub HasNoSplit : Component → Type 0
HasNoSplit c = (k : ℕ) → ¬ HasSplit c k

-- the event is the one that the rule chooses: a split after as many letters as can be; else a closing of one letter; else a comparison of the last letters
abbrev pub FollowsRule : List Component → Event → Type 0
FollowsRule [] event = ⊥
FollowsRule (c ∷ rest) (Split k found) = (j : ℕ) → HasSplit c j → j ≤ k
FollowsRule (c ∷ rest) Closed = length c.top ≡ 1
FollowsRule (c ∷ rest) (Won top) = HasNoSplit c
FollowsRule (c ∷ rest) (Merged found) = HasNoSplit c

-- the event that comes next, whether or not its numbers overflow
pub record IsNext (d : ℕ) (components : List Component) (outcome : Outcome) : Type 0 where
  pub made : Makes d components outcome
  pub by_rule : FollowsRule components outcome.event

-- a won comparison or a merge: a step of the induction
abbrev pub is_step : Event → Bool
is_step (Won top) = true
is_step (Merged found) = true
is_step (Split k found) = false
is_step Closed = false

-- ---- tests

-- the connection, or the place where its vector overflows
abbrev pub checked_connection : ℕ → Letter → Letter → Result (Option Found) Place
checked_connection before starting ending =
    if starting.start.real && ending.end.real
    then (vector_sum_after before starting.start.vector ending.end.vector >>= (λ v. Ok (Some (record { start = starting.corner; v = v }))))
    else Ok None

-- the numbers of a won comparison: the winner's length and the total, each less the loser's length, and the loser's return vector and the vector of its moved end, each plus the winner's return vector
pub record WonNumbers : Type 0 where
  pub length : Quadratic
  pub total : Quadratic
  pub back : PlaneVector
  pub vector : PlaneVector

unfoldable pub checked_won : Letter → Letter → Quadratic → PlaneVector → Result WonNumbers Place
checked_won winner loser total vector = do
  length ← checked_difference 1 winner.length loser.length
  rest ← checked_difference 2 total loser.length
  back ← vector_sum_after 2 loser.back winner.back
  moved ← vector_sum_after 4 vector winner.back
  Ok (record { length = length; total = rest; back = back; vector = moved })

-- the numbers of a merge of x and y: the total less their length, the sum of the return vectors, and the connection
pub record MergedNumbers : Type 0 where
  pub total : Quadratic
  pub back : PlaneVector
  pub found : Option Found

unfoldable pub checked_merged : Letter → Letter → Quadratic → Result MergedNumbers Place
checked_merged x y total = do
  rest ← checked_difference 1 total x.length
  back ← vector_sum_after 1 y.back x.back
  found ← checked_connection 3 y x
  Ok (record { total = rest; back = back; found = found })

-- a sum of lengths to which those of these letters are added, from this place on
abbrev pub checked_lengths : ℕ → Quadratic → List Letter → Result Quadratic Place
checked_lengths n sum [] = Ok sum
checked_lengths n sum (letter ∷ letters) = checked_sum n sum letter.length >>= (λ next. checked_lengths (n + 1) next letters)

-- the sum of the lengths: the first one needs no addition
abbrev pub checked_prefix : List Letter → Result Quadratic Place
checked_prefix [] = Ok ring.zero
checked_prefix (letter ∷ letters) = checked_lengths 1 letter.length letters

-- the numbers of a split: the sum of the first k lengths, the right part's total and base, and the connection
pub record SplitNumbers : Type 0 where
  pub sum : Quadratic
  pub rest : Quadratic
  pub base : Quadratic
  pub found : Option Found

abbrev pub checked_parts : Quadratic → Quadratic → ℕ → Quadratic → Letter → Letter → Result SplitNumbers Place
checked_parts base total k sum starting ending = do
  rest ← checked_difference k total sum
  right ← checked_sum (k + 1) base sum
  found ← checked_connection (k + 1) starting ending
  Ok (record { sum = sum; rest = rest; base = right; found = found })

abbrev pub checked_split : Component → ℕ → Letter → Letter → Result SplitNumbers Place
checked_split c k starting ending = checked_prefix (take k c.top) >>= (λ sum. checked_parts c.base c.total k sum starting ending)

-- whether a computation gives its value
abbrev pub passed : {A : Type 0} → Result A Place → Result Bool Place
passed (Ok value) = Ok true
passed (Err stop) = Err stop

-- the tests of an event of the current component: whether all its numbers fit, or the first place that overflows
pub data Tests : List Component → Event → Result Bool Place → Type 0 where
  of_split : (c : Component) (rest : List Component) (k : ℕ) (found : Option Found) (starting ending : Letter) → AreAt c k starting ending
      → Tests (c ∷ rest) (Split k found) (passed (checked_split c k starting ending))
  of_closed : (c : Component) (rest : List Component) → Tests (c ∷ rest) Closed (Ok true)
  of_won_above : (c : Component) (rest : List Component) (x y : Letter) → AreLast c x y → Tests (c ∷ rest) (Won true) (passed (checked_won x y c.total y.start.vector))
  of_won_below : (c : Component) (rest : List Component) (x y : Letter) → AreLast c x y → Tests (c ∷ rest) (Won false) (passed (checked_won y x c.total x.end.vector))
  of_merged : (c : Component) (rest : List Component) (found : Option Found) (x y : Letter) → AreLast c x y → Tests (c ∷ rest) (Merged found) (passed (checked_merged x y c.total))

-- ---- steps of the rule

-- the next event is made: its numbers fit
pub record IsMade (d : ℕ) (components : List Component) (outcome : Outcome) : Type 0 where
  pub next : IsNext d components outcome
  pub fits : Tests components outcome.event (Ok true)

-- the next event stops at this place, the first one where it overflows
pub record StopsAt (d : ℕ) (components : List Component) (stop : Place) : Type 0 where
  pub outcome : Outcome
  pub next : IsNext d components outcome
  pub overflows : Tests components outcome.event (Err stop)
