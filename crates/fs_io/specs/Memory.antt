-- Sources and sinks over memory, which fail at chosen calls.
use Rattle.std.specs.Prelude.{ℕ, List}

-- what is left, the most that one call gives, the numbers of the calls that fail, and the two counts
pub record SourceState : Type 0 where
  pub left : List ℕ
  pub piece : ℕ
  pub failing : List ℕ
  pub calls : ℕ
  pub faults : ℕ

-- what is held, how much may be held, the numbers of the calls that fail, and the two counts
pub record SinkState : Type 0 where
  pub held : List ℕ
  pub room : ℕ
  pub failing : List ℕ
  pub calls : ℕ
  pub faults : ℕ
