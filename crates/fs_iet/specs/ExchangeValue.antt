-- What contracts see of an `Exchange`, and what its type keeps.
use Rattle.std.specs.Prelude.{◌≡◌, ℕ, ◌≤◌, Result, Ok, Err, length}
use Rattle.std.specs.List.{range_with_len}
use Rattle.fs_quadratic.specs.Ring.{zero}
use Rattle.fs_plane.specs.declared.sites.Site.{Site}
use Rattle.fs_plane.specs.declared.sites.Stop.{Stop}
use Rattle.fs_plane.specs.declared.sites.Stop.TheVariants.{Undecided, Overflow, NoMemory}
use Rattle.fs_gluing.specs.Exchanges.{Component, IsLawful, names_of}

-- the field's d, and a component
pub record ExchangeValue : Type 0 where
  pub d : ℕ
  pub component : Component

-- the most letters: two sides are glued into one, of at most 1,024
abbrev pub most_letters : ℕ
most_letters = 512

-- it begins at 0, and has 1 to 512 letters, which are named by their places in the top row
pub record IsExchangeValue (x : ExchangeValue) : Type 0 where
  pub base : x.component.base ≡ zero
  pub named : names_of x.component.top ≡ range_with_len 0 (length x.component.top)
  pub few : length x.component.top ≤ most_letters
  pub lawful : IsLawful x.d x.component

-- what holds of the exchange or the first site holds of what a call returns; where memory runs out it returns neither, and it is never undecided
abbrev pub ReturnsExchange : (Result Component Site → Type 0) → Result ExchangeValue Stop → Type 0
ReturnsExchange P (Ok x) = P (Ok x.component)
ReturnsExchange P (Err NoMemory) = Unit {0}
ReturnsExchange P (Err (Undecided n)) = ⊥
ReturnsExchange P (Err (Overflow site)) = P (Err site)
