-- How a `State` keeps its open components: all letters by their names, and for each row the names of all components one after another. The contracts of public calls don't rest on this file.
use Rattle.std.specs.Prelude.{◌≡◌, ℕ, ◌<◌, ◌≤◌, Bool, true, false, List, [], ◌∷◌, length, map, take, drop, slice_index_or}
use Rattle.std.specs.List.{AllByRecursion, range_with_len}
use Rattle.fs_lists.specs.Members.{IsDistinct}
use Rattle.fs_quadratic.specs.Ring as ring
use Rattle.fs_plane.specs.Vector.{vector_zero}
use Rattle.fs_gluing.specs.Exchanges.{Letter, Component, EndVector, names_of}
use Rattle.fs_iet.specs.ExchangeValue.{most_letters}
use Rattle.fs_rauzy.specs.declared.rows.Extent.{Extent}
use Rattle.fs_rauzy.specs.declared.states.Choice.{Choice}
use Rattle.fs_rauzy.specs.declared.states.Choice.TheVariants.{Split, Close, Compare}
use Rattle.fs_rauzy.specs.Events.{HasSplit, AreLast}
use Rattle.fs_rauzy.specs.Rule.{HasNoSplit}
use Rattle.fs_rauzy.specs.Steps.{CanCompare}

-- what stands for a letter that isn't there
abbrev pub no_end : EndVector
no_end = record { vector = vector_zero; real = false }

abbrev pub no_letter : Letter
no_letter = record { name = 0; length = ring.zero; back = vector_zero; corner = record { polygon = 0; side = 0 }; start = no_end; end = no_end }

-- the letters of these names
abbrev pub letters_at : List Letter → List ℕ → List Letter
letters_at letters names = map (λ name. slice_index_or letters name no_letter) names

-- the component of an extent, whose rows begin where it says and end with the rows
abbrev pub component_at : List Letter → List ℕ → List ℕ → Extent → Component
component_at letters top bottom e = record { base = e.base; total = e.total; top = letters_at letters (drop e.first top); bottom = drop e.first bottom }

-- the components of extents, the latest first
abbrev pub opened : List Letter → List ℕ → List ℕ → List Extent → List Component
opened letters top bottom [] = []
opened letters top bottom (e ∷ extents) = component_at letters top bottom e ∷ opened letters (take e.first top) (take e.first bottom) extents

-- each extent begins below the end of its rows, and those before it end where it begins
abbrev pub AreLaid : ℕ → List Extent → Type 0
AreLaid n [] = n ≡ 0
AreLaid n (e ∷ extents) = (e.first < n) × AreLaid e.first extents

-- the letters are at their names, the names of the rows are those of letters, and the extents divide the rows
pub record IsInPlace (letters : List Letter) (top bottom : List ℕ) (extents : List Extent) : Type 0 where
  pub named : names_of letters ≡ range_with_len 0 (length letters)
  pub few : length letters ≤ most_letters
  pub top_within : AllByRecursion (λ name. name < length letters) top
  pub bottom_within : AllByRecursion (λ name. name < length letters) bottom
  pub as_long : length bottom ≡ length top
  pub apart : IsDistinct top
  pub laid : AreLaid (length top) extents

-- the current component was searched for splits, and has none
abbrev pub IsSearched : Bool → List Component → Type 0
IsSearched false components = Unit {0}
IsSearched true [] = Unit {0}
IsSearched true (c ∷ rest) = HasNoSplit c

-- the rule chooses this for the current component
abbrev pub IsChoice : List Component → Choice → Type 0
IsChoice [] choice = ⊥
IsChoice (c ∷ rest) (Split k) = HasSplit c k × ((j : ℕ) → HasSplit c j → j ≤ k)
IsChoice (c ∷ rest) Close = length c.top ≡ 1
IsChoice (c ∷ rest) Compare = HasNoSplit c × CanCompare c

-- these are the names of the last letters of both rows, and of the letters this holds
abbrev pub AreLastNames : Component → ℕ → ℕ → (Letter → Letter → Type 0) → Type 0
AreLastNames c x y R = (a b : Letter) × AreLast c a b × (a.name ≡ x) × (b.name ≡ y) × R a b
