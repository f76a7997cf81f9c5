-- Rows of names with equal beginnings. The contracts of public calls don't rest on this file.
use Rattle.std.specs.Prelude.{◌≡◌, ◌↔◌, ℕ, Some, List, take}
use Rattle.std.specs.List.{slice_get}
use Rattle.fs_lists.specs.Members.{IsIn}

-- both rows begin with the same k names, in some order
abbrev pub HaveSamePrefix : List ℕ → List ℕ → ℕ → Type 0
HaveSamePrefix top bottom k = (name : ℕ) → IsIn name (take k top) ↔ IsIn name (take k bottom)

-- each name of the row has its place in the row
abbrev pub ArePlaces : List ℕ → List ℕ → Type 0
ArePlaces row places = (n name : ℕ) → slice_get row n ≡ Some name → slice_get places name ≡ Some n
