-- The events of the induction, as relations between components. The rule that chooses among them isn't part of them.
use Rattle.std.specs.Prelude.{◌≡◌, ◌≢◌, ◌↔◌, ℕ, ◌<◌, ◌==◌, ◌&&◌, if◌then◌else◌, true, false, Option, Some, None, is_some, List, [], ◌∷◌, ◌++◌, length, map, take, drop}
use Rattle.std.specs.List.{slice_get}
use Rattle.fs_lists.specs.Members.{IsIn}
use Rattle.fs_quadratic.specs.Ring as ring
use Rattle.fs_quadratic.specs.Ring.{Quadratic, IsLess, add, sub, total}
use Rattle.fs_plane.specs.Vector.{vector_add}
use Rattle.fs_gluing.specs.Exchanges.{Letter, Component, names_of}
use Rattle.fs_rauzy.specs.declared.events.Event.{Event}
use Rattle.fs_rauzy.specs.declared.events.Event.TheVariants.{Won, Merged, Split, Closed}
use Rattle.fs_rauzy.specs.declared.events.Found.{Found}

-- ---- letters

-- the letters, with this one in place of the one of its name
abbrev pub with_letter : Letter → List Letter → List Letter
with_letter new letters = map (λ letter. if letter.name == new.name then new else letter) letters

-- the letter that wins: it is shorter by the one that loses
abbrev pub won_over : Letter → Letter → Letter
won_over winner loser = record winner { length = sub winner.length loser.length }

-- the letter that loses in the bottom row: its return goes on by that of the winner, and so does the vector of its start
abbrev pub lost_below : Letter → Letter → Letter
lost_below winner loser = record loser { back = vector_add loser.back winner.back; start = record loser.start { vector = vector_add loser.start.vector winner.back } }

-- the letter that loses in the top row: its return begins by that of the winner, and so does the vector of its end
abbrev pub lost_above : Letter → Letter → Letter
lost_above winner loser = record loser { back = vector_add loser.back winner.back; end = record loser.end { vector = vector_add loser.end.vector winner.back } }

-- the letter into which x, last in the top row, and y, last in the bottom row, merge: it is y, with the start of x
abbrev pub merged_of : Letter → Letter → Letter
merged_of x y = record y { back = vector_add y.back x.back; corner = x.corner; start = x.start }

-- the connection from the start of a letter to the end of another, where both are real
abbrev pub connection : Letter → Letter → Option Found
connection starting ending =
    if starting.start.real && ending.end.real then Some (record { start = starting.corner; v = vector_add starting.start.vector ending.end.vector }) else None

-- the letter of this name has no real start any more
abbrev pub without_start : ℕ → Letter → Letter
without_start name letter = if letter.name == name then record letter { start = record letter.start { real = false } } else letter

-- that of this name has no real end any more
abbrev pub without_end : ℕ → Letter → Letter
without_end name letter = if letter.name == name then record letter { end = record letter.end { real = false } } else letter

-- ---- rows

-- the last item of a row leaves its place, and stands right after the winner
pub record IsMovedBehind {X : Type 0} (winner loser : X) (before after : List X) : Type 0 where
  pub left : List X
  pub right : List X
  pub was : before ≡ left ++ winner ∷ (right ++ loser ∷ [])
  pub becomes : after ≡ left ++ winner ∷ (loser ∷ right)

-- the last item y of a row leaves its place, and takes that of x
pub record IsPutInPlace {X : Type 0} (x y : X) (before after : List X) : Type 0 where
  pub left : List X
  pub right : List X
  pub was : before ≡ left ++ x ∷ (right ++ y ∷ [])
  pub becomes : after ≡ left ++ y ∷ right

-- x is the last letter of the top row, y is the one whose name is last in the bottom row, and they differ
pub record AreLast (c : Component) (x y : Letter) : Type 0 where
  pub before_top : List Letter
  pub top : c.top ≡ before_top ++ x ∷ []
  pub before_bottom : List ℕ
  pub bottom : c.bottom ≡ before_bottom ++ y.name ∷ []
  pub there : IsIn y c.top
  pub differ : x.name ≢ y.name

-- ---- won comparisons and merges

-- the last letter of the top row is longer than that of the bottom row, and wins: the other one moves in the bottom row
pub record IsWonByTop (d : ℕ) (c after : Component) : Type 0 where
  pub x : Letter
  pub y : Letter
  pub last : AreLast c x y
  pub longer : IsLess d y.length x.length
  pub base : after.base ≡ c.base
  pub sum : after.total ≡ sub c.total y.length
  pub top : after.top ≡ with_letter (lost_below x y) (with_letter (won_over x y) c.top)
  pub bottom : IsMovedBehind x.name y.name c.bottom after.bottom

-- the last letter of the bottom row is longer than that of the top row, and wins: the other one moves in the top row
pub record IsWonByBottom (d : ℕ) (c after : Component) : Type 0 where
  pub x : Letter
  pub y : Letter
  pub last : AreLast c x y
  pub longer : IsLess d x.length y.length
  pub base : after.base ≡ c.base
  pub sum : after.total ≡ sub c.total x.length
  pub row : List Letter
  pub moved : IsMovedBehind y x c.top row
  pub top : after.top ≡ with_letter (lost_above y x) (with_letter (won_over y x) row)
  pub bottom : after.bottom ≡ c.bottom

-- the last letters of both rows are equally long, and become one
pub record IsMerged (c after : Component) (found : Option Found) : Type 0 where
  pub x : Letter
  pub y : Letter
  pub last : AreLast c x y
  pub equal : x.length ≡ y.length
  pub base : after.base ≡ c.base
  pub sum : after.total ≡ sub c.total x.length
  pub top : after.top ≡ with_letter (merged_of x y) last.before_top
  pub bottom : IsPutInPlace x.name y.name c.bottom after.bottom
  pub connected : found ≡ connection y x

-- ---- splits

-- the first k letters of both rows are the same, in some order
abbrev pub HasEqualPrefixes : Component → ℕ → Type 0
HasEqualPrefixes c k = (name : ℕ) → IsIn name (names_of (take k c.top)) ↔ IsIn name (take k c.bottom)

-- the component can be split after k letters
pub record HasSplit (c : Component) (k : ℕ) : Type 0 where
  pub some : 0 < k
  pub others : k < length c.top
  pub equal : HasEqualPrefixes c k

-- the letters at place k of the bottom row and of the top row
pub record AreAt (c : Component) (k : ℕ) (starting ending : Letter) : Type 0 where
  pub there : IsIn starting c.top
  pub at_bottom : slice_get c.bottom k ≡ Some starting.name
  pub at_top : slice_get c.top k ≡ Some ending

-- the sum of the first k lengths
abbrev pub prefix_sum : Component → ℕ → Quadratic
prefix_sum c k = total (map (λ letter. letter.length) (take k c.top))

-- the component is split after k letters; where a connection leads to the new end between the parts, it is found there, and its start and its end are real no more
pub record IsSplit (c : Component) (k : ℕ) (left right : Component) (found : Option Found) : Type 0 where
  pub split : HasSplit c k
  pub starting : Letter
  pub ending : Letter
  pub at : AreAt c k starting ending
  pub connected : found ≡ connection starting ending
  pub left_part : left ≡ record { base = c.base; total = prefix_sum c k; top = take k c.top; bottom = take k c.bottom }
  pub right_part : right ≡ record {
    base = add c.base (prefix_sum c k);
    total = sub c.total (prefix_sum c k);
    top = (if is_some found then map (λ letter. without_end ending.name (without_start starting.name letter)) (drop k c.top) else drop k c.top);
    bottom = drop k c.bottom;
  }

-- ---- events on states

-- what an event makes of the open components, and the length that is noted with it: the winner's new length, that of letters that merge, else 0
pub record Outcome : Type 0 where
  pub event : Event
  pub length : Quadratic
  pub components : List Component

-- the events of the current component, the first of the open ones
pub data Makes (d : ℕ) : List Component → Outcome → Type 0 where
  splits : (c left right : Component) (rest : List Component) (k : ℕ) (found : Option Found) → IsSplit c k left right found
      → Makes d (c ∷ rest) (record { event = Split k found; length = ring.zero; components = right ∷ (left ∷ rest) })
  closes : (c : Component) (rest : List Component) → Makes d (c ∷ rest) (record { event = Closed; length = ring.zero; components = rest })
  wins_above : (c after : Component) (rest : List Component) (won : IsWonByTop d c after)
      → Makes d (c ∷ rest) (record { event = Won true; length = sub won.x.length won.y.length; components = after ∷ rest })
  wins_below : (c after : Component) (rest : List Component) (won : IsWonByBottom d c after)
      → Makes d (c ∷ rest) (record { event = Won false; length = sub won.y.length won.x.length; components = after ∷ rest })
  merges : (c after : Component) (rest : List Component) (found : Option Found) (merged : IsMerged c after found)
      → Makes d (c ∷ rest) (record { event = Merged found; length = merged.y.length; components = after ∷ rest })
