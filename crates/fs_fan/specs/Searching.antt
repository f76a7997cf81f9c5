-- A search under way: the words that are visited, those that wait on the stack, and what is found so far. The contract of `flat` doesn't rest on this file.
use Rattle.std.specs.Prelude.{◌≡◌, ◌⊎◌, ◌↔◌, ℕ, ◌+◌, ◌<◌, Option, Some, None, Err, List, ◌++◌, length, map}
use Rattle.fs_lists.specs.Members.{IsIn}
use Rattle.fs_quadratic.specs.Ring.{Quadratic}
use Rattle.fs_plane.specs.declared.sites.Stop.{Stop}
use Rattle.fs_plane.specs.declared.sites.Stop.TheVariants.{Undecided, Overflow, NoMemory}
use Rattle.fs_gluing.specs.Triangulation.{Triangulation}
use Rattle.fs_words.specs.Words.{Letter}
use Rattle.fs_words.specs.WordOrder.{IsWordBefore}
use Rattle.fs_fan.specs.declared.fans.Ray.{Ray}
use Rattle.fs_fan.specs.declared.visits.Entry.{Entry}
use Rattle.fs_fan.specs.Search.{Word, IsBefore, Sighting, IsSeenBefore, IsSighting, IsLiveWord, IsInOrder, ray_of, HasOpenings, HasVisits, EndsSearch}
use Rattle.fs_fan.specs.Entries.{word_entry}

-- a word goes on from another, or is it
pub record Extends (w from : Word) : Type 0 where
  pub half_edge : w.half_edge ≡ from.half_edge
  pub more : List Letter
  pub letters : w.letters ≡ from.letters ++ more

-- a word of the list from which w goes on
pub record ExtendsOne (w : Word) (stack : List Word) : Type 0 where
  pub from : Word
  pub waits : IsIn from stack
  pub extends : Extends w from

-- one word and all that go on from it are before another of its half-edge and all that go on from that
pub record AreBefore (one other : Word) : Type 0 where
  pub half_edge : one.half_edge ≡ other.half_edge
  pub letters : (more others : List Letter) → IsWordBefore (one.letters ++ more) (other.letters ++ others)

-- what can be seen so far: half-edges below n, and the tips of these words
abbrev pub IsPassed : ℕ → List Word → ℕ → Option (List Letter) → Type 0
IsPassed n words h None = h < n
IsPassed n words h (Some letters) = IsIn (record { half_edge = h; letters = letters }) words

module _ (d : ℕ) (t : Triangulation) (bound : Quadratic) where
  -- of the live words of the half-edges below n these are visited, and each other goes on from a word of the stack, of which the last is the next to be visited
  pub record AreVisited (n : ℕ) (words stack : List Word) : Type 0 where
    pub in_order : IsInOrder IsBefore words
    pub live : (w : Word) → IsIn w words → IsLiveWord d t bound w
    pub below : (w : Word) → IsIn w words → w.half_edge < n
    pub covered : (w : Word) → IsLiveWord d t bound w → w.half_edge < n → IsIn w words ⊎ ExtendsOne w stack
    pub waiting : (s : Word) → IsIn s stack → IsLiveWord d t bound s
    pub last : (s : Word) → IsIn s stack → s.half_edge + 1 ≡ n
    pub before : (w s : Word) → IsIn w words → IsIn s stack → IsBefore w s
    pub apart : IsInOrder (λ lower upper. AreBefore upper lower) stack

  -- these are seen so far
  pub record AreSeen (n : ℕ) (words : List Word) (sightings : List Sighting) : Type 0 where
    pub in_order : IsInOrder IsSeenBefore sightings
    pub all : (at : Sighting) → IsIn at sightings ↔ (IsSighting d t bound at × IsPassed n words at.half_edge at.letters)

  -- the state of the search after n half-edges are opened
  pub record Searches (n : ℕ) (entries : List Entry) (found : List Ray) (live : ℕ) : Type 0 where
    pub words : List Word
    pub stack : List Word
    pub sightings : List Sighting
    pub visited : AreVisited n words stack
    pub seen : AreSeen n words sightings
    pub entries_are : entries ≡ map (word_entry d t bound) stack
    pub found_are : found ≡ map (ray_of d t) sightings
    pub live_is : live ≡ length words
    pub openings : HasOpenings d t bound n
    pub visits : HasVisits d t bound words

  -- the search stops so
  abbrev pub StopsSearch : ℕ → Stop → Type 0
  StopsSearch budget NoMemory = Unit {0}
  StopsSearch budget (Undecided n) = EndsSearch d t bound budget (Err (Undecided n))
  StopsSearch budget (Overflow site) = EndsSearch d t bound budget (Err (Overflow site))
