-- The words after the program's name, and what they ask for.
use Rattle.std.specs.Prelude.{◌≡◌, ℕ, ◌≤◌, Option, Some, None, List, [], ◌∷◌, ◌++◌, codes, unwrap_or}
use Rattle.fs_job.specs.Statement.{SpellsNumeral}
use Rattle.fs_cli.specs.declared.words.Request.{Request}
use Rattle.fs_cli.specs.declared.words.Settings.{Settings}
use Rattle.fs_cli.specs.declared.words.Staircase.{Staircase}

-- the budget of a command where no word gives one
abbrev pub default_budget : ℕ
default_budget = 100000

-- the greatest budget of a command
abbrev pub most_budget : ℕ
most_budget = 1000000

-- the most rectangles of a staircase
abbrev pub most_rectangles : ℕ
most_rectangles = 200

-- the greatest seed, of nine digits
abbrev pub most_seed : ℕ
most_seed = 999999999

-- the text is a number within these bounds: one to nine decimal digits
pub record SpellsWithin (least most : ℕ) (text : List ℕ) (n : ℕ) : Type 0 where
  pub number : SpellsNumeral 9 text n
  pub from : least ≤ n
  pub to : n ≤ most

-- the words begin with an option, its name and its text, in two words or joined by = in one
pub data BeginWith (name : List ℕ) (words : List (List ℕ)) (text : List ℕ) (rest : List (List ℕ)) : Type 0 where
  two_words : words ≡ name ∷ text ∷ rest → BeginWith name words text rest
  one_word : words ≡ (name ++ 61 ∷ text) ∷ rest → BeginWith name words text rest

-- nothing is set
abbrev pub nothing_set : Settings
nothing_set = record { steps = None; rectangles = None; seed = None }

-- the words are options, each of which sets what isn't set before it
pub data Set : Settings → List (List ℕ) → Settings → Type 0 where
  no_words : {before after : Settings} {words : List (List ℕ)} → words ≡ [] → after ≡ before → Set before words after
  steps : {before after : Settings} {words : List (List ℕ)} (text : List ℕ) (rest : List (List ℕ)) (n : ℕ) → BeginWith (codes "--steps") words text rest → before.steps ≡ None → SpellsWithin 1 most_budget text n
      → Set (record { steps = Some n; rectangles = before.rectangles; seed = before.seed }) rest after → Set before words after
  rectangles : {before after : Settings} {words : List (List ℕ)} (text : List ℕ) (rest : List (List ℕ)) (n : ℕ) → BeginWith (codes "--staircase") words text rest → before.rectangles ≡ None → SpellsWithin 1 most_rectangles text n
      → Set (record { steps = before.steps; rectangles = Some n; seed = before.seed }) rest after → Set before words after
  seed : {before after : Settings} {words : List (List ℕ)} (text : List ℕ) (rest : List (List ℕ)) (n : ℕ) → BeginWith (codes "--seed") words text rest → before.seed ≡ None → SpellsWithin 0 most_seed text n
      → Set (record { steps = before.steps; rectangles = before.rectangles; seed = Some n }) rest after → Set before words after

-- both numbers of a staircase are set, or neither
abbrev pub AskFor : Option ℕ → Option ℕ → Option Staircase → Type 0
AskFor None None staircase = staircase ≡ None
AskFor None (Some s) staircase = ⊥
AskFor (Some k) None staircase = ⊥
AskFor (Some k) (Some s) staircase = staircase ≡ Some (record { rectangles = k; seed = s })

-- the words are admitted, and ask for this: a budget for each command, and a staircase in place of a job
pub record GiveRequest (words : List (List ℕ)) (request : Request) : Type 0 where
  pub settings : Settings
  pub set : Set nothing_set words settings
  pub budget : request.budget ≡ unwrap_or settings.steps default_budget
  pub staircase : AskFor settings.rectangles settings.seed request.staircase

-- they ask for this staircase within this budget
abbrev pub AskForStaircase : List (List ℕ) → ℕ → Staircase → Type 0
AskForStaircase words budget staircase = GiveRequest words (record { budget = budget; staircase = Some staircase })
