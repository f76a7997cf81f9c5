-- Words ask for one thing at most, and what the options in them set.
use Rattle.std.proofs.Common.{◌≡◌, ◌≢◌, ℕ, ◌≤◌, Bool, true, false, ◌==◌, eqb, Option, Some, None, List, [], ◌∷◌, ◌++◌, length, map, drop, get_or, append-nil, refl, sym, ap, ◌∙◌, subst, arith}
use Rattle.std.specs.Prelude.{codes, unwrap_or, is_some}
use Rattle.std.proofs.Math.Seq.{drop-append_seam}
use Rattle.std.specs.List.{AllByRecursion}
use Rattle.std.proofs.lemmas.Bool.{eqb-true, eq-eqb}
use Rattle.fs_job.specs.Line.{Finds}
use Rattle.fs_job.specs.Statement.{SpellsNumeral}
use Rattle.fs_cli.specs.declared.words.Request.{Request}
use Rattle.fs_cli.specs.declared.words.Settings.{Settings}
use Rattle.fs_cli.specs.declared.words.Staircase.{Staircase}
use Rattle.fs_cli.specs.Words.{most_budget, most_rectangles, most_seed, SpellsWithin, BeginWith, two_words, one_word, Set, no_words, steps, rectangles, seed, nothing_set, AskFor, GiveRequest, AskForStaircase}

-- ---- texts of options

-- a text spells one number at most
pub numeral_unique : {text : List ℕ} {m n : ℕ} → SpellsNumeral 9 text m → SpellsNumeral 9 text n → m ≡ n
numeral_unique a b = a.value ∙ sym b.value

-- a text without =
abbrev HasNoEqual : List ℕ → Type 0
HasNoEqual text = AllByRecursion (λ byte. eqb byte 61 ≡ false) text

not_equal : {byte : ℕ} → eqb byte 61 ≡ false → byte ≢ 61
not_equal {byte} e same = let f = eq-eqb byte 61 same in cc

-- it isn't joined by = to another
not_joined : (a b text : List ℕ) → HasNoEqual a → a ≢ b ++ 61 ∷ text
not_joined [] [] text none e = cc
not_joined [] (y ∷ b) text none e = cc
not_joined (x ∷ a) [] text none e = not_equal none.0 (let f : x ≡ 61 = cc in f)
not_joined (x ∷ a) (y ∷ b) text none e = not_joined a b text none.1 (let f : a ≡ b ++ 61 ∷ text = cc in f)

-- and what is before the first =, and what is after it, is one text each
joined_once : (a b text other : List ℕ) → HasNoEqual a → HasNoEqual b → a ++ 61 ∷ text ≡ b ++ 61 ∷ other → (a ≡ b) × (text ≡ other)
joined_once [] [] text other none none' e = (refl, (let f : text ≡ other = cc in f))
joined_once [] (y ∷ b) text other none none' e = absurd (not_equal none'.0 (let f : y ≡ 61 = cc in f))
joined_once (x ∷ a) [] text other none none' e = absurd (not_equal none.0 (let f : x ≡ 61 = cc in f))
joined_once (x ∷ a) (y ∷ b) text other none none' e =
    let rest = joined_once a b text other none.1 none'.1 (let f : a ++ 61 ∷ text ≡ b ++ 61 ∷ other = cc in f) in
    let same : x ≡ y = cc in
    ((λ i. same i ∷ rest.0 i), rest.1)

-- words begin with one option at most
begin_once : {a b text other : List ℕ} {words rest left : List (List ℕ)} → HasNoEqual a → HasNoEqual b → BeginWith a words text rest → BeginWith b words other left
    → (a ≡ b) × (text ≡ other) × (rest ≡ left)
begin_once none none' (two_words e) (two_words f) = let g = sym e ∙ f in ((let x = g in cc), (let x = g in cc), (let x = g in cc))
begin_once {a} {b} {text} {other} none none' (two_words e) (one_word f) = absurd (not_joined a b other none (let g = sym e ∙ f in cc))
begin_once {a} {b} {text} {other} none none' (one_word e) (two_words f) = absurd (not_joined b a text none' (let g = sym f ∙ e in cc))
begin_once {a} {b} {text} {other} none none' (one_word e) (one_word f) =
    let g = sym e ∙ f in
    let both = joined_once a b text other none none' (let h : a ++ 61 ∷ text ≡ b ++ 61 ∷ other = cc in h) in
    (both.0, both.1, (let h = g in cc))

after_same : (name a b : List ℕ) → name ++ a ≡ name ++ b → a ≡ b
after_same name a b e = sym (drop-append_seam name a) ∙ (ap (drop (length name)) e ∙ drop-append_seam name b)

-- the first of some words
pub first_word : {X Y : Type 0} (f : X → Y) (xs : List X) (x : X) → 1 ≤ length xs → x ≡ get_or xs 0 x → (more : List Y) × (map f xs ≡ f x ∷ more)
first_word f [] x least is = absurd (omega (arith, least))
first_word f (z ∷ xs) x least is = (map f xs, ap (λ w. w ∷ map f xs) (ap f (sym is)))

-- a word that doesn't begin with the name begins no option
pub other_word : {name word text : List ℕ} {words rest more : List (List ℕ)} → words ≡ word ∷ more → ((after : List ℕ) → word ≢ name ++ after) → BeginWith name words text rest → ⊥
other_word {name} {word} e other (two_words f) = let g = sym e ∙ f in other [] ((let h : word ≡ name = cc in h) ∙ sym (append-nil name))
other_word {name} {word} {text} e other (one_word f) = let g = sym e ∙ f in other (61 ∷ text) (let h : word ≡ name ++ 61 ∷ text = cc in h)

-- nor does one in which something other than = follows the name
pub other_end : {name word after text : List ℕ} {words rest more : List (List ℕ)} → words ≡ word ∷ more → word ≡ name ++ after → after ≢ [] → ((end : List ℕ) → after ≢ 61 ∷ end) → BeginWith name words text rest → ⊥
other_end {name} {word} {after} e is some other (two_words f) =
    let g = sym e ∙ f in
    some (after_same name after [] (sym is ∙ ((let h : word ≡ name = cc in h) ∙ sym (append-nil name))))
other_end {name} {word} {after} {text} e is some other (one_word f) =
    let g = sym e ∙ f in
    other text (after_same name after (61 ∷ text) (sym is ∙ (let h : word ≡ name ++ 61 ∷ text = cc in h)))

-- no option begins no words
not_begun : {name text : List ℕ} {words rest : List (List ℕ)} → words ≡ [] → BeginWith name words text rest → ⊥
not_begun none (two_words e) = let f = sym none ∙ e in cc
not_begun none (one_word e) = let f = sym none ∙ e in cc

steps_name : HasNoEqual (codes "--steps")
steps_name = (refl, (refl, (refl, (refl, (refl, (refl, (refl, tt)))))))

staircase_name : HasNoEqual (codes "--staircase")
staircase_name = (refl, (refl, (refl, (refl, (refl, (refl, (refl, (refl, (refl, (refl, (refl, tt)))))))))))

seed_name : HasNoEqual (codes "--seed")
seed_name = (refl, (refl, (refl, (refl, (refl, (refl, tt))))))

steps_not_staircase : codes "--steps" ≢ codes "--staircase"
steps_not_staircase e = cc

steps_not_seed : codes "--steps" ≢ codes "--seed"
steps_not_seed e = cc

staircase_not_seed : codes "--staircase" ≢ codes "--seed"
staircase_not_seed e = cc

-- ---- what the first option sets

-- --steps, where it is the first
record SetsSteps (before after : Settings) (rest : List (List ℕ)) (text : List ℕ) : Type 0 where
  pub n : ℕ
  pub first : before.steps ≡ None
  pub spells : SpellsWithin 1 most_budget text n
  pub then : Set (record { steps = Some n; rectangles = before.rectangles; seed = before.seed }) rest after

sets_steps : {before after : Settings} {words rest : List (List ℕ)} {text : List ℕ} → BeginWith (codes "--steps") words text rest → Set before words after → SetsSteps before after rest text
sets_steps begins (no_words none e) = absurd (not_begun none begins)
sets_steps {before} {after} begins (steps other left n begins' first spells then) =
    let same = begin_once steps_name steps_name begins' begins in
    record {
      n = n;
      first = first;
      spells = subst (λ (t : List ℕ). SpellsWithin 1 most_budget t n) same.1 spells;
      then = subst (λ (ws : List (List ℕ)). Set (record { steps = Some n; rectangles = before.rectangles; seed = before.seed }) ws after) same.2 then;
    }
sets_steps begins (rectangles other left n begins' first spells then) = absurd (steps_not_staircase (begin_once steps_name staircase_name begins begins').0)
sets_steps begins (seed other left n begins' first spells then) = absurd (steps_not_seed (begin_once steps_name seed_name begins begins').0)

-- --staircase
record SetsRectangles (before after : Settings) (rest : List (List ℕ)) (text : List ℕ) : Type 0 where
  pub n : ℕ
  pub first : before.rectangles ≡ None
  pub spells : SpellsWithin 1 most_rectangles text n
  pub then : Set (record { steps = before.steps; rectangles = Some n; seed = before.seed }) rest after

sets_rectangles : {before after : Settings} {words rest : List (List ℕ)} {text : List ℕ} → BeginWith (codes "--staircase") words text rest → Set before words after → SetsRectangles before after rest text
sets_rectangles begins (no_words none e) = absurd (not_begun none begins)
sets_rectangles begins (steps other left n begins' first spells then) = absurd (steps_not_staircase (begin_once steps_name staircase_name begins' begins).0)
sets_rectangles {before} {after} begins (rectangles other left n begins' first spells then) =
    let same = begin_once staircase_name staircase_name begins' begins in
    record {
      n = n;
      first = first;
      spells = subst (λ (t : List ℕ). SpellsWithin 1 most_rectangles t n) same.1 spells;
      then = subst (λ (ws : List (List ℕ)). Set (record { steps = before.steps; rectangles = Some n; seed = before.seed }) ws after) same.2 then;
    }
sets_rectangles begins (seed other left n begins' first spells then) = absurd (staircase_not_seed (begin_once staircase_name seed_name begins begins').0)

-- --seed
record SetsSeed (before after : Settings) (rest : List (List ℕ)) (text : List ℕ) : Type 0 where
  pub n : ℕ
  pub first : before.seed ≡ None
  pub spells : SpellsWithin 0 most_seed text n
  pub then : Set (record { steps = before.steps; rectangles = before.rectangles; seed = Some n }) rest after

sets_seed : {before after : Settings} {words rest : List (List ℕ)} {text : List ℕ} → BeginWith (codes "--seed") words text rest → Set before words after → SetsSeed before after rest text
sets_seed begins (no_words none e) = absurd (not_begun none begins)
sets_seed begins (steps other left n begins' first spells then) = absurd (steps_not_seed (begin_once steps_name seed_name begins' begins).0)
sets_seed begins (rectangles other left n begins' first spells then) = absurd (staircase_not_seed (begin_once staircase_name seed_name begins' begins).0)
sets_seed {before} {after} begins (seed other left n begins' first spells then) =
    let same = begin_once seed_name seed_name begins' begins in
    record {
      n = n;
      first = first;
      spells = subst (λ (t : List ℕ). SpellsWithin 0 most_seed t n) same.1 spells;
      then = subst (λ (ws : List (List ℕ)). Set (record { steps = before.steps; rectangles = before.rectangles; seed = Some n }) ws after) same.2 then;
    }

-- ---- what is found of the options

-- what is known of tests on lists and numbers
pub not_empty : {text : List ℕ} {b : Bool} → b ≡ false → b ≡ (length text == 0) → text ≢ []
not_empty none test e = let f = sym none ∙ (test ∙ ap (λ (l : List ℕ). length l == 0) e) in cc

pub no_words_left : {X Y : Type 0} (f : X → Y) (xs : List X) {b : Bool} → b ≡ true → b ≡ (length xs == 0) → map f xs ≡ []
no_words_left f [] some test = refl
no_words_left f (x ∷ xs) some test = absurd (let e = eqb-true (length (x ∷ xs)) 0 (sym (sym some ∙ test)) in omega (arith, e))

pub some_words_left : {X Y : Type 0} (f : X → Y) (xs : List X) {b : Bool} → b ≡ false → b ≡ (length xs == 0) → map f xs ≢ []
some_words_left f [] none test e = let g = sym none ∙ test in cc
some_words_left f (x ∷ xs) none test e = cc

pub not_set : (o : Option ℕ) {b : Bool} → b ≡ false → b ≡ is_some o → o ≡ None
not_set None none test = refl
not_set (Some n) none test = absurd (let e = sym none ∙ test in cc)

module _ (before : Settings) {words rest : List (List ℕ)} {text : List ℕ} {n : ℕ} where
  pub finds_steps : BeginWith (codes "--steps") words text rest → before.steps ≡ None → SpellsWithin 1 most_budget text n
      → (o : Option Settings) → Finds (Set (record { steps = Some n; rectangles = before.rectangles; seed = before.seed }) rest) o → Finds (Set before words) o
  finds_steps begins first spells (Some after) then = steps text rest n begins first spells then
  finds_steps begins first spells None none = λ after set.
      let o = sets_steps begins set in
      none after (subst (λ (k : ℕ). Set (record { steps = Some k; rectangles = before.rectangles; seed = before.seed }) rest after) (numeral_unique o.spells.number spells.number) o.then)

  pub finds_rectangles : BeginWith (codes "--staircase") words text rest → before.rectangles ≡ None → SpellsWithin 1 most_rectangles text n
      → (o : Option Settings) → Finds (Set (record { steps = before.steps; rectangles = Some n; seed = before.seed }) rest) o → Finds (Set before words) o
  finds_rectangles begins first spells (Some after) then = rectangles text rest n begins first spells then
  finds_rectangles begins first spells None none = λ after set.
      let o = sets_rectangles begins set in
      none after (subst (λ (k : ℕ). Set (record { steps = before.steps; rectangles = Some k; seed = before.seed }) rest after) (numeral_unique o.spells.number spells.number) o.then)

  pub finds_seed : BeginWith (codes "--seed") words text rest → before.seed ≡ None → SpellsWithin 0 most_seed text n
      → (o : Option Settings) → Finds (Set (record { steps = before.steps; rectangles = before.rectangles; seed = Some n }) rest) o → Finds (Set before words) o
  finds_seed begins first spells (Some after) then = seed text rest n begins first spells then
  finds_seed begins first spells None none = λ after set.
      let o = sets_seed begins set in
      none after (subst (λ (k : ℕ). Set (record { steps = before.steps; rectangles = before.rectangles; seed = Some k }) rest after) (numeral_unique o.spells.number spells.number) o.then)

-- words that begin with no option set nothing
pub no_option : {words : List (List ℕ)} → words ≢ []
    → ((text : List ℕ) (rest : List (List ℕ)) → ¬ BeginWith (codes "--steps") words text rest)
    → ((text : List ℕ) (rest : List (List ℕ)) → ¬ BeginWith (codes "--staircase") words text rest)
    → ((text : List ℕ) (rest : List (List ℕ)) → ¬ BeginWith (codes "--seed") words text rest)
    → {before after : Settings} → Set before words after → ⊥
no_option some a b c (no_words none e) = some none
no_option some a b c (steps text rest n begins first spells then) = a text rest begins
no_option some a b c (rectangles text rest n begins first spells then) = b text rest begins
no_option some a b c (seed text rest n begins first spells then) = c text rest begins

-- ---- one request

-- words set one thing at most
set_unique : {before a b : Settings} {words : List (List ℕ)} → Set before words a → Set before words b → a ≡ b
set_unique (no_words none e) (no_words none' f) = e ∙ sym f
set_unique (no_words none e) (steps text rest n begins first spells then) = absurd (not_begun none begins)
set_unique (no_words none e) (rectangles text rest n begins first spells then) = absurd (not_begun none begins)
set_unique (no_words none e) (seed text rest n begins first spells then) = absurd (not_begun none begins)
set_unique {before} {a} {b} (steps text rest n begins first spells then) other =
    let o = sets_steps begins other in
    let same : o.n ≡ n = numeral_unique o.spells.number spells.number in
    set_unique then (subst (λ (k : ℕ). Set (record { steps = Some k; rectangles = before.rectangles; seed = before.seed }) rest b) same o.then)
set_unique {before} {a} {b} (rectangles text rest n begins first spells then) other =
    let o = sets_rectangles begins other in
    let same : o.n ≡ n = numeral_unique o.spells.number spells.number in
    set_unique then (subst (λ (k : ℕ). Set (record { steps = before.steps; rectangles = Some k; seed = before.seed }) rest b) same o.then)
set_unique {before} {a} {b} (seed text rest n begins first spells then) other =
    let o = sets_seed begins other in
    let same : o.n ≡ n = numeral_unique o.spells.number spells.number in
    set_unique then (subst (λ (k : ℕ). Set (record { steps = before.steps; rectangles = before.rectangles; seed = Some k }) rest b) same o.then)

-- words that set one number of a staircase alone aren't admitted
pub no_seed_asked : {words : List (List ℕ)} {settings : Settings} {k : ℕ} → Set nothing_set words settings → settings.rectangles ≡ Some k → settings.seed ≡ None → (request : Request) → ¬ GiveRequest words request
no_seed_asked {words} {settings} {k} set one other request given =
    let asks = subst (λ (s : Settings). AskFor s.rectangles s.seed request.staircase) (set_unique given.set set) given.staircase in
    subst (λ (o : Option ℕ). AskFor (Some k) o request.staircase) other (subst (λ (o : Option ℕ). AskFor o settings.seed request.staircase) one asks)

pub no_rectangles_asked : {words : List (List ℕ)} {settings : Settings} {k : ℕ} → Set nothing_set words settings → settings.rectangles ≡ None → settings.seed ≡ Some k → (request : Request) → ¬ GiveRequest words request
no_rectangles_asked {words} {settings} {k} set one other request given =
    let asks = subst (λ (s : Settings). AskFor s.rectangles s.seed request.staircase) (set_unique given.set set) given.staircase in
    subst (λ (o : Option ℕ). AskFor None o request.staircase) other (subst (λ (o : Option ℕ). AskFor o settings.seed request.staircase) one asks)

ask_unique : (k s : Option ℕ) (a b : Option Staircase) → AskFor k s a → AskFor k s b → a ≡ b
ask_unique None None a b e f = e ∙ sym f
ask_unique None (Some s) a b e f = absurd e
ask_unique (Some k) None a b e f = absurd e
ask_unique (Some k) (Some s) a b e f = e ∙ sym f

-- words ask for one thing at most
pub request_unique : (words : List (List ℕ)) (a b : Request) → GiveRequest words a → GiveRequest words b → a ≡ b
request_unique words a b p q =
    let same : p.settings ≡ q.settings = set_unique p.set q.set in
    let budgets : a.budget ≡ b.budget = p.budget ∙ (ap (λ (s : Settings). unwrap_or s.steps 100000) same ∙ sym q.budget) in
    let staircases : a.staircase ≡ b.staircase =
    ask_unique q.settings.rectangles q.settings.seed a.staircase b.staircase (subst (λ (s : Settings). AskFor s.rectangles s.seed a.staircase) same p.staircase) q.staircase in
    λ i. record { budget = budgets i; staircase = staircases i }

-- ---- bounds

-- numbers that are set are within their bounds
record AreBounded (settings : Settings) : Type 0 where
  steps_bounded : (n : ℕ) → settings.steps ≡ Some n → (1 ≤ n) × (n ≤ most_budget)
  rectangles_bounded : (n : ℕ) → settings.rectangles ≡ Some n → (1 ≤ n) × (n ≤ most_rectangles)

bounds_of : {bound : ℕ} {text : List ℕ} (n k : ℕ) → SpellsWithin 1 bound text n → Some n ≡ Some k → (1 ≤ k) × (k ≤ bound)
bounds_of {bound} n k spells e =
    let same : n ≡ k = cc in
    (subst (λ (m : ℕ). 1 ≤ m) same spells.from, subst (λ (m : ℕ). m ≤ bound) same spells.to)

set_bounded : {before after : Settings} {words : List (List ℕ)} → AreBounded before → Set before words after → AreBounded after
set_bounded bounded (no_words none e) = subst AreBounded (sym e) bounded
set_bounded bounded (steps text rest n begins first spells then) =
    set_bounded (record { steps_bounded = λ k e. bounds_of n k spells e; rectangles_bounded = bounded.rectangles_bounded }) then
set_bounded bounded (rectangles text rest n begins first spells then) =
    set_bounded (record { steps_bounded = bounded.steps_bounded; rectangles_bounded = λ k e. bounds_of n k spells e }) then
set_bounded bounded (seed text rest n begins first spells then) =
    set_bounded (record { steps_bounded = bounded.steps_bounded; rectangles_bounded = bounded.rectangles_bounded }) then

-- the budget and the number of rectangles that are asked for are within their bounds
pub record IsBounded (request : Request) : Type 0 where
  pub least : 1 ≤ request.budget
  pub most : request.budget ≤ most_budget
  pub rectangles : (staircase : Staircase) → request.staircase ≡ Some staircase → (1 ≤ staircase.rectangles) × (staircase.rectangles ≤ most_rectangles)

pub request_bounded : {words : List (List ℕ)} {request : Request} → GiveRequest words request → IsBounded request
request_bounded {words} {request} given =
    let bounded = set_bounded nothing_bounded given.set in
    let budget = budget_bounded given.settings.steps bounded.steps_bounded in
    record {
      least = subst (λ (n : ℕ). 1 ≤ n) (sym given.budget) budget.0;
      most = subst (λ (n : ℕ). n ≤ most_budget) (sym given.budget) budget.1;
      rectangles = λ staircase is. asked given.settings.rectangles given.settings.seed request.staircase staircase given.staircase is bounded.rectangles_bounded;
    }
  where
    nothing_bounded : AreBounded nothing_set
    nothing_bounded = record { steps_bounded = λ n e. cc; rectangles_bounded = λ n e. cc }

    budget_bounded : (o : Option ℕ) → ((n : ℕ) → o ≡ Some n → (1 ≤ n) × (n ≤ most_budget)) → (1 ≤ unwrap_or o 100000) × (unwrap_or o 100000 ≤ most_budget)
    budget_bounded None bounded = (omega arith, omega arith)
    budget_bounded (Some n) bounded = bounded n refl

    asked : (k s : Option ℕ) (o : Option Staircase) (staircase : Staircase) → AskFor k s o → o ≡ Some staircase → ((n : ℕ) → k ≡ Some n → (1 ≤ n) × (n ≤ most_rectangles))
        → (1 ≤ staircase.rectangles) × (staircase.rectangles ≤ most_rectangles)
    asked None None o staircase asks is bounded = absurd (let e = sym asks ∙ is in cc)
    asked None (Some s) o staircase asks is bounded = absurd asks
    asked (Some k) None o staircase asks is bounded = absurd asks
    asked (Some k) (Some s) o staircase asks is bounded =
        let e = sym asks ∙ is in
        let same : k ≡ staircase.rectangles = (let f : record { rectangles = k; seed = s } ≡ staircase = cc in ap (λ (x : Staircase). x.rectangles) f) in
        bounded staircase.rectangles (ap Some same)

-- ---- a job or a staircase

-- what isn't a staircase is a job
pub job_asked : (o : Option Staircase) → ((staircase : Staircase) → o ≢ Some staircase) → o ≡ None
job_asked None other = refl
job_asked (Some staircase) other = absurd (other staircase refl)

-- words that ask for a job ask for no staircase
pub no_staircase : {words : List (List ℕ)} {request : Request} → GiveRequest words request → ((staircase : Staircase) → request.staircase ≢ Some staircase) → (budget : ℕ) (staircase : Staircase) → ¬ AskForStaircase words budget staircase
no_staircase {words} {request} given other budget staircase asked = other staircase (ap (λ (r : Request). r.staircase) (request_unique words request (record { budget = budget; staircase = Some staircase }) given asked))

-- words that ask for a staircase ask for one, within one budget
pub same_staircase : {words : List (List ℕ)} {request : Request} {made : Staircase} → GiveRequest words request → request.staircase ≡ Some made → (budget : ℕ) (staircase : Staircase) → AskForStaircase words budget staircase
    → (budget ≡ request.budget) × (staircase ≡ made)
same_staircase {words} {request} {made} given is budget staircase asked =
    let same = request_unique words (record { budget = budget; staircase = Some staircase }) request asked given in
    let both : Some staircase ≡ Some made = ap (λ (r : Request). r.staircase) same ∙ is in
    (ap (λ (r : Request). r.budget) same, (let e = both in cc))

-- and it is asked for
pub asked_staircase : {words : List (List ℕ)} {request : Request} {made : Staircase} → GiveRequest words request → request.staircase ≡ Some made → AskForStaircase words request.budget made
asked_staircase {words} {request} {made} given is = subst (GiveRequest words) (λ i. record { budget = request.budget; staircase = is i }) given
