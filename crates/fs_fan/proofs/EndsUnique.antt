-- A search within a budget ends in exactly one way.
use Rattle.std.proofs.Common.{◌≡◌, ℕ, ◌+◌, ◌<◌, ◌≤◌, Result, Ok, Err, List, [], ◌∷◌, ◌++◌, length, map, refl, sym, ap, ◌∙◌, subst, inl, inr, arith, length-append}
use Rattle.std.specs.Prelude.{IsOk}
use Rattle.std.proofs.lemmas.Bool.{cases_order}
use Rattle.fs_quadratic.specs.Ring.{Quadratic}
use Rattle.fs_quadratic.specs.declared.steps.Place.{Place}
use Rattle.fs_plane.specs.declared.sites.Site.TheVariants.{First, Fan}
use Rattle.fs_plane.specs.declared.sites.Stop.{Stop}
use Rattle.fs_plane.specs.declared.sites.Stop.TheVariants.{Undecided, Overflow, NoMemory}
use Rattle.fs_gluing.specs.Triangulation.{Triangulation}
use Rattle.fs_lists.specs.Members.{IsIn}
use Rattle.fs_lists.proofs.Results.{err_equal}
use Rattle.fs_fan.specs.declared.fans.Fans.{Fans}
use Rattle.fs_fan.specs.declared.fans.Ray.{Ray}
use Rattle.fs_fan.specs.Visits.{opening}
use Rattle.fs_fan.specs.Search.{Word, IsBefore, by_half_edge, by_letters, IsSeenBefore, IsLiveWord, AreLiveWords, AreFound, ray_of, Findings, EndsSearch, whole, first_overflows, fan_overflows, budget_spent, HasOpenings, HasVisits, visit_of, ReturnsSearch}
use Rattle.fs_fan.proofs.OrderedLists.{in_more_cases, in_order-more, in_order-at_most, in_order_unique}
use Rattle.fs_fan.proofs.WordsBefore.{word_irrefl, word_trans, word_total, sighting_irrefl, sighting_trans}

not_ok : {X : Type 0} (r : Result X Place) (place : Place) → IsOk r → r ≡ Err place → ⊥
not_ok (Ok x) place ok e = cc
not_ok (Err stop) place ok e = absurd cc

module _ (d : ℕ) (t : Triangulation) (bound : Quadratic) (n : ℕ) where
  abbrev Live : Word → Type 0
  Live w = IsLiveWord d t bound w

  abbrev Ends : Result Findings Stop → Type 0
  Ends end = EndsSearch d t bound n end

  abbrev Listed : (Word → Type 0) → List Word → Type 0
  Listed P words = AreLiveWords d t bound P words

  -- the live words of a kind make one list
  listed_unique : (P Q : Word → Type 0) (words others : List Word) → ((w : Word) → P w → Q w) → ((w : Word) → Q w → P w) → Listed P words → Listed Q others → words ≡ others
  listed_unique P Q words others to back a b =
      in_order_unique IsBefore word_irrefl (λ x y z p q. word_trans p q) words others a.in_order b.in_order
      (λ w m. let h = (a.all w).0 m in (b.all w).1 (h.0, to w h.1))
      (λ w m. let h = (b.all w).0 m in (a.all w).1 (h.0, back w h.1))

  -- the words before a word, and it, are no more than the words of a list that has them all
  more_words : (P : Word → Type 0) (words others : List Word) (w : Word) → Live w → Listed (λ o. IsBefore o w) words → Listed P others → P w → ((o : Word) → IsBefore o w → P o)
      → length words + 1 ≤ length others
  more_words P words others w live a b is before =
      let count = length-append words (w ∷ []) in
      let most = in_order-at_most IsBefore word_irrefl (words ++ w ∷ []) others (in_order-more IsBefore words w a.in_order (λ y m. ((a.all y).0 m).1))
      (λ y m. elim (in_more_cases words w y m) [
        | inl k ↦ let h = (a.all y).0 k in (b.all y).1 (h.0, before y h.1)
        | inr e ↦ subst (λ x. IsIn x others) (sym e) ((b.all w).1 (live, is))
      ]) in
      omega arith

  -- ---- the rays that are found

  found_unique : (found others : List Ray) → AreFound d t bound found → AreFound d t bound others → found ≡ others
  found_unique found others f g =
      let same = in_order_unique IsSeenBefore sighting_irrefl (λ x y z p q. sighting_trans p q) f.sightings g.sightings f.in_order g.in_order
      (λ at m. (g.all at).1 ((f.all at).0 m)) (λ at m. (f.all at).1 ((g.all at).0 m)) in
      f.rays ∙ ap (map (ray_of d t)) same ∙ sym g.rays

  -- ---- two ends at different words or half-edges

  -- a word before another is of a half-edge up to its own
  up_to : (o w : Word) → IsBefore o w → o.half_edge ≤ w.half_edge
  up_to o w (by_half_edge l) = omega arith
  up_to o w (by_letters e b) = omega arith

  -- the computation at a word of a list of visited words doesn't overflow
  visited_not : (P : Word → Type 0) (words : List Word) (w : Word) (place : Place) → Listed P words → HasVisits d t bound words → Live w → P w → visit_of d t bound w ≡ Err place → ⊥
  visited_not P words w place a visits live is known = not_ok (visit_of d t bound w) place (visits w ((a.all w).1 (live, is))) known

  opened_not : (k h : ℕ) (place : Place) → HasOpenings d t bound k → h < k → opening d t bound h ≡ Err place → ⊥
  opened_not k h place openings l known = not_ok (opening d t bound h) place (openings h l) known

  -- ---- one end

  -- an overflow at a half-edge, and one at a word
  first_or_fan : (words others : List Word) (h : ℕ) (p q : Place) (w : Word) → Listed (λ o. o.half_edge < h) words → HasVisits d t bound words → opening d t bound h ≡ Err p
      → Live w → HasOpenings d t bound (w.half_edge + 1) → visit_of d t bound w ≡ Err q → ⊥
  first_or_fan words others h p q w a visits known live openings overflows = elim (cases_order w.half_edge h) [
    | inl e ↦ opened_not (w.half_edge + 1) h p openings (omega arith) known
    | inr (inl less) ↦ visited_not (λ o. o.half_edge < h) words w q a visits live less overflows
    | inr (inr more) ↦ opened_not (w.half_edge + 1) h p openings (omega arith) known
  ]

  -- an overflow at a half-edge, and a spent budget
  first_or_spent : (words others : List Word) (h : ℕ) (p : Place) (w : Word) → Listed (λ o. o.half_edge < h) words → length words ≤ n → opening d t bound h ≡ Err p
      → Live w → Listed (λ o. IsBefore o w) others → length others ≡ n → HasOpenings d t bound (w.half_edge + 1) → ⊥
  first_or_spent words others h p w a few known live b all openings = elim (cases_order w.half_edge h) [
    | inl e ↦ opened_not (w.half_edge + 1) h p openings (omega arith) known
    | inr (inl less) ↦
        let more = more_words (λ o. o.half_edge < h) others words w live b a less (λ o before. let l = up_to o w before in omega arith) in omega (arith, more, few, all)
    | inr (inr more) ↦ opened_not (w.half_edge + 1) h p openings (omega arith) known
  ]

  -- an overflow at a word, and a spent budget
  fan_or_spent : (words others : List Word) (w u : Word) (p : Place) → Live w → Listed (λ o. IsBefore o w) words → length words < n → visit_of d t bound w ≡ Err p
      → Live u → Listed (λ o. IsBefore o u) others → length others ≡ n → HasVisits d t bound others → ⊥
  fan_or_spent words others w u p live a few known live_too b all visits = elim (word_total w u) [
    | inl before ↦ visited_not (λ o. IsBefore o u) others w p b visits live before known
    | inr (inl e) ↦
        let same = listed_unique (λ o. IsBefore o w) (λ o. IsBefore o u) words others (λ o h. subst (IsBefore o) e h) (λ o h. subst (IsBefore o) (sym e) h) a b in
        let count = ap length same in omega (arith, count, few, all)
    | inr (inr after) ↦ let more = more_words (λ o. IsBefore o w) others words u live_too b a after (λ o h. word_trans h after) in omega (arith, more, few, all)
  ]

  -- two overflows at words
  fan_unique : (words others : List Word) (w u : Word) (p q : Place) → Live w → Listed (λ o. IsBefore o w) words → HasVisits d t bound words → visit_of d t bound w ≡ Err p
      → Live u → Listed (λ o. IsBefore o u) others → HasVisits d t bound others → visit_of d t bound u ≡ Err q
      → ◌≡◌ {A = Result Findings Stop} (Err (Overflow (Fan (length words) p.0))) (Err (Overflow (Fan (length others) q.0)))
  fan_unique words others w u p q live a visits known live_too b visits_too known_too = elim (word_total w u) [
    | inl before ↦ absurd (visited_not (λ o. IsBefore o u) others w p b visits_too live before known)
    | inr (inl e) ↦
        let same = listed_unique (λ o. IsBefore o w) (λ o. IsBefore o u) words others (λ o h. subst (IsBefore o) e h) (λ o h. subst (IsBefore o) (sym e) h) a b in
        let place = err_equal p q (sym known ∙ ap (visit_of d t bound) e ∙ known_too) in
        λ i. Err (Overflow (Fan (length (same i)) ((place i).0)))
    | inr (inr after) ↦ absurd (visited_not (λ o. IsBefore o w) words u q a visits live_too after known_too)
  ]

  -- two overflows at half-edges
  first_unique : (h k : ℕ) (p q : Place) → HasOpenings d t bound h → opening d t bound h ≡ Err p → HasOpenings d t bound k → opening d t bound k ≡ Err q
      → ◌≡◌ {A = Result Findings Stop} (Err (Overflow (First h p.0))) (Err (Overflow (First k q.0)))
  first_unique h k p q openings known openings_too known_too = elim (cases_order h k) [
    | inl e ↦
        let place = err_equal p q (sym known ∙ ap (opening d t bound) e ∙ known_too) in
        λ i. Err (Overflow (First (e i) ((place i).0)))
    | inr (inl less) ↦ absurd (opened_not k h p openings_too less known)
    | inr (inr more) ↦ absurd (opened_not h k q openings more known_too)
  ]

  -- all words are visited, and the budget is spent before
  whole_or_spent : (words others : List Word) (w : Word) → Listed (λ o. Unit {0}) words → length words ≤ n → Live w → Listed (λ o. IsBefore o w) others → length others ≡ n → ⊥
  whole_or_spent words others w a few live b all = let more = more_words (λ o. Unit {0}) others words w live b a tt (λ o h. tt) in omega (arith, more, few, all)

  -- a search ends in one way
  end_unique : (a b : Result Findings Stop) → Ends a → Ends b → a ≡ b
  end_unique _ _ (whole words found a few openings visits f) (whole others found_too b few_too openings_too visits_too g) =
      let same = listed_unique (λ o. Unit {0}) (λ o. Unit {0}) words others (λ o h. h) (λ o h. h) a b in
      let same_found = found_unique found found_too f g in
      λ i. Ok (record { found = same_found i; live = length (same i) })
  end_unique _ _ (whole words found a few openings visits f) (first_overflows others k q b few_too openings_too visits_too there known) = absurd (opened_not (length t.vectors) k q openings there known)
  end_unique _ _ (whole words found a few openings visits f) (fan_overflows others u q live b few_too openings_too visits_too known) =
      absurd (visited_not (λ o. Unit {0}) words u q a visits live tt known)
  end_unique _ _ (whole words found a few openings visits f) (budget_spent others u live b all openings_too visits_too) = absurd (whole_or_spent words others u a few live b all)
  end_unique _ _ (first_overflows words h p a few openings visits there known) (whole others found b few_too openings_too visits_too g) = absurd (opened_not (length t.vectors) h p openings_too there known)
  end_unique _ _ (first_overflows words h p a few openings visits there known) (first_overflows others k q b few_too openings_too visits_too there_too known_too) =
      first_unique h k p q openings known openings_too known_too
  end_unique _ _ (first_overflows words h p a few openings visits there known) (fan_overflows others u q live b few_too openings_too visits_too known_too) =
      absurd (first_or_fan words others h p q u a visits known live openings_too known_too)
  end_unique _ _ (first_overflows words h p a few openings visits there known) (budget_spent others u live b all openings_too visits_too) =
      absurd (first_or_spent words others h p u a few known live b all openings_too)
  end_unique _ _ (fan_overflows words w p live a few openings visits known) (whole others found b few_too openings_too visits_too g) =
      absurd (visited_not (λ o. Unit {0}) others w p b visits_too live tt known)
  end_unique _ _ (fan_overflows words w p live a few openings visits known) (first_overflows others k q b few_too openings_too visits_too there known_too) =
      absurd (first_or_fan others words k q p w b visits_too known_too live openings known)
  end_unique _ _ (fan_overflows words w p live a few openings visits known) (fan_overflows others u q live_too b few_too openings_too visits_too known_too) =
      fan_unique words others w u p q live a visits known live_too b visits_too known_too
  end_unique _ _ (fan_overflows words w p live a few openings visits known) (budget_spent others u live_too b all openings_too visits_too) =
      absurd (fan_or_spent words others w u p live a few known live_too b all visits_too)
  end_unique _ _ (budget_spent words w live a all openings visits) (whole others found b few_too openings_too visits_too g) = absurd (whole_or_spent others words w b few_too live a all)
  end_unique _ _ (budget_spent words w live a all openings visits) (first_overflows others k q b few_too openings_too visits_too there known) =
      absurd (first_or_spent others words k q w b few_too known live a all openings)
  end_unique _ _ (budget_spent words w live a all openings visits) (fan_overflows others u q live_too b few_too openings_too visits_too known) =
      absurd (fan_or_spent others words u w q live_too b few_too known live a all visits)
  end_unique _ _ (budget_spent words w live a all openings visits) (budget_spent others u live_too b all_too openings_too visits_too) = refl

-- what a call returns is the one end of the search
pub returned_unique : (d : ℕ) (t : Triangulation) (bound : Quadratic) (n : ℕ) (result : Result Fans Stop) → ReturnsSearch (EndsSearch d t bound n) result
    → (end : Result Findings Stop) → EndsSearch d t bound n end → ReturnsSearch (λ returned. returned ≡ end) result
returned_unique d t bound n (Ok fans) h end ends = end_unique d t bound n (Ok (record { found = fans.found; live = fans.live })) end h ends
returned_unique d t bound n (Err NoMemory) h end ends = tt
returned_unique d t bound n (Err (Undecided k)) h end ends = end_unique d t bound n (Err (Undecided k)) end h ends
returned_unique d t bound n (Err (Overflow site)) h end ends = end_unique d t bound n (Err (Overflow site)) end h ends
