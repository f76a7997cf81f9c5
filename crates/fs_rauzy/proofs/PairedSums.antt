-- The sum over letters of a pairing of their lengths with their return vectors stays the same by each event; closing takes the closed component's part away. A library for crates to come.
use Rattle.std.proofs.Common.{◌≡◌, ◌≢◌, ℕ, ◌==◌, if◌then◌else◌, Bool, true, false, Option, is_some, List, [], ◌∷◌, ◌++◌, map, take, drop, refl, sym, ap, ◌∙◌, subst, inl, inr, take-append-drop}
use Rattle.std.specs.List.{AllByRecursion}
use Rattle.std.proofs.lemmas.List.{map-append}
use Rattle.fs_lists.specs.Members.{IsIn, IsDistinct}
use Rattle.fs_lists.proofs.Members.{in_append_cases, in_map}
use Rattle.fs_ring.proofs.Solver.{◌⊕◌, ◌⊖◌, ◌≐◌, identity}
use Rattle.fs_quadratic.specs.Ring.{Quadratic, sub}
use Rattle.fs_quadratic.proofs.Laws.{quadratic_ring}
use Rattle.fs_plane.specs.Vector.{PlaneVector, vector_add}
use Rattle.fs_gluing.specs.Exchanges.{Letter, Component, IsLawful, names_of}
use Rattle.fs_iet.proofs.Rearrangements.{in_permutation, distinct_permutation}
use Rattle.fs_rauzy.specs.declared.events.Event.TheVariants.{Closed}
use Rattle.fs_rauzy.specs.declared.events.Found.{Found}
use Rattle.fs_rauzy.specs.Events.{with_letter, won_over, lost_below, lost_above, merged_of, without_start, without_end, IsMovedBehind, IsWonByTop, IsWonByBottom, IsMerged, IsSplit, Outcome, Makes, splits, closes, wins_above, wins_below, merges}
use Rattle.fs_rauzy.specs.Pairings.{Addition, IsPairing, letters_sum, paired_sum}
use Rattle.fs_rauzy.proofs.RowEnds.{distinct_left, moved_permutation, moved_names}
use Rattle.fs_rauzy.proofs.LetterChanges.{put_cases, with_letter-names, with_letter_other}
use Rattle.fs_rauzy.proofs.EventRows.{last_in}

module _ {W : Type 0} {G : Addition W} {pair : Quadratic → PlaneVector → W} (P : IsPairing G pair) where
  open G use {add as ◌+◌, neg, zero as 𝟘}
  open P.group use {add_assoc, add_comm, add_zero, add_neg}

  infixl 60 ◌+◌
  -- ---- the group

  zero_add : (x : W) → 𝟘 + x ≡ x
  zero_add x = add_comm 𝟘 x ∙ add_zero x

  add_right_comm : (x y z : W) → (x + y) + z ≡ (x + z) + y
  add_right_comm x y z = add_assoc x y z ∙ ap (λ w. x + w) (add_comm y z) ∙ sym (add_assoc x z y)

  add_right_cancel : (x y z : W) → x + z ≡ y + z → x ≡ y
  add_right_cancel x y z e = sym (back x) ∙ ap (λ w. w + neg z) e ∙ back y
    where
      back : (w : W) → (w + z) + neg z ≡ w
      back w = add_assoc w z (neg z) ∙ ap (λ v. w + v) (add_neg z) ∙ add_zero w

  -- after both changes of a won comparison the sum is the one before
  both_changes : (s t u x y won lost q : W) → t + x ≡ s + won → u + y ≡ t + lost → x ≡ won + q → lost ≡ y + q → u ≡ s
  both_changes s t u x y won lost q first second of_winner of_loser =
      add_right_cancel u s (y + x)
      (sym (add_assoc u y x)
      ∙ ap (λ w. w + x) second
      ∙ add_right_comm t lost x
      ∙ ap (λ w. w + lost) first
      ∙ ap (λ w. s + won + w) of_loser
      ∙ sym (add_assoc (s + won) y q)
      ∙ ap (λ w. w + q) (add_right_comm s won y)
      ∙ add_assoc (s + y) won q
      ∙ ap (λ w. s + y + w) (sym of_winner)
      ∙ add_assoc s y x)

  -- ---- rows

  -- what a letter adds
  abbrev part : Letter → W
  part letter = pair letter.length letter.back

  abbrev sum_of : List Letter → W
  sum_of letters = letters_sum G pair letters

  sum_of-append : (xs ys : List Letter) → sum_of (xs ++ ys) ≡ sum_of xs + sum_of ys
  sum_of-append [] ys = sym (zero_add (sum_of ys))
  sum_of-append (x ∷ xs) ys = ap (λ w. part x + w) (sum_of-append xs ys) ∙ sym (add_assoc (part x) (sum_of xs) (sum_of ys))

  sum_of-push : (xs : List Letter) (x : Letter) → sum_of (xs ++ x ∷ []) ≡ sum_of xs + part x
  sum_of-push xs x = sum_of-append xs (x ∷ []) ∙ ap (λ w. sum_of xs + w) (add_zero (part x))

  moved_sum : {w l : Letter} {before after : List Letter} → IsMovedBehind w l before after → sum_of after ≡ sum_of before
  moved_sum {w} {l} {before} {after} m =
      ap sum_of m.becomes
      ∙ sum_of-append m.left (w ∷ (l ∷ m.right))
      ∙ ap (λ v. sum_of m.left + (part w + v)) (add_comm (part l) (sum_of m.right) ∙ sym (sum_of-push m.right l))
      ∙ sym (sum_of-append m.left (w ∷ (m.right ++ l ∷ [])))
      ∙ ap sum_of (sym m.was)

  -- letters of other names stay
  others_sum : (new : Letter) (letters : List Letter) → ¬ IsIn new.name (names_of letters) → sum_of (with_letter new letters) ≡ sum_of letters
  others_sum new [] n = refl
  others_sum new (l ∷ ls) n =
      elim (put_cases new l) [
        | inl h ↦ absurd (n (inl (sym h.0)))
        | inr h ↦ λ i. part (h.1 i) + others_sum new ls (λ k. n (inr k)) i
      ]

  -- the sum is more by what the new letter adds, and less by what the old one does
  with_letter_sum : (new old : Letter) (letters : List Letter) → IsDistinct (names_of letters) → IsIn old letters → old.name ≡ new.name
      → sum_of (with_letter new letters) + part old ≡ sum_of letters + part new
  with_letter_sum new old [] p h e = absurd h
  with_letter_sum new old (l ∷ ls) p (inl f) e =
      let named : l.name ≡ new.name = ap (λ (l : Letter). l.name) (sym f) ∙ e in
      elim (put_cases new l) [
        | inl k ↦
            (λ i. part (k.1 i) + others_sum new ls (λ m. p.0 new.name m named) i + part (f i))
            ∙ add_right_comm (part new) (sum_of ls) (part l)
            ∙ ap (λ w. w + sum_of ls) (add_comm (part new) (part l))
            ∙ add_right_comm (part l) (part new) (sum_of ls)
        | inr k ↦ absurd (k.0 named)
      ]
  with_letter_sum new old (l ∷ ls) p (inr h) e =
      elim (put_cases new l) [
        | inl k ↦ absurd (p.0 old.name (in_map (λ (l : Letter). l.name) old ls h) (k.0 ∙ sym e))
        | inr k ↦
            (λ i. part (k.1 i) + sum_of (with_letter new ls) + part old)
            ∙ add_assoc (part l) (sum_of (with_letter new ls)) (part old)
            ∙ ap (λ w. part l + w) (with_letter_sum new old ls p.1 h e)
            ∙ sym (add_assoc (part l) (sum_of ls) (part new))
      ]

  -- ---- won comparisons

  won_sum : (winner loser lost : Letter) (letters : List Letter) → IsDistinct (names_of letters) → IsIn winner letters → IsIn loser letters → loser.name ≢ winner.name
      → loser.name ≡ lost.name → part lost ≡ pair loser.length (vector_add loser.back winner.back)
      → sum_of (with_letter lost (with_letter (won_over winner loser) letters)) ≡ sum_of letters
  won_sum winner loser lost letters p there other differ named is =
      let won = won_over winner loser in
      let row = with_letter won letters in
      both_changes (sum_of letters) (sum_of row) (sum_of (with_letter lost row)) (part winner) (part loser) (part won) (part lost) (pair loser.length winner.back)
      (with_letter_sum won winner letters p there refl)
      (with_letter_sum lost loser row (subst (λ (ns : List ℕ). IsDistinct ns) (sym (with_letter-names won letters)) p) (with_letter_other won loser letters other differ) named)
      (ap (λ (a : Quadratic). pair a winner.back) (identity (quadratic_ring 0) (winner.length ∷ loser.length ∷ []) (λ x y. x ≐ (x ⊖ y) ⊕ y) refl)
      ∙ P.numbers (sub winner.length loser.length) loser.length winner.back)
      (is ∙ P.vectors loser.length loser.back winner.back)

  won_above_sum : {d : ℕ} {c a : Component} → IsDistinct (names_of c.top) → IsWonByTop d c a → sum_of a.top ≡ sum_of c.top
  won_above_sum {d} {c} {a} p w =
      ap sum_of w.top ∙ won_sum w.x w.y (lost_below w.x w.y) c.top p (last_in w.last) w.last.there (λ e. w.last.differ (sym e)) refl refl

  won_below_sum : {d : ℕ} {c a : Component} → IsDistinct (names_of c.top) → IsWonByBottom d c a → sum_of a.top ≡ sum_of c.top
  won_below_sum {d} {c} {a} p w =
      let to = moved_permutation w.moved in
      ap sum_of w.top
      ∙ won_sum w.y w.x (lost_above w.y w.x) w.row (distinct_permutation (names_of c.top) (names_of w.row) (moved_permutation (moved_names w.moved)) p)
      (in_permutation w.y c.top w.row to w.last.there) (in_permutation w.x c.top w.row to (last_in w.last)) w.last.differ refl refl
      ∙ moved_sum w.moved

  -- ---- merges

  merged_sum : {c a : Component} {f : Option Found} → IsDistinct (names_of c.top) → IsMerged c a f → sum_of a.top ≡ sum_of c.top
  merged_sum {c} {a} {f} p m =
      let front = m.last.before_top in
      let names : names_of c.top ≡ names_of front ++ m.x.name ∷ [] = ap names_of m.last.top ∙ map-append (λ (l : Letter). l.name) front (m.x ∷ []) in
      let there : IsIn m.y front = elim (in_append_cases m.y front (m.x ∷ []) (subst (IsIn m.y) m.last.top m.last.there)) [
        | inl k ↦ k
        | inr k ↦ elim k [ inl e ↦ absurd (m.last.differ (ap (λ (l : Letter). l.name) (sym e))) | inr n ↦ absurd n ]
      ] in
      let new = merged_of m.x m.y in
      ap sum_of m.top
      ∙ add_right_cancel (sum_of (with_letter new front)) (sum_of front + part m.x) (part m.y)
      (with_letter_sum new m.y front (distinct_left (names_of front) (m.x.name ∷ []) (subst (λ (ns : List ℕ). IsDistinct ns) names p)) there refl
      ∙ ap (λ w. sum_of front + w) (P.vectors m.y.length m.y.back m.x.back ∙ ap (λ (a : Quadratic). part m.y + pair a m.x.back) (sym m.equal) ∙ add_comm (part m.y) (part m.x))
      ∙ sym (add_assoc (sum_of front) (part m.x) (part m.y)))
      ∙ sym (sum_of-push front m.x)
      ∙ ap sum_of (sym m.last.top)

  -- ---- splits

  relabelled_sum : (f : Letter → Letter) → ((letter : Letter) → part (f letter) ≡ part letter) → (letters : List Letter) → sum_of (map f letters) ≡ sum_of letters
  relabelled_sum f same [] = refl
  relabelled_sum f same (l ∷ ls) = λ i. same l i + relabelled_sum f same ls i

  without_start-part : (name : ℕ) (letter : Letter) → part (without_start name letter) ≡ part letter
  without_start-part name letter =
      elim (letter.name == name) as (λ t. part (if t then record letter { start = record letter.start { real = false } } else letter) ≡ part letter) [ true ↦ refl | false ↦ refl ]

  without_end-part : (name : ℕ) (letter : Letter) → part (without_end name letter) ≡ part letter
  without_end-part name letter =
      elim (letter.name == name) as (λ t. part (if t then record letter { end = record letter.end { real = false } } else letter) ≡ part letter) [ true ↦ refl | false ↦ refl ]

  split_sum : {c left right : Component} {k : ℕ} {found : Option Found} → IsSplit c k left right found → sum_of left.top + sum_of right.top ≡ sum_of c.top
  split_sum {c} {left} {right} {k} {found} s =
      (λ i. sum_of (s.left_part i).top + sum_of (s.right_part i).top)
      ∙ ap (λ w. sum_of (take k c.top) + w) (go (is_some found))
      ∙ sym (sum_of-append (take k c.top) (drop k c.top))
      ∙ ap sum_of (take-append-drop k c.top)
    where
      go : (b : Bool) → sum_of (if b then map (λ letter. without_end s.ending.name (without_start s.starting.name letter)) (drop k c.top) else drop k c.top) ≡ sum_of (drop k c.top)
      go true =
          relabelled_sum (λ letter. without_end s.ending.name (without_start s.starting.name letter))
          (λ letter. without_end-part s.ending.name (without_start s.starting.name letter) ∙ without_start-part s.starting.name letter) (drop k c.top)
      go false = refl

  -- ---- events

  -- an event that closes no component keeps the sum
  pub event_sum : {d : ℕ} {components : List Component} {outcome : Outcome} → AllByRecursion (IsLawful d) components → Makes d components outcome → outcome.event ≢ Closed
      → paired_sum G pair outcome.components ≡ paired_sum G pair components
  event_sum all (splits c left right rest k found s) going =
      sym (add_assoc (sum_of right.top) (sum_of left.top) (paired_sum G pair rest))
      ∙ ap (λ w. w + paired_sum G pair rest) (add_comm (sum_of right.top) (sum_of left.top) ∙ split_sum s)
  event_sum all (closes c rest) going = absurd (going refl)
  event_sum all (wins_above c after rest won) going = ap (λ w. w + paired_sum G pair rest) (won_above_sum all.0.names won)
  event_sum all (wins_below c after rest won) going = ap (λ w. w + paired_sum G pair rest) (won_below_sum all.0.names won)
  event_sum all (merges c after rest found m) going = ap (λ w. w + paired_sum G pair rest) (merged_sum all.0.names m)

  -- closing takes away what the letters of the closed component sum to
  pub closed_sum : {d : ℕ} {components : List Component} {outcome : Outcome} {c : Component} {rest : List Component} → Makes d components outcome → outcome.event ≡ Closed
      → components ≡ c ∷ rest → letters_sum G pair c.top + paired_sum G pair outcome.components ≡ paired_sum G pair components
  closed_sum (splits a left right others k found s) e f = cc
  closed_sum {c = c} (closes a others) e f =
      let same : c ≡ a = cc in
      ap (λ (x : Component). sum_of x.top + paired_sum G pair others) same
  closed_sum (wins_above a after others won) e f = cc
  closed_sum (wins_below a after others won) e f = cc
  closed_sum (merges a after others found m) e f = cc
