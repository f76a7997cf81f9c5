-- Won comparisons where a state keeps its components: the letters and the row that are written give the component after the event, and leave the others alone.
use Rattle.std.proofs.Common.{◌≡◌, ℕ, ◌<◌, ◌≤◌, true, false, List, [], ◌∷◌, ◌++◌, length, get_or, set, take, drop, refl, sym, ap, ◌∙◌, subst, inl, inr, arith}
use Rattle.std.proofs.lemmas.List.{length-set, length-append, map-append}
use Rattle.std.specs.List.{AllByRecursion}
use Rattle.fs_lists.specs.Members.{IsIn, IsDistinct}
use Rattle.fs_lists.proofs.All.{All-prefix, All-suffix}
use Rattle.fs_lists.proofs.Members.{in_append_left, in_append_right}
use Rattle.fs_quadratic.specs.Ring.{Quadratic, IsLess, sub}
use Rattle.fs_gluing.specs.Exchanges.{Letter, Component, IsLawful}
use Rattle.fs_iet.specs.ExchangeValue.{most_letters}
use Rattle.fs_rauzy.specs.declared.events.Event.TheVariants.{Won}
use Rattle.fs_rauzy.specs.declared.rows.Extent.{Extent}
use Rattle.fs_rauzy.specs.Events.{with_letter, won_over, lost_below, lost_above, IsMovedBehind, IsWonByTop, IsWonByBottom, Makes, wins_above, wins_below}
use Rattle.fs_rauzy.specs.StatesInPlace.{no_letter, letters_at, component_at, opened, AreLaid, IsInPlace}
use Rattle.fs_rauzy.proofs.LastInPlace.{AreLastInPlace, first_within, around_below, around_above}
use Rattle.fs_rauzy.proofs.RowsAround.{All-drop, distinct_across, not_in_take, whole_row, same_front}
use Rattle.fs_rauzy.proofs.WrittenLetters.{AreNamed, AreWithin, AreSameAt, named_set, within_set, letters_at_set, same_at_set, opened_same}

-- ---- a row whose last item moves

module _ {X : Type 0} (x y : X) (right : List X) where
  All_moved : (P : X → Type 0) (left : List X) → AllByRecursion P (left ++ x ∷ (right ++ y ∷ [])) → AllByRecursion P (left ++ x ∷ (y ∷ right))
  All_moved P [] a = (a.0, ((All-suffix P right (y ∷ []) a.1).0, All-prefix P right (y ∷ []) a.1))
  All_moved P (z ∷ left) a = (a.0, All_moved P left a.1)

  in_moved : (z : X) (left : List X) → IsIn z (left ++ x ∷ (y ∷ right)) → IsIn z (left ++ x ∷ (right ++ y ∷ []))
  in_moved z [] (inl e) = inl e
  in_moved z [] (inr (inl e)) = inr (in_append_right z right (y ∷ []) (inl e))
  in_moved z [] (inr (inr h)) = inr (in_append_left z right (y ∷ []) h)
  in_moved z (w ∷ left) (inl e) = inl e
  in_moved z (w ∷ left) (inr h) = inr (in_moved z left h)

  distinct_moved : (left : List X) → IsDistinct (left ++ x ∷ (right ++ y ∷ [])) → IsDistinct (left ++ x ∷ (y ∷ right))
  distinct_moved [] p = (
    (λ z h. p.0 z (elim h [ inl e ↦ in_append_right z right (y ∷ []) (inl e) | inr k ↦ in_append_left z right (y ∷ []) k ])),
    ((λ z h e. distinct_across z right (y ∷ []) p.1 (inl (sym e)) h), distinct_prefix right (y ∷ []) p.1),
  )
    where
      distinct_prefix : (xs ys : List X) → IsDistinct (xs ++ ys) → IsDistinct xs
      distinct_prefix [] ys q = tt
      distinct_prefix (z ∷ xs) ys q = ((λ w h. q.0 w (in_append_left w xs ys h)), distinct_prefix xs ys q.1)
  distinct_moved (z ∷ left) p = ((λ w h. p.0 w (in_moved w left h)), distinct_moved left p.1)

  length_moved : (left : List X) → length (left ++ x ∷ (y ∷ right)) ≡ length (left ++ x ∷ (right ++ y ∷ []))
  length_moved left =
      let one = length-append left (x ∷ (y ∷ right)) in
      let two = length-append left (x ∷ (right ++ y ∷ [])) in
      let three = length-append right (y ∷ []) in
      omega arith

-- ---- two letters that are written under their names

module _ (letters : List Letter) (m n : ℕ) (a b : Letter) (named : AreNamed letters) (m_inside : m < length letters) (n_inside : n < length letters) (m_own : a.name ≡ m) (n_own : b.name ≡ n) where
  n_inside_after : n < length (set letters m a)
  n_inside_after = let long = length-set letters m a in omega arith

  named_twice : AreNamed (set (set letters m a) n b)
  named_twice = named_set (set letters m a) n b (named_set letters m a named m_inside m_own) n_inside_after n_own

  within_twice : (names : List ℕ) → AreWithin letters names → AreWithin (set (set letters m a) n b) names
  within_twice names within =
      within_set (set letters m a) n b (named_set letters m a named m_inside m_own) n_inside_after n_own names (within_set letters m a named m_inside m_own names within)

  letters_at_twice : (names : List ℕ) → AreWithin letters names → letters_at (set (set letters m a) n b) names ≡ with_letter b (with_letter a (letters_at letters names))
  letters_at_twice names within =
      letters_at_set (set letters m a) n b (named_set letters m a named m_inside m_own) n_inside_after n_own names (within_set letters m a named m_inside m_own names within)
      ∙ ap (with_letter b) (letters_at_set letters m a named m_inside m_own names within)

  same_at_twice : (names : List ℕ) → ¬ IsIn m names → ¬ IsIn n names → AreSameAt (set (set letters m a) n b) letters names
  same_at_twice names not_m not_n name h = same_at_set (set letters m a) n b names not_n name h ∙ same_at_set letters m a names not_m name h

-- ---- the events

-- the extent of a component of another total
abbrev pub with_total : Extent → Quadratic → Extent
with_total e total = record e { total = total }

module _ {letters : List Letter} {top bottom : List ℕ} {e : Extent} {extents : List Extent} (place : IsInPlace letters top bottom (e ∷ extents))
    {d : ℕ} (lawful : IsLawful d (component_at letters top bottom e)) (x y : ℕ) where
  abbrev a : Letter
  a = get_or letters x no_letter

  abbrev b : Letter
  b = get_or letters y no_letter

  -- ---- the top row's last letter wins

  module _ (last : AreLastInPlace (λ a b. IsLess d b.length a.length) letters top bottom e x y) where
    -- the letters after it
    abbrev pub won_above_letters : List Letter
    won_above_letters = set (set letters x (won_over a b)) y (lost_below a b)

    -- the bottom row after it
    abbrev pub won_above_row : List ℕ
    won_above_row = let at = around_below place lawful last in (take e.first bottom ++ at.left) ++ x ∷ (y ∷ at.right)

    abbrev pub won_above_extent : Extent
    won_above_extent = with_total e (sub e.total b.length)

    -- the component after it
    pub won_above_component : IsWonByTop d (component_at letters top bottom e) (component_at won_above_letters top won_above_row won_above_extent)
    won_above_component =
        let at = around_below place lawful last in
        let front = same_front e.first bottom won_above_row at.left (x ∷ (y ∷ at.right)) (first_within place).1 refl in
        record {
          x = a;
          y = b;
          last = last.last;
          longer = last.holds;
          base = refl;
          sum = refl;
          top =
              letters_at_twice letters x y (won_over a b) (lost_below a b) place.named last.x_inside last.y_inside last.x_named last.y_named
              (drop e.first top) (All-drop (λ name. name < length letters) e.first top place.top_within);
          bottom =
              subst (λ (u : ℕ). IsMovedBehind u b.name (drop e.first bottom) (drop e.first won_above_row)) (sym last.x_named)
              (subst (λ (u : ℕ). IsMovedBehind x u (drop e.first bottom) (drop e.first won_above_row)) (sym last.y_named)
              (record { left = at.left; right = at.right; was = at.was; becomes = front.1 }));
        }

    -- the state after it
    pub won_above_makes : Makes d (opened letters top bottom (e ∷ extents)) (record {
      event = Won true;
      length = sub a.length b.length;
      components = opened won_above_letters top won_above_row (won_above_extent ∷ extents);
    })
    unfolding won_above_component
    won_above_makes =
        let at = around_below place lawful last in
        let front = same_front e.first bottom won_above_row at.left (x ∷ (y ∷ at.right)) (first_within place).1 refl in
        let others : opened won_above_letters (take e.first top) (take e.first won_above_row) extents ≡ opened letters (take e.first top) (take e.first bottom) extents =
        ap (λ (row : List ℕ). opened won_above_letters (take e.first top) row extents) front.0
        ∙ opened_same won_above_letters letters (take e.first top) (take e.first bottom) extents
        (same_at_twice letters x y (won_over a b) (lost_below a b) place.named last.x_inside last.y_inside last.x_named last.y_named (take e.first top)
        (not_in_take x e.first top place.apart last.x_there) (not_in_take y e.first top place.apart last.y_there)) in
        subst (λ (rest : List Component). Makes d (opened letters top bottom (e ∷ extents)) (record {
          event = Won true;
          length = sub a.length b.length;
          components = component_at won_above_letters top won_above_row won_above_extent ∷ rest;
        })) (sym others)
        (wins_above (component_at letters top bottom e) (component_at won_above_letters top won_above_row won_above_extent) (opened letters (take e.first top) (take e.first bottom) extents) won_above_component)

    -- it is in place
    pub won_above_place : IsInPlace won_above_letters top won_above_row (won_above_extent ∷ extents)
    won_above_place =
        let at = around_below place lawful last in
        let whole = whole_row e.first bottom at.left (x ∷ (at.right ++ y ∷ [])) at.was in
        let long : length won_above_letters ≡ length letters = length-set (set letters x (won_over a b)) y (lost_below a b) ∙ length-set letters x (won_over a b) in
        record {
          named = named_twice letters x y (won_over a b) (lost_below a b) place.named last.x_inside last.y_inside last.x_named last.y_named;
          few = subst (λ (k : ℕ). k ≤ most_letters) (sym long) place.few;
          top_within = within_twice letters x y (won_over a b) (lost_below a b) place.named last.x_inside last.y_inside last.x_named last.y_named top place.top_within;
          bottom_within =
              within_twice letters x y (won_over a b) (lost_below a b) place.named last.x_inside last.y_inside last.x_named last.y_named won_above_row
              (All_moved x y at.right (λ name. name < length letters) (take e.first bottom ++ at.left) (subst (AllByRecursion (λ name. name < length letters)) whole place.bottom_within));
          as_long = length_moved x y at.right (take e.first bottom ++ at.left) ∙ sym (ap length whole) ∙ place.as_long;
          apart = place.apart;
          laid = place.laid;
        }

  -- ---- the bottom row's last letter wins

  module _ (last : AreLastInPlace (λ a b. IsLess d a.length b.length) letters top bottom e x y) where
    -- the letters after it
    abbrev pub won_below_letters : List Letter
    won_below_letters = set (set letters y (won_over b a)) x (lost_above b a)

    -- the top row after it
    abbrev pub won_below_row : List ℕ
    won_below_row = let at = around_above place lawful last in (take e.first top ++ at.left) ++ y ∷ (x ∷ at.right)

    abbrev pub won_below_extent : Extent
    won_below_extent = with_total e (sub e.total a.length)

    -- the letters of the top row's names after they moved
    moved_letters : IsMovedBehind b a (letters_at letters (drop e.first top)) (letters_at letters (drop e.first won_below_row))
    moved_letters =
        let at = around_above place lawful last in
        let front = same_front e.first top won_below_row at.left (y ∷ (x ∷ at.right)) (first_within place).0 refl in
        let at_name = λ (name : ℕ). get_or letters name no_letter in
        record {
          left = letters_at letters at.left;
          right = letters_at letters at.right;
          was =
              ap (letters_at letters) at.was ∙ map-append at_name at.left (y ∷ (at.right ++ x ∷ []))
              ∙ ap (λ (ls : List Letter). letters_at letters at.left ++ b ∷ ls) (map-append at_name at.right (x ∷ []));
          becomes = ap (letters_at letters) front.1 ∙ map-append at_name at.left (y ∷ (x ∷ at.right));
        }

    within_moved : AreWithin letters won_below_row
    within_moved =
        let at = around_above place lawful last in
        let whole = whole_row e.first top at.left (y ∷ (at.right ++ x ∷ [])) at.was in
        All_moved y x at.right (λ name. name < length letters) (take e.first top ++ at.left) (subst (AllByRecursion (λ name. name < length letters)) whole place.top_within)

    -- the component after it
    pub won_below_component : IsWonByBottom d (component_at letters top bottom e) (component_at won_below_letters won_below_row bottom won_below_extent)
    won_below_component = record {
      x = a;
      y = b;
      last = last.last;
      longer = last.holds;
      base = refl;
      sum = refl;
      row = letters_at letters (drop e.first won_below_row);
      moved = moved_letters;
      top =
          letters_at_twice letters y x (won_over b a) (lost_above b a) place.named last.y_inside last.x_inside last.y_named last.x_named
          (drop e.first won_below_row) (All-drop (λ name. name < length letters) e.first won_below_row within_moved);
      bottom = refl;
    }

    -- the state after it
    pub won_below_makes : Makes d (opened letters top bottom (e ∷ extents)) (record {
      event = Won false;
      length = sub b.length a.length;
      components = opened won_below_letters won_below_row bottom (won_below_extent ∷ extents);
    })
    unfolding won_below_component
    won_below_makes =
        let at = around_above place lawful last in
        let front = same_front e.first top won_below_row at.left (y ∷ (x ∷ at.right)) (first_within place).0 refl in
        let others : opened won_below_letters (take e.first won_below_row) (take e.first bottom) extents ≡ opened letters (take e.first top) (take e.first bottom) extents =
        ap (λ (row : List ℕ). opened won_below_letters row (take e.first bottom) extents) front.0
        ∙ opened_same won_below_letters letters (take e.first top) (take e.first bottom) extents
        (same_at_twice letters y x (won_over b a) (lost_above b a) place.named last.y_inside last.x_inside last.y_named last.x_named (take e.first top)
        (not_in_take y e.first top place.apart last.y_there) (not_in_take x e.first top place.apart last.x_there)) in
        subst (λ (rest : List Component). Makes d (opened letters top bottom (e ∷ extents)) (record {
          event = Won false;
          length = sub b.length a.length;
          components = component_at won_below_letters won_below_row bottom won_below_extent ∷ rest;
        })) (sym others)
        (wins_below (component_at letters top bottom e) (component_at won_below_letters won_below_row bottom won_below_extent) (opened letters (take e.first top) (take e.first bottom) extents) won_below_component)

    -- it is in place
    pub won_below_place : IsInPlace won_below_letters won_below_row bottom (won_below_extent ∷ extents)
    won_below_place =
        let at = around_above place lawful last in
        let whole = whole_row e.first top at.left (y ∷ (at.right ++ x ∷ [])) at.was in
        let long : length won_below_letters ≡ length letters = length-set (set letters y (won_over b a)) x (lost_above b a) ∙ length-set letters y (won_over b a) in
        let as_long : length won_below_row ≡ length top = length_moved y x at.right (take e.first top ++ at.left) ∙ sym (ap length whole) in
        record {
          named = named_twice letters y x (won_over b a) (lost_above b a) place.named last.y_inside last.x_inside last.y_named last.x_named;
          few = subst (λ (k : ℕ). k ≤ most_letters) (sym long) place.few;
          top_within = within_twice letters y x (won_over b a) (lost_above b a) place.named last.y_inside last.x_inside last.y_named last.x_named won_below_row within_moved;
          bottom_within = within_twice letters y x (won_over b a) (lost_above b a) place.named last.y_inside last.x_inside last.y_named last.x_named bottom place.bottom_within;
          as_long = place.as_long ∙ sym as_long;
          apart = distinct_moved y x at.right (take e.first top ++ at.left) (subst IsDistinct whole place.apart);
          laid = subst (λ (k : ℕ). AreLaid k (won_below_extent ∷ extents)) (sym as_long) place.laid;
        }
