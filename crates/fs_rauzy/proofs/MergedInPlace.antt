-- Merges where a state keeps its components: the letter and the rows that are written give the component after the event, and leave the others alone.
use Rattle.std.proofs.Common.{◌≡◌, ◌≢◌, ℕ, ◌+◌, ◌<◌, ◌≤◌, List, [], ◌∷◌, ◌++◌, length, get_or, set, take, drop, refl, sym, ap, ◌∙◌, subst, inl, inr, arith}
use Rattle.std.proofs.Math.Seq.{length-take-le}
use Rattle.std.proofs.lemmas.List.{append-nil, length-set, length-append, map_push}
use Rattle.std.specs.List.{AllByRecursion}
use Rattle.fs_lists.specs.Members.{IsIn, IsDistinct}
use Rattle.fs_lists.proofs.All.{All-prefix, All-suffix}
use Rattle.fs_lists.proofs.Members.{in_append_left}
use Rattle.fs_quadratic.specs.Ring.{sub}
use Rattle.fs_gluing.specs.Exchanges.{Letter, Component, IsLawful}
use Rattle.fs_iet.specs.ExchangeValue.{most_letters}
use Rattle.fs_rauzy.specs.declared.events.Event.TheVariants.{Merged}
use Rattle.fs_rauzy.specs.declared.rows.Extent.{Extent}
use Rattle.fs_rauzy.specs.Events.{with_letter, merged_of, connection, IsPutInPlace, IsMerged, Makes, merges}
use Rattle.fs_rauzy.specs.StatesInPlace.{no_letter, letters_at, component_at, opened, IsInPlace}
use Rattle.fs_rauzy.proofs.LastInPlace.{AreLastInPlace, first_within, around_below}
use Rattle.fs_rauzy.proofs.RowsAround.{All-drop, not_in_take, whole_row, same_front}
use Rattle.fs_rauzy.proofs.WonInPlace.{with_total}
use Rattle.fs_rauzy.proofs.WrittenLetters.{AreWithin, named_set, within_set, letters_at_set, same_at_set, opened_same}

module _ {X : Type 0} (x y : X) (right : List X) where
  All_put : (P : X → Type 0) (left : List X) → AllByRecursion P (left ++ x ∷ (right ++ y ∷ [])) → AllByRecursion P (left ++ y ∷ right)
  All_put P [] a = ((All-suffix P right (y ∷ []) a.1).0, All-prefix P right (y ∷ []) a.1)
  All_put P (z ∷ left) a = (a.0, All_put P left a.1)

  length_put : (left : List X) → length (left ++ y ∷ right) + 1 ≡ length (left ++ x ∷ (right ++ y ∷ []))
  length_put left =
      let one = length-append left (y ∷ right) in
      let two = length-append left (x ∷ (right ++ y ∷ [])) in
      let three = length-append right (y ∷ []) in
      omega arith

distinct_prefix : {X : Type 0} (xs ys : List X) → IsDistinct (xs ++ ys) → IsDistinct xs
distinct_prefix [] ys p = tt
distinct_prefix (x ∷ xs) ys p = ((λ y h. p.0 y (in_append_left y xs ys h)), distinct_prefix xs ys p.1)

-- two different names are in a row of at least two
two_there : (x y : ℕ) (before : List ℕ) → x ≢ y → IsIn y (before ++ x ∷ []) → 0 < length before
two_there x y [] differ (inl e) = absurd (differ (sym e))
two_there x y [] differ (inr h) = absurd h
two_there x y (z ∷ before) differ h = omega arith

module _ {letters : List Letter} {top bottom : List ℕ} {e : Extent} {extents : List Extent} (place : IsInPlace letters top bottom (e ∷ extents))
    {d : ℕ} (lawful : IsLawful d (component_at letters top bottom e)) {x y : ℕ} (last : AreLastInPlace (λ a b. a.length ≡ b.length) letters top bottom e x y) where
  abbrev a : Letter
  a = get_or letters x no_letter

  abbrev b : Letter
  b = get_or letters y no_letter

  -- the letters after the merge
  abbrev pub merged_letters : List Letter
  merged_letters = set letters y (merged_of a b)

  -- the rows after it
  abbrev pub merged_top : List ℕ
  merged_top = take e.first top ++ last.top_before

  abbrev pub merged_bottom : List ℕ
  merged_bottom = let at = around_below place lawful last in (take e.first bottom ++ at.left) ++ y ∷ at.right

  abbrev pub merged_extent : Extent
  merged_extent = with_total e (sub e.total a.length)

  -- the top row was longer by its last name
  pub top_was : top ≡ merged_top ++ x ∷ []
  top_was = whole_row e.first top last.top_before (x ∷ []) last.top_end

  -- the new rows begin as before
  top_front : (take e.first merged_top ≡ take e.first top) × (drop e.first merged_top ≡ last.top_before)
  top_front =
      same_front e.first top merged_top [] last.top_before (first_within place).0
      (ap (λ (us : List ℕ). us ++ last.top_before) (sym (append-nil (take e.first top))))

  bottom_front : (take e.first merged_bottom ≡ take e.first bottom) × (drop e.first merged_bottom ≡ (around_below place lawful last).left ++ y ∷ (around_below place lawful last).right)
  bottom_front = let at = around_below place lawful last in same_front e.first bottom merged_bottom at.left (y ∷ at.right) (first_within place).1 refl

  top_within : AreWithin letters merged_top
  top_within = All-prefix (λ name. name < length letters) merged_top (x ∷ []) (subst (AreWithin letters) top_was place.top_within)

  bottom_within : AreWithin letters merged_bottom
  bottom_within =
      let at = around_below place lawful last in
      All_put x y at.right (λ name. name < length letters) (take e.first bottom ++ at.left)
      (subst (AreWithin letters) (whole_row e.first bottom at.left (x ∷ (at.right ++ y ∷ [])) at.was) place.bottom_within)

  -- the component after it
  pub merged_component : IsMerged (component_at letters top bottom e) (component_at merged_letters merged_top merged_bottom merged_extent) (connection b a)
  merged_component =
      let at = around_below place lawful last in
      record {
        x = a;
        y = b;
        last = record {
          before_top = letters_at letters last.top_before;
          top = ap (letters_at letters) last.top_end ∙ map_push (λ (name : ℕ). get_or letters name no_letter) last.top_before x;
          before_bottom = last.last.before_bottom;
          bottom = last.last.bottom;
          there = last.last.there;
          differ = last.last.differ;
        };
        equal = last.holds;
        base = refl;
        sum = refl;
        top =
            letters_at_set letters y (merged_of a b) place.named last.y_inside last.y_named (drop e.first merged_top) (All-drop (λ name. name < length letters) e.first merged_top top_within)
            ∙ ap (λ (row : List ℕ). with_letter (merged_of a b) (letters_at letters row)) top_front.1;
        bottom =
            subst (λ (u : ℕ). IsPutInPlace u b.name (drop e.first bottom) (drop e.first merged_bottom)) (sym last.x_named)
            (subst (λ (u : ℕ). IsPutInPlace x u (drop e.first bottom) (drop e.first merged_bottom)) (sym last.y_named)
            (record { left = at.left; right = at.right; was = at.was; becomes = bottom_front.1 }));
        connected = refl;
      }

  -- the state after it
  pub merged_makes : Makes d (opened letters top bottom (e ∷ extents)) (record {
    event = Merged (connection b a);
    length = b.length;
    components = opened merged_letters merged_top merged_bottom (merged_extent ∷ extents);
  })
  unfolding merged_component
  merged_makes =
      let others : opened merged_letters (take e.first merged_top) (take e.first merged_bottom) extents ≡ opened letters (take e.first top) (take e.first bottom) extents =
      ap (λ (row : List ℕ). opened merged_letters row (take e.first merged_bottom) extents) top_front.0
      ∙ ap (λ (row : List ℕ). opened merged_letters (take e.first top) row extents) bottom_front.0
      ∙ opened_same merged_letters letters (take e.first top) (take e.first bottom) extents
      (same_at_set letters y (merged_of a b) (take e.first top) (not_in_take y e.first top place.apart last.y_there)) in
      subst (λ (rest : List Component). Makes d (opened letters top bottom (e ∷ extents)) (record {
        event = Merged (connection b a);
        length = b.length;
        components = component_at merged_letters merged_top merged_bottom merged_extent ∷ rest;
      })) (sym others)
      (merges (component_at letters top bottom e) (component_at merged_letters merged_top merged_bottom merged_extent) (opened letters (take e.first top) (take e.first bottom) extents)
      (connection b a) merged_component)

  -- it is in place
  pub merged_place : IsInPlace merged_letters merged_top merged_bottom (merged_extent ∷ extents)
  merged_place =
      let at = around_below place lawful last in
      let long : length merged_letters ≡ length letters = length-set letters y (merged_of a b) in
      let shorter : length top ≡ length merged_top + 1 = ap length top_was ∙ length-append merged_top (x ∷ []) in
      let shorter_below : length merged_bottom + 1 ≡ length bottom =
      length_put x y at.right (take e.first bottom ++ at.left) ∙ sym (ap length (whole_row e.first bottom at.left (x ∷ (at.right ++ y ∷ [])) at.was)) in
      let as_long = place.as_long in
      let some : 0 < length last.top_before = two_there x y last.top_before last.differ (subst (IsIn y) last.top_end last.y_there) in
      let front = length-take-le e.first top (first_within place).0 in
      let parts = length-append (take e.first top) last.top_before in
      record {
        named = named_set letters y (merged_of a b) place.named last.y_inside last.y_named;
        few = subst (λ (k : ℕ). k ≤ most_letters) (sym long) place.few;
        top_within = within_set letters y (merged_of a b) place.named last.y_inside last.y_named merged_top top_within;
        bottom_within = within_set letters y (merged_of a b) place.named last.y_inside last.y_named merged_bottom bottom_within;
        as_long = omega arith;
        apart = distinct_prefix merged_top (x ∷ []) (subst IsDistinct top_was place.apart);
        laid = (omega arith, place.laid.1);
      }
