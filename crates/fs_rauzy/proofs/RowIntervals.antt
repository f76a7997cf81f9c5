-- Rows of intervals that are laid one after another, when one item of a row changes its place or its length: all left ends stay but one.
use Rattle.std.proofs.Common.{◌≡◌, ◌≢◌, List, [], ◌∷◌, ◌++◌, refl, sym, ap, ◌∙◌, subst, inl, inr, append-nil}
use Rattle.fs_lists.specs.Members.{IsIn}
use Rattle.fs_lists.proofs.Members.{in_append_cases}
use Rattle.fs_ring.specs.Operations.{Operations}
use Rattle.fs_ring.specs.OrderedRing.{IsOrderedRing}
use Rattle.fs_convex.proofs.Rows.{Tiles}

-- the last interval ends where the row ends
pub last_ends : {A X : Type 0} (R : Operations A) (left len : X → A) (y z : A) (xs : List X) (a : X) → Tiles R left len y (xs ++ a ∷ []) z → R.add (left a) (len a) ≡ z
last_ends R left len y z [] a t = ap (λ u. R.add u (len a)) t.0 ∙ sym t.1
last_ends R left len y z (x ∷ xs) a t = last_ends R left len (R.add y (len x)) z xs a t.1

module _ {A X : Type 0} (R : Operations A) (left len left2 len2 : X → A) where
  -- two rows with the same items, and what comes after them
  pub record BeginAlike (xs ys ws : List X) (z w : A) : Type 0 where
    pub lefts : (x : X) → IsIn x xs → left2 x ≡ left x
    pub reached : A
    pub after : Tiles R left len reached ys z
    pub after2 : Tiles R left2 len2 reached ws w

  -- rows that begin at one place with the same items, as long in both, have the same left ends there
  pub begin_alike : (y z w : A) (xs ys ws : List X) → ((x : X) → IsIn x xs → len2 x ≡ len x) → Tiles R left len y (xs ++ ys) z → Tiles R left2 len2 y (xs ++ ws) w → BeginAlike xs ys ws z w
  begin_alike y z w [] ys ws same t v = record { lefts = λ x h. absurd h; reached = y; after = t; after2 = v }
  begin_alike y z w (x ∷ xs) ys ws same t v =
      let rest =
      begin_alike (R.add y (len x)) z w xs ys ws (λ u h. same u (inr h)) t.1
      (subst (λ l. Tiles R left2 len2 (R.add y l) (xs ++ ws) w) (same x (inl refl)) v.1) in
      record {
        lefts = λ u h. elim h [ inl e ↦ ap left2 e ∙ v.0 ∙ sym t.0 ∙ ap left (sym e) | inr k ↦ rest.lefts u k ];
        reached = rest.reached;
        after = rest.after;
        after2 = rest.after2;
      }

  -- the last length may be another
  pub kept_lefts : (y z w : A) (xs : List X) (a : X) → ((x : X) → IsIn x xs → len2 x ≡ len x) → Tiles R left len y (xs ++ a ∷ []) z → Tiles R left2 len2 y (xs ++ a ∷ []) w
      → (x : X) → IsIn x (xs ++ a ∷ []) → left2 x ≡ left x
  kept_lefts y z w xs a same t v x h =
      let both = begin_alike y z w xs (a ∷ []) (a ∷ []) same t v in
      elim (in_append_cases x xs (a ∷ []) h) [
        | inl k ↦ both.lefts x k
        | inr k ↦ elim k [ inl e ↦ ap left2 e ∙ both.after2.0 ∙ sym both.after.0 ∙ ap left (sym e) | inr n ↦ absurd n ]
      ]

  module _ (y z w : A) (xs : List X) (a b : X) (ys : List X)
      (same : (x : X) → IsIn x xs → len2 x ≡ len x) (same2 : (x : X) → IsIn x ys → len2 x ≡ len x)
      (t : Tiles R left len y (xs ++ a ∷ (ys ++ b ∷ [])) z) where
    -- items on both sides of one
    by_side : (P : X → Type 0) → ((x : X) → IsIn x xs → P x) → ((x : X) → IsIn x ys → P x) → (x : X) → IsIn x (xs ++ a ∷ (ys ++ b ∷ [])) → (x ≡ a → P x) → x ≢ b → P x
    by_side P before after x h at n = elim (in_append_cases x xs (a ∷ (ys ++ b ∷ [])) h) [
      | inl k ↦ before x k
      | inr k ↦ elim k [
        | inl e ↦ at e
        | inr m ↦ elim (in_append_cases x ys (b ∷ []) m) [ inl q ↦ after x q | inr q ↦ elim q [ inl e ↦ absurd (n e) | inr none ↦ absurd none ] ]
      ]
    ]

    -- the last item is put behind another, which is shorter by it
    module _ {P : A → Type 0} (L : IsOrderedRing R P) (shorter : R.add (len2 a) (len2 b) ≡ len a) (v : Tiles R left2 len2 y (xs ++ a ∷ (b ∷ ys)) w) where
      first_part : BeginAlike xs (a ∷ (ys ++ b ∷ [])) (a ∷ (b ∷ ys)) z w
      first_part = begin_alike y z w xs (a ∷ (ys ++ b ∷ [])) (a ∷ (b ∷ ys)) same t v

      second_part : BeginAlike ys (b ∷ []) [] z w
      second_part =
          let u = first_part.reached in
          begin_alike (R.add u (len a)) z w ys (b ∷ []) [] same2 first_part.after.1
          (subst (λ end. Tiles R left2 len2 end (ys ++ []) w) (L.add_assoc u (len2 a) (len2 b) ∙ ap (R.add u) shorter)
          (subst (λ row. Tiles R left2 len2 (R.add (R.add u (len2 a)) (len2 b)) row w) (sym (append-nil ys)) first_part.after2.1.1))

      -- all others begin where they did
      pub moved_lefts : (x : X) → IsIn x (xs ++ a ∷ (ys ++ b ∷ [])) → x ≢ b → left2 x ≡ left x
      moved_lefts x h n =
          by_side (λ u. left2 u ≡ left u) first_part.lefts second_part.lefts x h
          (λ e. ap left2 e ∙ first_part.after2.0 ∙ sym first_part.after.0 ∙ ap left (sym e)) n

      -- it begins where the other now ends
      pub moved_left_is : left2 b ≡ R.add (left a) (len2 a)
      moved_left_is = first_part.after2.1.0 ∙ ap (λ u. R.add u (len2 a)) (sym first_part.after.0)

    -- it is put in the place of another that is as long
    module _ (equal : len2 b ≡ len a) (v : Tiles R left2 len2 y (xs ++ b ∷ ys) w) where
      first_put : BeginAlike xs (a ∷ (ys ++ b ∷ [])) (b ∷ ys) z w
      first_put = begin_alike y z w xs (a ∷ (ys ++ b ∷ [])) (b ∷ ys) same t v

      second_put : BeginAlike ys (b ∷ []) [] z w
      second_put =
          let u = first_put.reached in
          begin_alike (R.add u (len a)) z w ys (b ∷ []) [] same2 first_put.after.1
          (subst (λ end. Tiles R left2 len2 end (ys ++ []) w) (ap (R.add u) equal)
          (subst (λ row. Tiles R left2 len2 (R.add u (len2 b)) row w) (sym (append-nil ys)) first_put.after2.1))

      -- the others begin where they did
      pub put_lefts : (x : X) → IsIn x (xs ++ a ∷ (ys ++ b ∷ [])) → x ≢ a → x ≢ b → left2 x ≡ left x
      put_lefts x h m n = by_side (λ u. left2 u ≡ left u) first_put.lefts second_put.lefts x h (λ e. absurd (m e)) n

      -- and it begins where that one did
      pub put_left_is : left2 b ≡ left a
      put_left_is = first_put.after2.0 ∙ sym first_put.after.0
