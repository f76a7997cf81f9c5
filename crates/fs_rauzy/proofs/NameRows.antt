-- A row of names before and after an event: where the names begin, when the last one stays, is put behind another or takes another's place.
use Rattle.std.proofs.Common.{◌≡◌, ◌≢◌, ℕ, List, [], ◌∷◌, ◌++◌, sym, ◌∙◌, subst, inl, inr}
use Rattle.fs_lists.specs.Members.{IsIn, IsDistinct}
use Rattle.fs_lists.proofs.Members.{in_append_left, in_append_right}
use Rattle.fs_ring.specs.OrderedRing.{IsOrderedRing}
use Rattle.fs_quadratic.specs.Ring.{quadratic, IsPositive, add}
use Rattle.fs_convex.proofs.Rows.{Tiles}
use Rattle.fs_gluing.specs.Exchanges.{Component, names_of, length_of}
use Rattle.fs_rauzy.proofs.LeftEnds.{left_in, TilesIn}
use Rattle.fs_rauzy.proofs.RowEnds.{distinct_right, distinct_across}
use Rattle.fs_rauzy.proofs.RowIntervals.{kept_lefts, moved_lefts, moved_left_is, put_lefts, put_left_is}

module _ {d : ℕ} (L : IsOrderedRing (quadratic d) (IsPositive d)) (c after : Component) where
  module _ (base : after.base ≡ c.base) (p q : ℕ) (rest : (name : ℕ) → IsIn name (names_of c.top) → name ≢ p → length_of after.top name ≡ length_of c.top name)
      (old new : List ℕ) (distinct : IsDistinct old) (tiles : TilesIn d c old old) (tiles2 : TilesIn d after new new) (in_old : (name : ℕ) → IsIn name old → IsIn name (names_of c.top)) where
    tiles_after : (row : List ℕ) → new ≡ row → Tiles (quadratic d) (left_in after new) (length_of after.top) c.base row (add after.base after.total)
    tiles_after row e = subst (λ y. Tiles (quadratic d) (left_in after new) (length_of after.top) y row (add after.base after.total)) base (subst (TilesIn d after new) e tiles2)

    -- a row that stays, in which the last letter becomes shorter
    pub kept_row : (before : List ℕ) → old ≡ before ++ p ∷ [] → new ≡ old → (name : ℕ) → IsIn name old → left_in after new name ≡ left_in c old name
    kept_row before was same name h =
        kept_lefts (quadratic d) (left_in c old) (length_of c.top) (left_in after new) (length_of after.top) c.base (add c.base c.total) (add after.base after.total) before p
        (λ other k.
        rest other (in_old other (subst (IsIn other) (sym was) (in_append_left other before (p ∷ []) k)))
        (λ e. distinct_across before (p ∷ []) other (subst (λ (names : List ℕ). IsDistinct names) was distinct) k (inl e)))
        (subst (TilesIn d c old) was tiles) (tiles_after (before ++ p ∷ []) (same ∙ was)) name (subst (IsIn name) was h)

    -- one in which an item changes its place
    module _ (left right : List ℕ) (was : old ≡ left ++ p ∷ (right ++ q ∷ [])) where
      apart_before : IsDistinct (left ++ p ∷ (right ++ q ∷ []))
      apart_before = subst (λ (names : List ℕ). IsDistinct names) was distinct

      in_names : (name : ℕ) → IsIn name (left ++ p ∷ (right ++ q ∷ [])) → IsIn name (names_of c.top)
      in_names name h = in_old name (subst (IsIn name) (sym was) h)

      same_left : (name : ℕ) → IsIn name left → length_of after.top name ≡ length_of c.top name
      same_left name h =
          rest name (in_names name (in_append_left name left (p ∷ (right ++ q ∷ [])) h)) (λ e. distinct_across left (p ∷ (right ++ q ∷ [])) name apart_before h (inl e))

      same_right : (name : ℕ) → IsIn name right → length_of after.top name ≡ length_of c.top name
      same_right name h =
          let k = in_append_left name right (q ∷ []) h in
          rest name (in_names name (in_append_right name left (p ∷ (right ++ q ∷ [])) (inr k))) (λ e. (distinct_right left (p ∷ (right ++ q ∷ [])) apart_before).0 name k (sym e))

      tiles_before : TilesIn d c old (left ++ p ∷ (right ++ q ∷ []))
      tiles_before = subst (TilesIn d c old) was tiles

      -- it is put behind another, which becomes shorter by it
      pub moved_row : new ≡ left ++ p ∷ (q ∷ right) → add (length_of after.top p) (length_of after.top q) ≡ length_of c.top p
          → ((name : ℕ) → IsIn name old → name ≢ q → left_in after new name ≡ left_in c old name) × (left_in after new q ≡ add (left_in c old p) (length_of after.top p))
      moved_row becomes shorter =
          let v = tiles_after (left ++ p ∷ (q ∷ right)) becomes in (
            (λ name h n.
                moved_lefts (quadratic d) (left_in c old) (length_of c.top) (left_in after new) (length_of after.top) c.base (add c.base c.total) (add after.base after.total)
                left p q right same_left same_right tiles_before L shorter v name (subst (IsIn name) was h) n),
            moved_left_is (quadratic d) (left_in c old) (length_of c.top) (left_in after new) (length_of after.top) c.base (add c.base c.total) (add after.base after.total)
                left p q right same_left same_right tiles_before L shorter v,
          )

      -- it is put in the place of another, which was as long
      pub put_row : new ≡ left ++ q ∷ right → length_of after.top q ≡ length_of c.top p
          → ((name : ℕ) → IsIn name old → name ≢ p → name ≢ q → left_in after new name ≡ left_in c old name) × (left_in after new q ≡ left_in c old p)
      put_row becomes equal =
          let v = tiles_after (left ++ q ∷ right) becomes in (
            (λ name h m n.
                put_lefts (quadratic d) (left_in c old) (length_of c.top) (left_in after new) (length_of after.top) c.base (add c.base c.total) (add after.base after.total)
                left p q right same_left same_right tiles_before equal v name (subst (IsIn name) was h) m n),
            put_left_is (quadratic d) (left_in c old) (length_of c.top) (left_in after new) (length_of after.top) c.base (add c.base c.total) (add after.base after.total)
                left p q right same_left same_right tiles_before equal v,
          )
