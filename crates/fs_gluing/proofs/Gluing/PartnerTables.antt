-- The places of a table of partners: each side has its own.
use Rattle.std.proofs.Common.{◌≡◌, ◌≢◌, ◌⊎◌, inl, inr, ℕ, zero, suc, ◌+◌, ◌*◌, ◌<◌, ◌≤◌, Bool, true, false, cond, nat_lt, Option, Some, None, List, [], length, get_or, take, ◌++◌, ◌-◌, replicate, set, unwrap_or, sym, ap, ◌∙◌, refl, subst, arith}
use Rattle.std.proofs.Math.Nat.{mul-le-mul}
use Rattle.std.proofs.lemmas.Bool.{cases_eq}
use Rattle.std.proofs.lemmas.Bool.Decides.{Decides-ltb}
use Rattle.std.proofs.lemmas.Option.{slice_get_within, unwrap_or-slice_get}
use Rattle.std.proofs.lemmas.List.{length-set, length-replicate}
use Rattle.std.specs.List.{slice_get}
use Rattle.fs_lists.proofs.Items.{slice_get-set_same, slice_get-set_other}
use Rattle.fs_plane.specs.declared.corners.Corner.{Corner}
use Rattle.fs_gluing.specs.PartnerTable.{PartnerTable, place_of, partner_of, HasPlace, HasPlaces}
use Rattle.fs_gluing.proofs.Base.Equality.{corner_eq}
use Rattle.fs_gluing.proofs.SurfaceCalls.NextCorner.{in_polygon}

-- ---- reading

-- the partner is what the place of the side has
pub partner-read : (t : PartnerTable) (c : Corner) → c.side < t.width → get_or t.items (place_of t c) None ≡ partner_of t c
unfolding partner_of
partner-read t c h = ap (λ (b : Bool). cond b (get_or t.items (place_of t c) None) None) (sym ((Decides-ltb c.side t.width).1 h))

beyond : (k n : ℕ) (b : Bool) → (b ≡ true → k < n) → ¬ (k < n) → (o : Option Corner) → None ≡ cond b o None
beyond k n true from out o = absurd (out (from refl))
beyond k n false from out o = refl

-- a side beyond the width has none
pub partner-beyond : (t : PartnerTable) (c : Corner) → ¬ (c.side < t.width) → None ≡ partner_of t c
unfolding partner_of
partner-beyond t c h = beyond c.side t.width (nat_lt c.side t.width) ((Decides-ltb c.side t.width).0) h (get_or t.items (place_of t c) None)

-- ---- writing

row_ends : (p q width : ℕ) → p < q → p * width + width ≤ q * width
row_ends p q width h = let l : (p + 1) * width ≤ q * width = mul-le-mul {m₁ = width} {m₂ = width} (omega arith) (omega arith) in omega arith

less_or_more : (p q : ℕ) → ¬ (p ≡ q) → (p < q) ⊎ (q < p)
less_or_more zero zero n = absurd (n refl)
less_or_more zero (suc q) n = inl (omega arith)
less_or_more (suc p) zero n = inr (omega arith)
less_or_more (suc p) (suc q) n = elim (less_or_more p q (λ e. n (ap (λ k. suc k) e))) [ inl h ↦ inl (omega arith) | inr h ↦ inr (omega arith) ]

rows_apart : (p q s t width : ℕ) → s < width → t < width → p * width + s ≡ q * width + t → ¬ (p ≡ q) → ⊥
rows_apart p q s t width hs ht e n = elim (less_or_more p q n) [
  | inl h ↦ let l = row_ends p q width h in absurd (omega arith)
  | inr h ↦ let l = row_ends q p width h in absurd (omega arith)
]

-- sides with one place are one side
places_apart : (width : ℕ) (c e : Corner) → c.side < width → e.side < width → c ≢ e → ¬ (c.polygon * width + c.side ≡ e.polygon * width + e.side)
places_apart width c e hc he n same =
    elim (cases_eq c.polygon e.polygon) [
      | inl p ↦ n (corner_eq p (let rows : c.polygon * width ≡ e.polygon * width = ap (λ k. k * width) p in omega arith))
      | inr p ↦ rows_apart c.polygon e.polygon c.side e.side width hc he same p
    ]

module _ (t : PartnerTable) (k v : Corner) (place : HasPlace t k) where
  -- the table with the partner v at k
  abbrev put : PartnerTable
  put = record { width = t.width; items = set t.items (place_of t k) (Some v) }

  pub put-here : partner_of put k ≡ Some v
  put-here =
      sym (partner-read put k place.side)
      ∙ sym (unwrap_or-slice_get put.items (place_of t k) None)
      ∙ ap (λ (o : Option (Option Corner)). unwrap_or o None) (slice_get-set_same t.items (place_of t k) (Some v) place.inside)

  put_elsewhere : (e : Corner) → e ≢ k → (b : Bool) → (b ≡ true → e.side < t.width)
      → cond b (get_or put.items (place_of t e) None) None ≡ cond b (get_or t.items (place_of t e) None) None
  put_elsewhere e n true from =
      sym (unwrap_or-slice_get put.items (place_of t e) None)
      ∙ ap (λ (o : Option (Option Corner)). unwrap_or o None) (slice_get-set_other t.items (place_of t k) (place_of t e) (Some v) (places_apart t.width e k (from refl) place.side n))
      ∙ unwrap_or-slice_get t.items (place_of t e) None
  put_elsewhere e n false from = refl

  pub put-others : (e : Corner) → e ≢ k → partner_of put e ≡ partner_of t e
  unfolding partner_of
  put-others e n = put_elsewhere e n (nat_lt e.side t.width) ((Decides-ltb e.side t.width).0)

  pub put-places : (e : Corner) → HasPlace t e → HasPlace put e
  put-places e h = record { side = h.side; inside = subst (λ n. place_of t e < n) (sym (length-set t.items (place_of t k) (Some v))) h.inside }

-- ---- no partners

abbrev no_side : Option Corner
no_side = None

nothing_read : (n i : ℕ) → get_or (replicate n no_side) i None ≡ None
nothing_read zero i = refl
nothing_read (suc n) zero = refl
nothing_read (suc n) (suc i) = nothing_read n i

none_by : (b : Bool) (o : Option Corner) → o ≡ None → cond b o None ≡ None
none_by true o e = e
none_by false o e = refl

-- no side has a partner in a table of places without any
pub no_partner : (n width : ℕ) (c : Corner) → partner_of (record { width = width; items = replicate n None }) c ≡ None
unfolding partner_of
no_partner n width c = none_by (nat_lt c.side width) _ (nothing_read n (c.polygon * width + c.side))

-- there are places where each polygon gets as many as any has sides
pub places_for : {X : Type 0} (polygons : List (List X)) (width : ℕ) → ((i : ℕ) (polygon : List X) → slice_get polygons i ≡ Some polygon → length polygon ≤ width)
    → HasPlaces polygons (record { width = width; items = replicate (length polygons * width) None })
places_for polygons width most = λ c h.
    let st = in_polygon polygons c h in
    let i : c.polygon < length polygons = slice_get_within polygons c.polygon st.polygon st.is in
    let j : c.side < width = let l = most c.polygon st.polygon st.is in let k = st.inside in omega arith in
    let ends = row_ends c.polygon (length polygons) width i in
    record { side = j; inside = subst (λ n. c.polygon * width + c.side < n) (sym (length-replicate (length polygons * width) None)) (omega arith) }

take_nothing : (n : ℕ) → take {A = Option Corner} n [] ≡ []
take_nothing zero = refl
take_nothing (suc n) = refl

-- the places that a vector without items is filled up with
pub filled : (n : ℕ) → take n [] ++ replicate (n - 0) no_side ≡ replicate n no_side
filled n = let all : n - 0 ≡ n = omega arith in (λ i. take_nothing n i ++ replicate (all i) no_side)
