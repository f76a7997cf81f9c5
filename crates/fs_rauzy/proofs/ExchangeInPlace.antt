-- The one component of an exchange, as a state keeps it.
use Rattle.std.proofs.Common.{◌≡◌, ℕ, zero, suc, ◌+◌, ◌<◌, ◌≤◌, List, [], ◌∷◌, length, refl, sym, ap, ◌∙◌, subst, arith, append-nil}
use Rattle.std.proofs.lemmas.List.FromFn.{length-range_with_len}
use Rattle.std.specs.List.{AllByRecursion, range_with_len}
use Rattle.fs_lists.specs.Members.{IsDistinct}
use Rattle.fs_lists.proofs.Ranges.{range_distinct}
use Rattle.fs_quadratic.specs.Ring as ring
use Rattle.fs_gluing.specs.Exchanges.{Letter, Component, names_of}
use Rattle.fs_iet.specs.ExchangeValue.{ExchangeValue, IsExchangeValue, most_letters}
use Rattle.fs_iet.proofs.NumbersInRows.{rows_long, bottom_within}
use Rattle.fs_rauzy.specs.declared.rows.Extent.{Extent}
use Rattle.fs_rauzy.specs.States.{IsState}
use Rattle.fs_rauzy.specs.StatesInPlace.{letters_at, opened, IsInPlace}
use Rattle.fs_rauzy.proofs.OpenedRows.{letters_all}

range_below : (i n most : ℕ) → i + n ≤ most → AllByRecursion (λ k. k < most) (range_with_len i n)
range_below i zero most l = tt
range_below i (suc n) most l = (omega arith, range_below (i + 1) n most (omega arith))

-- what holds of four values holds of equal ones
along : {A B C D : Type 0} (P : A → B → C → D → Type 0) {a p : A} {b q : B} {c r : C} {d s : D} → a ≡ p → b ≡ q → c ≡ r → d ≡ s → P p q r s → P a b c d
along P {a} {p} {b} {q} {c} {r} {d} {s} e f g h x =
    subst (λ a. P a b c d) (sym e) (subst (λ b. P p b c d) (sym f) (subst (λ c. P p q c d) (sym g) (subst (λ d. P p q r d) (sym h) x)))

module _ (x : ExchangeValue) (is : IsExchangeValue x) where
  -- its extent is the whole of both rows
  abbrev whole : Extent
  whole = record { first = 0; base = ring.zero; total = x.component.total }

  whole_opened : opened x.component.top (range_with_len 0 (length x.component.top)) x.component.bottom (whole ∷ []) ≡ x.component ∷ []
  whole_opened =
      ap (λ base. record { base = base; total = x.component.total; top = letters_at x.component.top (range_with_len 0 (length x.component.top)); bottom = x.component.bottom } ∷ []) (sym is.base)
      ∙ ap (λ top. record { base = x.component.base; total = x.component.total; top = top; bottom = x.component.bottom } ∷ []) (letters_all x.component.top)

  whole_in_place : IsInPlace x.component.top (range_with_len 0 (length x.component.top)) x.component.bottom (whole ∷ [])
  whole_in_place = record {
    named = is.named;
    few = is.few;
    top_within = range_below 0 (length x.component.top) (length x.component.top) (omega arith);
    bottom_within = bottom_within x is;
    as_long = rows_long x is ∙ sym (length-range_with_len 0 (length x.component.top));
    apart = range_distinct 0 (length x.component.top);
    laid = let some = is.lawful.some_letter in (omega (arith, length-range_with_len 0 (length x.component.top)), refl);
  }

  whole_state : IsState (record { d = x.d; components = x.component ∷ [] })
  whole_state = record {
    lawful = (is.lawful, tt);
    apart = subst IsDistinct (sym (append-nil (names_of x.component.top))) is.lawful.names;
    few = subst (λ (names : List ℕ). length names ≤ most_letters) (sym (append-nil (names_of x.component.top))) (subst (λ (names : List ℕ). length names ≤ most_letters) (sym is.named) (let few = is.few in omega (arith, length-range_with_len 0 (length x.component.top))));
    in_order = tt;
  }

  module _ {letters : List Letter} {top bottom : List ℕ} {extents : List Extent}
      (same_letters : letters ≡ x.component.top) (same_top : top ≡ range_with_len 0 (length x.component.top)) (same_bottom : bottom ≡ x.component.bottom) (same_extents : extents ≡ whole ∷ []) where
    -- the lists of a state that begins with the exchange: its component is open
    pub begun_open : opened letters top bottom extents ≡ x.component ∷ []
    begun_open = along (λ letters top bottom extents. opened letters top bottom extents ≡ x.component ∷ []) same_letters same_top same_bottom same_extents whole_opened

    -- and in place
    pub begun_in_place : IsInPlace letters top bottom extents
    begun_in_place = along IsInPlace same_letters same_top same_bottom same_extents whole_in_place

    -- and the laws of a state hold
    pub begun_state : IsState (record { d = x.d; components = opened letters top bottom extents })
    begun_state = subst (λ (components : List Component). IsState (record { d = x.d; components = components })) (sym begun_open) whole_state
