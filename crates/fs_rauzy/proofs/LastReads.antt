-- The last names of both rows as they are read: those of the current component, where its last letters differ.
use Rattle.std.proofs.Common.{◌≡◌, ℕ, ◌+◌, ◌-◌, ◌<◌, List, [], ◌∷◌, ◌++◌, length, get_or, take, refl, sym, ap, ◌∙◌, subst, arith}
use Rattle.std.proofs.lemmas.List.{get_or_push, length-append}
use Rattle.fs_gluing.specs.Exchanges.{Letter, Component}
use Rattle.fs_rauzy.specs.declared.rows.Extent.{Extent}
use Rattle.fs_rauzy.specs.StatesInPlace.{no_letter, opened, IsInPlace, AreLastNames}
use Rattle.fs_rauzy.specs.Steps.{AtCurrent, CanCompare}
use Rattle.fs_rauzy.proofs.EventsInPlace.{place_at, opened_at, current_at}
use Rattle.fs_rauzy.proofs.LastInPlace.{AreLastInPlace, last_in_place}
use Rattle.fs_rauzy.proofs.RowsAround.{whole_row}

-- the last item of a list
last_read : (row before : List ℕ) (x y n : ℕ) → row ≡ before ++ x ∷ [] → n ≡ length row → y ≡ get_or row (n - 1) y → y ≡ x
last_read row before x y n e long read =
    let whole : n ≡ length before + 1 = long ∙ ap length e ∙ length-append before (x ∷ []) in
    let at : length before ≡ n - 1 = omega arith in
    read ∙ ap (λ (r : List ℕ). get_or r (n - 1) y) e ∙ get_or_push before x y (n - 1) at

-- an open component is that of an extent
pub current_extent : (letters : List Letter) (top bottom : List ℕ) (extents : List Extent) (P : Component → Type 0) → AtCurrent P (opened letters top bottom extents)
    → (e : Extent) × (rest : List Extent) × (extents ≡ e ∷ rest)
current_extent letters top bottom [] P h = absurd h
current_extent letters top bottom (e ∷ rest) P h = (e, rest, refl)

module _ {letters : List Letter} {top bottom : List ℕ} {extents : List Extent} (place : IsInPlace letters top bottom extents) (can : AtCurrent CanCompare (opened letters top bottom extents)) where
  -- neither row is empty
  pub rows_some : (0 < length top) × (0 < length bottom)
  rows_some =
      let at = current_extent letters top bottom extents CanCompare can in
      let begins = (place_at letters top bottom at.2 place).laid.0 in
      let same = place.as_long in
      (omega arith, omega arith)

  module _ (x y m n : ℕ) (m_long : m ≡ length top) (n_long : n ≡ length bottom) (x_read : x ≡ get_or top (m - 1) x) (y_read : y ≡ get_or bottom (n - 1) y) where
    -- what is read are the last names of the current component
    last_names : (e : Extent) (rest : List Extent) → extents ≡ e ∷ rest → AreLastInPlace (λ a b. Unit {0}) letters top bottom e x y
    last_names e rest is =
        let p = place_at letters top bottom is place in
        let (a, b, last) = current_at letters top bottom is CanCompare can in
        let there = last_in_place p (λ a b. Unit {0}) a.name b.name (a, b, last, refl, refl, tt) in
        let x_is = last_read top (take e.first top ++ there.top_before) a.name x m (whole_row e.first top there.top_before (a.name ∷ []) there.top_end) m_long x_read in
        let y_is = last_read bottom (take e.first bottom ++ there.bottom_before) b.name y n (whole_row e.first bottom there.bottom_before (b.name ∷ []) there.bottom_end) n_long y_read in
        subst (λ (u : ℕ). AreLastInPlace (λ a b. Unit {0}) letters top bottom e u y) (sym x_is)
        (subst (λ (u : ℕ). AreLastInPlace (λ a b. Unit {0}) letters top bottom e a.name u) (sym y_is) there)

    pub last_inside : (x < length letters) × (y < length letters)
    last_inside =
        let at = current_extent letters top bottom extents CanCompare can in
        let there = last_names at.0 at.1 at.2 in
        (there.x_inside, there.y_inside)

    -- what holds of the letters at these names holds of the last letters
    pub last_letters_read : (R : Letter → Letter → Type 0) → R (get_or letters x no_letter) (get_or letters y no_letter) → AtCurrent (λ c. AreLastNames c x y R) (opened letters top bottom extents)
    last_letters_read R r =
        let at = current_extent letters top bottom extents CanCompare can in
        let there = last_names at.0 at.1 at.2 in
        subst (AtCurrent (λ c. AreLastNames c x y R)) (sym (opened_at letters top bottom at.2))
        (get_or letters x no_letter, get_or letters y no_letter, there.last, there.x_named, there.y_named, r)
