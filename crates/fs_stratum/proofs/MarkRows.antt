-- A list of marks, seen as rows of one length, a row for each polygon: reading a mark, setting one, and a list without any.
use Rattle.std.proofs.Common.{◌≡◌, inl, inr, ℕ, zero, suc, ◌+◌, ◌-◌, ◌*◌, ◌<◌, ◌≤◌, Bool, true, false, Some, List, ◌∷◌, length, set, get_or, replicate, take, drop, unwrap_or, sym, ap, ◌∙◌, refl, subst, arith}
use Rattle.std.proofs.Math.Nat.{mul-le-mul}
use Rattle.std.proofs.Math.Seq.{take-set-lt}
use Rattle.std.proofs.lemmas.Bool.{cases_eq}
use Rattle.std.proofs.lemmas.Option.{same_Some, slice_get_within, unwrap_or-slice_get}
use Rattle.std.proofs.lemmas.List.{length-take, take-set-le, drop-set-lt, drop-set-add, take-replicate, drop-replicate, drop-drop, get_or-take, get_or-drop}
use Rattle.std.specs.Option.{IsSome, option_and_then}
use Rattle.std.specs.List.{slice_get}
use Rattle.fs_lists.proofs.Items.{slice_get-set_same, slice_get-set_other, some_of_set}
use Rattle.fs_plane.specs.declared.corners.Corner.{Corner}
use Rattle.fs_gluing.specs.Polygons.{at_side, HasSide}
use Rattle.fs_gluing.proofs.Base.Equality.{corner_eq}
use Rattle.fs_gluing.proofs.SurfaceCalls.NextCorner.{in_polygon}
use Rattle.fs_stratum.specs.CornerMarks.{is_marked, AreUnmarked, MarksCorner}
use Rattle.fs_stratum.specs.MarkRows.{rows}

-- ---- one more mark

module _ (marks : List (List Bool)) (c : Corner) (row : List Bool) (is : slice_get marks c.polygon ≡ Some row) (inside : c.side < length row) where
  -- the marks after the one at c is set
  abbrev new : List (List Bool)
  new = set marks c.polygon (set row c.side true)

  at_row : (e : Corner) → e.polygon ≡ c.polygon → at_side new e ≡ slice_get (set row c.side true) e.side
  at_row e same =
      ap (option_and_then (λ r. slice_get r e.side)) (ap (slice_get new) same ∙ slice_get-set_same marks c.polygon (set row c.side true) (slice_get_within marks c.polygon row is))

  old_row : (e : Corner) → e.polygon ≡ c.polygon → at_side marks e ≡ slice_get row e.side
  old_row e same = ap (option_and_then (λ r. slice_get r e.side)) (ap (slice_get marks) same ∙ is)

  at_other : (e : Corner) → ¬ (e.polygon ≡ c.polygon) → at_side new e ≡ at_side marks e
  at_other e n = ap (option_and_then (λ r. slice_get r e.side)) (slice_get-set_other marks c.polygon e.polygon (set row c.side true) n)

  set_mark : MarksCorner c marks new
  set_mark = record {
    covers = record {
      each = λ e h. elim (cases_eq e.polygon c.polygon) [
        | inl same ↦ subst IsSome (sym (at_row e same)) (some_of_set row c.side e.side true (subst IsSome (old_row e same) h))
        | inr apart ↦ subst IsSome (sym (at_other e apart)) h
      ];
    };
    here = ap (λ o. unwrap_or o false) (at_row c refl ∙ slice_get-set_same row c.side true inside);
    others = λ e n. ap (λ o. unwrap_or o false) (elim (cases_eq e.polygon c.polygon) [
      | inl same ↦ at_row e same ∙ slice_get-set_other row c.side e.side true (λ f. n (corner_eq same f)) ∙ sym (old_row e same)
      | inr apart ↦ at_other e apart
    ]);
  }

-- ---- the rows of a list of marks

rows_count : (n width : ℕ) (marks : List Bool) → length (rows n width marks) ≡ n
unfolding rows
rows_count zero width marks = refl
rows_count (suc n) width marks = ap suc (rows_count n width (drop width marks))

-- row i
abbrev row_of : ℕ → List Bool → ℕ → List Bool
row_of width marks i = take width (drop (i * width) marks)

row_is : (n width : ℕ) (marks : List Bool) (i : ℕ) → i < n → slice_get (rows n width marks) i ≡ Some (row_of width marks i)
unfolding rows
row_is zero width marks i h = absurd (omega arith)
row_is (suc n) width marks zero h =
    let begin : zero ≡ zero * width = omega arith in
    ap (λ k. Some (take width (drop k marks))) begin
row_is (suc n) width marks (suc i) h =
    let next : width + i * width ≡ suc i * width = omega arith in
    row_is n width (drop width marks) i (omega arith)
    ∙ ap (λ m. Some (take width m)) (drop-drop (i * width) width marks ∙ ap (λ k. drop k marks) next)

-- setting a mark sets it in its row
rows_set : (n width : ℕ) (marks : List Bool) (i j : ℕ) (b : Bool) → i < n → j < width → rows n width (set marks (i * width + j) b) ≡ set (rows n width marks) i (set (row_of width marks i) j b)
unfolding rows
rows_set zero width marks i j b h k = absurd (omega arith)
rows_set (suc n) width marks zero j b h k =
    let first : zero * width + j ≡ j = omega arith in
    let begin : zero ≡ zero * width = omega arith in
    let row : take width marks ≡ row_of width marks zero = ap (λ m. take width (drop m marks)) begin in
    rw first (
    (λ t. take-set-lt width marks j b k t ∷ rows n width (drop-set-lt width marks j b k t))
    ∙ ap (λ r. set r j b ∷ rows n width (drop width marks)) row
    )
rows_set (suc n) width marks (suc i) j b h k =
    let next : suc i * width + j ≡ width + (i * width + j) = omega arith in
    let begin : width + i * width ≡ suc i * width = omega arith in
    let row : row_of width (drop width marks) i ≡ row_of width marks (suc i) = ap (take width) (drop-drop (i * width) width marks ∙ ap (λ m. drop m marks) begin) in
    rw next (
    (λ t. take-set-le width marks (width + (i * width + j)) b (omega arith) t ∷ rows n width (drop-set-add width marks (i * width + j) b t))
    ∙ ap (λ m. take width marks ∷ m) (rows_set n width (drop width marks) i j b (omega arith) k ∙ ap (λ r. set (rows n width (drop width marks)) i (set r j b)) row)
    )

-- a corner of the rows, with its row
record IsInRow (n width : ℕ) (marks : List Bool) (c : Corner) : Type 0 where
  polygon : c.polygon < n
  row : slice_get (rows n width marks) c.polygon ≡ Some (row_of width marks c.polygon)
  inside : c.side < length (row_of width marks c.polygon)
  side : c.side < width

module _ (n width : ℕ) (marks : List Bool) (c : Corner) (has : HasSide (rows n width marks) c) where
  in_row : IsInRow n width marks c
  in_row =
      let st = in_polygon (rows n width marks) c has in
      let l : c.polygon < n = subst (λ k. c.polygon < k) (rows_count n width marks) (slice_get_within (rows n width marks) c.polygon st.polygon st.is) in
      let row = row_is n width marks c.polygon l in
      let inside : c.side < length (row_of width marks c.polygon) = subst (λ r. c.side < length r) (same_Some st.polygon (row_of width marks c.polygon) (sym st.is ∙ row)) st.inside in
      let long = length-take width (drop (c.polygon * width) marks) in
      record { polygon = l; row = row; inside = inside; side = omega arith }

  -- the index of a mark
  abbrev index : ℕ
  index = c.polygon * width + c.side

  pub index_inside : length marks ≡ n * width → index < length marks
  index_inside long =
      let st = in_row in
      let polygon = st.polygon in
      let side = st.side in
      let most : (c.polygon + 1) * width ≤ n * width = mul-le-mul {m₁ = width} {m₂ = width} (omega arith) (omega arith) in
      omega arith

  pub mark_read : get_or marks index false ≡ is_marked (rows n width marks) c
  mark_read =
      let st = in_row in
      sym (
      ap (λ o. unwrap_or o false) (ap (option_and_then (λ r. slice_get r c.side)) st.row)
      ∙ unwrap_or-slice_get (row_of width marks c.polygon) c.side false
      ∙ get_or-take width (drop (c.polygon * width) marks) c.side false st.side
      ∙ get_or-drop (c.polygon * width) marks c.side false
      )

  pub mark_set : MarksCorner c (rows n width marks) (rows n width (set marks index true))
  mark_set =
      let st = in_row in
      subst (MarksCorner c (rows n width marks)) (sym (rows_set n width marks c.polygon c.side true st.polygon st.side))
      (set_mark (rows n width marks) c (row_of width marks c.polygon) st.row st.inside)

-- ---- no mark is set

unmarked_row : (n j : ℕ) → unwrap_or (slice_get (replicate n false) j) false ≡ false
unmarked_row zero j = refl
unmarked_row (suc n) zero = refl
unmarked_row (suc n) (suc j) = unmarked_row n j

rows_unset : (n width : ℕ) → rows n width (replicate (n * width) false) ≡ replicate n (replicate width false)
unfolding rows
rows_unset zero width = refl
rows_unset (suc n) width =
    let rest : suc n * width - width ≡ n * width = omega arith in
    let more : width ≤ suc n * width = omega arith in
    (λ t. take-replicate width (suc n * width) false more t ∷ rows n width ((drop-replicate width (suc n * width) false ∙ ap (λ k. replicate k false) rest) t))
    ∙ ap (λ m. replicate width false ∷ m) (rows_unset n width)

unmarked_at : (n width i j : ℕ) → is_marked (replicate n (replicate width false)) (record { polygon = i; side = j }) ≡ false
unmarked_at zero width i j = refl
unmarked_at (suc n) width zero j = unmarked_row width j
unmarked_at (suc n) width (suc i) j = unmarked_at n width i j

replicate_row : {X : Type 0} (n : ℕ) (x : X) (i : ℕ) → i < n → slice_get (replicate n x) i ≡ Some x
replicate_row zero x i h = absurd (omega arith)
replicate_row (suc n) x zero h = refl
replicate_row (suc n) x (suc i) h = replicate_row n x i (omega arith)

-- marks as many for each polygon as any has sides
pub rows_unmarked : {X : Type 0} (polygons : List (List X)) (width : ℕ) → ((i : ℕ) (polygon : List X) → slice_get polygons i ≡ Some polygon → length polygon ≤ width)
    → AreUnmarked polygons (rows (length polygons) width (replicate (length polygons * width) false))
rows_unmarked polygons width most = rw (rows_unset (length polygons) width) (record {
  covers = record {
    each = λ c h.
        let st = in_polygon polygons c h in
        let i : c.polygon < length polygons = slice_get_within polygons c.polygon st.polygon st.is in
        let j : c.side < width = let l = most c.polygon st.polygon st.is in let k = st.inside in omega arith in
        subst IsSome
        (sym (ap (option_and_then (λ r. slice_get r c.side)) (replicate_row (length polygons) (replicate width false) c.polygon i) ∙ replicate_row width false c.side j))
        refl;
  };
  none = λ c. unmarked_at (length polygons) width c.polygon c.side;
})
