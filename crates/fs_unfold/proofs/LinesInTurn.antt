-- The glue lines of the copies, side after side.
use Rattle.std.proofs.Common.{◌≡◌, ℕ, zero, suc, ◌+◌, ◌-◌, ◌*◌, ◌<◌, ◌≤◌, Bool, true, false, if◌then◌else◌, not, Some, List, [], ◌∷◌, ◌++◌, length, map, get_or, refl, sym, ap, ◌∙◌, subst, arith, append_assoc}
use Rattle.std.proofs.lemmas.List.{length-map, append-nil}
use Rattle.std.specs.List.{slice_get}
use Rattle.fs_lists.proofs.Members.{All-member}
use Rattle.fs_plane.specs.declared.corners.Corner.{Corner}
use Rattle.fs_gluing.specs.declared.shapes.Glue.{Glue}
use Rattle.fs_gluing.specs.declared.shapes.Point.{Point}
use Rattle.fs_gluing.specs.Gluing.{sides_between}
use Rattle.fs_gluing.specs.Polygons.{sides_from, all_sides}
use Rattle.fs_unfold.specs.declared.matrices.Matrix.{Matrix}
use Rattle.fs_unfold.specs.declared.matrices.Mirror.{Mirror}
use Rattle.fs_unfold.specs.declared.products.TableCopy.{TableCopy}
use Rattle.fs_unfold.specs.Copies.{is_turned, copy, IsPair, AreLines, no_side, earlier, later}
use Rattle.fs_unfold.specs.InPlace.{HaveTable, rows_of, IsUnderWay, AreWhole, IsNeighbour, HaveLines, sides_of_copies}
use Rattle.fs_unfold.specs.Matrices.{times}
use Rattle.fs_unfold.proofs.Partners.{copy_length}
use Rattle.fs_unfold.proofs.ProductLists.{get_in, get_inside, same_some}
use Rattle.fs_unfold.proofs.ProductsInTurn.{item_some, rows_at, listed_turns, under_way_few}

-- ---- lines of lists of sides

lines_append : (P : Corner → Corner → Type 0) (sides others : List Corner) (lines more : List Glue) → AreLines P sides lines → AreLines P others more → AreLines P (sides ++ others) (lines ++ more)
lines_append P _ others _ more no_side b = b
lines_append P _ others _ more (earlier c e sides lines pair less rest) b = earlier c e (sides ++ others) (lines ++ more) pair less (lines_append P sides others lines more rest b)
lines_append P _ others _ more (later c e sides lines pair most rest) b = later c e (sides ++ others) (lines ++ more) pair most (lines_append P sides others lines more rest b)

-- ---- the partner of a side

module _ (d : ℕ) (rs : List Mirror) (have : HaveTable d rs) (n : ℕ) (count : length rs ≡ n) (list : List TableCopy) (neighbours : List ℕ) (way : IsUnderWay d rs (length list) 0 list neighbours) where
  flag_is : (k : ℕ) (c : TableCopy) → slice_get list k ≡ Some c → c.turned ≡ is_turned d c.rows
  flag_is k c at = All-member (λ (x : TableCopy). x.turned ≡ is_turned d x.rows) list c way.turned (get_in list k c at)

  -- the side is a pair with the side of the noted copy
  pair_of_side : (g side k : ℕ) (c : TableCopy) → slice_get list g ≡ Some c → side < n → slice_get neighbours (g * n + (if c.turned then n - 1 - side else side)) ≡ Some k
      → IsPair d n rs (rows_of list) (record { polygon = g; side = side }) (record { polygon = k; side = n - 1 - side })
  pair_of_side g side k c at_g inside noted =
      let i = if c.turned then n - 1 - side else side in
      let low : i < length rs = subst (λ m. i < m) (sym count) (number_low c.turned) in
      let at : slice_get neighbours (g * length rs + i) ≡ Some k = ap (λ m. slice_get neighbours (g * m + i)) count ∙ noted in
      let found = way.each.each g i k low at in
      let m_is : found.0 ≡ c.rows = same_some (slice_get (rows_of list) g) found.0 c.rows found.2 (rows_at list g c at_g) in
      let turns = listed_turns d rs have (rows_of list) (length list) 0 way.listed found.0 found.1 (get_in (rows_of list) g found.0 found.2) (get_in rs i found.1 found.3) in
      let flag : c.turned ≡ is_turned d found.0 = flag_is g c at_g ∙ ap (is_turned d) (sym m_is) in
      record {
        side = i;
        mirror = found.1;
        of_side = found.3;
        from = found.0;
        from_there = found.2;
        to_there = found.4;
        number_one = one c.turned (is_turned d found.0) flag;
        number_two = two c.turned (is_turned d found.0) (is_turned d (times d found.0 found.1)) flag turns;
      }
    where
      number_low : (t : Bool) → (if t then n - 1 - side else side) < n
      number_low true = omega (arith, inside)
      number_low false = inside

      one : (t u : Bool) → t ≡ u → side ≡ (if u then n - ((if t then n - 1 - side else side) + 1) else (if t then n - 1 - side else side))
      one true true e = omega (arith, inside)
      one true false e = absurd cc
      one false true e = absurd cc
      one false false e = refl

      two : (t u w : Bool) → t ≡ u → w ≡ not u → n - 1 - side ≡ (if w then n - ((if t then n - 1 - side else side) + 1) else (if t then n - 1 - side else side))
      two true true true e f = absurd cc
      two true true false e f = refl
      two false false true e f = omega (arith, inside)
      two false false false e f = absurd cc
      two true false w e f = absurd cc
      two false true w e f = absurd cc

-- ---- side after side

module _ (n : ℕ) (list : List TableCopy) (neighbours : List ℕ) where
  -- no side
  pub lines_none : HaveLines n list neighbours [] []
  lines_none d rs count have way = no_side

  module _ (sides : List Corner) (lines : List Glue) (are : HaveLines n list neighbours sides lines) (g side k : ℕ) (inside : side < n) (at : IsNeighbour n list neighbours g side k) where
    abbrev here : Corner
    here = record { polygon = g; side = side }

    abbrev there : Corner
    there = record { polygon = k; side = n - 1 - side }

    -- a side with its line
    pub lines_next : g < k → HaveLines n list neighbours (sides ++ here ∷ []) (lines ++ record { line = 0; one = here; two = there } ∷ [])
    lines_next less d rs count have way =
        lines_append _ sides (here ∷ []) lines _ (are d rs count have way) (earlier here there [] [] (pair_of_side d rs have n count list neighbours way g side k at.copy at.at inside at.noted) less no_side)

    -- a side whose partner comes before it
    pub lines_same : k ≤ g → HaveLines n list neighbours (sides ++ here ∷ []) lines
    lines_same most d rs count have way =
        subst (AreLines _ (sides ++ here ∷ [])) (append-nil lines)
        (lines_append _ sides (here ∷ []) lines [] (are d rs count have way) (later here there [] [] (pair_of_side d rs have n count list neighbours way g side k at.copy at.at inside at.noted) most no_side))

-- ---- bounds

-- as many places are noted as sides
whole_noted : (n : ℕ) (list : List TableCopy) (neighbours : List ℕ) → AreWhole n list neighbours → length neighbours ≡ length list * n
whole_noted n list neighbours w = let e = w.4.noted in let f : length list * length w.1 + 0 ≡ length list * length w.1 = omega arith in e ∙ f ∙ ap (λ m. length list * m) w.2

-- there are at most 24 products
pub whole_few : (n : ℕ) (list : List TableCopy) (neighbours : List ℕ) → AreWhole n list neighbours → length list ≤ 24
whole_few n list neighbours w = under_way_few w.0 w.1 (length list) 0 list neighbours w.4

-- a noted place is one in the list
whole_inside : (n : ℕ) (list : List TableCopy) (neighbours : List ℕ) → AreWhole n list neighbours → (g i k : ℕ) → i < n → slice_get neighbours (g * n + i) ≡ Some k → k < length list
whole_inside n list neighbours w g i k l at =
    let found = w.4.each.each g i k (subst (λ m. i < m) (sym w.2) l) (ap (λ m. slice_get neighbours (g * m + i)) w.2 ∙ at) in
    let inside = get_inside (rows_of list) k (times w.0 found.0 found.1) found.4 in
    let same = length-map list (λ (x : TableCopy). x.rows) in
    omega (arith, inside, same)

-- ---- all sides

-- the sides of copies are those of as many rows of n sides
sides_of : (d : ℕ) (table : List Point) (g : ℕ) (ms : List Matrix) → sides_from g (map (copy d table) ms) ≡ sides_of_copies (length table) g (length ms)
sides_of d table g [] = refl
sides_of d table g (m ∷ ms) = λ i. sides_between g 0 (copy_length d table m i) ++ sides_of d table (g + 1) ms i

pub all_sides_of : (d : ℕ) (table : List Point) (list : List TableCopy) → all_sides (map (copy d table) (rows_of list)) ≡ sides_of_copies (length table) 0 (length list)
all_sides_of d table list = sides_of d table 0 (rows_of list) ∙ ap (sides_of_copies (length table) 0) (length-map list (λ (x : TableCopy). x.rows))

-- the sides of one copy more
pub copies_more : (n g : ℕ) → sides_of_copies n 0 g ++ sides_between g 0 n ≡ sides_of_copies n 0 (g + 1)
copies_more n g = ap (λ (m : ℕ). sides_of_copies n 0 g ++ sides_between m 0 n) (let e : g ≡ 0 + g = omega arith in e) ∙ from 0 g ∙ ap (sides_of_copies n 0) (let e : suc g ≡ g + 1 = omega arith in e)
  where
    from : (h k : ℕ) → sides_of_copies n h k ++ sides_between (h + k) 0 n ≡ sides_of_copies n h (suc k)
    from h zero = ap (λ (m : ℕ). sides_between m 0 n) (let e : h + 0 ≡ h = omega arith in e) ∙ sym (append-nil (sides_between h 0 n))
    from h (suc k) =
        append_assoc (sides_between h 0 n) (sides_of_copies n (h + 1) k) (sides_between (h + suc k) 0 n)
        ∙ ap (λ sides. sides_between h 0 n ++ sides) (ap (λ m. sides_of_copies n (h + 1) k ++ sides_between m 0 n) (let e : h + suc k ≡ h + 1 + k = omega arith in e) ∙ from (h + 1) k)

-- one side more
pub sides_more : (before : List Corner) (g j : ℕ) → (before ++ sides_between g 0 j) ++ record { polygon = g; side = j } ∷ [] ≡ before ++ sides_between g 0 (j + 1)
sides_more before g j =
    append_assoc before (sides_between g 0 j) (record { polygon = g; side = j } ∷ [])
    ∙ ap (λ sides. before ++ sides) (ap (λ m. sides_between g 0 j ++ record { polygon = g; side = m } ∷ []) (let e : j ≡ 0 + j = omega arith in e) ∙ from 0 j ∙ ap (sides_between g 0) (let e : suc j ≡ j + 1 = omega arith in e))
  where
    from : (i k : ℕ) → sides_between g i k ++ record { polygon = g; side = i + k } ∷ [] ≡ sides_between g i (suc k)
    from i zero = ap (λ m. record { polygon = g; side = m } ∷ []) (let e : i + 0 ≡ i = omega arith in e)
    from i (suc k) = ap (λ sides. record { polygon = g; side = i } ∷ sides) (ap (λ m. sides_between g (i + 1) k ++ record { polygon = g; side = m } ∷ []) (let e : i + suc k ≡ i + 1 + k = omega arith in e) ∙ from (i + 1) k)

-- an item that is read from a list
pub at_item : {X : Type 0} (xs ys : List X) (i : ℕ) (x : X) → xs ≡ ys → i < length ys → x ≡ get_or xs i x → slice_get ys i ≡ Some x
at_item xs ys i x e l is = item_some ys i x (record { inside = l; is = is ∙ ap (λ zs. get_or zs i x) e })

-- a place that is read from the notes
noted_at : (n : ℕ) (list : List TableCopy) (neighbours notes : List ℕ) (g i : ℕ) → AreWhole n list neighbours → notes ≡ neighbours → g < length list → i < n
    → slice_get neighbours (g * n + i) ≡ Some (get_or notes (g * n + i) 0)
noted_at n list neighbours notes g i w e there inside =
    let many = whole_noted n list neighbours w in
    ap (λ ns. slice_get ns (g * n + i)) (sym e) ∙ read notes (g * n + i) (subst (λ ns. g * n + i < length ns) (sym e) (subst (λ m. g * n + i < m) (sym many) (row_inside g (length list) there)))
  where
    read : (ns : List ℕ) (j : ℕ) → j < length ns → slice_get ns j ≡ Some (get_or ns j 0)
    read [] j l = absurd (let none : j < 0 = l in omega (arith, none))
    read (m ∷ ns) zero l = refl
    read (m ∷ ns) (suc j) l = read ns j (let m : suc j < suc (length ns) = l in omega (arith, m))

    row_inside : (g k : ℕ) → g < k → g * n + i < k * n
    row_inside zero zero l = absurd (omega (arith, l))
    row_inside (suc g) zero l = absurd (omega (arith, l))
    row_inside zero (suc k) l = omega (arith, inside)
    row_inside (suc g) (suc k) l = let r = row_inside g k (omega (arith, l)) in omega (arith, r)

-- the number of a side in the table is below that of all sides
number_low : (n side : ℕ) (turned : Bool) → side < n → (if turned then n - 1 - side else side) < n
number_low n side true inside = omega (arith, inside)
number_low n side false inside = inside

-- the place that is read for a side
pub neighbour_is : (n g side i : ℕ) (list : List TableCopy) (neighbours notes : List ℕ) (c : TableCopy) → AreWhole n list neighbours → slice_get list g ≡ Some c → notes ≡ neighbours → g < length list → side < n
    → i ≡ (if c.turned then n - 1 - side else side) → IsNeighbour n list neighbours g side (get_or notes (g * n + i) 0)
neighbour_is n g side i list neighbours notes c w at e there inside is = record {
  copy = c;
  at = at;
  noted = ap (λ j. slice_get neighbours (g * n + j)) (sym is) ∙ noted_at n list neighbours notes g i w e there (subst (λ j. j < n) (sym is) (number_low n side c.turned inside));
}

-- it is below 24
pub neighbour_low : (n g side k : ℕ) (list : List TableCopy) (neighbours : List ℕ) → AreWhole n list neighbours → side < n → IsNeighbour n list neighbours g side k → k < 24
neighbour_low n g side k list neighbours w inside at =
    let l = whole_inside n list neighbours w g _ k (number_low n side at.copy.turned inside) at.noted in
    let few = whole_few n list neighbours w in
    omega (arith, l, few)
