-- The partner of a side of a staircase is another side, whose partner the first one is.
use Rattle.std.proofs.Common.{◌≡◌, ◌≢◌, ℕ, Bool, true, false, zero, suc, ◌+◌, ◌-◌, ◌*◌, ◌/◌, ◌%◌, ◌<◌, ◌≤◌, ltb, if◌then◌else◌, refl, ap, subst, arith}
use Rattle.std.proofs.lemmas.Bool.{eqb-true, eqb-false, ltb-true, ltb-false}
use Rattle.fs_plane.specs.declared.corners.Corner.{Corner}
use Rattle.fs_gluing.proofs.Base.Equality.{corner_eq}
use Rattle.fs_workload.specs.Draws.{draw}
use Rattle.fs_workload.specs.Staircase.{width, height, is_even, across, above, partner}

-- rectangle j is the neighbour of rectangle i of k, where 2m + r and 2m + r + 1 are neighbours for each m, and a rectangle without one is its own
pub data AreNeighbours (r k i j : ℕ) : Type 0 where
  next : i % 2 ≡ r → i + 1 < k → j ≡ i + 1 → AreNeighbours r k i j
  previous : i % 2 ≢ r → j + 1 ≡ i → AreNeighbours r k i j
  last : i % 2 ≡ r → k ≤ i + 1 → j ≡ i → AreNeighbours r k i j
  first : i % 2 ≢ r → i ≡ 0 → j ≡ i → AreNeighbours r k i j

-- ---- the neighbours of rectangles

across_by : (k i : ℕ) (even more : Bool) → is_even i ≡ even → ltb (i + 1) k ≡ more → AreNeighbours 0 k i (if even then (if more then i + 1 else i) else i - 1)
across_by k i true true e m = next (eqb-true (i % 2) 0 e) (ltb-true (i + 1) k m) refl
across_by k i true false e m = last (eqb-true (i % 2) 0 e) (ltb-false (i + 1) k m) refl
across_by k i false more e m = let odd = eqb-false (i % 2) 0 e in previous odd (let n : i % 2 ≢ 0 = odd in omega arith)

across_neighbours : (k i : ℕ) → AreNeighbours 0 k i (across k i)
across_neighbours k i = across_by k i (is_even i) (ltb (i + 1) k) refl refl

above_by : (k i : ℕ) (even more : Bool) → is_even i ≡ even → ltb (i + 1) k ≡ more → AreNeighbours 1 k i (if even then i - 1 else (if more then i + 1 else i))
above_by k i true more e m = even_case i (eqb-true (i % 2) 0 e)
  where
    even_case : (i : ℕ) → i % 2 ≡ 0 → AreNeighbours 1 k i (i - 1)
    even_case zero even = first (omega arith) refl (omega arith)
    even_case (suc i) even = previous (omega arith) (omega arith)
above_by k i false true e m = next (let odd : i % 2 ≢ 0 = eqb-false (i % 2) 0 e in omega arith) (ltb-true (i + 1) k m) refl
above_by k i false false e m = last (let odd : i % 2 ≢ 0 = eqb-false (i % 2) 0 e in omega arith) (ltb-false (i + 1) k m) refl

above_neighbours : (k i : ℕ) → AreNeighbours 1 k i (above k i)
above_neighbours k i = above_by k i (is_even i) (ltb (i + 1) k) refl refl

neighbour_inside : (r k i j : ℕ) → i < k → AreNeighbours r k i j → j < k
neighbour_inside r k i j l (next p m e) = omega arith
neighbour_inside r k i j l (previous p e) = omega arith
neighbour_inside r k i j l (last p m e) = omega arith
neighbour_inside r k i j l (first p z e) = omega arith

neighbour_back : (r k i j h : ℕ) → r < 2 → i < k → AreNeighbours r k i j → AreNeighbours r k j h → h ≡ i
neighbour_back r k i j h low l (next p m e) (next q n f) = omega arith
neighbour_back r k i j h low l (next p m e) (previous q f) = omega arith
neighbour_back r k i j h low l (next p m e) (last q n f) = omega arith
neighbour_back r k i j h low l (next p m e) (first q z f) = omega arith
neighbour_back r k i j h low l (previous p e) (next q n f) = omega arith
neighbour_back r k i j h low l (previous p e) (previous q f) = omega arith
neighbour_back r k i j h low l (previous p e) (last q n f) = omega arith
neighbour_back r k i j h low l (previous p e) (first q z f) = omega arith
neighbour_back r k i j h low l (last p m e) (next q n f) = omega arith
neighbour_back r k i j h low l (last p m e) (previous q f) = omega arith
neighbour_back r k i j h low l (last p m e) (last q n f) = omega arith
neighbour_back r k i j h low l (last p m e) (first q z f) = omega arith
neighbour_back r k i j h low l (first p z e) (next q n f) = omega arith
neighbour_back r k i j h low l (first p z e) (previous q f) = omega arith
neighbour_back r k i j h low l (first p z e) (last q n f) = omega arith
neighbour_back r k i j h low l (first p z e) (first q y f) = omega arith

-- rectangles side by side have the same height
pub same_height : (seed k i j : ℕ) → AreNeighbours 0 k i j → height seed j ≡ height seed i
same_height seed k i j n = ap (λ m. draw seed (2 * m + 1)) (half n)
  where
    half : AreNeighbours 0 k i j → j / 2 ≡ i / 2
    half (next p m e) = omega arith
    half (previous p e) = omega arith
    half (last p m e) = omega arith
    half (first p z e) = omega arith

-- rectangles above each other have the same width
pub same_width : (seed k i j : ℕ) → AreNeighbours 1 k i j → width seed j ≡ width seed i
same_width seed k i j n = ap (λ m. draw seed (2 * m)) (half n)
  where
    half : AreNeighbours 1 k i j → (j + 1) / 2 ≡ (i + 1) / 2
    half (next p m e) = omega arith
    half (previous p e) = omega arith
    half (last p m e) = omega arith
    half (first p z e) = omega arith

-- ---- the partners of sides

-- c is one of the four sides of one of k rectangles
pub record IsSide (k : ℕ) (c : Corner) : Type 0 where
  pub there : c.polygon < k
  pub inside : c.side < 4

-- the rectangle of the partner is a neighbour: of a side below or above one in the column, of another side one in the row
pub partner_neighbours : (k : ℕ) (c : Corner) → AreNeighbours ((c.side + 1) % 2) k c.polygon (partner k c).polygon
partner_neighbours k c = by (is_even c.side) refl
  where
    by : (even : Bool) → is_even c.side ≡ even → AreNeighbours ((c.side + 1) % 2) k c.polygon (if even then above k c.polygon else across k c.polygon)
    by true e =
        let even : c.side % 2 ≡ 0 = eqb-true (c.side % 2) 0 e in
        let r : 1 ≡ (c.side + 1) % 2 = omega arith in
        subst (λ (r : ℕ). AreNeighbours r k c.polygon (above k c.polygon)) r (above_neighbours k c.polygon)
    by false e =
        let odd : c.side % 2 ≢ 0 = eqb-false (c.side % 2) 0 e in
        let r : 0 ≡ (c.side + 1) % 2 = omega arith in
        subst (λ (r : ℕ). AreNeighbours r k c.polygon (across k c.polygon)) r (across_neighbours k c.polygon)

-- the partner of a side is a side
pub partner_inside : (k : ℕ) (c : Corner) → IsSide k c → IsSide k (partner k c)
partner_inside k c is = record {
  there = neighbour_inside ((c.side + 1) % 2) k c.polygon (partner k c).polygon is.there (partner_neighbours k c);
  inside = omega arith;
}

-- the partner of the partner is the side itself
pub partner_back : (k : ℕ) (c : Corner) → IsSide k c → partner k (partner k c) ≡ c
partner_back k c is = corner_eq
    (neighbour_back ((c.side + 1) % 2) k c.polygon (partner k c).polygon (partner k (partner k c)).polygon (omega arith) is.there (partner_neighbours k c)
    (let same : ((c.side + 2) % 4 + 1) % 2 ≡ (c.side + 1) % 2 = omega arith in
    subst (λ (r : ℕ). AreNeighbours r k (partner k c).polygon (partner k (partner k c)).polygon) same (partner_neighbours k (partner k c))))
    (let l : c.side < 4 = is.inside in let back : ((c.side + 2) % 4 + 2) % 4 ≡ c.side = omega arith in back)

-- the partner of a side is another side
pub partner_other : (k : ℕ) (c : Corner) → IsSide k c → c ≢ partner k c
partner_other k c is same = let l : c.side < 4 = is.inside in let e : c.side ≡ (c.side + 2) % 4 = ap (λ (x : Corner). x.side) same in omega arith
