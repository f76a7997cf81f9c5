-- Which sides of the copies are pairs: each side is in one pair, with a side of another copy, which has the opposite vector.
use Rattle.std.proofs.Common.{◌≡◌, ◌≢◌, ◌⊎◌, ℕ, zero, suc, ◌+◌, ◌-◌, ◌<◌, Bool, true, false, if◌then◌else◌, not, Some, List, [], ◌∷◌, ◌++◌, length, map, reverse, refl, sym, ap, ◌∙◌, subst, inl, inr, arith}
use Rattle.std.proofs.lemmas.Bool.{cases_lt}
use Rattle.std.proofs.lemmas.List.{length-map, length-reverse}
use Rattle.std.proofs.lemmas.Option.{slice_get-map}
use Rattle.std.specs.List.{slice_get}
use Rattle.std.specs.Option.{option_map}
use Rattle.fs_lists.specs.Members.{IsIn}
use Rattle.fs_quadratic.proofs.SquareRoot.{radicand_no_square}
use Rattle.fs_plane.specs.declared.corners.Corner.{Corner}
use Rattle.fs_gluing.specs.declared.shapes.Point.{Point}
use Rattle.fs_gluing.specs.Scaling.{scaled_vector}
use Rattle.fs_unfold.specs.declared.matrices.Matrix.{Matrix}
use Rattle.fs_unfold.specs.declared.matrices.Mirror.{Mirror}
use Rattle.fs_unfold.specs.Tables.{IsTable}
use Rattle.fs_unfold.specs.Copies.{is_turned, opposite, copy, side_number, IsPair}
use Rattle.fs_unfold.specs.Matrices.{mirror, times, image}
use Rattle.fs_unfold.specs.Products.{mirrors, AreProducts}
use Rattle.fs_unfold.proofs.Frames.{times_turns, times_differs, times_back, image_kept}
use Rattle.fs_unfold.proofs.ListedFrames.{IsFramed, listed_framed}
use Rattle.fs_unfold.proofs.ReversedLists.{reverse_cons}
use Rattle.fs_unfold.proofs.ProductLists.{get_in, in_get, get_inside, same_some, products_closed}
use Rattle.fs_unfold.proofs.TableTests.{den_of, table_side}

-- ---- items of lists

module _ {X : Type 0} where
  pub get_last : (xs ys : List X) (x : X) → slice_get (xs ++ x ∷ ys) (length xs) ≡ Some x
  get_last [] ys x = refl
  get_last (z ∷ xs) ys x = get_last xs ys x

  get_before : (xs ys : List X) (k : ℕ) → k < length xs → slice_get (xs ++ ys) k ≡ slice_get xs k
  get_before [] ys k l = absurd (let none : k < 0 = l in omega (arith, none))
  get_before (x ∷ xs) ys zero l = refl
  get_before (x ∷ xs) ys (suc k) l = get_before xs ys k (let m : suc k < suc (length xs) = l in omega (arith, m))

  pub some_inside : (xs : List X) (k : ℕ) → k < length xs → (x : X) × (slice_get xs k ≡ Some x)
  some_inside [] k l = absurd (let none : k < 0 = l in omega (arith, none))
  some_inside (x ∷ xs) zero l = (x, refl)
  some_inside (x ∷ xs) (suc k) l = some_inside xs k (let m : suc k < suc (length xs) = l in omega (arith, m))

  -- an item of the reversed list
  get_reverse : (xs : List X) (k : ℕ) → k < length xs → slice_get (reverse xs) k ≡ slice_get xs (length xs - (k + 1))
  get_reverse [] k l = absurd (let none : k < 0 = l in omega (arith, none))
  get_reverse (x ∷ xs) k l = ap (λ ys. slice_get ys k) (reverse_cons x xs) ∙ elim (cases_lt k (length xs)) [
    | inl m ↦
        get_before (reverse xs) (x ∷ []) k (subst (λ n. k < n) (sym (length-reverse xs)) m)
        ∙ get_reverse xs k m
        ∙ ap (slice_get (x ∷ xs)) (let e : suc (length xs - (k + 1)) ≡ suc (length xs) - (k + 1) = omega (arith, m) in e)
    | inr m ↦
        let at : k ≡ length xs = (let b : k < suc (length xs) = l in omega (arith, m, b)) in
        ap (slice_get (reverse xs ++ x ∷ [])) (at ∙ sym (length-reverse xs))
        ∙ get_last (reverse xs) [] x
        ∙ ap (slice_get (x ∷ xs)) (let e : 0 ≡ suc (length xs) - (k + 1) = omega (arith, at) in e)
  ]

-- ---- sides of a copy

module _ (d : ℕ) (table : List Point) where
  abbrev n : ℕ
  n = length table

  -- as many sides as the table
  pub copy_length : (m : Matrix) → length (copy d table m) ≡ n
  copy_length m = by (is_turned d m)
    where
      by : (t : Bool) → length (if t then reverse (map (λ p. opposite (image d m p)) table) else map (image d m) table) ≡ n
      by true = length-reverse (map (λ p. opposite (image d m p)) table) ∙ length-map table (λ p. opposite (image d m p))
      by false = length-map table (image d m)

  -- the number of a side in a copy is below that, and its own inverse
  pub number_inside : (m : Matrix) (i : ℕ) → i < n → side_number d n m i < n
  number_inside m i l = by (is_turned d m)
    where
      by : (t : Bool) → (if t then n - (i + 1) else i) < n
      by true = omega (arith, l)
      by false = l

  number_twice : (m : Matrix) (i : ℕ) → i < n → side_number d n m (side_number d n m i) ≡ i
  number_twice m i l = by (is_turned d m)
    where
      by : (t : Bool) → (if t then n - ((if t then n - (i + 1) else i) + 1) else (if t then n - (i + 1) else i)) ≡ i
      by true = omega (arith, l)
      by false = refl

  -- the vector that side i of the table becomes
  abbrev side_of_copy : Matrix → Point → Point
  side_of_copy m p = if is_turned d m then opposite (image d m p) else image d m p

  copy_side : (m : Matrix) (i : ℕ) (p : Point) → slice_get table i ≡ Some p → slice_get (copy d table m) (side_number d n m i) ≡ Some (side_of_copy m p)
  copy_side m i p at = by (is_turned d m)
    where
      l : i < n
      l = get_inside table i p at

      by : (t : Bool) → slice_get (if t then reverse (map (λ q. opposite (image d m q)) table) else map (image d m) table) (if t then n - (i + 1) else i) ≡ Some (if t then opposite (image d m p) else image d m p)
      by true =
          let xs = map (λ q. opposite (image d m q)) table in
          let long = length-map table (λ q. opposite (image d m q)) in
          get_reverse xs (n - (i + 1)) (omega (arith, l, long))
          ∙ ap (slice_get xs) (let e : length xs - (n - (i + 1) + 1) ≡ i = omega (arith, l, long) in e)
          ∙ slice_get-map (λ q. opposite (image d m q)) table i
          ∙ ap (option_map (λ q. opposite (image d m q))) at
      by false = slice_get-map (image d m) table i ∙ ap (option_map (image d m)) at

-- ---- pairs

module _ (d : ℕ) (table : List Point) (is : IsTable d table) (list : List Matrix) (are : AreProducts d (mirrors d table) list) where
  abbrev rs : List Mirror
  rs = mirrors d table

  abbrev Paired : Corner → Corner → Type 0
  Paired = IsPair d (length table) rs list

  framed : (m : Matrix) (k : ℕ) → slice_get list k ≡ Some m → IsFramed d m
  framed m k at = listed_framed d table is list (length list) 0 are m (get_in list k m at)

  -- the table's side of a pair
  record HasTableSide (c e : Corner) (pair : Paired c e) : Type 0 where
    pub point : Point
    pub there : IsIn point table
    pub at : slice_get table pair.side ≡ Some point
    pub mirror : pair.mirror ≡ mirror d point
    pub frame : IsFramed d pair.from

  table_side_of : (c e : Corner) (p : Paired c e) → HasTableSide c e p
  table_side_of c e p =
      let point = some_inside table p.side (subst (λ k. p.side < k) (length-map table (mirror d)) (get_inside rs p.side p.mirror p.of_side)) in
      record {
        point = point.0;
        there = get_in table p.side point.0 point.1;
        at = point.1;
        mirror = same_some (slice_get rs p.side) p.mirror (mirror d point.0) p.of_side (slice_get-map (mirror d) table p.side ∙ ap (option_map (mirror d)) point.1);
        frame = framed p.from c.polygon p.from_there;
      }

  -- a side of a pair is the other one's pair
  pub pair_symmetric : (c e : Corner) → Paired c e → Paired e c
  pair_symmetric c e p =
      let s = table_side_of c e p in
      let back : times d (times d p.from p.mirror) p.mirror ≡ p.from =
      subst (λ r. times d (times d p.from r) r ≡ p.from) (sym s.mirror)
      (times_back (radicand_no_square is.radicand) p.from s.frame.f s.frame.k s.frame.turned s.frame.frame (den_of table) s.point (scaled_vector (den_of table) s.point) (table_side d table is s.point s.there)) in
      record {
        side = p.side;
        mirror = p.mirror;
        of_side = p.of_side;
        from = times d p.from p.mirror;
        from_there = p.to_there;
        to_there = p.from_there ∙ ap Some (sym back);
        number_one = p.number_two;
        number_two = p.number_one ∙ ap (λ m. side_number d (length table) m p.side) (sym back);
      }

  -- and is in another copy
  pub pair_apart : (c e : Corner) → Paired c e → c.polygon ≢ e.polygon
  pair_apart c e p same =
      let s = table_side_of c e p in
      let equal : times d p.from p.mirror ≡ p.from = same_some (slice_get list e.polygon) (times d p.from p.mirror) p.from p.to_there (ap (slice_get list) (sym same) ∙ p.from_there) in
      times_differs (radicand_no_square is.radicand) p.from s.frame.f s.frame.k s.frame.turned s.frame.frame (den_of table) s.point (scaled_vector (den_of table) s.point) (table_side d table is s.point s.there)
      (ap (times d p.from) (sym s.mirror) ∙ equal)

  -- each side of a copy is in a pair
  pub pair_exists : (c : Corner) → c.polygon < length list → c.side < length table → (e : Corner) × Paired c e × (e.polygon < length list) × (e.side < length table)
  pair_exists c in_list in_copy =
      let m = some_inside list c.polygon in_list in
      let i = side_number d (length table) m.0 c.side in
      let l : i < length table = number_inside d table m.0 c.side in_copy in
      let r = some_inside rs i (subst (λ k. i < k) (sym (length-map table (mirror d))) l) in
      let h = in_get (times d m.0 r.0) list (products_closed list are m.0 r.0 (get_in list c.polygon m.0 m.1) (get_in rs i r.0 r.1)) in
      let e : Corner = record { polygon = h.0; side = side_number d (length table) (times d m.0 r.0) i } in (
        e,
        record {
          side = i;
          mirror = r.0;
          of_side = r.1;
          from = m.0;
          from_there = m.1;
          to_there = h.1;
          number_one = sym (number_twice d table m.0 c.side in_copy);
          number_two = refl;
        },
        get_inside list h.0 (times d m.0 r.0) h.1,
        number_inside d table (times d m.0 r.0) i l,
      )

  -- the vectors of a pair: one is an image, the other the opposite one
  pub pair_vectors : (c e : Corner) (p : Paired c e) → (q : Point) × (x : Point) × (slice_get (copy d table p.from) c.side ≡ Some q) × (slice_get (copy d table (times d p.from p.mirror)) e.side ≡ Some x)
      × (((q ≡ opposite x)) ⊎ (x ≡ opposite q))
  pair_vectors c e p =
      let s = table_side_of c e p in
      let N = radicand_no_square is.radicand in
      let side = table_side d table is s.point s.there in
      let v = scaled_vector (den_of table) s.point in
      let turns : is_turned d (times d p.from p.mirror) ≡ not (is_turned d p.from) = subst (λ r. is_turned d (times d p.from r) ≡ not (is_turned d p.from)) (sym s.mirror)
      (times_turns N p.from s.frame.f s.frame.k s.frame.turned s.frame.frame (den_of table) s.point v side) in
      let kept : image d (times d p.from p.mirror) s.point ≡ image d p.from s.point = subst (λ r. image d (times d p.from r) s.point ≡ image d p.from s.point) (sym s.mirror)
      (image_kept N p.from s.frame.f s.frame.k s.frame.turned s.frame.frame (den_of table) s.point v side) in (
        side_of_copy d table p.from s.point,
        side_of_copy d table (times d p.from p.mirror) s.point,
        ap (slice_get (copy d table p.from)) p.number_one ∙ copy_side d table p.from p.side s.point s.at,
        ap (slice_get (copy d table (times d p.from p.mirror))) p.number_two ∙ copy_side d table (times d p.from p.mirror) p.side s.point s.at,
        by (is_turned d p.from) (is_turned d (times d p.from p.mirror)) turns (image d p.from s.point) (image d (times d p.from p.mirror) s.point) kept,
      )
    where
      by : (t u : Bool) → u ≡ not t → (y z : Point) → z ≡ y → ((if t then opposite y else y) ≡ opposite (if u then opposite z else z)) ⊎ ((if u then opposite z else z) ≡ opposite (if t then opposite y else y))
      by true true e y z k = absurd cc
      by true false e y z k = inl (ap opposite (sym k))
      by false true e y z k = inr (ap opposite k)
      by false false e y z k = absurd cc
