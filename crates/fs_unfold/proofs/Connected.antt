-- Each copy is reached from the first one through glued sides.
use Rattle.std.proofs.Common.{◌≡◌, ℕ, ◌<◌, Bool, IsTrue, IsSome, Option, Some, None, List, [], ◌∷◌, ◌++◌, length, map, refl, sym, ap, ◌∙◌, subst, inl, inr, arith, length-append}
use Rattle.std.proofs.lemmas.Bool.{cases_lt}
use Rattle.std.proofs.lemmas.List.{length-map}
use Rattle.std.proofs.lemmas.Option.{slice_get-map}
use Rattle.std.specs.List.{slice_get}
use Rattle.std.specs.Option.{option_map, option_and_then}
use Rattle.fs_lists.proofs.Items.{some_of_inside}
use Rattle.fs_plane.specs.declared.corners.Corner.{Corner}
use Rattle.fs_gluing.specs.declared.shapes.Glue.{Glue}
use Rattle.fs_gluing.specs.declared.shapes.Point.{Point}
use Rattle.fs_gluing.specs.FirstFault.{Joins}
use Rattle.fs_gluing.specs.Polygons.{HasSide, all_sides}
use Rattle.fs_gluing.specs.Reached.{IsReached}
use Rattle.fs_gluing.proofs.Sides.AllSides.{in_all_sides}
use Rattle.fs_unfold.specs.declared.matrices.Matrix.{Matrix}
use Rattle.fs_unfold.specs.declared.matrices.Mirror.{Mirror}
use Rattle.fs_unfold.specs.Copies.{copy, side_number, IsPair, AreLines}
use Rattle.fs_unfold.specs.Tables.{IsTable}
use Rattle.fs_unfold.specs.Matrices.{mirror, times}
use Rattle.fs_unfold.specs.Products.{mirrors, AreListed, first, known, added, next_product, AreProducts}
use Rattle.fs_unfold.proofs.ComputedMatrices.{times_is}
use Rattle.fs_unfold.proofs.GlueTests.{sides_join}
use Rattle.fs_unfold.proofs.Partners.{copy_length, number_inside, pair_symmetric, pair_apart, get_last}
use Rattle.fs_unfold.proofs.ProductLists.{get_inside, get_append, listed_once}
use Rattle.fs_unfold.proofs.UnfoldingUnique.{pair_unique}

module _ (d : ℕ) (table : List Point) (is : IsTable d table) (list : List Matrix) (are : AreProducts d (mirrors d table) list) where
  abbrev rs : List Mirror
  rs = mirrors d table

  abbrev polygons : List (List Point)
  polygons = map (copy d table) list

  abbrev Paired : Corner → Corner → Type 0
  Paired = IsPair d (length table) rs list

  -- a side of a copy
  pub has_side : (c : Corner) → c.polygon < length list → c.side < length table → HasSide polygons c
  has_side c in_list in_copy =
      by (slice_get list c.polygon) (slice_get-map (copy d table) list c.polygon) (some_of_inside list c.polygon in_list)
    where
      by : (o : Option Matrix) → slice_get polygons c.polygon ≡ option_map (copy d table) o → IsSome o → HasSide polygons c
      by None e s = absurd cc
      by (Some m) e s =
          subst (λ (o : Option (List Point)). IsSome (option_and_then (λ polygon. slice_get polygon c.side) o)) (sym e)
          (some_of_inside (copy d table m) c.side (subst (λ k. c.side < k) (sym (copy_length d table m)) in_copy))

  pair_one : (c e : Corner) → Paired c e → HasSide polygons c
  pair_one c e p =
      has_side c (get_inside list c.polygon p.from p.from_there)
      (subst (λ k. k < length table) (sym p.number_one) (number_inside d table p.from p.side (subst (λ k. p.side < k) (length-map table (mirror d)) (get_inside rs p.side p.mirror p.of_side))))

  pair_two : (c e : Corner) → Paired c e → HasSide polygons e
  pair_two c e p = pair_one e c (pair_symmetric d table is list are c e p)

  module _ (glues : List Glue) (lines : AreLines Paired (all_sides polygons) glues) where
    joined : (c e : Corner) → Paired c e → Joins glues c.polygon e.polygon
    joined c e p =
        sides_join Paired (pair_symmetric d table is list are) (λ a b f x y. pair_unique d (length table) rs list (length-map table (mirror d)) (listed_once list (length list) 0 are) a b f x y) (all_sides polygons) glues lines c e
        (in_all_sides polygons c (pair_one c e p)) (in_all_sides polygons e (pair_two c e p)) p (pair_apart d table is list are c e p)

    module _ (held : ℕ → Bool) (zero_held : IsTrue (held 0)) (closed : (i j : ℕ) → Joins glues i j → IsTrue (held i) → IsTrue (held j)) where
      -- the items of a list so far are those of the whole list
      abbrev IsBeginning : List Matrix → Type 0
      IsBeginning xs = (k : ℕ) (m : Matrix) → slice_get xs k ≡ Some m → slice_get list k ≡ Some m

      held_so_far : (xs : List Matrix) (g i : ℕ) → AreListed d rs xs g i → IsBeginning xs → (k : ℕ) → k < length xs → IsTrue (held k)
      held_so_far _ _ _ first begins k l = subst (λ j. IsTrue (held j)) (let e : 0 ≡ k = omega (arith, l) in e) zero_held
      held_so_far _ _ _ (known xs g i m n r before at_g at_i made there) begins k l = held_so_far xs g i before begins k l
      held_so_far _ _ _ (added xs g i m n r before at_g at_i made new room) begins k l = elim (cases_lt k (length xs)) [
        | inl low ↦ held_so_far xs g i before (λ j x at. begins j x (get_append xs (n ∷ []) j x at)) k low
        | inr high ↦
            let long = length-append xs (n ∷ []) in
            let last : length xs ≡ k = (let b : k < length (xs ++ n ∷ []) = l in omega (arith, long, high, b)) in
            let earlier : IsBeginning xs = λ j x at. begins j x (get_append xs (n ∷ []) j x at) in
            let m_held = held_so_far xs g i before earlier g (get_inside xs g m at_g) in
            let product : n ≡ times d m r = times_is d m r n made in
            let c : Corner = record { polygon = g; side = side_number d (length table) m i } in
            let e : Corner = record { polygon = length xs; side = side_number d (length table) (times d m r) i } in
            let pair : Paired c e = record {
              side = i;
              mirror = r;
              of_side = at_i;
              from = m;
              from_there = earlier g m at_g;
              to_there = begins (length xs) n (get_last xs [] n) ∙ ap Some product;
              number_one = refl;
              number_two = refl;
            } in
            subst (λ j. IsTrue (held j)) last (closed g (length xs) (joined c e pair) m_held)
      ]
      held_so_far _ _ _ (next_product xs g before) begins k l = held_so_far xs g (length rs) before begins k l

    -- each copy is reached
    pub copies_reached : (k : ℕ) → k < length list → IsReached (Joins glues) k
    copies_reached k l held zero_held closed = held_so_far held zero_held closed list (length list) 0 are (λ j m at. at) k l
