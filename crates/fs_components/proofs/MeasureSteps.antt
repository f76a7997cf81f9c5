-- The steps by which the measures of a part are computed, one after another.
use Rattle.std.proofs.Common.{◌≡◌, ℕ, ◌+◌, ◌*◌, ◌<◌, ◌≤◌, Result, Ok, Err, List, ◌∷◌, length, drop, get_or, refl, sym, ap, ◌∙◌}
use Rattle.std.proofs.lemmas.List.{drop_all}
use Rattle.fs_lists.proofs.Items.{drop_item}
use Rattle.fs_quadratic.specs.Checked.{checked_product, checked_sum}
use Rattle.fs_quadratic.specs.Ring.{Quadratic}
use Rattle.fs_quadratic.specs.declared.steps.Place.{Place}
use Rattle.fs_fraction.specs.CheckedFractions.{checked_fraction_product}
use Rattle.fs_fraction.specs.Fraction.{Fraction}
use Rattle.fs_plane.specs.Formulas.{norm_after, dot_after}
use Rattle.fs_plane.specs.Vector.{PlaneVector}
use Rattle.fs_rauzy.specs.declared.parts.Letter.{Letter}
use Rattle.fs_components.specs.Measures.{PartMeasures, whole, one_over, checked_unscaled, checked_inverse, checked_cylinder, checked_areas}

-- ---- a fraction over the square of the denominator

module _ (d den place : ℕ) (x : Fraction) where
  -- the first product overflows
  pub once_stops : (stop : Place) → Err stop ≡ checked_fraction_product d place x (one_over den) → Err stop ≡ checked_unscaled d den place x
  once_stops stop e = rw (← e) refl

  -- the second product is the result
  pub twice_given : (once : Fraction) → Ok once ≡ checked_fraction_product d place x (one_over den) → (result : Result Fraction Place) → result ≡ checked_fraction_product d (place + 1) once (one_over den)
      → result ≡ checked_unscaled d den place x
  twice_given once e result f = rw (← e) f

-- ---- a cylinder

module _ (d den : ℕ) (v : PlaneVector) (width : Quadratic) (back : PlaneVector) where
  abbrev Is : Result PartMeasures Place → Type 0
  Is r = r ≡ checked_cylinder d den v width back

  module _ (norm : Quadratic) (a : Ok norm ≡ norm_after 0 d back) where
    module _ (holonomy : Fraction) (b : Ok holonomy ≡ checked_unscaled d den 4 (whole norm)) (square : Quadratic) (c : Ok square ≡ checked_product d 6 width width) where
      -- the inverse of the squared length of the direction overflows
      pub inverse_stops : (stop : Place) → Err stop ≡ checked_inverse d v → Is (Err stop)
      unfolding checked_cylinder
      inverse_stops stop e = rw (← a, ← b, ← c, ← e) refl

      module _ (inverse : Fraction) (f : Ok inverse ≡ checked_inverse d v) where
        -- the scaled square of the height overflows
        pub part_stops : (stop : Place) → Err stop ≡ checked_fraction_product d 11 (whole square) inverse → Is (Err stop)
        unfolding checked_cylinder
        part_stops stop e = rw (← a, ← b, ← c, ← f, ← e) refl

        module _ (part : Fraction) (g : Ok part ≡ checked_fraction_product d 11 (whole square) inverse) where
          -- the square of the height overflows
          pub height_stops : (stop : Place) → Err stop ≡ checked_unscaled d den 12 part → Is (Err stop)
          unfolding checked_cylinder
          height_stops stop e = rw (← a, ← b, ← c, ← f, ← g, ← e) refl

          module _ (height : Fraction) (h : Ok height ≡ checked_unscaled d den 12 part) where
            -- the dot product of the direction and the holonomy overflows
            pub along_stops : (stop : Place) → Err stop ≡ dot_after 13 d v back → Is (Err stop)
            unfolding checked_cylinder
            along_stops stop e = rw (← a, ← b, ← c, ← f, ← g, ← h, ← e) refl

            module _ (along : Quadratic) (i : Ok along ≡ dot_after 13 d v back) where
              -- the scaled area overflows
              pub product_stops : (stop : Place) → Err stop ≡ checked_product d 17 width along → Is (Err stop)
              unfolding checked_cylinder
              product_stops stop e = rw (← a, ← b, ← c, ← f, ← g, ← h, ← i, ← e) refl

              module _ (product : Quadratic) (j : Ok product ≡ checked_product d 17 width along) where
                -- its product with the inverse overflows
                pub share_stops : (stop : Place) → Err stop ≡ checked_fraction_product d 18 (whole product) inverse → Is (Err stop)
                unfolding checked_cylinder
                share_stops stop e = rw (← a, ← b, ← c, ← f, ← g, ← h, ← i, ← j, ← e) refl

                module _ (share : Fraction) (k : Ok share ≡ checked_fraction_product d 18 (whole product) inverse) where
                  -- the area overflows
                  pub area_stops : (stop : Place) → Err stop ≡ checked_unscaled d den 19 share → Is (Err stop)
                  unfolding checked_cylinder
                  area_stops stop e = rw (← a, ← b, ← c, ← f, ← g, ← h, ← i, ← j, ← k, ← e) refl

                  -- nothing overflows
                  pub cylinder_measured : (area : Fraction) → Ok area ≡ checked_unscaled d den 19 share → Is (Ok (record { holonomy_square = holonomy; height_square = height; area = area }))
                  unfolding checked_cylinder
                  cylinder_measured area e = rw (← a, ← b, ← c, ← f, ← g, ← h, ← i, ← j, ← k, ← e) refl

-- ---- the areas of letters

module _ (d : ℕ) (v : PlaneVector) (n : ℕ) (sum : Quadratic) (letter : Letter) (letters : List Letter) where
  abbrev areas : Result Quadratic Place
  areas = checked_areas d v n sum (letter ∷ letters)

  -- the dot product of the direction and a letter's return vector overflows
  pub letter_along_stops : (stop : Place) → Err stop ≡ dot_after (20 + 5 * n) d v letter.back → Err stop ≡ areas
  letter_along_stops stop e = rw (← e) refl

  module _ (along : Quadratic) (a : Ok along ≡ dot_after (20 + 5 * n) d v letter.back) where
    -- the area of a letter overflows
    pub letter_area_stops : (stop : Place) → Err stop ≡ checked_product d (24 + 5 * n) letter.length along → Err stop ≡ areas
    letter_area_stops stop e = rw (← a, ← e) refl

    module _ (area : Quadratic) (b : Ok area ≡ checked_product d (24 + 5 * n) letter.length along) where
      -- the sum overflows
      pub letter_sum_stops : (stop : Place) → Err stop ≡ checked_sum (25 + 5 * n) sum area → Err stop ≡ areas
      letter_sum_stops stop e = rw (← a, ← b, ← e) refl

      -- nothing overflows, and the next letter follows
      pub letter_added : (next : Quadratic) → Ok next ≡ checked_sum (25 + 5 * n) sum area → areas ≡ checked_areas d v (n + 1) next letters
      letter_added next e = rw (← a, ← b, ← e) refl

-- the letter at an index comes next
pub areas_read : (d : ℕ) (v : PlaneVector) (n : ℕ) (sum : Quadratic) (letters : List Letter) (letter : Letter) (whole_sum : Result Quadratic Place) → n < length letters → letter ≡ get_or letters n letter
    → whole_sum ≡ checked_areas d v n sum (drop n letters) → whole_sum ≡ checked_areas d v n sum (letter ∷ drop (n + 1) letters)
areas_read d v n sum letters letter r inside is e = e ∙ ap (checked_areas d v n sum) (drop_item letters n letter (record { inside = inside; is = is }))

-- after the last letter the sum is whole
pub areas_whole : (d : ℕ) (v : PlaneVector) (n : ℕ) (sum : Quadratic) (letters : List Letter) (r : Result Quadratic Place) → length letters ≤ n → r ≡ checked_areas d v n sum (drop n letters) → Ok sum ≡ r
areas_whole d v n sum letters r all e = sym (e ∙ ap (checked_areas d v n sum) (drop_all n letters all))
