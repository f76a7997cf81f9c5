-- A vector is kept in a list, or a part of it is too large.
use Rattle.std.proofs.Common.{◌≡◌, ◌⊎◌, Bool, true, false, cond, Ok, Err, refl, inl, inr}
use Rattle.std.proofs.lemmas.Bool.{leb-true}
use Rattle.fs_quadratic.specs.Checked.{place}
use Rattle.fs_quadratic.specs.declared.steps.Place.{Place}
use Rattle.fs_plane.specs.Listing.{is_keepable, IsKeepable, keep}
use Rattle.fs_plane.specs.Vector.{PlaneVector}

-- a vector is kept, or a part is too large
pub keep_cases : (v : PlaneVector) → ((keep v ≡ Ok v) × IsKeepable v) ⊎ ((stop : Place) × (keep v ≡ Err stop))
keep_cases v = by (is_keepable v.x.p) (is_keepable v.x.q) (is_keepable v.y.p) (is_keepable v.y.q) refl refl refl refl
  where
    by : (a b c e : Bool) → is_keepable v.x.p ≡ a → is_keepable v.x.q ≡ b → is_keepable v.y.p ≡ c → is_keepable v.y.q ≡ e → ((keep v ≡ Ok v) × IsKeepable v) ⊎ ((stop : Place) × (keep v ≡ Err stop))
    by true true true true f g h k = inl (
      (λ i. cond (f i) (cond (g i) (cond (h i) (cond (k i) (Ok v) (Err (place 4))) (Err (place 3))) (Err (place 2))) (Err (place 1))),
      record { x_p = leb-true _ _ f; x_q = leb-true _ _ g; y_p = leb-true _ _ h; y_q = leb-true _ _ k },
    )
    by true true true false f g h k = inr (place 4, λ i. cond (f i) (cond (g i) (cond (h i) (cond (k i) (Ok v) (Err (place 4))) (Err (place 3))) (Err (place 2))) (Err (place 1)))
    by true true false e f g h k = inr (place 3, λ i. cond (f i) (cond (g i) (cond (h i) (cond (is_keepable v.y.q) (Ok v) (Err (place 4))) (Err (place 3))) (Err (place 2))) (Err (place 1)))
    by true false c e f g h k =
        inr (place 2, λ i. cond (f i) (cond (g i) (cond (is_keepable v.y.p) (cond (is_keepable v.y.q) (Ok v) (Err (place 4))) (Err (place 3))) (Err (place 2))) (Err (place 1)))
    by false b c e f g h k =
        inr (
          place 1,
          λ i. cond (f i) (cond (is_keepable v.x.q) (cond (is_keepable v.y.p) (cond (is_keepable v.y.q) (Ok v) (Err (place 4))) (Err (place 3))) (Err (place 2))) (Err (place 1)),
        )
