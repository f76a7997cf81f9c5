-- Where a product is to be added to a full list there are more products than may be.
use Rattle.std.proofs.Common.{◌≡◌, ℕ, ◌+◌, IsTrue, Ok, List, [], ◌∷◌, ◌++◌, length, sym, ap, ◌∙◌, subst, inl, inr, length-append}
use Rattle.std.specs.List.{AllByRecursion}
use Rattle.fs_lists.specs.Members.{IsIn}
use Rattle.fs_lists.proofs.All.{All-append}
use Rattle.fs_lists.proofs.Members.{All-member, apart_append}
use Rattle.fs_gluing.specs.declared.shapes.Point.{Point}
use Rattle.fs_unfold.specs.declared.matrices.Matrix.{Matrix}
use Rattle.fs_unfold.specs.declared.matrices.Mirror.{Mirror}
use Rattle.fs_unfold.specs.Products.{most_products, IsProduct}
use Rattle.fs_unfold.specs.Unfolding.{AreMirrors, IsNextProduct, HasTooMany}
use Rattle.fs_unfold.proofs.ComputedMatrices.{times_is, mirrors_are}
use Rattle.fs_unfold.proofs.ProductLists.{get_in, listed_products, listed_once}

-- a computed product is one
next_is_product : (d : ℕ) (rs : List Mirror) (list : List Matrix) (g i : ℕ) (n : Matrix) → IsNextProduct d rs list g i (Ok n) → IsProduct d rs n
next_is_product d rs list g i n s held one closed =
    subst (λ x. IsTrue (held x)) (sym (times_is d s.product s.mirror n (sym s.is)))
    (closed s.product s.mirror (get_in rs i s.mirror s.of_side) (All-member (IsProduct d rs) list s.product (listed_products list g i s.listed) (get_in list g s.product s.of_product) held one closed))

-- it and the full list are too many
pub too_many : (d : ℕ) (table : List Point) (rs : List Mirror) (list : List Matrix) (g i : ℕ) (n : Matrix) → AreMirrors d table rs → IsNextProduct d rs list g i (Ok n) → ¬ IsIn n list
    → length list ≡ most_products → HasTooMany d table
too_many d table rs list g i n are s new all = record {
  products = list ++ n ∷ [];
  each =
      subst (λ qs. AllByRecursion (IsProduct d qs) (list ++ n ∷ [])) (mirrors_are d table rs are)
      (All-append (IsProduct d rs) list (n ∷ []) (listed_products list g i s.listed) (next_is_product d rs list g i n s, tt));
  once =
      apart_append (λ x y. x ≡ y) list (n ∷ []) (listed_once list g i s.listed) ((λ y h. absurd h), tt)
      (λ x y x_in y_in e. new (subst (λ z. IsIn z list) (e ∙ only y y_in) x_in));
  many = length-append list (n ∷ []) ∙ ap (λ k. k + 1) all;
}
  where
    only : (y : Matrix) → IsIn y (n ∷ []) → y ≡ n
    only y (inl e) = e
    only y (inr h) = absurd h
