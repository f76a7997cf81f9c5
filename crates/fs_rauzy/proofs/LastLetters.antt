-- The last letters of both rows, and the letters at the places of a split: a component has one pair of them. A library for crates to come.
use Rattle.std.proofs.Common.{◌≡◌, ℕ, List, [], ◌∷◌, ◌++◌, length, sym, ap, ◌∙◌, subst, inl, inr, arith, length-append}
use Rattle.std.proofs.lemmas.List.{same_from_push}
use Rattle.std.proofs.lemmas.Option.{same_Some}
use Rattle.fs_lists.specs.Members.{IsIn, IsDistinct}
use Rattle.fs_lists.proofs.Members.{in_map}
use Rattle.fs_ring.specs.OrderedRing.{IsOrderedRing}
use Rattle.fs_quadratic.specs.Ring.{quadratic, IsPositive}
use Rattle.fs_gluing.specs.Exchanges.{Letter, Component, IsLawful, names_of}
use Rattle.fs_iet.proofs.TakenPositions.{letter_of_name}
use Rattle.fs_rauzy.specs.Events.{AreLast, AreAt}

-- letters with different names are different
pub letters_distinct : (letters : List Letter) → IsDistinct (names_of letters) → IsDistinct letters
letters_distinct [] p = tt
letters_distinct (x ∷ xs) p = ((λ y h e. p.0 y.name (in_map (λ (l : Letter). l.name) y xs h) (ap (λ (l : Letter). l.name) e)), letters_distinct xs p.1)

only_item : {X : Type 0} (front : List X) (x y : X) → IsIn y (front ++ x ∷ []) → length (front ++ x ∷ []) ≡ 1 → y ≡ x
only_item [] x y (inl e) l = e
only_item [] x y (inr h) l = absurd h
only_item (z ∷ front) x y h l = absurd (omega (arith, length-append front (x ∷ [])))

-- one letter isn't the last of both rows and another one
pub one_letter_last : {c : Component} {x y : Letter} → length c.top ≡ 1 → ¬ AreLast c x y
one_letter_last {c} {x} {y} one last =
    last.differ (ap (λ (l : Letter). l.name) (sym
    (only_item last.before_top x y (subst (IsIn y) last.top last.there) (sym (ap length last.top) ∙ one))))

-- the last letter of the top row, and those before it
pub last_front : {c : Component} {x y x2 y2 : Letter} (a : AreLast c x y) (b : AreLast c x2 y2) → a.before_top ≡ b.before_top
last_front {c} {x} {y} {x2} {y2} a b = (same_from_push a.before_top b.before_top x x2 (sym a.top ∙ b.top)).0

pub last_on_top : {c : Component} {x y x2 y2 : Letter} → AreLast c x y → AreLast c x2 y2 → x ≡ x2
last_on_top {c} {x} {y} {x2} {y2} a b = (same_from_push a.before_top b.before_top x x2 (sym a.top ∙ b.top)).1

module _ {d : ℕ} (L : IsOrderedRing (quadratic d) (IsPositive d)) {c : Component} (lawful : IsLawful d c) where
  -- the letter that is last in the bottom row
  pub last_below : {x y x2 y2 : Letter} → AreLast c x y → AreLast c x2 y2 → y ≡ y2
  last_below {x} {y} {x2} {y2} a b =
      letter_of_name L lawful y y2 a.there b.there
      (same_from_push a.before_bottom b.before_bottom y.name y2.name (sym a.bottom ∙ b.bottom)).1

  -- the letters at the places of a split
  pub ending_unique : {k : ℕ} {s e s2 e2 : Letter} → AreAt c k s e → AreAt c k s2 e2 → e ≡ e2
  ending_unique {k} {s} {e} {s2} {e2} a b = same_Some e e2 (sym a.at_top ∙ b.at_top)

  pub starting_unique : {k : ℕ} {s e s2 e2 : Letter} → AreAt c k s e → AreAt c k s2 e2 → s ≡ s2
  starting_unique {k} {s} {e} {s2} {e2} a b =
      letter_of_name L lawful s s2 a.there b.there (same_Some s.name s2.name (sym a.at_bottom ∙ b.at_bottom))
