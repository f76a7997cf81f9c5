-- A lawful component takes its positions to its positions, one to one and onto, each by one letter. A library for crates to come.
use Rattle.std.proofs.Common.{◌≡◌, ◌⊎◌, ℕ, List, [], ◌∷◌, refl, sym, ap, ◌∙◌, subst, inl, inr}
use Rattle.fs_lists.specs.Members.{IsIn, IsDistinct}
use Rattle.fs_lists.proofs.Members.{in_map, in_map_cases}
use Rattle.fs_ring.specs.OrderedRing.{IsOrderedRing, IsNonNegative, IsAtMost}
use Rattle.fs_ring.proofs.Order as order
use Rattle.fs_quadratic.specs.Ring.{Quadratic, quadratic, IsPositive, IsLess, add, sub}
use Rattle.fs_convex.proofs.Rows.{Tiles, Holds, tiles_bounds, tile_exists, tile_unique}
use Rattle.fs_gluing.specs.Exchanges.{Letter, Component, IsLawful, names_of, length_of, top_left, bottom_left, Takes}
use Rattle.fs_iet.specs.FirstReturns.{IsBetween}
use Rattle.fs_iet.proofs.Intervals.{tiles_right_is_left, tiles_apart}
use Rattle.fs_iet.proofs.LetterRows.{letter_long, name_long, name_in_top, name_in_bottom, length_of_letter, top_tiles, bottom_tiles}
use Rattle.fs_iet.proofs.ShiftedIntervals.{moved, moved_from_left, moved_before_right, moved_back, moved_one_to_one, moved_left, moved_sub, sub_before, holds_left}

-- y is a position of the component
abbrev pub IsBetweenEnds : ℕ → Component → Quadratic → Type 0
IsBetweenEnds d c y = IsBetween d c.base (add c.base c.total) y

module _ {d : ℕ} (L : IsOrderedRing (quadratic d) (IsPositive d)) {c : Component} (lawful : IsLawful d c) where
  abbrev top_of : Letter → Quadratic
  top_of letter = top_left c letter.name

  abbrev bottom_of : Letter → Quadratic
  bottom_of letter = bottom_left c letter.name

  abbrev HoldsOnTop : Quadratic → Letter → Type 0
  HoldsOnTop y letter = Holds (quadratic d) top_of (λ letter. letter.length) (IsPositive d) y letter

  abbrev HoldsBelow : Quadratic → ℕ → Type 0
  HoldsBelow z name = Holds (quadratic d) (bottom_left c) (length_of c.top) (IsPositive d) z name

  name_of_letter : (letter : Letter) → IsIn letter c.top → IsIn letter.name c.bottom
  name_of_letter letter h = name_in_bottom L lawful letter.name (in_map (λ (l : Letter). l.name) letter c.top h)

  -- letters with one name are one
  pub letter_of_name : (a b : Letter) → IsIn a c.top → IsIn b c.top → a.name ≡ b.name → a ≡ b
  letter_of_name = go c.top lawful.names
    where
      go : (letters : List Letter) → IsDistinct (names_of letters) → (a b : Letter) → IsIn a letters → IsIn b letters → a.name ≡ b.name → a ≡ b
      go [] p a b ha hb e = absurd ha
      go (l ∷ ls) p a b (inl e) (inl f) same = e ∙ sym f
      go (l ∷ ls) p a b (inl e) (inr h) same = absurd (p.0 b.name (in_map (λ (l : Letter). l.name) b ls h) (ap (λ (l : Letter). l.name) (sym e) ∙ same))
      go (l ∷ ls) p a b (inr h) (inl e) same = absurd (p.0 a.name (in_map (λ (l : Letter). l.name) a ls h) (ap (λ (l : Letter). l.name) (sym e) ∙ sym same))
      go (l ∷ ls) p a b (inr h) (inr k) same = go ls p.1 a b h k same

  -- ---- the interval of a letter in each row

  holds_on_top : {letter : Letter} {y z : Quadratic} → Takes d c letter y z → HoldsOnTop y letter
  holds_on_top t = record { from_left = t.from_left; before_right = t.before_right }

  holds_below : {letter : Letter} {y z : Quadratic} → Takes d c letter y z → HoldsBelow z letter.name
  holds_below {letter} {y} {z} t =
      let same = length_of_letter c.top letter lawful.names t.there in
      record {
        from_left = subst (IsAtMost (quadratic d) (IsPositive d) (bottom_of letter)) (sym t.beyond) (moved_from_left L (top_of letter) (bottom_of letter) y t.from_left);
        before_right =
            subst (λ l. IsLess d z (add (bottom_of letter) l)) (sym same)
            (subst (λ w. IsLess d w (add (bottom_of letter) letter.length)) (sym t.beyond) (moved_before_right L (top_of letter) (bottom_of letter) letter.length y t.before_right));
      }

  -- what a letter holds on top it takes somewhere
  pub takes_held : (letter : Letter) (y : Quadratic) → IsIn letter c.top → HoldsOnTop y letter → Takes d c letter y (moved (quadratic d) (top_of letter) (bottom_of letter) y)
  takes_held letter y h k = record { there = h; from_left = k.from_left; before_right = k.before_right; beyond = refl }

  -- a letter takes its left end in the top row to its left end in the bottom row
  pub takes_left_end : (letter : Letter) → IsIn letter c.top → Takes d c letter (top_of letter) (bottom_of letter)
  takes_left_end letter h = record {
    there = h;
    from_left = order.at_most_refl L (top_of letter);
    before_right = holds_left L (top_of letter) letter.length (letter_long L lawful letter h);
    beyond = sym (moved_left L (top_of letter) (bottom_of letter));
  }

  -- and each position that is further left, but not left of that end, as far left
  pub takes_further_left : {letter : Letter} {y z : Quadratic} (e : Quadratic) → Takes d c letter y z → IsNonNegative (quadratic d) (IsPositive d) e
      → IsAtMost (quadratic d) (IsPositive d) (top_of letter) (sub y e) → Takes d c letter (sub y e) (sub z e)
  takes_further_left {letter} {y} {z} e t h k = record {
    there = t.there;
    from_left = k;
    before_right = sub_before L y e (add (top_of letter) letter.length) h t.before_right;
    beyond = ap (λ w. sub w e) t.beyond ∙ moved_sub L (top_of letter) (bottom_of letter) y e;
  }

  -- ---- the map of positions

  within_row : {X : Type 0} (left len : X → Quadratic) (xs : List X) (y : Quadratic) (x : X) → ((u : X) → IsIn u xs → IsPositive d (len u))
      → Tiles (quadratic d) left len c.base xs (add c.base c.total) → IsIn x xs → Holds (quadratic d) left len (IsPositive d) y x → IsBetweenEnds d c y
  within_row left len xs y x long t h k =
      let bounds = (tiles_bounds L left len c.base (add c.base c.total) xs long t).1 x h in
      record {
        from_left = order.at_most_trans L c.base (left x) y bounds.0 k.from_left;
        before_right = order.less_of_less_at_most L y (add (left x) (len x)) (add c.base c.total) k.before_right bounds.1;
      }

  bottom_long : (name : ℕ) → IsIn name c.bottom → IsPositive d (length_of c.top name)
  bottom_long name h = name_long L lawful name (name_in_top L lawful name h)

  -- it takes positions to positions
  pub takes_within : {letter : Letter} {y z : Quadratic} → Takes d c letter y z → IsBetweenEnds d c y × IsBetweenEnds d c z
  takes_within {letter} {y} {z} t = (
    within_row top_of (λ letter. letter.length) c.top y letter (letter_long L lawful) (top_tiles L lawful) t.there (holds_on_top t),
    within_row (bottom_left c) (length_of c.top) c.bottom z letter.name bottom_long (bottom_tiles L lawful) (name_of_letter letter t.there) (holds_below t),
  )

  -- each position is taken somewhere
  pub takes_some : (y : Quadratic) → IsBetweenEnds d c y → (letter : Letter) × (z : Quadratic) × Takes d c letter y z
  takes_some y h =
      let found = tile_exists L top_of (λ letter. letter.length) c.base (add c.base c.total) y c.top (top_tiles L lawful) h.from_left h.before_right in
      (found.0, moved (quadratic d) (top_of found.0) (bottom_of found.0) y, takes_held found.0 y found.1 found.2)

  -- by one letter
  pub takes_by_one_letter : {a b : Letter} {y z w : Quadratic} → Takes d c a y z → Takes d c b y w → a ≡ b
  takes_by_one_letter {a} {b} {y} t u =
      tile_unique L top_of (λ letter. letter.length) c.base (add c.base c.total) y c.top (letter_long L lawful) (top_tiles L lawful) a b t.there u.there (holds_on_top t) (holds_on_top u)

  -- to one position
  pub takes_to_one : {a b : Letter} {y z w : Quadratic} → Takes d c a y z → Takes d c b y w → z ≡ w
  takes_to_one {a} {b} {y} t u =
      t.beyond ∙ ap (λ letter. moved (quadratic d) (top_of letter) (bottom_of letter) y) (takes_by_one_letter t u) ∙ sym u.beyond

  -- each position is one that some position is taken to
  pub takes_onto : (z : Quadratic) → IsBetweenEnds d c z → (letter : Letter) × (y : Quadratic) × Takes d c letter y z
  takes_onto z h =
      let found = tile_exists L (bottom_left c) (length_of c.top) c.base (add c.base c.total) z c.bottom (bottom_tiles L lawful) h.from_left h.before_right in
      let from = in_map_cases (λ (l : Letter). l.name) found.0 c.top (name_in_top L lawful found.0 found.1) in
      let letter = from.0 in
      let y = moved (quadratic d) (bottom_of letter) (top_of letter) z in
      let k : HoldsBelow z letter.name = subst (HoldsBelow z) from.2 found.2 in (
        letter,
        y,
        record {
          there = from.1;
          from_left = moved_from_left L (bottom_of letter) (top_of letter) z k.from_left;
          before_right =
              moved_before_right L (bottom_of letter) (top_of letter) letter.length z
              (subst (λ l. IsLess d z (add (bottom_of letter) l)) (length_of_letter c.top letter lawful.names from.1) k.before_right);
          beyond = sym (moved_back L (top_of letter) (bottom_of letter) z);
        },
      )

  -- by one letter alone
  pub takes_from_one_letter : {a b : Letter} {y x z : Quadratic} → Takes d c a y z → Takes d c b x z → a ≡ b
  takes_from_one_letter {a} {b} {y} {x} {z} t u =
      letter_of_name a b t.there u.there
      (tile_unique L (bottom_left c) (length_of c.top) c.base (add c.base c.total) z c.bottom bottom_long (bottom_tiles L lawful)
      a.name b.name (name_of_letter a t.there) (name_of_letter b u.there) (holds_below t) (holds_below u))

  -- from one position
  pub takes_one_to_one : {a b : Letter} {y x z : Quadratic} → Takes d c a y z → Takes d c b x z → y ≡ x
  takes_one_to_one {a} {b} {y} {x} {z} t u =
      let same = takes_from_one_letter t u in
      moved_one_to_one L (top_of b) (bottom_of b) y x
      (ap (λ letter. moved (quadratic d) (top_of letter) (bottom_of letter) y) (sym same) ∙ sym t.beyond ∙ u.beyond)

  -- ---- left ends

  -- letters with one left end in the top row are one
  pub top_left_one_to_one : (a b : Letter) → IsIn a c.top → IsIn b c.top → top_of a ≡ top_of b → a ≡ b
  top_left_one_to_one a b ha hb e = takes_by_one_letter (takes_left_end a ha) (subst (λ y. Takes d c b y (bottom_of b)) (sym e) (takes_left_end b hb))

  -- and those with one in the bottom row
  pub bottom_left_one_to_one : (a b : Letter) → IsIn a c.top → IsIn b c.top → bottom_of a ≡ bottom_of b → a ≡ b
  bottom_left_one_to_one a b ha hb e = takes_from_one_letter (takes_left_end a ha) (subst (Takes d c b (top_of b)) (sym e) (takes_left_end b hb))

  -- a letter ends where the component ends, or where another begins in the same row
  pub top_right_is_left : (a : Letter) → IsIn a c.top → (add (top_of a) a.length ≡ add c.base c.total) ⊎ ((b : Letter) × IsIn b c.top × (top_of b ≡ add (top_of a) a.length))
  top_right_is_left a h = tiles_right_is_left (quadratic d) top_of (λ letter. letter.length) c.base (add c.base c.total) c.top (top_tiles L lawful) a h

  pub bottom_right_is_left : (a : Letter) → IsIn a c.top → (add (bottom_of a) a.length ≡ add c.base c.total) ⊎ ((b : Letter) × IsIn b c.top × (bottom_of b ≡ add (bottom_of a) a.length))
  bottom_right_is_left a h =
      let same = length_of_letter c.top a lawful.names h in
      elim (tiles_right_is_left (quadratic d) (bottom_left c) (length_of c.top) c.base (add c.base c.total) c.bottom (bottom_tiles L lawful) a.name (name_of_letter a h)) [
        | inl e ↦ inl (ap (add (bottom_of a)) (sym same) ∙ e)
        | inr k ↦
            let named = in_map_cases (λ (l : Letter). l.name) k.0 c.top (name_in_top L lawful k.0 k.1) in
            inr (named.0, named.1, ap (bottom_left c) (sym named.2) ∙ k.2 ∙ ap (add (bottom_of a)) same)
      ]

  -- letters are one, or the one ends before the other begins in the top row
  pub top_apart : (a b : Letter) → IsIn a c.top → IsIn b c.top → (a ≡ b) ⊎ (IsAtMost (quadratic d) (IsPositive d) (add (top_of a) a.length) (top_of b) ⊎ IsAtMost (quadratic d) (IsPositive d) (add (top_of b) b.length) (top_of a))
  top_apart a b ha hb = tiles_apart L top_of (λ letter. letter.length) c.base (add c.base c.total) c.top (letter_long L lawful) (top_tiles L lawful) a b ha hb
