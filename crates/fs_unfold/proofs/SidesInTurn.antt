-- The reflections in the sides of a table and the images of the sides, one after another, up to the first that overflows.
use Rattle.std.proofs.Common.{◌≡◌, ℕ, ◌+◌, Bool, if◌then◌else◌, Ok, Err, List, [], ◌∷◌, ◌++◌, length, map, take, drop, sym, ap, ◌∙◌, subst, arith}
use Rattle.std.proofs.lemmas.List.{take-append-drop, take_more, length-take-le, map-append, length-map}
use Rattle.std.specs.List.{AllByRecursion}
use Rattle.fs_lists.proofs.All.{All-append}
use Rattle.fs_lists.proofs.Items.{IsItem, drop_item}
use Rattle.fs_quadratic.specs.declared.steps.Place.{Place}
use Rattle.fs_plane.specs.declared.sites.Site.TheVariants as sites
use Rattle.fs_gluing.specs.declared.faults.BuildStop.{BuildStop}
use Rattle.fs_gluing.specs.declared.faults.BuildStop.TheVariants as stops
use Rattle.fs_gluing.specs.declared.shapes.Point.{Point}
use Rattle.fs_unfold.specs.declared.matrices.Matrix.{Matrix}
use Rattle.fs_unfold.specs.declared.matrices.Mirror.{Mirror}
use Rattle.fs_unfold.specs.declared.products.TableCopy.{TableCopy}
use Rattle.fs_unfold.specs.Copies.{is_turned, opposite, copy}
use Rattle.fs_unfold.specs.InPlace.{copy_by, OrNoMemory, StopsAtMirror, rows_of, StopsAtSide, StopsAtCopy}
use Rattle.fs_unfold.specs.Matrices.{image, checked_mirror, checked_image}
use Rattle.fs_unfold.specs.Unfolding.{AreMirrors, HaveImages}
use Rattle.fs_unfold.proofs.ComputedMatrices.{image_is}

-- ---- the items before the next one

module _ {X : Type 0} (xs : List X) (i : ℕ) (x : X) (item : IsItem xs i x) where
  -- the items up to item i
  pub up_to_item : take (i + 1) xs ≡ take i xs ++ x ∷ []
  up_to_item = take_more xs i x item.inside ∙ ap (λ y. take i xs ++ y ∷ []) (sym item.is)

  -- all of them
  around_item : xs ≡ take i xs ++ x ∷ drop (i + 1) xs
  around_item = sym (take-append-drop i xs) ∙ ap (λ rest. take i xs ++ rest) (drop_item xs i x item)

  -- as many as its number
  before_item : length (take i xs) ≡ i
  before_item = length-take-le i xs (let l = item.inside in omega (arith, l))

-- ---- reflections

mirrors_append : (d : ℕ) (ps qs : List Point) (rs ss : List Mirror) → AreMirrors d ps rs → AreMirrors d qs ss → AreMirrors d (ps ++ qs) (rs ++ ss)
mirrors_append d [] qs [] ss a b = b
mirrors_append d [] qs (r ∷ rs) ss a b = absurd a
mirrors_append d (p ∷ ps) qs [] ss a b = absurd a
mirrors_append d (p ∷ ps) qs (r ∷ rs) ss a b = (a.0, mirrors_append d ps qs rs ss a.1 b)

module _ (d : ℕ) (table : List Point) (i : ℕ) (p : Point) (item : IsItem table i p) (done : List Mirror) (are : AreMirrors d (take i table) done) where
  -- one reflection more
  pub mirrors_next : (r : Mirror) → checked_mirror d p ≡ Ok r → AreMirrors d (take (i + 1) table) (done ++ r ∷ [])
  mirrors_next r made = subst (λ ps. AreMirrors d ps (done ++ r ∷ [])) (sym (up_to_item table i p item)) (mirrors_append d (take i table) (p ∷ []) done (r ∷ []) are (made, tt))

  -- or the first that overflows
  pub mirror_stops : (stop : Place) → checked_mirror d p ≡ Err stop → StopsAtMirror d table (stops.Overflow (sites.Reflect i stop.0))
  mirror_stops stop fails = record {
    before = take i table;
    point = p;
    after = drop (i + 1) table;
    is = around_item table i p item;
    done = done;
    mirrors = are;
    place = stop;
    overflows = fails;
    at = ap (λ n. stops.Overflow (sites.Reflect n stop.0)) (sym (before_item table i p item));
  }

-- ---- images

-- what a side becomes in a copy
abbrev side_in_copy : ℕ → Bool → Matrix → Point → Point
side_in_copy d turned m p = if turned then opposite (image d m p) else image d m p

-- the images of these sides are computed, and these are what the sides become
pub record HaveSides (d : ℕ) (turned : Bool) (m : Matrix) (points sides : List Point) : Type 0 where
  pub images : HaveImages d points m
  pub are : sides ≡ map (side_in_copy d turned m) points

module _ (d : ℕ) (table : List Point) (k : ℕ) (m : Matrix) (i : ℕ) (p : Point) (item : IsItem table i p) where
  -- one side more
  pub sides_next : (turned : Bool) (sides : List Point) (q s : Point) → HaveSides d turned m (take i table) sides → checked_image d m p ≡ Ok q → s ≡ (if turned then opposite q else q)
      → HaveSides d turned m (take (i + 1) table) (sides ++ s ∷ [])
  sides_next turned sides q s h made is =
      subst (λ ps. HaveSides d turned m ps (sides ++ s ∷ [])) (sym (up_to_item table i p item))
      (record {
        images = All-append _ (take i table) (p ∷ []) h.images ((q, made), tt);
        are = (λ j. h.are j ++ (is ∙ ap (λ y. if turned then opposite y else y) (image_is d m p q made)) j ∷ []) ∙ sym (map-append (side_in_copy d turned m) (take i table) (p ∷ []));
      })

  -- or the first that overflows
  pub side_stops : (stop : Place) → HaveImages d (take i table) m → checked_image d m p ≡ Err stop → StopsAtSide d table k m (stops.Overflow (sites.Copy k i stop.0))
  side_stops stop images fails = record {
    before = take i table;
    point = p;
    after = drop (i + 1) table;
    is = around_item table i p item;
    images = images;
    place = stop;
    overflows = fails;
    at = ap (λ n. stops.Overflow (sites.Copy k n stop.0)) (sym (before_item table i p item));
  }

-- ---- copies

-- the copies under these products are made
pub record HaveCopies (d : ℕ) (table : List Point) (products : List TableCopy) (copies : List (List Point)) : Type 0 where
  pub images : AllByRecursion (HaveImages d table) (rows_of products)
  pub are : copies ≡ map (copy d table) (rows_of products)

module _ (d : ℕ) (table : List Point) (products : List TableCopy) (k : ℕ) (c : TableCopy) (item : IsItem products k c) (copies : List (List Point)) (have : HaveCopies d table (take k products) copies) where
  rows_next : rows_of (take (k + 1) products) ≡ rows_of (take k products) ++ c.rows ∷ []
  rows_next = ap rows_of (up_to_item products k c item) ∙ map-append (λ (x : TableCopy). x.rows) (take k products) (c ∷ [])

  -- one copy more
  pub copies_next : (sides : List Point) → c.turned ≡ is_turned d c.rows → HaveImages d table c.rows → sides ≡ copy_by d c.turned c.rows table → HaveCopies d table (take (k + 1) products) (copies ++ sides ∷ [])
  copies_next sides turned images is = record {
    images = subst (AllByRecursion (HaveImages d table)) (sym rows_next) (All-append _ (rows_of (take k products)) (c.rows ∷ []) have.images (images, tt));
    are =
        (λ j. have.are j ++ (is ∙ ap (λ t. copy_by d t c.rows table) turned) j ∷ [])
        ∙ sym (map-append (copy d table) (rows_of (take k products)) (c.rows ∷ []))
        ∙ ap (map (copy d table)) (sym rows_next);
  }

  -- or the first of which a side overflows
  copy_stops : (n : ℕ) (stop : BuildStop) → n ≡ k → StopsAtSide d table n c.rows stop → StopsAtCopy d table (rows_of products) stop
  copy_stops n stop same at = record {
    earlier = rows_of (take k products);
    matrix = c.rows;
    later = rows_of (drop (k + 1) products);
    is = ap rows_of (around_item products k c item) ∙ map-append (λ (x : TableCopy). x.rows) (take k products) (c ∷ drop (k + 1) products);
    images = have.images;
    side = subst (λ l. StopsAtSide d table l c.rows stop) (same ∙ sym (before_item products k c item) ∙ sym (length-map (take k products) (λ (x : TableCopy). x.rows))) at;
  }

  -- or memory runs out
  pub copy_stops_or_no_memory : (n : ℕ) (stop : BuildStop) → n ≡ k → OrNoMemory (StopsAtSide d table n c.rows) stop → OrNoMemory (StopsAtCopy d table (rows_of products)) stop
  copy_stops_or_no_memory n stops.NoMemory same h = tt
  copy_stops_or_no_memory n (stops.Fault fault) same h = copy_stops n (stops.Fault fault) same h
  copy_stops_or_no_memory n (stops.Overflow site) same h = copy_stops n (stops.Overflow site) same h
