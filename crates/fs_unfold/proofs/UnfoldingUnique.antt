-- The unfolding of a table ends in one way at most.
use Rattle.std.proofs.Common.{◌≡◌, ℕ, zero, suc, ◌+◌, ◌-◌, ◌<◌, Bool, true, false, if◌then◌else◌, Result, Ok, Err, Some, List, [], ◌∷◌, ◌++◌, length, map, refl, sym, ap, ◌∙◌, subst, arith}
use Rattle.std.specs.List.{AllByRecursion, slice_get}
use Rattle.fs_lists.specs.First.{IsFirstWithout}
use Rattle.fs_lists.specs.Members.{IsDistinct}
use Rattle.fs_lists.proofs.First.{first_unique, first_not_all}
use Rattle.fs_lists.proofs.Results.{ok_not_err, err_equal}
use Rattle.fs_quadratic.specs.declared.steps.Place.{Place}
use Rattle.fs_plane.specs.declared.corners.Corner.{Corner}
use Rattle.fs_plane.specs.declared.sites.Site.TheVariants as sites
use Rattle.fs_gluing.specs.declared.faults.BuildStop.{BuildStop}
use Rattle.fs_gluing.specs.declared.faults.BuildStop.TheVariants as stops
use Rattle.fs_gluing.specs.declared.shapes.Glue.{Glue}
use Rattle.fs_gluing.specs.declared.shapes.Point.{Point}
use Rattle.fs_gluing.specs.declared.shapes.Shape.{Shape}
use Rattle.fs_gluing.specs.FirstFault.{Test, PassesOf, stop_of}
use Rattle.fs_gluing.specs.Polygons.{all_sides}
use Rattle.fs_unfold.specs.declared.matrices.Matrix.{Matrix}
use Rattle.fs_unfold.specs.declared.matrices.Mirror.{Mirror}
use Rattle.fs_unfold.specs.Copies.{is_turned, copy, side_number, IsPair, AreLines, no_side, earlier, later}
use Rattle.fs_unfold.specs.Matrices.{times, checked_mirror, checked_image}
use Rattle.fs_unfold.specs.Products.{AreProducts}
use Rattle.fs_unfold.specs.Unfolding.{alone, table_tests, table_stop, PassesAlone, AreMirrors, HaveImages, IsNextProduct, EndsUnfolding, table_fails, mirror_overflows, product_overflows, too_large, copy_overflows, unfolded}
use Rattle.fs_unfold.proofs.ComputedMatrices.{mirrors_are}
use Rattle.fs_unfold.proofs.ProductLists.{same_some, get_inside, get_in, listed_once}
use Rattle.fs_unfold.proofs.ProductsUnique.{IsStop, overflow, full, stop_unique, no_stop_when_whole, products_unique}
use Rattle.fs_unfold.proofs.TableTests.{three_sides}

-- ---- lists of which each item has a property, up to the first that hasn't

module _ {X : Type 0} where
  -- what comes before two items, each of which is the first without a property, is the same
  same_split : (P Q : X → Type 0) → ((x : X) → P x → Q x → ⊥) → (xs ys cs ds : List X) (x y : X) → xs ++ x ∷ cs ≡ ys ++ y ∷ ds → AllByRecursion P xs → AllByRecursion P ys → Q x → Q y
      → (xs ≡ ys) × (x ≡ y)
  same_split P Q apart [] [] cs ds x y e a b p q = (refl, (let h : x ≡ y = cc in h))
  same_split P Q apart [] (z ∷ ys) cs ds x y e a b p q = absurd (apart z b.0 (subst Q (let h : x ≡ z = cc in h) p))
  same_split P Q apart (z ∷ xs) [] cs ds x y e a b p q = absurd (apart z a.0 (subst Q (let h : y ≡ z = cc in h) q))
  same_split P Q apart (z ∷ xs) (w ∷ ys) cs ds x y e a b p q =
      let rest : xs ++ x ∷ cs ≡ ys ++ y ∷ ds = cc in
      let head : z ≡ w = cc in
      let same = same_split P Q apart xs ys cs ds x y rest a.1 b.1 p q in
      ((λ i. head i ∷ same.0 i), same.1)

  -- no item is without the property where all have it
  no_split : (P Q : X → Type 0) → ((x : X) → P x → Q x → ⊥) → (all xs cs : List X) (x : X) → all ≡ xs ++ x ∷ cs → AllByRecursion P all → Q x → ⊥
  no_split P Q apart all xs cs x e a q = by xs (subst (AllByRecursion P) e a)
    where
      by : (xs : List X) → AllByRecursion P (xs ++ x ∷ cs) → ⊥
      by [] a = apart x a.0 q
      by (z ∷ xs) a = by xs a.1

-- ---- reflections

module _ (d : ℕ) where
  abbrev HasMirror : Point → Type 0
  HasMirror p = (r : Mirror) × (checked_mirror d p ≡ Ok r)

  abbrev HasNoMirror : Point → Type 0
  HasNoMirror p = (stop : Place) × (checked_mirror d p ≡ Err stop)

  not_both_mirror : (p : Point) → HasMirror p → HasNoMirror p → ⊥
  not_both_mirror p a b = ok_not_err a.0 b.0 (sym a.1 ∙ b.1)

  have_mirrors : (table : List Point) (rs : List Mirror) → AreMirrors d table rs → AllByRecursion HasMirror table
  have_mirrors [] rs h = tt
  have_mirrors (p ∷ table) [] h = absurd h
  have_mirrors (p ∷ table) (r ∷ rs) h = ((r, h.0), have_mirrors table rs h.1)

  mirrors_same : (table : List Point) (rs qs : List Mirror) → AreMirrors d table rs → AreMirrors d table qs → rs ≡ qs
  mirrors_same table rs qs a b = mirrors_are d table rs a ∙ sym (mirrors_are d table qs b)

  -- there are as many as sides
  pub mirrors_length : (table : List Point) (rs : List Mirror) → AreMirrors d table rs → length rs ≡ length table
  mirrors_length [] [] h = refl
  mirrors_length [] (r ∷ rs) h = absurd h
  mirrors_length (p ∷ table) [] h = absurd h
  mirrors_length (p ∷ table) (r ∷ rs) h = ap suc (mirrors_length table rs h.1)

  pub some_mirrors : (table : List Point) (rs : List Mirror) → PassesAlone d table → AreMirrors d table rs → 0 < length rs
  some_mirrors table rs passes are =
      let three = three_sides d table passes in
      let same = mirrors_length table rs are in
      omega (arith, three, same)

  -- ---- images

  abbrev HasImage : Matrix → Point → Type 0
  HasImage m p = (q : Point) × (checked_image d m p ≡ Ok q)

  abbrev HasNoImage : Matrix → Point → Type 0
  HasNoImage m p = (stop : Place) × (checked_image d m p ≡ Err stop)

  not_both_image : (m : Matrix) (p : Point) → HasImage m p → HasNoImage m p → ⊥
  not_both_image m p a b = ok_not_err a.0 b.0 (sym a.1 ∙ b.1)

  -- a matrix under which a side of the table has no image
  record LacksImage (table : List Point) (m : Matrix) : Type 0 where
    pub before : List Point
    pub point : Point
    pub after : List Point
    pub is : table ≡ before ++ point ∷ after
    pub lacks : HasNoImage m point

  not_lacking : (table : List Point) (m : Matrix) → HaveImages d table m → LacksImage table m → ⊥
  not_lacking table m have l = no_split (HasImage m) (HasNoImage m) (not_both_image m) table l.before l.after l.point l.is have l.lacks

  -- ---- glue lines

  module _ (n : ℕ) (rs : List Mirror) (list : List Matrix) (count : length rs ≡ n) (once : IsDistinct list) where
    number_injective : (m : Matrix) (i j : ℕ) → i < n → j < n → side_number d n m i ≡ side_number d n m j → i ≡ j
    number_injective m i j li lj e = by (is_turned d m) e
      where
        by : (t : Bool) → (if t then n - (i + 1) else i) ≡ (if t then n - (j + 1) else j) → i ≡ j
        by true e = omega (arith, li, lj, e)
        by false e = e

    index_unique : (xs : List Matrix) (k l : ℕ) (x : Matrix) → IsDistinct xs → slice_get xs k ≡ Some x → slice_get xs l ≡ Some x → k ≡ l
    index_unique [] k l x apart a b = absurd cc
    index_unique (y ∷ xs) zero zero x apart a b = refl
    index_unique (y ∷ xs) zero (suc l) x apart a b = absurd (apart.0 x (get_in xs l x b) (let h : y ≡ x = cc in h))
    index_unique (y ∷ xs) (suc k) zero x apart a b = absurd (apart.0 x (get_in xs k x a) (let h : y ≡ x = cc in h))
    index_unique (y ∷ xs) (suc k) (suc l) x apart a b = ap suc (index_unique xs k l x apart.1 a b)

    corner_equal : (c e : Corner) → c.polygon ≡ e.polygon → c.side ≡ e.side → c ≡ e
    corner_equal c e p q = λ i. record { polygon = p i; side = q i }

    -- a side has one partner
    pub pair_unique : (c e f : Corner) → IsPair d n rs list c e → IsPair d n rs list c f → e ≡ f
    pair_unique c e f a b =
        let em = same_some (slice_get list c.polygon) a.from b.from a.from_there b.from_there in
        let la : a.side < n = (let l = get_inside rs a.side a.mirror a.of_side in omega (arith, l, count)) in
        let lb : b.side < n = (let l = get_inside rs b.side b.mirror b.of_side in omega (arith, l, count)) in
        let es = number_injective b.from a.side b.side la lb ((λ t. side_number d n (sym em t) a.side) ∙ sym a.number_one ∙ b.number_one) in
        let er = same_some (slice_get rs b.side) a.mirror b.mirror (ap (slice_get rs) (sym es) ∙ a.of_side) b.of_side in
        let et : times d a.from a.mirror ≡ times d b.from b.mirror = λ t. times d (em t) (er t) in
        let polygon = index_unique list e.polygon f.polygon (times d b.from b.mirror) once (a.to_there ∙ ap Some et) b.to_there in
        corner_equal e f polygon (a.number_two ∙ (λ t. side_number d n (et t) (es t)) ∙ sym b.number_two)

    abbrev Paired : Corner → Corner → Type 0
    Paired = IsPair d n rs list

    heads : (c b : Corner) (xs ys : List Corner) → c ∷ xs ≡ b ∷ ys → (c ≡ b) × (xs ≡ ys)
    heads c b xs ys e = ((let h : c ≡ b = cc in h), (let h : xs ≡ ys = cc in h))

    one_polygon : (c b e f : Corner) → c ≡ b → Paired c e → Paired b f → e ≡ f
    one_polygon c b e f same p q = pair_unique b e f (subst (λ x. Paired x e) same p) q

    -- so there is one list of lines
    lines_unique : (sides others : List Corner) (xs ys : List Glue) → AreLines Paired sides xs → AreLines Paired others ys → sides ≡ others → xs ≡ ys
    lines_unique _ _ _ _ no_side no_side s = refl
    lines_unique _ _ _ _ no_side (earlier b f others ys q m h) s = absurd cc
    lines_unique _ _ _ _ no_side (later b f others ys q m h) s = absurd cc
    lines_unique _ _ _ _ (earlier c e sides xs p l a) no_side s = absurd cc
    lines_unique _ _ _ _ (later c e sides xs p l a) no_side s = absurd cc
    lines_unique _ _ _ _ (earlier c e sides xs p l a) (earlier b f others ys q m h) s =
        let t = heads c b sides others s in
        let same = one_polygon c b e f t.0 p q in
        let rest = lines_unique sides others xs ys a h t.1 in
        λ i. record { line = 0; one = t.0 i; two = same i } ∷ rest i
    lines_unique _ _ _ _ (earlier c e sides xs p l a) (later b f others ys q m h) s =
        let t = heads c b sides others s in
        let same = ap (λ (x : Corner). x.polygon) (one_polygon c b e f t.0 p q) in
        let at = ap (λ (x : Corner). x.polygon) t.0 in
        absurd (omega (arith, l, m, same, at))
    lines_unique _ _ _ _ (later c e sides xs p l a) (earlier b f others ys q m h) s =
        let t = heads c b sides others s in
        let same = ap (λ (x : Corner). x.polygon) (one_polygon c b e f t.0 p q) in
        let at = ap (λ (x : Corner). x.polygon) t.0 in
        absurd (omega (arith, l, m, same, at))
    lines_unique _ _ _ _ (later c e sides xs p l a) (later b f others ys q m h) s = lines_unique sides others xs ys a h (heads c b sides others s).1

-- ---- ends

module _ (d : ℕ) (table : List Point) where
  -- the table fails, or passes
  not_passing : (test : Test) → IsFirstWithout (PassesOf d (alone table)) (table_tests table) test → PassesAlone d table → ⊥
  not_passing test f passes = first_not_all (PassesOf d (alone table)) (table_tests table) test f passes

  -- a reflection overflows, or none does
  no_mirrors : (before after : List Point) (p : Point) (stop : Place) (rs : List Mirror) → table ≡ before ++ p ∷ after → checked_mirror d p ≡ Err stop → AreMirrors d table rs → ⊥
  no_mirrors before after p stop rs e f are = no_split (HasMirror d) (HasNoMirror d) (not_both_mirror d) table before after p e (have_mirrors d table rs are) (stop, f)

  -- with these reflections a product stops, or all are listed
  next_of : (rs qs : List Mirror) (list : List Matrix) (g i : ℕ) (r : Result Matrix Place) → rs ≡ qs → IsNextProduct d rs list g i r → IsNextProduct d qs list g i r
  next_of rs qs list g i r e n = subst (λ xs. IsNextProduct d xs list g i r) e n

  not_whole : (rs qs : List Mirror) (list xs : List Matrix) (g i : ℕ) (r : Result Matrix Place) → PassesAlone d table → AreMirrors d table rs → AreMirrors d table qs → AreProducts d qs list
      → IsNextProduct d rs xs g i r → IsStop xs r → ⊥
  not_whole rs qs list xs g i r passes a b are n s = no_stop_when_whole d qs (some_mirrors d table qs passes b) list xs g i r are (next_of rs qs xs g i r (mirrors_same d table rs qs a b) n) s

  one_stop : (rs qs : List Mirror) (xs ys : List Matrix) (g i h j : ℕ) (r s : Result Matrix Place) → AreMirrors d table rs → AreMirrors d table qs → IsNextProduct d rs xs g i r → IsNextProduct d qs ys h j s
      → IsStop xs r → IsStop ys s → (g ≡ h) × (i ≡ j) × (xs ≡ ys) × (r ≡ s)
  one_stop rs qs xs ys g i h j r s a b m n p q = stop_unique d qs xs ys g i h j r s (next_of rs qs xs g i r (mirrors_same d table rs qs a b) m) n p q

  one_list : (rs qs : List Mirror) (xs ys : List Matrix) → PassesAlone d table → AreMirrors d table rs → AreMirrors d table qs → AreProducts d rs xs → AreProducts d qs ys → xs ≡ ys
  one_list rs qs xs ys passes a b p q =
      products_unique d qs (some_mirrors d table qs passes b) xs ys (subst (λ zs. AreProducts d zs xs) (mirrors_same d table rs qs a b) p) q

  -- a copy overflows, or none does
  lacking : (before after : List Point) (p : Point) (m : Matrix) (stop : Place) → table ≡ before ++ p ∷ after → checked_image d m p ≡ Err stop → LacksImage d table m
  lacking before after p m stop e f = record { before = before; point = p; after = after; is = e; lacks = (stop, f) }

  -- two ends are one
  pub unfolding_unique : (x y : Result Shape BuildStop) → EndsUnfolding d table x → EndsUnfolding d table y → x ≡ y
  unfolding_unique _ _ (table_fails t f) (table_fails u g) = ap (λ z. Err (table_stop (stop_of z))) (first_unique (PassesOf d (alone table)) (table_tests table) t u f g)
  unfolding_unique _ _ (table_fails t f) (mirror_overflows before after p rs stop passes e are over) = absurd (not_passing t f passes)
  unfolding_unique _ _ (table_fails t f) (product_overflows rs list g i stop passes are next) = absurd (not_passing t f passes)
  unfolding_unique _ _ (table_fails t f) (too_large rs list g i n passes are next new all) = absurd (not_passing t f passes)
  unfolding_unique _ _ (table_fails t f) (copy_overflows rs es ls m before after p stop passes are products have e images over) = absurd (not_passing t f passes)
  unfolding_unique _ _ (table_fails t f) (unfolded rs list shape passes are products have copies lines strict) = absurd (not_passing t f passes)
  unfolding_unique _ _ (mirror_overflows before after p rs stop passes e are over) (table_fails t f) = absurd (not_passing t f passes)
  unfolding_unique _ _ (mirror_overflows before after p rs stop passes e are over) (mirror_overflows before' after' p' rs' stop' passes' e' are' over') =
      let same = same_split (HasMirror d) (HasNoMirror d) (not_both_mirror d) before before' after after' p p' (sym e ∙ e') (have_mirrors d before rs are) (have_mirrors d before' rs' are') (stop, over) (stop', over') in
      let place = err_equal stop stop' (sym over ∙ ap (checked_mirror d) same.1 ∙ over') in
      λ i. Err (stops.Overflow (sites.Reflect (length (same.0 i)) (place i).0))
  unfolding_unique _ _ (mirror_overflows before after p rs stop passes e are over) (product_overflows qs list g i stop' passes' are' next) = absurd (no_mirrors before after p stop qs e over are')
  unfolding_unique _ _ (mirror_overflows before after p rs stop passes e are over) (too_large qs list g i n passes' are' next new all) = absurd (no_mirrors before after p stop qs e over are')
  unfolding_unique _ _ (mirror_overflows before after p rs stop passes e are over) (copy_overflows qs es ls m before' after' p' stop' passes' are' products have e' images over') = absurd (no_mirrors before after p stop qs e over are')
  unfolding_unique _ _ (mirror_overflows before after p rs stop passes e are over) (unfolded qs list shape passes' are' products have copies lines strict) = absurd (no_mirrors before after p stop qs e over are')
  unfolding_unique _ _ (product_overflows rs list g i stop passes are next) (table_fails t f) = absurd (not_passing t f passes)
  unfolding_unique _ _ (product_overflows rs list g i stop passes are next) (mirror_overflows before after p qs stop' passes' e are' over) = absurd (no_mirrors before after p stop' rs e over are)
  unfolding_unique _ _ (product_overflows rs xs g i stop passes are next) (product_overflows qs ys h j stop' passes' are' next') =
      let same = one_stop rs qs xs ys g i h j (Err stop) (Err stop') are are' next next' (overflow stop) (overflow stop') in
      let place = err_equal stop stop' same.3 in
      λ t. Err (stops.Overflow (sites.Product (same.0 t) (same.1 t) (place t).0))
  unfolding_unique _ _ (product_overflows rs xs g i stop passes are next) (too_large qs ys h j n passes' are' next' new all) =
      absurd (ok_not_err n stop (sym (one_stop rs qs xs ys g i h j (Err stop) (Ok n) are are' next next' (overflow stop) (full n new all)).3))
  unfolding_unique _ _ (product_overflows rs xs g i stop passes are next) (copy_overflows qs es ls m before after p stop' passes' are' products have e images over) =
      absurd (not_whole rs qs (es ++ m ∷ ls) xs g i (Err stop) passes are are' products next (overflow stop))
  unfolding_unique _ _ (product_overflows rs xs g i stop passes are next) (unfolded qs list shape passes' are' products have copies lines strict) =
      absurd (not_whole rs qs list xs g i (Err stop) passes are are' products next (overflow stop))
  unfolding_unique _ _ (too_large rs xs g i n passes are next new all) (table_fails t f) = absurd (not_passing t f passes)
  unfolding_unique _ _ (too_large rs xs g i n passes are next new all) (mirror_overflows before after p qs stop passes' e are' over) = absurd (no_mirrors before after p stop rs e over are)
  unfolding_unique _ _ (too_large rs xs g i n passes are next new all) (product_overflows qs ys h j stop passes' are' next') =
      absurd (ok_not_err n stop (one_stop rs qs xs ys g i h j (Ok n) (Err stop) are are' next next' (full n new all) (overflow stop)).3)
  unfolding_unique _ _ (too_large rs xs g i n passes are next new all) (too_large qs ys h j n' passes' are' next' new' all') = refl
  unfolding_unique _ _ (too_large rs xs g i n passes are next new all) (copy_overflows qs es ls m before after p stop' passes' are' products have e images over) =
      absurd (not_whole rs qs (es ++ m ∷ ls) xs g i (Ok n) passes are are' products next (full n new all))
  unfolding_unique _ _ (too_large rs xs g i n passes are next new all) (unfolded qs list shape passes' are' products have copies lines strict) =
      absurd (not_whole rs qs list xs g i (Ok n) passes are are' products next (full n new all))
  unfolding_unique _ _ (copy_overflows rs es ls m before after p stop passes are products have e images over) (table_fails t f) = absurd (not_passing t f passes)
  unfolding_unique _ _ (copy_overflows rs es ls m before after p stop passes are products have e images over) (mirror_overflows before' after' p' qs stop' passes' e' are' over') =
      absurd (no_mirrors before' after' p' stop' rs e' over' are)
  unfolding_unique _ _ (copy_overflows rs es ls m before after p stop passes are products have e images over) (product_overflows qs ys h j stop' passes' are' next') =
      absurd (not_whole qs rs (es ++ m ∷ ls) ys h j (Err stop') passes are' are products next' (overflow stop'))
  unfolding_unique _ _ (copy_overflows rs es ls m before after p stop passes are products have e images over) (too_large qs ys h j n passes' are' next' new all) =
      absurd (not_whole qs rs (es ++ m ∷ ls) ys h j (Ok n) passes are' are products next' (full n new all))
  unfolding_unique _ _ (copy_overflows rs es ls m before after p stop passes are products have e images over) (copy_overflows qs es' ls' m' before' after' p' stop' passes' are' products' have' e' images' over') =
      let whole = one_list rs qs (es ++ m ∷ ls) (es' ++ m' ∷ ls') passes are are' products products' in
      let split = same_split (HaveImages d table) (LacksImage d table) (not_lacking d table) es es' ls ls' m m' whole have have' (lacking before after p m stop e over) (lacking before' after' p' m' stop' e' over') in
      let inner = same_split (HasImage d m) (HasNoImage d m) (not_both_image d m) before before' after after' p p' (sym e ∙ e') images (subst (λ x. HaveImages d before' x) (sym split.1) images') (stop, over)
      (stop', (λ t. checked_image d (split.1 t) p') ∙ over') in
      let place = err_equal stop stop' (sym over ∙ (λ t. checked_image d (split.1 t) (inner.1 t)) ∙ over') in
      λ t. Err (stops.Overflow (sites.Copy (length (split.0 t)) (length (inner.0 t)) (place t).0))
  unfolding_unique _ _ (copy_overflows rs es ls m before after p stop passes are products have e images over) (unfolded qs list shape passes' are' products' have' copies lines strict) =
      let whole = one_list rs qs (es ++ m ∷ ls) list passes are are' products products' in
      absurd (no_split (HaveImages d table) (LacksImage d table) (not_lacking d table) list es ls m (sym whole) have' (lacking before after p m stop e over))
  unfolding_unique _ _ (unfolded rs list shape passes are products have copies lines strict) (table_fails t f) = absurd (not_passing t f passes)
  unfolding_unique _ _ (unfolded rs list shape passes are products have copies lines strict) (mirror_overflows before after p qs stop passes' e are' over) = absurd (no_mirrors before after p stop rs e over are)
  unfolding_unique _ _ (unfolded rs list shape passes are products have copies lines strict) (product_overflows qs ys h j stop passes' are' next) =
      absurd (not_whole qs rs list ys h j (Err stop) passes are' are products next (overflow stop))
  unfolding_unique _ _ (unfolded rs list shape passes are products have copies lines strict) (too_large qs ys h j n passes' are' next new all) =
      absurd (not_whole qs rs list ys h j (Ok n) passes are' are products next (full n new all))
  unfolding_unique _ _ (unfolded rs list shape passes are products have copies lines strict) (copy_overflows qs es ls m before after p stop passes' are' products' have' e images over) =
      let whole = one_list qs rs (es ++ m ∷ ls) list passes are' are products' products in
      absurd (no_split (HaveImages d table) (LacksImage d table) (not_lacking d table) list es ls m (sym whole) have (lacking before after p m stop e over))
  unfolding_unique _ _ (unfolded rs list shape passes are products have copies lines strict) (unfolded qs list' shape' passes' are' products' have' copies' lines' strict') =
      let whole = one_list rs qs list list' passes are are' products products' in
      let polygons : shape.polygons ≡ shape'.polygons = copies ∙ ap (λ ms. map (copy d table) ms) whole ∙ sym copies' in
      let rs_same = mirrors_same d table rs qs are are' in
      let moved : AreLines (IsPair d (length table) qs list') (all_sides shape.polygons) shape.glues = subst (λ xs. AreLines (IsPair d (length table) qs xs) (all_sides shape.polygons) shape.glues) whole
      (subst (λ zs. AreLines (IsPair d (length table) zs list) (all_sides shape.polygons) shape.glues) rs_same lines) in
      let glues = lines_unique d (length table) qs list' (mirrors_length d table qs are') (listed_once list' (length list') 0 products') (all_sides shape.polygons) (all_sides shape'.polygons) shape.glues shape'.glues moved lines'
      (ap (λ ps. all_sides ps) polygons) in
      λ t. Ok (record { polygons = polygons t; glues = glues t; straight = (strict ∙ sym strict') t })
