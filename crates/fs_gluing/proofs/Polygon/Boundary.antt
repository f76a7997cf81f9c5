-- The positions of the corners along the boundary of a polygon, side by side, and that it closes.
use Rattle.std.proofs.Common.{◌≡◌, ◌≢◌, ℕ, Bool, ◌+◌, ◌-◌, ◌<◌, List, [], ◌∷◌, ◌++◌, length, get_or, take, drop, sym, ap, ◌∙◌, refl, subst, arith, append_assoc}
use Rattle.std.proofs.lemmas.List.{take_more, take_all, drop_more, drop_all, append-nil}
use Rattle.std.specs.List.{AllByRecursion, flat_map, range_with_len}
use Rattle.fs_lists.proofs.Items.{IsItem}
use Rattle.fs_lists.proofs.Ranges.{range_more, range_none}
use Rattle.fs_quadratic.specs.Ring.{Quadratic, add}
use Rattle.fs_quadratic.specs.Width.{Fits}
use Rattle.fs_plane.specs.declared.sites.Site.{Site}
use Rattle.fs_plane.specs.declared.corners.Corner.{Corner}
use Rattle.fs_plane.specs.declared.sites.Site.TheVariants as sites
use Rattle.fs_plane.specs.Vector.{vector_zero, vector_add, vector_total, vector_total_from, PlaneVector}
use Rattle.fs_gluing.specs.declared.faults.BuildStop.{BuildStop}
use Rattle.fs_gluing.specs.declared.faults.Fault.TheVariants as faults
use Rattle.fs_gluing.specs.declared.faults.BuildStop.TheVariants as stops
use Rattle.fs_gluing.specs.Convex.{corner_position}
use Rattle.fs_gluing.specs.Positions.{positions_from}
use Rattle.fs_gluing.specs.FirstFault.{PolygonTest, x_fits, y_fits, polygon_closes, PassesIn, position_tests, of_polygon, stop_of}
use Rattle.fs_gluing.specs.TestsInOrder.{PassesBefore, IsFirstStop}
use Rattle.fs_gluing.proofs.Base.TestsInOrder.{passes_before_none, passes_before_more, passes_before_same, all_from_passes_before, first_stop_of_rest, first_stop_of_head}

-- the tests of the positions, and the test that the polygon closes
abbrev pub closing_tests : List PlaneVector → List PolygonTest
closing_tests sides = position_tests (length sides) ++ polygon_closes ∷ []

-- these tests from side j on
abbrev pub tests_after : List PlaneVector → ℕ → List PolygonTest
tests_after sides j = flat_map (λ k. x_fits k ∷ y_fits k ∷ []) (range_with_len j (length sides - j)) ++ polygon_closes ∷ []

-- the tests of the positions at the ends of these sides, and the test that the polygon closes
abbrev tests_over : List ℕ → List PolygonTest
tests_over js = flat_map (λ k. x_fits k ∷ y_fits k ∷ []) js ++ polygon_closes ∷ []

tests_after-none : (sides : List PlaneVector) → closing_tests sides ≡ tests_after sides 0
tests_after-none sides =
    let e : length sides ≡ length sides - 0 = omega arith in
    ap (λ n. tests_over (range_with_len 0 n)) e

tests_after-more : (sides : List PlaneVector) (j : ℕ) → j < length sides → tests_after sides j ≡ x_fits j ∷ y_fits j ∷ tests_after sides (j + 1)
tests_after-more sides j l = ap tests_over (range_more j (length sides) l)

tests_after-all : (sides : List PlaneVector) → tests_after sides (length sides) ≡ polygon_closes ∷ []
tests_after-all sides = ap tests_over (range_none (length sides))

vector_total_from-push : (a : PlaneVector) (vs : List PlaneVector) (v : PlaneVector) → vector_total_from a (vs ++ v ∷ []) ≡ vector_add (vector_total_from a vs) v
vector_total_from-push a [] v = refl
vector_total_from-push a (b ∷ bs) v = vector_total_from-push (vector_add a b) bs v

-- corner j is at this position, the corners before it are at these positions, and the tests of the sides before it pass
pub record HasPositionsUpTo (sides : List PlaneVector) (j : ℕ) (position : PlaneVector) (positions : List PlaneVector) : Type 0 where
  pub position_is : position ≡ corner_position sides j
  pub positions_are : positions ++ positions_from position (drop j sides) ≡ positions_from vector_zero sides
  pub passed : (straight : Bool) (d : ℕ) → PassesBefore (PassesIn straight d sides) (closing_tests sides) (tests_after sides j)

-- the next position
position_after_is : (sides : List PlaneVector) (j : ℕ) (position : PlaneVector) (side : PlaneVector) (positions : List PlaneVector) → IsItem sides j side → HasPositionsUpTo sides j position positions → corner_position sides (j + 1) ≡ vector_add position side
position_after_is sides j position side positions item w =
    ap vector_total (take_more sides j side item.inside)
    ∙ vector_total_from-push vector_zero (take j sides) (get_or sides j side)
    ∙ ap (λ v. vector_add (corner_position sides j) v) (sym item.is)
    ∙ ap (λ p. vector_add p side) (sym w.position_is)

at_side_tests : (straight : Bool) (d : ℕ) (sides : List PlaneVector) (j : ℕ) (position : PlaneVector) (positions : List PlaneVector) → j < length sides → HasPositionsUpTo sides j position positions
    → PassesBefore (PassesIn straight d sides) (closing_tests sides) (x_fits j ∷ y_fits j ∷ tests_after sides (j + 1))
at_side_tests straight d sides j position positions l w = passes_before_same _ _ _ _ (tests_after-more sides j l) (w.passed straight d)

-- corner 0 is at (0,0)
pub positions_none : (sides : List PlaneVector) (positions : List PlaneVector) → positions ≡ [] → HasPositionsUpTo sides 0 vector_zero positions
positions_none sides positions none = record {
  position_is = refl;
  positions_are = ap (λ (ps : List PlaneVector). ps ++ positions_from vector_zero sides) none;
  passed = λ straight d. passes_before_none _ _ _ (tests_after-none sides);
}

-- one more position
pub positions_more : (sides : List PlaneVector) (j : ℕ) (position side : PlaneVector) (positions positions' : List PlaneVector) → IsItem sides j side → HasPositionsUpTo sides j position positions → positions' ≡ positions ++ position ∷ []
    → (a b : PlaneVector) → a ≡ position → b ≡ side → (x y : Quadratic) → Fits (add a.x b.x) → x ≡ add a.x b.x → Fits (add a.y b.y) → y ≡ add a.y b.y → HasPositionsUpTo sides (j + 1) (record { x = x; y = y }) positions'
positions_more sides j position side positions positions' item w more a b a_is b_is x y a_fits_x a_is_x a_fits_y a_is_y =
    let fits_x : Fits (add position.x side.x) = subst Fits (λ i. add (a_is i).x (b_is i).x) a_fits_x in
    let fits_y : Fits (add position.y side.y) = subst Fits (λ i. add (a_is i).y (b_is i).y) a_fits_y in
    let is_x : x ≡ add position.x side.x = a_is_x ∙ (λ i. add (a_is i).x (b_is i).x) in
    let is_y : y ≡ add position.y side.y = a_is_y ∙ (λ i. add (a_is i).y (b_is i).y) in
    let is = position_after_is sides j position side positions item w in
    let next : ◌≡◌ {A = PlaneVector} (record { x = x; y = y }) (vector_add position side) = ap (λ z. record { x = z; y = y }) is_x ∙ ap (λ z. record { x = add position.x side.x; y = z }) is_y in
    record {
      position_is = next ∙ sym is;
      positions_are = ap (λ (ps : List PlaneVector). ps ++ positions_from (record { x = x; y = y }) (drop (j + 1) sides)) more
          ∙ append_assoc positions (position ∷ []) (positions_from (record { x = x; y = y }) (drop (j + 1) sides))
          ∙ ap (λ (p : PlaneVector). positions ++ (position ∷ positions_from p (drop (j + 1) sides))) next
          ∙ ap (λ (s : PlaneVector). positions ++ (position ∷ positions_from (vector_add position s) (drop (j + 1) sides))) item.is
          ∙ ap (λ (ss : List PlaneVector). positions ++ positions_from position ss) (sym (drop_more sides j side item.inside))
          ∙ w.positions_are;
      passed = λ straight d. passes_before_more _ _ (x_fits j ∷ y_fits j ∷ []) _ (at_side_tests straight d sides j position positions item.inside w)
          (subst (λ (p : PlaneVector). Fits p.x) (sym is) fits_x, (subst (λ (p : PlaneVector). Fits p.y) (sym is) fits_y, tt));
    }

-- the stop of a test of polygon i
abbrev pub polygon_stop : ℕ → List PlaneVector → PolygonTest → BuildStop
polygon_stop i sides test = stop_of (of_polygon i sides test)

-- x of the next position overflows
pub x_fails : (i : ℕ) (sides : List PlaneVector) (j : ℕ) (position side : PlaneVector) (positions : List PlaneVector) → IsItem sides j side → HasPositionsUpTo sides j position positions
    → (a b : PlaneVector) → a ≡ position → b ≡ side → ¬ Fits (add a.x b.x) → (c : Corner) → c ≡ record { polygon = i; side = j } → (site : Site) → site ≡ sites.Close c.polygon c.side 1
    → (straight : Bool) (d : ℕ) → IsFirstStop (PassesIn straight d sides) (closing_tests sides) (polygon_stop i sides) (stops.Overflow site)
x_fails i sides j position side positions item w a b a_is b_is fails c c_is site is straight d =
    first_stop_of_rest _ _ _ _ _ (at_side_tests straight d sides j position positions item.inside w)
    (first_stop_of_head (PassesIn straight d sides) (x_fits j) _ (polygon_stop i sides) _ (ap (λ s. stops.Overflow s) is ∙ ap (λ (k : Corner). stops.Overflow (sites.Close k.polygon k.side 1)) c_is)
    (λ fits. fails (subst Fits (sym (λ k. add (a_is k).x (b_is k).x)) (subst (λ (p : PlaneVector). Fits p.x) (position_after_is sides j position side positions item w) fits))))

-- y of the next position overflows
pub y_fails : (i : ℕ) (sides : List PlaneVector) (j : ℕ) (position side : PlaneVector) (positions : List PlaneVector) → IsItem sides j side → HasPositionsUpTo sides j position positions
    → (a b : PlaneVector) → a ≡ position → b ≡ side → Fits (add a.x b.x) → ¬ Fits (add a.y b.y) → (c : Corner) → c ≡ record { polygon = i; side = j } → (site : Site) → site ≡ sites.Close c.polygon c.side 2
    → (straight : Bool) (d : ℕ) → IsFirstStop (PassesIn straight d sides) (closing_tests sides) (polygon_stop i sides) (stops.Overflow site)
y_fails i sides j position side positions item w a b a_is b_is fits_x fails c c_is site is straight d =
    let next = position_after_is sides j position side positions item w in
    let passes : Fits (add position.x side.x) = subst Fits (λ k. add (a_is k).x (b_is k).x) fits_x in
    first_stop_of_rest _ _ _ _ _
    (passes_before_more _ _ (x_fits j ∷ []) _ (at_side_tests straight d sides j position positions item.inside w) (subst (λ (p : PlaneVector). Fits p.x) (sym next) passes, tt))
    (first_stop_of_head (PassesIn straight d sides) (y_fits j) _ (polygon_stop i sides) _ (ap (λ s. stops.Overflow s) is ∙ ap (λ (k : Corner). stops.Overflow (sites.Close k.polygon k.side 2)) c_is)
    (λ fits. fails (subst Fits (sym (λ k. add (a_is k).y (b_is k).y)) (subst (λ (p : PlaneVector). Fits p.y) next fits))))

-- after all sides only the test that the polygon closes is left
positions_all : (sides : List PlaneVector) (n : ℕ) (position : PlaneVector) (positions : List PlaneVector) → n ≡ length sides → HasPositionsUpTo sides n position positions
    → (position ≡ vector_total sides) × ((straight : Bool) (d : ℕ) → PassesBefore (PassesIn straight d sides) (closing_tests sides) (polygon_closes ∷ []))
positions_all sides n position positions e w = (
  w.position_is ∙ ap vector_total (take_all n sides (omega (arith, e))),
  λ straight d. passes_before_same _ _ _ _ (ap (tests_after sides) e ∙ tests_after-all sides) (w.passed straight d),
)

-- the last position isn't (0,0): the polygon doesn't close
pub closes_fails : (i : ℕ) (sides : List PlaneVector) (n : ℕ) (position : PlaneVector) (positions : List PlaneVector) → n ≡ length sides → HasPositionsUpTo sides n position positions → position ≢ vector_zero
    → (straight : Bool) (d : ℕ) → IsFirstStop (PassesIn straight d sides) (closing_tests sides) (polygon_stop i sides) (stops.Fault (faults.NotClosed i))
closes_fails i sides n position positions e w fails straight d =
    let a = positions_all sides n position positions e w in
    first_stop_of_rest _ _ _ _ _ (a.1 straight d)
    (first_stop_of_head (PassesIn straight d sides) polygon_closes [] (polygon_stop i sides) _ refl (λ closes. fails (a.0 ∙ closes)))

-- the last position is (0,0): all tests pass
pub closes : (sides : List PlaneVector) (n : ℕ) (position : PlaneVector) (positions : List PlaneVector) → n ≡ length sides → HasPositionsUpTo sides n position positions → position ≡ vector_zero
    → (straight : Bool) (d : ℕ) → AllByRecursion (PassesIn straight d sides) (closing_tests sides)
closes sides n position positions e w closed straight d =
    let a = positions_all sides n position positions e w in
    all_from_passes_before _ _ (passes_before_more _ _ (polygon_closes ∷ []) [] (a.1 straight d) (sym a.0 ∙ closed, tt))

-- after all sides the list has all positions
pub positions_complete : (sides : List PlaneVector) (n : ℕ) (position : PlaneVector) (positions : List PlaneVector) → n ≡ length sides → HasPositionsUpTo sides n position positions → positions ≡ positions_from vector_zero sides
positions_complete sides n position positions e w =
    sym (append-nil positions) ∙ ap (λ (ss : List PlaneVector). positions ++ positions_from position ss) (sym (drop_all n sides (omega (arith, e)))) ∙ w.positions_are
