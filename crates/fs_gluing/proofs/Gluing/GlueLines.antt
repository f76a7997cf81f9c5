-- The tests of the glue lines, line by line.
use Rattle.std.proofs.Common.{◌≡◌, ◌≢◌, ℕ, ◌+◌, Option, Some, None, List, [], ◌∷◌, ◌++◌, take, drop, sym, ap, ◌∙◌, refl, subst}
use Rattle.std.proofs.lemmas.List.{take_more}
use Rattle.std.specs.List.{AllByRecursion}
use Rattle.std.specs.Option.{IsSome}
use Rattle.fs_lists.proofs.Items.{IsItem, none_not_some, drop_item}
use Rattle.fs_plane.specs.declared.corners.Corner.{Corner}
use Rattle.fs_plane.specs.Vector.{vector_neg, PlaneVector}
use Rattle.fs_gluing.specs.declared.shapes.Glue.{Glue}
use Rattle.fs_gluing.specs.declared.faults.BuildStop.{BuildStop}
use Rattle.fs_gluing.specs.declared.faults.Fault.TheVariants as faults
use Rattle.fs_gluing.specs.declared.faults.BuildStop.TheVariants as stops
use Rattle.fs_gluing.specs.Polygons.{HasSide, at_side}
use Rattle.fs_gluing.specs.FirstFault.{LineTest, sides_exist, glued_once, sides_opposite, AreOpposite, PassesLine, line_tests, of_line, stop_of}
use Rattle.fs_gluing.specs.Gluing.{ArePartners}
use Rattle.fs_gluing.specs.TestsInOrder.{PassesBefore, IsFirstStop}
use Rattle.fs_gluing.proofs.Base.TestsInOrder.{passes_before_none, passes_before_more, passes_before_same, first_stop_of_rest, first_stop_of_head, first_stop_of_prefix}
use Rattle.fs_gluing.proofs.Gluing.Partners.{listed_has_partner, listed_from_partner}

-- the stop of a test of a glue line
abbrev pub line_stop : LineTest → BuildStop
line_stop test = stop_of (of_line test)

-- a line to read where there is none
abbrev pub no_glue : Glue
no_glue = record { line = 0; one = record { polygon = 0; side = 0 }; two = record { polygon = 0; side = 0 } }

-- ---- one line

module _ (polygons : List (List PlaneVector)) (earlier : List Glue) (g : Glue) where
  -- e is the stop of the first test of the line that fails
  abbrev Stops : BuildStop → Type 0
  Stops e = IsFirstStop (PassesLine polygons) (line_tests earlier (g ∷ [])) line_stop e

  -- a side that doesn't exist gives `NoSuchSide`
  pub absent_fails : ¬ (HasSide polygons g.one × HasSide polygons g.two) → Stops (stops.Fault (faults.NoSuchSide g.line))
  absent_fails absent = first_stop_of_head (PassesLine polygons) (sides_exist g) _ line_stop _ refl absent

  present_then : HasSide polygons g.one × HasSide polygons g.two → PassesBefore (PassesLine polygons) (line_tests earlier (g ∷ [])) (glued_once earlier g ∷ sides_opposite g ∷ [])
  present_then present = record { before = sides_exist g ∷ []; whole = refl; passed = (present, tt) }

  -- a side that is glued again gives `GluedTwice`
  pub twice_fails : HasSide polygons g.one × HasSide polygons g.two → ¬ PassesLine polygons (glued_once earlier g) → Stops (stops.Fault (faults.GluedTwice g.line))
  twice_fails present twice =
      first_stop_of_rest _ _ _ _ _ (present_then present) (first_stop_of_head (PassesLine polygons) (glued_once earlier g) _ line_stop _ refl twice)

  glued_once_then : HasSide polygons g.one × HasSide polygons g.two → PassesLine polygons (glued_once earlier g)
      → PassesBefore (PassesLine polygons) (line_tests earlier (g ∷ [])) (sides_opposite g ∷ [])
  glued_once_then present single = passes_before_more _ _ (glued_once earlier g ∷ []) _ (present_then present) (single, tt)

  -- sides that aren't opposite give `NotOpposite`
  pub opposite_fails : HasSide polygons g.one × HasSide polygons g.two → PassesLine polygons (glued_once earlier g) → ¬ PassesLine polygons (sides_opposite g) → Stops (stops.Fault (faults.NotOpposite g.line))
  opposite_fails present single other =
      first_stop_of_rest _ _ _ _ _ (glued_once_then present single) (first_stop_of_head (PassesLine polygons) (sides_opposite g) _ line_stop _ refl other)

  -- a line passes where its three tests do
  pub line_passes : HasSide polygons g.one × HasSide polygons g.two → PassesLine polygons (glued_once earlier g) → PassesLine polygons (sides_opposite g)
      → AllByRecursion (PassesLine polygons) (line_tests earlier (g ∷ []))
  line_passes present single opposite = (present, (single, (opposite, tt)))

  -- the sides of a line are glued once where they differ and have no partners yet
  pub glued_once_by : (p : Corner → Option Corner) → ArePartners earlier p → g.one ≢ g.two → ¬ IsSome (p g.one) → ¬ IsSome (p g.two) → PassesLine polygons (glued_once earlier g)
  glued_once_by p a differ one two = (differ, (λ h. one (listed_has_partner earlier p g.one a h)), (λ h. two (listed_has_partner earlier p g.two a h)))

  -- where the first side has a partner already, the test fails
  pub one_glued_before : (p : Corner → Option Corner) → ArePartners earlier p → IsSome (p g.one) → ¬ PassesLine polygons (glued_once earlier g)
  one_glued_before p a there single = single.1 (listed_from_partner earlier p g.one a there)

  -- where the second side has a partner already, the test fails
  pub two_glued_before : (p : Corner → Option Corner) → ArePartners earlier p → IsSome (p g.two) → ¬ PassesLine polygons (glued_once earlier g)
  two_glued_before p a there single = single.2 (listed_from_partner earlier p g.two a there)

-- vectors that are read at both sides, the second being the opposite of the first
pub are_opposite : (a b : Option PlaneVector) (v w : PlaneVector) → a ≡ Some v → b ≡ Some w → w ≡ vector_neg v → AreOpposite a b
are_opposite a b v w is_a is_b e = subst (λ o. AreOpposite o b) (sym is_a) (subst (AreOpposite (Some v)) (sym is_b) e)

-- the converse: opposite sides have opposite vectors
pub vectors_opposite : (a b : Option PlaneVector) (v w : PlaneVector) → a ≡ Some v → b ≡ Some w → AreOpposite a b → w ≡ vector_neg v
vectors_opposite a b v w is_a is_b h = let P : Option PlaneVector → Type 0 = AreOpposite (Some v) in subst P is_b (subst (λ o. AreOpposite o b) is_a h)

-- ---- the lines in turn

-- the lines before line i pass, and p gives the partners from them
pub record PassesLinesUpTo (polygons : List (List PlaneVector)) (glues : List Glue) (i : ℕ) (p : Corner → Option Corner) : Type 0 where
  pub passed : PassesBefore (PassesLine polygons) (line_tests [] glues) (line_tests (take i glues) (drop i glues))
  pub partners : ArePartners (take i glues) p

-- before the first line no side has a partner
pub lines_none : (polygons : List (List PlaneVector)) (glues : List Glue) (p : Corner → Option Corner) → ((c : Corner) → p c ≡ None) → PassesLinesUpTo polygons glues 0 p
lines_none polygons glues p none = record {
  passed = passes_before_none _ _ _ refl;
  partners = record { of_lines = tt; only = λ c e is. absurd (let lost : None ≡ Some e = sym (none c) ∙ is in cc) };
}

next_tests : (glues : List Glue) (i : ℕ) (g : Glue) → IsItem glues i g
    → line_tests (take i glues) (drop i glues) ≡ line_tests (take i glues) (g ∷ []) ++ line_tests (take (i + 1) glues) (drop (i + 1) glues)
next_tests glues i g item =
    let rest : drop i glues ≡ g ∷ drop (i + 1) glues = drop_item glues i g item in
    let prefix : take i glues ++ g ∷ [] ≡ take (i + 1) glues = ap (λ h. take i glues ++ h ∷ []) item.is ∙ sym (take_more glues i g item.inside) in
    ap (line_tests (take i glues)) rest ∙ ap (λ (gs : List Glue). line_tests (take i glues) (g ∷ []) ++ line_tests gs (drop (i + 1) glues)) prefix

-- one more line passes
pub lines_more : (polygons : List (List PlaneVector)) (glues : List Glue) (i : ℕ) (g : Glue) (p q : Corner → Option Corner) → IsItem glues i g → PassesLinesUpTo polygons glues i p
    → AllByRecursion (PassesLine polygons) (line_tests (take i glues) (g ∷ [])) → ArePartners (take i glues ++ g ∷ []) q → PassesLinesUpTo polygons glues (i + 1) q
lines_more polygons glues i g p q item l a partners = record {
  passed = passes_before_more _ _ (line_tests (take i glues) (g ∷ [])) _ (passes_before_same _ _ _ _ (next_tests glues i g item) l.passed) a;
  partners = subst (λ gs. ArePartners gs q) (ap (λ h. take i glues ++ h ∷ []) item.is ∙ sym (take_more glues i g item.inside)) partners;
}

-- the next line fails, and its stop is the first of all lines
pub line_fails : (polygons : List (List PlaneVector)) (glues : List Glue) (i : ℕ) (g : Glue) (p : Corner → Option Corner) (e : BuildStop) → IsItem glues i g → PassesLinesUpTo polygons glues i p
    → IsFirstStop (PassesLine polygons) (line_tests (take i glues) (g ∷ [])) line_stop e → IsFirstStop (PassesLine polygons) (line_tests [] glues) line_stop e
line_fails polygons glues i g p e item l a =
    first_stop_of_rest _ _ _ _ _ (passes_before_same _ _ _ _ (next_tests glues i g item) l.passed) (first_stop_of_prefix _ _ _ _ _ a)

-- ---- what holds of all lines

-- what follows from the three tests of a line holds of all lines that pass
pub lines_hold : (polygons : List (List PlaneVector)) (P : Glue → Type 0) → ((earlier : List Glue) (g : Glue) → PassesLine polygons (sides_exist g) → PassesLine polygons (glued_once earlier g) → PassesLine polygons (sides_opposite g) → P g)
    → (earlier glues : List Glue) → AllByRecursion (PassesLine polygons) (line_tests earlier glues) → AllByRecursion P glues
lines_hold polygons P from earlier [] a = tt
lines_hold polygons P from earlier (g ∷ glues) a = (from earlier g a.0 a.1.0 a.1.1.0, lines_hold polygons P from (earlier ++ g ∷ []) glues a.1.1.1)

-- ---- sides that exist, and sides that don't

-- sides whose vectors are read exist
pub sides_exist_by : (polygons : List (List PlaneVector)) (g : Glue) (v w : PlaneVector) → at_side polygons g.one ≡ Some v → at_side polygons g.two ≡ Some w → HasSide polygons g.one × HasSide polygons g.two
sides_exist_by polygons g v w is_one is_two = (subst IsSome (sym is_one) refl, subst IsSome (sym is_two) refl)

-- the first side has no vector
pub absent_one : (polygons : List (List PlaneVector)) (g : Glue) → at_side polygons g.one ≡ None → ¬ (HasSide polygons g.one × HasSide polygons g.two)
absent_one polygons g e h = none_not_some _ e h.0

-- the second side has no vector
pub absent_two : (polygons : List (List PlaneVector)) (g : Glue) → at_side polygons g.two ≡ None → ¬ (HasSide polygons g.one × HasSide polygons g.two)
absent_two polygons g e h = none_not_some _ e h.1
