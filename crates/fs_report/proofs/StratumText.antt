-- The text of what was found about a surface is the answer to `stratum`.
use Rattle.std.proofs.Common.{◌≡◌, ℕ, true, false, Result, Ok, Err, List, ◌++◌, length, refl, ap, ◌∙◌, subst}
use Rattle.std.specs.Prelude.{codes}
use Rattle.fs_fraction.specs.Fraction.{Fraction}
use Rattle.fs_plane.specs.declared.sites.Site.{Site}
use Rattle.fs_gluing.specs.Surface.{GluedPolygons}
use Rattle.fs_stratum.specs.declared.cones.Cone.{Cone}
use Rattle.fs_stratum.specs.VertexList.{AreVertices, IsGenus, HasGenus}
use Rattle.fs_report.specs.Area.{GivesArea}
use Rattle.fs_report.specs.Orders.{AreOrders}
use Rattle.fs_report.specs.Text.{AnswersStratum, whole, overflowed, stratum_line, stratum_text, vertex_lines, overflow_line}

-- vertices, orders and genus, and the text that names them
abbrev AreSpelled : GluedPolygons → Fraction → List ℕ → Type 0
AreSpelled s area text = (cones : List Cone) × (orders : List ℕ) × (g : ℕ) × AreVertices s cones × AreOrders cones orders × IsGenus s (length cones) g × (text ≡ stratum_text orders g cones area)

-- the line and the lines of vertices are the whole text
pub all_spelled : (s : GluedPolygons) (area : Fraction) (cones : List Cone) (orders orders' : List ℕ) (g : ℕ) (line text : List ℕ) → AreVertices s cones → HasGenus s cones g
    → AreOrders cones orders → orders' ≡ orders → line ≡ stratum_line orders' g (length cones) area → text ≡ line ++ vertex_lines cones → AreSpelled s area text
all_spelled s area cones orders orders' g line text are genus of_cones same_orders first lines = (
  cones,
  orders,
  g,
  are,
  of_cones,
  genus.genus,
  lines ∙ (λ i. (first ∙ ap (λ (ns : List ℕ). stratum_line ns g (length cones) area) same_orders) i ++ vertex_lines cones),
)

-- the text where the area is known
pub whole_answer : (s : GluedPolygons) (result : Result Fraction Site) (area : Fraction) (text : List ℕ) → GivesArea s result → result ≡ Ok area → AreSpelled s area text → AnswersStratum s text false
whole_answer s result area text has is told = whole told.0 told.1 told.2 area told.3 told.4 told.5 (subst (GivesArea s) is has) told.6 refl

-- the text where the area overflows
pub overflowed_answer : (s : GluedPolygons) (result : Result Fraction Site) (site : Site) (text : List ℕ) → GivesArea s result → result ≡ Err site → text ≡ overflow_line (codes "stratum") site → AnswersStratum s text true
overflowed_answer s result site text has is line = overflowed site (subst (GivesArea s) is has) line refl
