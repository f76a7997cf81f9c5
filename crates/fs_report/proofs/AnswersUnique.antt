-- A command has one answer about a surface without straight corners, and no other.
use Rattle.std.proofs.Common.{◌≡◌, ℕ, ◌-◌, Bool, false, Result, Ok, Err, List, length, map, refl, sym, ap, ◌∙◌, subst}
use Rattle.std.specs.Prelude.{codes}
use Rattle.fs_lists.proofs.Results.{ok_equal, err_equal, ok_not_err}
use Rattle.fs_fraction.specs.Fraction.{Fraction}
use Rattle.fs_plane.specs.declared.sites.Site.{Site}
use Rattle.fs_gluing.specs.Surface.{GluedPolygons, IsTranslationSurface, IsSurface}
use Rattle.fs_stratum.specs.declared.cones.Cone.{Cone}
use Rattle.fs_stratum.specs.VertexList.{IsGenus}
use Rattle.fs_stratum.proofs.VertexListUnique.{vertex_list_unique, genus_unique}
use Rattle.fs_stratum.proofs.VertexListExists.{vertex_list_exists}
use Rattle.fs_stratum.proofs.GenusExists.{genus_exists}
use Rattle.fs_job.specs.declared.job.Command.{Command}
use Rattle.fs_job.specs.declared.job.Command.TheVariants.{Check, Stratum, Segment, Delaunay, Cells, Saddles, Flow}
use Rattle.fs_job.specs.Reading.{HasDirection}
use Rattle.fs_report.specs.Area.{GivesArea}
use Rattle.fs_report.specs.Orders.{AreOrders}
use Rattle.fs_report.specs.Answers.{Answers, HasCorner}
use Rattle.fs_report.specs.Text.{AnswersStratum, whole, overflowed, stratum_text, overflow_line}
use Rattle.fs_report.proofs.UnscaledArea.{area_unique, area_exists}
use Rattle.fs_report.proofs.SegmentUnique.{segment_unique, segment_exists}
use Rattle.fs_report.proofs.DelaunayUnique.{delaunay_unique, delaunay_exists, cells_unique, cells_exist}
use Rattle.fs_report.proofs.SaddlesUnique.{saddles_unique, saddles_exist}
use Rattle.fs_report.proofs.FlowUnique.{flow_answer_unique, flow_answer_exists}
use Rattle.fs_report.proofs.Descending.{descending_unique, descending_exists}

-- ---- the stratum

-- the text of equal parts
same_text : (cones cones' : List Cone) (orders orders' : List ℕ) (g g' : ℕ) (area area' : Fraction) → cones ≡ cones' → orders ≡ orders' → g ≡ g' → area ≡ area'
    → stratum_text orders g cones area ≡ stratum_text orders' g' cones' area'
same_text cones cones' orders orders' g g' area area' c o e a = λ i. stratum_text (o i) (e i) (c i) (a i)

stratum_unique : (s : GluedPolygons) (m n : List ℕ) (p q : Bool) → IsTranslationSurface s → AnswersStratum s m p → AnswersStratum s n q → (m ≡ n) × (p ≡ q)
stratum_unique s m n p q surface (whole cones orders g area are all genus is text kind) (whole cones' orders' g' area' are' all' genus' is' text' kind') =
    let same = vertex_list_unique s surface cones cones' are are' in
    let as_many = ap (λ (cs : List Cone). length cs) same in
    let same_orders = descending_unique (map (λ cone. cone.k - 1) cones) orders orders' all.descending all'.descending all.all
    (subst (λ (cs : List Cone). AreOrders cs orders') (sym same) all').all in
    let same_genus = genus_unique s (length cones) g g' genus (subst (λ (v : ℕ). IsGenus s v g') (sym as_many) genus') in
    let same_area = ok_equal area area' (area_unique s (Ok area) (Ok area') is is') in
    (text ∙ (same_text cones cones' orders orders' g g' area area' same same_orders same_genus same_area ∙ sym text'), kind ∙ sym kind')
stratum_unique s m n p q surface (whole cones orders g area are all genus is text kind) (overflowed site is' text' kind') =
    absurd (ok_not_err area site (area_unique s (Ok area) (Err site) is is'))
stratum_unique s m n p q surface (overflowed site is text kind) (whole cones orders g area are all genus is' text' kind') =
    absurd (ok_not_err area site (area_unique s (Ok area) (Err site) is' is))
stratum_unique s m n p q surface (overflowed site is text kind) (overflowed site' is' text' kind') =
    (text ∙ (ap (λ (x : Site). overflow_line (codes "stratum") x) (err_equal site site' (area_unique s (Err site) (Err site') is is')) ∙ sym text'), kind ∙ sym kind')

stratum_exists : (s : GluedPolygons) → IsTranslationSurface s → ((text : List ℕ) (partial : Bool) → ¬ AnswersStratum s text partial) → ⊥
stratum_exists s surface none = area_exists s by_area
  where
    by_area : (result : Result Fraction Site) → ¬ GivesArea s result
    by_area (Err site) is = none _ _ (overflowed site is refl refl)
    by_area (Ok area) is = vertex_list_exists s surface (λ cones are.
        let g = genus_exists s surface cones are in
        let orders = descending_exists (map (λ cone. cone.k - 1) cones) in
        none _ _ (whole cones orders.0 g.0 area are (record { descending = orders.1; all = orders.2 }) g.1.genus is refl refl))

-- ---- each command

-- a command has one answer at most
pub answer_unique : (s : GluedPolygons) (budget : ℕ) (command : Command) (m n : List ℕ) (p q : Bool) → IsSurface s → s.straight ≡ false → Answers s budget command m p → Answers s budget command n q → (m ≡ n) × (p ≡ q)
answer_unique s budget Check m n p q surface strict a b = (a.0 ∙ sym b.0, a.1 ∙ sym b.1)
answer_unique s budget Stratum m n p q surface strict a b = stratum_unique s m n p q surface.surface a b
answer_unique s budget (Segment line start v) m n p q surface strict a b = segment_unique s budget start v m n p q a b
answer_unique s budget Delaunay m n p q surface strict a b = delaunay_unique s budget surface strict m n p q a b
answer_unique s budget Cells m n p q surface strict a b = cells_unique s budget surface strict m n p q a b
answer_unique s budget (Saddles limit) m n p q surface strict a b = saddles_unique s budget limit surface strict m n p q a b
answer_unique s budget (Flow v) m n p q surface strict a b = flow_answer_unique s budget v surface a.0 m n p q a.1 b.1

-- a command has an answer, where the surface has the corner that it names, and its direction isn't 0,0
pub answer_exists : (s : GluedPolygons) (budget : ℕ) (command : Command) → IsSurface s → s.straight ≡ false → HasCorner s command → HasDirection command → ((text : List ℕ) (partial : Bool) → ¬ Answers s budget command text partial) → ⊥
answer_exists s budget Check surface strict there some none = none _ _ (refl, refl)
answer_exists s budget Stratum surface strict there some none = stratum_exists s surface.surface none
answer_exists s budget (Segment line start v) surface strict there some none = (let answer = segment_exists s budget start v surface there in none answer.0 answer.1 answer.2)
answer_exists s budget Delaunay surface strict there some none = delaunay_exists s budget surface strict none
answer_exists s budget Cells surface strict there some none = cells_exist s budget surface strict none
answer_exists s budget (Saddles limit) surface strict there some none = saddles_exist s budget limit surface strict none
answer_exists s budget (Flow v) surface strict there some none = flow_answer_exists s budget v surface some (λ text partial answers. none text partial (some, answers))
