-- What is read of a side of a surface is what its gluing by names has.
use Rattle.std.proofs.Common.{◌≡◌, ℕ, List, Option, None, Some, IsSome, IfSome, Result, sym, ap, ◌∙◌, subst}
use Rattle.fs_plane.specs.declared.corners.Corner.{Corner}
use Rattle.fs_plane.specs.Vector.{PlaneVector}
use Rattle.fs_gluing.specs.declared.surfaces.Side.{Side}
use Rattle.fs_gluing.specs.Polygons.{at_side, HasSide}
use Rattle.fs_gluing.specs.NextCorner.{side_before}
use Rattle.fs_gluing.specs.Surface.{GluedPolygons}
use Rattle.fs_gluing.specs.SurfaceSides.{partner, partner_or, vector_of, vector_or, polygon_sides}
use Rattle.fs_gluing.proofs.SurfaceCalls.NextCorner.{has_before}
use Rattle.fs_quadratic.specs.declared.steps.Place.{Place}
use Rattle.fs_develop.specs.declared.entering.Entry.{Entry}
use Rattle.fs_develop.specs.Entering.{enter}
use Rattle.fs_develop.specs.declared.looking.Finding.{Finding}
use Rattle.fs_develop.specs.declared.spots.Spot.{Spot}
use Rattle.fs_develop.specs.Looking.{look}
use Rattle.fs_develop.specs.Following.{first_entry, next_finding}

vector_in : (o : Option Side) (x : PlaneVector) → IsSome o → IfSome o (λ side. x ≡ side.vector) → x ≡ vector_or o
vector_in None x h e = cc
vector_in (Some side) x h e = e

-- the vector of a side
pub vector_read : (polygons : List (List Side)) (c : Corner) (x : PlaneVector) → HasSide polygons c → IfSome (at_side polygons c) (λ side. x ≡ side.vector) → x ≡ vector_of polygons c
vector_read polygons c x h e = vector_in (at_side polygons c) x h e

partner_in : (c : Corner) (o : Option Side) (x : Corner) → IsSome o → IfSome o (λ side. x ≡ side.partner) → x ≡ partner_or c o
partner_in c None x h e = cc
partner_in c (Some side) x h e = e

-- the partner of a side
pub partner_read : (polygons : List (List Side)) (c x : Corner) → HasSide polygons c → IfSome (at_side polygons c) (λ side. x ≡ side.partner) → x ≡ partner polygons c
partner_read polygons c x h e = partner_in c (at_side polygons c) x h e

-- how a path begins at a corner is found from the vectors that are read
pub entry_read : (s : GluedPolygons) (d : ℕ) (c before : Corner) (v outgoing incoming : PlaneVector) (entry : Result Entry Place) → HasSide s.polygons c → d ≡ s.d → before ≡ side_before s.polygons c
    → IfSome (at_side s.polygons c) (λ side. outgoing ≡ side.vector) → IfSome (at_side s.polygons before) (λ side. incoming ≡ side.vector) → entry ≡ enter d outgoing incoming v
    → first_entry s.d (polygon_sides s.polygons) v c ≡ entry
entry_read s d c before v outgoing incoming entry h same back out into e =
    let one = vector_read s.polygons c outgoing h out in
    let two = vector_read s.polygons (side_before s.polygons c) incoming (has_before s.polygons c h) (subst (λ b. IfSome (at_side s.polygons b) (λ side. incoming ≡ side.vector)) back into) in
    sym (e ∙ ap (λ n. enter n outgoing incoming v) same ∙ ap (λ x. enter s.d x incoming v) one ∙ ap (λ x. enter s.d (vector_of s.polygons c) x v) two)

-- what a path finds is found from the vector that is read
pub finding_read : (s : GluedPolygons) (d : ℕ) (at : Spot) (v side : PlaneVector) (found : Result Finding Place) → HasSide s.polygons at.side → d ≡ s.d
    → IfSome (at_side s.polygons at.side) (λ read. side ≡ read.vector) → found ≡ look at.corners d v at.from side → next_finding s.d (polygon_sides s.polygons) v at ≡ found
finding_read s d at v side found h same is e =
    sym (e ∙ ap (λ n. look at.corners n v at.from side) same ∙ ap (λ u. look at.corners s.d v at.from u) (vector_read s.polygons at.side side h is))
