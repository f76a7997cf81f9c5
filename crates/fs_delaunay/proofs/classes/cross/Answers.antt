-- A half-edge whose edge doesn't join its faces, or whose twin's face has a number, is passed; else that face gets this number.
use Rattle.std.proofs.Common.{◌≡◌, ◌+◌, ◌/◌, true, false, Some, set, sym, ◌∙◌, subst}
use Rattle.fs_delaunay.specs.CellNumbers.{GetNumbers, JoinsFaces}
use Rattle.fs_delaunay.proofs.CellNumbers.{get_number}
use Rattle.fs_delaunay.proofs.CellSearch.{crossed_apart, crossed_seen, crossed_new_at, number_there, number_missing, number_read, face_across_below}
use Rattle.fs_delaunay.specs.CellNumbers.{number_of}
use Rattle.fs_delaunay.proofs.classes.cross.Goals as goal

pub returns-then-not-joins_faces-clause-crossed : goal.returns-then-not-joins_faces-clause-crossed
returns-then-not-joins_faces-clause-crossed c = λ n to a.
    crossed_apart c.requires.mesh.surface.radicand c.requires.mesh.triangulation.triangles n c.args.number (c.args.number + 1) c.args.numbers.now.items c.args.waiting.now.items c.args.h to
    (λ e. let both : true ≡ false = sym (c.joins_faces.ensures.1 e) ∙ c.if-not-joins_faces.true in cc) a

pub returns-then-is_some-clause-crossed : goal.returns-then-is_some-clause-crossed
returns-then-is_some-clause-crossed c =
    let below = face_across_below c.args.mesh.now.triangles c.args.numbers.now.items c.twin-other.result c.requires.long c.twin-other.ensures.there in
    let r = number_there c.index.result.now (sym c.is_some.ensures ∙ c.if-is_some.true) in
    let there = number_read c.args.numbers.now.items (c.twin-other.result / 3) c.index.result.now below c.index.ensures ∙ r.1 in
    λ n to a.
    crossed_seen c.requires.mesh.surface.radicand c.requires.mesh.triangulation.triangles n c.args.number (c.args.number + 1) r.0 c.args.numbers.now.items c.args.waiting.now.items c.args.h to c.requires.numbered
    (subst (λ g. number_of c.args.numbers.now.items (g / 3) ≡ Some r.0) c.twin-other.ensures.twin there) a

pub returns-clause-numbers : goal.returns-clause-numbers
returns-clause-numbers c =
    let below = face_across_below c.args.mesh.now.triangles c.args.numbers.now.items c.twin-other.result c.requires.long c.twin-other.ensures.there in
    let fresh = number_read c.args.numbers.now.items (c.twin-other.result / 3) c.index.result.now below c.index.ensures ∙ number_missing c.index.result.now (sym c.is_some.ensures ∙ c.if-is_some.false) in
    subst (GetNumbers c.args.numbers.now.items (set c.args.numbers.now.items (c.twin-other.result / 3) (Some c.args.number)) c.args.waiting.now.items) (sym c.in_ok-push.ensures.items)
    (get_number c.args.numbers.now.items (c.twin-other.result / 3) c.args.number below fresh c.args.waiting.now.items)

pub returns-clause-crossed : goal.returns-clause-crossed
returns-clause-crossed c =
    let below = face_across_below c.args.mesh.now.triangles c.args.numbers.now.items c.twin-other.result c.requires.long c.twin-other.ensures.there in
    let fresh = number_read c.args.numbers.now.items (c.twin-other.result / 3) c.index.result.now below c.index.ensures ∙ number_missing c.index.result.now (sym c.is_some.ensures ∙ c.if-is_some.false) in
    let joins : JoinsFaces c.args.mesh.now.surface.d c.args.mesh.now.triangles c.args.h = record { there = c.requires.there; zero = c.joins_faces.ensures.0 c.if-not-joins_faces.false } in
    λ n to a.
    crossed_new_at c.requires.mesh.surface.radicand c.requires.mesh.triangulation.triangles n c.args.number c.args.numbers.now.items c.args.waiting.now.items _ c.args.h to c.twin-other.result
    c.twin-other.ensures.twin joins c.requires.numbered below fresh c.in_ok-push.ensures.items a
