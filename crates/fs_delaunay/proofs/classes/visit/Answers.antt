-- The half-edges of the face are crossed one after another.
use Rattle.std.proofs.Common.{◌≡◌, ◌+◌, ◌*◌, ◌/◌, ◌≤◌, Some, subst, arith}
use Rattle.fs_delaunay.specs.CellNumbers.{number_of, AreNumbered}
use Rattle.fs_delaunay.proofs.CellNumbers.{get_none, get_more, face_done}
use Rattle.fs_delaunay.proofs.classes.visit.Goals as goal

pub loop-h-init : goal.loop-h-init
loop-h-init c = (get_none _ _, λ n a. a)

pub loop-h-preserved : goal.loop-h-preserved
loop-h-preserved c = (
  get_more _ _ _ _ _ _ c.loop-h.invariant.0 c.in_ok-cross.ensures.numbers,
  (λ n a. c.in_ok-cross.ensures.crossed n (3 * c.args.face + 3) (c.loop-h.invariant.1 n a)),
)

pub cross-requires-clause-numbered : goal.cross-requires-clause-numbered
cross-requires-clause-numbered c =
    let from = c.loop-h.auto.h in
    let to = c.loop-h-test.true in
    let e : c.args.face ≡ c.loop-h.h / 3 = omega (arith, from, to) in
    subst (λ x. number_of c.loop-h.numbers.items x ≡ Some c.args.number) e (c.loop-h.invariant.0.kept c.args.face c.args.number c.requires.numbered)

pub returns-clause-visited : goal.returns-clause-visited
returns-clause-visited c =
    let past = c.loop-h-test.false in
    let end : c.loop-h.h ≤ 3 * c.args.face + 3 = c.loop-h.auto.h-end (omega arith) in
    let e : c.loop-h.h ≡ 3 * c.args.face + 3 = omega (arith, past, end) in
    λ n a.
    face_done n c.args.number (c.args.number + 1) c.loop-h.numbers.items c.loop-h.waiting.items (3 * c.args.face + 3)
    (subst (λ h. AreNumbered c.args.mesh.now.surface.d c.args.mesh.now.triangles n c.args.number (c.args.number + 1) c.loop-h.numbers.items c.loop-h.waiting.items h (3 * c.args.face + 3)) e (c.loop-h.invariant.1 n a))
