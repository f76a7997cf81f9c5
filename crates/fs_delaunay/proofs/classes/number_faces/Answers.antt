-- The faces get numbers in order.
use Rattle.std.proofs.Common.{◌≡◌, ◌+◌, [], not, length, sym, ap, ◌∙◌, subst, arith}
use Rattle.fs_delaunay.specs.CellNumbers.{AreNumbered}
use Rattle.fs_delaunay.proofs.CellSearch.{numbered_none, face_passed, numbers_done, number_there, number_read, numbers_below_end}
use Rattle.fs_delaunay.proofs.classes.number_faces.Goals as goal
use Rattle.fs_delaunay.proofs.classes.number_faces.Goals.{then-is_none+in_ok-number_cell, else-is_none}

pub loop-face-init : goal.loop-face-init
loop-face-init c = (
  subst (λ ns. AreNumbered c.args.mesh.now.surface.d c.args.mesh.now.triangles 0 0 0 ns [] 0 0) (sym (c.in_ok-numbers.ensures)) (numbered_none c.faces-faces.result c.faces-faces.ensures.faces),
  omega arith,
)

pub loop-face-preserved : goal.loop-face-preserved
loop-face-preserved c =
    let few = c.loop-face.invariant.1 in
    elim c.if-is_none.branch [
      | then-is_none+in_ok-number_cell w ↦
          let more = w.count-is in (
            subst (λ k. AreNumbered c.args.mesh.now.surface.d c.args.mesh.now.triangles (c.loop-face.face + 1) k k c.if-is_none.numbers.items [] 0 0) (sym w.count-is)
                (subst (λ ns. AreNumbered c.args.mesh.now.surface.d c.args.mesh.now.triangles (c.loop-face.face + 1) (c.loop-face.count + 1) (c.loop-face.count + 1) ns [] 0 0) (sym (ap (λ v. v.items) w.numbers-is)) w.in_ok-number_cell.ensures.after),
            omega (arith, more, few),
          )
      | else-is_none w ↦
          let same = w.count-is in
          let below = numbers_below_end _ _ _ _ _ _ c.loop-face.invariant.0 c.faces-faces.ensures.faces c.loop-face-test.true in
          let r = number_there c.index.result.now (c.is_none.ensures ∙ ap not w.if-is_none.false) in
          let here = number_read c.loop-face.numbers.items c.loop-face.face c.index.result.now below c.index.ensures ∙ r.1 in (
            subst (λ k. AreNumbered c.args.mesh.now.surface.d c.args.mesh.now.triangles (c.loop-face.face + 1) k k c.if-is_none.numbers.items [] 0 0) (sym w.count-is)
                (subst (λ ns. AreNumbered c.args.mesh.now.surface.d c.args.mesh.now.triangles (c.loop-face.face + 1) c.loop-face.count c.loop-face.count ns [] 0 0) (sym (ap (λ v. v.items) w.numbers-is))
                (face_passed c.loop-face.face c.loop-face.count r.0 c.loop-face.numbers.items c.loop-face.invariant.0 here)),
            omega (arith, same, few),
          )
    ]

pub returns-clause-numbers : goal.returns-clause-numbers
returns-clause-numbers c =
    let mesh = c.faces-faces.ensures.mesh in
    let long = c.loop-face.invariant.0.long in
    let faces = c.faces-faces.ensures.faces in
    let past = c.loop-face-test.false in
    let end = c.loop-face.auto.face-end in
    let all : c.loop-face.face ≡ length c.loop-face.numbers.items = omega (arith, long, faces, past, end) in
    numbers_done mesh.surface.radicand mesh.triangulation.triangles c.loop-face.face c.loop-face.count c.loop-face.count c.loop-face.numbers.items c.loop-face.invariant.0 all
