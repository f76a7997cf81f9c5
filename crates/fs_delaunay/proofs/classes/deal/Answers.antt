-- The faces are dealt out in order.
use Rattle.std.proofs.Common.{◌≡◌, ◌+◌, Some, None, sym, ap, ◌∙◌, subst}
use Rattle.fs_delaunay.specs.CellNumbers.{AreDealt}
use Rattle.fs_delaunay.proofs.CellLists.{list_there, dealt_more}
use Rattle.fs_delaunay.proofs.classes.deal.Goals as goal
use Rattle.fs_delaunay.proofs.classes.deal.Goals.{in-Some+in_ok-add-in-Some, in-None}

pub add-requires : goal.add-requires
add-requires c = list_there c.args.numbers.now c.loop-face.face c.in-Some.number c.loop-face.cells.items c.loop-face.invariant c.in-Some.is c.requires.order

pub loop-face-preserved : goal.loop-face-preserved
loop-face-preserved c =
    elim c.match-number.branch [
      | in-Some+in_ok-add-in-Some w ↦
          subst (AreDealt c.args.numbers.now (c.loop-face.face + 1)) (sym (ap (λ v. v.items) w.cells-is))
          (dealt_more c.args.numbers.now c.loop-face.face w.in-Some.number c.loop-face.cells.items _ c.loop-face.invariant w.in-Some.is c.requires.order w.in_ok-add-in-Some.ensures.next w.in_ok-add-in-Some.ensures.longer)
      | in-None w ↦
          let r = c.requires.each c.loop-face.face c.loop-face-test.true in
          absurd (let both : Some r.0 ≡ None = sym r.1 ∙ w.in-None.is in cc)
    ]
