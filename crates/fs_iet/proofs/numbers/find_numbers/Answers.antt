-- Each side is given its number.
use Rattle.std.proofs.Common.{refl, arith}
use Rattle.std.proofs.lemmas.Option.{slice_get_within}
use Rattle.fs_gluing.specs.Polygons.{HasSide}
use Rattle.fs_lists.proofs.Items.{item_of}
use Rattle.fs_iet.proofs.BottomNames.{numbered_more}
use Rattle.fs_iet.proofs.Items.{item_holds}
use Rattle.fs_iet.proofs.numbers.find_numbers.Goals as goal

pub set-requires : goal.set-requires
set-requires c =
    c.loop-n.invariant.sides _ (item_holds (HasSide c.args.surface.now.polygons) c.args.outgoing.now c.loop-n.n _ c.requires.there (item_of c.args.outgoing.now c.args.outgoing.now c.loop-n.n _ refl c.loop-n-test.true))

pub loop-n-preserved : goal.loop-n-preserved
loop-n-preserved c = record { sides = λ e h. c.set.ensures.sides e (c.loop-n.invariant.sides e h); numbered = numbered_more c.args.outgoing.now c.loop-n.numbers c.set.new.self c.loop-n.n _ c.requires.once c.loop-n-test.true c.set.ensures.here c.set.ensures.others c.loop-n.invariant.numbered }

pub returns : goal.returns
returns c = record {
  numbers = λ n f e.
      let out = c.loop-n-test.false in
      let inside = slice_get_within c.args.outgoing.now n f e in
      c.loop-n.invariant.numbered n f (omega arith) e;
}
