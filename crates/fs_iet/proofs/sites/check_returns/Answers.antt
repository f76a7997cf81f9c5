-- The return vectors of the outgoing sides, one after another.
use Rattle.std.proofs.Common.{◌≡◌, true, sym, ◌∙◌, refl, Err}
use Rattle.fs_lists.proofs.Items.{item_of}
use Rattle.fs_plane.specs.declared.sites.Site.TheVariants as sites
use Rattle.fs_gluing.specs.Polygons.{HasSide}
use Rattle.fs_quadratic.proofs.SquareRoot.{radicand_no_square}
use Rattle.fs_iet.proofs.Items.{item_holds}
use Rattle.fs_iet.proofs.SiteSums.{returns_more, returns_other, returns_stop}
use Rattle.fs_iet.proofs.sites.check_returns.Goals as goal
use Rattle.fs_iet.proofs.sites.check_returns.Goals.{then-is_outgoing+in_default, else-is_outgoing}

pub returns-in-Err-clause-stops : goal.returns-in-Err-clause-stops
returns-in-Err-clause-stops c =
    returns_stop c.args.surface.now c.args.v c.args.sides.now c.loop-f.f-index _ c.in-Err.field-0 (item_of c.args.sides.now c.args.sides.now c.loop-f.f-index _ refl c.loop-f-test.true)
    (c.is_outgoing.ensures.0 c.if-is_outgoing.true) (sym c.in-Err.is ∙ c.find_return.ensures) c.loop-f.invariant
    ∙ (λ i. Err (sites.Shift (sym c.from.ensures i) (sym c.from-in-Err.ensures i) c.in-Err.field-0.0))

pub loop-f-preserved : goal.loop-f-preserved
loop-f-preserved c =
    let item = item_of c.args.sides.now c.args.sides.now c.loop-f.f-index _ refl c.loop-f-test.true in
    elim c.if-is_outgoing.branch [
      | then-is_outgoing+in_default w ↦
          returns_more c.args.surface.now c.args.v c.args.sides.now c.loop-f.f-index _ w.in_default.field-0 item (c.is_outgoing.ensures.0 w.if-is_outgoing.true) (sym w.in_default.is ∙ w.find_return.ensures) c.loop-f.invariant
      | else-is_outgoing w ↦ returns_other c.args.surface.now c.args.v (radicand_no_square c.field.ensures.surface.radicand) c.args.sides.now c.loop-f.f-index _
          (item_holds (HasSide c.args.surface.now.polygons) c.args.sides.now c.loop-f.f-index _ c.requires.there item) item (λ h. let t : c.is_outgoing.result ≡ true = c.is_outgoing.ensures.1 h in cc) c.loop-f.invariant
    ]
