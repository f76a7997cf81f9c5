-- The entry is found from the two sides at the corner.
use Rattle.std.proofs.Common.{◌∙◌, sym, Ok, Err}
use Rattle.fs_develop.proofs.SurfaceReads.{entry_read}
use Rattle.fs_develop.proofs.following.begin.Goals as goal

pub returns-in-Ok : goal.returns-in-Ok
returns-in-Ok c =
    entry_read c.args.surface.now c.field.result.d c.args.start c.side_before.result c.args.v c.side-outgoing.result c.side-incoming.result (Ok c.in-Ok.entry)
    c.requires c.field.ensures.field c.side_before.ensures c.side-outgoing.ensures c.side-incoming.ensures (sym c.in-Ok.is ∙ c.enter.ensures)

pub returns-in-Err : goal.returns-in-Err
returns-in-Err c = (
  c.in-Err.field-0,
  entry_read c.args.surface.now c.field.result.d c.args.start c.side_before.result c.args.v c.side-outgoing.result c.side-incoming.result (Err c.in-Err.field-0)
      c.requires c.field.ensures.field c.side_before.ensures c.side-outgoing.ensures c.side-incoming.ensures (sym c.in-Err.is ∙ c.enter.ensures),
  search,
)
