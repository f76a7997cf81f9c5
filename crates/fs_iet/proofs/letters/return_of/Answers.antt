-- The formula doesn't overflow, and gives the return vector.
use Rattle.std.proofs.Common.{sym, ◌∙◌}
use Rattle.fs_iet.proofs.RowLetters.{return_value, not_ok}
use Rattle.fs_iet.proofs.letters.return_of.Goals as goal

pub unreachable-requires : goal.unreachable-requires
unreachable-requires c = not_ok _ c.in-Err.field-0 (sym c.find_return.ensures ∙ c.in-Err.is) (c.requires.returns c.args.f c.requires.outgoing)

pub returns : goal.returns
returns c = return_value c.args.surface.now c.args.v c.args.f c.in-Ok.back (sym c.find_return.ensures ∙ c.in-Ok.is)
