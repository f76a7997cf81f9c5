use Rattle.std.proofs.Common.{[], ◌∷◌}
use Rattle.std.proofs.lemmas.Bool.Decides.{Decides-eqb}
use Rattle.std.proofs.lemmas.Slice.Eq.{strip_suffix_is}
use Rattle.fs_job.proofs.TextLines.{drops_return}
use Rattle.fs_job.proofs.lines.without_return.Goals as goal

pub returns : goal.returns
returns c = drops_return c.args.line c.unwrap_or.result c.strip_suffix.result (strip_suffix_is Decides-eqb c.args.line.now (13 ∷ []) c.strip_suffix.result c.strip_suffix.ensures.cases) c.unwrap_or.ensures
