use Rattle.std.proofs.Common.{◌∙◌}
use Rattle.fs_cli.proofs.CallWrites.{writes_along}
use Rattle.fs_cli.proofs.answering.stop_at.Goals as goal

pub returns : goal.returns
returns g c = writes_along _ _ _ _ _ _ _ _ (c.as_bytes.ensures.value ∙ c.in-Ok.ensures) c.write_text.ensures
