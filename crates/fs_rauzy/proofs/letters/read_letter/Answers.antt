-- The parts of a letter.
use Rattle.std.proofs.Common.{refl}
use Rattle.fs_rauzy.proofs.ListsSoFar.{letter_read}
use Rattle.fs_rauzy.proofs.letters.read_letter.Goals as goal

pub returns : goal.returns
returns c = letter_read c.args.exchange.now.component.top c.args.n _ c.requires.inside c.requires.kept.named refl c.length.ensures c.back.ensures c.start_corner.ensures c.start_tag.ensures c.end_tag.ensures
