use Rattle.fs_fraction.proofs.Spellings.{spelling_reads}
use Rattle.fs_fraction.proofs.number.print_number.Goals as goal

pub returns-clause-spells : goal.returns-clause-spells
returns-clause-spells c = spelling_reads _ c.args.x c.in_ok-spelling.ensures.fits c.in_ok-spelling.ensures.lowest c.in_ok-spelling.ensures.spelled
