use Rattle.std.proofs.Common.{length}
use Rattle.fs_cli.proofs.words.+read_options.Given as goal

-- an option takes a word or two
abbrev pub decreases-read_options : goal.decreases-read_options
decreases-read_options l = length l.words.now
