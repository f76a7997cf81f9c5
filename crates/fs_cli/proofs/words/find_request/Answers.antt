-- One number of a staircase alone.
use Rattle.fs_cli.proofs.Requests.{no_seed_asked, no_rectangles_asked}
use Rattle.fs_cli.proofs.words.find_request.Goals as goal

pub returns-in_default : goal.returns-in_default
returns-in_default c = no_seed_asked c.in_ok-settings.ensures c.in_default.is-0 c.in_default.is-1

pub returns-in_default-2 : goal.returns-in_default-2
returns-in_default-2 c = no_rectangles_asked c.in_ok-settings.ensures c.in_default.is-0 c.in_default.is-1
