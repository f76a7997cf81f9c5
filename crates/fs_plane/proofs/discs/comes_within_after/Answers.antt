use Rattle.fs_plane.proofs.Segments.{comes_within_given}
use Rattle.fs_plane.proofs.discs.comes_within_after.Goals as goal

pub returns-clause-meaning : goal.returns-clause-meaning
returns-clause-meaning c =
    comes_within_given c.args.field.radicand c.args.p c.args.q c.args.bound c.args.before c.test_segment.result c.test_segment.ensures
