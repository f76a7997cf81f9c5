-- A parallel vector is along the direction where the signs are the same.
use Rattle.std.proofs.Common.{refl}
use Rattle.fs_components.proofs.AlongSides.{along_parallel, along_across}
use Rattle.fs_components.proofs.along.is_along.Goals as goal

pub returns-then-is_parallel : goal.returns-then-is_parallel
returns-then-is_parallel c =
    along_parallel c.args.field.radicand c.args.v c.args.side c.requires.direction (c.if-is_parallel.ensures.0 refl) c.has_signs_of.result c.has_signs_of.ensures

pub returns-else-is_parallel : goal.returns-else-is_parallel
returns-else-is_parallel c = along_across c.args.field.radicand c.args.v c.args.side c.is_parallel.result c.if-is_parallel.false c.is_parallel.ensures
