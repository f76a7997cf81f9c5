use Rattle.fs_plane.proofs.Sectors.{sector_of_formula}
use Rattle.fs_plane.proofs.formulas.in_sector.Goals as goal

pub returns-clause-sector : goal.returns-clause-sector
returns-clause-sector c =
    sector_of_formula c.args.field.radicand 0 c.args.out c.args.incoming c.args.v c.test_sector.result c.test_sector.ensures
