use Rattle.fs_job.proofs.PolygonNumbers.{texts_of_cut}
use Rattle.fs_job.proofs.points.split_pair.Goals as goal

pub returns : goal.returns
returns c =
    let h = texts_of_cut c.args.word _ c.cut.result c.cut.ensures c.requires in
    rw c.unwrap_or.ensures (record { x = h.0; y = h.1 })
