-- One twin is written.
use Rattle.std.proofs.Common.{refl}
use Rattle.std.proofs.lemmas.List.{map-set}
use Rattle.std.proofs.Math.Seq.{map-set_same}
use Rattle.fs_mesh.proofs.arena.link.Goals as goal

pub returns-clause-vectors : goal.returns-clause-vectors
returns-clause-vectors c = map-set_same (λ h. h.vector) c.args.half_edges.now c.args.at _ c.index-half_edges-at.result refl

pub returns-clause-twins : goal.returns-clause-twins
returns-clause-twins c = map-set (λ h. h.twin) c.args.half_edges.now c.args.at _

pub returns-clause-homes : goal.returns-clause-homes
returns-clause-homes c = map-set_same (λ h. h.home) c.args.half_edges.now c.args.at _ c.index-half_edges-at.result refl

pub returns-clause-nexts : goal.returns-clause-nexts
returns-clause-nexts c = map-set_same (λ h. h.next) c.args.half_edges.now c.args.at _ c.index-half_edges-at.result refl
