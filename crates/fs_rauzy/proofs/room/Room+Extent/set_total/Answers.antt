-- The last extent has another total.
use Rattle.std.proofs.Common.{◌-◌, ◌∷◌, ap, ◌∙◌, arith}
use Rattle.fs_rauzy.specs.declared.rows.Extent.{Extent}
use Rattle.fs_rauzy.proofs.ListsSoFar.{reverse-set_last, last_of_reverse}
use Rattle.fs_rauzy.proofs.room.Room+Extent.set_total.Goals as goal

pub returns-clause-items : goal.returns-clause-items
returns-clause-items c = λ last rest e.
    let long = c.self.inside.items.ok.0 in
    let len = c.len-last.ensures in
    let was = ap (λ r. r.items) c.self.view_is ∙ e in
    let same = last_of_reverse c.self.inside.items.items (c.len-last.result - 1) c.index_mut-extent.result.now last rest (omega arith) was c.index_mut-extent.ensures.value in
    reverse-set_last c.self.inside.items.items (c.len-last.result - 1) (record c.index_mut-extent.result.now { total = c.args.total }) last rest (omega arith) was
    ∙ ap (λ (x : Extent). record x { total = c.args.total } ∷ rest) same
