-- The last item is another one.
use Rattle.std.proofs.Common.{◌-◌, ap, ◌∙◌, arith}
use Rattle.fs_rauzy.proofs.ListsSoFar.{reverse-set_last}
use Rattle.fs_rauzy.proofs.room.Room.set_last.Goals as goal

pub returns-clause-items : goal.returns-clause-items
returns-clause-items g c = λ last rest e.
    let long = c.self.inside.items.ok.0 in
    let len = c.len-last.ensures in
    reverse-set_last c.self.inside.items.items (c.len-last.result - 1) c.args.item last rest (omega arith) (ap (λ r. r.items) c.self.view_is ∙ e)
