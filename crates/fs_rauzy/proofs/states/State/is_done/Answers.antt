-- No component is open where there is no extent.
use Rattle.std.proofs.Common.{ap, sym, ◌∙◌}
use Rattle.fs_rauzy.specs.States.{StateValue}
use Rattle.fs_rauzy.proofs.OpenedRows.{none_opened}
use Rattle.fs_rauzy.proofs.states.State.is_done.Goals as goal

pub returns : goal.returns
returns c =
    let is = ap (λ (x : StateValue). x.components) c.self.view_is in
    let none = none_opened c.self.inside.letters.items c.self.inside.top.items c.self.inside.bottom.items c.self.inside.extents.items in
    (λ h. sym is ∙ none.0 (c.is_empty.ensures.0 h), λ h. c.is_empty.ensures.1 (none.1 (is ∙ h)))
