-- The rule's choice leaves the state as it was, so what its event keeps is kept.
use Rattle.std.proofs.Common.{OnOk, subst}
use Rattle.fs_rauzy.specs.FirstReturns.{KeepsReturns}
use Rattle.fs_rauzy.specs.States.{StateValue}
use Rattle.fs_rauzy.proofs.states.State.advance.Goals as goal

pub returns-in-Split-clause-returns : goal.returns-in-Split-clause-returns
returns-in-Split-clause-returns c =
    subst (λ (x : StateValue). OnOk c.split_at.result (KeepsReturns x.d x.components c.split_at.new.self.components)) c.choose.ensures.unchanged c.split_at.ensures.returns

pub returns-in-Close-clause-returns : goal.returns-in-Close-clause-returns
returns-in-Close-clause-returns c =
    subst (λ (x : StateValue). KeepsReturns x.d x.components c.close.new.self.components) c.choose.ensures.unchanged c.close.ensures.returns

pub returns-in-Compare-clause-returns : goal.returns-in-Compare-clause-returns
returns-in-Compare-clause-returns c =
    subst (λ (x : StateValue). OnOk c.duel.result (KeepsReturns x.d x.components c.duel.new.self.components)) c.choose.ensures.unchanged c.duel.ensures.returns
