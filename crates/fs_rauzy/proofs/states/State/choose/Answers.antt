-- A component of several letters that can't be split is compared.
use Rattle.std.proofs.Common.{◌≡◌, length, refl, subst}
use Rattle.fs_rauzy.specs.States.{StateValue}
use Rattle.fs_rauzy.specs.Steps.{AtCurrent}
use Rattle.fs_rauzy.proofs.ChosenEvents.{compare_chosen}
use Rattle.fs_rauzy.proofs.states.State.choose.Goals as goal

pub returns-in-None-2-clause-choice : goal.returns-in-None-2-clause-choice
returns-in-None-2-clause-choice c =
    compare_chosen c.args.self.now.d c.args.self.now.components c.letters_now.result c.in-None.ensures.kept.0 c.in-None.ensures.kept.1 (c.in-None.ensures.none refl)
    (subst (λ (x : StateValue). AtCurrent (λ c'. c.letters_now.result ≡ length c'.top) x.components) c.in-None.ensures.unchanged c.letters_now.ensures) c.if-letters_now-eq1.false
