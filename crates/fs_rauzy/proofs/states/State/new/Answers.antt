-- The exchange is the one open component.
use Rattle.std.proofs.Common.{List, ◌∷◌, length, sym, ap, ◌∙◌, subst, arith}
use Rattle.fs_quadratic.specs.Ring as ring
use Rattle.fs_gluing.specs.Exchanges.{Component}
use Rattle.fs_rauzy.specs.States.{IsState}
use Rattle.fs_rauzy.specs.StatesInPlace.{opened}
use Rattle.fs_rauzy.specs.FirstReturns.{AllGiveReturns}
use Rattle.fs_rauzy.proofs.ExchangeInPlace.{begun_open, begun_in_place, begun_state}
use Rattle.fs_rauzy.proofs.EventReturns.{exchange_gives_returns}
use Rattle.fs_rauzy.proofs.states.State.new.Goals as goal

pub invariant_of-result : goal.invariant_of-result
invariant_of-result c =
    let x = c.args.exchange in
    let kept = c.letters-count.ensures.kept in
    let letters = c.in_ok-letters.ensures in
    let top = c.in_ok-top.ensures in
    let bottom = c.in_ok-bottom.ensures in
    let total = c.total.ensures in
    let none = c.in_ok-extents.ensures.items in
    let extents = c.push.ensures.items ∙ (λ i. record { first = 0; base = ring.zero; total = total i } ∷ none i) in
    let long = ap length letters in
    let count = c.letters-count.ensures.letters in
    let room = c.push.ensures.room ∙ c.in_ok-extents.ensures.room in (
      subst (λ d. IsState (record { d = d; components = opened c.in_ok-letters.letters.items c.in_ok-top.top.items c.in_ok-bottom.bottom.items c.push.new.self.items })) (sym c.field.ensures)
          (begun_state x kept letters top bottom extents),
      begun_in_place x kept letters top bottom extents,
      omega arith,
      c.in_ok-places.ensures ∙ count ∙ sym long,
      tt,
    )

pub returns-clause-components : goal.returns-clause-components
returns-clause-components c =
    let total = c.total.ensures in
    let none = c.in_ok-extents.ensures.items in
    begun_open c.args.exchange c.letters-count.ensures.kept c.in_ok-letters.ensures c.in_ok-top.ensures c.in_ok-bottom.ensures
    (c.push.ensures.items ∙ (λ i. record { first = 0; base = ring.zero; total = total i } ∷ none i))

pub returns-clause-returns : goal.returns-clause-returns
returns-clause-returns c = λ s v surface some same exchange.
    let kept = c.letters-count.ensures.kept in
    let total = c.total.ensures in
    let none = c.in_ok-extents.ensures.items in
    subst (λ (components : List Component). AllGiveReturns s v components)
    (sym (begun_open c.args.exchange kept c.in_ok-letters.ensures c.in_ok-top.ensures c.in_ok-bottom.ensures
    (c.push.ensures.items ∙ (λ i. record { first = 0; base = ring.zero; total = total i } ∷ none i))))
    (exchange_gives_returns s v surface some same exchange kept.lawful, tt)
