-- The bottom row is as long as the top row.
use Rattle.std.proofs.Common.{◌≡◌, subst, ap, ◌∙◌, length, arith}
use Rattle.fs_iet.specs.ExchangeValue.{ExchangeValue, IsExchangeValue}
use Rattle.fs_iet.proofs.NumbersInRows.{rows_long, bottom_read}
use Rattle.fs_iet.proofs.exchanges.Exchange.bottom.Goals as goal

pub bounds-as_slice-n : goal.bounds-as_slice-n
bounds-as_slice-n c =
    let same = rows_long c.args.self.now (subst IsExchangeValue c.self.view_is c.self.invariant) in
    let row : c.as_slice.result.now ≡ c.args.self.now.component.bottom = c.as_slice.ensures ∙ ap (λ (x : ExchangeValue). x.component.bottom) c.self.view_is in
    let long = ap length row in
    omega arith

pub returns : goal.returns
returns c =
    bottom_read c.args.self.now (subst IsExchangeValue c.self.view_is c.self.invariant) c.args.n c.as_slice.result.now
    (c.as_slice.ensures ∙ ap (λ (x : ExchangeValue). x.component.bottom) c.self.view_is) c.requires
