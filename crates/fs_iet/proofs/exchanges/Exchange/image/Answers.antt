-- The rows are those of an exchange.
use Rattle.std.proofs.Common.{sym, subst, ap, ◌∙◌}
use Rattle.fs_iet.specs.ExchangeValue.{ExchangeValue, IsExchangeValue}
use Rattle.fs_iet.specs.Images.{image}
use Rattle.fs_iet.proofs.ImagePositions.{image_crossing}
use Rattle.fs_iet.proofs.NumbersInRows.{rows_within, row_short}
use Rattle.fs_iet.proofs.exchanges.Exchange.image.Goals as goal

pub find_image-requires-clause-within : goal.find_image-requires-clause-within
find_image-requires-clause-within c =
    rows_within c.args.self.now (subst IsExchangeValue c.self.view_is c.self.invariant) c.as_slice.result.now c.as_slice-2.result.now
    (c.as_slice.ensures ∙ ap (λ (x : ExchangeValue). x.component.top) c.self.view_is) (c.as_slice-2.ensures ∙ ap (λ (x : ExchangeValue). x.component.bottom) c.self.view_is)

pub find_image-requires-clause-few_names : goal.find_image-requires-clause-few_names
find_image-requires-clause-few_names c =
    row_short c.args.self.now (subst IsExchangeValue c.self.view_is c.self.invariant) c.as_slice-2.result.now (c.as_slice-2.ensures ∙ ap (λ (x : ExchangeValue). x.component.bottom) c.self.view_is)

pub returns-clause-crossing : goal.returns-clause-crossing
returns-clause-crossing c = λ s v surface some same exchange.
    image_crossing c.args.self.now.d c.args.self.now.component c.args.y c.find_image.result
    (c.find_image.ensures _ (sym c.as_slice.ensures) (sym c.as_slice-2.ensures) ∙ ap (λ (x : ExchangeValue). image x.d x.component c.args.y) c.self.view_is) c.requires.from_zero c.requires.below_total s v surface some same exchange
