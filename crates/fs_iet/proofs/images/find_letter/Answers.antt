-- The letters are tried one after another.
use Rattle.std.proofs.Common.{refl, sym, ◌∙◌}
use Rattle.fs_lists.proofs.Items.{item_read}
use Rattle.fs_iet.proofs.PositionImages.{not_less, looks_next}
use Rattle.fs_iet.proofs.images.find_letter.Goals as goal

pub loop-n-preserved : goal.loop-n-preserved
loop-n-preserved c =
    looks_next c.args.field.d c.args.letters.now c.args.y c.args.field.radicand c.loop-n.n c.loop-n.offset _ c.in_ok-offset.offset
    (item_read _ _ _ _ _ refl c.loop-n-test.true c.index-letters-n.is c.letter.view_is)
    (λ less. not_less c.cmp.result c.eq.result c.eq.ensures c.if-eq.false (c.cmp.ensures.value ∙ less)) (sym c.in_ok-offset.was ∙ c.difference_at.ensures) c.loop-n.invariant
