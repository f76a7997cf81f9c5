-- The letters of the bottom row are added one after another.
use Rattle.std.proofs.Common.{◌≡◌, ◌<◌, length, refl, sym, ap, ◌∙◌}
use Rattle.fs_lists.proofs.Items.{item_of, item_read}
use Rattle.fs_lists.proofs.Results.{at_exit}
use Rattle.fs_iet.specs.Images.{Offset, bottom_position}
use Rattle.fs_iet.proofs.Items.{item_holds}
use Rattle.fs_iet.proofs.PositionImages.{adds_more, adds_stop}
use Rattle.fs_iet.proofs.images.find_bottom_position.Goals as goal

pub returns-in_err-y : goal.returns-in_err-y
returns-in_err-y c =
    let item = item_of c.args.bottom.now c.args.bottom.now c.loop-n.n _ refl c.loop-n-test.true in
    let inside = item_holds (λ name. name < length c.args.letters.now) c.args.bottom.now c.loop-n.n _ c.requires.within item in
    at_exit (λ r. r ≡ bottom_position c.args.letters.now 0 c.args.at.name c.args.at.offset c.args.bottom.now) c.from_residual.result c.in_err-y.field-0.0 c.from_residual.ensures.1
    (adds_stop c.args.letters.now c.args.bottom.now c.args.at.name c.args.at.offset c.requires.named c.loop-n.n c.loop-n.y _ _ item
    (λ e. c.if-name-at.false (e ∙ ap (λ (a : Offset). a.name) (sym c.at.view_is))) (item_read c.args.letters.now _ _ _ _ refl inside c.index-letters-name.is c.letter.view_is) c.loop-n.invariant
    c.in_err-y.field-0.0 (sym c.in_err-y.was ∙ c.sum_at.ensures))

pub loop-n-preserved : goal.loop-n-preserved
loop-n-preserved c =
    let item = item_of c.args.bottom.now c.args.bottom.now c.loop-n.n _ refl c.loop-n-test.true in
    let inside = item_holds (λ name. name < length c.args.letters.now) c.args.bottom.now c.loop-n.n _ c.requires.within item in
    adds_more c.args.letters.now c.args.bottom.now c.args.at.name c.args.at.offset c.requires.named c.loop-n.n c.loop-n.y _ _ item
    (λ e. c.if-name-at.false (e ∙ ap (λ (a : Offset). a.name) (sym c.at.view_is))) (item_read c.args.letters.now _ _ _ _ refl inside c.index-letters-name.is c.letter.view_is) c.loop-n.invariant
    c.in_ok-y.y (sym c.in_ok-y.was ∙ c.sum_at.ensures)
