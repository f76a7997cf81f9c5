-- The letter that holds the position, and its place in the bottom row.
use Rattle.std.proofs.Common.{◌≡◌, sym, ◌∙◌}
use Rattle.fs_lists.proofs.Results.{at_exit}
use Rattle.fs_iet.specs.Images.{image}
use Rattle.fs_iet.proofs.PositionImages.{image_from, image_stop}
use Rattle.fs_iet.proofs.images.find_image.Goals as goal

pub returns-in_err-at : goal.returns-in_err-at
returns-in_err-at c = λ x top bottom.
    at_exit (λ r. r ≡ image c.args.field.d x c.args.y) c.from_residual.result c.in_err-at.field-0.0 c.from_residual.ensures.1
    (image_stop c.args.field.d c.args.y c.args.letters.now c.args.bottom.now x top bottom c.in_err-at.field-0.0 (sym c.in_err-at.was ∙ c.find_letter.ensures))

pub returns : goal.returns
returns c = λ x top bottom.
    image_from c.args.field.d c.args.y c.args.letters.now c.args.bottom.now x top bottom c.in_ok-at.at c.find_bottom_position.result (sym c.in_ok-at.was ∙ c.find_letter.ensures) c.find_bottom_position.ensures
