-- The first option of the words, and those after it.
use Rattle.std.proofs.Common.{string_bytes, refl}
use Rattle.fs_cli.specs.Words.{no_words}
use Rattle.fs_cli.proofs.Requests.{no_words_left, some_words_left, not_set, finds_steps, finds_rectangles, finds_seed, no_option}
use Rattle.fs_cli.proofs.words.+read_options.Goals as goal

pub returns-then-is_empty : goal.returns-then-is_empty
returns-then-is_empty t c = no_words (no_words_left string_bytes c.args.words.now c.if-is_empty.true c.is_empty.ensures) refl

pub returns-in-Some : goal.returns-in-Some
returns-in-Some t c = finds_steps c.args.before c.in-Some.ensures (not_set c.args.before.steps c.if-is_some.false c.is_some.ensures) c.in_ok-read_number.ensures c.read_options.result c.read_options.ensures

pub returns-in-Some-split_option : goal.returns-in-Some-split_option
returns-in-Some-split_option t c =
    finds_rectangles c.args.before c.in-Some-split_option.ensures (not_set c.args.before.rectangles c.if-is_some-2.false c.is_some-in-Some-split_option.ensures) c.in_ok-read_number-2.ensures
    c.read_options-in-Some-split_option.result c.read_options-in-Some-split_option.ensures

pub returns-in_err-text : goal.returns-in_err-text
returns-in_err-text t c =
    simp (c.from_residual-in_err-text.ensures)
    (λ after set. no_option (some_words_left string_bytes c.args.words.now c.if-is_empty.false c.is_empty.ensures) c.in_default.ensures c.in_default-split_option.ensures c.in_err-text.ensures set)

pub returns : goal.returns
returns t c = finds_seed c.args.before c.in_ok-text.ensures (not_set c.args.before.seed c.if-is_some-3.false c.is_some-2.ensures) c.in_ok-read_number-3.ensures c.read_options-2.result c.read_options-2.ensures
