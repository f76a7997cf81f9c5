-- One letter more.
use Rattle.std.proofs.Common.{[], ◌∷◌, ap, ◌∙◌, length, length-append, arith}
use Rattle.fs_iet.proofs.RowLetters.{letters_more}
use Rattle.fs_iet.proofs.letters.find_letters.Goals as goal

pub loop-n-preserved : goal.loop-n-preserved
loop-n-preserved c = record {
  as_many =
      let long = ap length c.in_ok-push.ensures.ok ∙ length-append c.loop-n.letters (c.letter_of.result ∷ []) in
      let before = c.loop-n.invariant.as_many in
      omega arith;
  letters = letters_more c.args.surface.now c.args.v c.args.row.now c.loop-n.letters c.push.new.self c.loop-n.n _ c.letter_of.result c.in_ok-push.ensures.ok c.loop-n.invariant.as_many c.loop-n.invariant.letters c.letter_of.ensures;
}
