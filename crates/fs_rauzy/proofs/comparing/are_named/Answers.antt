-- One letter more has its name.
use Rattle.std.proofs.Common.{◌-◌, ap, sym, ◌∙◌, arith}
use Rattle.fs_gluing.specs.Exchanges.{Letter}
use Rattle.fs_rauzy.proofs.ComparedRows.{named_more}
use Rattle.fs_rauzy.proofs.comparing.are_named.Goals as goal

pub loop-n-preserved : goal.loop-n-preserved
loop-n-preserved c =
    let more = c.loop-n-test.true in
    let within = c.loop-n.invariant.0 in
    let long = c.if-letters-names.false in (
      omega arith,
      named_more c.args.letters.now c.args.names.now c.index-letters-n.result (c.loop-n.n - 1) c.loop-n.n (omega arith) (omega arith) (omega arith) c.index-letters-n.is
          (ap (λ (x : Letter). x.name) (sym c.letter.view_is) ∙ c.if-letter-names.false) c.loop-n.invariant.1,
    )
