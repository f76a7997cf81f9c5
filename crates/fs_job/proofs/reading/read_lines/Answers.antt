use Rattle.std.proofs.Common.{◌≡◌, ◌+◌, length, inr, refl, ap, ◌∙◌, arith}
use Rattle.std.proofs.lemmas.Result.{err_from_is_err_and}
use Rattle.fs_gluing.specs.declared.faults.Fault.TheVariants.{NoEnd}
use Rattle.fs_job.specs.Stage.{progress_of}
use Rattle.fs_job.proofs.LineBytes.{lines_text, next_text}
use Rattle.fs_job.proofs.TextLines.{lines_left, bytes_left, lines_left-none, lines_left-next, bytes_left-fewer}
use Rattle.fs_job.proofs.JobLines.{led_to_start, led_to_next, no_end_at_end, surface_at_end_after}
use Rattle.fs_job.proofs.LineOutcomes.{first_fault_by_line, not_ended, not_start}
use Rattle.fs_job.proofs.reading.read_lines.Goals as goal

pub returns-in_err-stage-clause-fault : goal.returns-in_err-stage-clause-fault
returns-in_err-stage-clause-fault c =
    let p = err_from_is_err_and c.from_residual.result c.from_residual.ensures.1 in
    let next = ap lines_left c.in-Some.is ∙ lines_left-next c.in-Some.text.now c.next_line.result.0.now c.next_line.result.1 c.next_line.ensures in
    rw (p.1, p.2) (first_fault_by_line c.args.bytes.now (lines_left c.loop-rest.rest) (lines_left c.next_line.result.1) c.next_line.result.0.now c.loop-rest.number (progress_of c.loop-rest.stage) c.in_err-stage.field-0.0
    c.loop-rest.invariant.led next c.in_err-stage.ensures)

pub loop-rest-init : goal.loop-rest-init
loop-rest-init c = record {
  led = led_to_start c.args.bytes.now;
  ready = tt;
  text = λ t. lines_text c.args.bytes.now (c.has_text_lines-known_text.ensures.0 t);
  few = omega arith;
}

pub step-requires : goal.step-requires
step-requires c = λ t.
    (next_text (lines_left c.loop-rest.rest) (lines_left c.next_line.result.1) c.next_line.result.0.now (ap lines_left c.in-Some.is ∙ lines_left-next c.in-Some.text.now c.next_line.result.0.now c.next_line.result.1 c.next_line.ensures) (c.loop-rest.invariant.text t)).0

pub loop-rest-preserved : goal.loop-rest-preserved
loop-rest-preserved c =
    let i = c.loop-rest.invariant in
    let next = ap lines_left c.in-Some.is ∙ lines_left-next c.in-Some.text.now c.next_line.result.0.now c.next_line.result.1 c.next_line.ensures in
    let n = c.loop-rest.number in
    record {
      led = led_to_next c.args.bytes.now (lines_left c.loop-rest.rest) (lines_left c.next_line.result.1) c.next_line.result.0.now n (progress_of c.loop-rest.stage) (progress_of c.in_ok-stage.stage) i.led next c.in_ok-stage.ensures;
      ready = surface_at_end_after (n + 1) (progress_of c.loop-rest.stage) c.next_line.result.0.now (progress_of c.in_ok-stage.stage) i.ready c.in_ok-stage.ensures;
      text = λ t. (next_text (lines_left c.loop-rest.rest) (lines_left c.next_line.result.1) c.next_line.result.0.now next (i.text t)).1;
      few =
          let left : bytes_left c.loop-rest.rest ≡ length c.in-Some.text.now + 1 = ap bytes_left c.in-Some.is in
          let fewer = bytes_left-fewer c.in-Some.text.now c.next_line.result.0.now c.next_line.result.1 c.next_line.ensures in
          let few = i.few in
          omega arith;
    }

pub returns-clause-fault : goal.returns-clause-fault
returns-clause-fault c = inr (
  NoEnd,
  refl,
  no_end_at_end c.args.bytes.now (lines_left c.loop-rest.rest) c.loop-rest.number (progress_of c.loop-rest.stage) c.loop-rest.invariant.led (lines_left-none c.loop-rest.rest c.in_default.not-Some)
      (not_start c.loop-rest.stage c.in_default-stage.not-Start) (not_ended c.loop-rest.stage c.in_default-stage.not-Ended),
)
