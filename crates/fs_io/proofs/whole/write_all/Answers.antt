use Rattle.std.proofs.Common.{◌+◌, ◌-◌, ◌≤◌, length, take, drop, refl, ◌∙◌, sym, subst, arith, take-append-drop, length-take, length-drop}
use Rattle.std.proofs.KnownBytes.{Appends-kept, Appends-trans}
use Rattle.std.specs.Io.KnownBytes.{Appends}
use Rattle.fs_io.proofs.Pieces.{take_and_piece}
use Rattle.fs_io.proofs.whole.write_all.Goals as goal

pub returns-in_default-clause-prefix : goal.returns-in_default-clause-prefix
returns-in_default-clause-prefix g c =
    let at = c.loop-at.at in
    let piece = c.args.piece.now in (
      take at piece,
      drop at piece,
      sym (take-append-drop at piece),
      Appends-kept _ _ _ _ c.loop-at.invariant.appended c.in_default.ensures.bytes,
    )

pub loop-at-preserved : goal.loop-at-preserved
loop-at-preserved g c =
    let at = c.loop-at.at in
    let n = c.in-Ok.n in
    let piece = c.args.piece.now in
    let held = g.S.Sink.held in
    let bound = c.in-Ok.ensures.bound in
    let within : at + n ≤ length piece = omega (arith, length-take (length piece - at) (drop at piece), length-drop at piece) in
    record {
      appended = subst (Appends (held c.args.sink.now) (held c.put.new.self)) (take_and_piece piece at n (omega arith)) (Appends-trans _ _ _ _ _ c.loop-at.invariant.appended c.in-Ok.ensures.bytes);
      kept = c.in-Ok.ensures.count.kept refl ∙ c.loop-at.invariant.kept;
      within = within;
    }
