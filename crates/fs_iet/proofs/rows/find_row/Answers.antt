-- The chains are added polygon by polygon.
use Rattle.std.proofs.Common.{◌≡◌, ◌+◌, length, subst, sym, arith}
use Rattle.fs_gluing.specs.Exchanges.{AreChainsIn}
use Rattle.fs_iet.specs.Rows.{IsInRow, to_right_in}
use Rattle.fs_iet.proofs.RowChains.{chains_none, chains_more}
use Rattle.fs_iet.proofs.rows.find_row.Goals as goal

pub loop-i-init : goal.loop-i-init
loop-i-init c = subst (AreChainsIn (to_right_in c.args.surface.now c.args.row) (IsInRow c.args.surface.now c.args.v c.args.row) 0) (sym c.new-sides.ensures) chains_none

pub push_chain-requires-clause-surface : goal.push_chain-requires-clause-surface
push_chain-requires-clause-surface c = c.polygons-i-end.ensures.surface.surface

pub loop-i-preserved : goal.loop-i-preserved
loop-i-preserved c =
    let added = c.in_ok-push_chain.ensures in
    subst (AreChainsIn (to_right_in c.args.surface.now c.args.row) (IsInRow c.args.surface.now c.args.v c.args.row) (c.loop-i.i + 1)) (sym added.1)
    (chains_more c.loop-i.i c.loop-i.sides added.0 c.loop-i.invariant added.2)

pub returns : goal.returns
returns c =
    let out = c.loop-i-test.false in
    let end = c.loop-i.auto.i-end in
    let polygons = c.polygons-i-end.ensures.polygons in
    let all : c.loop-i.i ≡ length c.args.surface.now.polygons = omega arith in
    subst (λ n. AreChainsIn (to_right_in c.args.surface.now c.args.row) (IsInRow c.args.surface.now c.args.v c.args.row) n c.loop-i.sides) all c.loop-i.invariant
