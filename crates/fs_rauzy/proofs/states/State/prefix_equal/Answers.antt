-- The rows of the current component begin with the same names exactly where it can be split.
use Rattle.std.proofs.Common.{◌<◌, sym, ap, subst, arith}
use Rattle.fs_lists.specs.Members.{IsDistinct}
use Rattle.fs_rauzy.specs.States.{StateValue}
use Rattle.fs_rauzy.proofs.SearchedRows.{row_slice, now_once, below_once, letters_told, split_told}
use Rattle.fs_rauzy.proofs.states.State.prefix_equal.Goals as goal

pub is_same_prefix-requires-clause-apart_top : goal.is_same_prefix-requires-clause-apart_top
is_same_prefix-requires-clause-apart_top c =
    let x = c.self.inside in
    let row = row_slice c.deref.result.now x.top.items c.last-first.result.first c.deref.ensures.value in
    subst IsDistinct (sym row) (now_once x.letters.items x.top.items x.bottom.items c.last-first.ensures.1 c.self.invariant.1)

pub is_same_prefix-requires-clause-apart_bottom : goal.is_same_prefix-requires-clause-apart_bottom
is_same_prefix-requires-clause-apart_bottom c =
    let x = c.self.inside in
    let below = row_slice c.deref-2.result.now x.bottom.items c.last-first.result.first c.deref-2.ensures.value in
    subst IsDistinct (sym below) (below_once x.letters.items x.top.items x.bottom.items c.last-first.ensures.1 c.self.invariant.1 c.self.invariant.0)

pub returns : goal.returns
returns c =
    let x = c.self.inside in
    let row = row_slice c.deref.result.now x.top.items c.last-first.result.first c.deref.ensures.value in
    let below = row_slice c.deref-2.result.now x.bottom.items c.last-first.result.first c.deref-2.ensures.value in
    let is = ap (λ (x : StateValue). x.components) c.self.view_is in
    let some : 0 < c.args.k = omega arith in
    let others : c.args.k < c.letters_now.result = omega arith in
    let long = letters_told x.letters.items x.top.items x.bottom.items c.last-first.ensures.1 c.self.invariant.1 c.letters_now.result _ row _ is c.letters_now.ensures in
    split_told x.letters.items x.top.items x.bottom.items c.last-first.ensures.1 c.self.invariant.1 _ _ row below _ is c.args.k c.is_same_prefix.result c.is_same_prefix.ensures some
    (subst (λ n. c.args.k < n) long others)
