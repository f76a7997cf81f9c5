-- The rows of the current component are searched, and nothing but the places is written.
use Rattle.std.proofs.Common.{length, refl, sym, ap, ◌∙◌, subst}
use Rattle.fs_lists.specs.Members.{IsDistinct}
use Rattle.fs_rauzy.specs.States.{StateValue}
use Rattle.fs_rauzy.proofs.SearchedRows.{row_slice, same_permutation, length-written, searched_now, now_same, now_once, split_found, greatest_found, none_found}
use Rattle.fs_rauzy.proofs.states.State.find_split.Goals as goal

pub find_greatest-greatest-requires-clause-same : goal.find_greatest-greatest-requires-clause-same
find_greatest-greatest-requires-clause-same c =
    let x = c.self.inside in
    let row = row_slice c.deref.result.now x.top.items c.last-first.result.first c.deref.ensures.value in
    let below = row_slice c.deref-2.result.now x.bottom.items c.last-first.result.first c.deref-2.ensures.value in
    same_permutation row below (now_same x.letters.items x.top.items x.bottom.items c.last-first.ensures.1 c.self.invariant.1 c.self.invariant.0)

pub find_greatest-greatest-requires-clause-apart :
    goal.find_greatest-greatest-requires-clause-apart
find_greatest-greatest-requires-clause-apart c =
    let x = c.self.inside in
    let row = row_slice c.deref.result.now x.top.items c.last-first.result.first c.deref.ensures.value in
    subst IsDistinct (sym row) (now_once x.letters.items x.top.items x.bottom.items c.last-first.ensures.1 c.self.invariant.1)

pub invariant_of-self : goal.invariant_of-self
invariant_of-self c =
    let x = c.self.inside in
    let row = row_slice c.deref.result.now x.top.items c.last-first.result.first c.deref.ensures.value in
    let below = row_slice c.deref-2.result.now x.bottom.items c.last-first.result.first c.deref-2.ensures.value in (
      c.self.invariant.0,
      c.self.invariant.1,
      c.self.invariant.2,
      length-written _ _ c.find_greatest-greatest.new.places x.places.items (c.find_greatest-greatest.ensures.long ∙ c.deref_mut.ensures.len)
          (sym c.deref_mut.ensures.len ∙ ap length c.deref_mut.ensures.value ∙ c.self.invariant.3),
      searched_now c.find_greatest-greatest.result c.is_none-self-inside.result _ c.is_none-self-inside.ensures
          (none_found x.letters.items x.top.items x.bottom.items c.last-first.ensures.1 c.self.invariant.1 _ _ row below _ refl c.find_greatest-greatest.result c.find_greatest-greatest.ensures.none),
    )

pub returns-clause-some : goal.returns-clause-some
returns-clause-some c =
    let x = c.self.inside in
    let row = row_slice c.deref.result.now x.top.items c.last-first.result.first c.deref.ensures.value in
    let below = row_slice c.deref-2.result.now x.bottom.items c.last-first.result.first c.deref-2.ensures.value in
    split_found x.letters.items x.top.items x.bottom.items c.last-first.ensures.1 c.self.invariant.1 _ _ row below _ (ap (λ (x : StateValue). x.components) c.self.view_is)
    c.find_greatest-greatest.result c.find_greatest-greatest.ensures.some

pub returns-clause-greatest : goal.returns-clause-greatest
returns-clause-greatest c =
    let x = c.self.inside in
    let row = row_slice c.deref.result.now x.top.items c.last-first.result.first c.deref.ensures.value in
    let below = row_slice c.deref-2.result.now x.bottom.items c.last-first.result.first c.deref-2.ensures.value in
    greatest_found x.letters.items x.top.items x.bottom.items c.last-first.ensures.1 c.self.invariant.1 _ _ row below _ (ap (λ (x : StateValue). x.components) c.self.view_is)
    c.find_greatest-greatest.result c.find_greatest-greatest.ensures.greatest

pub returns-clause-none : goal.returns-clause-none
returns-clause-none c =
    let x = c.self.inside in
    let row = row_slice c.deref.result.now x.top.items c.last-first.result.first c.deref.ensures.value in
    let below = row_slice c.deref-2.result.now x.bottom.items c.last-first.result.first c.deref-2.ensures.value in
    none_found x.letters.items x.top.items x.bottom.items c.last-first.ensures.1 c.self.invariant.1 _ _ row below _ (ap (λ (x : StateValue). x.components) c.self.view_is)
    c.find_greatest-greatest.result c.find_greatest-greatest.ensures.none
