-- The names of the bottom row, one after another: where they end in the top row.
use Rattle.std.proofs.Common.{◌≡◌, ◌+◌, max, sym, ap, ◌∙◌, subst, arith}
use Rattle.std.proofs.lemmas.List.Sorted.{length_permutation}
use Rattle.fs_iet.proofs.Rearrangements.{distinct_permutation}
use Rattle.fs_rauzy.proofs.Places.{name_noted}
use Rattle.fs_rauzy.proofs.Prefixes.{EndsAt, IsGreatestUpTo, IsProperPrefix, ends_more, greatest_next, greatest_same, greatest_of_all, none_of_all, proper_of_end, end_of_proper}
use Rattle.fs_rauzy.proofs.splits.find_greatest.Goals as goal
use Rattle.fs_rauzy.proofs.splits.find_greatest.Goals.{then-end-next+then-n-bottom, else-end-next, else-end-next-via-then-end-next+else-n-bottom, else-end-next-via-else-end-next}

pub bounds-places-name : goal.bounds-places-name
bounds-places-name c = (name_noted c.args.top.now c.args.bottom.now c.note_places.new.places c.loop-n.n 0 c.requires.same c.note_places.ensures.places c.loop-n-test.true).inside

pub overflow_add-places : goal.overflow_add-places
overflow_add-places c =
    let name = name_noted c.args.top.now c.args.bottom.now c.note_places.new.places c.loop-n.n 0 c.requires.same c.note_places.ensures.places c.loop-n-test.true in
    let noted = name.noted in
    let below = name.below in
    let few = c.requires.few in
    omega arith

pub overflow_cast-next : goal.overflow_cast-next
overflow_cast-next c =
    let as_long = length_permutation c.args.top.now c.args.bottom.now c.requires.same in
    omega arith

pub overflow_add-next : goal.overflow_add-next
overflow_add-next c =
    let as_long = length_permutation c.args.top.now c.args.bottom.now c.requires.same in
    omega arith

pub loop-n-preserved : goal.loop-n-preserved
loop-n-preserved c =
    let top = c.args.top.now in
    let bottom = c.args.bottom.now in
    let n = c.loop-n.n in
    let name = name_noted top bottom c.note_places.new.places n 0 c.requires.same c.note_places.ensures.places c.loop-n-test.true in
    let end_is : max c.loop-n.end (name.place + 1) ≡ c.max-end.result = ap (λ p. max c.loop-n.end (p + 1)) (sym name.noted) ∙ sym c.max-end.ensures in
    let ends : EndsAt top bottom (n + 1) c.max-end.result = subst (EndsAt top bottom (n + 1)) end_is (ends_more top bottom n c.loop-n.end name.place 0 c.requires.apart c.loop-n-test.true name.at c.loop-n.invariant.ends) in
    let as_long = length_permutation top bottom c.requires.same in
    let apart_bottom = distinct_permutation top bottom c.requires.same c.requires.apart in
    record {
      ends = ends;
      greatest =
          elim c.if-end-next.branch [
            | then-end-next+then-n-bottom w ↦
                subst (IsGreatestUpTo (IsProperPrefix top bottom) (n + 1)) (sym w.greatest-is)
                (greatest_next (IsProperPrefix top bottom) n (proper_of_end top bottom apart_bottom as_long (n + 1) c.max-end.result ends w.if-end-next.true (omega arith) w.if-n-bottom.true))
            | else-end-next w ↦
                subst (IsGreatestUpTo (IsProperPrefix top bottom) (n + 1)) (sym w.greatest-is)
                (greatest_same (IsProperPrefix top bottom) n c.loop-n.greatest
                (λ proper.
                let both = end_of_proper top bottom apart_bottom as_long (n + 1) c.max-end.result ends proper in
                let there = both.1 in
                elim w.else-end-next.branch [
                  | else-end-next-via-then-end-next+else-n-bottom v ↦ let past = v.if-n-bottom.false in absurd (omega arith)
                  | else-end-next-via-else-end-next v ↦ v.if-end-next.false both.0
                ])
                c.loop-n.invariant.greatest)
          ];
    }

pub returns-clause-greatest : goal.returns-clause-greatest
returns-clause-greatest c =
    let as_long = length_permutation c.args.top.now c.args.bottom.now c.requires.same in
    let all = c.loop-n-test.false in
    greatest_of_all c.args.top.now c.args.bottom.now c.loop-n.n c.loop-n.greatest (omega arith) c.loop-n.invariant.greatest

pub returns-clause-none : goal.returns-clause-none
returns-clause-none c =
    let as_long = length_permutation c.args.top.now c.args.bottom.now c.requires.same in
    let all = c.loop-n-test.false in
    none_of_all c.args.top.now c.args.bottom.now c.loop-n.n c.loop-n.greatest (omega arith) c.loop-n.invariant.greatest
