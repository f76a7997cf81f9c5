-- The first k names of the bottom row are looked for among those of the top row.
use Rattle.std.proofs.Common.{◌≡◌, take, get_or, refl, subst, arith}
use Rattle.std.proofs.lemmas.Bool.{false≢true, both_ways}
use Rattle.std.proofs.lemmas.List.{take_all}
use Rattle.fs_lists.specs.Members.{IsIn}
use Rattle.fs_iet.proofs.ListsInTurn.{in_by_number}
use Rattle.std.proofs.lemmas.Option.{slice_get-get_or}
use Rattle.fs_rauzy.proofs.Places.{among_more, contains_tells}
use Rattle.fs_rauzy.proofs.Prefixes.{AreAmong, same_of_among}
use Rattle.fs_rauzy.proofs.splits.is_same_prefix.Goals as goal

pub returns-then-not-contains : goal.returns-then-not-contains
returns-then-not-contains c =
    let top = take c.args.k c.args.top.now in
    let bottom = take c.args.k c.args.bottom.now in
    let name = get_or bottom c.loop-name.name-index 0 in
    let there : IsIn name bottom = in_by_number bottom c.loop-name.name-index name (slice_get-get_or bottom c.loop-name.name-index 0 c.loop-name-test.true) in (
      (λ e. absurd (false≢true e)),
      (λ same. absurd (both_ways c.contains.result c.if-not-contains.true ((contains_tells top name c.contains.result c.contains.ensures.cases).1 ((same name).1 there)))),
    )

pub loop-name-preserved : goal.loop-name-preserved
loop-name-preserved c =
    let top = take c.args.k c.args.top.now in
    let bottom = take c.args.k c.args.bottom.now in
    let name = get_or bottom c.loop-name.name-index 0 in
    among_more bottom top c.loop-name.name-index 0 c.loop-name-test.true c.loop-name.invariant ((contains_tells top name c.contains.result c.contains.ensures.cases).0 c.if-not-contains.false)

pub returns : goal.returns
returns c =
    let bottom = take c.args.k c.args.bottom.now in
    let all = c.loop-name-test.false in
    let whole : take c.loop-name.name-index bottom ≡ bottom = take_all c.loop-name.name-index bottom (omega arith) in
    let among : AreAmong bottom (take c.args.k c.args.top.now) = subst (λ xs. AreAmong xs (take c.args.k c.args.top.now)) whole c.loop-name.invariant in
    ((λ e. same_of_among c.args.top.now c.args.bottom.now c.args.k c.requires.apart_bottom c.requires.top c.requires.bottom among), (λ same. refl))
