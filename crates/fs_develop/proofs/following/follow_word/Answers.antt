-- The path is followed along the word.
use Rattle.std.proofs.Common.{◌≡◌, ◌<◌, ◌∙◌, ◌++◌, List, [], ◌∷◌, take, length, false, true, Err, Ok, Some, ◌≤◌, refl, sym, ap, subst, arith}
use Rattle.std.proofs.lemmas.Option.{slice_get-get_or}
use Rattle.std.proofs.lemmas.List.{length-take-le, take_all}
use Rattle.fs_plane.specs.declared.corners.Corner.{Corner}
use Rattle.fs_plane.specs.declared.sites.Site.TheVariants as sites
use Rattle.fs_gluing.specs.SurfaceSides.{polygon_sides}
use Rattle.fs_develop.specs.declared.looking.Finding.TheVariants.{Last}
use Rattle.fs_develop.specs.declared.spots.Spot.{Spot}
use Rattle.fs_develop.specs.Following.{first_spot, FollowsTo}
use Rattle.fs_develop.specs.Walks.{IsNextOf}
use Rattle.fs_develop.proofs.PathSpots.{spot_side}
use Rattle.fs_develop.proofs.Followed.{IsFollowed, followed_first, followed_to_end, followed_across, returned_check_site}
use Rattle.fs_develop.proofs.WordsFollowed.{check_ends, next_at, only_next_at, take_one_more, no_next, shorter_prefix}
use Rattle.fs_develop.proofs.following.follow_word.Goals as goal

pub loop-n-init : goal.loop-n-init
loop-n-init c =
    subst (λ (at : Spot). IsFollowed c.args.surface.now c.args.v (IsNextOf c.args.word.now) c.args.start [] at) (sym c.first_spot-spot.ensures)
    (followed_first c.args.surface.now c.args.v (IsNextOf c.args.word.now) c.args.start c.requires.surface c.requires.start c.requires.inside)

pub returns-in_err-last : goal.returns-in_err-last
returns-in_err-last c =
    let stopped = c.in_err-last.ensures in
    let l : c.loop-n.n < length c.args.word.now = c.loop-n-test.true in
    returned_check_site (λ r. FollowsTo c.args.surface.now.d (polygon_sides c.args.surface.now.polygons) c.args.v (IsNextOf c.args.word.now) [] (first_spot c.args.start) r) c.args.word.now c.in_err-last.field-0.0
    c.from_residual.result c.from_residual.ensures.1
    (followed_to_end c.args.surface.now c.args.v (IsNextOf c.args.word.now) c.args.start (take c.loop-n.n c.args.word.now) c.loop-n.spot stopped.0 (Err stopped.1) _ c.loop-n.invariant stopped.2 stopped.3
    (ap Err (stopped.4 ∙ ap (λ n. sites.Walk n stopped.1.0) (sym (length-take-le c.loop-n.n c.args.word.now (omega arith))))))

pub returns-then-not-crosses : goal.returns-then-not-crosses
returns-then-not-crosses c =
    let departs = c.in_ok-last.ensures in
    let other = c.if-not-crosses.ensures in
    check_ends c.args.surface.now c.args.v c.args.start c.args.word.now (take c.loop-n.n c.args.word.now) c.loop-n.n c.loop-n.spot c.in_ok-last.last false c.loop-n.invariant departs
    (λ e k. absurd (not_true (other.1 (e, sym (only_next_at c.args.word.now c.loop-n.n _ c.in_ok-last.last.spot.side (slice_get-get_or c.args.word.now c.loop-n.n _ c.loop-n-test.true) k)))))
    ((λ h. absurd (not_true h)), (λ m. absurd (shorter_prefix c.args.word.now c.loop-n.n c.loop-n-test.true m.1)))
  where
    not_true : false ≡ true → ⊥
    not_true e = cc

pub cross-spot-requires-clause-side : goal.cross-spot-requires-clause-side
cross-spot-requires-clause-side c = (let departs = c.in_ok-last.ensures in spot_side c.args.surface.now c.requires.surface c.args.v c.in_ok-last.last.spot departs.1)

pub loop-n-preserved : goal.loop-n-preserved
loop-n-preserved c =
    let departs = c.in_ok-last.ensures in
    let crossed = c.if-not-crosses.ensures in
    let sides = crossed.0 refl in
    let at = slice_get-get_or c.args.word.now c.loop-n.n (record { polygon = 0; side = 0 }) c.loop-n-test.true in
    let there = at ∙ ap Some (sym sides.1) in
    subst (λ (w : List Corner). IsFollowed c.args.surface.now c.args.v (IsNextOf c.args.word.now) c.args.start w c.cross-spot.result)
    (sym (take_one_more c.args.word.now c.loop-n.n c.in_ok-last.last.spot.side there))
    (subst (λ (to : Spot). IsFollowed c.args.surface.now c.args.v (IsNextOf c.args.word.now) c.args.start (take c.loop-n.n c.args.word.now ++ c.in_ok-last.last.spot.side ∷ []) to) (sym c.cross-spot.ensures)
    (followed_across c.args.surface.now c.args.v (IsNextOf c.args.word.now) c.args.start (take c.loop-n.n c.args.word.now) c.loop-n.spot c.in_ok-last.last.spot c.requires.surface c.loop-n.invariant departs.0 departs.1
    (departs.2 ∙ ap (λ x. Ok (Last x)) sides.0) (next_at c.args.word.now c.loop-n.n c.in_ok-last.last.spot.side there)))

pub returns-in_err-last-2 : goal.returns-in_err-last-2
returns-in_err-last-2 c =
    let stopped = c.in_err-last-2.ensures in
    let past : length c.args.word.now ≤ c.loop-n.n = (let other = c.loop-n-test.false in grind arith) in
    returned_check_site (λ r. FollowsTo c.args.surface.now.d (polygon_sides c.args.surface.now.polygons) c.args.v (IsNextOf c.args.word.now) [] (first_spot c.args.start) r) c.args.word.now c.in_err-last-2.field-0.0
    c.from_residual-in_err-last-2.result c.from_residual-in_err-last-2.ensures.1
    (followed_to_end c.args.surface.now c.args.v (IsNextOf c.args.word.now) c.args.start c.args.word.now c.loop-n.spot stopped.0 (Err stopped.1) _
    (subst (λ (w : List Corner). IsFollowed c.args.surface.now c.args.v (IsNextOf c.args.word.now) c.args.start w c.loop-n.spot) (take_all c.loop-n.n c.args.word.now past) c.loop-n.invariant)
    stopped.2 stopped.3 (ap Err stopped.4))

pub returns : goal.returns
returns c =
    let departs = c.in_ok-last-2.ensures in
    let past : length c.args.word.now ≤ c.loop-n.n = (let other = c.loop-n-test.false in grind arith) in
    check_ends c.args.surface.now c.args.v c.args.start c.args.word.now c.args.word.now (length c.args.word.now) c.loop-n.spot c.in_ok-last-2.last c.ends_at_corner.result
    (subst (λ (w : List Corner). IsFollowed c.args.surface.now c.args.v (IsNextOf c.args.word.now) c.args.start w c.loop-n.spot) (take_all c.loop-n.n c.args.word.now past) c.loop-n.invariant)
    departs (λ e. no_next c.args.word.now c.in_ok-last-2.last.spot.side)
    ((λ h. (c.ends_at_corner.ensures.0 h, refl)), (λ m. c.ends_at_corner.ensures.1 m.0))
