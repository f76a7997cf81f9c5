-- The path is followed from polygon to polygon, until it ends or may cross no more.
use Rattle.std.proofs.Common.{◌≡◌, ◌<◌, ◌∙◌, ◌++◌, ◌+◌, List, [], ◌∷◌, length, sym, ap, subst, refl, Ok, Err, arith, length-append}
use Rattle.fs_plane.specs.declared.corners.Corner.{Corner}
use Rattle.fs_plane.specs.declared.sites.Site.TheVariants as sites
use Rattle.fs_paths.specs.Ends.{segment}
use Rattle.fs_develop.specs.declared.spots.Spot.{Spot}
use Rattle.fs_develop.specs.declared.looking.Finding.TheVariants.{Last}
use Rattle.fs_develop.specs.Following.{first_spot, FollowsTo}
use Rattle.fs_gluing.specs.SurfaceSides.{polygon_sides}
use Rattle.fs_develop.specs.Walks.{IsWithin}
use Rattle.fs_develop.proofs.PathSpots.{spot_side}
use Rattle.fs_develop.proofs.Followed.{IsFollowed, followed_first, followed_to_end, followed_across, returned_site}
use Rattle.fs_develop.proofs.following.follow.Goals as goal

pub loop-word-init : goal.loop-word-init
loop-word-init c =
    let empty : length c.args.word ≡ 0 = ap length c.requires.word in (
      subst (λ (w : List Corner). IsFollowed c.args.surface.now c.args.v (IsWithin c.args.steps) c.args.start w c.first_spot-spot.result) (sym c.requires.word)
          (subst (λ (at : Spot). IsFollowed c.args.surface.now c.args.v (IsWithin c.args.steps) c.args.start [] at) (sym c.first_spot-spot.ensures)
          (followed_first c.args.surface.now c.args.v (IsWithin c.args.steps) c.args.start c.requires.surface c.requires.start c.requires.inside)),
      omega arith,
    )

pub returns-in_err-last : goal.returns-in_err-last
returns-in_err-last c =
    let stopped = c.in_err-last.ensures in
    returned_site (λ r. FollowsTo c.args.surface.now.d (polygon_sides c.args.surface.now.polygons) c.args.v (IsWithin c.args.steps) [] (first_spot c.args.start) r) c.in_err-last.field-0.0 c.from_residual.result c.from_residual.ensures.1
    (followed_to_end c.args.surface.now c.args.v (IsWithin c.args.steps) c.args.start c.loop-word.word c.loop-word.spot stopped.0 (Err stopped.1) _ c.loop-word.invariant.0 stopped.2 stopped.3
    (ap Err (stopped.4 ∙ ap (λ n. sites.Walk n stopped.1.0) c.len.ensures)))

pub corner_after-end-requires : goal.corner_after-end-requires
corner_after-end-requires c = (let departs = c.in_ok-last.ensures in spot_side c.args.surface.now c.requires.surface c.args.v c.in_ok-last.last.spot departs.1)

pub returns-in-EndsAtCorner : goal.returns-in-EndsAtCorner
returns-in-EndsAtCorner c =
    let departs = c.in_ok-last.ensures in
    followed_to_end c.args.surface.now c.args.v (IsWithin c.args.steps) c.args.start c.loop-word.word c.loop-word.spot c.in_ok-last.last.spot _ _ c.loop-word.invariant.0 departs.0
    (departs.2 ∙ ap (λ x. Ok (Last x)) c.in-EndsAtCorner.is) (ap (λ (y : Corner). Ok (segment c.loop-word.word y)) c.corner_after-end.ensures)

pub returns-in-MeetsCorner : goal.returns-in-MeetsCorner
returns-in-MeetsCorner c =
    let departs = c.in_ok-last.ensures in
    followed_to_end c.args.surface.now c.args.v (IsWithin c.args.steps) c.args.start c.loop-word.word c.loop-word.spot c.in_ok-last.last.spot _ _ c.loop-word.invariant.0 departs.0
    (departs.2 ∙ ap (λ x. Ok (Last x)) c.in-MeetsCorner.is) refl

pub returns-in-EndsBefore : goal.returns-in-EndsBefore
returns-in-EndsBefore c =
    let departs = c.in_ok-last.ensures in
    followed_to_end c.args.surface.now c.args.v (IsWithin c.args.steps) c.args.start c.loop-word.word c.loop-word.spot c.in_ok-last.last.spot _ _ c.loop-word.invariant.0 departs.0
    (departs.2 ∙ ap (λ x. Ok (Last x)) c.in-EndsBefore.is) refl

pub returns-then-len-steps : goal.returns-then-len-steps
returns-then-len-steps c =
    let departs = c.in_ok-last.ensures in
    followed_to_end c.args.surface.now c.args.v (IsWithin c.args.steps) c.args.start c.loop-word.word c.loop-word.spot c.in_ok-last.last.spot _ _ c.loop-word.invariant.0 departs.0
    (departs.2 ∙ ap (λ x. Ok (Last x)) c.in-Crosses.is)
    ((λ (h : length c.loop-word.word < c.args.steps). let same = c.if-len-steps.true in let n = c.len-in-loop-word.ensures in grind arith), refl)

pub cross-spot-requires-clause-side : goal.cross-spot-requires-clause-side
cross-spot-requires-clause-side c = (let departs = c.in_ok-last.ensures in spot_side c.args.surface.now c.requires.surface c.args.v c.in_ok-last.last.spot departs.1)

pub loop-word-preserved : goal.loop-word-preserved
loop-word-preserved c =
    let departs = c.in_ok-last.ensures in
    let within : length c.loop-word.word < c.args.steps = (let other = c.if-len-steps.false in let n = c.len-in-loop-word.ensures in let short = c.loop-word.invariant.1 in grind arith) in
    let across =
    followed_across c.args.surface.now c.args.v (IsWithin c.args.steps) c.args.start c.loop-word.word c.loop-word.spot c.in_ok-last.last.spot c.requires.surface c.loop-word.invariant.0 departs.0 departs.1
    (departs.2 ∙ ap (λ x. Ok (Last x)) c.in-Crosses.is) within in
    let pushed = c.in_ok-push.ensures.ok in
    let longer : length c.push.new.self ≡ length c.loop-word.word + 1 = ap length pushed ∙ length-append c.loop-word.word (c.in_ok-last.last.spot.side ∷ []) in (
      subst (λ (w : List Corner). IsFollowed c.args.surface.now c.args.v (IsWithin c.args.steps) c.args.start w c.cross-spot.result) (sym pushed)
          (subst (λ (at : Spot). IsFollowed c.args.surface.now c.args.v (IsWithin c.args.steps) c.args.start (c.loop-word.word ++ c.in_ok-last.last.spot.side ∷ []) at) (sym c.cross-spot.ensures) across),
      omega arith,
    )
