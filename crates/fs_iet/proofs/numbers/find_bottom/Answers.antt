-- Each incoming side is given the number of its partner.
use Rattle.std.proofs.Common.{Some, map, refl, sym, ap, ◌∙◌, subst}
use Rattle.std.specs.List.{slice_get}
use Rattle.fs_lists.specs.Members.{IsIn}
use Rattle.fs_lists.proofs.Items.{item_of}
use Rattle.fs_plane.specs.declared.corners.Corner.{Corner}
use Rattle.fs_gluing.specs.SurfaceSides.{partner}
use Rattle.fs_iet.proofs.BottomNames.{has_number, side_of_number, names_more}
use Rattle.fs_iet.proofs.Items.{item_holds}
use Rattle.fs_iet.proofs.numbers.find_bottom.Goals as goal
use Rattle.fs_iet.proofs.numbers.find_bottom.Goals.{After-partner_of}

-- the partner is outgoing
there : (c : After-partner_of) → IsIn c.partner_of.result c.args.outgoing.now
there c =
    subst (λ f. IsIn f c.args.outgoing.now) (sym c.partner_of.ensures.is)
    (item_holds (λ e. IsIn (partner c.args.surface.now.polygons e) c.args.outgoing.now) c.args.incoming.now c.loop-e.e-index _ c.requires.partners
    (item_of c.args.incoming.now c.args.incoming.now c.loop-e.e-index _ refl c.loop-e-test.true))

pub get-requires : goal.get-requires
get-requires c = has_number c.args.outgoing.now c.in_ok-numbers.numbers c.in_ok-numbers.ensures.numbers c.partner_of.result (there c)

pub loop-e-preserved : goal.loop-e-preserved
loop-e-preserved c =
    let outgoing = c.args.outgoing.now in
    let there : IsIn c.partner_of.result outgoing =
    subst (λ f. IsIn f outgoing) (sym c.partner_of.ensures.is)
    (item_holds (λ e. IsIn (partner c.args.surface.now.polygons e) outgoing) c.args.incoming.now c.loop-e.e-index _ c.requires.partners
    (item_of c.args.incoming.now c.args.incoming.now c.loop-e.e-index _ refl c.loop-e-test.true)) in
    ap (map (λ n. slice_get outgoing n)) c.in_ok-push.ensures.items
    ∙ names_more outgoing c.args.incoming.now (partner c.args.surface.now.polygons) c.loop-e.bottom.items c.get.result c.loop-e.e-index _ c.loop-e-test.true
    (side_of_number outgoing c.in_ok-numbers.numbers c.in_ok-numbers.ensures.numbers c.partner_of.result there c.get.result c.get.ensures ∙ ap (λ (f : Corner). Some f) c.partner_of.ensures.is)
    c.loop-e.invariant
