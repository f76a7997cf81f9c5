-- The polygons that wait are visited one after another.
use Rattle.std.proofs.Common.{◌<◌, List, length, sym, subst}
use Rattle.fs_gluing.specs.declared.surfaces.Side.{Side}
use Rattle.fs_gluing.proofs.Gluing.Search.{search_begins, waits_inside, waiting_polygon, partners_inside, search_falls, search_more, search_all}
use Rattle.fs_gluing.proofs.reaching.search.Goals as goal

pub loop-i-init : goal.loop-i-init
loop-i-init c = search_begins _ _ _ _ _ (c.in_ok-reached.ensures.items_if_clones_equal (λ b e. e)) c.len.ensures c.requires.some c.new-waiting.ensures.items c.in_ok-push.ensures.items

pub bounds-as_slice-i : goal.bounds-as_slice-i
bounds-as_slice-i c = subst (λ (ps : List (List Side)). c.in-Some.i < length ps) (sym c.as_slice.ensures) (waits_inside _ _ _ _ _ c.in-Some.ensures.items c.loop-i.invariant)

pub visit-requires : goal.visit-requires
visit-requires c =
    partners_inside c.args.polygons.now c.in-Some.i _ _ (waiting_polygon _ _ _ _ _ _ _ _ c.in-Some.ensures.items c.loop-i.invariant c.as_slice.ensures c.index-as_slice-i.is c.as_slice-in-Some.ensures)
    c.loop-i.invariant.long c.requires.glued

pub loop-i-smaller : goal.loop-i-smaller
loop-i-smaller c = search_falls _ c.in-Some.i _ _ _ _ _ c.in-Some.ensures.items c.in_ok-visit.ensures

pub loop-i-preserved : goal.loop-i-preserved
loop-i-preserved c =
    search_more c.args.polygons.now c.in-Some.i c.as_slice-in-Some.result.now _ _ _ _ _
    (waiting_polygon _ _ _ _ _ _ _ _ c.in-Some.ensures.items c.loop-i.invariant c.as_slice.ensures c.index-as_slice-i.is c.as_slice-in-Some.ensures)
    c.in-Some.ensures.items c.loop-i.invariant c.in_ok-visit.ensures

pub returns : goal.returns
returns c = search_all _ _ _ _ _ c.in_default.ensures.items c.in_default.ensures.rest c.in_default.ensures.cases.0 c.loop-i.invariant
