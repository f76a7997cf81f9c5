-- The way that is glued to the way is one of a fan, and the half-edge along it is the twin.
use Rattle.std.proofs.Common.{◌∷◌, [], ◌++◌, ◌≤◌, refl, sym, ap, ◌∙◌, subst}
use Rattle.std.proofs.lemmas.Result.{on_ok_weaker}
use Rattle.fs_gluing.specs.Limits.{most_sides}
use Rattle.fs_triangulate.specs.Fans.{half_edge_along, half_edge_of}
use Rattle.fs_triangulate.proofs.FanWays.{in_larger_fan}
use Rattle.fs_triangulate.proofs.GluedWays.{twin_fan_way}
use Rattle.fs_triangulate.proofs.FaceBases.{base_few, sides_few, bases_long, base_is}
use Rattle.fs_triangulate.proofs.fans.add_half_edge.Goals as goal

pub bounds-bases-twin : goal.bounds-bases-twin
bounds-bases-twin c =
    let twin = twin_fan_way c.args.surface.now c.requires.surface c.args.way c.glued_way-twin.result c.requires.way c.glued_way-twin.ensures in
    bases_long c.args.surface.now.polygons c.args.bases.now _ c.requires.bases twin.there

pub half_edge_along-requires-clause-base : goal.half_edge_along-requires-clause-base
half_edge_along-requires-clause-base c =
    let twin = twin_fan_way c.args.surface.now c.requires.surface c.args.way c.glued_way-twin.result c.requires.way c.glued_way-twin.ensures in
    subst (λ n. n ≤ most_sides) (sym (base_is c.args.surface.now.polygons c.args.bases.now _ 0 c.requires.bases twin.there)) (base_few c.args.surface.now c.requires.surface _)

pub half_edge_along-requires-clause-way : goal.half_edge_along-requires-clause-way
half_edge_along-requires-clause-way c =
    let twin = twin_fan_way c.args.surface.now c.requires.surface c.args.way c.glued_way-twin.result c.requires.way c.glued_way-twin.ensures in
    in_larger_fan _ most_sides c.glued_way-twin.result (sides_few c.args.surface.now c.requires.surface _) twin.fan

pub returns : goal.returns
returns c =
    let twin = twin_fan_way c.args.surface.now c.requires.surface c.args.way c.glued_way-twin.result c.requires.way c.glued_way-twin.ensures in
    on_ok_weaker c.push-2.result
    (λ pushed. record {
      faces = refl;
      homes = c.in_ok-push.ensures.ok ∙ ap (λ home. c.args.triangles.now.homes ++ home ∷ []) c.new.ensures;
      twins = pushed
          ∙ ap (λ h. c.args.triangles.now.twins ++ h ∷ [])
          (c.half_edge_along.ensures
          ∙ ap (λ base. half_edge_along base c.glued_way-twin.result) (base_is c.args.surface.now.polygons c.args.bases.now _ 0 c.requires.bases twin.there)
          ∙ ap (half_edge_of c.args.surface.now.polygons) c.glued_way-twin.ensures);
    })
    c.push-2.ensures.ok
