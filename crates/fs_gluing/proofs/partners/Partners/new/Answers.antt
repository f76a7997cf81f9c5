use Rattle.std.proofs.Common.{◌≡◌, ◌-◌, ◌*◌, ◌++◌, ◌∙◌, take, List, Option, None, length, replicate, sym, ap, subst}
use Rattle.fs_plane.specs.declared.corners.Corner.{Corner}
use Rattle.fs_gluing.specs.PartnerTable.{partner_of, HasPlaces}
use Rattle.fs_gluing.proofs.Gluing.PartnerTables.{no_partner, places_for, filled}
use Rattle.fs_gluing.proofs.partners.Partners.new.Goals as goal
use Rattle.fs_gluing.proofs.partners.Partners.new.Goals.{In_ok-resize}

-- the places are empty
items : (c : In_ok-resize) → c.resize.new.self.items ≡ replicate (length c.args.polygons.now * c.most_sides-width.result) None
items c =
    let all = c.len.result * c.most_sides-width.result in
    c.in_ok-resize.ensures.items
    ∙ (λ i. take all (c.new-items.ensures.items i) ++ replicate (all - c.new-items.ensures.len i) None)
    ∙ (filled all ∙ ap (λ n. replicate (n * c.most_sides-width.result) None) c.len.ensures)

pub returns-clause-places : goal.returns-clause-places
returns-clause-places c =
    subst (λ (xs : List (Option Corner)). HasPlaces c.args.polygons.now (record { width = c.most_sides-width.result; items = xs })) (sym (items c))
    (places_for c.args.polygons.now c.most_sides-width.result c.most_sides-width.ensures.most)

pub returns-clause-none : goal.returns-clause-none
returns-clause-none c = λ e.
    subst (λ (xs : List (Option Corner)). partner_of (record { width = c.most_sides-width.result; items = xs }) e ≡ None) (sym (items c))
    (no_partner (length c.args.polygons.now * c.most_sides-width.result) c.most_sides-width.result e)
