-- The number of the side in the table, and what is noted there.
use Rattle.std.proofs.Common.{◌≡◌, ◌+◌, ◌-◌, ◌*◌, Bool, if◌then◌else◌, get_or, sym, ap, ◌∙◌}
use Rattle.fs_unfold.specs.declared.products.TableCopy.{TableCopy}
use Rattle.fs_unfold.specs.InPlace.{IsNeighbour}
use Rattle.fs_unfold.proofs.LinesInTurn.{at_item, neighbour_is, neighbour_low}
use Rattle.fs_unfold.proofs.glue_lines.neighbour.Goals.{then-turned, else-turned}
use Rattle.fs_unfold.proofs.glue_lines.neighbour.Goals as goal

found : (c : goal.After-shared_slice_known-1) → IsNeighbour c.args.n c.args.products.now.list c.args.products.now.neighbours c.args.g c.args.side (get_or c.as_slice-2.result.now (c.args.g * c.args.n + c.if-turned.of_table) 0)
found c =
    let by = λ (t : Bool). if t then c.args.n - 1 - c.args.side else c.args.side in
    let read = λ (x : TableCopy). by x.turned in
    let number : c.if-turned.of_table ≡ read c.index-as_slice-g.result = elim c.if-turned.branch [
      | then-turned w ↦ w.of_table-is ∙ sym (ap read c.index-as_slice-g.is ∙ ap by w.if-turned.true)
      | else-turned w ↦ w.of_table-is ∙ sym (ap read c.index-as_slice-g.is ∙ ap by w.if-turned.false)
    ] in
    neighbour_is c.args.n c.args.g c.args.side c.if-turned.of_table c.args.products.now.list c.args.products.now.neighbours c.as_slice-2.result.now c.index-as_slice-g.result c.requires.whole
    (at_item c.as_slice.result.now c.args.products.now.list c.args.g c.index-as_slice-g.result c.as_slice.ensures c.requires.there c.index-as_slice-g.is) c.as_slice-2.ensures c.requires.there c.requires.inside number

pub returns-clause-noted : goal.returns-clause-noted
returns-clause-noted c = found c

pub returns-clause-few : goal.returns-clause-few
returns-clause-few c = neighbour_low c.args.n c.args.g c.args.side _ c.args.products.now.list c.args.products.now.neighbours c.requires.whole c.requires.inside (found c)
