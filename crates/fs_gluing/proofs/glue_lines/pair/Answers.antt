-- The two sides on a line become partners.
use Rattle.fs_gluing.proofs.Gluing.Partners.{partners_more, puts_by}
use Rattle.fs_gluing.proofs.glue_lines.pair.Goals as goal

pub returns-clause-paired : goal.returns-clause-paired
returns-clause-paired c = λ polygons earlier a single.
    partners_more polygons earlier c.args.glue.now _ _ _ a single (puts_by _ _ _ _ c.insert.ensures.here c.insert.ensures.others) (puts_by _ _ _ _ c.insert-2.ensures.here c.insert-2.ensures.others)

pub returns-clause-places : goal.returns-clause-places
returns-clause-places c = λ e h. c.insert-2.ensures.places e (c.insert.ensures.places e h)
