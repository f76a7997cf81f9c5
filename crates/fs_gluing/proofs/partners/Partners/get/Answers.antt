use Rattle.std.proofs.Common.{◌*◌, ◌+◌, get_or, Option, None, unwrap_or, ◌∙◌, ap, arith}
use Rattle.fs_plane.specs.declared.corners.Corner.{Corner}
use Rattle.fs_gluing.specs.PartnerTable.{partner_of}
use Rattle.fs_gluing.proofs.Gluing.PartnerTables.{partner-read, partner-beyond}
use Rattle.fs_gluing.proofs.partners.Partners.get.Goals as goal

pub returns-then-c-self : goal.returns-then-c-self
returns-then-c-self c =
    c.unwrap_or.ensures
    ∙ ap (λ (o : Option (Option Corner)). unwrap_or o None) c.copied.ensures
    ∙ c.get.ensures.lookup.4 (omega arith) None
    ∙ ap (λ m. get_or m (c.args.c.polygon * c.self.inside.width + c.args.c.side) None) c.deref.ensures.value
    ∙ partner-read _ c.args.c c.if-c-self.true
    ∙ ap (λ t. partner_of t c.args.c) c.self.view_is

pub returns-else-c-self : goal.returns-else-c-self
returns-else-c-self c = partner-beyond _ c.args.c (λ h. absurd (omega arith)) ∙ ap (λ t. partner_of t c.args.c) c.self.view_is
