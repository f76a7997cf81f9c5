use Rattle.std.proofs.Common.{sym, ◌∙◌, ap, subst}
use Rattle.fs_gluing.specs.PartnerTable.{partner_of, HasPlace}
use Rattle.fs_gluing.proofs.Gluing.PartnerTables.{put-here, put-others, put-places}
use Rattle.fs_gluing.proofs.partners.Partners.insert.Goals as goal

pub returns-clause-here : goal.returns-clause-here
returns-clause-here c = put-here _ c.args.c c.args.partner (subst (λ t. HasPlace t c.args.c) (sym c.self.view_is) c.requires)

pub returns-clause-others : goal.returns-clause-others
returns-clause-others c = λ e n. put-others _ c.args.c c.args.partner (subst (λ t. HasPlace t c.args.c) (sym c.self.view_is) c.requires) e n ∙ ap (λ t. partner_of t e) c.self.view_is

pub returns-clause-places : goal.returns-clause-places
returns-clause-places c = λ e h.
    put-places _ c.args.c c.args.partner (subst (λ t. HasPlace t c.args.c) (sym c.self.view_is) c.requires) e (subst (λ t. HasPlace t e) (sym c.self.view_is) h)
