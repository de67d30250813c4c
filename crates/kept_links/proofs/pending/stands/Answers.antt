use Rattle.std.proofs.Common.{◌∙◌, ap, sym}
use Rattle.std.specs.Option.{option_copied}
use Rattle.kept_links.proofs.WorkLaws.{none_without, stands_with}
use Rattle.kept_links.proofs.pending.stands.Goals as goal

pub returns-in-Some : goal.returns-in-Some
returns-in-Some c =
    stands_with c.args.models.now c.args.key c.in-Some.model.now c.references.result (sym c.model.ensures.kept ∙ ap option_copied c.in-Some.is)
    c.references.ensures

pub returns-in-None : goal.returns-in-None
returns-in-None c = ((λ t. cc), (λ m. absurd (none_without c.args.models.now c.args.key (sym c.model.ensures.kept ∙ ap option_copied c.in-None.is) m)))
