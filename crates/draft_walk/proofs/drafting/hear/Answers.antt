use Rattle.std.proofs.Common.{◌≡◌, sym, subst}
use Rattle.token_core.specs.Reading.{AreTokensOf}
use Rattle.text_model.specs.Tables.{tables}
use Rattle.draft_walk.specs.Telling.{Telling}
use Rattle.draft_walk.proofs.Known.{told_known}
use Rattle.draft_walk.proofs.drafting.hear.Goals as goal

pub returns-in-Ok-clause-known : goal.returns-in-Ok-clause-known
returns-in-Ok-clause-known c =
    let s = c.args.source.now in
    subst (λ (t : Telling). AreTokensOf s.text.now t.now.rest) (sym c.in-Ok.ensures)
    (told_known (tables s.language) s.text.now c.args.teller.now c.args.event c.requires)
