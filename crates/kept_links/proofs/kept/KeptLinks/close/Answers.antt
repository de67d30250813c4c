use Rattle.std.proofs.Common.{◌∙◌}
use Rattle.kept_links.proofs.KeptLaws.{closed_kept}
use Rattle.kept_links.proofs.KeyLaws.{there}
use Rattle.kept_links.proofs.kept.KeptLinks.close.Goals as goal

pub returns : goal.returns
returns c =
    let file = there c.args.models.now c.args.file.0 c.requires.within in
    closed_kept c.args.models.now c.args.file file.0 file.1 (c.requires.own file.0 file.1) c.deref.result.now
    (c.deref.ensures.value ∙ c.in_ok-facts.ensures) c.args.self.now c.let_go.new.self c.requires.kept c.in_ok-let_go.ensures
