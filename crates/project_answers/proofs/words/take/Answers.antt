use Rattle.std.proofs.Common.{◌∙◌, sym}
use Rattle.project_answers.proofs.NameLaws.{took_name}
use Rattle.project_answers.proofs.words.take.Goals as goal

pub returns : goal.returns
returns c =
    took_name c.args.words.now c.args.token c.args.named c.args.path.now c.push.new.self c.in_ok-name_of.field-0 c.if-named.false
    (sym c.is_name.ensures ∙ c.if-not-is_name.false) c.in_ok-name_of.ensures.value c.in_ok-push.ensures.ok
