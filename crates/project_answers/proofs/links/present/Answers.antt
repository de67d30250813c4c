use Rattle.std.proofs.Common.{◌≡◌, length, subst}
use Rattle.std.specs.Prelude.{Some, None}
use Rattle.std.specs.Option.{option_map}
use Rattle.project_files.specs.Kept.{content_at}
use Rattle.project_answers.proofs.ListedLaws.{present_new, present_gone, present_there}
use Rattle.project_answers.proofs.links.present.Goals as goal

pub returns-in-None : goal.returns-in-None
returns-in-None c = present_new c.args.project.now.files c.args.name.now c.in-None.ensures

pub returns-in-Some-size : goal.returns-in-Some-size
returns-in-Some-size c =
    present_there c.args.project.now.files c.args.name.now c.in-Some.file c.in-Some-size.field-0 c.in-Some.ensures
    (subst (λ fs. Some c.in-Some-size.field-0 ≡ option_map (λ x. length x.text) (content_at fs c.in-Some.file)) c.files.ensures.lent c.in-Some-size.ensures)

pub returns-in-None-size : goal.returns-in-None-size
returns-in-None-size c =
    present_gone c.args.project.now.files c.args.name.now c.in-Some.file c.in-Some.ensures
    (subst (λ fs. None ≡ option_map (λ x. length x.text) (content_at fs c.in-Some.file)) c.files.ensures.lent c.in-None-size.ensures)
