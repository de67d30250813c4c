use Rattle.std.proofs.Common.{◌∙◌, length, sym, ap}
use Rattle.project_book.proofs.NamedLaws.{own_under}
use Rattle.project_answers.proofs.following.place_of.Goals as goal

pub returns-in-Some-clause-own : goal.returns-in-Some-clause-own
returns-in-Some-clause-own c = own_under c.args.project.now.files c.args.name.now c.in-Some.file.0 c.in-Some.ensures.0

pub returns-in-None-clause-own : goal.returns-in-None-clause-own
returns-in-None-clause-own c =
    own_under c.args.project.now.files c.args.name.now c.count.result
    (c.in-None.ensures ∙ sym (c.count.ensures ∙ ap length c.files.ensures.lent))
