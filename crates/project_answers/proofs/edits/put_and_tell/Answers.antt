use Rattle.std.proofs.Common.{◌++◌, refl, ap}
use Rattle.std.specs.Prelude.{codes}
use Rattle.std.specs.Option.{option_map}
use Rattle.book_model.specs.Rows.{report_of}
use Rattle.project_files.specs.Kept.{content_at}
use Rattle.project_answers.specs.Lines.{put_rest}
use Rattle.project_answers.proofs.AnswerLaws.{put_answered}
use Rattle.project_answers.proofs.edits.put_and_tell.Goals as goal

pub returns-in-Ok-clause-answered : goal.returns-in-Ok-clause-answered
returns-in-Ok-clause-answered g c =
    let o = option_map report_of (content_at c.put.new.self.files c.in-Ok.file) in
    put_answered c.args.project.now c.put.new.self c.args.name c.args.text c.in-Ok.file (c.args.line.items ++ put_rest o ++ codes "\n") o _ c.tell_put.result
    c.in-Ok.ensures.put.0 c.in-Ok.ensures.put.1.0 c.files.ensures.are refl (ap (λ l. l ++ put_rest o ++ codes "\n") c.requires.begun) c.tell_put.ensures
