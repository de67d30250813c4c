use Rattle.std.proofs.Common.{refl}
use Rattle.std.specs.Prelude.{None, codes}
use Rattle.project_answers.proofs.FindLaws.{find_answered}
use Rattle.project_answers.proofs.finding.answer_bad_name.Goals as goal

pub returns : goal.returns
returns g c =
    find_answered c.args.project.now c.args.words.now None (codes "find bad name\n") _ c.give_piece.result c.requires.whole c.files.ensures.are
    c.requires.none refl c.give_piece.ensures
