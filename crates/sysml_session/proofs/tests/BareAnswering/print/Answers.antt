use Rattle.std.proofs.Common.{◌∙◌, refl, ap}
use Rattle.std.specs.Prelude.{codes}
use Rattle.book_model.specs.Answers.{Command as Asked, line, no_file}
use Rattle.sysml_session.proofs.Bare.{answered_bare}
use Rattle.sysml_session.proofs.tests.BareAnswering.print.Goals as goal

pub returns-in-Ok : goal.returns-in-Ok
returns-in-Ok g c = record {
  answered = answered_bare (Asked.Print c.args.name.now) c.deref.result.now _ c.give_piece.result refl refl
      (c.deref.ensures.value ∙ (c.in-Ok.ensures ∙ ap (λ n. line (codes "print") n no_file) c.bytes.ensures.lent)) c.give_piece.ensures;
}
