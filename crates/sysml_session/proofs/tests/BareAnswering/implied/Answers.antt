use Rattle.std.proofs.Common.{refl}
use Rattle.std.specs.Prelude.{codes}
use Rattle.book_model.specs.Answers.{Command as Asked}
use Rattle.sysml_session.proofs.Bare.{answered_bare, implied_of_none}
use Rattle.sysml_session.proofs.tests.BareAnswering.implied.Goals as goal

pub returns : goal.returns
returns g c = record {
  answered = answered_bare Asked.Implied (codes "implied 0\n") _ c.give_piece.result refl refl implied_of_none c.give_piece.ensures;
}
