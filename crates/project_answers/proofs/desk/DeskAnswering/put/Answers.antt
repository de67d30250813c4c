use Rattle.std.proofs.Common.{◌≡◌, ◌∙◌, ap, subst, sym}
use Rattle.book_model.specs.Answers.{Command as Asked}
use Rattle.project_book.specs.Held.{Held}
use Rattle.sysml_session.specs.Answered.{IsAnswered, across}
use Rattle.project_answers.specs.Holds.{holding_of}
use Rattle.project_answers.proofs.desk.DeskAnswering.put.Goals as goal
use Rattle.project_answers.proofs.desk.DeskAnswering.put.Goals.{then-self, else-self, then-follows, else-follows}

pub returns : goal.returns
returns g c =
    let before : c.if-self.self-inside.project ≡ c.args.self.now.held = elim c.if-self.branch [
      | then-self w ↦ ap (λ s. s.project) w.self-inside-is ∙ ap (λ d. d.held) c.self.view_is
      | else-self w ↦ ap (λ s. s.project) w.self-inside-is ∙ ap (λ d. d.held) c.self.view_is
    ] in
    let after : c.if-follows.self-inside.project ≡ c.answer_put-answered.new.project = elim c.if-follows.branch [
      | then-follows w ↦ ap (λ s. s.project) w.self-inside-is
      | else-follows w ↦ ap (λ s. s.project) w.self-inside-is
    ] in
    let asked = Asked.Put c.args.name c.args.text in
    let result = c.answer_put-answered.result in
    let moved = across g.K.Sink.given g.K.Sink.faults c.args.output.now c.answer_put-answered.new.output in
    record {
      answered = subst (λ (p : Held). IsAnswered (holding_of c.args.self.now.held) (holding_of p) asked moved result) (sym after)
          (subst (λ (p : Held). IsAnswered (holding_of p) (holding_of c.answer_put-answered.new.project) asked moved result) before
          c.answer_put-answered.ensures.answered);
    }
