use Rattle.std.proofs.Common.{[], sym, subst}
use Rattle.link_model.specs.Asking.{ask}
use Rattle.link_model.specs.Outside.{library_of}
use Rattle.link_walk.specs.Calls.{reading}
use Rattle.link_tiers.specs.Answered.{Answered}
use Rattle.name_resolution.proofs.StepLaws.{key_stands, asked_files, asked_step, asked_looks}
use Rattle.name_resolution.proofs.rules.LinkRulesRulesLinkKeyOutcomeLinkFact.ask.Goals as goal

pub ask-requires-clause-stands : goal.ask-requires-clause-stands
ask-requires-clause-stands g c = key_stands c.args.self.now.models.now c.args.key c.requires.key

pub step_of-requires-clause-files : goal.step_of-requires-clause-files
step_of-requires-clause-files g c =
    let files = c.args.self.now.models.now in
    asked_files files c.requires.valid.files c.args.table.now c.args.key c.in_ok-outcome.outcome c.ask.new.notes
    (subst (λ n. Answered (ask (library_of files) c.args.key.0 (reading files c.args.table.now)) c.in_ok-outcome.outcome n c.ask.new.notes) c.new-notes.ensures
    c.in_ok-outcome.ensures)

pub returns-clause-answer : goal.returns-clause-answer
returns-clause-answer g c =
    let files = c.args.self.now.models.now in
    asked_step files c.requires.valid.files c.args.table.now c.args.key c.in_ok-outcome.outcome c.ask.new.notes
    (subst (λ n. Answered (ask (library_of files) c.args.key.0 (reading files c.args.table.now)) c.in_ok-outcome.outcome n c.ask.new.notes) c.new-notes.ensures
    c.in_ok-outcome.ensures) c.in_ok-step.step c.in_ok-step.ensures

pub returns-clause-looks : goal.returns-clause-looks
returns-clause-looks g c =
    let files = c.args.self.now.models.now in
    asked_looks files c.requires.valid.files c.args.table.now c.args.key c.in_ok-outcome.outcome c.ask.new.notes
    (subst (λ n. Answered (ask (library_of files) c.args.key.0 (reading files c.args.table.now)) c.in_ok-outcome.outcome n c.ask.new.notes) c.new-notes.ensures
    c.in_ok-outcome.ensures) c.args.looks.now c.tell.new.looks c.in_ok-tell.ensures
