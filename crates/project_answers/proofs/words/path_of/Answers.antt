use Rattle.std.proofs.Common.{◌∙◌, sym, ap}
use Rattle.std.specs.Prelude.{false}
use Rattle.book_model.specs.AskedNames.{path_from}
use Rattle.project_answers.specs.Words.{path_behind}
use Rattle.project_answers.proofs.NameLaws.{get_among, nothing_behind, path_ended}
use Rattle.project_answers.proofs.words.path_of.Goals as goal

pub loop-token-init : goal.loop-token-init
loop-token-init c =
    nothing_behind (path_from false c.args.words.now c.args.tokens.now)
    ∙ ap (λ names. path_behind names false c.args.words.now c.args.tokens.now) (sym c.new-path.ensures)

pub take-requires : goal.take-requires
take-requires c = c.requires _ (get_among c.args.tokens.now c.loop-token.token-index _ c.loop-token-test.true)

pub returns-then-not-branch : goal.returns-then-not-branch
returns-then-not-branch c =
    path_ended c.args.words.now c.args.tokens.now c.loop-token.token-index _ c.loop-token.named c.loop-token.path c.take.new.path
    c.in_ok-take.field-0 c.loop-token-test.true c.loop-token.invariant c.in_ok-take.ensures c.if-not-branch.true
