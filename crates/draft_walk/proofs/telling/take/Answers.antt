use Rattle.std.proofs.Common.{◌≡◌, ap, ◌∙◌}
use Rattle.text_model.specs.Tables.{tables}
use Rattle.draft_walk.specs.Telling.{is_plain}
use Rattle.draft_walk.proofs.Laws.{comment_taken}
use Rattle.draft_walk.proofs.Plain.{plain_meaning}
use Rattle.draft_walk.proofs.telling.take.Goals as goal

pub take_word-requires : goal.take_word-requires
take_word-requires c =
    let k = c.in_default-kind in
    ap is_plain c.meaning_of.ensures ∙ plain_meaning c.args.source.now.language c.in-Some.token.kind k.not-Name k.not-Integer k.not-Quote k.not-Comment

pub returns-in_ok-comment_of-in-Comment : goal.returns-in_ok-comment_of-in-Comment
returns-in_ok-comment_of-in-Comment c =
    c.set_body.ensures ∙ comment_taken (tables c.args.source.now.language) c.args.source.now.text.now c.args.action c.args.walker.now c.take_token.new.self
    c.in-Some.token c.take_token.new.self.rest c.in_ok-comment_of-in-Comment.field-0
    c.in-Some.ensures.token c.in-Some.ensures.rest c.in-Comment.is c.in_ok-comment_of-in-Comment.ensures.value
