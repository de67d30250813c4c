use Rattle.link_model.proofs.EditLaws.{edit_keeps}
use Rattle.link_model.proofs.KeptLinks.{edit_changes_nothing, edit_asks_the_same}
use Rattle.link_model.proofs.laws.edits_keep_links.Goals as goal

pub returns : goal.returns
returns c = record {
  rules = λ files f s m edit. edit_keeps files f s m edit.stands edit.own;
  outcomes = edit_changes_nothing;
  askings = edit_asks_the_same;
}
