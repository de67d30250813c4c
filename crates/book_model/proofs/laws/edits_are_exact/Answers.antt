use Rattle.book_model.proofs.EditLaws.{refused_same, missing_same, edit_done, edit_within}
use Rattle.book_model.proofs.laws.edits_are_exact.Goals as goal

pub returns : goal.returns
returns c = record { refused = refused_same; missing = missing_same; changed = edit_done; within = edit_within }
