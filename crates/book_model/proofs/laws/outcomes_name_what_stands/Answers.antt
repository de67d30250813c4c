use Rattle.book_model.proofs.FoundLaws.{found_live}
use Rattle.book_model.proofs.LiveLaws.{key_live, outcome_live}
use Rattle.book_model.proofs.laws.outcomes_name_what_stands.Goals as goal

pub returns : goal.returns
returns c = record { keys = key_live; named = outcome_live; found = found_live }
