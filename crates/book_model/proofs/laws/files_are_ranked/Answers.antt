use Rattle.book_model.proofs.RankedLaws.{files_ranked, ranked_rise}
use Rattle.book_model.proofs.laws.files_are_ranked.Goals as goal

pub returns : goal.returns
returns c = record { order = files_ranked; rising = ranked_rise }
