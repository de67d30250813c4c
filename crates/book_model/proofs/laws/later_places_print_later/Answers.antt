use Rattle.book_model.proofs.PlaceLaws.{printed_later}
use Rattle.book_model.proofs.laws.later_places_print_later.Goals as goal

pub returns : goal.returns
returns c = printed_later
