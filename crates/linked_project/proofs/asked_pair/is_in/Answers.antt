use Rattle.std.proofs.Common.{◌∙◌, ap, sym}
use Rattle.linked_project.specs.AskedPairs.{is_in}
use Rattle.linked_project.proofs.PairLaws.{in_number}
use Rattle.linked_project.proofs.asked_pair.is_in.Goals as goal

pub returns-in-Word : goal.returns-in-Word
returns-in-Word c = sym (ap is_in c.in-Word.is ∙ in_number c.in-Word.number)
