use Rattle.std.proofs.Common.{codes}
use Rattle.book_model.specs.Printed.{element_text, spot_text}
use Rattle.book_model.specs.Queries.{label, member_place}
use Rattle.project_files.proofs.KeptLaws.{behind, behind_last}
use Rattle.project_files.proofs.outcomes.write_implication.Goals as goal

pub returns : goal.returns
returns c =
    let files = c.args.files.now in
    let old = c.args.answer.now.items in
    let one = c.in_ok-write_member.ensures in
    let two = behind old (spot_text files c.args.member.file (member_place files c.args.member)) (codes " ") _ _ one c.in_ok-write.ensures in
    let three = behind old _ (label files c.args.of) _ _ two c.in_ok-write_type.ensures in
    let four = behind old _ (codes " -> ") _ _ three c.in_ok-write-2.ensures in
    behind_last c.write_element.result old _ (element_text files c.args.base) _ _ four c.write_element.ensures
