use Rattle.std.proofs.Common.{◌≡◌, ◌++◌, sym, subst, codes}
use Rattle.std.specs.Result.{OnOk}
use Rattle.std.specs.Fmt.{decimal}
use Rattle.book_model.specs.Live.{NamesLive}
use Rattle.book_model.specs.Printed.{outcome_text, spot_text}
use Rattle.book_model.specs.Queries.{member_place}
use Rattle.project_files.proofs.KeptLaws.{behind, behind_last, live_within}
use Rattle.project_files.proofs.outcomes.write_outcome.Goals as goal

pub write_spot-requires : goal.write_spot-requires
write_spot-requires c =
    let live = subst (NamesLive c.args.files.now) c.in-Cyclic.is c.requires in
    live_within c.args.files.now c.in-Cyclic.on.file live.0 live.1

pub returns-in_ok-write-in-Ambiguous-3 : goal.returns-in_ok-write-in-Ambiguous-3
returns-in_ok-write-in-Ambiguous-3 c =
    let files = c.args.files.now in
    let old = c.args.answer.now.items in
    let one = c.in_ok-write-in-Ambiguous.ensures in
    let two = behind old (codes "ambiguous ") (decimal c.in-Ambiguous.segment) _ _ one c.in_ok-write_number-in-Ambiguous.ensures in
    let three = behind old _ (codes " ") _ _ two c.in_ok-write-in-Ambiguous-2.ensures in
    let four = behind old _ (spot_text files c.in-Ambiguous.first.file (member_place files c.in-Ambiguous.first)) _ _ three
    c.in_ok-write_member-in-Ambiguous.ensures in
    let five = behind old _ (codes " ") _ _ four c.in_ok-write-in-Ambiguous-3.ensures in
    let last = behind_last c.write_member-in-Ambiguous.result old _ (spot_text files c.in-Ambiguous.second.file (member_place files c.in-Ambiguous.second)) _ _
    five c.write_member-in-Ambiguous.ensures in
    subst (λ o. OnOk c.write_member-in-Ambiguous.result (c.write_member-in-Ambiguous.new.answer.items ≡ old ++ outcome_text files o))
    (sym c.in-Ambiguous.is) last
