use Rattle.std.proofs.Common.{[], subst}
use Rattle.link_model.specs.Asking.{find_by}
use Rattle.link_model.specs.Outside.{library_of}
use Rattle.link_walk.specs.Calls.{reading}
use Rattle.link_tiers.specs.Answered.{Answered}
use Rattle.name_resolution.proofs.StepLaws.{found_files, found_end}
use Rattle.name_resolution.proofs.finding.find.Goals as goal

pub ended-requires-clause-files : goal.ended-requires-clause-files
ended-requires-clause-files g c =
    let files = c.args.rules.now.models.now in
    let w = reading files c.args.table.now in
    found_files files c.requires.ready.files c.args.table.now c.args.name.now.path c.in_ok-outcome.outcome c.find.new.notes
    (subst (λ n. Answered (find_by (library_of files) c.args.name.now.path w) c.in_ok-outcome.outcome n c.find.new.notes) c.new-notes.ensures
    (subst (λ ps. Answered (find_by (library_of files) ps w) c.in_ok-outcome.outcome c.new-notes.result c.find.new.notes) c.as_slice.ensures
    c.in_ok-outcome.ensures))

pub returns : goal.returns
returns g c =
    let files = c.args.rules.now.models.now in
    let w = reading files c.args.table.now in
    found_end files c.requires.ready.files c.args.table.now c.args.name.now.path c.in_ok-outcome.outcome c.find.new.notes
    (subst (λ n. Answered (find_by (library_of files) c.args.name.now.path w) c.in_ok-outcome.outcome n c.find.new.notes) c.new-notes.ensures
    (subst (λ ps. Answered (find_by (library_of files) ps w) c.in_ok-outcome.outcome c.new-notes.result c.find.new.notes) c.as_slice.ensures
    c.in_ok-outcome.ensures)) c.in_ok-found.found c.in_ok-found.ensures
