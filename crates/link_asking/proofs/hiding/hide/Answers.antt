use Rattle.std.proofs.Common.{◌∙◌, ap, map}
use Rattle.link_model.specs.Asking.{hidden_by}
use Rattle.link_model.specs.Lexical.{least_of}
use Rattle.link_walk.specs.Calls.{files_of}
use Rattle.link_tiers.specs.Picks.{ranked, files_looked}
use Rattle.link_walk.specs.Noted.{noted}
use Rattle.std.proofs.Common.{[]}
use Rattle.link_asking.proofs.HidingLaws.{hiding_answered, kept_within}
use Rattle.link_asking.proofs.hiding.hide.Goals as goal

pub least-first-requires : goal.least-first-requires
least-first-requires c =
    kept_within (files_of c.args.view.now) c.args.ranks.now c.requires.ranks c.args.hits.now c.as_slice-members.result.now c.requires.hits
    (c.as_slice-members.ensures ∙ c.in_ok-kept.ensures)

pub returns : goal.returns
returns c =
    let files = files_of c.args.view.now in
    let is = c.as_slice-members.ensures ∙ c.in_ok-kept.ensures in
    hiding_answered files c.args.view.now.table.now c.args.number c.args.hits.now c.ending.result c.args.notes.now c.note_files.new.notes
    c.note_files-2.new.notes
    (c.ending.ensures files ∙ ap (hidden_by c.args.number) (c.least-first.ensures.least files c.files.ensures.kept c.requires.ranks
    ∙ ap (λ hs. least_of (map (ranked files) hs)) is))
    c.in_ok-note_files.ensures (c.in_ok-note_files-2.ensures ∙ ap (λ hs. noted [] (files_looked hs) c.note_files.new.notes) is)
