use Rattle.std.proofs.Common.{◌∙◌, sym, ap, ◌++◌}
use Rattle.project_files.proofs.KeptLaws.{reference_written}
use Rattle.project_files.proofs.outcomes.write_text.Goals as goal

pub returns : goal.returns
returns c =
    let written = reference_written c.args.files.now c.args.reference c.requires.0 c.requires.1 c.requires.2 c.model.result.now c.model.ensures.model in
    c.in_ok-write_reference.ensures written.0 written.1 ∙ ap (λ bytes. c.args.answer.now.items ++ bytes) (sym written.2)
