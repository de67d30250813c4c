use Rattle.std.proofs.Common.{◌++◌, ◌∙◌, ap, codes}
use Rattle.token_core.specs.Spelling.{name_spelling}
use Rattle.written_names.proofs.NameLaws.{one_written}
use Rattle.written_names.proofs.names.write_path.Goals as goal

pub loop-index-preserved : goal.loop-index-preserved
loop-index-preserved c =
    let read = ap (λ name. c.write_separator.new.answer.items ++ name_spelling c.args.language name) c.index-path-index.is in
    one_written (name_spelling c.args.language) (codes "::") c.args.answer.now.items c.loop-index.answer.items c.write_separator.new.answer.items
    c.write_name.new.answer.items c.args.path.now c.loop-index.index c.index-path-index.result c.loop-index-test.true c.loop-index.invariant
    c.in_ok-write_separator.ensures (c.in_ok-write_name.ensures ∙ read)
