use Rattle.std.proofs.Common.{All, subst, sym}
use Rattle.token_core.specs.Reading.{IsSpellable}
use Rattle.written_names.proofs.names.write_reference.Goals as goal

pub write_path-requires : goal.write_path-requires
write_path-requires c =
    let r = c.reference-reference in
    subst (All IsSpellable) (sym c.as_slice.ensures) (c.requires.spellable.paths c.args.index r.result.now r.ensures.lent).0

pub write_chain-requires : goal.write_chain-requires
write_chain-requires c =
    let r = c.reference-reference in
    subst (All IsSpellable) (sym c.as_slice-2.ensures) (c.requires.spellable.paths c.args.index r.result.now r.ensures.lent).1
