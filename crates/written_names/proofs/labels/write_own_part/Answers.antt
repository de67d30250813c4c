use Rattle.std.proofs.Common.{◌≡◌, ◌++◌, ◌∙◌, sym, ap, subst, codes, append_assoc}
use Rattle.std.specs.Result.{OnOk}
use Rattle.std.specs.Fmt.{decimal}
use Rattle.token_core.specs.Spelling.{name_spelling}
use Rattle.written_names.proofs.NameLaws.{own_is, own_named, own_numbered, own_spellable}
use Rattle.written_names.proofs.labels.write_own_part.Goals as goal

pub write_name-requires : goal.write_name-requires
write_name-requires c =
    let x = c.element.result.now in
    own_spellable x c.in-Some.name.now (c.requires.spellable.names c.args.element x c.element.ensures.lent) c.in-Some.ensures

pub returns-in-Some : goal.returns-in-Some
returns-in-Some c =
    let x = c.element.result.now in
    let own = own_is c.args.model.now c.args.element x c.element.ensures.lent
    ∙ own_named c.args.model.now.language c.args.element x c.in-Some.name.now c.in-Some.ensures in
    let same = ap (λ l. name_spelling l c.in-Some.name.now) c.language.ensures ∙ sym own in
    subst (λ part. OnOk c.write_name.result (c.write_name.new.answer.items ≡ c.args.answer.now.items ++ part)) same c.write_name.ensures

pub returns-in_ok-write-in-None : goal.returns-in_ok-write-in-None
returns-in_ok-write-in-None c =
    let x = c.element.result.now in
    let own = own_is c.args.model.now c.args.element x c.element.ensures.lent ∙ own_numbered c.args.model.now.language c.args.element x c.in-None.ensures in
    let same = ap (λ bytes. bytes ++ decimal c.args.element) c.in_ok-write-in-None.ensures
    ∙ append_assoc c.args.answer.now.items (codes "#") (decimal c.args.element) ∙ ap (λ part. c.args.answer.now.items ++ part) (sym own) in
    subst (λ bytes. OnOk c.write_number.result (c.write_number.new.answer.items ≡ bytes)) same c.write_number.ensures
