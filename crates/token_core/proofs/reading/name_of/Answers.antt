use Rattle.std.proofs.Common.{◌≡◌, ℕ, List, ap, sym, ◌∙◌, subst}
use Rattle.token_core.specs.Reading.{bytes_of, name_meaning, IsSpellable}
use Rattle.token_core.proofs.Meanings.{name_spellable}
use Rattle.token_core.proofs.reading.name_of.Goals as goal

pub returns-clause-spellable : goal.returns-clause-spellable
returns-clause-spellable c =
    let e : c.of.result ≡ name_meaning (bytes_of c.args.text.now c.args.token) = c.of.ensures ∙ (c.in_ok-bytes.ensures ∙ ap name_meaning c.token_bytes.ensures) in
    subst (λ (x : List ℕ). IsSpellable x) (sym e) (name_spellable c.args.text.now c.args.token c.requires)
