use Rattle.std.proofs.Common.{◌≡◌, ℕ, List, ap, sym, ◌∙◌, subst}
use Rattle.token_core.specs.declared.token.TokenKind.TheVariants.{Quote}
use Rattle.token_core.specs.Spelling.{string_spelling, IsOneToken}
use Rattle.token_core.specs.Reading.{string_meaning}
use Rattle.token_core.proofs.Spellings.{string_one, string_back}
use Rattle.token_core.proofs.spelling.spell_string.Goals as goal

pub returns-clause-one : goal.returns-clause-one
returns-clause-one c = λ language.
    let e : c.of.result ≡ string_spelling c.args.text.now = c.of.ensures ∙ (c.in_ok-spelling.ensures ∙ ap string_spelling c.bytes.ensures) in
    subst (λ (x : List ℕ). IsOneToken language Quote x) (sym e) (string_one language c.args.text.now c.requires)

pub returns-clause-back : goal.returns-clause-back
returns-clause-back c =
    let e : c.of.result ≡ string_spelling c.args.text.now = c.of.ensures ∙ (c.in_ok-spelling.ensures ∙ ap string_spelling c.bytes.ensures) in
    ap string_meaning e ∙ string_back c.args.text.now
