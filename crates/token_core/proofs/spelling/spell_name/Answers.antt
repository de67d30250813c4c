use Rattle.std.proofs.Common.{◌≡◌, ℕ, List, ap, sym, ◌∙◌, subst}
use Rattle.token_core.specs.declared.token.TokenKind.TheVariants.{Name}
use Rattle.token_core.specs.Spelling.{name_spelling, IsOneToken}
use Rattle.token_core.specs.Reading.{name_meaning}
use Rattle.token_core.proofs.Spellings.{name_one, name_back}
use Rattle.token_core.proofs.spelling.spell_name.Goals as goal

pub returns-clause-one : goal.returns-clause-one
returns-clause-one c =
    let e : c.of.result ≡ name_spelling c.args.language c.args.name.now = c.of.ensures ∙ (c.in_ok-spelling.ensures ∙ ap (name_spelling c.args.language) c.bytes.ensures) in
    subst (λ (x : List ℕ). IsOneToken c.args.language Name x) (sym e) (name_one c.args.language c.args.name.now c.requires)

pub returns-clause-back : goal.returns-clause-back
returns-clause-back c =
    let e : c.of.result ≡ name_spelling c.args.language c.args.name.now = c.of.ensures ∙ (c.in_ok-spelling.ensures ∙ ap (name_spelling c.args.language) c.bytes.ensures) in
    ap name_meaning e ∙ name_back c.args.language c.args.name.now
