use Rattle.std.proofs.Common.{◌≡◌, List, get_or, subst, sym, ◌∙◌, arith}
use Rattle.token_core.specs.declared.token.Token.{Token}
use Rattle.token_core.specs.declared.token.TokenKind.{TokenKind}
use Rattle.token_core.specs.declared.token.TokenKind.TheVariants.{Name}
use Rattle.linker_base.specs.Members.{IsMember}
use Rattle.token_core.specs.Reading.{IsTokenOf}
use Rattle.token_core.proofs.Kept.{lex_token, first_member}
use Rattle.token_core.proofs.tests.first_token.Goals as goal

pub returns-in-len1-up : goal.returns-in-len1-up
returns-in-len1-up c =
    let d : Token = record { kind = Name; from = 0; upto = 0 } in
    let first : Token = get_or c.as_slice.result.now 0 d in
    let kinds : first.kind ≡ c.args.kind = sym (c.terminal_of.ensures.own c.args.kind c.requires (sym c.terminal_of-in-Ok.ensures.value ∙ sym c.if-terminal_of.true)) in
    let whole = c.in-Ok.ensures in
    subst (λ (k : TokenKind). IsTokenOf k c.args.text.now first) kinds (
    lex_token c.args.language c.args.text.now c.in-Ok.tokens whole.0 whole.1 first (
    subst (λ (ts : List Token). IsMember ts first) c.as_slice.ensures (first_member c.as_slice.result.now d (omega arith))))
