use Rattle.std.proofs.Common.{◌≡◌, ◌≤◌, ℕ, List, length, ap, sym, ◌∙◌, subst}
use Rattle.std.specs.Prelude.{IsUtf8}
use Rattle.token_core.specs.Reading.{bytes_of, comment_meaning, commented}
use Rattle.token_core.proofs.Meanings.{comment_long, comment_again, comment_utf8}
use Rattle.token_core.proofs.reading.comment_of.Goals as goal

pub inside-bytes-requires : goal.inside-bytes-requires
inside-bytes-requires c = subst (λ (bs : List ℕ). 4 ≤ length bs) (sym c.token_bytes.ensures) (comment_long c.args.text.now c.args.token c.requires)

pub returns-clause-utf8 : goal.returns-clause-utf8
returns-clause-utf8 c =
    let e : c.of.result ≡ comment_meaning (bytes_of c.args.text.now c.args.token) =
    c.of.ensures ∙ (c.in_ok-from_slice.ensures.items ∙ (c.inside-bytes.ensures ∙ ap comment_meaning c.token_bytes.ensures)) in
    subst IsUtf8 (sym e) (comment_utf8 c.args.text.now c.args.token c.requires)

pub returns-clause-again : goal.returns-clause-again
returns-clause-again c =
    let e : c.of.result ≡ comment_meaning (bytes_of c.args.text.now c.args.token) =
    c.of.ensures ∙ (c.in_ok-from_slice.ensures.items ∙ (c.inside-bytes.ensures ∙ ap comment_meaning c.token_bytes.ensures)) in
    ap commented e ∙ comment_again c.args.text.now c.args.token c.requires
