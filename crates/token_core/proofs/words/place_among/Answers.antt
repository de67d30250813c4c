use Rattle.std.proofs.Common.{rules, ◌≡◌, ◌∙◌, List, ℕ}
use Rattle.std.specs.Borrow.{Bor}
use Rattle.std.specs.List.{position}
use Rattle.std.specs.Str.{bytes_eq}
use borrow.Author.Tests.{tests}
use Rattle.std.proofs.lemmas.Iterator.{YieldsList-from_slice}
use Rattle.std.proofs.lemmas.Iterator.Search.{position_from_yields_List}
use Rattle.token_core.proofs.Places.{place_lent}
use Rattle.token_core.proofs.words.place_among.Goals as goal

pub returns-clause-value : goal.returns-clause-value
returns-clause-value c =
    let e : c.position.result ≡ position (λ (w : Bor (List ℕ)). bytes_eq w.now c.args.bytes.now) c.args.words.now =
    position_from_yields_List (λ (w : Bor (List ℕ)). bytes_eq w.now c.args.bytes.now) _ _ _ c.position.ensures.ran (
    YieldsList-from_slice c.args.words.now (cc)) (λ x b q k. search (rules, tests)) in
    e ∙ place_lent c.args.words.now c.args.bytes.now
