use Rattle.std.proofs.Common.{◌≡◌, ◌≤◌, ℕ, List, length, take, get_or, ap, subst, arith}
use Rattle.std.specs.Prelude.{Option, None, Some, Err}
use Rattle.ll_core.specs.Table.{Table, table_of}
use Rattle.ll_core.specs.Derives.{StopsAt, IsSyntaxPlace}
use Rattle.ll_core.proofs.Places.{place_at, place_end}
use Rattle.ll_core.proofs.whole.parse.Goals as goal

pub returns-in-Err-Syntax-clause-syntax : goal.returns-in-Err-Syntax-clause-syntax
returns-in-Err-Syntax-clause-syntax c place e =
    let tokens = c.args.tokens.now in
    let at = c.loop-place.place in
    let same : at ≡ place = cc in
    let stops = c.in-Err-Syntax.ensures.syntax (ap Err c.in-Err-Syntax.field-0-is) in
    let look : Option ℕ = Some (get_or tokens at 0) in
    let here : StopsAt (table_of c.args.grammar) (take at tokens) look = subst (λ (t : Table). StopsAt t (take at tokens) look) c.loop-place.invariant.table
    (subst (λ (ks : List ℕ). StopsAt c.loop-place.parser.table ks look) c.loop-place.invariant.shifted stops) in
    subst (λ n. IsSyntaxPlace (table_of c.args.grammar) tokens n) same (place_at (table_of c.args.grammar) tokens at 0 c.loop-place-test.true here)

pub returns-in-Err-Syntax-finish-clause-syntax : goal.returns-in-Err-Syntax-finish-clause-syntax
returns-in-Err-Syntax-finish-clause-syntax c place e =
    let tokens = c.args.tokens.now in
    let at = c.loop-place.place in
    let same : length tokens ≡ place = cc in
    let past : length tokens ≤ at = omega arith in
    let stops = c.in-Err-Syntax-finish.ensures.syntax (ap Err c.in-Err-Syntax-finish.field-0-is) in
    let here : StopsAt (table_of c.args.grammar) (take at tokens) None = subst (λ (t : Table). StopsAt t (take at tokens) None) c.loop-place.invariant.table
    (subst (λ (ks : List ℕ). StopsAt c.loop-place.parser.table ks None) c.loop-place.invariant.shifted stops) in
    subst (λ n. IsSyntaxPlace (table_of c.args.grammar) tokens n) same (place_end (table_of c.args.grammar) tokens at past here)
