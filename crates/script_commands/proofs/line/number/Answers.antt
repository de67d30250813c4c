use Rattle.std.proofs.Common.{◌≡◌, ◌∙◌, arith, sym, subst, ap, true, false, not}
use Rattle.std.specs.Prelude.{Ok, bytes_eq}
use Rattle.std.specs.Str.{IsUtf8}
use Rattle.std.proofs.lemmas.Fmt.{IsAscii-decimal, parse-decimal}
use Rattle.std.proofs.lemmas.Str.{IsUtf8-from_ascii}
use Rattle.std.proofs.lemmas.Slice.Eq.{bytes_eq-Decides}
use Rattle.std.specs.Fmt.{decimal}
use Rattle.script_commands.proofs.line.number.Goals as goal
use Rattle.script_commands.proofs.line.number.Goals.{then-count-ge-NUMBERS-via-then-count-ge-NUMBERS, then-count-ge-NUMBERS-via-else-count-ge-NUMBERS+then-ne}

pub returns-in_default : goal.returns-in_default
returns-in_default c = λ n le e. c.in_default.ensures.cases.0
    (subst (λ bs. IsUtf8 bs) (sym e) (IsUtf8-from_ascii (decimal n) (IsAscii-decimal n (omega arith))))

pub returns-in_default-parse : goal.returns-in_default-parse
returns-in_default-parse c = λ n le e.
    let p : c.parse.result ≡ Ok n = parse-decimal 64 n c.in-Ok.text.now c.parse.result (omega arith) (omega arith)
    (c.in-Ok.ensures.cases.0 ∙ e) c.parse.ensures.value.0 in cc

pub returns-then-count-ge-NUMBERS : goal.returns-then-count-ge-NUMBERS
returns-then-count-ge-NUMBERS c = λ n le e.
    let p : c.parse.result ≡ Ok n = parse-decimal 64 n c.in-Ok.text.now c.parse.result (omega arith) (omega arith)
    (c.in-Ok.ensures.cases.0 ∙ e) c.parse.ensures.value.0 in
    let same : c.in-Ok-parse.count ≡ n = cc in
    elim c.then-count-ge-NUMBERS.branch [
      | then-count-ge-NUMBERS-via-then-count-ge-NUMBERS w ↦ omega arith
      | then-count-ge-NUMBERS-via-else-count-ge-NUMBERS+then-ne w ↦
          let printed : w.as_bytes.result.now ≡ c.args.digits.now = w.as_bytes.ensures.value ∙ (w.format.ensures.text ∙ (ap decimal same ∙ sym e)) in
          let equal : bytes_eq w.as_bytes.result.now c.args.digits.now ≡ true = (bytes_eq-Decides w.as_bytes.result.now c.args.digits.now).1 printed in
          let differs : true ≡ not (bytes_eq w.as_bytes.result.now c.args.digits.now) = w.if-ne.ensures in
          let flipped : not (bytes_eq w.as_bytes.result.now c.args.digits.now) ≡ false = ap not equal in cc
    ]
