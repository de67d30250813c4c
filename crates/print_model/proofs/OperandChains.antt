-- Names and expressions as they are printed: each token is apart from the one before it.
use Rattle.std.proofs.Common.{◌≡◌, ℕ, suc, ◌+◌, ◌-◌, ◌*◌, ◌/◌, ◌%◌, ◌^◌, ◌<◌, Bool, true, false, List, [], ◌∷◌, ◌++◌, refl, sym, subst, inl, inr, arith}
use Rattle.std.specs.Prelude.{Option, Some, None, ◌&&◌, is_some, is_none, ltb, codes}
use Rattle.std.specs.Fmt.{decimal}
use Rattle.std.specs.Option.{unwrap_or}
use Rattle.std.proofs.lemmas.Fmt.{decimal_by_steps}
use Rattle.std.proofs.lemmas.Bool.Decides.{nat_tests}
use Rattle.linker_base.proofs.Cases.{bool_cases, both_true}
use Rattle.element_store.specs.declared.outcome.Language.{Language}
use Rattle.element_store.specs.declared.outcome.Language.TheVariants.{Kerml, Sysml}
use Rattle.element_store.specs.declared.expression.UnaryOp.{UnaryOp}
use Rattle.element_store.specs.declared.expression.UnaryOp.TheVariants as unary
use Rattle.element_store.specs.declared.expression.BinaryOp.{BinaryOp}
use Rattle.element_store.specs.declared.expression.BinaryOp.TheVariants as binary
use Rattle.token_core.specs.Bytes.{IsRun, is_letter, is_digit}
use Rattle.token_core.specs.Words.{signs, words, place_in}
use Rattle.token_core.specs.Pieces.{IsBasicName, IsSomeRun}
use Rattle.token_core.specs.Spelling.{name_spelling, is_basic_name}
use Rattle.token_core.specs.Reading.{IsSpellable}
use Rattle.text_model.specs.declared.draft.Path.{Path}
use Rattle.text_laws.specs.Fits.{Every}
use Rattle.print_model.specs.Printed.{Printed, sign, word, name, text, number, tightly}
use Rattle.print_model.specs.Trees.{Tree, Integer, Boolean, Text, Null, Named, Before, Between, Choice, behind, headed, rooted, named, boolean, within, level, level_between, token_between, token_before, printed}
use Rattle.print_model.specs.Written.{IsWrittenPath, IsWritten, is_word_of}
use Rattle.print_model.proofs.Edges.{stops_sign, is_inside}
use Rattle.print_model.proofs.Following.{IsFit, Apart, basic_name}
use Rattle.print_model.proofs.Joints.{BeginsInside, Closing, closing_apart, atom_closes, Ready, ready_apart, inside_opens, OpeningBytes, sign_fit, sign_taking, sign_closes, Passes, passes_none, passes_more, passes_on, passes_from, passes_to}

-- Atoms.

letter_inside : (b : ℕ) → is_letter b ≡ true → is_inside b ≡ true
letter_inside b e = grind (arith, nat_tests)

digit_inside : (b : ℕ) → is_digit b ≡ true → is_inside b ≡ true
digit_inside b e = grind (arith, nat_tests)

basic_inside : (bs : List ℕ) → IsBasicName bs → BeginsInside bs
basic_inside [] h = elim h [ ]
basic_inside (b ∷ bs) h = letter_inside b h.0

-- a name begins with no byte of a sign
pub name_inside : (l : Language) (s : List ℕ) → BeginsInside (name_spelling l s)
name_inside l s = elim (bool_cases (is_basic_name s && is_none (place_in (words l) s))) [
  | inl bare ↦ rw bare (basic_inside s (basic_name s (both_true (is_basic_name s) (is_none (place_in (words l) s)) bare).0))
  | inr other ↦ rw other refl
]

digits_inside : (bs : List ℕ) → IsSomeRun is_digit bs → BeginsInside bs
digits_inside [] h = elim h [ ]
digits_inside (b ∷ bs) h = digit_inside b h.0

-- where an operand may begin, an atom may stand, and ends one
pub atom_passes : (l : Language) (q : Printed) → IsFit l q → OpeningBytes q.bytes → Closing q → Passes l Ready (q ∷ []) Closing
atom_passes l q fit o c = passes_more l Ready Closing Closing q [] fit (λ p h. ready_apart p q h o) c (passes_none l Closing)

-- a name
pub name_closes : (l : Language) (s : List ℕ) → Closing (name l s)
name_closes l s = atom_closes l (name l s) tt refl (name_inside l s)

-- a name is a token
pub name_fit : (l : Language) (s : List ℕ) → IsSpellable s → IsFit l (name l s)
name_fit l s h = (s, h, refl)

-- a name, where an operand may begin
pub name_passes : (l : Language) (s : List ℕ) → IsSpellable s → Passes l Ready (name l s ∷ []) Closing
name_passes l s h = atom_passes l (name l s) (name_fit l s h) (inside_opens (name_spelling l s) (name_inside l s)) (name_closes l s)

some_is : (o : Option ℕ) → is_some o ≡ true → o ≡ Some (unwrap_or o 0)
some_is None e = absurd (cc)
some_is (Some n) e = refl

-- a word of the language
pub word_passes : (l : Language) (bytes : List ℕ) → is_word_of l bytes ≡ true → Passes l Ready (word l bytes ∷ []) Closing
word_passes l bytes e =
    let b = both_true (is_basic_name bytes) (is_some (place_in (words l) bytes)) e in
    let basic = basic_name bytes b.0 in
    let inside = basic_inside bytes basic in
    atom_passes l (word l bytes) (basic, some_is (place_in (words l) bytes) b.1) (inside_opens bytes inside) (atom_closes l (word l bytes) tt refl inside)

-- a number
one_digit : (n : ℕ) → n < 10 → is_digit (48 + n) ≡ true
one_digit n e = grind (arith, nat_tests)

digits_run : (n : ℕ) → n < 2 ^ 64 → IsSomeRun is_digit (decimal n)
digits_run n small = decimal_by_steps (λ n bs. IsSomeRun is_digit bs) (λ n le. (one_digit n le, tt))
    (λ n ds le h. behind_one ds (48 + n % 10) h (one_digit (n % 10) (omega arith))) n small
  where
    run_on : (bs : List ℕ) (b : ℕ) → IsRun is_digit bs → is_digit b ≡ true → IsRun is_digit (bs ++ b ∷ [])
    run_on [] b h e = (e, tt)
    run_on (c ∷ bs) b h e = (h.0, run_on bs b h.1 e)

    behind_one : (bs : List ℕ) (b : ℕ) → IsSomeRun is_digit bs → is_digit b ≡ true → IsSomeRun is_digit (bs ++ b ∷ [])
    behind_one [] b h e = elim h [ ]
    behind_one (c ∷ bs) b h e = (h.0, run_on bs b h.1 e)

-- a number
pub number_passes : (l : Language) (n : ℕ) → n < 2 ^ 63 → Passes l Ready (number (decimal n) ∷ []) Closing
number_passes l n small =
    let run = digits_run n (omega (arith, small)) in
    let inside = digits_inside (decimal n) run in
    atom_passes l (number (decimal n)) run (inside_opens (decimal n) inside) (atom_closes l (number (decimal n)) tt refl inside)

-- a string
pub text_passes : (l : Language) (s : List ℕ) → IsSpellable s → Passes l Ready (text s ∷ []) Closing
text_passes l s h = atom_passes l (text s) (s, h, refl) refl (atom_closes l (text s) tt refl refl)

-- Signs.

-- behind an operand's end, a sign before an operand
pub sign_passes : (l : Language) (bytes : List ℕ) → is_some (place_in signs bytes) ≡ true → Passes l Closing (sign bytes ∷ []) Ready
sign_passes l bytes e = passes_more l Closing Ready Ready (sign bytes) [] (sign_fit l bytes e) (λ p h. closing_apart p (sign bytes) h)
    (inr (sign_taking bytes e)) (passes_none l Ready)

-- Names.

behind_passes : (l : Language) (mark : List ℕ) (ss : List (List ℕ)) → is_some (place_in signs mark) ≡ true → Every IsSpellable ss
    → Passes l Closing (behind l mark ss) Closing
behind_passes l mark [] e h = passes_none l Closing
behind_passes l mark (s ∷ ss) e h =
    passes_on l Closing Ready Closing (sign mark ∷ []) (name l s ∷ behind l mark ss) (sign_passes l mark e)
    (passes_on l Ready Closing Closing (name l s ∷ []) (behind l mark ss) (name_passes l s h.0) (behind_passes l mark ss e h.1))

colons_are : is_some (place_in signs (codes "::")) ≡ true
unfolding signs
colons_are = refl

dot_is : is_some (place_in signs (codes ".")) ≡ true
unfolding signs
dot_is = refl

dollar_is : is_some (place_in signs (codes "$")) ≡ true
unfolding signs
dollar_is = refl

headed_passes : (l : Language) (ss : List (List ℕ)) → (ss ≡ [] → ⊥) → Every IsSpellable ss → Passes l Ready (headed l ss) Closing
headed_passes l [] some h = absurd (some refl)
headed_passes l (s ∷ ss) some h = passes_on l Ready Closing Closing (name l s ∷ []) (behind l (codes "::") ss) (name_passes l s h.0)
    (behind_passes l (codes "::") ss colons_are h.1)

dollar_apart : Apart (sign (codes "$")) (sign (codes "::"))
unfolding signs
dollar_apart e = (stops_sign (codes "$") [] 58 refl, λ q. cc)

rooted_passes : (l : Language) (b : Bool) → Passes l Ready (rooted b) Ready
rooted_passes l false = passes_none l Ready
rooted_passes l true =
    passes_more l Ready (λ p. p ≡ sign (codes "$")) Ready (sign (codes "$")) (sign (codes "::") ∷ []) (sign_fit l (codes "$") dollar_is)
    (λ p h. ready_apart p (sign (codes "$")) h refl) refl
    (passes_more l (λ p. p ≡ sign (codes "$")) Ready Ready (sign (codes "::")) [] (sign_fit l (codes "::") colons_are)
    (λ p q. subst (λ x. Apart x (sign (codes "::"))) (sym q) dollar_apart) (inr (sign_taking (codes "::") colons_are)) (passes_none l Ready))

-- a qualified name or chain
pub named_passes : (l : Language) (p : Path) → IsWrittenPath p → Passes l Ready (named l p) Closing
named_passes l p h =
    passes_on l Ready Ready Closing (rooted p.absolute) (headed l p.path ++ behind l (codes ".") p.chain) (rooted_passes l p.absolute)
    (passes_on l Ready Closing Closing (headed l p.path) (behind l (codes ".") p.chain) (headed_passes l p.path h.some h.path)
    (behind_passes l (codes ".") p.chain dot_is h.chain))

-- Expressions.

open_is : is_some (place_in signs (codes "(")) ≡ true
unfolding signs
open_is = refl

close_is : is_some (place_in signs (codes ")")) ≡ true
unfolding signs
close_is = refl

-- `)` ends an operand
pub close_closes : Closing (sign (codes ")"))
unfolding signs
close_closes = sign_closes (sign (codes ")")) _ refl refl refl refl

-- an opening sign where an operand may begin
pub opening_passes : (l : Language) (bytes : List ℕ) → is_some (place_in signs bytes) ≡ true → OpeningBytes bytes → Passes l Ready (sign bytes ∷ []) Ready
opening_passes l bytes e o = passes_more l Ready Ready Ready (sign bytes) [] (sign_fit l bytes e) (λ p h. ready_apart p (sign bytes) h o)
    (inr (sign_taking bytes e)) (passes_none l Ready)

-- a closing sign behind an operand
pub closing_passes : (l : Language) (bytes : List ℕ) → is_some (place_in signs bytes) ≡ true → Closing (sign bytes) → Passes l Closing (sign bytes ∷ []) Closing
closing_passes l bytes e c = passes_more l Closing Closing Closing (sign bytes) [] (sign_fit l bytes e) (λ p h. closing_apart p (sign bytes) h) c
    (passes_none l Closing)

within_passes : (l : Language) (b : Bool) (ps : List Printed) → Passes l Ready ps Closing → Passes l Ready (within b ps) Closing
within_passes l false ps h = h
within_passes l true ps h =
    passes_on l Ready Ready Closing (sign (codes "(") ∷ []) (ps ++ sign (codes ")") ∷ []) (opening_passes l (codes "(") open_is refl)
    (passes_on l Ready Closing Closing ps (sign (codes ")") ∷ []) h (closing_passes l (codes ")") close_is close_closes))

-- behind an operand's end in place of before an operand
pub from_closing : (l : Language) (ps : List Printed) (Q : Printed → Type 0) → Passes l Ready ps Q → Passes l Closing ps Q
from_closing l ps Q h = passes_from l Closing Ready Q ps (λ p c. inl c) h

-- a word between two operands
pub word_between : (l : Language) (bytes : List ℕ) → is_word_of l bytes ≡ true → Passes l Closing (word l bytes ∷ []) Ready
word_between l bytes e = from_closing l (word l bytes ∷ []) Ready (passes_to l Ready Closing Ready (word l bytes ∷ []) (λ p c. inl c) (word_passes l bytes e))

between_passes : (l : Language) (o : BinaryOp) → Passes l Closing (token_between l o ∷ []) Ready
unfolding signs words
between_passes Kerml binary.Implies = word_between Kerml (codes "implies") refl
between_passes Sysml binary.Implies = word_between Sysml (codes "implies") refl
between_passes Kerml binary.Or = word_between Kerml (codes "or") refl
between_passes Sysml binary.Or = word_between Sysml (codes "or") refl
between_passes l binary.Bar = sign_passes l (codes "|") refl
between_passes Kerml binary.Xor = word_between Kerml (codes "xor") refl
between_passes Sysml binary.Xor = word_between Sysml (codes "xor") refl
between_passes Kerml binary.And = word_between Kerml (codes "and") refl
between_passes Sysml binary.And = word_between Sysml (codes "and") refl
between_passes l binary.Amp = sign_passes l (codes "&") refl
between_passes l binary.Equal = sign_passes l (codes "==") refl
between_passes l binary.NotEqual = sign_passes l (codes "!=") refl
between_passes l binary.Less = sign_passes l (codes "<") refl
between_passes l binary.Greater = sign_passes l (codes ">") refl
between_passes l binary.AtMost = sign_passes l (codes "<=") refl
between_passes l binary.AtLeast = sign_passes l (codes ">=") refl
between_passes l binary.Add = sign_passes l (codes "+") refl
between_passes l binary.Subtract = sign_passes l (codes "-") refl
between_passes l binary.Multiply = sign_passes l (codes "*") refl
between_passes l binary.Divide = sign_passes l (codes "/") refl
between_passes l binary.Remainder = sign_passes l (codes "%") refl

tight_passes : (l : Language) (bytes : List ℕ) → is_some (place_in signs bytes) ≡ true → OpeningBytes bytes → Passes l Ready (tightly (sign bytes) ∷ []) Ready
tight_passes l bytes e o = passes_more l Ready Ready Ready (tightly (sign bytes)) [] (sign_fit l bytes e) (λ p h. ready_apart p (tightly (sign bytes)) h o)
    (inr (λ c b. sign_taking bytes e c b)) (passes_none l Ready)

before_passes : (l : Language) (o : UnaryOp) → Passes l Ready (token_before l o ∷ []) Ready
unfolding signs words
before_passes l unary.Minus = tight_passes l (codes "-") refl refl
before_passes l unary.Plus = tight_passes l (codes "+") refl refl
before_passes Kerml unary.Not = passes_to Kerml Ready Closing Ready (word Kerml (codes "not") ∷ []) (λ p c. inl c) (word_passes Kerml (codes "not") refl)
before_passes Sysml unary.Not = passes_to Sysml Ready Closing Ready (word Sysml (codes "not") ∷ []) (λ p c. inl c) (word_passes Sysml (codes "not") refl)

boolean_passes : (l : Language) (b : Bool) → Passes l Ready (boolean l b ∷ []) Closing
unfolding words
boolean_passes Kerml true = word_passes Kerml (codes "true") refl
boolean_passes Sysml true = word_passes Sysml (codes "true") refl
boolean_passes Kerml false = word_passes Kerml (codes "false") refl
boolean_passes Sysml false = word_passes Sysml (codes "false") refl

null_is : (l : Language) → is_word_of l (codes "null") ≡ true
unfolding words
null_is Kerml = refl
null_is Sysml = refl

if_is : (l : Language) → is_word_of l (codes "if") ≡ true
unfolding words
if_is Kerml = refl
if_is Sysml = refl

else_is : (l : Language) → is_word_of l (codes "else") ≡ true
unfolding words
else_is Kerml = refl
else_is Sysml = refl

then_is : is_some (place_in signs (codes "?")) ≡ true
unfolding signs
then_is = refl

-- a printed expression
pub printed_passes : (l : Language) (t : Tree) → IsWritten t → Passes l Ready (printed l t) Closing
printed_passes l (Integer n) h = number_passes l n h
printed_passes l (Boolean b) h = boolean_passes l b
printed_passes l (Text bytes) h = text_passes l bytes h
printed_passes l Null h = word_passes l (codes "null") (null_is l)
printed_passes l (Named p) h = named_passes l p h
printed_passes l (Before o a) h = passes_on l Ready Ready Closing (token_before l o ∷ []) (within (ltb (level a) 9) (printed l a)) (before_passes l o)
    (within_passes l (ltb (level a) 9) (printed l a) (printed_passes l a h))
printed_passes l (Between o a b) h =
    passes_on l Ready Closing Closing (within (ltb (level a) (level_between o)) (printed l a)) _
    (within_passes l (ltb (level a) (level_between o)) (printed l a) (printed_passes l a h.0))
    (passes_on l Closing Ready Closing (token_between l o ∷ []) (within (ltb (level b) (suc (level_between o))) (printed l b)) (between_passes l o)
    (within_passes l (ltb (level b) (suc (level_between o))) (printed l b) (printed_passes l b h.1)))
printed_passes l (Choice a b c) h =
    passes_on l Ready Closing Closing (word l (codes "if") ∷ []) _ (word_passes l (codes "if") (if_is l))
    (passes_on l Closing Closing Closing (printed l a) _ (from_closing l (printed l a) Closing (printed_passes l a h.0))
    (passes_on l Closing Ready Closing (sign (codes "?") ∷ []) _ (sign_passes l (codes "?") then_is)
    (passes_on l Ready Closing Closing (printed l b) _ (printed_passes l b h.1)
    (passes_on l Closing Ready Closing (word l (codes "else") ∷ []) (printed l c) (word_between l (codes "else") (else_is l)) (printed_passes l c h.2)))))
