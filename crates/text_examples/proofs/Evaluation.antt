-- Tests that evaluate: whether tokens are those of a text, and whether a tree is a derivation.
use Rattle.std.proofs.Common.{◌≡◌, ℕ, zero, suc, ◌+◌, ◌≤◌, Bool, true, false, ◌&&◌, List, [], ◌∷◌, ◌++◌, length, drop, refl, ap, subst, arith, length-drop}
use Rattle.std.specs.Prelude.{IsUtf8, nat_lt, nat_eq, Option, Some, None, slice_get}
use Rattle.std.proofs.lemmas.Bool.{eqb-true, ltb-true}
use Rattle.std.proofs.lemmas.Str.{IsUtf8-from_ascii}
use Rattle.std.proofs.lemmas.Str.Ascii.{IsAscii-nil}
use Rattle.std.specs.Str.{IsAscii}
use Rattle.linker_base.proofs.Cases.{both_true}
use Rattle.element_store.specs.declared.outcome.Language.{Language}
use Rattle.token_core.specs.declared.token.Token.{Token}
use Rattle.token_core.specs.declared.pieces.Found.{Found}
use Rattle.token_core.specs.Scan.{found}
use Rattle.token_core.specs.Lex.{Lex, token_at}
use Rattle.token_core.proofs.Cuts.{IsCutTo, run_more, run_whole, run_empty}
use Rattle.ll_core.specs.declared.grammar.Symbol.{Symbol}
use Rattle.ll_core.specs.declared.grammar.Symbol.TheVariants.{Terminal, Inner}
use Rattle.ll_core.specs.Table.{Rule, Table}
use Rattle.ll_core.specs.Derives.{Forest, Nothing, Token as Leaf, Node, IsDerivation}

-- whether each byte is below 128
abbrev pub are_ascii : List ℕ → Bool
are_ascii [] = true
are_ascii (b ∷ bs) = nat_lt b 128 && are_ascii bs

ascii_from : (bs : List ℕ) → are_ascii bs ≡ true → IsAscii bs
ascii_from [] e i = IsAscii-nil i
ascii_from (b ∷ bs) e zero = ltb-true b 128 (both_true (nat_lt b 128) (are_ascii bs) e).0
ascii_from (b ∷ bs) e (suc i) = ascii_from bs (both_true (nat_lt b 128) (are_ascii bs) e).1 i

-- a text of ASCII bytes is UTF-8
pub utf8_from : (bs : List ℕ) → are_ascii bs ≡ true → IsUtf8 bs
utf8_from bs e = IsUtf8-from_ascii bs (ascii_from bs e)

-- the tokens from a place on, found piece by piece in so many steps at most
abbrev pub tokens_by : (ℕ → ℕ → List Token → Option (List Token)) → ℕ → List Token → List ℕ → Option Found → Option (List Token)
tokens_by go at tokens [] o = Some tokens
tokens_by go at tokens (b ∷ bs) None = None
tokens_by go at tokens (b ∷ bs) (Some f) = go (at + f.length) at (tokens ++ token_at f.kind at f.length)

-- the same, begun at a place with these tokens before it
abbrev pub all_tokens : Language → List ℕ → ℕ → ℕ → List Token → Option (List Token)
all_tokens l text zero at tokens = None
all_tokens l text (suc n) at tokens =
    tokens_by (λ next here ts. all_tokens l text n next ts) at tokens (drop at text) (found l (drop at text))

tokens_from_cut : (l : Language) (text : List ℕ) (n at : ℕ) (tokens ts : List Token) → IsCutTo l text at tokens → all_tokens l text n at tokens ≡ Some ts
    → Lex l text ts
tokens_from_cut l text zero at tokens ts run e = absurd (cc)
tokens_from_cut l text (suc n) at tokens ts run e =
    by_rest (λ f found_is h. tokens_from_cut l text n (at + f.length) (tokens ++ token_at f.kind at f.length) ts (run_more l text at tokens f run found_is) h)
    (drop at text) (found l (drop at text)) refl refl e where
      by_rest : ((f : Found) → found l (drop at text) ≡ Some f
          → all_tokens l text n (at + f.length) (tokens ++ token_at f.kind at f.length) ≡ Some ts → Lex l text ts)
          → (rest : List ℕ) (o : Option Found) → drop at text ≡ rest → found l (drop at text) ≡ o
          → tokens_by (λ next here xs. all_tokens l text n next xs) at tokens rest o ≡ Some ts → Lex l text ts
      by_rest on [] o is found_is e =
          let same : tokens ≡ ts = cc in
          let past : length text ≤ at = omega (arith, length-drop at text, ap length is) in
          subst (Lex l text) same (run_whole l text at tokens run past)
      by_rest on (b ∷ bs) None is found_is e = absurd (cc)
      by_rest on (b ∷ bs) (Some f) is found_is e = on f found_is e

-- the tokens that are found are the text's
pub lexed : (l : Language) (text : List ℕ) (n : ℕ) (ts : List Token) → all_tokens l text n 0 [] ≡ Some ts → Lex l text ts
lexed l text n ts e = tokens_from_cut l text n 0 [] ts (run_empty l text) e

-- the production has this left side, and its right side derives what stands below
abbrev pub by_rule : (List Symbol → Bool) → ℕ → Option Rule → Bool
by_rule below a None = false
by_rule below a (Some r) = nat_eq r.left a && below r.right

-- whether a forest is a derivation of the symbols
abbrev pub derives : Table → Forest → List Symbol → Bool
derives t Nothing [] = true
derives t (Leaf j f) (Terminal k ∷ ss) = nat_eq j k && derives t f ss
derives t (Node p below f) (Inner a ∷ ss) = by_rule (derives t below) a (slice_get t.rules p) && derives t f ss
derives t f ss = false

-- a tree that passes is a derivation
pub derived_from : (t : Table) (f : Forest) (ss : List Symbol) → derives t f ss ≡ true → IsDerivation t ss f
derived_from t Nothing [] e = tt
derived_from t Nothing (Terminal k ∷ ss) e = absurd (cc)
derived_from t Nothing (Inner a ∷ ss) e = absurd (cc)
derived_from t (Leaf j f) [] e = absurd (cc)
derived_from t (Leaf j f) (Inner a ∷ ss) e = absurd (cc)
derived_from t (Leaf j f) (Terminal k ∷ ss) e =
    let b = both_true (nat_eq j k) (derives t f ss) e in
    (eqb-true j k b.0, derived_from t f ss b.1)
derived_from t (Node p below f) [] e = absurd (cc)
derived_from t (Node p below f) (Terminal k ∷ ss) e = absurd (cc)
derived_from t (Node p below f) (Inner a ∷ ss) e =
    let b = both_true (by_rule (derives t below) a (slice_get t.rules p)) (derives t f ss) e in
    (rule (slice_get t.rules p) refl (λ rs h. derived_from t below rs h) b.0, derived_from t f ss b.1) where
      rule : (o : Option Rule) → slice_get t.rules p ≡ o → ((rs : List Symbol) → derives t below rs ≡ true → IsDerivation t rs below)
          → by_rule (derives t below) a o ≡ true
          → (r : Rule) × (slice_get t.rules p ≡ Some r) × (r.left ≡ a) × IsDerivation t r.right below
      rule None at on e = absurd (cc)
      rule (Some r) at on e =
          let b = both_true (nat_eq r.left a) (derives t below r.right) e in
          (r, at, eqb-true r.left a b.0, on r.right b.1)
