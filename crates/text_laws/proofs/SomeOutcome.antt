-- Every text has an outcome.
use Rattle.std.proofs.Common.{◌≡◌, ◌⊎◌, inl, inr, ℕ, zero, suc, ◌+◌, ◌<◌, ◌≤◌, true, false, List, [], ◌∷◌, ◌++◌, length, take, drop, refl, sym, subst, arith}
use Rattle.std.specs.Prelude.{nat_lt, IsUtf8, Option, Some, None, Ok}
use Rattle.std.specs.Str.{IsValidUpTo, is_utf8}
use Rattle.std.proofs.lemmas.Str.{IsUtf8-nil, IsUtf8-from_is_utf8, is_utf8-from_IsUtf8}
use Rattle.std.proofs.lemmas.List.{take_all}
use Rattle.linker_base.proofs.Cases.{bool_cases, option_cases}
use Rattle.element_store.specs.declared.numbers.FileNo.{FileNo}
use Rattle.element_store.specs.declared.outcome.Language.{Language}
use Rattle.token_core.specs.declared.token.Token.{Token}
use Rattle.token_core.specs.declared.pieces.Found.{Found}
use Rattle.token_core.specs.Scan.{found}
use Rattle.token_core.specs.Lex.{Lex, Lexes, IsTokenPlace, token_at, too_deep}
use Rattle.token_core.proofs.Cuts.{right_piece, IsCutTo, run_more, run_whole, run_stops, run_empty}
use Rattle.ll_core.specs.Derives.{Forest}
use Rattle.text_model.specs.declared.fault.FileFault.TheVariants.{Encoding, Token as BadToken, TooDeep, Syntax, Limit}
use Rattle.text_model.specs.Languages.{grammar_of}
use Rattle.text_model.specs.Numbering.{model_of, limits, least}
use Rattle.text_model.specs.Profile.{IsRead, kinds_of, drafts_of, token_place}
use Rattle.text_laws.specs.Outcomes.{HasOutcome, SomeOutcome}
use Rattle.text_laws.proofs.OutcomeLaws.{grammars_checked}
use Rattle.text_laws.proofs.TreeOrPlace.{tree_or_place}

-- The longest front that is UTF-8.

front_from : (bs : List ℕ) (n : ℕ) → n ≤ length bs → ((m : ℕ) → n ≤ m → IsUtf8 (take m bs) → ⊥) → (k : ℕ) × IsValidUpTo bs k
front_from bs zero le none = absurd (none 0 (omega arith) IsUtf8-nil)
front_from bs (suc n) le none = elim (bool_cases (is_utf8 (take n bs))) [
  | inl e ↦ (n, record { short = omega (arith, le); front = IsUtf8-from_is_utf8 (take n bs) e; longest = λ m less h. none m (omega (arith, less)) h })
  | inr e ↦ front_from bs n (omega (arith, le)) (λ m up h. by_place m (n_or_more n m up) h e)
] where
  n_or_more : (n m : ℕ) → n ≤ m → (n ≡ m) ⊎ (suc n ≤ m)
  n_or_more n m h = grind arith

  by_place : (m : ℕ) → (n ≡ m) ⊎ (suc n ≤ m) → IsUtf8 (take m bs) → is_utf8 (take n bs) ≡ false → ⊥
  by_place m (inl same) h e =
      let yes : is_utf8 (take n bs) ≡ true = is_utf8-from_IsUtf8 (take n bs) (subst (λ k. IsUtf8 (take k bs)) (sym same) h) in
      cc
  by_place m (inr up) h e = none m up h

valid_up_to : (bs : List ℕ) → is_utf8 bs ≡ false → (k : ℕ) × IsValidUpTo bs k
valid_up_to bs e = front_from bs (length bs) (omega arith) (λ m up h.
    let yes : is_utf8 bs ≡ true = is_utf8-from_IsUtf8 bs (subst IsUtf8 (take_all m bs up) h) in
    cc)

-- The lexing.

end_or_more : (size at : ℕ) → (size ≤ at) ⊎ (at < size)
end_or_more size at = grind arith

cut_all : (l : Language) (text : List ℕ) (n at : ℕ) (tokens : List Token) → IsCutTo l text at tokens → length text ≤ at + n
    → ((ts : List Token) × Lex l text ts) ⊎ ((place : ℕ) × IsTokenPlace l text place)
cut_all l text zero at tokens run enough = inl (tokens, run_whole l text at tokens run (omega (arith, enough)))
cut_all l text (suc n) at tokens run enough = elim (end_or_more (length text) at) [
  | inl past ↦ inl (tokens, run_whole l text at tokens run past)
  | inr below ↦ by_found below (found l (drop at text)) refl (λ f e.
      cut_all l text n (at + f.length) (tokens ++ token_at f.kind at f.length) (run_more l text at tokens f run e)
      (omega (arith, enough, (right_piece l (drop at text) f e).some)))
] where
  by_found : at < length text → (o : Option Found) → found l (drop at text) ≡ o
      → ((f : Found) → found l (drop at text) ≡ Some f → ((ts : List Token) × Lex l text ts) ⊎ ((place : ℕ) × IsTokenPlace l text place))
      → ((ts : List Token) × Lex l text ts) ⊎ ((place : ℕ) × IsTokenPlace l text place)
  by_found below None e on = inr (at, run_stops l text at tokens run below e)
  by_found below (Some f) e on = on f e

-- The limits.

least_is : (p : ℕ) (ps : List ℕ) → (n : ℕ) × (least (p ∷ ps) ≡ Some n)
least_is p ps = elim (option_cases (least ps)) [
  | inl e ↦ (p, rw e refl)
  | inr q ↦ elim (bool_cases (nat_lt q.0 p)) [
    | inl b ↦ (q.0, rw (q.1, b) refl)
    | inr b ↦ (p, rw (q.1, b) refl)
  ]
]

within_or_passed : (ps : List ℕ) → (ps ≡ []) ⊎ ((n : ℕ) × (least ps ≡ Some n))
within_or_passed [] = inl refl
within_or_passed (p ∷ ps) = inr (least_is p ps)

-- The outcome, from the tree, from the tokens, and from the bytes.

read_outcome : (file : FileNo) (l : Language) (text : List ℕ) (ts : List Token) (f : Forest) → IsRead l text ts f → HasOutcome file l text
read_outcome file l text ts f read = elim (within_or_passed (limits (drafts_of l text ts f))) [
  | inl e ↦ inl (model_of file l (drafts_of l text ts f), record { tokens = ts; tree = f; read = read; within = e; model = refl })
  | inr h ↦ inr (Limit h.0, (ts, f, read, h.1), λ e. cc)
]

lexed_outcome : (file : FileNo) (l : Language) (text : List ℕ) (ts : List Token) → Lexes l text (Ok ts) → HasOutcome file l text
lexed_outcome file l text ts lexed = elim (tree_or_place (grammar_of l) (grammars_checked l) (kinds_of ts)) [
  | inl h ↦ read_outcome file l text ts h.0 (record { lexed = lexed; derived = h.1 })
  | inr h ↦ inr (Syntax (token_place text ts h.0), (ts, h.0, lexed, h.1, refl), λ e. cc)
]

cut_outcome : (file : FileNo) (l : Language) (text : List ℕ) (ts : List Token) → IsUtf8 text → Lex l text ts → HasOutcome file l text
cut_outcome file l text ts whole lex = elim (option_cases (too_deep 0 ts)) [
  | inl e ↦ lexed_outcome file l text ts (whole, lex, e)
  | inr h ↦ inr (TooDeep h.0, (whole, (ts, lex, h.1)), λ e. cc)
]

-- each text has a model or a fault
pub some_outcome : SomeOutcome
some_outcome file l text = elim (bool_cases (is_utf8 text)) [
  | inl e ↦ elim (cut_all l text (length text) 0 [] (run_empty l text) (omega arith)) [
    | inl h ↦ cut_outcome file l text h.0 (IsUtf8-from_is_utf8 text e) h.1
    | inr h ↦ inr (BadToken h.0, (IsUtf8-from_is_utf8 text e, h.1), λ e. cc)
  ]
  | inr e ↦ let v = valid_up_to text e in inr (Encoding v.0, v.1, λ e. cc)
]
