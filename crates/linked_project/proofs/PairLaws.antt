-- One name or two with the word `in` between them.
use Rattle.std.proofs.Common.{◌≡◌, ℕ, zero, suc, ◌+◌, List, [], ◌∷◌, take, drop, refl, sym, subst, inl, inr, nat_eq}
use Rattle.std.specs.Prelude.{IfOk, IfSome, Option, Some, None, Result, Ok, Err}
use Rattle.std.specs.Option.{option_map}
use Rattle.linker_base.specs.Members.{IsMember}
use Rattle.element_store.specs.declared.outcome.Language.TheVariants.{Sysml}
use Rattle.token_core.specs.declared.token.Token.{Token}
use Rattle.token_core.specs.declared.token.TokenKind.TheVariants.{Word}
use Rattle.token_core.specs.Lex.{Lexes}
use Rattle.token_core.specs.Reading.{AreTokensOf}
use Rattle.token_core.specs.Words.{words}
use Rattle.book_model.specs.declared.asked_name.AskedName.{AskedName}
use Rattle.book_model.specs.AskedNames.{name_by}
use Rattle.project_answers.proofs.NameLaws.{name_spells}
use Rattle.linked_project.specs.declared.asked_pair.AskedPair.{AskedPair}
use Rattle.linked_project.specs.AskedPairs.{AskForPair, IsSpellableName, IsSpellablePair, alone, both, is_in, pair_at, pair_by, place_of_in}

-- the number of `in`
pub in_number : (n : ℕ) → is_in (Word n) ≡ nat_eq n 58
unfolding words
in_number n = refl

-- ---- tokens of words

-- the first of them
taken_from : (k : ℕ) (ts : List Token) (t : Token) → IsMember (take k ts) t → IsMember ts t
taken_from zero ts t m = absurd m
taken_from (suc k) [] t m = absurd m
taken_from (suc k) (u ∷ ts) t (inl e) = inl e
taken_from (suc k) (u ∷ ts) t (inr m) = inr (taken_from k ts t m)

pub front_of : (ws : List ℕ) (ts : List Token) (k : ℕ) → AreTokensOf ws ts → AreTokensOf ws (take k ts)
front_of ws ts k are t m = are t (taken_from k ts t m)

-- and those behind them
dropped_from : (k : ℕ) (ts : List Token) (t : Token) → IsMember (drop k ts) t → IsMember ts t
dropped_from zero ts t m = m
dropped_from (suc k) [] t m = absurd m
dropped_from (suc k) (u ∷ ts) t m = inr (dropped_from k ts t m)

pub behind_of : (ws : List ℕ) (ts : List Token) (k : ℕ) → AreTokensOf ws ts → AreTokensOf ws (drop k ts)
behind_of ws ts k are t m = are t (dropped_from k ts t m)

-- ---- the names can be spelt

name_spelt : (ws : List ℕ) (ts : List Token) → AreTokensOf ws ts → IfSome (name_by ws ts) IsSpellableName
name_spelt ws ts are = name_spells ws ts are (ok (name_by ws ts)) refl where
  ok : Option AskedName → Result (Option AskedName) (Unit {0})
  ok o = Ok o

both_spelt : (a b : Option AskedName) → IfSome a IsSpellableName → IfSome b IsSpellableName → IfSome (both a b) IsSpellablePair
both_spelt (Some a) (Some b) p q = (p, q)
both_spelt (Some a) None p q = tt
both_spelt None b p q = tt

alone_spelt : (a : Option AskedName) → IfSome a IsSpellableName → IfSome (option_map alone a) IsSpellablePair
alone_spelt (Some a) p = (p, tt)
alone_spelt None p = tt

at_spelt : (ws : List ℕ) (ts : List Token) → AreTokensOf ws ts → (place : Option ℕ) → IfSome (pair_at ws ts place) IsSpellablePair
at_spelt ws ts are None = alone_spelt (name_by ws ts) (name_spelt ws ts are)
at_spelt ws ts are (Some place) =
    both_spelt (name_by ws (take place ts)) (name_by ws (drop (place + 1) ts)) (name_spelt ws (take place ts) (front_of ws ts place are))
    (name_spelt ws (drop (place + 1) ts) (behind_of ws ts (place + 1) are))

-- WHAT TOKENS ask for can be spelt
pub pair_spelt : {E : Type 0} (ws : List ℕ) (ts : List Token) → AreTokensOf ws ts → (r : Result (Option AskedPair) E) → IfOk r (λ p. p ≡ pair_by ws ts)
    → IfOk r (λ p. IfSome p IsSpellablePair)
pair_spelt ws ts are (Ok p) e = subst (λ (o : Option AskedPair). IfSome o IsSpellablePair) (sym e) (at_spelt ws ts are (place_of_in ts))
pair_spelt ws ts are (Err f) e = tt

-- and the words ask for it
pub pair_asked : {E : Type 0} (ws : List ℕ) (ts : List Token) → Lexes Sysml ws (Ok ts) → (r : Result (Option AskedPair) E) → IfOk r (λ p. p ≡ pair_by ws ts)
    → IfOk r (λ p. AskForPair ws p)
pair_asked ws ts lexed (Ok p) e = record { lexed = Ok ts; lexes = lexed; answered = λ f. cc; stands = e }
pair_asked ws ts lexed (Err f) e = tt
