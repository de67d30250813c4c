-- No word or sign needs its bytes.
use Rattle.std.proofs.Common.{◌≡◌, ℕ, zero, suc, List, [], ◌∷◌, refl}
use Rattle.std.proofs.lemmas.Bool.{false≢true}
use Rattle.std.specs.Prelude.{Bool, true, false, ◌&&◌, slice_index_or}
use Rattle.element_store.specs.declared.outcome.Language.{Language}
use Rattle.element_store.specs.declared.outcome.Language.TheVariants.{Kerml, Sysml}
use Rattle.token_core.specs.declared.token.TokenKind.{TokenKind}
use Rattle.token_core.specs.declared.token.TokenKind.TheVariants as kind
use Rattle.kerml_grammar.specs.Grammar.{kerml_table}
use Rattle.sysml_grammar.specs.Grammar.{sysml_table}
use Rattle.text_model.specs.Languages.{grammar_of}
use Rattle.text_model.specs.declared.action.Meaning.{Meaning}
use Rattle.text_model.specs.declared.action.Meaning.TheVariants.{Nothing}
use Rattle.text_model.specs.KermlMeanings.{kerml_meanings}
use Rattle.text_model.specs.SysmlMeanings.{sysml_meanings}
use Rattle.text_model.specs.SignMeanings.{sign_meanings}
use Rattle.text_model.specs.Tables.{tables, meaning_of}
use Rattle.draft_walk.specs.Telling.{is_plain}

abbrev are_plain : List Meaning → Bool
are_plain [] = true
are_plain (m ∷ ms) = is_plain m && are_plain ms

both_first : (a b : Bool) → (a && b) ≡ true → a ≡ true
both_first true b e = refl
both_first false b e = e

both_second : (a b : Bool) → (a && b) ≡ true → b ≡ true
both_second true b e = e
both_second false b e = absurd (false≢true e)

plain_at : (ms : List Meaning) (n : ℕ) → are_plain ms ≡ true → is_plain (slice_index_or ms n Nothing) ≡ true
plain_at [] n all = refl
plain_at (m ∷ ms) zero all = both_first (is_plain m) (are_plain ms) all
plain_at (m ∷ ms) (suc n) all = plain_at ms n (both_second (is_plain m) (are_plain ms) all)

pub plain_word : (l : Language) (n : ℕ) → is_plain (meaning_of (tables l) (kind.Word n)) ≡ true
unfolding tables sign_meanings kerml_meanings sysml_meanings
plain_word Kerml n = plain_at kerml_meanings n refl
plain_word Sysml n = plain_at sysml_meanings n refl

pub plain_sign : (l : Language) (n : ℕ) → is_plain (meaning_of (tables l) (kind.Sign n)) ≡ true
unfolding tables sign_meanings kerml_meanings sysml_meanings
plain_sign Kerml n = plain_at sign_meanings n refl
plain_sign Sysml n = plain_at sign_meanings n refl

-- a token that is a word or a sign
pub plain_meaning : (l : Language) (k : TokenKind) → (k ≡ kind.Name → ⊥) → (k ≡ kind.Integer → ⊥) → (k ≡ kind.Quote → ⊥) → (k ≡ kind.Comment → ⊥)
    → is_plain (meaning_of (tables l) k) ≡ true
plain_meaning l kind.Name a b c d = absurd (a refl)
plain_meaning l kind.Integer a b c d = absurd (b refl)
plain_meaning l kind.Quote a b c d = absurd (c refl)
plain_meaning l kind.Comment a b c d = absurd (d refl)
plain_meaning l (kind.Sign n) a b c d = plain_sign l n
plain_meaning l (kind.Word n) a b c d = plain_word l n

-- the grammar of each language
pub kerml_is : kerml_table ≡ grammar_of Kerml
unfolding grammar_of kerml_table
kerml_is = refl

pub sysml_is : sysml_table ≡ grammar_of Sysml
unfolding grammar_of sysml_table
sysml_is = refl
