-- Worked examples, by computation.
use Rattle.std.proofs.Common.{◌≡◌, refl}
use Rattle.std.specs.Prelude.{Some, None, codes, replicate}
use Rattle.element_store.specs.declared.outcome.Language.TheVariants.{Kerml, Sysml}
use Rattle.token_core.specs.declared.token.TokenKind.TheVariants.{Name, Comment, Sign}
use Rattle.token_core.specs.declared.token.PieceKind.TheVariants.{Token as Kept}
use Rattle.token_core.specs.declared.token.Token.{Token}
use Rattle.token_core.specs.Words.{signs, words, place_in}
use Rattle.token_core.specs.Scan.{found, found_of}
use Rattle.token_core.specs.Lex.{too_deep}
use Rattle.token_core.specs.Reading.{name_meaning, number_from}
use Rattle.token_core.specs.Spelling.{name_spelling}

-- the brackets' numbers are those of the list of signs
pub brackets : place_in signs (codes "{") ≡ Some 0
unfolding signs
brackets = refl

pub closing_round : place_in signs (codes ")") ≡ Some 5
unfolding signs
closing_round = refl

-- a reserved word of one language alone
pub word_of_one : place_in (words Kerml) (codes "part") ≡ None
unfolding words
word_of_one = refl

pub last_word : place_in (words Sysml) (codes "xor") ≡ Some 128
unfolding words
last_word = refl

-- the longest sign is taken
pub longest_sign : found Sysml (codes "::>>") ≡ Some (found_of (Kept (Sign 16)) 3)
unfolding signs
longest_sign = refl

-- a slash before a slash is no sign, and a note that isn't closed is none
pub open_note : found Sysml (codes "//* a") ≡ None
unfolding signs
open_note = refl

-- the first end of a comment counts
pub starred_end : found Sysml (codes "/***/*/") ≡ Some (found_of (Kept Comment) 5)
unfolding signs
starred_end = refl

-- a quoted name that is empty
pub empty_name : found Sysml (codes "''") ≡ Some (found_of (Kept Name) 2)
unfolding signs
empty_name = refl

pub opening : Token
opening = record { kind = Sign 4; from = 7; upto = 8 }

-- 64 brackets may be open, and no 65
pub deepest : too_deep 0 (replicate 64 opening) ≡ None
unfolding opening signs
deepest = refl

pub too_deep_here : too_deep 0 (replicate 65 opening) ≡ Some 7
unfolding opening signs
too_deep_here = refl

-- a name between quotes is the same name, and so it is spelt
pub same_name : name_meaning (codes "'x'") ≡ name_meaning (codes "x")
same_name = refl

pub reserved_spelling : name_spelling Sysml (codes "part") ≡ codes "'part'"
unfolding words
reserved_spelling = refl

pub bare_spelling : name_spelling Kerml (codes "part") ≡ codes "part"
unfolding words
bare_spelling = refl

pub leading_zeros : number_from 0 (codes "0042") ≡ 42
leading_zeros = refl
