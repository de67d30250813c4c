-- What words ask for is one, and each words ask for something or nothing.
use Rattle.std.proofs.Common.{◌≡◌, ◌∙◌, ℕ, List, refl, sym, ap}
use Rattle.std.specs.Prelude.{Option, Ok, Err}
use Rattle.element_store.specs.declared.numbers.FileNo.{FileNo}
use Rattle.element_store.specs.declared.outcome.Language.TheVariants.{Sysml}
use Rattle.token_core.specs.declared.token.LexFault.TheVariants as lexer
use Rattle.token_core.proofs.OneLexing.{one_lexing}
use Rattle.text_model.specs.declared.fault.FileFault.{FileFault}
use Rattle.text_model.specs.declared.fault.FileFault.TheVariants.{Encoding, Token as BadToken, TooDeep, Syntax, Limit, NoMemory}
use Rattle.text_model.specs.Profile.{IsFaultOf}
use Rattle.book_model.specs.declared.asked_name.AskedName.{AskedName}
use Rattle.book_model.specs.AskedNames.{AskFor, asked_by}
use Rattle.book_model.specs.Readings.{Reading, IsReading}

-- words ask for one thing
pub one_asked : (words : List ℕ) (a b : Option AskedName) → AskFor words a → AskFor words b → a ≡ b
one_asked words a b p q =
    p.stands ∙ (ap (asked_by words) (one_lexing Sysml words p.lexed q.lexed p.lexes q.lexes p.answered q.answered) ∙ sym q.stands)

-- words with a fault are lexed or refused
fault_asked : (words : List ℕ) (fault : FileFault) → (fault ≡ NoMemory → ⊥) → IsFaultOf Sysml words fault → (name : Option AskedName) × AskFor words name
fault_asked words (Encoding place) told h =
    (asked_by words (Err (lexer.Encoding place)), record { lexed = Err (lexer.Encoding place); lexes = h; answered = λ e. cc; stands = refl })
fault_asked words (BadToken place) told h =
    (asked_by words (Err (lexer.Token place)), record { lexed = Err (lexer.Token place); lexes = h; answered = λ e. cc; stands = refl })
fault_asked words (TooDeep place) told h =
    (asked_by words (Err (lexer.TooDeep place)), record { lexed = Err (lexer.TooDeep place); lexes = h; answered = λ e. cc; stands = refl })
fault_asked words (Syntax place) told (tokens, n, lexed, at, is) =
    (asked_by words (Ok tokens), record { lexed = Ok tokens; lexes = lexed; answered = λ e. cc; stands = refl })
fault_asked words (Limit place) told (tokens, f, read, is) =
    (asked_by words (Ok tokens), record { lexed = Ok tokens; lexes = read.lexed; answered = λ e. cc; stands = refl })
fault_asked words NoMemory told h = absurd (told refl)

-- words that are read as a text ask for something, or for nothing
pub some_asked : (file : FileNo) (words : List ℕ) (r : Reading) → IsReading file Sysml words r → (name : Option AskedName) × AskFor words name
some_asked file words (Reading.Model d) p =
    (asked_by words (Ok p.tokens), record { lexed = Ok p.tokens; lexes = p.read.lexed; answered = λ e. cc; stands = refl })
some_asked file words (Reading.Fault fault) p = fault_asked words fault p.0 p.1
