-- Answers in parts, one for each item of a list.
use Rattle.std.specs.Prelude.{◌≡◌, ℕ, ◌+◌, List, [], ◌∷◌, Result, Ok, Err}
use Rattle.session_streams.specs.Moves.{Move, Gave, GaveFront, IsSound, Fails}
use Rattle.sysml_session.specs.declared.answering.AnswerFault.{AnswerFault}
use Rattle.sysml_session.specs.declared.answering.AnswerFault.TheVariants.{Limit, WriteFault, NoMemory}

-- what items count together
abbrev pub sum_of : {X : Type 0} → (X → ℕ) → List X → ℕ
sum_of count [] = 0
sum_of count (x ∷ xs) = count x + sum_of count xs

-- a part of an answer was given, which counts so many; or after a failure, or where memory was wanting, a front of it
abbrev pub IsPart : Move → List ℕ → ℕ → Result ℕ AnswerFault → Type 0
IsPart output whole count (Ok n) = (n ≡ count) × Gave output whole × IsSound output
IsPart output whole count (Err WriteFault) = GaveFront output whole × Fails output
IsPart output whole count (Err NoMemory) = GaveFront output whole × IsSound output
IsPart output whole count (Err (Limit number)) = ⊥
