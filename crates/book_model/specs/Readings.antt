-- What a present text is read as: its model, or the fault that it has.
use Rattle.std.specs.Prelude.{◌≢◌, ℕ, cond, List}
use Rattle.element_store.specs.declared.numbers.FileNo.{FileNo}
use Rattle.element_store.specs.declared.outcome.Language.{Language}
use Rattle.element_store.specs.declared.outcome.Language.TheVariants.{Kerml, Sysml}
use Rattle.element_store.specs.FileNames.{ends_sysml}
use Rattle.element_store.specs.Model.{Data, bare_model}
use Rattle.text_model.specs.declared.fault.FileFault.{FileFault}
use Rattle.text_model.specs.declared.fault.FileFault.TheVariants.{Encoding, Token, TooDeep, Syntax, Limit, NoMemory}
use Rattle.text_model.specs.Profile.{InProfile, IsFaultOf}

-- the ending of its name chooses the language of a file
abbrev pub language_of : List ℕ → Language
language_of name = cond (ends_sysml name) Sysml Kerml

-- the model of a text, or its fault
pub data Reading : Type 0 where
  Model : (d : Data) → Reading
  Fault : (fault : FileFault) → Reading

-- the text of the file with that number is within the profile, with this model; or it has this fault
abbrev pub IsReading : FileNo → Language → List ℕ → Reading → Type 0
IsReading file language text (Reading.Model d) = InProfile file language text d
IsReading file language text (Reading.Fault fault) = (fault ≢ NoMemory) × IsFaultOf language text fault

-- the model that a file with this reading has: where the text has a fault, the root alone
abbrev pub model_by : FileNo → Language → Reading → Data
model_by file language (Reading.Model d) = d
model_by file language (Reading.Fault fault) = bare_model file language

-- the place of a fault, in bytes; want of memory has none
abbrev pub fault_place : FileFault → ℕ
fault_place (Encoding place) = place
fault_place (Token place) = place
fault_place (TooDeep place) = place
fault_place (Syntax place) = place
fault_place (Limit place) = place
fault_place NoMemory = 0
