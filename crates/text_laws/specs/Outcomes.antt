-- A text has one outcome.
use Rattle.std.specs.Prelude.{◌≡◌, ◌≢◌, ◌⊎◌, ℕ, List}
use Rattle.element_store.specs.declared.numbers.FileNo.{FileNo}
use Rattle.element_store.specs.declared.outcome.Language.{Language}
use Rattle.element_store.specs.Model.{Data}
use Rattle.text_model.specs.declared.fault.FileFault.{FileFault}
use Rattle.text_model.specs.declared.fault.FileFault.TheVariants.{NoMemory}
use Rattle.text_model.specs.Profile.{InProfile, IsFaultOf}

-- a text has one model at most
abbrev pub OneModel : Type 0
OneModel =
    (file : FileNo) (language : Language) (text : List ℕ) (a b : Data)
    → InProfile file language text a → InProfile file language text b → a ≡ b

-- a text with a model has no fault but want of memory
abbrev pub ModelOrFault : Type 0
ModelOrFault =
    (file : FileNo) (language : Language) (text : List ℕ) (d : Data) (fault : FileFault)
    → InProfile file language text d → IsFaultOf language text fault → fault ≡ NoMemory

-- a text has one fault at most beside want of memory
abbrev pub OneFault : Type 0
OneFault =
    (language : Language) (text : List ℕ) (a b : FileFault)
    → IsFaultOf language text a → IsFaultOf language text b → a ≢ NoMemory → b ≢ NoMemory → a ≡ b

-- a text has a model, or a fault that isn't want of memory
abbrev pub HasOutcome : FileNo → Language → List ℕ → Type 0
HasOutcome file language text =
    ((d : Data) × InProfile file language text d)
    ⊎ ((fault : FileFault) × IsFaultOf language text fault × (fault ≢ NoMemory))

-- each text has an outcome
abbrev pub SomeOutcome : Type 0
SomeOutcome = (file : FileNo) (language : Language) (text : List ℕ) → HasOutcome file language text
