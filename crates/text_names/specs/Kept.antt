-- What holds of each text, so that a project may keep it: its names can be spelt, and its places stand within it.
use Rattle.std.specs.Prelude.{ℕ, ◌≤◌, List, length}
use Rattle.element_store.specs.declared.numbers.FileNo.{FileNo}
use Rattle.element_store.specs.declared.outcome.Language.{Language}
use Rattle.element_store.specs.Model.{Data}
use Rattle.text_model.specs.declared.fault.FileFault.{FileFault}
use Rattle.text_model.specs.Profile.{InProfile, IsFaultOf}
use Rattle.book_model.specs.Readings.{fault_place}
use Rattle.written_names.specs.Spellable.{AreNamesSpellable}
use Rattle.project_files.specs.Kept.{ArePlacesWithin}

-- each name, each segment and each step of the model of a text can be spelt
abbrev pub NamesAreSpellable : Type 0
NamesAreSpellable =
    (file : FileNo) (language : Language) (text : List ℕ) (d : Data)
    → InProfile file language text d → AreNamesSpellable d

-- each member and each reference of the model of a text stands in it, or at its end
abbrev pub PlacesAreWithin : Type 0
PlacesAreWithin =
    (file : FileNo) (language : Language) (text : List ℕ) (d : Data)
    → InProfile file language text d → ArePlacesWithin text d

-- and so does the place of a fault
abbrev pub FaultsAreWithin : Type 0
FaultsAreWithin =
    (language : Language) (text : List ℕ) (fault : FileFault)
    → IsFaultOf language text fault → fault_place fault ≤ length text
