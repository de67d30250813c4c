-- Where references stand.
use Rattle.std.specs.Prelude.{◌≡◌, ℕ, Some, List, map, slice_get}
use Rattle.linker_base.specs.Members.{IsMember}
use Rattle.element_store.specs.declared.numbers.FileNo.{FileNo}
use Rattle.element_store.specs.declared.outcome.Language.{Language}
use Rattle.element_store.specs.declared.records.Reference.{Reference}
use Rattle.element_store.specs.Model.{Data}
use Rattle.token_core.specs.declared.token.Token.{Token}
use Rattle.ll_core.specs.Derives.{Forest}
use Rattle.text_model.specs.Tables.{tables}
use Rattle.text_model.specs.Profile.{IsRead, InProfile}
use Rattle.text_laws.specs.Written.{Written, written, OneByOne}

-- one of the element's own tokens begins at the place
abbrev pub IsOwnPlace : Written → ℕ → Type 0
IsOwnPlace w place = IsMember (map (λ t. t.from) w.own) place

-- the reference stands at one of the own tokens of its element
abbrev pub StandsAtOwn : List Written → Reference → ℕ → Type 0
StandsAtOwn ws x place = (w : Written) × (slice_get ws x.context ≡ Some w) × IsOwnPlace w place

-- each reference stands so
abbrev pub ReferencesStandAtOwn : Type 0
ReferencesStandAtOwn =
    (file : FileNo) (language : Language) (text : List ℕ) (d : Data) (tokens : List Token) (tree : Forest)
    → InProfile file language text d → IsRead language text tokens tree
    → OneByOne (StandsAtOwn (written (tables language) tree tokens)) d.references d.reference_places
