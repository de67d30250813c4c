-- What the rows of implied specialisations (KerML 8.4.2) say together.
use Rattle.std.specs.Prelude.{◌≡◌, ℕ, ◌<◌, List, length, map, slice_get, Some}
use Rattle.std.specs.List.{flat_map}
use Rattle.linker_base.specs.Members.{IsMember}
use Rattle.element_store.specs.declared.numbers.ElementNo.{ElementNo}
use Rattle.element_store.specs.declared.numbers.FileNo.{FileNo}
use Rattle.element_store.specs.declared.models.StoredFile.{StoredFile}
use Rattle.element_store.specs.BaseRules.{StandsIn, model_of}
use Rattle.element_store.specs.Model.{Data}
use Rattle.element_store.specs.Stored.{HasRank}
use Rattle.link_model.specs.Linking.{MemberStands}
use Rattle.link_model.specs.Readers.{LinkWorld}
use Rattle.implied_model.specs.Implied.{Implication, implications, implied_in}
use Rattle.implied_rules.specs.declared.rows.ImpliedRow.{ImpliedRow}

-- the element stands in that model, which is its file's
pub record IsAt (files : List StoredFile) (e : ElementNo) (d : Data) : Type 0 where
  pub model : model_of files e.file.0 ≡ Some d
  pub own : d.file ≡ e.file
  pub within : e.index < length d.elements

-- what a row says
abbrev pub said_by : ImpliedRow → Implication
said_by row = record { of = row.of; member = row.member; base = row.base }

-- the elements and the member of the rows stand
abbrev pub AreStanding : List StoredFile → List ImpliedRow → Type 0
AreStanding files rows = (row : ImpliedRow) → IsMember rows row
    → StandsIn files row.of × MemberStands files row.member × StandsIn files row.base

-- so many project files were listed first, with their rows
pub record AreListed (files : List StoredFile) (w : LinkWorld) (count : ℕ) (rows : List ImpliedRow) : Type 0 where
  pub order : List FileNo
  pub long : length order ≡ count
  pub ranked : (r : ℕ) (f : FileNo) → slice_get order r ≡ Some f → HasRank files r f.0
  pub said : map said_by rows ≡ flat_map (implied_in files w) order
  pub stand : AreStanding files rows

-- THE ROWS say the implied specialisations of the project files
abbrev pub AreImplied : List StoredFile → LinkWorld → List ImpliedRow → Type 0
AreImplied files w rows = map said_by rows ≡ implications files w
