-- What stands outside of a table of links: the files of a project with their models, and the library.
use Rattle.std.specs.Prelude.{ℕ, suc, Bool, true, false, cond, nat_eq, ◌&&◌, not, List, [], ◌∷◌, map, slice_get, Option, None, Some}
use Rattle.std.specs.List.{flat_map}
use Rattle.std.specs.Option.{option_map_or}
use Rattle.element_store.specs.declared.numbers.FileNo.{FileNo}
use Rattle.element_store.specs.declared.numbers.ElementNo.{ElementNo}
use Rattle.element_store.specs.declared.numbers.MemberNo.{MemberNo}
use Rattle.element_store.specs.declared.outcome.Language.TheVariants.{Sysml}
use Rattle.element_store.specs.declared.kind.Kind.{Kind}
use Rattle.element_store.specs.declared.kind.Visibility.{Visibility}
use Rattle.element_store.specs.declared.kind.Visibility.TheVariants as visibility
use Rattle.element_store.specs.declared.models.StoredFile.{StoredFile}
use Rattle.element_store.specs.Numbers.{numbers_from, places_from, those_where}
use Rattle.element_store.specs.Model.{Data, bare_model, bears}
use Rattle.element_store.specs.Stored.{stands_before}
use Rattle.element_store.specs.BaseRules.{base_of_kind}
use Rattle.link_model.specs.declared.keys.LinkKey.{LinkKey}
use Rattle.link_model.specs.declared.keys.LinkFact.{LinkFact}
use Rattle.link_model.specs.declared.keys.LinkFact.TheVariants.{File, RootName}

-- What stands at a fact: at a file its name, whether it is of the library, and its model, if its text is present; at
-- a name the public members of the roots of present project files that bear it, least first.
abbrev pub Seen : LinkFact → Type 0
Seen (File f) = Option StoredFile
Seen (RootName x) = List MemberNo

-- What never changes while a project stands: the public members of the roots of the library's files that bear a name,
-- least first, and the base of each kind.
pub record Library : Type 0 where
  pub roots : List ℕ → List MemberNo
  pub base : Kind → Option ElementNo

-- the model of a file; that of a file without a text is as one with the root alone
abbrev pub model_in : Option StoredFile → Data
model_in None = bare_model (record { 0 = 0 }) Sysml
model_in (Some s) = option_map_or (λ d. d) s.model (bare_model (record { 0 = 0 }) Sysml)

abbrev pub is_public : Visibility → Bool
is_public visibility.Public = true
is_public other = false

abbrev pub is_private : Visibility → Bool
is_private visibility.Private = true
is_private other = false

-- a file with its number
pub record Numbered : Type 0 where
  pub number : FileNo
  pub file : StoredFile

abbrev pub numbered_from : ℕ → List StoredFile → List Numbered
numbered_from n [] = []
numbered_from n (s ∷ files) = record { number = record { 0 = n }; file = s } ∷ numbered_from (suc n) files

-- a file put in its place among files that stand in order: project files before library files, each in byte order of
-- their names
abbrev pub placed : Numbered → List Numbered → List Numbered
placed s [] = s ∷ []
placed s (t ∷ ts) = cond (stands_before s.file t.file) (s ∷ t ∷ ts) (t ∷ placed s ts)

-- the files in order
abbrev pub in_rank : List Numbered → List Numbered
in_rank [] = []
in_rank (s ∷ ss) = placed s (in_rank ss)

-- the public members of a file's root that bear x, in order
abbrev pub root_members : List ℕ → Numbered → List MemberNo
root_members x s = map (λ k. record { file = s.number; index = k })
    (numbers_from 0 (λ m. nat_eq m.owner 0 && is_public m.visibility && bears x m) (model_in (Some s.file)).members)

-- those of all project files, and those of all library files
abbrev pub project_roots : List StoredFile → List ℕ → List MemberNo
project_roots files x = flat_map (root_members x)
    (those_where (λ s. not s.file.library) (in_rank (numbered_from 0 files)))

abbrev pub library_roots : List StoredFile → List ℕ → List MemberNo
library_roots files x = flat_map (root_members x) (those_where (λ s. s.file.library) (in_rank (numbered_from 0 files)))

-- what stands at the facts over these files
abbrev pub seen_in : List StoredFile → (f : LinkFact) → Seen f
seen_in files (File f) = slice_get files f.0
seen_in files (RootName x) = project_roots files x

abbrev pub library_of : List StoredFile → Library
library_of files = record { roots = library_roots files; base = base_of_kind files }

-- the references of a file, and those of all files, in the order of their numbers
abbrev pub keys_in : Numbered → List LinkKey
keys_in s = map (λ k. record { 0 = record { file = s.number; index = k } })
    (places_from 0 (model_in (Some s.file)).references)

abbrev pub keys_of : List StoredFile → List LinkKey
keys_of files = flat_map keys_in (numbered_from 0 files)
