-- What the going or coming of a file's text changes.
use Rattle.std.specs.Prelude.{ℕ, nat_eq, ◌&&◌, cond, List, [], ◌∷◌, ◌++◌, Option}
use Rattle.std.specs.List.{flat_map}
use Rattle.std.specs.Option.{option_map_or}
use Rattle.demand_core.specs.declared.looks.Fact.{Fact}
use Rattle.demand_core.specs.declared.looks.Fact.TheVariants.{Outer}
use Rattle.element_store.specs.declared.numbers.FileNo.{FileNo}
use Rattle.element_store.specs.declared.models.StoredFile.{StoredFile}
use Rattle.element_store.specs.declared.records.Member.{Member}
use Rattle.link_model.specs.declared.keys.LinkKey.{LinkKey}
use Rattle.link_model.specs.declared.keys.LinkFact.{LinkFact}
use Rattle.link_model.specs.declared.keys.LinkFact.TheVariants.{File, RootName}
use Rattle.link_model.specs.Outside.{is_public, model_in}

-- the roots under a name, if there is one
abbrev pub name_facts : Option (List ℕ) → List (Fact LinkKey LinkFact)
name_facts name = option_map_or (λ x. Outer (RootName x) ∷ []) name []

-- the roots under each name of a public member of a root
abbrev pub member_facts : Member → List (Fact LinkKey LinkFact)
member_facts m = cond (nat_eq m.owner 0 && is_public m.visibility) (name_facts m.short ++ name_facts m.name) []

-- the file, and the roots under each name of a public member of its root
abbrev pub facts_of : FileNo → Option StoredFile → List (Fact LinkKey LinkFact)
facts_of file s = Outer (File file) ∷ flat_map member_facts (model_in s).members
