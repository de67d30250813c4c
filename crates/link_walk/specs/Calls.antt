-- What the calls' clauses say of the definitions.
use Rattle.std.specs.Prelude.{◌≡◌, ◌<◌, List, [], ◌∷◌, map, length, Option, None, Some}
use Rattle.std.specs.List.{flat_map}
use Rattle.std.specs.Option.{option_map_or}
use Rattle.linker_base.specs.Members.{IsMember, IsEachOnce, SameMembers, Adds}
use Rattle.demand_core.specs.Rules.{AllFit}
use Rattle.demand_core.specs.Tables.{entry_of}
use Rattle.demand_core.specs.Computation.{done, ◌>>=◌}
use Rattle.demand_core.specs.Computed.{world}
use Rattle.demand_core.specs.Gather.{Led}
use Rattle.demand_core.specs.Search.{Goes}
use Rattle.demand_core.specs.declared.looks.Fact.{Fact}
use Rattle.demand_core.specs.declared.step.Step.{Step}
use Rattle.demand_core.specs.declared.step.Step.TheVariants as step
use Rattle.element_store.specs.declared.numbers.ElementNo.{ElementNo}
use Rattle.element_store.specs.declared.numbers.FileNo.{FileNo}
use Rattle.element_store.specs.declared.numbers.RefNo.{RefNo}
use Rattle.element_store.specs.declared.numbers.ImportNo.{ImportNo}
use Rattle.element_store.specs.declared.outcome.Outcome.{Outcome}
use Rattle.element_store.specs.declared.models.StoredFile.{StoredFile}
use Rattle.element_store.specs.Model.{Data}
use Rattle.element_store.specs.Numbers.{places_from}
use Rattle.element_store.specs.BaseRules.{StandsIn, model_of}
use Rattle.link_model.specs.declared.keys.LinkKey.{LinkKey}
use Rattle.link_model.specs.declared.view.View.{View}
use Rattle.link_model.specs.declared.keys.LinkFact.{LinkFact}
use Rattle.link_model.specs.Keys.{same_element, same_key}
use Rattle.link_model.specs.Outside.{seen_in, Numbered, numbered_from}
use Rattle.link_model.specs.Readers.{LinkWorld, Lookup}
use Rattle.link_model.specs.Linking.{Fits}
use Rattle.link_walk.specs.Noted.{Asks}
use Rattle.link_walk.specs.declared.reading.Read.{Read}
use Rattle.link_walk.specs.declared.reading.Read.TheVariants.{Open, Nowhere, At}
use Rattle.link_walk.specs.declared.answering.Found.{Found}
use Rattle.link_walk.specs.declared.answering.Found.TheVariants as found

-- what a lookup reads over these files and this table
abbrev pub reading : List StoredFile → List (LinkKey × Outcome) → LinkWorld
reading files entries = world (seen_in files) (entry_of same_key entries)

-- the outcomes of the table are decided ones and name what stands
abbrev pub AreLinks : List StoredFile → List (LinkKey × Outcome) → Type 0
AreLinks files entries = AllFit (λ k o. Fits files o) (entry_of same_key entries)

-- the file has a model
abbrev pub HasModel : List StoredFile → FileNo → Type 0
HasModel files f = (d : Data) × (model_of files f.0 ≡ Some d)

-- the reference, and the import, stand in the models
abbrev pub ReferenceStands : List StoredFile → RefNo → Type 0
ReferenceStands files r = (d : Data) × (model_of files r.file.0 ≡ Some d) × (r.index < length d.references)

abbrev pub ImportStands : List StoredFile → ImportNo → Type 0
ImportStands files i = (d : Data) × (model_of files i.file.0 ≡ Some d) × (i.index < length d.imports)

-- references as keys
abbrev pub keys_for : List RefNo → List LinkKey
keys_for rs = map (λ r. record { 0 = r }) rs

-- THE ANSWER of a step or what it waits on, as sets
abbrev pub Answers : {A : Type 0} → Found (List A) → Step LinkKey (List A) → Type 0
Answers (found.Done xs) (step.Done ys) = SameMembers xs ys
Answers (found.Done xs) (step.Waits ks) = ⊥
Answers (found.Waits rs) (step.Done ys) = ⊥
Answers (found.Waits rs) (step.Waits ks) = SameMembers (keys_for rs) ks

-- the one answer of a step, or none; or what it waits on
abbrev pub AnswersOne : {A : Type 0} → Found (Option A) → Step LinkKey (List A) → Type 0
AnswersOne (found.Done None) (step.Done ys) = ys ≡ []
AnswersOne (found.Done (Some x)) (step.Done ys) = ys ≡ x ∷ []
AnswersOne (found.Done o) (step.Waits ks) = ⊥
AnswersOne (found.Waits rs) (step.Done ys) = ⊥
AnswersOne (found.Waits rs) (step.Waits ks) = SameMembers (keys_for rs) ks

-- THE LOOKS of an asking are added
abbrev pub AddsLooks : {A : Type 0} → List (Fact LinkKey LinkFact) → List (Fact LinkKey LinkFact) → Asks A → Type 0
AddsLooks old new a = Adds old new a.looks

-- what a reading of a reference says of a step
abbrev pub step_of : Read → Step LinkKey (List ElementNo)
step_of (Open r) = step.Waits (record { 0 = r } ∷ [])
step_of Nowhere = step.Done []
step_of (At e) = step.Done (e ∷ [])

-- where a reference leads stands
abbrev pub LeadsIn : List StoredFile → Read → Type 0
LeadsIn files (At e) = StandsIn files e
LeadsIn files other = Unit {0}

-- what is found by a link is where the search goes on
abbrev pub ends : {L : Type 0} → (L → Lookup (List ElementNo)) → L → Lookup (Led ElementNo ElementNo)
ends c l = c l >>= λ ts. done (record { found = ts; onward = ts })

-- from these elements links go on at these alone
abbrev pub StaysAmong : {L B : Type 0} → (ElementNo → Lookup (List L)) → (L → Lookup (Led B ElementNo)) → LinkWorld
    → List ElementNo → Type 0
StaysAmong links leads w all =
    (a t : ElementNo) → IsMember all a → Goes links leads w same_element a t → IsMember all t

-- the answer, if there is one, is this
abbrev pub IsAnswer : {A : Type 0} → A → Found A → Type 0
IsAnswer x (found.Done y) = y ≡ x
IsAnswer x (found.Waits rs) = Unit {0}

-- in the answer, if there is one, nothing comes twice
abbrev pub IsOnce : {A : Type 0} → Found (List A) → Type 0
IsOnce (found.Done xs) = IsEachOnce xs
IsOnce (found.Waits rs) = Unit {0}

-- the elements of a file, and those of all files
abbrev pub elements_in : Numbered → List ElementNo
elements_in s = option_map_or
    (λ d. map (λ k. record { file = s.number; index = k }) (places_from 0 d.elements)) s.file.model []

abbrev pub elements_of : List StoredFile → List ElementNo
elements_of files = flat_map elements_in (numbered_from 0 files)

-- what is seen through a view: its files, and what a lookup reads of them and of its table
abbrev pub files_of : View → List StoredFile
files_of v = v.models.now

abbrev pub read_by : View → LinkWorld
read_by v = reading v.models.now v.table.now

-- its outcomes are decided ones and name what stands
abbrev pub HasLinks : View → Type 0
HasLinks v = AreLinks v.models.now v.table.now
