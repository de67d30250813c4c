-- The rules of links: the order in which they list what they wait on, which answers fit, and what they mean for a book
-- of files.
use Rattle.std.specs.Prelude.{◌≡◌, ◌⊎◌, ℕ, ◌<◌, true, cond, List, [], ◌∷◌, map, length, slice_get, Option, Some}
use Rattle.linker_base.specs.Members.{IsMember}
use Rattle.element_store.specs.declared.numbers.FileNo.{FileNo}
use Rattle.element_store.specs.declared.numbers.ElementNo.{ElementNo}
use Rattle.element_store.specs.declared.numbers.MemberNo.{MemberNo}
use Rattle.element_store.specs.declared.outcome.Outcome.{Outcome}
use Rattle.element_store.specs.declared.outcome.Outcome.TheVariants.{Linked, Absent, Ambiguous, Hidden, Cyclic}
use Rattle.element_store.specs.declared.models.StoredFile.{StoredFile}
use Rattle.element_store.specs.Model.{Data}
use Rattle.element_store.specs.Stored.{stands_before}
use Rattle.element_store.specs.BaseRules.{model_of}
use Rattle.demand_core.specs.Rules.{Meaning}
use Rattle.demand_core.specs.Computed.{computed, each_once}
use Rattle.demand_core.specs.declared.step.Step.{Step}
use Rattle.demand_core.specs.declared.step.Step.TheVariants.{Done, Waits}
use Rattle.link_model.specs.declared.keys.LinkKey.{LinkKey}
use Rattle.link_model.specs.declared.keys.LinkFact.{LinkFact}
use Rattle.link_model.specs.declared.keys.LinkFact.TheVariants.{File}
use Rattle.link_model.specs.Keys.{same_key}
use Rattle.link_model.specs.Outside.{seen_in, library_of, keys_of, Library}
use Rattle.link_model.specs.Readers.{Lookup, LinkWorld}
use Rattle.link_model.specs.Lexical.{Ranked, ranked_by, is_before}
use Rattle.link_model.specs.Asking.{ask, find_by}

-- a key with what decides which is least
abbrev pub ranked_key : LinkWorld → LinkKey → Ranked LinkKey
ranked_key w k = ranked_by (w.outer (File k.0.file)) k.0.index k

abbrev pub put_in : Ranked LinkKey → List (Ranked LinkKey) → List (Ranked LinkKey)
put_in k [] = k ∷ []
put_in k (l ∷ ls) = cond (is_before l k) (l ∷ put_in k ls) (k ∷ l ∷ ls)

abbrev pub in_least_order : List (Ranked LinkKey) → List (Ranked LinkKey)
in_least_order [] = []
in_least_order (k ∷ ks) = put_in k (in_least_order ks)

abbrev pub items_of : List (Ranked LinkKey) → List LinkKey
items_of ks = map (λ k. k.item) ks

-- the keys in the order of references, the least first
abbrev pub sorted : LinkWorld → List LinkKey → List LinkKey
sorted w ks = items_of (in_least_order (map (ranked_key w) ks))

abbrev pub sorted_step : {A : Type 0} → LinkWorld → Step LinkKey A → Step LinkKey A
sorted_step w (Done x) = Done x
sorted_step w (Waits ks) = Waits (sorted w ks)

-- The same lookup, with what it waits on in the order of references. That order hangs on the names of their files; a
-- lookup that waits on a reference has looked at its file.
abbrev pub least_first : {A : Type 0} → Lookup A → Lookup A
least_first c w = record { step = sorted_step w (c w).step; looks = (c w).looks }

-- THE ORDER OF REFERENCES. The file of the first stands before that of the second: project files before library files,
-- within each the byte order of names; or both are of one file, and the first has the lesser number.
abbrev pub FileBefore : List StoredFile → FileNo → FileNo → Type 0
FileBefore files f g = (s t : StoredFile) × (slice_get files f.0 ≡ Some s) × (slice_get files g.0 ≡ Some t)
    × (stands_before s t ≡ true)

abbrev pub ComesBefore : List StoredFile → LinkKey → LinkKey → Type 0
ComesBefore files a b = FileBefore files a.0.file b.0.file ⊎ ((a.0.file ≡ b.0.file) × (a.0.index < b.0.index))

-- the element stands, and is no root
abbrev pub ElementStands : List StoredFile → ElementNo → Type 0
ElementStands files e = (d : Data) × (model_of files e.file.0 ≡ Some d) × (e.index < length d.elements) × (0 < e.index)

abbrev pub MemberStands : List StoredFile → MemberNo → Type 0
MemberStands files m = (d : Data) × (model_of files m.file.0 ≡ Some d) × (m.index < length d.members)

-- which outcomes may stand in a table of links: decided ones that name what stands
abbrev pub Fits : List StoredFile → Outcome → Type 0
Fits files (Linked steps e) = ((s : ElementNo) → IsMember steps s → ElementStands files s) × ElementStands files e
Fits files (Absent segment) = Unit {0}
Fits files (Ambiguous segment first second) = MemberStands files first × MemberStands files second
Fits files (Hidden segment member) = MemberStands files member
Fits files (Cyclic on) = ⊥

-- the rule of a reference
abbrev pub rule : Library → LinkKey → Lookup Outcome
rule lib k = least_first (ask lib k.0)

-- THE RULES OF LINKS over these files
abbrev pub link_meaning : List StoredFile → Meaning LinkKey Outcome LinkFact
link_meaning files = computed (each_once same_key) (keys_of files) (λ k o. Fits files o) (seen_in files)
    (rule (library_of files))

-- the outcome of a finding: where it waits it is cyclic, on the least reference on which it waits
abbrev pub found_by : Step LinkKey Outcome → Outcome
found_by (Done o) = o
found_by (Waits []) = Absent 1
found_by (Waits (k ∷ ks)) = Cyclic k.0

-- FIND. The outcome of a qualified name from outside, over a table of links.
abbrev pub find : List StoredFile → (LinkKey → Option Outcome) → List (List ℕ) → Outcome
find files table path = found_by
    (least_first (find_by (library_of files) path) (record { table = table; outer = seen_in files })).step
