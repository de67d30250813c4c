-- Visible members as a list of tasks: what is found so far, and what is still to be looked up.
use Rattle.std.specs.Prelude.{◌≡◌, ℕ, ◌+◌, ◌-◌, ◌^◌, ◌≤◌, Bool, true, cond, ◌||◌, List, [], ◌∷◌, ◌++◌, length, slice_get, Some, ◌⊎◌}
use Rattle.linker_base.specs.Members.{IsMember}
use Rattle.demand_core.specs.Computation.{Asked, IsSound, done, ◌>>=◌, join}
use Rattle.demand_core.specs.Search.{Part, Shows, Admits, Trail, IsKnown, IsAsked, off_count}
use Rattle.element_store.specs.declared.numbers.FileNo.{FileNo}
use Rattle.element_store.specs.declared.numbers.ElementNo.{ElementNo}
use Rattle.element_store.specs.declared.numbers.ImportNo.{ImportNo}
use Rattle.element_store.specs.declared.records.Import.{Import}
use Rattle.element_store.specs.declared.records.Target.{Target}
use Rattle.element_store.specs.declared.records.Target.TheVariants.{Owned, Alias}
use Rattle.element_store.specs.declared.models.StoredFile.{StoredFile}
use Rattle.element_store.specs.Model.{Data}
use Rattle.element_store.specs.Condition.{members_of, imports_of}
use Rattle.element_store.specs.BaseRules.{StandsIn, model_of}
use Rattle.link_model.specs.declared.keys.LinkKey.{LinkKey}
use Rattle.link_model.specs.declared.keys.LinkFact.{LinkFact}
use Rattle.link_model.specs.declared.keys.Hit.{Hit}
use Rattle.link_model.specs.declared.view.View.{View}
use Rattle.link_model.specs.Keys.{same_element}
use Rattle.link_model.specs.Outside.{Library, model_in, is_public, library_of}
use Rattle.link_model.specs.Readers.{Lookup, LinkWorld, is_nil, told, first_of, model}
use Rattle.link_model.specs.Imports.{own_tiers, brought, import_tier, in_owned, inside, last_written, under_name, visible_from}
use Rattle.link_walk.specs.Calls.{read_by}
use Rattle.link_walk.specs.Noted.{LinkTrail}
use Rattle.import_walk.specs.declared.hunt.Task.{Task}

-- what is known, and the tasks that are left
abbrev pub HuntTrail : Type 0
HuntTrail = Trail LinkKey LinkFact Task Hit

-- one thing that a lookup of hits shows, and what it gives
abbrev pub HitPart : Type 0
HitPart = Part LinkKey LinkFact Hit

abbrev pub HitAsked : Type 0
HitAsked = Asked LinkKey LinkFact (List Hit)

-- a task, and a hunt with one task more
abbrev pub task_of : List ElementNo → Bool → Bool → ElementNo → Task
task_of excluded recursive all n =
    record { excluded = excluded; recursive = recursive; all = all; namespace = n }

abbrev pub with_task : HuntTrail → Task → HuntTrail
with_task h t = record { nodes = h.nodes ++ t ∷ []; found = h.found; waits = h.waits; looks = h.looks }

-- what tasks ask for
abbrev pub Asking : Type 0
Asking = Task → Lookup (List Hit)

-- a task asks for this: a namespace more that is excluded is a step less
abbrev pub asks_task : Library → List ℕ → ℕ → Asking
asks_task lib x base t =
    visible_from lib (base - length t.excluded) x t.excluded t.recursive t.all t.namespace

module _ (ask : Asking) where
  -- what is visible elsewhere, where these are excluded
  abbrev pub again_from : List ElementNo → Bool → Bool → ElementNo → Lookup (List Hit)
  again_from inner recursive all e = ask (task_of inner recursive all e)

  -- what the member of that number gives, where it is shown
  abbrev pub owned_part : List ElementNo → Bool → FileNo → Data → ℕ → Lookup (List Hit)
  owned_part inner all f d k = told (slice_get d.members k)
      (λ m. cond (all || is_public m.visibility) (in_owned (again_from inner) all f m.target) (done []))

  -- what is inside a namespace, where that is asked for
  abbrev pub inside_if : List ElementNo → Bool → Bool → ElementNo → Lookup (List Hit)
  inside_if inner asked all n = cond asked (inside (again_from inner) all n) (done [])

module _ (x : List ℕ) (ask : Asking) where
  -- what an import of this element brings
  abbrev pub import_at : List ElementNo → Data → Import → ElementNo → Lookup (List Hit)
  import_at inner d i e = cond i.star (again_from ask inner i.recursive i.all e)
      (join (under_name x (last_written d i) e) (cond i.recursive (again_from ask inner true i.all e) (done [])))

  -- what the import of that number brings, where it is shown
  abbrev pub shown_import : List ElementNo → Bool → FileNo → Data → ℕ → Lookup (List Hit)
  shown_import inner all f d k = told (slice_get d.imports k)
      (λ i. cond (all || is_public i.visibility) (brought (again_from ask inner) x f i) (done []))

  -- what the imports of a namespace bring
  abbrev pub shown_imports : List ElementNo → Bool → ElementNo → Lookup (List Hit)
  shown_imports inner all n = import_tier (again_from ask inner) (λ i. all || is_public i.visibility) x n

module _ (lib : Library) (x : List ℕ) (ask : Asking) where
  -- the tiers of a namespace
  abbrev pub tiers_then : List ElementNo → Bool → ElementNo → Lookup (List Hit)
  tiers_then inner all n = first_of (own_tiers lib all x n)
      >>= λ hs. cond (is_nil hs) (import_tier (again_from ask inner) (λ i. all || is_public i.visibility) x n) (done hs)

  -- what a task's namespace shows: its tiers, and what is inside
  abbrev pub shows : List ElementNo → Task → Lookup (List Hit)
  shows inner t = join (tiers_then inner t.all t.namespace) (inside_if ask inner t.recursive t.all t.namespace)

-- what the import of that number brings, by what is visible elsewhere
abbrev pub brings : List ℕ → ImportNo → (Bool → Bool → ElementNo → Lookup (List Hit)) → Lookup (List Hit)
brings x i again = model i.file >>= λ d. told (slice_get d.imports i.index) (brought again x i.file)

-- the element that a target owns stands
abbrev pub TargetStandsIn : List StoredFile → FileNo → Target → Type 0
TargetStandsIn files f (Owned e) = StandsIn files (record { file = f; index = e })
TargetStandsIn files f (Alias r) = Unit {0}

-- the numbers of a namespace's imports, and of its members
abbrev pub imports_at : List StoredFile → ElementNo → List ℕ
imports_at files n = imports_of (model_in (slice_get files n.file.0)) n.index

abbrev pub members_at : List StoredFile → ElementNo → List ℕ
members_at files n = members_of (model_in (slice_get files n.file.0)) n.index

-- no more tasks come of one
abbrev pub width : List StoredFile → Task → ℕ
width files t = length (imports_at files t.namespace) + length (members_at files t.namespace)

-- the namespaces of the tasks stand
abbrev pub AllTasksStand : List StoredFile → List Task → Type 0
AllTasksStand files ts = (t : Task) → IsMember ts t → StandsIn files t.namespace

-- The parts of an asking are known afterwards, or are parts of the tasks that were added; and nothing else is.
pub record Defers
    (ask : Asking) (files : List StoredFile) (w : LinkWorld) (inner : List ElementNo) (most_added : ℕ)
    (a : HitAsked) (old new : HuntTrail)
    : Type 0 where
  pub added : List Task
  pub grown : new.nodes ≡ old.nodes ++ added
  pub kept : (y : HitPart) → IsKnown old y → IsKnown new y
  pub shown : (y : HitPart) → Shows a y
      → IsKnown new y ⊎ ((t : Task) × IsMember added t × Shows (ask t w) y)
  pub only : (y : HitPart) → IsKnown new y → IsKnown old y ⊎ Admits a y
  pub pending : (t : Task) (y : HitPart) → IsMember added t → Admits (ask t w) y → Admits a y
  pub inside : (t : Task) → IsMember added t → (t.excluded ≡ inner) × StandsIn files t.namespace
  pub count : length added ≤ most_added

-- the file has that model
abbrev pub HasThere : FileNo → Data → List StoredFile → Type 0
HasThere f d files = model_of files f.0 ≡ Some d

-- that of what is asked through a view, whatever tasks ask for
abbrev pub DefersIn : View → List ElementNo → ℕ → (Asking → Lookup (List Hit)) → HuntTrail → HuntTrail → Type 0
DefersIn v inner n c old new =
    (ask : Asking) → Defers ask v.models.now (read_by v) inner n (c ask (read_by v)) old new

-- and wherever it is asked, if this holds of the files
abbrev pub DefersWhere : (List StoredFile → Type 0) → List ElementNo → ℕ → (Asking → Lookup (List Hit)) → HuntTrail
    → HuntTrail → Type 0
DefersWhere P inner n c old new = (ask : Asking) (files : List StoredFile) (w : LinkWorld) → P files
    → Defers ask files w inner n (c ask w) old new

-- what a task gives is added, and the tasks that come of it
abbrev pub GivesTask : View → List ℕ → Task → HuntTrail → HuntTrail → Type 0
GivesTask v x t old new = (base : ℕ) → 2 ^ 64 ≤ base
    → Defers (asks_task (library_of v.models.now) x base) v.models.now (read_by v) (t.namespace ∷ t.excluded)
    (width v.models.now t) (asks_task (library_of v.models.now) x base t (read_by v)) old new

-- the library of what a view sees
abbrev pub lib_of : View → Library
lib_of v = library_of v.models.now

-- The same of a whole lookup, with the tasks that are left.
pub record IsHunt (ask : Asking) (w : LinkWorld) (a : HitAsked) (hunt : HuntTrail) : Type 0 where
  pub shown : (y : HitPart) → Shows a y
      → IsKnown hunt y ⊎ ((t : Task) × IsMember hunt.nodes t × Shows (ask t w) y)
  pub only : (y : HitPart) → IsKnown hunt y → Admits a y
  pub pending : (t : Task) (y : HitPart) → IsMember hunt.nodes t → Admits (ask t w) y → Admits a y

-- what is known ends with each lookup of which the hunt was one
abbrev pub EndsHunt : View → List ℕ → HuntTrail → LinkTrail Hit → Type 0
EndsHunt v x hunt gains = (base : ℕ) (a : HitAsked) → 2 ^ 64 ≤ base
    → IsSound (read_by v).table a.step a.looks → IsHunt (asks_task (lib_of v) x base) (read_by v) a hunt
    → IsAsked gains a

-- A number that decreases with each task: each gives less than this base of tasks, and each of these excludes one
-- element more.
abbrev pub weight : List ElementNo → List Task → ℕ
weight all [] = 0
weight all (t ∷ ts) = (2 ^ 66) ^ off_count same_element t.excluded all + weight all ts
