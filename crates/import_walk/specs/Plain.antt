-- Visible members where all tasks ask alike: each namespace is looked up once.
use Rattle.std.specs.Prelude.{◌≡◌, ℕ, true, false, List, [], ◌∷◌, ◌++◌, ◌⊎◌}
use Rattle.demand_core.specs.Computation.{IsSound}
use Rattle.demand_core.specs.Search.{IsAsked}
use Rattle.element_store.specs.declared.numbers.ElementNo.{ElementNo}
use Rattle.link_model.specs.declared.keys.Hit.{Hit}
use Rattle.link_model.specs.declared.view.View.{View}
use Rattle.link_model.specs.Keys.{is_in}
use Rattle.link_model.specs.Outside.{Library}
use Rattle.link_model.specs.Readers.{Lookup, most}
use Rattle.link_model.specs.Imports.{visible_from}
use Rattle.link_walk.specs.Calls.{read_by}
use Rattle.link_walk.specs.Noted.{LinkTrail}
use Rattle.import_walk.specs.declared.hunt.Task.{Task}
use Rattle.import_walk.specs.declared.plain.Mode.{Mode}
use Rattle.import_walk.specs.Deferred.{Asking, HuntTrail, DefersIn, shows, width, lib_of}

-- a task asks for just this
abbrev pub IsAlike : Mode → Task → Type 0
IsAlike m t = (t.recursive ≡ m.recursive) × (t.all ≡ m.all)

-- nothing is known, and no task is left
abbrev pub nothing_yet : HuntTrail
nothing_yet = record { nodes = []; found = []; waits = []; looks = [] }

-- what is visible in a task's namespace within so many steps, where these are excluded
abbrev pub seen_within : Library → List ℕ → ℕ → List ElementNo → Asking
seen_within lib x steps excluded t = visible_from lib steps x excluded t.recursive t.all t.namespace

-- A task's namespace is excluded or marked, and nothing is done; or it is marked now, and what it shows is added.
abbrev pub Visits : View → List ℕ → List ElementNo → Task → List ElementNo → List ElementNo → HuntTrail → HuntTrail
    → Type 0
Visits v x excluded t marks marked old new =
    ((is_in t.namespace excluded ≡ true ⊎ is_in t.namespace marks ≡ true) × (marked ≡ marks) × (new ≡ old))
    ⊎ ((is_in t.namespace excluded ≡ false) × (is_in t.namespace marks ≡ false)
    × (marked ≡ marks ++ t.namespace ∷ [])
    × DefersIn v [] (width v.models.now t) (λ ask. shows (lib_of v) x ask [] t) old new)

-- what is known ends with the lookup of which the hunt was what came first
abbrev pub EndsPlain : View → List ℕ → List ElementNo → HuntTrail → LinkTrail Hit → Type 0
EndsPlain v x excluded hunt gains = (c : Asking → Lookup (List Hit)) (n : ℕ)
    → DefersIn v [] n c nothing_yet hunt
    → IsSound (read_by v).table (c (seen_within (lib_of v) x most excluded) (read_by v)).step
    (c (seen_within (lib_of v) x most excluded) (read_by v)).looks
    → IsAsked gains (c (seen_within (lib_of v) x most excluded) (read_by v))
