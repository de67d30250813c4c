use Rattle.std.proofs.Common.{◌≡◌, List, length, take}
use Rattle.std.specs.Prelude.{Some}
use Rattle.demand_core.specs.Computation.{joined}
use Rattle.element_store.specs.declared.models.StoredFile.{StoredFile}
use Rattle.element_store.specs.BaseRules.{model_of}
use Rattle.link_model.specs.Readers.{LinkWorld}
use Rattle.import_walk.specs.Deferred.{Asking, Defers, owned_part}
use Rattle.import_walk.proofs.visibility.add_members.Given as goal

-- the members so far are added
abbrev pub invariant-loop-number : goal.invariant-loop-number
invariant-loop-number l = (ask : Asking) (files : List StoredFile) (w : LinkWorld) → model_of files l.fn.file.0 ≡ Some l.model
    → Defers ask files w l.inner (length (take l.number-index l.numbers)) (joined (owned_part ask l.inner l.fn.all l.fn.file l.model)
    (take l.number-index l.numbers) w) l.initial.hunt l.hunt
