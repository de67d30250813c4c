-- The hits of members by where their targets lead.
use Rattle.std.specs.Prelude.{◌≡◌, ℕ, List, map}
use Rattle.demand_core.specs.Computation.{◌>>=◌, done}
use Rattle.element_store.specs.declared.numbers.FileNo.{FileNo}
use Rattle.element_store.specs.declared.numbers.MemberNo.{MemberNo}
use Rattle.element_store.specs.declared.records.Target.{Target}
use Rattle.element_store.specs.declared.records.Target.TheVariants.{Alias}
use Rattle.element_store.specs.declared.models.StoredFile.{StoredFile}
use Rattle.link_model.specs.declared.keys.Hit.{Hit}
use Rattle.link_model.specs.Readers.{Lookup}
use Rattle.link_model.specs.Names.{leads_to}
use Rattle.link_walk.specs.Calls.{ReferenceStands}

-- an alias's reference stands
abbrev pub AreReferencesThere : List StoredFile → FileNo → Target → Type 0
AreReferencesThere files f t = (r : ℕ) → t ≡ Alias r → ReferenceStands files (record { file = f; index = r })

-- the hit of a member with that target
abbrev pub of_target : MemberNo → Target → Lookup (List Hit)
of_target m t = leads_to m.file t >>= λ es. done (map (λ e. record { member = m; element = e }) es)
