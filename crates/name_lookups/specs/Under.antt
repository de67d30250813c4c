-- Elements that come under a name by an import.
use Rattle.std.specs.Prelude.{◌&&◌, ℕ, List, [], cond}
use Rattle.demand_core.specs.Computation.{done, ◌>>=◌}
use Rattle.element_store.specs.declared.numbers.ElementNo.{ElementNo}
use Rattle.link_model.specs.declared.keys.Hit.{Hit}
use Rattle.link_model.specs.Imports.{owning_hit}
use Rattle.link_model.specs.Names.{names}
use Rattle.link_model.specs.Readers.{Lookup, is_named}

-- the hit of an element by the member of that number in its file
abbrev pub hit_by : ElementNo → ℕ → Hit
hit_by e k = record { member = record { file = e.file; index = k }; element = e }

-- e by its owning member, where both are among its names
abbrev pub by_names : List ℕ → List ℕ → ElementNo → Lookup (List Hit)
by_names x last e = names e >>= λ ns. cond (is_named x ns && is_named last ns) (owning_hit e) (done [])
