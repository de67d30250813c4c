-- What is removed with a candidate, piece by piece.
use Rattle.std.specs.Prelude.{Bool, not, ◌&&◌, List, get_or, slice_get}
use Rattle.demand_core.specs.Computation.{done, ◌>>=◌, joined}
use Rattle.element_store.specs.declared.numbers.ElementNo.{ElementNo}
use Rattle.element_store.specs.declared.models.StoredFile.{StoredFile}
use Rattle.element_store.specs.Kinds.{is_feature}
use Rattle.element_store.specs.Model.{root_element}
use Rattle.element_store.specs.Numbers.{those_where}
use Rattle.link_model.specs.Outside.{model_in}
use Rattle.link_model.specs.Readers.{Lookup, only_if, element}
use Rattle.link_model.specs.Names.{hit}
use Rattle.link_model.specs.Inheritance as inheritance
use Rattle.link_model.specs.Inheritance.{Removal, candidate, is_owned_by, removals}
use Rattle.feature_facts.specs.declared.heir.Candidate.{Candidate}

-- second part: the features that the candidates' elements redefine
unfoldable pub gone : Bool → ElementNo → List inheritance.Candidate → Lookup (List Removal)
gone raw t cs = joined (removals raw t) cs

-- an element whose redefinitions remove others
abbrev pub removing_of : Bool → ElementNo → ElementNo → Lookup (List ElementNo)
removing_of raw t e = element e >>= λ x. done (only_if (not (raw && is_owned_by t e x.owner)) e)

abbrev pub given_gone : Bool → ElementNo → Candidate → Lookup (List ElementNo)
given_gone raw t c = removing_of raw t c.hit.element

-- those of the elements that are features
abbrev pub features_among : List StoredFile → List ElementNo → List ElementNo
features_among files es =
    those_where (λ g. is_feature (get_or (model_in (slice_get files g.file.0)).elements g.index root_element).kind) es
