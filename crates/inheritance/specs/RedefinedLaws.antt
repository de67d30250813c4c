-- The search along redefinitions: where it goes.
use Rattle.std.proofs.Common.{cond, []}
use Rattle.linker_base.specs.Members.{IsMember}
use Rattle.demand_core.specs.Computation.{done, IsRegular}
use Rattle.demand_core.specs.Search.{Goes}
use Rattle.demand_core.proofs.ComputationLaws.{regular_done, regular_then, regular_cond}
use Rattle.element_store.specs.declared.numbers.ElementNo.{ElementNo}
use Rattle.element_store.specs.Kinds.{is_feature}
use Rattle.link_model.specs.declared.keys.LinkKey.{LinkKey}
use Rattle.link_model.specs.Keys.{same_element}
use Rattle.link_model.specs.Names.{is_redefinition, redefinitions}
use Rattle.link_model.specs.Readers.{element, references_as, target}
use Rattle.link_model.proofs.TameLaws.{element_tame, target_tame}
use Rattle.link_walk.specs.Calls.{ends, elements_of}
use Rattle.link_walk.proofs.ElementLaws.{element_among}
use Rattle.inheritance.specs.declared.sight.Sight.{Sight}
use Rattle.inheritance.specs.Sights.{sees, IsClear}
use Rattle.inheritance.specs.GeneralLaws.{references_regular, ends_regular, ends_on, target_stands}

pub redefinitions_regular : (f : ElementNo) → IsRegular (redefinitions f)
redefinitions_regular f = regular_then (element f) (λ x. cond (is_feature x.kind) (references_as is_redefinition f)
    (done [])) (element_tame f).regular
    (λ x. regular_cond (is_feature x.kind) (references_as is_redefinition f) (done [])
    (references_regular is_redefinition f) (regular_done []))

pub target_ends_regular : (r : LinkKey) → IsRegular (ends target r)
target_ends_regular = ends_regular target (λ r. (target_tame r).regular)

pub redefined_closed : (s : Sight) → IsClear s → (a t : ElementNo) → IsMember (elements_of s.view.now.models.now) a
    → Goes redefinitions (ends target) (sees s) same_element a t → IsMember (elements_of s.view.now.models.now) t
redefined_closed s clear a t m go = element_among s.view.now.models.now t (target_stands s clear go.0 t (ends_on
    (sees s) target go.0 t go.2))
