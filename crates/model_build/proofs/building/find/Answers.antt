use Rattle.std.proofs.Common.{ap, ◌∙◌}
use Rattle.std.specs.List.{flat_map}
use Rattle.element_store.specs.Model.{data_of}
use Rattle.text_model.specs.Numbering.{least, place_over}
use Rattle.draft_limits.specs.Least.{deep_places}
use Rattle.model_build.proofs.Built.{found_is}
use Rattle.model_build.proofs.building.find.Goals as goal

pub returns : goal.returns
returns c = found_is c.args.heading c.args.drafts (data_of c.in_ok-parts.parts)
    c.least-large.result c.in_ok-deep.deep c.in_ok-many.many c.lesser.result c.lesser-2.result
    c.in_ok-parts.ensures
    (c.least-large.ensures ∙ ap least c.deref.ensures.value)
    (c.in_ok-deep.ensures ∙ ap (λ ds. least (flat_map deep_places ds)) c.deref-2.ensures.value)
    (c.in_ok-many.ensures ∙ ap (place_over 262144) c.deref-3.ensures.value)
    c.lesser.ensures c.lesser-2.ensures
