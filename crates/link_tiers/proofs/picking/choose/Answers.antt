use Rattle.std.proofs.Common.{◌∙◌, ap, sym, map}
use Rattle.std.specs.Prelude.{None, Some, slice_get}
use Rattle.link_model.specs.Lexical.{picked_from}
use Rattle.link_model.specs.Lexical.Picked.{Several}
use Rattle.link_tiers.specs.Picks.{ranked}
use Rattle.link_tiers.proofs.PickLaws.{least_any, chosen_by, ranked_item}
use Rattle.link_tiers.proofs.picking.choose.Goals as goal

pub returns-in_default : goal.returns-in_default
returns-in_default c =
    let files = c.args.models.now in
    ap (picked_from (map (ranked files) c.args.hits.now)) (c.in_default.ensures.least ∙ least_any files c.args.hits.now)

pub returns-in-None : goal.returns-in-None
returns-in-None c = chosen_by c.args.models.now c.args.hits.now c.in-Some.first None c.in-Some.ensures.least c.in-None.ensures.least

pub returns-in-Some-least : goal.returns-in-Some-least
returns-in-Some-least c =
    let files = c.args.models.now in
    let second = c.in-Some-least.second in
    ap (λ z. Several c.in-Some.first.member z.member) (sym (ranked_item (slice_get files second.member.file.0) second.member.index second))
    ∙ chosen_by files c.args.hits.now c.in-Some.first (Some (ranked files second)) c.in-Some.ensures.least c.in-Some-least.ensures.least
