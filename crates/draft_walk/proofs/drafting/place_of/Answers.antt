use Rattle.std.proofs.Common.{◌≡◌, ap, sym, ◌∙◌}
use Rattle.std.specs.Option.{option_copied}
use Rattle.draft_walk.proofs.Laws.{item_copied, place_is, place_or}
use Rattle.draft_walk.proofs.drafting.place_of.Goals as goal

pub returns-in-Some : goal.returns-in-Some
returns-in-Some c =
    let s = c.args.source.now in
    sym (ap (place_or s.text.now) (item_copied s.tokens.now c.args.number c.get.result c.get.ensures.lookup ∙ ap option_copied c.in-Some.is))
    ∙ place_is s.text.now s.tokens.now c.args.number

pub returns-in-None : goal.returns-in-None
returns-in-None c =
    let s = c.args.source.now in
    sym (ap (place_or s.text.now) (item_copied s.tokens.now c.args.number c.get.result c.get.ensures.lookup ∙ ap option_copied c.in-None.is))
    ∙ place_is s.text.now s.tokens.now c.args.number
