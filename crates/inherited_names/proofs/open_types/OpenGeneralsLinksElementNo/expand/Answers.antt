use Rattle.std.proofs.Common.{sym, ◌∙◌}
use Rattle.link_model.specs.Outside.{library_of}
use Rattle.link_walk.proofs.ElementLaws.{element_stands}
use Rattle.inheritance.specs.Sights.{sees}
use Rattle.inherited_names.proofs.OpenExpands.{open_blocked, open_expanded}
use Rattle.inherited_names.proofs.open_types.OpenGeneralsLinksElementNo.expand.Goals as goal

pub expand_general-requires-clause-stands : goal.expand_general-requires-clause-stands
expand_general-requires-clause-stands c = element_stands c.args.self.now.sight.now.view.now.models.now c.args.node c.requires.there

pub returns-then-blocks : goal.returns-then-blocks
returns-then-blocks c =
    let s = c.args.self.now in
    open_blocked (library_of s.sight.now.view.now.models.now) (sees s.sight.now) s.blocking.now c.args.node c.args.trail.now
    (sym c.has-blocks.ensures ∙ c.if-blocks.true)

pub returns : goal.returns
returns c =
    let s = c.args.self.now in
    open_expanded (library_of s.sight.now.view.now.models.now) (sees s.sight.now) s.blocking.now c.args.node c.args.trail.now c.expand_general.new.trail
    (sym c.has-blocks.ensures ∙ c.if-blocks.false) c.in_ok-expand_general.ensures
