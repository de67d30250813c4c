use Rattle.link_model.specs.Inheritance.{general, general_links}
use Rattle.link_model.specs.Outside.{library_of}
use Rattle.link_walk.specs.Calls.{ends}
use Rattle.link_walk.proofs.ElementLaws.{element_stands}
use Rattle.link_walk.proofs.TookLaws.{expands_by}
use Rattle.inheritance.specs.Sights.{sees}
use Rattle.inheritance.proofs.general_types.GeneralsLinksElementNo.expand.Goals as goal

pub expand_general-requires-clause-stands : goal.expand_general-requires-clause-stands
expand_general-requires-clause-stands c = element_stands c.args.self.now.sight.now.view.now.models.now c.args.node c.requires.there

pub returns : goal.returns
returns c =
    expands_by (general_links (library_of c.args.self.now.sight.now.view.now.models.now)) (ends general)
    (sees c.args.self.now.sight.now) c.args.node _ c.expand_general.new.trail c.in_ok-expand_general.ensures
