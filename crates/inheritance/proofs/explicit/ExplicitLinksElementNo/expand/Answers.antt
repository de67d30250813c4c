use Rattle.link_model.specs.Inheritance.{general}
use Rattle.link_model.specs.Settled.{explicit_links}
use Rattle.link_walk.specs.Calls.{ends}
use Rattle.link_walk.proofs.ElementLaws.{element_stands}
use Rattle.link_walk.proofs.TookLaws.{expands_by}
use Rattle.inheritance.specs.Sights.{sees}
use Rattle.inheritance.proofs.explicit.ExplicitLinksElementNo.expand.Goals as goal

pub expand_explicit-requires-clause-stands : goal.expand_explicit-requires-clause-stands
expand_explicit-requires-clause-stands c = element_stands c.args.self.now.sight.now.view.now.models.now c.args.node c.requires.there

pub returns : goal.returns
returns c =
    expands_by explicit_links (ends general) (sees c.args.self.now.sight.now) c.args.node _ c.expand_explicit.new.trail c.in_ok-expand_explicit.ensures
