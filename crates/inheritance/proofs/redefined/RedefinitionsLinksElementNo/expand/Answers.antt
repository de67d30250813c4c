use Rattle.link_model.specs.Names.{redefinitions}
use Rattle.link_model.specs.Readers.{target}
use Rattle.link_walk.specs.Calls.{ends}
use Rattle.link_walk.proofs.ElementLaws.{element_stands}
use Rattle.link_walk.proofs.TookLaws.{expands_by}
use Rattle.inheritance.specs.Sights.{sees}
use Rattle.inheritance.proofs.redefined.RedefinitionsLinksElementNo.expand.Goals as goal

pub expand_redefined-requires-clause-stands : goal.expand_redefined-requires-clause-stands
expand_redefined-requires-clause-stands c = element_stands c.args.self.now.sight.now.view.now.models.now c.args.node c.requires.there

pub returns : goal.returns
returns c =
    expands_by redefinitions (ends target) (sees c.args.self.now.sight.now) c.args.node _ c.expand_redefined.new.trail c.in_ok-expand_redefined.ensures
