use Rattle.link_model.specs.Inheritance.{general, general_links}
use Rattle.link_model.specs.Outside.{library_of}
use Rattle.link_model.proofs.TameLaws.{generals_tame}
use Rattle.link_walk.proofs.AnswerLaws.{expanded_asked}
use Rattle.link_walk.proofs.GainLaws.{begins_empty}
use Rattle.inheritance.specs.Sights.{sees}
use Rattle.inheritance.proofs.general_types.generals_of.Goals as goal

pub returns : goal.returns
returns c =
    let s = c.args.sight.now in
    let lib = library_of s.view.now.models.now in
    expanded_asked (general_links lib) general (sees s) c.args.of c.new-trail.result c.expand_general.new.trail (begins_empty _ c.new-trail.ensures)
    (generals_tame lib c.args.of).regular c.in_ok-expand_general.ensures
