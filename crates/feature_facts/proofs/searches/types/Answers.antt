use Rattle.link_model.specs.Inheritance.{general, general_links, reached}
use Rattle.link_model.specs.Outside.{library_of}
use Rattle.inheritance.proofs.CallLaws.{gains_asked}
use Rattle.feature_facts.proofs.SearchParts.{reached_stand}
use Rattle.feature_facts.proofs.searches.types.Goals as goal

pub returns : goal.returns
returns c =
    let asked = gains_asked (λ files. reached (library_of files) c.args.of) c.new-sight.result c.args.view.now c.new-sight.ensures.view c.in_ok-trail.trail
    c.in_ok-gains.gains c.new-sight.ensures.settled c.in_ok-trail.ensures c.in_ok-gains.ensures in
    record {
      asked = asked;
      stand = λ quiet e m. reached_stand c.new-sight.result c.args.view.now c.new-sight.ensures.view c.new-sight.ensures.settled
          c.new-sight.ensures.clear c.args.of c.in_ok-gains.gains c.requires.stands asked quiet e m;
    }
