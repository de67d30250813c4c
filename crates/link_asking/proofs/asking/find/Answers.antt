use Rattle.link_asking.proofs.AskLaws.{found_of}
use Rattle.link_asking.proofs.asking.find.Goals as goal

pub returns : goal.returns
returns g c =
    found_of c.args.view.now c.args.path.now c.name-name.result.now c.in_ok-tier.tier c.in_ok-course.course c.in_ok-outcome.outcome c.args.notes.now
    c.along.new.notes c.requires.some c.name-name.ensures c.in_ok-tier.ensures.asked c.in_ok-course.ensures c.in_ok-outcome.ensures
