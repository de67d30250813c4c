use Rattle.std.proofs.Common.{◌<◌, length, sym, subst}
use Rattle.link_asking.specs.Courses.{names_of}
use Rattle.link_asking.proofs.AskLaws.{asked_of, names_few}
use Rattle.link_asking.proofs.asking.ask.Goals as goal

pub along-requires-clause-few : goal.along-requires-clause-few
along-requires-clause-few g c =
    let read = c.reference-read.result.now in
    subst (λ ps. length (names_of ps c.as_slice-2.result.now) < 4294967296) (sym c.as_slice.ensures)
    (subst (λ ps. length (names_of read.path ps) < 4294967296) (sym c.as_slice-2.ensures)
    (names_few c.in_ok-of.of.now c.in_ok-of.ensures.whole c.args.reference.index read c.reference-read.ensures.lent))

pub returns : goal.returns
returns g c =
    asked_of c.args.view.now c.args.reference c.in_ok-of.of.now c.is_library-library.result c.reference-read.result.now c.as_slice.result.now
    c.as_slice-2.result.now c.name-name.result.now c.in_ok-tier.tier c.in_ok-course.course c.in_ok-outcome.outcome c.args.notes.now c.model.new.notes
    c.along.new.notes c.in_ok-of.ensures.stored c.is_library-library.ensures c.reference-read.ensures.lent c.as_slice.ensures c.as_slice-2.ensures
    c.in_ok-of.ensures.read.noted c.reference-read.ensures.path c.name-name.ensures c.in_ok-tier.ensures.asked c.in_ok-course.ensures c.in_ok-outcome.ensures
