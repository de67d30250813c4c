use Rattle.std.proofs.Common.{◌∙◌, ◌++◌, [], ap, sym}
use Rattle.link_model.specs.Keys.{same_key}
use Rattle.link_model.specs.Outside.{library_of}
use Rattle.link_walk.specs.Calls.{files_of}
use Rattle.link_walk.specs.Marks.{marked_all, same_fact}
use Rattle.link_walk.specs.Noted.{trail_of}
use Rattle.link_tiers.proofs.NamespaceLaws.{joins_import, joins_passed, found_added}
use Rattle.link_tiers.proofs.namespaces.add_import.Goals as goal

pub returns-then-taken-clause-joins : goal.returns-then-taken-clause-joins
returns-then-taken-clause-joins g c =
    let files = files_of c.args.view.now in
    joins_import files c.args.view.now.table.now (library_of files) c.args.name.now c.args.before c.args.at c.args.model.now c.args.index c.import.result.now
    c.requires.there c.import.ensures.lent c.in_ok-more.more c.args.gains.now _ (sym c.is_taken-taken.ensures ∙ c.if-taken.true) c.in_ok-more.ensures.asked
    (c.in_ok-append_hits.ensures ∙ (ap (λ z. c.gains.inside.found ++ z) c.as_slice.ensures ∙ λ i. (c.gains.view_is i).found ++ (c.more.view_is i).found))
    (ap (λ n. n.waits) c.in_ok-append.ensures ∙ λ i. marked_all same_key (c.gains.view_is i).waits (c.more.view_is i).waits)
    (ap (λ n. n.looks) c.in_ok-append.ensures ∙ λ i. marked_all same_fact (c.gains.view_is i).looks (c.more.view_is i).looks)

pub returns-then-taken-clause-found : goal.returns-then-taken-clause-found
returns-then-taken-clause-found g c = λ before.
    found_added (files_of c.args.view.now) c.in_ok-more.more c.args.gains.now (trail_of [] c.append_hits.new.hits c.append.new.self)
    (c.in_ok-append_hits.ensures ∙ (ap (λ z. c.gains.inside.found ++ z) c.as_slice.ensures ∙ λ i. (c.gains.view_is i).found ++ (c.more.view_is i).found))
    (ap (λ n. n.waits) c.in_ok-append.ensures ∙ λ i. marked_all same_key (c.gains.view_is i).waits (c.more.view_is i).waits)
    c.in_ok-more.ensures.found before

pub returns-clause-joins : goal.returns-clause-joins
returns-clause-joins g c =
    let files = files_of c.args.view.now in
    joins_passed files c.args.view.now.table.now (library_of files) c.args.name.now c.args.before c.args.at c.args.model.now c.args.index c.import.result.now
    c.requires.there c.import.ensures.lent c.args.gains.now (sym c.is_taken-taken.ensures ∙ c.if-taken.false)
