use Rattle.std.proofs.Common.{map, arith}
use Rattle.link_walk.specs.Calls.{read_by}
use Rattle.implied_model.specs.Implied.{implied_at}
use Rattle.implied_rules.specs.Implied.{said_by}
use Rattle.implied_rules.proofs.ImpliedLaws.{one_more}
use Rattle.implied_rules.proofs.implying.add_file.Goals as goal

pub loop-index-preserved : goal.loop-index-preserved
loop-index-preserved c =
    let said = implied_at c.args.view.now.models.now (read_by c.args.view.now) c.args.file c.in-Some.model.now in (
      one_more said c.in-Some.model.now.elements c.loop-index.index (map said_by c.loop-index.rows) (map said_by c.add_element.new.rows) _
          (omega (arith, c.loop-index-test.true, c.elements-index-end.ensures.count)) c.in_ok-add_element.ensures.said c.loop-index.invariant.0,
      λ stand. c.in_ok-add_element.ensures.stand (c.loop-index.invariant.1 stand),
    )
