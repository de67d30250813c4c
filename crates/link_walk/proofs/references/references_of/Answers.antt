use Rattle.std.proofs.Common.{◌∙◌}
use Rattle.link_walk.specs.Wanted.{is_wanted}
use Rattle.link_walk.proofs.ReferenceLists.{wanted_none, wanted_more, wanted_all}
use Rattle.link_walk.proofs.references.references_of.Goals as goal

pub loop-index-init : goal.loop-index-init
loop-index-init c =
    c.new-keys.ensures
    ∙ wanted_none
    (is_wanted c.args.wanted) c.args.model.now c.args.e c.references_of-first.result.0 c.references_of-first.result.1 c.references_of-first.ensures.own

pub loop-index-preserved : goal.loop-index-preserved
loop-index-preserved c =
    wanted_more
    (is_wanted c.args.wanted) c.args.model.now c.args.e c.references_of-first.result.0 c.references_of-first.result.1 c.references_of-first.ensures.own
    c.loop-index.index c.loop-index.keys c.add_reference.new.keys c.loop-index.auto.index c.loop-index-test.true c.in_ok-add_reference.ensures
    c.loop-index.invariant

pub returns : goal.returns
returns c = record {
  keys = wanted_all (is_wanted c.args.wanted) c.args.model.now c.args.e c.references_of-first.result.0 c.references_of-first.result.1
      c.references_of-first.ensures.own c.loop-index.index c.loop-index.keys c.loop-index-test.false
      (c.loop-index.auto.index-end c.references_of-first.ensures.own.order.0) c.loop-index.invariant;
}
