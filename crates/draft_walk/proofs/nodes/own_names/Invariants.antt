use Rattle.std.proofs.Common.{◌≡◌}
use Rattle.text_model.specs.Drafts.{names, first_text}
use Rattle.draft_walk.proofs.nodes.own_names.Given as goal

abbrev pub invariant-loop-node : goal.invariant-loop-node
invariant-loop-node l = record {
  own : l.names.own ≡ names l.yielded;
  locale : l.names.locale ≡ first_text l.yielded;
}
