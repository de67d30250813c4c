use Rattle.std.proofs.Common.{◌≡◌}
use Rattle.element_store.specs.declared.outcome.Role.TheVariants as role
use Rattle.text_model.specs.Drafts.{mentions, names}
use Rattle.text_model.specs.Numbering.{numbered}
use Rattle.draft_numbers.specs.Numbered.{added, next}
use Rattle.draft_numbers.proofs.references.References.add_nodes.Given as goal

abbrev pub invariant-loop-node : goal.invariant-loop-node
invariant-loop-node l = record {
  expr : l.expr ≡ numbered (next l.fn.self) l.yielded;
  added : l.self ≡ added l.context (mentions role.Value (names l.yielded)) l.fn.self;
}
