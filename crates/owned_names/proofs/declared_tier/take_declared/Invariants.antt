use Rattle.std.specs.Prelude.{◌<◌, length, IfSome}
use Rattle.link_walk.specs.Calls.{read_by}
use Rattle.owned_names.proofs.BearerLaws.{AreTaken, left_above}
use Rattle.owned_names.proofs.declared_tier.take_declared.Given as goal

-- the bearers so far are taken
abbrev pub invariant-loop-index : goal.invariant-loop-index
invariant-loop-index l = record {
  taken : AreTaken l.model l.at.file l.name l.at.index (read_by l.fn.view) l.initial.gains l.gains l.after;
  within : IfSome l.after (λ after. after < length l.model.members);
}

abbrev pub decreases-loop-index : goal.decreases-loop-index
decreases-loop-index l = left_above (length l.model.members) l.after
