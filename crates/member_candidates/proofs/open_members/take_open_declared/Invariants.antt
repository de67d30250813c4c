use Rattle.std.specs.Prelude.{◌<◌, length, IfSome}
use Rattle.link_walk.specs.Calls.{read_by}
use Rattle.owned_names.proofs.BearerLaws.{left_above}
use Rattle.member_candidates.proofs.OpenLists.{AreOpen}
use Rattle.member_candidates.proofs.open_members.take_open_declared.Given as goal

-- the bearers so far are taken
abbrev pub invariant-loop-index : goal.invariant-loop-index
invariant-loop-index l = record {
  taken : AreOpen l.model l.at.file l.name l.at.index (read_by l.view) l.initial.gains l.gains l.after;
  within : IfSome l.after (λ after. after < length l.model.members);
}

abbrev pub decreases-loop-index : goal.decreases-loop-index
decreases-loop-index l = left_above (length l.model.members) l.after
