use Rattle.std.proofs.Common.{◌≡◌, ◌++◌, drop}
use Rattle.std.specs.List.{flat_map}
use Rattle.kept_links.specs.Facts.{member_facts}
use Rattle.kept_links.proofs.facts.push_members.Given as goal

-- what is added, and what is told of the members left, is all
abbrev pub invariant-loop-index : goal.invariant-loop-index
invariant-loop-index l = l.facts.items ++ flat_map member_facts (drop l.index l.model.members)
    ≡ l.initial.facts.items ++ flat_map member_facts l.model.members
