use Rattle.std.proofs.Common.{◌∙◌}
use Rattle.link_walk.specs.Calls.{files_of}
use Rattle.link_tiers.proofs.RootLaws.{library_stand}
use Rattle.link_tiers.proofs.roots.library_tier.Goals as goal

pub member_hits-requires-clause-stand : goal.member_hits-requires-clause-stand
member_hits-requires-clause-stand c =
    library_stand (files_of c.args.view.now) c.args.name.now c.library_bearers.result.now
    (c.library_bearers.ensures ∙ c.requires.roots.library c.args.name.now)
