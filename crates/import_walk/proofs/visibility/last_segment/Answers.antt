use Rattle.std.proofs.Common.{◌≡◌, List, ℕ, ◌-◌, length, get_or, subst}
use Rattle.import_walk.proofs.PartLaws.{last_is}
use Rattle.import_walk.proofs.visibility.last_segment.Goals as goal

pub returns : goal.returns
returns c =
    last_is c.args.reference.now.path c.index-path-path.result c.index-path-path.result c.requires
    (subst (λ (ps : List (List ℕ)). c.index-path-path.result ≡ get_or ps (length ps - 1) c.index-path-path.result) c.as_slice-path.ensures c.index-path-path.is)
