use Rattle.std.proofs.Common.{◌∙◌, ap, subst}
use Rattle.linker_base.specs.Members.{IsMember}
use Rattle.link_model.specs.Outside.{library_of}
use Rattle.link_walk.specs.Calls.{files_of, read_by}
use Rattle.value_model.specs.Meant.{sole_of, standing_for}
use Rattle.value_meanings.proofs.SoleLaws.{sole_same}
use Rattle.value_meanings.proofs.StandingLaws.{standing_once, standing_stand}
use Rattle.value_meanings.proofs.meanings.meant_in.Goals as goal

pub sole-requires-clause-stand : goal.sole-requires-clause-stand
sole-requires-clause-stand c =
    λ e m. standing_stand c.args.view.now c.args.feature c.args.target e
    (c.in_ok-standing.ensures.same.left e (subst (λ xs. IsMember xs e) c.as_slice.ensures m))

pub returns : goal.returns
returns c =
    let v = c.args.view.now in
    let w = read_by v in
    let lib = library_of (files_of v) in
    c.in_ok-one.ensures ∙ ap (sole_of w lib c.args.feature) c.as_slice.ensures
    ∙ sole_same w lib c.args.feature c.in_ok-standing.standing (standing_for w lib c.args.feature c.args.target) c.in_ok-standing.ensures.same
    c.in_ok-standing.ensures.once (standing_once v c.args.feature c.args.target)
