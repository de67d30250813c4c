use Rattle.std.proofs.Common.{sym, ◌∙◌, ap, subst, ◌++◌}
use Rattle.link_model.specs.Readers.{only_if}
use Rattle.link_walk.specs.Calls.{read_by}
use Rattle.link_walk.specs.Gained.{Gained}
use Rattle.link_walk.proofs.GainLaws.{gains_of}
use Rattle.name_lookups.specs.Narrowed.{narrowed_hit}
use Rattle.name_lookups.proofs.NarrowLaws.{shown_taken}
use Rattle.name_lookups.proofs.narrowing.take_shown.Goals as goal

pub returns : goal.returns
returns c =
    let w = read_by c.args.view.now in
    let h = c.args.hit in
    let found = c.gains.inside.found in
    subst (λ z. Gained (narrowed_hit c.args.all h w) z (gains_of c.push_if.new.found c.model.new.notes)) c.gains.view_is
    (shown_taken w c.args.all h c.in_ok-of.of.now c.member.result.now found c.push_if.new.found c.gains.inside.notes c.model.new.notes
    c.member.ensures.lent c.in_ok-of.ensures.read
    (c.in_ok-push_if.ensures ∙ ap (λ b. found ++ only_if b h) c.is_shown-shown.ensures))
