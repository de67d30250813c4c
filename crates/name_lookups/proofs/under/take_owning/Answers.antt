use Rattle.std.proofs.Common.{subst}
use Rattle.link_model.specs.Imports.{owning_hit}
use Rattle.link_walk.specs.Calls.{files_of, read_by}
use Rattle.link_walk.specs.Gained.{Gained}
use Rattle.link_walk.proofs.GainLaws.{gains_of}
use Rattle.inheritance.proofs.ExpandLaws.{stands_within}
use Rattle.name_lookups.proofs.NameLaws.{owning_taken}
use Rattle.name_lookups.proofs.under.take_owning.Goals as goal

pub member_of-owning-requires : goal.member_of-owning-requires
member_of-owning-requires c = stands_within (files_of c.args.view.now) c.args.element c.in_ok-of.of.now c.in_ok-of.ensures.stored c.requires.stands

pub returns : goal.returns
returns c =
    let w = read_by c.args.view.now in
    subst (λ z. Gained (owning_hit c.args.element w) z (gains_of c.push_owning.new.found c.model.new.notes)) c.gains.view_is
    (owning_taken w c.args.element c.in_ok-of.of.now c.member_of-owning.result c.gains.inside.found c.push_owning.new.found c.gains.inside.notes
    c.model.new.notes c.in_ok-of.ensures.whole c.member_of-owning.ensures.member c.member_of-owning.ensures.root c.in_ok-of.ensures.read
    c.in_ok-push_owning.ensures)
