use Rattle.std.proofs.Common.{refl, sym, ap, subst, append-nil, ◌++◌}
use Rattle.element_store.specs.declared.numbers.ElementNo.{ElementNo}
use Rattle.link_model.specs.declared.keys.Hit.{Hit}
use Rattle.link_model.specs.Names.{names, hit_named}
use Rattle.link_model.specs.Readers.{only_if}
use Rattle.element_store.specs.declared.records.Target.TheVariants.{Owned}
use Rattle.link_walk.proofs.GainLaws.{gains_of}
use Rattle.link_walk.specs.Calls.{read_by}
use Rattle.link_walk.specs.Gained.{Gained}
use Rattle.owned_names.specs.Walked.{Leaves, named_by}
use Rattle.owned_names.specs.declared.naming.Naming.TheVariants.{Open, Nameless, By}
use Rattle.owned_names.proofs.HitLaws.{named_taken}
use Rattle.owned_names.proofs.effective_tier.take_named.Goals as goal

pub returns-in_ok-wait_on-in-Open : goal.returns-in_ok-wait_on-in-Open
returns-in_ok-wait_on-in-Open c =
    let w = read_by c.args.view.now in
    let files = c.args.view.now.models.now in
    let e : ElementNo = record { file = c.args.member.file; index = c.args.owned } in
    let h : Hit = record { member = c.args.member; element = e } in
    let found = c.gains.inside.found in
    subst (λ z. Gained (hit_named c.args.name.now c.args.member.file c.args.member.index (Owned c.args.owned) w) z
    (gains_of found c.wait_on.new.self)) c.gains.view_is
    (named_taken files c.args.name.now h w (names e) (Open c.in-Open.reference) found found c.gains.inside.notes c.naming_of.new.notes c.wait_on.new.self
    (subst (λ n. Leaves c.gains.inside.notes c.naming_of.new.notes (named_by files n) (names e w)) c.in-Open.is c.in_ok-reference.ensures.names) (sym
    (append-nil found)) c.in_ok-wait_on-in-Open.ensures)

pub returns-in-Nameless : goal.returns-in-Nameless
returns-in-Nameless c =
    let w = read_by c.args.view.now in
    let files = c.args.view.now.models.now in
    let e : ElementNo = record { file = c.args.member.file; index = c.args.owned } in
    let h : Hit = record { member = c.args.member; element = e } in
    let found = c.gains.inside.found in
    subst (λ z. Gained (hit_named c.args.name.now c.args.member.file c.args.member.index (Owned c.args.owned) w) z
    (gains_of found c.naming_of.new.notes)) c.gains.view_is
    (named_taken files c.args.name.now h w (names e) Nameless found found c.gains.inside.notes c.naming_of.new.notes c.naming_of.new.notes
    (subst (λ n. Leaves c.gains.inside.notes c.naming_of.new.notes (named_by files n) (names e w)) c.in-Nameless.is c.in_ok-reference.ensures.names) (sym
    (append-nil found)) refl)

pub returns-in_ok-take_if-in-By : goal.returns-in_ok-take_if-in-By
returns-in_ok-take_if-in-By c =
    let w = read_by c.args.view.now in
    let files = c.args.view.now.models.now in
    let e : ElementNo = record { file = c.args.member.file; index = c.args.owned } in
    let h : Hit = record { member = c.args.member; element = e } in
    let found = c.gains.inside.found in
    let more = found ++ only_if c.is_named-named.result h in
    let asked = hit_named c.args.name.now c.args.member.file c.args.member.index (Owned c.args.owned) w in
    subst (Gained asked c.args.gains.now) (sym c.in_ok-take_if-in-By.ensures)
    (subst (λ z. Gained asked z (gains_of more c.naming_of.new.notes)) c.gains.view_is
    (named_taken files c.args.name.now h w (names e) (By c.in-By.other) found more c.gains.inside.notes c.naming_of.new.notes c.naming_of.new.notes
    (subst (λ n. Leaves c.gains.inside.notes c.naming_of.new.notes (named_by files n) (names e w)) c.in-By.is c.in_ok-reference.ensures.names)
    (ap (λ b. found ++ only_if b h) c.is_named-named.ensures) refl))
