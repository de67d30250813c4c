use Rattle.std.proofs.Common.{◌∙◌, subst, sym}
use Rattle.std.specs.Prelude.{Some}
use Rattle.link_model.specs.Asking.{from_owner, from_body}
use Rattle.link_model.specs.Lexical.{lexical}
use Rattle.link_walk.specs.Calls.{read_by}
use Rattle.link_tiers.specs.Tiers.{Tried, way_from}
use Rattle.link_asking.specs.Hiding.{library_in}
use Rattle.link_asking.specs.Starts.{tiers_from, node_at}
use Rattle.link_asking.specs.declared.starts.Begin.TheVariants as begin
use Rattle.link_asking.proofs.StartLaws.{outward_is, owners_is}
use Rattle.link_asking.proofs.starts.try_begin.Goals as goal

pub returns-in_ok-decided-in-Owner-clause-tried : goal.returns-in_ok-decided-in-Owner-clause-tried
returns-in_ok-decided-in-Owner-clause-tried g c =
    let w = read_by c.args.view.now in
    let lib = library_in c.args.view.now in
    let x = c.args.name.now in
    let d = c.args.model.now in
    let f = c.args.number.file in
    let at = node_at f c.args.context in
    let own = c.args.gains.now in
    let end = c.try_lexical.new.gains in
    subst (λ b. Tried w (tiers_from lib b c.args.library x d c.args.number.index at) c.in_ok-decided-in-Owner.decided own end) (sym c.in-Owner.is)
    (subst (λ ns. Tried w (lexical lib c.args.library x ns) c.in_ok-decided-in-Owner.decided own end)
    (sym (owners_is d c.elements.ensures.model f c.args.context c.element.result.now c.element.ensures.lent)) c.in_ok-decided-in-Owner.ensures.tried)

pub returns-in_ok-decided-in-Redefined-clause-tried : goal.returns-in_ok-decided-in-Redefined-clause-tried
returns-in_ok-decided-in-Redefined-clause-tried g c =
    let w = read_by c.args.view.now in
    let lib = library_in c.args.view.now in
    let x = c.args.name.now in
    let d = c.args.model.now in
    let f = c.args.number.file in
    let at = node_at f c.args.context in
    let own = c.args.gains.now in
    let end = c.try_redefined.new.gains in
    subst (λ b. Tried w (tiers_from lib b c.args.library x d c.args.number.index at) c.in_ok-decided-in-Redefined.decided own end) (sym c.in-Redefined.is)
    (subst (λ ns. Tried w (from_owner lib c.args.library x d ns) c.in_ok-decided-in-Redefined.decided own end)
    (sym (owners_is d c.elements.ensures.model f c.args.context c.element.result.now c.element.ensures.lent)) c.in_ok-decided-in-Redefined.ensures.tried)

pub returns-in_ok-decided-in-Body-clause-tried : goal.returns-in_ok-decided-in-Body-clause-tried
returns-in_ok-decided-in-Body-clause-tried g c =
    let w = read_by c.args.view.now in
    let lib = library_in c.args.view.now in
    let x = c.args.name.now in
    let d = c.args.model.now in
    let f = c.args.number.file in
    let at = node_at f c.args.context in
    let own = c.args.gains.now in
    let end = c.try_import.new.gains in
    subst (λ b. Tried w (tiers_from lib b c.args.library x d c.args.number.index at) c.in_ok-decided-in-Body.decided own end) (sym c.in-Body.is)
    (subst (λ ns. Tried w (from_body lib c.args.library x c.args.number.index ns) c.in_ok-decided-in-Body.decided own end)
    (sym (outward_is d c.elements.ensures.model f c.args.context c.element.result.now c.element.ensures.lent)) c.in_ok-decided-in-Body.ensures.tried)

pub returns-in_ok-decided-in-Context-clause-tried : goal.returns-in_ok-decided-in-Context-clause-tried
returns-in_ok-decided-in-Context-clause-tried g c =
    let w = read_by c.args.view.now in
    let lib = library_in c.args.view.now in
    let x = c.args.name.now in
    let d = c.args.model.now in
    let f = c.args.number.file in
    let at = node_at f c.args.context in
    let own = c.args.gains.now in
    let end = c.try_lexical-in-Context.new.gains in
    subst (λ b. Tried w (tiers_from lib b c.args.library x d c.args.number.index at) c.in_ok-decided-in-Context.decided own end) (sym c.in-Context.is)
    (subst (λ ns. Tried w (lexical lib c.args.library x ns) c.in_ok-decided-in-Context.decided own end)
    (sym (outward_is d c.elements.ensures.model f c.args.context c.element.result.now c.element.ensures.lent)) c.in_ok-decided-in-Context.ensures.tried)
