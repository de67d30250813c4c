use Rattle.std.proofs.Common.{◌≡◌, ◌∙◌, sym, arith, false}
use Rattle.std.proofs.lemmas.Bool.Decides.{nat_tests}
use Rattle.root_names.proofs.FileLaws.{get_below}
use Rattle.link_model.specs.Keys.{same_file}
use Rattle.link_tiers.proofs.PickLaws.{comes_other}
use Rattle.link_tiers.proofs.picking.comes_before.Goals as goal

pub returns : goal.returns
returns c =
    let files = c.args.models.now in
    let m = c.args.member in
    let n = c.args.other in
    let s = get_below files m.file.0 c.requires.member in
    let t = get_below files n.file.0 c.requires.other in
    let unlike : same_file m.file n.file ≡ false = sym c.eq.ensures ∙ c.if-eq.false in
    c.stands_before.ensures s.0 t.0 s.1 t.1
    ∙ sym (comes_other files c.files.ensures.kept m n s.0 t.0 s.1 t.1 (λ e. absurd (grind (arith, nat_tests, e, unlike))))
