use Rattle.std.proofs.Common.{◌≡◌, ◌∙◌, ◌<◌, sym, subst, arith, false}
use Rattle.std.specs.Prelude.{nat_lt, length}
use Rattle.std.proofs.lemmas.Bool.Decides.{nat_tests}
use Rattle.root_names.proofs.FileLaws.{get_below}
use Rattle.link_model.specs.Keys.{same_file}
use Rattle.link_asking.proofs.LeastLaws.{ranks_other}
use Rattle.link_asking.proofs.hiding.comes_before.Goals as goal

pub returns-else-eq : goal.returns-else-eq
returns-else-eq c = λ files are of.
    let m = c.args.member in
    let n = c.args.other in
    let s = get_below files m.file.0 (subst (λ k. m.file.0 < k) of.each c.requires.member) in
    let t = get_below files n.file.0 (subst (λ k. n.file.0 < k) of.each c.requires.other) in
    let unlike : same_file m.file n.file ≡ false = sym c.eq.ensures ∙ c.if-eq.false in
    (λ i. nat_lt (c.rank.ensures i) (c.rank-else-eq.ensures i))
    ∙ ranks_other files are c.args.ranks.now of m n s t (λ e. absurd (grind (arith, nat_tests, e, unlike)))
