use Rattle.std.proofs.Common.{Bool, [], ◌∷◌, ◌++◌, cond, refl, sym, ◌∙◌, ap, subst, inl, inr}
use Rattle.link_model.specs.Keys.{is_in}
use Rattle.link_walk.specs.Calls.{read_by}
use Rattle.import_walk.specs.Deferred.{Defers, shows, width, lib_of}
use Rattle.import_walk.proofs.PlainLaws.{not_false, not_true}
use Rattle.import_walk.proofs.plain.visit.Goals as goal

pub returns-then-known : goal.returns-then-known
returns-then-known g c = inl (inl (sym c.is_in-known.ensures ∙ c.if-known.true), refl, refl)

pub returns-in_ok-add_shown : goal.returns-in_ok-add_shown
returns-in_ok-add_shown g c =
    let files = c.args.view.now.models.now in
    let w = read_by c.args.view.now in
    let t = c.args.task.now in
    let e = c.args.task.now.namespace in
    let marks = c.args.marks.now in
    let off = not_true (is_in e marks) (sym c.in_ok-fresh.ensures.fresh ∙ c.if-fresh.true) in
    inr (
      sym c.is_in-known.ensures ∙ c.if-known.false,
      off,
      c.in_ok-fresh.ensures.marks ∙ ap (λ (b : Bool). cond b marks (marks ++ e ∷ [])) off,
      λ ask. subst (λ z. Defers ask files w z (width files t) (shows (lib_of c.args.view.now) c.args.name.now ask z t w) c.args.hunt.now
          c.add_shown.new.hunt) c.as_slice.ensures (c.in_ok-add_shown.ensures ask),
    )

pub returns-else-fresh : goal.returns-else-fresh
returns-else-fresh g c =
    let e = c.args.task.now.namespace in
    let marks = c.args.marks.now in
    let there = not_false (is_in e marks) (sym c.in_ok-fresh.ensures.fresh ∙ c.if-fresh.false) in
    inl (inr there, c.in_ok-fresh.ensures.marks ∙ ap (λ (b : Bool). cond b marks (marks ++ e ∷ [])) there, refl)
