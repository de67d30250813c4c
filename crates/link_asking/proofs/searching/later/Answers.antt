use Rattle.std.proofs.Common.{◌≡◌, ◌∙◌, [], ◌∷◌, ◌++◌, drop, sym, ap, subst}
use Rattle.element_store.specs.declared.numbers.ElementNo.{ElementNo}
use Rattle.link_asking.specs.Courses.{names_of, course_at, GoesOn}
use Rattle.link_asking.proofs.searching.later.Goals as goal

pub returns : goal.returns
returns g c =
    let v = c.args.view.now in
    let names = drop 1 (names_of c.args.written.now.path.now c.args.written.now.chain.now) in
    let e = c.args.from in
    let start : c.push.new.self ≡ e ∷ [] = c.in_ok-push.ensures.ok ∙ ap (λ es. es ++ e ∷ []) c.new-found.ensures in
    subst (λ k. GoesOn v names e (e ∷ []) k c.args.notes.now c.go_on.new.notes) (sym c.course_at.ensures)
    (subst (λ es. GoesOn v names e es (course_at c.in_ok-turn.turn c.go_on.new.found) c.args.notes.now c.go_on.new.notes) start c.in_ok-turn.ensures)
