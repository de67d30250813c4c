use Rattle.std.proofs.Common.{List, ℕ, ◌<◌, sym, ◌∙◌, ap, subst, length}
use Rattle.std.specs.Prelude.{nat_eq}
use Rattle.std.specs.List.{All}
use Rattle.demand_core.specs.Computation.{joined}
use Rattle.element_store.specs.Condition.{members_of}
use Rattle.element_store.specs.Model.{Data, members_in}
use Rattle.element_store.specs.declared.records.Member.{Member}
use Rattle.element_store.proofs.NumberLaws.{numbers_all}
use Rattle.link_model.specs.Imports.{inside}
use Rattle.link_model.specs.Readers.{model}
use Rattle.link_walk.specs.Calls.{read_by}
use Rattle.import_walk.specs.Deferred.{Defers, again_from, owned_part, members_at}
use Rattle.import_walk.proofs.DeferLaws.{hunt_of, defers_read}
use Rattle.import_walk.proofs.PartLaws.{done_same}
use Rattle.import_walk.proofs.visibility.add_inside.Goals as goal

pub add_members-requires : goal.add_members-requires
add_members-requires c =
    let d = c.in_ok-model.model.now in
    let are = c.as_slice-2.ensures ∙ (c.in_ok-numbers.ensures ∙ (ap members_in c.as_slice.ensures ∙ c.items-items.ensures.members)) in
    record { stand = subst (All (λ k. k < length d.members)) (sym are) (numbers_all (λ (m : Member). nat_eq m.owner c.args.of.index) d.members) }

pub returns : goal.returns
returns c ask =
    let files = c.args.view.now.models.now in
    let w = read_by c.args.view.now in
    let all = c.args.all in
    let f = c.args.of.file in
    let inner = c.args.inner.now in
    let d = c.in_ok-model.model.now in
    let there = done_same _ _ c.in_ok-model.ensures.read.step in
    let tasks = c.hunt.inside.tasks.items in
    let found = c.hunt.inside.found in
    let are = c.as_slice-2.ensures ∙ (c.in_ok-numbers.ensures ∙ (ap members_in c.as_slice.ensures ∙ c.items-items.ensures.members)) in
    subst (λ z. Defers ask files w inner (length (members_at files c.args.of)) (inside
    (again_from ask inner) all c.args.of w) z c.add_members.new.hunt) c.hunt.view_is
    (defers_read ask files w inner (length (members_at files c.args.of)) (model f) (λ m. joined (owned_part ask inner all f m)
    (members_of m c.args.of.index)) d tasks found c.hunt.inside.notes c.model.new.notes c.add_members.new.hunt
    c.in_ok-model.ensures.read
    (subst (λ (m : Data). Defers ask files w inner (length (members_of m c.args.of.index)) (joined (owned_part ask inner all f d)
    (members_of d c.args.of.index) w) (hunt_of tasks found c.model.new.notes) c.add_members.new.hunt) (sym there)
    (subst (λ (ks : List ℕ). Defers ask files w inner (length ks) (joined (owned_part ask inner all f d) ks w)
    (hunt_of tasks found c.model.new.notes) c.add_members.new.hunt) are
    (c.in_ok-add_members.ensures ask files w c.in_ok-model.ensures.stored))))
