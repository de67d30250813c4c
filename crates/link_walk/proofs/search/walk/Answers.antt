use Rattle.std.proofs.Common.{ℕ, ◌+◌, ◌-◌, ◌≤◌, ◌<◌, [], length, refl, sym, ◌∙◌, ap, subst, arith}
use Rattle.demand_core.specs.Search.{IsWalked}
use Rattle.demand_core.proofs.ComputationLaws.{regular_gather}
use Rattle.demand_core.proofs.WalkLaws.{room_begins, walked_starts, walked_more, walks_end}
use Rattle.link_model.specs.Keys.{same_element, element_is_exact}
use Rattle.link_model.specs.Readers.{most}
use Rattle.link_walk.specs.Marks.{marked_all}
use Rattle.link_walk.proofs.MarkLaws.{all_room, get_among, marks_same}
use Rattle.link_walk.proofs.search.walk.Goals as goal

one_less : (all next nodes more : ℕ) → next < nodes → nodes + more ≤ all → all - (next + 1) < all - next
one_less all next nodes more lt room = omega arith

pub loop-next-init : goal.loop-next-init
loop-next-init g c =
    let w = c.args.ways.now in
    let starts = c.args.starts.now in
    let all = g.W.Links.all w in
    subst (λ z. IsWalked (g.W.Links.links w) (g.W.Links.leads w) (g.W.Links.world w) same_element [] starts all 0 z) (sym c.in_ok-trail.ensures)
    (walked_starts (g.W.Links.links w) (g.W.Links.leads w) (g.W.Links.world w) same_element [] starts (marked_all same_element [] starts) all
    (marks_same same_element element_is_exact starts) c.requires.there
    (all_room same_element element_is_exact all starts [] c.requires.there (room_begins same_element all)))

pub loop-next-smaller : goal.loop-next-smaller
loop-next-smaller g c =
    let first = c.as_slice.ensures ∙ ap (λ z. z.nodes) c.trail.view_is in
    let lt : c.loop-next.next < length c.loop-next.trail.nodes = omega (arith, ap length first, c.loop-next-test.true) in
    one_less (length (g.W.Links.all c.args.ways.now)) c.loop-next.next (length c.loop-next.trail.nodes) _ lt c.loop-next.invariant.room

pub expand-requires-clause-there : goal.expand-requires-clause-there
expand-requires-clause-there g c =
    let nodes = c.as_slice-in-loop-next.ensures ∙ ap (λ z. z.nodes) c.trail.view_is in
    let first = c.as_slice.ensures ∙ ap (λ z. z.nodes) c.trail.view_is in
    let lt : c.loop-next.next < length c.loop-next.trail.nodes = omega (arith, ap length first, c.loop-next-test.true) in
    rw nodes (c.loop-next.invariant.among _ (get_among c.loop-next.trail.nodes c.loop-next.next _ lt))

pub loop-next-preserved : goal.loop-next-preserved
loop-next-preserved g c =
    let w = c.args.ways.now in
    let nodes = c.as_slice-in-loop-next.ensures ∙ ap (λ z. z.nodes) c.trail.view_is in
    let first = c.as_slice.ensures ∙ ap (λ z. z.nodes) c.trail.view_is in
    let lt : c.loop-next.next < length c.loop-next.trail.nodes = omega (arith, ap length first, c.loop-next-test.true) in
    walked_more (g.W.Links.links w) (g.W.Links.leads w) (g.W.Links.world w) same_element [] c.args.starts.now (g.W.Links.all w) c.loop-next.next _
    c.loop-next.trail c.expand.new.trail (λ a t in_all go. g.met.W.Links.closed w c.requires.valid a t in_all go) lt c.loop-next.invariant
    (rw nodes at c.in_ok-expand.ensures)

pub returns : goal.returns
returns g c =
    let w = c.args.ways.now in
    let first = c.as_slice.ensures ∙ ap (λ z. z.nodes) c.trail.view_is in
    walks_end (g.W.Links.links w) (g.W.Links.leads w) (g.W.Links.world w) same_element [] element_is_exact most c.args.starts.now (g.W.Links.all w)
    c.loop-next.next c.loop-next.trail
    (λ a m. regular_gather same_element (g.W.Links.links w) (g.W.Links.leads w) (g.met.W.Links.regular_links w) (g.met.W.Links.regular_leads w) most [] a)
    (λ a m. refl) (let few = c.requires.few in omega arith)
    (omega (arith, ap length first, c.loop-next-test.false)) c.loop-next.invariant
