use Rattle.std.proofs.Common.{sym, subst, ◌<◌, true, false}
use Rattle.element_store.specs.Model.{data_of}
use Rattle.element_store.specs.Readings.{expression_in, nodes_of}
use Rattle.element_store.proofs.ModelLaws.{node_place}
use Rattle.element_store.proofs.model.FileModel.place_of_node.Goals as goal

pub node_place-requires : goal.node_place-requires
node_place-requires c =
    let d = data_of c.self.inside.parts in
    let own = subst (λ v. c.args.node < nodes_of v c.args.of_result c.args.element) (sym c.self.view_is) c.requires in
    rw (c.deref.ensures.value) (node_place d.elements d.result_places (expression_in true) c.args.element c.args.node c.self.invariant.0.places.results
    (subst (λ of_result. c.args.node < nodes_of d of_result c.args.element) c.if-of_result.true own))

pub node_place-requires-else-of_result : goal.node_place-requires-else-of_result
node_place-requires-else-of_result c =
    let d = data_of c.self.inside.parts in
    let own = subst (λ v. c.args.node < nodes_of v c.args.of_result c.args.element) (sym c.self.view_is) c.requires in
    rw (c.deref-else-of_result.ensures.value) (node_place d.elements d.value_places (expression_in false) c.args.element c.args.node c.self.invariant.0.places.values
    (subst (λ of_result. c.args.node < nodes_of d of_result c.args.element) c.if-of_result.false own))
