use Rattle.link_walk.specs.Calls.{files_of}
use Rattle.value_asking.proofs.SourceLaws.{whole_nodes, few_nodes}
use Rattle.value_asking.proofs.source.ReaderSource.nodes.Goals as goal

pub returns-clause-whole : goal.returns-clause-whole
returns-clause-whole g c =
    let d = c.args.self.now.decider in
    whole_nodes (files_of c.args.self.now.view) d.feature.file.0 d.feature.index d.of_result d.nodes.now c.requires.files c.requires.nodes

pub returns-clause-few : goal.returns-clause-few
returns-clause-few g c =
    let d = c.args.self.now.decider in
    few_nodes (files_of c.args.self.now.view) d.feature.file.0 d.feature.index d.of_result d.nodes.now c.requires.files c.requires.nodes
