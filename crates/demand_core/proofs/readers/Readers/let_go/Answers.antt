use Rattle.std.proofs.Common.{None, ap, ◌∙◌}
use Rattle.std.specs.Map.{update}
use Rattle.demand_core.specs.Tables.{entry_of}
use Rattle.demand_core.proofs.readers.Readers.let_go.Goals as goal

pub returns : goal.returns
returns g c t = c.remove-gone.ensures.updates.0 t ∙ ap (λ es. update g.T.PartialEq.eq (entry_of g.T.PartialEq.eq es) c.args.thing.now None t) c.self.view_is
