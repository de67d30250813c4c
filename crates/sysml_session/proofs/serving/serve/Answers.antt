use Rattle.sysml_session.proofs.Loops.{nothing_served}
use Rattle.sysml_session.proofs.serving.serve.Goals as goal

pub returns-in-Err-clause-served : goal.returns-in-Err-clause-served
returns-in-Err-clause-served g c bytes told = nothing_served (g.P.Answering.holding c.args.project.now) _ bytes
