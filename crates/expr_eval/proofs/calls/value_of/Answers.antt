use Rattle.std.proofs.Common.{subst}
use Rattle.std.specs.Prelude.{IfOk}
use Rattle.link_model.specs.declared.view.View.{View}
use Rattle.link_model.specs.Outside.{library_of}
use Rattle.link_walk.specs.Calls.{files_of, read_by}
use Rattle.value_rules.specs.Values.{HasList}
use Rattle.expr_eval.proofs.calls.value_of.Goals as goal

pub returns-clause-list : goal.returns-clause-list
returns-clause-list g c =
    subst (λ (v : View). IfOk c.value_of.result (λ x. HasList (read_by v) (library_of (files_of v)) c.args.key)) c.new-meanings.ensures
    c.value_of.ensures.list
