use Rattle.std.proofs.Common.{◌≡◌, sym, ap, subst}
use Rattle.std.specs.Prelude.{IfOk, OnOk}
use Rattle.linker_base.specs.Members.{Adds}
use Rattle.demand_core.specs.Tables.{entry_of}
use Rattle.link_model.specs.declared.view.View.{View}
use Rattle.link_model.specs.Outside.{library_of}
use Rattle.link_walk.specs.Calls.{files_of, read_by}
use Rattle.value_model.specs.Keys.{same_value_key}
use Rattle.value_model.specs.Valuing.{AreValueKeys, MayStand, value_meaning}
use Rattle.expr_eval.proofs.rules.ValueRulesRulesValueKeyValueAnswerNoFact.ask.Goals as goal

pub ask-requires-clause-valid : goal.ask-requires-clause-valid
ask-requires-clause-valid g c = (
  ap read_by c.new-meanings.ensures,
  subst (λ (v : View). AreValueKeys (read_by v) (library_of (files_of v)) c.args.self.now.keys.now) (sym c.new-meanings.ensures) c.requires.valid.1,
)

pub ask-requires-clause-fits : goal.ask-requires-clause-fits
ask-requires-clause-fits g c =
    λ q x at. subst (λ (v : View). MayStand (read_by v) x) (sym c.new-meanings.ensures) (c.requires.fits q x at)

pub returns-clause-answer : goal.returns-clause-answer
returns-clause-answer g c =
    subst (λ (v : View). IfOk c.ask.result (λ step. step
    ≡ (value_meaning (read_by v) (library_of (files_of v)) c.args.self.now.keys.now).answer (entry_of same_value_key c.args.table.now) c.args.key))
    c.new-meanings.ensures c.ask.ensures.answer

pub returns-clause-looks : goal.returns-clause-looks
returns-clause-looks g c =
    subst (λ (v : View). OnOk c.ask.result (Adds c.args.looks.now c.ask.new.looks
    ((value_meaning (read_by v) (library_of (files_of v)) c.args.self.now.keys.now).looked (entry_of same_value_key c.args.table.now) c.args.key)))
    c.new-meanings.ensures c.ask.ensures.looks
