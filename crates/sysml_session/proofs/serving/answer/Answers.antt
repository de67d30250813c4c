use Rattle.std.proofs.Common.{ap}
use Rattle.book_model.specs.Answers.{Command as Asked}
use Rattle.script_commands.specs.Lines.{command_of}
use Rattle.sysml_session.proofs.Commands.{answered_as, end_answered, find_short}
use Rattle.sysml_session.proofs.serving.answer.Goals as goal

pub returns-in-Put : goal.returns-in-Put
returns-in-Put g c = answered_as _ _ (Asked.Put c.in-Put.name c.in-Put.text) _ c.put.result _ _
    (ap command_of c.in-Put.is) c.flow_after.ensures c.put.ensures.answered

pub returns-in-Drop : goal.returns-in-Drop
returns-in-Drop g c = answered_as _ _ (Asked.Drop c.in-Drop.name) _ c.drop.result _ _
    (ap command_of c.in-Drop.is) c.flow_after-in-Drop.ensures c.drop.ensures.answered

pub returns-in-Links : goal.returns-in-Links
returns-in-Links g c = answered_as _ _ (Asked.Links c.in-Links.name) _ c.links.result _ _
    (ap command_of c.in-Links.is) c.flow_after-in-Links.ensures c.links.ensures.answered

pub returns-in-Check : goal.returns-in-Check
returns-in-Check g c = answered_as _ _ Asked.Check _ c.check.result _ _ (ap command_of c.in-Check.is) c.flow_after-in-Check.ensures c.check.ensures.answered

pub find-requires-clause-few : goal.find-requires-clause-few
find-requires-clause-few g c = find_short c.in-Find.words _ (ap command_of c.in-Find.is) c.requires.good

pub returns-in-Find : goal.returns-in-Find
returns-in-Find g c = answered_as _ _ (Asked.Find c.in-Find.words) _ c.find.result _ _
    (ap command_of c.in-Find.is) c.flow_after-in-Find.ensures c.find.ensures.answered

pub returns-in-Implied : goal.returns-in-Implied
returns-in-Implied g c = answered_as _ _ Asked.Implied _ c.implied.result _ _
    (ap command_of c.in-Implied.is) c.flow_after-in-Implied.ensures c.implied.ensures.answered

pub returns-in-Print : goal.returns-in-Print
returns-in-Print g c = answered_as _ _ (Asked.Print c.in-Print.name) _ c.print.result _ _
    (ap command_of c.in-Print.is) c.flow_after-in-Print.ensures c.print.ensures.answered

pub returns-in-End : goal.returns-in-End
returns-in-End g c = end_answered _ _ _ c.give_end.result (ap command_of c.in-End.is) c.requires.whole c.give_end.ensures
