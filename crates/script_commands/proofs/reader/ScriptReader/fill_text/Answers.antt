use Rattle.std.proofs.Common.{◌≡◌, ◌∙◌, [], inl, inr}
use Rattle.script_commands.proofs.Stops.{text_moved, text_filled, text_stopped}
use Rattle.script_commands.proofs.reader.ScriptReader.fill_text.Goals as goal

pub loop-stop-preserved : goal.loop-stop-preserved
loop-stop-preserved g c = record {
  read = text_filled _ _ _ _ _ _ _ _ (text_moved _ _ _ _ _ _ _ _ _ c.loop-stop.invariant.read c.in-Ok.ensures) c.in-Ok-fill.ensures.read;
  faults = c.in-Ok-fill.ensures.cause ∙ c.loop-stop.invariant.faults;
  within = c.in-Ok.ensures.2;
}

pub returns-in-Err-fill-clause-read : goal.returns-in-Err-fill-clause-read
returns-in-Err-fill-clause-read g c =
    let none : c.move_into.new.self.pending ≡ [] = elim
    c.in-Ok.ensures.4 [ inl whole ↦ absurd (c.if-len-count.false (c.len.ensures ∙ (c.move_into.new.text.ok.0 ∙ whole))) | inr none ↦ none ] in
    text_stopped _ _ _ _ _ _ _ _ c.in-Err-fill.stop
    (text_moved _ _ _ _ _ _ _ _ _ c.loop-stop.invariant.read c.in-Ok.ensures) c.in-Ok.ensures.2 none c.in-Err-fill.ensures.read
