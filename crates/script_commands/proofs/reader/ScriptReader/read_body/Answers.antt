use Rattle.script_commands.proofs.Stops.{body_stopped, body_whole}
use Rattle.script_commands.proofs.reader.ScriptReader.read_body.Goals as goal

pub returns-in-Err-read_feed-clause-read : goal.returns-in-Err-read_feed-clause-read
returns-in-Err-read_feed-clause-read g c = body_stopped _ _ _ _ _ _ _ _ _ c.in-Err-read_feed.stop c.in-Ok-fill_text.ensures.read
    c.in-Err-read_feed.ensures.read

pub returns-in-Ok-read_feed-clause-read : goal.returns-in-Ok-read_feed-clause-read
returns-in-Ok-read_feed-clause-read g c = body_whole _ _ _ _ _ _ _ _ _ _ _ c.in-Ok-fill_text.ensures.read c.in-Ok-read_feed.ensures.read c.of.ensures
