use Rattle.std.proofs.Common.{◌∙◌}
use Rattle.session_streams.proofs.RunLemmas.{text_failed, digits_failed, feed_failed, number_said}
use Rattle.session_run.proofs.Seen.{seen}
use Rattle.session_run.proofs.saying.say_number.Goals as goal

pub returns-in-Err : goal.returns-in-Err
returns-in-Err g c =
    let at = seen g.E.Sink.given g.E.Sink.faults in
    text_failed (at c.args.errors.now) (at c.give.new.errors) c.args.text.now c.args.number c.args.status c.in-Err.ensures

pub returns-in-Err-give : goal.returns-in-Err-give
returns-in-Err-give g c =
    let at = seen g.E.Sink.given g.E.Sink.faults in
    digits_failed (at c.args.errors.now) (at c.give.new.errors) (at c.give-in-Ok.new.errors) c.args.text.now _ c.args.number c.args.status
    (c.as_bytes-digits.ensures.value ∙ c.format.ensures.text) c.in-Ok.ensures c.in-Err-give.ensures

pub returns-in-Err-give-2 : goal.returns-in-Err-give-2
returns-in-Err-give-2 g c =
    let at = seen g.E.Sink.given g.E.Sink.faults in
    feed_failed (at c.args.errors.now) (at c.give.new.errors) (at c.give-in-Ok.new.errors) (at c.give-in-Ok-give.new.errors)
    c.args.text.now _ c.args.number c.args.status (c.as_bytes-digits.ensures.value ∙ c.format.ensures.text) c.in-Ok.ensures c.in-Ok-give.ensures
    c.in-Err-give-2.ensures

pub returns-in-Ok-give-2 : goal.returns-in-Ok-give-2
returns-in-Ok-give-2 g c =
    let at = seen g.E.Sink.given g.E.Sink.faults in
    number_said (at c.args.errors.now) (at c.give.new.errors) (at c.give-in-Ok.new.errors) (at c.give-in-Ok-give.new.errors)
    c.args.text.now _ c.args.number c.args.status (c.as_bytes-digits.ensures.value ∙ c.format.ensures.text) c.in-Ok.ensures c.in-Ok-give.ensures
    c.in-Ok-give-2.ensures
