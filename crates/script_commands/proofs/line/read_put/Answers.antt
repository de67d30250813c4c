use Rattle.std.proofs.Common.{◌+◌}
use Rattle.linker_base.proofs.Lists.{rest_is}
use Rattle.script_commands.proofs.Headings.{put_unspaced, put_uncounted, put_stopped, put_long}
use Rattle.script_commands.proofs.line.read_put.Goals as goal

pub returns-in_default : goal.returns-in_default
returns-in_default c = put_unspaced c.args.words.now c.in_default.ensures

pub returns-in_default-number : goal.returns-in_default-number
returns-in_default-number c = put_uncounted c.args.words.now c.in-Some.space _ c.in-Some.ensures (rest_is (c.in-Some.space + 1) c.args.words.now)
    c.in_default-number.ensures

pub returns-then-count-gt-FILE_BYTES : goal.returns-then-count-gt-FILE_BYTES
returns-then-count-gt-FILE_BYTES c = put_long c.args.words.now c.in-Some.space c.in-Some-number.count _ c.in-Some.ensures
    (rest_is (c.in-Some.space + 1) c.args.words.now) c.in-Some-number.ensures.0 c.in-Some-number.ensures.1 c.in-Ok.ensures.1 c.if-count-gt-FILE_BYTES.true

pub returns-in-Err : goal.returns-in-Err
returns-in-Err c = put_stopped c.args.words.now c.in-Some.space c.in-Err.stop c.in-Some.ensures c.in-Err.ensures
