use Rattle.std.proofs.Common.{◌≤◌, length, refl, ap, ◌∙◌, arith}
use Rattle.kept_links.proofs.KeyLaws.{file_more, files_are}
use Rattle.kept_links.proofs.keys.keys_of.Goals as goal

pub loop-file-preserved : goal.loop-file-preserved
loop-file-preserved c =
    file_more c.args.models.now c.loop-file.file c.loop-file.keys.items c.push_file.new.keys.items _
    (omega (arith, c.loop-file-test.true, c.files-file-end.ensures.count)) c.in_ok-push_file.ensures c.loop-file.invariant

pub returns : goal.returns
returns c =
    files_are c.args.models.now c.loop-file.file c.loop-file.keys.items _
    (omega (arith, c.loop-file-test.false, c.files-file-end.ensures.count)) c.loop-file.invariant
