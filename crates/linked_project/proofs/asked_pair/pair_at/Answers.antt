use Rattle.std.proofs.Common.{◌+◌, drop}
use Rattle.linked_project.proofs.PairLaws.{behind_of, front_of}
use Rattle.linked_project.proofs.asked_pair.pair_at.Goals as goal

pub name_by-requires : goal.name_by-requires
name_by-requires c = front_of c.args.words.now c.args.tokens.now c.args.place c.requires.tokens

pub name_by-requires-2 : goal.name_by-requires-2
name_by-requires-2 c =
    front_of c.args.words.now (drop (c.args.place + 1) c.args.tokens.now) _
    (behind_of c.args.words.now c.args.tokens.now (c.args.place + 1) c.requires.tokens)
