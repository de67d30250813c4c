use Rattle.std.proofs.Common.{◌∙◌, ap}
use Rattle.link_walk.specs.Noted.{Noted, noted}
use Rattle.known_facts.proofs.asked_facts.note_both.Goals as goal

pub returns : goal.returns
returns c = c.in_ok-append-2.ensures ∙ ap (λ (n : Noted). noted c.args.other.now.waits c.args.other.now.looks n) c.in_ok-append.ensures
