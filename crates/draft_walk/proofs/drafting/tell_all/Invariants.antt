use Rattle.std.proofs.Common.{◌≡◌, take}
use Rattle.std.specs.Prelude.{None}
use Rattle.text_model.specs.Languages.{grammar_of}
use Rattle.text_model.specs.Profile.{kinds_of}
use Rattle.draft_walk.specs.Drafted.{IsHeard}
use Rattle.draft_walk.proofs.drafting.tell_all.Given as goal

abbrev pub invariant-loop-number : goal.invariant-loop-number
invariant-loop-number l = record {
  table : l.parser.table ≡ grammar_of l.source.language;
  shifted : l.parser.shifted ≡ take l.number (kinds_of l.source.tokens.now);
  ahead : l.parser.ahead ≡ None;
  fault : l.parser.fault ≡ None;
  heard : IsHeard l.source l.parser l.teller;
}
