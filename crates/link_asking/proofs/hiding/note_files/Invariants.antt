-- what is noted, and the rest noted from here, is all noted
use Rattle.std.proofs.Common.{◌≡◌, [], drop}
use Rattle.link_walk.specs.Noted.{noted}
use Rattle.link_tiers.specs.Picks.{files_looked}
use Rattle.link_asking.proofs.hiding.note_files.Given as goal

abbrev pub invariant-loop-hit : goal.invariant-loop-hit
invariant-loop-hit l = noted [] (files_looked (drop l.hit-index l.hits)) l.notes ≡ noted [] (files_looked l.hits) l.initial.notes
