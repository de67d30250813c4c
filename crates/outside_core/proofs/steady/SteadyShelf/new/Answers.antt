use Rattle.std.proofs.Common.{arith, map, string_bytes, vec_items}
use Rattle.std.proofs.lemmas.List.{length-map}
use Rattle.outside_core.proofs.Shelves.{stands_beside}
use Rattle.outside_core.proofs.steady.SteadyShelf.new.Goals as goal

pub returns-clause-held : goal.returns-clause-held
returns-clause-held c = stands_beside (map string_bytes c.args.names.items) (map vec_items c.args.texts.items)
    (simp length-map (omega (arith, c.requires.as_many, c.args.names.ok.0, c.args.texts.ok.0))) c.requires.distinct
