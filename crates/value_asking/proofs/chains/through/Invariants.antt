use Rattle.std.proofs.Common.{◌≡◌, drop}
use Rattle.std.specs.Prelude.{Ok}
use Rattle.value_model.specs.Reading.{through}
use Rattle.value_asking.proofs.chains.through.Given as goal

abbrev pub invariant-loop-element : goal.invariant-loop-element
invariant-loop-element g l =
    let w = g.M.Meanings.links l.meanings in
    let lib = g.M.Meanings.library l.meanings in
    through w lib l.at (drop l.element-index l.elements) (Ok l.reached) ≡ through w lib l.at l.elements (Ok l.fn.target)
