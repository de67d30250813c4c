use Rattle.std.proofs.Common.{◌∙◌, sym}
use Rattle.link_model.specs.Outside.{library_of}
use Rattle.link_walk.specs.Calls.{files_of, read_by}
use Rattle.value_meanings.proofs.SoleLaws.{sole_found}
use Rattle.value_meanings.proofs.sole.sole.Goals as goal

pub returns : goal.returns
returns c =
    sole_found (read_by c.args.view.now) (library_of (files_of c.args.view.now)) c.args.feature c.args.candidates.now c.in_ok-set.set c.only_left-one.result
    (sym c.is_empty.ensures ∙ c.if-is_empty.false) c.in_ok-set.ensures c.only_left-one.ensures
