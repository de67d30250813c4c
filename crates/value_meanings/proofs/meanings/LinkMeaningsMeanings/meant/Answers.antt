use Rattle.std.proofs.Common.{◌≡◌, sym, subst}
use Rattle.std.specs.Prelude.{Option, IfOk}
use Rattle.element_store.specs.declared.numbers.ElementNo.{ElementNo}
use Rattle.link_model.specs.declared.view.View.{View}
use Rattle.link_model.specs.Outside.{library_of}
use Rattle.link_walk.specs.Calls.{files_of, read_by}
use Rattle.value_model.specs.Meant.{meant}
use Rattle.value_meanings.proofs.meanings.LinkMeaningsMeanings.meant.Goals as goal

pub returns-in-Some : goal.returns-in-Some
returns-in-Some c =
    subst (λ (v : View). IfOk c.meant_in.result (λ one. one ≡ meant (read_by v) (library_of (files_of v)) c.args.feature c.args.target)) c.self.view_is
    (subst (λ (t : Option ElementNo). IfOk c.meant_in.result
    (λ one. one ≡ meant (read_by c.self.inside.view) (library_of (files_of c.self.inside.view)) c.args.feature t)) (sym c.in-Some.is) c.meant_in.ensures)
