-- The book with the new model, which is the file's own and sound.
use Rattle.std.proofs.Common.{◌≡◌, ◌<◌, length, refl}
use Rattle.std.specs.Prelude.{Some, IfSome, slice_get}
use Rattle.std.proofs.lemmas.Option.{slice_get_read}
use Rattle.element_store.specs.Condition.{IsModel}
use Rattle.element_store.proofs.RankLaws.{set_is-with_model, both_known, book-with_model}
use Rattle.element_store.proofs.models.Models.set.Goals as goal
use Rattle.element_store.proofs.models.Models.set.Goals.{in-Some, in_default}

pub invariant_of-self : goal.invariant_of-self
invariant_of-self c =
    let stored = c.index_mut-stored.result.now in
    let within : c.args.file.0 < length c.self.inside.files.items = rw c.self.view_is c.requires.within in
    let here : slice_get c.self.inside.files.items c.args.file.0 ≡ Some stored = slice_get_read _ (length c.self.inside.files.items) c.args.file.0 stored refl within c.index_mut-stored.ensures.value in
    let fine : IfSome c.args.model IsModel = elim c.match-model.branch [ in-Some w ↦ rw w.in-Some.is w.elements.ensures.model | in_default w ↦ rw w.in_default.is tt ] in
    rw (set_is-with_model c.self.inside.files.items c.args.file.0 stored c.args.model here)
    (book-with_model c.self.inside.files.items c.self.inside.ranks.items c.self.inside.project_files c.args.file.0 c.args.model (both_known c.args.model c.args.file c.requires.own fine) c.self.invariant)

pub returns : goal.returns
returns c =
    let stored = c.index_mut-stored.result.now in
    let within : c.args.file.0 < length c.self.inside.files.items = rw c.self.view_is c.requires.within in
    let here : slice_get c.self.inside.files.items c.args.file.0 ≡ Some stored = slice_get_read _ (length c.self.inside.files.items) c.args.file.0 stored refl within c.index_mut-stored.ensures.value in
    rw (← c.self.view_is) (set_is-with_model c.self.inside.files.items c.args.file.0 stored c.args.model here)
