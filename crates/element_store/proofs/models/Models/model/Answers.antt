-- What the book keeps of each model, for the one that is lent.
use Rattle.std.proofs.Common.{◌≡◌, length, refl}
use Rattle.std.specs.Prelude.{Some, slice_get}
use Rattle.std.proofs.lemmas.Option.{slice_get_read}
use Rattle.element_store.proofs.RankLaws.{lent_known}
use Rattle.element_store.proofs.models.Models.model.Goals as goal

pub returns-clause-sound : goal.returns-clause-sound
returns-clause-sound c =
    let stored = c.in_ok-get.field-0.now in
    let found = c.in_ok-get.ensures.lookup in
    let here : slice_get c.self.inside.files.items c.args.file.0 ≡ Some stored = rw (← c.deref.ensures.value) (slice_get_read _ (length c.deref.result.now) c.args.file.0 stored refl found.3.0 found.1) in
    lent_known (λ r. r.now) c.as_ref.result stored.model c.args.file c.as_ref.ensures.value (λ d is. c.self.invariant.files.models c.args.file.0 stored d here is)
