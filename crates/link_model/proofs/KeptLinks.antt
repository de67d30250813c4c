-- What an edit of a project file leaves as it was: the outcome, the waits and the looks of each reference that is kept.
use Rattle.std.proofs.Common.{ℕ, Bool, List, ap}
use Rattle.std.specs.Prelude.{Option}
use Rattle.demand_core.specs.Kept.{IsKept}
use Rattle.demand_core.specs.Least.{least}
use Rattle.demand_core.specs.Computed.{ordered_step, each_once}
use Rattle.demand_core.proofs.KeptLaws.{kept_same, kept_asking}
use Rattle.element_store.specs.declared.models.StoredFile.{StoredFile}
use Rattle.element_store.specs.Model.{Data}
use Rattle.element_store.specs.Stored.{with_model}
use Rattle.link_model.specs.declared.keys.LinkKey.{LinkKey}
use Rattle.link_model.specs.Keys.{same_key, key_is_exact}
use Rattle.link_model.specs.Linking.{link_meaning}
use Rattle.link_model.specs.Edits.{IsEdit, AreUntouched, KeepsOutcomes, KeepsAskings}
use Rattle.link_model.proofs.EditLaws.{edit_keeps}
use Rattle.link_model.proofs.LinkLaws.{link_lawful}

module _ (files : List StoredFile) (f : ℕ) (s : StoredFile) (m : Option Data) (edit : IsEdit files f s m) where
  edit_is_kept : (kept : LinkKey → Bool) → AreUntouched files f s m kept
      → IsKept same_key (link_meaning files) (link_meaning (with_model files f m)) kept
  edit_is_kept kept h = record {
    before = h.before;
    after = h.after;
    alike = λ k is t fit agree.
        let same = edit_keeps files f s m edit.stands edit.own (least same_key (link_meaning files)) t k agree (h.elsewhere k is) in
        (ap (λ a. ordered_step (each_once same_key) a.step) same, ap (λ a. a.looks) same);
    closed = h.closed;
  }

  -- OUTSIDE OF WHAT IS FRESH NOTHING CHANGES: neither the outcome, nor whether it is cyclic, nor on what, nor the looks.
  pub edit_changes_nothing : KeepsOutcomes files f s m
  edit_changes_nothing kept h =
      kept_same same_key key_is_exact (link_meaning files) (link_meaning (with_model files f m)) (link_lawful files edit.old)
      (link_lawful (with_model files f m) edit.new) kept (edit_is_kept kept h)

  pub edit_asks_the_same : KeepsAskings files f s m
  edit_asks_the_same kept h =
      kept_asking same_key key_is_exact (link_meaning files) (link_meaning (with_model files f m)) (link_lawful files edit.old)
      (link_lawful (with_model files f m) edit.new) kept (edit_is_kept kept h)
