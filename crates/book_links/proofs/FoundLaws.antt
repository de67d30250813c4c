-- What a qualified name finds over the engine's table.
use Rattle.std.proofs.Common.{◌≡◌, ◌∙◌, ℕ, List, sym, ap}
use Rattle.std.specs.Prelude.{IfOk, Result, Ok, Err}
use Rattle.demand_core.specs.Computed.{world}
use Rattle.demand_core.specs.EngineState.{EngineState}
use Rattle.demand_core.specs.Least.{HoldsLeast}
use Rattle.demand_core.specs.Tables.{entry_of}
use Rattle.demand_core.proofs.LeastLaws.{least_fits}
use Rattle.element_store.specs.declared.outcome.Outcome.{Outcome}
use Rattle.element_store.specs.declared.models.StoredFile.{StoredFile}
use Rattle.element_store.specs.Stored.{AreFiles}
use Rattle.link_model.specs.declared.keys.LinkKey.{LinkKey}
use Rattle.link_model.specs.declared.keys.LinkFact.{LinkFact}
use Rattle.link_model.specs.Keys.{same_key, key_is_exact}
use Rattle.link_model.specs.Linking.{find, link_meaning}
use Rattle.link_model.proofs.LinkLaws.{link_lawful}
use Rattle.link_model.specs.Outside.{seen_in}
use Rattle.link_walk.specs.Calls.{AreLinks, reading}
use Rattle.implied_model.specs.Implied.{implications}
use Rattle.implied_rules.specs.declared.rows.ImpliedRow.{ImpliedRow}
use Rattle.implied_rules.specs.Implied.{AreImplied}
use Rattle.book_model.specs.Outcomes.{found_of, linked_world}

module _ (files : List StoredFile) (e : EngineState LinkKey Outcome LinkFact) (holds : HoldsLeast same_key (link_meaning files) e)
    (table : List (LinkKey × Outcome)) (same : table ≡ e.table) where
  -- the outcomes of the least linking are decided ones and name what stands
  pub least_links : AreFiles files → AreLinks files table
  least_links are k o is =
      least_fits same_key key_is_exact (link_meaning files) (link_lawful files are) k o
      (sym (holds.decided k) ∙ (ap (λ t. entry_of same_key t k) (sym same) ∙ is))

  -- and over them is found what the definition says
  pub found_is : (path : List (List ℕ)) (o : Outcome) → o ≡ find files (entry_of same_key table) path → o ≡ found_of files path
  found_is path o is =
      is ∙ (ap (λ t. find files (entry_of same_key t) path) same ∙ (λ i. find files (λ k. holds.decided k i) path))

  -- and the implied specialisations over them are those over the least linking
  pub implied_is : {E : Type 0} (r : Result (List ImpliedRow) E) → IfOk r (AreImplied files (reading files table))
      → IfOk r (AreImplied files (linked_world files))
  implied_is (Err f) is = tt
  implied_is (Ok rows) is =
      is ∙ (ap (λ t. implications files (reading files t)) same ∙ (λ i. implications files (world (seen_in files) (λ k. holds.decided k i))))
