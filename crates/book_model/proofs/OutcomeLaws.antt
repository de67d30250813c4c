-- A reference that stands has the entry of the least linking, or is cyclic on the least reference on which it waits.
use Rattle.std.proofs.Common.{◌≡◌, ◌∙◌, List, [], ◌∷◌, refl, sym, ap, subst, inl, inr}
use Rattle.std.specs.Prelude.{Some, None}
use Rattle.linker_base.specs.Members.{IsMember}
use Rattle.linker_base.specs.Orders.{AreInOrder}
use Rattle.linker_base.proofs.Cases.{option_cases, some_same}
use Rattle.element_store.specs.declared.numbers.RefNo.{RefNo}
use Rattle.element_store.specs.declared.outcome.Outcome.{Outcome}
use Rattle.element_store.specs.declared.models.StoredFile.{StoredFile}
use Rattle.element_store.specs.Stored.{AreFiles}
use Rattle.demand_core.specs.Least.{least, cyclic_on}
use Rattle.demand_core.specs.Rules.{IsLeastWait, first_wait}
use Rattle.demand_core.specs.declared.step.Step.{Step}
use Rattle.demand_core.specs.declared.step.Step.TheVariants.{Done, Waits}
use Rattle.demand_core.proofs.LeastLaws.{least_fits}
use Rattle.demand_core.proofs.RoundsLaws.{cyclic_step, open_cyclic, wait_open}
use Rattle.link_model.specs.declared.keys.LinkKey.{LinkKey}
use Rattle.link_model.specs.Keys.{same_key, key_is_exact}
use Rattle.link_model.specs.Linking.{ComesBefore, link_meaning}
use Rattle.link_model.specs.Outside.{keys_of}
use Rattle.link_model.proofs.LinkLaws.{link_lawful}
use Rattle.link_model.proofs.OrderLemmas.{ordered_links}
use Rattle.book_model.specs.Outcomes.{outcome_by, outcome_of, IsDecided, IsCyclicOn, IsOutcome}

-- the first of waits in order is the least one
least_wait : {K V : Type 0} (before : K → K → Type 0) (step : Step K V) (q : K) → ((ks : List K) → step ≡ Waits ks → AreInOrder before ks)
    → first_wait step ≡ Some q
    → IsLeastWait before step q
least_wait before (Done v) q ordered first = absurd (cc)
least_wait before (Waits []) q ordered first = absurd (cc)
least_wait before (Waits (w ∷ ws)) q ordered first =
    let same : w ≡ q = some_same w q first in
    record {
      waits = inl same;
      first = λ p. elim [ inl here ↦ inl (sym same ∙ here) | inr later ↦ inr (subst (λ x. before x p) same ((ordered (w ∷ ws) refl).0 p later)) ];
    }

-- left open by the least linking: on which reference it is cyclic
cyclic_outcome : (files : List StoredFile) (r : RefNo) → AreFiles files → IsMember (keys_of files) (record { 0 = r })
    → least same_key (link_meaning files) (record { 0 = r }) ≡ None → IsCyclicOn files r (outcome_of files r)
cyclic_outcome files r are member left =
    let key : LinkKey = record { 0 = r } in
    let m = link_meaning files in
    let law = link_lawful files are in
    let cyclic = open_cyclic same_key key_is_exact m law key member left in
    let step = m.answer (least same_key m) key in
    let fits = least_fits same_key key_is_exact m law in
    let first : first_wait step ≡ Some cyclic.0 = sym (cyclic_step same_key key_is_exact m law key member) ∙ cyclic.1 in
    let wait = least_wait (ComesBefore files) step cyclic.0 (λ ks is. (ordered_links files are).waits (least same_key m) key ks member fits is) first in
    let there = wait_open same_key key_is_exact m law (least same_key m) key cyclic.0 step (law.proper (least same_key m) key member fits) wait.waits in
    record {
      on = cyclic.0;
      kept = ap (λ o. outcome_by o (cyclic_on same_key m key)) left ∙ ap (outcome_by None) cyclic.1;
      left = left;
      wait = wait;
      stands = there.2;
      open_too = there.0;
    }

-- decided by the least linking: its entry
decided_outcome : (files : List StoredFile) (r : RefNo) → AreFiles files → (o : Outcome) → least same_key (link_meaning files) (record { 0 = r }) ≡ Some o
    → IsDecided files r (outcome_of files r)
decided_outcome files r are o entry =
    let key : LinkKey = record { 0 = r } in
    let same : outcome_of files r ≡ o = ap (λ x. outcome_by x (cyclic_on same_key (link_meaning files) key)) entry in
    subst (IsDecided files r) (sym same) (record {
      entry = entry;
      fits =
          least_fits same_key key_is_exact (link_meaning files) (link_lawful files are) key o entry;
    })

-- the outcome of a reference that stands
pub outcome_is : (files : List StoredFile) (r : RefNo) → AreFiles files → IsMember (keys_of files) (record { 0 = r }) → IsOutcome files r (outcome_of files r)
outcome_is files r are member = elim (option_cases (least same_key (link_meaning files) (record { 0 = r }))) [
  | inl left ↦ inr (cyclic_outcome files r are member left)
  | inr entry ↦ inl (decided_outcome files r are entry.0 entry.1)
]
