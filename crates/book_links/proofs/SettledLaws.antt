-- What the engine holds once all references are settled.
use Rattle.std.proofs.Common.{◌≡◌, ◌∙◌, List, [], refl, sym, ap, subst}
use Rattle.std.specs.Prelude.{Option, None, Some, Result, Ok, Err, IfOk}
use Rattle.demand_core.specs.EngineState.{EngineState}
use Rattle.demand_core.specs.Least.{HoldsLeast}
use Rattle.demand_core.specs.Tables.{entry_of}
use Rattle.element_store.specs.declared.numbers.RefNo.{RefNo}
use Rattle.element_store.specs.declared.outcome.Outcome.{Outcome}
use Rattle.element_store.specs.declared.models.StoredFile.{StoredFile}
use Rattle.link_model.specs.declared.keys.LinkKey.{LinkKey}
use Rattle.link_model.specs.declared.keys.LinkFact.{LinkFact}
use Rattle.link_model.specs.Keys.{same_key}
use Rattle.link_model.specs.Linking.{link_meaning}
use Rattle.book_model.specs.Outcomes.{outcome_by, outcome_of}
use Rattle.book_links.specs.Linked.{Linked, IsLinked, followed}
use Rattle.element_store.specs.declared.numbers.FileNo.{FileNo}
use Rattle.element_store.specs.Stored.{AreFiles, with_model}
use Rattle.link_model.specs.Edits.{HasCome}
use Rattle.kept_links.specs.Kept.{Kept, AreSettled}
use Rattle.kept_links.proofs.SettledLaws.{kept_settled, no_files, roots_before, settled_kept, settled_least}
use Rattle.project_answers.specs.Holds.{all_linked}
use Rattle.root_names.specs.Roots.{Tables, AreRootsOf, HaveNoModel}

abbrev pub EngineAt : Type 0
EngineAt = EngineState LinkKey Outcome LinkFact

-- the outcome of a reference is what the engine holds of it
pub outcome_held : (files : List StoredFile) (e : EngineAt) → HoldsLeast same_key (link_meaning files) e → (r : RefNo) (decided : Option Outcome)
    (left : Option LinkKey)
    → entry_of same_key e.table (record { 0 = r }) ≡ decided → entry_of same_key e.cyclic (record { 0 = r }) ≡ left
    → outcome_by decided left ≡ outcome_of files r
outcome_held files e holds r decided left is too =
    λ i. outcome_by ((sym is ∙ holds.decided (record { 0 = r })) i) ((sym too ∙ holds.cyclic (record { 0 = r })) i)

-- where it is decided, what is left open doesn't matter
pub outcome_decided : (files : List StoredFile) (e : EngineAt) → HoldsLeast same_key (link_meaning files) e → (r : RefNo) (o : Outcome)
    → entry_of same_key e.table (record { 0 = r }) ≡ Some o → o ≡ outcome_of files r
outcome_decided files e holds r o is = outcome_held files e holds r (Some o) (entry_of same_key e.cyclic (record { 0 = r })) is refl

-- a copy of what is something is it too
pub copied_is : {E : Type 0} (r : Result Outcome E) (o p : Outcome) → IfOk r (λ c. c ≡ o) → o ≡ p → IfOk r (λ c. c ≡ p)
copied_is (Ok c) o p is e = is ∙ e
copied_is (Err f) o p is e = is

-- the links of no files
pub none_linked : (files : List StoredFile) (kept : Kept) (roots : Tables) → files ≡ [] → AreSettled [] kept
    → ((fs : List StoredFile) → HaveNoModel fs → AreRootsOf fs roots) → IsLinked (record { files = files; kept = kept; roots = roots })
none_linked files kept roots empty settled names =
    subst (λ (fs : List StoredFile). IsLinked (record { files = fs; kept = kept; roots = roots })) (sym empty)
    (record { kept = settled_kept [] kept no_files settled; roots = names [] (λ f s at. cc) })

-- links of which none is pending are settled
pub linked_settled : (l : Linked) (models : List StoredFile) → IsLinked l → followed l ≡ all_linked models → AreSettled models l.kept
linked_settled l models linked is =
    subst (λ (fs : List StoredFile). AreSettled fs l.kept) (ap (λ f. f.files) is) (kept_settled l.files l.kept linked.kept (ap (λ f. f.is_linked) is))

pub linked_least : (l : Linked) (models : List StoredFile) → IsLinked l → followed l ≡ all_linked models
    → HoldsLeast same_key (link_meaning models) l.kept.engine
linked_least l models linked is =
    settled_least models l.kept (subst AreFiles (ap (λ f. f.files) is) linked.kept.are) (linked_settled l models linked is)

-- the roots without the text that came are those before it
pub roots_open : (before now : List StoredFile) (file : FileNo) (roots : Tables) → AreFiles now → HasCome before now file → AreRootsOf before roots
    → AreRootsOf (with_model now file.0 None) roots
roots_open before now file roots are come names =
    let same = roots_before before now file are come in
    record { project = λ x. names.project x ∙ sym (same.0 x); library = λ x. names.library x ∙ sym (same.1 x) }

-- settled links of the files, with the names of their roots
pub linked_of : (files models : List StoredFile) (kept : Kept) (roots : Tables) → files ≡ models → AreFiles models → AreSettled models kept
    → AreRootsOf models roots → IsLinked (record { files = files; kept = kept; roots = roots })
linked_of files models kept roots same are settled names =
    subst (λ (fs : List StoredFile). IsLinked (record { files = fs; kept = kept; roots = roots })) (sym same)
    (record { kept = settled_kept models kept are settled; roots = names })
