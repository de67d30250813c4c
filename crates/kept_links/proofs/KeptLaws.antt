-- Links stay kept over the coming and going of texts.
use Rattle.std.proofs.Common.{◌≡◌, ℕ, ◌<◌, Bool, false, List, [], ◌∷◌, ◌++◌, refl, sym, ◌∙◌, ap, subst, inl, inr, arith, append-nil}
use Rattle.std.specs.Prelude.{length, map, nat_eq, slice_get, Option, None, Some, ◌⊎◌}
use Rattle.linker_base.specs.Members.{IsMember, IsEachOnce}
use Rattle.linker_base.proofs.Cases.{bool_cases}
use Rattle.demand_core.specs.Again.{HasForgotten}
use Rattle.demand_core.specs.EngineState.{EngineState}
use Rattle.demand_core.specs.Least.{HoldsLeast}
use Rattle.demand_core.specs.Rules.{Meaning, IsLawful}
use Rattle.demand_core.specs.Settled.{CanSettle, HasLooks}
use Rattle.demand_core.specs.declared.looks.Fact.{Fact}
use Rattle.element_store.specs.declared.numbers.FileNo.{FileNo}
use Rattle.element_store.specs.declared.outcome.Outcome.{Outcome}
use Rattle.element_store.specs.declared.models.StoredFile.{StoredFile}
use Rattle.element_store.specs.Model.{Data}
use Rattle.element_store.specs.Condition.{IsModel}
use Rattle.element_store.specs.Stored.{AreFiles, with_model}
use Rattle.element_store.proofs.RankLaws.{length-with_model, names-with_model, get-with_model_same, get-with_model_other}
use Rattle.link_model.specs.declared.keys.LinkKey.{LinkKey}
use Rattle.link_model.specs.declared.keys.LinkFact.{LinkFact}
use Rattle.link_model.specs.Edits.{HasCome}
use Rattle.link_model.specs.Keys.{same_key, key_is_exact}
use Rattle.link_model.specs.Linking.{link_meaning}
use Rattle.link_model.specs.Outside.{keys_in, keys_of}
use Rattle.link_model.proofs.LinkLaws.{link_lawful}
use Rattle.kept_links.specs.Facts.{facts_of}
use Rattle.kept_links.specs.Kept.{Kept, IsRight, AreKept, AreStanding, IsSettled, HasLetGo, MayOpen}
use Rattle.kept_links.proofs.ArrivedLaws.{arrival_alters}
use Rattle.kept_links.proofs.EditedLaws.{agree, coming_alters, differ, going_alters}
use Rattle.kept_links.proofs.RightLaws.{Alters, all_right, right_settles, still_right}

-- files without the text of one of them are files
pub without_text : (files : List StoredFile) (f : ℕ) (s : StoredFile) → slice_get files f ≡ Some s → AreFiles files → AreFiles (with_model files f None)
without_text files f s at are = record {
  few = let e = length-with_model files f None in let few = are.few in omega arith;
  names = subst IsEachOnce (sym (names-with_model files f None)) are.names;
  models = λ g x d there has. elim (bool_cases (nat_eq g f)) [
    | inl a ↦ absurd (
        let here : slice_get (with_model files f None) f ≡ Some x = subst (λ (n : ℕ). slice_get (with_model files f None) n ≡ Some x) (agree g f a) there in
        let is : Some (record s { model = None }) ≡ Some x = sym (get-with_model_same files f None s at) ∙ here in
        let e : record s { model = None } ≡ x = cc in
        let none : None ≡ Some d = ap (λ (u : StoredFile). u.model) e ∙ has in
        cc
        )
    | inr b ↦ are.models g x d (sym (get-with_model_other files f None g (differ g f b)) ∙ there) has
  ];
}

-- what was forgotten is pending, with the new references
pub goes_on : (files now : List StoredFile) → AreFiles files → AreFiles now → (facts : List (Fact LinkKey LinkFact)) (new : List LinkKey) (l l2 : Kept)
    → AreKept files l → Alters same_key (link_meaning files) (link_meaning now) facts new → HasLetGo facts l l2
    → IsRight same_key (link_meaning now) (l2.pending ++ new) l2.engine
goes_on files now are after facts new l l2 kept alters let_go =
    subst (λ (ps : List LinkKey). IsRight same_key (link_meaning now) (ps ++ new) l2.engine) (sym let_go.pending)
    (still_right same_key key_is_exact (link_meaning files) (link_meaning now) (link_lawful files are) (link_lawful now after) facts new let_go.gone
    l.pending l.engine l2.engine kept.right alters let_go.forgotten)

pub closed_kept : (files : List StoredFile) (f : FileNo) (s : StoredFile) → slice_get files f.0 ≡ Some s → s.library ≡ false
    → (facts : List (Fact LinkKey LinkFact)) → facts ≡ facts_of f (slice_get files f.0) → (l l2 : Kept) → AreKept files l → HasLetGo facts l l2
    → AreKept (with_model files f.0 None) l2
closed_kept files f s at own facts are l l2 kept let_go =
    let after = without_text files f.0 s at kept.are in
    record {
      are = after;
      right = subst (λ (ps : List LinkKey). IsRight same_key (link_meaning (with_model files f.0 None)) ps l2.engine) (append-nil l2.pending)
          (goes_on files (with_model files f.0 None) kept.are after facts [] l l2 kept
          (subst (λ xs. Alters same_key (link_meaning files) (link_meaning (with_model files f.0 None)) xs []) (sym are)
          (going_alters files f s at own)) let_go);
    }

-- the facts and the references of a file that came
come_right : (before now : List StoredFile) (f : FileNo) (s : StoredFile) → slice_get now f.0 ≡ Some s → s.library ≡ false → AreFiles now
    → (before ≡ with_model now f.0 None) ⊎ ((now ≡ before ++ s ∷ []) × (f.0 ≡ length before))
    → Alters same_key (link_meaning before) (link_meaning now) (facts_of f (slice_get now f.0)) (keys_in (record { number = f; file = s }))
come_right before now f s at own are (inl e) =
    subst (λ (fs : List StoredFile). Alters same_key (link_meaning fs) (link_meaning now) (facts_of f (slice_get now f.0))
    (keys_in (record { number = f; file = s })))
    (sym e) (coming_alters now f s at own)
come_right before now f s at own are (inr e) =
    subst (λ (o : Option StoredFile). Alters same_key (link_meaning before) (link_meaning now) (facts_of f o) (keys_in (record { number = f; file = s })))
    (sym at)
    (subst (λ (fs : List StoredFile). Alters same_key (link_meaning before) (link_meaning fs) (facts_of f (Some s)) (keys_in (record { number = f; file = s })))
    (sym e.0) (arrival_alters before f s e.1 (subst AreFiles e.0 are) own))

pub opened_kept : (now : List StoredFile) (f : FileNo) → AreFiles now → (l l2 l3 : Kept) → MayOpen now f l
    → (facts : List (Fact LinkKey LinkFact)) → facts ≡ facts_of f (slice_get now f.0) → HasLetGo facts l l2 → l3.engine ≡ l2.engine
    → ((s : StoredFile) → slice_get now f.0 ≡ Some s → l3.pending ≡ l2.pending ++ keys_in (record { number = f; file = s }))
    → AreKept now l3
opened_kept now f are l l2 l3 may facts is let_go engine pending =
    let s = may.come.0 in
    let at = may.come.1 in
    let new = keys_in (record { number = f; file = s }) in
    record {
      are = are;
      right = subst (λ (e : EngineState LinkKey Outcome LinkFact). IsRight same_key (link_meaning now) l3.pending e) (sym engine)
          (subst (λ (ps : List LinkKey). IsRight same_key (link_meaning now) ps l2.engine) (sym (pending s at))
          (goes_on may.before now may.kept.are are facts new l l2 may.kept
          (subst (λ xs. Alters same_key (link_meaning may.before) (link_meaning now) xs new) (sym is)
          (come_right may.before now f s at may.come.2 are may.come.3)) let_go));
    }

-- FOR THE CODE
pub let_go_is : (facts : List (Fact LinkKey LinkFact)) (old : Kept) (e e2 : EngineState LinkKey Outcome LinkFact) (before gone given after : List LinkKey)
    → record { engine = e; pending = before } ≡ old → HasForgotten same_key facts gone e e2 → given ≡ gone → after ≡ before ++ given
    → HasLetGo facts old (record { engine = e2; pending = after })
let_go_is facts old e e2 before gone given after view forgotten same is =
    subst (λ (z : Kept). HasLetGo facts z (record { engine = e2; pending = after })) view (record {
      gone = gone;
      forgotten = forgotten;
      pending = is ∙ ap (λ (ks : List LinkKey). before ++ ks) same;
    })

pub may_settle : (m : Meaning LinkKey Outcome LinkFact) (files : List StoredFile) (old : Kept) (pending given fresh taken : List LinkKey)
    (e : EngineState LinkKey Outcome LinkFact) → record { engine = e; pending = pending } ≡ old → IsRight same_key m old.pending old.engine
    → m.keys ≡ keys_of files → given ≡ pending → taken ≡ fresh → AreStanding files given fresh → CanSettle same_key m taken e
may_settle m files old pending given fresh taken e view right keys same is are =
    subst (λ (ks : List LinkKey). CanSettle same_key m ks e) (sym is)
    (right_settles same_key key_is_exact m pending fresh e
    (subst (λ (l : Kept). IsRight same_key m l.pending l.engine) (sym view) right)
    (λ k i. subst (λ (ks : List LinkKey). IsMember ks k) same (are.among k i))
    (λ k i. subst (λ (ks : List LinkKey). IsMember ks k) (sym keys) (are.stand k i))
    (λ k i j. are.all k (subst (λ (ks : List LinkKey). IsMember ks k) (sym same) i) (subst (λ (ks : List LinkKey). IsMember ks k) keys j)))

pub is_settled : (m : Meaning LinkKey Outcome LinkFact) → IsLawful m → (e : EngineState LinkKey Outcome LinkFact) (pending : List LinkKey)
    → HoldsLeast same_key m e → ((k : LinkKey) → IsMember m.keys k → HasLooks same_key m e k) → pending ≡ []
    → IsSettled m (record { engine = e; pending = pending })
is_settled m law e pending least looks none = record {
  right = subst (λ (ks : List LinkKey). IsRight same_key m ks e) (sym none) (all_right same_key key_is_exact m law e least looks);
  none = none;
}
