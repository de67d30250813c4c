-- Parts of what holds of a model, of the numbering.
use Rattle.std.proofs.Common.{◌≡◌, ℕ, suc, ◌+◌, ◌<◌, ◌≤◌, ◌^◌, Bool, true, false, nat_eq, List, [], ◌∷◌, ◌++◌, length, refl, ap, sym, ◌∙◌, arith, length-append}
use Rattle.std.specs.Prelude.{map, drop, slice_get, nat_le, Option, Some, None}
use Rattle.std.specs.List.{flat_map, list_all}
use Rattle.std.specs.Option.{option_map_or}
use Rattle.std.proofs.lemmas.List.{map-append, length-map}
use Rattle.std.proofs.lemmas.List.Folds.{list_all-append, list_all-map}
use Rattle.std.proofs.lemmas.Bool.Decides.{Decides-ltb, nat_tests}
use Rattle.element_store.specs.declared.numbers.FileNo.{FileNo}
use Rattle.element_store.specs.declared.outcome.Language.{Language}
use Rattle.element_store.specs.declared.outcome.Role.{Role}
use Rattle.element_store.specs.declared.outcome.Role.TheVariants as role
use Rattle.element_store.specs.declared.records.Element.{Element}
use Rattle.element_store.specs.declared.records.Member.{Member}
use Rattle.element_store.specs.Expressions.{is_whole}
use Rattle.element_store.specs.Numbers.{numbers_from, places_from, chosen}
use Rattle.element_store.specs.Model.{members_in, imports_in}
use Rattle.element_store.specs.Condition.{is_few, all_few, nodes_in, Owning, owning, owned_from, IsOwnedOnce, members_of, imports_of, has_path, has_whole, context_fits, role_fits, HasRoot}
use Rattle.text_model.specs.declared.draft.Path.{Path}
use Rattle.text_model.specs.declared.draft.Mention.{Mention}
use Rattle.text_model.specs.declared.draft.DraftNode.{DraftNode}
use Rattle.text_model.specs.declared.draft.DraftExpr.{DraftExpr}
use Rattle.text_model.specs.declared.draft.Draft.{Draft}
use Rattle.text_model.specs.declared.draft.DraftTarget.{DraftTarget}
use Rattle.text_model.specs.declared.draft.DraftTarget.TheVariants.{Owned, Alias}
use Rattle.text_model.specs.declared.draft.DraftMember.{DraftMember}
use Rattle.text_model.specs.declared.draft.DraftImport.{DraftImport}
use Rattle.text_model.specs.Drafts.{names, mentions, own_role}
use Rattle.text_model.specs.Walk.{Walk}
use Rattle.linker_base.proofs.Cases.{and_true}
use Rattle.text_laws.specs.Coherent.{stock, Holds, EachFrom, Owner, owner_by, owners_by, owners_from}
use Rattle.text_laws.specs.Fits.{Every, PathFits, NameFits, NodesFit, SpecFits, DraftFits}
use Rattle.text_model.specs.Numbering.{nodes_of, ends, own_mentions, bound_mentions, value_mentions, head, mentions_of, width, reference, references_from, reference_places, numbered, numbered_in, element, elements_from, draft_at, member_of, member, import_of, places_of, model_of}
use Rattle.text_laws.specs.Sound.{HasRootKind, IsWholeDraft}
use Rattle.text_laws.proofs.FittingLaws.{every_on, every_append, names_fit, name_fits_in}

-- few, as the test says it
pub few_from : (n : ℕ) → n < 2 ^ 32 → is_few n ≡ true
few_from n below = (Decides-ltb n (2 ^ 32)).1 below

pub passes : {A : Type 0} (P : A → Type 0) (test : A → Bool) (xs : List A) → ((x : A) → P x → test x ≡ true) → Every P xs → list_all test xs ≡ true
passes P test [] on e = refl
passes P test (x ∷ xs) on e = rw (on x e.0) (passes P test xs on e.1)

-- Lengths.

-- an element for each draft
pub elements_long : (n : ℕ) (ds : List Draft) → length (elements_from n ds) ≡ length ds
elements_long n [] = refl
elements_long n (d ∷ ds) = ap suc (elements_long (n + width d) ds)

-- a place for each reference
pub references_placed : (e : ℕ) (ds : List Draft) → length (reference_places ds) ≡ length (references_from e ds)
references_placed e [] = refl
references_placed e (d ∷ ds) =
    length-append (map (λ m. m.path.place) (mentions_of d)) (reference_places ds)
    ∙ (omega (arith, length-map (mentions_of d) (λ (m : Mention). m.path.place), length-map (mentions_of d) (reference e), references_placed (suc e) ds)
    ∙ sym (length-append (map (reference e) (mentions_of d)) (references_from (suc e) ds)))

length-numbered : (n : ℕ) (ns : List DraftNode) → length (numbered n ns) ≡ length ns
length-numbered n [] = refl
length-numbered n (x ∷ ns) = ap suc (length-numbered _ ns)

nodes_placed : (n : ℕ) (v : Option DraftExpr) → length (places_of (nodes_of v)) ≡ nodes_in (numbered_in n v)
nodes_placed n None = refl
nodes_placed n (Some x) = length-map x.nodes (λ (y : DraftNode). y.place) ∙ sym (length-numbered n x.nodes)

-- and for each node of a value
pub values_placed : (n : ℕ) (ds : List Draft) → map length (map (λ d. places_of (nodes_of d.value)) ds) ≡ map (λ e. nodes_in e.value) (elements_from n ds)
values_placed n [] = refl
values_placed n (d ∷ ds) = ap (λ k. k ∷ map length (map (λ d. places_of (nodes_of d.value)) ds)) (nodes_placed _ d.value)
    ∙ ap (λ ks. nodes_in (element n d).value ∷ ks) (values_placed (n + width d) ds)

-- and of a result
pub results_placed : (n : ℕ) (ds : List Draft) → map length (map (λ d. places_of (nodes_of d.result)) ds) ≡ map (λ e. nodes_in e.result) (elements_from n ds)
results_placed n [] = refl
results_placed n (d ∷ ds) = ap (λ k. k ∷ map length (map (λ d. places_of (nodes_of d.result)) ds)) (nodes_placed _ d.result)
    ∙ ap (λ ks. nodes_in (element n d).result ∷ ks) (results_placed (n + width d) ds)

-- values are short
pub values_few : (all rest : ℕ) (ds : List Draft) → all < 2 ^ 32 → Every (DraftFits all rest) ds → all_few (map (λ d. places_of (nodes_of d.value)) ds) ≡ true
values_few all rest [] short h = refl
values_few all rest (d ∷ ds) short h =
    let here : is_few (length (places_of (nodes_of d.value))) ≡ true =
    few_from (length (places_of (nodes_of d.value))) (omega (arith, short, h.0.short_value, length-map (nodes_of d.value) (λ (y : DraftNode). y.place))) in
    and_true (is_few (length (places_of (nodes_of d.value)))) (all_few (map (λ d. places_of (nodes_of d.value)) ds)) here (values_few all rest ds short h.1)

-- and so are results
pub results_few : (all rest : ℕ) (ds : List Draft) → all < 2 ^ 32 → Every (DraftFits all rest) ds → all_few (map (λ d. places_of (nodes_of d.result)) ds) ≡ true
results_few all rest [] short h = refl
results_few all rest (d ∷ ds) short h =
    let here : is_few (length (places_of (nodes_of d.result))) ≡ true =
    few_from (length (places_of (nodes_of d.result)))
    (omega (arith, short, h.0.short_result, length-map (nodes_of d.result) (λ (y : DraftNode). y.place))) in
    and_true (is_few (length (places_of (nodes_of d.result)))) (all_few (map (λ d. places_of (nodes_of d.result)) ds)) here (results_few all rest ds short h.1)

-- Owned once.

bearing : List Draft → Owner → Owning
bearing ds o = record { element = o.element; owner = o.owner; short = (draft_at ds o.element).short; name = (draft_at ds o.element).name }

owned_by : (ds : List Draft) (ms : List DraftMember) → flat_map (λ m. owning m.target m) (map (member ds) ms) ≡ map (bearing ds) (owners_by ms)
unfolding bearing
owned_by ds [] = refl
owned_by ds (m ∷ ms) =
    ap (λ os. os ++ flat_map (λ m. owning m.target m) (map (member ds) ms)) (one m.target)
    ∙ (ap (λ os. map (bearing ds) (owner_by m.target m.owner) ++ os) (owned_by ds ms)
    ∙ sym (map-append (bearing ds) (owner_by m.target m.owner) (owners_by ms))) where
      one : (t : DraftTarget) → owning (member_of ds t m).target (member_of ds t m) ≡ map (bearing ds) (owner_by t m.owner)
      one (Owned x) = refl
      one (Alias k) = refl

owned_here : (ds : List Draft) (e n : ℕ) (tail : List Draft) → ((j : ℕ) → draft_at ds (e + j) ≡ draft_at tail j)
    → owned_from e (elements_from n tail) ≡ map (bearing ds) (owners_from e (map stock tail))
unfolding bearing
owned_here ds e n [] at = refl
owned_here ds e n (d ∷ tail) at =
    let here : draft_at ds e ≡ d = ap (draft_at ds) (omega arith) ∙ at 0 in
    ap (λ (x : Draft). record { element = e; owner = d.owner; short = x.short; name = x.name } ∷ owned_from (suc e) (elements_from (n + width d) tail))
    (sym here)
    ∙ ap (λ os. bearing ds (record { element = e; owner = d.owner }) ∷ os)
    (owned_here ds (suc e) (n + width d) tail (λ j. ap (draft_at ds) (omega arith) ∙ at (suc j)))

-- each element but the root is owned once
pub owned_once : (file : FileNo) (language : Language) (w : Walk)
    → record { element = 0; owner = None } ∷ owners_by w.members ≡ owners_from 0 (map stock w.elements) → IsOwnedOnce (model_of file language w)
owned_once file language w owners =
    owned_by w.elements w.members ∙ (go w.elements owners) where
      go : (ds : List Draft) → record { element = 0; owner = None } ∷ owners_by w.members ≡ owners_from 0 (map stock ds)
          → map (bearing ds) (owners_by w.members) ≡ owned_from 1 (drop 1 (elements_from 0 ds))
      go [] is = cc
      go (d ∷ ds) is =
          let rest : owners_by w.members ≡ owners_from 1 (map stock ds) = cc in
          ap (map (bearing (d ∷ ds))) rest ∙ sym (owned_here (d ∷ ds) 1 (0 + width d) ds (λ j. let one : 1 + j ≡ suc j = omega arith
          in ap (draft_at (d ∷ ds)) one))

-- the root is first
pub has_root : (w : Walk) → record { element = 0; owner = None } ∷ owners_by w.members ≡ owners_from 0 (map stock w.elements) → HasRootKind w.elements
    → HasRoot (elements_from 0 w.elements)
has_root w owners kind = go w.elements owners kind where
  go : (ds : List Draft) → record { element = 0; owner = None } ∷ owners_by w.members ≡ owners_from 0 (map stock ds) → HasRootKind ds
      → HasRoot (elements_from 0 ds)
  go [] is k = k
  go (d ∷ ds) is k =
      let same : record { element = 0; owner = None } ≡ record { element = 0; owner = d.owner } = cc in
      (k, sym (ap (λ (o : Owner). o.owner) same))

-- Items.

numbers-map : {A B : Type 0} (f : A → B) (n : ℕ) (test : B → Bool) (same : A → Bool) (xs : List A) → ((x : A) → test (f x) ≡ same x)
    → numbers_from n test (map f xs) ≡ numbers_from n same xs
numbers-map f n test same [] on = refl
numbers-map f n test same (x ∷ xs) on =
    ap (λ b. chosen b n (numbers_from (suc n) test (map f xs))) (on x) ∙ ap (λ ns. chosen (same x) n ns) (numbers-map f (suc n) test same xs on)

-- the numbering keeps owners
pub member_owner : (ds : List Draft) (m : DraftMember) → (member ds m).owner ≡ m.owner
member_owner ds m = go m.target where
  go : (t : DraftTarget) → (member_of ds t m).owner ≡ m.owner
  go (Owned x) = refl
  go (Alias k) = refl

-- the members among an element's items are its members
pub items_members : (file : FileNo) (language : Language) (w : Walk) (e n : ℕ) (ds : List Draft) → EachFrom (Holds w.members w.imports) e (map stock ds)
    → map members_in (map (λ d. d.items) ds) ≡ map (members_of (model_of file language w)) (places_from e (elements_from n ds))
items_members file language w e n [] h = refl
items_members file language w e n (d ∷ ds) h =
    ap (λ ns. ns ∷ map members_in (map (λ d. d.items) ds)) (h.0.members
    ∙ sym (numbers-map (member w.elements) 0 (λ (m : Member). nat_eq m.owner e) (λ (m : DraftMember). nat_eq m.owner e) w.members
    (λ m. ap (λ o. nat_eq o e) (member_owner w.elements m))))
    ∙ ap (λ ns. members_of (model_of file language w) e ∷ ns) (items_members file language w (suc e) (n + width d) ds h.1)

-- and the imports its imports
pub items_imports : (file : FileNo) (language : Language) (w : Walk) (e n : ℕ) (ds : List Draft) → EachFrom (Holds w.members w.imports) e (map stock ds)
    → map imports_in (map (λ d. d.items) ds) ≡ map (imports_of (model_of file language w)) (places_from e (elements_from n ds))
items_imports file language w e n [] h = refl
items_imports file language w e n (d ∷ ds) h =
    ap (λ ns. ns ∷ map imports_in (map (λ d. d.items) ds)) (h.0.imports
    ∙ sym (numbers-map (import_of w.elements) 0 (λ i. nat_eq i.owner e) (λ (i : DraftImport). nat_eq i.owner e) w.imports (λ i. refl)))
    ∙ ap (λ ns. imports_of (model_of file language w) e ∷ ns) (items_imports file language w (suc e) (n + width d) ds h.1)

-- Paths.

-- at most, as the test says it
pub leb_from : (a b : ℕ) → a ≤ b → nat_le a b ≡ true
leb_from a b h = grind (arith, nat_tests)

path_passes : (all e : ℕ) (m : Mention) → all < 2 ^ 32 → NameFits all m.path → has_path (reference e m) ≡ true
path_passes all e m short h = and_true (nat_le 1 (length m.path.path)) (is_few (length m.path.path + length m.path.chain))
    ((leb_from 1 (length m.path.path) h.some)) (few_from (length m.path.path + length m.path.chain) (omega (arith, short, h.short)))

mentions_long : (all rest : ℕ) (r : Role) (ps : List Path) → Every (PathFits all rest) ps → Every (λ m. NameFits all m.path) (mentions r ps)
mentions_long all rest r [] h = tt
mentions_long all rest r (p ∷ ps) h = (name_fits_in all rest p h.0, mentions_long all rest r ps h.1)

ends_fit : (all rest : ℕ) (ns : List DraftNode) → NodesFit all rest ns → NodesFit all rest (ends ns)
ends_fit all rest [] h = tt
ends_fit all rest (x ∷ []) h = h
ends_fit all rest (x ∷ y ∷ ns) h = (h.0, (h.1.0, tt))

pub paths_fit : (all rest : ℕ) (d : Draft) → DraftFits all rest d → Every (λ m. NameFits all m.path) (mentions_of d)
paths_fit all rest d h =
    every_append (λ (m : Mention). NameFits all m.path) (head d) d.inner
    (every_append (λ (m : Mention). NameFits all m.path) (own_mentions d) (bound_mentions d ++ value_mentions d)
    (every_append (λ (m : Mention). NameFits all m.path) (mentions (own_role d.kind) d.own) d.specs
    (mentions_long all rest (own_role d.kind) d.own h.own)
    (every_on (SpecFits all rest) (λ m. NameFits all m.path) d.specs (λ m k. name_fits_in all rest m.path k.path) h.specs))
    (every_append (λ (m : Mention). NameFits all m.path) (bound_mentions d) (value_mentions d)
    (mentions_long all rest role.Bound (names (ends d.bounds)) (names_fit all rest (ends d.bounds) (ends_fit all rest d.bounds h.bounds)))
    (every_append (λ (m : Mention). NameFits all m.path) (mentions role.Value (names (nodes_of d.value))) (mentions role.Value (names (nodes_of d.result)))
    (mentions_long all rest role.Value (names (nodes_of d.value)) (names_fit all rest (nodes_of d.value) h.value))
    (mentions_long all rest role.Value (names (nodes_of d.result)) (names_fit all rest (nodes_of d.result) h.result)))))
    h.inner

-- each path has a segment and is short
pub all_paths : (all rest e : ℕ) (ds : List Draft) → all < 2 ^ 32 → Every (DraftFits all rest) ds → list_all has_path (references_from e ds) ≡ true
all_paths all rest e [] short h = refl
all_paths all rest e (d ∷ ds) short h =
    list_all-append has_path (map (reference e) (mentions_of d)) (references_from (suc e) ds)
    ∙ and_true (list_all has_path (map (reference e) (mentions_of d))) (list_all has_path (references_from (suc e) ds))
    (list_all-map has_path (reference e) (mentions_of d)
    ∙ passes (λ (m : Mention). NameFits all m.path) (λ m. has_path (reference e m)) (mentions_of d) (λ m k. path_passes all e m short k)
    (paths_fit all rest d h.0))
    (all_paths all rest (suc e) ds short h.1)

-- Whole expressions.

-- each value and result is whole
pub all_whole : (n : ℕ) (ds : List Draft) → Every IsWholeDraft ds → list_all has_whole (elements_from n ds) ≡ true
all_whole n [] h = refl
all_whole n (d ∷ ds) h = and_true (has_whole (element n d)) (list_all has_whole (elements_from (n + width d) ds))
    (and_true (option_map_or is_whole (element n d).value true) (option_map_or is_whole (element n d).result true) (h.0.value _) (h.0.result _))
    (all_whole (n + width d) ds h.1)

-- Contexts.

-- each reference's role fits its element
pub all_contexts : (file : FileNo) (language : Language) (w : Walk) (e n : ℕ) (ds : List Draft)
    → ((j : ℕ) → slice_get (elements_from 0 w.elements) (e + j) ≡ slice_get (elements_from n ds) j)
    → Every (λ x. Every (λ m. role_fits m.role x.kind ≡ true) (mentions_of x)) ds
    → list_all (context_fits (model_of file language w)) (references_from e ds) ≡ true
all_contexts file language w e n [] at h = refl
all_contexts file language w e n (d ∷ ds) at h =
    let d' = model_of file language w in
    let here : slice_get (elements_from 0 w.elements) e ≡ Some (element n d) = ap (slice_get (elements_from 0 w.elements)) (omega arith) ∙ at 0 in
    list_all-append (context_fits d') (map (reference e) (mentions_of d)) (references_from (suc e) ds)
    ∙ and_true (list_all (context_fits d') (map (reference e) (mentions_of d))) (list_all (context_fits d') (references_from (suc e) ds))
    (list_all-map (context_fits d') (reference e) (mentions_of d)
    ∙ passes (λ (m : Mention). role_fits m.role d.kind ≡ true) (λ m. context_fits d' (reference e m)) (mentions_of d)
    (λ m k. ap (λ o. option_map_or (λ (x : Element). role_fits m.role x.kind) o false) here ∙ k) h.0)
    (all_contexts file language w (suc e) (n + width d) ds (λ j. ap (slice_get (elements_from 0 w.elements)) (omega arith) ∙ at (suc j)) h.1)

-- Owners of the elements, without the root's.

-- the owners of the elements are those of the drafts
pub elements_owners : (n : ℕ) (ds : List Draft) → map (λ e. e.owner) (elements_from n ds) ≡ map (λ d. d.owner) ds
elements_owners n [] = refl
elements_owners n (d ∷ ds) = ap (λ os. d.owner ∷ os) (elements_owners (n + width d) ds)
