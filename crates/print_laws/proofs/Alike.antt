-- A walk without its places makes the same model in all but places, and such models are printed alike.
use Rattle.std.proofs.Common.{◌≡◌, ℕ, zero, suc, ◌+◌, List, [], ◌∷◌, ◌++◌, length, refl, ap, sym, subst, ◌∙◌}
use Rattle.std.specs.Prelude.{Option, Some, None, map}
use Rattle.std.specs.Option.{option_map}
use Rattle.std.specs.List.{flat_map}
use Rattle.std.proofs.lemmas.List.{map-append}
use Rattle.element_store.specs.declared.numbers.FileNo.{FileNo}
use Rattle.element_store.specs.declared.outcome.Language.{Language}
use Rattle.element_store.specs.declared.outcome.Role.{Role}
use Rattle.element_store.specs.declared.outcome.Role.TheVariants as role
use Rattle.element_store.specs.declared.lists.Item.{Item}
use Rattle.element_store.specs.declared.records.Element.{Element}
use Rattle.element_store.specs.declared.records.Member.{Member}
use Rattle.element_store.specs.declared.records.Target.TheVariants as target
use Rattle.element_store.specs.declared.records.Reference.{Reference}
use Rattle.element_store.specs.declared.records.Import.{Import}
use Rattle.element_store.specs.Model.{Data}
use Rattle.text_model.specs.declared.draft.Path.{Path}
use Rattle.text_model.specs.declared.draft.Mention.{Mention}
use Rattle.text_model.specs.declared.draft.What.{What}
use Rattle.text_model.specs.declared.draft.What.TheVariants as what
use Rattle.text_model.specs.declared.draft.DraftNode.{DraftNode}
use Rattle.text_model.specs.declared.draft.DraftExpr.{DraftExpr}
use Rattle.text_model.specs.declared.draft.Draft.{Draft}
use Rattle.text_model.specs.declared.draft.DraftMember.{DraftMember}
use Rattle.text_model.specs.declared.draft.DraftImport.{DraftImport}
use Rattle.text_model.specs.declared.draft.DraftTarget.{DraftTarget}
use Rattle.text_model.specs.declared.draft.DraftTarget.TheVariants.{Owned, Alias}
use Rattle.text_model.specs.Drafts.{mention, name_in, names, mentions, own_role}
use Rattle.text_model.specs.Numbering.{nodes_of, ends, own_mentions, bound_mentions, head, mentions_of, width, reference, references_from, node_of, after_node, numbered, numbered_in, end_of, bounds_of, element, elements_from, base_from, draft_at, member_of, member, import_of, model_of, bound_start, value_start, result_start}
use Rattle.text_model.specs.Walk.{Walk}
use Rattle.text_model.specs.Profile.{drafts_of}
use Rattle.print_model.specs.Layout.{Line, text_of}
use Rattle.print_model.specs.Heads.{body_lines, item_lines, result_lines, items_at, element_at, printed_text}
use Rattle.print_model.specs.Unplaced.{bare, bare_path, bare_what, bare_node, bare_mention, bare_expression, bare_draft, bare_member, bare_import}
use Rattle.print_laws.specs.ModelsReadBack.{items_model}
use Rattle.print_laws.specs.SameModels.{AreAlike, ModelsComeBack}
use Rattle.print_laws.proofs.Canonical.{models_read_back}

-- Names and mentions without places.

-- names without places
paths_bare : (ns : List DraftNode) → names (map bare_node ns) ≡ map bare_path (names ns)
paths_bare [] = refl
paths_bare (n ∷ ns) = one n.what (names (map bare_node ns)) (names ns) (paths_bare ns)
  where
    one : (w : What) (xs ys : List Path) → xs ≡ map bare_path ys → name_in (bare_what w) ++ xs ≡ map bare_path (name_in w ++ ys)
    one (what.Named p) xs ys e = ap (λ zs. bare_path p ∷ zs) e
    one other xs ys e = e

-- their mentions
mentioned_bare : (which : Role) (ps : List Path) → mentions which (map bare_path ps) ≡ map bare_mention (mentions which ps)
mentioned_bare which [] = refl
mentioned_bare which (p ∷ ps) = ap (λ ms. mention which (bare_path p) ∷ ms) (mentioned_bare which ps)

-- the mentions of nodes
nodes_bare : (which : Role) (ns : List DraftNode) → mentions which (names (map bare_node ns)) ≡ map bare_mention (mentions which (names ns))
nodes_bare which ns = ap (mentions which) (paths_bare ns) ∙ mentioned_bare which (names ns)

-- the two ends of bounds
ends_bare : (ns : List DraftNode) → ends (map bare_node ns) ≡ map bare_node (ends ns)
ends_bare [] = refl
ends_bare (a ∷ []) = refl
ends_bare (a ∷ b ∷ ns) = refl

-- the nodes of an expression
given_nodes : (e : Option DraftExpr) → nodes_of (option_map bare_expression e) ≡ map bare_node (nodes_of e)
given_nodes None = refl
given_nodes (Some e) = refl

-- an element's own mentions
own_bare : (d : Draft) → own_mentions (bare_draft d) ≡ map bare_mention (own_mentions d)
own_bare d = ap (λ ms. ms ++ map bare_mention d.specs) (mentioned_bare (own_role d.kind) d.own) ∙ sym (map-append bare_mention (mentions
    (own_role d.kind) d.own) d.specs)

-- those of its bounds
bound_bare : (d : Draft) → bound_mentions (bare_draft d) ≡ map bare_mention (bound_mentions d)
bound_bare d = ap (λ ns. mentions role.Bound (names ns)) (ends_bare d.bounds) ∙ nodes_bare role.Bound (ends d.bounds)

-- of an expression
expression_bare : (e : Option DraftExpr) → mentions role.Value (names (nodes_of (option_map bare_expression e))) ≡ map bare_mention (mentions role.Value
    (names (nodes_of e)))
expression_bare e = ap (λ ns. mentions role.Value (names ns)) (given_nodes e) ∙ nodes_bare role.Value (nodes_of e)

-- of two lists
append_bare : (xs ys fs bs : List Mention) → xs ≡ map bare_mention fs → ys ≡ map bare_mention bs → xs ++ ys ≡ map bare_mention (fs ++ bs)
append_bare xs ys fs bs e f = ap (λ ms. ms ++ ys) e ∙ (ap (λ ms. map bare_mention fs ++ ms) f ∙ sym (map-append bare_mention fs bs))

-- all but those of its body
head_bare : (d : Draft) → head (bare_draft d) ≡ map bare_mention (head d)
head_bare d =
    append_bare (own_mentions (bare_draft d)) _ (own_mentions d) _ (own_bare d)
    (append_bare (bound_mentions (bare_draft d)) _ (bound_mentions d) _ (bound_bare d)
    (append_bare _ _ _ _ (expression_bare d.value) (expression_bare d.result)))

-- all of them
pub all_bare : (d : Draft) → mentions_of (bare_draft d) ≡ map bare_mention (mentions_of d)
all_bare d = append_bare (head (bare_draft d)) (map bare_mention d.inner) (head d) d.inner (head_bare d) refl

-- a mapped list is as long
pub map_long : {A B : Type 0} (f : A → B) (xs : List A) → length (map f xs) ≡ length xs
map_long f [] = refl
map_long f (x ∷ xs) = ap suc (map_long f xs)

-- so it has as many
width_bare : (d : Draft) → width (bare_draft d) ≡ width d
width_bare d = ap length (all_bare d) ∙ map_long bare_mention (mentions_of d)

-- Records.

-- their references are the same
referred : (e : ℕ) (ms : List Mention) → map (reference e) (map bare_mention ms) ≡ map (reference e) ms
referred e [] = refl
referred e (m ∷ ms) = ap (λ rs. reference e m ∷ rs) (referred e ms)

-- so are all references
references_bare : (e : ℕ) (ds : List Draft) → references_from e (map bare_draft ds) ≡ references_from e ds
references_bare e [] = refl
references_bare e (d ∷ ds) =
    ap (λ ms. map (reference e) ms ++ references_from (suc e) (map bare_draft ds)) (all_bare d)
    ∙ (ap (λ rs. rs ++ references_from (suc e) (map bare_draft ds)) (referred e (mentions_of d))
    ∙ ap (λ rs. map (reference e) (mentions_of d) ++ rs) (references_bare (suc e) ds))

-- nodes with numbers
numbered_bare : (n : ℕ) (ns : List DraftNode) → numbered n (map bare_node ns) ≡ numbered n ns
numbered_bare n [] = refl
numbered_bare n (x ∷ ns) = one n x.what (map bare_node ns) ns (λ k. numbered_bare k ns)
  where
    one : (n : ℕ) (w : What) (xs ys : List DraftNode) → ((k : ℕ) → numbered k xs ≡ numbered k ys)
        → node_of n (bare_what w) ∷ numbered (after_node n (bare_what w)) xs ≡ node_of n w ∷ numbered (after_node n w) ys
    one n (what.Named p) xs ys e = ap (λ zs. node_of n (what.Named p) ∷ zs) (e (suc n))
    one n other xs ys e = ap (λ zs. node_of n other ∷ zs) (e n)

-- an expression with numbers
given_bare : (n : ℕ) (e : Option DraftExpr) → numbered_in n (option_map bare_expression e) ≡ numbered_in n e
given_bare n None = refl
given_bare n (Some e) = ap (λ ns. Some ns) (numbered_bare n e.nodes)

-- an end of bounds
end_bare : (n : ℕ) (w : What) → end_of n (bare_what w) ≡ end_of n w
end_bare n (what.Named p) = refl
end_bare n other = refl

-- the number behind it
after_bare : (n : ℕ) (w : What) → after_node n (bare_what w) ≡ after_node n w
after_bare n (what.Named p) = refl
after_bare n other = refl

-- bounds
bounds_bare : (n : ℕ) (ns : List DraftNode) → bounds_of n (map bare_node ns) ≡ bounds_of n ns
bounds_bare n [] = refl
bounds_bare n (u ∷ []) = ap (λ z. Some (record { lower = None; upper = Some z })) (end_bare n u.what)
bounds_bare n (b ∷ u ∷ ns) =
    ap (λ z. Some (record { lower = Some z; upper = Some (end_of (after_node n (bare_what b.what)) (bare_what u.what)) })) (end_bare n b.what)
    ∙ (ap (λ k. Some (record { lower = Some (end_of n b.what); upper = Some (end_of k (bare_what u.what)) })) (after_bare n b.what)
    ∙ ap (λ z. Some (record { lower = Some (end_of n b.what); upper = Some z })) (end_bare (after_node n b.what) u.what))

-- an element
element_bare : (n : ℕ) (d : Draft) → element n (bare_draft d) ≡ element n d
element_bare n d =
    let own = ap length (own_bare d) ∙ map_long bare_mention (own_mentions d) in
    let bound = ap length (bound_bare d) ∙ map_long bare_mention (bound_mentions d) in
    let given = ap length (ap names (given_nodes d.value) ∙ paths_bare (nodes_of d.value)) ∙ map_long bare_path (names (nodes_of d.value)) in
    let b = bare_draft d in
    ap (λ k. record (element n b) {
      bounds = bounds_of (n + k) b.bounds;
      value = numbered_in ((n + k) + length (bound_mentions b)) b.value;
      result = numbered_in (((n + k) + length (bound_mentions b)) + length (names (nodes_of b.value))) b.result;
    }) own
    ∙ (ap (λ k. record (element n b) {
      bounds = bounds_of (bound_start n d) b.bounds;
      value = numbered_in (bound_start n d + k) b.value;
      result = numbered_in ((bound_start n d + k) + length (names (nodes_of b.value))) b.result;
    }) bound
    ∙ (ap (λ k. record (element n b) {
      bounds = bounds_of (bound_start n d) b.bounds;
      value = numbered_in (value_start n d) b.value;
      result = numbered_in (value_start n d + k) b.result;
    }) given
    ∙ (ap (λ z. record (element n d) { bounds = z; value = numbered_in (value_start n d) b.value; result = numbered_in (result_start n d) b.result })
    (bounds_bare (bound_start n d) d.bounds)
    ∙ (ap (λ z. record (element n d) { value = z; result = numbered_in (result_start n d) b.result }) (given_bare (value_start n d) d.value)
    ∙ ap (λ z. record (element n d) { result = z }) (given_bare (result_start n d) d.result)))))

-- all elements
elements_bare : (n : ℕ) (ds : List Draft) → elements_from n (map bare_draft ds) ≡ elements_from n ds
elements_bare n [] = refl
elements_bare n (d ∷ ds) =
    ap (λ e. e ∷ elements_from (n + width (bare_draft d)) (map bare_draft ds)) (element_bare n d)
    ∙ (ap (λ k. element n d ∷ elements_from (n + k) (map bare_draft ds)) (width_bare d) ∙ ap (λ es. element n d ∷ es) (elements_bare (n + width d) ds))

-- their items
items_bare : (ds : List Draft) → map (λ (d : Draft). d.items) (map bare_draft ds) ≡ map (λ (d : Draft). d.items) ds
items_bare [] = refl
items_bare (d ∷ ds) = ap (λ is. d.items ∷ is) (items_bare ds)

-- where names of bodies begin
base_bare : (n : ℕ) (ds : List Draft) (e : ℕ) → base_from n (map bare_draft ds) e ≡ base_from n ds e
base_bare n [] e = refl
base_bare n (d ∷ ds) zero = ap (λ k. n + k) (ap length (head_bare d) ∙ map_long bare_mention (head d))
base_bare n (d ∷ ds) (suc e) = ap (λ k. base_from (n + k) (map bare_draft ds) e) (width_bare d) ∙ base_bare (n + width d) ds e

-- a draft by its number
draft_bare : (ds : List Draft) (e : ℕ) → draft_at (map bare_draft ds) e ≡ bare_draft (draft_at ds e)
draft_bare [] e = refl
draft_bare (d ∷ ds) zero = refl
draft_bare (d ∷ ds) (suc e) = draft_bare ds e

-- a member
member_bare : (ds : List Draft) (t : DraftTarget) (m : DraftMember) → member_of (map bare_draft ds) t (bare_member m) ≡ member_of ds t m
member_bare ds (Owned e) m = ap (λ (d : Draft). record (member_of ds (Owned e) m) { short = d.short; name = d.name }) (draft_bare ds e)
member_bare ds (Alias k) m = ap (λ n. record (member_of ds (Alias k) m) { target = target.Alias (n + k) }) (base_bare 0 ds m.owner)

-- all members
members_bare : (ds : List Draft) (ms : List DraftMember) → map (member (map bare_draft ds)) (map bare_member ms) ≡ map (member ds) ms
members_bare ds [] = refl
members_bare ds (m ∷ ms) =
    ap (λ x. x ∷ map (member (map bare_draft ds)) (map bare_member ms)) (member_bare ds m.target m) ∙ ap (λ xs. member ds m ∷ xs) (members_bare ds ms)

-- all imports
imports_bare : (ds : List Draft) (is : List DraftImport) → map (import_of (map bare_draft ds)) (map bare_import is) ≡ map (import_of ds) is
imports_bare ds [] = refl
imports_bare ds (i ∷ is) =
    ap (λ n. record (import_of ds i) { reference = n + i.at } ∷ map (import_of (map bare_draft ds)) (map bare_import is)) (base_bare 0 ds i.owner)
    ∙ ap (λ xs. import_of ds i ∷ xs) (imports_bare ds is)

-- a walk without places makes the same model, places aside
pub bare_alike : (file : FileNo) (l : Language) (w : Walk) → AreAlike (model_of file l w) (model_of file l (bare w))
bare_alike file l w = record {
  language = refl;
  elements = sym (elements_bare 0 w.elements);
  items = sym (items_bare w.elements);
  members = sym (members_bare w.elements w.members);
  references = sym (references_bare 0 w.elements);
  imports = sym (imports_bare w.elements w.imports);
}

-- Alike models are printed alike.

-- a model of these lists, without places
abbrev made : FileNo → Language → List Element → List (List Item) → List Member → List Reference → List Import → Data
made file l es is ms rs js = record {
  file = file;
  language = l;
  elements = es;
  items = is;
  members = ms;
  references = rs;
  imports = js;
  member_places = [];
  reference_places = [];
  value_places = [];
  result_places = [];
}

-- a model without places and number
abbrev stripped : FileNo → Data → Data
stripped file d = made file d.language d.elements d.items d.members d.references d.imports

-- bodies are printed alike
same_bodies : (file : FileNo) (d : Data) (steps level e : ℕ) → body_lines steps (stripped file d) level e ≡ body_lines steps d level e
same_bodies file d zero level e = refl
same_bodies file d (suc steps) level e =
    let f : (λ (j c : ℕ). body_lines steps (stripped file d) j c) ≡ (λ (j c : ℕ). body_lines steps d j c) = λ i j c. same_bodies file d steps j c i in
    ap (λ (inner : ℕ → ℕ → List Line). flat_map (item_lines inner d level) (items_at d e) ++ result_lines d level (element_at d e).result) f

-- so is the whole text
stripped_text : (file : FileNo) (d : Data) → printed_text (stripped file d) ≡ printed_text d
stripped_text file d = ap text_of (same_bodies file d (suc (length d.elements)) 0 0)

-- what is left of alike models is one
alike_stripped : (file : FileNo) (a b : Data) → AreAlike a b → stripped file a ≡ stripped file b
alike_stripped file a b h =
    ap (λ l. made file l a.elements a.items a.members a.references a.imports) h.language
    ∙ (ap (λ es. made file b.language es a.items a.members a.references a.imports) h.elements
    ∙ (ap (λ is. made file b.language b.elements is a.members a.references a.imports) h.items
    ∙ (ap (λ ms. made file b.language b.elements b.items ms a.references a.imports) h.members
    ∙ (ap (λ rs. made file b.language b.elements b.items b.members rs a.imports) h.references
    ∙ ap (λ js. made file b.language b.elements b.items b.members b.references js) h.imports))))

-- models that differ in places alone have the same canonical text
pub printed_alike : (a b : Data) → AreAlike a b → printed_text a ≡ printed_text b
printed_alike a b h =
    sym (stripped_text a.file a) ∙ (ap printed_text (alike_stripped a.file a b h) ∙ stripped_text a.file b)

-- the theorem
pub models_come_back : ModelsComeBack
models_come_back file l xs fits canonical can =
    let r = models_read_back file l xs fits canonical can in
    let text = printed_text (items_model file l xs) in
    let w = drafts_of l text r.0 r.2.forest in
    let h : AreAlike (model_of file l w) (items_model file l xs) =
    subst (λ v. AreAlike (model_of file l w) (model_of file l v)) r.2.walked (bare_alike file l w) in
    record {
      tokens = r.0;
      tree = r.2.forest;
      lexed = r.1;
      derived = r.2.derived;
      alike = h;
      again = printed_alike (model_of file l w) (items_model file l xs) h;
    }
