-- The lists as they grow are those of the model.
use Rattle.std.proofs.Common.{◌≡◌, ℕ, zero, suc, ◌+◌, List, [], ◌∷◌, ◌++◌, length, map, refl, ap, sym, ◌∙◌, append_assoc, arith, take, min}
use Rattle.std.proofs.lemmas.List.{append-nil, map-append, length-append, length-map, length-take}
use Rattle.std.specs.Prelude.{slice_get, slice_index_or}
use Rattle.element_store.specs.declared.outcome.Role.{Role}
use Rattle.element_store.specs.declared.records.Reference.{Reference}
use Rattle.element_store.specs.declared.expression.Node.{Node}
use Rattle.text_model.specs.declared.draft.Mention.{Mention}
use Rattle.text_model.specs.declared.draft.Draft.{Draft}
use Rattle.text_model.specs.declared.draft.DraftNode.{DraftNode}
use Rattle.text_model.specs.declared.draft.What.{What}
use Rattle.text_model.specs.declared.draft.What.TheVariants as what
use Rattle.text_model.specs.declared.draft.Path.{Path}
use Rattle.text_model.specs.Drafts.{mention, mentions, name_in, names}
use Rattle.text_model.specs.Numbering.{after_node, base_from, draft_at, element, elements_from, ends, head, mentions_of, node_of, nodes_of, numbered, places_of, reference, reference_places, references_from, width}
use Rattle.draft_numbers.specs.Numbered.{Lists, Refs, added, name_of, next, short_of, with_draft, with_drafts}

-- Names and nodes, one more.

pub names_append : (xs ys : List DraftNode) → names (xs ++ ys) ≡ names xs ++ names ys
names_append [] ys = refl
names_append (x ∷ xs) ys = ap (λ t. name_in x.what ++ t) (names_append xs ys) ∙ sym (append_assoc (name_in x.what) (names xs) (names ys))

pub names_push : (xs : List DraftNode) (x : DraftNode) → names (xs ++ x ∷ []) ≡ names xs ++ name_in x.what
names_push xs x = names_append xs (x ∷ []) ∙ ap (λ t. names xs ++ t) (append-nil (name_in x.what))

pub mentions_append : (r : Role) (ps qs : List Path) → mentions r (ps ++ qs) ≡ mentions r ps ++ mentions r qs
mentions_append r [] qs = refl
mentions_append r (p ∷ ps) qs = ap (λ t. mention r p ∷ t) (mentions_append r ps qs)

pub length_mentions : (r : Role) (ps : List Path) → length (mentions r ps) ≡ length ps
length_mentions r [] = refl
length_mentions r (p ∷ ps) = ap suc (length_mentions r ps)

after_is : (n k : ℕ) (w : What) → after_node n w + k ≡ n + (length (name_in w) + k)
after_is n k (what.Integer i) = omega arith
after_is n k (what.Boolean b) = omega arith
after_is n k (what.Text t) = omega arith
after_is n k what.Null = omega arith
after_is n k (what.Named p) = omega arith
after_is n k (what.Unary op) = omega arith
after_is n k (what.Binary op) = omega arith
after_is n k what.If = omega arith
after_is n k what.Star = omega arith
after_is n k what.All = omega arith
after_is n k what.Deep = omega arith

pub numbered_push : (n : ℕ) (xs : List DraftNode) (x : DraftNode) → numbered n (xs ++ x ∷ []) ≡ numbered n xs ++ node_of (n + length (names xs)) x.what ∷ []
numbered_push n [] x = let e : n ≡ n + 0 = omega arith in ap (λ m. node_of m x.what ∷ []) e
numbered_push n (y ∷ xs) x = ap (λ t. node_of n y.what ∷ t) (numbered_push (after_node n y.what) xs x
    ∙ ap (λ m. numbered (after_node n y.what) xs ++ node_of m x.what ∷ [])
    (after_is n (length (names xs)) y.what ∙ ap (λ k. n + k) (sym (length-append (name_in y.what) (names xs)))))

-- References more.

abbrev refs : List Reference → List ℕ → Refs
refs a x = record { references = a; places = x }

refs_are : (a b : List Reference) (x y : List ℕ) → a ≡ b → x ≡ y → refs a x ≡ refs b y
refs_are a b x y e d = ap (λ t. refs t x) e ∙ ap (λ t. refs b t) d

pub added_none : (e : ℕ) (r : Refs) → r ≡ added e [] r
added_none e r = refs_are r.references (r.references ++ []) r.places (r.places ++ []) (sym (append-nil r.references)) (sym (append-nil r.places))

pub added_twice : (e : ℕ) (ms ns : List Mention) (r : Refs) → added e ns (added e ms r) ≡ added e (ms ++ ns) r
added_twice e ms ns r = refs_are
    ((r.references ++ map (reference e) ms) ++ map (reference e) ns) (r.references ++ map (reference e) (ms ++ ns))
    ((r.places ++ map (λ m. m.path.place) ms) ++ map (λ m. m.path.place) ns) (r.places ++ map (λ m. m.path.place) (ms ++ ns))
    (append_assoc r.references (map (reference e) ms) (map (reference e) ns) ∙ ap (λ t. r.references ++ t) (sym (map-append (reference e) ms ns)))
    (append_assoc r.places (map (λ (m : Mention). m.path.place) ms) (map (λ (m : Mention). m.path.place) ns)
    ∙ ap (λ t. r.places ++ t) (sym (map-append (λ (m : Mention). m.path.place) ms ns)))

pub next_added : (e : ℕ) (ms : List Mention) (r : Refs) → next (added e ms r) ≡ next r + length ms
next_added e ms r = length-append r.references (map (reference e) ms) ∙ ap (λ n. next r + n) (length-map ms (reference e))

-- Drafts more.

pub with_drafts_push : (l : Lists) (ds : List Draft) (d : Draft) → with_drafts l (ds ++ d ∷ []) ≡ with_draft d (with_drafts l ds)
with_drafts_push l [] d = refl
with_drafts_push l (x ∷ ds) d = with_drafts_push (with_draft x l) ds d

pub elements_grown : (l : Lists) (ds : List Draft) → (with_drafts l ds).elements ≡ l.elements ++ elements_from (next l.refs) ds
elements_grown l [] = sym (append-nil l.elements)
elements_grown l (d ∷ ds) = elements_grown (with_draft d l) ds
    ∙ (append_assoc l.elements (element (next l.refs) d ∷ []) (elements_from (next (with_draft d l).refs) ds)
    ∙ ap (λ n. l.elements ++ element (next l.refs) d ∷ elements_from n ds) (next_added (length l.elements) (mentions_of d) l.refs))

one_longer : {A : Type 0} (xs : List A) (x : A) → length (xs ++ x ∷ []) ≡ suc (length xs)
one_longer xs x = let e : length xs + 1 ≡ suc (length xs) = omega arith in length-append xs (x ∷ []) ∙ e

pub references_grown : (l : Lists) (ds : List Draft) → (with_drafts l ds).refs.references ≡ l.refs.references ++ references_from (length l.elements) ds
references_grown l [] = sym (append-nil l.refs.references)
references_grown l (d ∷ ds) = references_grown (with_draft d l) ds
    ∙ (append_assoc l.refs.references (map (reference (length l.elements)) (mentions_of d)) (references_from (length (with_draft d l).elements) ds)
    ∙ ap (λ n. l.refs.references ++ (map (reference (length l.elements)) (mentions_of d) ++ references_from n ds))
    (one_longer l.elements (element (next l.refs) d)))

pub places_grown : (l : Lists) (ds : List Draft) → (with_drafts l ds).refs.places ≡ l.refs.places ++ reference_places ds
places_grown l [] = sym (append-nil l.refs.places)
places_grown l (d ∷ ds) = places_grown (with_draft d l) ds
    ∙ append_assoc l.refs.places (map (λ (m : Mention). m.path.place) (mentions_of d)) (reference_places ds)

pub items_grown : (l : Lists) (ds : List Draft) → (with_drafts l ds).items ≡ l.items ++ map (λ d. d.items) ds
items_grown l [] = sym (append-nil l.items)
items_grown l (d ∷ ds) = items_grown (with_draft d l) ds ∙ append_assoc l.items (d.items ∷ []) (map (λ (d : Draft). d.items) ds)

pub value_places_grown : (l : Lists) (ds : List Draft) → (with_drafts l ds).values ≡ l.values ++ map (λ d. places_of (nodes_of d.value)) ds
value_places_grown l [] = sym (append-nil l.values)
value_places_grown l (d ∷ ds) = value_places_grown (with_draft d l) ds
    ∙ append_assoc l.values (places_of (nodes_of d.value) ∷ []) (map (λ (d : Draft). places_of (nodes_of d.value)) ds)

pub result_places_grown : (l : Lists) (ds : List Draft) → (with_drafts l ds).results ≡ l.results ++ map (λ d. places_of (nodes_of d.result)) ds
result_places_grown l [] = sym (append-nil l.results)
result_places_grown l (d ∷ ds) = result_places_grown (with_draft d l) ds
    ∙ append_assoc l.results (places_of (nodes_of d.result) ∷ []) (map (λ (d : Draft). places_of (nodes_of d.result)) ds)

-- where the references of the aliases and imports of each begin, and where all end
abbrev pub bases_from : ℕ → List Draft → List ℕ
bases_from n [] = []
bases_from n (d ∷ ds) = (n + length (head d)) ∷ bases_from (n + width d) ds

abbrev pub end_from : ℕ → List Draft → ℕ
end_from n [] = n
end_from n (d ∷ ds) = end_from (n + width d) ds

pub bases_grown : (l : Lists) (ds : List Draft) → (with_drafts l ds).bases ≡ l.bases ++ bases_from (next l.refs) ds
bases_grown l [] = sym (append-nil l.bases)
bases_grown l (d ∷ ds) = bases_grown (with_draft d l) ds
    ∙ (append_assoc l.bases ((next l.refs + length (head d)) ∷ []) (bases_from (next (with_draft d l).refs) ds)
    ∙ ap (λ n. l.bases ++ (next l.refs + length (head d)) ∷ bases_from n ds) (next_added (length l.elements) (mentions_of d) l.refs))

pub end_grown : (l : Lists) (ds : List Draft) → next (with_drafts l ds).refs ≡ end_from (next l.refs) ds
end_grown l [] = refl
end_grown l (d ∷ ds) = end_grown (with_draft d l) ds ∙ ap (λ n. end_from n ds) (next_added (length l.elements) (mentions_of d) l.refs)

pub base_at : (n : ℕ) (ds : List Draft) (e : ℕ) → slice_index_or (bases_from n ds) e (end_from n ds) ≡ base_from n ds e
base_at n [] e = refl
base_at n (d ∷ ds) zero = refl
base_at n (d ∷ ds) (suc e) = base_at (n + width d) ds e

pub short_at : (n : ℕ) (ds : List Draft) (e : ℕ) → short_of (slice_get (elements_from n ds) e) ≡ (draft_at ds e).short
short_at n [] e = refl
short_at n (d ∷ ds) zero = refl
short_at n (d ∷ ds) (suc e) = short_at (n + width d) ds e

pub name_at : (n : ℕ) (ds : List Draft) (e : ℕ) → name_of (slice_get (elements_from n ds) e) ≡ (draft_at ds e).name
name_at n [] e = refl
name_at n (d ∷ ds) zero = refl
name_at n (d ∷ ds) (suc e) = name_at (n + width d) ds e

-- names, mentions and nodes in a loop
pub paths_more : (e : ℕ) (r : Role) (ys : List Path) (p : Path) (base now : Refs) → now ≡ added e (mentions r ys) base
    → added e (mention r p ∷ []) now ≡ added e (mentions r (ys ++ p ∷ [])) base
paths_more e r ys p base now so_far = ap (added e (mention r p ∷ [])) so_far
    ∙ (added_twice e (mentions r ys) (mention r p ∷ []) base ∙ ap (λ ms. added e ms base) (sym (mentions_append r ys (p ∷ []))))

pub mentions_more : (e : ℕ) (ys : List Mention) (m : Mention) (base now : Refs) → now ≡ added e ys base
    → added e (m ∷ []) now ≡ added e (ys ++ m ∷ []) base
mentions_more e ys m base now so_far = ap (added e (m ∷ [])) so_far ∙ added_twice e ys (m ∷ []) base

pub nodes_more : (e : ℕ) (r : Role) (ys : List DraftNode) (x : DraftNode) (base now : Refs) → now ≡ added e (mentions r (names ys)) base
    → added e (mentions r (name_in x.what)) now ≡ added e (mentions r (names (ys ++ x ∷ []))) base
nodes_more e r ys x base now so_far = ap (added e (mentions r (name_in x.what))) so_far
    ∙ (added_twice e (mentions r (names ys)) (mentions r (name_in x.what)) base
    ∙ ap (λ ms. added e ms base) (sym (mentions_append r (names ys) (name_in x.what)) ∙ ap (mentions r) (sym (names_push ys x))))

-- the number of the next reference, where the names of nodes are behind it
pub next_after : (e : ℕ) (r : Role) (ys : List DraftNode) (base now : Refs) → now ≡ added e (mentions r (names ys)) base
    → next now ≡ next base + length (names ys)
next_after e r ys base now so_far = ap next so_far ∙ (next_added e (mentions r (names ys)) base ∙ ap (λ n. next base + n) (length_mentions r (names ys)))

pub expr_more : (e : ℕ) (r : Role) (ys : List DraftNode) (x : DraftNode) (base now : Refs) (expr : List Node) (n : Node)
    → now ≡ added e (mentions r (names ys)) base → expr ≡ numbered (next base) ys → n ≡ node_of (next now) x.what
    → expr ++ n ∷ [] ≡ numbered (next base) (ys ++ x ∷ [])
expr_more e r ys x base now expr n so_far is node =
    ap (λ t. t ++ n ∷ []) is
    ∙ (ap (λ m. numbered (next base) ys ++ m ∷ []) (node ∙ ap (λ k. node_of k x.what) (next_after e r ys base now so_far))
    ∙ sym (numbered_push (next base) ys x))

-- two ends at most

ends_are : (ns : List DraftNode) → ends ns ≡ take 2 ns
ends_are [] = refl
ends_are (a ∷ []) = refl
ends_are (a ∷ b ∷ ns) = refl

pub two_are : (ns rest : List DraftNode) (a b : DraftNode) → take 2 ns ≡ (rest ++ a ∷ []) ++ b ∷ [] → ends ns ≡ a ∷ b ∷ []
two_are ns [] a b e = ends_are ns ∙ e
two_are ns (x ∷ xs) a b e =
    let long : length (take 2 ns) ≡ suc (length xs + 1) + 1 =
    ap length e ∙ (length-append ((x ∷ xs) ++ a ∷ []) (b ∷ []) ∙ ap (λ n. suc n + 1) (length-append xs (a ∷ []))) in
    let short : length (take 2 ns) ≡ min 2 (length ns) = length-take 2 ns in
    absurd (omega arith)

-- references by parts

pub then_added : (e : ℕ) (ms ns : List Mention) (r0 r1 r2 : Refs) → r1 ≡ added e ms r0 → r2 ≡ added e ns r1 → r2 ≡ added e (ms ++ ns) r0
then_added e ms ns r0 r1 r2 a b = b ∙ (ap (added e ns) a ∙ added_twice e ms ns r0)

pub two_added : (e : ℕ) (r : Role) (ns : List DraftNode) (a b : DraftNode) (r0 r1 r2 : Refs) → ends ns ≡ a ∷ b ∷ []
    → r1 ≡ added e (mentions r (name_in a.what)) r0 → r2 ≡ added e (mentions r (name_in b.what)) r1 → r2 ≡ added e (mentions r (names (ends ns))) r0
two_added e r ns a b r0 r1 r2 is one two =
    then_added e (mentions r (name_in a.what)) (mentions r (name_in b.what)) r0 r1 r2 one two
    ∙ ap (λ ms. added e ms r0) (sym (mentions_append r (name_in a.what) (name_in b.what))
    ∙ ap (mentions r) (ap (λ t. name_in a.what ++ t) (sym (append-nil (name_in b.what))) ∙ ap names (sym is)))
