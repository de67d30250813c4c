-- The references of one draft, part by part, and where each part begins.
use Rattle.std.proofs.Common.{◌≡◌, ℕ, ◌+◌, ◌++◌, List, length, ap, ◌∙◌}
use Rattle.std.specs.Prelude.{Option}
use Rattle.element_store.specs.declared.records.Element.{Element}
use Rattle.element_store.specs.declared.expression.Node.{Node}
use Rattle.element_store.specs.declared.expression.Bounds.{Bounds}
use Rattle.element_store.specs.declared.lists.Item.{Item}
use Rattle.text_model.specs.declared.draft.Draft.{Draft}
use Rattle.text_model.specs.Drafts.{names}
use Rattle.text_model.specs.Numbering.{bound_mentions, bound_start, bounds_of, element, head, nodes_of, numbered_in, own_mentions, places_of, value_mentions, value_start}
use Rattle.draft_numbers.specs.declared.numbering.Parts.{Parts}
use Rattle.draft_numbers.specs.Numbered.{ArePartsOf, Lists, Refs, added, next, with_draft, with_element, with_parts, with_places, with_references}
use Rattle.draft_numbers.proofs.Grown.{next_added, then_added}

pub bounds_begin : (e : ℕ) (d : Draft) (r0 r2 : Refs) → r2 ≡ added e (own_mentions d) r0 → next r2 ≡ bound_start (next r0) d
bounds_begin e d r0 r2 own = ap next own ∙ next_added e (own_mentions d) r0

pub values_begin : (e : ℕ) (d : Draft) (r0 r2 r3 : Refs) → r2 ≡ added e (own_mentions d) r0 → r3 ≡ added e (bound_mentions d) r2
    → next r3 ≡ value_start (next r0) d
values_begin e d r0 r2 r3 own bounds =
    ap next bounds ∙ (next_added e (bound_mentions d) r2 ∙ ap (λ n. n + length (bound_mentions d)) (bounds_begin e d r0 r2 own))

pub headed : (e : ℕ) (d : Draft) (r0 r2 r3 r5 : Refs) → r2 ≡ added e (own_mentions d) r0 → r3 ≡ added e (bound_mentions d) r2
    → r5 ≡ added e (value_mentions d) r3 → r5 ≡ added e (head d) r0
headed e d r0 r2 r3 r5 own bounds values =
    then_added e (own_mentions d) (bound_mentions d ++ value_mentions d) r0 r2 r5 own
    (then_added e (bound_mentions d) (value_mentions d) r2 r3 r5 bounds values)

pub inner_begins : (e : ℕ) (d : Draft) (r0 r5 : Refs) → r5 ≡ added e (head d) r0 → next r5 ≡ next r0 + length (head d)
inner_begins e d r0 r5 h = ap next h ∙ next_added e (head d) r0

-- the element with these bounds and expressions
abbrev pub element_as : Draft → Option Bounds → Option (List Node) → Option (List Node) → Element
element_as d b v r = record {
  kind = d.kind;
  owner = d.owner;
  short = d.short;
  name = d.name;
  marks = d.marks;
  body = d.body;
  locale = d.locale;
  bounds = b;
  value = v;
  result = r;
}

-- the element is that of the model, where its parts begin there
pub element_is : (n : ℕ) (d : Draft) (n2 n3 : ℕ) (b : Option Bounds) (v r : Option (List Node)) → n2 ≡ bound_start n d → n3 ≡ value_start n d
    → b ≡ bounds_of n2 d.bounds → v ≡ numbered_in n3 d.value → r ≡ numbered_in (n3 + length (names (nodes_of d.value))) d.result
    → element_as d b v r ≡ element n d
element_is n d n2 n3 b v r two three bs vs rs =
    ap (λ x. element_as d x v r) (bs ∙ ap (λ k. bounds_of k d.bounds) two)
    ∙ (ap (λ x. element_as d (bounds_of (bound_start n d) d.bounds) x r) (vs ∙ ap (λ k. numbered_in k d.value) three)
    ∙ ap (λ x. element_as d (bounds_of (bound_start n d) d.bounds) (numbered_in (value_start n d) d.value) x)
    (rs ∙ ap (λ k. numbered_in (k + length (names (nodes_of d.value))) d.result) three))

-- the element that comes of these, and its items, where the references of its aliases and imports begin, and its places
abbrev pub with_these : Element → List Item → ℕ → List ℕ → List ℕ → Lists → Lists
with_these e is b vs rs l = with_places vs rs (with_element e is b l)

-- the parts of a draft, behind its references, are what comes next
pub draft_taken : (l : Lists) (d : Draft) (p : Parts) → ArePartsOf l d p → with_parts p (with_references d l) ≡ with_draft d l
draft_taken l d p a =
    let m = with_references d l in
    ap (λ x. with_these x p.items p.base p.values.items p.results.items m) a.element
    ∙ (ap (λ x. with_these (element (next l.refs) d) x p.base p.values.items p.results.items m) a.items
    ∙ (ap (λ x. with_these (element (next l.refs) d) d.items x p.values.items p.results.items m) a.base
    ∙ (ap (λ x. with_these (element (next l.refs) d) d.items (next l.refs + length (head d)) x p.results.items m) a.values
    ∙ ap (λ x. with_these (element (next l.refs) d) d.items (next l.refs + length (head d)) (places_of (nodes_of d.value)) x m) a.results)))
