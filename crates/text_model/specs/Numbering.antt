-- From drafts to the model: references get their numbers, element by element.
use Rattle.std.specs.Prelude.{ℕ, zero, suc, ◌+◌, Bool, nat_lt, nat_le, max, cond, Option, Some, None, List, [], ◌∷◌, ◌++◌, length, map, slice_get, slice_index_or}
use Rattle.std.specs.List.{flat_map}
use Rattle.std.specs.Option.{option_map_or}
use Rattle.element_store.specs.declared.numbers.FileNo.{FileNo}
use Rattle.element_store.specs.declared.kind.Kind.TheVariants.{Root}
use Rattle.element_store.specs.declared.outcome.Language.{Language}
use Rattle.element_store.specs.declared.outcome.Role.TheVariants as role
use Rattle.element_store.specs.declared.records.Element.{Element}
use Rattle.element_store.specs.declared.records.Member.{Member}
use Rattle.element_store.specs.declared.records.Target.TheVariants as target
use Rattle.element_store.specs.declared.records.Reference.{Reference}
use Rattle.element_store.specs.declared.records.Import.{Import}
use Rattle.element_store.specs.declared.expression.Node.{Node}
use Rattle.element_store.specs.declared.expression.Node.TheVariants as node
use Rattle.element_store.specs.declared.expression.Limit.{Limit}
use Rattle.element_store.specs.declared.expression.Limit.TheVariants as limit
use Rattle.element_store.specs.declared.expression.Bounds.{Bounds}
use Rattle.element_store.specs.Model.{Data}
use Rattle.text_model.specs.declared.draft.Mention.{Mention}
use Rattle.text_model.specs.declared.draft.What.{What}
use Rattle.text_model.specs.declared.draft.What.TheVariants as what
use Rattle.text_model.specs.declared.draft.DraftNode.{DraftNode}
use Rattle.text_model.specs.declared.draft.DraftExpr.{DraftExpr}
use Rattle.text_model.specs.declared.draft.Draft.{Draft}
use Rattle.text_model.specs.declared.draft.DraftTarget.{DraftTarget}
use Rattle.text_model.specs.declared.draft.DraftTarget.TheVariants.{Owned, Alias}
use Rattle.text_model.specs.declared.draft.DraftMember.{DraftMember}
use Rattle.text_model.specs.declared.draft.DraftImport.{DraftImport}
use Rattle.text_model.specs.Drafts.{draft, names, mentions, own_role}
use Rattle.text_model.specs.Walk.{Walk}

-- The references of an element, in the order of their numbers.

abbrev pub nodes_of : Option DraftExpr → List DraftNode
nodes_of None = []
nodes_of (Some e) = e.nodes

-- bounds have at most two ends
abbrev pub ends : List DraftNode → List DraftNode
ends [] = []
ends (a ∷ []) = a ∷ []
ends (a ∷ b ∷ ns) = a ∷ b ∷ []

-- all before those of its body's aliases and imports
abbrev pub own_mentions : Draft → List Mention
own_mentions d = mentions (own_role d.kind) d.own ++ d.specs

abbrev pub bound_mentions : Draft → List Mention
bound_mentions d = mentions role.Bound (names (ends d.bounds))

abbrev pub value_mentions : Draft → List Mention
value_mentions d = mentions role.Value (names (nodes_of d.value)) ++ mentions role.Value (names (nodes_of d.result))

abbrev pub head : Draft → List Mention
head d = own_mentions d ++ (bound_mentions d ++ value_mentions d)

abbrev pub mentions_of : Draft → List Mention
mentions_of d = head d ++ d.inner

abbrev pub width : Draft → ℕ
width d = length (mentions_of d)

abbrev pub reference : ℕ → Mention → Reference
reference e m = record {
  role = m.role;
  context = e;
  absolute = m.path.absolute;
  path = m.path.path;
  chain =
      m.path.chain;
}

abbrev pub references_from : ℕ → List Draft → List Reference
references_from e [] = []
references_from e (d ∷ ds) = map (reference e) (mentions_of d) ++ references_from (suc e) ds

abbrev pub reference_places : List Draft → List ℕ
reference_places [] = []
reference_places (d ∷ ds) = map (λ m. m.path.place) (mentions_of d) ++ reference_places ds

-- Nodes whose names have numbers from n on.

abbrev pub node_of : ℕ → What → Node
node_of n (what.Integer i) = node.Integer i
node_of n (what.Boolean b) = node.Boolean b
node_of n (what.Text bytes) = node.Text bytes
node_of n (what.Named p) = node.Named n
node_of n (what.Unary op) = node.Unary op
node_of n (what.Binary op) = node.Binary op
node_of n what.If = node.If
node_of n other = node.Null

abbrev pub after_node : ℕ → What → ℕ
after_node n (what.Named p) = suc n
after_node n other = n

abbrev pub numbered : ℕ → List DraftNode → List Node
numbered n [] = []
numbered n (d ∷ ds) = node_of n d.what ∷ numbered (after_node n d.what) ds

abbrev pub numbered_in : ℕ → Option DraftExpr → Option (List Node)
numbered_in n None = None
numbered_in n (Some e) = Some (numbered n e.nodes)

abbrev pub end_of : ℕ → What → Limit
end_of n (what.Integer i) = limit.Number i
end_of n (what.Named p) = limit.Named n
end_of n other = limit.Star

abbrev pub bounds_of : ℕ → List DraftNode → Option Bounds
bounds_of n [] = None
bounds_of n (u ∷ []) = Some (record { lower = None; upper = Some (end_of n u.what) })
bounds_of n (l ∷ u ∷ ns) = Some (record {
  lower = Some (end_of n l.what);
  upper =
      Some (end_of (after_node n l.what) u.what);
})

-- The records, where the references of an element begin at n.

abbrev pub bound_start : ℕ → Draft → ℕ
bound_start n d = n + length (own_mentions d)

abbrev pub value_start : ℕ → Draft → ℕ
value_start n d = bound_start n d + length (bound_mentions d)

abbrev pub result_start : ℕ → Draft → ℕ
result_start n d = value_start n d + length (names (nodes_of d.value))

abbrev pub element : ℕ → Draft → Element
element n d = record {
  kind = d.kind;
  owner = d.owner;
  short = d.short;
  name = d.name;
  marks = d.marks;
  body = d.body;
  locale = d.locale;
  bounds = bounds_of (bound_start n d) d.bounds;
  value = numbered_in (value_start n d) d.value;
  result = numbered_in (result_start n d) d.result;
}

abbrev pub elements_from : ℕ → List Draft → List Element
elements_from n [] = []
elements_from n (d ∷ ds) = element n d ∷ elements_from (n + width d) ds

-- where the references of the aliases and imports of an element begin
abbrev pub base_from : ℕ → List Draft → ℕ → ℕ
base_from n [] e = n
base_from n (d ∷ ds) zero = n + length (head d)
base_from n (d ∷ ds) (suc e) = base_from (n + width d) ds e

abbrev pub draft_at : List Draft → ℕ → Draft
draft_at ds e = slice_index_or ds e (draft Root None)

abbrev pub member_of : List Draft → DraftTarget → DraftMember → Member
member_of ds (Owned e) m = record {
  owner = m.owner;
  target = target.Owned e;
  short = (draft_at ds e).short;
  name = (draft_at ds e).name;
  visibility = m.visibility;
}
member_of ds (Alias k) m = record {
  owner = m.owner;
  target = target.Alias (base_from 0 ds m.owner + k);
  short = m.short;
  name = m.name;
  visibility = m.visibility;
}

abbrev pub member : List Draft → DraftMember → Member
member ds m = member_of ds m.target m

abbrev pub import_of : List Draft → DraftImport → Import
import_of ds i = record {
  owner = i.owner;
  reference = base_from 0 ds i.owner + i.at;
  star = i.star;
  recursive = i.recursive;
  all = i.all;
  visibility = i.visibility;
}

abbrev pub places_of : List DraftNode → List ℕ
places_of ns = map (λ n. n.place) ns

-- the model of a file
abbrev pub model_of : FileNo → Language → Walk → Data
model_of file language w = record {
  file = file;
  language = language;
  elements = elements_from 0 w.elements;
  items = map (λ d. d.items) w.elements;
  members = map (member w.elements) w.members;
  references = references_from 0 w.elements;
  imports = map (import_of w.elements) w.imports;
  member_places = map (λ m. m.place) w.members;
  reference_places = reference_places w.elements;
  value_places = map (λ d. places_of (nodes_of d.value)) w.elements;
  result_places = map (λ d. places_of (nodes_of d.result)) w.elements;
}

-- Limits: the places of integers above the greatest, of expressions that are too deep, and of the first reference above
-- the
-- number that a file may have.

-- the depths of the values that stand after a node, the last one first
abbrev pub depths_after : What → List ℕ → List ℕ
depths_after (what.Unary op) (a ∷ ds) = suc a ∷ ds
depths_after (what.Binary op) (b ∷ a ∷ ds) = suc (max a b) ∷ ds
depths_after what.If (c ∷ b ∷ a ∷ ds) = suc (max a (max b c)) ∷ ds
depths_after other ds = 1 ∷ ds

abbrev pub depths : List DraftNode → List ℕ → List ℕ
depths [] ds = ds
depths (n ∷ ns) ds = depths ns (depths_after n.what ds)

abbrev pub greatest : List ℕ → ℕ
greatest [] = 0
greatest (n ∷ ns) = max n (greatest ns)

abbrev pub deep_place : Option DraftExpr → List ℕ
deep_place None = []
deep_place (Some e) = cond (nat_lt 1000 (greatest (depths e.nodes []))) (e.start ∷ []) []

-- the places in rising order
abbrev pub put_in : ℕ → List ℕ → List ℕ
put_in p [] = p ∷ []
put_in p (q ∷ qs) = cond (nat_le p q) (p ∷ q ∷ qs) (q ∷ put_in p qs)

abbrev pub sorted : List ℕ → List ℕ
sorted [] = []
sorted (p ∷ ps) = put_in p (sorted ps)

-- the one before which so many stand then
abbrev pub place_over : ℕ → List ℕ → List ℕ
place_over n places = option_map_or (λ p. p ∷ []) (slice_get (sorted places) n) []

abbrev pub limits : Walk → List ℕ
limits w = w.large ++ (flat_map (λ d. deep_place d.value ++ deep_place d.result) w.elements
    ++ place_over 262144 (reference_places w.elements))

abbrev pub least : List ℕ → Option ℕ
least [] = None
least (p ∷ ps) = least_with p (least ps) where
  least_with : ℕ → Option ℕ → Option ℕ
  least_with p None = Some p
  least_with p (Some q) = cond (nat_lt q p) (Some q) (Some p)
