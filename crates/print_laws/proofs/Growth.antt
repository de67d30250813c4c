-- The lists grow at their ends as a body is read, and the final lists begin with what they were at each time.
use Rattle.std.proofs.Common.{◌≡◌, ℕ, List, [], ◌∷◌, ◌++◌, length, refl, ap, sym, ◌∙◌, append_assoc, append-nil}
use Rattle.std.specs.Prelude.{Option}
use Rattle.element_store.specs.declared.kind.Visibility.{Visibility}
use Rattle.element_store.specs.declared.kind.Visibility.TheVariants as visibility
use Rattle.element_store.specs.declared.lists.Item.{Item}
use Rattle.element_store.specs.declared.lists.Item.TheVariants as item
use Rattle.element_store.specs.declared.outcome.Role.TheVariants as role
use Rattle.text_model.specs.declared.draft.Draft.{Draft}
use Rattle.text_model.specs.declared.draft.DraftMember.{DraftMember}
use Rattle.text_model.specs.declared.draft.DraftImport.{DraftImport}
use Rattle.text_model.specs.declared.draft.Mention.{Mention}
use Rattle.text_model.specs.Drafts.{mention}
use Rattle.print_model.specs.Trees.{Tree}
use Rattle.print_laws.specs.Items.{Importing, Aliasing, Thing, Ending, Ends, Alone, Pair, Several, Items, Empty, Import, Alias, Note, Member}
use Rattle.print_laws.specs.ItemWalk.{Grown, changed_self, next_number, owned, begun, ended, path, end_draft, with_end, with_more_ends, with_ends, with_import, with_alias, note_draft, thing_draft, names_in, ends_in, with_names, with_result, grow}

-- the open element with more items and more inner names
abbrev pub with_more : List Item → List Mention → Draft → Draft
with_more is ms d = record d { items = d.items ++ is; inner = d.inner ++ ms }

-- all lists grow at their ends, and nothing else changes
pub record Grows (g h : Grown) : Type 0 where
  pub others : List Draft
  pub members : List DraftMember
  pub imports : List DraftImport
  pub items : List Item
  pub inner : List Mention
  pub others_are : h.others ≡ g.others ++ others
  pub members_are : h.members ≡ g.members ++ members
  pub imports_are : h.imports ≡ g.imports ++ imports
  pub self_is : h.self ≡ with_more items inner g.self

-- a list grows by nothing
grows_none : (g : Grown) → Grows g g
grows_none g = record {
  others = [];
  members = [];
  imports = [];
  items = [];
  inner = [];
  others_are = sym (append-nil g.others);
  members_are = sym (append-nil g.members);
  imports_are = sym (append-nil g.imports);
  self_is = ap (λ xs. record g.self { items = xs }) (sym (append-nil g.self.items))
      ∙ ap (λ ms. record g.self { items = g.self.items ++ []; inner = ms }) (sym (append-nil g.self.inner));
}

-- one growth behind another
behind_both : {A : Type 0} (a b c xs ys : List A) → b ≡ a ++ xs → c ≡ b ++ ys → c ≡ a ++ (xs ++ ys)
behind_both a b c xs ys e f = f ∙ (ap (λ zs. zs ++ ys) e ∙ append_assoc a xs ys)

-- growth upon growth
pub grows_then : (g h k : Grown) → Grows g h → Grows h k → Grows g k
grows_then g h k a b = record {
  others = a.others ++ b.others;
  members = a.members ++ b.members;
  imports = a.imports ++ b.imports;
  items = a.items ++ b.items;
  inner = a.inner ++ b.inner;
  others_are = behind_both g.others h.others k.others a.others b.others a.others_are b.others_are;
  members_are = behind_both g.members h.members k.members a.members b.members a.members_are b.members_are;
  imports_are = behind_both g.imports h.imports k.imports a.imports b.imports a.imports_are b.imports_are;
  self_is = b.self_is ∙ (ap (with_more b.items b.inner) a.self_is
      ∙ (ap (λ xs. record g.self { items = xs; inner = (g.self.inner ++ a.inner) ++ b.inner }) (append_assoc g.self.items a.items b.items)
      ∙ ap (λ ms. record g.self { items = g.self.items ++ (a.items ++ b.items); inner = ms }) (append_assoc g.self.inner a.inner b.inner)));
}

-- an import grows them
pub import_grows : (n : ℕ) (v : Visibility) (i : Importing) (g : Grown) → Grows g (with_import n v i g)
import_grows n v i g = record {
  others = [];
  members = [];
  imports = _;
  items = item.Import (length g.imports) ∷ [];
  inner = mention role.Import (path i.name) ∷ [];
  others_are = sym (append-nil g.others);
  members_are = sym (append-nil g.members);
  imports_are = refl;
  self_is = refl;
}

-- so does an alias
pub alias_grows : (n : ℕ) (v : Visibility) (a : Aliasing) (g : Grown) → Grows g (with_alias n v a g)
alias_grows n v a g = record {
  others = [];
  members = _;
  imports = [];
  items = item.Member (length g.members) ∷ [];
  inner = mention role.Alias (path a.target) ∷ [];
  others_are = sym (append-nil g.others);
  members_are = refl;
  imports_are = sym (append-nil g.imports);
  self_is = refl;
}

-- an element that was begun and grew
pub child_grows : (n : ℕ) (v : Visibility) (d : Draft) (f : Draft → Draft) (g h : Grown) → Grows (begun n v d g) h → Grows g (ended g (changed_self f h))
child_grows n v d f g h a = record {
  others = f h.self ∷ h.others;
  members = owned n v g ∷ a.members;
  imports = a.imports;
  items = item.Member (length g.members) ∷ [];
  inner = [];
  others_are = refl;
  members_are = a.members_are ∙ append_assoc g.members (owned n v g ∷ []) a.members;
  imports_are = a.imports_are;
  self_is = ap (λ ms. record g.self { items = g.self.items ++ item.Member (length g.members) ∷ []; inner = ms }) (sym (append-nil g.self.inner));
}

-- one with nothing in it
pub leaf_grows : (n : ℕ) (v : Visibility) (d : Draft) (g : Grown) → Grows g (ended g (begun n v d g))
leaf_grows n v d g = child_grows n v d (λ x. x) g (begun n v d g) (grows_none (begun n v d g))

-- so do ends
more_ends_grow : (n : ℕ) (es : List Ending) (g : Grown) → Grows g (with_more_ends n es g)
more_ends_grow n [] g = grows_none g
more_ends_grow n (e ∷ es) g =
    grows_then g (with_end n e g) (with_more_ends n es (with_end n e g)) (leaf_grows n visibility.Public (end_draft n e) g)
    (more_ends_grow n es (with_end n e g))

-- all ends of a connector
pub ends_grow : (n : ℕ) (e : Ends) (g : Grown) → Grows g (with_ends n e g)
ends_grow n Alone g = grows_none g
ends_grow n (Pair a b) g = more_ends_grow n (a ∷ b ∷ []) g
ends_grow n (Several a b c es) g = more_ends_grow n (a ∷ b ∷ c ∷ es) g

-- what becomes of an element that is open when it ends
abbrev pub closing : Thing → Option Tree → Draft → Draft
closing t result d = with_names (names_in t) (with_result result d)

-- the items of a body grow the lists
pub items_grow : (n : ℕ) (xs : Items) (g : Grown) → Grows g (grow n xs g)
items_grow n Empty g = grows_none g
items_grow n (Import v i xs) g =
    grows_then g (with_import n v i g) (grow n xs (with_import n v i g)) (import_grows n v i g) (items_grow n xs (with_import n v i g))
items_grow n (Alias v a xs) g =
    grows_then g (with_alias n v a g) (grow n xs (with_alias n v a g)) (alias_grows n v a g) (items_grow n xs (with_alias n v a g))
items_grow n (Note v x xs) g =
    let h = ended g (begun n v (note_draft n x) g) in grows_then g h (grow n xs h) (leaf_grows n v (note_draft n x) g) (items_grow n xs h)
items_grow n (Member v t body result xs) g =
    let c = next_number n g in
    let b = begun n v (thing_draft n t) g in
    let w = with_ends c (ends_in t) b in
    let h = ended g (changed_self (closing t result) (grow c body w)) in
    grows_then g h (grow n xs h)
    (child_grows n v (thing_draft n t) (closing t result) g (grow c body w) (grows_then b w (grow c body w) (ends_grow c (ends_in t) b) (items_grow c body w)))
    (items_grow n xs h)
