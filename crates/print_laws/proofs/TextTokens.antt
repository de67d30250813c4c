-- The canonical text of the model that a tree of items makes has just the tokens of the tree.
use Rattle.std.proofs.Common.{◌≡◌, ℕ, suc, ◌+◌, List, [], ◌∷◌, ◌++◌, length, refl, ap, sym, subst, ◌∙◌, append_assoc, append-nil}
use Rattle.std.specs.Prelude.{Bool, true, false, ◌&&◌, cond, codes}
use Rattle.std.specs.List.{flat_map}
use Rattle.std.proofs.lemmas.List.{length-append}
use Rattle.std.proofs.lemmas.Grind.{flat_map-append}
use Rattle.element_store.specs.declared.numbers.FileNo.{FileNo}
use Rattle.element_store.specs.declared.outcome.Language.{Language}
use Rattle.element_store.specs.declared.kind.Visibility.{Visibility}
use Rattle.element_store.specs.declared.kind.Visibility.TheVariants as visibility
use Rattle.element_store.specs.declared.lists.Item.{Item}
use Rattle.element_store.specs.declared.lists.Item.TheVariants as item
use Rattle.element_store.specs.declared.records.Member.{Member as Membership}
use Rattle.element_store.specs.Numbers.{those_where, chosen}
use Rattle.element_store.specs.Model.{Data}
use Rattle.text_model.specs.declared.draft.Draft.{Draft}
use Rattle.text_model.specs.declared.draft.DraftMember.{DraftMember}
use Rattle.text_model.specs.Numbering.{member, model_of}
use Rattle.text_model.specs.Walk.{Walk}
use Rattle.print_model.specs.Printed.{Printed, sign}
use Rattle.print_model.specs.Layout.{Line}
use Rattle.print_model.specs.Heads.{element_at, member_at, is_end, is_note, item_elements, owned_in, end_tokens, head, note_tokens, line, with_body, element_lines, target_lines, item_lines}
use Rattle.print_laws.specs.Items.{Ending, Ends, Alone, Pair, Several}
use Rattle.print_laws.specs.ItemTokens.{ending, enclosed}
use Rattle.print_laws.specs.ItemWalk.{Grown, changed_self, next_number, owned, begun, ended, end_draft, with_end, with_more_ends, with_ends}
use Rattle.print_laws.specs.Fitting.{ends_listed}
use Rattle.print_laws.proofs.Growth.{Grows, grows_then, leaf_grows, ends_grow}
use Rattle.print_laws.proofs.Views.{references_of}
use Rattle.print_laws.proofs.RunTokens.{Knows}
use Rattle.print_laws.proofs.Finals.{Final, final_before, knows, member_is, ending_is}

-- Lines.

-- the tokens of lines
abbrev pub spoken : List Line → List Printed
spoken ls = flat_map (λ (x : Line). x.tokens) ls

-- whether there are none
abbrev pub no_lines : List Line → Bool
no_lines [] = true
no_lines (x ∷ xs) = false

-- the tokens of two lists
pub spoken_append : (xs ys : List Line) → spoken (xs ++ ys) ≡ spoken xs ++ spoken ys
spoken_append xs ys = flat_map-append (λ (x : Line). x.tokens) xs ys

-- none of two lists
pub no_append : (xs ys : List Line) → no_lines (xs ++ ys) ≡ no_lines xs && no_lines ys
no_append [] ys = refl
no_append (x ∷ xs) ys = refl

-- a head with a body
pub body_spoken : (level : ℕ) (ts : List Printed) (ls : List Line) → spoken (with_body level ts ls) ≡ ts ++ enclosed (no_lines ls) (spoken ls)
body_spoken level ts [] = append-nil (ts ++ sign (codes ";") ∷ [])
body_spoken level ts (x ∷ ls) =
    ap (λ ps. (ts ++ sign (codes "{") ∷ []) ++ (x.tokens ++ ps)) (spoken_append ls (line level (sign (codes "}") ∷ []) ∷ []))
    ∙ (append_assoc ts (sign (codes "{") ∷ []) (x.tokens ++ (spoken ls ++ sign (codes "}") ∷ []))
    ∙ ap (λ ps. ts ++ (sign (codes "{") ∷ ps)) (sym (append_assoc x.tokens (spoken ls) (sign (codes "}") ∷ []))))

-- a head has a line
pub body_some : (level : ℕ) (ts : List Printed) (ls : List Line) → no_lines (with_body level ts ls) ≡ false
body_some level ts [] = refl
body_some level ts (x ∷ ls) = refl

-- Where a child stands.

-- the elements before it
abbrev pub in_front : List Draft → Draft → Grown → List Draft
in_front es y g = es ++ y ∷ g.others

-- as many as its number
pub front_long : (es : List Draft) (y : Draft) (g : Grown) (n : ℕ) → length es ≡ n → length (in_front es y g) ≡ next_number n g
front_long es y g n e = length-append es (y ∷ g.others) ∙ ap (λ k. k + suc (length g.others)) e

-- it stands behind them
child_place : (w : Walk) (es : List Draft) (y : Draft) (g h : Grown) (f : Final w es y (ended g h))
    → w.elements ≡ in_front es y g ++ h.self ∷ (h.others ++ f.elements)
child_place w es y g h f =
    f.elements_are ∙ (ap (λ xs. es ++ y ∷ xs) (append_assoc g.others (h.self ∷ h.others) f.elements)
    ∙ sym (append_assoc es (y ∷ g.others) (h.self ∷ (h.others ++ f.elements))))

-- what the model knows of it
pub child_known : (file : FileNo) (l : Language) (w : Walk) (es : List Draft) (y : Draft) (n : ℕ) (g h : Grown) → length es ≡ n → Final w es y (ended g h)
    → Knows (model_of file l w) (next_number n g) (references_of (in_front es y g)) h.self
child_known file l w es y n g h e f =
    subst (λ c. Knows (model_of file l w) c (references_of (in_front es y g)) h.self) (front_long es y g n e)
    (knows file l w (in_front es y g) h.self (h.others ++ f.elements) (child_place w es y g h f))

-- its member
pub child_member : (file : FileNo) (l : Language) (w : Walk) (es : List Draft) (y : Draft) (n : ℕ) (v : Visibility) (g h : Grown) (more : List DraftMember)
    → h.members ≡ (g.members ++ owned n v g ∷ []) ++ more → Final w es y (ended g h)
    → member_at (model_of file l w) (length g.members) ≡ member w.elements (owned n v g)
child_member file l w es y n v g h more a f =
    member_is file l w g.members (owned n v g) (more ++ f.members)
    (f.members_are ∙ (ap (λ ms. ms ++ f.members) (a ∙ append_assoc g.members (owned n v g ∷ []) more)
    ∙ append_assoc g.members (owned n v g ∷ more) f.members))

-- the same lists for the child, where its items stay as they are
pub child_final : (w : Walk) (es : List Draft) (y : Draft) (g h : Grown) (f : Draft → Draft) → (f h.self).items ≡ h.self.items → (f h.self).inner ≡ h.self.inner
    → Final w es y (ended g (changed_self f h)) → Final w (in_front es y g) (f h.self) h
child_final w es y g h f i j a = record {
  elements = a.elements;
  members = a.members;
  imports = a.imports;
  items = [];
  inner = [];
  elements_are = child_place w es y g (changed_self f h) a;
  members_are = a.members_are;
  imports_are = a.imports_are;
  items_are = i ∙ sym (append-nil h.self.items);
  inner_are = j ∙ sym (append-nil h.self.inner);
}

-- The lines of an item that owns an element.

-- those of an element, where its member is known
pub owned_lines : (file : FileNo) (l : Language) (w : Walk) (inner : ℕ → ℕ → List Line) (level n : ℕ) (v : Visibility) (g : Grown)
    → member_at (model_of file l w) (length g.members) ≡ member w.elements (owned n v g)
    → item_lines inner (model_of file l w) level (item.Member (length g.members)) ≡ element_lines inner (model_of file l w) level v (next_number n g)
owned_lines file l w inner level n v g e = ap (λ (m : Membership). target_lines inner (model_of file l w) level m m.target) e

-- and the element that it owns
pub owned_elements : (file : FileNo) (l : Language) (w : Walk) (n : ℕ) (v : Visibility) (g : Grown)
    → member_at (model_of file l w) (length g.members) ≡ member w.elements (owned n v g)
    → item_elements (model_of file l w) (item.Member (length g.members)) ≡ next_number n g ∷ []
owned_elements file l w n v g e = ap (λ (m : Membership). owned_in (model_of file l w) m.target) e

-- the elements that are ends
abbrev pub ends_among : Data → List Item → List ℕ
ends_among d is = those_where (λ c. is_end (element_at d c).kind) (flat_map (item_elements d) is)

-- those of two lists
where_append : (test : ℕ → Bool) (xs ys : List ℕ) → those_where test (xs ++ ys) ≡ those_where test xs ++ those_where test ys
where_append test [] ys = refl
where_append test (x ∷ xs) ys = ap (chosen (test x) x) (where_append test xs ys) ∙ pick (test x) x (those_where test xs) (those_where test ys)
  where
    pick : (b : Bool) (x : ℕ) (xs ys : List ℕ) → chosen b x (xs ++ ys) ≡ chosen b x xs ++ ys
    pick true x xs ys = refl
    pick false x xs ys = refl

-- ends among two lists
pub among_append : (d : Data) (xs ys : List Item) → ends_among d (xs ++ ys) ≡ ends_among d xs ++ ends_among d ys
among_append d xs ys =
    ap (those_where (λ c. is_end (element_at d c).kind)) (flat_map-append (item_elements d) xs ys)
    ∙ where_append (λ c. is_end (element_at d c).kind) (flat_map (item_elements d) xs) (flat_map (item_elements d) ys)

-- one element before others
pub among_one : (d : Data) (i : Item) (c : ℕ) (is : List Item) (b : Bool) → item_elements d i ≡ c ∷ [] → is_end (element_at d c).kind ≡ b
    → ends_among d (i ∷ is) ≡ chosen b c (ends_among d is)
among_one d i c is b e f =
    ap (λ cs. those_where (λ c. is_end (element_at d c).kind) (cs ++ flat_map (item_elements d) is)) e
    ∙ ap (λ z. chosen z c (ends_among d is)) f

-- Ends.

-- the items of ends
abbrev pub ends_items : ℕ → List Ending → Grown → List Item
ends_items n [] g = []
ends_items n (e ∷ es) g = item.Member (length g.members) ∷ ends_items n es (with_end n e g)

-- the numbers of ends
abbrev pub ends_numbers : ℕ → List Ending → Grown → List ℕ
ends_numbers n [] g = []
ends_numbers n (e ∷ es) g = next_number n g ∷ ends_numbers n es (with_end n e g)

-- ends add their items
pub ends_items_are : (n : ℕ) (es : List Ending) (g : Grown) → (with_more_ends n es g).self.items ≡ g.self.items ++ ends_items n es g
ends_items_are n [] g = sym (append-nil g.self.items)
ends_items_are n (e ∷ es) g =
    ends_items_are n es (with_end n e g) ∙ append_assoc g.self.items (item.Member (length g.members) ∷ []) (ends_items n es (with_end n e g))

-- ends grow the lists
more_grow : (n : ℕ) (es : List Ending) (g : Grown) → Grows g (with_more_ends n es g)
more_grow n [] g = ends_grow n Alone g
more_grow n (e ∷ es) g =
    grows_then g (with_end n e g) (with_more_ends n es (with_end n e g)) (leaf_grows n visibility.Public (end_draft n e) g) (more_grow n es (with_end n e g))

-- each end is printed as it was read
abbrev pub AreTold : Data → List ℕ → List Ending → Type 0
AreTold d [] [] = Unit {0}
AreTold d (c ∷ cs) (e ∷ es) = (end_tokens d c ≡ ending d.language e) × AreTold d cs es
AreTold d cs es = ⊥

-- ends have no lines, are the ends among the items, and are printed as they were read
pub record EndsAre (d : Data) (inner : ℕ → ℕ → List Line) (level n : ℕ) (es : List Ending) (g : Grown) : Type 0 where
  pub lines : flat_map (item_lines inner d level) (ends_items n es g) ≡ []
  pub numbers : ends_among d (ends_items n es g) ≡ ends_numbers n es g
  pub told : AreTold d (ends_numbers n es g) es

-- so they are
pub ends_are : (file : FileNo) (l : Language) (w : Walk) (inner : ℕ → ℕ → List Line) (level n : ℕ) (ds : List Draft) (y : Draft) (es : List Ending) (g : Grown)
    → length ds ≡ n → Final w ds y (with_more_ends n es g) → EndsAre (model_of file l w) inner level n es g
ends_are file l w inner level n ds y [] g e f = record { lines = refl; numbers = refl; told = tt }
ends_are file l w inner level n ds y (x ∷ es) g e f =
    let d = model_of file l w in
    let b = begun n visibility.Public (end_draft n x) g in
    let h = with_end n x g in
    let one = final_before w ds y h (with_more_ends n es h) (more_grow n es h) f in
    let k = child_known file l w ds y n g b e one in
    let m = child_member file l w ds y n visibility.Public g b [] (sym (append-nil b.members)) one in
    let rest = ends_are file l w inner level n ds y es h e f in
    let end : is_end (element_at d (next_number n g)).kind ≡ true = ap (λ z. is_end z.kind) k.element_is in
    record {
      lines = ap (λ ls. ls ++ flat_map (item_lines inner d level) (ends_items n es h))
          (owned_lines file l w inner level n visibility.Public g m ∙ ap (λ z. cond z [] (cond (is_note (element_at d (next_number n g)).kind)
          (line level (note_tokens d visibility.Public (next_number n g)) ∷ [])
          (with_body level (head d visibility.Public (next_number n g)) (inner (suc level) (next_number n g))))) end)
          ∙ rest.lines;
      numbers = among_one d (item.Member (length g.members)) (next_number n g) (ends_items n es h) true
          (owned_elements file l w n visibility.Public g m) end ∙ ap (λ cs. next_number n g ∷ cs) rest.numbers;
      told = (ending_is file l w (next_number n g) _ n x k, rest.told);
    }

-- the ends as a list
pub ends_as_list : (n : ℕ) (e : Ends) (g : Grown) → with_ends n e g ≡ with_more_ends n (ends_listed e) g
ends_as_list n Alone g = refl
ends_as_list n (Pair a b) g = refl
ends_as_list n (Several a b c es) g = refl
