-- The canonical text of the model that a canonical tree makes has the tokens of the tree: the theorem.
use Rattle.std.proofs.Common.{◌≡◌, ℕ, zero, suc, ◌+◌, List, [], ◌∷◌, ◌++◌, length, refl, ap, sym, subst, ◌∙◌, ◌≤◌, arith, append_assoc, append-nil}
use Rattle.std.specs.Prelude.{Option, Some, None, Bool, true, false, ◌&&◌, cond, map}
use Rattle.std.specs.List.{flat_map}
use Rattle.std.proofs.lemmas.List.{length-append}
use Rattle.std.proofs.lemmas.Grind.{flat_map-append}
use Rattle.element_store.specs.declared.numbers.FileNo.{FileNo}
use Rattle.element_store.specs.declared.outcome.Language.{Language}
use Rattle.element_store.specs.declared.outcome.Language.TheVariants.{Kerml, Sysml}
use Rattle.element_store.specs.declared.outcome.Role.TheVariants as role
use Rattle.element_store.specs.declared.kind.Visibility.{Visibility}
use Rattle.element_store.specs.declared.lists.Item.{Item}
use Rattle.element_store.specs.declared.lists.Item.TheVariants as item
use Rattle.element_store.specs.declared.records.Element.{Element}
use Rattle.element_store.specs.declared.records.Member.{Member as Membership}
use Rattle.element_store.specs.Numbers.{those_where}
use Rattle.element_store.specs.Model.{Data}
use Rattle.text_model.specs.declared.draft.Draft.{Draft}
use Rattle.text_model.specs.declared.draft.DraftMember.{DraftMember}
use Rattle.text_model.specs.declared.draft.DraftImport.{DraftImport}
use Rattle.text_model.specs.declared.draft.DraftTarget.TheVariants.{Alias as Aliased}
use Rattle.text_model.specs.Drafts.{mention}
use Rattle.text_model.specs.Numbering.{elements_from, width, member, base_from, import_of, numbered_in, result_start, model_of}
use Rattle.text_model.specs.Walk.{Walk}
use Rattle.print_model.specs.Printed.{Printed, word, heard}
use Rattle.print_model.specs.Trees.{Tree, printed}
use Rattle.print_model.specs.Layout.{Line}
use Rattle.print_model.specs.Heads.{printed_text, element_at, items_at, is_specialisation, is_end, is_note, item_elements, ends_of, ends_tokens, head, note_tokens, import_tokens, line, with_body, result_lines, visibility_word, member_visibility, owned_in, path_at, target_lines, item_lines, body_lines}
use Rattle.print_model.proofs.LineChains.{written_texts_lex}
use Rattle.print_laws.specs.Items as items
use Rattle.print_laws.specs.Items.{Ending, Ends, Alone, Importing, Aliasing, Noting, Documentation, Comment, Thing, Items, Empty, Import, Alias, Note, Member}
use Rattle.print_laws.specs.ItemTokens.{importing, aliasing, noting, thing, is_bare, enclosed, resulting, tokens}
use Rattle.print_laws.specs.ItemWalk.{Grown, changed_self, next_number, begun, ended, result_of, with_end, with_more_ends, with_ends, with_import, with_alias, note_draft, thing_draft, ends_in, grow, path}
use Rattle.print_laws.specs.Fitting.{Place, Anywhere, Enumerating, Calculating, Requiring, StandsIn, place_in, ends_listed, runs_in, AreFitting, AreParted, AreCanonical}
use Rattle.print_laws.specs.ItemsReadBack.{rooted, items_walk}
use Rattle.print_laws.specs.ModelsReadBack.{items_model, ModelsArePrinted, ModelsReadBack}
use Rattle.print_laws.proofs.Bodies.{HasPlace}
use Rattle.print_laws.proofs.ItemLaws.{anywhere, place_of, items_read_back}
use Rattle.print_laws.proofs.Growth.{Grows, closing, grows_then, ends_grow, items_grow}
use Rattle.print_laws.proofs.Views.{references_of, mentions_in}
use Rattle.print_laws.proofs.RunTokens.{Knows}
use Rattle.print_laws.proofs.ElementTokens.{in_append, result_is}
use Rattle.print_laws.proofs.HeadTokens.{HasThing, head_is, whole_draft}
use Rattle.print_laws.proofs.Finals.{Final, final_before, knows, member_is, import_is, inner_path, note_is, alias_is, import_are}
use Rattle.print_laws.proofs.TextTokens.{spoken, no_lines, spoken_append, no_append, body_spoken, body_some, in_front, front_long, child_known, child_member, child_final, owned_lines, owned_elements, ends_among, among_append, among_one, ends_items, ends_numbers, ends_items_are, ends_are, ends_as_list}
use Rattle.print_laws.proofs.ThingFacts.{is_begun, is_other, ends_text_is}

-- the items that a body adds
abbrev items_of : ℕ → Items → Grown → List Item
items_of n Empty g = []
items_of n (Import v i xs) g = item.Import (length g.imports) ∷ items_of n xs (with_import n v i g)
items_of n (Alias v a xs) g = item.Member (length g.members) ∷ items_of n xs (with_alias n v a g)
items_of n (Note v x xs) g = item.Member (length g.members) ∷ items_of n xs (ended g (begun n v (note_draft n x) g))
items_of n (Member v t body result xs) g =
    item.Member (length g.members) ∷ items_of n xs (ended g (changed_self (closing t result)
    (grow (next_number n g) body (with_ends (next_number n g) (ends_in t) (begun n v (thing_draft n t) g)))))

-- a body adds its items
items_of_are : (n : ℕ) (xs : Items) (g : Grown) → (grow n xs g).self.items ≡ g.self.items ++ items_of n xs g
items_of_are n Empty g = sym (append-nil g.self.items)
items_of_are n (Import v i xs) g =
    items_of_are n xs (with_import n v i g) ∙ append_assoc g.self.items (item.Import (length g.imports) ∷ []) (items_of n xs (with_import n v i g))
items_of_are n (Alias v a xs) g =
    items_of_are n xs (with_alias n v a g) ∙ append_assoc g.self.items (item.Member (length g.members) ∷ []) (items_of n xs (with_alias n v a g))
items_of_are n (Note v x xs) g =
    let h = ended g (begun n v (note_draft n x) g) in
    items_of_are n xs h ∙ append_assoc g.self.items (item.Member (length g.members) ∷ []) (items_of n xs h)
items_of_are n (Member v t body result xs) g =
    let h = ended g (changed_self (closing t result)
    (grow (next_number n g) body (with_ends (next_number n g) (ends_in t) (begun n v (thing_draft n t) g)))) in
    items_of_are n xs h ∙ append_assoc g.self.items (item.Member (length g.members) ∷ []) (items_of n xs h)

-- no name of an alias or an import is a specialisation
inner_none : (n : ℕ) (xs : Items) (g : Grown) → mentions_in is_specialisation g.self.inner ≡ [] → mentions_in is_specialisation (grow n xs g).self.inner ≡ []
inner_none n Empty g h = h
inner_none n (Import v i xs) g h =
    inner_none n xs (with_import n v i g) (in_append is_specialisation g.self.inner (mention role.Import (path i.name) ∷ []) ∙ (append-nil _ ∙ h))
inner_none n (Alias v a xs) g h =
    inner_none n xs (with_alias n v a g) (in_append is_specialisation g.self.inner (mention role.Alias (path a.target) ∷ []) ∙ (append-nil _ ∙ h))
inner_none n (Note v x xs) g h = inner_none n xs (ended g (begun n v (note_draft n x) g)) h
inner_none n (Member v t body result xs) g h = inner_none n xs (ended g (changed_self (closing t result)
    (grow (next_number n g) body (with_ends (next_number n g) (ends_in t) (begun n v (thing_draft n t) g))))) h

-- ends have no such names
ends_inner : (n : ℕ) (es : List Ending) (g : Grown) → (with_more_ends n es g).self.inner ≡ g.self.inner
ends_inner n [] g = refl
ends_inner n (e ∷ es) g = ends_inner n es (with_end n e g)

-- bodies nest at most so deep
abbrev AreWithin : ℕ → Items → Type 0
AreWithin steps Empty = Unit {0}
AreWithin steps (Import v i xs) = AreWithin steps xs
AreWithin steps (Alias v a xs) = AreWithin steps xs
AreWithin steps (Note v x xs) = AreWithin steps xs
AreWithin zero (Member v t body result xs) = ⊥
AreWithin (suc steps) (Member v t body result xs) = AreWithin steps body × AreWithin (suc steps) xs

-- the language has all things of the tree
abbrev HasThings : Language → Items → Type 0
HasThings l Empty = Unit {0}
HasThings l (Import v i xs) = HasThings l xs
HasThings l (Alias v a xs) = HasThings l xs
HasThings l (Note v x xs) = HasThings l xs
HasThings l (Member v t body result xs) = HasThing l t × HasThings l body × HasThings l xs

-- a tree without items
abbrev is_none : Items → Bool
is_none Empty = true
is_none other = false

-- lines have the tokens of items
record AreSpoken (l : Language) (xs : Items) (ls : List Line) : Type 0 where
  tokens_are : spoken ls ≡ tokens l xs
  some : no_lines ls ≡ is_none xs

-- one more item, with the lines of one
one_more : (ls ms : List Line) (ts us : List Printed) → spoken ls ≡ ts → no_lines ls ≡ false → spoken ms ≡ us
    → (spoken (ls ++ ms) ≡ ts ++ us) × (no_lines (ls ++ ms) ≡ false)
one_more ls ms ts us e s f =
    (spoken_append ls ms ∙ (ap (λ ps. ps ++ spoken ms) e ∙ ap (λ ps. ts ++ ps) f), no_append ls ms ∙ ap (λ b. b && no_lines ms) s)

-- the lines of a body's items
abbrev lines_of : Data → ℕ → ℕ → List Item → List Line
lines_of d steps level is = flat_map (item_lines (λ k c. body_lines steps d k c) d level) is

-- what is said of the items of a body
record ItemsTold (d : Data) (steps level : ℕ) (xs : Items) (is : List Item) : Type 0 where
  spoken_are : AreSpoken d.language xs (lines_of d steps level is)
  no_ends : ends_among d is ≡ []

-- the result behind them
result_told : (d : Data) (c s level : ℕ) (x : Draft) → Knows d c s x → (ls : List Line) (body : Items) (result : Option Tree) → AreSpoken d.language body ls
    → x.result ≡ result_of result None
    → (spoken (ls ++ result_lines d level (element_at d c).result) ≡ tokens d.language body ++ resulting d.language result)
    × (no_lines (ls ++ result_lines d level (element_at d c).result) ≡ is_bare body result)
result_told d c s level x k ls body None a e =
    let r : result_lines d level (element_at d c).result ≡ [] =
    ap (λ (y : Element). result_lines d level y.result) k.element_is ∙ ap (λ z. result_lines d level (numbered_in (result_start s x) z)) e in (
      ap (λ ms. spoken (ls ++ ms)) r ∙ (spoken_append ls [] ∙ ap (λ ts. ts ++ []) a.tokens_are),
      ap (λ ms. no_lines (ls ++ ms)) r ∙ (ap no_lines (append-nil ls) ∙ (a.some ∙ bare_none body)),
    )
  where
    bare_none : (xs : Items) → is_none xs ≡ is_bare xs None
    bare_none Empty = refl
    bare_none (Import v i xs) = refl
    bare_none (Alias v i xs) = refl
    bare_none (Note v i xs) = refl
    bare_none (Member v t b r xs) = refl
result_told d c s level x k ls body (Some t) a e =
    let q = result_is d c s x k t e in
    let r : result_lines d level (element_at d c).result ≡ line level (printed d.language t) ∷ [] =
    ap (λ (y : Element). result_lines d level y.result) k.element_is
    ∙ (ap (result_lines d level) q.0 ∙ ap (λ ts. line level ts ∷ []) q.1) in (
      ap (λ ms. spoken (ls ++ ms)) r
          ∙ (spoken_append ls (line level (printed d.language t) ∷ []) ∙ (ap (λ ts. ts ++ (printed d.language t ++ [])) a.tokens_are
          ∙ ap (λ ts. tokens d.language body ++ ts) (append-nil (printed d.language t)))),
      ap (λ ms. no_lines (ls ++ ms)) r ∙ (no_append ls (line level (printed d.language t) ∷ []) ∙ (never (no_lines ls) ∙ sym (bare_some body t))),
    )
  where
    never : (b : Bool) → b && false ≡ false
    never true = refl
    never false = refl

    bare_some : (xs : Items) (t : Tree) → is_bare xs (Some t) ≡ false
    bare_some Empty t = refl
    bare_some (Import v i xs) t = refl
    bare_some (Alias v i xs) t = refl
    bare_some (Note v i xs) t = refl
    bare_some (Member v u b r xs) t = refl

-- one item with its lines, and the others
cons_told : (d : Data) (steps level : ℕ) (i : Item) (is : List Item) (ls : List Line) (ts : List Printed) (xs whole : Items)
    → item_lines (λ k c. body_lines steps d k c) d level i ≡ ls → spoken ls ≡ ts → no_lines ls ≡ false
    → AreSpoken d.language xs (lines_of d steps level is) → tokens d.language whole ≡ ts ++ tokens d.language xs → is_none whole ≡ false
    → AreSpoken d.language whole (lines_of d steps level (i ∷ is))
cons_told d steps level i is ls ts xs whole e s n a t b =
    let ms = lines_of d steps level is in
    let both = one_more ls ms ts (tokens d.language xs) s n a.tokens_are in
    record {
      tokens_are = ap (λ ys. spoken (ys ++ ms)) e ∙ (both.0 ∙ sym t);
      some = ap (λ ys. no_lines (ys ++ ms)) e ∙ (both.1 ∙ sym b);
    }

-- an import
import_told : (file : FileNo) (l : Language) (w : Walk) (inner : ℕ → ℕ → List Line) (level n : ℕ) (es : List Draft) (y : Draft) (v : Visibility) (x : Importing)
    (g : Grown) → length es ≡ n → Final w es y (with_import n v x g)
    → item_lines inner (model_of file l w) level (item.Import (length g.imports)) ≡ line level (word l (visibility_word v) ∷ importing l x) ∷ []
import_told file l w inner level n es y v x g e f =
    let d = model_of file l w in
    let i : DraftImport = record { owner = n; at = length g.self.inner; place = 0; visibility = v; star = x.star; recursive = x.deep; all = x.all } in
    ap (λ z. line level (import_tokens d z) ∷ [])
    (import_is file l w g.imports i f.imports (f.imports_are ∙ append_assoc g.imports (i ∷ []) f.imports))
    ∙ ap (λ ts. line level ts ∷ [])
    (import_are d (import_of w.elements i) v x refl refl refl refl
    (ap (λ c. path_at d (base_from 0 w.elements c + length g.self.inner)) (sym e)
    ∙ inner_path file l w es y (g.others ++ f.elements) g.self.inner role.Import (path x.name) f.inner f.elements_are
    (f.inner_are ∙ append_assoc g.self.inner (mention role.Import (path x.name) ∷ []) f.inner)))

-- an alias
alias_told : (file : FileNo) (l : Language) (w : Walk) (inner : ℕ → ℕ → List Line) (level n : ℕ) (es : List Draft) (y : Draft) (v : Visibility) (x : Aliasing)
    (g : Grown) → length es ≡ n → Final w es y (with_alias n v x g)
    → (item_lines inner (model_of file l w) level (item.Member (length g.members)) ≡ line level (member_visibility l v ++ aliasing l x) ∷ [])
    × (item_elements (model_of file l w) (item.Member (length g.members)) ≡ [])
alias_told file l w inner level n es y v x g e f =
    let d = model_of file l w in
    let m : DraftMember = record {
      owner = n;
      target = Aliased (length g.self.inner);
      visibility = v;
      place = 0;
      short = x.names.short;
      name = x.names.name;
    } in
    let known = member_is file l w g.members m f.members (f.members_are ∙ append_assoc g.members (m ∷ []) f.members) in (
      ap (λ (z : Membership). target_lines inner d level z z.target) known
          ∙ ap (λ ts. line level ts ∷ [])
          (alias_is d (member w.elements m) (base_from 0 w.elements n + length g.self.inner) v x refl refl refl
          (ap (λ c. path_at d (base_from 0 w.elements c + length g.self.inner)) (sym e)
          ∙ inner_path file l w es y (g.others ++ f.elements) g.self.inner role.Alias (path x.target) f.inner f.elements_are
          (f.inner_are ∙ append_assoc g.self.inner (mention role.Alias (path x.target) ∷ []) f.inner))),
      ap (λ (z : Membership). owned_in d z.target) known,
    )

-- a note is one
note_kind : (n : ℕ) (x : Noting) → (is_end (note_draft n x).kind ≡ false) × (is_note (note_draft n x).kind ≡ true)
note_kind n (Documentation m s b) = (refl, refl)
note_kind n (Comment m qs s b) = (refl, refl)

-- no element before others
among_none : (d : Data) (i : Item) (is : List Item) → item_elements d i ≡ [] → ends_among d (i ∷ is) ≡ ends_among d is
among_none d i is e = ap (λ cs. those_where (λ c. is_end (element_at d c).kind) (cs ++ flat_map (item_elements d) is)) e

-- a documentation or a comment
note_told : (file : FileNo) (l : Language) (w : Walk) (inner : ℕ → ℕ → List Line) (level n : ℕ) (es : List Draft) (y : Draft) (v : Visibility) (x : Noting)
    (g : Grown) → length es ≡ n → Final w es y (ended g (begun n v (note_draft n x) g))
    → (item_lines inner (model_of file l w) level (item.Member (length g.members)) ≡ line level (member_visibility l v ++ noting l x) ∷ [])
    × (item_elements (model_of file l w) (item.Member (length g.members)) ≡ next_number n g ∷ [])
    × (is_end (element_at (model_of file l w) (next_number n g)).kind ≡ false)
note_told file l w inner level n es y v x g e f =
    let d = model_of file l w in
    let c = next_number n g in
    let b = begun n v (note_draft n x) g in
    let k = child_known file l w es y n g b e f in
    let m = child_member file l w es y n v g b [] (sym (append-nil b.members)) f in
    let end : is_end (element_at d c).kind ≡ false = ap (λ z. is_end z.kind) k.element_is ∙ (note_kind n x).0 in
    let noted : is_note (element_at d c).kind ≡ true = ap (λ z. is_note z.kind) k.element_is ∙ (note_kind n x).1 in (
      owned_lines file l w inner level n v g m
          ∙ (ap (λ z. cond z [] (cond (is_note (element_at d c).kind) (line level (note_tokens d v c) ∷ []) (with_body level (head d v c) (inner
          (suc level) c)))) end
          ∙ (ap (λ z. cond z (line level (note_tokens d v c) ∷ []) (with_body level (head d v c) (inner (suc level) c))) noted
          ∙ ap (λ ts. line level ts ∷ []) (note_is file l w v c _ n x k))),
      owned_elements file l w n v g m,
      end,
    )

-- a thing, with the lines of its body
thing_told : (file : FileNo) (l : Language) (w : Walk) (steps level n : ℕ) (es : List Draft) (y : Draft) (v : Visibility) (t : Thing) (body : Items)
    (result : Option Tree) (g : Grown) → length es ≡ n → HasThing l t → AreParted (runs_in t)
    → (g2 g3 : Grown) → g2 ≡ with_ends (next_number n g) (ends_in t) (begun n v (thing_draft n t) g) → g3 ≡ grow (next_number n g) body g2
    → Final w es y (ended g (changed_self (closing t result) g3))
    → ItemsTold (model_of file l w) steps (suc level) body (items_of (next_number n g) body g2)
    → (ls : List Line) × (item_lines (λ k c. body_lines (suc steps) (model_of file l w) k c) (model_of file l w) level (item.Member (length g.members)) ≡ ls)
    × (spoken ls ≡ member_visibility l v ++ thing l t (enclosed (is_bare body result) (tokens l body ++ resulting l result)))
    × (no_lines ls ≡ false)
    × (item_elements (model_of file l w) (item.Member (length g.members)) ≡ next_number n g ∷ [])
    × (is_end (element_at (model_of file l w) (next_number n g)).kind ≡ false)
thing_told file l w steps level n es y v t body result g e has parted g2 g3 e2 e3 f told =
    let d = model_of file l w in
    let c = next_number n g in
    let g1 = begun n v (thing_draft n t) g in
    let gr : Grows g1 g3 = subst (Grows g1) (sym (e3 ∙ ap (grow c body) e2))
    (grows_then g1 (with_ends c (ends_in t) g1) (grow c body (with_ends c (ends_in t) g1)) (ends_grow c (ends_in t) g1) (items_grow c body (with_ends c
    (ends_in t) g1))) in
    let whole : closing t result g3.self ≡ whole_draft n t result gr.items gr.inner = ap (closing t result) gr.self_is in
    let k : Knows d c (references_of (in_front es y g)) (whole_draft n t result gr.items gr.inner) =
    subst (Knows d c (references_of (in_front es y g))) whole (child_known file l w es y n g (changed_self (closing t result) g3) e f) in
    let k0 = child_known file l w es y n g (changed_self (closing t result) g3) e f in
    let m = child_member file l w es y n v g (changed_self (closing t result) g3) gr.members gr.members_are f in
    let end : is_end (element_at d c).kind ≡ false = ap (λ z. is_end z.kind) k.element_is ∙ (is_other n t).0 in
    let noted : is_note (element_at d c).kind ≡ false = ap (λ z. is_note z.kind) k.element_is ∙ (is_other n t).1 in
    let b = is_begun n t in
    let es2 = ends_listed (ends_in t) in
    let pre = in_front es y g in
    let x = closing t result g3.self in
    let same2 : g2 ≡ with_more_ends c es2 g1 = e2 ∙ ends_as_list c (ends_in t) g1 in
    let fc : Final w pre x g3 = child_final w es y g g3 (closing t result) refl refl f in
    let fe : Final w pre x (with_more_ends c es2 g1) =
    subst (Final w pre x) same2 (final_before w pre x g2 g3 (subst (Grows g2) (sym e3) (items_grow c body g2)) fc) in
    let inner = λ (j i : ℕ). body_lines steps d j i in
    let ea = ends_are file l w inner (suc level) c pre x es2 g1 (front_long es y g n e) fe in
    let front = ends_items c es2 g1 in
    let own = items_of c body g2 in
    let items_eq : items_at d c ≡ front ++ own =
    k0.items_are ∙ (ap (λ (z : Grown). z.self.items) e3 ∙ (items_of_are c body g2
    ∙ ap (λ is. is ++ own) (ap (λ (z : Grown). z.self.items) same2 ∙ (ends_items_are c es2 g1 ∙ ap (λ is. is ++ front) b.items)))) in
    let ends_eq : ends_of d c ≡ ends_numbers c es2 g1 =
    ap (ends_among d) items_eq ∙ (among_append d front own ∙ (ap (λ ns. ns ++ ends_among d own) ea.numbers
    ∙ (ap (λ ns. ends_numbers c es2 g1 ++ ns) told.no_ends ∙ append-nil (ends_numbers c es2 g1)))) in
    let quiet2 : mentions_in is_specialisation g2.self.inner ≡ [] =
    ap (mentions_in is_specialisation) (ap (λ (z : Grown). z.self.inner) same2 ∙ (ends_inner c es2 g1 ∙ b.inner)) in
    let quiet : mentions_in is_specialisation gr.inner ≡ [] =
    ap (mentions_in is_specialisation) (sym (ap (λ (z : Draft). z.inner) gr.self_is ∙ ap (λ ms. ms ++ gr.inner) b.inner))
    ∙ (ap (λ (z : Grown). mentions_in is_specialisation z.self.inner) e3 ∙ inner_none c body g2 quiet2) in
    let lines_eq : lines_of d steps (suc level) (items_at d c) ≡ lines_of d steps (suc level) own =
    ap (lines_of d steps (suc level)) items_eq
    ∙ (flat_map-append (item_lines inner d (suc level)) front own ∙ ap (λ ls. ls ++ lines_of d steps (suc level) own) ea.lines) in
    let rl = result_lines d (suc level) (element_at d c).result in
    let bl = lines_of d steps (suc level) own ++ rl in
    let rt = result_told d c (references_of pre) (suc level) (whole_draft n t result gr.items gr.inner) k (lines_of d steps
    (suc level) own) body result told.spoken_are
    (ap (result_of result) b.result) in
    let close = enclosed (is_bare body result) (tokens l body ++ resulting l result) in (
      with_body level (head d v c) bl,
      owned_lines file l w (λ j i. body_lines (suc steps) d j i) level n v g m
          ∙ (ap (λ z. cond z [] (cond (is_note (element_at d c).kind) (line level (note_tokens d v c) ∷ [])
          (with_body level (head d v c) (body_lines (suc steps) d (suc level) c)))) end
          ∙ (ap (λ z. cond z (line level (note_tokens d v c) ∷ []) (with_body level (head d v c) (body_lines (suc steps) d (suc level) c))) noted
          ∙ ap (λ ls. with_body level (head d v c) (ls ++ rl)) lines_eq)),
      body_spoken level (head d v c) bl
          ∙ (ap (λ z. head d v c ++ enclosed z (spoken bl)) rt.1
          ∙ (ap (λ ps. head d v c ++ enclosed (is_bare body result) ps) rt.0
          ∙ head_is file l w v c (references_of pre) n t result gr.items gr.inner close has k parted quiet
          (ap (ends_tokens d (thing_draft n t).kind) ends_eq ∙ ends_text_is file l w n c t g1 has ea.told))),
      body_some level (head d v c) bl,
      owned_elements file l w n v g m,
      end,
    )

-- the items of a body
items_told : (file : FileNo) (l : Language) (w : Walk) (xs : Items) (steps level n : ℕ) (es : List Draft) (y : Draft) (g : Grown) → length es ≡ n
    → AreWithin steps xs → HasThings l xs → AreCanonical xs → Final w es y (grow n xs g)
    → ItemsTold (model_of file l w) steps level xs (items_of n xs g)
items_told file l w Empty steps level n es y g e i h a f = record { spoken_are = record { tokens_are = refl; some = refl }; no_ends = refl }
items_told file l w (Import v x xs) steps level n es y g e i h a f =
    let g1 = with_import n v x g in
    let rest = items_told file l w xs steps level n es y g1 e i h a f in
    let told = import_told file l w (λ j c. body_lines steps (model_of file l w) j c) level n es y v x g e
    (final_before w es y g1 (grow n xs g1) (items_grow n xs g1) f) in
    record {
      spoken_are = cons_told (model_of file l w) steps level (item.Import (length g.imports)) (items_of n xs g1) _
          (word l (visibility_word v) ∷ importing l x) xs (Import v x xs) told (append-nil _) refl rest.spoken_are refl refl;
      no_ends = rest.no_ends;
    }
items_told file l w (Alias v x xs) steps level n es y g e i h a f =
    let d = model_of file l w in
    let g1 = with_alias n v x g in
    let rest = items_told file l w xs steps level n es y g1 e i h a f in
    let told = alias_told file l w (λ j c. body_lines steps d j c) level n es y v x g e (final_before w es y g1 (grow n xs g1) (items_grow n xs g1) f) in
    record {
      spoken_are = cons_told d steps level (item.Member (length g.members)) (items_of n xs g1) _
          (member_visibility l v ++ aliasing l x) xs (Alias v x xs) told.0 (append-nil _) refl rest.spoken_are refl refl;
      no_ends = among_none d (item.Member (length g.members)) (items_of n xs g1) told.1 ∙ rest.no_ends;
    }
items_told file l w (Note v x xs) steps level n es y g e i h a f =
    let d = model_of file l w in
    let g1 = ended g (begun n v (note_draft n x) g) in
    let rest = items_told file l w xs steps level n es y g1 e i h a f in
    let told = note_told file l w (λ j c. body_lines steps d j c) level n es y v x g e (final_before w es y g1 (grow n xs g1) (items_grow n xs g1) f) in
    record {
      spoken_are = cons_told d steps level (item.Member (length g.members)) (items_of n xs g1) _
          (member_visibility l v ++ noting l x) xs (Note v x xs) told.0 (append-nil _) refl rest.spoken_are refl refl;
      no_ends = among_one d (item.Member (length g.members)) (next_number n g) (items_of n xs g1) false told.1 told.2 ∙ rest.no_ends;
    }
items_told file l w (Member v t body result xs) zero level n es y g e i h a f = absurd i
items_told file l w (Member v t body result xs) (suc steps) level n es y g e i h a f =
    let d = model_of file l w in
    let c = next_number n g in
    let g2 = with_ends c (ends_in t) (begun n v (thing_draft n t) g) in
    let g3 = grow c body g2 in
    let g4 = ended g (changed_self (closing t result) g3) in
    let rest = items_told file l w xs (suc steps) level n es y g4 e i.1 h.2 a.2 f in
    let one = final_before w es y g4 (grow n xs g4) (items_grow n xs g4) f in
    let pre = in_front es y g in
    let x = closing t result g3.self in
    let below = items_told file l w body steps (suc level) c pre x g2 (front_long es y g n e) i.0 h.1 a.1
    (child_final w es y g g3 (closing t result) refl refl one) in
    let told = thing_told file l w steps level n es y v t body result g e h.0 a.0 g2 g3 refl refl one below in
    record {
      spoken_are = cons_told d (suc steps) level (item.Member (length g.members)) (items_of n xs g4) told.0
          (member_visibility l v ++ thing l t (enclosed (is_bare body result) (tokens l body ++ resulting l result))) xs (Member v t body result xs)
          told.1 told.2 told.3 rest.spoken_are refl refl;
      no_ends = among_one d (item.Member (length g.members)) c (items_of n xs g4) false told.4 told.5 ∙ rest.no_ends;
    }

-- The whole text.

-- how many members there are in all
abbrev size : Items → ℕ
size Empty = 0
size (Import v i xs) = size xs
size (Alias v a xs) = size xs
size (Note v x xs) = size xs
size (Member v t body result xs) = suc (size body + size xs)

-- bodies nest less deep than there are members
within : (xs : Items) (steps : ℕ) → size xs ≤ steps → AreWithin steps xs
within Empty steps le = tt
within (Import v i xs) steps le = within xs steps le
within (Alias v a xs) steps le = within xs steps le
within (Note v x xs) steps le = within xs steps le
within (Member v t body result xs) zero le = elim (none_such (size body + size xs) le) [ ]
  where
    none_such : (k : ℕ) → suc k ≤ 0 → ⊥
    none_such k le = omega (arith, le)
within (Member v t body result xs) (suc steps) le = (within body steps (omega (arith, le)), within xs (suc steps) (omega (arith, le)))

-- each member is an element
many : (n : ℕ) (xs : Items) (g : Grown) → length g.others + size xs ≤ length (grow n xs g).others
many n Empty g = omega arith
many n (Import v i xs) g = many n xs (with_import n v i g)
many n (Alias v a xs) g = many n xs (with_alias n v a g)
many n (Note v x xs) g =
    let h = ended g (begun n v (note_draft n x) g) in
    omega (arith, many n xs h, length-append g.others (note_draft n x ∷ []))
many n (Member v t body result xs) g =
    let c = next_number n g in
    let g2 = with_ends c (ends_in t) (begun n v (thing_draft n t) g) in
    let g3 = grow c body g2 in
    let h = ended g (changed_self (closing t result) g3) in
    omega (arith, many n xs h, many c body g2, length-append g.others (closing t result g3.self ∷ g3.others))

-- the language has what it has places for
has_thing : (l : Language) (place : Place) (t : Thing) → HasPlace l place → StandsIn l place t → HasThing l t
has_thing Kerml Enumerating t h i = absurd h
has_thing Kerml Requiring t h i = absurd h
has_thing Kerml place (items.Package p n) h i = tt
has_thing Kerml place (items.Namespace n) h i = tt
has_thing Kerml place (items.Declared b k n general) h i = tt
has_thing Kerml place (items.Function b n general) h i = tt
has_thing Kerml place (items.Featured q s x v) h i = tt
has_thing Kerml Anywhere (items.Yielded s x v) h i = absurd i
has_thing Kerml Calculating (items.Yielded s x v) h i = tt
has_thing Kerml Anywhere t h i = absurd i
has_thing Kerml Calculating t h i = absurd i
has_thing Sysml place (items.Package p n) h i = tt
has_thing Sysml place (items.Defined b k n general) h i = tt
has_thing Sysml place (items.Used p u x v) h i = tt
has_thing Sysml place (items.Returned b u x v) h i = tt
has_thing Sysml place (items.Subject x v) h i = tt
has_thing Sysml place (items.Demanded b x v) h i = tt
has_thing Sysml place (items.Bind x a b) h i = tt
has_thing Sysml Anywhere t h i = absurd i
has_thing Sysml Calculating t h i = absurd i
has_thing Sysml Requiring t h i = absurd i
has_thing Sysml Enumerating t h i = absurd i

-- so it has all things of a tree
has_things : (l : Language) (place : Place) (xs : Items) → HasPlace l place → AreFitting l place xs → HasThings l xs
has_things l place Empty h f = tt
has_things l place (Import v i xs) h f = has_things l place xs h f.1
has_things l place (Alias v a xs) h f = has_things l place xs h f.1
has_things l place (Note v x xs) h f = has_things l place xs h f
has_things l place (Member v t body result xs) h f =
    (has_thing l place t h f.0, has_things l (place_in t) body (place_of l place t h f.0) f.2, has_things l place xs h f.4)

-- as many elements as drafts
elements_long : (n : ℕ) (ds : List Draft) → length (elements_from n ds) ≡ length ds
elements_long n [] = refl
elements_long n (d ∷ ds) = ap suc (elements_long (n + width d) ds)

-- the theorem
pub models_are_printed : ModelsArePrinted
models_are_printed file l xs fits canonical =
    let w = items_walk xs in
    let d = items_model file l xs in
    let g = grow 0 xs rooted in
    let k = length (elements_from 0 w.elements) in
    let f : Final w [] g.self g = record {
      elements = [];
      members = [];
      imports = [];
      items = [];
      inner = [];
      elements_are = ap (λ ds. g.self ∷ ds) (sym (append-nil g.others));
      members_are = sym (append-nil g.members);
      imports_are = sym (append-nil g.imports);
      items_are = sym (append-nil g.self.items);
      inner_are = sym (append-nil g.self.inner);
    } in
    let deep : size xs ≤ k = omega (arith, many 0 xs rooted, elements_long 0 w.elements) in
    let told = items_told file l w xs k 0 0 [] g.self rooted refl (within xs k deep) (has_things l Anywhere xs (anywhere l) fits) canonical f in
    let all = knows file l w [] g.self g.others refl in
    let rest : result_lines d 0 (element_at d 0).result ≡ [] =
    ap (λ (y : Element). result_lines d 0 y.result) all.element_is
    ∙ ap (λ (x : Draft). result_lines d 0 (numbered_in (result_start 0 x) x.result)) (items_grow 0 xs rooted).self_is in
    ap (λ is. spoken (lines_of d k 0 is ++ result_lines d 0 (element_at d 0).result)) (all.items_are ∙ items_of_are 0 xs rooted)
    ∙ (ap (λ ls. spoken (lines_of d k 0 (items_of 0 xs rooted) ++ ls)) rest
    ∙ (ap spoken (append-nil (lines_of d k 0 (items_of 0 xs rooted))) ∙ told.spoken_are.tokens_are))

-- read back
pub models_read_back : ModelsReadBack
models_read_back file l xs fits canonical can =
    let lexed = (written_texts_lex (items_model file l xs) can).1 in (
      lexed.0,
      lexed.1,
      items_read_back l xs (printed_text (items_model file l xs)) lexed.0 fits
          (lexed.2 ∙ ap (map heard) (models_are_printed file l xs fits canonical)),
    )
