-- The references of the numbering stand element by element.
use Rattle.std.proofs.Common.{◌≡◌, ℕ, zero, suc, ◌+◌, ◌<◌, ◌≤◌, Bool, true, false, ◌&&◌, nat_eq, List, [], ◌∷◌, ◌++◌, length, refl, ap, sym, subst, ◌∙◌, arith, length-append, append_assoc, append-nil}
use Rattle.std.specs.Prelude.{map, slice_get, Option, Some, None}
use Rattle.std.specs.List.{flat_map}
use Rattle.std.specs.Option.{option_map, option_map_or}
use Rattle.std.proofs.lemmas.List.{map-append, length-map}
use Rattle.std.proofs.lemmas.Option.{slice_get-map}
use Rattle.std.proofs.lemmas.Bool.{eq-eqb, ne_eqb}
use Rattle.element_store.specs.declared.numbers.FileNo.{FileNo}
use Rattle.element_store.specs.declared.outcome.Language.{Language}
use Rattle.element_store.specs.declared.outcome.Role.{Role}
use Rattle.element_store.specs.declared.outcome.Role.TheVariants as role
use Rattle.element_store.specs.declared.kind.Kind.{Kind}
use Rattle.element_store.specs.declared.kind.Kind.TheVariants as kind
use Rattle.element_store.specs.declared.records.Reference.{Reference}
use Rattle.element_store.specs.declared.lists.Item.{Item}
use Rattle.element_store.specs.declared.lists.Item.TheVariants as item
use Rattle.element_store.specs.Numbers.{those_where, chosen}
use Rattle.element_store.specs.Expressions.{names_in, name_of, names_of_bounds}
use Rattle.element_store.specs.Condition.{Told, told_from, is_own, own_of, told, told_by_member, told_by_item, held_by, names_of, by_element, IsByElement}
use Rattle.text_model.specs.declared.draft.Path.{Path}
use Rattle.text_model.specs.declared.draft.Mention.{Mention}
use Rattle.text_model.specs.declared.draft.What.{What}
use Rattle.text_model.specs.declared.draft.What.TheVariants as what
use Rattle.text_model.specs.declared.draft.DraftNode.{DraftNode}
use Rattle.text_model.specs.declared.draft.DraftExpr.{DraftExpr}
use Rattle.text_model.specs.declared.draft.Draft.{Draft}
use Rattle.text_model.specs.declared.draft.DraftTarget.{DraftTarget}
use Rattle.text_model.specs.declared.draft.DraftTarget.TheVariants.{Owned, Alias}
use Rattle.text_model.specs.declared.draft.DraftMember.{DraftMember}
use Rattle.text_model.specs.declared.draft.DraftImport.{DraftImport}
use Rattle.text_model.specs.Drafts.{names, name_in, mentions, own_role}
use Rattle.text_model.specs.Walk.{Walk}
use Rattle.text_laws.specs.Coherent.{stock, Held, held, held_target, held_member, held_import, held_from, Holds, EachFrom}
use Rattle.text_laws.specs.Fits.{Every, SpecFits, DraftFits}
use Rattle.text_model.specs.Numbering.{nodes_of, ends, own_mentions, bound_mentions, value_mentions, head, mentions_of, width, reference, references_from, node_of, after_node, numbered, numbered_in, end_of, bounds_of, bound_start, value_start, result_start, element, elements_from, base_from, member_of, member, import_of, model_of}

-- Numbers that follow one another.

-- so many numbers from one on
unfoldable pub count_from : ℕ → ℕ → List ℕ
count_from n zero = []
count_from n (suc k) = n ∷ count_from (suc n) k

count-append : (n j k : ℕ) → count_from n (j + k) ≡ count_from n j ++ count_from (n + j) k
unfolding count_from
count-append n zero k =
    let e : 0 + k ≡ k = omega arith in
    let z : n ≡ n + 0 = omega arith in
    ap (λ m. count_from n m) e ∙ ap (λ m. count_from m k) z
count-append n (suc j) k =
    let e : suc j + k ≡ suc (j + k) = omega arith in
    ap (λ m. count_from n m) e ∙ ap (λ ns. n ∷ ns) (count-append (suc n) j k ∙ ap (λ m. count_from (suc n) j ++ count_from m k) (omega arith))

-- the names among numbered nodes have running numbers
pub names_in-numbered : (n : ℕ) (ns : List DraftNode) → names_in (numbered n ns) ≡ count_from n (length (names ns))
unfolding count_from
names_in-numbered n [] = refl
names_in-numbered n (x ∷ ns) = by_what (λ m. names_in-numbered m ns) x.what where
  by_what : ((m : ℕ) → names_in (numbered m ns) ≡ count_from m (length (names ns))) → (w : What)
      → names_in (node_of n w ∷ numbered (after_node n w) ns) ≡ count_from n (length (name_in w ++ names ns))
  by_what on (what.Named p) = ap (λ ks. n ∷ ks) (on (suc n))
  by_what on other = on n

ends_named : (n : ℕ) (w : What) → name_of (Some (end_of n w)) ≡ count_from n (length (name_in w))
unfolding count_from
ends_named n (what.Named p) = refl
ends_named n other = refl

after_names : (n : ℕ) (w : What) → after_node n w ≡ n + length (name_in w)
after_names n (what.Named p) = omega arith
after_names n other = omega arith

-- and so have those of bounds
pub bounds_named : (n : ℕ) (ns : List DraftNode) → names_of_bounds (bounds_of n ns) ≡ count_from n (length (names (ends ns)))
unfolding count_from
bounds_named n [] = refl
bounds_named n (u ∷ []) = ends_named n u.what ∙ ap (λ ps. count_from n (length ps)) (sym (append-nil (name_in u.what)))
bounds_named n (l ∷ u ∷ ns) =
    ap (λ ks. ks ++ name_of (Some (end_of (after_node n l.what) u.what))) (ends_named n l.what)
    ∙ (ap (λ ks. count_from n (length (name_in l.what)) ++ ks)
    (ends_named (after_node n l.what) u.what ∙ ap (λ m. count_from m (length (name_in u.what))) (after_names n l.what))
    ∙ (sym (count-append n (length (name_in l.what)) (length (name_in u.what)))
    ∙ ap (λ k. count_from n k) (sym (length-append (name_in l.what) (name_in u.what))
    ∙ ap (λ ps. length (name_in l.what ++ ps)) (sym (append-nil (name_in u.what))))))

-- What is told of lists of references.

told-append : (n : ℕ) (xs ys : List Reference) → told_from n (xs ++ ys) ≡ told_from n xs ++ told_from (n + length xs) ys
told-append n [] ys = ap (λ m. told_from m ys) (omega arith)
told-append n (x ∷ xs) ys = ap (λ ts. record { reference = n; role = x.role; context = x.context } ∷ ts)
    (told-append (suc n) xs ys ∙ ap (λ m. told_from (suc n) xs ++ told_from m ys) (omega arith))

told-mentions : (e n : ℕ) (r : Role) (ps : List Path) → told_from n (map (reference e) (mentions r ps)) ≡ map (told r e) (count_from n (length ps))
unfolding count_from
told-mentions e n r [] = refl
told-mentions e n r (p ∷ ps) = ap (λ ts. told r e n ∷ ts) (told-mentions e (suc n) r ps)

where-append : {A : Type 0} (test : A → Bool) (xs ys : List A) → those_where test (xs ++ ys) ≡ those_where test xs ++ those_where test ys
where-append test [] ys = refl
where-append test (x ∷ xs) ys = by_test (where-append test xs ys) (test x) where
  by_test : those_where test (xs ++ ys) ≡ those_where test xs ++ those_where test ys → (b : Bool)
      → chosen b x (those_where test (xs ++ ys)) ≡ chosen b x (those_where test xs) ++ those_where test ys
  by_test on true = ap (λ zs. x ∷ zs) on
  by_test on false = on

-- all of them are of the element and have roles of its own, or none is
all_own : (e n : ℕ) (ms : List Mention) → Every (λ m. is_own m.role ≡ true) ms
    → own_of (told_from n (map (reference e) ms)) e ≡ told_from n (map (reference e) ms)
all_own e n [] own = refl
all_own e n (m ∷ ms) own =
    let here : (is_own m.role && nat_eq e e) ≡ true = rw own.0 (eq-eqb e e refl) in
    rw here (ap (λ ts. record { reference = n; role = m.role; context = e } ∷ ts) (all_own e (suc n) ms own.1))

none_own : (e n : ℕ) (ms : List Mention) → Every (λ m. is_own m.role ≡ false) ms → own_of (told_from n (map (reference e) ms)) e ≡ []
none_own e n [] own = refl
none_own e n (m ∷ ms) own = rw own.0 (none_own e (suc n) ms own.1)

none_earlier : (e f n : ℕ) (ms : List Mention) → (e ≡ f → ⊥) → own_of (told_from n (map (reference e) ms)) f ≡ []
none_earlier e f n [] other = refl
none_earlier e f n (m ∷ ms) other =
    let here : (is_own m.role && nat_eq e f) ≡ false = rw (ne_eqb e f other) (and_false (is_own m.role)) in
    rw here (none_earlier e f (suc n) ms other) where
      and_false : (b : Bool) → (b && false) ≡ false
      and_false true = refl
      and_false false = refl

none_later : (e f n : ℕ) (ds : List Draft) → f < e → own_of (told_from n (references_from e ds)) f ≡ []
none_later e f n [] below = refl
none_later e f n (d ∷ ds) below =
    ap (λ ts. own_of ts f) (told-append n (map (reference e) (mentions_of d)) (references_from (suc e) ds))
    ∙ (where-append (λ (t : Told). is_own t.role && nat_eq t.context f) (told_from n (map (reference e) (mentions_of d)))
    (told_from (n + length (map (reference e) (mentions_of d))) (references_from (suc e) ds))
    ∙ (ap (λ ts. ts ++ own_of (told_from (n + length (map (reference e) (mentions_of d))) (references_from (suc e) ds)) f)
    (none_earlier e f n (mentions_of d) (λ same. omega (arith, below, same)))
    ∙ none_later (suc e) f (n + length (map (reference e) (mentions_of d))) ds (omega (arith, below))))

every_mention : (r : Role) (b : Bool) (ps : List Path) → is_own r ≡ b → Every (λ m. is_own m.role ≡ b) (mentions r ps)
every_mention r b [] own = tt
every_mention r b (p ∷ ps) own = (own, every_mention r b ps own)

own_role_own : (k : Kind) → is_own (own_role k) ≡ true
own_role_own kind.Comment = refl
own_role_own other = refl

-- The references of one element.

specs_own : (all rest : ℕ) (ms : List Mention) → Every (SpecFits all rest) ms → Every (λ m. is_own m.role ≡ true) ms
specs_own all rest [] h = tt
specs_own all rest (m ∷ ms) h = (h.0.own, specs_own all rest ms h.1)

every_both : {A : Type 0} (P : A → Type 0) (xs ys : List A) → Every P xs → Every P ys → Every P (xs ++ ys)
every_both P [] ys e f = f
every_both P (x ∷ xs) ys e f = (e.0, every_both P xs ys e.1 f)

inner_not_own : (ms : List Mention) (e n : ℕ) (hs : List Held) → hs ≡ held_from e n (map (λ m. m.role) ms) → Every (λ h. is_own h.role ≡ false) hs
    → Every (λ m. is_own m.role ≡ false) ms
inner_not_own [] e n hs is h = tt
inner_not_own (m ∷ ms) e n [] is h = cc
inner_not_own (m ∷ ms) e n (x ∷ hs) is h =
    let head_is : x ≡ record { owner = e; place = n; role = m.role } = cc in
    let tail_is : hs ≡ held_from e (suc n) (map (λ m. m.role) ms) = cc in
    (subst (λ (y : Held). is_own y.role ≡ false) head_is h.0, inner_not_own ms e (suc n) hs tail_is h.1)

held_not_own : (ms : List DraftMember) (is : List DraftImport) (items : List Item) → Every (λ h. is_own h.role ≡ false) (flat_map (held ms is) items)
held_not_own ms is [] = tt
held_not_own ms is (i ∷ items) = every_both (λ (h : Held). is_own h.role ≡ false) (held ms is i) (flat_map (held ms is) items) (one i)
    (held_not_own ms is items) where
      by_target : (owner : ℕ) (t : DraftTarget) → Every (λ (h : Held). is_own h.role ≡ false) (held_target owner t)
      by_target owner (Owned e) = tt
      by_target owner (Alias k) = (refl, tt)

      by_member : (o : Option DraftMember) → Every (λ (h : Held). is_own h.role ≡ false) (held_member o)
      by_member None = tt
      by_member (Some m) = by_target m.owner m.target

      by_import : (o : Option DraftImport) → Every (λ (h : Held). is_own h.role ≡ false) (held_import o)
      by_import None = tt
      by_import (Some x) = (refl, tt)

      one : (i : Item) → Every (λ (h : Held). is_own h.role ≡ false) (held ms is i)
      one (item.Member m) = by_member (slice_get ms m)
      one (item.Import x) = by_import (slice_get is x)

-- those of its own among all of the element
own_here : (all rest : ℕ) (e n : ℕ) (d : Draft) → DraftFits all rest d → Every (λ m. is_own m.role ≡ false) d.inner
    → own_of (told_from n (map (reference e) (mentions_of d))) e ≡ told_from n (map (reference e) (own_mentions d))
own_here all rest e n d fits inner =
    let later : List Mention = (bound_mentions d ++ value_mentions d) ++ d.inner in
    let split : map (reference e) (mentions_of d) ≡ map (reference e) (own_mentions d) ++ map (reference e) later =
    ap (map (reference e)) (append_assoc (own_mentions d) (bound_mentions d ++ value_mentions d) d.inner) ∙ map-append (reference e) (own_mentions d) later in
    let own : Every (λ m. is_own m.role ≡ true) (own_mentions d) =
    every_both (λ m. is_own m.role ≡ true) (mentions (own_role d.kind) d.own) d.specs (every_mention (own_role d.kind) true d.own (own_role_own d.kind))
    (specs_own all rest d.specs fits.specs) in
    let others : Every (λ m. is_own m.role ≡ false) later =
    every_both (λ m. is_own m.role ≡ false) (bound_mentions d ++ value_mentions d) d.inner
    (every_both (λ m. is_own m.role ≡ false) (bound_mentions d) (value_mentions d) (every_mention role.Bound false (names (ends d.bounds)) refl)
    (every_both (λ m. is_own m.role ≡ false) (mentions role.Value (names (nodes_of d.value))) (mentions role.Value (names (nodes_of d.result)))
    (every_mention role.Value false (names (nodes_of d.value)) refl) (every_mention role.Value false (names (nodes_of d.result)) refl)))
    inner in
    let k = n + length (map (reference e) (own_mentions d)) in
    ap (λ rs. own_of (told_from n rs) e) split
    ∙ (ap (λ ts. own_of ts e) (told-append n (map (reference e) (own_mentions d)) (map (reference e) later))
    ∙ (where-append (λ (t : Told). is_own t.role && nat_eq t.context e) (told_from n (map (reference e) (own_mentions d)))
    (told_from k (map (reference e) later))
    ∙ (ap (λ ts. ts ++ own_of (told_from k (map (reference e) later)) e) (all_own e n (own_mentions d) own)
    ∙ (ap (λ ts. told_from n (map (reference e) (own_mentions d)) ++ ts) (none_own e k later others)
    ∙ append-nil (told_from n (map (reference e) (own_mentions d)))))))

-- what its items hold
shifted : List Draft → ℕ → Held → Told
shifted ds e h = record { reference = base_from 0 ds h.owner + h.place; role = h.role; context = e }

told_items : (file : FileNo) (language : Language) (w : Walk) (e : ℕ) (items : List Item)
    → flat_map (told_by_item (model_of file language w) e) items ≡ map (shifted w.elements e) (flat_map (held w.members w.imports) items)
unfolding shifted
told_items file language w e [] = refl
told_items file language w e (i ∷ items) =
    ap (λ ts. ts ++ flat_map (told_by_item (model_of file language w) e) items) (one i)
    ∙ (ap (λ ts. map (shifted w.elements e) (held w.members w.imports i) ++ ts) (told_items file language w e items)
    ∙ sym (map-append (shifted w.elements e) (held w.members w.imports i) (flat_map (held w.members w.imports) items))) where
      by_target : (m : DraftMember) (t : DraftTarget) → told_by_member e (member_of w.elements t m).target ≡ map (shifted w.elements e) (held_target m.owner t)
      by_target m (Owned x) = refl
      by_target m (Alias k) = refl

      by_member : (o : Option DraftMember) → option_map_or (λ x. told_by_member e x.target) (option_map (member w.elements) o) []
          ≡ map (shifted w.elements e) (held_member o)
      by_member None = refl
      by_member (Some m) = by_target m m.target

      by_import : (o : Option DraftImport) → option_map_or (λ x. told role.Import e x.reference ∷ []) (option_map (import_of w.elements) o) []
          ≡ map (shifted w.elements e) (held_import o)
      by_import None = refl
      by_import (Some x) = refl

      one : (i : Item) → told_by_item (model_of file language w) e i ≡ map (shifted w.elements e) (held w.members w.imports i)
      one (item.Member m) = ap (λ o. option_map_or (λ x. told_by_member e x.target) o []) (slice_get-map (member w.elements) w.members m)
          ∙ by_member (slice_get w.members m)
      one (item.Import x) = ap (λ o. option_map_or (λ y. told role.Import e y.reference ∷ []) o []) (slice_get-map (import_of w.elements) w.imports x)
          ∙ by_import (slice_get w.imports x)

told_inner : (ds : List Draft) (e b n k : ℕ) (ms : List Mention) → b ≡ base_from 0 ds e → k ≡ b + n
    → map (shifted ds e) (held_from e n (map (λ m. m.role) ms)) ≡ told_from k (map (reference e) ms)
unfolding shifted
told_inner ds e b n k [] base is = refl
told_inner ds e b n k (m ∷ ms) base is =
    let here : base_from 0 ds e + n ≡ k = omega (arith, base, is) in
    ap (λ r. record { reference = r; role = m.role; context = e } ∷ map (shifted ds e) (held_from e (suc n) (map (λ m. m.role) ms))) here
    ∙ ap (λ ts. record { reference = k; role = m.role; context = e } ∷ ts) (told_inner ds e b (suc n) (suc k) ms base (omega (arith, is)))

map-both : (f : ℕ → Told) (xs ys : List ℕ) → map f (xs ++ ys) ≡ map f xs ++ map f ys
map-both f xs ys = map-append f xs ys

-- all that the element tells of its references, one after another
element_told : (file : FileNo) (language : Language) (w : Walk) (e n : ℕ) (d : Draft) → Holds w.members w.imports e (stock d)
    → base_from 0 w.elements e ≡ n + length (head d)
    → told_from n (map (reference e) (own_mentions d)) ++ held_by (model_of file language w) e (element n d) d.items
    ≡ told_from n (map (reference e) (mentions_of d))
element_told file language w e n d holds base =
    let s = reference e in
    let bounds : map (told role.Bound e) (names_of_bounds (bounds_of (bound_start n d) d.bounds)) ≡ told_from (bound_start n d) (map s (bound_mentions d)) =
    ap (map (told role.Bound e)) (bounds_named (bound_start n d) d.bounds) ∙ sym (told-mentions e (bound_start n d) role.Bound (names (ends d.bounds))) in
    let in_value : (k : ℕ) (v : Option DraftExpr) → map (told role.Value e) (names_of (numbered_in k v))
    ≡ told_from k (map s (mentions role.Value (names (nodes_of v)))) =
    λ k v. named_value k v in
    let values : map (told role.Value e) (names_of (numbered_in (value_start n d) d.value) ++ names_of (numbered_in (result_start n d) d.result))
    ≡ told_from (value_start n d) (map s (value_mentions d)) =
    map-both (told role.Value e) (names_of (numbered_in (value_start n d) d.value)) (names_of (numbered_in (result_start n d) d.result))
    ∙ (ap (λ ts. ts ++ map (told role.Value e) (names_of (numbered_in (result_start n d) d.result))) (in_value (value_start n d) d.value)
    ∙ (ap (λ ts. told_from (value_start n d) (map s (mentions role.Value (names (nodes_of d.value)))) ++ ts) (in_value (result_start n d) d.result
    ∙ ap (λ k. told_from k (map s (mentions role.Value (names (nodes_of d.result)))))
    (omega (arith, length-map (mentions role.Value (names (nodes_of d.value))) s, length_mentions role.Value (names (nodes_of d.value)))))
    ∙ sym (ap (told_from (value_start n d)) (map-append s (mentions role.Value (names (nodes_of d.value))) (mentions role.Value (names (nodes_of d.result))))
    ∙ told-append (value_start n d) (map s (mentions role.Value (names (nodes_of d.value)))) (map s (mentions role.Value (names (nodes_of d.result))))))) in
    let items : flat_map (told_by_item (model_of file language w) e) d.items ≡ told_from (n + length (head d)) (map s d.inner) =
    told_items file language w e d.items
    ∙ (ap (map (shifted w.elements e)) holds.inner
    ∙ told_inner w.elements e (n + length (head d)) 0 (n + length (head d)) d.inner (sym base) (omega arith)) in
    let later = map s (bound_mentions d) ++ (map s (value_mentions d) ++ map s d.inner) in
    let joined : held_by (model_of file language w) e (element n d) d.items ≡ told_from (bound_start n d) later =
    ap (λ ts. ts ++ (map (told role.Value e) (names_of (numbered_in (value_start n d) d.value) ++ names_of (numbered_in (result_start n d) d.result))
    ++ flat_map (told_by_item (model_of file language w) e) d.items)) bounds
    ∙ (ap (λ ts. told_from (bound_start n d) (map s (bound_mentions d)) ++ (ts ++ flat_map (told_by_item (model_of file language w) e) d.items)) values
    ∙ (ap (λ ts. told_from (bound_start n d) (map s (bound_mentions d)) ++ (told_from (value_start n d) (map s (value_mentions d)) ++ ts)) (items
    ∙ ap (λ k. told_from k (map s d.inner)) (omega (
      arith,
      length-map (value_mentions d) s,
      length-append (own_mentions d)
          (bound_mentions d ++ value_mentions d),
      length-append (bound_mentions d) (value_mentions d),
    )))
    ∙ (ap (λ ts. told_from (bound_start n d) (map s (bound_mentions d)) ++ ts) (sym (told-append (value_start n d) (map s (value_mentions d)) (map s d.inner))
    ∙ ap (λ k. told_from k (map s (value_mentions d) ++ map s d.inner)) (omega (arith, length-map (bound_mentions d) s)))
    ∙ sym (told-append (bound_start n d) (map s (bound_mentions d)) (map s (value_mentions d) ++ map s d.inner))))) in
    ap (λ ts. told_from n (map s (own_mentions d)) ++ ts) (joined ∙ ap (λ k. told_from k later) (omega (arith, length-map (own_mentions d) s)))
    ∙ (sym (told-append n (map s (own_mentions d)) later)
    ∙ ap (told_from n) (sym (map_four s (own_mentions d) (bound_mentions d) (value_mentions d) d.inner))) where
      length_mentions : (r : Role) (ps : List Path) → length (mentions r ps) ≡ length ps
      length_mentions r [] = refl
      length_mentions r (p ∷ ps) = ap suc (length_mentions r ps)

      named_value : (k : ℕ) (v : Option DraftExpr) → map (told role.Value e) (names_of (numbered_in k v))
          ≡ told_from k (map (reference e) (mentions role.Value (names (nodes_of v))))
      named_value k None = refl
      named_value k (Some x) = ap (map (told role.Value e)) (names_in-numbered k x.nodes) ∙ sym (told-mentions e k role.Value (names x.nodes))

      map_four : (f : Mention → Reference) (a b c x : List Mention) → map f ((a ++ (b ++ c)) ++ x) ≡ map f a ++ (map f b ++ (map f c ++ map f x))
      map_four f a b c x =
          map-append f (a ++ (b ++ c)) x ∙ (ap (λ t. t ++ map f x) (map-append f a (b ++ c) ∙ ap (λ t. map f a ++ t) (map-append f b c))
          ∙ (append_assoc (map f a) (map f b ++ map f c) (map f x) ∙ ap (λ t. map f a ++ t) (append_assoc (map f b) (map f c) (map f x))))

-- Element by element.

from_here : (file : FileNo) (language : Language) (w : Walk) (all rest e n : ℕ) (ds : List Draft)
    → ((f : ℕ) → e ≤ f → own_of (told_from 0 (references_from 0 w.elements)) f ≡ own_of (told_from n (references_from e ds)) f)
    → ((j : ℕ) → base_from 0 w.elements (e + j) ≡ base_from n ds j)
    → EachFrom (Holds w.members w.imports) e (map stock ds) → Every (DraftFits all rest) ds
    → by_element (model_of file language w) (told_from 0 (references_from 0 w.elements)) e (elements_from n ds) (map (λ d. d.items) ds)
    ≡ told_from n (references_from e ds)
from_here file language w all rest e n [] own base holds fits = refl
from_here file language w all rest e n (d ∷ ds) own base holds fits =
    let s = reference e in
    let refs = map s (mentions_of d) in
    let behind = told_from (n + length refs) (references_from (suc e) ds) in
    let len : length refs ≡ width d = length-map (mentions_of d) s in
    let split : told_from n (references_from e (d ∷ ds)) ≡ told_from n refs ++ behind = told-append n refs (references_from (suc e) ds) in
    let own_split : (f : ℕ) → own_of (told_from n (references_from e (d ∷ ds))) f ≡ own_of (told_from n refs) f ++ own_of behind f =
    λ f. ap (λ ts. own_of ts f) split ∙ where-append (λ (t : Told). is_own t.role && nat_eq t.context f) (told_from n refs) behind in
    let inner = inner_not_own d.inner e 0 (flat_map (held w.members w.imports) d.items) holds.0.inner (held_not_own w.members w.imports d.items) in
    let mine : own_of (told_from 0 (references_from 0 w.elements)) e ≡ told_from n (map s (own_mentions d)) =
    own e (omega arith) ∙ (own_split e
    ∙ (ap (λ ts. own_of (told_from n refs) e ++ ts) (none_later (suc e) e (n + length refs) ds (omega arith))
    ∙ (append-nil (own_of (told_from n refs) e) ∙ own_here all rest e n d fits.0 inner))) in
    let base_here : base_from 0 w.elements e ≡ n + length (head d) = ap (base_from 0 w.elements) (omega arith) ∙ base 0 in
    let rest_is = from_here file language w all rest (suc e) (n + width d) ds
    (λ f above. own f (omega (arith, above)) ∙ (own_split f
    ∙ (ap (λ ts. ts ++ own_of behind f) (none_earlier e f n (mentions_of d) (λ same. omega (arith, above, same)))
    ∙ ap (λ k. own_of (told_from (n + k) (references_from (suc e) ds)) f) len)))
    (λ j. ap (base_from 0 w.elements) (omega arith) ∙ base (suc j))
    holds.1 fits.1 in
    ap (λ ts. (ts ++ held_by (model_of file language w) e (element n d) d.items)
    ++ by_element (model_of file language w) (told_from 0 (references_from 0 w.elements)) (suc e) (elements_from (n + width d) ds) (map (λ d. d.items) ds))
    mine
    ∙ (ap (λ ts. ts ++ by_element (model_of file language w) (told_from 0 (references_from 0 w.elements)) (suc e) (elements_from (n + width d) ds)
    (map (λ d. d.items) ds)) (element_told file language w e n d holds.0 base_here)
    ∙ (ap (λ ts. told_from n refs ++ ts) (rest_is ∙ ap (λ k. told_from (n + k) (references_from (suc e) ds)) (sym len))
    ∙ sym split))

-- the references stand element by element
pub by_element_is : (file : FileNo) (language : Language) (w : Walk) (all rest : ℕ) → EachFrom (Holds w.members w.imports) 0 (map stock w.elements)
    → Every (DraftFits all rest) w.elements
    → IsByElement (model_of file language w)
by_element_is file language w all rest holds fits =
    sym (from_here file language w all rest 0 0 w.elements (λ f above. refl) (λ j. ap (base_from 0 w.elements) (omega arith)) holds fits)
