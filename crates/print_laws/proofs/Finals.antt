-- What the final lists hold of what was read before, and the tokens of imports, aliases, notes and ends.
use Rattle.std.proofs.Common.{◌≡◌, ℕ, suc, ◌+◌, List, [], ◌∷◌, ◌++◌, length, refl, ap, sym, ◌∙◌, arith, append_assoc, append-nil}
use Rattle.std.specs.Prelude.{Option, Some, None, Bool, codes, map, slice_index_or}
use Rattle.std.proofs.lemmas.List.{length-append, map-append}
use Rattle.element_store.specs.declared.numbers.FileNo.{FileNo}
use Rattle.element_store.specs.declared.outcome.Language.{Language}
use Rattle.element_store.specs.declared.outcome.Language.TheVariants.{Kerml, Sysml}
use Rattle.element_store.specs.declared.outcome.Role.{Role}
use Rattle.element_store.specs.declared.outcome.Role.TheVariants as role
use Rattle.element_store.specs.declared.kind.Visibility.{Visibility}
use Rattle.element_store.specs.declared.lists.Item.{Item}
use Rattle.element_store.specs.declared.records.Element.{Element}
use Rattle.element_store.specs.declared.records.Member.{Member as Membership}
use Rattle.element_store.specs.declared.records.Import.{Import as Importation}
use Rattle.element_store.specs.Model.{Data}
use Rattle.text_model.specs.declared.draft.Path.{Path}
use Rattle.text_model.specs.declared.draft.Mention.{Mention}
use Rattle.text_model.specs.declared.draft.Draft.{Draft}
use Rattle.text_model.specs.declared.draft.DraftMember.{DraftMember}
use Rattle.text_model.specs.declared.draft.DraftImport.{DraftImport}
use Rattle.text_model.specs.Drafts.{mention, mentions}
use Rattle.text_model.specs.Numbering.{element, head as head_mentions, own_mentions, mentions_of, reference, base_from, member, import_of, model_of}
use Rattle.text_model.specs.Walk.{Walk}
use Rattle.print_model.specs.Printed.{Printed, sign, word, note}
use Rattle.print_model.specs.Trees.{named}
use Rattle.print_model.specs.Heads.{member_at, references_in, path_at, is_specialisation, is_about, listed, abouts as about_tokens, no_member, no_import, bounds_tokens, word_if, member_visibility, visibility_word, before_names, locale_tokens, note_tokens, alias_tokens, import_tokens, star_tokens, end_tokens, end_name as end_name_tokens, body_bytes, short_name, declared_name}
use Rattle.print_laws.specs.Items.{Qualified, Ending, Importing, Aliasing, Noting, Documentation, Comment}
use Rattle.print_laws.specs.ItemTokens.{qualified, more_names, named as name_tokens, extent, ending, end_name, abouts, noting, aliasing, importing}
use Rattle.print_laws.specs.ItemWalk.{Grown, path, end_draft, note_draft}
use Rattle.print_laws.proofs.Growth.{Grows}
use Rattle.print_laws.proofs.Views.{at_length, references_of, element_is, items_are, references_are, reference_behind, mentions_in}
use Rattle.print_laws.proofs.RunTokens.{Knows, qualified_is, chained_is}
use Rattle.print_laws.proofs.ElementTokens.{bounds_are, own_alone, all_of}

-- the final lists begin with those that were read, and y is what became of the element that was open
pub record Final (w : Walk) (es : List Draft) (y : Draft) (g : Grown) : Type 0 where
  pub elements : List Draft
  pub members : List DraftMember
  pub imports : List DraftImport
  pub items : List Item
  pub inner : List Mention
  pub elements_are : w.elements ≡ es ++ y ∷ (g.others ++ elements)
  pub members_are : w.members ≡ g.members ++ members
  pub imports_are : w.imports ≡ g.imports ++ imports
  pub items_are : y.items ≡ g.self.items ++ items
  pub inner_are : y.inner ≡ g.self.inner ++ inner

-- so they did before they grew
pub final_before : (w : Walk) (es : List Draft) (y : Draft) (g h : Grown) → Grows g h → Final w es y h → Final w es y g
final_before w es y g h a f = record {
  elements = a.others ++ f.elements;
  members = a.members ++ f.members;
  imports = a.imports ++ f.imports;
  items = a.items ++ f.items;
  inner = a.inner ++ f.inner;
  elements_are = f.elements_are ∙ ap (λ xs. es ++ y ∷ xs) (ap (λ xs. xs ++ f.elements) a.others_are ∙ append_assoc g.others a.others f.elements);
  members_are = f.members_are ∙ (ap (λ xs. xs ++ f.members) a.members_are ∙ append_assoc g.members a.members f.members);
  imports_are = f.imports_are ∙ (ap (λ xs. xs ++ f.imports) a.imports_are ∙ append_assoc g.imports a.imports f.imports);
  items_are = f.items_are ∙ (ap (λ (d : Draft). d.items ++ f.items) a.self_is ∙ append_assoc g.self.items a.items f.items);
  inner_are = f.inner_are ∙ (ap (λ (d : Draft). d.inner ++ f.inner) a.self_is ∙ append_assoc g.self.inner a.inner f.inner);
}

-- what a model knows of the element at a place
pub knows : (file : FileNo) (l : Language) (w : Walk) (pre : List Draft) (x : Draft) (post : List Draft) → w.elements ≡ pre ++ x ∷ post
    → Knows (model_of file l w) (length pre) (references_of pre) x
knows file l w pre x post e = record {
  element_is = element_is file l w pre x post e;
  items_are = items_are file l w pre x post e;
  references_are = λ test. references_are file l w pre x post test e;
  path_is = λ fs m bs q. reference_behind file l w pre x post fs m bs e q;
}

-- Members and imports by their numbers.

-- a member by its number
pub member_is : (file : FileNo) (l : Language) (w : Walk) (ms : List DraftMember) (m : DraftMember) (more : List DraftMember) → w.members ≡ ms ++ m ∷ more
    → member_at (model_of file l w) (length ms) ≡ member w.elements m
member_is file l w ms m more e =
    ap (λ xs. slice_index_or (map (member w.elements) xs) (length ms) no_member) e
    ∙ (ap (λ xs. slice_index_or xs (length ms) no_member) (map-append (member w.elements) ms (m ∷ more))
    ∙ (ap (λ n. slice_index_or (map (member w.elements) ms ++ member w.elements m ∷ map (member w.elements) more) n no_member) (sym (long
    (member w.elements) ms))
    ∙ at_length no_member (map (member w.elements) ms) (member w.elements m) (map (member w.elements) more)))
  where
    long : {A B : Type 0} (f : A → B) (xs : List A) → length (map f xs) ≡ length xs
    long f [] = refl
    long f (x ∷ xs) = ap suc (long f xs)

-- an import by its number
pub import_is : (file : FileNo) (l : Language) (w : Walk) (ms : List DraftImport) (m : DraftImport) (more : List DraftImport) → w.imports ≡ ms ++ m ∷ more
    → slice_index_or (model_of file l w).imports (length ms) no_import ≡ import_of w.elements m
import_is file l w ms m more e =
    ap (λ xs. slice_index_or (map (import_of w.elements) xs) (length ms) no_import) e
    ∙ (ap (λ xs. slice_index_or xs (length ms) no_import) (map-append (import_of w.elements) ms (m ∷ more))
    ∙ (ap (λ n. slice_index_or (map (import_of w.elements) ms ++ import_of w.elements m ∷ map (import_of w.elements) more) n no_import)
    (sym (long (import_of w.elements) ms))
    ∙ at_length no_import (map (import_of w.elements) ms) (import_of w.elements m) (map (import_of w.elements) more)))
  where
    long : {A B : Type 0} (f : A → B) (xs : List A) → length (map f xs) ≡ length xs
    long f [] = refl
    long f (x ∷ xs) = ap suc (long f xs)

-- where the names of an element's aliases and imports begin
base_is : (n : ℕ) (pre : List Draft) (x : Draft) (post : List Draft)
    → base_from n (pre ++ x ∷ post) (length pre) ≡ (n + references_of pre) + length (head_mentions x)
base_is n [] x post = ap (λ k. k + length (head_mentions x)) (omega arith)
base_is n (y ∷ pre) x post =
    base_is (n + length (mentions_of y)) pre x post ∙ ap (λ k. k + length (head_mentions x)) (omega arith)

-- the path of an alias or an import by its number
pub inner_path : (file : FileNo) (l : Language) (w : Walk) (pre : List Draft) (x : Draft) (post : List Draft) (ms : List Mention) (which : Role) (p : Path)
    (more : List Mention) → w.elements ≡ pre ++ x ∷ post → x.inner ≡ ms ++ mention which p ∷ more
    → path_at (model_of file l w) (base_from 0 w.elements (length pre) + length ms) ≡ record p { place = 0 }
inner_path file l w pre x post ms which p more e i =
    let k = knows file l w pre x post e in
    ap (path_at (model_of file l w)) (ap (λ n. n + length ms) (ap (λ ds. base_from 0 ds (length pre)) e ∙ base_is 0 pre x post)
    ∙ sums (references_of pre) (head_mentions x) ms)
    ∙ k.path_is (head_mentions x ++ ms) (mention which p) more
    (ap (λ xs. head_mentions x ++ xs) i ∙ sym (append_assoc (head_mentions x) ms (mention which p ∷ more)))
  where
    sums : (s : ℕ) (xs ys : List Mention) → (0 + s + length xs) + length ys ≡ s + length (xs ++ ys)
    sums s xs ys = omega (arith, length-append xs ys)

-- Lists of names.

-- names with commas between them
pub listed_are : (l : Language) (c : ℕ) (which : Role) (q : Qualified) (qs : List Qualified)
    → listed l (map (reference c) (mentions which (map path (q ∷ qs)))) ≡ qualified l q ++ more_names l qs
listed_are l c which q [] = qualified_is l q ∙ sym (append-nil (qualified l q))
listed_are l c which q (r ∷ qs) =
    ap (λ ps. ps ++ (sign (codes ",") ∷ listed l (map (reference c) (mentions which (map path (r ∷ qs)))))) (qualified_is l q)
    ∙ ap (λ ps. qualified l q ++ (sign (codes ",") ∷ ps)) (listed_are l c which r qs)

-- what a comment is about
abouts_are : (l : Language) (c : ℕ) (qs : List Qualified) → about_tokens l (map (reference c) (mentions role.About (map path qs))) ≡ abouts l qs
abouts_are l c [] = refl
abouts_are l c (q ∷ qs) = ap (λ ps. word l (codes "about") ∷ ps) (listed_are l c role.About q qs)

-- Notes.

-- how tokens are grouped makes no difference
note_grouped : (vs ks sh na ab lo end : List Printed) → (vs ++ (ks ++ (sh ++ na))) ++ (ab ++ (lo ++ end)) ≡ vs ++ (ks ++ ((sh ++ na) ++ (ab ++ (lo ++ end))))
note_grouped vs ks sh na ab lo end = simp append_assoc refl

-- the parts of a note
note_parts : (file : FileNo) (l : Language) (w : Walk) (v : Visibility) (c s : ℕ) (x : Draft) (ab : List Printed) → Knows (model_of file l w) c s x
    → about_tokens l (map (reference c) (mentions_in is_about (mentions_of x))) ≡ ab
    → note_tokens (model_of file l w) v c
    ≡ before_names (model_of file l w) v (element s x) ++ (ab ++ (locale_tokens l x.locale ++ note (body_bytes x.body) ∷ []))
note_parts file l w v c s x ab k e =
    let d = model_of file l w in
    ap (λ (y : Element). before_names d v y ++ (about_tokens l (references_in d is_about c) ++ (locale_tokens l y.locale ++ note (body_bytes y.body) ∷ [])))
    k.element_is
    ∙ (ap (λ rs. before_names d v (element s x) ++ (about_tokens l rs ++ (locale_tokens l x.locale ++ note (body_bytes x.body) ∷ [])))
    (k.references_are is_about)
    ∙ ap (λ ts. before_names d v (element s x) ++ (ts ++ (locale_tokens l x.locale ++ note (body_bytes x.body) ∷ []))) e)

-- the mentions of a comment
own_abouts : (x : Draft) (ps : List Path) → own_mentions x ≡ mentions role.About ps ++ [] → x.inner ≡ []
    → mentions_in is_about (mentions_of x) ≡ mentions role.About ps
own_abouts x ps e i =
    own_alone is_about x refl refl (ap (mentions_in is_about) i)
    ∙ (ap (mentions_in is_about) (e ∙ append-nil (mentions role.About ps)) ∙ all_of is_about role.About ps refl)

-- a note
pub note_is : (file : FileNo) (l : Language) (w : Walk) (v : Visibility) (c s n : ℕ) (x : Noting) → Knows (model_of file l w) c s (note_draft n x)
    → note_tokens (model_of file l w) v c ≡ member_visibility l v ++ noting l x
note_is file Kerml w v c s n (Documentation m lo body) k =
    note_parts file Kerml w v c s (note_draft n (Documentation m lo body)) [] k refl
    ∙ note_grouped (member_visibility Kerml v) (word Kerml (codes "doc") ∷ []) (short_name Kerml m.short) (declared_name Kerml m.name) []
    (locale_tokens Kerml lo)
    (note body ∷ [])
note_is file Sysml w v c s n (Documentation m lo body) k =
    note_parts file Sysml w v c s (note_draft n (Documentation m lo body)) [] k refl
    ∙ note_grouped (member_visibility Sysml v) (word Sysml (codes "doc") ∷ []) (short_name Sysml m.short) (declared_name Sysml m.name) []
    (locale_tokens Sysml lo)
    (note body ∷ [])
note_is file Kerml w v c s n (Comment m qs lo body) k =
    note_parts file Kerml w v c s (note_draft n (Comment m qs lo body)) (abouts Kerml qs) k
    (ap (λ ms. about_tokens Kerml (map (reference c) ms)) (own_abouts (note_draft n (Comment m qs lo body)) (map path qs) refl refl) ∙ abouts_are Kerml c qs)
    ∙ note_grouped (member_visibility Kerml v) (word Kerml (codes "comment") ∷ []) (short_name Kerml m.short) (declared_name Kerml m.name) (abouts Kerml qs)
    (locale_tokens Kerml lo) (note body ∷ [])
note_is file Sysml w v c s n (Comment m qs lo body) k =
    note_parts file Sysml w v c s (note_draft n (Comment m qs lo body)) (abouts Sysml qs) k
    (ap (λ ms. about_tokens Sysml (map (reference c) ms)) (own_abouts (note_draft n (Comment m qs lo body)) (map path qs) refl refl) ∙ abouts_are Sysml c qs)
    ∙ note_grouped (member_visibility Sysml v) (word Sysml (codes "comment") ∷ []) (short_name Sysml m.short) (declared_name Sysml m.name) (abouts Sysml qs)
    (locale_tokens Sysml lo) (note body ∷ [])

-- Aliases and imports.

-- an alias
pub alias_is : (d : Data) (m : Membership) (r : ℕ) (v : Visibility) (a : Aliasing) → m.visibility ≡ v → m.short ≡ a.names.short → m.name ≡ a.names.name
    → path_at d r ≡ path a.target → alias_tokens d m r ≡ member_visibility d.language v ++ aliasing d.language a
alias_is d m r v a e f g h =
    let l = d.language in
    let rest = λ (s n : Option (List ℕ)) (p : Path). word l (codes "alias") ∷ ((short_name l s ++ declared_name l n) ++ (word l (codes "for") ∷ (named l p
    ++ sign (codes ";") ∷ []))) in
    ap (λ z. member_visibility l z ++ rest m.short m.name (path_at d r)) e
    ∙ (ap (λ z. member_visibility l v ++ rest z m.name (path_at d r)) f
    ∙ (ap (λ z. member_visibility l v ++ rest a.names.short z (path_at d r)) g
    ∙ (ap (λ z. member_visibility l v ++ rest a.names.short a.names.name z) h
    ∙ ap (λ ps. member_visibility l v ++ (word l (codes "alias") ∷ (name_tokens l a.names ++ (word l (codes "for") ∷ (ps ++ sign (codes ";") ∷ [])))))
    (qualified_is l a.target))))

-- an import
pub import_are : (d : Data) (i : Importation) (v : Visibility) (x : Importing) → i.visibility ≡ v → i.all ≡ x.all → i.star ≡ x.star → i.recursive ≡ x.deep
    → path_at d i.reference ≡ path x.name → import_tokens d i ≡ word d.language (visibility_word v) ∷ importing d.language x
import_are d i v x e f g h p =
    let l = d.language in
    let rest = λ (a s r : Bool) (q : Path). word l (codes "import") ∷ (word_if l a (codes "all") ++ (named l q ++ (star_tokens s (codes "*")
    ++ (star_tokens r (codes "**") ++ sign (codes ";") ∷ [])))) in
    ap (λ z. word l (visibility_word z) ∷ rest i.all i.star i.recursive (path_at d i.reference)) e
    ∙ (ap (λ z. word l (visibility_word v) ∷ rest z i.star i.recursive (path_at d i.reference)) f
    ∙ (ap (λ z. word l (visibility_word v) ∷ rest x.all z i.recursive (path_at d i.reference)) g
    ∙ (ap (λ z. word l (visibility_word v) ∷ rest x.all x.star z (path_at d i.reference)) h
    ∙ (ap (λ z. word l (visibility_word v) ∷ rest x.all x.star x.deep z) p
    ∙ ap (λ ps. word l (visibility_word v) ∷ word l (codes "import") ∷ (word_if l x.all (codes "all") ++ (ps ++ (star_tokens x.star (codes "*")
    ++ (star_tokens x.deep (codes "**") ++ sign (codes ";") ∷ []))))) (qualified_is l x.name)))))

-- Ends.

-- the name of an end
end_name_is : (l : Language) (n : Option (List ℕ)) → end_name_tokens l n ≡ end_name l n
end_name_is l None = refl
end_name_is l (Some s) = refl

-- an end
pub ending_is : (file : FileNo) (l : Language) (w : Walk) (c s n : ℕ) (e : Ending) → Knows (model_of file l w) c s (end_draft n e)
    → end_tokens (model_of file l w) c ≡ ending l e
ending_is file l w c s n e k =
    let d = model_of file l w in
    let x = end_draft n e in
    ap (λ (y : Element). bounds_tokens d y.bounds ++ (end_name_tokens l y.name ++ listed l (references_in d is_specialisation c))) k.element_is
    ∙ (ap (λ ps. ps ++ (end_name_tokens l e.name ++ listed l (references_in d is_specialisation c))) (bounds_are d c s x k e.extent refl)
    ∙ (ap (λ ps. extent l e.extent ++ (ps ++ listed l (references_in d is_specialisation c))) (end_name_is l e.name)
    ∙ (ap (λ rs. extent l e.extent ++ (end_name l e.name ++ listed l rs)) (k.references_are is_specialisation)
    ∙ (ap (λ ms. extent l e.extent ++ (end_name l e.name ++ listed l (map (reference c) ms))) (own_alone is_specialisation x refl refl refl)
    ∙ ap (λ ps. extent l e.extent ++ (end_name l e.name ++ ps)) (chained_is l e.chain)))))
