-- The members and the imports of a model are those that are written.
use Rattle.std.proofs.Common.{◌≡◌, ℕ, ◌+◌, ◌<◌, List, [], ◌∷◌, ◌++◌, length, refl, ap, sym, subst, ◌∙◌, arith, length-append, append_assoc, append-nil}
use Rattle.std.specs.Prelude.{map, Option, Some, None}
use Rattle.std.proofs.lemmas.List.{map-append}
use Rattle.token_core.specs.declared.token.Token.{Token}
use Rattle.ll_core.specs.Derives.{Forest, Nothing, Token as Leaf, Node}
use Rattle.text_model.specs.declared.action.Action.{Action}
use Rattle.text_model.specs.declared.action.Action.TheVariants.{Group, NamedEnd, Element, Take, Level, Tail}
use Rattle.text_model.specs.declared.action.Taking.{Taking}
use Rattle.text_model.specs.declared.action.Taking.TheVariants as taking
use Rattle.text_model.specs.declared.draft.Draft.{Draft}
use Rattle.text_model.specs.declared.draft.DraftTarget.{DraftTarget}
use Rattle.text_model.specs.declared.draft.DraftTarget.TheVariants.{Owned, Alias}
use Rattle.text_model.specs.declared.draft.DraftMember.{DraftMember}
use Rattle.text_model.specs.declared.draft.DraftImport.{DraftImport}
use Rattle.text_model.specs.declared.draft.Reading.{Reading}
use Rattle.text_model.specs.Tables.{Tables, tables, action_at}
use Rattle.text_model.specs.Walk.{Walk, Frame, saved, owned_member, entered, alias_member, import_of, given, left, taken, walk}
use Rattle.text_model.specs.Numbering.{member, member_of, import_of as numbered_import, model_of}
use Rattle.text_model.specs.Profile.{drafts_of, start}
use Rattle.text_laws.specs.Written.{element_of, inner_owner, elements_in, behind, own_tokens}
use Rattle.text_laws.specs.WrittenItems.{WrittenMember, makes_element, count_elements, element_member, alias_of, import_owner, members_in, importers_in, as_written, HasWrittenItems, ItemsAreWritten}
use Rattle.text_laws.proofs.CoherenceLaws.{alike_from}
use Rattle.text_laws.proofs.WrittenWalk.{walk_writes, length_written, current_entered, length_entered, open_entered}
use Rattle.text_laws.proofs.OutcomeLaws.{same_drafts}

owned_in : DraftTarget → Option ℕ
owned_in (Owned e) = Some e
owned_in (Alias k) = None

draft_member : DraftMember → WrittenMember
draft_member m = record { owner = m.owner; element = owned_in m.target }

-- from one walk to another these members and imports are new
record Lists (w v : Walk) (ms : List WrittenMember) (is : List ℕ) : Type 0 where
  members : map draft_member v.members ≡ map draft_member w.members ++ ms
  imports : map (λ i. i.owner) v.imports ≡ map (λ i. i.owner) w.imports ++ is

lists_through : (w v u : Walk) (ms ns : List WrittenMember) (is js : List ℕ) → Lists w v ms is → Lists v u ns js → Lists w u (ms ++ ns) (is ++ js)
lists_through w v u ms ns is js g h = record {
  members = h.members ∙ (ap (λ xs. xs ++ ns) g.members ∙ append_assoc (map draft_member w.members) ms ns);
  imports = h.imports ∙ (ap (λ xs. xs ++ js) g.imports ∙ append_assoc (map (λ (i : DraftImport). i.owner) w.imports) is js);
}

lists_none : (w v : Walk) → v.members ≡ w.members → v.imports ≡ w.imports → Lists w v [] []
lists_none w v ms is = record {
  members = ap (map draft_member) ms ∙ sym (append-nil (map draft_member w.members));
  imports = ap (map (λ (i : DraftImport). i.owner)) is ∙ sym (append-nil (map (λ (i : DraftImport). i.owner) w.imports));
}

lists_entered : (a : Action) (w : Walk) → Lists w (entered a w) (element_member a w.current (length w.elements)) []
unfolding draft_member owned_in
lists_entered (Element k) w = record {
  members = map-append draft_member w.members (owned_member w ∷ []);
  imports = sym (append-nil (map (λ (i : DraftImport). i.owner) w.imports));
}
lists_entered (Take d) w = lists_none w (entered (Take d) w) refl refl
lists_entered NamedEnd w = lists_none w (entered NamedEnd w) refl refl
lists_entered Level w = lists_none w (entered Level w) refl refl
lists_entered Tail w = lists_none w (entered Tail w) refl refl
lists_entered other w = lists_none w w refl refl

lists_given : (d : Taking) (f : Frame) (r : Reading) (w : Walk) → Lists w (given d f r w) (alias_of (Take d) w.current) (import_owner (Take d) w.current)
unfolding draft_member owned_in
lists_given taking.Alias f r w = record {
  members = map-append draft_member w.members (alias_member f r w ∷ []);
  imports = sym (append-nil (map (λ (i : DraftImport). i.owner) w.imports));
}
lists_given taking.Import f r w = record {
  members = sym (append-nil (map draft_member w.members));
  imports = map-append (λ (i : DraftImport). i.owner) w.imports (import_of f r w ∷ []);
}
lists_given taking.Subclass f r w = lists_none w (given taking.Subclass f r w) refl refl
lists_given taking.Typing f r w = lists_none w (given taking.Typing f r w) refl refl
lists_given taking.Subsetting f r w = lists_none w (given taking.Subsetting f r w) refl refl
lists_given taking.Redefinition f r w = lists_none w (given taking.Redefinition f r w) refl refl
lists_given taking.ReferenceSubsetting f r w = lists_none w (given taking.ReferenceSubsetting f r w) refl refl
lists_given taking.Bounds f r w = lists_none w (given taking.Bounds f r w) refl refl
lists_given taking.Value f r w = lists_none w (given taking.Value f r w) refl refl
lists_given taking.Result f r w = lists_none w (given taking.Result f r w) refl refl

lists_left : (a : Action) (f : Frame) (w : Walk) → Lists w (left a f w) (alias_of a w.current) (import_owner a w.current)
lists_left (Element k) f w = lists_none w (left (Element k) f w) refl refl
lists_left (Take d) f w =
    let g = lists_given d f w.reading (record w { reading = f.reading }) in
    record { members = g.members; imports = g.imports }
lists_left NamedEnd f w = lists_none w w refl refl
lists_left Level f w = lists_none w (left Level f w) refl refl
lists_left Tail f w = lists_none w w refl refl
lists_left other f w = lists_none w w refl refl

-- an alias or an import has the element around it that is open there
alias_around : (a : Action) (around n : ℕ) → alias_of a (inner_owner a around n) ≡ alias_of a around
alias_around (Element k) around n = refl
alias_around (Take d) around n = refl
alias_around other around n = refl

import_around : (a : Action) (around n : ℕ) → import_owner a (inner_owner a around n) ≡ import_owner a around
import_around (Element k) around n = refl
import_around (Take d) around n = refl
import_around other around n = refl

-- as many elements as are counted
one_element : (a : Action) (around : ℕ) (own : List Token) → length (element_of a around own) ≡ makes_element a
one_element (Element k) around own = refl
one_element (Take d) around own = refl
one_element other around own = refl

elements_counted : (t : Tables) (around n : ℕ) (f : Forest) (ts : List Token) → length (elements_in t around n f ts) ≡ count_elements t f
elements_counted t around n Nothing ts = refl
elements_counted t around n (Leaf k f) ts = elements_counted t around n f _
elements_counted t around n (Node p below f) ts =
    let a = action_at t p in
    let here = element_of a around (own_tokens t below ts) in
    let inner = elements_in t (inner_owner a around n) (n + length here) below ts in
    let rest = elements_in t around (n + length here + length inner) f (behind below ts) in
    omega (
      arith,
      length-append here (inner ++ rest),
      length-append inner rest,
      one_element a around (own_tokens t below ts),
      elements_counted t (inner_owner a around n) (n + length here) below ts,
      elements_counted t around (n + length here + length inner) f (behind below ts),
    )

walk_lists : (t : Tables) (text : List ℕ) (a : Action) (f : Forest) (w : Walk) → w.current < length w.elements
    → Lists w (walk t text a f w) (members_in t w.current (length w.elements) f) (importers_in t w.current (length w.elements) f)
walk_lists t text a Nothing w open_ = lists_none w w refl refl
walk_lists t text a (Leaf k f) w open_ =
    let v = taken t text a w in
    let s = alike_from t text a w.rest w in
    let x = walk_writes t text a (Leaf k Nothing) w open_ in
    let long : length v.elements ≡ length w.elements = omega (arith, length_written t text w v (Leaf k Nothing) x) in
    let h = walk_lists t text a f v (omega (arith, open_, long, s.current)) in
    let u = walk t text a f v in
    let h1 = subst (λ n. Lists v u (members_in t v.current n f) (importers_in t v.current n f)) long h in
    let h2 = subst (λ c. Lists v u (members_in t c (length w.elements) f) (importers_in t c (length w.elements) f)) s.current h1 in
    lists_through w v u [] (members_in t w.current (length w.elements) f) [] (importers_in t w.current (length w.elements) f)
    (lists_none w v s.members s.imports) h2
walk_lists t text a (Node p below f) w open_ =
    let b = action_at t p in
    let e = entered b w in
    let v = walk t text b below e in
    let l = left b (saved b w) v in
    let u = walk t text a f l in
    let n = length w.elements in
    let c = inner_owner b w.current n in
    let m = n + (makes_element b + count_elements t below) in
    let n_is : length e.elements ≡ n + makes_element b = length_entered b w [] ∙ ap (λ k. n + k) (one_element b w.current []) in
    let i = walk_writes t text b below e (open_entered b w open_) in
    let v_is : v.current ≡ c = i.goes.current ∙ current_entered b w in
    let h = walk_lists t text b below e (open_entered b w open_) in
    let h1 = subst (λ k. Lists e v (members_in t e.current k below) (importers_in t e.current k below)) n_is h in
    let h2 = subst (λ o. Lists e v (members_in t o (n + makes_element b) below) (importers_in t o (n + makes_element b) below)) (current_entered b w) h1 in
    let g = lists_left b (saved b w) v in
    let g1 = subst (λ o. Lists v l (alias_of b o) (import_owner b o)) v_is g in
    let g2 = subst (λ xs. Lists v l xs (import_owner b c)) (alias_around b w.current n) g1 in
    let g3 = subst (λ xs. Lists v l (alias_of b w.current) xs) (import_around b w.current n) g2 in
    let s = walk_writes t text a (Node p below Nothing) w open_ in
    let long : length l.elements ≡ m =
    length_written t text w l (Node p below Nothing) s
    ∙ ap (λ k. n + k) (elements_counted t w.current n (Node p below Nothing) w.rest ∙ omega arith) in
    let r = walk_lists t text a f l (omega (arith, open_, long, s.goes.current)) in
    let r1 = subst (λ k. Lists l u (members_in t l.current k f) (importers_in t l.current k f)) long r in
    let r2 = subst (λ o. Lists l u (members_in t o m f) (importers_in t o m f)) s.goes.current r1 in
    lists_through w e u (element_member b w.current n) _ [] _ (lists_entered b w)
    (lists_through e v u (members_in t c (n + makes_element b) below) _ (importers_in t c (n + makes_element b) below) _ h2
    (lists_through v l u (alias_of b w.current) _ (import_owner b w.current) _ g3 r2))

-- the numbering keeps what is written
member_kept : (ds : List Draft) (ms : List DraftMember) → map as_written (map (member ds) ms) ≡ map draft_member ms
unfolding draft_member owned_in
member_kept ds [] = refl
member_kept ds (m ∷ ms) = ap (λ x. x ∷ map as_written (map (member ds) ms)) (one m.target) ∙ ap (λ xs. draft_member m ∷ xs) (member_kept ds ms) where
  one : (t : DraftTarget) → as_written (member_of ds t m) ≡ record { owner = m.owner; element = owned_in t }
  one (Owned e) = refl
  one (Alias k) = refl

import_kept : (ds : List Draft) (is : List DraftImport) → map (λ i. i.owner) (map (numbered_import ds) is) ≡ map (λ i. i.owner) is
import_kept ds [] = refl
import_kept ds (i ∷ is) = ap (λ os. i.owner ∷ os) (import_kept ds is)

pub items_are_written : ItemsAreWritten
items_are_written file language text d tokens tree p read =
    let t = tables language in
    let w = drafts_of language text tokens tree in
    let same = p.model ∙ ap (model_of file language) (same_drafts language text p.tokens tokens p.tree tree p.read read) in
    let h = walk_lists t text Group tree (start tokens) (omega arith) in
    subst (HasWrittenItems t tree) (sym same)
    (record { members = member_kept w.elements w.members ∙ h.members; imports = import_kept w.elements w.imports ∙ h.imports })
