-- The lists are those of the model.
use Rattle.std.proofs.Common.{◌≡◌, ℕ, ◌+◌, List, [], ◌∷◌, map, refl, ap, ◌∙◌}
use Rattle.std.specs.Prelude.{Option, slice_get, slice_index_or}
use Rattle.element_store.specs.declared.lists.Item.{Item}
use Rattle.element_store.specs.declared.records.Element.{Element}
use Rattle.element_store.specs.declared.records.Member.{Member}
use Rattle.element_store.specs.declared.records.Target.{Target}
use Rattle.element_store.specs.declared.records.Target.TheVariants as target
use Rattle.element_store.specs.declared.records.Reference.{Reference}
use Rattle.element_store.specs.declared.records.Import.{Import}
use Rattle.element_store.specs.Model.{Data}
use Rattle.text_model.specs.declared.draft.Draft.{Draft}
use Rattle.text_model.specs.declared.draft.DraftImport.{DraftImport}
use Rattle.text_model.specs.declared.draft.DraftMember.{DraftMember}
use Rattle.text_model.specs.declared.draft.DraftTarget.{DraftTarget}
use Rattle.text_model.specs.declared.draft.DraftTarget.TheVariants.{Owned, Alias}
use Rattle.text_model.specs.Numbering.{base_from, draft_at, import_of, member, member_of, model_of}
use Rattle.text_model.specs.Walk.{Walk}
use Rattle.draft_numbers.specs.declared.numbering.Heading.{Heading}
use Rattle.draft_numbers.specs.Numbered.{Lists, data_with, import_as, inner_reference, member_as, name_of, next, no_lists, short_of, with_drafts}
use Rattle.draft_numbers.proofs.Grown.{base_at, bases_from, bases_grown, elements_grown, end_grown, items_grown, name_at, places_grown, references_grown, result_places_grown, short_at, value_places_grown}

same_map : {A B : Type 0} (f g : A → B) → ((x : A) → f x ≡ g x) → (xs : List A) → map f xs ≡ map g xs
same_map f g same [] = refl
same_map f g same (x ∷ xs) = ap (λ y. y ∷ map f xs) (same x) ∙ ap (λ ys. g x ∷ ys) (same_map f g same xs)

base_is : (ds : List Draft) (e k : ℕ) → inner_reference (with_drafts no_lists ds) e k ≡ base_from 0 ds e + k
base_is ds e k = ap (λ n. n + k)
    (ap (λ bs. slice_index_or bs e (next (with_drafts no_lists ds).refs)) (bases_grown no_lists ds)
    ∙ (ap (λ n. slice_index_or (bases_from 0 ds) e n) (end_grown no_lists ds) ∙ base_at 0 ds e))

short_is : (ds : List Draft) (e : ℕ) → short_of (slice_get (with_drafts no_lists ds).elements e) ≡ (draft_at ds e).short
short_is ds e = ap (λ es. short_of (slice_get es e)) (elements_grown no_lists ds) ∙ short_at 0 ds e

name_is : (ds : List Draft) (e : ℕ) → name_of (slice_get (with_drafts no_lists ds).elements e) ≡ (draft_at ds e).name
name_is ds e = ap (λ es. name_of (slice_get es e)) (elements_grown no_lists ds) ∙ name_at 0 ds e

-- the member of a draft, with this target and these names
abbrev named_as : DraftMember → Target → Option (List ℕ) → Option (List ℕ) → Member
named_as m t s n = record { owner = m.owner; target = t; short = s; name = n; visibility = m.visibility }

member_is : (ds : List Draft) (t : DraftTarget) (m : DraftMember) → member_as (with_drafts no_lists ds) t m ≡ member_of ds t m
member_is ds (Owned e) m =
    ap (λ s. named_as m (target.Owned e) s (name_of (slice_get (with_drafts no_lists ds).elements e))) (short_is ds e)
    ∙ ap (λ n. named_as m (target.Owned e) (draft_at ds e).short n) (name_is ds e)
member_is ds (Alias k) m =
    ap (λ r. named_as m (target.Alias r) m.short m.name) (base_is ds m.owner k)

import_is : (ds : List Draft) (i : DraftImport) → import_as (with_drafts no_lists ds) i ≡ import_of ds i
import_is ds i = ap (λ r. record { owner = i.owner; reference = r; star = i.star; recursive = i.recursive; all = i.all; visibility = i.visibility })
    (base_is ds i.owner i.at)

-- lists that are equal make data that are equal
data_are : (d : Data) (es : List Element) (is : List (List Item)) (rs : List Reference) (rp : List ℕ) (vp sp : List (List ℕ))
    → d.elements ≡ es → d.items ≡ is → d.references ≡ rs → d.reference_places ≡ rp → d.value_places ≡ vp → d.result_places ≡ sp
    → d ≡ record d { elements = es; items = is; references = rs; reference_places = rp; value_places = vp; result_places = sp }
data_are d es is rs rp vp sp a b e h i j =
    ap (λ x. record d { elements = x }) a
    ∙ (ap (λ x. record d { elements = es; items = x }) b
    ∙ (ap (λ x. record d { elements = es; items = is; references = x }) e
    ∙ (ap (λ x. record d { elements = es; items = is; references = rs; reference_places = x }) h
    ∙ (ap (λ x. record d { elements = es; items = is; references = rs; reference_places = rp; value_places = x }) i
    ∙ ap (λ x. record d { elements = es; items = is; references = rs; reference_places = rp; value_places = vp; result_places = x }) j))))

-- the members of a walk, numbered by lists, and its imports
abbrev members_by : Lists → List DraftMember → List Member
members_by l ms = map (λ m. member_as l m.target m) ms

abbrev imports_by : Lists → List DraftImport → List Import
imports_by l is = map (import_as l) is

members_are : (ds : List Draft) (ms : List DraftMember) → members_by (with_drafts no_lists ds) ms ≡ map (member ds) ms
members_are ds ms = same_map (λ (m : DraftMember). member_as (with_drafts no_lists ds) m.target m) (member ds) (λ m. member_is ds m.target m) ms

imports_are : (ds : List Draft) (is : List DraftImport) → imports_by (with_drafts no_lists ds) is ≡ map (import_of ds) is
imports_are ds is = same_map (import_as (with_drafts no_lists ds)) (import_of ds) (import_is ds) is

-- the lists that took all drafts, with numbered members and imports
taken_is : (h : Heading) (w : Walk) → data_with h (with_drafts no_lists w.elements) (map (member w.elements) w.members) (map (λ m. m.place) w.members)
    (map (import_of w.elements) w.imports) ≡ model_of h.file h.language w
taken_is h w =
    let ds = w.elements in
    data_are (data_with h (with_drafts no_lists ds) (map (member ds) w.members) (map (λ m. m.place) w.members) (map (import_of ds) w.imports)) _ _ _ _ _ _
    (elements_grown no_lists ds) (items_grown no_lists ds) (references_grown no_lists ds) (places_grown no_lists ds)
    (value_places_grown no_lists ds) (result_places_grown no_lists ds)

-- the data that come of lists that took all drafts of a walk
pub model_is : (h : Heading) (w : Walk) (l : Lists) (ms : List Member) (ps : List ℕ) (is : List Import) → l ≡ with_drafts no_lists w.elements
    → ms ≡ map (λ m. member_as l m.target m) w.members → ps ≡ map (λ m. m.place) w.members → is ≡ map (import_as l) w.imports
    → data_with h l ms ps is ≡ model_of h.file h.language w
model_is h w l ms ps is grown a b c =
    let ds = w.elements in
    let ms_are = a ∙ (ap (λ (x : Lists). members_by x w.members) grown ∙ members_are ds w.members) in
    let is_are = c ∙ (ap (λ (x : Lists). imports_by x w.imports) grown ∙ imports_are ds w.imports) in
    ap (λ x. data_with h x ms ps is) grown
    ∙ (ap (λ x. data_with h (with_drafts no_lists ds) x ps is) ms_are
    ∙ (ap (λ x. data_with h (with_drafts no_lists ds) (map (member ds) w.members) x is) b
    ∙ (ap (λ x. data_with h (with_drafts no_lists ds) (map (member ds) w.members) (map (λ m. m.place) w.members) x) is_are
    ∙ taken_is h w)))
