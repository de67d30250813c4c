-- The members of a model stand where their items begin, with the visibility that is written there.
use Rattle.std.proofs.Common.{◌≡◌, ℕ, List, [], ◌∷◌, ◌++◌, length, drop, refl, ap, sym, subst, ◌∙◌, append_assoc, append-nil}
use Rattle.std.specs.Prelude.{map, Option, None}
use Rattle.std.specs.Option.{unwrap_or}
use Rattle.std.proofs.lemmas.List.{map-append}
use Rattle.element_store.specs.declared.kind.Visibility.{Visibility}
use Rattle.element_store.specs.declared.kind.Visibility.TheVariants.{Public, Private}
use Rattle.token_core.specs.declared.token.Token.{Token}
use Rattle.token_core.specs.Terminals.{HasNumber}
use Rattle.token_core.specs.Lex.{Lex}
use Rattle.ll_core.specs.declared.grammar.Symbol.TheVariants.{Inner}
use Rattle.ll_core.specs.Derives.{Forest, Nothing, Token as Leaf, Node, tokens as kinds_in}
use Rattle.text_model.specs.declared.action.Action.{Action}
use Rattle.text_model.specs.declared.action.Action.TheVariants.{Group, NamedEnd, Element, Take, Level, Tail}
use Rattle.text_model.specs.declared.action.Taking.TheVariants as taking
use Rattle.text_model.specs.declared.draft.Draft.{Draft}
use Rattle.text_model.specs.declared.draft.DraftTarget.{DraftTarget}
use Rattle.text_model.specs.declared.draft.DraftTarget.TheVariants.{Owned, Alias}
use Rattle.text_model.specs.declared.draft.DraftMember.{DraftMember}
use Rattle.text_model.specs.declared.draft.DraftImport.{DraftImport}
use Rattle.text_model.specs.declared.draft.Seen.{Seen}
use Rattle.text_model.specs.Languages.{grammar_of}
use Rattle.text_model.specs.Tables.{Tables, tables, action_at}
use Rattle.text_model.specs.Walk.{Walk, saved, owned_member, entered, alias_member, import_of, begun_place, begun_visibility, left, taken, walk}
use Rattle.text_model.specs.Numbering.{member, member_of, import_of as numbered_import, model_of}
use Rattle.text_model.specs.Profile.{drafts_of, start}
use Rattle.text_laws.specs.Fits.{Every}
use Rattle.text_laws.specs.Written.{behind}
use Rattle.text_laws.specs.WrittenStarts.{Start, start_of, seen_before, last_in, if_element, if_alias, if_import, member_starts, import_starts, HasWrittenStarts, StartsAreWritten}
use Rattle.text_laws.proofs.CoherenceLaws.{alike_from}
use Rattle.text_laws.proofs.FittingLaws.{rest_entered, rest_left}
use Rattle.text_laws.proofs.OutcomeLaws.{same_drafts}
use Rattle.text_laws.proofs.PendingWords.{Clear, ItemPending, ItemsPending, pending_claims, pending_holds, starts_clear, walk_rest, walk_pending}
use Rattle.text_laws.proofs.TokenLaws.{tokens_fit}
use Rattle.text_laws.proofs.WholeLaws.{IsAt}
use Rattle.text_laws.proofs.WrittenWalk.{taken_rest}

-- a member or an import as it begins
pub record Begun : Type 0 where
  pub place : ℕ
  pub visibility : Visibility

abbrev pub member_begun : Start → Begun
member_begun s = record { place = s.place; visibility = unwrap_or s.visibility Public }

abbrev pub import_begun : Start → Visibility
import_begun s = unwrap_or s.visibility Private

abbrev pub draft_begun : DraftMember → Begun
draft_begun m = record { place = m.place; visibility = m.visibility }

-- from one walk to another these members and imports are new
record Begins (w v : Walk) (ms is : List Start) : Type 0 where
  members : map draft_begun v.members ≡ map draft_begun w.members ++ map member_begun ms
  imports : map (λ i. i.visibility) v.imports ≡ map (λ i. i.visibility) w.imports ++ map import_begun is

begins_through : (w v u : Walk) (ms ns is js : List Start) → Begins w v ms is → Begins v u ns js → Begins w u (ms ++ ns) (is ++ js)
begins_through w v u ms ns is js g h = record {
  members = h.members ∙ (ap (λ xs. xs ++ map member_begun ns) g.members ∙ (append_assoc (map draft_begun w.members) (map member_begun ms) (map member_begun ns)
      ∙ ap (λ xs. map draft_begun w.members ++ xs) (sym (map-append member_begun ms ns))));
  imports = h.imports ∙ (ap (λ xs. xs ++ map import_begun js) g.imports
      ∙ (append_assoc (map (λ (i : DraftImport). i.visibility) w.imports) (map import_begun is) (map import_begun js)
      ∙ ap (λ xs. map (λ (i : DraftImport). i.visibility) w.imports ++ xs) (sym (map-append import_begun is js))));
}

begins_none : (w v : Walk) → v.members ≡ w.members → v.imports ≡ w.imports → Begins w v [] []
begins_none w v ms is = record {
  members = ap (map draft_begun) ms ∙ sym (append-nil (map draft_begun w.members));
  imports = ap (map (λ (i : DraftImport). i.visibility)) is ∙ sym (append-nil (map (λ (i : DraftImport). i.visibility) w.imports));
}

begins_entered : (t : Tables) (before : Option Token) (a : Action) (w : Walk) → ItemPending a w.waiting (seen_before t before)
    → Begins w (entered a w) (if_element a (start_of t before w.rest)) []
begins_entered t before (Element k) w is = record {
  members = map-append draft_begun w.members (owned_member w ∷ [])
      ∙ ap (λ (o : Option Seen). map draft_begun w.members ++ record { place = begun_place o w.rest; visibility = unwrap_or (begun_visibility o) Public } ∷ [])
      is;
  imports = sym (append-nil (map (λ (i : DraftImport). i.visibility) w.imports));
}
begins_entered t before (Take d) w is = begins_none w (entered (Take d) w) refl refl
begins_entered t before NamedEnd w is = begins_none w (entered NamedEnd w) refl refl
begins_entered t before Level w is = begins_none w (entered Level w) refl refl
begins_entered t before Tail w is = begins_none w (entered Tail w) refl refl
begins_entered t before other w is = begins_none w w refl refl

begins_left : (t : Tables) (before : Option Token) (a : Action) (w v : Walk) → ItemPending a w.waiting (seen_before t before)
    → Begins v (left a (saved a w) v) (if_alias a (start_of t before w.rest)) (if_import a (start_of t before w.rest))
begins_left t before (Element k) w v is = begins_none v (left (Element k) (saved (Element k) w) v) refl refl
begins_left t before (Take taking.Alias) w v is = record {
  members = map-append draft_begun v.members (alias_member (saved (Take taking.Alias) w) v.reading (record v { reading = w.reading }) ∷ [])
      ∙ ap (λ (o : Option Seen). map draft_begun v.members ++ record { place = begun_place o w.rest; visibility = unwrap_or (begun_visibility o) Public } ∷ [])
      is;
  imports = sym (append-nil (map (λ (i : DraftImport). i.visibility) v.imports));
}
begins_left t before (Take taking.Import) w v is = record {
  members = sym (append-nil (map draft_begun v.members));
  imports =
      map-append (λ (i : DraftImport). i.visibility) v.imports (import_of (saved (Take taking.Import) w) v.reading (record v { reading = w.reading }) ∷ [])
      ∙ ap (λ (o : Option Seen). map (λ (i : DraftImport). i.visibility) v.imports ++ unwrap_or (begun_visibility o) Private ∷ []) is;
}
begins_left t before (Take taking.Subclass) w v is = begins_none v (left (Take taking.Subclass) (saved (Take taking.Subclass) w) v) refl refl
begins_left t before (Take taking.Typing) w v is = begins_none v (left (Take taking.Typing) (saved (Take taking.Typing) w) v) refl refl
begins_left t before (Take taking.Subsetting) w v is = begins_none v (left (Take taking.Subsetting) (saved (Take taking.Subsetting) w) v) refl refl
begins_left t before (Take taking.Redefinition) w v is = begins_none v (left (Take taking.Redefinition) (saved (Take taking.Redefinition) w) v) refl refl
begins_left t before (Take taking.ReferenceSubsetting) w v is =
    begins_none v (left (Take taking.ReferenceSubsetting) (saved (Take taking.ReferenceSubsetting) w) v) refl refl
begins_left t before (Take taking.Bounds) w v is = begins_none v (left (Take taking.Bounds) (saved (Take taking.Bounds) w) v) refl refl
begins_left t before (Take taking.Value) w v is = begins_none v (left (Take taking.Value) (saved (Take taking.Value) w) v) refl refl
begins_left t before (Take taking.Result) w v is = begins_none v (left (Take taking.Result) (saved (Take taking.Result) w) v) refl refl
begins_left t before NamedEnd w v is = begins_none v v refl refl
begins_left t before Level w v is = begins_none v (left Level (saved Level w) v) refl refl
begins_left t before Tail w v is = begins_none v v refl refl
begins_left t before other w v is = begins_none v v refl refl

walk_begins : (t : Tables) (text : List ℕ) (a : Action) (before : Option Token) (f : Forest) (w : Walk) → ItemsPending t text a before f w
    → Begins w (walk t text a f w) (member_starts t before f w.rest) (import_starts t before f w.rest)
walk_begins t text a before Nothing w h = begins_none w w refl refl
walk_begins t text a before (Leaf k f) w h =
    let v = taken t text a w in
    let u = walk t text a f v in
    let s = alike_from t text a w.rest w in
    let after = last_in before (k ∷ []) w.rest in
    let i = walk_begins t text a after f v h in
    let j = subst (λ ts. Begins v u (member_starts t after f ts) (import_starts t after f ts)) (taken_rest t text a w.rest w refl) i in
    begins_through w v u [] _ [] _ (begins_none w v s.members s.imports) j
walk_begins t text a before (Node p below f) w h =
    let b = action_at t p in
    let e = entered b w in
    let v = walk t text b below e in
    let l = left b (saved b w) v in
    let u = walk t text a f l in
    let after = last_in before (kinds_in below) w.rest in
    let i = walk_begins t text b before below e h.1 in
    let i1 = subst (λ ts. Begins e v (member_starts t before below ts) (import_starts t before below ts)) (rest_entered b w) i in
    let rest : l.rest ≡ behind below w.rest =
    rest_left b (saved b w) v ∙ (walk_rest t text b below e ∙ ap (drop (length (kinds_in below))) (rest_entered b w)) in
    let r = walk_begins t text a after f l h.2 in
    let r1 = subst (λ ts. Begins l u (member_starts t after f ts) (import_starts t after f ts)) rest r in
    begins_through w e u (if_element b (start_of t before w.rest)) _ [] _ (begins_entered t before b w h.0)
    (begins_through e v u (member_starts t before below w.rest) _ (import_starts t before below w.rest) _ i1
    (begins_through v l u (if_alias b (start_of t before w.rest)) _ (if_import b (start_of t before w.rest)) _ (begins_left t before b w v h.0) r1))

-- From drafts to the model.

visibilities : (ds : List Draft) (ms : List DraftMember) → map (λ m. m.visibility) (map (member ds) ms) ≡ map (λ x. x.visibility) (map draft_begun ms)
visibilities ds [] = refl
visibilities ds (m ∷ ms) = ap (λ v. v ∷ map (λ x. x.visibility) (map (member ds) ms)) (one m.target) ∙ ap (λ vs. m.visibility ∷ vs) (visibilities ds ms) where
  one : (t : DraftTarget) → (member_of ds t m).visibility ≡ m.visibility
  one (Owned e) = refl
  one (Alias k) = refl

places : (ms : List DraftMember) → map (λ m. m.place) ms ≡ map (λ x. x.place) (map draft_begun ms)
places [] = refl
places (m ∷ ms) = ap (λ ps. m.place ∷ ps) (places ms)

imported : (ds : List Draft) (is : List DraftImport) → map (λ i. i.visibility) (map (numbered_import ds) is) ≡ map (λ i. i.visibility) is
imported ds [] = refl
imported ds (i ∷ is) = ap (λ vs. i.visibility ∷ vs) (imported ds is)

begun_places : (ss : List Start) → map (λ x. x.place) (map member_begun ss) ≡ map (λ s. s.place) ss
begun_places [] = refl
begun_places (s ∷ ss) = ap (λ ps. s.place ∷ ps) (begun_places ss)

begun_visibilities : (ss : List Start) → map (λ x. x.visibility) (map member_begun ss) ≡ map (λ s. unwrap_or s.visibility Public) ss
begun_visibilities [] = refl
begun_visibilities (s ∷ ss) = ap (λ vs. unwrap_or s.visibility Public ∷ vs) (begun_visibilities ss)

pub starts_are_written : StartsAreWritten
starts_are_written file language text d tokens tree p read =
    let t = tables language in
    let w = drafts_of language text tokens tree in
    let same = p.model ∙ ap (model_of file language) (same_drafts language text p.tokens tokens p.tree tree p.read read) in
    let lex : Lex language text tokens = read.lexed.1 in
    let fits = tokens_fit language 0 lex.0 text [] lex.1 in
    let all : tokens ≡ _ = lex.2 in
    let numbers = subst (Every (λ (x : Token). HasNumber x.kind)) (sym all) fits.0 in
    let at : IsAt (kinds_in tree ++ []) (start tokens) = record { kinds = sym read.derived.1 ∙ sym (append-nil (kinds_in tree)); numbers = numbers } in
    let pending = walk_pending t (pending_claims language) text (grammar_of language) (pending_holds language) tree (Inner (grammar_of language).start ∷ [])
    Group [] (start tokens) None Clear Clear read.derived.0 at (starts_clear language) (refl, refl) in
    let h = walk_begins t text Group None tree (start tokens) pending.1 in
    subst (HasWrittenStarts t tree tokens) (sym same) (record {
      places = places w.members ∙ (ap (map (λ (x : Begun). x.place)) h.members ∙ begun_places (member_starts t None tree tokens));
      members = visibilities w.elements w.members ∙ (ap (map (λ (x : Begun). x.visibility)) h.members ∙ begun_visibilities (member_starts t None tree tokens));
      imports = imported w.elements w.imports ∙ h.imports;
    })
