-- Every tree of items that fits is read back: the theorem.
use Rattle.std.proofs.Common.{◌≡◌, ℕ, List, [], ◌∷◌, ◌++◌, length, refl, ap, sym, subst, ◌∙◌, append-nil}
use Rattle.std.specs.Prelude.{map}
use Rattle.element_store.specs.declared.outcome.Language.{Language}
use Rattle.element_store.specs.declared.outcome.Language.TheVariants.{Kerml, Sysml}
use Rattle.element_store.specs.declared.kind.Visibility.{Visibility}
use Rattle.token_core.specs.declared.token.Token.{Token}
use Rattle.token_core.specs.Terminals.{terminal}
use Rattle.ll_core.specs.declared.grammar.Symbol.TheVariants.{Inner}
use Rattle.ll_core.specs.Derives.{IsDerivation}
use Rattle.kerml_grammar.specs.Grammar.{kerml_table}
use Rattle.sysml_grammar.specs.Grammar.{sysml_table}
use Rattle.text_model.specs.declared.action.Action.{Action}
use Rattle.text_model.specs.declared.action.Action.TheVariants as action
use Rattle.text_model.specs.declared.draft.Draft.{Draft}
use Rattle.text_model.specs.declared.draft.Reading.{Reading}
use Rattle.text_model.specs.Languages.{grammar_of}
use Rattle.text_model.specs.Tables.{tables}
use Rattle.text_model.specs.Walk.{fresh}
use Rattle.text_model.specs.Profile.{kinds_of, start, drafts_of}
use Rattle.print_model.specs.Printed.{Printed, word, heard}
use Rattle.print_model.specs.Heads.{visibility_word, member_visibility}
use Rattle.print_model.specs.Unplaced.{seen}
use Rattle.print_model.specs.ReadBack.{kinds}
use Rattle.print_model.proofs.BareWalk.{Bare, bare_walk}
use Rattle.print_model.proofs.Erased.{erased, walk_bare}
use Rattle.print_model.proofs.Readings.{Reads}
use Rattle.print_laws.specs.Items.{Importing, Aliasing, Noting, Thing, Items, Empty, Import, Alias, Note, Member}
use Rattle.print_laws.specs.Items as items
use Rattle.print_laws.specs.ItemTokens.{importing, aliasing, noting, thing, is_bare, enclosed, resulting, tokens}
use Rattle.print_laws.specs.ItemWalk.{Grown, changed_self, begun, ended, with_ends, with_import, with_alias, note_draft, thing_draft, names_in, ends_in, with_names, with_result, next_number, grow}
use Rattle.print_laws.specs.Fitting.{Place, Anywhere, Enumerating, Calculating, Requiring, StandsIn, IsOpen, AreFitting, place_in}
use Rattle.print_laws.specs.ItemsReadBack.{rooted, ItemsReadBack}
use Rattle.print_laws.proofs.Symbols as symbol
use Rattle.print_laws.proofs.Productions as rule
use Rattle.print_laws.proofs.SysmlProductions as sysml
use Rattle.print_laws.proofs.Steps.{inside, grouped, to_end, waited, opened, next_is}
use Rattle.print_laws.proofs.Heads.{named_reading}
use Rattle.print_laws.proofs.Bodies.{HasPlace, many_symbol, item_symbol, awaiting, written_visibility, visibility_read, no_items, item_then, body_read}
use Rattle.print_laws.proofs.Things.{thing_read}
use Rattle.print_laws.proofs.Notes.{noting_read, aliasing_read, importing_read}

-- an import where it stands
import_here : (l : Language) (place : Place) (v : Visibility) (es : List Draft) (g : Grown) (r : Reading) (x : Importing) → IsOpen place → HasPlace l place
    → Reads l action.Group (Inner (item_symbol l place) ∷ []) (importing l x) (awaiting v (inside es g r)) (inside es (with_import (length es) v x g) r)
import_here l Anywhere v es g r x o h = grouped (rule.content_0 l) (importing_read l action.Group v es g r x)
import_here l Calculating v es g r x o h = grouped (rule.one_import_alias_note_0 l) (importing_read l action.Group v es g r x)
import_here l Enumerating v es g r x o h = absurd o
import_here Kerml Requiring v es g r x o h = absurd h
import_here Sysml Requiring v es g r x o h =
    grouped sysml.one_content_subject_use_tail_0 (grouped (rule.content_0 Sysml) (importing_read Sysml action.Group v es g r x))

-- an alias
alias_here : (l : Language) (place : Place) (v : Visibility) (es : List Draft) (g : Grown) (r : Reading) (x : Aliasing) → IsOpen place → HasPlace l place
    → Reads l action.Group (Inner (item_symbol l place) ∷ []) (aliasing l x) (waited v (inside es g r)) (inside es (with_alias (length es) v x g) r)
alias_here l Anywhere v es g r x o h = grouped (rule.content_1 l) (aliasing_read l action.Group v es g r x)
alias_here l Calculating v es g r x o h = grouped (rule.one_import_alias_note_1 l) (aliasing_read l action.Group v es g r x)
alias_here l Enumerating v es g r x o h = absurd o
alias_here Kerml Requiring v es g r x o h = absurd h
alias_here Sysml Requiring v es g r x o h =
    grouped sysml.one_content_subject_use_tail_0 (grouped (rule.content_1 Sysml) (aliasing_read Sysml action.Group v es g r x))

-- a documentation or a comment
note_here : (l : Language) (place : Place) (v : Visibility) (es : List Draft) (g : Grown) (r : Reading) (x : Noting) → HasPlace l place
    → Reads l action.Group (Inner (item_symbol l place) ∷ []) (noting l x) (waited v (inside es g r))
    (inside es (ended g (begun (length es) v (note_draft (length es) x) g)) r)
note_here l Anywhere v es g r x h = grouped (rule.content_2 l) (noting_read l action.Group v es g r x)
note_here l Calculating v es g r x h = grouped (rule.one_import_alias_note_2 l) (noting_read l action.Group v es g r x)
note_here Kerml Enumerating v es g r x h = absurd h
note_here Sysml Enumerating v es g r x h = grouped sysml.one_note_enum_use_tail_0 (noting_read Sysml action.Group v es g r x)
note_here Kerml Requiring v es g r x h = absurd h
note_here Sysml Requiring v es g r x h =
    grouped sysml.one_content_subject_use_tail_0 (grouped (rule.content_2 Sysml) (noting_read Sysml action.Group v es g r x))

-- the language of a thing has bodies of the sort of its own
pub place_of : (l : Language) (place : Place) (t : Thing) → HasPlace l place → StandsIn l place t → HasPlace l (place_in t)
place_of Kerml Enumerating t h i = absurd h
place_of Kerml Requiring t h i = absurd h
place_of Kerml Anywhere (items.Defined b k n general) h i = absurd i
place_of Kerml Anywhere (items.Used p u x v) h i = absurd i
place_of Kerml Anywhere (items.Returned b u x v) h i = absurd i
place_of Kerml Calculating (items.Defined b k n general) h i = absurd i
place_of Kerml Calculating (items.Used p u x v) h i = absurd i
place_of Kerml Calculating (items.Returned b u x v) h i = absurd i
place_of Kerml place t h i = tt
place_of Sysml place t h i = tt

-- the items of a body
pub items_read : (l : Language) (place : Place) (xs : Items) → HasPlace l place → AreFitting l place xs → (a : Action) (es : List Draft) (g : Grown)
    (r : Reading)
    → Reads l a (Inner (many_symbol l place) ∷ []) (tokens l xs) (inside es g r) (inside es (grow (length es) xs g) r)
items_read l place Empty h f a es g r = no_items l place a (inside es g r) h
items_read l place (Import v x xs) h f a es g r =
    item_then l place a (word l (visibility_word v) ∷ []) (importing l x) (tokens l xs) _ _ _ _ h (written_visibility l action.Group (inside es g r) v)
    (import_here l place v es g r x f.0 h) (items_read l place xs h f.1 action.Group es (with_import (length es) v x g) r)
items_read l place (Alias v x xs) h f a es g r =
    item_then l place a (member_visibility l v) (aliasing l x) (tokens l xs) _ _ _ _ h (visibility_read l action.Group es g r v)
    (alias_here l place v es g r x f.0 h) (items_read l place xs h f.1 action.Group es (with_alias (length es) v x g) r)
items_read l place (Note v x xs) h f a es g r =
    item_then l place a (member_visibility l v) (noting l x) (tokens l xs) _ _ _ _ h (visibility_read l action.Group es g r v)
    (note_here l place v es g r x h) (items_read l place xs h f action.Group es (ended g (begun (length es) v (note_draft (length es) x) g)) r)
items_read l place (Member v t body result xs) h f a es g r =
    let n = length (opened es g) in
    let b = begun (length es) v (thing_draft (length es) t) g in
    let inner = place_of l place t h f.0 in
    let q = named_reading (names_in t) in
    let whole = λ (c : ℕ). ended g (changed_self (λ d. with_names (names_in t) (with_result result d)) (grow c body (with_ends c (ends_in t) b))) in
    item_then l place a (member_visibility l v) (thing l t (enclosed (is_bare body result) (tokens l body ++ resulting l result))) (tokens l xs) _ _ _ _ h
    (visibility_read l action.Group es g r v)
    (to_end (ap (λ c. inside es (whole c) r) (next_is es g))
    (thing_read l place t v es g (enclosed (is_bare body result) (tokens l body ++ resulting l result))
    (changed_self (with_result result) (grow n body (with_ends n (ends_in t) b))) h f.0 f.1
    (λ c. body_read l (place_in t) c (opened es g) (with_ends n (ends_in t) b) q body result inner f.3
    (items_read l (place_in t) body inner f.2 action.Group (opened es g) (with_ends n (ends_in t) b) q)) action.Group r))
    (items_read l place xs h f.4 action.Group es (whole (next_number (length es) g)) r)

-- each language has plain bodies
pub anywhere : (l : Language) → HasPlace l Anywhere
anywhere Kerml = tt
anywhere Sysml = tt

-- a whole text
pub text_read : (l : Language) (xs : Items) → AreFitting l Anywhere xs
    → Reads l action.Group (Inner (symbol.file l) ∷ []) (tokens l xs) (inside [] rooted fresh) (inside [] (grow 0 xs rooted) fresh)
text_read l xs f = grouped (rule.file l) (items_read l Anywhere xs (anywhere l) f action.Group [] rooted fresh)

-- the kinds of tokens are those that were printed
kinds_seen : (text : List ℕ) (ts : List Token) → kinds (map (seen text) ts) ≡ kinds_of ts
kinds_seen text [] = refl
kinds_seen text (t ∷ ts) = ap (λ ks. terminal t.kind ∷ ks) (kinds_seen text ts)

-- space behind a token is no part of its kind
kinds_heard : (ps : List Printed) → kinds (map heard ps) ≡ kinds ps
kinds_heard [] = refl
kinds_heard (p ∷ ps) = ap (λ ks. terminal p.kind ∷ ks) (kinds_heard ps)

-- the start symbol
starts : (l : Language) → (grammar_of l).start ≡ symbol.file l
unfolding grammar_of kerml_table sysml_table
starts Kerml = refl
starts Sysml = refl

-- the theorem
pub items_read_back : ItemsReadBack
items_read_back l xs text ts f stands =
    let r = text_read l xs f in
    let all : erased text (drafts_of l text ts r.forest) ≡ record { now = inside [] (grow 0 xs rooted) fresh; rest = [] } =
    sym (walk_bare (tables l) text action.Group r.forest (start ts))
    ∙ (ap (λ ps. bare_walk (tables l) action.Group r.forest (record { now = inside [] rooted fresh; rest = ps })) (stands ∙ sym (append-nil (map heard
    (tokens l xs))))
    ∙ r.walked []) in
    record {
      forest = r.forest;
      derived = (
        subst (λ s. IsDerivation (grammar_of l) (Inner s ∷ []) r.forest) (sym (starts l)) r.derived,
        r.spelt ∙ (sym (kinds_heard (tokens l xs)) ∙ (ap kinds (sym stands) ∙ kinds_seen text ts)),
      );
      walked = ap (λ (b : Bare). b.now) all;
    }
