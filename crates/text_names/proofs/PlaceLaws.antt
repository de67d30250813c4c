-- The places of a model, and the place of a fault, stand in the text or at its end.
use Rattle.std.proofs.Common.{◌≡◌, ◌∙◌, ℕ, zero, suc, ◌+◌, ◌≤◌, Bool, true, false, cond, List, [], ◌∷◌, ◌++◌, length, refl, sym, ap, subst, arith, inl, inr}
use Rattle.std.specs.Prelude.{Option, Some, None, IsUtf8, map, slice_get, nat_le, nat_lt, ◌&&◌, ◌==◌, All}
use Rattle.std.specs.List.{flat_map}
use Rattle.std.specs.Option.{option_map_or}
use Rattle.std.proofs.lemmas.Str.{utf8_valid_len_le, utf8_valid_len-IsValidUpTo}
use Rattle.std.proofs.lemmas.List.Elements.{All-nil, All-cons}
use Rattle.linker_base.specs.Members.{IsMember}
use Rattle.linker_base.proofs.Cases.{option_cases, bool_cases, some_same}
use Rattle.element_store.specs.declared.numbers.FileNo.{FileNo}
use Rattle.element_store.specs.declared.kind.Kind.TheVariants.{Root}
use Rattle.element_store.specs.declared.outcome.Language.{Language}
use Rattle.element_store.specs.declared.outcome.Role.TheVariants as role
use Rattle.element_store.specs.Model.{Data}
use Rattle.token_core.specs.declared.token.Token.{Token}
use Rattle.token_core.specs.declared.token.TheConstants.{NESTING}
use Rattle.token_core.specs.Lex.{Lex, too_deep, is_opening, nesting_after}
use Rattle.token_core.specs.Reading.{IsTokenOf}
use Rattle.token_core.proofs.Kept.{lex_token}
use Rattle.ll_core.specs.Derives.{Forest}
use Rattle.text_model.specs.declared.action.Action.TheVariants.{Group}
use Rattle.text_model.specs.declared.draft.Mention.{Mention}
use Rattle.text_model.specs.declared.draft.DraftNode.{DraftNode}
use Rattle.text_model.specs.declared.draft.DraftExpr.{DraftExpr}
use Rattle.text_model.specs.declared.draft.Draft.{Draft}
use Rattle.text_model.specs.declared.draft.DraftMember.{DraftMember}
use Rattle.text_model.specs.declared.fault.FileFault.{FileFault}
use Rattle.text_model.specs.declared.fault.FileFault.TheVariants.{Encoding, Token as BadToken, TooDeep, Syntax, Limit, NoMemory}
use Rattle.text_model.specs.Tables.{tables}
use Rattle.text_model.specs.Drafts.{name_in, names, mentions, own_role}
use Rattle.text_model.specs.Walk.{Walk}
use Rattle.text_model.specs.Numbering.{nodes_of, ends, own_mentions, bound_mentions, value_mentions, head, mentions_of, reference_places, deep_place, depths, greatest, put_in, sorted, place_over, limits, least}
use Rattle.text_model.specs.Profile.{start, drafts_of, IsRead, InProfile, IsFaultOf, token_place}
use Rattle.text_laws.specs.Fits.{Every}
use Rattle.text_laws.proofs.FittingLaws.{every_append, every_front, every_back}
use Rattle.text_laws.proofs.ReadingLaws.{NamesAt, none_read}
use Rattle.book_model.specs.Readings.{fault_place}
use Rattle.project_files.specs.Kept.{ArePlacesWithin}
use Rattle.text_names.proofs.PlaceWalk.{TokensIn, ExprIn, DraftIn, WalkIn, draft_in, mentions_in, walk_in}

-- the place stands in the text, or at its end
abbrev pub Within : List ℕ → ℕ → Type 0
Within text place = place ≤ length text

-- The names of an element.

ends_in : (P : ℕ → Type 0) (ns : List DraftNode) → NamesAt P ns → NamesAt P (ends ns)
ends_in P [] h = tt
ends_in P (x ∷ []) h = h
ends_in P (x ∷ y ∷ ns) h =
    let g = every_front (λ p. P p.place) (name_in x.what) (names (y ∷ ns)) h in
    let k = every_back (λ p. P p.place) (name_in x.what) (names (y ∷ ns)) h in
    every_append (λ p. P p.place) (name_in x.what) (names (y ∷ [])) g
    (every_append (λ p. P p.place) (name_in y.what) [] (every_front (λ p. P p.place) (name_in y.what) (names ns) k) tt)

value_in : (P : ℕ → Type 0) (e : Option DraftExpr) → ExprIn P e → NamesAt P (nodes_of e)
value_in P None h = tt
value_in P (Some e) h = h.1

all_mentions : (P : ℕ → Type 0) (d : Draft) → DraftIn P d → Every (λ m. P m.path.place) (mentions_of d)
all_mentions P d h =
    let Q : Mention → Type 0 = λ m. P m.path.place in
    every_append Q (head d) d.inner
    (every_append Q (own_mentions d) (bound_mentions d ++ value_mentions d)
    (every_append Q (mentions (own_role d.kind) d.own) d.specs (mentions_in P (own_role d.kind) d.own h.own) h.specs)
    (every_append Q (bound_mentions d) (value_mentions d)
    (mentions_in P role.Bound (names (ends d.bounds)) (ends_in P d.bounds h.bounds))
    (every_append Q (mentions role.Value (names (nodes_of d.value))) (mentions role.Value (names (nodes_of d.result)))
    (mentions_in P role.Value (names (nodes_of d.value)) (value_in P d.value h.value))
    (mentions_in P role.Value (names (nodes_of d.result)) (value_in P d.result h.result)))))
    h.inner

places_in : (P : ℕ → Type 0) (ms : List Mention) → Every (λ m. P m.path.place) ms → Every P (map (λ m. m.path.place) ms)
places_in P [] h = tt
places_in P (m ∷ ms) h = (h.0, places_in P ms h.1)

references_in : (P : ℕ → Type 0) (ds : List Draft) → Every (DraftIn P) ds → Every P (reference_places ds)
references_in P [] h = tt
references_in P (d ∷ ds) h = every_append P (map (λ (m : Mention). m.path.place) (mentions_of d)) (reference_places ds)
    (places_in P (mentions_of d) (all_mentions P d h.0)) (references_in P ds h.1)

members_in : (P : ℕ → Type 0) (ms : List DraftMember) → Every (λ m. P m.place) ms → Every P (map (λ m. m.place) ms)
members_in P [] h = tt
members_in P (m ∷ ms) h = (h.0, members_in P ms h.1)

-- Limits.

one_deep : (P : ℕ → Type 0) (b : Bool) (place : ℕ) → P place → Every P (cond b (place ∷ []) [])
one_deep P true place h = (h, tt)
one_deep P false place h = tt

deep_in : (P : ℕ → Type 0) (e : Option DraftExpr) → ExprIn P e → Every P (deep_place e)
deep_in P None h = tt
deep_in P (Some e) h = one_deep P (nat_lt 1000 (greatest (depths e.nodes []))) e.start h.0

deeps_in : (P : ℕ → Type 0) (ds : List Draft) → Every (DraftIn P) ds → Every P (flat_map (λ d. deep_place d.value ++ deep_place d.result) ds)
deeps_in P [] h = tt
deeps_in P (d ∷ ds) h = every_append P (deep_place d.value ++ deep_place d.result) _
    (every_append P (deep_place d.value) (deep_place d.result) (deep_in P d.value h.0.value) (deep_in P d.result h.0.result)) (deeps_in P ds h.1)

put_every : (P : ℕ → Type 0) (p : ℕ) (qs : List ℕ) → P p → Every P qs → Every P (put_in p qs)
put_every P p [] x h = (x, tt)
put_every P p (q ∷ qs) x h = here (nat_le p q) (put_every P p qs x h.1) where
  here : (b : Bool) → Every P (put_in p qs) → Every P (cond b (p ∷ q ∷ qs) (q ∷ put_in p qs))
  here true more = (x, h)
  here false more = (h.0, more)

sorted_every : (P : ℕ → Type 0) (ps : List ℕ) → Every P ps → Every P (sorted ps)
sorted_every P [] h = tt
sorted_every P (p ∷ ps) h = put_every P p (sorted ps) h.0 (sorted_every P ps h.1)

got_every : (P : ℕ → Type 0) (n : ℕ) (ps : List ℕ) → Every P ps → Every P (option_map_or (λ p. p ∷ []) (slice_get ps n) [])
got_every P n [] h = tt
got_every P zero (p ∷ ps) h = (h.0, tt)
got_every P (suc n) (p ∷ ps) h = got_every P n ps h.1

limits_in : (P : ℕ → Type 0) (w : Walk) → WalkIn P w → Every P (limits w)
limits_in P w h = every_append P w.large _ h.large (every_append P (flat_map (λ d. deep_place d.value ++ deep_place d.result) w.elements) _
    (deeps_in P w.elements h.drafts)
    (got_every P 262144 (sorted (reference_places w.elements)) (sorted_every P (reference_places w.elements) (references_in P w.elements h.drafts))))

-- the least of some places is one of them
least_in : (P : ℕ → Type 0) (ps : List ℕ) (q : ℕ) → Every P ps → least ps ≡ Some q → P q
least_in P [] q h is = absurd (cc)
least_in P (p ∷ ps) q h is = elim (option_cases (least ps)) [
  | inl none ↦ subst P (some_same p q (rw none at is)) h.0
  | inr (r, some) ↦
      let rest : P r = least_in P ps r h.1 some in
      either (nat_lt r p) r rest (rw some at is)
] where
  either : (b : Bool) (r : ℕ) → P r → cond b (Some r) (Some p) ≡ Some q → P q
  either true r x e = subst P (some_same r q e) x
  either false r x e = subst P (some_same p q e) h.0

-- Tokens.

tokens_every : (text : List ℕ) (ts : List Token) → ((t : Token) → IsMember ts t → IsTokenOf t.kind text t) → TokensIn (Within text) ts
tokens_every text [] on = tt
tokens_every text (t ∷ ts) on =
    let k = on t (inl refl) in
    (omega (arith, k.ordered, k.within), tokens_every text ts (λ u m. on u (inr m)))

tokens_within : (language : Language) (text : List ℕ) (tokens : List Token) → IsUtf8 text → Lex language text tokens → TokensIn (Within text) tokens
tokens_within language text tokens u l = tokens_every text tokens (lex_token language text tokens u l)

token_in : (text : List ℕ) (ts : List Token) (n : ℕ) → TokensIn (Within text) ts → Within text (token_place text ts n)
token_in text [] n h = omega arith
token_in text (t ∷ ts) zero h = h.0
token_in text (t ∷ ts) (suc n) h = token_in text ts n h.1

deep_bracket_in : (text : List ℕ) (n : ℕ) (ts : List Token) (place : ℕ) → TokensIn (Within text) ts → too_deep n ts ≡ Some place → Within text place
deep_bracket_in text n [] place h is = absurd (cc)
deep_bracket_in text n (t ∷ ts) place h is = elim (bool_cases (is_opening t.kind && (n == NESTING))) [
  | inl here ↦ subst (Within text) (some_same t.from place (rw here at is)) h.0
  | inr later ↦ deep_bracket_in text (nesting_after n t.kind) ts place h.1 (rw later at is)
]

-- The walk over the tokens of a text.

drafts_in : (language : Language) (text : List ℕ) (tokens : List Token) (tree : Forest) → TokensIn (Within text) tokens
    → WalkIn (Within text) (drafts_of language text tokens tree)
drafts_in language text tokens tree h =
    let begun : WalkIn (Within text) (start tokens) = record {
      drafts = (draft_in (Within text) Root None, tt);
      members = tt;
      waiting = tt;
      reading = none_read (Within text);
      start = tt;
      large = tt;
    } in
    (walk_in (Within text) (omega arith) (tables language) text Group tree (start tokens) h begun).0

all_every : (P : ℕ → Type 0) (ps : List ℕ) → Every P ps → All P ps
all_every P [] h = All-nil P
all_every P (p ∷ ps) h = All-cons P p ps h.0 (all_every P ps h.1)

-- the places of a model stand in its text
pub places_within : (file : FileNo) (language : Language) (text : List ℕ) (d : Data) → InProfile file language text d → ArePlacesWithin text d
places_within file language text d p =
    let w = drafts_of language text p.tokens p.tree in
    let h = drafts_in language text p.tokens p.tree (tokens_within language text p.tokens p.read.lexed.0 p.read.lexed.1) in
    let members = all_every (Within text) (map (λ (m : DraftMember). m.place) w.members) (members_in (Within text) w.members h.members) in
    let references = all_every (Within text) (reference_places w.elements) (references_in (Within text) w.elements h.drafts) in
    subst (ArePlacesWithin text) (sym p.model) (record { members = members; references = references })

-- and so does the place of a fault
pub fault_within : (language : Language) (text : List ℕ) (fault : FileFault) → IsFaultOf language text fault → fault_place fault ≤ length text
fault_within language text (Encoding place) h = omega (arith, utf8_valid_len_le text, utf8_valid_len-IsValidUpTo text place h)
fault_within language text (BadToken place) (u, (ps, rest, cut, some, none, is)) = omega (arith, is)
fault_within language text (TooDeep place) (u, (tokens, l, is)) = deep_bracket_in text 0 tokens place (tokens_within language text tokens u l) is
fault_within language text (Syntax place) (tokens, n, lexed, at, is) =
    subst (Within text) (sym is) (token_in text tokens n (tokens_within language text tokens lexed.0 lexed.1))
fault_within language text (Limit place) (tokens, tree, read, is) =
    least_in (Within text) (limits (drafts_of language text tokens tree)) place
    (limits_in (Within text) (drafts_of language text tokens tree)
    (drafts_in language text tokens tree (tokens_within language text tokens read.lexed.0 read.lexed.1))) is
fault_within language text NoMemory h = omega arith
