-- All that a walk over the tokens of a text reads can be spelt again: names and their segments, texts, comments.
use Rattle.std.proofs.Common.{◌≡◌, ℕ, zero, suc, sym, subst, inl, Bool, true, false, List, [], ◌∷◌, ◌++◌, refl}
use Rattle.std.specs.Prelude.{Option, Some, None}
use Rattle.element_store.specs.declared.expression.BinaryOp.TheVariants as binary
use Rattle.token_core.specs.declared.token.Token.{Token}
use Rattle.token_core.specs.Reading.{bytes_of, name_meaning}
use Rattle.ll_core.specs.Derives.{Forest, Nothing, Token as Leaf, Node}
use Rattle.text_model.specs.declared.action.Action.{Action}
use Rattle.text_model.specs.declared.action.Action.TheVariants.{Name, Short, Segment, Step, Star, NamedEnd, Element, Take, Level, Tail}
use Rattle.text_model.specs.declared.action.Taking.{Taking}
use Rattle.text_model.specs.declared.action.Taking.TheVariants as taking
use Rattle.text_model.specs.declared.action.Operator.{Operator}
use Rattle.text_model.specs.declared.action.Operator.TheVariants as operator
use Rattle.text_model.specs.declared.action.Leaf.{Leaf as LeafWord}
use Rattle.text_model.specs.declared.action.Leaf.TheVariants as leaf
use Rattle.text_model.specs.declared.action.Meaning.{Meaning}
use Rattle.text_model.specs.declared.action.Meaning.TheVariants as meaning
use Rattle.text_model.specs.declared.draft.Path.{Path}
use Rattle.text_model.specs.declared.draft.What.{What}
use Rattle.text_model.specs.declared.draft.What.TheVariants as what
use Rattle.text_model.specs.declared.draft.DraftNode.{DraftNode}
use Rattle.text_model.specs.declared.draft.Draft.{Draft}
use Rattle.text_model.specs.declared.draft.Reading.{Reading}
use Rattle.text_model.specs.declared.draft.Waiting.{Waiting}
use Rattle.text_model.specs.Tables.{action_at, meaning_of}
use Rattle.text_model.specs.Drafts.{node, named_changed, last_changed, with_segment, with_step, joining, joined, applying, applied}
use Rattle.text_model.specs.Numbering.{nodes_of}
use Rattle.text_model.specs.Walk.{Walk, Frame, saved, changed, entered, given, left, leaf_node, meant_name, meant_operator, meant, taken_from, walk}
use Rattle.text_laws.specs.Fits.{Every}
use Rattle.text_laws.proofs.FittingLaws.{every_append, every_adjusted, rest_meant, rest_entered, rest_left}
use Rattle.std.specs.Prelude.{IsUtf8, codes, slice_index_or}
use Rattle.std.specs.List.{list_all}
use Rattle.element_store.specs.declared.kind.Kind.{Kind}
use Rattle.element_store.specs.declared.outcome.Role.{Role}
use Rattle.std.proofs.lemmas.Str.{IsUtf8-nil}
use Rattle.linker_base.proofs.Cases.{both_true}
use Rattle.token_core.specs.declared.token.TokenKind.{TokenKind}
use Rattle.token_core.specs.declared.token.TokenKind.TheVariants as kinds
use Rattle.token_core.specs.declared.token.PieceKind.TheVariants.{Token as Kept}
use Rattle.token_core.specs.Pieces.{IsPiece, IsUpToClose}
use Rattle.token_core.specs.Reading.{IsSpellable, IsTokenOf}
use Rattle.token_core.proofs.Meanings.{name_spellable, string_spellable, comment_again, comment_utf8}
use Rattle.element_store.specs.declared.outcome.Language.{Language}
use Rattle.element_store.specs.declared.outcome.Language.TheVariants.{Kerml, Sysml}
use Rattle.std.specs.Prelude.{drop, length}
use Rattle.text_model.specs.declared.draft.DraftMember.{DraftMember}
use Rattle.text_model.specs.SignMeanings.{sign_meanings}
use Rattle.text_model.specs.KermlMeanings.{kerml_meanings}
use Rattle.text_model.specs.SysmlMeanings.{sysml_meanings}
use Rattle.text_model.specs.Tables.{tables}
use Rattle.text_model.specs.Drafts.{draft, names, name_in, first_name, path_or, first_segment, first_text, text_or, mentions}
use Rattle.text_model.specs.Walk.{comment_meaning, named, with_inner}
use Rattle.element_store.specs.declared.lists.Item.TheVariants as item
use Rattle.element_store.specs.declared.outcome.Role.TheVariants as role
use Rattle.print_model.specs.Heads.{body_bytes}
use Rattle.print_model.specs.Written.{IsWrittenPath, IsSpellableIn}

-- a name's segments and a text can be spelt
abbrev pub IsSpeltWhat : What → Type 0
IsSpeltWhat (what.Named p) = IsWrittenPath p
IsSpeltWhat (what.Text bytes) = IsSpellable bytes
IsSpeltWhat other = Unit {0}

-- of each node
abbrev pub AreSpeltNodes : List DraftNode → Type 0
AreSpeltNodes ns = Every (λ n. IsSpeltWhat n.what) ns

-- what a comment says ends where the comment does
pub record IsSaid (body : Option (List ℕ)) : Type 0 where
  pub close : IsUpToClose (body_bytes body ++ codes "*/")
  pub utf8 : IsUtf8 (body_bytes body)

-- all that a draft holds
pub record IsSpeltDraft (d : Draft) : Type 0 where
  pub short : IsSpellableIn d.short
  pub name : IsSpellableIn d.name
  pub locale : IsSpellableIn d.locale
  pub body : IsSaid d.body
  pub own : Every IsWrittenPath d.own
  pub specs : Every (λ m. IsWrittenPath m.path) d.specs
  pub inner : Every (λ m. IsWrittenPath m.path) d.inner
  pub bounds : AreSpeltNodes d.bounds
  pub value : AreSpeltNodes (nodes_of d.value)
  pub result : AreSpeltNodes (nodes_of d.result)

-- all that was read
pub record IsSpeltReading (r : Reading) : Type 0 where
  pub nodes : AreSpeltNodes r.nodes
  pub short : IsSpellableIn r.short
  pub name : IsSpellableIn r.name

-- the names of a member
pub record IsSpeltMember (m : DraftMember) : Type 0 where
  pub short : IsSpellableIn m.short
  pub name : IsSpellableIn m.name

-- all that a walk holds
pub record IsSpeltWalk (w : Walk) : Type 0 where
  pub drafts : Every IsSpeltDraft w.elements
  pub members : Every IsSpeltMember w.members
  pub reading : IsSpeltReading w.reading

empty_spelt : IsSpellable []
empty_spelt = record { utf8 = IsUtf8-nil; each = tt }

nobody_spelt : (place : ℕ) → IsWrittenPath (record { place = place; absolute = false; path = [] ∷ []; chain = [] })
nobody_spelt place = record { some = λ e. cc; path = (empty_spelt, tt); chain = tt }

-- nothing read
pub fresh_spelt : IsSpeltReading (record { nodes = []; operator = None; start = None; root = None; short = None; name = None })
fresh_spelt = record { nodes = tt; short = tt; name = tt }

-- the names among nodes
pub names_spelt : (ns : List DraftNode) → AreSpeltNodes ns → Every IsWrittenPath (names ns)
names_spelt [] h = tt
names_spelt (n ∷ ns) h = every_append IsWrittenPath (name_in n.what) (names ns) (one n.what h.0) (names_spelt ns h.1)
  where
    one : (w : What) → IsSpeltWhat w → Every IsWrittenPath (name_in w)
    one (what.Named p) h = (h, tt)
    one other h = tt

first_spelt : (ps : List Path) → Every IsWrittenPath ps → IsWrittenPath (first_name ps)
first_spelt [] h = nobody_spelt 0
first_spelt (p ∷ ps) h = h.0

or_spelt : (place : ℕ) (ps : List Path) → Every IsWrittenPath ps → IsWrittenPath (path_or place ps)
or_spelt place [] h = nobody_spelt place
or_spelt place (p ∷ ps) h = h.0

segment_spelt : (ss : List (List ℕ)) → Every IsSpellable ss → IsSpellable (first_segment ss)
segment_spelt [] h = empty_spelt
segment_spelt (s ∷ ss) h = h.0

text_spelt : (ns : List DraftNode) → AreSpeltNodes ns → IsSpellableIn (first_text ns)
text_spelt [] h = tt
text_spelt (n ∷ ns) h = one n.what (first_text ns) h.0 (text_spelt ns h.1)
  where
    one : (w : What) (o : Option (List ℕ)) → IsSpeltWhat w → IsSpellableIn o → IsSpellableIn (text_or w o)
    one (what.Text bytes) o h k = h
    one other o h k = k

-- names with their role
pub mentions_spelt : (r : Role) (ps : List Path) → Every IsWrittenPath ps → Every (λ m. IsWrittenPath m.path) (mentions r ps)
mentions_spelt r [] h = tt
mentions_spelt r (p ∷ ps) h = (h.0, mentions_spelt r ps h.1)

joined_spelt : (ns : List DraftNode) (o : Option Waiting) → AreSpeltNodes ns → AreSpeltNodes (joined ns o)
joined_spelt ns None h = h
joined_spelt ns (Some w) h = every_append (λ n. IsSpeltWhat n.what) ns (joining w.operator w.place) h (one w.operator w.place)
  where
    one : (o : Operator) (place : ℕ) → AreSpeltNodes (joining o place)
    one (operator.Binary b) place = (tt, tt)
    one other place = tt

applied_spelt : (ns : List DraftNode) (o : Option Waiting) → AreSpeltNodes ns → AreSpeltNodes (applied ns o)
applied_spelt ns None h = h
applied_spelt ns (Some w) h = every_append (λ n. IsSpeltWhat n.what) ns (applying w.operator w.place) h (one w.operator w.place)
  where
    one : (o : Operator) (place : ℕ) → AreSpeltNodes (applying o place)
    one operator.If place = (tt, tt)
    one operator.Not place = (tt, tt)
    one (operator.Binary binary.Subtract) place = (tt, tt)
    one (operator.Binary binary.Add) place = (tt, tt)
    one other place = tt

last_spelt : (f : Path → Path) → ((p : Path) → IsWrittenPath p → IsWrittenPath (f p)) → (ns : List DraftNode) → AreSpeltNodes ns
    → AreSpeltNodes (last_changed f ns)
last_spelt f on [] h = tt
last_spelt f on (n ∷ []) h = (same n.what h.0, tt)
  where
    same : (w : What) → IsSpeltWhat w → IsSpeltWhat (named_changed f w)
    same (what.Named p) h = on p h
    same other h = h
last_spelt f on (n ∷ m ∷ ns) h = (h.0, last_spelt f on (m ∷ ns) h.1)

longer_path : (bytes : List ℕ) (p : Path) → IsSpellable bytes → IsWrittenPath p → IsWrittenPath (with_segment bytes p)
longer_path bytes p s h = record { some = λ e. some p.path h.some e; path = every_append IsSpellable p.path (bytes ∷ []) h.path (s, tt); chain = h.chain }
  where
    some : (ss : List (List ℕ)) → (ss ≡ [] → ⊥) → ss ++ bytes ∷ [] ≡ [] → ⊥
    some [] k e = k refl
    some (x ∷ ss) k e = cc

longer_chain : (bytes : List ℕ) (p : Path) → IsSpellable bytes → IsWrittenPath p → IsWrittenPath (with_step bytes p)
longer_chain bytes p s h = record { some = h.some; path = h.path; chain = every_append IsSpellable p.chain (bytes ∷ []) h.chain (s, tt) }

changed_spelt : (w : Walk) (f : Draft → Draft) → ((d : Draft) → IsSpeltDraft d → IsSpeltDraft (f d)) → IsSpeltWalk w → IsSpeltWalk (changed f w)
changed_spelt w f on h = record { drafts = every_adjusted IsSpeltDraft w.current f w.elements on h.drafts; members = h.members; reading = h.reading }

-- a draft with nothing in it
pub draft_spelt : (k : Kind) (o : Option ℕ) → IsSpeltDraft (draft k o)
draft_spelt k o = record {
  short = tt;
  name = tt;
  locale = tt;
  body = record { close = inl (refl, refl); utf8 = IsUtf8-nil };
  own = tt;
  specs = tt;
  inner = tt;
  bounds = tt;
  value = tt;
  result = tt;
}

entered_spelt : (a : Action) (w : Walk) → IsSpeltWalk w → IsSpeltWalk (entered a w)
entered_spelt (Element k) w h = record {
  drafts = every_append IsSpeltDraft _ _ (every_adjusted IsSpeltDraft w.current _ w.elements
      (λ d v. record {
        short = v.short;
        name = v.name;
        locale = v.locale;
        body = v.body;
        own = v.own;
        specs = v.specs;
        inner = v.inner;
        bounds = v.bounds;
        value = v.value;
        result = v.result;
      }) h.drafts) (draft_spelt k (Some w.current), tt);
  members = every_append IsSpeltMember w.members _ h.members (record { short = tt; name = tt }, tt);
  reading = fresh_spelt;
}
entered_spelt (Take d) w h = record { drafts = h.drafts; members = h.members; reading = fresh_spelt }
entered_spelt NamedEnd w h = record {
  drafts = h.drafts;
  members = h.members;
  reading = record {
    nodes = tt;
    short = h.reading.short;
    name = segment_spelt _ (first_spelt (names w.reading.nodes) (names_spelt w.reading.nodes h.reading.nodes)).path;
  };
}
entered_spelt Level w h = record {
  drafts = h.drafts;
  members = h.members;
  reading =
      record { nodes = h.reading.nodes; short = h.reading.short; name = h.reading.name };
}
entered_spelt Tail w h = record {
  drafts = h.drafts;
  members = h.members;
  reading = record {
    nodes = joined_spelt w.reading.nodes w.reading.operator h.reading.nodes;
    short = h.reading.short;
    name = h.reading.name;
  };
}
entered_spelt other w h = h

kept_spelt : (a : Action) (w : Walk) → IsSpeltWalk w → IsSpeltReading (saved a w).reading
kept_spelt (Element k) w h = h.reading
kept_spelt (Take d) w h = h.reading
kept_spelt Level w h = fresh_level w
  where
    fresh_level : (w : Walk) → IsSpeltReading (saved Level w).reading
    fresh_level w = record { nodes = tt; short = tt; name = tt }
kept_spelt other w h = fresh_spelt

given_spelt : (d : Taking) (f : Frame) (r : Reading) (w : Walk) → IsSpeltReading r → IsSpeltWalk w → IsSpeltWalk (given d f r w)
given_spelt taking.Subclass f r w n h = changed_spelt w _
    (λ d v. record {
      short = v.short;
      name = v.name;
      locale = v.locale;
      body = v.body;
      own = v.own;
      specs =
          every_append (λ m. IsWrittenPath m.path) d.specs _ v.specs (mentions_spelt role.Subclass (names r.nodes) (names_spelt r.nodes n.nodes));
      inner = v.inner;
      bounds = v.bounds;
      value = v.value;
      result = v.result;
    }) h
given_spelt taking.Typing f r w n h = changed_spelt w _ (λ d v.
    record {
      short = v.short;
      name = v.name;
      locale = v.locale;
      body = v.body;
      own = v.own;
      specs =
          every_append (λ m. IsWrittenPath m.path) d.specs _ v.specs (mentions_spelt role.Typing (names r.nodes) (names_spelt r.nodes n.nodes));
      inner = v.inner;
      bounds = v.bounds;
      value = v.value;
      result = v.result;
    }) h
given_spelt taking.Subsetting f r w n h = changed_spelt w _
    (λ d v. record {
      short = v.short;
      name = v.name;
      locale = v.locale;
      body = v.body;
      own = v.own;
      specs =
          every_append (λ m. IsWrittenPath m.path) d.specs _ v.specs (mentions_spelt role.Subsetting (names r.nodes) (names_spelt r.nodes n.nodes));
      inner = v.inner;
      bounds = v.bounds;
      value = v.value;
      result = v.result;
    }) h
given_spelt taking.Redefinition f r w n h = changed_spelt w _
    (λ d v. record {
      short = v.short;
      name = v.name;
      locale = v.locale;
      body = v.body;
      own = v.own;
      specs =
          every_append (λ m. IsWrittenPath m.path) d.specs _ v.specs (mentions_spelt role.Redefinition (names r.nodes) (names_spelt r.nodes n.nodes));
      inner =
          v.inner;
      bounds = v.bounds;
      value = v.value;
      result = v.result;
    }) h
given_spelt taking.ReferenceSubsetting f r w n h = changed_spelt w _
    (λ d v. record {
      short = v.short;
      name = v.name;
      locale = v.locale;
      body = v.body;
      own = v.own;
      specs =
          every_append (λ m. IsWrittenPath m.path) d.specs _ v.specs (mentions_spelt role.ReferenceSubsetting (names r.nodes) (names_spelt r.nodes n.nodes));
      inner =
          v.inner;
      bounds = v.bounds;
      value = v.value;
      result = v.result;
    }) h
given_spelt taking.Bounds f r w n h = changed_spelt w _ (λ d v.
    record {
      short = v.short;
      name = v.name;
      locale = v.locale;
      body = v.body;
      own = v.own;
      specs = v.specs;
      inner = v.inner;
      bounds = n.nodes;
      value = v.value;
      result = v.result;
    }) h
given_spelt taking.Value f r w n h = changed_spelt w _ (λ d v.
    record {
      short = v.short;
      name = v.name;
      locale = v.locale;
      body = v.body;
      own = v.own;
      specs = v.specs;
      inner = v.inner;
      bounds = v.bounds;
      value =
          n.nodes;
      result = v.result;
    }) h
given_spelt taking.Result f r w n h = changed_spelt w _ (λ d v.
    record {
      short = v.short;
      name = v.name;
      locale = v.locale;
      body = v.body;
      own = v.own;
      specs = v.specs;
      inner = v.inner;
      bounds = v.bounds;
      value =
          v.value;
      result = n.nodes;
    }) h
given_spelt taking.Alias f r w n h =
    let p = first_spelt (names r.nodes) (names_spelt r.nodes n.nodes) in
    let v = changed_spelt w (with_inner (item.Member (length w.members)) role.Alias (first_name (names r.nodes)))
    (λ d v. record {
      short = v.short;
      name = v.name;
      locale = v.locale;
      body = v.body;
      own = v.own;
      specs = v.specs;
      inner =
          every_append (λ m. IsWrittenPath m.path) d.inner _ v.inner (p, tt);
      bounds = v.bounds;
      value = v.value;
      result = v.result;
    }) h in
    record {
      drafts = v.drafts;
      members = every_append IsSpeltMember w.members _ h.members (record { short = n.short; name = n.name }, tt);
      reading =
          v.reading;
    }
given_spelt taking.Import f r w n h =
    let p = or_spelt f.place (names r.nodes) (names_spelt r.nodes n.nodes) in
    let v = changed_spelt w (with_inner (item.Import (length w.imports)) role.Import (path_or f.place (names r.nodes)))
    (λ d v. record {
      short = v.short;
      name = v.name;
      locale = v.locale;
      body = v.body;
      own = v.own;
      specs = v.specs;
      inner =
          every_append (λ m. IsWrittenPath m.path) d.inner _ v.inner (p, tt);
      bounds = v.bounds;
      value = v.value;
      result = v.result;
    }) h in
    record { drafts = v.drafts; members = h.members; reading = v.reading }

left_spelt : (a : Action) (f : Frame) (w : Walk) → IsSpeltReading f.reading → IsSpeltWalk w → IsSpeltWalk (left a f w)
left_spelt (Element k) f w n h =
    let r = h.reading in
    let c = changed_spelt w (named w.reading) (λ d v. record {
      short = r.short;
      name = r.name;
      locale = text_spelt w.reading.nodes r.nodes;
      body = v.body;
      own =
          names_spelt w.reading.nodes r.nodes;
      specs = v.specs;
      inner = v.inner;
      bounds = v.bounds;
      value = v.value;
      result = v.result;
    }) h in
    record { drafts = c.drafts; members = c.members; reading = n }
left_spelt (Take d) f w n h = given_spelt d f w.reading (record w { reading = f.reading }) h.reading
    (record { drafts = h.drafts; members = h.members; reading = n })
left_spelt Level f w n h = record {
  drafts = h.drafts;
  members = h.members;
  reading = record {
    nodes = applied_spelt w.reading.nodes w.reading.operator h.reading.nodes;
    short = h.reading.short;
    name = h.reading.name;
  };
}
left_spelt other f w n h = h

-- what a token means, where it may mean a name, a text or a comment
abbrev MeansWell : List ℕ → Meaning → Token → Type 0
MeansWell text meaning.Name t = IsTokenOf kinds.Name text t
MeansWell text meaning.Text t = IsTokenOf kinds.Quote text t
MeansWell text meaning.Comment t = IsTokenOf kinds.Comment text t
MeansWell text other t = Unit {0}

-- no sign and no reserved word means one of these
abbrev is_plain_meaning : Meaning → Bool
is_plain_meaning meaning.Name = false
is_plain_meaning meaning.Text = false
is_plain_meaning meaning.Comment = false
is_plain_meaning other = true

plain_well : (text : List ℕ) (m : Meaning) (t : Token) → is_plain_meaning m ≡ true → MeansWell text m t
plain_well text meaning.Name t e = cc
plain_well text meaning.Text t e = cc
plain_well text meaning.Comment t e = cc
plain_well text other t e = tt

plain_among : (ms : List Meaning) (n : ℕ) → list_all is_plain_meaning ms ≡ true → is_plain_meaning (slice_index_or ms n meaning.Nothing) ≡ true
plain_among [] n e = refl
plain_among (m ∷ ms) zero e = (both_true (is_plain_meaning m) (list_all is_plain_meaning ms) e).0
plain_among (m ∷ ms) (suc n) e = plain_among ms n (both_true (is_plain_meaning m) (list_all is_plain_meaning ms) e).1

signs_plain : (l : Language) → list_all is_plain_meaning (tables l).signs ≡ true
unfolding tables sign_meanings
signs_plain Kerml = refl
signs_plain Sysml = refl

words_plain : (l : Language) → list_all is_plain_meaning (tables l).words ≡ true
unfolding tables kerml_meanings sysml_meanings
words_plain Kerml = refl
words_plain Sysml = refl

means_well : (l : Language) (k : TokenKind) (text : List ℕ) (t : Token) → IsTokenOf k text t → MeansWell text (meaning_of (tables l) k) t
means_well l kinds.Name text t h = h
means_well l kinds.Integer text t h = tt
means_well l kinds.Quote text t h = h
means_well l kinds.Comment text t h = h
means_well l (kinds.Sign n) text t h = plain_well text (slice_index_or (tables l).signs n meaning.Nothing) t (plain_among (tables l).signs n (signs_plain l))
means_well l (kinds.Word n) text t h = plain_well text (slice_index_or (tables l).words n meaning.Nothing) t (plain_among (tables l).words n (words_plain l))

-- what a comment says ends where the comment does
said : (text : List ℕ) (t : Token) → IsTokenOf kinds.Comment text t → IsSaid (Some (comment_meaning (bytes_of text t)))
said text t h = record {
  close = (subst (λ bytes. IsPiece h.language (Kept kinds.Comment) bytes (drop t.upto text)) (sym (comment_again text t h)) h.piece).2;
  utf8 = comment_utf8 text t h;
}

read_node : (w : Walk) (x : What) (place : ℕ) → IsSpeltWhat x → IsSpeltWalk w
    → IsSpeltReading (record w.reading { nodes = w.reading.nodes ++ node x place ∷ [] })
read_node w x place v h = record {
  nodes = every_append (λ n. IsSpeltWhat n.what) w.reading.nodes (node x place ∷ []) h.reading.nodes (v, tt);
  short =
      h.reading.short;
  name = h.reading.name;
}

with_reading : (w : Walk) (r : Reading) → IsSpeltReading r → IsSpeltWalk w → IsSpeltWalk (record w { reading = r })
with_reading w r k h = record { drafts = h.drafts; members = h.members; reading = k }

name_spelt : (a : Action) (t : Token) (bytes : List ℕ) (w : Walk) → IsSpellable bytes → IsSpeltWalk w → IsSpeltWalk (meant_name a t bytes w)
name_spelt Name t bytes w s h = with_reading w _ (record { nodes = h.reading.nodes; short = h.reading.short; name = s }) h
name_spelt Short t bytes w s h = with_reading w _ (record { nodes = h.reading.nodes; short = s; name = h.reading.name }) h
name_spelt Segment t bytes w s h = with_reading w _ (record {
  nodes = last_spelt (with_segment bytes) (λ p k. longer_path bytes p s k) w.reading.nodes h.reading.nodes;
  short = h.reading.short;
  name = h.reading.name;
}) h
name_spelt Step t bytes w s h = with_reading w _ (record {
  nodes = last_spelt (with_step bytes) (λ p k. longer_chain bytes p s k) w.reading.nodes h.reading.nodes;
  short = h.reading.short;
  name = h.reading.name;
}) h
name_spelt other t bytes w s h = with_reading w _ (record {
  nodes = every_append (λ n. IsSpeltWhat n.what) w.reading.nodes (_ ∷ []) h.reading.nodes (record { some = λ e. cc; path = (s, tt); chain = tt }, tt);
  short = h.reading.short;
  name = h.reading.name;
}) h

operator_spelt : (a : Action) (o : Operator) (place : ℕ) (w : Walk) → IsSpeltWalk w → IsSpeltWalk (meant_operator a o place w)
operator_spelt Star o place w h = with_reading w _ (read_node w what.Star place tt h) h
operator_spelt other o place w h = with_reading w _ (record { nodes = h.reading.nodes; short = h.reading.short; name = h.reading.name }) h

leaf_spelt : (x : LeafWord) → IsSpeltWhat (leaf_node x)
leaf_spelt (leaf.Boolean b) = tt
leaf_spelt leaf.Null = tt
leaf_spelt leaf.All = tt
leaf_spelt leaf.Deep = tt

meant_spelt : (text : List ℕ) (a : Action) (m : Meaning) (t : Token) (w : Walk) → MeansWell text m t → IsSpeltWalk w → IsSpeltWalk (meant text a m t w)
meant_spelt text a meaning.Nothing t w k h = h
meant_spelt text a (meaning.Mark m) t w k h = changed_spelt w _
    (λ d v. record {
      short = v.short;
      name = v.name;
      locale = v.locale;
      body = v.body;
      own = v.own;
      specs = v.specs;
      inner = v.inner;
      bounds = v.bounds;
      value =
          v.value;
      result = v.result;
    }) h
meant_spelt text a (meaning.Direction way) t w k h = changed_spelt w _
    (λ d v. record {
      short = v.short;
      name = v.name;
      locale = v.locale;
      body = v.body;
      own = v.own;
      specs = v.specs;
      inner = v.inner;
      bounds = v.bounds;
      value =
          v.value;
      result = v.result;
    }) h
meant_spelt text a (meaning.PartOf part) t w k h = changed_spelt w _
    (λ d v. record {
      short = v.short;
      name = v.name;
      locale = v.locale;
      body = v.body;
      own = v.own;
      specs = v.specs;
      inner = v.inner;
      bounds = v.bounds;
      value =
          v.value;
      result = v.result;
    }) h
meant_spelt text a (meaning.Visibility v) t w k h = record { drafts = h.drafts; members = h.members; reading = h.reading }
meant_spelt text a (meaning.Kind x) t w k h = changed_spelt w _
    (λ d v. record {
      short = v.short;
      name = v.name;
      locale = v.locale;
      body = v.body;
      own = v.own;
      specs = v.specs;
      inner = v.inner;
      bounds = v.bounds;
      value =
          v.value;
      result = v.result;
    }) h
meant_spelt text a meaning.Def t w k h = changed_spelt w _
    (λ d v. record {
      short = v.short;
      name = v.name;
      locale = v.locale;
      body = v.body;
      own = v.own;
      specs = v.specs;
      inner = v.inner;
      bounds = v.bounds;
      value =
          v.value;
      result = v.result;
    }) h
meant_spelt text a meaning.Comment t w k h = changed_spelt w _
    (λ d v. record {
      short = v.short;
      name = v.name;
      locale = v.locale;
      body = said text t k;
      own = v.own;
      specs = v.specs;
      inner = v.inner;
      bounds = v.bounds;
      value = v.value;
      result = v.result;
    }) h
meant_spelt text a meaning.Text t w k h = with_reading w _ (read_node w _ t.from (string_spellable text t k) h) h
meant_spelt text a meaning.Integer t w k h = record { drafts = h.drafts; members = h.members; reading = read_node w _ t.from tt h }
meant_spelt text a (meaning.Leaf x) t w k h = with_reading w _ (read_node w (leaf_node x) t.from (leaf_spelt x) h) h
meant_spelt text a meaning.Name t w k h = name_spelt a t (name_meaning (bytes_of text t)) w (name_spellable text t k) h
meant_spelt text a meaning.Absolute t w k h = with_reading w _ (record { nodes = h.reading.nodes; short = h.reading.short; name = h.reading.name }) h
meant_spelt text a (meaning.Operator o) t w k h = operator_spelt a o t.from w h

-- each token stands in the text
abbrev pub AllTokens : List ℕ → List Token → Type 0
AllTokens text ts = Every (λ t. IsTokenOf t.kind text t) ts

taken_spelt : (l : Language) (text : List ℕ) (a : Action) (ts : List Token) (w : Walk) → ts ≡ w.rest → AllTokens text ts → IsSpeltWalk w
    → IsSpeltWalk (taken_from (tables l) text a ts w) × AllTokens text (taken_from (tables l) text a ts w).rest
taken_spelt l text a [] w e k h = (h, subst (AllTokens text) e k)
taken_spelt l text a (t ∷ ts) w e k h =
    let v = record w { rest = ts } in (
      meant_spelt text a (meaning_of (tables l) t.kind) t v (means_well l t.kind text t k.0)
          (record { drafts = h.drafts; members = h.members; reading = h.reading }),
      subst (AllTokens text) (sym (rest_meant text a (meaning_of (tables l) t.kind) t v)) k.1,
    )

-- what the walk over any forest holds can be spelt
pub walk_spelt : (l : Language) (text : List ℕ) (a : Action) (f : Forest) (w : Walk) → AllTokens text w.rest → IsSpeltWalk w
    → IsSpeltWalk (walk (tables l) text a f w) × AllTokens text (walk (tables l) text a f w).rest
walk_spelt l text a Nothing w k h = (h, k)
walk_spelt l text a (Leaf j f) w k h =
    let x = taken_spelt l text a w.rest w refl k h in
    walk_spelt l text a f (taken_from (tables l) text a w.rest w) x.1 x.0
walk_spelt l text a (Node p below f) w k h =
    let b = action_at (tables l) p in
    let v = walk (tables l) text b below (entered b w) in
    let x = walk_spelt l text b below (entered b w) (subst (AllTokens text) (sym (rest_entered b w)) k) (entered_spelt b w h) in
    walk_spelt l text a f (left b (saved b w) v) (subst (AllTokens text) (sym (rest_left b (saved b w) v)) x.1)
    (left_spelt b (saved b w) v (kept_spelt b w h) x.0)
