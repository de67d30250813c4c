-- Where tokens and names stand: the places of tokens rise, and what is read below a production stands behind its beginning.
use Rattle.std.proofs.Common.{◌≡◌, ℕ, suc, ◌+◌, ◌<◌, ◌≤◌, List, [], ◌∷◌, ◌++◌, length, refl, sym, subst, arith}
use Rattle.std.specs.Prelude.{Option, Some, None}
use Rattle.element_store.specs.declared.outcome.Language.{Language}
use Rattle.token_core.specs.declared.token.Token.{Token}
use Rattle.token_core.specs.declared.token.PieceKind.{PieceKind}
use Rattle.token_core.specs.declared.token.PieceKind.TheVariants.{Space, LineNote, BlockNote, Token as Kept}
use Rattle.token_core.specs.Lex.{Piece, Cut, token_at, tokens_from}
use Rattle.token_core.specs.Pieces.{IsPiece}
use Rattle.ll_core.specs.Derives.{Forest, Nothing, Token as Leaf, Node as Branch}
use Rattle.text_model.specs.declared.action.Action.{Action}
use Rattle.text_model.specs.declared.action.Action.TheVariants as action
use Rattle.text_model.specs.declared.draft.Path.{Path}
use Rattle.text_model.specs.declared.draft.Reading.{Reading}
use Rattle.text_model.specs.Tables.{Tables, action_at, meaning_of}
use Rattle.text_model.specs.Drafts.{names}
use Rattle.text_model.specs.Walk.{Walk, saved, entered, left, taken, taken_from, walk}
use Rattle.text_laws.proofs.FittingLaws.{every_on, rest_meant, rest_given}
use Rattle.text_laws.proofs.ReadingLaws.{RootAt, ReadAt, joined_at, applied_at, meant_at, none_read, reading_given}
use Rattle.text_laws.proofs.TokenLaws.{token_fits}

-- the tokens stand at this place or behind, one behind the other
abbrev pub Rise : ℕ → List Token → Type 0
Rise n [] = Unit {0}
Rise n (t ∷ ts) = (n ≤ t.from) × Rise (suc t.from) ts

-- from a lower place on
pub rise_lower : (m n : ℕ) (ts : List Token) → m ≤ n → Rise n ts → Rise m ts
rise_lower m n [] le h = tt
rise_lower m n (t ∷ ts) le h = (omega (arith, le, h.0), h.1)

-- the tokens of pieces rise
pub tokens_rise : (language : Language) (at : ℕ) (ps : List Piece) (text rest : List ℕ) → Cut language ps text rest → Rise at (tokens_from at ps)
tokens_rise language at [] text rest cut = tt
tokens_rise language at (p ∷ ps) text rest cut = piece p.kind p.bytes cut.2.piece (tokens_rise language (at + length p.bytes) ps cut.0 rest cut.3) where
  piece : (k : PieceKind) (bytes : List ℕ) → IsPiece language k bytes cut.0 → Rise (at + length bytes) (tokens_from (at + length bytes) ps)
      → Rise at (token_at k at (length bytes) ++ tokens_from (at + length bytes) ps)
  piece Space bytes p h = rise_lower at (at + length bytes) (tokens_from (at + length bytes) ps) (omega arith) h
  piece LineNote bytes p h = rise_lower at (at + length bytes) (tokens_from (at + length bytes) ps) (omega arith) h
  piece BlockNote bytes p h = rise_lower at (at + length bytes) (tokens_from (at + length bytes) ps) (omega arith) h
  piece (Kept k) bytes p h = (
    omega arith,
    rise_lower (suc at) (at + length bytes) (tokens_from (at + length bytes) ps)
        (omega (arith, (token_fits language k bytes cut.0 p).1)) h,
  )

-- from the one place on and before the other
abbrev pub Between : ℕ → ℕ → ℕ → Type 0
Between lo hi place = (lo ≤ place) × (place < hi)

-- a name that stands there
abbrev pub InSpan : ℕ → ℕ → Path → Type 0
InSpan lo hi p = Between lo hi p.place

-- the names that were read stand there
abbrev pub Span : ℕ → ℕ → Reading → Type 0
Span lo hi r = ReadAt (Between lo hi) r

span_wider : (lo hi k : ℕ) (r : Reading) → hi ≤ k → Span lo hi r → Span lo k r
span_wider lo hi k r le h = record {
  names = every_on (InSpan lo hi) (InSpan lo k) (names r.nodes) (λ p x. (x.0, omega (arith, le, x.1))) h.names;
  root = root r.root h.root;
} where
  root : (o : Option ℕ) → RootAt (Between lo hi) o → RootAt (Between lo k) o
  root None x = tt
  root (Some p) x = (x.0, omega (arith, le, x.1))

-- a walk reads names behind where it began; the tokens to come stand behind them
pub record SpanOn (lo hi : ℕ) (w : Walk) : Type 0 where
  pub end : ℕ
  pub later : hi ≤ end
  pub span : Span lo end w.reading
  pub rise : Rise end w.rest

span_taken : (t : Tables) (text : List ℕ) (a : Action) (ts : List Token) (w : Walk) (lo hi : ℕ) → w.rest ≡ ts → lo ≤ hi → Span lo hi w.reading → Rise hi w.rest
    → SpanOn lo hi (taken_from t text a ts w)
span_taken t text a [] w lo hi is le h r = record { end = hi; later = omega arith; span = h; rise = r }
span_taken t text a (x ∷ ts) w lo hi is le h r =
    let s : Rise hi (x ∷ ts) = subst (Rise hi) is r in
    let wide = span_wider lo hi (suc x.from) w.reading (omega (arith, s.0)) h in
    record {
      end = suc x.from;
      later = omega (arith, s.0);
      span = meant_at (Between lo (suc x.from)) text a (meaning_of t x.kind) x (record w { rest = ts }) (omega (arith, le, s.0), omega arith) wide;
      rise = subst (Rise (suc x.from)) (sym (rest_meant text a (meaning_of t x.kind) x (record w { rest = ts }))) s.1;
    }

span_node : (a : Action) (w v : Walk) (lo hi : ℕ) → lo ≤ hi → Span lo hi w.reading → Rise hi w.rest
    → ((l : ℕ) → l ≤ hi → Span l hi (entered a w).reading → Rise hi (entered a w).rest → SpanOn l hi v) → SpanOn lo hi (left a (saved a w) v)
span_node (action.Element k) w v lo hi le h r on =
    let i = on hi (omega arith) (none_read (Between hi hi)) r in
    record { end = i.end; later = i.later; span = span_wider lo hi i.end w.reading i.later h; rise = i.rise }
span_node (action.Take d) w v lo hi le h r on =
    let i = on hi (omega arith) (none_read (Between hi hi)) r in
    record {
      end = i.end;
      later = i.later;
      span = subst (Span lo i.end) (sym (reading_given d (saved (action.Take d) w) v.reading (record v { reading = w.reading })))
          (span_wider lo hi i.end w.reading i.later h);
      rise = subst (Rise i.end) (sym (rest_given d (saved (action.Take d) w) v.reading (record v { reading = w.reading }))) i.rise;
    }
span_node action.NamedEnd w v lo hi le h r on =
    let i = on lo le (record { names = tt; root = h.root }) r in
    record { end = i.end; later = i.later; span = i.span; rise = i.rise }
span_node action.Level w v lo hi le h r on =
    let i = on lo le (record { names = h.names; root = h.root }) r in
    record {
      end = i.end;
      later = i.later;
      span = record { names = applied_at (Between lo i.end) v.reading.nodes v.reading.operator i.span.names; root = i.span.root };
      rise = i.rise;
    }
span_node action.Tail w v lo hi le h r on =
    let i = on lo le (record { names = joined_at (Between lo hi) w.reading.nodes w.reading.operator h.names; root = h.root }) r in
    record { end = i.end; later = i.later; span = i.span; rise = i.rise }
span_node other w v lo hi le h r on =
    let i = on lo le h r in
    record { end = i.end; later = i.later; span = i.span; rise = i.rise }

-- what a walk reads stands behind its beginning
pub span_walk : (t : Tables) (text : List ℕ) (a : Action) (f : Forest) (w : Walk) (lo hi : ℕ) → lo ≤ hi → Span lo hi w.reading → Rise hi w.rest
    → SpanOn lo hi (walk t text a f w)
span_walk t text a Nothing w lo hi le h r = record { end = hi; later = omega arith; span = h; rise = r }
span_walk t text a (Leaf k rest) w lo hi le h r =
    let s = span_taken t text a w.rest w lo hi refl le h r in
    let n = span_walk t text a rest (taken t text a w) lo s.end (omega (arith, le, s.later)) s.span s.rise in
    record { end = n.end; later = omega (arith, s.later, n.later); span = n.span; rise = n.rise }
span_walk t text a (Branch p below rest) w lo hi le h r =
    let b = action_at t p in
    let v = walk t text b below (entered b w) in
    let s = span_node b w v lo hi le h r (λ l low x y. span_walk t text b below (entered b w) l hi low x y) in
    let n = span_walk t text a rest (left b (saved b w) v) lo s.end (omega (arith, le, s.later)) s.span s.rise in
    record { end = n.end; later = omega (arith, s.later, n.later); span = n.span; rise = n.rise }
