-- Where the names stand that a walk reads.
use Rattle.std.proofs.Common.{◌≡◌, ℕ, List, [], ◌∷◌, ◌++◌, refl, sym, subst}
use Rattle.std.specs.Prelude.{Option, Some, None}
use Rattle.std.specs.Option.{unwrap_or}
use Rattle.element_store.specs.declared.expression.BinaryOp.TheVariants as binary
use Rattle.token_core.specs.declared.token.Token.{Token}
use Rattle.token_core.specs.Reading.{bytes_of, name_meaning}
use Rattle.text_model.specs.declared.action.Action.{Action}
use Rattle.text_model.specs.declared.action.Action.TheVariants as action
use Rattle.text_model.specs.declared.action.Taking.{Taking}
use Rattle.text_model.specs.declared.action.Taking.TheVariants as taking
use Rattle.text_model.specs.declared.action.Operator.{Operator}
use Rattle.text_model.specs.declared.action.Operator.TheVariants as operator
use Rattle.text_model.specs.declared.action.Leaf.{Leaf as LeafWord}
use Rattle.text_model.specs.declared.action.Leaf.TheVariants as leaf
use Rattle.text_model.specs.declared.action.Meaning.{Meaning}
use Rattle.text_model.specs.declared.action.Meaning.TheVariants as meaning
use Rattle.text_model.specs.declared.draft.Path.{Path}
use Rattle.text_model.specs.declared.draft.What.{What}
use Rattle.text_model.specs.declared.draft.What.TheVariants as what
use Rattle.text_model.specs.declared.draft.DraftNode.{DraftNode}
use Rattle.text_model.specs.declared.draft.Waiting.{Waiting}
use Rattle.text_model.specs.declared.draft.Reading.{Reading}
use Rattle.text_model.specs.Drafts.{node, name_in, names, named_changed, last_changed, with_segment, with_step, joining, joined, applying, applied}
use Rattle.text_model.specs.Walk.{Walk, Frame, fresh, given, leaf_node, meant_name, meant_operator, meant}
use Rattle.text_laws.specs.Fits.{Every}
use Rattle.text_laws.proofs.ListLemmas.{names-append}
use Rattle.text_laws.proofs.FittingLaws.{every_append, every_front, every_back}

-- The names that were read, where B says at which places they may stand.

-- a `$` that waits stands there
abbrev pub RootAt : (ℕ → Type 0) → Option ℕ → Type 0
RootAt B None = Unit {0}
RootAt B (Some p) = B p

-- names among nodes stand there
abbrev pub NamesAt : (ℕ → Type 0) → List DraftNode → Type 0
NamesAt B ns = Every (λ p. B p.place) (names ns)

-- all that was read stands there
pub record ReadAt (B : ℕ → Type 0) (r : Reading) : Type 0 where
  pub names : NamesAt B r.nodes
  pub root : RootAt B r.root

-- names of two lists of nodes
pub more_names : (B : ℕ → Type 0) (ns ms : List DraftNode) → NamesAt B ns → NamesAt B ms → NamesAt B (ns ++ ms)
more_names B ns ms a b = subst (Every (λ p. B p.place)) (sym (names-append ns ms)) (every_append (λ p. B p.place) (names ns) (names ms) a b)

-- a change of the last name that keeps its place
pub last_at : (B : ℕ → Type 0) (f : Path → Path) (ns : List DraftNode) → ((p : Path) → (f p).place ≡ p.place) → NamesAt B ns → NamesAt B (last_changed f ns)
last_at B f [] same h = tt
last_at B f (x ∷ []) same h = one x.what h where
  one : (w : What) → Every (λ p. B p.place) (name_in w ++ []) → Every (λ p. B p.place) (name_in (named_changed f w) ++ [])
  one (what.Named p) h = (subst B (sym (same p)) h.0, tt)
  one other h = h
last_at B f (x ∷ y ∷ ns) same h =
    every_append (λ p. B p.place) (name_in x.what) (names (last_changed f (y ∷ ns))) (every_front (λ p. B p.place) (name_in x.what) (names (y ∷ ns)) h)
    (last_at B f (y ∷ ns) same (every_back (λ p. B p.place) (name_in x.what) (names (y ∷ ns)) h))

leaf_none : (B : ℕ → Type 0) (l : LeafWord) (place : ℕ) → NamesAt B (node (leaf_node l) place ∷ [])
leaf_none B (leaf.Boolean b) place = tt
leaf_none B leaf.Null place = tt
leaf_none B other place = tt

joining_none : (B : ℕ → Type 0) (o : Operator) (place : ℕ) → NamesAt B (joining o place)
joining_none B (operator.Binary b) place = tt
joining_none B other place = tt

applying_none : (B : ℕ → Type 0) (o : Operator) (place : ℕ) → NamesAt B (applying o place)
applying_none B operator.If place = tt
applying_none B operator.Not place = tt
applying_none B (operator.Binary binary.Subtract) place = tt
applying_none B (operator.Binary binary.Add) place = tt
applying_none B other place = tt

-- operators bring no names
pub joined_at : (B : ℕ → Type 0) (ns : List DraftNode) (o : Option Waiting) → NamesAt B ns → NamesAt B (joined ns o)
joined_at B ns None h = h
joined_at B ns (Some w) h = more_names B ns (joining w.operator w.place) h (joining_none B w.operator w.place)

-- nor do signs
pub applied_at : (B : ℕ → Type 0) (ns : List DraftNode) (o : Option Waiting) → NamesAt B ns → NamesAt B (applied ns o)
applied_at B ns None h = h
applied_at B ns (Some w) h = more_names B ns (applying w.operator w.place) h (applying_none B w.operator w.place)

-- A token at a place where names may stand.

name_at : (B : ℕ → Type 0) (a : Action) (t : Token) (bytes : List ℕ) (w : Walk) → B t.from → ReadAt B w.reading → ReadAt B (meant_name a t bytes w).reading
name_at B action.Name t bytes w here h = record { names = h.names; root = h.root }
name_at B action.Short t bytes w here h = record { names = h.names; root = h.root }
name_at B action.Segment t bytes w here h = record { names = last_at B (with_segment bytes) w.reading.nodes (λ p. refl) h.names; root = h.root }
name_at B action.Step t bytes w here h = record { names = last_at B (with_step bytes) w.reading.nodes (λ p. refl) h.names; root = h.root }
name_at B other t bytes w here h = record { names = more_names B w.reading.nodes _ h.names (place w.reading.root h.root, tt); root = tt } where
  place : (o : Option ℕ) → RootAt B o → B (unwrap_or o t.from)
  place None x = here
  place (Some r) x = x

operator_at : (B : ℕ → Type 0) (a : Action) (o : Operator) (place : ℕ) (w : Walk) → ReadAt B w.reading → ReadAt B (meant_operator a o place w).reading
operator_at B action.Star o place w h = record { names = more_names B w.reading.nodes _ h.names tt; root = h.root }
operator_at B other o place w h = record { names = h.names; root = h.root }

-- what a token there means for what was read
pub meant_at : (B : ℕ → Type 0) (text : List ℕ) (a : Action) (m : Meaning) (t : Token) (w : Walk) → B t.from → ReadAt B w.reading
    → ReadAt B (meant text a m t w).reading
meant_at B text a meaning.Text t w here h = record { names = more_names B w.reading.nodes _ h.names tt; root = h.root }
meant_at B text a meaning.Integer t w here h = record { names = more_names B w.reading.nodes _ h.names tt; root = h.root }
meant_at B text a (meaning.Leaf l) t w here h = record { names = more_names B w.reading.nodes _ h.names (leaf_none B l t.from); root = h.root }
meant_at B text a meaning.Name t w here h = name_at B a t (name_meaning (bytes_of text t)) w here h
meant_at B text a meaning.Absolute t w here h = record { names = h.names; root = here }
meant_at B text a (meaning.Operator o) t w here h = operator_at B a o t.from w h
meant_at B text a other t w here h = h

-- nothing was read
pub none_read : (B : ℕ → Type 0) → ReadAt B fresh
none_read B = record { names = tt; root = tt }

-- what is given to an element changes nothing that was read
pub reading_given : (d : Taking) (f : Frame) (r : Reading) (w : Walk) → (given d f r w).reading ≡ w.reading
reading_given taking.Alias f r w = refl
reading_given taking.Import f r w = refl
reading_given other f r w = refl
