-- What a text says of its elements, by its tree and its tokens: which there are, the innermost element around each, and
-- which tokens are an element's own.
use Rattle.std.specs.Prelude.{◌≡◌, ◌↔◌, ℕ, ◌+◌, Bool, true, Option, Some, None, List, [], ◌∷◌, ◌++◌, length, map, take, drop}
use Rattle.linker_base.specs.Members.{IsMember}
use Rattle.element_store.specs.declared.numbers.FileNo.{FileNo}
use Rattle.element_store.specs.declared.kind.Kind.{Kind}
use Rattle.element_store.specs.declared.kind.Kind.TheVariants.{Root}
use Rattle.element_store.specs.declared.kind.Direction.{Direction}
use Rattle.element_store.specs.declared.kind.PartOf.{PartOf}
use Rattle.element_store.specs.declared.kind.Marks.{Marks}
use Rattle.element_store.specs.declared.outcome.Language.{Language}
use Rattle.element_store.specs.declared.records.Element.{Element as StoredElement}
use Rattle.element_store.specs.Model.{Data, no_marks}
use Rattle.token_core.specs.declared.token.Token.{Token}
use Rattle.token_core.specs.Reading.{bytes_of}
use Rattle.ll_core.specs.Derives.{Forest, Nothing, Token as Leaf, Node, tokens as kinds_in}
use Rattle.text_model.specs.declared.action.Action.{Action}
use Rattle.text_model.specs.declared.action.Action.TheVariants.{Element}
use Rattle.text_model.specs.declared.action.Mark.{Mark}
use Rattle.text_model.specs.declared.action.Mark.TheVariants as mark
use Rattle.text_model.specs.declared.action.Meaning.{Meaning}
use Rattle.text_model.specs.declared.action.Meaning.TheVariants as meaning
use Rattle.text_model.specs.Tables.{Tables, tables, action_at, meaning_of}
use Rattle.text_model.specs.Drafts.{definition_of}
use Rattle.text_model.specs.Walk.{comment_meaning}
use Rattle.text_model.specs.Profile.{IsRead, InProfile}

-- an element as it is written: the number of the innermost element around it, the kind that its production begins with,
-- and its own tokens
pub record Written : Type 0 where
  pub owner : Option ℕ
  pub kind : Kind
  pub own : List Token

-- the tokens behind a forest
abbrev pub behind : Forest → List Token → List Token
behind f ts = drop (length (kinds_in f)) ts

-- none, where a production is an element's
abbrev pub unless_element : Action → List Token → List Token
unless_element (Element k) ts = []
unless_element other ts = ts

-- the tokens of a forest that stand below no element's production
abbrev pub own_tokens : Tables → Forest → List Token → List Token
own_tokens t Nothing ts = []
own_tokens t (Leaf k rest) ts = take 1 ts ++ own_tokens t rest (drop 1 ts)
own_tokens t (Node p below rest) ts =
    unless_element (action_at t p) (own_tokens t below ts) ++ own_tokens t rest (behind below ts)

-- the element of a production, if it is an element's
abbrev pub element_of : Action → ℕ → List Token → List Written
element_of (Element k) around own = record { owner = Some around; kind = k; own = own } ∷ []
element_of other around own = []

-- the innermost element around what stands below a production
abbrev pub inner_owner : Action → ℕ → ℕ → ℕ
inner_owner (Element k) around n = n
inner_owner other around n = around

-- the elements of a forest in preorder, where the first has the number n, each with the innermost element around it
abbrev pub elements_in : Tables → ℕ → ℕ → Forest → List Token → List Written
elements_in t around n Nothing ts = []
elements_in t around n (Leaf k rest) ts = elements_in t around n rest (drop 1 ts)
elements_in t around n (Node p below rest) ts =
    let here = element_of (action_at t p) around (own_tokens t below ts) in
    let inner = elements_in t (inner_owner (action_at t p) around n) (n + length here) below ts in
    here ++ (inner ++ elements_in t around (n + length here + length inner) rest (behind below ts))

-- the root, whose own tokens stand in no element's production, and the elements of the tree
abbrev pub written : Tables → Forest → List Token → List Written
written t f ts = record { owner = None; kind = Root; own = own_tokens t f ts } ∷ elements_in t 0 1 f ts

-- what the tokens mean
abbrev pub means : Tables → List Token → List Meaning
means t ts = map (λ x. meaning_of t x.kind) ts

-- what the words say of a kind: that of the last word for a kind, and its definition where `def` stands behind
abbrev pub kind_said : Kind → List Meaning → Kind
kind_said k [] = k
kind_said k (meaning.Kind j ∷ ms) = kind_said j ms
kind_said k (meaning.Def ∷ ms) = kind_said (definition_of k) ms
kind_said k (other ∷ ms) = kind_said k ms

-- the last direction among them
abbrev pub direction_said : Direction → List Meaning → Direction
direction_said d [] = d
direction_said d (meaning.Direction way ∷ ms) = direction_said way ms
direction_said d (other ∷ ms) = direction_said d ms

-- the last word that says which part of a calculation or requirement it is
abbrev pub part_said : PartOf → List Meaning → PartOf
part_said p [] = p
part_said p (meaning.PartOf part ∷ ms) = part_said part ms
part_said p (other ∷ ms) = part_said p ms

-- what a comment says, or what was said before
abbrev pub said_by : Meaning → List ℕ → Option (List ℕ) → Option (List ℕ)
said_by meaning.Comment bytes body = Some (comment_meaning bytes)
said_by other bytes body = body

-- what the last comment among tokens says
abbrev pub body_said : Tables → List ℕ → Option (List ℕ) → List Token → Option (List ℕ)
body_said t text body [] = body
body_said t text body (x ∷ xs) = body_said t text (said_by (meaning_of t x.kind) (bytes_of text x) body) xs

-- whether a mark is set
abbrev pub is_set : Mark → Marks → Bool
is_set mark.Library m = m.library
is_set mark.Standard m = m.standard
is_set mark.End m = m.end
is_set mark.Derived m = m.derived
is_set mark.Abstract m = m.is_abstract
is_set mark.Composite m = m.composite
is_set mark.Constant m = m.constant
is_set mark.Reference m = m.reference
is_set mark.Ordered m = m.ordered
is_set mark.Nonunique m = m.nonunique
is_set mark.Default m = m.default

-- an element of a model is as it is written: its owner is the innermost element around it, a mark is set exactly where
-- its word is among its own tokens, and its kind is what these say
pub record IsWritten (t : Tables) (text : List ℕ) (e : StoredElement) (w : Written) : Type 0 where
  pub owner : e.owner ≡ w.owner
  pub kind : e.kind ≡ kind_said w.kind (means t w.own)
  pub marks : (m : Mark) → is_set m e.marks ≡ true ↔ IsMember (means t w.own) (meaning.Mark m)
  pub direction : e.marks.direction ≡ direction_said no_marks.direction (means t w.own)
  pub part_of : e.marks.part_of ≡ part_said no_marks.part_of (means t w.own)
  pub body : e.body ≡ body_said t text None w.own

-- the one list's items against the other's, one by one
abbrev pub OneByOne : {A B : Type 0} → (A → B → Type 0) → List A → List B → Type 0
OneByOne P [] [] = Unit {0}
OneByOne P (x ∷ xs) (y ∷ ys) = P x y × OneByOne P xs ys
OneByOne P xs ys = ⊥

-- the elements of a model are those that are written, in preorder
abbrev pub ElementsAreWritten : Type 0
ElementsAreWritten =
    (file : FileNo) (language : Language) (text : List ℕ) (d : Data) (tokens : List Token) (tree : Forest)
    → InProfile file language text d → IsRead language text tokens tree
    → OneByOne (IsWritten (tables language) text) d.elements (written (tables language) tree tokens)
