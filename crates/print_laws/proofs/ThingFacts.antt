-- What the draft of a thing is before its body, and how its ends are printed.
use Rattle.std.proofs.Common.{◌≡◌, ℕ, List, [], ◌∷◌, ◌++◌, refl, ap, sym, ◌∙◌, append_assoc, append-nil}
use Rattle.std.specs.Prelude.{None, Bool, true, false, codes}
use Rattle.element_store.specs.declared.numbers.FileNo.{FileNo}
use Rattle.element_store.specs.declared.outcome.Language.{Language}
use Rattle.element_store.specs.declared.outcome.Language.TheVariants.{Kerml, Sysml}
use Rattle.element_store.specs.declared.kind.Kind.{Kind}
use Rattle.element_store.specs.declared.kind.Kind.TheVariants as kind
use Rattle.element_store.specs.Model.{Data}
use Rattle.text_model.specs.Numbering.{model_of}
use Rattle.text_model.specs.Walk.{Walk}
use Rattle.print_model.specs.Printed.{Printed, sign, word}
use Rattle.print_model.specs.Heads.{is_end, is_note, ends_tokens, end_tokens, end_list}
use Rattle.print_laws.specs.Items.{Ending, Ends, Alone, Pair, Several, Simple, Usage, Definition, TypeWord, Thing}
use Rattle.print_laws.specs.Items as items
use Rattle.print_laws.specs.ItemTokens.{ending, more_ends, ends}
use Rattle.print_laws.specs.ItemWalk.{Grown, simple_kind, connector_kind, calculation_kind, usage_kind, definition_kind, type_kind, feature_kind, usage_ends, thing_draft, ends_in, next_number, with_end}
use Rattle.print_laws.specs.Fitting.{ends_listed}
use Rattle.print_laws.proofs.HeadTokens.{ends_text, HasThing}
use Rattle.print_laws.proofs.TextTokens.{AreTold, ends_numbers}

-- there is nothing in it yet
pub record IsBegun (n : ℕ) (t : Thing) : Type 0 where
  pub items : (thing_draft n t).items ≡ []
  pub inner : (thing_draft n t).inner ≡ []
  pub result : (thing_draft n t).result ≡ None

-- a draft that begins is empty
pub is_begun : (n : ℕ) (t : Thing) → IsBegun n t
is_begun n (items.Package p m) = record { items = refl; inner = refl; result = refl }
is_begun n (items.Defined a k m general) = record { items = refl; inner = refl; result = refl }
is_begun n (items.Used p u h v) = record { items = refl; inner = refl; result = refl }
is_begun n (items.Returned r u h v) = record { items = refl; inner = refl; result = refl }
is_begun n (items.Subject h v) = record { items = refl; inner = refl; result = refl }
is_begun n (items.Demanded r h v) = record { items = refl; inner = refl; result = refl }
is_begun n (items.Bind h a b) = record { items = refl; inner = refl; result = refl }
is_begun n (items.Namespace m) = record { items = refl; inner = refl; result = refl }
is_begun n (items.Declared a k m general) = record { items = refl; inner = refl; result = refl }
is_begun n (items.Function a m general) = record { items = refl; inner = refl; result = refl }
is_begun n (items.Featured q s h v) = record { items = refl; inner = refl; result = refl }
is_begun n (items.Yielded s h v) = record { items = refl; inner = refl; result = refl }

-- it is no end and no note
abbrev IsOther : Kind → Type 0
IsOther k = (is_end k ≡ false) × (is_note k ≡ false)

-- a simple usage
simple_other : (s : Simple) → IsOther (simple_kind s)
simple_other items.Attribute = (refl, refl)
simple_other items.Occurrence = (refl, refl)
simple_other items.Item = (refl, refl)
simple_other items.Part = (refl, refl)
simple_other items.Port = (refl, refl)
simple_other items.Action = (refl, refl)

-- any usage
usage_other : (u : Usage) → IsOther (usage_kind u)
usage_other (items.SimpleUse s) = simple_other s
usage_other items.EnumUse = (refl, refl)
usage_other (items.ConnectorUse true e) = (refl, refl)
usage_other (items.ConnectorUse false e) = (refl, refl)
usage_other (items.CalculationUse true) = (refl, refl)
usage_other (items.CalculationUse false) = (refl, refl)
usage_other items.RequirementUse = (refl, refl)
usage_other items.Plain = (refl, refl)

-- a definition
definition_other : (k : Definition) → IsOther (definition_kind k)
definition_other (items.SimpleDef items.Attribute) = (refl, refl)
definition_other (items.SimpleDef items.Occurrence) = (refl, refl)
definition_other (items.SimpleDef items.Item) = (refl, refl)
definition_other (items.SimpleDef items.Part) = (refl, refl)
definition_other (items.SimpleDef items.Port) = (refl, refl)
definition_other (items.SimpleDef items.Action) = (refl, refl)
definition_other items.EnumDef = (refl, refl)
definition_other (items.ConnectorDef true) = (refl, refl)
definition_other (items.ConnectorDef false) = (refl, refl)
definition_other (items.CalculationDef true) = (refl, refl)
definition_other (items.CalculationDef false) = (refl, refl)
definition_other items.RequirementDef = (refl, refl)

-- a type
type_other : (k : TypeWord) → IsOther (type_kind k)
type_other items.AnyType = (refl, refl)
type_other items.Classifier = (refl, refl)
type_other items.Class = (refl, refl)
type_other items.Struct = (refl, refl)
type_other items.Datatype = (refl, refl)
type_other items.Assoc = (refl, refl)
type_other items.Behavior = (refl, refl)

-- a feature
feature_other : (b : Bool) → IsOther (feature_kind b)
feature_other true = (refl, refl)
feature_other false = (refl, refl)

-- a thing is no end and no note
pub is_other : (n : ℕ) (t : Thing) → IsOther (thing_draft n t).kind
is_other n (items.Package p m) = (refl, refl)
is_other n (items.Defined a k m general) = definition_other k
is_other n (items.Used p u h v) = usage_other u
is_other n (items.Returned r u h v) = usage_other u
is_other n (items.Subject h v) = (refl, refl)
is_other n (items.Demanded r h v) = (refl, refl)
is_other n (items.Bind h a b) = (refl, refl)
is_other n (items.Namespace m) = (refl, refl)
is_other n (items.Declared a k m general) = type_other k
is_other n (items.Function a m general) = (refl, refl)
is_other n (items.Featured q s h v) = feature_other s
is_other n (items.Yielded s h v) = feature_other s

-- Ends.

-- no ends have no tokens
none_printed : (d : Data) (k : Kind) → ends_tokens d k [] ≡ []
none_printed d kind.Binding = refl
none_printed d other = refl

-- a list of ends
list_printed : (d : Data) (c : ℕ) (cs : List ℕ) (e : Ending) (es : List Ending) → AreTold d (c ∷ cs) (e ∷ es)
    → end_list d (c ∷ cs) ≡ ending d.language e ++ more_ends d.language es
list_printed d c [] e [] h = h.0 ∙ sym (append-nil (ending d.language e))
list_printed d c [] e (x ∷ es) h = absurd h.1
list_printed d c (b ∷ cs) e [] h = absurd h.1
list_printed d c (b ∷ cs) e (x ∷ es) h =
    ap (λ ps. ps ++ (sign (codes ",") ∷ end_list d (b ∷ cs))) h.0
    ∙ ap (λ ps. ending d.language e ++ (sign (codes ",") ∷ ps)) (list_printed d b cs x es h.1)

-- the ends of a connector
pair_printed : (file : FileNo) (w : Walk) (x y : ℕ) (a b : Ending) → AreTold (model_of file Sysml w) (x ∷ y ∷ []) (a ∷ b ∷ [])
    → word Sysml (codes "connect") ∷ (end_tokens (model_of file Sysml w) x ++ (word Sysml (codes "to") ∷ end_tokens (model_of file Sysml w) y))
    ≡ ends Sysml (Pair a b)
pair_printed file w x y a b h =
    ap (λ ps. word Sysml (codes "connect") ∷ (ps ++ (word Sysml (codes "to") ∷ end_tokens (model_of file Sysml w) y))) h.0
    ∙ ap (λ ps. word Sysml (codes "connect") ∷ (ending Sysml a ++ (word Sysml (codes "to") ∷ ps))) h.1.0

-- more of them
several_printed : (file : FileNo) (w : Walk) (x y z : ℕ) (ns : List ℕ) (a b c : Ending) (es : List Ending)
    → AreTold (model_of file Sysml w) (x ∷ y ∷ z ∷ ns) (a ∷ b ∷ c ∷ es)
    → word Sysml (codes "connect") ∷ sign (codes "(") ∷ (end_list (model_of file Sysml w) (x ∷ y ∷ z ∷ ns) ++ sign (codes ")") ∷ [])
    ≡ ends Sysml (Several a b c es)
several_printed file w x y z ns a b c es h =
    let more = more_ends Sysml (c ∷ es) in
    let stop = sign (codes ")") ∷ [] in
    let open_ = λ (ps : List Printed). word Sysml (codes "connect") ∷ sign (codes "(") ∷ ps in
    ap (λ ps. open_ (ps ++ stop)) (list_printed (model_of file Sysml w) x (y ∷ z ∷ ns) a (b ∷ c ∷ es) h)
    ∙ (ap open_ (append_assoc (ending Sysml a) (sign (codes ",") ∷ (ending Sysml b ++ more)) stop)
    ∙ ap (λ ps. open_ (ending Sysml a ++ (sign (codes ",") ∷ ps))) (append_assoc (ending Sysml b) more stop))

-- the ends of a connector
ends_printed : (file : FileNo) (w : Walk) (i : Bool) (n : ℕ) (e : Ends) (g : Grown)
    → AreTold (model_of file Sysml w) (ends_numbers n (ends_listed e) g) (ends_listed e)
    → ends_tokens (model_of file Sysml w) (connector_kind i) (ends_numbers n (ends_listed e) g) ≡ ends Sysml e
ends_printed file w i n Alone g h = none_printed (model_of file Sysml w) (connector_kind i)
ends_printed file w true n (Pair a b) g h = pair_printed file w _ _ a b h
ends_printed file w false n (Pair a b) g h = pair_printed file w _ _ a b h
ends_printed file w true n (Several a b c es) g h = several_printed file w _ _ _ _ a b c es h
ends_printed file w false n (Several a b c es) g h = several_printed file w _ _ _ _ a b c es h

-- of a usage
usage_printed : (file : FileNo) (w : Walk) (n : ℕ) (u : Usage) (g : Grown)
    → AreTold (model_of file Sysml w) (ends_numbers n (ends_listed (usage_ends u)) g) (ends_listed (usage_ends u))
    → ends_tokens (model_of file Sysml w) (usage_kind u) (ends_numbers n (ends_listed (usage_ends u)) g) ≡ ends Sysml (usage_ends u)
usage_printed file w n (items.ConnectorUse i e) g h = ends_printed file w i n e g h
usage_printed file w n (items.SimpleUse s) g h = none_printed (model_of file Sysml w) (simple_kind s)
usage_printed file w n (items.CalculationUse c) g h = none_printed (model_of file Sysml w) (calculation_kind c)
usage_printed file w n items.EnumUse g h = refl
usage_printed file w n items.RequirementUse g h = refl
usage_printed file w n items.Plain g h = refl

-- the ends of a thing
pub ends_text_is : (file : FileNo) (l : Language) (w : Walk) (m n : ℕ) (t : Thing) (g : Grown) → HasThing l t
    → AreTold (model_of file l w) (ends_numbers n (ends_listed (ends_in t)) g) (ends_listed (ends_in t))
    → ends_tokens (model_of file l w) (thing_draft m t).kind (ends_numbers n (ends_listed (ends_in t)) g) ≡ ends_text t
ends_text_is file Sysml w m n (items.Used p u h v) g i k = usage_printed file w n u g k
ends_text_is file Sysml w m n (items.Returned r u h v) g i k = usage_printed file w n u g k
ends_text_is file Sysml w m n (items.Bind h a b) g i k =
    ap (λ ps. word Sysml (codes "bind") ∷ (ps ++ (sign (codes "=") ∷ end_tokens (model_of file Sysml w) (next_number n (with_end n a g))))) k.0
    ∙ ap (λ ps. word Sysml (codes "bind") ∷ (ending Sysml a ++ (sign (codes "=") ∷ ps))) k.1.0
ends_text_is file Sysml w m n (items.Package p q) g i k = refl
ends_text_is file Sysml w m n (items.Defined a d q general) g i k = none_printed (model_of file Sysml w) (definition_kind d)
ends_text_is file Sysml w m n (items.Subject h v) g i k = refl
ends_text_is file Sysml w m n (items.Demanded r h v) g i k = refl
ends_text_is file Kerml w m n (items.Package p q) g i k = refl
ends_text_is file Kerml w m n (items.Namespace q) g i k = refl
ends_text_is file Kerml w m n (items.Declared a d q general) g i k = none_printed (model_of file Kerml w) (type_kind d)
ends_text_is file Kerml w m n (items.Function a q general) g i k = refl
ends_text_is file Kerml w m n (items.Featured q s h v) g i k = none_printed (model_of file Kerml w) (feature_kind s)
ends_text_is file Kerml w m n (items.Yielded s h v) g i k = none_printed (model_of file Kerml w) (feature_kind s)
ends_text_is file l w m n t g i k = absurd i
