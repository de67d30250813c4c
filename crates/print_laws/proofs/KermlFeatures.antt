-- Features and types of KerML are read back in each sort of body.
use Rattle.std.proofs.Common.{ℕ, List, [], ◌∷◌, ◌++◌, length}
use Rattle.std.specs.Prelude.{Some, Bool, true, false, codes}
use Rattle.element_store.specs.declared.outcome.Language.TheVariants.{Kerml}
use Rattle.element_store.specs.declared.kind.Kind.TheVariants as kind
use Rattle.element_store.specs.declared.kind.Marks.{Marks}
use Rattle.element_store.specs.declared.kind.Direction.{Direction}
use Rattle.element_store.specs.declared.kind.Direction.TheVariants as direction
use Rattle.element_store.specs.declared.kind.Visibility.{Visibility}
use Rattle.element_store.specs.Model.{no_marks}
use Rattle.token_core.specs.Terminals.{terminal}
use Rattle.ll_core.specs.declared.grammar.Symbol.{Symbol}
use Rattle.ll_core.specs.declared.grammar.Symbol.TheVariants.{Terminal, Inner}
use Rattle.text_model.specs.declared.action.Action.{Action}
use Rattle.text_model.specs.declared.action.Action.TheVariants as action
use Rattle.text_model.specs.declared.action.Mark.TheVariants as mark
use Rattle.text_model.specs.declared.draft.Draft.{Draft}
use Rattle.text_model.specs.declared.draft.Reading.{Reading}
use Rattle.text_model.specs.Drafts.{draft}
use Rattle.text_model.specs.Walk.{Walk, fresh, named}
use Rattle.print_model.specs.Printed.{Printed, word}
use Rattle.print_model.specs.Heads.{word_if}
use Rattle.print_model.proofs.Readings.{Reads}
use Rattle.print_laws.specs.Items.{Names, Qualified, Value, Header, Qualities, TypeWord}
use Rattle.print_laws.specs.Items as items
use Rattle.print_laws.specs.ItemTokens.{named as name_tokens, generals, qualities, feature_word, feature_tail, type_word}
use Rattle.print_laws.specs.ItemWalk.{Grown, changed_self, quality_marks, feature_kind, type_kind, specialised as generalised, begun, ended}
use Rattle.print_laws.specs.Fitting.{IsExtent, IsValue}
use Rattle.print_laws.proofs.Symbols as symbol
use Rattle.print_laws.proofs.Productions as rule
use Rattle.print_laws.proofs.KermlProductions as kerml
use Rattle.print_laws.proofs.Meanings as means
use Rattle.print_laws.proofs.Steps.{inside, done, then, grouped, marking, naming_kind, opened, waited}
use Rattle.print_laws.proofs.Heads.{named_reading, ident_read}
use Rattle.print_laws.proofs.Features.{told, use_tail_read}
use Rattle.print_laws.proofs.Usages.{holding, sort_of, generals_read}
use Rattle.print_laws.proofs.Prefixes.{HasWay, way_read}
use Rattle.print_laws.proofs.Slots.{Opens, opens_by, opens_through}

-- the words that were read
abbrev pub quality_of : Direction → Bool → Bool → Bool → Bool → Bool → Qualities
quality_of way d a o c e = record { direction = way; derived = d; is_abstract = a; composite = o; constant = c; end = e }

-- their marks
abbrev pub marks_in : Direction → Bool → Bool → Bool → Bool → Bool → Marks
marks_in way d a o c e = quality_marks (quality_of way d a o c e)

-- a feature begins, with these marks
abbrev felt : ℕ → Marks → Draft
felt n m = sort_of n kind.Feature m

-- the walk there
abbrev pub feeling : List Draft → Grown → ℕ → Marks → Walk
feeling es g n m = inside es (holding g (felt n m)) fresh

-- what its body is read behind
abbrev pub FeatureBody : List Draft → Grown → ℕ → Marks → Bool → Header → Value → List Printed → Walk → Type 0
FeatureBody es g n m s h x ps w =
    Reads Kerml action.Group (Inner (symbol.body Kerml) ∷ []) ps (inside es (holding g (told h x (sort_of n (feature_kind s) m))) (named_reading h.names)) w

-- from its word on
abbrev pub featured : Bool → Header → Value → List Printed → List Printed
featured s h x ps = word Kerml (feature_word s) ∷ feature_tail Kerml h x ps

-- `feature` and its tail
feature_tail_read : (b : Action) (es : List Draft) (g : Grown) (n : ℕ) (m : Marks) (h : Header) (x : Value) (ps : List Printed) (w : Walk)
    → IsExtent h.extent → IsValue x → FeatureBody es g n m false h x ps w
    → Reads Kerml b (Terminal (terminal (word Kerml (codes "feature")).kind) ∷ Inner (symbol.use_tail Kerml) ∷ []) (featured false h x ps) (feeling es g n m) w
feature_tail_read b es g n m h x ps w k j q =
    naming_kind es (holding g (felt n m)) (word Kerml (codes "feature")) kind.Feature means.word_feature
    (use_tail_read Kerml b es (holding g (sort_of n kind.Feature m)) h x ps w k j q)

-- `step` and its tail
step_tail_read : (b : Action) (es : List Draft) (g : Grown) (n : ℕ) (m : Marks) (h : Header) (x : Value) (ps : List Printed) (w : Walk)
    → IsExtent h.extent → IsValue x → FeatureBody es g n m true h x ps w
    → Reads Kerml b (Terminal (terminal (word Kerml (codes "step")).kind) ∷ Inner (symbol.use_tail Kerml) ∷ []) (featured true h x ps) (feeling es g n m) w
step_tail_read b es g n m h x ps w k j q =
    naming_kind es (holding g (felt n m)) (word Kerml (codes "step")) kind.Step means.word_step
    (use_tail_read Kerml b es (holding g (sort_of n kind.Step m)) h x ps w k j q)

-- either of them
pub feat_read : (b : Action) (es : List Draft) (g : Grown) (n : ℕ) (m : Marks) (s : Bool) (h : Header) (x : Value) (ps : List Printed) (w : Walk)
    → IsExtent h.extent → IsValue x → FeatureBody es g n m s h x ps w → Reads Kerml b (Inner symbol.feat ∷ []) (featured s h x ps) (feeling es g n m) w
feat_read b es g n m false h x ps w k j q = grouped kerml.feat_0 (feature_tail_read action.Group es g n m h x ps w k j q)
feat_read b es g n m true h x ps w k j q = grouped kerml.feat_1 (step_tail_read action.Group es g n m h x ps w k j q)

-- Words before it.

-- from `end` on
k5_read : (b : Action) (es : List Draft) (g : Grown) (n : ℕ) (way : Direction) (d a o c e : Bool) (ps : List Printed) (w : Walk)
    → Reads Kerml action.Group (Inner symbol.feat ∷ []) ps (feeling es g n (marks_in way d a o c e)) w
    → Reads Kerml b (Inner symbol.k5 ∷ []) (word_if Kerml e (codes "end") ++ ps) (feeling es g n (marks_in way d a o c false)) w
k5_read b es g n way d a o c true ps w q =
    grouped kerml.k5
    (then (grouped kerml.maybe_end_0 (marking es (holding g (felt n (marks_in way d a o c false))) (word Kerml (codes "end")) mark.End
    (means.word_end Kerml) done)) q)
k5_read b es g n way d a o c false ps w q = grouped kerml.k5 (then (grouped kerml.maybe_end_1 done) q)

-- from `const` on
k4_read : (b : Action) (es : List Draft) (g : Grown) (n : ℕ) (way : Direction) (d a o c e : Bool) (ps : List Printed) (w : Walk)
    → Reads Kerml action.Group (Inner symbol.feat ∷ []) ps (feeling es g n (marks_in way d a o c e)) w
    → Reads Kerml b (Inner symbol.k4 ∷ []) (word_if Kerml c (codes "const") ++ (word_if Kerml e (codes "end") ++ ps))
    (feeling es g n (marks_in way d a o false false)) w
k4_read b es g n way d a o true e ps w q =
    grouped kerml.k4
    (then (grouped kerml.maybe_const_0 (marking es (holding g (felt n (marks_in way d a o false false))) (word Kerml
    (codes "const")) mark.Constant means.word_const done))
    (k5_read action.Group es g n way d a o true e ps w q))
k4_read b es g n way d a o false e ps w q =
    grouped kerml.k4 (then (grouped kerml.maybe_const_1 done) (k5_read action.Group es g n way d a o false e ps w q))

-- from `composite` on
k3_read : (b : Action) (es : List Draft) (g : Grown) (n : ℕ) (way : Direction) (d a o c e : Bool) (ps : List Printed) (w : Walk)
    → Reads Kerml action.Group (Inner symbol.feat ∷ []) ps (feeling es g n (marks_in way d a o c e)) w
    → Reads Kerml b (Inner symbol.k3 ∷ [])
    (word_if Kerml o (codes "composite") ++ (word_if Kerml c (codes "const") ++ (word_if Kerml e (codes "end") ++ ps)))
    (feeling es g n (marks_in way d a false false false)) w
k3_read b es g n way d a true c e ps w q =
    grouped kerml.k3
    (then (grouped kerml.maybe_composite_0
    (marking es (holding g (felt n (marks_in way d a false false false))) (word Kerml (codes "composite")) mark.Composite means.word_composite done))
    (k4_read action.Group es g n way d a true c e ps w q))
k3_read b es g n way d a false c e ps w q =
    grouped kerml.k3 (then (grouped kerml.maybe_composite_1 done) (k4_read action.Group es g n way d a false c e ps w q))

-- from `abstract` on
k2_read : (b : Action) (es : List Draft) (g : Grown) (n : ℕ) (way : Direction) (d a o c e : Bool) (ps : List Printed) (w : Walk)
    → Reads Kerml action.Group (Inner symbol.feat ∷ []) ps (feeling es g n (marks_in way d a o c e)) w
    → Reads Kerml b (Inner symbol.k2 ∷ [])
    (word_if Kerml a (codes "abstract") ++ (word_if Kerml o (codes "composite") ++ (word_if Kerml c (codes "const") ++ (word_if Kerml e (codes "end") ++ ps))))
    (feeling es g n (marks_in way d false false false false)) w
k2_read b es g n way d true o c e ps w q =
    grouped kerml.k2
    (then (grouped (rule.maybe_abstract_0 Kerml)
    (marking es (holding g (felt n (marks_in way d false false false false))) (word Kerml (codes "abstract")) mark.Abstract (means.word_abstract Kerml) done))
    (k3_read action.Group es g n way d true o c e ps w q))
k2_read b es g n way d false o c e ps w q =
    grouped kerml.k2 (then (grouped (rule.maybe_abstract_1 Kerml) done) (k3_read action.Group es g n way d false o c e ps w q))

-- from `derived` on
k1_read : (b : Action) (es : List Draft) (g : Grown) (n : ℕ) (way : Direction) (d a o c e : Bool) (ps : List Printed) (w : Walk)
    → Reads Kerml action.Group (Inner symbol.feat ∷ []) ps (feeling es g n (marks_in way d a o c e)) w
    → Reads Kerml b (Inner symbol.k1 ∷ [])
    (word_if Kerml d (codes "derived") ++ (word_if Kerml a (codes "abstract") ++ (word_if Kerml o (codes "composite") ++ (word_if Kerml c (codes "const")
    ++ (word_if Kerml e (codes "end") ++ ps)))))
    (feeling es g n (marks_in way false false false false false)) w
k1_read b es g n way true a o c e ps w q =
    grouped kerml.k1
    (then (grouped (rule.maybe_derived_0 Kerml)
    (marking es (holding g (felt n (marks_in way false false false false false))) (word Kerml (codes "derived")) mark.Derived (means.word_derived Kerml) done))
    (k2_read action.Group es g n way true a o c e ps w q))
k1_read b es g n way false a o c e ps w q =
    grouped kerml.k1 (then (grouped (rule.maybe_derived_1 Kerml) done) (k2_read action.Group es g n way false a o c e ps w q))

-- Types.

-- the word of a type
type_word_read : (b : Action) (es : List Draft) (g : Grown) (r : Reading) (k : TypeWord)
    → Reads Kerml b (Inner symbol.type_word ∷ []) (word Kerml (type_word k) ∷ []) (inside es g r) (inside es (changed_self
    (λ d. record d { kind = type_kind k }) g) r)
type_word_read b es g r items.AnyType = grouped kerml.type_word_0 (naming_kind es g (word Kerml (codes "type")) kind.AnyType means.word_type done)
type_word_read b es g r items.Classifier =
    grouped kerml.type_word_1 (naming_kind es g (word Kerml (codes "classifier")) kind.Classifier means.word_classifier done)
type_word_read b es g r items.Class = grouped kerml.type_word_2 (naming_kind es g (word Kerml (codes "class")) kind.Class means.word_class done)
type_word_read b es g r items.Struct = grouped kerml.type_word_3 (naming_kind es g (word Kerml (codes "struct")) kind.Struct means.word_struct done)
type_word_read b es g r items.Datatype = grouped kerml.type_word_4 (naming_kind es g (word Kerml (codes "datatype")) kind.Datatype means.word_datatype done)
type_word_read b es g r items.Assoc = grouped kerml.type_word_5 (naming_kind es g (word Kerml (codes "assoc")) kind.Assoc means.word_assoc done)
type_word_read b es g r items.Behavior = grouped kerml.type_word_6 (naming_kind es g (word Kerml (codes "behavior")) kind.Behavior means.word_behavior done)

-- a type from its word on
pub type_read : (b : Action) (es : List Draft) (g : Grown) (n : ℕ) (m : Marks) (k : TypeWord) (names : Names) (general : List Qualified)
    (ps : List Printed) (w : Walk)
    → Reads Kerml action.Group (Inner (symbol.body Kerml) ∷ []) ps
    (inside es (holding g (generalised general (sort_of n (type_kind k) m))) (named_reading names)) w
    → Reads Kerml b (Inner symbol.type_decl ∷ []) (word Kerml (type_word k) ∷ (name_tokens Kerml names ++ (generals Kerml general ++ ps))) (feeling es g n m) w
type_read b es g n m k names general ps w q =
    grouped kerml.type_decl_0
    (then (type_word_read action.Group es (holding g (felt n m)) fresh k)
    (then (ident_read Kerml action.Group es (holding g (sort_of n (type_kind k) m)) names)
    (then (generals_read Kerml action.Group es (holding g (sort_of n (type_kind k) m)) (named_reading names) general) q)))

-- a function from its word on
pub function_read : (b : Action) (es : List Draft) (g : Grown) (n : ℕ) (m : Marks) (names : Names) (general : List Qualified)
    (ps : List Printed) (w : Walk)
    → Reads Kerml action.Group (Inner symbol.fun_body ∷ []) ps
    (inside es (holding g (generalised general (sort_of n kind.Function m))) (named_reading names)) w
    → Reads Kerml b (Inner symbol.type_decl ∷ []) (word Kerml (codes "function") ∷ (name_tokens Kerml names ++ (generals Kerml general ++ ps)))
    (feeling es g n m) w
function_read b es g n m names general ps w q =
    grouped kerml.type_decl_1
    (naming_kind es (holding g (felt n m)) (word Kerml (codes "function")) kind.Function means.word_function
    (then (ident_read Kerml action.Group es (holding g (sort_of n kind.Function m)) names)
    (then (generals_read Kerml action.Group es (holding g (sort_of n kind.Function m)) (named_reading names) general) q)))

-- Places.

-- where features and types of KerML stand
pub record Spot (s : ℕ) : Type 0 where
  pub way : Opens Kerml s (Inner (symbol.dir Kerml) ∷ Inner symbol.k1 ∷ []) kind.Feature
  pub derived : Opens Kerml s (Terminal (terminal (word Kerml (codes "derived")).kind) ∷ Inner symbol.k2 ∷ []) kind.Feature
  pub is_abstract : Opens Kerml s (Terminal (terminal (word Kerml (codes "abstract")).kind) ∷ Inner symbol.klate ∷ []) kind.Feature
  pub composite : Opens Kerml s (Terminal (terminal (word Kerml (codes "composite")).kind) ∷ Inner symbol.k4 ∷ []) kind.Feature
  pub constant : Opens Kerml s (Terminal (terminal (word Kerml (codes "const")).kind) ∷ Inner symbol.k5 ∷ []) kind.Feature
  pub end : Opens Kerml s (Terminal (terminal (word Kerml (codes "end")).kind) ∷ Inner symbol.feat ∷ []) kind.Feature
  pub typed : Opens Kerml s (Inner symbol.type_decl ∷ []) kind.Feature
  pub feature : Opens Kerml s (Terminal (terminal (word Kerml (codes "feature")).kind) ∷ Inner (symbol.use_tail Kerml) ∷ []) kind.Feature
  pub step : Opens Kerml s (Terminal (terminal (word Kerml (codes "step")).kind) ∷ Inner (symbol.use_tail Kerml) ∷ []) kind.Feature

-- through what may stand behind `abstract`
thing_opens : (ss : List Symbol) → rule.Rule Kerml symbol.klate ss action.Group → Opens Kerml (symbol.thing Kerml) ss kind.Feature
thing_opens ss by =
    opens_through Kerml (symbol.thing Kerml) symbol.klate ss kind.Feature (opens_by Kerml (symbol.thing Kerml) _ kind.Feature kerml.thing_3) by

-- and through a feature
feat_opens : (ss : List Symbol) → rule.Rule Kerml symbol.feat ss action.Group → Opens Kerml (symbol.thing Kerml) ss kind.Feature
feat_opens ss by = opens_through Kerml (symbol.thing Kerml) symbol.feat ss kind.Feature (thing_opens _ kerml.klate_4) by

-- in most bodies
pub thing_spot : Spot (symbol.thing Kerml)
thing_spot = record {
  way = opens_by Kerml _ _ _ kerml.thing_0;
  derived = opens_by Kerml _ _ _ kerml.thing_1;
  is_abstract = opens_by Kerml _ _ _ kerml.thing_2;
  composite = thing_opens _ kerml.klate_0;
  constant = thing_opens _ kerml.klate_1;
  end = thing_opens _ kerml.klate_2;
  typed = thing_opens _ kerml.klate_3;
  feature = feat_opens _ kerml.feat_0;
  step = feat_opens _ kerml.feat_1;
}

-- in bodies with a result
pub result_spot : Spot (symbol.one_import_alias_note Kerml)
result_spot = record {
  way = opens_by Kerml _ _ _ kerml.one_import_alias_note_5;
  derived = opens_by Kerml _ _ _ kerml.one_import_alias_note_6;
  is_abstract = opens_by Kerml _ _ _ kerml.one_import_alias_note_7;
  composite = opens_by Kerml _ _ _ kerml.one_import_alias_note_8;
  constant = opens_by Kerml _ _ _ kerml.one_import_alias_note_9;
  end = opens_by Kerml _ _ _ kerml.one_import_alias_note_10;
  typed = opens_by Kerml _ _ _ kerml.one_import_alias_note_11;
  feature = opens_by Kerml _ _ _ kerml.one_import_alias_note_12;
  step = opens_by Kerml _ _ _ kerml.one_import_alias_note_13;
}

-- the element that begins
abbrev pub felt_in : List Draft → Grown → Visibility → Grown
felt_in es g v = begun (length es) v (draft kind.Feature (Some (length es))) g

-- its body
abbrev pub FeltBody : List Draft → Grown → Visibility → Marks → Bool → Header → Value → List Printed → Grown → Type 0
FeltBody es g v m s h x ps end =
    FeatureBody (opened es g) (felt_in es g v) (length es) m s h x ps (inside (opened es g) end (named_reading h.names))

-- the feature with its element
abbrev pub FeltRead : ℕ → Visibility → List Draft → Grown → Header → List Printed → Grown → Type 0
FeltRead s v es g h ps end = (b : Action) (r : Reading) → Reads Kerml b (Inner s ∷ []) ps (waited v (inside es g r))
    (inside es (ended g (changed_self (named (named_reading h.names)) end)) r)

-- behind `abstract`
klate_read : (b : Action) (v : Visibility) (es : List Draft) (g : Grown) (o c e : Bool) (s : Bool) (h : Header) (x : Value) (ps : List Printed) (end : Grown)
    → IsExtent h.extent → IsValue x → FeltBody es g v (marks_in direction.None false true o c e) s h x ps end
    → Reads Kerml b (Inner symbol.klate ∷ [])
    (word_if Kerml o (codes "composite") ++ (word_if Kerml c (codes "const") ++ (word_if Kerml e (codes "end") ++ featured s h x ps)))
    (feeling (opened es g) (felt_in es g v) (length es) (marks_in direction.None false true false false false))
    (inside (opened es g) end (named_reading h.names))
klate_read b v es g true c e s h x ps end k j q =
    grouped kerml.klate_0
    (marking (opened es g) (holding (felt_in es g v) (felt (length es) (marks_in direction.None false true false false false))) (word Kerml (codes "composite"))
    mark.Composite means.word_composite
    (k4_read action.Group (opened es g) (felt_in es g v) (length es) direction.None false true true c e (featured s h x ps) _
    (feat_read action.Group (opened es g) (felt_in es g v) (length es) (marks_in direction.None false true true c e) s h x ps _ k j q)))
klate_read b v es g false true e s h x ps end k j q =
    grouped kerml.klate_1
    (marking (opened es g) (holding (felt_in es g v) (felt (length es) (marks_in direction.None false true false false false))) (word Kerml (codes "const"))
    mark.Constant means.word_const
    (k5_read action.Group (opened es g) (felt_in es g v) (length es) direction.None false true false true e (featured s h x ps) _
    (feat_read action.Group (opened es g) (felt_in es g v) (length es) (marks_in direction.None false true false true e) s h x ps _ k j q)))
klate_read b v es g false false true s h x ps end k j q =
    grouped kerml.klate_2
    (marking (opened es g) (holding (felt_in es g v) (felt (length es) (marks_in direction.None false true false false false))) (word Kerml (codes "end"))
    mark.End (means.word_end Kerml)
    (feat_read action.Group (opened es g) (felt_in es g v) (length es) (marks_in direction.None false true false false true) s h x ps _ k j q))
klate_read b v es g false false false s h x ps end k j q =
    grouped kerml.klate_4
    (feat_read action.Group (opened es g) (felt_in es g v) (length es) (marks_in direction.None false true false false false) s h x ps _ k j q)

-- behind a direction
way_in : (y : ℕ) (spot : Spot y) (v : Visibility) (es : List Draft) (g : Grown) (way : Direction) (d a o c e : Bool) (s : Bool)
    (h : Header) (x : Value) (ps : List Printed) (end : Grown) → HasWay way → IsExtent h.extent → IsValue x
    → FeltBody es g v (marks_in way d a o c e) s h x ps end
    → FeltRead y v es g h (qualities (quality_of way d a o c e) (featured s h x ps)) end
way_in y spot v es g way d a o c e s h x ps end has k j q b r =
    spot.way b v es g r _ end (named_reading h.names) (λ act.
    then (way_read Kerml act (opened es g) (holding (felt_in es g v) (felt (length es) no_marks)) fresh way has)
    (k1_read act (opened es g) (felt_in es g v) (length es) way d a o c e (featured s h x ps) _
    (feat_read action.Group (opened es g) (felt_in es g v) (length es) (marks_in way d a o c e) s h x ps _ k j q)))

-- a feature with all words before it
pub featured_read : (y : ℕ) (spot : Spot y) (v : Visibility) (es : List Draft) (g : Grown) (way : Direction) (d a o c e : Bool) (s : Bool)
    (h : Header) (x : Value) (ps : List Printed) (end : Grown) → IsExtent h.extent → IsValue x
    → FeltBody es g v (marks_in way d a o c e) s h x ps end
    → FeltRead y v es g h (qualities (quality_of way d a o c e) (featured s h x ps)) end
featured_read y spot v es g direction.In d a o c e s h x ps end k j q b r = way_in y spot v es g direction.In d a o c e s h x ps end tt k j q b r
featured_read y spot v es g direction.Out d a o c e s h x ps end k j q b r = way_in y spot v es g direction.Out d a o c e s h x ps end tt k j q b r
featured_read y spot v es g direction.InOut d a o c e s h x ps end k j q b r = way_in y spot v es g direction.InOut d a o c e s h x ps end tt k j q b r
featured_read y spot v es g direction.None true a o c e s h x ps end k j q b r =
    spot.derived b v es g r _ end (named_reading h.names) (λ act.
    marking (opened es g) (holding (felt_in es g v) (felt (length es) no_marks)) (word Kerml (codes "derived")) mark.Derived (means.word_derived Kerml)
    (k2_read act (opened es g) (felt_in es g v) (length es) direction.None true a o c e (featured s h x ps) _
    (feat_read action.Group (opened es g) (felt_in es g v) (length es) (marks_in direction.None true a o c e) s h x ps _ k j q)))
featured_read y spot v es g direction.None false true o c e s h x ps end k j q b r =
    spot.is_abstract b v es g r _ end (named_reading h.names) (λ act.
    marking (opened es g) (holding (felt_in es g v) (felt (length es) no_marks)) (word Kerml (codes "abstract")) mark.Abstract (means.word_abstract Kerml)
    (klate_read act v es g o c e s h x ps end k j q))
featured_read y spot v es g direction.None false false true c e s h x ps end k j q b r =
    spot.composite b v es g r _ end (named_reading h.names) (λ act.
    marking (opened es g) (holding (felt_in es g v) (felt (length es) no_marks)) (word Kerml (codes "composite")) mark.Composite means.word_composite
    (k4_read act (opened es g) (felt_in es g v) (length es) direction.None false false true c e (featured s h x ps) _
    (feat_read action.Group (opened es g) (felt_in es g v) (length es) (marks_in direction.None false false true c e) s h x ps _ k j q)))
featured_read y spot v es g direction.None false false false true e s h x ps end k j q b r =
    spot.constant b v es g r _ end (named_reading h.names) (λ act.
    marking (opened es g) (holding (felt_in es g v) (felt (length es) no_marks)) (word Kerml (codes "const")) mark.Constant means.word_const
    (k5_read act (opened es g) (felt_in es g v) (length es) direction.None false false false true e (featured s h x ps) _
    (feat_read action.Group (opened es g) (felt_in es g v) (length es) (marks_in direction.None false false false true e) s h x ps _ k j q)))
featured_read y spot v es g direction.None false false false false true s h x ps end k j q b r =
    spot.end b v es g r _ end (named_reading h.names) (λ act.
    marking (opened es g) (holding (felt_in es g v) (felt (length es) no_marks)) (word Kerml (codes "end")) mark.End (means.word_end Kerml)
    (feat_read act (opened es g) (felt_in es g v) (length es) (marks_in direction.None false false false false true) s h x ps _ k j q))
featured_read y spot v es g direction.None false false false false false false h x ps end k j q b r =
    spot.feature b v es g r _ end (named_reading h.names) (λ act.
    feature_tail_read act (opened es g) (felt_in es g v) (length es) no_marks h x ps _ k j q)
featured_read y spot v es g direction.None false false false false false true h x ps end k j q b r =
    spot.step b v es g r _ end (named_reading h.names) (λ act.
    step_tail_read act (opened es g) (felt_in es g v) (length es) no_marks h x ps _ k j q)
