-- Usages of SysML are read back in each sort of body.
use Rattle.std.proofs.Common.{ℕ, List, [], ◌∷◌, ◌++◌, length}
use Rattle.std.specs.Prelude.{Some, Bool, true, false, ◌&&◌, codes}
use Rattle.element_store.specs.declared.outcome.Language.{Language}
use Rattle.element_store.specs.declared.outcome.Language.TheVariants.{Sysml}
use Rattle.element_store.specs.declared.kind.Kind.{Kind}
use Rattle.element_store.specs.declared.kind.Kind.TheVariants as kind
use Rattle.element_store.specs.declared.kind.Marks.{Marks}
use Rattle.element_store.specs.declared.kind.Direction.{Direction}
use Rattle.element_store.specs.declared.kind.Direction.TheVariants as direction
use Rattle.element_store.specs.declared.kind.Visibility.{Visibility}
use Rattle.element_store.specs.Model.{no_marks}
use Rattle.token_core.specs.Terminals.{terminal}
use Rattle.ll_core.specs.declared.grammar.Symbol.{Symbol}
use Rattle.ll_core.specs.declared.grammar.Symbol.TheVariants.{Terminal, Inner}
use Rattle.text_model.specs.declared.action.Action.{Action}
use Rattle.text_model.specs.declared.action.Action.TheVariants as action
use Rattle.text_model.specs.declared.action.Mark.TheVariants as mark
use Rattle.text_model.specs.declared.draft.Draft.{Draft}
use Rattle.text_model.specs.declared.draft.Reading.{Reading}
use Rattle.text_model.specs.Drafts.{draft}
use Rattle.text_model.specs.Walk.{fresh, named}
use Rattle.print_model.specs.Printed.{Printed, word}
use Rattle.print_model.specs.Heads.{word_if}
use Rattle.print_model.proofs.Readings.{Reads}
use Rattle.print_laws.specs.Items.{Names, Value, Header, Usage, Prefix}
use Rattle.print_laws.specs.Items as items
use Rattle.print_laws.specs.ItemTokens.{usage, prefixed}
use Rattle.print_laws.specs.ItemWalk.{Grown, changed_self, prefix_marks, usage_kind, usage_ends, with_ends, begun, ended}
use Rattle.print_laws.specs.Fitting.{IsExtent, IsValue, IsUsage, IsUsageThere, is_unmarked, AreEnds, usage_place}
use Rattle.print_laws.proofs.Symbols as symbol
use Rattle.print_laws.proofs.SysmlProductions as sysml
use Rattle.print_laws.proofs.Productions.{Rule}
use Rattle.print_laws.proofs.Meanings as means
use Rattle.print_laws.proofs.Steps.{inside, then, grouped, marking, opened, waited, element}
use Rattle.print_laws.proofs.Heads.{named_reading}
use Rattle.print_laws.proofs.Features.{told}
use Rattle.print_laws.proofs.Prefixes.{words_before, with_words, still, HasWay, way_read, p1_read, p2_read, p3_read, p5_read}
use Rattle.print_laws.proofs.Usages.{body_symbol, holding, sort_of, usage_read, worded_read, plain_read, no_name_read}

-- these symbols are an element of a kind where this symbol stands
abbrev pub Opens : Language → ℕ → List Symbol → Kind → Type 0
Opens l s ss k = (a : Action) (v : Visibility) (es : List Draft) (g : Grown) (r : Reading) (ps : List Printed) (h : Grown) (q : Reading)
    → ((b : Action) → Reads l b ss ps (inside (opened es g) (begun (length es) v (draft k (Some (length es))) g) fresh) (inside (opened es g) h q))
    → Reads l a (Inner s ∷ []) ps (waited v (inside es g r)) (inside es (ended g (changed_self (named q) h)) r)

-- by a production of its own
pub opens_by : (l : Language) (s : ℕ) (ss : List Symbol) (k : Kind) → Rule l s ss (action.Element k) → Opens l s ss k
opens_by l s ss k rule a v es g r ps h q x = element k v es g r h q rule (x (action.Element k))

-- through another symbol
pub opens_through : (l : Language) (s t : ℕ) (ss : List Symbol) (k : Kind) → Opens l s (Inner t ∷ []) k → Rule l t ss action.Group → Opens l s ss k
opens_through l s t ss k o rule a v es g r ps h q x = o a v es g r ps h q (λ b. grouped rule (x action.Group))

-- what a usage without a word is
abbrev pub plain_symbol : Bool → ℕ
plain_symbol true = symbol.no_name Sysml
plain_symbol false = symbol.plain Sysml

-- where usages of SysML stand; where a result may stand too, they don't begin with their name
pub record Slot (s : ℕ) (strict : Bool) : Type 0 where
  pub end : Opens Sysml s (Terminal (terminal (word Sysml (codes "end")).kind) ∷ Inner symbol.p1 ∷ []) kind.Reference
  pub way : Opens Sysml s (Inner (symbol.dir Sysml) ∷ Inner symbol.p2 ∷ []) kind.Reference
  pub derived : Opens Sysml s (Terminal (terminal (word Sysml (codes "derived")).kind) ∷ Inner symbol.p3 ∷ []) kind.Reference
  pub is_abstract : Opens Sysml s (Terminal (terminal (word Sysml (codes "abstract")).kind) ∷ Inner symbol.late ∷ []) kind.Reference
  pub constant : Opens Sysml s (Terminal (terminal (word Sysml (codes "constant")).kind) ∷ Inner symbol.p5 ∷ []) kind.Reference
  pub reference : Opens Sysml s (Terminal (terminal (word Sysml (codes "ref")).kind) ∷ Inner symbol.usage ∷ []) kind.Reference
  pub worded : Opens Sysml s (Inner symbol.def_use ∷ []) kind.Reference
  pub bound : Opens Sysml s (Inner symbol.bind ∷ []) kind.Binding
  pub plain : Opens Sysml s (Inner (plain_symbol strict) ∷ []) kind.Reference

-- through what may stand behind `abstract`
thing_opens : (ss : List Symbol) → Rule Sysml symbol.late ss action.Group → Opens Sysml (symbol.thing Sysml) ss kind.Reference
thing_opens ss by =
    opens_through Sysml (symbol.thing Sysml) symbol.late ss kind.Reference (opens_by Sysml (symbol.thing Sysml) _ kind.Reference sysml.thing_4) by

-- in most bodies
pub thing_slot : Slot (symbol.thing Sysml) false
thing_slot = record {
  end = opens_by Sysml _ _ _ sysml.thing_0;
  way = opens_by Sysml _ _ _ sysml.thing_1;
  derived = opens_by Sysml _ _ _ sysml.thing_2;
  is_abstract = opens_by Sysml _ _ _ sysml.thing_3;
  constant = thing_opens _ sysml.late_0;
  reference = thing_opens _ sysml.late_1;
  worded = thing_opens _ sysml.late_2;
  bound = opens_by Sysml _ _ _ sysml.thing_6;
  plain = thing_opens _ sysml.late_3;
}

-- in bodies with a result
pub result_slot : Slot (symbol.one_import_alias_note Sysml) true
result_slot = record {
  end = opens_by Sysml _ _ _ sysml.one_import_alias_note_4;
  way = opens_by Sysml _ _ _ sysml.one_import_alias_note_5;
  derived = opens_by Sysml _ _ _ sysml.one_import_alias_note_6;
  is_abstract = opens_by Sysml _ _ _ sysml.one_import_alias_note_7;
  constant = opens_by Sysml _ _ _ sysml.one_import_alias_note_8;
  reference = opens_by Sysml _ _ _ sysml.one_import_alias_note_9;
  worded = opens_by Sysml _ _ _ sysml.one_import_alias_note_10;
  bound = opens_by Sysml _ _ _ sysml.one_import_alias_note_13;
  plain = opens_by Sysml _ _ _ sysml.one_import_alias_note_11;
}

-- the element that begins
abbrev pub fresh_in : List Draft → Grown → Visibility → Grown
fresh_in es g v = begun (length es) v (draft kind.Reference (Some (length es))) g

-- the marks of these words
abbrev pub marks_of : Bool → Direction → Bool → Bool → Bool → Bool → Marks
marks_of e way d a c r = prefix_marks (words_before e way d a c r)

-- what a body is read behind
abbrev pub BodyRead : List Draft → Grown → Visibility → Marks → Usage → Header → Value → List Printed → Grown → Type 0
BodyRead es g v m u h x ps end =
    Reads Sysml action.Group (Inner (body_symbol Sysml (usage_place u)) ∷ []) ps
    (inside (opened es g)
    (with_ends (length (opened es g)) (usage_ends u) (holding (fresh_in es g v) (told h x (sort_of (length es) (usage_kind u) m)))) (named_reading h.names))
    (inside (opened es g) end (named_reading h.names))

-- a usage with its element
abbrev pub UsedRead : ℕ → Visibility → List Draft → Grown → Header → List Printed → Grown → Type 0
UsedRead s v es g h ps end = (a : Action) (r : Reading) → Reads Sysml a (Inner s ∷ []) ps (waited v (inside es g r))
    (inside es (ended g (changed_self (named (named_reading h.names)) end)) r)

-- behind no word
last_read : (s : ℕ) (strict : Bool) (slot : Slot s strict) (v : Visibility) (es : List Draft) (g : Grown) (u : Usage) (h : Header) (x : Value)
    (ps : List Printed) (end : Grown) → IsUsageThere strict u h → IsExtent h.extent → IsValue x → AreEnds u → BodyRead es g v no_marks u h x ps end
    → UsedRead s v es g h (usage u h x ps) end
last_read s true slot v es g items.Plain h x ps end i k j e q a r =
    slot.plain a v es g r _ end (named_reading h.names) (λ b. no_name_read b (opened es g) (holding (fresh_in es g v) (still (length es) no_marks))
    h.names.short h.names.name h.runs h x ps _ i k j q)
last_read s false slot v es g items.Plain h x ps end i k j e q a r =
    slot.plain a v es g r _ end (named_reading h.names) (λ b. plain_read b (opened es g) (holding (fresh_in es g v) (still (length es) no_marks))
    h.names.short h.names.name h.runs h x ps _ i k j q)
last_read s strict slot v es g (items.SimpleUse y) h x ps end i k j e q a r =
    slot.worded a v es g r _ end (named_reading h.names)
    (λ b. worded_read (items.SimpleUse y) tt b (opened es g) (fresh_in es g v) (length es) no_marks h x ps _ tt k j e q)
last_read s strict slot v es g items.EnumUse h x ps end i k j e q a r =
    slot.worded a v es g r _ end (named_reading h.names)
    (λ b. worded_read items.EnumUse tt b (opened es g) (fresh_in es g v) (length es) no_marks h x ps _ tt k j e q)
last_read s strict slot v es g (items.ConnectorUse y z) h x ps end i k j e q a r =
    slot.worded a v es g r _ end (named_reading h.names)
    (λ b. worded_read (items.ConnectorUse y z) tt b (opened es g) (fresh_in es g v) (length es) no_marks h x ps _ tt k j e q)
last_read s strict slot v es g (items.CalculationUse y) h x ps end i k j e q a r =
    slot.worded a v es g r _ end (named_reading h.names)
    (λ b. worded_read (items.CalculationUse y) tt b (opened es g) (fresh_in es g v) (length es) no_marks h x ps _ tt k j e q)
last_read s strict slot v es g items.RequirementUse h x ps end i k j e q a r =
    slot.worded a v es g r _ end (named_reading h.names)
    (λ b. worded_read items.RequirementUse tt b (opened es g) (fresh_in es g v) (length es) no_marks h x ps _ tt k j e q)

-- the usage behind the words before it
usage_in : (b : Action) (v : Visibility) (es : List Draft) (g : Grown) (e : Bool) (way : Direction) (d c f y : Bool) (u : Usage) (h : Header) (x : Value)
    (ps : List Printed) (end : Grown) → IsUsage u h → IsExtent h.extent → IsValue x → AreEnds u → BodyRead es g v (marks_of e way d c f y) u h x ps end
    → Reads Sysml b (Inner symbol.usage ∷ []) (usage u h x ps) (with_words (opened es g) (fresh_in es g v) (length es) e way d c f y)
    (inside (opened es g) end (named_reading h.names))
usage_in b v es g e way d c f y u h x ps end i k j z q =
    usage_read u b (opened es g) (fresh_in es g v) (length es) (marks_of e way d c f y) h x ps _ i k j z q

-- where a definition may stand, behind `abstract`
late_read : (b : Action) (v : Visibility) (es : List Draft) (g : Grown) (f y : Bool) (u : Usage) (h : Header) (x : Value) (ps : List Printed) (end : Grown)
    → IsUsage u h → IsExtent h.extent → IsValue x → AreEnds u → BodyRead es g v (marks_of false direction.None false true f y) u h x ps end
    → Reads Sysml b (Inner symbol.late ∷ []) (word_if Sysml f (codes "constant") ++ (word_if Sysml y (codes "ref") ++ usage u h x ps))
    (with_words (opened es g) (fresh_in es g v) (length es) false direction.None false true false false)
    (inside (opened es g) end (named_reading h.names))
late_read b v es g true y u h x ps end i k j z q =
    grouped sysml.late_0
    (marking (opened es g) (holding (fresh_in es g v) (still (length es) (marks_of false direction.None false true false false))) (word Sysml
    (codes "constant"))
    mark.Constant means.word_constant
    (p5_read action.Group (opened es g) (fresh_in es g v) (length es) (marks_of false direction.None false true true false) y (usage u h x ps) _
    (usage_in action.Group v es g false direction.None false true true y u h x ps end i k j z q)))
late_read b v es g false true u h x ps end i k j z q =
    grouped sysml.late_1
    (marking (opened es g) (holding (fresh_in es g v) (still (length es) (marks_of false direction.None false true false false))) (word Sysml (codes "ref"))
    mark.Reference means.word_ref
    (usage_in action.Group v es g false direction.None false true false true u h x ps end i k j z q))
late_read b v es g false false items.Plain h x ps end i k j z q =
    grouped sysml.late_3 (plain_read action.Group (opened es g)
    (holding (fresh_in es g v) (still (length es) (marks_of false direction.None false true false false))) h.names.short h.names.name h.runs h x ps _ i k j q)
late_read b v es g false false (items.SimpleUse w) h x ps end i k j z q =
    grouped sysml.late_2 (worded_read (items.SimpleUse w) tt action.Group (opened es g) (fresh_in es g v) (length es)
    (marks_of false direction.None false true false false) h x ps _ tt k j z q)
late_read b v es g false false items.EnumUse h x ps end i k j z q =
    grouped sysml.late_2 (worded_read items.EnumUse tt action.Group (opened es g) (fresh_in es g v) (length es)
    (marks_of false direction.None false true false false) h x ps _ tt k j z q)
late_read b v es g false false (items.ConnectorUse w c) h x ps end i k j z q =
    grouped sysml.late_2 (worded_read (items.ConnectorUse w c) tt action.Group (opened es g) (fresh_in es g v) (length es)
    (marks_of false direction.None false true false false) h x ps _ tt k j z q)
late_read b v es g false false (items.CalculationUse w) h x ps end i k j z q =
    grouped sysml.late_2 (worded_read (items.CalculationUse w) tt action.Group (opened es g) (fresh_in es g v) (length es)
    (marks_of false direction.None false true false false) h x ps _ tt k j z q)
late_read b v es g false false items.RequirementUse h x ps end i k j z q =
    grouped sysml.late_2 (worded_read items.RequirementUse tt action.Group (opened es g) (fresh_in es g v) (length es)
    (marks_of false direction.None false true false false) h x ps _ tt k j z q)

-- behind a direction
way_in : (s : ℕ) (strict : Bool) (slot : Slot s strict) (v : Visibility) (es : List Draft) (g : Grown) (way : Direction) (d c f y : Bool) (u : Usage)
    (h : Header) (x : Value) (ps : List Printed) (end : Grown) → HasWay way → IsUsage u h → IsExtent h.extent → IsValue x → AreEnds u
    → BodyRead es g v (marks_of false way d c f y) u h x ps end
    → UsedRead s v es g h (prefixed (words_before false way d c f y) (usage u h x ps)) end
way_in s strict slot v es g way d c f y u h x ps end has i k j z q a r =
    slot.way a v es g r _ end (named_reading h.names) (λ b.
    then (way_read Sysml b (opened es g) (holding (fresh_in es g v) (still (length es) no_marks)) fresh way has)
    (p2_read b (opened es g) (fresh_in es g v) (length es) false way d c f y (usage u h x ps) _
    (usage_in action.Group v es g false way d c f y u h x ps end i k j z q)))

-- a usage with all words before it
pub used_read : (s : ℕ) (strict : Bool) (slot : Slot s strict) (v : Visibility) (es : List Draft) (g : Grown) (e : Bool) (way : Direction)
    (d c f y : Bool) (u : Usage) (h : Header) (x : Value) (ps : List Printed) (end : Grown)
    → IsUsageThere (is_unmarked (words_before e way d c f y) && strict) u h → IsExtent h.extent → IsValue x → AreEnds u
    → BodyRead es g v (marks_of e way d c f y) u h x ps end
    → UsedRead s v es g h (prefixed (words_before e way d c f y) (usage u h x ps)) end
used_read s strict slot v es g true way d c f y u h x ps end i k j z q a r =
    slot.end a v es g r _ end (named_reading h.names) (λ b.
    marking (opened es g) (holding (fresh_in es g v) (still (length es) no_marks)) (word Sysml (codes "end")) mark.End (means.word_end Sysml)
    (p1_read b (opened es g) (fresh_in es g v) (length es) true way d c f y (usage u h x ps) _
    (usage_in action.Group v es g true way d c f y u h x ps end i k j z q)))
used_read s strict slot v es g false direction.In d c f y u h x ps end i k j z q a r =
    way_in s strict slot v es g direction.In d c f y u h x ps end tt i k j z q a r
used_read s strict slot v es g false direction.Out d c f y u h x ps end i k j z q a r =
    way_in s strict slot v es g direction.Out d c f y u h x ps end tt i k j z q a r
used_read s strict slot v es g false direction.InOut d c f y u h x ps end i k j z q a r =
    way_in s strict slot v es g direction.InOut d c f y u h x ps end tt i k j z q a r
used_read s strict slot v es g false direction.None true c f y u h x ps end i k j z q a r =
    slot.derived a v es g r _ end (named_reading h.names) (λ b.
    marking (opened es g) (holding (fresh_in es g v) (still (length es) no_marks)) (word Sysml (codes "derived")) mark.Derived (means.word_derived Sysml)
    (p3_read b (opened es g) (fresh_in es g v) (length es) false direction.None true c f y (usage u h x ps) _
    (usage_in action.Group v es g false direction.None true c f y u h x ps end i k j z q)))
used_read s strict slot v es g false direction.None false true f y u h x ps end i k j z q a r =
    slot.is_abstract a v es g r _ end (named_reading h.names) (λ b.
    marking (opened es g) (holding (fresh_in es g v) (still (length es) no_marks)) (word Sysml (codes "abstract")) mark.Abstract (means.word_abstract Sysml)
    (late_read b v es g f y u h x ps end i k j z q))
used_read s strict slot v es g false direction.None false false true y u h x ps end i k j z q a r =
    slot.constant a v es g r _ end (named_reading h.names) (λ b.
    marking (opened es g) (holding (fresh_in es g v) (still (length es) no_marks)) (word Sysml (codes "constant")) mark.Constant means.word_constant
    (p5_read b (opened es g) (fresh_in es g v) (length es) (marks_of false direction.None false false true false) y (usage u h x ps) _
    (usage_in action.Group v es g false direction.None false false true y u h x ps end i k j z q)))
used_read s strict slot v es g false direction.None false false false true u h x ps end i k j z q a r =
    slot.reference a v es g r _ end (named_reading h.names) (λ b.
    marking (opened es g) (holding (fresh_in es g v) (still (length es) no_marks)) (word Sysml (codes "ref")) mark.Reference means.word_ref
    (usage_in b v es g false direction.None false false false true u h x ps end i k j z q))
used_read s strict slot v es g false direction.None false false false false u h x ps end i k j z q a r =
    last_read s strict slot v es g u h x ps end i k j z q a r
