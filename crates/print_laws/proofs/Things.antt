-- Each item with a body is read back where it stands, given its body.
use Rattle.std.proofs.Common.{◌≡◌, ℕ, List, [], ◌∷◌, ◌++◌, length, refl, sym, subst}
use Rattle.std.specs.Prelude.{Some, Bool, true, false, ◌&&◌, codes}
use Rattle.element_store.specs.declared.outcome.Language.{Language}
use Rattle.element_store.specs.declared.outcome.Language.TheVariants.{Kerml, Sysml}
use Rattle.element_store.specs.declared.kind.Kind.TheVariants as kind
use Rattle.element_store.specs.declared.kind.PartOf.TheVariants as part
use Rattle.element_store.specs.declared.kind.Visibility.{Visibility}
use Rattle.element_store.specs.Model.{no_marks}
use Rattle.element_store.specs.declared.kind.Direction.{Direction}
use Rattle.element_store.specs.declared.kind.Direction.TheVariants as direction
use Rattle.token_core.specs.Terminals.{terminal}
use Rattle.ll_core.specs.declared.grammar.Symbol.TheVariants.{Terminal, Inner}
use Rattle.text_model.specs.declared.action.Action.{Action}
use Rattle.text_model.specs.declared.action.Action.TheVariants as action
use Rattle.text_model.specs.declared.action.Mark.TheVariants as mark
use Rattle.text_model.specs.declared.draft.Draft.{Draft}
use Rattle.text_model.specs.declared.draft.Reading.{Reading}
use Rattle.text_model.specs.Drafts.{draft}
use Rattle.text_model.specs.Walk.{fresh}
use Rattle.print_model.specs.Printed.{Printed, sign, word}
use Rattle.print_model.proofs.Readings.{Reads}
use Rattle.print_laws.specs.Items.{Names, Qualified, Value, Header, Ending, Prefix, Qualities, Usage, Definition, TypeWord, Packing, Bare, Library, Standard, Thing}
use Rattle.print_laws.specs.Items as items
use Rattle.print_laws.specs.ItemTokens.{named as name_tokens, usage, demand_word, thing}
use Rattle.print_laws.specs.ItemWalk.{Grown, changed_self, headed, begun, ended, with_end, with_ends, demand_part, thing_draft, names_in, ends_in, with_names}
use Rattle.print_laws.specs.Fitting.{IsExtent, IsValue, AreEndings, AreEnds, IsUsage, IsUsageThere, Place, Anywhere, Enumerating, Calculating, Requiring, is_unmarked, StandsIn, IsThing, place_in}
use Rattle.print_laws.proofs.Symbols as symbol
use Rattle.print_laws.proofs.Productions as rule
use Rattle.print_laws.proofs.KermlProductions as kerml
use Rattle.print_laws.proofs.SysmlProductions as sysml
use Rattle.print_laws.proofs.Meanings as means
use Rattle.print_laws.proofs.Steps.{inside, done, then, grouped, silent, marking, parting, naming_kind, opened, waited, element}
use Rattle.print_laws.proofs.Heads.{named_reading, ident_read}
use Rattle.print_laws.proofs.Features.{header_read, ending_read, use_tail_read}
use Rattle.print_laws.proofs.Usages.{body_symbol, holding, sort_of, calc_tail_read, usage_read, definition_read}
use Rattle.print_laws.proofs.Prefixes.{words_before, p5_read}
use Rattle.print_laws.proofs.Bodies.{HasPlace, item_symbol}
use Rattle.print_laws.proofs.Slots.{Slot, fresh_in, thing_slot, result_slot, used_read}
use Rattle.print_laws.proofs.KermlFeatures.{Spot, felt_in, thing_spot, result_spot, featured_read, feat_read, type_read, function_read}

-- a thing is read with its element
abbrev pub ThingRead : Language → ℕ → Thing → Visibility → List Draft → Grown → List Printed → Grown → Type 0
ThingRead l s t v es g ps end = (a : Action) (r : Reading) → Reads l a (Inner s ∷ []) (thing l t ps) (waited v (inside es g r))
    (inside es (ended g (changed_self (with_names (names_in t)) end)) r)

-- given its body
abbrev pub ThingBody : Language → Thing → Visibility → List Draft → Grown → List Printed → Grown → Type 0
ThingBody l t v es g ps end =
    (b : Action) → Reads l b (Inner (body_symbol l (place_in t)) ∷ []) ps
    (inside (opened es g) (with_ends (length (opened es g)) (ends_in t) (begun (length es) v (thing_draft (length es) t) g)) (named_reading (names_in t)))
    (inside (opened es g) end (named_reading (names_in t)))

-- Both languages.

-- a package from its word on
package_tail : (l : Language) (a : Action) (v : Visibility) (es : List Draft) (g : Grown) (p : Packing) (n : Names) (ps : List Printed) (end : Grown)
    → ThingBody l (items.Package p n) v es g ps end
    → Reads l a (Terminal (terminal (word l (codes "package")).kind) ∷ Inner (symbol.ident l) ∷ Inner (symbol.body l) ∷ [])
    (word l (codes "package") ∷ (name_tokens l n ++ ps)) (inside (opened es g) (begun (length es) v (thing_draft (length es) (items.Package p n)) g) fresh)
    (inside (opened es g) end (named_reading n))
package_tail l a v es g p n ps end q =
    silent (word l (codes "package")) (means.word_package l)
    (then (ident_read l a (opened es g) (begun (length es) v (thing_draft (length es) (items.Package p n)) g) n) (q a))

-- a package
pub package_read : (l : Language) (v : Visibility) (es : List Draft) (g : Grown) (p : Packing) (n : Names) (ps : List Printed) (end : Grown)
    → ThingBody l (items.Package p n) v es g ps end → ThingRead l (symbol.pack l) (items.Package p n) v es g ps end
package_read l v es g Bare n ps end q a r =
    element kind.Package v es g r end (named_reading n) (rule.pack_1 l) (package_tail l (action.Element kind.Package) v es g Bare n ps end q)
package_read l v es g Library n ps end q a r =
    element kind.Package v es g r end (named_reading n) (rule.pack_0 l)
    (then (grouped (rule.maybe_standard_1 l) done)
    (marking (opened es g) (begun (length es) v (thing_draft (length es) (items.Package Bare n)) g) (word l (codes "library")) mark.Library
    (means.word_library l)
    (package_tail l (action.Element kind.Package) v es g Library n ps end q)))
package_read l v es g Standard n ps end q a r =
    let d = thing_draft (length es) (items.Package Bare n) in
    element kind.Package v es g r end (named_reading n) (rule.pack_0 l)
    (then (grouped (rule.maybe_standard_0 l)
    (marking (opened es g) (begun (length es) v d g) (word l (codes "standard")) mark.Standard (means.word_standard l) done))
    (marking (opened es g) (begun (length es) v (record d { marks = record no_marks { standard = true } }) g) (word l (codes "library")) mark.Library
    (means.word_library l)
    (package_tail l (action.Element kind.Package) v es g Standard n ps end q)))

-- SysML.

-- a definition
defined_read : (s : ℕ) (strict : Bool) (slot : Slot s strict) (v : Visibility) (es : List Draft) (g : Grown) (b : Bool) (k : Definition) (n : Names)
    (general : List Qualified) (ps : List Printed) (end : Grown)
    → ThingBody Sysml (items.Defined b k n general) v es g ps end → ThingRead Sysml s (items.Defined b k n general) v es g ps end
defined_read s strict slot v es g false k n general ps end q a r =
    slot.worded a v es g r _ end (named_reading n) (λ b. definition_read b (opened es g) (fresh_in es g v) (length es) no_marks k n general ps _
    (q action.Group))
defined_read s strict slot v es g true k n general ps end q a r =
    slot.is_abstract a v es g r _ end (named_reading n) (λ b.
    marking (opened es g) (holding (fresh_in es g v) (sort_of (length es) kind.Reference no_marks)) (word Sysml (codes "abstract")) mark.Abstract
    (means.word_abstract Sysml)
    (grouped sysml.late_2
    (definition_read action.Group (opened es g) (fresh_in es g v) (length es) (record no_marks { is_abstract = true }) k n general ps _ (q action.Group))))

-- a binding
bind_read : (s : ℕ) (strict : Bool) (slot : Slot s strict) (v : Visibility) (es : List Draft) (g : Grown) (h : Header) (x y : Ending)
    (ps : List Printed) (end : Grown) → IsExtent h.extent → AreEndings (x ∷ y ∷ [])
    → ThingBody Sysml (items.Bind h x y) v es g ps end → ThingRead Sysml s (items.Bind h x y) v es g ps end
bind_read s strict slot v es g h x y ps end k j q a r =
    let ds = opened es g in
    let b = begun (length es) v (draft kind.Binding (Some (length es))) g in
    let w = changed_self (headed h) b in
    slot.bound a v es g r _ end (named_reading h.names) (λ act.
    grouped sysml.bind_1 (silent (word Sysml (codes "binding")) means.word_binding
    (then (header_read Sysml action.Group ds b h k)
    (silent (word Sysml (codes "bind")) means.word_bind
    (then (ending_read action.Group ds w (named_reading h.names) x j.0)
    (silent (sign (codes "=")) (means.sign_equals Sysml)
    (then (ending_read action.Group ds (with_end (length ds) x w) (named_reading h.names) y j.1.0) (q action.Group))))))))

-- a result parameter
returned_read : (v : Visibility) (es : List Draft) (g : Grown) (y : Bool) (u : Usage) (h : Header) (x : Value) (ps : List Printed) (end : Grown)
    → IsUsage u h → IsExtent h.extent → IsValue x → AreEnds u
    → ThingBody Sysml (items.Returned y u h x) v es g ps end
    → ThingRead Sysml (symbol.one_import_alias_note Sysml) (items.Returned y u h x) v es g ps end
returned_read v es g y u h x ps end i k j z q a r =
    element kind.Reference v es g r end (named_reading h.names) sysml.one_import_alias_note_14
    (parting (opened es g) (holding (fresh_in es g v) (sort_of (length es) kind.Reference no_marks)) (word Sysml (codes "return")) part.Return
    (means.word_return Sysml)
    (p5_read (action.Element kind.Reference) (opened es g) (fresh_in es g v) (length es) (record no_marks { part_of = part.Return }) y (usage u h x ps) _
    (usage_read u action.Group (opened es g) (fresh_in es g v) (length es) (record no_marks { part_of = part.Return; reference = y }) h x ps _ i k j z
    (q action.Group))))

-- a subject
subject_read : (v : Visibility) (es : List Draft) (g : Grown) (h : Header) (x : Value) (ps : List Printed) (end : Grown)
    → IsExtent h.extent → IsValue x → ThingBody Sysml (items.Subject h x) v es g ps end
    → ThingRead Sysml symbol.one_content_subject_use_tail (items.Subject h x) v es g ps end
subject_read v es g h x ps end k j q a r =
    element kind.Reference v es g r end (named_reading h.names) sysml.one_content_subject_use_tail_1
    (parting (opened es g) (holding (fresh_in es g v) (sort_of (length es) kind.Reference no_marks)) (word Sysml
    (codes "subject")) part.Subject means.word_subject
    (use_tail_read Sysml (action.Element kind.Reference) (opened es g)
    (holding (fresh_in es g v) (sort_of (length es) kind.Reference (record no_marks { part_of = part.Subject }))) h x ps _ k j (q action.Group)))

-- `assume` or `require`
demand_read : (a : Action) (es : List Draft) (g : Grown) (r : Reading) (b : Bool)
    → Reads Sysml a (Inner symbol.one_assume_require ∷ []) (word Sysml (demand_word b) ∷ []) (inside es g r)
    (inside es (changed_self (λ d. record d { marks = record d.marks { part_of = demand_part b } }) g) r)
demand_read a es g r true = grouped sysml.one_assume_require_1 (parting es g (word Sysml (codes "require")) part.Require means.word_require done)
demand_read a es g r false = grouped sysml.one_assume_require_0 (parting es g (word Sysml (codes "assume")) part.Assume means.word_assume done)

-- a demanded constraint
demanded_read : (v : Visibility) (es : List Draft) (g : Grown) (b : Bool) (h : Header) (x : Value) (ps : List Printed) (end : Grown)
    → IsExtent h.extent → IsValue x → ThingBody Sysml (items.Demanded b h x) v es g ps end
    → ThingRead Sysml symbol.one_content_subject_use_tail (items.Demanded b h x) v es g ps end
demanded_read v es g b h x ps end k j q a r =
    let d = sort_of (length es) kind.Constraint (record no_marks { part_of = demand_part b }) in
    element kind.Constraint v es g r end (named_reading h.names) sysml.one_content_subject_use_tail_2
    (then (demand_read (action.Element kind.Constraint) (opened es g) (begun (length es) v (draft kind.Constraint (Some (length es))) g) fresh b)
    (grouped sysml.req_con_0
    (naming_kind (opened es g) (holding (fresh_in es g v) d) (word Sysml (codes "constraint")) kind.Constraint means.word_constraint
    (calc_tail_read action.Group (opened es g) (holding (fresh_in es g v) d) h x ps _ k j (q action.Group)))))

-- false is not true
not_true : false ≡ true → ⊥
not_true e = cc

-- a value of an enumeration
listed_read : (v : Visibility) (es : List Draft) (g : Grown) (e : Bool) (way : Direction) (d c f y : Bool) (h : Header) (x : Value) (ps : List Printed)
    (end : Grown) → is_unmarked (words_before e way d c f y) ≡ true → IsExtent h.extent → IsValue x
    → ThingBody Sysml (items.Used (words_before e way d c f y) items.EnumUse h x) v es g ps end
    → ThingRead Sysml symbol.one_note_enum_use_tail (items.Used (words_before e way d c f y) items.EnumUse h x) v es g ps end
listed_read v es g false direction.None false false false false h x ps end i k j q a r =
    let d = sort_of (length es) kind.Enumeration no_marks in
    element kind.Enumeration v es g r end (named_reading h.names) sysml.one_note_enum_use_tail_1
    (naming_kind (opened es g) (holding (fresh_in es g v) d) (word Sysml (codes "enum")) kind.Enumeration means.word_enum
    (use_tail_read Sysml (action.Element kind.Enumeration) (opened es g) (holding (fresh_in es g v) d) h x ps _ k j (q action.Group)))
listed_read v es g e way d c f y h x ps end i k j q a r = absurd (not_true i)

-- KerML.

-- a namespace
namespace_read : (s : ℕ) → rule.Rule Kerml s (Terminal (terminal (word Kerml (codes "namespace")).kind) ∷ Inner (symbol.ident Kerml)
    ∷ Inner (symbol.body Kerml) ∷ []) (action.Element kind.Namespace)
    → (v : Visibility) (es : List Draft) (g : Grown) (n : Names) (ps : List Printed) (end : Grown)
    → ThingBody Kerml (items.Namespace n) v es g ps end → ThingRead Kerml s (items.Namespace n) v es g ps end
namespace_read s by v es g n ps end q a r =
    element kind.Namespace v es g r end (named_reading n) by
    (silent (word Kerml (codes "namespace")) means.word_namespace
    (then (ident_read Kerml (action.Element kind.Namespace) (opened es g) (begun (length es) v (draft kind.Namespace (Some (length es))) g) n)
    (q (action.Element kind.Namespace))))

-- a type
declared_read : (s : ℕ) (spot : Spot s) (v : Visibility) (es : List Draft) (g : Grown) (b : Bool) (k : TypeWord) (n : Names)
    (general : List Qualified) (ps : List Printed) (end : Grown)
    → ThingBody Kerml (items.Declared b k n general) v es g ps end → ThingRead Kerml s (items.Declared b k n general) v es g ps end
declared_read s spot v es g false k n general ps end q a r =
    spot.typed a v es g r _ end (named_reading n) (λ b. type_read b (opened es g) (felt_in es g v) (length es) no_marks k n general ps _ (q action.Group))
declared_read s spot v es g true k n general ps end q a r =
    spot.is_abstract a v es g r _ end (named_reading n) (λ b.
    marking (opened es g) (holding (felt_in es g v) (sort_of (length es) kind.Feature no_marks)) (word Kerml (codes "abstract")) mark.Abstract
    (means.word_abstract Kerml)
    (grouped kerml.klate_3
    (type_read action.Group (opened es g) (felt_in es g v) (length es) (record no_marks { is_abstract = true }) k n general ps _ (q action.Group))))

-- a function
function_in : (s : ℕ) (spot : Spot s) (v : Visibility) (es : List Draft) (g : Grown) (b : Bool) (n : Names)
    (general : List Qualified) (ps : List Printed) (end : Grown)
    → ThingBody Kerml (items.Function b n general) v es g ps end → ThingRead Kerml s (items.Function b n general) v es g ps end
function_in s spot v es g false n general ps end q a r =
    spot.typed a v es g r _ end (named_reading n) (λ b. function_read b (opened es g) (felt_in es g v) (length es) no_marks n general ps _ (q action.Group))
function_in s spot v es g true n general ps end q a r =
    spot.is_abstract a v es g r _ end (named_reading n) (λ b.
    marking (opened es g) (holding (felt_in es g v) (sort_of (length es) kind.Feature no_marks)) (word Kerml (codes "abstract")) mark.Abstract
    (means.word_abstract Kerml)
    (grouped kerml.klate_3
    (function_read action.Group (opened es g) (felt_in es g v) (length es) (record no_marks { is_abstract = true }) n general ps _ (q action.Group))))

-- a result parameter
yielded_read : (v : Visibility) (es : List Draft) (g : Grown) (s : Bool) (h : Header) (x : Value) (ps : List Printed) (end : Grown)
    → IsExtent h.extent → IsValue x → ThingBody Kerml (items.Yielded s h x) v es g ps end
    → ThingRead Kerml (symbol.one_import_alias_note Kerml) (items.Yielded s h x) v es g ps end
yielded_read v es g s h x ps end k j q a r =
    element kind.Feature v es g r end (named_reading h.names) kerml.one_import_alias_note_15
    (parting (opened es g) (holding (felt_in es g v) (sort_of (length es) kind.Feature no_marks)) (word Kerml (codes "return")) part.Return
    (means.word_return Kerml)
    (feat_read (action.Element kind.Feature) (opened es g) (felt_in es g v) (length es) (record no_marks { part_of = part.Return }) s h x ps _ k j
    (q action.Group)))

-- Each thing where it stands.

-- a usage of SysML in a slot
used_in : (s : ℕ) (strict : Bool) (slot : Slot s strict) (v : Visibility) (es : List Draft) (g : Grown) (p : Prefix) (u : Usage) (h : Header) (x : Value)
    (ps : List Printed) (end : Grown) → IsUsageThere (is_unmarked p && strict) u h → IsThing (items.Used p u h x)
    → ThingBody Sysml (items.Used p u h x) v es g ps end → ThingRead Sysml s (items.Used p u h x) v es g ps end
used_in s strict slot v es g p u h x ps end i k q a r =
    used_read s strict slot v es g p.end p.direction p.derived p.is_abstract p.constant p.reference u h x ps end i k.0 k.1 k.2 (q action.Group) a r

-- a feature of KerML in a spot
featured_in : (s : ℕ) (spot : Spot s) (v : Visibility) (es : List Draft) (g : Grown) (q : Qualities) (b : Bool) (h : Header) (x : Value)
    (ps : List Printed) (end : Grown) → IsThing (items.Featured q b h x)
    → ThingBody Kerml (items.Featured q b h x) v es g ps end → ThingRead Kerml s (items.Featured q b h x) v es g ps end
featured_in s spot v es g q b h x ps end k body a r =
    featured_read s spot v es g q.direction q.derived q.is_abstract q.composite q.constant q.end b h x ps end k.0 k.1 (body action.Group) a r

-- nothing and false is false
and_false : (b : Bool) → b && false ≡ false
and_false true = refl
and_false false = refl

-- with true it is itself
and_true : (b : Bool) → b && true ≡ b
and_true true = refl
and_true false = refl

-- in a body of a sort
pub thing_read : (l : Language) (place : Place) (t : Thing) (v : Visibility) (es : List Draft) (g : Grown) (ps : List Printed) (end : Grown)
    → HasPlace l place → StandsIn l place t → IsThing t → ThingBody l t v es g ps end → ThingRead l (item_symbol l place) t v es g ps end
thing_read Kerml Enumerating t v es g ps end f i k q a r = absurd f
thing_read Kerml Requiring t v es g ps end f i k q a r = absurd f
thing_read Sysml Enumerating (items.Used p items.EnumUse h x) v es g ps end f i k q a r =
    listed_read v es g p.end p.direction p.derived p.is_abstract p.constant p.reference h x ps end i k.0 k.1 q a r
thing_read Sysml Anywhere (items.Package p n) v es g ps end f i k q a r = grouped (rule.content_3 Sysml) (package_read Sysml v es g p n ps end q action.Group r)
thing_read Sysml Calculating (items.Package p n) v es g ps end f i k q a r =
    grouped (rule.one_import_alias_note_3 Sysml) (package_read Sysml v es g p n ps end q action.Group r)
thing_read Sysml Requiring (items.Package p n) v es g ps end f i k q a r =
    grouped sysml.one_content_subject_use_tail_0 (grouped (rule.content_3 Sysml) (package_read Sysml v es g p n ps end q action.Group r))
thing_read Sysml Anywhere (items.Defined b d n general) v es g ps end f i k q a r =
    grouped sysml.content_4 (defined_read _ false thing_slot v es g b d n general ps end q action.Group r)
thing_read Sysml Calculating (items.Defined b d n general) v es g ps end f i k q a r = defined_read _ true result_slot v es g b d n general ps end q a r
thing_read Sysml Requiring (items.Defined b d n general) v es g ps end f i k q a r =
    grouped sysml.one_content_subject_use_tail_0
    (grouped sysml.content_4 (defined_read _ false thing_slot v es g b d n general ps end q action.Group r))
thing_read Sysml Anywhere (items.Used p u h x) v es g ps end f i k q a r =
    grouped sysml.content_4 (used_in _ false thing_slot v es g p u h x ps end (subst (λ b. IsUsageThere b u h) (sym (and_false
    (is_unmarked p))) i) k q action.Group r)
thing_read Sysml Calculating (items.Used p u h x) v es g ps end f i k q a r =
    used_in _ true result_slot v es g p u h x ps end (subst (λ b. IsUsageThere b u h) (sym (and_true (is_unmarked p))) i) k q a r
thing_read Sysml Requiring (items.Used p u h x) v es g ps end f i k q a r =
    grouped sysml.one_content_subject_use_tail_0
    (grouped sysml.content_4 (used_in _ false thing_slot v es g p u h x ps end (subst (λ b. IsUsageThere b u h) (sym (and_false
    (is_unmarked p))) i) k q action.Group r))
thing_read Sysml Anywhere (items.Bind h x y) v es g ps end f i k q a r =
    grouped sysml.content_4 (bind_read _ false thing_slot v es g h x y ps end k.0 k.1 q action.Group r)
thing_read Sysml Calculating (items.Bind h x y) v es g ps end f i k q a r = bind_read _ true result_slot v es g h x y ps end k.0 k.1 q a r
thing_read Sysml Requiring (items.Bind h x y) v es g ps end f i k q a r =
    grouped sysml.one_content_subject_use_tail_0
    (grouped sysml.content_4 (bind_read _ false thing_slot v es g h x y ps end k.0 k.1 q action.Group r))
thing_read Sysml Calculating (items.Returned y u h x) v es g ps end f i k q a r = returned_read v es g y u h x ps end i k.0 k.1 k.2 q a r
thing_read Sysml Requiring (items.Subject h x) v es g ps end f i k q a r = subject_read v es g h x ps end k.0 k.1 q a r
thing_read Sysml Requiring (items.Demanded b h x) v es g ps end f i k q a r = demanded_read v es g b h x ps end k.0 k.1 q a r
thing_read Kerml Anywhere (items.Package p n) v es g ps end f i k q a r = grouped (rule.content_3 Kerml) (package_read Kerml v es g p n ps end q action.Group r)
thing_read Kerml Calculating (items.Package p n) v es g ps end f i k q a r =
    grouped (rule.one_import_alias_note_3 Kerml) (package_read Kerml v es g p n ps end q action.Group r)
thing_read Kerml Anywhere (items.Namespace n) v es g ps end f i k q a r = namespace_read _ kerml.content_4 v es g n ps end q a r
thing_read Kerml Calculating (items.Namespace n) v es g ps end f i k q a r = namespace_read _ kerml.one_import_alias_note_4 v es g n ps end q a r
thing_read Kerml Anywhere (items.Declared b d n general) v es g ps end f i k q a r =
    grouped kerml.content_5 (declared_read _ thing_spot v es g b d n general ps end q action.Group r)
thing_read Kerml Calculating (items.Declared b d n general) v es g ps end f i k q a r = declared_read _ result_spot v es g b d n general ps end q a r
thing_read Kerml Anywhere (items.Function b n general) v es g ps end f i k q a r =
    grouped kerml.content_5 (function_in _ thing_spot v es g b n general ps end q action.Group r)
thing_read Kerml Calculating (items.Function b n general) v es g ps end f i k q a r = function_in _ result_spot v es g b n general ps end q a r
thing_read Kerml Anywhere (items.Featured y b h x) v es g ps end f i k q a r =
    grouped kerml.content_5 (featured_in _ thing_spot v es g y b h x ps end k q action.Group r)
thing_read Kerml Calculating (items.Featured y b h x) v es g ps end f i k q a r = featured_in _ result_spot v es g y b h x ps end k q a r
thing_read Kerml Calculating (items.Yielded b h x) v es g ps end f i k q a r = yielded_read v es g b h x ps end k.0 k.1 q a r
thing_read l place t v es g ps end f i k q a r = absurd i
