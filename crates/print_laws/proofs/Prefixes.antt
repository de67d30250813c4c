-- The words before a usage of SysML are read back, in each sort of body.
use Rattle.std.proofs.Common.{ℕ, List, [], ◌∷◌, ◌++◌}
use Rattle.std.specs.Prelude.{Bool, true, false, codes}
use Rattle.element_store.specs.declared.outcome.Language.{Language}
use Rattle.element_store.specs.declared.outcome.Language.TheVariants.{Sysml}
use Rattle.element_store.specs.declared.kind.Kind.TheVariants as kind
use Rattle.element_store.specs.declared.kind.Marks.{Marks}
use Rattle.element_store.specs.declared.kind.Direction.{Direction}
use Rattle.element_store.specs.declared.kind.Direction.TheVariants as direction
use Rattle.ll_core.specs.declared.grammar.Symbol.TheVariants.{Inner}
use Rattle.text_model.specs.declared.action.Action.{Action}
use Rattle.text_model.specs.declared.action.Action.TheVariants as action
use Rattle.text_model.specs.declared.action.Mark.TheVariants as mark
use Rattle.text_model.specs.declared.draft.Draft.{Draft}
use Rattle.text_model.specs.declared.draft.Reading.{Reading}
use Rattle.text_model.specs.Walk.{Walk, fresh}
use Rattle.print_model.specs.Printed.{Printed, word}
use Rattle.print_model.specs.Heads.{word_if, direction_words}
use Rattle.print_model.proofs.Readings.{Reads}
use Rattle.print_laws.specs.Items.{Prefix}
use Rattle.print_laws.specs.ItemWalk.{Grown, changed_self, prefix_marks}
use Rattle.print_laws.proofs.Symbols as symbol
use Rattle.print_laws.proofs.Productions as rule
use Rattle.print_laws.proofs.SysmlProductions as sysml
use Rattle.print_laws.proofs.Productions.{Rule}
use Rattle.print_laws.proofs.Meanings as means
use Rattle.print_laws.proofs.Steps.{inside, done, then, grouped, marking, directing}
use Rattle.print_laws.proofs.Usages.{holding, sort_of}

-- the words that were read
abbrev pub words_before : Bool → Direction → Bool → Bool → Bool → Bool → Prefix
words_before e way d a c r = record { end = e; direction = way; derived = d; is_abstract = a; constant = c; reference = r }

-- a usage begins, with these words
abbrev pub marked_by : List Draft → Grown → ℕ → Marks → Walk
marked_by es g n m = inside es (holding g (sort_of n kind.Reference m)) fresh

-- the same with these words
abbrev pub with_words : List Draft → Grown → ℕ → Bool → Direction → Bool → Bool → Bool → Bool → Walk
with_words es g n e way d a c r = marked_by es g n (prefix_marks (words_before e way d a c r))

-- a usage with these marks
abbrev pub still : ℕ → Marks → Draft
still n m = sort_of n kind.Reference m

-- `ref` or not, whatever was read
pub p5_read : (a : Action) (es : List Draft) (g : Grown) (n : ℕ) (m : Marks) (r : Bool) (ps : List Printed) (w : Walk)
    → Reads Sysml action.Group (Inner symbol.usage ∷ []) ps (marked_by es g n (record m { reference = r })) w
    → Reads Sysml a (Inner symbol.p5 ∷ []) (word_if Sysml r (codes "ref") ++ ps) (marked_by es g n (record m { reference = false })) w
p5_read a es g n m true ps w q =
    grouped sysml.p5
    (then (grouped sysml.maybe_ref_0 (marking es (holding g (still n (record m { reference = false }))) (word Sysml
    (codes "ref")) mark.Reference means.word_ref done))
    q)
p5_read a es g n m false ps w q = grouped sysml.p5 (then (grouped sysml.maybe_ref_1 done) q)

-- from `constant` on
pub p4_read : (b : Action) (es : List Draft) (g : Grown) (n : ℕ) (e : Bool) (way : Direction) (d a c r : Bool) (ps : List Printed) (w : Walk)
    → Reads Sysml action.Group (Inner symbol.usage ∷ []) ps (with_words es g n e way d a c r) w
    → Reads Sysml b (Inner symbol.p4 ∷ []) (word_if Sysml c (codes "constant") ++ (word_if Sysml r (codes "ref") ++ ps))
    (with_words es g n e way d a false false) w
p4_read b es g n e way d a true r ps w q =
    grouped sysml.p4
    (then (grouped sysml.maybe_constant_0
    (marking es (holding g (still n (prefix_marks (words_before e way d a false false)))) (word Sysml
    (codes "constant")) mark.Constant means.word_constant done))
    (p5_read action.Group es g n (prefix_marks (words_before e way d a true false)) r ps w q))
p4_read b es g n e way d a false r ps w q =
    grouped sysml.p4
    (then (grouped sysml.maybe_constant_1 done) (p5_read action.Group es g n (prefix_marks (words_before e way d a false false)) r ps w q))

-- from `abstract` on
pub p3_read : (b : Action) (es : List Draft) (g : Grown) (n : ℕ) (e : Bool) (way : Direction) (d a c r : Bool) (ps : List Printed) (w : Walk)
    → Reads Sysml action.Group (Inner symbol.usage ∷ []) ps (with_words es g n e way d a c r) w
    → Reads Sysml b (Inner symbol.p3 ∷ [])
    (word_if Sysml a (codes "abstract") ++ (word_if Sysml c (codes "constant") ++ (word_if Sysml r (codes "ref") ++ ps)))
    (with_words es g n e way d false false false) w
p3_read b es g n e way d true c r ps w q =
    grouped sysml.p3
    (then (grouped (rule.maybe_abstract_0 Sysml)
    (marking es (holding g (still n (prefix_marks (words_before e way d false false false)))) (word Sysml (codes "abstract")) mark.Abstract
    (means.word_abstract Sysml) done))
    (p4_read action.Group es g n e way d true c r ps w q))
p3_read b es g n e way d false c r ps w q =
    grouped sysml.p3 (then (grouped (rule.maybe_abstract_1 Sysml) done) (p4_read action.Group es g n e way d false c r ps w q))

-- from `derived` on
pub p2_read : (b : Action) (es : List Draft) (g : Grown) (n : ℕ) (e : Bool) (way : Direction) (d a c r : Bool) (ps : List Printed) (w : Walk)
    → Reads Sysml action.Group (Inner symbol.usage ∷ []) ps (with_words es g n e way d a c r) w
    → Reads Sysml b (Inner symbol.p2 ∷ [])
    (word_if Sysml d (codes "derived") ++ (word_if Sysml a (codes "abstract") ++ (word_if Sysml c (codes "constant") ++ (word_if Sysml r (codes "ref") ++ ps))))
    (with_words es g n e way false false false false) w
p2_read b es g n e way true a c r ps w q =
    grouped sysml.p2
    (then (grouped (rule.maybe_derived_0 Sysml)
    (marking es (holding g (still n (prefix_marks (words_before e way false false false false)))) (word Sysml (codes "derived")) mark.Derived
    (means.word_derived Sysml) done))
    (p3_read action.Group es g n e way true a c r ps w q))
p2_read b es g n e way false a c r ps w q =
    grouped sysml.p2 (then (grouped (rule.maybe_derived_1 Sysml) done) (p3_read action.Group es g n e way false a c r ps w q))

-- a direction
abbrev pub HasWay : Direction → Type 0
HasWay direction.None = ⊥
HasWay other = Unit {0}

-- a direction word
pub way_read : (l : Language) (b : Action) (es : List Draft) (g : Grown) (r : Reading) (way : Direction) → HasWay way
    → Reads l b (Inner (symbol.dir l) ∷ []) (direction_words l way) (inside es g r)
    (inside es (changed_self (λ d. record d { marks = record d.marks { direction = way } }) g) r)
way_read l b es g r direction.In h = grouped (rule.dir_0 l) (directing es g (word l (codes "in")) direction.In (means.word_in l) done)
way_read l b es g r direction.Out h = grouped (rule.dir_1 l) (directing es g (word l (codes "out")) direction.Out (means.word_out l) done)
way_read l b es g r direction.InOut h = grouped (rule.dir_2 l) (directing es g (word l (codes "inout")) direction.InOut (means.word_inout l) done)
way_read l b es g r direction.None h = absurd h

-- a direction word or none
maybe_way_read : (b : Action) (es : List Draft) (g : Grown) (n : ℕ) (e : Bool) (way : Direction)
    → Reads Sysml b (Inner symbol.maybe_dir ∷ []) (direction_words Sysml way) (with_words es g n e direction.None false false false false)
    (with_words es g n e way false false false false)
maybe_way_read b es g n e direction.None = grouped sysml.maybe_dir_1 done
maybe_way_read b es g n e direction.In = grouped sysml.maybe_dir_0 (way_read Sysml action.Group es (holding g (still n (prefix_marks
    (words_before e direction.None false false false false)))) fresh direction.In tt)
maybe_way_read b es g n e direction.Out = grouped sysml.maybe_dir_0 (way_read Sysml action.Group es (holding g (still n (prefix_marks
    (words_before e direction.None false false false false)))) fresh direction.Out tt)
maybe_way_read b es g n e direction.InOut = grouped sysml.maybe_dir_0 (way_read Sysml action.Group es (holding g (still n (prefix_marks
    (words_before e direction.None false false false false)))) fresh direction.InOut tt)

-- from a direction on
pub p1_read : (b : Action) (es : List Draft) (g : Grown) (n : ℕ) (e : Bool) (way : Direction) (d a c r : Bool) (ps : List Printed) (w : Walk)
    → Reads Sysml action.Group (Inner symbol.usage ∷ []) ps (with_words es g n e way d a c r) w
    → Reads Sysml b (Inner symbol.p1 ∷ [])
    (direction_words Sysml way ++ (word_if Sysml d (codes "derived") ++ (word_if Sysml a (codes "abstract") ++ (word_if Sysml c (codes "constant")
    ++ (word_if Sysml r (codes "ref") ++ ps)))))
    (with_words es g n e direction.None false false false false) w
p1_read b es g n e way d a c r ps w q =
    grouped sysml.p1 (then (maybe_way_read action.Group es g n e way) (p2_read action.Group es g n e way d a c r ps w q))
