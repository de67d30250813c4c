-- Which trees of items are texts: what may stand where, and that numbers and expressions can be printed.
use Rattle.std.specs.Prelude.{◌≡◌, ℕ, ◌<◌, ◌^◌, Bool, true, false, Option, Some, None, List, [], ◌∷◌}
use Rattle.element_store.specs.declared.outcome.Language.{Language}
use Rattle.element_store.specs.declared.outcome.Language.TheVariants.{Kerml, Sysml}
use Rattle.element_store.specs.declared.kind.Direction.{Direction}
use Rattle.element_store.specs.declared.kind.Direction.TheVariants as direction
use Rattle.print_model.specs.Trees.{Tree, IsPrintable}
use Rattle.print_laws.specs.Items.{Bound, Number, Known, Upper, Star, Bounded, Extent, Free, Upto, Between, Run, Typed, Subsetted, Redefined, Referred, Value, Unvalued, Given, Header, Ending, Ends, Alone, Pair, Several, Prefix, Usage, Definition, Thing, Items, Empty, Import, Alias, Note, Member}
use Rattle.print_laws.specs.Items as items

-- Numbers and expressions.

-- a number of bounds is a value
abbrev pub IsBound : Bound → Type 0
IsBound (Number n) = n < 2 ^ 63
IsBound (Known q) = Unit {0}

-- so is an upper one
abbrev pub IsUpper : Upper → Type 0
IsUpper Star = Unit {0}
IsUpper (Bounded b) = IsBound b

-- so are both
abbrev pub IsExtent : Extent → Type 0
IsExtent Free = Unit {0}
IsExtent (Upto u) = IsUpper u
IsExtent (Between b u) = IsBound b × IsUpper u

-- a value's expression can be printed
abbrev pub IsValue : Value → Type 0
IsValue Unvalued = Unit {0}
IsValue (Given default e) = IsPrintable e

-- the bounds of each end are values
abbrev pub AreEndings : List Ending → Type 0
AreEndings [] = Unit {0}
AreEndings (e ∷ es) = IsExtent e.extent × AreEndings es

-- the ends, one after another
abbrev pub ends_listed : Ends → List Ending
ends_listed Alone = []
ends_listed (Pair a b) = a ∷ b ∷ []
ends_listed (Several a b c es) = a ∷ b ∷ c ∷ es

-- the ends of a usage
abbrev pub AreEnds : Usage → Type 0
AreEnds (items.ConnectorUse i e) = AreEndings (ends_listed e)
AreEnds other = Unit {0}

-- Places.

-- where items stand: in a body of its own sort
pub data Place : Type 0 where
  Anywhere : Place
  Enumerating : Place
  Calculating : Place
  Requiring : Place

-- a usage without a word has a name or a specialisation
abbrev pub IsTold : Option (List ℕ) → Option (List ℕ) → List Run → Type 0
IsTold None None [] = ⊥
IsTold short name rs = Unit {0}

-- where a result may stand, it doesn't begin with its name
abbrev pub IsToldThere : Option (List ℕ) → Option (List ℕ) → List Run → Type 0
IsToldThere None (Some n) rs = ⊥
IsToldThere None None [] = ⊥
IsToldThere short name rs = Unit {0}

-- whether no word stands before the kind
abbrev pub is_unmarked : Prefix → Bool
is_unmarked p = unmarked p.end p.direction p.derived p.is_abstract p.constant p.reference where
  unmarked : Bool → Direction → Bool → Bool → Bool → Bool → Bool
  unmarked false direction.None false false false false = true
  unmarked a b c d e f = false

-- a usage has a word, or is told
abbrev pub IsUsage : Usage → Header → Type 0
IsUsage items.Plain h = IsTold h.names.short h.names.name h.runs
IsUsage other h = Unit {0}

-- also where a result may stand
abbrev pub IsUsageThere : Bool → Usage → Header → Type 0
IsUsageThere true items.Plain h = IsToldThere h.names.short h.names.name h.runs
IsUsageThere unmarked u h = IsUsage u h

-- a language has things of this sort in bodies of this sort
abbrev pub StandsIn : Language → Place → Thing → Type 0
StandsIn l Enumerating (items.Used p items.EnumUse h v) = is_unmarked p ≡ true
StandsIn l Enumerating t = ⊥
StandsIn l place (items.Package p n) = Unit {0}
StandsIn Sysml place (items.Defined a k n general) = Unit {0}
StandsIn Sysml Calculating (items.Used p u h v) = IsUsageThere (is_unmarked p) u h
StandsIn Sysml place (items.Used p u h v) = IsUsage u h
StandsIn Sysml Calculating (items.Returned r u h v) = IsUsage u h
StandsIn Sysml Requiring (items.Subject h v) = Unit {0}
StandsIn Sysml Requiring (items.Demanded r h v) = Unit {0}
StandsIn Sysml place (items.Bind h a b) = Unit {0}
StandsIn Kerml place (items.Namespace n) = Unit {0}
StandsIn Kerml place (items.Declared a k n general) = Unit {0}
StandsIn Kerml place (items.Function a n general) = Unit {0}
StandsIn Kerml place (items.Featured q s h v) = Unit {0}
StandsIn Kerml Calculating (items.Yielded s h v) = Unit {0}
StandsIn l place t = ⊥

-- its numbers and expressions can be printed
abbrev pub IsThing : Thing → Type 0
IsThing (items.Used p u h v) = IsExtent h.extent × IsValue v × AreEnds u
IsThing (items.Returned r u h v) = IsExtent h.extent × IsValue v × AreEnds u
IsThing (items.Subject h v) = IsExtent h.extent × IsValue v
IsThing (items.Demanded r h v) = IsExtent h.extent × IsValue v
IsThing (items.Bind h a b) = IsExtent h.extent × AreEndings (a ∷ b ∷ [])
IsThing (items.Featured q s h v) = IsExtent h.extent × IsValue v
IsThing (items.Yielded s h v) = IsExtent h.extent × IsValue v
IsThing other = Unit {0}

-- the sort of the body of a usage
abbrev pub usage_place : Usage → Place
usage_place (items.CalculationUse c) = Calculating
usage_place items.RequirementUse = Requiring
usage_place other = Anywhere

-- of a definition
abbrev pub definition_place : Definition → Place
definition_place items.EnumDef = Enumerating
definition_place (items.CalculationDef c) = Calculating
definition_place items.RequirementDef = Requiring
definition_place other = Anywhere

-- of a thing
abbrev pub place_in : Thing → Place
place_in (items.Defined a k n general) = definition_place k
place_in (items.Used p u h v) = usage_place u
place_in (items.Returned r u h v) = usage_place u
place_in (items.Demanded r h v) = Calculating
place_in (items.Function a n general) = Calculating
place_in other = Anywhere

-- a body of this sort may have the result
abbrev pub IsResult : Place → Option Tree → Type 0
IsResult place None = Unit {0}
IsResult Calculating (Some e) = IsPrintable e
IsResult place (Some e) = ⊥

-- imports and aliases stand everywhere but among the values of an enumeration
abbrev pub IsOpen : Place → Type 0
IsOpen Enumerating = ⊥
IsOpen place = Unit {0}

-- the items of a body of this sort are those of a text
abbrev pub AreFitting : Language → Place → Items → Type 0
AreFitting l place Empty = Unit {0}
AreFitting l place (Import v i xs) = IsOpen place × AreFitting l place xs
AreFitting l place (Alias v a xs) = IsOpen place × AreFitting l place xs
AreFitting l place (Note v n xs) = AreFitting l place xs
AreFitting l place (Member v t body result xs) =
    StandsIn l place t
    × IsThing t
    × AreFitting l (place_in t) body
    × IsResult (place_in t) result
    × AreFitting l place xs

-- Canonical trees: neighbouring runs have different signs, but those of references, which each have their own.

-- the runs have one sign
abbrev pub are_alike : Run → Run → Bool
are_alike (Typed q qs) (Typed r rs) = true
are_alike (Subsetted c cs) (Subsetted e es) = true
are_alike (Redefined q qs) (Redefined r rs) = true
are_alike x y = false

-- no run could go on with the next one
abbrev pub AreParted : List Run → Type 0
AreParted [] = Unit {0}
AreParted (x ∷ []) = Unit {0}
AreParted (x ∷ y ∷ rs) = (are_alike x y ≡ false) × AreParted (y ∷ rs)

-- the runs of a thing
abbrev pub runs_in : Thing → List Run
runs_in (items.Used p u h v) = h.runs
runs_in (items.Returned r u h v) = h.runs
runs_in (items.Subject h v) = h.runs
runs_in (items.Demanded r h v) = h.runs
runs_in (items.Bind h a b) = h.runs
runs_in (items.Featured q s h v) = h.runs
runs_in (items.Yielded s h v) = h.runs
runs_in other = []

-- so are those of all items
abbrev pub AreCanonical : Items → Type 0
AreCanonical Empty = Unit {0}
AreCanonical (Import v i xs) = AreCanonical xs
AreCanonical (Alias v a xs) = AreCanonical xs
AreCanonical (Note v n xs) = AreCanonical xs
AreCanonical (Member v t body result xs) = AreParted (runs_in t) × AreCanonical body × AreCanonical xs
