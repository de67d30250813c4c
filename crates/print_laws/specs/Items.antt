-- The items of a text as a tree: each item with its parts in the order of the grammar, and the items of its body.
use Rattle.std.specs.Prelude.{ℕ, Bool, Option, List}
use Rattle.element_store.specs.declared.kind.Visibility.{Visibility}
use Rattle.element_store.specs.declared.kind.Direction.{Direction}
use Rattle.print_model.specs.Trees.{Tree}

-- a qualified name: whether `$` stands before it, and its segments
pub record Qualified : Type 0 where
  pub absolute : Bool
  pub first : List ℕ
  pub more : List (List ℕ)

-- a qualified name with the names behind each `.`
pub record Chained : Type 0 where
  pub name : Qualified
  pub steps : List (List ℕ)

-- the short name and the name
pub record Names : Type 0 where
  pub short : Option (List ℕ)
  pub name : Option (List ℕ)

-- a bound that is no `*`
pub data Bound : Type 0 where
  Number : (n : ℕ) → Bound
  Known : (q : Qualified) → Bound

-- an upper bound
pub data Upper : Type 0 where
  Star : Upper
  Bounded : (b : Bound) → Upper

-- the bounds in square brackets, if there are any
pub data Extent : Type 0 where
  Free : Extent
  Upto : (u : Upper) → Extent
  Between : (b : Bound) (u : Upper) → Extent

-- a run of specialisations: one sign, and a list
pub data Run : Type 0 where
  Typed : (q : Qualified) (qs : List Qualified) → Run
  Subsetted : (c : Chained) (cs : List Chained) → Run
  Redefined : (q : Qualified) (qs : List Qualified) → Run
  Referred : (c : Chained) → Run

-- a value, if there is one, and whether it is a default
pub data Value : Type 0 where
  Unvalued : Value
  Given : (default : Bool) (e : Tree) → Value

-- what stands behind the word of a feature's kind, up to its value
pub record Header : Type 0 where
  pub names : Names
  pub runs : List Run
  pub extent : Extent
  pub ordered : Bool
  pub nonunique : Bool

-- an end of a connector
pub record Ending : Type 0 where
  pub extent : Extent
  pub name : Option (List ℕ)
  pub chain : Chained

-- the ends of a connector: none, two, or more in brackets
pub data Ends : Type 0 where
  Alone : Ends
  Pair : (a b : Ending) → Ends
  Several : (a b c : Ending) (more : List Ending) → Ends

-- the words before the kind of a usage of SysML
pub record Prefix : Type 0 where
  pub end : Bool
  pub direction : Direction
  pub derived : Bool
  pub is_abstract : Bool
  pub constant : Bool
  pub reference : Bool

-- the words before the kind of a feature of KerML
pub record Qualities : Type 0 where
  pub direction : Direction
  pub derived : Bool
  pub is_abstract : Bool
  pub composite : Bool
  pub constant : Bool
  pub end : Bool

-- the words of SysML that stand for themselves
pub data Simple : Type 0 where
  Attribute : Simple
  Occurrence : Simple
  Item : Simple
  Part : Simple
  Port : Simple
  Action : Simple

-- what a usage of SysML is; a plain one has no word
pub data Usage : Type 0 where
  SimpleUse : (s : Simple) → Usage
  EnumUse : Usage
  ConnectorUse : (interface : Bool) (ends : Ends) → Usage
  CalculationUse : (constraint : Bool) → Usage
  RequirementUse : Usage
  Plain : Usage

-- what a definition of SysML is
pub data Definition : Type 0 where
  SimpleDef : (s : Simple) → Definition
  EnumDef : Definition
  ConnectorDef : (interface : Bool) → Definition
  CalculationDef : (constraint : Bool) → Definition
  RequirementDef : Definition

-- the words of types of KerML, but `function`
pub data TypeWord : Type 0 where
  AnyType : TypeWord
  Classifier : TypeWord
  Class : TypeWord
  Struct : TypeWord
  Datatype : TypeWord
  Assoc : TypeWord
  Behavior : TypeWord

-- the words before `package`
pub data Packing : Type 0 where
  Bare : Packing
  Library : Packing
  Standard : Packing

-- an item with a body: of both languages, of SysML, of KerML
pub data Thing : Type 0 where
  Package : (p : Packing) (n : Names) → Thing
  Defined : (is_abstract : Bool) (k : Definition) (n : Names) (general : List Qualified) → Thing
  Used : (p : Prefix) (u : Usage) (h : Header) (v : Value) → Thing
  Returned : (reference : Bool) (u : Usage) (h : Header) (v : Value) → Thing
  Subject : (h : Header) (v : Value) → Thing
  Demanded : (require : Bool) (h : Header) (v : Value) → Thing
  Bind : (h : Header) (a b : Ending) → Thing
  Namespace : (n : Names) → Thing
  Declared : (is_abstract : Bool) (k : TypeWord) (n : Names) (general : List Qualified) → Thing
  Function : (is_abstract : Bool) (n : Names) (general : List Qualified) → Thing
  Featured : (q : Qualities) (step : Bool) (h : Header) (v : Value) → Thing
  Yielded : (step : Bool) (h : Header) (v : Value) → Thing

-- an import
pub record Importing : Type 0 where
  pub all : Bool
  pub name : Qualified
  pub star : Bool
  pub deep : Bool

-- an alias
pub record Aliasing : Type 0 where
  pub names : Names
  pub target : Qualified

-- a documentation or a comment
pub data Noting : Type 0 where
  Documentation : (n : Names) (locale : Option (List ℕ)) (body : List ℕ) → Noting
  Comment : (n : Names) (abouts : List Qualified) (locale : Option (List ℕ)) (body : List ℕ) → Noting

-- the items of a body, one after another; a member has a body and perhaps a result
pub data Items : Type 0 where
  Empty : Items
  Import : (v : Visibility) (i : Importing) (xs : Items) → Items
  Alias : (v : Visibility) (a : Aliasing) (xs : Items) → Items
  Note : (v : Visibility) (n : Noting) (xs : Items) → Items
  Member : (v : Visibility) (t : Thing) (body : Items) (result : Option Tree) (xs : Items) → Items
