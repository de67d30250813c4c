-- Made by `tools/make_table.py`: change tools/actions, not this file.
use Rattle.std.specs.Prelude.{true, false, List, [], ◌∷◌}
use Rattle.text_model.specs.declared.action.Meaning.{Meaning}
use Rattle.text_model.specs.declared.action.Meaning.TheVariants.{Direction, Kind, Leaf, Mark, Nothing, Operator, PartOf, Visibility}
use Rattle.element_store.specs.declared.expression.BinaryOp.TheVariants as binary
use Rattle.element_store.specs.declared.kind.Direction.TheVariants as direction
use Rattle.element_store.specs.declared.kind.Kind.TheVariants as kind
use Rattle.text_model.specs.declared.action.Leaf.TheVariants as leaf
use Rattle.text_model.specs.declared.action.Mark.TheVariants as mark
use Rattle.text_model.specs.declared.action.Operator.TheVariants as operator
use Rattle.element_store.specs.declared.kind.PartOf.TheVariants as part
use Rattle.element_store.specs.declared.kind.Visibility.TheVariants as visibility

-- what each means, by its number in its list
unfoldable pub kerml_meanings : List Meaning
kerml_meanings =
    Nothing ∷  -- about
    Mark mark.Abstract ∷  -- abstract
    Nothing ∷  -- alias
    Leaf leaf.All ∷  -- all
    Operator (operator.Binary binary.And) ∷  -- and
    Nothing ∷  -- as
    Kind kind.Assoc ∷  -- assoc
    Kind kind.Behavior ∷  -- behavior
    Nothing ∷  -- binding
    Nothing ∷  -- bool
    Nothing ∷  -- by
    Nothing ∷  -- chains
    Kind kind.Class ∷  -- class
    Kind kind.Classifier ∷  -- classifier
    Nothing ∷  -- comment
    Mark mark.Composite ∷  -- composite
    Nothing ∷  -- conjugate
    Nothing ∷  -- conjugates
    Nothing ∷  -- conjugation
    Nothing ∷  -- connector
    Mark mark.Constant ∷  -- const
    Nothing ∷  -- crosses
    Kind kind.Datatype ∷  -- datatype
    Mark mark.Default ∷  -- default
    Nothing ∷  -- dependency
    Mark mark.Derived ∷  -- derived
    Nothing ∷  -- differences
    Nothing ∷  -- disjoining
    Nothing ∷  -- disjoint
    Nothing ∷  -- doc
    Nothing ∷  -- else
    Mark mark.End ∷  -- end
    Nothing ∷  -- expr
    Leaf (leaf.Boolean false) ∷  -- false
    Kind kind.Feature ∷  -- feature
    Nothing ∷  -- featured
    Nothing ∷  -- featuring
    Nothing ∷  -- filter
    Nothing ∷  -- first
    Nothing ∷  -- flow
    Nothing ∷  -- for
    Nothing ∷  -- from
    Kind kind.Function ∷  -- function
    Nothing ∷  -- hastype
    Operator operator.If ∷  -- if
    Operator (operator.Binary binary.Implies) ∷  -- implies
    Nothing ∷  -- import
    Direction direction.In ∷  -- in
    Direction direction.InOut ∷  -- inout
    Nothing ∷  -- interaction
    Nothing ∷  -- intersects
    Nothing ∷  -- inv
    Nothing ∷  -- inverse
    Nothing ∷  -- inverting
    Nothing ∷  -- istype
    Nothing ∷  -- language
    Mark mark.Library ∷  -- library
    Nothing ∷  -- locale
    Nothing ∷  -- member
    Nothing ∷  -- meta
    Nothing ∷  -- metaclass
    Nothing ∷  -- metadata
    Nothing ∷  -- multiplicity
    Nothing ∷  -- namespace
    Nothing ∷  -- new
    Mark mark.Nonunique ∷  -- nonunique
    Operator operator.Not ∷  -- not
    Leaf leaf.Null ∷  -- null
    Nothing ∷  -- of
    Operator (operator.Binary binary.Or) ∷  -- or
    Mark mark.Ordered ∷  -- ordered
    Direction direction.Out ∷  -- out
    Nothing ∷  -- package
    Nothing ∷  -- portion
    Nothing ∷  -- predicate
    Visibility visibility.Private ∷  -- private
    Visibility visibility.Protected ∷  -- protected
    Visibility visibility.Public ∷  -- public
    Nothing ∷  -- redefines
    Nothing ∷  -- redefinition
    Nothing ∷  -- references
    Nothing ∷  -- rep
    PartOf part.Return ∷  -- return
    Nothing ∷  -- specialization
    Nothing ∷  -- specializes
    Mark mark.Standard ∷  -- standard
    Kind kind.Step ∷  -- step
    Kind kind.Struct ∷  -- struct
    Nothing ∷  -- subclassifier
    Nothing ∷  -- subset
    Nothing ∷  -- subsets
    Nothing ∷  -- subtype
    Nothing ∷  -- succession
    Nothing ∷  -- then
    Nothing ∷  -- to
    Leaf (leaf.Boolean true) ∷  -- true
    Kind kind.AnyType ∷  -- type
    Nothing ∷  -- typed
    Nothing ∷  -- typing
    Nothing ∷  -- unions
    Nothing ∷  -- var
    Operator (operator.Binary binary.Xor) ∷  -- xor
    []
