-- Made by `tools/make_table.py`: change tools/actions, not this file.
use Rattle.std.specs.Prelude.{true, false, List, [], ◌∷◌}
use Rattle.text_model.specs.declared.action.Meaning.{Meaning}
use Rattle.text_model.specs.declared.action.Meaning.TheVariants.{Def, Direction, Kind, Leaf, Mark, Nothing, Operator, PartOf, Visibility}
use Rattle.element_store.specs.declared.expression.BinaryOp.TheVariants as binary
use Rattle.element_store.specs.declared.kind.Direction.TheVariants as direction
use Rattle.element_store.specs.declared.kind.Kind.TheVariants as kind
use Rattle.text_model.specs.declared.action.Leaf.TheVariants as leaf
use Rattle.text_model.specs.declared.action.Mark.TheVariants as mark
use Rattle.text_model.specs.declared.action.Operator.TheVariants as operator
use Rattle.element_store.specs.declared.kind.PartOf.TheVariants as part
use Rattle.element_store.specs.declared.kind.Visibility.TheVariants as visibility

-- what each means, by its number in its list
unfoldable pub sysml_meanings : List Meaning
sysml_meanings =
    Nothing ∷  -- about
    Mark mark.Abstract ∷  -- abstract
    Nothing ∷  -- accept
    Kind kind.Action ∷  -- action
    Nothing ∷  -- actor
    Nothing ∷  -- after
    Nothing ∷  -- alias
    Leaf leaf.All ∷  -- all
    Nothing ∷  -- allocate
    Nothing ∷  -- allocation
    Nothing ∷  -- analysis
    Operator (operator.Binary binary.And) ∷  -- and
    Nothing ∷  -- as
    Nothing ∷  -- assert
    Nothing ∷  -- assign
    PartOf part.Assume ∷  -- assume
    Nothing ∷  -- at
    Kind kind.Attribute ∷  -- attribute
    Nothing ∷  -- bind
    Nothing ∷  -- binding
    Nothing ∷  -- by
    Kind kind.Calc ∷  -- calc
    Nothing ∷  -- case
    Nothing ∷  -- comment
    Nothing ∷  -- concern
    Nothing ∷  -- connect
    Kind kind.Connection ∷  -- connection
    Mark mark.Constant ∷  -- constant
    Kind kind.Constraint ∷  -- constraint
    Nothing ∷  -- crosses
    Nothing ∷  -- decide
    Def ∷  -- def
    Mark mark.Default ∷  -- default
    Nothing ∷  -- defined
    Nothing ∷  -- dependency
    Mark mark.Derived ∷  -- derived
    Nothing ∷  -- do
    Nothing ∷  -- doc
    Nothing ∷  -- else
    Mark mark.End ∷  -- end
    Nothing ∷  -- entry
    Kind kind.Enumeration ∷  -- enum
    Nothing ∷  -- event
    Nothing ∷  -- exhibit
    Nothing ∷  -- exit
    Nothing ∷  -- expose
    Leaf (leaf.Boolean false) ∷  -- false
    Nothing ∷  -- filter
    Nothing ∷  -- first
    Nothing ∷  -- flow
    Nothing ∷  -- for
    Nothing ∷  -- fork
    Nothing ∷  -- frame
    Nothing ∷  -- from
    Nothing ∷  -- hastype
    Operator operator.If ∷  -- if
    Operator (operator.Binary binary.Implies) ∷  -- implies
    Nothing ∷  -- import
    Direction direction.In ∷  -- in
    Nothing ∷  -- include
    Nothing ∷  -- individual
    Direction direction.InOut ∷  -- inout
    Kind kind.Interface ∷  -- interface
    Nothing ∷  -- istype
    Kind kind.Item ∷  -- item
    Nothing ∷  -- join
    Nothing ∷  -- language
    Mark mark.Library ∷  -- library
    Nothing ∷  -- locale
    Nothing ∷  -- loop
    Nothing ∷  -- merge
    Nothing ∷  -- message
    Nothing ∷  -- meta
    Nothing ∷  -- metadata
    Nothing ∷  -- new
    Mark mark.Nonunique ∷  -- nonunique
    Operator operator.Not ∷  -- not
    Leaf leaf.Null ∷  -- null
    Nothing ∷  -- objective
    Kind kind.Occurrence ∷  -- occurrence
    Nothing ∷  -- of
    Operator (operator.Binary binary.Or) ∷  -- or
    Mark mark.Ordered ∷  -- ordered
    Direction direction.Out ∷  -- out
    Nothing ∷  -- package
    Nothing ∷  -- parallel
    Kind kind.Part ∷  -- part
    Nothing ∷  -- perform
    Kind kind.Port ∷  -- port
    Visibility visibility.Private ∷  -- private
    Visibility visibility.Protected ∷  -- protected
    Visibility visibility.Public ∷  -- public
    Nothing ∷  -- redefines
    Mark mark.Reference ∷  -- ref
    Nothing ∷  -- references
    Nothing ∷  -- render
    Nothing ∷  -- rendering
    Nothing ∷  -- rep
    PartOf part.Require ∷  -- require
    Kind kind.Requirement ∷  -- requirement
    PartOf part.Return ∷  -- return
    Nothing ∷  -- satisfy
    Nothing ∷  -- send
    Nothing ∷  -- snapshot
    Nothing ∷  -- specializes
    Nothing ∷  -- stakeholder
    Mark mark.Standard ∷  -- standard
    Nothing ∷  -- state
    PartOf part.Subject ∷  -- subject
    Nothing ∷  -- subsets
    Nothing ∷  -- succession
    Nothing ∷  -- terminate
    Nothing ∷  -- then
    Nothing ∷  -- timeslice
    Nothing ∷  -- to
    Nothing ∷  -- transition
    Leaf (leaf.Boolean true) ∷  -- true
    Nothing ∷  -- until
    Nothing ∷  -- use
    Nothing ∷  -- variant
    Nothing ∷  -- variation
    Nothing ∷  -- verification
    Nothing ∷  -- verify
    Nothing ∷  -- via
    Nothing ∷  -- view
    Nothing ∷  -- viewpoint
    Nothing ∷  -- when
    Nothing ∷  -- while
    Operator (operator.Binary binary.Xor) ∷  -- xor
    []
