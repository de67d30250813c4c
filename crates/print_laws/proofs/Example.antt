-- A tree that fits and is canonical, with the canonical text of its model, by evaluation.
use Rattle.std.proofs.Common.{◌≡◌, ℕ, List, [], ◌∷◌, ◌++◌, refl, arith}
use Rattle.std.specs.Prelude.{Some, None, true, false, codes}
use Rattle.std.specs.Fmt.{digits}
use Rattle.element_store.specs.declared.numbers.FileNo.{FileNo}
use Rattle.element_store.specs.declared.outcome.Language.TheVariants.{Sysml}
use Rattle.element_store.specs.declared.kind.Direction.TheVariants as direction
use Rattle.element_store.specs.declared.kind.Visibility.TheVariants as visibility
use Rattle.element_store.specs.declared.expression.BinaryOp.TheVariants as binary
use Rattle.token_core.specs.Words.{signs, words}
use Rattle.print_model.specs.Trees.{Integer, Named, Between}
use Rattle.print_model.specs.Heads.{printed_text}
use Rattle.print_laws.specs.Items.{Qualified, Chained, Names, Upto, Bounded, Number, Free, Typed, Referred, Unvalued, Given, Header, Ending, Pair, Prefix, Bare, Items, Empty, Import, Note, Comment, Member}
use Rattle.print_laws.specs.Items as items
use Rattle.print_laws.specs.ItemWalk.{path}
use Rattle.print_laws.specs.Fitting.{Anywhere, AreFitting, AreCanonical}
use Rattle.print_laws.specs.ModelsReadBack.{items_model}

-- a name of one segment
abbrev one : List ℕ → Qualified
one s = record { absolute = false; first = s; more = [] }

-- a name alone
abbrev called : List ℕ → Names
called s = record { short = None; name = Some s }

-- no words before the kind
abbrev unmarked : Prefix
unmarked = record { end = false; direction = direction.None; derived = false; is_abstract = false; constant = false; reference = false }

-- a name and its type
abbrev typed : List ℕ → List ℕ → Header
typed s t = record { names = called s; runs = Typed (one t) [] ∷ []; extent = Free; ordered = false; nonunique = false }

-- an end without bounds and name
abbrev end_at : List ℕ → List ℕ → Ending
end_at s t = record { extent = Free; name = None; chain = record { name = one s; steps = t ∷ [] } }

-- a package of a definition, a part with bounds and a value, a connector and a calculation with its result
abbrev example : Items
example =
    Member visibility.Public (items.Package Bare (called (codes "P")))
    (Import visibility.Private (record { all = false; name = one (codes "Q"); star = true; deep = false })
    (Member visibility.Public (items.Defined true (items.SimpleDef items.Part) (called (codes "A")) (one (codes "B") ∷ [])) Empty None
    (Member visibility.Private (items.Used (record unmarked { derived = true }) (items.SimpleUse items.Part)
    (record (typed (codes "a") (codes "A")) { extent = Upto (Bounded (Number 2)); ordered = true }) (Given true (Integer 7))) Empty None
    (Member visibility.Public (items.Used unmarked (items.ConnectorUse false (Pair (end_at (codes "a") (codes "x")) (end_at (codes "b") (codes "y"))))
    (record (typed (codes "c") (codes "C")) { runs = [] }) Unvalued) Empty None
    (Member visibility.Public (items.Used unmarked (items.CalculationUse false) (record (typed (codes "d") (codes "D")) { runs = [] }) Unvalued)
    (Note visibility.Public (Comment (record { short = None; name = None }) [] None (codes " sum "))
    (Member visibility.Public (items.Returned false items.Plain (typed (codes "r") (codes "R")) Unvalued) Empty None Empty))
    (Some (Between binary.Add (Named (path (one (codes "u")))) (Integer 1)))
    Empty))))) None Empty

-- it fits
pub fits : AreFitting Sysml Anywhere example
fits = (
  tt,
  tt,
  (
    tt,
    (
      tt,
      tt,
      tt,
      tt,
      (
        tt,
        (omega arith, omega arith, tt),
        tt,
        tt,
        (
          tt,
          (tt, tt, (tt, (tt, tt))),
          tt,
          tt,
          (tt, (tt, tt, tt), (tt, (tt, tt, tt), tt, tt, tt), ((λ e. not_so e), omega arith), tt),
        ),
      ),
    ),
  ),
  tt,
  tt,
)
  where
    not_so : codes "u" ∷ [] ≡ [] → ⊥
    not_so e = cc

-- it is canonical
pub canonical : AreCanonical example
canonical = (tt, (tt, tt, (tt, tt, (tt, tt, (tt, (tt, tt, tt), tt)))), tt)

-- lines, each with a line feed
abbrev lines : List (List ℕ) → List ℕ
lines [] = []
lines (x ∷ xs) = x ++ 10 ∷ lines xs

-- and this is the canonical text of its model
pub text : (file : FileNo) → printed_text (items_model file Sysml example) ≡ lines (
    codes "package P {"
    ∷ codes "    private import Q::*;"
    ∷ codes "    abstract part def A :> B;"
    ∷ codes "    private derived part a : A [2] ordered default = 7;"
    ∷ codes "    connection c connect a.x to b.y;"
    ∷ codes "    calc d {"
    ∷ codes "        comment /* sum */"
    ∷ codes "        return r : R;"
    ∷ codes "        u + 1"
    ∷ codes "    }"
    ∷ codes "}"
    ∷ [])
unfolding signs words digits
text file = refl
