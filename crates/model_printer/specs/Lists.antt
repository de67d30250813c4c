-- The three lists of references that stand in a head, by one recursion.
use Rattle.std.specs.Prelude.{Bool, cond, Option, Some, None, List, [], ◌∷◌, ◌++◌, codes}
use Rattle.element_store.specs.declared.outcome.Language.{Language}
use Rattle.element_store.specs.declared.outcome.Role.{Role}
use Rattle.element_store.specs.declared.records.Reference.{Reference}
use Rattle.print_model.specs.Printed.{Printed, sign, word}
use Rattle.print_model.specs.Trees.{named}
use Rattle.print_model.specs.Heads.{path_in, goes_on, role_sign, is_specialisation, is_about}
use Rattle.model_printer.specs.declared.references.Listed.{Listed}
use Rattle.model_printer.specs.declared.references.Listed.TheVariants.{Specialised, Ends, Abouts}

-- which references stand in it
abbrev pub stands_in : Listed → Role → Bool
stands_in Specialised r = is_specialisation r
stands_in Ends r = is_specialisation r
stands_in Abouts r = is_about r

-- what stands before a reference, by the role of the one before it
abbrev pub lead : Language → Listed → Option Role → Role → List Printed
lead l Specialised before r = sign (cond (goes_on before r) (codes ",") (role_sign r)) ∷ []
lead l Ends None r = []
lead l Ends (Some b) r = sign (codes ",") ∷ []
lead l Abouts None r = word l (codes "about") ∷ []
lead l Abouts (Some b) r = sign (codes ",") ∷ []

-- the references, each behind what stands before it
abbrev pub in_list : Language → Listed → Option Role → List Reference → List Printed
in_list l list before [] = []
in_list l list before (r ∷ rs) = lead l list before r.role ++ (named l (path_in r) ++ in_list l list (Some r.role) rs)
