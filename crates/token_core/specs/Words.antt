-- The signs and the reserved words as lists: KerML's reserved words (8.2.2.6) and symbols (8.2.2.7), SysML's
-- (8.2.2.1.2). A sign or word is told by its place in its list, from 0 on.
use Rattle.std.specs.Prelude.{ℕ, ◌==◌, List, ◌++◌, Option, codes}
use Rattle.std.specs.List.{slice_split, position}
use Rattle.std.specs.Str.{bytes_eq}
use Rattle.element_store.specs.declared.outcome.Language.{Language}
use Rattle.element_store.specs.declared.outcome.Language.TheVariants.{Kerml, Sysml}
use Rattle.token_core.specs.Bytes.{blank}

-- the words of a text that single blanks part
abbrev pub parted : List ℕ → List (List ℕ)
parted text = slice_split (λ b. b == blank) text

-- the signs of both languages
unfoldable pub signs : List (List ℕ)
signs =
    parted (
    codes "{ } [ ] ( ) < > ; , . .. : :: :> :>> ::> = == != === !== <= >= "
    ++ codes "+ - * ** / % & | ~ ^ @ @@ # $ ? ?? -> => :=")

-- the reserved words of a language
unfoldable pub words : Language → List (List ℕ)
words Kerml =
    parted (
    codes "about abstract alias all and as assoc behavior binding bool by chains class classifier comment "
    ++ codes "composite conjugate conjugates conjugation connector const crosses datatype default dependency "
    ++ codes "derived differences disjoining disjoint doc else end expr false feature featured featuring "
    ++ codes "filter first flow for from function hastype if implies import in inout interaction intersects "
    ++ codes "inv inverse inverting istype language library locale member meta metaclass metadata "
    ++ codes "multiplicity namespace new nonunique not null of or ordered out package portion predicate "
    ++ codes "private protected public redefines redefinition references rep return specialization "
    ++ codes "specializes standard step struct subclassifier subset subsets subtype succession then to true "
    ++ codes "type typed typing unions var xor")
words Sysml =
    parted (
    codes "about abstract accept action actor after alias all allocate allocation analysis and as assert "
    ++ codes "assign assume at attribute bind binding by calc case comment concern connect connection "
    ++ codes "constant constraint crosses decide def default defined dependency derived do doc else end "
    ++ codes "entry enum event exhibit exit expose false filter first flow for fork frame from hastype if "
    ++ codes "implies import in include individual inout interface istype item join language library locale "
    ++ codes "loop merge message meta metadata new nonunique not null objective occurrence of or ordered out "
    ++ codes "package parallel part perform port private protected public redefines ref references render "
    ++ codes "rendering rep require requirement return satisfy send snapshot specializes stakeholder "
    ++ codes "standard state subject subsets succession terminate then timeslice to transition true until "
    ++ codes "use variant variation verification verify via view viewpoint when while xor")

-- the first place, from 0 on, at which these bytes stand in the list
abbrev pub place_in : List (List ℕ) → List ℕ → Option ℕ
place_in list bytes = position (λ word. bytes_eq word bytes) list
