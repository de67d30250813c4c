-- Hits by the order of their members.
use Rattle.std.specs.Prelude.{Bool, true, not, cond, List, map, slice_get, Option, None, Some}
use Rattle.std.specs.Option.{option_map}
use Rattle.element_store.specs.declared.numbers.ElementNo.{ElementNo}
use Rattle.element_store.specs.declared.numbers.MemberNo.{MemberNo}
use Rattle.element_store.specs.declared.models.StoredFile.{StoredFile}
use Rattle.element_store.specs.Numbers.{those_where}
use Rattle.link_model.specs.declared.keys.Hit.{Hit}
use Rattle.link_model.specs.declared.keys.LinkKey.{LinkKey}
use Rattle.link_model.specs.declared.keys.LinkFact.{LinkFact}
use Rattle.link_model.specs.declared.keys.LinkFact.TheVariants.{File}
use Rattle.demand_core.specs.declared.looks.Fact.{Fact}
use Rattle.demand_core.specs.declared.looks.Fact.TheVariants.{Outer}
use Rattle.link_model.specs.Keys.{same_element}
use Rattle.link_model.specs.Lexical.{Ranked, ranked_by, is_before, lesser, least_of}
use Rattle.link_model.specs.Lexical.{Picked as ModelPicked}
use Rattle.link_model.specs.Lexical.Picked.{Nothing, One, Several}
use Rattle.link_tiers.specs.declared.picking.Picked.{Picked}
use Rattle.link_tiers.specs.declared.picking.Picked.TheVariants as code

-- a member, and a hit, with what decides which is least
abbrev pub rank_of : List StoredFile → MemberNo → Ranked MemberNo
rank_of files m = ranked_by (slice_get files m.file.0) m.index m

abbrev pub ranked : List StoredFile → Hit → Ranked Hit
ranked files h = ranked_by (slice_get files h.member.file.0) h.member.index h

-- the member stands before the other
abbrev pub comes_before : List StoredFile → MemberNo → MemberNo → Bool
comes_before files m n = is_before (rank_of files m) (rank_of files n)

-- the looks at the files of hits
abbrev pub files_looked : List Hit → List (Fact LinkKey LinkFact)
files_looked hs = map (λ h. Outer (File h.member.file)) hs

-- the hit leads to another element than this, if there is one
abbrev pub is_other : Option ElementNo → Hit → Bool
is_other None h = true
is_other (Some e) h = not (same_element h.element e)

-- the least of the hits that lead elsewhere
abbrev pub least_ranked : List StoredFile → Option ElementNo → List Hit → Option (Ranked Hit)
least_ranked files without hs = least_of (those_where (λ b. is_other without b.item) (map (ranked files) hs))

-- the lesser of a hit that leads elsewhere and the least so far
abbrev pub lesser_with : List StoredFile → Option ElementNo → Hit → Option (Ranked Hit) → Option (Ranked Hit)
lesser_with files without h least = cond (is_other without h) (lesser (ranked files h) least) least

-- what code picked, in the model's words
abbrev pub picked_of : Picked → ModelPicked
picked_of code.Nothing = Nothing
picked_of (code.One e) = One e
picked_of (code.Several first second) = Several first second
