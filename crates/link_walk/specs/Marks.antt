-- Marks: each value once, in the order in which it was marked first.
use Rattle.std.specs.Prelude.{Bool, false, cond, nat_eq, List, [], ◌∷◌, ◌++◌}
use Rattle.std.specs.List.{list_any}
use Rattle.std.specs.Cmp.Lexicographic.{pointwise}
use Rattle.demand_core.specs.declared.looks.Fact.{Fact}
use Rattle.demand_core.specs.declared.looks.Fact.TheVariants.{Key, Outer}
use Rattle.link_model.specs.declared.keys.LinkKey.{LinkKey}
use Rattle.link_model.specs.declared.keys.LinkFact.{LinkFact}
use Rattle.link_model.specs.declared.keys.LinkFact.TheVariants.{File, RootName}
use Rattle.link_model.specs.Keys.{same_file, same_key}

-- a value is marked at the end, where it wasn't
abbrev pub marked : {A : Type 0} → (A → A → Bool) → List A → A → List A
marked same marks x = cond (list_any (same x) marks) marks (marks ++ x ∷ [])

-- each of these is marked, one after another
abbrev pub marked_all : {A : Type 0} → (A → A → Bool) → List A → List A → List A
marked_all same marks [] = marks
marked_all same marks (x ∷ xs) = marked_all same (marked same marks x) xs

-- one fact at which lookups look
abbrev pub same_fact : Fact LinkKey LinkFact → Fact LinkKey LinkFact → Bool
same_fact (Key a) (Key b) = same_key a b
same_fact (Outer (File f)) (Outer (File g)) = same_file f g
same_fact (Outer (RootName x)) (Outer (RootName y)) = pointwise nat_eq x y
same_fact a b = false
