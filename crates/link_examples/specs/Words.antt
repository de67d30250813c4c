-- What the rules of links give over small models, in short words.
use Rattle.std.specs.Prelude.{ℕ, Bool, false, List, [], nat_eq, ◌&&◌}
use Rattle.std.specs.List.{list_any, list_all}
use Rattle.std.specs.Cmp.Lexicographic.{pointwise}
use Rattle.demand_core.specs.Tables.{Decided}
use Rattle.demand_core.specs.Computation.{Asked}
use Rattle.demand_core.specs.Least.{least}
use Rattle.demand_core.specs.declared.looks.Fact.{Fact}
use Rattle.demand_core.specs.declared.looks.Fact.TheVariants.{Key, Outer}
use Rattle.demand_core.specs.declared.step.Step.{Step}
use Rattle.demand_core.specs.declared.step.Step.TheVariants.{Done, Waits}
use Rattle.element_store.specs.declared.numbers.ElementNo.{ElementNo}
use Rattle.element_store.specs.declared.numbers.RefNo.{RefNo}
use Rattle.element_store.specs.declared.outcome.Outcome.{Outcome}
use Rattle.element_store.specs.declared.models.StoredFile.{StoredFile}
use Rattle.link_model.specs.declared.keys.LinkKey.{LinkKey}
use Rattle.link_model.specs.declared.keys.LinkFact.{LinkFact}
use Rattle.link_model.specs.declared.keys.LinkFact.TheVariants.{File, RootName}
use Rattle.link_model.specs.Keys.{same_file, same_key}
use Rattle.link_model.specs.Outside.{seen_in, library_of}
use Rattle.link_model.specs.Asking.{path_elements}
use Rattle.link_model.specs.Linking.{rule, link_meaning, find}
use Rattle.link_model.specs.Written.{reference}

-- what is found under a qualified name, over the least linking
abbrev pub found : List StoredFile → List (List ℕ) → Outcome
found files path = find files (least same_key (link_meaning files)) path

-- what an asking over a table gives
abbrev pub asked : List StoredFile → Decided LinkKey Outcome → LinkKey → Asked LinkKey LinkFact Outcome
asked files table k = rule (library_of files) k (record { table = table; outer = seen_in files })

-- the elements at the segments and steps of a reference
abbrev pub path_of : List StoredFile → Decided LinkKey Outcome → RefNo → List ElementNo
path_of files table r = of_step
    (path_elements (library_of files) r (record { table = table; outer = seen_in files })).step
  where
    of_step : Step LinkKey (List ElementNo) → List ElementNo
    of_step (Done es) = es
    of_step (Waits ks) = []

-- one fact
abbrev pub same_fact : LinkFact → LinkFact → Bool
same_fact (File f) (File g) = same_file f g
same_fact (RootName x) (RootName y) = pointwise nat_eq x y
same_fact f g = false

abbrev pub is_key : LinkKey → Fact LinkKey LinkFact → Bool
is_key k (Key l) = same_key k l
is_key k (Outer f) = false

abbrev pub is_fact : LinkFact → Fact LinkKey LinkFact → Bool
is_fact f (Key k) = false
is_fact f (Outer g) = same_fact f g

-- the fact is among these
abbrev pub is_among : List (Fact LinkKey LinkFact) → Fact LinkKey LinkFact → Bool
is_among fs (Key k) = list_any (is_key k) fs
is_among fs (Outer f) = list_any (is_fact f) fs

-- over the least linking the asking of a reference looks at these facts, and at no other
abbrev pub sees : List StoredFile → LinkKey → List (Fact LinkKey LinkFact) → Bool
sees files k fs = list_all (is_among fs) (asked files (least same_key (link_meaning files)) k).looks
    && list_all (is_among (asked files (least same_key (link_meaning files)) k).looks) fs

-- facts in short words: a file, a name of roots, a reference
abbrev pub of_file : ℕ → Fact LinkKey LinkFact
of_file f = Outer (File (record { 0 = f }))

abbrev pub of_name : List ℕ → Fact LinkKey LinkFact
of_name x = Outer (RootName x)

abbrev pub of_key : ℕ → ℕ → Fact LinkKey LinkFact
of_key f k = Key (reference f k)
