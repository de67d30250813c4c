-- How names are spelt in a language, and how a qualified name with its chain is written.
use Rattle.std.specs.Prelude.{ℕ, Bool, cond, List, [], ◌∷◌, ◌++◌, map, codes}
use Rattle.std.specs.List.{flat_map}
use Rattle.element_store.specs.declared.outcome.Language.{Language}
use Rattle.token_core.specs.Spelling.{name_spelling}

-- texts with a sign between each two
abbrev pub joined : List ℕ → List (List ℕ) → List ℕ
joined sign [] = []
joined sign (x ∷ []) = x
joined sign (x ∷ y ∷ more) = x ++ sign ++ joined sign (y ∷ more)

-- the segments of a path, with `::` between them
abbrev pub spelt_path : Language → List (List ℕ) → List ℕ
spelt_path language path = joined (codes "::") (map (name_spelling language) path)

-- the steps of a chain, each behind a `.`
abbrev pub spelt_chain : Language → List (List ℕ) → List ℕ
spelt_chain language steps = flat_map (λ step. codes "." ++ name_spelling language step) steps

-- a name as it is written: `$::` where that stands, the path, the chain
abbrev pub written_name : Language → Bool → List (List ℕ) → List (List ℕ) → List ℕ
written_name language absolute path steps =
    cond absolute (codes "$::") [] ++ spelt_path language path ++ spelt_chain language steps
