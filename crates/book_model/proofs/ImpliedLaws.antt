-- Rows that say the implied specialisations of a book, printed row by row, are the answer.
use Rattle.std.proofs.Common.{◌≡◌, ◌∙◌, suc, List, [], ◌∷◌, ◌++◌, length, map, refl, ap}
use Rattle.std.specs.Prelude.{codes}
use Rattle.std.specs.Fmt.{decimal}
use Rattle.std.specs.List.{flat_map}
use Rattle.demand_core.specs.Computed.{world}
use Rattle.demand_core.specs.Least.{least}
use Rattle.demand_core.specs.Tables.{Decided}
use Rattle.element_store.specs.declared.outcome.Outcome.{Outcome}
use Rattle.element_store.specs.declared.models.StoredFile.{StoredFile}
use Rattle.implied_model.specs.Implied.{Implication}
use Rattle.link_model.specs.declared.keys.LinkKey.{LinkKey}
use Rattle.link_model.specs.Keys.{same_key}
use Rattle.link_model.specs.Linking.{link_meaning}
use Rattle.link_model.specs.Outside.{seen_in}
use Rattle.book_model.specs.Answers.{implied_answer}
use Rattle.book_model.specs.Files.{ProjectFile}
use Rattle.book_model.specs.Outcomes.{linked_world}
use Rattle.book_model.specs.Printed.{implication_text}
use Rattle.book_model.specs.Queries.{implied_query}

-- over a table that answers as the least linking does, lookups read what they read over the least linking
pub world_is : (files : List StoredFile) (table : Decided LinkKey Outcome) → ((k : LinkKey) → table k ≡ least same_key (link_meaning files) k)
    → world (seen_in files) table ≡ linked_world files
world_is files table same = λ i. world (seen_in files) (λ k. same k i)

-- what is told of rows is told of what they say
told_by : {A B C : Type 0} (say : A → B) (f : B → List C) (rows : List A) → flat_map (λ r. f (say r)) rows ≡ flat_map f (map say rows)
told_by say f [] = refl
told_by say f (r ∷ rows) = ap (λ xs. f (say r) ++ xs) (told_by say f rows)

-- and they are as many
as_many : {A B : Type 0} (say : A → B) (rows : List A) → length rows ≡ length (map say rows)
as_many say [] = refl
as_many say (r ∷ rows) = ap suc (as_many say rows)

-- THE ANSWER, row by row
pub implied_printed : {A : Type 0} (files : List ProjectFile) (say : A → Implication) (rows : List A) → map say rows ≡ implied_query files
    → flat_map (λ r. implication_text files (say r) ++ codes "\n") rows ++ codes "implied " ++ decimal (length rows) ++ codes "\n"
    ≡ implied_answer files (implied_query files)
implied_printed files say rows is =
    let told = told_by say (λ row. implication_text files row ++ codes "\n") rows in
    let many = as_many say rows in
    (λ i. told i ++ codes "implied " ++ decimal (many i) ++ codes "\n") ∙ ap (implied_answer files) is
