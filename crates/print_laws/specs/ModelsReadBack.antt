-- What it means that the model of a tree of items is printed as the tree, and read back.
use Rattle.std.specs.Prelude.{◌≡◌, List}
use Rattle.std.specs.List.{flat_map}
use Rattle.element_store.specs.declared.numbers.FileNo.{FileNo}
use Rattle.element_store.specs.declared.outcome.Language.{Language}
use Rattle.element_store.specs.Model.{Data}
use Rattle.token_core.specs.declared.token.Token.{Token}
use Rattle.token_core.specs.Lex.{Lex}
use Rattle.text_model.specs.Numbering.{model_of}
use Rattle.print_model.specs.Heads.{model_lines, printed_text}
use Rattle.print_model.specs.Written.{CanBeWritten}
use Rattle.print_laws.specs.Items.{Items}
use Rattle.print_laws.specs.ItemTokens.{tokens}
use Rattle.print_laws.specs.Fitting.{Anywhere, AreFitting, AreCanonical}
use Rattle.print_laws.specs.ItemsReadBack.{items_walk, AreReadBack}

-- the model that a tree of items makes
abbrev pub items_model : FileNo → Language → Items → Data
items_model file language xs = model_of file language (items_walk xs)

-- the printed lines of the model of a tree have just the tokens of the tree
abbrev pub ModelsArePrinted : Type 0
ModelsArePrinted =
    (file : FileNo) (language : Language) (xs : Items) → AreFitting language Anywhere xs → AreCanonical xs
    → flat_map (λ x. x.tokens) (model_lines (items_model file language xs)) ≡ tokens language xs

-- the canonical text of the model of a tree, where it can be written, has tokens with a tree of the grammar, and the
-- walk over it makes just the drafts of the model, places aside
abbrev pub ModelsReadBack : Type 0
ModelsReadBack =
    (file : FileNo) (language : Language) (xs : Items) → AreFitting language Anywhere xs → AreCanonical xs
    → CanBeWritten (items_model file language xs)
    → (ts : List Token) × Lex language (printed_text (items_model file language xs)) ts
    × AreReadBack language xs (printed_text (items_model file language xs)) ts
