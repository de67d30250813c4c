-- What it means that two models differ in places alone, and that printing gives a model back.
use Rattle.std.specs.Prelude.{◌≡◌, ℕ, List}
use Rattle.element_store.specs.declared.numbers.FileNo.{FileNo}
use Rattle.element_store.specs.declared.outcome.Language.{Language}
use Rattle.element_store.specs.Model.{Data}
use Rattle.token_core.specs.declared.token.Token.{Token}
use Rattle.token_core.specs.Lex.{Lex}
use Rattle.ll_core.specs.Derives.{Forest, IsTree}
use Rattle.text_model.specs.Languages.{grammar_of}
use Rattle.text_model.specs.Numbering.{model_of}
use Rattle.text_model.specs.Profile.{kinds_of, drafts_of}
use Rattle.print_model.specs.Heads.{printed_text}
use Rattle.print_model.specs.Written.{CanBeWritten}
use Rattle.print_laws.specs.Items.{Items}
use Rattle.print_laws.specs.Fitting.{Anywhere, AreFitting, AreCanonical}
use Rattle.print_laws.specs.ModelsReadBack.{items_model}

-- the models are the same in all but places
pub record AreAlike (a b : Data) : Type 0 where
  pub language : a.language ≡ b.language
  pub elements : a.elements ≡ b.elements
  pub items : a.items ≡ b.items
  pub members : a.members ≡ b.members
  pub references : a.references ≡ b.references
  pub imports : a.imports ≡ b.imports

-- a text has tokens and a tree, and the model that they make is alike to this one, and printed as the same text
pub record ComesBack (file : FileNo) (language : Language) (text : List ℕ) (d : Data) : Type 0 where
  pub tokens : List Token
  pub tree : Forest
  pub lexed : Lex language text tokens
  pub derived : IsTree (grammar_of language) (kinds_of tokens) tree
  pub alike : AreAlike (model_of file language (drafts_of language text tokens tree)) d
  pub again : printed_text (model_of file language (drafts_of language text tokens tree)) ≡ text

-- the canonical text of the model of a tree gives the model back, where it can be written
abbrev pub ModelsComeBack : Type 0
ModelsComeBack =
    (file : FileNo) (language : Language) (xs : Items) → AreFitting language Anywhere xs → AreCanonical xs
    → CanBeWritten (items_model file language xs)
    → ComesBack file language (printed_text (items_model file language xs)) (items_model file language xs)
