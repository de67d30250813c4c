-- What it means that the canonical text of a model is within the profile, with the same model.
use Rattle.std.specs.Prelude.{◌≡◌, ℕ, None, List, []}
use Rattle.element_store.specs.declared.numbers.FileNo.{FileNo}
use Rattle.element_store.specs.declared.outcome.Language.{Language}
use Rattle.element_store.specs.Model.{Data}
use Rattle.token_core.specs.declared.token.Token.{Token}
use Rattle.token_core.specs.Lex.{Lex, too_deep}
use Rattle.text_model.specs.Numbering.{limits}
use Rattle.text_model.specs.Profile.{InProfile}
use Rattle.print_model.specs.Heads.{printed_text}
use Rattle.print_model.specs.Written.{CanBeWritten}
use Rattle.print_laws.specs.Items.{Items}
use Rattle.print_laws.specs.Fitting.{Anywhere, AreFitting, AreCanonical}
use Rattle.print_laws.specs.ItemsReadBack.{items_walk}
use Rattle.print_laws.specs.ModelsReadBack.{items_model}
use Rattle.print_laws.specs.SameModels.{AreAlike}

-- the brackets of a text's tokens nest no deeper than a text may
abbrev pub NestsFew : Language → List ℕ → Type 0
NestsFew language text = (ts : List Token) → Lex language text ts → too_deep 0 ts ≡ None

-- a text is within the profile, its model is alike to this one, and is printed as the same text
pub record IsInProfile (file : FileNo) (language : Language) (text : List ℕ) (d : Data) : Type 0 where
  pub model : Data
  pub inside : InProfile file language text model
  pub alike : AreAlike model d
  pub again : printed_text model ≡ text

-- the canonical text of the model of a tree is within the profile with that model, places aside, where the model can be
-- written and passes no limit, and the text's brackets nest no deeper than a text may
abbrev pub ModelsAreInProfile : Type 0
ModelsAreInProfile =
    (file : FileNo) (language : Language) (xs : Items) → AreFitting language Anywhere xs → AreCanonical xs
    → CanBeWritten (items_model file language xs) → limits (items_walk xs) ≡ []
    → NestsFew language (printed_text (items_model file language xs))
    → IsInProfile file language (printed_text (items_model file language xs)) (items_model file language xs)
