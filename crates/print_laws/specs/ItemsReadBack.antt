-- What it means that a tree of items is read back.
use Rattle.std.specs.Prelude.{◌≡◌, ℕ, None, List, [], ◌∷◌, map}
use Rattle.element_store.specs.declared.kind.Kind.TheVariants.{Root}
use Rattle.element_store.specs.declared.outcome.Language.{Language}
use Rattle.token_core.specs.declared.token.Token.{Token}
use Rattle.ll_core.specs.Derives.{Forest, IsTree}
use Rattle.text_model.specs.Languages.{grammar_of}
use Rattle.text_model.specs.Drafts.{draft}
use Rattle.text_model.specs.Walk.{Walk, fresh}
use Rattle.text_model.specs.Profile.{kinds_of, drafts_of}
use Rattle.print_model.specs.Printed.{heard}
use Rattle.print_model.specs.Unplaced.{bare, seen}
use Rattle.print_laws.specs.Items.{Items}
use Rattle.print_laws.specs.ItemTokens.{tokens}
use Rattle.print_laws.specs.ItemWalk.{Grown, grow}
use Rattle.print_laws.specs.Fitting.{Anywhere, AreFitting}

-- the root alone
abbrev pub rooted : Grown
rooted = record { self = draft Root None; others = []; members = []; imports = [] }

-- the drafts, the members and the imports of the items of a text, at no place
abbrev pub items_walk : Items → Walk
items_walk xs = record {
  elements = (grow 0 xs rooted).self ∷ (grow 0 xs rooted).others;
  members = (grow 0 xs rooted).members;
  imports = (grow 0 xs rooted).imports;
  current = 0;
  waiting = None;
  reading = fresh;
  large = [];
  rest = [];
}

-- the tokens have a tree of the grammar, and the walk over it makes the drafts of the items, places aside
pub record AreReadBack (language : Language) (xs : Items) (text : List ℕ) (ts : List Token) : Type 0 where
  pub forest : Forest
  pub derived : IsTree (grammar_of language) (kinds_of ts) forest
  pub walked : bare (drafts_of language text ts forest) ≡ items_walk xs

-- wherever the tokens of a text are those of a tree of items that fits
abbrev pub ItemsReadBack : Type 0
ItemsReadBack =
    (language : Language) (xs : Items) (text : List ℕ) (ts : List Token)
    → AreFitting language Anywhere xs → map (seen text) ts ≡ map heard (tokens language xs)
    → AreReadBack language xs text ts
