-- Where items begin, and the visibility words before them.
use Rattle.std.specs.Prelude.{◌≡◌, ℕ, Option, Some, None, List, [], ◌∷◌, ◌++◌, map}
use Rattle.std.specs.Option.{unwrap_or}
use Rattle.element_store.specs.declared.numbers.FileNo.{FileNo}
use Rattle.element_store.specs.declared.kind.Visibility.{Visibility}
use Rattle.element_store.specs.declared.kind.Visibility.TheVariants.{Public, Private}
use Rattle.element_store.specs.declared.outcome.Language.{Language}
use Rattle.element_store.specs.Model.{Data}
use Rattle.token_core.specs.declared.token.Token.{Token}
use Rattle.ll_core.specs.Derives.{Forest, Nothing, Token as Leaf, Node, tokens as kinds_in}
use Rattle.text_model.specs.declared.action.Action.{Action}
use Rattle.text_model.specs.declared.action.Action.TheVariants.{Element, Take}
use Rattle.text_model.specs.declared.action.Taking.TheVariants as taking
use Rattle.text_model.specs.declared.action.Meaning.{Meaning}
use Rattle.text_model.specs.declared.action.Meaning.TheVariants as meaning
use Rattle.text_model.specs.declared.draft.Seen.{Seen}
use Rattle.text_model.specs.Tables.{Tables, tables, action_at, meaning_of}
use Rattle.text_model.specs.Walk.{begun_place, begun_visibility}
use Rattle.text_model.specs.Profile.{IsRead, InProfile}
use Rattle.text_laws.specs.Written.{behind}

-- the last of so many tokens, or the one before them
abbrev pub last_in : Option Token → List ℕ → List Token → Option Token
last_in before [] ts = before
last_in before (k ∷ ks) [] = before
last_in before (k ∷ ks) (x ∷ ts) = last_in (Some x) ks ts

-- a token that is a visibility word
abbrev pub seen_by : Meaning → Token → Option Seen
seen_by (meaning.Visibility v) x = Some (record { place = x.from; visibility = v })
seen_by other x = None

-- the visibility word that stands directly before
abbrev pub seen_before : Tables → Option Token → Option Seen
seen_before t None = None
seen_before t (Some x) = seen_by (meaning_of t x.kind) x

-- where an item begins, and its visibility word
pub record Start : Type 0 where
  pub place : ℕ
  pub visibility : Option Visibility

-- at the visibility word directly before its production, or else at the production's first token
abbrev pub start_of : Tables → Option Token → List Token → Start
start_of t before ts = record {
  place = begun_place (seen_before t before) ts;
  visibility = begun_visibility (seen_before t before);
}

-- where a production is an element's
abbrev pub if_element : Action → Start → List Start
if_element (Element k) s = s ∷ []
if_element other s = []

-- where it is an alias's
abbrev pub if_alias : Action → Start → List Start
if_alias (Take taking.Alias) s = s ∷ []
if_alias other s = []

-- where it is an import's
abbrev pub if_import : Action → Start → List Start
if_import (Take taking.Import) s = s ∷ []
if_import other s = []

-- the beginnings of the members of a forest, in text order, where this token stands before it
abbrev pub member_starts : Tables → Option Token → Forest → List Token → List Start
member_starts t before Nothing ts = []
member_starts t before (Leaf k f) ts = member_starts t (last_in before (k ∷ []) ts) f (behind (Leaf k Nothing) ts)
member_starts t before (Node p below f) ts =
    if_element (action_at t p) (start_of t before ts) ++ (member_starts t before below ts
    ++ (if_alias (action_at t p) (start_of t before ts)
    ++ member_starts t (last_in before (kinds_in below) ts) f (behind below ts)))

-- and of its imports
abbrev pub import_starts : Tables → Option Token → Forest → List Token → List Start
import_starts t before Nothing ts = []
import_starts t before (Leaf k f) ts = import_starts t (last_in before (k ∷ []) ts) f (behind (Leaf k Nothing) ts)
import_starts t before (Node p below f) ts =
    import_starts t before below ts ++ (if_import (action_at t p) (start_of t before ts)
    ++ import_starts t (last_in before (kinds_in below) ts) f (behind below ts))

-- each member of a model stands where its item begins, and is public unless the word there says otherwise; an import is
-- private unless its word says otherwise
pub record HasWrittenStarts (t : Tables) (f : Forest) (tokens : List Token) (d : Data) : Type 0 where
  pub places : d.member_places ≡ map (λ s. s.place) (member_starts t None f tokens)
  pub members : map (λ m. m.visibility) d.members
      ≡ map (λ s. unwrap_or s.visibility Public) (member_starts t None f tokens)
  pub imports : map (λ i. i.visibility) d.imports
      ≡ map (λ s. unwrap_or s.visibility Private) (import_starts t None f tokens)

-- so it is of every text
abbrev pub StartsAreWritten : Type 0
StartsAreWritten =
    (file : FileNo) (language : Language) (text : List ℕ) (d : Data) (tokens : List Token) (tree : Forest)
    → InProfile file language text d → IsRead language text tokens tree
    → HasWrittenStarts (tables language) tree tokens d
