-- Features that stand for another one in a target, by the members of types.
use Rattle.std.specs.Prelude.{◌≡◌, ℕ, ◌<◌, true, Bool, List, [], length, get_or, Some, slice_get}
use Rattle.element_store.specs.declared.numbers.ElementNo.{ElementNo}
use Rattle.element_store.specs.declared.numbers.FileNo.{FileNo}
use Rattle.element_store.specs.declared.outcome.Role.{Role}
use Rattle.element_store.specs.declared.records.Member.{Member}
use Rattle.element_store.specs.declared.records.Target.TheVariants.{Owned}
use Rattle.element_store.specs.BaseRules.{model_of}
use Rattle.element_store.specs.Condition.{IsModel, members_of}
use Rattle.element_store.specs.Model.{Data, root_element}
use Rattle.element_store.specs.Numbers.{those_where}
use Rattle.link_model.specs.declared.view.View.{View}
use Rattle.link_model.specs.Keys.{same_element}
use Rattle.link_model.specs.Readers.{LinkWorld}
use Rattle.link_walk.specs.Calls.{files_of}
use Rattle.link_walk.specs.Wanted.{references_in}
use Rattle.value_model.specs.Meant.{model_at, feature_at, owned_at, owned_features, stands_for}

-- in this model nothing has the number: it owns no member and no reference, and reads as a root
pub record IsUnused (d : Data) (e : ElementNo) : Type 0 where
  pub members : members_of d e.index ≡ []
  pub references : (fits : Role → Bool) → references_in fits d e ≡ []
  pub element : get_or d.elements e.index root_element ≡ root_element

-- the element stands nowhere
abbrev pub IsNowhere : LinkWorld → ElementNo → Type 0
IsNowhere w e = IsUnused (model_at w e.file) e

-- the element stands in this model, which is that of its file
pub record IsHome (v : View) (e : ElementNo) (d : Data) : Type 0 where
  pub stored : model_of (files_of v) e.file.0 ≡ Some d
  pub within : e.index < length d.elements
  pub whole : IsModel d

-- the member of that number owns f, and h owns the member
pub record IsOwn (d : Data) (h f : ElementNo) (k : ℕ) : Type 0 where
  pub member : Member
  pub at : slice_get d.members k ≡ Some member
  pub target : member.target ≡ Owned f.index
  pub owner : same_element (record { file = f.file; index = member.owner }) h ≡ true

-- the feature of a member, if it stands for f
abbrev pub standing_at : LinkWorld → ElementNo → FileNo → ℕ → List ElementNo
standing_at w f file k =
    those_where (stands_for w f) (those_where (feature_at w) (owned_at file (slice_get (model_at w file).members k)))

-- the features that a type owns which stand for f
abbrev pub standing_in : LinkWorld → ElementNo → ElementNo → List ElementNo
standing_in w f h = those_where (stands_for w f) (owned_features w h)
