-- What isn't visible.
use Rattle.std.specs.Prelude.{ℕ, Bool, false, not, List, slice_get, Option}
use Rattle.std.specs.Option.{option_map_or}
use Rattle.element_store.specs.declared.models.StoredFile.{StoredFile}
use Rattle.element_store.specs.declared.numbers.MemberNo.{MemberNo}
use Rattle.element_store.specs.declared.records.Member.{Member}
use Rattle.demand_core.specs.Computation.{done, ◌>>=◌, join}
use Rattle.link_model.specs.declared.keys.Hit.{Hit}
use Rattle.element_store.specs.declared.numbers.ElementNo.{ElementNo}
use Rattle.link_model.specs.declared.view.View.{View}
use Rattle.link_model.specs.Names.{declared, effective}
use Rattle.link_model.specs.Inheritance.{inherited_tier}
use Rattle.link_model.specs.Outside.{Library, library_of, model_in, is_public}
use Rattle.link_model.specs.Lexical.{ranked_hits, least_of}
use Rattle.link_model.specs.Readers.{Lookup}
use Rattle.link_model.specs.Asking.{Course, unseen, hidden_by}
use Rattle.link_model.specs.Asking.Course.{Ended}
use Rattle.link_walk.specs.Calls.{files_of}

-- the library of the files that are seen
abbrev pub library_in : View → Library
library_in v = library_of (files_of v)

-- the owned and inherited members that bear a name, whether they are visible or not
unfoldable pub bearing : Library → List ℕ → ElementNo → Lookup (List Hit)
bearing lib x e = join (declared x e) (join (effective x e) (inherited_tier lib x e))

-- the member that stands at a number, if one does
abbrev pub stored_member : List StoredFile → MemberNo → Option Member
stored_member files m = slice_get (model_in (slice_get files m.file.0)).members m.index

-- the member of the hit isn't public
abbrev pub is_unseen : List StoredFile → Hit → Bool
is_unseen files h = option_map_or (λ m. not (is_public m.visibility)) (stored_member files h.member) false

-- how a search ends that found nothing visible, of all hits of a name: hidden with the least that isn't public
abbrev pub hiding : ℕ → List Hit → Lookup Course
hiding number hs = unseen hs >>= ranked_hits >>= λ rs. done (Ended (hidden_by number (least_of rs)))

-- the same of what a lookup gives
abbrev pub hiding_all : ℕ → Lookup (List Hit) → Lookup Course
hiding_all number c = c >>= hiding number
