-- Names, each with the members that stand under it, and whether they are the public members of the roots of files;
-- after KerML's resolution of names in the global namespace (8.2.3.5).
use Rattle.std.specs.Prelude.{◌≡◌, ℕ, nat_eq, List, [], Vec, Some, None, slice_get}
use Rattle.std.specs.declared.alloc.Global.{Global}
use Rattle.std.specs.Map.{lookup}
use Rattle.std.specs.Option.{option_map_or}
use Rattle.std.specs.Cmp.Lexicographic.{pointwise}
use Rattle.element_store.specs.declared.numbers.MemberNo.{MemberNo}
use Rattle.element_store.specs.declared.models.StoredFile.{StoredFile}
use Rattle.link_model.specs.Outside.{project_roots, library_roots}

-- names, each with the members that stand under it
abbrev pub Entries : Type 0
Entries = List (Vec ℕ Global × Vec MemberNo Global)

-- the members that stand under a name; none, where the name isn't there
abbrev pub bearing : Entries → List ℕ → List MemberNo
bearing names x = option_map_or (λ v. v.items) (lookup (λ k. pointwise nat_eq x k.items) names) []

-- names of the roots of project files, and of those of library files
pub record Tables : Type 0 where
  pub project : Entries
  pub library : Entries

-- under each name stand the public members of the roots of these files that bear it, least first
pub record AreRootsOf (files : List StoredFile) (t : Tables) : Type 0 where
  pub project : (x : List ℕ) → bearing t.project x ≡ project_roots files x
  pub library : (x : List ℕ) → bearing t.library x ≡ library_roots files x

-- no file has a model
abbrev pub HaveNoModel : List StoredFile → Type 0
HaveNoModel files = (f : ℕ) (s : StoredFile) → slice_get files f ≡ Some s → s.model ≡ None
