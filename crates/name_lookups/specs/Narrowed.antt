-- Hits of public members.
use Rattle.std.specs.Prelude.{◌||◌, Bool, List, slice_get}
use Rattle.linker_base.specs.Members.{IsMember}
use Rattle.demand_core.specs.Computation.{done, ◌>>=◌, IsRegular}
use Rattle.element_store.specs.declared.models.StoredFile.{StoredFile}
use Rattle.link_model.specs.declared.keys.Hit.{Hit}
use Rattle.link_model.specs.Imports.{narrowed}
use Rattle.link_model.specs.Linking.{MemberStands}
use Rattle.link_model.specs.Outside.{is_public}
use Rattle.link_model.specs.Readers.{Lookup, only_if, told, model}

-- the hit, if its member is public, or with `all` whatever it is
abbrev pub narrowed_hit : Bool → Hit → Lookup (List Hit)
narrowed_hit all h = model h.member.file
    >>= λ d. told (slice_get d.members h.member.index) (λ m. done (only_if (all || is_public m.visibility) h))

-- the members of the hits stand
abbrev pub MembersStand : List StoredFile → List Hit → Type 0
MembersStand files hs = (h : Hit) → IsMember hs h → MemberStands files h.member

-- the three laws of computations hold of a lookup: a word for clauses, where its facts have no type to be told by
abbrev pub IsRegularLookup : {A : Type 0} → Lookup A → Type 0
IsRegularLookup c = IsRegular c

-- a tier narrowed to the hits of public members, or with `all` to every one
abbrev pub narrowed_tier : Bool → Lookup (List Hit) → Lookup (List Hit)
narrowed_tier all tier = tier >>= narrowed all
