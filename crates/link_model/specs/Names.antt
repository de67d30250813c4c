-- Names of elements and the tiers of owned members, after KerML's Element::effectiveName and
-- Namespace::ownedMembership.
use Rattle.std.specs.Prelude.{ℕ, zero, suc, Bool, true, false, cond, not, List, [], ◌∷◌, ◌++◌, map, slice_get, Option}
use Rattle.element_store.specs.declared.numbers.FileNo.{FileNo}
use Rattle.element_store.specs.declared.numbers.ElementNo.{ElementNo}
use Rattle.element_store.specs.declared.numbers.MemberNo.{MemberNo}
use Rattle.element_store.specs.declared.outcome.Role.{Role}
use Rattle.element_store.specs.declared.outcome.Role.TheVariants as role
use Rattle.element_store.specs.declared.records.Member.{Member}
use Rattle.element_store.specs.declared.records.Target.{Target}
use Rattle.element_store.specs.declared.records.Target.TheVariants.{Owned, Alias}
use Rattle.element_store.specs.Kinds.{is_feature}
use Rattle.element_store.specs.Model.{bears}
use Rattle.demand_core.specs.Computation.{done, ◌>>=◌}
use Rattle.link_model.specs.declared.keys.LinkKey.{LinkKey}
use Rattle.link_model.specs.declared.keys.Hit.{Hit}
use Rattle.link_model.specs.Keys.{is_in}
use Rattle.link_model.specs.Readers.{Lookup, most, is_nil, only_if, listed, is_named, told, from_first, model, element, of_members, key, references_as, target}

abbrev pub is_redefinition : Role → Bool
is_redefinition role.Redefinition = true
is_redefinition other = false

-- the redefinitions that a feature owns, in order; what is no feature has none
abbrev pub redefinitions : ElementNo → Lookup (List LinkKey)
redefinitions f = element f >>= λ x. cond (is_feature x.kind) (references_as is_redefinition f) (done [])

-- the declared short name and the declared name, as far as there are any
abbrev pub declared_names : Option (List ℕ) → Option (List ℕ) → List (List ℕ)
declared_names short name = listed short ++ listed name

-- NAMES. The declared names of e. Where it has none, and is a feature with a redefinition, the names of what the
-- first one links to, in the same way. The walk ends without names at an element that was walked before and at a
-- refused link.
unfoldable pub names_from : ℕ → List ElementNo → ElementNo → Lookup (List (List ℕ))
names_from zero walked e = done []
names_from (suc n) walked e = element e >>= λ x.
    cond (not (is_nil (declared_names x.short x.name))) (done (declared_names x.short x.name))
    (cond (is_in e walked) (done [])
    (redefinitions e >>= from_first (λ r. target r >>= from_first (names_from n (e ∷ walked)))))

abbrev pub names : ElementNo → Lookup (List (List ℕ))
names e = names_from most [] e

-- HITS. Where a member leads: an owned one to its element, an alias to the target of its reference. A refused alias
-- leads nowhere.
abbrev pub leads_to : FileNo → Target → Lookup (List ElementNo)
leads_to f (Owned e) = done (record { file = f; index = e } ∷ [])
leads_to f (Alias r) = target (key f r)

-- where the member of that number leads
abbrev pub member_element : MemberNo → Lookup (List ElementNo)
member_element m = model m.file >>= λ d. told (slice_get d.members m.index) (λ x. leads_to m.file x.target)

-- the hit of a member, by its number in its file
abbrev pub hit : FileNo → ℕ → Member → Lookup (List Hit)
hit f k m = leads_to f m.target
    >>= λ es. done (map (λ e. record { member = record { file = f; index = k }; element = e }) es)

-- its hit, if it bears x as a declared name
abbrev pub declared_hit : List ℕ → FileNo → ℕ → Member → Lookup (List Hit)
declared_hit x f k m = cond (bears x m) (hit f k m) (done [])

-- the hit of a member whose element is named x, if that is its own
abbrev pub hit_named : List ℕ → FileNo → ℕ → Target → Lookup (List Hit)
hit_named x f k (Owned e) = names (record { file = f; index = e }) >>= λ ns.
    done (only_if (is_named x ns)
    (record { member = record { file = f; index = k }; element = record { file = f; index = e } }))
hit_named x f k (Alias r) = done []

-- its hit, if it is owned, its element has no declared name, and x is one of the element's names all the same
abbrev pub effective_hit : List ℕ → FileNo → ℕ → Member → Lookup (List Hit)
effective_hit x f k m = cond (is_nil (declared_names m.short m.name)) (hit_named x f k m.target) (done [])

-- TIER 1. The hits of those members of n that bear x as a declared name.
abbrev pub declared : List ℕ → ElementNo → Lookup (List Hit)
declared x n = of_members (declared_hit x n.file) n

-- TIER 2. The hits of those owned members of n whose element has no declared name and is named x.
abbrev pub effective : List ℕ → ElementNo → Lookup (List Hit)
effective x n = of_members (effective_hit x n.file) n
