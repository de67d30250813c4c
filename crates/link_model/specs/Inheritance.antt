-- Generals, redefined features and inherited members, after KerML's Type::inheritedMemberships, inheritableMemberships,
-- nonPrivateMemberships and removeRedefinedFeatures.
use Rattle.std.specs.Prelude.{ℕ, Bool, true, false, cond, not, ◌&&◌, ◌||◌, List, [], ◌∷◌, ◌++◌, map, get_or, Option, None, Some}
use Rattle.std.specs.List.{list_any}
use Rattle.std.specs.Option.{option_and_then}
use Rattle.element_store.specs.declared.numbers.ElementNo.{ElementNo}
use Rattle.element_store.specs.declared.outcome.Role.{Role}
use Rattle.element_store.specs.declared.outcome.Role.TheVariants as role
use Rattle.element_store.specs.declared.records.Element.{Element}
use Rattle.element_store.specs.declared.records.Member.{Member}
use Rattle.element_store.specs.declared.records.Target.{Target}
use Rattle.element_store.specs.declared.records.Target.TheVariants.{Owned, Alias}
use Rattle.element_store.specs.Kinds.{is_type, is_feature, is_enumeration}
use Rattle.element_store.specs.Model.{Data, root_element}
use Rattle.element_store.specs.BaseRules.{first_of as this_or}
use Rattle.demand_core.specs.Computation.{done, ◌>>=◌, both, join, joined}
use Rattle.demand_core.specs.Gather.{follow}
use Rattle.link_model.specs.declared.keys.LinkKey.{LinkKey}
use Rattle.link_model.specs.declared.keys.Hit.{Hit}
use Rattle.link_model.specs.Keys.{same_element, is_in}
use Rattle.link_model.specs.Outside.{Library, is_private}
use Rattle.link_model.specs.Readers.{Lookup, most, is_nil, only_if, element, model, of_members, references_as, target}
use Rattle.link_model.specs.Names.{redefinitions, declared_hit, effective_hit}

-- ALL REDEFINED. The targets of the redefinitions of f, and those of the redefinitions of each feature among them, and
-- so on.
abbrev pub all_redefined : ElementNo → Lookup (List ElementNo)
all_redefined f = follow same_element redefinitions target most f

-- the roles of references that lead to generals
abbrev pub is_specialisation : Role → Bool
is_specialisation role.Subclass = true
is_specialisation role.Typing = true
is_specialisation role.Subsetting = true
is_specialisation role.ReferenceSubsetting = true
is_specialisation role.Redefinition = true
is_specialisation other = false

-- a general comes by a reference, or is the base
pub data Link : Type 0 where
  ByReference : LinkKey → Link
  ToBase : ElementNo → Link

-- those of the elements that are types
abbrev pub types_among : List ElementNo → Lookup (List ElementNo)
types_among = joined (λ e. element e >>= λ x. done (only_if (is_type x.kind) e))

-- where a link leads
abbrev pub general : Link → Lookup (List ElementNo)
general (ByReference r) = target r >>= types_among
general (ToBase b) = element b >>= λ x. done (b ∷ [])

-- an enumerated value is a feature that an enumeration definition owns
abbrev pub enumeration : Data → ElementNo → Element → Option ElementNo
enumeration d e x = option_and_then
    (λ o. cond (is_feature x.kind && is_enumeration (get_or d.elements o root_element).kind)
    (Some (record { file = e.file; index = o })) None) x.owner

-- the link to the base, where there is one and it is another element
abbrev pub base_link : ElementNo → Option ElementNo → List Link
base_link t None = []
base_link t (Some b) = cond (same_element b t) [] (ToBase b ∷ [])

-- a candidate: a hit, and the type that owns its member
pub record Candidate : Type 0 where
  pub owner : ElementNo
  pub hit : Hit

-- A feature of an owner redefines this element, directly by one of its redefinitions or on the way; `hidden` tells that
-- its member is private.
pub record Redefines : Type 0 where
  pub owner : ElementNo
  pub feature : ElementNo
  pub hidden : Bool
  pub direct : Bool
  pub redefined : ElementNo

-- a feature that a candidate's element redefines
pub record Removal : Type 0 where
  pub of : ElementNo
  pub redefined : ElementNo

-- a candidate of the owner s: the hit of a member that isn't private and bears x by declared or effective names
abbrev pub candidate : List ℕ → ElementNo → ℕ → Member → Lookup (List Candidate)
candidate x s k m = cond (is_private m.visibility) (done [])
    (join (declared_hit x s.file k m) (effective_hit x s.file k m)
    >>= λ hs. done (map (λ h. record { owner = s; hit = h }) hs))

-- STAGE TWO: the candidates of the types us, t itself left out
abbrev pub candidates : List ℕ → ElementNo → List ElementNo → Lookup (List Candidate)
candidates x t = joined (λ s. cond (same_element s t) (done []) (of_members (candidate x s) s))

abbrev pub redefines : ElementNo → ElementNo → Bool → Bool → ElementNo → Redefines
redefines u f hidden direct g = record { owner = u; feature = f; hidden = hidden; direct = direct; redefined = g }

-- what f redefines, if it is a feature: directly, and on the way
abbrev pub redefined_of : ElementNo → Bool → ElementNo → Lookup (List Redefines)
redefined_of u hidden f = element f >>= λ x. cond (is_feature x.kind)
    (join (redefinitions f >>= joined target >>= λ gs. done (map (redefines u f hidden true) gs))
    (all_redefined f >>= λ gs. done (map (redefines u f hidden false) gs)))
    (done [])

-- what a member's own element redefines
abbrev pub redefined_by : ElementNo → Bool → Target → Lookup (List Redefines)
redefined_by u hidden (Owned e) = redefined_of u hidden (record { file = u.file; index = e })
redefined_by u hidden (Alias r) = done []

-- STAGE THREE, first part: what the features of u redefine. With `raw` those of t are passed over.
abbrev pub redefiners : Bool → ElementNo → ElementNo → Lookup (List Redefines)
redefiners raw t u = cond (raw && same_element u t) (done [])
    (of_members (λ k m. redefined_by u (is_private m.visibility) m.target) u)

abbrev pub is_owned_by : ElementNo → ElementNo → Option ℕ → Bool
is_owned_by t e None = false
is_owned_by t e (Some o) = same_element (record { file = e.file; index = o }) t

-- STAGE THREE, second part: the features that a candidate's element redefines. With `raw` one that t owns redefines
-- nothing.
abbrev pub removals : Bool → ElementNo → Candidate → Lookup (List Removal)
removals raw t c = element c.hit.element >>= λ x. cond (raw && is_owned_by t c.hit.element x.owner) (done [])
    (all_redefined c.hit.element
    >>= joined (λ g. element g
    >>= λ y. done (only_if (is_feature y.kind) (record { of = c.hit.element; redefined = g }))))

-- g is e, or a feature that e redefines
abbrev pub is_removed_with : List Removal → ElementNo → ElementNo → Bool
is_removed_with ps e g = same_element e g || list_any (λ p. same_element p.of e && same_element p.redefined g) ps

-- u owns a feature one of whose redefinitions links to e, or to a feature that e redefines
abbrev pub blocks : List Redefines → List Removal → ElementNo → ElementNo → Bool
blocks rs ps e u = list_any (λ r. r.direct && same_element r.owner u && is_removed_with ps e r.redefined) rs

-- another feature, whose member isn't private and whose owner is reached, has e among its redefined ones
abbrev pub is_redefined_elsewhere : List ElementNo → List Redefines → ElementNo → Bool
is_redefined_elsewhere us rs e =
    list_any (λ r. not r.direct && not (same_element r.feature e) && same_element r.redefined e && not r.hidden
    && is_in r.owner us) rs

module _ (lib : Library) where
  -- the base of the element: of an enumerated value its owner, of others that of their kind
  abbrev pub base : Data → ElementNo → Element → Option ElementNo
  base d e x = this_or (enumeration d e x) (lib.base x.kind)

  -- the links to the generals of t: its references of those roles, and its base
  abbrev pub general_links : ElementNo → Lookup (List Link)
  general_links t = references_as is_specialisation t >>= λ rs. model t.file >>= λ d.
      done (map ByReference rs ++ base_link t (base d t (get_or d.elements t.index root_element)))

  -- GENERALS. The linked targets of its specialisations, where they are types, and its base: parts of one stage.
  abbrev pub generals : ElementNo → Lookup (List ElementNo)
  generals t = general_links t >>= joined general

  -- STAGE ONE: the types reached from t by one general or more
  abbrev pub reached : ElementNo → Lookup (List ElementNo)
  reached t = follow same_element general_links general most t

  -- the types to which a chain leads from t on which no type before the last blocks e
  abbrev pub unblocked : List Redefines → List Removal → ElementNo → ElementNo → Lookup (List ElementNo)
  unblocked rs ps e t = follow same_element (λ u. cond (blocks rs ps e u) (done []) (general_links u)) general most t

  -- a candidate stays where no other feature redefines its element and its owner is reached by such a chain
  abbrev pub stays : List ElementNo → ElementNo → List Redefines → List Removal → Candidate → Lookup (List Hit)
  stays us t rs ps c = cond (is_redefined_elsewhere us rs c.hit.element) (done [])
      (unblocked rs ps c.hit.element t >>= λ vs. done (only_if (is_in c.owner vs) c.hit))

  -- INHERITED. What t inherits under the name x; with `raw` as if the features that t owns redefined nothing.
  abbrev pub inherited : Bool → List ℕ → ElementNo → Lookup (List Hit)
  inherited raw x t =
      reached t >>= λ us.
      candidates x t us >>= λ cs.
      cond (is_nil cs) (done [])
      (both (joined (redefiners raw t) (t ∷ us)) (joined (removals raw t) cs) >>= λ p. joined (stays us t p.0 p.1) cs)

  -- TIER 3. What n inherits, if it is a type.
  abbrev pub inherited_tier : List ℕ → ElementNo → Lookup (List Hit)
  inherited_tier x n = element n >>= λ e. cond (is_type e.kind) (inherited false x n) (done [])
