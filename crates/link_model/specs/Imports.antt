-- Imported and visible members, after KerML's Namespace::importedMemberships and visibleMemberships.
use Rattle.std.specs.Prelude.{ℕ, zero, suc, Bool, true, false, cond, nat_eq, ◌&&◌, ◌||◌, List, [], ◌∷◌, map, slice_get, Option, None, Some}
use Rattle.std.specs.Cmp.Lexicographic.{pointwise}
use Rattle.element_store.specs.declared.numbers.FileNo.{FileNo}
use Rattle.element_store.specs.declared.numbers.ElementNo.{ElementNo}
use Rattle.element_store.specs.declared.numbers.ImportNo.{ImportNo}
use Rattle.element_store.specs.declared.records.Target.{Target}
use Rattle.element_store.specs.declared.records.Target.TheVariants.{Owned, Alias}
use Rattle.element_store.specs.declared.records.Import.{Import}
use Rattle.element_store.specs.declared.records.Reference.{Reference}
use Rattle.element_store.specs.Numbers.{numbers_from}
use Rattle.element_store.specs.Model.{Data}
use Rattle.demand_core.specs.Computation.{done, ◌>>=◌, join, joined}
use Rattle.link_model.specs.declared.keys.Hit.{Hit}
use Rattle.link_model.specs.Keys.{is_in}
use Rattle.link_model.specs.Outside.{Library, is_public}
use Rattle.link_model.specs.Readers.{Lookup, most, is_nil, only_if, is_named, told, first_of, model, of_members, of_imports, key, target}
use Rattle.link_model.specs.Names.{names, declared, effective}
use Rattle.link_model.specs.Inheritance.{inherited_tier}

-- the member owns that element
abbrev pub owns : ℕ → Target → Bool
owns e (Owned c) = nat_eq c e
owns e (Alias r) = false

-- e with its owning member; a root has none
abbrev pub owning_hit : ElementNo → Lookup (List Hit)
owning_hit e = model e.file
    >>= λ d. done (map (λ k. record { member = record { file = e.file; index = k }; element = e })
    (numbers_from 0 (λ m. owns e.index m.target) d.members))

-- the last segment of a path
abbrev pub last_of : List ℕ → List (List ℕ) → List ℕ
last_of x [] = x
last_of x (y ∷ ys) = last_of y ys

-- the last written segment of an import
abbrev pub last_written : Data → Import → List ℕ
last_written d i = from_path (slice_get d.references i.reference)
  where
    from_path : Option Reference → List ℕ
    from_path None = []
    from_path (Some r) = last_of [] r.path

-- e, where x is the last written segment; or else where x and that segment both are among the names of e
abbrev pub under_name : List ℕ → List ℕ → ElementNo → Lookup (List Hit)
under_name x last e = cond (pointwise nat_eq x last) (owning_hit e)
    (names e >>= λ ns. cond (is_named x ns && is_named last ns) (owning_hit e) (done []))

-- the hits of public members, or with `all` every one
abbrev pub narrowed : Bool → List Hit → Lookup (List Hit)
narrowed all = joined (λ h. model h.member.file
    >>= λ d. told (slice_get d.members h.member.index) (λ m. done (only_if (all || is_public m.visibility) h)))

-- IMPORTED. What an import of the file f brings under the name x. A refused import brings nothing. `again recursive all
-- e` stands for what is visible in e.
abbrev pub brought : (Bool → Bool → ElementNo → Lookup (List Hit)) → List ℕ → FileNo → Import → Lookup (List Hit)
brought again x f i = model f >>= λ d. target (key f i.reference) >>= joined (λ e.
    cond i.star (again i.recursive i.all e)
    (join (under_name x (last_written d i) e) (cond i.recursive (again true i.all e) (done []))))

-- TIER 4. What certain imports of n bring, united.
abbrev pub import_tier : (Bool → Bool → ElementNo → Lookup (List Hit)) → (Import → Bool) → List ℕ → ElementNo
    → Lookup (List Hit)
import_tier again taken x n = of_imports (λ i. cond (taken i) (brought again x n.file i) (done [])) n

abbrev pub in_owned : (Bool → Bool → ElementNo → Lookup (List Hit)) → Bool → FileNo → Target → Lookup (List Hit)
in_owned again all f (Owned e) = again true all (record { file = f; index = e })
in_owned again all f (Alias r) = done []

-- what is visible in the elements that n owns by a public member, or with `all` by any
abbrev pub inside : (Bool → Bool → ElementNo → Lookup (List Hit)) → Bool → ElementNo → Lookup (List Hit)
inside again all n = of_members
    (λ k m. cond (all || is_public m.visibility) (in_owned again all n.file m.target) (done [])) n

module _ (lib : Library) where
  -- the first three tiers of n, each narrowed
  abbrev pub own_tiers : Bool → List ℕ → ElementNo → List (Lookup (List Hit))
  own_tiers all x n = (declared x n >>= narrowed all) ∷ (effective x n >>= narrowed all)
      ∷ (inherited_tier lib x n >>= narrowed all) ∷ []

  -- VISIBLE. The members of n that are visible under the name x: of the first of the four tiers that isn't empty;
  -- with `recursive` joined with those inside. An excluded namespace shows nothing, and n is excluded further on.
  unfoldable pub visible_from : ℕ → List ℕ → List ElementNo → Bool → Bool → ElementNo → Lookup (List Hit)
  visible_from zero x excluded recursive all n = done []
  visible_from (suc k) x excluded recursive all n =
      let again = visible_from k x (n ∷ excluded) in
      cond (is_in n excluded) (done [])
      (join
      (first_of (own_tiers all x n)
      >>= λ hs. cond (is_nil hs) (import_tier again (λ i. all || is_public i.visibility) x n) (done hs))
      (cond recursive (inside again all n) (done [])))

  abbrev pub visible : List ℕ → List ElementNo → Bool → Bool → ElementNo → Lookup (List Hit)
  visible x excluded recursive all n = visible_from most x excluded recursive all n

  -- what the import of that number brings under the name x, where these namespaces are excluded
  abbrev pub imported : List ℕ → List ElementNo → ImportNo → Lookup (List Hit)
  imported x excluded i = model i.file
      >>= λ d. told (slice_get d.imports i.index) (brought (visible x excluded) x i.file)
