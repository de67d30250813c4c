-- What becomes of a reference, after KerML's name resolution (8.2.3.5): Namespace::resolve and resolveVisible.
use Rattle.std.specs.Prelude.{ℕ, suc, ◌-◌, Bool, true, false, cond, not, List, [], ◌∷◌, ◌++◌, drop, length, get_or, slice_get, Option, None, Some}
use Rattle.element_store.specs.declared.numbers.ElementNo.{ElementNo}
use Rattle.element_store.specs.declared.numbers.RefNo.{RefNo}
use Rattle.element_store.specs.declared.outcome.Role.{Role}
use Rattle.element_store.specs.declared.outcome.Role.TheVariants as role
use Rattle.element_store.specs.declared.outcome.Outcome.{Outcome}
use Rattle.element_store.specs.declared.outcome.Outcome.TheVariants.{Linked, Absent, Ambiguous, Hidden}
use Rattle.element_store.specs.declared.records.Reference.{Reference}
use Rattle.element_store.specs.declared.models.StoredFile.{StoredFile}
use Rattle.element_store.specs.Kinds.{is_type}
use Rattle.element_store.specs.Model.{Data, root_element}
use Rattle.demand_core.specs.Computation.{done, look, ◌>>=◌, join, joined}
use Rattle.link_model.specs.declared.keys.Hit.{Hit}
use Rattle.link_model.specs.declared.keys.LinkFact.TheVariants.{File}
use Rattle.link_model.specs.Outside.{Library, model_in, is_public}
use Rattle.link_model.specs.Readers.{Lookup, only_if, told, first_of, model}
use Rattle.link_model.specs.Names.{declared, effective}
use Rattle.link_model.specs.Inheritance.{inherited, inherited_tier}
use Rattle.link_model.specs.Imports.{visible}
use Rattle.link_model.specs.Lexical.{Ranked, least_of, ranked_hits, Picked, pick, outward, owners, tiers, imports_of_all, imports_before, last_tiers, lexical}
use Rattle.link_model.specs.Lexical.Picked.{Nothing, One, Several}

abbrev pub is_library : Option StoredFile → Bool
is_library None = false
is_library (Some s) = s.library

-- the elements found at the segments and steps of a name, in order, or how the search ended
pub data Course : Type 0 where
  Reached : List ElementNo → Course
  Ended : Outcome → Course

abbrev pub behind : ElementNo → Course → Course
behind e (Reached es) = Reached (e ∷ es)
behind e (Ended o) = Ended o

-- the hits of members that aren't public
abbrev pub unseen : List Hit → Lookup (List Hit)
unseen = joined (λ h. model h.member.file
    >>= λ d. told (slice_get d.members h.member.index) (λ m. done (only_if (not (is_public m.visibility)) h)))

abbrev pub hidden_by : ℕ → Option (Ranked Hit) → Outcome
hidden_by number None = Absent number
hidden_by number (Some h) = Hidden number h.item.member

-- a linked outcome, from the element of the path's last segment on: it carries the elements before the final one
abbrev pub linked_with : List ElementNo → ElementNo → List ElementNo → Outcome
linked_with steps e [] = Linked steps e
linked_with steps e (f ∷ fs) = linked_with (steps ++ e ∷ []) f fs

abbrev pub linked : List ElementNo → Outcome
linked [] = Absent 1
linked (e ∷ es) = linked_with [] e es

-- the outcome of a course, for a path of so many segments
abbrev pub outcome_of : ℕ → Course → Outcome
outcome_of segments (Reached es) = linked (drop (segments - 1) es)
outcome_of segments (Ended o) = o

-- what a course found, if it didn't end
abbrev pub elements_on : Course → List ElementNo
elements_on (Reached es) = es
elements_on (Ended o) = []

-- What follows a pick for the segment or step of that number: `again` goes on from the one element, `nothing` stands
-- for what becomes of none.
abbrev pub met : (ElementNo → Lookup Course) → Lookup Course → ℕ → Picked → Lookup Course
met again nothing number Nothing = nothing
met again nothing number (One e) = again e >>= λ c. done (behind e c)
met again nothing number (Several first second) = done (Ended (Ambiguous number first second))

-- what is told of the reference that stands there, in which file and model; without one the first
abbrev pub in_model : {A : Type 0} → A → (Bool → Data → Reference → Lookup A) → Bool → Data → Option Reference
    → Lookup A
in_model x f library d None = done x
in_model x f library d (Some ref) = f library d ref

abbrev pub of_reference : {A : Type 0} → A → (Bool → Data → Reference → Lookup A) → RefNo → Lookup A
of_reference x f r = look (File r.file)
    >>= λ s. in_model x f (is_library s) (model_in s) (slice_get (model_in s).references r.index)

module _ (lib : Library) where
  -- Nothing visible is named x in e: hidden with the least of its owned and inherited members of that name that isn't
  -- public, otherwise absent.
  abbrev pub nothing_visible : ℕ → List ℕ → ElementNo → Lookup Course
  nothing_visible number x e =
      join (declared x e) (join (effective x e) (inherited_tier lib x e)) >>= unseen >>= ranked_hits
      >>= λ rs. done (Ended (hidden_by number (least_of rs)))

  -- LATER SEGMENTS AND STEPS, the first of which has that number: each is picked from what is visible in the element
  -- found before.
  abbrev pub later : ℕ → List (List ℕ) → ElementNo → Lookup Course
  later number [] e = done (Reached [])
  later number (x ∷ xs) e =
      visible lib x [] false false e >>= pick >>= met (later (suc number) xs) (nothing_visible number x e) number

  -- A whole name: its first segment is picked from the first tier that isn't empty.
  abbrev pub along : List (Lookup (List Hit)) → List (List ℕ) → Lookup Course
  along tiers more = first_of tiers >>= pick >>= met (later 2 more) (done (Ended (Absent 1))) 1

  -- A redefinition begins with what the owning type inherits as if its own features redefined nothing, and then at
  -- that type's owner; where the owner is no type, in the owner without its second tier, and then at the owner's
  -- owner.
  abbrev pub from_owner : Bool → List ℕ → Data → List ElementNo → List (Lookup (List Hit))
  from_owner library x d [] = last_tiers lib library x
  from_owner library x d (o ∷ os) = cond (is_type (get_or d.elements o.index root_element).kind)
      (inherited lib true x o ∷ [])
      (declared x o ∷ inherited_tier lib x o ∷ imports_of_all lib x o ∷ [])
      ++ lexical lib library x os

  -- An import begins in its namespace, with those imports alone that are written before it, and then at the namespace's
  -- owner.
  abbrev pub from_body : Bool → List ℕ → ℕ → List ElementNo → List (Lookup (List Hit))
  from_body library x r [] = last_tiers lib library x
  from_body library x r (n ∷ os) =
      (declared x n ∷ effective x n ∷ inherited_tier lib x n ∷ imports_before lib r x n ∷ [])
      ++ lexical lib library x os

  -- THE START of each role: the tiers in which the first segment x is looked up, for the reference of the number r
  -- whose context is e
  abbrev pub start : Role → Bool → List ℕ → Data → ℕ → ElementNo → List (Lookup (List Hit))
  start role.Subclass library x d r e = lexical lib library x (owners d e)
  start role.Typing library x d r e = lexical lib library x (owners d e)
  start role.Subsetting library x d r e = lexical lib library x (owners d e)
  start role.ReferenceSubsetting library x d r e = lexical lib library x (owners d e)
  start role.Redefinition library x d r e = from_owner library x d (owners d e)
  start role.Import library x d r e = from_body library x r (outward d e)
  start role.Alias library x d r e = lexical lib library x (outward d e)
  start role.About library x d r e = lexical lib library x (owners d e)
  start role.Value library x d r e = lexical lib library x (outward d e)
  start role.Bound library x d r e = lexical lib library x (outward d e)

  -- with `$::` the last two tiers alone
  abbrev pub first_tiers : Reference → Bool → List ℕ → Data → RefNo → List (Lookup (List Hit))
  first_tiers ref library x d r =
      cond ref.absolute (last_tiers lib library x)
      (start ref.role library x d r.index (record { file = r.file; index = ref.context }))

  -- the course of a reference: of its path, and then of its chain
  abbrev pub course_from : RefNo → Bool → Data → Reference → List (List ℕ) → Lookup Course
  course_from r library d ref [] = done (Ended (Absent 1))
  course_from r library d ref (x ∷ xs) = along (first_tiers ref library x d r) (xs ++ ref.chain)

  abbrev pub course : RefNo → Bool → Data → Reference → Lookup Course
  course r library d ref = course_from r library d ref ref.path

  -- ASK. The outcome of a reference.
  abbrev pub ask : RefNo → Lookup Outcome
  ask r = of_reference (Absent 1)
      (λ library d ref. course r library d ref >>= λ c. done (outcome_of (length ref.path) c)) r

  -- PATH ELEMENTS. The elements at the segments and steps of a linked reference; none for another.
  abbrev pub path_elements : RefNo → Lookup (List ElementNo)
  path_elements r = of_reference [] (λ library d ref. course r library d ref >>= λ c. done (elements_on c)) r

  -- a qualified name from outside, as from a project file
  abbrev pub find_by : List (List ℕ) → Lookup Outcome
  find_by [] = done (Absent 1)
  find_by (x ∷ xs) = along (last_tiers lib false x) xs >>= λ c. done (outcome_of (suc (length xs)) c)
