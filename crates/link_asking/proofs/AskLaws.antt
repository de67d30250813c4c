-- The outcome of a reference, and of a name from outside.
use Rattle.std.proofs.Common.{◌≡◌, ◌∙◌, ℕ, ◌+◌, ◌<◌, ◌≤◌, Bool, true, false, List, [], ◌∷◌, ◌++◌, length, drop, get_or, refl, sym, ap, subst, inl, inr, append-nil, length-append, arith}
use Rattle.std.specs.Prelude.{◌^◌, zero, suc, slice_get, nat_le, nat_lt, ◌&&◌, Option, None, Some}
use Rattle.std.specs.Option.{option_map}
use Rattle.std.proofs.lemmas.Bool.Decides.{nat_tests}
use Rattle.linker_base.proofs.Cases.{both_true}
use Rattle.demand_core.specs.Computation.{done, look, ◌>>=◌}
use Rattle.demand_core.specs.Search.{IsAsked}
use Rattle.demand_core.specs.declared.looks.Fact.TheVariants.{Outer}
use Rattle.element_store.specs.declared.numbers.ElementNo.{ElementNo}
use Rattle.element_store.specs.declared.numbers.RefNo.{RefNo}
use Rattle.element_store.specs.declared.outcome.Outcome.{Outcome}
use Rattle.element_store.specs.declared.outcome.Outcome.TheVariants.{Absent}
use Rattle.element_store.specs.declared.records.Reference.{Reference}
use Rattle.element_store.specs.declared.models.StoredFile.{StoredFile}
use Rattle.element_store.specs.BaseRules.{model_of}
use Rattle.element_store.specs.Condition.{IsModel, has_path}
use Rattle.element_store.specs.Model.{Data}
use Rattle.element_store.proofs.ModelLaws.{all_at}
use Rattle.link_model.specs.declared.keys.Hit.{Hit}
use Rattle.link_model.specs.declared.keys.LinkFact.TheVariants.{File}
use Rattle.link_model.specs.declared.view.View.{View}
use Rattle.link_model.specs.Outside.{Library, library_of, model_in}
use Rattle.link_model.specs.Lexical.{last_tiers}
use Rattle.link_model.specs.Readers.{Lookup, LinkWorld, first_of}
use Rattle.link_model.specs.Asking.{Course, is_library, outcome_of, in_model, along, first_tiers, course_from, course, ask, find_by, linked, linked_with}
use Rattle.link_model.proofs.RuleLaws.{file_cases}
use Rattle.link_walk.specs.Calls.{files_of, read_by}
use Rattle.link_walk.specs.Noted.{Noted, LinkTrail, noted}
use Rattle.link_tiers.specs.Answered.{Answered}
use Rattle.link_tiers.proofs.AnsweredLaws.{answered_then, answered_stop, answered_done}
use Rattle.link_tiers.proofs.NamespaceLaws.{model_is}
use Rattle.link_asking.specs.Courses.{names_of, course_of, outcome_if, RunsAlong}
use Rattle.link_asking.specs.declared.course.Course.{Course as CodeCourse}
use Rattle.link_asking.proofs.HidingLaws.{answered_noted}

-- what a course comes to
abbrev pub come_to : ℕ → Lookup Course → Lookup Outcome
come_to n c = c >>= λ k. done (outcome_of n k)

pub comes_none : (w : LinkWorld) (c : Lookup Course) (n : ℕ) (old new : Noted) → Answered (c w) None old new → Answered (come_to n c w) None old new
comes_none w c n old new a = answered_stop w c (λ k. done (outcome_of n k)) old new a

pub comes_some : (w : LinkWorld) (c : Lookup Course) (n : ℕ) (k : Course) (o : Outcome) (old new : Noted) → o ≡ outcome_of n k → Answered (c w) (Some k) old new
    → Answered (come_to n c w) (Some o) old new
comes_some w c n k o old new is a = subst (λ z. Answered (come_to n c w) (Some z) old new) (sym is)
    (answered_then w c (λ k. done (outcome_of n k)) k (Some (outcome_of n k)) old new new a (answered_done w (outcome_of n k) new))

-- a file that has a model stands
file_there : (files : List StoredFile) (f : ℕ) (d : Data) → model_of files f ≡ Some d → (s : StoredFile) × (slice_get files f ≡ Some s)
file_there files f d of = elim (file_cases files f) [
  | inl none ↦ let bad : None ≡ Some d = sym (ap (λ (o : Option StoredFile). of_file o) none) ∙ of in cc
  | inr there ↦ there
]
  where
    of_file : Option StoredFile → Option Data
    of_file None = None
    of_file (Some s) = s.model

-- an outcome, if there is a course
pub comes : (w : LinkWorld) (c : Lookup Course) (n : ℕ) (k : Option CodeCourse) (o : Option Outcome) (old new : Noted) → o ≡ outcome_if n k
    → Answered (c w) (option_map course_of k) old new → Answered (come_to n c w) o old new
comes w c n None o old new is a = subst (λ z. Answered (come_to n c w) z old new) (sym is) (comes_none w c n old new a)
comes w c n (Some k) o old new is a =
    subst (λ z. Answered (come_to n c w) z old new) (sym is) (comes_some w c n (course_of k) (outcome_of n (course_of k)) old new refl a)

-- a file that has a model is among the files
pub file_below : (files : List StoredFile) (f : ℕ) (d : Data) → model_of files f ≡ Some d → f < length files
file_below files f d of = let there = file_there files f d of in get_below files f there.0 there.1
  where
    get_below : (xs : List StoredFile) (i : ℕ) (s : StoredFile) → slice_get xs i ≡ Some s → i < length xs
    get_below [] i s e = cc
    get_below (x ∷ xs) zero s e = omega arith
    get_below (x ∷ xs) (suc i) s e = let lt = get_below xs i s e in omega (arith, lt)

-- OF A REFERENCE that stands in a model the course is asked there
pub asked_there : (v : View) (r : RefNo) (d : Data) (library : Bool) (ref : Reference) (o : Option Outcome) (old mid new : Noted)
    → model_of (files_of v) r.file.0 ≡ Some d → ((s : StoredFile) → slice_get (files_of v) r.file.0 ≡ Some s → library ≡ s.library)
    → slice_get d.references r.index ≡ Some ref → mid ≡ noted [] (Outer (File r.file) ∷ []) old
    → Answered (come_to (length ref.path) (course (library_of (files_of v)) r library d ref) (read_by v)) o mid new → Answered
    (ask (library_of (files_of v)) r (read_by v)) o old new
asked_there v r d library ref o old mid new of kind at told a =
    answered_then w (look (File r.file)) (λ s. in_model (Absent 1) whole (is_library s) (model_in s) (slice_get (model_in s).references r.index)) here o old mid
    new (answered_noted (look (File r.file) w) here (Outer (File r.file) ∷ []) old mid refl refl told)
    (subst (λ z. Answered z o mid new) same a)
  where
    w : LinkWorld
    w = read_by v

    here : Option StoredFile
    here = slice_get (files_of v) r.file.0

    whole : Bool → Data → Reference → Lookup Outcome
    whole l e q = come_to (length q.path) (course (library_of (files_of v)) r l e q)

    kinds : library ≡ is_library here
    kinds = let there = file_there (files_of v) r.file.0 d of in kind there.0 there.1 ∙ ap is_library (sym there.1)

    models : d ≡ model_in here
    models = sym (model_is (files_of v) r.file d of)

    same : whole library d ref w ≡ in_model (Absent 1) whole (is_library here) (model_in here) (slice_get (model_in here).references r.index) w
    same = ap (λ (q : Option Reference). in_model (Absent 1) whole library d q w) (sym at)
        ∙ λ i. in_model (Absent 1) whole (kinds i) (models i) (slice_get (models i).references r.index) w

-- a path has a first segment
pub course_is : (v : View) (r : RefNo) (library : Bool) (d : Data) (ref : Reference) (path : List (List ℕ)) → 0 < length path
    → along (library_of (files_of v)) (first_tiers (library_of (files_of v)) ref library (get_or (names_of path ref.chain) 0 []) d r)
    (drop 1 (names_of path ref.chain))
    ≡ course_from (library_of (files_of v)) r library d ref path
course_is v r library d ref [] lt = absurd (omega (arith, lt))
course_is v r library d ref (x ∷ xs) lt = refl

pub find_is : (v : View) (path : List (List ℕ)) → 0 < length path
    → come_to (length path) (along (library_of (files_of v)) (last_tiers (library_of (files_of v)) false (get_or (names_of path []) 0 []))
    (drop 1 (names_of path [])))
    ≡ find_by (library_of (files_of v)) path
find_is v [] lt = absurd (omega (arith, lt))
find_is v (x ∷ xs) lt =
    ap (λ (more : List (List ℕ)). come_to (suc (length xs)) (along (library_of (files_of v)) (last_tiers (library_of (files_of v)) false x) more))
    (append-nil xs)

-- a path and its chain are few
pub names_few : (d : Data) (is : IsModel d) (k : ℕ) (ref : Reference) → slice_get d.references k ≡ Some ref
    → length (names_of ref.path ref.chain) < 4294967296
names_few d is k ref at =
    let both_fit = all_at has_path k d.references ref is.paths at in
    let few = (both_true (nat_le 1 (length ref.path)) (nat_lt (length ref.path + length ref.chain) (2 ^ 32)) both_fit).1 in
    let lt : length ref.path + length ref.chain < 2 ^ 32 = below _ _ few in
    let both = length-append ref.path ref.chain in omega (arith, lt, both)
  where
    below : (a b : ℕ) → nat_lt a b ≡ true → a < b
    below a b h = grind (arith, nat_tests)

pub names_some : (path chain : List (List ℕ)) → 0 < length path → 0 < length (names_of path chain)
names_some [] chain lt = absurd (omega (arith, lt))
names_some (x ∷ xs) chain lt = omega arith

-- A REFERENCE: its model is read, its first tier is asked, and its names run along
pub asked_of : (v : View) (r : RefNo) (d : Data) (library : Bool) (ref : Reference) (path chain : List (List ℕ)) (x : List ℕ) (tier : LinkTrail Hit)
    (k : Option CodeCourse) (o : Option Outcome) (old mid new : Noted) → model_of (files_of v) r.file.0 ≡ Some d
    → ((s : StoredFile) → slice_get (files_of v) r.file.0 ≡ Some s → library ≡ s.library) → slice_get d.references r.index ≡ Some ref
    → path ≡ ref.path → chain ≡ ref.chain → mid ≡ noted [] (Outer (File r.file) ∷ []) old → 0 < length ref.path → x ≡ get_or (names_of path chain) 0 []
    → IsAsked tier (first_of (first_tiers (library_of (files_of v)) ref library x d r) (read_by v))
    → RunsAlong v tier (drop 1 (names_of path chain)) k mid new → o ≡ outcome_if (length path) k
    → Answered (ask (library_of (files_of v)) r (read_by v)) o old new
asked_of v r d library ref path chain x tier k o old mid new of kind at p q told some name asked runs is =
    asked_there v r d library ref o old mid new of kind at told
    (comes (read_by v) (course (library_of (files_of v)) r library d ref) (length ref.path) k o mid new
    (is ∙ ap (λ (ps : List (List ℕ)). outcome_if (length ps) k) p)
    (subst (λ (z : Lookup Course). Answered (z (read_by v)) (option_map course_of k) mid new) (course_is v r library d ref ref.path some)
    (subst (λ (ns : List (List ℕ)). RunsAlong v tier (drop 1 ns) k mid new) names runs
    (first_tiers (library_of (files_of v)) ref library (get_or (names_of ref.path ref.chain) 0 []) d r)
    (subst (λ z. IsAsked tier (first_of (first_tiers (library_of (files_of v)) ref library z d r) (read_by v)))
    (name ∙ ap (λ (ns : List (List ℕ)). get_or ns 0 []) names) asked))))
  where
    names : names_of path chain ≡ names_of ref.path ref.chain
    names = λ i. names_of (p i) (q i)

-- A NAME FROM OUTSIDE
pub found_of : (v : View) (path : List (List ℕ)) (x : List ℕ) (tier : LinkTrail Hit) (k : Option CodeCourse) (o : Option Outcome) (old new : Noted)
    → 0 < length path → x ≡ get_or (names_of path []) 0 [] → IsAsked tier (first_of (last_tiers (library_of (files_of v)) false x) (read_by v))
    → RunsAlong v tier (drop 1 (names_of path [])) k old new → o ≡ outcome_if (length path) k
    → Answered (find_by (library_of (files_of v)) path (read_by v)) o old new
found_of v path x tier k o old new some name asked runs is =
    subst (λ (z : Lookup Outcome). Answered (z (read_by v)) o old new) (find_is v path some)
    (comes (read_by v) (along (library_of (files_of v)) tiers (drop 1 (names_of path []))) (length path) k o old new is
    (runs tiers (subst (λ z. IsAsked tier (first_of (last_tiers (library_of (files_of v)) false z) (read_by v))) name asked)))
  where
    tiers : List (Lookup (List Hit))
    tiers = last_tiers (library_of (files_of v)) false (get_or (names_of path []) 0 [])

-- a path alone is as long as it is
pub path_long : (path : List (List ℕ)) → length (names_of path []) ≡ length path
path_long path = ap length (append-nil path)
