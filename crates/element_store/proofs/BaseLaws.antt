-- The first public member that bears a name, and the first file of the library whose root has one.
use Rattle.std.proofs.Common.{◌≡◌, ◌∙◌, ℕ, zero, suc, ◌+◌, ◌<◌, ◌≤◌, Bool, true, false, not, ◌&&◌, cond, nat_eq, Option, Some, None, IfSome, List, [], ◌∷◌, length, map, slice_get, get_or, refl, sym, ap, subst, arith, ◌⊎◌, inl, inr, zero-add}
use Rattle.std.specs.Option.{option_map, option_and_then}
use Rattle.std.proofs.lemmas.Bool.{cases_lt}
use Rattle.std.proofs.lemmas.Option.{slice_get-get_or}
use Rattle.linker_base.specs.Members.{IsEachOnce}
use Rattle.linker_base.proofs.Cases.{bool_cases}
use Rattle.element_store.specs.declared.numbers.FileNo.{FileNo}
use Rattle.element_store.specs.declared.numbers.ElementNo.{ElementNo}
use Rattle.element_store.specs.declared.models.StoredFile.{StoredFile}
use Rattle.element_store.specs.declared.records.Member.{Member}
use Rattle.element_store.specs.Numbers.{chosen, numbers_from, those_where}
use Rattle.element_store.specs.Model.{Data, bears, bearers}
use Rattle.element_store.specs.Stored.{stands_before, rank_of, HasRank, AreFiles}
use Rattle.element_store.specs.BaseRules.{public_target, first_of, least_owned, RootElement, in_library, earlier, least_root, model_of, IsIn, StandsIn}
use Rattle.element_store.proofs.NumberLaws.{member_at, numbers_below}
use Rattle.element_store.proofs.RankLaws.{where_lt, where_few, before_itself, before_other, name_once, rank_once, rank_lt, library_above, project_below}

-- ---- members

-- the element of the first of these members that is public and owned
abbrev pub first_public : List Member → List ℕ → Option ℕ
first_public members [] = None
first_public members (n ∷ ns) = first_of (option_and_then (λ m. public_target true m.visibility m.target) (slice_get members n)) (first_public members ns)

chosen_public : (b : Bool) (all : List Member) (n : ℕ) (m : Member) (ns : List ℕ) (rest : Option ℕ) → slice_get all n ≡ Some m → rest ≡ first_public all ns
    → first_of (public_target b m.visibility m.target) rest ≡ first_public all (chosen b n ns)
chosen_public true all n m ns rest at e = rw at (ap (first_of (public_target true m.visibility m.target)) e)
chosen_public false all n m ns rest at e = e

-- the least is the first of those that bear the name, of members that begin with the number n
owned_from : (all ms : List Member) (n owner : ℕ) (x : List ℕ) → ((k : ℕ) (m : Member) → slice_get ms k ≡ Some m → slice_get all (n + k) ≡ Some m)
    → least_owned ms owner x ≡ first_public all (numbers_from n (λ m. nat_eq m.owner owner && bears x m) ms)
owned_from all [] n owner x at = refl
owned_from all (m ∷ ms) n owner x at =
    chosen_public (nat_eq m.owner owner && bears x m) all n m (numbers_from (suc n) (λ m. nat_eq m.owner owner && bears x m) ms) (least_owned ms owner x)
    (subst (λ k. slice_get all k ≡ Some m) (omega arith) (at 0 m refl))
    (owned_from all ms (suc n) owner x (λ k l is. subst (λ j. slice_get all j ≡ Some l) (omega arith) (at (suc k) l is)))

pub owned_first : (ms : List Member) (owner : ℕ) (x : List ℕ) → least_owned ms owner x ≡ first_public ms (bearers ms owner x)
owned_first ms owner x = owned_from ms ms 0 owner x (λ k m at. subst (λ j. slice_get ms j ≡ Some m) (omega arith) at)

-- those that bear the name are members
pub bearer_stands : (ms : List Member) (owner : ℕ) (x ns : List ℕ) (i : ℕ) → ns ≡ bearers ms owner x → i < length ns → get_or ns i 0 < length ms
bearer_stands ms owner x ns i e lt =
    let at : slice_get (bearers ms owner x) i ≡ Some (get_or ns i 0) = subst (λ ks. slice_get ks i ≡ Some (get_or ns i 0)) e (slice_get-get_or ns i 0 lt) in
    numbers_below (λ m. nat_eq m.owner owner && bears x m) 0 (length ms) ms (get_or ns i 0) (zero-add (length ms)) (member_at (bearers ms owner x) i (get_or ns i 0) at)

-- ---- files

-- the element among a file's roots, if it is a file of the library
abbrev pub root_in : List ℕ → StoredFile → Option RootElement
root_in x f = in_library f.library x f f.model

mapped_file : (y : StoredFile) (d : Data) (o : Option ℕ) (r : RootElement) → option_map (λ e. let root : RootElement = record { file = y; model = d; element = e } in root) o ≡ Some r → r.file ≡ y
mapped_file y d None r e = cc
mapped_file y d (Some n) r e = let is : record { file = y; model = d; element = n } ≡ r = cc in ap (λ z. z.file) (sym is)

root_file : (b : Bool) (x : List ℕ) (y : StoredFile) (m : Option Data) (r : RootElement) → in_library b x y m ≡ Some r → r.file ≡ y
root_file true x y (Some d) r e = mapped_file y d (least_owned d.members 0 x) r e
root_file true x y None r e = cc
root_file false x y m r e = cc

-- no file has one, and so there is none
pub root_none : (files : List StoredFile) (x : List ℕ) → ((f : ℕ) (y : StoredFile) → slice_get files f ≡ Some y → root_in x y ≡ None) → least_root files x ≡ None
root_none [] x none = refl
root_none (y ∷ files) x none =
    let here : root_in x y ≡ None = none 0 y refl in
    let rest = root_none files x (λ f z at. none (suc f) z at) in
    rw (here, rest)

cond_one : (b : Bool) (q s r : RootElement) → cond b (Some s) (Some q) ≡ Some r → (Some q ≡ Some r) ⊎ (Some s ≡ Some r)
cond_one true q s r e = inr e
cond_one false q s r e = inl e

earlier_one : (a b : Option RootElement) (r : RootElement) → earlier a b ≡ Some r → (a ≡ Some r) ⊎ (b ≡ Some r)
earlier_one None b r e = inr e
earlier_one (Some q) None r e = inl e
earlier_one (Some q) (Some s) r e = cond_one (stands_before s.file q.file) q s r e

-- the least one is that of its file, which stands among these
root_stands : (files : List StoredFile) (x : List ℕ) (r : RootElement) → least_root files x ≡ Some r → (f : ℕ) × (slice_get files f ≡ Some r.file) × (root_in x r.file ≡ Some r)
root_stands [] x r e = cc
root_stands (y ∷ files) x r e = elim (earlier_one (root_in x y) (least_root files x) r e) [
  | inl here ↦
      let is : r.file ≡ y = root_file y.library x y y.model r here in
      (0, ap Some (sym is), ap (root_in x) is ∙ here)
  | inr later ↦ let found = root_stands files x r later in (suc found.0, found.1, found.2)
]

-- it stays where no later one stands before it
first_kept : (r : RootElement) (later : Option RootElement) → ((s : RootElement) → later ≡ Some s → stands_before s.file r.file ≡ false) → earlier (Some r) later ≡ Some r
first_kept r None behind = refl
first_kept r (Some s) behind = let isnt = behind s refl in rw isnt refl

-- a later one that stands before it takes its place
later_taken : (first : Option RootElement) (s : RootElement) → ((q : RootElement) → first ≡ Some q → stands_before s.file q.file ≡ true) → earlier first (Some s) ≡ Some s
later_taken None s before = refl
later_taken (Some q) s before = let does = before q refl in rw does refl

-- the one whose file stands before every other file that has one
pub root_first : (files : List StoredFile) (f : ℕ) (y : StoredFile) (x : List ℕ) (r : RootElement) → IsEachOnce (map (λ z. z.name) files) → slice_get files f ≡ Some y → root_in x y ≡ Some r
    → ((g : ℕ) (z : StoredFile) → slice_get files g ≡ Some z → stands_before z y ≡ true → root_in x z ≡ None) → least_root files x ≡ Some r
root_first [] f y x r once at has none = cc
root_first (h ∷ files) zero y x r once at has none =
    let is : h ≡ y = cc in
    let here : root_in x h ≡ Some r = ap (root_in x) is ∙ has in
    let own : r.file ≡ y = root_file y.library x y y.model r has in
    rw here (first_kept r (least_root files x) (λ s later.
    let found = root_stands files x s later in
    elim (bool_cases (stands_before s.file r.file)) [
      | inl does ↦ let no = none (suc found.0) s.file found.1 (subst (λ (z : StoredFile). stands_before s.file z ≡ true) own does) in let one = found.2 in cc
      | inr isnt ↦ isnt
    ]))
root_first (h ∷ files) (suc f) y x r once at has none =
    let later = root_first files f y x r once.1 at has (λ g z is does. none (suc g) z is does) in
    let own : r.file ≡ y = root_file y.library x y y.model r has in
    rw later (later_taken (root_in x h) r (λ q first.
    let other : h.name ≡ y.name → ⊥ = λ same. (let no : zero ≡ suc f = name_once (h ∷ files) zero (suc f) h y once refl at same in cc) in
    let mine : q.file ≡ h = root_file h.library x h h.model q first in
    let behind : stands_before h y ≡ false = elim (bool_cases (stands_before h y)) [
      | inl does ↦ let no = none 0 h refl does in cc
      | inr isnt ↦ isnt
    ] in
    rw (own, mine) (before_other h.library y.library h.name y.name other behind)))

-- ---- the walk by ranks

-- no file of a lesser rank has one
abbrev pub ArePassed : List StoredFile → List ℕ → ℕ → Type 0
ArePassed files x rank = (f : ℕ) (y : StoredFile) → slice_get files f ≡ Some y → rank_of files y < rank → root_in x y ≡ None

outside : (b : Bool) (x : List ℕ) (y : StoredFile) (m : Option Data) → b ≡ false → in_library b x y m ≡ None
outside true x y m e = cc
outside false x y m e = refl

-- no file of the project has one
pub project_passed : (files : List StoredFile) (x : List ℕ) → ArePassed files x (length (those_where (λ y. not y.library) files))
project_passed files x f y at lt = elim (bool_cases y.library) [
  | inl is ↦ let above = library_above files y is in absurd (omega (arith, above, lt))
  | inr isnt ↦ outside y.library x y y.model isnt
]

-- no file that has none stands in the way
pub passed_more : (files : List StoredFile) (x : List ℕ) (rank f : ℕ) → AreFiles files → HasRank files rank f → ((y : StoredFile) → slice_get files f ≡ Some y → root_in x y ≡ None)
    → ArePassed files x rank → ArePassed files x (rank + 1)
passed_more files x rank f book has none passed g y at lt = elim (cases_lt (rank_of files y) rank) [
  | inl below ↦ passed g y at below
  | inr above ↦
      let same : g ≡ f = rank_once files rank g f book.names (y, at, omega (arith, above, lt)) has in
      none y (subst (λ k. slice_get files k ≡ Some y) same at)
]

without : (b : Bool) (x : List ℕ) (y : StoredFile) (m : Option Data) → m ≡ None → in_library b x y m ≡ None
without true x y None e = refl
without true x y (Some d) e = cc
without false x y m e = refl

nameless : (b : Bool) (x : List ℕ) (y : StoredFile) (m : Option Data) (d : Data) → m ≡ Some d → least_owned d.members 0 x ≡ None → in_library b x y m ≡ None
nameless true x y None d e none = cc
nameless true x y (Some c) d e none = let is : d ≡ c = cc in let no : least_owned c.members 0 x ≡ None = subst (λ (z : Data). least_owned z.members 0 x ≡ None) is none in rw no refl
nameless false x y m d e none = refl

model_at : (files : List StoredFile) (f : ℕ) (y : StoredFile) → slice_get files f ≡ Some y → y.model ≡ model_of files f
model_at files f y at = ap (option_and_then (λ (z : StoredFile). z.model)) (sym at)

-- a file without a model has none
pub none_without : (files : List StoredFile) (f : ℕ) (x : List ℕ) → model_of files f ≡ None → (y : StoredFile) → slice_get files f ≡ Some y → root_in x y ≡ None
none_without files f x none y at = without y.library x y y.model (model_at files f y at ∙ none)

-- nor has one whose root has no such member
pub none_nameless : (files : List StoredFile) (f : ℕ) (x : List ℕ) (d : Data) → model_of files f ≡ Some d → least_owned d.members 0 x ≡ None → (y : StoredFile) → slice_get files f ≡ Some y → root_in x y ≡ None
none_nameless files f x d is none y at = nameless y.library x y y.model d (model_at files f y at ∙ is) none

has_root : (b : Bool) (x : List ℕ) (y : StoredFile) (m : Option Data) (d : Data) (e : ℕ) → b ≡ true → m ≡ Some d → least_owned d.members 0 x ≡ Some e → in_library b x y m ≡ Some (record { file = y; model = d; element = e })
has_root b x y m d e is has owned = rw (is, has, owned) refl

-- the first file of the library that has one, by ranks
pub walk_found : (files : List StoredFile) (x : List ℕ) (rank f : ℕ) (d : Data) (e : ℕ) → AreFiles files → (has : HasRank files rank f) → length (those_where (λ y. not y.library) files) ≤ rank
    → model_of files f ≡ Some d → least_owned d.members 0 x ≡ Some e → ArePassed files x rank → least_root files x ≡ Some (record { file = has.0; model = d; element = e })
walk_found files x rank f d e book has above is owned passed =
    let library : has.0.library ≡ true = elim (bool_cases has.0.library) [
      | inl is_one ↦ is_one
      | inr other ↦ let below = project_below files f has.0 has.1 other in absurd (omega (arith, below, above, has.2))
    ] in
    root_first files f has.0 x (record { file = has.0; model = d; element = e }) book.names has.1
    (has_root has.0.library x has.0 has.0.model d e library (model_at files f has.0 has.1 ∙ is) owned)
    (λ g z at before. let lt = rank_lt files z has.0 g at before in passed g z at (omega (arith, lt, has.2)))

-- no file's rank is the number of files
rank_below : (files : List StoredFile) (f : ℕ) (y : StoredFile) → slice_get files f ≡ Some y → rank_of files y < length files
rank_below files f y at =
    let lt = where_lt (λ z. stands_before z y) (λ z. true) files f y (λ z is. refl) at (before_itself y.library y.name) refl in
    let few = where_few (λ (z : StoredFile). true) files in
    omega (arith, lt, few)

-- a walk that passed all files has found none
pub walk_ended : (files : List StoredFile) (x : List ℕ) (rank : ℕ) → length files ≤ rank → ArePassed files x rank → least_root files x ≡ None
walk_ended files x rank le passed = root_none files x (λ f y at. let lt = rank_below files f y at in passed f y at (omega (arith, lt, le)))

-- an element of a file's model is one of the files'
pub stands_there : (files : List StoredFile) (file : FileNo) (d : Data) (o : Option ElementNo) → model_of files file.0 ≡ Some d → d.file ≡ file → IfSome o (IsIn d) → IfSome o (StandsIn files)
stands_there files file d None is own within = tt
stands_there files file d (Some e) is own within = (d, subst (λ (n : FileNo). model_of files n.0 ≡ Some d) (sym (within.0 ∙ own)) is, within.1)
