-- The ranks of files: counts of those that stand before, after one file more and after a model is replaced.
use Rattle.std.proofs.Common.{◌≡◌, ℕ, ◌+◌, ◌<◌, ◌≤◌, zero, suc, Bool, true, false, not, cond, List, [], ◌∷◌, ◌++◌, length, map, refl, sym, ◌∙◌, ap, subst, ◌⊎◌, inl, inr, arith, length-append}
use Rattle.std.specs.Prelude.{Option, Some, None, IfSome, slice_get, slice_set, insert, filter}
use Rattle.std.specs.Option.{option_map}
use Rattle.std.specs.Int.{from_bool}
use Rattle.std.specs.declared.cmp.Ordering.{Ordering}
use Rattle.std.specs.declared.cmp.Ordering.TheVariants.{Less, Equal, Greater}
use Rattle.std.specs.Ordering.{ordering_reverse, nat_cmp, is_lt, is_some_and}
use Rattle.std.specs.Cmp.Lexicographic.{slice_cmp, slice_partial_cmp, lists_agrees}
use Rattle.std.proofs.lemmas.Cmp.{nat_list_cmp_total, tied_itself}
use Rattle.std.proofs.lemmas.Map.Lookups.{exact_bytes}
use Rattle.std.proofs.lemmas.Bool.{cases_eq}
use Rattle.std.proofs.lemmas.List.{map-append}
use Rattle.std.proofs.lemmas.List.Edits.{length-insert}
use Rattle.linker_base.specs.Members.{IsMember, IsEachOnce}
use Rattle.linker_base.proofs.Cases.{bool_cases}
use Rattle.linker_base.proofs.Lists.{get_seam}
use Rattle.linker_base.proofs.MemberLaws.{member_map}
use Rattle.element_store.specs.declared.numbers.FileNo.{FileNo}
use Rattle.element_store.specs.declared.models.StoredFile.{StoredFile}
use Rattle.element_store.specs.Numbers.{chosen, those_where}
use Rattle.element_store.specs.Model.{Data}
use Rattle.element_store.specs.Condition.{IsModel}
use Rattle.element_store.specs.Stored.{in_order, stands_before, rank_of, HasRank, AreFiles, AreRanked, IsBook, with_model}

-- ---- how many items pass a test

chosen_le : {A : Type 0} (a b : Bool) (x : A) (ps qs : List A) → (a ≡ true → b ≡ true) → length ps ≤ length qs → length (chosen a x ps) ≤ length (chosen b x qs)
chosen_le true true x ps qs h l = omega arith
chosen_le true false x ps qs h l = let f : false ≡ true = h refl in cc
chosen_le false true x ps qs h l = omega arith
chosen_le false false x ps qs h l = l

chosen_lt : {A : Type 0} (a b : Bool) (x : A) (ps qs : List A) → (a ≡ true → b ≡ true) → length ps < length qs → length (chosen a x ps) < length (chosen b x qs)
chosen_lt true true x ps qs h l = omega arith
chosen_lt true false x ps qs h l = let f : false ≡ true = h refl in cc
chosen_lt false true x ps qs h l = omega arith
chosen_lt false false x ps qs h l = l

-- where a test implies another, no more items pass it
pub where_le : {A : Type 0} (p q : A → Bool) (xs : List A) → ((x : A) → p x ≡ true → q x ≡ true) → length (those_where p xs) ≤ length (those_where q xs)
where_le p q [] h = omega arith
where_le p q (x ∷ xs) h = chosen_le (p x) (q x) x (those_where p xs) (those_where q xs) (h x) (where_le p q xs h)

-- and fewer, if one of the items passes the other alone
pub where_lt : {A : Type 0} (p q : A → Bool) (xs : List A) (i : ℕ) (w : A) → ((x : A) → p x ≡ true → q x ≡ true) → slice_get xs i ≡ Some w → p w ≡ false → q w ≡ true → length (those_where p xs) < length (those_where q xs)
where_lt p q [] i w h is no_p yes_q = cc
where_lt p q (x ∷ xs) zero w h is no_p yes_q =
    let same : x ≡ w = cc in
    let px : p x ≡ false = ap p same ∙ no_p in
    let qx : q x ≡ true = ap q same ∙ yes_q in
    let le : length (those_where p xs) ≤ length (those_where q xs) = where_le p q xs h in
    rw (px, qx) (omega arith)
where_lt p q (x ∷ xs) (suc i) w h is no_p yes_q = chosen_lt (p x) (q x) x (those_where p xs) (those_where q xs) (h x) (where_lt p q xs i w h is no_p yes_q)

chosen_few : {A : Type 0} (b : Bool) (x : A) (ys : List A) (n : ℕ) → length ys ≤ n → length (chosen b x ys) ≤ suc n
chosen_few true x ys n l = omega arith
chosen_few false x ys n l = omega arith

-- no more items pass a test than there are
pub where_few : {A : Type 0} (p : A → Bool) (xs : List A) → length (those_where p xs) ≤ length xs
where_few p [] = omega arith
where_few p (x ∷ xs) = chosen_few (p x) x (those_where p xs) (length xs) (where_few p xs)

chosen_more : {A : Type 0} (b c : Bool) (x : A) (ys zs : List A) → length ys ≡ length zs + from_bool c → length (chosen b x ys) ≡ length (chosen b x zs) + from_bool c
chosen_more true c x ys zs e = omega arith
chosen_more false c x ys zs e = e

chosen_one : {A : Type 0} (b : Bool) (x : A) → length (chosen b x []) ≡ 0 + from_bool b
chosen_one true x = refl
chosen_one false x = refl

-- one item more
pub where_more : {A : Type 0} (p : A → Bool) (xs : List A) (x : A) → length (those_where p (xs ++ x ∷ [])) ≡ length (those_where p xs) + from_bool (p x)
where_more p [] x = chosen_one (p x) x
where_more p (y ∷ ys) x = chosen_more (p y) (p x) y (those_where p (ys ++ x ∷ [])) (those_where p ys) (where_more p ys x)

-- ---- the order of files

lt_less : (o : Ordering) → is_lt o ≡ true → o ≡ Less
lt_less Less e = refl
lt_less Equal e = cc
lt_less Greater e = cc

name_itself : (x : List ℕ) → is_lt (slice_cmp nat_cmp x x) ≡ false
name_itself x = ap is_lt (tied_itself nat_list_cmp_total x)

name_through : (x y z : List ℕ) → is_lt (slice_cmp nat_cmp x y) ≡ true → is_lt (slice_cmp nat_cmp y z) ≡ true → is_lt (slice_cmp nat_cmp x z) ≡ true
name_through x y z a b = ap is_lt (nat_list_cmp_total.trans x y z (lt_less _ a) (lt_less _ b))

turned : (o r : Ordering) → o ≡ ordering_reverse r → (o ≡ Equal → ⊥) → is_lt o ≡ false → is_lt r ≡ true
turned Less r e h isnt = cc
turned Equal r e h isnt = absurd (h refl)
turned Greater Less e h isnt = refl
turned Greater Equal e h isnt = cc
turned Greater Greater e h isnt = cc

name_other : (x y : List ℕ) → (x ≡ y → ⊥) → is_lt (slice_cmp nat_cmp x y) ≡ false → is_lt (slice_cmp nat_cmp y x) ≡ true
name_other x y ne isnt = turned (slice_cmp nat_cmp x y) (slice_cmp nat_cmp y x) (nat_list_cmp_total.antisymm x y) (λ e. ne (exact_bytes x y e)) isnt

-- no file stands before itself
pub before_itself : (library : Bool) (x : List ℕ) → in_order library x library x ≡ false
before_itself true x = name_itself x
before_itself false x = name_itself x

-- what stands before a file stands before those behind it
pub before_through : (a b c : Bool) (x y z : List ℕ) → in_order a x b y ≡ true → in_order b y c z ≡ true → in_order a x c z ≡ true
before_through false false false x y z h g = name_through x y z h g
before_through false false true x y z h g = refl
before_through false true false x y z h g = cc
before_through false true true x y z h g = refl
before_through true false false x y z h g = cc
before_through true false true x y z h g = cc
before_through true true false x y z h g = cc
before_through true true true x y z h g = name_through x y z h g

-- of two files with different names one stands before the other
pub before_other : (a b : Bool) (x y : List ℕ) → (x ≡ y → ⊥) → in_order a x b y ≡ false → in_order b y a x ≡ true
before_other false false x y ne isnt = name_other x y ne isnt
before_other false true x y ne isnt = cc
before_other true false x y ne isnt = refl
before_other true true x y ne isnt = name_other x y ne isnt

-- what stands before x, where x stands before y, is no more than what stands before y
rank_le : (files : List StoredFile) (x y : StoredFile) → stands_before x y ≡ true → rank_of files x ≤ rank_of files y
rank_le files x y h = where_le (λ z. stands_before z x) (λ z. stands_before z y) files (λ z g. before_through z.library x.library y.library z.name x.name y.name g h)

-- a file stands behind more than each file before it does
pub rank_lt : (files : List StoredFile) (x y : StoredFile) (f : ℕ) → slice_get files f ≡ Some x → stands_before x y ≡ true → rank_of files x < rank_of files y
rank_lt files x y f is h =
    where_lt (λ z. stands_before z x) (λ z. stands_before z y) files f x (λ z g. before_through z.library x.library y.library z.name x.name y.name g h) is
    (before_itself x.library x.name) h

-- a member by its place
get_is_member : {A : Type 0} (xs : List A) (i : ℕ) (y : A) → slice_get xs i ≡ Some y → IsMember xs y
get_is_member [] i y e = cc
get_is_member (x ∷ xs) zero y e = inl cc
get_is_member (x ∷ xs) (suc i) y e = inr (get_is_member xs i y e)

named_member : (files : List StoredFile) (f : ℕ) (x : StoredFile) → slice_get files f ≡ Some x → IsMember (map (λ y. y.name) files) x.name
named_member files f x is = member_map (λ y. y.name) files x (get_is_member files f x is)

-- a name is that of one file
pub name_once : (files : List StoredFile) (f g : ℕ) (x y : StoredFile) → IsEachOnce (map (λ z. z.name) files) → slice_get files f ≡ Some x → slice_get files g ≡ Some y → x.name ≡ y.name → f ≡ g
name_once [] f g x y once a b e = cc
name_once (z ∷ files) zero zero x y once a b e = refl
name_once (z ∷ files) zero (suc g) x y once a b e =
    let is : z ≡ x = cc in
    let same : y.name ≡ z.name = sym (ap (λ w. w.name) is ∙ e) in
    absurd (once.0 (subst (IsMember (map (λ w. w.name) files)) same (named_member files g y b)))
name_once (z ∷ files) (suc f) zero x y once a b e =
    let is : z ≡ y = cc in
    let same : x.name ≡ z.name = e ∙ sym (ap (λ w. w.name) is) in
    absurd (once.0 (subst (IsMember (map (λ w. w.name) files)) same (named_member files f x a)))
name_once (z ∷ files) (suc f) (suc g) x y once a b e = ap suc (name_once files f g x y once.1 a b e)

-- a rank is that of one file
pub rank_once : (files : List StoredFile) (r f g : ℕ) → IsEachOnce (map (λ z. z.name) files) → HasRank files r f → HasRank files r g → f ≡ g
rank_once files r f g once a b = elim (cases_eq f g) [
  | inl same ↦ same
  | inr other ↦
      let names : a.0.name ≡ b.0.name → ⊥ = λ e. other (name_once files f g a.0 b.0 once a.1 b.1 e) in
      let first = a.2 in
      let second = b.2 in
      elim (bool_cases (stands_before a.0 b.0)) [
        | inl does ↦ let lt = rank_lt files a.0 b.0 f a.1 does in absurd (omega arith)
        | inr isnt ↦
            let turn : stands_before b.0 a.0 ≡ true = before_other a.0.library b.0.library a.0.name b.0.name names isnt in
            let lt = rank_lt files b.0 a.0 g b.1 turn in absurd (omega arith)
      ]
]

before_library : (a : Bool) (x y : List ℕ) → not a ≡ true → in_order a x true y ≡ true
before_library false x y e = refl
before_library true x y e = cc

before_project : (a : Bool) (x y : List ℕ) → in_order a x false y ≡ true → not a ≡ true
before_project false x y e = refl
before_project true x y e = cc

-- a file of the library has no lower rank than there are files of the project
pub library_above : (files : List StoredFile) (x : StoredFile) → x.library ≡ true → length (those_where (λ y. not y.library) files) ≤ rank_of files x
library_above files x is =
    where_le (λ y. not y.library) (λ y. stands_before y x) files (λ y h. subst (λ b. in_order y.library y.name b x.name ≡ true) (sym is) (before_library y.library y.name x.name h))

-- and a file of the project a lower one
pub project_below : (files : List StoredFile) (f : ℕ) (x : StoredFile) → slice_get files f ≡ Some x → x.library ≡ false → rank_of files x < length (those_where (λ y. not y.library) files)
project_below files f x at is =
    where_lt (λ y. stands_before y x) (λ y. not y.library) files f x (λ y h. before_project y.library y.name x.name (subst (λ b. in_order y.library y.name b x.name ≡ true) is h)) at
    (before_itself x.library x.name) (ap not is)

-- ---- one file more

-- an item of the list after a push is an old one or the new one
get_push : {A : Type 0} (xs : List A) (x : A) (i : ℕ) (y : A) → slice_get (xs ++ x ∷ []) i ≡ Some y → (slice_get xs i ≡ Some y) ⊎ (x ≡ y)
get_push [] x zero y e = inr cc
get_push [] x (suc i) y e = cc
get_push (z ∷ xs) x zero y e = inl e
get_push (z ∷ xs) x (suc i) y e = get_push xs x i y e

-- the old items stay where they are
get_old : {A : Type 0} (xs ys : List A) (i : ℕ) (y : A) → slice_get xs i ≡ Some y → slice_get (xs ++ ys) i ≡ Some y
get_old [] ys i y e = cc
get_old (x ∷ xs) ys zero y e = e
get_old (x ∷ xs) ys (suc i) y e = get_old xs ys i y e

-- an item after an insertion is an old one below, the new one, or an old one above
record IsOldAbove {A : Type 0} (xs : List A) (at i : ℕ) (y : A) : Type 0 where
  place : ℕ
  above : at ≤ place
  moved : i ≡ suc place
  is : slice_get xs place ≡ Some y

get_insert : {A : Type 0} (xs : List A) (at : ℕ) (x : A) (i : ℕ) (y : A) → at ≤ length xs → slice_get (insert xs at x) i ≡ Some y
    → ((i < at) × (slice_get xs i ≡ Some y)) ⊎ (((i ≡ at) × (x ≡ y)) ⊎ IsOldAbove xs at i y)
get_insert xs zero x zero y le e = inr (inl (refl, cc))
get_insert xs zero x (suc i) y le e = inr (inr (record { place = i; above = omega arith; moved = refl; is = e }))
get_insert [] (suc at) x i y le e = absurd (omega arith)
get_insert (z ∷ xs) (suc at) x zero y le e = inl (omega arith, e)
get_insert (z ∷ xs) (suc at) x (suc i) y le e = elim (get_insert xs at x i y (omega arith) e) [
  | inl below ↦ inl (omega (arith, below.0), below.1)
  | inr (inl here) ↦ inr (inl (ap suc here.0, here.1))
  | inr (inr old) ↦ inr (inr (record { place = suc old.place; above = omega (arith, old.above); moved = ap suc old.moved; is = old.is }))
]

-- a file that stays where it is, in a list with one file more
rank_kept : (files : List StoredFile) (x y : StoredFile) (r f : ℕ) → stands_before x y ≡ false → slice_get files f ≡ Some y → rank_of files y ≡ r → HasRank (files ++ x ∷ []) r f
rank_kept files x y r f isnt is rank =
    (y, get_old files (x ∷ []) f y is, where_more (λ z. stands_before z y) files x ∙ ap (λ b. rank_of files y + from_bool b) isnt ∙ omega arith)

-- a file that goes up by one
rank_up : (files : List StoredFile) (x y : StoredFile) (r f : ℕ) → stands_before x y ≡ true → slice_get files f ≡ Some y → rank_of files y ≡ r → HasRank (files ++ x ∷ []) (suc r) f
rank_up files x y r f does is rank =
    (y, get_old files (x ∷ []) f y is, where_more (λ z. stands_before z y) files x ∙ ap (λ b. rank_of files y + from_bool b) does ∙ omega arith)

-- the new file among all
rank_new : (files : List StoredFile) (x : StoredFile) → HasRank (files ++ x ∷ []) (rank_of files x) (length files)
rank_new files x = (
  x,
  get_seam files [] x,
  where_more (λ z. stands_before z x) files x
      ∙ ap (λ b. rank_of files x + from_bool b) (before_itself x.library x.name) ∙ omega arith,
)

-- the ranks after one file more, which is put in at its own rank
pub ranked_more : (files : List StoredFile) (ranks : List ℕ) (x : StoredFile) → (IsMember (map (λ y. y.name) files) x.name → ⊥) → AreRanked files ranks
    → AreRanked (files ++ x ∷ []) (insert ranks (rank_of files x) (length files))
ranked_more files ranks x fresh old = record {
  each = length-insert ranks (rank_of files x) (length files) within ∙ ap (λ n. n + 1) old.each ∙ sym (length-append files (x ∷ []));
  rank = λ r f e. elim (get_insert ranks (rank_of files x) (length files) r f within e) [
    | inl below ↦ below_stays r f below.0 (old.rank r f below.1)
    | inr (inl here) ↦ subst (λ k. HasRank (files ++ x ∷ []) k f) (sym here.0) (subst (λ k. HasRank (files ++ x ∷ []) (rank_of files x) k) here.1 (rank_new files x))
    | inr (inr up) ↦ subst (λ k. HasRank (files ++ x ∷ []) k f) (sym up.moved) (above_rises up.place f up.above (old.rank up.place f up.is))
  ];
}
  where
    within : rank_of files x ≤ length ranks
    within = let few = where_few (λ z. stands_before z x) files in let each = old.each in omega arith

    below_stays : (r f : ℕ) → r < rank_of files x → HasRank files r f → HasRank (files ++ x ∷ []) r f
    below_stays r f lt has = elim (bool_cases (stands_before x has.0)) [
      | inl does ↦ let le = rank_le files x has.0 does in let is = has.2 in absurd (omega arith)
      | inr isnt ↦ rank_kept files x has.0 r f isnt has.1 has.2
    ]

    above_rises : (r f : ℕ) → rank_of files x ≤ r → HasRank files r f → HasRank (files ++ x ∷ []) (suc r) f
    above_rises r f le has = elim (bool_cases (stands_before x has.0)) [
      | inl does ↦ rank_up files x has.0 r f does has.1 has.2
      | inr isnt ↦
          let other : x.name ≡ has.0.name → ⊥ = λ e. fresh (subst (IsMember (map (λ y. y.name) files)) (sym e) (named_member files f has.0 has.1)) in
          let does : stands_before has.0 x ≡ true = before_other x.library has.0.library x.name has.0.name other isnt in
          let lt = rank_lt files has.0 x f has.1 does in let is = has.2 in absurd (omega arith)
    ]

old_member : {A : Type 0} (xs : List A) (x y : A) → (x ≡ y → ⊥) → IsMember (xs ++ x ∷ []) y → IsMember xs y
old_member [] x y ne (inl e) = absurd (ne e)
old_member [] x y ne (inr m) = m
old_member (z ∷ xs) x y ne (inl e) = inl e
old_member (z ∷ xs) x y ne (inr m) = inr (old_member xs x y ne m)

-- no name stands twice after one that didn't stand
each_once_more : {A : Type 0} (xs : List A) (x : A) → IsEachOnce xs → (IsMember xs x → ⊥) → IsEachOnce (xs ++ x ∷ [])
each_once_more [] x once fresh = (λ m. m, tt)
each_once_more (y ∷ ys) x once fresh = (λ m. once.0 (old_member ys x y (λ e. fresh (inl (sym e))) m), each_once_more ys x once.1 (λ m. fresh (inr m)))

-- the files after one more, which has no model yet
files_more : (files : List StoredFile) (x : StoredFile) → (IsMember (map (λ y. y.name) files) x.name → ⊥) → length files < 4294967295 → x.model ≡ None → AreFiles files → AreFiles (files ++ x ∷ [])
files_more files x fresh room none old = record {
  few = rw length-append (omega arith);
  names = rw map-append (each_once_more (map (λ y. y.name) files) x.name old.names fresh);
  models = λ f y d is has. elim (get_push files x f y is) [
    | inl before ↦ old.models f y d before has
    | inr new ↦ let e : y.model ≡ None = ap (λ z. z.model) (sym new) ∙ none in absurd (let n : None ≡ Some d = sym e ∙ has in cc)
  ];
}

-- the book after one file more
pub book_more : (files : List StoredFile) (ranks : List ℕ) (count : ℕ) (x : StoredFile) → (IsMember (map (λ y. y.name) files) x.name → ⊥) → length files < 4294967295 → x.model ≡ None → IsBook files ranks count
    → IsBook (files ++ x ∷ []) (insert ranks (rank_of files x) (length files)) (count + from_bool (not x.library))
book_more files ranks count x fresh room none old = record {
  files = files_more files x fresh room none old.files;
  ranks = ranked_more files ranks x fresh old.ranks;
  project = ap (λ n. n + from_bool (not x.library)) old.project ∙ sym (where_more (λ y. not y.library) files x);
}

-- ---- a model replaced

-- a file with another model
abbrev given : StoredFile → Option Data → StoredFile
given x m = record x { model = m }

pub length-with_model : (files : List StoredFile) (f : ℕ) (m : Option Data) → length (with_model files f m) ≡ length files
length-with_model [] f m = refl
length-with_model (x ∷ files) zero m = refl
length-with_model (x ∷ files) (suc f) m = ap suc (length-with_model files f m)

-- the names stay
pub names-with_model : (files : List StoredFile) (f : ℕ) (m : Option Data) → map (λ x. x.name) (with_model files f m) ≡ map (λ x. x.name) files
names-with_model [] f m = refl
names-with_model (x ∷ files) zero m = refl
names-with_model (x ∷ files) (suc f) m = ap (λ names. x.name ∷ names) (names-with_model files f m)

-- as many files pass a test that reads no model
pub where-with_model : (test : StoredFile → Bool) (files : List StoredFile) (f : ℕ) (m : Option Data) → ((x : StoredFile) → test (record x { model = m }) ≡ test x) → length (those_where test (with_model files f m)) ≡ length (those_where test files)
where-with_model test [] f m blind = refl
where-with_model test (x ∷ files) zero m blind = same (test x) (test (record x { model = m })) (blind x)
  where
    same : (a b : Bool) → b ≡ a → length (chosen b (record x { model = m }) (those_where test files)) ≡ length (chosen a x (those_where test files))
    same true true e = refl
    same false false e = refl
    same true false e = cc
    same false true e = cc
where-with_model test (x ∷ files) (suc f) m blind = same (test x) (those_where test (with_model files f m)) (those_where test files) (where-with_model test files f m blind)
  where
    same : (a : Bool) (ys zs : List StoredFile) → length ys ≡ length zs → length (chosen a x ys) ≡ length (chosen a x zs)
    same true ys zs e = ap suc e
    same false ys zs e = e

-- a file after the model of one is replaced: that one with the new model, or another as it was
pub get-with_model : (files : List StoredFile) (f : ℕ) (m : Option Data) (g : ℕ) (y : StoredFile) → slice_get (with_model files f m) g ≡ Some y
    → ((g ≡ f) × (y.model ≡ m)) ⊎ (slice_get files g ≡ Some y)
get-with_model [] f m g y e = cc
get-with_model (x ∷ files) zero m zero y e = inl (refl, (let is : record x { model = m } ≡ y = cc in ap (λ z. z.model) (sym is)))
get-with_model (x ∷ files) zero m (suc g) y e = inr e
get-with_model (x ∷ files) (suc f) m zero y e = inr e
get-with_model (x ∷ files) (suc f) m (suc g) y e = elim (get-with_model files f m g y e) [ inl here ↦ inl (ap suc here.0, here.1) | inr other ↦ inr other ]

-- the file whose model is replaced
pub get-with_model_same : (files : List StoredFile) (f : ℕ) (m : Option Data) (x : StoredFile) → slice_get files f ≡ Some x → slice_get (with_model files f m) f ≡ Some (record x { model = m })
get-with_model_same [] f m x e = cc
get-with_model_same (y ∷ files) zero m x e = let is : y ≡ x = cc in ap (λ (z : StoredFile). Some (given z m)) is
get-with_model_same (y ∷ files) (suc f) m x e = get-with_model_same files f m x e

-- every other one
pub get-with_model_other : (files : List StoredFile) (f : ℕ) (m : Option Data) (g : ℕ) → (g ≡ f → ⊥) → slice_get (with_model files f m) g ≡ slice_get files g
get-with_model_other [] f m g ne = refl
get-with_model_other (y ∷ files) zero m zero ne = absurd (ne refl)
get-with_model_other (y ∷ files) zero m (suc g) ne = refl
get-with_model_other (y ∷ files) (suc f) m zero ne = refl
get-with_model_other (y ∷ files) (suc f) m (suc g) ne = get-with_model_other files f m g (λ e. ne (ap suc e))

-- a file keeps its rank
rank-with_model : (files : List StoredFile) (f : ℕ) (m : Option Data) (r g : ℕ) → HasRank files r g → HasRank (with_model files f m) r g
rank-with_model files f m r g has = elim (cases_eq g f) [
  | inl same ↦ (
    record has.0 { model = m },
    subst (λ k. slice_get (with_model files f m) k ≡ Some (record has.0 { model = m })) (sym same) (get-with_model_same files f m has.0 (subst (λ k. slice_get files k ≡ Some has.0) same has.1)),
    stays ∙ has.2,
  )
  | inr other ↦ (has.0, get-with_model_other files f m g other ∙ has.1, stays ∙ has.2)
]
  where
    stays : rank_of (with_model files f m) has.0 ≡ rank_of files has.0
    stays = where-with_model (λ y. stands_before y has.0) files f m (λ x. refl)

-- the book after the model of a file is replaced by one that is that file's and sound
pub book-with_model : (files : List StoredFile) (ranks : List ℕ) (count f : ℕ) (m : Option Data) → ((d : Data) → m ≡ Some d → (d.file.0 ≡ f) × IsModel d) → IsBook files ranks count
    → IsBook (with_model files f m) ranks count
book-with_model files ranks count f m sound old = record {
  files = record {
    few = rw length-with_model old.files.few;
    names = rw names-with_model old.files.names;
    models = λ g y d is has. elim (get-with_model files f m g y is) [
      | inl new ↦ let fit = sound d (sym new.1 ∙ has) in (fit.0 ∙ sym new.0, fit.1)
      | inr other ↦ old.files.models g y d other has
    ];
  };
  ranks = record {
    each = old.ranks.each ∙ sym (length-with_model files f m);
    rank = λ r g e. rank-with_model files f m r g (old.ranks.rank r g e);
  };
  project = old.project ∙ sym (where-with_model (λ x. not x.library) files f m (λ x. refl));
}

-- ---- facts in the form in which the code asks for them

-- the code's comparison of names is that of the order
pub name_before : (x y : List ℕ) → is_some_and is_lt (slice_partial_cmp (λ a b. Some (nat_cmp a b)) x y) ≡ is_lt (slice_cmp nat_cmp x y)
name_before x y = ap (is_some_and is_lt) (lists_agrees {R = nat_cmp} (λ a b. refl) x y)

-- files of one kind stand in the order of their names
pub alike_before : (a b : Bool) (x y : List ℕ) → a ≡ b → in_order a x b y ≡ is_lt (slice_cmp nat_cmp x y)
alike_before true true x y e = refl
alike_before false false x y e = refl
alike_before true false x y e = cc
alike_before false true x y e = cc

filter_one : {A : Type 0} (b : Bool) (x : A) (ys zs : List A) → ys ≡ zs → cond b (x ∷ ys) ys ≡ chosen b x zs
filter_one true x ys zs e = ap (λ ws. x ∷ ws) e
filter_one false x ys zs e = e

-- the filter of a chain is the list of those that pass
pub filter_is : {A : Type 0} (p : A → Bool) (xs : List A) → filter p xs ≡ those_where p xs
filter_is p [] = refl
filter_is p (x ∷ xs) = filter_one (p x) x (filter p xs) (those_where p xs) (filter_is p xs)

-- the rank that the code counts
pub count_is : (files : List StoredFile) (x : StoredFile) → length (filter (λ y. stands_before y x) files) ≡ rank_of files x
count_is files x = ap length (filter_is (λ y. stands_before y x) files)

-- a file written over with another model
pub set_is-with_model : (files : List StoredFile) (f : ℕ) (x : StoredFile) (m : Option Data) → slice_get files f ≡ Some x → slice_set files f (record x { model = m }) ≡ with_model files f m
set_is-with_model [] f x m e = cc
set_is-with_model (y ∷ files) zero x m e = let is : y ≡ x = cc in ap (λ (z : StoredFile). given z m ∷ files) (sym is)
set_is-with_model (y ∷ files) (suc f) x m e = ap (λ zs. y ∷ zs) (set_is-with_model files f x m e)

-- no file has a higher rank than there are files
pub rank_within : (files : List StoredFile) (ranks : List ℕ) (count : ℕ) (x : StoredFile) → IsBook files ranks count → rank_of files x ≤ length ranks
rank_within files ranks count x book = let few = where_few (λ z. stands_before z x) files in let each = book.ranks.each in omega arith

-- the count of files that aren't of the library has room for one more
pub count_fits : (files : List StoredFile) (ranks : List ℕ) (count : ℕ) (b : Bool) → length files < 4294967295 → IsBook files ranks count → count + from_bool b < 4294967296
count_fits files ranks count true room book = let few = where_few (λ x. not x.library) files in let is = book.project in omega arith
count_fits files ranks count false room book = let few = where_few (λ x. not x.library) files in let is = book.project in omega arith

-- what is asked of a model that is put in
pub both_known : (m : Option Data) (f : FileNo) → IfSome m (λ d. d.file ≡ f) → IfSome m IsModel → (d : Data) → m ≡ Some d → (d.file.0 ≡ f.0) × IsModel d
both_known None f own fine d e = cc
both_known (Some x) f own fine d e = let is : x ≡ d = cc in (ap (λ y. y.file.0) (sym is) ∙ ap (λ n. n.0) own, subst IsModel is fine)

-- what is known of a model that is lent
pub lent_known : {R : Type 0} (now : R → Data) (o : Option R) (m : Option Data) (f : FileNo) → option_map now o ≡ m → ((d : Data) → m ≡ Some d → (d.file.0 ≡ f.0) × IsModel d)
    → IfSome o (λ r. ((now r).file ≡ f) × IsModel (now r))
lent_known now None m f e known = tt
lent_known now (Some r) m f e known = let k = known (now r) (sym e) in (ap (λ n. let number : FileNo = record { 0 = n } in number) k.0, k.1)
