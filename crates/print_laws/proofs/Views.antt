-- What the model of a walk has of the element at a place of the walk's list.
use Rattle.std.proofs.Common.{◌≡◌, ℕ, suc, ◌+◌, List, [], ◌∷◌, ◌++◌, length, refl, ap, sym, ◌∙◌, arith, append_assoc, append-nil}
use Rattle.std.specs.Prelude.{Bool, true, false, ◌&&◌, nat_eq, map, slice_index_or}
use Rattle.std.proofs.lemmas.Bool.{eq-eqb, ne_eqb}
use Rattle.std.proofs.lemmas.List.{length-append, map-append}
use Rattle.element_store.specs.declared.numbers.FileNo.{FileNo}
use Rattle.element_store.specs.declared.outcome.Language.{Language}
use Rattle.element_store.specs.declared.outcome.Role.{Role}
use Rattle.element_store.specs.declared.records.Reference.{Reference}
use Rattle.element_store.specs.Numbers.{those_where, chosen}
use Rattle.element_store.specs.Model.{root_element}
use Rattle.text_model.specs.declared.draft.Mention.{Mention}
use Rattle.text_model.specs.declared.draft.Draft.{Draft}
use Rattle.text_model.specs.Numbering.{element, elements_from, mentions_of, width, reference, references_from, model_of}
use Rattle.text_model.specs.Walk.{Walk}
use Rattle.print_model.specs.Heads.{element_at, items_at, references_in, path_in, path_at, no_reference}

-- an item behind so many others
pub at_length : {A : Type 0} (d : A) (xs : List A) (y : A) (ys : List A) → slice_index_or (xs ++ y ∷ ys) (length xs) d ≡ y
at_length d [] y ys = refl
at_length d (x ∷ xs) y ys = at_length d xs y ys

-- how many references the elements have
abbrev pub references_of : List Draft → ℕ
references_of [] = 0
references_of (d ∷ ds) = width d + references_of ds

-- the element at a place
element_behind : (n : ℕ) (pre : List Draft) (x : Draft) (post : List Draft)
    → slice_index_or (elements_from n (pre ++ x ∷ post)) (length pre) root_element ≡ element (n + references_of pre) x
element_behind n [] x post = ap (λ k. element k x) (omega arith)
element_behind n (y ∷ pre) x post = element_behind (n + width y) pre x post ∙ ap (λ k. element k x) (omega arith)

-- its record
pub element_is : (file : FileNo) (l : Language) (w : Walk) (pre : List Draft) (x : Draft) (post : List Draft) → w.elements ≡ pre ++ x ∷ post
    → element_at (model_of file l w) (length pre) ≡ element (references_of pre) x
element_is file l w pre x post e =
    ap (λ ds. slice_index_or (elements_from 0 ds) (length pre) root_element) e
    ∙ (element_behind 0 pre x post ∙ ap (λ k. element k x) (omega arith))

-- its items
items_behind : (pre : List Draft) (x : Draft) (post : List Draft) → slice_index_or (map (λ (d : Draft). d.items) (pre ++ x ∷ post)) (length pre) [] ≡ x.items
items_behind [] x post = refl
items_behind (y ∷ pre) x post = items_behind pre x post

-- its items
pub items_are : (file : FileNo) (l : Language) (w : Walk) (pre : List Draft) (x : Draft) (post : List Draft) → w.elements ≡ pre ++ x ∷ post
    → items_at (model_of file l w) (length pre) ≡ x.items
items_are file l w pre x post e = ap (λ ds. slice_index_or (map (λ (d : Draft). d.items) ds) (length pre) []) e ∙ items_behind pre x post

-- References.

-- the references before an element are as many as those of the elements before it
references_split : (c : ℕ) (pre : List Draft) (x : Draft) (post : List Draft)
    → references_from c (pre ++ x ∷ post)
    ≡ references_from c pre ++ (map (reference (c + length pre)) (mentions_of x) ++ references_from (suc (c + length pre)) post)
references_split c [] x post =
    ap (λ k. map (reference k) (mentions_of x) ++ references_from (suc k) post) (omega arith)
references_split c (y ∷ pre) x post =
    ap (λ rs. map (reference c) (mentions_of y) ++ rs) (references_split (suc c) pre x post)
    ∙ (sym (append_assoc (map (reference c) (mentions_of y)) (references_from (suc c) pre)
    (map (reference (suc c + length pre)) (mentions_of x) ++ references_from (suc (suc c + length pre)) post))
    ∙ ap (λ k. references_from c (y ∷ pre) ++ (map (reference k) (mentions_of x) ++ references_from (suc k) post)) (moved c (length pre)))
  where
    moved : (a b : ℕ) → suc a + b ≡ a + suc b
    moved a b = omega arith

-- a mapped list is as long
map_long : {A B : Type 0} (f : A → B) (xs : List A) → length (map f xs) ≡ length xs
map_long f [] = refl
map_long f (x ∷ xs) = ap suc (map_long f xs)

-- as many references as they have mentions
references_long : (c : ℕ) (ds : List Draft) → length (references_from c ds) ≡ references_of ds
references_long c [] = refl
references_long c (d ∷ ds) =
    length-append (map (reference c) (mentions_of d)) (references_from (suc c) ds)
    ∙ (ap (λ k. k + length (references_from (suc c) ds)) (map_long (reference c) (mentions_of d)) ∙ ap (λ k. width d + k) (references_long (suc c) ds))

-- the reference of a mention by its number
pub reference_behind : (file : FileNo) (l : Language) (w : Walk) (pre : List Draft) (x : Draft) (post : List Draft) (fs : List Mention) (m : Mention)
    (bs : List Mention) → w.elements ≡ pre ++ x ∷ post → mentions_of x ≡ fs ++ m ∷ bs
    → path_at (model_of file l w) (references_of pre + length fs) ≡ record m.path { place = 0 }
reference_behind file l w pre x post fs m bs e q =
    let n = length pre in
    let more = references_from (suc n) post in
    let front = references_from 0 pre ++ map (reference n) fs in
    let whole : references_from 0 w.elements ≡ front ++ reference n m ∷ (map (reference n) bs ++ more) =
    ap (references_from 0) e
    ∙ (references_split 0 pre x post
    ∙ (ap (λ k. references_from 0 pre ++ (map (reference k) (mentions_of x) ++ references_from (suc k) post)) (plus_none n)
    ∙ (ap (λ ms. references_from 0 pre ++ (map (reference n) ms ++ more)) q
    ∙ (ap (λ rs. references_from 0 pre ++ (rs ++ more)) (map-append (reference n) fs (m ∷ bs))
    ∙ (ap (λ rs. references_from 0 pre ++ rs) (append_assoc (map (reference n) fs) (reference n m ∷ map (reference n) bs) more)
    ∙ sym (append_assoc (references_from 0 pre) (map (reference n) fs) (reference n m ∷ (map (reference n) bs ++ more)))))))) in
    ap (λ rs. path_in (slice_index_or rs (references_of pre + length fs) no_reference)) whole
    ∙ (ap (λ k. path_in (slice_index_or (front ++ reference n m ∷ (map (reference n) bs ++ more)) k no_reference)) (sym (front_long n fs pre))
    ∙ ap path_in (at_length no_reference front (reference n m) (map (reference n) bs ++ more)))
  where
    plus_none : (n : ℕ) → 0 + n ≡ n
    plus_none n = omega arith

    front_long : (n : ℕ) (fs : List Mention) (pre : List Draft)
        → length (references_from 0 pre ++ map (reference n) fs) ≡ references_of pre + length fs
    front_long n fs pre =
        length-append (references_from 0 pre) (map (reference n) fs)
        ∙ (ap (λ k. k + length (map (reference n) fs)) (references_long 0 pre) ∙ ap (λ k. references_of pre + k) (map_long (reference n) fs))

-- The references of an element in some roles.

-- the mentions in these roles
abbrev pub mentions_in : (Role → Bool) → List Mention → List Mention
mentions_in test [] = []
mentions_in test (m ∷ ms) = chosen (test m.role) m (mentions_in test ms)

-- those of two lists
where_append : {A : Type 0} (test : A → Bool) (xs ys : List A) → those_where test (xs ++ ys) ≡ those_where test xs ++ those_where test ys
where_append test [] ys = refl
where_append test (x ∷ xs) ys = ap (chosen (test x) x) (where_append test xs ys) ∙ pick (test x) x (those_where test xs) (those_where test ys)
  where
    pick : {A : Type 0} (b : Bool) (x : A) (xs ys : List A) → chosen b x (xs ++ ys) ≡ chosen b x xs ++ ys
    pick true x xs ys = refl
    pick false x xs ys = refl

-- a number is itself
nat_eq_same : (n : ℕ) → nat_eq n n ≡ true
nat_eq_same n = eq-eqb n n refl

-- all of an element are its own
own_ones : (test : Role → Bool) (c : ℕ) (ms : List Mention)
    → those_where (λ (r : Reference). nat_eq r.context c && test r.role) (map (reference c) ms) ≡ map (reference c) (mentions_in test ms)
own_ones test c [] = refl
own_ones test c (m ∷ ms) =
    ap (λ b. chosen (b && test m.role) (reference c m) (those_where (λ (r : Reference). nat_eq r.context c && test r.role) (map (reference c) ms)))
    (nat_eq_same c)
    ∙ (ap (chosen (test m.role) (reference c m)) (own_ones test c ms) ∙ pick (test m.role) c m (mentions_in test ms))
  where
    pick : (b : Bool) (c : ℕ) (m : Mention) (ms : List Mention) → chosen b (reference c m) (map (reference c) ms) ≡ map (reference c) (chosen b m ms)
    pick true c m ms = refl
    pick false c m ms = refl

-- of another element there are none
other_ones : (test : Role → Bool) (c k : ℕ) (ms : List Mention) → nat_eq k c ≡ false
    → those_where (λ (r : Reference). nat_eq r.context c && test r.role) (map (reference k) ms) ≡ []
other_ones test c k [] e = refl
other_ones test c k (m ∷ ms) e =
    ap (λ b. chosen (b && test m.role) (reference k m) (those_where (λ (r : Reference). nat_eq r.context c && test r.role) (map (reference k) ms))) e
    ∙ other_ones test c k ms e

-- a lesser number is another
less_other : (k n : ℕ) → nat_eq k (suc (k + n)) ≡ false
less_other k n = ne_eqb k (suc (k + n)) (λ e. omega (arith, e))

-- so is a greater one
more_other : (k n : ℕ) → nat_eq (suc (k + n)) k ≡ false
more_other k n = ne_eqb (suc (k + n)) k (λ e. omega (arith, e))

-- none before it
before_none : (test : Role → Bool) (k n : ℕ) (pre : List Draft)
    → those_where (λ (r : Reference). nat_eq r.context (k + (length pre + n)) && test r.role) (references_from k pre) ≡ []
before_none test k n [] = refl
before_none test k n (y ∷ pre) =
    let c = k + (suc (length pre) + n) in
    where_append (λ (r : Reference). nat_eq r.context c && test r.role) (map (reference k) (mentions_of y)) (references_from (suc k) pre)
    ∙ (ap (λ rs. rs ++ those_where (λ (r : Reference). nat_eq r.context c && test r.role) (references_from (suc k) pre))
    (other_ones test c k (mentions_of y) (ap (nat_eq k) (moved k (length pre) n) ∙ less_other k (length pre + n)))
    ∙ (ap (λ j. those_where (λ (r : Reference). nat_eq r.context j && test r.role) (references_from (suc k) pre)) (shifted k (length pre) n)
    ∙ before_none test (suc k) n pre))
  where
    moved : (k p n : ℕ) → k + (suc p + n) ≡ suc (k + (p + n))
    moved k p n = omega arith

    shifted : (k p n : ℕ) → k + (suc p + n) ≡ suc k + (p + n)
    shifted k p n = omega arith

-- none behind it
behind_none : (test : Role → Bool) (c n : ℕ) (post : List Draft)
    → those_where (λ (r : Reference). nat_eq r.context c && test r.role) (references_from (suc (c + n)) post) ≡ []
behind_none test c n [] = refl
behind_none test c n (y ∷ post) =
    where_append (λ (r : Reference). nat_eq r.context c && test r.role) (map (reference (suc (c + n))) (mentions_of y)) (references_from (suc (suc
    (c + n))) post)
    ∙ (ap (λ rs. rs ++ those_where (λ (r : Reference). nat_eq r.context c && test r.role) (references_from (suc (suc (c + n))) post))
    (other_ones test c (suc (c + n)) (mentions_of y) (more_other c n))
    ∙ (ap (λ j. those_where (λ (r : Reference). nat_eq r.context c && test r.role) (references_from j post)) (moved c n) ∙ behind_none test c (suc n) post))
  where
    moved : (c n : ℕ) → suc (suc (c + n)) ≡ suc (c + suc n)
    moved c n = omega arith

-- the references of an element are its mentions
pub references_are : (file : FileNo) (l : Language) (w : Walk) (pre : List Draft) (x : Draft) (post : List Draft) (test : Role → Bool)
    → w.elements ≡ pre ++ x ∷ post
    → references_in (model_of file l w) test (length pre) ≡ map (reference (length pre)) (mentions_in test (mentions_of x))
references_are file l w pre x post test e =
    let n = length pre in
    let f = λ (r : Reference). nat_eq r.context n && test r.role in
    let front = references_from 0 pre in
    let own = map (reference n) (mentions_of x) in
    let more = references_from (suc n) post in
    let all = references_split 0 pre x post
    ∙ ap (λ k. references_from 0 pre ++ (map (reference k) (mentions_of x) ++ references_from (suc k) post)) (plus_none n) in
    ap (λ ds. those_where f (references_from 0 ds)) e
    ∙ (ap (those_where f) all
    ∙ (where_append f front (own ++ more)
    ∙ (ap (λ rs. rs ++ those_where f (own ++ more))
    (ap (λ k. those_where (λ (r : Reference). nat_eq r.context k && test r.role) front) (sum_is n) ∙ before_none test 0 0 pre)
    ∙ (where_append f own more
    ∙ (ap (λ rs. those_where f own ++ rs) (ap (λ k. those_where f (references_from k post)) (ap suc (sym (plus_zero n))) ∙ behind_none test n 0 post)
    ∙ (append-nil (those_where f own) ∙ own_ones test n (mentions_of x)))))))
  where
    plus_none : (n : ℕ) → 0 + n ≡ n
    plus_none n = omega arith

    plus_zero : (n : ℕ) → n + 0 ≡ n
    plus_zero n = omega arith

    sum_is : (n : ℕ) → n ≡ 0 + (n + 0)
    sum_is n = omega arith
