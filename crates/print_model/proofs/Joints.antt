-- Which tokens may stand side by side: what may follow an operand, and what may stand before one.
use Rattle.std.proofs.Common.{◌≡◌, ℕ, Bool, true, false, List, [], ◌∷◌, ◌++◌, refl, ap, sym, subst, ◌∙◌, inl, inr, arith, ◌⊎◌}
use Rattle.std.specs.Prelude.{Option, Some, None, cond, ◌==◌, ◌||◌, is_some, codes}
use Rattle.std.specs.List.{list_all}
use Rattle.std.proofs.lemmas.Bool.Decides.{nat_tests}
use Rattle.linker_base.proofs.Cases.{bool_cases, both_true}
use Rattle.std.specs.Option.{unwrap_or}
use Rattle.element_store.specs.declared.outcome.Language.{Language}
use Rattle.element_store.specs.declared.outcome.Language.TheVariants.{Kerml}
use Rattle.token_core.specs.declared.token.TokenKind.{TokenKind}
use Rattle.token_core.specs.declared.token.TokenKind.TheVariants.{Name, Integer, Quote, Comment, Sign, Word}
use Rattle.token_core.specs.Words.{signs, parted, place_in}
use Rattle.token_core.specs.Bytes.{is_word}
use Rattle.token_core.proofs.Signs.{place_has}
use Rattle.print_model.specs.Printed.{Printed, sign}
use Rattle.print_model.specs.Layout.{is_among, gap}
use Rattle.print_model.proofs.Edges.{Stops, is_inside, outside_behind, stands_outside, none_starts, stops_inside, stops_sign}
use Rattle.print_model.proofs.Following.{IsFit, FollowsKind, Follows, BeginsAfter, Apart, Chained}

-- a name, a word, a number or a string begins with a byte that no sign has
abbrev pub BeginsInside : List ℕ → Type 0
BeginsInside [] = ⊥
BeginsInside (c ∷ cs) = is_inside c ≡ true

-- it is none of a list of signs
none_among : (list : List (List ℕ)) (c : ℕ) (cs : List ℕ) → list_all stands_outside list ≡ true → is_inside c ≡ true → is_some (place_in list (c ∷ cs)) ≡ false
none_among list c cs all e = none list c cs all e (place_in list (c ∷ cs)) refl
  where
    none : (list : List (List ℕ)) (c : ℕ) (cs : List ℕ) → list_all stands_outside list ≡ true → is_inside c ≡ true → (o : Option ℕ) → place_in list (c ∷ cs) ≡ o
        → is_some o ≡ false
    none list c cs all e None at = refl
    none list c cs all e (Some n) at =
        let t : stands_outside (c ∷ cs) ≡ true = place_has stands_outside list (c ∷ cs) n all at in
        let f : stands_outside (c ∷ cs) ≡ false = outside_behind [] cs c e in absurd (cc)

inside_open : (bs : List ℕ) → BeginsInside bs → is_among (codes "[ ( $ :: . ..") bs ≡ false
inside_open [] h = elim h [ ]
inside_open (c ∷ cs) h = none_among (parted (codes "[ ( $ :: . ..")) c cs refl h

inside_close : (bs : List ℕ) → BeginsInside bs → is_among (codes "; , ] ) :: . ..") bs ≡ false
inside_close [] h = elim h [ ]
inside_close (c ∷ cs) h = none_among (parted (codes "; , ] ) :: . ..")) c cs refl h

-- the first bytes of the signs before which no space stands
abbrev pub is_closer : ℕ → Bool
is_closer c = (c == 59) || ((c == 44) || ((c == 93) || ((c == 41) || ((c == 58) || (c == 46)))))

abbrev begins_closer : List ℕ → Bool
begins_closer [] = false
begins_closer (c ∷ cs) = is_closer c

among_closes : (bs : List ℕ) → is_among (codes "; , ] ) :: . ..") bs ≡ true → begins_closer bs ≡ true
among_closes bs e = closes bs (place_in (parted (codes "; , ] ) :: . ..")) bs) refl e
  where
    closes : (bs : List ℕ) → (o : Option ℕ) → place_in (parted (codes "; , ] ) :: . ..")) bs ≡ o → is_some o ≡ true → begins_closer bs ≡ true
    closes bs None at e = absurd (cc)
    closes bs (Some n) at e = place_has begins_closer (parted (codes "; , ] ) :: . ..")) bs n refl at

-- an operand ends with it: a space follows, or a sign that closes, or `::`, `.` or `..`
pub record Closing (p : Printed) : Type 0 where
  pub loose : p.tight ≡ false
  pub shut : is_among (codes "[ ( $ :: . ..") p.bytes ≡ false
  pub stops : (c : ℕ) → is_closer c ≡ true → Follows p c

-- so any token may follow
pub closing_apart : (p q : Printed) → Closing p → Apart p q
closing_apart p q h e = by_close (is_among (codes "; , ] ) :: . ..") q.bytes) refl (gap_shut p q h.loose h.shut)
  where
    gap_shut : (p q : Printed) → p.tight ≡ false → is_among (codes "[ ( $ :: . ..") p.bytes ≡ false
        → gap p q ≡ cond {A = List ℕ} (is_among (codes "; , ] ) :: . ..") q.bytes) [] (32 ∷ [])
    gap_shut p q a b = ap (λ t. cond {A = List ℕ} (t || (is_among (codes "[ ( $ :: . ..") p.bytes || is_among (codes "; , ] ) :: . ..") q.bytes)) [] (32 ∷ []))
        a
        ∙ ap (λ t. cond {A = List ℕ} (t || is_among (codes "; , ] ) :: . ..") q.bytes) [] (32 ∷ [])) b

    no_gap : (xs : List ℕ) → xs ≡ [] → xs ≡ 32 ∷ [] → ⊥
    no_gap xs e k = cc

    begins : (xs : List ℕ) → begins_closer xs ≡ true → BeginsAfter p xs
    begins [] k = cc
    begins (c ∷ cs) k = h.stops c k

    by_close : (b : Bool) → is_among (codes "; , ] ) :: . ..") q.bytes ≡ b → gap p q ≡ cond {A = List ℕ} (is_among (codes "; , ] ) :: . ..") q.bytes) []
        (32 ∷ []) → BeginsAfter p q.bytes
    by_close true k g = begins q.bytes (among_closes q.bytes k)
    by_close false k g = absurd (no_gap (gap p q) e (g ∙ ap (λ b. cond {A = List ℕ} b [] (32 ∷ [])) k))

closer_no_word : (c : ℕ) → is_closer c ≡ true → is_word c ≡ false
closer_no_word c e = grind (arith, nat_tests)

-- it is no sign
abbrev pub IsAtomKind : TokenKind → Type 0
IsAtomKind (Sign n) = ⊥
IsAtomKind other = Unit {0}

-- a name, a word, a number or a string
pub atom_closes : (l : Language) (p : Printed) → IsAtomKind p.kind → p.tight ≡ false → BeginsInside p.bytes → Closing p
atom_closes l p k t b = record { loose = t; shut = inside_open p.bytes b; stops = λ c e. atom_follows p.kind p.bytes c k e }
  where
    atom_follows : (k : TokenKind) (bytes : List ℕ) (c : ℕ) → IsAtomKind k → is_closer c ≡ true → FollowsKind k bytes c
    atom_follows Name bytes c k e = closer_no_word c e
    atom_follows (Word n) bytes c k e = closer_no_word c e
    atom_follows Integer bytes c k e = closer_no_word c e
    atom_follows Quote bytes c k e = tt
    atom_follows Comment bytes c k e = tt
    atom_follows (Sign n) bytes c k e = elim k [ ]

-- the first bytes of signs that begin an operand, or that close
abbrev pub is_opener : ℕ → Bool
is_opener c = (c == 36) || ((c == 40) || ((c == 45) || ((c == 43) || ((c == 44) || ((c == 41) || ((c == 93) || ((c == 91) || (c == 59))))))))

-- the first byte of an operand, or of what closes
abbrev pub begins_operand : ℕ → Bool
begins_operand c = is_inside c || is_opener c

-- what begins an operand, or closes
abbrev pub OpeningBytes : List ℕ → Type 0
OpeningBytes [] = ⊥
OpeningBytes (c ∷ cs) = begins_operand c ≡ true

-- an operand may follow it, or what closes
abbrev pub Taking : Printed → Type 0
Taking p = (c : ℕ) → begins_operand c ≡ true → Follows p c

-- where an operand may begin
abbrev pub Ready : Printed → Type 0
Ready p = Closing p ⊎ Taking p

-- what begins an operand may stand there
pub ready_apart : (p q : Printed) → Ready p → OpeningBytes q.bytes → Apart p q
ready_apart p q (inl h) o = closing_apart p q h
ready_apart p q (inr h) o = λ e. begins p h q.bytes o
  where
    begins : (p : Printed) → Taking p → (xs : List ℕ) → OpeningBytes xs → BeginsAfter p xs
    begins p h [] o = elim o [ ]
    begins p h (c ∷ cs) o = h c o

-- what is no sign begins an operand
pub inside_opens : (bs : List ℕ) → BeginsInside bs → OpeningBytes bs
inside_opens [] h = elim h [ ]
inside_opens (c ∷ cs) h = rw h refl

-- Signs, by tests of the list of signs.

apart_slash : (c : ℕ) → begins_operand c ≡ true → ((c == 47) ≡ false) × ((c == 42) ≡ false)
apart_slash c e = (one c e, two c e)
  where
    one : (c : ℕ) → begins_operand c ≡ true → (c == 47) ≡ false
    one c e = grind (arith, nat_tests)

    two : (c : ℕ) → begins_operand c ≡ true → (c == 42) ≡ false
    two c e = grind (arith, nat_tests)

closer_slash : (c : ℕ) → is_closer c ≡ true → ((c == 47) ≡ false) × ((c == 42) ≡ false)
closer_slash c e = (one c e, two c e)
  where
    one : (c : ℕ) → is_closer c ≡ true → (c == 47) ≡ false
    one c e = grind (arith, nat_tests)

    two : (c : ℕ) → is_closer c ≡ true → (c == 42) ≡ false
    two c e = grind (arith, nat_tests)

-- the byte is in the list
abbrev is_in : List ℕ → ℕ → Bool
is_in [] c = false
is_in (d ∷ ds) c = (c == d) || is_in ds c

-- no sign goes on with any of these bytes
abbrev goes_on_with_none : List ℕ → List ℕ → Bool
goes_on_with_none bytes cs = list_all (λ c. none_starts (bytes ++ c ∷ [])) cs

abbrev takes_all : (bytes : List ℕ) → Bool
takes_all bytes = goes_on_with_none bytes (36 ∷ 40 ∷ 45 ∷ 43 ∷ 44 ∷ 41 ∷ 93 ∷ 91 ∷ 59 ∷ [])

abbrev stops_all : (bytes : List ℕ) → Bool
stops_all bytes = goes_on_with_none bytes (59 ∷ 44 ∷ 93 ∷ 41 ∷ 58 ∷ 46 ∷ [])

among_bytes : (cs : List ℕ) (bytes : List ℕ) (c : ℕ) → goes_on_with_none bytes cs ≡ true → is_in cs c ≡ true → Stops bytes (c ∷ [])
among_bytes [] bytes c all e = cc
among_bytes (d ∷ ds) bytes c all e =
    let b = both_true (none_starts (bytes ++ d ∷ [])) (goes_on_with_none bytes ds) all in
    here d ds bytes c b.0 (bool_cases (c == d)) (λ k. among_bytes ds bytes c b.1 k) e
  where
    same : (c d : ℕ) → (c == d) ≡ true → d ≡ c
    same c d e = grind (arith, nat_tests)

    left_out : (x y : Bool) → (x || y) ≡ true → x ≡ false → y ≡ true
    left_out true y e f = absurd (cc)
    left_out false y e f = e

    here : (d : ℕ) (ds bytes : List ℕ) (c : ℕ) → none_starts (bytes ++ d ∷ []) ≡ true → ((c == d) ≡ true) ⊎ ((c == d) ≡ false)
        → (is_in ds c ≡ true → Stops bytes (c ∷ [])) → is_in (d ∷ ds) c ≡ true → Stops bytes (c ∷ [])
    here d ds bytes c n (inl q) rest e = subst (λ x. Stops bytes (x ∷ [])) (same c d q) (stops_sign bytes [] d n)
    here d ds bytes c n (inr q) rest e = rest (left_out (c == d) (is_in ds c) e q)

-- a sign before an operand
pub sign_takes : (p : Printed) (n : ℕ) → p.kind ≡ Sign n → takes_all p.bytes ≡ true → Taking p
sign_takes p n k all c e = subst (λ (x : TokenKind). FollowsKind x p.bytes c) (sym k) (go p.bytes c all (bool_cases (is_inside c)) e, λ q. apart_slash c e)
  where
    left_out : (x y : Bool) → (x || y) ≡ true → x ≡ false → y ≡ true
    left_out true y e f = absurd (cc)
    left_out false y e f = e

    in_list : (c : ℕ) → is_opener c ≡ true → is_in (36 ∷ 40 ∷ 45 ∷ 43 ∷ 44 ∷ 41 ∷ 93 ∷ 91 ∷ 59 ∷ []) c ≡ true
    in_list c e = grind (arith, nat_tests)

    go : (bytes : List ℕ) (c : ℕ) → takes_all bytes ≡ true → (is_inside c ≡ true) ⊎ (is_inside c ≡ false) → begins_operand c ≡ true
        → (xs : List ℕ) → place_in signs (bytes ++ c ∷ xs) ≡ None
    go bytes c all (inl i) e = stops_inside bytes [] c i
    go bytes c all (inr i) e = among_bytes (36 ∷ 40 ∷ 45 ∷ 43 ∷ 44 ∷ 41 ∷ 93 ∷ 91 ∷ 59 ∷ []) bytes c all (in_list c (left_out (is_inside c) (is_opener c) e i))

-- a sign that ends an operand
pub sign_closes : (p : Printed) (n : ℕ) → p.kind ≡ Sign n → p.tight ≡ false
    → is_among (codes "[ ( $ :: . ..") p.bytes ≡ false → stops_all p.bytes ≡ true → Closing p
sign_closes p n k loose shut all = record {
  loose = loose;
  shut = shut;
  stops = λ c e. subst (λ (x : TokenKind). FollowsKind x p.bytes c) (sym k)
      (among_bytes (59 ∷ 44 ∷ 93 ∷ 41 ∷ 58 ∷ 46 ∷ []) p.bytes c all (in_list c e), λ q. closer_slash c e);
}
  where
    in_list : (c : ℕ) → is_closer c ≡ true → is_in (59 ∷ 44 ∷ 93 ∷ 41 ∷ 58 ∷ 46 ∷ []) c ≡ true
    in_list c e = grind (arith, nat_tests)

-- Lists of tokens between two conditions: behind each token of the first they are chained, and their last token is of the second.

-- the last token
abbrev pub last_of : Printed → List Printed → Printed
last_of p [] = p
last_of p (q ∷ qs) = last_of q qs

-- from each token of one condition over the list to a token of another
abbrev pub Passes : Language → (Printed → Type 0) → List Printed → (Printed → Type 0) → Type 0
Passes l P xs Q = (p : Printed) → P p → Chained l p xs × Q (last_of p xs)

-- none
pub passes_none : (l : Language) (P : Printed → Type 0) → Passes l P [] P
passes_none l P = λ p h. (tt, h)

-- one, and others
pub passes_more : (l : Language) (P R Q : Printed → Type 0) (q : Printed) (qs : List Printed) → IsFit l q → ((p : Printed) → P p → Apart p q) → R q
    → Passes l R qs Q
    → Passes l P (q ∷ qs) Q
passes_more l P R Q q qs fit apart r rest = λ p h. ((fit, apart p h, (rest q r).0), (rest q r).1)

chained_both : (l : Language) (p : Printed) (xs ys : List Printed) → Chained l p xs → Chained l (last_of p xs) ys → Chained l p (xs ++ ys)
chained_both l p [] ys h k = k
chained_both l p (x ∷ xs) ys h k = (h.0, h.1, chained_both l x xs ys h.2 k)

last_both : (p : Printed) (xs ys : List Printed) → last_of p (xs ++ ys) ≡ last_of (last_of p xs) ys
last_both p [] ys = refl
last_both p (x ∷ xs) ys = last_both x xs ys

-- one list after another
pub passes_on : (l : Language) (P R Q : Printed → Type 0) (xs ys : List Printed) → Passes l P xs R → Passes l R ys Q → Passes l P (xs ++ ys) Q
passes_on l P R Q xs ys h k = λ p a.
    (chained_both l p xs ys (h p a).0 (k (last_of p xs) (h p a).1).0, subst Q (sym (last_both p xs ys)) (k (last_of p xs) (h p a).1).1)

-- conditions
pub passes_from : (l : Language) (P R Q : Printed → Type 0) (xs : List Printed) → ((p : Printed) → P p → R p) → Passes l R xs Q → Passes l P xs Q
passes_from l P R Q xs on h = λ p a. h p (on p a)

-- with a weaker condition at the end
pub passes_to : (l : Language) (P R Q : Printed → Type 0) (xs : List Printed) → ((p : Printed) → R p → Q p) → Passes l P xs R → Passes l P xs Q
passes_to l P R Q xs on h = λ p a. ((h p a).0, on (last_of p xs) (h p a).1)

-- Signs: an operand, or what closes, may follow any of them.
signs_take : list_all takes_all signs ≡ true
unfolding signs
signs_take = refl

-- a sign of the list
pub sign_fit : (l : Language) (bytes : List ℕ) → is_some (place_in signs bytes) ≡ true → IsFit l (sign bytes)
sign_fit l bytes e = fit bytes (place_in signs bytes) e
  where
    fit : (bytes : List ℕ) (o : Option ℕ) → is_some o ≡ true → o ≡ Some (unwrap_or o 0)
    fit bytes None e = absurd (cc)
    fit bytes (Some n) e = refl

-- an operand may follow any sign
pub sign_taking : (bytes : List ℕ) → is_some (place_in signs bytes) ≡ true → Taking (sign bytes)
sign_taking bytes e = sign_takes (sign bytes) (unwrap_or (place_in signs bytes) 0) refl
    (place_has takes_all signs bytes (unwrap_or (place_in signs bytes) 0) signs_take (sign_fit Kerml bytes e))

-- it stands by itself but before what closes
pub record Loose (p : Printed) : Type 0 where
  pub loose : p.tight ≡ false
  pub shut : is_among (codes "[ ( $ :: . ..") p.bytes ≡ false
  pub takes : Taking p

-- a space stands before what doesn't close
pub spaced_apart : (p q : Printed) → p.tight ≡ false → is_among (codes "[ ( $ :: . ..") p.bytes ≡ false → is_among (codes "; , ] ) :: . ..") q.bytes ≡ false
    → Apart p q
spaced_apart p q a b c e = absurd (no_gap (gap p q) e
    (ap (λ t. cond {A = List ℕ} (t || (is_among (codes "[ ( $ :: . ..") p.bytes || is_among (codes "; , ] ) :: . ..") q.bytes)) [] (32 ∷ [])) a
    ∙ (ap (λ t. cond {A = List ℕ} (t || is_among (codes "; , ] ) :: . ..") q.bytes) [] (32 ∷ [])) b
    ∙ ap (λ t. cond {A = List ℕ} t [] (32 ∷ [])) c)))
  where
    no_gap : (xs : List ℕ) → xs ≡ [] → xs ≡ 32 ∷ [] → ⊥
    no_gap xs e k = cc
