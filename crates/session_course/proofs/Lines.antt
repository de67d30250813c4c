-- A command's spelling says which command it is.
use Rattle.std.proofs.Common.{◌≡◌, ◌∙◌, ℕ, ◌+◌, ◌*◌, ◌%◌, ◌^◌, ◌<◌, ◌≤◌, Bool, true, false, List, [], ◌∷◌, ◌++◌, length, refl, sym, ap, subst, arith, inl, inr, append_assoc, length-append}
use Rattle.std.proofs.lemmas.Fmt.{decimal_by_steps, decimal_injective, length-decimal-le}
use Rattle.std.specs.Fmt.{decimal}
use Rattle.std.specs.List.{list_all}
use Rattle.std.specs.Prelude.{codes, get_or, nat_eq, nat_le, nat_lt, cond, not, ◌&&◌, ◌||◌, Option, Some, None}
use Rattle.element_store.specs.FileNames.{is_file_name, ends_sysml, ends_kerml, is_name_byte, has_name_length, is_first_byte}
use Rattle.linker_base.specs.declared.limits.TheConstants.{FILE_BYTES}
use Rattle.linker_base.specs.Members.{IsMember}
use Rattle.linker_base.proofs.MemberLaws.{member_cases}
use Rattle.book_model.specs.Answers.{Command as Asked}
use Rattle.session_course.specs.Commands.{Command, put, line_of, body_of, spelling_of, HasForm, limit_passed}

-- both sides of a true `and` are true
pub both_true : (a b : Bool) → (a && b) ≡ true → (a ≡ true) × (b ≡ true)
both_true true true e = (refl, refl)
both_true true false e = (refl, e)
both_true false b e = (e, cc)

-- a byte that fails a test is in no list whose bytes all pass it
not_among : (test : ℕ → Bool) (xs : List ℕ) (b : ℕ) → list_all test xs ≡ true → test b ≡ false → IsMember xs b → ⊥
not_among test [] b all bad m = m
not_among test (x ∷ xs) b all bad (inl e) =
    let good : test b ≡ true = subst (λ y. test y ≡ true) e (both_true (test x) (list_all test xs) all).0 in cc
not_among test (x ∷ xs) b all bad (inr m) = not_among test xs b (both_true (test x) (list_all test xs) all).1 bad m

-- what is in neither list is not in the whole
not_joined : (xs ys : List ℕ) (b : ℕ) → (IsMember xs b → ⊥) → (IsMember ys b → ⊥) → IsMember (xs ++ ys) b → ⊥
not_joined xs ys b f g m = elim (member_cases xs ys b m) [ inl h ↦ f h | inr h ↦ g h ]

-- two lists that are cut at the same byte, which neither front holds, are cut in one way
pub split_once : (b : ℕ) (xs ys front back : List ℕ) → (IsMember xs b → ⊥) → (IsMember ys b → ⊥) → xs ++ b ∷ front ≡ ys ++ b ∷ back → (xs ≡ ys) × (front ≡ back)
split_once b [] [] front back f g e = (refl, cc)
split_once b [] (y ∷ ys) front back f g e = let h : y ≡ b = cc in absurd (g (inl h))
split_once b (x ∷ xs) [] front back f g e = let h : x ≡ b = cc in absurd (f (inl h))
split_once b (x ∷ xs) (y ∷ ys) front back f g e =
    let t : xs ++ b ∷ front ≡ ys ++ b ∷ back = cc in
    let r = split_once b xs ys front back (λ m. f (inr m)) (λ m. g (inr m)) t in
    let first : x ≡ y = cc in
    let rest : xs ≡ ys = r.0 in
    (cc, r.1)

-- lists of one length are the front of a list in one way
pub same_front : (xs ys front back : List ℕ) → length xs ≡ length ys → xs ++ front ≡ ys ++ back → (xs ≡ ys) × (front ≡ back)
same_front [] [] front back l e = (refl, e)
same_front [] (y ∷ ys) front back l e = absurd (omega arith)
same_front (x ∷ xs) [] front back l e = absurd (omega arith)
same_front (x ∷ xs) (y ∷ ys) front back l e =
    let t : xs ++ front ≡ ys ++ back = cc in
    let r = same_front xs ys front back (omega arith) t in
    let first : x ≡ y = cc in
    let rest : xs ≡ ys = r.0 in
    (cc, r.1)

within_200 : (n : ℕ) → nat_le n 200 ≡ true → n ≤ 200
within_200 n h = grind (arith, h)

-- the parts of a NAME
pub name_parts : (name : List ℕ) → is_file_name name ≡ true → (length name ≤ 200) × (list_all is_name_byte name ≡ true)
name_parts name e =
    let front = (both_true _ (ends_sysml name || ends_kerml name) e).0 in
    let two = both_true (has_name_length name && is_first_byte name) (list_all is_name_byte name) front in
    let lengths = both_true (nat_le 7 (length name)) (nat_le (length name) 200) (both_true (has_name_length name) (is_first_byte name) two.0).0 in
    (within_200 (length name) lengths.1, two.1)

-- a NAME holds neither LF nor space
pub name_feed : (name : List ℕ) → is_file_name name ≡ true → IsMember name 10 → ⊥
name_feed name e = not_among is_name_byte name 10 (name_parts name e).1 refl

pub name_space : (name : List ℕ) → is_file_name name ≡ true → IsMember name 32 → ⊥
name_space name e = not_among is_name_byte name 32 (name_parts name e).1 refl

-- these texts hold no LF
fixed_feed : (xs : List ℕ) → list_all (λ b. not (nat_eq b 10)) xs ≡ true → IsMember xs 10 → ⊥
fixed_feed xs all = not_among (λ b. not (nat_eq b 10)) xs 10 all refl

-- digits hold no LF
digits_feed : (n : ℕ) → n < 2 ^ 64 → IsMember (decimal n) 10 → ⊥
digits_feed = decimal_by_steps (λ n ds. IsMember ds 10 → ⊥)
    (λ n small. λ m. elim m [ inl e ↦ omega (arith, e) | inr h ↦ h ])
    (λ n ds large before. not_joined ds ((48 + n % 10) ∷ []) 10 before (λ m. elim m [ inl e ↦ omega (arith, e) | inr h ↦ h ]))

-- a line holds no LF
pub line_feed : (c : Command) → HasForm c → IsMember (line_of c) 10 → ⊥
line_feed (Command.Do (Asked.Put name text)) h =
    not_joined (codes "put " ++ name ++ codes " ") (decimal (length text)) 10
    (not_joined (codes "put " ++ name) (codes " ") 10
    (not_joined (codes "put ") name 10 (fixed_feed (codes "put ") refl) (name_feed name h.0)) (fixed_feed (codes " ") refl))
    (digits_feed (length text) (omega (arith, h.1)))
line_feed (Command.Do (Asked.Drop name)) h = not_joined (codes "drop ") name 10 (fixed_feed (codes "drop ") refl) (name_feed name h)
line_feed (Command.Do (Asked.Links name)) h = not_joined (codes "links ") name 10 (fixed_feed (codes "links ") refl) (name_feed name h)
line_feed (Command.Do Asked.Check) h = fixed_feed (codes "check") refl
line_feed (Command.Do (Asked.Find words)) h = not_joined (codes "find ") words 10 (fixed_feed (codes "find ") refl) h
line_feed (Command.Do Asked.Implied) h = fixed_feed (codes "implied") refl
line_feed (Command.Do (Asked.Print name)) h = not_joined (codes "print ") name 10 (fixed_feed (codes "print ") refl) (name_feed name h)
line_feed Command.End h = fixed_feed (codes "end") refl

-- the line of a put is short
pub put_short : (name text : List ℕ) → HasForm (put name text) → length (line_of (put name text)) ≤ 215
put_short name text h =
    omega (
      arith,
      length-append (codes "put " ++ name ++ codes " ") (decimal (length text)),
      length-append (codes "put " ++ name) (codes " "),
      length-append (codes "put ") name,
      (name_parts name h.0).0,
      length-decimal-le 10 (length text) (omega arith) (omega (arith, h.1)) (omega (arith, h.1)),
    )

-- the first two bytes of a line, as one number
abbrev pub heading_of : List ℕ → ℕ
heading_of line = get_or line 0 0 * 256 + get_or line 1 0

-- and those of the line of a command
abbrev pub word_of : Command → ℕ
word_of (Command.Do (Asked.Put name text)) = 28789
word_of (Command.Do (Asked.Drop name)) = 25714
word_of (Command.Do (Asked.Links name)) = 27753
word_of (Command.Do Asked.Check) = 25448
word_of (Command.Do (Asked.Find words)) = 26217
word_of (Command.Do Asked.Implied) = 26989
word_of (Command.Do (Asked.Print name)) = 28786
word_of Command.End = 25966

pub word_stands : (c : Command) → heading_of (line_of c) ≡ word_of c
word_stands (Command.Do (Asked.Put name text)) = refl
word_stands (Command.Do (Asked.Drop name)) = refl
word_stands (Command.Do (Asked.Links name)) = refl
word_stands (Command.Do Asked.Check) = refl
word_stands (Command.Do (Asked.Find words)) = refl
word_stands (Command.Do Asked.Implied) = refl
word_stands (Command.Do (Asked.Print name)) = refl
word_stands Command.End = refl

-- commands of one line have one word
pub words_same : (c d : Command) → line_of c ≡ line_of d → word_of c ≡ word_of d
words_same c d e = sym (word_stands c) ∙ (ap heading_of e ∙ word_stands d)

-- what a spelling and what follows it are: the line, LF, and the rest
pub spelt_by_line : (c : Command) (rest : List ℕ) → spelling_of c ++ rest ≡ line_of c ++ 10 ∷ (body_of c ++ rest)
spelt_by_line c rest = append_assoc (line_of c ++ codes "\n") (body_of c) rest ∙ append_assoc (line_of c) (codes "\n") (body_of c ++ rest)

-- a line has its LF in one place
pub line_ends_once : (c : Command) (line rest back : List ℕ) → HasForm c → (IsMember line 10 → ⊥) → spelling_of c ++ rest ≡ line ++ 10 ∷ back
    → (line_of c ≡ line) × (body_of c ++ rest ≡ back)
line_ends_once c line rest back h free e = split_once 10 (line_of c) line (body_of c ++ rest) back (line_feed c h) free (sym (spelt_by_line c rest) ∙ e)

-- the line of a put says the name and the length of the text
pub put_line_same : (name other text later : List ℕ) → HasForm (put name text) → HasForm (put other later)
    → line_of (put name text) ≡ line_of (put other later) → (name ≡ other) × (length text ≡ length later)
put_line_same name other text later h k e =
    let apart : (codes "put " ++ name) ++ 32 ∷ decimal (length text) ≡ (codes "put " ++ other) ++ 32 ∷ decimal (length later) =
    sym (append_assoc (codes "put " ++ name) (codes " ") (decimal (length text)))
    ∙ (e ∙ append_assoc (codes "put " ++ other) (codes " ") (decimal (length later))) in
    let named : name ++ 32 ∷ decimal (length text) ≡ other ++ 32 ∷ decimal (length later) = cc in
    let parts = split_once 32 name other (decimal (length text)) (decimal (length later)) (name_space name h.0) (name_space other k.0) named in
    (parts.0, decimal_injective (length text) (length later) (omega (arith, h.1)) (omega (arith, k.1)) parts.1)

-- no other command has the word of `end`
not_end : (c : Asked) → word_of (Command.Do c) ≡ 25966 → ⊥
not_end (Asked.Put name text) e = omega (arith, e)
not_end (Asked.Drop name) e = omega (arith, e)
not_end (Asked.Links name) e = omega (arith, e)
not_end Asked.Check e = omega (arith, e)
not_end (Asked.Find words) e = omega (arith, e)
not_end Asked.Implied e = omega (arith, e)
not_end (Asked.Print name) e = omega (arith, e)

-- commands of one line, whose bodies stand at the front of the same bytes, are the same
body_same : (c d : Command) (rest left : List ℕ) → HasForm c → HasForm d → line_of c ≡ line_of d → word_of c ≡ word_of d
    → body_of c ++ rest ≡ body_of d ++ left → (c ≡ d) × (rest ≡ left)
body_same (Command.Do (Asked.Put name text)) (Command.Do (Asked.Put other later)) rest left h k line word body =
    let parts = put_line_same name other text later h k line in
    let whole : text ++ 10 ∷ rest ≡ later ++ 10 ∷ left = sym (append_assoc text (codes "\n") rest) ∙ (body ∙ append_assoc later (codes "\n") left) in
    let texts = same_front text later (10 ∷ rest) (10 ∷ left) parts.1 whole in
    let names : name ≡ other = parts.0 in
    let same : text ≡ later = texts.0 in
    let back : 10 ∷ rest ≡ 10 ∷ left = texts.1 in
    (cc, cc)
body_same (Command.Do (Asked.Drop name)) (Command.Do (Asked.Drop other)) rest left h k line word body = let same : name ≡ other = cc in (cc, body)
body_same (Command.Do (Asked.Links name)) (Command.Do (Asked.Links other)) rest left h k line word body = let same : name ≡ other = cc in (cc, body)
body_same (Command.Do Asked.Check) (Command.Do Asked.Check) rest left h k line word body = (refl, body)
body_same (Command.Do (Asked.Find words)) (Command.Do (Asked.Find other)) rest left h k line word body = let same : words ≡ other = cc in (cc, body)
body_same (Command.Do Asked.Implied) (Command.Do Asked.Implied) rest left h k line word body = (refl, body)
body_same (Command.Do (Asked.Print name)) (Command.Do (Asked.Print other)) rest left h k line word body = let same : name ≡ other = cc in (cc, body)
body_same Command.End Command.End rest left h k line word body = (refl, body)
body_same Command.End (Command.Do d) rest left h k line word body = absurd (not_end d (sym word))
body_same c d rest left h k line word body = absurd (omega (arith, word))

-- a spelling and what follows it are read in one way
pub spelling_same : (c d : Command) (rest left : List ℕ) → HasForm c → HasForm d → spelling_of c ++ rest ≡ spelling_of d ++ left → (c ≡ d) × (rest ≡ left)
spelling_same c d rest left h k e =
    let parts = line_ends_once c (line_of d) rest (body_of d ++ left) h (line_feed d k) (e ∙ spelt_by_line d left) in
    body_same c d rest left h k parts.0 (words_same c d parts.0) parts.1

-- the lengths of texts say which limit is passed
abbrev passed_by : ℕ → Option ℕ
passed_by n = cond (nat_lt FILE_BYTES n) (Some FILE_BYTES) None

passed_by_word : (c d : Command) → HasForm c → HasForm d → line_of c ≡ line_of d → word_of c ≡ word_of d → limit_passed c ≡ limit_passed d
passed_by_word (Command.Do (Asked.Put name text)) (Command.Do (Asked.Put other later)) h k line word =
    ap passed_by (put_line_same name other text later h k line).1
passed_by_word (Command.Do (Asked.Drop name)) (Command.Do (Asked.Drop other)) h k line word = refl
passed_by_word (Command.Do (Asked.Links name)) (Command.Do (Asked.Links other)) h k line word = refl
passed_by_word (Command.Do Asked.Check) (Command.Do Asked.Check) h k line word = refl
passed_by_word (Command.Do (Asked.Find words)) (Command.Do (Asked.Find other)) h k line word = refl
passed_by_word (Command.Do Asked.Implied) (Command.Do Asked.Implied) h k line word = refl
passed_by_word (Command.Do (Asked.Print name)) (Command.Do (Asked.Print other)) h k line word = refl
passed_by_word Command.End Command.End h k line word = refl
passed_by_word Command.End (Command.Do d) h k line word = absurd (not_end d (sym word))
passed_by_word c d h k line word = absurd (omega (arith, word))

-- commands of one line pass the same limit
pub passed_same : (c d : Command) → HasForm c → HasForm d → line_of c ≡ line_of d → limit_passed c ≡ limit_passed d
passed_same c d h k line = passed_by_word c d h k line (words_same c d line)
