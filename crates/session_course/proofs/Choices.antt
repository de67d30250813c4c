-- Which command's line stands at the front of given bytes, if one does: each question has an answer.
use Rattle.std.proofs.Common.{◌≡◌, ◌∙◌, ℕ, zero, suc, ◌≤◌, true, false, List, [], ◌∷◌, ◌++◌, length, take, drop, refl, sym, ap, subst, arith, inl, inr, append_assoc}
use Rattle.std.proofs.Math.ListN.{replicate}
use Rattle.std.proofs.Math.Seq.{take-length}
use Rattle.std.proofs.lemmas.Bool.{cases_lt}
use Rattle.std.proofs.lemmas.List.{length-replicate, take-append-drop, take-append-le}
use Rattle.std.proofs.lemmas.Slice.Eq.{bytes_eq-Decides}
use Rattle.std.specs.Fmt.{decimal}
use Rattle.std.specs.Prelude.{codes, bytes_eq, ◌⊎◌}
use Rattle.linker_base.specs.Members.{IsMember}
use Rattle.linker_base.proofs.Cases.{bool_cases}
use Rattle.linker_base.proofs.MemberLaws.{member_right}
use Rattle.element_store.specs.FileNames.{is_file_name}
use Rattle.book_model.specs.Answers.{Command as Asked}
use Rattle.session_course.specs.Commands.{Command, put, line_of, HasForm}
use Rattle.session_course.proofs.Lines.{split_once, name_space, heading_of, word_of, word_stands}

-- two numbers are the same, or they aren't
pub same_numbers : (m n : ℕ) → (m ≡ n) ⊎ (m ≡ n → ⊥)
same_numbers m n = elim (cases_lt m n) [
  | inl less ↦ inr (λ e. omega arith)
  | inr le ↦ elim (cases_lt n m) [ inl less ↦ inr (λ e. omega arith) | inr ge ↦ inl (omega arith) ]
]

-- two texts are the same, or they aren't
pub same_texts : (xs ys : List ℕ) → (xs ≡ ys) ⊎ (xs ≡ ys → ⊥)
same_texts xs ys = elim (bool_cases (bytes_eq xs ys)) [
  | inl good ↦ inl ((bytes_eq-Decides xs ys).0 good)
  | inr bad ↦ inr (λ e. let good : bytes_eq xs ys ≡ true = (bytes_eq-Decides xs ys).1 e in cc)
]

-- the byte's first place parts the bytes
pub record IsParted (byte : ℕ) (bytes : List ℕ) : Type 0 where
  pub front : List ℕ
  pub back : List ℕ
  pub free : IsMember front byte → ⊥
  pub stands : bytes ≡ front ++ byte ∷ back

part_next : (byte x : ℕ) (xs : List ℕ) → (x ≡ byte) ⊎ (x ≡ byte → ⊥) → IsParted byte xs ⊎ (IsMember xs byte → ⊥)
    → IsParted byte (x ∷ xs) ⊎ (IsMember (x ∷ xs) byte → ⊥)
part_next byte x xs (inl e) later = inl (record { front = []; back = xs; free = λ m. m; stands = ap (λ y. y ∷ xs) e })
part_next byte x xs (inr other) (inl p) =
    inl (record { front = x ∷ p.front; back = p.back; free = λ m. elim m [ inl e ↦ other e | inr h ↦ p.free h ]; stands = ap (λ ys. x ∷ ys) p.stands })
part_next byte x xs (inr other) (inr none) = inr (λ m. elim m [ inl e ↦ other e | inr h ↦ none h ])

-- the byte has a first place, or it stands nowhere
pub part_at : (byte : ℕ) (bytes : List ℕ) → IsParted byte bytes ⊎ (IsMember bytes byte → ⊥)
part_at byte [] = inr (λ m. m)
part_at byte (x ∷ xs) = part_next byte x xs (same_numbers x byte) (part_at byte xs)

-- the digits say a number that is at most so great
pub record HasCount (digits : List ℕ) (most : ℕ) : Type 0 where
  pub count : ℕ
  pub within : count ≤ most
  pub says : digits ≡ decimal count

-- they do, or they say none
pub count_within : (digits : List ℕ) (most : ℕ) → HasCount digits most ⊎ ((n : ℕ) → n ≤ most → digits ≡ decimal n → ⊥)
count_within digits zero = elim (same_texts digits (decimal 0)) [
  | inl e ↦ inl (record { count = 0; within = omega arith; says = e })
  | inr other ↦ inr (λ n le e. let z : n ≡ 0 = omega arith in other (e ∙ ap decimal z))
]
count_within digits (suc most) = elim (count_within digits most) [
  | inl h ↦ inl (record { count = h.count; within = omega (arith, h.within); says = h.says })
  | inr none ↦ elim (same_texts digits (decimal (suc most))) [
    | inl e ↦ inl (record { count = suc most; within = omega arith; says = e })
    | inr other ↦ inr (λ n le e. elim (same_numbers n (suc most)) [ inl z ↦ other (e ∙ ap decimal z) | inr less ↦ none n (omega (arith, le, less)) e ])
  ]
]

-- the line is that of a command that has a form
pub record Says (line : List ℕ) : Type 0 where
  pub command : Command
  pub form : HasForm command
  pub stands : line_of command ≡ line

-- it is that of none
abbrev pub SaysNothing : List ℕ → Type 0
SaysNothing line = (c : Command) → HasForm c → line_of c ≡ line → ⊥

-- which word a command has that has this line
word_in : (c : Command) (line : List ℕ) → line_of c ≡ line → word_of c ≡ heading_of line
word_in c line e = sym (word_stands c) ∙ ap heading_of e

-- a line with this prefix is the prefix and the rest
prefix_stands : (line prefix : List ℕ) → bytes_eq (take (length prefix) line) prefix ≡ true → prefix ++ drop (length prefix) line ≡ line
prefix_stands line prefix e =
    ap (λ xs. xs ++ drop (length prefix) line) (sym ((bytes_eq-Decides (take (length prefix) line) prefix).0 e))
    ∙ take-append-drop (length prefix) line

-- no line without this prefix begins with it
prefix_lacks : (line prefix rest : List ℕ) → bytes_eq (take (length prefix) line) prefix ≡ false → prefix ++ rest ≡ line → ⊥
prefix_lacks line prefix rest e is =
    let same : take (length prefix) line ≡ prefix =
    ap (λ xs. take (length prefix) xs) (sym is) ∙ (take-append-le (length prefix) prefix rest (omega arith) ∙ take-length prefix) in
    let yes : bytes_eq (take (length prefix) line) prefix ≡ true = (bytes_eq-Decides (take (length prefix) line) prefix).1 same in
    cc

-- no command's line begins with `drop ` where no name follows
drop_none : (c : Command) (name : List ℕ) → is_file_name name ≡ false → HasForm c → word_of c ≡ 25714 → line_of c ≡ codes "drop " ++ name → ⊥
drop_none (Command.Do (Asked.Drop other)) name bad form word e =
    let same : other ≡ name = cc in
    let good : is_file_name name ≡ true = subst (λ xs. is_file_name xs ≡ true) same form in cc
drop_none c name bad form word e = omega (arith, word)

drop_says : (name : List ℕ) → Says (codes "drop " ++ name) ⊎ SaysNothing (codes "drop " ++ name)
drop_says name = elim (bool_cases (is_file_name name)) [
  | inl good ↦ inl (record { command = Command.Do (Asked.Drop name); form = good; stands = refl })
  | inr bad ↦ inr (λ c form e. drop_none c name bad form (word_in c (codes "drop " ++ name) e) e)
]

-- nor with `links `
links_none : (c : Command) (name : List ℕ) → is_file_name name ≡ false → HasForm c → word_of c ≡ 27753 → line_of c ≡ codes "links " ++ name → ⊥
links_none (Command.Do (Asked.Links other)) name bad form word e =
    let same : other ≡ name = cc in
    let good : is_file_name name ≡ true = subst (λ xs. is_file_name xs ≡ true) same form in cc
links_none c name bad form word e = omega (arith, word)

links_says : (name : List ℕ) → Says (codes "links " ++ name) ⊎ SaysNothing (codes "links " ++ name)
links_says name = elim (bool_cases (is_file_name name)) [
  | inl good ↦ inl (record { command = Command.Do (Asked.Links name); form = good; stands = refl })
  | inr bad ↦ inr (λ c form e. links_none c name bad form (word_in c (codes "links " ++ name) e) e)
]

-- nor with `print `
print_none : (c : Command) (name : List ℕ) → is_file_name name ≡ false → HasForm c → word_of c ≡ 28786 → line_of c ≡ codes "print " ++ name → ⊥
print_none (Command.Do (Asked.Print other)) name bad form word e =
    let same : other ≡ name = cc in
    let good : is_file_name name ≡ true = subst (λ xs. is_file_name xs ≡ true) same form in cc
print_none c name bad form word e = omega (arith, word)

print_says : (name : List ℕ) → Says (codes "print " ++ name) ⊎ SaysNothing (codes "print " ++ name)
print_says name = elim (bool_cases (is_file_name name)) [
  | inl good ↦ inl (record { command = Command.Do (Asked.Print name); form = good; stands = refl })
  | inr bad ↦ inr (λ c form e. print_none c name bad form (word_in c (codes "print " ++ name) e) e)
]

-- any words without LF follow `find `
find_none : (c : Command) (words : List ℕ) → IsMember words 10 → HasForm c → word_of c ≡ 26217 → line_of c ≡ codes "find " ++ words → ⊥
find_none (Command.Do (Asked.Find other)) words feed form word e =
    let same : other ≡ words = cc in form (subst (λ xs. IsMember xs 10) (sym same) feed)
find_none c words feed form word e = omega (arith, word)

find_says : (words : List ℕ) → Says (codes "find " ++ words) ⊎ SaysNothing (codes "find " ++ words)
find_says words = elim (part_at 10 words) [
  | inl p ↦ inr (λ c form e. find_none c words (subst (λ xs. IsMember xs 10) (sym p.stands) (member_right p.front (10 ∷ p.back) 10 (inl refl))) form
      (word_in c (codes "find " ++ words) e) e)
  | inr free ↦ inl (record { command = Command.Do (Asked.Find words); form = free; stands = refl })
]

-- the words after `put ` are the name, a space and the number
put_words : (words before after name text : List ℕ) → words ≡ before ++ 32 ∷ after → (IsMember before 32 → ⊥) → HasForm (put name text)
    → line_of (put name text) ≡ codes "put " ++ words → (name ≡ before) × (decimal (length text) ≡ after)
put_words words before after name text parts free form line =
    let whole : (codes "put " ++ name) ++ 32 ∷ decimal (length text) ≡ codes "put " ++ words =
    sym (append_assoc (codes "put " ++ name) (codes " ") (decimal (length text))) ∙ line in
    let named : name ++ 32 ∷ decimal (length text) ≡ words = cc in
    split_once 32 name before (decimal (length text)) after (name_space name form.0) free (named ∙ parts)

-- a put's line has a space after `put `
put_spaced : (words name text : List ℕ) → line_of (put name text) ≡ codes "put " ++ words → IsMember words 32
put_spaced words name text line =
    let whole : (codes "put " ++ name) ++ 32 ∷ decimal (length text) ≡ codes "put " ++ words =
    sym (append_assoc (codes "put " ++ name) (codes " ") (decimal (length text))) ∙ line in
    let named : name ++ 32 ∷ decimal (length text) ≡ words = cc in
    subst (λ xs. IsMember xs 32) named (member_right name (32 ∷ decimal (length text)) 32 (inl refl))

-- where a line begins with `put `, it is no other command's
put_alone : (c : Command) (words : List ℕ) → ((name text : List ℕ) → HasForm (put name text) → line_of (put name text) ≡ codes "put " ++ words → ⊥)
    → HasForm c → word_of c ≡ 28789 → line_of c ≡ codes "put " ++ words → ⊥
put_alone (Command.Do (Asked.Put name text)) words other form word e = other name text form e
put_alone c words other form word e = omega (arith, word)

put_none : (words : List ℕ) → ((name text : List ℕ) → HasForm (put name text) → line_of (put name text) ≡ codes "put " ++ words → ⊥)
    → SaysNothing (codes "put " ++ words)
put_none words other c form e = put_alone c words other form (word_in c (codes "put " ++ words) e) e

-- what follows the space says a number, or the line is no command's
put_count : (words : List ℕ) (p : IsParted 32 words) → is_file_name p.front ≡ true → Says (codes "put " ++ words) ⊎ SaysNothing (codes "put " ++ words)
put_count words p good = elim (count_within p.back 9999999999) [
  | inl h ↦
      let filler = replicate h.count 0 in
      let size : length filler ≡ h.count = length-replicate {A = ℕ} h.count 0 in
      let digits : decimal (length filler) ≡ p.back = ap decimal size ∙ sym h.says in
      inl (record {
        command = put p.front filler;
        form = (good, omega (arith, size, h.within));
        stands = ap (λ ds. (codes "put " ++ p.front ++ codes " ") ++ ds) digits
            ∙ (append_assoc (codes "put " ++ p.front) (codes " ") p.back ∙ ap (λ ws. codes "put " ++ ws) (sym p.stands));
      })
  | inr none ↦ inr (put_none words (λ name text form e.
      none (length text) (omega (arith, form.1)) (sym (put_words words p.front p.back name text p.stands p.free form e).1)))
]

-- what follows `put ` is a name, a space and a number, or the line is no command's
put_says : (words : List ℕ) → Says (codes "put " ++ words) ⊎ SaysNothing (codes "put " ++ words)
put_says words = elim (part_at 32 words) [
  | inl p ↦ elim (bool_cases (is_file_name p.front)) [
    | inl good ↦ put_count words p good
    | inr bad ↦ inr (put_none words (λ name text form e.
        let named = put_words words p.front p.back name text p.stands p.free form e in
        let good : is_file_name p.front ≡ true = subst (λ xs. is_file_name xs ≡ true) named.0 form.0 in cc))
  ]
  | inr none ↦ inr (put_none words (λ name text form e. none (put_spaced words name text e)))
]

-- the line isn't that of a command of one word, and begins with no word of another command
pub record IsOther (line : List ℕ) : Type 0 where
  pub no_end : bytes_eq line (codes "end") ≡ false
  pub no_check : bytes_eq line (codes "check") ≡ false
  pub no_implied : bytes_eq line (codes "implied") ≡ false
  pub no_drop : bytes_eq (take 5 line) (codes "drop ") ≡ false
  pub no_links : bytes_eq (take 6 line) (codes "links ") ≡ false
  pub no_print : bytes_eq (take 6 line) (codes "print ") ≡ false
  pub no_find : bytes_eq (take 5 line) (codes "find ") ≡ false
  pub no_put : bytes_eq (take 4 line) (codes "put ") ≡ false

-- the line is another one
not_bare : (line bare : List ℕ) → bytes_eq line bare ≡ false → bare ≡ line → ⊥
not_bare line bare bad e = let good : bytes_eq line bare ≡ true = (bytes_eq-Decides line bare).1 (sym e) in cc

-- so it is that of no command
pub other_none : (line : List ℕ) → IsOther line → SaysNothing line
other_none line o (Command.Do (Asked.Put name text)) form e =
    prefix_lacks line (codes "put ") (name ++ codes " " ++ decimal (length text)) o.no_put e
other_none line o (Command.Do (Asked.Drop name)) form e = prefix_lacks line (codes "drop ") name o.no_drop e
other_none line o (Command.Do (Asked.Links name)) form e = prefix_lacks line (codes "links ") name o.no_links e
other_none line o (Command.Do Asked.Check) form e = not_bare line (codes "check") o.no_check e
other_none line o (Command.Do (Asked.Find words)) form e = prefix_lacks line (codes "find ") words o.no_find e
other_none line o (Command.Do Asked.Implied) form e = not_bare line (codes "implied") o.no_implied e
other_none line o (Command.Do (Asked.Print name)) form e = prefix_lacks line (codes "print ") name o.no_print e
other_none line o Command.End form e = not_bare line (codes "end") o.no_end e

-- a line of one word is that of a command, or another one
bare_says : (line bare : List ℕ) (c : Command) → HasForm c → line_of c ≡ bare → Says line ⊎ (bytes_eq line bare ≡ false)
bare_says line bare c form is = elim (bool_cases (bytes_eq line bare)) [
  | inl e ↦ inl (record { command = c; form = form; stands = is ∙ sym ((bytes_eq-Decides line bare).0 e) })
  | inr other ↦ inr other
]

-- a line that begins so is that of a command or of none, or another one
prefix_says : (line prefix : List ℕ) → ((rest : List ℕ) → Says (prefix ++ rest) ⊎ SaysNothing (prefix ++ rest))
    → (Says line ⊎ SaysNothing line) ⊎ (bytes_eq (take (length prefix) line) prefix ≡ false)
prefix_says line prefix says = elim (bool_cases (bytes_eq (take (length prefix) line) prefix)) [
  | inl p ↦ inl (subst (λ l. Says l ⊎ SaysNothing l) (prefix_stands line prefix p) (says (drop (length prefix) line)))
  | inr other ↦ inr other
]

-- each line is that of a command, or of none
pub says_of : (line : List ℕ) → Says line ⊎ SaysNothing line
says_of line = elim (bare_says line (codes "end") Command.End tt refl) [
  | inl s ↦ inl s
  | inr no_end ↦ elim (bare_says line (codes "check") (Command.Do Asked.Check) tt refl) [
    | inl s ↦ inl s
    | inr no_check ↦ elim (bare_says line (codes "implied") (Command.Do Asked.Implied) tt refl) [
      | inl s ↦ inl s
      | inr no_implied ↦ elim (prefix_says line (codes "drop ") drop_says) [
        | inl s ↦ s
        | inr no_drop ↦ elim (prefix_says line (codes "links ") links_says) [
          | inl s ↦ s
          | inr no_links ↦ elim (prefix_says line (codes "print ") print_says) [
            | inl s ↦ s
            | inr no_print ↦ elim (prefix_says line (codes "find ") find_says) [
              | inl s ↦ s
              | inr no_find ↦ elim (prefix_says line (codes "put ") put_says) [
                | inl s ↦ s
                | inr no_put ↦ inr (other_none line (record {
                  no_end = no_end;
                  no_check = no_check;
                  no_implied = no_implied;
                  no_drop = no_drop;
                  no_links = no_links;
                  no_print = no_print;
                  no_find = no_find;
                  no_put = no_put;
                }))
              ]
            ]
          ]
        ]
      ]
    ]
  ]
]
