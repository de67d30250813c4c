-- Places of bytes, and what lines say.
use Rattle.std.proofs.Common.{◌≡◌, ◌∙◌, ℕ, suc, zero, ◌+◌, ◌^◌, ◌<◌, true, List, [], ◌∷◌, ◌++◌, length, take, drop, get_or, refl, sym, ap, subst, arith, inl, inr, add-one, append_assoc}
use Rattle.std.proofs.Math.ListN.{replicate}
use Rattle.std.proofs.Math.Seq.{drop-cons, take-length}
use Rattle.std.proofs.lemmas.Bool.{eq-eqb, eqb-true, lt-ltb}
use Rattle.std.proofs.lemmas.List.{length-replicate, take-append-drop}
use Rattle.std.proofs.lemmas.Slice.Eq.{bytes_eq-Decides}
use Rattle.std.specs.Fmt.{decimal}
use Rattle.std.specs.Prelude.{codes, bytes_eq, Option, Err, Some, None, slice_index, cond, nat_lt}
use Rattle.memchr.specs.Find.{IsFirstByte, is_byte}
use Rattle.linker_base.specs.declared.limits.TheConstants.{FILE_BYTES}
use Rattle.linker_base.specs.Members.{IsMember}
use Rattle.linker_base.proofs.MemberLaws.{member_right}
use Rattle.element_store.specs.FileNames.{is_file_name}
use Rattle.book_model.specs.Answers.{Command as Asked}
use Rattle.session_course.specs.Commands.{Command as Meant, put, line_of, HasForm}
use Rattle.session_course.proofs.Lines.{split_once, name_space, heading_of, word_of, word_stands}
use Rattle.script_commands.specs.Lines.{IsPlaceOf, IsNamed, PassesLimit, IsHeading}
use Rattle.script_commands.specs.declared.command.ReadStop.{ReadStop}
use Rattle.script_commands.specs.declared.command.ReadStop.TheVariants.{LongLine, NoForm, LongText, NoLineFeed, LongInput, CutShort, ReadFault, NoMemory}

-- ---- the place of a byte

-- the byte stands at none of the first places, so it isn't among the first bytes
free_upto : (b n : ℕ) (xs : List ℕ) → ((k : ℕ) → k < n → k < length xs → is_byte b (slice_index xs k) ≡ true → ⊥) → IsMember (take n xs) b → ⊥
free_upto b zero [] none m = m
free_upto b zero (x ∷ xs) none m = m
free_upto b (suc n) [] none m = m
free_upto b (suc n) (x ∷ xs) none (inl e) = none 0 (omega arith) (omega arith) (eq-eqb x b e)
free_upto b (suc n) (x ∷ xs) none (inr m) = free_upto b n xs (λ k lt within e. none (suc k) (omega arith) (omega arith) e) m

-- what stands at a place parts the bytes
pub place_parts : (bytes : List ℕ) (i d : ℕ) → i < length bytes → bytes ≡ take i bytes ++ get_or bytes i d ∷ drop (i + 1) bytes
place_parts bytes i d lt =
    sym (take-append-drop i bytes)
    ∙ ap (λ xs. take i bytes ++ xs) (drop-cons bytes i d lt ∙ ap (λ k. get_or bytes i d ∷ drop k bytes) (sym (add-one i)))

-- the first place of a byte, as a search tells it
pub place_found : (b : ℕ) (bytes : List ℕ) (found : Option ℕ) → IsFirstByte (is_byte b) bytes found → IsPlaceOf b bytes found
place_found b bytes None none = λ m. free_upto b (length bytes) bytes (λ k lt within e. none k (omega arith) within e)
    (subst (λ xs. IsMember xs b) (sym (take-length bytes)) m)
place_found b bytes (Some i) (first, here) =
    let is : get_or bytes i 0 ≡ b = eqb-true (get_or bytes i 0) b here in (
      first.high,
      place_parts bytes i 0 first.high ∙ ap (λ x. take i bytes ++ x ∷ drop (i + 1) bytes) is,
      free_upto b i bytes (λ k lt within e. first.before k (omega arith) lt e),
    )

-- ---- what lines say

-- a line with this prefix is the prefix and the rest
pub prefix_stands : (line prefix : List ℕ) → bytes_eq (take (length prefix) line) prefix ≡ true → prefix ++ drop (length prefix) line ≡ line
prefix_stands line prefix e =
    ap (λ xs. xs ++ drop (length prefix) line) (sym ((bytes_eq-Decides (take (length prefix) line) prefix).0 e))
    ∙ take-append-drop (length prefix) line

-- which word a command has that has this line
word_in : (c : Meant) (line : List ℕ) → line_of c ≡ line → word_of c ≡ heading_of line
word_in c line e = sym (word_stands c) ∙ ap heading_of e

-- the words after `put ` are the name, a space and the number
put_words : (words before after name text : List ℕ) → words ≡ before ++ 32 ∷ after → (IsMember before 32 → ⊥) → HasForm (put name text)
    → line_of (put name text) ≡ codes "put " ++ words → (name ≡ before) × (decimal (length text) ≡ after)
put_words words before after name text parts free form line =
    let whole : (codes "put " ++ name) ++ 32 ∷ decimal (length text) ≡ codes "put " ++ words =
    sym (append_assoc (codes "put " ++ name) (codes " ") (decimal (length text))) ∙ line in
    let named : name ++ 32 ∷ decimal (length text) ≡ words = cc in
    split_once 32 name before (decimal (length text)) after (name_space name form.0) free (named ∙ parts)

-- a line that begins with `put ` is no other command's
put_alone : (c : Meant) (words : List ℕ) → ((name text : List ℕ) → HasForm (put name text) → line_of (put name text) ≡ codes "put " ++ words → ⊥)
    → HasForm c → word_of c ≡ 28789 → line_of c ≡ codes "put " ++ words → ⊥
put_alone (Meant.Do (Asked.Put name text)) words other form word e = other name text form e
put_alone c words other form word e = omega (arith, word)

put_none : (words : List ℕ) → ((name text : List ℕ) → HasForm (put name text) → line_of (put name text) ≡ codes "put " ++ words → ⊥)
    → (c : Meant) → HasForm c → line_of c ≡ codes "put " ++ words → ⊥
put_none words other c form e = put_alone c words other form (word_in c (codes "put " ++ words) e) e

-- a put's line has a space after `put `
put_spaced : (words name text : List ℕ) → line_of (put name text) ≡ codes "put " ++ words → IsMember words 32
put_spaced words name text line =
    let whole : (codes "put " ++ name) ++ 32 ∷ decimal (length text) ≡ codes "put " ++ words =
    sym (append_assoc (codes "put " ++ name) (codes " ") (decimal (length text))) ∙ line in
    let named : name ++ 32 ∷ decimal (length text) ≡ words = cc in
    subst (λ xs. IsMember xs 32) named (member_right name (32 ∷ decimal (length text)) 32 (inl refl))

-- no space follows `put `
pub put_unspaced : (words : List ℕ) → (IsMember words 32 → ⊥) → IsHeading (codes "put " ++ words) (Err NoForm)
put_unspaced words free = put_none words (λ name text form e. free (put_spaced words name text e))

-- no number follows the first space
pub put_uncounted : (words : List ℕ) (i : ℕ) (digits : List ℕ) → IsPlaceOf 32 words (Some i) → digits ≡ drop (i + 1) words
    → ((n : ℕ) → n < 10 ^ 10 → digits ≡ decimal n → ⊥) → IsHeading (codes "put " ++ words) (Err NoForm)
put_uncounted words i digits (lt, parts, free) is none = put_none words (λ name text form e.
    none (length text) form.1 (is ∙ sym (put_words words (take i words) (drop (i + 1) words) name text parts free form e).1))

-- no name stands between `put ` and the first space
pub put_stopped : (words : List ℕ) (i : ℕ) (stop : ReadStop) → IsPlaceOf 32 words (Some i) → IsNamed (take i words) (Err stop)
    → IsHeading (codes "put " ++ words) (Err stop)
put_stopped words i NoForm (lt, parts, free) bad = put_none words (λ name text form e.
    let named = put_words words (take i words) (drop (i + 1) words) name text parts free form e in
    let good : is_file_name (take i words) ≡ true = subst (λ xs. is_file_name xs ≡ true) named.0 form.0 in cc)
put_stopped words i NoMemory parts u = tt
put_stopped words i LongLine parts never = never
put_stopped words i LongText parts never = absurd never
put_stopped words i NoLineFeed parts never = never
put_stopped words i LongInput parts never = never
put_stopped words i CutShort parts never = never
put_stopped words i ReadFault parts never = never

-- the line of a put with a text that has so many bytes
pub put_line : (line name text : List ℕ) (count : ℕ) → line ≡ codes "put " ++ name ++ codes " " ++ decimal count → length text ≡ count
    → line_of (put name text) ≡ line
put_line line name text count e size = ap (λ k. codes "put " ++ name ++ codes " " ++ decimal k) size ∙ sym e

-- the text passes the limit of a file
pub put_long : (words : List ℕ) (i count : ℕ) (digits : List ℕ) → IsPlaceOf 32 words (Some i) → digits ≡ drop (i + 1) words → count < 10 ^ 10
    → digits ≡ decimal count → is_file_name (take i words) ≡ true → FILE_BYTES < count → PassesLimit FILE_BYTES (codes "put " ++ words)
put_long words i count digits (lt, parts, free) is small says good long =
    let size : length (replicate count 0) ≡ count = length-replicate {A = ℕ} count 0 in
    let whole : codes "put " ++ words ≡ codes "put " ++ take i words ++ codes " " ++ decimal count =
    ap (λ ws. codes "put " ++ ws) (parts ∙ ap (λ ds. take i words ++ 32 ∷ ds) (sym is ∙ says))
    ∙ sym (append_assoc (codes "put " ++ take i words) (codes " ") (decimal count)) in
    record {
      command = put (take i words) (replicate count 0);
      form = (good, omega (arith, size, small));
      passed = passes (length (replicate count 0)) (omega (arith, size, long));
      stands = put_line (codes "put " ++ words) (take i words) (replicate count 0) count whole size;
    }
  where
    passes : (n : ℕ) → FILE_BYTES < n → cond (nat_lt FILE_BYTES n) (Some FILE_BYTES) None ≡ Some FILE_BYTES
    passes n lt = ap (λ b. cond b (Some FILE_BYTES) None) (lt-ltb FILE_BYTES n lt)
