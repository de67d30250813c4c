-- Edits keep a book proper, and a proper book over a proper library is small.
use Rattle.std.proofs.Common.{◌≡◌, ◌∙◌, ◌⊎◌, ℕ, ◌+◌, ◌<◌, ◌≤◌, ◌^◌, true, false, List, [], ◌∷◌, ◌++◌, length, refl, sym, ap, subst, arith, inl, inr}
use Rattle.std.specs.Prelude.{Option, Some, None, IfSome, nat_eq, map}
use Rattle.std.specs.Map.{keys_of}
use Rattle.std.specs.Cmp.Lexicographic.{pointwise, bytes_decides}
use Rattle.std.proofs.lemmas.Bool.Decides.{nat_tests}
use Rattle.linker_base.specs.Members.{IsMember, IsEachOnce}
use Rattle.linker_base.specs.declared.limits.TheConstants.{FILE_BYTES}
use Rattle.linker_base.proofs.Cases.{bool_cases}
use Rattle.element_store.specs.FileNames.{is_file_name}
use Rattle.book_model.specs.declared.edit.Edit.{Edit}
use Rattle.book_model.specs.declared.edit.Edit.TheVariants.{Put, Drop}
use Rattle.book_model.specs.Book.{Book, text_in, with_entry, Edited, edited}
use Rattle.book_model.specs.Files.{LibraryTexts, Entry}
use Rattle.book_model.specs.Laws.{name_in, text_after, IsSmall}
use Rattle.book_model.specs.Proper.{IsProperBook, IsProperLibrary}
use Rattle.book_model.proofs.EditLaws.{put_passed, drop_passed, edit_within, edit_done}
use Rattle.book_model.proofs.FileLaws.{library_entry, book_entry}

-- an entry after an edit is the new one or an old one
entry_among : (book : Book) (name : List ℕ) (text : Option (List ℕ)) (x : List ℕ × Option (List ℕ)) → IsMember (with_entry book name text) x
    → ((x.0 ≡ name) × (x.1 ≡ text)) ⊎ IsMember book x
entry_among [] name text x (inl e) = inl (sym (ap (λ (y : List ℕ × Option (List ℕ)). y.0) e), sym (ap (λ (y : List ℕ × Option (List ℕ)). y.1) e))
entry_among [] name text x (inr m) = absurd m
entry_among (e ∷ es) name text x m = elim (bool_cases (pointwise nat_eq name e.0)) [
  | inl here ↦ elim (rw here at m) [
    | inl q ↦ inl (
      sym (ap (λ (y : List ℕ × Option (List ℕ)). y.0) q) ∙ sym ((bytes_decides name e.0).0 here),
      sym (ap (λ (y : List ℕ × Option (List ℕ)). y.1) q),
    )
    | inr h ↦ inr (inr h)
  ]
  | inr far ↦ elim (rw far at m) [
    | inl q ↦ inr (inl q)
    | inr h ↦ elim (entry_among es name text x h) [ inl new ↦ inl new | inr old ↦ inr (inr old) ]
  ]
]

-- the text that a change puts is within the limit of a file
text_short : (book : Book) (e : Edit) (changed : Book) → edited book e ≡ Edited.Changed changed → IfSome (text_after e) (λ text. length text ≤ FILE_BYTES)
text_short book (Put name text) changed is = let p = put_passed book name text changed is in grind (arith, nat_tests, p.size)
text_short book (Drop name) changed is = tt

-- the changed book is the old one with the edit's entry
changed_is : (book : Book) (e : Edit) (changed : Book) → edited book e ≡ Edited.Changed changed → with_entry book (name_in e) (text_after e) ≡ changed
changed_is book (Put name text) changed is = (put_passed book name text changed is).same
changed_is book (Drop name) changed is = drop_passed book name (text_in book name) changed is

-- an edit of the name of a file keeps a book proper
pub edit_proper : (book : Book) (e : Edit) (changed : Book) → IsProperBook book × (is_file_name (name_in e) ≡ true) → edited book e ≡ Edited.Changed changed
    → IsProperBook changed
edit_proper book e changed (proper, good) is = record {
  within = edit_within book e changed proper.within is;
  once = (edit_done book e changed is).once proper.once;
  named = λ x m. elim (among x m) [ inl new ↦ ap is_file_name new.0 ∙ good | inr old ↦ proper.named x old ];
  short = λ x m. elim (among x m) [
    | inl new ↦ subst (λ t. IfSome t (λ text. length text ≤ FILE_BYTES)) (sym new.1) (text_short book e changed is)
    | inr old ↦ proper.short x old
  ];
} where
  among : (x : List ℕ × Option (List ℕ)) → IsMember changed x → ((x.0 ≡ name_in e) × (x.1 ≡ text_after e)) ⊎ IsMember book x
  among x m = entry_among book (name_in e) (text_after e) x (subst (λ b. IsMember b x) (sym (changed_is book e changed is)) m)

-- the empty book is proper
pub empty_proper : IsProperBook []
empty_proper = record {
  within = record { names = omega arith; bytes = omega arith };
  once = tt;
  named = λ x m. absurd m;
  short = λ x m. absurd m;
}

-- ---- entries

-- as many as names in both
entries_long : (library : LibraryTexts) (book : Book) → length (map library_entry library ++ map book_entry book) ≡ length library + length book
entries_long [] [] = omega arith
entries_long [] (e ∷ es) = let more = entries_long [] es in omega (arith, more)
entries_long (e ∷ es) book = let more = entries_long es book in omega (arith, more)

-- the name of an entry is one of the library or of the book
name_among : (library : LibraryTexts) (book : Book) (x : List ℕ) → IsMember (map (λ (e : Entry). e.name) (map library_entry library ++ map book_entry book)) x
    → IsMember (map (λ (e : List ℕ × List ℕ). e.0) library) x ⊎ ((e : List ℕ × Option (List ℕ)) × IsMember book e × (e.0 ≡ x))
name_among [] [] x m = absurd m
name_among [] (e ∷ es) x (inl q) = inr (e, inl refl, q)
name_among [] (e ∷ es) x (inr m) = elim (name_among [] es x m) [ inl a ↦ absurd a | inr b ↦ inr (b.0, inr b.1, b.2) ]
name_among (e ∷ es) book x (inl q) = inl (inl q)
name_among (e ∷ es) book x (inr m) = elim (name_among es book x m) [ inl a ↦ inl (inr a) | inr b ↦ inr b ]

-- the names of the library and of the book stand once
names_apart : (library : LibraryTexts) (book : Book) → IsEachOnce (map (λ (e : List ℕ × List ℕ). e.0) library) → IsEachOnce (keys_of book)
    → ((e : List ℕ × List ℕ) → IsMember library e → is_file_name e.0 ≡ false) → ((e : List ℕ × Option (List ℕ)) → IsMember book e → is_file_name e.0 ≡ true)
    → IsEachOnce (map (λ (e : Entry). e.name) (map library_entry library ++ map book_entry book))
names_apart [] [] lib own apart named = tt
names_apart [] (e ∷ es) lib own apart named = (
  λ m. elim (name_among [] es e.0 m) [ inl a ↦ absurd a | inr b ↦ own.0 (key_among es b.0 e.0 b.1 b.2) ],
  names_apart [] es lib own.1 apart (λ x m. named x (inr m)),
) where
  key_among : (es : Book) (x : List ℕ × Option (List ℕ)) (name : List ℕ) → IsMember es x → x.0 ≡ name → IsMember (keys_of es) name
  key_among [] x name m q = absurd m
  key_among (y ∷ es) x name (inl p) q = inl (ap (λ (z : List ℕ × Option (List ℕ)). z.0) p ∙ q)
  key_among (y ∷ es) x name (inr m) q = inr (key_among es x name m q)
names_apart (e ∷ es) book lib own apart named = (
  λ m. elim (name_among es book e.0 m) [
    | inl a ↦ lib.0 a
    | inr b ↦ let bad : true ≡ false = sym (named b.0 b.1) ∙ (ap is_file_name b.2 ∙ apart e (inl refl)) in cc
  ],
  names_apart es book lib.1 own (λ x m. apart x (inr m)) named,
)

-- the text of an entry is short
if_less : (text : Option (List ℕ)) → IfSome text (λ t. length t ≤ FILE_BYTES) → IfSome text (λ t. length t < 2 ^ 32)
if_less None h = h
if_less (Some t) h = omega (arith, h)

-- the texts of the library and of the book are short
texts_short : (library : LibraryTexts) (book : Book) → ((e : List ℕ × List ℕ) → IsMember library e → length e.1 ≤ FILE_BYTES)
    → ((e : List ℕ × Option (List ℕ)) → IsMember book e → IfSome e.1 (λ text. length text ≤ FILE_BYTES))
    → (x : Entry) → IsMember (map library_entry library ++ map book_entry book) x → IfSome x.text (λ text. length text < 2 ^ 32)
texts_short [] [] lib own x m = absurd m
texts_short [] (e ∷ es) lib own x (inl q) = subst (λ (y : Entry). IfSome y.text (λ text. length text < 2 ^ 32)) q (if_less e.1 (own e (inl refl)))
texts_short [] (e ∷ es) lib own x (inr m) = texts_short [] es lib (λ y n. own y (inr n)) x m
texts_short (e ∷ es) book lib own x (inl q) =
    subst (λ (y : Entry). IfSome y.text (λ text. length text < 2 ^ 32)) q (if_less (Some e.1) (lib e (inl refl)))
texts_short (e ∷ es) book lib own x (inr m) = texts_short es book (λ y n. lib y (inr n)) own x m

-- a proper book over a proper library is small
pub proper_small : (book : Book) (library : LibraryTexts) → IsProperBook book → IsProperLibrary library → IsSmall book library
proper_small book library own lib = record {
  few = omega (arith, entries_long library book, own.within.names, lib.few);
  once = names_apart library book lib.once own.once lib.apart own.named;
  short = texts_short library book lib.short own.short;
}
