-- The elements of a model are those that are written.
use Rattle.std.proofs.Common.{◌≡◌, ◌⊎◌, inl, inr, ℕ, ◌+◌, true, List, [], ◌∷◌, refl, ap, sym, subst, ◌∙◌, arith}
use Rattle.std.specs.Prelude.{map}
use Rattle.linker_base.specs.Members.{IsMember}
use Rattle.element_store.specs.declared.kind.Marks.{Marks}
use Rattle.element_store.specs.declared.outcome.Language.{Language}
use Rattle.element_store.specs.declared.records.Element.{Element}
use Rattle.element_store.specs.Model.{Data, no_marks}
use Rattle.token_core.specs.declared.token.Token.{Token}
use Rattle.token_core.specs.Reading.{bytes_of}
use Rattle.ll_core.specs.Derives.{Forest}
use Rattle.text_model.specs.declared.action.Action.TheVariants.{Group}
use Rattle.text_model.specs.declared.action.Mark.{Mark}
use Rattle.text_model.specs.declared.action.Mark.TheVariants as mark
use Rattle.text_model.specs.declared.action.Meaning.{Meaning}
use Rattle.text_model.specs.declared.action.Meaning.TheVariants as meaning
use Rattle.text_model.specs.declared.draft.Draft.{Draft}
use Rattle.text_model.specs.Tables.{Tables, tables, meaning_of}
use Rattle.text_model.specs.Drafts.{marked}
use Rattle.text_model.specs.Numbering.{width, elements_from, model_of}
use Rattle.text_model.specs.Profile.{drafts_of, start}
use Rattle.text_laws.specs.Written.{Written, written, means, kind_said, direction_said, part_said, said_by, body_said, is_set, IsWritten, OneByOne, ElementsAreWritten}
use Rattle.text_laws.proofs.WrittenWalk.{Said, said, says, say, begun, finished, walk_writes}
use Rattle.text_laws.proofs.OutcomeLaws.{same_drafts}

-- Marks: one is set, and the others stay.

mark_set : (m : Mark) (x : Marks) → is_set m (marked m x) ≡ true
mark_set mark.Library x = refl
mark_set mark.Standard x = refl
mark_set mark.End x = refl
mark_set mark.Derived x = refl
mark_set mark.Abstract x = refl
mark_set mark.Composite x = refl
mark_set mark.Constant x = refl
mark_set mark.Reference x = refl
mark_set mark.Ordered x = refl
mark_set mark.Nonunique x = refl
mark_set mark.Default x = refl

mark_kept : (m k : Mark) (x : Marks) → is_set m x ≡ true → is_set m (marked k x) ≡ true
mark_kept mark.Library mark.Library x h = refl
mark_kept mark.Library other x h = h
mark_kept mark.Standard mark.Standard x h = refl
mark_kept mark.Standard other x h = h
mark_kept mark.End mark.End x h = refl
mark_kept mark.End other x h = h
mark_kept mark.Derived mark.Derived x h = refl
mark_kept mark.Derived other x h = h
mark_kept mark.Abstract mark.Abstract x h = refl
mark_kept mark.Abstract other x h = h
mark_kept mark.Composite mark.Composite x h = refl
mark_kept mark.Composite other x h = h
mark_kept mark.Constant mark.Constant x h = refl
mark_kept mark.Constant other x h = h
mark_kept mark.Reference mark.Reference x h = refl
mark_kept mark.Reference other x h = h
mark_kept mark.Ordered mark.Ordered x h = refl
mark_kept mark.Ordered other x h = h
mark_kept mark.Nonunique mark.Nonunique x h = refl
mark_kept mark.Nonunique other x h = h
mark_kept mark.Default mark.Default x h = refl
mark_kept mark.Default other x h = h

mark_only : (m k : Mark) (x : Marks) → is_set m (marked k x) ≡ true → (k ≡ m) ⊎ (is_set m x ≡ true)
mark_only mark.Library mark.Library x h = inl refl
mark_only mark.Library other x h = inr h
mark_only mark.Standard mark.Standard x h = inl refl
mark_only mark.Standard other x h = inr h
mark_only mark.End mark.End x h = inl refl
mark_only mark.End other x h = inr h
mark_only mark.Derived mark.Derived x h = inl refl
mark_only mark.Derived other x h = inr h
mark_only mark.Abstract mark.Abstract x h = inl refl
mark_only mark.Abstract other x h = inr h
mark_only mark.Composite mark.Composite x h = inl refl
mark_only mark.Composite other x h = inr h
mark_only mark.Constant mark.Constant x h = inl refl
mark_only mark.Constant other x h = inr h
mark_only mark.Reference mark.Reference x h = inl refl
mark_only mark.Reference other x h = inr h
mark_only mark.Ordered mark.Ordered x h = inl refl
mark_only mark.Ordered other x h = inr h
mark_only mark.Nonunique mark.Nonunique x h = inl refl
mark_only mark.Nonunique other x h = inr h
mark_only mark.Default mark.Default x h = inl refl
mark_only mark.Default other x h = inr h

-- What tokens say of each part.

say_owner : (t : Tables) (text : List ℕ) (xs : List Token) (s : Said) → (say t text xs s).owner ≡ s.owner
say_owner t text [] s = refl
say_owner t text (x ∷ xs) s = say_owner t text xs (says text (meaning_of t x.kind) x s) ∙ one (meaning_of t x.kind) where
  one : (m : Meaning) → (says text m x s).owner ≡ s.owner
  one (meaning.Mark m) = refl
  one (meaning.Direction way) = refl
  one (meaning.PartOf part) = refl
  one (meaning.Kind k) = refl
  one meaning.Def = refl
  one meaning.Comment = refl
  one other = refl

say_kind : (t : Tables) (text : List ℕ) (xs : List Token) (s : Said) → (say t text xs s).kind ≡ kind_said s.kind (means t xs)
say_kind t text [] s = refl
say_kind t text (x ∷ xs) s = say_kind t text xs (says text (meaning_of t x.kind) x s) ∙ one (meaning_of t x.kind) where
  one : (m : Meaning) → kind_said (says text m x s).kind (means t xs) ≡ kind_said s.kind (m ∷ means t xs)
  one (meaning.Mark m) = refl
  one (meaning.Direction way) = refl
  one (meaning.PartOf part) = refl
  one (meaning.Kind k) = refl
  one meaning.Def = refl
  one meaning.Comment = refl
  one other = refl

say_direction : (t : Tables) (text : List ℕ) (xs : List Token) (s : Said) → (say t text xs s).marks.direction ≡ direction_said s.marks.direction (means t xs)
say_direction t text [] s = refl
say_direction t text (x ∷ xs) s = say_direction t text xs (says text (meaning_of t x.kind) x s) ∙ one (meaning_of t x.kind) where
  same : (k : Mark) (y : Marks) → (marked k y).direction ≡ y.direction
  same mark.Library y = refl
  same mark.Standard y = refl
  same mark.End y = refl
  same mark.Derived y = refl
  same mark.Abstract y = refl
  same mark.Composite y = refl
  same mark.Constant y = refl
  same mark.Reference y = refl
  same mark.Ordered y = refl
  same mark.Nonunique y = refl
  same mark.Default y = refl

  one : (m : Meaning) → direction_said (says text m x s).marks.direction (means t xs) ≡ direction_said s.marks.direction (m ∷ means t xs)
  one (meaning.Mark m) = ap (λ d. direction_said d (means t xs)) (same m s.marks)
  one (meaning.Direction way) = refl
  one (meaning.PartOf part) = refl
  one (meaning.Kind k) = refl
  one meaning.Def = refl
  one meaning.Comment = refl
  one other = refl

say_part : (t : Tables) (text : List ℕ) (xs : List Token) (s : Said) → (say t text xs s).marks.part_of ≡ part_said s.marks.part_of (means t xs)
say_part t text [] s = refl
say_part t text (x ∷ xs) s = say_part t text xs (says text (meaning_of t x.kind) x s) ∙ one (meaning_of t x.kind) where
  same : (k : Mark) (y : Marks) → (marked k y).part_of ≡ y.part_of
  same mark.Library y = refl
  same mark.Standard y = refl
  same mark.End y = refl
  same mark.Derived y = refl
  same mark.Abstract y = refl
  same mark.Composite y = refl
  same mark.Constant y = refl
  same mark.Reference y = refl
  same mark.Ordered y = refl
  same mark.Nonunique y = refl
  same mark.Default y = refl

  one : (m : Meaning) → part_said (says text m x s).marks.part_of (means t xs) ≡ part_said s.marks.part_of (m ∷ means t xs)
  one (meaning.Mark m) = ap (λ p. part_said p (means t xs)) (same m s.marks)
  one (meaning.Direction way) = refl
  one (meaning.PartOf part) = refl
  one (meaning.Kind k) = refl
  one meaning.Def = refl
  one meaning.Comment = refl
  one other = refl

say_body : (t : Tables) (text : List ℕ) (xs : List Token) (s : Said) → (say t text xs s).body ≡ body_said t text s.body xs
say_body t text [] s = refl
say_body t text (x ∷ xs) s = say_body t text xs (says text (meaning_of t x.kind) x s)
    ∙ ap (λ b. body_said t text b xs) (one (meaning_of t x.kind)) where
      one : (m : Meaning) → (says text m x s).body ≡ said_by m (bytes_of text x) s.body
      one (meaning.Mark m) = refl
      one (meaning.Direction way) = refl
      one (meaning.PartOf part) = refl
      one (meaning.Kind k) = refl
      one meaning.Def = refl
      one meaning.Comment = refl
      one other = refl

-- a mark that was set or has its word is set
say_set : (t : Tables) (text : List ℕ) (xs : List Token) (s : Said) (m : Mark) → (is_set m s.marks ≡ true) ⊎ IsMember (means t xs) (meaning.Mark m)
    → is_set m (say t text xs s).marks ≡ true
say_set t text [] s m (inl h) = h
say_set t text [] s m (inr h) = absurd h
say_set t text (x ∷ xs) s m h = say_set t text xs (says text (meaning_of t x.kind) x s) m (one (meaning_of t x.kind) h) where
  one : (w : Meaning) → (is_set m s.marks ≡ true) ⊎ ((w ≡ meaning.Mark m) ⊎ IsMember (means t xs) (meaning.Mark m))
      → (is_set m (says text w x s).marks ≡ true) ⊎ IsMember (means t xs) (meaning.Mark m)
  one w (inr (inr h)) = inr h
  one (meaning.Mark k) (inl h) = inl (mark_kept m k s.marks h)
  one (meaning.Mark k) (inr (inl e)) =
      let same : k ≡ m = cc in
      inl (subst (λ j. is_set m (marked j s.marks) ≡ true) (sym same) (mark_set m s.marks))
  one (meaning.Direction way) (inl h) = inl (kept m h) where
    kept : (m : Mark) → is_set m s.marks ≡ true → is_set m (record s.marks { direction = way }) ≡ true
    kept mark.Library h = h
    kept mark.Standard h = h
    kept mark.End h = h
    kept mark.Derived h = h
    kept mark.Abstract h = h
    kept mark.Composite h = h
    kept mark.Constant h = h
    kept mark.Reference h = h
    kept mark.Ordered h = h
    kept mark.Nonunique h = h
    kept mark.Default h = h
  one (meaning.PartOf part) (inl h) = inl (kept m h) where
    kept : (m : Mark) → is_set m s.marks ≡ true → is_set m (record s.marks { part_of = part }) ≡ true
    kept mark.Library h = h
    kept mark.Standard h = h
    kept mark.End h = h
    kept mark.Derived h = h
    kept mark.Abstract h = h
    kept mark.Composite h = h
    kept mark.Constant h = h
    kept mark.Reference h = h
    kept mark.Ordered h = h
    kept mark.Nonunique h = h
    kept mark.Default h = h
  one (meaning.Kind k) (inl h) = inl h
  one meaning.Def (inl h) = inl h
  one meaning.Comment (inl h) = inl h
  one other (inl h) = inl h
  one other (inr (inl e)) = absurd (cc)

-- and no other is
say_only : (t : Tables) (text : List ℕ) (xs : List Token) (s : Said) (m : Mark) → is_set m (say t text xs s).marks ≡ true
    → (is_set m s.marks ≡ true) ⊎ IsMember (means t xs) (meaning.Mark m)
say_only t text [] s m h = inl h
say_only t text (x ∷ xs) s m h = one (meaning_of t x.kind) (say_only t text xs (says text (meaning_of t x.kind) x s) m h) where
  one : (w : Meaning) → (is_set m (says text w x s).marks ≡ true) ⊎ IsMember (means t xs) (meaning.Mark m)
      → (is_set m s.marks ≡ true) ⊎ ((w ≡ meaning.Mark m) ⊎ IsMember (means t xs) (meaning.Mark m))
  one w (inr h) = inr (inr h)
  one (meaning.Mark k) (inl h) = elim (mark_only m k s.marks h) [
    | inl e ↦ inr (inl (ap meaning.Mark e))
    | inr g ↦ inl g
  ]
  one (meaning.Direction way) (inl h) = inl (kept m h) where
    kept : (m : Mark) → is_set m (record s.marks { direction = way }) ≡ true → is_set m s.marks ≡ true
    kept mark.Library h = h
    kept mark.Standard h = h
    kept mark.End h = h
    kept mark.Derived h = h
    kept mark.Abstract h = h
    kept mark.Composite h = h
    kept mark.Constant h = h
    kept mark.Reference h = h
    kept mark.Ordered h = h
    kept mark.Nonunique h = h
    kept mark.Default h = h
  one (meaning.PartOf part) (inl h) = inl (kept m h) where
    kept : (m : Mark) → is_set m (record s.marks { part_of = part }) ≡ true → is_set m s.marks ≡ true
    kept mark.Library h = h
    kept mark.Standard h = h
    kept mark.End h = h
    kept mark.Derived h = h
    kept mark.Abstract h = h
    kept mark.Composite h = h
    kept mark.Constant h = h
    kept mark.Reference h = h
    kept mark.Ordered h = h
    kept mark.Nonunique h = h
    kept mark.Default h = h
  one (meaning.Kind k) (inl h) = inl h
  one meaning.Def (inl h) = inl h
  one meaning.Comment (inl h) = inl h
  one other (inl h) = inl h

none_set : (m : Mark) → is_set m no_marks ≡ true → ⊥
none_set mark.Library h = cc
none_set mark.Standard h = cc
none_set mark.End h = cc
none_set mark.Derived h = cc
none_set mark.Abstract h = cc
none_set mark.Composite h = cc
none_set mark.Constant h = cc
none_set mark.Reference h = cc
none_set mark.Ordered h = cc
none_set mark.Nonunique h = cc
none_set mark.Default h = cc

-- One by one.

one_by_one : {A B C : Type 0} (f : A → C) (g : B → C) (P : A → B → Type 0) (xs : List A) (ys : List B) → ((x : A) (y : B) → f x ≡ g y → P x y)
    → map f xs ≡ map g ys → OneByOne P xs ys
one_by_one f g P [] [] on e = tt
one_by_one f g P [] (y ∷ ys) on e = absurd (cc)
one_by_one f g P (x ∷ xs) [] on e = absurd (cc)
one_by_one f g P (x ∷ xs) (y ∷ ys) on e =
    let head : f x ≡ g y = cc in
    let tail : map f xs ≡ map g ys = cc in
    (on x y head, one_by_one f g P xs ys on tail)

abbrev pub stored : Element → Said
stored e = record { owner = e.owner; kind = e.kind; marks = e.marks; body = e.body }

stored_from : (n : ℕ) (ds : List Draft) → map stored (elements_from n ds) ≡ map said ds
stored_from n [] = refl
stored_from n (d ∷ ds) = ap (λ xs. said d ∷ xs) (stored_from (n + width d) ds)

is_written : (t : Tables) (text : List ℕ) (e : Element) (w : Written) → stored e ≡ finished t text w → IsWritten t text e w
is_written t text e w is = record {
  owner = ap (λ (s : Said). s.owner) is ∙ say_owner t text w.own (begun w);
  kind = ap (λ (s : Said). s.kind) is ∙ say_kind t text w.own (begun w);
  marks = λ m. (
    λ h. only m (say_only t text w.own (begun w) m (ap (λ (s : Said). is_set m s.marks) (sym is) ∙ h)),
    λ h. ap (λ (s : Said). is_set m s.marks) is ∙ say_set t text w.own (begun w) m (inr h),
  );
  direction = ap (λ (s : Said). s.marks.direction) is ∙ say_direction t text w.own (begun w);
  part_of = ap (λ (s : Said). s.marks.part_of) is ∙ say_part t text w.own (begun w);
  body = ap (λ (s : Said). s.body) is ∙ say_body t text w.own (begun w);
} where
  only : (m : Mark) → (is_set m no_marks ≡ true) ⊎ IsMember (means t w.own) (meaning.Mark m) → IsMember (means t w.own) (meaning.Mark m)
  only m (inl h) = absurd (none_set m h)
  only m (inr h) = h

-- the drafts of a text are those that are written
pub drafts_written : (language : Language) (text : List ℕ) (tokens : List Token) (f : Forest)
    → map said (drafts_of language text tokens f).elements ≡ map (finished (tables language) text) (written (tables language) f tokens)
drafts_written language text tokens f =
    (walk_writes (tables language) text Group f (start tokens) (omega arith)).goes.said

pub elements_are_written : ElementsAreWritten
elements_are_written file language text d tokens tree p read =
    let t = tables language in
    let same = p.model ∙ ap (model_of file language) (same_drafts language text p.tokens tokens p.tree tree p.read read) in
    let w = drafts_of language text tokens tree in
    subst (λ (x : Data). OneByOne (IsWritten t text) x.elements (written t tree tokens)) (sym same)
    (one_by_one stored (finished t text) (IsWritten t text) (elements_from 0 w.elements) (written t tree tokens)
    (λ e x is. is_written t text e x is) (stored_from 0 w.elements ∙ drafts_written language text tokens tree))
