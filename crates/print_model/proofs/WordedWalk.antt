-- The kind and the part of each element but the first are written by words of the language.
use Rattle.std.proofs.Common.{◌≡◌, ℕ, Bool, true, List, [], ◌∷◌, ◌++◌, refl}
use Rattle.std.specs.Prelude.{Some}
use Rattle.token_core.specs.declared.token.Token.{Token}
use Rattle.token_core.specs.Reading.{bytes_of, name_meaning}
use Rattle.ll_core.specs.Derives.{Forest, Nothing, Token as Leaf, Node}
use Rattle.text_model.specs.declared.action.Action.{Action}
use Rattle.text_model.specs.declared.action.Action.TheVariants.{Name, Short, Segment, Step, Star, NamedEnd, Element, Take, Level, Tail}
use Rattle.text_model.specs.declared.action.Taking.{Taking}
use Rattle.text_model.specs.declared.action.Taking.TheVariants as taking
use Rattle.text_model.specs.declared.action.Operator.{Operator}
use Rattle.text_model.specs.declared.action.Meaning.{Meaning}
use Rattle.text_model.specs.declared.action.Meaning.TheVariants as meaning
use Rattle.text_model.specs.declared.draft.Draft.{Draft}
use Rattle.text_model.specs.declared.draft.Reading.{Reading}
use Rattle.text_model.specs.Tables.{action_at, meaning_of}
use Rattle.text_model.specs.Drafts.{adjusted}
use Rattle.text_model.specs.Walk.{Walk, Frame, saved, entered, given, left, meant_name, meant_operator, meant, taken_from, walk}
use Rattle.text_laws.specs.Fits.{Every}
use Rattle.text_laws.proofs.FittingLaws.{every_append, every_adjusted}
use Rattle.std.proofs.Common.{zero, suc, ap, ◌∙◌}
use Rattle.std.specs.Prelude.{codes, slice_index_or}
use Rattle.std.specs.List.{list_all}
use Rattle.linker_base.proofs.Cases.{both_true}
use Rattle.element_store.specs.declared.outcome.Language.{Language}
use Rattle.element_store.specs.declared.outcome.Language.TheVariants.{Kerml, Sysml}
use Rattle.element_store.specs.declared.kind.Kind.{Kind}
use Rattle.element_store.specs.declared.kind.Kind.TheVariants as kind
use Rattle.element_store.specs.declared.kind.PartOf.{PartOf}
use Rattle.element_store.specs.declared.kind.PartOf.TheVariants as part
use Rattle.element_store.specs.declared.kind.Marks.{Marks}
use Rattle.token_core.specs.declared.token.TokenKind.{TokenKind}
use Rattle.token_core.specs.declared.token.TokenKind.TheVariants as kinds
use Rattle.token_core.specs.Words.{words, parted}
use Rattle.text_model.specs.declared.action.Mark.{Mark}
use Rattle.text_model.specs.declared.action.Mark.TheVariants as mark
use Rattle.text_model.specs.declared.action.Action.TheVariants as action
use Rattle.text_model.specs.KermlActions.{kerml_actions}
use Rattle.text_model.specs.SysmlActions.{sysml_actions}
use Rattle.text_model.specs.SignMeanings.{sign_meanings}
use Rattle.text_model.specs.KermlMeanings.{kerml_meanings}
use Rattle.text_model.specs.SysmlMeanings.{sysml_meanings}
use Rattle.text_model.specs.Tables.{tables}
use Rattle.text_model.specs.Drafts.{marked, definition_of, draft}
use Rattle.print_model.specs.Heads.{kind_word}
use Rattle.print_model.specs.Written.{is_word_of, is_part_of}

-- the kind's words are words of the language; a reference and an end have none
abbrev pub kind_in : Language → Kind → Bool
kind_in l kind.Reference = true
kind_in l kind.ConnectorEnd = true
kind_in l k = list_all (is_word_of l) (parted (kind_word k))

-- and the part's word
abbrev pub part_in : Language → PartOf → Bool
part_in l part.Subject = is_word_of l (codes "subject")
part_in l p = is_part_of l p

-- of a draft
pub record IsWorded (l : Language) (d : Draft) : Type 0 where
  pub kind : kind_in l d.kind ≡ true
  pub part : part_in l d.marks.part_of ≡ true

-- of each draft but the first
abbrev pub AreWorded : Language → List Draft → Type 0
AreWorded l [] = Unit {0}
AreWorded l (d ∷ ds) = Every (IsWorded l) ds

one_worded : (l : Language) (ds : List Draft) (d : Draft) → AreWorded l ds → IsWorded l d → AreWorded l (ds ++ d ∷ [])
one_worded l [] d h k = tt
one_worded l (x ∷ ds) d h k = every_append (IsWorded l) ds (d ∷ []) h (k, tt)

adjusted_worded : (l : Language) (c : ℕ) (f : Draft → Draft) (ds : List Draft) → ((d : Draft) → IsWorded l d → IsWorded l (f d)) → AreWorded l ds
    → AreWorded l (adjusted c f ds)
adjusted_worded l c f [] on h = tt
adjusted_worded l zero f (d ∷ ds) on h = h
adjusted_worded l (suc c) f (d ∷ ds) on h = every_adjusted (IsWorded l) c f ds on h

-- Tables.

abbrev action_in : Language → Action → Bool
action_in l (action.Element k) = kind_in l k
action_in l other = true

abbrev meaning_in : Language → Meaning → Bool
meaning_in l (meaning.Kind k) = kind_in l k
meaning_in l (meaning.PartOf p) = part_in l p
meaning_in l other = true

actions_in : (l : Language) → list_all (action_in l) (tables l).actions ≡ true
unfolding tables kerml_actions sysml_actions words
actions_in Kerml = refl
actions_in Sysml = refl

signs_in : (l : Language) → list_all (meaning_in l) (tables l).signs ≡ true
unfolding tables sign_meanings words
signs_in Kerml = refl
signs_in Sysml = refl

words_in : (l : Language) → list_all (meaning_in l) (tables l).words ≡ true
unfolding tables kerml_meanings sysml_meanings words
words_in Kerml = refl
words_in Sysml = refl

among : {A : Type 0} (test : A → Bool) (d : A) (xs : List A) (n : ℕ) → test d ≡ true → list_all test xs ≡ true → test (slice_index_or xs n d) ≡ true
among test d [] n e h = e
among test d (x ∷ xs) zero e h = (both_true (test x) (list_all test xs) h).0
among test d (x ∷ xs) (suc n) e h = among test d xs n e (both_true (test x) (list_all test xs) h).1

action_is_in : (l : Language) (p : ℕ) → action_in l (action_at (tables l) p) ≡ true
action_is_in l p = among (action_in l) action.Group (tables l).actions p refl (actions_in l)

meaning_is_in : (l : Language) (k : TokenKind) → meaning_in l (meaning_of (tables l) k) ≡ true
meaning_is_in l kinds.Name = refl
meaning_is_in l kinds.Integer = refl
meaning_is_in l kinds.Quote = refl
meaning_is_in l kinds.Comment = refl
meaning_is_in l (kinds.Sign n) = among (meaning_in l) meaning.Nothing (tables l).signs n refl (signs_in l)
meaning_is_in l (kinds.Word n) = among (meaning_in l) meaning.Nothing (tables l).words n refl (words_in l)

definition_in : (l : Language) (k : Kind) → kind_in l k ≡ true → kind_in l (definition_of k) ≡ true
unfolding words
definition_in Kerml kind.Attribute e = cc
definition_in Sysml kind.Attribute e = refl
definition_in Kerml kind.Enumeration e = cc
definition_in Sysml kind.Enumeration e = refl
definition_in Kerml kind.Occurrence e = cc
definition_in Sysml kind.Occurrence e = refl
definition_in Kerml kind.Item e = cc
definition_in Sysml kind.Item e = refl
definition_in Kerml kind.Part e = cc
definition_in Sysml kind.Part e = refl
definition_in Kerml kind.Port e = cc
definition_in Sysml kind.Port e = refl
definition_in Kerml kind.Connection e = cc
definition_in Sysml kind.Connection e = refl
definition_in Kerml kind.Interface e = cc
definition_in Sysml kind.Interface e = refl
definition_in Kerml kind.Action e = cc
definition_in Sysml kind.Action e = refl
definition_in Kerml kind.Calc e = cc
definition_in Sysml kind.Calc e = refl
definition_in Kerml kind.Constraint e = cc
definition_in Sysml kind.Constraint e = refl
definition_in Kerml kind.Requirement e = cc
definition_in Sysml kind.Requirement e = refl
definition_in l other e = e

marked_part : (m : Mark) (x : Marks) → (marked m x).part_of ≡ x.part_of
marked_part mark.Library x = refl
marked_part mark.Standard x = refl
marked_part mark.End x = refl
marked_part mark.Derived x = refl
marked_part mark.Abstract x = refl
marked_part mark.Composite x = refl
marked_part mark.Constant x = refl
marked_part mark.Reference x = refl
marked_part mark.Ordered x = refl
marked_part mark.Nonunique x = refl
marked_part mark.Default x = refl

entered_worded : (l : Language) (a : Action) (w : Walk) → action_in l a ≡ true → AreWorded l w.elements → AreWorded l (entered a w).elements
entered_worded l (Element k) w e h = one_worded l _ (draft k (Some w.current))
    (adjusted_worded l w.current _ w.elements (λ d v. record { kind = v.kind; part = v.part }) h) (record { kind = e; part = refl })
entered_worded l (Take d) w e h = h
entered_worded l NamedEnd w e h = h
entered_worded l Level w e h = h
entered_worded l Tail w e h = h
entered_worded l other w e h = h

given_worded : (l : Language) (d : Taking) (f : Frame) (r : Reading) (w : Walk) → AreWorded l w.elements → AreWorded l (given d f r w).elements
given_worded l taking.Subclass f r w h = adjusted_worded l w.current _ w.elements (λ d v. record { kind = v.kind; part = v.part }) h
given_worded l taking.Typing f r w h = adjusted_worded l w.current _ w.elements (λ d v. record { kind = v.kind; part = v.part }) h
given_worded l taking.Subsetting f r w h = adjusted_worded l w.current _ w.elements (λ d v. record { kind = v.kind; part = v.part }) h
given_worded l taking.Redefinition f r w h = adjusted_worded l w.current _ w.elements (λ d v. record { kind = v.kind; part = v.part }) h
given_worded l taking.ReferenceSubsetting f r w h = adjusted_worded l w.current _ w.elements (λ d v. record { kind = v.kind; part = v.part }) h
given_worded l taking.Bounds f r w h = adjusted_worded l w.current _ w.elements (λ d v. record { kind = v.kind; part = v.part }) h
given_worded l taking.Value f r w h = adjusted_worded l w.current _ w.elements (λ d v. record { kind = v.kind; part = v.part }) h
given_worded l taking.Result f r w h = adjusted_worded l w.current _ w.elements (λ d v. record { kind = v.kind; part = v.part }) h
given_worded l taking.Alias f r w h = adjusted_worded l w.current _ w.elements (λ d v. record { kind = v.kind; part = v.part }) h
given_worded l taking.Import f r w h = adjusted_worded l w.current _ w.elements (λ d v. record { kind = v.kind; part = v.part }) h

left_worded : (l : Language) (a : Action) (f : Frame) (w : Walk) → AreWorded l w.elements → AreWorded l (left a f w).elements
left_worded l (Element k) f w h = adjusted_worded l w.current _ w.elements (λ d v. record { kind = v.kind; part = v.part }) h
left_worded l (Take d) f w h = given_worded l d f w.reading (record w { reading = f.reading }) h
left_worded l Level f w h = h
left_worded l other f w h = h

name_worded : (l : Language) (a : Action) (t : Token) (bytes : List ℕ) (w : Walk) → AreWorded l w.elements → AreWorded l (meant_name a t bytes w).elements
name_worded l Name t bytes w h = h
name_worded l Short t bytes w h = h
name_worded l Segment t bytes w h = h
name_worded l Step t bytes w h = h
name_worded l other t bytes w h = h

operator_worded : (l : Language) (a : Action) (o : Operator) (place : ℕ) (w : Walk) → AreWorded l w.elements → AreWorded l (meant_operator a o place w).elements
operator_worded l Star o place w h = h
operator_worded l other o place w h = h

meant_worded : (l : Language) (text : List ℕ) (a : Action) (m : Meaning) (t : Token) (w : Walk) → meaning_in l m ≡ true → AreWorded l w.elements
    → AreWorded l (meant text a m t w).elements
meant_worded l text a meaning.Nothing t w e h = h
meant_worded l text a (meaning.Mark m) t w e h = adjusted_worded l w.current _ w.elements
    (λ d v. record { kind = v.kind; part = ap (part_in l) (marked_part m d.marks) ∙ v.part }) h
meant_worded l text a (meaning.Direction way) t w e h = adjusted_worded l w.current _ w.elements (λ d v. record { kind = v.kind; part = v.part }) h
meant_worded l text a (meaning.PartOf p) t w e h = adjusted_worded l w.current _ w.elements (λ d v. record { kind = v.kind; part = e }) h
meant_worded l text a (meaning.Visibility v) t w e h = h
meant_worded l text a (meaning.Kind k) t w e h = adjusted_worded l w.current _ w.elements (λ d v. record { kind = e; part = v.part }) h
meant_worded l text a meaning.Def t w e h = adjusted_worded l w.current _ w.elements (λ d v. record { kind = definition_in l d.kind v.kind; part = v.part }) h
meant_worded l text a meaning.Comment t w e h = adjusted_worded l w.current _ w.elements (λ d v. record { kind = v.kind; part = v.part }) h
meant_worded l text a meaning.Text t w e h = h
meant_worded l text a meaning.Integer t w e h = h
meant_worded l text a (meaning.Leaf x) t w e h = h
meant_worded l text a meaning.Name t w e h = name_worded l a t (name_meaning (bytes_of text t)) w h
meant_worded l text a meaning.Absolute t w e h = h
meant_worded l text a (meaning.Operator o) t w e h = operator_worded l a o t.from w h

taken_worded : (l : Language) (text : List ℕ) (a : Action) (ts : List Token) (w : Walk) → AreWorded l w.elements
    → AreWorded l (taken_from (tables l) text a ts w).elements
taken_worded l text a [] w h = h
taken_worded l text a (t ∷ ts) w h = meant_worded l text a (meaning_of (tables l) t.kind) t (record w { rest = ts }) (meaning_is_in l t.kind) h

-- of the walk over any forest
pub walk_worded : (l : Language) (text : List ℕ) (a : Action) (f : Forest) (w : Walk) → AreWorded l w.elements
    → AreWorded l (walk (tables l) text a f w).elements
walk_worded l text a Nothing w h = h
walk_worded l text a (Leaf k f) w h = walk_worded l text a f _ (taken_worded l text a w.rest w h)
walk_worded l text a (Node p below f) w h =
    let b = action_at (tables l) p in
    walk_worded l text a f _ (left_worded l b (saved b w) (walk (tables l) text b below (entered b w))
    (walk_worded l text b below (entered b w) (entered_worded l b w (action_is_in l p) h)))
