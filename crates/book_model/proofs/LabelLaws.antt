-- The steps of a label are enough: an element's parts are its owner's and its own.
use Rattle.std.proofs.Common.{◌≡◌, ◌∙◌, ℕ, ◌<◌, zero, suc, List, [], ◌∷◌, ◌++◌, length, refl, ap, arith}
use Rattle.std.specs.Prelude.{Option, Some, None, IfSome, slice_get}
use Rattle.std.proofs.lemmas.Option.{slice_get_within}
use Rattle.element_store.specs.declared.outcome.Language.{Language}
use Rattle.element_store.specs.declared.records.Element.{Element}
use Rattle.element_store.specs.Model.{Data}
use Rattle.element_store.specs.Condition.{IsModel}
use Rattle.element_store.proofs.ModelLaws.{owner_before}
use Rattle.book_model.specs.Labels.{own_part, parts_under, parts_by, parts_within, parts_of}

-- parts under owners that both walks know alike
under_same : (p q : ℕ → List (List ℕ)) (own : List ℕ) (owner : Option ℕ) → IfSome owner (λ o. p o ≡ q o) → parts_under p own owner ≡ parts_under q own owner
under_same p q own None h = refl
under_same p q own (Some o) h = ap (λ ps. ps ++ own ∷ []) h

-- what holds of an owner, if there is one
if_owner : (owner : Option ℕ) (P Q : ℕ → Type 0) → ((o : ℕ) → P o → Q o) → IfSome owner P → IfSome owner Q
if_owner None P Q f h = h
if_owner (Some o) P Q f h = f o h

-- parts by two walks that agree on owners
by_same : (p q : ℕ → List (List ℕ)) (language : Language) (e : ℕ) (x : Option Element) → ((y : Element) → x ≡ Some y → IfSome y.owner (λ o. p o ≡ q o))
    → parts_by p language e x ≡ parts_by q language e x
by_same p q language e None h = refl
by_same p q language e (Some y) h = under_same p q (own_part language e y) y.owner (h y refl)

-- any number of steps above the element's number gives the same parts
steps_same : (d : Data) → IsModel d → (s t e : ℕ) → e < s → e < t → parts_within d s e ≡ parts_within d t e
steps_same d is zero t e a b = absurd (omega (arith, a))
steps_same d is (suc s) zero e a b = absurd (omega (arith, b))
steps_same d is (suc s) (suc t) e a b = by_same (parts_within d s) (parts_within d t) d.language e (slice_get d.elements e) (λ y at.
    if_owner y.owner (λ o. o < e) (λ o. parts_within d s o ≡ parts_within d t o) (λ o lt. steps_same d is s t o (omega (arith, lt, a)) (omega (arith, lt, b)))
    (owner_before d.elements e y is.root is.numbering.elements at))

-- one step less is enough for an owner
one_step : (d : Data) → IsModel d → (n e : ℕ) (x : Element) → n ≡ length d.elements → slice_get d.elements e ≡ Some x
    → parts_within d n e ≡ parts_under (parts_within d n) (own_part d.language e x) x.owner
one_step d is zero e x long at = absurd (omega (arith, long, slice_get_within d.elements e x at))
one_step d is (suc n) e x long at =
    ap (parts_by (parts_within d n) d.language e) at
    ∙ under_same (parts_within d n) (parts_within d (suc n)) (own_part d.language e x) x.owner
    (if_owner x.owner (λ o. o < e) (λ o. parts_within d n o ≡ parts_within d (suc n) o)
    (λ o lt. let within = slice_get_within d.elements e x at
    in steps_same d is n (suc n) o (omega (arith, lt, within, long)) (omega (arith, lt, within, long)))
    (owner_before d.elements e x is.root is.numbering.elements at))

-- the parts of an element
pub parts_are : (d : Data) (e : ℕ) (x : Element) → IsModel d → slice_get d.elements e ≡ Some x
    → parts_of d e ≡ parts_under (parts_of d) (own_part d.language e x) x.owner
parts_are d e x is at = one_step d is (length d.elements) e x refl at
