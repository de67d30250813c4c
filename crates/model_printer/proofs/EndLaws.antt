-- Ends of connectors, and what an element names.
use Rattle.std.proofs.Common.{◌≡◌, ◌∙◌, ℕ, zero, suc, ◌<◌, ◌≤◌, Bool, true, false, List, [], ◌∷◌, ◌++◌, drop, length, refl, sym, ap, subst, arith, inl, inr, append-nil}
use Rattle.std.specs.Prelude.{Option, Some, slice_get, codes, ◌&&◌}
use Rattle.std.specs.List.{list_all, flat_map}
use Rattle.std.proofs.lemmas.Option.{get_or_from_slice_get, slice_get-get_or}
use Rattle.element_store.specs.declared.expression.Node.{Node}
use Rattle.linker_base.proofs.Cases.{both_true}
use Rattle.element_store.specs.declared.kind.Kind.{Kind}
use Rattle.element_store.specs.declared.records.Element.{Element}
use Rattle.element_store.specs.declared.lists.Item.{Item}
use Rattle.element_store.specs.Model.{Data, root_element}
use Rattle.element_store.specs.Numbers.{chosen, those_where}
use Rattle.element_store.specs.Expressions.{names_in, names_of_bounds}
use Rattle.element_store.specs.Condition.{IsModel, element_stands, has_reference, names_of}
use Rattle.element_store.proofs.ModelLaws.{all_at}
use Rattle.print_model.specs.Printed.{sign, word}
use Rattle.print_model.specs.Heads.{element_at, end_list, end_tokens, ends_of, ends_tokens, is_end, item_elements, items_at}
use Rattle.model_printer.specs.Conditions.{HasExpressions, IsExpressionIn, NamesStand}
use Rattle.model_printer.specs.Ends.{more_ends, ends_in}
use Rattle.model_printer.specs.Sheets.{Sheet, puts}
use Rattle.model_printer.proofs.SheetLaws.{puts_append}

all_parts : {A : Type 0} (test : A → Bool) (xs ys : List A) → list_all test (xs ++ ys) ≡ true → (list_all test xs ≡ true) × (list_all test ys ≡ true)
all_parts test [] ys e = (refl, e)
all_parts test (x ∷ xs) ys e =
    let here = both_true (test x) (list_all test (xs ++ ys)) e in
    let rest = all_parts test xs ys here.1 in
    (ap (λ b. b && list_all test xs) here.0 ∙ rest.0, rest.1)

-- what an element names stands in the model
pub names_stand : (d : Data) → IsModel d → (n : ℕ) (e : Element) → slice_get d.elements n ≡ Some e → NamesStand d e
names_stand d m n e at =
    let stands = both_true _ _ (all_at (element_stands d) n d.elements e m.ranges.elements at) in
    let first = all_parts (has_reference d) (names_of_bounds e.bounds) (names_of e.value ++ names_of e.result) stands.1 in
    let rest = all_parts (has_reference d) (names_of e.value) (names_of e.result) first.1 in
    record { bounds = first.0; value = rest.0; result = rest.1 }

-- an end behind a comma, and the rest
pub end_more : (d : Data) (whole s t u : Sheet) (e : ℕ) (es all : List ℕ) → whole ≡ puts s (more_ends d all) → all ≡ e ∷ es
    → t ≡ puts s (sign (codes ",") ∷ []) → u ≡ puts t (end_tokens d e) → whole ≡ puts u (more_ends d es)
end_more d whole s t u e es all is first comma end =
    is ∙ ap (λ xs. puts s (more_ends d xs)) first ∙ ap (λ x. puts x (end_tokens d e ++ more_ends d es)) (sym comma)
    ∙ puts_append t (end_tokens d e) (more_ends d es) ∙ ap (λ x. puts x (more_ends d es)) (sym end)

-- a list of ends is the first, and the others each behind a comma
pub list_is : (d : Data) (e : ℕ) (es : List ℕ) → end_list d (e ∷ es) ≡ end_tokens d e ++ more_ends d es
list_is d e [] = sym (append-nil (end_tokens d e))
list_is d e (f ∷ es) = ap (λ ps. end_tokens d e ++ (sign (codes ",") ∷ ps)) (list_is d f es)

-- ends in brackets, where there aren't two
pub many_ends : (d : Data) (k : Kind) (es : List ℕ) → (length es ≡ 0 → ⊥) → (length es ≡ 2 → ⊥)
    → ends_tokens d k es ≡ word d.language (codes "connect") ∷ sign (codes "(") ∷ (end_list d es ++ sign (codes ")") ∷ [])
many_ends d k [] none two = absurd (none refl)
many_ends d k (a ∷ []) none two = one_end d k a
  where
    one_end : (d : Data) (k : Kind) (a : ℕ)
        → ends_tokens d k (a ∷ []) ≡ word d.language (codes "connect") ∷ sign (codes "(") ∷ (end_list d (a ∷ []) ++ sign (codes ")") ∷ [])
    one_end d k a = grind arith
many_ends d k (a ∷ b ∷ []) none two = absurd (two refl)
many_ends d k (a ∷ b ∷ c ∷ es) none two = more_than_two d k a b c es
  where
    more_than_two : (d : Data) (k : Kind) (a b c : ℕ) (es : List ℕ)
        → ends_tokens d k (a ∷ b ∷ c ∷ es) ≡ word d.language (codes "connect") ∷ sign (codes "(") ∷ (end_list d (a ∷ b ∷ c ∷ es) ++ sign (codes ")") ∷ [])
    more_than_two d k a b c es = grind arith

-- ends among items
pub ends_by_items : (d : Data) (is : List Item) → those_where (λ c. is_end (element_at d c).kind) (flat_map (item_elements d) is) ≡ flat_map (ends_in d) is
ends_by_items d [] = refl
ends_by_items d (i ∷ is) =
    where_append (λ c. is_end (element_at d c).kind) (item_elements d i) (flat_map (item_elements d) is)
    ∙ ap (λ es. ends_in d i ++ es) (ends_by_items d is)
  where
    where_append : (test : ℕ → Bool) (xs ys : List ℕ) → those_where test (xs ++ ys) ≡ those_where test xs ++ those_where test ys
    where_append test [] ys = refl
    where_append test (x ∷ xs) ys = ap (chosen (test x) x) (where_append test xs ys) ∙ chosen_append (test x) x (those_where test xs) (those_where test ys)
      where
        chosen_append : (b : Bool) (x : ℕ) (xs ys : List ℕ) → chosen b x (xs ++ ys) ≡ chosen b x xs ++ ys
        chosen_append true x xs ys = refl
        chosen_append false x xs ys = refl

-- the items of an element
pub items_is : (d : Data) (e : ℕ) (is : List Item) → slice_get d.items e ≡ Some is → items_at d e ≡ is
items_is d e is at = get_or_from_slice_get d.items e is [] at

-- nothing stands past the end
pub drop_past : {A : Type 0} (n : ℕ) (xs : List A) → length xs ≤ n → drop n xs ≡ []
drop_past zero [] le = refl
drop_past zero (x ∷ xs) le = absurd (omega arith)
drop_past (suc n) [] le = refl
drop_past (suc n) (x ∷ xs) le = drop_past n xs (omega (arith, le))

-- the ends that were found are all
pub ends_all : (d : Data) (e n : ℕ) (is its : List Item) (ends : List ℕ) → slice_get d.items e ≡ Some is → its ≡ is → length its ≤ n
    → flat_map (ends_in d) its ≡ ends ++ flat_map (ends_in d) (drop n its) → ends ≡ ends_of d e
ends_all d e n is its ends at same le found =
    sym (ap (λ xs. those_where (λ c. is_end (element_at d c).kind) (flat_map (item_elements d) xs)) (items_is d e is at ∙ sym same)
    ∙ ends_by_items d its ∙ found ∙ ap (λ xs. ends ++ flat_map (ends_in d) xs) (drop_past n its le) ∙ append-nil ends)

-- the value of an element is an expression, and so is its result
pub expressions_stand : (d : Data) (n : ℕ) (x : Element) → HasExpressions d → n < length d.elements → x ≡ element_at d n → NamesStand d x
    → IsExpressionIn d x.value × IsExpressionIn d x.result
expressions_stand d n x has lt same stand = (
  (λ ns is. record { tree = has n x ns at (inl is); names = names x.value ns is stand.value }),
  (λ ns is. record { tree = has n x ns at (inr is); names = names x.result ns is stand.result }),
)
  where
    at : slice_get d.elements n ≡ Some x
    at = slice_get-get_or d.elements n root_element lt ∙ ap Some (sym same)

    names : (o : Option (List Node)) (ns : List Node) → o ≡ Some ns → list_all (has_reference d) (names_of o) ≡ true
        → list_all (has_reference d) (names_in ns) ≡ true
    names o ns is e = subst (λ o. list_all (has_reference d) (names_of o) ≡ true) is e
