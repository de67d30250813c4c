-- How parts and names follow one another, and an element's own part.
use Rattle.std.proofs.Common.{◌≡◌, ◌∙◌, ℕ, suc, ◌+◌, ◌<◌, Bool, true, false, cond, nat_lt, take, get_or, Option, Some, None, IfSome, List, [], ◌∷◌, ◌++◌, map, reverse, length, codes, slice_get, refl, sym, ap, subst, arith, append_assoc}
use Rattle.std.specs.Fmt.{decimal}
use Rattle.std.specs.Option.{option_map_or}
use Rattle.std.proofs.lemmas.List.{map-append, reverse-append, take_more, length-map, length-take-le}
use Rattle.std.proofs.lemmas.Bool.{lt-ltb}
use Rattle.std.proofs.lemmas.Option.{get_or_from_slice_get}
use Rattle.element_store.specs.BaseRules.{first_of}
use Rattle.element_store.specs.declared.outcome.Language.{Language}
use Rattle.element_store.specs.declared.records.Element.{Element}
use Rattle.element_store.specs.Model.{Data, root_element}
use Rattle.token_core.specs.Reading.{IsSpellable}
use Rattle.token_core.specs.Spelling.{name_spelling}
use Rattle.book_model.specs.Labels.{own_part, parts_of, parts_under}
use Rattle.book_model.specs.Spelling.{joined}
use Rattle.written_names.specs.Spellable.{own_part_at}

-- the list has an item
abbrev is_more : {A : Type 0} → List A → Bool
is_more [] = false
is_more (x ∷ xs) = true

-- by its length
more_by_length : {A : Type 0} (xs : List A) → nat_lt 0 (length xs) ≡ is_more xs
more_by_length [] = refl
more_by_length (x ∷ xs) = lt-ltb 0 (suc (length xs)) (omega arith)

-- the sign stands before a text that isn't the first
joined_more : (sign y : List ℕ) (xs : List (List ℕ)) → joined sign (xs ++ y ∷ []) ≡ joined sign xs ++ (cond (is_more xs) sign [] ++ y)
joined_more sign y [] = refl
joined_more sign y (x ∷ []) = append_assoc x sign y
joined_more sign y (x ∷ z ∷ zs) =
    ap (λ ws. (x ++ sign) ++ ws) (joined_more sign y (z ∷ zs)) ∙ sym (append_assoc (x ++ sign) (joined sign (z ∷ zs)) (sign ++ y))

-- one text of a list more is written, behind the sign where it isn't the first
pub one_written : {A : Type 0} (text : A → List ℕ) (sign old before middle new : List ℕ) (xs : List A) (i : ℕ) (d : A) → i < length xs
    → before ≡ old ++ joined sign (map text (take i xs)) → middle ≡ before ++ cond (nat_lt 0 i) sign [] → new ≡ middle ++ text (get_or xs i d)
    → new ≡ old ++ joined sign (map text (take (i + 1) xs))
one_written text sign old before middle new xs i d lt start first second =
    let x = get_or xs i d in
    let done = joined sign (map text (take i xs)) in
    let part = cond (nat_lt 0 i) sign [] in
    let long : i ≡ length (map text (take i xs)) = sym (length-map (take i xs) text ∙ length-take-le i xs (omega (arith, lt))) in
    let more : map text (take (i + 1) xs) ≡ map text (take i xs) ++ text x ∷ [] =
    ap (map text) (take_more xs i d lt) ∙ map-append text (take i xs) (x ∷ []) in
    let whole : joined sign (map text (take (i + 1) xs)) ≡ done ++ (part ++ text x) =
    ap (joined sign) more ∙ joined_more sign (text x) (map text (take i xs))
    ∙ ap (λ b. done ++ (cond b sign [] ++ text x)) (sym (ap (nat_lt 0) long ∙ more_by_length (map text (take i xs)))) in
    second ∙ ap (λ bytes. bytes ++ text x) (first ∙ ap (λ bytes. bytes ++ part) start ∙ append_assoc old done part)
    ∙ append_assoc old (done ++ part) (text x) ∙ ap (λ bytes. old ++ bytes) (append_assoc done part (text x)) ∙ ap (λ bytes. old ++ bytes) (sym whole)

-- the own part of an element that stands there
pub own_is : (d : Data) (e : ℕ) (x : Element) → slice_get d.elements e ≡ Some x → own_part_at d e ≡ own_part d.language e x
own_is d e x at = ap (own_part d.language e) (get_or_from_slice_get d.elements e x root_element at)

-- the own part of an element with a name, and of one without
pub own_named : (l : Language) (e : ℕ) (x : Element) (name : List ℕ) → Some name ≡ first_of x.name x.short → own_part l e x ≡ name_spelling l name
own_named l e x name is = ap (λ o. option_map_or (name_spelling l) o (codes "#" ++ decimal e)) (sym is)

-- the number of one without a name
pub own_numbered : (l : Language) (e : ℕ) (x : Element) → None ≡ first_of x.name x.short → own_part l e x ≡ codes "#" ++ decimal e
own_numbered l e x is = ap (λ o. option_map_or (name_spelling l) o (codes "#" ++ decimal e)) (sym is)

-- its name can be spelt where both can
pub own_spellable : (x : Element) (name : List ℕ) → IfSome x.name IsSpellable × IfSome x.short IsSpellable
    → Some name ≡ first_of x.name x.short → IsSpellable name
own_spellable x name can is = subst (λ o. IfSome o IsSpellable) (sym is) (either x.name x.short can)
  where
    either : (a b : Option (List ℕ)) → IfSome a IsSpellable × IfSome b IsSpellable → IfSome (first_of a b) IsSpellable
    either None b can = can.1
    either (Some a) b can = can.0

-- an element's parts with those behind it are its owner's parts, with its own before them
pub one_out : (d : Data) (whole : List (List ℕ)) (e owner : ℕ) (path new : List ℕ) (x : Element) → slice_get d.elements e ≡ Some x → x.owner ≡ Some owner
    → parts_of d e ≡ parts_under (parts_of d) (own_part d.language e x) x.owner
    → whole ≡ parts_of d e ++ map (own_part_at d) (reverse path) → new ≡ path ++ e ∷ []
    → whole ≡ parts_of d owner ++ map (own_part_at d) (reverse new)
one_out d whole e owner path new x at owned step before more =
    let parts : parts_of d e ≡ parts_of d owner ++ own_part_at d e ∷ [] =
    step ∙ ap (parts_under (parts_of d) (own_part d.language e x)) owned ∙ ap (λ own. parts_of d owner ++ own ∷ []) (sym (own_is d e x at)) in
    before ∙ ap (λ ps. ps ++ map (own_part_at d) (reverse path)) parts
    ∙ append_assoc (parts_of d owner) (own_part_at d e ∷ []) (map (own_part_at d) (reverse path))
    ∙ ap (λ ns. parts_of d owner ++ map (own_part_at d) ns) (sym (ap reverse more ∙ reverse-append path (e ∷ [])))

-- at the root nothing is left before the path
pub at_root : (d : Data) (whole : List (List ℕ)) (e : ℕ) (path : List ℕ) (x : Element) → x.owner ≡ None
    → parts_of d e ≡ parts_under (parts_of d) (own_part d.language e x) x.owner
    → whole ≡ parts_of d e ++ map (own_part_at d) (reverse path) → whole ≡ map (own_part_at d) (reverse path)
at_root d whole e path x none step before =
    before ∙ ap (λ ps. ps ++ map (own_part_at d) (reverse path)) (step ∙ ap (parts_under (parts_of d) (own_part d.language e x)) none)
