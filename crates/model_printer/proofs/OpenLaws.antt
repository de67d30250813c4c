-- Bodies that are open: what is written and what is left stay together from turn to turn.
use Rattle.std.proofs.Common.{◌≡◌, ◌∙◌, ℕ, suc, ◌+◌, ◌<◌, ◌≤◌, Bool, true, false, List, [], ◌∷◌, ◌++◌, drop, length, length-append, refl, sym, ap, subst, arith, append_assoc, append-nil, reverse}
use Rattle.std.specs.Prelude.{Option, Some, None, slice_get, cond, not, ◌||◌, is_some, codes}
use Rattle.std.specs.List.{flat_map, list_any}
use Rattle.std.proofs.lemmas.Bool.Decides.{nat_tests}
use Rattle.std.proofs.lemmas.Option.{slice_get-get_or}
use Rattle.element_store.specs.declared.kind.Visibility.{Visibility}
use Rattle.std.proofs.lemmas.List.{reverse-append}
use Rattle.element_store.specs.declared.records.Element.{Element}
use Rattle.element_store.specs.declared.records.Target.{Target}
use Rattle.element_store.specs.declared.records.Target.TheVariants.{Owned, Alias}
use Rattle.element_store.specs.declared.lists.Item.{Item}
use Rattle.element_store.specs.declared.lists.Item.TheVariants as item
use Rattle.element_store.specs.declared.expression.Node.{Node}
use Rattle.element_store.specs.Readings.{is_any}
use Rattle.element_store.specs.Model.{Data}
use Rattle.element_store.specs.Condition.{HasRoot, IsModel, is_few}
use Rattle.element_store.proofs.ModelLaws.{all_at, items_long}
use Rattle.print_model.specs.Printed.{Printed, sign}
use Rattle.print_model.specs.Layout.{Line, text_of}
use Rattle.print_model.specs.Heads.{element_at, element_lines, head, is_end, is_note, item_lines, items_at, line, member_at, model_lines, note_tokens, result_lines, target_lines, with_body}
use Rattle.model_printer.specs.declared.bodies.OpenBody.{OpenBody}
use Rattle.model_printer.specs.Bodies.{lines_at, target_has_line, has_line, has_lines, closing, items_left, body_left, lines_left, AreOpen, AreWritten, AreBegun, IsMoved}
use Rattle.model_printer.specs.Sheets.{Sheet}
use Rattle.model_printer.proofs.ListLaws.{drop_at}
use Rattle.model_printer.proofs.EndLaws.{drop_past}
use Rattle.model_printer.proofs.LineLaws.{written_left}
use Rattle.model_printer.proofs.BodyLaws.{lines_step}

-- WHETHER A BODY HAS A LINE

any_append : {A : Type 0} (xs ys : List A) → is_any (xs ++ ys) ≡ is_any xs || is_any ys
any_append [] ys = refl
any_append (x ∷ xs) ys = refl

body_any : (level : ℕ) (ts : List Printed) (ls : List Line) → is_any (with_body level ts ls) ≡ true
body_any level ts [] = refl
body_any level ts (l ∷ ls) = refl

item_any : (f : ℕ → ℕ → List Line) (d : Data) (level : ℕ) (i : Item) → is_any (item_lines f d level i) ≡ has_line d i
item_any f d level (item.Import i) = refl
item_any f d level (item.Member m) = by_target (member_at d m).target
  where
    by_tests : (b n : Bool) (l : Line) (ls : List Line) → is_any ls ≡ true → is_any (cond b [] (cond n (l ∷ []) ls)) ≡ not b
    by_tests true n l ls e = refl
    by_tests false true l ls e = refl
    by_tests false false l ls e = e

    by_target : (t : Target) → is_any (target_lines f d level (member_at d m) t) ≡ target_has_line d t
    by_target (Alias r) = refl
    by_target (Owned c) = by_tests (is_end (element_at d c).kind) (is_note (element_at d c).kind) (line level (note_tokens d (member_at d m).visibility c))
        (with_body level (head d (member_at d m).visibility c) (f (suc level) c))
        (body_any level (head d (member_at d m).visibility c) (f (suc level) c))

items_any : (f : ℕ → ℕ → List Line) (d : Data) (level : ℕ) (is : List Item) → is_any (flat_map (item_lines f d level) is) ≡ list_any (has_line d) is
items_any f d level [] = refl
items_any f d level (i ∷ is) =
    any_append (item_lines f d level i) (flat_map (item_lines f d level) is)
    ∙ ap (λ b. b || is_any (flat_map (item_lines f d level) is)) (item_any f d level i) ∙ ap (λ b. has_line d i || b) (items_any f d level is)

result_any : (d : Data) (level : ℕ) (o : Option (List Node)) → is_any (result_lines d level o) ≡ is_some o
result_any d level None = refl
result_any d level (Some ns) = refl

lines_any : (d : Data) → IsModel d → (level e : ℕ) → e < length d.elements → is_any (lines_at d level e) ≡ has_lines d e
lines_any d m level e lt =
    ap is_any (lines_step d m level e lt)
    ∙ any_append (flat_map (item_lines (lines_at d) d level) (items_at d e)) (result_lines d level (element_at d e).result)
    ∙ ap (λ b. b || is_any (result_lines d level (element_at d e).result)) (items_any (lines_at d) d level (items_at d e))
    ∙ ap (λ b. list_any (has_line d) (items_at d e) || b) (result_any d level (element_at d e).result)

without_lines : (level : ℕ) (ts : List Printed) (ls : List Line) → is_any ls ≡ false → with_body level ts ls ≡ line level (ts ++ sign (codes ";") ∷ []) ∷ []
without_lines level ts [] e = refl
without_lines level ts (l ∷ ls) e = cc

with_lines : (level : ℕ) (ts : List Printed) (ls : List Line) → is_any ls ≡ true
    → with_body level ts ls ≡ line level (ts ++ sign (codes "{") ∷ []) ∷ (ls ++ closing (suc level))
with_lines level ts [] e = cc
with_lines level ts (l ∷ ls) e = refl

-- neither an end nor a comment
element_is : (d : Data) (level : ℕ) (v : Visibility) (c : ℕ) → is_end (element_at d c).kind ≡ false → is_note (element_at d c).kind ≡ false
    → element_lines (lines_at d) d level v c ≡ with_body level (head d v c) (lines_at d (suc level) c)
element_is d level v c end note =
    ap (λ b. cond {A = List Line} b [] (cond (is_note (element_at d c).kind) (line level (note_tokens d v c) ∷ [])
    (with_body level (head d v c) (lines_at d (suc level) c)))) end
    ∙ ap (λ b. cond {A = List Line} b (line level (note_tokens d v c) ∷ []) (with_body level (head d v c) (lines_at d (suc level) c))) note

-- LINES THAT ARE WRITTEN

-- lines that are written open no body
pub written_begun : (d : Data) (ls : List Line) (s t : Sheet) (bs : List OpenBody) → AreWritten ls s t → AreOpen d bs → AreBegun d ls s t bs bs
written_begun d ls s t bs is open_bs = record { same = written_left ls (lines_left d bs) s t is; less = omega arith; stand = open_bs }

-- a body of no lines
pub closed_begun : (d : Data) → IsModel d → (level : ℕ) (v : Visibility) (c : ℕ) (s t : Sheet) (bs : List OpenBody) → c < length d.elements
    → is_end (element_at d c).kind ≡ false → is_note (element_at d c).kind ≡ false → has_lines d c ≡ false
    → AreWritten (line level (head d v c ++ sign (codes ";") ∷ []) ∷ []) s t → AreOpen d bs
    → AreBegun d (element_lines (lines_at d) d level v c) s t bs bs
closed_begun d m level v c s t bs lt end note none is open_bs =
    subst (λ ls. AreBegun d ls s t bs bs)
    (sym (element_is d level v c end note ∙ without_lines level (head d v c) (lines_at d (suc level) c) (lines_any d m (suc level) c lt ∙ none)))
    (written_begun d (line level (head d v c ++ sign (codes ";") ∷ []) ∷ []) s t bs is open_bs)

drop_none : {A : Type 0} (xs : List A) → drop 0 xs ≡ xs
drop_none [] = refl
drop_none (x ∷ xs) = refl

-- a body at its first item
abbrev pub first_of : ℕ → OpenBody
first_of c = record { element = c; next = 0 }

-- all lines of a body that begins
body_begun : (d : Data) → IsModel d → (level c : ℕ) → c < length d.elements → body_left d level (first_of c) ≡ lines_at d level c
body_begun d m level c lt =
    ap (λ is. flat_map (item_lines (lines_at d) d level) is ++ result_lines d level (element_at d c).result) (drop_none (items_at d c))
    ∙ sym (lines_step d m level c lt)

-- a body has few items
items_few : (d : Data) → IsModel d → (e : ℕ) → e < length d.elements → length (items_at d e) < 4294967296
items_few d m e lt =
    below (length (items_at d e)) (all_at (λ is. is_few (length is)) e d.items (items_at d e) m.few.items
    (slice_get-get_or d.items e [] (subst (λ n. e < n) (sym (items_long d m)) lt)))
  where
    below : (n : ℕ) → is_few n ≡ true → n < 4294967296
    below n e = grind (arith, nat_tests)

-- a body of some lines
pub opened_begun : (d : Data) → IsModel d → (level : ℕ) (v : Visibility) (c : ℕ) (s t : Sheet) (bs : List OpenBody) → c < length d.elements
    → length bs ≡ suc level → is_end (element_at d c).kind ≡ false → is_note (element_at d c).kind ≡ false → has_lines d c ≡ true
    → AreWritten (line level (head d v c ++ sign (codes "{") ∷ []) ∷ []) s t → AreOpen d bs
    → AreBegun d (element_lines (lines_at d) d level v c) s t bs (first_of c ∷ bs)
opened_begun d m level v c s t bs lt long end note some is open_bs =
    let inner = lines_at d (suc level) c in
    let rest = lines_left d bs in
    let whole : element_lines (lines_at d) d level v c ≡ line level (head d v c ++ sign (codes "{") ∷ []) ∷ (inner ++ closing (suc level)) =
    element_is d level v c end note ∙ with_lines level (head d v c) inner (lines_any d m (suc level) c lt ∙ some) in
    let left : lines_left d (first_of c ∷ bs) ≡ inner ++ (closing (suc level) ++ rest) =
    ap (λ n. body_left d n (first_of c) ++ (closing n ++ rest)) long ∙ ap (λ ls. ls ++ (closing (suc level) ++ rest)) (body_begun d m (suc level) c lt) in
    let few = items_few d m c lt in
    let items : length (items_left d (first_of c)) ≡ length (items_at d c) = ap length (drop_none (items_at d c)) in
    let more : length (inner ++ closing (suc level)) ≡ length inner + 1 = length-append inner (closing (suc level)) in
    let first : length (element_lines (lines_at d) d level v c) ≡ suc (length (inner ++ closing (suc level))) = ap length whole in
    let second : length (lines_left d (first_of c ∷ bs)) ≡ length inner + (1 + length rest) =
    ap length left ∙ length-append inner (closing (suc level) ++ rest) ∙ ap (λ n. length inner + n) (length-append (closing (suc level)) rest) in
    record {
      same = ap (λ ls. s.bytes ++ text_of (ls ++ rest)) whole
          ∙ written_left (line level (head d v c ++ sign (codes "{") ∷ []) ∷ []) ((inner ++ closing (suc level)) ++ rest) s t is
          ∙ ap (λ ls. t.bytes ++ text_of ls) (append_assoc inner (closing (suc level)) rest ∙ sym left);
      less = omega (arith, few, items, more, first, second);
      stand = (lt, open_bs);
    }

-- TURNS

-- the body at the item after this one
abbrev pub next_of : OpenBody → OpenBody
next_of b = record { element = b.element; next = b.next + 1 }

-- an item of the innermost body
pub item_moved : (d : Data) (b : OpenBody) (bs after : List OpenBody) (i : Item) (s t : Sheet) → slice_get (items_at d b.element) b.next ≡ Some i
    → AreBegun d (item_lines (lines_at d) d (length bs) i) s t (next_of b ∷ bs) after → IsMoved d s t (b ∷ bs) after
item_moved d b bs after i s t at begun =
    let f = item_lines (lines_at d) d (length bs) in
    let behind = items_left d (next_of b) in
    let result = result_lines d (length bs) (element_at d b.element).result in
    let rest = closing (length bs) ++ lines_left d bs in
    let items : items_left d b ≡ i ∷ behind = drop_at (items_at d b.element) b.next i at in
    let left : lines_left d (b ∷ bs) ≡ f i ++ lines_left d (next_of b ∷ bs) =
    ap (λ is. (flat_map f is ++ result) ++ rest) items ∙ ap (λ ls. ls ++ rest) (append_assoc (f i) (flat_map f behind) result)
    ∙ append_assoc (f i) (flat_map f behind ++ result) rest in
    let first : length (lines_left d (b ∷ bs)) ≡ length (f i) + length (lines_left d (next_of b ∷ bs)) =
    ap length left ∙ length-append (f i) (lines_left d (next_of b ∷ bs)) in
    let second : length (items_left d b) ≡ suc (length behind) = ap length items in
    let few = begun.less in
    record {
      same = ap (λ ls. s.bytes ++ text_of ls) left ∙ begun.same;
      less = omega (arith, first, second, few);
      stand = begun.stand;
    }

-- the end of the innermost body
pub end_moved : (d : Data) (b : OpenBody) (bs : List OpenBody) (s t : Sheet) → length (items_at d b.element) ≤ b.next
    → AreWritten (result_lines d (length bs) (element_at d b.element).result ++ closing (length bs)) s t → AreOpen d bs → IsMoved d s t (b ∷ bs) bs
end_moved d b bs s t past is open_bs =
    let f = item_lines (lines_at d) d (length bs) in
    let result = result_lines d (length bs) (element_at d b.element).result in
    let left : lines_left d (b ∷ bs) ≡ (result ++ closing (length bs)) ++ lines_left d bs =
    ap (λ is. (flat_map f is ++ result) ++ (closing (length bs) ++ lines_left d bs)) (drop_past b.next (items_at d b.element) past)
    ∙ sym (append_assoc result (closing (length bs)) (lines_left d bs)) in
    let first : length (lines_left d (b ∷ bs)) ≡ length (result ++ closing (length bs)) + length (lines_left d bs) =
    ap length left ∙ length-append (result ++ closing (length bs)) (lines_left d bs) in
    record {
      same = ap (λ ls. s.bytes ++ text_of ls) left ∙ written_left (result ++ closing (length bs)) (lines_left d bs) s t is;
      less = omega (arith, first);
      stand = open_bs;
    }

-- at first the whole model is left
pub model_left : (d : Data) → IsModel d → 0 < length d.elements → lines_left d (first_of 0 ∷ []) ≡ model_lines d
unfolding lines_at
model_left d m lt = append-nil (body_left d 0 (first_of 0)) ∙ body_begun d m 0 0 lt

-- a model has a root
pub has_root : (d : Data) → IsModel d → 0 < length d.elements
has_root d m = by_elements d.elements m.root
  where
    by_elements : (es : List Element) → HasRoot es → 0 < length es
    by_elements [] root = absurd root
    by_elements (e ∷ es) root = omega arith

-- a body that is opened comes first
pub opened_first : (bs : List OpenBody) (b : OpenBody) → reverse (bs ++ b ∷ []) ≡ b ∷ reverse bs
opened_first bs b = reverse-append bs (b ∷ [])

-- an item with a line is among those that are left
pub any_found : (d : Data) (is : List Item) (n : ℕ) (i : Item) → slice_get is n ≡ Some i → has_line d i ≡ true → list_any (has_line d) (drop n is) ≡ true
any_found d is n i at has = ap (list_any (has_line d)) (drop_at is n i at) ∙ ap (λ b. b || list_any (has_line d) (drop (n + 1) is)) has
