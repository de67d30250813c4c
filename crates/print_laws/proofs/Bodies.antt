-- Bodies are read back, given their items; and items behind their visibility.
use Rattle.std.proofs.Common.{ℕ, List, [], ◌∷◌, ◌++◌, length, refl, ap, sym, append_assoc, append-nil}
use Rattle.std.specs.Prelude.{Option, Some, None, false, codes}
use Rattle.element_store.specs.declared.outcome.Language.{Language}
use Rattle.element_store.specs.declared.outcome.Language.TheVariants.{Kerml, Sysml}
use Rattle.element_store.specs.declared.kind.Visibility.{Visibility}
use Rattle.element_store.specs.declared.kind.Visibility.TheVariants as visibility
use Rattle.token_core.specs.Terminals.{terminal}
use Rattle.ll_core.specs.declared.grammar.Symbol.TheVariants.{Terminal, Inner}
use Rattle.text_model.specs.declared.action.Action.{Action}
use Rattle.text_model.specs.declared.action.Action.TheVariants as action
use Rattle.text_model.specs.declared.action.Taking.TheVariants as taking
use Rattle.text_model.specs.declared.action.Meaning.TheVariants as meaning
use Rattle.text_model.specs.declared.draft.Draft.{Draft}
use Rattle.text_model.specs.declared.draft.Reading.{Reading}
use Rattle.text_model.specs.Walk.{Walk, fresh}
use Rattle.print_model.specs.Printed.{Printed, sign, word}
use Rattle.print_model.specs.Trees.{Tree, printed, IsPrintable}
use Rattle.print_model.specs.Heads.{visibility_word, member_visibility}
use Rattle.print_model.proofs.Readings.{Reads, reads_said}
use Rattle.print_model.proofs.States.{onto}
use Rattle.print_model.proofs.Begun.{begun_read, pushed_postfix}
use Rattle.print_laws.specs.Items.{Items, Empty, Import, Alias, Note, Member}
use Rattle.print_laws.specs.ItemTokens.{is_bare, enclosed, resulting, tokens}
use Rattle.print_laws.specs.ItemWalk.{Grown, changed_self, with_result, grow}
use Rattle.print_laws.specs.Fitting.{Place, Anywhere, Enumerating, Calculating, Requiring, IsResult}
use Rattle.print_laws.proofs.Symbols as symbol
use Rattle.print_laws.proofs.Productions as rule
use Rattle.print_laws.proofs.KermlProductions as kerml
use Rattle.print_laws.proofs.SysmlProductions as sysml
use Rattle.print_laws.proofs.Meanings as means
use Rattle.print_laws.proofs.Steps.{inside, done, then, by_rule, grouped, as_tokens, to_end, silent, changed_inside, waited}
use Rattle.print_laws.proofs.Usages.{body_symbol}

-- the language has bodies of this sort
abbrev pub HasPlace : Language → Place → Type 0
HasPlace Kerml Enumerating = ⊥
HasPlace Kerml Requiring = ⊥
HasPlace l place = Unit {0}

-- the symbol of the items of a body
abbrev pub many_symbol : Language → Place → ℕ
many_symbol l Anywhere = symbol.many_member l
many_symbol Kerml Calculating = symbol.many_fun_item
many_symbol Sysml Calculating = symbol.many_calc_item
many_symbol l Enumerating = symbol.many_enum_item
many_symbol l Requiring = symbol.many_req_item

-- and of one of them, behind its visibility
abbrev pub item_symbol : Language → Place → ℕ
item_symbol l Anywhere = symbol.content l
item_symbol l Calculating = symbol.one_import_alias_note l
item_symbol l Enumerating = symbol.one_note_enum_use_tail
item_symbol l Requiring = symbol.one_content_subject_use_tail

-- Visibility.

-- a visibility word waits
abbrev pub awaiting : Visibility → Walk → Walk
awaiting v w = record w { waiting = Some (record { place = 0; visibility = v }) }

-- a visibility word
pub written_visibility : (l : Language) (a : Action) (w : Walk) (v : Visibility)
    → Reads l a (Inner (symbol.maybe_vis l) ∷ []) (word l (visibility_word v) ∷ []) w (awaiting v w)
written_visibility l a w visibility.Public =
    grouped (rule.maybe_vis_0 l) (grouped (rule.vis_0 l)
    (reads_said l action.Group (word l (codes "public")) _ (meaning.Visibility visibility.Public) _ _ _ _ refl (means.word_public l) done))
written_visibility l a w visibility.Protected =
    grouped (rule.maybe_vis_0 l) (grouped (rule.vis_1 l)
    (reads_said l action.Group (word l (codes "protected")) _ (meaning.Visibility visibility.Protected) _ _ _ _ refl (means.word_protected l) done))
written_visibility l a w visibility.Private =
    grouped (rule.maybe_vis_0 l) (grouped (rule.vis_2 l)
    (reads_said l action.Group (word l (codes "private")) _ (meaning.Visibility visibility.Private) _ _ _ _ refl (means.word_private l) done))

-- one where it is not public
pub visibility_read : (l : Language) (a : Action) (es : List Draft) (g : Grown) (r : Reading) (v : Visibility)
    → Reads l a (Inner (symbol.maybe_vis l) ∷ []) (member_visibility l v) (inside es g r) (waited v (inside es g r))
visibility_read l a es g r visibility.Public = grouped (rule.maybe_vis_1 l) done
visibility_read l a es g r visibility.Protected = written_visibility l a (inside es g r) visibility.Protected
visibility_read l a es g r visibility.Private = written_visibility l a (inside es g r) visibility.Private

-- Items.

-- no more items
pub no_items : (l : Language) (place : Place) (a : Action) (w : Walk) → HasPlace l place → Reads l a (Inner (many_symbol l place) ∷ []) [] w w
no_items l Anywhere a w h = grouped (rule.many_member_1 l) done
no_items Kerml Calculating a w h = grouped kerml.many_fun_item_1 done
no_items Sysml Calculating a w h = grouped sysml.many_calc_item_1 done
no_items Kerml Enumerating a w h = absurd h
no_items Sysml Enumerating a w h = grouped sysml.many_enum_item_1 done
no_items Kerml Requiring a w h = absurd h
no_items Sysml Requiring a w h = grouped sysml.many_req_item_1 done

-- an item behind its visibility, and those after it
pub item_then : (l : Language) (place : Place) (a : Action) (vs ps qs : List Printed) (x y z w : Walk) → HasPlace l place
    → Reads l action.Group (Inner (symbol.maybe_vis l) ∷ []) vs x y → Reads l action.Group (Inner (item_symbol l place) ∷ []) ps y z
    → Reads l action.Group (Inner (many_symbol l place) ∷ []) qs z w
    → Reads l a (Inner (many_symbol l place) ∷ []) ((vs ++ ps) ++ qs) x w
item_then l Anywhere a vs ps qs x y z w h p q r = grouped (rule.many_member_0 l) (then (grouped (rule.member l) (then p q)) r)
item_then Kerml Calculating a vs ps qs x y z w h p q r = grouped kerml.many_fun_item_0 (then (grouped kerml.fun_item (then p q)) r)
item_then Sysml Calculating a vs ps qs x y z w h p q r = grouped sysml.many_calc_item_0 (then (grouped sysml.calc_item (then p q)) r)
item_then Kerml Enumerating a vs ps qs x y z w h p q r = absurd h
item_then Sysml Enumerating a vs ps qs x y z w h p q r = grouped sysml.many_enum_item_0 (then (grouped sysml.enum_item (then p q)) r)
item_then Kerml Requiring a vs ps qs x y z w h p q r = absurd h
item_then Sysml Requiring a vs ps qs x y z w h p q r = grouped sysml.many_req_item_0 (then (grouped sysml.req_item (then p q)) r)

-- Bodies.

-- no body
no_body : (l : Language) (place : Place) (a : Action) (w : Walk) → HasPlace l place
    → Reads l a (Inner (body_symbol l place) ∷ []) (sign (codes ";") ∷ []) w w
no_body l Anywhere a w h = grouped (rule.body_0 l) (silent (sign (codes ";")) (means.sign_semicolon l) done)
no_body Kerml Calculating a w h = grouped kerml.fun_body_0 (silent (sign (codes ";")) (means.sign_semicolon Kerml) done)
no_body Sysml Calculating a w h = grouped sysml.calc_body_0 (silent (sign (codes ";")) (means.sign_semicolon Sysml) done)
no_body Kerml Enumerating a w h = absurd h
no_body Sysml Enumerating a w h = grouped sysml.enum_body_0 (silent (sign (codes ";")) (means.sign_semicolon Sysml) done)
no_body Kerml Requiring a w h = absurd h
no_body Sysml Requiring a w h = grouped sysml.req_body_0 (silent (sign (codes ";")) (means.sign_semicolon Sysml) done)

-- a result
result_read : (l : Language) (a : Action) (es : List Draft) (g : Grown) (r : Reading) (e : Tree) → IsPrintable e
    → Reads l a (Inner (symbol.maybe_expr l) ∷ []) (printed l e) (inside es g r) (inside es (changed_self (with_result (Some e)) g) r)
result_read l a es g r e h =
    to_end (ap (λ ns. inside es (changed_self (λ d. record d { result = Some (record { start = 0; nodes = ns }) }) g) r) (pushed_postfix [] e))
    (to_end (changed_inside (λ d. record d { result = Some (record { start = 0; nodes = onto [] e }) }) es g r)
    (by_rule (rule.maybe_expr_0 l) (begun_read l e h (inside es g fresh) [] (action.Take taking.Result) None)))

-- a result or none
maybe_result : (l : Language) (a : Action) (es : List Draft) (g : Grown) (r : Reading) (e : Option Tree) → IsResult Calculating e
    → Reads l a (Inner (symbol.maybe_expr l) ∷ []) (resulting l e) (inside es g r) (inside es (changed_self (with_result e) g) r)
maybe_result l a es g r None h = grouped (rule.maybe_expr_1 l) done
maybe_result l a es g r (Some e) h = result_read l a es g r e h

-- what stands in a body without a result
plain_inside : (l : Language) (s : ℕ) (ps : List Printed) (x y : Walk) → Reads l action.Group (Inner s ∷ []) ps x y
    → Reads l action.Group (Terminal (terminal (sign (codes "{")).kind) ∷ Inner s ∷ Terminal (terminal (sign (codes "}")).kind) ∷ []) (sign (codes "{") ∷ ((ps
    ++ []) ++ sign (codes "}") ∷ [])) x y
plain_inside l s ps x y q =
    as_tokens (ap (λ ts. sign (codes "{") ∷ (ts ++ sign (codes "}") ∷ [])) (sym (append-nil ps)))
    (silent (sign (codes "{")) (means.sign_open_brace l) (then q (silent (sign (codes "}")) (means.sign_close_brace l) done)))

-- and in one where it may stand
result_inside : (l : Language) (s : ℕ) (ps qs : List Printed) (x y z : Walk) → Reads l action.Group (Inner s ∷ []) ps x y
    → Reads l action.Group (Inner (symbol.maybe_expr l) ∷ []) qs y z
    → Reads l action.Group (Terminal (terminal (sign (codes "{")).kind) ∷ Inner s ∷ Inner (symbol.maybe_expr l)
    ∷ Terminal (terminal (sign (codes "}")).kind) ∷ [])
    (sign (codes "{") ∷ ((ps ++ qs) ++ sign (codes "}") ∷ [])) x z
result_inside l s ps qs x y z q r =
    as_tokens (ap (λ ts. sign (codes "{") ∷ ts) (sym (append_assoc ps qs (sign (codes "}") ∷ []))))
    (silent (sign (codes "{")) (means.sign_open_brace l) (then q (then r (silent (sign (codes "}")) (means.sign_close_brace l) done))))

-- a body between its brackets
filled_read : (l : Language) (place : Place) (a : Action) (es : List Draft) (g h : Grown) (r : Reading) (ps : List Printed) (e : Option Tree)
    → HasPlace l place → IsResult place e → Reads l action.Group (Inner (many_symbol l place) ∷ []) ps (inside es g r) (inside es h r)
    → Reads l a (Inner (body_symbol l place) ∷ []) (enclosed false (ps ++ resulting l e)) (inside es g r) (inside es (changed_self (with_result e) h) r)
filled_read l Anywhere a es g h r ps None i k q = grouped (rule.body_1 l) (plain_inside l _ ps _ _ q)
filled_read l Anywhere a es g h r ps (Some e) i k q = absurd k
filled_read Kerml Calculating a es g h r ps e i k q =
    grouped kerml.fun_body_1 (result_inside Kerml _ ps _ _ _ _ q (maybe_result Kerml action.Group es h r e k))
filled_read Sysml Calculating a es g h r ps e i k q =
    grouped sysml.calc_body_1 (result_inside Sysml _ ps _ _ _ _ q (maybe_result Sysml action.Group es h r e k))
filled_read Kerml Enumerating a es g h r ps e i k q = absurd i
filled_read Sysml Enumerating a es g h r ps None i k q = grouped sysml.enum_body_1 (plain_inside Sysml _ ps _ _ q)
filled_read Sysml Enumerating a es g h r ps (Some e) i k q = absurd k
filled_read Kerml Requiring a es g h r ps e i k q = absurd i
filled_read Sysml Requiring a es g h r ps None i k q = grouped sysml.req_body_1 (plain_inside Sysml _ ps _ _ q)
filled_read Sysml Requiring a es g h r ps (Some e) i k q = absurd k

-- a body with its items and its result, if it has any
pub body_read : (l : Language) (place : Place) (a : Action) (es : List Draft) (g : Grown) (r : Reading) (xs : Items) (e : Option Tree)
    → HasPlace l place → IsResult place e
    → Reads l action.Group (Inner (many_symbol l place) ∷ []) (tokens l xs) (inside es g r) (inside es (grow (length es) xs g) r)
    → Reads l a (Inner (body_symbol l place) ∷ []) (enclosed (is_bare xs e) (tokens l xs ++ resulting l e)) (inside es g r)
    (inside es (changed_self (with_result e) (grow (length es) xs g)) r)
body_read l place a es g r Empty None i k q = no_body l place a (inside es g r) i
body_read l place a es g r Empty (Some e) i k q = filled_read l place a es g _ r [] (Some e) i k q
body_read l place a es g r (Import v x xs) e i k q = filled_read l place a es g _ r (tokens l (Import v x xs)) e i k q
body_read l place a es g r (Alias v x xs) e i k q = filled_read l place a es g _ r (tokens l (Alias v x xs)) e i k q
body_read l place a es g r (Note v x xs) e i k q = filled_read l place a es g _ r (tokens l (Note v x xs)) e i k q
body_read l place a es g r (Member v t b x xs) e i k q = filled_read l place a es g _ r (tokens l (Member v t b x xs)) e i k q
