-- Steps of a reading inside an element: tokens, productions, and changes of the element that is open.
use Rattle.std.proofs.Common.{◌≡◌, ℕ, List, [], ◌∷◌, ◌++◌, length, refl, ap, sym, subst, ◌∙◌, append_assoc}
use Rattle.std.specs.Prelude.{Option, Some, None}
use Rattle.std.specs.Option.{unwrap_or}
use Rattle.std.proofs.lemmas.List.{length-append}
use Rattle.element_store.specs.declared.outcome.Language.{Language}
use Rattle.element_store.specs.declared.kind.Kind.{Kind}
use Rattle.element_store.specs.declared.kind.Visibility.{Visibility}
use Rattle.element_store.specs.declared.kind.Visibility.TheVariants as visibility
use Rattle.element_store.specs.declared.kind.Direction.{Direction}
use Rattle.element_store.specs.declared.kind.PartOf.{PartOf}
use Rattle.token_core.specs.Terminals.{terminal}
use Rattle.ll_core.specs.declared.grammar.Symbol.{Symbol}
use Rattle.ll_core.specs.declared.grammar.Symbol.TheVariants.{Terminal, Inner}
use Rattle.text_model.specs.declared.action.Action.{Action}
use Rattle.text_model.specs.declared.action.Action.TheVariants as action
use Rattle.text_model.specs.declared.action.Mark.{Mark}
use Rattle.text_model.specs.declared.action.Meaning.TheVariants as meaning
use Rattle.element_store.specs.declared.lists.Item.TheVariants as item
use Rattle.text_model.specs.declared.draft.Draft.{Draft}
use Rattle.text_model.specs.declared.draft.DraftTarget.TheVariants.{Owned}
use Rattle.text_model.specs.declared.draft.Reading.{Reading}
use Rattle.text_model.specs.declared.draft.Seen.{Seen}
use Rattle.text_model.specs.Tables.{tables, meaning_of}
use Rattle.text_model.specs.Drafts.{draft, adjusted, marked, definition_of}
use Rattle.text_model.specs.Walk.{Walk, fresh, saved, entered, left, named, changed, with_item, begun_place, begun_visibility}
use Rattle.print_model.specs.Printed.{Printed}
use Rattle.print_model.proofs.Readings.{Reads, reads_nothing, reads_said, reads_last, reads_then, reads_as, reads_to}
use Rattle.print_laws.specs.ItemWalk.{Grown, changed_self, next_number, begun, ended}
use Rattle.print_laws.proofs.Productions.{Rule}

-- the walk in an element: those before it, it and those behind it, what was read
abbrev pub inside : List Draft → Grown → Reading → Walk
inside es g r = record {
  elements = es ++ g.self ∷ g.others;
  members = g.members;
  imports = g.imports;
  current = length es;
  waiting = None;
  reading = r;
  large = [];
  rest = [];
}

-- Sequences.

-- nothing more
pub done : {l : Language} {a : Action} {w : Walk} → Reads l a [] [] w w
done {l = l} {a = a} {w = w} = reads_nothing l a w

-- one after another
pub then : {l : Language} {a : Action} {ss ts : List Symbol} {ps qs : List Printed} {w u v : Walk} → Reads l a ss ps w u → Reads l a ts qs u v
    → Reads l a (ss ++ ts) (ps ++ qs) w v
then {l = l} {a = a} {ss = ss} {ts = ts} {ps = ps} {qs = qs} {w = w} {u = u} {v = v} r q = reads_then l a ss ts ps qs w u v r q

-- a production
pub by_rule : {l : Language} {a b : Action} {s : ℕ} {rs : List Symbol} {ps : List Printed} {w u : Walk} → Rule l s rs b
    → Reads l b rs ps (entered b w) u → Reads l a (Inner s ∷ []) ps w (left b (saved b w) u)
by_rule {l = l} {a = a} {b = b} {s = s} {rs = rs} {ps = ps} {w = w} {u = u} rule r = reads_last l a b rule.n s rs ps w u rule.rule r

-- a production without a meaning of its own
pub grouped : {l : Language} {a : Action} {s : ℕ} {rs : List Symbol} {ps : List Printed} {w u : Walk} → Rule l s rs action.Group
    → Reads l action.Group rs ps w u → Reads l a (Inner s ∷ []) ps w u
grouped {l = l} {a = a} {s = s} {rs = rs} {ps = ps} {w = w} {u = u} rule r = reads_last l a action.Group rule.n s rs ps w u rule.rule r

-- equal tokens
pub as_tokens : {l : Language} {a : Action} {ss : List Symbol} {ps qs : List Printed} {w v : Walk} → ps ≡ qs → Reads l a ss ps w v → Reads l a ss qs w v
as_tokens {l = l} {a = a} {ss = ss} {ps = ps} {qs = qs} {w = w} {v = v} e r = reads_as l a ss ps qs w v e r

-- equal ends
pub to_end : {l : Language} {a : Action} {ss : List Symbol} {ps : List Printed} {w u v : Walk} → u ≡ v → Reads l a ss ps w u → Reads l a ss ps w v
to_end {l = l} {a = a} {ss = ss} {ps = ps} {w = w} {u = u} {v = v} e r = reads_to l a ss ps w u v e r

-- equal starts
pub from_start : {l : Language} {a : Action} {ss : List Symbol} {ps : List Printed} {w u v : Walk} → w ≡ u → Reads l a ss ps u v → Reads l a ss ps w v
from_start {l = l} {a = a} {ss = ss} {ps = ps} {w = w} {u = u} {v = v} e r = subst (λ x. Reads l a ss ps x v) (sym e) r

-- Tokens.

-- one that means nothing
pub silent : {l : Language} {a : Action} {ss : List Symbol} {ps : List Printed} {w v : Walk} (p : Printed)
    → meaning_of (tables l) p.kind ≡ meaning.Nothing → Reads l a ss ps w v → Reads l a (Terminal (terminal p.kind) ∷ ss) (p ∷ ps) w v
silent {l = l} {a = a} {ss = ss} {ps = ps} {w = w} {v = v} p m r = reads_said l a p (terminal p.kind) meaning.Nothing ss ps w v refl m r

-- the element at its own place
pub adjusted_here : (f : Draft → Draft) (es : List Draft) (x : Draft) (ys : List Draft) → adjusted (length es) f (es ++ x ∷ ys) ≡ es ++ f x ∷ ys
adjusted_here f [] x ys = refl
adjusted_here f (e ∷ es) x ys = ap (λ ds. e ∷ ds) (adjusted_here f es x ys)

-- what is changed is the element that is open
pub changed_inside : (f : Draft → Draft) (es : List Draft) (g : Grown) (r : Reading) → changed f (inside es g r) ≡ inside es (changed_self f g) r
changed_inside f es g r = ap (λ ds. record (inside es g r) { elements = ds }) (adjusted_here f es g.self g.others)

-- one that changes the element that is open
pub marking : {l : Language} {a : Action} {ss : List Symbol} {ps : List Printed} {v : Walk} {r : Reading} (es : List Draft) (g : Grown)
    (p : Printed) (m : Mark) → meaning_of (tables l) p.kind ≡ meaning.Mark m
    → Reads l a ss ps (inside es (changed_self (λ d. record d { marks = marked m d.marks }) g) r) v
    → Reads l a (Terminal (terminal p.kind) ∷ ss) (p ∷ ps) (inside es g r) v
marking {l = l} {a = a} {ss = ss} {ps = ps} {v = v} {r = r} es g p m e q =
    reads_said l a p (terminal p.kind) (meaning.Mark m) ss ps (inside es g r) v refl e
    (from_start (changed_inside (λ d. record d { marks = marked m d.marks }) es g r) q)

-- a direction
pub directing : {l : Language} {a : Action} {ss : List Symbol} {ps : List Printed} {v : Walk} {r : Reading} (es : List Draft) (g : Grown)
    (p : Printed) (way : Direction) → meaning_of (tables l) p.kind ≡ meaning.Direction way
    → Reads l a ss ps (inside es (changed_self (λ d. record d { marks = record d.marks { direction = way } }) g) r) v
    → Reads l a (Terminal (terminal p.kind) ∷ ss) (p ∷ ps) (inside es g r) v
directing {l = l} {a = a} {ss = ss} {ps = ps} {v = v} {r = r} es g p way e q =
    reads_said l a p (terminal p.kind) (meaning.Direction way) ss ps (inside es g r) v refl e
    (from_start (changed_inside (λ d. record d { marks = record d.marks { direction = way } }) es g r) q)

-- `return`, `subject`, `assume` or `require`
pub parting : {l : Language} {a : Action} {ss : List Symbol} {ps : List Printed} {v : Walk} {r : Reading} (es : List Draft) (g : Grown)
    (p : Printed) (part : PartOf) → meaning_of (tables l) p.kind ≡ meaning.PartOf part
    → Reads l a ss ps (inside es (changed_self (λ d. record d { marks = record d.marks { part_of = part } }) g) r) v
    → Reads l a (Terminal (terminal p.kind) ∷ ss) (p ∷ ps) (inside es g r) v
parting {l = l} {a = a} {ss = ss} {ps = ps} {v = v} {r = r} es g p part e q =
    reads_said l a p (terminal p.kind) (meaning.PartOf part) ss ps (inside es g r) v refl e
    (from_start (changed_inside (λ d. record d { marks = record d.marks { part_of = part } }) es g r) q)

-- the word of a kind
pub naming_kind : {l : Language} {a : Action} {ss : List Symbol} {ps : List Printed} {v : Walk} {r : Reading} (es : List Draft) (g : Grown)
    (p : Printed) (k : Kind) → meaning_of (tables l) p.kind ≡ meaning.Kind k
    → Reads l a ss ps (inside es (changed_self (λ d. record d { kind = k }) g) r) v
    → Reads l a (Terminal (terminal p.kind) ∷ ss) (p ∷ ps) (inside es g r) v
naming_kind {l = l} {a = a} {ss = ss} {ps = ps} {v = v} {r = r} es g p k e q =
    reads_said l a p (terminal p.kind) (meaning.Kind k) ss ps (inside es g r) v refl e
    (from_start (changed_inside (λ d. record d { kind = k }) es g r) q)

-- `def`
pub defining : {l : Language} {a : Action} {ss : List Symbol} {ps : List Printed} {v : Walk} {r : Reading} (es : List Draft) (g : Grown)
    (p : Printed) → meaning_of (tables l) p.kind ≡ meaning.Def
    → Reads l a ss ps (inside es (changed_self (λ d. record d { kind = definition_of d.kind }) g) r) v
    → Reads l a (Terminal (terminal p.kind) ∷ ss) (p ∷ ps) (inside es g r) v
defining {l = l} {a = a} {ss = ss} {ps = ps} {v = v} {r = r} es g p e q =
    reads_said l a p (terminal p.kind) meaning.Def ss ps (inside es g r) v refl e
    (from_start (changed_inside (λ d. record d { kind = definition_of d.kind }) es g r) q)

-- Elements.

-- a visibility word that waits for its item
abbrev pub seen_of : Visibility → Option Seen
seen_of visibility.Public = None
seen_of other = Some (record { place = 0; visibility = other })

-- the walk behind such a word
abbrev pub waited : Visibility → Walk → Walk
waited v w = record w { waiting = seen_of v }

-- the elements before the one that begins
abbrev pub opened : List Draft → Grown → List Draft
opened es g = es ++ with_item (item.Member (length g.members)) g.self ∷ g.others

-- as many as there are elements
pub opened_length : (es : List Draft) (g : Grown) → length (es ++ g.self ∷ g.others) ≡ length (opened es g)
opened_length es g =
    length-append es (g.self ∷ g.others) ∙ sym (length-append es (with_item (item.Member (length g.members)) g.self ∷ g.others))

-- which is the number of the next element
pub next_is : (es : List Draft) (g : Grown) → length (opened es g) ≡ next_number (length es) g
next_is es g = length-append es (with_item (item.Member (length g.members)) g.self ∷ g.others)

-- an element is begun, with its member
abbrev begun_with : List Draft → List Draft → ℕ → ℕ → ℕ → Visibility → ℕ → Kind → Grown → Walk
begun_with es ds n number current v place k g = record {
  elements = ds ++ draft k (Some n) ∷ [];
  members = g.members ++ record { owner = n; target = Owned number; visibility = v; place = place; short = None; name = None } ∷ [];
  imports = g.imports;
  current = current;
  waiting = None;
  reading = fresh;
  large = [];
  rest = [];
}

-- the visibility of an item
pub seen_visibility : (v : Visibility) → unwrap_or (begun_visibility (seen_of v)) visibility.Public ≡ v
seen_visibility visibility.Public = refl
seen_visibility visibility.Protected = refl
seen_visibility visibility.Private = refl

-- items begin at no place
pub seen_place : (v : Visibility) → begun_place (seen_of v) [] ≡ 0
seen_place visibility.Public = refl
seen_place visibility.Protected = refl
seen_place visibility.Private = refl

-- an element begins with its member, and is open
entered_is : (k : Kind) (v : Visibility) (es : List Draft) (g : Grown) (r : Reading)
    → entered (action.Element k) (waited v (inside es g r)) ≡ inside (opened es g) (begun (length es) v (draft k (Some (length es))) g) fresh
entered_is k v es g r =
    let n = length es in
    let b = length (es ++ g.self ∷ g.others) in
    let s = unwrap_or (begun_visibility (seen_of v)) visibility.Public in
    ap (λ ds. begun_with es ds n b b s (begun_place (seen_of v) []) k g) (adjusted_here (with_item (item.Member (length g.members))) es g.self g.others)
    ∙ (ap (λ c. begun_with es (opened es g) n b c s (begun_place (seen_of v) []) k g) (opened_length es g)
    ∙ (ap (λ c. begun_with es (opened es g) n c (length (opened es g)) s (begun_place (seen_of v) []) k g) (length-append es (g.self ∷ g.others))
    ∙ (ap (λ x. begun_with es (opened es g) n (next_number n g) (length (opened es g)) x (begun_place (seen_of v) []) k g) (seen_visibility v)
    ∙ ap (λ c. begun_with es (opened es g) n (next_number n g) (length (opened es g)) v c k g) (seen_place v))))

-- it ends, and the one around it is open
left_is : (k : Kind) (v : Visibility) (es : List Draft) (g h : Grown) (r q : Reading)
    → left (action.Element k) (saved (action.Element k) (waited v (inside es g r))) (inside (opened es g) h q)
    ≡ inside es (ended g (changed_self (named q) h)) r
left_is k v es g h r q =
    ap (λ ds. record (inside (opened es g) h r) { elements = ds; current = length es })
    (adjusted_here (named q) (opened es g) h.self h.others
    ∙ append_assoc es (with_item (item.Member (length g.members)) g.self ∷ g.others) (named q h.self ∷ h.others))

-- an element, from its first token to its last
pub element : {l : Language} {a : Action} {s : ℕ} {rs : List Symbol} {ps : List Printed} (k : Kind) (v : Visibility) (es : List Draft) (g : Grown) (r : Reading)
    (h : Grown) (q : Reading) → Rule l s rs (action.Element k)
    → Reads l (action.Element k) rs ps (inside (opened es g) (begun (length es) v (draft k (Some (length es))) g) fresh) (inside (opened es g) h q)
    → Reads l a (Inner s ∷ []) ps (waited v (inside es g r)) (inside es (ended g (changed_self (named q) h)) r)
element k v es g r h q rule x = to_end (left_is k v es g h r q) (by_rule rule (from_start (entered_is k v es g r) x))
