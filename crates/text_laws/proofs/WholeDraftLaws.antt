-- Each value and each result of a walk over a derivation is one whole expression.
use Rattle.std.proofs.Common.{◌≡◌, ℕ, ◌+◌, true, List, [], ◌∷◌, ◌++◌, length, refl, ap, sym, subst, ◌∙◌, arith, append_assoc}
use Rattle.std.specs.Prelude.{Some, None}
use Rattle.std.specs.Option.{option_map_or}
use Rattle.element_store.specs.declared.lists.Item.TheVariants as item
use Rattle.element_store.specs.Expressions.{is_whole, is_one}
use Rattle.token_core.specs.declared.token.Token.{Token}
use Rattle.token_core.specs.Reading.{bytes_of, name_meaning}
use Rattle.ll_core.specs.declared.grammar.Symbol.{Symbol}
use Rattle.ll_core.specs.declared.grammar.Symbol.TheVariants.{Terminal, Inner}
use Rattle.ll_core.specs.Table.{Rule, Table}
use Rattle.ll_core.specs.Derives.{Forest, Nothing, Token as Leaf, Node as Branch, IsDerivation, tokens}
use Rattle.text_model.specs.declared.action.Action.{Action}
use Rattle.text_model.specs.declared.action.Action.TheVariants as action
use Rattle.text_model.specs.declared.action.Taking.{Taking}
use Rattle.text_model.specs.declared.action.Taking.TheVariants as taking
use Rattle.text_model.specs.declared.action.Operator.{Operator}
use Rattle.text_model.specs.declared.action.Meaning.{Meaning}
use Rattle.text_model.specs.declared.action.Meaning.TheVariants as meaning
use Rattle.text_model.specs.declared.draft.Draft.{Draft}
use Rattle.text_model.specs.declared.draft.Reading.{Reading}
use Rattle.text_model.specs.Tables.{Tables, action_at, meaning_of}
use Rattle.text_model.specs.Drafts.{draft}
use Rattle.text_model.specs.Walk.{Walk, Frame, saved, changed, with_item, entered, given, left, named, expression, meant, meant_name, meant_operator, taken, taken_from, walk}
use Rattle.text_model.specs.Numbering.{numbered, numbered_in}
use Rattle.text_laws.specs.Fits.{Every}
use Rattle.text_laws.specs.Sound.{IsWholeDraft}
use Rattle.text_model.specs.Wholes.{Claim, Free, effect, effects, takes_whole, are_wholes}
use Rattle.text_laws.proofs.FittingLaws.{every_append, every_adjusted, rest_entered, rest_left}
use Rattle.text_laws.proofs.WholeLaws.{Stands, stand_numbered, IsAt, walk_at, at_taken, at_same, rule_meets, free_effect, walk_stands}

whole_expression : (r : Reading) → Stands 0 None (effect 1 Free) r → (n : ℕ) → is_whole (numbered n r.nodes) ≡ true
whole_expression r h n = ap is_one (stand_numbered n r.nodes (Some 0) ∙ h.nodes)

-- the value and the result stay
same_whole : (d e : Draft) → e.value ≡ d.value → e.result ≡ d.result → IsWholeDraft d → IsWholeDraft e
same_whole d e value result h = record {
  value = λ n. ap (λ v. option_map_or is_whole (numbered_in n v) true) value ∙ h.value n;
  result = λ n. ap (λ v. option_map_or is_whole (numbered_in n v) true) result ∙ h.result n;
}

whole_changed : (f : Draft → Draft) (w : Walk) → ((d : Draft) → ((f d).value ≡ d.value) × ((f d).result ≡ d.result)) → Every IsWholeDraft w.elements
    → Every IsWholeDraft (changed f w).elements
whole_changed f w same h = every_adjusted IsWholeDraft w.current f w.elements (λ d k. same_whole d (f d) (same d).0 (same d).1 k) h

whole_name : (a : Action) (t : Token) (bytes : List ℕ) (w : Walk) → Every IsWholeDraft w.elements → Every IsWholeDraft (meant_name a t bytes w).elements
whole_name action.Name t bytes w h = h
whole_name action.Short t bytes w h = h
whole_name action.Segment t bytes w h = h
whole_name action.Step t bytes w h = h
whole_name other t bytes w h = h

whole_operator : (a : Action) (o : Operator) (place : ℕ) (w : Walk) → Every IsWholeDraft w.elements → Every IsWholeDraft (meant_operator a o place w).elements
whole_operator action.Star o place w h = h
whole_operator other o place w h = h

whole_meant : (text : List ℕ) (a : Action) (m : Meaning) (t : Token) (w : Walk) → Every IsWholeDraft w.elements
    → Every IsWholeDraft (meant text a m t w).elements
whole_meant text a (meaning.Mark m) t w h = whole_changed _ w (λ d. (refl, refl)) h
whole_meant text a (meaning.Direction way) t w h = whole_changed _ w (λ d. (refl, refl)) h
whole_meant text a (meaning.PartOf part) t w h = whole_changed _ w (λ d. (refl, refl)) h
whole_meant text a (meaning.Kind k) t w h = whole_changed _ w (λ d. (refl, refl)) h
whole_meant text a meaning.Def t w h = whole_changed _ w (λ d. (refl, refl)) h
whole_meant text a meaning.Comment t w h = whole_changed _ w (λ d. (refl, refl)) h
whole_meant text a meaning.Name t w h = whole_name a t (name_meaning (bytes_of text t)) w h
whole_meant text a (meaning.Operator o) t w h = whole_operator a o t.from w h
whole_meant text a other t w h = h

whole_taken : (t : Tables) (text : List ℕ) (a : Action) (ts : List Token) (w : Walk) → Every IsWholeDraft w.elements
    → Every IsWholeDraft (taken_from t text a ts w).elements
whole_taken t text a [] w h = h
whole_taken t text a (x ∷ ts) w h = whole_meant text a (meaning_of t x.kind) x (record w { rest = ts }) h

whole_entered : (a : Action) (w : Walk) → Every IsWholeDraft w.elements → Every IsWholeDraft (entered a w).elements
whole_entered (action.Element k) w h =
    every_append IsWholeDraft _ (draft k (Some w.current) ∷ []) (whole_changed (with_item (item.Member (length w.members))) w (λ d. (refl, refl)) h)
    (record { value = λ n. refl; result = λ n. refl }, tt)
whole_entered (action.Take d) w h = h
whole_entered action.NamedEnd w h = h
whole_entered action.Level w h = h
whole_entered action.Tail w h = h
whole_entered other w h = h

-- what is given is whole where it is a value or a result
abbrev GivesWhole : Taking → Reading → Type 0
GivesWhole taking.Value r = (n : ℕ) → is_whole (numbered n r.nodes) ≡ true
GivesWhole taking.Result r = (n : ℕ) → is_whole (numbered n r.nodes) ≡ true
GivesWhole other r = Unit {0}

whole_given : (d : Taking) (f : Frame) (r : Reading) (w : Walk) → GivesWhole d r → Every IsWholeDraft w.elements → Every IsWholeDraft (given d f r w).elements
whole_given taking.Value f r w g h = every_adjusted IsWholeDraft w.current (λ d. record d { value = Some (expression r) }) w.elements
    (λ d k. record { value = g; result = k.result }) h
whole_given taking.Result f r w g h = every_adjusted IsWholeDraft w.current (λ d. record d { result = Some (expression r) }) w.elements
    (λ d k. record { value = k.value; result = g }) h
whole_given other f r w g h = whole_changed _ w (λ d. (refl, refl)) h

whole_left : (a : Action) (f : Frame) (w : Walk) → ((d : Taking) → a ≡ action.Take d → GivesWhole d w.reading) → Every IsWholeDraft w.elements
    → Every IsWholeDraft (left a f w).elements
whole_left (action.Element k) f w g h = whole_changed (named w.reading) w (λ d. (refl, refl)) h
whole_left (action.Take d) f w g h = whole_given d f w.reading (record w { reading = f.reading }) (g d refl) h
whole_left other f w g h = h

-- what is read below a production that takes a value or a result
gives_whole : (t : Tables) (claims : List Claim) (text : List ℕ) (g : Table) → are_wholes t claims g ≡ true
    → (d : Taking) (ss : List Symbol) (below : Forest) (ks : List ℕ) (w : Walk)
    → takes_whole t claims (action.Take d) ss ≡ true → IsDerivation g ss below → IsAt (tokens below ++ ks) w
    → GivesWhole d (walk t text (action.Take d) below (entered (action.Take d) w)).reading
gives_whole t claims text g ok taking.Value ss below ks w takes der at =
    let e = free_effect 1 (effects t claims (action.Take taking.Value) ss (Some (effect 0 Free))) takes in
    whole_expression (walk t text (action.Take taking.Value) below (entered (action.Take taking.Value) w)).reading
    (walk_stands t claims text g ok below ss (action.Take taking.Value) ks (entered (action.Take taking.Value) w) 0 None (effect 0 Free) (effect 1 Free) der
    (at_same (tokens below ++ ks) w (entered (action.Take taking.Value) w) refl at) e (record { nodes = refl; waiting = refl }))
gives_whole t claims text g ok taking.Result ss below ks w takes der at =
    let e = free_effect 1 (effects t claims (action.Take taking.Result) ss (Some (effect 0 Free))) takes in
    whole_expression (walk t text (action.Take taking.Result) below (entered (action.Take taking.Result) w)).reading
    (walk_stands t claims text g ok below ss (action.Take taking.Result) ks (entered (action.Take taking.Result) w) 0 None (effect 0 Free) (effect 1 Free) der
    (at_same (tokens below ++ ks) w (entered (action.Take taking.Result) w) refl at) e (record { nodes = refl; waiting = refl }))
gives_whole t claims text g ok other ss below ks w takes der at = tt

-- a walk over a derivation leaves whole expressions alone
pub walk_whole : (t : Tables) (claims : List Claim) (text : List ℕ) (g : Table) → are_wholes t claims g ≡ true
    → (f : Forest) (ss : List Symbol) (a : Action) (ks : List ℕ) (w : Walk)
    → IsDerivation g ss f → IsAt (tokens f ++ ks) w → Every IsWholeDraft w.elements → Every IsWholeDraft (walk t text a f w).elements
walk_whole t claims text g ok Nothing ss a ks w d at h = h
walk_whole t claims text g ok (Leaf j f) [] a ks w d at h = absurd d
walk_whole t claims text g ok (Leaf j f) (Inner b ∷ ss) a ks w d at h = absurd d
walk_whole t claims text g ok (Leaf j f) (Terminal k ∷ ss) a ks w d at h =
    walk_whole t claims text g ok f ss a ks (taken t text a w) d.1 (at_taken t text a j (tokens f ++ ks) w w.rest refl at) (whole_taken t text a w.rest w h)
walk_whole t claims text g ok (Branch p below f) [] a ks w d at h = absurd d
walk_whole t claims text g ok (Branch p below f) (Terminal k ∷ ss) a ks w d at h = absurd d
walk_whole t claims text g ok (Branch p below f) (Inner c ∷ ss) a ks w d at h =
    let r : Rule = d.0.0 in
    let b = action_at t p in
    let v = walk t text b below (entered b w) in
    let zero_add : 0 + p ≡ p = omega arith in
    let takes : takes_whole t claims b r.right ≡ true = subst (λ q. takes_whole t claims (action_at t q) r.right ≡ true) zero_add
    (rule_meets t claims 0 p g.rules r ok d.0.1).1 in
    let here : IsAt (tokens below ++ (tokens f ++ ks)) w = record { kinds = at.kinds ∙ append_assoc (tokens below) (tokens f) ks; numbers = at.numbers } in
    let begun = at_same (tokens below ++ (tokens f ++ ks)) w (entered b w) (rest_entered b w) here in
    let i = walk_whole t claims text g ok below r.right b (tokens f ++ ks) (entered b w) d.0.3 begun (whole_entered b w h) in
    let l = whole_left b (saved b w) v (λ x same. subst (λ y. GivesWhole x (walk t text y below (entered y w)).reading) (sym same)
    (gives_whole t claims text g ok x r.right below (tokens f ++ ks) w (subst (λ y. takes_whole t claims y r.right ≡ true) same takes) d.0.3 here)) i in
    let after : IsAt (tokens f ++ ks) (left b (saved b w) v) =
    at_same (tokens f ++ ks) v (left b (saved b w) v) (rest_left b (saved b w) v) (walk_at t text b below (tokens f ++ ks) (entered b w) begun) in
    walk_whole t claims text g ok f ss a ks (left b (saved b w) v) d.1 after l
