-- Each integer that a walk pushes is a value.
use Rattle.std.proofs.Common.{◌≡◌, ℕ, ◌<◌, ◌^◌, Bool, true, false, List, [], ◌∷◌, ◌++◌, refl, arith}
use Rattle.std.specs.Prelude.{Option, Some, None, pos, cond, nat_le}
use Rattle.std.proofs.lemmas.Bool.Decides.{nat_tests}
use Rattle.element_store.specs.declared.expression.BinaryOp.TheVariants as binary
use Rattle.token_core.specs.declared.token.Token.{Token}
use Rattle.token_core.specs.Reading.{bytes_of, name_meaning, number_from}
use Rattle.ll_core.specs.Derives.{Forest, Nothing, Token as Leaf, Node}
use Rattle.text_model.specs.declared.action.Action.{Action}
use Rattle.text_model.specs.declared.action.Action.TheVariants.{Name, Short, Segment, Step, Star, NamedEnd, Element, Take, Level, Tail}
use Rattle.text_model.specs.declared.action.Taking.{Taking}
use Rattle.text_model.specs.declared.action.Taking.TheVariants as taking
use Rattle.text_model.specs.declared.action.Operator.{Operator}
use Rattle.text_model.specs.declared.action.Operator.TheVariants as operator
use Rattle.text_model.specs.declared.action.Leaf.{Leaf as LeafWord}
use Rattle.text_model.specs.declared.action.Leaf.TheVariants as leaf
use Rattle.text_model.specs.declared.action.Meaning.{Meaning}
use Rattle.text_model.specs.declared.action.Meaning.TheVariants as meaning
use Rattle.text_model.specs.declared.draft.Path.{Path}
use Rattle.text_model.specs.declared.draft.What.{What}
use Rattle.text_model.specs.declared.draft.What.TheVariants as what
use Rattle.text_model.specs.declared.draft.DraftNode.{DraftNode}
use Rattle.text_model.specs.declared.draft.Draft.{Draft}
use Rattle.text_model.specs.declared.draft.Reading.{Reading}
use Rattle.text_model.specs.declared.draft.Waiting.{Waiting}
use Rattle.text_model.specs.Tables.{Tables, action_at, meaning_of}
use Rattle.text_model.specs.Drafts.{node, named_changed, last_changed, with_segment, with_step, joining, joined, applying, applied, adjusted}
use Rattle.text_model.specs.Numbering.{nodes_of}
use Rattle.text_model.specs.Walk.{Walk, Frame, saved, changed, entered, given, left, leaf_node, is_large, meant_name, meant_operator, meant, taken_from, walk}
use Rattle.text_laws.specs.Fits.{Every}
use Rattle.text_laws.proofs.FittingLaws.{every_append, every_adjusted}

-- an integer is a value
abbrev pub IsValue : What → Type 0
IsValue (what.Integer i) = (n : ℕ) × (i ≡ pos n) × (n < 2 ^ 63)
IsValue other = Unit {0}

-- so is each among the nodes
abbrev pub AreValues : List DraftNode → Type 0
AreValues ns = Every (λ n. IsValue n.what) ns

-- and each that a draft holds
pub record HasValues (d : Draft) : Type 0 where
  pub value : AreValues (nodes_of d.value)
  pub result : AreValues (nodes_of d.result)

-- and each of a walk
pub record AllValues (w : Walk) : Type 0 where
  pub drafts : Every HasValues w.elements
  pub reading : AreValues w.reading.nodes

one_more : (ns ms : List DraftNode) → AreValues ns → AreValues ms → AreValues (ns ++ ms)
one_more ns ms h k = every_append (λ n. IsValue n.what) ns ms h k

joining_values : (o : Operator) (place : ℕ) → AreValues (joining o place)
joining_values (operator.Binary b) place = (tt, tt)
joining_values other place = tt

joined_values : (ns : List DraftNode) (o : Option Waiting) → AreValues ns → AreValues (joined ns o)
joined_values ns None h = h
joined_values ns (Some w) h = one_more ns (joining w.operator w.place) h (joining_values w.operator w.place)

applying_values : (o : Operator) (place : ℕ) → AreValues (applying o place)
applying_values operator.If place = (tt, tt)
applying_values operator.Not place = (tt, tt)
applying_values (operator.Binary binary.Subtract) place = (tt, tt)
applying_values (operator.Binary binary.Add) place = (tt, tt)
applying_values other place = tt

applied_values : (ns : List DraftNode) (o : Option Waiting) → AreValues ns → AreValues (applied ns o)
applied_values ns None h = h
applied_values ns (Some w) h = one_more ns (applying w.operator w.place) h (applying_values w.operator w.place)

last_values : (f : Path → Path) (ns : List DraftNode) → AreValues ns → AreValues (last_changed f ns)
last_values f [] h = tt
last_values f (n ∷ []) h = (same f n.what h.0, tt)
  where
    same : (f : Path → Path) (w : What) → IsValue w → IsValue (named_changed f w)
    same f (what.Named p) h = tt
    same f other h = h
last_values f (n ∷ m ∷ ns) h = (h.0, last_values f (m ∷ ns) h.1)

with_drafts : (w : Walk) (f : Draft → Draft) → ((d : Draft) → HasValues d → HasValues (f d)) → Every HasValues w.elements
    → Every HasValues (adjusted w.current f w.elements)
with_drafts w f same h = every_adjusted HasValues w.current f w.elements same h

entered_values : (a : Action) (w : Walk) → AllValues w → AllValues (entered a w)
entered_values (Element k) w h = record {
  drafts = every_append HasValues _ _ (with_drafts w _ (λ d v. record { value = v.value; result = v.result }) h.drafts)
      (record { value = tt; result = tt }, tt);
  reading = tt;
}
entered_values (Take d) w h = record { drafts = h.drafts; reading = tt }
entered_values NamedEnd w h = record { drafts = h.drafts; reading = tt }
entered_values Level w h = record { drafts = h.drafts; reading = h.reading }
entered_values Tail w h = record { drafts = h.drafts; reading = joined_values w.reading.nodes w.reading.operator h.reading }
entered_values other w h = h

kept_values : (a : Action) (w : Walk) → AllValues w → AreValues (saved a w).reading.nodes
kept_values (Element k) w h = h.reading
kept_values (Take d) w h = h.reading
kept_values Level w h = tt
kept_values other w h = tt

given_values : (d : Taking) (f : Frame) (r : Reading) (w : Walk) → AreValues r.nodes → AllValues w → AllValues (given d f r w)
given_values taking.Value f r w n h = record { drafts = with_drafts w _ (λ d v. record { value = n; result = v.result }) h.drafts; reading = h.reading }
given_values taking.Result f r w n h = record { drafts = with_drafts w _ (λ d v. record { value = v.value; result = n }) h.drafts; reading = h.reading }
given_values taking.Subclass f r w n h = record {
  drafts = with_drafts w _ (λ d v. record { value = v.value; result = v.result }) h.drafts;
  reading =
      h.reading;
}
given_values taking.Typing f r w n h = record { drafts = with_drafts w _ (λ d v. record { value = v.value; result = v.result }) h.drafts; reading = h.reading }
given_values taking.Subsetting f r w n h = record {
  drafts = with_drafts w _ (λ d v. record { value = v.value; result = v.result }) h.drafts;
  reading =
      h.reading;
}
given_values taking.Redefinition f r w n h = record {
  drafts = with_drafts w _ (λ d v. record { value = v.value; result = v.result }) h.drafts;
  reading =
      h.reading;
}
given_values taking.ReferenceSubsetting f r w n h = record {
  drafts = with_drafts w _ (λ d v. record { value = v.value; result = v.result }) h.drafts;
  reading =
      h.reading;
}
given_values taking.Bounds f r w n h = record { drafts = with_drafts w _ (λ d v. record { value = v.value; result = v.result }) h.drafts; reading = h.reading }
given_values taking.Alias f r w n h = record { drafts = with_drafts w _ (λ d v. record { value = v.value; result = v.result }) h.drafts; reading = h.reading }
given_values taking.Import f r w n h = record { drafts = with_drafts w _ (λ d v. record { value = v.value; result = v.result }) h.drafts; reading = h.reading }

left_values : (a : Action) (f : Frame) (w : Walk) → AreValues f.reading.nodes → AllValues w → AllValues (left a f w)
left_values (Element k) f w n h = record { drafts = with_drafts w _ (λ d v. record { value = v.value; result = v.result }) h.drafts; reading = n }
left_values (Take d) f w n h = given_values d f w.reading (record w { reading = f.reading }) h.reading (record { drafts = h.drafts; reading = n })
left_values Level f w n h = record { drafts = h.drafts; reading = applied_values w.reading.nodes w.reading.operator h.reading }
left_values other f w n h = h

pushed_value : (x : What) (place : ℕ) (w : Walk) → IsValue x → AreValues w.reading.nodes → AreValues (w.reading.nodes ++ node x place ∷ [])
pushed_value x place w v h = one_more w.reading.nodes (node x place ∷ []) h (v, tt)

name_values : (a : Action) (t : Token) (bytes : List ℕ) (w : Walk) → AllValues w → AllValues (meant_name a t bytes w)
name_values Name t bytes w h = record { drafts = h.drafts; reading = h.reading }
name_values Short t bytes w h = record { drafts = h.drafts; reading = h.reading }
name_values Segment t bytes w h = record { drafts = h.drafts; reading = last_values (with_segment bytes) w.reading.nodes h.reading }
name_values Step t bytes w h = record { drafts = h.drafts; reading = last_values (with_step bytes) w.reading.nodes h.reading }
name_values other t bytes w h = record { drafts = h.drafts; reading = one_more w.reading.nodes (_ ∷ []) h.reading (tt, tt) }

operator_values : (a : Action) (o : Operator) (place : ℕ) (w : Walk) → AllValues w → AllValues (meant_operator a o place w)
operator_values Star o place w h = record { drafts = h.drafts; reading = pushed_value what.Star place w tt h.reading }
operator_values other o place w h = record { drafts = h.drafts; reading = h.reading }

leaf_value : (l : LeafWord) → IsValue (leaf_node l)
leaf_value (leaf.Boolean b) = tt
leaf_value leaf.Null = tt
leaf_value leaf.All = tt
leaf_value leaf.Deep = tt

-- an integer above the greatest is 0
small : (n : ℕ) (b : Bool) → nat_le (2 ^ 63) n ≡ b → cond b 0 n < 2 ^ 63
small n true e = omega arith
small n false e = grind (arith, nat_tests)

mark_values : (w : Walk) (f : Draft → Draft) → ((d : Draft) → HasValues d → HasValues (f d)) → AllValues w → AllValues (changed f w)
mark_values w f same h = record { drafts = with_drafts w f same h.drafts; reading = h.reading }

meant_values : (text : List ℕ) (a : Action) (m : Meaning) (t : Token) (w : Walk) → AllValues w → AllValues (meant text a m t w)
meant_values text a meaning.Nothing t w h = h
meant_values text a (meaning.Mark m) t w h = mark_values w _ (λ d v. record { value = v.value; result = v.result }) h
meant_values text a (meaning.Direction way) t w h = mark_values w _ (λ d v. record { value = v.value; result = v.result }) h
meant_values text a (meaning.PartOf part) t w h = mark_values w _ (λ d v. record { value = v.value; result = v.result }) h
meant_values text a (meaning.Visibility v) t w h = record { drafts = h.drafts; reading = h.reading }
meant_values text a (meaning.Kind k) t w h = mark_values w _ (λ d v. record { value = v.value; result = v.result }) h
meant_values text a meaning.Def t w h = mark_values w _ (λ d v. record { value = v.value; result = v.result }) h
meant_values text a meaning.Comment t w h = mark_values w _ (λ d v. record { value = v.value; result = v.result }) h
meant_values text a meaning.Text t w h = record { drafts = h.drafts; reading = pushed_value _ t.from w tt h.reading }
meant_values text a meaning.Integer t w h =
    let n = number_from 0 (bytes_of text t) in
    record { drafts = h.drafts; reading = pushed_value _ t.from w (cond (is_large n) 0 n, refl, small n (is_large n) refl) h.reading }
meant_values text a (meaning.Leaf l) t w h = record { drafts = h.drafts; reading = pushed_value (leaf_node l) t.from w (leaf_value l) h.reading }
meant_values text a meaning.Name t w h = name_values a t (name_meaning (bytes_of text t)) w h
meant_values text a meaning.Absolute t w h = record { drafts = h.drafts; reading = h.reading }
meant_values text a (meaning.Operator o) t w h = operator_values a o t.from w h

taken_values : (t : Tables) (text : List ℕ) (a : Action) (ts : List Token) (w : Walk) → AllValues w → AllValues (taken_from t text a ts w)
taken_values t text a [] w h = h
taken_values t text a (x ∷ xs) w h = meant_values text a (meaning_of t x.kind) x (record w { rest = xs }) (record { drafts = h.drafts; reading = h.reading })

-- the integers of a walk over any forest are values
pub walk_values : (t : Tables) (text : List ℕ) (a : Action) (f : Forest) (w : Walk) → AllValues w → AllValues (walk t text a f w)
walk_values t text a Nothing w h = h
walk_values t text a (Leaf k f) w h = walk_values t text a f _ (taken_values t text a w.rest w h)
walk_values t text a (Node p below f) w h =
    let b = action_at t p in
    walk_values t text a f _ (left_values b (saved b w) (walk t text b below (entered b w)) (kept_values b w h)
    (walk_values t text b below (entered b w) (entered_values b w h)))
