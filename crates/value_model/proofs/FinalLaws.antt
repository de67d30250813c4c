-- What operators and names answer may stand in a table: it names features, and nothing is circular.
use Rattle.std.proofs.Common.{◌≡◌, ℕ, Bool, true, false, cond, List, [], ◌∷◌, refl}
use Rattle.std.specs.Prelude.{Option, None, Some, Result, Ok, Err, ℤ, ◌+ℤ◌, ◌-ℤ◌, ◌*ℤ◌, neg_ℤ, ◌++◌, length, nat_le, int_rem, int_div}
use Rattle.element_store.specs.declared.numbers.FileNo.{FileNo}
use Rattle.element_store.specs.declared.numbers.ElementNo.{ElementNo}
use Rattle.element_store.specs.declared.outcome.Outcome.{Outcome}
use Rattle.element_store.specs.declared.outcome.Outcome.TheVariants.{Linked, Absent, Ambiguous, Hidden, Cyclic}
use Rattle.element_store.specs.declared.expression.UnaryOp.{UnaryOp}
use Rattle.element_store.specs.declared.expression.UnaryOp.TheVariants.{Minus, Plus, Not}
use Rattle.element_store.specs.declared.expression.BinaryOp.{BinaryOp}
use Rattle.element_store.specs.declared.expression.BinaryOp.TheVariants as op
use Rattle.link_model.specs.Outside.{Library}
use Rattle.link_model.specs.Readers.{LinkWorld, key}
use Rattle.value_model.specs.declared.values.Spot.{Spot}
use Rattle.value_model.specs.declared.values.Value.{Value}
use Rattle.value_model.specs.declared.values.Value.TheVariants.{Integer, Boolean, Text}
use Rattle.value_model.specs.declared.values.ValueAnswer.{ValueAnswer}
use Rattle.value_model.specs.declared.values.ValueAnswer.TheVariants as answer
use Rattle.value_model.specs.declared.values.ValueFault.{ValueFault}
use Rattle.value_model.specs.Operators.{fits, whole, text, is_zero, divided, of_integers, of_truths, of_texts, of_kinds, of_two, of_one, of_first}
use Rattle.value_model.specs.Meant.{element_at, feature_at, enumerated_at, meant}
use Rattle.value_model.specs.Reading.{Lead, name_spot, last_lead, one_further, further, through, lead_of, lead}
use Rattle.value_model.specs.Reading.Lead.{Known, Needs}
use Rattle.value_model.proofs.MeantLaws.{feature_is_type, meant_feature}
use Rattle.value_model.specs.Valuing.{MayStand, IsTarget, IsKey}

either_way : {A : Type 0} (M : A → Type 0) (b : Bool) (x y : A) → M x → M y → M (cond b x y)
either_way M true x y h g = h
either_way M false x y h g = g

when_true : {A : Type 0} (M : A → Type 0) (b : Bool) (x y : A) → (b ≡ true → M x) → M y → M (cond b x y)
when_true M true x y h g = h refl
when_true M false x y h g = g

module _ (w : LinkWorld) where
  whole_final : (at : Spot) (z : ℤ) → MayStand w (whole at z)
  whole_final at z = either_way (MayStand w) (fits z) _ _ tt tt

  text_final : (at : Spot) (x : List ℕ) → MayStand w (text at x)
  text_final at x = either_way (MayStand w) (nat_le (length x) 65536) _ _ tt tt

  divided_final : (at : Spot) (b : ℤ) (x : ValueAnswer) → MayStand w x → MayStand w (divided at b x)
  divided_final at b x h = either_way (MayStand w) (is_zero b) _ x tt h

  integers_final : (o : BinaryOp) (at : Spot) (a b : ℤ) → MayStand w (of_integers o at a b)
  integers_final op.Less at a b = tt
  integers_final op.Greater at a b = tt
  integers_final op.AtMost at a b = tt
  integers_final op.AtLeast at a b = tt
  integers_final op.Add at a b = whole_final at (a +ℤ b)
  integers_final op.Subtract at a b = whole_final at (a -ℤ b)
  integers_final op.Multiply at a b = whole_final at (a *ℤ b)
  integers_final op.Divide at a b = divided_final at b _ (either_way (MayStand w) (is_zero (int_rem a b)) _ _ (whole_final at (int_div a b)) tt)
  integers_final op.Remainder at a b = divided_final at b _ (whole_final at (int_rem a b))
  integers_final op.Implies at a b = tt
  integers_final op.Or at a b = tt
  integers_final op.Bar at a b = tt
  integers_final op.Xor at a b = tt
  integers_final op.And at a b = tt
  integers_final op.Amp at a b = tt
  integers_final op.Equal at a b = tt
  integers_final op.NotEqual at a b = tt

  truths_final : (o : BinaryOp) (at : Spot) (a b : Bool) → MayStand w (of_truths o at a b)
  truths_final op.Implies at a b = tt
  truths_final op.Or at a b = tt
  truths_final op.Bar at a b = tt
  truths_final op.Xor at a b = tt
  truths_final op.And at a b = tt
  truths_final op.Amp at a b = tt
  truths_final other at a b = tt

  texts_final : (o : BinaryOp) (at : Spot) (x y : List ℕ) → MayStand w (of_texts o at x y)
  texts_final op.Add at x y = text_final at (x ++ y)
  texts_final other at x y = tt

  kinds_final : (o : BinaryOp) (at : Spot) (a b : Value) → MayStand w (of_kinds o at a b)
  kinds_final o at (Integer a) (Integer b) = integers_final o at a b
  kinds_final o at (Boolean a) (Boolean b) = truths_final o at a b
  kinds_final o at (Text x) (Text y) = texts_final o at x y
  kinds_final o at a b = tt

  pub two_final : (o : BinaryOp) (at : Spot) (a b : Value) → MayStand w (of_two o at a b)
  two_final op.Equal at a b = tt
  two_final op.NotEqual at a b = tt
  two_final other at a b = kinds_final other at a b

  pub one_final : (o : UnaryOp) (at : Spot) (v : Value) → MayStand w (of_one o at v)
  one_final Not at (Boolean b) = tt
  one_final Minus at (Integer z) = whole_final at (neg_ℤ z)
  one_final Plus at (Integer z) = tt
  one_final other at v = tt

  -- an answer, if there is one
  abbrev pub MayBe : Option ValueAnswer → Type 0
  MayBe None = Unit {0}
  MayBe (Some x) = MayStand w x

  pub first_final : (o : BinaryOp) (at : Spot) (v : Value) → MayBe (of_first o at v)
  first_final op.And at (Boolean true) = tt
  first_final op.And at (Boolean false) = tt
  first_final op.And at other = tt
  first_final op.Or at (Boolean true) = tt
  first_final op.Or at (Boolean false) = tt
  first_final op.Or at other = tt
  first_final op.Implies at (Boolean true) = tt
  first_final op.Implies at (Boolean false) = tt
  first_final op.Implies at other = tt
  first_final other at v = tt

  -- an answer that may stand, or a key
  abbrev pub LeadStands : Lead → Type 0
  LeadStands (Known x) = MayStand w x
  LeadStands (Needs k) = IsKey w k

  abbrev EndStands : Result (Option ElementNo) ValueFault → Type 0
  EndStands (Ok t) = IsTarget w t
  EndStands (Err x) = MayStand w (answer.Refused x)

  last_stands : (at : Spot) (e : ElementNo) (t : Result (Option ElementNo) ValueFault) → EndStands t → LeadStands (last_lead w at e t)
  last_stands at e (Err x) h = h
  last_stands at e (Ok t) h =
      when_true LeadStands (feature_at w e) _ _ (λ is. either_way LeadStands (enumerated_at w e) _ _ is (record { feature = is; target = h })) tt

  module _ (lib : Library) where
    one_further_stands : (e : ElementNo) (g : Option ElementNo) → feature_at w e ≡ true → ((h : ElementNo) → g ≡ Some h → feature_at w h ≡ true)
        → EndStands (one_further w lib e g)
    one_further_stands e None is h = is
    one_further_stands e (Some g) is h = feature_is_type (element_at w g).kind (h g refl)

    further_stands : (at : Spot) (t : Result (Option ElementNo) ValueFault) (e : ElementNo) → EndStands t → EndStands (further w lib at t e)
    further_stands at (Err x) e h = h
    further_stands at (Ok t) e h = when_true EndStands (feature_at w e) _ _ (λ is. one_further_stands e (meant w lib e t) is (meant_feature w lib e t is)) tt

    through_stands : (at : Spot) (es : List ElementNo) (t : Result (Option ElementNo) ValueFault) → EndStands t → EndStands (through w lib at es t)
    through_stands at [] t h = h
    through_stands at (e ∷ es) t h = through_stands at es (further w lib at t e) (further_stands at t e h)

    lead_by_stands : (at : Spot) (t : Option ElementNo) (o : Option Outcome) → IsTarget w t → LeadStands (lead_of w lib at t o)
    lead_by_stands at t None h = tt
    lead_by_stands at t (Some (Linked steps e)) h = last_stands at e (through w lib at steps (Ok t)) (through_stands at steps (Ok t) h)
    lead_by_stands at t (Some (Absent segment)) h = tt
    lead_by_stands at t (Some (Ambiguous segment first second)) h = tt
    lead_by_stands at t (Some (Hidden segment member)) h = tt
    lead_by_stands at t (Some (Cyclic on)) h = tt

    pub lead_stands : (f : FileNo) (t : Option ElementNo) (r : ℕ) → IsTarget w t → LeadStands (lead w lib f t r)
    lead_stands f t r h = lead_by_stands (name_spot w f r) t (w.table (key f r)) h
