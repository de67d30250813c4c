-- Each event leaves the tokens to come, or takes the first of them.
use Rattle.std.proofs.Common.{◌≡◌, ◌⊎◌, inl, inr, ℕ, List, [], ◌∷◌, refl, sym, subst}
use Rattle.ll_core.specs.declared.event.Event.{Event}
use Rattle.ll_core.specs.declared.event.Event.TheVariants.{Open, Shift, Close, End}
use Rattle.token_core.specs.declared.token.Token.{Token}
use Rattle.token_core.specs.Reading.{AreTokensOf, bytes_of, name_meaning}
use Rattle.text_model.specs.declared.action.Action.{Action}
use Rattle.text_model.specs.declared.action.Action.TheVariants as action
use Rattle.text_model.specs.declared.action.Taking.{Taking}
use Rattle.text_model.specs.declared.action.Taking.TheVariants as taking
use Rattle.text_model.specs.declared.action.Meaning.{Meaning}
use Rattle.text_model.specs.declared.action.Meaning.TheVariants as meaning
use Rattle.text_model.specs.declared.action.Operator.{Operator}
use Rattle.text_model.specs.declared.draft.Reading.{Reading}
use Rattle.text_model.specs.Tables.{Tables, action_at, meaning_of}
use Rattle.text_model.specs.Walk.{Walk, Frame, entered, given, left, meant, meant_name, meant_operator, taken_from, taken}
use Rattle.draft_walk.specs.Telling.{Telling, closed, ended, frame_of, level_frame, told, top, unframed, unlevelled}
use Rattle.draft_walk.specs.declared.walker.Saved.{Saved}
use Rattle.text_model.specs.declared.draft.Waiting.{Waiting}
use Rattle.std.specs.Prelude.{Option}

entered_rest : (a : Action) (w : Walk) → (entered a w).rest ≡ w.rest
entered_rest action.Group w = refl
entered_rest action.Name w = refl
entered_rest action.Short w = refl
entered_rest action.Segment w = refl
entered_rest action.Step w = refl
entered_rest action.Star w = refl
entered_rest action.NamedEnd w = refl
entered_rest (action.Element k) w = refl
entered_rest (action.Take d) w = refl
entered_rest action.Level w = refl
entered_rest action.Tail w = refl

given_rest : (d : Taking) (f : Frame) (r : Reading) (w : Walk) → (given d f r w).rest ≡ w.rest
given_rest taking.Subclass f r w = refl
given_rest taking.Typing f r w = refl
given_rest taking.Subsetting f r w = refl
given_rest taking.Redefinition f r w = refl
given_rest taking.ReferenceSubsetting f r w = refl
given_rest taking.Bounds f r w = refl
given_rest taking.Value f r w = refl
given_rest taking.Result f r w = refl
given_rest taking.Alias f r w = refl
given_rest taking.Import f r w = refl

left_rest : (a : Action) (f : Frame) (w : Walk) → (left a f w).rest ≡ w.rest
left_rest action.Group f w = refl
left_rest action.Name f w = refl
left_rest action.Short f w = refl
left_rest action.Segment f w = refl
left_rest action.Step f w = refl
left_rest action.Star f w = refl
left_rest action.NamedEnd f w = refl
left_rest (action.Element k) f w = refl
left_rest (action.Take d) f w = given_rest d f w.reading (record w { reading = f.reading })
left_rest action.Level f w = refl
left_rest action.Tail f w = refl

name_rest : (a : Action) (t : Token) (bytes : List ℕ) (w : Walk) → (meant_name a t bytes w).rest ≡ w.rest
name_rest action.Group t bytes w = refl
name_rest action.Name t bytes w = refl
name_rest action.Short t bytes w = refl
name_rest action.Segment t bytes w = refl
name_rest action.Step t bytes w = refl
name_rest action.Star t bytes w = refl
name_rest action.NamedEnd t bytes w = refl
name_rest (action.Element k) t bytes w = refl
name_rest (action.Take d) t bytes w = refl
name_rest action.Level t bytes w = refl
name_rest action.Tail t bytes w = refl

operator_rest : (a : Action) (o : Operator) (place : ℕ) (w : Walk) → (meant_operator a o place w).rest ≡ w.rest
operator_rest action.Group o place w = refl
operator_rest action.Name o place w = refl
operator_rest action.Short o place w = refl
operator_rest action.Segment o place w = refl
operator_rest action.Step o place w = refl
operator_rest action.Star o place w = refl
operator_rest action.NamedEnd o place w = refl
operator_rest (action.Element k) o place w = refl
operator_rest (action.Take d) o place w = refl
operator_rest action.Level o place w = refl
operator_rest action.Tail o place w = refl

meant_rest : (text : List ℕ) (a : Action) (m : Meaning) (t : Token) (w : Walk) → (meant text a m t w).rest ≡ w.rest
meant_rest text a meaning.Nothing t w = refl
meant_rest text a (meaning.Mark m) t w = refl
meant_rest text a (meaning.Direction way) t w = refl
meant_rest text a (meaning.PartOf part) t w = refl
meant_rest text a (meaning.Visibility v) t w = refl
meant_rest text a (meaning.Kind k) t w = refl
meant_rest text a meaning.Def t w = refl
meant_rest text a meaning.Comment t w = refl
meant_rest text a meaning.Text t w = refl
meant_rest text a meaning.Integer t w = refl
meant_rest text a (meaning.Leaf l) t w = refl
meant_rest text a meaning.Name t w = name_rest a t (name_meaning (bytes_of text t)) w
meant_rest text a meaning.Absolute t w = refl
meant_rest text a (meaning.Operator o) t w = operator_rest a o t.from w

-- tokens that stand in the text do so behind another
abbrev Know : List ℕ → List Token → Type 0
Know text ts = AreTokensOf text ts

taken_known : (tables : Tables) (text : List ℕ) (a : Action) (ts : List Token) (w : Walk) → Know text ts → Know text w.rest
    → Know text (taken_from tables text a ts w).rest
taken_known tables text a [] w all own = own
taken_known tables text a (t ∷ ts) w all own =
    subst (λ (us : List Token). Know text us) (sym (meant_rest text a (meaning_of tables t.kind) t (record w { rest = ts }))) (λ u member. all u (inr member))

unframed_known : (text : List ℕ) (a : Action) (ss : List Saved) (t : Telling) → Know text t.now.rest → Know text (unframed a ss t).now.rest
unframed_known text a [] t known = known
unframed_known text a (s ∷ ss) t known = subst (λ (us : List Token). Know text us) (sym (left_rest a (frame_of s) t.now)) known

unlevelled_known : (text : List ℕ) (os : List (Option Waiting)) (t : Telling) → Know text t.now.rest → Know text (unlevelled os t).now.rest
unlevelled_known text [] t known = known
unlevelled_known text (o ∷ os) t known = subst (λ (us : List Token). Know text us) (sym (left_rest action.Level (level_frame o) t.now)) known

ended_known : (text : List ℕ) (a : Action) (t : Telling) → Know text t.now.rest → Know text (ended a t).now.rest
ended_known text action.Group t known = known
ended_known text action.Name t known = known
ended_known text action.Short t known = known
ended_known text action.Segment t known = known
ended_known text action.Step t known = known
ended_known text action.Star t known = known
ended_known text action.NamedEnd t known = known
ended_known text (action.Element k) t known = unframed_known text (action.Element k) t.frames t known
ended_known text (action.Take d) t known = unframed_known text (action.Take d) t.frames t known
ended_known text action.Level t known = unlevelled_known text t.levels t known
ended_known text action.Tail t known = known

closed_known : (text : List ℕ) (as_ : List Action) (t : Telling) → Know text t.now.rest → Know text (closed as_ t).now.rest
closed_known text [] t known = known
closed_known text (a ∷ as_) t known = ended_known text a (record t { actions = as_ }) known

pub told_known : (tables : Tables) (text : List ℕ) (t : Telling) (e : Event) → AreTokensOf text t.now.rest → AreTokensOf text (told tables text t e).now.rest
told_known tables text t (Open p) known = subst (λ (us : List Token). Know text us) (sym (entered_rest (action_at tables p) t.now)) known
told_known tables text t Shift known = taken_known tables text (top t.actions) t.now.rest t.now known known
told_known tables text t Close known = closed_known text t.actions t known
told_known tables text t End known = known
