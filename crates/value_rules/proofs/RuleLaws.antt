-- The asking of a key is what the rules say: it waits on one key at a time, which is a list in any order.
use Rattle.std.proofs.Common.{◌≡◌, ◌∙◌, List, [], ◌∷◌, ◌++◌, refl, sym, ap, subst}
use Rattle.std.specs.Prelude.{Result, Ok, Err, IfOk, OnOk}
use Rattle.linker_base.specs.Members.{Adds, IsMember}
use Rattle.linker_base.proofs.MemberLaws.{same_members}
use Rattle.demand_core.specs.EngineState.{EngineState}
use Rattle.demand_core.specs.Rules.{Meaning}
use Rattle.demand_core.specs.Settled.{CanSettle}
use Rattle.demand_core.specs.Tables.{entry_of}
use Rattle.demand_core.specs.Computed.{world, each_once, ordered_step}
use Rattle.demand_core.specs.declared.step.Step.{Step}
use Rattle.demand_core.specs.declared.step.Step.TheVariants.{Done, Waits}
use Rattle.link_model.specs.Outside.{Library}
use Rattle.link_model.specs.Readers.{LinkWorld}
use Rattle.value_model.specs.declared.values.NoFact.{NoFact}
use Rattle.value_model.specs.declared.values.ValueAnswer.{ValueAnswer}
use Rattle.value_model.specs.declared.values.ValueKey.{ValueKey}
use Rattle.value_model.specs.Keys.{same_value_key}
use Rattle.value_model.specs.Reading.{ask}
use Rattle.value_model.specs.Valuing.{IsKey, nothing}
use Rattle.value_model.proofs.ReadingLaws.{IsOne, ask_rule}

pub if_ok : {T E : Type 0} {P Q : T → Type 0} (r : Result T E) → IfOk r P → ((t : T) → P t → Q t) → IfOk r Q
if_ok (Ok t) h f = f t h
if_ok (Err e) h f = h

pub on_ok : {T E : Type 0} {A B : Type 0} (r : Result T E) → OnOk r A → (A → B) → OnOk r B
on_ok (Ok t) h f = f h
on_ok (Err e) h f = h

in_order : (step : Step ValueKey ValueAnswer) → IsOne step → step ≡ ordered_step (each_once same_value_key) step
in_order (Done v) one = refl
in_order (Waits []) one = refl
in_order (Waits (k ∷ [])) one = refl
in_order (Waits (k ∷ l ∷ more)) one = absurd one

pub asked_in_order : (w : LinkWorld) (lib : Library) (key : ValueKey) (entries : List (ValueKey × ValueAnswer))
    → (ask w lib key (world nothing (entry_of same_value_key entries))).step
    ≡ ordered_step (each_once same_value_key) (ask w lib key (world nothing (entry_of same_value_key entries))).step
asked_in_order w lib key entries =
    in_order (ask w lib key (world nothing (entry_of same_value_key entries))).step
    ((ask_rule w lib key).one (world nothing (entry_of same_value_key entries)))

pub adds_all : {A : Type 0} (old new added : List A) → new ≡ old ++ added → Adds old new added
adds_all old new added is = record { added = added; whole = is; same = same_members added }

-- an engine that holds nothing can settle all keys
pub settles_all : (m : Meaning ValueKey ValueAnswer NoFact) (fresh : List ValueKey) (e : EngineState ValueKey ValueAnswer NoFact) → fresh ≡ m.keys
    → e ≡ record { table = []; cyclic = []; looks = []; stamps = []; asked = 0 } → CanSettle same_value_key m fresh e
settles_all m fresh e all none = subst (CanSettle same_value_key m fresh) (sym none) (record {
  keys = λ k i. subst (λ ks. IsMember ks k) all i;
  unheld = λ k i. (refl, refl);
  held = λ k i out. absurd (out (subst (λ ks. IsMember ks k) (sym all) i));
  looks = λ k i out. absurd (out (subst (λ ks. IsMember ks k) (sym all) i));
  only = λ k out. (refl, refl);
})
