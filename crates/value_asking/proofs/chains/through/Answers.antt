use Rattle.std.proofs.Common.{◌≡◌, ◌∙◌, ◌∷◌, List, [], ℕ, ◌<◌, ◌+◌, drop, length, get_or, refl, sym, ap, drop-cons, add-one}
use Rattle.std.specs.Prelude.{Result, Ok, Err, Option}
use Rattle.element_store.specs.declared.numbers.ElementNo.{ElementNo}
use Rattle.link_model.specs.Outside.{Library}
use Rattle.link_model.specs.Readers.{LinkWorld}
use Rattle.value_model.specs.declared.values.Spot.{Spot}
use Rattle.value_model.specs.declared.values.ValueFault.{ValueFault}
use Rattle.value_model.specs.Reading.{further, through}
use Rattle.value_asking.proofs.chains.through.Goals as goal

-- a refusal goes through
refused : (w : LinkWorld) (lib : Library) (at : Spot) (es : List ElementNo) (x : ValueFault) → through w lib at es (Err x) ≡ Err x
refused w lib at [] x = refl
refused w lib at (e ∷ es) x = refused w lib at es x

first_is : (es : List ElementNo) (i : ℕ) (d : ElementNo) → i < length es → drop i es ≡ get_or es i d ∷ drop (i + 1) es
first_is es i d lt = drop-cons es i d lt ∙ ap (λ j. get_or es i d ∷ drop j es) (sym (add-one i))

stops : (w : LinkWorld) (lib : Library) (at : Spot) (es : List ElementNo) (i : ℕ) (d : ElementNo) (t : Option ElementNo) (x : ValueFault)
    (whole : Result (Option ElementNo) ValueFault) → i < length es → Err x ≡ further w lib at (Ok t) (get_or es i d)
    → through w lib at (drop i es) (Ok t) ≡ whole → Err x ≡ whole
stops w lib at es i d t x whole lt found h =
    sym (refused w lib at (drop (i + 1) es) x)
    ∙ ap (through w lib at (drop (i + 1) es)) found
    ∙ ap (λ ns. through w lib at ns (Ok t)) (sym (first_is es i d lt))
    ∙ h

pub returns-in-Err : goal.returns-in-Err
returns-in-Err g c =
    stops (g.M.Meanings.links c.args.meanings.now) (g.M.Meanings.library c.args.meanings.now) c.args.at c.args.elements.now c.loop-element.element-index
    (record { file = record { 0 = 0 }; index = 0 }) c.loop-element.reached c.in-Err.fault
    (through (g.M.Meanings.links c.args.meanings.now) (g.M.Meanings.library c.args.meanings.now) c.args.at c.args.elements.now (Ok c.args.target))
    c.loop-element-test.true (sym c.in-Err.is ∙ c.in_ok-target.ensures) c.loop-element.invariant
