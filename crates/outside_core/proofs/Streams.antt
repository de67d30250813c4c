-- What callers of sources and sinks need: pieces one after another, and what is told stays told.
use Rattle.std.proofs.Common.{◌≡◌, ℕ, ◌+◌, ◌-◌, List, [], ◌++◌, length, take, drop, refl, sym, ap, subst, ◌∙◌, arith, append_assoc, append-nil, length-drop, length-append}
use Rattle.std.proofs.Math.Seq.{take-add, take-length, take-append-add}
use Rattle.std.proofs.lemmas.List.{take-append-le}
use Rattle.std.specs.Prelude.{Option, Some, None, Ok, Err, Result}
use Rattle.linker_base.specs.Counts.{HasCause, Rose}
use Rattle.linker_base.proofs.Lists.{rest_is}
use Rattle.outside_core.specs.Streams.{Takes, TakenSoFar, Gives, GivenSoFar, GivesAll}

-- after the first bytes of a piece, a call gave some of the rest
given_more : (E : Type 0) (old now new : Option (List ℕ)) (piece : List ℕ) (done count : ℕ) → GivenSoFar old now piece done → Gives {E = E} now new (Ok count) (drop done piece)
    → GivenSoFar old new piece (done + count)
given_more E None now new piece done count h g = subst (λ x. Gives {E = E} x new (Ok count) (drop done piece)) h g
given_more E (Some xs) now new piece done count h g =
    let i = subst (λ x. Gives {E = E} x new (Ok count) (drop done piece)) h g in
    i ∙ ap Some (append_assoc xs (take done piece) (take count (drop done piece)) ∙ ap (λ ys. xs ++ ys) (sym (take-add done count piece)))

-- the same, where the call was handed `&piece[done..]`
pub given_further : (E : Type 0) (old now new : Option (List ℕ)) (piece : List ℕ) (done count : ℕ) → GivenSoFar old now piece done
    → Gives {E = E} now new (Ok count) (take (length piece - done) (drop done piece)) → GivenSoFar old new piece (done + count)
given_further E old now new piece done count h g = given_more E old now new piece done count h (subst (Gives {E = E} now new (Ok count)) (rest_is done piece) g)

-- nothing was given, which is the whole of the empty piece
pub gives_none : (T E : Type 0) (given : Option (List ℕ)) (done : T) → GivesAll {T = T} {E = E} given given (Ok done) []
gives_none T E None done = refl
gives_none T E (Some bytes) done = ap Some (sym (append-nil bytes))

-- the first piece was given whole, and then the second, or a prefix of it: so was their joining
pub gives_after : (S T E F : Type 0) (old now new : Option (List ℕ)) (done : S) (result : Result T E) (first second : List ℕ)
    → GivesAll {T = S} {E = F} old now (Ok done) first → GivesAll {T = T} {E = E} now new result second → GivesAll {T = T} {E = E} old new result (first ++ second)
gives_after S T E F None now new done (Ok u) first second a b = subst (λ x. GivesAll {T = T} {E = E} x new (Ok u) second) a b
gives_after S T E F None now new done (Err e) first second a b = subst (λ x. GivesAll {T = T} {E = E} x new (Err e) second) a b
gives_after S T E F (Some bytes) now new done (Ok u) first second a b =
    subst (λ x. GivesAll {T = T} {E = E} x new (Ok u) second) a b ∙ ap Some (append_assoc bytes first second)
gives_after S T E F (Some bytes) now new done (Err e) first second a b =
    let p : GivesAll {T = T} {E = E} (Some (bytes ++ first)) new (Err e) second = subst (λ x. GivesAll {T = T} {E = E} x new (Err e) second) a b in
    (length first + p.0, omega (arith, p.1, length-append first second), p.2 ∙ ap Some (append_assoc bytes first (take p.0 second) ∙ ap (λ ys. bytes ++ ys) (sym (take-append-add first second p.0))))

-- a prefix of a piece was given: it is one of every piece that goes on so
pub gives_prefix : (T E : Type 0) (old new : Option (List ℕ)) (e : E) (first second : List ℕ) → GivesAll {T = T} {E = E} old new (Err e) first → GivesAll {T = T} {E = E} old new (Err e) (first ++ second)
gives_prefix T E None new e first second g = g
gives_prefix T E (Some bytes) new e first second g =
    (g.0, omega (arith, g.1, length-append first second), g.2 ∙ ap (λ ys. Some (bytes ++ ys)) (sym (take-append-le g.0 first second g.1)))

-- after giving, what was told is told
pub gives_told : (T E : Type 0) (bytes : List ℕ) (new : Option (List ℕ)) (result : Result T E) (piece : List ℕ) → GivesAll {T = T} {E = E} (Some bytes) new result piece → (now : List ℕ) × (new ≡ Some now)
gives_told T E bytes new (Ok u) piece g = (bytes ++ piece, g)
gives_told T E bytes new (Err e) piece g = (bytes ++ take g.0 piece, g.2)

-- after taking, what was told is told
pub takes_told : (E : Type 0) (bytes : List ℕ) (left : Option (List ℕ)) (result : Result ℕ E) (buffer : List ℕ) → Takes {E = E} (Some bytes) left result buffer → (rest : List ℕ) × (left ≡ Some rest)
takes_told E bytes left (Ok n) buffer t = (t.0, t.1)
takes_told E bytes left (Err e) buffer t = (bytes, t)

-- before the first call nothing was taken
pub taken_none : (left : Option (List ℕ)) → TakenSoFar left left []
taken_none None = refl
taken_none (Some bytes) = (bytes, refl, refl)

-- a call took some more
pub taken_more : (E : Type 0) (old now new : Option (List ℕ)) (taken : List ℕ) (n : ℕ) (buffer : List ℕ)
    → TakenSoFar old now taken → Takes {E = E} now new (Ok n) buffer → TakenSoFar old new (taken ++ take n buffer)
taken_more E None now new taken n buffer a b = subst (λ x. Takes {E = E} x new (Ok n) buffer) a b
taken_more E (Some bytes) now new taken n buffer a b =
    let t : Takes {E = E} (Some a.0) new (Ok n) buffer = subst (λ x. Takes {E = E} x new (Ok n) buffer) a.1 b in
    (t.0, t.1, a.2 ∙ (ap (λ ys. taken ++ ys) t.2 ∙ sym (append_assoc taken (take n buffer) t.0)))

-- a call answered 0: what was taken so far is all there was
pub taken_all : (E : Type 0) (bytes : List ℕ) (now new : Option (List ℕ)) (taken buffer : List ℕ)
    → TakenSoFar (Some bytes) now taken → Takes {E = E} now new (Ok 0) buffer → bytes ≡ taken
taken_all E bytes now new taken buffer a b =
    let t : Takes {E = E} (Some a.0) new (Ok 0) buffer = subst (λ x. Takes {E = E} x new (Ok 0) buffer) a.1 b in
    a.2 ∙ (ap (λ ys. taken ++ ys) (t.3.0 refl) ∙ append-nil taken)

-- a failed call took nothing
pub taken_still : (E : Type 0) (old now new : Option (List ℕ)) (taken : List ℕ) (e : E) (buffer : List ℕ)
    → TakenSoFar old now taken → Takes {E = E} now new (Err e) buffer → TakenSoFar old new taken
taken_still E None now new taken e buffer a b = subst (λ x. Takes {E = E} x new (Err e) buffer) a b
taken_still E (Some bytes) now new taken e buffer a b =
    let t : Takes {E = E} (Some a.0) new (Err e) buffer = subst (λ x. Takes {E = E} x new (Err e) buffer) a.1 b in
    (a.0, t, a.2)

-- a call that answered leaves the count, so the next call's cause is that of both
pub cause_after : (S T E F : Type 0) (before now later : ℕ) (done : S) (result : Result T E) → HasCause {T = S} {E = F} before now (Ok done) → HasCause now later result → HasCause before later result
cause_after S T E F before now later done result a b = subst (λ n. HasCause n later result) a.kept b

-- a count that is always 0 causes no failure
pub none_rose : Rose 0 0 → ⊥
none_rose r = omega (arith, r)
