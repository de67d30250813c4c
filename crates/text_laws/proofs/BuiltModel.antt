-- The model of a text within the profile is a model.
use Rattle.std.proofs.Common.{◌≡◌, inl, inr, ℕ, zero, suc, ◌+◌, ◌<◌, ◌≤◌, ◌^◌, Bool, true, false, cond, List, [], ◌∷◌, ◌++◌, length, refl, ap, sym, subst, ◌∙◌, arith}
use Rattle.std.specs.Prelude.{nat_le, slice_get, Option, Some, None}
use Rattle.std.specs.List.{flat_map}
use Rattle.std.specs.Option.{option_map_or}
use Rattle.element_store.specs.declared.numbers.FileNo.{FileNo}
use Rattle.element_store.specs.declared.outcome.Language.{Language}
use Rattle.element_store.specs.Condition.{IsModel}
use Rattle.token_core.specs.declared.token.Token.{Token}
use Rattle.token_core.specs.Terminals.{HasNumber}
use Rattle.token_core.specs.Lex.{Lex}
use Rattle.ll_core.specs.Derives.{Forest, IsTree, tokens as tokens_in}
use Rattle.ll_core.specs.Table.{Table}
use Rattle.std.proofs.Common.{append-nil}
use Rattle.text_model.specs.Tables.{Tables}
use Rattle.text_model.specs.Walk.{walk}
use Rattle.text_laws.specs.Coherent.{IsCoherent}
use Rattle.text_model.specs.Modes.{Mode, Clear, ModeClaim, mode_claim_at, mode_after, modes, all_modes, is_some_mode, are_modes}
use Rattle.text_laws.proofs.WholeLaws.{IsAt}
use Rattle.linker_base.proofs.Cases.{both_true}
use Rattle.text_laws.proofs.SpanLaws.{Rise, tokens_rise}
use Rattle.text_laws.proofs.OrderLaws.{order_walk}
use Rattle.text_laws.proofs.ImportLaws.{walk_linked}
use Rattle.text_laws.proofs.TextOrderLaws.{IsInTextOrder, in_text_order}
use Rattle.text_model.specs.declared.action.Action.TheVariants.{Group}
use Rattle.text_model.specs.Tables.{tables}
use Rattle.text_model.specs.Walk.{Walk}
use Rattle.text_model.specs.Profile.{IsRead, drafts_of, kinds_of, start}
use Rattle.text_laws.specs.Fits.{Every}
use Rattle.text_model.specs.Numbering.{model_of, limits, put_in, sorted, place_over, references_from, reference_places, deep_place}
use Rattle.text_laws.proofs.PartLaws.{references_placed}
use Rattle.text_laws.proofs.NumberedModel.{is_model, is_shaped}
use Rattle.text_laws.proofs.DerivedLaws.{IsDerivedSoFar, derived}
use Rattle.text_laws.proofs.TokenLaws.{tokens_fit, tokens_weigh}
use Rattle.text_model.specs.Slacks.{weights}
use Rattle.text_laws.proofs.FewItems.{items_of}
use Rattle.text_laws.proofs.StrictItems.{IsStrict, strict_items, tops_hold}
use Rattle.ll_core.specs.declared.grammar.Symbol.TheVariants.{Inner}
use Rattle.text_model.specs.Languages.{grammar_of}
use Rattle.text_model.specs.ClaimLists.{wholes_of, roles_of, slacks_of, modes_of}
use Rattle.text_model.proofs.Evaluated.{wholes_hold, roles_hold, slacks_hold, modes_hold}

-- Limits.

length-put : (p : ℕ) (ps : List ℕ) → length (put_in p ps) ≡ suc (length ps)
length-put p [] = refl
length-put p (q ∷ qs) = by_test (nat_le p q) (length-put p qs) where
  by_test : (b : Bool) → length (put_in p qs) ≡ suc (length qs) → length (cond b (p ∷ q ∷ qs) (q ∷ put_in p qs)) ≡ suc (length (q ∷ qs))
  by_test true e = refl
  by_test false e = ap suc e

length-sorted : (ps : List ℕ) → length (sorted ps) ≡ length ps
length-sorted [] = refl
length-sorted (p ∷ ps) = length-put p (sorted ps) ∙ ap suc (length-sorted ps)

none_over : (n : ℕ) (xs : List ℕ) → option_map_or (λ p. p ∷ []) (slice_get xs n) [] ≡ [] → length xs ≤ n
none_over n [] e = omega arith
none_over zero (x ∷ xs) e = cc
none_over (suc n) (x ∷ xs) e = omega (arith, none_over n xs e)

back_empty : {A : Type 0} (xs ys : List A) → xs ++ ys ≡ [] → ys ≡ []
back_empty [] ys e = e
back_empty (x ∷ xs) ys e = cc

few_references : (w : Walk) → limits w ≡ [] → length (references_from 0 w.elements) ≤ 262144
few_references w e =
    let a = back_empty w.large (flat_map (λ d. deep_place d.value ++ deep_place d.result) w.elements ++ place_over 262144 (reference_places w.elements)) e in
    let b = back_empty (flat_map (λ d. deep_place d.value ++ deep_place d.result) w.elements) (place_over 262144 (reference_places w.elements)) a in
    omega (arith, none_over 262144 (sorted (reference_places w.elements)) b, length-sorted (reference_places w.elements), references_placed 0 w.elements)

-- What the claims say of a text that is read.
derived_of : (language : Language) (text : List ℕ) (tokens : List Token) (f : Forest) → IsRead language text tokens f → Every (λ t. HasNumber t.kind) tokens
    → IsDerivedSoFar (drafts_of language text tokens f)
derived_of language text tokens f read numbers = derived (tables language) (wholes_of language) (roles_of language) text
    (grammar_of language) (wholes_hold language) (roles_hold language) tokens f read.derived numbers

-- a text has no item, or fewer than its tokens weigh
few_items : (language : Language) (text : List ℕ) (tokens : List Token) (f : Forest) → IsRead language text tokens f
    → IsStrict (start tokens) (drafts_of language text tokens f) (kinds_of tokens)
few_items language text tokens f read =
    subst (IsStrict (start tokens) (drafts_of language text tokens f)) read.derived.1
    (strict_items (tables language) (slacks_of language) text (grammar_of language) (slacks_hold language) (tops_hold language) f Group
    (start tokens) read.derived.0)

fewer : (w v : Walk) (ks : List ℕ) (n : ℕ) → IsStrict w v ks → items_of w ≡ 0 → weights ks ≤ n → n < 2 ^ 32 → items_of v + 1 < 2 ^ 32
fewer w v ks n (inl h) none heavy short = omega (arith, h, none)
fewer w v ks n (inr h) none heavy short = omega (arith, h, none, heavy, short)

-- the walk over the tree of a text is in order
ordered_of : (file : FileNo) (t : Tables) (claims : List ModeClaim) (g : Table) → are_modes t claims g ≡ true
    → (language : Language) (text : List ℕ) (tokens : List Token) (f : Forest) → IsTree g (kinds_of tokens) f
    → Every (λ x. HasNumber x.kind) tokens → Rise 0 tokens → IsInTextOrder file language (walk t text Group f (start tokens))
ordered_of file t claims g ok language text tokens f tree numbers rise =
    let w = start tokens in
    let c : IsCoherent w = record {
      current = omega arith;
      owners = refl;
      each = (record { members = refl; imports = refl; within = tt; inner = refl }, tt);
      members = tt;
      imports = tt;
    } in
    let at : IsAt (tokens_in f ++ []) w = record { kinds = sym tree.1 ∙ sym (append-nil (tokens_in f)); numbers = numbers } in
    let b = both_true (all_modes t claims 0 g.rules) (is_some_mode (mode_after (mode_claim_at claims g.start) Clear)) ok in
    let m = mode_is (mode_after (mode_claim_at claims g.start) Clear) b.1 in
    let o = order_walk t claims text g b.0 f (Inner g.start ∷ []) Group [] w Clear m.0 0 0 tree.0 at c (ap (modes t claims []) m.1) (omega arith) rise
    (record {
      members = record { rising = refl; below = tt };
      imports = record { rising = refl; below = tt };
      items =
          (record { rising = refl; below = tt }, tt);
    }) in
    in_text_order file language (walk t text Group f w) o.end (walk_linked t text Group f w c tt) o.order where
      mode_is : (o : Option Mode) → is_some_mode o ≡ true → (m : Mode) × (o ≡ Some m)
      mode_is None e = cc
      mode_is (Some m) e = (m, refl)

text_order : (file : FileNo) (language : Language) (text : List ℕ) (tokens : List Token) (f : Forest) → IsRead language text tokens f
    → Every (λ t. HasNumber t.kind) tokens → Rise 0 tokens
    → IsInTextOrder file language (drafts_of language text tokens f)
text_order file language text tokens f read numbers rise = ordered_of file (tables language) (modes_of language)
    (grammar_of language) (modes_hold language) language text tokens f read.derived numbers rise

-- the model of a text that is read and within the limits is a model
pub built_is_model : (file : FileNo) (language : Language) (text : List ℕ) (tokens : List Token) (f : Forest) → length text < 2 ^ 32
    → IsRead language text tokens f
    → limits (drafts_of language text tokens f) ≡ [] → IsModel (model_of file language (drafts_of language text tokens f))
built_is_model file language text tokens f short read within =
    let w = drafts_of language text tokens f in
    let lex : Lex language text tokens = read.lexed.1 in
    let fits = tokens_fit language 0 lex.0 text [] lex.1 in
    let same : tokens ≡ _ = lex.2 in
    let numbers : Every (λ t. HasNumber t.kind) tokens = subst (Every (λ (t : Token). HasNumber t.kind)) (sym same) fits.0 in
    let heavy : weights (kinds_of tokens) ≤ length text =
    subst (λ ts. weights (kinds_of ts) ≤ length text) (sym same) (tokens_weigh language 0 lex.0 text [] lex.1) in
    let ordered = text_order file language text tokens f read numbers (subst (Rise 0) (sym same) (tokens_rise language 0 lex.0 text [] lex.1)) in
    let d = derived_of language text tokens f read numbers in
    let s = is_shaped (tables language) text Group f tokens in
    is_model file language w (length tokens) s.0 s.1 (record {
      root = d.root;
      few = fewer (start tokens) w (kinds_of tokens) (length text) (few_items language text tokens f read) refl heavy short;
      short = omega (arith, short, fits.1, ap length same);
      references = omega (arith, few_references w within);
      whole = d.whole;
      roles = d.roles;
      members = ordered.members;
      imports = ordered.imports;
      items = ordered.items;
    })
