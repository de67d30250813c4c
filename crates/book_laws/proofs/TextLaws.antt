-- References of a text stand within it, so that its rows rise as they are printed.
use Rattle.std.proofs.Common.{◌≡◌, ℕ, ◌<◌, ◌≤◌, ◌^◌, ◌+◌, zero, suc, List, [], ◌∷◌, ◌++◌, length, take, drop, sym, subst, arith, inl, inr}
use Rattle.std.specs.Prelude.{Some, map, slice_get}
use Rattle.linker_base.specs.Members.{IsMember}
use Rattle.linker_base.proofs.Cases.{some_same}
use Rattle.linker_base.proofs.MemberLaws.{member_cases, member_drop}
use Rattle.element_store.specs.declared.numbers.FileNo.{FileNo}
use Rattle.element_store.specs.declared.outcome.Language.{Language}
use Rattle.element_store.specs.Model.{Data}
use Rattle.element_store.specs.Condition.{IsModel}
use Rattle.token_core.specs.declared.token.Token.{Token}
use Rattle.token_core.specs.Lex.{StandApart}
use Rattle.token_core.proofs.Kept.{tokens_rise}
use Rattle.ll_core.specs.Derives.{Forest, Nothing, Token as Leaf, Node, tokens as kinds_in}
use Rattle.text_model.specs.declared.action.Action.{Action}
use Rattle.text_model.specs.declared.action.Action.TheVariants as action
use Rattle.text_model.specs.Profile.{InProfile}
use Rattle.text_model.specs.Tables.{Tables, tables, action_at}
use Rattle.text_laws.specs.Written.{Written, OneByOne, behind, unless_element, own_tokens, element_of, inner_owner, elements_in, written}
use Rattle.text_laws.specs.OwnPlaces.{StandsAtOwn}
use Rattle.text_laws.proofs.BuiltModel.{built_is_model}
use Rattle.text_laws.proofs.OwnPlaceLaws.{references_stand_at_own}
use Rattle.book_model.specs.Laws.{AreWithin}
use Rattle.book_model.proofs.RowLaws.{one_row_each, rows_rise}
use Rattle.book_laws.specs.Texts.{HasRisingRows}

-- tokens that stand apart begin before the end
apart_le : (here there : ℕ) (ts : List Token) → StandApart here ts there → here ≤ there
apart_le here there [] h = h
apart_le here there (t ∷ ts) h = omega (arith, h.0, h.1, apart_le t.upto there ts h.2)

-- each of them begins before the end
apart_below : (here there : ℕ) (ts : List Token) → StandApart here ts there → (t : Token) → IsMember ts t → t.«from» ≤ there
apart_below here there [] h t m = absurd m
apart_below here there (u ∷ ts) h t (inl e) = let le = apart_le u.upto there ts h.2 in subst (λ (v : Token). v.«from» ≤ there) e (omega (arith, h.1, le))
apart_below here there (u ∷ ts) h t (inr m) = apart_below u.upto there ts h.2 t m

-- an element's own tokens are tokens of the text
take_among : {A : Type 0} (n : ℕ) (xs : List A) (x : A) → IsMember (take n xs) x → IsMember xs x
take_among zero xs x m = absurd m
take_among (suc n) [] x m = absurd m
take_among (suc n) (y ∷ xs) x (inl e) = inl e
take_among (suc n) (y ∷ xs) x (inr m) = inr (take_among n xs x m)

-- what an element doesn't take is among the tokens
unless_among : (a : Action) (ts : List Token) (x : Token) → IsMember (unless_element a ts) x → IsMember ts x
unless_among (action.Element k) ts x m = absurd m
unless_among other ts x m = m

-- the own tokens of a forest are among its tokens
own_among : (t : Tables) (f : Forest) (ts : List Token) (x : Token) → IsMember (own_tokens t f ts) x → IsMember ts x
own_among t Nothing ts x m = absurd m
own_among t (Leaf k rest) ts x m = elim (member_cases (take 1 ts) (own_tokens t rest (drop 1 ts)) x m) [
  | inl h ↦ take_among 1 ts x h
  | inr h ↦ member_drop 1 ts x (own_among t rest (drop 1 ts) x h)
]
own_among t (Node p below rest) ts x m = elim (member_cases (unless_element (action_at t p) (own_tokens t below ts))
    (own_tokens t rest (behind below ts)) x m) [
      | inl h ↦ own_among t below ts x (unless_among (action_at t p) (own_tokens t below ts) x h)
      | inr h ↦ member_drop (length (kinds_in below)) ts x (own_among t rest (behind below ts) x h)
    ]

-- an element of a production has the own tokens of that
element_own : (a : Action) (around : ℕ) (own : List Token) (w : Written) → IsMember (element_of a around own) w → (x : Token) → IsMember w.own x
    → IsMember own x
element_own (action.Element k) around own w (inl e) x m = subst (λ (v : Written). IsMember v.own x) (sym e) m
element_own (action.Element k) around own w (inr h) x m = absurd h
element_own other around own w h x m = absurd h

-- the own tokens of the elements below are tokens too
elements_among : (t : Tables) (around n : ℕ) (f : Forest) (ts : List Token) (w : Written) → IsMember (elements_in t around n f ts) w
    → (x : Token) → IsMember w.own x → IsMember ts x
elements_among t around n Nothing ts w h x m = absurd h
elements_among t around n (Leaf k rest) ts w h x m = member_drop 1 ts x (elements_among t around n rest (drop 1 ts) w h x m)
elements_among t around n (Node p below rest) ts w h x m =
    let own = own_tokens t below ts in
    let here = element_of (action_at t p) around own in
    let inner = elements_in t (inner_owner (action_at t p) around n) (n + length here) below ts in
    elim (member_cases here (inner ++ elements_in t around (n + length here + length inner) rest (behind below ts)) w h) [
      | inl a ↦ own_among t below ts x (element_own (action_at t p) around own w a x m)
      | inr b ↦ elim (member_cases inner (elements_in t around (n + length here + length inner) rest (behind below ts)) w b) [
        | inl c ↦ elements_among t (inner_owner (action_at t p) around n) (n + length here) below ts w c x m
        | inr d ↦ member_drop (length (kinds_in below)) ts x (elements_among t around (n + length here + length inner) rest (behind below ts) w d x m)
      ]
    ]

-- so are those of the root and of all elements
written_among : (t : Tables) (f : Forest) (ts : List Token) (w : Written) → IsMember (written t f ts) w → (x : Token) → IsMember w.own x → IsMember ts x
written_among t f ts w (inl e) x m = own_among t f ts x (subst (λ (v : Written). IsMember v.own x) (sym e) m)
written_among t f ts w (inr h) x m = elements_among t 0 1 f ts w h x m

-- what stands at a place is among all
get_among : {A : Type 0} (xs : List A) (n : ℕ) (x : A) → slice_get xs n ≡ Some x → IsMember xs x
get_among [] n x e = absurd (cc)
get_among (y ∷ xs) zero x e = inl (some_same y x e)
get_among (y ∷ xs) (suc n) x e = inr (get_among xs n x e)

-- a place of tokens is at most the end, if all of them begin before it
place_below : (ts : List Token) (place there : ℕ) → IsMember (map (λ (t : Token). t.«from») ts) place → ((t : Token) → IsMember ts t → t.«from» ≤ there)
    → place ≤ there
place_below [] place there m h = absurd m
place_below (t ∷ ts) place there (inl e) h = omega (arith, e, h t (inl refl_of)) where
  refl_of : t ≡ t
  refl_of i = t
place_below (t ∷ ts) place there (inr m) h = place_below ts place there m (λ u n. h u (inr n))

-- what follows for each pair holds of each second item
one_each : {A B : Type 0} (P : A → B → Type 0) (Q : B → Type 0) (xs : List A) (ys : List B) → OneByOne P xs ys → ((x : A) (y : B) → P x y → Q y)
    → (y : B) → IsMember ys y → Q y
one_each P Q [] [] h f y m = absurd m
one_each P Q [] (z ∷ ys) h f y m = absurd h
one_each P Q (x ∷ xs) [] h f y m = absurd h
one_each P Q (x ∷ xs) (z ∷ ys) h f y (inl e) = subst Q e (f x z h.0)
one_each P Q (x ∷ xs) (z ∷ ys) h f y (inr m) = one_each P Q xs ys h.1 f y m

-- the references of a text stand within it
pub places_within : (file : FileNo) (language : Language) (text : List ℕ) (d : Data) → InProfile file language text d → AreWithin text d.reference_places
places_within file language text d p =
    let ws = written (tables language) p.tree p.tokens in
    one_each (StandsAtOwn ws) (λ place. place ≤ length text) d.references d.reference_places
    (references_stand_at_own file language text d p.tokens p.tree p p.read)
    (λ r place (w, at, own). place_below w.own place (length text) own (λ t m.
    apart_below 0 (length text) p.tokens (tokens_rise language text p.tokens p.read.lexed) t
    (written_among (tables language) p.tree p.tokens w (get_among ws r.context w at) t m)))

-- so its rows are one each, and rise
pub text_rows : (file : FileNo) (language : Language) (text : List ℕ) (d : Data) → length text < 2 ^ 32 → InProfile file language text d
    → HasRisingRows text d
text_rows file language text d short p =
    let is : IsModel d = subst IsModel (sym p.model) (built_is_model file language text p.tokens p.tree short p.read p.within) in
    record {
      each = λ outcomes. one_row_each outcomes text d is.places.references;
      rising = λ outcomes. rows_rise outcomes text d (places_within file language text d p);
    }
