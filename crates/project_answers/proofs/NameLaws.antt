-- From tokens to the qualified name that they are.
use Rattle.std.proofs.Common.{◌≡◌, ◌∙◌, ℕ, zero, suc, ◌+◌, ◌<◌, ◌≤◌, ◌^◌, Bool, true, false, cond, List, [], ◌∷◌, ◌++◌, length, drop, get_or, refl, sym, ap, subst, arith, inl, inr, append_assoc, length-drop}
use Rattle.std.proofs.Math.Seq.{drop-cons}
use Rattle.std.specs.Prelude.{not, nat_eq, codes, All, IfOk, IfSome, Option, Some, None, Result, Ok, Err}
use Rattle.std.specs.Option.{option_map}
use Rattle.std.proofs.lemmas.List.Elements.{All-nil, All-cons}
use Rattle.linker_base.specs.Members.{IsMember}
use Rattle.linker_base.proofs.Cases.{some_same}
use Rattle.linker_base.proofs.MemberLaws.{member_drop}
use Rattle.element_store.specs.declared.outcome.Language.TheVariants.{Sysml}
use Rattle.token_core.specs.declared.token.Token.{Token}
use Rattle.token_core.specs.declared.token.TokenKind.{TokenKind}
use Rattle.token_core.specs.declared.token.TokenKind.TheVariants.{Name, Integer, Quote, Comment, Sign, Word}
use Rattle.token_core.specs.Lex.{Lexes, StandApart}
use Rattle.token_core.specs.Reading.{AreTokensOf, IsSpellable, IsTokenOf, bytes_of, name_meaning}
use Rattle.token_core.specs.Words.{signs}
use Rattle.token_core.proofs.Kept.{tokens_rise}
use Rattle.token_core.proofs.Meanings.{name_spellable}
use Rattle.book_model.specs.declared.asked_name.AskedName.{AskedName}
use Rattle.book_model.specs.AskedNames.{AskFor, is_absolute, is_name, is_sign, name_by, path_from, path_tokens}
use Rattle.project_answers.specs.Words.{IsGoodName, Takes, path_behind}

-- the number of `$`, and that of `::`
pub dollar_number : (n : ℕ) → is_sign (codes "$") (Sign n) ≡ nat_eq n 37
unfolding signs
dollar_number n = refl

pub colons_number : (n : ℕ) → is_sign (codes "::") (Sign n) ≡ nat_eq n 13
unfolding signs
colons_number n = refl

-- the token is a name
pub name_kind : (k : TokenKind) → is_name k ≡ true → k ≡ Name
name_kind Name e = refl
name_kind Integer e = cc
name_kind Quote e = cc
name_kind Comment e = cc
name_kind (Sign n) e = cc
name_kind (Word n) e = cc

pub name_token : (words : List ℕ) (t : Token) → IsTokenOf t.kind words t → is_name t.kind ≡ true → IsTokenOf Name words t
name_token words t h e = subst (λ (k : TokenKind). IsTokenOf k words t) (name_kind t.kind e) h

-- ---- a token is taken

-- names before what follows, if that is a path
abbrev before : List (List ℕ) → Option (List (List ℕ)) → Option (List (List ℕ))
before names o = option_map (λ more. names ++ more) o

before_test : (names : List (List ℕ)) (b : Bool) (o : Option (List (List ℕ))) → before names (cond b o None) ≡ cond b (before names o) None
before_test names true o = refl
before_test names false o = refl

before_name : (names new : List (List ℕ)) (x : List ℕ) (o : Option (List (List ℕ))) → new ≡ names ++ x ∷ []
    → before names (option_map (λ more. x ∷ more) o) ≡ before new o
before_name names new x None is = refl
before_name names new x (Some more) is = ap Some (sym (append_assoc names (x ∷ []) more) ∙ ap (λ xs. xs ++ more) (sym is))

-- `::` behind a name
pub took_colons : (words : List ℕ) (t : Token) (named : Bool) (names : List (List ℕ)) (fits : Bool) → named ≡ true
    → fits ≡ is_sign (codes "::") t.kind → Takes words t named names names fits
took_colons words t named names fits is test = subst (λ n. Takes words t n names names fits) (sym is) (λ rest.
    before_test names (is_sign (codes "::") t.kind) (path_from false words rest)
    ∙ ap (λ b. cond b (before names (path_from false words rest)) None) (sym test))

-- another token, where a name is due
pub took_other : (words : List ℕ) (t : Token) (named : Bool) (names : List (List ℕ)) → named ≡ false → is_name t.kind ≡ false
    → Takes words t named names names false
took_other words t named names is test = subst (λ n. Takes words t n names names false) (sym is) (λ rest.
    ap (λ b. before names (cond b (option_map (λ more. name_meaning (bytes_of words t) ∷ more) (path_from true words rest)) None)) test)

-- a name
pub took_name : (words : List ℕ) (t : Token) (named : Bool) (names new : List (List ℕ)) (x : List ℕ) → named ≡ false → is_name t.kind ≡ true
    → x ≡ name_meaning (bytes_of words t) → new ≡ names ++ x ∷ [] → Takes words t named names new true
took_name words t named names new x is test means whole = subst (λ n. Takes words t n names new true) (sym is) (λ rest.
    ap (λ b. before names (cond b (option_map (λ more. name_meaning (bytes_of words t) ∷ more) (path_from true words rest)) None)) test
    ∙ before_name names new (name_meaning (bytes_of words t)) (path_from true words rest) (whole ∙ ap (λ y. names ++ y ∷ []) means))

-- ---- the path

-- before any token
pub nothing_behind : (o : Option (List (List ℕ))) → o ≡ option_map (λ more. [] ++ more) o
nothing_behind None = refl
nothing_behind (Some more) = refl

-- what stands at a place is among the tokens
pub get_among : (tokens : List Token) (i : ℕ) (d : Token) → i < length tokens → IsMember tokens (get_or tokens i d)
get_among [] i d lt = absurd (omega (arith, lt))
get_among (t ∷ ts) zero d lt = inl refl
get_among (t ∷ ts) (suc i) d lt = inr (get_among ts i d (omega (arith, lt)))

-- a token that doesn't fit
pub path_ended : (words : List ℕ) (tokens : List Token) (i : ℕ) (d : Token) (named : Bool) (old new : List (List ℕ)) (fits : Bool) → i < length tokens
    → path_from false words tokens ≡ path_behind old named words (drop i tokens) → Takes words (get_or tokens i d) named old new fits → fits ≡ false
    → None ≡ path_from false words tokens
path_ended words tokens i d named old new fits lt is takes bad =
    sym (is ∙ (ap (λ ts. path_behind old named words ts) (drop-cons tokens i d lt) ∙ (takes (drop (suc i) tokens)
    ∙ ap (λ b. cond b (path_behind new (not named) words (drop (suc i) tokens)) None) bad)))

-- ---- the name

-- where `$::` stands there are two tokens
pub absolute_long : (tokens : List Token) → is_absolute tokens ≡ true → 2 ≤ length tokens
absolute_long [] e = cc
absolute_long (t ∷ []) e = cc
absolute_long (t ∷ u ∷ ts) e = omega arith

-- the tokens of the path are tokens of the words
pub path_tokens_of : (words : List ℕ) (tokens : List Token) → AreTokensOf words tokens → AreTokensOf words (path_tokens tokens)
path_tokens_of words tokens are = by (is_absolute tokens)
  where
    by : (b : Bool) → AreTokensOf words (cond b (drop 2 tokens) tokens)
    by true t m = are t (member_drop 2 tokens t m)
    by false t m = are t m

-- ---- what is said of the name

-- names of as many tokens at most, each of which can be spelt
record IsFair (tokens : List Token) (names : List (List ℕ)) : Type 0 where
  spellable : All IsSpellable names
  within : length names ≤ length tokens

-- of a test and what follows
cond_some : {A : Type 0} (b : Bool) (o : Option A) (x : A) → cond b o None ≡ Some x → (b ≡ true) × (o ≡ Some x)
cond_some true o x e = (refl, e)
cond_some false o x e = cc

map_some : (x : List ℕ) (o : Option (List (List ℕ))) (names : List (List ℕ)) → option_map (λ more. x ∷ more) o ≡ Some names
    → (more : List (List ℕ)) × (o ≡ Some more) × (x ∷ more ≡ names)
map_some x None names e = cc
map_some x (Some more) names e = (more, refl, some_same (x ∷ more) names e)

path_fair : (words : List ℕ) (tokens : List Token) → AreTokensOf words tokens → (named : Bool) (names : List (List ℕ))
    → path_from named words tokens ≡ Some names → IsFair tokens names
path_fair words [] are true names e = subst (IsFair []) (some_same [] names e) (record { spellable = All-nil IsSpellable; within = omega arith })
path_fair words [] are false names e = cc
path_fair words (t ∷ ts) are true names e =
    let after = cond_some (is_sign (codes "::") t.kind) (path_from false words ts) names e in
    let fair = path_fair words ts (λ u m. are u (inr m)) false names after.1 in
    record { spellable = fair.spellable; within = omega (arith, fair.within) }
path_fair words (t ∷ ts) are false names e =
    let x = name_meaning (bytes_of words t) in
    let test = cond_some (is_name t.kind) (option_map (λ more. x ∷ more) (path_from true words ts)) names e in
    let after = map_some x (path_from true words ts) names test.1 in
    let fair = path_fair words ts (λ u m. are u (inr m)) true after.0 after.1 in
    subst (IsFair (t ∷ ts)) after.2 (record {
      spellable = All-cons IsSpellable x after.0 (name_spellable words t (name_token words t (are t (inl refl)) test.0)) fair.spellable;
      within = omega (arith, fair.within);
    })

-- a path has a name at least
path_some : (words : List ℕ) (tokens : List Token) (names : List (List ℕ)) → path_from false words tokens ≡ Some names → 0 < length names
path_some words [] names e = cc
path_some words (t ∷ ts) names e =
    let x = name_meaning (bytes_of words t) in
    let test = cond_some (is_name t.kind) (option_map (λ more. x ∷ more) (path_from true words ts)) names e in
    let after = map_some x (path_from true words ts) names test.1 in
    subst (λ (xs : List (List ℕ)). 0 < length xs) after.2 (omega arith)

-- no more tokens than bytes
apart_count : (here there : ℕ) (ts : List Token) → StandApart here ts there → here + length ts ≤ there
apart_count here there [] h = omega (arith, h)
apart_count here there (t ∷ ts) h = let more = apart_count t.upto there ts h.2 in omega (arith, h.0, h.1, more)

path_tokens_fewer : (tokens : List Token) → length (path_tokens tokens) ≤ length tokens
path_tokens_fewer tokens = by (is_absolute tokens)
  where
    by : (b : Bool) → length (cond b (drop 2 tokens) tokens) ≤ length tokens
    by true = omega (arith, length-drop 2 tokens)
    by false = omega arith

-- THE NAME of words that were lexed
module _ (words : List ℕ) (tokens : List Token) (short : length words < 2 ^ 32) (lexed : Lexes Sysml words (Ok tokens)) (are : AreTokensOf words tokens) where
  good_path : (names : List (List ℕ)) → path_from false words (path_tokens tokens) ≡ Some names
      → IsGoodName (record { absolute = is_absolute tokens; path = names })
  good_path names e =
      let fair = path_fair words (path_tokens tokens) (path_tokens_of words tokens are) false names e in
      let count = apart_count 0 (length words) tokens (tokens_rise Sysml words tokens lexed) in
      let fewer = path_tokens_fewer tokens in
      record {
        some = path_some words (path_tokens tokens) names e;
        few = omega (arith, fair.within, fewer, count, short);
        spellable = fair.spellable;
      }

  good_by : (o : Option (List (List ℕ))) → path_from false words (path_tokens tokens) ≡ o
      → IfSome (option_map (λ path. record { absolute = is_absolute tokens; path = path }) o) IsGoodName
  good_by None e = tt
  good_by (Some names) e = good_path names e

  -- it is good
  pub name_good : {E : Type 0} (r : Result (Option AskedName) E) → IfOk r (λ n. n ≡ name_by words tokens) → IfOk r (λ n. IfSome n IsGoodName)
  name_good (Ok n) e = subst (λ (o : Option AskedName). IfSome o IsGoodName) (sym e) (good_by (path_from false words (path_tokens tokens)) refl)
  name_good (Err f) e = tt

  -- and the words ask for it
  pub name_asked : {E : Type 0} (r : Result (Option AskedName) E) → IfOk r (λ n. n ≡ name_by words tokens) → IfOk r (AskFor words)
  name_asked (Ok n) e = record { lexed = Ok tokens; lexes = lexed; answered = λ f. cc; stands = e }
  name_asked (Err f) e = tt

-- THE NAME of tokens can be spelt
pub name_spells : {E : Type 0} (words : List ℕ) (tokens : List Token) → AreTokensOf words tokens → (r : Result (Option AskedName) E)
    → IfOk r (λ n. n ≡ name_by words tokens) → IfOk r (λ n. IfSome n (λ x. All IsSpellable x.path))
name_spells words tokens are (Err f) e = tt
name_spells words tokens are (Ok n) e =
    subst (λ (o : Option AskedName). IfSome o (λ x. All IsSpellable x.path)) (sym e) (by (path_from false words (path_tokens tokens)) refl)
  where
    by : (o : Option (List (List ℕ))) → path_from false words (path_tokens tokens) ≡ o
        → IfSome (option_map (λ path. record { absolute = is_absolute tokens; path = path }) o) (λ (x : AskedName). All IsSpellable x.path)
    by None e = tt
    by (Some names) e = (path_fair words (path_tokens tokens) (path_tokens_of words tokens are) false names e).spellable
