-- What was heard, one event more, and at the end.
use Rattle.std.proofs.Common.{◌≡◌, ◌<◌, ◌+◌, ℕ, zero, suc, List, [], ◌∷◌, ◌++◌, length, take, get_or, refl, ap, sym, subst, ◌∙◌, arith}
use Rattle.std.proofs.lemmas.List.{append-nil}
use Rattle.ll_core.specs.Derives.{Forest, IsSyntaxPlace, IsTree, StopsAt, preorder}
use Rattle.ll_core.proofs.Places.{place_at}
use Rattle.std.specs.Prelude.{Some}
use Rattle.token_core.specs.declared.token.Token.{Token}
use Rattle.token_core.specs.Terminals.{terminal}
use Rattle.ll_core.specs.Parsing.{Parsing}
use Rattle.ll_core.specs.Table.{Table}
use Rattle.ll_core.specs.declared.event.Event.{Event}
use Rattle.token_core.specs.Reading.{AreTokensOf}
use Rattle.text_model.specs.Languages.{grammar_of}
use Rattle.text_model.specs.Tables.{tables}
use Rattle.text_model.specs.Walk.{Walk}
use Rattle.text_model.specs.Profile.{kinds_of, drafts_of, start}
use Rattle.draft_walk.specs.declared.telling.Drafts.{Drafts}
use Rattle.draft_walk.specs.declared.telling.Source.{Source}
use Rattle.draft_walk.specs.Telling.{Telling, begun, run, told}
use Rattle.draft_walk.specs.Drafted.{HasDrafts, IsDrafted, IsHeard, IsWhole}
use Rattle.draft_walk.proofs.Events.{run_more, run_walk}

pub heard_more : (s : Source) (p q : Parsing) (t u : Telling) (e : Event) → IsHeard s p t → q.given ≡ p.given ++ e ∷ []
    → u ≡ told (tables s.language) s.text.now t e → AreTokensOf s.text.now u.now.rest → IsHeard s q u
heard_more s p q t u e h given is known = record {
  heard = is ∙ (ap (λ r. told (tables s.language) s.text.now r e) h.heard
      ∙ (sym (run_more (tables s.language) s.text.now (begun s.tokens.now) p.given e)
      ∙ sym (ap (run (tables s.language) s.text.now (begun s.tokens.now)) given)));
  known = known;
}

-- the walk over the tree that was told
pub walk_heard : (s : Source) (p : Parsing) (t : Telling) (f : Forest) → t ≡ run (tables s.language) s.text.now (begun s.tokens.now) p.given
    → preorder f ≡ p.given
    → t.now ≡ drafts_of s.language s.text.now s.tokens.now f
walk_heard s p t f heard told_ =
    ap (λ (r : Telling). r.now) (heard ∙ (sym (ap (run (tables s.language) s.text.now (begun s.tokens.now)) told_)
    ∙ (sym (ap (run (tables s.language) s.text.now (begun s.tokens.now)) (append-nil (preorder f)))
    ∙ run_walk (tables s.language) s.text.now f [] [] [] (start s.tokens.now) [])))

pub drafted : (s : Source) (p : Parsing) (t : Telling) (d : Drafts) → IsWhole s p t → HasDrafts d t.now → IsDrafted s d
drafted s p t d whole has = record {
  tree = whole.told.0;
  derived = subst (λ (g : Table). IsTree g (kinds_of s.tokens.now) whole.told.0) whole.table
      (subst (λ (ks : List ℕ). IsTree p.table ks whole.told.0) whole.shifted whole.told.1);
  drafts = subst (λ (w : Walk). HasDrafts d w) (walk_heard s p t whole.told.0 whole.heard.heard whole.told.2) has;
}

-- the kinds of tokens, one more
pub kinds_take : (ts : List Token) (n : ℕ) (d : Token) → n < length ts → take (suc n) (kinds_of ts) ≡ take n (kinds_of ts) ++ terminal (get_or ts n d).kind ∷ []
kinds_take [] n d below = absurd (omega (arith, below))
kinds_take (t ∷ ts) zero d below = refl
kinds_take (t ∷ ts) (suc n) d below = ap (λ ks. terminal t.kind ∷ ks) (kinds_take ts n d (omega (arith, below)))

kinds_next : (ts : List Token) (n : ℕ) (d : Token) → n < length ts → get_or (kinds_of ts) n 0 ≡ terminal (get_or ts n d).kind
kinds_next [] n d below = absurd (omega (arith, below))
kinds_next (t ∷ ts) zero d below = refl
kinds_next (t ∷ ts) (suc n) d below = kinds_next ts n d (omega (arith, below))

kinds_longer : (ts : List Token) (n : ℕ) → n < length ts → n < length (kinds_of ts)
kinds_longer [] n below = below
kinds_longer (t ∷ ts) zero below = omega arith
kinds_longer (t ∷ ts) (suc n) below = let rest : n < length (kinds_of ts) = kinds_longer ts n (omega (arith, below)) in omega (arith, rest)

-- where the parser stops at a token
pub place_here : (g h : Table) (ks : List ℕ) (ts : List Token) (n k : ℕ) (d : Token) → n < length ts → h ≡ g → ks ≡ take n (kinds_of ts)
    → k ≡ terminal (get_or ts n d).kind
    → StopsAt h ks (Some k) → IsSyntaxPlace g (kinds_of ts) n
place_here g h ks ts n k d below same shifted is stops =
    place_at g (kinds_of ts) n 0 (kinds_longer ts n below)
    (subst (λ o. StopsAt g (take n (kinds_of ts)) o) (ap Some (is ∙ sym (kinds_next ts n d below)))
    (subst (λ (x : Table). StopsAt x (take n (kinds_of ts)) (Some k)) same
    (subst (λ (x : List ℕ). StopsAt h x (Some k)) shifted stops)))

pub kinds_more : (ts : List Token) (n : ℕ) (d : Token) → n < length ts → take (n + 1) (kinds_of ts) ≡ take n (kinds_of ts) ++ terminal (get_or ts n d).kind ∷ []
kinds_more ts n d below = let e : n + 1 ≡ suc n = omega arith in ap (λ k. take k (kinds_of ts)) e ∙ kinds_take ts n d below

pub shifted_more : (ts : List Token) (n k : ℕ) (d : Token) (old new : List ℕ) → n < length ts → old ≡ take n (kinds_of ts) → k ≡ terminal (get_or ts n d).kind
    → new ≡ old ++ k ∷ [] → new ≡ take (n + 1) (kinds_of ts)
shifted_more ts n k d old new below so_far is more =
    more ∙ (ap (λ ks. ks ++ k ∷ []) so_far ∙ (ap (λ x. take n (kinds_of ts) ++ x ∷ []) is ∙ sym (kinds_more ts n d below)))
