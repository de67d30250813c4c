-- That printed tokens are derived from symbols, and what the walk over the derivation makes of them: put together from left to right.
use Rattle.std.proofs.Common.{◌≡◌, ℕ, List, [], ◌∷◌, ◌++◌, refl, ap, sym, subst, ◌∙◌, append_assoc, append-nil}
use Rattle.std.specs.Prelude.{map, slice_get, Some}
use Rattle.std.proofs.lemmas.List.{map-append}
use Rattle.element_store.specs.declared.outcome.Language.{Language}
use Rattle.token_core.specs.Terminals.{terminal}
use Rattle.ll_core.specs.declared.grammar.Symbol.{Symbol}
use Rattle.ll_core.specs.declared.grammar.Symbol.TheVariants.{Terminal, Inner}
use Rattle.ll_core.specs.Derives.{Forest, Nothing, Token as Leaf, Node, IsDerivation, tokens}
use Rattle.text_model.specs.declared.action.Action.{Action}
use Rattle.text_model.specs.declared.action.Meaning.{Meaning}
use Rattle.text_model.specs.Tables.{Tables, tables, action_at, meaning_of}
use Rattle.text_model.specs.Walk.{Walk, saved, entered, left, meant}
use Rattle.text_model.specs.Languages.{grammar_of}
use Rattle.print_model.specs.Printed.{Printed, heard}
use Rattle.print_model.specs.ReadBack.{kinds}
use Rattle.print_model.proofs.BareWalk.{Bare, token_of, said, told, ended, bare_walk}

heard_both : (ps qs more : List Printed) → map heard (ps ++ qs) ++ more ≡ map heard ps ++ (map heard qs ++ more)
heard_both ps qs more = ap (λ xs. xs ++ more) (map-append heard ps qs) ∙ append_assoc (map heard ps) (map heard qs) more

-- the symbols derive the tokens, and the walk over the derivation goes from one state to another
pub record Reads (l : Language) (a : Action) (ss : List Symbol) (ps : List Printed) (w v : Walk) : Type 0 where
  pub forest : Forest
  pub derived : IsDerivation (grammar_of l) ss forest
  pub spelt : tokens forest ≡ kinds ps
  pub walked : (more : List Printed) → bare_walk (tables l) a forest (record { now = w; rest = map heard ps ++ more }) ≡ record { now = v; rest = more }

-- a production by its number: its symbol, its right side, its action
abbrev pub IsRule : Language → ℕ → ℕ → List Symbol → Action → Type 0
IsRule l n s rs b = (slice_get (grammar_of l).rules n ≡ Some (record { left = s; right = rs })) × (action_at (tables l) n ≡ b)

-- what a token is, and what it means
abbrev pub IsToken : Language → Printed → ℕ → Meaning → Type 0
IsToken l p k m = (terminal p.kind ≡ k) × (meaning_of (tables l) p.kind ≡ m)

-- no symbol
pub reads_nothing : (l : Language) (a : Action) (w : Walk) → Reads l a [] [] w w
reads_nothing l a w = record { forest = Nothing; derived = tt; spelt = refl; walked = λ more. refl }

-- a token before the rest
pub reads_token : (l : Language) (a : Action) (p : Printed) (k : ℕ) (ss : List Symbol) (ps : List Printed) (w v : Walk)
    → terminal p.kind ≡ k → Reads l a ss ps (said (tables l) a p w) v → Reads l a (Terminal k ∷ ss) (p ∷ ps) w v
reads_token l a p k ss ps w v e r = record {
  forest = Leaf k r.forest;
  derived = (refl, r.derived);
  spelt = ap (λ j. j ∷ tokens r.forest) (sym e) ∙ ap (λ ks. terminal p.kind ∷ ks) r.spelt;
  walked = λ more. r.walked more;
}

-- a production, and what stands beside it
pub reads_node : (l : Language) (a b : Action) (n s : ℕ) (rs ss : List Symbol) (ps qs : List Printed) (w u v : Walk)
    → IsRule l n s rs b → Reads l b rs ps (entered b w) u → Reads l a ss qs (left b (saved b w) u) v → Reads l a (Inner s ∷ ss) (ps ++ qs) w v
reads_node l a b n s rs ss ps qs w u v rule r q = record {
  forest = Node n r.forest q.forest;
  derived = ((record { left = s; right = rs }, rule.0, refl, r.derived), q.derived);
  spelt = ap (λ ks. ks ++ tokens q.forest) r.spelt ∙ (ap (λ ks. kinds ps ++ ks) q.spelt ∙ sym (map-append (λ (p : Printed). terminal p.kind) ps qs));
  walked = λ more.
      ap (λ c. bare_walk (tables l) a q.forest (record {
        now =
            left c (saved c w) (bare_walk (tables l) c r.forest (record { now = entered c w; rest = map heard (ps ++ qs) ++ more })).now;
        rest = (bare_walk (tables l) c r.forest (record { now = entered c w; rest = map heard (ps ++ qs) ++ more })).rest;
      })) rule.1
      ∙ (ap (λ xs. bare_walk (tables l) a q.forest (record {
        now =
            left b (saved b w) (bare_walk (tables l) b r.forest (record { now = entered b w; rest = xs })).now;
        rest = (bare_walk (tables l) b r.forest (record { now = entered b w; rest = xs })).rest;
      })) (heard_both ps qs more)
      ∙ (ap (λ (c : Bare). bare_walk (tables l) a q.forest (record { now = left b (saved b w) c.now; rest = c.rest })) (r.walked (map heard qs ++ more))
      ∙ q.walked more));
}

-- equal tokens
pub reads_as : (l : Language) (a : Action) (ss : List Symbol) (ps qs : List Printed) (w v : Walk) → ps ≡ qs → Reads l a ss ps w v → Reads l a ss qs w v
reads_as l a ss ps qs w v e r = subst (λ xs. Reads l a ss xs w v) e r

-- equal ends
pub reads_to : (l : Language) (a : Action) (ss : List Symbol) (ps : List Printed) (w u v : Walk) → u ≡ v → Reads l a ss ps w u → Reads l a ss ps w v
reads_to l a ss ps w u v e r = subst (λ x. Reads l a ss ps w x) e r

-- a production with nothing beside it
pub reads_last : (l : Language) (a b : Action) (n s : ℕ) (rs : List Symbol) (ps : List Printed) (w u : Walk)
    → IsRule l n s rs b → Reads l b rs ps (entered b w) u → Reads l a (Inner s ∷ []) ps w (left b (saved b w) u)
reads_last l a b n s rs ps w u rule r =
    reads_as l a (Inner s ∷ []) (ps ++ []) ps w (left b (saved b w) u) (append-nil ps)
    (reads_node l a b n s rs [] ps [] w u (left b (saved b w) u) rule r (reads_nothing l a (left b (saved b w) u)))

-- forests side by side
beside : Forest → Forest → Forest
beside Nothing g = g
beside (Leaf k f) g = Leaf k (beside f g)
beside (Node n below f) g = Node n below (beside f g)

derived_beside : (l : Language) (ss ts : List Symbol) (f g : Forest) → IsDerivation (grammar_of l) ss f → IsDerivation (grammar_of l) ts g
    → IsDerivation (grammar_of l) (ss ++ ts) (beside f g)
unfolding beside
derived_beside l [] ts Nothing g d e = e
derived_beside l [] ts (Leaf k f) g d e = elim d [ ]
derived_beside l [] ts (Node n below f) g d e = elim d [ ]
derived_beside l (Terminal k ∷ ss) ts Nothing g d e = elim d [ ]
derived_beside l (Terminal k ∷ ss) ts (Leaf j f) g d e = (d.0, derived_beside l ss ts f g d.1 e)
derived_beside l (Terminal k ∷ ss) ts (Node n below f) g d e = elim d [ ]
derived_beside l (Inner s ∷ ss) ts Nothing g d e = elim d [ ]
derived_beside l (Inner s ∷ ss) ts (Leaf j f) g d e = elim d [ ]
derived_beside l (Inner s ∷ ss) ts (Node n below f) g d e = (d.0, derived_beside l ss ts f g d.1 e)

tokens_beside : (f g : Forest) → tokens (beside f g) ≡ tokens f ++ tokens g
unfolding beside
tokens_beside Nothing g = refl
tokens_beside (Leaf k f) g = ap (λ ks. k ∷ ks) (tokens_beside f g)
tokens_beside (Node n below f) g = ap (λ ks. tokens below ++ ks) (tokens_beside f g) ∙ sym (append_assoc (tokens below) (tokens f) (tokens g))

walk_beside : (t : Tables) (a : Action) (f g : Forest) (b : Bare) → bare_walk t a (beside f g) b ≡ bare_walk t a g (bare_walk t a f b)
unfolding beside
walk_beside t a Nothing g b = refl
walk_beside t a (Leaf k f) g b = walk_beside t a f g (told t a b.rest b.now)
walk_beside t a (Node n below f) g b =
    walk_beside t a f g (ended (action_at t n) b.now (bare_walk t (action_at t n) below (record { now = entered (action_at t n) b.now; rest = b.rest })))

-- one after another
pub reads_then : (l : Language) (a : Action) (ss ts : List Symbol) (ps qs : List Printed) (w u v : Walk) → Reads l a ss ps w u → Reads l a ts qs u v
    → Reads l a (ss ++ ts) (ps ++ qs) w v
reads_then l a ss ts ps qs w u v r q = record {
  forest = beside r.forest q.forest;
  derived = derived_beside l ss ts r.forest q.forest r.derived q.derived;
  spelt = tokens_beside r.forest q.forest ∙ (ap (λ ks. ks ++ tokens q.forest) r.spelt
      ∙ (ap (λ ks. kinds ps ++ ks) q.spelt ∙ sym (map-append (λ (p : Printed). terminal p.kind) ps qs)));
  walked = λ more.
      walk_beside (tables l) a r.forest q.forest (record { now = w; rest = map heard (ps ++ qs) ++ more })
      ∙ (ap (λ xs. bare_walk (tables l) a q.forest (bare_walk (tables l) a r.forest (record { now = w; rest = xs }))) (heard_both ps qs more)
      ∙ (ap (bare_walk (tables l) a q.forest) (r.walked (map heard qs ++ more)) ∙ q.walked more));
}

-- a token with its meaning
pub reads_said : (l : Language) (a : Action) (p : Printed) (k : ℕ) (m : Meaning) (ss : List Symbol) (ps : List Printed) (w v : Walk)
    → terminal p.kind ≡ k → meaning_of (tables l) p.kind ≡ m → Reads l a ss ps (meant p.bytes a m (token_of p) w) v → Reads l a (Terminal k ∷ ss) (p ∷ ps) w v
reads_said l a p k m ss ps w v e h r = reads_token l a p k ss ps w v e (subst (λ (x : Meaning). Reads l a ss ps (meant p.bytes a x (token_of p) w) v) (sym h) r)
