-- The limits of a text hang on no place but for where they are told: what is read back passes none where the tree passes none.
use Rattle.std.proofs.Common.{◌≡◌, ℕ, zero, suc, ◌+◌, List, [], ◌∷◌, ◌++◌, length, refl, ap, sym, subst, ◌∙◌, arith}
use Rattle.std.specs.Prelude.{Option, Some, None, Bool, true, false, cond, nat_le, nat_lt, map, slice_get}
use Rattle.std.specs.List.{flat_map}
use Rattle.std.specs.Option.{option_map, option_map_or}
use Rattle.std.proofs.lemmas.List.{length-append}
use Rattle.text_model.specs.declared.draft.Mention.{Mention}
use Rattle.text_model.specs.declared.draft.What.{What}
use Rattle.text_model.specs.declared.draft.What.TheVariants as what
use Rattle.text_model.specs.declared.draft.DraftNode.{DraftNode}
use Rattle.text_model.specs.declared.draft.DraftExpr.{DraftExpr}
use Rattle.text_model.specs.declared.draft.Draft.{Draft}
use Rattle.text_model.specs.Numbering.{mentions_of, reference_places, depths_after, depths, greatest, deep_place, put_in, sorted, place_over, limits, model_of}
use Rattle.text_model.specs.Walk.{Walk}
use Rattle.text_model.specs.Profile.{drafts_of}
use Rattle.print_model.specs.Heads.{printed_text}
use Rattle.print_model.specs.Unplaced.{bare, bare_what, bare_node, bare_mention, bare_expression, bare_draft}
use Rattle.print_model.proofs.LineChains.{written_texts_lex}
use Rattle.print_laws.specs.ModelsReadBack.{items_model}
use Rattle.print_laws.specs.SameModels.{AreAlike}
use Rattle.print_laws.specs.InTheProfile.{ModelsAreInProfile}
use Rattle.print_laws.proofs.Canonical.{models_read_back}
use Rattle.print_laws.proofs.Alike.{all_bare, map_long, bare_alike, printed_alike}

-- two lists side by side are empty where both are
both_empty : {A : Type 0} (xs ys : List A) → xs ++ ys ≡ [] → (xs ≡ []) × (ys ≡ [])
both_empty [] ys e = (refl, e)
both_empty (x ∷ xs) ys e = absurd (never x (xs ++ ys) e)
  where
    never : {A : Type 0} (x : A) (xs : List A) → x ∷ xs ≡ [] → ⊥
    never x xs e = cc

-- and the other way round
empty_both : {A : Type 0} (xs ys : List A) → xs ≡ [] → ys ≡ [] → xs ++ ys ≡ []
empty_both xs ys e f = ap (λ zs. zs ++ ys) e ∙ f

-- a mapped list is empty where the list is
map_empty : {A B : Type 0} (f : A → B) (xs : List A) → map f xs ≡ [] → xs ≡ []
map_empty f [] e = refl
map_empty f (x ∷ xs) e = absurd (never (f x) (map f xs) e)
  where
    never : {A : Type 0} (x : A) (xs : List A) → x ∷ xs ≡ [] → ⊥
    never x xs e = cc

-- Depths.

-- a node
after_same : (w : What) (ds : List ℕ) → depths_after (bare_what w) ds ≡ depths_after w ds
after_same (what.Named p) ds = refl
after_same other ds = refl

-- all nodes
depths_same : (ns : List DraftNode) (ds : List ℕ) → depths (map bare_node ns) ds ≡ depths ns ds
depths_same [] ds = refl
depths_same (n ∷ ns) ds = depths_same ns (depths_after (bare_what n.what) ds) ∙ ap (depths ns) (after_same n.what ds)

-- a place is told, or not
told_same : (b : Bool) (p q : ℕ) → cond b (p ∷ []) [] ≡ [] → cond b (q ∷ []) [] ≡ []
told_same true p q e = cc
told_same false p q e = refl

-- an expression
deep_same : (e : Option DraftExpr) → deep_place (option_map bare_expression e) ≡ [] → deep_place e ≡ []
deep_same None h = refl
deep_same (Some e) h =
    told_same (nat_lt 1000 (greatest (depths e.nodes []))) 0 e.start
    (ap (λ ds. cond (nat_lt 1000 (greatest ds)) (0 ∷ []) []) (sym (depths_same e.nodes [])) ∙ h)

-- all expressions
all_deep : (ds : List Draft) → flat_map (λ (d : Draft). deep_place d.value ++ deep_place d.result) (map bare_draft ds) ≡ []
    → flat_map (λ (d : Draft). deep_place d.value ++ deep_place d.result) ds ≡ []
all_deep [] h = refl
all_deep (d ∷ ds) h =
    let f = λ (d : Draft). deep_place d.value ++ deep_place d.result in
    let parts = both_empty (f (bare_draft d)) (flat_map f (map bare_draft ds)) h in
    let own = both_empty (deep_place (option_map bare_expression d.value)) (deep_place (option_map bare_expression d.result)) parts.0 in
    empty_both (f d) (flat_map f ds) (empty_both (deep_place d.value) (deep_place d.result) (deep_same d.value own.0) (deep_same d.result own.1))
    (all_deep ds parts.1)

-- The number of references.

-- as many references
places_long : (ds : List Draft) → length (reference_places (map bare_draft ds)) ≡ length (reference_places ds)
places_long [] = refl
places_long (d ∷ ds) =
    let f = λ (m : Mention). m.path.place in
    length-append (map f (mentions_of (bare_draft d))) (reference_places (map bare_draft ds))
    ∙ (ap (λ k. k + length (reference_places (map bare_draft ds)))
    (map_long f (mentions_of (bare_draft d)) ∙ (ap length (all_bare d) ∙ (map_long bare_mention (mentions_of d) ∙ sym (map_long f (mentions_of d)))))
    ∙ (ap (λ k. length (map f (mentions_of d)) + k) (places_long ds) ∙ sym (length-append (map f (mentions_of d)) (reference_places ds))))

-- one more is one more
put_long : (p : ℕ) (qs : List ℕ) → length (put_in p qs) ≡ suc (length qs)
put_long p [] = refl
put_long p (q ∷ qs) = one (nat_le p q) p q qs (put_long p qs)
  where
    one : (b : Bool) (p q : ℕ) (qs : List ℕ) → length (put_in p qs) ≡ suc (length qs)
        → length (cond b (p ∷ q ∷ qs) (q ∷ put_in p qs)) ≡ suc (suc (length qs))
    one true p q qs e = refl
    one false p q qs e = ap suc e

-- as many in order
sorted_long : (ps : List ℕ) → length (sorted ps) ≡ length ps
sorted_long [] = refl
sorted_long (p ∷ ps) = put_long p (sorted ps) ∙ ap suc (sorted_long ps)

-- what stands at a number, or nothing
got_same : (n : ℕ) (xs ys : List ℕ) → length xs ≡ length ys → option_map_or (λ (p : ℕ). p ∷ []) (slice_get xs n) [] ≡ []
    → option_map_or (λ (p : ℕ). p ∷ []) (slice_get ys n) [] ≡ []
got_same n [] [] e h = refl
got_same n [] (y ∷ ys) e h = absurd (none_suc (length ys) e)
  where
    none_suc : (k : ℕ) → 0 ≡ suc k → ⊥
    none_suc k e = omega (arith, e)
got_same n (x ∷ xs) [] e h = absurd (suc_none (length xs) e)
  where
    suc_none : (k : ℕ) → suc k ≡ 0 → ⊥
    suc_none k e = omega (arith, e)
got_same zero (x ∷ xs) (y ∷ ys) e h = absurd (never x h)
  where
    never : (x : ℕ) → x ∷ [] ≡ [] → ⊥
    never x e = cc
got_same (suc n) (x ∷ xs) (y ∷ ys) e h = got_same n xs ys (omega (arith, e)) h

-- whether there are too many
over_same : (n : ℕ) (xs ys : List ℕ) → length xs ≡ length ys → place_over n xs ≡ [] → place_over n ys ≡ []
over_same n xs ys e h = got_same n (sorted xs) (sorted ys) (sorted_long xs ∙ (e ∙ sym (sorted_long ys))) h

-- a walk passes no limit where it passes none without its places
limits_bare : (w : Walk) → limits (bare w) ≡ [] → limits w ≡ []
limits_bare w h =
    let f = λ (d : Draft). deep_place d.value ++ deep_place d.result in
    let b = both_empty (map (λ (n : ℕ). 0) w.large) _ h in
    let c = both_empty (flat_map f (map bare_draft w.elements)) _ b.1 in
    empty_both w.large _ (map_empty (λ (n : ℕ). 0) w.large b.0)
    (empty_both (flat_map f w.elements) _ (all_deep w.elements c.0)
    (over_same 262144 (reference_places (map bare_draft w.elements)) (reference_places w.elements) (places_long w.elements) c.1))

-- the theorem
pub models_are_in_profile : ModelsAreInProfile
models_are_in_profile file l xs fits canonical can few shallow =
    let r = models_read_back file l xs fits canonical can in
    let text = printed_text (items_model file l xs) in
    let w = drafts_of l text r.0 r.2.forest in
    let h : AreAlike (model_of file l w) (items_model file l xs) =
    subst (λ v. AreAlike (model_of file l w) (model_of file l v)) r.2.walked (bare_alike file l w) in
    record {
      model = model_of file l w;
      inside = record {
        tokens = r.0;
        tree = r.2.forest;
        read = record { lexed = ((written_texts_lex (items_model file l xs) can).0, r.1, shallow r.0 r.1); derived = r.2.derived };
        within = limits_bare w (ap limits r.2.walked ∙ few);
        model = refl;
      };
      alike = h;
      again = printed_alike (model_of file l w) (items_model file l xs) h;
    }
