-- The least of places, and depths.
use Rattle.std.proofs.Common.{◌≡◌, ◌<◌, ◌≤◌, ◌+◌, ◌⊎◌, inl, inr, leb, ℕ, suc, List, [], ◌∷◌, ◌++◌, length, take, refl, ap, sym, ◌∙◌, arith}
use Rattle.std.specs.Prelude.{true, false, nat_lt, cond, min, max, Option, Some, None, is_some, get_or, reverse}
use Rattle.std.proofs.lemmas.Bool.{false≢true}
use Rattle.std.proofs.lemmas.Bool.Decides.{leb_tells}
use Rattle.std.specs.Option.{option_to_list}
use Rattle.std.specs.List.{flat_map}
use Rattle.std.proofs.lemmas.Grind.{flat_map-append}
use Rattle.std.proofs.lemmas.List.{append-nil, reverse-append, take_more}
use Rattle.text_model.specs.declared.draft.Draft.{Draft}
use Rattle.text_model.specs.declared.draft.DraftNode.{DraftNode}
use Rattle.text_model.specs.Numbering.{depths, depths_after, greatest, least}
use Rattle.draft_limits.specs.Least.{deep_places, lesser}

-- nothing is no less
lesser_none : (o : Option ℕ) → lesser o None ≡ o
lesser_none None = refl
lesser_none (Some p) = refl

-- of three places the least is the same from either end
lesser_assoc : (a b c : Option ℕ) → lesser a (lesser b c) ≡ lesser (lesser a b) c
lesser_assoc None b c = refl
lesser_assoc (Some p) None c = refl
lesser_assoc (Some p) (Some q) None = refl
lesser_assoc (Some p) (Some q) (Some r) = ap Some (omega arith)

-- what the definition picks is the lesser
picked : (p q : ℕ) → cond (nat_lt q p) (Some q) (Some p) ≡ Some (min p q)
picked p q = by_cases (leb_tells (suc q) p) where
  by_cases : ((leb (suc q) p ≡ true) × (suc q ≤ p)) ⊎ ((leb (suc q) p ≡ false) × (p < suc q)) → cond (nat_lt q p) (Some q) (Some p) ≡ Some (min p q)
  by_cases (inl e) = let least_is : q ≡ min p q = omega (arith, e.1) in ap (λ b. cond b (Some q) (Some p)) e.0 ∙ ap Some least_is
  by_cases (inr e) = let least_is : p ≡ min p q = omega (arith, e.1) in ap (λ b. cond b (Some q) (Some p)) e.0 ∙ ap Some least_is

-- the least of one more place, and of all the others, which is o
least_from : (p : ℕ) (ps : List ℕ) (o : Option ℕ) → least ps ≡ o → least (p ∷ ps) ≡ lesser (Some p) o
least_from p ps None e = rw e refl
least_from p ps (Some q) e = rw e (picked p q)

-- the least of one more place
least_cons : (p : ℕ) (ps : List ℕ) → least (p ∷ ps) ≡ lesser (Some p) (least ps)
least_cons p ps = least_from p ps (least ps) refl

-- the least of two lists
pub least_append : (ps qs : List ℕ) → least (ps ++ qs) ≡ lesser (least ps) (least qs)
least_append [] qs = refl
least_append (p ∷ ps) qs = least_cons p (ps ++ qs) ∙ (ap (lesser (Some p)) (least_append ps qs)
    ∙ (lesser_assoc (Some p) (least ps) (least qs) ∙ ap (λ o. lesser o (least qs)) (sym (least_cons p ps))))

-- the least of one place, or of none
pub least_of_one : (o : Option ℕ) → least (option_to_list o) ≡ o
least_of_one None = refl
least_of_one (Some p) = refl

-- the greatest of one more number at the end
greatest_push : (ns : List ℕ) (n : ℕ) → greatest (ns ++ n ∷ []) ≡ max (greatest ns) n
greatest_push [] n = omega arith
greatest_push (m ∷ ns) n = ap (max m) (greatest_push ns n) ∙ omega arith

-- the depths after one more node at the end
pub depths_push : (ns : List DraftNode) (n : DraftNode) (ds : List ℕ) → depths (ns ++ n ∷ []) ds ≡ depths_after n.what (depths ns ds)
depths_push [] n ds = refl
depths_push (m ∷ ns) n ds = depths_push ns n (depths_after m.what ds)

-- a loop's step: the least of the first i places and of the next
pub least_next : (ps : List ℕ) (i d : ℕ) → i < length ps → least (take (i + 1) ps) ≡ lesser (least (take i ps)) (Some (get_or ps i d))
least_next ps i d below = ap least (take_more ps i d below) ∙ least_append (take i ps) (get_or ps i d ∷ [])

-- a loop's step: the greatest of the first i numbers and of the next
pub greatest_next : (ns : List ℕ) (i d : ℕ) → i < length ns → greatest (take (i + 1) ns) ≡ max (greatest (take i ns)) (get_or ns i d)
greatest_next ns i d below = ap greatest (take_more ns i d below) ∙ greatest_push (take i ns) (get_or ns i d)

-- a loop's step: the depths after the first i nodes and after the next
pub depths_next : (ns : List DraftNode) (i : ℕ) (d : DraftNode) → i < length ns
    → depths (take (i + 1) ns) [] ≡ depths_after (get_or ns i d).what (depths (take i ns) [])
depths_next ns i d below = ap (λ l. depths l []) (take_more ns i d below) ∙ depths_push (take i ns) (get_or ns i d) []

-- the greatest is the same from either end
pub greatest_reverse : (ns : List ℕ) → greatest (reverse ns) ≡ greatest ns
greatest_reverse [] = refl
greatest_reverse (n ∷ ns) = ap greatest (reverse-append (n ∷ []) ns)
    ∙ (greatest_push (reverse ns) n ∙ (ap (λ m. max m n) (greatest_reverse ns) ∙ turned (greatest ns) n)) where
      turned : (a b : ℕ) → max a b ≡ max b a
      turned a b = omega arith

-- a loop's step: the least place of the first i drafts and of the next
pub deep_next : (ds : List Draft) (i : ℕ) (d : Draft) → i < length ds
    → least (flat_map deep_places (take (i + 1) ds)) ≡ lesser (least (flat_map deep_places (take i ds))) (least (deep_places (get_or ds i d)))
deep_next ds i d below = ap (λ l. least (flat_map deep_places l)) (take_more ds i d below)
    ∙ (ap least (flat_map-append deep_places (take i ds) (get_or ds i d ∷ []))
    ∙ (least_append (flat_map deep_places (take i ds)) (flat_map deep_places (get_or ds i d ∷ []))
    ∙ ap (λ l. lesser (least (flat_map deep_places (take i ds))) (least l)) (append-nil (deep_places (get_or ds i d)))))

-- with one place there is a least
some_least : (p : ℕ) (o : Option ℕ) → lesser (Some p) o ≡ None → ⊥
some_least p None e = false≢true (sym (ap is_some e))
some_least p (Some q) e = false≢true (sym (ap is_some e))

-- no least place, no place
pub no_least : (ps : List ℕ) → least ps ≡ None → ps ≡ []
no_least [] e = refl
no_least (p ∷ ps) e = absurd (some_least p (least ps) (sym (least_cons p ps) ∙ e))
