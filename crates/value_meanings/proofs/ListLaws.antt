-- Lists seen as sets: those that pass a test, and lists of lists.
use Rattle.std.proofs.Common.{◌≡◌, ◌∙◌, ◌⊎◌, ℕ, ◌+◌, ◌<◌, length, get_or, take, take-suc, add-one, append-nil, Bool, true, false, List, [], ◌∷◌, ◌++◌, refl, sym, ap, subst, inl, inr}
use Rattle.std.specs.Prelude.{Some}
use Rattle.std.specs.List.{flat_map}
use Rattle.std.proofs.lemmas.Grind.{flat_map-append}
use Rattle.linker_base.specs.Members.{IsMember, SameMembers, IsEachOnce}
use Rattle.linker_base.proofs.MemberLaws.{member_left, member_right, member_cases}
use Rattle.element_store.specs.Numbers.{chosen, those_where}
use Rattle.value_model.specs.Meant.{only}

chosen_append : {A : Type 0} (b : Bool) (x : A) (xs ys : List A) → chosen b x (xs ++ ys) ≡ chosen b x xs ++ ys
chosen_append true x xs ys = refl
chosen_append false x xs ys = refl

chosen_keeps : {A : Type 0} (b : Bool) (x y : A) (xs : List A) → IsMember xs y → IsMember (chosen b x xs) y
chosen_keeps true x y xs m = inr m
chosen_keeps false x y xs m = m

module _ {A : Type 0} (test : A → Bool) where
  those_append : (xs ys : List A) → those_where test (xs ++ ys) ≡ those_where test xs ++ those_where test ys
  those_append [] ys = refl
  those_append (x ∷ xs) ys =
      ap (chosen (test x) x) (those_append xs ys) ∙ chosen_append (test x) x (those_where test xs) (those_where test ys)

  -- those of a list of lists
  pub those_flat : {B : Type 0} (g : B → List A) (hs : List B) → those_where test (flat_map g hs) ≡ flat_map (λ h. those_where test (g h)) hs
  those_flat g [] = refl
  those_flat g (h ∷ hs) = those_append (g h) (flat_map g hs) ∙ ap (λ ys. those_where test (g h) ++ ys) (those_flat g hs)

  chosen_within : (b : Bool) (x y : A) (xs : List A) → test x ≡ b → IsMember (chosen b x xs) y → ((x ≡ y) × (test x ≡ true)) ⊎ IsMember xs y
  chosen_within true x y xs e (inl is) = inl (is, e)
  chosen_within true x y xs e (inr m) = inr m
  chosen_within false x y xs e m = inr m

  -- a member of those passes the test
  pub those_member : (xs : List A) (y : A) → IsMember (those_where test xs) y → IsMember xs y × (test y ≡ true)
  those_member [] y m = absurd m
  those_member (x ∷ xs) y m = elim (chosen_within (test x) x y (those_where test xs) refl m) [
    | inl here ↦ (inl here.0, subst (λ z. test z ≡ true) here.0 here.1)
    | inr later ↦ let more = those_member xs y later in (inr more.0, more.1)
  ]

  -- and what passes it is among them
  pub member_those : (xs : List A) (y : A) → IsMember xs y → test y ≡ true → IsMember (those_where test xs) y
  member_those [] y m e = absurd m
  member_those (x ∷ xs) y (inl is) e = subst (λ b. IsMember (chosen b x (those_where test xs)) y) (sym (ap test is ∙ e)) (inl is)
  member_those (x ∷ xs) y (inr m) e = chosen_keeps (test x) x y (those_where test xs) (member_those xs y m e)

  chosen_once : (b : Bool) (x : A) (xs : List A) → (IsMember xs x → ⊥) → IsEachOnce xs → IsEachOnce (chosen b x xs)
  chosen_once true x xs off h = (off, h)
  chosen_once false x xs off h = h

  pub those_once : (xs : List A) → IsEachOnce xs → IsEachOnce (those_where test xs)
  those_once [] h = h
  those_once (x ∷ xs) h = chosen_once (test x) x (those_where test xs) (λ m. h.0 (those_member xs x m).0) (those_once xs h.1)

  pub same_those : (xs ys : List A) → SameMembers xs ys → SameMembers (those_where test xs) (those_where test ys)
  same_those xs ys h = record {
    left = λ x m. let at = those_member xs x m in member_those ys x (h.left x at.0) at.1;
    right = λ x m. let at = those_member ys x m in member_those xs x (h.right x at.0) at.1;
  }

-- two tests that say the same
pub those_alike : {A : Type 0} (f g : A → Bool) → ((x : A) → f x ≡ g x) → (xs : List A) → those_where f xs ≡ those_where g xs
those_alike f g h [] = refl
those_alike f g h (x ∷ xs) = ap (λ b. chosen b x (those_where f xs)) (h x) ∙ ap (chosen (g x) x) (those_alike f g h xs)

module _ {A B : Type 0} (g : B → List A) where
  -- a member of one of the lists
  pub flat_member : (hs : List B) (x : A) → IsMember (flat_map g hs) x → (h : B) × IsMember hs h × IsMember (g h) x
  flat_member [] x m = absurd m
  flat_member (h ∷ hs) x m = elim (member_cases (g h) (flat_map g hs) x m) [
    | inl here ↦ (h, inl refl, here)
    | inr later ↦ let more = flat_member hs x later in (more.0, inr more.1, more.2)
  ]

  pub member_flat : (hs : List B) (h : B) (x : A) → IsMember hs h → IsMember (g h) x → IsMember (flat_map g hs) x
  member_flat [] h x m i = absurd m
  member_flat (k ∷ hs) h x (inl is) i = member_left (g k) (flat_map g hs) x (subst (λ z. IsMember (g z) x) (sym is) i)
  member_flat (k ∷ hs) h x (inr m) i = member_right (g k) (flat_map g hs) x (member_flat hs h x m i)

  pub same_flat : (hs ks : List B) → SameMembers hs ks → SameMembers (flat_map g hs) (flat_map g ks)
  same_flat hs ks s = record {
    left = λ x m. let at = flat_member hs x m in member_flat ks at.0 x (s.left at.0 at.1) at.2;
    right = λ x m. let at = flat_member ks x m in member_flat hs at.0 x (s.right at.0 at.1) at.2;
  }

-- one more list
pub flat_next : {A B : Type 0} (g : B → List A) (hs : List B) (i : ℕ) (d : B) → i < length hs
    → flat_map g (take i hs) ++ g (get_or hs i d) ≡ flat_map g (take (i + 1) hs)
flat_next g hs i d lt =
    ap (λ xs. flat_map g (take i hs) ++ xs) (sym (append-nil (g (get_or hs i d))))
    ∙ sym (flat_map-append g (take i hs) (get_or hs i d ∷ [])) ∙ ap (flat_map g) (sym (take-suc hs i d lt))
    ∙ ap (λ j. flat_map g (take j hs)) (sym (add-one i))

-- the only one of a list with each member once hangs on its members alone
pub only_same : {A : Type 0} (xs ys : List A) → SameMembers xs ys → IsEachOnce xs → IsEachOnce ys → only xs ≡ only ys
only_same [] [] s u v = refl
only_same [] (y ∷ ys) s u v = absurd (s.right y (inl refl))
only_same (x ∷ xs) [] s u v = absurd (s.left x (inl refl))
only_same (x ∷ []) (y ∷ []) s u v = elim (s.left x (inl refl)) [ inl is ↦ ap Some (sym is) | inr none ↦ absurd none ]
only_same (x ∷ []) (y ∷ z ∷ ys) s u v = elim (s.right y (inl refl)) [
  | inl a ↦ elim (s.right z (inr (inl refl))) [ inl b ↦ absurd (v.0 (inl (sym b ∙ a))) | inr none ↦ absurd none ]
  | inr none ↦ absurd none
]
only_same (x ∷ w ∷ xs) (y ∷ []) s u v = elim (s.left x (inl refl)) [
  | inl a ↦ elim (s.left w (inr (inl refl))) [ inl b ↦ absurd (u.0 (inl (sym b ∙ a))) | inr none ↦ absurd none ]
  | inr none ↦ absurd none
]
only_same (x ∷ w ∷ xs) (y ∷ z ∷ ys) s u v = refl
