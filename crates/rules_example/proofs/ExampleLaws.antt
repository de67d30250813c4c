-- A pair that waits, or has an answer that isn't 0, is the last of the row that is looked at.
use Rattle.std.proofs.Common.{◌≡◌, ℕ, ◌<◌, ◌+◌, false, List, [], ◌∷◌, ◌++◌, length, get_or, drop, refl, sym, ◌∙◌, ap, subst, inl, inr, append_assoc, append-nil}
use Rattle.std.proofs.Common.{drop-cons, add-one}
use Rattle.std.proofs.lemmas.List.{get_or_default}
use Rattle.std.specs.Prelude.{◌⊎◌, nat_eq}
use Rattle.linker_base.specs.Members.{Adds}
use Rattle.linker_base.proofs.MemberLaws.{same_members}
use Rattle.demand_core.specs.Computation.{World}
use Rattle.demand_core.specs.Computed.{ordered_step}
use Rattle.demand_core.specs.declared.looks.Fact.{Fact}
use Rattle.demand_core.specs.declared.step.Step.{Step}
use Rattle.demand_core.specs.declared.step.Step.TheVariants.{Done, Waits}
use Rattle.rules_example.specs.Example.{greater, first_answer}
use Rattle.rules_example.specs.Order.{in_order}
use Rattle.rules_example.specs.declared.number.Number.{Number}
use Rattle.rules_example.specs.declared.example.Pair.{Pair}

-- the items of a row that was read at its place
pub same_row : (rows given : List (List Pair)) (i : ℕ) (item items : List Pair) → items ≡ item → item ≡ get_or rows i item → i < length rows
    → rows ≡ given → items ≡ get_or given i []
same_row rows given i item items same is lt e = same ∙ is ∙ get_or_default rows i item [] lt ∙ ap (λ r. get_or r i []) e

-- the step is no 0
abbrev pub IsFinal : Step Number ℕ → Type 0
IsFinal (Done v) = nat_eq v 0 ≡ false
IsFinal (Waits ks) = Unit {0}

step_cases : (s : Step Number ℕ) → ((v : ℕ) × (s ≡ Done v)) ⊎ ((ks : List Number) × (s ≡ Waits ks))
step_cases (Done v) = inl (v, refl)
step_cases (Waits ks) = inr (ks, refl)

module _ (count : ℕ) (own : Number) (w : World Number ℕ Number (λ _. List Pair)) where
  final_looks : (p : Pair) (ps : List Pair) (s : Step Number ℕ) → s ≡ ordered_step in_order (greater count p w).step → IsFinal s
      → (first_answer count own (p ∷ ps) w).looks ≡ (greater count p w).looks
  final_looks p ps s e final = elim (step_cases (greater count p w).step) [
    | inl d ↦
        let is : s ≡ Done d.0 = e ∙ ap (ordered_step in_order) d.1 in
        let not_zero : nat_eq d.0 0 ≡ false = subst IsFinal is final in
        rw (d.1, not_zero) (append-nil (greater count p w).looks)
    | inr k ↦ rw k.1 refl
  ]

  left : (i : ℕ) (items : List Pair) (d : Pair) → i < length items → drop i items ≡ get_or items i d ∷ drop (i + 1) items
  left i items d lt = drop-cons items i d lt ∙ ap (λ j. get_or items i d ∷ drop j items) (sym (add-one i))

  pub ends_looks : (i : ℕ) (items row : List Pair) (d : Pair) (s : Step Number ℕ) (first begun old new : List (Fact Number Number))
      (f : Fact Number Number) → items ≡ row → i < length items
      → begun ≡ first ++ f ∷ [] → old ++ (first_answer count own (drop i items) w).looks ≡ begun ++ (first_answer count own items w).looks
      → new ≡ old ++ (greater count (get_or items i d) w).looks
      → s ≡ ordered_step in_order (greater count (get_or items i d) w).step → IsFinal s → Adds first new (f ∷ (first_answer count own row w).looks)
  ends_looks i items row d s first begun old new f is_row lt begins rest more e final = record {
    added = f ∷ (first_answer count own row w).looks;
    whole = more ∙ ap (λ xs. old ++ xs) (sym (final_looks (get_or items i d) (drop (i + 1) items) s e final))
        ∙ ap (λ xs. old ++ (first_answer count own xs w).looks) (sym (left i items d lt)) ∙ rest
        ∙ ap (λ xs. xs ++ (first_answer count own items w).looks) begins ∙ append_assoc first (f ∷ []) (first_answer count own items w).looks
        ∙ ap (λ xs. first ++ f ∷ (first_answer count own xs w).looks) is_row;
    same = same_members (f ∷ (first_answer count own row w).looks);
  }
