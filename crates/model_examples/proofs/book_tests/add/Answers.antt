-- A name that differs from that of each file is new.
use Rattle.std.proofs.Common.{◌≡◌, ℕ, ◌<◌, ◌≤◌, zero, suc, true, false, List, [], ◌∷◌, length, map, nat_eq, arith, inl, inr, refl, sym, subst, ◌∙◌, below_more}
use Rattle.std.specs.Prelude.{Some, slice_get}
use Rattle.std.specs.Cmp.Lexicographic.{pointwise}
use Rattle.std.proofs.lemmas.Cmp.{nat_list_eq_equiv}
use Rattle.linker_base.specs.Members.{IsMember}
use Rattle.element_store.specs.declared.models.StoredFile.{StoredFile}
use Rattle.model_examples.proofs.book_tests.add.Goals as goal

absent : (files : List StoredFile) (name : List ℕ) (n : ℕ)
    → ((i : ℕ) → i < n → (x : StoredFile) → slice_get files i ≡ Some x → x.name ≡ name → ⊥) → length files ≤ n → IsMember (map (λ x. x.name) files) name → ⊥
absent [] name n free le m = m
absent (f ∷ files) name zero free le m = absurd (omega arith)
absent (f ∷ files) name (suc n) free le (inl e) = free zero (omega arith) f refl e
absent (f ∷ files) name (suc n) free le (inr m) = absent files name n (λ i lt. free (suc i) (omega arith)) (omega arith) m

pub loop-number-preserved : goal.loop-number-preserved
loop-number-preserved c = below_more _ _ c.loop-number.invariant (λ x is e.
    let same : c.bytes.result.now ≡ c.args.name.now = c.bytes.ensures ∙ c.name.ensures x is ∙ e in
    let itself : pointwise nat_eq c.args.name.now c.args.name.now ≡ true = nat_list_eq_equiv.refl c.args.name.now in
    let differs : List ℕ → Type 0 = λ name. pointwise nat_eq name c.args.name.now ≡ false in
    let other : pointwise nat_eq c.args.name.now c.args.name.now ≡ false = subst differs same (sym c.if-eq.ensures) in
    cc)

pub add-requires-clause-fresh : goal.add-requires-clause-fresh
add-requires-clause-fresh c =
    rw (c.of.ensures, c.in-Ok.ensures.items)
    (absent c.args.models.now c.args.name.now c.loop-number.number c.loop-number.invariant (omega arith))
