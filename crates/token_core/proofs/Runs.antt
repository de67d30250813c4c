-- Fronts of a text in one form: how far the scanning goes, against the forms of pieces.
use Rattle.std.proofs.Common.{◌≡◌, ℕ, suc, ◌≤◌, Bool, true, false, List, [], ◌∷◌, ◌++◌, length, take, refl, ap, subst, inl, inr, arith, ◌⊎◌}
use Rattle.std.specs.Prelude.{Option, Some, None, option_map, ◌&&◌, ◌==◌}
use Rattle.std.specs.List.{prefix_len}
use Rattle.std.proofs.lemmas.Bool.{eqb-true, eq-eqb}
use Rattle.std.proofs.lemmas.Bool.Decides.{nat_tests}
use Rattle.std.proofs.Math.Numerals.{one-add}
use Rattle.linker_base.proofs.Cases.{bool_cases}
use Rattle.token_core.specs.Bytes.{IsRun, BeginsOther, is_plain, is_escape}
use Rattle.token_core.specs.Pieces.{IsUpToClose, IsUpToQuote}
use Rattle.token_core.specs.Scan.{close_end, quote_end, begins}

-- a run at the front is no longer than the longest
pub run_le : (p : ℕ → Bool) (bs rest : List ℕ) → IsRun p bs → length bs ≤ prefix_len p (bs ++ rest)
run_le p [] rest r = omega arith
run_le p (b ∷ bs) rest r =
    let h = run_le p bs rest r.1 in
    rw r.0 (omega (arith, h))

-- the longest front that passes is a run
pub run_of : (p : ℕ → Bool) (text : List ℕ) → IsRun p (take (prefix_len p text) text)
run_of p [] = tt
run_of p (c ∷ cs) = go (run_of p cs) (p c) refl where
  go : IsRun p (take (prefix_len p cs) cs) → (x : Bool) → p c ≡ x → IsRun p (take (prefix_len p (c ∷ cs)) (c ∷ cs))
  go h true e = rw (e, one-add) (e, h)
  go h false e = rw e tt

-- bytes that begin with another one do not begin with this one
pub begins_other : (b : ℕ) (bs : List ℕ) → BeginsOther b bs → begins b bs ≡ false
begins_other b [] o = refl
begins_other b (c ∷ bs) o = grind (arith, nat_tests)

-- and the other way round
pub other_begins : (b : ℕ) (bs : List ℕ) → begins b bs ≡ false → BeginsOther b bs
other_begins b [] o = tt
other_begins b (c ∷ bs) o = λ e. grind (arith, nat_tests)

-- a front that ends with the first `*/` is where the scanning ends
pub close_at : (starred : Bool) (bs rest : List ℕ) → IsUpToClose bs → (starred ≡ true → BeginsOther 47 bs) → close_end starred (bs ++ rest) ≡ Some (length bs)
close_at starred [] rest h o = absurd h
close_at starred (b ∷ bs) rest h o =
    let past : (starred && (b == 47)) ≡ false = not_closed starred b o in
    rw past (elim h [
      | inl e ↦ rw (e.0, e.1) refl
      | inr e ↦ rw (close_at (b == 42) bs rest e.1 (λ s. e.0 (eqb-true b 42 s))) refl
    ])
  where
    not_closed : (s : Bool) (b : ℕ) → (s ≡ true → BeginsOther 47 (b ∷ bs)) → (s && (b == 47)) ≡ false
    not_closed false b o = refl
    not_closed true b o = begins_other 47 (b ∷ []) (o refl)

-- the bytes end with the first `*/` in them and in what stands before
abbrev pub IsClosedAfter : Bool → List ℕ → Type 0
IsClosedAfter false bs = IsUpToClose bs
IsClosedAfter true bs = (bs ≡ 47 ∷ []) ⊎ (BeginsOther 47 bs × IsUpToClose bs)

-- what the scanning adds is one byte of each byte that it passes
pub one_more : (rest : Option ℕ) (n : ℕ) → option_map suc rest ≡ Some n → (m : ℕ) × (rest ≡ Some m) × (n ≡ suc m)
one_more None n e = absurd (cc)
one_more (Some m) n e = (m, refl, cc)

-- the scanning ends at the first `*/`
pub close_right : (starred : Bool) (text : List ℕ) (n : ℕ) → close_end starred text ≡ Some n → (n ≤ length text) × IsClosedAfter starred (take n text)
close_right starred [] n e = absurd (cc)
close_right starred (b ∷ bs) n e = elim (bool_cases (starred && (b == 47))) [
  | inl hit ↦ closed starred b bs n hit (rw hit at e)
  | inr miss ↦
      let m = one_more (close_end (b == 42) bs) n (rw miss at e) in
      let h = close_right (b == 42) bs m.0 m.1 in
      rw m.2 (omega (arith, h.0), before starred b (take m.0 bs) miss (after (b == 42) b (take m.0 bs) refl h.1))
] where
  closed : (starred : Bool) (c : ℕ) (cs : List ℕ) (n : ℕ) → (starred && (c == 47)) ≡ true → Some 1 ≡ Some n → (n ≤ length (c ∷ cs)) × IsClosedAfter starred (take n (c ∷ cs))
  closed false c cs n hit e = absurd (cc)
  closed true c cs n hit e =
      let one : 1 ≡ n = cc in
      subst (λ k. (k ≤ length (c ∷ cs)) × IsClosedAfter true (take k (c ∷ cs))) one (omega arith, inl (ap (λ x. x ∷ []) (eqb-true c 47 hit)))

  before : (starred : Bool) (c : ℕ) (cs : List ℕ) → ((starred && (c == 47)) ≡ false) → IsUpToClose (c ∷ cs) → IsClosedAfter starred (c ∷ cs)
  before false c cs miss h = h
  before true c cs miss h = inr (other_begins 47 (c ∷ []) miss, h)

  after : (x : Bool) (c : ℕ) (cs : List ℕ) → (c == 42) ≡ x → IsClosedAfter x cs → IsUpToClose (c ∷ cs)
  after true c cs s (inl h) = inl (eqb-true c 42 s, h)
  after true c cs s (inr h) = inr (λ _. h.0, h.1)
  after false c cs s h = inr (λ same. absurd (other_begins 42 (c ∷ []) s same), h)

-- a front that ends with the closing quote is where the scanning ends
pub quote_at : (q : ℕ) (escaped : Bool) (bs rest : List ℕ) → (q ≡ 92 → ⊥) → IsUpToQuote q escaped bs → quote_end q escaped (bs ++ rest) ≡ Some (length bs)
quote_at q escaped [] rest o h = absurd h
quote_at q true (b ∷ bs) rest o h = rw (h.0, quote_at q false bs rest o h.1) refl
quote_at q false (b ∷ bs) rest o (inl h) =
    let same : (b == q) ≡ true = eq-eqb b q h.0 in
    rw (same, h.1) refl
quote_at q false (b ∷ bs) rest o (inr (inl h)) =
    let other : (b == q) ≡ false = grind (arith, nat_tests) in
    let slash : (b == 92) ≡ true = eq-eqb b 92 h.0 in
    rw (other, slash, quote_at q true bs rest o h.1) refl
quote_at q false (b ∷ bs) rest o (inr (inr h)) =
    let other : (b == q) ≡ false = plain_other q b h.0 in
    let slash : (b == 92) ≡ false = plain_slash q b h.0 in
    rw (h.0, other, slash, quote_at q false bs rest o h.1) refl
  where
    plain_other : (q b : ℕ) → is_plain q b ≡ true → (b == q) ≡ false
    plain_other q b h = grind (arith, nat_tests)

    plain_slash : (q b : ℕ) → is_plain q b ≡ true → (b == 92) ≡ false
    plain_slash q b h = grind (arith, nat_tests)

-- the scanning ends at the closing quote
pub quote_right : (q : ℕ) (escaped : Bool) (text : List ℕ) (n : ℕ) → quote_end q escaped text ≡ Some n → (n ≤ length text) × IsUpToQuote q escaped (take n text)
quote_right q escaped [] n e = absurd (cc)
quote_right q true (b ∷ bs) n e = elim (bool_cases (is_escape b)) [
  | inl hit ↦
      let m = one_more (quote_end q false bs) n (rw hit at e) in
      let h = quote_right q false bs m.0 m.1 in
      rw m.2 (omega (arith, h.0), (hit, h.1))
  | inr miss ↦ let f : None ≡ Some n = rw miss at e in absurd (cc)
]
quote_right q false (b ∷ bs) n e = elim (bool_cases (b == q)) [
  | inl hit ↦
      let f : Some 1 ≡ Some n = rw hit at e in
      let one : 1 ≡ n = cc in
      subst (λ k. (k ≤ length (b ∷ bs)) × IsUpToQuote q false (take k (b ∷ bs))) one (omega arith, inl (eqb-true b q hit, refl))
  | inr other ↦ elim (bool_cases (b == 92)) [
    | inl slash ↦
        let m = one_more (quote_end q true bs) n (rw (other, slash) at e) in
        let h = quote_right q true bs m.0 m.1 in
        rw m.2 (omega (arith, h.0), inr (inl (eqb-true b 92 slash, h.1)))
    | inr back ↦ elim (bool_cases (is_plain q b)) [
      | inl plain ↦
          let m = one_more (quote_end q false bs) n (rw (plain, other, back) at e) in
          let h = quote_right q false bs m.0 m.1 in
          rw m.2 (omega (arith, h.0), inr (inr (plain, h.1)))
      | inr bad ↦ let f : None ≡ Some n = rw (bad, other, back) at e in absurd (cc)
    ]
  ]
]
