-- The least of hits hangs on their members alone: a copy of what picking rests on.
use Rattle.std.proofs.Common.{
  ◌≡◌,
  ◌∙◌,
  ℕ,
  ◌+◌,
  ◌<◌,
  Bool,
  true,
  false,
  cond,
  not,
  List,
  [],
  ◌∷◌,
  map,
  length,
  drop,
  get_or,
  refl,
  sym,
  ap,
  subst,
  inl,
  inr,
  arith,
}
use Rattle.std.specs.Prelude.{◌⊎◌, zero, suc, slice_get, nat_lt, Option, None, Some, IfSome}
use Rattle.std.specs.Option.{option_map}
use Rattle.std.proofs.lemmas.Bool.Decides.{nat_tests}
use Rattle.linker_base.specs.Members.{IsMember, SameMembers}
use Rattle.linker_base.proofs.Cases.{bool_cases, some_same}
use Rattle.element_store.specs.declared.numbers.MemberNo.{MemberNo}
use Rattle.element_store.specs.declared.models.StoredFile.{StoredFile}
use Rattle.element_store.specs.Stored.{AreFiles, stands_before, rank_of}
use Rattle.link_model.specs.declared.keys.LinkKey.{LinkKey}
use Rattle.link_model.specs.declared.keys.Hit.{Hit}
use Rattle.link_model.specs.Lexical.{Ranked, is_before, lesser, least_of}
use Rattle.link_model.specs.Linking.{ComesBefore}
use Rattle.link_model.proofs.OrderLemmas.{one_way, before_those_behind}
use Rattle.link_model.proofs.RuleLaws.{file_cases}
use Rattle.link_tiers.specs.Picks.{ranked, comes_before}
use Rattle.link_tiers.proofs.PickLaws.{HasFile, ranked_item, before_members, comes_same, comes_other, tells, tells_not}
use Rattle.link_waits.specs.Ranks.{AreRanksOf}
use Rattle.link_waits.proofs.RankLaws.{rank_tells}
use Rattle.link_asking.proofs.OutcomeLaws.{drop_here}

-- a member's place as that of a reference
abbrev key_at : MemberNo → LinkKey
key_at m = record { 0 = record { file = m.file; index = m.index } }

module _ (files : List StoredFile) (are : AreFiles files) where
  -- members of which none comes before the other are one
  tie : (m n : MemberNo) → HasFile files m → HasFile files n → comes_before files m n ≡ false → comes_before files n m ≡ false → m ≡ n
  tie m n p q a b = elim (tells_not files are m n p q a) [
    | inl e ↦ sym e
    | inr c ↦ elim (tells_not files are n m q p b) [ inl e ↦ e | inr d ↦ absurd (one_way files (key_at m) (key_at n) d c) ]
  ]

  not_back : (m n : MemberNo) → HasFile files m → HasFile files n → comes_before files m n ≡ true → comes_before files n m ≡ false
  not_back m n p q a = elim (bool_cases (comes_before files n m)) [
    | inl b ↦ absurd (one_way files (key_at m) (key_at n) (tells files are m n p q a) (tells files are n m q p b))
    | inr b ↦ b
  ]

  not_through : (k m n : MemberNo) → HasFile files k → HasFile files m → HasFile files n → comes_before files k m ≡ false → comes_before files m n ≡ false
      → comes_before files k n ≡ false
  not_through k m n o p q a b = elim (bool_cases (comes_before files k n)) [
    | inl c ↦
        let first = tells files are k n o q c in
        absurd (elim (tells_not files are k m o p a) [
          | inl e ↦ (let bad : true ≡ false = sym c ∙ subst (λ z. comes_before files z n ≡ false) e b in cc)
          | inr d ↦ elim (tells_not files are m n p q b) [
            | inl e ↦ one_way files (key_at k) (key_at m) (subst (λ z. ComesBefore files (key_at k) (key_at z)) e first) d
            | inr f ↦ one_way files (key_at k) (key_at n) first (before_those_behind files (key_at n) (key_at m) (key_at k) f d)
          ]
        ])
    | inr c ↦ c
  ]

  not_itself : (m : MemberNo) → HasFile files m → comes_before files m m ≡ false
  not_itself m p = elim (bool_cases (comes_before files m m)) [
    | inl b ↦ absurd (one_way files (key_at m) (key_at m) (tells files are m m p p b) (tells files are m m p p b))
    | inr b ↦ b
  ]

  abbrev pub Stand : List Hit → Type 0
  Stand hs = (h : Hit) → IsMember hs h → HasFile files h.member

  -- the least of hits: one of them, and none comes before it
  pub record IsLeast (hs : List Hit) (a : Ranked Hit) : Type 0 where
    pub hit : Hit
    pub among : IsMember hs hit
    pub is : a ≡ ranked files hit
    pub least : (k : Hit) → IsMember hs k → comes_before files k.member hit.member ≡ false

  abbrev pub least : List Hit → Option (Ranked Hit)
  least hs = least_of (map (ranked files) hs)

  pub least_none : (hs : List Hit) → least hs ≡ None → hs ≡ []
  least_none [] e = refl
  least_none (h ∷ hs) e = absurd (never (ranked files h) (least hs) e)
    where
      never : (a : Ranked Hit) (o : Option (Ranked Hit)) → lesser a o ≡ None → ⊥
      never a None e = (let none : ⊥ = cc in none)
      never a (Some b) e = elim (bool_cases (is_before b a)) [
        | inl t ↦ (let bad : Some b ≡ None = rw t at e in cc)
        | inr t ↦ (let bad : Some a ≡ None = rw t at e in cc)
      ]

  pub least_is : (hs : List Hit) → Stand hs → (a : Ranked Hit) → least hs ≡ Some a → IsLeast hs a
  least_is [] p a e = cc
  least_is (h ∷ hs) p a e = by (λ b some. least_is hs (λ k m. p k (inr m)) b some) (least hs) refl e
    where
      by : ((b : Ranked Hit) → least hs ≡ Some b → IsLeast hs b) → (o : Option (Ranked Hit)) → least hs ≡ o → lesser (ranked files h) o ≡ Some a → IsLeast
          (h ∷ hs) a
      by more None none e = record {
        hit = h;
        among = inl refl;
        is = sym (some_same (ranked files h) a e);
        least = λ k. elim [
          | inl q ↦ subst (λ z. comes_before files z.member h.member ≡ false) q (not_itself h.member (p h (inl refl)))
          | inr m ↦ absurd (subst (λ ks. IsMember ks k) (least_none hs none) m)
        ];
      }
      by more (Some b) some e =
          let rest = more b some in
          elim (bool_cases (is_before b (ranked files h))) [
            | inl t ↦
                let is : Some b ≡ Some a = rw t at e in
                let first : comes_before files rest.hit.member h.member ≡ true =
                sym (before_members files rest.hit h) ∙ subst (λ z. is_before z (ranked files h) ≡ true) rest.is t in
                record {
                  hit = rest.hit;
                  among = inr rest.among;
                  is = sym (some_same b a is) ∙ rest.is;
                  least = λ k. elim [
                    | inl q ↦ subst (λ z. comes_before files z.member rest.hit.member ≡ false) q
                        (not_back rest.hit.member h.member (p rest.hit (inr rest.among)) (p h (inl refl)) first)
                    | inr m ↦ rest.least k m
                  ];
                }
            | inr t ↦
                let is : Some (ranked files h) ≡ Some a = rw t at e in
                let first : comes_before files rest.hit.member h.member ≡ false =
                sym (before_members files rest.hit h) ∙ subst (λ z. is_before z (ranked files h) ≡ false) rest.is t in
                record {
                  hit = h;
                  among = inl refl;
                  is = sym (some_same (ranked files h) a is);
                  least = λ k. elim [
                    | inl q ↦ subst (λ z. comes_before files z.member h.member ≡ false) q (not_itself h.member (p h (inl refl)))
                    | inr m ↦ not_through k.member rest.hit.member h.member (p k (inr m)) (p rest.hit (inr rest.among)) (p h (inl refl)) (rest.least k m) first
                  ];
                }
          ]

  -- the least of lists with the same members are of one member
  pub least_same : (xs ys : List Hit) → SameMembers xs ys → Stand xs → (a b : Ranked Hit) (p : IsLeast xs a) (q : IsLeast ys b) → p.hit.member ≡ q.hit.member
  least_same xs ys s t a b p q = tie p.hit.member q.hit.member (t p.hit p.among) (t q.hit (s.right q.hit q.among)) (q.least p.hit (s.left p.hit p.among))
      (p.least q.hit (s.right q.hit q.among))

  pub member_of : (hs : List Hit) (a : Ranked Hit) (p : IsLeast hs a) → a.item.member ≡ p.hit.member
  member_of hs a p = ap (λ z. z.item.member) p.is ∙ ap (λ z. z.member) (ranked_item (slice_get files p.hit.member.file.0) p.hit.member.index p.hit)

  -- RANKS TELL the order of members
  pub ranks_same : (m n : MemberNo) → HasFile files m → HasFile files n → m.file ≡ n.file → nat_lt m.index n.index ≡ comes_before files m n
  ranks_same m n p q e = sym (comes_same files are m n p q e)

  pub ranks_other : (ranks : List ℕ) → AreRanksOf files ranks → (m n : MemberNo) → HasFile files m → HasFile files n → (m.file.0 ≡ n.file.0 → ⊥)
      → nat_lt (get_or ranks m.file.0 0) (get_or ranks n.file.0 0) ≡ comes_before files m n
  ranks_other ranks of m n p q apart =
      (λ i. nat_lt (of.rank m.file.0 p.0 p.1 i) (of.rank n.file.0 q.0 q.1 i))
      ∙ (sym (rank_tells files m.file.0 n.file.0 p.0 q.0 are.names p.1 q.1 apart) ∙ sym (comes_other files are m n p.0 q.0 p.1 q.1 apart))

-- the least from one hit on
pub least_back : (files : List StoredFile) (hs : List Hit) (i j : ℕ) (h d : Hit) (o : Option (Ranked Hit)) → i < length hs → j ≡ i + 1 → h ≡ get_or hs i d
    → o ≡ least_of (map (ranked files) (drop j hs)) → lesser (ranked files h) o ≡ least_of (map (ranked files) (drop i hs))
least_back files hs i j h d o lt up is before =
    ap (lesser (ranked files h)) (before ∙ ap (λ k. least_of (map (ranked files) (drop k hs))) up)
    ∙ sym (ap (λ zs. least_of (map (ranked files) zs)) (drop_here hs i h d lt is))

-- the lesser of two members is one
pub either_member : (hs : List Hit) (hit r : Hit) (o : Option Hit) → IsMember hs hit → IfSome o (IsMember hs) → (r ≡ hit) ⊎ (o ≡ Some r) → IsMember hs r
either_member hs hit r o here there (inl e) = subst (IsMember hs) (sym e) here
either_member hs hit r o here there (inr e) = subst (λ z. IfSome z (IsMember hs)) e there
