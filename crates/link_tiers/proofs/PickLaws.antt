-- What is picked of hits hangs on their members alone.
use Rattle.std.proofs.Common.{◌≡◌, ◌∙◌, ℕ, ◌+◌, ◌<◌, Bool, true, false, cond, not, List, [], ◌∷◌, ◌++◌, map, length, drop, get_or, refl, sym, ap, subst, inl, inr, arith, add-one, append-nil}
use Rattle.std.specs.Prelude.{◌⊎◌, zero, suc, nat_eq, nat_lt, slice_get, Option, None, Some, IfSome}
use Rattle.std.specs.Option.{option_map}
use Rattle.std.specs.Cmp.Lexicographic.{pointwise}
use Rattle.std.proofs.lemmas.Bool.Decides.{nat_tests}
use Rattle.linker_base.specs.Members.{IsMember, SameMembers}
use Rattle.linker_base.proofs.Cases.{bool_cases, option_cases, some_same}
use Rattle.linker_base.proofs.MemberLaws.{same_members}
use Rattle.demand_core.specs.Computation.{done, look, then_step, ◌>>=◌, joined, join_step}
use Rattle.demand_core.specs.Computed.{world}
use Rattle.demand_core.specs.declared.looks.Fact.{Fact}
use Rattle.demand_core.specs.declared.looks.Fact.TheVariants.{Outer}
use Rattle.demand_core.specs.declared.step.Step.{Step}
use Rattle.demand_core.specs.declared.step.Step.TheVariants.{Done, Waits}
use Rattle.element_store.specs.declared.numbers.ElementNo.{ElementNo}
use Rattle.element_store.specs.declared.numbers.MemberNo.{MemberNo}
use Rattle.element_store.specs.declared.outcome.Outcome.{Outcome}
use Rattle.element_store.specs.declared.models.StoredFile.{StoredFile}
use Rattle.element_store.specs.BaseRules.{model_of}
use Rattle.element_store.specs.Model.{Data}
use Rattle.element_store.specs.Numbers.{chosen, those_where}
use Rattle.element_store.specs.Stored.{AreFiles, in_order, stands_before}
use Rattle.element_store.proofs.RankLaws.{name_once, before_itself, before_through, before_other}
use Rattle.link_model.specs.declared.keys.LinkKey.{LinkKey}
use Rattle.link_model.specs.declared.keys.LinkFact.{LinkFact}
use Rattle.link_model.specs.declared.keys.LinkFact.TheVariants.{File}
use Rattle.link_model.specs.declared.keys.Hit.{Hit}
use Rattle.link_model.specs.Keys.{same_element, element_exact, element_is_exact, name_exact}
use Rattle.link_model.specs.Lexical.{Ranked, ranked_by, is_before, lesser, least_of, ranked_hits, Picked, picked_with, picked_from, pick}
use Rattle.link_model.specs.Lexical.Picked.{Nothing, One, Several}
use Rattle.link_model.specs.Linking.{MemberStands, ComesBefore}
use Rattle.link_model.specs.Readers.{Lookup, LinkWorld}
use Rattle.link_model.proofs.EditLaws.{among_where}
use Rattle.link_model.proofs.OrderLemmas.{one_way, before_those_behind}
use Rattle.link_model.proofs.RuleLaws.{file_cases, below}
use Rattle.link_walk.specs.Calls.{reading}
use Rattle.link_walk.proofs.MarkLaws.{get_among}
use Rattle.std.proofs.lemmas.Option.{slice_get_within}
use Rattle.link_walk.specs.Noted.{Noted, Asks, noted}
use Rattle.link_tiers.specs.Answered.{IsAnswer, Answered, Agrees}
use Rattle.link_tiers.specs.Tiers.{AreHits}
use Rattle.link_tiers.specs.Picks.{rank_of, ranked, comes_before, is_other, least_ranked, lesser_with, files_looked}
use Rattle.link_tiers.proofs.AnsweredLaws.{facts_noted, same_equal, same_back}

-- a ranked hit is the hit
pub ranked_item : (s : Option StoredFile) (n : ℕ) (h : Hit) → (ranked_by s n h).item ≡ h
ranked_item None n h = refl
ranked_item (Some s) n h = refl

-- what is ranked plays no part
before_any : {A B C D : Type 0} (s t : Option StoredFile) (i j : ℕ) (a : A) (b : B) (c : C) (d : D)
    → is_before (ranked_by s i a) (ranked_by t j b) ≡ is_before (ranked_by s i c) (ranked_by t j d)
before_any None None i j a b c d = refl
before_any None (Some t) i j a b c d = refl
before_any (Some s) None i j a b c d = refl
before_any (Some s) (Some t) i j a b c d = refl

pub before_members : (files : List StoredFile) (h k : Hit) → is_before (ranked files h) (ranked files k) ≡ comes_before files h.member k.member
before_members files h k = before_any (slice_get files h.member.file.0) (slice_get files k.member.file.0) h.member.index k.member.index h k h.member k.member

-- WHAT IS PICKED of a list
abbrev pub chosen_of : List StoredFile → List Hit → Picked
chosen_of files hs = picked_from (map (ranked files) hs) (least_of (map (ranked files) hs))

where_all : {A : Type 0} (xs : List A) → those_where (λ (x : A). true) xs ≡ xs
where_all [] = refl
where_all (x ∷ xs) = ap (λ zs. x ∷ zs) (where_all xs)

pub least_any : (files : List StoredFile) (hs : List Hit) → least_ranked files None hs ≡ least_of (map (ranked files) hs)
least_any files hs = ap least_of (where_all (map (ranked files) hs))

-- THE LEAST, from the last hit on
least_step : (files : List StoredFile) (without : Option ElementNo) (h : Hit) (hs : List Hit)
    → least_ranked files without (h ∷ hs) ≡ lesser_with files without h (least_ranked files without hs)
least_step files without h hs = by (is_other without (ranked files h).item)
    ∙ ap (λ b. cond b (lesser (ranked files h) (least_ranked files without hs)) (least_ranked files without hs)) (ap (is_other without) (ranked_item
    (slice_get files h.member.file.0) h.member.index h))
  where
    by : (b : Bool) → least_of (chosen b (ranked files h) (those_where (λ r. is_other without r.item) (map (ranked files) hs)))
        ≡ cond b (lesser (ranked files h) (least_ranked files without hs)) (least_ranked files without hs)
    by true = refl
    by false = refl

pub least_next : (files : List StoredFile) (without : Option ElementNo) (hs : List Hit) (i j : ℕ) (h e : Hit) (old : Option (Ranked Hit)) → i < length hs
    → j ≡ suc i → h ≡ get_or hs i e
    → old ≡ least_ranked files without (drop j hs) → lesser_with files without h old ≡ least_ranked files without (drop i hs)
least_next files without hs i j h e old lt up is before =
    ap (lesser_with files without h) (before ∙ ap (λ k. least_ranked files without (drop k hs)) up) ∙ sym (ap (least_ranked files without)
    (drop_here hs i h e lt is) ∙ least_step files without h (drop (suc i) hs))
  where
    drop_here : (xs : List Hit) (i : ℕ) (h e : Hit) → i < length xs → h ≡ get_or xs i e → drop i xs ≡ h ∷ drop (suc i) xs
    drop_here [] i h e lt is = absurd (omega arith)
    drop_here (x ∷ xs) zero h e lt is = ap (λ z. z ∷ xs) (sym is)
    drop_here (x ∷ xs) (suc i) h e lt is = drop_here xs i h e (omega arith) is

-- a file stands at a member that stands
pub file_at : (files : List StoredFile) (m : MemberNo) → MemberStands files m → (s : StoredFile) × (slice_get files m.file.0 ≡ Some s)
file_at files m (d, of, lt) = elim (file_cases files m.file.0) [
  | inl none ↦ let bad : None ≡ Some d = sym (ap (λ (o : Option StoredFile). option_model o) none) ∙ of in cc
  | inr there ↦ there
]
  where
    option_model : Option StoredFile → Option Data
    option_model None = None
    option_model (Some s) = s.model

-- so its number is one of a file's
pub within_files : (files : List StoredFile) (m : MemberNo) → MemberStands files m → m.file.0 < length files
within_files files m p = let s = file_at files m p in slice_get_within files m.file.0 s.0 s.1

pub hit_within : (files : List StoredFile) (hs : List Hit) (i : ℕ) (e : Hit) → AreHits files hs → i < length hs → (get_or hs i e).member.file.0 < length files
hit_within files hs i e are lt = within_files files (get_or hs i e).member (are (get_or hs i e) (get_among hs i e lt)).0

pub some_within : (files : List StoredFile) (hs : List Hit) (o : Option Hit) → AreHits files hs → IfSome o (IsMember hs) → IfSome o
    (λ h. h.member.file.0 < length files)
some_within files hs None are m = tt
some_within files hs (Some h) are m = within_files files h.member (are h m).0

pub either_among : (hs : List Hit) (hit : Hit) (least o : Option Hit) → IsMember hs hit → IfSome least (IsMember hs) → IfSome o (λ r. (r ≡ hit) ⊎ (least
    ≡ Some r)) → IfSome o (IsMember hs)
either_among hs hit least None m n e = tt
either_among hs hit least (Some r) m n (inl same) = subst (IsMember hs) (sym same) m
either_among hs hit least (Some r) m n (inr same) = subst (λ o. IfSome o (IsMember hs)) same n

-- what is picked by the least and the least that leads elsewhere
pub chosen_by : (files : List StoredFile) (hs : List Hit) (first : Hit) (o : Option (Ranked Hit)) → Some (ranked files first) ≡ least_ranked files None hs
    → o ≡ least_ranked files (Some first.element) hs → picked_with first o ≡ chosen_of files hs
chosen_by files hs first o is second =
    ap (picked_with first) second
    ∙ (ap (λ (z : Hit). picked_with z (least_of (those_where (λ b. not (same_element b.item.element z.element)) (map (ranked files) hs))))
    (sym (ranked_item (slice_get files first.member.file.0) first.member.index first))
    ∙ ap (picked_from (map (ranked files) hs)) (is ∙ least_any files hs))

same_names : (x : List ℕ) → pointwise nat_eq x x ≡ true
same_names [] = refl
same_names (n ∷ x) = let here : nat_eq n n ≡ true = grind (arith, nat_tests) in rw (here, same_names x) refl

-- a file stands at its number
abbrev pub HasFile : List StoredFile → MemberNo → Type 0
HasFile files m = (s : StoredFile) × (slice_get files m.file.0 ≡ Some s)

module _ (files : List StoredFile) (are : AreFiles files) where
  pub comes_is : (m n : MemberNo) (s t : StoredFile) → slice_get files m.file.0 ≡ Some s → slice_get files n.file.0 ≡ Some t → comes_before files m n
      ≡ cond (pointwise nat_eq s.name t.name) (nat_lt m.index n.index) (in_order s.library s.name t.library t.name)
  comes_is m n s t a b = λ i. is_before (ranked_by (a i) m.index m) (ranked_by (b i) n.index n)

  -- of one file
  pub comes_same : (m n : MemberNo) → HasFile files m → HasFile files n → m.file ≡ n.file → comes_before files m n ≡ nat_lt m.index n.index
  comes_same m n p q e =
      let s = p in
      let at : slice_get files n.file.0 ≡ Some s.0 = subst (λ f. slice_get files f.0 ≡ Some s.0) e s.1 in
      comes_is m n s.0 s.0 s.1 at ∙ ap (λ b. cond b (nat_lt m.index n.index) (in_order s.0.library s.0.name s.0.library s.0.name)) (same_names s.0.name)

  -- of different ones
  pub comes_other : (m n : MemberNo) (s t : StoredFile) → slice_get files m.file.0 ≡ Some s → slice_get files n.file.0 ≡ Some t → (m.file.0 ≡ n.file.0 → ⊥)
      → comes_before files m n ≡ stands_before s t
  comes_other m n s t a b apart = comes_is m n s t a b ∙ ap (λ z. cond z (nat_lt m.index n.index) (in_order s.library s.name t.library t.name)) (by
      (pointwise nat_eq s.name t.name) refl)
    where
      by : (z : Bool) → pointwise nat_eq s.name t.name ≡ z → z ≡ false
      by true e = absurd (apart (name_once files m.file.0 n.file.0 s t are.names a b (name_exact s.name t.name e)))
      by false e = refl

  abbrev pub key_at : MemberNo → LinkKey
  key_at m = record { 0 = record { file = m.file; index = m.index } }

  pub tells : (m n : MemberNo) → HasFile files m → HasFile files n → comes_before files m n ≡ true → ComesBefore files (key_at m) (key_at n)
  tells m n p q h =
      let s = p in
      let t = q in
      let told : cond (pointwise nat_eq s.0.name t.0.name) (nat_lt m.index n.index) (in_order s.0.library s.0.name t.0.library t.0.name) ≡ true = sym
      (comes_is m n s.0 t.0 s.1 t.1) ∙ h in
      elim (bool_cases (pointwise nat_eq s.0.name t.0.name)) [
        | inl e ↦
            let less : nat_lt m.index n.index ≡ true = rw e at told in
            let one = name_once files m.file.0 n.file.0 s.0 t.0 are.names s.1 t.1 (name_exact s.0.name t.0.name e) in
            inr ((λ j. record { 0 = one j }), below m.index n.index less)
        | inr e ↦ let first : in_order s.0.library s.0.name t.0.library t.0.name ≡ true = rw e at told in inl (s.0, t.0, s.1, t.1, first)
      ]

  pub tells_not : (m n : MemberNo) → HasFile files m → HasFile files n → comes_before files m n ≡ false → (n ≡ m) ⊎ ComesBefore files (key_at n) (key_at m)
  tells_not m n p q h =
      let s = p in
      let t = q in
      let told : cond (pointwise nat_eq s.0.name t.0.name) (nat_lt m.index n.index) (in_order s.0.library s.0.name t.0.library t.0.name) ≡ false = sym
      (comes_is m n s.0 t.0 s.1 t.1) ∙ h in
      elim (bool_cases (pointwise nat_eq s.0.name t.0.name)) [
        | inl e ↦
            let less : nat_lt m.index n.index ≡ false = rw e at told in
            let one = name_once files m.file.0 n.file.0 s.0 t.0 are.names s.1 t.1 (name_exact s.0.name t.0.name e) in
            indexes one less (nat_eq n.index m.index) refl
        | inr e ↦
            let first : in_order s.0.library s.0.name t.0.library t.0.name ≡ false = rw e at told in
            let apart : s.0.name ≡ t.0.name → ⊥ = λ z. (let bad : true ≡ false = sym (same_names s.0.name) ∙ (ap (pointwise nat_eq s.0.name) z ∙ e) in cc) in
            inr (inl (t.0, s.0, t.1, s.1, before_other s.0.library t.0.library s.0.name t.0.name apart first))
      ]
    where
      indexes : m.file.0 ≡ n.file.0 → nat_lt m.index n.index ≡ false → (b : Bool) → nat_eq n.index m.index ≡ b → (n ≡ m) ⊎ ComesBefore files (key_at n)
          (key_at m)
      indexes one less true e = let index : n.index ≡ m.index = grind (arith, nat_tests) in inl (λ j. record {
        file =
            record { 0 = sym one j };
        index = index j;
      })
      indexes one less false e = let lt : n.index < m.index = grind (arith, nat_tests) in inr (inr ((λ j. record { 0 = sym one j }), lt))

  -- members of which none comes before the other are one
  tie : (m n : MemberNo) → HasFile files m → HasFile files n → comes_before files m n ≡ false → comes_before files n m ≡ false → m ≡ n
  tie m n p q a b = elim (tells_not m n p q a) [
    | inl e ↦ sym e
    | inr c ↦ elim (tells_not n m q p b) [ inl e ↦ e | inr d ↦ absurd (one_way files (key_at m) (key_at n) d c) ]
  ]

  not_back : (m n : MemberNo) → HasFile files m → HasFile files n → comes_before files m n ≡ true → comes_before files n m ≡ false
  not_back m n p q a = elim (bool_cases (comes_before files n m)) [
    | inl b ↦ absurd (one_way files (key_at m) (key_at n) (tells m n p q a) (tells n m q p b))
    | inr b ↦ b
  ]

  not_through : (k m n : MemberNo) → HasFile files k → HasFile files m → HasFile files n → comes_before files k m ≡ false → comes_before files m n ≡ false
      → comes_before files k n ≡ false
  not_through k m n o p q a b = elim (bool_cases (comes_before files k n)) [
    | inl c ↦
        let first = tells k n o q c in
        absurd (elim (tells_not k m o p a) [
          | inl e ↦ (let bad : true ≡ false = sym c ∙ subst (λ z. comes_before files z n ≡ false) e b in cc)
          | inr d ↦ elim (tells_not m n p q b) [
            | inl e ↦ one_way files (key_at k) (key_at m) (subst (λ z. ComesBefore files (key_at k) (key_at z)) e first) d
            | inr f ↦ one_way files (key_at k) (key_at n) first (before_those_behind files (key_at n) (key_at m) (key_at k) f d)
          ]
        ])
    | inr c ↦ c
  ]

  not_itself : (m : MemberNo) → HasFile files m → comes_before files m m ≡ false
  not_itself m p = elim (bool_cases (comes_before files m m)) [
    | inl b ↦ absurd (one_way files (key_at m) (key_at m) (tells m m p p b) (tells m m p p b))
    | inr b ↦ b
  ]

  abbrev Stand : List Hit → Type 0
  Stand hs = (h : Hit) → IsMember hs h → HasFile files h.member

  -- the least of hits: one of them, and none comes before it
  record IsLeast (hs : List Hit) (a : Ranked Hit) : Type 0 where
    hit : Hit
    among : IsMember hs hit
    is : a ≡ ranked files hit
    least : (k : Hit) → IsMember hs k → comes_before files k.member hit.member ≡ false

  abbrev least : List Hit → Option (Ranked Hit)
  least hs = least_of (map (ranked files) hs)

  least_none : (hs : List Hit) → least hs ≡ None → hs ≡ []
  least_none [] e = refl
  least_none (h ∷ hs) e = absurd (never (ranked files h) (least hs) e)
    where
      never : (a : Ranked Hit) (o : Option (Ranked Hit)) → lesser a o ≡ None → ⊥
      never a None e = (let none : ⊥ = cc in none)
      never a (Some b) e = elim (bool_cases (is_before b a)) [
        | inl t ↦ (let bad : Some b ≡ None = rw t at e in cc)
        | inr t ↦ (let bad : Some a ≡ None = rw t at e in cc)
      ]

  least_is : (hs : List Hit) → Stand hs → (a : Ranked Hit) → least hs ≡ Some a → IsLeast hs a
  least_is [] p a e = cc
  least_is (h ∷ hs) p a e = by (λ b some. least_is hs (λ k m. p k (inr m)) b some) (least hs) refl e
    where
      by : ((b : Ranked Hit) → least hs ≡ Some b → IsLeast hs b) → (o : Option (Ranked Hit)) → least hs ≡ o → lesser (ranked files h) o ≡ Some a → IsLeast
          (h ∷ hs) a
      by more None none e = record {
        hit = h;
        among = inl refl;
        is = sym (some_same (ranked files h) a e);
        least = λ k. elim [
          | inl q ↦ subst (λ z. comes_before files z.member h.member ≡ false) q (not_itself h.member (p h (inl refl)))
          | inr m ↦ absurd (subst (λ ks. IsMember ks k) (least_none hs none) m)
        ];
      }
      by more (Some b) some e =
          let rest = more b some in
          elim (bool_cases (is_before b (ranked files h))) [
            | inl t ↦
                let is : Some b ≡ Some a = rw t at e in
                let first : comes_before files rest.hit.member h.member ≡ true =
                sym (before_members files rest.hit h) ∙ subst (λ z. is_before z (ranked files h) ≡ true) rest.is t in
                record {
                  hit = rest.hit;
                  among = inr rest.among;
                  is = sym (some_same b a is) ∙ rest.is;
                  least = λ k. elim [
                    | inl q ↦ subst (λ z. comes_before files z.member rest.hit.member ≡ false) q
                        (not_back rest.hit.member h.member (p rest.hit (inr rest.among)) (p h (inl refl)) first)
                    | inr m ↦ rest.least k m
                  ];
                }
            | inr t ↦
                let is : Some (ranked files h) ≡ Some a = rw t at e in
                let first : comes_before files rest.hit.member h.member ≡ false =
                sym (before_members files rest.hit h) ∙ subst (λ z. is_before z (ranked files h) ≡ false) rest.is t in
                record {
                  hit = h;
                  among = inl refl;
                  is = sym (some_same (ranked files h) a is);
                  least = λ k. elim [
                    | inl q ↦ subst (λ z. comes_before files z.member h.member ≡ false) q (not_itself h.member (p h (inl refl)))
                    | inr m ↦ not_through k.member rest.hit.member h.member (p k (inr m)) (p rest.hit (inr rest.among)) (p h (inl refl)) (rest.least k m) first
                  ];
                }
          ]

  -- the least of lists with the same members are of one member
  least_same : (xs ys : List Hit) → SameMembers xs ys → Stand xs → (a b : Ranked Hit) (p : IsLeast xs a) (q : IsLeast ys b) → p.hit.member ≡ q.hit.member
  least_same xs ys s t a b p q = tie p.hit.member q.hit.member (t p.hit p.among) (t q.hit (s.right q.hit q.among)) (q.least p.hit (s.left p.hit p.among))
      (p.least q.hit (s.right q.hit q.among))

  -- hits that lead elsewhere
  abbrev others : ElementNo → List Hit → List Hit
  others e hs = those_where (λ h. not (same_element h.element e)) hs

  others_ranked : (e : ElementNo) (hs : List Hit) → those_where (λ b. not (same_element b.item.element e)) (map (ranked files) hs) ≡ map (ranked files)
      (others e hs)
  others_ranked e [] = refl
  others_ranked e (h ∷ hs) =
      ap (λ z. chosen (not (same_element z.element e)) (ranked files h) (those_where (λ b. not (same_element b.item.element e)) (map (ranked files) hs)))
      (ranked_item (slice_get files h.member.file.0) h.member.index h)
      ∙ (ap (chosen (not (same_element h.element e)) (ranked files h)) (others_ranked e hs) ∙ by (not (same_element h.element e)))
    where
      by : (b : Bool) → chosen b (ranked files h) (map (ranked files) (others e hs)) ≡ map (ranked files) (chosen b h (others e hs))
      by true = refl
      by false = refl

  to_others : (e : ElementNo) (hs : List Hit) (k : Hit) → IsMember hs k → not (same_element k.element e) ≡ true → IsMember (others e hs) k
  to_others e [] k m t = m
  to_others e (h ∷ hs) k (inl q) t =
      let here : not (same_element h.element e) ≡ true = subst (λ z. not (same_element z.element e) ≡ true) (sym q) t in
      subst (λ b. IsMember (chosen b h (others e hs)) k) (sym here) (inl q)
  to_others e (h ∷ hs) k (inr m) t = by (not (same_element h.element e)) (to_others e hs k m t)
    where
      by : (b : Bool) → IsMember (others e hs) k → IsMember (chosen b h (others e hs)) k
      by true n = inr n
      by false n = n

  from_others : (e : ElementNo) (hs : List Hit) (k : Hit) → IsMember (others e hs) k → IsMember hs k × (not (same_element k.element e) ≡ true)
  from_others e hs k m = among_where (λ h. not (same_element h.element e)) hs k m

  same_others : (e : ElementNo) (xs ys : List Hit) → SameMembers xs ys → SameMembers (others e xs) (others e ys)
  same_others e xs ys s = record {
    left = λ k m. let f = from_others e xs k m in to_others e ys k (s.left k f.0) f.1;
    right = λ k m. let f = from_others e ys k m in to_others e xs k (s.right k f.0) f.1;
  }

  chosen_with : (hs : List Hit) (a : Ranked Hit) (p : IsLeast hs a) → picked_from (map (ranked files) hs) (Some a) ≡ picked_with p.hit (least
      (others p.hit.element hs))
  chosen_with hs a p =
      ap (λ z. picked_from (map (ranked files) hs) (Some z)) p.is
      ∙ (ap (λ (z : Hit). picked_with z (least_of (those_where (λ b. not (same_element b.item.element z.element)) (map (ranked files) hs))))
      (ranked_item (slice_get files p.hit.member.file.0) p.hit.member.index p.hit)
      ∙ ap (λ zs. picked_with p.hit (least_of zs)) (others_ranked p.hit.element hs))

  member_of : (hs : List Hit) (a : Ranked Hit) (p : IsLeast hs a) → a.item.member ≡ p.hit.member
  member_of hs a p = ap (λ z. z.item.member) p.is ∙ ap (λ z. z.member) (ranked_item (slice_get files p.hit.member.file.0) p.hit.member.index p.hit)

  -- there is another one, and it is of this member
  several : (hs : List Hit) → Stand hs → (h k : Hit) → IsMember hs k → not (same_element k.element h.element) ≡ true
      → ((o : Hit) → IsMember hs o → comes_before files o.member k.member ≡ false) → picked_with h (least (others h.element hs)) ≡ Several h.member k.member
  several hs stand h k among other first = by (least (others h.element hs)) refl
    where
      there : IsMember (others h.element hs) k
      there = to_others h.element hs k among other

      by : (o : Option (Ranked Hit)) → least (others h.element hs) ≡ o → picked_with h o ≡ Several h.member k.member
      by None none = absurd (subst (λ ks. IsMember ks k) (least_none (others h.element hs) none) there)
      by (Some o) some =
          let q = least_is (others h.element hs) (λ j m. stand j (from_others h.element hs j m).0) o some in
          let mine = (from_others h.element hs q.hit q.among).0 in
          ap (λ z. Several h.member z) (member_of (others h.element hs) o q
          ∙ tie q.hit.member k.member (stand q.hit mine) (stand k among) (first q.hit mine) (q.least k there))

  pub chosen_same : (xs ys : List Hit) → SameMembers xs ys → Stand xs → chosen_of files xs ≡ chosen_of files ys
  chosen_same xs ys s t = by (least xs) (least ys) refl refl
    where
      t2 : Stand ys
      t2 k m = t k (s.right k m)

      by : (o p : Option (Ranked Hit)) → least xs ≡ o → least ys ≡ p → picked_from (map (ranked files) xs) o ≡ picked_from (map (ranked files) ys) p
      by None None d e = refl
      by None (Some b) d e =
          let q = least_is ys t2 b e in absurd (subst (λ ks. IsMember ks q.hit) (least_none xs d) (s.right q.hit q.among))
      by (Some a) None d e =
          let p = least_is xs t a d in absurd (subst (λ ks. IsMember ks p.hit) (least_none ys e) (s.left p.hit p.among))
      by (Some a) (Some b) d e =
          let p = least_is xs t a d in
          let q = least_is ys t2 b e in
          chosen_with xs a p ∙ (both p.hit q.hit p.among q.among p.least q.least (least_same xs ys s t a b p q) ∙ sym (chosen_with ys b q))
        where
          both : (h k : Hit) → IsMember xs h → IsMember ys k → ((j : Hit) → IsMember xs j → comes_before files j.member h.member ≡ false)
              → ((j : Hit) → IsMember ys j → comes_before files j.member k.member ≡ false) → h.member ≡ k.member
              → picked_with h (least (others h.element xs)) ≡ picked_with k (least (others k.element ys))
          both h k p q first second one = elim (bool_cases (same_element k.element h.element)) [
            | inl same ↦
                let e : k.element ≡ h.element = element_exact k.element h.element same in
                alike (least (others h.element xs)) (least (others h.element ys)) refl refl
                ∙ ap (λ z. picked_with k (least (others z ys))) (sym e)
            | inr unlike ↦
                let far : not (same_element k.element h.element) ≡ true = ap not unlike in
                let back : not (same_element h.element k.element) ≡ true = ap not (turned (same_element h.element k.element) refl unlike) in
                several xs t h k (s.right k q) far (λ j m. second j (s.left j m))
                ∙ ((λ i. Several (one i) (sym one i)) ∙ sym (several ys t2 k h (s.left h p) back (λ j m. first j (s.right j m))))
          ]
            where
              turned : (b : Bool) → same_element h.element k.element ≡ b → same_element k.element h.element ≡ false → b ≡ false
              turned true e unlike =
                  let is : h.element ≡ k.element = element_exact h.element k.element e in
                  let bad : true ≡ false = sym (element_is_exact.itself k.element) ∙ subst (λ z. same_element k.element z ≡ false) is unlike in cc
              turned false e unlike = refl

              alike : (o r : Option (Ranked Hit)) → least (others h.element xs) ≡ o → least (others h.element ys) ≡ r → picked_with h o ≡ picked_with k r
              alike None None d e = by_element
                where
                  by_element : One h.element ≡ One k.element
                  by_element = elim (bool_cases (same_element k.element h.element)) [
                    | inl same ↦ ap One (sym (element_exact k.element h.element same))
                    | inr unlike ↦
                        let there = to_others h.element ys k q (ap not unlike) in
                        absurd (subst (λ ks. IsMember ks k) (least_none (others h.element ys) e) there)
                  ]
              alike None (Some r) d e =
                  let v = least_is (others h.element ys) (λ j m. t2 j (from_others h.element ys j m).0) r e in
                  absurd (subst (λ ks. IsMember ks v.hit) (least_none (others h.element xs) d) ((same_others h.element xs ys s).right v.hit v.among))
              alike (Some o) None d e =
                  let u = least_is (others h.element xs) (λ j m. t j (from_others h.element xs j m).0) o d in
                  absurd (subst (λ ks. IsMember ks u.hit) (least_none (others h.element ys) e) ((same_others h.element xs ys s).left u.hit u.among))
              alike (Some o) (Some r) d e =
                  let u = least_is (others h.element xs) (λ j m. t j (from_others h.element xs j m).0) o d in
                  let v = least_is (others h.element ys) (λ j m. t2 j (from_others h.element ys j m).0) r e in
                  let tied = least_same (others h.element xs) (others h.element ys) (same_others h.element xs ys s) (λ j m. t j
                  (from_others h.element xs j m).0) o r u v in
                  (λ i. Several (one i) ((member_of (others h.element xs) o u ∙ (tied ∙ sym (member_of (others h.element ys) r v))) i))

-- the ranked hits of a list
module _ (files : List StoredFile) (entries : List (LinkKey × Outcome)) where
  abbrev w : LinkWorld
  w = reading files entries

  pub ranked_is : (hs : List Hit) → (ranked_hits hs w).step ≡ Done (map (ranked files) hs)
  ranked_is [] = refl
  ranked_is (h ∷ hs) = ap (λ z. join_step (Done (ranked files h ∷ [])) z) (ranked_is hs)

  pub ranked_looks : (hs : List Hit) → (ranked_hits hs w).looks ≡ files_looked hs
  ranked_looks [] = refl
  ranked_looks (h ∷ hs) = ap (λ z. Outer (File h.member.file) ∷ z) (ranked_looks hs)

  pub pick_is : (hs : List Hit) → (pick hs w).step ≡ Done (chosen_of files hs)
  pick_is hs = ap (λ z. (then_step (ranked_hits hs w) (λ rs. done (picked_from rs (least_of rs)) w) z).step) (ranked_is hs)

  pub pick_looks : (hs : List Hit) → (pick hs w).looks ≡ files_looked hs
  pick_looks hs = ap (λ z. (then_step (ranked_hits hs w) (λ rs. done (picked_from rs (least_of rs)) w) z).looks) (ranked_is hs)
      ∙ (append-nil (ranked_hits hs w).looks ∙ ranked_looks hs)

  same_looked : (xs ys : List Hit) → SameMembers xs ys → SameMembers (files_looked xs) (files_looked ys)
  same_looked xs ys s = record {
    left = λ f m. let b = back xs f m in there ys f b.0 (s.left b.0 b.1) b.2;
    right = λ f m. let b = back ys f m in there xs f b.0 (s.right b.0 b.1) b.2;
  }
    where
      back : (hs : List Hit) (f : Fact LinkKey LinkFact) → IsMember (files_looked hs) f → (h : Hit) × IsMember hs h × (Outer (File h.member.file) ≡ f)
      back [] f m = absurd m
      back (h ∷ hs) f (inl e) = (h, inl refl, e)
      back (h ∷ hs) f (inr m) = let b = back hs f m in (b.0, inr b.1, b.2)

      there : (hs : List Hit) (f : Fact LinkKey LinkFact) (h : Hit) → IsMember hs h → Outer (File h.member.file) ≡ f → IsMember (files_looked hs) f
      there [] f h m e = m
      there (k ∷ hs) f h (inl q) e = inl (ap (λ (z : Hit). Outer (File z.member.file)) q ∙ e)
      there (k ∷ hs) f h (inr m) e = inr (there hs f h m e)

  -- PICKING of lists with the same members is alike
  pub pick_same : AreFiles files → (xs ys : List Hit) → SameMembers xs ys → AreHits files xs → Agrees (pick xs w) (pick ys w)
  pick_same are xs ys s t = record {
    step = pick_is xs ∙ (ap (λ (z : Picked). the_done z) (chosen_same files are xs ys s (λ h m. file_at files h.member (t h m).0)) ∙ sym (pick_is ys));
    looks = subst (λ z. SameMembers z (pick ys w).looks) (sym (pick_looks xs)) (subst (SameMembers (files_looked xs)) (sym (pick_looks ys))
        (same_looked xs ys s));
  }
    where
      the_done : Picked → Step LinkKey Picked
      the_done z = Done z

  -- and is answered by code that chose and noted the files
  pub pick_answered : (hs : List Hit) (p : Picked) (old new : Noted) → p ≡ chosen_of files hs → new ≡ noted [] (files_looked hs) old → Answered (pick hs w)
      (Some p) old new
  pick_answered hs p old new is told = record {
    step = subst (λ z. IsAnswer z (Some p) old.waits new.waits) (sym (pick_is hs)) (ap (λ z. Some z) is, ap (λ (n : Noted). n.waits) told);
    looks = facts_noted old.looks new.looks (files_looked hs) (pick hs w).looks (ap (λ (n : Noted). n.looks) told) (same_equal (files_looked hs)
        (pick hs w).looks (sym (pick_looks hs)));
  }
