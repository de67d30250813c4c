-- What isn't visible: the search ends hidden or absent.
use Rattle.std.proofs.Common.{
  ◌≡◌,
  ◌∙◌,
  ℕ,
  ◌<◌,
  Bool,
  true,
  false,
  cond,
  not,
  List,
  [],
  ◌∷◌,
  ◌++◌,
  map,
  length,
  refl,
  sym,
  ap,
  subst,
  inl,
  inr,
  append-nil,
  append_assoc,
}
use Rattle.std.specs.Prelude.{◌⊎◌, slice_get, Option, None, Some}
use Rattle.std.specs.Option.{option_map_or, option_map}
use Rattle.linker_base.specs.Members.{IsMember, SameMembers}
use Rattle.linker_base.proofs.Cases.{bool_cases}
use Rattle.linker_base.proofs.MemberLaws.{same_members, same_joined}
use Rattle.demand_core.specs.Computation.{done, then_step, ◌>>=◌, join, join_step, joined}
use Rattle.demand_core.specs.Search.{IsAsked}
use Rattle.demand_core.specs.declared.looks.Fact.{Fact}
use Rattle.demand_core.specs.declared.looks.Fact.TheVariants.{Outer}
use Rattle.demand_core.specs.declared.step.Step.{Step}
use Rattle.demand_core.specs.declared.step.Step.TheVariants.{Done, Waits}
use Rattle.element_store.specs.declared.outcome.Outcome.{Outcome}
use Rattle.element_store.specs.declared.outcome.Outcome.TheVariants.{Hidden}
use Rattle.element_store.specs.declared.numbers.MemberNo.{MemberNo}
use Rattle.element_store.specs.declared.records.Member.{Member}
use Rattle.element_store.specs.declared.models.StoredFile.{StoredFile}
use Rattle.element_store.specs.Numbers.{chosen, those_where}
use Rattle.element_store.specs.Stored.{AreFiles}
use Rattle.link_model.specs.declared.keys.LinkKey.{LinkKey}
use Rattle.link_model.specs.declared.keys.LinkFact.{LinkFact}
use Rattle.link_model.specs.declared.keys.LinkFact.TheVariants.{File}
use Rattle.link_model.specs.declared.keys.Hit.{Hit}
use Rattle.element_store.specs.declared.numbers.ElementNo.{ElementNo}
use Rattle.link_model.specs.Inheritance.{inherited_tier}
use Rattle.link_model.specs.Names.{declared, effective}
use Rattle.link_model.specs.Outside.{Library, library_of, model_in, is_public}
use Rattle.link_model.specs.Lexical.{Ranked, least_of, ranked_hits}
use Rattle.link_model.specs.Readers.{Lookup, LinkWorld, is_nil, only_if, told, model}
use Rattle.link_model.specs.declared.view.View.{View}
use Rattle.link_model.specs.Asking.{Course, unseen, hidden_by, nothing_visible}
use Rattle.link_model.specs.Asking.Course.{Ended}
use Rattle.link_model.proofs.EditLaws.{among_where}
use Rattle.link_walk.specs.Calls.{reading, read_by, files_of}
use Rattle.link_walk.specs.Noted.{Noted, Asks, LinkTrail, noted}
use Rattle.link_tiers.specs.Answered.{IsAnswer, Answered, Agrees}
use Rattle.link_tiers.specs.Picks.{ranked, files_looked}
use Rattle.demand_core.proofs.LoopLaws.{join_assoc}
use Rattle.link_tiers.proofs.AnsweredLaws.{answered_then, answered_done, answered_on, answered_wait, answered_alike, asked_over, facts_noted, same_equal}
use Rattle.link_tiers.specs.Tiers.{AreHits}
use Rattle.link_tiers.proofs.PickLaws.{ranked_is, ranked_looks, file_at, within_files}
use Rattle.link_waits.specs.Ranks.{AreRanksOf}
use Rattle.link_asking.specs.Hiding.{is_unseen, hiding, bearing}
use Rattle.link_asking.proofs.LeastLaws.{Stand, IsLeast, least, least_none, least_is, least_same, member_of}

-- parts may be joined in either way
joined_so : (w : LinkWorld) (a b c : Lookup (List Hit)) (g : LinkTrail Hit) → IsAsked g (join (join a b) c w) → IsAsked g (join a (join b c) w)
joined_so w a b c g h = asked_over g (join (join a b) c w) (join a (join b c) w) (join_assoc (a w).step (b w).step (c w).step)
    (same_equal _ _ (append_assoc (a w).looks (b w).looks (c w).looks)) h

-- the three parts, one after the other, are the members that bear a name
pub bearing_is : (w : LinkWorld) (lib : Library) (x : List ℕ) (e : ElementNo) (g : LinkTrail Hit)
    → IsAsked g (join (join (declared x e) (effective x e)) (inherited_tier lib x e) w) → IsAsked g (bearing lib x e w)
unfolding bearing
bearing_is w lib x e g h = joined_so w (declared x e) (effective x e) (inherited_tier lib x e) g h

-- what follows an answer
pub then_done : {A B : Type 0} (w : LinkWorld) (c : Lookup A) (f : A → Lookup B) (v : A) → (c w).step ≡ Done v
    → (c >>= f) w ≡ record { step = (f v w).step; looks = (c w).looks ++ (f v w).looks }
then_done w c f v e = ap (then_step (c w) (λ x. f x w)) e

-- ONE STAGE IN ANOTHER is one after the other
pub then_assoc : {A B C : Type 0} (w : LinkWorld) (c : Lookup A) (f : A → Lookup B) (g : B → Lookup C)
    → Agrees ((c >>= (λ x. f x >>= g)) w) ((c >>= f >>= g) w)
then_assoc {A} {B} {C} w c f g = by (c w).step (c w).looks
  where
    inner : (looks : List (Fact LinkKey LinkFact)) (m : Step LinkKey B) (more : List (Fact LinkKey LinkFact)) → Agrees
        (record {
          step = (then_step {B = C} (record { step = m; looks = more }) (λ x. g x w) m).step;
          looks = looks ++ (then_step {B = C} (record { step = m; looks = more }) (λ x. g x w) m).looks;
        })
        (then_step {B = C} (record { step = m; looks = looks ++ more }) (λ x. g x w) m)
    inner looks (Done u) more = record { step = refl; looks = same_equal _ _ (sym (append_assoc looks more (g u w).looks)) }
    inner looks (Waits ks) more = record { step = refl; looks = same_members (looks ++ more) }

    by : (m : Step LinkKey A) (looks : List (Fact LinkKey LinkFact)) → Agrees
        (then_step {B = C} (record { step = m; looks = looks }) (λ x. (f x >>= g) w) m)
        (then_step {B = C} (then_step {B = B} (record { step = m; looks = looks }) (λ x. f x w) m) (λ x. g x w)
        (then_step {B = B} (record { step = m; looks = looks }) (λ x. f x w) m).step)
    by (Done v) looks = inner looks (f v w).step (f v w).looks
    by (Waits ks) looks = record { step = refl; looks = same_members looks }

-- what follows askings that agree
pub then_agrees : {A B : Type 0} (w : LinkWorld) (c d : Lookup A) (f : A → Lookup B) → Agrees (c w) (d w) → Agrees ((c >>= f) w) ((d >>= f) w)
then_agrees {A} {B} w c d f e = by (c w).step (d w).step e.step
  where
    by : (m n : Step LinkKey A) → m ≡ n → Agrees (then_step {B = B} (record { step = m; looks = (c w).looks }) (λ x. f x w) m)
        (then_step {B = B} (record { step = n; looks = (d w).looks }) (λ x. f x w) n)
    by m n is = subst (λ z. Agrees (then_step {B = B} (record { step = m; looks = (c w).looks }) (λ x. f x w) m)
        (then_step {B = B} (record { step = z; looks = (d w).looks }) (λ x. f x w) z)) is (each m)
      where
        each : (m : Step LinkKey A) → Agrees (then_step {B = B} (record { step = m; looks = (c w).looks }) (λ x. f x w) m)
            (then_step {B = B} (record { step = m; looks = (d w).looks }) (λ x. f x w) m)
        each (Done v) = record {
          step = refl;
          looks = same_joined (c w).looks (f v w).looks (d w).looks (f v w).looks e.looks (same_members (f v w).looks);
        }
        each (Waits ks) = record { step = refl; looks = e.looks }

pub agrees_through : {A : Type 0} (a b c : Asks A) → Agrees a b → Agrees b c → Agrees a c
agrees_through a b c p q = record {
  step = p.step ∙ q.step;
  looks = record { left = λ f m. q.looks.left f (p.looks.left f m); right = λ f m. p.looks.right f (q.looks.right f m) };
}

-- an answer whose looks are noted
pub answered_noted : {A : Type 0} (a : Asks A) (v : A) (looks : List (Fact LinkKey LinkFact)) (old new : Noted) → a.step ≡ Done v → a.looks ≡ looks
    → new ≡ noted [] looks old → Answered a (Some v) old new
answered_noted a v looks old new step is told = record {
  step = subst (λ z. IsAnswer z (Some v) old.waits new.waits) (sym step) (refl, ap (λ (n : Noted). n.waits) told);
  looks = facts_noted old.looks new.looks looks a.looks (ap (λ (n : Noted). n.looks) told) (same_equal looks a.looks (sym is));
}

-- those that pass a test, of lists with the same members
to_where : {A : Type 0} (test : A → Bool) (xs : List A) (x : A) → IsMember xs x → test x ≡ true → IsMember (those_where test xs) x
to_where test [] x m t = m
to_where test (y ∷ ys) x (inl e) t =
    let here : test y ≡ true = subst (λ z. test z ≡ true) (sym e) t in subst (λ b. IsMember (chosen b y (those_where test ys)) x) (sym here) (inl e)
to_where test (y ∷ ys) x (inr m) t = by (test y) (to_where test ys x m t)
  where
    by : (b : Bool) → IsMember (those_where test ys) x → IsMember (chosen b y (those_where test ys)) x
    by true n = inr n
    by false n = n

same_where : {A : Type 0} (test : A → Bool) (xs ys : List A) → SameMembers xs ys → SameMembers (those_where test xs) (those_where test ys)
same_where test xs ys s = record {
  left = λ x m. let f = among_where test xs x m in to_where test ys x (s.left x f.0) f.1;
  right = λ x m. let f = among_where test ys x m in to_where test xs x (s.right x f.0) f.1;
}

-- the looks at the files of hits with the same members
same_looked : (xs ys : List Hit) → SameMembers xs ys → SameMembers (files_looked xs) (files_looked ys)
same_looked xs ys s = record {
  left = λ f m. let b = back xs f m in there ys f b.0 (s.left b.0 b.1) b.2;
  right = λ f m. let b = back ys f m in there xs f b.0 (s.right b.0 b.1) b.2;
}
  where
    back : (hs : List Hit) (f : Fact LinkKey LinkFact) → IsMember (files_looked hs) f → (h : Hit) × IsMember hs h × (Outer (File h.member.file) ≡ f)
    back [] f m = absurd m
    back (h ∷ hs) f (inl e) = (h, inl refl, e)
    back (h ∷ hs) f (inr m) = let b = back hs f m in (b.0, inr b.1, b.2)

    there : (hs : List Hit) (f : Fact LinkKey LinkFact) (h : Hit) → IsMember hs h → Outer (File h.member.file) ≡ f → IsMember (files_looked hs) f
    there [] f h m e = m
    there (k ∷ hs) f h (inl q) e = inl (ap (λ (z : Hit). Outer (File z.member.file)) q ∙ e)
    there (k ∷ hs) f h (inr m) e = inr (there hs f h m e)

module _ (files : List StoredFile) (entries : List (LinkKey × Outcome)) where
  abbrev w : LinkWorld
  w = reading files entries

  -- the hits whose members aren't public
  abbrev pub kept : List Hit → List Hit
  kept hs = those_where (is_unseen files) hs

  abbrev ready : List Hit → Step LinkKey (List Hit)
  ready hs = Done hs

  abbrev one : Hit → Lookup (List Hit)
  one h = model h.member.file >>= λ d. told (slice_get d.members h.member.index) (λ m. done (only_if (not (is_public m.visibility)) h))

  one_is : (h : Hit) → (one h w).step ≡ Done (chosen (is_unseen files h) h [])
  one_is h = by (slice_get (model_in (slice_get files h.member.file.0)).members h.member.index)
    where
      by_bool : (b : Bool) → ready (only_if b h) ≡ ready (chosen b h [])
      by_bool true = refl
      by_bool false = refl

      by : (o : Option Member) → (told o (λ m. done (only_if (not (is_public m.visibility)) h)) w).step
          ≡ Done (chosen (option_map_or (λ m. not (is_public m.visibility)) o false) h [])
      by None = refl
      by (Some m) = by_bool (not (is_public m.visibility))

  one_looks : (h : Hit) → (one h w).looks ≡ Outer (File h.member.file) ∷ []
  one_looks h = by (slice_get (model_in (slice_get files h.member.file.0)).members h.member.index)
    where
      by : (o : Option Member) → Outer (File h.member.file) ∷ (told o (λ m. done (only_if (not (is_public m.visibility)) h)) w).looks
          ≡ Outer (File h.member.file) ∷ []
      by None = refl
      by (Some m) = refl

  pub unseen_is : (hs : List Hit) → (unseen hs w).step ≡ Done (kept hs)
  unseen_is [] = refl
  unseen_is (h ∷ hs) = (λ i. join_step (one_is h i) (unseen_is hs i)) ∙ by (is_unseen files h)
    where
      by : (b : Bool) → ready (chosen b h [] ++ kept hs) ≡ ready (chosen b h (kept hs))
      by true = refl
      by false = refl

  pub unseen_looks : (hs : List Hit) → (unseen hs w).looks ≡ files_looked hs
  unseen_looks [] = refl
  unseen_looks (h ∷ hs) = λ i. one_looks h i ++ unseen_looks hs i

  abbrev end_of : ℕ → List (Ranked Hit) → Lookup Course
  end_of n rs = done (Ended (hidden_by n (least_of rs)))

  abbrev found_by : ℕ → List Hit → Course
  found_by n hs = Ended (hidden_by n (least_of (map (ranked files) (kept hs))))

  two_is : (hs : List Hit) → ((unseen hs >>= ranked_hits) w).step ≡ Done (map (ranked files) (kept hs))
  two_is hs = ap (λ (a : Asks (List (Ranked Hit))). a.step) (then_done w (unseen hs) ranked_hits (kept hs) (unseen_is hs)) ∙ ranked_is files entries (kept hs)

  two_looks : (hs : List Hit) → ((unseen hs >>= ranked_hits) w).looks ≡ files_looked hs ++ files_looked (kept hs)
  two_looks hs = ap (λ (a : Asks (List (Ranked Hit))). a.looks) (then_done w (unseen hs) ranked_hits (kept hs) (unseen_is hs))
      ∙ (λ i. unseen_looks hs i ++ ranked_looks files entries (kept hs) i)

  hiding_is : (n : ℕ) (hs : List Hit) → (hiding n hs w).step ≡ Done (found_by n hs)
  hiding_is n hs = ap (λ (a : Asks Course). a.step) (then_done w (unseen hs >>= ranked_hits) (end_of n) (map (ranked files) (kept hs)) (two_is hs))

  hiding_looks : (n : ℕ) (hs : List Hit) → (hiding n hs w).looks ≡ files_looked hs ++ files_looked (kept hs)
  hiding_looks n hs = ap (λ (a : Asks Course). a.looks) (then_done w (unseen hs >>= ranked_hits) (end_of n) (map (ranked files) (kept hs)) (two_is hs))
      ∙ (append-nil ((unseen hs >>= ranked_hits) w).looks ∙ two_looks hs)

  -- WHAT HIDES is answered by code that noted the files of all hits, and of those that aren't public
  pub hiding_answered : (n : ℕ) (hs : List Hit) (o : Outcome) (old mid new : Noted) → o ≡ hidden_by n (least_of (map (ranked files) (kept hs)))
      → mid ≡ noted [] (files_looked hs) old → new ≡ noted [] (files_looked (kept hs)) mid → Answered (hiding n hs w) (Some (Ended o)) old new
  hiding_answered n hs o old mid new is first second = subst (λ z. Answered (hiding n hs w) (Some (Ended z)) old new) (sym is)
      (answered_then w (unseen hs >>= ranked_hits) (end_of n) (map (ranked files) (kept hs)) (Some (found_by n hs)) old new new
      (answered_then w (unseen hs) ranked_hits (kept hs) (Some (map (ranked files) (kept hs))) old mid new
      (answered_noted (unseen hs w) (kept hs) (files_looked hs) old mid (unseen_is hs) (unseen_looks hs) first)
      (answered_noted (ranked_hits (kept hs) w) (map (ranked files) (kept hs)) (files_looked (kept hs)) mid new (ranked_is files entries (kept hs))
      (ranked_looks files entries (kept hs)) second))
      (answered_done w (found_by n hs) new))

  abbrev hidden_at : ℕ → MemberNo → Outcome
  hidden_at n m = Hidden n m

  -- the least of lists with the same members hides alike
  hidden_same : (are : AreFiles files) → (n : ℕ) (xs ys : List Hit) → SameMembers xs ys → Stand files are xs
      → hidden_by n (least files are xs) ≡ hidden_by n (least files are ys)
  hidden_same are n xs ys s stand = by (least files are xs) (least files are ys) refl refl
    where
      stand_too : Stand files are ys
      stand_too h m = stand h (s.right h m)

      by : (o p : Option (Ranked Hit)) → least files are xs ≡ o → least files are ys ≡ p → hidden_by n o ≡ hidden_by n p
      by None None d e = refl
      by None (Some b) d e =
          let q = least_is files are ys stand_too b e in
          absurd (subst (λ zs. IsMember zs q.hit) (least_none files are xs d) (s.right q.hit q.among))
      by (Some a) None d e =
          let q = least_is files are xs stand a d in
          absurd (subst (λ zs. IsMember zs q.hit) (least_none files are ys e) (s.left q.hit q.among))
      by (Some a) (Some b) d e =
          let p = least_is files are xs stand a d in
          let q = least_is files are ys stand_too b e in
          let same = least_same files are xs ys s stand a b p q in
          ap (hidden_at n) (member_of files are xs a p ∙ (same ∙ sym (member_of files are ys b q)))

  -- hits with the same members hide alike
  pub hiding_same : (are : AreFiles files) → (n : ℕ) (xs ys : List Hit) → SameMembers xs ys → Stand files are xs → Agrees (hiding n xs w) (hiding n ys w)
  hiding_same are n xs ys s stand = record {
    step = hiding_is n xs ∙ (ap (λ (o : Outcome). ended o) (hidden_same are n (kept xs) (kept ys) (same_where (is_unseen files) xs ys s)
        (λ h m. stand h (among_where (is_unseen files) xs h m).0)) ∙ sym (hiding_is n ys));
    looks = subst (λ z. SameMembers z (hiding n ys w).looks) (sym (hiding_looks n xs))
        (subst (SameMembers (files_looked xs ++ files_looked (kept xs))) (sym (hiding_looks n ys))
        (same_joined (files_looked xs) (files_looked (kept xs)) (files_looked ys) (files_looked (kept ys)) (same_looked xs ys s)
        (same_looked (kept xs) (kept ys) (same_where (is_unseen files) xs ys s))));
  }
    where
      ended : Outcome → Step LinkKey Course
      ended o = Done (Ended o)

joined_up : (w : LinkWorld) (c : Lookup (List Hit)) (n : ℕ) → Agrees ((c >>= hiding n) w)
    ((c >>= unseen >>= ranked_hits >>= λ rs. done (Ended (hidden_by n (least_of rs)))) w)
joined_up w c n =
    let end : List (Ranked Hit) → Lookup Course = λ rs. done (Ended (hidden_by n (least_of rs))) in
    agrees_through _ _ _ (then_assoc w c (λ hs. unseen hs >>= ranked_hits) end)
    (then_agrees w (c >>= (λ hs. unseen hs >>= ranked_hits)) (c >>= unseen >>= ranked_hits) end (then_assoc w c unseen ranked_hits))

-- OF WHAT WAS FOUND FIRST it waits, or hides
pub hide_waits : (v : View) (n : ℕ) (g : LinkTrail Hit) (old new : Noted) → (g.waits ≡ [] → ⊥) → new ≡ noted g.waits g.looks old
    → (c : Lookup (List Hit)) → IsAsked g (c (read_by v)) → Answered ((c >>= hiding n) (read_by v)) None old new
hide_waits v n g old new some is c a = answered_wait (read_by v) g c (hiding n) old new a some is

pub hide_on : (v : View) (are : AreFiles (files_of v)) (n : ℕ) (g : LinkTrail Hit) (o : Outcome) (old mid new : Noted) → AreHits (files_of v) g.found
    → g.waits ≡ [] → mid ≡ noted g.waits g.looks old → Answered (hiding n g.found (read_by v)) (Some (Ended o)) mid new
    → (c : Lookup (List Hit)) → IsAsked g (c (read_by v)) → Answered ((c >>= hiding n) (read_by v)) (Some (Ended o)) old new
hide_on v are n g o old mid new hits none is h c a =
    answered_on (read_by v) g c (hiding n) (Some (Ended o)) old mid new a none is
    (λ ys s. hiding_same v.models.now v.table.now are n g.found ys s (λ k m. file_at (files_of v) k.member (hits k m).0)) h

-- NOTHING IS VISIBLE, in the definition's words
pub hides_all : (v : View) (n : ℕ) (x : List ℕ) (e : ElementNo) (o : Option Course) (old new : Noted)
    → Answered ((bearing (library_of (files_of v)) x e >>= hiding n) (read_by v)) o old new
    → Answered (nothing_visible (library_of (files_of v)) n x e (read_by v)) o old new
unfolding bearing
hides_all v n x e o old new a = answered_alike _ _ o old new (joined_up (read_by v) (bearing (library_of (files_of v)) x e) n) a

-- the members that are kept are of files that stand
pub kept_within : (files : List StoredFile) (ranks : List ℕ) → AreRanksOf files ranks → (hs ks : List Hit) → AreHits files hs
    → ks ≡ those_where (is_unseen files) hs → (h : Hit) → IsMember ks h → h.member.file.0 < length ranks
kept_within files ranks of hs ks hits is h m =
    let among = among_where (is_unseen files) hs h (subst (λ zs. IsMember zs h) is m) in
    subst (λ k. h.member.file.0 < k) (sym of.each) (within_files files h.member (hits h among.0).0)

-- whether something is waited on
pub some_waits : (ks : List LinkKey) → not (is_nil ks) ≡ true → ks ≡ [] → ⊥
some_waits [] t e = cc
some_waits (k ∷ ks) t e = cc

pub no_waits : (ks : List LinkKey) → not (is_nil ks) ≡ false → ks ≡ []
no_waits [] f = refl
no_waits (k ∷ ks) f = cc
