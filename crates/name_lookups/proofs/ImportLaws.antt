-- What an import brings stands in the models.
use Rattle.std.proofs.Common.{◌≡◌, ℕ, ◌<◌, ◌≤◌, Bool, true, false, cond, List, [], ◌∷◌, ◌++◌, refl, sym, ap, subst, inl, inr, arith, zero-add}
use Rattle.std.specs.Prelude.{◌&&◌, nat_eq, nat_lt, map, length, slice_get, Option, None, Some}
use Rattle.std.specs.Cmp.Lexicographic.{pointwise}
use Rattle.linker_base.specs.Members.{IsMember}
use Rattle.linker_base.proofs.MemberLaws.{member_cases}
use Rattle.demand_core.specs.Rules.{AllFit}
use Rattle.demand_core.specs.Tables.{Decided}
use Rattle.demand_core.specs.Computation.{done, read, read_step, look, then_step, ◌>>=◌, join_step, join, joined}
use Rattle.demand_core.specs.declared.step.Step.{Step}
use Rattle.demand_core.specs.declared.step.Step.TheVariants.{Done, Waits}
use Rattle.element_store.specs.declared.numbers.FileNo.{FileNo}
use Rattle.element_store.specs.declared.numbers.ElementNo.{ElementNo}
use Rattle.element_store.specs.declared.numbers.ImportNo.{ImportNo}
use Rattle.element_store.specs.declared.numbers.MemberNo.{MemberNo}
use Rattle.element_store.specs.declared.outcome.Outcome.{Outcome}
use Rattle.element_store.specs.declared.outcome.Outcome.TheVariants.{Linked, Absent, Ambiguous, Hidden, Cyclic}
use Rattle.element_store.specs.declared.records.Import.{Import}
use Rattle.element_store.specs.declared.records.Member.{Member}
use Rattle.element_store.specs.declared.models.StoredFile.{StoredFile}
use Rattle.element_store.specs.Model.{Data}
use Rattle.element_store.specs.Numbers.{numbers_from}
use Rattle.element_store.specs.Stored.{AreFiles}
use Rattle.element_store.proofs.NumberLaws.{numbers_below}
use Rattle.link_model.specs.declared.keys.LinkKey.{LinkKey}
use Rattle.link_model.specs.declared.keys.LinkFact.TheVariants.{File}
use Rattle.link_model.specs.declared.keys.Hit.{Hit}
use Rattle.link_model.specs.Imports.{owns, owning_hit, last_written, under_name, brought, visible, imported}
use Rattle.link_model.specs.Linking.{ElementStands, MemberStands, Fits}
use Rattle.link_model.specs.Names.{names}
use Rattle.link_model.specs.Outside.{Library, model_in}
use Rattle.link_model.specs.Readers.{Lookup, LinkWorld, is_named, told, model, key, led_to, target}
use Rattle.link_model.proofs.FitLaws.{All, Gives, HitStands, here, gives_visible}

-- what each may give
abbrev Any : {A : Type 0} → A → Type 0
Any x = Unit {0}

all_none : {A : Type 0} {P : A → Type 0} → All P []
all_none = record { each = λ x m. absurd m }

all_of : {A : Type 0} {P : A → Type 0} (x : A) (xs : List A) → P x → All P xs → All P (x ∷ xs)
all_of {P = P} x xs p ps = record { each = λ y. elim [ inl e ↦ subst P e p | inr m ↦ ps.each y m ] }

all_rest : {A : Type 0} {P : A → Type 0} (x : A) (xs : List A) → All P (x ∷ xs) → All P xs
all_rest x xs p = record { each = λ y m. p.each y (inr m) }

all_both : {A : Type 0} {P : A → Type 0} (xs ys : List A) → All P xs → All P ys → All P (xs ++ ys)
all_both xs ys p q = record { each = λ x m. elim (member_cases xs ys x m) [ inl a ↦ p.each x a | inr b ↦ q.each x b ] }

all_map : {A B : Type 0} {P : A → Type 0} (Q : B → Type 0) (f : A → B) (xs : List A) → ((x : A) → P x → Q (f x)) → All P xs → All Q (map f xs)
all_map Q f [] h p = all_none
all_map Q f (x ∷ xs) h p = all_of (f x) (map f xs) (h x (p.each x (inl refl))) (all_map Q f xs h (all_rest x xs p))

module _ (w : LinkWorld) where
  gives_done : {A : Type 0} (Q : A → Type 0) (x : A) → Q x → Gives w Q (done x)
  gives_done {A} Q x q = record { given = λ y e. let same : x ≡ y = cc in subst Q same q }

  gives_any : {A : Type 0} (c : Lookup A) → Gives w Any c
  gives_any c = record { given = λ x e. tt }

  then_by : {A B : Type 0} {P : A → Type 0} {Q : B → Type 0} (c : Lookup A) (f : A → Lookup B) → Gives w P c → ((x : A) → P x → Gives w Q (f x))
      → (step : Step LinkKey A) → (c w).step ≡ step → (y : B) → (then_step (c w) (λ x. f x w) step).step ≡ Done y → Q y
  then_by c f p q (Done x) here y e = (q x (p.given x here)).given y e
  then_by c f p q (Waits ks) here y e = cc

  gives_then : {A B : Type 0} {P : A → Type 0} {Q : B → Type 0} (c : Lookup A) (f : A → Lookup B) → Gives w P c → ((x : A) → P x → Gives w Q (f x))
      → Gives w Q (c >>= f)
  gives_then c f p q = record { given = λ y e. then_by c f p q (c w).step refl y e }

  join_by : {A : Type 0} {P : A → Type 0} (c d : Lookup (List A)) → Gives w (All P) c → Gives w (All P) d
      → (a b : Step LinkKey (List A)) → (c w).step ≡ a → (d w).step ≡ b → (y : List A) → join_step a b ≡ Done y → All P y
  join_by {P = P} c d p q (Done xs) (Done ys) g h y e = let same : xs ++ ys ≡ y = cc in subst (All P) same (all_both xs ys (p.given xs g) (q.given ys h))
  join_by c d p q (Done xs) (Waits ks) g h y e = cc
  join_by c d p q (Waits ks) (Done ys) g h y e = cc
  join_by c d p q (Waits ks) (Waits ls) g h y e = cc

  gives_join : {A : Type 0} {P : A → Type 0} (c d : Lookup (List A)) → Gives w (All P) c → Gives w (All P) d → Gives w (All P) (join c d)
  gives_join c d p q = record { given = λ y e. join_by c d p q (c w).step (d w).step refl refl y e }

  gives_none : {A : Type 0} (P : A → Type 0) → Gives w (All P) (done [])
  gives_none P = gives_done (All P) [] all_none

  gives_joined : {A B : Type 0} (P : A → Type 0) (f : B → Lookup (List A)) (xs : List B) → ((x : B) → IsMember xs x → Gives w (All P) (f x))
      → Gives w (All P) (joined f xs)
  gives_joined P f [] p = gives_none P
  gives_joined P f (x ∷ xs) p = gives_join (f x) (joined f xs) (p x (inl refl)) (gives_joined P f xs (λ y m. p y (inr m)))

  gives_cond : {A : Type 0} {Q : A → Type 0} (b : Bool) (c d : Lookup A) → Gives w Q c → Gives w Q d → Gives w Q (cond b c d)
  gives_cond true c d p q = p
  gives_cond false c d p q = q

module _ (files : List StoredFile) (are : AreFiles files) (s : Decided LinkKey Outcome) (fit : AllFit {K = LinkKey} (λ k o. Fits files o) s) where
  abbrev at : LinkWorld
  at = here files are s fit

  abbrev Hits : List Hit → Type 0
  Hits = All (HitStands files are s fit)

  gives_told : {A B : Type 0} (P : A → Type 0) (o : Option B) (f : B → Lookup (List A)) → ((x : B) → o ≡ Some x → Gives at (All P) (f x))
      → Gives at (All P) (told o f)
  gives_told P None f h = gives_none at P
  gives_told P (Some x) f h = h x refl

  gives_model : (f : FileNo) → Gives at (λ d. d ≡ model_in (slice_get files f.0)) (model f)
  gives_model f = record { given = λ d e. let same : model_in (slice_get files f.0) ≡ d = cc in sym same }

  abbrev Stand : List ElementNo → Type 0
  Stand = All (ElementStands files)

  no_element : Gives at Stand (done [])
  no_element = gives_none at (ElementStands files)

  gives_led : (o : Outcome) → Fits files o → Gives at Stand (led_to o)
  gives_led (Linked steps e) f =
      gives_then at (look (File e.file)) (λ x. done (e ∷ [])) (gives_any at (look (File e.file)))
      (λ x any. gives_done at Stand (e ∷ []) (all_of e [] f.1 all_none))
  gives_led (Absent n) f = no_element
  gives_led (Ambiguous n a b) f = no_element
  gives_led (Hidden n a) f = no_element
  gives_led (Cyclic on) f = no_element

  read_by : (r : LinkKey) (v : Option Outcome) → s r ≡ v → (o : Outcome) → read_step r v ≡ Done o → Fits files o
  read_by r None h o e = cc
  read_by r (Some v) h o e = let same : v ≡ o = cc in subst (Fits files) same (fit r v h)

  gives_read : (r : LinkKey) → Gives at (Fits files) (read r)
  gives_read r = record { given = λ o e. read_by r (s r) refl o e }

  gives_target : (r : LinkKey) → Gives at Stand (target r)
  gives_target r = gives_then at (model r.0.file) (λ d. cond (nat_lt r.0.index (length d.references)) (read r >>= led_to) (done []))
      (gives_any at (model r.0.file)) (λ d any.
      gives_cond at (nat_lt r.0.index (length d.references)) (read r >>= led_to) (done [])
      (gives_then at (read r) led_to (gives_read r) gives_led) no_element)

  no_hit : Gives at Hits (done [])
  no_hit = gives_none at (HitStands files are s fit)

  -- a member that is counted stands
  number_stands : (f : FileNo) (test : Member → Bool) (k : ℕ) → IsMember (numbers_from 0 test (model_in (slice_get files f.0)).members) k
      → MemberStands files (record { file = f; index = k })
  number_stands f test k m = by (slice_get files f.0) refl
      (numbers_below test 0 (length (model_in (slice_get files f.0)).members) (model_in (slice_get files f.0)).members k
      (zero-add (length (model_in (slice_get files f.0)).members)) m)
    where
      of_model : (x : StoredFile) (o : Option Data) → x.model ≡ o → slice_get files f.0 ≡ Some x → k < length (model_in (Some (record x { model = o }))).members
          → MemberStands files (record { file = f; index = k })
      of_model x None none is lt = absurd (omega (arith, lt))
      of_model x (Some d) some is lt = (d, (rw is some), lt)

      by : (o : Option StoredFile) → slice_get files f.0 ≡ o → k < length (model_in o).members → MemberStands files (record { file = f; index = k })
      by None is lt = absurd (omega (arith, lt))
      by (Some x) is lt = of_model x x.model refl is lt

  gives_owning : (e : ElementNo) → ElementStands files e → Gives at Hits (owning_hit e)
  gives_owning e p = gives_then at (model e.file)
      (λ d. done (map (λ k. record { member = record { file = e.file; index = k }; element = e }) (numbers_from 0 (λ m. owns e.index m.target) d.members)))
      (gives_model e.file) (λ d same.
      gives_done at Hits (map (λ k. record { member = record { file = e.file; index = k }; element = e })
      (numbers_from 0 (λ m. owns e.index m.target) d.members))
      (all_map {P = λ k. MemberStands files (record { file = e.file; index = k })} (HitStands files are s fit)
      (λ k. record { member = record { file = e.file; index = k }; element = e }) (numbers_from 0 (λ m. owns e.index m.target) d.members) (λ k q. (q, p))
      (record {
        each = λ k m. number_stands e.file (λ x. owns e.index x.target) k
            (subst (λ (y : Data). IsMember (numbers_from 0 (λ x. owns e.index x.target) y.members) k) same m);
      })))

  gives_under : (x last : List ℕ) (e : ElementNo) → ElementStands files e → Gives at Hits (under_name x last e)
  gives_under x last e p = gives_cond at (pointwise nat_eq x last) (owning_hit e)
      (names e >>= λ ns. cond (is_named x ns && is_named last ns) (owning_hit e) (done [])) (gives_owning e p)
      (gives_then at (names e) (λ ns. cond (is_named x ns && is_named last ns) (owning_hit e) (done [])) (gives_any at (names e)) (λ ns any.
      gives_cond at (is_named x ns && is_named last ns) (owning_hit e) (done []) (gives_owning e p) no_hit))

  module _ (again : Bool → Bool → ElementNo → Lookup (List Hit)) (r : (recursive all : Bool) (e : ElementNo) → Gives at Hits (again recursive all e)) where
    gives_brought : (x : List ℕ) (f : FileNo) (i : Import) → Gives at Hits (brought again x f i)
    gives_brought x f i = gives_then at (model f) _ (gives_any at (model f))
        (λ d any. gives_then at (target (key f i.reference)) _ (gives_target (key f i.reference)) (λ es p.
        gives_joined at (HitStands files are s fit) _ es
        (λ e among. gives_cond at i.star (again i.recursive i.all e)
        (join (under_name x (last_written d i) e) (cond i.recursive (again true i.all e) (done []))) (r i.recursive i.all e)
        (gives_join at (under_name x (last_written d i) e) (cond i.recursive (again true i.all e) (done []))
        (gives_under x (last_written d i) e (p.each e among)) (gives_cond at i.recursive (again true i.all e) (done []) (r true i.all e) no_hit)))))

  -- WHAT AN IMPORT BRINGS stands
  pub gives_imported : (lib : Library) (x : List ℕ) (excluded : List ElementNo) (i : ImportNo) → Gives at Hits (imported lib x excluded i)
  gives_imported lib x excluded i = gives_then at (model i.file) (λ d. told (slice_get d.imports i.index) (brought (visible lib x excluded) x i.file))
      (gives_any at (model i.file)) (λ d any.
      gives_told (HitStands files are s fit) (slice_get d.imports i.index) (brought (visible lib x excluded) x i.file)
      (λ j is. gives_brought (visible lib x excluded) (gives_visible files are s fit lib x excluded) x i.file j))
