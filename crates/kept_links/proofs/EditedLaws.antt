-- The coming or going of a project file's text changes the rules of links with the facts of that file alone.
use Rattle.std.proofs.Common.{◌≡◌, ℕ, ◌+◌, ◌<◌, Bool, true, false, List, [], ◌∷◌, ◌++◌, refl, sym, ◌∙◌, ap, subst, inl, inr, arith}
use Rattle.std.proofs.lemmas.Bool.Decides.{nat_tests}
use Rattle.std.specs.Prelude.{zero, suc, nat_eq, length, map, slice_get, Option, None, Some, ◌⊎◌}
use Rattle.linker_base.specs.Members.{IsMember}
use Rattle.linker_base.proofs.Cases.{bool_cases}
use Rattle.demand_core.specs.Computation.{Asked}
use Rattle.demand_core.specs.Computed.{world, ordered_step, each_once}
use Rattle.demand_core.specs.Least.{least}
use Rattle.demand_core.specs.Rules.{AgreeAt}
use Rattle.demand_core.specs.Tables.{Decided}
use Rattle.demand_core.specs.declared.looks.Fact.{Fact}
use Rattle.demand_core.specs.declared.looks.Fact.TheVariants.{Key, Outer}
use Rattle.element_store.specs.declared.numbers.FileNo.{FileNo}
use Rattle.element_store.specs.declared.outcome.Outcome.{Outcome}
use Rattle.element_store.specs.declared.models.StoredFile.{StoredFile}
use Rattle.element_store.specs.Model.{Data}
use Rattle.element_store.specs.Stored.{AreFiles, with_model}
use Rattle.element_store.proofs.RankLaws.{get-with_model_same, get-with_model_other}
use Rattle.link_model.specs.declared.keys.LinkKey.{LinkKey}
use Rattle.link_model.specs.declared.keys.LinkFact.{LinkFact}
use Rattle.link_model.specs.declared.keys.LinkFact.TheVariants.{File, RootName}
use Rattle.link_model.specs.Edits.{HasNoRoot, LooksElsewhere}
use Rattle.link_model.specs.Keys.{same_key}
use Rattle.link_model.specs.Linking.{rule, link_meaning}
use Rattle.link_model.specs.Outside.{keys_in, keys_of, library_of, root_members, seen_in}
use Rattle.link_model.proofs.ArrivalLaws.{arrival_keeps}
use Rattle.link_model.proofs.EditLaws.{edit_keeps}
use Rattle.link_model.proofs.RuleLaws.{rule_tame}
use Rattle.kept_links.specs.Facts.{facts_of}
use Rattle.kept_links.proofs.FactLaws.{no_root}
use Rattle.kept_links.proofs.RightLaws.{Alters}
use Rattle.kept_links.proofs.StandingLaws.{StandsIn, key_stands, stands_key, in_file, of_file, none_stand, same_file}

abbrev pub Facts : Type 0
Facts = List (Fact LinkKey LinkFact)

-- what the rule of a key looks at over a table
abbrev pub looked_at : List StoredFile → Decided LinkKey Outcome → LinkKey → Facts
looked_at files t k = (link_meaning files).looked t k

-- it looks at its own file, and at keys alone that stand
pub own_file : (files : List StoredFile) (t : Decided LinkKey Outcome) (k : LinkKey) → IsMember (looked_at files t k) (Outer (File k.0.file))
own_file files t k = inl refl

pub looks_keyed : (files : List StoredFile) (t : Decided LinkKey Outcome) (k q : LinkKey) → IsMember (looked_at files t k) (Key q) → IsMember (keys_of files) q
looks_keyed files t k q m = stands_key files q ((rule_tame (library_of files) k).standing (world (seen_in files) t) q m)

-- a file without a model has no roots
pub bare_root : (f : FileNo) (s : StoredFile) (x : List ℕ) → s.model ≡ None → root_members x (record { number = f; file = s }) ≡ []
bare_root f s x e = ap (λ (m : Option Data). root_members x (record { number = f; file = record s { model = m } })) e

-- from a rule that gives the same to its answer and its looks
pub both_same : (files others : List StoredFile) (k : LinkKey) (s t : Decided LinkKey Outcome)
    → rule (library_of others) k (world (seen_in others) t) ≡ rule (library_of files) k (world (seen_in files) s)
    → ((link_meaning others).answer t k ≡ (link_meaning files).answer s k) × ((link_meaning others).looked t k ≡ (link_meaning files).looked s k)
both_same files others k s t same =
    (ap (λ (a : Asked LinkKey LinkFact Outcome). ordered_step (each_once same_key) a.step) same, ap (λ (a : Asked LinkKey LinkFact Outcome). a.looks) same)

pub differ : (a b : ℕ) → nat_eq a b ≡ false → a ≡ b → ⊥
differ a b h e = grind (arith, nat_tests)

pub agree : (a b : ℕ) → nat_eq a b ≡ true → a ≡ b
agree a b h = grind (arith, nat_tests)

-- a fact of a file by its number
pub at_number : (facts : Facts) (f g : FileNo) → g.0 ≡ f.0 → IsMember facts (Outer (File f)) → IsMember facts (Outer (File g))
at_number facts f g same m = subst (λ (n : ℕ). IsMember facts (Outer (File (record { 0 = n })))) (sym same) m

-- The model of a file is replaced by another, or goes, or comes. Facts among which are the file and the roots under each name of the old model and the new.
module _ (files : List StoredFile) (f : FileNo) (s : StoredFile) (m : Option Data) (at : slice_get files f.0 ≡ Some s) (own : s.library ≡ false) (facts : Facts)
    (file : IsMember facts (Outer (File f)))
    (names : (x : List ℕ) → (IsMember facts (Outer (RootName x)) → ⊥) → HasNoRoot f.0 s m x)
  where
    pub elsewhere : (t : Decided LinkKey Outcome) (k : LinkKey) → ((x : Fact LinkKey LinkFact) → IsMember facts x → IsMember (looked_at files t k) x → ⊥)
        → LooksElsewhere files f.0 s m t k
    elsewhere t k avoids = record {
      file = λ g look same. avoids (Outer (File g)) (at_number facts f g same file) look;
      names = λ x look. names x (λ given. avoids (Outer (RootName x)) given look);
    }

    kept_stands : (k : LinkKey) → (k.0.file.0 ≡ f.0 → ⊥) → StandsIn files k → StandsIn (with_model files f.0 m) k
    kept_stands k off h = same_file files (with_model files f.0 m) k (sym (get-with_model_other files f.0 m k.0.file.0 off)) h

    stood : (k : LinkKey) → (k.0.file.0 ≡ f.0 → ⊥) → StandsIn (with_model files f.0 m) k → StandsIn files k
    stood k off h = same_file (with_model files f.0 m) files k (get-with_model_other files f.0 m k.0.file.0 off) h

    -- a reference that is lost is one of the file
    pub lost_in_edit : (k : LinkKey) → IsMember (keys_of files) k → (IsMember (keys_of (with_model files f.0 m)) k → ⊥) → k.0.file.0 ≡ f.0
    lost_in_edit k i out = elim (bool_cases (nat_eq k.0.file.0 f.0)) [
      | inl a ↦ agree k.0.file.0 f.0 a
      | inr b ↦ absurd (out (stands_key (with_model files f.0 m) k (kept_stands k (differ k.0.file.0 f.0 b) (key_stands files k i))))
    ]

    -- and one that comes too
    pub come_in_edit : (k : LinkKey) → IsMember (keys_of (with_model files f.0 m)) k → IsMember (keys_of files) k ⊎ (k.0.file.0 ≡ f.0)
    come_in_edit k i = elim (bool_cases (nat_eq k.0.file.0 f.0)) [
      | inl a ↦ inr (agree k.0.file.0 f.0 a)
      | inr b ↦ inl (stands_key files k (stood k (differ k.0.file.0 f.0 b) (key_stands (with_model files f.0 m) k i)))
    ]

    pub edit_alters : (new : List LinkKey)
        → ((k : LinkKey) → IsMember (keys_of (with_model files f.0 m)) k → k.0.file.0 ≡ f.0 → IsMember (keys_of files) k ⊎ IsMember new k)
        → ((k : LinkKey) → IsMember new k → IsMember (keys_of files) k → ⊥)
        → Alters same_key (link_meaning files) (link_meaning (with_model files f.0 m)) facts new
    edit_alters new come fresh = record {
      alike = λ k i j avoids t fits agrees.
          both_same files (with_model files f.0 m) k (least same_key (link_meaning files)) t
          (edit_keeps files f.0 s m at own (least same_key (link_meaning files)) t k agrees (elsewhere (least same_key (link_meaning files)) k avoids));
      keyed = λ k q i look. looks_keyed files (least same_key (link_meaning files)) k q look;
      lost = λ k i out. (
        Outer (File k.0.file),
        at_number facts f k.0.file (lost_in_edit k i out) file,
        own_file files (least same_key (link_meaning files)) k,
      );
      come = λ k i. elim (come_in_edit k i) [ inl j ↦ inl j | inr same ↦ come k i same ];
      fresh = fresh;
    }

-- THE GOING of a text: the facts are those of the file before
pub going_alters : (files : List StoredFile) (f : FileNo) (s : StoredFile) → slice_get files f.0 ≡ Some s → s.library ≡ false
    → Alters same_key (link_meaning files) (link_meaning (with_model files f.0 None)) (facts_of f (slice_get files f.0)) []
going_alters files f s at own =
    subst (λ (o : Option StoredFile). Alters same_key (link_meaning files) (link_meaning (with_model files f.0 None)) (facts_of f o) []) (sym at)
    (edit_alters files f s None at own (facts_of f (Some s)) (inl refl)
    (λ x out. record { before = no_root f s x out; after = bare_root f (record s { model = None }) x refl })
    []
    (λ k i same. absurd (none_stand (with_model files f.0 None) k (gone k same) (key_stands (with_model files f.0 None) k i)))
    (λ k i j. i))
  where
    gone : (k : LinkKey) → k.0.file.0 ≡ f.0 → (t : StoredFile) → slice_get (with_model files f.0 None) k.0.file.0 ≡ Some t → t.model ≡ None
    gone k same t there =
        let here : slice_get (with_model files f.0 None) f.0 ≡ Some t = subst (λ (n : ℕ). slice_get (with_model files f.0 None) n ≡ Some t) same there in
        let is : Some (record s { model = None }) ≡ Some t = sym (get-with_model_same files f.0 None s at) ∙ here in
        let e : record s { model = None } ≡ t = cc in
        sym (ap (λ (u : StoredFile). u.model) e)

-- THE COMING of a text to a file that had none: the facts are those of the file after
pub coming_alters : (now : List StoredFile) (f : FileNo) (s : StoredFile) → slice_get now f.0 ≡ Some s → s.library ≡ false
    → Alters same_key (link_meaning (with_model now f.0 None)) (link_meaning now) (facts_of f (slice_get now f.0)) (keys_in (record { number = f; file = s }))
coming_alters now f s at own =
    subst (λ (o : Option StoredFile). Alters same_key (link_meaning before) (link_meaning now) (facts_of f o) new) (sym at)
    (subst (λ (fs : List StoredFile). Alters same_key (link_meaning before) (link_meaning fs) (facts_of f (Some s)) new) (again now f.0 s at)
    (edit_alters before f bare s.model (get-with_model_same now f.0 None s at) own (facts_of f (Some s)) (inl refl)
    (λ x out. record { before = bare_root f bare x refl; after = no_root f s x out })
    new
    (λ k i same. inr (in_file now f s k at same (key_stands now k (subst (λ (fs : List StoredFile). IsMember (keys_of fs) k) (again now f.0 s at) i))))
    (λ k i j. none_stand before k (none_before k (ap (λ (g : FileNo). g.0) (of_file f s k i))) (key_stands before k j))))
  where
    before : List StoredFile
    before = with_model now f.0 None

    bare : StoredFile
    bare = record s { model = None }

    new : List LinkKey
    new = keys_in (record { number = f; file = s })

    none_before : (k : LinkKey) → k.0.file.0 ≡ f.0 → (t : StoredFile) → slice_get before k.0.file.0 ≡ Some t → t.model ≡ None
    none_before k same t there =
        let here : slice_get before f.0 ≡ Some t = subst (λ (n : ℕ). slice_get before n ≡ Some t) same there in
        let is : Some bare ≡ Some t = sym (get-with_model_same now f.0 None s at) ∙ here in
        let e : bare ≡ t = cc in
        sym (ap (λ (u : StoredFile). u.model) e)

    again : (files : List StoredFile) (n : ℕ) (t : StoredFile) → slice_get files n ≡ Some t → with_model (with_model files n None) n t.model ≡ files
    again [] n t e = refl
    again (x ∷ files) zero t e = let is : x ≡ t = cc in λ i. record x { model = sym (ap (λ (u : StoredFile). u.model) is) i } ∷ files
    again (x ∷ files) (suc n) t e = ap (λ (fs : List StoredFile). x ∷ fs) (again files n t e)
