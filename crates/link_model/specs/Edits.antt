-- What an edit of one project file may change: the file, and what stands under the names of its public root members.
-- What looked at neither is kept, and over a new name too.
use Rattle.std.specs.Prelude.{◌≡◌, ◌⊎◌, ◌++◌, ◌∷◌, ℕ, Bool, true, false, List, [], Option, None, Some, length, map, slice_get}
use Rattle.linker_base.specs.Members.{IsMember}
use Rattle.demand_core.specs.Computed.{world}
use Rattle.demand_core.specs.Least.{least}
use Rattle.demand_core.specs.Rules.{AgreeAt}
use Rattle.demand_core.specs.Tables.{Decided}
use Rattle.demand_core.specs.declared.looks.Fact.TheVariants.{Key, Outer}
use Rattle.element_store.specs.declared.numbers.FileNo.{FileNo}
use Rattle.element_store.specs.declared.outcome.Outcome.{Outcome}
use Rattle.element_store.specs.declared.models.StoredFile.{StoredFile}
use Rattle.element_store.specs.Model.{Data}
use Rattle.element_store.specs.Stored.{AreFiles, with_model}
use Rattle.link_model.specs.declared.keys.LinkKey.{LinkKey}
use Rattle.link_model.specs.declared.keys.LinkFact.TheVariants.{File, RootName}
use Rattle.link_model.specs.Keys.{same_key}
use Rattle.link_model.specs.Outside.{root_members, seen_in, library_of, keys_of}
use Rattle.link_model.specs.Linking.{rule, link_meaning}

-- the root of the file bears no public member of the name x, neither before the edit nor after it
pub record HasNoRoot (f : ℕ) (s : StoredFile) (m : Option Data) (x : List ℕ) : Type 0 where
  pub before : root_members x (record { number = record { 0 = f }; file = s }) ≡ []
  pub after : root_members x (record { number = record { 0 = f }; file = record s { model = m } }) ≡ []

-- over the table the rule of k looks neither at the file f nor at a name of its public root members
pub record LooksElsewhere
    (files : List StoredFile) (f : ℕ) (s : StoredFile) (m : Option Data) (t : Decided LinkKey Outcome) (k : LinkKey)
    : Type 0 where
  pub file : (g : FileNo) → IsMember ((link_meaning files).looked t k) (Outer (File g)) → g.0 ≡ f → ⊥
  pub names : (x : List ℕ) → IsMember ((link_meaning files).looked t k) (Outer (RootName x)) → HasNoRoot f s m x

-- the file s of the project stands at f, before its model is replaced and after it
pub record IsEdit (files : List StoredFile) (f : ℕ) (s : StoredFile) (m : Option Data) : Type 0 where
  pub stands : slice_get files f ≡ Some s
  pub own : s.library ≡ false
  pub old : AreFiles files
  pub new : AreFiles (with_model files f m)

-- a rule that looks elsewhere asks the same after the edit, over each table that agrees at what it looks at
abbrev pub KeepsRules : List StoredFile → ℕ → StoredFile → Option Data → Type 0
KeepsRules files f s m = (t u : Decided LinkKey Outcome) (k : LinkKey) → AgreeAt ((link_meaning files).looked t k) t u
    → LooksElsewhere files f s m t k
    → rule (library_of (with_model files f m)) k (world (seen_in (with_model files f m)) u)
    ≡ rule (library_of files) k (world (seen_in files) t)

-- The kept references stand before and after the edit. Over the least table before it each of them looks elsewhere, and
-- at kept references alone.
pub record AreUntouched
    (files : List StoredFile) (f : ℕ) (s : StoredFile) (m : Option Data) (kept : LinkKey → Bool)
    : Type 0 where
  pub before : (k : LinkKey) → kept k ≡ true → IsMember (keys_of files) k
  pub after : (k : LinkKey) → kept k ≡ true → IsMember (keys_of (with_model files f m)) k
  pub elsewhere : (k : LinkKey) → kept k ≡ true
      → LooksElsewhere files f s m (least same_key (link_meaning files)) k
  pub closed : (k q : LinkKey) → kept k ≡ true
      → IsMember ((link_meaning files).looked (least same_key (link_meaning files)) k) (Key q) → kept q ≡ true

-- a kept reference has the same outcome in the least linking after the edit, or is cyclic as before
abbrev pub KeepsOutcomes : List StoredFile → ℕ → StoredFile → Option Data → Type 0
KeepsOutcomes files f s m = (kept : LinkKey → Bool) → AreUntouched files f s m kept → (k : LinkKey) → kept k ≡ true
    → least same_key (link_meaning (with_model files f m)) k ≡ least same_key (link_meaning files) k

-- and its asking over the least linking waits on the same references and looks at the same facts
abbrev pub KeepsAskings : List StoredFile → ℕ → StoredFile → Option Data → Type 0
KeepsAskings files f s m = (kept : LinkKey → Bool) → AreUntouched files f s m kept → (k : LinkKey) → kept k ≡ true
    → ((link_meaning (with_model files f m)).answer (least same_key (link_meaning (with_model files f m))) k
    ≡ (link_meaning files).answer (least same_key (link_meaning files)) k)
    × ((link_meaning (with_model files f m)).looked (least same_key (link_meaning (with_model files f m))) k
    ≡ (link_meaning files).looked (least same_key (link_meaning files)) k)

-- the file s of the project is new and has no text yet
pub record IsArrival (files : List StoredFile) (s : StoredFile) : Type 0 where
  pub fresh : IsMember (map (λ y. y.name) files) s.name → ⊥
  pub empty : s.model ≡ None
  pub own : s.library ≡ false

-- a rule that doesn't look at the number of the new file asks the same after its arrival
abbrev pub KeepsOverArrival : List StoredFile → StoredFile → Type 0
KeepsOverArrival files s = (t u : Decided LinkKey Outcome) (k : LinkKey) → AgreeAt ((link_meaning files).looked t k) t u
    → ((g : FileNo) → IsMember ((link_meaning files).looked t k) (Outer (File g)) → g.0 ≡ length files → ⊥)
    → rule (library_of (files ++ s ∷ [])) k (world (seen_in (files ++ s ∷ [])) u)
    ≡ rule (library_of files) k (world (seen_in files) t)

-- the text of a project file came: the file had none before, or is new
abbrev pub HasCome : List StoredFile → List StoredFile → FileNo → Type 0
HasCome before now file = (s : StoredFile) × (slice_get now file.0 ≡ Some s) × (s.library ≡ false)
    × ((before ≡ with_model now file.0 None) ⊎ ((now ≡ before ++ s ∷ []) × (file.0 ≡ length before)))
