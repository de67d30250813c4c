-- What holds of every walk over every forest: no name is without a segment, no name and no expression is longer than
-- the text has tokens, and a specialisation's role is one of an element's own.
use Rattle.std.specs.Prelude.{◌≡◌, ℕ, ◌+◌, ◌-◌, ◌≤◌, suc, true, Option, Some, None, List, [], ◌∷◌, length}
use Rattle.element_store.specs.Condition.{is_own}
use Rattle.text_model.specs.declared.draft.Path.{Path}
use Rattle.text_model.specs.declared.draft.Mention.{Mention}
use Rattle.text_model.specs.declared.draft.What.{What}
use Rattle.text_model.specs.declared.draft.What.TheVariants as what
use Rattle.text_model.specs.declared.draft.DraftNode.{DraftNode}
use Rattle.text_model.specs.declared.draft.Draft.{Draft}
use Rattle.text_model.specs.declared.draft.Reading.{Reading}
use Rattle.text_model.specs.declared.draft.Waiting.{Waiting}
use Rattle.text_model.specs.Numbering.{nodes_of}
use Rattle.text_model.specs.Walk.{Walk}

-- it holds of each
abbrev pub Every : {A : Type 0} → (A → Type 0) → List A → Type 0
Every P [] = Unit {0}
Every P (x ∷ xs) = P x × Every P xs

-- where `rest` of all tokens are still to come
pub record PathFits (all rest : ℕ) (p : Path) : Type 0 where
  pub some : 1 ≤ length p.path
  pub short : length p.path + length p.chain + rest ≤ all

-- a name of an alias or an import, which has a segment even where no token was read
pub record NameFits (all : ℕ) (p : Path) : Type 0 where
  pub some : 1 ≤ length p.path
  pub short : length p.path + length p.chain ≤ suc (all - 1)

-- a name among nodes fits
abbrev pub WhatFits : ℕ → ℕ → What → Type 0
WhatFits all rest (what.Named p) = PathFits all rest p
WhatFits all rest other = Unit {0}

-- so does each
abbrev pub NodesFit : ℕ → ℕ → List DraftNode → Type 0
NodesFit all rest ns = Every (λ n. WhatFits all rest n.what) ns

-- a specialisation's name fits, and its role is one of an element's own
pub record SpecFits (all rest : ℕ) (m : Mention) : Type 0 where
  pub path : PathFits all rest m.path
  pub own : is_own m.role ≡ true

-- all names and expressions of an element fit
pub record DraftFits (all rest : ℕ) (d : Draft) : Type 0 where
  pub own : Every (PathFits all rest) d.own
  pub specs : Every (SpecFits all rest) d.specs
  pub bounds : NodesFit all rest d.bounds
  pub value : NodesFit all rest (nodes_of d.value)
  pub result : NodesFit all rest (nodes_of d.result)
  pub inner : Every (λ m. NameFits all m.path) d.inner
  pub short_value : length (nodes_of d.value) + rest ≤ all
  pub short_result : length (nodes_of d.result) + rest ≤ all

-- a sign that waits becomes a node
abbrev pub waits : Option Waiting → ℕ
waits None = 0
waits (Some w) = 1

-- and what is read of it, where `most` may be lower
pub record ReadingFits (most all rest : ℕ) (r : Reading) : Type 0 where
  pub nodes : NodesFit all rest r.nodes
  pub short : length r.nodes + waits r.operator + rest ≤ most

-- and all of a walk
pub record WalkFits (most all : ℕ) (w : Walk) : Type 0 where
  pub drafts : Every (DraftFits all (length w.rest)) w.elements
  pub reading : ReadingFits most all (length w.rest) w.reading
  pub rest : length w.rest ≤ all
