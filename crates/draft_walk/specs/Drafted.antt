-- What is told of a text: the parser's events are heard, and the drafts are those of the walk over its tree.
use Rattle.std.specs.Prelude.{◌≡◌, ℕ, None, List, []}
use Rattle.token_core.specs.Reading.{AreTokensOf}
use Rattle.ll_core.specs.Derives.{Forest, IsTree, IsSyntaxPlace}
use Rattle.ll_core.specs.Parsing.{Parsing, IsTold}
use Rattle.text_model.specs.declared.fault.FileFault.{FileFault}
use Rattle.text_model.specs.declared.fault.FileFault.TheVariants.{Syntax, NoMemory}
use Rattle.text_model.specs.Languages.{grammar_of}
use Rattle.text_model.specs.Tables.{tables}
use Rattle.text_model.specs.Walk.{Walk}
use Rattle.text_model.specs.Profile.{kinds_of, drafts_of, token_place}
use Rattle.draft_walk.specs.declared.telling.Drafts.{Drafts}
use Rattle.draft_walk.specs.declared.telling.Source.{Source}
use Rattle.draft_walk.specs.Telling.{Telling, begun, run}

-- all that the parser gave was told, and each token to come stands in the text
pub record IsHeard (s : Source) (p : Parsing) (t : Telling) : Type 0 where
  pub heard : t ≡ run (tables s.language) s.text.now (begun s.tokens.now) p.given
  pub known : AreTokensOf s.text.now t.now.rest

-- the parser told the whole tree of the tokens
pub record IsWhole (s : Source) (p : Parsing) (t : Telling) : Type 0 where
  pub table : p.table ≡ grammar_of s.language
  pub shifted : p.shifted ≡ kinds_of s.tokens.now
  pub told : IsTold p
  pub heard : IsHeard s p t

-- the parser of the language has told nothing
pub record IsFresh (s : Source) (p : Parsing) (t : Telling) : Type 0 where
  pub table : p.table ≡ grammar_of s.language
  pub shifted : p.shifted ≡ []
  pub ahead : p.ahead ≡ None
  pub fault : p.fault ≡ None
  pub heard : IsHeard s p t

-- the lists are those of the walk
pub record HasDrafts (d : Drafts) (w : Walk) : Type 0 where
  pub elements : d.elements.items ≡ w.elements
  pub members : d.members.items ≡ w.members
  pub imports : d.imports.items ≡ w.imports
  pub large : d.large.items ≡ w.large

-- the language derives the tokens, and the drafts are those of the walk over the tree
pub record IsDrafted (s : Source) (d : Drafts) : Type 0 where
  pub tree : Forest
  pub derived : IsTree (grammar_of s.language) (kinds_of s.tokens.now) tree
  pub drafts : HasDrafts d (drafts_of s.language s.text.now s.tokens.now tree)

-- the token at which the text stops beginning any text of the language, or want of memory
abbrev pub IsTreeFault : Source → FileFault → Type 0
IsTreeFault s (Syntax place) =
    (n : ℕ) × IsSyntaxPlace (grammar_of s.language) (kinds_of s.tokens.now) n
    × (place ≡ token_place s.text.now s.tokens.now n)
IsTreeFault s NoMemory = Unit {0}
IsTreeFault s other = ⊥
