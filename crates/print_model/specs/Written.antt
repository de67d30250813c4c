-- What a model's parts must be for its text to be cut at its tokens: names and texts that can be spelt, words of its
-- language, comments that end where they close.
use Rattle.std.specs.Prelude.{◌≡◌, ◌⊎◌, ℕ, ◌<◌, ◌^◌, Bool, true, ◌&&◌, is_some, Option, Some, None, pos, IsUtf8, List, [], ◌∷◌, ◌++◌, codes, slice_index_or}
use Rattle.std.specs.List.{list_all, flat_map}
use Rattle.element_store.specs.declared.numbers.FileNo.{FileNo}
use Rattle.element_store.specs.declared.outcome.Language.{Language}
use Rattle.element_store.specs.declared.outcome.Language.TheVariants.{Sysml}
use Rattle.element_store.specs.declared.kind.Kind.{Kind}
use Rattle.element_store.specs.declared.kind.Kind.TheVariants as kind
use Rattle.element_store.specs.declared.kind.PartOf.{PartOf}
use Rattle.element_store.specs.declared.kind.PartOf.TheVariants as part
use Rattle.element_store.specs.declared.records.Element.{Element}
use Rattle.element_store.specs.declared.records.Member.{Member}
use Rattle.element_store.specs.declared.records.Target.{Target}
use Rattle.element_store.specs.declared.records.Target.TheVariants as target
use Rattle.element_store.specs.declared.lists.Item.{Item}
use Rattle.element_store.specs.declared.lists.Item.TheVariants as item
use Rattle.element_store.specs.declared.expression.Node.{Node}
use Rattle.element_store.specs.declared.expression.Bounds.{Bounds}
use Rattle.element_store.specs.declared.expression.Limit.{Limit}
use Rattle.element_store.specs.declared.expression.Limit.TheVariants as limit
use Rattle.element_store.specs.Model.{Data}
use Rattle.token_core.specs.Words.{words, parted, place_in}
use Rattle.token_core.specs.Pieces.{IsUpToClose}
use Rattle.token_core.specs.Spelling.{is_basic_name}
use Rattle.token_core.specs.Reading.{IsSpellable}
use Rattle.text_model.specs.declared.draft.Path.{Path}
use Rattle.text_model.specs.Profile.{InProfile}
use Rattle.text_laws.specs.Fits.{Every}
use Rattle.print_model.specs.Trees.{Tree, Integer, Boolean, Text, Null, Named, Before, Between, Choice}
use Rattle.print_model.specs.Heads.{element_at, member_at, items_at, no_import, path_in, path_at, spelt, kind_word, body_bytes, is_end, ends_of, model_lines, printed_text}
use Rattle.print_model.specs.ReadBack.{HasTokens}

-- a qualified name or chain with a segment, whose segments can be spelt
pub record IsWrittenPath (p : Path) : Type 0 where
  pub some : p.path ≡ [] → ⊥
  pub path : Every IsSpellable p.path
  pub chain : Every IsSpellable p.chain

-- an expression whose names and texts can be spelt, and whose integers are values
abbrev pub IsWritten : Tree → Type 0
IsWritten (Integer n) = n < 2 ^ 63
IsWritten (Boolean b) = Unit {0}
IsWritten (Text bytes) = IsSpellable bytes
IsWritten Null = Unit {0}
IsWritten (Named p) = IsWrittenPath p
IsWritten (Before o a) = IsWritten a
IsWritten (Between o a b) = IsWritten a × IsWritten b
IsWritten (Choice a b c) = IsWritten a × IsWritten b × IsWritten c

-- the bytes are a reserved word of the language
abbrev pub is_word_of : Language → List ℕ → Bool
is_word_of l bytes = is_basic_name bytes && is_some (place_in (words l) bytes)

-- a name or a text, if there is one
abbrev pub IsSpellableIn : Option (List ℕ) → Type 0
IsSpellableIn None = Unit {0}
IsSpellableIn (Some bytes) = IsSpellable bytes

-- an end of bounds
abbrev pub IsWrittenLimit : Data → Option Limit → Type 0
IsWrittenLimit d None = Unit {0}
IsWrittenLimit d (Some (limit.Number i)) = (n : ℕ) × (i ≡ pos n) × (n < 2 ^ 63)
IsWrittenLimit d (Some (limit.Named r)) = IsWrittenPath (path_at d r)
IsWrittenLimit d (Some limit.Star) = Unit {0}

-- bounds, if there are any
abbrev pub AreWrittenBounds : Data → Option Bounds → Type 0
AreWrittenBounds d None = Unit {0}
AreWrittenBounds d (Some b) = IsWrittenLimit d b.lower × IsWrittenLimit d b.upper

-- a value or a result, if there is one
abbrev pub AreWrittenNodes : Data → Option (List Node) → Type 0
AreWrittenNodes d None = Unit {0}
AreWrittenNodes d (Some ns) = (t : Tree) × (spelt d ns [] ≡ t ∷ []) × IsWritten t

-- the kind's word, or that of its part, is one of the language
abbrev pub is_kind_of : Language → PartOf → Kind → Bool
is_kind_of l part.Subject k = is_word_of l (codes "subject")
is_kind_of l other kind.Reference = true
is_kind_of l other k = list_all (is_word_of l) (parted (kind_word k))

-- `return`, `assume` or `require` is a word of the language, where it stands
abbrev pub is_part_of : Language → PartOf → Bool
is_part_of l part.Return = is_word_of l (codes "return")
is_part_of l part.Assume = is_word_of l (codes "assume")
is_part_of l part.Require = is_word_of l (codes "require")
is_part_of l other = true

-- what is read of an element; only SysML has ends
pub record IsWrittenElement (d : Data) (n : ℕ) (e : Element) : Type 0 where
  pub short : IsSpellableIn e.short
  pub name : IsSpellableIn e.name
  pub locale : IsSpellableIn e.locale
  pub body : IsUpToClose (body_bytes e.body ++ codes "*/")
  pub said : IsUtf8 (body_bytes e.body)
  pub bounds : AreWrittenBounds d e.bounds
  pub value : AreWrittenNodes d e.value
  pub result : AreWrittenNodes d e.result
  pub ends : (ends_of d n ≡ []) ⊎ (d.language ≡ Sysml)

-- an element that is owned is an end, or its words are those of the language
pub record HasWords (l : Language) (e : Element) : Type 0 where
  pub kind : is_kind_of l e.marks.part_of e.kind ≡ true
  pub part : is_part_of l e.marks.part_of ≡ true

-- what is read of a member: of an alias its names and what it stands for
abbrev pub IsWrittenTarget : Data → Member → Target → Type 0
IsWrittenTarget d m (target.Owned c) = (is_end (element_at d c).kind ≡ true) ⊎ HasWords d.language (element_at d c)
IsWrittenTarget d m (target.Alias r) = IsSpellableIn m.short × IsSpellableIn m.name × IsWrittenPath (path_at d r)

-- what is read of an item
abbrev pub IsWrittenItem : Data → Item → Type 0
IsWrittenItem d (item.Member m) = IsWrittenTarget d (member_at d m) (member_at d m).target
IsWrittenItem d (item.Import i) = IsWrittenPath (path_at d (slice_index_or d.imports i no_import).reference)

-- all of this
pub record CanBeWritten (d : Data) : Type 0 where
  pub elements : (n : ℕ) → IsWrittenElement d n (element_at d n)
  pub items : (n : ℕ) → Every (IsWrittenItem d) (items_at d n)
  pub references : Every (λ r. IsWrittenPath (path_in r)) d.references

-- the text of such a model is UTF-8, and has just its tokens
abbrev pub WrittenTextsLex : Type 0
WrittenTextsLex =
    (d : Data)
    → CanBeWritten d
    → IsUtf8 (printed_text d)
    × HasTokens d.language (printed_text d) (flat_map (λ x. x.tokens) (model_lines d))

-- each name in the model of a text has a segment, and its segments can be spelt
abbrev pub NamesCanBeSpelt : Type 0
NamesCanBeSpelt =
    (file : FileNo) (language : Language) (text : List ℕ) (d : Data)
    → InProfile file language text d → Every (λ r. IsWrittenPath (path_in r)) d.references
