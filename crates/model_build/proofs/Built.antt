-- From what was told and numbered to the model of the text, or its fault.
use Rattle.std.proofs.Common.{◌≡◌, ◌<◌, ◌^◌, ℕ, List, [], ◌++◌, length, ap, sym, subst, ◌∙◌}
use Rattle.std.specs.Prelude.{Option, Some, None, Result, Ok, Err, IfErr, IsErrAnd}
use Rattle.std.specs.List.{flat_map}
use Rattle.std.specs.Option.{option_to_list}
use Rattle.element_store.specs.declared.numbers.FileNo.{FileNo}
use Rattle.element_store.specs.Condition.{IsModel}
use Rattle.element_store.specs.Model.{Data}
use Rattle.token_core.specs.declared.token.Token.{Token}
use Rattle.token_core.specs.Lex.{Lexes}
use Rattle.text_model.specs.declared.fault.FileFault.{FileFault}
use Rattle.text_model.specs.declared.fault.FileFault.TheVariants as fault
use Rattle.text_model.specs.Walk.{Walk}
use Rattle.text_model.specs.Numbering.{least, limits, model_of, place_over, reference_places}
use Rattle.text_model.specs.Profile.{InProfile, IsFaultOf, IsRead, drafts_of}
use Rattle.text_laws.proofs.BuiltModel.{built_is_model}
use Rattle.draft_walk.specs.declared.telling.Drafts.{Drafts}
use Rattle.draft_walk.specs.declared.telling.Source.{Source}
use Rattle.draft_walk.specs.Drafted.{HasDrafts, IsDrafted, IsTreeFault}
use Rattle.draft_numbers.specs.declared.numbering.Heading.{Heading}
use Rattle.draft_numbers.specs.Numbered.{IsNumbered}
use Rattle.draft_limits.specs.Least.{deep_places, lesser}
use Rattle.draft_limits.proofs.Leasts.{least_append, least_of_one, no_least}
use Rattle.model_build.specs.Found.{IsFound}

-- the lesser of the least places of the three limits is the least place of all
least_of_three : (w : Walk) (large deep many : Option ℕ) → large ≡ least w.large
    → deep ≡ least (flat_map deep_places w.elements)
    → option_to_list many ≡ place_over 262144 (reference_places w.elements)
    → lesser large (lesser deep many) ≡ least (limits w)
least_of_three w large deep many large_is deep_is many_is =
    let places = place_over 262144 (reference_places w.elements) in
    let deeps = flat_map deep_places w.elements in
    ap (λ o. lesser o (lesser deep many)) large_is
    ∙ (ap (λ o. lesser (least w.large) (lesser o many)) deep_is
    ∙ (ap (λ o. lesser (least w.large) (lesser (least deeps) o)) (sym (least_of_one many) ∙ ap least many_is)
    ∙ (ap (lesser (least w.large)) (sym (least_append deeps places))
    ∙ sym (least_append w.large (deeps ++ places)))))

-- numbering and the three limits give what is found
pub found_is : (h : Heading) (d : Drafts) (found : Data) (large deep many few over : Option ℕ)
    → IsNumbered h d.elements.items d.members.items d.imports.items found → large ≡ least d.large.items
    → deep ≡ least (flat_map deep_places d.elements.items)
    → option_to_list many ≡ place_over 262144 found.reference_places
    → few ≡ lesser deep many → over ≡ lesser large few → IsFound h.file h.language d found over
found_is h d found large deep many few over numbered large_is deep_is many_is few_is over_is =
    let model : (w : Walk) → HasDrafts d w → found ≡ model_of h.file h.language w =
    λ (w : Walk) (l : HasDrafts d w). numbered w (sym l.elements) (sym l.members) (sym l.imports) in
    record {
      model = model;
      over = λ (w : Walk) (l : HasDrafts d w). over_is ∙ (ap (lesser large) few_is ∙ least_of_three w large deep many
          (large_is ∙ ap least l.large)
          (deep_is ∙ ap (λ ds. least (flat_map deep_places ds)) l.elements)
          (many_is ∙ ap (λ (m : Data). place_over 262144 m.reference_places) (model w l)));
    }

-- the source has the tokens of its text
abbrev pub IsLexed : Source → Type 0
IsLexed s = Lexes s.language s.text.now (Ok s.tokens.now)

-- the source is made of its tokens
pub has_tokens : (s : Source) (tokens : List Token) → s.tokens.now ≡ tokens → Lexes s.language s.text.now (Ok tokens) → IsLexed s
has_tokens s tokens same lexed = subst (λ (ts : List Token). Lexes s.language s.text.now (Ok ts)) (sym same) lexed

-- the walk over the tree that was told
abbrev pub walked : (s : Source) (d : Drafts) → IsDrafted s d → Walk
walked s d h = drafts_of s.language s.text.now s.tokens.now h.tree

-- tokens and a tree
is_read : (s : Source) (d : Drafts) (h : IsDrafted s d) → IsLexed s → IsRead s.language s.text.now s.tokens.now h.tree
is_read s d h lexed = record { lexed = lexed; derived = h.derived }

-- no least place is found: no limit is passed
within : (s : Source) (d : Drafts) (h : IsDrafted s d) (file : FileNo) (found : Data)
    → IsFound file s.language d found None → limits (walked s d h) ≡ []
within s d h file found f = no_least (limits (walked s d h)) (sym (f.over (walked s d h) h.drafts))

-- what was numbered is the model of the text
pub in_profile : (s : Source) (d : Drafts) (file : FileNo) (found : Data) → IsLexed s → IsDrafted s d
    → IsFound file s.language d found None → InProfile file s.language s.text.now found
in_profile s d file found lexed h f = record {
  tokens = s.tokens.now;
  tree = h.tree;
  read = is_read s d h lexed;
  within = within s d h file found f;
  model = f.model (walked s d h) h.drafts;
}

-- what was numbered meets the condition of models
pub is_model : (s : Source) (d : Drafts) (file : FileNo) (found : Data) → length s.text.now < 2 ^ 32 → IsLexed s
    → IsDrafted s d → IsFound file s.language d found None → IsModel found
is_model s d file found short lexed h f =
    subst (λ (x : Data). IsModel x) (sym (f.model (walked s d h) h.drafts))
    (built_is_model file s.language s.text.now s.tokens.now h.tree short (is_read s d h lexed) (within s d h file found f))

-- the least place that is found is that of the fault
pub limit_passed : (s : Source) (d : Drafts) (file : FileNo) (found : Data) (place : ℕ) → IsLexed s → IsDrafted s d
    → IsFound file s.language d found (Some place) → IsFaultOf s.language s.text.now (fault.Limit place)
limit_passed s d file found place lexed h f =
    (s.tokens.now, h.tree, is_read s d h lexed, sym (f.over (walked s d h) h.drafts))

-- an error that is passed on is what it was
pub passed_on : {T E : Type 0} (r : Result T E) (f : E) (P : E → Type 0) → IsErrAnd r (λ e. e ≡ f) → P f → IfErr r P
passed_on (Ok x) f P e p = tt
passed_on (Err x) f P e p = subst P (sym e) p

-- a fault of the tree is one of the text
pub tree_fault : (s : Source) (f : FileFault) → IsLexed s → IsTreeFault s f → IsFaultOf s.language s.text.now f
tree_fault s (fault.Encoding place) lexed h = absurd h
tree_fault s (fault.Token place) lexed h = absurd h
tree_fault s (fault.TooDeep place) lexed h = absurd h
tree_fault s (fault.Limit place) lexed h = absurd h
tree_fault s (fault.Syntax place) lexed h = (s.tokens.now, h.0, lexed, h.1, h.2)
tree_fault s fault.NoMemory lexed h = tt
