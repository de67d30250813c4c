-- The names of the model of a text can be spelt.
use Rattle.std.proofs.Common.{◌≡◌, ℕ, zero, suc, ◌+◌, List, [], ◌∷◌, refl, subst, inl, inr}
use Rattle.std.specs.Prelude.{Option, Some, None, IfSome, All, slice_get}
use Rattle.std.proofs.lemmas.List.Elements.{All-nil, All-cons}
use Rattle.linker_base.specs.Members.{IsMember}
use Rattle.linker_base.proofs.Cases.{some_same}
use Rattle.element_store.specs.declared.numbers.FileNo.{FileNo}
use Rattle.element_store.specs.declared.kind.Kind.TheVariants.{Root}
use Rattle.element_store.specs.declared.outcome.Language.{Language}
use Rattle.element_store.specs.declared.records.Element.{Element}
use Rattle.element_store.specs.declared.records.Reference.{Reference}
use Rattle.element_store.specs.Model.{Data}
use Rattle.token_core.specs.declared.token.Token.{Token}
use Rattle.token_core.specs.Reading.{IsSpellable, IsTokenOf}
use Rattle.token_core.proofs.Kept.{lex_token}
use Rattle.text_model.specs.declared.action.Action.TheVariants.{Group}
use Rattle.text_model.specs.declared.draft.Draft.{Draft}
use Rattle.text_model.specs.Numbering.{width, elements_from}
use Rattle.text_model.specs.Profile.{start, drafts_of, InProfile}
use Rattle.text_laws.specs.Fits.{Every}
use Rattle.print_model.specs.Heads.{path_in}
use Rattle.print_model.specs.Written.{IsWrittenPath, IsSpellableIn}
use Rattle.print_model.proofs.SpeltModel.{names_can_be_spelt}
use Rattle.print_model.proofs.SpeltWalk.{IsSpeltDraft, IsSpeltWalk, AllTokens, draft_spelt, fresh_spelt, walk_spelt}
use Rattle.written_names.specs.Spellable.{AreNamesSpellable}

name_if : (o : Option (List ℕ)) → IsSpellableIn o → IfSome o IsSpellable
name_if None h = tt
name_if (Some bytes) h = h

-- those of an element
element_spelt : (n : ℕ) (ds : List Draft) → Every IsSpeltDraft ds → (e : ℕ) (x : Element) → slice_get (elements_from n ds) e ≡ Some x
    → IfSome x.name IsSpellable × IfSome x.short IsSpellable
element_spelt n [] h e x at = absurd (cc)
element_spelt n (d ∷ ds) h zero x at = subst (λ (y : Element). IfSome y.name IsSpellable × IfSome y.short IsSpellable) (some_same _ x at)
    (name_if d.name h.0.name, name_if d.short h.0.short)
element_spelt n (d ∷ ds) h (suc e) x at = element_spelt (n + width d) ds h.1 e x at

all_spelt : (ss : List (List ℕ)) → Every IsSpellable ss → All IsSpellable ss
all_spelt [] h = All-nil IsSpellable
all_spelt (s ∷ ss) h = All-cons IsSpellable s ss h.0 (all_spelt ss h.1)

-- those of a reference
reference_spelt : (rs : List Reference) → Every (λ r. IsWrittenPath (path_in r)) rs → (r : ℕ) (x : Reference) → slice_get rs r ≡ Some x
    → All IsSpellable x.path × All IsSpellable x.chain
reference_spelt [] h r x at = absurd (cc)
reference_spelt (y ∷ rs) h zero x at = subst (λ (z : Reference). All IsSpellable z.path × All IsSpellable z.chain) (some_same y x at)
    (all_spelt y.path h.0.path, all_spelt y.chain h.0.chain)
reference_spelt (y ∷ rs) h (suc r) x at = reference_spelt rs h.1 r x at

every_token : (P : Token → Type 0) (ts : List Token) → ((t : Token) → IsMember ts t → P t) → Every P ts
every_token P [] on = tt
every_token P (t ∷ ts) on = (on t (inl refl), every_token P ts (λ u m. on u (inr m)))

-- the names of the model of a text can be spelt
pub names_spellable : (file : FileNo) (language : Language) (text : List ℕ) (d : Data) → InProfile file language text d → AreNamesSpellable d
names_spellable file language text d p =
    let w = drafts_of language text p.tokens p.tree in
    let stands = lex_token language text p.tokens p.read.lexed.0 p.read.lexed.1 in
    let tokens : AllTokens text p.tokens = every_token (λ t. IsTokenOf t.kind text t) p.tokens stands in
    let begun : IsSpeltWalk (start p.tokens) = record { drafts = (draft_spelt Root None, tt); members = tt; reading = fresh_spelt } in
    let spelt = walk_spelt language text Group p.tree (start p.tokens) tokens begun in
    record {
      names = λ e x at. element_spelt 0 w.elements spelt.0.drafts e x (subst (λ (m : Data). slice_get m.elements e ≡ Some x) p.model at);
      paths = λ r x at. reference_spelt d.references (names_can_be_spelt file language text d p) r x at;
    }
