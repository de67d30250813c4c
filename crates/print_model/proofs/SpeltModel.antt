-- Every name in the model of a text can be spelt.
use Rattle.std.proofs.Common.{ℕ, suc, List, [], ◌∷◌, ◌++◌, refl, sym, subst, inl, inr}
use Rattle.std.specs.Prelude.{map, None}
use Rattle.linker_base.specs.Members.{IsMember}
use Rattle.element_store.specs.declared.kind.Kind.TheVariants.{Root}
use Rattle.element_store.specs.declared.outcome.Role.TheVariants as role
use Rattle.element_store.specs.declared.records.Reference.{Reference}
use Rattle.element_store.specs.Model.{Data}
use Rattle.token_core.specs.declared.token.Token.{Token}
use Rattle.token_core.specs.Reading.{IsTokenOf}
use Rattle.token_core.proofs.Kept.{lex_token}
use Rattle.text_model.specs.declared.action.Action.TheVariants.{Group}
use Rattle.text_model.specs.declared.draft.Mention.{Mention}
use Rattle.text_model.specs.declared.draft.DraftNode.{DraftNode}
use Rattle.text_model.specs.declared.draft.Draft.{Draft}
use Rattle.text_model.specs.Drafts.{mentions, names, own_role}
use Rattle.text_model.specs.Numbering.{ends, nodes_of, own_mentions, bound_mentions, value_mentions, head, mentions_of, reference, references_from}
use Rattle.text_model.specs.Profile.{start, drafts_of}
use Rattle.text_laws.specs.Fits.{Every}
use Rattle.text_laws.proofs.FittingLaws.{every_append}
use Rattle.print_model.specs.Heads.{path_in}
use Rattle.print_model.specs.Written.{IsWrittenPath, NamesCanBeSpelt}
use Rattle.print_model.proofs.SpeltWalk.{AreSpeltNodes, IsSpeltDraft, IsSpeltWalk, AllTokens, names_spelt, mentions_spelt, draft_spelt, fresh_spelt, walk_spelt}

ends_spelt : (ns : List DraftNode) → AreSpeltNodes ns → AreSpeltNodes (ends ns)
ends_spelt [] h = tt
ends_spelt (a ∷ []) h = h
ends_spelt (a ∷ b ∷ ns) h = (h.0, (h.1.0, tt))

all_mentions : (d : Draft) → IsSpeltDraft d → Every (λ m. IsWrittenPath m.path) (mentions_of d)
all_mentions d h =
    let P : Mention → Type 0 = λ m. IsWrittenPath m.path in
    every_append P (head d) d.inner
    (every_append P (own_mentions d) (bound_mentions d ++ value_mentions d)
    (every_append P (mentions (own_role d.kind) d.own) d.specs (mentions_spelt (own_role d.kind) d.own h.own) h.specs)
    (every_append P (bound_mentions d) (value_mentions d)
    (mentions_spelt role.Bound (names (ends d.bounds)) (names_spelt (ends d.bounds) (ends_spelt d.bounds h.bounds)))
    (every_append P (mentions role.Value (names (nodes_of d.value))) (mentions role.Value (names (nodes_of d.result)))
    (mentions_spelt role.Value (names (nodes_of d.value)) (names_spelt (nodes_of d.value) h.value))
    (mentions_spelt role.Value (names (nodes_of d.result)) (names_spelt (nodes_of d.result) h.result)))))
    h.inner

one_reference : (e : ℕ) (m : Mention) → IsWrittenPath m.path → IsWrittenPath (path_in (reference e m))
one_reference e m h = record { some = h.some; path = h.path; chain = h.chain }

draft_references : (e : ℕ) (ms : List Mention) → Every (λ m. IsWrittenPath m.path) ms → Every (λ r. IsWrittenPath (path_in r)) (map (reference e) ms)
draft_references e [] h = tt
draft_references e (m ∷ ms) h = (one_reference e m h.0, draft_references e ms h.1)

all_references : (e : ℕ) (ds : List Draft) → Every IsSpeltDraft ds → Every (λ r. IsWrittenPath (path_in r)) (references_from e ds)
all_references e [] h = tt
all_references e (d ∷ ds) h =
    every_append (λ (r : Reference). IsWrittenPath (path_in r)) (map (reference e) (mentions_of d)) (references_from (suc e) ds)
    (draft_references e (mentions_of d) (all_mentions d h.0)) (all_references (suc e) ds h.1)

every_member : (P : Token → Type 0) (ts : List Token) → ((t : Token) → IsMember ts t → P t) → Every P ts
every_member P [] on = tt
every_member P (t ∷ ts) on = (on t (inl refl), every_member P ts (λ u m. on u (inr m)))

-- the names of a text's model can be spelt
pub names_can_be_spelt : NamesCanBeSpelt
names_can_be_spelt file language text d p =
    let w = drafts_of language text p.tokens p.tree in
    let tokens : AllTokens text p.tokens = every_member (λ t. IsTokenOf t.kind text t) p.tokens
    (lex_token language text p.tokens p.read.lexed.0 p.read.lexed.1) in
    let begun : IsSpeltWalk (start p.tokens) = record { drafts = (draft_spelt Root None, tt); members = tt; reading = fresh_spelt } in
    let spelt = walk_spelt language text Group p.tree (start p.tokens) tokens begun in
    subst (λ (m : Data). Every (λ r. IsWrittenPath (path_in r)) m.references) (sym p.model) (all_references 0 w.elements spelt.0.drafts)
