-- What holds of the walk over the tree of a text, from the two claims.
use Rattle.std.proofs.Common.{◌≡◌, ℕ, zero, suc, ◌<◌, true, false, List, [], ◌∷◌, ◌++◌, length, refl, ap, sym, ◌∙◌, arith, append-nil}
use Rattle.std.specs.Prelude.{Some}
use Rattle.element_store.specs.declared.kind.Kind.{Kind}
use Rattle.element_store.specs.declared.kind.Kind.TheVariants as kind
use Rattle.element_store.specs.declared.outcome.Role.{Role}
use Rattle.element_store.specs.declared.outcome.Role.TheVariants as role
use Rattle.element_store.specs.Condition.{role_fits}
use Rattle.token_core.specs.declared.token.Token.{Token}
use Rattle.token_core.specs.Terminals.{HasNumber}
use Rattle.ll_core.specs.declared.grammar.Symbol.TheVariants.{Inner}
use Rattle.ll_core.specs.Table.{Table}
use Rattle.ll_core.specs.Derives.{Forest, IsTree, tokens}
use Rattle.text_model.specs.declared.action.Action.TheVariants.{Group}
use Rattle.text_model.specs.declared.draft.Path.{Path}
use Rattle.text_model.specs.declared.draft.Mention.{Mention}
use Rattle.text_model.specs.declared.draft.Draft.{Draft}
use Rattle.text_model.specs.Tables.{Tables}
use Rattle.text_model.specs.Drafts.{names, mentions, own_role}
use Rattle.text_model.specs.Walk.{Walk, walk}
use Rattle.text_model.specs.Profile.{start, kinds_of}
use Rattle.text_model.specs.Numbering.{nodes_of, ends, own_mentions, bound_mentions, value_mentions, head, mentions_of, draft_at}
use Rattle.text_laws.specs.Fits.{Every}
use Rattle.text_laws.specs.Sound.{IsWholeDraft, HasRootKind}
use Rattle.text_model.specs.Wholes.{Claim, are_wholes}
use Rattle.text_model.specs.Roles.{is_root, RootKind, state, RoleClaim, role_claim_at, claimed, is_stronger, states, all_roles, are_roles}
use Rattle.text_laws.proofs.FittingLaws.{every_append, every_on}
use Rattle.text_laws.proofs.WholeLaws.{IsAt}
use Rattle.text_laws.proofs.WholeDraftLaws.{walk_whole}
use Rattle.linker_base.proofs.Cases.{both_true}
use Rattle.text_laws.proofs.RoleLaws.{DraftRoles, RolesAt, weaken}
use Rattle.text_laws.proofs.RoleDraftLaws.{walk_roles, walk_keeps, stronger_some}

any_fit : (r : Role) (k : Kind) (ps : List Path) → role_fits r k ≡ true → Every (λ m. role_fits m.role k ≡ true) (mentions r ps)
any_fit r k [] e = tt
any_fit r k (p ∷ ps) e = (e, any_fit r k ps e)

-- all roles of a draft fit its kind
all_fit : (d : Draft) → DraftRoles d → Every (λ m. role_fits m.role d.kind ≡ true) (mentions_of d)
all_fit d h =
    let P : Mention → Type 0 = λ m. role_fits m.role d.kind ≡ true in
    every_append P (head d) d.inner
    (every_append P (own_mentions d) (bound_mentions d ++ value_mentions d)
    (every_append P (mentions (own_role d.kind) d.own) d.specs h.own h.specs)
    (every_append P (bound_mentions d) (value_mentions d) (any_fit role.Bound d.kind (names (ends d.bounds)) refl)
    (every_append P (mentions role.Value (names (nodes_of d.value))) (mentions role.Value (names (nodes_of d.result)))
    (any_fit role.Value d.kind (names (nodes_of d.value)) refl) (any_fit role.Value d.kind (names (nodes_of d.result)) refl))))
    (every_on (λ (m : Mention). (k : Kind) → role_fits m.role k ≡ true) P d.inner (λ m k. k d.kind) h.inner)

root_kind : (k : Kind) → is_root k ≡ true → k ≡ kind.Root
root_kind kind.Root e = refl
root_kind other e = cc

first_root : (ds : List Draft) (c : ℕ) → c ≡ 0 → c < length ds → is_root (draft_at ds c).kind ≡ true → HasRootKind ds
first_root [] c z below e = absurd (omega (arith, below))
first_root (d ∷ ds) zero z below e = root_kind d.kind e
first_root (d ∷ ds) (suc c) z below e = absurd (omega (arith, z))

-- of the tokens of a text and their tree
pub record IsDerivedSoFar (w : Walk) : Type 0 where
  pub whole : Every IsWholeDraft w.elements
  pub roles : Every (λ x. Every (λ m. role_fits m.role x.kind ≡ true) (mentions_of x)) w.elements
  pub root : HasRootKind w.elements

-- what the claims say of the walk over a tree
pub derived : (t : Tables) (wholes : List Claim) (roles : List RoleClaim) (text : List ℕ) (g : Table) → are_wholes t wholes g ≡ true
    → are_roles t roles g ≡ true
    → (ts : List Token) (f : Forest) → IsTree g (kinds_of ts) f → Every (λ x. HasNumber x.kind) ts → IsDerivedSoFar (walk t text Group f (start ts))
derived t wholes roles text g ok1 ok2 ts f tree numbers =
    let w = start ts in
    let v = walk t text Group f w in
    let at : IsAt (tokens f ++ []) w = record { kinds = sym tree.1 ∙ sym (append-nil (tokens f)); numbers = numbers } in
    let b = both_true (all_roles t roles 0 g.rules) (is_stronger (claimed (role_claim_at roles g.start) (state RootKind false false))
    (Some (state RootKind true true))) ok2 in
    let y = stronger_some (claimed (role_claim_at roles g.start) (state RootKind false false)) (state RootKind true true) b.1 in
    let begun : RolesAt (state RootKind false false) w =
    record {
      fits = (record { specs = tt; own = tt; inner = tt }, tt);
      class = refl;
      clear = λ e. refl;
      own = refl;
      free = λ e. refl;
      within =
          omega arith;
    } in
    let r = walk_roles t roles text g b.0 f (Inner g.start ∷ []) Group [] w (state RootKind false false) y.0 tree.0 at
    (ap (states t roles Group []) y.1) begun in
    let e = weaken y.0 (state RootKind true true) v (ap (λ o. is_stronger o (Some (state RootKind true true))) (sym y.1) ∙ b.1) r in
    let k = walk_keeps t text Group f w (omega arith) in
    record {
      whole = walk_whole t wholes text g ok1 f (Inner g.start ∷ []) Group [] w tree.0 at (record { value = λ n. refl; result = λ n. refl }, tt);
      roles = every_on DraftRoles (λ x. Every (λ m. role_fits m.role x.kind ≡ true) (mentions_of x)) v.elements all_fit e.fits;
      root = first_root v.elements v.current k.current e.within e.class;
    }
