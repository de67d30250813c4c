-- The worked example, evaluated.
use Rattle.std.proofs.Common.{◌≡◌, ℕ, zero, suc, List, [], ◌∷◌, ◌++◌, refl, sym, subst, ◌∙◌}
use Rattle.std.proofs.lemmas.List.{append-nil}
use Rattle.ll_core.specs.declared.event.Event.TheVariants.{Open, Shift, Close}
use Rattle.ll_core.specs.declared.grammar.Symbol.TheVariants.{Terminal, Inner}
use Rattle.ll_core.specs.Checked.{IsChecked}
use Rattle.ll_core.specs.Derives.{Forest, Nothing, Token, Node, IsDerivation, IsTree, tokens, preorder, IsSyntaxPlace}
use Rattle.ll_core.specs.Example.{brackets, pair}
use Rattle.ll_core.proofs.CheckedExact.{checked_from_test}

-- the table is checked
pub brackets_checked : IsChecked brackets
brackets_checked = checked_from_test brackets refl

-- `()` is derived, and this is its tree
pub pair_is_tree : IsTree brackets (0 ∷ 1 ∷ []) pair
pair_is_tree = (
  (
    (
      record { left = 0; right = Terminal 0 ∷ Inner 0 ∷ Terminal 1 ∷ Inner 0 ∷ [] },
      refl,
      refl,
      (refl, ((record { left = 0; right = [] }, refl, refl, tt), (refl, ((record { left = 0; right = [] }, refl, refl, tt), tt)))),
    ),
    tt,
  ),
  refl,
)

-- the events of `()`
pub pair_events : preorder pair ≡ Open 0 ∷ Shift ∷ Open 1 ∷ Close ∷ Shift ∷ Open 1 ∷ Close ∷ Close ∷ []
pair_events = refl

-- no list that begins with `)` is derived
none_closes : (more : List ℕ) (f : Forest) → IsTree brackets (1 ∷ more) f → ⊥
none_closes more Nothing d = d.0
none_closes more (Token k f) d = d.0
none_closes more (Node p below (Token k f)) d = d.0.1
none_closes more (Node p below (Node q f g)) d = d.0.1
none_closes more (Node zero below Nothing) d =
    let right : d.0.0.0.right ≡ Terminal 0 ∷ Inner 0 ∷ Terminal 1 ∷ Inner 0 ∷ [] = let e = d.0.0.1 in cc in
    opens below (subst (λ ss. IsDerivation brackets ss below) right d.0.0.3) (append_none (tokens below) d.1) where
      append_none : (xs : List ℕ) → xs ++ [] ≡ 1 ∷ more → xs ≡ 1 ∷ more
      append_none xs e = sym (append-nil xs) ∙ e

      opens : (f : Forest) → IsDerivation brackets (Terminal 0 ∷ Inner 0 ∷ Terminal 1 ∷ Inner 0 ∷ []) f → tokens f ≡ 1 ∷ more → ⊥
      opens Nothing d e = d
      opens (Token k f) d e = let zero_is : k ≡ 0 = d.0 in cc
      opens (Node p b r) d e = d
none_closes more (Node (suc zero) below Nothing) d =
    let right : d.0.0.0.right ≡ [] = let e = d.0.0.1 in cc in
    nothing below (subst (λ ss. IsDerivation brackets ss below) right d.0.0.3) d.1 where
      nothing : (f : Forest) → IsDerivation brackets [] f → tokens f ++ [] ≡ 1 ∷ more → ⊥
      nothing Nothing d e = cc
      nothing (Token k f) d e = d
      nothing (Node p b r) d e = d
none_closes more (Node (suc (suc p)) below Nothing) d = let e = d.0.0.1 in cc

-- `)` stops beginning any derived list at its first token
pub closing_place : IsSyntaxPlace brackets (1 ∷ []) 0
closing_place = record {
  before = [];
  after = 1 ∷ [];
  whole = refl;
  place_is = refl;
  stops = record {
    begun = (Node 1 Nothing Nothing, [], (((record { left = 0; right = [] }, refl, refl, tt), tt), refl));
    stopped = λ f g. none_closes g.0 f g.1;
  };
}
