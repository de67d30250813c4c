-- Where the ten roles start, by the way outward.
use Rattle.std.proofs.Common.{◌≡◌, ◌∙◌, ℕ, ◌<◌, Bool, true, false, cond, List, [], ◌∷◌, ◌++◌, length, drop, get_or, refl, sym, ap, subst, arith}
use Rattle.std.specs.Prelude.{zero, suc, slice_get, Option, None, Some}
use Rattle.std.specs.List.{flat_map}
use Rattle.element_store.specs.declared.numbers.FileNo.{FileNo}
use Rattle.element_store.specs.declared.numbers.ElementNo.{ElementNo}
use Rattle.element_store.specs.declared.outcome.Role.{Role}
use Rattle.element_store.specs.declared.outcome.Role.TheVariants as role
use Rattle.element_store.specs.declared.records.Element.{Element}
use Rattle.element_store.specs.Condition.{IsModel}
use Rattle.element_store.specs.Kinds.{is_type}
use Rattle.element_store.specs.Model.{Data, root_element}
use Rattle.link_model.specs.declared.keys.Hit.{Hit}
use Rattle.link_model.specs.Outside.{Library}
use Rattle.link_model.specs.Readers.{Lookup, LinkWorld}
use Rattle.link_model.specs.Lexical.{outward, owners, lexical, last_tiers, tiers}
use Rattle.link_model.specs.Asking.{start, from_owner, from_body}
use Rattle.link_walk.specs.Noted.{LinkTrail}
use Rattle.linker_base.specs.Members.{IsMember}
use Rattle.element_store.specs.declared.models.StoredFile.{StoredFile}
use Rattle.link_tiers.specs.Tiers.{AreFound, Tried, way_from}
use Rattle.link_tiers.proofs.NamespaceLaws.{way_on, way_whole}
use Rattle.link_tiers.proofs.TierLaws.{tried_on, tried_end}
use Rattle.link_asking.specs.Starts.{begin_of, tiers_from, owner_tiers, body_tiers, node_at}
use Rattle.link_asking.specs.declared.starts.Begin.{Begin}

-- the start of a role is that of its beginning
pub start_is : (lib : Library) (l : Role) (library : Bool) (x : List ℕ) (d : Data) (r : ℕ) (e : ElementNo)
    → tiers_from lib (begin_of l) library x d r e ≡ start lib l library x d r e
start_is lib role.Subclass library x d r e = refl
start_is lib role.Typing library x d r e = refl
start_is lib role.Subsetting library x d r e = refl
start_is lib role.ReferenceSubsetting library x d r e = refl
start_is lib role.Redefinition library x d r e = refl
start_is lib role.Import library x d r e = refl
start_is lib role.Alias library x d r e = refl
start_is lib role.About library x d r e = refl
start_is lib role.Value library x d r e = refl
start_is lib role.Bound library x d r e = refl

stands_below : (xs : List Element) (k : ℕ) (z : Element) → slice_get xs k ≡ Some z → k < length xs
stands_below [] k z e = cc
stands_below (y ∷ xs) zero z e = omega arith
stands_below (y ∷ xs) (suc k) z e = let lt = stands_below xs k z e in omega (arith, lt)

read_there : (xs : List Element) (k : ℕ) (z : Element) → slice_get xs k ≡ Some z → get_or xs k root_element ≡ z
read_there [] k z some = cc
read_there (y ∷ xs) zero z some = (let same : y ≡ z = cc in same)
read_there (y ∷ xs) (suc k) z some = read_there xs k z some

module _ (d : Data) (is : IsModel d) (f : FileNo) (e : ℕ) (z : Element) (at : slice_get d.elements e ≡ Some z) where
  -- the way from an element, and from its owner
  pub outward_is : outward d (node_at f e) ≡ way_from d f (Some e)
  outward_is = way_whole d is f e (stands_below d.elements e z at)

  pub owners_is : owners d (node_at f e) ≡ way_from d f z.owner
  owners_is = ap (drop 1) (outward_is ∙ way_on d is f e z at)

  module _ (w : LinkWorld) (lib : Library) (library : Bool) (x : List ℕ) (old mid : LinkTrail Hit) where
    abbrev rest : List (Lookup (List Hit))
    rest = lexical lib library x (way_from d f z.owner)

    -- A REDEFINITION'S TIERS from an owner on
    redefined_is : owner_tiers lib (is_type z.kind) x (node_at f e) ++ rest ≡ from_owner lib library x d (way_from d f (Some e))
    redefined_is =
        ap (λ (y : Element). owner_tiers lib (is_type y.kind) x (node_at f e) ++ rest) (sym (read_there d.elements e z at))
        ∙ ap (from_owner lib library x d) (sym (way_on d is f e z at))

    pub redefined_end : (b : Bool) → b ≡ is_type z.kind → Tried w (owner_tiers lib b x (node_at f e)) true old mid
        → Tried w (from_owner lib library x d (way_from d f (Some e))) true old mid
    redefined_end b same p = subst (λ ts. Tried w ts true old mid) redefined_is
        (tried_end w (owner_tiers lib (is_type z.kind) x (node_at f e)) rest old mid
        (subst (λ c. Tried w (owner_tiers lib c x (node_at f e)) true old mid) same p))

    pub redefined_on : (b c : Bool) (new : LinkTrail Hit) → b ≡ is_type z.kind → Tried w (owner_tiers lib b x (node_at f e)) false old mid
        → Tried w (lexical lib library x (way_from d f z.owner)) c mid new → Tried w (from_owner lib library x d (way_from d f (Some e))) c old new
    redefined_on b c new same p q = subst (λ ts. Tried w ts c old new) redefined_is
        (tried_on w (owner_tiers lib (is_type z.kind) x (node_at f e)) rest c old mid new
        (subst (λ c. Tried w (owner_tiers lib c x (node_at f e)) false old mid) same p) q)

    -- AN IMPORT'S TIERS from its body on
    body_is : (r : ℕ) → body_tiers lib x r (node_at f e) ++ rest ≡ from_body lib library x r (way_from d f (Some e))
    body_is r = ap (from_body lib library x r) (sym (way_on d is f e z at))

    pub body_end : (r : ℕ) → Tried w (body_tiers lib x r (node_at f e)) true old mid → Tried w (from_body lib library x r (way_from d f (Some e))) true old mid
    body_end r p = subst (λ ts. Tried w ts true old mid) (body_is r) (tried_end w (body_tiers lib x r (node_at f e)) rest old mid p)

    pub body_on : (r : ℕ) (c : Bool) (new : LinkTrail Hit) → Tried w (body_tiers lib x r (node_at f e)) false old mid
        → Tried w (lexical lib library x (way_from d f z.owner)) c mid new → Tried w (from_body lib library x r (way_from d f (Some e))) c old new
    body_on r c new p q = subst (λ ts. Tried w ts c old new) (body_is r) (tried_on w (body_tiers lib x r (node_at f e)) rest c old mid new p q)

-- of nothing every hit stands
pub found_none : (files : List StoredFile) (t : LinkTrail Hit) → t ≡ record { nodes = []; found = []; waits = []; looks = [] } → AreFound files t
found_none files t e = λ none h m. absurd (subst (λ (z : LinkTrail Hit). IsMember z.found h) e m)
