-- The members of a namespace that aren't private, by the tables of a model.
use Rattle.std.proofs.Common.{◌≡◌, ℕ, ◌+◌, ◌<◌, ◌≤◌, Bool, true, false, cond, List, [], ◌∷◌, ◌++◌, length, get_or, take, take-suc, add-one, refl, sym, ◌∙◌, ap, subst, inl, inr, arith, append_assoc, append-nil, zero-add}
use Rattle.std.proofs.lemmas.Bool.Decides.{nat_tests}
use Rattle.std.specs.Prelude.{zero, suc, nat_eq, ◌&&◌, slice_get, map, Option, None, Some}
use Rattle.linker_base.specs.Members.{IsMember}
use Rattle.linker_base.proofs.Cases.{bool_cases}
use Rattle.std.proofs.lemmas.List.{take_all}
use Rattle.demand_core.proofs.LoopLaws.{join_assoc}
use Rattle.demand_core.specs.Computation.{done, join_step, join, joined, ◌>>=◌, IsRegular}
use Rattle.demand_core.specs.Search.{Trail}
use Rattle.demand_core.proofs.ComputationLaws.{regular_done, regular_then, regular_look, regular_join, regular_joined, regular_cond}
use Rattle.element_store.specs.declared.numbers.FileNo.{FileNo}
use Rattle.element_store.specs.declared.numbers.ElementNo.{ElementNo}
use Rattle.element_store.specs.declared.records.Member.{Member}
use Rattle.element_store.specs.declared.records.Target.{Target}
use Rattle.element_store.specs.declared.records.Target.TheVariants.{Owned, Alias}
use Rattle.element_store.specs.Numbers.{chosen, numbers_from, those_where, IsLeastAbove}
use Rattle.element_store.specs.Model.{Data, bears, bearers}
use Rattle.element_store.specs.Readings.{redefining_of}
use Rattle.link_model.specs.declared.keys.LinkKey.{LinkKey}
use Rattle.link_model.specs.declared.keys.LinkFact.{LinkFact}
use Rattle.link_model.specs.declared.keys.LinkFact.TheVariants.{File}
use Rattle.link_model.specs.declared.keys.Hit.{Hit}
use Rattle.link_model.specs.Outside.{model_in, is_private}
use Rattle.link_model.specs.Readers.{LinkWorld, Lookup, told, key, model, is_nil, only_if, is_named, target}
use Rattle.link_model.specs.Keys.{same_element}
use Rattle.link_model.specs.Names.{declared_names, names, leads_to, hit, hit_named, effective_hit, redefinitions}
use Rattle.link_model.proofs.TameLaws.{target_tame, names_tame}
use Rattle.link_walk.specs.Gained.{Gained}
use Rattle.link_walk.proofs.GainLaws.{gains_of, gained_if, gained_none, gained_join, gained_true, gained_false}
use Rattle.link_walk.specs.Noted.{LinkTrail, Noted}
use Rattle.inheritance.specs.RedefinedLaws.{redefinitions_regular}
use Rattle.inheritance.specs.Sights.{direct_targets}
use Rattle.owned_names.proofs.BearerLaws.{above, none_left, one_left, numbers_rise, joined_last}
use Rattle.feature_facts.specs.Stages.{told_of}
use Rattle.member_candidates.specs.Stages.{open_hit, open_effective, open_members}
use Rattle.feature_facts.proofs.TableLaws.{told_regular, model_regular}

leads_regular : (f : FileNo) (t : Target) → IsRegular (leads_to f t)
leads_regular f (Owned e) = regular_done (record { file = f; index = e } ∷ [])
leads_regular f (Alias r) = (target_tame (key f r)).regular

hit_regular : (f : FileNo) (k : ℕ) (m : Member) → IsRegular (hit f k m)
hit_regular f k m = regular_then (leads_to f m.target) (λ es. done (map (λ e. record { member = record { file = f; index = k }; element = e }) es))
    (leads_regular f m.target) (λ es. regular_done (map (λ e. record { member = record { file = f; index = k }; element = e }) es))

named_regular : (x : List ℕ) (f : FileNo) (k : ℕ) (t : Target) → IsRegular (hit_named x f k t)
named_regular x f k (Owned e) = regular_then (names (record { file = f; index = e }))
    (λ ns. done (only_if (is_named x ns) (record { member = record { file = f; index = k }; element = record { file = f; index = e } })))
    (names_tame (record { file = f; index = e })).regular
    (λ ns. regular_done (only_if (is_named x ns) (record { member = record { file = f; index = k }; element = record { file = f; index = e } })))
named_regular x f k (Alias r) = regular_done []

pub open_hit_regular : (f : FileNo) (k : ℕ) (m : Member) → IsRegular (open_hit f k m)
open_hit_regular f k m = regular_cond (is_private m.visibility) (done []) (hit f k m) (regular_done []) (hit_regular f k m)

pub open_effective_regular : (x : List ℕ) (f : FileNo) (k : ℕ) (m : Member) → IsRegular (open_effective x f k m)
open_effective_regular x f k m = regular_cond (is_private m.visibility) (done []) (effective_hit x f k m) (regular_done [])
    (regular_cond (is_nil (declared_names m.short m.name)) (hit_named x f k m.target) (done []) (named_regular x f k m.target) (regular_done []))

pub open_members_regular : (x : List ℕ) (s : ElementNo) → IsRegular (open_members x s)
open_members_regular x s = regular_then (model s.file) (λ d. join (joined (told_of d (open_hit s.file)) (bearers d.members s.index x))
    (joined (told_of d (open_effective x s.file)) (redefining_of d s.index))) (model_regular s.file) (λ d.
    regular_join (joined (told_of d (open_hit s.file)) (bearers d.members s.index x)) (joined (told_of d (open_effective x s.file)) (redefining_of d s.index))
    (regular_joined (told_of d (open_hit s.file)) (λ k. told_regular (slice_get d.members k) (open_hit s.file k) (open_hit_regular s.file k))
    (bearers d.members s.index x))
    (regular_joined (told_of d (open_effective x s.file)) (λ k. told_regular (slice_get d.members k) (open_effective x s.file k)
    (open_effective_regular x s.file k)) (redefining_of d s.index)))

-- none is left out where none was taken
all_above_none : (ns : List ℕ) → those_where (above None) ns ≡ ns
all_above_none [] = refl
all_above_none (n ∷ ns) = ap (λ ks. n ∷ ks) (all_above_none ns)

abbrev Start : Type 0
Start = Trail LinkKey LinkFact ElementNo Hit

pub record AreOpen (d : Data) (f : FileNo) (x : List ℕ) (e : ℕ) (w : LinkWorld) (start now : Start) (after : Option ℕ) : Type 0 where
  pub taken : List ℕ
  pub whole : bearers d.members e x ≡ taken ++ those_where (above after) (bearers d.members e x)
  pub gained : Gained (joined (told_of d (open_hit f)) taken w) start now

pub open_none : (d : Data) (f : FileNo) (x : List ℕ) (e : ℕ) (w : LinkWorld) (start : Start) → AreOpen d f x e w start start None
open_none d f x e w start = record { taken = []; whole = sym (all_above_none (bearers d.members e x)); gained = gained_none w start }

pub open_next : (d : Data) (f : FileNo) (x : List ℕ) (e : ℕ) (w : LinkWorld) (start now new : Start) (after : Option ℕ) (m : ℕ)
    → IsLeastAbove after (bearers d.members e x) (Some m) → AreOpen d f x e w start now after → Gained (told_of d (open_hit f) m w) now new
    → AreOpen d f x e w start new (Some m)
open_next d f x e w start now new after m least t g =
    let left = one_left after (bearers d.members e x) m (numbers_rise 0 (λ k. nat_eq k.owner e && bears x k) d.members) least in
    record {
      taken = t.taken ++ m ∷ [];
      whole = t.whole ∙ (ap (λ ks. t.taken ++ ks) left ∙ sym (append_assoc t.taken (m ∷ []) (those_where (above (Some m)) (bearers d.members e x))));
      gained = subst (λ a. Gained a start new) (sym (joined_last w (told_of d (open_hit f)) t.taken m))
          (gained_join w (joined (told_of d (open_hit f)) t.taken) (told_of d (open_hit f) m) start now new t.gained g);
    }

pub open_all : (d : Data) (f : FileNo) (x : List ℕ) (e : ℕ) (w : LinkWorld) (start now : Start) (after : Option ℕ)
    → IsLeastAbove after (bearers d.members e x) None → AreOpen d f x e w start now after
    → Gained (joined (told_of d (open_hit f)) (bearers d.members e x) w) start now
open_all d f x e w start now after least t =
    let all : bearers d.members e x ≡ t.taken = t.whole ∙ (ap (λ ks. t.taken ++ ks) (none_left after (bearers d.members e x) least) ∙ append-nil t.taken) in
    subst (λ ks. Gained (joined (told_of d (open_hit f)) ks w) start now) (sym all) t.gained

-- a member that stands there is told of, if it isn't private
module _ (d : Data) (k : ℕ) (m : Member) (w : LinkWorld) (c : ℕ → Member → Lookup (List Hit)) (old new : Start) (at : slice_get d.members k ≡ Some m) where
  pub private_told : is_private m.visibility ≡ true → Gained (told_of d (λ j n. cond (is_private n.visibility) (done []) (c j n)) k w) old old
  private_told is = subst (λ (o : Option Member). Gained (told o (λ n. cond (is_private n.visibility) (done []) (c k n)) w) old old) (sym at)
      (gained_true w (is_private m.visibility) (done []) (c k m) old old is (gained_none w old))

  pub open_told : is_private m.visibility ≡ false → Gained (c k m w) old new
      → Gained (told_of d (λ j n. cond (is_private n.visibility) (done []) (c j n)) k w) old new
  open_told isnt g = subst (λ (o : Option Member). Gained (told o (λ n. cond (is_private n.visibility) (done []) (c k n)) w) old new) (sym at)
      (gained_false w (is_private m.visibility) (done []) (c k m) old new isnt g)
