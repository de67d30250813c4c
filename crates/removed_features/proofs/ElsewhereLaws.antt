-- Whether another feature redefines an element: read off the features that are seen.
use Rattle.std.proofs.Common.{◌≡◌, Bool, true, false, List, [], ◌∷◌, map, refl, sym, ◌∙◌, ap, subst, inl, inr}
use Rattle.std.specs.Prelude.{◌⊎◌, ◌&&◌, not}
use Rattle.std.specs.List.{list_any}
use Rattle.linker_base.specs.Members.{IsMember}
use Rattle.linker_base.proofs.Cases.{bool_cases, both_true, and_true}
use Rattle.linker_base.proofs.MemberLaws.{member_map}
use Rattle.demand_core.specs.Rules.{WaitsOn}
use Rattle.demand_core.specs.Computation.{joined, IsSound}
use Rattle.demand_core.specs.Search.{Finds, Awaits, Has, MayHave, IsAsked}
use Rattle.demand_core.specs.declared.step.Step.{Step}
use Rattle.demand_core.specs.declared.step.Step.TheVariants.{Done, Waits}
use Rattle.demand_core.proofs.ComputationLaws.{regular_joined}
use Rattle.demand_core.proofs.PartLaws.{shows_joined, admits_joined}
use Rattle.element_store.specs.BaseRules.{StandsIn}
use Rattle.element_store.specs.declared.models.StoredFile.{StoredFile}
use Rattle.element_store.specs.Numbers.{those_where}
use Rattle.element_store.specs.declared.numbers.ElementNo.{ElementNo}
use Rattle.link_model.specs.declared.keys.LinkKey.{LinkKey}
use Rattle.link_model.specs.declared.keys.LinkFact.{LinkFact}
use Rattle.link_model.specs.Keys.{same_element, is_in}
use Rattle.link_model.specs.Readers.{LinkWorld}
use Rattle.link_model.specs.Inheritance.{Redefines, all_redefined, is_redefined_elsewhere}
use Rattle.link_model.proofs.TameLaws.{all_redefined_tame}
use Rattle.link_walk.specs.Noted.{LinkTrail}
use Rattle.feature_facts.specs.Known.{KnownBy}
use Rattle.removed_features.specs.Known.{Describes, visible_by, is_sure}
use Rattle.feature_facts.specs.declared.facts.Redefiner.{Redefiner}
use Rattle.feature_facts.specs.declared.facts.Direct.{Direct}
use Rattle.feature_facts.specs.declared.facts.Facts.{Facts}
use Rattle.removed_features.specs.declared.visible_features.Visible.{Visible}
use Rattle.feature_facts.proofs.PartNames.{member_back}
use Rattle.feature_facts.proofs.Noting.{done_quiet}
use Rattle.feature_facts.proofs.SearchParts.{found_has, has_found}
use Rattle.feature_facts.proofs.Tests.{bool_by, five_true, true_five, not_true, not_false, any_member, member_any, in_member, member_in, same_is, is_same, where_member, member_where}

never : true ≡ false → ⊥
never h = cc

-- searches that wait on nothing are done together
all_done : (w : LinkWorld) (fs : List ElementNo) → ((f : ElementNo) (k : LinkKey) → IsMember fs f → WaitsOn (all_redefined f w).step k → ⊥)
    → (ys : List ElementNo) × ((joined all_redefined fs w).step ≡ Done ys)
all_done w fs quiet = by (joined all_redefined fs w).step ((regular_joined all_redefined (λ f. (all_redefined_tame f).regular) fs).sound w)
    (λ k h. let j = shows_joined w all_redefined fs (Awaits k) h in quiet j.0 k j.1 j.2)
  where
    by : (step : Step LinkKey (List ElementNo)) → IsSound w.table step (joined all_redefined fs w).looks → ((k : LinkKey) → WaitsOn step k → ⊥)
        → (ys : List ElementNo) × (step ≡ Done ys)
    by (Done ys) s none = (ys, refl)
    by (Waits []) s none = absurd (s.0 refl)
    by (Waits (k ∷ ks)) s none = absurd (none k (inl refl))

-- what they find together, one of them redefines
pub found_one : (w : LinkWorld) (fs : List ElementNo) → ((f : ElementNo) (k : LinkKey) → IsMember fs f → WaitsOn (all_redefined f w).step k → ⊥)
    → (g : LinkTrail ElementNo) → IsAsked g (joined all_redefined fs w) → (e : ElementNo) → IsMember g.found e
    → (f : ElementNo) × IsMember fs f × Has (all_redefined f w).step e
found_one w fs quiet g h e m =
    let d = all_done w fs quiet in
    shows_joined w all_redefined fs (Finds e) (found_has g (joined all_redefined fs w) h (done_quiet g (joined all_redefined fs w) d.0 h d.1) e m)

-- and the other way round
pub one_found : (w : LinkWorld) (fs : List ElementNo) → ((f : ElementNo) (k : LinkKey) → IsMember fs f → WaitsOn (all_redefined f w).step k → ⊥)
    → (g : LinkTrail ElementNo) → IsAsked g (joined all_redefined fs w) → (e f : ElementNo) → IsMember fs f → Has (all_redefined f w).step e
    → IsMember g.found e
one_found w fs quiet g h e f m has =
    let d = all_done w fs quiet in
    has_found g (joined all_redefined fs w) h e (subst (λ z. Has z e) (sym d.1) (subst (λ z. MayHave z e) d.1
    (admits_joined w all_redefined fs f (Finds e) m (has_may (all_redefined f w).step has))))
  where
    has_may : (step : Step LinkKey (List ElementNo)) → Has step e → MayHave step e
    has_may (Done ys) h = h
    has_may (Waits ks) h = absurd h

abbrev feature_of : Redefiner → ElementNo
feature_of q = q.feature

-- the features that are seen stand
pub seen_stand : (files : List StoredFile) (test : Redefiner → Bool) (qs : List Redefiner) → ((q : Redefiner) → IsMember qs q → StandsIn files q.feature)
    → (e : ElementNo) → IsMember (map feature_of (those_where test qs)) e → StandsIn files e
seen_stand files test qs stand e m =
    let q = member_back feature_of (those_where test qs) e m in
    subst (StandsIn files) q.2 (stand q.0 (where_member test qs q.0 q.1).0)

-- the definition's test of one of its list
abbrev is_other : List ElementNo → ElementNo → Redefines → Bool
is_other us e r = not r.direct && not (same_element r.feature e) && same_element r.redefined e && not r.hidden && is_in r.owner us

module _ (w : LinkWorld) (us : List ElementNo) (rs : List Redefines) (f : Facts) (known : KnownBy w rs f) (set : List ElementNo)
    (same : (e : ElementNo) → is_in e set ≡ is_in e us) where
  abbrev seen : List Redefiner
  seen = those_where (visible_by set) f.redefiners

  abbrev seen_features : List ElementNo
  seen_features = map feature_of seen

  abbrev surely : List ElementNo
  surely = map (λ (d : Direct). d.redefined) (those_where (is_sure set) f.directs)

  seen_quiet : (e : ElementNo) (k : LinkKey) → IsMember seen_features e → WaitsOn (all_redefined e w).step k → ⊥
  seen_quiet e k m h =
      let q = member_back feature_of seen e m in
      known.quiet q.0 k (where_member (visible_by set) f.redefiners q.0 q.1).0 (subst (λ z. WaitsOn (all_redefined z w).step k) (sym q.2) h)

  -- a feature that is seen redefines another one
  other_does : (q : Redefiner) (e : ElementNo) → IsMember f.redefiners q → visible_by set q ≡ true → same_element q.feature e ≡ false
      → Has (all_redefined q.feature w).step e → is_redefined_elsewhere us rs e ≡ true
  other_does q e m sees differ has =
      let r = known.far_in q e m has in
      let both = both_true (not q.hidden) (is_in q.owner set) sees in
      member_any (is_other us e) rs r.0 r.1 (true_five (not r.0.direct) (not (same_element r.0.feature e)) (same_element r.0.redefined e)
      (not r.0.hidden) (is_in r.0.owner us) (not_false r.0.direct r.2)
      (not_false (same_element r.0.feature e) (ap (λ z. same_element z e) r.4 ∙ differ)) (is_same r.0.redefined e r.6) (ap not r.5 ∙ both.0)
      (ap (λ z. is_in z us) r.3 ∙ (sym (same q.owner) ∙ both.1)))

  pub describes : (v : Visible) (g : LinkTrail ElementNo) → v.features ≡ seen_features → IsAsked g (joined all_redefined v.features w)
      → ((e : ElementNo) → is_in e v.reached ≡ is_in e g.found) → ((e : ElementNo) → is_in e v.sure ≡ is_in e surely) → Describes w us rs v
  describes v g features asked reached sure = record {
    does = λ e x m differ has.
        let q = member_back feature_of seen x (subst (λ z. IsMember z x) features m) in
        let s = where_member (visible_by set) f.redefiners q.0 q.1 in
        other_does q.0 e s.0 s.1 (subst (λ z. same_element z e ≡ false) (sym q.2) differ) (subst (λ z. Has (all_redefined z w).step e) (sym q.2) has);
    by = λ e is.
        let r = any_member (is_other us e) rs is in
        let five = five_true (not r.0.direct) (not (same_element r.0.feature e)) (same_element r.0.redefined e) (not r.0.hidden) (is_in r.0.owner us) r.2 in
        let q = known.far_out r.0 r.1 (not_true r.0.direct five.0) in
        let sees = and_true (not q.0.hidden) (is_in q.0.owner set) (ap not (sym q.4) ∙ five.3)
        (same q.0.owner ∙ (ap (λ z. is_in z us) (sym q.2) ∙ five.4)) in (
          q.0.feature,
          subst (λ z. IsMember z q.0.feature) (sym features) (member_map feature_of seen q.0 (member_where (visible_by set) f.redefiners q.0 q.1 sees)),
          ap (λ z. same_element z e) (sym q.3) ∙ not_true (same_element r.0.feature e) five.1,
          subst (Has (all_redefined q.0.feature w).step) (same_is r.0.redefined e five.2) q.5,
        );
    quiet = λ x k m h. seen_quiet x k (subst (λ z. IsMember z x) features m) h;
    sure = λ e is.
        let d = member_back (λ (d : Direct). d.redefined) (those_where (is_sure set) f.directs) e (in_member surely e (sym (sure e) ∙ is)) in
        let s = where_member (is_sure set) f.directs d.0 d.1 in
        let both = both_true (visible_by set d.0.by) (not (same_element d.0.by.feature d.0.redefined)) s.1 in
        let k = known.sure d.0 s.0 in
        subst (λ z. is_redefined_elsewhere us rs z ≡ true) d.2
        (other_does d.0.by d.0.redefined k.0 both.0 (not_true (same_element d.0.by.feature d.0.redefined) both.1) k.1);
    reached = λ e x isnt m has.
        let among = one_found w v.features (λ a k in_features. seen_quiet a k (subst (λ z. IsMember z a) features in_features)) g asked e x m has in
        never (sym (member_in g.found e among) ∙ (sym (reached e) ∙ isnt));
  }

-- THE TEST, where neither set tells it: a search from the others
module _ (w : LinkWorld) (us : List ElementNo) (rs : List Redefines) (v : Visible) (d : Describes w us rs v) (e : ElementNo) where
  abbrev the_others : List ElementNo
  the_others = those_where (λ f. not (same_element f e)) v.features

  pub sure_tells : is_in e v.sure ≡ true → true ≡ is_redefined_elsewhere us rs e
  sure_tells is = sym (d.sure e is)

  pub unreached_tells : is_in e v.reached ≡ false → false ≡ is_redefined_elsewhere us rs e
  unreached_tells isnt = elim (bool_cases (is_redefined_elsewhere us rs e)) [
    | inl is ↦ let f = d.by e is in absurd (d.reached e f.0 isnt f.1 f.3)
    | inr no_one ↦ sym no_one
  ]

  pub search_tells : (g : LinkTrail ElementNo) → IsAsked g (joined all_redefined the_others w) → is_in e g.found ≡ is_redefined_elsewhere us rs e
  search_tells g h = bool_by (is_in e g.found) (is_redefined_elsewhere us rs e)
      (λ is.
      let f = found_one w the_others quiet g h e (in_member g.found e is) in
      let o = where_member (λ x. not (same_element x e)) v.features f.0 f.1 in
      d.does e f.0 o.0 (not_true (same_element f.0 e) o.1) f.2)
      (λ is.
      let f = d.by e is in
      member_in g.found e (one_found w the_others quiet g h e f.0
      (member_where (λ x. not (same_element x e)) v.features f.0 f.1 (not_false (same_element f.0 e) f.2)) f.3))
    where
      quiet : (f : ElementNo) (k : LinkKey) → IsMember the_others f → WaitsOn (all_redefined f w).step k → ⊥
      quiet f k m x = d.quiet f k (where_member (λ x. not (same_element x e)) v.features f m).0 x
