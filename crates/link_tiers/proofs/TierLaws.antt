-- Tiers one after another.
use Rattle.std.proofs.Common.{◌≡◌, ◌∙◌, Bool, true, false, List, [], ◌∷◌, ◌++◌, refl, sym, ap, subst, inl, inr, append-nil, append_assoc}
use Rattle.std.specs.Prelude.{cond, not, ◌||◌}
use Rattle.linker_base.specs.Members.{IsMember, SameMembers}
use Rattle.linker_base.proofs.MemberLaws.{member_left, member_right, same_members, same_through, same_joined}
use Rattle.demand_core.specs.Computation.{done, then_step, ◌>>=◌}
use Rattle.demand_core.specs.Search.{IsStep, IsAsked}
use Rattle.demand_core.specs.declared.looks.Fact.{Fact}
use Rattle.demand_core.specs.declared.step.Step.{Step}
use Rattle.demand_core.specs.declared.step.Step.TheVariants.{Done, Waits}
use Rattle.element_store.specs.declared.models.StoredFile.{StoredFile}
use Rattle.link_model.specs.declared.keys.LinkKey.{LinkKey}
use Rattle.link_model.specs.declared.keys.LinkFact.{LinkFact}
use Rattle.link_model.specs.declared.keys.Hit.{Hit}
use Rattle.link_model.specs.Keys.{same_key}
use Rattle.link_model.specs.Readers.{Lookup, LinkWorld, is_nil, first_of}
use Rattle.link_walk.specs.Marks.{marked_all, same_fact}
use Rattle.link_walk.specs.Noted.{Asks, LinkTrail, noted}
use Rattle.link_tiers.specs.Tiers.{AreFound, AreHits, decides, Leads, Reaches, Tried}
use Rattle.link_tiers.proofs.AnsweredLaws.{keys_joined, facts_joined, facts_noted, same_back, same_equal, waits_are}

module _ (w : LinkWorld) where
  -- no tiers
  pub tried_none : (t : LinkTrail Hit) → Tried w [] false t t
  tried_none t = record { tried = λ more whole h. h }

  -- these decide nothing, and then those are tried
  pub tried_on : (ts us : List (Lookup (List Hit))) (b : Bool) (old mid new : LinkTrail Hit) → Tried w ts false old mid → Tried w us b mid new → Tried w (ts
      ++ us) b old new
  tried_on ts us b old mid new p q = record {
    tried = λ more whole h. q.tried more whole (p.tried (us ++ more) whole (subst (λ cs. Reaches false old (first_of cs w) whole) (append_assoc ts us more) h));
  }

  -- these decide, and those aren't reached
  pub tried_end : (ts us : List (Lookup (List Hit))) (old new : LinkTrail Hit) → Tried w ts true old new → Tried w (ts ++ us) true old new
  tried_end ts us old new p = record {
    tried = λ more whole h. p.tried (us ++ more) whole (subst (λ cs. Reaches false old (first_of cs w) whole) (append_assoc ts us more) h);
  }

  -- of all tiers, from nothing: where they decide, or nothing is left, the trail is what is asked
  pub tried_all : (ts : List (Lookup (List Hit))) (b : Bool) (start new : LinkTrail Hit) → start ≡ record { nodes = []; found = []; waits = []; looks = [] }
      → Tried w ts b start new → IsAsked new (first_of ts w)
  tried_all ts b start new empty p = by b (p.tried [] (first_of ts w) began)
    where
      began : Reaches false start (first_of (ts ++ []) w) (first_of ts w)
      began = (
        ap (λ (t : LinkTrail Hit). t.found) empty,
        ap (λ (t : LinkTrail Hit). t.waits) empty,
        subst (λ cs. Leads start.looks (first_of cs w) (first_of ts w)) (sym (append-nil ts))
            (subst (λ (t : LinkTrail Hit). Leads t.looks (first_of ts w) (first_of ts w)) (sym empty) (record {
              step = refl;
              looks = same_members
                  (first_of ts w).looks;
            })),
      )

      by : (b : Bool) → Reaches b new (first_of {A = Hit} [] w) (first_of ts w) → IsAsked new (first_of ts w)
      by true h = h
      by false h = record {
        step = subst (IsStep new.found new.waits) (sym h.2.step)
            (subst (λ fs. IsStep fs new.waits (Done [])) (sym h.0) (subst (λ ws. IsStep {K = LinkKey} {B = Hit} [] ws (Done [])) (sym h.1) (same_members [])));
        looks = same_through (same_equal new.looks (new.looks ++ []) (sym (append-nil new.looks))) (same_back h.2.looks);
      }

  -- nothing has the members of nothing alone
  no_member : {A : Type 0} (ys : List A) → SameMembers [] ys → ys ≡ []
  no_member [] s = refl
  no_member (y ∷ ys) s = absurd (s.right y (inl refl))

  -- ONE TIER: what it gave is taken
  pub tried_here : (c : Lookup (List Hit)) (g old new : LinkTrail Hit) (b : Bool) → IsAsked g (c w) → b ≡ decides g
      → new.found ≡ g.found → new.waits ≡ marked_all same_key old.waits g.waits → new.looks ≡ marked_all same_fact old.looks g.looks
      → Tried w (c ∷ []) b old new
  tried_here c g old new b a is found waits looks = record {
    tried = λ more whole h. by more whole (c w).step
        (c w).looks g.found g.waits a.step a.looks b is found waits h;
  }
    where
      seen : (ls rest : List (Fact LinkKey LinkFact)) → SameMembers g.looks ls → SameMembers (old.looks ++ (ls ++ rest)) (new.looks ++ rest)
      seen ls rest l = subst (λ z. SameMembers z (new.looks ++ rest)) (append_assoc old.looks ls rest)
          (same_joined (old.looks ++ ls) rest new.looks rest (same_back (facts_noted old.looks new.looks g.looks ls looks l)) (same_members rest))

      by : (more : List (Lookup (List Hit))) (whole : Asks (List Hit)) (step : Step LinkKey (List Hit)) (ls : List (Fact LinkKey LinkFact)) (fs : List Hit)
          (ws : List LinkKey)
          → IsStep fs ws step → SameMembers g.looks ls → (b : Bool) → b ≡ (not (is_nil ws) || not (is_nil fs)) → new.found ≡ fs → new.waits
          ≡ marked_all same_key old.waits ws
          → (old.found ≡ []) × (old.waits ≡ []) × Leads old.looks (then_step (record { step = step; looks = ls }) (λ xs. cond (is_nil xs) (first_of more)
          (done xs) w) step) whole
          → Reaches b new (first_of more w) whole
      by more whole (Done ys) ls [] [] s l true is f ws h = cc
      by more whole (Done ys) ls [] [] s l false is f ws h =
          let none : ys ≡ [] = no_member ys s in
          let led = subst (λ zs. Leads old.looks (then_step (record { step = Done zs; looks = ls }) (λ xs. cond (is_nil xs) (first_of more) (done xs) w)
          (Done zs)) whole) none h.2 in
          (f, ws ∙ h.1, record { step = led.step; looks = same_through led.looks (seen ls (first_of more w).looks l) })
      by more whole (Done []) ls (x ∷ fs) [] s l b is f ws h = absurd (s.left x (inl refl))
      by more whole (Done (y ∷ ys)) ls (x ∷ fs) [] s l false is f ws h = cc
      by more whole (Done (y ∷ ys)) ls (x ∷ fs) [] s l true is f ws h = record {
        step = subst (IsStep new.found new.waits) (sym h.2.step)
            (subst (λ us. IsStep us new.waits (Done (y ∷ ys))) (sym f) (subst (λ vs. IsStep (x ∷ fs) vs (Done (y ∷ ys))) (sym (ws ∙ h.1)) s));
        looks = same_back (same_through h.2.looks (same_through (seen ls [] l) (same_equal (new.looks ++ []) new.looks (append-nil new.looks))));
      }
      by more whole (Done ys) ls fs (v ∷ vs) s l b is f ws h = absurd s
      by more whole (Waits ks) ls fs [] s l b is f ws h = absurd s
      by more whole (Waits ks) ls fs (v ∷ vs) s l false is f ws h = cc
      by more whole (Waits ks) ls fs (v ∷ vs) s l true is f ws h =
          let here : SameMembers new.waits ks = same_through (subst (λ us. SameMembers new.waits (us ++ v ∷ vs)) h.1
          (subst (λ us. SameMembers us (old.waits ++ v ∷ vs)) (sym ws) (keys_joined old.waits (v ∷ vs)))) s in
          record {
            step = subst (IsStep new.found new.waits) (sym h.2.step) (waits_are new.found new.waits ks v (s.left v (inl refl)) here);
            looks = same_back (same_through h.2.looks
                (same_back (facts_noted old.looks new.looks g.looks ls looks l)));
          }

-- where nothing is waited on afterwards, the tier waited on nothing
pub found_kept : (files : List StoredFile) (g old new : LinkTrail Hit) → new.found ≡ g.found → new.waits ≡ marked_all same_key old.waits g.waits
    → AreFound files g → AreFound files new
found_kept files g old new found waits h none = subst (AreHits files) (sym found) (h (by g.waits refl))
  where
    by : (ws : List LinkKey) → g.waits ≡ ws → g.waits ≡ []
    by [] e = e
    by (v ∷ vs) e =
        let there : IsMember (marked_all same_key old.waits g.waits) v = (keys_joined old.waits g.waits).right v
        (member_right old.waits g.waits v (subst (λ us. IsMember us v) (sym e) (inl refl))) in
        absurd (subst (λ us. IsMember us v) (sym waits ∙ none) there)
