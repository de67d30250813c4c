-- Tiers narrowed to members that are shown, and three of them one after another.
use Rattle.std.proofs.Common.{◌≡◌, ◌∙◌, ℕ, Bool, true, false, cond, List, [], ◌∷◌, ◌++◌, refl, sym, ap, subst, inl, inr}
use Rattle.std.specs.Prelude.{◌||◌, slice_get, Option, Some, None}
use Rattle.linker_base.specs.Members.{IsMember, SameMembers}
use Rattle.demand_core.specs.Alike.{Alike}
use Rattle.demand_core.specs.Computation.{done, ◌>>=◌, look, joined, IsRegular}
use Rattle.demand_core.specs.Search.{IsStep, IsAsked}
use Rattle.demand_core.specs.Tables.{entry_of}
use Rattle.demand_core.specs.declared.step.Step.{Step}
use Rattle.demand_core.specs.declared.step.Step.TheVariants.{Done, Waits}
use Rattle.demand_core.proofs.AlikeLaws.{joined_respects}
use Rattle.demand_core.proofs.ComputationLaws.{regular_done, regular_look, regular_then, regular_joined}
use Rattle.element_store.specs.declared.numbers.FileNo.{FileNo}
use Rattle.element_store.specs.declared.outcome.Outcome.{Outcome}
use Rattle.element_store.specs.declared.records.Member.{Member}
use Rattle.element_store.specs.declared.models.StoredFile.{StoredFile}
use Rattle.element_store.specs.Model.{Data}
use Rattle.element_store.specs.Stored.{AreFiles}
use Rattle.link_model.specs.declared.keys.LinkKey.{LinkKey}
use Rattle.link_model.specs.declared.keys.LinkFact.TheVariants.{File}
use Rattle.link_model.specs.declared.keys.Hit.{Hit}
use Rattle.link_model.specs.Imports.{narrowed}
use Rattle.link_model.specs.Keys.{same_key}
use Rattle.link_model.specs.Outside.{is_public, model_in}
use Rattle.link_model.specs.Readers.{Lookup, LinkWorld, only_if, told, model}
use Rattle.link_model.proofs.FitLaws.{All, Gives, HitStands}
use Rattle.link_walk.specs.Calls.{reading, AreLinks}
use Rattle.link_walk.specs.Gained.{Gained}
use Rattle.link_walk.specs.Noted.{LinkTrail, Noted, Reads}
use Rattle.link_walk.proofs.GainLaws.{gains_of, gained_if, gained_read}
use Rattle.link_tiers.specs.Tiers.{AreFound, Tried}
use Rattle.link_tiers.proofs.TierLaws.{tried_end, tried_on}
use Rattle.name_lookups.specs.Narrowed.{narrowed_hit, MembersStand}

-- ---- what is found stands

module _ (files : List StoredFile) (are : AreFiles files) (entries : List (LinkKey × Outcome)) (fit : AreLinks files entries) where
  -- what a lookup found stands, if what it gives does
  pub found_by : (t : LinkTrail Hit) (c : Lookup (List Hit)) → Gives (reading files entries) (All (HitStands files are (entry_of same_key entries) fit)) c
      → IsAsked t (c (reading files entries)) → AreFound files t
  found_by t c g a none = λ h m.
      let e = finished (c (reading files entries)).step t.waits a.step none in
      let p = (g.given e.0 e.1).each h (e.2.left h m) in
      (p.0, (p.1.0, p.1.1, p.1.2))
    where
      finished : (step : Step LinkKey (List Hit)) (waits : List LinkKey) → IsStep t.found waits step → waits ≡ []
          → (ys : List Hit) × (step ≡ Done ys) × SameMembers t.found ys
      finished (Done ys) [] s e = (ys, refl, s)
      finished (Done ys) (v ∷ vs) s e = absurd s
      finished (Waits ks) [] s e = absurd s
      finished (Waits ks) (v ∷ vs) s e = cc

pub members_stand : (files : List StoredFile) (t : LinkTrail Hit) → AreFound files t → t.waits ≡ [] → MembersStand files t.found
members_stand files t f none = λ h m. (f none h m).0

-- ---- hits of members that are shown

-- the hit of a member, where it is shown
abbrev pub shown_hit : Bool → Hit → Member → Lookup (List Hit)
shown_hit all h m = done (only_if (all || is_public m.visibility) h)

hit_regular : (all : Bool) (h : Hit) → IsRegular (narrowed_hit all h)
hit_regular all h = regular_then (model h.member.file) (λ d. told (slice_get d.members h.member.index) (shown_hit all h))
    (regular_then (look (File h.member.file)) (λ s. done (model_in s)) (regular_look (File h.member.file)) (λ s. regular_done (model_in s)))
    (λ d. told_regular (slice_get d.members h.member.index))
  where
    told_regular : (o : Option Member) → IsRegular (told o (shown_hit all h))
    told_regular None = regular_done []
    told_regular (Some m) = regular_done (only_if (all || is_public m.visibility) h)

pub narrowed_regular : (all : Bool) (hs : List Hit) → IsRegular (narrowed all hs)
narrowed_regular all hs = regular_joined (narrowed_hit all) (hit_regular all) hs

-- narrowing hangs on which hits there are alone
pub narrowed_alike : (w : LinkWorld) (all : Bool) (xs ys : List Hit) → SameMembers xs ys → Alike (narrowed all xs w) (narrowed all ys w)
narrowed_alike w all xs ys same = joined_respects w (narrowed_hit all) (hit_regular all) xs ys same

-- a hit is taken, where its member is shown
pub shown_taken : (w : LinkWorld) (all : Bool) (h : Hit) (d : Data) (m : Member) (found more : List Hit) (old mid : Noted)
    → slice_get d.members h.member.index ≡ Some m → Reads (model h.member.file w) d old mid
    → more ≡ found ++ only_if (all || is_public m.visibility) h
    → Gained (narrowed_hit all h w) (gains_of found old) (gains_of more mid)
shown_taken w all h d m found more old mid at r is =
    gained_read w (model h.member.file) (λ e. told (slice_get e.members h.member.index) (shown_hit all h)) d [] found old mid (gains_of more mid) r
    (subst (λ o. Gained (told o (shown_hit all h) w) (gains_of found mid) (gains_of more mid)) (sym at)
    (subst (λ fs. Gained (shown_hit all h m w) (gains_of found mid) (gains_of fs mid)) (sym is)
    (gained_if w (all || is_public m.visibility) h found mid)))

-- ---- THREE TIERS one after another

module _ (w : LinkWorld) (a b c : Lookup (List Hit)) (old first : LinkTrail Hit) where
  pub three_first : (x : Bool) → Tried w (a ∷ []) x old first → x ≡ true → Tried w (a ∷ b ∷ c ∷ []) true old first
  three_first x p e = tried_end w (a ∷ []) (b ∷ c ∷ []) old first (subst (λ z. Tried w (a ∷ []) z old first) e p)

  module _ (second : LinkTrail Hit) (x : Bool) (p : Tried w (a ∷ []) x old first) (no : x ≡ false) where
    abbrev passed : Tried w (a ∷ []) false old first
    passed = subst (λ z. Tried w (a ∷ []) z old first) no p

    pub three_second : (y : Bool) → Tried w (b ∷ []) y first second → y ≡ true → Tried w (a ∷ b ∷ c ∷ []) true old second
    three_second y q e = tried_on w (a ∷ []) (b ∷ c ∷ []) true old first second passed
        (tried_end w (b ∷ []) (c ∷ []) first second (subst (λ z. Tried w (b ∷ []) z first second) e q))

    module _ (third : LinkTrail Hit) (y : Bool) (q : Tried w (b ∷ []) y first second) (nor : y ≡ false) where
      pub three_last : (z : Bool) → Tried w (c ∷ []) z second third → Tried w (a ∷ b ∷ c ∷ []) z old third
      three_last z r = tried_on w (a ∷ b ∷ []) (c ∷ []) z old second third
          (tried_on w (a ∷ []) (b ∷ []) false old first second passed (subst (λ v. Tried w (b ∷ []) v first second) nor q)) r
