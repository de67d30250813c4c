-- From a search to the answer of a call.
use Rattle.std.proofs.Common.{◌≡◌, Bool, true, false, List, [], sym, ◌∙◌, subst}
use Rattle.linker_base.specs.Members.{IsEachOnce, SameMembers}
use Rattle.linker_base.proofs.MemberLaws.{same_through}
use Rattle.demand_core.specs.Computation.{IsRegular}
use Rattle.demand_core.specs.Search.{IsAsked}
use Rattle.demand_core.proofs.AlikeLaws.{any_over}
use Rattle.element_store.specs.declared.numbers.ElementNo.{ElementNo}
use Rattle.element_store.specs.declared.models.StoredFile.{StoredFile}
use Rattle.link_model.specs.declared.view.View.{View}
use Rattle.link_model.specs.Keys.{same_element, element_is_exact, is_in}
use Rattle.link_model.specs.Readers.{Lookup, most}
use Rattle.link_model.specs.Settled.{in_settled, explicit_links}
use Rattle.link_walk.specs.Calls.{IsAnswer, IsOnce, read_by, files_of}
use Rattle.link_walk.specs.declared.answering.Found.{Found}
use Rattle.link_walk.specs.declared.answering.Found.TheVariants as found
use Rattle.link_walk.specs.Marks.{marked_all}
use Rattle.link_walk.specs.Noted.{LinkTrail, each_once}
use Rattle.link_walk.proofs.AnswerLaws.{asked_once, settled_found}
use Rattle.link_walk.proofs.MarkLaws.{all_once, marks_same}
use Rattle.inheritance.specs.declared.sight.Sight.{Sight}
use Rattle.link_model.specs.Inheritance.{general}
use Rattle.demand_core.proofs.ComputationLaws.{regular_follow}
use Rattle.inheritance.specs.GeneralLaws.{explicit_regular, general_regular}
use Rattle.inheritance.specs.Sights.{explicit_reached, world_as, sees}

pub explicit_reached_regular : (t : ElementNo) → IsRegular (explicit_reached t)
explicit_reached_regular t = regular_follow same_element explicit_links general explicit_regular general_regular most t

-- an answer that was marked has nothing twice
pub answer_once : (es : List ElementNo) (f : Found (List ElementNo)) (given : List ElementNo) → given ≡ marked_all same_element [] es → IsAnswer given f
    → IsOnce f
answer_once es (found.Done ys) given is h = subst IsEachOnce (sym (h ∙ is)) (all_once same_element element_is_exact es [] tt)
answer_once es (found.Waits rs) given is h = tt

module _ (c : List StoredFile → Lookup (List ElementNo)) (s : Sight) (v : View) (seen : s.view.now ≡ v) where
  abbrev seen_by : Bool → LinkTrail ElementNo → Type 0
  seen_by b trail = IsAsked trail (c (files_of v) (world_as b (read_by v)))

  by_view : (b : Bool) (trail : LinkTrail ElementNo) → s.settled ≡ b → IsAsked trail (c s.view.now.models.now (sees s)) → seen_by b trail
  by_view b trail is h = subst (λ t. IsAsked trail t) (λ i. c (files_of (seen i)) (world_as (is i) (read_by (seen i)))) h

  -- each is found once
  pub gains_asked : (trail gains : LinkTrail ElementNo) → s.settled ≡ false → IsAsked trail (c s.view.now.models.now (sees s)) → gains ≡ each_once trail
      → IsAsked gains (c (files_of v) (read_by v))
  gains_asked trail gains is h once =
      subst (λ t. IsAsked t (c (files_of v) (read_by v))) (sym once) (asked_once trail (c (files_of v) (read_by v)) (by_view false trail is h))

  -- where no link is to come any more
  pub found_settled : (trail : LinkTrail ElementNo) → IsRegular (c (files_of v)) → s.settled ≡ true → IsAsked trail (c s.view.now.models.now (sees s))
      → SameMembers trail.found (in_settled (c (files_of v)) (read_by v))
  found_settled trail r is h = settled_found (c (files_of v)) r (read_by v) trail (by_view true trail is h)

  pub once_settled : (trail : LinkTrail ElementNo) (es : List ElementNo) → IsRegular (c (files_of v)) → s.settled ≡ true
      → IsAsked trail (c s.view.now.models.now (sees s)) → es ≡ marked_all same_element [] trail.found
      → SameMembers es (in_settled (c (files_of v)) (read_by v))
  once_settled trail es r is h same =
      subst (λ z. SameMembers z (in_settled (c (files_of v)) (read_by v))) (sym same)
      (same_through (marks_same same_element element_is_exact trail.found) (found_settled trail r is h))

  pub in_settled_found : (trail : LinkTrail ElementNo) (e : ElementNo) → IsRegular (c (files_of v)) → s.settled ≡ true
      → IsAsked trail (c s.view.now.models.now (sees s)) → is_in e trail.found ≡ is_in e (in_settled (c (files_of v)) (read_by v))
  in_settled_found trail e r is h =
      any_over (same_element e) trail.found (in_settled (c (files_of v)) (read_by v)) (found_settled trail r is h)
