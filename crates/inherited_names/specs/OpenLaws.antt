-- The search along generals that doesn't go on at types that block.
use Rattle.std.proofs.Common.{◌≡◌, Bool, true, false, cond, List, [], refl, sym, subst}
use Rattle.linker_base.specs.Members.{IsMember}
use Rattle.demand_core.specs.Computation.{done, IsRegular}
use Rattle.demand_core.specs.Search.{Goes, LedOn}
use Rattle.demand_core.specs.declared.step.Step.TheVariants.{Done}
use Rattle.demand_core.proofs.ComputationLaws.{regular_cond, regular_done}
use Rattle.element_store.specs.declared.numbers.ElementNo.{ElementNo}
use Rattle.link_model.specs.Inheritance.{Link, general, general_links}
use Rattle.link_model.specs.Keys.{same_element, is_in}
use Rattle.link_model.specs.Outside.{Library, library_of}
use Rattle.link_walk.specs.Calls.{ends, elements_of}
use Rattle.inheritance.specs.declared.sight.Sight.{Sight}
use Rattle.inheritance.specs.GeneralLaws.{general_links_regular, generals_closed, done_same}
use Rattle.inheritance.specs.Sights.{sees, IsClear}
use Rattle.inherited_names.specs.Stages.{open_links}

pub open_regular : (lib : Library) (bs : List ElementNo) (u : ElementNo) → IsRegular (open_links lib bs u)
open_regular lib bs u = regular_cond (is_in u bs) (done []) (general_links lib u) (regular_done [])
    (general_links_regular lib u)

pub open_closed : (s : Sight) (bs : List ElementNo) → IsClear s → (a t : ElementNo)
    → IsMember (elements_of s.view.now.models.now) a
    → Goes (open_links (library_of s.view.now.models.now) bs) (ends general) (sees s) same_element a t
    → IsMember (elements_of s.view.now.models.now) t
open_closed s bs clear a t m go = by (is_in a bs) go.0 go.1.0 go.1.1 go.1.2 go.2
  where
    by : (b : Bool) (l : Link) (ls : List Link)
        → (cond b (done []) (general_links (library_of s.view.now.models.now) a) (sees s)).step ≡ Done ls
        → IsMember ls l → LedOn (ends general l (sees s)).step t → IsMember (elements_of s.view.now.models.now) t
    by true l ls is among on = absurd (subst (λ z. IsMember z l) (sym (done_same (sees s) [] ls _ refl is)) among)
    by false l ls is among on = generals_closed s clear a t m (l, (ls, is, among), on)
