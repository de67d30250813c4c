-- The search that doesn't go on at types that block, node by node.
use Rattle.std.proofs.Common.{◌≡◌, Bool, true, false, cond, List, [], refl, sym}
use Rattle.demand_core.specs.Computation.{done}
use Rattle.demand_core.specs.Search.{Expands}
use Rattle.element_store.specs.declared.numbers.ElementNo.{ElementNo}
use Rattle.link_model.specs.Inheritance.{general, general_links}
use Rattle.link_model.specs.Keys.{same_element, is_in}
use Rattle.link_model.specs.Outside.{Library}
use Rattle.link_model.specs.Readers.{LinkWorld}
use Rattle.link_walk.specs.Calls.{ends}
use Rattle.link_walk.specs.Noted.{LinkTrail}
use Rattle.link_walk.specs.Took.{expanded}
use Rattle.link_walk.proofs.TookLaws.{expands_by}
use Rattle.inherited_names.specs.Stages.{open_links}

never : false ≡ true → ⊥
never h = cc

module _ (lib : Library) (w : LinkWorld) (bs : List ElementNo) (node : ElementNo) (old : LinkTrail ElementNo) where
  -- a type that blocks has no links
  pub open_blocked : is_in node bs ≡ true → Expands (open_links lib bs) (ends general) w same_element [] node old old
  open_blocked there = expands_by (open_links lib bs) (ends general) w node old old (by (is_in node bs) there)
    where
      by : (b : Bool) → b ≡ true → old ≡ expanded (ends general) w (λ (u : ElementNo). cond b (done []) (general_links lib u)) node old
      by true is = refl
      by false is = absurd (never is)

  -- one that doesn't has its generals
  pub open_expanded : (new : LinkTrail ElementNo) → is_in node bs ≡ false → new ≡ expanded (ends general) w (general_links lib) node old
      → Expands (open_links lib bs) (ends general) w same_element [] node old new
  open_expanded new off is = expands_by (open_links lib bs) (ends general) w node old new (by (is_in node bs) off)
    where
      by : (b : Bool) → b ≡ false → new ≡ expanded (ends general) w (λ (u : ElementNo). cond b (done []) (general_links lib u)) node old
      by true none = absurd (never (sym none))
      by false none = is
