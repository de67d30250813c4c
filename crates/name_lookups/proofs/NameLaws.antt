-- Parts that hang on the names of an element, and hits by owning members.
use Rattle.std.proofs.Common.{◌≡◌, ◌∙◌, ℕ, ◌<◌, List, [], ◌∷◌, ◌++◌, map, refl, sym, ap, subst, inl, inr}
use Rattle.std.specs.Cmp.Lexicographic.{pointwise}
use Rattle.std.specs.Prelude.{◌⊎◌, cond, nat_eq, ◌&&◌, Option, None, Some, IfSome, ◌↔◌}
use Rattle.linker_base.specs.Members.{IsMember}
use Rattle.demand_core.specs.Rules.{WaitsOn}
use Rattle.demand_core.specs.Computation.{done, look, ◌>>=◌, IsRegular}
use Rattle.demand_core.proofs.ComputationLaws.{regular_done, regular_look, regular_then, regular_cond}
use Rattle.demand_core.specs.Search.{Part, Finds, Awaits, LooksAt, Shows, Admits, Aside, IsKnown}
use Rattle.demand_core.specs.declared.looks.Fact.{Fact}
use Rattle.demand_core.specs.declared.step.Step.{Step}
use Rattle.demand_core.specs.declared.step.Step.TheVariants.{Done, Waits}
use Rattle.demand_core.proofs.PartLaws.{shows_then, admits_first, admits_then}
use Rattle.element_store.specs.declared.numbers.ElementNo.{ElementNo}
use Rattle.element_store.specs.declared.numbers.FileNo.{FileNo}
use Rattle.element_store.specs.Condition.{IsModel}
use Rattle.element_store.specs.Model.{Data}
use Rattle.element_store.specs.Numbers.{numbers_from}
use Rattle.element_store.specs.Readings.{Owns}
use Rattle.link_model.specs.declared.keys.LinkKey.{LinkKey}
use Rattle.link_model.specs.declared.keys.LinkFact.{LinkFact}
use Rattle.link_model.specs.declared.keys.Hit.{Hit}
use Rattle.link_model.specs.Imports.{owns, owning_hit, under_name}
use Rattle.link_model.specs.Names.{names}
use Rattle.link_model.specs.Outside.{model_in}
use Rattle.link_model.specs.declared.keys.LinkFact.TheVariants.{File}
use Rattle.link_model.proofs.TameLaws.{names_tame}
use Rattle.link_model.specs.Keys.{same_key, key_is_exact}
use Rattle.link_model.specs.Readers.{Lookup, LinkWorld, is_named, listed, model}
use Rattle.link_walk.specs.Gained.{Gained}
use Rattle.link_walk.specs.Noted.{LinkTrail, Noted, noted, Reads}
use Rattle.link_walk.proofs.GainLaws.{gains_of, gained_asked, gained_read}
use Rattle.link_walk.proofs.MarkLaws.{all_kept, all_now, all_new}
use Rattle.linker_base.proofs.MemberLaws.{same_members}
use Rattle.owned_names.specs.Walked.{Names, Leaves}
use Rattle.name_lookups.specs.Under.{by_names, hit_by}
use Rattle.name_lookups.proofs.OwningLaws.{owning_is}

-- steps as words, so that an equation has its type
abbrev done_step : List (List ℕ) → Step LinkKey (List (List ℕ))
done_step ns = Done ns

abbrev waits_step : List LinkKey → Step LinkKey (List (List ℕ))
waits_step ks = Waits ks

-- ---- a stage that hangs on names

module _ (w : LinkWorld) (c : Lookup (List (List ℕ))) (f : List (List ℕ) → Lookup (List Hit)) (rest : Names) (found : List Hit) (old mid : Noted)
    (leaves : Leaves old mid rest (c w)) (none : rest.looks ≡ []) where
  abbrev OldPart : Part LinkKey LinkFact Hit → Type 0
  OldPart y = IsKnown (gains_of found old) y

  abbrev MidPart : Part LinkKey LinkFact Hit → Type 0
  MidPart y = IsKnown (gains_of found mid) y

  kept_by : (y : Part LinkKey LinkFact Hit) → OldPart y → MidPart y
  kept_by (Finds z) k = k
  kept_by (Awaits q) k = subst (λ ks. IsMember ks q) (sym leaves.waits) k
  kept_by (LooksAt g) k = leaves.kept g k

  looked : (g : Fact LinkKey LinkFact) → IsMember (c w).looks g → IsMember mid.looks g
  looked g m = elim (leaves.shown g m) [ inl now ↦ now | inr more ↦ absurd (subst (λ ls. IsMember ls g) none more) ]

  -- the names are known, and what hangs on them is taken
  pub named_on : (ns : List (List ℕ)) (new : LinkTrail Hit) → rest.step ≡ Done ns → Gained (f ns w) (gains_of found mid) new
      → Gained ((c >>= f) w) (gains_of found old) new
  named_on ns new is h = record {
    kept = λ y k. h.kept y (kept_by y k);
    shown = λ y s. elim (shows_then w c f y s) [
      | inl aside ↦ h.kept y (has_by y aside)
      | inr d ↦ h.shown y (subst (λ z. Shows (f z w) y) (same_done d.0 ns (sym d.1 ∙ step)) d.2)
    ];
    only = λ y k. elim (h.only y k) [
      | inl there ↦ elim (only_by y there) [ inl o ↦ inl o | inr aside ↦ inr (admits_first w c f y aside) ]
      | inr b ↦ inr (admits_then w c f ns y step b)
    ];
  }
    where
      step : (c w).step ≡ Done ns
      step = leaves.step ∙ is

      same_done : (us vs : List (List ℕ)) → done_step us ≡ done_step vs → us ≡ vs
      same_done us vs e = cc

      has_by : (y : Part LinkKey LinkFact Hit) → Aside (c w) y → MidPart y
      has_by (Finds z) k = absurd k
      has_by (Awaits q) k = absurd (subst (λ z. WaitsOn z q) step k)
      has_by (LooksAt g) k = looked g k

      only_by : (y : Part LinkKey LinkFact Hit) → MidPart y → OldPart y ⊎ Aside (c w) y
      only_by (Finds z) k = inl k
      only_by (Awaits q) k = inl (subst (λ ks. IsMember ks q) leaves.waits k)
      only_by (LooksAt g) k = elim (leaves.only g k) [ inl o ↦ inl o | inr m ↦ inr m ]

  -- the names hang on an open reference
  pub named_open : (r : LinkKey) (last : Noted) → rest.step ≡ Waits (r ∷ []) → last ≡ noted (r ∷ []) [] mid
      → Gained ((c >>= f) w) (gains_of found old) (gains_of found last)
  named_open r last is waits = subst (λ n. Gained ((c >>= f) w) (gains_of found old) (gains_of found n)) (sym waits) (record {
    kept = λ y k. more y (kept_by y k);
    shown = λ y s. elim (shows_then w c f y s) [
      | inl aside ↦ has_by y aside
      | inr d ↦ absurd (never d.0 (sym step ∙ d.1))
    ];
    only = λ y k. only_by y k;
  })
    where
      step : (c w).step ≡ Waits (r ∷ [])
      step = leaves.step ∙ is

      never : (ns : List (List ℕ)) → waits_step (r ∷ []) ≡ done_step ns → ⊥
      never ns e = cc

      more : (y : Part LinkKey LinkFact Hit) → MidPart y → IsKnown (gains_of found (noted (r ∷ []) [] mid)) y
      more (Finds z) k = k
      more (Awaits q) k = all_kept same_key key_is_exact (r ∷ []) mid.waits q k
      more (LooksAt g) k = k

      has_by : (y : Part LinkKey LinkFact Hit) → Aside (c w) y → IsKnown (gains_of found (noted (r ∷ []) [] mid)) y
      has_by (Finds z) k = absurd k
      has_by (Awaits q) k = all_now same_key key_is_exact (r ∷ []) mid.waits q (subst (λ z. WaitsOn z q) step k)
      has_by (LooksAt g) k = looked g k

      only_by : (y : Part LinkKey LinkFact Hit) → IsKnown (gains_of found (noted (r ∷ []) [] mid)) y → OldPart y ⊎ Admits ((c >>= f) w) y
      only_by (Finds z) k = inl k
      only_by (Awaits q) k = elim (all_new same_key key_is_exact (r ∷ []) mid.waits q k) [
        | inl o ↦ inl (subst (λ ks. IsMember ks q) leaves.waits o)
        | inr m ↦ inr (admits_first w c f (Awaits q) (subst (λ z. WaitsOn z q) (sym step) m))
      ]
      only_by (LooksAt g) k = elim (leaves.only g k) [ inl o ↦ inl o | inr m ↦ inr (admits_first w c f (LooksAt g) m) ]

-- ---- the hit of an element by its owning member

-- hits are taken
pub gained_found : (w : LinkWorld) (hs found : List Hit) (notes : Noted) → Gained (done hs w) (gains_of found notes) (gains_of (found ++ hs) notes)
gained_found w hs found notes = gained_asked (record { nodes = the_none; found = hs; waits = []; looks = [] }) (done hs w) (gains_of found notes)
    (record { step = same_members hs; looks = same_members [] })
  where
    the_none : List ElementNo
    the_none = []

pub owning_taken : (w : LinkWorld) (e : ElementNo) (d : Data) (o : Option ℕ) (found more : List Hit) (old mid : Noted)
    → IsModel d → IfSome o (Owns d e.index) → ((o ≡ None) ↔ (e.index ≡ 0)) → Reads (model e.file w) d old mid
    → more ≡ found ++ map (hit_by e) (listed o)
    → Gained (owning_hit e w) (gains_of found old) (gains_of more mid)
owning_taken w e d o found more old mid is own root r here =
    gained_read w (model e.file) (λ z. done (map (hit_by e) (numbers_from 0 (λ m. owns e.index m.target) z.members))) d [] found old mid (gains_of more mid) r
    (subst (λ ns. Gained (done (map (hit_by e) ns) w) (gains_of found mid) (gains_of more mid)) (sym (owning_is d is.owned e.index o own root))
    (subst (λ hs. Gained (done (map (hit_by e) (listed o)) w) (gains_of found mid) (gains_of hs mid)) (sym here)
    (gained_found w (map (hit_by e) (listed o)) found mid)))

-- ---- askings are sound by their shape

model_regular : (f : FileNo) → IsRegular (model f)
model_regular f = regular_then (look (File f)) (λ s. done (model_in s)) (regular_look (File f)) (λ s. regular_done (model_in s))

owning_regular : (e : ElementNo) → IsRegular (owning_hit e)
owning_regular e = regular_then (model e.file) (λ d. done (map (hit_by e) (numbers_from 0 (λ m. owns e.index m.target) d.members))) (model_regular e.file)
    (λ d. regular_done (map (hit_by e) (numbers_from 0 (λ m. owns e.index m.target) d.members)))

pub under_regular : (x last : List ℕ) (e : ElementNo) → IsRegular (under_name x last e)
under_regular x last e = regular_cond (pointwise nat_eq x last) (owning_hit e) (by_names x last e) (owning_regular e)
    (regular_then (names e) (λ ns. cond (is_named x ns && is_named last ns) (owning_hit e) (done [])) (names_tame e).regular
    (λ ns. regular_cond (is_named x ns && is_named last ns) (owning_hit e) (done []) (owning_regular e) (regular_done [])))
