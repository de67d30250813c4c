-- What the code of a node's expansion does, over plain variables.
use Rattle.std.proofs.Common.{◌≡◌, ℕ, ◌<◌, Bool, true, false, cond, List, [], ◌∷◌, ◌++◌, map, get_or, length, refl, sym, ◌∙◌, ap, subst, inl, arith}
use Rattle.std.specs.Prelude.{zero, suc, Option, None, Some, slice_get}
use Rattle.std.specs.List.{list_any}
use Rattle.linker_base.specs.Members.{IsMember, IsExact}
use Rattle.linker_base.proofs.MemberLaws.{member_test}
use Rattle.demand_core.specs.declared.looks.Fact.{Fact}
use Rattle.demand_core.specs.declared.looks.Fact.TheVariants.{Outer}
use Rattle.element_store.specs.declared.numbers.ElementNo.{ElementNo}
use Rattle.element_store.specs.declared.outcome.Outcome.{Outcome}
use Rattle.element_store.specs.declared.models.StoredFile.{StoredFile}
use Rattle.element_store.specs.declared.records.Element.{Element}
use Rattle.element_store.specs.Kinds.{is_feature}
use Rattle.element_store.specs.Model.{Data, root_element}
use Rattle.element_store.specs.BaseRules.{StandsIn, model_of, base_of}
use Rattle.link_model.specs.declared.keys.LinkKey.{LinkKey}
use Rattle.link_model.specs.declared.keys.LinkFact.{LinkFact}
use Rattle.link_model.specs.declared.keys.LinkFact.TheVariants.{File}
use Rattle.link_model.specs.Inheritance.{is_specialisation, general, base, base_link, general_links}
use Rattle.link_model.specs.Inheritance.Link.{ByReference}
use Rattle.link_model.specs.Names.{is_redefinition, redefinitions}
use Rattle.link_model.specs.Outside.{library_of, model_in}
use Rattle.link_model.specs.Readers.{LinkWorld, references_as, target}
use Rattle.link_model.specs.Settled.{explicit_links}
use Rattle.demand_core.specs.Computation.{done}
use Rattle.link_walk.specs.Calls.{reading, ends}
use Rattle.link_walk.specs.Marks.{marked, same_fact}
use Rattle.link_walk.specs.Noted.{LinkTrail}
use Rattle.link_walk.specs.Took.{took_all, expanded, expanded_step, with_looks}
use Rattle.link_walk.specs.Wanted.{references_in}
use Rattle.link_walk.proofs.MarkLaws.{all_now, fact_is_exact}
use Rattle.link_walk.proofs.TookLaws.{took_append}
use Rattle.inheritance.specs.BaseStands.{same_base}
use Rattle.inheritance.specs.Sights.{world_as}

abbrev ElementTrail : Type 0
ElementTrail = LinkTrail ElementNo

-- a second mark changes nothing
marked_twice : {A : Type 0} (same : A → A → Bool) → IsExact same → (marks : List A) (x : A) → marked same (marked same marks x) x ≡ marked same marks x
marked_twice same exact marks x =
    let there = all_now same exact (x ∷ []) marks x in
    let is : list_any (same x) (marked same marks x) ≡ true = member_test same exact (marked same marks x) x (there (here x)) in
    λ i. cond (is i) (marked same marks x) (marked same marks x ++ x ∷ [])
  where
    here : {A : Type 0} (x : A) → IsMember (x ∷ []) x
    here x = inl refl

pub model_same : (files : List StoredFile) (f : ℕ) (d : Data) → model_of files f ≡ Some d → model_in (slice_get files f) ≡ d
model_same files f d of = by (slice_get files f) refl
  where
    by : (o : Option StoredFile) → slice_get files f ≡ o → model_in o ≡ d
    by None is = let bad : None ≡ Some d = rw is at of in cc
    by (Some s) is = let has : s.model ≡ Some d = rw is at of in rw has refl

get_same : {A : Type 0} (xs : List A) (i : ℕ) (x r : A) → slice_get xs i ≡ Some x → get_or xs i r ≡ x
get_same [] i x r e = cc
get_same (y ∷ xs) zero x r e = cc
get_same (y ∷ xs) (suc i) x r e = get_same xs i x r e

get_there : {A : Type 0} (xs : List A) (i : ℕ) (r : A) → i < length xs → slice_get xs i ≡ Some (get_or xs i r)
get_there [] i r lt = absurd (omega arith)
get_there (y ∷ xs) zero r lt = refl
get_there (y ∷ xs) (suc i) r lt = get_there xs i r (omega arith)

-- an element that stands, in the model of its file
pub stands_within : (files : List StoredFile) (e : ElementNo) (d : Data) → model_of files e.file.0 ≡ Some d → StandsIn files e → e.index < length d.elements
stands_within files e d of h = let same : h.0 ≡ d = some_same h.0 d (sym h.1 ∙ of) in subst (λ (z : Data). e.index < length z.elements) same h.2
  where
    some_same : {V : Type 0} (v u : V) → Some v ≡ Some u → v ≡ u
    some_same v u e = cc

module _ (settled : Bool) (files : List StoredFile) (entries : List (LinkKey × Outcome)) (node : ElementNo) (d : Data) (of : model_of files node.file.0
    ≡ Some d) where
  abbrev w : LinkWorld
  w = world_as settled (reading files entries)

  abbrev at_file : Fact LinkKey LinkFact
  at_file = Outer (File node.file)

  -- the look at the file of a node
  abbrev looked : ElementTrail → ElementTrail
  looked old = record old { looks = marked same_fact old.looks at_file }

  abbrev looked_twice : ElementTrail → ElementTrail
  looked_twice old = record old { looks = marked same_fact (marked same_fact old.looks at_file) at_file }

  once : (old : ElementTrail) → looked old ≡ looked_twice old
  once old = λ i. record old { looks = sym (marked_twice same_fact fact_is_exact old.looks at_file) i }

  whole : d ≡ model_in (slice_get files node.file.0)
  whole = sym (model_same files node.file.0 d of)

  -- a type is expanded
  pub general_expanded : (refs : List LinkKey) (b : Option ElementNo) (old mid last new : ElementTrail) → d.file ≡ node.file → node.index < length d.elements
      → refs ≡ references_in is_specialisation d node → b ≡ base_of files node → mid ≡ looked old
      → last ≡ took_all (ends general) w (map ByReference refs) mid → new ≡ took_all (ends general) w (base_link node b) last
      → new ≡ expanded (ends general) w (general_links (library_of files)) node old
  general_expanded refs b old mid last new own lt are based one two three =
      let x = get_or d.elements node.index root_element in
      let base_is : b ≡ base (library_of files) d node x = based ∙ same_base files d node x of own (get_there d.elements node.index root_element lt) in
      three ∙ (ap (took_all (ends general) w (base_link node b)) (two ∙ ap (took_all (ends general) w (map ByReference refs)) (one ∙ once old))
      ∙ (sym (took_append (ends general) w (map ByReference refs) (base_link node b) (looked_twice old))
      ∙ ((λ i. took_all (ends general) w (map ByReference (are i) ++ base_link node (base_is i)) (looked_twice old))
      ∙ ap (λ (z : Data). took_all (ends general) w (map ByReference (references_in is_specialisation z node)
      ++ base_link node (base (library_of files) z node (get_or z.elements node.index root_element))) (looked_twice old)) whole)))

  -- a type is expanded without its base
  pub explicit_expanded : (refs : List LinkKey) (old mid new : ElementTrail) → refs ≡ references_in is_specialisation d node → mid ≡ looked old
      → new ≡ took_all (ends general) w (map ByReference refs) mid → new ≡ expanded (ends general) w explicit_links node old
  explicit_expanded refs old mid new are one two =
      two ∙ ((λ i. took_all (ends general) w (map ByReference (are i)) (one i))
      ∙ ap (λ (z : Data). took_all (ends general) w (map ByReference (references_in is_specialisation z node)) (looked old)) whole)

  -- what the redefinitions of a node look at and give, by its kind
  abbrev by_kind : Data → Bool → ElementTrail → ElementTrail
  by_kind z feature old =
      let a = cond feature (references_as is_redefinition node) (done []) w in
      expanded_step (ends target) w (with_looks old (record { step = a.step; looks = at_file ∷ a.looks })) a.step

  kind_is : (x : Element) → slice_get d.elements node.index ≡ Some x → (old : ElementTrail) → by_kind d (is_feature x.kind) old
      ≡ expanded (ends target) w redefinitions node old
  kind_is x at old =
      let same : x ≡ get_or (model_in (slice_get files node.file.0)).elements node.index root_element =
      sym (get_same d.elements node.index x root_element at) ∙ ap (λ (z : Data). get_or z.elements node.index root_element) whole in
      ap (λ (z : Element). by_kind d (is_feature z.kind) old) same

  -- what is no feature has no redefinitions
  pub no_feature_expanded : (x : Element) (old new : ElementTrail) → slice_get d.elements node.index ≡ Some x → is_feature x.kind ≡ false → new ≡ looked old
      → new ≡ expanded (ends target) w redefinitions node old
  no_feature_expanded x old new at isnt one = one ∙ ((λ i. by_kind d (sym isnt i) old) ∙ kind_is x at old)

  -- a feature is expanded
  pub feature_expanded : (x : Element) (refs : List LinkKey) (old mid new : ElementTrail) → slice_get d.elements node.index ≡ Some x → is_feature x.kind ≡ true
      → refs ≡ references_in is_redefinition d node → mid ≡ looked old → new ≡ took_all (ends target) w refs mid
      → new ≡ expanded (ends target) w redefinitions node old
  feature_expanded x refs old mid new at yes_it_is are one two =
      two ∙ ((λ i. took_all (ends target) w (are i) ((one ∙ once old) i))
      ∙ (ap (λ (z : Data). took_all (ends target) w (references_in is_redefinition z node) (looked_twice old)) whole
      ∙ ((λ i. by_kind d (sym yes_it_is i) old) ∙ kind_is x at old)))
