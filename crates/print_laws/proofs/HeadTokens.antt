-- The head of each thing is printed from the model as from the tree.
use Rattle.std.proofs.Common.{◌≡◌, ℕ, List, [], ◌∷◌, ◌++◌, refl, ap, sym, ◌∙◌, append_assoc, append-nil}
use Rattle.std.specs.Prelude.{Option, None, Bool, true, false, codes, map}
use Rattle.element_store.specs.declared.numbers.FileNo.{FileNo}
use Rattle.element_store.specs.declared.outcome.Language.{Language}
use Rattle.element_store.specs.declared.outcome.Language.TheVariants.{Kerml, Sysml}
use Rattle.element_store.specs.declared.outcome.Role.TheVariants as role
use Rattle.element_store.specs.declared.kind.PartOf.TheVariants as part
use Rattle.element_store.specs.declared.kind.Visibility.{Visibility}
use Rattle.element_store.specs.declared.lists.Item.{Item}
use Rattle.element_store.specs.declared.records.Element.{Element}
use Rattle.text_model.specs.declared.draft.Mention.{Mention}
use Rattle.text_model.specs.declared.draft.Draft.{Draft}
use Rattle.text_model.specs.Drafts.{mentions}
use Rattle.text_model.specs.Numbering.{element, own_mentions, mentions_of, reference, bound_start, value_start, bounds_of, numbered_in, model_of}
use Rattle.text_model.specs.Walk.{Walk}
use Rattle.print_model.specs.Printed.{Printed, sign, word}
use Rattle.print_model.specs.Trees.{Tree}
use Rattle.print_model.specs.Heads.{references_in, is_specialisation, specialisations, bounds_tokens, word_if, direction_words, member_visibility, kind_words, before_names, head, value_tokens, ends_tokens, ends_of, short_name, declared_name}
use Rattle.print_laws.specs.Items.{Names, Qualified, Run, Extent, Value, Unvalued, Header, Ending, Ends, Alone, Prefix, Qualities, Usage, Definition, TypeWord, Packing, Bare, Library, Standard, Thing}
use Rattle.print_laws.specs.Items as items
use Rattle.print_laws.specs.ItemTokens.{named, runs, extent, header, valued, ending, ends, simple_word, connector_word, calculation_word, usage, definition_word, type_word, feature_word, generals, thing}
use Rattle.print_laws.specs.ItemWalk.{path, all_mentions, extent_nodes, value_of, default_of, usage_kind, definition_kind, type_kind, feature_kind, usage_ends, thing_draft}
use Rattle.print_laws.specs.Fitting.{AreParted, runs_in}
use Rattle.print_laws.proofs.Growth.{with_more, closing}
use Rattle.print_laws.proofs.Views.{mentions_in}
use Rattle.print_laws.proofs.RunTokens.{Knows, runs_are, generals_are}
use Rattle.print_laws.proofs.ElementTokens.{bounds_are, value_is, own_alone, runs_roles, all_of}

-- the word of a usage, if it has one
abbrev usage_words : Usage → List Printed
usage_words (items.SimpleUse s) = word Sysml (simple_word s) ∷ []
usage_words items.EnumUse = word Sysml (codes "enum") ∷ []
usage_words (items.ConnectorUse i e) = word Sysml (connector_word i) ∷ []
usage_words (items.CalculationUse c) = word Sysml (calculation_word c) ∷ []
usage_words items.RequirementUse = word Sysml (codes "requirement") ∷ []
usage_words items.Plain = []

-- the word of a usage is that of its kind
kind_of_usage : (u : Usage) → kind_words Sysml part.Plain (usage_kind u) ≡ usage_words u
kind_of_usage (items.SimpleUse items.Attribute) = refl
kind_of_usage (items.SimpleUse items.Occurrence) = refl
kind_of_usage (items.SimpleUse items.Item) = refl
kind_of_usage (items.SimpleUse items.Part) = refl
kind_of_usage (items.SimpleUse items.Port) = refl
kind_of_usage (items.SimpleUse items.Action) = refl
kind_of_usage items.EnumUse = refl
kind_of_usage (items.ConnectorUse true e) = refl
kind_of_usage (items.ConnectorUse false e) = refl
kind_of_usage (items.CalculationUse true) = refl
kind_of_usage (items.CalculationUse false) = refl
kind_of_usage items.RequirementUse = refl
kind_of_usage items.Plain = refl

-- also behind `return`
returned_usage : (u : Usage) → kind_words Sysml part.Return (usage_kind u) ≡ usage_words u
returned_usage (items.SimpleUse items.Attribute) = refl
returned_usage (items.SimpleUse items.Occurrence) = refl
returned_usage (items.SimpleUse items.Item) = refl
returned_usage (items.SimpleUse items.Part) = refl
returned_usage (items.SimpleUse items.Port) = refl
returned_usage (items.SimpleUse items.Action) = refl
returned_usage items.EnumUse = refl
returned_usage (items.ConnectorUse true e) = refl
returned_usage (items.ConnectorUse false e) = refl
returned_usage (items.CalculationUse true) = refl
returned_usage (items.CalculationUse false) = refl
returned_usage items.RequirementUse = refl
returned_usage items.Plain = refl

-- so are the words of a definition
kind_of_definition : (k : Definition) → kind_words Sysml part.Plain (definition_kind k) ≡ word Sysml (definition_word k) ∷ word Sysml (codes "def") ∷ []
kind_of_definition (items.SimpleDef items.Attribute) = refl
kind_of_definition (items.SimpleDef items.Occurrence) = refl
kind_of_definition (items.SimpleDef items.Item) = refl
kind_of_definition (items.SimpleDef items.Part) = refl
kind_of_definition (items.SimpleDef items.Port) = refl
kind_of_definition (items.SimpleDef items.Action) = refl
kind_of_definition items.EnumDef = refl
kind_of_definition (items.ConnectorDef true) = refl
kind_of_definition (items.ConnectorDef false) = refl
kind_of_definition (items.CalculationDef true) = refl
kind_of_definition (items.CalculationDef false) = refl
kind_of_definition items.RequirementDef = refl

-- of a type
kind_of_type : (k : TypeWord) → kind_words Kerml part.Plain (type_kind k) ≡ word Kerml (type_word k) ∷ []
kind_of_type items.AnyType = refl
kind_of_type items.Classifier = refl
kind_of_type items.Class = refl
kind_of_type items.Struct = refl
kind_of_type items.Datatype = refl
kind_of_type items.Assoc = refl
kind_of_type items.Behavior = refl

-- of a feature
kind_of_feature : (b : Bool) → kind_words Kerml part.Plain (feature_kind b) ≡ word Kerml (feature_word b) ∷ []
kind_of_feature true = refl
kind_of_feature false = refl

-- also behind `return`
yielded_feature : (b : Bool) → kind_words Kerml part.Return (feature_kind b) ≡ word Kerml (feature_word b) ∷ []
yielded_feature true = refl
yielded_feature false = refl

-- a usage, part by part
usage_is : (u : Usage) (h : Header) (v : Value) (body : List Printed)
    → usage u h v body ≡ usage_words u ++ (header Sysml h ++ (valued Sysml v ++ (ends Sysml (usage_ends u) ++ body)))
usage_is (items.SimpleUse s) h v body = refl
usage_is items.EnumUse h v body = refl
usage_is (items.ConnectorUse i e) h v body = refl
usage_is (items.CalculationUse c) h v body = refl
usage_is items.RequirementUse h v body = refl
usage_is items.Plain h v body = refl

-- the parts of a head
head_parts : (file : FileNo) (l : Language) (w : Walk) (v : Visibility) (c s : ℕ) (x : Draft) (ss bs vs es : List Printed)
    → Knows (model_of file l w) c s x
    → specialisations l None (map (reference c) (mentions_in is_specialisation (mentions_of x))) ≡ ss
    → bounds_tokens (model_of file l w) (bounds_of (bound_start s x) x.bounds) ≡ bs
    → value_tokens (model_of file l w) x.marks.default (numbered_in (value_start s x) x.value) ≡ vs
    → ends_tokens (model_of file l w) x.kind (ends_of (model_of file l w) c) ≡ es
    → head (model_of file l w) v c
    ≡ before_names (model_of file l w) v (element s x)
    ++ (ss ++ (bs ++ (word_if l x.marks.ordered (codes "ordered") ++ (word_if l x.marks.nonunique (codes "nonunique") ++ (vs ++ es)))))
head_parts file l w v c s x ss bs vs es k a b e f =
    let d = model_of file l w in
    let r = references_in d is_specialisation c in
    let n = ends_of d c in
    let bt = bounds_tokens d (bounds_of (bound_start s x) x.bounds) in
    let vt = value_tokens d x.marks.default (numbered_in (value_start s x) x.value) in
    let front = before_names d v (element s x) in
    let ord = word_if l x.marks.ordered (codes "ordered") in
    let non = word_if l x.marks.nonunique (codes "nonunique") in
    ap (λ (y : Element). before_names d v y ++ (specialisations l None r ++ (bounds_tokens d y.bounds ++ (word_if l y.marks.ordered (codes "ordered")
    ++ (word_if l y.marks.nonunique (codes "nonunique") ++ (value_tokens d y.marks.default y.value ++ ends_tokens d y.kind n)))))) k.element_is
    ∙ (ap (λ rs. front ++ (specialisations l None rs ++ (bt ++ (ord ++ (non ++ (vt ++ ends_tokens d x.kind n)))))) (k.references_are is_specialisation)
    ∙ (ap (λ ts. front ++ (ts ++ (bt ++ (ord ++ (non ++ (vt ++ ends_tokens d x.kind n)))))) a
    ∙ (ap (λ ts. front ++ (ss ++ (ts ++ (ord ++ (non ++ (vt ++ ends_tokens d x.kind n)))))) b
    ∙ (ap (λ ts. front ++ (ss ++ (bs ++ (ord ++ (non ++ (ts ++ ends_tokens d x.kind n)))))) e
    ∙ ap (λ ts. front ++ (ss ++ (bs ++ (ord ++ (non ++ (vs ++ ts)))))) f))))

-- of a feature: its draft says what its header says
pub record IsHeaded (x : Draft) (h : Header) (v : Value) : Type 0 where
  pub specs : own_mentions x ≡ all_mentions h.runs
  pub bounds : x.bounds ≡ extent_nodes h.extent
  pub value : x.value ≡ value_of v
  pub default : x.marks.default ≡ default_of v
  pub inner : mentions_in is_specialisation x.inner ≡ []

-- the head of a feature
feature_head : (file : FileNo) (l : Language) (w : Walk) (v : Visibility) (c s : ℕ) (x : Draft) (h : Header) (y : Value) (es : List Printed)
    → Knows (model_of file l w) c s x → IsHeaded x h y → AreParted h.runs
    → ends_tokens (model_of file l w) x.kind (ends_of (model_of file l w) c) ≡ es
    → head (model_of file l w) v c
    ≡ before_names (model_of file l w) v (element s x)
    ++ (runs l h.runs ++ (extent l h.extent ++ (word_if l x.marks.ordered (codes "ordered") ++ (word_if l x.marks.nonunique (codes "nonunique")
    ++ (valued l y ++ es)))))
feature_head file l w v c s x h y es k i p e =
    let d = model_of file l w in
    head_parts file l w v c s x (runs l h.runs) (extent l h.extent) (valued l y) es k
    (ap (λ ms. specialisations l None (map (reference c) ms)) (own_alone is_specialisation x refl refl i.inner ∙ (ap
    (mentions_in is_specialisation) i.specs ∙ runs_roles h.runs))
    ∙ runs_are l c h.runs p)
    (bounds_are d c s x k h.extent i.bounds)
    (ap (λ b. value_tokens d b (numbered_in (value_start s x) x.value)) i.default ∙ value_is d c s x k y i.value) e

-- of a type: its draft says its generals
type_head : (file : FileNo) (l : Language) (w : Walk) (v : Visibility) (c s : ℕ) (x : Draft) (qs : List Qualified)
    → Knows (model_of file l w) c s x → own_mentions x ≡ mentions role.Subclass (map path qs) → x.bounds ≡ [] → x.value ≡ None
    → x.marks.ordered ≡ false → x.marks.nonunique ≡ false → mentions_in is_specialisation x.inner ≡ []
    → ends_tokens (model_of file l w) x.kind (ends_of (model_of file l w) c) ≡ []
    → head (model_of file l w) v c ≡ before_names (model_of file l w) v (element s x) ++ generals l qs
type_head file l w v c s x qs k o b y p q i e =
    let d = model_of file l w in
    let front = before_names d v (element s x) in
    head_parts file l w v c s x (generals l qs) [] [] [] k
    (ap (λ ms. specialisations l None (map (reference c) ms))
    (own_alone is_specialisation x refl refl i ∙ (ap (mentions_in is_specialisation) o ∙ all_of is_specialisation role.Subclass
    (map path qs) refl)) ∙ general_is l c qs)
    (ap (λ ns. bounds_tokens d (bounds_of (bound_start s x) ns)) b)
    (ap (λ z. value_tokens d x.marks.default (numbered_in (value_start s x) z)) y) e
    ∙ (ap (λ z. front ++ (generals l qs ++ (word_if l z (codes "ordered") ++ (word_if l x.marks.nonunique (codes "nonunique") ++ [])))) p
    ∙ (ap (λ z. front ++ (generals l qs ++ (word_if l z (codes "nonunique") ++ []))) q ∙ ap (λ ts. front ++ ts) (append-nil (generals l qs))))
  where
    general_is : (l : Language) (c : ℕ) (qs : List Qualified) → specialisations l None (map (reference c) (mentions role.Subclass
        (map path qs))) ≡ generals l qs
    general_is l c [] = refl
    general_is l c (q ∷ qs) = generals_are l c q qs

-- Things.

-- the draft of a thing at its end
abbrev pub whole_draft : ℕ → Thing → Option Tree → List Item → List Mention → Draft
whole_draft n t result is ms = closing t result (with_more is ms (thing_draft n t))

-- the tokens of the ends of a thing
abbrev pub ends_text : Thing → List Printed
ends_text (items.Used p u h v) = ends Sysml (usage_ends u)
ends_text (items.Returned r u h v) = ends Sysml (usage_ends u)
ends_text (items.Bind h a b) = word Sysml (codes "bind") ∷ (ending Sysml a ++ (sign (codes "=") ∷ ending Sysml b))
ends_text other = []

-- the language has things of this sort
abbrev pub HasThing : Language → Thing → Type 0
HasThing l (items.Package p n) = Unit {0}
HasThing Sysml (items.Defined a k n general) = Unit {0}
HasThing Sysml (items.Used p u h v) = Unit {0}
HasThing Sysml (items.Returned r u h v) = Unit {0}
HasThing Sysml (items.Subject h v) = Unit {0}
HasThing Sysml (items.Demanded r h v) = Unit {0}
HasThing Sysml (items.Bind h a b) = Unit {0}
HasThing Kerml (items.Namespace n) = Unit {0}
HasThing Kerml (items.Declared a k n general) = Unit {0}
HasThing Kerml (items.Function a n general) = Unit {0}
HasThing Kerml (items.Featured q s h v) = Unit {0}
HasThing Kerml (items.Yielded s h v) = Unit {0}
HasThing l other = ⊥

-- how tokens are grouped makes no difference
usage_grouped : (vs e w d a c r ks sh na rs x o u ys es body : List Printed)
    → ((vs ++ ((e ++ (w ++ (d ++ (a ++ (c ++ r))))) ++ (ks ++ (sh ++ na)))) ++ (rs ++ (x ++ (o ++ (u ++ (ys ++ es)))))) ++ body
    ≡ vs ++ (e ++ (w ++ (d ++ (a ++ (c ++ (r ++ (ks ++ (((sh ++ na) ++ (rs ++ (x ++ (o ++ u)))) ++ (ys ++ (es ++ body))))))))))
usage_grouped vs e w d a c r ks sh na rs x o u ys es body = simp append_assoc refl

-- with a word of its part
part_grouped : (vs p r ks sh na rs x o u ys es body : List Printed)
    → ((vs ++ (p ++ (r ++ (ks ++ (sh ++ na))))) ++ (rs ++ (x ++ (o ++ (u ++ (ys ++ es)))))) ++ body
    ≡ vs ++ (p ++ (r ++ (ks ++ (((sh ++ na) ++ (rs ++ (x ++ (o ++ u)))) ++ (ys ++ (es ++ body))))))
part_grouped vs p r ks sh na rs x o u ys es body = simp append_assoc refl

-- of a definition
type_grouped : (vs p ks sh na gs body : List Printed)
    → ((vs ++ (p ++ (ks ++ (sh ++ na)))) ++ gs) ++ body ≡ vs ++ (p ++ (ks ++ (((sh ++ na) ++ gs) ++ body)))
type_grouped vs p ks sh na gs body = simp append_assoc refl

-- of a type
declared_grouped : (vs p ks sh na gs body : List Printed)
    → ((vs ++ (p ++ (ks ++ (sh ++ na)))) ++ gs) ++ body ≡ vs ++ (p ++ (ks ++ ((sh ++ na) ++ (gs ++ body))))
declared_grouped vs p ks sh na gs body = simp append_assoc refl

-- a thing's head and body
abbrev HeadIs : FileNo → Language → Walk → Visibility → ℕ → ℕ → ℕ → Thing → Option Tree → List Item → List Mention → List Printed → Type 0
HeadIs file l w v c s n t result is ms body = Knows (model_of file l w) c s (whole_draft n t result is ms) → AreParted (runs_in t)
    → mentions_in is_specialisation ms ≡ []
    → ends_tokens (model_of file l w) (thing_draft n t).kind (ends_of (model_of file l w) c) ≡ ends_text t
    → head (model_of file l w) v c ++ body ≡ member_visibility l v ++ thing l t body

-- a usage of SysML
used_is : (file : FileNo) (w : Walk) (v : Visibility) (c s n : ℕ) (p : Prefix) (u : Usage) (h : Header) (y : Value) (result : Option Tree) (is : List Item)
    (ms : List Mention) (body : List Printed) → HeadIs file Sysml w v c s n (items.Used p u h y) result is ms body
used_is file w v c s n p u h y result is ms body k q i f =
    let x = whole_draft n (items.Used p u h y) result is ms in
    let vs = member_visibility Sysml v in
    let e = word_if Sysml p.end (codes "end") in
    let wy = direction_words Sysml p.direction in
    let dr = word_if Sysml p.derived (codes "derived") in
    let ab = word_if Sysml p.is_abstract (codes "abstract") in
    let co = word_if Sysml p.constant (codes "constant") in
    let rf = word_if Sysml p.reference (codes "ref") in
    let sh = short_name Sysml h.names.short in
    let na = declared_name Sysml h.names.name in
    let rs = runs Sysml h.runs in
    let xs = extent Sysml h.extent in
    let o = word_if Sysml h.ordered (codes "ordered") in
    let z = word_if Sysml h.nonunique (codes "nonunique") in
    let ys = valued Sysml y in
    let es = ends Sysml (usage_ends u) in
    ap (λ ts. ts ++ body) (feature_head file Sysml w v c s x h y es k
    (record { specs = refl; bounds = refl; value = refl; default = refl; inner = i }) q f)
    ∙ (ap (λ ks. ((vs ++ ((e ++ (wy ++ (dr ++ (ab ++ (co ++ rf))))) ++ (ks ++ (sh ++ na)))) ++ (rs ++ (xs ++ (o ++ (z ++ (ys ++ es)))))) ++ body)
    (kind_of_usage u)
    ∙ (usage_grouped vs e wy dr ab co rf (usage_words u) sh na rs xs o z ys es body
    ∙ ap (λ ts. vs ++ (e ++ (wy ++ (dr ++ (ab ++ (co ++ (rf ++ ts))))))) (sym (usage_is u h y body))))

-- a feature of KerML
featured_is : (file : FileNo) (w : Walk) (v : Visibility) (c s n : ℕ) (p : Qualities) (b : Bool) (h : Header) (y : Value) (result : Option Tree)
    (is : List Item)
    (ms : List Mention) (body : List Printed) → HeadIs file Kerml w v c s n (items.Featured p b h y) result is ms body
featured_is file w v c s n p b h y result is ms body k q i f =
    let x = whole_draft n (items.Featured p b h y) result is ms in
    let vs = member_visibility Kerml v in
    let wy = direction_words Kerml p.direction in
    let dr = word_if Kerml p.derived (codes "derived") in
    let ab = word_if Kerml p.is_abstract (codes "abstract") in
    let cm = word_if Kerml p.composite (codes "composite") in
    let co = word_if Kerml p.constant (codes "const") in
    let e = word_if Kerml p.end (codes "end") in
    let sh = short_name Kerml h.names.short in
    let na = declared_name Kerml h.names.name in
    let rs = runs Kerml h.runs in
    let xs = extent Kerml h.extent in
    let o = word_if Kerml h.ordered (codes "ordered") in
    let z = word_if Kerml h.nonunique (codes "nonunique") in
    let ys = valued Kerml y in
    ap (λ ts. ts ++ body) (feature_head file Kerml w v c s x h y [] k
    (record { specs = refl; bounds = refl; value = refl; default = refl; inner = i }) q f)
    ∙ (ap (λ ks. ((vs ++ ((wy ++ (dr ++ (ab ++ (cm ++ (co ++ e))))) ++ (ks ++ (sh ++ na)))) ++ (rs ++ (xs ++ (o ++ (z ++ (ys ++ [])))))) ++ body)
    (kind_of_feature b)
    ∙ usage_grouped vs wy dr ab cm co e (word Kerml (feature_word b) ∷ []) sh na rs xs o z ys [] body)

-- a feature whose part has a word of its own, or that has no words but its own
part_is : (file : FileNo) (l : Language) (w : Walk) (v : Visibility) (c s : ℕ) (x : Draft) (h : Header) (y : Value) (ps rf ks ks' es body : List Printed)
    → Knows (model_of file l w) c s x → IsHeaded x h y → AreParted h.runs
    → ends_tokens (model_of file l w) x.kind (ends_of (model_of file l w) c) ≡ es
    → before_names (model_of file l w) v (element s x) ≡ member_visibility l v ++ (ps ++ (rf ++ (ks ++ (short_name l h.names.short
    ++ declared_name l h.names.name))))
    → x.marks.ordered ≡ h.ordered → x.marks.nonunique ≡ h.nonunique → ks ≡ ks'
    → head (model_of file l w) v c ++ body ≡ member_visibility l v ++ (ps ++ (rf ++ (ks' ++ (header l h ++ (valued l y ++ (es ++ body))))))
part_is file l w v c s x h y ps rf ks ks' es body k i q f b o u e =
    let vs = member_visibility l v in
    let sh = short_name l h.names.short in
    let na = declared_name l h.names.name in
    let rest = λ (p q : Bool). runs l h.runs ++ (extent l h.extent ++ (word_if l p (codes "ordered") ++ (word_if l q (codes "nonunique") ++ (valued l y
    ++ es)))) in
    ap (λ ts. ts ++ body) (feature_head file l w v c s x h y es k i q f)
    ∙ (ap (λ ts. (ts ++ rest x.marks.ordered x.marks.nonunique) ++ body) b
    ∙ (ap (λ z. ((vs ++ (ps ++ (rf ++ (ks ++ (sh ++ na))))) ++ rest z x.marks.nonunique) ++ body) o
    ∙ (ap (λ z. ((vs ++ (ps ++ (rf ++ (ks ++ (sh ++ na))))) ++ rest h.ordered z) ++ body) u
    ∙ (ap (λ z. ((vs ++ (ps ++ (rf ++ (z ++ (sh ++ na))))) ++ rest h.ordered h.nonunique) ++ body) e
    ∙ part_grouped vs ps rf ks' sh na (runs l h.runs) (extent l h.extent) (word_if l h.ordered (codes "ordered")) (word_if l h.nonunique (codes "nonunique"))
    (valued l y) es body))))

-- a thing without a header
plain_is : (file : FileNo) (l : Language) (w : Walk) (v : Visibility) (c s : ℕ) (x : Draft) (n : Names) (qs : List Qualified) (ps ks ks' body : List Printed)
    → Knows (model_of file l w) c s x → own_mentions x ≡ mentions role.Subclass (map path qs) → x.bounds ≡ [] → x.value ≡ None
    → x.marks.ordered ≡ false → x.marks.nonunique ≡ false → mentions_in is_specialisation x.inner ≡ []
    → ends_tokens (model_of file l w) x.kind (ends_of (model_of file l w) c) ≡ []
    → before_names (model_of file l w) v (element s x) ≡ member_visibility l v ++ (ps ++ (ks ++ (short_name l n.short ++ declared_name l n.name)))
    → ks ≡ ks'
    → head (model_of file l w) v c ++ body ≡ member_visibility l v ++ (ps ++ (ks' ++ (named l n ++ (generals l qs ++ body))))
plain_is file l w v c s x n qs ps ks ks' body k o b y p q i e f g =
    let vs = member_visibility l v in
    let sh = short_name l n.short in
    let na = declared_name l n.name in
    ap (λ ts. ts ++ body) (type_head file l w v c s x qs k o b y p q i e)
    ∙ (ap (λ ts. (ts ++ generals l qs) ++ body) f
    ∙ (ap (λ z. ((vs ++ (ps ++ (z ++ (sh ++ na)))) ++ generals l qs) ++ body) g ∙ declared_grouped vs ps ks' sh na (generals l qs) body))

-- each thing
pub head_is : (file : FileNo) (l : Language) (w : Walk) (v : Visibility) (c s n : ℕ) (t : Thing) (result : Option Tree) (is : List Item) (ms : List Mention)
    (body : List Printed) → HasThing l t → HeadIs file l w v c s n t result is ms body
head_is file Kerml w v c s n (items.Package Bare m) result is ms body g k q i f =
    plain_is file Kerml w v c s (whole_draft n (items.Package Bare m) result is ms) m [] ([]) (word Kerml (codes "package") ∷ [])
    (word Kerml (codes "package") ∷ []) body k refl refl refl refl refl i f refl refl
head_is file Kerml w v c s n (items.Package Library m) result is ms body g k q i f =
    plain_is file Kerml w v c s (whole_draft n (items.Package Library m) result is ms) m [] (word Kerml (codes "library") ∷ []) (word Kerml (codes "package")
    ∷ [])
    (word Kerml (codes "package") ∷ []) body k refl refl refl refl refl i f refl refl
head_is file Kerml w v c s n (items.Package Standard m) result is ms body g k q i f =
    plain_is file Kerml w v c s (whole_draft n (items.Package Standard m) result is ms) m [] (word Kerml (codes "standard") ∷ word Kerml (codes "library")
    ∷ []) (word Kerml (codes "package") ∷ [])
    (word Kerml (codes "package") ∷ []) body k refl refl refl refl refl i f refl refl
head_is file Sysml w v c s n (items.Package Bare m) result is ms body g k q i f =
    plain_is file Sysml w v c s (whole_draft n (items.Package Bare m) result is ms) m [] ([]) (word Sysml (codes "package") ∷ [])
    (word Sysml (codes "package") ∷ []) body k refl refl refl refl refl i f refl refl
head_is file Sysml w v c s n (items.Package Library m) result is ms body g k q i f =
    plain_is file Sysml w v c s (whole_draft n (items.Package Library m) result is ms) m [] (word Sysml (codes "library") ∷ []) (word Sysml (codes "package")
    ∷ [])
    (word Sysml (codes "package") ∷ []) body k refl refl refl refl refl i f refl refl
head_is file Sysml w v c s n (items.Package Standard m) result is ms body g k q i f =
    plain_is file Sysml w v c s (whole_draft n (items.Package Standard m) result is ms) m [] (word Sysml (codes "standard") ∷ word Sysml (codes "library")
    ∷ []) (word Sysml (codes "package") ∷ [])
    (word Sysml (codes "package") ∷ []) body k refl refl refl refl refl i f refl refl
head_is file Sysml w v c s n (items.Defined false d m qs) result is ms body g k q i f =
    plain_is file Sysml w v c s (whole_draft n (items.Defined false d m qs) result is ms) m qs ([]) _
    (word Sysml (definition_word d) ∷ word Sysml (codes "def") ∷ []) body k refl refl refl refl refl i f refl (kind_of_definition d)
    ∙ ap (λ ts. member_visibility Sysml v ++ (([]) ++ (word Sysml (definition_word d) ∷ word Sysml (codes "def") ∷ ts)))
    (sym (append_assoc (named Sysml m) (generals Sysml qs) body))
head_is file Sysml w v c s n (items.Defined true d m qs) result is ms body g k q i f =
    plain_is file Sysml w v c s (whole_draft n (items.Defined true d m qs) result is ms) m qs (word Sysml (codes "abstract") ∷ []) _
    (word Sysml (definition_word d) ∷ word Sysml (codes "def") ∷ []) body k refl refl refl refl refl i f refl (kind_of_definition d)
    ∙ ap (λ ts. member_visibility Sysml v ++ ((word Sysml (codes "abstract") ∷ []) ++ (word Sysml (definition_word d) ∷ word Sysml (codes "def") ∷ ts)))
    (sym (append_assoc (named Sysml m) (generals Sysml qs) body))
head_is file Sysml w v c s n (items.Used p u h y) result is ms body g k q i f = used_is file w v c s n p u h y result is ms body k q i f
head_is file Sysml w v c s n (items.Returned b u h y) result is ms body g k q i f =
    part_is file Sysml w v c s (whole_draft n (items.Returned b u h y) result is ms) h y (word Sysml (codes "return") ∷ []) (word_if Sysml b (codes "ref"))
    _ (usage_words u) (ends Sysml (usage_ends u)) body k
    (record { specs = refl; bounds = refl; value = refl; default = refl; inner = i }) q f refl refl refl (returned_usage u)
    ∙ ap (λ ts. member_visibility Sysml v ++ (word Sysml (codes "return") ∷ (word_if Sysml b (codes "ref") ++ ts))) (sym (usage_is u h y body))
head_is file Sysml w v c s n (items.Subject h y) result is ms body g k q i f =
    part_is file Sysml w v c s (whole_draft n (items.Subject h y) result is ms) h y [] [] (word Sysml (codes "subject") ∷ [])
    (word Sysml (codes "subject") ∷ []) [] body k
    (record { specs = refl; bounds = refl; value = refl; default = refl; inner = i }) q f refl refl refl refl
head_is file Sysml w v c s n (items.Demanded true h y) result is ms body g k q i f =
    part_is file Sysml w v c s (whole_draft n (items.Demanded true h y) result is ms) h y (word Sysml (codes "require") ∷ []) []
    (word Sysml (codes "constraint") ∷ []) (word Sysml (codes "constraint") ∷ []) [] body k
    (record { specs = refl; bounds = refl; value = refl; default = refl; inner = i }) q f refl refl refl refl
head_is file Sysml w v c s n (items.Demanded false h y) result is ms body g k q i f =
    part_is file Sysml w v c s (whole_draft n (items.Demanded false h y) result is ms) h y (word Sysml (codes "assume") ∷ []) []
    (word Sysml (codes "constraint") ∷ []) (word Sysml (codes "constraint") ∷ []) [] body k
    (record { specs = refl; bounds = refl; value = refl; default = refl; inner = i }) q f refl refl refl refl
head_is file Sysml w v c s n (items.Bind h a b) result is ms body g k q i f =
    part_is file Sysml w v c s (whole_draft n (items.Bind h a b) result is ms) h Unvalued [] [] (word Sysml (codes "binding") ∷ [])
    (word Sysml (codes "binding") ∷ []) (ends_text (items.Bind h a b)) body k
    (record { specs = refl; bounds = refl; value = refl; default = refl; inner = i }) q f refl refl refl refl
    ∙ ap (λ ts. member_visibility Sysml v ++ (word Sysml (codes "binding") ∷ (header Sysml h ++ (word Sysml (codes "bind") ∷ ts))))
    (append_assoc (ending Sysml a) (sign (codes "=") ∷ ending Sysml b) body)
head_is file Kerml w v c s n (items.Namespace m) result is ms body g k q i f =
    plain_is file Kerml w v c s (whole_draft n (items.Namespace m) result is ms) m [] [] (word Kerml (codes "namespace") ∷ [])
    (word Kerml (codes "namespace") ∷ []) body k refl refl refl refl refl i f refl refl
head_is file Kerml w v c s n (items.Declared false d m qs) result is ms body g k q i f =
    plain_is file Kerml w v c s (whole_draft n (items.Declared false d m qs) result is ms) m qs ([]) _ (word Kerml (type_word d) ∷ []) body k
    refl refl refl refl refl i f refl (kind_of_type d)
head_is file Kerml w v c s n (items.Function false m qs) result is ms body g k q i f =
    plain_is file Kerml w v c s (whole_draft n (items.Function false m qs) result is ms) m qs ([]) (word Kerml (codes "function") ∷ [])
    (word Kerml (codes "function") ∷ []) body k refl refl refl refl refl i f refl refl
head_is file Kerml w v c s n (items.Declared true d m qs) result is ms body g k q i f =
    plain_is file Kerml w v c s (whole_draft n (items.Declared true d m qs) result is ms) m qs (word Kerml (codes "abstract") ∷ []) _ (word Kerml
    (type_word d) ∷ []) body k
    refl refl refl refl refl i f refl (kind_of_type d)
head_is file Kerml w v c s n (items.Function true m qs) result is ms body g k q i f =
    plain_is file Kerml w v c s (whole_draft n (items.Function true m qs) result is ms) m qs (word Kerml (codes "abstract") ∷ []) (word Kerml
    (codes "function") ∷ [])
    (word Kerml (codes "function") ∷ []) body k refl refl refl refl refl i f refl refl
head_is file Kerml w v c s n (items.Featured p b h y) result is ms body g k q i f = featured_is file w v c s n p b h y result is ms body k q i f
head_is file Kerml w v c s n (items.Yielded b h y) result is ms body g k q i f =
    part_is file Kerml w v c s (whole_draft n (items.Yielded b h y) result is ms) h y (word Kerml (codes "return") ∷ []) [] _
    (word Kerml (feature_word b) ∷ []) [] body k
    (record { specs = refl; bounds = refl; value = refl; default = refl; inner = i }) q f refl refl refl (yielded_feature b)
head_is file l w v c s n t result is ms body g k q i f = absurd g
