-- The elements of every walk stand in preorder.
use Rattle.std.proofs.Common.{◌≡◌, ℕ, suc, ◌+◌, List, [], ◌∷◌, ◌++◌, length, refl, ap, sym, ◌∙◌, arith, length-append, append_assoc, append-nil}
use Rattle.std.specs.Prelude.{map, Option, Some}
use Rattle.std.proofs.lemmas.List.{map-append, length-map}
use Rattle.element_store.specs.Condition.{Trees, Nothing as NoTrees, Tree, size, owners_in}
use Rattle.element_store.proofs.ModelLaws.{owners_long}
use Rattle.element_store.specs.declared.lists.Item.TheVariants as item
use Rattle.element_store.specs.declared.outcome.Role.TheVariants as role
use Rattle.ll_core.specs.Derives.{Forest, Nothing, Token as Leaf, Node}
use Rattle.text_model.specs.declared.action.Action.{Action}
use Rattle.text_model.specs.declared.action.Action.TheVariants.{Element, Take}
use Rattle.text_model.specs.declared.action.Taking.{Taking}
use Rattle.text_model.specs.declared.action.Taking.TheVariants as taking
use Rattle.text_model.specs.declared.draft.Draft.{Draft}
use Rattle.text_model.specs.declared.draft.Reading.{Reading}
use Rattle.text_model.specs.Tables.{Tables, action_at}
use Rattle.text_model.specs.Drafts.{draft, adjusted, names, first_name, path_or}
use Rattle.text_model.specs.Walk.{Walk, Frame, saved, changed, with_item, with_inner, entered, given, left, named, taken, walk}
use Rattle.text_laws.specs.Coherent.{Stock, stock}
use Rattle.text_laws.proofs.ListLemmas.{length-adjusted, map-adjusted_same}
use Rattle.text_laws.proofs.CoherenceLaws.{IsAlike, alike_from}

abbrev pub owners : List Draft → List (Option ℕ)
owners ds = map (λ d. d.owner) ds

-- trees with others behind
joined : Trees → Trees → Trees
joined NoTrees t = t
joined (Tree below beside) t = Tree below (joined beside t)

owners-joined : (parent n : ℕ) (t u : Trees) → owners_in parent n (joined t u) ≡ owners_in parent n t ++ owners_in parent (n + size t) u
unfolding joined
owners-joined parent n NoTrees u = ap (λ k. owners_in parent k u) (omega arith)
owners-joined parent n (Tree below beside) u =
    ap (λ os. Some parent ∷ (owners_in n (suc n) below ++ os)) (owners-joined parent (suc n + size below) beside u
    ∙ ap (λ k. owners_in parent (suc n + size below) beside ++ owners_in parent k u) (omega arith))
    ∙ ap (λ os. Some parent ∷ os) (sym (append_assoc (owners_in n (suc n) below) (owners_in parent (suc n + size below) beside)
    (owners_in parent (n + suc (size below + size beside)) u)))

-- a walk adds trees below the element that is open, and leaves it open
pub record Grows (w v : Walk) : Type 0 where
  pub trees : Trees
  pub added : owners v.elements ≡ owners w.elements ++ owners_in w.current (length w.elements) trees
  pub current : v.current ≡ w.current

owners_of_stocks : (ds : List Draft) → owners ds ≡ map (λ s. s.owner) (map stock ds)
owners_of_stocks [] = refl
owners_of_stocks (d ∷ ds) = ap (λ os. d.owner ∷ os) (owners_of_stocks ds)

-- a step that adds none
pub record IsSteady (w v : Walk) : Type 0 where
  pub owners : owners v.elements ≡ owners w.elements
  pub current : v.current ≡ w.current

steady_alike : (w v : Walk) → IsAlike w v → IsSteady w v
steady_alike w v a = record {
  owners = owners_of_stocks v.elements ∙ (ap (λ ss. map (λ (s : Stock). s.owner) ss) a.stocks ∙ sym (owners_of_stocks w.elements));
  current = a.current;
}

steady_changed : (f : Draft → Draft) (w : Walk) → ((d : Draft) → (f d).owner ≡ d.owner) → IsSteady w (changed f w)
steady_changed f w same = record { owners = map-adjusted_same (λ (d : Draft). d.owner) w.current f w.elements same; current = refl }

steady_given : (d : Taking) (f : Frame) (r : Reading) (w : Walk) → IsSteady w (given d f r w)
steady_given taking.Bounds f r w = steady_changed (λ d. record d { bounds = r.nodes }) w (λ d. refl)
steady_given taking.Alias f r w =
    let s = steady_changed (with_inner (item.Member (length w.members)) role.Alias (first_name (names r.nodes))) w (λ d. refl) in
    record { owners = s.owners; current = refl }
steady_given taking.Import f r w =
    let s = steady_changed (with_inner (item.Import (length w.imports)) role.Import (path_or f.place (names r.nodes))) w (λ d. refl) in
    record { owners = s.owners; current = refl }
steady_given other f r w = record { owners = map-adjusted_same (λ (d : Draft). d.owner) w.current _ w.elements (λ d. refl); current = refl }

grows_steady : (w v : Walk) → IsSteady w v → Grows w v
grows_steady w v s = record { trees = NoTrees; added = s.owners ∙ sym (append-nil (owners w.elements)); current = s.current }

length_grown : (w v : Walk) (g : Grows w v) → length v.elements ≡ length w.elements + size g.trees
length_grown w v g =
    sym (length-map v.elements (λ (d : Draft). d.owner)) ∙ (ap length g.added
    ∙ (length-append (owners w.elements) (owners_in w.current (length w.elements) g.trees)
    ∙ omega (arith, length-map w.elements (λ (d : Draft). d.owner), owners_long w.current (length w.elements) g.trees)))

pub grows_through : (w v u : Walk) → Grows w v → Grows v u → Grows w u
grows_through w v u g h = record {
  trees = joined g.trees h.trees;
  added = h.added ∙ (ap (λ os. os ++ owners_in v.current (length v.elements) h.trees) g.added
      ∙ (append_assoc (owners w.elements) (owners_in w.current (length w.elements) g.trees) (owners_in v.current (length v.elements) h.trees)
      ∙ ap (λ os. owners w.elements ++ os) (ap (λ c. owners_in w.current (length w.elements) g.trees ++ owners_in c (length v.elements) h.trees) g.current
      ∙ (ap (λ n. owners_in w.current (length w.elements) g.trees ++ owners_in w.current n h.trees) (length_grown w v g)
      ∙ sym (owners-joined w.current (length w.elements) g.trees h.trees)))));
  current = h.current ∙ g.current;
}

-- a production that makes no element
plain_node : (a : Action) (f : Frame) (w v : Walk) → IsSteady w (entered a w) → Grows (entered a w) v → IsSteady v (left a f v) → Grows w (left a f v)
plain_node a f w v e g l = grows_through w v (left a f v) (grows_through w (entered a w) v (grows_steady w (entered a w) e) g) (grows_steady v (left a f v) l)

node_grows : (a : Action) (w v : Walk) → Grows (entered a w) v → Grows w (left a (saved a w) v)
node_grows (Element k) w v g =
    let es = adjusted w.current (with_item (item.Member (length w.members))) w.elements in
    let s = map-adjusted_same (λ (d : Draft). d.owner) w.current (with_item (item.Member (length w.members))) w.elements (λ d. refl) in
    let n = length-adjusted w.current (with_item (item.Member (length w.members))) w.elements in
    let now = map-adjusted_same (λ (d : Draft). d.owner) v.current (named v.reading) v.elements (λ d. refl) in
    let long : length (entered (Element k) w).elements ≡ suc (length w.elements) = length-append es (draft k (Some w.current) ∷ []) ∙ omega (arith, n) in
    let begun : owners (entered (Element k) w).elements ≡ owners w.elements ++ Some w.current ∷ [] =
    map-append (λ (d : Draft). d.owner) es (draft k (Some w.current) ∷ []) ∙ ap (λ os. os ++ Some w.current ∷ []) s in
    record {
      trees = Tree g.trees NoTrees;
      added = now ∙ (g.added ∙ (ap (λ os. os ++ owners_in (length w.elements) (length (entered (Element k) w).elements) g.trees) begun
          ∙ (append_assoc (owners w.elements) (Some w.current ∷ []) (owners_in (length w.elements) (length (entered (Element k) w).elements) g.trees)
          ∙ ap (λ m. owners w.elements ++ (Some w.current ∷ owners_in (length w.elements) m g.trees)) long
          ∙ ap (λ os. owners w.elements ++ (Some w.current ∷ os)) (sym (append-nil (owners_in (length w.elements) (suc (length w.elements)) g.trees))))));
      current = refl;
    }
node_grows (Take d) w v g =
    let l = steady_given d (saved (Take d) w) v.reading (record v { reading = (saved (Take d) w).reading }) in
    plain_node (Take d) (saved (Take d) w) w v (record { owners = refl; current = refl }) g (record { owners = l.owners; current = l.current })
node_grows other w v g = plain_node other (saved other w) w v (record { owners = refl; current = refl }) g (record { owners = refl; current = refl })

-- a walk adds trees of elements
pub walk_grows : (t : Tables) (text : List ℕ) (a : Action) (f : Forest) (w : Walk) → Grows w (walk t text a f w)
walk_grows t text a Nothing w = grows_steady w w (record { owners = refl; current = refl })
walk_grows t text a (Leaf k rest) w =
    grows_through w (taken t text a w) (walk t text a rest (taken t text a w))
    (grows_steady w (taken t text a w) (steady_alike w (taken t text a w) (alike_from t text a w.rest w))) (walk_grows t text a rest (taken t text a w))
walk_grows t text a (Node p below rest) w =
    let b = action_at t p in
    let v = walk t text b below (entered b w) in
    grows_through w (left b (saved b w) v) (walk t text a rest (left b (saved b w) v)) (node_grows b w v (walk_grows t text b below (entered b w)))
    (walk_grows t text a rest (left b (saved b w) v))
