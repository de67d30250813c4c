-- Documentations, comments, aliases and imports are read back.
use Rattle.std.proofs.Common.{◌≡◌, ℕ, ◌+◌, ◌-◌, List, [], ◌∷◌, ◌++◌, length, refl, ap, sym, ◌∙◌, arith, append_assoc, append-nil}
use Rattle.std.specs.Prelude.{suc, Option, Some, None, Bool, true, false, codes, map, slice_range, take}
use Rattle.std.specs.Option.{unwrap_or}
use Rattle.std.proofs.Math.Seq.{take-append_seam}
use Rattle.std.proofs.lemmas.List.{length-append}
use Rattle.element_store.specs.declared.outcome.Language.{Language}
use Rattle.element_store.specs.declared.outcome.Role.TheVariants as role
use Rattle.element_store.specs.declared.kind.Kind.TheVariants as kind
use Rattle.element_store.specs.declared.kind.Visibility.{Visibility}
use Rattle.element_store.specs.declared.kind.Visibility.TheVariants as visibility
use Rattle.element_store.specs.declared.lists.Item.TheVariants as item
use Rattle.element_store.specs.declared.expression.BinaryOp.TheVariants as binary
use Rattle.token_core.specs.Terminals.{terminal}
use Rattle.token_core.specs.Reading.{bytes_of, string_meaning}
use Rattle.token_core.specs.Spelling.{string_spelling}
use Rattle.token_core.proofs.Spellings.{string_back}
use Rattle.ll_core.specs.declared.grammar.Symbol.{Symbol}
use Rattle.ll_core.specs.declared.grammar.Symbol.TheVariants.{Terminal, Inner}
use Rattle.text_model.specs.declared.action.Action.{Action}
use Rattle.text_model.specs.declared.action.Action.TheVariants as action
use Rattle.text_model.specs.declared.action.Taking.TheVariants as taking
use Rattle.text_model.specs.declared.action.Leaf.TheVariants as leaf
use Rattle.text_model.specs.declared.action.Meaning.TheVariants as meaning
use Rattle.text_model.specs.declared.action.Operator.TheVariants as operator
use Rattle.text_model.specs.declared.draft.Draft.{Draft}
use Rattle.text_model.specs.declared.draft.DraftTarget.TheVariants.{Alias as Aliased}
use Rattle.text_model.specs.declared.draft.DraftNode.{DraftNode}
use Rattle.text_model.specs.declared.draft.Path.{Path}
use Rattle.text_model.specs.declared.draft.Reading.{Reading}
use Rattle.text_model.specs.declared.draft.What.TheVariants as what
use Rattle.text_model.specs.Drafts.{draft, node, names as paths_in, name_in, first_text, text_or, path_or, has_what, is_star, is_all, is_deep, inner_at, with_segment}
use Rattle.text_model.specs.Walk.{Walk, fresh, saved, left, changed, named as named_by, with_inner, comment_meaning, begun_place, begun_visibility}
use Rattle.print_model.specs.Printed.{Printed, sign, word, name, text, note}
use Rattle.print_model.specs.Trees.{behind, rooted}
use Rattle.print_model.specs.Heads.{locale_tokens, star_tokens, word_if}
use Rattle.print_model.proofs.BareWalk.{token_of}
use Rattle.print_model.proofs.Readings.{Reads, reads_said}
use Rattle.print_model.proofs.Names.{whole, reads_name, root_read, rooted_at, last_is, begun as begun_path}
use Rattle.print_laws.specs.Items.{Qualified, Names, Importing, Aliasing, Noting, Documentation, Comment}
use Rattle.print_laws.specs.ItemTokens.{importing, aliasing, abouts, noting}
use Rattle.print_laws.specs.ItemWalk.{Grown, changed_self, path, begun, ended, note_draft, with_import, with_alias}
use Rattle.print_laws.proofs.Symbols as symbol
use Rattle.print_laws.proofs.Productions as rule
use Rattle.print_laws.proofs.Meanings as means
use Rattle.print_laws.proofs.Steps.{inside, done, then, by_rule, grouped, as_tokens, to_end, from_start, silent, changed_inside, opened, waited, seen_of, seen_place, seen_visibility, adjusted_here, element}
use Rattle.print_laws.proofs.Heads.{named_reading, noded, ident_read, qualified_read, path_node, pushed_all, more_names_read, pushed_names}
use Rattle.print_laws.proofs.Bodies.{awaiting}

-- Comments.

-- what a printed comment says
comment_back : (body : List ℕ) → comment_meaning (bytes_of (note body).bytes (token_of (note body))) ≡ body
comment_back body =
    let ends = codes "*/" in
    let all = codes "/*" ++ (body ++ ends) in
    ap comment_meaning (whole all)
    ∙ (ap (λ n. slice_range all 2 n) (ap (λ m. suc (suc m) - 2) (length-append body ends) ∙ omega arith)
    ∙ middle body ends)
  where
    middle : (xs ys : List ℕ) → slice_range (codes "/*" ++ (xs ++ ys)) 2 (length xs + 2) ≡ xs
    middle xs ys = ap (λ n. take n (xs ++ ys)) (omega arith) ∙ take-append_seam xs ys

-- the nodes of a locale
abbrev locale_nodes : Option (List ℕ) → List DraftNode
locale_nodes None = []
locale_nodes (Some s) = node (what.Text s) 0 ∷ []

-- nodes behind those of a reading
abbrev with_nodes : List DraftNode → Reading → Reading
with_nodes ns r = record r { nodes = ns }

-- a locale, if there is one
locale_read : (l : Language) (a : Action) (es : List Draft) (g : Grown) (ns : List DraftNode) (r : Reading) (s : Option (List ℕ))
    → Reads l a (Inner (symbol.locale l) ∷ []) (locale_tokens l s) (inside es g (with_nodes ns r)) (inside es g (with_nodes (ns ++ locale_nodes s) r))
locale_read l a es g ns r None =
    to_end (ap (λ ms. inside es g (with_nodes ms r)) (sym (append-nil ns))) (grouped (rule.locale l) (grouped (rule.maybe_locale_string_1 l) done))
locale_read l a es g ns r (Some s) =
    grouped (rule.locale l) (grouped (rule.maybe_locale_string_0 l) (silent (word l (codes "locale")) (means.word_locale l)
    (reads_said l action.Group (text s) 2 meaning.Text [] [] _ _ refl refl
    (from_start (ap (λ bs. inside es g (with_nodes (ns ++ node (what.Text bs) 0 ∷ []) r)) (ap string_meaning (whole
    (string_spelling s)) ∙ string_back s)) done))))

-- the comment itself, at the end
note_read : (l : Language) (a : Action) (es : List Draft) (g : Grown) (r : Reading) (body : List ℕ)
    → Reads l a (Terminal 3 ∷ []) (note body ∷ []) (inside es g r) (inside es (changed_self (λ d. record d { body = Some body }) g) r)
note_read l a es g r body =
    reads_said l a (note body) 3 meaning.Comment [] [] _ _ refl refl
    (from_start (ap (λ bs. changed (λ d. record d { body = Some bs }) (inside es g r)) (comment_back body)
    ∙ changed_inside (λ d. record d { body = Some body }) es g r) done)

-- what a comment is about
abouts_read : (l : Language) (a : Action) (es : List Draft) (g : Grown) (r : Reading) (qs : List Qualified)
    → Reads l a (Inner (symbol.maybe_about_qname_comma l) ∷ []) (abouts l qs) (inside es g (with_nodes [] (record r { root = None })))
    (inside es g (with_nodes (pushed_all [] (map path qs)) (record r { root = None })))
abouts_read l a es g r [] = grouped (rule.maybe_about_qname_comma_1 l) done
abouts_read l a es g r (q ∷ qs) =
    grouped (rule.maybe_about_qname_comma_0 l) (silent (word l (codes "about")) (means.word_about l)
    (then (qualified_read l action.Group (inside es g r) [] r q)
    (more_names_read l action.Group (inside es g r) (path_node (path q) ∷ []) r qs)))

-- what is told of an element by its names and a locale behind them
told_names : (ps : List Path) (s : Option (List ℕ)) → paths_in (pushed_all [] ps ++ locale_nodes s) ≡ ps
told_names ps s = behind_names (pushed_all [] ps) s ∙ pushed_names [] ps
  where
    behind_names : (ns : List DraftNode) (s : Option (List ℕ)) → paths_in (ns ++ locale_nodes s) ≡ paths_in ns
    behind_names [] None = refl
    behind_names [] (Some s) = refl
    behind_names (n ∷ ns) s = ap (λ xs. name_in n.what ++ xs) (behind_names ns s)

-- no text is among the nodes
abbrev HasNone : List DraftNode → Type 0
HasNone [] = Unit {0}
HasNone (n ∷ ns) = ((s : Option (List ℕ)) → text_or n.what s ≡ s) × HasNone ns

-- the text among them is the locale
told_text : (ps : List Path) (s : Option (List ℕ)) → first_text (pushed_all [] ps ++ locale_nodes s) ≡ s
told_text ps s = behind_all [] ps s tt
  where
    one_more : (ns : List DraftNode) (p : Path) → HasNone ns → HasNone (ns ++ path_node p ∷ [])
    one_more [] p h = (λ s. refl, tt)
    one_more (n ∷ ns) p h = (h.0, one_more ns p h.1)

    none_before : (ns : List DraftNode) (s : Option (List ℕ)) → HasNone ns → first_text (ns ++ locale_nodes s) ≡ s
    none_before [] None h = refl
    none_before [] (Some s) h = refl
    none_before (n ∷ ns) s h = h.0 (first_text (ns ++ locale_nodes s)) ∙ none_before ns s h.1

    behind_all : (ns : List DraftNode) (ps : List Path) (s : Option (List ℕ)) → HasNone ns → first_text (pushed_all ns ps ++ locale_nodes s) ≡ s
    behind_all ns [] s h = none_before ns s h
    behind_all ns (p ∷ ps) s h = behind_all (ns ++ path_node p ∷ []) ps s (one_more ns p h)

-- at the end of a comment its names are its own
noted_end : (es : List Draft) (g : Grown) (r : Reading) (x : Grown) (d : Draft) (n : Names) (ps : List Path) (s : Option (List ℕ))
    → inside es (ended g (changed_self (named_by (with_nodes (pushed_all [] ps ++ locale_nodes s) (named_reading n))) (record x { self = d }))) r
    ≡ inside es (ended g (record x { self = record d { short = n.short; name = n.name; own = ps; locale = s } })) r
noted_end es g r x d n ps s =
    ap (λ qs. inside es (ended g (record x {
      self = record d {
        short = n.short;
        name = n.name;
        own = qs;
        locale = first_text (pushed_all [] ps
            ++ locale_nodes s);
      };
    })) r)
    (told_names ps s)
    ∙ ap (λ t. inside es (ended g (record x { self = record d { short = n.short; name = n.name; own = ps; locale = t } })) r) (told_text ps s)

-- a documentation or a comment
pub noting_read : (l : Language) (a : Action) (v : Visibility) (es : List Draft) (g : Grown) (r : Reading) (x : Noting)
    → Reads l a (Inner (symbol.note l) ∷ []) (noting l x) (waited v (inside es g r)) (inside es (ended g (begun (length es) v (note_draft (length es) x) g)) r)
noting_read l a v es g r (Documentation n s body) =
    let ds = opened es g in
    let b = begun (length es) v (draft kind.Documentation (Some (length es))) g in
    to_end (noted_end es g r b (record b.self { body = Some body }) n [] s)
    (element kind.Documentation v es g r (changed_self (λ d. record d { body = Some body }) b) (with_nodes (locale_nodes s) (named_reading n)) (rule.note_0 l)
    (silent (word l (codes "doc")) (means.word_doc l)
    (then (ident_read l (action.Element kind.Documentation) ds b n)
    (then (locale_read l (action.Element kind.Documentation) ds b [] (named_reading n) s)
    (note_read l (action.Element kind.Documentation) ds b (with_nodes (locale_nodes s) (named_reading n)) body)))))
noting_read l a v es g r (Comment n qs s body) =
    let ds = opened es g in
    let b = begun (length es) v (draft kind.Comment (Some (length es))) g in
    let ns = pushed_all [] (map path qs) in
    to_end (noted_end es g r b (record b.self { body = Some body }) n (map path qs) s)
    (element kind.Comment v es g r (changed_self (λ d. record d { body = Some body }) b) (with_nodes (ns ++ locale_nodes s) (named_reading n)) (rule.note_1 l)
    (silent (word l (codes "comment")) (means.word_comment l)
    (then (ident_read l (action.Element kind.Comment) ds b n)
    (then (abouts_read l (action.Element kind.Comment) ds b (named_reading n) qs)
    (then (locale_read l (action.Element kind.Comment) ds b ns (named_reading n) s)
    (note_read l (action.Element kind.Comment) ds b (with_nodes (ns ++ locale_nodes s) (named_reading n)) body))))))

-- Aliases.

-- the inner names of the element that is open
inner_here : (es : List Draft) (x : Draft) (ys : List Draft) → inner_at (es ++ x ∷ ys) (length es) ≡ x.inner
inner_here [] x ys = refl
inner_here (e ∷ es) x ys = inner_here es x ys

-- an alias is noted
abbrev alias_noted : List Draft → List Draft → Grown → Reading → ℕ → Visibility → ℕ → Names → Walk
alias_noted es ds g r inner v place n = record (inside es g r) {
  elements = ds;
  members = g.members
      ++ record { owner = length es; target = Aliased inner; visibility = v; place = place; short = n.short; name = n.name } ∷ [];
}

-- the walk notes just that
alias_left : (v : Visibility) (es : List Draft) (g : Grown) (r : Reading) (x : Aliasing)
    → left (action.Take taking.Alias) (saved (action.Take taking.Alias) (waited v (inside es g r)))
    (inside es g (with_nodes (path_node (path x.target) ∷ []) (named_reading x.names)))
    ≡ inside es (with_alias (length es) v x g) r
alias_left v es g r x =
    let f = with_inner (item.Member (length g.members)) role.Alias (path x.target) in
    let s = unwrap_or (begun_visibility (seen_of v)) visibility.Public in
    let ds = es ++ f g.self ∷ g.others in
    ap (λ ys. alias_noted es ys g r (length (inner_at (es ++ g.self ∷ g.others) (length es))) s (begun_place (seen_of v) []) x.names)
    (adjusted_here f es g.self g.others)
    ∙ (ap (λ ys. alias_noted es ds g r (length ys) s (begun_place (seen_of v) []) x.names) (inner_here es g.self g.others)
    ∙ (ap (λ y. alias_noted es ds g r (length g.self.inner) y (begun_place (seen_of v) []) x.names) (seen_visibility v)
    ∙ ap (λ y. alias_noted es ds g r (length g.self.inner) v y x.names) (seen_place v)))

-- an alias
pub aliasing_read : (l : Language) (a : Action) (v : Visibility) (es : List Draft) (g : Grown) (r : Reading) (x : Aliasing)
    → Reads l a (Inner (symbol.alias l) ∷ []) (aliasing l x) (waited v (inside es g r)) (inside es (with_alias (length es) v x g) r)
aliasing_read l a v es g r x =
    to_end (alias_left v es g r x)
    (by_rule (rule.alias l) (silent (word l (codes "alias")) (means.word_alias l)
    (then (ident_read l (action.Take taking.Alias) es g x.names)
    (silent (word l (codes "for")) (means.word_for l)
    (then (qualified_read l (action.Take taking.Alias) (inside es g fresh) [] (named_reading x.names) x.target)
    (silent (sign (codes ";")) (means.sign_semicolon l) done))))))

-- Imports.

-- `all`, if it is written
abbrev all_nodes : Bool → List DraftNode
all_nodes true = node what.All 0 ∷ []
all_nodes false = []

-- the name, and what stands behind it
abbrev rest_nodes : List DraftNode → Path → Bool → Bool → List DraftNode
rest_nodes ns p false false = ns ++ path_node p ∷ []
rest_nodes ns p true false = (ns ++ path_node p ∷ []) ++ node what.Star 0 ∷ []
rest_nodes ns p false true = (ns ++ path_node p ∷ []) ++ node what.Deep 0 ∷ []
rest_nodes ns p true true = ((ns ++ path_node p ∷ []) ++ node what.Star 0 ∷ []) ++ node what.Deep 0 ∷ []

-- `**`
deep_read : (l : Language) (a : Action) (es : List Draft) (g : Grown) (ns : List DraftNode) (ss : List Symbol) (ps : List Printed) (v : Walk)
    → Reads l a ss ps (inside es g (noded (ns ++ node what.Deep 0 ∷ []))) v
    → Reads l a (Terminal (terminal (sign (codes "**")).kind) ∷ ss) (sign (codes "**") ∷ ps) (inside es g (noded ns)) v
deep_read l a es g ns ss ps v q = reads_said l a (sign (codes "**")) _ (meaning.Leaf leaf.Deep) ss ps _ v refl (means.sign_star_star l) q

-- `::**` behind `::*`, or nothing
deeper_read : (l : Language) (a : Action) (es : List Draft) (g : Grown) (ns : List DraftNode) (p : Path) (deep : Bool)
    → Reads l a (Inner (symbol.maybe_colon_colon_star_star l) ∷ []) (star_tokens deep (codes "**")) (inside es g (noded (rest_nodes ns p true false)))
    (inside es g (noded (rest_nodes ns p true deep)))
deeper_read l a es g ns p false = grouped (rule.maybe_colon_colon_star_star_1 l) done
deeper_read l a es g ns p true =
    grouped (rule.maybe_colon_colon_star_star_0 l) (silent (sign (codes "::")) (means.sign_colon_colon l)
    (deep_read l action.Group es g (rest_nodes ns p true false) [] [] _ done))

-- the stars behind the last segment
stars_read : (l : Language) (a : Action) (es : List Draft) (g : Grown) (ns : List DraftNode) (p : Path) (star deep : Bool)
    → Reads l a (Inner (symbol.imp_rest l) ∷ []) (star_tokens star (codes "*") ++ star_tokens deep (codes "**"))
    (inside es g (noded (ns ++ path_node p ∷ []))) (inside es g (noded (rest_nodes ns p star deep)))
stars_read l a es g ns p false false = grouped (rule.imp_rest l) (grouped (rule.maybe_colon_colon_imp_next_1 l) done)
stars_read l a es g ns p false true =
    grouped (rule.imp_rest l) (grouped (rule.maybe_colon_colon_imp_next_0 l) (silent (sign (codes "::")) (means.sign_colon_colon l)
    (grouped (rule.imp_next_2 l) (deep_read l action.Group es g (ns ++ path_node p ∷ []) [] [] _ done))))
stars_read l a es g ns p true deep =
    grouped (rule.imp_rest l) (grouped (rule.maybe_colon_colon_imp_next_0 l) (silent (sign (codes "::")) (means.sign_colon_colon l)
    (by_rule (rule.imp_next_1 l)
    (reads_said l action.Star (sign (codes "*")) _ (meaning.Operator (operator.Binary binary.Multiply)) _ _ _ _ refl (means.sign_star l)
    (deeper_read l action.Star es g ns p deep)))))

-- further segments, and the stars
imp_rest_read : (l : Language) (a : Action) (es : List Draft) (g : Grown) (ns : List DraftNode) (p : Path) (ss : List (List ℕ)) (star deep : Bool)
    → Reads l a (Inner (symbol.imp_rest l) ∷ []) (behind l (codes "::") ss ++ (star_tokens star (codes "*") ++ star_tokens deep (codes "**")))
    (inside es g (noded (ns ++ path_node p ∷ []))) (inside es g (noded (rest_nodes ns (record p { path = p.path ++ ss }) star deep)))
imp_rest_read l a es g ns p [] star deep =
    to_end (ap (λ xs. inside es g (noded (rest_nodes ns (record p { path = xs }) star deep))) (sym (append-nil p.path)))
    (stars_read l a es g ns p star deep)
imp_rest_read l a es g ns p (s ∷ ss) star deep =
    to_end (ap (λ xs. inside es g (noded (rest_nodes ns (record p { path = xs }) star deep))) (append_assoc p.path (s ∷ []) ss))
    (grouped (rule.imp_rest l) (grouped (rule.maybe_colon_colon_imp_next_0 l) (silent (sign (codes "::")) (means.sign_colon_colon l)
    (by_rule (rule.imp_next_0 l) (reads_name l action.Segment s _ _ _ _
    (from_start (ap (λ xs. inside es g (noded xs)) (last_is (with_segment s) ns p))
    (imp_rest_read l action.Segment es g ns (with_segment s p) ss star deep)))))))

-- the first segment, behind `$` or not
first_here : (l : Language) (es : List Draft) (g : Grown) (ns : List DraftNode) (b : Bool) (s : List ℕ) (ss : List Symbol) (ps : List Printed) (v : Walk)
    → Reads l (action.Take taking.Import) ss ps (inside es g (noded (ns ++ path_node (begun_path b s) ∷ []))) v
    → Reads l (action.Take taking.Import) (Terminal 0 ∷ ss) (name l s ∷ ps) (rooted_at (inside es g fresh) ns fresh b) v
first_here l es g ns true s ss ps v q = reads_name l (action.Take taking.Import) s ss ps _ v q
first_here l es g ns false s ss ps v q = reads_name l (action.Take taking.Import) s ss ps _ v q

-- `all`, or nothing
all_read : (l : Language) (a : Action) (es : List Draft) (g : Grown) (b : Bool)
    → Reads l a (Inner (symbol.maybe_all l) ∷ []) (word_if l b (codes "all")) (inside es g fresh) (inside es g (noded (all_nodes b)))
all_read l a es g true =
    grouped (rule.maybe_all_0 l) (reads_said l action.Group (word l (codes "all")) _ (meaning.Leaf leaf.All) [] [] _ _ refl (means.word_all l) done)
all_read l a es g false = grouped (rule.maybe_all_1 l) done

-- what is told by the nodes of an import
record IsTold (ns : List DraftNode) (p : Path) (x : Importing) : Type 0 where
  name : paths_in ns ≡ p ∷ []
  star : has_what is_star ns ≡ x.star
  deep : has_what is_deep ns ≡ x.deep
  all : has_what is_all ns ≡ x.all

-- it is told by the nodes that are read
told : (p : Path) (q : Qualified) (all star deep : Bool)
    → IsTold (rest_nodes (all_nodes all) p star deep) p (record { all = all; name = q; star = star; deep = deep })
told p q false false false = record { name = refl; star = refl; deep = refl; all = refl }
told p q false false true = record { name = refl; star = refl; deep = refl; all = refl }
told p q false true false = record { name = refl; star = refl; deep = refl; all = refl }
told p q false true true = record { name = refl; star = refl; deep = refl; all = refl }
told p q true false false = record { name = refl; star = refl; deep = refl; all = refl }
told p q true false true = record { name = refl; star = refl; deep = refl; all = refl }
told p q true true false = record { name = refl; star = refl; deep = refl; all = refl }
told p q true true true = record { name = refl; star = refl; deep = refl; all = refl }

-- an import is noted
abbrev import_noted : List Draft → List Draft → Grown → Reading → ℕ → Visibility → List Path → Bool → Bool → Bool → Walk
import_noted es ds g r inner v ps star deep all = record (inside es g r) {
  elements = ds;
  imports = g.imports ++ record {
    place = (path_or 0 ps).place;
    owner = length es;
    at = inner;
    visibility = v;
    star = star;
    recursive = deep;
    all = all;
  } ∷ [];
}

-- the walk notes just that
import_left : (v : Visibility) (es : List Draft) (g : Grown) (r : Reading) (ns : List DraftNode) (x : Importing) → IsTold ns (path x.name) x
    → left (action.Take taking.Import) (saved (action.Take taking.Import) (awaiting v (inside es g r))) (inside es g (noded ns))
    ≡ inside es (with_import (length es) v x g) r
import_left v es g r ns x h =
    let f = with_inner (item.Import (length g.imports)) role.Import in
    let here = λ (ps : List Path). es ++ f (path_or 0 ps) g.self ∷ g.others in
    let n = length g.self.inner in
    let p = path x.name ∷ [] in
    ap (λ ys. import_noted es ys g r (length (inner_at (es ++ g.self ∷ g.others) (length es))) v (paths_in ns) (has_what is_star ns) (has_what is_deep ns)
    (has_what is_all ns)) (adjusted_here (f (path_or 0 (paths_in ns))) es g.self g.others)
    ∙ (ap (λ ys. import_noted es (here (paths_in ns)) g r (length ys) v (paths_in ns) (has_what is_star ns) (has_what is_deep ns) (has_what is_all ns))
    (inner_here es g.self g.others)
    ∙ (ap (λ ps. import_noted es (here ps) g r n v ps (has_what is_star ns) (has_what is_deep ns) (has_what is_all ns)) h.name
    ∙ (ap (λ b. import_noted es (here p) g r n v p b (has_what is_deep ns) (has_what is_all ns)) h.star
    ∙ (ap (λ b. import_noted es (here p) g r n v p x.star b (has_what is_all ns)) h.deep
    ∙ ap (λ b. import_noted es (here p) g r n v p x.star x.deep b) h.all))))

-- an import
pub importing_read : (l : Language) (a : Action) (v : Visibility) (es : List Draft) (g : Grown) (r : Reading) (x : Importing)
    → Reads l a (Inner (symbol.import l) ∷ []) (importing l x) (awaiting v (inside es g r)) (inside es (with_import (length es) v x g) r)
importing_read l a v es g r x =
    let q = x.name in
    let more = behind l (codes "::") q.more in
    let stars = star_tokens x.star (codes "*") in
    let deeps = star_tokens x.deep (codes "**") in
    let stop = sign (codes ";") ∷ [] in
    let act = action.Take taking.Import in
    let ns = all_nodes x.all in
    to_end (import_left v es g r (rest_nodes ns (path q) x.star x.deep) x (told (path q) q x.all x.star x.deep))
    (by_rule (rule.import l) (silent (word l (codes "import")) (means.word_import l)
    (then (all_read l act es g x.all)
    (as_tokens (sym (append_assoc (rooted q.absolute) (name l q.first ∷ more) (stars ++ (deeps ++ stop))))
    (then (root_read l q.absolute act (inside es g fresh) ns fresh)
    (first_here l es g ns q.absolute q.first _ _ _
    (as_tokens (append_assoc more (stars ++ deeps) stop ∙ ap (λ ts. more ++ ts) (append_assoc stars deeps stop))
    (then (imp_rest_read l act es g ns (begun_path q.absolute q.first) q.more x.star x.deep)
    (silent (sign (codes ";")) (means.sign_semicolon l) done)))))))))
