-- Names and qualified names in an element are read back.
use Rattle.std.proofs.Common.{◌≡◌, ℕ, List, [], ◌∷◌, ◌++◌, refl, ap, sym, ◌∙◌, append_assoc, append-nil}
use Rattle.std.specs.Prelude.{Option, Some, None, codes, map}
use Rattle.element_store.specs.declared.outcome.Language.{Language}
use Rattle.element_store.specs.declared.expression.BinaryOp.TheVariants as binary
use Rattle.token_core.specs.Terminals.{terminal}
use Rattle.ll_core.specs.declared.grammar.Symbol.{Symbol}
use Rattle.ll_core.specs.declared.grammar.Symbol.TheVariants.{Terminal, Inner}
use Rattle.text_model.specs.declared.action.Action.{Action}
use Rattle.text_model.specs.declared.action.Action.TheVariants as action
use Rattle.text_model.specs.declared.action.Operator.TheVariants as operator
use Rattle.text_model.specs.declared.action.Meaning.TheVariants as meaning
use Rattle.text_model.specs.declared.draft.Draft.{Draft}
use Rattle.text_model.specs.declared.draft.DraftNode.{DraftNode}
use Rattle.text_model.specs.declared.draft.Mention.{Mention}
use Rattle.text_model.specs.declared.draft.Path.{Path}
use Rattle.text_model.specs.declared.draft.Reading.{Reading}
use Rattle.text_model.specs.declared.draft.Waiting.{Waiting}
use Rattle.text_model.specs.declared.draft.What.TheVariants as what
use Rattle.text_model.specs.Drafts.{node, name_in, names as paths_in}
use Rattle.text_model.specs.Walk.{Walk, fresh}
use Rattle.print_model.specs.Printed.{Printed, sign, name, tightly}
use Rattle.print_model.specs.Heads.{short_name, declared_name}
use Rattle.print_model.specs.Trees.{behind, headed, rooted}
use Rattle.print_model.proofs.Readings.{Reads, reads_said}
use Rattle.print_model.proofs.Names.{reads_name, name_read, chain_read}
use Rattle.print_model.proofs.States.{among, waiting}
use Rattle.print_laws.specs.Items.{Qualified, Chained, Names}
use Rattle.print_laws.specs.ItemTokens.{qualified, chained, more_names, more_chains, named}
use Rattle.print_laws.specs.ItemWalk.{Grown, path, chain_path}
use Rattle.print_laws.proofs.Symbols as symbol
use Rattle.print_laws.proofs.Productions as rule
use Rattle.print_laws.proofs.Meanings as means
use Rattle.print_laws.proofs.Steps.{inside, done, then, by_rule, grouped, as_tokens, silent}

-- the sign behind a short name waits on, and nothing asks for it
abbrev pub angle : Option (List ℕ) → Option Waiting
angle None = None
angle (Some s) = waiting (operator.Binary binary.Greater)

-- a short name was read, or not
abbrev pub short_reading : Option (List ℕ) → Reading
short_reading s = record fresh { short = s; operator = angle s }

-- names were read
abbrev pub named_reading : Names → Reading
named_reading n = record (short_reading n.short) { name = n.name }

-- no space behind a token changes nothing
tight_read : {l : Language} {a : Action} {ss : List Symbol} {ps : List Printed} {w v : Walk} (p : Printed) → Reads l a ss (p ∷ ps) w v
    → Reads l a ss (tightly p ∷ ps) w v
tight_read p r = record { forest = r.forest; derived = r.derived; spelt = r.spelt; walked = r.walked }

-- `<`, a name and `>`
pub angled_read : {l : Language} {ss : List Symbol} {ps : List Printed} {v : Walk} (es : List Draft) (g : Grown) (s : List ℕ)
    → Reads l action.Short ss ps (inside es g (short_reading (Some s))) v
    → Reads l action.Short (Terminal (terminal (sign (codes "<")).kind) ∷ Terminal 0 ∷ Terminal (terminal (sign (codes ">")).kind) ∷ ss)
    (tightly (sign (codes "<")) ∷ tightly (name l s) ∷ sign (codes ">") ∷ ps) (inside es g fresh) v
angled_read {l = l} {ss = ss} {ps = ps} {v = v} es g s r =
    tight_read (sign (codes "<"))
    (reads_said l action.Short (sign (codes "<")) _ (meaning.Operator (operator.Binary binary.Less)) _ _ _ _ refl (means.sign_less l)
    (tight_read (name l s)
    (reads_name l action.Short s _ _ _ _
    (reads_said l action.Short (sign (codes ">")) _ (meaning.Operator (operator.Binary binary.Greater)) _ _ _ _ refl (means.sign_greater l) r))))

-- a short name, if there is one
short_read : (l : Language) (a : Action) (es : List Draft) (g : Grown) (s : Option (List ℕ))
    → Reads l a (Inner (symbol.maybe_less_name_greater l) ∷ []) (short_name l s) (inside es g fresh) (inside es g (short_reading s))
short_read l a es g None = grouped (rule.maybe_less_name_greater_1 l) done
short_read l a es g (Some s) = by_rule (rule.maybe_less_name_greater_0 l) (angled_read es g s done)

-- a name, if there is one
pub name_part_read : (l : Language) (a : Action) (es : List Draft) (g : Grown) (s n : Option (List ℕ))
    → Reads l a (Inner (symbol.maybe_name l) ∷ []) (declared_name l n) (inside es g (short_reading s))
    (inside es g (named_reading (record { short = s; name = n })))
name_part_read l a es g s None = grouped (rule.maybe_name_1 l) done
name_part_read l a es g s (Some n) = by_rule (rule.maybe_name_0 l) (reads_name l action.Name n [] [] _ _ done)

-- both names
pub ident_read : (l : Language) (a : Action) (es : List Draft) (g : Grown) (n : Names)
    → Reads l a (Inner (symbol.ident l) ∷ []) (named l n) (inside es g fresh) (inside es g (named_reading n))
ident_read l a es g n = grouped (rule.ident l) (then (short_read l action.Group es g n.short) (name_part_read l action.Group es g n.short n.name))

-- Qualified names and chains, behind those that were read.

-- the node of a name
abbrev pub path_node : Path → DraftNode
path_node p = node (what.Named p) 0

-- a qualified name
pub qualified_read : (l : Language) (a : Action) (w : Walk) (ns : List DraftNode) (r : Reading) (q : Qualified)
    → Reads l a (Inner (symbol.qname l) ∷ []) (qualified l q) (among w ns r) (among w (ns ++ path_node (path q) ∷ []) r)
qualified_read l a w ns r q = name_read l q.absolute q.first q.more w ns a r

-- a chain
pub chained_read : (l : Language) (a : Action) (w : Walk) (ns : List DraftNode) (r : Reading) (c : Chained)
    → Reads l a (Inner (symbol.chain l) ∷ []) (chained l c) (among w ns r) (among w (ns ++ path_node (chain_path c) ∷ []) r)
chained_read l a w ns r c =
    as_tokens (sym (append_assoc (rooted c.name.absolute) (headed l (c.name.first ∷ c.name.more)) (behind l (codes ".") c.steps)))
    (chain_read l c.name.absolute c.name.first c.name.more c.steps w ns a r)

-- more names behind those before
abbrev pub pushed_all : List DraftNode → List Path → List DraftNode
pushed_all ns [] = ns
pushed_all ns (p ∷ ps) = pushed_all (ns ++ path_node p ∷ []) ps

-- names behind commas
pub more_names_read : (l : Language) (a : Action) (w : Walk) (ns : List DraftNode) (r : Reading) (qs : List Qualified)
    → Reads l a (Inner (symbol.many_comma_qname l) ∷ []) (more_names l qs) (among w ns r) (among w (pushed_all ns (map path qs)) r)
more_names_read l a w ns r [] = grouped (rule.many_comma_qname_1 l) done
more_names_read l a w ns r (q ∷ qs) =
    grouped (rule.many_comma_qname_0 l) (silent (sign (codes ",")) (means.sign_comma l)
    (then (qualified_read l action.Group w ns r q) (more_names_read l action.Group w (ns ++ path_node (path q) ∷ []) r qs)))

-- chains behind commas
pub more_chains_read : (l : Language) (a : Action) (w : Walk) (ns : List DraftNode) (r : Reading) (cs : List Chained)
    → Reads l a (Inner (symbol.many_comma_chain l) ∷ []) (more_chains l cs) (among w ns r) (among w (pushed_all ns (map chain_path cs)) r)
more_chains_read l a w ns r [] = grouped (rule.many_comma_chain_1 l) done
more_chains_read l a w ns r (c ∷ cs) =
    grouped (rule.many_comma_chain_0 l) (silent (sign (codes ",")) (means.sign_comma l)
    (then (chained_read l action.Group w ns r c) (more_chains_read l action.Group w (ns ++ path_node (chain_path c) ∷ []) r cs)))

-- the names among the nodes
pub pushed_names : (ns : List DraftNode) (ps : List Path) → paths_in (pushed_all ns ps) ≡ paths_in ns ++ ps
pushed_names ns [] = sym (append-nil (paths_in ns))
pushed_names ns (p ∷ ps) = pushed_names (ns ++ path_node p ∷ []) ps ∙ (ap (λ xs. xs ++ ps) (names_append ns (path_node p ∷ []))
    ∙ append_assoc (paths_in ns) (p ∷ []) ps)
  where
    names_append : (ns ms : List DraftNode) → paths_in (ns ++ ms) ≡ paths_in ns ++ paths_in ms
    names_append [] ms = refl
    names_append (n ∷ ns) ms = ap (λ xs. name_in n.what ++ xs) (names_append ns ms) ∙ sym (append_assoc (name_in n.what) (paths_in ns) (paths_in ms))

-- what was read for the element that is open
abbrev pub noded : List DraftNode → Reading
noded ns = record fresh { nodes = ns }

-- a taking of names as specialisations of the element that is open
abbrev pub with_mentions : List Mention → Draft → Draft
with_mentions ms d = record d { specs = d.specs ++ ms }
