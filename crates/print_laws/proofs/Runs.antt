-- Specialisations and multiplicity are read back.
use Rattle.std.proofs.Common.{◌≡◌, List, [], ◌∷◌, ◌++◌, ap, sym, ◌∙◌, append_assoc, append-nil}
use Rattle.std.specs.Prelude.{codes, map}
use Rattle.element_store.specs.declared.outcome.Language.{Language}
use Rattle.element_store.specs.declared.outcome.Role.{Role}
use Rattle.element_store.specs.declared.outcome.Role.TheVariants as role
use Rattle.ll_core.specs.declared.grammar.Symbol.TheVariants.{Inner}
use Rattle.text_model.specs.declared.action.Action.{Action}
use Rattle.text_model.specs.declared.action.Action.TheVariants as action
use Rattle.text_model.specs.declared.action.Taking.TheVariants as taking
use Rattle.text_model.specs.declared.draft.Draft.{Draft}
use Rattle.text_model.specs.declared.draft.Mention.{Mention}
use Rattle.text_model.specs.declared.draft.Path.{Path}
use Rattle.text_model.specs.declared.draft.Reading.{Reading}
use Rattle.text_model.specs.Drafts.{names as paths_in, mentions}
use Rattle.text_model.specs.Walk.{Walk, fresh, changed}
use Rattle.print_model.specs.Printed.{sign}
use Rattle.print_model.proofs.Readings.{Reads}
use Rattle.print_laws.specs.Items.{Run, Typed, Subsetted, Redefined, Referred}
use Rattle.print_laws.specs.ItemTokens.{run, runs}
use Rattle.print_laws.specs.ItemWalk.{Grown, changed_self, path, chain_path, run_mentions, all_mentions}
use Rattle.print_laws.proofs.Symbols as symbol
use Rattle.print_laws.proofs.Productions as rule
use Rattle.print_laws.proofs.Meanings as means
use Rattle.print_laws.proofs.Steps.{inside, done, then, by_rule, grouped, to_end, silent, changed_inside}
use Rattle.print_laws.proofs.Heads.{path_node, qualified_read, chained_read, pushed_all, more_names_read, more_chains_read, pushed_names, with_mentions}

-- `:`
typed_sign : (l : Language) (a : Action) (w : Walk) → Reads l a (Inner (symbol.typed_by l) ∷ []) (sign (codes ":") ∷ []) w w
typed_sign l a w = grouped (rule.typed_by_0 l) (silent (sign (codes ":")) (means.sign_colon l) done)

-- a role's names are taken from the nodes
pub taken_names : (which : Role) (es : List Draft) (g : Grown) (r : Reading) (ps : List Path)
    → changed (λ d. record d { specs = d.specs ++ mentions which (paths_in (pushed_all [] ps)) }) (inside es g r)
    ≡ inside es (changed_self (with_mentions (mentions which ps)) g) r
taken_names which es g r ps =
    ap (λ qs. changed (λ d. record d { specs = d.specs ++ mentions which qs }) (inside es g r)) (pushed_names [] ps)
    ∙ changed_inside (λ d. record d { specs = d.specs ++ mentions which ps }) es g r

-- a run
pub run_read : (l : Language) (a : Action) (es : List Draft) (g : Grown) (r : Reading) (x : Run)
    → Reads l a (Inner (symbol.spec l) ∷ []) (run l x) (inside es g r) (inside es (changed_self (with_mentions (run_mentions x)) g) r)
run_read l a es g r (Typed q qs) =
    to_end (taken_names role.Typing es g r (path q ∷ map path qs))
    (by_rule (rule.spec_0 l)
    (then (typed_sign l (action.Take taking.Typing) (inside es g fresh))
    (then (qualified_read l (action.Take taking.Typing) (inside es g fresh) [] fresh q)
    (more_names_read l (action.Take taking.Typing) (inside es g fresh) (path_node (path q) ∷ []) fresh qs))))
run_read l a es g r (Subsetted c cs) =
    to_end (taken_names role.Subsetting es g r (chain_path c ∷ map chain_path cs))
    (by_rule (rule.spec_1 l)
    (then (grouped (rule.one_colon_greater_subsets_0 l) (silent (sign (codes ":>")) (means.sign_colon_greater l) done))
    (then (chained_read l (action.Take taking.Subsetting) (inside es g fresh) [] fresh c)
    (more_chains_read l (action.Take taking.Subsetting) (inside es g fresh) (path_node (chain_path c) ∷ []) fresh cs))))
run_read l a es g r (Redefined q qs) =
    to_end (taken_names role.Redefinition es g r (path q ∷ map path qs))
    (by_rule (rule.spec_2 l)
    (then (grouped (rule.one_colon_greater_greater_redefines_0 l) (silent (sign (codes ":>>")) (means.sign_colon_greater_greater l) done))
    (then (qualified_read l (action.Take taking.Redefinition) (inside es g fresh) [] fresh q)
    (more_names_read l (action.Take taking.Redefinition) (inside es g fresh) (path_node (path q) ∷ []) fresh qs))))
run_read l a es g r (Referred c) =
    to_end (taken_names role.ReferenceSubsetting es g r (chain_path c ∷ []))
    (by_rule (rule.spec_3 l)
    (then (grouped (rule.one_colon_colon_greater_references_0 l) (silent (sign (codes "::>")) (means.sign_colon_colon_greater l) done))
    (chained_read l (action.Take taking.ReferenceSubsetting) (inside es g fresh) [] fresh c)))

-- mentions behind mentions
pub more_mentions : (ms ns : List Mention) (g : Grown)
    → changed_self (with_mentions ns) (changed_self (with_mentions ms) g) ≡ changed_self (with_mentions (ms ++ ns)) g
more_mentions ms ns g = ap (λ xs. changed_self (λ d. record d { specs = xs }) g) (append_assoc g.self.specs ms ns)

-- all runs
pub runs_read : (l : Language) (a : Action) (es : List Draft) (g : Grown) (r : Reading) (xs : List Run)
    → Reads l a (Inner (symbol.many_spec l) ∷ []) (runs l xs) (inside es g r) (inside es (changed_self (with_mentions (all_mentions xs)) g) r)
runs_read l a es g r [] =
    to_end (ap (λ ms. inside es (changed_self (λ d. record d { specs = ms }) g) r) (sym (append-nil g.self.specs))) (grouped (rule.many_spec_1 l) done)
runs_read l a es g r (x ∷ xs) =
    to_end (ap (λ h. inside es h r) (more_mentions (run_mentions x) (all_mentions xs) g))
    (grouped (rule.many_spec_0 l)
    (then (run_read l action.Group es g r x) (runs_read l action.Group es (changed_self (with_mentions (run_mentions x)) g) r xs)))
