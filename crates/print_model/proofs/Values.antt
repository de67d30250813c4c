-- A value is read back: `= expr` goes to the element that is open.
use Rattle.std.proofs.Common.{ℕ, [], ◌∷◌, refl, ap}
use Rattle.std.specs.Prelude.{Some, None, codes, map}
use Rattle.element_store.specs.declared.outcome.Language.{Language}
use Rattle.element_store.specs.declared.outcome.Language.TheVariants.{Kerml, Sysml}
use Rattle.token_core.specs.Words.{signs, words}
use Rattle.ll_core.specs.declared.grammar.Symbol.TheVariants.{Terminal, Inner}
use Rattle.kerml_grammar.specs.Grammar.{kerml_table}
use Rattle.sysml_grammar.specs.Grammar.{sysml_table}
use Rattle.text_model.specs.declared.action.Action.{Action}
use Rattle.text_model.specs.declared.action.Action.TheVariants.{Group, Take}
use Rattle.text_model.specs.declared.action.Taking.TheVariants as taking
use Rattle.text_model.specs.declared.action.Meaning.TheVariants as meaning
use Rattle.text_model.specs.declared.draft.Draft.{Draft}
use Rattle.text_model.specs.Tables.{tables}
use Rattle.text_model.specs.Walk.{Walk, fresh, changed}
use Rattle.print_model.specs.Printed.{sign}
use Rattle.print_model.specs.Trees.{Tree, postfix, printed, IsPrintable}
use Rattle.print_model.proofs.Readings.{Reads, IsRule, IsToken, reads_said, reads_last, reads_to}
use Rattle.print_model.specs.ReadBack.{unplaced_node}
use Rattle.print_model.proofs.States.{onto}
use Rattle.print_model.proofs.Begun.{begun_read, pushed_postfix}
use Rattle.text_model.specs.Languages.{grammar_of}
use Rattle.kerml_grammar.specs.Rules.{kerml_rules}
use Rattle.kerml_grammar.specs.Terms as kerml
use Rattle.sysml_grammar.specs.Rules.{sysml_rules}
use Rattle.sysml_grammar.specs.Terms as sysml
use Rattle.text_model.specs.KermlActions.{kerml_actions}
use Rattle.text_model.specs.SysmlActions.{sysml_actions}
use Rattle.text_model.specs.SignMeanings.{sign_meanings}
use Rattle.text_model.specs.KermlMeanings.{kerml_meanings}
use Rattle.text_model.specs.SysmlMeanings.{sysml_meanings}

abbrev maybe_value : Language → ℕ
maybe_value Kerml = 80
maybe_value Sysml = 95

abbrev one_value : Language → ℕ
one_value Kerml = 81
one_value Sysml = 96

abbrev maybe_production : Language → ℕ
maybe_production Kerml = 158
maybe_production Sysml = 186

abbrev one_production : Language → ℕ
one_production Kerml = 160
one_production Sysml = 188

value_rule : (l : Language) → IsRule l 40 22 (Inner (maybe_value l) ∷ []) Group
unfolding grammar_of kerml_table kerml_rules kerml.sign kerml.word sysml_table sysml_rules sysml.sign sysml.word signs words tables kerml_actions
    sysml_actions
value_rule Kerml = (refl, refl)
value_rule Sysml = (refl, refl)

maybe_rule : (l : Language) → IsRule l (maybe_production l) (maybe_value l) (Inner (one_value l) ∷ []) Group
unfolding grammar_of kerml_table kerml_rules kerml.sign kerml.word sysml_table sysml_rules sysml.sign sysml.word signs words tables kerml_actions
    sysml_actions
maybe_rule Kerml = (refl, refl)
maybe_rule Sysml = (refl, refl)

one_rule : (l : Language) → IsRule l (one_production l) (one_value l) (Terminal 21 ∷ Inner 28 ∷ []) (Take taking.Value)
unfolding grammar_of kerml_table kerml_rules kerml.sign kerml.word sysml_table sysml_rules sysml.sign sysml.word signs words tables kerml_actions
    sysml_actions
one_rule Kerml = (refl, refl)
one_rule Sysml = (refl, refl)

equals : (l : Language) → IsToken l (sign (codes "=")) 21 meaning.Nothing
unfolding signs words tables sign_meanings kerml_meanings sysml_meanings
equals Kerml = (refl, refl)
equals Sysml = (refl, refl)

-- the element that is open with a value
abbrev pub with_value : Tree → Draft → Draft
with_value e d = record d { value = Some (record { start = 0; nodes = map unplaced_node (postfix e) }) }

-- a walk of which no token is left
abbrev pub emptied : Walk → Walk
emptied w = record w { rest = [] }

-- a value behind its sign
pub value_read : (l : Language) (e : Tree) → IsPrintable e → (a : Action) (w : Walk)
    → Reads l a (Inner 22 ∷ []) (sign (codes "=") ∷ printed l e) (emptied w) (changed (with_value e) (record (emptied w) { waiting = None }))
value_read l e h a w =
    let ps = sign (codes "=") ∷ printed l e in
    let end = changed (with_value e) (record (emptied w) { waiting = None }) in
    let inside = record (emptied w) { waiting = None; reading = fresh } in
    let full = record inside { reading = record fresh { nodes = onto [] e; start = Some 0 } } in
    reads_last l a Group 40 22 (Inner (maybe_value l) ∷ []) ps (emptied w) end (value_rule l)
    (reads_last l Group Group (maybe_production l) (maybe_value l) (Inner (one_value l) ∷ []) ps (emptied w) end (maybe_rule l)
    (reads_to l Group (Inner (one_value l) ∷ []) ps (emptied w)
    (changed (λ d. record d { value = Some (record { start = 0; nodes = onto [] e }) }) (record (emptied w) { waiting = None })) end
    (ap (λ ns. changed (λ d. record d { value = Some (record { start = 0; nodes = ns }) }) (record (emptied w) { waiting = None })) (pushed_postfix [] e))
    (reads_last l Group (Take taking.Value) (one_production l) (one_value l) (Terminal 21 ∷ Inner 28 ∷ []) ps (emptied w) full (one_rule l)
    (reads_said l (Take taking.Value) (sign (codes "=")) 21 meaning.Nothing (Inner 28 ∷ []) (printed l e) inside full (equals l).0 (equals l).1
    (begun_read l e h inside [] (Take taking.Value) None)))))
