-- Made by `tools/make_rules.py`: the productions of expressions in both languages, by evaluation.
use Rattle.std.proofs.Common.{◌≡◌, ℕ, ◌+◌, [], ◌∷◌, refl}
use Rattle.std.specs.Prelude.{slice_index_or}
use Rattle.element_store.specs.declared.outcome.Language.{Language}
use Rattle.element_store.specs.declared.outcome.Language.TheVariants.{Kerml, Sysml}
use Rattle.element_store.specs.declared.expression.UnaryOp.{UnaryOp}
use Rattle.element_store.specs.declared.expression.UnaryOp.TheVariants as unary
use Rattle.element_store.specs.declared.expression.BinaryOp.{BinaryOp}
use Rattle.element_store.specs.declared.expression.BinaryOp.TheVariants as binary
use Rattle.token_core.specs.Terminals.{terminal}
use Rattle.token_core.specs.Words.{signs, words}
use Rattle.ll_core.specs.declared.grammar.Symbol.TheVariants.{Terminal, Inner}
use Rattle.kerml_grammar.specs.Terms as kerml
use Rattle.kerml_grammar.specs.Rules.{kerml_rules}
use Rattle.kerml_grammar.specs.Grammar.{kerml_table}
use Rattle.sysml_grammar.specs.Terms as sysml
use Rattle.sysml_grammar.specs.Rules.{sysml_rules}
use Rattle.sysml_grammar.specs.Grammar.{sysml_table}
use Rattle.text_model.specs.declared.action.Action.TheVariants.{Group, Level, Tail}
use Rattle.text_model.specs.declared.action.Operator.{Operator}
use Rattle.text_model.specs.declared.action.Operator.TheVariants as operator
use Rattle.text_model.specs.declared.action.Meaning.TheVariants as meaning
use Rattle.text_model.specs.KermlActions.{kerml_actions}
use Rattle.text_model.specs.SysmlActions.{sysml_actions}
use Rattle.text_model.specs.SignMeanings.{sign_meanings}
use Rattle.text_model.specs.KermlMeanings.{kerml_meanings}
use Rattle.text_model.specs.SysmlMeanings.{sysml_meanings}
use Rattle.text_model.specs.Languages.{grammar_of}
use Rattle.text_model.specs.Tables.{tables, meaning_of}
use Rattle.print_model.specs.Printed.{Printed}
use Rattle.print_model.specs.Trees.{level_between, token_between, token_before}
use Rattle.print_model.proofs.Readings.{IsRule}

-- the symbol of the repetition at a level
abbrev pub many : Language → ℕ → ℕ
many Kerml k = slice_index_or (0 ∷ 83 ∷ 84 ∷ 86 ∷ 87 ∷ 89 ∷ 91 ∷ 93 ∷ 95 ∷ []) k 0
many Sysml k = slice_index_or (0 ∷ 98 ∷ 99 ∷ 101 ∷ 102 ∷ 104 ∷ 106 ∷ 108 ∷ 110 ∷ []) k 0

-- the production that ends it
abbrev pub none : Language → ℕ → ℕ
none Kerml k = slice_index_or (0 ∷ 165 ∷ 167 ∷ 171 ∷ 173 ∷ 177 ∷ 181 ∷ 187 ∷ 191 ∷ []) k 0
none Sysml k = slice_index_or (0 ∷ 193 ∷ 195 ∷ 199 ∷ 201 ∷ 205 ∷ 209 ∷ 215 ∷ 219 ∷ []) k 0

-- the number of MaybeDollarColonColon
abbrev pub root : Language → ℕ
root Kerml = 56
root Sysml = 71

-- the number of ManyColonColonName
abbrev pub segments : Language → ℕ
segments Kerml = 65
segments Sysml = 80

-- the number of ManyDotName
abbrev pub steps : Language → ℕ
steps Kerml = 66
steps Sysml = 81

-- the number of OneMinusPlusNot
abbrev pub sign_before : Language → ℕ
sign_before Kerml = 97
sign_before Sysml = 112

-- a level stands for the next one and a repetition
pub record LevelRules (l : Language) (k : ℕ) : Type 0 where
  pub rule : IsRule l (49 + k) (28 + k) (Inner (29 + k) ∷ Inner (many l k) ∷ []) Level
  pub ended : IsRule l (none l k) (many l k) [] Tail

-- a symbol may stand for this sign alone, which means the operator
pub record IsSign (l : Language) (s : ℕ) (p : Printed) (o : Operator) : Type 0 where
  pub n : ℕ
  pub t : ℕ
  pub rule : IsRule l n s (Terminal t ∷ []) Group
  pub kind : terminal p.kind ≡ t
  pub means : meaning_of (tables l) p.kind ≡ meaning.Operator o

-- the repetition goes on with this operator, an operand and itself
pub data IsMore (l : Language) (k : ℕ) (p : Printed) (o : Operator) : Type 0 where
  Direct : (n t : ℕ) (rule : IsRule l n (many l k) (Terminal t ∷ Inner (29 + k) ∷ Inner (many l k) ∷ []) Tail)
      (kind : terminal p.kind ≡ t) (means : meaning_of (tables l) p.kind ≡ meaning.Operator o) → IsMore l k p o
  Through : (n s : ℕ) (rule : IsRule l n (many l k) (Inner s ∷ Inner (29 + k) ∷ Inner (many l k) ∷ []) Tail)
      (sign : IsSign l s p o) → IsMore l k p o

-- what a sign before an operand is where it waits
abbrev pub sign_of : UnaryOp → Operator
sign_of unary.Minus = operator.Binary binary.Subtract
sign_of unary.Plus = operator.Binary binary.Add
sign_of unary.Not = operator.Not

-- the productions of level 1
pub level_rules_1 : (l : Language) → LevelRules l 1
unfolding grammar_of kerml_table kerml_rules kerml.sign kerml.word sysml_table sysml_rules sysml.sign sysml.word signs words tables kerml_actions
    sysml_actions sign_meanings kerml_meanings sysml_meanings
level_rules_1 Kerml = record { rule = (refl, refl); ended = (refl, refl) }
level_rules_1 Sysml = record { rule = (refl, refl); ended = (refl, refl) }

-- the productions of level 2
pub level_rules_2 : (l : Language) → LevelRules l 2
unfolding grammar_of kerml_table kerml_rules kerml.sign kerml.word sysml_table sysml_rules sysml.sign sysml.word signs words tables kerml_actions
    sysml_actions sign_meanings kerml_meanings sysml_meanings
level_rules_2 Kerml = record { rule = (refl, refl); ended = (refl, refl) }
level_rules_2 Sysml = record { rule = (refl, refl); ended = (refl, refl) }

-- the productions of level 3
pub level_rules_3 : (l : Language) → LevelRules l 3
unfolding grammar_of kerml_table kerml_rules kerml.sign kerml.word sysml_table sysml_rules sysml.sign sysml.word signs words tables kerml_actions
    sysml_actions sign_meanings kerml_meanings sysml_meanings
level_rules_3 Kerml = record { rule = (refl, refl); ended = (refl, refl) }
level_rules_3 Sysml = record { rule = (refl, refl); ended = (refl, refl) }

-- the productions of level 4
pub level_rules_4 : (l : Language) → LevelRules l 4
unfolding grammar_of kerml_table kerml_rules kerml.sign kerml.word sysml_table sysml_rules sysml.sign sysml.word signs words tables kerml_actions
    sysml_actions sign_meanings kerml_meanings sysml_meanings
level_rules_4 Kerml = record { rule = (refl, refl); ended = (refl, refl) }
level_rules_4 Sysml = record { rule = (refl, refl); ended = (refl, refl) }

-- the productions of level 5
pub level_rules_5 : (l : Language) → LevelRules l 5
unfolding grammar_of kerml_table kerml_rules kerml.sign kerml.word sysml_table sysml_rules sysml.sign sysml.word signs words tables kerml_actions
    sysml_actions sign_meanings kerml_meanings sysml_meanings
level_rules_5 Kerml = record { rule = (refl, refl); ended = (refl, refl) }
level_rules_5 Sysml = record { rule = (refl, refl); ended = (refl, refl) }

-- the productions of level 6
pub level_rules_6 : (l : Language) → LevelRules l 6
unfolding grammar_of kerml_table kerml_rules kerml.sign kerml.word sysml_table sysml_rules sysml.sign sysml.word signs words tables kerml_actions
    sysml_actions sign_meanings kerml_meanings sysml_meanings
level_rules_6 Kerml = record { rule = (refl, refl); ended = (refl, refl) }
level_rules_6 Sysml = record { rule = (refl, refl); ended = (refl, refl) }

-- the productions of level 7
pub level_rules_7 : (l : Language) → LevelRules l 7
unfolding grammar_of kerml_table kerml_rules kerml.sign kerml.word sysml_table sysml_rules sysml.sign sysml.word signs words tables kerml_actions
    sysml_actions sign_meanings kerml_meanings sysml_meanings
level_rules_7 Kerml = record { rule = (refl, refl); ended = (refl, refl) }
level_rules_7 Sysml = record { rule = (refl, refl); ended = (refl, refl) }

-- the productions of level 8
pub level_rules_8 : (l : Language) → LevelRules l 8
unfolding grammar_of kerml_table kerml_rules kerml.sign kerml.word sysml_table sysml_rules sysml.sign sysml.word signs words tables kerml_actions
    sysml_actions sign_meanings kerml_meanings sysml_meanings
level_rules_8 Kerml = record { rule = (refl, refl); ended = (refl, refl) }
level_rules_8 Sysml = record { rule = (refl, refl); ended = (refl, refl) }

-- the repetition of each operator
pub rule_between : (l : Language) (o : BinaryOp) → IsMore l (level_between o) (token_between l o) (operator.Binary o)
unfolding grammar_of kerml_table kerml_rules kerml.sign kerml.word sysml_table sysml_rules sysml.sign sysml.word signs words tables kerml_actions
    sysml_actions sign_meanings kerml_meanings sysml_meanings
rule_between Kerml binary.Implies = Direct 164 305 (refl, refl) refl refl
rule_between Kerml binary.Or = Through 166 85 (refl, refl) (record { n = 168; t = 329; rule = (refl, refl); kind = refl; means = refl })
rule_between Kerml binary.Bar = Through 166 85 (refl, refl) (record { n = 169; t = 35; rule = (refl, refl); kind = refl; means = refl })
rule_between Kerml binary.Xor = Direct 170 361 (refl, refl) refl refl
rule_between Kerml binary.And = Through 172 88 (refl, refl) (record { n = 174; t = 264; rule = (refl, refl); kind = refl; means = refl })
rule_between Kerml binary.Amp = Through 172 88 (refl, refl) (record { n = 175; t = 34; rule = (refl, refl); kind = refl; means = refl })
rule_between Kerml binary.Equal = Through 176 90 (refl, refl) (record { n = 178; t = 22; rule = (refl, refl); kind = refl; means = refl })
rule_between Kerml binary.NotEqual = Through 176 90 (refl, refl) (record { n = 179; t = 23; rule = (refl, refl); kind = refl; means = refl })
rule_between Kerml binary.Less = Through 180 92 (refl, refl) (record { n = 182; t = 10; rule = (refl, refl); kind = refl; means = refl })
rule_between Kerml binary.Greater = Through 180 92 (refl, refl) (record { n = 183; t = 11; rule = (refl, refl); kind = refl; means = refl })
rule_between Kerml binary.AtMost = Through 180 92 (refl, refl) (record { n = 184; t = 26; rule = (refl, refl); kind = refl; means = refl })
rule_between Kerml binary.AtLeast = Through 180 92 (refl, refl) (record { n = 185; t = 27; rule = (refl, refl); kind = refl; means = refl })
rule_between Kerml binary.Add = Through 186 94 (refl, refl) (record { n = 188; t = 28; rule = (refl, refl); kind = refl; means = refl })
rule_between Kerml binary.Subtract = Through 186 94 (refl, refl) (record { n = 189; t = 29; rule = (refl, refl); kind = refl; means = refl })
rule_between Kerml binary.Multiply = Through 190 96 (refl, refl) (record { n = 192; t = 30; rule = (refl, refl); kind = refl; means = refl })
rule_between Kerml binary.Divide = Through 190 96 (refl, refl) (record { n = 193; t = 32; rule = (refl, refl); kind = refl; means = refl })
rule_between Kerml binary.Remainder = Through 190 96 (refl, refl) (record { n = 194; t = 33; rule = (refl, refl); kind = refl; means = refl })
rule_between Sysml binary.Implies = Direct 192 316 (refl, refl) refl refl
rule_between Sysml binary.Or = Through 194 100 (refl, refl) (record { n = 196; t = 341; rule = (refl, refl); kind = refl; means = refl })
rule_between Sysml binary.Bar = Through 194 100 (refl, refl) (record { n = 197; t = 35; rule = (refl, refl); kind = refl; means = refl })
rule_between Sysml binary.Xor = Direct 198 388 (refl, refl) refl refl
rule_between Sysml binary.And = Through 200 103 (refl, refl) (record { n = 202; t = 271; rule = (refl, refl); kind = refl; means = refl })
rule_between Sysml binary.Amp = Through 200 103 (refl, refl) (record { n = 203; t = 34; rule = (refl, refl); kind = refl; means = refl })
rule_between Sysml binary.Equal = Through 204 105 (refl, refl) (record { n = 206; t = 22; rule = (refl, refl); kind = refl; means = refl })
rule_between Sysml binary.NotEqual = Through 204 105 (refl, refl) (record { n = 207; t = 23; rule = (refl, refl); kind = refl; means = refl })
rule_between Sysml binary.Less = Through 208 107 (refl, refl) (record { n = 210; t = 10; rule = (refl, refl); kind = refl; means = refl })
rule_between Sysml binary.Greater = Through 208 107 (refl, refl) (record { n = 211; t = 11; rule = (refl, refl); kind = refl; means = refl })
rule_between Sysml binary.AtMost = Through 208 107 (refl, refl) (record { n = 212; t = 26; rule = (refl, refl); kind = refl; means = refl })
rule_between Sysml binary.AtLeast = Through 208 107 (refl, refl) (record { n = 213; t = 27; rule = (refl, refl); kind = refl; means = refl })
rule_between Sysml binary.Add = Through 214 109 (refl, refl) (record { n = 216; t = 28; rule = (refl, refl); kind = refl; means = refl })
rule_between Sysml binary.Subtract = Through 214 109 (refl, refl) (record { n = 217; t = 29; rule = (refl, refl); kind = refl; means = refl })
rule_between Sysml binary.Multiply = Through 218 111 (refl, refl) (record { n = 220; t = 30; rule = (refl, refl); kind = refl; means = refl })
rule_between Sysml binary.Divide = Through 218 111 (refl, refl) (record { n = 221; t = 32; rule = (refl, refl); kind = refl; means = refl })
rule_between Sysml binary.Remainder = Through 218 111 (refl, refl) (record { n = 222; t = 33; rule = (refl, refl); kind = refl; means = refl })

-- the signs before an operand
pub rule_before : (l : Language) (o : UnaryOp) → IsSign l (sign_before l) (token_before l o) (sign_of o)
unfolding grammar_of kerml_table kerml_rules kerml.sign kerml.word sysml_table sysml_rules sysml.sign sysml.word signs words tables kerml_actions
    sysml_actions sign_meanings kerml_meanings sysml_meanings
rule_before Kerml unary.Minus = record { n = 195; t = 29; rule = (refl, refl); kind = refl; means = refl }
rule_before Kerml unary.Plus = record { n = 196; t = 28; rule = (refl, refl); kind = refl; means = refl }
rule_before Kerml unary.Not = record { n = 197; t = 326; rule = (refl, refl); kind = refl; means = refl }
rule_before Sysml unary.Minus = record { n = 223; t = 29; rule = (refl, refl); kind = refl; means = refl }
rule_before Sysml unary.Plus = record { n = 224; t = 28; rule = (refl, refl); kind = refl; means = refl }
rule_before Sysml unary.Not = record { n = 225; t = 336; rule = (refl, refl); kind = refl; means = refl }
