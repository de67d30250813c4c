-- A printed name is read back.
use Rattle.std.proofs.Common.{◌≡◌, ℕ, List, [], ◌∷◌, ◌++◌, length, refl, ap, sym, subst, ◌∙◌, arith, append_assoc, append-nil}
use Rattle.std.specs.Prelude.{Some, Bool, true, false, slice_range, codes}
use Rattle.std.proofs.Math.Seq.{drop-length}
use Rattle.std.proofs.lemmas.List.Folds.{drop_split}
use Rattle.element_store.specs.declared.outcome.Language.{Language}
use Rattle.element_store.specs.declared.outcome.Language.TheVariants.{Kerml, Sysml}
use Rattle.token_core.specs.Reading.{bytes_of, name_meaning}
use Rattle.token_core.specs.Spelling.{name_spelling}
use Rattle.token_core.specs.Words.{signs, words}
use Rattle.token_core.proofs.Spellings.{name_back}
use Rattle.ll_core.specs.declared.grammar.Symbol.{Symbol}
use Rattle.ll_core.specs.declared.grammar.Symbol.TheVariants.{Terminal, Inner}
use Rattle.kerml_grammar.specs.Grammar.{kerml_table}
use Rattle.sysml_grammar.specs.Grammar.{sysml_table}
use Rattle.text_model.specs.declared.action.Action.{Action}
use Rattle.text_model.specs.declared.action.Action.TheVariants.{Group, Segment, Step}
use Rattle.text_model.specs.declared.action.Meaning.TheVariants as meaning
use Rattle.text_model.specs.declared.draft.Path.{Path}
use Rattle.text_model.specs.declared.draft.What.TheVariants as what
use Rattle.text_model.specs.declared.draft.DraftNode.{DraftNode}
use Rattle.text_model.specs.declared.draft.Reading.{Reading}
use Rattle.text_model.specs.Tables.{tables}
use Rattle.text_model.specs.Drafts.{node, last_changed, with_segment, with_step}
use Rattle.text_model.specs.Walk.{Walk, meant_name}
use Rattle.print_model.specs.Printed.{Printed, sign, name}
use Rattle.print_model.specs.Trees.{behind, headed, rooted}
use Rattle.print_model.proofs.BareWalk.{token_of}
use Rattle.print_model.proofs.Readings.{Reads, IsRule, IsToken, reads_nothing, reads_said, reads_last, reads_then, reads_as, reads_to}
use Rattle.print_model.proofs.States.{among}
use Rattle.print_model.proofs.Rules.{root, segments, steps}
use Rattle.text_model.specs.Languages.{grammar_of}
use Rattle.kerml_grammar.specs.Rules.{kerml_rules}
use Rattle.kerml_grammar.specs.Terms as kerml
use Rattle.sysml_grammar.specs.Rules.{sysml_rules}
use Rattle.sysml_grammar.specs.Terms as sysml
use Rattle.text_model.specs.KermlActions.{kerml_actions}
use Rattle.text_model.specs.SysmlActions.{sysml_actions}
use Rattle.text_model.specs.SignMeanings.{sign_meanings}
use Rattle.text_model.specs.KermlMeanings.{kerml_meanings}
use Rattle.text_model.specs.SysmlMeanings.{sysml_meanings}

-- a text as the one token of its own
pub whole : (bs : List ℕ) → slice_range bs 0 (length bs) ≡ bs
whole bs = sym (append-nil (slice_range bs 0 (length bs)))
    ∙ (ap (λ xs. slice_range bs 0 (length bs) ++ xs) (sym (drop-length bs)) ∙ sym (drop_split bs 0 (length bs) (omega arith)))

-- a name's token means the name
pub name_said : (l : Language) (s : List ℕ) → name_meaning (bytes_of (name l s).bytes (token_of (name l s))) ≡ s
name_said l s = ap name_meaning (whole (name_spelling l s)) ∙ name_back l s

-- a name token
pub reads_name : (l : Language) (a : Action) (s : List ℕ) (ss : List Symbol) (ps : List Printed) (w v : Walk)
    → Reads l a ss ps (meant_name a (token_of (name l s)) s w) v → Reads l a (Terminal 0 ∷ ss) (name l s ∷ ps) w v
reads_name l a s ss ps w v r =
    reads_said l a (name l s) 0 meaning.Name ss ps w v refl refl
    (subst (λ bytes. Reads l a ss ps (meant_name a (token_of (name l s)) bytes w) v) (sym (name_said l s)) r)

pub last_is : (f : Path → Path) (ns : List DraftNode) (p : Path) → last_changed f (ns ++ node (what.Named p) 0 ∷ []) ≡ ns ++ node (what.Named (f p)) 0 ∷ []
last_is f [] p = refl
last_is f (n ∷ []) p = refl
last_is f (n ∷ m ∷ ns) p = ap (λ xs. n ∷ xs) (last_is f (m ∷ ns) p)

pub colons : (l : Language) → IsToken l (sign (codes "::")) 17 meaning.Nothing
unfolding signs words tables sign_meanings kerml_meanings sysml_meanings
colons Kerml = (refl, refl)
colons Sysml = (refl, refl)

pub dot : (l : Language) → IsToken l (sign (codes ".")) 14 meaning.Nothing
unfolding signs words tables sign_meanings kerml_meanings sysml_meanings
dot Kerml = (refl, refl)
dot Sysml = (refl, refl)

pub dollar : (l : Language) → IsToken l (sign (codes "$")) 41 meaning.Absolute
unfolding signs words tables sign_meanings kerml_meanings sysml_meanings
dollar Kerml = (refl, refl)
dollar Sysml = (refl, refl)

abbrev segments_more : Language → ℕ
segments_more Kerml = 128
segments_more Sysml = 156

segments_more_rule : (l : Language) → IsRule l (segments_more l) (segments l) (Terminal 17 ∷ Terminal 0 ∷ Inner (segments l) ∷ []) Segment
unfolding grammar_of kerml_table kerml_rules kerml.sign kerml.word sysml_table sysml_rules sysml.sign sysml.word signs words tables kerml_actions
    sysml_actions
segments_more_rule Kerml = (refl, refl)
segments_more_rule Sysml = (refl, refl)

abbrev segments_end : Language → ℕ
segments_end Kerml = 129
segments_end Sysml = 157

segments_end_rule : (l : Language) → IsRule l (segments_end l) (segments l) ([]) Group
unfolding grammar_of kerml_table kerml_rules kerml.sign kerml.word sysml_table sysml_rules sysml.sign sysml.word signs words tables kerml_actions
    sysml_actions
segments_end_rule Kerml = (refl, refl)
segments_end_rule Sysml = (refl, refl)

abbrev steps_more : Language → ℕ
steps_more Kerml = 130
steps_more Sysml = 158

steps_more_rule : (l : Language) → IsRule l (steps_more l) (steps l) (Terminal 14 ∷ Terminal 0 ∷ Inner (steps l) ∷ []) Step
unfolding grammar_of kerml_table kerml_rules kerml.sign kerml.word sysml_table sysml_rules sysml.sign sysml.word signs words tables kerml_actions
    sysml_actions
steps_more_rule Kerml = (refl, refl)
steps_more_rule Sysml = (refl, refl)

abbrev steps_end : Language → ℕ
steps_end Kerml = 131
steps_end Sysml = 159

steps_end_rule : (l : Language) → IsRule l (steps_end l) (steps l) ([]) Group
unfolding grammar_of kerml_table kerml_rules kerml.sign kerml.word sysml_table sysml_rules sysml.sign sysml.word signs words tables kerml_actions
    sysml_actions
steps_end_rule Kerml = (refl, refl)
steps_end_rule Sysml = (refl, refl)

abbrev root_some : Language → ℕ
root_some Kerml = 110
root_some Sysml = 138

root_some_rule : (l : Language) → IsRule l (root_some l) (root l) (Terminal 41 ∷ Terminal 17 ∷ []) Group
unfolding grammar_of kerml_table kerml_rules kerml.sign kerml.word sysml_table sysml_rules sysml.sign sysml.word signs words tables kerml_actions
    sysml_actions
root_some_rule Kerml = (refl, refl)
root_some_rule Sysml = (refl, refl)

abbrev root_none : Language → ℕ
root_none Kerml = 111
root_none Sysml = 139

root_none_rule : (l : Language) → IsRule l (root_none l) (root l) ([]) Group
unfolding grammar_of kerml_table kerml_rules kerml.sign kerml.word sysml_table sysml_rules sysml.sign sysml.word signs words tables kerml_actions
    sysml_actions
root_none_rule Kerml = (refl, refl)
root_none_rule Sysml = (refl, refl)

-- the rest of a name's path
pub segments_read : (l : Language) (ss : List (List ℕ)) (a : Action) (w : Walk) (ns : List DraftNode) (r : Reading) (p : Path)
    → Reads l a (Inner (segments l) ∷ []) (behind l (codes "::") ss) (among w (ns ++ node (what.Named p) 0 ∷ []) r)
    (among w (ns ++ node (what.Named (record p { path = p.path ++ ss })) 0 ∷ []) r)
segments_read l [] a w ns r p =
    reads_to l a (Inner (segments l) ∷ []) [] (among w (ns ++ node (what.Named p) 0 ∷ []) r) (among w (ns ++ node (what.Named p) 0 ∷ []) r)
    (among w (ns ++ node (what.Named (record p { path = p.path ++ [] })) 0 ∷ []) r)
    (ap (λ xs. among w (ns ++ node (what.Named (record p { path = xs })) 0 ∷ []) r) (sym (append-nil p.path)))
    (reads_last l a Group (segments_end l) (segments l) [] [] (among w (ns ++ node (what.Named p) 0 ∷ []) r) (among w (ns ++ node (what.Named p) 0 ∷ []) r)
    (segments_end_rule l) (reads_nothing l Group (among w (ns ++ node (what.Named p) 0 ∷ []) r)))
segments_read l (s ∷ ss) a w ns r p =
    let start = among w (ns ++ node (what.Named p) 0 ∷ []) r in
    let end = among w (ns ++ node (what.Named (record p { path = p.path ++ s ∷ ss })) 0 ∷ []) r in
    reads_last l a Segment (segments_more l) (segments l) (Terminal 17 ∷ Terminal 0 ∷ Inner (segments l) ∷ [])
    (sign (codes "::") ∷ name l s ∷ behind l (codes "::") ss) start end (segments_more_rule l)
    (reads_said l Segment (sign (codes "::")) 17 meaning.Nothing (Terminal 0 ∷ Inner (segments l) ∷ []) (name l s ∷ behind l (codes "::") ss) start end
    (colons l).0 (colons l).1
    (reads_name l Segment s (Inner (segments l) ∷ []) (behind l (codes "::") ss) start end
    (subst (λ xs. Reads l Segment (Inner (segments l) ∷ []) (behind l (codes "::") ss) (among w xs r) end) (sym (last_is (with_segment s) ns p))
    (reads_to l Segment (Inner (segments l) ∷ []) (behind l (codes "::") ss) (among w (ns ++ node (what.Named (with_segment s p)) 0 ∷ []) r)
    (among w (ns ++ node (what.Named (record p { path = (p.path ++ s ∷ []) ++ ss })) 0 ∷ []) r) end
    (ap (λ xs. among w (ns ++ node (what.Named (record p { path = xs })) 0 ∷ []) r) (append_assoc p.path (s ∷ []) ss))
    (segments_read l ss Segment w ns r (with_segment s p))))))

-- the rest of a name's chain
pub steps_read : (l : Language) (ss : List (List ℕ)) (a : Action) (w : Walk) (ns : List DraftNode) (r : Reading) (p : Path)
    → Reads l a (Inner (steps l) ∷ []) (behind l (codes ".") ss) (among w (ns ++ node (what.Named p) 0 ∷ []) r)
    (among w (ns ++ node (what.Named (record p { chain = p.chain ++ ss })) 0 ∷ []) r)
steps_read l [] a w ns r p =
    reads_to l a (Inner (steps l) ∷ []) [] (among w (ns ++ node (what.Named p) 0 ∷ []) r) (among w (ns ++ node (what.Named p) 0 ∷ []) r)
    (among w (ns ++ node (what.Named (record p { chain = p.chain ++ [] })) 0 ∷ []) r)
    (ap (λ xs. among w (ns ++ node (what.Named (record p { chain = xs })) 0 ∷ []) r) (sym (append-nil p.chain)))
    (reads_last l a Group (steps_end l) (steps l) [] [] (among w (ns ++ node (what.Named p) 0 ∷ []) r) (among w (ns ++ node (what.Named p) 0 ∷ []) r)
    (steps_end_rule l) (reads_nothing l Group (among w (ns ++ node (what.Named p) 0 ∷ []) r)))
steps_read l (s ∷ ss) a w ns r p =
    let start = among w (ns ++ node (what.Named p) 0 ∷ []) r in
    let end = among w (ns ++ node (what.Named (record p { chain = p.chain ++ s ∷ ss })) 0 ∷ []) r in
    reads_last l a Step (steps_more l) (steps l) (Terminal 14 ∷ Terminal 0 ∷ Inner (steps l) ∷ [])
    (sign (codes ".") ∷ name l s ∷ behind l (codes ".") ss) start end (steps_more_rule l)
    (reads_said l Step (sign (codes ".")) 14 meaning.Nothing (Terminal 0 ∷ Inner (steps l) ∷ []) (name l s ∷ behind l (codes ".") ss) start end (dot l).0
    (dot l).1
    (reads_name l Step s (Inner (steps l) ∷ []) (behind l (codes ".") ss) start end
    (subst (λ xs. Reads l Step (Inner (steps l) ∷ []) (behind l (codes ".") ss) (among w xs r) end) (sym (last_is (with_step s) ns p))
    (reads_to l Step (Inner (steps l) ∷ []) (behind l (codes ".") ss) (among w (ns ++ node (what.Named (with_step s p)) 0 ∷ []) r)
    (among w (ns ++ node (what.Named (record p { chain = (p.chain ++ s ∷ []) ++ ss })) 0 ∷ []) r) end
    (ap (λ xs. among w (ns ++ node (what.Named (record p { chain = xs })) 0 ∷ []) r) (append_assoc p.chain (s ∷ []) ss))
    (steps_read l ss Step w ns r (with_step s p))))))

name_rule : (l : Language) → IsRule l 21 12 (Inner (root l) ∷ Terminal 0 ∷ Inner (segments l) ∷ []) Group
unfolding grammar_of kerml_table kerml_rules kerml.sign kerml.word sysml_table sysml_rules sysml.sign sysml.word signs words tables kerml_actions
    sysml_actions
name_rule Kerml = (refl, refl)
name_rule Sysml = (refl, refl)

chain_rule : (l : Language) → IsRule l 22 13 (Inner 12 ∷ Inner (steps l) ∷ []) Group
unfolding grammar_of kerml_table kerml_rules kerml.sign kerml.word sysml_table sysml_rules sysml.sign sysml.word signs words tables kerml_actions
    sysml_actions
chain_rule Kerml = (refl, refl)
chain_rule Sysml = (refl, refl)

-- a `$` waits, or not
abbrev pub rooted_at : Walk → List DraftNode → Reading → Bool → Walk
rooted_at w ns r false = among w ns r
rooted_at w ns r true = record w { reading = record r { nodes = ns; root = Some 0 } }

pub root_read : (l : Language) (b : Bool) (a : Action) (w : Walk) (ns : List DraftNode) (r : Reading)
    → Reads l a (Inner (root l) ∷ []) (rooted b) (among w ns r) (rooted_at w ns r b)
root_read l true a w ns r =
    reads_last l a Group (root_some l) (root l) (Terminal 41 ∷ Terminal 17 ∷ []) (rooted true) (among w ns r) (rooted_at w ns r true) (root_some_rule l)
    (reads_said l Group (sign (codes "$")) 41 meaning.Absolute (Terminal 17 ∷ []) (sign (codes "::") ∷ []) (among w ns r) (rooted_at w ns r true) (dollar l).0
    (dollar l).1
    (reads_said l Group (sign (codes "::")) 17 meaning.Nothing [] [] (rooted_at w ns r true) (rooted_at w ns r true) (colons l).0 (colons l).1
    (reads_nothing l Group (rooted_at w ns r true))))
root_read l false a w ns r = reads_last l a Group (root_none l) (root l) [] [] (among w ns r) (among w ns r)
    (root_none_rule l) (reads_nothing l Group (among w ns r))

-- the first segment
abbrev pub begun : Bool → List ℕ → Path
begun b s = record { place = 0; absolute = b; path = s ∷ []; chain = [] }

pub first_read : (l : Language) (b : Bool) (s : List ℕ) (ss : List Symbol) (ps : List Printed) (w v : Walk) (ns : List DraftNode) (r : Reading)
    → Reads l Group ss ps (among w (ns ++ node (what.Named (begun b s)) 0 ∷ []) r) v → Reads l Group (Terminal 0 ∷ ss) (name l s ∷ ps) (rooted_at w ns r b) v
first_read l true s ss ps w v ns r x = reads_name l Group s ss ps (rooted_at w ns r true) v x
first_read l false s ss ps w v ns r x = reads_name l Group s ss ps (rooted_at w ns r false) v x

-- a qualified name
pub name_read : (l : Language) (b : Bool) (s : List ℕ) (ss : List (List ℕ)) (w : Walk) (ns : List DraftNode) (a : Action) (r : Reading)
    → Reads l a (Inner 12 ∷ []) (rooted b ++ headed l (s ∷ ss)) (among w ns r)
    (among w (ns ++ node (what.Named (record { place = 0; absolute = b; path = s ∷ ss; chain = [] })) 0 ∷ []) r)
name_read l b s ss w ns a r =
    let end = among w (ns ++ node (what.Named (record { place = 0; absolute = b; path = s ∷ ss; chain = [] })) 0 ∷ []) r in
    reads_last l a Group 21 12 (Inner (root l) ∷ Terminal 0 ∷ Inner (segments l) ∷ []) (rooted b ++ headed l (s ∷ ss)) (among w ns r) end (name_rule l)
    (reads_then l Group (Inner (root l) ∷ []) (Terminal 0 ∷ Inner (segments l) ∷ []) (rooted b) (headed l (s ∷ ss)) (among w ns r) (rooted_at w ns r b) end
    (root_read l b Group w ns r)
    (first_read l b s (Inner (segments l) ∷ []) (behind l (codes "::") ss) w end ns r (segments_read l ss Group w ns r (begun b s))))

-- and a chain
pub chain_read : (l : Language) (b : Bool) (s : List ℕ) (ss cs : List (List ℕ)) (w : Walk) (ns : List DraftNode) (a : Action) (r : Reading)
    → Reads l a (Inner 13 ∷ []) (rooted b ++ (headed l (s ∷ ss) ++ behind l (codes ".") cs)) (among w ns r)
    (among w (ns ++ node (what.Named (record { place = 0; absolute = b; path = s ∷ ss; chain = cs })) 0 ∷ []) r)
chain_read l b s ss cs w ns a r =
    let mid = among w (ns ++ node (what.Named (record { place = 0; absolute = b; path = s ∷ ss; chain = [] })) 0 ∷ []) r in
    let end = among w (ns ++ node (what.Named (record { place = 0; absolute = b; path = s ∷ ss; chain = cs })) 0 ∷ []) r in
    reads_last l a Group 22 13 (Inner 12 ∷ Inner (steps l) ∷ []) (rooted b ++ (headed l (s ∷ ss) ++ behind l (codes ".") cs)) (among w ns r) end (chain_rule l)
    (reads_as l Group (Inner 12 ∷ Inner (steps l) ∷ []) ((rooted b ++ headed l (s ∷ ss)) ++ behind l (codes ".") cs)
    (rooted b ++ (headed l (s ∷ ss) ++ behind l (codes ".") cs)) (among w ns r) end
    (append_assoc (rooted b) (headed l (s ∷ ss)) (behind l (codes ".") cs))
    (reads_then l Group (Inner 12 ∷ []) (Inner (steps l) ∷ []) (rooted b ++ headed l (s ∷ ss)) (behind l (codes ".") cs) (among w ns r) mid end
    (name_read l b s ss w ns Group r)
    (steps_read l cs Group w ns r (record { place = 0; absolute = b; path = s ∷ ss; chain = [] }))))
