-- What stands behind the word of a feature's kind is read back: names, specialisations, multiplicity, value, ends.
use Rattle.std.proofs.Common.{ℕ, List, [], ◌∷◌, ◌++◌, length, refl}
use Rattle.std.specs.Prelude.{Option, Some, None, Bool, true, false, codes}
use Rattle.element_store.specs.declared.outcome.Language.{Language}
use Rattle.element_store.specs.declared.outcome.Language.TheVariants.{Sysml}
use Rattle.element_store.specs.declared.kind.Kind.TheVariants as kind
use Rattle.element_store.specs.declared.kind.Visibility.TheVariants as visibility
use Rattle.ll_core.specs.declared.grammar.Symbol.{Symbol}
use Rattle.ll_core.specs.declared.grammar.Symbol.TheVariants.{Inner}
use Rattle.text_model.specs.declared.action.Action.{Action}
use Rattle.text_model.specs.declared.action.Action.TheVariants as action
use Rattle.text_model.specs.declared.action.Taking.TheVariants as taking
use Rattle.text_model.specs.declared.action.Meaning.TheVariants as meaning
use Rattle.text_model.specs.declared.draft.Draft.{Draft}
use Rattle.text_model.specs.declared.draft.Reading.{Reading}
use Rattle.text_model.specs.Drafts.{draft}
use Rattle.text_model.specs.Walk.{Walk, fresh}
use Rattle.print_model.specs.Printed.{Printed, sign, word, name}
use Rattle.print_model.specs.Trees.{behind, headed as headed_tokens, rooted}
use Rattle.print_model.proofs.Readings.{Reads, reads_said}
use Rattle.print_model.proofs.Names.{reads_name, segments_read, steps_read, begun as begun_path}
use Rattle.print_laws.specs.Items.{Chained, Extent, Free, Upto, Between, Run, Value, Header, Ending, Ends, Alone, Pair, Several}
use Rattle.print_laws.specs.ItemTokens.{chained, extent, specialised, header, feature_tail, end_name, ending, more_ends, ends}
use Rattle.print_laws.specs.ItemWalk.{Grown, changed_self, chain_path, all_mentions, extent_nodes, upper_node, bound_node, headed, valued as with_value, begun, with_end, with_more_ends, with_ends}
use Rattle.print_laws.specs.Fitting.{IsExtent, IsValue, AreEndings, ends_listed}
use Rattle.print_laws.proofs.Symbols as symbol
use Rattle.print_laws.proofs.Productions as rule
use Rattle.print_laws.proofs.SysmlProductions as sysml
use Rattle.print_laws.proofs.Meanings as means
use Rattle.print_laws.proofs.Steps.{inside, done, then, by_rule, grouped, to_end, silent, changed_inside, opened, element}
use Rattle.print_laws.proofs.Heads.{named_reading, ident_read, path_node, chained_read, noded, with_mentions}
use Rattle.print_laws.proofs.Runs.{runs_read}
use Rattle.print_laws.proofs.Spans.{extent_read, with_extent, unvalued, value_read, upto_read, between_read}

-- a feature of which nothing stands behind its word yet
abbrev pub untold : Draft → Draft
untold d = with_extent [] false false (unvalued d)

-- specialisations and multiplicity
pub specialised_read : (l : Language) (a : Action) (es : List Draft) (g : Grown) (r : Reading) (rs : List Run) (h : Header) → IsExtent h.extent
    → Reads l a (Inner (symbol.spec_part l) ∷ []) (specialised l rs h) (inside es (changed_self (with_extent [] false false) g) r)
    (inside es (changed_self (λ d. with_extent (extent_nodes h.extent) h.ordered h.nonunique (with_mentions (all_mentions rs) d)) g) r)
specialised_read l a es g r rs h k =
    grouped (rule.spec_part l)
    (then (runs_read l action.Group es (changed_self (with_extent [] false false) g) r rs)
    (extent_read l action.Group es (changed_self (with_mentions (all_mentions rs)) g) r h.extent h.ordered h.nonunique k))

-- names, and what stands behind them
pub header_read : (l : Language) (a : Action) (es : List Draft) (g : Grown) (h : Header) → IsExtent h.extent
    → Reads l a (Inner (symbol.use_head l) ∷ []) (header l h) (inside es (changed_self (with_extent [] false false) g) fresh)
    (inside es (changed_self (headed h) g) (named_reading h.names))
header_read l a es g h k =
    grouped (rule.use_head l)
    (then (ident_read l action.Group es (changed_self (with_extent [] false false) g) h.names)
    (specialised_read l action.Group es g (named_reading h.names) h.runs h k))

-- with all of it
abbrev pub told : Header → Value → Draft → Draft
told h v d = with_value v (headed h (unvalued d))

-- a header, a value, and what follows
pub told_read : (l : Language) (a : Action) (es : List Draft) (g : Grown) (h : Header) (v : Value) (ss : List Symbol) (ps : List Printed) (w : Walk)
    → IsExtent h.extent → IsValue v → Reads l a ss ps (inside es (changed_self (told h v) g) (named_reading h.names)) w
    → Reads l a (Inner (symbol.use_head l) ∷ Inner (symbol.value l) ∷ ss) (feature_tail l h v ps) (inside es (changed_self untold g) fresh) w
told_read l a es g h v ss ps w k j q =
    then (header_read l a es (changed_self unvalued g) h k)
    (then (value_read l a es (changed_self (headed h) g) (named_reading h.names) v j) q)

-- a tail with a plain body
pub use_tail_read : (l : Language) (a : Action) (es : List Draft) (g : Grown) (h : Header) (v : Value) (ps : List Printed) (w : Walk)
    → IsExtent h.extent → IsValue v
    → Reads l action.Group (Inner (symbol.body l) ∷ []) ps (inside es (changed_self (told h v) g) (named_reading h.names)) w
    → Reads l a (Inner (symbol.use_tail l) ∷ []) (feature_tail l h v ps) (inside es (changed_self untold g) fresh) w
use_tail_read l a es g h v ps w k j q = grouped (rule.use_tail l) (told_read l action.Group es g h v _ ps w k j q)

-- Ends.

-- the bounds of an end
end_extent_read : (a : Action) (es : List Draft) (g : Grown) (x : Extent) → IsExtent x
    → Reads Sysml a (Inner symbol.maybe_bracket_bounds_bracket ∷ []) (extent Sysml x) (inside es (changed_self (λ d. record d { bounds = [] }) g) fresh)
    (inside es (changed_self (λ d. record d { bounds = extent_nodes x }) g) fresh)
end_extent_read a es g Free k = grouped sysml.maybe_bracket_bounds_bracket_1 done
end_extent_read a es g (Upto u) k =
    to_end (changed_inside (λ d. record d { bounds = upper_node u ∷ [] }) es (changed_self (λ d. record d { bounds = [] }) g) fresh)
    (by_rule sysml.maybe_bracket_bounds_bracket_0 (silent (sign (codes "[")) (means.sign_open_bracket Sysml)
    (then (upto_read Sysml (action.Take taking.Bounds) es (changed_self (λ d. record d { bounds = [] }) g) u k)
    (silent (sign (codes "]")) (means.sign_close_bracket Sysml) done))))
end_extent_read a es g (Between b u) k =
    to_end (changed_inside (λ d. record d { bounds = bound_node b ∷ upper_node u ∷ [] }) es (changed_self (λ d. record d { bounds = [] }) g) fresh)
    (by_rule sysml.maybe_bracket_bounds_bracket_0 (silent (sign (codes "[")) (means.sign_open_bracket Sysml)
    (then (between_read Sysml (action.Take taking.Bounds) es (changed_self (λ d. record d { bounds = [] }) g) b u k.0 k.1)
    (silent (sign (codes "]")) (means.sign_close_bracket Sysml) done))))

-- what an end refers to was read, and its name
abbrev end_reading : Ending → Reading
end_reading e = record fresh { name = e.name; nodes = path_node (chain_path e.chain) ∷ [] }

-- a name that no `$` begins, and the chain behind it
plain_end : (a : Action) (es : List Draft) (g : Grown) (s : List ℕ) (ss cs : List (List ℕ))
    → Reads Sysml a (Inner symbol.end_name ∷ []) (name Sysml s ∷ (behind Sysml (codes "::") ss ++ behind Sysml (codes ".") cs)) (inside es g fresh)
    (inside es g (noded (path_node (record { place = 0; absolute = false; path = s ∷ ss; chain = cs }) ∷ [])))
plain_end a es g s ss cs =
    grouped sysml.end_name_0 (reads_name Sysml action.Group s _ _ _ _
    (grouped sysml.end_rest_1
    (then (segments_read Sysml ss action.Group (inside es g fresh) [] fresh (begun_path false s))
    (steps_read Sysml cs action.Group (inside es g fresh) [] fresh (record { place = 0; absolute = false; path = s ∷ ss; chain = [] })))))

-- and one that begins so
rooted_end : (a : Action) (es : List Draft) (g : Grown) (s : List ℕ) (ss cs : List (List ℕ))
    → Reads Sysml a (Inner symbol.end_name ∷ [])
    (sign (codes "$") ∷ sign (codes "::") ∷ name Sysml s ∷ (behind Sysml (codes "::") ss ++ behind Sysml (codes ".") cs)) (inside es g fresh)
    (inside es g (noded (path_node (record { place = 0; absolute = true; path = s ∷ ss; chain = cs }) ∷ [])))
rooted_end a es g s ss cs =
    grouped sysml.end_name_1 (reads_said Sysml action.Group (sign (codes "$")) _ meaning.Absolute _ _ _ _ refl (means.sign_dollar Sysml)
    (silent (sign (codes "::")) (means.sign_colon_colon Sysml) (reads_name Sysml action.Group s _ _ _ _
    (then (segments_read Sysml ss action.Group (inside es g fresh) [] fresh (begun_path true s))
    (steps_read Sysml cs action.Group (inside es g fresh) [] fresh (record { place = 0; absolute = true; path = s ∷ ss; chain = [] }))))))

-- a chain, whichever way it begins
end_chain_read : (a : Action) (es : List Draft) (g : Grown) (b : Bool) (s : List ℕ) (ss cs : List (List ℕ))
    → Reads Sysml a (Inner symbol.end_name ∷ []) ((rooted b ++ headed_tokens Sysml (s ∷ ss)) ++ behind Sysml (codes ".") cs) (inside es g fresh)
    (inside es g (noded (path_node (record { place = 0; absolute = b; path = s ∷ ss; chain = cs }) ∷ [])))
end_chain_read a es g false s ss cs = plain_end a es g s ss cs
end_chain_read a es g true s ss cs = rooted_end a es g s ss cs

-- with its name before the sign, or without
end_name_read : (a : Action) (es : List Draft) (g : Grown) (n : Option (List ℕ)) (c : Chained)
    → Reads Sysml a (Inner symbol.end_name ∷ []) (end_name Sysml n ++ chained Sysml c) (inside es g fresh)
    (inside es g (record fresh { name = n; nodes = path_node (chain_path c) ∷ [] }))
end_name_read a es g None c = end_chain_read a es g c.name.absolute c.name.first c.name.more c.steps
end_name_read a es g (Some s) c =
    grouped sysml.end_name_0 (reads_name Sysml action.Group s _ _ _ _
    (by_rule sysml.end_rest_0
    (then (grouped (rule.one_colon_colon_greater_references_0 Sysml) (silent (sign (codes "::>")) (means.sign_colon_colon_greater Sysml) done))
    (chained_read Sysml action.NamedEnd (inside es g fresh) [] (record fresh { name = Some s }) c))))

-- an end of a connector
pub ending_read : (a : Action) (es : List Draft) (g : Grown) (r : Reading) (e : Ending) → IsExtent e.extent
    → Reads Sysml a (Inner symbol.end ∷ []) (ending Sysml e) (inside es g r) (inside es (with_end (length es) e g) r)
ending_read a es g r e k =
    let ds = opened es g in
    let b = begun (length es) visibility.Public (draft kind.ConnectorEnd (Some (length es))) g in
    element kind.ConnectorEnd visibility.Public es g r (changed_self (λ d. record d { bounds = extent_nodes e.extent }) b) (end_reading e) sysml.end
    (then (end_extent_read (action.Element kind.ConnectorEnd) ds b e.extent k)
    (end_name_read (action.Element kind.ConnectorEnd) ds (changed_self (λ d. record d { bounds = extent_nodes e.extent }) b) e.name e.chain))

-- further ends
more_ends_read : (a : Action) (es : List Draft) (g : Grown) (r : Reading) (xs : List Ending) → AreEndings xs
    → Reads Sysml a (Inner symbol.many_comma_end ∷ []) (more_ends Sysml xs) (inside es g r) (inside es (with_more_ends (length es) xs g) r)
more_ends_read a es g r [] h = grouped sysml.many_comma_end_1 done
more_ends_read a es g r (e ∷ xs) h =
    grouped sysml.many_comma_end_0 (silent (sign (codes ",")) (means.sign_comma Sysml)
    (then (ending_read action.Group es g r e h.0) (more_ends_read action.Group es (with_end (length es) e g) r xs h.1)))

-- the ends of a connector, if it has any
pub ends_read : (a : Action) (es : List Draft) (g : Grown) (r : Reading) (e : Ends) → AreEndings (ends_listed e)
    → Reads Sysml a (Inner symbol.maybe_connect_ends ∷ []) (ends Sysml e) (inside es g r) (inside es (with_ends (length es) e g) r)
ends_read a es g r Alone h = grouped sysml.maybe_connect_ends_1 done
ends_read a es g r (Pair x y) h =
    grouped sysml.maybe_connect_ends_0 (silent (word Sysml (codes "connect")) means.word_connect
    (grouped sysml.ends_0
    (then (ending_read action.Group es g r x h.0)
    (silent (word Sysml (codes "to")) means.word_to (ending_read action.Group es (with_end (length es) x g) r y h.1.0)))))
ends_read a es g r (Several x y z xs) h =
    grouped sysml.maybe_connect_ends_0 (silent (word Sysml (codes "connect")) means.word_connect
    (grouped sysml.ends_1 (silent (sign (codes "(")) (means.sign_open_round Sysml)
    (then (ending_read action.Group es g r x h.0)
    (silent (sign (codes ",")) (means.sign_comma Sysml)
    (then (ending_read action.Group es (with_end (length es) x g) r y h.1.0)
    (then (more_ends_read action.Group es (with_end (length es) y (with_end (length es) x g)) r (z ∷ xs) h.1.1)
    (silent (sign (codes ")")) (means.sign_close_round Sysml) done))))))))
