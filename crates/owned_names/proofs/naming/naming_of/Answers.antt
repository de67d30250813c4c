use Rattle.std.proofs.Common.{◌-◌, ◌+◌, ap, subst, [], ◌∷◌, arith}
use Rattle.link_model.specs.Keys.{is_in}
use Rattle.link_model.specs.Names.{names}
use Rattle.link_model.specs.Readers.{most}
use Rattle.link_walk.specs.Calls.{read_by}
use Rattle.owned_names.specs.Walked.{Names, Leaves, LeadsOn, rest_of}
use Rattle.owned_names.proofs.WayLaws.{leaves_begin, way_on, no_steps}
use Rattle.owned_names.proofs.naming.naming_of.Goals as goal

pub loop-step-init : goal.loop-step-init
loop-step-init c = record {
  stands = c.requires.stands;
  leaves = ([], (λ t. ap (is_in t) c.new-walked.ensures), leaves_begin c.args.notes.now (names c.args.element (read_by c.args.view.now)));
}

pub loop-step-preserved : goal.loop-step-preserved
loop-step-preserved c =
    let files = c.args.view.now.models.now in
    let table = c.args.view.now.table.now in
    let whole = names c.args.element (read_by c.args.view.now) in
    let walked = c.loop-step.walked in
    let at = c.loop-step.at in
    let n = most - (c.loop-step._step + 1) in
    let went = way_on files table at walked c.loop-step.invariant.leaves.0 c.args.notes.now c.loop-step.notes c.stride_from.new.notes whole
    (most - c.loop-step._step) n c.in_ok-naming.field-0
    c.loop-step.invariant.leaves.1 (omega (arith, c.loop-step-test.true)) c.loop-step.invariant.leaves.2 c.in_ok-naming.ensures.leaves in
    record {
      stands = subst (LeadsOn files) c.in-Goes.is c.in_ok-naming.ensures.stands;
      leaves = (
        at ∷ walked,
        c.in_ok-pass-in-Goes.ensures,
        subst (λ s. Leaves c.args.notes.now c.stride_from.new.notes
            (rest_of files table n walked at s) whole) c.in-Goes.is went,
      );
    }

pub returns-in-Ends-clause-names : goal.returns-in-Ends-clause-names
returns-in-Ends-clause-names c =
    let files = c.args.view.now.models.now in
    let table = c.args.view.now.table.now in
    let whole = names c.args.element (read_by c.args.view.now) in
    let walked = c.loop-step.walked in
    let at = c.loop-step.at in
    let n = most - (c.loop-step._step + 1) in
    let went = way_on files table at walked c.loop-step.invariant.leaves.0 c.args.notes.now c.loop-step.notes c.stride_from.new.notes whole
    (most - c.loop-step._step) n c.in_ok-naming.field-0
    c.loop-step.invariant.leaves.1 (omega (arith, c.loop-step-test.true)) c.loop-step.invariant.leaves.2 c.in_ok-naming.ensures.leaves in
    subst (λ s. Leaves c.args.notes.now c.stride_from.new.notes (rest_of files table n walked at s) whole) c.in-Ends.is went

pub returns-in-Ends-2-clause-names : goal.returns-in-Ends-2-clause-names
returns-in-Ends-2-clause-names c =
    let files = c.args.view.now.models.now in
    let table = c.args.view.now.table.now in
    let whole = names c.args.element (read_by c.args.view.now) in
    let walked = c.loop-step.walked in
    let at = c.loop-step.at in
    let went = way_on files table at walked c.loop-step.invariant.leaves.0 c.args.notes.now c.loop-step.notes c.stride_from-2.new.notes whole
    (most - c.loop-step._step) (most - (c.loop-step._step + 1)) c.in_ok-naming-2.field-0
    c.loop-step.invariant.leaves.1 (omega
    (arith, c.loop-step-test.false, c.loop-step.auto._step-end)) c.loop-step.invariant.leaves.2 c.in_ok-naming-2.ensures.leaves in
    subst (λ s. Leaves c.args.notes.now c.stride_from-2.new.notes (rest_of files table (most - (c.loop-step._step + 1)) walked at s) whole) c.in-Ends-2.is went

pub returns-clause-names : goal.returns-clause-names
returns-clause-names c =
    let files = c.args.view.now.models.now in
    let table = c.args.view.now.table.now in
    let w = read_by c.args.view.now in
    let whole = names c.args.element w in
    let walked = c.loop-step.walked in
    let at = c.loop-step.at in
    let next = c.in-Goes-2.field-0 in
    let went = way_on files table at walked c.loop-step.invariant.leaves.0 c.args.notes.now c.loop-step.notes c.stride_from-2.new.notes whole
    (most - c.loop-step._step) 0 c.in_ok-naming-2.field-0
    c.loop-step.invariant.leaves.1 (omega
    (arith, c.loop-step-test.false, c.loop-step.auto._step-end)) c.loop-step.invariant.leaves.2 c.in_ok-naming-2.ensures.leaves in
    let goes = subst (λ s. Leaves c.args.notes.now c.stride_from-2.new.notes (rest_of files table 0 walked at s) whole) c.in-Goes-2.is went in
    subst (λ (r : Names). Leaves c.args.notes.now c.stride_from-2.new.notes r whole) (no_steps w (at ∷ walked) next) goes
