use Rattle.std.proofs.Common.{[], arith, sym, subst, append-nil}
use Rattle.linker_base.specs.Members.{IsMember}
use Rattle.linker_base.proofs.Lists.{rest_is}
use Rattle.script_commands.proofs.Windows.{endless_front, none_free, feed_found, feed_late, feed_soon}
use Rattle.script_commands.proofs.reader.line_end.Goals as goal

pub returns-then-clear-place-gt-LINE_BYTES : goal.returns-then-clear-place-gt-LINE_BYTES
returns-then-clear-place-gt-LINE_BYTES c = feed_late _ c.args.pending.now
    (feed_found c.args.clear c.in-Some.place c.args.pending.now _ c.requires.free (rest_is c.args.clear c.args.pending.now) c.in-Some.ensures)
    c.if-clear-place-gt-LINE_BYTES.true

pub returns-else-clear-place-gt-LINE_BYTES : goal.returns-else-clear-place-gt-LINE_BYTES
returns-else-clear-place-gt-LINE_BYTES c = feed_soon _ c.args.pending.now
    (feed_found c.args.clear c.in-Some.place c.args.pending.now _ c.requires.free (rest_is c.args.clear c.args.pending.now) c.in-Some.ensures)
    (omega (arith, c.if-clear-place-gt-LINE_BYTES.false))

pub returns-then-pending-gt-LINE_BYTES : goal.returns-then-pending-gt-LINE_BYTES
returns-then-pending-gt-LINE_BYTES c = endless_front c.args.pending.now [] c.args.pending.now
    (none_free c.args.clear c.args.pending.now c.requires.free
    (subst (λ bs. IsMember bs 10 → ⊥) (rest_is c.args.clear c.args.pending.now) c.in-None.ensures))
    c.if-pending-gt-LINE_BYTES.true (sym (append-nil c.args.pending.now))

pub returns-else-pending-gt-LINE_BYTES : goal.returns-else-pending-gt-LINE_BYTES
returns-else-pending-gt-LINE_BYTES c = (
  none_free c.args.clear c.args.pending.now c.requires.free
      (subst (λ bs. IsMember bs 10 → ⊥) (rest_is c.args.clear c.args.pending.now) c.in-None.ensures),
  omega (arith, c.if-pending-gt-LINE_BYTES.false),
)
