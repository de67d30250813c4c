use Rattle.std.proofs.Common.{◌∙◌, subst, sym}
use Rattle.std.proofs.lemmas.List.{take_all}
use Rattle.linker_base.specs.Members.{IsMember}
use Rattle.demand_core.proofs.ReaderLaws.{noted_kept, noted_more}
use Rattle.demand_core.proofs.RoundsLaws.{exact_test}
use Rattle.demand_core.proofs.readers.Readers.note_all.Goals as goal

pub loop-thing-init : goal.loop-thing-init
loop-thing-init g c = record { noted = λ t m. absurd m; kept = λ t k h. h }

pub loop-thing-preserved : goal.loop-thing-preserved
loop-thing-preserved g c =
    let exact = exact_test g.met.K.Same.exact g.met.K.Eq.laws in
    let same_exact = exact_test g.met.T.Same.exact g.met.T.Eq.laws in
    record {
      noted = noted_more g.K.PartialEq.eq exact g.T.PartialEq.eq same_exact c.loop-thing.self c.note.new.self c.thing-item.result c.args.key
          c.loop-thing.thing-index c.args.things.now c.loop-thing-test.true c.thing-item.is c.in_ok-note.ensures.ok c.loop-thing.invariant.noted;
      kept = λ t k h. noted_kept g.K.PartialEq.eq exact g.T.PartialEq.eq same_exact c.loop-thing.self c.note.new.self c.thing-item.result c.args.key
          c.in_ok-note.ensures.ok t k (c.loop-thing.invariant.kept t k h);
    }

pub returns-in_err-note-clause-kept : goal.returns-in_err-note-clause-kept
returns-in_err-note-clause-kept g c t k h = c.in_err-note.ensures.err t k ∙ c.loop-thing.invariant.kept t k h

pub returns-clause-noted : goal.returns-clause-noted
returns-clause-noted g c t m =
    c.loop-thing.invariant.noted t (subst (λ xs. IsMember xs t) (sym (take_all c.loop-thing.thing-index c.args.things.now c.loop-thing-test.false)) m)
