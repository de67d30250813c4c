use Rattle.std.proofs.Common.{◌≡◌, ◌+◌, ◌<◌, ◌∙◌, length, sym, ap, subst, arith}
use Rattle.std.specs.Prelude.{All, not}
use Rattle.element_store.specs.Numbers.{those_where}
use Rattle.element_store.specs.Stored.{AreFiles, HasRank}
use Rattle.project_book.specs.Named.{IsOwn}
use Rattle.project_answers.proofs.OrderLaws.{HaveRanks, all_more, order_ranked, own_count, own_few, own_ranked, ranks_more, stored_long}
use Rattle.project_answers.proofs.order.in_order.Goals as goal

pub at_rank-requires : goal.at_rank-requires
at_rank-requires c =
    let files = c.args.files.now in
    let long = ap length c.models-models.ensures in
    let count = c.project_files-rank-end.ensures ∙ ap (λ all. length (those_where (λ x. not x.library) all)) c.models-models.ensures in
    omega (arith, c.loop-rank-test.true, count, own_few files, long)

pub loop-rank-preserved : goal.loop-rank-preserved
loop-rank-preserved c =
    let files = c.args.files.now in
    let long = ap length c.models-models.ensures ∙ stored_long 0 files in
    let count : c.project_files-rank-end.result ≡ own_count files =
    c.project_files-rank-end.ensures ∙ ap (λ all. length (those_where (λ x. not x.library) all)) c.models-models.ensures in
    let within = c.at_rank.ensures.within in
    let below = c.loop-rank-test.true in
    let has = subst (λ s. HasRank s c.loop-rank.rank c.at_rank.result.0) c.models-models.ensures c.at_rank.ensures.ranked in
    record {
      ranks = subst (HaveRanks files (c.loop-rank.rank + 1)) (sym c.in_ok-push.ensures.items)
          (ranks_more files c.loop-rank.rank c.loop-rank.order.items c.at_rank.result c.loop-rank.invariant.ranks has);
      stand = subst (All (λ n. n.0 < length files)) (sym c.in_ok-push.ensures.items)
          (all_more (λ n. n.0 < length files) c.loop-rank.order.items c.at_rank.result c.loop-rank.invariant.stand (omega (arith, within, long)));
      own = subst (All (IsOwn files)) (sym c.in_ok-push.ensures.items)
          (all_more (IsOwn files) c.loop-rank.order.items c.at_rank.result c.loop-rank.invariant.own
          (own_ranked files c.loop-rank.rank c.at_rank.result has (omega (arith, below, count))));
      few = omega (arith, below, count);
    }

pub returns-clause-ranked : goal.returns-clause-ranked
returns-clause-ranked c =
    let files = c.args.files.now in
    let count : c.project_files-rank-end.result ≡ own_count files =
    c.project_files-rank-end.ensures ∙ ap (λ all. length (those_where (λ x. not x.library) all)) c.models-models.ensures in
    let few = c.loop-rank.invariant.few in
    let ended = c.loop-rank-test.false in
    let all : c.loop-rank.rank ≡ own_count files = omega (arith, few, ended, count) in
    order_ranked files c.requires (subst AreFiles c.models-models.ensures c.files.ensures.kept) c.loop-rank.order.items
    (subst (λ r. HaveRanks files r c.loop-rank.order.items) all c.loop-rank.invariant.ranks)
