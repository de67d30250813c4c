use Rattle.std.proofs.Common.{◌≡◌, ◌∙◌, arith}
use Rattle.std.specs.Prelude.{not}
use Rattle.element_store.specs.declared.models.StoredFile.{StoredFile}
use Rattle.link_walk.specs.Calls.{reading}
use Rattle.implied_rules.proofs.ImpliedLaws.{fewer, listed_all, listed_more}
use Rattle.implied_rules.proofs.implying.implied.Goals as goal

pub at_rank-requires : goal.at_rank-requires
at_rank-requires c =
    let all = fewer (λ (s : StoredFile). not s.library) c.args.models.now in
    omega (arith, all, c.loop-rank-test.true, c.project_files-rank-end.ensures)

pub loop-rank-preserved : goal.loop-rank-preserved
loop-rank-preserved c =
    listed_more c.args.models.now (reading c.args.models.now c.args.table.now) c.loop-rank.rank c.at_rank.result c.loop-rank.rows
    c.add_file.new.rows c.loop-rank.invariant c.at_rank.ensures.ranked c.in_ok-add_file.ensures.said c.in_ok-add_file.ensures.stand

pub returns : goal.returns
returns c =
    let all : c.loop-rank.rank ≡ c.project_files-rank-end.result = omega (arith, c.loop-rank-test.false, c.loop-rank.auto.rank-end) in
    record {
      rows = listed_all c.args.models.now (reading c.args.models.now c.args.table.now) c.loop-rank.rank c.loop-rank.rows c.files.ensures.kept
          c.loop-rank.invariant (all ∙ c.project_files-rank-end.ensures);
      live = c.loop-rank.invariant.stand;
    }
