use Rattle.std.proofs.Common.{◌≡◌, [], ◌∷◌, sym}
use Rattle.std.proofs.lemmas.List.{append-nil}
use Rattle.draft_walk.proofs.Laws.{mention_more}
use Rattle.draft_walk.proofs.nodes.mention_all.Goals as goal

pub loop-node-preserved-in-Continue-1 : goal.loop-node-preserved-in-Continue-1
loop-node-preserved-in-Continue-1 c =
    mention_more c.args.role c.args.into.now c.loop-node.into c.push.new.self (c.in-Some-name_in.path ∷ []) c.loop-node.yielded c.in-Some.node
    c.loop-node.invariant c.in-Some-name_in.ensures c.in_ok-push.ensures

pub loop-node-preserved : goal.loop-node-preserved
loop-node-preserved c =
    mention_more c.args.role c.args.into.now c.loop-node.into c.loop-node.into [] c.loop-node.yielded c.in-Some.node
    c.loop-node.invariant c.in_default.ensures (sym (append-nil c.loop-node.into))
