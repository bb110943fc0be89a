use Rattle.fsrm_model.proofs.nodes.Keeps.{tree_of}
use Rattle.quota_usage.proofs.Deepest.{admitted, refused}
use Rattle.quota_usage.proofs.usage.Usage.admit.Goals as goal

pub refusal-requires-clause-tree : goal.refusal-requires-clause-tree
refusal-requires-clause-tree g c = tree_of c.args.tree.now.size c.args.tree.now.nodes c.requires.volume

pub returns-in-None-clause-admitted : goal.returns-in-None-clause-admitted
returns-in-None-clause-admitted g c =
    let nodes = c.args.tree.now.nodes in
    admitted nodes c.args.objects.now.quotas c.args.self.now c.args.change.now c.refusal.result (tree_of c.args.tree.now.size nodes c.requires.volume) c.requires.ascending c.requires.change.to c.refusal.ensures.nearest c.in-None.is

pub returns-in-Some-clause-refused : goal.returns-in-Some-clause-refused
returns-in-Some-clause-refused g c =
    let nodes = c.args.tree.now.nodes in
    refused nodes c.args.objects.now.quotas c.args.self.now c.args.change.now c.in-Some.exceeded c.refusal.result (tree_of c.args.tree.now.size nodes c.requires.volume) c.requires.ascending c.requires.change.to c.refusal.ensures.nearest c.in-Some.is
