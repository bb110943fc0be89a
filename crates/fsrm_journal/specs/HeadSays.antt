-- What a head says.
use Rattle.std.specs.Prelude.{ℕ, List}
use Rattle.fsrm_journal.specs.Heads.{generation_at, version_at, nodes_at, names_at, cluster_at, image_at}
use Rattle.fsrm_journal.specs.declared.heads.Head.{Head}

-- what a head of 48 bytes says
abbrev pub head_says : List ℕ → Head
head_says head = record {
  generation = generation_at head;
  version = version_at head;
  size = record { nodes = nodes_at head; names = names_at head; cluster = cluster_at head };
  image = image_at head;
}
