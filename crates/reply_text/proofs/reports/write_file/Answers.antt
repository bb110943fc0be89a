use Rattle.std.proofs.Common.{inl, inr}
use Rattle.line_parts.proofs.Sent.{told}
use Rattle.node_table.specs.Views.{seen}
use Rattle.reply_text.proofs.ReportLines.{double_shown, large_shown, least_shown, most_shown, plain_shown}
use Rattle.reply_text.proofs.reports.write_file.Goals as goal

pub returns-in-LargeFiles : goal.returns-in-LargeFiles
returns-in-LargeFiles g c =
    record { writes = told (large_shown c.args.alloc (seen c.args.node.now) c.args.path.now c.args.kind c.in-LargeFiles.is) c.write_large.ensures.writes }

pub returns-in-DuplicateFiles : goal.returns-in-DuplicateFiles
returns-in-DuplicateFiles g c =
    record { writes = told (double_shown c.args.alloc (seen c.args.node.now) c.args.path.now c.moment_text-in-DuplicateFiles.result c.args.kind c.in-DuplicateFiles.is c.moment_text-in-DuplicateFiles.ensures) c.write_double.ensures.writes }

pub returns-in-LeastRecentlyAccessed : goal.returns-in-LeastRecentlyAccessed
returns-in-LeastRecentlyAccessed g c =
    let node = seen c.args.node.now in
    let path = c.args.path.now in
    record {
      writes = elim c.in-LeastRecentlyAccessed.is [
        | inl is ↦ told (least_shown c.args.alloc node path c.moment_text.result c.args.kind is c.moment_text.ensures) c.write_accessed.ensures.writes
        | inr is ↦ told (most_shown c.args.alloc node path c.moment_text.result c.args.kind is c.moment_text.ensures) c.write_accessed.ensures.writes
      ];
    }

pub returns-in-FilesByType : goal.returns-in-FilesByType
returns-in-FilesByType g c =
    record { writes = told (plain_shown c.args.alloc (seen c.args.node.now) c.args.path.now c.args.kind c.in-FilesByType.is) c.write_word.ensures.writes }
