-- Worked examples of recovery, as equations: another script is run over what the entries of a script's lines recover
-- from the rows of a new store.
use Rattle.std.specs.Prelude.{◌≡◌, ℕ, List, codes}
use Rattle.fsrm_model.specs.declared.row.Rows.{Rows}
use Rattle.fsrm_model.specs.nodes.Fresh.{default_capacity, new_rows}
use Rattle.fsrm_model.specs.store.Replays.{recovered, entries_from}
use Rattle.fsrm_model.specs.lines.Script.{lines, text}

abbrev pub recovered_after : List ℕ → Rows
recovered_after script = recovered default_capacity new_rows (entries_from default_capacity new_rows 1 (lines script))

-- a scan that wasn't finished is lost: its quota is incomplete, and can be scanned anew
abbrev pub unfinished_scan : Type 0
unfinished_scan =
    text default_capacity (recovered_after (codes "100 mkdir D:\\h 1\n100 create D:\\h\\a 5000 1\n100 mkdir D:\\h\\s 1\n100 create D:\\h\\s\\b 1 1\n100 dirquota quota add /Path:D:\\h /Limit:4kb\n101 create D:\\h\\c 1 1\n102 step 1\n")) (codes "300 dirquota quota list\n200 dirquota quota scan /Path:D:\\h\n201 step 9\n300 dirquota quota list\n")
    ≡ codes "1 ok\n  4096 hard incomplete - 0 1970-01-01 00:01:40 D:\\h\n2 ok\n3 ok visited 2 of D:\\h done 16384\n4 ok\n  4096 hard complete 16384 16384 1970-01-01 00:03:21 D:\\h\n"

-- a quota whose scan was finished counts
abbrev pub finished_scan : Type 0
finished_scan =
    text default_capacity (recovered_after (codes "100 mkdir D:\\h 1\n100 create D:\\h\\a 5000 1\n100 dirquota quota add /Path:D:\\h /Limit:4kb\n101 step 9\n102 dirquota quota scan /Path:D:\\h\n103 step 9\n")) (codes "300 dirquota quota list\n")
    ≡ codes "1 ok\n  4096 hard complete 8192 8192 1970-01-01 00:01:41 D:\\h\n"

-- an action that ran as a scan was finished ran at the step's moment, and doesn't run again, since its threshold is reached
abbrev pub finished_action : Type 0
finished_action =
    text default_capacity (recovered_after (codes "100 mkdir D:\\h 1\n100 create D:\\h\\a 5000 1\n100 dirquota quota add /Path:D:\\h /Limit:10kb /Add-Notification:75,e,0,near\n102 create D:\\b 1 1\n103 step 9\n104 create D:\\c 1 1\n")) (codes "300 dirquota admin log\n300 create D:\\h\\d 0 1\n")
    ≡ codes "1 ok\n  1970-01-01 00:01:43 quota 1 75 e\n2 ok\n"

-- a write that a quota refuses is kept if an action ran for it, with the run and its moment; the same write again isn't
abbrev pub refused_write : Type 0
refused_write =
    text default_capacity (recovered_after (codes "100 dirquota quota add /Path:D:\\ /Limit:100kb /Add-Notification:95,e,60,near\n101 create D:\\a 106496 1\n102 create D:\\a 106496 1\n")) (codes "300 dirquota admin log\n100 mkdir D:\\b 1\n101 mkdir D:\\b 1\n")
    ≡ codes "1 ok\n  1970-01-01 00:01:41 quota 0 95 e\n2 refused ClockBack\n3 ok\n"
