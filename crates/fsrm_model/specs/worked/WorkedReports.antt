-- Worked examples of reports and report jobs, as equations.
use Rattle.std.specs.Prelude.{◌≡◌, ℕ, List, [], ◌∷◌, ◌++◌, codes, replicate, Option, Some, None}
use Rattle.fsrm_model.specs.commands.ReportWork.{no_filter}
use Rattle.fsrm_model.specs.declared.row.JobRow.{JobRow}
use Rattle.fsrm_model.specs.declared.row.ReportKind.TheVariants.{FilesByType}
use Rattle.fsrm_model.specs.nodes.Fresh.{default_capacity, new_rows}
use Rattle.fsrm_model.specs.lines.Script.{text, fold_script}

-- a report of types, one of owners, one of large files and one of duplicates
abbrev pub four_reports : Type 0
four_reports =
    text default_capacity new_rows (codes "100 create D:\\a.txt 10 1\n100 create D:\\b.TXT 5000 2\n100 create D:\\c 4096 1\n100 mkdir D:\\s 1\n100 create D:\\s\\A.txt 10 3\n100 storrept reports generate /Scope:D:\\ /Report:FilesByType\n100 storrept reports generate /Scope:D:\\ /Report:FilesByOwner\n100 storrept reports generate /Scope:D:\\ /Report:LargeFiles /MinSize:10 /Max:3\n100 storrept reports generate /Scope:D:\\ /Report:DuplicateFiles\n")
    ≡ codes "1 ok\n2 ok\n3 ok\n4 ok\n5 ok\n6 ok\n  txt 3 5020 16384\n  (none) 1 4096 4096\n7 ok\n  1 2 4106 8192\n  2 1 5000 8192\n  3 1 10 4096\n8 ok\n  5000 8192 2 D:\\b.TXT\n  4096 4096 1 D:\\c\n  10 4096 1 D:\\a.txt\n9 ok\n  10 1970-01-01 00:01:40 D:\\a.txt\n  10 1970-01-01 00:01:40 D:\\s\\A.txt\n"

-- a report of the audit log shows the name that a screen blocked
abbrev pub audit_report : Type 0
audit_report =
    text default_capacity new_rows (codes "100 filescrn filegroup add /Filegroup:Audio /Members:*.mp3 /NonMembers:a*.mp3\n100 filescrn screen add /Path:D:\\ /Add-Filegroup:audio\n100 create D:\\B.MP3 1 1\n100 create D:\\a.mp3 1 1\n100 create D:\\mp3 1 1\n100 storrept reports generate /Report:FileScreenAudit /Scope:D:\\\n")
    ≡ codes "1 ok\n2 ok\n3 refused ScreenBlocked D:\\\n4 ok\n5 ok\n6 ok\n  1970-01-01 00:01:40 active 1 0 0 B.MP3\n"

-- a job is made, listed, run and deleted, in any spelling of its name. The line of an empty schedule ends with a space
abbrev pub job_life : Type 0
job_life =
    text default_capacity new_rows (codes "100 mkdir D:\\s 1\n100 create D:\\s\\f 5242880 7\n100 storrept reports add /Task:Big /Report:largefiles /Scope:D:\\s \"/Schedule:weekly 01:00 sun\"\n100 storrept reports add /Task:\"All else\" /Report:DUPLICATEFILES /Scope:D:\\ /Owner:7 /Pattern:*.x /MinSize:1 /Days:2 /MinUse:3 /Max:4\n100 storrept reports list\n200 storrept reports run /Task:BIG\n200 storrept reports run \"/Task:all ELSE\"\n200 storrept reports delete /Task:big\n200 storrept reports list\n")
    ≡ codes "1 ok\n2 ok\n3 ok\n4 ok\n5 ok\n  LargeFiles Big\n    scope D:\\s\n    schedule weekly 01:00 sun\n  DuplicateFiles All else\n    scope D:\\\n    schedule \n6 ok\n  5242880 5242880 7 D:\\s\\f\n7 ok\n8 ok\n9 ok\n  DuplicateFiles All else\n    scope D:\\\n    schedule \n"

-- why reports and jobs are refused, in order: the moment, the folder, the name
abbrev pub report_refusals : Type 0
report_refusals =
    text default_capacity new_rows (codes "1 create D:\\f 1 1\n1 storrept reports generate /Report:LargeFiles /Scope:D:\\x\n1 storrept reports generate /Report:LargeFiles /Scope:D:\\f\n1 storrept reports add /Task:A /Report:LargeFiles /Scope:D:\\\n1 storrept reports add /Task:a /Report:LargeFiles /Scope:D:\\f\n1 storrept reports add /Task:a /Report:FilesByType /Scope:D:\\\n1 storrept reports run /Task:b\n1 storrept reports delete /Task:b\n0 storrept reports run /Task:b\n0 storrept reports generate /Report:LargeFiles /Scope:D:\\x\n")
    ≡ codes "1 ok\n2 refused PathNotFound\n3 refused PathNotFound\n4 ok\n5 refused PathNotFound\n6 refused DuplicateName\n7 refused NotFound\n8 refused NotFound\n9 refused ClockBack\n10 refused ClockBack\n"

-- a job that runs lasts; a report that is made once and a list don't
abbrev pub lasting_reports : Type 0
lasting_reports =
    text default_capacity new_rows (codes "100 storrept reports add /Task:A /Report:FilesByType /Scope:D:\\\n200 storrept reports generate /Report:FilesByType /Scope:D:\\\n200 storrept reports list\n150 mkdir D:\\a 1\n200 storrept reports run /Task:A\n199 mkdir D:\\b 1\n")
    ≡ codes "1 ok\n2 ok\n3 ok\n  FilesByType A\n    scope D:\\\n    schedule \n4 ok\n5 ok\n6 refused ClockBack\n"

-- a folder's jobs go with it, and no others
abbrev pub jobs_gone : Type 0
jobs_gone =
    text default_capacity new_rows (codes "1 mkdir D:\\s 1\n1 storrept reports add /Task:A /Report:FilesByType /Scope:D:\\s\n1 storrept reports add /Task:B /Report:FilesByOwner /Scope:D:\\\n1 remove D:\\s\n1 storrept reports run /Task:A\n1 storrept reports list\n")
    ≡ codes "1 ok\n2 ok\n3 ok\n4 ok\n5 refused NotFound\n6 ok\n  FilesByOwner B\n    scope D:\\\n    schedule \n"

-- words that are refused, and where: an option that is missing, one that the command doesn't take, one that is given again, a report that isn't one
abbrev pub report_words : Type 0
report_words =
    text default_capacity new_rows (codes "1 storrept reports generate /Scope:D:\\\n1 storrept reports generate /Report:LargeFiles\n1 storrept reports generate /Report:Files /Scope:D:\\\n1 storrept reports generate /Report:LargeFiles /Scope:D:\\ /Task:A\n1 storrept reports generate /Report:LargeFiles /Scope:D:\\ /Scope:D:\\s\n1 storrept reports add /Report:LargeFiles /Scope:D:\\\n1 storrept reports add /Task:A /Scope:D:\\\n1 storrept reports add /Task:A /Report:LargeFiles\n1 storrept reports run\n1 storrept reports delete /Task:A /Scope:D:\\\n1 storrept reports list /Task:A\n1 storrept jobs list\n1 STORREPT Reports GENERATE /REPORT:fileSCREENaudit /SCOPE:d:\\\n")
    ≡ codes "1 refused BadLine 39\n2 refused BadLine 47\n3 refused BadLine 29\n4 refused BadLine 59\n5 refused BadLine 59\n6 refused BadLine 53\n7 refused BadLine 42\n8 refused BadLine 50\n9 refused BadLine 23\n10 refused BadLine 35\n11 refused BadLine 25\n12 refused BadLine 12\n13 ok\n"

-- values that are refused, and the greatest ones
abbrev pub report_values : Type 0
report_values =
    text default_capacity new_rows (codes "1 storrept reports generate /Report:LargeFiles /Scope:D:\\ /Owner:0\n1 storrept reports generate /Report:LargeFiles /Scope:D:\\ /MinSize:17592185978881\n1 storrept reports generate /Report:LargeFiles /Scope:D:\\ /Days:36501\n1 storrept reports generate /Report:LargeFiles /Scope:D:\\ /MinUse:1001\n1 storrept reports generate /Report:LargeFiles /Scope:D:\\ /Max:0\n1 storrept reports generate /Report:LargeFiles /Scope:D:\\ /Max:100001\n1 storrept reports generate /Report:LargeFiles /Scope:D:\\ /Days:x\n1 storrept reports generate /Report:LargeFiles /Scope:D:\\ /Pattern:a/b\n1 storrept reports generate /Report:LargeFiles /Scope:D:\\ /Pattern:a|b\n1 storrept reports generate /Report:LargeFiles /Scope:D:\\ /Owner:4294967295 /Pattern:? /MinSize:17592185978880 /Days:36500 /MinUse:1000 /Max:100000\n1 storrept reports add /Report:LargeFiles /Scope:D:\\ /Task:a|b\n1 storrept reports add /Report:LargeFiles /Scope:D:\\ /Task:A \"/Schedule:a\tb\"\n")
    ≡ codes "1 refused OutOfRange\n2 refused OutOfRange\n3 refused OutOfRange\n4 refused OutOfRange\n5 refused OutOfRange\n6 refused OutOfRange\n7 refused BadLine 59\n8 refused InvalidName\n9 refused InvalidName\n10 ok\n11 refused InvalidName\n12 refused InvalidName\n"

-- a schedule of 200 bytes is short enough, and one of 201 is too long
abbrev pub of_schedule : ℕ → List ℕ
of_schedule n = codes "1 storrept reports add /Task:A /Report:QuotaUsage /Scope:D:\\ /Schedule:" ++ replicate n 97 ++ codes "\n"

abbrev pub long_schedules : Type 0
long_schedules =
    text default_capacity new_rows (of_schedule 201 ++ of_schedule 200)
    ≡ codes "1 refused InvalidName\n2 ok\n"

-- the rows of jobs: what isn't given is left out, a run is the last one, and a new job takes the least number that is free
abbrev pub plain_job : ℕ → List ℕ → ℕ → Option ℕ → JobRow
plain_job number name made last_run =
    record {
      number = number;
      name = name;
      kind = FilesByType;
      scope = 0;
      filter = no_filter;
      schedule = [];
      made = made;
      last_run = last_run;
    }

abbrev pub job_rows : Type 0
job_rows =
    (fold_script default_capacity new_rows (codes "100 storrept reports add /Task:A /Report:FilesByType /Scope:D:\\\n200 storrept reports add /Task:B /Report:FilesByType /Scope:D:\\\n300 storrept reports run /Task:b\n400 storrept reports delete /Task:A\n500 storrept reports add /Task:C /Report:FilesByType /Scope:D:\\\n") 5).jobs
    ≡ plain_job 0 (codes "C") 500 None ∷ plain_job 1 (codes "B") 200 (Some 300) ∷ []
