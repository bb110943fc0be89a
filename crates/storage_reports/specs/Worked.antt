-- Worked reports, as equations.
use Rattle.std.specs.Prelude.{◌≡◌, ℕ, List, codes, Some, None}
use Rattle.fsrm_model.specs.declared.row.Filter.{Filter}
use Rattle.fsrm_model.specs.declared.row.ReportKind.{ReportKind}
use Rattle.fsrm_model.specs.declared.row.ReportKind.TheVariants.{LargeFiles, FilesByType, LeastRecentlyAccessed, MostRecentlyAccessed, QuotaUsage, FilesByOwner, DuplicateFiles, FileScreenAudit}
use Rattle.fsrm_model.specs.nodes.Fresh.{default_capacity, new_rows}
use Rattle.fsrm_model.specs.lines.Script.{fold_script}
use Rattle.fsrm_model.specs.texts.ReportText.{report_lines}

abbrev pub anything : Filter
anything = record { owner = None; pattern = None; min_size = None; days = None; min_use = None; max = 1000 }

-- the text of a report at a moment, after a script of so many lines
abbrev pub told : List ℕ → ℕ → ReportKind → ℕ → Filter → ℕ → List ℕ
told script lines kind scope asked moment =
    report_lines default_capacity (fold_script default_capacity new_rows script lines) (record { kind = kind; scope = scope; filter = asked }) moment

abbrev pub files : List ℕ
files = codes "100 create D:\\a.txt 10 1\n100 create D:\\b.TXT 5000 2\n100 create D:\\c 4096 1\n100 mkdir D:\\s 1\n100 create D:\\s\\A.txt 10 3\n"

abbrev pub by_type : Type 0
by_type = told files 5 FilesByType 0 anything 100 ≡ codes "  txt 3 5020 16384\n  (none) 1 4096 4096\n"

-- files without a type are apart from those of the type "(none)"; of groups that take as much the least number is first
abbrev pub odd_types : List ℕ
odd_types = codes "1 create D:\\a.(none) 10 1\n1 create D:\\c 4096 1\n1 create D:\\d 1 1\n1 create D:\\b.(NONE) 20 1\n"

abbrev pub apart_types : Type 0
apart_types = told odd_types 4 FilesByType 0 anything 1 ≡ codes "  (none) 2 30 8192\n  (none) 2 4097 8192\n"

-- a filter that a kind doesn't use has no effect
abbrev pub unused_filters : Type 0
unused_filters =
    told odd_types 4 FilesByType 0 (record anything { min_size = Some 4096; days = Some 0; min_use = Some 50 }) 100
    ≡ codes "  (none) 2 30 8192\n  (none) 2 4097 8192\n"

abbrev pub by_owner : Type 0
by_owner = told files 5 FilesByOwner 0 anything 100 ≡ codes "  1 2 4106 8192\n  2 1 5000 8192\n  3 1 10 4096\n"

-- equal lengths stand by their numbers, and the cut comes last
abbrev pub large_files : Type 0
large_files =
    told files 5 LargeFiles 0 (record anything { min_size = Some 10; max = 3 }) 100
    ≡ codes "  5000 8192 2 D:\\b.TXT\n  4096 4096 1 D:\\c\n  10 4096 1 D:\\a.txt\n"

abbrev pub duplicates : Type 0
duplicates =
    told files 5 DuplicateFiles 0 anything 100
    ≡ codes "  10 1970-01-01 00:01:40 D:\\a.txt\n  10 1970-01-01 00:01:40 D:\\s\\A.txt\n"

-- below a folder alone; of one owner; of one pattern; and a folder's number that comes after those of its files
abbrev pub below_folder : Type 0
below_folder = told files 5 FilesByOwner 4 anything 100 ≡ codes "  3 1 10 4096\n"

abbrev pub of_owner : Type 0
of_owner =
    told files 5 LargeFiles 0 (record anything { owner = Some 1; min_size = Some 0 }) 100
    ≡ codes "  4096 4096 1 D:\\c\n  10 4096 1 D:\\a.txt\n"

abbrev pub of_pattern : Type 0
of_pattern =
    told files 5 LargeFiles 0 (record anything { pattern = Some (codes "?.TXT"); min_size = Some 0 }) 100
    ≡ codes "  5000 8192 2 D:\\b.TXT\n  10 4096 1 D:\\a.txt\n  10 4096 3 D:\\s\\A.txt\n"

abbrev pub moved : List ℕ
moved = codes "100 create D:\\x 1 7\n100 create D:\\y 1 8\n100 mkdir D:\\s 1\n100 move D:\\x D:\\s\\x\n100 move D:\\y D:\\s\\y\n"

abbrev pub late_folder : Type 0
late_folder = told moved 5 LargeFiles 3 (record anything { min_size = Some 1 }) 100 ≡ codes "  1 4096 7 D:\\s\\x\n  1 4096 8 D:\\s\\y\n"

-- accessed at 100, 200 and 300: of 0 days at 200 the first two weren't used since, and the last two were
abbrev pub touched : List ℕ
touched = codes "100 create D:\\a 1 1\n200 create D:\\b 2 1\n300 create D:\\c 3 1\n"

abbrev pub unused_files : Type 0
unused_files =
    told touched 3 LeastRecentlyAccessed 0 (record anything { days = Some 0 }) 200
    ≡ codes "  1970-01-01 00:01:40 1 D:\\a\n  1970-01-01 00:03:20 2 D:\\b\n"

abbrev pub used_files : Type 0
used_files =
    told touched 3 MostRecentlyAccessed 0 (record anything { days = Some 0 }) 200
    ≡ codes "  1970-01-01 00:05:00 3 D:\\c\n  1970-01-01 00:03:20 2 D:\\b\n"

-- groups of duplicates stand by length, then by their least numbers, and each together
abbrev pub twins : List ℕ
twins = codes "1 mkdir D:\\s 1\n1 create D:\\p 1 1\n1 create D:\\q 1 1\n1 create D:\\r 9 1\n1 create D:\\s\\q 1 1\n1 create D:\\s\\p 1 1\n1 create D:\\s\\r 9 1\n1 create D:\\t 9 1\n"

abbrev pub grouped_duplicates : Type 0
grouped_duplicates =
    told twins 8 DuplicateFiles 0 (record anything { max = 5 }) 1
    ≡ codes "  9 1970-01-01 00:00:01 D:\\r\n  9 1970-01-01 00:00:01 D:\\s\\r\n  1 1970-01-01 00:00:01 D:\\p\n  1 1970-01-01 00:00:01 D:\\s\\p\n  1 1970-01-01 00:00:01 D:\\q\n"

-- quotas that count, the fullest first
abbrev pub quotas : List ℕ
quotas = codes "1 mkdir D:\\a 1\n1 mkdir D:\\b 1\n1 mkdir D:\\c 1\n1 dirquota quota add /Path:D:\\a /Limit:8kb\n1 dirquota quota add /Path:D:\\b /Limit:12kb\n1 dirquota quota add /Path:D:\\c /Limit:8kb /Status:disabled\n1 create D:\\a\\x 1 1\n1 create D:\\b\\x 4097 1\n"

abbrev pub quota_usage : Type 0
quota_usage =
    told quotas 8 QuotaUsage 0 (record anything { owner = Some 9 }) 1
    ≡ codes "  12288 8192 66 8192 D:\\b\n  8192 4096 50 4096 D:\\a\n"

abbrev pub used_quotas : Type 0
used_quotas = told quotas 8 QuotaUsage 0 (record anything { min_use = Some 51 }) 1 ≡ codes "  12288 8192 66 8192 D:\\b\n"

-- names that a screen blocked or reported, the oldest first
abbrev pub screened : List ℕ
screened = codes "1 filescrn filegroup add /Filegroup:Music /Members:*.mp3\n1 mkdir D:\\p 1\n1 filescrn screen add /Path:D:\\p /Add-Filegroup:Music /Type:passive\n1 filescrn screen add /Path:D:\\ /Add-Filegroup:Music\n100 create D:\\x.mp3 1 7\n86500 create D:\\y.mp3 1 8\n"

abbrev pub audit : Type 0
audit =
    told screened 6 FileScreenAudit 1 anything 86501
    ≡ codes "  1970-01-01 00:01:40 active 7 0 0 x.mp3\n  1970-01-02 00:01:40 active 8 0 0 y.mp3\n"

abbrev pub last_audit : Type 0
last_audit = told screened 6 FileScreenAudit 1 (record anything { days = Some 1 }) 86501 ≡ codes "  1970-01-02 00:01:40 active 8 0 0 y.mp3\n"
