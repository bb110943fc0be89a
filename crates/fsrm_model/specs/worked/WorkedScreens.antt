-- Worked examples of file groups, screens and exceptions, as equations.
use Rattle.std.specs.Prelude.{◌≡◌, ℕ, Bool, true, false, List, [], ◌∷◌, ◌++◌, codes, replicate}
use Rattle.std.specs.List.{join_with_byte}
use Rattle.std.specs.Str.{encode_utf8_all}
use Rattle.fsrm_model.specs.declared.row.AuditRow.{AuditRow}
use Rattle.fsrm_model.specs.nodes.Fresh.{default_capacity, new_rows}
use Rattle.fsrm_model.specs.lines.Script.{text, fold_script}

abbrev pub entry : ℕ → Bool → ℕ → ℕ → ℕ → List ℕ → AuditRow
entry moment active owner folder screen name =
    record { moment = moment; active = active; owner = owner; folder = folder; screen = screen; name = name }

-- a group of members and non-members; its name and the file's are read in any spelling
abbrev pub members_and_others : Type 0
members_and_others =
    text default_capacity new_rows (codes "100 filescrn filegroup add /Filegroup:Audio /Members:*.mp3 /NonMembers:a*.mp3\n100 filescrn screen add /Path:D:\\ /Add-Filegroup:audio\n100 create D:\\B.MP3 1 1\n100 create D:\\a.mp3 1 1\n100 create D:\\mp3 1 1\n")
    ≡ codes "1 ok\n2 ok\n3 refused ScreenBlocked D:\\\n4 ok\n5 ok\n"

-- the blocked name has an entry in the audit log, and the others have none
abbrev pub blocked_entry : Type 0
blocked_entry =
    (fold_script default_capacity new_rows (codes "100 filescrn filegroup add /Filegroup:Audio /Members:*.mp3 /NonMembers:a*.mp3\n100 filescrn screen add /Path:D:\\ /Add-Filegroup:audio\n100 create D:\\B.MP3 1 1\n100 create D:\\a.mp3 1 1\n100 create D:\\mp3 1 1\n") 5).audits
    ≡ entry 100 true 1 0 0 (codes "B.MP3") ∷ []

-- an exception lifts the screen above it in its folder and below, and none elsewhere; it can't stand on the screen's folder
abbrev pub exceptions : Type 0
exceptions =
    text default_capacity new_rows (codes "100 filescrn filegroup add /Filegroup:A /Members:*.mp3|*.wav\n100 mkdir D:\\p 1\n100 mkdir D:\\p\\q 1\n100 mkdir D:\\p\\q\\r 1\n100 filescrn screen add /Path:D:\\p /Add-Filegroup:A\n100 filescrn exception add /Path:D:\\p\\q /Add-Filegroup:A\n100 create D:\\p\\q\\r\\x.mp3 1 1\n100 create D:\\p\\y.wav 1 1\n100 filescrn exception add /Path:D:\\p /Add-Filegroup:A\n100 move D:\\p\\q\\r\\x.mp3 D:\\p\\x.mp3\n")
    ≡ codes "1 ok\n2 ok\n3 ok\n4 ok\n5 ok\n6 ok\n7 ok\n8 refused ScreenBlocked D:\\p\n9 refused InvalidCombination\n10 refused ScreenBlocked D:\\p\n"

-- an exception above the screen's folder, or for other names, lifts nothing
abbrev pub exception_above : Type 0
exception_above =
    text default_capacity new_rows (codes "100 filescrn filegroup add /Filegroup:A /Members:*.mp3\n100 filescrn filegroup add /Filegroup:B /Members:*.txt\n100 mkdir D:\\p 1\n100 mkdir D:\\p\\q 1\n100 filescrn exception add /Path:D:\\ /Add-Filegroup:A\n100 filescrn screen add /Path:D:\\p /Add-Filegroup:A\n100 filescrn exception add /Path:D:\\p\\q /Add-Filegroup:B\n100 create D:\\p\\x.mp3 1 1\n100 create D:\\p\\q\\x.mp3 1 1\n100 create D:\\p\\q\\x.txt 1 1\n")
    ≡ codes "1 ok\n2 ok\n3 ok\n4 ok\n5 ok\n6 ok\n7 ok\n8 refused ScreenBlocked D:\\p\n9 refused ScreenBlocked D:\\p\n10 ok\n"

-- what refuses commands on groups; a group that changes; a quota above its limit
abbrev pub beside_quotas : Type 0
beside_quotas =
    text default_capacity new_rows (codes "100 step 1\n100 dirquota quota scan /Path:D:\\\n100 dirquota quota add /Path:D:\\ /Limit:1kb /Status:disabled\n100 dirquota quota scan /Path:D:\\\n100 create D:\\f 5000 1\n100 dirquota quota add /Path:D:\\ /Limit:1kb\n100 dirquota quota modify /Path:D:\\ /Status:enabled\n100 step 1\n100 dirquota quota resetpeak /Path:D:\\x\n100 filescrn filegroup add /Filegroup:G /Members:*\n100 filescrn filegroup add /Filegroup:g /Members:*\n100 filescrn screen add /Path:D:\\ /Add-Filegroup:G\n100 filescrn filegroup delete /Filegroup:G\n100 filescrn filegroup modify /Filegroup:G /Members:*.a\n100 create D:\\x.b 1 1\n100 create D:\\y.A 1 1\n")
    ≡ codes "1 refused NothingToScan\n2 refused NotFound\n3 ok\n4 refused InvalidCombination\n5 ok\n6 refused AlreadyExists\n7 ok\n8 ok visited 1 of D:\\ done 8192\n9 refused PathNotFound\n10 ok\n11 refused DuplicateName\n12 ok\n13 refused InUse\n14 ok\n15 refused QuotaExceeded 12288 1024 D:\\\n16 refused ScreenBlocked D:\\\n"

-- a passive screen reports, and a move too if the spelling alone changes, but not that of a folder; the nearest passive screen reports, and an active one farther up blocks before it; actions wait for their run limit
abbrev pub nearest_screens : Type 0
nearest_screens =
    text default_capacity new_rows (codes "100 filescrn filegroup add /Filegroup:All /Members:*\n100 mkdir D:\\p 1\n100 filescrn screen add /Path:D:\\ /Type:passive /Add-Filegroup:all /Add-Notification:e,60,seen\n100 create D:\\p\\a 1 7\n200 create D:\\p\\b 1 7\n3700 move D:\\p\\a D:\\p\\A\n3700 move D:\\p D:\\q\n3700 filescrn screen add /Path:D:\\q /Type:passive /Add-Filegroup:ALL\n3700 create D:\\q\\c 1 7\n3700 filescrn screen modify /Path:D:\\ /Type:active\n3700 create D:\\q\\d 1 7\n3700 dirquota admin log\n")
    ≡ codes "1 ok\n2 ok\n3 ok\n4 ok\n  passive D:\\\n  act screen e D:\\|seen\n5 ok\n  passive D:\\\n6 ok\n  passive D:\\\n  act screen e D:\\|seen\n7 ok\n8 ok\n9 ok\n  passive D:\\q\n10 ok\n11 refused ScreenBlocked D:\\\n12 ok\n  1970-01-01 00:01:40 screen 0 e\n  1970-01-01 01:01:40 screen 0 e\n"

-- a screen is asked before quotas, and its acts come before theirs; a passive report of what a quota refuses leaves nothing; the moment of a blocked name is the last one
abbrev pub screens_and_quotas : Type 0
screens_and_quotas =
    text default_capacity new_rows (codes "100 dirquota quota add /Path:D:\\ /Limit:8kb /Add-Notification:100,m,0,full\n100 filescrn filegroup add /Filegroup:G /Members:*\n100 filescrn screen add /Path:D:\\ /Type:passive /Add-Filegroup:G /Add-Notification:e,0,seen\n100 create D:\\a 12288 1\n200 create D:\\b 8192 7\n200 filescrn screen modify /Path:D:\\ /Type:active\n300 create D:\\c 999999 8\n250 mkdir D:\\d 1\n")
    ≡ codes "1 ok\n2 ok\n3 ok\n4 refused QuotaExceeded 12288 8192 D:\\\n  act quota 100 m D:\\|full\n5 ok\n  passive D:\\\n  act screen e D:\\|seen\n  act quota 100 m D:\\|full\n6 ok\n7 refused ScreenBlocked D:\\\n  act screen e D:\\|seen\n8 refused ClockBack\n"

-- only what was reported or blocked has an entry, with the owner of the file
abbrev pub reported_entries : Type 0
reported_entries =
    (fold_script default_capacity new_rows (codes "100 dirquota quota add /Path:D:\\ /Limit:8kb /Add-Notification:100,m,0,full\n100 filescrn filegroup add /Filegroup:G /Members:*\n100 filescrn screen add /Path:D:\\ /Type:passive /Add-Filegroup:G /Add-Notification:e,0,seen\n100 create D:\\a 12288 1\n200 create D:\\b 8192 7\n200 filescrn screen modify /Path:D:\\ /Type:active\n300 create D:\\c 999999 8\n250 mkdir D:\\d 1\n") 8).audits
    ≡ entry 200 false 7 0 0 (codes "b") ∷ entry 300 true 8 0 0 (codes "c") ∷ []

-- a file that moves is judged by its new name in its new folder; one that is there already stays
abbrev pub moves_judged : Type 0
moves_judged =
    text default_capacity new_rows (codes "100 filescrn filegroup add /Filegroup:G /Members:*.mp3\n100 mkdir D:\\a 1\n100 mkdir D:\\b 1\n100 create D:\\a\\x.mp3 1 7\n100 filescrn screen add /Path:D:\\a /Add-Filegroup:G\n100 filescrn screen add /Path:D:\\b /Type:passive /Add-Filegroup:G\n100 move D:\\a\\x.mp3 D:\\b\\Y.Mp3\n100 move D:\\b\\y.mp3 D:\\a\\y.mp3\n100 move D:\\b\\y.mp3 D:\\a\\y.txt\n")
    ≡ codes "1 ok\n2 ok\n3 ok\n4 ok\n5 ok\n6 ok\n7 ok\n  passive D:\\b\n8 refused ScreenBlocked D:\\a\n9 ok\n"

-- and so has its entry the new folder, and the new name as it is spelled
abbrev pub move_entries : Type 0
move_entries =
    (fold_script default_capacity new_rows (codes "100 filescrn filegroup add /Filegroup:G /Members:*.mp3\n100 mkdir D:\\a 1\n100 mkdir D:\\b 1\n100 create D:\\a\\x.mp3 1 7\n100 filescrn screen add /Path:D:\\a /Add-Filegroup:G\n100 filescrn screen add /Path:D:\\b /Type:passive /Add-Filegroup:G\n100 move D:\\a\\x.mp3 D:\\b\\Y.Mp3\n100 move D:\\b\\y.mp3 D:\\a\\y.mp3\n100 move D:\\b\\y.mp3 D:\\a\\y.txt\n") 9).audits
    ≡ entry 100 false 7 2 2 (codes "Y.Mp3") ∷ entry 100 true 7 1 1 (codes "y.mp3") ∷ []

-- groups, screens and exceptions with their lists, and what refuses their commands
abbrev pub groups_and_lists : Type 0
groups_and_lists =
    text default_capacity new_rows (codes "100 filescrn filegroup add /Filegroup:\"Web Pages\" /Members:*.htm|*.html /NonMembers:index.*\n100 filescrn filegroup add /Filegroup:media /Members:*.mp?\n100 filescrn filegroup add /Filegroup:MEDIA /Members:*\n100 filescrn filegroup modify /Filegroup:none /Members:*\n100 filescrn filegroup modify /Filegroup:Media /NonMembers:a.*|b.*\n100 filescrn filegroup list\n100 filescrn screen add /Path:D:\\ /Add-Filegroup:none\n100 filescrn screen add /Path:D:\\x /Add-Filegroup:none\n100 filescrn screen add /Path:D:\\ /Add-Filegroup:media /Add-Filegroup:\"web pages\" /Add-Filegroup:Media \"/Add-Notification:m,-1,hello there\"\n100 filescrn exception add /Path:D:\\ /Add-Filegroup:media\n100 filescrn screen add /Path:D:\\ /Add-Filegroup:none\n100 filescrn screen list\n100 filescrn screen modify /Path:D:\\ /Remove-Filegroup:media /Remove-Filegroup:MEDIA\n100 filescrn screen modify /Path:D:\\ /Remove-Filegroup:media /Remove-Filegroup:\"Web Pages\"\n100 filescrn screen modify /Path:D:\\ /Type:passive /Remove-Filegroup:media /Add-Filegroup:media\n100 filescrn filegroup delete /Filegroup:media\n100 filescrn screen list\n100 filescrn screen delete /Path:D:\\\n100 filescrn screen delete /Path:D:\\\n100 filescrn exception add /Path:D:\\ /Add-Filegroup:media\n100 filescrn filegroup delete /Filegroup:media\n100 filescrn exception list\n100 filescrn screen add /Path:D:\\ /Add-Filegroup:media\n100 filescrn exception delete /Path:D:\\\n100 filescrn exception delete /Path:D:\\\n100 filescrn filegroup delete /Filegroup:media\n100 filescrn filegroup delete /Filegroup:media\n100 filescrn filegroup list\n")
    ≡ codes "1 ok\n2 ok\n3 refused DuplicateName\n4 refused NotFound\n5 ok\n6 ok\n  Web Pages\n    member *.htm\n    member *.html\n    nonmember index.*\n  media\n    member *.mp?\n    nonmember a.*\n    nonmember b.*\n7 refused NotFound\n8 refused PathNotFound\n9 ok\n10 refused InvalidCombination\n11 refused AlreadyExists\n12 ok\n  active D:\\\n    group media\n    group Web Pages\n    do m -1 hello there\n13 refused NotFound\n14 refused InvalidCombination\n15 ok\n16 refused InUse\n17 ok\n  passive D:\\\n    group Web Pages\n    group media\n    do m -1 hello there\n18 ok\n19 refused NotFound\n20 ok\n21 refused InUse\n22 ok\n  D:\\\n    group media\n23 refused InvalidCombination\n24 ok\n25 refused NotFound\n26 ok\n27 refused NotFound\n28 ok\n  Web Pages\n    member *.htm\n    member *.html\n    nonmember index.*\n"

-- a folder's screen and its exception go with it
abbrev pub screens_gone : Type 0
screens_gone =
    text default_capacity new_rows (codes "100 filescrn filegroup add /Filegroup:G /Members:*\n100 mkdir D:\\a 1\n100 mkdir D:\\b 1\n100 filescrn screen add /Path:D:\\a /Add-Filegroup:G\n100 filescrn exception add /Path:D:\\b /Add-Filegroup:G\n100 remove D:\\a\n100 filescrn filegroup delete /Filegroup:G\n100 remove D:\\b\n100 filescrn filegroup delete /Filegroup:G\n100 filescrn screen list\n100 filescrn exception list\n")
    ≡ codes "1 ok\n2 ok\n3 ok\n4 ok\n5 ok\n6 ok\n7 refused InUse\n8 ok\n9 ok\n10 ok\n11 ok\n"

-- words of these commands that are refused, and where
abbrev pub screen_words : Type 0
screen_words =
    text default_capacity new_rows (codes "1 filescrn filegroup add /Filegroup:G\n1 filescrn filegroup add /Filegroup:G /Members:\n1 filescrn filegroup add /Filegroup:a|b /Members:*\n1 filescrn filegroup add /Filegroup:G /Members:*|.\n1 filescrn filegroup add /Filegroup:G /Members:* /NonMembers:\n1 filescrn screen add /Path:D:\\\n1 filescrn screen add /Path:D:\\ /Type:hard /Add-Filegroup:G\n1 filescrn screen add /Path:D:\\ /Add-Filegroup:G /Add-Notification:80,e,60,x\n1 filescrn screen modify /Add-Filegroup:G\n1 filescrn audit list\n1 filescrn screen add /Path:D:\\ /Add-Filegroup:g /Type:PASSIVE\n1 filescrn screen modify /Path:D:\\\n1 filescrn exception add /Path:D:\\ /Type:active /Add-Filegroup:G\n")
    ≡ codes "1 refused BadLine 38\n2 refused InvalidName\n3 refused InvalidName\n4 refused InvalidName\n5 ok\n6 refused BadLine 32\n7 refused BadLine 33\n8 refused BadLine 50\n9 refused BadLine 42\n10 refused BadLine 12\n11 ok\n12 ok\n13 refused BadLine 36\n"

-- 64 patterns are few enough, and 65 are too many
abbrev pub of_patterns : ℕ → List ℕ
of_patterns n = codes "1 filescrn filegroup add /Filegroup:G /Members:" ++ join_with_byte 124 (replicate n (codes "a")) ++ codes "\n"

abbrev pub many_patterns : Type 0
many_patterns =
    text default_capacity new_rows (of_patterns 65 ++ of_patterns 64)
    ≡ codes "1 refused OutOfRange\n2 ok\n"

-- patterns are compared as names are, character by character; `?` stands for one of them; `*.*` means `*`, but only as the
-- whole pattern
abbrev pub folded_patterns : Type 0
folded_patterns =
    text default_capacity new_rows (encode_utf8_all (codes "1 filescrn filegroup add /Filegroup:G /Members:ß*|K?|İ\n1 filescrn screen add /Path:D:\\ /Add-Filegroup:g\n1 create D:\\ẞx 1 1\n1 create D:\\ssx 1 1\n1 create D:\\kç 1 1\n1 create D:\\k 1 1\n1 create D:\\i 1 1\n1 create D:\\İ 1 1\n1 filescrn filegroup modify /Filegroup:G /Members:*.*\n1 create D:\\mp3 1 1\n1 filescrn filegroup modify /Filegroup:G /Members:*.*.*\n1 create D:\\mp3 1 1\n"))
    ≡ codes "1 ok\n2 ok\n3 refused ScreenBlocked D:\\\n4 ok\n5 refused ScreenBlocked D:\\\n6 ok\n7 ok\n8 refused ScreenBlocked D:\\\n9 ok\n10 refused ScreenBlocked D:\\\n11 ok\n12 ok\n"
