-- Worked examples of templates and auto-apply quotas, as equations.
use Rattle.std.specs.Prelude.{◌≡◌, codes}
use Rattle.fsrm_model.specs.nodes.Fresh.{default_capacity, new_rows}
use Rattle.fsrm_model.specs.lines.Script.{text}

-- folders in a folder with an auto-apply quota get quotas: those that are there, one that is made, and one that moves in, but not those
-- with an excluded name, in any spelling. What is in them is counted first
abbrev pub auto_apply : Type 0
auto_apply =
    text default_capacity new_rows (codes "100 dirquota template add /Template:Home /Limit:200mb\n100 mkdir D:\\u 1\n100 mkdir D:\\u\\old 1\n100 create D:\\u\\old\\f 1 1\n100 dirquota autoquota add /Path:D:\\u /SourceTemplate:Home /Exclude:tmp\n100 mkdir D:\\u\\new 1\n100 mkdir D:\\u\\TMP 1\n100 mkdir D:\\w 1\n100 create D:\\w\\z 1 1\n100 move D:\\w D:\\u\\w\n100 dirquota quota list\n")
    ≡ codes "1 ok\n2 ok\n3 ok\n4 ok\n5 ok\n6 ok\n7 ok\n8 ok\n9 ok\n10 ok\n11 ok\n  209715200 hard rebuilding - 0 1970-01-01 00:01:40 D:\\u\\old\n  209715200 hard complete 0 0 1970-01-01 00:01:40 D:\\u\\new\n  209715200 hard rebuilding - 0 1970-01-01 00:01:40 D:\\u\\w\n"

-- a template's change reaches the quotas that match it
abbrev pub template_update : Type 0
template_update =
    text default_capacity new_rows (codes "100 dirquota template add /Template:T /Limit:1mb\n100 mkdir D:\\a 1\n100 mkdir D:\\b 1\n100 dirquota quota add /Path:D:\\a /SourceTemplate:T\n100 dirquota quota add /Path:D:\\b /SourceTemplate:T\n100 dirquota quota modify /Path:D:\\b /Limit:2mb\n100 dirquota template modify /Template:T /Limit:3mb /UpdateDerived:matching\n100 dirquota quota list\n")
    ≡ codes "1 ok\n2 ok\n3 ok\n4 ok\n5 ok\n6 ok\n7 ok\n8 ok\n  3145728 hard complete 0 0 1970-01-01 00:01:40 D:\\a\n  2097152 hard complete 0 0 1970-01-01 00:01:40 D:\\b\n"

-- a quota has what its template says; what a command gives overrides the limit and the type, and adds thresholds. What refuses it, in
-- order
abbrev pub derived_quotas : Type 0
derived_quotas =
    text default_capacity new_rows (codes "100 dirquota template add /Template:Watch /Limit:1mb /Type:soft /Add-Threshold:50 /Add-Notification:85,e,60,near\n100 mkdir D:\\a 1\n100 mkdir D:\\b 1\n100 dirquota quota add /Path:D:\\a /SourceTemplate:WATCH\n100 dirquota quota add /Path:D:\\b /Limit:2mb /Type:hard /SourceTemplate:watch /Add-Threshold:50 /Add-Notification:85,m,-1,also /Add-Notification:10,r,5,\n100 dirquota quota add /Path:D:\\ /SourceTemplate:Watch /Status:disabled\n100 dirquota quota list\n100 dirquota quota add /Path:D:\\no /SourceTemplate:no\n100 dirquota quota add /Path:D:\\a /SourceTemplate:no\n100 mkdir D:\\c 1\n100 dirquota quota add /Path:D:\\c /SourceTemplate:no\n100 dirquota quota add /Path:D:\\c /Limit:1kb /SourceTemplate:no\n100 dirquota quota add /Path:D:\\c\n100 dirquota template list\n")
    ≡ codes "1 ok\n2 ok\n3 ok\n4 ok\n5 ok\n6 ok\n7 ok\n  1048576 soft disabled - 0 1970-01-01 00:01:40 D:\\\n    at 50\n    at 85 e 60 near\n  1048576 soft complete 0 0 1970-01-01 00:01:40 D:\\a\n    at 50\n    at 85 e 60 near\n  2097152 hard complete 0 0 1970-01-01 00:01:40 D:\\b\n    at 10 r 5 \n    at 50\n    at 85 e 60 near\n    at 85 m -1 also\n8 refused PathNotFound\n9 refused AlreadyExists\n10 ok\n11 refused NotFound\n12 refused NotFound\n13 refused BadLine 34\n14 ok\n  1048576 soft Watch\n    at 50\n    at 85 e 60 near\n"

-- which quotas match is judged by the template as it was, by limit, type and thresholds, and not by last runs. Without an update, and with
-- none, quotas stay as they are
abbrev pub matching : Type 0
matching =
    text default_capacity new_rows (codes "100 dirquota template add /Template:T /Limit:8kb /Add-Notification:50,e,60,half\n100 mkdir D:\\a 1\n100 mkdir D:\\b 1\n100 mkdir D:\\c 1\n100 mkdir D:\\d 1\n100 dirquota quota add /Path:D:\\a /SourceTemplate:T\n100 dirquota quota add /Path:D:\\b /SourceTemplate:T\n100 dirquota quota add /Path:D:\\c /SourceTemplate:T\n100 dirquota quota add /Path:D:\\d /Limit:8kb /Add-Notification:50,e,60,half\n100 create D:\\a\\f 4096 1\n100 dirquota quota modify /Path:D:\\b /Add-Threshold:60\n100 dirquota quota modify /Path:D:\\c /Type:soft\n100 dirquota template modify /Template:T /Limit:16kb\n100 dirquota template modify /Template:T /Limit:8kb /UpdateDerived:none\n100 dirquota template modify /Template:t /Limit:32kb /Add-Threshold:70 /UpdateDerived:matching\n100 dirquota quota list\n")
    ≡ codes "1 ok\n2 ok\n3 ok\n4 ok\n5 ok\n6 ok\n7 ok\n8 ok\n9 ok\n10 ok\n  act quota 50 e D:\\a|half\n11 ok\n12 ok\n13 ok\n14 ok\n15 ok\n16 ok\n  32768 hard complete 4096 4096 1970-01-01 00:01:40 D:\\a\n    at 50 e 60 half\n    at 70\n  8192 hard complete 0 0 1970-01-01 00:01:40 D:\\b\n    at 50 e 60 half\n    at 60\n  8192 soft complete 0 0 1970-01-01 00:01:40 D:\\c\n    at 50 e 60 half\n  8192 hard complete 0 0 1970-01-01 00:01:40 D:\\d\n    at 50 e 60 half\n"

-- a template that changed alone has no quota that matches any more; all are reached all the same
abbrev pub matching_again : Type 0
matching_again =
    text default_capacity new_rows (codes "100 dirquota template add /Template:T /Limit:1mb\n100 mkdir D:\\a 1\n100 dirquota quota add /Path:D:\\a /SourceTemplate:T\n100 dirquota template modify /Template:T /Limit:2mb\n100 dirquota template modify /Template:T /Limit:3mb /UpdateDerived:matching\n100 dirquota quota list\n100 dirquota template modify /Template:T /Type:soft /UpdateDerived:all\n100 dirquota quota list\n")
    ≡ codes "1 ok\n2 ok\n3 ok\n4 ok\n5 ok\n6 ok\n  1048576 hard complete 0 0 1970-01-01 00:01:40 D:\\a\n7 ok\n8 ok\n  3145728 soft complete 0 0 1970-01-01 00:01:40 D:\\a\n"

-- an update forgets when actions ran last, also where nothing else changes, so that they may run again; states and peaks stay
abbrev pub runs_forgotten : Type 0
runs_forgotten =
    text default_capacity new_rows (codes "1000 dirquota template add /Template:T /Limit:8kb /Add-Notification:50,e,60,half\n1000 dirquota quota add /Path:D:\\ /SourceTemplate:T\n1000 create D:\\f 4096 1\n1001 resize D:\\f 0\n1002 resize D:\\f 4096\n1003 resize D:\\f 0\n1004 dirquota template modify /Template:T /UpdateDerived:matching\n1005 resize D:\\f 4096\n1006 resize D:\\f 0\n1007 dirquota template modify /Template:T\n1008 resize D:\\f 4096\n1009 resize D:\\f 0\n1010 dirquota quota modify /Path:D:\\ /Status:disabled\n1011 dirquota template modify /Template:T /Limit:4kb /UpdateDerived:all\n1012 dirquota quota list\n")
    ≡ codes "1 ok\n2 ok\n3 ok\n  act quota 50 e D:\\|half\n4 ok\n5 ok\n6 ok\n7 ok\n8 ok\n  act quota 50 e D:\\|half\n9 ok\n10 ok\n11 ok\n12 ok\n13 ok\n14 ok\n15 ok\n  4096 hard disabled - 4096 1970-01-01 00:16:40 D:\\\n    at 50 e 60 half\n"

-- a limit that falls may reach thresholds of many quotas: their actions run in the order of folders, percentages and places. What was
-- reached before isn't reached again
abbrev pub update_acts : Type 0
update_acts =
    text default_capacity new_rows (codes "100 dirquota template add /Template:T /Limit:1mb /Add-Notification:80,e,0,near /Add-Notification:80,m,0,mail\n100 mkdir D:\\a 1\n100 mkdir D:\\b 1\n100 mkdir D:\\c 1\n100 dirquota quota add /Path:D:\\c /SourceTemplate:T\n100 dirquota quota add /Path:D:\\b /SourceTemplate:T\n100 dirquota quota add /Path:D:\\a /SourceTemplate:T\n100 create D:\\a\\f 8192 1\n100 create D:\\b\\f 4096 1\n100 create D:\\c\\f 8192 1\n100 dirquota template modify /Template:T /Limit:8kb /Add-Notification:100,r,0,full /UpdateDerived:all\n100 dirquota template modify /Template:T /Limit:4kb /UpdateDerived:all\n100 dirquota admin log\n")
    ≡ codes "1 ok\n2 ok\n3 ok\n4 ok\n5 ok\n6 ok\n7 ok\n8 ok\n9 ok\n10 ok\n11 ok\n  act quota 80 e D:\\a|near\n  act quota 80 m D:\\a|mail\n  act quota 100 r D:\\a|full\n  act quota 80 e D:\\c|near\n  act quota 80 m D:\\c|mail\n  act quota 100 r D:\\c|full\n12 ok\n  act quota 80 e D:\\b|near\n  act quota 80 m D:\\b|mail\n  act quota 100 r D:\\b|full\n13 ok\n  1970-01-01 00:01:40 quota 1 80 e\n  1970-01-01 00:01:40 quota 1 80 m\n  1970-01-01 00:01:40 quota 1 100 r\n  1970-01-01 00:01:40 quota 3 80 e\n  1970-01-01 00:01:40 quota 3 80 m\n  1970-01-01 00:01:40 quota 3 100 r\n  1970-01-01 00:01:40 quota 2 80 e\n  1970-01-01 00:01:40 quota 2 80 m\n  1970-01-01 00:01:40 quota 2 100 r\n"

-- a template that an auto-apply quota names can't be deleted, and others can, also if quotas were derived from them. These stay, without
-- a template: they aren't those of the next one with the number
abbrev pub templates_gone : Type 0
templates_gone =
    text default_capacity new_rows (codes "100 dirquota template add /Template:T /Limit:1mb\n100 dirquota template add /Template:U /Limit:2mb\n100 mkdir D:\\a 1\n100 mkdir D:\\b 1\n100 dirquota quota add /Path:D:\\a /SourceTemplate:T\n100 dirquota quota add /Path:D:\\b /SourceTemplate:U\n100 dirquota autoquota add /Path:D:\\a /SourceTemplate:U\n100 dirquota template delete /Template:u\n100 dirquota template delete /Template:t\n100 dirquota template delete /Template:T\n100 dirquota template add /Template:V /Limit:1mb\n100 dirquota template modify /Template:V /Limit:5mb /UpdateDerived:all\n100 dirquota quota list\n100 remove D:\\a\n100 dirquota template delete /Template:U\n100 dirquota template list\n100 dirquota quota list\n")
    ≡ codes "1 ok\n2 ok\n3 ok\n4 ok\n5 ok\n6 ok\n7 ok\n8 refused InUse\n9 ok\n10 refused NotFound\n11 ok\n12 ok\n13 ok\n  1048576 hard complete 0 0 1970-01-01 00:01:40 D:\\a\n  2097152 hard complete 0 0 1970-01-01 00:01:40 D:\\b\n14 ok\n15 ok\n16 ok\n  5242880 hard V\n17 ok\n  2097152 hard complete 0 0 1970-01-01 00:01:40 D:\\b\n"

-- only folders in the folder get a quota, not files and not what is below them, and not one that has a quota already. Their scans wait in
-- the order of their numbers, not of their names
abbrev pub auto_folders : Type 0
auto_folders =
    text default_capacity new_rows (codes "100 dirquota template add /Template:T /Limit:1mb\n100 mkdir D:\\u 1\n100 mkdir D:\\u\\z 1\n100 mkdir D:\\u\\m 1\n100 mkdir D:\\u\\a 1\n100 mkdir D:\\u\\q 1\n100 dirquota quota add /Path:D:\\u\\m /Limit:9mb\n100 create D:\\u\\f 1 1\n100 create D:\\u\\z\\f 1 1\n100 mkdir D:\\u\\a\\x 1\n100 dirquota autoquota add /Path:D:\\u /SourceTemplate:T\n100 dirquota quota list\n100 step 9\n100 step 9\n100 step 9\n100 mkdir D:\\u\\a\\y 1\n100 dirquota quota list\n")
    ≡ codes "1 ok\n2 ok\n3 ok\n4 ok\n5 ok\n6 ok\n7 ok\n8 ok\n9 ok\n10 ok\n11 ok\n12 ok\n  1048576 hard rebuilding - 0 1970-01-01 00:01:40 D:\\u\\z\n  9437184 hard complete 0 0 1970-01-01 00:01:40 D:\\u\\m\n  1048576 hard rebuilding - 0 1970-01-01 00:01:40 D:\\u\\a\n  1048576 hard complete 0 0 1970-01-01 00:01:40 D:\\u\\q\n13 ok visited 1 of D:\\u\\z done 4096\n14 ok visited 2 of D:\\u\\a done 0\n15 refused NothingToScan\n16 ok\n17 ok\n  1048576 hard complete 4096 4096 1970-01-01 00:01:40 D:\\u\\z\n  9437184 hard complete 0 0 1970-01-01 00:01:40 D:\\u\\m\n  1048576 hard complete 0 0 1970-01-01 00:01:40 D:\\u\\a\n  1048576 hard complete 0 0 1970-01-01 00:01:40 D:\\u\\q\n"

-- a folder that moves gets a quota by the folder that it comes into and by its new name, also within its own parent, and also if its spelling
-- alone changes. One that has a quota keeps it, and files get none
abbrev pub auto_moves : Type 0
auto_moves =
    text default_capacity new_rows (codes "100 dirquota template add /Template:T /Limit:1mb\n100 mkdir D:\\u 1\n100 mkdir D:\\u\\tmp 1\n100 mkdir D:\\u\\Other 1\n100 mkdir D:\\v 1\n100 create D:\\f 5000 1\n100 dirquota autoquota add /Path:D:\\u /SourceTemplate:T /Exclude:tmp /Exclude:other\n100 dirquota quota list\n100 move D:\\u\\Other D:\\u\\OTHER\n100 move D:\\u\\tmp D:\\u\\here\n100 move D:\\f D:\\u\\f\n100 dirquota quota list\n100 move D:\\u\\here D:\\v\\there\n100 dirquota quota modify /Path:D:\\v\\there /Limit:2mb\n100 move D:\\v\\there D:\\u\\back\n100 dirquota autoquota delete /Path:D:\\u\n100 move D:\\u\\OTHER D:\\u\\free\n100 mkdir D:\\u\\new 1\n100 dirquota quota list\n")
    ≡ codes "1 ok\n2 ok\n3 ok\n4 ok\n5 ok\n6 ok\n7 ok\n8 ok\n9 ok\n10 ok\n11 ok\n12 ok\n  1048576 hard complete 0 0 1970-01-01 00:01:40 D:\\u\\here\n13 ok\n14 ok\n15 ok\n16 ok\n17 ok\n18 ok\n19 ok\n  2097152 hard complete 0 0 1970-01-01 00:01:40 D:\\u\\back\n"

-- a folder whose spelling alone changes gets the quota that it hasn't yet
abbrev pub auto_spelled : Type 0
auto_spelled =
    text default_capacity new_rows (codes "100 dirquota template add /Template:T /Limit:1mb\n100 mkdir D:\\u 1\n100 mkdir D:\\u\\a 1\n100 dirquota autoquota add /Path:D:\\u /SourceTemplate:T\n100 dirquota quota delete /Path:D:\\u\\a\n100 create D:\\u\\a\\f 5000 1\n100 move D:\\u\\a D:\\u\\A\n100 dirquota quota list\n100 step 5\n")
    ≡ codes "1 ok\n2 ok\n3 ok\n4 ok\n5 ok\n6 ok\n7 ok\n8 ok\n  1048576 hard rebuilding - 0 1970-01-01 00:01:40 D:\\u\\A\n9 ok visited 1 of D:\\u\\A done 8192\n"

-- a folder that moves in is counted by the quotas above it, and its own quota waits for its scan; a quota above that refuses leaves it where it
-- is, without one
abbrev pub auto_and_quotas : Type 0
auto_and_quotas =
    text default_capacity new_rows (codes "100 dirquota template add /Template:T /Limit:4kb /Add-Notification:100,e,0,full\n100 mkdir D:\\u 1\n100 mkdir D:\\w 1\n100 create D:\\w\\f 8192 1\n100 dirquota autoquota add /Path:D:\\u /SourceTemplate:T\n100 dirquota quota add /Path:D:\\u /Limit:4kb\n100 move D:\\w D:\\u\\w\n100 dirquota quota list\n100 dirquota quota modify /Path:D:\\u /Limit:64kb\n100 move D:\\w D:\\u\\w\n100 step 9\n100 create D:\\u\\w\\g 1 1\n100 dirquota quota list\n")
    ≡ codes "1 ok\n2 ok\n3 ok\n4 ok\n5 ok\n6 ok\n7 refused QuotaExceeded 8192 4096 D:\\u\n8 ok\n  4096 hard complete 0 0 1970-01-01 00:01:40 D:\\u\n9 ok\n10 ok\n11 ok visited 1 of D:\\u\\w done 8192\n  act quota 100 e D:\\u\\w|full\n12 refused QuotaExceeded 12288 4096 D:\\u\\w\n13 ok\n  65536 hard complete 8192 8192 1970-01-01 00:01:40 D:\\u\n  4096 hard complete 8192 8192 1970-01-01 00:01:40 D:\\u\\w\n    at 100 e 0 full\n"

-- the scan of a folder that moves in begins where it then stands, or goes on after the others
abbrev pub auto_scans : Type 0
auto_scans =
    text default_capacity new_rows (codes "100 dirquota template add /Template:T /Limit:1mb\n100 mkdir D:\\u 1\n100 mkdir D:\\w 1\n100 mkdir D:\\w\\x 1\n100 create D:\\w\\x\\f 1 1\n100 mkdir D:\\k 1\n100 create D:\\k\\f 1 1\n100 dirquota autoquota add /Path:D:\\u /SourceTemplate:T\n100 move D:\\w D:\\u\\w\n100 step 1\n100 move D:\\k D:\\u\\k\n100 step 5\n100 step 5\n100 dirquota admin list\n")
    ≡ codes "1 ok\n2 ok\n3 ok\n4 ok\n5 ok\n6 ok\n7 ok\n8 ok\n9 ok\n10 ok visited 1 of D:\\u\\w\n11 ok\n12 ok visited 1 of D:\\u\\w done 4096\n13 ok visited 1 of D:\\u\\k done 4096\n14 ok\n  runlimit 60\n  scans 0\n  nodes 7 65536\n  names 6 4194304\n"

-- templates and auto-apply quotas with their lists, and what refuses their commands, in order
abbrev pub templates_and_lists : Type 0
templates_and_lists =
    text default_capacity new_rows (codes "100 dirquota template add /Template:\"Home Folder\" /Limit:200mb /Add-Notification:85,e,60,near /Add-Threshold:100\n100 dirquota template add /Template:\"home folder\" /Limit:1kb\n100 dirquota template add /Template:b /Type:soft /Limit:1gb\n100 dirquota template list\n100 dirquota template modify /Template:c\n100 dirquota template modify /Template:b /Remove-Threshold:5\n100 dirquota template modify /Template:\"HOME FOLDER\" /Remove-Threshold:100 /Remove-Threshold:100\n100 dirquota template modify /Template:\"HOME FOLDER\" /Remove-Threshold:100 /Add-Threshold:90 /Add-Notification:85,c,-1,more\n100 dirquota template delete /Template:x\n100 dirquota template list\n100 mkdir D:\\a 1\n100 create D:\\f 0 1\n100 dirquota autoquota add /Path:D:\\no /SourceTemplate:b\n100 dirquota autoquota add /Path:D:\\f /SourceTemplate:b\n100 dirquota autoquota add /Path:D:\\a /SourceTemplate:c\n100 dirquota autoquota add /Path:D:\\a /SourceTemplate:B /Exclude:Temp /Exclude:x /Exclude:temp\n100 dirquota autoquota add /Path:D:\\a /SourceTemplate:c\n100 dirquota autoquota add /Path:D:\\ /SourceTemplate:b /Exclude:a\n100 dirquota autoquota list\n100 dirquota autoquota delete /Path:D:\\no\n100 dirquota autoquota delete /Path:D:\\a\n100 dirquota autoquota delete /Path:D:\\a\n100 dirquota autoquota list\n100 dirquota quota list\n99 dirquota template list\n99 dirquota autoquota list\n")
    ≡ codes "1 ok\n2 refused DuplicateName\n3 ok\n4 ok\n  209715200 hard Home Folder\n    at 85 e 60 near\n    at 100\n  1073741824 soft b\n5 refused NotFound\n6 refused NotFound\n7 refused NotFound\n8 ok\n9 refused NotFound\n10 ok\n  209715200 hard Home Folder\n    at 85 e 60 near\n    at 85 c -1 more\n    at 90\n  1073741824 soft b\n11 ok\n12 ok\n13 refused PathNotFound\n14 refused PathNotFound\n15 refused NotFound\n16 ok\n17 refused AlreadyExists\n18 ok\n19 ok\n  D:\\\n    template b\n    except a\n  D:\\a\n    template b\n    except Temp\n    except x\n    except temp\n20 refused PathNotFound\n21 ok\n22 refused NotFound\n23 ok\n  D:\\\n    template b\n    except a\n24 ok\n25 refused ClockBack\n26 refused ClockBack\n"

-- a template has at most 16 thresholds, of 8 actions each, and so has a quota that gets more beside those of its template
abbrev pub crowded_templates : Type 0
crowded_templates =
    text default_capacity new_rows (codes "100 dirquota template add /Template:T /Limit:1mb /Add-Threshold:1 /Add-Threshold:2 /Add-Threshold:3 /Add-Threshold:4 /Add-Threshold:5 /Add-Threshold:6 /Add-Threshold:7 /Add-Threshold:8 /Add-Threshold:9 /Add-Threshold:10 /Add-Threshold:11 /Add-Threshold:12 /Add-Threshold:13 /Add-Threshold:14 /Add-Threshold:15 /Add-Threshold:16 /Add-Threshold:17\n100 dirquota template add /Template:T /Limit:1mb /Add-Threshold:1 /Add-Threshold:2 /Add-Threshold:3 /Add-Threshold:4 /Add-Threshold:5 /Add-Threshold:6 /Add-Threshold:7 /Add-Threshold:8 /Add-Threshold:9 /Add-Threshold:10 /Add-Threshold:11 /Add-Threshold:12 /Add-Threshold:13 /Add-Threshold:14 /Add-Threshold:15 /Add-Threshold:16\n100 dirquota template add /Template:U /Limit:1mb /Add-Notification:1,e,0, /Add-Notification:1,e,0, /Add-Notification:1,e,0, /Add-Notification:1,e,0, /Add-Notification:1,e,0, /Add-Notification:1,e,0, /Add-Notification:1,e,0, /Add-Notification:1,e,0, /Add-Notification:1,e,0,\n100 dirquota template modify /Template:T /Add-Threshold:17\n100 dirquota template modify /Template:T /Remove-Threshold:16 /Add-Threshold:17\n100 dirquota quota add /Path:D:\\ /SourceTemplate:T /Add-Threshold:16\n100 dirquota quota add /Path:D:\\ /SourceTemplate:T /Add-Threshold:17\n")
    ≡ codes "1 refused OutOfRange\n2 ok\n3 refused OutOfRange\n4 refused OutOfRange\n5 ok\n6 refused OutOfRange\n7 ok\n"

-- words of these commands that are refused, and where. More than 32 names can't be excluded: that is judged after the name itself
abbrev pub template_words : Type 0
template_words =
    text default_capacity new_rows (codes "100 dirquota template\n100 dirquota template ad /Template:T\n100 dirquota template add /Template:T\n100 dirquota template add /Limit:1mb\n100 dirquota template add /Template: /Limit:1mb\n100 dirquota template add /Template:a|b /Limit:1mb\n100 dirquota template add /Template:T /Limit:1mb /UpdateDerived:all\n100 DIRQUOTA TEMPLATE ADD /TEMPLATE:T /LIMIT:1MB\n100 dirquota template add /Template:U /Template:V /Limit:1mb\n100 dirquota template modify /Template:T /UpdateDerived:some\n100 dirquota template modify /Template:T /updatederived:MATCHING\n100 dirquota template modify /Template:T /UpdateDerived:all /UpdateDerived:all\n100 dirquota template modify /Limit:1mb\n100 dirquota template delete\n100 dirquota template list /Template:T\n100 dirquota autoquota\n100 dirquota autoquota modify\n100 dirquota autoquota add /Path:D:\\\n100 dirquota autoquota add /SourceTemplate:T\n100 dirquota autoquota add /Path:D:\\ /SourceTemplate:T /Exclude:a?b\n100 dirquota autoquota add /Path:D:\\ /SourceTemplate:T /Exclude:\n100 dirquota autoquota delete\n100 dirquota quota add /Path:D:\\ /SourceTemplate:\n100 dirquota quota add /Path:D:\\ /SourceTemplate:T /SourceTemplate:T\n100 dirquota quota modify /Path:D:\\ /SourceTemplate:T\n100 dirquota autoquota add /Path:D:\\ /SourceTemplate:T /Exclude:a1 /Exclude:a2 /Exclude:a3 /Exclude:a4 /Exclude:a5 /Exclude:a6 /Exclude:a7 /Exclude:a8 /Exclude:a9 /Exclude:a10 /Exclude:a11 /Exclude:a12 /Exclude:a13 /Exclude:a14 /Exclude:a15 /Exclude:a16 /Exclude:a17 /Exclude:a18 /Exclude:a19 /Exclude:a20 /Exclude:a21 /Exclude:a22 /Exclude:a23 /Exclude:a24 /Exclude:a25 /Exclude:a26 /Exclude:a27 /Exclude:a28 /Exclude:a29 /Exclude:a30 /Exclude:a31 /Exclude:a32 /Exclude:. x\n100 dirquota autoquota add /Path:D:\\ /SourceTemplate:T /Exclude:a1 /Exclude:a2 /Exclude:a3 /Exclude:a4 /Exclude:a5 /Exclude:a6 /Exclude:a7 /Exclude:a8 /Exclude:a9 /Exclude:a10 /Exclude:a11 /Exclude:a12 /Exclude:a13 /Exclude:a14 /Exclude:a15 /Exclude:a16 /Exclude:a17 /Exclude:a18 /Exclude:a19 /Exclude:a20 /Exclude:a21 /Exclude:a22 /Exclude:a23 /Exclude:a24 /Exclude:a25 /Exclude:a26 /Exclude:a27 /Exclude:a28 /Exclude:a29 /Exclude:a30 /Exclude:a31 /Exclude:a32 /Exclude:b x\n100 dirquota autoquota add /Path:D:\\ /Exclude:a1 /Exclude:a2 /Exclude:a3 /Exclude:a4 /Exclude:a5 /Exclude:a6 /Exclude:a7 /Exclude:a8 /Exclude:a9 /Exclude:a10 /Exclude:a11 /Exclude:a12 /Exclude:a13 /Exclude:a14 /Exclude:a15 /Exclude:a16 /Exclude:a17 /Exclude:a18 /Exclude:a19 /Exclude:a20 /Exclude:a21 /Exclude:a22 /Exclude:a23 /Exclude:a24 /Exclude:a25 /Exclude:a26 /Exclude:a27 /Exclude:a28 /Exclude:a29 /Exclude:a30 /Exclude:a31 /Exclude:a32 /Exclude:\n100 dirquota autoquota add /Path:D:\\ /SourceTemplate:T /Exclude:a1 /Exclude:a2 /Exclude:a3 /Exclude:a4 /Exclude:a5 /Exclude:a6 /Exclude:a7 /Exclude:a8 /Exclude:a9 /Exclude:a10 /Exclude:a11 /Exclude:a12 /Exclude:a13 /Exclude:a14 /Exclude:a15 /Exclude:a16 /Exclude:a17 /Exclude:a18 /Exclude:a19 /Exclude:a20 /Exclude:a21 /Exclude:a22 /Exclude:a23 /Exclude:a24 /Exclude:a25 /Exclude:a26 /Exclude:a27 /Exclude:a28 /Exclude:a29 /Exclude:a30 /Exclude:a31 /Exclude:a32\n")
    ≡ codes "1 refused BadLine 22\n2 refused BadLine 23\n3 refused BadLine 38\n4 refused BadLine 37\n5 refused InvalidName\n6 refused InvalidName\n7 refused BadLine 50\n8 ok\n9 refused BadLine 39\n10 refused BadLine 42\n11 ok\n12 refused BadLine 61\n13 refused BadLine 40\n14 refused BadLine 29\n15 refused BadLine 28\n16 refused BadLine 23\n17 refused BadLine 24\n18 refused BadLine 37\n19 refused BadLine 45\n20 refused InvalidName\n21 refused InvalidName\n22 refused BadLine 30\n23 refused InvalidName\n24 refused BadLine 52\n25 refused BadLine 37\n26 refused InvalidName\n27 refused OutOfRange\n28 refused InvalidName\n29 ok\n"
