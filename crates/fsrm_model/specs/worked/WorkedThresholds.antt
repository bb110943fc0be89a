-- Worked examples of thresholds and the actions that run, as equations.
use Rattle.std.specs.Prelude.{◌≡◌, codes}
use Rattle.fsrm_model.specs.nodes.Fresh.{default_capacity, new_rows}
use Rattle.fsrm_model.specs.store.Lasting.{lasting}
use Rattle.fsrm_model.specs.lines.Script.{text, fold_script}

-- an action that ran less than its minutes ago runs no second time; a usage that stays above a threshold raises nothing
abbrev pub run_limit : Type 0
run_limit =
    text default_capacity new_rows (codes "1000000000 dirquota quota add /Path:D:\\ /Limit:100kb /Type:soft /Add-Notification:85,e,60,near\n1000000000 create D:\\a 90112 1\n1000000000 resize D:\\a 0\n1000001800 resize D:\\a 90112\n1000001800 resize D:\\a 0\n1000003660 resize D:\\a 90112\n1000003660 dirquota quota list /Path:D:\\\n")
    ≡ codes "1 ok\n2 ok\n  act quota 85 e D:\\|near\n3 ok\n4 ok\n5 ok\n6 ok\n  act quota 85 e D:\\|near\n7 ok\n  102400 soft complete 90112 90112 2001-09-09 01:46:40 D:\\\n    at 85 e 60 near\n"

-- a scan that ends above a threshold raises it
abbrev pub scan_ends_above : Type 0
scan_ends_above =
    text default_capacity new_rows (codes "100 mkdir D:\\h 1\n100 create D:\\h\\a 8192 1\n100 dirquota quota add /Path:D:\\h /Limit:8kb /Add-Notification:100,m,0,full\n160 step 1\n")
    ≡ codes "1 ok\n2 ok\n3 ok\n4 ok visited 1 of D:\\h done 8192\n  act quota 100 m D:\\h|full\n"

-- a file operation that a quota refuses raises the thresholds that it would have crossed; to the second when the run limit is over
abbrev pub refused_writes : Type 0
refused_writes =
    text default_capacity new_rows (codes "100 dirquota quota add /Path:D:\\ /Limit:100kb /Add-Notification:95,e,60,near\n100 create D:\\a 90112 1\n100 create D:\\b 16384 1\n100 create D:\\b 16384 1\n100 dirquota admin log\n3699 create D:\\b 16384 1\n3700 create D:\\b 16384 1\n")
    ≡ codes "1 ok\n2 ok\n3 refused QuotaExceeded 106496 102400 D:\\\n  act quota 95 e D:\\|near\n4 refused QuotaExceeded 106496 102400 D:\\\n5 ok\n  1970-01-01 00:01:40 quota 0 95 e\n6 refused QuotaExceeded 106496 102400 D:\\\n7 refused QuotaExceeded 106496 102400 D:\\\n  act quota 95 e D:\\|near\n"

-- only the quota that refuses raises its thresholds, not one above it; the moment is the last one exactly if an action ran
abbrev pub refused_below : Type 0
refused_below =
    text default_capacity new_rows (codes "100 dirquota quota add /Path:D:\\ /Limit:12kb /Add-Notification:90,e,0,root\n100 mkdir D:\\a 1\n100 dirquota quota add /Path:D:\\a /Limit:8kb /Add-Notification:100,e,60,deep /Add-Notification:150,m,60,more\n100 create D:\\a\\f 4096 1\n200 create D:\\a\\g 12288 1\n150 mkdir D:\\b 1\n300 create D:\\a\\g 12288 1\n250 mkdir D:\\b 1\n250 create D:\\a\\h 4096 1\n260 dirquota quota list\n260 dirquota admin log\n")
    ≡ codes "1 ok\n2 ok\n3 ok\n4 ok\n5 refused QuotaExceeded 16384 8192 D:\\a\n  act quota 100 e D:\\a|deep\n  act quota 150 m D:\\a|more\n6 refused ClockBack\n7 refused QuotaExceeded 16384 8192 D:\\a\n8 ok\n9 ok\n10 ok\n  12288 hard complete 8192 8192 1970-01-01 00:04:10 D:\\\n    at 90 e 0 root\n  8192 hard complete 8192 8192 1970-01-01 00:04:10 D:\\a\n    at 100 e 60 deep\n    at 150 m 60 more\n11 ok\n  1970-01-01 00:03:20 quota 1 100 e\n  1970-01-01 00:03:20 quota 1 150 m\n"

-- of quotas one above another the one that refuses raises its thresholds alone, here the upper one
abbrev pub refused_above : Type 0
refused_above =
    text default_capacity new_rows (codes "100 dirquota quota add /Path:D:\\ /Limit:8kb /Add-Notification:90,e,0,top\n100 mkdir D:\\a 1\n100 dirquota quota add /Path:D:\\a /Limit:1mb /Add-Notification:1,m,0,low\n100 create D:\\a\\f 12288 1\n")
    ≡ codes "1 ok\n2 ok\n3 ok\n4 refused QuotaExceeded 12288 8192 D:\\\n  act quota 90 e D:\\|top\n"

-- a move that is refused raises them too
abbrev pub refused_move : Type 0
refused_move =
    text default_capacity new_rows (codes "100 mkdir D:\\a 1\n100 create D:\\f 12288 1\n100 dirquota quota add /Path:D:\\a /Limit:8kb /Add-Notification:150,c,-1,in\n100 move D:\\f D:\\a\\f\n3699 move D:\\f D:\\a\\f\n3700 move D:\\f D:\\a\\f\n")
    ≡ codes "1 ok\n2 ok\n3 ok\n4 refused QuotaExceeded 12288 8192 D:\\a\n  act quota 150 c D:\\a|in\n5 refused QuotaExceeded 12288 8192 D:\\a\n6 refused QuotaExceeded 12288 8192 D:\\a\n  act quota 150 c D:\\a|in\n"

-- acts come by folder, percentage and place, whatever the order in which they were given; each crossing raises anew
abbrev pub acts_in_order : Type 0
acts_in_order =
    text default_capacity new_rows (codes "100 dirquota quota add /Path:D:\\ /Limit:8kb /Type:soft /Add-Notification:150,c,0,over\n100 mkdir D:\\a 1\n100 dirquota quota add /Path:D:\\a /Limit:8kb /Type:soft /Add-Notification:100,e,0,full /Add-Notification:50,m,0,half /Add-Notification:50,e,0,\n100 create D:\\a\\f 4096 1\n100 resize D:\\a\\f 12288\n100 resize D:\\a\\f 12287\n100 resize D:\\a\\f 1\n100 resize D:\\a\\f 8193\n")
    ≡ codes "1 ok\n2 ok\n3 ok\n4 ok\n  act quota 50 m D:\\a|half\n  act quota 50 e D:\\a|\n5 ok\n  act quota 150 c D:\\|over\n  act quota 100 e D:\\a|full\n6 ok\n7 ok\n8 ok\n  act quota 150 c D:\\|over\n  act quota 100 e D:\\a|full\n"

-- a limit that falls to a usage raises, at equality too, and so does a percentage that comes below it; one that is removed and comes back was reached before, and a quota that is disabled raises nothing
abbrev pub changed_quotas : Type 0
changed_quotas =
    text default_capacity new_rows (codes "100 dirquota quota add /Path:D:\\ /Limit:1mb /Type:soft /Add-Notification:80,e,0,a\n100 create D:\\f 8192 1\n100 dirquota quota modify /Path:D:\\ /Limit:10kb\n100 dirquota quota modify /Path:D:\\ /Remove-Threshold:80 /Add-Notification:80,m,0,b\n100 dirquota quota modify /Path:D:\\ /Add-Notification:79,m,0,c\n100 dirquota quota modify /Path:D:\\ /Status:disabled\n100 dirquota quota modify /Path:D:\\ /Limit:9kb /Add-Notification:10,e,0,d\n100 dirquota quota modify /Path:D:\\ /Status:enabled\n100 step 9\n")
    ≡ codes "1 ok\n2 ok\n3 ok\n  act quota 80 e D:\\|a\n4 ok\n5 ok\n  act quota 79 m D:\\|c\n6 ok\n7 ok\n8 ok\n9 ok visited 1 of D:\\ done 8192\n  act quota 10 e D:\\|d\n  act quota 79 m D:\\|c\n  act quota 80 m D:\\|b\n"

-- -1 stands for the setting, 0 for no limit; the log and the settings
abbrev pub run_limit_setting : Type 0
run_limit_setting =
    text default_capacity new_rows (codes "100 dirquota admin options /RunLimitInterval:1\n100 dirquota quota add /Path:D:\\ /Limit:8kb /Type:soft /Add-Notification:50,e,-1,s /Add-Notification:50,m,2,own\n100 create D:\\f 4096 1\n100 resize D:\\f 0\n159 resize D:\\f 1\n159 resize D:\\f 0\n160 resize D:\\f 1\n160 resize D:\\f 0\n160 dirquota admin options /RunLimitInterval:0\n160 resize D:\\f 1\n160 dirquota admin log\n160 dirquota admin list\n99 dirquota admin list\n99 dirquota admin log\n99 dirquota admin options /RunLimitInterval:0\n160 dirquota admin options /RunLimitInterval:-1\n160 dirquota admin options /RunLimitInterval:525601\n160 dirquota admin options\n160 dirquota admin options /RunLimitInterval:525600\n160 dirquota admin list /Path:D:\\\n160 dirquota admin show\n160 dirquota admin options /RunLimitInterval:1 /RunLimitInterval:x\n")
    ≡ codes "1 ok\n2 ok\n3 ok\n  act quota 50 e D:\\|s\n  act quota 50 m D:\\|own\n4 ok\n5 ok\n6 ok\n7 ok\n  act quota 50 e D:\\|s\n8 ok\n9 ok\n10 ok\n  act quota 50 e D:\\|s\n11 ok\n  1970-01-01 00:01:40 quota 0 50 e\n  1970-01-01 00:01:40 quota 0 50 m\n  1970-01-01 00:02:40 quota 0 50 e\n  1970-01-01 00:02:40 quota 0 50 e\n12 ok\n  runlimit 0\n  scans 0\n  nodes 2 65536\n  names 1 4194304\n13 refused ClockBack\n14 refused ClockBack\n15 refused ClockBack\n16 refused BadLine 28\n17 refused OutOfRange\n18 refused BadLine 27\n19 ok\n20 refused BadLine 25\n21 refused BadLine 20\n22 refused BadLine 48\n"

-- thresholds as they are given and listed: percentages ascend, actions keep the order in which they came
abbrev pub threshold_options : Type 0
threshold_options =
    text default_capacity new_rows (codes "1 dirquota quota add /Path:D:\\ /Limit:1mb /Add-Threshold:95 /Add-Notification:85,e,60,near /Add-Threshold:85 /Add-Notification:85,M,-1, /ADD-NOTIFICATION:100,c,0,run,now \"/Add-Notification:100,R,525600,a b, c\"\n1 dirquota quota list\n1 dirquota quota modify /Path:D:\\ /Add-Notification:85,e,5,again /Remove-Threshold:85 /Remove-Threshold:95\n1 dirquota quota list\n1 dirquota quota modify /Path:D:\\ /Remove-Threshold:95\n1 dirquota quota modify /Path:D:\\ /Remove-Threshold:85 /Remove-Threshold:85\n1 dirquota quota modify /Path:D:\\ /Remove-Threshold:1 /Add-Threshold:1\n1 dirquota quota modify /Path:D:\\ /Add-Threshold:1 /Add-Threshold:250\n1 dirquota quota list\n")
    ≡ codes "1 ok\n2 ok\n  1048576 hard complete 0 0 1970-01-01 00:00:01 D:\\\n    at 85 e 60 near\n    at 85 m -1 \n    at 95\n    at 100 c 0 run,now\n    at 100 r 525600 a b, c\n3 ok\n4 ok\n  1048576 hard complete 0 0 1970-01-01 00:00:01 D:\\\n    at 85 e 5 again\n    at 100 c 0 run,now\n    at 100 r 525600 a b, c\n5 refused NotFound\n6 refused NotFound\n7 refused NotFound\n8 ok\n9 ok\n  1048576 hard complete 0 0 1970-01-01 00:00:01 D:\\\n    at 1\n    at 85 e 5 again\n    at 100 c 0 run,now\n    at 100 r 525600 a b, c\n    at 250\n"

-- the forms of percentages and notifications; their commas are looked for first, and then their parts from left to right
abbrev pub threshold_values : Type 0
threshold_values =
    text default_capacity new_rows (codes "1 dirquota quota modify /Path:D:\\ /Add-Threshold:0\n1 dirquota quota modify /Path:D:\\ /Add-Threshold:251\n1 dirquota quota modify /Path:D:\\ /Remove-Threshold:251\n1 dirquota quota modify /Path:D:\\ /Add-Threshold:\n1 dirquota quota modify /Path:D:\\ /Add-Threshold:x\n1 dirquota quota modify /Path:D:\\ /Add-Notification:85,q\n1 dirquota quota modify /Path:D:\\ /Add-Notification:0,e,60\n1 dirquota quota modify /Path:D:\\ /Add-Notification:0,e,60,\n1 dirquota quota modify /Path:D:\\ /Add-Notification:251,q,60,\n1 dirquota quota modify /Path:D:\\ /Add-Notification:85,q,525601,\n1 dirquota quota modify /Path:D:\\ /Add-Notification:85,,60,\n1 dirquota quota modify /Path:D:\\ /Add-Notification:85,e,-2,\n1 dirquota quota modify /Path:D:\\ /Add-Notification:85,e,-01,\n1 dirquota quota modify /Path:D:\\ /Add-Notification:85,e,,\n1 dirquota quota modify /Path:D:\\ /Add-Notification:85,e,525601,\n1 dirquota quota modify /Path:D:\\ \"/Add-Notification:85,e,60,a\tb\"\n1 dirquota quota modify /Path:D:\\ /Add-Notification:,e,60,\n1 dirquota quota modify /Path:D:\\ /RunLimitInterval:1\n1 dirquota quota scan /Path:D:\\ /Add-Threshold:1\n1 dirquota quota modify /Path:D:\\ /Add-Threshold:00000000000000000250\n1 dirquota quota modify /Path:D:\\ /Add-Threshold:000000000000000000250\n")
    ≡ codes "1 refused OutOfRange\n2 refused OutOfRange\n3 refused OutOfRange\n4 refused BadLine 35\n5 refused BadLine 35\n6 refused BadLine 35\n7 refused BadLine 35\n8 refused OutOfRange\n9 refused OutOfRange\n10 refused BadLine 35\n11 refused BadLine 35\n12 refused BadLine 35\n13 refused BadLine 35\n14 refused BadLine 35\n15 refused OutOfRange\n16 refused InvalidName\n17 refused BadLine 35\n18 refused BadLine 35\n19 refused BadLine 33\n20 refused NotFound\n21 refused BadLine 35\n"

-- 16 thresholds and 8 actions of each, as the whole command leaves them
abbrev pub long_lists : Type 0
long_lists =
    text default_capacity new_rows (codes "1 dirquota quota add /Path:D:\\ /Limit:1kb /Add-Threshold:1 /Add-Threshold:2 /Add-Threshold:3 /Add-Threshold:4 /Add-Threshold:5 /Add-Threshold:6 /Add-Threshold:7 /Add-Threshold:8 /Add-Threshold:9 /Add-Threshold:10 /Add-Threshold:11 /Add-Threshold:12 /Add-Threshold:13 /Add-Threshold:14 /Add-Threshold:15 /Add-Threshold:16 /Add-Threshold:17\n1 dirquota quota add /Path:D:\\ /Limit:1kb /Add-Notification:1,e,0, /Add-Notification:1,e,0, /Add-Notification:1,e,0, /Add-Notification:1,e,0, /Add-Notification:1,e,0, /Add-Notification:1,e,0, /Add-Notification:1,e,0, /Add-Notification:1,e,0, /Add-Notification:1,e,0,\n1 dirquota quota add /Path:D:\\ /Limit:1kb /Add-Threshold:1 /Add-Threshold:2 /Add-Threshold:3 /Add-Threshold:4 /Add-Threshold:5 /Add-Threshold:6 /Add-Threshold:7 /Add-Threshold:8 /Add-Threshold:9 /Add-Threshold:10 /Add-Threshold:11 /Add-Threshold:12 /Add-Threshold:13 /Add-Threshold:14 /Add-Threshold:15 /Add-Threshold:16 /Add-Notification:16,e,0, /Add-Notification:16,e,0, /Add-Notification:16,e,0, /Add-Notification:16,e,0, /Add-Notification:16,e,0, /Add-Notification:16,e,0, /Add-Notification:16,e,0, /Add-Notification:16,e,0,\n1 dirquota quota modify /Path:D:\\ /Add-Threshold:17\n1 dirquota quota modify /Path:D:\\ /Add-Threshold:17 /Remove-Threshold:1\n1 dirquota quota modify /Path:D:\\ /Add-Notification:16,e,0,\n1 dirquota quota modify /Path:D:\\ /Remove-Threshold:16 /Add-Notification:16,e,0, /Add-Notification:16,e,0, /Add-Notification:16,e,0, /Add-Notification:16,e,0, /Add-Notification:16,e,0, /Add-Notification:16,e,0, /Add-Notification:16,e,0, /Add-Notification:16,e,0,\n1 dirquota quota add /Path:D:\\ /Limit:1kb /Add-Threshold:1 /Add-Threshold:2 /Add-Threshold:3 /Add-Threshold:4 /Add-Threshold:5 /Add-Threshold:6 /Add-Threshold:7 /Add-Threshold:8 /Add-Threshold:9 /Add-Threshold:10 /Add-Threshold:11 /Add-Threshold:12 /Add-Threshold:13 /Add-Threshold:14 /Add-Threshold:15 /Add-Threshold:16 /Add-Threshold:17\n1 dirquota quota modify /Path:D:\\ /Remove-Threshold:1 /Add-Threshold:20 /Add-Threshold:21 /Add-Threshold:22 /Add-Threshold:23 /Add-Threshold:24 /Add-Threshold:25 /Add-Threshold:26 /Add-Threshold:27 /Add-Threshold:28 /Add-Threshold:29 /Add-Threshold:30 /Add-Threshold:31 /Add-Threshold:32 /Add-Threshold:33 /Add-Threshold:34 /Add-Threshold:35 /Add-Threshold:36 /Add-Threshold:37 /Add-Threshold:38 /Add-Threshold:39\n")
    ≡ codes "1 refused OutOfRange\n2 refused OutOfRange\n3 ok\n4 refused OutOfRange\n5 ok\n6 refused OutOfRange\n7 ok\n8 refused AlreadyExists\n9 refused NotFound\n"

-- the runs of actions are kept from one run to the next
abbrev pub refused_then : Type 0
refused_then =
    text default_capacity (lasting (fold_script default_capacity new_rows (codes "100 dirquota quota add /Path:D:\\ /Limit:100kb /Add-Notification:95,e,60,near\n100 create D:\\a 90112 1\n100 create D:\\b 16384 1\n") 3)) (codes "100 create D:\\b 16384 1\n100 dirquota admin log\n3699 create D:\\b 16384 1\n3700 create D:\\b 16384 1\n")
    ≡ codes "1 refused QuotaExceeded 106496 102400 D:\\\n2 ok\n  1970-01-01 00:01:40 quota 0 95 e\n3 refused QuotaExceeded 106496 102400 D:\\\n4 refused QuotaExceeded 106496 102400 D:\\\n  act quota 95 e D:\\|near\n"
