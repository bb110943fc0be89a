-- Worked examples, as equations.
use Rattle.std.specs.Prelude.{◌≡◌, [], codes}
use Rattle.std.specs.Str.{encode_utf8_all}
use Rattle.fsrm_model.specs.nodes.Fresh.{default_capacity, new_rows}
use Rattle.fsrm_model.specs.lines.Script.{text}

-- the empty script
abbrev pub nothing_done : Type 0
nothing_done = text default_capacity new_rows [] ≡ []

-- files in the root and their sum; the last line has no LF
abbrev pub first_files : Type 0
first_files =
    text default_capacity new_rows (codes "0 create D:\\a 5000 1\n0 create D:\\a 1 1\n0 usage D:\\\nx")
    ≡ codes "1 ok\n2 refused AlreadyExists\n3 ok\n  8192 D:\\\n4 refused BadLine 1\n"

-- a moment that is earlier than the last
abbrev pub clock : Type 0
clock =
    text default_capacity new_rows (codes "100 mkdir D:\\a 1\n99 mkdir D:\\b 1\n100 mkdir D:\\b 1\n")
    ≡ codes "1 ok\n2 refused ClockBack\n3 ok\n"

-- a move below itself, a removal of a folder with a child, and another spelling of a name
abbrev pub moves : Type 0
moves =
    text default_capacity new_rows (codes "100 mkdir D:\\a 1\n100 mkdir D:\\a\\b 1\n100 move D:\\a D:\\a\\b\\c\n100 remove D:\\a\n100 move D:\\a D:\\A\n100 usage D:\\a\n100 mkdir D:\\a 1\n")
    ≡ codes "1 ok\n2 ok\n3 refused InvalidMove\n4 refused NotEmpty\n5 ok\n6 ok\n  0 D:\\A\n7 refused AlreadyExists\n"

-- columns, and the refusals of words; the fifth line is skipped
abbrev pub bad_lines : Type 0
bad_lines =
    text default_capacity new_rows (codes "100 mkdri D:\\a 1\n100 mkdir D:\\a\n100 mkdir E:\\a 1\n100 mkdir \"D:\\a 1\n# note\n100 step 0\n100 dirquota quota add /Path:D:\\ /Limit:1023\n100 create D:\\f 17592185978881 1\n100 mkdir D:\\a?b 1\n100 dirquota quota add /Path:D:\\\n4102444800 step 1\n")
    ≡ codes "1 refused BadLine 5\n2 refused BadLine 15\n3 refused InvalidPath\n4 refused BadLine 11\n6 refused OutOfRange\n7 refused InvalidLimit\n8 refused OutOfRange\n9 refused InvalidName\n10 refused BadLine 33\n11 refused OutOfRange\n"

-- blanks, quotes within and around words, a CR, letters of either case, a backslash at the end, and one word too many
abbrev pub words_apart : Type 0
words_apart =
    text default_capacity new_rows (codes " 1\tMkDir \"d:\\a b\"\\c\" \" 1\n1 mkdir D:\\\"a b\"\\ 1 \r\n\t # none\n1 mkdir D:\\x 1 \"\"\n1 mkdir D:\\x \"\"\n1 mkdir D:\\\\ 1\n1 mkdir D:\\a\\\\b? 1\n1 usage \"D:\\a b\"\n")
    ≡ codes "1 refused PathNotFound\n2 ok\n4 refused BadLine 16\n5 refused BadLine 14\n6 refused InvalidPath\n7 refused InvalidPath\n8 ok\n  0 D:\\a b\n"

-- refusals of the root, and of places that are taken or lead to nothing; a file that moves and grows, and is removed
abbrev pub root_and_places : Type 0
root_and_places =
    text default_capacity new_rows (codes "5 create D:\\f 1 1\n5 mkdir D:\\ 1\n5 remove D:\\\n5 move D:\\ D:\\x\n5 move D:\\f D:\\\n5 move D:\\f D:\\f\\x\n5 resize D:\\ 1\n5 touch D:\\g\n5 mkdir D:\\d 1\n5 move D:\\d D:\\F\n5 move D:\\f D:\\D\\g\n5 resize D:\\d\\G 4097\n5 usage D:\\d\n5 remove D:\\d\\g\n5 remove D:\\d\n5 usage D:\\d\n")
    ≡ codes "1 ok\n2 refused AlreadyExists\n3 refused InvalidMove\n4 refused InvalidMove\n5 refused AlreadyExists\n6 refused PathNotFound\n7 refused PathNotFound\n8 refused PathNotFound\n9 ok\n10 refused AlreadyExists\n11 ok\n12 ok\n13 ok\n  8192 D:\\d\n14 ok\n15 ok\n16 refused PathNotFound\n"

-- a name that is there is refused before a full volume is; a number that a removal gave back is used again
abbrev pub few_nodes : Type 0
few_nodes =
    text (record { nodes = 2; names = 256; cluster = 4096 }) new_rows (codes "100 mkdir D:\\a 1\n100 mkdir D:\\A 1\n100 mkdir D:\\b 1\n100 remove D:\\a\n100 mkdir D:\\b 1\n")
    ≡ codes "1 ok\n2 refused AlreadyExists\n3 refused VolumeFull\n4 ok\n5 ok\n"

-- names that would have more bytes than the volume has room for; a move gives back the old name's
abbrev pub few_name_bytes : Type 0
few_name_bytes =
    text (record { nodes = 9; names = 3; cluster = 4096 }) new_rows (codes "100 create D:\\nn 0 1\n100 mkdir D:\\b 1\n100 mkdir D:\\c 1\n100 move D:\\b D:\\c\n100 move D:\\c D:\\cc\n")
    ≡ codes "1 ok\n2 ok\n3 refused NamesFull\n4 ok\n5 refused NamesFull\n"

-- names are compared after simple folding, each character by itself: sharp s is no ss, a final sigma is a sigma
abbrev pub folded_names : Type 0
folded_names =
    text default_capacity new_rows (encode_utf8_all (codes "1 mkdir D:\\ß 1\n1 mkdir D:\\SS 1\n1 mkdir D:\\ẞ 1\n1 mkdir D:\\σ 1\n1 mkdir D:\\ς 1\n1 mkdir D:\\K 1\n1 mkdir D:\\K 1\n1 mkdir D:\\İ 1\n1 mkdir D:\\i 1\n1 mkdir D:\\s 1\n1 mkdir D:\\ſ 1\n"))
    ≡ codes "1 ok\n2 ok\n3 refused AlreadyExists\n4 ok\n5 refused AlreadyExists\n6 ok\n7 refused AlreadyExists\n8 ok\n9 ok\n10 ok\n11 refused AlreadyExists\n"

-- a usage counts whole clusters
abbrev pub rounded_usage : Type 0
rounded_usage =
    text default_capacity new_rows (codes "100 dirquota quota add /Path:D:\\ /Limit:10kb\n101 create D:\\a 8192 7\n102 create D:\\b 1 7\n")
    ≡ codes "1 ok\n2 ok\n3 refused QuotaExceeded 12288 10240 D:\\\n"

-- a byte takes a whole cluster, of whatever size the volume's are
abbrev pub large_clusters : Type 0
large_clusters =
    text (record default_capacity { cluster = 65536 }) new_rows (codes "100 create D:\\a 1 1\n100 usage D:\\\n")
    ≡ codes "1 ok\n2 ok\n  65536 D:\\\n"

abbrev pub small_clusters : Type 0
small_clusters =
    text (record default_capacity { cluster = 512 }) new_rows (codes "100 dirquota quota add /Path:D:\\ /Limit:1kb\n100 create D:\\a 513 1\n100 create D:\\b 1 1\n")
    ≡ codes "1 ok\n2 ok\n3 refused QuotaExceeded 1536 1024 D:\\\n"

-- the quota of a folder above may be the one that refuses
abbrev pub nested_quotas : Type 0
nested_quotas =
    text default_capacity new_rows (codes "100 mkdir D:\\u 1\n100 dirquota quota add /Path:D:\\u /Limit:1mb\n100 mkdir D:\\u\\v 1\n100 dirquota quota add /Path:D:\\u\\v /Limit:10mb\n100 create D:\\u\\v\\f 1048576 1\n100 create D:\\u\\v\\g 1 1\n100 dirquota quota list\n")
    ≡ codes "1 ok\n2 ok\n3 ok\n4 ok\n5 ok\n6 refused QuotaExceeded 1052672 1048576 D:\\u\n7 ok\n  1048576 hard complete 1048576 1048576 1970-01-01 00:01:40 D:\\u\n  10485760 hard complete 1048576 1048576 1970-01-01 00:01:40 D:\\u\\v\n"

-- a usage may come up to the limit
abbrev pub up_to_the_limit : Type 0
up_to_the_limit =
    text default_capacity new_rows (codes "100 dirquota quota add /Path:D:\\ /Limit:8kb\n100 create D:\\a 8192 1\n100 resize D:\\a 8193\n")
    ≡ codes "1 ok\n2 ok\n3 refused QuotaExceeded 12288 8192 D:\\\n"

-- above a limit that was lowered a file may shrink, and grow within its last cluster
abbrev pub above_the_limit : Type 0
above_the_limit =
    text default_capacity new_rows (codes "100 dirquota quota add /Path:D:\\ /Limit:64kb\n100 create D:\\a 40960 1\n100 dirquota quota modify /Path:D:\\ /Limit:16kb\n100 resize D:\\a 20480\n100 resize D:\\a 20479\n100 resize D:\\a 24577\n")
    ≡ codes "1 ok\n2 ok\n3 ok\n4 ok\n5 ok\n6 refused QuotaExceeded 28672 16384 D:\\\n"

-- a move below a quota that holds both places
abbrev pub move_below_a_quota : Type 0
move_below_a_quota =
    text default_capacity new_rows (codes "100 dirquota quota add /Path:D:\\ /Limit:8kb\n100 mkdir D:\\x 1\n100 create D:\\a 8192 1\n100 move D:\\a D:\\x\\a\n")
    ≡ codes "1 ok\n2 ok\n3 ok\n4 ok\n"

-- a folder in use gets a quota: its files are counted in two steps, with one that came in between, and then the quota counts
abbrev pub scan_in_steps : Type 0
scan_in_steps =
    text default_capacity new_rows (codes "100 mkdir D:\\h 1\n100 create D:\\h\\a 5000 1\n100 mkdir D:\\h\\s 1\n100 create D:\\h\\s\\b 1 1\n100 dirquota quota add /Path:D:\\h /Limit:4kb\n101 create D:\\h\\c 1 1\n102 step 1\n103 step 1\n104 create D:\\h\\d 1 1\n")
    ≡ codes "1 ok\n2 ok\n3 ok\n4 ok\n5 ok\n6 ok\n7 ok visited 1 of D:\\h\n8 ok visited 1 of D:\\h done 16384\n9 refused QuotaExceeded 20480 4096 D:\\h\n"

-- a visited folder that is moved under an unvisited one is visited again
abbrev pub visited_again : Type 0
visited_again =
    text default_capacity new_rows (codes "100 mkdir D:\\h 1\n100 mkdir D:\\h\\a 1\n100 mkdir D:\\h\\b 1\n100 create D:\\h\\a\\f 4096 1\n100 dirquota quota add /Path:D:\\h /Limit:1mb\n100 step 2\n100 move D:\\h\\a D:\\h\\b\\a\n100 step 1\n100 step 5\n")
    ≡ codes "1 ok\n2 ok\n3 ok\n4 ok\n5 ok\n6 ok visited 2 of D:\\h\n7 ok\n8 ok visited 1 of D:\\h\n9 ok visited 1 of D:\\h done 4096\n"

-- a folder of which a part is visited goes out of the scanned tree, and comes back, or doesn't
abbrev pub out_and_back : Type 0
out_and_back =
    text default_capacity new_rows (codes "100 mkdir D:\\h 1\n100 mkdir D:\\h\\m 1\n100 mkdir D:\\h\\m\\n 1\n100 create D:\\h\\m\\f 1 1\n100 create D:\\h\\m\\n\\g 1 1\n100 dirquota quota add /Path:D:\\h /Limit:1mb\n100 step 2\n100 move D:\\h\\m D:\\m\n100 move D:\\m D:\\h\\m\n100 step 1\n100 step 1\n")
    ≡ codes "1 ok\n2 ok\n3 ok\n4 ok\n5 ok\n6 ok\n7 ok visited 2 of D:\\h\n8 ok\n9 ok\n10 ok visited 1 of D:\\h\n11 ok visited 1 of D:\\h done 8192\n"

abbrev pub out_for_good : Type 0
out_for_good =
    text default_capacity new_rows (codes "100 mkdir D:\\h 1\n100 mkdir D:\\h\\m 1\n100 mkdir D:\\h\\m\\n 1\n100 create D:\\h\\m\\f 1 1\n100 create D:\\h\\m\\n\\g 1 1\n100 dirquota quota add /Path:D:\\h /Limit:1mb\n100 step 2\n100 move D:\\h\\m D:\\m\n100 step 1\n")
    ≡ codes "1 ok\n2 ok\n3 ok\n4 ok\n5 ok\n6 ok\n7 ok visited 2 of D:\\h\n8 ok\n9 ok visited 0 of D:\\h done 0\n"

-- what is refused of scans, and a disabled quota that is enabled while its folder has a child
abbrev pub scan_refusals : Type 0
scan_refusals =
    text default_capacity new_rows (codes "100 step 1\n100 dirquota quota scan /Path:D:\\\n100 dirquota quota add /Path:D:\\ /Limit:1kb /Status:disabled\n100 dirquota quota scan /Path:D:\\\n100 create D:\\f 5000 1\n100 dirquota quota add /Path:D:\\ /Limit:1kb\n100 dirquota quota modify /Path:D:\\ /Status:enabled\n100 step 1\n100 dirquota quota resetpeak /Path:D:\\x\n")
    ≡ codes "1 refused NothingToScan\n2 refused NotFound\n3 ok\n4 refused InvalidCombination\n5 ok\n6 refused AlreadyExists\n7 ok\n8 ok visited 1 of D:\\ done 8192\n9 refused PathNotFound\n"

-- the queue: a quota that is disabled leaves it to the next, one that is scanned anew goes to its end, and while it waits
-- it neither refuses nor shows what is used
abbrev pub scans_in_turn : Type 0
scans_in_turn =
    text default_capacity new_rows (codes "100 mkdir D:\\a 1\n100 create D:\\a\\f 1 1\n100 mkdir D:\\b 1\n100 create D:\\b\\f 1 1\n100 dirquota quota add /Path:D:\\a /Limit:4kb\n100 dirquota quota add /Path:D:\\b /Limit:4kb\n100 dirquota quota list\n100 dirquota quota modify /Path:D:\\a /Status:disabled\n100 step 9\n100 create D:\\b\\g 1 1\n100 dirquota quota scan /Path:D:\\b\n100 create D:\\b\\g 1 1\n100 dirquota quota list\n100 step 9\n100 dirquota quota list\n100 step 9\n")
    ≡ codes "1 ok\n2 ok\n3 ok\n4 ok\n5 ok\n6 ok\n7 ok\n  4096 hard rebuilding - 0 1970-01-01 00:01:40 D:\\a\n  4096 hard rebuilding - 0 1970-01-01 00:01:40 D:\\b\n8 ok\n9 ok visited 1 of D:\\b done 4096\n10 refused QuotaExceeded 8192 4096 D:\\b\n11 ok\n12 ok\n13 ok\n  4096 hard disabled - 0 1970-01-01 00:01:40 D:\\a\n  4096 hard rebuilding - 4096 1970-01-01 00:01:40 D:\\b\n14 ok visited 1 of D:\\b done 8192\n15 ok\n  4096 hard disabled - 0 1970-01-01 00:01:40 D:\\a\n  4096 hard complete 8192 8192 1970-01-01 00:01:40 D:\\b\n16 refused NothingToScan\n"

-- options: in any order, each once and in its form, and none that is missing. They are judged from left to right
abbrev pub quota_options : Type 0
quota_options =
    text default_capacity new_rows (codes "1 mkdir D:\\a 1\n1 DirQuota QUOTA Add /Type:SOFT /limit:1KB \"/PATH:D:\\a\"\n1 dirquota quota list\n1 dirquota quota add /Path:D:\\a /Limit:1kb /Path:x\n1 dirquota quota add /Path:D:\\a /Limit:1kb /Limit:1\n1 dirquota quota modify /Path:D:\\a /Type:hard /Type:hard\n1 dirquota quota add /Path:D:\\a /Limit:1kb /Color:red\n1 dirquota quota add /Path:D:\\a /Limit\n1 dirquota quota modify /Path:D:\\a /Type:medium\n1 dirquota quota delete /Path:D:\\a /Limit:1kb\n1 dirquota quotas list\n1 dirquota quota show\n1 dirquota\n1 dirquota quota\n1 dirquota quota add /Limit:1kb\n1 dirquota quota add /Path:D:\\a \n1 dirquota quota delete\n1 dirquota quota modify /Limit:1kb\n1 dirquota quota add /Path:E:\\a /Limit:1\n1 dirquota quota add /Limit:1 /Path:E:\\a\n1 dirquota quota add /Path:D:\\a:b /Limit:1kb\n")
    ≡ codes "1 ok\n2 ok\n3 ok\n  1024 soft complete 0 0 1970-01-01 00:00:01 D:\\a\n4 refused BadLine 44\n5 refused BadLine 44\n6 refused BadLine 47\n7 refused BadLine 44\n8 refused BadLine 33\n9 refused BadLine 36\n10 refused BadLine 36\n11 refused BadLine 12\n12 refused BadLine 18\n13 refused BadLine 11\n14 refused BadLine 17\n15 refused BadLine 32\n16 refused BadLine 33\n17 refused BadLine 24\n18 refused BadLine 35\n19 refused InvalidPath\n20 refused InvalidLimit\n21 refused InvalidName\n"

-- the least and the greatest limit, and units in letters of either case
abbrev pub quota_limits : Type 0
quota_limits =
    text default_capacity new_rows (codes "1 dirquota quota add /Path:D:\\ /Limit:1024\n1 dirquota quota modify /Path:D:\\ /Limit:1023\n1 dirquota quota modify /Path:D:\\ /Limit:1048577tb\n1 dirquota quota modify /Path:D:\\ /Limit:1048576tb\n1 dirquota quota list\n1 dirquota quota modify /Path:D:\\ /Limit:3gB\n1 dirquota quota list\n1 dirquota quota modify /Path:D:\\ /Limit:000000000000000000000007Mb /Type:Soft\n1 dirquota quota list\n1 dirquota quota modify /Path:D:\\ /Limit:kb\n1 dirquota quota modify /Path:D:\\ /Limit:\n1 dirquota quota modify /Path:D:\\ /Limit:1kib\n1 dirquota quota modify /Path:D:\\ /Limit:1.5kb\n")
    ≡ codes "1 ok\n2 refused InvalidLimit\n3 refused InvalidLimit\n4 ok\n5 ok\n  1152921504606846976 hard complete 0 0 1970-01-01 00:00:01 D:\\\n6 ok\n7 ok\n  3221225472 hard complete 0 0 1970-01-01 00:00:01 D:\\\n8 ok\n9 ok\n  7340032 soft complete 0 0 1970-01-01 00:00:01 D:\\\n10 refused BadLine 35\n11 refused BadLine 35\n12 refused BadLine 35\n13 refused BadLine 35\n"

-- a soft quota refuses nothing; a peak and its moment, and how it is reset
abbrev pub quota_peaks : Type 0
quota_peaks =
    text default_capacity new_rows (codes "100 mkdir D:\\a 1\n100 dirquota quota add /Path:D:\\a /Limit:8kb /Type:soft\n200 create D:\\a\\f 10000 1\n951782400 resize D:\\a\\f 1\n951782400 dirquota quota list /Path:D:\\a\n951868799 dirquota quota resetpeak /Path:D:\\a\n951868799 dirquota quota list\n951868800 dirquota quota modify /Path:D:\\a /Limit:1gb /Type:hard\n4102444799 create D:\\a\\g 1 1\n4102444799 dirquota quota list\n")
    ≡ codes "1 ok\n2 ok\n3 ok\n4 ok\n5 ok\n  8192 soft complete 4096 12288 1970-01-01 00:03:20 D:\\a\n6 ok\n7 ok\n  8192 soft complete 4096 4096 2000-02-29 23:59:59 D:\\a\n8 ok\n9 ok\n10 ok\n  1073741824 hard complete 8192 8192 2099-12-31 23:59:59 D:\\a\n"

-- a quota that is deleted, and one whose folder is removed, are gone
abbrev pub quotas_gone : Type 0
quotas_gone =
    text default_capacity new_rows (codes "1 mkdir D:\\a 1\n1 mkdir D:\\b 1\n1 dirquota quota add /Path:D:\\b /Limit:8kb\n1 dirquota quota add /Path:D:\\a /Limit:4kb\n1 dirquota quota list\n1 dirquota quota delete /Path:D:\\a\n1 dirquota quota delete /Path:D:\\a\n1 dirquota quota modify /Path:D:\\a\n1 dirquota quota resetpeak /Path:D:\\a\n1 dirquota quota list /Path:D:\\a\n1 dirquota quota delete /Path:D:\\c\n1 dirquota quota modify /Path:D:\\c\n1 dirquota quota resetpeak /Path:D:\\c\n1 dirquota quota list /Path:D:\\c\n1 dirquota quota add /Path:D:\\c /Limit:1kb\n1 dirquota quota list\n1 remove D:\\b\n1 dirquota quota list\n1 mkdir D:\\b 1\n1 dirquota quota list /Path:D:\\b\n0 dirquota quota list\n")
    ≡ codes "1 ok\n2 ok\n3 ok\n4 ok\n5 ok\n  4096 hard complete 0 0 1970-01-01 00:00:01 D:\\a\n  8192 hard complete 0 0 1970-01-01 00:00:01 D:\\b\n6 ok\n7 refused NotFound\n8 refused NotFound\n9 refused NotFound\n10 refused NotFound\n11 refused PathNotFound\n12 refused PathNotFound\n13 refused PathNotFound\n14 refused PathNotFound\n15 refused PathNotFound\n16 ok\n  8192 hard complete 0 0 1970-01-01 00:00:01 D:\\b\n17 ok\n18 ok\n19 ok\n20 refused NotFound\n21 refused ClockBack\n"
