-- The numbers that limit something.
use Rattle.std.specs.Prelude.{ℕ, ◌^◌, ◌-◌}

-- the greatest moment that a command may carry: 2099-12-31 23:59:59 UTC, in seconds since 1970-01-01 00:00:00 UTC
abbrev pub latest_moment : ℕ
latest_moment = 4102444799

-- the bytes of the longest file, 2^44 - 65,536
abbrev pub longest_file : ℕ
longest_file = 17592185978880

-- the greatest owner
abbrev pub last_owner : ℕ
last_owner = 2 ^ 32 - 1

-- the bytes of the longest line that is read
abbrev pub longest_line : ℕ
longest_line = 65536

-- the bytes of the longest path as a text, with its volume
abbrev pub longest_path : ℕ
longest_path = 65535

-- the bytes of the longest entry of a journal
abbrev pub longest_entry : ℕ
longest_entry = 131072

-- the bytes of a script that are read
abbrev pub longest_script : ℕ
longest_script = 2 ^ 32

-- the bytes of the longest name
abbrev pub longest_name : ℕ
longest_name = 255

-- the nodes, and the bytes of their names, of the largest store
abbrev pub most_nodes : ℕ
most_nodes = 1048576

abbrev pub most_names : ℕ
most_names = 268435456

-- the least and the greatest limit of a quota, in bytes
abbrev pub least_limit : ℕ
least_limit = 1024

abbrev pub greatest_limit : ℕ
greatest_limit = 2 ^ 60

-- how many quotas there may be
abbrev pub most_quotas : ℕ
most_quotas = 4096

-- the greatest percentage of a threshold, how many thresholds a quota or a template may have, how many actions each of them or a screen, and
-- the bytes of the longest text of an action
abbrev pub greatest_percent : ℕ
greatest_percent = 250

abbrev pub most_thresholds : ℕ
most_thresholds = 16

abbrev pub most_actions : ℕ
most_actions = 8

abbrev pub longest_action_text : ℕ
longest_action_text = 1024

-- how many templates and auto-apply quotas there may be, and how many names each of these may exclude
abbrev pub most_templates : ℕ
most_templates = 1024

abbrev pub most_autos : ℕ
most_autos = 1024

abbrev pub most_excluded : ℕ
most_excluded = 32

-- how many groups there may be, and how many members or non-members each of them
abbrev pub most_groups : ℕ
most_groups = 1024

abbrev pub most_patterns : ℕ
most_patterns = 64

-- how many screens and exceptions there may be, and how many groups each of them may have
abbrev pub most_screens : ℕ
most_screens = 4096

abbrev pub most_excepts : ℕ
most_excepts = 4096

abbrev pub most_screen_groups : ℕ
most_screen_groups = 16

-- how many visits one step of a scan may make
abbrev pub most_visits : ℕ
most_visits = 1000000

-- the bytes of all texts of objects: names of templates, groups and jobs, patterns, texts of actions, and the like
abbrev pub most_text_bytes : ℕ
most_text_bytes = 4194304

-- how many entries the log of actions keeps, and as many that of audits
abbrev pub most_entries : ℕ
most_entries = 1024

-- the greatest run limit of actions, in minutes
abbrev pub most_minutes : ℕ
most_minutes = 525600

-- how many report jobs there may be, and the bytes of the longest schedule of one
abbrev pub most_jobs : ℕ
most_jobs = 256

abbrev pub longest_schedule : ℕ
longest_schedule = 200

-- what a report may be asked for: the most days that it looks back, the greatest percentage of a limit, and the most rows
abbrev pub most_days : ℕ
most_days = 36500

abbrev pub most_use : ℕ
most_use = 1000

abbrev pub most_rows : ℕ
most_rows = 100000
