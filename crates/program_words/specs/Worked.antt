-- Some words, and what they ask for.
use Rattle.std.specs.Prelude.{◌≡◌, ◌==◌, ℕ, Bool, [], ◌∷◌, Some, None, codes}
use Rattle.std.specs.List.{slice_split}
use Rattle.clap.specs.Words.{Text}
use Rattle.program_words.specs.Modes.{mode}
use Rattle.program_words.specs.declared.modes.Mode.{Mode}
use Rattle.program_words.specs.declared.modes.Mode.TheVariants.{Init, Replay, Show, Outbox, Work, Expire, Tick}

abbrev pub is_blank : ℕ → Bool
is_blank byte = byte == 32

-- the words of this line, with one blank between two of them, ask for this mode, or for nothing
abbrev pub asks : Text → Mode → Type 0
asks line asked = mode (slice_split is_blank line) ≡ Some asked

abbrev pub asks_nothing : Text → Type 0
asks_nothing line = mode (slice_split is_blank line) ≡ None

-- a store of the usual size, and of others
abbrev pub new_stores : Type 0
new_stores =
    asks (codes "init") (Init (record { nodes = 65536; names = 4194304; cluster = 4096 }))
    × asks (codes "init --nodes 2 --names 256 --cluster 512") (Init (record { nodes = 2; names = 256; cluster = 512 }))
    × asks (codes "--cluster=65536 init --nodes=1048576") (Init (record { nodes = 1048576; names = 4194304; cluster = 65536 }))

-- each size has its range
abbrev pub sizes_out_of_range : Type 0
sizes_out_of_range =
    asks_nothing (codes "init --nodes 1")
    × asks_nothing (codes "init --nodes 1048577")
    × asks_nothing (codes "init --names 255")
    × asks_nothing (codes "init --names 268435457")
    × asks_nothing (codes "init --cluster 1000")

-- an option stands before its mode or after it, in one word or in two
abbrev pub groups : Type 0
groups =
    asks (codes "replay") (Replay 1)
    × asks (codes "replay --group 1024") (Replay 1024)
    × asks (codes "--group 8 replay") (Replay 8)
    × asks (codes "replay --group=8") (Replay 8)
    × asks_nothing (codes "replay --group 0")
    × asks_nothing (codes "replay --group 1025")

-- a number has 1 to 20 digits, and nothing else
abbrev pub numbers : Type 0
numbers =
    asks (codes "replay --group 00000000000000000008") (Replay 8)
    × asks_nothing (codes "replay --group 000000000000000000008")
    × asks_nothing (codes "replay --group +8")
    × asks_nothing (codes "replay --group -8")
    × asks_nothing (codes "replay --group=")
    × asks_nothing (codes "replay --group")
    × asks_nothing (codes "replay --group 18446744073709551616")

-- an option is given once, and with its own mode alone
abbrev pub options : Type 0
options =
    asks_nothing (codes "replay --group 8 --group 8")
    × asks_nothing (codes "init --group 1")
    × asks_nothing (codes "replay --nodes 8")
    × asks_nothing (codes "show --group 1")
    × asks_nothing (codes "show --cluster 4096")
    × asks_nothing (codes "show --size 8")
    × asks_nothing (codes "outbox --group 1 0")
    × asks_nothing (codes "outbox 0 --nodes 2")

-- `outbox` takes one moment that has a date. clap takes what begins with `-` for an option, up to `--`
abbrev pub outboxes : Type 0
outboxes =
    asks (codes "outbox 0") (Outbox 0)
    × asks (codes "outbox 00000000004102444799") (Outbox 4102444799)
    × asks (codes "outbox -- 8") (Outbox 8)
    × asks (codes "-- outbox 8") (Outbox 8)
    × asks_nothing (codes "outbox")
    × asks_nothing (codes "outbox 4102444800")
    × asks_nothing (codes "outbox 8 8")
    × asks_nothing (codes "outbox -8")
    × asks_nothing (codes "outbox -- -8")
    × asks_nothing (codes "outbox 000000000000000000008")

-- `work` takes a seed of 64 bits, and how many commands
abbrev pub works : Type 0
works =
    asks (codes "work 7 40") (Work 7 40)
    × asks (codes "work 18446744073709551615 1000000") (Work 18446744073709551615 1000000)
    × asks (codes "work 7 -- 40") (Work 7 40)
    × asks_nothing (codes "work 7")
    × asks_nothing (codes "work 7 40 1")
    × asks_nothing (codes "work 7 0")
    × asks_nothing (codes "work 7 1000001")
    × asks_nothing (codes "work 18446744073709551616 1")
    × asks_nothing (codes "work 7 --group 8 40")

-- `expire` takes two paths, days, a pattern and a moment. What begins with `-` and has more is an option
abbrev pub expires : Type 0
expires =
    asks (codes "expire D:\\a D:\\old\\b 36500 *.tmp 1000864000") (Expire (codes "a" ∷ []) (codes "old" ∷ codes "b" ∷ []) 36500 (codes "*.tmp") 1000864000)
    × asks (codes "expire d:\\ D:\\a\\ 0 - 0") (Expire [] (codes "a" ∷ []) 0 (codes "-") 0)
    × asks (codes "expire -- D:\\a D:\\b 1 -x 1") (Expire (codes "a" ∷ []) (codes "b" ∷ []) 1 (codes "-x") 1)
    × asks_nothing (codes "expire D:\\a D:\\b 1 -x 1")
    × asks_nothing (codes "expire D:a D:\\b 1 * 1")
    × asks_nothing (codes "expire D:\\a E:\\b 1 * 1")
    × asks_nothing (codes "expire D:\\a D:\\b 36501 * 1")
    × asks_nothing (codes "expire D:\\a D:\\b 1 a|b 1")
    × asks_nothing (codes "expire D:\\a D:\\b 1 * 4102444800")
    × asks_nothing (codes "expire D:\\a D:\\b 1 *")

-- `tick` takes a moment that has a date
abbrev pub ticks : Type 0
ticks =
    asks (codes "tick 1000000800") (Tick 1000000800)
    × asks (codes "tick -- 4102444799") (Tick 4102444799)
    × asks_nothing (codes "tick")
    × asks_nothing (codes "tick 4102444800")
    × asks_nothing (codes "tick 1 1")
    × asks_nothing (codes "tick --group 8 1")

-- no word follows another mode but `--`
abbrev pub other_words : Type 0
other_words =
    asks (codes "show") Show
    × asks (codes "replay --") (Replay 1)
    × asks (codes "-- show") Show
    × asks_nothing (codes "show 1")
    × asks_nothing (codes "replay show")
    × asks_nothing (codes "replay -- --group")

-- a mode is named in lower case, and help and version are no modes
abbrev pub no_modes : Type 0
no_modes =
    (mode [] ≡ None)
    × asks_nothing (codes "")
    × asks_nothing (codes "Replay")
    × asks_nothing (codes "replays")
    × asks_nothing (codes "--group 8")
    × asks_nothing (codes "--help")
    × asks_nothing (codes "-V")
    × asks_nothing (codes "replay --help")
