-- What the words ask for: the rules of each mode, over what clap finds in the words.
use Rattle.std.specs.Prelude.{⊤, ◌≡◌, ℕ, ◌≤◌, ◌==◌, ◌&&◌, ◌||◌, nat_le, Bool, true, false, not, List, [], ◌∷◌, length, Option, Some, None, is_some, option_map, Result, Ok, Err, if◌then◌else◌, codes, bytes_eq, unwrap_or}
use Rattle.std.specs.Option.{option_map_or}
use Rattle.clap.specs.Words.{Row, Text, all_of, first_of, fault_of, matches_of}
use Rattle.fsrm_model.specs.declared.row.Capacity.{Capacity}
use Rattle.fsrm_model.specs.lines.Reading.{Read, path_from}
use Rattle.fsrm_model.specs.nodes.Fresh.{default_capacity}
use Rattle.fsrm_model.specs.store.Capacities.{is_capacity}
use Rattle.fsrm_model.specs.values.Limits.{latest_moment}
use Rattle.fsrm_model.specs.values.Patterns.{is_pattern}
use Rattle.program_words.specs.Command.{fsrm_app}
use Rattle.program_words.specs.Numbers.{number_in}
use Rattle.program_words.specs.declared.fault.WordsFault.{WordsFault}
use Rattle.program_words.specs.declared.fault.WordsFault.TheVariants.{Usage, NoMemory}
use Rattle.program_words.specs.declared.modes.Mode.{Mode}
use Rattle.program_words.specs.declared.modes.Mode.TheVariants.{Init, Replay, Show, Outbox, Work, Expire, Tick}

-- what is read next, if this could be read
infixl 10 ◌>>=◌
abbrev pub ◌>>=◌ : {A B : Type 0} → Option A → (A → Option B) → Option B
(Some x) >>= f = f x
None >>= f = None

-- x, if the test holds
abbrev pub guarded : {A : Type 0} → Bool → A → Option A
guarded true x = Some x
guarded false x = None

abbrev pub is_empty : {A : Type 0} → List A → Bool
is_empty xs = length xs == 0

-- the words after the one that names the mode
abbrev pub rest_of : List Row → List Text
rest_of rows = unwrap_or (all_of (codes "REST") rows) []

abbrev pub has_rest : List Row → Bool
has_rest rows = not (is_empty (rest_of rows))

-- whether an option is given
abbrev pub gives : Text → List Row → Bool
gives id rows = is_some (first_of id rows)

-- whether an option is given that says how large a new store is
abbrev pub gives_size : List Row → Bool
gives_size rows = gives (codes "nodes") rows || (gives (codes "names") rows || gives (codes "cluster") rows)

-- the number of 32 bits that an option gives, or what holds without it
abbrev pub number_or : ℕ → Text → List Row → Option ℕ
number_or usual id rows = option_map_or (number_in 0 4294967295) (first_of id rows) (Some usual)

abbrev pub size_of : List Row → Option Capacity
size_of rows = do
  nodes ← number_or default_capacity.nodes (codes "nodes") rows
  names ← number_or default_capacity.names (codes "names") rows
  cluster ← number_or default_capacity.cluster (codes "cluster") rows
  Some (record { nodes = nodes; names = names; cluster = cluster })

-- how many records may be made stable at once
abbrev pub is_group : ℕ → Bool
is_group records = nat_le 1 records && nat_le records 1024

abbrev pub init_mode : List Row → Option Mode
init_mode rows = do
  size ← size_of rows
  guarded (is_capacity size && (not (gives (codes "group") rows) && not (has_rest rows))) (Init size)

abbrev pub replay_mode : List Row → Option Mode
replay_mode rows = do
  group ← number_or 1 (codes "group") rows
  guarded (is_group group && (not (gives_size rows) && not (has_rest rows))) (Replay group)

-- The other modes take no option. The words after their names tell the rest.
abbrev pub gives_none : List Row → Bool
gives_none rows = not (gives_size rows) && not (gives (codes "group") rows)

abbrev pub show_mode : List Text → Option Mode
show_mode [] = Some Show
show_mode words = None

abbrev pub outbox_mode : List Text → Option Mode
outbox_mode (since ∷ []) = option_map (λ moment. Outbox moment) (number_in 0 latest_moment since)
outbox_mode words = None

-- a seed of 64 bits, and how many commands
abbrev pub work_mode : List Text → Option Mode
work_mode (seed ∷ count ∷ []) = do
  s ← number_in 0 18446744073709551615 seed
  n ← number_in 1 1000000 count
  Some (Work s n)
work_mode words = None

-- a value that could be read
abbrev pub read_in : {A : Type 0} → Read A → Option A
read_in (Ok x) = Some x
read_in (Err refusal) = None

-- the names of the path that a text is
unfoldable pub path_in : Text → Option (List (List ℕ))
path_in text = read_in (path_from text)

unfoldable pub pattern_in : Text → Option (List ℕ)
pattern_in text = guarded (is_pattern text) text

-- two folders, how many days, a pattern of names, and a moment that has a date
abbrev pub expire_in : Text → Text → Text → Text → Text → Option Mode
expire_in from to days pattern moment = do
  f ← path_in from
  t ← path_in to
  d ← number_in 0 36500 days
  p ← pattern_in pattern
  m ← number_in 0 latest_moment moment
  Some (Expire f t d p m)

abbrev pub expire_mode : List Text → Option Mode
expire_mode (from ∷ to ∷ days ∷ pattern ∷ moment ∷ []) = expire_in from to days pattern moment
expire_mode words = None

abbrev pub tick_mode : List Text → Option Mode
tick_mode (moment ∷ []) = option_map (λ m. Tick m) (number_in 0 latest_moment moment)
tick_mode words = None

abbrev pub plain_mode : Text → List Text → Option Mode
plain_mode name words =
    if bytes_eq name (codes "show") then show_mode words
    else if bytes_eq name (codes "outbox") then outbox_mode words
    else if bytes_eq name (codes "work") then work_mode words
    else if bytes_eq name (codes "expire") then expire_mode words
    else if bytes_eq name (codes "tick") then tick_mode words
    else None

-- the modes, by the words that name them
abbrev pub named_mode : Text → List Row → Option Mode
named_mode name rows =
    if bytes_eq name (codes "init") then init_mode rows
    else if bytes_eq name (codes "replay") then replay_mode rows
    else if gives_none rows then plain_mode name (rest_of rows)
    else None

abbrev pub mode_of : List Row → Option Mode
mode_of rows = do
  name ← first_of (codes "MODE") rows
  named_mode name rows

-- what the words ask for, if clap takes them as the program's command, and they meet the rules of a mode
abbrev pub mode : List Text → Option Mode
mode words = if is_empty (fault_of fsrm_app words) then mode_of (matches_of fsrm_app words) else None

-- what a mode carries is in range
abbrev pub IsLegal : Mode → Type 0
IsLegal (Init size) = is_capacity size ≡ true
IsLegal (Replay group) = (1 ≤ group) × (group ≤ 1024)
IsLegal Show = ⊤
IsLegal (Outbox since) = since ≤ latest_moment
IsLegal (Work seed count) = (1 ≤ count) × (count ≤ 1000000)
IsLegal (Expire from to days pattern moment) = (days ≤ 36500) × (moment ≤ latest_moment)
IsLegal (Tick moment) = moment ≤ latest_moment

-- the answer to words that ask for this, or for nothing
abbrev pub Answers : {A : Type 0} → Result A WordsFault → Option A → Type 0
Answers (Ok x) asked = asked ≡ Some x
Answers (Err Usage) asked = asked ≡ None
Answers (Err NoMemory) asked = ⊤
