-- A made script.
use Rattle.std.specs.Prelude.{ℕ, zero, suc, ◌+◌, ◌-◌, ◌*◌, ◌==◌, nat_lt, List, [], ◌∷◌, ◌++◌, decimal, codes, if◌then◌else◌}
use Rattle.fsrm_model.specs.lines.Script.{spelled_lines}
use Rattle.made_script.specs.Draws.{draws, state_after}
use Rattle.made_script.specs.declared.draws.Draws.{Draws}

-- ---- paths
-- a folder of the volume
abbrev pub folder : ℕ → List ℕ
folder a = codes "D:\\f" ++ decimal a

-- a folder in it
abbrev pub inner : ℕ → ℕ → List ℕ
inner a b = folder a ++ codes "\\g" ++ decimal b

-- a file in a folder
abbrev pub file_in : List ℕ → ℕ → List ℕ
file_in place b = place ++ codes "\\x" ++ decimal b ++ codes ".dat"

-- ---- what a line asks for
-- the first 32 make the folders 0 to 31, and the next 8 a quota on every fourth of them
abbrev pub first_words : ℕ → List ℕ
first_words number =
    if nat_lt number 33 then codes " mkdir " ++ folder (number - 1) ++ codes " 1"
    else codes " dirquota quota add /Path:" ++ folder (4 * (number - 33)) ++ codes " /Limit:1mb /Type:hard /Add-Notification:80,e,60,near"

-- each later line asks for what is drawn
abbrev pub drawn_words : Draws → List ℕ
drawn_words d =
    if d.kind == 0 then codes " mkdir " ++ inner d.folder d.name ++ codes " 1"
    else if d.kind == 1 then codes " dirquota quota add /Path:" ++ folder d.folder ++ codes " /Limit:2mb"
    else if nat_lt d.kind 8 then codes " create " ++ file_in (folder d.folder) d.name ++ codes " " ++ decimal d.size ++ codes " 1"
    else if nat_lt d.kind 10 then codes " resize " ++ file_in (folder d.folder) d.name ++ codes " " ++ decimal d.size
    else if d.kind == 10 then codes " touch " ++ file_in (folder d.folder) d.name
    else if d.kind == 11 then codes " move " ++ file_in (folder d.folder) d.name ++ codes " " ++ file_in (folder d.other_folder) d.other_name
    else if d.kind == 12 then codes " move " ++ inner d.folder d.name ++ codes " " ++ inner d.other_folder d.other_name
    else if d.kind == 13 then codes " remove " ++ file_in (folder d.folder) d.name
    else if d.kind == 14 then codes " create " ++ file_in (inner d.folder d.name) d.other_name ++ codes " " ++ decimal d.size ++ codes " 1"
    else codes " step 4"

-- ---- lines
-- the first lines are given, and draw nothing
abbrev pub first_lines : ℕ
first_lines = 40

-- the line of a number, from the state before it. Each is one second after the line before
abbrev pub made_line : ℕ → ℕ → List ℕ
made_line x number =
    decimal (1000000000 + number) ++ (if nat_lt first_lines number then drawn_words (draws x) else first_words number)

-- the state after it
abbrev pub state_then : ℕ → ℕ → ℕ
state_then x number = if nat_lt first_lines number then state_after x 6 else x

-- so many lines, from this number on
abbrev pub lines_from : ℕ → ℕ → ℕ → List (List ℕ)
lines_from x number zero = []
lines_from x number (suc more) = made_line x number ∷ lines_from (state_then x number) (number + 1) more

-- the lines of a script, and its bytes
abbrev pub made_lines : ℕ → ℕ → List (List ℕ)
made_lines seed count = lines_from seed 1 count

abbrev pub made_script : ℕ → ℕ → List ℕ
made_script seed count = spelled_lines (made_lines seed count)
