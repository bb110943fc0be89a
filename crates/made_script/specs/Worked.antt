-- Lines of the script of seed 7, each worked out by hand.
use Rattle.std.specs.Prelude.{◌≡◌, [], ◌∷◌, take, codes, refl}
use Rattle.std.specs.Fmt.{digits}
use Rattle.made_script.specs.Draws.{draw, next_state}
use Rattle.made_script.specs.Lines.{made_line, made_lines, made_script, state_then}

-- the first folders
pub first_two : take 2 (made_lines 7 40) ≡ codes "1000000001 mkdir D:\\f0 1" ∷ codes "1000000002 mkdir D:\\f1 1" ∷ []
unfolding digits
first_two = refl

-- the last of them, and the first and the last of the quotas
pub last_folder : made_line 7 32 ≡ codes "1000000032 mkdir D:\\f31 1"
unfolding digits
last_folder = refl

pub first_quota : made_line 7 33 ≡ codes "1000000033 dirquota quota add /Path:D:\\f0 /Limit:1mb /Type:hard /Add-Notification:80,e,60,near"
unfolding digits
first_quota = refl

pub last_quota : made_line 7 40 ≡ codes "1000000040 dirquota quota add /Path:D:\\f28 /Limit:1mb /Type:hard /Add-Notification:80,e,60,near"
unfolding digits
last_quota = refl

-- none of these draws, so the first draws come from the seed
pub drawn : made_line 7 41 ≡ codes "1000000041 create D:\\f31\\g49\\x41.dat 57219 1"
unfolding next_state draw digits
drawn = refl

pub drawn_next : made_line (state_then 7 41) 42 ≡ codes "1000000042 resize D:\\f20\\x27.dat 353075"
unfolding next_state draw digits
drawn_next = refl

-- each line has its LF
pub spelled : made_script 7 2 ≡ codes "1000000001 mkdir D:\\f0 1\n1000000002 mkdir D:\\f1 1\n"
unfolding digits
spelled = refl
