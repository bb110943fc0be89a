-- The parts of a line, one after the other, are what it asks for.
use Rattle.std.proofs.Common.{◌≡◌, ℕ, ◌-◌, ◌*◌, ◌≤◌, ◌<◌, true, false, List, [], ◌++◌, refl, sym, ap, ◌∙◌, subst, arith, append_assoc}
use Rattle.std.specs.Prelude.{codes, decimal, nat_lt, nat_eq, Result, OnOk}
use Rattle.std.proofs.lemmas.List.{append-nil}
use Rattle.std.proofs.lemmas.Bool.Decides.{nat_tests}
use Rattle.made_script.specs.Lines.{drawn_words, first_words}
use Rattle.made_script.specs.declared.draws.Draws.{Draws}

-- a text that came is what it should be
pub as_spelled : {T E : Type 0} (r : Result T E) (text before one two : List ℕ) → one ≡ two → OnOk r (text ≡ before ++ one) → OnOk r (text ≡ before ++ two)
as_spelled r text before one two e h = subst (λ (l : List ℕ). OnOk r (text ≡ before ++ l)) e h

-- a text that is put after others
pub put_then : (text mid before a b : List ℕ) → mid ≡ before ++ a → text ≡ mid ++ b → text ≡ before ++ (a ++ b)
put_then text mid before a b is e = e ∙ ap (λ (l : List ℕ). l ++ b) is ∙ append_assoc before a b

pub then_put : {T E : Type 0} (r : Result T E) (text mid before a b all : List ℕ) → mid ≡ before ++ a → a ++ b ≡ all → OnOk r (text ≡ mid ++ b) → OnOk r (text ≡ before ++ all)
then_put r text mid before a b all is e h = subst (λ (l : List ℕ). OnOk r (text ≡ l)) (ap (λ (l : List ℕ). l ++ b) is ∙ append_assoc before a b ∙ ap (λ (l : List ℕ). before ++ l) e) h

-- paths are joined part by part
files_joined : (m d a x n t s b o : List ℕ) → ((m ++ ((((d ++ a) ++ x) ++ n) ++ t)) ++ s) ++ ((((d ++ b) ++ x) ++ o) ++ t) ≡ m ++ (d ++ (a ++ (x ++ (n ++ (t ++ (s ++ (d ++ (b ++ (x ++ (o ++ t))))))))))
files_joined m d a x n t s b o = simp append_assoc

folders_joined : (m d a x n s b o : List ℕ) → ((m ++ (((d ++ a) ++ x) ++ n)) ++ s) ++ (((d ++ b) ++ x) ++ o) ≡ m ++ (d ++ (a ++ (x ++ (n ++ (s ++ (d ++ (b ++ (x ++ o))))))))
folders_joined m d a x n s b o = simp append_assoc

-- the parts of a summary
pub all_joined : (a b c d e f g h i j k : List ℕ) → ((((((((((a ++ b) ++ c) ++ d) ++ e) ++ f) ++ g) ++ h) ++ i) ++ j) ++ k) ≡ a ++ (b ++ (c ++ (d ++ (e ++ (f ++ (g ++ (h ++ (i ++ (j ++ (k ++ []))))))))))
all_joined a b c d e f g h i j k = simp (append_assoc, append-nil)

-- the parts of a line that moves something, one after the other
two_joined : (w a x n s b y o : List ℕ) → (w ++ (a ++ (x ++ n))) ++ (s ++ (b ++ (y ++ o))) ≡ w ++ (a ++ (x ++ (n ++ (s ++ (b ++ (y ++ o))))))
two_joined w a x n s b y o = simp append_assoc

more_joined : (w a x n s b y o t : List ℕ) → ((w ++ (a ++ (x ++ n))) ++ (s ++ (b ++ (y ++ o)))) ++ t ≡ w ++ (a ++ (x ++ (n ++ (s ++ (b ++ (y ++ (o ++ t)))))))
more_joined w a x n s b y o t = simp append_assoc

-- ---- each line that is drawn
pub mkdir_is : (d : Draws) → d.kind ≡ 0 → (codes " mkdir D:\\f" ++ (decimal d.folder ++ (codes "\\g" ++ decimal d.name))) ++ codes " 1" ≡ drawn_words d
mkdir_is d is = rw is (simp append_assoc)

pub quota_is : (d : Draws) → d.kind ≡ 1 → (codes " dirquota quota add /Path:D:\\f" ++ decimal d.folder) ++ codes " /Limit:2mb" ≡ drawn_words d
quota_is d is = rw is refl

pub create_is : (d : Draws) → 2 ≤ d.kind → d.kind < 8 → (((codes " create D:\\f" ++ (decimal d.folder ++ (codes "\\x" ++ decimal d.name))) ++ codes ".dat ") ++ decimal d.size) ++ codes " 1" ≡ drawn_words d
create_is d low high =
    let a : nat_eq d.kind 0 ≡ false = grind (arith, nat_tests) in
    let b : nat_eq d.kind 1 ≡ false = grind (arith, nat_tests) in
    let e : nat_lt d.kind 8 ≡ true = grind (arith, nat_tests) in
    rw (a, b, e) (simp append_assoc)

pub resize_is : (d : Draws) → 8 ≤ d.kind → d.kind < 10 → ((codes " resize D:\\f" ++ (decimal d.folder ++ (codes "\\x" ++ decimal d.name))) ++ codes ".dat ") ++ decimal d.size ≡ drawn_words d
resize_is d low high =
    let a : nat_eq d.kind 0 ≡ false = grind (arith, nat_tests) in
    let b : nat_eq d.kind 1 ≡ false = grind (arith, nat_tests) in
    let e : nat_lt d.kind 8 ≡ false = grind (arith, nat_tests) in
    let f : nat_lt d.kind 10 ≡ true = grind (arith, nat_tests) in
    rw (a, b, e, f) (simp append_assoc)

pub touch_is : (d : Draws) → d.kind ≡ 10 → (codes " touch D:\\f" ++ (decimal d.folder ++ (codes "\\x" ++ decimal d.name))) ++ codes ".dat" ≡ drawn_words d
touch_is d is = rw is (simp append_assoc)

pub move_is : (d : Draws) → d.kind ≡ 11
    → ((codes " move D:\\f" ++ (decimal d.folder ++ (codes "\\x" ++ decimal d.name))) ++ (codes ".dat D:\\f" ++ (decimal d.other_folder ++ (codes "\\x" ++ decimal d.other_name)))) ++ codes ".dat" ≡ drawn_words d
move_is d is =
    rw is
    (more_joined (codes " move D:\\f") (decimal d.folder) (codes "\\x") (decimal d.name) (codes ".dat D:\\f") (decimal d.other_folder) (codes "\\x") (decimal d.other_name) (codes ".dat")
    ∙ sym (files_joined (codes " move ") (codes "D:\\f") (decimal d.folder) (codes "\\x") (decimal d.name) (codes ".dat") (codes " ") (decimal d.other_folder) (decimal d.other_name)))

pub move_folder_is : (d : Draws) → d.kind ≡ 12
    → (codes " move D:\\f" ++ (decimal d.folder ++ (codes "\\g" ++ decimal d.name))) ++ (codes " D:\\f" ++ (decimal d.other_folder ++ (codes "\\g" ++ decimal d.other_name))) ≡ drawn_words d
move_folder_is d is =
    rw is
    (two_joined (codes " move D:\\f") (decimal d.folder) (codes "\\g") (decimal d.name) (codes " D:\\f") (decimal d.other_folder) (codes "\\g") (decimal d.other_name)
    ∙ sym (folders_joined (codes " move ") (codes "D:\\f") (decimal d.folder) (codes "\\g") (decimal d.name) (codes " ") (decimal d.other_folder) (decimal d.other_name)))

pub remove_is : (d : Draws) → d.kind ≡ 13 → (codes " remove D:\\f" ++ (decimal d.folder ++ (codes "\\x" ++ decimal d.name))) ++ codes ".dat" ≡ drawn_words d
remove_is d is = rw is (simp append_assoc)

pub deep_create_is : (d : Draws) → d.kind ≡ 14
    → ((codes " create D:\\f" ++ (decimal d.folder ++ (codes "\\g" ++ decimal d.name))) ++ (codes "\\x" ++ (decimal d.other_name ++ (codes ".dat " ++ decimal d.size)))) ++ codes " 1" ≡ drawn_words d
deep_create_is d is = rw is (simp append_assoc)

pub step_is : (d : Draws) → 15 ≤ d.kind → codes " step 4" ++ [] ≡ drawn_words d
step_is d high =
    let a : nat_eq d.kind 0 ≡ false = grind (arith, nat_tests) in
    let b : nat_eq d.kind 1 ≡ false = grind (arith, nat_tests) in
    let e : nat_lt d.kind 8 ≡ false = grind (arith, nat_tests) in
    let f : nat_lt d.kind 10 ≡ false = grind (arith, nat_tests) in
    let g : nat_eq d.kind 10 ≡ false = grind (arith, nat_tests) in
    let h : nat_eq d.kind 11 ≡ false = grind (arith, nat_tests) in
    let i : nat_eq d.kind 12 ≡ false = grind (arith, nat_tests) in
    let j : nat_eq d.kind 13 ≡ false = grind (arith, nat_tests) in
    let k : nat_eq d.kind 14 ≡ false = grind (arith, nat_tests) in
    rw (a, b, e, f, g, h, i, j, k) refl

-- ---- the first lines
pub first_folder_is : (number : ℕ) → number ≤ 32 → codes " mkdir D:\\f" ++ (decimal (number - 1) ++ (codes " 1" ++ [])) ≡ first_words number
first_folder_is number few = let a : nat_lt number 33 ≡ true = grind (arith, nat_tests) in rw a refl

pub first_quota_is : (number place : ℕ) → 32 < number → place ≡ 4 * (number - 33)
    → codes " dirquota quota add /Path:D:\\f" ++ (decimal place ++ (codes " /Limit:1mb /Type:hard /Add-Notification:80,e,60,near" ++ [])) ≡ first_words number
first_quota_is number place many is = let a : nat_lt number 33 ≡ false = grind (arith, nat_tests) in rw (a, is) refl
