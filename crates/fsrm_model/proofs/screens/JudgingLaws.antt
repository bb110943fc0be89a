-- The screen that judges a name is found as it is told: it applies, and none of its kind that applies is nearer.
use Rattle.std.proofs.Common.{◌≡◌, ℕ, ◌==◌, ◌⊎◌, inl, inr, Bool, true, false, cond, not, ◌||◌, ◌&&◌, List, [], ◌∷◌, Option, Some, None, refl, sym, ◌∙◌, ap}
use Rattle.std.proofs.lemmas.Option.{same_Some}
use Rattle.std.specs.Prelude.{find, filter_map}
use Rattle.std.specs.List.{list_any, cons_option}
use Rattle.std.specs.Option.{option_or}
use Rattle.fsrm_base.specs.Numbers.{is_in}
use Rattle.fsrm_base.proofs.Look.{found_key, found_has}
use Rattle.fsrm_base.proofs.TestLaws.{is_or_not, clash, not_true, is_false, both, both_true, is_or, neither, nor, or_later, eq_is, eq_same, eq_test}
use Rattle.fsrm_model.specs.declared.row.Capacity.{Capacity}
use Rattle.fsrm_model.specs.declared.row.Rows.{Rows}
use Rattle.fsrm_model.specs.declared.row.ScreenRow.{ScreenRow}
use Rattle.fsrm_model.specs.meaning.Judges.{Applies, Judges}
use Rattle.fsrm_model.specs.objects.Screens.{screen_folder, screen_of, in_groups, is_excepted, nearer, applies, applying, judging}
use Rattle.fsrm_model.specs.nodes.Tree.{chain, is_under}
use Rattle.fsrm_model.specs.store.Valid.{IsValid}
use Rattle.fsrm_model.proofs.commands.QuotaLaws.{find_both}
use Rattle.fsrm_model.proofs.nodes.ChainLaws.{Has, IsTree}
use Rattle.fsrm_model.proofs.nodes.Keeps.{tree_of}
use Rattle.fsrm_model.proofs.screens.NearerLaws.{nearer_next, nearer_own, not_nearer, between, is_nearer}
use Rattle.fsrm_model.proofs.valid.RowsKept.{screens_folder}
use Rattle.fsrm_model.proofs.valid.ValidLaws.{folder_has}

-- ---- what is found at the numbers of a list
pub record FoundAt {X : Type 0} (f : ℕ → Option X) (t : X → Bool) (ns : List ℕ) (x : X) : Type 0 where
  pub at : ℕ
  pub within : is_in ns at ≡ true
  pub is : f at ≡ Some x
  pub passes : t x ≡ true

later_found : {X : Type 0} (f : ℕ → Option X) (t : X → Bool) (n : ℕ) (ns : List ℕ) (x : X) → FoundAt f t ns x → FoundAt f t (n ∷ ns) x
later_found f t n ns x r = record { at = r.at; within = or_later (n == r.at) (is_in ns r.at) r.within; is = r.is; passes = r.passes }

picked : {X : Type 0} (f : ℕ → Option X) (t : X → Bool) (n : ℕ) (ns : List ℕ) (x y : X) (b : Bool) → f n ≡ Some y → t y ≡ b → (find t (filter_map f ns) ≡ Some x → FoundAt f t ns x) → cond b (Some y) (find t (filter_map f ns)) ≡ Some x → FoundAt f t (n ∷ ns) x
picked f t n ns x y true e k later h =
    let same : y ≡ x = same_Some y x h in
    record { at = n; within = ap (λ b. b || is_in ns n) (eq_same n); is = e ∙ ap Some same; passes = ap t (sym same) ∙ k }
picked f t n ns x y false e k later h = later_found f t n ns x (later h)

found_first : {X : Type 0} (f : ℕ → Option X) (t : X → Bool) (n : ℕ) (ns : List ℕ) (x : X) (o : Option X) → f n ≡ o → (find t (filter_map f ns) ≡ Some x → FoundAt f t ns x) → find t (cons_option o (filter_map f ns)) ≡ Some x → FoundAt f t (n ∷ ns) x
found_first f t n ns x None e later h = later_found f t n ns x (later h)
found_first f t n ns x (Some y) e later h = picked f t n ns x y (t y) e refl later h

pub found_at : {X : Type 0} (f : ℕ → Option X) (t : X → Bool) (ns : List ℕ) (x : X) → find t (filter_map f ns) ≡ Some x → FoundAt f t ns x
found_at f t [] x h = absurd (cc h)
found_at f t (n ∷ ns) x h = found_first f t n ns x (f n) refl (found_at f t ns x) h

-- if none is found none passes
unpicked : {X : Type 0} (t : X → Bool) (y : X) (more : Option X) (b : Bool) → t y ≡ b → cond b (Some y) more ≡ None → (t y ≡ false) × (more ≡ None)
unpicked t y more true k h = absurd (cc h)
unpicked t y more false k h = (k, h)

rest_none : {X : Type 0} (f : ℕ → Option X) (t : X → Bool) (ns : List ℕ) (o : Option X) → find t (cons_option o (filter_map f ns)) ≡ None → find t (filter_map f ns) ≡ None
rest_none f t ns None h = h
rest_none f t ns (Some y) h = (unpicked t y (find t (filter_map f ns)) (t y) refl h).1

first_none_at : {X : Type 0} (f : ℕ → Option X) (t : X → Bool) (n : ℕ) (ns : List ℕ) (x : X) → f n ≡ Some x → find t (filter_map f (n ∷ ns)) ≡ None → t x ≡ false
first_none_at f t n ns x e h =
    let here : find t (cons_option (Some x) (filter_map f ns)) ≡ None = ap (λ o. find t (cons_option o (filter_map f ns))) (sym e) ∙ h in
    (unpicked t x (find t (filter_map f ns)) (t x) refl here).0

pub none_at : {X : Type 0} (f : ℕ → Option X) (t : X → Bool) (ns : List ℕ) (n : ℕ) (x : X) → find t (filter_map f ns) ≡ None → is_in ns n ≡ true → f n ≡ Some x → t x ≡ false
none_at f t [] n x h m e = absurd (cc m)
none_at f t (k ∷ ns) n x h m e = elim (is_or (k == n) (is_in ns n) m) [
  | inl here ↦ first_none_at f t k ns x (ap f (eq_is k n here) ∙ e) h
  | inr there ↦ none_at f t ns n x (rest_none f t ns (f k) h) there e
]

-- ---- what is found stands before all others that pass
-- what is found is the first item, or is found among the others
found_or_later : {X : Type 0} (f : ℕ → Option X) (t : X → Bool) (n : ℕ) (ns : List ℕ) (s : X) (o : Option X) → f n ≡ o → find t (cons_option o (filter_map f ns)) ≡ Some s → (f n ≡ Some s) ⊎ (find t (filter_map f ns) ≡ Some s)
found_or_later f t n ns s None e h = inr h
found_or_later f t n ns s (Some y) e h = by (t y) h
  where
    by : (b : Bool) → cond b (Some y) (find t (filter_map f ns)) ≡ Some s → (f n ≡ Some s) ⊎ (find t (filter_map f ns) ≡ Some s)
    by true h = inl (e ∙ h)
    by false h = inr h

first_passes : {X : Type 0} (f : ℕ → Option X) (t : X → Bool) (n : ℕ) (ns : List ℕ) (other : X) → f n ≡ Some other → t other ≡ true → find t (filter_map f (n ∷ ns)) ≡ Some other
first_passes f t n ns other e k =
    ap (λ o. find t (cons_option o (filter_map f ns))) e ∙ ap (λ b. cond b (Some other) (find t (filter_map f ns))) k

pub nearest_at : {X : Type 0} (f : ℕ → Option X) (key : X → ℕ) (t : X → Bool) → ((n : ℕ) (x : X) → f n ≡ Some x → key x ≡ n) → (ns : List ℕ) (s other : X) → find t (filter_map f ns) ≡ Some s → f (key other) ≡ Some other → t other ≡ true → is_in (nearer (key s) ns) (key other) ≡ false
nearest_at f key t own [] s other h e k = refl
nearest_at f key t own (n ∷ ns) s other h e k = elim (is_or_not (n == key s)) [
  | inl here ↦ ap (λ front. is_in front (key other)) (nearer_own (key s) n ns here)
  | inr apart ↦
      let another : (n == key other) ≡ false = not_true (n == key other) (λ same.
      let first : f n ≡ Some other = ap f (eq_is n (key other) same) ∙ e in
      let is : other ≡ s = same_Some other s (sym (first_passes f t n ns other first k) ∙ h) in
      clash (n == key s) (ap (λ x. n == key x) (sym is) ∙ same) apart) in
      let later : find t (filter_map f ns) ≡ Some s = elim (found_or_later f t n ns s (f n) refl h) [
        | inl first ↦ absurd (clash (n == key s) (eq_test n (key s) (sym (own n s first))) apart)
        | inr later ↦ later
      ] in
      ap (λ front. is_in front (key other)) (nearer_next (key s) n ns apart)
      ∙ nor (n == key other) (is_in (nearer (key s) ns) (key other)) another (nearest_at f key t own ns s other later e k)
]

-- ---- screens
any_none : (p : ℕ → Bool) (ns : List ℕ) (n : ℕ) → list_any p ns ≡ false → is_in ns n ≡ true → p n ≡ false
any_none p [] n h m = absurd (cc m)
any_none p (k ∷ ns) n h m =
    let no = neither (p k) (list_any p ns) h in
    elim (is_or (k == n) (is_in ns n) m) [
      | inl here ↦ ap p (sym (eq_is k n here)) ∙ no.0
      | inr there ↦ any_none p ns n no.1 there
    ]

none_any : (p : ℕ → Bool) (ns : List ℕ) → ((n : ℕ) → is_in ns n ≡ true → p n ≡ false) → list_any p ns ≡ false
none_any p [] h = refl
none_any p (k ∷ ns) h =
    nor (p k) (list_any p ns) (h k (ap (λ b. b || is_in ns k) (eq_same k))) (none_any p ns (λ n m. h n (or_later (k == n) (is_in ns n) m)))

pub own_screen : (R : Rows) (n : ℕ) (screen : ScreenRow) → screen_of R n ≡ Some screen → screen.folder ≡ n
own_screen R n screen h = found_key screen_folder n R.screens screen h

-- the nodes are a tree, and each screen stands on one of them
record ArePlaced (R : Rows) : Type 0 where
  tree : IsTree R.nodes
  there : (n : ℕ) (screen : ScreenRow) → screen_of R n ≡ Some screen → Has R.nodes n

are_placed : (K : Capacity) (R : Rows) → IsValid K R → ArePlaced R
are_placed K R store =
    record {
      tree = tree_of K R.nodes store.volume;
      there = λ n screen is. folder_has R.nodes n (screens_folder R n store.tables.screens (found_has screen_folder n R.screens screen is));
    }

-- the test that a screen applies says the same as what it has part by part
applies_is : (R : Rows) (folder : ℕ) (name : List ℕ) (screen : ScreenRow) → ArePlaced R → is_in (chain R.nodes folder) screen.folder ≡ true → screen_of R screen.folder ≡ Some screen → applies R (chain R.nodes folder) name screen ≡ true → Applies R folder name screen
applies_is R folder name screen p on own h =
    let front = nearer screen.folder (chain R.nodes folder) in
    let parts = both (in_groups R.groups screen.groups name) (not (list_any (is_excepted R name) front)) h in
    record {
      on = on;
      own = own;
      grouped = parts.0;
      barred = λ f way below apart.
          any_none (is_excepted R name) front f (is_false (list_any (is_excepted R name) front) parts.1)
          (is_nearer R.nodes p.tree folder screen.folder f (p.there screen.folder screen own) on (record { on = way; below = below; apart = apart }));
    }

applies_test : (R : Rows) (folder : ℕ) (name : List ℕ) (screen : ScreenRow) → ArePlaced R → Applies R folder name screen → applies R (chain R.nodes folder) name screen ≡ true
applies_test R folder name screen p a =
    let front = nearer screen.folder (chain R.nodes folder) in
    both_true (in_groups R.groups screen.groups name) (not (list_any (is_excepted R name) front)) a.grouped
    (ap not (none_any (is_excepted R name) front (λ f near. let b = between R.nodes p.tree folder screen.folder f a.on near in a.barred f b.on b.below b.apart)))

-- one of a kind that is found
found_judges : (R : Rows) (folder : ℕ) (name : List ℕ) (kind : ScreenRow → Bool) (screen : ScreenRow) → find kind (applying R folder name) ≡ Some screen → FoundAt (screen_of R) (λ s. applies R (chain R.nodes folder) name s && kind s) (chain R.nodes folder) screen
found_judges R folder name kind screen h =
    let way = chain R.nodes folder in
    found_at (screen_of R) (λ s. applies R way name s && kind s) way screen (sym (find_both kind (applies R way name) (filter_map (screen_of R) way)) ∙ h)

-- it is that of a folder on the way
record IsOn (R : Rows) (folder : ℕ) (name : List ℕ) (kind : ScreenRow → Bool) (screen : ScreenRow) : Type 0 where
  on : is_in (chain R.nodes folder) screen.folder ≡ true
  own : screen_of R screen.folder ≡ Some screen
  applying : applies R (chain R.nodes folder) name screen ≡ true
  is_kind : kind screen ≡ true

found_on : (R : Rows) (folder : ℕ) (name : List ℕ) (kind : ScreenRow → Bool) (screen : ScreenRow) → find kind (applying R folder name) ≡ Some screen → IsOn R folder name kind screen
found_on R folder name kind screen h =
    let r = found_judges R folder name kind screen h in
    let own : screen.folder ≡ r.at = own_screen R r.at screen r.is in
    let parts = both (applies R (chain R.nodes folder) name screen) (kind screen) r.passes in
    record { on = ap (is_in (chain R.nodes folder)) own ∙ r.within; own = ap (screen_of R) own ∙ r.is; applying = parts.0; is_kind = parts.1 }

found_applies : (R : Rows) (folder : ℕ) (name : List ℕ) (kind : ScreenRow → Bool) (screen : ScreenRow) → ArePlaced R → find kind (applying R folder name) ≡ Some screen → (Applies R folder name screen) × (kind screen ≡ true)
found_applies R folder name kind screen p h =
    let is = found_on R folder name kind screen h in
    (applies_is R folder name screen p is.on is.own is.applying, is.is_kind)

-- each other of the kind is of its folder or of one above
found_nearest : (R : Rows) (folder : ℕ) (name : List ℕ) (kind : ScreenRow → Bool) (screen other : ScreenRow) → ArePlaced R → find kind (applying R folder name) ≡ Some screen → Applies R folder name screen → Applies R folder name other → kind other ≡ true → is_under R.nodes other.folder screen.folder ≡ true
found_nearest R folder name kind screen other p h own a k =
    let way = chain R.nodes folder in
    let t : ScreenRow → Bool = λ s. applies R way name s && kind s in
    not_nearer R.nodes p.tree folder screen.folder other.folder own.on a.on
    (nearest_at (screen_of R) screen_folder t (own_screen R) way screen other (sym (find_both kind (applies R way name) (filter_map (screen_of R) way)) ∙ h) a.own
    (both_true (applies R way name other) (kind other) (applies_test R folder name other p a) k))

-- none of the kind applies
none_applies : (R : Rows) (folder : ℕ) (name : List ℕ) (kind : ScreenRow → Bool) (other : ScreenRow) → ArePlaced R → find kind (applying R folder name) ≡ None → Applies R folder name other → kind other ≡ false
none_applies R folder name kind other p h a =
    let way = chain R.nodes folder in
    let t : ScreenRow → Bool = λ s. applies R way name s && kind s in
    let fails = none_at (screen_of R) t way other.folder other (sym (find_both kind (applies R way name) (filter_map (screen_of R) way)) ∙ h) a.on a.own in
    ap (λ b. b && kind other) (sym (applies_test R folder name other p a)) ∙ fails

not_both : (b : Bool) → b ≡ false → not b ≡ false → ⊥
not_both true h g = absurd (cc h)
not_both false h g = absurd (cc g)

abbrev is_active : ScreenRow → Bool
is_active screen = screen.active

abbrev is_passive : ScreenRow → Bool
is_passive screen = not screen.active

-- the screen that judges a name is there
own_by : (R : Rows) (folder : ℕ) (name : List ℕ) (screen : ScreenRow) (active : Option ScreenRow) → find is_active (applying R folder name) ≡ active → option_or active (find is_passive (applying R folder name)) ≡ Some screen → screen_of R screen.folder ≡ Some screen
own_by R folder name screen (Some s) e h = (found_on R folder name is_active screen (e ∙ ap Some (same_Some s screen h))).own
own_by R folder name screen None e h = (found_on R folder name is_passive screen h).own

pub judging_own : (R : Rows) (folder : ℕ) (name : List ℕ) (screen : ScreenRow) → judging R folder name ≡ Some screen → screen_of R screen.folder ≡ Some screen
judging_own R folder name screen h = own_by R folder name screen (find is_active (applying R folder name)) refl h

judges_by : (R : Rows) (folder : ℕ) (name : List ℕ) (screen : ScreenRow) (active : Option ScreenRow) → ArePlaced R → find is_active (applying R folder name) ≡ active → option_or active (find is_passive (applying R folder name)) ≡ Some screen → Judges R folder name screen
judges_by R folder name screen (Some s) p e h =
    let same : s ≡ screen = same_Some s screen h in
    let found : find is_active (applying R folder name) ≡ Some screen = e ∙ ap Some same in
    let is = found_applies R folder name is_active screen p found in
    record {
      applies = is.0;
      active = λ other a k. is.1;
      nearest = λ other a same. found_nearest R folder name is_active screen other p found is.0 a (same ∙ is.1);
    }
judges_by R folder name screen None p e h =
    let is = found_applies R folder name is_passive screen p h in
    record {
      applies = is.0;
      active = λ other a k. absurd (clash other.active k (none_applies R folder name is_active other p e a));
      nearest = λ other a same. found_nearest R folder name is_passive screen other p h is.0 a (ap not same ∙ is.1);
    }

pub judges : (K : Capacity) (R : Rows) (folder : ℕ) (name : List ℕ) (screen : ScreenRow) → IsValid K R → judging R folder name ≡ Some screen → Judges R folder name screen
judges K R folder name screen store h = judges_by R folder name screen (find is_active (applying R folder name)) (are_placed K R store) refl h

none_by : (R : Rows) (folder : ℕ) (name : List ℕ) (active : Option ScreenRow) → ArePlaced R → find is_active (applying R folder name) ≡ active → option_or active (find is_passive (applying R folder name)) ≡ None → (screen : ScreenRow) → Applies R folder name screen → ⊥
none_by R folder name (Some s) p e h screen a = absurd (cc h)
none_by R folder name None p e h screen a =
    not_both screen.active (none_applies R folder name is_active screen p e a) (none_applies R folder name is_passive screen p h a)

pub none_judges : (K : Capacity) (R : Rows) (folder : ℕ) (name : List ℕ) → IsValid K R → judging R folder name ≡ None → (screen : ScreenRow) → Applies R folder name screen → ⊥
none_judges K R folder name store h screen a = none_by R folder name (find is_active (applying R folder name)) (are_placed K R store) refl h screen a
