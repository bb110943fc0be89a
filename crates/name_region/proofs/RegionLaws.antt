-- Keys that are handed out and given back, and the texts under them.
use Rattle.std.proofs.Common.{◌≡◌, ◌≢◌, ℕ, zero, suc, ◌+◌, ◌-◌, ◌<◌, ◌≤◌, true, false, List, [], ◌∷◌, ◌++◌, length, get_or, set, Option, Some, None, refl, sym, ◌∙◌, ap, subst, inl, inr, arith, cond, eqb, ltb, replicate}
use Rattle.std.specs.Prelude.{is_some, slice_index}
use Rattle.std.specs.Global.{Vec}
use Rattle.std.specs.Vec.{vec_capacity}
use Rattle.std.specs.List.{sum_by, count_by}
use Rattle.std.proofs.lemmas.Bool.{cases_eq, cases_lt}
use Rattle.std.proofs.lemmas.Bool.Decides.{nat_tests}
use Rattle.std.proofs.lemmas.List.{get_or_append_left, get_or_push, length_push, length-set, get_or-set_same, get_or-set_other, get_or_past, ext_get_or, length-replicate, get_or-replicate}
use Rattle.std.proofs.lemmas.List.FromFn.{length-map-range_with_len, get_or-map-range_with_len}
use Rattle.std.proofs.lemmas.List.Sums.{sum_by-cons, sum_by-set, sum_by_push, get_or-le-sum_by}
use Rattle.name_region.specs.Contents.{Contents, text_of, is_live, with_text, bytes_of, used, live_count}
use Rattle.name_region.specs.Log.{Stored, Written, no_key, no_text, stored_at, is_kept, used_len}
use Rattle.name_region.specs.Keys.{text_under, texts_of, IsIndexed, KeepsTexts}
use Rattle.name_region.specs.Kept.{IsFree, IsKept, IsRegion, TakesKey, contents_of}
use Rattle.name_region.proofs.UnderKeys.{found, not_under, under_at, under-push_other, under-push_same, indexed-push, under-release_same, under-release_other, indexed-release, used_kept, used_released, kept_one, one_kept, one_released}

-- ---- the texts of all keys
pub length-texts_of : (keys : ℕ) (ss : List Stored) → length (texts_of keys ss) ≡ keys
length-texts_of keys ss = length-map-range_with_len (λ k. text_under k ss) 0 keys

pub get-texts_of : (keys : ℕ) (ss : List Stored) (k : ℕ) → k < keys → get_or (texts_of keys ss) k None ≡ text_under k ss
get-texts_of keys ss k within = get_or-map-range_with_len (λ k. text_under k ss) 0 keys k k None within (omega arith)

texts_of-set : (keys key : ℕ) (old new : List Stored) (text : Option (List ℕ)) → key < keys → text_under key new ≡ text → ((k : ℕ) → k < keys → k ≢ key → text_under k new ≡ text_under k old) → texts_of keys new ≡ set (texts_of keys old) key text
texts_of-set keys key old new text within here others =
    ext_get_or None (texts_of keys new) (set (texts_of keys old) key text)
    (length-texts_of keys new ∙ sym (length-set (texts_of keys old) key text ∙ length-texts_of keys old))
    (λ k lt.
    let k_in : k < keys = omega (arith, lt, length-texts_of keys new) in
    get-texts_of keys new k k_in
    ∙ elim (cases_eq k key) [
      | inl same ↦
          ap (λ n. text_under n new) same
          ∙ (here
          ∙ (sym (get_or-set_same (texts_of keys old) key text None (omega (arith, within, length-texts_of keys old))) ∙ ap (λ n. get_or (set (texts_of keys old) key text) n None) (sym same)))
      | inr ne ↦ others k k_in ne ∙ (sym (get-texts_of keys old k k_in) ∙ sym (get_or-set_other (texts_of keys old) key k text None ne))
    ])

-- ---- the bytes and the keys of a map, when a key gets a text or loses it
module _ (c : Contents) (key : ℕ) (text : List ℕ) (within : key < length c.texts) where
  abbrev has : Option (List ℕ) → ℕ
  has t = cond (is_some t) 1 0

  used-put : text_of c key ≡ None → used (with_text c key (Some text)) ≡ used c + length text
  used-put dead = omega (arith, sum_by-set bytes_of c.texts key (Some text) None within, ap bytes_of dead)

  live-put : text_of c key ≡ None → live_count (with_text c key (Some text)) ≡ live_count c + 1
  live-put dead = omega (arith, sum_by-set has c.texts key (Some text) None within, ap has dead)

  used-take : text_of c key ≡ Some text → used (with_text c key None) + length text ≡ used c
  used-take live = omega (arith, sum_by-set bytes_of c.texts key None None within, ap bytes_of live)

  live-take : text_of c key ≡ Some text → live_count (with_text c key None) + 1 ≡ live_count c
  live-take live = omega (arith, sum_by-set has c.texts key None None within, ap has live)

-- ---- a live key
pub record IsLocated (keys : ℕ) (ss : List Stored) (places : List ℕ) (key : ℕ) : Type 0 where
  pub within : key < keys
  pub live : key ≢ no_key
  pub handed : key < length places
  pub place_in : slice_index places key < length ss
  pub key_is : (stored_at ss (slice_index places key)).key ≡ key
  pub text_is : text_under key ss ≡ Some (stored_at ss (slice_index places key)).text

live_by : (o : Option (List ℕ)) → is_some o ≡ true → (text : List ℕ) × (o ≡ Some text)
live_by None live = absurd (cc live)
live_by (Some text) live = (text, refl)

key_within : (bytes keys : ℕ) (log : Written) (key : ℕ) → is_live (contents_of bytes keys log) key ≡ true → key < keys
key_within bytes keys log key live =
    elim (cases_lt key keys) [
      | inl lt ↦ lt
      | inr past ↦
          let none : is_live (contents_of bytes keys log) key ≡ false = ap is_some (get_or_past (texts_of keys log.stored) key None (omega (arith, past, length-texts_of keys log.stored))) in
          absurd (let clash : true ≡ false = sym live ∙ none in cc clash)
    ]

pub located : (bytes keys : ℕ) (log : Written) (places : List ℕ) (key : ℕ) → keys < 4294967296 → IsIndexed log.stored places → is_live (contents_of bytes keys log) key ≡ true → IsLocated keys log.stored places key
located bytes keys log places key small indexed live =
    let ss = log.stored in
    let within = key_within bytes keys log key live in
    let some = live_by (text_of (contents_of bytes keys log) key) live in
    let under : text_under key ss ≡ Some some.0 = sym (get-texts_of keys ss key within) ∙ some.1 in
    let f = found key ss some.0 under in
    let is_key : key ≢ no_key = omega (arith, within, small) in
    let at : slice_index places key ≡ f.index = ap (slice_index places) (sym f.key_is) ∙ indexed.place f.index f.within (λ dead. is_key (sym f.key_is ∙ dead)) in
    let key_at : (stored_at ss (slice_index places key)).key ≡ key = ap (λ i. (stored_at ss i).key) at ∙ f.key_is in
    let place_in : slice_index places key < length ss = omega (arith, at, f.within) in
    record {
      within = within;
      live = is_key;
      handed = let old = indexed.within f.index f.within (λ dead. is_key (sym f.key_is ∙ dead)) in omega (arith, old, f.key_is);
      place_in = place_in;
      key_is = key_at;
      text_is = under_at ss places key (slice_index places key) indexed is_key place_in key_at;
    }

-- the text of the log that is noted for a key tells whether the key is live
pub live_here : (keys : ℕ) (ss : List Stored) (places : List ℕ) (key : ℕ) → keys < 4294967296 → IsIndexed ss places → key < keys → slice_index places key < length ss → eqb (stored_at ss (slice_index places key)).key key ≡ is_some (get_or (texts_of keys ss) key None)
live_here keys ss places key small indexed within place_in =
    let place = slice_index places key in
    let live : key ≢ no_key = omega (arith, within, small) in
    elim (cases_eq (stored_at ss place).key key) [
      | inl same ↦
          let yes : eqb (stored_at ss place).key key ≡ true = grind (arith, nat_tests) in
          yes ∙ sym (ap is_some (get-texts_of keys ss key within ∙ under_at ss places key place indexed live place_in same))
      | inr other ↦
          let no : eqb (stored_at ss place).key key ≡ false = grind (arith, nat_tests) in
          let none = not_under key ss (λ j j_in same.
          let at : place ≡ j = ap (slice_index places) (sym same) ∙ indexed.place j j_in (λ dead. live (sym same ∙ dead)) in
          other (ap (λ i. (stored_at ss i).key) at ∙ same)) in
          no ∙ sym (ap is_some (get-texts_of keys ss key within ∙ none))
    ]

pub live_past : (keys : ℕ) (ss : List Stored) (places : List ℕ) (key : ℕ) → keys < 4294967296 → IsIndexed ss places → key < keys → length ss ≤ slice_index places key → ltb (slice_index places key) (length ss) ≡ is_some (get_or (texts_of keys ss) key None)
live_past keys ss places key small indexed within past =
    let live : key ≢ no_key = omega (arith, within, small) in
    let no : ltb (slice_index places key) (length ss) ≡ false = grind (arith, nat_tests) in
    let none = not_under key ss (λ j j_in same.
    let at : slice_index places key ≡ j = ap (slice_index places) (sym same) ∙ indexed.place j j_in (λ dead. live (sym same ∙ dead)) in
    absurd (omega (arith, at, j_in, past))) in
    no ∙ sym (ap is_some (get-texts_of keys ss key within ∙ none))

-- ---- a key that is taken
pub record IsTaken (c : Contents) (handed more : ℕ) (free left places next : List ℕ) (key : ℕ) : Type 0 where
  pub within : key < more
  pub longer : handed ≤ more
  pub most : more ≤ length c.texts
  pub dead : text_of c key ≡ None
  pub left_are : (i : ℕ) → i < length left → IsFree c more (slice_index left i)
  pub others : (i : ℕ) → i < length left → slice_index left i ≢ key
  pub apart : (i j : ℕ) → i < j → j < length left → slice_index left i ≢ slice_index left j
  pub count : length left + 1 + handed ≡ length free + more
  pub size : length next ≡ more
  pub same : (k : ℕ) → k < handed → slice_index next k ≡ slice_index places k

module _ (c : Contents) (bytes handed : ℕ) (free : Vec ℕ) (left places next : List ℕ) (key : ℕ) (kept : IsKept c bytes handed free) (spare : live_count c < length c.texts) (size : length places ≡ handed) where
  taken_back : free.items ≡ left ++ key ∷ [] → next ≡ places → IsTaken c handed handed free.items left places next key
  taken_back was same =
      let count : length free.items ≡ length left + 1 = ap length was ∙ length_push left key in
      let old : (i : ℕ) → i < length left → slice_index free.items i ≡ slice_index left i = λ i lt. ap (λ ks. slice_index ks i) was ∙ get_or_append_left left (key ∷ []) 0 i lt in
      let last : slice_index free.items (length left) ≡ key = ap (λ ks. slice_index ks (length left)) was ∙ get_or_push left key 0 (length left) refl in
      let own = kept.free_are (length left) (omega (arith, count)) in
      record {
        within = omega (arith, own.within, last);
        longer = omega arith;
        most = kept.handed_most;
        dead = ap (text_of c) (sym last) ∙ own.dead;
        left_are = λ i lt. subst (IsFree c handed) (old i lt) (kept.free_are i (omega (arith, count, lt)));
        others = λ i lt is. kept.apart i (length left) lt (omega (arith, count)) (old i lt ∙ (is ∙ sym last));
        apart = λ i j before lt is. kept.apart i j before (omega (arith, count, lt)) (old i (omega arith) ∙ (is ∙ sym (old j lt)));
        count = omega (arith, count);
        size = ap length same ∙ size;
        same = λ k lt. ap (λ ps. slice_index ps k) same;
      }

  taken_new : free.items ≡ [] → left ≡ [] → key ≡ length places → next ≡ places ++ 0 ∷ [] → IsTaken c handed (handed + 1) free.items left places next key
  taken_new was none is more =
      let no_free : length free.items ≡ 0 = ap length was in
      let no_left : length left ≡ 0 = ap length none in
      record {
        within = omega (arith, is, size);
        longer = omega arith;
        most = omega (arith, kept.count, no_free, spare);
        dead = kept.new_are key (omega (arith, is, size));
        left_are = λ i lt. absurd (omega (arith, no_left, lt));
        others = λ i lt _. absurd (omega (arith, no_left, lt));
        apart = λ i j _ lt _. absurd (omega (arith, no_left, lt));
        count = omega (arith, no_free, no_left);
        size = ap length more ∙ (length_push places 0 ∙ ap (λ n. n + 1) size);
        same = λ k lt. ap (λ ps. slice_index ps k) more ∙ get_or_append_left places (0 ∷ []) 0 k (omega (arith, lt, size));
      }

  pub taken : TakesKey free.items left places next key → (more : ℕ) × IsTaken c handed more free.items left places next key
  taken takes =
      elim takes [
        | inl w ↦ (handed, taken_back w.0 w.1)
        | inr w ↦ (handed + 1, taken_new w.0 w.1 w.2 w.3)
      ]

-- ---- what is kept
pub kept_put : (c : Contents) (bytes handed more : ℕ) (free left : Vec ℕ) (places next : List ℕ) (key : ℕ) (text : List ℕ) → IsKept c bytes handed free → IsTaken c handed more free.items left.items places next key → vec_capacity left ≡ vec_capacity free
    → bytes + length text ≤ c.bytes → IsKept (with_text c key (Some text)) (bytes + length text) more left
kept_put c bytes handed more free left places next key text kept t capacity room =
    let within : key < length c.texts = omega (arith, t.within, t.most) in
    let same = length-set c.texts key (Some text) in
    record {
      used_is = sym (used-put c key text within t.dead ∙ ap (λ n. n + length text) (sym kept.used_is));
      used_most = room;
      handed_most = omega (arith, same, t.most);
      new_are = λ k past. get_or-set_other c.texts key k (Some text) None (omega (arith, past, t.within)) ∙ kept.new_are k (omega (arith, past, t.longer));
      free_are = λ i lt. let old = t.left_are i lt in record { within = old.within; dead = get_or-set_other c.texts key (slice_index left.items i) (Some text) None (t.others i lt) ∙ old.dead };
      apart = t.apart;
      count = omega (arith, kept.count, t.count, live-put c key text within t.dead);
      room = omega (arith, same, capacity, kept.room);
    }

pub kept_take : (c : Contents) (bytes handed : ℕ) (free back : Vec ℕ) (key : ℕ) (text : List ℕ) → IsKept c bytes handed free → text_of c key ≡ Some text → key < handed → back.items ≡ free.items ++ key ∷ [] → vec_capacity free ≤ vec_capacity back
    → IsKept (with_text c key None) (bytes - length text) handed back
kept_take c bytes handed free back key text kept live lt is capacity =
    let within : key < length c.texts = omega (arith, lt, kept.handed_most) in
    let same = length-set c.texts key None in
    let count : length back.items ≡ length free.items + 1 = ap length is ∙ length_push free.items key in
    let old : (i : ℕ) → i < length free.items → slice_index back.items i ≡ slice_index free.items i = λ i lt. ap (λ ks. slice_index ks i) is ∙ get_or_append_left free.items (key ∷ []) 0 i lt in
    let last : (i : ℕ) → i ≡ length free.items → slice_index back.items i ≡ key = λ i at. ap (λ ks. slice_index ks i) is ∙ get_or_push free.items key 0 i (sym at) in
    let other : (i : ℕ) → i < length free.items → slice_index free.items i ≢ key = λ i i_in at. absurd (let clash : Some text ≡ None = sym live ∙ (ap (text_of c) (sym at) ∙ (kept.free_are i i_in).dead) in cc clash) in
    record {
      used_is = omega (arith, used-take c key text within live, kept.used_is);
      used_most = omega (arith, kept.used_most);
      handed_most = omega (arith, same, kept.handed_most);
      new_are = λ k past. get_or-set_other c.texts key k None None (omega (arith, past, lt)) ∙ kept.new_are k past;
      free_are = λ i i_in.
          elim (cases_lt i (length free.items)) [
            | inl below ↦
                let was = kept.free_are i below in
                subst (IsFree (with_text c key None) handed) (sym (old i below)) (record { within = was.within; dead = get_or-set_other c.texts key (slice_index free.items i) None None (other i below) ∙ was.dead })
            | inr ge ↦ subst (IsFree (with_text c key None) handed) (sym (last i (omega (arith, ge, i_in, count)))) (record { within = lt; dead = get_or-set_same c.texts key None None within })
          ];
      apart = λ i j before j_in at.
          elim (cases_lt j (length free.items)) [
            | inl below ↦ kept.apart i j before below (sym (old i (omega arith)) ∙ (at ∙ old j below))
            | inr ge ↦ other i (omega (arith, before, j_in, count)) (sym (old i (omega (arith, before, j_in, count))) ∙ (at ∙ last j (omega (arith, ge, j_in, count))))
          ];
      count = omega (arith, kept.count, count, live-take c key text within live);
      room = omega (arith, same, capacity, kept.room);
    }

-- ---- a region that stores a text
module _ (bytes keys used_bytes : ℕ) (log log1 : Written) (places free places1 places2 free1 : Vec ℕ) (key : ℕ) (text : List ℕ) (region : IsRegion bytes keys used_bytes log places free) (texts : KeepsTexts log log1)
    (indexed : IsIndexed log1.stored places1.items) (count : length places1.items ≡ length places.items) (spare : live_count (contents_of bytes keys log) < keys) (takes : TakesKey free.items free1.items places1.items places2.items key) where
  abbrev old : Contents
  old = contents_of bytes keys log

  abbrev new_text : Stored
  new_text = record { key = key; text = text }

  pub taken_key : (more : ℕ) × IsTaken old (length places.items) more free.items free1.items places1.items places2.items key
  taken_key = taken old used_bytes (length places.items) free free1.items places1.items places2.items key region.kept (omega (arith, spare, length-texts_of keys log.stored)) count takes

  pub key_in : key < keys
  key_in = let t = taken_key.1 in omega (arith, t.within, t.most, length-texts_of keys log.stored)

  pub key_dead : text_of old key ≡ None
  key_dead = let t = taken_key.1 in t.dead

  key_live : key ≢ no_key
  key_live = omega (arith, key_in, region.keys_small)

  under_dead : text_under key log1.stored ≡ None
  under_dead = texts.texts key key_live ∙ (sym (get-texts_of keys log.stored key key_in) ∙ key_dead)

  pub contents_put : texts_of keys (log1.stored ++ new_text ∷ []) ≡ set (texts_of keys log.stored) key (Some text)
  contents_put =
      texts_of-set keys key log.stored (log1.stored ++ new_text ∷ []) (Some text) key_in (under-push_same key log1.stored new_text refl under_dead)
      (λ k lt ne. under-push_other k log1.stored new_text (λ same. ne (sym same)) ∙ texts.texts k (omega (arith, lt, region.keys_small)))

  pub region_put : (log2 : Written) (places3 : Vec ℕ) → log2 ≡ record log1 { stored = log1.stored ++ new_text ∷ [] } → places3.items ≡ set places2.items key (length log1.stored) → vec_capacity free1 ≡ vec_capacity free → keys ≤ vec_capacity places3 → used_bytes + length text ≤ bytes
      → IsRegion bytes keys (used_bytes + length text) log2 places3 free1
  region_put log2 places3 is places_is free_room places_room room =
      let t = taken_key.1 in
      let stored : log2.stored ≡ log1.stored ++ new_text ∷ [] = ap (λ (w : Written). w.stored) is in
      let size : length places3.items ≡ taken_key.0 = ap length places_is ∙ (length-set places2.items key (length log1.stored) ∙ t.size) in
      let contents : contents_of bytes keys log2 ≡ with_text old key (Some text) = ap (λ ss. contents_of bytes keys (record log2 { stored = ss })) stored ∙ ap (λ (ts : List (Option (List ℕ))). record old { texts = ts }) contents_put in
      record {
        bytes_small = region.bytes_small;
        keys_small = region.keys_small;
        kept = subst (λ (c : Contents). IsKept c (used_bytes + length text) (length places3.items) free1) (sym contents)
            (subst (λ n. IsKept (with_text old key (Some text)) (used_bytes + length text) n free1) (sym size)
            (kept_put old used_bytes (length places.items) taken_key.0 free free1 places1.items places2.items key text region.kept t free_room room));
        indexed = subst (λ ss. IsIndexed ss places3.items) (sym stored)
            (subst (IsIndexed (log1.stored ++ new_text ∷ [])) (sym places_is)
            (indexed-push log1.stored places1.items places2.items new_text indexed key_live under_dead (omega (arith, count, t.size, t.longer)) (omega (arith, t.within, t.size)) (λ k lt. t.same k (omega (arith, lt, count)))));
        log_bytes = omega (arith, ap (sum_by used_len) stored, sum_by_push used_len log1.stored new_text, used_kept new_text key_live, texts.bytes, region.log_bytes);
        log_count = omega (arith, ap (count_by is_kept) stored, sum_by_push kept_one log1.stored new_text, one_kept new_text key_live, texts.count, region.log_count, t.count, size);
        places_room = places_room;
        room = omega (arith, region.room, texts.room, ap (λ (w : Written). w.room) is);
        most = omega (arith, region.most, texts.most, ap (λ (w : Written). w.most) is);
      }

-- ---- a region that releases a text
module _ (bytes keys used_bytes : ℕ) (log : Written) (places free : Vec ℕ) (key place : ℕ) (region : IsRegion bytes keys used_bytes log places free) (at : IsLocated keys log.stored places.items key) (is_place : place ≡ slice_index places.items key) where
  abbrev gone : Stored
  gone = record (stored_at log.stored place) { key = no_key }

  place_in : place < length log.stored
  place_in = omega (arith, is_place, at.place_in)

  key_at : (stored_at log.stored place).key ≡ key
  key_at = ap (λ n. (stored_at log.stored n).key) is_place ∙ at.key_is

  text_at : text_of (contents_of bytes keys log) key ≡ Some (stored_at log.stored place).text
  text_at = get-texts_of keys log.stored key at.within ∙ (at.text_is ∙ ap (λ n. Some (stored_at log.stored n).text) (sym is_place))

  pub text_fits : length (stored_at log.stored place).text ≤ used_bytes
  text_fits =
      let live : (stored_at log.stored place).key ≢ no_key = λ dead. at.live (sym key_at ∙ dead) in
      omega (arith, get_or-le-sum_by used_len log.stored place no_text place_in, used_kept (stored_at log.stored place) live, region.log_bytes)

  -- a live key isn't free, so there is room to give it back
  pub free_room : length free.items < vec_capacity free
  free_room =
      let some = get_or-le-sum_by (λ (t : Option (List ℕ)). cond (is_some t) 1 0) (texts_of keys log.stored) key None (omega (arith, at.within, length-texts_of keys log.stored)) in
      let one : cond (is_some (text_of (contents_of bytes keys log) key)) 1 0 ≡ 1 = let at : Option (List ℕ) → ℕ = λ t. cond (is_some t) 1 0 in ap at text_at in
      omega (arith, some, one, region.kept.count, region.kept.handed_most, region.kept.room)

  pub contents_take : texts_of keys (set log.stored place gone) ≡ set (texts_of keys log.stored) key None
  contents_take =
      texts_of-set keys key log.stored (set log.stored place gone) None at.within (under-release_same log.stored places.items key place region.indexed at.live place_in key_at)
      (λ k lt ne. under-release_other k log.stored place (omega (arith, lt, region.keys_small)) (λ same. ne (sym same ∙ key_at)))

  pub region_take : (log2 : Written) (back : Vec ℕ) (text : List ℕ) → log2 ≡ record log { stored = set log.stored place gone } → text ≡ (stored_at log.stored place).text → back.items ≡ free.items ++ key ∷ [] → vec_capacity free ≤ vec_capacity back
      → IsRegion bytes keys (used_bytes - length text) log2 places back
  region_take log2 back text is text_is back_is capacity =
      let stored : log2.stored ≡ set log.stored place gone = ap (λ (w : Written). w.stored) is in
      let contents : contents_of bytes keys log2 ≡ with_text (contents_of bytes keys log) key None = ap (λ ss. contents_of bytes keys (record log2 { stored = ss })) stored ∙ ap (λ (ts : List (Option (List ℕ))). record (contents_of bytes keys log) { texts = ts }) contents_take in
      let live : (stored_at log.stored place).key ≢ no_key = λ dead. at.live (sym key_at ∙ dead) in
      record {
        bytes_small = region.bytes_small;
        keys_small = region.keys_small;
        kept = subst (λ (c : Contents). IsKept c (used_bytes - length text) (length places.items) back) (sym contents)
            (kept_take (contents_of bytes keys log) used_bytes (length places.items) free back key text region.kept (text_at ∙ ap Some (sym text_is)) at.handed back_is capacity);
        indexed = subst (λ ss. IsIndexed ss places.items) (sym stored) (indexed-release log.stored places.items key place region.indexed at.live place_in key_at);
        log_bytes = omega (arith, ap (sum_by used_len) stored, sum_by-set used_len log.stored place gone no_text place_in, used_released gone refl, used_kept (stored_at log.stored place) live, ap length text_is, region.log_bytes);
        log_count = omega (arith, ap (count_by is_kept) stored, sum_by-set kept_one log.stored place gone no_text place_in, one_released gone refl, one_kept (stored_at log.stored place) live, ap length back_is, length_push free.items key, region.log_count);
        places_room = region.places_room;
        room = omega (arith, region.room, ap (λ (w : Written). w.room) is);
        most = omega (arith, region.most, ap (λ (w : Written). w.most) is);
      }

-- ---- a region without texts
pub texts_of-none : (keys : ℕ) → texts_of keys [] ≡ replicate keys None
texts_of-none keys =
    ext_get_or None (texts_of keys []) (replicate keys None) (length-texts_of keys [] ∙ sym (length-replicate keys None))
    (λ k lt. let within : k < keys = omega (arith, lt, length-texts_of keys []) in get-texts_of keys [] k within ∙ sym (get_or-replicate keys k None None within))

bytes-none : (n : ℕ) → sum_by bytes_of (replicate n None) ≡ 0
bytes-none zero = refl
bytes-none (suc n) = let rest = bytes-none n in omega (arith, rest, sum_by-cons bytes_of None (replicate n None))

abbrev one_text : Option (List ℕ) → ℕ
one_text t = cond (is_some t) 1 0

count-none : (n : ℕ) → sum_by one_text (replicate n None) ≡ 0
count-none zero = refl
count-none (suc n) = let rest = count-none n in omega (arith, rest, sum_by-cons one_text None (replicate n None))

pub region_fresh : (bytes keys : ℕ) (log : Written) (places free : Vec ℕ) → bytes < 4294967296 → keys < 4294967296 → log.stored ≡ [] → bytes ≤ log.room → keys ≤ log.most → places.items ≡ [] → free.items ≡ [] → keys ≤ vec_capacity places → keys ≤ vec_capacity free
    → IsRegion bytes keys 0 log places free
region_fresh bytes keys log places free bytes_small keys_small none room most no_places no_free places_room free_room =
    let size = length-texts_of keys log.stored in
    let texts : texts_of keys log.stored ≡ replicate keys None = ap (texts_of keys) none ∙ texts_of-none keys in
    let no_place : length places.items ≡ 0 = ap length no_places in
    let no_key_free : length free.items ≡ 0 = ap length no_free in
    let no_stored : length log.stored ≡ 0 = ap length none in
    record {
      bytes_small = bytes_small;
      keys_small = keys_small;
      kept = record {
        used_is = omega (arith, ap (sum_by bytes_of) texts, bytes-none keys);
        used_most = omega arith;
        handed_most = omega (arith, no_place);
        new_are = λ key past.
            elim (cases_lt key keys) [
              | inl within ↦ get-texts_of keys log.stored key within ∙ ap (text_under key) none
              | inr after ↦ get_or_past (texts_of keys log.stored) key None (omega (arith, after, size))
            ];
        free_are = λ i lt. absurd (omega (arith, no_key_free, lt));
        apart = λ i j before lt _. absurd (omega (arith, no_key_free, lt));
        count = omega (arith, ap (sum_by one_text) texts, count-none keys, no_key_free, no_place);
        room = omega (arith, size, free_room);
      };
      indexed = record {
        within = λ i lt _. absurd (omega (arith, no_stored, lt));
        place = λ i lt _. absurd (omega (arith, no_stored, lt));
      };
      log_bytes = ap (sum_by used_len) none;
      log_count = let no_count : count_by is_kept log.stored ≡ 0 = ap (count_by is_kept) none in omega (arith, no_key_free, no_place, no_count);
      places_room = places_room;
      room = room;
      most = most;
    }
