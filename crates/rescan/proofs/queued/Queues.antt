-- Queues, in which each folder waits once.
use Rattle.std.proofs.Common.{◌≡◌, ℕ, ◌==◌, Bool, true, false, cond, not, ◌||◌, List, [], ◌∷◌, ◌++◌, ◌⊎◌, refl, sym, ◌∙◌, ap, subst, inl, inr, Some}
use Rattle.std.proofs.lemmas.List.Folds.{list_any-append}
use Rattle.std.specs.Prelude.{is_some}
use Rattle.std.specs.List.{remove}
use Rattle.fsrm_base.specs.Numbers.{is_in, each_once, without_number}
use Rattle.fsrm_model.specs.objects.QuotaStates.{head, same_head}
use Rattle.fsrm_base.proofs.TestLaws.{is_or_not, clash, both, both_true, is_or, is_false, eq_is, eq_same, eq_turned, neither, or_later}

-- who waits in a queue with one more, and without one
pub in_pushed : (queue : List ℕ) (folder n : ℕ) → is_in (queue ++ folder ∷ []) n ≡ true → (is_in queue n ≡ true) ⊎ (folder ≡ n)
in_pushed queue folder n h =
    elim (is_or (is_in queue n) (is_in (folder ∷ []) n) (sym (list_any-append (λ k. k == n) queue (folder ∷ [])) ∙ h)) [
      | inl e ↦ inl e
      | inr r ↦ inr (eq_is folder n (last (folder == n) r))
    ]
  where
    last : (b : Bool) → (b || false) ≡ true → b ≡ true
    last true r = refl
    last false r = r

not_in_pushed : (queue : List ℕ) (folder n : ℕ) → is_in queue n ≡ false → (folder == n) ≡ false → is_in (queue ++ folder ∷ []) n ≡ false
not_in_pushed queue folder n h e = list_any-append (λ k. k == n) queue (folder ∷ []) ∙ (ap (λ b. b || is_in (folder ∷ []) n) h ∙ ap (λ b. b || false) e)

pub once_pushed : (queue : List ℕ) (folder : ℕ) → each_once queue ≡ true → is_in queue folder ≡ false → each_once (queue ++ folder ∷ []) ≡ true
once_pushed [] folder h g = refl
once_pushed (n ∷ ns) folder h g =
    let parts : (not (is_in ns n) ≡ true) × (each_once ns ≡ true) = both _ _ h in
    let apart : ((n == folder) ≡ false) × (is_in ns folder ≡ false) = neither _ _ g in
    both_true (not (is_in (ns ++ folder ∷ []) n)) (each_once (ns ++ folder ∷ []))
    (ap not (not_in_pushed ns folder n (is_false (is_in ns n) parts.0) (eq_turned n folder apart.0)))
    (once_pushed ns folder parts.1 apart.1)

kept_in : (n folder k : ℕ) (ns ms : List ℕ) (b : Bool) → (is_in ms k ≡ true → is_in ns k ≡ true) → is_in (cond b (n ∷ ms) ms) k ≡ true → ((n == k) || is_in ns k) ≡ true
kept_in n folder k ns ms true f h =
    elim (is_or (n == k) (is_in ms k) h) [ inl e ↦ ap (λ b. b || is_in ns k) e | inr r ↦ or_later (n == k) (is_in ns k) (f r) ]
kept_in n folder k ns ms false f h = or_later (n == k) (is_in ns k) (f h)

pub in_left : (folder k : ℕ) (queue : List ℕ) → is_in (without_number folder queue) k ≡ true → is_in queue k ≡ true
in_left folder k [] h = h
in_left folder k (n ∷ ns) h = kept_in n folder k ns (without_number folder ns) (not (n == folder)) (in_left folder k ns) h

pub not_in_left : (folder k : ℕ) (queue : List ℕ) → is_in queue k ≡ false → is_in (without_number folder queue) k ≡ false
not_in_left folder k queue h =
    elim (is_or_not (is_in (without_number folder queue) k)) [ inl t ↦ absurd (clash _ (in_left folder k queue t) h) | inr f ↦ f ]

kept_once : (n : ℕ) (ns : List ℕ) (b : Bool) → is_in ns n ≡ false → each_once ns ≡ true → each_once (cond b (n ∷ ns) ns) ≡ true
kept_once n ns true h g = both_true (not (is_in ns n)) (each_once ns) (ap not h) g
kept_once n ns false h g = g

pub once_left : (folder : ℕ) (queue : List ℕ) → each_once queue ≡ true → each_once (without_number folder queue) ≡ true
once_left folder [] h = refl
once_left folder (n ∷ ns) h =
    let parts : (not (is_in ns n) ≡ true) × (each_once ns ≡ true) = both _ _ h in
    kept_once n (without_number folder ns) (not (n == folder)) (not_in_left folder n ns (is_false (is_in ns n) parts.0)) (once_left folder ns parts.1)

stays_at : (n : ℕ) (ns ms : List ℕ) (b : Bool) → b ≡ false → ms ≡ ns → cond (not b) (n ∷ ms) ms ≡ n ∷ ns
stays_at n ns ms true e h = cc
stays_at n ns ms false e h = ap (λ ks. n ∷ ks) h

pub left_absent : (folder : ℕ) (queue : List ℕ) → is_in queue folder ≡ false → without_number folder queue ≡ queue
left_absent folder [] h = refl
left_absent folder (n ∷ ns) h =
    let apart : ((n == folder) ≡ false) × (is_in ns folder ≡ false) = neither _ _ h in
    stays_at n ns (without_number folder ns) (n == folder) apart.0 (left_absent folder ns apart.1)

-- the first one leaves
pub left_first : (folder : ℕ) (queue : List ℕ) → each_once (folder ∷ queue) ≡ true → without_number folder (folder ∷ queue) ≡ queue
left_first folder queue h =
    let parts : (not (is_in queue folder) ≡ true) × (each_once queue ≡ true) = both _ _ h in
    ap (λ b. cond (not b) (folder ∷ without_number folder queue) (without_number folder queue)) (eq_same folder)
    ∙ left_absent folder queue (is_false (is_in queue folder) parts.0)

other_head : (folder : ℕ) (queue : List ℕ) → is_in queue folder ≡ false → same_head (folder ∷ queue) queue ≡ false
other_head folder [] h = refl
other_head folder (n ∷ ns) h = eq_turned n folder (neither _ _ h).0

-- whether a folder is the first
pub record IsFirst (folder : ℕ) (queue : List ℕ) : Type 0 where
  pub rest : List ℕ
  pub is : queue ≡ folder ∷ rest

pub first_is : (folder : ℕ) (queue : List ℕ) → head queue ≡ Some folder → IsFirst folder queue
first_is folder [] h = cc
first_is folder (n ∷ ns) h = record { rest = ns; is = cc }

pub first_in : (folder : ℕ) (queue : List ℕ) → head queue ≡ Some folder → is_in queue folder ≡ true
first_in folder queue h =
    let f = first_is folder queue h in
    subst (λ ns. is_in ns folder ≡ true) (sym f.is) (ap (λ b. b || is_in f.rest folder) (eq_same folder))

pub first_leaves : (folder : ℕ) (queue : List ℕ) → each_once queue ≡ true → head queue ≡ Some folder → same_head queue (without_number folder queue) ≡ false
first_leaves folder queue h e =
    let f = first_is folder queue e in
    let once : each_once (folder ∷ f.rest) ≡ true = subst (λ ns. each_once ns ≡ true) f.is h in
    let parts : (not (is_in f.rest folder) ≡ true) × (each_once f.rest ≡ true) = both _ _ once in
    subst (λ ns. same_head ns (without_number folder ns) ≡ false) (sym f.is)
    (ap (same_head (folder ∷ f.rest)) (left_first folder f.rest once) ∙ other_head folder f.rest (is_false (is_in f.rest folder) parts.0))

-- another one leaves

pub record SameHead (old new : List ℕ) : Type 0 where
  pub same : same_head old new ≡ true
  pub head_is : head new ≡ head old

stays_head : (n : ℕ) (ns ms : List ℕ) (b : Bool) → b ≡ false → SameHead (n ∷ ns) (cond (not b) (n ∷ ms) ms)
stays_head n ns ms true e = cc
stays_head n ns ms false e = record { same = eq_same n; head_is = refl }

pub other_leaves : (folder : ℕ) (queue : List ℕ) → (head queue ≡ Some folder → ⊥) → SameHead queue (without_number folder queue)
other_leaves folder [] h = record { same = refl; head_is = refl }
other_leaves folder (n ∷ ns) h =
    elim (is_or_not (n == folder)) [
      | inl e ↦ absurd (h (ap (λ k. Some k) (eq_is n folder e)))
      | inr e ↦ stays_head n ns (without_number folder ns) (n == folder) e
    ]

pub later_pushed : (folder : ℕ) (queue : List ℕ) → (queue ≡ [] → ⊥) → SameHead queue (queue ++ folder ∷ [])
later_pushed folder [] h = absurd (h refl)
later_pushed folder (n ∷ ns) h = record { same = eq_same n; head_is = refl }

pub nobody : (queue : List ℕ) → is_some (head queue) ≡ false → queue ≡ []
nobody [] h = refl
nobody (n ∷ ns) h = cc

pub somebody : (queue : List ℕ) → is_some (head queue) ≡ true → queue ≡ [] → ⊥
somebody [] h e = cc
somebody (n ∷ ns) h e = cc

-- the one at the first place is removed
pub first_removed : (folder : ℕ) (queue : List ℕ) → each_once queue ≡ true → head queue ≡ Some folder → remove queue 0 ≡ without_number folder queue
first_removed folder queue h e =
    let f = first_is folder queue e in
    subst (λ (ns : List ℕ). remove ns 0 ≡ without_number folder ns) (sym f.is)
    (sym (left_first folder f.rest (subst (λ ns. each_once ns ≡ true) f.is h)))
