use Rattle.std.proofs.Common.{◌≡◌, inl, ◌≤◌, ◌+◌, Ok, Err, List, ℕ, take, length, refl, sym, ◌∙◌, ap, subst, arith}
use Rattle.std.proofs.lemmas.Result.{err_from_is_err_and}
use Rattle.fsrm_model.specs.store.Lasting.{lasting}
use Rattle.record_codec.specs.Entries.{decoded, entry}
use Rattle.record_codec.specs.Writing.{lent}
use Rattle.record_codec.proofs.EntryLaws.{decoded_again}
use Rattle.record_codec.proofs.RecordBodies.{some_bytes}
use Rattle.fsrm_store.specs.Amortized.{bytes_since}
use Rattle.fsrm_store.proofs.Amortizing.{half_then, held_more, later, left_same, unpaid}
use Rattle.fsrm_store.proofs.Standings.{entry_held, settled, settles, stands_on, stands_still}
use Rattle.fsrm_store.proofs.store.Store.keep.Goals as goal

pub hold-requires-clause-some : goal.hold-requires-clause-some
hold-requires-clause-some g c =
    let is : take c.spell-size.result c.deref.result.now ≡ entry.spell (lent c.args.entry.now) = ap (take c.spell-size.result) c.deref.ensures.value ∙ c.spell-size.ensures.written in
    subst (λ (bytes : List ℕ). 1 ≤ length bytes) (sym is) (some_bytes (lent c.args.entry.now))

-- the group has room
pub returns-then-held-self-clause-leaves : goal.returns-then-held-self-clause-leaves
returns-then-held-self-clause-leaves g c kept R s l = stands_still c.args.self.now.engine.size (lasting c.args.self.now.engine.rows) s refl

pub returns-then-held-self-clause-store : goal.returns-then-held-self-clause-store
returns-then-held-self-clause-store g c kept R s l =
    let e = lent c.args.entry.now in
    let body = take c.spell-size.result c.deref.result.now in
    let is : body ≡ entry.spell e = ap (take c.spell-size.result) c.deref.ensures.value ∙ c.spell-size.ensures.written in
    let told : decoded body ≡ Ok e = ap decoded is ∙ decoded_again e c.spell-size.ensures.legal in
    settled (entry_held _ body e c.args.self.now.engine.rows s l told (c.hold.ensures.store s.head s.bytes s.bodies s.stands.parts s.stands.at) (c.hold.ensures.holding s.held s.holding) refl refl refl)

pub returns-then-held-self-clause-amortized : goal.returns-then-held-self-clause-amortized
returns-then-held-self-clause-amortized g c kept R s l =
    let e = lent c.args.entry.now in
    let body = take c.spell-size.result c.deref.result.now in
    let is : body ≡ entry.spell e = ap (take c.spell-size.result) c.deref.ensures.value ∙ c.spell-size.ensures.written in
    let more : bytes_since c.hold.new.self ≡ bytes_since c.args.self.now.journal + (5 + length body) = held_more c.args.self.now.journal c.hold.new.self s.held body s.holding (c.hold.ensures.holding s.held s.holding) c.hold.ensures.end c.hold.ensures.image in
    unpaid _ _ _ _ _ (omega arith) (omega (arith, more, ap (λ (l : List ℕ). length l) is))

-- the disk fails
pub returns-in_err-write-clause-leaves : goal.returns-in_err-write-clause-leaves
returns-in_err-write-clause-leaves g c kept R s l =
    let e = lent c.args.entry.now in
    let body = take c.spell-size.result c.deref.result.now in
    let is : body ≡ entry.spell e = ap (take c.spell-size.result) c.deref.ensures.value ∙ c.spell-size.ensures.written in
    let told : decoded body ≡ Ok e = ap decoded is ∙ decoded_again e c.spell-size.ensures.legal in
    c.write.ensures.leaves kept (entry_held _ body e c.args.self.now.engine.rows s l told (c.hold.ensures.store s.head s.bytes s.bodies s.stands.parts s.stands.at) (c.hold.ensures.holding s.held s.holding) refl refl refl)

pub returns-in_err-write-clause-amortized : goal.returns-in_err-write-clause-amortized
returns-in_err-write-clause-amortized g c kept R s l =
    let e = lent c.args.entry.now in
    let body = take c.spell-size.result c.deref.result.now in
    let is : body ≡ entry.spell e = ap (take c.spell-size.result) c.deref.ensures.value ∙ c.spell-size.ensures.written in
    let told : decoded body ≡ Ok e = ap decoded is ∙ decoded_again e c.spell-size.ensures.legal in
    let more : bytes_since c.hold.new.self ≡ bytes_since c.args.self.now.journal + (5 + length body) = held_more c.args.self.now.journal c.hold.new.self s.held body s.holding (c.hold.ensures.holding s.held s.holding) c.hold.ensures.end c.hold.ensures.image in
    let stands = entry_held _ body e c.args.self.now.engine.rows s l told (c.hold.ensures.store s.head s.bytes s.bodies s.stands.parts s.stands.at) (c.hold.ensures.holding s.held s.holding) refl refl refl in
    let p = err_from_is_err_and c.from_residual.result c.from_residual.ensures.1 in
    let failed = c.in_err-write.ensures.only in
    left_same _ _ _ _ _ _ _ _ failed (p.1 ∙ ap Err p.2 ∙ failed) (later _ _ _ _ _ _ _ (omega arith) (omega (arith, more, ap (λ (l : List ℕ). length l) is)) (c.in_err-write.ensures.amortized kept stands))

-- the group is written
pub returns-clause-leaves : goal.returns-clause-leaves
returns-clause-leaves g c kept R s l =
    let e = lent c.args.entry.now in
    let body = take c.spell-size.result c.deref.result.now in
    let is : body ≡ entry.spell e = ap (take c.spell-size.result) c.deref.ensures.value ∙ c.spell-size.ensures.written in
    let told : decoded body ≡ Ok e = ap decoded is ∙ decoded_again e c.spell-size.ensures.legal in
    c.write.ensures.leaves kept (entry_held _ body e c.args.self.now.engine.rows s l told (c.hold.ensures.store s.head s.bytes s.bodies s.stands.parts s.stands.at) (c.hold.ensures.holding s.held s.holding) refl refl refl)

pub returns-clause-store : goal.returns-clause-store
returns-clause-store g c kept R s l =
    let e = lent c.args.entry.now in
    let body = take c.spell-size.result c.deref.result.now in
    let is : body ≡ entry.spell e = ap (take c.spell-size.result) c.deref.ensures.value ∙ c.spell-size.ensures.written in
    let told : decoded body ≡ Ok e = ap decoded is ∙ decoded_again e c.spell-size.ensures.legal in
    settles kept c.in_ok-write.ensures.written.none
    (stands_on _ (c.in_ok-write.ensures.store kept (entry_held _ body e c.args.self.now.engine.rows s l told (c.hold.ensures.store s.head s.bytes s.bodies s.stands.parts s.stands.at) (c.hold.ensures.holding s.held s.holding) refl refl refl)) refl refl refl refl)

pub returns-clause-amortized : goal.returns-clause-amortized
returns-clause-amortized g c kept R s l =
    let e = lent c.args.entry.now in
    let body = take c.spell-size.result c.deref.result.now in
    let is : body ≡ entry.spell e = ap (take c.spell-size.result) c.deref.ensures.value ∙ c.spell-size.ensures.written in
    let told : decoded body ≡ Ok e = ap decoded is ∙ decoded_again e c.spell-size.ensures.legal in
    let more : bytes_since c.hold.new.self ≡ bytes_since c.args.self.now.journal + (5 + length body) = held_more c.args.self.now.journal c.hold.new.self s.held body s.holding (c.hold.ensures.holding s.held s.holding) c.hold.ensures.end c.hold.ensures.image in
    let stands = entry_held _ body e c.args.self.now.engine.rows s l told (c.hold.ensures.store s.head s.bytes s.bodies s.stands.parts s.stands.at) (c.hold.ensures.holding s.held s.holding) refl refl refl in
    later _ _ _ _ _ _ _ (omega arith) (omega (arith, more, ap (λ (l : List ℕ). length l) is)) (c.in_ok-write.ensures.amortized kept stands)

-- ---- when an image is written
pub returns-then-held-self-clause-half : goal.returns-then-held-self-clause-half
returns-then-held-self-clause-half g c kept R s l = inl (record { ruling = c.hold.ensures.ruling; image_end = c.hold.ensures.image; image = refl })

pub returns-clause-half : goal.returns-clause-half
returns-clause-half g c kept R s l =
    let e = lent c.args.entry.now in
    let body = take c.spell-size.result c.deref.result.now in
    let is : body ≡ entry.spell e = ap (take c.spell-size.result) c.deref.ensures.value ∙ c.spell-size.ensures.written in
    let told : decoded body ≡ Ok e = ap decoded is ∙ decoded_again e c.spell-size.ensures.legal in
    let more : bytes_since c.hold.new.self ≡ bytes_since c.args.self.now.journal + (5 + length body) = held_more c.args.self.now.journal c.hold.new.self s.held body s.holding (c.hold.ensures.holding s.held s.holding) c.hold.ensures.end c.hold.ensures.image in
    let stands = entry_held _ body e c.args.self.now.engine.rows s l told (c.hold.ensures.store s.head s.bytes s.bodies s.stands.parts s.stands.at) (c.hold.ensures.holding s.held s.holding) refl refl refl in
    half_then _ _ _ _ _ _ (c.in_ok-write.ensures.half kept stands) (record { ruling = c.hold.ensures.ruling; image_end = c.hold.ensures.image; image = refl }) (record { ruling = refl; image_end = refl; image = refl }) (omega (arith, more, ap (λ (l : List ℕ). length l) is))
