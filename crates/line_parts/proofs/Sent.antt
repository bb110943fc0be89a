-- What writers send, one after another.
use Rattle.std.proofs.Common.{◌≡◌, ℕ, List, [], ◌++◌, refl, sym, ap, subst, ◌∙◌, append_assoc, arith}
use Rattle.std.proofs.lemmas.Result.{err_from_is_err_and}
use Rattle.std.specs.Prelude.{Option, Result, Ok, Err}
use Rattle.std.specs.Result.{IsErrAnd}
use Rattle.std.specs.Io.KnownBytes.{append_known}
use Rattle.fsrm_outside.specs.declared.traits.Sink.{Ghosts as Sink}
use Rattle.fsrm_outside.specs.Shown.{ShowsFront}
use Rattle.fsrm_outside.proofs.Shown.{append_known-nil, shows_then, shows_then_front}
use Rattle.line_parts.specs.declared.fault.TextFault.{TextFault}
use Rattle.line_parts.specs.declared.fault.TextFault.TheVariants.{NoMemory}
use Rattle.line_parts.specs.Writes.{Sends, Writes, WritesTo}

sends_then : {T E : Type 0} (r : Result T E) (a b c : Option (List ℕ)) (t u : List ℕ) → b ≡ append_known a t → Sends r b c u → Sends r a c (t ++ u)
sends_then (Ok x) a b c t u p h = shows_then a b c t u p h
sends_then (Err e) a b c t u p h = shows_then_front a b c t u p h

front_more : (a b : Option (List ℕ)) (xs ys : List ℕ) → ShowsFront a b xs → ShowsFront a b (xs ++ ys)
front_more a b xs ys h = record {
  front = h.front;
  shown = h.shown;
  is_front = (h.is_front.0 ++ ys, ap (λ (zs : List ℕ). zs ++ ys) h.is_front.1 ∙ append_assoc h.front h.is_front.0 ys);
}

shows_nothing : (a : Option (List ℕ)) (text : List ℕ) → ShowsFront a a text
shows_nothing a text = record { front = []; shown = sym (append_known-nil a); is_front = (text, refl) }

-- writes that follow others are writes with them
abbrev pub JoinsWrites : {S : Type 0} → Sink S → Type 0
JoinsWrites {S = S} sink = (a b c : S) → sink.by_write a b → sink.by_write b c → sink.by_write a c

module _ {S T : Type 0} {sink : Sink S} where
  -- writes, and further writes
  pub device_then : {r : Result T TextFault} {x : T} {a b c : S} → JoinsWrites sink → WritesTo sink (Ok x) a b → WritesTo sink r b c → WritesTo sink r a c
  device_then {a = a} {b = b} {c = c} join p q = record {
    fault = λ is. rw (← p.same) (q.fault is);
    later = omega arith;
    same = rw (← p.same) q.same;
    by = join a b c p.by q.by;
  }

  -- the same text
  pub told : {r : Result T TextFault} {a b : S} {t u : List ℕ} → t ≡ u → Writes sink r a b t → Writes sink r a b u
  told {r = r} {a = a} {b = b} e p = subst (λ x. Writes sink r a b x) e p

  -- one text after another
  pub writes_then : {r : Result T TextFault} {x : T} {a b c : S} {t u : List ℕ} → JoinsWrites sink → Writes sink (Ok x) a b t → Writes sink r b c u → Writes sink r a c (t ++ u)
  writes_then {r = r} {a = a} {b = b} {c = c} {t = t} {u = u} join p q = record {
    text = sends_then r (sink.shown a) (sink.shown b) (sink.shown c) t u p.text q.text;
    device = device_then join p.device q.device;
  }

  -- a text that was cut off, with what would have come after it
  pub writes_front : {e : TextFault} {a b : S} {t : List ℕ} (rest : List ℕ) → Writes {T = T} sink (Err e) a b t → Writes {T = T} sink (Err e) a b (t ++ rest)
  writes_front {a = a} {b = b} {t = t} rest p = record {
    text = front_more (sink.shown a) (sink.shown b) t rest p.text;
    device = p.device;
  }

  -- nothing so far
  pub none_written : {x : T} (a : S) → ((a : S) → sink.by_write a a) → Writes sink (Ok x) a a []
  none_written a stay = record {
    text = sym (append_known-nil (sink.shown a));
    device = record { fault = λ same. cc; later = omega arith; same = refl; by = stay a };
  }

  -- what the exit of a `?` answers
  pub passed_on : {e : TextFault} {a b : S} {t : List ℕ} (r : Result T TextFault) → IsErrAnd r (λ d. d ≡ e) → Writes {T = T} sink (Err e) a b t → Writes sink r a b t
  passed_on r is p = let q = err_from_is_err_and r is in rw (q.1, q.2) p

  pub device_passed_on : {e : TextFault} {a b : S} (r : Result T TextFault) → IsErrAnd r (λ d. d ≡ e) → WritesTo {T = T} sink (Err e) a b → WritesTo sink r a b
  device_passed_on r is p = let q = err_from_is_err_and r is in rw (q.1, q.2) p

  -- there was no memory, and nothing was written
  pub unwritten : (a : S) (t : List ℕ) (r : Result T TextFault) → ((a : S) → sink.by_write a a) → IsErrAnd r (λ d. d ≡ NoMemory) → Writes sink r a a t
  unwritten a t r stay is =
      let p : Writes {T = T} sink (Err NoMemory) a a t = record {
        text = shows_nothing (sink.shown a) t;
        device = record { fault = λ same. cc; later = omega arith; same = refl; by = stay a };
      } in
      let q = err_from_is_err_and r is in
      rw (q.1, q.2) p

  -- ---- a text in two or three parts, whole or cut off in the first or the second
  pub cut_first : {e : TextFault} {a b : S} {t whole : List ℕ} (rest : List ℕ) → t ++ rest ≡ whole → Writes {T = T} sink (Err e) a b t → Writes {T = T} sink (Err e) a b whole
  cut_first rest e p = told e (writes_front rest p)

  pub cut_second : {e : TextFault} {x : T} {a b c : S} {t u whole : List ℕ} (rest : List ℕ) → JoinsWrites sink → t ++ (u ++ rest) ≡ whole → Writes sink (Ok x) a b t → Writes {T = T} sink (Err e) b c u → Writes {T = T} sink (Err e) a c whole
  cut_second rest join e p q = told e (writes_then join p (writes_front rest q))

  pub two_texts : {r : Result T TextFault} {x : T} {a b c : S} {t u whole : List ℕ} → JoinsWrites sink → t ++ u ≡ whole → Writes sink (Ok x) a b t → Writes sink r b c u → Writes sink r a c whole
  two_texts join e p q = told e (writes_then join p q)

  pub three_texts : {r : Result T TextFault} {x y : T} {a b c d : S} {t u v whole : List ℕ} → JoinsWrites sink → t ++ (u ++ v) ≡ whole → Writes sink (Ok x) a b t → Writes sink (Ok y) b c u → Writes sink r c d v → Writes sink r a d whole
  three_texts join e p q r = told e (writes_then join p (writes_then join q r))
