-- What a crash leaves while gates are closed, one after the other.
use Rattle.std.proofs.Common.{◌≡◌, ◌≢◌, inl, inr, ℕ, ◌+◌, ◌-◌, ◌<◌, ◌≤◌, List, [], ◌∷◌, length, get_or, Result, Ok, Err, OnOk, refl, sym, ◌∙◌, ap, subst, arith, add-zero, add-one}
use Rattle.std.proofs.lemmas.{Bool.eq-eqb, Bool.ne_eqb, Bool.cond-true, Bool.cond-false, List.get_or_past, List.get_or-take, List.get_or-drop}
use Rattle.disk_model.specs.{Wrote, WroteInPart, Synced, Idle, Trace, seen, noted, written, IsTorn, MayLeave, Now, FromOld, ComesAfter, During, IsNoted, IsTimed, Reaches, Reads, Shows, open_byte, open_gate, open_gates, HasGatesOf, AreShut}
use Rattle.disk_model.specs.{IsClosing}
use Rattle.disk_model.proofs.{Bytes.torn_written, Images.wrote_now, Images.synced_now}
use Rattle.disk_model.proofs.Moments.{started, during_now, goes_on, in_turn, weaker}

-- no gate closed
pub closing_self : (at n : ℕ) (c : List ℕ) → IsClosing at n c c
closing_self at n c = record { same_length = refl; same = λ i out. refl }

-- an open gate, torn
pub closing_torn : (gate : ℕ) (d c : List ℕ) → gate < length d → get_or d gate 0 ≡ open_byte → IsTorn gate 1 d c → IsClosing gate 1 d c
closing_torn gate d c there opened torn = grind (arith, get_or_past)

-- one gate of several closed after others
pub closing_more : (at n gate : ℕ) (a b c : List ℕ) → at ≤ gate → gate < at + n → IsClosing at n a b → IsClosing gate 1 b c → IsClosing at n a c
closing_more at n gate a b c low high before now = grind arith

-- what a read of one byte says of the bytes that a read gives
byte_read : (t : Trace) (gate : ℕ) (b : List ℕ) → length b ≡ 1 → Reads t gate b → get_or b 0 0 ≡ get_or (seen t) gate 0
byte_read t gate b one reads = grind (arith, get_or-take, get_or-drop, add-zero)

-- nothing was done
pub closing_kept : (o now : Trace) (gate : ℕ) → now ≡ o → During o now (FromOld o (IsClosing gate 1))
closing_kept o now gate same =
    subst (λ x. During o x (FromOld o (IsClosing gate 1))) (sym same) (started o (FromOld o (IsClosing gate 1)) (record { each = λ c may. (c, may, closing_self gate 1 c) }))

-- an open gate of each image
gate_of : (o : Trace) (gate : ℕ) (b : List ℕ) → Now o (HasGatesOf (seen o) gate 1) → length b ≡ 1 → Reads o gate b → get_or b 0 0 ≡ open_byte
    → (d : List ℕ) → MayLeave o d → (gate < length d) × (get_or d gate 0 ≡ open_byte)
gate_of t gate b gates one reads opened d may = grind (arith, byte_read)

-- a gate that reads open was written
pub closing_wrote : {E : Type 0} (o now next : Trace) (gate : ℕ) (b : List ℕ) (r : Result (Unit {0}) E) → Now o (HasGatesOf (seen o) gate 1)
    → length b ≡ 1 → Reads o gate b → get_or b 0 0 ≡ open_byte → now ≡ o → IsNoted (Wrote gate (0 ∷ [])) (WroteInPart gate (0 ∷ [])) r now next
    → During o next (FromOld o (IsClosing gate 1))
closing_wrote o now next gate b r gates one reads opened same wrote =
    let closes : (c : List ℕ) → MayLeave next c → FromOld o (IsClosing gate 1) c =
    λ c may.
    let from = wrote_now r now next gate (0 ∷ []) c wrote may in
    let earlier = subst (λ x. MayLeave x from.0) same from.1 in
    let is_open = gate_of o gate b gates one reads opened from.0 earlier in
    (from.0, earlier, closing_torn gate from.0 c is_open.0 is_open.1 from.2) in
    goes_on (Wrote gate (0 ∷ [])) (WroteInPart gate (0 ∷ [])) r o now next (FromOld o (IsClosing gate 1)) (closing_kept o now gate same) wrote (record { each = closes })

-- and then a read gives a closed gate there, and the same elsewhere
pub closing_read : (o now next : Trace) (gate : ℕ) (b : List ℕ) → Reaches o (gate + 1) → length b ≡ 1 → Reads o gate b → get_or b 0 0 ≡ open_byte
    → now ≡ o → next ≡ noted (Wrote gate (0 ∷ [])) now → IsClosing gate 1 (seen o) (seen next)
closing_read t now next gate b room one reads opened same wrote =
    let s = seen t in
    subst (λ x. IsClosing gate 1 s (seen x)) (sym (wrote ∙ ap (noted (Wrote gate (0 ∷ []))) same))
    (closing_torn gate s (written s gate (0 ∷ [])) (omega (arith, room)) (sym (byte_read t gate b one reads) ∙ opened) (torn_written s gate (0 ∷ [])))

-- the same, of whatever the write answered
pub closing_answered : {E : Type 0} (r : Result (Unit {0}) E) (o now next : Trace) (gate : ℕ) (b : List ℕ) → Reaches o (gate + 1) → length b ≡ 1 → Reads o gate b
    → get_or b 0 0 ≡ open_byte → now ≡ o → IsNoted (Wrote gate (0 ∷ [])) (WroteInPart gate (0 ∷ [])) r now next → OnOk r (IsClosing gate 1 (seen o) (seen next))
closing_answered (Ok x) o now next gate b room one reads opened same wrote = closing_read o now next gate b room one reads opened same wrote
closing_answered (Err e) o now next gate b room one reads opened same wrote = tt

-- the first k of count gates are closed
pub record AreClosed (at count k : ℕ) (o now : Trace) : Type 0 where
  pub any_moment : During o now (FromOld o (IsClosing at count))
  pub reads : IsClosing at count (seen o) (seen now)
  pub shut : (i : ℕ) → at ≤ i → i < at + k → get_or (seen now) i 0 ≢ open_byte
  pub ahead : (i : ℕ) → at + k ≤ i → get_or (seen now) i 0 ≡ get_or (seen o) i 0
  pub left : Now now (HasGatesOf (seen now) (at + k) (count - k))
  pub room : Reaches now (at + count)

-- none are
pub none_closed : (at count : ℕ) (o : Trace) → Reaches o (at + count) → Now o (HasGatesOf (seen o) at count) → AreClosed at count 0 o o
none_closed at count o room gates = record {
  any_moment = started o (FromOld o (IsClosing at count)) (record { each = λ c may. (c, may, closing_self at count c) });
  reads = closing_self at count (seen o);
  shut = λ i low high. absurd (omega arith);
  ahead = λ i low. refl;
  left = record { each = λ c may. let has = gates.each c may in record { there = omega (arith, has.there); same = λ i low high. has.same i (omega arith) (omega arith) } };
  room = room;
}

-- a device that comes after another has its length where a read gives as many bytes
reaches_after : (a b : Trace) (n : ℕ) → ComesAfter a b → length (seen b) ≡ length (seen a) → Reaches a n → Reaches b n
reaches_after t u n later same room = omega (arith, same, room)

module _ (at count k gate : ℕ) (o now next : Trace) (before : AreClosed at count k o now) (here : k < count) (is_gate : gate ≡ at + k) (during : During now next (FromOld now (IsClosing gate 1))) where
  -- through the next one, whatever came of it
  pub closing_goes_on : During o next (FromOld o (IsClosing at count))
  closing_goes_on =
      let closes : (c : List ℕ) → FromOld now (IsClosing gate 1) c → FromOld o (IsClosing at count) c =
      λ c from.
      let earlier = (during_now o now (FromOld o (IsClosing at count)) before.any_moment).each from.0 from.1 in
      (earlier.0, earlier.1, closing_more at count gate earlier.0 from.0 c (omega arith) (omega arith) earlier.2 from.2) in
      in_turn o now next (FromOld o (IsClosing at count)) before.any_moment (weaker now next (FromOld now (IsClosing gate 1)) (FromOld o (IsClosing at count)) closes during)

  -- once it is closed too
  pub one_closed : IsClosing gate 1 (seen now) (seen next) → get_or (seen next) gate 0 ≢ open_byte → AreClosed at count (k + 1) o next
  one_closed reads shut = grind (arith, closing_goes_on, closing_more, others, reaches_after)
    where
      others : (c : List ℕ) → MayLeave next c → HasGatesOf (seen next) (at + (k + 1)) (count - (k + 1)) c
      others c may =
          let from = (during_now now next (FromOld now (IsClosing gate 1)) during).each c may in
          let has = before.left.each from.0 from.1 in
          record {
            there = omega (arith, has.there, from.2.same_length);
            same = λ i low high. from.2.same i (inl (inr (omega arith))) ∙ has.same i (omega arith) (omega arith) ∙ sym (reads.same i (inl (inr (omega arith))));
          }

-- through the sync at the end
pub all_moments : {E : Type 0} (at count k : ℕ) (o now next : Trace) (r : Result (Unit {0}) E) → AreClosed at count k o now → IsNoted Synced Idle r now next
    → During o next (FromOld o (IsClosing at count))
all_moments at count k o now next r before synced =
    goes_on Synced Idle r o now next (FromOld o (IsClosing at count)) before.any_moment synced
    (record { each = λ c may. (during_now o now (FromOld o (IsClosing at count)) before.any_moment).each c (synced_now r now next c synced may) })

-- after it a read gives what it gave before
synced_reads : (now : Trace) → seen (noted Synced now) ≡ seen now
synced_reads t = refl

pub all_read : {E : Type 0} (at count k : ℕ) (o now next : Trace) (r : Result (Unit {0}) E) → AreClosed at count k o now → IsNoted Synced Idle r now next
    → OnOk r (IsClosing at count (seen o) (seen next))
all_read at count k o now next (Ok x) before synced = subst (λ s. IsClosing at count (seen o) s) (sym (ap seen synced ∙ synced_reads now)) before.reads
all_read at count k o now next (Err e) before synced = tt

-- and each image has all gates closed
shut_in : (at count k : ℕ) (now : Trace) → count ≤ k → Reaches now (at + count) → ((i : ℕ) → at ≤ i → i < at + k → get_or (seen now) i 0 ≢ open_byte)
    → (c : List ℕ) → MayLeave (noted Synced now) c → AreShut at count c
shut_in at count k t all room shut c may = grind arith

pub all_shut : {E : Type 0} (at count k : ℕ) (o now next : Trace) (r : Result (Unit {0}) E) → count ≤ k → AreClosed at count k o now → IsNoted Synced Idle r now next
    → OnOk r (Now next (AreShut at count))
all_shut at count k o now next (Ok x) all before synced = grind (arith, shut_in)
all_shut at count k o now next (Err e) all before synced = tt

-- ---- how many calls closed them

-- a gate that reads closed took none
pub shut_counted : (o : Trace) (first last gate : ℕ) (b : List ℕ) → length b ≡ 1 → Reads o gate b → get_or b 0 0 ≢ open_byte → last ≡ first
    → Shows o (λ c. last ≡ first + open_gate gate c)
shut_counted t first last gate b one reads shut none = grind (arith, byte_read, cond-false, ne_eqb)

-- one that reads open took a write
pub open_counted : {E : Type 0} (r : Result (Unit {0}) E) (o : Trace) (first mid last gate : ℕ) (b : List ℕ) → length b ≡ 1 → Reads o gate b
    → get_or b 0 0 ≡ open_byte → mid ≡ first → IsTimed mid last r → OnOk r (Shows o (λ c. last ≡ first + open_gate gate c))
open_counted (Err e) o first mid last gate b one reads opened none timed = tt
open_counted (Ok x) t first mid last gate b one reads opened none timed = grind (arith, cond-true, eq-eqb, byte_read)

-- before the first gate
pub none_counted : (at first : ℕ) (o : Trace) → Shows o (λ c. first ≡ first + open_gates at 0 c)
none_counted at first t = sym (add-zero first)

-- one gate more
pub one_counted : (at k gate first mid last : ℕ) (o now : Trace) → gate ≡ at + k → ComesAfter o now
    → get_or (seen now) gate 0 ≡ get_or (seen o) gate 0 → Shows o (λ c. mid ≡ first + open_gates at k c)
    → Shows now (λ c. last ≡ mid + open_gate gate c) → Shows o (λ c. last ≡ first + open_gates at (k + 1) c)
one_counted at k gate first mid last t u is later same before this = grind (arith, add-one)

-- and the sync
pub all_counted : {E : Type 0} (r : Result (Unit {0}) E) (at count k first mid last : ℕ) (o : Trace) → k ≡ count → IsTimed mid last r
    → Shows o (λ c. mid ≡ first + open_gates at k c) → OnOk r (Shows o (λ c. last ≡ first + (open_gates at count c + 1)))
all_counted (Err e) at count k first mid last o all timed before = tt
all_counted (Ok x) at count k first mid last t all timed before = grind arith
