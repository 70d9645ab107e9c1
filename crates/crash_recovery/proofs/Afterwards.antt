-- What becomes of a device that is opened: its layout, its free lane slots, and whether a sync is all that it gains.
use Rattle.std.proofs.Common.{◌≡◌, inl, inr, ℕ, ◌+◌, ◌-◌, ◌<◌, ◌≤◌, false, true, cond, List, length, sym, ◌∙◌, ap, subst, arith}
use Rattle.std.proofs.lemmas.Bool.{cases_Bool}
use Rattle.trend_num.specs.{TagDef}
use Rattle.trend_model.specs.{State.State, State.after, History.Tune}
use Rattle.disk_model.specs.{Traces.Trace, Traces.Synced, Traces.seen, Traces.noted, Gates.IsNew, Gates.IsBegun, Gates.layout_calls, Calls.Shows}
use Rattle.event_queue.specs.{Slots.batch_at, Lanes.IsStale}
use Rattle.archive_file.proofs.Beginnings.{not_new}
use Rattle.device_layout.specs.{counting}
use Rattle.device_layout.proofs.OneState.{one_state}
use Rattle.crash_recovery.specs.{Seat, IsSeat, free_in, taken_of, IsReadAs, HasFree, HasFreeAtFirst, LeavesFree, MakesLayout, GainsSync, OpensAt, checkpoint_calls}
use Rattle.crash_recovery.proofs.Openings.{shown_before}

-- a device that has the place of a journal is not new
not_seated : (p : Seat) (c : List ℕ) → IsSeat p c → IsNew c → ⊥
not_seated p c seat x4 = grind arith

-- ---- how many lane slots are free

-- those of a place on a device
seat_free : (p : Seat) (c : List ℕ) → p.lane.used ≤ p.lane.slots → IsSeat p c → HasFree p.lane.slots (free_in p) c
seat_free p c within seat =
    let taken : p.taken ≡ taken_of c (counting c) = seat.laid.taken ∙ ap (taken_of c) seat.laid.counts in
    elim (cases_Bool p.stale) [
      | inl stale ↦ inl (
        λ k below opened. subst (λ n. IsStale n (batch_at p.lane.slots c k)) taken
            ((seat.overrun stale).stale k below opened),
        ap (λ b. cond b p.lane.slots (p.lane.slots - p.lane.used)) stale,
      )
      | inr fresh ↦
          let rest : free_in p ≡ p.lane.slots - p.lane.used =
          ap (λ b. cond b p.lane.slots (p.lane.slots - p.lane.used)) fresh in
          let in_use = seat.laid.in_use fresh in
          inr (
            p.lane.used,
            record {
              opened = in_use.opened;
              beyond = λ k below. subst
                  (λ n. n < (batch_at p.lane.slots c k).first + (batch_at p.lane.slots c k).count) taken
                  (in_use.beyond k below);
              shut = seat.laid.room.shut;
            },
            omega (arith, rest, within),
          )
    ]

pub free_kept : (o mid : Trace) (p : Seat) → mid ≡ noted Synced o → p.lane.used ≤ p.lane.slots
    → Shows mid (IsSeat p) → Shows o (HasFreeAtFirst p.lane.slots (free_in p))
free_kept o mid p is within seat = grind (arith, shown_before, not_seated, seat_free)

pub free_made : (o mid : Trace) (slots free : ℕ) → mid ≡ noted Synced o → free ≡ slots → Shows mid IsNew
    → Shows o (HasFreeAtFirst slots free)
free_made o mid slots free is all new = grind (arith, shown_before)

-- without a retuning
pub free_read : (def : TagDef) (o mid : Trace) (r : State) (slots free : ℕ) → IsReadAs def o mid false r
    → Shows o (HasFreeAtFirst slots free) → Shows o (LeavesFree def slots free)
free_read def t mid r slots free read has = record {
  new = has.new;
  retuned = λ s recovered other. absurd (other (ap (λ x. x.summary.tuning)
      (one_state def (seen t) s read.0 recovered read.1) ∙ read.3.0));
  kept = λ begun s recovered tuned. has.begun begun;
}

-- and with one
pub free_retuned : (def : TagDef) (o mid : Trace) (r : State) (slots free : ℕ) → IsReadAs def o mid true r
    → free ≡ slots → Shows o (LeavesFree def slots free)
free_retuned def t mid r slots free read all = record {
  new = λ new. all;
  retuned = λ s recovered other. all;
  kept = λ begun s recovered tuned. absurd (read.3.0 (ap (λ x. x.summary.tuning)
      (one_state def (seen t) read.0 s read.1 recovered) ∙ tuned));
}

-- ---- its layout, and its calls

-- a fact of one that was not new
pub begun_before : (o mid : Trace) (P : Type 0) → mid ≡ noted Synced o → Shows mid IsBegun
    → Shows o (λ c. IsNew c → P)
begun_before o mid P is begun = grind (arith, shown_before, not_new)

-- and of one that was
pub new_before : (o mid : Trace) (P : Type 0) → mid ≡ noted Synced o → Shows mid IsNew
    → Shows o (λ c. (IsNew c → ⊥) → P)
new_before o mid P is new = grind (arith, shown_before)

-- of any
pub shown_always : (o : Trace) (A : List ℕ → Type 0) (P : Type 0) → P → Shows o (λ c. A c → P)
shown_always t A P p = λ a. p

-- a new device is none of a tag that has to be retuned
pub layout_retuned : (def : TagDef) (o mid new : Trace) (r : State) (slots : ℕ) → IsReadAs def o mid true r
    → MakesLayout def slots o new
layout_retuned def t mid new r slots read = grind (arith, one_state)

pub synced_read : (def : TagDef) (o new : Trace) → Shows o (λ c. (IsNew c → ⊥) → new ≡ noted Synced o)
    → GainsSync def o new
synced_read def t new alone = λ begun s recovered tuned. alone begun

pub synced_retuned : (def : TagDef) (o mid new : Trace) (r : State) → IsReadAs def o mid true r
    → GainsSync def o new
synced_retuned def t mid new r read = λ begun s recovered tuned. absurd (read.3.0
    (ap (λ x. x.summary.tuning) (one_state def (seen t) read.0 s read.1 recovered) ∙ tuned))

-- ---- when the opening ends

-- without a retuning
pub opens_read : (def : TagDef) (o mid : Trace) (r : State) (before now : ℕ) → length o.calls ≡ before
    → IsReadAs def o mid false r → Shows o (λ c. IsNew c → now ≡ before + (layout_calls c + 1))
    → Shows o (λ c. (IsNew c → ⊥) → now ≡ before + 1) → OpensAt def o now
opens_read def t mid r before now told read new kept = record {
  new = λ is. omega (arith, told, new is);
  kept = λ begun s recovered tuned. omega (arith, told, kept begun);
  retuned = λ s recovered other. absurd (other (ap (λ x. x.summary.tuning)
      (one_state def (seen t) s read.0 recovered read.1) ∙ read.3.0));
}

-- and with one: a checkpoint follows
pub opens_retuned : (def : TagDef) (o mid : Trace) (r : State) (before first now : ℕ) → length o.calls ≡ before
    → IsReadAs def o mid true r → Shows o (λ c. (IsNew c → ⊥) → mid ≡ noted Synced o)
    → Shows o (λ c. (IsNew c → ⊥) → first ≡ before + 1)
    → Shows mid (λ c. now ≡ first + checkpoint_calls (length r.records) c) → OpensAt def o now
opens_retuned def t mid r before first now told read synced kept put = record {
  new = λ is. absurd (begun is);
  kept = λ not_new s recovered tuned. absurd (read.3.0 (ap (λ x. x.summary.tuning)
      (one_state def (seen t) read.0 s read.1 recovered) ∙ tuned));
  retuned = λ s recovered other.
      let same : s ≡ read.0 = one_state def (seen t) s read.0 recovered read.1 in
      let state : r ≡ after def.step s (Tune def.tuning) = read.3.1 ∙ ap (λ x. after def.step x (Tune def.tuning)) (sym same) in
      let many : checkpoint_calls (length r.records) (seen t)
      ≡ checkpoint_calls (length (after def.step s (Tune def.tuning)).records) (seen t) =
      ap (λ x. checkpoint_calls (length x.records) (seen t)) state in
      omega (arith, told, kept begun, subst (λ m. Shows m (λ c. now ≡ first + checkpoint_calls (length r.records) c)) (synced begun) put, many);
}
  where
    begun : IsNew (seen t) → ⊥
    begun new = grind (arith, one_state)
