-- What one more event changes in a core.
use Rattle.std.proofs.Common.{◌≡◌, ℕ, ◌+◌, ◌≤◌, Bool, List, [], ◌∷◌, Option, None, Some, length, refl, sym, ap, ap₂, ◌∙◌, subst, arith, length-append}
use Rattle.std.specs.Option.{option_or}
use Rattle.trend_num.specs.{Point, most_records, Sending, Tuning, InRange, TuningInRange}
use Rattle.trend_model.specs.{Event, Origin, Raw, Tune, Tuned, Sent, AllPoints, tuned_by}
use Rattle.trend_model.specs.State.{State, Stands, pushed_out, gained, offered, turned, archive_on, archived, state_with, after_under, after}
use Rattle.trend_model.proofs.Following.{held_after, held_archived, grows_archived}
use Rattle.trend_model.proofs.RulesLaw.{after_adds, after_ruled, tuning_is}
use Rattle.trend_model.proofs.StateLaw.{stands_after}
use Rattle.tag_core.specs.Compressed.{AddsTwo, Compressed, archive_with, compressed_in, compressed_after}
use Rattle.tag_core.specs.Core.{IsCore}

-- ---- what is compressed

-- a pending value that is sent is held
held_pushed : (held first : Option Point) → held_after held (pushed_out first) ≡ option_or first held
held_pushed held None = refl
held_pushed held (Some q) = refl

-- what is compressed of a pending value, at the point that is then held, is the archive after it
pub first_archive : (old new : Compressed) (held first : Option Point) → new ≡ compressed_after old held (pushed_out first)
    → archive_with new (option_or first held) ≡ archived old.step (archive_with old held) (pushed_out first)
first_archive old new held first after =
    let a = archived old.step (archive_with old held) (pushed_out first) in
    let same : option_or first held ≡ a.held =
    sym (held_archived old.step (archive_with old held) (pushed_out first) ∙ held_pushed held first) in
    rw (after, same) refl

-- a pending value is compressed, and then one thing more
pub after_both : (old mid new : Compressed) (held first then : Option Point) (s : Sent) → mid ≡ compressed_after old held (pushed_out first)
    → then ≡ option_or first held → new ≡ compressed_after mid then (s ∷ []) → new ≡ compressed_after old held (s ∷ pushed_out first)
after_both old mid new held first then s after same last =
    let a = archived old.step (archive_with old held) (pushed_out first) in
    last ∙ ap (λ q. compressed_after mid q (s ∷ [])) same
    ∙ ap (λ b. compressed_in mid.step (archive_on mid.step b s) mid.places) (first_archive old mid held first after)
    ∙ ap (λ (m : Compressed). compressed_in m.step (archive_on m.step a s) m.places) after

-- two things that are sent add two records at most, at the end, in the places that were there
pub adds_two : (old new : Compressed) (held : Option Point) (ss : List Sent) → length ss ≤ 2 → new ≡ compressed_after old held ss → AddsTwo old new
adds_two old new held ss two after =
    let grown = grows_archived old.step (archive_with old held) ss in
    let more = grown.few in
    let n = ap length grown.at_end ∙ length-append old.records grown.more in
    subst (AddsTwo old) (sym after)
    (record { grows = (grown.more, grown.at_end); not_fewer = omega arith; few = omega arith; same_places = refl })

-- ---- the core

-- the state of a core of these parts
abbrev pub state_of : Compressed → ℕ → Option Point → Option Point → State
state_of c taken last waiting = state_with (archive_with c last) taken last waiting

-- the parts of a core after one more event: what is compressed, how many events were taken, and the gate's two places
pub record Turns (old new : Compressed) (taken then : ℕ) (last waiting last_then waiting_then : Option Point) (e : Event) : Type 0 where
  pub compressed : new ≡ compressed_after old last (turned old.tuning last waiting e).sends
  pub last_is : last_then ≡ (turned old.tuning last waiting e).last
  pub pending_is : waiting_then ≡ (turned old.tuning last waiting e).pending
  pub counted : then ≡ taken + 1

-- what an exception test hands on of a value turns the parts
pub value_turns : (old new : Compressed) (taken then : ℕ) (last waiting last_then waiting_then : Option Point) (u : Tuning) (p : Point)
    (first : Option Point) (second : Option Sending) → u ≡ old.tuning → new ≡ compressed_after old last (gained first second)
    → last_then ≡ (offered u last waiting p).last → waiting_then ≡ (offered u last waiting p).pending
    → first ≡ (offered u last waiting p).first → second ≡ (offered u last waiting p).second → then ≡ taken + 1
    → Turns old new taken then last waiting last_then waiting_then (Raw p)
value_turns old new taken then last waiting last_then waiting_then u p first second same compressed lasts waits one two counted =
    let offer = λ (t : Tuning). offered t last waiting p in
    record {
      compressed = compressed ∙ ap (λ ss. compressed_after old last ss)
          (ap₂ gained (one ∙ ap (λ t. (offer t).first) same) (two ∙ ap (λ t. (offer t).second) same));
      last_is = lasts ∙ ap (λ t. (offer t).last) same;
      pending_is = waits ∙ ap (λ t. (offer t).pending) same;
      counted = counted;
    }

-- a gate that is flushed for a retuning turns the parts
pub tune_turns : (old new : Compressed) (taken then : ℕ) (last waiting last_then waiting_then first : Option Point) (u : Tuning)
    → first ≡ waiting → new ≡ compressed_after old last (Tuned u ∷ pushed_out first)
    → last_then ≡ option_or waiting last → waiting_then ≡ None → then ≡ taken + 1
    → Turns old new taken then last waiting last_then waiting_then (Tune u)
tune_turns old new taken then last waiting last_then waiting_then first u same compressed lasts waits counted = record {
  compressed = compressed ∙ ap (λ q. compressed_after old last (Tuned u ∷ pushed_out q)) same;
  last_is = lasts;
  pending_is = waits;
  counted = counted;
}

-- the state of parts that turned is the state after the event
pub turned_state : (old new : Compressed) (taken then : ℕ) (last waiting last_then waiting_then : Option Point) (e : Event)
    → Turns old new taken then last waiting last_then waiting_then e
    → state_of new then last_then waiting_then ≡ after old.step (state_of old taken last waiting) e
turned_state old new taken then last waiting last_then waiting_then e t = rw (t.compressed, t.last_is, t.pending_is, t.counted) refl

-- one more event keeps what is true of each core
core_on : (u : Tuning) (step : Bool) (s : State) (e : Event) → IsCore u step s → AllPoints InRange (e ∷ []) → TuningInRange (tuned_by u e)
    → length s.records + 2 ≤ most_records → IsCore (tuned_by u e) step (after step s e)
core_on u step s e core here tuned room = record {
  tuned = subst (λ t. (after_under step s e t).summary.tuning ≡ Some (tuned_by u e)) (sym core.tuned) (ap Some (tuning_is u step s e));
  tuned_ok = tuned;
  ruled = after_ruled InRange u step s e core.ruled core.tuned here;
  few = (let few = after_adds step s e in omega arith);
}

-- so it does of the parts
pub core_turned : (old new : Compressed) (taken then : ℕ) (last waiting last_then waiting_then : Option Point) (e : Event)
    → Turns old new taken then last waiting last_then waiting_then e → IsCore old.tuning old.step (state_of old taken last waiting)
    → AllPoints InRange (e ∷ []) → TuningInRange (tuned_by old.tuning e) → length old.records + 2 ≤ most_records
    → IsCore new.tuning new.step (state_of new then last_then waiting_then)
core_turned old new taken then last waiting last_then waiting_then e t core here tuned room =
    let s = state_of old taken last waiting in
    let same : new.tuning ≡ tuned_by old.tuning e = ap (λ (c : Compressed). c.tuning) t.compressed ∙ tuning_is old.tuning old.step s e in
    let kind : new.step ≡ old.step = ap (λ (c : Compressed). c.step) t.compressed in
    let state = turned_state old new taken then last waiting last_then waiting_then e t in
    let on = core_on old.tuning old.step s e core here tuned room in
    subst (λ x. IsCore new.tuning new.step x) (sym state)
    (subst (λ b. IsCore new.tuning b (after old.step s e)) (sym kind)
    (subst (λ u. IsCore u old.step (after old.step s e)) (sym same) on))

-- what stands for a history stands for the history and the event
pub stands_turned : (old new : Compressed) (taken then : ℕ) (last waiting last_then waiting_then : Option Point) (e : Event)
    → Turns old new taken then last waiting last_then waiting_then e
    → (o : Origin) (h : List Event) → o.step ≡ old.step → Stands o h (state_of old taken last waiting)
    → Stands o (e ∷ h) (state_of new then last_then waiting_then)
stands_turned old new taken then last waiting last_then waiting_then e t o h kind stands =
    rw (turned_state old new taken then last waiting last_then waiting_then e t, ← kind)
    (stands_after o h e (state_of old taken last waiting) stands)
