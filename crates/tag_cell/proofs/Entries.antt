-- What a cell's type keeps, after one more entry on its tape.
use Rattle.std.proofs.Common.{◌≡◌, ℕ, ◌+◌, ◌-◌, ◌≤◌, Bool, List, [], ◌∷◌, ◌++◌, length, map, take, Some, refl, sym, ◌∙◌, ap, subst, arith, length-append}
use Rattle.std.proofs.lemmas.List.{append-nil, take-append-le}
use Rattle.trend_num.specs.{Point, TagDef, TagQuery, most_records}
use Rattle.trend_model.specs.{Raw}
use Rattle.trend_model.specs.State.{State, after, replay}
use Rattle.disk_model.specs.{Device}
use Rattle.crash_recovery.specs.{AllRecover}
use Rattle.device_layout.specs.{Recovers}
use Rattle.interp_read.specs.{Reply}
use Rattle.tag_cell.specs.{Entry, TagOpening, CellWalk, cell_start, cell_walked, taken, last_records, acked_at, done, opened, state_after, IsAnswer, IsPull, replayed, shown_of, IsTapeReplayed, IsCountable, IsSafe, RecoversPart, IsKept}
use Rattle.tag_cell.specs.{Waits}
use Rattle.tag_cell.specs.declared.entry.Entry.TheVariants.{Take, Ask, Pull}
use Rattle.tag_cell.proofs.Tapes.{IsCall, moment-call, acked_at-call, walked-push, taken-append, points-walked, fit-push, state_after-push}

-- ---- the tape replays

-- the values at the end of a tape are those that were taken
pub points-end : (o : TagOpening) (tape : List Entry) → (cell_walked (cell_start o) tape).points ≡ taken tape
points-end o tape = points-walked (cell_start o) tape

-- after a take
pub take_replayed : (def : TagDef) (o : TagOpening) (tape tape' : List Entry) (s s' : State) (acked collector row : ℕ) (p h : Point) (n : ℕ)
    → IsTapeReplayed def o tape s acked → length s.records + 2 ≤ most_records
    → s' ≡ after def.step s (Raw p) → s'.summary.held ≡ Some h → n ≡ length s'.records
    → tape' ≡ tape ++ Take collector row p h n ∷ [] → IsTapeReplayed def o tape' s' acked
take_replayed def o tape tape' s s' acked collector row p h n is room next held count longer =
    let e : Entry = Take collector row p h n in
    let goes : (ps : List Point) → ps ≡ taken tape → state_after def.step o (ps ++ p ∷ []) ≡ s' =
    λ ps same. state_after-push def.step o ps p
    ∙ (ap (λ (x : State). after def.step x (Raw p)) (ap (state_after def.step o) same ∙ sym is.stands) ∙ sym next) in
    let before : s ≡ state_after def.step o (cell_walked (cell_start o) tape).points =
    is.stands ∙ ap (state_after def.step o) (sym (points-end o tape)) in
    let here : state_after def.step o ((cell_walked (cell_start o) tape).points ++ p ∷ []) ≡ s' = goes _ (points-end o tape) in
    subst (λ t. IsTapeReplayed def o t s' acked) (sym longer) (record {
      tuning = is.tuning;
      entries = fit-push (replayed def.step o) def.step o (cell_start o) tape e is.entries (record {
        room = subst (λ (x : State). length x.records + 2 ≤ most_records) before room;
        same_held = ap (λ (x : State). x.summary.held) here ∙ held;
        counted = count ∙ ap (λ (x : State). length x.records) (sym here);
      });
      stands = sym (ap (state_after def.step o) (taken-append tape (e ∷ [])) ∙ goes (taken tape) refl);
      acked_are = is.acked_are ∙ ap (λ (w : CellWalk). w.acked) (sym (walked-push (cell_start o) tape e));
    })

-- after an answer to a question on the closed content
pub ask_replayed : (def : TagDef) (o : TagOpening) (tape tape' : List Entry) (s : State) (acked reader row : ℕ) (q : TagQuery) (a : Reply)
    → IsTapeReplayed def o tape s acked → IsAnswer def.step (shown_of s) q a
    → tape' ≡ tape ++ Ask reader row q a ∷ [] → IsTapeReplayed def o tape' s acked
ask_replayed def o tape tape' s acked reader row q a is answer longer =
    let e : Entry = Ask reader row q a in
    subst (λ t. IsTapeReplayed def o t s acked) (sym longer) (record {
      tuning = is.tuning;
      entries = fit-push (replayed def.step o) def.step o (cell_start o) tape e is.entries
          (subst (λ (x : State). IsAnswer def.step (shown_of x) q a)
          (is.stands ∙ ap (state_after def.step o) (sym (points-end o tape))) answer);
      stands = is.stands ∙ ap (state_after def.step o) (sym (taken-append tape (e ∷ []) ∙ append-nil (taken tape)));
      acked_are = is.acked_are ∙ ap (λ (w : CellWalk). w.acked) (sym (walked-push (cell_start o) tape e));
    })

-- after a pull of the records of the acknowledged takes
pub pull_replayed : (def : TagDef) (o : TagOpening) (tape tape' : List Entry) (s : State) (acked group first upto : ℕ)
    → IsTapeReplayed def o tape s acked → IsPull (replayed def.step o (done o (cell_walked (cell_start o) tape))) first upto
    → tape' ≡ tape ++ Pull group first upto ∷ [] → IsTapeReplayed def o tape' s acked
pull_replayed def o tape tape' s acked group first upto is pull longer =
    let e : Entry = Pull group first upto in
    subst (λ t. IsTapeReplayed def o t s acked) (sym longer) (record {
      tuning = is.tuning;
      entries = fit-push (replayed def.step o) def.step o (cell_start o) tape e is.entries pull;
      stands = is.stands ∙ ap (state_after def.step o) (sym (taken-append tape (e ∷ []) ∙ append-nil (taken tape)));
      acked_are = is.acked_are ∙ ap (λ (w : CellWalk). w.acked) (sym (walked-push (cell_start o) tape e));
    })

-- ---- what waits, what the device keeps

-- what was acknowledged stays so
pub waits_entry : (o : TagOpening) (tape tape' more : List Entry) (next durable acked : ℕ) → Waits o tape next durable acked
    → tape' ≡ tape ++ more → Waits o tape' next durable acked
waits_entry o tape tape' more next durable acked is longer =
    let within : next ≤ length tape = is.within in
    let same : take next tape ≡ take next tape' = sym (ap (take next) longer ∙ take-append-le next tape more within) in
    record {
      within = omega (arith, ap length longer, length-append tape more);
      acked_are = is.acked_are ∙ ap (λ l. o.summary.taken + length (taken l)) same;
      durable_are = is.durable_are ∙ ap (last_records (length o.recs.items)) same;
    }

-- a longer tape counts no fewer events
pub countable_before : (o : TagOpening) (tape tape' more : List Entry) → tape' ≡ tape ++ more → IsCountable o tape' → IsCountable o tape
countable_before o tape tape' more longer few = omega (arith, few, ap (λ l. length (taken l)) longer, ap length (taken-append tape more), length-append (taken tape) (taken more))

-- the device keeps what it kept
pub kept_entry : (def : TagDef) (o : TagOpening) (tape tape' : List Entry) (e : Entry) (next : ℕ) (failed : Bool) (d : Device)
    → IsCall e → next ≤ length tape → IsKept def o tape next failed d → tape' ≡ tape ++ e ∷ [] → IsKept def o tape' next failed d
kept_entry def o tape tape' e next failed d call within is longer = record {
  recovers = λ fine few. subst (λ l. AllRecover def d.trace (state_after def.step o (taken l)))
      (sym (ap (take next) longer ∙ take-append-le next tape (e ∷ []) within))
      (is.recovers fine (countable_before o tape tape' (e ∷ []) longer few));
  past = omega (arith, is.past, ap (λ l. (cell_walked (cell_start o) l).moment) longer, ap (λ (w : CellWalk). w.moment) (walked-push (cell_start o) tape e), moment-call (cell_walked (cell_start o) tape) e call);
  opened_before = is.opened_before;
  faultless = is.faultless;
  cause = is.cause;
}

-- an image that recovers some of these values recovers some of more
pub part_more : (def : TagDef) (s : State) (points more : List Point) (least : ℕ) (c : List ℕ) → RecoversPart def s points least c
    → RecoversPart def s (points ++ more) least c
part_more def s points more least c is =
    let within : is.count ≤ length points = is.within in
    record {
      count = is.count;
      enough = is.enough;
      within = omega (arith, length-append points more);
      recovered = subst (λ ps. Recovers def c (replay def.step s (map Raw ps)))
          (sym (take-append-le is.count points more within)) is.recovered;
    }

-- what a crash leaves is as safe as before
pub safe_entry : (def : TagDef) (o : TagOpening) (tape tape' : List Entry) (e : Entry) (left : ℕ → List ℕ → Type 0) → IsCall e
    → IsSafe def o tape left → tape' ≡ tape ++ e ∷ [] → IsSafe def o tape' left
safe_entry def o tape tape' e left call is longer = record {
  images = λ few t c since was.
      let before = is.images (countable_before o tape tape' (e ∷ []) longer few) t c since was in
      let at : acked_at t o.summary.taken tape' ≡ acked_at t o.summary.taken tape =
      ap (acked_at t o.summary.taken) longer ∙ acked_at-call t o.summary.taken tape e call in
      let all : taken tape' ≡ taken tape ++ taken (e ∷ []) = ap taken longer ∙ taken-append tape (e ∷ []) in
      subst (λ (n : ℕ). RecoversPart def (opened o) (taken tape') (n - o.summary.taken) c) (sym at)
      (subst (λ (ps : List Point). RecoversPart def (opened o) ps (acked_at t o.summary.taken tape - o.summary.taken) c) (sym all)
      (part_more def (opened o) (taken tape) (taken (e ∷ [])) (acked_at t o.summary.taken tape - o.summary.taken) c before));
}
