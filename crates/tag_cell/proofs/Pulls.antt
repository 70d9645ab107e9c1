-- Which records are durable, and what a take leaves.
use Rattle.std.proofs.Common.{◌≡◌, ◌≢◌, ℕ, ◌-◌, ◌≤◌, Bool, List, [], ◌∷◌, ◌++◌, length, map, take, drop, Option, Some, None, refl, sym, ◌∙◌, ap, subst, arith, length-drop, nat_le}
use Rattle.std.proofs.lemmas.List.{map-append, take-append-drop, drop-append-le}
use Rattle.std.proofs.Math.Seq.{take-append_seam}
use Rattle.trend_num.specs.{Rec, Point, TagDef, Tuning}
use Rattle.trend_num.specs.declared.sending.Sending.TheVariants as sending
use Rattle.trend_model.specs.{Raw, is_far}
use Rattle.trend_model.specs.State.{State, Offer, offered, offered_in_order, after, after_under, replay}
use Rattle.trend_model.proofs.Following.{cond_by}
use Rattle.crash_recovery.proofs.Replays.{replay_more, replay_append}
use Rattle.tag_cell.specs.{Entry, TagOpening, CellWalk, cell_start, after_entry, cell_walked, taken, done, last_records, opened, state_after, Shown, FitAll, IsPull, replayed, IsTapeReplayed, Waits}
use Rattle.tag_cell.specs.declared.entry.Entry.TheVariants.{Take, Ask, Pull, Commit}
use Rattle.tag_cell.proofs.Tapes.{points-walked}
use Rattle.tag_cell.proofs.Entries.{points-end}
use Rattle.tag_cell.proofs.Commits.{taken-parts}

-- ---- after a take there is a held point

some_there : (x : Point) → Some x ≢ None
some_there x e = cc

-- an exception test after a value in order
in_order_there : (u : Tuning) (s : Point) (waiting : Option Point) (p : Point) → (offered_in_order u s waiting p).last ≢ None
in_order_there u s waiting p = cond_by (λ (x : Offer). x.last ≢ None) (is_far u s p)
    (record { last = Some p; pending = None; first = waiting; second = Some (sending.InOrder p) })
    (record { last = Some s; pending = Some p; first = None; second = None }) (λ _. some_there p) (λ _. some_there s)

-- and after any value
offered_there : (u : Tuning) (last waiting : Option Point) (p : Point) → (offered u last waiting p).last ≢ None
offered_there u None waiting p = some_there p
offered_there u (Some s) None p = cond_by (λ (x : Offer). x.last ≢ None) (nat_le p.t s.t)
    (record { last = Some s; pending = None; first = None; second = Some (sending.Late p) })
    (offered_in_order u s None p) (λ _. some_there s) (λ _. in_order_there u s None p)
offered_there u (Some s) (Some q) p = cond_by (λ (x : Offer). x.last ≢ None) (nat_le p.t q.t)
    (record { last = Some q; pending = None; first = Some q; second = Some (sending.Late p) })
    (offered_in_order u s (Some q) p) (λ _. some_there q) (λ _. in_order_there u s (Some q) p)

-- a state that has taken a value holds a point
pub held_there : (step : Bool) (s : State) (u : Tuning) (p : Point) → s.summary.tuning ≡ Some u
    → (after step s (Raw p)).summary.held ≢ None
held_there step s u p tuned none =
    offered_there u s.summary.held s.summary.pending p (sym (ap (λ (t : Option Tuning). (after_under step s (Raw p) t).summary.held) tuned) ∙ none)

-- ---- the records of the acknowledged takes

-- a tape that fits begins with a tape that fits
fit_front : (show : List Point → Shown) (step : Bool) (o : TagOpening) (w : CellWalk) (xs ys : List Entry) → FitAll show step o w (xs ++ ys)
    → FitAll show step o w xs
fit_front show step o w [] ys all = tt
fit_front show step o w (e ∷ xs) ys all = (all.0, fit_front show step o (after_entry w e) xs ys all.1)

-- the last take states how many records there are
last_records-are : (step : Bool) (o : TagOpening) (w : CellWalk) (es : List Entry) (n : ℕ) → FitAll (replayed step o) step o w es
    → n ≡ length (state_after step o w.points).records → last_records n es ≡ length (state_after step o (cell_walked w es).points).records
last_records-are step o w [] n all is = is
last_records-are step o w (Take collector row p h k ∷ es) n all is =
    last_records-are step o (after_entry w (Take collector row p h k)) es k all.1 all.0.counted
last_records-are step o w (Ask reader row q a ∷ es) n all is = last_records-are step o w es n all.1 is
last_records-are step o w (Pull group first upto ∷ es) n all is = last_records-are step o w es n all.1 is
last_records-are step o w (Commit m a ∷ es) n all is = last_records-are step o (after_entry w (Commit m a)) es n all.1 is

-- the values that are done are those before the place from which values wait
pub done_are : (def : TagDef) (o : TagOpening) (tape : List Entry) (s : State) (next durable acked : ℕ)
    → IsTapeReplayed def o tape s acked → Waits o tape next durable acked
    → done o (cell_walked (cell_start o) tape) ≡ taken (take next tape)
done_are def o tape s next durable acked is waits =
    let count : (cell_walked (cell_start o) tape).acked - o.summary.taken ≡ length (taken (take next tape)) =
    omega (arith, is.acked_are, waits.acked_are) in
    ap (λ (n : ℕ). take n (cell_walked (cell_start o) tape).points) count
    ∙ (ap (take (length (taken (take next tape)))) (points-end o tape ∙ taken-parts tape (drop next tape) next refl)
    ∙ take-append_seam (taken (take next tape)) (taken (drop next tape)))

-- so many records are durable
pub durable_are : (def : TagDef) (o : TagOpening) (tape : List Entry) (s : State) (next durable acked : ℕ)
    → IsTapeReplayed def o tape s acked → Waits o tape next durable acked
    → durable ≡ length (state_after def.step o (done o (cell_walked (cell_start o) tape))).records
durable_are def o tape s next durable acked is waits =
    let front : FitAll (replayed def.step o) def.step o (cell_start o) (take next tape) =
    fit_front (replayed def.step o) def.step o (cell_start o) (take next tape) (drop next tape)
    (subst (FitAll (replayed def.step o) def.step o (cell_start o)) (sym (take-append-drop next tape)) is.entries) in
    waits.durable_are ∙ (last_records-are def.step o (cell_start o) (take next tape) (length o.recs.items) front refl
    ∙ ap (λ ps. length (state_after def.step o ps).records)
    (points-walked (cell_start o) (take next tape) ∙ sym (done_are def o tape s next durable acked is waits)))

-- a pull hands them out
pub is_pull : (def : TagDef) (o : TagOpening) (tape : List Entry) (s : State) (next durable acked first : ℕ)
    → IsTapeReplayed def o tape s acked → Waits o tape next durable acked → first ≤ durable
    → IsPull (replayed def.step o (done o (cell_walked (cell_start o) tape))) first durable
is_pull def o tape s next durable acked first is waits le =
    record { counted = durable_are def o tape s next durable acked is waits; within = le }

-- all records begin with them
pub durable_front : (def : TagDef) (o : TagOpening) (tape : List Entry) (s : State) (next durable acked : ℕ)
    → IsTapeReplayed def o tape s acked → Waits o tape next durable acked
    → (more : List Rec) × (s.records ≡ (state_after def.step o (done o (cell_walked (cell_start o) tape))).records ++ more)
durable_front def o tape s next durable acked is waits =
    let front : State = state_after def.step o (taken (take next tape)) in
    let goes : s ≡ replay def.step front (map Raw (taken (drop next tape))) =
    is.stands ∙ (ap (λ ps. replay def.step (opened o) (map Raw ps)) (taken-parts tape (drop next tape) next refl)
    ∙ (ap (replay def.step (opened o)) (map-append Raw (taken (take next tape)) (taken (drop next tape)))
    ∙ replay_append def.step (opened o) (map Raw (taken (take next tape))) (map Raw (taken (drop next tape))))) in
    let more = replay_more def.step front (map Raw (taken (drop next tape))) in (
      more.0,
      ap (λ (x : State). x.records) goes ∙ (more.1
          ∙ ap (λ ps. (state_after def.step o ps).records ++ more.0) (sym (done_are def o tape s next durable acked is waits))),
    )

-- the elements from one place up to where a first list ends
pub handed : {A : Type 0} (xs ys : List A) (first upto : ℕ) → upto ≡ length xs → first ≤ upto
    → take (upto - first) (drop first (xs ++ ys)) ≡ drop first xs
handed xs ys first upto is le =
    let within : first ≤ length xs = omega (arith, is, le) in
    ap (take (upto - first)) (drop-append-le first xs ys within)
    ∙ (ap (λ (n : ℕ). take n (drop first xs ++ ys)) (omega (arith, is, length-drop first xs)) ∙ take-append_seam (drop first xs) ys)
