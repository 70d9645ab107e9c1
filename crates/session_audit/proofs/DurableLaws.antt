-- What groups pull of a tag, it has for good.
use Rattle.std.proofs.Common.{◌≡◌, ℕ, zero, suc, ◌+◌, ◌-◌, ◌≤◌, Bool, List, [], ◌∷◌, length, map, take, Some, sym, ap, subst, ◌∙◌, arith}
use Rattle.std.specs.Prelude.{slice_get}
use Rattle.std.proofs.lemmas.List.{take_all}
use Rattle.trend_num.specs.{Point, TagDef, Tuning}
use Rattle.trend_model.specs.{Raw}
use Rattle.trend_model.specs.State.{State, after, after_under, replay}
use Rattle.tag_cell.specs.{Entry, TagOpening, FitAll, Fits, IsTapeReplayed, replayed, CellWalk, after_entry, done, opened, cell_start, state_after, taken, cell_walked}
use Rattle.tag_cell.specs.declared.entry.Entry.TheVariants.{Pull}
use Rattle.tag_cell.proofs.Entries.{points-end}
use Rattle.session_audit.specs.{ArePullsDurable, durable_in}

-- ---- all is acknowledged

-- each value counts
pub counted : (step : Bool) (s : State) (u : Tuning) (ps : List Point) → s.summary.tuning ≡ Some u
    → (replay step s (map Raw ps)).summary.taken ≡ s.summary.taken + length ps
counted step s u [] tuned = omega arith
counted step s u (p ∷ ps) tuned =
    let now : after step s (Raw p) ≡ after_under step s (Raw p) (Some u) = ap (after_under step s (Raw p)) tuned in
    let more : (after step s (Raw p)).summary.taken ≡ s.summary.taken + 1 = ap (λ (x : State). x.summary.taken) now in
    let rest = counted step (after step s (Raw p)) _ ps (ap (λ (x : State). x.summary.tuning) now) in
    omega (arith, more, rest)

pub all_durable : (def : TagDef) (o : TagOpening) (tape : List Entry) (s : State) (acked : ℕ) → IsTapeReplayed def o tape s acked
    → s.summary.taken ≤ acked → durable_in def o tape ≡ s.records
all_durable def o tape s acked is full =
    let w = cell_walked (cell_start o) tape in
    let points : w.points ≡ taken tape = points-end o tape in
    let count : s.summary.taken ≡ o.summary.taken + length (taken tape) =
    ap (λ (x : State). x.summary.taken) is.stands ∙ counted def.step (opened o) def.tuning (taken tape) is.tuning in
    let all : done o w ≡ taken tape = take_all (w.acked - o.summary.taken) w.points
    (omega (arith, is.acked_are, full, count, ap length points)) ∙ points in
    ap (λ ps. (state_after def.step o ps).records) all ∙ ap (λ (x : State). x.records) (sym is.stands)

-- ---- what was pulled

-- from a place of a tape on, each pull ended where the acknowledged values left off
ends_durable : (def : TagDef) (o : TagOpening) (w : CellWalk) (rest : List Entry) (place group from upto : ℕ)
    → FitAll (replayed def.step o) def.step o w rest → slice_get rest place ≡ Some (Pull group from upto)
    → upto ≡ length (state_after def.step o (done o (cell_walked w (take place rest)))).records
ends_durable def o w [] place group from upto fits there = absurd (cc)
ends_durable def o w (e ∷ rest) zero group from upto fits there =
    let here : e ≡ Pull group from upto = cc in
    let fit : Fits (replayed def.step o) def.step o w (Pull group from upto) =
    subst (Fits (replayed def.step o) def.step o w) here fits.0 in
    fit.counted
ends_durable def o w (e ∷ rest) (suc place) group from upto fits there =
    ends_durable def o (after_entry w e) rest place group from upto fits.1 there

pub pulls_durable : (def : TagDef) (o : TagOpening) (tape : List Entry) (s : State) (acked : ℕ)
    → IsTapeReplayed def o tape s acked → ArePullsDurable def o tape
pulls_durable def o tape s acked is = λ place group from upto.
    ends_durable def o (cell_start o) tape place group from upto is.entries
