-- What a cell's type keeps as the cell is opened.
use Rattle.std.proofs.Common.{◌≡◌, ℕ, ◌*◌, ◌<◌, ◌≤◌, ◌^◌, Bool, false, List, [], length, Some, sym, arith}
use Rattle.atomic_table.specs.Seated.{TableId}
use Rattle.trend_num.specs.{Rec, Summary, TagDef}
use Rattle.trend_model.specs.{listed}
use Rattle.trend_model.specs.State.{State}
use Rattle.disk_model.specs.{Trace, Device, moment, LeftSince}
use Rattle.disk_model.proofs.Moments.{only_since}
use Rattle.crash_recovery.specs.{AllRecover}
use Rattle.snapshot_table.specs.{Posting, PostsTo}
use Rattle.tag_core.specs.Core.{Core}
use Rattle.tag_cell.specs.{Entry, TagOpening, opened, IsTapeReplayed, IsSafe, HasRoomForTakes, IsInStep, IsKept, IsPosted, Waits}

-- the state of these records and this summary
pub same_state : (s : State) (o : TagOpening) → o.recs.items ≡ s.records → o.summary ≡ s.summary → s ≡ opened o
same_state s o records summary = λ i. record { records = sym records i; summary = sym summary i }

pub open_replayed : (def : TagDef) (o : TagOpening) (tape : List Entry) (s : State) (acked : ℕ) → tape ≡ []
    → o.summary.tuning ≡ Some def.tuning → s ≡ opened o → acked ≡ o.summary.taken → IsTapeReplayed def o tape s acked
open_replayed def o tape s acked none tuning is acks = grind arith

pub open_in_step : (def : TagDef) (o : TagOpening) (tape : List Entry) (core : Core) (content : List Rec) → tape ≡ []
    → core.step ≡ def.step → core.state ≡ opened o → content ≡ listed core.state.records → IsInStep def o tape core content
open_in_step def o tape core content none step is same = grind arith

pub open_has_room : (o : TagOpening) (tape : List Entry) (places room core content : ℕ) → tape ≡ [] → room ≤ places
    → 2 * room ≤ core → 2 * room ≤ content → o.summary.taken < 2 ^ 63 → HasRoomForTakes o tape places 0 room core content
open_has_room o tape places room core content none enough core_room content_room small = grind arith

pub open_waits : (o : TagOpening) (tape : List Entry) (durable acked : ℕ) → tape ≡ [] → durable ≡ length o.recs.items
    → acked ≡ o.summary.taken → Waits o tape 0 durable acked
open_waits o tape durable acked none records acks = grind arith

pub open_kept : (def : TagDef) (o : TagOpening) (tape : List Entry) (failed : Bool) (d : Device)
    → tape ≡ [] → failed ≡ false → (o.summary.taken < 10 ^ 18 → AllRecover def d.trace (opened o)) → o.moment ≡ moment d.trace
    → o.faults ≡ d.faults → IsKept def o tape 0 failed d
open_kept def o tape failed d none fine recovers at same = grind arith

pub open_safe : (def : TagDef) (o : TagOpening) (tape : List Entry) (trace : Trace) → tape ≡ [] → o.moment ≡ moment trace
    → (o.summary.taken < 10 ^ 18 → AllRecover def trace (opened o)) → IsSafe def o tape (LeftSince trace)
open_safe def o tape trace none at recovers = grind (arith, only_since)

pub open_posted : (board : List TableId) (p p' : Posting) (summary : Summary) (s : State) → PostsTo board p
    → p' ≡ record p { last = record { taken = summary.taken; held = summary.held } } → summary ≡ s.summary → IsPosted board p' s
open_posted board p p' summary s here posted is = grind arith
