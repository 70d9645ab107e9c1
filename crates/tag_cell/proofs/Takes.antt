-- What a cell's type keeps, after a take.
use Rattle.std.proofs.Common.{◌≡◌, ℕ, ◌+◌, ◌<◌, ◌≤◌, cond, suc, nat_lt, fold, List, [], ◌∷◌, ◌++◌, All, length, Some, sym, ◌∙◌, ap, subst, arith, length-append}
use Rattle.std.proofs.lemmas.List.{map_push}
use Rattle.std.proofs.lemmas.List.Elements.{All-push}
use Rattle.atomic_table.specs.Seated.{TableId}
use Rattle.trend_num.specs.{Rec, Point, TagDef, most_records, InRange}
use Rattle.trend_model.specs.{listed, over, placed}
use Rattle.trend_model.proofs.Following.{cond_by}
use Rattle.trend_model.specs.State.{State}
use Rattle.crash_recovery.proofs.Replays.{fit_append}
use Rattle.snapshot_table.specs.{Posting}
use Rattle.tag_core.specs.Core.{Core}
use Rattle.tag_cell.specs.{Entry, TagOpening, taken, IsTapeReplayed, HasRoomForTakes, IsInStep, IsPosted}
use Rattle.tag_cell.specs.declared.entry.Entry.TheVariants.{Take}
use Rattle.tag_cell.proofs.Tapes.{taken-append}

-- the values of a tape with one take more
pub taken-take : (tape tape' : List Entry) (collector row : ℕ) (p h : Point) (n : ℕ) → tape' ≡ tape ++ Take collector row p h n ∷ []
    → taken tape' ≡ taken tape ++ p ∷ []
taken-take tape tape' collector row p h n longer = ap taken longer ∙ taken-append tape (Take collector row p h n ∷ [])

-- the core and the content are in step
pub take_in_step : (def : TagDef) (o : TagOpening) (tape tape' : List Entry) (core core' : Core) (content content' : List Rec)
    (acked : ℕ) (p : Point) → IsInStep def o tape core content → IsTapeReplayed def o tape core.state acked
    → core'.step ≡ core.step → core'.state.summary.taken ≡ core.state.summary.taken + 1
    → content' ≡ listed core'.state.records → InRange p → length core.state.records + 2 ≤ most_records
    → taken tape' ≡ taken tape ++ p ∷ [] → IsInStep def o tape' core' content'
take_in_step def o tape tape' core core' content content' acked p is replays step count same range room longer = record {
  same_step = step ∙ is.same_step;
  counted = omega (arith, count, is.counted, ap length longer, length-append (taken tape) (p ∷ []));
  content_is = same;
  in_range = subst (All InRange) (sym longer) (All-push InRange (taken tape) p is.in_range range);
  fits = grind (arith, map_push, fit_append);
}

-- there is room for those to come
pub take_has_room : (o : TagOpening) (tape tape' : List Entry) (places takes takes' room core core' content content' : ℕ) (e : Entry)
    (p : Point) → HasRoomForTakes o tape places takes room core content → takes < room → takes' ≡ takes + 1
    → core ≤ core' + 2 → content ≤ content' + 2 → tape' ≡ tape ++ e ∷ [] → taken tape' ≡ taken tape ++ p ∷ []
    → HasRoomForTakes o tape' places takes' room core' content'
take_has_room o tape tape' places takes takes' room core core' content content' e p is some one core_room content_room longer taken_longer =
    grind (arith, length-append)

-- another entry takes a place of its own
pub entry_has_room : (o : TagOpening) (tape tape' : List Entry) (places places' takes room core content : ℕ) (e : Entry)
    → HasRoomForTakes o tape places takes room core content → taken tape' ≡ taken tape → room + length tape + 1 ≤ places' + takes
    → tape' ≡ tape ++ e ∷ [] → HasRoomForTakes o tape' places' takes room core content
entry_has_room o tape tape' places places' takes room core content e is same place longer =
    grind (arith, length-append)

-- the core and the content stay in step
pub entry_in_step : (def : TagDef) (o : TagOpening) (tape tape' : List Entry) (core : Core) (content : List Rec)
    → IsInStep def o tape core content → taken tape' ≡ taken tape → IsInStep def o tape' core content
entry_in_step def o tape tape' core content is same = grind arith

-- the poster has posted what the tag shows now
pub take_posted : (board : List TableId) (p p' : Posting) (n : ℕ) (h : Point) (s s' : State) → IsPosted board p s
    → p' ≡ record p { last = record { taken = n; held = Some h } } → n ≡ s'.summary.taken → s'.summary.held ≡ Some h
    → IsPosted board p' s'
take_posted board p p' n h s s' is posted count held = grind arith

-- ---- a content has no more points than there are records

length-placed : (r : Rec) (l : List Rec) → length (placed r l) ≤ length l + 1
length-placed r [] = omega arith
length-placed r (x ∷ xs) = cond_by (λ (l : List Rec). length l ≤ suc (length xs) + 1) (nat_lt r.point.t x.point.t) (r ∷ x ∷ xs)
    (cond (nat_lt x.point.t r.point.t) (x ∷ placed r xs) (over r x ∷ xs)) (λ _. omega arith)
    (λ _. cond_by (λ (l : List Rec). length l ≤ suc (length xs) + 1) (nat_lt x.point.t r.point.t) (x ∷ placed r xs) (over r x ∷ xs)
    (λ _. omega (arith, length-placed r xs)) (λ _. omega arith))

length-folded : (l rs : List Rec) → length (fold (λ m r. placed r m) l rs) ≤ length l + length rs
length-folded l [] = omega arith
length-folded l (r ∷ rs) = omega (arith, length-folded (placed r l) rs, length-placed r l)

pub length-listed : (rs : List Rec) → length (listed rs) ≤ length rs
length-listed rs = omega (arith, let e : length (fold (λ m r. placed r m) [] rs) ≤ 0 + length rs = length-folded [] rs in e)
