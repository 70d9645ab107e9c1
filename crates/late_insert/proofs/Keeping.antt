-- What holds of the pages of every content.
use Rattle.std.proofs.Common.{ℕ, ◌+◌, ◌*◌, ◌<◌, ◌≤◌, List, [], ◌∷◌, length, Option, All, ap, sym, subst, arith, length-append}
use Rattle.std.proofs.lemmas.List.Elements.{All-nil, All-append, All-map}
use Rattle.trend_num.specs.{Rec, InRange}
use Rattle.page_pool.specs.{Frame, spare_of}
use Rattle.late_insert.specs.{Page, records_at, page_in, page_records_of, AreHalves, ArePagesFrom, IsKept}
use Rattle.trend_model.specs.{points_of}

-- pages of which all but the last are half full hold many records
many_records : (pool : List (Option Frame)) (pages : List Page) → AreHalves pool pages
    → 64 * length pages ≤ length (page_records_of pool pages) + 64
many_records pool [] halves = omega arith
many_records pool (p ∷ []) halves = omega arith
many_records pool (p ∷ q ∷ ps) halves =
    let here : 64 ≤ length (page_in pool p) = halves.0 (omega arith) in
    let rest = many_records pool (q ∷ ps) halves.1 in
    omega (arith, length-append (page_in pool p) (page_records_of pool (q ∷ ps)))

-- while there is room, a frame is spare
pub frame_spare : (pool : List (Option Frame)) (pages : List Page) (places len room : ℕ)
    → IsKept pool pages places len room → 0 < spare_of pool
frame_spare pool pages places len room kept =
    omega (arith, many_records pool pages kept.paged.halves, kept.counted, kept.within, kept.frames)

-- each record of the pages is in range
pub all_in_range : (pool : List (Option Frame)) (place : ℕ) (pages : List Page)
    → ArePagesFrom pool place pages
    → All (λ r. InRange r.point) (page_records_of pool pages)
all_in_range pool place [] each = All-nil (λ r. InRange r.point)
all_in_range pool place (p ∷ ps) each =
    let In : Rec → Type 0 = λ r. InRange r.point in
    All-append In (page_in pool p) (page_records_of pool ps)
    (subst (All In) (sym (ap records_at each.0.there)) each.0.page.recorded.range)
    (all_in_range pool (place + length (page_in pool p)) ps each.1)

-- and so is each point
pub points_in_range : (pool : List (Option Frame)) (place : ℕ) (pages : List Page)
    → ArePagesFrom pool place pages
    → All InRange (points_of (page_records_of pool pages))
points_in_range pool place pages each =
    All-map InRange (λ (r : Rec). r.point) (page_records_of pool pages) (all_in_range pool place pages each)
