-- How a content is kept in pages, each in a frame.
use Rattle.std.specs.Prelude.{◌≡◌, ◌≢◌, false, ℕ, zero, suc, pos, ◌+◌, ◌*◌, ◌/◌, ◌^◌, ◌<◌, ◌≤◌, ◌⊎◌, List, [], ◌∷◌, Option, None, Some, length, map, slice_index, slice_index_or, take, drop, insert, slice_set, slice_range, All}
use Rattle.std.specs.Int.{bit_at}
use Rattle.std.specs.List.{flat_map, range_with_len}
use Rattle.trend_num.specs.{Rec, Kind, InRange}
use Rattle.trend_num.specs.declared.archive.Kind.TheVariants.{Kept, Late}
use Rattle.page_pool.specs.{Frame, frame_at, full_page, spare_of}
use Rattle.late_insert.specs.declared.directory.Page.{Page}
use Rattle.trend_model.specs.{IsRising, points_of, area}
use Rattle.late_insert.specs.declared.total.Summary.{Summary}
use Rattle.late_insert.specs.Totals.{least_of, greatest_of, joined_of, summary_of}

-- ---- a page in a frame

-- half of a page; a page has room for as many records as its frame has for points
abbrev pub half_page : ℕ
half_page = 64

-- the kind that a mark means
abbrev pub kind_of : ℕ → Kind
kind_of zero = Kept
kind_of (suc n) = Late

-- the record at a place of a frame
abbrev pub rec_in : Frame → ℕ → Rec
rec_in f i = record {
  kind = kind_of (bit_at f.late i);
  point = record { t = slice_index f.times i; v = slice_index_or f.values i (pos 0) };
}

-- the records of a frame
abbrev pub frame_records_in : Frame → List Rec
frame_records_in f = map (rec_in f) (range_with_len 0 f.len)

-- a frame that holds records
pub record IsRecorded (f : Frame) : Type 0 where
  pub few : f.len ≤ full_page
  pub times : length f.times ≡ full_page
  pub values : length f.values ≡ full_page
  pub marks : f.late < 2 ^ f.len
  pub range : All (λ r. InRange r.point) (frame_records_in f)

-- a frame that holds records and their totals
pub record IsPage (f : Frame) : Type 0 where
  pub recorded : IsRecorded f
  pub area : f.area ≡ area false (points_of (frame_records_in f))
  pub low : f.low ≡ least_of (points_of (frame_records_in f))
  pub high : f.high ≡ greatest_of (points_of (frame_records_in f))

-- ---- pages of a pool

-- the records of a frame, if there is one
abbrev pub records_at : Option Frame → List Rec
records_at None = []
records_at (Some f) = frame_records_in f

-- the records of a page
abbrev pub page_in : List (Option Frame) → Page → List Rec
page_in pool p = records_at (frame_at pool p.id)

-- the records of pages, one page after another
abbrev pub page_records_of : List (Option Frame) → List Page → List Rec
page_records_of pool pages = flat_map (page_in pool) pages

-- how many records each page has
abbrev pub lengths_of : List (Option Frame) → List Page → List ℕ
lengths_of pool pages = map (λ p. length (page_in pool p)) pages

-- a page in its frame, whose first record is at this place
pub record IsPageAt (pool : List (Option Frame)) (place : ℕ) (p : Page) : Type 0 where
  pub frame : Frame
  pub there : frame_at pool p.id ≡ Some frame
  pub page : IsPage frame
  pub first : p.first ≡ place
  pub start : p.start ≡ slice_index frame.times 0
  pub summary : p.summary ≡ summary_of (points_of (frame_records_in frame))

-- pages that follow one another from this place on
abbrev pub ArePagesFrom : List (Option Frame) → ℕ → List Page → Type 0
ArePagesFrom pool place [] = Unit {0}
ArePagesFrom pool place (p ∷ ps) = IsPageAt pool place p × ArePagesFrom pool (place + length (page_in pool p))
    ps

-- no two of these ids are equal
abbrev pub AreApart : List ℕ → Type 0
AreApart [] = Unit {0}
AreApart (x ∷ xs) = All (λ y. y ≢ x) xs × AreApart xs

-- the ids of the pages' frames
abbrev pub ids_of : List Page → List ℕ
ids_of pages = map (λ p. p.id) pages

-- each page but the last is at least half full
abbrev pub AreHalves : List (Option Frame) → List Page → Type 0
AreHalves pool [] = Unit {0}
AreHalves pool (p ∷ ps) = (0 < length ps → half_page ≤ length (page_in pool p)) × AreHalves pool ps

-- pages that hold a rising list
pub record ArePages (pool : List (Option Frame)) (pages : List Page) : Type 0 where
  pub each : ArePagesFrom pool 0 pages
  pub apart : AreApart (ids_of pages)
  pub rising : IsRising (page_records_of pool pages)
  pub some : 0 < length pages
  pub halves : AreHalves pool pages
  -- and if there are several, none is empty
  pub filled : 1 < length pages → All (λ p. 0 < length (page_in pool p)) pages

-- p is the page at k, and f its frame
pub record IsPageRead (pool : List (Option Frame)) (pages : List Page) (k : ℕ) (p : Page) (f : Frame) : Type 0
  where
    pub paged : ArePages pool pages
    pub within : k < length pages
    pub read : p ≡ slice_index_or pages k p
    pub there : frame_at pool p.id ≡ Some f

-- the page k is the one for the time t: no page before it has a record at t or later, and none after it has one at t or
-- earlier
pub record IsFor (pool : List (Option Frame)) (pages : List Page) (k t : ℕ) : Type 0 where
  pub within : k < length pages
  pub before : All (λ r. r.point.t < t) (page_records_of pool (take k pages))
  pub after : All (λ r. t < r.point.t) (page_records_of pool (drop (k + 1) pages))

-- the page k was split: the lower half starts where the page did, and the upper half comes after it
pub record IsSplit (old new : List Page) (k : ℕ) : Type 0 where
  pub lower : Page
  pub upper : Page
  pub list : new ≡ insert (slice_set old k lower) (k + 1) upper
  pub start : lower.start ≡ (slice_index_or old k lower).start

-- j is that one of the page k and the next which is the page for the time t
abbrev pub IsHalfFor : List Page → ℕ → ℕ → ℕ → Type 0
IsHalfFor pages k t j = (d : Page) → ((j ≡ k + 1) × ((slice_index_or pages (k + 1) d).start ≤ t))
    ⊎ ((j ≡ k) × (t < (slice_index_or pages (k + 1) d).start))

-- the place is on the page k
pub record IsOn (pool : List (Option Frame)) (pages : List Page) (k place : ℕ) : Type 0 where
  pub within : k < length pages
  pub from : length (page_records_of pool (take k pages)) ≤ place
  pub upto : place < length (page_records_of pool (take (k + 1) pages))

-- runs over the records of pages that have come to the place, and stop before the end
pub record IsWalk (pool : List (Option Frame)) (pages : List Page) (k place end : ℕ) : Type 0 where
  pub paged : ArePages pool pages
  pub ordered : place ≤ end
  pub within : end ≤ length (page_records_of pool pages)
  pub few : end < 2 ^ 32
  pub at : place < end → IsOn pool pages k place

-- the points of pages from one place to another, and their summary
pub record IsRun (pool : List (Option Frame)) (pages : List Page) (place end : ℕ) (summary : Summary) : Type 0 where
  pub paged : ArePages pool pages
  pub some : place < end
  pub within : end ≤ length (page_records_of pool pages)
  pub is : summary ≡ summary_of (slice_range (points_of (page_records_of pool pages)) place end)

-- a content of `len` records in pages, with room for `room` in all
pub record IsKept (pool : List (Option Frame)) (pages : List Page) (places len room : ℕ) : Type 0 where
  pub paged : ArePages pool pages
  pub counted : len ≡ length (page_records_of pool pages)
  pub within : len ≤ room
  pub few : room < 2 ^ 32
  -- there is a spare frame for each page that may be split
  pub frames : room + half_page + 1 ≤ half_page * (length pages + spare_of pool)
  pub reserved : length pages + spare_of pool ≤ places
  -- and the list of pages has as many places as were made for this room, so it never grows
  pub exact : places ≡ room / half_page + 2

-- the block of 64 pages from the page k on begins at a place, and a page comes after it at the place `behind`, which is
-- not after the end
pub record IsBlock (pages : List Page) (k place end behind : ℕ) (summary : Summary) : Type 0 where
  pub begins : (d : Page) → (slice_index_or pages k d).first ≡ place
  pub inside : k + 64 < length pages
  pub ends : (d : Page) → (slice_index_or pages (k + 64) d).first ≡ behind
  pub before : behind ≤ end
  pub is : summary ≡ joined_of (map (λ p. p.summary) (take 64 (drop k pages)))
