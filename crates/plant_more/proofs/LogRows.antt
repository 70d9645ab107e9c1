-- The rows of collectors, as a log has them.
use Rattle.std.proofs.Common.{◌≡◌, ℕ, zero, suc, ◌+◌, ◌<◌, ◌≤◌, List, [], ◌∷◌, length, get_or, take, refl, sym, ap, ◌∙◌, subst, arith}
use Rattle.std.specs.Prelude.{All, None, Option, Some, Vec, slice_get}
use Rattle.std.specs.declared.alloc.Global.{Global}
use Rattle.std.specs.Option.{option_map, option_map_or, unwrap_or}
use Rattle.plant_status.specs.declared.mismatch.Seen.TheVariants.{Nothing}
use Rattle.std.proofs.lemmas.List.{length-map}
use Rattle.std.proofs.lemmas.List.Sums.{sum_by-cons}
use Rattle.std.proofs.lemmas.Option.{get_or_from_slice_get, slice_get-get_or, slice_get_past}
use Rattle.trend_num.specs.{InRange}
use Rattle.value_rows.specs.{RawRow}
use Rattle.commit_log.specs.{LogRow}
use Rattle.plant_more.specs.{row_lists_of, row_of, AreRowsFor, IsRowFor, total_rows}
use Rattle.plant_status.proofs.Elements.{mapped_at}
use Rattle.plant_more.specs.LogFinding.{rows_from, rows_in, seen_of}

-- two rows of the same parts are one
pub same_row : (a b : LogRow) → a.tag ≡ b.tag → a.collector ≡ b.collector → a.row ≡ b.row → a.point ≡ b.point → a ≡ b
same_row a b tag collector row point =
    λ i. record { tag = tag i; collector = collector i; row = row i; point = point i }

-- rows that a status reports alike are one
pub same_seen : (a b : LogRow) → seen_of a ≡ seen_of b → a ≡ b
same_seen a b is =
    let tag : a.tag ≡ b.tag = cc in
    let collector : a.collector ≡ b.collector = cc in
    let row : a.row ≡ b.row = cc in
    let point : a.point ≡ b.point = cc in
    same_row a b tag collector row point

-- how many rows of a collector there are
pub rows_length : (collector n : ℕ) (rows : List RawRow) → length (rows_from collector n rows) ≡ length rows
rows_length collector n [] = refl
rows_length collector n (r ∷ rows) = ap suc (rows_length collector (n + 1) rows)

-- the row at a place
pub row_there : (collector n place : ℕ) (rows : List RawRow) (d : RawRow) → place < length rows
    → slice_get (rows_from collector n rows) place ≡ Some (row_of collector (place + n) (get_or rows place d))
row_there collector n place [] d few = absurd (omega arith)
row_there collector n zero (r ∷ rows) d few = ap (λ (k : ℕ). Some (row_of collector k r)) (omega arith)
row_there collector n (suc place) (r ∷ rows) d few =
    row_there collector (n + 1) place rows d (omega arith)
    ∙ ap (λ (k : ℕ). Some (row_of collector k (get_or rows place d))) (omega arith)

-- after the last one there is none
pub row_past : (collector n place : ℕ) (rows : List RawRow) → length rows ≤ place → slice_get (rows_from collector n rows) place ≡ None
row_past collector n place rows past = slice_get_past (rows_from collector n rows) place (omega (arith, rows_length collector n rows))

-- how many files there are
pub files_length : (files : List (Vec RawRow Global)) → length (row_lists_of files) ≡ length files
files_length files = simp length-map

-- the rows of a collector that there is
pub rows_in_at : (files : List (List RawRow)) (collector : ℕ) (d : List RawRow) → collector < length files
    → rows_in files collector ≡ rows_from collector 1 (get_or files collector d)
rows_in_at files collector d few =
    ap (λ (o : Option (List RawRow)). option_map_or (rows_from collector 1) o []) (slice_get-get_or files collector d few)

-- the same, of the file itself
pub rows_of_file : (files : List (Vec RawRow Global)) (collector : ℕ) (d : Vec RawRow Global) → collector < length files
    → rows_in (row_lists_of files) collector ≡ rows_from collector 1 (get_or files collector d).items
rows_of_file files collector d few =
    rows_in_at (row_lists_of files) collector [] (omega (arith, files_length files))
    ∙ ap (rows_from collector 1) (mapped_at (λ (v : Vec RawRow Global). v.items) files collector d [] few)

-- of a collector that there is not there are none
pub rows_of_none : (files : List (List RawRow)) (collector : ℕ) → length files ≤ collector → rows_in files collector ≡ []
rows_of_none files collector past = rw (slice_get_past files collector past) refl

-- a row of a collector is its own, of a tag that there is, and in range
pub record IsGoodRow (tags collector : ℕ) (row : LogRow) : Type 0 where
  pub tag : row.tag < tags
  pub point : InRange row.point
  pub collector_is : row.collector ≡ collector

good_at : (tags collector n : ℕ) (rows : List RawRow) → All (IsRowFor tags) rows → (k : ℕ) (d : LogRow)
    → k < length (rows_from collector n rows) → IsGoodRow tags collector (get_or (rows_from collector n rows) k d)
good_at tags collector n [] good k d few = absurd (omega arith)
good_at tags collector n (r ∷ rows) good zero d few =
    let here : IsRowFor tags r = good 0 r (omega arith) in record { tag = here.tag; point = here.point; collector_is = refl }
good_at tags collector n (r ∷ rows) good (suc k) d few =
    good_at tags collector (n + 1) rows (λ j e less. good (suc j) e (omega arith)) k d (omega arith)

pub good_row : (tags collector place : ℕ) (files : List (List RawRow)) (row : LogRow) → collector < length files
    → AreRowsFor tags files → slice_get (rows_in files collector) place ≡ Some row → place < length (rows_in files collector)
    → IsGoodRow tags collector row
good_row tags collector place files row few good there within =
    let file : rows_in files collector ≡ rows_from collector 1 (get_or files collector []) = rows_in_at files collector [] few in
    let all : All (IsGoodRow tags collector) (rows_in files collector) =
    subst (All (IsGoodRow tags collector)) (sym file) (good_at tags collector 1 (get_or files collector []) (good collector [] few)) in
    subst (IsGoodRow tags collector) (get_or_from_slice_get (rows_in files collector) place row row there) (all place row within)

-- how long the file of a collector is
pub file_length : (files : List (Vec RawRow Global)) (collector : ℕ) (d : Vec RawRow Global) → collector < length files
    → length (rows_in (row_lists_of files) collector) ≡ length (get_or files collector d).items
file_length files collector d few = ap length (rows_of_file files collector d few) ∙ rows_length collector 1 (get_or files collector d).items

-- what the file of a collector has at a place
pub next_is : (files : List (Vec RawRow Global)) (collector place : ℕ) (v : Vec RawRow Global) (rows : List RawRow) (o : Option LogRow)
    → collector < length files → v ≡ get_or files collector v → rows ≡ v.items → o ≡ slice_get (rows_from collector 1 rows) place
    → slice_get (rows_in (row_lists_of files) collector) place ≡ o
next_is files collector place v rows o few file text is =
    ap (λ (l : List LogRow). slice_get l place) (rows_of_file files collector v few)
    ∙ (ap (λ (w : Vec RawRow Global). slice_get (rows_from collector 1 w.items) place) (sym file)
    ∙ (ap (λ (t : List RawRow). slice_get (rows_from collector 1 t) place) (sym text) ∙ sym is))

-- how many rows the first files and one more have
pub total_front : (files : List (Vec RawRow Global)) (place : ℕ) (d : Vec RawRow Global) → place < length files
    → total_rows (row_lists_of (take place files)) + length (get_or files place d).items ≤ total_rows (row_lists_of files)
total_front [] place d few = absurd (omega arith)
total_front (v ∷ files) zero d few =
    let here : length (get_or (v ∷ files) zero d).items ≡ length v.items = refl in
    let none : total_rows (row_lists_of (take zero (v ∷ files))) ≡ 0 = refl in
    let all : total_rows (row_lists_of (v ∷ files)) ≡ length v.items + total_rows (row_lists_of files) = sum_by-cons length v.items (row_lists_of files) in
    omega (arith, here, none, all)
total_front (v ∷ files) (suc place) d few =
    let here : length (get_or (v ∷ files) (suc place) d).items ≡ length (get_or files place d).items = refl in
    let front : total_rows (row_lists_of (take (suc place) (v ∷ files))) ≡ length v.items + total_rows (row_lists_of (take place files)) =
    sum_by-cons length v.items (row_lists_of (take place files)) in
    let all : total_rows (row_lists_of (v ∷ files)) ≡ length v.items + total_rows (row_lists_of files) = sum_by-cons length v.items (row_lists_of files) in
    let rest : total_rows (row_lists_of (take place files)) + length (get_or files place d).items ≤ total_rows (row_lists_of files) =
    total_front files place d (omega arith) in
    omega (arith, here, front, all, rest)

-- what a status reports of a row that is due, or of none
pub told_of : {a b : Option LogRow} → a ≡ b → unwrap_or (option_map seen_of a) Nothing ≡ unwrap_or (option_map seen_of b) Nothing
told_of same = ap (λ (o : Option LogRow). unwrap_or (option_map seen_of o) Nothing) same

-- the points of rows for so many tags are in range
pub rows_in_range : (tags : ℕ) (files : List (Vec RawRow Global)) → AreRowsFor tags (row_lists_of files)
    → All (λ rows. All (λ row. InRange row.point) rows.items) files
rows_in_range tags files good = λ i d few j e less.
    let here : All (IsRowFor tags) (get_or files i d).items =
    subst (All (IsRowFor tags)) (mapped_at (λ (v : Vec RawRow Global). v.items) files i d [] few)
    (good i [] (omega (arith, files_length files, few))) in
    (here j e less).point
