-- Why a book is not refreshed, from what was pulled and from its sheet.
use Rattle.std.proofs.Common.{◌≡◌, ℕ, zero, suc, ◌+◌, ◌<◌, ◌≤◌, List, [], ◌∷◌, ◌++◌, length, map, get_or, Some, Result, Ok, Err, IfErr, OnOk, refl, sym, ap, ◌∙◌, subst, arith, length-append, ltb-true}
use Rattle.std.proofs.Math.ListN.{get_or-append}
use Rattle.std.proofs.Math.Seq.{get_or-append_seam}
use Rattle.std.proofs.lemmas.List.{length-map, map-append}
use Rattle.trend_num.specs.{Rec}
use Rattle.tag_cell.specs.{Pulled}
use Rattle.calc_refresh.specs.declared.refusal.SheetNo.TheVariants as sheet
use Rattle.calc_refresh.specs.{limit_fault, most_cells, most_copies}
use Rattle.group_book.specs.{RefreshNo, IsAheadAt, IsPullCause, IsRefreshCause, IsBookToldOf, GivesNone, GoesOn, IsPublished, ToldBook, pulled_records}
use Rattle.group_book.specs.declared.refusal.RefreshNo.TheVariants.{Ahead, CellLimit, CopyLimit, WantOfMemory}

-- one pull that is refused refuses all
pub one_refused : (versions : List ℕ) (i from : ℕ) (why : RefreshNo) → i < length versions → from ≡ get_or versions i 0
    → IsAheadAt i from why → IsPullCause versions why
one_refused versions i from (Ahead input version records) low is cause = record {
  within = subst (λ n. n < length versions) (sym cause.0) low;
  own = cause.1 ∙ is ∙ ap (λ n. get_or versions n 0) (sym cause.0);
  above = omega (arith, cause.1, cause.2);
}
one_refused versions i from (CellLimit cells) low is cause = cause
one_refused versions i from (CopyLimit records) low is cause = cause
one_refused versions i from WantOfMemory low is cause = tt

-- a pull that is refused refuses the refresh
pub pull_refused : (versions : List ℕ) (why : RefreshNo) → IsPullCause versions why → IsRefreshCause versions why
pull_refused versions (Ahead input version records) cause = cause
pull_refused versions (CellLimit cells) cause = absurd cause
pull_refused versions (CopyLimit records) cause = absurd cause
pull_refused versions WantOfMemory cause = tt

-- a limit that is reported was passed
limit_cells : (cells records told : ℕ) → limit_fault cells records ≡ Some (sheet.CellLimit told) → most_cells < told
limit_cells cells records told is = grind (arith, ltb-true)

limit_copies : (cells records told : ℕ) → limit_fault cells records ≡ Some (sheet.CopyLimit told) → most_copies < told
limit_copies cells records told is = grind (arith, ltb-true)

-- a sheet that is refused refuses the refresh
pub sheet_refused : (versions : List ℕ) (cells records : ℕ) (why : RefreshNo) → IsBookToldOf (limit_fault cells records) why
    → IsRefreshCause versions why
sheet_refused versions cells records (Ahead input version at) told = absurd told
sheet_refused versions cells records (CellLimit n) told = limit_cells cells records n told
sheet_refused versions cells records (CopyLimit n) told = limit_copies cells records n told
sheet_refused versions cells records WantOfMemory told = tt

-- of a refusal
pub sheet_refuses : {T : Type 0} (versions : List ℕ) (cells records : ℕ) (r : Result T RefreshNo)
    → IfErr r (IsBookToldOf (limit_fault cells records)) → IfErr r (IsRefreshCause versions)
sheet_refuses versions cells records (Ok x) told = tt
sheet_refuses versions cells records (Err why) told = sheet_refused versions cells records why told

-- ---- one pull more

pub goes_more : (versions : List ℕ) (ps : List Pulled) (one : Pulled)
    → ((k : ℕ) (p : Pulled) → k < length ps → (get_or ps k p).upto ≡ get_or versions k 0 + length (get_or ps k p).recs.items)
    → one.upto ≡ get_or versions (length ps) 0 + length one.recs.items
    → (k : ℕ) (p : Pulled) → k < length (ps ++ one ∷ [])
    → (get_or (ps ++ one ∷ []) k p).upto ≡ get_or versions k 0 + length (get_or (ps ++ one ∷ []) k p).recs.items
goes_more versions ps one goes is k p low = grind (arith, get_or-append, length-append, get_or-append_seam)

pub none_more : (tags : List ℕ) (cells : ℕ) (ps : List Pulled) (one : Pulled) → GivesNone tags cells (pulled_records ps)
    → (cells ≤ get_or tags (length ps) 0 → one.recs.items ≡ []) → GivesNone tags cells (pulled_records (ps ++ one ∷ []))
none_more tags cells ps one none is i rs low beyond =
    grind (arith, get_or-append, length-append, get_or-append_seam, map-append, length-map)

-- ---- what was pulled continues from the copies

version_at : (copies : List (List Rec)) (i : ℕ) (rs : List Rec) → i < length copies
    → get_or (map length copies) i 0 ≡ length (get_or copies i rs)
version_at [] i rs low = absurd (omega arith)
version_at (r ∷ copies) zero rs low = refl
version_at (r ∷ copies) (suc i) rs low = version_at copies i rs (omega arith)

pub goes_from : (versions : List ℕ) (copies : List (List Rec)) (ps : List Pulled) → versions ≡ map length copies
    → length ps ≡ length copies
    → ((k : ℕ) (p : Pulled) → k < length ps → (get_or ps k p).upto ≡ get_or versions k 0 + length (get_or ps k p).recs.items)
    → GoesOn copies ps
goes_from versions copies ps are same goes = grind (arith, version_at)

-- what was published, with what was pulled
pub with_pulls : {T E D : Type 0} (r : Result T E) (mores : List (List Rec)) (old new : ToldBook D) (tags : List ℕ) (cells : ℕ)
    → OnOk r (IsPublished mores old new) → GivesNone tags cells mores
    → OnOk r ((x : List (List Rec)) × IsPublished x old new × GivesNone tags cells x)
with_pulls (Ok x) mores old new tags cells published none = (mores, published, none)
with_pulls (Err e) mores old new tags cells published none = tt
