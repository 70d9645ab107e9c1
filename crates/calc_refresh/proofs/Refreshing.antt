-- A sheet whose due windows were evaluated is from scratch again.
use Rattle.std.proofs.Common.{◌≡◌, ◌⊎◌, ℕ, zero, suc, ◌<◌, ◌≤◌, inl, inr, Bool, true, false, nat_lt, nat_le, List, [], ◌∷◌, Some, Contains, length, map, replicate, All, refl, sym, subst, ap, ap₂, ◌∙◌, arith}
use Rattle.std.specs.Prelude.{◌&&◌, ◌||◌, not, Vec, vec_len}
use Rattle.std.specs.declared.alloc.Global.{Global}
use Rattle.std.specs.List.{filter, range_with_len}
use Rattle.std.proofs.lemmas.Bool.{and_parts, cases_Bool, false≢true, lt-ltb}
use Rattle.std.proofs.lemmas.Bool.Decides.{nat_tests}
use Rattle.std.proofs.lemmas.List.{length-map}
use Rattle.std.proofs.lemmas.List.Elements.{All-head, All-tail}
use Rattle.trend_num.specs.{Rec, CalcValue, InRange, last_time}
use Rattle.trend_model.specs.{is_late_record, ContentState, listed, points_of}
use Rattle.calc_check.specs.Group.{Group}
use Rattle.sheet_law.specs.{points_in, values, Grid, complete_windows, is_complete, reaches, window_from, window_to, any_touched, longer, IsScratch, column, is_due, points_by, values_at}
use Rattle.sheet_law.proofs.Complete.{complete_are}
use Rattle.sheet_law.proofs.Formulas.{values_stay}
use Rattle.calc_refresh.specs.{lists_of, is_marked, IsSheetAfter, due_windows, IsCopy}
use Rattle.calc_refresh.proofs.Marking.{unmarked}
use Rattle.calc_refresh.proofs.Passing.{passing_agree, passing_are, passing_has}

-- ---- windows that are complete end at a time

-- a window that Kept records reach ends at a time
reached_is_time : (t : ℕ) (rs : List Rec) → All (λ r. InRange r.point) rs → reaches t rs ≡ true → t ≤ last_time
reached_is_time t [] each reach = absurd (false≢true reach)
reached_is_time t (r ∷ rs) each reach =
    by_test (not (is_late_record r.kind)) (nat_le t r.point.t) reach refl
    (reached_is_time t rs (All-tail (λ x. InRange x.point) r rs each))
  where
    head : r.point.t ≤ last_time
    head = (All-head (λ x. InRange x.point) r rs each).time

    under : nat_le t r.point.t ≡ true → t ≤ last_time
    under h = (let le : t ≤ r.point.t = grind (arith, nat_tests) in omega (arith, le, head))

    by_test : (a b : Bool) → ((a && b) || reaches t rs) ≡ true → nat_le t r.point.t ≡ b
        → (reaches t rs ≡ true → t ≤ last_time) → t ≤ last_time
    by_test true true h same rest = under same
    by_test true false h same rest = rest h
    by_test false b h same rest = rest h

pub complete_ends : (w : Grid) (rss : List (List Rec)) (k : ℕ) → 0 < w.period → 0 < length rss
    → All (λ rs. All (λ r. InRange r.point) rs) rss → k < complete_windows w rss → window_to w k ≤ last_time
complete_ends w [] k some input each within = absurd (omega arith)
complete_ends w (rs ∷ rss) k some input each within =
    reached_is_time (window_to w k) rs (All-head (λ l. All (λ r. InRange r.point) l) rs rss each)
    (and_parts (reaches (window_to w k) rs) (is_complete w rss k) ((complete_are w rs rss k some).0 within)).0

pub complete_is_time : (w : Grid) (rss : List (List Rec)) (k : ℕ) → 0 < w.period → 0 < length rss → All IsCopy rss
    → k < complete_windows w rss → window_to w k ≤ last_time
complete_is_time w rss k some input each within =
    complete_ends w rss k some input (λ i d at. (each i d at).range) within

-- ---- which windows are marked

-- a window is due where the marks of the records and of the new windows have it
pub due_is : (w : Grid) (rss mores : List (List Rec)) (marks first last : List ℕ) (n k : ℕ)
    → marks ≡ replicate n 0 → k < length last
    → is_marked first k ≡ (is_marked marks k || any_touched rss mores (window_from w k) (window_to w k))
    → is_marked last k ≡ (is_marked first k || (nat_le (complete_windows w rss) k && nat_lt k (length last)))
    → is_marked last k ≡ is_due w rss mores k
due_is w rss mores marks first last n k none within touched_are new_are = grind (arith, unmarked, lt-ltb)

-- ---- the rows

-- contents that read as records have their points
points_same : (contents : List ContentState) (rss : List (List Rec))
    → map (λ c. c.records) contents ≡ map listed rss → points_in contents ≡ points_by rss
points_same contents rss same = sym (one contents) ∙ (ap (map points_of) same ∙ two rss)
  where
    one : (cs : List ContentState) → map points_of (map (λ c. c.records) cs) ≡ points_in cs
    one [] = refl
    one (c ∷ cs) = ap (λ l. points_of c.records ∷ l) (one cs)

    two : (xs : List (List Rec)) → map points_of (map listed xs) ≡ points_by xs
    two [] = refl
    two (x ∷ xs) = ap (λ l. points_of (listed x) ∷ l) (two xs)

-- what is known once the due windows were evaluated
pub record Swept (g : Group) (w : Grid) (copies mores : List (List Rec)) (rows wider after : List (Vec CalcValue Global))
    (contents : List ContentState) (marks due : List ℕ) : Type 0 where
  pub some : 0 < w.period
  pub input : 0 < length copies
  pub windows : length marks ≡ complete_windows w (longer copies mores)
  pub grow : complete_windows w copies ≤ length marks
  pub known : All (λ row. length row ≡ complete_windows w copies) (lists_of rows)
  pub marked : (k : ℕ) → k < length marks → is_marked marks k ≡ is_due w copies mores k
  pub read : map (λ c. c.records) contents ≡ map listed (longer copies mores)
  pub widened : (k : ℕ) → All (λ row. k < vec_len row) rows → k < length marks
      → column k (lists_of wider) ≡ column k (lists_of rows)
  pub listed : due ≡ filter (is_marked marks) (range_with_len 0 (length marks))
  pub filled : (k : ℕ) → Contains due k
      → column k (lists_of after) ≡ map Some (values g (points_in contents) (window_from w k) (window_to w k))
  pub others : (k : ℕ) → (Contains due k → ⊥) → column k (lists_of after) ≡ column k (lists_of wider)
  pub calcs : length after ≡ length g.calcs
  pub long : All (λ row. vec_len row ≡ length marks) after

-- rows as lists are as long as their vectors
pub long_lists : (rows : List (Vec CalcValue Global)) (n : ℕ) → All (λ row. vec_len row ≡ n) rows
    → All (λ row. length row ≡ n) (lists_of rows)
long_lists [] n each k d within = absurd (omega arith)
long_lists (v ∷ rows) n each zero d within = (let h = All-head (λ row. vec_len row ≡ n) v rows each in omega (arith, v.ok.0, h))
long_lists (v ∷ rows) n each (suc k) d within =
    long_lists rows n (All-tail (λ row. vec_len row ≡ n) v rows each) k d (omega arith)

pub long_vecs : (rows : List (Vec CalcValue Global)) (n : ℕ) → All (λ row. length row ≡ n) (lists_of rows)
    → All (λ row. vec_len row ≡ n) rows
long_vecs [] n each k d within = absurd (omega arith)
long_vecs (v ∷ rows) n each zero d within =
    (let h = All-head (λ row. length row ≡ n) v.items (lists_of rows) each in omega (arith, v.ok.0, h))
long_vecs (v ∷ rows) n each (suc k) d within =
    long_vecs rows n (All-tail (λ row. length row ≡ n) v.items (lists_of rows) each) k d (omega arith)

either_none : (a b : Bool) → (a || b) ≡ false → (a ≡ false) × (b ≡ false)
either_none true b h = absurd (false≢true (sym h))
either_none false b h = (refl, h)

-- the sheet then is that with these records more
pub swept : (g : Group) (w : Grid) (copies mores : List (List Rec)) (rows wider after : List (Vec CalcValue Global))
    (contents : List ContentState) (marks due : List ℕ)
    → Swept g w copies mores rows wider after contents marks due
    → IsSheetAfter g w copies (lists_of rows) (longer copies mores) (lists_of after) mores due
swept g w [] mores rows wider after contents marks due s = absurd (omega (arith, s.input))
swept g w (rs ∷ rss) mores rows wider after contents marks due s = record {
  copied = refl;
  due_are = λ k within due_now.
      let inside : k < length marks = omega (arith, within, s.windows) in
      s.filled k (told k inside due_now) ∙ ap (map Some) (at k);
  scratch = λ was. record {
    calcs = length-map after (λ v. v.items) ∙ s.calcs;
    windows = subst (λ n. All (λ row. length row ≡ n) (lists_of after)) s.windows (long_lists after (length marks) s.long);
    values = λ k within. by_due k (omega (arith, within, s.windows)) was (cases_Bool (is_due w (rs ∷ rss) mores k));
  };
  others = λ k within apart. stays k within apart;
  told = s.listed
      ∙ (passing_agree (is_marked marks) (is_due w (rs ∷ rss) mores) (length marks) s.marked
      ∙ ap (λ n. due_windows w (rs ∷ rss) mores n) s.windows);
}
  where
    told : (k : ℕ) → k < length marks → is_due w (rs ∷ rss) mores k ≡ true → Contains due k
    told k inside due_now =
        subst (λ l. Contains l k) (sym s.listed) (passing_has (is_marked marks) (length marks) k inside (s.marked k inside ∙ due_now))

    untold : (k : ℕ) → k < length marks → is_due w (rs ∷ rss) mores k ≡ false → Contains due k → ⊥
    untold k inside not_due has =
        false≢true (sym (s.marked k inside ∙ not_due)
        ∙ (passing_are (is_marked marks) (length marks) k (subst (λ l. Contains l k) s.listed has)).1)

    stays : (k : ℕ) → k < complete_windows w (rs ∷ rss)
        → any_touched (rs ∷ rss) mores (window_from w k) (window_to w k) ≡ false
        → column k (lists_of after) ≡ column k (lists_of rows)
    stays k within apart =
        let inside : k < length marks = omega (arith, within, s.grow) in
        let known = long_vecs rows (complete_windows w (rs ∷ rss)) s.known in
        let not_new : nat_le (complete_windows w (rs ∷ rss)) k ≡ false = grind (arith, nat_tests) in
        s.others k (untold k inside (ap₂ (λ a b. a || b) not_new apart))
        ∙ s.widened k (λ i d at. let h = known i d at in omega arith) inside

    at : (k : ℕ) → values g (points_in contents) (window_from w k) (window_to w k) ≡ values_at g w (longer (rs ∷ rss) mores) k
    at k = ap (λ ps. values g ps (window_from w k) (window_to w k)) (points_same contents (longer (rs ∷ rss) mores) s.read)

    by_due : (k : ℕ) → k < length marks → IsScratch g w (rs ∷ rss) (lists_of rows)
        → (is_due w (rs ∷ rss) mores k ≡ true) ⊎ (is_due w (rs ∷ rss) mores k ≡ false)
        → column k (lists_of after) ≡ map Some (values_at g w (longer (rs ∷ rss) mores) k)
    by_due k inside was (inl due_now) =
        s.filled k (told k inside due_now) ∙ ap (map Some) (at k)
    by_due k inside was (inr not_due) =
        let both = either_none (nat_le (complete_windows w (rs ∷ rss)) k)
        (any_touched (rs ∷ rss) mores (window_from w k) (window_to w k)) not_due in
        let old : k < complete_windows w (rs ∷ rss) = (let h : nat_le (complete_windows w (rs ∷ rss)) k ≡ false = both.0 in grind (arith, nat_tests)) in
        stays k old both.1
        ∙ (was.values k old
        ∙ ap (map Some) (sym (values_stay g w (rs ∷ rss) mores k s.some ((complete_are w rs rss k s.some).0 old) both.1)))
