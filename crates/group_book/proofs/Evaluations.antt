-- What refreshes evaluate, along a tape and over copies that grow.
use Rattle.std.proofs.Common.{◌≡◌, ℕ, zero, suc, ◌+◌, ◌-◌, ◌*◌, ◌^◌, ◌<◌, ◌≤◌, Bool, true, false, All, List, [], ◌∷◌, ◌++◌, length, map, drop, Vec, nat_le, refl, sym, ap, ap₂, ◌∙◌, subst, arith, append_assoc, append-nil}
use Rattle.std.specs.Prelude.{◌||◌, Some, min}
use Rattle.std.specs.declared.alloc.Global.{Global}
use Rattle.std.proofs.lemmas.Bool.{false≢true, or_parts}
use Rattle.std.proofs.lemmas.Bool.Decides.{nat_tests}
use Rattle.trend_num.specs.{Rec, CalcValue}
use Rattle.calc_check.specs.Group.{Group}
use Rattle.sheet_law.specs.{Grid, column, due_below, is_due, values_at, any_touched, is_touched, longer, touches, complete_windows, window_from, window_to}
use Rattle.sheet_law.proofs.Complete.{complete_are, complete_grow}
use Rattle.sheet_law.proofs.Formulas.{values_stay}
use Rattle.calc_refresh.specs.{lists_of, IsRefreshed, evaluated, SheetState}
use Rattle.group_book.specs.{Turn, GroupOpening, BookWalk, after_turn, book_start, book_walked, cut, uncut, AreRowsEvaluated, BookTurnsFit, IsBookLegal, NeverFall, evaluated_between, evaluated_on, is_due_since}
use Rattle.group_book.specs.declared.turn.Turn.TheVariants.{Refresh, Ask, Save}
use Rattle.group_book.proofs.Cuts.{cut-all, cut-longer, never_refl, never_trans, tail_rises}
use Rattle.group_book.proofs.InputLists.{longer-uncut}
use Rattle.group_book.proofs.LegalTurns.{at_end, opened_low}
use Rattle.group_book.proofs.Turns.{walk_rises}

-- ---- what is behind the first records

-- nothing is behind all of them
drop_all : (rs : List Rec) → drop (length rs) rs ≡ []
drop_all [] = refl
drop_all (r ∷ rs) = drop_all rs

drop_front : (rs more : List Rec) → drop (length rs) (rs ++ more) ≡ more
drop_front [] more = refl
drop_front (r ∷ rs) more = drop_front rs more

drop_longer : (n : ℕ) (rs more : List Rec) → n ≤ length rs → drop n (rs ++ more) ≡ drop n rs ++ more
drop_longer zero rs more low = refl
drop_longer (suc n) [] more low = absurd (omega (arith, low))
drop_longer (suc n) (r ∷ rs) more low = drop_longer n rs more (omega (arith, low))

-- what comes more is behind the copies
uncut-front : (rss mores : List (List Rec)) → length mores ≡ length rss → uncut (map length rss) (longer rss mores) ≡ mores
uncut-front [] [] same = refl
uncut-front [] (m ∷ ms) same = absurd (omega (arith, same))
uncut-front (rs ∷ rss) [] same = absurd (omega (arith, same))
uncut-front (rs ∷ rss) (m ∷ ms) same = ap₂ (λ x y. x ∷ y) (drop_front rs m) (uncut-front rss ms (omega (arith, same)))

-- and behind what was behind the first of them
uncut-longer : (vs : List ℕ) (rss mores : List (List Rec)) → length mores ≡ length rss → NeverFall vs (map length rss)
    → uncut vs (longer rss mores) ≡ longer (uncut vs rss) mores
uncut-longer [] [] mores same never = refl
uncut-longer [] (rs ∷ rss) mores same never = absurd (let h = never.inputs in omega (arith, h))
uncut-longer (v ∷ vs) [] mores same never = absurd (let h = never.inputs in omega (arith, h))
uncut-longer (v ∷ vs) (rs ∷ rss) [] same never = absurd (omega (arith, same))
uncut-longer (v ∷ vs) (rs ∷ rss) (m ∷ ms) same never =
    ap₂ (λ x y. x ∷ y) (drop_longer v rs m (never.rises 0 (omega arith)))
    (uncut-longer vs rss ms (omega (arith, same)) (tail_rises v (length rs) vs (map length rss) never))

-- ---- which windows records touch that come in two parts

touched-append : (rs more most : List Rec) (from to : ℕ)
    → is_touched rs (more ++ most) from to ≡ (is_touched rs more from to || is_touched (rs ++ more) most from to)
touched-append rs [] most from to = ap (λ l. is_touched l most from to) (sym (append-nil rs))
touched-append rs (r ∷ more) most from to =
    ap (λ b. touches rs r from to || b) (touched-append (rs ++ r ∷ []) more most from to)
    ∙ either (touches rs r from to) (is_touched (rs ++ r ∷ []) more from to) (is_touched ((rs ++ r ∷ []) ++ more) most from to)
    ∙ ap (λ l. is_touched rs (r ∷ more) from to || is_touched l most from to) (append_assoc rs (r ∷ []) more)
  where
    either : (a b c : Bool) → (a || (b || c)) ≡ ((a || b) || c)
    either true b c = refl
    either false b c = refl

any-longer : (rss us mores : List (List Rec)) (from to : ℕ) → length us ≡ length rss → length mores ≡ length rss
    → any_touched rss (longer us mores) from to ≡ (any_touched rss us from to || any_touched (longer rss us) mores from to)
any-longer [] us mores from to same as_many = refl
any-longer (rs ∷ rss) [] mores from to same as_many = absurd (omega (arith, same))
any-longer (rs ∷ rss) (u ∷ us) [] from to same as_many = absurd (omega (arith, as_many))
any-longer (rs ∷ rss) (u ∷ us) (m ∷ ms) from to same as_many =
    ap₂ (λ a b. a || b) (touched-append rs u m from to) (any-longer rss us ms from to (omega (arith, same)) (omega (arith, as_many)))
    ∙ crossed (is_touched rs u from to) (is_touched (rs ++ u) m from to) (any_touched rss us from to)
    (any_touched (longer rss us) ms from to)
  where
    crossed : (a b c d : Bool) → ((a || b) || (c || d)) ≡ ((a || c) || (b || d))
    crossed true b c d = refl
    crossed false true true d = refl
    crossed false true false d = refl
    crossed false false c d = refl

-- none is touched where no record comes
none-touched : (rss : List (List Rec)) (from to : ℕ) → any_touched rss (uncut (map length rss) rss) from to ≡ false
none-touched [] from to = refl
none-touched (rs ∷ rss) from to =
    ap₂ (λ a b. a || b) (ap (λ l. is_touched rs l from to) (drop_all rs)) (none-touched rss from to)

length-uncut : (vs : List ℕ) (rss : List (List Rec)) → length vs ≡ length rss → length (uncut vs rss) ≡ length rss
length-uncut [] [] same = refl
length-uncut [] (rs ∷ rss) same = absurd (omega (arith, same))
length-uncut (v ∷ vs) [] same = absurd (omega (arith, same))
length-uncut (v ∷ vs) (rs ∷ rss) same = ap suc (length-uncut vs rss (omega (arith, same)))

length-cut : (vs : List ℕ) (rss : List (List Rec)) → length vs ≡ length rss → length (cut vs rss) ≡ length rss
length-cut [] [] same = refl
length-cut [] (rs ∷ rss) same = absurd (omega (arith, same))
length-cut (v ∷ vs) [] same = absurd (omega (arith, same))
length-cut (v ∷ vs) (rs ∷ rss) same = ap suc (length-cut vs rss (omega (arith, same)))

-- no fewer windows are complete over more records
pub cut_windows : (grid : Grid) (vs : List ℕ) (rss : List (List Rec)) → 0 < grid.period → length vs ≡ length rss
    → complete_windows grid (cut vs rss) ≤ complete_windows grid rss
cut_windows grid vs rss some same =
    subst (λ x. complete_windows grid (cut vs rss) ≤ complete_windows grid x) (longer-uncut vs rss (sym same))
    (complete_grow grid (cut vs rss) (uncut vs rss) some)

-- ---- a group that was just opened

module _ (g : Group) (grid : Grid) (o : GroupOpening) (copies : List (List Rec)) (rows : List (List CalcValue)) (evals : ℕ) where
  pub evaluated_first : o.versions.items ≡ map length copies → lists_of o.rows.items ≡ rows → length rows ≡ length g.calcs
      → All (λ row. length row ≡ complete_windows grid copies) rows → evals ≡ 0
      → AreRowsEvaluated g grid o [] copies rows evals
  evaluated_first opened same calcs windows none = record {
    rows_are = record {
      calcs = calcs;
      windows = windows;
      due = λ k within due. absurd (false≢true (sym (not_due k within) ∙ due));
      others = λ k still. ap (column k) (sym same);
    };
    evals_are = none;
  }
    where
      not_due : (k : ℕ) → k < complete_windows grid copies → is_due_since grid o copies k ≡ false
      not_due k within =
          ap₂ (λ a b. nat_le (complete_windows grid a) k || any_touched a b (window_from grid k) (window_to grid k))
          (ap (λ l. cut l copies) opened ∙ cut-all copies) (ap (λ l. uncut l copies) opened)
          ∙ ap₂ (λ a b. a || b) known (none-touched copies (window_from grid k) (window_to grid k))
        where
          known : nat_le (complete_windows grid copies) k ≡ false
          known = grind (arith, nat_tests)

  -- ---- one more turn that evaluates nothing

  pub evaluated_asked : (tape : List Turn) (reader row calc k : ℕ) (reply : _) → AreRowsEvaluated g grid o tape copies rows evals
      → AreRowsEvaluated g grid o (tape ++ Ask reader row calc k reply ∷ []) copies rows evals
  evaluated_asked tape reader row calc k reply was = record {
    rows_are = was.rows_are;
    evals_are = was.evals_are ∙ sym (pushed o.versions.items 0 tape);
  }
    where
      pushed : (now : List ℕ) (count : ℕ) (es : List Turn)
          → evaluated_on g grid copies now count (es ++ Ask reader row calc k reply ∷ []) ≡ evaluated_on g grid copies now count es
      pushed now count [] = refl
      pushed now count (Refresh v ∷ es) = pushed v.items _ es
      pushed now count (Ask a b c d e ∷ es) = pushed now count es
      pushed now count (Save number moment ∷ es) = pushed now count es

  pub evaluated_saved : (tape : List Turn) (number moment : ℕ) → AreRowsEvaluated g grid o tape copies rows evals
      → AreRowsEvaluated g grid o (tape ++ Save number moment ∷ []) copies rows evals
  evaluated_saved tape number moment was = record {
    rows_are = was.rows_are;
    evals_are = was.evals_are ∙ sym (pushed o.versions.items 0 tape);
  }
    where
      pushed : (now : List ℕ) (count : ℕ) (es : List Turn)
          → evaluated_on g grid copies now count (es ++ Save number moment ∷ []) ≡ evaluated_on g grid copies now count es
      pushed now count [] = refl
      pushed now count (Refresh v ∷ es) = pushed v.items _ es
      pushed now count (Ask a b c d e ∷ es) = pushed now count es
      pushed now count (Save n m ∷ es) = pushed now count es

-- ---- a refresh

-- one refresh more on the tape
evaluated-push : (g : Group) (w : Grid) (copies : List (List Rec)) (walk : BookWalk) (count : ℕ) (es : List Turn) (new : Vec ℕ Global)
    → evaluated_on g w copies walk.versions count (es ++ Refresh new ∷ [])
    ≡ min (evaluated_on g w copies walk.versions count es + evaluated_between g w copies (book_walked walk es).versions new.items) (2 ^ 64 - 1)
evaluated-push g w copies walk count [] new = refl
evaluated-push g w copies walk count (Refresh v ∷ es) new = evaluated-push g w copies (after_turn walk (Refresh v)) _ es new
evaluated-push g w copies walk count (Ask a b c d e ∷ es) new = evaluated-push g w copies walk count es new
evaluated-push g w copies walk count (Save n m ∷ es) new = evaluated-push g w copies (after_turn walk (Save n m)) count es new

-- over copies that grew, refreshes evaluate the same
evaluated-longer : (g : Group) (w : Grid) (o : GroupOpening) (copies mores : List (List Rec)) (walk : BookWalk) (count : ℕ) (es : List Turn)
    → BookTurnsFit g w o copies walk es → NeverFall (book_walked walk es).versions (map length copies)
    → evaluated_on g w (longer copies mores) walk.versions count es ≡ evaluated_on g w copies walk.versions count es
evaluated-longer g w o copies mores walk count [] fits low = refl
evaluated-longer g w o copies mores walk count (Refresh v ∷ es) fits low =
    ap (λ n. evaluated_on g w (longer copies mores) v.items (min (count + n) (2 ^ 64 - 1)) es) between
    ∙ evaluated-longer g w o copies mores (after_turn walk (Refresh v)) _ es fits.1 low
  where
    to : NeverFall v.items (map length copies)
    to = never_trans v.items (book_walked walk (Refresh v ∷ es)).versions (map length copies)
        (walk_rises g w o copies (after_turn walk (Refresh v)) es fits.1) low

    from : NeverFall walk.versions (map length copies)
    from = never_trans walk.versions v.items (map length copies) fits.0 to

    between : evaluated_between g w (longer copies mores) walk.versions v.items ≡ evaluated_between g w copies walk.versions v.items
    between = ap₂ (λ a b. due_below w a (uncut walk.versions b) (complete_windows w b) * length g.calcs)
        (cut-longer walk.versions copies mores from) (cut-longer v.items copies mores to)
evaluated-longer g w o copies mores walk count (Ask a b c d e ∷ es) fits low =
    evaluated-longer g w o copies mores walk count es fits.1 low
evaluated-longer g w o copies mores walk count (Save n m ∷ es) fits low =
    evaluated-longer g w o copies mores (after_turn walk (Save n m)) count es fits.1 low

module _ (g : Group) (grid : Grid) (o : GroupOpening) (tape : List Turn) (versions : List ℕ) (s t : SheetState)
    (mores : List (List Rec)) (new : Vec ℕ Global) (same_group : s.group ≡ g) (same_grid : s.grid ≡ grid)
    (legal : IsBookLegal g grid o tape versions s.copies s.rows) (was : AreRowsEvaluated g grid o tape s.copies s.rows s.evals)
    (refreshed : IsRefreshed s t mores) (as_many : length mores ≡ length s.copies) (some : 0 < grid.period)
    (input : 0 < length s.copies) (new_are : new.items ≡ map length (longer s.copies mores)) where
  now_group : t.group ≡ g
  now_group = refreshed.group ∙ same_group

  now_grid : t.grid ≡ grid
  now_grid = refreshed.grid ∙ same_grid

  low : NeverFall o.versions.items (map length s.copies)
  low = opened_low g grid o tape versions s.copies s.rows legal

  ended : (book_walked (book_start o) tape).versions ≡ map length s.copies
  ended = at_end g grid o tape versions s.copies s.rows legal

  -- what this refresh evaluates
  here : evaluated_between g grid (longer s.copies mores) (book_walked (book_start o) tape).versions new.items ≡ evaluated s mores
  here =
      ap₂ (λ from to. evaluated_between g grid (longer s.copies mores) from to) ended new_are
      ∙ ap₂ (λ a b. due_below grid a (uncut (map length s.copies) b) (complete_windows grid b) * length g.calcs)
      (cut-longer (map length s.copies) s.copies mores (never_refl (map length s.copies)) ∙ cut-all s.copies)
      (cut-all (longer s.copies mores))
      ∙ ap (λ l. due_below grid s.copies l (complete_windows grid (longer s.copies mores)) * length g.calcs)
      (uncut-front s.copies mores as_many)
      ∙ ap₂ (λ (w : Grid) (h : Group). due_below w s.copies mores (complete_windows w (longer s.copies mores)) * length h.calcs)
      (sym same_grid) (sym same_group)

  evals_are : t.evals ≡ evaluated_on g grid (longer s.copies mores) o.versions.items 0 (tape ++ Refresh new ∷ [])
  evals_are =
      refreshed.evals
      ∙ ap₂ (λ a b. min (a + b) (2 ^ 64 - 1))
      (was.evals_are ∙ sym (evaluated-longer g grid o s.copies mores (book_start o) 0 tape legal.turns
      (subst (λ v. NeverFall v (map length s.copies)) (sym ended) (never_refl (map length s.copies)))))
      (sym here)
      ∙ sym (evaluated-push g grid (longer s.copies mores) (book_start o) 0 tape new)

  inputs : length s.copies ≡ length o.versions.items
  inputs = let h = low.inputs in sym (length-lengths s.copies) ∙ h
    where
      length-lengths : (rss : List (List Rec)) → length (map length rss) ≡ length rss
      length-lengths [] = refl
      length-lengths (rs ∷ rss) = ap suc (length-lengths rss)

  module _ (k : ℕ) where
    abbrev meets_now : Bool
    meets_now = any_touched s.copies mores (window_from grid k) (window_to grid k)

    -- a window that is due since the opening was due before, or is due now
    due_both : is_due_since grid o (longer s.copies mores) k ≡ (is_due_since grid o s.copies k || meets_now)
    due_both =
        grind (arith, cut-longer, low, uncut-longer, any-longer, longer-uncut, inputs, length-cut, length-uncut)

    -- one that was complete and is not due now keeps its values
    stays_now : k < complete_windows grid s.copies → meets_now ≡ false → column k t.rows ≡ column k s.rows
    stays_now known apart = grind (arith, known)

    -- one that is not due since the opening has the values of the opening
    others_then : is_due_since grid o (longer s.copies mores) k ≡ false → column k t.rows ≡ column k (lists_of o.rows.items)
    others_then still =
        let parts = or_parts (is_due_since grid o s.copies k) meets_now (sym due_both ∙ still) in
        let new = (or_parts (nat_le (complete_windows grid (cut o.versions.items s.copies)) k)
        (any_touched (cut o.versions.items s.copies) (uncut o.versions.items s.copies) (window_from grid k) (window_to grid k)) parts.0).0 in
        let first : k < complete_windows grid (cut o.versions.items s.copies) = grind (arith, nat_tests) in
        stays_now (omega (arith, first, cut_windows grid o.versions.items s.copies some (sym inputs))) parts.1
        ∙ was.rows_are.others k parts.0

  module _ (k : ℕ) (within : k < complete_windows grid (longer s.copies mores)) where
    now_due : is_due grid s.copies mores k ≡ true → column k t.rows ≡ map Some (values_at g grid (longer s.copies mores) k)
    now_due due =
        subst (λ (rss : List (List Rec)). column k t.rows ≡ map Some (values_at g grid rss k)) refreshed.copies
        (subst (λ (h : Group). column k t.rows ≡ map Some (values_at h grid t.copies k)) now_group
        (subst (λ (w : Grid). column k t.rows ≡ map Some (values_at t.group w t.copies k)) now_grid
        (refreshed.due_are k
        (subst (λ (w : Grid). k < complete_windows w t.copies) (sym now_grid)
        (subst (λ (rss : List (List Rec)). k < complete_windows grid rss) (sym refreshed.copies) within))
        (subst (λ (w : Grid). is_due w s.copies mores k ≡ true) (sym same_grid) due))))

    -- one that is not due now keeps its values, and they are those from scratch still
    still : k < complete_windows grid s.copies → meets_now k ≡ false → column k s.rows ≡ map Some (values_at g grid s.copies k)
        → column k t.rows ≡ map Some (values_at g grid (longer s.copies mores) k)
    still known apart before =
        stays_now k known apart
        ∙ before ∙ ap (map Some) (sym (stays s.copies input refl))
      where
        stays : (rss : List (List Rec)) → 0 < length rss → rss ≡ s.copies
            → values_at g grid (longer s.copies mores) k ≡ values_at g grid s.copies k
        stays [] none same = absurd (omega (arith, none))
        stays (rs ∷ rss) none same =
            subst (λ l. values_at g grid (longer l mores) k ≡ values_at g grid l k) same
            (values_stay g grid (rs ∷ rss) mores k some
            ((complete_are grid rs rss k some).0 (subst (λ l. k < complete_windows grid l) (sym same) known))
            (subst (λ l. any_touched l mores (window_from grid k) (window_to grid k) ≡ false) (sym same) apart))

    due_then : is_due_since grid o (longer s.copies mores) k ≡ true
        → column k t.rows ≡ map Some (values_at g grid (longer s.copies mores) k)
    due_then due = by_due (nat_le (complete_windows grid s.copies) k) (meets_now k) refl refl
      where
        by_due : (a b : Bool) → nat_le (complete_windows grid s.copies) k ≡ a → meets_now k ≡ b
            → column k t.rows ≡ map Some (values_at g grid (longer s.copies mores) k)
        by_due true b new touched = now_due (ap (λ x. x || meets_now k) new)
        by_due false true new touched = now_due (ap₂ (λ x y. x || y) new touched)
        by_due false false new touched =
            let known : k < complete_windows grid s.copies = grind (arith, nat_tests) in
            still known touched (was.rows_are.due k known (left (is_due_since grid o s.copies k)
            (ap (λ x. is_due_since grid o s.copies k || x) (sym touched) ∙ sym (due_both k) ∙ due)))
          where
            left : (x : Bool) → (x || false) ≡ true → x ≡ true
            left true h = refl
            left false h = h

  pub evaluated_refreshed : AreRowsEvaluated g grid o (tape ++ Refresh new ∷ []) t.copies t.rows t.evals
  evaluated_refreshed = grind (arith, now_group, now_grid, due_then, others_then, evals_are)
