-- Tapes with one more turn, and over copies that grew.
use Rattle.std.proofs.Common.{◌≡◌, ◌↔◌, ℕ, ◌<◌, Bool, true, false, All, List, [], ◌∷◌, ◌++◌, Contains, IsSome, length, length-append, map, get_or, nat_le, refl, sym, ap, ◌∙◌, subst, arith, if◌then◌else◌}
use Rattle.std.proofs.Math.ListN.{get_or-append}
use Rattle.std.proofs.Math.Seq.{get_or-append_seam}
use Rattle.std.proofs.lemmas.List.Elements.{All-cons, All-nil, All-push}
use Rattle.trend_num.specs.{Rec}
use Rattle.calc_check.specs.Group.{Group}
use Rattle.calc_refresh.specs.{lists_of}
use Rattle.group_layout.specs.{cell_of}
use Rattle.sheet_law.specs.{Grid, IsScratch, complete_windows, longer}
use Rattle.group_book.specs.{Turn, GroupOpening, BookWalk, after_turn, cut, saved_at, versions_since, book_walked, BookTurnsFit, BookTurnFits, IsRight, NeverFall, is_due_since, scratch_at}
use Rattle.group_book.specs.declared.turn.Turn.TheVariants.{Refresh, Ask, Save}
use Rattle.group_book.proofs.Cuts.{cut-longer, never_refl, never_trans}

-- ---- one more turn

pub walked-push : (w : BookWalk) (es : List Turn) (e : Turn) → book_walked w (es ++ e ∷ []) ≡ after_turn (book_walked w es) e
walked-push w [] e = refl
walked-push w (x ∷ es) e = walked-push (after_turn w x) es e

pub fit_push : (g : Group) (grid : Grid) (o : GroupOpening) (copies : List (List Rec)) (w : BookWalk) (es : List Turn) (e : Turn)
    → BookTurnsFit g grid o copies w es → BookTurnFits g grid o copies (book_walked w es) e → BookTurnsFit g grid o copies w (es ++ e ∷ [])
fit_push g grid o copies w [] e fits one = (one, tt)
fit_push g grid o copies w (x ∷ es) e fits one = (fits.0, fit_push g grid o copies (after_turn w x) es e fits.1 one)

-- an element of a list is one of a longer list, and so is what was added
pub contains_left : (xs ys : List (List ℕ)) (x : List ℕ) → Contains xs x → Contains (xs ++ ys) x
contains_left xs ys x is = (is.0, omega (arith, is.1, length-append xs ys), get_or-append xs ys x is.0 is.1 ∙ is.2)

pub contains_last : (xs : List (List ℕ)) (x : List ℕ) → Contains (xs ++ x ∷ []) x
contains_last xs x = (length xs, omega (arith, length-append xs (x ∷ [])), get_or-append_seam xs x [] x)

-- ---- versions along a tape

-- versions rise along a tape
pub walk_rises : (g : Group) (grid : Grid) (o : GroupOpening) (copies : List (List Rec)) (w : BookWalk) (es : List Turn)
    → BookTurnsFit g grid o copies w es → NeverFall w.versions (book_walked w es).versions
walk_rises g grid o copies w [] fits = never_refl w.versions
walk_rises g grid o copies w (Refresh versions ∷ es) fits =
    never_trans w.versions versions.items (book_walked w (Refresh versions ∷ es)).versions fits.0
    (walk_rises g grid o copies (after_turn w (Refresh versions)) es fits.1)
walk_rises g grid o copies w (Ask reader row calc k reply ∷ es) fits = walk_rises g grid o copies w es fits.1
walk_rises g grid o copies w (Save number moment ∷ es) fits =
    walk_rises g grid o copies (after_turn w (Save number moment)) es fits.1

-- those of the last save are not above the last ones
pub saved_rises : (g : Group) (grid : Grid) (o : GroupOpening) (copies : List (List Rec)) (w : BookWalk) (saved : List ℕ) (es : List Turn)
    → BookTurnsFit g grid o copies w es → NeverFall saved w.versions
    → NeverFall (saved_at w.versions saved es) (book_walked w es).versions
saved_rises g grid o copies w saved [] fits low = low
saved_rises g grid o copies w saved (Refresh versions ∷ es) fits low =
    saved_rises g grid o copies (after_turn w (Refresh versions)) saved es fits.1
    (never_trans saved w.versions versions.items low fits.0)
saved_rises g grid o copies w saved (Ask reader row calc k reply ∷ es) fits low =
    saved_rises g grid o copies w saved es fits.1 low
saved_rises g grid o copies w saved (Save number moment ∷ es) fits low =
    saved_rises g grid o copies (after_turn w (Save number moment)) w.versions es fits.1 (never_refl w.versions)

-- nor are those since a save
pub since_rises : (g : Group) (grid : Grid) (o : GroupOpening) (copies : List (List Rec)) (t : ℕ) (w : BookWalk) (since : List (List ℕ))
    (es : List Turn) → BookTurnsFit g grid o copies w es → All (λ v. NeverFall v w.versions) since
    → All (λ v. NeverFall v (book_walked w es).versions) (versions_since t w.versions since es)
since_rises g grid o copies t w since [] fits low = low
since_rises g grid o copies t w since (Refresh versions ∷ es) fits low =
    since_rises g grid o copies t (after_turn w (Refresh versions)) (since ++ versions.items ∷ []) es fits.1
    (All-push (λ v. NeverFall v versions.items) since versions.items
    (λ k d within. never_trans (get_or since k d) w.versions versions.items (low k d within) fits.0) (never_refl versions.items))
since_rises g grid o copies t w since (Ask reader row calc k reply ∷ es) fits low =
    since_rises g grid o copies t w since es fits.1 low
since_rises g grid o copies t w since (Save number moment ∷ es) fits low =
    since_rises g grid o copies t (after_turn w (Save number moment)) (if nat_le moment t then w.versions ∷ [] else since) es fits.1
    (either (nat_le moment t))
  where
    either : (b : Bool) → All (λ v. NeverFall v w.versions) (if b then w.versions ∷ [] else since)
    either true = All-cons (λ v. NeverFall v w.versions) w.versions [] (never_refl w.versions) (All-nil (λ v. NeverFall v w.versions))
    either false = low

-- one more turn, on the versions since a save
pub since-refresh : (t : ℕ) (now : List ℕ) (since : List (List ℕ)) (es : List Turn) (versions : _)
    → versions_since t now since (es ++ Refresh versions ∷ []) ≡ versions_since t now since es ++ versions.items ∷ []
since-refresh t now since [] versions = refl
since-refresh t now since (Refresh v ∷ es) versions = since-refresh t v.items (since ++ v.items ∷ []) es versions
since-refresh t now since (Ask reader row calc k reply ∷ es) versions = since-refresh t now since es versions
since-refresh t now since (Save number moment ∷ es) versions =
    since-refresh t now (if nat_le moment t then now ∷ [] else since) es versions

pub since-ask : (t : ℕ) (now : List ℕ) (since : List (List ℕ)) (es : List Turn) (reader row calc k : ℕ) (reply : _)
    → versions_since t now since (es ++ Ask reader row calc k reply ∷ []) ≡ versions_since t now since es
since-ask t now since [] reader row calc k reply = refl
since-ask t now since (Refresh v ∷ es) reader row calc k reply = since-ask t v.items (since ++ v.items ∷ []) es reader row calc k reply
since-ask t now since (Ask a b c d e ∷ es) reader row calc k reply = since-ask t now since es reader row calc k reply
since-ask t now since (Save number moment ∷ es) reader row calc k reply =
    since-ask t now (if nat_le moment t then now ∷ [] else since) es reader row calc k reply

-- and on those of the last save
pub saved-refresh : (now saved : List ℕ) (es : List Turn) (versions : _) → saved_at now saved (es ++ Refresh versions ∷ []) ≡ saved_at now saved es
saved-refresh now saved [] versions = refl
saved-refresh now saved (Refresh v ∷ es) versions = saved-refresh v.items saved es versions
saved-refresh now saved (Ask reader row calc k reply ∷ es) versions = saved-refresh now saved es versions
saved-refresh now saved (Save number moment ∷ es) versions = saved-refresh now now es versions

pub saved-ask : (now saved : List ℕ) (es : List Turn) (reader row calc k : ℕ) (reply : _)
    → saved_at now saved (es ++ Ask reader row calc k reply ∷ []) ≡ saved_at now saved es
saved-ask now saved [] reader row calc k reply = refl
saved-ask now saved (Refresh v ∷ es) reader row calc k reply = saved-ask v.items saved es reader row calc k reply
saved-ask now saved (Ask a b c d e ∷ es) reader row calc k reply = saved-ask now saved es reader row calc k reply
saved-ask now saved (Save number moment ∷ es) reader row calc k reply = saved-ask now now es reader row calc k reply

-- ---- over copies that grew

-- the opening is right where it was
pub right_back : (g : Group) (grid : Grid) (o : GroupOpening) (copies mores : List (List Rec))
    → NeverFall o.versions.items (map length copies) → IsRight g grid o (longer copies mores) → IsRight g grid o copies
right_back g grid o copies mores low right =
    subst (λ rss. IsScratch g grid rss (lists_of o.rows.items)) (cut-longer o.versions.items copies mores low) right

-- the turns say what is so over longer copies
pub fit_longer : (g : Group) (grid : Grid) (o : GroupOpening) (copies mores : List (List Rec)) (w : BookWalk) (es : List Turn)
    → NeverFall o.versions.items (map length copies) → NeverFall (book_walked w es).versions (map length copies)
    → BookTurnsFit g grid o copies w es → BookTurnsFit g grid o (longer copies mores) w es
fit_longer g grid o copies mores w [] opened low fits = tt
fit_longer g grid o copies mores w (Refresh versions ∷ es) opened low fits =
    (fits.0, fit_longer g grid o copies mores (after_turn w (Refresh versions)) es opened low fits.1)
fit_longer g grid o copies mores w (Ask reader row calc k reply ∷ es) opened low fits = (
  record {
    there = subst (λ rss. IsSome reply ↔ ((calc < length g.calcs) × (k < complete_windows grid rss))) (sym same) fits.0.there;
    due = subst (λ rss. is_due_since grid o rss k ≡ true → reply ≡ scratch_at g grid rss calc k) (sym same) fits.0.due;
    others = subst (λ rss. is_due_since grid o rss k ≡ false → reply ≡ cell_of (lists_of o.rows.items) calc k) (sym same) fits.0.others;
    value = λ right. fits.0.value (right_back g grid o copies mores opened right) ∙ ap (λ rss. scratch_at g grid rss calc k) (sym same);
  },
  fit_longer g grid o copies mores w es opened low fits.1,
)
  where
    same : cut w.versions (longer copies mores) ≡ cut w.versions copies
    same = cut-longer w.versions copies mores
        (never_trans w.versions (book_walked w es).versions (map length copies) (walk_rises g grid o copies w es fits.1) low)
fit_longer g grid o copies mores w (Save number moment ∷ es) opened low fits =
    (fits.0, fit_longer g grid o copies mores (after_turn w (Save number moment)) es opened low fits.1)
