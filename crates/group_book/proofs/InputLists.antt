-- Lists of records, one for each input, that are taken into account one after the other.
use Rattle.std.proofs.Common.{◌≡◌, ℕ, ◌+◌, ◌<◌, ◌≤◌, List, [], ◌∷◌, ◌++◌, All, length, map, get_or, take, drop, refl, sym, ap, ap₂, subst, ◌∙◌, arith}
use Rattle.std.proofs.lemmas.List.{get_or-map, get_or-take, length-take, length-take-le, length_push, map-append, take-append-drop, take_all, take_more}
use Rattle.std.proofs.lemmas.List.Elements.{All-push}
use Rattle.trend_num.specs.{Rec}
use Rattle.tag_cell.specs.{Pulled}
use Rattle.calc_refresh.specs.{fault_after, IsCopy}
use Rattle.sheet_law.specs.{longer}
use Rattle.group_book.specs.{RefreshNo, ArePullsOf, IsListsRefusal, IsPullAhead, IsPullOf, IsPullRefusal, lists_at, IsBookToldOf, cut, uncut, GoesOn, ToldBook, pulled_records, versions_of}
use Rattle.group_book.specs.declared.refusal.RefreshNo.TheVariants.{Ahead, CellLimit, CopyLimit, WantOfMemory}
use Rattle.group_book.proofs.Causes.{goes_from, goes_more}
use Rattle.group_book.proofs.Cuts.{part_more}

-- ---- what is after the first records

-- both together are the lists
pub longer-uncut : (vs : List ℕ) (rss : List (List Rec)) → length rss ≡ length vs → longer (cut vs rss) (uncut vs rss) ≡ rss
longer-uncut [] [] same = refl
longer-uncut [] (rs ∷ rss) same = absurd (omega (arith, same))
longer-uncut (v ∷ vs) [] same = absurd (omega (arith, same))
longer-uncut (v ∷ vs) (rs ∷ rss) same =
    ap₂ (λ x y. x ∷ y) (take-append-drop v rs) (longer-uncut vs rss (omega (arith, same)))

-- ---- what was pulled of the first lists

-- of none
pub pulls_none : (lists : List (List Rec)) (versions : List ℕ) → ArePullsOf (take 0 lists) (take 0 versions) []
pulls_none lists versions = grind arith

-- of one more
pub pulls_more : (lists : List (List Rec)) (versions : List ℕ) (i : ℕ) (ps : List Pulled) (one : Pulled) → length lists ≡ length versions
    → i < length lists → IsPullOf (get_or lists i []) (get_or versions i 0) one → ArePullsOf (take i lists) (take i versions) ps
    → ArePullsOf (take (i + 1) lists) (take (i + 1) versions) (ps ++ one ∷ [])
pulls_more lists versions i ps one same within is before = record {
  as_many = omega (arith, length_push ps one, many, length-take (i + 1) lists, within);
  records = map-append (λ p. p.recs.items) ps (one ∷ [])
      ∙ ap₂ (λ l rs. l ++ rs ∷ []) before.records is.records
      ∙ sym (part_more uncut drop refl (λ v vs rs rss. refl) versions lists i same (omega (arith, within, same)));
  ends = map-append (λ p. p.upto) ps (one ∷ [])
      ∙ ap₂ (λ l n. l ++ n ∷ []) before.ends is.ends
      ∙ sym (ap (map length) (take_more lists i [] within) ∙ map-append length (take i lists) (get_or lists i [] ∷ []));
  copied = subst (All IsCopy) (sym (map-append (λ p. p.recs.items) ps (one ∷ [])))
      (All-push IsCopy (pulled_records ps) one.recs.items before.copied is.copied);
  goes_on = goes_more (take (i + 1) versions) ps one (λ k p below.
      before.goes_on k p below
      ∙ ap (λ n. n + length (get_or ps k p).recs.items)
      (get_or-take i versions k 0 (omega (arith, below, many)) ∙ sym (get_or-take (i + 1) versions k 0 (omega (arith, below, many)))))
      (is.goes_on ∙ ap (λ n. n + length one.recs.items)
      (sym (ap (λ k. get_or (take (i + 1) versions) k 0) many ∙ get_or-take (i + 1) versions i 0 (omega arith))));
}
  where
    many : length ps ≡ i
    many = omega (arith, before.as_many, length-take i lists, within)

-- of all
pub pulls_all : (lists : List (List Rec)) (versions : List ℕ) (i : ℕ) (ps : List Pulled) → length lists ≡ length versions
    → length lists ≤ i → ArePullsOf (take i lists) (take i versions) ps → ArePullsOf lists versions ps
pulls_all lists versions i ps same end so = grind (arith, take_all)

-- it continues from the copies
pub pulls_go_on : (lists : List (List Rec)) (versions : List ℕ) (copies : List (List Rec)) (ps : List Pulled) → versions ≡ map length copies
    → length lists ≡ length copies → ArePullsOf lists versions ps → GoesOn copies ps
pulls_go_on lists versions copies ps are same so = goes_from versions copies ps are (so.as_many ∙ same) so.goes_on

-- the list of an input
pub list_at : (records : List (List Rec)) (tags : List ℕ) (i : ℕ) → i < length tags
    → get_or (lists_at records tags) i [] ≡ get_or records (get_or tags i 0) []
list_at records tags i within = get_or-map (λ tag. get_or records tag []) tags i 0 [] within

-- ---- refusals

-- a list from which something was pulled is long enough
pulled_long : (lists : List (List Rec)) (versions : List ℕ) (i : ℕ) (ps : List Pulled) → i ≤ length lists
    → ArePullsOf (take i lists) (take i versions) ps → (k : ℕ) → k < i → get_or versions k 0 ≤ length (get_or lists k [])
pulled_long lists versions i [] le are k below = absurd (omega (arith, are.as_many, length-take-le i lists le, below))
pulled_long lists versions i (p ∷ ps) le are k below =
    let many : length (p ∷ ps) ≡ i = are.as_many ∙ length-take-le i lists le in
    let there : k < length (p ∷ ps) = omega (arith, many, below) in
    let upto : (get_or (p ∷ ps) k p).upto ≡ length (get_or lists k []) =
    sym (get_or-map (λ (q : Pulled). q.upto) (p ∷ ps) k p 0 there) ∙ ap (λ l. get_or l k 0) are.ends
    ∙ get_or-map length (take i lists) k [] 0 (omega (arith, below, length-take-le i lists le))
    ∙ ap length (get_or-take i lists k [] below) in
    omega (arith, are.goes_on k p there, get_or-take i versions k 0 below, upto)

-- one list that is too short, where something was pulled from those before it, refuses all
pub list_ahead : (lists : List (List Rec)) (versions : List ℕ) (i : ℕ) (ps : List Pulled) (why : RefreshNo) → i < length lists
    → ArePullsOf (take i lists) (take i versions) ps → IsPullRefusal (get_or lists i []) i (get_or versions i 0) why
    → IsPullAhead lists versions why
list_ahead lists versions i ps (Ahead input version records) within before is =
    let same : i ≡ input = sym is.0 in (
      omega (arith, within, is.0),
      is.1 ∙ ap (λ n. get_or versions n 0) same,
      is.2 ∙ ap (λ n. length (get_or lists n [])) same,
      omega (arith, is.3, is.1),
      λ k below. pulled_long lists versions i ps (omega (arith, within)) before k (omega (arith, below, is.0)),
    )
list_ahead lists versions i ps (CellLimit cells) within before is = absurd is
list_ahead lists versions i ps (CopyLimit records) within before is = absurd is
list_ahead lists versions i ps WantOfMemory within before is = tt

-- and refuses the book
pub ahead_refuses : {D : Type 0} (lists : List (List Rec)) (book : ToldBook D) (why : RefreshNo) → IsPullAhead lists (versions_of book) why
    → IsListsRefusal lists book why
ahead_refuses lists book (Ahead input version records) is = is
ahead_refuses lists book (CellLimit cells) is = absurd is
ahead_refuses lists book (CopyLimit records) is = absurd is
ahead_refuses lists book WantOfMemory is = tt

-- so does a sheet that would be too large
pub sheet_refuses_lists : {D : Type 0} (lists : List (List Rec)) (book : ToldBook D) (mores : List (List Rec)) (why : RefreshNo)
    → mores ≡ uncut (versions_of book) lists → IsBookToldOf (fault_after book.sheet mores) why → IsListsRefusal lists book why
sheet_refuses_lists lists book mores (Ahead input version records) is told = absurd told
sheet_refuses_lists lists book mores (CellLimit cells) is told = ap (fault_after book.sheet) (sym is) ∙ told
sheet_refuses_lists lists book mores (CopyLimit records) is told = ap (fault_after book.sheet) (sym is) ∙ told
sheet_refuses_lists lists book mores WantOfMemory is told = tt
