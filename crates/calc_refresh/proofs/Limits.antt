-- Complete windows and records, input by input.
use Rattle.std.proofs.Common.{◌≡◌, ℕ, ◌+◌, ◌<◌, ◌≤◌, List, [], ◌∷◌, ◌++◌, length, get_or, map, take, fold, ap₂, refl, sym, ap, ◌∙◌, arith}
use Rattle.std.specs.Prelude.{min, Vec}
use Rattle.std.specs.declared.alloc.Global.{Global}
use Rattle.std.proofs.lemmas.List.{get_or-map, length-map, length-take-le, take_more}
use Rattle.trend_num.specs.{Rec}
use Rattle.trend_model.specs.{listed, placed}
use Rattle.trend_model.proofs.Placing.{length-placed}
use Rattle.sheet_law.specs.{Grid, kept_end, least, windows_before, longer}
use Rattle.calc_refresh.specs.{lists_of}
use Rattle.calc_refresh.proofs.Inputs.{lists_at, longer_at}

-- the least number with one more
pub least-push : (ns : List ℕ) (n : ℕ) → 0 < length ns → least (ns ++ n ∷ []) ≡ min (least ns) n
least-push [] n some = absurd (omega arith)
least-push (m ∷ []) n some = refl
least-push (m ∷ k ∷ ns) n some = (let rest = least-push (k ∷ ns) n (omega arith) in omega arith)

-- how many windows are complete for each input
abbrev pub windows_by : Grid → List (List Rec) → List ℕ
windows_by w rss = map (λ rs. windows_before w (kept_end rs)) rss

pub least_first : (w : Grid) (rss : List (List Rec)) (n : ℕ) → 0 < length rss
    → n ≡ windows_before w (kept_end (get_or rss 0 [])) → n ≡ least (take 1 (windows_by w rss))
least_first w [] n some is = absurd (omega arith)
least_first w (rs ∷ rss) n some is = is

pub least_more : (w : Grid) (rss : List (List Rec)) (i m n : ℕ) → 0 < i → i < length rss
    → m ≡ least (take i (windows_by w rss)) → n ≡ windows_before w (kept_end (get_or rss i []))
    → min m n ≡ least (take (i + 1) (windows_by w rss))
least_more w rss i m n some within least_is next_is =
    let many = length-map rss (λ rs. windows_before w (kept_end rs)) in
    let inside : i < length (windows_by w rss) = omega arith in
    let at = get_or-map (λ rs. windows_before w (kept_end rs)) rss i [] 0 within in
    ap₂ min least_is (next_is ∙ sym at)
    ∙ (sym (grind (arith, least-push, length-take-le))
    ∙ ap least (sym (take_more (windows_by w rss) i 0 inside)))

-- the windows of an input by the end of its Kept records with more of them
pub window_at : (w : Grid) (ends : List ℕ) (rss : List (List Rec)) (ds : List (Vec Rec Global)) (i end : ℕ)
    (items : List Rec) (d : Vec Rec Global) → i < length ds → length ds ≡ length ends → ends ≡ map kept_end rss
    → d ≡ get_or ds i d → items ≡ d.items
    → ((rs : List Rec) → get_or ends i 0 ≡ kept_end rs → end ≡ kept_end (rs ++ items))
    → windows_before w end ≡ windows_before w (kept_end (get_or (longer rss (lists_of ds)) i []))
window_at w ends rss ds i end items d within same ends_are is items_are gives =
    grind (arith, length-map, get_or-map, lists_at, longer_at)

-- a content has no more points than there are records
pub length_listed : (rs : List Rec) → length (listed rs) ≤ length rs
length_listed rs = (let all = go [] rs in omega arith)
  where
    go : (l rs : List Rec) → length (fold (λ l r. placed r l) l rs) ≤ length l + length rs
    go l [] = omega arith
    go l (r ∷ rs) = (let rest = go (placed r l) rs in let one = (length-placed r l).1 in omega arith)
