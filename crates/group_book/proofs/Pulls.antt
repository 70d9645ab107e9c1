-- What was pulled of each input continues from its copies.
use Rattle.std.proofs.Common.{◌≡◌, ℕ, suc, Bool, Option, List, [], ◌∷◌, ◌++◌, length, map, Vec, refl, sym, ap, ◌∙◌, subst, arith, length-append}
use Rattle.trend_num.specs.{Rec}
use Rattle.tag_cell.specs.{Pulled}
use Rattle.sheet_law.specs.{longer, Grid, IsScratch}
use Rattle.std.specs.declared.alloc.Global.{Global}
use Rattle.calc_refresh.specs.{IsRefreshed, GroupDefParts, SheetState, grid_of}
use Rattle.calc_check.specs.Group.{Group}
use Rattle.disk_model.specs.{Trace}
use Rattle.group_book.specs.{GroupOpening, IsBookSafe, IsBookLegal, Turn, GoesOn, IsDefined, IsKept, IsPublished, Saved, ToldBook, pulled_records}
use Rattle.group_book.proofs.LegalTurns.{kept_refreshed, legal_refreshed, safe_refreshed}
use Rattle.group_book.specs.declared.turn.Turn.TheVariants.{Refresh}

-- after the first input
tail_goes : (rs : List Rec) (copies : List (List Rec)) (p : Pulled) (ps : List Pulled) → GoesOn (rs ∷ copies) (p ∷ ps)
    → GoesOn copies ps
tail_goes rs copies p ps goes = record { upto = λ i d none low. goes.upto (suc i) d none (omega arith) }

-- the pulls end where the copies do
pub uptos_are : (copies : List (List Rec)) (ps : List Pulled) → GoesOn copies ps → length ps ≡ length copies
    → map (λ p. p.upto) ps ≡ map length (longer copies (pulled_records ps))
uptos_are [] [] goes same = refl
uptos_are [] (p ∷ ps) goes same = absurd (omega arith)
uptos_are (rs ∷ copies) [] goes same = absurd (omega arith)
uptos_are (rs ∷ copies) (p ∷ ps) goes same =
    let first : p.upto ≡ length (rs ++ p.recs.items)
    = goes.upto 0 p rs (omega arith) ∙ sym (length-append rs p.recs.items) in
    let rest = uptos_are copies ps (tail_goes rs copies p ps goes) (omega arith) in
    λ i. first i ∷ rest i

-- ---- a book that was refreshed

-- with this tape and this sheet
pub published_by : {D : Type 0} (mores : List (List Rec)) (old now : ToldBook D) (sheet : SheetState) (tape : List Turn) (entry : Vec ℕ Global)
    → old ≡ now → tape ≡ old.tape ++ Refresh entry ∷ [] → entry.items ≡ map length sheet.copies
    → IsRefreshed old.sheet sheet mores → IsPublished mores now (record old { tape = tape; sheet = sheet })
published_by mores old now sheet tape entry same told versions refreshed =
    subst (λ (t : ToldBook _). IsPublished mores t (record old { tape = tape; sheet = sheet })) same (record {
      versions = entry;
      versions_are = versions;
      refreshed = refreshed;
      changed = ap (λ (l : List Turn). record old { tape = l; sheet = sheet }) told;
    })

-- the copies that a refresh leaves have the versions where the pulls ended
pub versions_reached : (s t : SheetState) (ps : List Pulled) (entry : List ℕ) → GoesOn s.copies ps → length ps ≡ length s.copies
    → IsRefreshed s t (pulled_records ps) → entry ≡ map (λ p. p.upto) ps → entry ≡ map length t.copies
versions_reached s t ps entry goes same refreshed are =
    are ∙ uptos_are s.copies ps goes same ∙ ap (map length) (sym refreshed.copies)

-- what its type keeps
pub book_refreshed : (text : List ℕ) (def : GroupDefParts) (tags : List ℕ) (o : GroupOpening) (tape tape' : List Turn) (versions versions' : List ℕ)
    (entry : Vec ℕ Global) (s t : SheetState) (mores : List (List Rec)) (saved : Saved) (failed : Bool) (trace : Option Trace)
    (ticks faults : ℕ) (left : ℕ → List ℕ → Type 0)
    → IsDefined def tags s × IsBookLegal def.calcs (grid_of def.start def.period) o tape versions s.copies s.rows
    × IsKept text def o tape s.copies saved failed trace ticks faults
    × IsBookSafe text def.calcs (grid_of def.start def.period) o s.copies tape left
    → IsRefreshed s t mores → entry.items ≡ map length t.copies → versions' ≡ map length t.copies → tape' ≡ tape ++ Refresh entry ∷ []
    → IsDefined def tags t × IsBookLegal def.calcs (grid_of def.start def.period) o tape' versions' t.copies t.rows
    × IsKept text def o tape' t.copies saved failed trace ticks faults
    × IsBookSafe text def.calcs (grid_of def.start def.period) o t.copies tape' left
book_refreshed text def tags o tape tape' versions versions' entry s t mores saved failed trace ticks faults left was refreshed reached same told = (
  record {
    group = was.0.group;
    grid = was.0.grid;
    same_group = refreshed.group ∙ was.0.same_group;
    same_grid = refreshed.grid ∙ was.0.same_grid;
    copies = ap length refreshed.copies ∙ length-longer s.copies mores ∙ was.0.copies;
    tags_are = was.0.tags_are;
  },
  subst (λ (us : List ℕ). IsBookLegal def.calcs grid o tape' us t.copies t.rows) (reached ∙ sym same)
      (subst (λ (l : List Turn). IsBookLegal def.calcs grid o l entry.items t.copies t.rows) (sym told)
      (subst (λ (rss : List (List Rec)). IsBookLegal def.calcs grid o (tape ++ Refresh entry ∷ []) entry.items rss t.rows) (sym refreshed.copies)
      (legal_refreshed def.calcs grid o tape versions s.copies s.rows was.1 mores t.rows entry reached_here scratch))),
  subst (λ (l : List Turn). IsKept text def o l t.copies saved failed trace ticks faults) (sym told)
      (subst (λ (rss : List (List Rec)). IsKept text def o (tape ++ Refresh entry ∷ []) rss saved failed trace ticks faults) (sym refreshed.copies)
      (kept_refreshed text def o tape versions s.copies s.rows mores entry saved failed trace ticks faults was.1 was.2)),
  subst (λ (l : List Turn). IsBookSafe text def.calcs grid o t.copies l left) (sym told)
      (subst (λ (rss : List (List Rec)). IsBookSafe text def.calcs grid o rss (tape ++ Refresh entry ∷ []) left) (sym refreshed.copies)
      (safe_refreshed def.calcs grid o tape versions s.copies s.rows was.1 mores t.rows entry reached_here scratch text left was.3)),
)
  where
    grid : Grid
    grid = grid_of def.start def.period

    reached_here : entry.items ≡ map length (longer s.copies mores)
    reached_here = reached ∙ ap (map length) refreshed.copies

    length-longer : (rss ms : List (List Rec)) → length (longer rss ms) ≡ length rss
    length-longer [] ms = refl
    length-longer (rs ∷ rss) [] = refl
    length-longer (rs ∷ rss) (m ∷ ms) = ap suc (length-longer rss ms)

    scratch : IsScratch def.calcs (grid_of def.start def.period) s.copies s.rows
        → IsScratch def.calcs (grid_of def.start def.period) (longer s.copies mores) t.rows
    scratch before =
        subst (λ (rss : List (List Rec)). IsScratch def.calcs (grid_of def.start def.period) rss t.rows) refreshed.copies
        (subst (λ (h : Group). IsScratch h (grid_of def.start def.period) t.copies t.rows) (refreshed.group ∙ was.0.same_group)
        (subst (λ (w : Grid). IsScratch t.group w t.copies t.rows) (refreshed.grid ∙ was.0.same_grid)
        (refreshed.scratch
        (subst (λ (h : Group). IsScratch h s.grid s.copies s.rows) (sym was.0.same_group)
        (subst (λ (w : Grid). IsScratch def.calcs w s.copies s.rows) (sym was.0.same_grid) before)))))
