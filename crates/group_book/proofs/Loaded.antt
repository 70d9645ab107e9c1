-- A book over the device of its group, as it is opened.
use Rattle.std.proofs.Common.{◌≡◌, ℕ, suc, ◌+◌, ◌^◌, ◌<◌, ◌≤◌, All, false, List, [], ◌∷◌, ◌++◌, Contains, Option, Some, lit<, Vec, vec_len, length, map, get_or, take, refl, sym, ap, ◌∙◌, subst, arith, length-take}
use Rattle.std.specs.declared.alloc.Global.{Global}
use Rattle.std.proofs.lemmas.List.{get_or-map, length-map, map-append, take_all}
use Rattle.std.proofs.lemmas.List.Elements.{All-cons, All-head, All-nil, All-tail, All-take}
use Rattle.trend_num.specs.{InRange, Rec, CalcValue}
use Rattle.calc_refresh.specs.{lists_of, IsCopy, grid_of, GroupDefParts}
use Rattle.archive_file.specs.{ScanNo}
use Rattle.archive_file.specs.declared.failure.ScanNo.TheVariants as scan
use Rattle.disk_model.specs.{Shows, IsShut, IsSettled, Now, LeftSince, Trace, seen}
use Rattle.disk_model.proofs.Images.{present}
use Rattle.disk_model.proofs.Moments.{only_since}
use Rattle.sheet_law.specs.{IsScratch}
use Rattle.group_layout.specs.{SavedGroup, ByBlocks, IsGroupDamage, StandsFor, IsReadOf}
use Rattle.group_book.specs.{GroupOpening, IsBookSafe, AreRowsOver, AreValuesInRange, IsBookLegal, IsRight, IsAhead, IsBookCause, scan_refusal, cut, HoldsBlocks, IsKept, IsReady, Saved}
use Rattle.group_book.proofs.Cuts.{cut-all, part_more}
use Rattle.group_book.proofs.Saving.{holds_now}
use Rattle.group_book.proofs.Ranges.{blocks_range}

-- ---- the first records of each input

-- where no version is above the records they are as long as it says
pub cut_lengths : (vs : List ℕ) (rss : List (List Rec)) → length vs ≡ length rss
    → ((k : ℕ) (rs : List Rec) → k < length vs → get_or vs k 0 ≤ length (get_or rss k rs)) → map length (cut vs rss) ≡ vs
cut_lengths [] rss same low = refl
cut_lengths (v ∷ vs) [] same low = absurd (omega (arith, same))
cut_lengths (v ∷ vs) (rs ∷ rss) same low =
    ap (λ n. n ∷ map length (cut vs rss)) (omega (arith, length-take v rs, low 0 [] (omega arith)))
    ∙ ap (λ l. v ∷ l) (cut_lengths vs rss (omega (arith, same)) (λ k r within. low (suc k) r (omega (arith, within))))

-- a list of records among others
records_at : (recovered : List (Vec Rec Global)) (i : ℕ) (v : Vec Rec Global) (rs : List Rec) → i < length recovered → v ≡ get_or recovered i v
    → get_or (lists_of recovered) i rs ≡ v.items
records_at recovered i v rs low is = get_or-map (λ x. x.items) recovered i v rs low ∙ ap (λ x. x.items) (sym is)

module _ (versions : List ℕ) (recovered : List (Vec Rec Global)) (same : length recovered ≡ length versions) (i : ℕ) (low : i < length versions)
    (v : Vec Rec Global) (is : v ≡ get_or recovered i v) where
  here : (rs : List Rec) → get_or (lists_of recovered) i rs ≡ v.items
  here rs = records_at recovered i v rs (omega (arith, same, low)) is

  -- they are cut for one input more
  pub first_more : (copies : List (Vec Rec Global)) (one : Vec Rec Global) (copies' : List (Vec Rec Global))
      → lists_of copies ≡ cut (take i versions) (take i (lists_of recovered)) → one.items ≡ take (get_or versions i 0) v.items
      → copies' ≡ copies ++ one ∷ []
      → lists_of copies' ≡ cut (take (i + 1) versions) (take (i + 1) (lists_of recovered))
  first_more copies one copies' so_far taken pushed =
      let rss = lists_of recovered in
      ap lists_of pushed ∙ map-append (λ x. x.items) copies (one ∷ [])
      ∙ ap (λ l. l ++ one.items ∷ []) so_far
      ∙ ap (λ l. cut (take i versions) (take i rss) ++ l ∷ []) (taken ∙ ap (take (get_or versions i 0)) (sym (here [])))
      ∙ sym (part_more cut take refl (λ v vs rs rss. refl) versions rss i (length-map recovered (λ x. x.items) ∙ same) low)

  -- the version is not above them
  pub low_more : ((k : ℕ) (rs : List Rec) → k < i → get_or versions k 0 ≤ length (get_or (lists_of recovered) k rs))
      → get_or versions i 0 ≤ length v.items
      → (k : ℕ) (rs : List Rec) → k < i + 1 → get_or versions k 0 ≤ length (get_or (lists_of recovered) k rs)
  low_more before le k rs within = grind (arith, here)

  -- it is the first that is above them
  pub first_ahead : (version records : ℕ) → version ≡ get_or versions i 0 → records ≡ length v.items → records < version
      → ((k : ℕ) (rs : List Rec) → k < i → get_or versions k 0 ≤ length (get_or (lists_of recovered) k rs))
      → IsAhead versions (lists_of recovered) i version records
  first_ahead version records version_is records_are above before = grind (arith, here)

-- all inputs
pub first_all : (versions : List ℕ) (recovered : List (Vec Rec Global)) (copies : List (List Rec)) (i : ℕ)
    → length recovered ≡ length versions → length versions ≤ i → copies ≡ cut (take i versions) (take i (lists_of recovered))
    → copies ≡ cut versions (lists_of recovered)
first_all versions recovered copies i same end are = grind (arith, take_all, length-map)

pub first_lengths : (versions : List ℕ) (recovered : List (Vec Rec Global)) (i : ℕ) → length recovered ≡ length versions → length versions ≤ i
    → ((k : ℕ) (rs : List Rec) → k < i → get_or versions k 0 ≤ length (get_or (lists_of recovered) k rs))
    → map length (cut versions (lists_of recovered)) ≡ versions
first_lengths versions recovered i same end low = grind (arith, cut_lengths, length-map)

-- ---- what a sheet is made of

-- the first of records that can be copied can be
pub cut_copied : (vs : List ℕ) (rss : List (List Rec)) → All IsCopy rss → All IsCopy (cut vs rss)
cut_copied [] rss all = All-nil IsCopy
cut_copied (v ∷ vs) [] all = All-nil IsCopy
cut_copied (v ∷ vs) (rs ∷ rss) all =
    let here = All-head IsCopy rs rss all in
    All-cons IsCopy (take v rs) (cut vs rss)
    (record { short = omega (arith, length-take v rs, here.short); range = All-take (λ r. InRange r.point) v rs here.range })
    (cut_copied vs rss (All-tail IsCopy rs rss all))

module _ (versions : List ℕ) (recovered : List (List Rec)) (copies : List (Vec Rec Global))
    (are : lists_of copies ≡ cut versions recovered) (long : map length (cut versions recovered) ≡ versions) where
  pub copies_many : length copies ≡ length versions
  copies_many = sym (length-map copies (λ x. x.items)) ∙ ap length are ∙ sym (length-map (cut versions recovered) length) ∙ ap length long

  pub copies_copied : All IsCopy recovered → All IsCopy (lists_of copies)
  copies_copied all = subst (All IsCopy) (sym are) (cut_copied versions recovered all)

-- rows that are as long as there are windows are short
pub rows_short : (rows : List (Vec CalcValue Global)) (saved : List (List CalcValue)) (windows : ℕ) → windows < 2 ^ 32 → lists_of rows ≡ saved
    → All (λ row. length row ≡ windows) saved → All (λ row. vec_len row < 2 ^ 32) rows
rows_short rows saved windows few are all = λ k d low.
    let here = all k d.items (omega (arith, ap length are, length-map rows (λ x. x.items), low)) in
    let row = ap (λ l. get_or l k d.items) (sym are) ∙ get_or-map (λ x. x.items) rows k d d.items low in
    omega (arith, here, ap length row, few, (get_or rows k d).ok.0)

-- ---- the book

module _ (text : List ℕ) (def : GroupDefParts) (o : GroupOpening) (copies : List (List Rec)) (rows : List (List CalcValue)) (vs : List ℕ)
    (saved : Saved) (copied : map length copies ≡ vs) (opened : o.versions.items ≡ vs) (opened_rows : lists_of o.rows.items ≡ rows)
    (saved_versions : saved.versions ≡ vs) (saved_rows : saved.rows ≡ rows) (over : AreRowsOver def.calcs (grid_of def.start def.period) o copies rows) where
  -- the copies are as long as the versions say
  cut_all : (us : List ℕ) → us ≡ vs → cut us copies ≡ copies
  cut_all us are = ap (λ x. cut x copies) (are ∙ sym copied) ∙ cut-all copies

  -- where the opening is right the rows are from scratch
  right_rows : IsRight def.calcs (grid_of def.start def.period) o copies → IsScratch def.calcs (grid_of def.start def.period) copies rows
  right_rows right = grind (arith, cut_all)

  right_saved : IsRight def.calcs (grid_of def.start def.period) o copies
      → IsScratch def.calcs (grid_of def.start def.period) (cut saved.versions copies) saved.rows
  right_saved right = grind (arith, cut_all, right_rows)

  over_saved : AreRowsOver def.calcs (grid_of def.start def.period) o (cut saved.versions copies) saved.rows
  over_saved =
      subst (λ rss. AreRowsOver def.calcs (grid_of def.start def.period) o rss saved.rows) (sym (cut_all saved.versions saved_versions))
      (subst (AreRowsOver def.calcs (grid_of def.start def.period) o copies) (sym saved_rows) over)

  pub opened_legal : IsBookLegal def.calcs (grid_of def.start def.period) o [] vs copies rows
  opened_legal = record { turns = tt; last = sym opened; copied = sym copied; scratch = right_rows }

  module _ (trace : Trace) (ready : IsReady saved.end trace) (holds : HoldsBlocks text def saved (seen trace))
      (ticks faults : ℕ) (moment : o.moment ≡ ticks) where
    pub opened_kept : length vs ≡ def.inputs → faults ≡ o.faults → IsKept text def o [] copies saved false (Some trace) ticks faults
    opened_kept inputs same = record {
      shut = λ usable. ready;
      holds = λ usable. holds;
      range = subst AreValuesInRange (saved_rows ∙ sym opened_rows) (blocks_range text def saved (seen trace) holds);
      rows_are = over_saved;
      scratch = right_saved;
      versions = saved_versions ∙ sym opened;
      inputs = ap length saved_versions ∙ inputs;
      number = tt;
      past = omega (arith, moment);
      opened_before = omega (arith, moment);
      faultless = λ usable. same;
      cause = λ failed. absurd (cc (failed));
    }

    pub opened_safe : length def.calcs.inputs ≡ def.inputs → length trace.calls ≡ ticks
        → IsBookSafe text def.calcs (grid_of def.start def.period) o copies [] (LeftSince trace)
    opened_safe named told = record {
      images = λ t c since left.
          let has = holds_now text def saved trace ready holds c (only_since trace ticks t c told (omega (arith, since, moment)) left) in
          record {
            versions = saved.versions;
            rows = saved.rows;
            among = subst (λ v. Contains (v ∷ []) saved.versions) (saved_versions ∙ sym opened) (0, lit< tt, refl);
            stands = subst (λ n. StandsFor text n (length def.calcs.calcs) c saved.versions saved.rows) (sym named)
                (ByBlocks has.blocks has.has (sym has.versions));
            rows_are = over_saved;
            scratch = right_saved;
          };
    }

-- a device on which this was read
pub loaded_holds : (text : List ℕ) (def : GroupDefParts) (g : SavedGroup) (o : Trace)
    → Shows o (λ c. IsReadOf text def.inputs (length def.calcs.calcs) c g)
    → HoldsBlocks text def (record { number = g.number; versions = g.versions.items; rows = lists_of g.rows.items; end = g.end }) (seen o)
loaded_holds text def g t read = grind arith

pub loaded_ready : (end : ℕ) (o : Trace) → IsSettled o → Now o (IsShut end) → IsReady end o
loaded_ready end t settled ready = record { settled = settled; shut = ready.each (seen t) (present t) }

-- ---- why a device is not opened

-- a device could not be read
pub scan_cause : (text : List ℕ) (def : GroupDefParts) (recovered : List (List Rec)) (calcs : ℕ) → calcs ≡ length def.calcs.calcs
    → (o : Trace) (why : ScanNo)
    → ((a : ℕ) (byte : Option ℕ) → why ≡ scan.Damaged a byte → Shows o (λ c. IsGroupDamage text def.inputs calcs c a byte))
    → IsBookCause text def recovered o (scan_refusal why)
scan_cause text def recovered calcs same o scan.DeviceFault damaged = tt
scan_cause text def recovered calcs same o (scan.Damaged a byte) damaged =
    subst (λ n. Shows o (λ c. IsGroupDamage text def.inputs n c a byte)) same (damaged a byte refl)
scan_cause text def recovered calcs same o scan.WantOfMemory damaged = tt
