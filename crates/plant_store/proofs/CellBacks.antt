-- Cells that are given back one after the other.
use Rattle.std.proofs.Common.{◌≡◌, ◌≢◌, ℕ, ◌+◌, ◌^◌, ◌<◌, ◌≤◌, true, List, [], ◌∷◌, ◌++◌, Option, Some, length, take, drop, get_or, refl, sym, ◌∙◌, ap, subst, arith}
use Rattle.std.specs.Prelude.{All, IfSome}
use Rattle.std.proofs.lemmas.List.{get_or_default, get_or-take, length-take-le, length_push, take_all, take_more}
use Rattle.std.proofs.lemmas.List.Elements.{All-nil, All-push, All-weaker}
use Rattle.std.proofs.lemmas.Slice.Zip.{all_zipped_more}
use Rattle.disk_model.specs.{sum_of_counts, Trace, Device}
use Rattle.tag_cell.specs.{TagHistory, TagOpening, BeganWell, IsOpenedWell, ToldCell, device_name}
use Rattle.branded_disk.specs.{Past, past_of}
use Rattle.plant_store.proofs.TagTurns.{zip_weaker}
use Rattle.plant_store.specs.CellClosings.{AreGivenBack, AreHistoriesAt, AreHistoriesOf, CountsCells, HasRisen, IsBackAt, IsHistoryAt, IsHistoryOfCell}
use Rattle.trend_num.specs.{TagDef}
use Rattle.plant_store.specs.{AreApart}
use Rattle.plant_store.proofs.Risen.{higher_or_end, still_risen}
use Rattle.plant_store.proofs.CellLists.{all_before, all_last, next_of, zip_joined}

-- before the first
pub none_back : {D : Type 0} (device : D → Device) (traces : List ℕ → Trace) → AreGivenBack device [] [] traces traces
none_back device traces = record { given = tt; others = λ n none. refl }

-- one more device is given back
pub one_back : {D : Type 0} (device : D → Device) (names : List (List ℕ)) (cells : List (ToldCell D)) (name : List ℕ)
    (c : ToldCell D) (old now new : List ℕ → Trace) → AreGivenBack device names cells old now → All (λ m. m ≢ name) names
    → ((n : List ℕ) → n ≢ name → new n ≡ now n) → IsBackAt device new name c
    → AreGivenBack device (names ++ name ∷ []) (cells ++ c ∷ []) old new
one_back {D} device names cells name c old now new back apart others told = record {
  given = all_zipped_more (λ n (d : ToldCell D). IsBackAt device new n d) names cells name c
      (zip_weaker (λ n (d : ToldCell D). IsBackAt device now n d) (λ n (d : ToldCell D). IsBackAt device new n d) names cells
      (λ k n d below was same. others (get_or names k n) (apart k n below) ∙ was same) back.given) told;
  others = λ n none. others n (all_last (λ m. n ≢ m) names name none)
      ∙ back.others n (all_before (λ m. n ≢ m) names name none);
}

-- ---- faults

-- before the first
pub none_counted : {D : Type 0} (device : D → Device) (count : ℕ) → CountsCells device [] count count
none_counted {D} device count = record {
  later = omega arith;
  risen = All-nil (λ (c : ToldCell D). c.journal.failed ≡ true → HasRisen count count);
  faultless = λ none. refl;
}

-- with the faults of one device more
pub one_counted : {D : Type 0} (device : D → Device) (cells : List (ToldCell D)) (c : ToldCell D) (before now after : ℕ) → before < 2 ^ 64
    → CountsCells device cells before now × (now < 2 ^ 64) → after ≡ sum_of_counts now (device c.journal.dev).faults
    → (c.journal.failed ≡ true → 1 ≤ (device c.journal.dev).faults)
    → CountsCells device (cells ++ c ∷ []) before after × (after < 2 ^ 64)
one_counted {D} device cells c before now after small counts sum faulty =
    let within = counts.1 in
    let later = counts.0.later in (
      record {
        later = omega (arith, sum, within, later);
        risen = All-push (λ (d : ToldCell D). d.journal.failed ≡ true → HasRisen before after) cells c
            (All-weaker (λ (d : ToldCell D). d.journal.failed ≡ true → HasRisen before now)
            (λ (d : ToldCell D). d.journal.failed ≡ true → HasRisen before after)
            (λ d risen failed. still_risen before now after small (omega (arith, sum, within)) (risen failed)) cells counts.0.risen)
            (λ failed. higher_or_end before now (device c.journal.dev).faults after sum (omega (arith, later, faulty failed)));
        faultless = λ none.
            let same = counts.0.faultless (all_before (λ (d : ToldCell D). (device d.journal.dev).faults ≡ 0) cells c none) in
            let no = all_last (λ (d : ToldCell D). (device d.journal.dev).faults ≡ 0) cells c none in
            omega (arith, sum, same, no, small);
      },
      omega (arith, sum),
    )

-- ---- the whole

-- the first cells are closed, as many as there are histories, and the others are left
pub record AreClosed {D : Type 0} (device : D → Device) (names : List (List ℕ))
    (cells rest : List (ToldCell D)) (histories : List TagHistory) (old now : List ℕ → Trace) (before count : ℕ) : Type 0 where
  pub left : rest ≡ drop (length histories) cells
  pub told : AreHistoriesOf device (take (length histories) cells) histories
  pub back : AreGivenBack device (take (length histories) names) (take (length histories) cells) old now
  pub counts : before < 2 ^ 64 → CountsCells device (take (length histories) cells) before count × (count < 2 ^ 64)

-- before the first
pub none_closed : {D : Type 0} (device : D → Device) (names : List (List ℕ)) (cells : List (ToldCell D))
    (traces : List ℕ → Trace) (count : ℕ) → AreClosed device names cells cells [] traces traces count count
none_closed device names cells traces count = record {
  left = refl;
  told = tt;
  back = none_back device traces;
  counts = λ small. (none_counted device count, small);
}

-- the name at a place is none of those before it
pub apart_before : (names : List (List ℕ)) (i : ℕ) (name : List ℕ) → AreApart names → i < length names
    → name ≡ get_or names i name → All (λ m. m ≢ name) (take i names)
apart_before names i name apart there is k d below =
    let long : length (take i names) ≡ i = length-take-le i names (omega (arith, there)) in
    let before : k < i = omega (arith, below, long) in
    λ (same : get_or (take i names) k d ≡ name). apart k i d before there
    (sym (get_or-take i names k d before) ∙ (same ∙ (is ∙ get_or_default names i name d there)))

-- one more is closed
pub one_closed : {D : Type 0} (device : D → Device) (names : List (List ℕ))
    (cells rest more : List (ToldCell D)) (histories : List TagHistory) (old now new : List ℕ → Trace) (before count after : ℕ)
    (c : ToldCell D) (h : TagHistory) (name : List ℕ)
    → AreClosed device names cells rest histories old now before count → rest ≡ c ∷ more
    → length names ≡ length cells → AreApart names → name ≡ get_or names (length histories) name
    → IsHistoryOfCell (device c.journal.dev) c h
    → IsBackAt device new name c → ((n : List ℕ) → n ≢ name → new n ≡ now n)
    → after ≡ sum_of_counts count (device c.journal.dev).faults → (c.journal.failed ≡ true → 1 ≤ (device c.journal.dev).faults)
    → AreClosed device names cells more (histories ++ h ∷ []) old new before after
one_closed {D} device names cells rest more histories old now new before count after c h name closed is long apart named
    history says others sum faulty =
    let i = length histories in
    let next = next_of cells i c more (sym closed.left ∙ is) in
    let there : i < length names = omega (arith, next.there, long) in
    let place : i + 1 ≡ length (histories ++ h ∷ []) = sym (length_push histories h) in
    let names_more : take i names ++ name ∷ [] ≡ take (i + 1) names =
    ap (λ (n : List ℕ). take i names ++ n ∷ []) named ∙ sym (take_more names i name there) in
    record {
      left = next.rest_is ∙ ap (λ n. drop n cells) place;
      told = subst (λ n. AreHistoriesOf device (take n cells) (histories ++ h ∷ [])) place
          (subst (λ l. AreHistoriesOf device l (histories ++ h ∷ [])) (sym next.front)
          (all_zipped_more (λ (e : ToldCell D) (k : TagHistory). IsHistoryOfCell (device e.journal.dev) e k) (take i cells) histories c h closed.told history));
      back = subst (λ n. AreGivenBack device (take n names) (take n cells) old new) place
          (subst (λ l. AreGivenBack device l (take (i + 1) cells) old new) names_more
          (subst (λ l. AreGivenBack device (take i names ++ name ∷ []) l old new) (sym next.front)
          (one_back device (take i names) (take i cells) name c old now new closed.back
          (apart_before names i name apart there named) others says)));
      counts = λ small. subst (λ n. CountsCells device (take n cells) before after × (after < 2 ^ 64)) place
          (subst (λ l. CountsCells device l before after × (after < 2 ^ 64)) (sym next.front)
          (one_counted device (take i cells) c before count after small (closed.counts small) sum faulty));
    }

-- as the cells begin to be closed
pub begun : {D : Type 0} (device : D → Device) (names : List (List ℕ)) (cells rest : List (ToldCell D))
    (histories : List TagHistory) (traces : List ℕ → Trace) (count : ℕ) → rest ≡ cells → histories ≡ []
    → AreClosed device names cells rest histories traces traces count count
begun {D} device names cells rest histories traces count is none =
    subst (λ (l : List TagHistory). AreClosed device names cells rest l traces traces count count) (sym none)
    (subst (λ (l : List (ToldCell D)). AreClosed device names cells l [] traces traces count count) (sym is)
    (none_closed device names cells traces count))

-- what was opened of a device that is given back began well from what the store had when the command began
begun_at : (past : Past) (dev : Device) (def : TagDef) (o : TagOpening) (h : TagHistory) (name : List ℕ) (now : Trace)
    → h.def ≡ def → h.opening ≡ o → name ≡ device_name def.name → dev.handed.name ≡ Some (device_name def.name)
    → dev.handed.trace ≡ past_of past dev.handed.name → now ≡ dev.trace → BeganWell def o dev.handed dev.trace
    → IfSome (past name) (λ t. IsOpenedWell h.def h.opening t now)
begun_at past dev def o h name now def_is opening_is own named started says well =
    let start : dev.handed.trace ≡ past name = started ∙ ap (past_of past) named ∙ ap past (sym own) in
    rw (def_is, opening_is, says)
    (subst (λ (t : Option Trace). IfSome t (λ x. IsOpenedWell def o x dev.trace)) start well)

-- all devices are given back, so each history is that of the device under its name
pub all_closed : {D : Type 0} (device : D → Device) (names : List (List ℕ)) (cells rest : List (ToldCell D))
    (histories : List TagHistory) (old now : List ℕ → Trace) (before count : ℕ)
    → AreClosed device names cells rest histories old now before count → length histories ≡ length cells
    → length names ≡ length cells → (past : Past) → ((d : D) → (device d).handed.trace ≡ past_of past (device d).handed.name)
    → AreGivenBack device names cells old now × AreHistoriesAt past now names histories
all_closed {D} device names cells rest histories old now before count closed all long past started =
    let back = subst (λ l. AreGivenBack device l cells old now) (take_all (length histories) names (omega (arith, all, long)))
    (subst (λ l. AreGivenBack device (take (length histories) names) l old now)
    (take_all (length histories) cells (omega (arith, all))) closed.back) in
    let told = subst (λ l. AreHistoriesOf device l histories) (take_all (length histories) cells (omega (arith, all)))
    closed.told in (
      back,
      zip_joined (λ name (c : ToldCell D). IsBackAt device now name c) (λ (c : ToldCell D) (h : TagHistory). IsHistoryOfCell
          (device c.journal.dev) c h)
          (λ name (h : TagHistory). IsHistoryAt name (past name) (now name) h)
          (λ name c h says is. record {
            dev = device c.journal.dev;
            is = is.history;
            back = λ same. says (same ∙ ap (λ (d : TagDef). device_name d.name) is.def_is);
            begun = λ same.
                let own = same ∙ ap (λ (d : TagDef). device_name d.name) is.def_is in
                begun_at past (device c.journal.dev) c.def c.opening h name (now name) is.def_is is.opening_is own is.named
                (started c.journal.dev) (says own) is.begun;
          }) names cells histories back.given told,
    )
