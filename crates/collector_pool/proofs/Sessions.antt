-- The notes of all workers, once they have ended.
use Rattle.std.proofs.Common.{◌≡◌, ℕ, ◌<◌, List, length, drop, map, get_or, sym, ◌∙◌, ap, subst, arith}
use Rattle.std.proofs.lemmas.List.Elements.{All-drop, All-get_or}
use Rattle.std.specs.Prelude.{All, Vec}
use Rattle.std.specs.declared.alloc.Global.{Global}
use Rattle.atomic_table.specs.Seated.{TableId}
use Rattle.value_rows.specs.{Query, RawRow}
use Rattle.snapshot_table.specs.{Looking, LooksAt}
use Rattle.plant_status.proofs.Elements.{element, mapped_at, mapped_length}
use Rattle.collector_pool.specs.{TurnNo, WorkerNote, Role, SessionWorker, Refresh, AreNotesOf, IsCollectorNote, IsNoteAt, IsReaderNote, IsRefresherNote, halts, AreDone, AreSeated, IsNoteAs, IsRoleOf, worker_of, IsQueryOf, IsRowOf, IsWorkOf}
use Rattle.collector_pool.specs.{worker_count}
use Rattle.collector_pool.specs.declared.session_worker.Role.TheVariants.{Collector, Reader, Refresher}
use Rattle.collector_pool.specs.declared.work.Work.{Work}
use Rattle.collector_pool.proofs.Places.{same_item}

module _ (refuses : ℕ → TurnNo → Type 0) (w : Work) where
  -- the note of a worker in its role is that of its place
  note_at : (board : List TableId) (role : Role) (place : ℕ) (n : WorkerNote) → n.worker ≡ place → worker_of w role ≡ place
      → IsRoleOf w board role → IsNoteAs refuses w role n → IsNoteAt refuses w place n
  note_at board (Collector c) place n number here role note = record {
    numbered = number;
    collector = λ rows few.
        subst (λ (i : ℕ). IsCollectorNote (drop w.earlier (get_or w.collectors.items i rows).items) n) here (note rows);
    reader = λ r queries few is. absurd (omega arith);
    refresher = λ r refresh few is. absurd (omega arith);
  }
  note_at board (Reader r looker) place n number here role note = record {
    numbered = number;
    collector = λ rows few. absurd (omega arith);
    reader = λ i queries few is.
        let same : r ≡ i = omega arith in
        subst (λ (k : ℕ). IsReaderNote refuses (get_or w.readers.items k queries).items n) same (note queries);
    refresher = λ i refresh few is. let within = role.0 in absurd (omega arith);
  }
  note_at board (Refresher r) place n number here role note = record {
    numbered = number;
    collector = λ rows few. absurd (omega arith);
    reader = λ i queries few is. absurd (omega arith);
    refresher = λ i refresh few is.
        let same : r ≡ i = omega arith in
        subst (λ (k : ℕ). IsRefresherNote refuses (get_or w.refreshers.items k refresh) n) same (note refresh);
  }

  -- the notes of seats whose workers were seated and have ended
  pub notes_of : {O : Type 0} (stops : O → ℕ) (board : List TableId) (lookers : List Looking) (old new : List (SessionWorker O))
      (notes : List WorkerNote) → AreSeated stops w lookers old → All (LooksAt board) lookers → length old ≡ worker_count w
      → length new ≡ length old → AreDone refuses stops w old new → notes ≡ map (λ s. s.note) new
      → AreNotesOf refuses w notes
  notes_of stops board lookers old new notes seated looks count same done are = record {
    count = ap length are ∙ (mapped_length (λ s. s.note) new ∙ (same ∙ count));
    each = λ place n few.
        let few' : place < length new = omega (arith, ap length are, mapped_length (λ (s : SessionWorker _). s.note) new) in
        let few'' : place < length old = omega arith in
        let d = element new place few' in
        let ended = done.each place d few'' in
        let ready = seated.ready board looks place d few'' in
        let number = seated.numbered place d few'' in
        let is : get_or notes place n ≡ (get_or new place d).note =
        ap (λ l. get_or l place n) are ∙ mapped_at (λ s. s.note) new place d n few' in
        rw is
        (note_at board (get_or old place d).role place (get_or new place d).note (ended.worker ∙ number)
        (sym ready.worker ∙ number) ready.role ended.note);
  }

-- the pass of each of these seats has stopped its worker as often as the note says
pub all_stopped : {O : Type 0} (refuses : ℕ → TurnNo → Type 0) (w : Work) (stops : O → ℕ)
    (old new : List (SessionWorker O)) → length new ≡ length old → AreDone refuses stops w old new
    → All (λ s. stops s.pass ≡ halts s.note.ending) new
all_stopped refuses w stops old new same done = λ k d few. (done.each k d (omega arith)).stopped

-- the note of a collector, a reader or a refresher is that of its role
pub as_collector : (w : Work) (collector : ℕ) (rows : List RawRow) (n : WorkerNote)
    → ((d : Vec RawRow Global) → rows ≡ drop w.earlier (get_or w.collectors.items collector d).items) → IsCollectorNote rows n
    → (d : Vec RawRow Global) → IsCollectorNote (drop w.earlier (get_or w.collectors.items collector d).items) n
as_collector w collector rows n is note d = subst (λ (r : List RawRow). IsCollectorNote r n) (is d) note

-- the rows that are a collector's work are of the plant's tags, and so are a reader's queries and a refresher's turns
pub rows_known : (tags groups : ℕ) (w : Work) (collector : ℕ) (rows : List RawRow) → IsWorkOf tags groups w
    → collector < length w.collectors.items
    → ((d : Vec RawRow Global) → rows ≡ drop w.earlier (get_or w.collectors.items collector d).items) → All (IsRowOf tags) rows
rows_known tags groups w collector rows work few is =
    let d = element w.collectors.items collector few in
    subst (All (IsRowOf tags)) (sym (is d)) (All-drop (IsRowOf tags) w.earlier (get_or w.collectors.items collector d).items
    (All-get_or (λ (r : Vec RawRow Global). All (IsRowOf tags) r.items) w.collectors.items collector d few work.rows))

pub queries_known : (tags groups : ℕ) (w : Work) (reader : ℕ) (queries : Vec Query Global) → IsWorkOf tags groups w
    → reader < length w.readers.items → queries ≡ get_or w.readers.items reader queries → All (IsQueryOf tags groups) queries.items
queries_known tags groups w reader queries work few is = grind arith

pub turns_known : (tags groups : ℕ) (w : Work) (refresher : ℕ) (turns : Refresh) → IsWorkOf tags groups w
    → refresher < length w.refreshers.items → turns ≡ get_or w.refreshers.items refresher turns → turns.group < groups
turns_known tags groups w refresher turns work few is = grind arith

pub as_reader : (refuses : ℕ → TurnNo → Type 0) (w : Work) (reader : ℕ) (queries : Vec Query Global) (n : WorkerNote)
    → reader < length w.readers.items → queries ≡ get_or w.readers.items reader queries → IsReaderNote refuses queries.items n
    → (d : Vec Query Global) → IsReaderNote refuses (get_or w.readers.items reader d).items n
as_reader refuses w reader queries n few is note d = grind (arith, same_item)

pub as_refresher : (refuses : ℕ → TurnNo → Type 0) (w : Work) (refresher : ℕ) (d : Refresh) (n : WorkerNote)
    → refresher < length w.refreshers.items → IsRefresherNote refuses (get_or w.refreshers.items refresher d) n
    → (e : Refresh) → IsRefresherNote refuses (get_or w.refreshers.items refresher e) n
as_refresher refuses w refresher d n few note e = grind (arith, same_item)
