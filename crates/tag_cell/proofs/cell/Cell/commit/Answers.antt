use Rattle.std.proofs.Common.{◌≡◌, ◌∙◌, ℕ, ◌+◌, ◌-◌, ◌<◌, ◌≤◌, false, List, [], ◌∷◌, ◌++◌, length, take, drop, ap, sym, subst, refl, arith, length-drop}
use Rattle.std.proofs.lemmas.List.{append-nil}
use Rattle.std.specs.Prelude.{vec_capacity}
use Rattle.disk_model.specs.{LeftSince, FitsName, moment}
use Rattle.tag_cell.specs.{device_name, Entry, taken, last_records, IsSafe, count_written, IsTapeReplayed, IsCommitted, IsKept, ToldCell, Waits, takes_waiting}
use Rattle.tag_cell.specs.declared.entry.Entry.TheVariants.{Commit}
use Rattle.tag_cell.proofs.Tapes.{taken-append}
use Rattle.tag_cell.proofs.Takes.{entry_in_step, entry_has_room}
use Rattle.tag_cell.proofs.Begun.{still_well}
use Rattle.tag_cell.proofs.Crashes.{safe_more}
use Rattle.tag_cell.proofs.Commits.{commit_during, commit_kept, commit_replayed, commit_safe, commit_waits, is_committed, kept_refused, told, with_tape, most_acked, part_is, rest_is, rest_range, waiting, written_some, written_most}
use Rattle.tag_cell.proofs.cell.Cell.commit.Given as given
use Rattle.tag_cell.proofs.cell.Cell.commit.Goals as goal
use Rattle.tag_cell.proofs.cell.Cell.commit.Goals.{After-deref, After-make_places}

-- a value takes_waiting
not_idle : (g : given.Over) (c : After-make_places g) → takes_waiting c.args.self.now ≡ 0 → ⊥
not_idle g c none =
    let s = c.self.inside in
    let was = c.self.invariant in
    let count = waiting s.def s.opening s.tape.items (drop s.next s.tape.items) s.next s.durable s.journal.acked s.core s.content.records
    was.1 was.3 refl in
    let shown = ap (λ (t : ToldCell _). takes_waiting t) c.self.view_is in
    omega (arith, count, shown, none, c.if-acked-taken.false, c.acked-acked.ensures, c.taken-taken.ensures)

-- the entries that are handed on are those after the last commit
from : (g : given.Over) (c : After-deref g)
    → take (length c.deref.result.now - c.self.inside.next) (drop c.self.inside.next c.deref.result.now)
    ≡ drop c.self.inside.next c.self.inside.tape.items
from g c = rest_is c.deref.result.now c.self.inside.tape.items c.self.inside.next (c.deref.ensures.value ∙ c.make_places.ensures.same)

-- as many values wait as they take
count : (g : given.Over) (c : After-deref g)
    → c.self.inside.journal.acked
    + length (taken (take (length c.deref.result.now - c.self.inside.next) (drop c.self.inside.next c.deref.result.now)))
    ≡ c.self.inside.core.state.summary.taken
count g c =
    let s = c.self.inside in
    waiting s.def s.opening s.tape.items _ s.next s.durable s.journal.acked s.core s.content.records c.self.invariant.1 c.self.invariant.3
    (from g c)

pub returns-in_err-make_places-clause-idle : goal.returns-in_err-make_places-clause-idle
returns-in_err-make_places-clause-idle g c = λ fine none.
    absurd (not_idle g (goal.at.returns-in_err-make_places-clause-idle g c).After-make_places none)

pub write_waiting-requires-clause-some : goal.write_waiting-requires-clause-some
write_waiting-requires-clause-some g c =
    omega (arith, count g (goal.at.write_waiting-requires-clause-some g c).After-deref, c.if-acked-taken.false, c.acked-acked.ensures, c.taken-taken.ensures)

pub write_waiting-requires-clause-number : goal.write_waiting-requires-clause-number
write_waiting-requires-clause-number g c = count g (goal.at.write_waiting-requires-clause-number g c).After-deref

pub write_waiting-requires-clause-in_range : goal.write_waiting-requires-clause-in_range
write_waiting-requires-clause-in_range g c =
    let s = c.self.inside in
    rest_range s.def s.opening s.tape.items _ s.next s.core s.content.records c.self.invariant.1
    (from g (goal.at.write_waiting-requires-clause-in_range g c).After-deref)

pub invariant_of-self-in_err-entries : goal.invariant_of-self-in_err-entries
invariant_of-self-in_err-entries g c =
    let s = c.self.inside in
    let was = c.self.invariant in
    let o = s.opening in
    let tape = s.tape.items in
    let tape' = c.make_places.new.tape.items in
    let journal' = c.write_waiting.new.journal in
    let old = (g.D.Disk.device s.journal.dev).trace in
    let new = (g.D.Disk.device journal'.dev).trace in
    let at = goal.at.invariant_of-self-in_err-entries g c in
    let rest : List Entry = take (length c.deref.result.now - s.next) (drop s.next c.deref.result.now) in
    let same : tape' ≡ tape = c.make_places.ensures.same in
    let from = from g at.After-deref in
    let fine : s.journal.failed ≡ false = sym c.failed.ensures ∙ c.if-failed.false in
    let refused = c.in_err-entries.ensures in
    let acked : journal'.acked ≡ s.journal.acked = refused.unmoved in (
      subst (λ (l : List Entry). IsTapeReplayed s.def o l s.core.state journal'.acked) (sym same)
          (subst (λ (a : ℕ). IsTapeReplayed s.def o tape s.core.state a) (sym acked) was.0),
      entry_in_step s.def o tape tape' s.core s.content.records was.1 (ap taken same),
      record {
        takes_are = was.2.takes_are ∙ ap (λ (l : List Entry). length (taken l)) (sym same);
        within = was.2.within;
        core_room = was.2.core_room;
        content_room = was.2.content_room;
        tape_room = omega (arith, was.2.tape_room, c.make_places.ensures.more, ap length same);
        small = was.2.small;
      },
      subst (λ (l : List Entry). Waits o l s.next s.durable journal'.acked) (sym same)
          (subst (λ (a : ℕ). Waits o tape s.next s.durable a) (sym acked) was.3),
      subst (λ (l : List Entry). IsKept s.def o l s.next journal'.failed (g.D.Disk.device journal'.dev)) (sym same)
          (kept_refused g.D.Disk.device s.def o tape s.next s.journal journal' c.in_err-entries.field-0.0
          was.4 fine refused.unbroken refused.untouched refused.failed refused.cause c.write_waiting.ensures.later),
      subst (λ (l : List Entry). IsSafe s.def o l (LeftSince new)) (sym same)
          (safe_more s.def o tape old new s.journal.acked (most_acked s.def o tape s.core.state s.journal.acked was.0) was.5
          (commit_during s.def o tape rest s.next s.durable s.journal.acked s.core s.content.records s.journal.failed
          (g.D.Disk.device s.journal.dev) (g.D.Disk.device journal'.dev) was.0 was.1 was.3 was.4 fine from
          c.write_waiting.ensures.any_moment)),
      was.6,
      subst (FitsName (device_name s.def.name)) (sym c.write_waiting.ensures.handed) was.7,
      still_well s.def o (g.D.Disk.device s.journal.dev) (g.D.Disk.device journal'.dev) c.write_waiting.ensures.handed
          c.write_waiting.ensures.continues was.8,
    )

pub returns-in_err-entries-clause-idle : goal.returns-in_err-entries-clause-idle
returns-in_err-entries-clause-idle g c = λ fine none.
    absurd (not_idle g (goal.at.returns-in_err-entries-clause-idle g c).After-make_places none)

pub overflow_sub-result : goal.overflow_sub-result
overflow_sub-result g c =
    let s = c.self.inside in
    let rest : List Entry = take (length c.deref.result.now - s.next) (drop s.next c.deref.result.now) in
    let count = count g (goal.at.overflow_sub-result g c).After-deref in
    let most = written_most s.journal.free (length (taken rest)) in
    let wrote = c.in_ok-entries.ensures in
    omega (arith, count, most, wrote.acked, wrote.count, c.acked-acked-2.ensures, c.taken-taken.ensures)

pub invariant_of-self-2 : goal.invariant_of-self-2
invariant_of-self-2 g c =
    let s = c.self.inside in
    let was = c.self.invariant in
    let o = s.opening in
    let tape = s.tape.items in
    let tape' = c.push_reserved.new.self.items in
    let journal' = c.write_waiting.new.journal in
    let old = (g.D.Disk.device s.journal.dev).trace in
    let new = (g.D.Disk.device journal'.dev).trace in
    let ticks' : ℕ = moment (g.D.Disk.device journal'.dev).trace in
    let n : ℕ = c.in_ok-entries.entries in
    let wrote = c.in_ok-entries.ensures in
    let at = goal.at.invariant_of-self-2 g c in
    let rest : List Entry = take (length c.deref.result.now - s.next) (drop s.next c.deref.result.now) in
    let same : c.make_places.new.tape.items ≡ tape = c.make_places.ensures.same in
    let from = from g at.After-deref in
    let fine : s.journal.failed ≡ false = sym c.failed.ensures ∙ c.if-failed.false in
    let e : Entry = Commit ticks' journal'.acked in
    let longer : tape' ≡ tape ++ e ∷ [] = c.push_reserved.ensures.items
    ∙ (ap (λ (l : List Entry). l ++ Commit c.clock.result c.acked-acked-2.result ∷ []) same
    ∙ (ap (λ (k : ℕ). tape ++ Commit k c.acked-acked-2.result ∷ []) c.clock.ensures
    ∙ ap (λ (k : ℕ). tape ++ Commit ticks' k ∷ []) c.acked-acked-2.ensures)) in
    let none : taken tape' ≡ taken tape = ap taken longer ∙ (taken-append tape (e ∷ []) ∙ append-nil (taken tape)) in
    let count = count g at.After-deref in
    let some : 0 < length (taken rest) = omega (arith, count, c.if-acked-taken.false, c.acked-acked.ensures, c.taken-taken.ensures) in
    let least = written_some s.journal.free (length (taken rest)) some in
    let most = written_most s.journal.free (length (taken rest)) in
    let reach : s.next + n ≤ length tape = omega (arith, wrote.within, ap length from, length-drop s.next tape, was.3.within) in
    let durable : c.records_after-self-inside.result ≡ last_records s.durable (take n rest) = c.records_after-self-inside.ensures
    ∙ ap (last_records s.durable) (part_is c.deref-2.result.now tape s.next n (s.next + n) (c.deref-2.ensures.value ∙ same) refl
    ∙ ap (take n) (sym from)) in
    let waits' = commit_waits o tape tape' rest (e ∷ []) s.next n s.durable c.records_after-self-inside.result s.journal.acked journal'.acked
    was.3 from wrote.within longer wrote.acked durable in
    let kept' = commit_kept s.def o tape tape' rest s.next n journal'.acked s.journal.failed journal'.failed
    (g.D.Disk.device s.journal.dev) (g.D.Disk.device journal'.dev) s.core s.content.records
    s.journal.acked was.0 was.1 was.3.within was.4 fine wrote.usable from wrote.within wrote.durable wrote.ticked wrote.cause.passed
    longer in
    let safe = safe_more s.def o tape old new s.journal.acked (most_acked s.def o tape s.core.state s.journal.acked was.0) was.5
    (commit_during s.def o tape rest s.next s.durable s.journal.acked s.core s.content.records s.journal.failed
    (g.D.Disk.device s.journal.dev) (g.D.Disk.device journal'.dev) was.0 was.1 was.3 was.4 fine from
    c.write_waiting.ensures.any_moment) in (
      commit_replayed s.def o tape tape' s.core.state s.journal.acked journal'.acked ticks' was.0
          (omega (arith, wrote.acked, wrote.count, least)) (omega (arith, wrote.acked, wrote.count, most, count, was.1.counted))
          (omega (arith, was.4.past, wrote.ticked)) longer,
      entry_in_step s.def o tape tape' s.core s.content.records was.1 none,
      entry_has_room o tape tape' (vec_capacity s.tape) (vec_capacity c.push_reserved.new.self) s.takes s.room s.core.spare
          s.content.spare e was.2 none
          (omega (arith, c.in_ok-make_places.ensures.room, c.push_reserved.ensures.capacity, was.2.within, s.tape.ok)) longer,
      waits',
      kept',
      commit_safe s.def o tape tape' new s.next n journal'.acked safe longer reach waits'.acked_are
          (λ few. kept'.recovers wrote.usable few),
      was.6,
      subst (FitsName (device_name s.def.name)) (sym c.write_waiting.ensures.handed) was.7,
      still_well s.def o (g.D.Disk.device s.journal.dev) (g.D.Disk.device journal'.dev) c.write_waiting.ensures.handed
          c.write_waiting.ensures.continues was.8,
    )

pub returns-clause-idle : goal.returns-clause-idle
returns-clause-idle g c = λ fine none.
    absurd (not_idle g (goal.at.returns-clause-idle g c).After-make_places none)

pub returns-clause-committed : goal.returns-clause-committed
returns-clause-committed g c =
    let s = c.self.inside in
    let was = c.self.invariant in
    let tape = s.tape.items in
    let journal' = c.write_waiting.new.journal in
    let ticks' : ℕ = moment (g.D.Disk.device journal'.dev).trace in
    let acked' : ℕ = c.acked-acked-2.result in
    let wrote = c.in_ok-entries.ensures in
    let at = goal.at.returns-clause-committed g c in
    let rest : List Entry = take (length c.deref.result.now - s.next) (drop s.next c.deref.result.now) in
    let same : c.make_places.new.tape.items ≡ tape = c.make_places.ensures.same in
    let from = from g at.After-deref in
    let count = count g at.After-deref in
    let longer : c.push_reserved.new.self.items ≡ tape ++ Commit ticks' acked' ∷ [] = c.push_reserved.ensures.items
    ∙ (ap (λ (l : List Entry). l ++ Commit c.clock.result acked' ∷ []) same
    ∙ ap (λ (k : ℕ). tape ++ Commit k acked' ∷ []) c.clock.ensures) in
    let waited : length (taken rest) ≡ s.core.state.summary.taken - s.journal.acked = omega (arith, count) in
    subst (λ (t : ToldCell _). IsCommitted (moment (g.D.Disk.device t.journal.dev).trace) ticks' (record { acked = acked'; waiting = c.taken-taken.result - acked' }) t
    (told s.def s.opening s.core.state journal' s.room c.push_reserved.new.self.items)) c.self.view_is
    (is_committed (moment (g.D.Disk.device s.journal.dev).trace) ticks' (record { acked = acked'; waiting = c.taken-taken.result - acked' })
    (told s.def s.opening s.core.state s.journal s.room tape)
    (told s.def s.opening s.core.state journal' s.room c.push_reserved.new.self.items)
    (omega (arith, count, c.if-acked-taken.false, c.acked-acked.ensures, c.taken-taken.ensures))
    (record {
      acked_are = wrote.acked ∙ ap (λ (k : ℕ). s.journal.acked + k) (wrote.count ∙ ap (count_written s.journal.free) waited);
      told_acked = c.acked-acked-2.ensures;
      told_waiting = omega (arith, c.taken-taken.ensures, c.acked-acked-2.ensures);
      usable = wrote.usable;
      later = wrote.ticked;
      same = with_tape s.def s.opening s.core.state journal' s.room _ _ longer;
    }))
