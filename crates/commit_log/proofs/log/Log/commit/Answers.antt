use Rattle.std.proofs.Common.{◌≡◌, ℕ, ◌+◌, ◌-◌, ◌≤◌, true, false, List, [], ◌∷◌, ◌++◌, length, min, take, drop, refl, sym, ap, ◌∙◌, subst, arith}
use Rattle.std.specs.Prelude.{vec_capacity}
use Rattle.disk_model.specs.{Sees, open_byte, FitsName, seen, written, moment}
use Rattle.commit_log.specs.{log_name, LogAcked, LogTurn, log_block_size, most_in_block, puts, AreRowsAcknowledged, IsKept, ToldLog, IsBlockOf, LogBeganWell}
use Rattle.commit_log.specs.declared.history.LogTurn.TheVariants.{Commit}
use Rattle.commit_log.proofs.Begun.{still_well}
use Rattle.commit_log.proofs.Acks.{oldest_are}
use Rattle.commit_log.proofs.Beginnings.{length-block_image}
use Rattle.commit_log.proofs.Commits.{committed, kept_faulted, writing_safe}
use Rattle.commit_log.proofs.Keeps.{rest_waits, same_tape}
use Rattle.commit_log.proofs.Tapes.{rest_is}
use Rattle.commit_log.proofs.log.Log.commit.Given as given
use Rattle.commit_log.proofs.log.Log.commit.Goals as goal
use Rattle.commit_log.proofs.log.Log.commit.Goals.{After-write_guarded, After-push_reserved}

pub overflow_sub-waiting : goal.overflow_sub-waiting
overflow_sub-waiting g c =
    let s = c.self.inside in
    let was = c.self.invariant in
    omega (
      arith,
      rest_waits s.opening.items s.tape.items (drop s.next s.tape.items) s.next s.acked was.2 refl,
      was.1.count_is,
      c.len.ensures,
      c.from.ensures,
    )

pub block_bytes-requires : goal.block_bytes-requires
block_bytes-requires g c = grind (arith, rest_is, rest_waits)

-- the block that was written holds the oldest rows that wait
block : (g : given.Over) (c : After-write_guarded g)
    → IsBlockOf c.self.inside.acked c.min-count.result (drop c.self.inside.next c.self.inside.tape.items) c.deref-2.result.now
    c.in_ok-block.block.turns
block g c = grind (arith, rest_is)

-- no call had failed before
kept : (g : given.Over) (c : After-write_guarded g)
    → let s = c.self.inside in
    let D = g.D.Disk in
    IsKept s.plant.items s.tags s.opening.items s.opened_at s.faults s.tape.items s.next s.end false (D.device s.dev).trace (moment (D.device s.dev).trace)
    (D.device s.dev).faults
kept g c = grind arith

-- a row waits, and a block has room for all that are counted
some : (g : given.Over) (c : After-write_guarded g) → 1 ≤ c.min-count.result
some g c = omega (arith, c.if-waiting-eq0.false, c.min-count.ensures, c.from-2.ensures)

few : (g : given.Over) (c : After-write_guarded g) → c.min-count.result ≤ most_in_block
few g c = omega (arith, c.min-count.ensures, c.from-2.ensures)

counted : (g : given.Over) (c : After-write_guarded g)
    → c.min-count.result ≡ min most_in_block (length c.self.inside.opening.items + length (puts c.self.inside.tape.items) - c.self.inside.acked)
counted g c = grind arith

-- the tape is longer by the commit
longer : (g : given.Over) (c : After-push_reserved g)
    → c.push_reserved.new.self.items ≡ c.self.inside.tape.items
    ++ Commit (moment (g.D.Disk.device c.write_guarded.new.dev).trace) (c.self.inside.acked + c.min-count.result) ∷ []
longer g c = grind arith

-- and the end lies after the block
ends : (g : given.Over) (c : After-push_reserved g)
    → IsBlockOf c.self.inside.acked c.min-count.result (drop c.self.inside.next c.self.inside.tape.items) c.deref-2.result.now
    c.in_ok-block.block.turns
    → c.in-Some.end ≡ c.self.inside.end
    + log_block_size (puts (take c.in_ok-block.block.turns (drop c.self.inside.next c.self.inside.tape.items)))
ends g c is =
    let s = c.self.inside in
    let rest : List LogTurn = take (length c.deref.result.now - s.next) (drop s.next c.deref.result.now) in
    omega (
      arith,
      c.in-Some.ensures,
      c.len-2.ensures,
      ap length c.in_ok-block.ensures.bytes_are,
      length-block_image s.acked (puts (take c.in_ok-block.block.turns rest)),
      c.in_ok-block.ensures.long,
      is.long,
    )

-- the device is still the log's own
own : (g : given.Over) (c : After-write_guarded g) → FitsName log_name (g.D.Disk.device c.write_guarded.new.dev).handed
own g c = subst (FitsName log_name) (sym c.write_guarded.ensures.handed) c.self.invariant.5

-- and what was opened of it began well
begun : (g : given.Over) (c : After-write_guarded g)
    → let s = c.self.inside in
    let dev = g.D.Disk.device c.write_guarded.new.dev in
    LogBeganWell s.plant.items s.tags s.opening.items s.opened_at dev.handed dev.trace
begun g c = grind (arith, still_well)

pub invariant_of-self-in-Ok : goal.invariant_of-self-in-Ok
invariant_of-self-in-Ok g c =
    let s = c.self.inside in
    let was = c.self.invariant in
    let here = goal.at.invariant_of-self-in-Ok g c in
    let at = here.After-write_guarded in
    let is = block g at in
    let room : length s.tape.items + (s.room - s.count) + 1 ≤ vec_capacity c.push_reserved.new.self
    = omega (arith, c.in_ok-make_places.ensures.room, c.push_reserved.ensures.capacity, was.1.within, s.tape.ok) in
    let now = committed _ _ _ _ _ _ _ _ _ _ _ _ was.0 was.2 (kept g at) _ _ _ is (some g at) (few g at) _ _ _ c.in-Ok.ensures.clock
    c.write_guarded.ensures.any_moment c.in-Ok.ensures.reads c.in-Ok.ensures.settled refl _
    (longer g here.After-push_reserved) _ _ s.count s.room c.in-Some.end s.failed c.if-self.false (counted g at) was.1 room
    (ends g here.After-push_reserved is) c.in-Ok.ensures.cause.passed was.4 in
    (now.0, now.1, now.2, now.3, now.4, own g at, begun g at)

pub invariant_of-self-in-Err : goal.invariant_of-self-in-Err
invariant_of-self-in-Err g c =
    let s = c.self.inside in
    let was = c.self.invariant in
    let at = (goal.at.invariant_of-self-in-Err g c).After-write_guarded in
    let now = same_tape _ _ _ _ s.faults s.tape.items c.make_places.new.tape.items (vec_capacity s.tape) (vec_capacity c.make_places.new.tape)
    s.count s.room s.next s.acked s.end true (g.D.Disk.device c.write_guarded.new.dev).trace _ _ c.make_places.ensures.same
    c.make_places.ensures.more (
      was.0,
      was.1,
      was.2,
      kept_faulted _ _ _ _ _ _ _ _ _ _ _ _ was.0 was.2 (kept g at) _ _ _ (block g at) (some g at) (few g at) _ _ _
          c.write_guarded.ensures.later c.in-Err.ensures.cause.failed,
      writing_safe _ _ _ _ _ _ _ _ _ _ _ _ was.0 was.2 (kept g at) _ _ _ (block g at) (some g at) (few g at) _ was.4
          c.write_guarded.ensures.any_moment,
    ) in
    (now.0, now.1, now.2, now.3, now.4, own g at, begun g at)

pub returns-in-Ok-clause-committed : goal.returns-in-Ok-clause-committed
returns-in-Ok-clause-committed g c = λ more.
    let s = c.self.inside in
    let was = c.self.invariant in
    let D = g.D.Disk in
    let o = s.opening.items in
    let tape = s.tape.items in
    let count = c.min-count.result in
    let turns = c.in_ok-block.block.turns in
    let at = goal.at.returns-in-Ok-clause-committed g c in
    let is = block g at.After-write_guarded in
    let count_is = counted g at.After-write_guarded in
    let told : ToldLog _ = record {
      plant = s.plant.items;
      tags = s.tags;
      opening = o;
      moment = s.opened_at;
      faults = s.faults;
      tape = tape;
      room = s.room;
      acked = s.acked;
      end = s.end;
      failed = s.failed;
      dev = s.dev;
    } in
    let done : ToldLog _ = record told {
      tape = c.push_reserved.new.self.items;
      acked = s.acked + count;
      end = c.in-Some.end;
      dev = c.write_guarded.new.dev;
    } in
    let a : LogAcked = record { acked = s.acked + count; waiting = c.len.result + c.from.result - s.acked - count } in
    subst (λ t. AreRowsAcknowledged D.device a t done) c.self.view_is (record {
      rows = puts (take turns (drop s.next tape));
      rows_are = oldest_are o tape s.next s.acked turns was.2 (is.long ∙ count_is);
      acked_are = ap (λ (n : ℕ). s.acked + n) count_is;
      waiting_are = omega (arith, count_is, c.len.ensures, c.from.ensures, was.1.count_is);
      clock = c.in-Ok.ensures.clock;
      wrote = subst (λ (l : List ℕ). Sees (D.device c.write_guarded.new.dev).trace
          (written (written (seen (D.device s.dev).trace) (s.end + 1) l) s.end (open_byte ∷ []))) is.bytes_are
          c.in-Ok.ensures.reads;
      changed = λ i. record {
        plant = s.plant.items;
        tags = s.tags;
        opening = o;
        moment = s.opened_at;
        faults = s.faults;
        tape = longer g at.After-push_reserved i;
        room = s.room;
        acked = s.acked + count;
        end = ends g at.After-push_reserved is i;
        failed = s.failed;
        dev = c.write_guarded.new.dev;
      };
    })
