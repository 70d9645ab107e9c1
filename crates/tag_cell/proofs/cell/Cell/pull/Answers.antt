use Rattle.std.proofs.Common.{◌≡◌, ◌∙◌, ℕ, ◌-◌, ◌≤◌, List, [], ◌∷◌, ◌++◌, length, take, drop, Result, Ok, Err, ap, arith, length-append, length-take, length-drop}
use Rattle.std.proofs.lemmas.List.{append-nil}
use Rattle.std.specs.Prelude.{vec_capacity, IsErrAnd}
use Rattle.trend_num.specs.{Rec}
use Rattle.disk_model.specs.{LeftSince}
use Rattle.tag_cell.specs.{Entry, Pulled, PullNo, taken, done, cell_walked, cell_start, state_after, ToldCell, durable_records}
use Rattle.tag_cell.specs.declared.entry.Entry.TheVariants.{Pull}
use Rattle.tag_cell.specs.declared.entry.PullNo.TheVariants.{Ahead, WantOfMemory}
use Rattle.tag_cell.proofs.Tapes.{taken-append}
use Rattle.tag_cell.proofs.Entries.{pull_replayed, waits_entry, kept_entry, safe_entry}
use Rattle.tag_cell.proofs.Takes.{entry_in_step, entry_has_room}
use Rattle.tag_cell.proofs.Pulls.{durable_are, durable_front, handed, is_pull}
use Rattle.tag_cell.proofs.cell.Cell.pull.Goals as goal

-- want of memory is no refusal of a place
not_ahead : (r : Result Pulled PullNo) (first n : ℕ) → IsErrAnd r (λ e. e ≡ WantOfMemory) → r ≡ Err (Ahead first n) → ⊥
not_ahead (Ok p) first n is e = cc
not_ahead (Err x) first n is e = cc

pub returns-then-from-upto-clause-ahead : goal.returns-then-from-upto-clause-ahead
returns-then-from-upto-clause-ahead g c =
    let s = c.self.inside in
    let are = durable_are s.def s.opening s.tape.items s.core.state s.next s.durable s.journal.acked c.self.invariant.0 c.self.invariant.3 in
    let now : s.durable ≡ length (durable_records c.args.self.now) =
    are ∙ ap (λ (t : ToldCell _). length (durable_records t)) c.self.view_is in
    (λ _. ap (λ (n : ℕ). Err (Ahead c.args.from n)) now, λ _. omega (arith, now, c.if-from-upto.true))

pub returns-in_err-make_places-clause-ahead : goal.returns-in_err-make_places-clause-ahead
returns-in_err-make_places-clause-ahead g c =
    let s = c.self.inside in
    let are = durable_are s.def s.opening s.tape.items s.core.state s.next s.durable s.journal.acked c.self.invariant.0 c.self.invariant.3 in
    let now : s.durable ≡ length (durable_records c.args.self.now) =
    are ∙ ap (λ (t : ToldCell _). length (durable_records t)) c.self.view_is in
    (λ less. absurd (omega (arith, now, less, c.if-from-upto.false)), λ e. absurd (not_ahead c.from_residual.result c.args.from _ c.from_residual.ensures.1 e))

pub returns-in_err-recs-clause-ahead : goal.returns-in_err-recs-clause-ahead
returns-in_err-recs-clause-ahead g c =
    let s = c.self.inside in
    let are = durable_are s.def s.opening s.tape.items s.core.state s.next s.durable s.journal.acked c.self.invariant.0 c.self.invariant.3 in
    let now : s.durable ≡ length (durable_records c.args.self.now) =
    are ∙ ap (λ (t : ToldCell _). length (durable_records t)) c.self.view_is in
    (λ less. absurd (omega (arith, now, less, c.if-from-upto.false)), λ e. absurd (not_ahead c.from_residual-in_err-recs.result c.args.from _ c.from_residual-in_err-recs.ensures.1 e))

pub returns-clause-ahead : goal.returns-clause-ahead
returns-clause-ahead g c =
    let s = c.self.inside in
    let are = durable_are s.def s.opening s.tape.items s.core.state s.next s.durable s.journal.acked c.self.invariant.0 c.self.invariant.3 in
    let now : s.durable ≡ length (durable_records c.args.self.now) =
    are ∙ ap (λ (t : ToldCell _). length (durable_records t)) c.self.view_is in
    (λ less. absurd (omega (arith, now, less, c.if-from-upto.false)), λ e. absurd cc)

pub returns-clause-upto : goal.returns-clause-upto
returns-clause-upto g c =
    let s = c.self.inside in
    durable_are s.def s.opening s.tape.items s.core.state s.next s.durable s.journal.acked c.self.invariant.0 c.self.invariant.3
    ∙ ap (λ (t : ToldCell _). length (durable_records t)) c.self.view_is

pub returns-clause-records : goal.returns-clause-records
returns-clause-records g c =
    let s = c.self.inside in
    let are = durable_are s.def s.opening s.tape.items s.core.state s.next s.durable s.journal.acked c.self.invariant.0 c.self.invariant.3 in
    let front = durable_front s.def s.opening s.tape.items s.core.state s.next s.durable s.journal.acked c.self.invariant.0 c.self.invariant.3 in
    let durable : List Rec = (state_after s.def.step s.opening (done s.opening (cell_walked (cell_start s.opening) s.tape.items))).records in
    c.in_ok-recs.ensures.records ∙ (ap (λ (l : List Rec). take (s.durable - c.args.from) (drop c.args.from l)) (c.recs.ensures.value ∙ front.1)
    ∙ (handed durable front.0 c.args.from s.durable are c.if-from-upto.false
    ∙ ap (λ (t : ToldCell _). drop c.args.from (durable_records t)) c.self.view_is))

pub copied-requires-clause-within : goal.copied-requires-clause-within
copied-requires-clause-within g c =
    let s = c.self.inside in
    let are = durable_are s.def s.opening s.tape.items s.core.state s.next s.durable s.journal.acked c.self.invariant.0 c.self.invariant.3 in
    let front = durable_front s.def s.opening s.tape.items s.core.state s.next s.durable s.journal.acked c.self.invariant.0 c.self.invariant.3 in
    let durable : List Rec = (state_after s.def.step s.opening (done s.opening (cell_walked (cell_start s.opening) s.tape.items))).records in
    omega (arith, are, ap length (c.recs.ensures.value ∙ front.1), length-append durable front.0)

pub invariant_of-self-2 : goal.invariant_of-self-2
invariant_of-self-2 g c =
    let s = c.self.inside in
    let was = c.self.invariant in
    let dev = s.journal.dev in
    let tape = s.tape.items in
    let tape' = c.push_reserved.new.self.items in
    let e : Entry = Pull c.args.group c.args.from s.durable in
    let longer : tape' ≡ tape ++ e ∷ [] =
    c.push_reserved.ensures.items ∙ ap (λ (l : List Entry). l ++ e ∷ []) c.make_places.ensures.same in
    let none : taken tape' ≡ taken tape = ap taken longer ∙ (taken-append tape (e ∷ []) ∙ append-nil (taken tape)) in (
      pull_replayed s.def s.opening tape tape' s.core.state s.journal.acked c.args.group c.args.from s.durable was.0
          (is_pull s.def s.opening tape s.core.state s.next s.durable s.journal.acked c.args.from was.0 was.3 c.if-from-upto.false) longer,
      entry_in_step s.def s.opening tape tape' s.core s.content.records was.1 none,
      entry_has_room s.opening tape tape' (vec_capacity s.tape) (vec_capacity c.push_reserved.new.self) s.takes s.room s.core.spare
          s.content.spare e was.2 none
          (omega (arith, c.in_ok-make_places.ensures.room, c.push_reserved.ensures.capacity, was.2.within, s.tape.ok)) longer,
      waits_entry s.opening tape tape' (e ∷ []) s.next s.durable s.journal.acked was.3 longer,
      kept_entry s.def s.opening tape tape' e s.next s.journal.failed (g.D.Disk.device dev)
          tt was.3.within was.4 longer,
      safe_entry s.def s.opening tape tape' e (LeftSince (g.D.Disk.device dev).trace) tt was.5 longer,
      was.6,
      was.7,
      was.8,
    )

pub returns-clause-long : goal.returns-clause-long
returns-clause-long g c =
    let s = c.self.inside in
    let are = durable_are s.def s.opening s.tape.items s.core.state s.next s.durable s.journal.acked c.self.invariant.0 c.self.invariant.3 in
    let front = durable_front s.def s.opening s.tape.items s.core.state s.next s.durable s.journal.acked c.self.invariant.0 c.self.invariant.3 in
    let durable : List Rec = (state_after s.def.step s.opening (done s.opening (cell_walked (cell_start s.opening) s.tape.items))).records in
    let recs = c.recs.result.now in
    let within : s.durable ≤ length recs = omega (arith, are, ap length (c.recs.ensures.value ∙ front.1), length-append durable front.0) in
    omega (
      arith,
      within,
      c.if-from-upto.false,
      ap length c.in_ok-recs.ensures.records,
      length-take (s.durable - c.args.from) (drop c.args.from recs),
      length-drop c.args.from recs,
    )

pub returns-then-from-upto-clause-carried : goal.returns-then-from-upto-clause-carried
returns-then-from-upto-clause-carried g c = λ f a told.
    let s = c.self.inside in
    let are = durable_are s.def s.opening s.tape.items s.core.state s.next s.durable s.journal.acked c.self.invariant.0 c.self.invariant.3 in
    let place : f ≡ c.args.from = cc (told) in
    let carried : a ≡ s.durable = cc (told) in
    (place, carried ∙ are ∙ ap (λ (t : ToldCell _). length (durable_records t)) c.self.view_is, omega (arith, carried, c.if-from-upto.true))
