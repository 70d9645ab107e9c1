use Rattle.std.proofs.Common.{◌≡◌, ◌∙◌, ℕ, ◌+◌, ◌≤◌, Bool, [], ◌∷◌, ◌++◌, length, ap, sym, subst, refl, arith}
use Rattle.std.specs.Prelude.{vec_capacity}
use Rattle.std.specs.Arc.{arc_value}
use Rattle.trend_num.specs.{most_records}
use Rattle.trend_model.specs.{Raw}
use Rattle.trend_model.specs.State.{after}
use Rattle.disk_model.specs.{LeftSince}
use Rattle.crash_recovery.proofs.Takes.{few_enough}
use Rattle.tag_cell.specs.{Entry, taken, HasRoomForTakes}
use Rattle.tag_cell.specs.declared.entry.Entry.TheVariants.{Take}
use Rattle.tag_cell.proofs.Entries.{take_replayed, waits_entry, kept_entry, safe_entry}
use Rattle.tag_cell.proofs.Takes.{taken-take, take_in_step, take_has_room, take_posted}
use Rattle.tag_cell.proofs.cell.Cell.take.Goals as goal

pub invariant_of-self-2 : goal.invariant_of-self-2
invariant_of-self-2 g c =
    let s = c.self.inside in
    let was = c.self.invariant in
    let dev = s.journal.dev in
    let tape = s.tape.items in
    let tape' = c.push_reserved.new.self.items in
    let core' = c.take_value.new.core in
    let p = c.args.p in
    let held = c.in_ok-held.held in
    let n : ℕ = c.record_count.result in
    let e : Entry = Take c.args.collector c.args.row p held n in
    let took = c.in_ok-held.ensures in
    let longer : tape' ≡ tape ++ e ∷ [] = c.push_reserved.ensures.items in
    let one : taken tape' ≡ taken tape ++ p ∷ [] = taken-take tape tape' c.args.collector c.args.row p held n longer in
    let next : core'.state ≡ after s.def.step s.core.state (Raw p) =
    took.after ∙ ap (λ (b : Bool). after b s.core.state (Raw p)) was.1.same_step in
    let room : length s.core.state.records + 2 ≤ most_records = few_enough (length s.core.state.records + 2) took.full.1 in
    let places : vec_capacity c.push_reserved.new.self ≡ vec_capacity s.tape = c.push_reserved.ensures.capacity in (
      take_replayed s.def s.opening tape tape' s.core.state core'.state s.journal.acked c.args.collector c.args.row p held n
          was.0 room next took.held c.record_count.ensures.value longer,
      take_in_step s.def s.opening tape tape' s.core core' s.content.records c.take_value.new.content.records s.journal.acked p
          was.1 was.0 took.step took.counted took.same c.requires room one,
      subst (λ (k : ℕ). HasRoomForTakes s.opening tape' k (s.takes + 1) s.room core'.spare c.take_value.new.content.spare) (sym places)
          (take_has_room s.opening tape tape' (vec_capacity s.tape) s.takes (s.takes + 1) s.room s.core.spare core'.spare
          s.content.spare c.take_value.new.content.spare e p was.2 (omega (arith, was.2.within, c.if-self.false)) refl
          took.room took.content_room longer one),
      waits_entry s.opening tape tape' (e ∷ []) s.next s.durable s.journal.acked was.3 longer,
      kept_entry s.def s.opening tape tape' e s.next s.journal.failed (g.D.Disk.device dev)
          tt was.3.within was.4 longer,
      safe_entry s.def s.opening tape tape' e (LeftSince (g.D.Disk.device dev).trace) tt was.5 longer,
      take_posted (arc_value s.board) s.poster c.post.new.poster c.taken.result held s.core.state core'.state was.6 c.post.ensures
          c.taken.ensures took.held,
      was.7,
      was.8,
    )
