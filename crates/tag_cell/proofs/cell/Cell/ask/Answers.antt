use Rattle.std.proofs.Common.{◌≡◌, ◌∙◌, List, [], ◌∷◌, ◌++◌, Option, ap, subst, arith}
use Rattle.std.proofs.lemmas.List.{append-nil}
use Rattle.std.specs.Prelude.{vec_capacity}
use Rattle.trend_num.specs.{Rec, Point}
use Rattle.disk_model.specs.{LeftSince}
use Rattle.interp_read.specs.{points_closed_by, Answers}
use Rattle.tag_cell.specs.{Entry, taken, IsAnswer, shown_of}
use Rattle.tag_cell.specs.declared.entry.Entry.TheVariants.{Ask}
use Rattle.tag_cell.proofs.Tapes.{taken-append}
use Rattle.tag_cell.proofs.Entries.{ask_replayed, waits_entry, kept_entry, safe_entry}
use Rattle.tag_cell.proofs.Takes.{entry_in_step, entry_has_room}
use Rattle.tag_cell.proofs.cell.Cell.ask.Goals as goal

pub invariant_of-self-2 : goal.invariant_of-self-2
invariant_of-self-2 g c =
    let s = c.self.inside in
    let was = c.self.invariant in
    let dev = s.journal.dev in
    let tape = s.tape.items in
    let tape' = c.push_reserved.new.self.items in
    let query = c.args.query in
    let reply = c.in_ok-reply.reply in
    let e : Entry = Ask c.args.reader c.args.row query reply in
    let longer : tape' ≡ tape ++ e ∷ [] =
    c.push_reserved.ensures.items ∙ ap (λ (l : List Entry). l ++ e ∷ []) c.make_places.ensures.same in
    let none : taken tape' ≡ taken tape = ap taken longer ∙ (taken-append tape (e ∷ []) ∙ append-nil (taken tape)) in
    let answer : IsAnswer s.def.step (shown_of s.core.state) query reply = record {
      answers = subst (λ (l : List Rec). Answers s.def.step (points_closed_by s.core.state.summary.held l) query reply) was.1.content_is
          (subst (λ (q : Option Point). Answers s.def.step (points_closed_by q s.content.records) query reply) c.held-held.ensures.value
          c.in_ok-reply.ensures.answers);
    } in (
      ask_replayed s.def s.opening tape tape' s.core.state s.journal.acked c.args.reader c.args.row query reply was.0 answer longer,
      entry_in_step s.def s.opening tape tape' s.core s.content.records was.1 none,
      entry_has_room s.opening tape tape' (vec_capacity s.tape) (vec_capacity c.push_reserved.new.self) s.takes s.room s.core.spare
          s.content.spare e was.2 none
          (omega (arith, c.in_ok-make_places.ensures.room, c.push_reserved.ensures.capacity, was.2.within, s.tape.ok)) longer,
      waits_entry s.opening tape tape' (e ∷ []) s.next s.durable s.journal.acked was.3 longer,
      kept_entry s.def s.opening tape tape' e s.next s.journal.failed (g.D.Disk.device dev)
          tt was.3.within was.4 longer,
      safe_entry s.def s.opening tape tape' e (LeftSince (g.D.Disk.device dev).trace) tt was.5 longer,
      was.6,
      was.7,
      was.8,
    )
