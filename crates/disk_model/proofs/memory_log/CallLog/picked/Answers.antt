use Rattle.std.proofs.Common.{◌≡◌, ℕ, ◌+◌, ◌<◌, List, [], ◌∷◌, length, take, get_or, sym, ap, ◌∙◌, arith}
use Rattle.std.proofs.lemmas.{Grind.common_steps, List.take_more, List.take_all}
use Rattle.disk_model.specs.{declared.memory_log.Note.Note, content, picked, log_first, call_of, idles, calls_after}
use Rattle.disk_model.proofs.Logs.{calls_after-push, content-idles, picked-idles}
use Rattle.disk_model.proofs.memory_log.CallLog.picked.Goals as goal

-- the calls of one note more
events_more : (ns : List Note) (i : ℕ) (n : Note) → i < length ns → n ≡ get_or ns i n
    → calls_after [] (take (i + 1) ns) ≡ call_of n.call ∷ idles n.idle (calls_after [] (take i ns))
events_more ns i n there is = grind (arith, common_steps, take_more, calls_after-push)

pub loop-note-preserved : goal.loop-note-preserved
loop-note-preserved c =
    let first = log_first c.args.self.now in
    let ns = c.args.self.now.notes.items in
    let note = c.note-item.result in
    let before = calls_after [] (take c.loop-note.note-index ns) in
    let more = events_more ns c.loop-note.note-index note (omega (arith, c.loop-note-test.true, ap length c.deref-note-items.ensures.value)) (c.note-item.is ∙ ap (λ l. get_or l c.loop-note.note-index note) c.deref-note-items.ensures.value) in
    let here = idles note.idle before in
    let held = c.loop-note.invariant.held ∙ sym (content-idles first note.idle before) in
    let image = c.loop-note.invariant.image ∙ sym (picked-idles c.args.pick first note.idle before) in
    let done = c.in_ok-replay.ensures first here held image in
    record {
      held = done.0 ∙ ap (content first) (sym more);
      image = done.1 ∙ ap (picked c.args.pick first) (sym more);
    }

pub returns : goal.returns
returns c = grind (arith, take_all, picked-idles)
