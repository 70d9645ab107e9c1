use Rattle.std.proofs.Common.{◌≡◌, ◌∙◌, All, Bool, ap, arith, length, subst, sym}
use Rattle.std.proofs.lemmas.List.{length-map}
use Rattle.event_frames.specs.{is_true, row_with, truths_of}
use Rattle.store_commands.specs.{IsFrameTimed, frame_of}
use Rattle.store_commands.proofs.FrameTiming.{timed_edits, timed_frames}
use Rattle.store_commands.proofs.frame_telling.tell_frames.Goals as goal

pub frames_text-requires-clause-edits : goal.frames_text-requires-clause-edits
frames_text-requires-clause-edits c =
    let n = length c.args.refreshed.now in
    let old = c.in_ok-frames.frames.truths in
    let new = c.apply.new.self.truths in
    let new_is : new ≡ truths_of c.args.refreshed.now =
    c.in_ok-edits.ensures.row c.args.saved.now c.in_ok-frames.ensures.truths
    ∙ ap (λ l. truths_of (row_with c.args.saved.now l)) c.deref.ensures.value ∙ ap truths_of c.in_ok-changes.ensures.row in
    subst (All (λ e. IsFrameTimed c.args.group.now (frame_of e))) (sym c.deref-2.ensures.value)
    (timed_edits c.args.group.now n old new c.in_ok-frames.frames.least c.in_ok-edits.edits.items c.requires.period c.requires.times
    (omega (arith, ap (length {A = Bool}) c.in_ok-frames.ensures.truths, length-map c.args.saved.now is_true, c.requires.grown))
    (omega (arith, ap (length {A = Bool}) new_is, length-map c.args.refreshed.now is_true)) c.in_ok-edits.ensures.edits)

pub frames_text-requires-clause-frames : goal.frames_text-requires-clause-frames
frames_text-requires-clause-frames c =
    let new = c.apply.new.self.truths in
    let new_is : new ≡ truths_of c.args.refreshed.now =
    c.in_ok-edits.ensures.row c.args.saved.now c.in_ok-frames.ensures.truths
    ∙ ap (λ l. truths_of (row_with c.args.saved.now l)) c.deref.ensures.value ∙ ap truths_of c.in_ok-changes.ensures.row in
    subst (All (IsFrameTimed c.args.group.now)) (sym c.deref-3.ensures.value)
    (timed_frames c.args.group.now (length c.args.refreshed.now) new c.apply.new.self.least c.in_ok-list.list.items c.requires.period
    c.requires.times (omega (arith, ap (length {A = Bool}) new_is, length-map c.args.refreshed.now is_true)) c.in_ok-list.ensures)
