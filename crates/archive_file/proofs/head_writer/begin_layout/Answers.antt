use Rattle.std.proofs.Common.{refl, ◌∙◌, arith}
use Rattle.archive_file.proofs.Beginnings.{head_written, layout_begun, layout_counted, layout_ready, left_kept, not_begun}
use Rattle.archive_file.proofs.ReadImages.{shut_reached}
use Rattle.archive_file.proofs.head_writer.begin_layout.Goals as goal

pub returns-in_default-clause-any_moment : goal.returns-in_default-clause-any_moment
returns-in_default-clause-any_moment g c = not_begun c.args.letters c.args.text.now _ _ (left_kept _ _ refl)

pub returns-in_default-head_bytes-clause-any_moment : goal.returns-in_default-head_bytes-clause-any_moment
returns-in_default-head_bytes-clause-any_moment g c = not_begun c.args.letters c.args.text.now _ _ (left_kept _ _ refl)

pub write_guarded-requires-clause-room : goal.write_guarded-requires-clause-room
write_guarded-requires-clause-room g c = shut_reached _ 0 c.in-Ok-close_layout.ensures.shut

pub returns-in_default-write_guarded-clause-any_moment : goal.returns-in_default-write_guarded-clause-any_moment
returns-in_default-write_guarded-clause-any_moment g c =
    head_written c.args.letters c.args.text.now c.deref.result.now (omega arith) (omega (arith, c.in-Ok.ensures))
    (c.deref.ensures.value ∙ c.in-Ok-head_bytes.ensures) _ _ c.close_layout.ensures.any_moment _
    c.write_guarded.ensures.any_moment

pub returns-clause-any_moment : goal.returns-clause-any_moment
returns-clause-any_moment g c =
    head_written c.args.letters c.args.text.now c.deref.result.now (omega arith) (omega (arith, c.in-Ok.ensures))
    (c.deref.ensures.value ∙ c.in-Ok-head_bytes.ensures) _ _ c.close_layout.ensures.any_moment _
    c.write_guarded.ensures.any_moment

pub returns-clause-made : goal.returns-clause-made
returns-clause-made g c =
    layout_begun c.args.letters c.args.text.now c.deref.result.now (omega arith) (omega (arith, c.in-Ok.ensures))
    (c.deref.ensures.value ∙ c.in-Ok-head_bytes.ensures) _ _ c.close_layout.ensures.any_moment _
    c.write_guarded.ensures.any_moment c.in-Ok-write_guarded.ensures.reads

pub returns-clause-ready : goal.returns-clause-ready
returns-clause-ready g c =
    layout_ready c.args.letters c.args.text.now _
    (layout_begun c.args.letters c.args.text.now c.deref.result.now (omega arith) (omega (arith, c.in-Ok.ensures))
    (c.deref.ensures.value ∙ c.in-Ok-head_bytes.ensures) _ _ c.close_layout.ensures.any_moment _
    c.write_guarded.ensures.any_moment c.in-Ok-write_guarded.ensures.reads) c.in-Ok-write_guarded.ensures.settled

pub returns-clause-calls : goal.returns-clause-calls
returns-clause-calls g c = layout_counted (g.D.Disk.device c.args.dev.now).trace _ _ _ c.in-Ok-close_layout.ensures.calls c.in-Ok-write_guarded.ensures.clock
