use Rattle.std.proofs.Common.{arith, ◌∙◌}
use Rattle.disk_model.proofs.Moments.{started}
use Rattle.archive_file.proofs.Beginnings.{layout_counted}
use Rattle.device_layout.proofs.LayoutMoments.{new_closed, new_now, new_recovers, shut_reached, layout_recovers, layout_made}
use Rattle.device_layout.proofs.layout.make_layout.Goals as goal

pub returns-in_default-clause-any_moment : goal.returns-in_default-clause-any_moment
returns-in_default-clause-any_moment g c = grind (arith, new_recovers, started, new_now)

pub write_guarded-requires-clause-room : goal.write_guarded-requires-clause-room
write_guarded-requires-clause-room g c = shut_reached _ c.in-Ok-close_layout.ensures.shut

pub returns-in_default-write_guarded-clause-any_moment
    : goal.returns-in_default-write_guarded-clause-any_moment
returns-in_default-write_guarded-clause-any_moment g c =
    layout_recovers c.args.def.now c.args.slots c.deref.result.now c.in-Ok.ensures.name
    (c.deref.ensures.value ∙ c.in-Ok.ensures.image) c.requires.tuned c.requires.some c.requires.few _ _
    (new_closed _ _ c.requires.new c.requires.settled c.close_layout.ensures.any_moment) _ c.write_guarded.ensures.any_moment

pub returns-clause-any_moment : goal.returns-clause-any_moment
returns-clause-any_moment g c =
    layout_recovers c.args.def.now c.args.slots c.deref.result.now c.in-Ok.ensures.name
    (c.deref.ensures.value ∙ c.in-Ok.ensures.image) c.requires.tuned c.requires.some c.requires.few _ _
    (new_closed _ _ c.requires.new c.requires.settled c.close_layout.ensures.any_moment) _ c.write_guarded.ensures.any_moment

pub returns-clause-made : goal.returns-clause-made
returns-clause-made g c =
    layout_made c.args.def.now c.args.slots c.deref.result.now c.in-Ok.ensures.name
    (c.deref.ensures.value ∙ c.in-Ok.ensures.image) c.requires.tuned c.requires.some c.requires.few _ _
    (new_closed _ _ c.requires.new c.requires.settled c.close_layout.ensures.any_moment) _ c.write_guarded.ensures.any_moment c.in-Ok-write_guarded.ensures.reads

pub returns-clause-calls : goal.returns-clause-calls
returns-clause-calls g c = layout_counted (g.D.Disk.device c.args.dev.now).trace _ _ _ c.in-Ok-close_layout.ensures.calls c.in-Ok-write_guarded.ensures.clock
