use Rattle.std.proofs.Common.{false, ap, ◌∙◌, arith}
use Rattle.page_pool.specs.{spare_of}
use Rattle.page_pool.proofs.Stored.{held_there, frame_within, has_room, stored-given, pool-set, spare-given}
use Rattle.page_pool.proofs.pool.Pool.give_frame.Goals as goal

pub push_reserved-requires : goal.push_reserved-requires
push_reserved-requires c =
    let inside = c.self.inside in
    let held = held_there inside.frames.items inside.size c.id.inside.place _ _ c.self.view_is c.id.view_is c.requires in
    omega (arith, has_room inside.frames.items inside.free.items inside.size _ _ c.id.inside.place c.self.invariant held, inside.free.ok.0)

pub invariant_of-self : goal.invariant_of-self
invariant_of-self c =
    let inside = c.self.inside in
    let held = held_there inside.frames.items inside.size c.id.inside.place _ _ c.self.view_is c.id.view_is c.requires in
    rw (c.push_reserved.ensures.items, c.push_reserved.ensures.capacity, ← c.id.view_is)
    (stored-given inside.frames.items inside.size _ _ inside.free.items c.id.inside.place c.index_mut.result.now.frame c.self.invariant held)

pub returns-clause-given : goal.returns-clause-given
returns-clause-given c =
    let inside = c.self.inside in
    let held = held_there inside.frames.items inside.size c.id.inside.place _ _ c.self.view_is c.id.view_is c.requires in
    pool-set inside.frames.items inside.size c.id.inside.place _ _ c.self.view_is c.id.view_is
    (record { held = false; frame = c.index_mut.result.now.frame }) (frame_within inside.frames.items c.id.inside.place held)

pub returns-clause-spare : goal.returns-clause-spare
returns-clause-spare c = ap spare_of (returns-clause-given c) ∙ spare-given c.args.self.now c.args.id c.requires
