use Rattle.std.proofs.Common.{refl}
use Rattle.page_pool.proofs.Stored.{held_there, read_held, stored-written, pool-written, pool-read}
use Rattle.page_pool.proofs.pool.Pool.frame_mut.Goals as goal

pub invariant_of-self-lent : goal.invariant_of-self-lent
invariant_of-self-lent c =
    let inside = c.self.inside in
    let held = held_there inside.frames.items inside.size c.id.inside.place _ _ c.self.view_is c.id.view_is c.requires in
    let pooled = read_held inside.frames.items c.id.inside.place c.index_mut.result.now c.index_mut.ensures.value held in
    λ w. stored-written inside.frames.items inside.size _ _ inside.free.items c.id.inside.place
    (record { held = c.index_mut.result.now.held; frame = w }) c.self.invariant held pooled.0

pub returns : goal.returns
returns c =
    let inside = c.self.inside in
    let held = held_there inside.frames.items inside.size c.id.inside.place _ _ c.self.view_is c.id.view_is c.requires in
    let pooled = read_held inside.frames.items c.id.inside.place c.index_mut.result.now c.index_mut.ensures.value held in (
      (
        refl,
        λ w. pool-written inside.frames.items inside.size c.id.inside.place _ _ c.self.view_is c.id.view_is
            (record { held = c.index_mut.result.now.held; frame = w }) c.requires pooled.0,
      ),
      record {
        writes_back = tt;
        value = pool-read inside.frames.items inside.size c.id.inside.place _ _ c.self.view_is c.id.view_is c.index_mut.result.now
            c.index_mut.ensures.value c.requires;
      },
    )
