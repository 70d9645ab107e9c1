use Rattle.std.proofs.Common.{◌≡◌, ◌<◌, length, ◌∙◌, arith}
use Rattle.page_pool.proofs.Stored.{stored-reused, pool-reused, pool-touched, spare-takes}
use Rattle.page_pool.proofs.pool.Pool.take_frame.Goals as goal

pub invariant_of-self : goal.invariant_of-self
invariant_of-self c =
    let inside = c.self.inside in
    rw c.in-Some.ensures.capacity
    (stored-reused inside.frames.items inside.size _ _ inside.free.items c.pop.new.self.items c.in-Some.id c.id.inside.place c.empty.result
    c.in-Some.ensures.items c.id.view_is c.self.invariant)

pub returns-in-Some-clause-taken : goal.returns-in-Some-clause-taken
returns-in-Some-clause-taken c =
    let inside = c.self.inside in
    pool-reused inside.frames.items inside.size c.id.inside.place c.in-Some.id c.args.self.now c.self.view_is c.id.view_is
    _ _ inside.free.items c.pop.new.self.items c.empty.result c.empty.ensures c.in-Some.ensures.items c.self.invariant

pub returns-in-Some-clause-spare : goal.returns-in-Some-clause-spare
returns-in-Some-clause-spare c = spare-takes c.args.self.now _ c.in-Some.id (returns-in-Some-clause-taken c)

pub returns-clause-taken : goal.returns-clause-taken
returns-clause-taken c =
    let inside = c.self.inside in
    let place : c.len-place.result ≡ length inside.frames.items = c.len-place.ensures ∙ inside.frames.ok.0 in
    let room : c.len-place.result < inside.size = omega (arith, c.self.invariant.within) in
    pool-touched inside.frames.items c.push_reserved.new.self.items inside.size c.len-place.result c.args.self.now c.empty.result
    c.self.view_is place c.empty.ensures c.push_reserved.ensures.items room
