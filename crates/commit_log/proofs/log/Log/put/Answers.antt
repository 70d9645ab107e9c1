use Rattle.std.proofs.Common.{◌+◌, ◌<◌, List, sym, subst, arith}
use Rattle.std.specs.Prelude.{vec_capacity}
use Rattle.disk_model.specs.{LeftSince, moment}
use Rattle.commit_log.specs.{LogTurn, IsLogLegal, IsLogSafe, HasRoomForPuts, IsKept, Waits}
use Rattle.commit_log.proofs.Puts.{put_kept, put_legal, put_room, put_safe, put_waits}
use Rattle.commit_log.proofs.log.Log.put.Goals as goal

pub invariant_of-self : goal.invariant_of-self
invariant_of-self g c =
    let s = c.self.inside in
    let was = c.self.invariant in
    let D = g.D.Disk in
    let row = c.args.row in
    let o = s.opening.items in
    let tape = s.tape.items in
    let places = vec_capacity c.push_reserved.new.self in
    let tag : row.tag < s.tags = omega (arith, c.if-row-self.false) in
    let now = subst (λ (l : List LogTurn). IsLogLegal s.tags o s.opened_at l s.acked × HasRoomForPuts o l places (s.count + 1) s.room × Waits o l s.next s.acked
    × IsKept s.plant.items s.tags o s.opened_at s.faults l s.next s.end s.failed (D.device s.dev).trace (moment (D.device s.dev).trace) (D.device s.dev).faults
    × IsLogSafe s.plant.items s.tags o s.opened_at l (LeftSince (D.device s.dev).trace)) (sym c.push_reserved.ensures.items) (
      put_legal s.tags o s.opened_at tape row s.acked was.0 (record { tag = tag; point = c.requires }),
      put_room s.tags o s.opened_at tape row (vec_capacity s.tape) places s.count s.room was.1
          (omega (arith, was.1.within, c.if-self-2.false)) c.push_reserved.ensures.capacity,
      put_waits s.tags o s.opened_at tape row s.next s.acked was.2,
      put_kept s.tags o s.opened_at tape row s.plant.items s.faults s.next s.end s.acked s.failed (D.device s.dev).trace (moment (D.device s.dev).trace)
          (D.device s.dev).faults was.2 was.3,
      put_safe s.tags o s.opened_at tape row s.plant.items (LeftSince (D.device s.dev).trace) was.4,
    ) in
    (now.0, now.1, now.2, now.3, now.4, was.5, was.6)
