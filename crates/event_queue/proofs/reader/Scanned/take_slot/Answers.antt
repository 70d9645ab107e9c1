use Rattle.std.proofs.Common.{◌≡◌, ◌+◌, ◌*◌, ◌<◌, ◌⊎◌, inl, inr, cond, refl, arith}
use Rattle.std.proofs.lemmas.Bool.{cond-true, cond-false, true≢false}
use Rattle.archive_file.specs.declared.failure.ScanNo.TheVariants.{Damaged}
use Rattle.event_queue.proofs.Steps.{damage_here}
use Rattle.event_queue.proofs.Taken.{fields_read, within_more, count_breaks, first_breaks, point_breaks, taken_in}
use Rattle.event_queue.proofs.reader.Scanned.take_slot.Goals as goal

pub returns-then-count-eq0-clause-damaged : goal.returns-then-count-eq0-clause-damaged
returns-then-count-eq0-clause-damaged c = λ a byte told bytes at_slot read.
    let slots = c.args.self.now.lane.slots in
    let slot = c.args.slot.now in
    let same : c.damage.result ≡ Damaged a byte = cc (told) in
    let fields = fields_read slot _ _ _ _ c.take_number-first.ensures.number c.take_number-first.ensures.rest
    c.take_count-count.ensures.number c.take_count-count.ensures.rest in
    let bad : (c.take_count-count.result.0 ≡ 0) ⊎ (64 < c.take_count-count.result.0) = grind arith in
    damage_here slots c.args.taken bytes c.args.k slot 8 a byte c.damage.result c.requires.there read.lane
    at_slot
    (inl (count_breaks slots c.args.taken bytes c.args.k _ _ slot _ fields at_slot bad)) (omega arith)
    (cc) same

pub returns-then-not-follows-clause-damaged : goal.returns-then-not-follows-clause-damaged
returns-then-not-follows-clause-damaged c = λ a byte told bytes at_slot read.
    let slots = c.args.self.now.lane.slots in
    let slot = c.args.slot.now in
    let same : c.damage-then-not-follows.result ≡ Damaged a byte = cc (told) in
    let fields = fields_read slot _ _ _ _ c.take_number-first.ensures.number c.take_number-first.ensures.rest
    c.take_count-count.ensures.number c.take_count-count.ensures.rest in
    damage_here slots c.args.taken bytes c.args.k slot 0 a byte c.damage-then-not-follows.result
    c.requires.there read.lane at_slot
    (inr (inl (grind (arith, first_breaks, true≢false)))) (omega arith)
    (cc) same

pub returns-in-Some-clause-damaged : goal.returns-in-Some-clause-damaged
returns-in-Some-clause-damaged c = λ a byte told bytes at_slot read.
    let slots = c.args.self.now.lane.slots in
    let slot = c.args.slot.now in
    let i = c.in-Some.i in
    let same : c.damage-in-Some.result ≡ Damaged a byte = cc (told) in
    let fields = fields_read slot _ _ _ _ c.take_number-first.ensures.number c.take_number-first.ensures.rest
    c.take_count-count.ensures.number c.take_count-count.ensures.rest in
    damage_here slots c.args.taken bytes c.args.k slot (10 + 16 * i) a byte c.damage-in-Some.result
    c.requires.there read.lane at_slot
    (inr (inr (
      i,
      point_breaks slots c.args.taken bytes c.args.k _ _ slot _ fields at_slot (omega arith)
          (omega arith) c.args.self.now read c.requires.within _ c.is_stale-stale.ensures
          (c.follows.ensures.0 c.if-not-follows.false) i c.in-Some.ensures.there c.in-Some.ensures.before
          c.in-Some.ensures.broken,
    ))) (omega (arith, c.in-Some.ensures.there))
    (cc) same

-- how many points were added
beyond_is : (c : goal.After-self-3-1) → c.if-stale.beyond ≡ cond c.is_stale-stale.result 0 c.take_count-count.result.0
beyond_is c = grind (arith, cond-true, cond-false)

pub returns-clause-within : goal.returns-clause-within
returns-clause-within c =
    let s = c.args.self.now in
    let rest = c.take_count-count.result.1.now in
    within_more s.lane.slots c.args.taken c.args.k c.take_number-first.result.0 c.take_count-count.result.0
    rest s _ c.is_stale-stale.result c.requires.within
    (c.follows.ensures.0 c.if-not-follows.false) (omega arith) c.in_default.ensures.none refl refl
    (cc (beyond_is c))
    (cc (c.in-Ok.ensures, beyond_is c)) refl

pub returns-clause-read : goal.returns-clause-read
returns-clause-read c = λ bytes at_slot read.
    let s = c.args.self.now in
    let slot = c.args.slot.now in
    let rest = c.take_count-count.result.1.now in
    let fields = fields_read slot _ _ _ _ c.take_number-first.ensures.number c.take_number-first.ensures.rest
    c.take_count-count.ensures.number c.take_count-count.ensures.rest in
    taken_in s.lane.slots c.args.taken bytes c.args.k _ _ slot rest fields at_slot (omega arith) (omega arith)
    s read c.requires.within _ c.is_stale-stale.ensures
    (c.follows.ensures.0 c.if-not-follows.false) _ c.in_default.ensures.none
    (cc (c.in-Ok.ensures, beyond_is c)) refl refl
