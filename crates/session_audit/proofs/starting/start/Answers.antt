use Rattle.std.proofs.Common.{◌≡◌, ◌∙◌, ◌+◌, ◌<◌, [], All, IfSome, None, ap, sym, subst, arith, get_or, length}
use Rattle.std.proofs.lemmas.List.Elements.{All-get_or}
use Rattle.calc_refresh.specs.{lists_of}
use Rattle.session_audit.proofs.Numbers.{length-numbered}
use Rattle.session_audit.specs.{IsDueWithin}
use Rattle.session_audit.proofs.Files.{each_file, file_at, file_within}
use Rattle.session_audit.proofs.Starts.{AreStarted, known_rows, started_more}
use Rattle.session_audit.proofs.starting.start.Goals as goal

pub new-requires-clause-few : goal.new-requires-clause-few
new-requires-clause-few g c =
    omega (
      arith,
      length-numbered (g.K.Kind.item_of c.args.earlier c.loop-worker.worker) 1 c.deref.result.now,
      ap length (c.rows.ensures c.loop-worker.worker),
      c.deref.ensures.len,
      c.len.ensures,
      c.is_small-in-loop-worker.ensures.0 c.if-not-is_small-2.false,
    )

pub new-requires-clause-units : goal.new-requires-clause-units
new-requires-clause-units g c = λ i.
    let files = c.args.files.now in
    let at = c.loop-worker.worker in
    let many = c.args.units in
    let due = IsDueWithin (g.K.Kind.item_of c.args.earlier) many in
    let file : c.deref.result.now ≡ get_or (lists_of files) at [] = c.deref.ensures.value
    ∙ file_at files at c.index-files-worker.result [] c.loop-worker-test.true c.index-files-worker.is in
    subst (λ l. IfSome (get_or l i None) (λ item. item.unit < many)) (sym (c.rows.ensures at))
    (known_rows (g.K.Kind.item_of c.args.earlier) many at c.deref.result.now (subst (All due) (sym file)
    (All-get_or (All due) (lists_of files) at [] (file_within files at c.loop-worker-test.true)
    (each_file (All due) files c.requires))) i)

pub loop-worker-preserved : goal.loop-worker-preserved
loop-worker-preserved g c =
    let files = c.args.files.now in
    let at = c.loop-worker.worker in
    let file : c.deref.result.now ≡ get_or (lists_of files) at [] = c.deref.ensures.value
    ∙ file_at files at c.index-files-worker.result [] c.loop-worker-test.true c.index-files-worker.is in
    record {
      started = subst (AreStarted (g.K.Kind.item_of c.args.earlier) c.args.units (at + 1) (lists_of files)) (sym c.push_reserved.ensures.items)
          (started_more (g.K.Kind.item_of c.args.earlier) c.args.units at (lists_of files) c.loop-worker.works.items c.in_ok-work.work
          c.deref.result.now (file_within files at c.loop-worker-test.true) file
          (c.in_ok-work.ensures.items ∙ c.rows.ensures at) c.in_ok-work.ensures.units c.in_ok-work.ensures.unfound
          c.loop-worker.invariant.started);
      room = omega (arith, c.loop-worker.invariant.room, c.push_reserved.ensures.capacity);
    }
