use Rattle.std.proofs.Common.{arith, ◌≡◌, ◌∙◌, Some}
use Rattle.std.proofs.lemmas.Result.{err_from_is_err_and}
use Rattle.disk_model.specs.{seen}
use Rattle.archive_file.specs.{summary_image}
use Rattle.device_layout.specs.{counting, slot_bytes, HasLayout, CountsSummary}
use Rattle.device_layout.proofs.{Shows.shows, Shows.shows_before, Shows.shows_after, Reading.cause_before, Reading.counts_summary, Reading.stored_some}
use Rattle.device_layout.proofs.layout_reader.read_stored.Goals as goal

pub returns-in_err-summary-clause-cause : goal.returns-in_err-summary-clause-cause
returns-in_err-summary-clause-cause g c def layout =
    let same = c.in_ok-slot.ensures.same in
    let counts = shows (g.D.Disk.device c.args.dev.now).trace _ (λ c'. counting c' ≡ Some c.in-Some.slot) (λ c' is. is
    ∙ c.in-Some.is) c.in_ok-slot.ensures.slot in
    let p = err_from_is_err_and c.from_residual-in_err-summary.result c.from_residual-in_err-summary.ensures.1 in
    rw (p.1, p.2)
    (cause_before def _ _ _ same
    (c.in_err-summary.ensures.cause def c.args.header.now.slots c.args.header.now.def.tuning
    (shows_after _ _ (HasLayout def c.args.header.now.slots c.args.header.now.def.tuning) same layout)
    (shows_after _ _ (λ c'. counting c' ≡ Some c.in-Some.slot) same counts)))

pub returns-in_default-clause-found : goal.returns-in_default-clause-found
returns-in_default-clause-found g c def layout = grind (arith, c.in_ok-slot.ensures.slot ∙ c.in_default.is)

pub returns-clause-found : goal.returns-clause-found
returns-clause-found g c def layout = grind (arith, shows, shows_before, counts_summary, stored_some)

pub returns-in_err-recs-clause-cause : goal.returns-in_err-recs-clause-cause
returns-in_err-recs-clause-cause g c def layout =
    let slots = c.args.header.now.slots in
    let slot = c.in-Some.slot in
    let s = c.in_ok-summary.summary in
    let same = c.in_ok-slot.ensures.same in
    let both = c.in_ok-summary.ensures.same ∙ same in
    let counts = shows (g.D.Disk.device c.args.dev.now).trace _ (λ c'. counting c' ≡ Some slot) (λ c' is. is ∙ c.in-Some.is) c.in_ok-slot.ensures.slot in
    let bytes = shows_before _ _ (λ c'. slot_bytes c' slot ≡ summary_image s) same c.in_ok-summary.ensures.bytes in
    let has = counts_summary def slots _ slot s c.in_force-tuning.result (seen (g.D.Disk.device c.args.dev.now).trace) layout counts c.in_ok-summary.ensures.whole bytes
    c.in_force-tuning.ensures.value in
    let p = err_from_is_err_and c.from_residual-in_err-recs.result c.from_residual-in_err-recs.ensures.1 in
    rw (p.1, p.2)
    (cause_before def _ _ _ both
    (c.in_err-recs.ensures.cause def slot c.in_force-tuning.result
    (shows_after _ _ (CountsSummary def slots slot s c.in_force-tuning.result) both has)))
