use Rattle.std.proofs.Common.{Err, ap, refl}
use Rattle.session_audit.proofs.Saves.{saved_on, unfailed, unsaved_cause, unsaved_more}
use Rattle.session_audit.proofs.group_refreshing.save_group.Goals as goal

pub returns-in-Ok-clause-saved : goal.returns-in-Ok-clause-saved
returns-in-Ok-clause-saved g c =
    (saved_on g.D.Disk.device c.args.book.now c.save.new.self c.args.book.now.dev refl (λ none. (c.save.ensures.none none).1)
    c.in-Ok.ensures.saved (unfailed c.args.book.now.failed (λ down. absurd (cc (c.in-Ok.ensures.broken.1 down))))).0

pub returns-in-Ok-clause-gained : goal.returns-in-Ok-clause-gained
returns-in-Ok-clause-gained g c =
    (saved_on g.D.Disk.device c.args.book.now c.save.new.self c.args.book.now.dev refl (λ none. (c.save.ensures.none none).1)
    c.in-Ok.ensures.saved (unfailed c.args.book.now.failed (λ down. absurd (cc (c.in-Ok.ensures.broken.1 down))))).1

pub returns-in-Err-clause-gained : goal.returns-in-Err-clause-gained
returns-in-Err-clause-gained g c =
    unsaved_more c.args.book.now c.save.new.self c.in-Err.no (λ is. c.in-Err.ensures.faulted (ap Err is))
    (λ is. c.in-Err.ensures.still_broken (ap Err is)) (λ is. c.in-Err.ensures.untouched (ap Err is))

pub returns-in-Err-clause-refused : goal.returns-in-Err-clause-refused
returns-in-Err-clause-refused g c = record {
  why = c.in-Err.no;
  cause = unsaved_cause c.args.book.now c.save.new.self c.in-Err.no (λ is. c.in-Err.ensures.faulted (ap Err is))
      (λ is. (c.in-Err.ensures.broken.0 (ap Err is), c.in-Err.ensures.still_broken (ap Err is)));
  told = c.save_status.ensures;
}
