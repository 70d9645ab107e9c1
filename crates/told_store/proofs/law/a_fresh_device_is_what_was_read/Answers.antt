use Rattle.std.proofs.Common.{sym, ap, ◌∙◌, subst}
use Rattle.disk_model.specs.{Traces.content, Images.IsImage}
use Rattle.told_store.proofs.law.a_fresh_device_is_what_was_read.Goals as goal

pub returns-clause-reads : goal.returns-clause-reads
returns-clause-reads c = λ t fresh. ap (λ es. content t.first es) fresh

pub returns-clause-settled : goal.returns-clause-settled
returns-clause-settled c = λ t fresh. record {
  each = λ image may. subst (λ es. IsImage t.first es image) fresh may.image ∙ sym (ap (λ es. content t.first es) fresh);
}
