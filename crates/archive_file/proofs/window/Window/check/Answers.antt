use Rattle.std.proofs.Common.{◌∙◌, subst}
use Rattle.archive_file.specs.{BreaksFirst}
use Rattle.archive_file.proofs.Windows.{window_first}
use Rattle.archive_file.proofs.window.Window.check.Goals as goal

pub returns-clause-damaged : goal.returns-clause-damaged
returns-clause-damaged g c = λ a byte told.
    window_first g.C.Rest.rest c.args.self.now.asked c.args.fields.now a byte c.requires.asked
    (subst (λ l. BreaksFirst l c.args.fields.now a byte) (c.deref.ensures.value ∙ c.requires.window.shown) (c.check.ensures.damaged a byte told))
