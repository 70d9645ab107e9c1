use Rattle.std.proofs.Common.{◌≡◌, ◌+◌, ◌≤◌, ◌∙◌, length, take, ap, arith, length-take}
use Rattle.archive_file.specs.{number_bytes, short_at}
use Rattle.archive_file.proofs.Windows.{window_short, window_spells}
use Rattle.archive_file.proofs.window.Window.short_at.Goals as goal

pub returns-clause-value : goal.returns-clause-value
returns-clause-value g c = grind (arith, window_short)

pub returns-clause-spelled : goal.returns-clause-spelled
returns-clause-spelled g c = λ there.
    let shown : c.deref.result.now ≡ take c.args.self.now.asked g.C.Rest.rest = c.deref.ensures.value ∙ c.requires.window.shown in
    let long : c.args.at + 4 ≤ length c.deref.result.now = omega (arith, there, c.requires.asked, ap length shown, length-take c.args.self.now.asked g.C.Rest.rest) in
    window_spells g.C.Rest.rest c.args.self.now.asked c.args.at (c.args.at + 4) (number_bytes 4 (short_at g.C.Rest.rest c.args.at))
    (grind (arith, window_short))
