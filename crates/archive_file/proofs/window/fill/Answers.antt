use Rattle.std.proofs.Common.{◌≡◌, ◌≤◌, ◌++◌, take, drop, length, ap, ◌∙◌, arith, length-take, length-drop}
use Rattle.std.proofs.Math.Seq.{take-append_seam}
use Rattle.disk_model.specs.{seen}
use Rattle.archive_file.proofs.Windows.{filled, grown_front}
use Rattle.archive_file.proofs.window.fill.Goals as goal

pub returns-in-Ok-read_behind-clause-shown : goal.returns-in-Ok-read_behind-clause-shown
returns-in-Ok-read_behind-clause-shown g c =
    let s = seen (g.D.Disk.device c.args.dev.now).trace in
    let old = c.args.bytes.now.items in
    let new = c.read_behind.new.bytes in
    let done : c.len-done.result ≡ length old = omega (arith, c.len-done.ensures) in
    let low : c.len-done.result ≤ c.args.whole = omega (arith, done, c.requires.long) in
    let grown = c.deref_mut.result.now in
    let long : length grown ≡ c.args.whole = omega (arith, c.deref_mut.ensures.len, c.in-Ok.ensures.len) in
    let kept = grown_front old _ grown c.len-done.result c.args.whole done c.requires.long (c.deref_mut.ensures.value ∙ c.in-Ok.ensures.items) in
    let all : new ≡ take c.args.whole (drop c.args.at s) =
    filled s c.args.at c.len-done.result c.args.whole old grown new done low long kept
    c.requires.shown c.in-Ok-read_behind.ensures.read in
    let size : c.resize.new.self.len ≡ length new =
    omega (arith, c.in-Ok.ensures.len, ap length all, length-take c.args.whole (drop c.args.at s), length-drop c.args.at s, c.requires.there) in
    ap (λ n. take n (new ++ drop (length new) c.resize.new.self.items)) size ∙ take-append_seam new _ ∙ all
