use Rattle.std.proofs.Common.{◌-◌, ◌<◌, ◌≤◌, subst, sym, arith, get_or}
use Rattle.late_insert.specs.{begin_of}
use Rattle.late_insert.proofs.Halving.{all_early, halved_up, halved_down}
use Rattle.late_insert.proofs.Finding.{no_page}
use Rattle.late_insert.proofs.directory.Directory.page_by.Goals as goal

pub loop-low-preserved-then-begin-x-2 : goal.loop-low-preserved-then-begin-x-2
loop-low-preserved-then-begin-x-2 c =
    let early = subst (λ n. n ≤ c.args.x) (sym (c.begin-in-loop-low.ensures no_page)) c.if-begin-x-2.true in
    halved_up (begin_of c.args.key) c.args.self.now.items c.args.x c.loop-low.low c.loop-low.high _ no_page
    c.requires.rising
    c.loop-low.invariant (omega (arith, c.loop-low-test.true)) (omega (arith, c.loop-low-test.true)) early

pub loop-low-preserved : goal.loop-low-preserved
loop-low-preserved c =
    let late = subst (λ n. c.args.x < n) (sym (c.begin-in-loop-low.ensures no_page)) c.if-begin-x-2.false in
    halved_down (begin_of c.args.key) c.args.self.now.items c.args.x c.loop-low.low c.loop-low.high _ no_page
    c.requires.rising
    c.loop-low.invariant (omega (arith, c.loop-low-test.true)) (omega (arith, c.loop-low-test.true)) late

pub returns-then-begin-x-clause-last : goal.returns-then-begin-x-clause-last
returns-then-begin-x-clause-last c =
    let last = c.len-last.ensures in
    let early = subst (λ n. begin_of c.args.key (get_or c.args.self.now.items (n - 1) no_page) ≤ c.args.x) last
    (subst (λ n. n ≤ c.args.x) (sym (c.begin.ensures no_page)) c.if-begin-x.true) in
    record {
      before = λ k d some upto.
          all_early (begin_of c.args.key) c.args.self.now.items c.args.x no_page c.requires.rising
          c.requires.some early k d (omega arith);
      after = λ k d past inside. absurd (omega arith);
    }
