use Rattle.cell_tests.proofs.workers.session_on.Goals as goal

pub work_over-requires-clause-one : goal.work_over-requires-clause-one
work_over-requires-clause-one g c κs within = rw (c.deref.ensures, c.in-Some.ensures.first) c.in-Ok.ensures.one

pub work_over-requires-clause-looks : goal.work_over-requires-clause-looks
work_over-requires-clause-looks g c κs within = rw (c.deref.ensures, c.in-Some.ensures.first) c.in-Ok.ensures.looks
