use Rattle.std.proofs.Common.{◌≡◌, true, false, [], List, Bool, length, subst, ap, ◌∙◌, arith}
use Rattle.event_frames.specs.{Edit, Frame, AreEdits, FramesState, AddsMissing, truths_with}
use Rattle.event_frames.proofs.Changing.{truths_of-row_with, window_bound}
use Rattle.event_frames.proofs.Differing.{edits_are}
use Rattle.event_frames.proofs.frames.Frames.apply.Goals as goal

pub push_near-requires-clause-bound : goal.push_near-requires-clause-bound
push_near-requires-clause-bound c = λ k d inside.
    let truths : c.self.inside.levels.truths ≡ c.args.self.now.truths = ap (λ (s : FramesState). s.truths) c.self.view_is in
    let bound = window_bound (length c.args.self.now.truths) c.args.changes.now c.requires k d inside in
    omega (arith, bound, ap length truths, c.in_ok-reserve.ensures.few)

pub push_near-requires-2-clause-bound : goal.push_near-requires-2-clause-bound
push_near-requires-2-clause-bound c = λ k d inside.
    let truths : c.self.inside.levels.truths ≡ c.args.self.now.truths = ap (λ (s : FramesState). s.truths) c.self.view_is in
    let bound = window_bound (length c.args.self.now.truths) c.args.changes.now c.requires k d inside in
    omega (arith, bound, ap length truths, c.in_ok-reserve.ensures.few)

pub returns-clause-row : goal.returns-clause-row
returns-clause-row c = λ row is.
    let old : c.reserve.new.self.truths ≡ c.args.self.now.truths =
    c.in_ok-reserve.ensures.same ∙ ap (λ (s : FramesState). s.truths) c.self.view_is in
    c.put_changes.ensures.truths ∙ (ap (λ (ts : List Bool). truths_with ts c.args.changes.now) (old ∙ is)
    ∙ truths_of-row_with row c.args.changes.now)

pub returns-clause-edits : goal.returns-clause-edits
returns-clause-edits c =
    let cs = c.args.changes.now in
    let first = c.push_missing.new.edits.items in
    let second = c.push_missing-2.new.edits.items in
    let os = c.push_near.new.frames.items in
    let ns = c.push_near-2.new.frames.items in
    let old = c.reserve.new.self.truths in
    let new = c.put_changes.new.levels.truths in
    let least = c.self.inside.least in
    let old_is : old ≡ c.args.self.now.truths =
    c.in_ok-reserve.ensures.same ∙ ap (λ (s : FramesState). s.truths) c.self.view_is in
    let least_is : least ≡ c.args.self.now.least = ap (λ (s : FramesState). s.least) c.self.view_is in
    let gone : AddsMissing [] first false os ns (length os) =
    subst (λ (es : List Edit). AddsMissing es first false os ns (length os)) c.in_ok-edits.ensures.items
    (subst (λ (fs : List Frame). AddsMissing c.in_ok-edits.edits.items first false fs ns (length fs)) c.deref.ensures.value
    (subst (λ (gs : List Frame). AddsMissing c.in_ok-edits.edits.items first false c.deref.result.now gs (length c.deref.result.now))
    c.deref-2.ensures.value c.push_missing.ensures.added)) in
    let came : AddsMissing first second true ns os (length ns) =
    subst (λ (fs : List Frame). AddsMissing first second true fs os (length fs)) c.deref-3.ensures.value
    (subst (λ (gs : List Frame). AddsMissing first second true c.deref-3.result.now gs (length c.deref-3.result.now))
    c.deref-4.ensures.value c.push_missing-2.ensures.added) in
    subst (λ (ts : List Bool). AreEdits ts new c.args.self.now.least second) old_is
    (subst (λ n. AreEdits old new n second) least_is
    (edits_are old new least cs (length cs) os ns first second c.put_changes.ensures.changed c.push_near.ensures.frames
    c.push_near-2.ensures.frames gone came))
