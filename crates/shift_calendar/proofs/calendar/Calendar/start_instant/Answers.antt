use Rattle.std.proofs.Common.{◌≡◌, ◌<◌, ◌∙◌, ℕ, List, map, slice_index, length, ap, sym, subst, FitsSigned, w32, to_z-of_z}
use Rattle.std.proofs.lemmas.List.{get_or-map, length-map}
use Rattle.jiff.specs.Words.{plain_zone}
use Rattle.shift_calendar.specs.{Start, CalendarParts, IsInstant}
use Rattle.shift_calendar.proofs.calendar.Calendar.start_instant.Goals as goal

-- The minute of the start at a place is the one that a clause sees there.
pub returns-clause-instant : goal.returns-clause-instant
returns-clause-instant c =
    let inside = c.self.inside in
    let items : List Start = inside.starts.items in
    let minutes : List ℕ = map (λ (s : Start). s.minute) items in
    let fits : FitsSigned w32 c.args.day = c.ranges.day in
    let start : Start = c.index-start.result.now in
    let seen : c.args.place < length minutes = subst (λ (p : CalendarParts). c.args.place < length p.starts) (sym c.self.view_is) c.requires.there in
    let there : c.args.place < length items = simp length-map at seen in
    let minute : slice_index minutes c.args.place ≡ start.minute =
    get_or-map (λ (s : Start). s.minute) items c.args.place start 0 there ∙ ap (λ (s : Start). s.minute) (sym c.index-start.ensures) in
    let here : IsInstant (plain_zone inside.zone) c.args.day (slice_index minutes c.args.place) c.instant.result =
    subst (λ m. IsInstant (plain_zone inside.zone) c.args.day m c.instant.result) (sym minute)
    (subst (λ d. IsInstant (plain_zone inside.zone) d start.minute c.instant.result) (to_z-of_z fits) c.instant.ensures.instant) in
    subst (λ (p : CalendarParts). IsInstant p.zone c.args.day (slice_index p.starts c.args.place) c.instant.result) c.self.view_is here
