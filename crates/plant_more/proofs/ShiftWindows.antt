-- The lines of windows, one window more.
use Rattle.std.proofs.Common.{◌≡◌, ℕ, ◌+◌, ◌<◌, List, [], ◌∷◌, ◌++◌, length, take, get_or, sym, ap, ◌∙◌}
use Rattle.std.specs.List.{flat_map}
use Rattle.std.proofs.lemmas.List.{append-nil, map_push, take_more}
use Rattle.std.proofs.lemmas.List.Concat.{flat_map-append}
use Rattle.std.proofs.lemmas.List.Elements.{All-push}
use Rattle.shift_calendar.specs.{IsDayWord, ShiftWindow}
use Rattle.plant_more.specs.{AreLines, DatedWindow, dated}

-- what is printed of one more window comes after the rest
pub window_more : (lines : DatedWindow → List ℕ) (windows : List ShiftWindow) (i : ℕ) (d : ShiftWindow) (word text more : List ℕ)
    → i < length windows → AreLines lines (take i windows) text → IsDayWord word (get_or windows i d).day
    → more ≡ text ++ lines (dated (get_or windows i d) word) → AreLines lines (take (i + 1) windows) more
window_more lines windows i d word text more within told is_word is =
    let w = get_or windows i d in
    let one = dated w word in
    record {
      dated = told.dated ++ one ∷ [];
      of_windows = map_push (λ (x : DatedWindow). x.window) told.dated one ∙ ap (λ l. l ++ w ∷ []) told.of_windows
          ∙ sym (take_more windows i d within);
      days = All-push (λ (x : DatedWindow). IsDayWord x.word x.window.day) told.dated one told.days is_word;
      same = is ∙ ap (λ t. t ++ lines one) told.same
          ∙ sym (flat_map-append lines told.dated (one ∷ []) ∙ ap (λ t. flat_map lines told.dated ++ t) (append-nil (lines one)));
    }
