-- How many records are on each page.
use Rattle.std.proofs.Common.{◌≡◌, ℕ, ◌+◌, ◌-◌, ◌<◌, ◌≤◌, ◌⊎◌, inl, inr, cond, List, [], ◌∷◌, ◌++◌, length, get_or, take, drop, Option, All, sum, nat_lt, refl, sym, ap, ◌∙◌, subst, arith, append_assoc, length-append}
use Rattle.std.proofs.lemmas.Bool.{cases_lt}
use Rattle.std.proofs.lemmas.List.{drop_all, get_or_at, length-map, take_at}
use Rattle.std.proofs.lemmas.List.Sums.{sum-map, sum_by-append, sum_by-cons, count_by-le-length}
use Rattle.std.proofs.lemmas.List.Concat.{length-flat_map}
use Rattle.std.proofs.lemmas.List.Elements.{All-nil, All-cons, All-head, All-tail, All-append, All-map, All-weaker}
use Rattle.trend_num.specs.{Rec}
use Rattle.page_pool.specs.{Frame}
use Rattle.late_insert.specs.{Page, records_at, page_in, page_records_of, lengths_of, ArePages, ArePagesFrom, IsFor, IsPageRead, AreFull, ArePagesFilled, IsGrown, IsHalved, IsPutAmong, place_in}
use Rattle.trend_model.specs.{placed}
use Rattle.trend_model.proofs.Placing.{time, AllBefore}
use Rattle.late_insert.proofs.Filling.{placed_last}
use Rattle.late_insert.proofs.Summing.{length-records_in}
use Rattle.late_insert.proofs.Finding.{no_page}
use Rattle.late_insert.proofs.Joining.{all_right, records-around, lengths-around}
use Rattle.late_insert.proofs.Reading.{at_place, frame_page, page_len, count_all, count_none}

-- together they are all records
pub sum_lengths : (pool : List (Option Frame)) (pages : List Page)
    → sum (lengths_of pool pages) ≡ length (page_records_of pool pages)
sum_lengths pool pages = sum-map (λ p. length (page_in pool p)) pages ∙ sym (length-flat_map (page_in pool) pages)

-- and no page has more than its frame has room for
pub most_lengths : (pool : List (Option Frame)) (place : ℕ) (pages : List Page) → ArePagesFrom pool place pages
    → All (λ n. n ≤ 128) (lengths_of pool pages)
most_lengths pool place [] each = All-nil (λ n. n ≤ 128)
most_lengths pool place (p ∷ ps) each =
    let there = ap (λ o. length (records_at o)) each.0.there in
    All-cons (λ n. n ≤ 128) (length (page_in pool p)) (lengths_of pool ps)
    (omega (arith, length-records_in each.0.frame, each.0.page.recorded.few))
    (most_lengths pool (place + length (page_in pool p)) ps each.1)

-- a page among the others, and where it begins
pub length_at : (pool : List (Option Frame)) (pages : List Page) (k : ℕ) (p : Page) (f : Frame)
    → IsPageRead pool pages k p f
    → lengths_of pool pages ≡ lengths_of pool (take k pages) ++ f.len ∷ lengths_of pool (drop (k + 1) pages)
length_at pool pages k p f is =
    lengths-around pool pages k p is.within
    ∙ ap (λ n. lengths_of pool (take k pages) ++ n ∷ lengths_of pool (drop (k + 1) pages))
    (page_len pool pages k p f is p)

pub first_at : (pool : List (Option Frame)) (pages : List Page) (k : ℕ) (p : Page) (f : Frame)
    → IsPageRead pool pages k p f → p.first ≡ sum (lengths_of pool (take k pages))
first_at pool pages k p f is = (at_place pool pages k p f is).first ∙ sym (sum_lengths pool (take k pages))

-- ---- the place of a time

module _ (pool : List (Option Frame)) (pages : List Page) (k t : ℕ) (d : Page) (found : IsFor pool pages k t) where
  abbrev front : List Rec
  front = page_records_of pool (take k pages)

  abbrev here : List Rec
  here = page_in pool (get_or pages k d)

  abbrev behind : List Rec
  behind = page_records_of pool (drop (k + 1) pages)

  abbrev counts : Rec → ℕ
  counts r = cond (nat_lt (time r) t) 1 0

  counted : place_in (page_records_of pool pages) t ≡ length front + place_in here t
  counted =
      let parts = ap (λ l. place_in l t) (records-around pool pages k d found.within) in
      let first = sum_by-append counts front (here ++ behind) in
      let second = sum_by-append counts here behind in
      let all = count_all t front found.before in
      let none = count_none t behind (All-weaker (λ r. t < time r) (λ r. t ≤ time r) (λ r later. omega arith) behind
      found.after) in
      omega arith

  -- it is on the page for the time, or at its end
  pub place_from : sum (lengths_of pool (take k pages)) ≤ place_in (page_records_of pool pages) t
  place_from = omega (arith, counted, sum_lengths pool (take k pages))

  pub place_upto : place_in (page_records_of pool pages) t ≤ sum (lengths_of pool (take k pages)) + length here
  place_upto =
      let most = count_by-le-length (λ r. nat_lt (time r) t) here in
      omega (arith, counted, sum_lengths pool (take k pages))

  -- the page for a time was split
  pub halved : (new : List ℕ) → length here ≡ 128
      → new ≡ lengths_of pool (take k pages) ++ 64 ∷ 64 ∷ lengths_of pool (drop (k + 1) pages)
      → IsHalved (lengths_of pool pages) (place_in (page_records_of pool pages) t) new
  halved new full now = record {
    front = lengths_of pool (take k pages);
    back = lengths_of pool (drop (k + 1) pages);
    was = lengths-around pool pages k d found.within
        ∙ ap (λ m. lengths_of pool (take k pages) ++ m ∷ lengths_of pool (drop (k + 1) pages)) full;
    now = now;
    from = place_from;
    upto = omega (arith, place_upto, full);
  }

-- also where it was read
pub halved_at : (pool : List (Option Frame)) (pages : List Page) (k t : ℕ) (p : Page) (f : Frame) → IsPageRead pool pages k p f
    → IsFor pool pages k t → 128 ≤ f.len → (new : List ℕ)
    → new ≡ lengths_of pool (take k pages) ++ 64 ∷ 64 ∷ lengths_of pool (drop (k + 1) pages)
    → IsHalved (lengths_of pool pages) (place_in (page_records_of pool pages) t) new
halved_at pool pages k t p f is found full new now =
    halved pool pages k t p found new
    (omega (arith, page_len pool pages k p f is p, (frame_page pool pages k p f is).recorded.few)) now

-- ---- pages before and after a put

-- pages with room for one more are the pages as they were, or with a full one in halves: on one of them it goes
pub put_among : (old mid new : List ℕ) (place by : ℕ) → (mid ≡ old) ⊎ IsHalved old place mid
    → IsGrown mid place by new → IsPutAmong old place by new
put_among old mid new place by (inl same) grown = inl (subst (λ ns. IsGrown ns place by new) same grown)
put_among old mid new place by (inr halved) grown = inr (mid, halved, grown)

module _ (pool : List (Option Frame)) (pages : List Page) (paged : ArePages pool pages) where
  -- where all records are before the end of a page, no page is after it
  none_behind : (front : List ℕ) (here : ℕ) (back : List ℕ) → lengths_of pool pages ≡ front ++ here ∷ back
      → length (page_records_of pool pages) ≤ sum front + here → back ≡ []
  none_behind front here [] are upto = refl
  none_behind front here (b ∷ bs) are upto =
      let Some : ℕ → Type 0 = λ n. 0 < n in
      let many : 1 < length pages = omega (
        arith,
        ap length are,
        length-append front (here ∷ b ∷ bs),
        length-map pages (λ p. length (page_in pool p)),
      ) in
      let each = subst (All Some) are (All-map Some (λ p. length (page_in pool p)) pages (paged.filled many)) in
      let some : 0 < b = All-head Some b bs (All-tail Some here (b ∷ bs) (all_right Some front (here ∷ b ∷ bs) each))
      in
      absurd (omega (
        arith,
        ap sum are,
        sum_lengths pool pages,
        sum_by-append (λ n. n) front (here ∷ b ∷ bs),
        sum_by-cons (λ n. n) here (b ∷ bs),
        sum_by-cons (λ n. n) b bs,
      ))

  -- the last page among the others
  pub ends : (d : Page) → lengths_of pool pages ≡ lengths_of pool (take (length pages - 1) pages)
      ++ length (page_in pool (get_or pages (length pages - 1) d)) ∷ []
  ends d =
      let last : length pages - 1 < length pages = omega (arith, paged.some) in
      lengths-around pool pages (length pages - 1) d last
      ∙ ap (λ ps. lengths_of pool (take (length pages - 1) pages)
      ++ length (page_in pool (get_or pages (length pages - 1) d)) ∷ lengths_of pool ps)
      (drop_all (length pages - 1 + 1) pages (omega (arith, paged.some)))

  -- a full page at the end is the last one
  full_end : (front : List ℕ) → lengths_of pool pages ≡ front ++ 128 ∷ []
      → (d : Page) → length (page_in pool (get_or pages (length pages - 1) d)) ≡ 128
  full_end front are d =
      let two = sym (ends d) ∙ are in
      let long = length-map (take (length pages - 1) pages) (λ p. length (page_in pool p)) in
      let many = length-map pages (λ p. length (page_in pool p)) in
      let first : length (lengths_of pool (take (length pages - 1) pages)) ≡ length front = omega (
        arith,
        ap length two,
        length-append (lengths_of pool (take (length pages - 1) pages))
            (length (page_in pool (get_or pages (length pages - 1) d)) ∷ []),
        length-append front (128 ∷ []),
      ) in
      sym (get_or_at (lengths_of pool (take (length pages - 1) pages))
      (length (page_in pool (get_or pages (length pages - 1) d))) [] 0 (length front) first)
      ∙ (ap (λ l. get_or l (length front) 0) two ∙ get_or_at front 128 [] 0 (length front) refl)

  -- after a full last page
  pub filled_fresh : (run : ℕ) (new : List ℕ)
      → ((d : Page) → length (page_in pool (get_or pages (length pages - 1) d)) ≡ 128)
      → new ≡ lengths_of pool pages ++ run ∷ [] → ArePagesFilled (lengths_of pool pages) run new
  filled_fresh run new full now =
      let front = lengths_of pool (take (length pages - 1) pages) in
      let was = ends no_page ∙ ap (λ n. front ++ n ∷ []) (full no_page) in
      record {
        front = front;
        last = 128;
        was = was;
        most = omega arith;
        room = λ short. absurd (omega arith);
        full = λ _. now ∙ (ap (λ ns. ns ++ run ∷ []) was ∙ append_assoc front (128 ∷ []) (run ∷ []));
      }

  -- on a last page with room
  pub filled_last : (mid new : List ℕ) (place : ℕ) → (mid ≡ lengths_of pool pages) ⊎ IsHalved
      (lengths_of pool pages) place mid
      → IsGrown mid place 1 new → length (page_records_of pool pages) ≤ place
      → ((d : Page) → length (page_in pool (get_or pages (length pages - 1) d)) < 128)
      → ArePagesFilled (lengths_of pool pages) 1 new
  filled_last mid new place (inl same) grown behind short =
      let was = sym same ∙ grown.was in
      let none = none_behind grown.front grown.here grown.back was (omega (arith, grown.upto, behind)) in
      record {
        front = grown.front;
        last = grown.here;
        was = subst (λ b. lengths_of pool pages ≡ grown.front ++ grown.here ∷ b) none was;
        most = omega (arith, grown.room);
        room = λ _. subst (λ b. new ≡ grown.front ++ (grown.here + 1) ∷ b) none grown.now;
        full = λ full. absurd (omega (arith, grown.room));
      }
  filled_last mid new place (inr halved) grown behind short =
      let none = none_behind halved.front 128 halved.back halved.was (omega (arith, halved.upto, behind)) in
      let are = subst (λ b. lengths_of pool pages ≡ halved.front ++ 128 ∷ b) none halved.was in
      absurd (omega (arith, full_end halved.front are no_page, short no_page))

-- the pages but the last
but_last : (front : List ℕ) (n : ℕ) (pages : List ℕ) → pages ≡ front ++ n ∷ [] → take (length pages - 1) pages ≡ front
but_last front n pages are =
    ap (λ l. take (length l - 1) l) are
    ∙ take_at front (n ∷ []) (length (front ++ n ∷ []) - 1) (omega (arith, length-append front (n ∷ [])))

-- pages of which each but the last is full stay so, where they are filled at the end
pub full_more : (old : List ℕ) (by : ℕ) (new : List ℕ) → ArePagesFilled old by new → AreFull old → AreFull new
full_more old by new filled full =
    let Full : ℕ → Type 0 = λ n. n ≡ 128 in
    let front = subst (All Full) (but_last filled.front filled.last old filled.was) full in
    elim (cases_lt filled.last 128) [
      | inl short ↦ subst (All Full)
          (sym (but_last filled.front (filled.last + by) new (filled.room short))) front
      | inr none ↦
          let last : filled.last ≡ 128 = omega (arith, filled.most) in
          let parts = filled.full last ∙ sym (append_assoc filled.front (filled.last ∷ []) (by ∷ [])) in
          subst (All Full) (sym (but_last (filled.front ++ filled.last ∷ []) by new parts))
          (All-append Full filled.front (filled.last ∷ []) front
          (All-cons Full filled.last [] last (All-nil Full)))
    ]

-- one record put in, on pages with room for it
module _ (pool mid new : List (Option Frame)) (pages roomy now : List Page) (r : Rec) (by : ℕ)
    (same : page_records_of mid roomy ≡ page_records_of pool pages)
    (made : (lengths_of mid roomy ≡ lengths_of pool pages) ⊎ IsHalved (lengths_of pool pages)
    (place_in (page_records_of pool pages) (time r)) (lengths_of mid roomy))
    (put : page_records_of new now ≡ placed r (page_records_of mid roomy))
    (more : length (page_records_of new now) ≡ length (page_records_of mid roomy) + by)
    (grown : IsGrown (lengths_of mid roomy) (place_in (page_records_of mid roomy) (time r)) by (lengths_of new now)) where
  there : IsGrown (lengths_of mid roomy) (place_in (page_records_of pool pages) (time r)) by (lengths_of new now)
  there = subst (λ l. IsGrown (lengths_of mid roomy) (place_in l (time r)) by (lengths_of new now)) same grown

  pub one_among : IsPutAmong (lengths_of pool pages) (place_in (page_records_of pool pages) (time r))
      (length (page_records_of new now) - length (page_records_of pool pages)) (lengths_of new now)
  one_among =
      let by_is : by ≡ length (page_records_of new now) - length (page_records_of pool pages) = omega
      (arith, more, ap length same) in
      subst (λ n. IsPutAmong (lengths_of pool pages) (place_in (page_records_of pool pages) (time r)) n (lengths_of new now))
      by_is (put_among _ _ _ _ by made there)

  pub one_behind : ArePages pool pages → AllBefore (page_records_of pool pages) (time r)
      → ((d : Page) → length (page_in pool (get_or pages (length pages - 1) d)) < 128)
      → ArePagesFilled (lengths_of pool pages) 1 (lengths_of new now)
  one_behind paged before short =
      let all = count_all (time r) (page_records_of pool pages) before in
      let last = placed_last r (page_records_of pool pages) before in
      let one : by ≡ 1 = omega (
        arith,
        more,
        ap length put,
        ap length same,
        ap (λ l. length (placed r l)) same,
        ap length last,
        length-append (page_records_of pool pages) (r ∷ []),
      ) in
      filled_last pool pages paged _ _ _ made
      (subst (λ n. IsGrown (lengths_of mid roomy) (place_in (page_records_of pool pages) (time r)) n (lengths_of new now)) one
      there) (omega (arith, all)) short
