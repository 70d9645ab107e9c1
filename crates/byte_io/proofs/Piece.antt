-- What one more piece adds to what was read or written before it.
use Rattle.std.proofs.Common.{◌≡◌, ℕ, ◌+◌, ◌-◌, ◌<◌, ◌≤◌, min, List, [], ◌++◌, length, take, drop, sym, ap, subst, ◌∙◌, arith, length-append, length-drop}
use Rattle.std.proofs.Math.Seq.{take-add}
use Rattle.std.proofs.lemmas.List.{drop-drop, length-take-le, nil_from_length, take-append-drop, take_at, take_rest}
use Rattle.std.proofs.KnownBytes.{Appends-trans, Consumes-trans}
use Rattle.byte_io.specs.Outside.{Outside, Takes, TakesExactly, TakesSome, Gains}

-- the first n bytes of a buffer were read after xs
pub TakesExactly-piece : (a b c : Outside) (xs buf : List ℕ) (n : ℕ) → Takes a b xs → Takes b c (take n buf) → n ≤ length buf
    → TakesExactly a c (length xs + n)
TakesExactly-piece a b c xs buf n before piece bound = (
  xs ++ take n buf,
  Consumes-trans a.content b.content c.content xs (take n buf) before piece,
  length-append xs (take n buf) ∙ ap (λ k. length xs + k) (length-take-le n buf bound),
)

-- the first n of the bytes past a place were written after those before it
pub Gains-piece : (a b c : Outside) (bytes : List ℕ) (at n : ℕ) → Gains a b (take at bytes)
    → Gains b c (take n (take (length bytes - at) (drop at bytes))) → Gains a c (take (at + n) bytes)
Gains-piece a b c bytes at n before piece =
    let next = subst (λ l. Gains b c (take n l)) (take_rest bytes at) piece in
    subst (Gains a c) (sym (take-add at n bytes))
    (Appends-trans a.content b.content c.content (take at bytes) (take n (drop at bytes)) before next)

-- the part of a buffer that n bytes were copied to
pub take-copied : (items copied rest : List ℕ) (at n : ℕ) → copied ≡ take n (drop at items) → n ≤ length (drop at items)
    → take n (copied ++ rest) ≡ take n (drop at items)
take-copied items copied rest at n is bound = take_at copied rest n (ap length is ∙ length-take-le n (drop at items) bound) ∙ is

-- what was copied, and what is left after it
pub front-rest : (items front : List ℕ) (at n : ℕ) → front ≡ take n (drop at items) → drop at items ≡ front ++ drop (at + n) items
front-rest items front at n is =
    sym (take-append-drop n (drop at items)) ∙ ap (λ l. l ++ drop n (drop at items)) (sym is) ∙ ap (λ l. front ++ l) (drop-drop n at items)

-- a number of bytes that is not 0 and not above another
pub TakesSome-exact : (a b : Outside) (m n : ℕ) → TakesExactly a b m → 0 < m → m ≤ n → TakesSome a b n
TakesSome-exact a b m n taken some bound = (taken.0, taken.1, omega (arith, taken.2), omega (arith, taken.2))

-- nothing is left where no byte was copied to a buffer with room
pub drop-none_copied : (items front buf : List ℕ) (at n : ℕ) → n ≡ min (length (drop at items)) (length buf) → front ≡ take n (drop at items)
    → n ≡ 0 → 0 < length (front ++ drop n buf) → drop (at + n) items ≡ []
drop-none_copied items front buf at n count is none room =
    let short : length front ≡ n = ap length is ∙ length-take-le n (drop at items) (omega (arith, count)) in
    let all : length (front ++ drop n buf) ≡ length buf = omega (arith, length-append front (drop n buf), length-drop n buf) in
    let empty : length (drop (at + n) items) ≡ 0 = omega (arith, length-drop at items, length-drop (at + n) items) in
    nil_from_length _ empty
