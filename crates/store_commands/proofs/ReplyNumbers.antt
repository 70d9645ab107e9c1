-- Replies and readers, one more at the end.
use Rattle.std.proofs.Common.{◌≡◌, ℕ, ◌+◌, ◌<◌, List, [], ◌∷◌, ◌++◌, length, map, take, get_or, codes, sym, ap, ◌∙◌, arith, append-nil, append_assoc}
use Rattle.std.specs.Fmt.{decimal}
use Rattle.std.proofs.lemmas.List.{length-map, length-take, map_more, take_more}
use Rattle.value_rows.specs.{Query}
use Rattle.tag_core.specs.Core.{Core}
use Rattle.trend_report.specs.{ReplyText, reply_text, told_text}
use Rattle.store_commands.specs.{Rows, replies_from, reply_line, told, told_from}

-- the reply to one query more
replies_push : (cores : List Core) (groups : List Rows) (reader row : ℕ) (qs : List Query) (q : Query)
    → replies_from cores groups reader row (qs ++ q ∷ [])
    ≡ replies_from cores groups reader row qs ++ reply_line cores groups reader (row + length qs) q
replies_push cores groups reader row [] q =
    let number : row ≡ row + 0 = omega arith in
    append-nil (reply_line cores groups reader row q) ∙ ap (λ n. reply_line cores groups reader n q) number
replies_push cores groups reader row (x ∷ qs) q =
    let rest = replies_push cores groups reader (row + 1) qs q in
    let first = reply_line cores groups reader row x in
    let before = replies_from cores groups reader (row + 1) qs in
    let number : row + 1 + length qs ≡ row + length (x ∷ qs) = omega arith in
    ap (λ l. first ++ l) (rest ∙ ap (λ n. before ++ reply_line cores groups reader n q) number)
    ∙ sym (append_assoc first before (reply_line cores groups reader (row + length (x ∷ qs)) q))

-- the replies up to a query, and that one
pub replies_more : (cores : List Core) (groups : List Rows) (reader : ℕ) (qs : List Query) (i : ℕ) (q : Query) → i < length qs
    → replies_from cores groups reader 1 (take (i + 1) qs)
    ≡ replies_from cores groups reader 1 (take i qs) ++ reply_line cores groups reader (i + 1) (get_or qs i q)
replies_more cores groups reader qs i q within =
    let number : 1 + length (take i qs) ≡ i + 1 = omega (arith, length-take i qs) in
    let last = get_or qs i q in
    ap (replies_from cores groups reader 1) (take_more qs i q within)
    ∙ (replies_push cores groups reader 1 (take i qs) last
    ∙ ap (λ n. replies_from cores groups reader 1 (take i qs) ++ reply_line cores groups reader n last) number)

-- the replies to one reader more
told_push : (cores : List Core) (groups : List Rows) (reader : ℕ) (rs : List (List Query)) (qs : List Query)
    → told_from cores groups reader (rs ++ qs ∷ [])
    ≡ told_from cores groups reader rs ++ replies_from cores groups (reader + length rs) 1 qs
told_push cores groups reader [] qs =
    let number : reader ≡ reader + 0 = omega arith in
    append-nil (replies_from cores groups reader 1 qs) ∙ ap (λ n. replies_from cores groups n 1 qs) number
told_push cores groups reader (x ∷ rs) qs =
    let rest = told_push cores groups (reader + 1) rs qs in
    let first = replies_from cores groups reader 1 x in
    let before = told_from cores groups (reader + 1) rs in
    let number : reader + 1 + length rs ≡ reader + length (x ∷ rs) = omega arith in
    ap (λ l. first ++ l) (rest ∙ ap (λ n. before ++ replies_from cores groups n 1 qs) number)
    ∙ sym (append_assoc first before (replies_from cores groups (reader + length (x ∷ rs)) 1 qs))

-- the replies to the readers up to one, and to that one
pub told_more : {R : Type 0} (cores : List Core) (groups : List Rows) (queries : R → List Query) (rs : List R) (i : ℕ) (r : R)
    → i < length rs → r ≡ get_or rs i r → told_from cores groups 1 (map queries (take (i + 1) rs))
    ≡ told_from cores groups 1 (map queries (take i rs)) ++ replies_from cores groups (i + 1) 1 (queries r)
told_more cores groups queries rs i r within there =
    let before = map queries (take i rs) in
    let last = queries r in
    let many = length-map (take i rs) queries in
    let number : 1 + length before ≡ i + 1 = omega (arith, many, length-take i rs) in
    let told = told_from cores groups 1 before in
    ap (told_from cores groups 1) (map_more queries rs i r within ∙ ap (λ x. before ++ queries x ∷ []) (sym there))
    ∙ (told_push cores groups 1 before last ∙ ap (λ n. told ++ replies_from cores groups n 1 last) number)

-- the line of a reply
pub line_told : (cores : List Core) (groups : List Rows) (reader row : ℕ) (query : Query) (reply : ReplyText)
    → told_text reply ≡ told cores groups query → reply_text reader row reply ≡ reply_line cores groups reader row query
line_told cores groups reader row query reply is =
    ap (λ t. codes "reply " ++ decimal reader ++ codes " " ++ decimal row ++ codes " " ++ t ++ codes "\n") is
