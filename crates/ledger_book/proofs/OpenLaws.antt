-- Lemmas on the journals that wait: whether they gather is told by their headers.
use Rattle.std.specs.Prelude.{Bool, ◌&&◌}
use Rattle.std.specs.List.{list_all}
use Rattle.std.proofs.Common.{◌≡◌, ℕ, ◌+◌, ◌-◌, ◌≤◌, true, List, [], ◌∷◌, ◌++◌, length, map, take, drop, refl, ap, sym, ◌∙◌, arith, length-append, length-drop}
use Rattle.std.proofs.lemmas.Bool.{and_parts}
use Rattle.std.proofs.lemmas.List.{map-append, length-map, drop_at, drop-drop, drop-append-le, take_all}
use Rattle.journal_record.specs.Entry.{Entry}
use Rattle.journal_record.specs.declared.header.Header.{Header}
use Rattle.ledger_model.specs.History.{History, journals_of}
use Rattle.ledger_model.specs.Lawful.{gathers, AllGather}
use Rattle.ledger_book.specs.Books.{Kept, Stands, headers, sealed_size}
use Rattle.ledger_book.specs.Steps.{open_headers, OpenGathers}
use Rattle.ledger_book.proofs.StandsLaws.{waiting_count}

-- none waits
pub opens_empty : (k : Kept) → k.size ≡ k.sealed → OpenGathers k
opens_empty k empty = ap (λ n. list_all (λ (x : Header). gathers x.kind) (take n (drop (k.sealed - k.floor) k.headers))) (let none : k.size - k.sealed ≡ 0 = omega (arith, empty) in none)

-- one more waits
all_more : (xs : List Header) (x : Header) → list_all (λ (y : Header). gathers y.kind) xs ≡ true → gathers x.kind ≡ true → list_all (λ (y : Header). gathers y.kind) (xs ++ x ∷ []) ≡ true
all_more [] x all is = ap (λ v. v && true) is
all_more (y ∷ ys) x all is =
    let both = and_parts (gathers y.kind) (list_all (λ (z : Header). gathers z.kind) ys) all in
    ap (λ (v : Bool). v && list_all (λ (z : Header). gathers z.kind) (ys ++ x ∷ [])) both.0 ∙ all_more ys x both.1 is

pub opens_more : (floor sealed size : ℕ) (hs new : List Header) (x : Header) → floor + length hs ≡ size → sealed ≤ size → new ≡ hs ++ x ∷ [] → gathers x.kind ≡ true
    → list_all (λ (y : Header). gathers y.kind) (take (size - sealed) (drop (sealed - floor) hs)) ≡ true → list_all (λ (y : Header). gathers y.kind) (take (size + 1 - sealed) (drop (sealed - floor) new)) ≡ true
opens_more floor sealed size hs new x whole below headers_are is all =
    let at = sealed - floor in
    let ys = drop at hs in
    let low : at ≤ length hs = omega (arith, whole, below) in
    let count : length ys + at ≡ length hs = omega (arith, length-drop at hs, low) in
    let fewer : length ys ≤ size - sealed = omega (arith, count, whole, below) in
    let more : length (ys ++ x ∷ []) ≤ size + 1 - sealed = omega (arith, fewer, length-append ys (x ∷ []), below) in
    let before : take (size - sealed) ys ≡ ys = take_all (size - sealed) ys fewer in
    let after : take (size + 1 - sealed) (drop at new) ≡ ys ++ x ∷ [] =
    ap (λ l. take (size + 1 - sealed) (drop at l)) headers_are
    ∙ ap (take (size + 1 - sealed)) (drop-append-le at hs (x ∷ []) low)
    ∙ take_all (size + 1 - sealed) (ys ++ x ∷ []) more
    in
    ap (list_all (λ (y : Header). gathers y.kind)) after ∙ all_more ys x (ap (list_all (λ (y : Header). gathers y.kind)) (sym before) ∙ all) is

-- they are those of each history that the book stands for
abbrev header_of : Entry → Header
header_of e = e.header

all_headers : (es : List Entry) → list_all (λ (e : Entry). gathers e.header.kind) es ≡ list_all (λ (x : Header). gathers x.kind) (map header_of es)
all_headers [] = refl
all_headers (e ∷ es) = ap (λ v. gathers e.header.kind && v) (all_headers es)

waiting_headers : (h : History) → map header_of h.waiting ≡ drop (sealed_size h) (headers h)
waiting_headers h =
    sym (ap (drop (sealed_size h)) (map-append header_of (journals_of h.closed) h.waiting)
    ∙ drop_at (map header_of (journals_of h.closed)) (map header_of h.waiting) (sealed_size h) (length-map (journals_of h.closed) header_of))

told_headers : (k : Kept) (h : History) → Stands k h → map header_of h.waiting ≡ open_headers k
told_headers k h s =
    let same : map header_of h.waiting ≡ drop (k.sealed - k.floor) k.headers =
    waiting_headers h ∙ ap (λ n. drop n (headers h)) (omega (arith, s.counts.floor, s.counts.sealed_is))
    ∙ sym (drop-drop (k.sealed - k.floor) k.floor (headers h)) ∙ ap (drop (k.sealed - k.floor)) (sym s.tree.headers_are)
    in
    same ∙ sym (take_all (k.size - k.sealed) (drop (k.sealed - k.floor) k.headers) (omega (arith, ap length same, length-map h.waiting header_of, waiting_count k h s)))

pub opens_gather : (k : Kept) (h : History) → Stands k h → OpenGathers k → AllGather h.waiting
opens_gather k h s all = all_headers h.waiting ∙ ap (list_all (λ (x : Header). gathers x.kind)) (told_headers k h s) ∙ all
