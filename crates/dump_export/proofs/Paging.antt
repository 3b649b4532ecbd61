-- A range of a page is that of the file.
use Rattle.std.specs.Prelude.{min}
use Rattle.std.proofs.Common.{◌≡◌, ℕ, ◌+◌, ◌-◌, ◌≤◌, List, length, take, drop, arith, ap, ◌∙◌}
use Rattle.std.proofs.lemmas.List.{drop-drop, drop-take, drop_min, length-drop, take-take, take_min}
use Rattle.dump_export.specs.Pages.{IsPageOf}
use Rattle.dump_export.specs.declared.page.Page.{Page}

-- a range of a page
pub paged : (page : Page) (file : List ℕ) (at len : ℕ) → IsPageOf page file → page.at ≤ at → at + len ≤ page.at + page.len
    → take len (drop (at - page.at) page.bytes.items) ≡ take len (drop at file)
paged page file at len is low high =
    let front : ℕ = at - page.at in
    let rest : ℕ = page.len - front in
    let whole : page.len ≡ front + rest = omega (arith, low, high) in
    let place : page.at + front ≡ at = omega (arith, low) in
    ap (λ (bytes : List ℕ). take len (drop front bytes)) (is ∙ ap (λ (n : ℕ). take n (drop page.at file)) whole)
    ∙ ap (take len) (drop-take front rest (drop page.at file) ∙ ap (take rest) (drop-drop front page.at file ∙ ap (λ (n : ℕ). drop n file) place))
    ∙ take-take len rest (drop at file) (omega (arith, low, high))

-- a range of bytes, as far as they go
pub cut_short : (bytes : List ℕ) (front len from to : ℕ) → from ≡ min front (length bytes) → to ≡ min (front + len) (length bytes)
    → take (to - from) (drop from bytes) ≡ take len (drop front bytes)
cut_short bytes front len from to begins ends =
    let rest : List ℕ = drop front bytes in
    let many : to - from ≡ min len (length rest) = omega (arith, begins, ends, length-drop front bytes) in
    ap (λ (l : List ℕ). take (to - from) l) (ap (λ (n : ℕ). drop n bytes) begins ∙ drop_min front bytes) ∙ ap (λ (n : ℕ). take n rest) many ∙ take_min len rest
