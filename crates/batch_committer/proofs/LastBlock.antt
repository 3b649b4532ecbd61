-- Where the journals of the last block stand.
use Rattle.std.proofs.Common.{◌≡◌, ℕ, ◌+◌, ◌-◌, ◌<◌, ◌≤◌, true, false, nat_lt, List, [], ◌∷◌, ◌++◌, length, refl, ap, ◌∙◌, arith, append-nil, length-append}
use Rattle.std.proofs.lemmas.Bool.{lt-ltb, le-ltb}
use Rattle.std.proofs.lemmas.List.Concat.{flat_map-append}
use Rattle.journal_record.specs.Entry.{Entry}
use Rattle.ledger_model.specs.History.{History, journals_of, size, block_from, end_from, block_of, end_of}
use Rattle.ledger_model.proofs.GrowLaws.{IsEnded, length-journals_of, size_closed}

-- the journals of the last of some blocks
block_from-last : (n : ℕ) (blocks : List (List Entry)) (block : List Entry) (jsn : ℕ) → n + length (journals_of blocks) ≤ jsn → jsn < n + length (journals_of blocks) + length block → block_from n (blocks ++ block ∷ []) jsn ≡ length blocks
block_from-last n [] block jsn above below = let e : nat_lt jsn (n + length block) ≡ true = lt-ltb jsn (n + length block) (omega arith) in rw e refl
block_from-last n (first ∷ blocks) block jsn above below =
    let e : nat_lt jsn (n + length first) ≡ false = le-ltb jsn (n + length first) (omega (arith, length-journals_of first blocks)) in
    rw e (ap (λ x. x + 1) (block_from-last (n + length first) blocks block jsn (omega (arith, length-journals_of first blocks)) (omega (arith, length-journals_of first blocks))) ∙ omega arith)

end_from-last : (n : ℕ) (blocks : List (List Entry)) (block : List Entry) (jsn : ℕ) → n + length (journals_of blocks) ≤ jsn → jsn < n + length (journals_of blocks) + length block → end_from n (blocks ++ block ∷ []) jsn ≡ n + length (journals_of blocks) + length block
end_from-last n [] block jsn above below = let e : nat_lt jsn (n + length block) ≡ true = lt-ltb jsn (n + length block) (omega arith) in rw e (omega arith)
end_from-last n (first ∷ blocks) block jsn above below =
    let e : nat_lt jsn (n + length first) ≡ false = le-ltb jsn (n + length first) (omega (arith, length-journals_of first blocks)) in
    rw e (end_from-last (n + length first) blocks block jsn (omega (arith, length-journals_of first blocks)) (omega (arith, length-journals_of first blocks)) ∙ omega (arith, length-journals_of first blocks))

ended_size : (k g : History) (e : IsEnded k g) → size g ≡ length (journals_of k.closed) + length e.block
ended_size k g e =
    size_closed g e.none ∙ ap (λ bs. length (journals_of bs)) e.closed_are ∙ ap length (flat_map-append (λ (b : List Entry). b) k.closed (e.block ∷ []))
    ∙ omega (arith, length-append (journals_of k.closed) (e.block ++ []), ap length (append-nil e.block))

-- what a receipt says where its block is the last
pub block_of-ended : (k g : History) (jsn : ℕ) → k.waiting ≡ [] → (e : IsEnded k g) → size k ≤ jsn → jsn < size g → block_of g jsn ≡ length g.closed - 1
unfolding block_of
block_of-ended k g jsn none e above below =
    ap (λ bs. block_from 0 bs jsn) e.closed_are
    ∙ block_from-last 0 k.closed e.block jsn (omega (arith, size_closed k none)) (omega (arith, size_closed k none, ended_size k g e))
    ∙ omega (arith, ap length e.closed_are, length-append k.closed (e.block ∷ []))

pub end_of-ended : (k g : History) (jsn : ℕ) → k.waiting ≡ [] → (e : IsEnded k g) → size k ≤ jsn → jsn < size g → end_of g jsn ≡ size g
unfolding end_of
end_of-ended k g jsn none e above below =
    ap (λ bs. end_from 0 bs jsn) e.closed_are
    ∙ end_from-last 0 k.closed e.block jsn (omega (arith, size_closed k none)) (omega (arith, size_closed k none, ended_size k g e))
    ∙ omega (arith, ended_size k g e)
