-- Which block's end a receipt tells.
use Rattle.std.specs.Prelude.{All}
use Rattle.std.proofs.Common.{◌≡◌, ℕ, ◌+◌, ◌-◌, ◌<◌, ◌≤◌, inl, inr, List, [], ◌∷◌, ◌++◌, length, take, drop, get_or, refl, ap, sym, ◌∙◌, subst, arith, append-nil}
use Rattle.std.proofs.lemmas.List.{take_more, take-append-drop}
use Rattle.std.proofs.lemmas.List.Concat.{flat_map-append}
use Rattle.std.proofs.lemmas.List.Elements.{All-nil, All-cons, All-get_or}
use Rattle.ledger_bytes.specs.Digests.{digest}
use Rattle.script_lines.specs.BlockEnds.{block_end}
use Rattle.ledger_model.specs.Dues.{due_line, due_lines, IsWaiting, AllWaiting, AllIn, IsWithin}
use Rattle.ledger_model.specs.Growing.{Grows}
use Rattle.ledger_model.specs.History.{History, journals, size, blocks, root, point, close, end_of}
use Rattle.ledger_model.specs.declared.answer.Answer.{Answer}
use Rattle.ledger_model.specs.declared.answer.Answer.TheVariants.{Reply, Receipt}
use Rattle.ledger_model.specs.declared.due.Due.{Due}
use Rattle.ledger_model.proofs.GrowLaws.{IsEnded, close_none, grows_close, grows_then, size_closed}
use Rattle.ledger_model.proofs.RunLaws.{due_lines-append}
use Rattle.ledger_model.proofs.WaitLaws.{leaf_within, in-append, all_in_more, all_in_ended, begins_closed, lines_ended}
use Rattle.ledger_book.specs.Books as books
use Rattle.ledger_book.specs.Books.{Serves, sealed_size}
use Rattle.batch_committer.specs.Steps.{AllKept, AreLastFrom}
use Rattle.batch_committer.specs.World.{CommitterState, Owes, Keeps, sealed_part}
use Rattle.batch_committer.proofs.Closing.{closed_is}
use Rattle.batch_committer.proofs.LastBlock.{block_of-ended, end_of-ended}

-- the journals of the open block are those of the last block, once it has ended
pub last_closed : (h : History) → 1 ≤ length h.waiting → AreLastFrom (sealed_size h) (close h)
last_closed h some = λ jsn above below.
    let k = sealed_part h in
    let g = close h in
    let e : IsEnded k g = record { block = h.waiting; closed_are = closed_is h some; none = close_none h } in
    let all = size_closed g (close_none h) in
    let from : size k ≤ jsn = omega (arith, above, size_closed k refl) in
    let to : jsn < size g = omega (arith, below, all) in
    ap (λ n. block_end n (end_of g jsn) (digest (root g (end_of g jsn)))) (block_of-ended k g jsn refl e from to)
    ∙ ap (λ n. block_end (blocks g - 1) n (digest (root g n))) (end_of-ended k g jsn refl e from to ∙ all)

-- behind all blocks there is none
pub last_none : (h : History) → AreLastFrom (sealed_size h) h
last_none h = λ jsn above below. absurd (omega (arith, above, below))

-- the journal of a receipt that is due is kept, and there
waits_within : (h : History) (answer : Answer) → point (sealed_part h) ≤ sealed_size h → IsWaiting h answer → IsWithin (point (sealed_part h)) (size h) answer
waits_within h (Reply reply) le x = tt
waits_within h (Receipt jsn leaf stamp) le x =
    let low : point (sealed_part h) ≤ jsn = elim x.0 [ inl late ↦ omega (arith, le, late) | inr kept ↦ kept ] in (low, omega (arith, leaf_within (journals h) jsn leaf x.1))

all_within : (h : History) (ds : List Due) → point (sealed_part h) ≤ sealed_size h → AllWaiting h ds → All (λ due. IsWithin (point (sealed_part h)) (size h) due.answer) ds
all_within h [] le x = All-nil (λ (due : Due). IsWithin (point (sealed_part h)) (size h) due.answer)
all_within h (d ∷ ds) le x = All-cons (λ (due : Due). IsWithin (point (sealed_part h)) (size h) due.answer) d ds (waits_within h d.answer le x.0) (all_within h ds le x.1)

pub dues_kept : (old book : books.Kept) (h : History) (ds : List Due) → Serves old h → old.floor ≡ point (sealed_part h) → AllWaiting h ds → book.floor ≡ old.floor → book.sealed ≡ size h → AllKept book ds
dues_kept old book h ds s at waits floor sealed =
    subst (λ low. All (λ due. IsWithin low book.sealed due.answer) ds) (sym (floor ∙ at))
    (subst (λ high. All (λ due. IsWithin (point (sealed_part h)) high due.answer) ds) (sym sealed)
    (all_within h ds (omega (arith, at, s.stands.counts.floor)) waits))

-- what is spelled where no journal waits
pub spelled_settled : (k : CommitterState) (first : ℕ) (old text : List ℕ) (ds : List Due) (h : History) → Keeps k h → first ≡ k.book.sealed → h.waiting ≡ [] → (AreLastFrom first h → AllKept k.book ds → text ≡ old ++ due_lines h ds) → ds ≡ drop k.spelled k.dues
    → text ≡ old ++ due_lines h (drop k.spelled k.dues)
spelled_settled k first old text ds h p from none spelled same =
    let sealed = p.serves.stands.counts.sealed_is in
    spelled (subst (λ n. AreLastFrom n h) (sym (from ∙ sealed)) (last_none h))
    (subst (AllKept k.book) (sym same) (dues_kept k.book k.book h (drop k.spelled k.dues) p.serves p.floor p.dues.waits refl (sealed ∙ sym (size_closed h none))))
    ∙ ap (λ (l : List Due). old ++ due_lines h l) same

-- all that is due, once the open block has ended
pub told_ended : (k : CommitterState) (h : History) → Owes k h → AllIn (close h).closed k.dues
told_ended k h o =
    subst (AllIn (close h).closed) (take-append-drop k.spelled k.dues)
    (in-append (close h).closed (take k.spelled k.dues) (drop k.spelled k.dues) (all_in_more h.closed (close h).closed (take k.spelled k.dues) (begins_closed h (close h) (grows_close h)) o.told) (all_in_ended h (drop k.spelled k.dues) o.waits))

pub lines_later : (k : CommitterState) (h f : History) → Owes k h → Grows (close h) f → f.waiting ≡ [] → k.lines ++ due_lines (close h) (drop k.spelled k.dues) ≡ due_lines f k.dues
lines_later k h f o y none =
    ap (λ (l : List ℕ). l ++ due_lines (close h) (drop k.spelled k.dues)) (o.lines f (grows_then h (close h) f (grows_close h) y) none)
    ∙ ap (λ (l : List ℕ). due_lines f (take k.spelled k.dues) ++ l) (lines_ended h f (drop k.spelled k.dues) y o.waits)
    ∙ sym (due_lines-append f (take k.spelled k.dues) (drop k.spelled k.dues)) ∙ ap (due_lines f) (take-append-drop k.spelled k.dues)

-- ---- one line after the other

pub kept_at : (book : books.Kept) (ds : List Due) (i : ℕ) (d : Due) → i < length ds → d ≡ get_or ds i d → AllKept book ds → IsWithin book.floor book.sealed d.answer
kept_at book ds i d within is kept = subst (λ (x : Due). IsWithin book.floor book.sealed x.answer) (sym is) (All-get_or (λ (x : Due). IsWithin book.floor book.sealed x.answer) ds i d within kept)

pub lines_more : (h : History) (ds : List Due) (i : ℕ) (d : Due) → i < length ds → d ≡ get_or ds i d → due_lines h (take (i + 1) ds) ≡ due_lines h (take i ds) ++ due_line h d
lines_more h ds i d within is =
    ap (due_lines h) (take_more ds i d within ∙ ap (λ (x : Due). take i ds ++ x ∷ []) (sym is))
    ∙ flat_map-append (due_line h) (take i ds) (d ∷ []) ∙ ap (λ (l : List ℕ). due_lines h (take i ds) ++ l) (append-nil (due_line h d))
