-- Each whole line that is a receipt is that of a journal of the blocks that the dues are in, and each head that stands in one is
-- theirs.
use Rattle.std.proofs.Common.{◌≡◌, ◌⊎◌, inl, inr, ℕ, ◌<◌, List, [], ◌∷◌, ◌++◌, length, refl, sym, ◌∙◌, ap, subst, arith, append-nil}
use Rattle.std.proofs.lemmas.List.Concat.{flat_map-append}
use Rattle.ledger_bytes.specs.Begins.{Begins}
use Rattle.ledger_bytes.specs.Digests.{digest}
use Rattle.ledger_bytes.specs.declared.digest.Digest.{Digest}
use Rattle.journal_record.specs.Entry.{Entry}
use Rattle.script_lines.specs.Receipts.{Told, told_text, whole_lines, IsAmong, OfReceipt, EachReceipt, OfHead, AllFit, AllHeads, IsLineOf, IsLineWithHead, IsOneOf, IsReceipted}
use Rattle.script_lines.proofs.ReceiptLaws.{receipted, none_receipted, line_written}
use Rattle.ledger_model.specs.Dues.{due_replies, due_line, due_lines, HasLeaf, IsHeadOf, IsIn, AllIn}
use Rattle.ledger_model.specs.Growing.{Grows}
use Rattle.ledger_model.specs.History.{History, history, journals, journals_of, size, root, end_of}
use Rattle.ledger_model.specs.Texts.{reply_in}
use Rattle.ledger_model.specs.declared.answer.Answer.{Answer}
use Rattle.ledger_model.specs.declared.answer.Answer.TheVariants.{Reply, Receipt}
use Rattle.ledger_model.specs.declared.due.Due.{Due}
use Rattle.ledger_model.proofs.GrowLaws.{end_of-grows, end_of-le, root_kept}
use Rattle.ledger_model.proofs.WaitLaws.{leaf_within, none_each}

pub lines_told : (f : History) (ds : List Due) → due_lines f ds ≡ told_text (due_replies f ds)
lines_told f [] = refl
lines_told f (due ∷ ds) = ap (λ (l : List ℕ). due_line f due ++ l) (lines_told f ds)

one_in : (f : History) (blocks : List (List Entry)) (answer : Answer) → IsIn blocks answer → OfReceipt (HasLeaf (journals_of blocks)) (reply_in f answer)
one_in f blocks (Reply reply) plain = none_each (HasLeaf (journals_of blocks)) reply plain.0
one_in f blocks (Receipt jsn leaf stamp) has = has

each_in : (f : History) (blocks : List (List Entry)) (ds : List Due) → AllIn blocks ds → EachReceipt (HasLeaf (journals_of blocks)) (due_replies f ds)
each_in f blocks [] all = tt
each_in f blocks (due ∷ ds) all = (one_in f blocks due.answer all.0, each_in f blocks ds all.1)

-- what was written begins the lines of these dues, and a tail in which no line is a receipt
pub receipt_kept_behind : (f : History) (blocks : List (List Entry)) (ds : List Due) (tail part rest : List ℕ) (jsn : ℕ) (leaf : Digest) → part ++ rest ≡ due_lines f ds ++ tail → AllFit (due_replies f ds) → AllIn blocks ds
    → (IsReceipted tail jsn leaf → ⊥) → IsReceipted part jsn leaf → HasLeaf (journals_of blocks) jsn leaf
receipt_kept_behind f blocks ds tail part rest jsn leaf is fit all none r =
    receipted (HasLeaf (journals_of blocks)) (due_replies f ds) tail part rest jsn leaf (is ∙ ap (λ (l : List ℕ). l ++ tail) (lines_told f ds)) fit (each_in f blocks ds all) none r

-- .. and no tail
pub receipt_kept_in : (f : History) (blocks : List (List Entry)) (ds : List Due) (part rest : List ℕ) (jsn : ℕ) (leaf : Digest) → part ++ rest ≡ due_lines f ds → AllFit (due_replies f ds) → AllIn blocks ds → IsReceipted part jsn leaf → HasLeaf (journals_of blocks) jsn leaf
receipt_kept_in f blocks ds part rest jsn leaf is fit all r =
    receipt_kept_behind f blocks ds [] part rest jsn leaf (is ∙ sym (append-nil (due_lines f ds))) fit all (none_receipted jsn leaf) r

-- ---- heads

-- blocks that a history begins with grow to it, where nothing waits in it
grown_to : (f : History) (blocks : List (List Entry)) → f.waiting ≡ [] → Begins blocks f.closed → Grows (history blocks []) f
grown_to f blocks none b = record {
  more = journals_of b.rest;
  journals_are =
      ap (λ w. journals_of f.closed ++ w) none ∙ append-nil (journals_of f.closed) ∙ ap journals_of b.is ∙ flat_map-append (λ (block : List Entry). block) blocks b.rest
      ∙ ap (λ js. js ++ journals_of b.rest) (sym (append-nil (journals_of blocks)));
  blocks = b.rest;
  closed_are = b.is;
}

-- the head that a receipt names is one of the blocks in which its journal stands
receipt_head : (f : History) (blocks : List (List Entry)) (jsn : ℕ) (leaf : Digest) → f.waiting ≡ [] → Begins blocks f.closed → HasLeaf (journals_of blocks) jsn leaf → IsHeadOf (journals_of blocks) (end_of f jsn) (digest (root f (end_of f jsn)))
unfolding grown_to
receipt_head f blocks jsn leaf none b has =
    let k = history blocks [] in
    let count : size k ≡ length (journals_of blocks) = ap length (append-nil (journals_of blocks)) in
    let below : jsn < size k = omega (arith, leaf_within (journals_of blocks) jsn leaf has, count) in
    let grows = grown_to f blocks none b in
    let at = end_of-grows k f jsn refl grows below in
    let few = end_of-le k jsn refl below in
    let whole : journals f ≡ journals_of blocks ++ journals_of b.rest = grows.journals_are ∙ ap (λ js. js ++ journals_of b.rest) (append-nil (journals_of blocks)) in (
      omega (arith, at, few, count),
      ap digest (root_kept (history [] (journals_of blocks)) f (journals_of b.rest) (end_of f jsn) whole (omega (arith, at, few, count))),
    )

head_in : (f : History) (blocks : List (List Entry)) (answer : Answer) → f.waiting ≡ [] → Begins blocks f.closed → IsIn blocks answer → OfHead (IsHeadOf (journals_of blocks)) (reply_in f answer)
head_in f blocks (Reply reply) none b x = x.1
head_in f blocks (Receipt jsn leaf stamp) none b x = receipt_head f blocks jsn leaf none b x

one_of_in : (f : History) (blocks : List (List Entry)) (ds : List Due) (told : Told) → f.waiting ≡ [] → Begins blocks f.closed → AllIn blocks ds → IsOneOf (due_replies f ds) told → OfHead (IsHeadOf (journals_of blocks)) told.reply
one_of_in f blocks [] told none b all one = absurd one
one_of_in f blocks (due ∷ ds) told none b all (inl same) = subst (λ (t : Told). OfHead (IsHeadOf (journals_of blocks)) t.reply) same (head_in f blocks due.answer none b all.0)
one_of_in f blocks (due ∷ ds) told none b all (inr more) = one_of_in f blocks ds told none b all.1 more

-- what was written begins the lines of these dues
pub heads_kept_in : (f : History) (blocks : List (List Entry)) (ds : List Due) (part rest : List ℕ) → f.waiting ≡ [] → Begins blocks f.closed → part ++ rest ≡ due_lines f ds → AllIn blocks ds → AllHeads (IsHeadOf (journals_of blocks)) part
heads_kept_in f blocks ds part rest none b is all line among =
    by (line_written (due_replies f ds) [] part rest line (is ∙ lines_told f ds ∙ sym (append-nil (told_text (due_replies f ds)))) among)
  where
    by : IsLineOf (due_replies f ds) line ⊎ IsAmong (whole_lines []) line → IsLineWithHead (IsHeadOf (journals_of blocks)) line
    by (inl x) = record { told = x.told; line_is = x.line_is; head = one_of_in f blocks ds x.told none b all x.one }
    by (inr none_more) = absurd none_more
