-- Lemmas on what is left, and what was written, where a call stopped a run.
use Rattle.std.proofs.Common.{◌≡◌, ℕ, suc, ◌-◌, ◌<◌, inl, inr, Bool, true, false, List, [], ◌∷◌, ◌++◌, length, take, refl, ap, sym, subst, ◌∙◌, arith, append_assoc, append-nil, length-append}
use Rattle.std.specs.Prelude.{⊤, All, decimal, codes}
use Rattle.std.proofs.lemmas.List.{length-map}
use Rattle.std.proofs.lemmas.Option.{slice_get_within}
use Rattle.std.proofs.lemmas.List.Elements.{All-head, All-tail}
use Rattle.batch_committer.specs.World.{Pair, LeftAtTheEnd, Says, before_last, IsLeftClean}
use Rattle.journal_record.specs.Entry.{Entry}
use Rattle.ledger_bytes.specs.Digests.{digest}
use Rattle.ledger_bytes.specs.declared.digest.Digest.{Digest}
use Rattle.ledger_open.specs.Standing.{PairOpen}
use Rattle.ledger_cli.specs.Leaving.{AreClean, AreErased, ends_in_erasure}
use Rattle.batch_committer.specs.declared.failure.CommitErr.{CommitErr}
use Rattle.batch_committer.specs.declared.failure.CommitErr.TheVariants.{DiskFault, WriteFault, NoMemory, Closed}
use Rattle.batch_committer.proofs.WayLaws.{begins_then}
use Rattle.ledger_bytes.specs.Begins.{Begins}
use Rattle.ledger_io.specs.Runs.{FallsShort, AreWhole}
use Rattle.ledger_io.proofs.RunLaws.{whole_append}
use Rattle.ledger_model.specs.Dues.{AllIn, digests_of, due_line, due_lines, due_replies}
use Rattle.ledger_model.specs.Growing.{Grows}
use Rattle.ledger_model.specs.History.{History, size, journals_of, leaf_digest, point}
use Rattle.ledger_model.specs.Lawful.{IsLawful, IsBlock}
use Rattle.ledger_model.specs.Pegs.{PeggedFrom, Pegged}
use Rattle.ledger_model.specs.Texts.{reply_in}
use Rattle.ledger_model.specs.declared.due.Due.{Due}
use Rattle.ledger_model.proofs.FitLaws.{fit-first}
use Rattle.ledger_model.proofs.RunLaws.{due_lines-append}
use Rattle.ledger_model.proofs.WaitLaws.{begins_closed}
use Rattle.ledger_model.proofs.WrittenLaws.{heads_kept_in, receipt_kept_in}
use Rattle.script_lines.specs.Receipts.{AllFit, IsReceipted}
use Rattle.script_lines.specs.Replies.{reply_words}
use Rattle.script_lines.specs.Words.{spaced_words}
use Rattle.time_peg.specs.Entries.{NotaryState}
use Rattle.ledger_cli.specs.Runs.{AllStand}
use Rattle.ledger_cli.proofs.LastLaws.{erased_then}
use Rattle.ledger_cli.proofs.PegLaws.{pegged_kept, some_journal}

-- ---- what was written

-- each line that is due ends with its newline
dues_whole : (f : History) (ds : List Due) → AreWhole (due_lines f ds)
dues_whole f [] = inl refl
dues_whole f (due ∷ ds) =
    whole_append (due_line f due) (due_lines f ds)
    (inr (decimal due.lane ++ codes "." ++ decimal due.index ++ spaced_words (reply_words (reply_in f due.answer)), refl)) (dues_whole f ds)

-- how far what was written came in a whole text, by the end
abbrev pub SaidOf : CommitErr → List ℕ → List ℕ → Type 0
SaidOf DiskFault part whole = AreWhole part × Begins part whole
SaidOf WriteFault part whole = FallsShort part whole
SaidOf NoMemory part whole = AreWhole part × Begins part whole
SaidOf Closed part whole = ⊤

whole_lines : (f : History) (part whole : List ℕ) (done rest : List Due) → part ≡ due_lines f done → due_lines f (done ++ rest) ≡ whole → AreWhole part × Begins part whole
whole_lines f part whole done rest s is = (
  subst AreWhole (sym s) (dues_whole f done),
  record { rest = due_lines f rest; is = sym is ∙ due_lines-append f done rest ∙ ap (λ l. l ++ due_lines f rest) (sym s) },
)

pub said_of : (end : CommitErr) (f : History) (part whole : List ℕ) (done rest : List Due) → Says end part (due_lines f done) → due_lines f (done ++ rest) ≡ whole → SaidOf end part whole
said_of DiskFault f part whole done rest s is = whole_lines f part whole done rest s is
said_of WriteFault f part whole done rest s is =
    let split : whole ≡ due_lines f done ++ due_lines f rest = sym is ∙ due_lines-append f done rest in (
      record { rest = s.0.rest ++ due_lines f rest; is = split ∙ ap (λ l. l ++ due_lines f rest) s.0.is ∙ append_assoc part s.0.rest (due_lines f rest) },
      omega (arith, s.1, ap length split, length-append (due_lines f done) (due_lines f rest)),
    )
said_of NoMemory f part whole done rest s is = whole_lines f part whole done rest s is
said_of Closed f part whole done rest s is = tt

begins_said : (end : CommitErr) (part lines : List ℕ) → Says end part lines → Begins part lines
begins_said DiskFault part lines s = record { rest = []; is = sym s ∙ sym (append-nil part) }
begins_said WriteFault part lines s = s.0
begins_said NoMemory part lines s = record { rest = []; is = sym s ∙ sym (append-nil part) }
begins_said Closed part lines s = record { rest = []; is = sym s ∙ sym (append-nil part) }

-- ---- what is left

-- so clean are the images that a call leaves which ended the run
abbrev pub CleanBy : CommitErr → History → List ℕ → History → List ℕ → List ℕ → Type 0
CleanBy DiskFault h part = AreErased h part
CleanBy WriteFault h part = AreClean
CleanBy NoMemory h part = AreClean
CleanBy Closed h part = AreClean

-- blocks before the last one have fewer journals
blocks_below : (bs : List (List Entry)) → All IsBlock bs → 0 < length bs → length (journals_of (before_last bs)) < length (journals_of bs)
blocks_below [] all some = absurd (let no : ⊥ = omega (arith, some) in no)
blocks_below (b ∷ []) all some = let one = All-head IsBlock b [] all in let first = one.some in let l = length-append b [] in omega (arith, first, l)
blocks_below (b ∷ c ∷ bs) all some =
    let less = blocks_below (c ∷ bs) (All-tail IsBlock b (c ∷ bs) all) (omega arith) in
    let is : before_last (b ∷ c ∷ bs) ≡ b ∷ before_last (c ∷ bs) = (let e : length (b ∷ c ∷ bs) - 1 ≡ suc (length (c ∷ bs) - 1) = omega arith in ap (λ n. take n (b ∷ c ∷ bs)) e) in
    let front = ap (λ (l : List (List Entry)). length (journals_of l)) is ∙ length-append b (journals_of (before_last (c ∷ bs))) in
    let whole = length-append b (journals_of (c ∷ bs)) in
    omega (arith, less, front, whole)

below_last : (kept : History) → IsLawful kept → kept.waiting ≡ [] → 0 < length kept.closed → length (journals_of (before_last kept.closed)) < size kept
below_last kept lawful none some =
    let less = blocks_below kept.closed lawful.blocks_are some in
    let l = length-append (journals_of kept.closed) kept.waiting in
    let e = ap length none in
    omega (arith, less, l, e)

-- no receipt of the last journal was written where none of its block was begun
none_written : (f kept : History) (done : List Due) (part rest : List ℕ) → IsLawful kept → kept.waiting ≡ [] → 0 < length kept.closed → part ++ rest ≡ due_lines f done → AllFit (due_replies f done) → AllIn (before_last kept.closed) done
    → (leaf : Digest) → IsReceipted part (size kept - 1) leaf → ⊥
none_written f kept done part rest lawful none some is fit all leaf r =
    let js = journals_of (before_last kept.closed) in
    let there = slice_get_within (digests_of js) (size kept - 1) leaf (receipt_kept_in f (before_last kept.closed) done part rest (size kept - 1) leaf is fit all r) in
    let l = length-map js (λ journal. digest (leaf_digest journal)) in
    let less = below_last kept lawful none some in
    let no : ⊥ = omega (arith, there, l, less) in
    no

left_clean : (end : CommitErr) (h f kept : History) (done : List Due) (part rest a b : List ℕ) → PairOpen a b kept → part ++ rest ≡ due_lines f done → AllFit (due_replies f done) → IsLeftClean end h kept done a b → CleanBy end h part kept a b
left_clean DiskFault h f kept done part rest a b stands is fit (inl erased) = inl erased
left_clean DiskFault h f kept done part rest a b stands is fit (inr u) = by (ends_in_erasure kept) refl where
  lawful : IsLawful kept
  lawful = stands.pair.stands.file.lawful

  by : (v : Bool) → ends_in_erasure kept ≡ v → AreErased h part kept a b
  by false none = inl (erased_then a b kept (some_journal kept lawful) none stands)
  by true erases = inr (record {
    erases = erases;
    added = u.added;
    unwritten = none_written f kept done part rest lawful stands.pair.stands.file.none (let more = u.added in omega (arith, more)) is fit u.unanswered;
  })
left_clean WriteFault h f kept done part rest a b stands is fit clean = clean
left_clean NoMemory h f kept done part rest a b stands is fit clean = clean
left_clean Closed h f kept done part rest a b stands is fit clean = clean

-- where a call stopped the run, all images stand for a beginning of each later history
pub stop_stands : (h whole f : History) (ds : List Due) (end : CommitErr) (part : List ℕ) (disks : Pair) (first last : NotaryState) → LeftAtTheEnd h whole ds end part disks → Grows whole f → f.waiting ≡ [] → AllFit (due_replies f ds)
    → h.waiting ≡ [] → (Pegged h first.entries → PeggedFrom (point h) f last.entries) → AllStand h f first last part (CleanBy end h part) disks
stop_stands h whole f ds end part disks first last s g none fit settled pegs = λ a b x y.
    let l = s.images a b x y in
    let file = l.stands.pair.stands.file in
    let longer = begins_then l.kept.closed whole.closed f.closed l.no_longer (begins_closed whole f g) in
    let begun = begins_said end part (due_lines f s.done) (s.said f g none) in record {
      kept = l.kept;
      stands = l.stands.pair;
      no_shorter = l.no_shorter;
      no_longer = longer;
      receipts = λ jsn leaf r. receipt_kept_in f l.kept.closed s.done part begun.rest jsn leaf (sym begun.is) (fit-first f s.done s.rest (subst (λ d. AllFit (due_replies f d)) s.split fit)) l.receipts r;
      heads = heads_kept_in f l.kept.closed s.done part begun.rest none longer (sym begun.is) l.receipts;
      pegs = λ p. pegged_kept h l.kept f last.entries (some_journal l.kept file.lawful) settled file.none l.no_shorter longer (pegs p);
      clean = left_clean end h f l.kept s.done part begun.rest a b l.stands (sym begun.is) (fit-first f s.done s.rest (subst (λ d. AllFit (due_replies f d)) s.split fit)) l.clean;
    }
