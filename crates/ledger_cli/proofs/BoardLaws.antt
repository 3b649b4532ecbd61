-- Lemmas on the board beside a run: what is written of its provers, and what that meets.
use Rattle.std.specs.Prelude.{All, IfOk}
use Rattle.std.proofs.Common.{◌≡◌, ◌≢◌, ◌+◌, ℕ, inl, inr, List, [], ◌∷◌, ◌++◌, length, map, Result, Ok, Err, refl, ap, sym, subst, ◌∙◌, arith, append_assoc, append-nil}
use Rattle.std.proofs.lemmas.List.{length-map}
use Rattle.std.proofs.lemmas.List.Elements.{All-nil, All-cons, All-head, All-tail, All-map}
use Rattle.batch_committer.specs.World.{Pair}
use Rattle.ledger_book.specs.Books.{leaf_digests}
use Rattle.ledger_bytes.specs.Causes.{count_after}
use Rattle.ledger_bytes.specs.declared.failure.NoMemory.{NoMemory}
use Rattle.ledger_io.specs.Outside.{SourceState, Outside, MeetsNone, MeetsOne}
use Rattle.ledger_io.specs.Runs.{Wrote}
use Rattle.ledger_io.specs.declared.ending.Ending.{Ending}
use Rattle.ledger_io.specs.declared.ending.Ending.TheVariants as run
use Rattle.ledger_model.specs.History.{History, journals, leaf_digest}
use Rattle.journal_record.specs.Header.{spelling}
use Rattle.proof_board.specs.History.{Digests, IsWide, all_leaves}
use Rattle.proof_board.specs.Growing.{IsListOf}
use Rattle.proof_board.specs.Hands.{EachGives}
use Rattle.proof_board.specs.Returning.{Returns, IsTallyOf}
use Rattle.proof_board.specs.Words.{seen_by, base_in, IsNew, IsPassOf}
use Rattle.proof_board.specs.declared.board.Board.{Board}
use Rattle.proof_board.specs.declared.hands.Returned.{Returned}
use Rattle.proof_board.specs.declared.hands.Tally.{Tally}
use Rattle.proof_board.specs.declared.pass.ProverPass.{ProverPass}
use Rattle.proof_board.specs.declared.view.Growth.{Growth}
use Rattle.sha2.proofs.Facts256.{length-sha256}
use Rattle.std.proofs.Common.{get_or}
use Rattle.ledger_cli.specs.Boards.{EndsWith, TellsBehind, board_text, prover_line, prover_lines}
use Rattle.ledger_cli.specs.Beside.{AllAccepted, AreTallies}
use Rattle.ledger_cli.specs.Runs.{Handed, handed, outside_of, FaultsBy}
use Rattle.ledger_cli.specs.declared.ending.LedgerEnding.{LedgerEnding}
use Rattle.ledger_cli.specs.declared.ending.LedgerEnding.TheVariants.{Run, DiskFault, Damaged, Empty, Exists, NewerFormat, NotaryFault, Refused}

-- ---- lines

pub lines_none : prover_lines 0 [] ≡ []
unfolding prover_lines
lines_none = refl

pub lines_push : (i : ℕ) (ts : List Tally) (t : Tally) → prover_lines i (ts ++ t ∷ []) ≡ prover_lines i ts ++ prover_line (i + length ts) t
unfolding prover_lines
lines_push i [] t = append-nil (prover_line i t) ∙ ap (λ (n : ℕ). prover_line n t) (omega arith)
lines_push i (x ∷ ts) t =
    ap (λ (l : List ℕ). prover_line i x ++ l) (lines_push (i + 1) ts t) ∙ sym (append_assoc (prover_line i x) (prover_lines (i + 1) ts) (prover_line (i + 1 + length ts) t))
    ∙ ap (λ (n : ℕ). (prover_line i x ++ prover_lines (i + 1) ts) ++ prover_line n t) (omega arith)

-- ---- what provers made

-- none lacked memory, and each made as many proofs
pub tallies_accepted : (count : ℕ) (results : List (Result Tally NoMemory)) (tallies : List Tally) → AllAccepted count results → AreTallies results tallies → All (λ t. t.accepted ≡ count) tallies
tallies_accepted count results tallies all is = by tallies (subst (AllAccepted count) is all)
  where
    by : (ts : List Tally) → AllAccepted count (map Ok ts) → All (λ t. t.accepted ≡ count) ts
    by [] a = All-nil (λ t. t.accepted ≡ count)
    by (t ∷ ts) a = All-cons (λ t. t.accepted ≡ count) t ts (All-head (λ r. IfOk r (λ t. t.accepted ≡ count)) (Ok t) (map Ok ts) a) (by ts (All-tail (λ r. IfOk r (λ t. t.accepted ≡ count)) (Ok t) (map Ok ts) a))

-- a new pass stands for each list that the board does
module _ (b : Board) (count : ℕ) (g : Growth) (ds : Digests) (list : IsListOf g.base (all_leaves g.at.log) ds) where
  abbrev IsSo : Result Tally NoMemory → Type 0
  IsSo r = IfOk r (λ t. t.accepted ≡ count)

  one_accepted : (p : ProverPass) (r : Returned) → IsNew g p → Returns b p count r → IsSo r.tally
  one_accepted p r new x = by r.tally x.tally
    where
      here : IsListOf (base_in p) (all_leaves (seen_by p).log) ds
      here = subst (λ (a : Digests). IsListOf (base_in p) a ds) (ap (λ m. all_leaves m.log) (sym new.0)) (subst (λ c. IsListOf c (all_leaves g.at.log) ds) (sym new.2) list)

      by : (tally : Result Tally NoMemory) → IfOk tally (IsTallyOf p r.pass count) → IsSo tally
      by (Ok t) is = is.accepted ds here
      by (Err e) is = tt

  pub all_accepted : (ps : List ProverPass) (rs : List Returned) → All (λ p. IsPassOf b p × IsNew g p) ps → EachGives (λ p r. Returns b p count r) ps rs → AllAccepted count (map (λ (r : Returned). r.tally) rs)
  unfolding EachGives
  all_accepted [] [] a e = All-nil IsSo
  all_accepted [] (r ∷ rs) a e = absurd e
  all_accepted (p ∷ ps) [] a e = absurd e
  all_accepted (p ∷ ps) (r ∷ rs) a e =
      All-cons IsSo r.tally (map (λ (x : Returned). x.tally) rs) (one_accepted p r (All-head (λ p. IsPassOf b p × IsNew g p) p ps a).1 e.0)
      (all_accepted ps rs (All-tail (λ p. IsPassOf b p × IsNew g p) p ps a) e.1)

-- the leaf digests of a history have their 32 bytes
pub digests_wide : (h : History) → All IsWide (leaf_digests h)
digests_wide h = All-map IsWide leaf_digest (journals h) (λ k d lt. length-sha256 (0 ∷ spelling (get_or (journals h) k d).header))

-- ---- what is written behind the replies

-- nothing is, where the script's run isn't done
pub told_nothing : (IsFirst : History → Type 0) (provers count : ℕ) (tallies : List Tally) (published : ℕ) (met : LedgerEnding) (x : Outside) → met ≢ Run run.Done → TellsBehind IsFirst provers count tallies published met met x x
told_nothing IsFirst provers count tallies published (Run run.Done) x not = absurd (not refl)
told_nothing IsFirst provers count tallies published (Run run.Usage) x not = (refl, refl)
told_nothing IsFirst provers count tallies published (Run run.ReadFault) x not = (refl, refl)
told_nothing IsFirst provers count tallies published (Run run.WriteFault) x not = (refl, refl)
told_nothing IsFirst provers count tallies published (Run run.NoMemory) x not = (refl, refl)
told_nothing IsFirst provers count tallies published (Run run.LineTooLong) x not = (refl, refl)
told_nothing IsFirst provers count tallies published (Run run.ScriptTooLong) x not = (refl, refl)
told_nothing IsFirst provers count tallies published DiskFault x not = (refl, refl)
told_nothing IsFirst provers count tallies published (Damaged damage) x not = (refl, refl)
told_nothing IsFirst provers count tallies published Empty x not = (refl, refl)
told_nothing IsFirst provers count tallies published Exists x not = (refl, refl)
told_nothing IsFirst provers count tallies published (NewerFormat found) x not = (refl, refl)
told_nothing IsFirst provers count tallies published NotaryFault x not = (refl, refl)
told_nothing IsFirst provers count tallies published (Refused why) x not = (refl, refl)

-- the lines of provers are
pub told_lines : (IsFirst : History → Type 0) (provers count : ℕ) (results : List (Result Tally NoMemory)) (tallies : List Tally) (published : ℕ) (met ending : LedgerEnding) (before now : Outside) → met ≡ Run run.Done → length results ≡ provers
    → ((h : History) → IsFirst h → AllAccepted count results) → AreTallies results tallies → ((plain : Ending) × (ending ≡ Run plain) × Wrote (board_text tallies published) plain before now)
    → TellsBehind IsFirst provers count tallies published met ending before now
told_lines IsFirst provers count results tallies published met ending before now is many all are w =
    subst (λ (m : LedgerEnding). TellsBehind IsFirst provers count tallies published m ending before now) (sym is) (inl (record {
      provers_are = (let e = ap length are in let m = length-map {B = Result Tally NoMemory} tallies Ok in omega (arith, e, m, many));
      accepted = λ h f. tallies_accepted count results tallies (all h f) are;
      plain = w.0;
      ending_is = w.1;
      wrote = w.2;
    }))

-- .. or there was no memory for them
pub told_none : (IsFirst : History → Type 0) (provers count : ℕ) (tallies : List Tally) (published : ℕ) (met ending : LedgerEnding) (before now : Outside) → met ≡ Run run.Done → EndsWith (Run run.NoMemory) ending before now → TellsBehind IsFirst provers count tallies published met ending before now
told_none IsFirst provers count tallies published met ending before now is none = subst (λ (m : LedgerEnding). TellsBehind IsFirst provers count tallies published m ending before now) (sym is) (inr none)

-- what is told where the run began with some histories is told where it began with these alone
pub told_first : (IsFirst IsNow : History → Type 0) (provers count : ℕ) (tallies : List Tally) (published : ℕ) (met ending : LedgerEnding) (before now : Outside) → ((h : History) → IsNow h → IsFirst h) → TellsBehind IsFirst provers count tallies published met ending before now → TellsBehind IsNow provers count tallies published met ending before now
told_first IsFirst IsNow provers count tallies published (Run run.Done) ending before now to (inl x) = inl (record { provers_are = x.provers_are; accepted = λ h f. x.accepted h (to h f); plain = x.plain; ending_is = x.ending_is; wrote = x.wrote })
told_first IsFirst IsNow provers count tallies published (Run run.Done) ending before now to (inr x) = inr x
told_first IsFirst IsNow provers count tallies published (Run run.Usage) ending before now to x = x
told_first IsFirst IsNow provers count tallies published (Run run.ReadFault) ending before now to x = x
told_first IsFirst IsNow provers count tallies published (Run run.WriteFault) ending before now to x = x
told_first IsFirst IsNow provers count tallies published (Run run.NoMemory) ending before now to x = x
told_first IsFirst IsNow provers count tallies published (Run run.LineTooLong) ending before now to x = x
told_first IsFirst IsNow provers count tallies published (Run run.ScriptTooLong) ending before now to x = x
told_first IsFirst IsNow provers count tallies published DiskFault ending before now to x = x
told_first IsFirst IsNow provers count tallies published (Damaged damage) ending before now to x = x
told_first IsFirst IsNow provers count tallies published Empty ending before now to x = x
told_first IsFirst IsNow provers count tallies published Exists ending before now to x = x
told_first IsFirst IsNow provers count tallies published (NewerFormat found) ending before now to x = x
told_first IsFirst IsNow provers count tallies published NotaryFault ending before now to x = x
told_first IsFirst IsNow provers count tallies published (Refused why) ending before now to x = x

-- ---- faults

module _ (before mid now : Handed) (disks_are : now.disks ≡ mid.disks) (notary_is : now.notary ≡ mid.notary) where
  -- nothing more was met
  same_faults : (met ending : LedgerEnding) → ending ≡ met → outside_of now ≡ outside_of mid → FaultsBy met before mid → FaultsBy ending before now
  same_faults met ending is out f =
      subst (λ (e : LedgerEnding). FaultsBy e before now) (sym is)
      (subst (λ (x : Outside × Pair). FaultsBy met before (handed x.0.source x.0.sink x.1 now.notary)) (λ i. (sym out i, sym disks_are i))
      (subst (λ n. FaultsBy met before (handed mid.source mid.sink mid.disks n)) (sym notary_is) f))

  one_met : MeetsNone before.sink mid.sink → MeetsOne mid.sink now.sink → MeetsOne before.sink now.sink
  one_met none (inl x) = inl (x.0 ∙ ap count_after none.0, x.1 ∙ none.1)
  one_met none (inr x) = inr (x.0 ∙ none.0, x.1 ∙ ap count_after none.1)

  -- the lines of provers met what their ending tells
  line_faults : (text : List ℕ) (plain : Ending) → FaultsBy (Run run.Done) before mid → Wrote text plain (outside_of mid) (outside_of now) → FaultsBy (Run plain) before now
  line_faults text run.Done f w = record { source_is = ap (λ (s : SourceState). s.faults) w.unread ∙ f.source_is; sink_is = (w.output.1.0 ∙ f.sink_is.0, w.output.1.1 ∙ f.sink_is.1); disks_are = record { a = ap (λ (d : Pair). d.a.faults) disks_are ∙ f.disks_are.a; b = ap (λ (d : Pair). d.b.faults) disks_are ∙ f.disks_are.b } }
  line_faults text run.Usage f w = absurd w.output
  line_faults text run.ReadFault f w = absurd w.output
  line_faults text run.WriteFault f w = record { source_is = inl (ap (λ (s : SourceState). s.faults) w.unread ∙ f.source_is); sink_is = one_met f.sink_is w.output.1; disks_are = record { a = ap (λ (d : Pair). d.a.faults) disks_are ∙ f.disks_are.a; b = ap (λ (d : Pair). d.b.faults) disks_are ∙ f.disks_are.b } }
  line_faults text run.NoMemory f w = record { source_is = inl (ap (λ (s : SourceState). s.faults) w.unread ∙ f.source_is); sink_is = (w.output.1.0 ∙ f.sink_is.0, w.output.1.1 ∙ f.sink_is.1); disks_are = record { a = ap (λ (d : Pair). d.a.faults) disks_are ∙ f.disks_are.a; b = ap (λ (d : Pair). d.b.faults) disks_are ∙ f.disks_are.b } }
  line_faults text run.LineTooLong f w = absurd w.output
  line_faults text run.ScriptTooLong f w = absurd w.output

  lacking_faults : FaultsBy (Run run.Done) before mid → FaultsBy (Run run.NoMemory) before mid
  lacking_faults f = record { source_is = inl f.source_is; sink_is = f.sink_is; disks_are = f.disks_are }

  -- the whole run met what its ending tells
  pub faults_behind : (IsFirst : History → Type 0) (provers count : ℕ) (tallies : List Tally) (published : ℕ) (met ending : LedgerEnding) → FaultsBy met before mid → TellsBehind IsFirst provers count tallies published met ending (outside_of mid) (outside_of now) → FaultsBy ending before now
  faults_behind IsFirst provers count tallies published (Run run.Done) ending f (inl x) = subst (λ (e : LedgerEnding). FaultsBy e before now) (sym x.ending_is) (line_faults _ x.plain f x.wrote)
  faults_behind IsFirst provers count tallies published (Run run.Done) ending f (inr x) = same_faults (Run run.NoMemory) ending x.0 x.1 (lacking_faults f)
  faults_behind IsFirst provers count tallies published (Run run.Usage) ending f x = absurd f
  faults_behind IsFirst provers count tallies published (Run run.ReadFault) ending f x = same_faults (Run run.ReadFault) ending x.0 x.1 f
  faults_behind IsFirst provers count tallies published (Run run.WriteFault) ending f x = same_faults (Run run.WriteFault) ending x.0 x.1 f
  faults_behind IsFirst provers count tallies published (Run run.NoMemory) ending f x = same_faults (Run run.NoMemory) ending x.0 x.1 f
  faults_behind IsFirst provers count tallies published (Run run.LineTooLong) ending f x = same_faults (Run run.LineTooLong) ending x.0 x.1 f
  faults_behind IsFirst provers count tallies published (Run run.ScriptTooLong) ending f x = same_faults (Run run.ScriptTooLong) ending x.0 x.1 f
  faults_behind IsFirst provers count tallies published DiskFault ending f x = same_faults DiskFault ending x.0 x.1 f
  faults_behind IsFirst provers count tallies published (Damaged damage) ending f x = same_faults (Damaged damage) ending x.0 x.1 f
  faults_behind IsFirst provers count tallies published Empty ending f x = same_faults Empty ending x.0 x.1 f
  faults_behind IsFirst provers count tallies published Exists ending f x = same_faults Exists ending x.0 x.1 f
  faults_behind IsFirst provers count tallies published (NewerFormat found) ending f x = same_faults (NewerFormat found) ending x.0 x.1 f
  faults_behind IsFirst provers count tallies published NotaryFault ending f x = same_faults NotaryFault ending x.0 x.1 f
  faults_behind IsFirst provers count tallies published (Refused why) ending f x = same_faults (Refused why) ending x.0 x.1 f
