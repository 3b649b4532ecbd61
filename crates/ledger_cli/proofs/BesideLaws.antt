-- Lemmas on the command `board`: what came of it, by what came of the script's run.
use Rattle.std.specs.Prelude.{IsTrue}
use Rattle.std.proofs.Common.{◌≡◌, ◌≢◌, ℕ, Bool, false, List, [], ◌++◌, Option, None, refl, sym, subst}
use Rattle.batch_committer.specs.Opened.{kept_from, IsOpened}
use Rattle.batch_committer.specs.World.{Pair, CommitterState, World, world, HasRoom, Holds}
use Rattle.batch_committer.specs.declared.failure.CommitErr.TheVariants as end
use Rattle.batch_committer.proofs.Opening.{opened_held, held_some}
use Rattle.batch_committer.proofs.WayLaws.{goes_same}
use Rattle.journal_record.specs.Entry.{Entry}
use Rattle.ledger_io.specs.Outside.{SourceState, SinkState}
use Rattle.ledger_io.specs.Reading.{Reading}
use Rattle.ledger_io.specs.declared.ending.Ending.TheVariants as run
use Rattle.ledger_io.proofs.ReadingLaws.{read_none}
use Rattle.ledger_model.specs.Scheme.{Scheme}
use Rattle.ledger_model.specs.Limits.{real_limits}
use Rattle.ledger_model.proofs.WindowLaws.{cut_none}
use Rattle.ledger_open.specs.Heads.{Edition}
use Rattle.ledger_open.specs.Opening.{Known}
use Rattle.ledger_open.specs.Reopened.{IsReopened}
use Rattle.ledger_open.specs.declared.failure.OpenErr.{OpenErr}
use Rattle.ledger_open.specs.declared.failure.OpenErr.TheVariants as open_err
use Rattle.pseudo_genesis.specs.declared.base.Base.{Base}
use Rattle.time_peg.specs.Entries.{NotaryState}
use Rattle.ledger_cli.specs.Beside.{AllAccepted, AreTallies, RunsBeside, WritesTallies}
use Rattle.ledger_cli.specs.Boards.{HasFollowed, Lasting, Posted, TellsBehind, TellsSizes, lasting, lasting_of, published_size}
use Rattle.std.proofs.Common.{Some, Result, Ok, inl, inr, length, arith, ap, ◌∙◌, ◌<◌}
use Rattle.std.specs.Prelude.{All}
use Rattle.std.proofs.lemmas.List.Elements.{All-nil}
use Rattle.batch_committer.proofs.Closing.{sealed_same}
use Rattle.ledger_bytes.specs.declared.failure.NoMemory.{NoMemory}
use Rattle.ledger_model.specs.History.{History, point, size}
use Rattle.proof_board.specs.declared.hands.Tally.{Tally}
use Rattle.ledger_cli.proofs.MappedLaws.{runs_as}
use Rattle.ledger_cli.proofs.SizeLaws.{IsSeenIn, begun, tells_sizes}
use Rattle.std.proofs.lemmas.Option.{same_Some}
use Rattle.ledger_cli.specs.Endings.{ending_of_opening, refusal_of}
use Rattle.ledger_cli.specs.Runs.{Handed, handed, outside_of, StandFor, Runs, RunsAgain, RunsBoard}
use Rattle.ledger_cli.specs.declared.ending.LedgerEnding.{LedgerEnding}
use Rattle.ledger_cli.specs.declared.ending.LedgerEnding.TheVariants.{Run}
use Rattle.ledger_cli.proofs.BoardLaws.{told_first, told_lines, told_none, told_nothing, faults_behind}
use Rattle.ledger_cli.proofs.FailureLaws.{fails_none}
use Rattle.ledger_cli.proofs.HaltLaws.{IsClear, Halts, halts_there}
use Rattle.ledger_cli.proofs.MergeLaws.{order_same}
use Rattle.ledger_cli.proofs.NotaryLaws.{took_none}
use Rattle.ledger_cli.proofs.OpeningLaws.{ran_again, again_unstarted}
use Rattle.ledger_cli.proofs.OrderLaws.{part_open}
use Rattle.ledger_cli.proofs.RunsLaws.{halt, lacking, with_behind}

-- nothing was read
abbrev nothing_read : Reading
nothing_read = record { held = []; total = 0; ended = false; failed = None }

-- no line of a script was taken, for want of memory
pub ran_nothing : (scheme : Scheme) (tells : Bool) (IsSo : History → History → Type 0) (w : World) (source : SourceState) (n : NotaryState) → HasRoom w.kept → IsClear w.kept → Runs scheme tells w IsSo (Run run.NoMemory) (handed source w.sink w.disks n) (handed source w.sink w.disks n)
ran_nothing scheme tells IsSo w source n room none =
    let x : Halts scheme tells w n [] [] [] end.NoMemory w = halts_there scheme tells w n [] [] [] end.NoMemory w (lacking scheme tells w w [] [] (goes_same tells w)) in
    halt scheme tells IsSo w n n source source nothing_read [] (read_none source nothing_read refl) [] [] (λ h p. took_none scheme h n) room none [] end.NoMemory w x
    (part_open n [] [] [] [] ([] ++ x.behind) x.later cut_none tt (with_behind [] [] x.behind [] x.later x.split (order_same []))) (fails_none n)

-- .. and nothing more was done
pub beside_nothing : (scheme : Scheme) (tells : Bool) (w : World) (provers count : ℕ) (source : SourceState) (n : NotaryState) → HasRoom w.kept → IsClear w.kept → RunsBeside scheme tells w provers count (Run run.NoMemory) (handed source w.sink w.disks n) (handed source w.sink w.disks n)
beside_nothing scheme tells w provers count source n room none = record {
  met = Run run.NoMemory;
  mid = handed source w.sink w.disks n;
  tallies = [];
  published = 0;
  ran = ran_nothing scheme tells (TellsSizes [] 0) w source n room none;
  unrefused = refl;
  told = (refl, refl);
  disks_are = refl;
  notary_is = refl;
}

-- the board that followed the run, and what was written behind the replies
module _ (scheme : Scheme) (tells : Bool) (w : World) (provers count : ℕ) (met ending : LedgerEnding) (before mid now : Handed) (old new : Posted) (book : w.kept.book.floor ≡ old.growth.base.floor) (same : lasting new ≡ lasting old)
    (one : length old.growth.at.log ≡ 1) (none : old.waiting ≡ []) (lists : (h : History) → Holds tells w h → published_size old.growth ≡ size h)
    (ran : Runs scheme tells w (HasFollowed (Some old) (Some new)) met before mid) (unrefused : refusal_of met ≡ None) (disks : now.disks ≡ mid.disks) (notary : now.notary ≡ mid.notary) where
  floor_at : (h : History) → Holds tells w h → h.waiting ≡ [] → old.growth.base.floor ≡ point h
  floor_at h p settled = sym book ∙ p.keeps.floor ∙ ap point (sealed_same h settled)

  sizes_at : (tallies : List Tally) (published : ℕ) → published ≡ published_size new.growth → All (IsSeenIn new.growth) tallies → (h g : History) → Holds tells w h → h.waiting ≡ [] → HasFollowed (Some old) (Some new) h g → TellsSizes tallies published h g
  sizes_at tallies published is seen h g p settled x =
      tells_sizes h g old new (begun h old settled (let s = held_some tells w h p in omega (arith, s)) (lists h p) one none) (floor_at h p settled) same x tallies published is seen

  -- what `board` did
  pub beside_told : (tallies : List Tally) (published : ℕ) → published ≡ published_size new.growth → All (IsSeenIn new.growth) tallies
      → TellsBehind (Holds tells w) provers count tallies published met ending (outside_of mid) (outside_of now) → RunsBeside scheme tells w provers count ending before now
  beside_told tallies published is seen told = record {
    met = met;
    mid = mid;
    tallies = tallies;
    published = published;
    ran = runs_as scheme tells w (HasFollowed (Some old) (Some new)) (TellsSizes tallies published) met before mid (sizes_at tallies published is seen) ran;
    unrefused = unrefused;
    told = told;
    disks_are = disks;
    notary_is = notary;
  }

  -- .. by the lines of provers
  pub beside_lines : (results : List (Result Tally NoMemory)) (published : ℕ) → met ≡ Run run.Done → length results ≡ provers → ((h : History) → Holds tells w h → AllAccepted count results)
      → ((tallies : List Tally) → AreTallies results tallies → All (IsSeenIn new.growth) tallies) → published ≡ published_size new.growth
      → WritesTallies results published ending (outside_of mid) (outside_of now) → RunsBeside scheme tells w provers count ending before now
  beside_lines results published done many all seen is (inl x) = beside_told x.0 published is (seen x.0 x.1) (told_lines (Holds tells w) provers count results x.0 published met ending (outside_of mid) (outside_of now) done many all x.1 x.2)
  beside_lines results published done many all seen is (inr none) = beside_told [] published is (All-nil (IsSeenIn new.growth)) (told_none (Holds tells w) provers count [] published met ending (outside_of mid) (outside_of now) done none)

-- the board is the same
pub book_kept : (p q : Posted) → lasting_of (Some p) ≡ lasting_of (Some q) → p.growth.at.book ≡ q.growth.at.book
book_kept p q is = ap (λ (l : Lasting). l.book) (same_Some _ _ is)

-- ---- on a ledger that is opened

module _ (scheme : Scheme) (tells : Bool) (provers count : ℕ) (source : SourceState) (sink : SinkState) (n : NotaryState) (old now : Pair) where
  -- it isn't
  not_done : (e : OpenErr) → ending_of_opening e ≢ Run run.Done
  not_done open_err.DiskFault is = let no : ⊥ = cc is in no
  not_done (open_err.Damaged damage) is = let no : ⊥ = cc is in no
  not_done open_err.Empty is = let no : ⊥ = cc is in no
  not_done open_err.Exists is = let no : ⊥ = cc is in no
  not_done (open_err.NewerFormat found) is = let no : ⊥ = cc is in no
  not_done open_err.NoMemory is = let no : ⊥ = cc is in no

  pub board_unopened : (e : OpenErr) → RunsAgain scheme tells (TellsSizes [] 0) (ending_of_opening e) (handed source sink old n) (handed source sink now n) → RunsBoard scheme tells provers count (ending_of_opening e) (handed source sink old n) (handed source sink now n)
  board_unopened e ran = record {
    met = ending_of_opening e;
    mid = handed source sink now n;
    tallies = [];
    published = 0;
    ran = ran;
    told = told_nothing _ provers count [] 0 (ending_of_opening e) _ (not_done e);
    disks_are = refl;
    notary_is = refl;
    faults = ran.faults;
  }

  -- nothing was done for want of memory
  pub board_unstarted : now ≡ old → RunsBoard scheme tells provers count (Run run.NoMemory) (handed source sink old n) (handed source sink now n)
  board_unstarted is =
      let ran = again_unstarted scheme tells source sink n old now (TellsSizes [] 0) is in record {
        met = Run run.NoMemory;
        mid = handed source sink now n;
        tallies = [];
        published = 0;
        ran = ran;
        told = (refl, refl);
        disks_are = refl;
        notary_is = refl;
        faults = ran.faults;
      }

  module _ (k : Known) (in_a : Bool) (edition : Edition) (start : Option Base) (blocks : List (List Entry)) (opened : IsOpened k in_a now start blocks) (kept : CommitterState) (kept_is : kept ≡ kept_from k in_a edition) where
    pub board_ran : (limits : k.book.limits ≡ real_limits) (r : IsTrue tells → IsReopened in_a k start blocks old.a.bytes old.b.bytes now.a.bytes now.b.bytes) (a : now.a.faults ≡ old.a.faults) (b : now.b.faults ≡ old.b.faults)
        (ending : LedgerEnding) (last : Handed) → RunsBeside scheme tells (world kept now sink) provers count ending (handed source sink now n) last → RunsBoard scheme tells provers count ending (handed source sink old n) last
    board_ran limits r a b ending last x =
        let ran = ran_again scheme tells source sink n old now k in_a edition start blocks opened kept kept_is (TellsSizes x.tallies x.published) limits r a b x.met x.mid x.ran x.unrefused in
        let told = told_first (Holds tells (world kept now sink)) (λ h. IsTrue tells × StandFor old h) provers count x.tallies x.published x.met ending (outside_of x.mid) (outside_of last)
        (λ h first. subst (λ (y : CommitterState). Holds tells (world y now sink) h) (sym kept_is) (opened_held tells k in_a edition start blocks old.a.bytes old.b.bytes now sink h opened limits first.0 (r first.0) first.1)) x.told in record {
          met = x.met;
          mid = x.mid;
          tallies = x.tallies;
          published = x.published;
          ran = ran;
          told = told;
          disks_are = x.disks_are;
          notary_is = x.notary_is;
          faults = faults_behind (handed source sink old n) x.mid last x.disks_are x.notary_is _ provers count x.tallies x.published x.met ending ran.faults told;
        }
