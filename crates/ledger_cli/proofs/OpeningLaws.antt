-- Lemmas on the commands that open or make a ledger.
use Rattle.std.proofs.Common.{◌≡◌, ◌≢◌, ℕ, ◌⊎◌, inl, inr, Bool, true, List, [], ◌∷◌, take, refl, ap, sym, subst, ◌∙◌, arith}
use Rattle.std.specs.Prelude.{IsTrue, Option, None, codes, decimal}
use Rattle.std.specs.Io.KnownBytes.{Appends}
use Rattle.std.proofs.KnownBytes.{Appends-nil}
use Rattle.batch_committer.specs.Opened.{kept_from, IsOpened}
use Rattle.batch_committer.specs.World.{Pair, CommitterState, world, Fits, HasRoom, Holds}
use Rattle.batch_committer.proofs.Opening.{opened_held, opened_fits, opened_room, founded_held, founded_fits}
use Rattle.journal_record.specs.Entry.{Entry}
use Rattle.block_file.specs.File.{IsSettled}
use Rattle.ledger_open.specs.Heads.{Edition, edition_from, edition_of}
use Rattle.block_file.specs.Head.{IsShut, IsOpen}
use Rattle.ledger_disk.specs.Disk.{State, MayLeave, settled_state}
use Rattle.ledger_io.specs.Outside.{SourceState, SinkState, MeetsNone, MeetsOne}
use Rattle.ledger_io.specs.Runs.{FallsShort}
use Rattle.ledger_io.specs.declared.ending.Ending.TheVariants as run
use Rattle.ledger_model.specs.Genesis.{HasKeys, new_ledger}
use Rattle.ledger_model.specs.History.{History, id}
use Rattle.ledger_model.specs.Limits.{real_limits}
use Rattle.ledger_model.specs.Scheme.{Scheme}
use Rattle.ledger_model.specs.declared.genesis.Genesis.{Genesis}
use Rattle.pseudo_genesis.specs.declared.base.Base.{Base}
use Rattle.ledger_book.specs.Books.{Serves}
use Rattle.ledger_model.specs.Targets.{is_hidden}
use Rattle.ledger_model.proofs.KeepLaws.{founded_lawful}
use Rattle.ledger_open.proofs.KnownLaws.{same_self}
use Rattle.ledger_open.specs.Founding.{IsFounded, IsOneOpen}
use Rattle.ledger_open.specs.Opening.{Known, Knows, IsOpenErr, IsOutside, StandsAsRead, CountsTwoErr}
use Rattle.ledger_open.specs.Reopened.{Remembers, IsReopened}
use Rattle.ledger_open.specs.Standing.{PairFor, IsCleanPair}
use Rattle.ledger_open.specs.declared.failure.OpenErr.{OpenErr}
use Rattle.ledger_open.specs.declared.failure.OpenErr.TheVariants as open_err
use Rattle.ledger_open.proofs.OpenLaws.{pair_opens}
use Rattle.ledger_open.proofs.CarryLaws.{reopened_only}
use Rattle.time_peg.specs.Entries.{NotaryState}
use Rattle.twin_file.specs.Twin.{open_of}
use Rattle.ledger_cli.specs.Asking.{OpensAndWrites}
use Rattle.ledger_cli.specs.Endings.{ending_of_opening, line_of, refusal_of}
use Rattle.ledger_cli.specs.Runs.{Handed, handed, Anything, FaultsBy, HasNone, LeaveFoundedOrShut, Exports, IsNotOpened, NotaryFailsBy, SettledAsRead, StayAsRead, IsUnstarted, IsRefused, IsMadeOf, RunsAgain, RunsNew, Makes, ledger_line, Runs}
use Rattle.ledger_cli.specs.declared.ending.LedgerEnding.{LedgerEnding}
use Rattle.ledger_cli.specs.declared.ending.LedgerEnding.TheVariants.{Run}
use Rattle.ledger_bytes.specs.Digests.{digest}
use Rattle.ledger_bytes.specs.declared.digest.Digest.{Digest}
use Rattle.script_lines.specs.Words.{hex_of}
use Rattle.ledger_io.specs.Writing.{WritesFirst}
use Rattle.ledger_io.specs.declared.writer.WriteErr.{WriteErr}
use Rattle.ledger_io.specs.declared.writer.WriteErr.TheVariants.{WriteFault}
use Rattle.ledger_cli.proofs.FailureLaws.{fails_unread}
use Rattle.ledger_cli.proofs.CarryLaws.{first_short, serves_from, faults_from, of_lines, no_refusal, none_waits}

-- ---- faults of opening

module _ (source : SourceState) (sink : SinkState) (n : NotaryState) (old now : Pair) where
  pub counts_ended : (e : OpenErr) → CountsTwoErr e old.a.faults now.a.faults old.b.faults now.b.faults → FaultsBy (ending_of_opening e) (handed source sink old n) (handed source sink now n)
  counts_ended open_err.DiskFault c = record { source_is = inl refl; sink_is = (refl, refl); disks_are = c }
  counts_ended open_err.NoMemory c = record { source_is = inl refl; sink_is = (refl, refl); disks_are = record { a = c.0; b = c.1 } }
  counts_ended (open_err.Damaged damage) c = record { source_is = refl; sink_is = (refl, refl); disks_are = record { a = c.0; b = c.1 } }
  counts_ended open_err.Empty c = record { source_is = refl; sink_is = (refl, refl); disks_are = record { a = c.0; b = c.1 } }
  counts_ended open_err.Exists c = record { source_is = refl; sink_is = (refl, refl); disks_are = record { a = c.0; b = c.1 } }
  counts_ended (open_err.NewerFormat found) c = record { source_is = refl; sink_is = (refl, refl); disks_are = record { a = c.0; b = c.1 } }

-- ---- a ledger that is opened again

module _ (scheme : Scheme) (tells : Bool) (source : SourceState) (sink : SinkState) (n : NotaryState) (old now : Pair) where
  -- nothing was read or written
  unstarted : IsUnstarted (handed source sink old n) (handed source sink now n)
  unstarted = record { unread = refl; unwritten = refl; unasked = refl }

  -- it isn't opened
  module _ (same : IsTrue tells → (now.a.bytes ≡ settled_state old.a.bytes.seen) × (now.b.bytes ≡ settled_state old.b.bytes.seen)) where
    settled : IsTrue tells → SettledAsRead old now
    settled t = record { a = (same t).0; b = (same t).1 }

    refusal : (e : OpenErr) → (IsTrue tells → IsOpenErr old.a.bytes.seen old.b.bytes.seen e) → IsTrue tells → IsRefused e old now
    refusal e err t = record { cause = err t; left = settled t }

  stay : StandsAsRead old.a.bytes now.a.bytes × StandsAsRead old.b.bytes now.b.bytes → StayAsRead old now
  stay both = record { a = both.0; b = both.1 }

  -- each image stands for a history
  abbrev EachStands : History → Type 0
  EachStands h = (a b : List ℕ) → MayLeave now.a.bytes a → MayLeave now.b.bytes b → PairFor a b h

  stood : (h : History) → PairFor old.a.bytes.seen old.b.bytes.seen h → StandsAsRead old.a.bytes now.a.bytes × StandsAsRead old.b.bytes now.b.bytes ⊎ ((h : History) → PairFor old.a.bytes.seen old.b.bytes.seen h → EachStands h) → StayAsRead old now ⊎ EachStands h
  stood h p (inl both) = inl (stay both)
  stood h p (inr each) = inr (each h p)

  pub not_opened : (IsSo : History → History → Type 0) (e : OpenErr) → e ≢ open_err.Exists → (IsTrue tells → IsOpenErr old.a.bytes.seen old.b.bytes.seen e)
      → (e ≢ open_err.DiskFault → IsTrue tells → (now.a.bytes ≡ settled_state old.a.bytes.seen) × (now.b.bytes ≡ settled_state old.b.bytes.seen))
      → (IsTrue tells → (f : OpenErr) → (IsOutside f → ⊥) → IsOpenErr old.a.bytes.seen old.b.bytes.seen f → StandsAsRead old.a.bytes now.a.bytes × StandsAsRead old.b.bytes now.b.bytes)
      → (IsTrue tells → StandsAsRead old.a.bytes now.a.bytes × StandsAsRead old.b.bytes now.b.bytes ⊎ ((h : History) → PairFor old.a.bytes.seen old.b.bytes.seen h → EachStands h))
      → (IsTrue tells → IsSettled old.a.bytes → IsSettled old.b.bytes → (h : History) → IsCleanPair old.a.bytes.seen old.b.bytes.seen h → (now.a.bytes ≡ old.a.bytes) × (now.b.bytes ≡ old.b.bytes))
      → CountsTwoErr e old.a.faults now.a.faults old.b.faults now.b.faults → RunsAgain scheme tells IsSo (ending_of_opening e) (handed source sink old n) (handed source sink now n)
  not_opened IsSo open_err.DiskFault other err same kept images clean counts = record {
    serves = λ t h p l. inr (record { outside = inl refl; unstarted = unstarted; left = λ is. absurd (let no : ⊥ = cc is in no); images = stood h p (images t); clean = λ q. clean t q.a q.b h });
    unstarted = λ some. unstarted;
    refused = λ t. tt;
    only = tt;
    exact = λ t f cause not. (unstarted, inl (inl refl, stay (kept t f not cause)));
    ends = tt;
    faults = counts_ended source sink n old now open_err.DiskFault counts;
    failures = fails_unread source n;
  }
  not_opened IsSo open_err.NoMemory other err same kept images clean counts = record {
    serves = λ t h p l. inr (record { outside = inr refl; unstarted = unstarted; left = λ is. let now_is = same (λ no. let none : ⊥ = cc no in none) t in record { a = inr now_is.0; b = inr now_is.1 }; images = stood h p (images t); clean = λ q. clean t q.a q.b h });
    unstarted = λ some. unstarted;
    refused = λ t. tt;
    only = tt;
    exact = λ t f cause not. (unstarted, inl (inr refl, stay (kept t f not cause)));
    ends = tt;
    faults = counts_ended source sink n old now open_err.NoMemory counts;
    failures = fails_unread source n;
  }
  not_opened IsSo (open_err.Damaged damage) other err same kept images clean counts = record {
    serves = λ t h p l. absurd (pair_opens old.a.bytes.seen old.b.bytes.seen h p (open_err.Damaged damage) (err t));
    unstarted = λ some. unstarted;
    refused = refusal (same (λ is. let no : ⊥ = cc is in no)) (open_err.Damaged damage) err;
    only = other;
    exact = λ t f cause not. (unstarted, inr (err t, settled (same (λ is. let no : ⊥ = cc is in no)) t));
    ends = refl;
    faults = counts_ended source sink n old now (open_err.Damaged damage) counts;
    failures = fails_unread source n;
  }
  not_opened IsSo open_err.Empty other err same kept images clean counts = record {
    serves = λ t h p l. absurd (pair_opens old.a.bytes.seen old.b.bytes.seen h p open_err.Empty (err t));
    unstarted = λ some. unstarted;
    refused = refusal (same (λ is. let no : ⊥ = cc is in no)) open_err.Empty err;
    only = other;
    exact = λ t f cause not. (unstarted, inr (err t, settled (same (λ is. let no : ⊥ = cc is in no)) t));
    ends = refl;
    faults = counts_ended source sink n old now open_err.Empty counts;
    failures = fails_unread source n;
  }
  not_opened IsSo open_err.Exists other err same kept images clean counts = record {
    serves = λ t h p l. absurd (err t);
    unstarted = λ some. unstarted;
    refused = refusal (same (λ is. let no : ⊥ = cc is in no)) open_err.Exists err;
    only = other;
    exact = λ t f cause not. absurd (err t);
    ends = refl;
    faults = counts_ended source sink n old now open_err.Exists counts;
    failures = fails_unread source n;
  }
  not_opened IsSo (open_err.NewerFormat found) other err same kept images clean counts = record {
    serves = λ t h p l. absurd (pair_opens old.a.bytes.seen old.b.bytes.seen h p (open_err.NewerFormat found) (err t));
    unstarted = λ some. unstarted;
    refused = refusal (same (λ is. let no : ⊥ = cc is in no)) (open_err.NewerFormat found) err;
    only = other;
    exact = λ t f cause not. (unstarted, inr (err t, settled (same (λ is. let no : ⊥ = cc is in no)) t));
    ends = refl;
    faults = counts_ended source sink n old now (open_err.NewerFormat found) counts;
    failures = fails_unread source n;
  }

  -- .. and no dump of it is written
  not_read : (e : OpenErr) → (IsTrue tells → IsOpenErr old.a.bytes.seen old.b.bytes.seen e)
      → (e ≢ open_err.DiskFault → IsTrue tells → (now.a.bytes ≡ settled_state old.a.bytes.seen) × (now.b.bytes ≡ settled_state old.b.bytes.seen))
      → (IsTrue tells → StandsAsRead old.a.bytes now.a.bytes × StandsAsRead old.b.bytes now.b.bytes ⊎ ((h : History) → PairFor old.a.bytes.seen old.b.bytes.seen h → EachStands h))
      → (IsTrue tells → IsSettled old.a.bytes → IsSettled old.b.bytes → (h : History) → IsCleanPair old.a.bytes.seen old.b.bytes.seen h → (now.a.bytes ≡ old.a.bytes) × (now.b.bytes ≡ old.b.bytes))
      → IsTrue tells → (h : History) → PairFor old.a.bytes.seen old.b.bytes.seen h → IsNotOpened h (ending_of_opening e) (handed source sink old n) (handed source sink now n)
  not_read open_err.DiskFault err same images clean t h p =
      record { outside = inl refl; unstarted = unstarted; left = λ is. absurd (let no : ⊥ = cc is in no); images = stood h p (images t); clean = λ q. clean t q.a q.b h }
  not_read open_err.NoMemory err same images clean t h p =
      record { outside = inr refl; unstarted = unstarted; left = λ is. let now_is = same (λ no. let none : ⊥ = cc no in none) t in record { a = inr now_is.0; b = inr now_is.1 }; images = stood h p (images t); clean = λ q. clean t q.a q.b h }
  not_read (open_err.Damaged damage) err same images clean t h p = absurd (pair_opens old.a.bytes.seen old.b.bytes.seen h p (open_err.Damaged damage) (err t))
  not_read open_err.Empty err same images clean t h p = absurd (pair_opens old.a.bytes.seen old.b.bytes.seen h p open_err.Empty (err t))
  not_read open_err.Exists err same images clean t h p = absurd (err t)
  not_read (open_err.NewerFormat found) err same images clean t h p = absurd (pair_opens old.a.bytes.seen old.b.bytes.seen h p (open_err.NewerFormat found) (err t))

  notary_same : (e : OpenErr) → NotaryFailsBy (ending_of_opening e) n.faults n.faults
  notary_same open_err.DiskFault = refl
  notary_same open_err.NoMemory = refl
  notary_same (open_err.Damaged damage) = refl
  notary_same open_err.Empty = refl
  notary_same open_err.Exists = refl
  notary_same (open_err.NewerFormat found) = refl

  pub not_dumped : (e : OpenErr) → e ≢ open_err.Exists → (IsTrue tells → IsOpenErr old.a.bytes.seen old.b.bytes.seen e)
      → (e ≢ open_err.DiskFault → IsTrue tells → (now.a.bytes ≡ settled_state old.a.bytes.seen) × (now.b.bytes ≡ settled_state old.b.bytes.seen))
      → (IsTrue tells → (f : OpenErr) → (IsOutside f → ⊥) → IsOpenErr old.a.bytes.seen old.b.bytes.seen f → StandsAsRead old.a.bytes now.a.bytes × StandsAsRead old.b.bytes now.b.bytes)
      → (IsTrue tells → StandsAsRead old.a.bytes now.a.bytes × StandsAsRead old.b.bytes now.b.bytes ⊎ ((h : History) → PairFor old.a.bytes.seen old.b.bytes.seen h → EachStands h))
      → (IsTrue tells → IsSettled old.a.bytes → IsSettled old.b.bytes → (h : History) → IsCleanPair old.a.bytes.seen old.b.bytes.seen h → (now.a.bytes ≡ old.a.bytes) × (now.b.bytes ≡ old.b.bytes))
      → CountsTwoErr e old.a.faults now.a.faults old.b.faults now.b.faults → Exports tells (ending_of_opening e) (handed source sink old n) (handed source sink now n)
  not_dumped e other err same kept images clean counts = record {
    serves = λ t h p. inr (not_read e err same images clean t h p);
    unread = refl;
    asked = record { entries = refl; origin = refl };
    exact = (not_opened Anything e other err same kept images clean counts).exact;
    faults = counts_ended source sink n old now e counts;
    notary_fails = notary_same e;
  }

  -- .. and no text of it
  pub not_written : (IsText : History → List ℕ → Type 0) (HasCause : History → LedgerEnding → Type 0) (e : OpenErr) → e ≢ open_err.Exists → (IsTrue tells → IsOpenErr old.a.bytes.seen old.b.bytes.seen e)
      → (e ≢ open_err.DiskFault → IsTrue tells → (now.a.bytes ≡ settled_state old.a.bytes.seen) × (now.b.bytes ≡ settled_state old.b.bytes.seen))
      → (IsTrue tells → (f : OpenErr) → (IsOutside f → ⊥) → IsOpenErr old.a.bytes.seen old.b.bytes.seen f → StandsAsRead old.a.bytes now.a.bytes × StandsAsRead old.b.bytes now.b.bytes)
      → (IsTrue tells → StandsAsRead old.a.bytes now.a.bytes × StandsAsRead old.b.bytes now.b.bytes ⊎ ((h : History) → PairFor old.a.bytes.seen old.b.bytes.seen h → EachStands h))
      → (IsTrue tells → IsSettled old.a.bytes → IsSettled old.b.bytes → (h : History) → IsCleanPair old.a.bytes.seen old.b.bytes.seen h → (now.a.bytes ≡ old.a.bytes) × (now.b.bytes ≡ old.b.bytes))
      → CountsTwoErr e old.a.faults now.a.faults old.b.faults now.b.faults
      → OpensAndWrites IsText HasCause tells (ending_of_opening e) (handed source sink old n) (handed source sink now n)
  not_written IsText HasCause e other err same kept images clean counts = record {
    serves = λ t h p. inr (not_read e err same images clean t h p);
    exact = (not_opened Anything e other err same kept images clean counts).exact;
    faults = counts_ended source sink n old now e counts;
  }

  -- nothing was done for want of memory
  pub again_unstarted : (IsSo : History → History → Type 0) → now ≡ old → RunsAgain scheme tells IsSo (Run run.NoMemory) (handed source sink old n) (handed source sink now n)
  again_unstarted IsSo is =
      subst (λ (d : Pair). RunsAgain scheme tells IsSo (Run run.NoMemory) (handed source sink old n) (handed source sink d n)) (sym is) (record {
        serves = λ t h p l. inr (record { outside = inr refl; unstarted = record { unread = refl; unwritten = refl; unasked = refl }; left = λ is. record { a = inl refl; b = inl refl }; images = inl (record { a = inl refl; b = inl refl }); clean = λ q c. (refl, refl) });
        unstarted = λ some. record { unread = refl; unwritten = refl; unasked = refl };
        refused = λ t. tt;
        only = tt;
        exact = λ t f cause not. (record { unread = refl; unwritten = refl; unasked = refl }, inl (inr refl, record { a = inl refl; b = inl refl }));
        ends = tt;
        faults = record { source_is = inl refl; sink_is = (refl, refl); disks_are = record { a = refl; b = refl } };
        failures = fails_unread source n;
      })

  pub dump_unstarted : now ≡ old → Exports tells (Run run.NoMemory) (handed source sink old n) (handed source sink now n)
  dump_unstarted is =
      subst (λ (d : Pair). Exports tells (Run run.NoMemory) (handed source sink old n) (handed source sink d n)) (sym is) (record {
        serves = λ t h p. inr (record { outside = inr refl; unstarted = record { unread = refl; unwritten = refl; unasked = refl }; left = λ is. record { a = inl refl; b = inl refl }; images = inl (record { a = inl refl; b = inl refl }); clean = λ q c. (refl, refl) });
        unread = refl;
        asked = record { entries = refl; origin = refl };
        exact = λ t f cause not. (record { unread = refl; unwritten = refl; unasked = refl }, inl (inr refl, record { a = inl refl; b = inl refl }));
        faults = record { source_is = inl refl; sink_is = (refl, refl); disks_are = record { a = refl; b = refl } };
        notary_fails = refl;
      })

  pub write_unstarted : (IsText : History → List ℕ → Type 0) (HasCause : History → LedgerEnding → Type 0) → now ≡ old → OpensAndWrites IsText HasCause tells (Run run.NoMemory) (handed source sink old n) (handed source sink now n)
  write_unstarted IsText HasCause is =
      subst (λ (d : Pair). OpensAndWrites IsText HasCause tells (Run run.NoMemory) (handed source sink old n) (handed source sink d n)) (sym is) (record {
        serves = λ t h p. inr (record { outside = inr refl; unstarted = record { unread = refl; unwritten = refl; unasked = refl }; left = λ is. record { a = inl refl; b = inl refl }; images = inl (record { a = inl refl; b = inl refl }); clean = λ q c. (refl, refl) });
        exact = λ t f cause not. (record { unread = refl; unwritten = refl; unasked = refl }, inl (inr refl, record { a = inl refl; b = inl refl }));
        faults = record { source_is = inl refl; sink_is = (refl, refl); disks_are = record { a = refl; b = refl } };
      })

  -- it is opened, and a committer begins with it
  module _ (k : Known) (in_a : Bool) (edition : Edition) (start : Option Base) (blocks : List (List Entry)) (opened : IsOpened k in_a now start blocks) (kept : CommitterState) (kept_is : kept ≡ kept_from k in_a edition) where
    pub again_fits : (IsTrue tells → IsReopened in_a k start blocks old.a.bytes old.b.bytes now.a.bytes now.b.bytes) → (IsTrue tells → edition ≡ edition_of (open_of in_a now.a.bytes now.b.bytes).seen) → Fits tells (world kept now sink)
    again_fits r is = subst (λ (x : CommitterState). Fits tells (world x now sink)) (sym kept_is) (opened_fits tells k in_a edition start blocks old.a.bytes old.b.bytes now sink opened r is)

    pub begins_room : HasRoom kept
    begins_room = subst HasRoom (sym kept_is) (opened_room k in_a edition start blocks now opened)

    pub begins_none : kept.dues ≡ []
    begins_none = ap (λ (x : CommitterState). x.dues) kept_is

    pub ran_again : (IsSo : History → History → Type 0) (limits : k.book.limits ≡ real_limits) (r : IsTrue tells → IsReopened in_a k start blocks old.a.bytes old.b.bytes now.a.bytes now.b.bytes) (a : now.a.faults ≡ old.a.faults) (b : now.b.faults ≡ old.b.faults)
        (ending : LedgerEnding) (last : Handed) → Runs scheme tells (world kept now sink) IsSo ending (handed source sink now n) last → refusal_of ending ≡ None → RunsAgain scheme tells IsSo ending (handed source sink old n) last
    ran_again IsSo limits r a b ending last ran started = record {
      serves = λ t h p l.
          inl (serves_from scheme h (IsSo h) ending source sink n now old last
          (ran.serves h (subst (λ (x : CommitterState). Holds tells (world x now sink) h) (sym kept_is) (opened_held tells k in_a edition start blocks old.a.bytes old.b.bytes now sink h opened limits t (r t) p)) (none_waits old.a.bytes.seen old.b.bytes.seen h p) l));
      unstarted = λ some. absurd (no_refusal ending started some);
      refused = λ t. of_lines ending _ started;
      only = of_lines ending _ started;
      exact = λ t e cause not. absurd (not (reopened_only k in_a start blocks old.a.bytes old.b.bytes now.a.bytes now.b.bytes (r t) e cause));
      ends = ran.ends;
      faults = faults_from source sink n now old last a b ending ran.faults;
      failures = ran.failures;
    }

-- ---- a ledger that is made

-- what is known of it is what is known of one that was opened
pub known_remembered : {k : Known} {start : Option Base} {blocks : List (List Entry)} → Knows k start blocks → Remembers k start blocks
known_remembered n = record { serves = λ none. n.serves; lawful = n.lawful; floor = n.floor; places = n.places; tail = n.tail; settled = n.settled }

-- its book is one of the new ledger
pub new_serves : (genesis : Genesis) {k : Known} → Knows k None (new_ledger genesis).closed → Serves k.book (new_ledger genesis)
new_serves genesis n =
    n.serves (new_ledger genesis) (record {
      lawful = founded_lawful genesis;
      none = refl;
      parts = record { gone = []; kept = (new_ledger genesis).closed; are = refl; at = refl };
      base = tt;
      same = same_self (is_hidden (new_ledger genesis)) (new_ledger genesis).closed;
    })

shut_open : (file : List ℕ) → IsShut file → IsOpen file → ⊥
shut_open file (inl short) open_ = omega (arith, short, open_.long)
shut_open file (inr gate) open_ = gate open_.gate

-- two files that are shut aren't open
none_open : (a b : State) → IsShut a.seen → IsShut b.seen → IsOneOpen a.seen b.seen → ⊥
none_open a b i j (inl x) = shut_open a.seen i x
none_open a b i j (inr x) = shut_open b.seen j x

-- what was done with two files at their founding, in the words of a run
pub founding_left : (genesis : Genesis) (old now : Pair)
    → StandsAsRead old.a.bytes now.a.bytes × StandsAsRead old.b.bytes now.b.bytes ⊎ (IsShut old.a.bytes.seen → IsShut old.b.bytes.seen → LeaveFoundedOrShut genesis now)
    → StayAsRead old now ⊎ (HasNone old → LeaveFoundedOrShut genesis now)
founding_left genesis old now (inl both) = inl (record { a = both.0; b = both.1 })
founding_left genesis old now (inr each) = inr (λ none. each none.0 none.1)

module _ (genesis : Genesis) (tells : Bool) (source : SourceState) (sink : SinkState) (n : NotaryState) (old now : Pair)
    (left : IsTrue tells → IsOneOpen old.a.bytes.seen old.b.bytes.seen → StandsAsRead old.a.bytes now.a.bytes × StandsAsRead old.b.bytes now.b.bytes)
    (images : IsTrue tells → StayAsRead old now ⊎ (HasNone old → LeaveFoundedOrShut genesis now)) where
  stayed : IsTrue tells → IsOneOpen old.a.bytes.seen old.b.bytes.seen → StayAsRead old now
  stayed t o = let l = left t o in record { a = l.0; b = l.1 }

  module _ (same : IsTrue tells → (now.a.bytes ≡ settled_state old.a.bytes.seen) × (now.b.bytes ≡ settled_state old.b.bytes.seen)) where
    settled_now : IsTrue tells → SettledAsRead old now
    settled_now t = record { a = (same t).0; b = (same t).1 }

    stayed_now : IsTrue tells → StayAsRead old now
    stayed_now t = record { a = inr (same t).0; b = inr (same t).1 }

  -- where both were shut
  were_shut : HasNone old → StayAsRead old now ⊎ (HasNone old → LeaveFoundedOrShut genesis now) → StayAsRead old now ⊎ LeaveFoundedOrShut genesis now
  were_shut none (inl stay) = inl stay
  were_shut none (inr each) = inr (each none)

  -- it isn't made
  pub not_made : (e : OpenErr) → IsOutside e ⊎ (e ≡ open_err.Exists) → (e ≡ open_err.Exists → IsTrue tells → IsOneOpen old.a.bytes.seen old.b.bytes.seen)
      → (e ≢ open_err.DiskFault → IsTrue tells → (now.a.bytes ≡ settled_state old.a.bytes.seen) × (now.b.bytes ≡ settled_state old.b.bytes.seen))
      → CountsTwoErr e old.a.faults now.a.faults old.b.faults now.b.faults → Makes genesis tells (ending_of_opening e) (handed source sink old n) (handed source sink now n)
  not_made open_err.DiskFault why exists same counts = record {
    written = [];
    unread = refl;
    unasked = refl;
    appended = Appends-nil sink.held;
    made = (refl, stayed);
    images = images;
    faults = counts_ended source sink n old now open_err.DiskFault counts;
  }
  not_made open_err.NoMemory why exists same counts = record {
    written = [];
    unread = refl;
    unasked = refl;
    appended = Appends-nil sink.held;
    made = (refl, λ t. inl (stayed_now (same (λ is. let no : ⊥ = cc is in no)) t));
    images = images;
    faults = counts_ended source sink n old now open_err.NoMemory counts;
  }
  not_made open_err.Exists why exists same counts = record {
    written = [];
    unread = refl;
    unasked = refl;
    appended = Appends-nil sink.held;
    made = (refl, λ t. (exists refl t, settled_now (same (λ is. let no : ⊥ = cc is in no)) t));
    images = images;
    faults = counts_ended source sink n old now open_err.Exists counts;
  }
  not_made (open_err.Damaged damage) (inl why) exists same counts = absurd why
  not_made (open_err.Damaged damage) (inr is) exists same counts = absurd (let no : ⊥ = cc is in no)
  not_made open_err.Empty (inl why) exists same counts = absurd why
  not_made open_err.Empty (inr is) exists same counts = absurd (let no : ⊥ = cc is in no)
  not_made (open_err.NewerFormat found) (inl why) exists same counts = absurd why
  not_made (open_err.NewerFormat found) (inr is) exists same counts = absurd (let no : ⊥ = cc is in no)

  -- .. and no script is run
  pub not_run : (scheme : Scheme) (e : OpenErr) → IsOutside e ⊎ (e ≡ open_err.Exists) → (e ≡ open_err.Exists → IsTrue tells → IsOneOpen old.a.bytes.seen old.b.bytes.seen)
      → (e ≢ open_err.DiskFault → IsTrue tells → (now.a.bytes ≡ settled_state old.a.bytes.seen) × (now.b.bytes ≡ settled_state old.b.bytes.seen))
      → CountsTwoErr e old.a.faults now.a.faults old.b.faults now.b.faults → RunsNew scheme genesis tells (ending_of_opening e) (handed source sink old n) (handed source sink now n)
  not_run scheme open_err.DiskFault why exists same counts = record {
    serves = λ t none l. inr (record { outside = inl refl; unstarted = unstarted scheme tells source sink n old now; left = λ is. absurd (let no : ⊥ = cc is in no); images = were_shut none (images t) });
    unstarted = λ some. unstarted scheme tells source sink n old now;
    only = tt;
    left = λ t o. (unstarted scheme tells source sink n old now, inl (inl refl, stayed t o));
    ends = tt;
    faults = counts_ended source sink n old now open_err.DiskFault counts;
    failures = fails_unread source n;
  }
  not_run scheme open_err.NoMemory why exists same counts = record {
    serves = λ t none l. inr (record { outside = inr refl; unstarted = unstarted scheme tells source sink n old now; left = λ is. stayed_now (same (λ no. let none : ⊥ = cc no in none)) t; images = were_shut none (images t) });
    unstarted = λ some. unstarted scheme tells source sink n old now;
    only = tt;
    left = λ t o. (unstarted scheme tells source sink n old now, inl (inr refl, stayed t o));
    ends = tt;
    faults = counts_ended source sink n old now open_err.NoMemory counts;
    failures = fails_unread source n;
  }
  not_run scheme open_err.Exists why exists same counts = record {
    serves = λ t none l. absurd (none_open old.a.bytes old.b.bytes none.0 none.1 (exists refl t));
    unstarted = λ some. unstarted scheme tells source sink n old now;
    only = refl;
    left = λ t o. (unstarted scheme tells source sink n old now, inr (refl, settled_now (same (λ is. let no : ⊥ = cc is in no)) t));
    ends = refl;
    faults = counts_ended source sink n old now open_err.Exists counts;
    failures = fails_unread source n;
  }
  not_run scheme (open_err.Damaged damage) (inl why) exists same counts = absurd why
  not_run scheme (open_err.Damaged damage) (inr is) exists same counts = absurd (let no : ⊥ = cc is in no)
  not_run scheme open_err.Empty (inl why) exists same counts = absurd why
  not_run scheme open_err.Empty (inr is) exists same counts = absurd (let no : ⊥ = cc is in no)
  not_run scheme (open_err.NewerFormat found) (inl why) exists same counts = absurd why
  not_run scheme (open_err.NewerFormat found) (inr is) exists same counts = absurd (let no : ⊥ = cc is in no)

  -- it is made
  module _ (a : now.a.faults ≡ old.a.faults) (b : now.b.faults ≡ old.b.faults) (founded : IsTrue tells → IsFounded genesis now.a.bytes now.b.bytes) (shut : IsTrue tells → IsShut old.a.bytes.seen × IsShut old.b.bytes.seen) where
    never : {A : Type 0} → IsTrue tells → IsOneOpen old.a.bytes.seen old.b.bytes.seen → A
    never t o = absurd (none_open old.a.bytes old.b.bytes (shut t).0 (shut t).1 o)

    made_now : IsTrue tells → IsMadeOf genesis old now
    made_now t = (shut t, founded t)

    pub made_unspelled : Makes genesis tells (Run run.NoMemory) (handed source sink old n) (handed source sink now n)
    made_unspelled = record {
      written = [];
      unread = refl;
      unasked = refl;
      appended = Appends-nil sink.held;
      made = (refl, λ t. inr (made_now t));
      images = images;
      faults = record { source_is = inl refl; sink_is = (refl, refl); disks_are = record { a = a; b = b } };
    }

    pub made_told : (later : SinkState) (written : List ℕ) → written ≡ ledger_line genesis → Appends sink.held later.held written → MeetsNone sink later → Makes genesis tells (Run run.Done) (handed source sink old n) (handed source later now n)
    made_told later written is appended none = record {
      written = written;
      unread = refl;
      unasked = refl;
      appended = appended;
      made = (is, made_now);
      images = images;
      faults = record { source_is = refl; sink_is = none; disks_are = record { a = a; b = b } };
    }

    pub made_cut : (later : SinkState) (written : List ℕ) → FallsShort written (ledger_line genesis) → Appends sink.held later.held written → MeetsOne sink later → Makes genesis tells (Run run.WriteFault) (handed source sink old n) (handed source later now n)
    made_cut later written short appended one = record {
      written = written;
      unread = refl;
      unasked = refl;
      appended = appended;
      made = (short, made_now);
      images = images;
      faults = record { source_is = inl refl; sink_is = one; disks_are = record { a = a; b = b } };
    }

    pub made_failed : (later : SinkState) (error : WriteErr) (piece : List ℕ) → piece ≡ ledger_line genesis → WritesFirst sink.held later.held piece error → MeetsOne sink later → Makes genesis tells (Run run.WriteFault) (handed source sink old n) (handed source later now n)
    made_failed later (WriteFault taken) piece is first one = made_cut later (take taken piece) (first_short (ledger_line genesis) piece taken is first.0) first.1 one

    -- .. and a committer begins with it
    module _ (k : Known) (keys : HasKeys genesis) (opened : IsOpened k true now None (new_ledger genesis).closed) (in_a : Bool) (first : in_a ≡ true) (edition : Edition) (one : edition ≡ edition_from 2 1) (kept : CommitterState) (kept_is : kept ≡ kept_from k in_a edition) where
      here : kept ≡ kept_from k true (edition_from 2 1)
      here = kept_is ∙ ap (λ v. kept_from k v edition) first ∙ ap (kept_from k true) one

      pub new_fits : Fits tells (world kept now sink)
      new_fits = subst (λ (x : CommitterState). Fits tells (world x now sink)) (sym here) (founded_fits tells k genesis now sink keys opened founded)

      pub new_room : HasRoom kept
      new_room = subst HasRoom (sym here) (opened_room k true (edition_from 2 1) None (new_ledger genesis).closed now opened)

      pub new_none : kept.dues ≡ []
      new_none = ap (λ (x : CommitterState). x.dues) here

      pub ran_new : (scheme : Scheme) (limits : k.book.limits ≡ real_limits) (ending : LedgerEnding) (last : Handed) → Runs scheme tells (world kept now sink) Anything ending (handed source sink now n) last → refusal_of ending ≡ None → RunsNew scheme genesis tells ending (handed source sink old n) last
      ran_new scheme limits ending last ran started = record {
        serves = λ t none l.
            inl (serves_from scheme (new_ledger genesis) (Anything (new_ledger genesis)) ending source sink n now old last
            (ran.serves (new_ledger genesis) (subst (λ (x : CommitterState). Holds tells (world x now sink) (new_ledger genesis)) (sym here) (founded_held tells k genesis now sink keys opened limits t (founded t))) refl l));
        unstarted = λ some. absurd (no_refusal ending started some);
        only = of_lines ending _ started;
        left = λ t o. never t o;
        ends = ran.ends;
        faults = faults_from source sink n now old last a b ending ran.faults;
        failures = ran.failures;
      }

-- the line that tells a new ledger
pub ledger_line_is : (genesis : Genesis) (id_now : Digest) → id_now.0 ≡ id (new_ledger genesis) → line_of (codes "ledger") (hex_of id_now ∷ decimal 1 ∷ hex_of id_now ∷ []) ≡ ledger_line genesis
ledger_line_is genesis id_now is = ap (λ (d : List ℕ). line_of (codes "ledger") (hex_of (digest d) ∷ decimal 1 ∷ hex_of (digest d) ∷ [])) is
