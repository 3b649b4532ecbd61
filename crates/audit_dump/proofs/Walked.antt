-- The journals that were read through a window, and the report that they give with what stands behind them.
use Rattle.std.specs.List.{flat_map}
use Rattle.std.specs.Option.{option_map}
use Rattle.std.proofs.Common.{◌≡◌, ℕ, ◌+◌, ◌-◌, ◌≤◌, true, Bool, List, [], ◌∷◌, ◌++◌, length, length-append, length-drop, take, drop, append_assoc, take-append-drop, arith, Option, Some, None, Ok, Err, sym, ap, ap₂, subst, ◌∙◌}
use Rattle.std.proofs.lemmas.Bool.{lt-ltb, le-ltb}
use Rattle.std.proofs.lemmas.Grind.{flat_map-append}
use Rattle.std.proofs.lemmas.List.{append-nil}
use Rattle.std.proofs.lemmas.List.Elements.{All-nil, All-push, recursion_from_All}
use Rattle.ledger_bytes.specs.Fields.{Unread, left_from}
use Rattle.ledger_io.specs.Outside.{SourceState}
use Rattle.ledger_io.specs.Windows.{Seen, HasEnough}
use Rattle.ledger_io.specs.declared.failure.LineErr.{LineErr}
use Rattle.ledger_io.specs.declared.failure.LineErr.TheVariants.{NoMemory}
use Rattle.journal_record.specs.Entry.{Entry}
use Rattle.journal_record.specs.Items.{Item, IsItem, item_at, item_text, most_bytes}
use Rattle.journal_record.proofs.ItemLaws.{item_back}
use Rattle.pseudo_genesis.specs.declared.base.Base.{Base}
use Rattle.ledger_model.specs.Scheme.{Scheme}
use Rattle.audit_dump.specs.Audits.{IsLastFaultAt, Reports, TellsOf}
use Rattle.audit_dump.specs.Breaks.{place_behind}
use Rattle.audit_dump.specs.Bytes.{HaveBeenRead, IsFaultBehind, IsNextFault, IsReportBehind}
use Rattle.audit_dump.specs.Ending.{Given}
use Rattle.audit_dump.specs.Fronts.{HasReadOn, front_of, unread}
use Rattle.audit_dump.specs.Journals.{HasReadJournals, HasWalked}
use Rattle.audit_dump.specs.Known.{journal_of, journals_of}
use Rattle.audit_dump.specs.Passing.{early_of}
use Rattle.audit_dump.specs.Prepared.{HasReadThere}
use Rattle.audit_dump.specs.Reading.{AreGood, IsGood}
use Rattle.audit_dump.specs.Reports.{Counts, fault_at}
use Rattle.audit_dump.specs.Reports.Check.{form, early}
use Rattle.audit_dump.specs.Tails.{HasFailed}
use Rattle.audit_dump.specs.Told.{fault_of, report_of}
use Rattle.audit_dump.specs.Walking.{MayFollow}
use Rattle.audit_dump.specs.declared.front.Front.{Front as FrontRead}
use Rattle.audit_dump.specs.declared.passing.EarlyCheck.{EarlyCheck}
use Rattle.audit_dump.specs.declared.reading.Outcome.TheVariants as outcome
use Rattle.audit_dump.specs.declared.report.Check.TheVariants as told
use Rattle.audit_dump.specs.declared.report.Fault.{Fault}
use Rattle.audit_dump.specs.declared.report.Report.{Report}
use Rattle.audit_dump.specs.declared.walking.Break.{Break}
use Rattle.audit_dump.specs.declared.journals.Journals.{Journals}
use Rattle.audit_dump.proofs.Fronts.{read_none, read_trans, unread_place}
use Rattle.audit_dump.proofs.Parts.{items_back}
use Rattle.audit_dump.proofs.Walks.{errors_then}

-- ---- several journals

-- one journal more
texts_more : (items : List Item) (x : Item) → flat_map item_text (items ++ x ∷ []) ≡ flat_map item_text items ++ item_text x
texts_more items x = flat_map-append item_text items (x ∷ []) ∙ ap (λ t. flat_map item_text items ++ t) (append-nil (item_text x))

pub good_more : (scheme : Scheme) (id : List ℕ) (start : Option Base) (before : List Entry) (items : List Item) (x : Item) → AreGood scheme id start before items → IsGood scheme id start (before ++ journals_of items) x
    → AreGood scheme id start before (items ++ x ∷ [])
good_more scheme id start before [] x all good = (subst (λ (js : List Entry). IsGood scheme id start js x) (append-nil before) good, tt)
good_more scheme id start before (y ∷ items) x all good = (
  all.0,
  good_more scheme id start (before ++ journal_of y ∷ []) items x all.1 (subst (λ (js : List Entry). IsGood scheme id start js x) (sym (append_assoc before (journal_of y ∷ []) (journals_of items))) good),
)

-- no journal yet
pub walked_none : (a : SourceState) (x : Seen) → HasWalked a a x x []
walked_none a x = record { bytes = []; read_bytes = read_none a x; parts = append-nil x.held; each = All-nil IsItem }

-- more bytes, and nothing taken
pub walked_seen : (a b c : SourceState) (x y z : Seen) (items : List Item) → HasWalked a b x y items → HasReadThere b c y z → HasWalked a c x z items
walked_seen a b c x y z items w s = let bs = s.bytes in record {
  bytes = w.bytes ++ bs;
  read_bytes = read_trans a b c x y z w.bytes bs w.read_bytes s.read_bytes;
  parts = sym (append_assoc x.held w.bytes bs) ∙ ap (λ t. t ++ bs) w.parts ∙ append_assoc (flat_map item_text items) y.held bs ∙ ap (λ t. flat_map item_text items ++ t) (sym s.held);
  each = w.each;
}

-- and a journal taken
pub walked_more : (a c : SourceState) (x z : Seen) (items : List Item) (n : ℕ) (i : Item) → HasWalked a c x z items → take n z.held ≡ item_text i → IsItem i
    → HasWalked a c x (record z { held = drop n z.held }) (items ++ i ∷ [])
walked_more a c x z items n i w is fits = record {
  bytes = w.bytes;
  read_bytes = record {
    consumed = w.read_bytes.consumed;
    total = w.read_bytes.total;
    within = λ within. omega (arith, w.read_bytes.within within, length-drop n z.held);
    end = w.read_bytes.end;
    again = w.read_bytes.again;
  };
  parts = w.parts ∙ ap (λ t. flat_map item_text items ++ t) (sym (take-append-drop n z.held) ∙ ap (λ t. t ++ drop n z.held) is) ∙ sym (append_assoc (flat_map item_text items) (item_text i) (drop n z.held))
      ∙ ap (λ t. t ++ drop n z.held) (sym (texts_more items i));
  each = All-push IsItem items i w.each fits;
}

-- where reading fails behind them
pub walked_failed : (a b c : SourceState) (x y z : Seen) (bs : List ℕ) (e : LineErr) → HasReadOn a b x y bs → b.faults ≡ a.faults → HasFailed most_bytes b c y z e → HasFailed most_bytes a c x z e
walked_failed a b c x y z bs e r same is = record { bytes = bs ++ is.bytes; read_bytes = read_trans a b c x y z bs is.bytes r is.read_bytes; enough = errors_then a b c most_bytes z e same is.enough }

-- where the next one can't be read
pub walked_fails : (a b c : SourceState) (x y z : Seen) (items : List Item) (e : LineErr) → HasWalked a b x y items → HasReadThere b c y z → b.faults ≡ a.faults → HasEnough b c most_bytes z (Err e)
    → HasFailed most_bytes a c x z e
walked_fails a b c x y z items e w s same is = record {
  bytes = w.bytes ++ s.bytes;
  read_bytes = read_trans a b c x y z w.bytes s.bytes w.read_bytes s.read_bytes;
  enough = errors_then a b c most_bytes z e same is;
}

-- where memory is wanted for the next one
pub memory_wanted : (a b c : SourceState) (x y z : Seen) (items : List Item) → HasWalked a b x y items → HasReadThere b c y z → c.faults ≡ a.faults → HasFailed most_bytes a c x z NoMemory
memory_wanted a b c x y z items w s same = record { bytes = w.bytes ++ s.bytes; read_bytes = read_trans a b c x y z w.bytes s.bytes w.read_bytes s.read_bytes; enough = same }

-- ---- the input

-- what was read of the input is these journals
items_over : (a c : SourceState) (x z : Seen) (items : List Item) (w : HasWalked a c x z items) (coming : List ℕ) → HaveBeenRead (unread x (w.bytes ++ coming)) items (unread z coming)
items_over a c x z items w coming =
    let whole : ℕ = z.total + length coming in
    let parts : x.held ++ (w.bytes ++ coming) ≡ flat_map item_text items ++ (z.held ++ coming) =
    sym (append_assoc x.held w.bytes coming) ∙ ap (λ t. t ++ coming) w.parts ∙ append_assoc (flat_map item_text items) z.held coming in
    let same : whole ≡ x.total + length (w.bytes ++ coming) = omega (arith, w.read_bytes.total, length-append w.bytes coming) in
    subst (λ (l : Unread). HaveBeenRead l items (unread z coming)) (ap₂ left_from same (sym parts)) (items_back items whole (z.held ++ coming) (recursion_from_All IsItem items w.each))

-- ---- the report

-- the counts are the same with a fault
counts_with : (start : Option Base) (items : List Item) (counts : Report) (fault : Option Fault) → Counts start items (report_of counts) → Counts start items (report_of (record counts { fault = fault }))
counts_with start items counts fault c = record { size = c.size; kept = c.kept; point = c.point; occulted = c.occulted; times = c.times }

module _ (scheme : Scheme) (given : Given) (front : FrontRead) (count : ℕ) (a c : SourceState) (x z : Seen) (journals : Journals) (counts : Report) where
  -- the next journal breaks
  pub report_broken : (broken : Break) (r : HasReadJournals scheme front count a c x z journals (outcome.Broken broken)) → Counts front.base r.items (report_of counts)
      → Reports (λ l. IsReportBehind scheme given (front_of front) count l (report_of (record counts { fault = Some (record { check = told.Form; place = broken.place }) }))) a c x z
      (record counts { fault = Some (record { check = told.Form; place = broken.place }) })
  report_broken broken r are = record {
    tells = record { bytes = r.walked.bytes; read_bytes = r.walked.read_bytes; over = over };
    ended = λ none. absurd cc;
  }
    where
      fault : Option Fault
      fault = Some (record { check = told.Form; place = broken.place })

      over : length x.held ≤ x.total → (further : List ℕ) → MayFollow z further
          → IsReportBehind scheme given (front_of front) count (unread x (r.walked.bytes ++ further)) (report_of (record counts { fault = Some (record { check = told.Form; place = broken.place }) }))
      over within further may =
          let after = unread z further in
          let held = r.walked.read_bytes.within within in
          let now = r.ends.1 further may in
          let is : item_at after ≡ Err broken.bad = ap item_at (sym (unread_place z further held)) ∙ now.0 in
          let place : broken.place ≡ place_behind (after.whole - length after.rest) broken.bad =
          now.1 ∙ ap (λ (p : ℕ). place_behind p broken.bad) (omega (arith, held, length-append z.held further)) in
          let next : IsNextFault scheme (front_of front) r.items after (item_at after) (Some (record { check = form; place = broken.place })) =
          subst (λ got. IsNextFault scheme (front_of front) r.items after got (Some (record { check = form; place = broken.place }))) (sym is) (ap (fault_at form) place) in
          record {
            read = r.items;
            after = after;
            have_been_read = items_over a c x z r.items r.walked further;
            few = omega (arith, r.ends.0);
            passed = r.good;
            counts = counts_with front.base r.items counts (Some (record { check = told.Form; place = broken.place })) are;
            fault = subst (λ (v : Bool). IsFaultBehind scheme given (front_of front) r.items after (Some (record { check = form; place = broken.place })) v) (sym (lt-ltb (length r.items) count r.ends.0)) next;
          }

  -- the next journal fails a check
  pub report_failed : (check : EarlyCheck) (r : HasReadJournals scheme front count a c x z journals (outcome.Failed check)) → Counts front.base r.items (report_of counts)
      → Reports (λ l. IsReportBehind scheme given (front_of front) count l (report_of (record counts { fault = Some (record { check = told.Early check; place = counts.size }) }))) a c x z
      (record counts { fault = Some (record { check = told.Early check; place = counts.size }) })
  report_failed check r are = record {
    tells = record { bytes = r.walked.bytes; read_bytes = r.walked.read_bytes; over = over };
    ended = λ none. absurd cc;
  }
    where
      over : length x.held ≤ x.total → (further : List ℕ) → MayFollow z further
          → IsReportBehind scheme given (front_of front) count (unread x (r.walked.bytes ++ further)) (report_of (record counts { fault = Some (record { check = told.Early check; place = counts.size }) }))
      over within further may =
          let after = unread z further in
          let f = r.ends.1 in
          let rest = drop f.len z.held ++ further in
          let parts : z.held ++ further ≡ item_text f.item ++ rest =
          ap (λ t. t ++ further) (sym (take-append-drop f.len z.held) ∙ ap (λ t. t ++ drop f.len z.held) f.held.1) ∙ append_assoc (item_text f.item) (drop f.len z.held) further in
          let is : item_at after ≡ Ok (f.item, left_from (z.total + length further) rest) =
          ap (λ t. item_at (left_from (z.total + length further) t)) parts ∙ item_back.again f.item (z.total + length further) rest f.layout in
          let next : IsNextFault scheme (front_of front) r.items after (item_at after) (Some (record { check = early (early_of check); place = counts.size })) =
          subst (λ got. IsNextFault scheme (front_of front) r.items after got (Some (record { check = early (early_of check); place = counts.size }))) (sym is)
          (early_of check, f.fails, ap (fault_at (early (early_of check))) are.size) in
          record {
            read = r.items;
            after = after;
            have_been_read = items_over a c x z r.items r.walked further;
            few = omega (arith, r.ends.0);
            passed = r.good;
            counts = counts_with front.base r.items counts (Some (record { check = told.Early check; place = counts.size })) are;
            fault = subst (λ (v : Bool). IsFaultBehind scheme given (front_of front) r.items after (Some (record { check = early (early_of check); place = counts.size })) v) (sym (lt-ltb (length r.items) count r.ends.0)) next;
          }

  -- all were read, and this stands behind them
  pub report_all : (d : SourceState) (w : Seen) (fault : Option Fault) (r : HasReadJournals scheme front count a c x z journals outcome.All) → Counts front.base r.items (report_of counts)
      → TellsOf (IsLastFaultAt given front.id front.base r.items fault) c d z w → (fault ≡ None → w.ended ≡ true)
      → Reports (λ l. IsReportBehind scheme given (front_of front) count l (report_of (record counts { fault = fault }))) a d x w (record counts { fault = fault })
  report_all d w fault r are t ended = record {
    tells = record { bytes = r.walked.bytes ++ t.bytes; read_bytes = read_trans a c d x z w r.walked.bytes t.bytes r.walked.read_bytes t.read_bytes; over = over };
    ended = ended;
  }
    where
      over : length x.held ≤ x.total → (further : List ℕ) → MayFollow w further
          → IsReportBehind scheme given (front_of front) count (unread x ((r.walked.bytes ++ t.bytes) ++ further)) (report_of (record counts { fault = fault }))
      over within further may =
          let held = r.walked.read_bytes.within within in
          let coming = t.bytes ++ further in
          let after = unread z coming in
          let last = t.over held further may in
          subst (λ (bs : List ℕ). IsReportBehind scheme given (front_of front) count (unread x bs) (report_of (record counts { fault = fault }))) (sym (append_assoc r.walked.bytes t.bytes further)) (record {
            read = r.items;
            after = after;
            have_been_read = items_over a c x z r.items r.walked coming;
            few = omega (arith, r.ends.0);
            passed = r.good;
            counts = counts_with front.base r.items counts fault are;
            fault = subst (λ (v : Bool). IsFaultBehind scheme given (front_of front) r.items after (option_map fault_of fault) v) (sym (le-ltb (length r.items) count (omega (arith, r.ends.0)))) last;
          })
