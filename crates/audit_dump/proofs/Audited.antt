-- A report that is joined of its parts, and the one that the caller is told.
use Rattle.std.specs.Prelude.{◌≢◌, IfErr, IsErr, IsErrAnd}
use Rattle.std.specs.Option.{option_map}
use Rattle.std.specs.Io.KnownBytes.{Consumes, IsAtEnd}
use Rattle.std.proofs.Common.{◌≡◌, ◌⊎◌, inl, inr, IfOk, ℕ, ◌≤◌, true, false, List, [], ◌++◌, length, append_assoc, arith, Bool, Option, Some, None, Result, Ok, Err, refl, sym, ap, ap₂, subst, ◌∙◌}
use Rattle.ledger_bytes.specs.declared.digest.Digest.{Digest}
use Rattle.ledger_bytes.specs.declared.failure.Bad.{Bad}
use Rattle.ledger_bytes.specs.Fields.{Unread, left_from}
use Rattle.ledger_io.specs.Outside.{SourceState}
use Rattle.ledger_io.specs.Windows.{Seen, HasEnough}
use Rattle.ledger_io.specs.declared.failure.LineErr.{LineErr}
use Rattle.ledger_io.specs.declared.failure.LineErr.TheVariants.{LineTooLong}
use Rattle.journal_record.specs.Items.{Item, most_bytes}
use Rattle.pseudo_genesis.specs.declared.base.Base.{Base}
use Rattle.ledger_model.specs.Scheme.{Scheme}
use Rattle.audit_dump.specs.Audits.{IsLastFaultAt, Reports, TellsOf, TellsReport, dump_behind}
use Rattle.audit_dump.specs.Breaks.{Tail, front_at, place_within, tail_at}
use Rattle.audit_dump.specs.Bytes.{IsLastFault, IsReportOf, IsReportOfFront}
use Rattle.audit_dump.specs.Ending.{Given}
use Rattle.audit_dump.specs.Fronts.{HasReadOn, TellsOver, unread}
use Rattle.audit_dump.specs.Journals.{AreHeld, AreKept}
use Rattle.audit_dump.specs.Reports as reports
use Rattle.audit_dump.specs.Reports.{IsEndFault, fault_at}
use Rattle.audit_dump.specs.Reports.Check.{form}
use Rattle.audit_dump.specs.Tails.{HasFailed, IsEndingOf, TellsEnding}
use Rattle.audit_dump.specs.Told.{fault_of, report_of}
use Rattle.audit_dump.specs.Walking.{MayFollow, unread_from, place_of}
use Rattle.audit_dump.specs.declared.claims.Claim.{Claim}
use Rattle.audit_dump.specs.declared.ending.Ending.{Ending}
use Rattle.audit_dump.specs.declared.journals.Journals.{Journals}
use Rattle.audit_dump.specs.declared.report.Check.TheVariants as told
use Rattle.audit_dump.specs.declared.report.Fault.{Fault}
use Rattle.audit_dump.specs.declared.report.Report.{Report}
use Rattle.audit_dump.specs.declared.walking.Break.{Break}
use Rattle.audit_dump.proofs.Fronts.{read_trans, unread_place}

-- ---- errors

-- an error that `?` hands on
pub handed_on : {T : Type 0} (r : Result T LineErr) (e : LineErr) (P : LineErr → Type 0) → IsErr r × IsErrAnd r (λ f. f ≡ e) → P e → IfErr r P
handed_on (Ok x) e P is holds = tt
handed_on (Err f) e P is holds = subst P (sym is.1) holds

pub err_then : {T : Type 0} (r : Result T LineErr) (P Q : LineErr → Type 0) → ((e : LineErr) → P e → Q e) → IfErr r P → IfErr r Q
err_then (Ok x) P Q next holds = tt
err_then (Err e) P Q next holds = next e holds

pub ok_then : {T : Type 0} (r : Result T LineErr) (P Q : T → Type 0) → ((x : T) → P x → Q x) → IfOk r P → IfOk r Q
ok_then (Ok x) P Q next holds = next x holds
ok_then (Err e) P Q next holds = tt

pub no_long : (a c : SourceState) (x z : Seen) (e : LineErr) → HasFailed most_bytes a c x z e → e ≢ LineTooLong
no_long a c x z e f is = subst (λ (k : LineErr). HasEnough a c most_bytes z (Err k)) is f.enough

-- ---- what stands behind the journals

-- it is told of what a window holds and what is to come
tail_place : (x : Seen) (bytes further : List ℕ) → length x.held ≤ x.total → unread_from (place_of x) ((x.held ++ bytes) ++ further) ≡ unread x (bytes ++ further)
tail_place x bytes further within = ap (unread_from (place_of x)) (append_assoc x.held bytes further) ∙ unread_place x (bytes ++ further) within

module _ (given : Given) (id : Digest) (start : Option Base) (items : List Item) (claims : List Claim) (a c : SourceState) (x z : Seen) where
  pub tail_told : (ending : Ending) (fault : Option Fault) → length x.held ≤ x.total → TellsEnding claims a c x z (Ok ending)
      → ((tail : Tail) → IsEndingOf claims tail ending → IsEndFault given (dump_behind id start items tail) (option_map fault_of fault)) → TellsOf (IsLastFaultAt given id start items fault) a c x z
  tail_told ending fault within t ends = record { bytes = t.bytes; read_bytes = t.read_bytes; over = over }
    where
      over : length x.held ≤ x.total → (further : List ℕ) → MayFollow z further → IsLastFaultAt given id start items fault (unread x (t.bytes ++ further))
      over inside further may =
          let got = t.over further may in
          let is : tail_at (unread x (t.bytes ++ further)) ≡ Ok got.0 = ap tail_at (sym (tail_place x t.bytes further within)) ∙ got.1 in
          subst (λ r. IsLastFault given (record { id = id; base = start }) items r (option_map fault_of fault)) (sym is) (ends got.0 got.2)

  pub tail_broken : (broken : Break) → length x.held ≤ x.total → TellsEnding claims a c x z (Err broken)
      → TellsOf (IsLastFaultAt given id start items (Some (record { check = told.Form; place = broken.place }))) a c x z
  tail_broken broken within t = record { bytes = t.bytes; read_bytes = t.read_bytes; over = over }
    where
      over : length x.held ≤ x.total → (further : List ℕ) → MayFollow z further → IsLastFaultAt given id start items (Some (record { check = told.Form; place = broken.place })) (unread x (t.bytes ++ further))
      over inside further may =
          let got = t.over further may in
          let is : tail_at (unread x (t.bytes ++ further)) ≡ Err broken.bad = ap tail_at (sym (tail_place x t.bytes further within)) ∙ got.0 in
          subst (λ r. IsLastFault given (record { id = id; base = start }) items r (Some (record { check = form; place = broken.place }))) (sym is) (ap (fault_at form) got.1)

-- what is kept stays so when the claims are sorted
pub held_on : (id : Digest) (start : Option Base) (items : List Item) (journals : Journals) (claims : List Claim) → AreKept id start items journals → AreHeld journals.id start items (record journals { claims = claims })
held_on id start items journals claims kept = record {
  id_is = refl;
  own = kept.held.own;
  standing = kept.held.standing;
  order = kept.held.order;
  purge = kept.held.purge;
  marked = record { first = kept.held.marked.first; marks = kept.held.marked.marks; few = kept.held.marked.few };
}

-- ---- parts in front

-- a part that was read stands in front of what a report tells
pub reports_on : {A : Type 0} (read : Unread → Result (A × Unread) Bad) (P : Result (A × Unread) Bad → Type 0) (v : A) (a b c : SourceState) (x y z : Seen) (bytes : List ℕ) (report : Report)
    → HasReadOn a b x y bytes → TellsOver read x y bytes (Ok v) → Reports (λ l. P (Ok (v, l))) b c y z report → Reports (λ l. P (read l)) a c x z report
reports_on read P v a b c x y z bytes report r told behind = record {
  tells = record {
    bytes = bytes ++ behind.tells.bytes;
    read_bytes = read_trans a b c x y z bytes behind.tells.bytes r behind.tells.read_bytes;
    over = λ within further may. (
        let coming = behind.tells.bytes ++ further in
        let may_then : MayFollow y coming = λ e. let again = behind.tells.read_bytes.again e in ap₂ (λ (s t : List ℕ). s ++ t) again.0 (may again.2) in
        let first : read (unread x ((bytes ++ behind.tells.bytes) ++ further)) ≡ Ok (v, unread y coming) =
        ap (λ t. read (unread x t)) (append_assoc bytes behind.tells.bytes further) ∙ told within coming may_then in
        subst P (sym first) (behind.tells.over (r.within within) further may)
        );
  };
  ended = behind.ended;
}

some_fault : (fault : Option Fault) (f : reports.Fault) → option_map fault_of fault ≡ Some f → fault ≡ None → ⊥
some_fault None f is none = absurd cc
some_fault (Some g) f is none = absurd cc

-- where a part breaks that is all that was read
pub reports_broken : {A : Type 0} (read : Unread → Result (A × Unread) Bad) (P : Result (A × Unread) Bad → Type 0) (broken : Break) (a b : SourceState) (x y : Seen) (bytes : List ℕ) (report : Report) (f : reports.Fault)
    → HasReadOn a b x y bytes → TellsOver read x y bytes (Err broken) → P (Err broken.bad) → option_map fault_of report.fault ≡ Some f → Reports (λ l. P (read l)) a b x y report
reports_broken read P broken a b x y bytes report f r told holds fault = record {
  tells = record { bytes = bytes; read_bytes = r; over = λ within further may. subst P (sym (told within further may).0) holds };
  ended = λ none. absurd (some_fault report.fault f fault none);
}

-- the place of a break in front of the journals
pub broken_place : {A : Type 0} (read : Unread → Result (A × Unread) Bad) (broken : Break) (x y : Seen) (bytes : List ℕ) → length x.held ≤ x.total → TellsOver read x y bytes (Err broken) → broken.place ≡ place_within broken.bad
broken_place read broken x y bytes within told = (told within [] (λ e. refl)).1

-- ---- the whole

at_the_end : (b : Bool) (A : Type 0) → b ≡ false → (b ≡ true) ⊎ A → A
at_the_end b A off (inl on) = absurd (let never : false ≡ true = sym off ∙ on in cc)
at_the_end b A off (inr a) = a

pub told_whole : (scheme : Scheme) (given : Given) (a c : SourceState) (x z : Seen) (report : Report) → x ≡ record { held = []; total = 0; ended = false }
    → Reports (λ l. IsReportOfFront scheme given (front_at l) (report_of report)) a c x z report → TellsReport scheme given a c report
told_whole scheme given a c x z report new r = record {
  bytes = r.tells.bytes;
  consumed = r.tells.read_bytes.consumed;
  end = λ none. at_end (r.ended none);
  over = λ further may. (
      let whole : unread x (r.tells.bytes ++ further) ≡ left_from (length (r.tells.bytes ++ further)) (r.tells.bytes ++ further) =
      ap (λ (w : Seen). unread w (r.tells.bytes ++ further)) new ∙ ap (λ (n : ℕ). left_from n (r.tells.bytes ++ further)) (omega arith) in
      subst (λ (l : Unread). IsReportOfFront scheme given (front_at l) (report_of report)) whole
      (r.tells.over (omega (arith, ap (λ (w : Seen). length w.held) new)) further (λ e. may (at_end e)))
      );
}
  where
    at_end : z.ended ≡ true → IsAtEnd c.left
    at_end e = at_the_end x.ended (IsAtEnd c.left) (ap (λ (w : Seen). w.ended) new) (r.tells.read_bytes.end e)

-- what follows the bytes that were read
rest_of : (left after : Option (List ℕ)) (input bytes : List ℕ) → left ≡ Some input → Consumes left after bytes → (rest : List ℕ) × (input ≡ bytes ++ rest) × (IsAtEnd after → rest ≡ [])
rest_of left after input bytes is consumed = by after (subst (λ (o : Option (List ℕ)). Consumes o after bytes) is consumed)
  where
    by : (a : Option (List ℕ)) → Consumes (Some input) a bytes → (rest : List ℕ) × (input ≡ bytes ++ rest) × (IsAtEnd a → rest ≡ [])
    by None never = absurd never
    by (Some rest) parts = (rest, parts, λ end. end)

pub of_input : (scheme : Scheme) (given : Given) (input : List ℕ) (before after : SourceState) (report : Report) → before.left ≡ Some input → TellsReport scheme given before after report → IsReportOf scheme given input (report_of report)
of_input scheme given input before after report is t =
    let rest = rest_of before.left after.left input t.bytes is t.consumed in
    subst (λ (bytes : List ℕ). IsReportOf scheme given bytes (report_of report)) (sym rest.1) (t.over rest.0 rest.2)
