-- What it means that a lineage is accepted.
use Rattle.std.proofs.Common.{◌≡◌, ℕ, ◌+◌, Bool, true, false, cond, eqb, List, [], ◌∷◌, Option, Some, None, Result, Ok, Err, refl, sym, ap, ◌∙◌}
use Rattle.std.specs.Prelude.{◌&&◌, not, option_map}
use Rattle.std.specs.List.{list_all, AllByRecursion}
use Rattle.std.specs.Str.{bytes_eq}
use Rattle.std.proofs.lemmas.Bool.{eqb-true, eq-eqb, and_parts}
use Rattle.ledger_bytes.specs.declared.digest.Digest.{Digest}
use Rattle.ledger_bytes.specs.declared.failure.Bad.{Bad}
use Rattle.ledger_bytes.specs.Fields.{IsBytes}
use Rattle.journal_record.specs.declared.header.Header.{Header}
use Rattle.journal_record.specs.declared.header.Kind.{Kind}
use Rattle.journal_record.specs.declared.header.Kind.TheVariants.{Genesis, Content, Member, Time, Occult, Purge, ClueOccult}
use Rattle.journal_record.specs.Rules.{is_no_clue}
use Rattle.tree_model.specs.Tree.{Hash}
use Rattle.merkle_tree.specs.declared.head.Head.{Head}
use Rattle.audit_core.proofs.RootLaws.{same_digest, same_bytes, is_root_means, is_root_of}
use Rattle.clue_lineage.specs.declared.answer.Run.{Run}
use Rattle.clue_lineage.specs.declared.answer.LineageNo.{LineageNo}
use Rattle.clue_lineage.specs.declared.answer.LineageNo.TheVariants.{Malformed, HeadUnknown, LineageClue, LineageLink, LeafPath}
use Rattle.clue_lineage.specs.Lineages.{LineageItem, Lineage}
use Rattle.clue_lineage.specs.Reading.{lineage_of, break_of}
use Rattle.clue_lineage.specs.Accepting.{is_record, is_record_of, follows, leads, first_stranger, first_break_behind, first_break, run_of, unless, first_refusal, acceptance_under, acceptance_of, acceptance, IsRecordOf, Follows, FollowOn, AreLinked, Leads, IsAccepted}
use Rattle.clue_lineage.proofs.Spelled.{lineage_of_found, lineage_of_only}

-- ---- a refusal after the other

passed_one : (o : Option LineageNo) (more : List (Option LineageNo)) (own run : Run) → first_refusal own (o ∷ more) ≡ Ok run → (o ≡ None) × (first_refusal own more ≡ Ok run)
passed_one None more own run e = (refl, e)
passed_one (Some why) more own run e = absurd cc

holds_so : (b : Bool) (why : LineageNo) → unless b why ≡ None → b ≡ true
holds_so true why e = refl
holds_so false why e = absurd cc

mapped_none : (f : ℕ → LineageNo) (o : Option ℕ) → option_map f o ≡ None → o ≡ None
mapped_none f None e = refl
mapped_none f (Some at) e = absurd cc

-- ---- one journal

record_kind : (kind : Kind) → is_record kind ≡ true → kind ≡ Content
record_kind Genesis e = absurd cc
record_kind Content e = refl
record_kind Member e = absurd cc
record_kind Time e = absurd cc
record_kind Occult e = absurd cc
record_kind Purge e = absurd cc
record_kind ClueOccult e = absurd cc

pub record_means : (clue : Digest) (item : LineageItem) → is_record_of clue item.header ≡ true → IsRecordOf clue item
record_means clue item e =
    let both = and_parts (is_record item.header.kind) (bytes_eq item.header.clue.0 clue.0) e in
    record { kind = record_kind item.header.kind both.0; clue_is = same_digest item.header.clue clue both.1 }

both_true : (a b : Bool) → a ≡ true → b ≡ true → (a && b) ≡ true
both_true a b first second = rw (first, second) refl

pub record_told : (clue : Digest) (item : LineageItem) → IsRecordOf clue item → is_record_of clue item.header ≡ true
record_told clue item is =
    both_true (is_record item.header.kind) (bytes_eq item.header.clue.0 clue.0) (ap is_record is.kind) (ap (λ (d : Digest). bytes_eq d.0 clue.0) is.clue_is ∙ same_bytes clue.0)

follows_means : (before x : Header) → follows before x ≡ true → Follows before x
follows_means before x e =
    let both = and_parts (eqb x.clue_ord (before.clue_ord + 1)) (eqb x.clue_prev before.jsn) e in
    record { ordinal = eqb-true _ _ both.0; previous = eqb-true _ _ both.1 }

follows_told : (before x : Header) → Follows before x → follows before x ≡ true
follows_told before x is =
    both_true (eqb x.clue_ord (before.clue_ord + 1)) (eqb x.clue_prev before.jsn) (eq-eqb _ _ is.ordinal) (eq-eqb _ _ is.previous)

-- ---- all journals

passed_over : (b : Bool) (at : ℕ) (rest : Option ℕ) → cond b rest (Some at) ≡ None → (b ≡ true) × (rest ≡ None)
passed_over true at rest e = (refl, e)
passed_over false at rest e = absurd cc

no_stranger : (clue : Digest) (at : ℕ) (items : List LineageItem) → first_stranger clue at items ≡ None → AllByRecursion (IsRecordOf clue) items
no_stranger clue at [] e = tt
no_stranger clue at (item ∷ more) e =
    let one = passed_over (is_record_of clue item.header) at (first_stranger clue (at + 1) more) e in
    (record_means clue item one.0, no_stranger clue (at + 1) more one.1)

stranger_none : (clue : Digest) (at : ℕ) (items : List LineageItem) → AllByRecursion (IsRecordOf clue) items → first_stranger clue at items ≡ None
stranger_none clue at [] all = refl
stranger_none clue at (item ∷ more) all = rw (record_told clue item all.0) (stranger_none clue (at + 1) more all.1)

no_break : (before : Header) (at : ℕ) (items : List LineageItem) → first_break_behind before at items ≡ None → FollowOn before items
no_break before at [] e = tt
no_break before at (item ∷ more) e =
    let one = passed_over (follows before item.header) at (first_break_behind item.header (at + 1) more) e in
    (follows_means before item.header one.0, no_break item.header (at + 1) more one.1)

break_none : (before : Header) (at : ℕ) (items : List LineageItem) → FollowOn before items → first_break_behind before at items ≡ None
break_none before at [] all = refl
break_none before at (item ∷ more) all = rw (follows_told before item.header all.0) (break_none item.header (at + 1) more all.1)

linked_so : (items : List LineageItem) → first_break items ≡ None → AreLinked items
linked_so [] e = tt
linked_so (item ∷ more) e = no_break item.header 1 more e

so_linked : (items : List LineageItem) → AreLinked items → first_break items ≡ None
so_linked [] all = refl
so_linked (item ∷ more) all = break_none item.header 1 more all

all_lead_so : (hash : Hash) (head : Head) (items : List LineageItem) → list_all (leads hash head) items ≡ true → AllByRecursion (Leads hash head) items
all_lead_so hash head [] e = tt
all_lead_so hash head (item ∷ more) e =
    let both = and_parts (leads hash head item) (list_all (leads hash head) more) e in
    (is_root_means head.root _ both.0, all_lead_so hash head more both.1)

so_all_lead : (hash : Hash) (head : Head) (items : List LineageItem) → AllByRecursion (Leads hash head) items → list_all (leads hash head) items ≡ true
so_all_lead hash head [] all = refl
so_all_lead hash head (item ∷ more) all =
    both_true (leads hash head item) (list_all (leads hash head) more) (is_root_of head.root _ all.0) (so_all_lead hash head more all.1)

-- ---- a lineage that was read

-- what holds of a lineage that was read and is accepted
pub record Passes (hash : Hash) (clue : Digest) (head : Head) (l : Lineage) (run : Run) : Type 0 where
  pub size : l.size ≡ head.size
  pub clue_is : l.clue ≡ clue
  pub some : is_no_clue clue ≡ false
  pub records : AllByRecursion (IsRecordOf clue) l.items
  pub linked : AreLinked l.items
  pub lead : AllByRecursion (Leads hash head) l.items
  pub run_is : run ≡ run_of l.items

not_so : (b : Bool) → not b ≡ true → b ≡ false
not_so true e = absurd cc
not_so false e = refl

run_same : (a b : Run) → first_refusal a [] ≡ Ok b → b ≡ a
run_same a b e = sym cc

pub under_passes : (hash : Hash) (clue : Digest) (head : Head) (l : Lineage) (run : Run) → acceptance_under hash clue head l ≡ Ok run → Passes hash clue head l run
unfolding acceptance_under
under_passes hash clue head l run e =
    let own : Run = run_of l.items in
    let a = passed_one (unless (eqb l.size head.size) (HeadUnknown l.size)) _ own run e in
    let b = passed_one (unless (bytes_eq l.clue.0 clue.0 && not (is_no_clue clue)) (LineageClue 0)) _ own run a.1 in
    let c = passed_one (option_map LineageClue (first_stranger clue 0 l.items)) _ own run b.1 in
    let d = passed_one (option_map LineageLink (first_break l.items)) _ own run c.1 in
    let f = passed_one (unless (list_all (leads hash head) l.items) LeafPath) _ own run d.1 in
    let clues = and_parts (bytes_eq l.clue.0 clue.0) (not (is_no_clue clue)) (holds_so _ _ b.0) in
    record {
      size = eqb-true l.size head.size (holds_so _ _ a.0);
      clue_is = same_digest l.clue clue clues.0;
      some = not_so (is_no_clue clue) clues.1;
      records = no_stranger clue 0 l.items (mapped_none LineageClue _ c.0);
      linked = linked_so l.items (mapped_none LineageLink _ d.0);
      lead = all_lead_so hash head l.items (holds_so _ _ f.0);
      run_is = run_same own run f.1;
    }

pub passes_under : (hash : Hash) (clue : Digest) (head : Head) (l : Lineage) (run : Run) → Passes hash clue head l run → acceptance_under hash clue head l ≡ Ok run
unfolding acceptance_under
passes_under hash clue head l run p =
    let clues : (bytes_eq l.clue.0 clue.0 && not (is_no_clue clue)) ≡ true =
    both_true (bytes_eq l.clue.0 clue.0) (not (is_no_clue clue)) (ap (λ (d : Digest). bytes_eq d.0 clue.0) p.clue_is ∙ same_bytes clue.0) (ap not p.some) in
    let stranger = stranger_none clue 0 l.items p.records in
    let broken = so_linked l.items p.linked in
    let lead = so_all_lead hash head l.items p.lead in
    rw (eq-eqb l.size head.size p.size, clues, stranger, broken, lead) (ap accepted (sym p.run_is)) where
      accepted : Run → Result Run LineageNo
      accepted r = Ok r

-- ---- bytes

pub accepted_found : (hash : Hash) (bytes : List ℕ) (clue : Digest) (head : Head) (run : Run) → IsBytes bytes → acceptance hash bytes clue head ≡ Ok run → IsAccepted hash bytes clue head run
unfolding acceptance
accepted_found hash bytes clue head run plain e = by (lineage_of bytes) refl where
  by : (read : Result Lineage Bad) → lineage_of bytes ≡ read → IsAccepted hash bytes clue head run
  by (Err bad) is = absurd (let never : Err (Malformed (break_of bad)) ≡ Ok run = ap (acceptance_of hash clue head) (sym is) ∙ e in cc)
  by (Ok l) is =
      let p = under_passes hash clue head l run (ap (acceptance_of hash clue head) (sym is) ∙ e) in
      let found = lineage_of_found bytes l plain is in
      record { lineage = l; is_lineage = found.0; text = found.1; size = p.size; clue_is = p.clue_is; some = p.some; records = p.records; linked = p.linked; lead = p.lead; run_is = p.run_is }

pub accepted_only : (hash : Hash) (bytes : List ℕ) (clue : Digest) (head : Head) (run : Run) → IsAccepted hash bytes clue head run → acceptance hash bytes clue head ≡ Ok run
unfolding acceptance
accepted_only hash bytes clue head run a =
    ap (acceptance_of hash clue head) (lineage_of_only bytes a.lineage a.is_lineage a.text)
    ∙ passes_under hash clue head a.lineage run (record { size = a.size; clue_is = a.clue_is; some = a.some; records = a.records; linked = a.linked; lead = a.lead; run_is = a.run_is })
