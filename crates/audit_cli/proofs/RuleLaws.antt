-- A dump without a base whose report has no fault shows lawful journals, and lineages under its head are whole.
use Rattle.std.proofs.Common.{◌≡◌, ◌⊎◌, inl, inr, ℕ, List, [], ◌∷◌, ◌++◌, length, map, All, Option, Some, None, Ok, true, refl, sym, ap, ◌∙◌, subst, arith, append-nil, append_assoc}
use Rattle.std.specs.Prelude.{IfSome, IsTrue, unwrap_or}
use Rattle.std.proofs.lemmas.List.{length-map}
use Rattle.std.proofs.lemmas.List.Elements.{All-nil, All-head, All-tail}
use Rattle.sha2.specs.Sha256.{sha256}
use Rattle.sha2.proofs.Facts256.{length-sha256}
use Rattle.ledger_bytes.specs.Fields.{IsBytes}
use Rattle.ledger_bytes.specs.declared.digest.Digest.{Digest}
use Rattle.journal_record.specs.Entry.{Entry, content_digest_of}
use Rattle.journal_record.specs.Header.{spelling}
use Rattle.journal_record.specs.Items.{Item, IsItem, FitsHeader, may_be_erased}
use Rattle.journal_record.specs.Rules.{jsn_ok}
use Rattle.journal_record.specs.declared.header.Header.{Header}
use Rattle.journal_record.specs.declared.header.Kind.{Kind}
use Rattle.journal_record.specs.declared.header.Kind.TheVariants as kind
use Rattle.merkle_tree.specs.declared.head.Head.{Head}
use Rattle.pseudo_genesis.specs.declared.base.Base.{Base}
use Rattle.tree_model.specs.Tree.{leaf, mth}
use Rattle.tree_model.specs.RootFrom.{root_from}
use Rattle.tree_model.specs.TreeClash.{ShowsOr, tree_clash}
use Rattle.tree_model.proofs.Peaks.{length-peaks, peaks_none}
use Rattle.tree_model.proofs.RootsFrom.{from_none}
use Rattle.tree_model.proofs.TreeClashes.{Same, tree_shows, shows_map}
use Rattle.ledger_model.specs.Behind.{AreBehind, IsNextBehind}
use Rattle.ledger_model.specs.History.{history, leaves}
use Rattle.ledger_model.specs.Lawful.{AreLawful, AreNext, IsFounded, IsNext, IsNextOf}
use Rattle.ledger_model.specs.Scheme.{Scheme}
use Rattle.ledger_book.proofs.GroundLaws.{next_ground}
use Rattle.dump_model.specs.Dumps.{Dump, IsDump, first_of, leaves_of, peaks_of}
use Rattle.dump_model.specs.Checks.{HasLedgerHead}
use Rattle.audit_dump.specs.Ending.{IsOwnId}
use Rattle.audit_dump.specs.Ending.Late.{of_id, of_ledger}
use Rattle.audit_dump.specs.Known.{journals_of}
use Rattle.audit_dump.specs.Reading.{AreGood}
use Rattle.audit_dump.specs.declared.late.Given.{Given}
use Rattle.audit_dump.specs.Reports.{EndsEarly, EndsLate, IsReport, Report}
use Rattle.audit_dump.proofs.Goods.{goods}
use Rattle.clue_lineage.specs.declared.answer.Run.{Run}
use Rattle.clue_lineage.specs.Accepting.{acceptance, IsAccepted}
use Rattle.clue_lineage.specs.Runs.{AreWide, KeepsClueRule}
use Rattle.clue_lineage.proofs.Accepted.{accepted_only}
use Rattle.clue_lineage.proofs.Judged.{accepted_true}
use Rattle.clue_lineage.proofs.Ruling.{keeps_rule}
use Rattle.clue_lineage.proofs.Running.{true_is_whole}
use Rattle.audit_cli.specs.Lineages.{IsWholeIn}

-- ---- journals of which each may be the next one

-- the first journal is a genesis
first_own : (x : Header) (k : Kind) → IsTrue (jsn_ok k 0) → IsNextOf (history [] []) x k
first_own x kind.Genesis ok = tt
first_own x kind.Content ok = absurd cc
first_own x kind.Member ok = absurd cc
first_own x kind.Time ok = tt
first_own x kind.Occult ok = absurd cc
first_own x kind.Purge ok = absurd cc
first_own x kind.ClueOccult ok = absurd cc

first_kind : (x : Header) → IsNextBehind None [] x → IsTrue (jsn_ok x.kind 0)
first_kind x next = subst (λ n. IsTrue (jsn_ok x.kind n)) next.jsn next.layout.jsn

first_next : (x : Header) → IsNextBehind None [] x → IsNext (history [] []) x
first_next x next = record { layout = next.layout; jsn = next.jsn; below = next.below; own = first_own x x.kind (first_kind x next) }

next_more : (first before : List Entry) (e : Entry) → AreNext first before → IsNext (history [] (first ++ before)) e.header → AreNext first (before ++ e ∷ [])
next_more first [] e all next = (subst (λ (l : List Entry). IsNext (history [] l) e.header) (append-nil first) next, tt)
next_more first (d ∷ before) e all next =
    (all.0, next_more (first ++ d ∷ []) before e all.1 (subst (λ (l : List Entry). IsNext (history [] l) e.header) (sym (append_assoc first (d ∷ []) before)) next))

founded_more : (es : List Entry) (e : Entry) → IsFounded es → IsFounded (es ++ e ∷ [])
founded_more [] e founded = absurd founded
founded_more (x ∷ es) e founded = founded

-- journals behind lawful ones
more_lawful : (before es : List Entry) → AreLawful before → AreBehind None before es → AreLawful (before ++ es)
more_lawful before [] lawful behind = subst AreLawful (sym (append-nil before)) lawful
more_lawful before (e ∷ es) lawful behind =
    let one : AreLawful (before ++ e ∷ []) = record { next = next_more [] before e lawful.next (next_ground before e.header lawful behind.0); founded = founded_more before e lawful.founded } in
    subst AreLawful (append_assoc before (e ∷ []) es) (more_lawful (before ++ e ∷ []) es one behind.1)

behind_lawful : (e : Entry) (es : List Entry) → AreBehind None [] (e ∷ es) → IsFounded (e ∷ es) → AreLawful (e ∷ es)
behind_lawful e es behind founded = more_lawful (e ∷ []) es (record { next = (first_next e.header behind.0, tt); founded = founded }) behind.1

-- ---- the journals of a dump

-- the content of a genesis isn't erased
never_erased : (k : Kind) → IsTrue (jsn_ok k 0) → may_be_erased k ≡ true → ⊥
never_erased kind.Genesis ok erased = absurd cc
never_erased kind.Content ok erased = absurd cc
never_erased kind.Member ok erased = absurd cc
never_erased kind.Time ok erased = absurd cc
never_erased kind.Occult ok erased = absurd cc
never_erased kind.Purge ok erased = absurd cc
never_erased kind.ClueOccult ok erased = absurd cc

founded_by : (x : Header) (body : Option (List ℕ)) → IsTrue (jsn_ok x.kind 0) → FitsHeader x body → IfSome body (λ content. x.content_digest.0 ≡ content_digest_of content)
    → x.content_digest.0 ≡ content_digest_of (unwrap_or body [])
founded_by x (Some content) first fits is = is
founded_by x None first fits is = absurd (never_erased x.kind first fits)

items_lawful : (scheme : Scheme) (id : Digest) (items : List Item) → All IsItem items → AreGood scheme id.0 None [] items → IsOwnId None items id → AreLawful (journals_of items)
items_lawful scheme id [] fit good own = absurd own
items_lawful scheme id (item ∷ items) fit good own =
    let behind = goods scheme id.0 None [] (item ∷ items) good in
    let fits : IsItem item = All-head IsItem item items fit in
    behind_lawful _ (journals_of items) behind (founded_by item.header item.body (first_kind item.header good.0.next) fits.body good.0.whole.content)

items_wide : (items : List Item) → All IsItem items → AreWide (journals_of items)
items_wide [] fit = tt
items_wide (item ∷ items) fit = let fits : IsItem item = All-head IsItem item items fit in (fits.widths, items_wide items (All-tail IsItem item items fit))

same_leaves : (items : List Item) → leaves (history [] (journals_of items)) ≡ map (λ (item : Item). spelling item.header) items
same_leaves [] = refl
same_leaves (item ∷ items) = ap (λ (l : List (List ℕ)). spelling item.header ∷ l) (same_leaves items)

-- ---- a report without a fault

module _ (scheme : Scheme) (given : Given) (dump : Dump) (report : Report) (fits : IsDump dump) (is : IsReport scheme given dump report)
    (none : report.fault ≡ None) where
  ends_late : EndsEarly scheme dump is.read None ⊎ EndsLate scheme given dump is.read None → EndsLate scheme given dump is.read None
  ends_late (inl early) = absurd (let never = early.2 in cc)
  ends_late (inr ends) = ends

  late : EndsLate scheme given dump is.read None
  late = ends_late (subst (λ f. EndsEarly scheme dump is.read f ⊎ EndsLate scheme given dump is.read f) none is.fault)

  pub under_head : HasLedgerHead sha256 dump given.ledger
  under_head = late.2 of_ledger

  module _ (whole : dump.base ≡ None) where
    pub lawful_dump : AreLawful (journals_of dump.items)
    lawful_dump =
        items_lawful scheme dump.id dump.items fits.items
        (subst (λ (b : Option Base). AreGood scheme dump.id.0 b [] dump.items) whole late.1)
        (subst (λ (b : Option Base). IsOwnId b dump.items dump.id) whole (late.2 of_id).own)

    pub dump_rule : KeepsClueRule (leaves_of dump)
    dump_rule = subst KeepsClueRule (same_leaves dump.items) (keeps_rule (history [] (journals_of dump.items)) lawful_dump (items_wide dump.items fits.items))

-- ---- a dump with its head

module _ (dump : Dump) (ledger : Head) (whole : dump.base ≡ None) (head : HasLedgerHead sha256 dump ledger) where
  dump_size : length (leaves_of dump) ≡ ledger.size
  dump_size = omega (arith, length-map dump.items (λ (item : Item). spelling item.header), head.size, head.given_size, ap first_of whole)

  dump_root : mth sha256 (leaves_of dump) ≡ ledger.root.0
  dump_root =
      sym (from_none sha256 (map (leaf sha256) (leaves_of dump)))
      ∙ ap (λ (b : Option Base). root_from sha256 (peaks_of b) (first_of b) (map (leaf sha256) (leaves_of dump))) (sym whole)
      ∙ head.root ∙ head.given_root

  module _ (rule : KeepsClueRule (leaves_of dump)) where
    -- a lineage under it is whole
    pub whole_or_clash : (bytes : List ℕ) (clue : Digest) (run : Run) → IsBytes bytes → acceptance sha256 bytes clue ledger ≡ Ok run → IsWholeIn (leaves_of dump) bytes clue run
    whole_or_clash bytes clue run plain e = elim (accepted_true sha256 length-sha256 bytes clue ledger run (leaves_of dump) e dump_size dump_root) [
      | inl so ↦ inl (true_is_whole sha256 bytes clue ledger run (leaves_of dump) plain e so rule)
      | inr clashes ↦ inr clashes
    ]

    pub accepted_whole : (bytes : List ℕ) (clue : Digest) (run : Run) → IsBytes bytes → IsAccepted sha256 bytes clue ledger run → IsWholeIn (leaves_of dump) bytes clue run
    accepted_whole bytes clue run plain accepted = whole_or_clash bytes clue run plain (accepted_only sha256 bytes clue ledger run accepted)

    -- each list under it keeps the rule
    pub list_rule : (headers : List (List ℕ)) → length headers ≡ ledger.size → mth sha256 headers ≡ ledger.root.0 → ShowsOr sha256 (KeepsClueRule headers) (tree_clash sha256 [] 0 (leaves_of dump) headers)
    list_rule headers size root =
        let told = tree_shows sha256 length-sha256 [] 0 (leaves_of dump) headers (omega (arith, dump_size, size)) (sym (ap length (peaks_none sha256)) ∙ length-peaks sha256 []) (All-nil (λ peak. length peak ≡ 32)) (from_none sha256 (map (leaf sha256) (leaves_of dump)) ∙ dump_root ∙ sym root) in
        shows_map sha256 (Same sha256 [] 0 (leaves_of dump) headers) (KeepsClueRule headers) (tree_clash sha256 [] 0 (leaves_of dump) headers)
        (λ same. subst KeepsClueRule same.0 rule) told
