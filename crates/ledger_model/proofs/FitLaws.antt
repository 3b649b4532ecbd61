-- The numbers of each reply that is due in a run are as programs have them, and so are the leaf digests of receipts.
use Rattle.std.specs.Prelude.{⊤, All, IsTrue, nat_le, nat_lt, filter, slice_get, find, min, bytes_eq}
use Rattle.std.proofs.Common.{◌≡◌, ℕ, zero, suc, ◌+◌, ◌<◌, ◌≤◌, ◌&&◌, ◌==◌, not, Bool, true, false, ◌||◌, cond, List, [], ◌∷◌, ◌++◌, length, map, get_or, drop, option_map, Option, Some, None, Result, Ok, Err, refl, sym, ap, subst, arith, append_assoc, append-nil, length-append}
use Rattle.std.specs.List.{list_all, fold, position_or_len, reduce}
use Rattle.std.proofs.lemmas.Bool.{and_parts, eqb-true, leb-true, ltb-true}
use Rattle.std.proofs.lemmas.List.{length-map}
use Rattle.std.proofs.lemmas.Slice.Zip.{length-zip}
use Rattle.ledger_bytes.specs.Fields.{IsBytes}
use Rattle.ledger_bytes.specs.declared.digest.Digest.{Digest}
use Rattle.ledger_bytes.specs.declared.limits.TheConstants.{APPROVAL_LIMIT, MEMBER_LIMIT, NAME_LIMIT, PROOF_LIMIT}
use Rattle.ledger_bytes.specs.declared.refusal.Refusal.{Refusal}
use Rattle.ledger_bytes.specs.declared.refusal.Refusal.TheVariants as refusals
use Rattle.journal_record.specs.Entry.{Entry}
use Rattle.journal_record.specs.Members.{is_known, is_key_of, number_refusal}
use Rattle.journal_record.specs.Rules.{is_no_clue, member_ok}
use Rattle.journal_record.specs.Header.{code_of}
use Rattle.journal_record.specs.Request.{occult_request_digest_of, clue_occult_request_digest_of, purge_request_digest_of}
use Rattle.journal_record.specs.declared.approval.Approval.{Approval}
use Rattle.journal_record.specs.declared.header.Kind.{Kind}
use Rattle.journal_record.specs.declared.header.Kind.TheVariants as kind
use Rattle.journal_record.specs.declared.member.Member.{Member}
use Rattle.member_book.specs.Approvals.{neighbours, order_refusal, unknown_refusal, shows_key, key_refusal, approves, approvals_refusal}
use Rattle.std.specs.Option.{option_or}
use Rattle.script_lines.specs.Grammar.{spoken_line}
use Rattle.script_lines.specs.Receipts.{Told, FitsWord, AllFits, StampFits, RefusalFits, ReplyFits, AllFit}
use Rattle.script_lines.specs.declared.line.Line.{Line}
use Rattle.script_lines.specs.declared.line.Line.TheVariants as line
use Rattle.script_lines.specs.Limits.{fits_line, fits_what, fits_approvals}
use Rattle.script_lines.specs.declared.said.SaidApproval.{SaidApproval}
use Rattle.script_lines.proofs.Fitting.{WhatFits, spoken_fits, spoken_counts}
use Rattle.ledger_model.specs.Appends.{approval_of, clue_of, append_with, member_job, occult_job, clue_occult_job, purge_job, append_journal, member_journal, occult_journal, clue_occult_journal, purge_journal}
use Rattle.ledger_model.specs.Clues.{numbers_of, jsns_with, clue_count}
use Rattle.ledger_model.specs.Dues.{IsWithin, due_for, dues, all_dues, due_reply, due_replies, IsCounted, AllCounted, EachCounted}
use Rattle.ledger_model.specs.Growing.{Grows}
use Rattle.ledger_model.specs.History.{History, id, journals, journals_of, leaf_digest, size, root, blocks, point, block_from, end_from, block_of, end_of, close}
use Rattle.ledger_model.specs.Judgements.{kept_count, is_full, fullness, hard_fullness, life_fullness, unknown_in, wrong_key_in, clues_full, ask_judgements, own_refusal}
use Rattle.member_book.specs.Erasures.{absent, purged, purged_up_to, is_record, no_record, is_time, no_time, hidden_by, other_leaf, other_root, clue_differs, nothing_shown, first_refusal}
use Rattle.ledger_model.specs.Lawful.{AreNext, IsBlock, IsLawful}
use Rattle.ledger_model.specs.Limits.{real_limits}
use Rattle.ledger_model.specs.Members.{members, keys}
use Rattle.ledger_model.specs.Needs.{is_taken, purge_needs}
use Rattle.ledger_model.specs.Numbers.{link_at, taken_by, numbered, number_taken, repeated, unless_repeated}
use Rattle.ledger_model.specs.Outcomes.{record_outcome, placed_as, anchor_outcome, judged_outcome, outcome}
use Rattle.ledger_model.specs.Anchors.{stamp_of, time_journal, no_stamp, is_full_list}
use Rattle.ledger_model.specs.Rules.{job_for, job_of, closes_before, judged_at, after_step, after_steps, after_window, after}
use Rattle.ledger_model.specs.Proofs.{prove_refusal, extend_refusal}
use Rattle.ledger_model.specs.Scheme.{Scheme}
use Rattle.ledger_model.specs.Targets.{hides, hider_among, hider, kind_at, leaf_at, shown_with}
use Rattle.ledger_model.specs.Step.{Step}
use Rattle.ledger_model.specs.Texts.{kept_with, told_reply, answer_for, answer_to, told_stamp, reply_in}
use Rattle.ledger_model.specs.declared.answer.Answer.{Answer}
use Rattle.ledger_model.specs.declared.answer.Answer.TheVariants.{Reply, Receipt}
use Rattle.ledger_model.specs.declared.due.Due.{Due}
use Rattle.script_lines.specs.declared.said.Which.TheVariants.{Ledger, Notary}
use Rattle.ledger_model.specs.declared.outcome.Outcome.TheVariants.{Reading}
use Rattle.ledger_model.specs.declared.outcome.Query.{Query}
use Rattle.ledger_model.specs.declared.outcome.Query.TheVariants as query
use Rattle.script_lines.specs.declared.reply.Reply.TheVariants as reply
use Rattle.journal_record.specs.declared.stamp.Stamp.{Stamp}
use Rattle.ledger_bytes.specs.Digests.{digest}
use Rattle.sha2.specs.Sha256.{sha256}
use Rattle.tree_model.specs.Tree.{mth}
use Rattle.ledger_model.specs.declared.job.Job.{Job}
use Rattle.ledger_model.specs.declared.job.Job.TheVariants.{Refused, Append, NewMember, Anchor, Occult, OccultClue, Purge, Ask}
use Rattle.ledger_model.proofs.ByteLaws.{leaf_bytes}
use Rattle.ledger_model.proofs.DueLaws.{grows_steps, AllWithin, all_higher, dues_within, grows_windows}
use Rattle.ledger_model.proofs.GetLaws.{get_fits}
use Rattle.ledger_model.proofs.GrowLaws.{length-journals_of, grows_close, grows_size, grows_then}
use Rattle.ledger_model.proofs.KeepLaws.{each_line, run_lawful, close_lawful, step_lawful, steps_lawful}
use Rattle.ledger_model.proofs.ProveLaws.{asked, told_proof, told_extension}
use Rattle.ledger_model.proofs.RepeatLaws.{numbered_within}
use Rattle.ledger_model.proofs.LawfulLaws.{AreFrom, lawful_from, some_journal, lawful_members, AreBetween, numbers_between, numbers_few, point_below}

-- how much a lawful history holds

few_behind : (before es : List Entry) → length before ≤ real_limits.size → AreNext before es → length (before ++ es) ≤ real_limits.size
few_behind before [] few next = omega (arith, few, ap length (append-nil before))
few_behind before (e ∷ es) few next =
    omega (arith, ap length (append_assoc before (e ∷ []) es), few_behind (before ++ e ∷ []) es (omega (arith, length-append before (e ∷ []), next.0.jsn, next.0.below)) next.1)

pub size_few : (h : History) → IsLawful h → size h ≤ real_limits.size
size_few h l = few_behind [] (journals h) (omega arith) l.journals_are.next

-- there are no more blocks than journals in them
pub blocks_few : (bs : List (List Entry)) → All IsBlock bs → length bs ≤ length (journals_of bs)
blocks_few [] all = omega arith
blocks_few (b ∷ bs) all = omega (arith, length-journals_of b bs, (all 0 [] (omega arith)).some, blocks_few bs (λ k d lt. all (suc k) d (omega (arith, lt))))

closed_few : (h : History) → IsLawful h → length h.closed ≤ size h
closed_few h l = omega (arith, blocks_few h.closed l.blocks_are, length-append (journals_of h.closed) h.waiting)

block_few : (n : ℕ) (bs : List (List Entry)) (jsn : ℕ) → block_from n bs jsn ≤ length bs
block_few n [] jsn = omega arith
block_few n (b ∷ bs) jsn =
    elim (nat_lt jsn (n + length b)) as (λ v. cond v 0 (block_from (n + length b) bs jsn + 1) ≤ length (b ∷ bs)) [ true ↦ omega arith | false ↦ omega (arith, block_few (n + length b) bs jsn) ]

end_few : (n : ℕ) (bs : List (List Entry)) (jsn : ℕ) → end_from n bs jsn ≤ n + length (journals_of bs)
end_few n [] jsn = omega arith
end_few n (b ∷ bs) jsn =
    elim (nat_lt jsn (n + length b)) as (λ v. cond v (n + length b) (end_from (n + length b) bs jsn) ≤ n + length (journals_of (b ∷ bs))) [
      | true ↦ omega (arith, length-journals_of b bs)
      | false ↦ omega (arith, length-journals_of b bs, end_few (n + length b) bs jsn)
    ]

block_of_few : (h : History) (jsn : ℕ) → block_of h jsn ≤ length h.closed
unfolding block_of
block_of_few h jsn = block_few 0 h.closed jsn

end_of_few : (h : History) (jsn : ℕ) → end_of h jsn ≤ size h
unfolding end_of
end_of_few h jsn = omega (arith, end_few 0 h.closed jsn, length-append (journals_of h.closed) h.waiting)

point_few : (h : History) → IsLawful h → point h < size h
unfolding point
point_few h l = point_below (size h) 0 0 (journals h) (lawful_from (journals h) l.journals_are) (omega arith) (omega (arith, some_journal (journals h) l.journals_are))

members_few : (h : History) → IsLawful h → length (members h) ≤ MEMBER_LIMIT
unfolding members
members_few h l = (lawful_members (journals h) l.journals_are).1

-- the journals of a clue

between_fit : (n : ℕ) (p : ℕ → Bool) (js : List ℕ) → n ≤ real_limits.size → AreBetween n js → AllFits (filter p js)
between_fit n p [] few b = tt
between_fit n p (j ∷ js) few b =
    elim (p j) as (λ v. AllFits (cond v (j ∷ filter p js) (filter p js))) [ true ↦ (omega (arith, few, b.1), between_fit n p js few b.2) | false ↦ between_fit n p js few b.2 ]

kept_fit : (h : History) (clue : Digest) → IsLawful h → AllFits (kept_with h clue)
unfolding jsns_with
kept_fit h clue l = between_fit (size h) (λ jsn. nat_le (point h) jsn) (numbers_of clue (journals h)) (size_few h l) (numbers_between (size h) 0 clue (journals h) (lawful_from (journals h) l.journals_are) (omega arith))

count_fits : (h : History) (clue : Digest) → IsLawful h → FitsWord (length (jsns_with h clue))
unfolding jsns_with
count_fits h clue l = omega (arith, numbers_few clue (journals h), size_few h l)

-- refusals

abbrev MayFit : Option Refusal → Type 0
MayFit None = ⊤
MayFit (Some refusal) = RefusalFits refusal

abbrev RowFits : List (Option Refusal) → Type 0
RowFits [] = ⊤
RowFits (r ∷ row) = MayFit r × RowFits row

first_fits : (row : List (Option Refusal)) → RowFits row → MayFit (first_refusal row)
first_fits [] f = tt
first_fits (Some refusal ∷ row) f = f.0
first_fits (None ∷ row) f = first_fits row f.1

full_fits : (h : History) → IsLawful h → MayFit (fullness real_limits h)
unfolding fullness
full_fits h l =
    elim (is_full real_limits.soft real_limits h) as (λ v. MayFit (cond v (Some (refusals.Full (kept_count h) (size h))) None)) [ true ↦ (omega (arith, size_few h l), omega (arith, size_few h l)) | false ↦ tt ]

hard_fits : (h : History) → IsLawful h → MayFit (hard_fullness real_limits h)
unfolding hard_fullness
hard_fits h l =
    elim (is_full real_limits.hard real_limits h) as (λ v. MayFit (cond v (Some (refusals.Full (kept_count h) (size h))) None)) [ true ↦ (omega (arith, size_few h l), omega (arith, size_few h l)) | false ↦ tt ]

unknown_fits : (known : List (List ℕ)) (member : ℕ) → FitsWord member → MayFit (unknown_in known member)
unknown_fits known member f = elim (is_known known member) as (λ v. MayFit (cond v None (Some (refusals.UnknownMember member)))) [ true ↦ tt | false ↦ f ]

wrong_fits : (known : List (List ℕ)) (member : ℕ) (shown : Option Digest) → FitsWord member → MayFit (wrong_key_in known member shown)
wrong_fits known member shown f =
    elim (is_key_of shown (slice_get known member)) as (λ v. MayFit (cond v None (Some (refusals.WrongKey member)))) [ true ↦ tt | false ↦ f ]

clues_fit : (h : History) (clue : Digest) → MayFit (clues_full real_limits h clue)
unfolding clues_full
clues_fit h clue =
    elim (not (is_no_clue clue) && length (jsns_with h clue) == 0 && nat_le real_limits.clues (clue_count h)) as (λ v. MayFit (cond v (Some refusals.CluesFull) None)) [ true ↦ tt | false ↦ tt ]

unless_fits : (again : Option ℕ) (refusal : Option Refusal) → MayFit refusal → MayFit (unless_repeated again refusal)
unless_fits None refusal f = f
unless_fits (Some n) refusal f = tt

taken_fits : (h : History) (member number : ℕ) (request : Digest) → IsLawful h → MayFit (number_taken h member number request)
unfolding number_taken
taken_fits h member number request l = by_found (numbered h member number) refl where
  by_found : (found : Option ℕ) → numbered h member number ≡ found → MayFit (taken_by h request found)
  by_found None is = tt
  by_found (Some n) is =
      let few : FitsWord n = omega (arith, (numbered_within h member number n is).1, size_few h l) in
      elim (bytes_eq request.0 (link_at h n)) as (λ v. MayFit (cond v None (Some (refusals.NumberTaken n)))) [ true ↦ tt | false ↦ few ]

number_fits : (ms : List Member) (number : ℕ) → FitsWord (length ms) → MayFit (number_refusal ms number)
number_fits ms number f =
    elim (nat_le MEMBER_LIMIT (length ms)) as (λ v. MayFit (cond v (Some refusals.MembersFull) (cond (number == length ms) None (Some (refusals.MemberNumber (length ms)))))) [
      | true ↦ tt
      | false ↦ elim (number == length ms) as (λ v. MayFit (cond v None (Some (refusals.MemberNumber (length ms))))) [ true ↦ tt | false ↦ f ]
    ]

prove_fits : (h : History) (n : ℕ) → IsLawful h → MayFit (prove_refusal h n)
unfolding prove_refusal
prove_fits h n l =
    elim (nat_le (size h) n) as (λ v. MayFit (cond v (Some (refusals.NoJournal (size h))) (cond (nat_lt n (point h)) (Some (refusals.Purged (point h))) None))) [
      | true ↦ omega (arith, size_few h l)
      | false ↦ elim (nat_lt n (point h)) as (λ v. MayFit (cond v (Some (refusals.Purged (point h))) None)) [ true ↦ omega (arith, point_few h l, size_few h l) | false ↦ tt ]
    ]

extend_fits : (h : History) (m : ℕ) → IsLawful h → MayFit (extend_refusal h m)
unfolding extend_refusal
extend_fits h m l =
    elim (m == 0 || nat_lt (size h) m) as (λ v. MayFit (option_or (cond v (Some (refusals.BadSize (size h))) None) (cond (nat_lt m (point h)) (Some (refusals.Purged (point h))) None))) [
      | true ↦ omega (arith, size_few h l)
      | false ↦ elim (nat_lt m (point h)) as (λ v. MayFit (cond v (Some (refusals.Purged (point h))) None)) [ true ↦ omega (arith, point_few h l, size_few h l) | false ↦ tt ]
    ]

-- refusals of an occult

either_fits : (a b : Option Refusal) → MayFit a → MayFit b → MayFit (option_or a b)
either_fits (Some x) b f g = f
either_fits None b f g = g

absent_fits : (size n : ℕ) → FitsWord size → MayFit (absent size n)
absent_fits size n f = elim (nat_le size n) as (λ v. MayFit (cond v (Some (refusals.NoJournal size)) None)) [ true ↦ f | false ↦ tt ]

purged_fits : (p n : ℕ) → FitsWord p → MayFit (purged p n)
purged_fits p n f = elim (nat_lt n p) as (λ v. MayFit (cond v (Some (refusals.Purged p)) None)) [ true ↦ f | false ↦ tt ]

code_fits : (k : Kind) → FitsWord (code_of k)
code_fits kind.Genesis = omega arith
code_fits kind.Content = omega arith
code_fits kind.Member = omega arith
code_fits kind.Time = omega arith
code_fits kind.Occult = omega arith
code_fits kind.ClueOccult = omega arith
code_fits kind.Purge = omega arith

-- .. of an occult by clue
differs_fits : (n count : ℕ) → FitsWord n → MayFit (clue_differs n count)
differs_fits n count f = elim (n == count) as (λ v. MayFit (cond v None (Some (refusals.ClueDiffers n)))) [ true ↦ tt | false ↦ f ]

shown_fits : (n : ℕ) → MayFit (nothing_shown n)
shown_fits n = elim (n == 0) as (λ v. MayFit (cond v (Some refusals.NothingToHide) None)) [ true ↦ tt | false ↦ tt ]

no_record_fits : (k : Kind) → MayFit (no_record k)
no_record_fits k = elim (is_record k) as (λ v. MayFit (cond v None (Some (refusals.NotData (code_of k))))) [ true ↦ tt | false ↦ code_fits k ]

other_leaf_fits : (kept leaf : Digest) → MayFit (other_leaf kept leaf)
other_leaf_fits kept leaf = elim (bytes_eq leaf.0 kept.0) as (λ v. MayFit (cond v None (Some (refusals.LeafDiffers kept)))) [ true ↦ tt | false ↦ tt ]

found_fits : (m : ℕ) (target : Entry) (es : List Entry) → AreFrom m es → m + length es ≤ real_limits.size → MayFit (hidden_by (option_map (λ (j : Entry). j.header.jsn) (find (hides target) es)))
found_fits m target [] from few = tt
found_fits m target (e ∷ es) from few = elim (hides target e) as (λ v. MayFit (hidden_by (option_map (λ (j : Entry). j.header.jsn) (cond v (Some e) (find (hides target) es))))) [
  | true ↦ omega (arith, from.0, few)
  | false ↦ found_fits (m + 1) target es from.2 (omega (arith, few))
]

hider_fits : (h : History) (n : ℕ) → IsLawful h → MayFit (hidden_by (hider h n))
hider_fits h n l = by_target (slice_get (journals h) n) where
  by_target : (target : Option Entry) → MayFit (hidden_by (hider_among (journals h) target))
  by_target None = tt
  by_target (Some target) = found_fits 0 target (journals h) (lawful_from (journals h) l.journals_are) (omega (arith, size_few h l))

-- the members of approvals
abbrev pub MembersFit : List Approval → Type 0
MembersFit [] = ⊤
MembersFit (g ∷ gs) = FitsWord g.member × MembersFit gs

member_found : (said : ℕ → Refusal) (fit : (m : ℕ) → FitsWord m → RefusalFits (said m)) (p : Approval → Bool) (given : List Approval) → MembersFit given → MayFit (option_map (λ (g : Approval). said g.member) (find p given))
member_found said fit p [] f = tt
member_found said fit p (g ∷ gs) f = elim (p g) as (λ v. MayFit (option_map (λ (x : Approval). said x.member) (cond v (Some g) (find p gs)))) [ true ↦ fit g.member f.0 | false ↦ member_found said fit p gs f.1 ]

order_fits : (given : List Approval) → length given ≤ APPROVAL_LIMIT → MayFit (order_refusal given)
order_fits given few =
    let at = position_or_len (λ (pair : Approval × Approval). nat_le pair.1.member pair.0.member) (neighbours given) in
    elim (nat_lt at (length (neighbours given))) as (λ v. nat_lt at (length (neighbours given)) ≡ v → MayFit (option_map (λ before. refusals.ApprovalOrder (before + 1)) (cond v (Some at) None))) [
      | true ↦ λ is. omega (arith, ltb-true at (length (neighbours given)) is, length-zip given (drop 1 given), few)
      | false ↦ λ is. tt
    ] refl

-- the least of some numbers
least_fits : (start : ℕ) (ns : List ℕ) → FitsWord start → FitsWord (fold min start ns)
least_fits start [] f = f
least_fits start (n ∷ ns) f = least_fits (min start n) ns (omega (arith, f))

missing_of : (ns : List ℕ) → AllFits ns → MayFit (option_map (λ m. refusals.MissingApproval m) (reduce min ns))
missing_of [] f = tt
missing_of (n ∷ ns) f = least_fits n ns f.0

some_fit : (p : ℕ → Bool) (ns : List ℕ) → AllFits ns → AllFits (filter p ns)
some_fit p [] f = tt
some_fit p (n ∷ ns) f = elim (p n) as (λ v. AllFits (cond v (n ∷ filter p ns) (filter p ns))) [ true ↦ (f.0, some_fit p ns f.1) | false ↦ some_fit p ns f.1 ]

approvals_fit : (known : List (List ℕ)) (given : List Approval) (needed : List ℕ) → length given ≤ APPROVAL_LIMIT → MembersFit given → AllFits needed → MayFit (approvals_refusal known given needed)
approvals_fit known given needed few f n =
    either_fits (order_refusal given) _ (order_fits given few)
    (either_fits (unknown_refusal known given) _ (member_found (λ m. refusals.UnknownMember m) (λ m fit. fit) (λ (g : Approval). not (is_known known g.member)) given f)
    (either_fits (key_refusal known given) _ (member_found (λ m. refusals.WrongKey m) (λ m fit. fit) (λ (g : Approval). not (shows_key known g)) given f)
    (missing_of (filter (λ member. not (approves given member)) needed) (some_fit (λ member. not (approves given member)) needed n))))

-- refusals of a purge

life_fits : (h : History) → IsLawful h → MayFit (life_fullness real_limits h)
unfolding life_fullness
life_fits h l =
    elim (nat_le real_limits.size (size h)) as (λ v. MayFit (cond v (Some (refusals.Full (kept_count h) (size h))) None)) [ true ↦ (omega (arith, size_few h l), omega (arith, size_few h l)) | false ↦ tt ]

purged_up_fits : (p n : ℕ) → FitsWord p → MayFit (purged_up_to p n)
purged_up_fits p n f = elim (nat_lt 0 p && nat_le n p) as (λ v. MayFit (cond v (Some (refusals.Purged p)) None)) [ true ↦ f | false ↦ tt ]

no_time_fits : (k : Kind) → MayFit (no_time k)
no_time_fits k = elim (is_time k) as (λ v. MayFit (cond v None (Some (refusals.NotTime (code_of k))))) [ true ↦ tt | false ↦ code_fits k ]

other_root_fits : (kept told : Digest) → MayFit (other_root kept told)
other_root_fits kept told = elim (bytes_eq told.0 kept.0) as (λ v. MayFit (cond v None (Some (refusals.RootDiffers kept)))) [ true ↦ tt | false ↦ tt ]

member_small : (k : Kind) (member : ℕ) → IsTrue (member_ok k member) → FitsWord member
member_small kind.Content member ok = omega (arith, ltb-true member MEMBER_LIMIT ok)
member_small kind.Genesis member ok = omega (arith, eqb-true member 0 ok)
member_small kind.Member member ok = omega (arith, eqb-true member 0 ok)
member_small kind.Time member ok = omega (arith, eqb-true member 0 ok)
member_small kind.Occult member ok = omega (arith, eqb-true member 0 ok)
member_small kind.ClueOccult member ok = omega (arith, eqb-true member 0 ok)
member_small kind.Purge member ok = omega (arith, eqb-true member 0 ok)

owners_fit : (m from to : ℕ) (es : List Entry) → AreFrom m es → AllFits (map (λ (j : Entry). j.header.member) (filter (is_taken from to) es))
owners_fit m from to [] f = tt
owners_fit m from to (e ∷ es) f =
    let later = owners_fit (m + 1) from to es f.2 in
    elim (is_taken from to e) as (λ v. AllFits (map (λ (j : Entry). j.header.member) (cond v (e ∷ filter (is_taken from to) es) (filter (is_taken from to) es)))) [ true ↦ (member_small e.header.kind e.header.member f.1.member, later) | false ↦ later ]

needs_fit : (h : History) (p : ℕ) → IsLawful h → AllFits (purge_needs h p)
needs_fit h p l = (omega arith, owners_fit 0 (point h) p (journals h) (lawful_from (journals h) l.journals_are))

-- the numbers of a job that a refusal may tell
abbrev pub JobFits : Job → Type 0
JobFits (Refused refusal) = RefusalFits refusal
JobFits (Append member clue content content_digest request by who number) = FitsWord member
JobFits (NewMember number key by) = ⊤
JobFits Anchor = ⊤
JobFits (Occult target leaf given) = (length given ≤ APPROVAL_LIMIT) × MembersFit given
JobFits (OccultClue clue count given) = (length given ≤ APPROVAL_LIMIT) × MembersFit given
JobFits (Purge p told given) = (length given ≤ APPROVAL_LIMIT) × MembersFit given
JobFits (Ask query) = ⊤

ask_fits : (h : History) (q : Query) → IsLawful h → MayFit (first_refusal (ask_judgements h q))
ask_fits h (query.Get n) l = tt
ask_fits h (query.Prove n) l = first_fits (prove_refusal h n ∷ []) (prove_fits h n l, tt)
ask_fits h (query.Extend Ledger m) l = first_fits (extend_refusal h m ∷ []) (extend_fits h m l, tt)
ask_fits h (query.Extend Notary m) l = tt
ask_fits h (query.Clue clue) l = tt
ask_fits h query.Head l = tt

own_fits : (h : History) (job : Job) → IsLawful h → JobFits job → MayFit (own_refusal real_limits h job)
own_fits h (Refused refusal) l f = f
own_fits h (Append member clue content content_digest request by who number) l f =
    let again = repeated h member number request in
    first_fits (unknown_in (keys h) member ∷ wrong_key_in (keys h) member by.key ∷ number_taken h member number request ∷ unless_repeated again (fullness real_limits h) ∷ unless_repeated again (clues_full real_limits h clue) ∷ [])
    (unknown_fits (keys h) member f, (wrong_fits (keys h) member by.key f, (taken_fits h member number request l, (unless_fits again (fullness real_limits h) (full_fits h l), (unless_fits again (clues_full real_limits h clue) (clues_fit h clue), tt)))))
own_fits h (NewMember number key by) l f =
    first_fits (fullness real_limits h ∷ number_refusal (members h) number ∷ wrong_key_in (keys h) 0 by.key ∷ [])
    (full_fits h l, (number_fits (members h) number (omega (arith, members_few h l)), (wrong_fits (keys h) 0 by.key (omega arith), tt)))
own_fits h Anchor l f = first_fits (hard_fullness real_limits h ∷ []) (hard_fits h l, tt)
own_fits h (Occult target leaf given) l f =
    let kept = digest (leaf_at h target) in
    first_fits (hard_fullness real_limits h ∷ absent (size h) target ∷ purged (point h) target ∷ no_record (kind_at h target) ∷ hidden_by (hider h target) ∷ other_leaf kept leaf ∷ approvals_refusal (keys h) given (0 ∷ 1 ∷ []) ∷ []) (
      hard_fits h l,
      (
        absent_fits (size h) target (omega (arith, size_few h l)),
        (
          purged_fits (point h) target (omega (arith, point_few h l, size_few h l)),
          (no_record_fits (kind_at h target), (hider_fits h target l, (other_leaf_fits kept leaf, (approvals_fit (keys h) given (0 ∷ 1 ∷ []) f.0 f.1 (omega arith, (omega arith, tt)), tt)))),
        ),
      ),
    )
own_fits h (OccultClue clue count given) l f =
    first_fits (hard_fullness real_limits h ∷ clue_differs (length (jsns_with h clue)) count ∷ nothing_shown (length (shown_with h clue)) ∷ approvals_refusal (keys h) given (0 ∷ 1 ∷ []) ∷ [])
    (hard_fits h l, (differs_fits (length (jsns_with h clue)) count (count_fits h clue l), (shown_fits (length (shown_with h clue)), (approvals_fit (keys h) given (0 ∷ 1 ∷ []) f.0 f.1 (omega arith, (omega arith, tt)), tt))))
own_fits h (Purge p told given) l f =
    let kept = digest (root h p) in
    first_fits (life_fullness real_limits h ∷ absent (size h) p ∷ purged_up_to (point h) p ∷ no_time (kind_at h p) ∷ other_root kept told ∷ approvals_refusal (keys h) given (purge_needs h p) ∷ []) (
      life_fits h l,
      (
        absent_fits (size h) p (omega (arith, size_few h l)),
        (
          purged_up_fits (point h) p (omega (arith, point_few h l, size_few h l)),
          (no_time_fits (kind_at h p), (other_root_fits kept told, (approvals_fit (keys h) given (purge_needs h p) f.0 f.1 (needs_fit h p l), tt))),
        ),
      ),
    )
own_fits h (Ask query) l f = ask_fits h query l

said_fit : (scheme : Scheme) (message : List ℕ) (gs : List SaidApproval) → All (λ by. FitsWord by.member) gs → MembersFit (map (λ (by : SaidApproval). approval_of scheme by.member message by.proof) gs)
said_fit scheme message [] all = tt
said_fit scheme message (g ∷ gs) all = (all 0 g (omega arith), said_fit scheme message gs (λ k d lt. all (suc k) d (omega (arith, lt))))

-- the approvals of an occult by clue fit where its line does
clue_approvals : (name : List ℕ) (given : List SaidApproval) → (nat_le (length name) NAME_LIMIT && fits_approvals given) ≡ true → fits_approvals given ≡ true
clue_approvals name given fits = (and_parts (nat_le (length name) NAME_LIMIT) (fits_approvals given) fits).1

given_fit : (scheme : Scheme) (message : List ℕ) (given : List SaidApproval) → fits_approvals given ≡ true → All (λ by. FitsWord by.member) given
    → (length (map (λ (by : SaidApproval). approval_of scheme by.member message by.proof) given) ≤ APPROVAL_LIMIT) × MembersFit (map (λ (by : SaidApproval). approval_of scheme by.member message by.proof) given)
given_fit scheme message given fits f = (
  omega (arith, length-map given (λ (by : SaidApproval). approval_of scheme by.member message by.proof), leb-true (length given) APPROVAL_LIMIT (and_parts (nat_le (length given) APPROVAL_LIMIT) (list_all (λ (by : SaidApproval). nat_le (length by.proof) PROOF_LIMIT) given) fits).0),
  said_fit scheme message given f,
)

for_fits : (scheme : Scheme) (id : List ℕ) (what : Result Line Refusal) → fits_what what ≡ true → WhatFits what → JobFits (job_for scheme id what)
unfolding append_with member_job occult_job clue_occult_job purge_job
for_fits scheme id (Err refusal) fits f = f
for_fits scheme id (Ok said) fits f =
    each_line scheme id (λ said job. fits_line said ≡ true → WhatFits (Ok said) → JobFits job) (λ member clue content proof number fits f. f.0) (λ number key proof fits f. tt) (λ fits f. tt)
    (λ target leaf given fits f. given_fit scheme (occult_request_digest_of id target leaf.0) given fits f)
    (λ name count given fits f. given_fit scheme (clue_occult_request_digest_of id (clue_of name).0 count) given (clue_approvals name given fits) f)
    (λ p told given fits f. given_fit scheme (purge_request_digest_of id p told.0) given fits f) (λ said query fits f. tt) said fits f

pub job_counts : (scheme : Scheme) (id text : List ℕ) → JobFits (job_of scheme id text)
unfolding job_of
job_counts scheme id text = for_fits scheme id (spoken_line text).1 (spoken_fits text) (spoken_counts text)

-- answers

abbrev AnswerFits : Answer → Type 0
AnswerFits (Reply reply) = ReplyFits reply
AnswerFits (Receipt jsn leaf stamp) = IsBytes leaf.0 × StampFits (told_stamp stamp)

placed_fits : (h : History) (step : Step) (refusal : Option Refusal) (journal : Entry) → IsCounted step → MayFit refusal → AnswerFits (answer_for h step (judged_outcome refusal (placed_as (size h) journal)))
placed_fits h step (Some refusal) journal c f = f
placed_fits h step None journal c f = (leaf_bytes journal, c.stamp)

leaf_at_bytes : (js : List Entry) (n : ℕ) → IsBytes (digest (get_or (map leaf_digest js) n [])).0
leaf_at_bytes [] n = λ i. omega arith
leaf_at_bytes (j ∷ js) zero = leaf_bytes j
leaf_at_bytes (j ∷ js) (suc n) = leaf_at_bytes js n

record_fits : (h : History) (step : Step) (refusal : Option Refusal) (again : Option ℕ) (journal : Entry) → IsCounted step → MayFit refusal → AnswerFits (answer_for h step (judged_outcome refusal (record_outcome h again journal)))
record_fits h step refusal None journal c f = placed_fits h step refusal journal c f
record_fits h step (Some refusal) (Some n) journal c f = f
record_fits h step None (Some n) journal c f = (leaf_at_bytes (journals h) n, tt)

no_stamp_fits : (step : Step) → AnswerFits (Reply (reply.Refused (no_stamp step)))
no_stamp_fits step = elim (is_full_list step.before) as (λ v. AnswerFits (Reply (reply.Refused (cond v refusals.NotaryFull refusals.NotaryFault)))) [ true ↦ tt | false ↦ tt ]

anchor_fits : (h : History) (step : Step) (refusal : Option Refusal) (stamp : Option Stamp) → IsCounted step → MayFit refusal → AnswerFits (answer_for h step (judged_outcome refusal (anchor_outcome h stamp)))
anchor_fits h step (Some refusal) stamp c f = f
anchor_fits h step None None c f = no_stamp_fits step
anchor_fits h step None (Some stamp) c f = (leaf_bytes (time_journal (size h) stamp), c.stamp)

head_fits : (h : History) (step : Step) → IsLawful h → IsCounted step → ReplyFits (told_reply h step query.Head)
head_fits h step l c = elim step.failed as (λ v. ReplyFits (cond v (reply.Refused refusals.NotaryFault) (reply.Head (digest (id h)) (size h) (digest (root h (size h))) (blocks h) (point h) (length step.after) (digest (mth sha256 step.after))))) [
  | true ↦ tt
  | false ↦ (omega (arith, size_few h l), omega (arith, closed_few h l, size_few h l), omega (arith, point_few h l, size_few h l), c.entries)
]

-- what is told to a job that only asks
told_fits : (h : History) (step : Step) (q : Query) → IsLawful h → IsCounted step → ReplyFits (told_reply h step q)
told_fits h step (query.Get n) l c = get_fits h n (omega (arith, size_few h l)) (omega (arith, point_few h l, size_few h l))
told_fits h step (query.Prove n) l c = told_proof ReplyFits h step n tt (λ m leaf lo hi bytes. tt)
told_fits h step (query.Extend which m) l c = told_extension ReplyFits h step which m tt c.entries (λ tree k size root bytes. tt)
told_fits h step (query.Clue clue) l c = (count_fits h clue l, kept_fit h clue l)
told_fits h step query.Head l c = head_fits h step l c

outcome_fits : (h : History) (step : Step) (job : Job) → IsLawful h → IsCounted step → JobFits job → AnswerFits (answer_for h step (outcome real_limits (stamp_of step) h job))
unfolding outcome
outcome_fits h step (Refused refusal) l c f = f
outcome_fits h step (Append member clue content content_digest request by who number) l c f =
    let job = Append member clue content content_digest request by who number in
    record_fits h step (own_refusal real_limits h job) (repeated h member number request) (append_journal h member clue content content_digest request by who number) c (own_fits h job l f)
outcome_fits h step (NewMember number key by) l c f =
    let job = NewMember number key by in placed_fits h step (own_refusal real_limits h job) (member_journal (size h) number key by) c (own_fits h job l f)
outcome_fits h step Anchor l c f = anchor_fits h step (own_refusal real_limits h Anchor) (stamp_of step) c (own_fits h Anchor l f)
outcome_fits h step (Occult target leaf given) l c f =
    let job = Occult target leaf given in placed_fits h step (own_refusal real_limits h job) (occult_journal (size h) target leaf given) c (own_fits h job l f)
outcome_fits h step (OccultClue clue count given) l c f =
    let job = OccultClue clue count given in placed_fits h step (own_refusal real_limits h job) (clue_occult_journal (size h) clue count given) c (own_fits h job l f)
outcome_fits h step (Purge p told given) l c f =
    let job = Purge p told given in placed_fits h step (own_refusal real_limits h job) (purge_journal h p given) c (own_fits h job l f)
outcome_fits h step (Ask query) l c f =
    asked AnswerFits h step (own_refusal real_limits h (Ask query)) query (λ why is. subst MayFit is (ask_fits h query l)) (told_fits h step query l c)

judged_lawful : (h : History) (b : Bool) → IsLawful h → IsLawful (cond b (close h) h)
judged_lawful h true l = close_lawful h l
judged_lawful h false l = l

pub answer_fits : (h : History) (step : Step) (job : Job) → IsLawful h → IsCounted step → JobFits job → AnswerFits (answer_to h step job)
unfolding answer_to
answer_fits h step job l c f = outcome_fits (judged_at h job) step job (judged_lawful h (closes_before job) l) c f

reply_fits : (f : History) (answer : Answer) → IsLawful f → AnswerFits answer → IsWithin 0 (size f) answer → ReplyFits (reply_in f answer)
reply_fits f (Reply reply) l a w = a
reply_fits f (Receipt jsn leaf stamp) l a w = (
  omega (arith, w.1, size_few f l),
  a.0,
  omega (arith, block_of_few f jsn, closed_few f l, size_few f l),
  omega (arith, end_of_few f jsn, size_few f l),
  a.1,
)

-- what is due in a run

fit-append : (xs ys : List Told) → AllFit xs → AllFit ys → AllFit (xs ++ ys)
fit-append [] ys x y = y
fit-append (t ∷ xs) ys x y = (x.0, fit-append xs ys x.1 y)

-- the first of some dues fit where all do
pub fit-first : (f : History) (xs ys : List Due) → AllFit (due_replies f (xs ++ ys)) → AllFit (due_replies f xs)
fit-first f [] ys a = tt
fit-first f (d ∷ xs) ys a = (a.0, fit-first f xs ys a.1)

replies-append : (f : History) (xs ys : List Due) → due_replies f (xs ++ ys) ≡ due_replies f xs ++ due_replies f ys
replies-append f [] ys = refl
replies-append f (d ∷ xs) ys = ap (λ (ts : List Told). due_reply f d ∷ ts) (replies-append f xs ys)

steps_fit : (scheme : Scheme) (h f : History) (steps : List Step) → IsLawful h → IsLawful f → AllCounted steps → AllWithin 0 (size f) (dues scheme h steps) → AllFit (due_replies f (dues scheme h steps))
steps_fit scheme h f [] l k c w = tt
steps_fit scheme h f (step ∷ steps) l k c w = (
  record {
    lane = c.0.lane;
    index = c.0.index;
    reply = reply_fits f (due_for scheme h step).answer k (answer_fits h step (job_of scheme (id h) step.line) l c.0 (job_counts scheme (id h) step.line)) w.0;
  },
  steps_fit scheme (after_step scheme h step) f steps (step_lawful scheme h step l) k c.1 w.1,
)

-- also where their last block hasn't ended
pub part_fits : (scheme : Scheme) (h f : History) (steps : List Step) → IsLawful h → IsLawful f → AllCounted steps → Grows (after_steps scheme h steps) f → AllFit (due_replies f (dues scheme h steps))
part_fits scheme h f steps l k c later =
    let last = after_steps scheme h steps in
    steps_fit scheme h f steps l k c
    (all_higher 0 (size last) (size f) (dues scheme h steps) (grows_size last f later)
    (dues_within scheme h steps))

pub window_fits : (scheme : Scheme) (h f : History) (steps : List Step) → IsLawful h → IsLawful f → AllCounted steps → Grows (after_window scheme h steps) f → AllFit (due_replies f (dues scheme h steps))
window_fits scheme h f steps l k c later =
    let last = after_steps scheme h steps in
    part_fits scheme h f steps l k c (grows_then last (after_window scheme h steps) f (grows_close last) later)

-- each reply of a run fits, in each later history that is lawful
pub run_fits : (scheme : Scheme) (h f : History) (windows : List (List Step)) → EachCounted windows → IsLawful h → IsLawful f → Grows (after scheme h windows) f → AllFit (due_replies f (all_dues scheme h windows))
run_fits scheme h f [] c l k later = tt
run_fits scheme h f (window ∷ windows) c l k later =
    let g = after_window scheme h window in
    subst AllFit (sym (replies-append f (dues scheme h window) (all_dues scheme g windows)))
    (fit-append (due_replies f (dues scheme h window)) (due_replies f (all_dues scheme g windows))
    (window_fits scheme h f window l k c.0 (grows_then g (after scheme g windows) f (grows_windows scheme g windows) later))
    (run_fits scheme g f windows c.1 (close_lawful (after_steps scheme h window) (steps_lawful scheme h window l)) k later))

-- .. also of a window that is underway
pub underway_fits : (scheme : Scheme) (h f : History) (windows : List (List Step)) (steps : List Step) → EachCounted windows → AllCounted steps → IsLawful h → IsLawful f → Grows (after_steps scheme (after scheme h windows) steps) f
    → AllFit (due_replies f (all_dues scheme h windows ++ dues scheme (after scheme h windows) steps))
underway_fits scheme h f windows steps c d l k later =
    let g = after scheme h windows in
    subst AllFit (sym (replies-append f (all_dues scheme h windows) (dues scheme g steps)))
    (fit-append (due_replies f (all_dues scheme h windows)) (due_replies f (dues scheme g steps))
    (run_fits scheme h f windows c l k (grows_then g (after_steps scheme g steps) f (grows_steps scheme g steps) later))
    (part_fits scheme g f steps (run_lawful scheme h windows l) k d later))
