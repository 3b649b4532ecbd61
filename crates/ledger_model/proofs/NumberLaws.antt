-- The members that lawful journals admit: their numbers are those of the journals.
use Rattle.std.specs.Prelude.{All, filter}
use Rattle.std.proofs.Common.{ℕ, ◌+◌, ◌<◌, ◌≤◌, true, false, cond, List, [], ◌∷◌, length, map, take, drop, arith}
use Rattle.std.proofs.lemmas.List.Elements.{All-nil, All-cons, All-append}
use Rattle.ledger_bytes.specs.Digests.{digest}
use Rattle.journal_record.specs.Entry.{Entry}
use Rattle.journal_record.specs.declared.member.Member.{Member}
use Rattle.ledger_model.specs.History.{History, journals, size}
use Rattle.ledger_model.specs.Members.{admits, member_of, admitted_members, founders, members}
use Rattle.ledger_model.proofs.LawfulLaws.{AreFrom, lawful_from}
use Rattle.ledger_model.specs.Lawful.{AreLawful}

admitted_low : (m p : ℕ) (es : List Entry) → AreFrom m es → m + length es ≤ p → All (λ (x : Member). x.jsn < p) (admitted_members es)
admitted_low m p [] from le = All-nil (λ (x : Member). x.jsn < p)
admitted_low m p (e ∷ es) from le =
    let later = admitted_low (m + 1) p es from.2 (omega (arith, le)) in
    elim (admits e) as (λ v. All (λ (x : Member). x.jsn < p) (map member_of (cond v (e ∷ filter admits es) (filter admits es)))) [
      | true ↦ All-cons (λ (x : Member). x.jsn < p) (member_of e) (admitted_members es) (omega (arith, from.0, le)) later
      | false ↦ later
    ]

founders_low : (p : ℕ) (es : List Entry) → 0 < p → All (λ (x : Member). x.jsn < p) (founders es)
founders_low p [] lt = All-nil (λ (x : Member). x.jsn < p)
founders_low p (e ∷ es) lt =
    let one : Member = record { key = digest (take 32 e.content); jsn = 0 } in
    let two : Member = record { key = digest (drop 32 e.content); jsn = 0 } in
    All-cons (λ (x : Member). x.jsn < p) one (two ∷ []) lt (All-cons (λ (x : Member). x.jsn < p) two [] lt (All-nil (λ (x : Member). x.jsn < p)))

pub members_low : (p : ℕ) (h : History) → AreLawful (journals h) → 0 < p → size h ≤ p → All (λ (x : Member). x.jsn < p) (members h)
unfolding members
members_low p h lawful lt le =
    All-append (λ (x : Member). x.jsn < p) (founders (journals h)) (admitted_members (journals h)) (founders_low p (journals h) lt) (admitted_low 0 p (journals h) (lawful_from (journals h) lawful) (omega (arith, le)))
