-- What is told to a line that asks for a journal is no receipt, its numbers fit, and a sound history shows what it has.
use Rattle.std.specs.Prelude.{⊤, All, bytes_eq, nat_le, nat_lt, slice_get}
use Rattle.std.proofs.Common.{◌≡◌, ℕ, zero, suc, Bool, true, false, cond, List, [], ◌∷◌, Option, Some, None, refl, sym, ◌∙◌, ap, subst, arith}
use Rattle.std.proofs.lemmas.Slice.Eq.{bytes_eq-Decides}
use Rattle.ledger_bytes.specs.Digests.{digest}
use Rattle.ledger_bytes.specs.declared.digest.Digest.{Digest}
use Rattle.ledger_bytes.specs.declared.refusal.Refusal.{Refusal}
use Rattle.ledger_bytes.specs.declared.refusal.Refusal.TheVariants as refusals
use Rattle.journal_record.specs.Entry.{Entry, content_digest_of, who_digest_of}
use Rattle.journal_record.specs.Header.{spelling}
use Rattle.journal_record.specs.declared.header.Header.{Header}
use Rattle.script_lines.specs.Receipts.{FitsWord, ReplyFits}
use Rattle.script_lines.specs.declared.reply.Reply.{Reply}
use Rattle.script_lines.specs.declared.reply.Reply.TheVariants as reply
use Rattle.ledger_model.specs.Getting.{damage, content_damage, who_damage, reply_unless, whole_reply, occulted_reply, reply_on, shown_reply, get_reply}
use Rattle.ledger_model.specs.History.{History, journals, size, point}
use Rattle.member_book.specs.Erasures.{first_refusal}
use Rattle.ledger_model.specs.Lawful.{IsWhole, IsSound}
use Rattle.ledger_model.specs.Outcomes.{view}
use Rattle.ledger_model.specs.Targets.{is_hidden}
use Rattle.ledger_model.specs.declared.view.View.{View}
use Rattle.ledger_model.specs.declared.view.View.TheVariants.{Absent, Purged, Occulted, Whole}

-- what holds of a refusal, where there is one
abbrev Maybe : (Refusal → Type 0) → Option Refusal → Type 0
Maybe P None = ⊤
Maybe P (Some refusal) = P refusal

damaged : (P : Refusal → Type 0) (kept : Digest) (found : List ℕ) → ((k f : Digest) → P (refusals.Damaged k f)) → Maybe P (damage kept found)
damaged P kept found each = elim (bytes_eq found kept.0) as (λ v. Maybe P (cond v None (Some (refusals.Damaged kept (digest found))))) [ true ↦ tt | false ↦ each kept (digest found) ]

first_of : (P : Refusal → Type 0) (a b : Option Refusal) → Maybe P a → Maybe P b → Maybe P (first_refusal (a ∷ b ∷ []))
first_of P (Some x) b f g = f
first_of P None (Some y) f g = g
first_of P None None f g = tt

-- What holds of each reply that tells of a journal holds of the one to this line.
module _ (Q : Reply → Type 0) (refused : (kept found : Digest) → Q (reply.Refused (refusals.Damaged kept found))) (whole : (header content who : List ℕ) → Q (reply.Whole header content who)) (occulted : (header who : List ℕ) → Q (reply.Occulted header who)) where
  unless : (o : Option Refusal) (r : Reply) → Maybe (λ x. Q (reply.Refused x)) o → Q r → Q (reply_unless o r)
  unless (Some x) r m q = m
  unless None r m q = q

  of_whole : (header : Header) (content who : List ℕ) → Q (whole_reply header content who)
  unfolding whole_reply
  of_whole header content who =
      unless (first_refusal (content_damage header content ∷ who_damage header who ∷ [])) (reply.Whole (spelling header) content who)
      (first_of (λ x. Q (reply.Refused x)) (content_damage header content) (who_damage header who)
      (damaged (λ x. Q (reply.Refused x)) header.content_digest (content_digest_of content) refused) (damaged (λ x. Q (reply.Refused x)) header.who_digest (who_digest_of who) refused))
      (whole (spelling header) content who)

  of_occulted : (header : Header) (who : List ℕ) → Q (occulted_reply header who)
  unfolding occulted_reply
  of_occulted header who = unless (who_damage header who) (reply.Occulted (spelling header) who) (damaged (λ x. Q (reply.Refused x)) header.who_digest (who_digest_of who) refused) (occulted (spelling header) who)

  on : (n : ℕ) (said : Entry → Reply) (o : Option Entry) → Q (reply.Refused (refusals.NoJournal n)) → ((e : Entry) → Q (said e)) → Q (reply_on n said o)
  on n said None none some = none
  on n said (Some e) none some = some e

  of_shown : (h : History) (n : ℕ) (v : View) → Q (reply.Refused (refusals.NoJournal (size h))) → ((p : ℕ) → v ≡ Purged p → Q (reply.Refused (refusals.Purged p))) → Q (shown_reply h n v)
  of_shown h n Absent none purged = none
  of_shown h n (Purged p) none purged = purged p refl
  of_shown h n Occulted none purged = on (size h) (λ e. occulted_reply e.header e.who) (slice_get (journals h) n) none (λ e. of_occulted e.header e.who)
  of_shown h n Whole none purged = on (size h) (λ e. whole_reply e.header e.content e.who) (slice_get (journals h) n) none (λ e. of_whole e.header e.content e.who)

-- it is a refusal, or a journal with or without its content
pub get_told : (P : Reply → Type 0) (h : History) (n : ℕ) → ((why : Refusal) → P (reply.Refused why)) → ((header content who : List ℕ) → P (reply.Whole header content who)) → ((header who : List ℕ) → P (reply.Occulted header who)) → P (get_reply h n)
unfolding get_reply
get_told P h n refused whole occulted = of_shown P (λ kept found. refused (refusals.Damaged kept found)) whole occulted h n (view h n) (refused (refusals.NoJournal (size h))) (λ p is. refused (refusals.Purged p))

-- a purged journal is told with the point
purged_at : (h : History) (n p : ℕ) → view h n ≡ Purged p → p ≡ point h
unfolding view
purged_at h n p is = by_tests (nat_le (size h) n) (nat_lt n (point h)) (is_hidden h n) is where
  by_tests : (absent purged hidden : Bool) → cond absent Absent (cond purged (Purged (point h)) (cond hidden Occulted Whole)) ≡ Purged p → p ≡ point h
  by_tests true purged hidden e = absurd cc
  by_tests false true hidden e = cc
  by_tests false false true e = absurd cc
  by_tests false false false e = absurd cc

-- its numbers fit
pub get_fits : (h : History) (n : ℕ) → FitsWord (size h) → FitsWord (point h) → ReplyFits (get_reply h n)
unfolding get_reply
get_fits h n few low =
    of_shown ReplyFits (λ kept found. tt) (λ header content who. tt) (λ header who. tt) h n (view h n) few (λ p is. omega (arith, purged_at h n p is, low))

-- in a sound history each part has its digest
no_damage : (kept : Digest) (found : List ℕ) → kept.0 ≡ found → (let none : Option Refusal = None in damage kept found ≡ none)
no_damage kept found is = ap (λ v. cond v None (Some (refusals.Damaged kept (digest found)))) ((bytes_eq-Decides found kept.0).1 (sym is))

whole_is : (e : Entry) → IsWhole e → whole_reply e.header e.content e.who ≡ reply.Whole (spelling e.header) e.content e.who
unfolding whole_reply
whole_is e w =
    ap (λ o. reply_unless (first_refusal (o ∷ who_damage e.header e.who ∷ [])) (reply.Whole (spelling e.header) e.content e.who)) (no_damage e.header.content_digest (content_digest_of e.content) w.content_is)
    ∙ ap (λ o. reply_unless (first_refusal (o ∷ [])) (reply.Whole (spelling e.header) e.content e.who)) (no_damage e.header.who_digest (who_digest_of e.who) w.who_is)

occulted_is : (e : Entry) → IsWhole e → occulted_reply e.header e.who ≡ reply.Occulted (spelling e.header) e.who
unfolding occulted_reply
occulted_is e w = ap (λ o. reply_unless o (reply.Occulted (spelling e.header) e.who)) (no_damage e.header.who_digest (who_digest_of e.who) w.who_is)

sound_at : (es : List Entry) (n : ℕ) (e : Entry) → All IsWhole es → slice_get es n ≡ Some e → IsWhole e
sound_at [] n e all is = absurd cc
sound_at (x ∷ es) zero e all is = let same : x ≡ e = cc in subst IsWhole same (all 0 x (omega arith))
sound_at (x ∷ es) (suc n) e all is = sound_at es n e (λ k d lt. all (suc k) d (omega (arith, lt))) is

pub sound_shown : (h : History) (n : ℕ) (e : Entry) → IsSound h → slice_get (journals h) n ≡ Some e → view h n ≡ Whole → get_reply h n ≡ reply.Whole (spelling e.header) e.content e.who
unfolding get_reply
sound_shown h n e sound is shown =
    ap (shown_reply h n) shown ∙ ap (reply_on (size h) (λ x. whole_reply x.header x.content x.who)) is ∙ whole_is e (sound_at (journals h) n e sound is)

pub sound_occulted : (h : History) (n : ℕ) (e : Entry) → IsSound h → slice_get (journals h) n ≡ Some e → view h n ≡ Occulted → get_reply h n ≡ reply.Occulted (spelling e.header) e.who
unfolding get_reply
sound_occulted h n e sound is shown =
    ap (shown_reply h n) shown ∙ ap (reply_on (size h) (λ x. occulted_reply x.header x.who)) is ∙ occulted_is e (sound_at (journals h) n e sound is)
