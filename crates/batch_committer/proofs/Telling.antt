-- What is told of the ledger's head.
use Rattle.std.proofs.Common.{◌≡◌, ℕ, cond, false, length, [], ap, sym, ◌∙◌}
use Rattle.sha2.specs.Sha256.{sha256}
use Rattle.ledger_bytes.specs.Digests.{digest}
use Rattle.ledger_bytes.specs.declared.digest.Digest.{Digest}
use Rattle.merkle_tree.specs.declared.head.Head.{Head}
use Rattle.script_lines.specs.declared.reply.Reply.{Reply}
use Rattle.script_lines.specs.declared.reply.Reply.TheVariants as reply
use Rattle.ledger_model.specs.History.{History, id, size, blocks, point}
use Rattle.ledger_bytes.specs.declared.refusal.Refusal.TheVariants.{NotaryFault}
use Rattle.ledger_model.specs.Step.{Step}
use Rattle.tree_model.specs.Tree.{mth}
use Rattle.ledger_model.specs.Texts.{told_reply}
use Rattle.ledger_model.specs.declared.outcome.Query.TheVariants as query
use Rattle.ledger_model.proofs.GrowLaws.{size_closed}
use Rattle.ledger_book.specs.Seals.{head_at, head_of}

abbrev head_with : Digest → Head → ℕ → ℕ → ℕ → Digest → Reply
head_with id_is head blocks_is point_is count notary = reply.Head id_is head.size head.root blocks_is point_is count notary

pub told_head : (h : History) (step : Step) (id_is : Digest) (head : Head) (blocks_is point_is count : ℕ) (notary : Digest) → step.failed ≡ false → count ≡ length step.after → notary.0 ≡ mth sha256 step.after → h.waiting ≡ [] → id_is.0 ≡ id h → blocks_is ≡ blocks h → point_is ≡ point h → head ≡ head_of h
    → head_with id_is head blocks_is point_is count notary ≡ told_reply h step query.Head
told_head h step id_is head blocks_is point_is count notary well m n none i b p is =
    ap (λ d. head_with (digest d) head blocks_is point_is count notary) i
    ∙ ap (λ m. head_with (digest (id h)) head m point_is count notary) b
    ∙ ap (λ m. head_with (digest (id h)) head (blocks h) m count notary) p
    ∙ ap (λ k. head_with (digest (id h)) k (blocks h) (point h) count notary) (is ∙ ap (head_at h) (sym (size_closed h none)))
    ∙ ap (λ k. head_with (digest (id h)) (head_at h (size h)) (blocks h) (point h) k notary) m
    ∙ ap (λ d. head_with (digest (id h)) (head_at h (size h)) (blocks h) (point h) (length step.after) (digest d)) n
    ∙ sym (ap (λ v. cond v (reply.Refused NotaryFault) (head_with (digest (id h)) (head_at h (size h)) (blocks h) (point h) (length step.after) (digest (mth sha256 step.after)))) well)
