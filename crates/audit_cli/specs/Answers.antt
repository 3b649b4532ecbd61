-- The answer to a line, and what is trusted after it.
use Rattle.std.specs.Prelude.{◌≡◌, IfOk, ℕ, List, Option, Some, None, Result, Ok, Err}
use Rattle.ledger_bytes.specs.declared.refusal.Refusal.{Refusal}
use Rattle.tree_model.specs.Tree.{Hash}
use Rattle.audit_core.specs.declared.refusal.No.{No}
use Rattle.audit_core.specs.declared.refusal.TrustErr.{TrustErr}
use Rattle.audit_core.specs.declared.refusal.TrustErr.TheVariants as trust_err
use Rattle.audit_core.specs.Acceptance.{acceptance}
use Rattle.audit_core.specs.Trust.{Trust, trust_refusal, head_refusal, with_ledger, with_head}
use Rattle.audit_core.specs.Extending.{extend_refusal}
use Rattle.audit_core.specs.Truth.{lists_of}
use Rattle.audit_core.specs.Judgement.{Judgement, refused, holds, shows, judgement}
use Rattle.script_lines.specs.declared.said.Which.TheVariants.{Notary}
use Rattle.audit_cli.specs.declared.line.Line.{Line}
use Rattle.audit_cli.specs.declared.line.Line.TheVariants.{TrustLedger, TrustNotary, Extend, Check, Judge}
use Rattle.audit_cli.specs.declared.reply.Reply.{Reply}
use Rattle.audit_cli.specs.declared.reply.Reply.TheVariants as reply
use Rattle.audit_cli.specs.Grammar.{line_of}

-- the reply to a head that is to be trusted: no where this stands against it, and yes where nothing does
abbrev pub trust_reply : Option No → Reply
trust_reply None = reply.Yes
trust_reply (Some why) = reply.No why

-- the reply to a call that is to trust a head; there is none for want of memory
abbrev pub RepliesTo : {E : Type 0} → Result (Unit {0}) TrustErr → Result Reply E → Type 0
RepliesTo (Ok done) result = result ≡ Ok reply.Yes
RepliesTo (Err (trust_err.No why)) result = result ≡ Ok (reply.No why)
RepliesTo (Err trust_err.NoMemory) result = IfOk result (λ reply. ⊥)

-- the reply to a proof: yes where it is accepted, and no where it isn't
abbrev pub verdict : Result (Unit {0}) No → Reply
verdict (Ok done) = reply.Yes
verdict (Err why) = reply.No why

-- the reply to what is judged: a proof isn't accepted, or else its claim is true, or false and two strings are shown
abbrev pub judge_reply : Judgement → Reply
judge_reply (refused why) = reply.Unaccepted why
judge_reply holds = reply.True
judge_reply (shows pair) = reply.Clash pair.0 pair.1

-- the reply to a line that was read, where this is trusted
abbrev pub reply_to : Hash → Trust → Result Line Refusal → Reply
reply_to hash trust (Ok (TrustLedger id head)) = trust_reply (trust_refusal trust id head)
reply_to hash trust (Ok (TrustNotary head)) = trust_reply (head_refusal Notary head trust)
reply_to hash trust (Ok (Extend which m head proof)) = trust_reply (extend_refusal hash which m head proof trust)
reply_to hash trust (Ok (Check claim proof)) = verdict (acceptance hash proof claim trust)
reply_to hash trust (Ok (Judge id headers entries claim proof)) = judge_reply (judgement hash (lists_of id headers entries) proof claim)
reply_to hash trust (Err refusal) = reply.Refused refusal

-- what is trusted afterwards: the second where nothing stands against it, and else the first
abbrev pub unless_refused : Option No → Trust → Trust → Trust
unless_refused None old new = new
unless_refused (Some why) old new = old

-- what is trusted after a line that was read: only a head that is trusted by it is added
abbrev pub trust_behind : Hash → Trust → Result Line Refusal → Trust
trust_behind hash trust (Ok (TrustLedger id head)) = unless_refused (trust_refusal trust id head) trust (with_ledger trust id head)
trust_behind hash trust (Ok (TrustNotary head)) = unless_refused (head_refusal Notary head trust) trust (with_head Notary head trust)
trust_behind hash trust (Ok (Extend which m head proof)) =
    unless_refused (extend_refusal hash which m head proof trust) trust (with_head which head trust)
trust_behind hash trust (Ok (Check claim proof)) = trust
trust_behind hash trust (Ok (Judge id headers entries claim proof)) = trust
trust_behind hash trust (Err refusal) = trust

-- the reply to a line, also to one that can't be read
abbrev pub answer_to : Hash → Trust → List ℕ → Reply
answer_to hash trust line = reply_to hash trust (line_of line)

-- what is trusted after a line, also after one that can't be read
abbrev pub trust_after : Hash → Trust → List ℕ → Trust
trust_after hash trust line = trust_behind hash trust (line_of line)
