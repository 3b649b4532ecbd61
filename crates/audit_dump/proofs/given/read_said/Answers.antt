use Rattle.std.proofs.Common.{◌++◌, List, All, sym, ap, ◌∙◌, subst}
use Rattle.std.proofs.lemmas.List.Elements.{All-push, All-weaker}
use Rattle.journal_record.specs.Approval.{who_of}
use Rattle.journal_record.specs.declared.approval.Approval.{Approval}
use Rattle.audit_dump.specs.Approvals.{HasShortProof}
use Rattle.audit_dump.specs.Said.{IsSaid}
use Rattle.audit_dump.proofs.SaidLaws.{said_takes, shorter, one_more, all_behind, no_approvals, something_left}
use Rattle.audit_dump.proofs.given.read_said.Goals as goal

pub loop-reader-smaller : goal.loop-reader-smaller
loop-reader-smaller c =
    let took = said_takes c.loop-reader.reader c.in-Ok.said c.take_said.new.reader c.loop-reader.invariant.plain c.in-Ok.ensures in
    shorter c.in-Ok.said c.loop-reader.reader c.take_said.new.reader took.0

pub loop-reader-preserved : goal.loop-reader-preserved
loop-reader-preserved c =
    let took = said_takes c.loop-reader.reader c.in-Ok.said c.take_said.new.reader c.loop-reader.invariant.plain c.in-Ok.ensures in
    let items = c.in_ok-push-in-Ok.ensures.items in
    let before = c.loop-reader.given.items in
    record {
      parts =
          one_more c.args.who.now before c.in-Ok.said c.loop-reader.reader c.take_said.new.reader c.loop-reader.invariant.parts took.0
          ∙ ap (λ (xs : List Approval). who_of xs ++ c.take_said.new.reader.rest) (sym items);
      said = subst (All IsSaid) (sym items) (All-push IsSaid before c.in-Ok.said c.loop-reader.invariant.said took.1);
      plain = took.0.bytes;
    }

pub returns-in-Err-clause-none : goal.returns-in-Err-clause-none
returns-in-Err-clause-none c = λ given short is.
    let told = c.loop-reader.invariant in
    let behind = all_behind c.loop-reader.given.items given c.loop-reader.reader.rest (All-weaker IsSaid HasShortProof (λ by is. is.short) c.loop-reader.given.items told.said) short (sym told.parts ∙ is) in
    no_approvals c.loop-reader.reader c.in-Err.field-0 behind.0 c.in-Err.ensures
    (something_left c.loop-reader.reader c.end.result c.end.ensures (sym c.is_err.ensures.value ∙ c.loop-reader-test.true)) behind.1 behind.2
