use Rattle.std.proofs.Common.{◌≡◌, ◌∙◌, true, None, Some, refl, ap, subst}
use Rattle.std.specs.Bool.{then_some}
use Rattle.std.specs.Result.{result_ok}
use Rattle.std.proofs.lemmas.Option.{same_Some}
use Rattle.journal_record.specs.Header.{HasWidths, spelling}
use Rattle.journal_record.specs.declared.header.Header.{Header}
use Rattle.proof_maker.proofs.HeaderLaws.{kept_header, at_rules, never_none}
use Rattle.proof_maker.proofs.bound.time_header.Goals as goal

pub returns-in_err-header-clause-header : goal.returns-in_err-header-clause-header
returns-in_err-header-clause-header c = λ h e s at. never_none e.header _ (kept_header c.args.book.now h s c.args.jsn e at None (c.in_err-header.ensures.header h s))

pub returns-in_err-header-2-clause-header : goal.returns-in_err-header-2-clause-header
returns-in_err-header-2-clause-header c = λ h e s at.
    let same = same_Some c.in_ok-header.field-0.now e.header (kept_header c.args.book.now h s c.args.jsn e at (Some c.in_ok-header.field-0.now) (c.in_ok-header.ensures.header h s)) in
    let read = c.decode.ensures.only e.header (at_rules c.args.book.now h s c.args.jsn e at) (subst HasWidths same c.encode.ensures.widths) (c.encode.ensures.bytes ∙ ap spelling same) in
    never_none e.header _ (c.in_err-header-2.ensures.value ∙ ap result_ok read)

pub returns-clause-header : goal.returns-clause-header
returns-clause-header c = λ h e s at.
    let same = same_Some c.in_ok-header.field-0.now e.header (kept_header c.args.book.now h s c.args.jsn e at (Some c.in_ok-header.field-0.now) (c.in_ok-header.ensures.header h s)) in
    let read = c.decode.ensures.only e.header (at_rules c.args.book.now h s c.args.jsn e at) (subst HasWidths same c.encode.ensures.widths) (c.encode.ensures.bytes ∙ ap spelling same) in
    let is : c.in_ok-header-2.header ≡ e.header = same_Some c.in_ok-header-2.header e.header (c.in_ok-header-2.ensures.value ∙ ap result_ok read) in
    let time : c.eq.result ≡ true = rw (c.eq.ensures, ap (λ (x : Header). x.kind) is ∙ at.kept.time) refl in
    c.then_some.ensures ∙ ap (λ v. then_some v c.in_ok-header-2.header) time ∙ ap Some is
