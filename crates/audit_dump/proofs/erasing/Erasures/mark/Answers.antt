use Rattle.std.proofs.Common.{◌++◌, ◌∷◌, [], List, ℕ, Option, Some, false, cond, ap, ap₂, sym, ◌∙◌}
use Rattle.std.specs.BTreeMap.{is_at}
use Rattle.std.specs.Cmp.Lexicographic.{slice_cmp}
use Rattle.std.specs.Ordering.{nat_cmp}
use Rattle.ledger_bytes.specs.declared.digest.Digest.{Digest}
use Rattle.journal_record.specs.declared.header.Header.{Header}
use Rattle.dump_model.specs.Checks.{is_occult}
use Rattle.audit_dump.specs.Notes.{Erased, record_clue, is_clue_occult, last_in, named_at}
use Rattle.audit_dump.specs.declared.erasing.Mark.{Mark}
use Rattle.audit_dump.proofs.Erased.{more_by_clue, more_named, more_plain, names_nothing}
use Rattle.audit_dump.proofs.erasing.Erasures.mark.Goals as goal

pub returns-in-Occult : goal.returns-in-Occult
returns-in-Occult c items item o same told are =
    let first = ap (λ (e : Erased). e.first) c.self.view_is in
    let old = ap (λ (e : Erased). e.marks) c.self.view_is in
    let more = λ (ms : List Mark) (clue : Option Digest). ms ++ record { erased = c.args.erased; named = false; clue = clue } ∷ [] in
    let pushed = c.in_ok-push.ensures.items ∙ ap₂ more old (c.record_clue.ensures ∙ ap record_clue (sym same)) in (
      more_named items item c.args.self.now c.name.new.self c.args.erased o told are
          (ap (λ (x : Header). is_occult x.kind) same ∙ ap is_occult c.in-Occult.is) (ap (λ (x : Header). is_clue_occult x.kind) same ∙ ap is_clue_occult c.in-Occult.is)
          (c.name.ensures.marks ∙ ap₂ (λ (n : ℕ) (ms : List Mark). named_at n c.args.header.now.a ms) first pushed
          ∙ ap (λ (x : Header). named_at c.args.self.now.first x.a (more c.args.self.now.marks (record_clue item.header))) (sym same))
          (c.name.ensures.clues ∙ ap (λ (e : Erased). e.clues) c.self.view_is),
      c.name.ensures.first ∙ first,
    )

pub returns-in_ok-insert-in-ClueOccult : goal.returns-in_ok-insert-in-ClueOccult
returns-in_ok-insert-in-ClueOccult c items item o same told are =
    let first = ap (λ (e : Erased). e.first) c.self.view_is in
    let old = ap (λ (e : Erased). e.marks) c.self.view_is in
    let more = λ (ms : List Mark) (clue : Option Digest). ms ++ record { erased = c.args.erased; named = false; clue = clue } ∷ [] in
    let pushed = c.in_ok-push.ensures.items ∙ ap₂ more old (c.record_clue.ensures ∙ ap record_clue (sym same)) in
    let put = λ (clue : List ℕ) (x : Header) (entries : List (List ℕ × ℕ)). cond (is_at (slice_cmp nat_cmp x.link.0) clue) (Some x.jsn) (last_in clue entries) in
    let new : Erased = record { first = c.self.inside.first; marks = c.push.new.self.items; clues = c.insert.new.self.entries } in (
      more_by_clue items item c.args.self.now new c.args.erased o told are
          (ap (λ (x : Header). is_occult x.kind) same ∙ ap is_occult c.in-ClueOccult.is) (ap (λ (x : Header). is_clue_occult x.kind) same ∙ ap is_clue_occult c.in-ClueOccult.is)
          pushed
          (λ clue. c.in_ok-insert-in-ClueOccult.ensures.updates.0 clue ∙ ap₂ (put clue) (sym same) (ap (λ (e : Erased). e.clues) c.self.view_is)),
      first,
    )

pub returns-in-Genesis : goal.returns-in-Genesis
returns-in-Genesis c items item o same told are =
    let first = ap (λ (e : Erased). e.first) c.self.view_is in
    let old = ap (λ (e : Erased). e.marks) c.self.view_is in
    let more = λ (ms : List Mark) (clue : Option Digest). ms ++ record { erased = c.args.erased; named = false; clue = clue } ∷ [] in
    let pushed = c.in_ok-push.ensures.items ∙ ap₂ more old (c.record_clue.ensures ∙ ap record_clue (sym same)) in
    let nothing = names_nothing c.args.header.now.kind c.in-Genesis.is in
    let new : Erased = record { first = c.self.inside.first; marks = c.push.new.self.items; clues = c.self.inside.clues.entries } in (
      more_plain items item c.args.self.now new c.args.erased o told are
          (ap (λ (x : Header). is_occult x.kind) same ∙ nothing.0) (ap (λ (x : Header). is_clue_occult x.kind) same ∙ nothing.1)
          pushed (ap (λ (e : Erased). e.clues) c.self.view_is),
      first,
    )
