use Rattle.std.specs.Prelude.{All, fold}
use Rattle.proof_board.specs.Growing.{grown}
use Rattle.std.proofs.Common.{subst, ap, sym, ◌∙◌, List, [], ◌∷◌, ◌++◌, drop}
use Rattle.merkle_batch.specs.Stretches.{Leaves}
use Rattle.proof_board.specs.declared.shown.Growing.{Growing}
use Rattle.proof_board.specs.History.{Digests, IsWide, Mark, leaves_of}
use Rattle.proof_board.specs.Words.{leaves_in}
use Rattle.proof_board.proofs.Publishing.{publishes, waits, waits_on}
use Rattle.proof_board.proofs.writer.BoardWriter.publishing.Goals as goal

pub publish_as-writer-requires : goal.publish_as-writer-requires
publish_as-writer-requires g c next is =
    let op : Growing = record { stretches = c.args.self.waiting; at = c.add.new.self } in
    let at = c.again-at.ensures ∙ c.at.ensures ∙ ap (λ s. s.at) c.published.ensures ∙ ap (λ k. k.shown.value.at) (sym c.append.ensures.desk) in
    let ops = c.in_default.ensures.pending ∙ ap (λ l. l ++ op ∷ []) (c.args.self.ready c.if-self.false) in
    publishes _ _ c.append.new.self.desk.shown.value op _ c.again-at.result at c.add.ensures.book c.if-not-add.ensures.log ops (subst (λ (l : List Leaves). All IsWide (leaves_of l)) c.as_slice.ensures.value c.are_all_wide.ensures) next is

pub returns-in-Ok-clause-ok : goal.returns-in-Ok-clause-ok
returns-in-Ok-clause-ok g c =
    let op : Growing = record { stretches = c.args.self.waiting; at = c.add.new.self } in
    let batch : Digests = leaves_of c.args.self.waiting.items in
    let none = c.args.self.ready c.if-self.false in
    let ops = c.in_default.ensures.pending ∙ ap (λ l. l ++ op ∷ []) none in
    let at = c.again-at.ensures ∙ c.at.ensures ∙ ap (λ s. s.at) c.published.ensures in
    let values = rw c.in-Ok.is at c.publish_as-writer.ensures.values in
    let now = values.0 ∙ ap (λ l. fold grown c.append.new.self.desk.shown.value l) ops in (
      ap (λ s. s.at.log) now ∙ c.if-not-add.ensures.log ∙ ap (λ (m : Mark). m.log ++ batch ∷ []) at ∙ ap (λ b. c.args.self.writer.desk.shown.value.at.log ++ b ∷ []) (sym (waits _ batch none)),
      waits _ _ values.1 ∙ ap leaves_of c.new-waiting.ensures.items,
    )

pub returns-in-Err-done-clause-err : goal.returns-in-Err-done-clause-err
returns-in-Err-done-clause-err g c =
    let op : Growing = record { stretches = c.args.self.waiting; at = c.add.new.self } in
    let none = c.args.self.ready c.if-self.false in
    let ops = c.in_default.ensures.pending ∙ ap (λ l. l ++ op ∷ []) none in
    let put = c.stuck-in-Err-done.ensures in
    let values = rw c.in-Err-done.is at c.publish_as-writer.ensures.values in (
      ap (λ w. w.desk.shown.value.at.log) put.writer ∙ ap (λ s. s.at.log) values.0 ∙ ap (λ k. k.shown.value.at.log) c.append.ensures.desk,
      (λ i. leaves_in (drop (put.writer i).behind (put.writer i).log.items) ++ leaves_of (put.waiting i).items) ∙ waits_on op _ _ _ (values.1 ∙ ops) (ap leaves_of c.new-waiting.ensures.items) none,
    )
