use Rattle.std.proofs.Common.{sym, subst, ap, ◌∙◌, ◌≡◌, List, ℕ}
use Rattle.std.proofs.lemmas.Result.{IfErr-weaker}
use Rattle.ledger_disk.specs.Disk.{State}
use Rattle.block_file.specs.Head.{IsResumeErr}
use Rattle.twin_file.specs.Twin.{choice}
use Rattle.twin_file.proofs.PickLaws.{picked_right, taken_err}
use Rattle.twin_file.proofs.twin.look.Goals as goal

pub returns-then-picked-clause-err : goal.returns-then-picked-clause-err
returns-then-picked-clause-err g c = IfErr-weaker c.resume.result _ _ (λ e err told.
    let a = (g.D.Disk.state c.args.a.now).bytes.seen in
    let b = (g.D.Disk.state c.args.b.now).bytes.seen in
    let right = picked_right a b c.in_ok-first.first c.in_ok-second.second c.in-Some.picked (c.in_ok-first.ensures.answer told) (c.in_ok-second.ensures.answer told) c.in-Some.ensures in
    let here : choice c.in-Some.picked.in_a a b ≡ a = ap (λ x. choice x a b) c.if-picked.true in
    let at_head : (g.D.Disk.state c.head.new.disk).bytes.seen ≡ a = ap (λ (s : State). s.seen) (c.head.ensures.state told) in
    taken_err a b c.in-Some.picked e right (subst (λ (l : List ℕ). IsResumeErr l c.in-Some.picked.head.base_len e) (at_head ∙ sym here) (err told))) c.resume.ensures.err

pub returns-else-picked-clause-err : goal.returns-else-picked-clause-err
returns-else-picked-clause-err g c = IfErr-weaker c.resume-else-picked.result _ _ (λ e err told.
    let a = (g.D.Disk.state c.args.a.now).bytes.seen in
    let b = (g.D.Disk.state c.args.b.now).bytes.seen in
    let right = picked_right a b c.in_ok-first.first c.in_ok-second.second c.in-Some.picked (c.in_ok-first.ensures.answer told) (c.in_ok-second.ensures.answer told) c.in-Some.ensures in
    let here : choice c.in-Some.picked.in_a a b ≡ b = ap (λ x. choice x a b) c.if-picked.false in
    let at_head : (g.D.Disk.state c.head-2.new.disk).bytes.seen ≡ b = ap (λ (s : State). s.seen) (c.head-2.ensures.state told) in
    taken_err a b c.in-Some.picked e right (subst (λ (l : List ℕ). IsResumeErr l c.in-Some.picked.head.base_len e) (at_head ∙ sym here) (err told))) c.resume-else-picked.ensures.err
