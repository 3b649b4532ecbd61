use Rattle.std.proofs.Common.{◌≡◌, inl, inr, false, None, sym, ap, subst, ◌∙◌}
use Rattle.std.proofs.lemmas.Result.{IfOk-weaker, on_err_weaker}
use Rattle.ledger_book.specs.Books as books
use Rattle.ledger_book.specs.Books.{Serves}
use Rattle.ledger_book.proofs.OpenLaws.{opens_gather}
use Rattle.ledger_book.proofs.StandsLaws.{none_waits}
use Rattle.ledger_book.proofs.ApplyLaws.{asked_room, on_ok_all}
use Rattle.ledger_book.specs.Steps.{PlacesNothing, Applies, OpenGathers}
use Rattle.ledger_model.specs.Rules.{closes_before, closes_after}
use Rattle.ledger_model.specs.Outcomes.{AsksFor}
use Rattle.ledger_model.specs.Judgements.{own_refusal}
use Rattle.ledger_model.specs.Limits.{real_limits}
use Rattle.ledger_model.specs.Texts.{answer_for, told_reply}
use Rattle.ledger_model.specs.declared.answer.Answer.TheVariants.{Reply, Receipt}
use Rattle.ledger_model.specs.declared.job.Job.{Job}
use Rattle.ledger_model.specs.declared.job.Job.TheVariants.{Ask}
use Rattle.ledger_model.specs.declared.outcome.Query.TheVariants as query
use Rattle.batch_committer.specs.Attending.{step_in, Attended, JudgedBy, EndsAsking}
use Rattle.batch_committer.specs.World.{CommitterState, Keeps, Holds, world, pair}
use Rattle.batch_committer.proofs.Anchoring.{asked_accepted, anchor_wants, keeps_book, on_err_all, told_judged}
use Rattle.batch_committer.proofs.Attends.{unstamped, unstamped_same, attends_other, ends_untouched}
use Rattle.batch_committer.proofs.Judging.{real_applies, judged_same_kept, judged_placed, alone_first, order_at, on_ok_then, ungrown}
use Rattle.batch_committer.specs.contracts.taking.Taking.{the_view}
use Rattle.batch_committer.proofs.ReadLaws.{holds_book}
use Rattle.batch_committer.proofs.taking.Taking.judge.Goals as goal

pub anchor-requires-clause-room : goal.anchor-requires-clause-room
anchor-requires-clause-room g c =
    let job = subst (AsksFor c.args.job.now) c.in-StampWanted.is c.in_ok-refusal.ensures.asked in
    asked_room c.self.inside.opened.book c.apply.new.self _ (c.in_ok-refusal.ensures.anchor job) c.in-StampWanted.is c.in_ok-refusal.ensures.unchanged

pub anchor-requires-clause-settled : goal.anchor-requires-clause-settled
anchor-requires-clause-settled g c = λ h s.
    let asked = subst (AsksFor c.args.job.now) c.in-StampWanted.is c.in_ok-refusal.ensures.asked in
    let same = c.in_ok-refusal.ensures.unchanged (subst PlacesNothing (sym c.in-StampWanted.is) tt) in
    none_waits _ h (subst (λ b. Serves b h) same s).stands (sym (subst (λ (k : CommitterState). k.book.size ≡ k.book.sealed) (sym c.self.view_is) (c.requires.settled (ap closes_before asked)).0))

pub returns-in-Refused-clause-judged : goal.returns-in-Refused-clause-judged
returns-in-Refused-clause-judged g c =
    let n = g.N.Notary.state c.args.notary.now in (
      false,
      λ h lane index line sink holds.
          let p = subst (λ (k : CommitterState). Keeps k h) (sym c.self.view_is) holds.keeps in
          let step = step_in n n false lane index line in
          let a = c.in_ok-refusal.ensures.ok h p.serves in
          record {
            judged = judged_same_kept _ _ h step c.args.job.now _ _ p a (subst PlacesNothing (sym c.in-Refused.is) tt) c.in_ok-refusal.ensures.unchanged ungrown (sym (ap (answer_for h step) c.in-Refused.is)) (unstamped n false lane index line);
            attended = attends_other n h lane index line c.args.job.now (λ is none. let asks = anchor_wants _ h c.args.job.now _ _ (real_applies None c.self.inside.opened.book _ h c.args.job.now _ p.limits a) is none in let no : ⊥ = cc (asks, c.in-Refused.is) in no);
          },
    )

pub returns-in-Again-clause-judged : goal.returns-in-Again-clause-judged
returns-in-Again-clause-judged g c =
    let n = g.N.Notary.state c.args.notary.now in (
      false,
      λ h lane index line sink holds.
          let p = subst (λ (k : CommitterState). Keeps k h) (sym c.self.view_is) holds.keeps in
          let step = step_in n n false lane index line in
          let a = c.in_ok-refusal.ensures.ok h p.serves in
          record {
            judged = judged_same_kept _ _ h step c.args.job.now _ _ p a (subst PlacesNothing (sym c.in-Again.is) tt) c.in_ok-refusal.ensures.unchanged ungrown (sym (ap (answer_for h step) c.in-Again.is)) (unstamped n false lane index line);
            attended = attends_other n h lane index line c.args.job.now (λ is none. let asks = anchor_wants _ h c.args.job.now _ _ (real_applies None c.self.inside.opened.book _ h c.args.job.now _ p.limits a) is none in let no : ⊥ = cc (asks, c.in-Again.is) in no);
          },
    )

pub returns-in_ok-gather_placed-in-Placed-clause-judged : goal.returns-in_ok-gather_placed-in-Placed-clause-judged
returns-in_ok-gather_placed-in-Placed-clause-judged g c =
    let n = g.N.Notary.state c.args.notary.now in
    let e = c.in_ok-gather_placed-in-Placed.ensures in (
      false,
      λ h lane index line sink holds.
          let p = subst (λ (k : CommitterState). Keeps k h) (sym c.self.view_is) holds.keeps in
          let step = step_in n n false lane index line in
          let a = c.in_ok-refusal.ensures.ok h p.serves in
          record {
            judged = judged_placed None _ _ c.gather_placed.new.self h step c.args.job.now _ c.in-Placed.placed _ p (λ other. opens_gather c.args.self.now.book h holds.keeps.serves.stands c.requires.room.1)
                (λ alone. none_waits _ h holds.keeps.serves.stands (sym (c.requires.settled (alone_first c.args.job.now alone)).0)) c.requires.fits
                (subst (λ b. Applies c.self.inside.opened.book.limits None h c.args.job.now c.in_ok-refusal.field-0 b) (sym e.book) a)
                (subst (λ (b : books.Kept). b.limits ≡ c.self.inside.opened.book.limits) (sym e.book) c.apply.ensures.same.limits)
                (subst (λ (b : books.Kept). b.floor ≡ c.self.inside.opened.book.floor) (sym e.book) c.apply.ensures.same.floor) c.in-Placed.is
                e.gathered ungrown e.rest.file (ap (Receipt c.in-Placed.placed.jsn c.in-Placed.placed.leaf) (sym (unstamped n false lane index line)) ∙ sym (ap (answer_for h step) c.in-Placed.is)) (unstamped n false lane index line);
            attended = attends_other n h lane index line c.args.job.now (λ is none. let asks = anchor_wants _ h c.args.job.now _ _ (real_applies None c.self.inside.opened.book _ h c.args.job.now _ p.limits a) is none in let no : ⊥ = cc (asks, c.in-Placed.is) in no);
          },
    )

pub returns-in-StampWanted-clause-judged : goal.returns-in-StampWanted-clause-judged
returns-in-StampWanted-clause-judged g c =
    let n = g.N.Notary.state c.args.notary.now in
    let m = g.N.Notary.state c.anchor.new.notary in
    let nothing : PlacesNothing c.in_ok-refusal.field-0 = subst PlacesNothing (sym c.in-StampWanted.is) tt in
    let job = subst (AsksFor c.args.job.now) c.in-StampWanted.is c.in_ok-refusal.ensures.asked in
    IfOk-weaker c.anchor.result _ _
    (λ answer x. (
      x.0,
      λ h lane index line sink holds.
          let p = subst (λ (k : CommitterState). Keeps k h) (sym c.self.view_is) holds.keeps in
          let y = x.1 h lane index line (keeps_book _ c.apply.new.self h (c.in_ok-refusal.ensures.unchanged nothing) p) in
          subst (λ (j : Job). JudgedBy c.anchor.new.self n m h (step_in n m x.0 lane index line) j answer) (sym job) y,
    ))
    c.anchor.ensures.judged

pub returns-in-StampWanted-clause-unasked : goal.returns-in-StampWanted-clause-unasked
returns-in-StampWanted-clause-unasked g c =
    let nothing : PlacesNothing c.in_ok-refusal.field-0 = subst PlacesNothing (sym c.in-StampWanted.is) tt in
    let job = subst (AsksFor c.args.job.now) c.in-StampWanted.is c.in_ok-refusal.ensures.asked in
    on_err_weaker c.anchor.result
    (λ x. subst (EndsAsking c.args.self.now (g.N.Notary.state c.args.notary.now) (g.N.Notary.state c.anchor.new.notary)) (sym job)
    (elim x [
      | inl y ↦ inl (y.0, λ h lane index line p. y.1 h lane index line (keeps_book _ c.apply.new.self h (c.in_ok-refusal.ensures.unchanged nothing) (subst (λ (k : CommitterState). Keeps k h) (sym c.self.view_is) p)))
      | inr y ↦ inr y
    ]))
    c.anchor.ensures.unasked

pub returns-in-Head-clause-judged : goal.returns-in-Head-clause-judged
returns-in-Head-clause-judged g c =
    let n = g.N.Notary.state c.args.notary.now in
    let m = g.N.Notary.state c.head_reply.new.notary in
    let e = c.in_ok-refusal.ensures in
    let asked = subst (AsksFor c.args.job.now) c.in-Reading.is e.asked in
    let job = asked ∙ ap Ask c.in-Head.is in
    let x = c.head_reply.ensures.told in (
      x.0,
      λ h lane index line sink holds.
          let p = subst (λ (k : CommitterState). Keeps k h) (sym c.self.view_is) holds.keeps in
          let none = none_waits _ h holds.keeps.serves.stands (sym (c.requires.settled (ap closes_before asked)).0) in
          let y = x.1 h lane index line (subst (λ b. Serves b h) (sym (e.unchanged (subst PlacesNothing (sym c.in-Reading.is) tt))) p.serves) none in
          told_judged _ _ n m h (step_in n m x.0 lane index line) c.args.job.now (Ask query.Head) c.in_ok-refusal.field-0 c.in-Reading.query query.Head _ p (e.ok h p.serves) e.unchanged c.in-Reading.is c.in-Head.is job (unstamped_same n m x.0 lane index line y.1.list.list) y,
    )

pub returns-in_ok-get-in-Get-clause-judged : goal.returns-in_ok-get-in-Get-clause-judged
returns-in_ok-get-in-Get-clause-judged g c =
    let n = g.N.Notary.state c.args.notary.now in
    let disks = pair (g.D.Disk.state c.args.a.now) (g.D.Disk.state c.args.b.now) in
    let asked = subst (AsksFor c.args.job.now) c.in-Reading.is c.in_ok-refusal.ensures.asked in
    let nothing : PlacesNothing c.in_ok-refusal.field-0 = subst PlacesNothing (sym c.in-Reading.is) tt in (
      false,
      λ h lane index line sink holds.
          let p = subst (λ (k : CommitterState). Holds g.D.Disk.tells (world k disks sink) h) (sym c.self.view_is) holds in
          let step = step_in n n false lane index line in
          let none = none_waits _ h holds.keeps.serves.stands (sym (c.requires.settled (ap closes_before asked)).0) in
          let there = holds_book g.D.Disk.tells _ c.apply.new.self disks sink h (c.in_ok-refusal.ensures.unchanged nothing) p in
          let a = c.in_ok-refusal.ensures.ok h p.keeps.serves in
          record {
            judged = judged_same_kept _ _ h step c.args.job.now _ _ p.keeps a nothing c.in_ok-refusal.ensures.unchanged ungrown
                (ap Reply (c.in_ok-get-in-Get.ensures.told h sink there none (subst (λ (k : CommitterState). k.ended ≡ 0) (sym c.self.view_is) (c.requires.settled (ap closes_before asked)).1) ∙ ap (told_reply h step) (sym c.in-Get.is)) ∙ sym (ap (answer_for h step) c.in-Reading.is)) (unstamped n false lane index line);
            attended = attends_other n h lane index line c.args.job.now (λ is own. let no : ⊥ = cc (is, asked) in no);
          },
    )

pub returns-in_ok-reply-in-Clue-clause-judged : goal.returns-in_ok-reply-in-Clue-clause-judged
returns-in_ok-reply-in-Clue-clause-judged g c =
    let n = g.N.Notary.state c.args.notary.now in
    let e = c.in_ok-refusal.ensures in
    let asked = subst (AsksFor c.args.job.now) c.in-Reading.is e.asked in
    let nothing : PlacesNothing c.in_ok-refusal.field-0 = subst PlacesNothing (sym c.in-Reading.is) tt in (
      false,
      λ h lane index line sink holds.
          let p = subst (λ (k : CommitterState). Keeps k h) (sym c.self.view_is) holds.keeps in
          let step = step_in n n false lane index line in
          let a = e.ok h p.serves in
          let told = c.in_ok-reply-in-Clue.ensures h step (subst (λ b. Serves b h) (sym (e.unchanged nothing)) p.serves) in
          record {
            judged = judged_same_kept _ _ h step c.args.job.now _ _ p a nothing e.unchanged ungrown
                (ap Reply (told ∙ ap (told_reply h step) (sym c.in-Clue.is)) ∙ sym (ap (answer_for h step) c.in-Reading.is)) (unstamped n false lane index line);
            attended = attends_other n h lane index line c.args.job.now (λ is own. let no : ⊥ = cc (is, asked) in no);
          },
    )

pub returns-in-Refused-clause-gathers : goal.returns-in-Refused-clause-gathers
returns-in-Refused-clause-gathers g c = λ other all.
    subst OpenGathers (sym (c.in_ok-refusal.ensures.unchanged (subst PlacesNothing (sym c.in-Refused.is) tt))) (subst (λ (k : CommitterState). OpenGathers k.book) (sym c.self.view_is) all)

pub returns-in-Again-clause-gathers : goal.returns-in-Again-clause-gathers
returns-in-Again-clause-gathers g c = λ other all.
    subst OpenGathers (sym (c.in_ok-refusal.ensures.unchanged (subst PlacesNothing (sym c.in-Again.is) tt))) (subst (λ (k : CommitterState). OpenGathers k.book) (sym c.self.view_is) all)

pub returns-in-Head-clause-gathers : goal.returns-in-Head-clause-gathers
returns-in-Head-clause-gathers g c = λ other all.
    subst OpenGathers (sym (c.in_ok-refusal.ensures.unchanged (subst PlacesNothing (sym c.in-Reading.is) tt))) (subst (λ (k : CommitterState). OpenGathers k.book) (sym c.self.view_is) all)

pub returns-in_ok-get-in-Get-clause-gathers : goal.returns-in_ok-get-in-Get-clause-gathers
returns-in_ok-get-in-Get-clause-gathers g c = λ other all.
    subst OpenGathers (sym (c.in_ok-refusal.ensures.unchanged (subst PlacesNothing (sym c.in-Reading.is) tt))) (subst (λ (k : CommitterState). OpenGathers k.book) (sym c.self.view_is) all)

pub returns-in_ok-reply-in-Clue-clause-gathers : goal.returns-in_ok-reply-in-Clue-clause-gathers
returns-in_ok-reply-in-Clue-clause-gathers g c = λ other all.
    subst OpenGathers (sym (c.in_ok-refusal.ensures.unchanged (subst PlacesNothing (sym c.in-Reading.is) tt))) (subst (λ (k : CommitterState). OpenGathers k.book) (sym c.self.view_is) all)

pub returns-in_ok-gather_placed-in-Placed-clause-gathers : goal.returns-in_ok-gather_placed-in-Placed-clause-gathers
returns-in_ok-gather_placed-in-Placed-clause-gathers g c = λ other all.
    subst OpenGathers (sym c.in_ok-gather_placed-in-Placed.ensures.book) (c.in_ok-refusal.ensures.gathers other (subst (λ (k : CommitterState). OpenGathers k.book) (sym c.self.view_is) all))

pub returns-in-StampWanted-clause-gathers : goal.returns-in-StampWanted-clause-gathers
returns-in-StampWanted-clause-gathers g c =
    let job = subst (AsksFor c.args.job.now) c.in-StampWanted.is c.in_ok-refusal.ensures.asked in
    on_ok_all c.anchor.result (λ other. absurd (let no : ⊥ = cc (sym (ap closes_after job) ∙ other) in no))

pub returns-in_err-refusal-clause-unasked : goal.returns-in_err-refusal-clause-unasked
returns-in_err-refusal-clause-unasked g c = on_err_all c.from_residual.result (ends_untouched c.args.self.now (g.N.Notary.state c.args.notary.now) c.args.job.now)

pub returns-in_err-gather_placed-in-Placed-clause-unasked : goal.returns-in_err-gather_placed-in-Placed-clause-unasked
returns-in_err-gather_placed-in-Placed-clause-unasked g c = on_err_all c.from_residual-in_err-gather_placed-in-Placed.result (ends_untouched c.args.self.now (g.N.Notary.state c.args.notary.now) c.args.job.now)

pub returns-in_err-get-in-Get-clause-unasked : goal.returns-in_err-get-in-Get-clause-unasked
returns-in_err-get-in-Get-clause-unasked g c = on_err_all c.from_residual-in_err-get-in-Get.result (ends_untouched c.args.self.now (g.N.Notary.state c.args.notary.now) c.args.job.now)

pub returns-in_err-reply-in-Clue-clause-unasked : goal.returns-in_err-reply-in-Clue-clause-unasked
returns-in_err-reply-in-Clue-clause-unasked g c = on_err_all c.from_residual-in_err-reply-in-Clue.result (ends_untouched c.args.self.now (g.N.Notary.state c.args.notary.now) c.args.job.now)

pub returns-in_ok-reply-in-Prove-clause-judged : goal.returns-in_ok-reply-in-Prove-clause-judged
returns-in_ok-reply-in-Prove-clause-judged g c =
    let n = g.N.Notary.state c.args.notary.now in
    let m = g.N.Notary.state c.proof_of.new.notary in
    let e = c.in_ok-refusal.ensures in
    let job = subst (AsksFor c.args.job.now) c.in-Reading.is e.asked ∙ ap Ask c.in-Prove.is in
    let x = c.in_ok-reply-in-Prove.ensures.told in (
      x.0,
      λ h lane index line sink holds.
          let p = subst (λ (k : CommitterState). Keeps k h) (sym c.self.view_is) holds.keeps in
          let a = e.ok h p.serves in
          let accepted = asked_accepted real_limits h c.args.job.now _ c.in-Reading.query _ (real_applies None c.self.inside.opened.book _ h c.args.job.now _ p.limits a) c.in-Reading.is in
          let y = x.1 h lane index line (subst (λ b. Serves b h) (sym (e.unchanged (subst PlacesNothing (sym c.in-Reading.is) tt))) p.serves) (subst (λ (j : Job). own_refusal real_limits h j ≡ None) job accepted) in
          told_judged _ _ n m h (step_in n m x.0 lane index line) c.args.job.now (Ask (query.Prove c.in-Prove.n)) c.in_ok-refusal.field-0 c.in-Reading.query (query.Prove c.in-Prove.n) _ p a e.unchanged c.in-Reading.is c.in-Prove.is job (unstamped_same n m x.0 lane index line y.1.list.list) y,
    )

pub returns-in_err-reply-in-Prove-clause-unasked : goal.returns-in_err-reply-in-Prove-clause-unasked
returns-in_err-reply-in-Prove-clause-unasked g c =
    let n = g.N.Notary.state c.args.notary.now in
    let m = g.N.Notary.state c.proof_of.new.notary in
    let job = subst (AsksFor c.args.job.now) c.in-Reading.is c.in_ok-refusal.ensures.asked ∙ ap Ask c.in-Prove.is in
    on_err_all c.from_residual-in_err-reply-in-Prove.result
    (inl (false, λ h lane index line p. subst (λ (j : Job). Attended n m h (step_in n m false lane index line) j) (sym job) (c.in_err-reply-in-Prove.ensures.err h lane index line)))

pub returns-in_ok-reply-in-Extend-clause-judged : goal.returns-in_ok-reply-in-Extend-clause-judged
returns-in_ok-reply-in-Extend-clause-judged g c =
    let n = g.N.Notary.state c.args.notary.now in
    let m = g.N.Notary.state c.extension_of.new.notary in
    let e = c.in_ok-refusal.ensures in
    let job = subst (AsksFor c.args.job.now) c.in-Reading.is e.asked ∙ ap Ask c.in-Extend.is in
    let x = c.in_ok-reply-in-Extend.ensures.told in (
      x.0,
      λ h lane index line sink holds.
          let p = subst (λ (k : CommitterState). Keeps k h) (sym c.self.view_is) holds.keeps in
          let a = e.ok h p.serves in
          let accepted = asked_accepted real_limits h c.args.job.now _ c.in-Reading.query _ (real_applies None c.self.inside.opened.book _ h c.args.job.now _ p.limits a) c.in-Reading.is in
          let y = x.1 h lane index line (subst (λ b. Serves b h) (sym (e.unchanged (subst PlacesNothing (sym c.in-Reading.is) tt))) p.serves) (subst (λ (j : Job). own_refusal real_limits h j ≡ None) job accepted) in
          told_judged _ _ n m h (step_in n m x.0 lane index line) c.args.job.now (Ask (query.Extend c.in-Extend.which c.in-Extend.m)) c.in_ok-refusal.field-0 c.in-Reading.query (query.Extend c.in-Extend.which c.in-Extend.m) _ p a e.unchanged c.in-Reading.is c.in-Extend.is job (unstamped_same n m x.0 lane index line y.1.list.list) y,
    )

pub returns-in_err-reply-in-Extend-clause-unasked : goal.returns-in_err-reply-in-Extend-clause-unasked
returns-in_err-reply-in-Extend-clause-unasked g c =
    let n = g.N.Notary.state c.args.notary.now in
    let m = g.N.Notary.state c.extension_of.new.notary in
    let job = subst (AsksFor c.args.job.now) c.in-Reading.is c.in_ok-refusal.ensures.asked ∙ ap Ask c.in-Extend.is in
    on_err_all c.from_residual-in_err-reply-in-Extend.result
    (inl (false, λ h lane index line p. subst (λ (j : Job). Attended n m h (step_in n m false lane index line) j) (sym job) (c.in_err-reply-in-Extend.ensures.err h lane index line)))

pub returns-in_ok-gather_placed-in-Placed-clause-order : goal.returns-in_ok-gather_placed-in-Placed-clause-order
returns-in_ok-gather_placed-in-Placed-clause-order g c = λ all.
    c.in_ok-gather_placed-in-Placed.ensures.order (order_at (the_view c.self.inside) c.args.self.now c.self.view_is all)

pub returns-in-StampWanted-clause-order : goal.returns-in-StampWanted-clause-order
returns-in-StampWanted-clause-order g c =
    on_ok_then c.anchor.result (λ order all. order (order_at (the_view c.self.inside) c.args.self.now c.self.view_is all)) c.anchor.ensures.order
