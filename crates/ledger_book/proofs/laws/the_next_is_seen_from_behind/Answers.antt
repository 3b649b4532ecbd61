use Rattle.std.proofs.Common.{length-take, take, take-append-drop, sym, subst, ap, arith}
use Rattle.pseudo_genesis.specs.declared.base.Base.{Base}
use Rattle.ledger_model.specs.History.{journals}
use Rattle.ledger_model.specs.Lawful.{AreLawful}
use Rattle.ledger_book.proofs.SeenLaws.{next_behind, behind_next, all_behind}
use Rattle.ledger_book.proofs.laws.the_next_is_seen_from_behind.Goals as goal

pub returns-clause-seen : goal.returns-clause-seen
returns-clause-seen c = λ h b x i next begins.
    next_behind h b i.lawful i.some i.within (sym (ap (λ (y : Base). y.keys) i.base_is)) (sym (ap (λ (y : Base). y.clues) i.base_is)) x next begins

pub returns-clause-exact : goal.returns-clause-exact
returns-clause-exact c = λ h b x i seen next.
    behind_next h b i.lawful i.some i.within (sym (ap (λ (y : Base). y.keys) i.base_is)) (sym (ap (λ (y : Base). y.clues) i.base_is)) seen x next

pub returns-clause-all : goal.returns-clause-all
returns-clause-all c = λ h b i first.
    all_behind b (take b.point (journals h)) i.some (omega (arith, length-take b.point (journals h), i.within)) (sym (ap (λ (y : Base). y.keys) i.base_is)) (sym (ap (λ (y : Base). y.clues) i.base_is))
    _ (subst AreLawful (sym (take-append-drop b.point (journals h))) i.lawful) first
