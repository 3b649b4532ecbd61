use Rattle.audit_words.proofs.TakenLaws.{asked_unless, taken_is_found}
use Rattle.audit_words.proofs.WordLaws.{script_asked, dump_asked, lineage_asked, plain_strip, plain_dashes}
use Rattle.audit_words.proofs.words.words_are_read.Goals as goal

pub returns-clause-script : goal.returns-clause-script
returns-clause-script c = script_asked

pub returns-clause-dump : goal.returns-clause-dump
returns-clause-dump _ a b c d e p q r s t =
    dump_asked a b c d e (plain_strip a p) (plain_strip b q) (plain_strip c r) (plain_strip d s) (plain_strip e t)
    (plain_dashes a p) (plain_dashes b q) (plain_dashes c r) (plain_dashes d s) (plain_dashes e t)

pub returns-clause-lineage : goal.returns-clause-lineage
returns-clause-lineage _ a b c p q r = lineage_asked a b c (plain_strip a p) (plain_strip b q) (plain_strip c r) (plain_dashes a p) (plain_dashes b q) (plain_dashes c r)

pub returns-clause-refused : goal.returns-clause-refused
returns-clause-refused _ words = asked_unless _ _ (taken_is_found words)
