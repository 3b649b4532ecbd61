use Rattle.std.proofs.Common.{rules, arith, get_or}
use Rattle.journal_record.proofs.ReadingSteps.{kind_code}
use Rattle.journal_record.proofs.WholeLaws.{spelled}
use Rattle.journal_record.proofs.whole.read_whole.Goals as goal

pub returns-then-keeps_rules : goal.returns-then-keeps_rules
returns-then-keeps_rules c = (
  c.keeps_rules.ensures.0 c.if-keeps_rules.true,
  search rules,
  spelled c.args.bytes.now (λ i. omega (arith, c.type_inv.bytes i)) (search rules) _ (record {
    version = search rules;
    kind = kind_code (get_or c.args.bytes.now 1 0) c.in_ok-kind_of.field-0 (search rules);
    jsn = search rules;
    member = search rules;
    clue = search rules;
    clue_ord = search rules;
    clue_prev = search rules;
    a = search rules;
    b = search rules;
    link = search rules;
    content_len = search rules;
    content_digest = search rules;
    who_digest = search rules;
  }),
)
