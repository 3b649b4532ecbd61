use Rattle.audit_cli.proofs.PlainWords.{dump_made, lineage_made, script_made}
use Rattle.audit_cli.proofs.laws.words_make_commands.Goals as goal

pub returns-clause-script : goal.returns-clause-script
returns-clause-script c = script_made

pub returns-clause-dump : goal.returns-clause-dump
returns-clause-dump _ id_word size root notary_size notary_root id ledger notary id_is ledger_is notary_is =
    dump_made id_word size root notary_size notary_root id ledger notary id_is ledger_is notary_is

pub returns-clause-lineage : goal.returns-clause-lineage
returns-clause-lineage _ name_word size root name head plain name_is head_is = lineage_made name_word size root name head plain name_is head_is
