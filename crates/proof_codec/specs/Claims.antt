-- What a proof claims.
use Rattle.std.specs.Prelude.{option_map}
use Rattle.journal_record.specs.declared.header.Header.{Header}
use Rattle.ledger_bytes.specs.declared.mark.TimeMark.{TimeMark}
use Rattle.proof_codec.specs.declared.claim.Claim.{Claim}
use Rattle.proof_codec.specs.Proofs.{ShownLower, ShownUpper, Shown}

-- the mark that a time journal's header leaves
abbrev pub mark_of : Header → TimeMark
mark_of h = record { jsn = h.jsn; index = h.a; time = h.b }

-- the mark of the bound in front
abbrev pub lower_mark : ShownLower → TimeMark
lower_mark l = mark_of l.header

-- the mark of the bound behind
abbrev pub upper_mark : ShownUpper → TimeMark
upper_mark u = u.mark

-- what a proof claims: a journal, its leaf digest, and the marks of its bounds
abbrev pub claim_of : Shown → Claim
claim_of p = record { n = p.n; leaf = p.leaf; lo = option_map lower_mark p.lo; hi = option_map upper_mark p.hi }
