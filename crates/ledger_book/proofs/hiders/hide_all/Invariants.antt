use Rattle.std.proofs.Common.{◌≡◌, take}
use Rattle.std.specs.Prelude.{vec_len}
use Rattle.ledger_book.specs.Hiders.{hidden_all}
use Rattle.ledger_book.proofs.hiders.hide_all.Given as goal

abbrev pub invariant-loop-target : goal.invariant-loop-target
invariant-loop-target l = (l.hiders.items ≡ hidden_all l.fn.floor l.fn.jsn (take l.target-index l.targets) l.fn.hiders.items) × (vec_len l.hiders ≡ vec_len l.fn.hiders)
