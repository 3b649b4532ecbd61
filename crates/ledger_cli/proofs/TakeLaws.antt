-- Lemmas on the errors that end a session.
use Rattle.std.proofs.Common.{◌≡◌, Result, Ok, Err, None, refl, sym, subst}
use Rattle.std.specs.Result.{IsErrAnd}
use Rattle.std.specs.Prelude.{OnOk, IfErr}
use Rattle.batch_committer.specs.declared.failure.CommitErr.{CommitErr}
use Rattle.batch_committer.specs.declared.failure.CommitErr.TheVariants as end
use Rattle.ledger_cli.specs.Endings.{ending_of_end, refusal_of}

-- an error that is this one
pub ends_as : {T E : Type 0} (IsSo : E → Type 0) (result : Result T E) (wanted : E) → IsErrAnd result (λ error. error ≡ wanted) → IsSo wanted → IfErr result IsSo
ends_as IsSo (Ok value) wanted is so = tt
ends_as IsSo (Err error) wanted is so = subst IsSo (sym is) so

-- what is promised of an end without error asks nothing of an error
pub not_done : {T E : Type 0} (X : Type 0) (P : E → Type 0) (result : Result T E) → IsErrAnd result P → OnOk result X
not_done X P (Ok value) is = absurd is
not_done X P (Err error) is = tt

-- an end of a committer tells no refusal
pub end_of_lines : (why : CommitErr) → refusal_of (ending_of_end why) ≡ None
end_of_lines end.DiskFault = refl
end_of_lines end.WriteFault = refl
end_of_lines end.NoMemory = refl
end_of_lines end.Closed = refl
