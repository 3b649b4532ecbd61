-- Lemmas on jobs as a line makes them.
use Rattle.std.proofs.Common.{◌≡◌, ℕ, List, Result, ap, sym, ◌∙◌}
use Rattle.ledger_bytes.specs.declared.refusal.Refusal.{Refusal}
use Rattle.script_lines.specs.Grammar.{spoken_line}
use Rattle.script_lines.specs.declared.line.Line.{Line}
use Rattle.ledger_model.specs.Rules.{job_for, job_of}
use Rattle.ledger_model.specs.Scheme.{Scheme}

-- the job of a line as it was read
pub job_asked : (scheme : Scheme) (id line : List ℕ) (lane : ℕ) (what got : Result Line Refusal) → (let said : ℕ × Result Line Refusal = (lane, what) in said ≡ spoken_line line) → what ≡ got
    → job_for scheme id got ≡ job_of scheme id line
unfolding job_of
job_asked scheme id line lane what got read is = ap (job_for scheme id) (sym is ∙ ap (λ (said : ℕ × Result Line Refusal). said.1) read)
