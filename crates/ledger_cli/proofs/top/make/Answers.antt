use Rattle.std.proofs.Common.{List, ℕ, ◌++◌, ap, ◌∙◌}
use Rattle.std.specs.Prelude.{codes, decimal, [], ◌∷◌}
use Rattle.script_lines.specs.Words.{hex_of}
use Rattle.ledger_cli.specs.Endings.{line_of}
use Rattle.ledger_cli.proofs.OpeningLaws.{founding_left, not_made, made_unspelled, made_told, made_failed, ledger_line_is, new_serves}
use Rattle.ledger_cli.proofs.top.make.Goals as goal

pub returns-in-Err : goal.returns-in-Err
returns-in-Err g c = λ source notary.
    let e = c.in-Err.ensures in
    rw c.from.ensures (not_made _ g.D.Disk.tells source _ notary _ _ e.left (λ t. founding_left _ _ _ (e.synced t)) c.in-Err.e e.err e.exists e.same e.faults)

pub returns-in_default : goal.returns-in_default
returns-in_default g c = λ source notary.
    let e = c.in-Ok.ensures in
    made_unspelled _ g.D.Disk.tells source _ notary _ _ e.left (λ t. founding_left _ _ _ (e.synced t)) e.faults.0 e.faults.1 e.founded e.shut

pub returns : goal.returns
returns g c = λ source notary.
    let e = c.in-Ok.ensures in
    let first = hex_of c.id-id.result in
    let piece = c.as_slice.ensures.value ∙ c.in-Ok-put_line.ensures ∙ ap (λ (l : List ℕ). l ++ line_of (codes "ledger") (first ∷ decimal 1 ∷ first ∷ [])) c.new-line.ensures.items
    ∙ ledger_line_is c.args.genesis.now c.id-id.result (c.id-id.ensures _ (new_serves c.args.genesis.now e.ok.0).stands) in
    made_failed _ g.D.Disk.tells source _ notary _ _ e.left (λ t. founding_left _ _ _ (e.synced t)) e.faults.0 e.faults.1 e.founded e.shut _ c.in-Err-write_all.field-0 c.as_slice.result.now piece c.in-Err-write_all.ensures.taken c.in-Err-write_all.ensures.once

pub returns-in-Ok-write_all : goal.returns-in-Ok-write_all
returns-in-Ok-write_all g c = λ source notary.
    let e = c.in-Ok.ensures in
    let first = hex_of c.id-id.result in
    let piece = c.as_slice.ensures.value ∙ c.in-Ok-put_line.ensures ∙ ap (λ (l : List ℕ). l ++ line_of (codes "ledger") (first ∷ decimal 1 ∷ first ∷ [])) c.new-line.ensures.items
    ∙ ledger_line_is c.args.genesis.now c.id-id.result (c.id-id.ensures _ (new_serves c.args.genesis.now e.ok.0).stands) in
    made_told _ g.D.Disk.tells source _ notary _ _ e.left (λ t. founding_left _ _ _ (e.synced t)) e.faults.0 e.faults.1 e.founded e.shut _ c.as_slice.result.now piece c.in-Ok-write_all.ensures.ok c.in-Ok-write_all.ensures.once
