use Rattle.std.proofs.Common.{sym, ap, ◌∙◌, ◌-◌, ℕ, List, length}
use Rattle.std.specs.Prelude.{slice_get}
use Rattle.notary_ledger.proofs.LocalLaws.{last_at}
use Rattle.notary_ledger.proofs.list.Entries.last_time.Goals as goal

pub returns-in-Some : goal.returns-in-Some
returns-in-Some c =
    let same = c.as_slice.ensures.value ∙ ap (λ v. v.entries) c.self.view_is in
    c.time_of.ensures ∙ sym (last_at c.args.self.now.entries c.in-Some.entry.now (c.in-Some.ensures.value ∙ ap (λ (l : List (List ℕ)). slice_get l (length l - 1)) same))
