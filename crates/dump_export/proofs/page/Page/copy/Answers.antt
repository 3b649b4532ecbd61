use Rattle.std.specs.Prelude.{min}
use Rattle.std.proofs.Common.{rules, ◌≡◌, ◌+◌, ◌-◌, ℕ, List, length, take, drop, ◌∙◌}
use Rattle.dump_export.proofs.Paging.{cut_short, paged}
use Rattle.dump_export.proofs.page.Page.copy.Goals as goal

pub returns-in-Ok-clause-bytes : goal.returns-in-Ok-clause-bytes
returns-in-Ok-clause-bytes c file is =
    let page = c.args.self.now in
    let bytes : List ℕ = page.bytes.items in
    let front : ℕ = c.args.at - page.at in
    let got : c.in-Ok.piece.items ≡ take (c.min-to.result - c.min-from.result) (drop c.min-from.result bytes) = search rules in
    let begins : c.min-from.result ≡ min front (length bytes) = search rules in
    let ends : c.min-to.result ≡ min (front + c.args.len) (length bytes) = search rules in
    got ∙ cut_short bytes front c.args.len c.min-from.result c.min-to.result begins ends ∙ paged page file c.args.at c.args.len is c.requires.front c.requires.end
