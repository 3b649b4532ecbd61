use Rattle.std.proofs.Common.{◌≡◌, ap, ◌∙◌, ◌++◌, ◌∷◌, [], List, ℕ, length, take, drop, append_assoc}
use Rattle.std.proofs.lemmas.List.{flat_map_more}
use Rattle.block_file.specs.Writing.{BlockBytes, ended_blocks}
use Rattle.block_file.proofs.WriterLaws.{next_before, next_body}
use Rattle.block_file.proofs.writer.BlockWriter.begin_next.Goals as goal

pub returns-clause-before : goal.returns-clause-before
returns-clause-before c =
    let items = c.extend_from_slice.new.self.items in
    let size : c.len-self-inside.result ≡ length items = c.len-self-inside.ensures ∙ c.extend_from_slice.new.self.ok.0 in
    ap (λ (n : ℕ). take n items) size ∙ next_before c.self.inside.begins c.self.inside.bytes.items items c.in_ok-extend_from_slice.ensures.items
    ∙ ap (λ (b : BlockBytes). b.before ++ (b.head ++ b.body) ++ 1 ∷ []) c.self.view_is

pub returns-clause-ended : goal.returns-clause-ended
returns-clause-ended c ended is =
    let block = c.args.self.now.head ++ c.args.self.now.body in
    returns-clause-before c ∙ ap (λ (l : List ℕ). l ++ block ++ 1 ∷ []) is ∙ append_assoc ([] ++ ended_blocks ended) block (1 ∷ []) ∙ flat_map_more (λ (b : List ℕ). b ++ 1 ∷ []) [] ended block

pub returns-clause-body : goal.returns-clause-body
returns-clause-body c =
    let items = c.extend_from_slice.new.self.items in
    let size : c.len-self-inside.result ≡ length items = c.len-self-inside.ensures ∙ c.extend_from_slice.new.self.ok.0 in
    ap (λ (n : ℕ). drop 44 (drop n items)) size ∙ next_body items
