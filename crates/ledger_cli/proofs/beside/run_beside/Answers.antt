use Rattle.std.proofs.Common.{arith, ◌≡◌, List, [], length, refl, sym, subst, ap, ◌∙◌, vec_items}
use Rattle.std.specs.Prelude.{All}
use Rattle.batch_committer.specs.World.{pair}
use mathlib.Core.List.{IsPrefix}
use Rattle.std.proofs.lemmas.Option.{same_Some}
use Rattle.std.proofs.lemmas.List.Elements.{All-nil}
use Rattle.ledger_model.specs.History.{History, journals, leaf_digest}
use Rattle.ledger_book.specs.Books.{Kept, Serves, leaf_digests}
use Rattle.proof_board.specs.Words.{seen_by, shown_by, IsPassOf}
use Rattle.proof_board.specs.declared.pass.ProverPass.{ProverPass}
use Rattle.proof_board.proofs.Paired.{back_on_board}
use Rattle.std.specs.Prelude.{Result}
use Rattle.std.proofs.lemmas.List.{length-map}
use Rattle.sha2.specs.Sha256.{sha256}
use Rattle.merkle_batch.specs.Rows.{StandsFor}
use Rattle.ledger_bytes.specs.declared.failure.NoMemory.{NoMemory}
use Rattle.proof_board.specs.declared.hands.Returned.{Returned}
use Rattle.proof_board.specs.declared.hands.Tally.{Tally}
use Rattle.ledger_cli.specs.Beside.{AllAccepted, posted_by}
use Rattle.ledger_cli.specs.Runs.{handed, outside_of}
use Rattle.ledger_cli.specs.Boards.{Lasting, lasting, published_size}
use Rattle.ledger_cli.proofs.BesideLaws.{beside_nothing, beside_lines, beside_told, book_kept}
use Rattle.ledger_cli.proofs.BoardLaws.{all_accepted, digests_wide, told_nothing}
use Rattle.ledger_cli.proofs.SizeLaws.{IsSeenIn, all_seen, list_is}
use Rattle.ledger_cli.proofs.beside.run_beside.Goals as goal

pub returns-in_default : goal.returns-in_default
returns-in_default g c = beside_nothing _ g.D.Disk.tells _ c.args.provers c.args.orders.count (g.S.Source.state c.args.source.now) (g.N.Notary.state c.args.notary.now) c.requires.room (c.requires.none, c.requires.fits.clear c.requires.none)

pub close-requires-clause-writer : goal.close-requires-clause-writer
close-requires-clause-writer g c = book_kept (posted_by c.run_lent-met.new.follower) (posted_by c.in-Ok.boarded.posting) c.run_lent-met.ensures.same ∙ c.in-Ok.ensures.writer

pub close-requires-clause-passes : goal.close-requires-clause-passes
close-requires-clause-passes g c =
    let board = c.in-Ok.boarded.board in
    subst (λ (l : List ProverPass). All (IsPassOf board) l) (sym c.of-passes.ensures.passes)
    (back_on_board board c.args.orders.count (vec_items c.in-Ok.boarded.passes) (vec_items c.run_lent-met.result.1) c.run_lent-met.ensures.provers)

pub returns : goal.returns
returns g c =
    let b = c.in-Ok.boarded in
    let first = c.in-Ok.ensures in
    let ran = c.run_lent-met.ensures in
    let shown = shown_by b.posting.writer in
    let returned = vec_items c.run_lent-met.result.1 in
    let long : length returned ≡ c.args.provers = omega (arith, c.run_lent-met.result.1.ok, ran.len, first.len) in
    let many : length (vec_items c.of-passes.result.tallies) ≡ c.args.provers =
    ap length c.of-passes.ensures.tallies ∙ length-map {B = Result Tally NoMemory} returned (λ (r : Returned). r.tally) ∙ long in
    let x = c.run_lent-met.new in
    let last = shown_by x.follower.writer in
    let before = handed (g.S.Source.state c.args.source.now) (g.K.Sink.state c.args.sink.now) (pair (g.D.Disk.state c.args.a.now) (g.D.Disk.state c.args.b.now)) (g.N.Notary.state c.args.notary.now) in
    let mid = handed (g.S.Source.state x.source) (g.K.Sink.state x.sink) (pair (g.D.Disk.state x.a) (g.D.Disk.state x.b)) (g.N.Notary.state x.notary) in
    let now = handed (g.S.Source.state x.source) (g.K.Sink.state c.tell_provers.new.sink) (pair (g.D.Disk.state x.a) (g.D.Disk.state x.b)) (g.N.Notary.state x.notary) in
    let same : lasting (posted_by x.follower) ≡ lasting (posted_by b.posting) = same_Some _ _ ran.same in
    let tallies_are = c.as_slice.ensures.value ∙ c.of-passes.ensures.tallies in
    let sized : x.follower.size ≡ published_size last = x.follower.sized in
    let is_list = λ (h : History) (p : StandsFor sha256 c.opened.result.now.book.tree (leaf_digests h)). first.lists (leaf_digests h) p (digests_wide h) in
    let stands = λ (h : History) (serves : Serves _ h). subst (λ (k : Kept). StandsFor sha256 k.tree (leaf_digests h)) (sym c.opened.ensures.book) serves.stands.tree.leaves in
    beside_lines _ g.D.Disk.tells _ c.args.provers c.args.orders.count c.run_lent-met.result.0 c.tell_provers.result before mid now (posted_by b.posting) (posted_by x.follower)
    (ap (λ (k : Kept). k.floor) (sym c.opened.ensures.book) ∙ sym first.floor) same first.begins.0 first.begins.1
    (λ h p. list_is shown.base shown.at.log (leaf_digests h) (is_list h (stands h p.keeps.serves)) ∙ length-map (journals h) leaf_digest)
    ran.ran ran.unrefused refl refl
    c.as_slice.result.now x.follower.size c.if-not-is_done.ensures (ap length c.as_slice.ensures.value ∙ many)
    (λ h p.
    subst (AllAccepted c.args.orders.count) (sym tallies_are)
    (all_accepted b.board c.args.orders.count shown (leaf_digests h) (is_list h (stands h p.keeps.serves)) (vec_items b.passes) returned first.passes ran.provers))
    (λ ts are.
    all_seen b.board c.args.orders.count shown last (let one = first.begins.0 in omega (arith, one)) (ap (λ (l : Lasting). l.base) same) (vec_items b.passes) returned ts first.passes ran.provers
    (subst (λ (l : List ProverPass). All (λ p. IsPrefix (seen_by p).log last.at.log) l) c.of-passes.ensures.passes c.close.ensures) (sym tallies_are ∙ are))
    sized
    (c.tell_provers.ensures (g.S.Source.state x.source))

-- the script's run isn't done: nothing more is written
pub returns-then-not-is_done : goal.returns-then-not-is_done
returns-then-not-is_done g c =
    let b = c.in-Ok.boarded in
    let first = c.in-Ok.ensures in
    let ran = c.run_lent-met.ensures in
    let shown = shown_by b.posting.writer in
    let x = c.run_lent-met.new in
    let last = shown_by x.follower.writer in
    let before = handed (g.S.Source.state c.args.source.now) (g.K.Sink.state c.args.sink.now) (pair (g.D.Disk.state c.args.a.now) (g.D.Disk.state c.args.b.now)) (g.N.Notary.state c.args.notary.now) in
    let mid = handed (g.S.Source.state x.source) (g.K.Sink.state x.sink) (pair (g.D.Disk.state x.a) (g.D.Disk.state x.b)) (g.N.Notary.state x.notary) in
    let same : lasting (posted_by x.follower) ≡ lasting (posted_by b.posting) = same_Some _ _ ran.same in
    let sized : x.follower.size ≡ published_size last = x.follower.sized in
    let is_list = λ (h : History) (p : StandsFor sha256 c.opened.result.now.book.tree (leaf_digests h)). first.lists (leaf_digests h) p (digests_wide h) in
    let stands = λ (h : History) (serves : Serves _ h). subst (λ (k : Kept). StandsFor sha256 k.tree (leaf_digests h)) (sym c.opened.ensures.book) serves.stands.tree.leaves in
    beside_told _ g.D.Disk.tells _ c.args.provers c.args.orders.count c.run_lent-met.result.0 c.run_lent-met.result.0 before mid mid (posted_by b.posting) (posted_by x.follower)
    (ap (λ (k : Kept). k.floor) (sym c.opened.ensures.book) ∙ sym first.floor) same first.begins.0 first.begins.1
    (λ h p. list_is shown.base shown.at.log (leaf_digests h) (is_list h (stands h p.keeps.serves)) ∙ length-map (journals h) leaf_digest)
    ran.ran ran.unrefused refl refl
    [] x.follower.size sized (All-nil (IsSeenIn last))
    (told_nothing _ c.args.provers c.args.orders.count [] x.follower.size c.run_lent-met.result.0 (outside_of mid) c.if-not-is_done.ensures)
