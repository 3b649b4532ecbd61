use Rattle.std.proofs.Common.{arith, map, sym, ◌∙◌}
use Rattle.std.proofs.lemmas.List.{length-map}
use Rattle.merkle_batch.proofs.Climbing.{on_ok, on_both}
use Rattle.merkle_batch.proofs.Peaking.{none_counts, none_room, none_keeps, in_front, more_counts, more_room, more_keeps}
use Rattle.merkle_batch.proofs.Over.{none_over, more_over}
use Rattle.merkle_batch.proofs.rows.+rows_of.Goals as goal

pub returns-then-p-eq0-clause-counts : goal.returns-then-p-eq0-clause-counts
returns-then-p-eq0-clause-counts g t c = none_counts c.args.p c.args.rows.now.items c.if-p-eq0.true

pub returns-then-p-eq0-clause-room : goal.returns-then-p-eq0-clause-room
returns-then-p-eq0-clause-room g t c = none_room c.args.rows.now.items

pub returns-then-p-eq0-clause-keeps : goal.returns-then-p-eq0-clause-keeps
returns-then-p-eq0-clause-keeps g t c hash ds len is = none_keeps hash c.args.p c.args.rows.now.items ds c.if-p-eq0.true len

pub returns-clause-front : goal.returns-clause-front
returns-clause-front g t c =
    on_ok c.rows_of.result (λ front. in_front c.args.rows.now.items c.push.new.self.items c.rows_of.new.rows.items c.take_peak.new.row c.in_ok-push.ensures.items front) c.rows_of.ensures.front

pub returns-clause-counts : goal.returns-clause-counts
returns-clause-counts g t c =
    on_both c.rows_of.result (λ front above.
    more_counts c.args.rows.now.items c.push.new.self.items c.rows_of.new.rows.items c.take_peak.new.row c.in_ok-push.ensures.items front c.args.p c.in_ok-rest.ensures.len above)
    c.rows_of.ensures.front c.rows_of.ensures.counts

pub returns-clause-room : goal.returns-clause-room
returns-clause-room g t c =
    on_both c.rows_of.result (λ front above.
    more_room c.args.rows.now.items c.push.new.self.items c.rows_of.new.rows.items c.take_peak.new.row c.in_ok-push.ensures.items front c.args.p c.in_ok-rest.ensures.len c.in_ok-rest.ensures.room above)
    c.rows_of.ensures.front c.rows_of.ensures.room

pub returns-clause-keeps : goal.returns-clause-keeps
returns-clause-keeps g t c =
    on_both c.rows_of.result (λ front above hash ds len is.
    more_keeps c.args.rows.now.items c.push.new.self.items c.rows_of.new.rows.items c.take_peak.new.row c.in_ok-push.ensures.items front c.args.p c.in_ok-rest.ensures.len
    hash ds (map (λ d. d.0) c.args.peaks.now) (map (λ d. d.0) c.in_ok-rest.rest.now) len is
    (λ some. c.in_ok-rest.ensures.parts (omega (arith, some, length-map c.args.peaks.now (λ d. d.0))))
    (λ half up. above hash _ half up))
    c.rows_of.ensures.front c.rows_of.ensures.keeps

pub returns-then-p-eq0-clause-over : goal.returns-then-p-eq0-clause-over
returns-then-p-eq0-clause-over g t c hash ones =
    none_over hash c.args.p c.args.rows.now.items (map (λ d. d.0) c.args.peaks.now) c.if-p-eq0.true (length-map c.args.peaks.now (λ d. d.0) ∙ ones)

pub returns-clause-over : goal.returns-clause-over
returns-clause-over g t c =
    on_both c.rows_of.result (λ front above hash ones.
    more_over hash c.args.p c.args.rows.now.items c.push.new.self.items c.rows_of.new.rows.items c.take_peak.new.row (map (λ d. d.0) c.args.peaks.now) (map (λ d. d.0) c.in_ok-rest.rest.now)
    c.in_ok-push.ensures.items front c.in_ok-rest.ensures.len
    (λ some. c.in_ok-rest.ensures.parts (omega (arith, some, length-map c.args.peaks.now (λ d. d.0))))
    (λ half. above hash (sym (length-map c.in_ok-rest.rest.now (λ d. d.0)) ∙ half))
    (length-map c.args.peaks.now (λ d. d.0) ∙ ones))
    c.rows_of.ensures.front c.rows_of.ensures.over
