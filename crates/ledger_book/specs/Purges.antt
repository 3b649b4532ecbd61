-- What is known of the journal that a purge names, and whose records it takes.
use Rattle.std.specs.Prelude.{◌≡◌, ℕ, ◌<◌, ◌≤◌, List, ◌∷◌, map, filter}
use Rattle.ledger_bytes.specs.Digests.{digest}
use Rattle.journal_record.specs.declared.header.Header.{Header}
use Rattle.member_book.specs.Erasures.{is_record}
use Rattle.erase_rules.specs.declared.purge.PurgeFacts.{PurgeFacts}
use Rattle.ledger_model.specs.History.{History, size, point, root}
use Rattle.ledger_model.specs.Targets.{kind_at}
use Rattle.ledger_model.specs.declared.job.Job.{Job}
use Rattle.ledger_model.specs.declared.job.Job.TheVariants as asked
use Rattle.ledger_model.specs.declared.outcome.Outcome.{Outcome}
use Rattle.ledger_model.specs.declared.outcome.Outcome.TheVariants.{Refused, Placed, Again, StampWanted, Reading}

-- what a book tells of the journal that a purge names is so in this history, as far as it is looked at
pub record ArePurgeFacts (h : History) (facts : PurgeFacts) (n : ℕ) : Type 0 where
  pub asked_is : facts.asked ≡ n
  pub size_is : facts.size ≡ size h
  pub point_is : facts.point ≡ point h
  pub kind_is : point h ≤ n → n < size h → facts.kind ≡ kind_at h n
  pub root_is : point h ≤ n → n < size h → facts.root ≡ digest (root h n)

-- the operator, and the members whose records these headers are, as often as they are
abbrev pub owners_in : List Header → List ℕ
owners_in headers = 0 ∷ map (λ x. x.member) (filter (λ x. is_record x.kind) headers)

-- the point after a purge that was judged: its own where it was placed
abbrev pub point_of : ℕ → Outcome → ℕ → ℕ
point_of p (Refused refusal) point = point
point_of p (Placed placed) point = p
point_of p (Again jsn leaf) point = point
point_of p StampWanted point = point
point_of p (Reading query) point = point

-- the point after a job: only a purge changes it
abbrev pub point_after : Job → Outcome → ℕ → ℕ
point_after (asked.Refused refusal) told point = point
point_after (asked.Append member clue content content_digest request by who number) told point = point
point_after (asked.NewMember number key by) told point = point
point_after asked.Anchor told point = point
point_after (asked.Occult target leaf given) told point = point
point_after (asked.OccultClue clue count given) told point = point
point_after (asked.Purge p root given) told point = point_of p told point
point_after (asked.Ask query) told point = point
