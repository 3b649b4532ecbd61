-- What came of a piece of a window, whose lines were offered to a committer.
use Rattle.std.specs.Prelude.{◌≡◌, ◌⊎◌, ℕ, Bool, false, List, [], ◌∷◌, ◌++◌, length, map, Option, None, Some}
use Rattle.batch_committer.specs.World.{Held, Pair, World, world, Fits, HasRoom, Holds, Goes, EndsOnTheWay}
use Rattle.batch_committer.specs.declared.failure.CommitErr.{CommitErr}
use Rattle.lane_work.specs.Orders.{IsOrderOf}
use Rattle.lane_work.specs.declared.kinds.LaneLine.{LaneLine}
use Rattle.lane_work.specs.declared.taker.Flow.{Flow}
use Rattle.lane_work.specs.declared.taker.Flow.TheVariants.{GoOn, Stop}
use Rattle.ledger_book.specs.declared.prepared.Prepared.{Prepared}
use Rattle.batch_committer.specs.Attending.{step_in, FailsAtMostOnce, TakesJob, EndsTaking}
use Rattle.ledger_io.specs.Outside.{SinkState}
use Rattle.ledger_model.specs.Dues.{dues}
use Rattle.ledger_model.specs.History.{History, id, close}
use Rattle.ledger_model.specs.Merge.{said_by}
use Rattle.ledger_model.specs.Rules.{job_of, after_steps}
use Rattle.ledger_model.specs.Scheme.{Scheme}
use Rattle.ledger_model.specs.Step.{Step}
use Rattle.ledger_model.specs.Took.{Took}
use Rattle.ledger_model.specs.Windows.{Said}
use Rattle.ledger_model.specs.declared.job.Job.TheVariants.{Anchor}
use Rattle.time_peg.specs.Entries.{NotaryState}
use Rattle.ledger_cli.specs.Boards.{Posted, Lasting, IsFollowed, IsNextTo}
use Rattle.ledger_cli.specs.Failures.{FailsIn}

-- where a session stands: what its committer, its disks, its sink and its notary tell, and what is known of the board that follows it,
-- where there is one
pub record At : Type 0 where
  pub held : Held
  pub disks : Pair
  pub sink : SinkState
  pub notary : NotaryState
  pub board : Option Posted

-- the same by its parts
abbrev pub at : Held → Pair → SinkState → NotaryState → Option Posted → At
at held disks sink notary board = record { held = held; disks = disks; sink = sink; notary = notary; board = board }

-- of these the committer, the disks and the sink
abbrev pub world_at : At → World
world_at s = world s.held.kept s.disks s.sink

-- the committer may be offered more: no end was met
pub record IsOpen (tells : Bool) (s : At) : Type 0 where
  pub unended : s.held.ended ≡ false
  pub fits : Fits tells (world_at s)
  pub room : HasRoom s.held.kept

-- the board went along with one step of the ledger: it follows each history that is held now, where it followed one to which that is next
abbrev pub GoesAlong : Bool → At → At → Type 0
GoesAlong tells s t =
    (first : ℕ) (h g : History) → Holds tells (world_at t) g → IsNextTo h g → IsFollowed first h s.board → IsFollowed first g t.board

-- the board went along on a way: it follows the history to which this led, where it followed the one that was held
abbrev pub FollowsAlong : Bool → At → (History → History) → At → Type 0
FollowsAlong tells s next t =
    (first : ℕ) (h : History) → Holds tells (world_at s) h → IsFollowed first h s.board → IsFollowed first (next h) t.board

-- ---- between two pieces

-- No line was taken: what had ended was put on the disk, its replies were written, and the committer may be offered more.
pub record Settled (tells : Bool) (s t : At) : Type 0 where
  pub goes : Goes tells (world_at s) (λ h. h) (λ h. []) (world_at t)
  pub still : IsOpen tells t
  pub notary : t.notary ≡ s.notary
  pub board : t.board ≡ s.board

-- the run ended at that
pub record Unsettled (tells : Bool) (end : CommitErr) (s t : At) : Type 0 where
  pub ended : EndsOnTheWay tells (world_at s) (λ h. h) (λ h. []) end (world_at t)
  pub notary : t.notary ≡ s.notary

-- ---- where a run ended

-- the run ended where exactly these steps were taken
abbrev pub EndsThere : Scheme → Bool → List Step → CommitErr → World → World → Type 0
EndsThere scheme tells steps end w t = EndsOnTheWay tells w (λ h. after_steps scheme h steps) (λ h. dues scheme h steps) end t

-- the run ended at the line behind these steps, an anchor, before the notary was asked: the open block in front of it ends, and
-- nothing is due for it
pub record EndsAtAnchor (scheme : Scheme) (tells : Bool) (steps : List Step) (rest : List Said) (end : CommitErr) (w t : World) : Type 0 where
  pub said : Said
  pub later : List Said
  pub split : rest ≡ said ∷ later
  pub anchor : (h : History) → Holds tells w h → job_of scheme (id (after_steps scheme h steps)) said.line ≡ Anchor
  pub ended : EndsOnTheWay tells w (λ h. close (after_steps scheme h steps)) (λ h. dues scheme h steps) end t

-- the run ended behind these steps, in one of these two ways
abbrev pub EndsBehind : Scheme → Bool → List Step → List Said → CommitErr → World → World → Type 0
EndsBehind scheme tells steps rest end w t = EndsThere scheme tells steps end w t ⊎ EndsAtAnchor scheme tells steps rest end w t

-- ---- one item

-- what stays as it is in a session: which values it borrows, and which board follows it
pub record Stays : Type 0 where
  pub names : List ℕ
  pub board : Option Lasting

-- the same by its parts
abbrev pub stays : List ℕ → Option Lasting → Stays
stays names board = record { names = names; board = board }

-- a session seen from within: what stays of it, the end that was met, and where it stands
pub record Told : Type 0 where
  pub names : Stays
  pub end : Option CommitErr
  pub at : At

-- the same by its parts
abbrev pub told : Stays → Option CommitErr → At → Told
told names end at = record { names = names; end = end; at = at }

-- what the offer of one item did: it was taken and the taker goes on, or the run ended at it
abbrev pub Answered : Bool → Told → Prepared → Flow → Told → Type 0
Answered tells s item GoOn t =
    (t.names ≡ s.names) × (t.end ≡ s.end) × IsOpen tells t.at × FailsAtMostOnce s.at.notary t.at.notary × GoesAlong tells s.at t.at
    × ((failed : Bool) × ((line : List ℕ) → TakesJob tells (world_at s.at) (world_at t.at) s.at.notary t.at.notary (step_in s.at.notary t.at.notary failed item.lane item.index line) item.job))
Answered tells s item Stop t =
    (t.names ≡ s.names) × FailsAtMostOnce s.at.notary t.at.notary
    × ((end : CommitErr) × (t.end ≡ Some end)
    × EndsTaking tells (world_at s.at) (world_at t.at) s.at.notary t.at.notary item.lane item.index item.job end)

-- ---- a piece, and the end of its window

-- The lines of a piece were all taken, in an order in which each lane's lines are in theirs, and in steps in which the notary took
-- part.
pub record PieceTaken (scheme : Scheme) (tells : Bool) (first : List ℕ) (lines : List LaneLine) (s t : At) : Type 0 where
  pub steps : List Step
  pub is_order : IsOrderOf first lines (map said_by steps)
  pub goes : Goes tells (world_at s) (λ h. after_steps scheme h steps) (λ h. dues scheme h steps) (world_at t)
  pub follows : FollowsAlong tells s (λ h. after_steps scheme h steps) t
  pub took : (h : History) → Holds tells (world_at s) h → Took scheme h s.notary steps t.notary
  pub fails : FailsIn (length lines) s.notary t.notary

-- the run ended within a piece, where some first lines of an order of it were taken
pub record PieceBroken (scheme : Scheme) (tells : Bool) (first : List ℕ) (lines : List LaneLine) (end : CommitErr) (s t : At) : Type 0 where
  pub steps : List Step
  pub rest : List Said
  pub is_order : IsOrderOf first lines (map said_by steps ++ rest)
  pub ended : EndsBehind scheme tells steps rest end (world_at s) (world_at t)
  pub took : (h : History) → Holds tells (world_at s) h → Took scheme h s.notary steps t.notary
  pub fails : FailsIn (length lines) s.notary t.notary

-- what came of the lines of a piece, by whether an end was met
abbrev pub TakesPiece : Scheme → Bool → List ℕ → List LaneLine → Option CommitErr → At → At → Type 0
TakesPiece scheme tells first lines None s t = PieceTaken scheme tells first lines s t × IsOpen tells t
TakesPiece scheme tells first lines (Some end) s t = PieceBroken scheme tells first lines end s t

-- the lines of a window were all taken, and the open block was ended behind them
pub record WindowTaken (scheme : Scheme) (tells : Bool) (first : List ℕ) (lines : List LaneLine) (s t : At) : Type 0 where
  pub steps : List Step
  pub is_order : IsOrderOf first lines (map said_by steps)
  pub goes : Goes tells (world_at s) (λ h. close (after_steps scheme h steps)) (λ h. dues scheme h steps) (world_at t)
  pub follows : FollowsAlong tells s (λ h. close (after_steps scheme h steps)) t
  pub took : (h : History) → Holds tells (world_at s) h → Took scheme h s.notary steps t.notary
  pub fails : FailsIn (length lines) s.notary t.notary

-- the lines of a window were all taken, and the run ended where the open block was to end
pub record FlushBroken (scheme : Scheme) (tells : Bool) (first : List ℕ) (lines : List LaneLine) (end : CommitErr) (s t : At) : Type 0 where
  pub steps : List Step
  pub is_order : IsOrderOf first lines (map said_by steps)
  pub ended : EndsOnTheWay tells (world_at s) (λ h. close (after_steps scheme h steps)) (λ h. dues scheme h steps) end (world_at t)
  pub took : (h : History) → Holds tells (world_at s) h → Took scheme h s.notary steps t.notary
  pub fails : FailsIn (length lines) s.notary t.notary

-- the run ended within a window, or where its open block was to end
abbrev pub WindowBroken : Scheme → Bool → List ℕ → List LaneLine → CommitErr → At → At → Type 0
WindowBroken scheme tells first lines end s t = PieceBroken scheme tells first lines end s t ⊎ FlushBroken scheme tells first lines end s t
