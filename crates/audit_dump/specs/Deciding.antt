-- By what an auditor decides whether those placed a journal who had to.
use Rattle.std.specs.Prelude.{◌≡◌, ℕ, ◌<◌, ◌≤◌, List, [], ◌∷◌, Option, Some, None}
use Rattle.ledger_bytes.specs.declared.digest.Digest.{Digest}
use Rattle.journal_record.specs.Entry.{Entry}
use Rattle.journal_record.specs.Items.{Item}
use Rattle.journal_record.specs.Request.{member_request_digest_of, occult_request_digest_of, clue_occult_request_digest_of, purge_request_digest_of}
use Rattle.journal_record.specs.declared.header.Kind.{Kind}
use Rattle.journal_record.specs.declared.header.Kind.TheVariants as kind
use Rattle.pseudo_genesis.specs.declared.base.Base.{Base}
use Rattle.ledger_model.specs.Behind.{first_of}
use Rattle.ledger_model.specs.History.{history}
use Rattle.ledger_model.specs.Needs.{HaveSame, purge_needs}
use Rattle.ledger_model.specs.Scheme.{Scheme}
use Rattle.audit_dump.specs.Approvals.{AreInForm, AreOf, IsOf, IsPlacedRecord}
use Rattle.audit_dump.specs.Known.{root_behind}

-- the root in front of a point is this one, and none is told of a point in front of the base
abbrev pub IsRootBelow : Option Base → List Entry → ℕ → Option Digest → Type 0
IsRootBelow start before p None = p < first_of start
IsRootBelow start before p (Some root) = (first_of start ≤ p) × (root.0 ≡ root_behind start before p)

-- By what a purge is judged besides the keys: the members whose approvals it needs, in whatever order and however often, and the
-- root in front of its point.
pub record IsAskedOf (start : Option Base) (before : List Entry) (p : ℕ) (needed : List ℕ) (root : Option Digest) : Type 0 where
  pub needed_are : HaveSame needed (purge_needs (history [] before) p)
  pub root_is : IsRootBelow start before p root

-- a purge is placed by those who are needed, who approved this root, or one that nobody can tell
abbrev pub IsPurgeAmong : Scheme → List ℕ → List (List ℕ) → List ℕ → Item → Option Digest → Type 0
IsPurgeAmong scheme id known needed item None = AreInForm known needed item.who
IsPurgeAmong scheme id known needed item (Some root) = AreOf scheme known (purge_request_digest_of id item.header.a root.0) needed item.who

-- those placed a journal of this kind who had to, where these are the keys of the members, and a purge is judged by these needs and
-- this root
abbrev pub IsPlacedAmong : Scheme → List ℕ → List (List ℕ) → List ℕ → Option Digest → Item → Kind → Type 0
IsPlacedAmong scheme id known needed root item kind.Genesis = item.who ≡ []
IsPlacedAmong scheme id known needed root item kind.Content = IsPlacedRecord scheme id known item
IsPlacedAmong scheme id known needed root item kind.Member = IsOf scheme known (member_request_digest_of id item.header.a item.header.link.0) 0 item.who
IsPlacedAmong scheme id known needed root item kind.Time = item.who ≡ []
IsPlacedAmong scheme id known needed root item kind.Occult =
    AreOf scheme known (occult_request_digest_of id item.header.a item.header.link.0) (0 ∷ 1 ∷ []) item.who
IsPlacedAmong scheme id known needed root item kind.Purge = IsPurgeAmong scheme id known needed item root
IsPlacedAmong scheme id known needed root item kind.ClueOccult =
    AreOf scheme known (clue_occult_request_digest_of id item.header.link.0 item.header.a) (0 ∷ 1 ∷ []) item.who
