-- The proof of a journal between its bounds in time, the proofs that the ledger and the notary's list go on from their
-- beginnings, and why there are none.
use Rattle.std.specs.Prelude.{ℕ, ◌==◌, ◌||◌, nat_le, nat_lt, if◌then◌else◌, List, [], length, map, get_or, Option, Some, None, option_map}
use Rattle.std.specs.List.{concat}
use Rattle.std.specs.Option.{is_some, option_or}
use Rattle.sha2.specs.Sha256.{sha256}
use Rattle.tree_model.specs.Extension.{proof}
use Rattle.tree_model.specs.Path.{path}
use Rattle.tree_model.specs.Tree.{leaf}
use Rattle.ledger_bytes.specs.Digests.{digest}
use Rattle.ledger_bytes.specs.declared.refusal.Refusal.{Refusal}
use Rattle.ledger_bytes.specs.declared.refusal.Refusal.TheVariants.{NoJournal, Purged, BadSize}
use Rattle.journal_record.specs.Entry.{Entry}
use Rattle.proof_codec.specs.Claims.{mark_of}
use Rattle.proof_codec.specs.Proofs.{ShownLower, ShownUpper, Shown}
use Rattle.ledger_model.specs.Bounds.{lower_journal, upper_journal}
use Rattle.ledger_model.specs.History.{History, journals, size, point, root, leaf_digest}

-- the path of journal n under the root over all journals, its digests one after the other
abbrev pub path_in : History → ℕ → List ℕ
path_in h n = concat (path sha256 n (map leaf_digest (journals h)))

-- the proof that the ledger goes on from its first m journals, its digests one after the other
abbrev pub extension_in : History → ℕ → List ℕ
extension_in h m = concat (proof sha256 m (map leaf_digest (journals h)))

-- the path of entry k of a notary's list, its digests one after the other; empty where the entry isn't there
abbrev pub entry_path : List (List ℕ) → ℕ → List ℕ
entry_path es k = if nat_lt k (length es) then concat (path sha256 k (map (leaf sha256) es)) else []

-- the proof that a notary's list goes on from its first m entries, its digests one after the other
abbrev pub list_extension : List (List ℕ) → ℕ → List ℕ
list_extension es m = concat (proof sha256 m (map (leaf sha256) es))

-- what the proof of a journal shows of the time journal in front: its header and path, the root in front of it, and how the
-- ledger goes on from there
abbrev pub lower_shown : History → Entry → ShownLower
lower_shown h e = record {
  header = e.header;
  path = path_in h e.header.jsn;
  root = digest (root h e.header.jsn);
  ext = extension_in h e.header.jsn;
}

-- what the proof of a journal shows of the time journal behind: its mark and salt, the root in front of it, and how the
-- ledger goes on from there
abbrev pub upper_shown : History → Entry → ShownUpper
upper_shown h e = record {
  mark = mark_of e.header;
  salt = e.header.link;
  root = digest (root h e.header.jsn);
  ext = extension_in h e.header.jsn;
}

-- the path of the entry that a bound names in a notary's list; empty where there is no bound
abbrev pub bound_path : List (List ℕ) → Option Entry → List ℕ
bound_path es None = []
bound_path es (Some e) = entry_path es e.header.a

-- what the proof of journal n shows between these bounds, where the notary's list is this; the size of the list is shown
-- only where there is a bound
abbrev pub shown_between : History → List (List ℕ) → ℕ → Option Entry → Option Entry → Shown
shown_between h es n lo hi = record {
  size = size h;
  n = n;
  leaf = digest (get_or (map leaf_digest (journals h)) n []);
  path = path_in h n;
  lo = option_map (lower_shown h) lo;
  hi = option_map (upper_shown h) hi;
  notary_size = if is_some lo || is_some hi then length es else 0;
  lo_path = bound_path es lo;
  hi_path = bound_path es hi;
}

-- what the proof of journal n shows: its leaf and its path under the root over all journals, and its bounds
unfoldable pub shown_of : History → List (List ℕ) → ℕ → Shown
shown_of h es n = shown_between h es n (lower_journal h n) (upper_journal h n)

-- Why journal n has no proof: there is none, or it was purged. `what_is_kept_is_proved` says that each other journal is
-- proved, unless the notary fails.
unfoldable pub prove_refusal : History → ℕ → Option Refusal
prove_refusal h n =
    if nat_le (size h) n then Some (NoJournal (size h))
    else if nat_lt n (point h) then Some (Purged (point h))
    else None

-- why a list of this length has no proof that it goes on from its first m: m is 0, or not so many are there
abbrev pub size_refusal : ℕ → ℕ → Option Refusal
size_refusal size m = if m == 0 || nat_lt size m then Some (BadSize size) else None

-- why the ledger has no proof that it goes on from its first m journals: m is 0 or above its size, or more than m were
-- purged
unfoldable pub extend_refusal : History → ℕ → Option Refusal
extend_refusal h m = option_or (size_refusal (size h) m) (if nat_lt m (point h) then Some (Purged (point h)) else None)
