-- The parts of which a proof is made.
use Rattle.std.specs.Prelude.{◌≡◌, ℕ, ◌<◌, ◌≤◌, ◌^◌, ◌*◌, ◌%◌, ◌||◌, Bool, true, if◌then◌else◌, List, [], length, map, get_or, Option, Some, None, IfSome, option_map, ⊤}
use Rattle.std.specs.List.{concat}
use Rattle.std.specs.Option.{is_some}
use Rattle.sha2.specs.Sha256.{sha256}
use Rattle.ledger_bytes.specs.Digests.{digest}
use Rattle.ledger_bytes.specs.declared.digest.Digest.{Digest}
use Rattle.ledger_bytes.specs.declared.mark.TimeMark.{TimeMark}
use Rattle.ledger_bytes.specs.declared.refusal.Refusal.TheVariants.{NotaryFault}
use Rattle.tree_model.specs.Extension.{proof}
use Rattle.tree_model.specs.Path.{path}
use Rattle.journal_record.specs.Entry.{Entry}
use Rattle.proof_codec.specs.Claims.{mark_of}
use Rattle.proof_codec.specs.Proofs.{ShownLower, ShownUpper, Shown, IsTimeHeader}
use Rattle.ledger_model.specs.Bounds.{IsKeptTime, lower_journal, upper_journal}
use Rattle.ledger_model.specs.History.{History, journals, root, leaf_digest}
use Rattle.ledger_model.specs.Proofs.{path_in, extension_in, entry_path}
use Rattle.proof_maker.specs.declared.bound.Bound.{Bound}
use Rattle.proof_maker.specs.declared.parts.Parts.{Parts}
use Rattle.proof_maker.specs.declared.noted.Noted.{Noted}
use Rattle.proof_maker.specs.declared.made.MakeErr.{MakeErr}
use Rattle.proof_maker.specs.declared.made.MakeErr.TheVariants.{Refused, NoMemory}

-- bytes are whole digests one after the other, at most so many
pub record AreDigests (most : ℕ) (bytes : List ℕ) : Type 0 where
  pub whole : length bytes % 32 ≡ 0
  pub few : length bytes ≤ 32 * most

-- the digests of the path of leaf n, one after the other
abbrev pub path_bytes : List (List ℕ) → ℕ → List ℕ
path_bytes leaves n = concat (path sha256 n leaves)

-- the digests of the proof that the tree goes on from its first m leaves, one after the other
abbrev pub extension_bytes : List (List ℕ) → ℕ → List ℕ
extension_bytes leaves m = concat (proof sha256 m leaves)

-- ---- bounds

-- what a proof shows of a bound behind a journal
abbrev pub upper_by : Bound → ShownUpper
upper_by bound = record { mark = mark_of bound.header; salt = bound.header.link; root = bound.root; ext = bound.ext }

-- what a proof shows of a bound in front of a journal, whose path is this
abbrev pub lower_by : List ℕ → Bound → ShownLower
lower_by path bound = record { header = bound.header; path = path; root = bound.root; ext = bound.ext }

-- a bound's header is a time journal's, and its digests aren't too many for a proof
pub record IsShortBound (bound : Bound) : Type 0 where
  pub header : IsTimeHeader bound.header
  pub root : length bound.root.0 ≡ 32
  pub ext : AreDigests 33 bound.ext

-- a journal is the kept time journal of this number
pub record IsAt (h : History) (jsn : ℕ) (e : Entry) : Type 0 where
  pub kept : IsKeptTime h e
  pub number : e.header.jsn ≡ jsn

-- a bound that was made has what a proof is to show of a time journal
pub record Bounds (h : History) (e : Entry) (bound : Bound) : Type 0 where
  pub header_is : bound.header ≡ e.header
  pub root_is : bound.root ≡ digest (root h e.header.jsn)
  pub ext_is : bound.ext ≡ extension_in h e.header.jsn

-- a bound was made where there is a time journal, and only there, and has what a proof is to show of it
abbrev pub BoundsIf : History → Option Entry → Option Bound → Type 0
BoundsIf h None None = ⊤
BoundsIf h None (Some bound) = ⊥
BoundsIf h (Some e) None = ⊥
BoundsIf h (Some e) (Some bound) = Bounds h e bound

-- a mark is that of a kept time journal, where there is one
pub record IsMarkOf (h : History) (journal : Option Entry) (mark : Option TimeMark) : Type 0 where
  pub kept : IfSome journal (IsKeptTime h)
  pub mark_is : mark ≡ option_map (λ e. mark_of e.header) journal

-- the path of the leaf of a mark, where there is one
abbrev pub path_if : List (List ℕ) → Option TimeMark → List ℕ
path_if leaves None = []
path_if leaves (Some mark) = path_bytes leaves mark.jsn

-- ---- what is shown by the parts

-- a leaf and a path are those of journal n under the root over all journals
pub record LeadsUp (h : History) (n : ℕ) (leaf : Digest) (path : List ℕ) : Type 0 where
  pub leaf_is : leaf ≡ digest (get_or (map leaf_digest (journals h)) n [])
  pub path_is : path ≡ path_in h n

-- the bounds of the parts are those of journal n
abbrev pub AreBounded : History → ℕ → Parts → Type 0
AreBounded h n parts = BoundsIf h (lower_journal h n) parts.lower × BoundsIf h (upper_journal h n) parts.upper

-- the parts that were made are those of the proof of journal n
pub record ArePartsOf (h : History) (n : ℕ) (parts : Parts) : Type 0 where
  pub leaf_is : parts.leaf ≡ digest (get_or (map leaf_digest (journals h)) n [])
  pub path_is : parts.path ≡ path_in h n
  pub lower_is : BoundsIf h (lower_journal h n) parts.lower
  pub lower_path_is : parts.lower_path ≡ path_if (map leaf_digest (journals h)) (option_map (λ e. mark_of e.header) (lower_journal h n))
  pub upper_is : BoundsIf h (upper_journal h n) parts.upper

-- the digests of the parts aren't too many for a proof, on a ledger of fewer than 2^32 journals
pub record AreShort (parts : Parts) : Type 0 where
  pub leaf : length parts.leaf.0 ≡ 32
  pub path : AreDigests 32 parts.path
  pub lower : IfSome parts.lower IsShortBound
  pub lower_path : AreDigests 32 parts.lower_path
  pub upper : IfSome parts.upper IsShortBound

-- the index of the notary's entry of a bound
abbrev pub index_of : Option Bound → Option ℕ
index_of bound = option_map (λ b. b.header.a) bound

-- the path of the entry with an index, where there is one
abbrev pub index_path : List (List ℕ) → Option ℕ → List ℕ
index_path es None = []
index_path es (Some k) = entry_path es k

-- what a notary's list shows of the entries with these indexes
pub record IsNotedOf (es : List (List ℕ)) (lower upper : Option ℕ) (noted : Noted) : Type 0 where
  pub size_is : noted.size ≡ (if is_some lower || is_some upper then length es else 0)
  pub lower_is : noted.lower_path ≡ index_path es lower
  pub upper_is : noted.upper_path ≡ index_path es upper

-- the digests of what a notary shows aren't too many for a proof, with a list of at most 2^24 entries
pub record IsShortNoted (noted : Noted) : Type 0 where
  pub size : noted.size < 2 ^ 64
  pub lower : AreDigests 24 noted.lower_path
  pub upper : AreDigests 24 noted.upper_path

-- why a notary showed nothing: it failed, which it does only where it's asked, or memory was wanting
abbrev pub IsNotaryErr : Bool → MakeErr → Type 0
IsNotaryErr asked (Refused why) = (why ≡ NotaryFault) × (asked ≡ true)
IsNotaryErr asked NoMemory = ⊤

-- what the proof of leaf n among so many shows, by the parts that were made and by what the notary shows
abbrev pub shown_by : ℕ → ℕ → Parts → Noted → Shown
shown_by all n parts noted = record {
  size = all;
  n = n;
  leaf = parts.leaf;
  path = parts.path;
  lo = option_map (lower_by parts.lower_path) parts.lower;
  hi = option_map upper_by parts.upper;
  notary_size = noted.size;
  lo_path = noted.lower_path;
  hi_path = noted.upper_path;
}
