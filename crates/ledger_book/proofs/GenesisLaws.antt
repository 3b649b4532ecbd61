-- Lemmas on the book of a first journal.
use Rattle.std.proofs.Common.{◌≡◌, ℕ, ◌-◌, ◌||◌, true, false, cond, not, Option, None, Some, List, [], ◌∷◌, ◌++◌, length, take, drop, refl, ap, sym, subst, ◌∙◌, arith}
use Rattle.std.specs.List.{fold}
use Rattle.std.specs.Option.{is_some}
use Rattle.std.specs.Prelude.{max, map, get_or, slice_get, zero, suc}
use Rattle.std.proofs.lemmas.Bool.{eqb-true, true≢false}
use Rattle.std.proofs.lemmas.List.{take_at, drop_at}
use Rattle.sha2.specs.Sha256.{sha256}
use Rattle.tree_model.specs.Tree.{leaf}
use Rattle.tree_model.proofs.Levels.{root_one}
use Rattle.ledger_bytes.specs.Digests.{digest}
use Rattle.ledger_bytes.specs.declared.digest.Digest.{Digest}
use Rattle.ledger_bytes.specs.declared.mark.TimeMark.{TimeMark}
use Rattle.journal_record.specs.Entry.{Entry}
use Rattle.journal_record.specs.Header.{spelling}
use Rattle.journal_record.specs.Members as book
use Rattle.journal_record.specs.Rules.{IsHeader, jsn_ok, clue_ok}
use Rattle.journal_record.specs.declared.header.Header.{Header}
use Rattle.journal_record.specs.declared.header.Kind.{Kind}
use Rattle.journal_record.specs.declared.header.Kind.TheVariants as kind
use Rattle.journal_record.specs.declared.member.Member.{Member}
use Rattle.merkle_batch.specs.Rows.{Levels, StandsFor}
use Rattle.clue_index.specs.Added.{added_at_first}
use Rattle.clue_index.specs.Index as index
use Rattle.proof_codec.specs.Claims.{mark_of}
use Rattle.proof_codec.specs.Reading.{is_time}
use Rattle.time_peg.specs.Times.{marks_from}
use Rattle.ledger_model.specs.Bounds.{marks_of}
use Rattle.ledger_model.specs.Genesis.{genesis_header, genesis_journal}
use Rattle.ledger_model.specs.History as model
use Rattle.ledger_model.specs.History.{history, is_purge}
use Rattle.ledger_model.specs.Lawful.{AreLawful, IsNextOf}
use Rattle.ledger_model.specs.Members.{members, is_member, member_of}
use Rattle.ledger_model.specs.declared.genesis.Genesis.{Genesis}
use Rattle.ledger_model.specs.declared.limits.Limits.{Limits}
use Rattle.ledger_model.proofs.KeepLaws.{genesis_lawful}
use Rattle.ledger_model.specs.Targets.{hides_as, is_hidden_by}
use Rattle.ledger_model.proofs.HideLaws.{none_behind}
use Rattle.ledger_model.proofs.LawfulLaws.{lawful_from}
use Rattle.ledger_book.specs.Hiders.{TellHiders, told_hider, hider_in}
use Rattle.ledger_model.specs.Behind.{IsOwnBehind}
use Rattle.ledger_book.specs.Reading.{StandsBehind}
use Rattle.ledger_book.specs.Books.{Kept, Serves, aged_members}
use Rattle.ledger_model.specs.Bases.{clues_added}
use Rattle.ledger_book.specs.Replaying.{IsFirst, begun_with}
use Rattle.ledger_book.proofs.ClueLaws.{marks_same}

-- what the book of a first journal keeps
abbrev pub first_kept : Limits → Digest → List ℕ → List Member → index.KeptTrails → List ℕ → List (ℕ × ℕ) → List TimeMark → List Header → Levels → Kept
first_kept limits leaf ends members clues hiders fronts times headers tree = record {
  limits = limits;
  floor = 0;
  reached = true;
  size = 1;
  point = 0;
  blocks = 1;
  sealed = 1;
  ends = ends;
  root = leaf;
  id = leaf;
  members = members;
  clues = clues;
  hiders = hiders;
  fronts = fronts;
  times = times;
  headers = headers;
  tree = tree;
}

-- none hides it
none_first : (i : ℕ) → (let none : ℕ = 0 in get_or (none ∷ []) i none ≡ none)
none_first zero = refl
none_first (suc zero) = refl
none_first (suc (suc i)) = refl

-- a first journal
module _ (header : Header) (operator regulator : Digest) (j : Entry) (kind_is : header.kind ≡ kind.Genesis) (layout : IsHeader header) (first : IsFirst header operator regulator j) where
  first_kind : j.header.kind ≡ kind.Genesis
  first_kind = ap (λ (x : Header). x.kind) first.header_is ∙ kind_is

  first_layout : IsHeader j.header
  first_layout = subst IsHeader (sym first.header_is) layout

  first_lawful : AreLawful (j ∷ [])
  first_lawful = record {
    next = (
      record {
        layout = first_layout;
        jsn = eqb-true j.header.jsn 0 (subst (λ k. jsn_ok k j.header.jsn ≡ true) first_kind first_layout.jsn);
        below = omega (arith, eqb-true j.header.jsn 0 (subst (λ k. jsn_ok k j.header.jsn ≡ true) first_kind first_layout.jsn));
        own = subst (IsNextOf (history [] []) j.header) (sym first_kind) tt;
      },
      tt,
    );
    founded = ap (λ (x : Header). x.content_digest.0) first.header_is ∙ first.digest_is;
  }

  first_members : book.founders operator regulator ≡ members (begun_with j)
  unfolding members
  first_members =
      ap (λ x. book.founders (digest x) regulator) first.operator_is ∙ ap (λ x. book.founders (digest (take 32 j.content)) (digest x)) first.regulator_is
      ∙ ap (λ (k : Kind). book.founders (digest (take 32 j.content)) (digest (drop 32 j.content)) ++ map member_of (cond (is_member k) (j ∷ []) [])) (sym first_kind)

  first_clues : clues_added 0 (model.journals (begun_with j)) ≡ added_at_first []
  first_clues = marks_same 0 [] j (ap not (subst (λ k. clue_ok k j.header.clue ≡ true) first_kind first_layout.clue))

  first_point : model.seen_point 0 (begun_with j) ≡ 0
  unfolding model.seen_point
  first_point = ap (λ (k : Kind). fold max 0 (cond (is_purge k) j.header.a 0 ∷ [])) first_kind

  first_times : marks_from 0 (marks_of (model.journals (begun_with j))) ≡ []
  first_times = ap (λ (k : Kind). marks_from 0 (map (λ (e : Entry). mark_of e.header) (cond (is_time k) (j ∷ []) []))) first_kind

  first_hiders : TellHiders (0 ∷ []) 0 (begun_with j)
  first_hiders = λ n le. ap told_hider (none_first (n - 0)) ∙ sym (none_behind (j ∷ []) n (lawful_from (j ∷ []) first_lawful) (omega arith))

  first_root : model.root (begun_with j) 1 ≡ leaf sha256 (spelling j.header)
  unfolding model.root
  first_root = root_one sha256 (leaf sha256 (spelling j.header))

  first_id : model.id (begun_with j) ≡ leaf sha256 (spelling j.header)
  unfolding model.id
  first_id = refl

  -- its book stands for the history that has it alone
  pub serves_first : (limits : Limits) (tip : Digest) (encoded : List ℕ) (ms : List Member) (clues : index.KeptTrails) (by : List ℕ) (fronts : List (ℕ × ℕ)) (times : List TimeMark) (hs : List Header) (rows : Levels) (ends : List ℕ)
      → encoded ≡ spelling header → tip.0 ≡ leaf sha256 encoded → ms ≡ book.founders operator regulator → index.StandsForTrails clues (added_at_first []) → by ≡ 0 ∷ [] → times ≡ [] → hs ≡ header ∷ [] → StandsFor sha256 rows (tip.0 ∷ []) → ends ≡ 1 ∷ []
      → Serves (first_kept limits tip ends ms clues by fronts times hs rows) (begun_with j)
  serves_first limits tip encoded ms clues by fronts times hs rows ends e l m c bs ts hss stands es =
      let told : tip.0 ≡ leaf sha256 (spelling j.header) = l ∙ ap (leaf sha256) (e ∙ ap spelling (sym first.header_is)) in record {
        stands = record {
          lawful = first_lawful;
          counts = record { size = refl; floor = omega arith; point = sym first_point; blocks = refl; sealed_is = refl; ends = es };
          tree = record { root = told ∙ sym first_root; id = told ∙ sym first_id; headers_are = hss ∙ ap (λ x. x ∷ []) (sym first.header_is); leaves = subst (λ x. StandsFor sha256 rows (x ∷ [])) told stands };
          members = ap (aged_members 0) (m ∙ first_members);
          clues = subst (index.StandsForTrails clues) (sym first_clues) c;
          hiders = subst (λ (x : List ℕ). TellHiders x 0 (begun_with j)) (sym bs) first_hiders;
          times = ts ∙ sym first_times;
        };
        reached = refl;
        seen = omega arith;
      }

-- the book of a first journal keeps it, whatever its content is
module _ (header : Header) (j : Entry) (kind_is : header.kind ≡ kind.Genesis) (layout : IsHeader header) (is : j.header ≡ header) where
  abbrev sort : j.header.kind ≡ kind.Genesis
  sort = ap (λ (x : Header). x.kind) is ∙ kind_is

  pub behind_first : (limits : Limits) (tip : Digest) (encoded : List ℕ) (operator regulator : Digest) (ms : List Member) (clues : index.KeptTrails) (by : List ℕ) (fronts : List (ℕ × ℕ)) (times : List TimeMark) (hs : List Header) (rows : Levels) (ends : List ℕ)
      → encoded ≡ spelling header → tip.0 ≡ leaf sha256 encoded → ms ≡ book.founders operator regulator → index.StandsForTrails clues (added_at_first []) → by ≡ 0 ∷ [] → hs ≡ header ∷ [] → StandsFor sha256 rows (tip.0 ∷ [])
      → StandsBehind (first_kept limits tip ends ms clues by fronts times hs rows) None (j ∷ [])
  unfolding members
  behind_first limits tip encoded operator regulator ms clues by fronts times hs rows ends e l m c bs hss stands = record {
    begins = tt;
    are = (
      record {
        layout = subst IsHeader (sym is) layout;
        jsn = eqb-true j.header.jsn 0 (subst (λ k. jsn_ok k j.header.jsn ≡ true) sort (subst IsHeader (sym is) layout).jsn) ∙ omega arith;
        below = omega (arith, eqb-true j.header.jsn 0 (subst (λ k. jsn_ok k j.header.jsn ≡ true) sort (subst IsHeader (sym is) layout).jsn));
        begins = tt;
        own = subst (IsOwnBehind None [] j.header) (sym sort) tt;
      },
      tt,
    );
    floor = refl;
    size_is = refl;
    point = sym (ap (λ (k : Kind). fold max 0 (cond (is_purge k) j.header.a 0 ∷ [])) sort);
    reached = refl;
    members = ap length m ∙ ap (λ (k : Kind). length (book.founders operator regulator ++ map member_of (cond (is_member k) (j ∷ []) []))) (sym sort);
    clues = subst (index.StandsForTrails clues) (sym (marks_same 0 [] j (ap not (subst (λ k. clue_ok k j.header.clue ≡ true) sort (subst IsHeader (sym is) layout).clue)))) c;
    hiders = λ n le. ap (λ (x : List ℕ). is_some (hider_in 0 x n)) bs ∙ ap (λ v. is_some (told_hider v)) (none_first (n - 0)) ∙ sym (none_hidden_by (slice_get (j ∷ []) (n - 0)));
    fronts = λ unseen. absurd (true≢false unseen);
    headers_are = hss ∙ ap (λ x. x ∷ []) (sym is);
    leaves = subst (λ x. StandsFor sha256 rows (x ∷ [])) (l ∙ ap (leaf sha256) (e ∙ ap spelling (sym is))) stands;
  } where
    none_hidden_by : (t : Option Entry) → is_hidden_by (j ∷ []) t ≡ false
    none_hidden_by None = refl
    none_hidden_by (Some other) = ap (λ (k : Kind). hides_as k j.header other.header || false) sort

-- the first journal of a new ledger
module _ (genesis : Genesis) where
  pub genesis_kind : (header : Header) → header ≡ genesis_header genesis → header.kind ≡ kind.Genesis
  unfolding genesis_header
  genesis_kind header is = ap (λ (x : Header). x.kind) is

  pub genesis_layout : (header : Header) → header ≡ genesis_header genesis → IsHeader header
  genesis_layout header is = subst IsHeader (sym is) (genesis_lawful genesis).next.0.layout

  pub genesis_first : (header : Header) → header ≡ genesis_header genesis → length genesis.operator.0 ≡ 32 → IsFirst header genesis.operator genesis.regulator (genesis_journal genesis)
  unfolding genesis_header
  genesis_first header is wide = record {
    header_is = sym is;
    operator_is = sym (take_at genesis.operator.0 genesis.regulator.0 32 wide);
    regulator_is = sym (drop_at genesis.operator.0 genesis.regulator.0 32 wide);
    digest_is = ap (λ (x : Header). x.content_digest.0) is;
  }
