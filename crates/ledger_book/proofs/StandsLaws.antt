-- Lemmas on what a book keeps of a history.
use Rattle.std.proofs.Common.{◌≡◌, ℕ, ◌+◌, ◌<◌, ◌≤◌, Bool, true, false, cond, not, List, [], ◌∷◌, ◌++◌, length, map, drop, Option, Some, refl, ap, sym, subst, ◌∙◌, arith, append_assoc, append-nil, length-append, take}
use Rattle.std.specs.Prelude.{All, filter, nat_lt, slice_get}
use Rattle.std.specs.Option.{is_some}
use Rattle.std.proofs.lemmas.Bool.{le-leb, lt-leb, lt-ltb, le-ltb}
use Rattle.std.proofs.lemmas.List.{map-append, length-map, nil_from_length, drop-append-le, take_all}
use Rattle.std.proofs.lemmas.List.Concat.{flat_map-append}
use Rattle.std.proofs.lemmas.List.Elements.{filter-append}
use Rattle.sha2.specs.Sha256.{sha256}
use Rattle.tree_model.specs.Tree as tree
use Rattle.merkle_batch.specs.Rows.{Levels, StandsFor}
use Rattle.ledger_bytes.specs.Digests.{digest}
use Rattle.ledger_bytes.specs.declared.digest.Digest.{Digest}
use Rattle.ledger_bytes.specs.declared.mark.TimeMark.{TimeMark}
use Rattle.journal_record.specs.Entry.{Entry}
use Rattle.journal_record.specs.Header.{spelling}
use Rattle.journal_record.specs.Rules.{is_no_clue, clue_ok, clue_ord_ok}
use Rattle.journal_record.specs.declared.header.Header.{Header}
use Rattle.journal_record.specs.declared.header.Kind.{Kind}
use Rattle.journal_record.specs.declared.header.Kind.TheVariants as kind
use Rattle.journal_record.specs.declared.member.Member.{Member}
use Rattle.clue_index.specs.Added.{Mark, Added, with_mark}
use Rattle.clue_index.specs.Index as index
use Rattle.proof_codec.specs.Reading.{is_time}
use Rattle.time_peg.specs.Entries.{peg_string}
use Rattle.time_peg.specs.Times.{marks_from}
use Rattle.ledger_model.specs.Anchors.{peg_at}
use Rattle.ledger_model.specs.History as model
use Rattle.ledger_model.specs.History.{History, history, journals, journals_of, close, leaf_digest, first_leaf_digest, is_purge, greatest_point}
use Rattle.ledger_model.specs.Lawful.{AreLawful}
use Rattle.ledger_model.specs.Members.{members, founders, is_member, admits, member_of, admitted_members}
use Rattle.ledger_model.specs.Outcomes as outcomes
use Rattle.ledger_model.specs.Targets.{is_hidden, hider_among}
use Rattle.ledger_model.specs.declared.view.View.TheVariants as view
use Rattle.ledger_model.proofs.EndLaws.{ends_push}
use Rattle.ledger_model.proofs.GrowLaws.{close_settled, close_ended, size_closed, root_kept}
use Rattle.ledger_model.proofs.HideLaws.{hidden_is}
use Rattle.ledger_model.proofs.KeepLaws.{journals_wider}
use Rattle.ledger_model.proofs.LawfulLaws.{later_seen, lawful_more, some_journal}
use Rattle.ledger_model.proofs.PlaceLaws.{founders_kept, admitted_more, admitted_same}
use Rattle.ledger_book.specs.Hiders.{TellHiders, hider_in, with_hider_of, AreClued}
use Rattle.ledger_book.specs.Books.{Kept, Stands, Serves, headers, leaf_digests, sealed_size, ends_above, aged_member, aged_members}
use Rattle.ledger_model.specs.Bases.{clues_added}
use Rattle.ledger_model.specs.Bounds.{marks_of}
use Rattle.ledger_book.specs.Steps.{IsAsBefore, MayPlace, IsLeafOf, point_with, with_clue_of, with_time_of}
use Rattle.ledger_book.specs.Seals.{head_at, sealed_block, seal_of}
use Rattle.ledger_book.specs.declared.sealed.Sealed.{Sealed}
use Rattle.ledger_book.proofs.ClueLaws.{marks_more, marks_same, marks_below, told_kept}
use Rattle.ledger_model.specs.Clues.{jsns_with}
use Rattle.ledger_book.proofs.HiderLaws.{AreOfClue, hiders_more}
use Rattle.ledger_book.proofs.TimeLaws.{point_more, times_more}

-- how many journals wait
pub waiting_count : (k : Kept) (h : History) → Stands k h → k.size ≡ k.sealed + length h.waiting
waiting_count k h s = omega (arith, s.counts.size, s.counts.sealed_is, length-append (journals_of h.closed) h.waiting)

pub none_waits : (k : Kept) (h : History) → Stands k h → k.sealed ≡ k.size → h.waiting ≡ []
none_waits k h s none = nil_from_length h.waiting (omega (arith, waiting_count k h s))

-- what the notary is to stamp, by what is kept
pub peg_told : (k : Kept) (h : History) → Stands k h → h.waiting ≡ [] → sha256 (peg_string k.id.0 k.sealed k.root.0) ≡ peg_at h (model.size h)
unfolding peg_at
peg_told k h s none =
    let at : sealed_size h ≡ model.size h = ap length (sym (ap (λ w. journals_of h.closed ++ w) none ∙ append-nil (journals_of h.closed))) in
    ap (λ l. sha256 (peg_string l k.sealed k.root.0)) s.tree.id
    ∙ ap (λ l. sha256 (peg_string (model.id h) k.sealed l)) s.tree.root
    ∙ ap (λ n. sha256 (peg_string (model.id h) n (model.root h (sealed_size h)))) s.counts.sealed_is
    ∙ ap (λ n. sha256 (peg_string (model.id h) n (model.root h n))) at

-- nothing waits: the block's end changes nothing
pub stands_settled : (k : Kept) (h : History) → Stands k h → k.sealed ≡ k.size → Stands k (close h)
stands_settled k h s none = subst (Stands k) (close_settled h (none_waits k h s none)) s

-- the whole point is seen
pub point_is : (k : Kept) (h : History) → Serves k h → k.point ≡ model.point h
point_is k h s = s.stands.counts.point ∙ later_seen h k.floor s.stands.lawful (subst (λ n. k.floor ≤ n) s.stands.counts.point s.seen)

pub digests_of : (js : List Entry) → map leaf_digest js ≡ map (tree.leaf sha256) (map (λ (j : Entry). spelling j.header) js)
digests_of [] = refl
digests_of (j ∷ js) = ap (λ rest. leaf_digest j ∷ rest) (digests_of js)

-- the root over all leaves
pub root_told : (k : Kept) (h : History) (root : List ℕ) → Stands k h → ((ds : List (List ℕ)) → StandsFor sha256 k.tree ds → root ≡ tree.root sha256 ds) → root ≡ model.root h (model.size h)
unfolding model.root
root_told k h root s told =
    told (leaf_digests h) s.tree.leaves ∙ ap (tree.root sha256) (digests_of (journals h))
    ∙ ap (tree.mth sha256) (sym (take_all (model.size h) (model.leaves h) (omega (arith, length-map (journals h) (λ (j : Entry). spelling j.header)))))

-- the history with its open block ended
abbrev shut : History → History
shut h = history (h.closed ++ h.waiting ∷ []) []

shut_is : (h : History) → 0 < length h.waiting → shut h ≡ close h
shut_is h some = close_ended h (h.closed ++ h.waiting ∷ []) h.waiting [] some refl refl refl

shut_journals : (h : History) → journals (shut h) ≡ journals h
shut_journals h =
    append-nil (journals_of (h.closed ++ h.waiting ∷ [])) ∙ flat_map-append (λ (b : List Entry). b) h.closed (h.waiting ∷ []) ∙ ap (λ w. journals_of h.closed ++ w) (append-nil h.waiting)

shut_root : (h : History) (n : ℕ) → model.root (shut h) n ≡ model.root h n
unfolding model.root
shut_root h n = ap (λ (js : List Entry). tree.mth sha256 (take n (map (λ (j : Entry). spelling j.header) js))) (shut_journals h)

shut_sealed : (h : History) → sealed_size (shut h) ≡ model.size h
shut_sealed h = sym (size_closed (shut h) refl) ∙ ap length (shut_journals h)

-- a block's end is another end above the floor
shut_ends : (floor : ℕ) (h : History) → floor < model.size h → ends_above floor (shut h) ≡ ends_above floor h ++ model.size h ∷ []
shut_ends floor h above =
    let at : 0 + length (journals_of h.closed) + length h.waiting ≡ model.size h = omega (arith, length-append (journals_of h.closed) h.waiting) in
    ap (filter (λ end. nat_lt floor end)) (ends_push 0 h.closed h.waiting ∙ ap (λ n. model.ends h ++ n ∷ []) at)
    ∙ filter-append (λ end. nat_lt floor end) (model.ends h) (model.size h ∷ [])
    ∙ ap (λ b. ends_above floor h ++ cond b (model.size h ∷ []) []) (lt-ltb floor (model.size h) above)

-- a block's end, where a journal waits
stands_shut : (k : Kept) (h : History) (root : Digest) (ends : List ℕ) → Stands k h → k.sealed < k.size → root.0 ≡ model.root h (model.size h) → ends ≡ k.ends ++ k.size ∷ []
    → Stands (record k { blocks = k.blocks + 1; sealed = k.size; ends = ends; root = root }) (shut h)
unfolding model.seen_point model.id members
stands_shut k h root ends s some r more =
    let e = shut_journals h in
    let all = shut_sealed h in
    let above : k.floor < model.size h = omega (arith, s.counts.floor, s.counts.size, s.counts.sealed_is, some) in record {
      lawful = subst AreLawful (sym e) s.lawful;
      counts = record {
        size = s.counts.size ∙ sym (ap length e);
        floor = omega (arith, above, all);
        point = s.counts.point ∙ ap (λ (js : List Entry). greatest_point (drop k.floor js)) (sym e);
        blocks = omega (arith, s.counts.blocks, length-append h.closed (h.waiting ∷ []));
        sealed_is = s.counts.size ∙ sym all;
        ends = more ∙ ap (λ x. x ++ k.size ∷ []) s.counts.ends ∙ ap (λ n. ends_above k.floor h ++ n ∷ []) s.counts.size ∙ sym (shut_ends k.floor h above);
      };
      tree = record {
        root = r ∙ sym (shut_root h (model.size h)) ∙ ap (model.root (shut h)) (sym all);
        id = s.tree.id ∙ ap first_leaf_digest (sym e);
        headers_are = s.tree.headers_are ∙ ap (λ (js : List Entry). drop k.floor (map (λ (j : Entry). j.header) js)) (sym e);
        leaves = subst (λ (js : List Entry). StandsFor sha256 k.tree (map leaf_digest js)) (sym e) s.tree.leaves;
      };
      members = s.members ∙ ap (λ js. aged_members k.floor (founders js ++ admitted_members js)) (sym e);
      clues = subst (λ (js : List Entry). index.StandsForTrails k.clues (clues_added k.floor js)) (sym e) s.clues;
      hiders = λ n le. s.hiders n le ∙ ap (λ (js : List Entry). hider_among js (slice_get js n)) (sym e);
      times = s.times ∙ ap (λ (js : List Entry). marks_from k.point (marks_of (drop k.floor js))) (sym e);
    }

pub stands_closed : (k : Kept) (h : History) (root : Digest) (ends : List ℕ) → Stands k h → k.sealed < k.size → root.0 ≡ model.root h (model.size h) → ends ≡ k.ends ++ k.size ∷ []
    → Stands (record k { blocks = k.blocks + 1; sealed = k.size; ends = ends; root = root }) (close h)
stands_closed k h root ends s some r more =
    subst (Stands (record k { blocks = k.blocks + 1; sealed = k.size; ends = ends; root = root })) (shut_is h (omega (arith, waiting_count k h s))) (stands_shut k h root ends s some r more)

ended_some : (h : History) (js : List Entry) → 0 < length js → sealed_block h js ≡ Some (record { block = model.blocks h; first = sealed_size h; head = head_at h (model.size h) })
ended_some h [] some = absurd (omega (arith, some))
ended_some h (j ∷ js) some = refl

abbrev told : ℕ → ℕ → ℕ → Digest → Option Sealed
told block first size root = Some (record { block = block; first = first; head = record { size = size; root = root } })

pub seal_some : (k : Kept) (h : History) (root : Digest) → Stands k h → k.sealed < k.size → root.0 ≡ model.root h (model.size h) → told k.blocks k.sealed k.size root ≡ seal_of h
seal_some k h root s some r =
    ap (λ x. told x k.sealed k.size root) s.counts.blocks ∙ ap (λ x. told (model.blocks h) x k.size root) s.counts.sealed_is ∙ ap (λ x. told (model.blocks h) (sealed_size h) x root) s.counts.size
    ∙ ap (λ x. told (model.blocks h) (sealed_size h) (model.size h) (digest x)) r ∙ sym (ended_some h h.waiting (omega (arith, waiting_count k h s)))

-- what can be shown of a journal
pub view_absent : (k : Kept) (h : History) (n : ℕ) → Serves k h → k.size ≤ n → view.Absent ≡ outcomes.view h n
unfolding outcomes.view
view_absent k h n s above = sym (ap (λ v. cond v view.Absent (cond (nat_lt n (model.point h)) (view.Purged (model.point h)) (cond (is_hidden h n) view.Occulted view.Whole))) (le-leb (model.size h) n (omega (arith, s.stands.counts.size))))

view_there : (h : History) (n : ℕ) → n < model.size h → cond (nat_lt n (model.point h)) (view.Purged (model.point h)) (cond (is_hidden h n) view.Occulted view.Whole) ≡ outcomes.view h n
unfolding outcomes.view
view_there h n below = sym (ap (λ v. cond v view.Absent (cond (nat_lt n (model.point h)) (view.Purged (model.point h)) (cond (is_hidden h n) view.Occulted view.Whole))) (lt-leb (model.size h) n below))

pub view_purged : (k : Kept) (h : History) (n : ℕ) → Serves k h → n < k.size → n < k.point → view.Purged k.point ≡ outcomes.view h n
view_purged k h n s below purged =
    ap view.Purged (point_is k h s)
    ∙ sym (ap (λ v. cond v (view.Purged (model.point h)) (cond (is_hidden h n) view.Occulted view.Whole)) (lt-ltb n (model.point h) (omega (arith, purged, point_is k h s))))
    ∙ view_there h n (omega (arith, below, s.stands.counts.size))

pub view_kept : (k : Kept) (h : History) (n : ℕ) (by : Option ℕ) → Serves k h → n < k.size → k.point ≤ n → by ≡ hider_in k.floor k.hiders n → cond (is_some by) view.Occulted view.Whole ≡ outcomes.view h n
view_kept k h n by s below kept told =
    sym (ap (λ v. cond v view.Occulted view.Whole) (hidden_is h n ∙ ap is_some (sym (told ∙ s.stands.hiders n (omega (arith, s.seen, kept))))))
    ∙ sym (ap (λ v. cond v (view.Purged (model.point h)) (cond (is_hidden h n) view.Occulted view.Whole)) (le-ltb n (model.point h) (omega (arith, kept, point_is k h s))))
    ∙ view_there h n (omega (arith, below, s.stands.counts.size))

-- the history with a journal more in its open block
abbrev wider : History → Entry → History
wider h j = history h.closed (h.waiting ++ j ∷ [])

wider_size : (h : History) (j : Entry) → model.size (wider h j) ≡ model.size h + 1
wider_size h j = ap length (journals_wider h j) ∙ length-append (journals h) (j ∷ [])

first_kept : (js more : List Entry) → 0 < length js → first_leaf_digest (js ++ more) ≡ first_leaf_digest js
first_kept [] more some = absurd (omega (arith, some))
first_kept (j ∷ js) more some = refl

-- a journal more in the open block
stands_wider : (k : Kept) (h : History) (j : Entry) (reached : Bool) (ms : List Member) (t : index.KeptTrails) (by clued : List ℕ) (fronts : List (ℕ × ℕ)) (rows : Levels) → Stands k h → MayPlace h j.header → by ≡ with_hider_of k.floor j.header clued k.hiders → AreOfClue k.floor (journals h) j.header clued → k.floor + length k.hiders ≡ k.size
    → aged_members k.floor ms ≡ aged_members k.floor (members (wider h j)) → index.StandsForTrails t (clues_added k.floor (journals (wider h j)))
    → StandsFor sha256 rows (leaf_digests h ++ leaf_digest j ∷ [])
    → Stands (record k { reached = reached; size = k.size + 1; point = point_with j.header k.point; members = ms; clues = t; hiders = by; fronts = fronts; times = with_time_of k.size j.header k.times; headers = k.headers ++ j.header ∷ []; tree = rows }) (wider h j)
unfolding model.seen_point model.id
stands_wider k h j reached ms t by clued fronts rows s next hides clued_are all same clues leaves =
    let e = journals_wider h j in
    let some = some_journal (journals h) s.lawful in
    let below : length (journals_of h.closed) ≤ model.size h = omega (arith, length-append (journals_of h.closed) h.waiting) in
    let low : k.floor ≤ model.size h = omega (arith, s.counts.floor, below) in record {
      lawful = subst AreLawful (sym e) (lawful_more (journals h) j s.lawful next);
      counts = record {
        size = omega (arith, s.counts.size, wider_size h j);
        floor = s.counts.floor;
        point =
            point_more k h j s next
            ∙ ap greatest_point (sym (ap (drop k.floor) e ∙ drop-append-le k.floor (journals h) (j ∷ []) low));
        blocks = s.counts.blocks;
        sealed_is = s.counts.sealed_is;
        ends = s.counts.ends;
      };
      tree = record {
        root = s.tree.root ∙ sym (root_kept h (wider h j) (j ∷ []) (length (journals_of h.closed)) e below);
        id = s.tree.id ∙ sym (ap first_leaf_digest e ∙ first_kept (journals h) (j ∷ []) some);
        headers_are =
            ap (λ hs. hs ++ j.header ∷ []) s.tree.headers_are ∙ sym (drop-append-le k.floor (headers h) (j.header ∷ []) (omega (arith, low, length-map (journals h) (λ (x : Entry). x.header))))
            ∙ ap (drop k.floor) (sym (ap (map (λ (x : Entry). x.header)) e ∙ map-append (λ (x : Entry). x.header) (journals h) (j ∷ [])));
        leaves = subst (StandsFor sha256 rows) (sym (ap (map leaf_digest) e ∙ map-append leaf_digest (journals h) (j ∷ []))) leaves;
      };
      members = same;
      clues = clues;
      hiders = subst (λ (l : List ℕ). TellHiders l k.floor (wider h j)) (sym hides) (hiders_more k.hiders k.floor h j clued s.lawful next s.hiders (all ∙ s.counts.size) clued_are);
      times = times_more k h j s next ∙ ap (λ (js : List Entry). marks_from (point_with j.header k.point) (marks_of (drop k.floor js))) (sym e);
    }

-- the clues with a journal more
wider_clues : (floor : ℕ) (h : History) (j : Entry) → with_clue_of j.header (clues_added floor (journals h)) ≡ clues_added floor (journals (wider h j))
wider_clues floor h j =
    elim (is_no_clue j.header.clue) as (λ b. is_no_clue j.header.clue ≡ b → cond b (clues_added floor (journals h)) (with_mark j.header.clue.0 j.header.jsn (clues_added floor (journals h))) ≡ clues_added floor (journals (wider h j))) [
      | true ↦ λ is. sym (marks_same floor (journals h) j (ap not is)) ∙ ap (clues_added floor) (sym (journals_wider h j))
      | false ↦ λ is. sym (marks_more floor (journals h) j (ap not is)) ∙ ap (clues_added floor) (sym (journals_wider h j))
    ] refl

wider_members_same : (h : History) (j : Entry) → 1 ≤ model.size h → admits j ≡ false → members (wider h j) ≡ members h
unfolding members
wider_members_same h j some none =
    ap (λ js. founders js ++ admitted_members js) (journals_wider h j) ∙ ap (λ x. x ++ admitted_members (journals h ++ j ∷ [])) (founders_kept (journals h) (j ∷ []) some)
    ∙ ap (λ x. founders (journals h) ++ x) (admitted_same (journals h) j none)

wider_members_more : (h : History) (j : Entry) → 1 ≤ model.size h → admits j ≡ true → members (wider h j) ≡ members h ++ member_of j ∷ []
unfolding members
wider_members_more h j some one =
    ap (λ js. founders js ++ admitted_members js) (journals_wider h j) ∙ ap (λ x. x ++ admitted_members (journals h ++ j ∷ [])) (founders_kept (journals h) (j ∷ []) some)
    ∙ ap (λ x. founders (journals h) ++ x) (admitted_more (journals h) j one) ∙ sym (append_assoc (founders (journals h)) (admitted_members (journals h)) (member_of j ∷ []))

-- what an index of clues that was given a journal's clue tells
abbrev pub AddsClue : index.KeptTrails → index.KeptTrails → Header → Type 0
AddsClue old new header = (a : Added) → clue_ok header.kind header.clue ≡ true → clue_ord_ok header.clue header.clue_ord ≡ true → index.StandsForTrails old a → a.floor ≤ header.jsn → All (λ m. m.jsn < header.jsn) a.marks → index.StandsForTrails new (with_clue_of header a)

-- the lists with a header more
pub record Grown (k : Kept) (hs : List Header) (by : List ℕ) (rows : Levels) (ends : List ℕ) (header : Header) (tip : Digest) : Type 0 where
  pub headers_are : hs ≡ k.headers ++ header ∷ []
  pub clued : List ℕ
  pub clued_are : AreClued k.clues header clued
  pub hiders_are : by ≡ with_hider_of k.floor header clued k.hiders
  pub all : k.floor + length k.hiders ≡ k.size
  pub leaves_are : (ds : List (List ℕ)) → StandsFor sha256 k.tree ds → StandsFor sha256 rows (ds ++ tip.0 ∷ [])
  pub ends_are : ends ≡ k.ends
  pub tip_is : IsLeafOf header tip

-- what a book keeps behind a journal
abbrev pub kept_with : Kept → Bool → ℕ → List Member → index.KeptTrails → List ℕ → List (ℕ × ℕ) → List TimeMark → List Header → Levels → List ℕ → Kept
kept_with k reached point ms t by fronts times hs rows ends = record k { reached = reached; size = k.size + 1; point = point; ends = ends; members = ms; clues = t; hiders = by; fronts = fronts; times = times; headers = hs; tree = rows }

-- with lists that are equal to those
grown : (k : Kept) (g : History) (j : Entry) (reached : Bool) (point : ℕ) (ms : List Member) (t : index.KeptTrails) (by : List ℕ) (fronts : List (ℕ × ℕ)) (times : List TimeMark) (hs : List Header) (rows : Levels) (ends : List ℕ) (header : Header)
    → j.header ≡ header → point ≡ point_with header k.point → times ≡ with_time_of k.size header k.times → hs ≡ k.headers ++ header ∷ [] → ends ≡ k.ends
    → Stands (kept_with k reached (point_with j.header k.point) ms t by fronts (with_time_of k.size j.header k.times) (k.headers ++ j.header ∷ []) rows k.ends) g → Stands (kept_with k reached point ms t by fronts times hs rows ends) g
grown k g j reached point ms t by fronts times hs rows ends header is at times_are heads_are ends_are s =
    let heads : k.headers ++ j.header ∷ [] ≡ hs = ap (λ x. k.headers ++ x ∷ []) is ∙ sym heads_are in
    let timed : with_time_of k.size j.header k.times ≡ times = ap (λ x. with_time_of k.size x k.times) is ∙ sym times_are in
    let pointed : point_with j.header k.point ≡ point = ap (λ x. point_with x k.point) is ∙ sym at in
    subst (λ (x : List ℕ). Stands (kept_with k reached point ms t by fronts times hs rows x) g) (sym ends_are)
    (subst (λ (x : List TimeMark). Stands (kept_with k reached point ms t by fronts x hs rows k.ends) g) timed
    (subst (λ (x : List Header). Stands (kept_with k reached point ms t by fronts (with_time_of k.size j.header k.times) x rows k.ends) g) heads
    (subst (λ (x : ℕ). Stands (kept_with k reached x ms t by fronts (with_time_of k.size j.header k.times) (k.headers ++ j.header ∷ []) rows k.ends) g) pointed s)))

module _ (k : Kept) (h : History) (j : Entry) (header : Header) (s : Stands k h) (is : j.header ≡ header) (next : MayPlace h header) where
  placing : MayPlace h j.header
  placing = subst (MayPlace h) (sym is) next

  some_yet : 1 ≤ model.size h
  some_yet = some_journal (journals h) s.lawful

  low : k.floor ≤ model.size h
  low = omega (arith, s.counts.floor, length-append (journals_of h.closed) h.waiting)

  -- the kept journals of the clue that it may name
  clued_of : (clued : List ℕ) → AreClued k.clues header clued → AreOfClue k.floor (journals h) j.header clued
  unfolding jsns_with
  clued_of clued are = subst (λ (x : Header). AreOfClue k.floor (journals h) x clued) (sym is) (λ kind_is. told_kept k h header.link clued s (are kind_is))

  -- the tree with the journal's leaf
  leaf_more : (rows : Levels) (tip : Digest) → IsLeafOf header tip → ((ds : List (List ℕ)) → StandsFor sha256 k.tree ds → StandsFor sha256 rows (ds ++ tip.0 ∷ [])) → StandsFor sha256 rows (leaf_digests h ++ leaf_digest j ∷ [])
  leaf_more rows tip tip_is more =
      let same : tip.0 ≡ leaf_digest j = tip_is ∙ ap (λ (x : Header). tree.leaf sha256 (spelling x)) (sym is) in
      subst (λ d. StandsFor sha256 rows (leaf_digests h ++ d ∷ [])) same (more (leaf_digests h) s.tree.leaves)

  -- a journal that is no new member
  pub stands_record : (reached : Bool) (point : ℕ) (t : index.KeptTrails) (by : List ℕ) (fronts : List (ℕ × ℕ)) (times : List TimeMark) (hs : List Header) (rows : Levels) (ends : List ℕ) (tip : Digest) → is_member header.kind ≡ false → AddsClue k.clues t header
      → point ≡ point_with header k.point → times ≡ with_time_of k.size header k.times → Grown k hs by rows ends header tip → Stands (kept_with k reached point k.members t by fronts times hs rows ends) (wider h j)
  stands_record reached point t by fronts times hs rows ends tip content adds at timed more =
      let kind_is : is_member j.header.kind ≡ false = ap (λ (x : Header). is_member x.kind) is ∙ content in
      let told = adds (clues_added k.floor (journals h)) next.layout.clue next.layout.clue_ord s.clues (omega (arith, low, next.jsn)) (subst (λ n. All (λ (m : Mark). m.jsn < n) (clues_added k.floor (journals h)).marks) (sym next.jsn) (marks_below k.floor (journals h) s.lawful)) in
      let clues : index.StandsForTrails t (clues_added k.floor (journals (wider h j))) = subst (index.StandsForTrails t) (ap (λ (x : Header). with_clue_of x (clues_added k.floor (journals h))) (sym is) ∙ wider_clues k.floor h j) told in
      grown k (wider h j) j reached point k.members t by fronts times hs rows ends header is at timed more.headers_are more.ends_are
      (stands_wider k h j reached k.members t by more.clued fronts rows s placing (more.hiders_are ∙ ap (λ (x : Header). with_hider_of k.floor x more.clued k.hiders) (sym is)) (clued_of more.clued more.clued_are) more.all (s.members ∙ ap (aged_members k.floor) (sym (wider_members_same h j some_yet kind_is))) clues (leaf_more rows tip more.tip_is more.leaves_are))

  -- a new member
  pub stands_member : (ms : List Member) (by : List ℕ) (hs : List Header) (rows : Levels) (ends : List ℕ) (tip : Digest) → header.kind ≡ kind.Member → ms ≡ k.members ++ record { key = header.link; jsn = header.jsn } ∷ []
      → Grown k hs by rows ends header tip → Stands (kept_with k k.reached k.point ms k.clues by k.fronts k.times hs rows ends) (wider h j)
  stands_member ms by hs rows ends tip member added more =
      let kind_is : j.header.kind ≡ kind.Member = ap (λ (x : Header). x.kind) is ∙ member in
      let none_j : is_no_clue j.header.clue ≡ true = ap (λ (x : Header). is_no_clue x.clue) is ∙ subst (λ (x : Kind). clue_ok x header.clue ≡ true) member next.layout.clue in
      let same : clues_added k.floor (journals h) ≡ clues_added k.floor (journals (wider h j)) = sym (ap (λ b. cond b (clues_added k.floor (journals h)) (with_mark j.header.clue.0 j.header.jsn (clues_added k.floor (journals h)))) none_j) ∙ wider_clues k.floor h j in
      let joined : aged_members k.floor ms ≡ aged_members k.floor (members (wider h j)) =
      ap (aged_members k.floor) (added ∙ ap (λ (x : Header). k.members ++ record { key = x.link; jsn = x.jsn } ∷ []) (sym is)) ∙ map-append (aged_member k.floor) k.members (member_of j ∷ [])
      ∙ ap (λ x. x ++ aged_members k.floor (member_of j ∷ [])) s.members ∙ sym (map-append (aged_member k.floor) (members h) (member_of j ∷ []))
      ∙ ap (aged_members k.floor) (sym (wider_members_more h j some_yet (ap is_member kind_is))) in
      let timed : k.times ≡ with_time_of k.size header k.times = sym (ap (λ (x : Kind). cond (is_time x) (k.times ++ record { jsn = k.size; index = header.a; time = header.b } ∷ []) (cond (is_purge x) (marks_from header.a k.times) k.times)) member) in
      let at : k.point ≡ point_with header k.point = sym (ap (λ (x : Kind). cond (is_purge x) header.a k.point) member) in
      grown k (wider h j) j k.reached k.point ms k.clues by k.fronts k.times hs rows ends header is at timed more.headers_are more.ends_are
      (stands_wider k h j k.reached ms k.clues by more.clued k.fronts rows s placing (more.hiders_are ∙ ap (λ (x : Header). with_hider_of k.floor x more.clued k.hiders) (sym is)) (clued_of more.clued more.clued_are) more.all joined (subst (index.StandsForTrails k.clues) same s.clues) (leaf_more rows tip more.tip_is more.leaves_are))

-- more room for the tree changes nothing
pub as_before_stands : (old new : Kept) (h : History) → IsAsBefore old new → Stands old h → Stands new h
as_before_stands old new h same s =
    let moved : Stands (record old { tree = new.tree }) h = record {
      lawful = s.lawful;
      counts = record { size = s.counts.size; floor = s.counts.floor; point = s.counts.point; blocks = s.counts.blocks; sealed_is = s.counts.sealed_is; ends = s.counts.ends };
      tree = record { root = s.tree.root; id = s.tree.id; headers_are = s.tree.headers_are; leaves = same.tree (leaf_digests h) s.tree.leaves };
      members = s.members;
      clues = s.clues;
      hiders = s.hiders;
      times = s.times;
    } in
    subst (λ (k : Kept). Stands k h) (sym same.kept) moved

pub as_before_serves : (old new : Kept) (h : History) → IsAsBefore old new → Serves old h → Serves new h
as_before_serves old new h same s = record {
  stands = as_before_stands old new h same s.stands;
  reached = ap (λ (k : Kept). k.reached) same.kept ∙ s.reached;
  seen = subst (λ (k : Kept). k.floor ≤ k.point) (sym same.kept) s.seen;
}
