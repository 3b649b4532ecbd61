-- Lemmas on a book that is made of a base: it stands for each history that ends with it.
use Rattle.std.specs.Prelude.{All, Option, Some, None, filter, slice_get, zero, suc, get_or, nat_lt, nat_le}
use Rattle.std.specs.Option.{is_some}
use Rattle.std.proofs.Common.{◌≡◌, ℕ, ◌+◌, ◌-◌, ◌<◌, ◌≤◌, Bool, true, false, cond, List, [], ◌∷◌, ◌++◌, length, map, take, refl, sym, ◌∙◌, ap, subst, arith, append-nil, length-append}
use Rattle.std.proofs.lemmas.Bool.{le-leb, le-ltb, lt-ltb, leb-true, and_parts}
use Rattle.std.proofs.lemmas.List.{length-map, take_all, drop_all}
use Rattle.std.proofs.lemmas.List.Elements.{All-nil, All-head, All-tail}
use Rattle.sha2.specs.Sha256.{sha256}
use Rattle.tree_model.specs.Tree as tree
use Rattle.tree_model.specs.Peaks.{peaks}
use Rattle.ledger_bytes.specs.Digests.{digest}
use Rattle.ledger_bytes.specs.declared.digest.Digest.{Digest}
use Rattle.clue_index.specs.Added.{Added, Mark, states_at, with_floor, added_at_first, from_point}
use Rattle.clue_index.specs.declared.state.ClueState.{ClueState}
use Rattle.clue_index.specs.Index as index
use Rattle.clue_index.proofs.CarryLaws.{stands_carried}
use Rattle.journal_record.specs.Entry.{Entry}
use Rattle.journal_record.specs.Header.{spelling}
use Rattle.journal_record.specs.declared.member.Member.{Member}
use Rattle.ledger_model.specs.Ends.{ends_from}
use Rattle.ledger_model.specs.History as model
use Rattle.ledger_model.specs.History.{History, journals, journals_of, size, leaf_digest, greatest_point}
use Rattle.ledger_model.specs.Members.{members, founders, admitted_members}
use Rattle.merkle_batch.specs.Rows.{StandsFor}
use Rattle.merkle_batch.specs.Over.{StandsOver}
use Rattle.pseudo_genesis.specs.Bases.{IsBase}
use Rattle.pseudo_genesis.specs.declared.base.Base.{Base}
use Rattle.pseudo_genesis.specs.declared.base.TheConstants.{POINT_LIMIT}
use Rattle.ledger_book.proofs.StandsLaws.{digests_of}
use Rattle.ledger_book.specs.Books.{Kept, Stands, headers, leaf_digests, sealed_size, aged_members}
use Rattle.ledger_model.specs.Bases.{front, clues_added}
use Rattle.ledger_model.specs.Bounds.{marks_of}
use Rattle.time_peg.specs.Times.{marks_from}
use Rattle.ledger_book.specs.Basing.{member_with}
use Rattle.ledger_book.specs.Fronts.{namer_in}
use Rattle.ledger_book.specs.Hiders.{told_hider, hider_in}
use Rattle.ledger_book.specs.Reading.{EndsWith, StandsBehind}
use Rattle.ledger_model.specs.Targets.{hider_among}
use Rattle.ledger_model.proofs.LawfulLaws.{lawful_from}
use Rattle.ledger_model.proofs.MarkLaws.{marks, marks_ascend, marks_clear, marks_low}
use Rattle.ledger_model.proofs.NumberLaws.{members_low}

-- what a book is made of, by a base: the parts are those that their calls give
pub record IsBased (b : Base) (k : Kept) : Type 0 where
  pub floor : k.floor ≡ b.point
  pub size_is : k.size ≡ b.point
  pub point : k.point ≡ 0
  pub reached : k.reached ≡ false
  pub blocks : k.blocks ≡ b.blocks
  pub sealed : k.sealed ≡ b.point
  pub ends : k.ends ≡ []
  pub id : k.id ≡ b.id
  pub members_are : k.members ≡ map member_with b.keys
  pub clues : index.StandsForTrails k.clues (with_floor b.point (added_at_first b.clues))
  pub hiders : k.hiders ≡ []
  pub fronts : k.fronts ≡ []
  pub times : k.times ≡ []
  pub headers_are : k.headers ≡ []
  pub tree_is : (ds : List (List ℕ)) → length ds ≡ b.point → map (λ (d : Digest). d.0) b.peaks ≡ peaks sha256 ds → StandsFor sha256 k.tree ds
  pub root_is : (ds : List (List ℕ)) → StandsFor sha256 k.tree ds → k.root.0 ≡ tree.root sha256 ds

none_told : (i : ℕ) → (let none : Option ℕ = None in told_hider (get_or [] i 0) ≡ none)
none_told zero = refl
none_told (suc i) = refl

none_hides : (i : ℕ) → is_some (told_hider (get_or [] i 0)) ≡ false
none_hides i = ap is_some (none_told i)

-- where nothing was read yet
pub based_behind : (b : Base) (k : Kept) → IsBase b → IsBased b k → StandsOver sha256 k.tree b.point (map (λ (d : Digest). d.0) b.peaks) [] → StandsBehind k (Some b) []
based_behind b k base x over = record {
  begins = base;
  are = tt;
  floor = x.floor;
  size_is = x.size_is ∙ omega arith;
  point = x.point;
  reached = x.reached;
  members = ap length x.members_are ∙ length-map b.keys member_with ∙ omega arith;
  clues = x.clues;
  hiders = λ n le. ap (λ (l : List ℕ). is_some (hider_in k.floor l n)) x.hiders ∙ none_hides (n - k.floor);
  fronts = λ unseen n lt. ap (λ (l : List (ℕ × ℕ)). is_some (namer_in n l)) x.fronts;
  headers_are = x.headers_are;
  leaves = over;
}

pub some_point : (b : Base) → IsBase b → 0 < b.point
some_point b base = leb-true 1 b.point (and_parts (nat_le 1 b.point) (nat_le b.point POINT_LIMIT) base.point).0

-- digests are told as their bytes
bytes_again : (xs : List (List ℕ)) → map (λ (d : Digest). d.0) (map digest xs) ≡ xs
bytes_again [] = refl
bytes_again (x ∷ xs) = ap (λ (l : List (List ℕ)). x ∷ l) (bytes_again xs)

-- no journal is there
none_there : (es : List Entry) (n : ℕ) → length es ≤ n → (let none : Option Entry = None in slice_get es n ≡ none)
none_there [] n le = refl
none_there (e ∷ es) zero le = absurd (omega (arith, le))
none_there (e ∷ es) (suc n) le = none_there es n (omega (arith, le))

pub ends_count : {A : Type 0} (n : ℕ) (bs : List (List A)) → length (ends_from n bs) ≡ length bs
ends_count n [] = refl
ends_count n (b ∷ bs) = omega (arith, ends_count (n + length b) bs)

-- all ends are within the size
pub ends_within : (n p : ℕ) (bs : List (List Entry)) → n + length (journals_of bs) ≤ p → filter (λ end. nat_le end p) (ends_from n bs) ≡ ends_from n bs
ends_within n p [] le = refl
ends_within n p (b ∷ bs) le =
    let here : n + length b ≤ p = omega (arith, le, length-append b (journals_of bs)) in
    ap (λ v. cond v ((n + length b) ∷ filter (λ end. nat_le end p) (ends_from (n + length b) bs)) (filter (λ end. nat_le end p) (ends_from (n + length b) bs))) (le-leb (n + length b) p here)
    ∙ ap (λ (l : List ℕ). (n + length b) ∷ l) (ends_within (n + length b) p bs (omega (arith, le, length-append b (journals_of bs))))

-- .. and none is above it
pub ends_none : (n p : ℕ) (bs : List (List Entry)) → n + length (journals_of bs) ≤ p → filter (λ end. nat_lt p end) (ends_from n bs) ≡ []
ends_none n p [] le = refl
ends_none n p (b ∷ bs) le =
    let here : n + length b ≤ p = omega (arith, le, length-append b (journals_of bs)) in
    ap (λ v. cond v ((n + length b) ∷ filter (λ end. nat_lt p end) (ends_from (n + length b) bs)) (filter (λ end. nat_lt p end) (ends_from (n + length b) bs))) (le-ltb p (n + length b) here)
    ∙ ends_none (n + length b) p bs (omega (arith, le, length-append b (journals_of bs)))

abbrev first_member : Member → Member
first_member m = record { key = m.key; jsn = 0 }

zero_at : Bool → ℕ
zero_at v = cond v 0 0

zero_is : (v : Bool) → zero_at v ≡ 0
unfolding zero_at
zero_is true = refl
zero_is false = refl

-- members whose journals aren't kept
aged_low : (p : ℕ) (ms : List Member) → All (λ (m : Member). m.jsn < p) ms → aged_members p ms ≡ map first_member ms
aged_low p [] all = refl
aged_low p (m ∷ ms) all =
    ap (λ v. record { key = m.key; jsn = cond v 0 m.jsn } ∷ aged_members p ms) (lt-ltb m.jsn p (All-head (λ (x : Member). x.jsn < p) m ms all))
    ∙ ap (λ (l : List Member). first_member m ∷ l) (aged_low p ms (All-tail (λ (x : Member). x.jsn < p) m ms all))

aged_with : (p : ℕ) (ms : List Member) → aged_members p (map member_with (map (λ (m : Member). m.key) ms)) ≡ map first_member ms
unfolding zero_at
aged_with p [] = refl
aged_with p (m ∷ ms) =
    ap (λ n. record { key = m.key; jsn = n } ∷ aged_members p (map member_with (map (λ (m : Member). m.key) ms))) (zero_is (nat_lt 0 p)) ∙ ap (λ (l : List Member). first_member m ∷ l) (aged_with p ms)

module _ (b : Base) (k : Kept) (h : History) (x : IsBased b k) (e : EndsWith b h) (some : 0 < b.point) where
  abbrev p : ℕ
  p = b.point

  all_closed : journals h ≡ journals_of h.closed
  all_closed = ap (λ (l : List Entry). journals_of h.closed ++ l) e.none ∙ append-nil (journals_of h.closed)

  sealed : sealed_size h ≡ p
  sealed = sym (ap length all_closed) ∙ e.size_is

  whole_front : take p (journals h) ≡ journals h
  whole_front = take_all p (journals h) (omega (arith, e.size_is))

  members_front : members (front h p) ≡ members h
  unfolding members
  members_front = ap (λ (js : List Entry). founders js ++ admitted_members js) whole_front

  peaks_told : map (λ (d : Digest). d.0) b.peaks ≡ peaks sha256 (leaf_digests h)
  peaks_told =
      ap (λ (x : Base). map (λ (d : Digest). d.0) x.peaks) (sym e.base_is) ∙ bytes_again (peaks sha256 (take p (leaf_digests h)))
      ∙ ap (peaks sha256) (take_all p (leaf_digests h) (omega (arith, e.size_is, length-map (journals h) leaf_digest)))

  leaves : StandsFor sha256 k.tree (leaf_digests h)
  leaves = x.tree_is (leaf_digests h) (length-map (journals h) leaf_digest ∙ e.size_is) peaks_told

  root_told : k.root.0 ≡ model.root h (sealed_size h)
  unfolding model.root
  root_told =
      x.root_is (leaf_digests h) leaves ∙ ap (tree.root sha256) (digests_of (journals h))
      ∙ ap (tree.mth sha256) (sym (take_all (sealed_size h) (model.leaves h) (omega (arith, sealed, e.size_is, length-map (journals h) (λ (j : Entry). spelling j.header)))))

  abbrev given : Added
  given = clues_added 0 (journals h)

  from_clues : index.StandsForTrails k.clues (clues_added p (journals h))
  from_clues =
      let from = lawful_from (journals h) e.lawful in
      let states : b.clues ≡ states_at p given = ap (λ (x : Base). x.clues) (sym e.base_is) ∙ ap (λ (js : List Entry). states_at p (clues_added 0 js)) whole_front in
      let none : filter (λ (m : Mark). nat_le p m.jsn) (marks (journals h)) ≡ [] = marks_low 0 p (journals h) from (omega (arith, e.size_is)) in
      let start : index.StandsForTrails k.clues (from_point p given) =
      subst (index.StandsForTrails k.clues) (ap (λ (s : List ClueState). with_floor p (added_at_first s)) states ∙ ap (λ (ms : List Mark). record { states = states_at p given; marks = ms; floor = p }) (sym none)) x.clues in
      stands_carried k.clues given p (marks_ascend 0 (journals h) from) (marks_clear 0 (journals h)) (All-nil (λ (s : ClueState). 0 < s.count)) start

  pub based_stands : Stands k h
  unfolding model.seen_point
  based_stands = record {
    lawful = e.lawful;
    counts = record {
      size = x.size_is ∙ sym e.size_is;
      floor = omega (arith, x.floor, sealed);
      point = x.point ∙ sym (ap greatest_point (drop_all k.floor (journals h) (omega (arith, x.floor, e.size_is))));
      blocks = x.blocks ∙ ap (λ (x : Base). x.blocks) (sym e.base_is) ∙ ap length (ends_within 0 p h.closed (omega (arith, sealed))) ∙ ends_count 0 h.closed;
      sealed_is = x.sealed ∙ sym sealed;
      ends = x.ends ∙ sym (ends_none 0 k.floor h.closed (omega (arith, sealed, x.floor)));
    };
    tree = record {
      root = root_told;
      id = ap (λ (d : Digest). d.0) x.id ∙ ap (λ (x : Base). x.id.0) (sym e.base_is);
      headers_are = x.headers_are ∙ sym (drop_all k.floor (headers h) (omega (arith, x.floor, e.size_is, length-map (journals h) (λ (j : Entry). j.header))));
      leaves = leaves;
    };
    members =
        let keys : b.keys ≡ map (λ (m : Member). m.key) (members h) = ap (λ (x : Base). x.keys) (sym e.base_is) ∙ ap (map (λ (m : Member). m.key)) members_front in
        ap (aged_members k.floor) (x.members_are ∙ ap (map member_with) keys) ∙ aged_with k.floor (members h)
        ∙ sym (aged_low k.floor (members h) (subst (λ n. All (λ (m : Member). m.jsn < n) (members h)) (sym x.floor) (members_low p h e.lawful some (omega (arith, e.size_is)))));
    clues = subst (λ n. index.StandsForTrails k.clues (clues_added n (journals h))) (sym x.floor) from_clues;
    hiders = λ n le. ap (λ (l : List ℕ). hider_in k.floor l n) x.hiders ∙ none_told (n - k.floor) ∙ sym (ap (hider_among (journals h)) (none_there (journals h) n (omega (arith, le, x.floor, e.size_is))));
    times = x.times ∙ sym (ap (λ (js : List Entry). marks_from k.point (marks_of js)) (drop_all k.floor (journals h) (omega (arith, x.floor, e.size_is))));
  }
