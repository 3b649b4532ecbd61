-- Lemmas on a book that keeps less: only what journals from the point on need.
use Rattle.std.specs.Prelude.{filter, nat_lt, max}
use Rattle.std.proofs.Common.{◌≡◌, ℕ, ◌+◌, ◌-◌, ◌≤◌, Bool, true, false, cond, List, [], ◌∷◌, drop, refl, sym, ◌∙◌, ap, subst, arith, drop-drop}
use Rattle.std.proofs.lemmas.Bool.{le-ltb, lt-ltb, ltb-true, ltb-false}
use Rattle.sha2.specs.Sha256.{sha256}
use Rattle.clue_index.specs.Added.{Added, with_floor}
use Rattle.clue_index.specs.Index as index
use Rattle.journal_record.specs.declared.header.Header.{Header}
use Rattle.journal_record.specs.declared.member.Member.{Member}
use Rattle.merkle_batch.specs.Rows.{Levels, StandsFor}
use Rattle.time_peg.specs.Times.{marks_from}
use Rattle.ledger_model.specs.Bases.{clues_added}
use Rattle.ledger_model.specs.Bounds.{marks_of}
use Rattle.ledger_model.specs.History as model
use Rattle.ledger_model.specs.History.{History, journals}
use Rattle.ledger_model.specs.Members as member
use Rattle.ledger_model.proofs.BoundLaws.{later_marks_same}
use Rattle.ledger_model.proofs.LawfulLaws.{lawful_from, point_seen}
use Rattle.ledger_book.specs.Books.{Kept, Stands, Serves, headers, leaf_digests, aged_member, aged_members}
use Rattle.ledger_book.proofs.HiderLaws.{hiders_from}
use Rattle.ledger_book.proofs.StandsLaws.{point_is}

-- the ends above a later journal
ends_twice : (floor p : ℕ) (es : List ℕ) → floor ≤ p → filter (λ end. nat_lt p end) (filter (λ end. nat_lt floor end) es) ≡ filter (λ end. nat_lt p end) es
ends_twice floor p [] le = refl
ends_twice floor p (e ∷ es) le =
    let later = ends_twice floor p es le in
    elim (nat_lt floor e) as (λ v. nat_lt floor e ≡ v → filter (λ end. nat_lt p end) (cond v (e ∷ filter (λ end. nat_lt floor end) es) (filter (λ end. nat_lt floor end) es)) ≡ filter (λ end. nat_lt p end) (e ∷ es)) [
      | true ↦ λ is. ap (λ (l : List ℕ). cond (nat_lt p e) (e ∷ l) l) later
      | false ↦ λ is. later ∙ sym (ap (λ v. cond v (e ∷ filter (λ end. nat_lt p end) es) (filter (λ end. nat_lt p end) es)) (le-ltb p e (omega (arith, le, ltb-false floor e is))))
    ] refl

-- members whose journals are kept from a later one on
aged_twice : (floor p : ℕ) (ms : List Member) → floor ≤ p → aged_members p (aged_members floor ms) ≡ aged_members p ms
aged_twice floor p [] le = refl
aged_twice floor p (m ∷ ms) le =
    let later = aged_twice floor p ms le in
    elim (nat_lt m.jsn floor) as (λ v. nat_lt m.jsn floor ≡ v → aged_member p (record { key = m.key; jsn = cond v 0 m.jsn }) ∷ aged_members p (aged_members floor ms) ≡ aged_members p (m ∷ ms)) [
      | true ↦ λ is.
          ap (λ n. record { key = m.key; jsn = n } ∷ aged_members p (aged_members floor ms)) (zero_is (nat_lt 0 p) ∙ sym (ap (λ v. cond v 0 m.jsn) (lt-ltb m.jsn p (omega (arith, le, ltb-true m.jsn floor is)))))
          ∙ ap (λ (l : List Member). aged_member p m ∷ l) later
      | false ↦ λ is. ap (λ (l : List Member). aged_member p m ∷ l) later
    ] refl
  where
    zero_is : (v : Bool) → ◌≡◌ {A = ℕ} (cond v 0 0) 0
    zero_is true = refl
    zero_is false = refl

-- what a book keeps from the point on
abbrev pub cut : Kept → ℕ → List ℕ → index.KeptTrails → List ℕ → List Header → Levels → Kept
cut k p ends clues hiders hs rows = record k { floor = p; ends = ends; clues = clues; hiders = hiders; headers = hs; tree = rows }

module _ (k : Kept) (h : History) (p : ℕ) (s : Serves k h) (at : p ≡ model.point h) (low : k.floor ≤ p) (within : p ≤ k.sealed) where
  abbrev stands : Stands k h
  stands = s.stands

  seen : k.point ≡ model.seen_point p h
  seen = point_is k h s ∙ sym (point_seen h stands.lawful) ∙ ap (λ n. model.seen_point n h) (sym at)

  times_cut : k.times ≡ marks_from k.point (marks_of (drop p (journals h)))
  times_cut =
      let from = lawful_from (journals h) stands.lawful in
      let reach : 0 + p ≤ k.point = omega (arith, at, point_is k h s) in
      let early : 0 + k.floor ≤ k.point = omega (arith, s.seen) in
      stands.times ∙ later_marks_same k.floor 0 k.point (journals h) from early ∙ sym (later_marks_same p 0 k.point (journals h) from reach)

  -- .. serves the same history
  pub serves_cut : (ends : List ℕ) (clues : index.KeptTrails) (hiders : List ℕ) (hs : List Header) (rows : Levels)
      → ends ≡ filter (λ end. nat_lt p end) k.ends → ((a : Added) → index.StandsForTrails k.clues a → index.StandsForTrails clues (with_floor (max a.floor p) a))
      → hiders ≡ drop (p - k.floor) k.hiders → hs ≡ drop (p - k.floor) k.headers
      → ((ds : List (List ℕ)) → StandsFor sha256 k.tree ds → StandsFor sha256 rows ds)
      → Serves (cut k p ends clues hiders hs rows) h
  serves_cut ends clues hiders hs rows ends_are clues_are hiders_are headers_are tree_is =
      let most : max k.floor p ≡ p = omega (arith, low) in
      let from : k.floor + (p - k.floor) ≡ p = omega (arith, low) in record {
        stands = record {
          lawful = stands.lawful;
          counts = record {
            size = stands.counts.size;
            floor = omega (arith, within, stands.counts.sealed_is);
            point = seen;
            blocks = stands.counts.blocks;
            sealed_is = stands.counts.sealed_is;
            ends = ends_are ∙ ap (filter (λ end. nat_lt p end)) stands.counts.ends ∙ ends_twice k.floor p (model.ends h) low;
          };
          tree = record {
            root = stands.tree.root;
            id = stands.tree.id;
            headers_are = headers_are ∙ ap (drop (p - k.floor)) stands.tree.headers_are ∙ drop-drop (p - k.floor) k.floor (headers h) ∙ ap (λ n. drop n (headers h)) from;
            leaves = tree_is (leaf_digests h) stands.tree.leaves;
          };
          members = sym (aged_twice k.floor p k.members low) ∙ ap (aged_members p) stands.members ∙ aged_twice k.floor p (member.members h) low;
          clues = subst (λ n. index.StandsForTrails clues (clues_added n (journals h))) most (clues_are (clues_added k.floor (journals h)) stands.clues);
          hiders = λ n le. hiders_from k.floor p k.hiders hiders n low hiders_are le ∙ stands.hiders n (omega (arith, low, le));
          times = times_cut;
        };
        reached = s.reached;
        seen = omega (arith, at, point_is k h s);
      }
