-- What is kept, and what is answered where something isn't.
use Rattle.std.specs.Prelude.{IsErr, IsErrAnd, nat_le, nat_lt, bytes_eq, map, slice_get, option_map, Result, Ok, Err}
use Rattle.std.specs.List.{concat}
use Rattle.std.specs.Option.{option_or}
use Rattle.std.proofs.Common.{◌≡◌, ℕ, suc, ◌*◌, ◌/◌, ◌%◌, ◌<◌, ◌≤◌, ◌^◌, Bool, true, false, cond, inl, inr, List, [], ◌∷◌, ◌++◌, length, take, Option, Some, None, refl, sym, ap, ◌∙◌, subst, arith, append_assoc, append-nil}
use Rattle.std.proofs.lemmas.Bool.{cases_lt, le-leb, lt-leb, lt-ltb, le-ltb}
use Rattle.std.proofs.lemmas.Option.{none-some}
use Rattle.std.proofs.lemmas.Slice.Eq.{bytes_eq-Decides}
use Rattle.sha2.specs.Sha256.{sha256}
use Rattle.tree_model.specs.Path.{path, path_length}
use Rattle.tree_model.specs.Tree.{cut}
use Rattle.tree_model.proofs.Paths.{path_length_below}
use Rattle.tree_model.proofs.Pieces.{concat-cut}
use Rattle.merkle_batch.specs.declared.tree.TreeErr.{TreeErr}
use Rattle.merkle_batch.specs.declared.tree.TreeErr.TheVariants as tree_err
use Rattle.block_file.specs.declared.failure.Damage.{Damage}
use Rattle.dump_export.specs.Damages.{IsContentWhole, IsShownWhole, IsDamageOf}
use Rattle.dump_export.specs.Exports.{IsShownText}
use Rattle.dump_export.specs.declared.failure.DumpErr.TheVariants as dump_err
use Rattle.dump_model.specs.Shown.{shown}
use Rattle.journal_record.specs.Entry.{Entry, content_digest_of, who_digest_of}
use Rattle.journal_record.specs.Header.{code_of}
use Rattle.proof_codec.specs.Reading.{is_time}
use Rattle.ledger_bytes.specs.Digests.{digest}
use Rattle.ledger_bytes.specs.declared.digest.Digest.{Digest}
use Rattle.ledger_bytes.specs.declared.refusal.Refusal.{Refusal}
use Rattle.ledger_bytes.specs.declared.refusal.Refusal.TheVariants.{NoJournal, Purged, NotTime, Damaged}
use Rattle.ledger_book.specs.Books.{Kept, Stands, leaf_digests}
use Rattle.ledger_model.specs.Getting.{damage, content_damage, who_damage}
use Rattle.ledger_model.specs.History as model
use Rattle.ledger_model.specs.History.{History, journals, id, size, point}
use Rattle.ledger_model.specs.Targets.{is_hidden}
use Rattle.survivor_set.specs.Sets.{Saved, SavedSet, IsSet, saved_text, survivors_text, front_text, set_text}
use Rattle.survivor_set.specs.Outcomes.{Tells, of_tree, path_below, time_refusal}
use Rattle.survivor_set.specs.Keeping.{AreKept, IsSetOf, keep_refusal, point_refusal, place_refusal, damage_of, journal_refusal, number_refusal, numbers_refusal, StopsBy, KeepsOne, KeepsAll, KeepsSet, PutsKept, of_dump}
use Rattle.survivor_set.specs.declared.failure.SetErr.{SetErr}
use Rattle.survivor_set.specs.declared.failure.SetErr.TheVariants.{Refused, Bad, NotBelow, OtherLedger, LeafPath, DiskFault, NoMemory}
use Rattle.survivor_set.proofs.Checked.{or_err, or_ok}
use Rattle.survivor_set.proofs.Wholes.{set_only}

-- ---- by numbers

module _ (h : History) (p : ℕ) where
  pub point_absent : (n : ℕ) → n ≡ size h → size h ≤ p → point_refusal h p ≡ Some (Refused (NoJournal n))
  unfolding point_refusal
  point_absent n is above = rw (le-leb (size h) p above) (ap (λ k. Some (Refused (NoJournal k))) (sym is))

  module _ (there : p < size h) where
    pub point_purged : (q : ℕ) → q ≡ point h → p < point h → point_refusal h p ≡ Some (Refused (Purged q))
    unfolding point_refusal
    point_purged q is below = rw (lt-leb (size h) p there, lt-ltb p (point h) below) (ap (λ k. Some (Refused (Purged k))) (sym is))

    pub point_time : {A : Type 0} (r : Result A SetErr) → point h ≤ p → Tells r (time_refusal (slice_get (journals h) p)) → Tells r (point_refusal h p)
    unfolding point_refusal
    point_time r kept time = rw (lt-leb (size h) p there, le-ltb p (point h) kept) time

  pub place_purged : (n q : ℕ) → q ≡ point h → n < point h → place_refusal h p n ≡ Some (Refused (Purged q))
  unfolding place_refusal
  place_purged n q is below = rw (lt-ltb n (point h) below) (ap (λ k. Some (Refused (Purged k))) (sym is))

  pub place_above : (n : ℕ) → point h ≤ n → p ≤ n → place_refusal h p n ≡ Some (NotBelow p)
  unfolding place_refusal
  place_above n kept above = rw (le-ltb n (point h) kept, le-leb p n above) refl

  -- journals can be kept in front of a journal where nothing refuses it
  pub point_passes : point_refusal h p ≡ None → (point h ≤ p) × (p < size h)
  point_passes none = elim (cases_lt p (size h)) [
    | inr above ↦ absurd (none-some (Refused (NoJournal (size h))) (sym none ∙ point_absent (size h) refl above))
    | inl there ↦ elim (cases_lt p (point h)) [
      | inl below ↦ absurd (none-some (Refused (Purged (point h))) (sym none ∙ point_purged there (point h) refl below))
      | inr kept ↦ (kept, there)
    ]
  ]

  -- .. and one is kept where its number isn't refused
  pub place_passes : (n : ℕ) → place_refusal h p n ≡ None → (point h ≤ n) × (n < p)
  place_passes n none = elim (cases_lt n (point h)) [
    | inl below ↦ absurd (none-some (Refused (Purged (point h))) (sym none ∙ place_purged n (point h) refl below))
    | inr kept ↦ elim (cases_lt n p) [
      | inl front ↦ (kept, front)
      | inr above ↦ absurd (none-some (NotBelow p) (sym none ∙ place_above n kept above))
    ]
  ]

  pub place_none : (n : ℕ) → point h ≤ n → n < p → place_refusal h p n ≡ None
  unfolding place_refusal
  place_none n kept below = rw (le-ltb n (point h) kept, lt-leb p n below) refl

-- ---- a path of the tree

pub row_is : (row : List ℕ) (digests : List Digest) (h : History) (p n : ℕ) → length row % 32 ≡ 0 → cut 32 row ≡ map (λ (d : Digest). d.0) digests → map (λ (d : Digest). d.0) digests ≡ path sha256 n (take p (leaf_digests h)) → row ≡ path_below h p n
row_is row digests h p n whole cuts told = sym (concat-cut 32 row whole) ∙ ap concat (cuts ∙ told)

pub row_few : (row : List ℕ) (n p : ℕ) → p < 2 ^ 64 → length row ≡ 32 * path_length n p → (length row ≤ 32 * 255) × (length row % 32 ≡ 0)
row_few row n p fits len = (omega (arith, len, path_length_below 64 n p (omega (arith, fits))), omega (arith, len))

pub puts_err : (book : Kept) (p n : ℕ) (item : List ℕ) (r : Result (Unit {0}) SetErr) (e : TreeErr) (old new : List ℕ) → IsErr r × IsErrAnd r (λ f. f ≡ of_tree e) → ((h : History) → Stands book h → e ≡ tree_err.NoMemory) → PutsKept book p n item r old new
puts_err book p n item (Ok done) e old new is never = absurd (cc is.0)
puts_err book p n item (Err f) e old new is never = subst (λ (x : SetErr). PutsKept book p n item (Err x) old new) (sym is.1) (go e never)
  where
    go : (e : TreeErr) → ((h : History) → Stands book h → e ≡ tree_err.NoMemory) → PutsKept book p n item (Err (of_tree e)) old new
    go (tree_err.Below q) none = λ h s. absurd (cc (none h s))
    go (tree_err.Beyond q) none = λ h s. absurd (cc (none h s))
    go tree_err.NoMemory none = tt

pub puts_ok : (book : Kept) (p n : ℕ) (item row : List ℕ) (old new : List ℕ) → ((h : History) → Stands book h → row ≡ path_below h p n) → new ≡ old ++ (item ++ (length row / 32 ∷ row)) → (h : History) → Stands book h → new ≡ old ++ (item ++ (length (path_below h p n) / 32 ∷ path_below h p n))
puts_ok book p n item row old new is put h s = put ∙ ap (λ (t : List ℕ). old ++ (item ++ (length t / 32 ∷ t))) (is h s)

-- ---- one journal

same_damage : (kept : Digest) (found : List ℕ) → found ≡ kept.0 → damage kept found ≡ None
same_damage kept found is = rw ((bytes_eq-Decides found kept.0).1 is) refl

other_damage : (kept : Digest) (found : List ℕ) → (found ≡ kept.0 → ⊥) → damage kept found ≡ Some (Damaged kept (digest found))
other_damage kept found differ = go (bytes_eq found kept.0) (λ is. differ ((bytes_eq-Decides found kept.0).0 is))
  where
    go : (b : Bool) → (b ≡ true → ⊥) → cond b None (Some (Damaged kept (digest found))) ≡ Some (Damaged kept (digest found))
    go true never = absurd (never refl)
    go false never = refl

content_none : (hidden : Bool) (e : Entry) → IsContentWhole hidden e → cond hidden None (content_damage e.header e.content) ≡ None
content_none true e whole = refl
content_none false e whole = same_damage e.header.content_digest (content_digest_of e.content) (whole refl)

whole_none : (hidden : Bool) (e : Entry) → IsShownWhole hidden e → damage_of hidden e ≡ None
whole_none hidden e whole =
    ap (λ o. option_or o (who_damage e.header e.who)) (content_none hidden e whole.content) ∙ same_damage e.header.who_digest (who_digest_of e.who) whole.who

damaged : (hidden : Bool) (e : Entry) (d : Damage) (n : ℕ) → IsDamageOf hidden e d → option_map Refused (damage_of hidden e) ≡ Some (of_dump n (dump_err.Damaged d))
damaged hidden e d n (inl both) =
    let kept = e.header.content_digest in
    let found = content_digest_of e.content in
    let first : cond hidden None (content_damage e.header e.content) ≡ Some (Damaged kept (digest found)) = ap (λ b. cond b None (content_damage e.header e.content)) both.0 ∙ other_damage kept found both.1.1 in
    ap (λ o. option_map Refused (option_or o (who_damage e.header e.who))) first ∙ ap (λ x. Some (of_dump n (dump_err.Damaged x))) (sym both.1.0)
damaged hidden e d n (inr both) =
    let kept = e.header.who_digest in
    let found = who_digest_of e.who in
    ap (λ o. option_map Refused (option_or o (who_damage e.header e.who))) (content_none hidden e both.0) ∙ ap (option_map Refused) (other_damage kept found both.1.1) ∙ ap (λ x. Some (of_dump n (dump_err.Damaged x))) (sym both.1.0)

-- one that is read, and added or not
pub keeps_one : (h : History) (p n : ℕ) (book : Kept) (item : List ℕ) (r : Result (Unit {0}) SetErr) (old new : List ℕ) → Stands book h → place_refusal h p n ≡ None → IsShownText h n item → PutsKept book p n item r old new → KeepsOne h p n r old new
unfolding saved_text
keeps_one h p n book item (Ok done) old new stands none shows puts =
    let x : Saved = record { item = shown h shows.e; path = path_below h p n } in
    let hidden = is_hidden h shows.e.header.jsn in
    let why : number_refusal h p n ≡ None =
    or_ok (place_refusal h p n) (journal_refusal h (slice_get (journals h) n)) none ∙ ap (journal_refusal h) shows.there ∙ ap (option_map Refused) (whole_none hidden shows.e shows.whole) in
    (why, x, record { e = shows.e; there = shows.there; item_is = refl; path_is = refl }, puts h stands ∙ ap (λ (t : List ℕ). old ++ (t ++ (length x.path / 32 ∷ x.path))) shows.bytes_are)
keeps_one h p n book item (Err (Refused why)) old new stands none shows puts = absurd (puts h stands)
keeps_one h p n book item (Err (Bad bad)) old new stands none shows puts = puts
keeps_one h p n book item (Err (NotBelow q)) old new stands none shows puts = absurd puts
keeps_one h p n book item (Err (OtherLedger kept)) old new stands none shows puts = puts
keeps_one h p n book item (Err LeafPath) old new stands none shows puts = puts
keeps_one h p n book item (Err DiskFault) old new stands none shows puts = tt
keeps_one h p n book item (Err NoMemory) old new stands none shows puts = tt

place_refuses : (h : History) (p n : ℕ) → (e : SetErr) → place_refusal h p n ≡ Some e → StopsBy (number_refusal h p n) e
unfolding place_refusal
place_refuses h p n e is = go (nat_lt n (point h)) (nat_le p n) e is (or_err (place_refusal h p n) (journal_refusal h (slice_get (journals h) n)) e is)
  where
    go : (a b : Bool) (e : SetErr) → cond a (Some (Refused (Purged (point h)))) (cond b (Some (NotBelow p)) None) ≡ Some e → number_refusal h p n ≡ Some e → StopsBy (number_refusal h p n) e
    go true b e is why = let one : Refused (Purged (point h)) ≡ e = cc in subst (StopsBy (number_refusal h p n)) one (why ∙ ap Some (sym one))
    go false true e is why = let one : NotBelow p ≡ e = cc in subst (StopsBy (number_refusal h p n)) one (why ∙ ap Some (sym one))
    go false false e is why = absurd cc

-- one that isn't kept by its number
pub place_stops : (h : History) (p n : ℕ) (r : Result (Unit {0}) SetErr) (e : SetErr) (old new : List ℕ) → IsErr r × IsErrAnd r (λ f. f ≡ e) → place_refusal h p n ≡ Some e → KeepsOne h p n r old new
place_stops h p n (Ok done) e old new is why = absurd (cc is.0)
place_stops h p n (Err f) e old new is why = place_refuses h p n f (why ∙ ap Some (sym is.1))

-- ---- one after the other

stops_first : (a b : Option SetErr) (e : SetErr) → StopsBy a e → StopsBy (option_or a b) e
stops_first a b (Refused why) is = or_err a b (Refused why) is
stops_first a b (Bad bad) is = is
stops_first a b (NotBelow q) is = or_err a b (NotBelow q) is
stops_first a b (OtherLedger kept) is = is
stops_first a b LeafPath is = is
stops_first a b DiskFault is = tt
stops_first a b NoMemory is = tt

stops_then : (a b : Option SetErr) (e : SetErr) → a ≡ None → StopsBy b e → StopsBy (option_or a b) e
stops_then a b e none is = subst (λ o. StopsBy o e) (sym (or_ok a b none)) is

pub keeps_none : (h : History) (p : ℕ) (ns old : List ℕ) → ns ≡ [] → KeepsAll h p ns (Ok tt) old old
keeps_none h p ns old is = subst (λ (l : List ℕ). KeepsAll h p l (Ok tt) old old) (sym is) (refl, [], tt, sym (append-nil old))

pub keeps_more : (h : History) (p n : ℕ) (rest ns : List ℕ) (one : Result (Unit {0}) SetErr) (r : Result (Unit {0}) SetErr) (done : Unit {0}) (old mid new : List ℕ) → ns ≡ n ∷ rest → KeepsOne h p n (Ok done) old mid → KeepsAll h p rest r mid new → KeepsAll h p ns r old new
keeps_more h p n rest ns one (Ok end) done old mid new ns_are first behind =
    subst (λ (l : List ℕ). KeepsAll h p l (Ok end) old new) (sym ns_are)
    (or_ok (number_refusal h p n) (numbers_refusal h p rest) first.0 ∙ behind.0, first.1 ∷ behind.1, (first.2, behind.2), behind.3 ∙ ap (λ t. t ++ survivors_text behind.1) first.3 ∙ append_assoc old (saved_text first.1) (survivors_text behind.1))
keeps_more h p n rest ns one (Err e) done old mid new ns_are first behind =
    subst (λ (l : List ℕ). StopsBy (numbers_refusal h p l) e) (sym ns_are) (stops_then (number_refusal h p n) (numbers_refusal h p rest) e first.0 behind)

pub kept_count : (h : History) (p : ℕ) (ns : List ℕ) (xs : List Saved) → AreKept h p ns xs → length ns ≡ length xs
kept_count h p [] [] are = refl
kept_count h p [] (x ∷ xs) are = absurd are
kept_count h p (n ∷ ns) [] are = absurd are
kept_count h p (n ∷ ns) (x ∷ xs) are = ap suc (kept_count h p ns xs are.1)

-- ---- the set

point_refuses : (h : History) (p : ℕ) → (e : SetErr) → point_refusal h p ≡ Some e → StopsBy (point_refusal h p) e
unfolding point_refusal
point_refuses h p e is = go e is (refuses e is)
  where
    refuses : (e : SetErr) → point_refusal h p ≡ Some e → (w : Refusal) × (e ≡ Refused w)
    refuses e is = by_size (nat_le (size h) p) (nat_lt p (point h)) (slice_get (journals h) p) e is
      where
        by_size : (a b : Bool) (o : Option Entry) (e : SetErr) → cond a (Some (Refused (NoJournal (size h)))) (cond b (Some (Refused (Purged (point h)))) (time_refusal o)) ≡ Some e → (w : Refusal) × (e ≡ Refused w)
        by_size true b o e is = (NoJournal (size h), cc)
        by_size false true o e is = (Purged (point h), cc)
        by_size false false None e is = absurd cc
        by_size false false (Some j) e is = by_kind (is_time j.header.kind) e is
          where
            by_kind : (t : Bool) (e : SetErr) → cond t None (Some (Refused (NotTime (code_of j.header.kind)))) ≡ Some e → (w : Refusal) × (e ≡ Refused w)
            by_kind true e is = absurd cc
            by_kind false e is = (NotTime (code_of j.header.kind), cc)

    go : (e : SetErr) → point_refusal h p ≡ Some e → (w : Refusal) × (e ≡ Refused w) → StopsBy (point_refusal h p) e
    go e is w = subst (StopsBy (point_refusal h p)) (sym w.1) (is ∙ ap Some w.1)

pub point_stops : (h : History) (p : ℕ) (ns : List ℕ) (r : Result (List ℕ) SetErr) (e : SetErr) → IsErr r × IsErrAnd r (λ f. f ≡ e) → point_refusal h p ≡ Some e → KeepsSet h p ns r
point_stops h p ns (Ok bytes) e is why = absurd (cc is.0)
point_stops h p ns (Err f) e is why = stops_first (point_refusal h p) (numbers_refusal h p ns) f (point_refuses h p f (why ∙ ap Some (sym is.1)))

pub keeps_set : (h : History) (p : ℕ) (ns : List ℕ) (mine root : Digest) (count : ℕ) (old mid new bytes : List ℕ) → point_refusal h p ≡ None → mine.0 ≡ id h → root.0 ≡ model.root h p → count ≡ length ns → mid ≡ front_text mine p root count
    → KeepsAll h p ns (Ok tt) mid new → bytes ≡ new → ((s : SavedSet) → keep_refusal h p ns ≡ None → IsSetOf h p ns s → IsSet s) → KeepsSet h p ns (Ok bytes)
unfolding set_text
keeps_set h p ns mine root count old mid new bytes none mine_is root_is count_is front all end rules =
    let s : SavedSet = record { id = digest (id h); point = p; root = digest (model.root h p); survivors = all.1 } in
    let number : count ≡ length all.1 = count_is ∙ kept_count h p ns all.1 all.2 in
    let text : bytes ≡ set_text s =
    end ∙ all.3 ∙ ap (λ (t : List ℕ). t ++ survivors_text all.1) (front ∙ ap (λ (d : List ℕ). front_text (digest d) p root count) mine_is ∙ ap (λ (d : List ℕ). front_text (digest (id h)) p (digest d) count) root_is ∙ ap (λ (k : ℕ). front_text (digest (id h)) p (digest (model.root h p)) k) number) in
    let passed = or_ok (point_refusal h p) (numbers_refusal h p ns) none ∙ all.0 in
    let of : IsSetOf h p ns s = record { id_is = refl; point_is = refl; root_is = refl; are = all.2 } in
    (passed, s, of, text, set_only bytes s (rules s passed of) text)
