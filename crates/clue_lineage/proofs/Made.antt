-- What a lineage is made of, and that it is accepted.
use Rattle.std.proofs.Common.{◌≡◌, ◌≢◌, ℕ, zero, suc, ◌+◌, ◌-◌, ◌*◌, ◌/◌, ◌<◌, ◌≤◌, ◌^◌, Bool, true, false, cond, List, [], ◌∷◌, ◌++◌, length, map, take, drop, get_or, Option, Some, None, Result, Ok, Err, inl, inr, refl, sym, ap, subst, ◌∙◌, arith, append-nil, append_assoc, length-append}
use Rattle.std.specs.Prelude.{All, filter, nat_le, slice_get, min, ◌==◌, IsOk, IfOk, IfErr}
use Rattle.std.specs.List.{concat, AllByRecursion}
use Rattle.std.specs.Option.{option_map}
use Rattle.std.specs.Result.{is_ok}
use Rattle.std.proofs.lemmas.Bool.{cases_Bool, cases_lt, leb-true, le-leb}
use Rattle.std.proofs.lemmas.List.{map-append, take_all, take_more, drop_all, drop-map, take-map, length-map, length-take}
use Rattle.std.proofs.lemmas.List.Elements.{All-nil, All-cons, All-head, All-tail}
use Rattle.std.proofs.lemmas.List.Folds.{concat-append}
use Rattle.std.proofs.lemmas.Option.{slice_get-map, slice_get_within, get_or_from_slice_get, same_Some}
use Rattle.ledger_bytes.specs.declared.digest.Digest.{Digest}
use Rattle.sha2.specs.Sha256.{sha256}
use Rattle.sha2.proofs.Facts256.{length-sha256}
use Rattle.journal_record.specs.Entry.{Entry}
use Rattle.journal_record.specs.Header as headers
use Rattle.journal_record.specs.Header.{HasWidths}
use Rattle.journal_record.specs.Rules.{IsHeader, is_no_clue}
use Rattle.journal_record.specs.declared.header.Header.{Header}
use Rattle.tree_model.specs.Path.{path, path_length, fold_bytes}
use Rattle.tree_model.specs.Tree as tree
use Rattle.tree_model.proofs.Folds.{path_gives_root, fold_bytes-concat}
use Rattle.tree_model.proofs.Paths.{path_length_below, length-path}
use Rattle.tree_model.proofs.Widths.{IsWide, path_wide}
use Rattle.merkle_batch.specs.Rows.{Levels, StandsFor}
use Rattle.proof_codec.specs.Proofs.{with_count, IsDigests}
use Rattle.ledger_model.specs.Clues.{is_of_clue, jsns_with}
use Rattle.ledger_model.specs.History as model
use Rattle.ledger_model.specs.History.{History, journals, leaf_digest}
use Rattle.ledger_model.specs.Lawful.{AreLawful}
use Rattle.ledger_model.specs.Proofs.{path_in}
use Rattle.ledger_model.specs.Texts.{kept_with}
use Rattle.ledger_model.proofs.LawfulLaws.{AreFrom, lawful_from}
use Rattle.ledger_book.specs.Books.{Kept, Serves, headers as book_headers, leaf_digests, sealed_size}
use Rattle.ledger_book.specs.Seals.{head_of}
use Rattle.ledger_book.proofs.StandsLaws.{point_is, digests_of}
use Rattle.clue_lineage.specs.declared.answer.LineageErr.{LineageErr}
use Rattle.clue_lineage.specs.declared.answer.LineageErr.TheVariants.{NoLineage, NoMemory}
use Rattle.clue_lineage.specs.Lineages.{item_text, items_text, front_text, spelling, IsItem}
use Rattle.clue_lineage.specs.Accepting.{run_of, acceptance, IsRecordOf, FollowOn, AreLinked, Leads, IsAccepted}
use Rattle.clue_lineage.specs.Making.{records_of, kept_records, shown_from, item_in, lineage_over, lineage_in, Makes, StandsIn}
use Rattle.clue_lineage.proofs.Accepted.{accepted_only}
use Rattle.clue_lineage.proofs.Chains.{Chain, chain_drop, chain_take, numbers_behind, ordinals_behind, clued_is_record, own_clue, lawful_chain}

-- ---- the chosen numbers

dropped : {A : Type 0} (k m : ℕ) (xs : List A) → m ≡ min k (length xs) → drop m xs ≡ drop k xs
dropped k m xs is = elim (cases_lt k (length xs)) [
  | inl low ↦ ap (λ n. drop n xs) (let same : m ≡ k = omega (arith, is, low) in same)
  | inr high ↦ drop_all m xs (omega (arith, is, high)) ∙ sym (drop_all k xs high)
]

taken : {A : Type 0} (k m : ℕ) (xs : List A) → m ≡ min (length xs) k → take m xs ≡ take k xs
taken k m xs is = elim (cases_lt k (length xs)) [
  | inl low ↦ ap (λ n. take n xs) (let same : m ≡ k = omega (arith, is, low) in same)
  | inr high ↦ take_all m xs (omega (arith, is, high)) ∙ sym (take_all k xs high)
]

pub chosen : (numbers behind front : List ℕ) (k m n : ℕ) → m ≡ min k (length numbers) → behind ≡ drop m numbers → n ≡ min (length behind) 1024 → front ≡ take n behind → front ≡ take 1024 (drop k numbers)
chosen numbers behind front k m n first is second front_is = front_is ∙ taken 1024 n behind second ∙ ap (take 1024) (is ∙ dropped k m numbers first)

-- ---- the digests of a path

pub path_next : (digests : List Digest) (i : ℕ) (d : Digest) → i < length digests
    → concat (map (λ (x : Digest). x.0) (take (i + 1) digests)) ≡ concat (map (λ (x : Digest). x.0) (take i digests)) ++ (get_or digests i d).0
path_next digests i d inside =
    let x = get_or digests i d in
    ap (λ (l : List Digest). concat (map (λ (y : Digest). y.0) l)) (take_more digests i d inside)
    ∙ ap concat (map-append (λ (y : Digest). y.0) (take i digests) (x ∷ []))
    ∙ concat-append (map (λ (y : Digest). y.0) (take i digests)) (x.0 ∷ [])
    ∙ ap (λ (l : List ℕ). concat (map (λ (y : Digest). y.0) (take i digests)) ++ l) (append-nil x.0)

pub path_few : (n size : ℕ) → size < 2 ^ 32 → path_length n size ≤ 32
path_few n size fits = path_length_below 32 n size (omega (arith, fits))

joined_length : (ds : List (List ℕ)) → All IsWide ds → length (concat ds) ≡ 32 * length ds
joined_length [] all = refl
joined_length (d ∷ ds) all = omega (arith, length-append d (concat ds), All-head IsWide d ds all, joined_length ds (All-tail IsWide d ds all))

leaves_wide : (xs : List (List ℕ)) → All IsWide (map (tree.leaf sha256) xs)
leaves_wide [] = All-nil IsWide
leaves_wide (x ∷ xs) = All-cons IsWide (tree.leaf sha256 x) (map (tree.leaf sha256) xs) (length-sha256 (0 ∷ x)) (leaves_wide xs)

module _ (h : History) where
  abbrev ds : List (List ℕ)
  ds = leaf_digests h

  all_wide : All IsWide (leaf_digests h)
  all_wide = subst (All IsWide) (sym (digests_of (journals h))) (leaves_wide (map (λ (j : Entry). headers.spelling j.header) (journals h)))

  path_is_wide : (n : ℕ) → All IsWide (path sha256 n (leaf_digests h))
  unfolding path
  path_is_wide n = path_wide sha256 length-sha256 (length (leaf_digests h)) n (leaf_digests h) all_wide

  path_bytes_length : (n : ℕ) → length (path_in h n) ≡ 32 * path_length n (model.size h)
  path_bytes_length n =
      let count : length (leaf_digests h) ≡ model.size h = length-map (journals h) leaf_digest in
      joined_length (path sha256 n (leaf_digests h)) (path_is_wide n) ∙ ap (λ k. 32 * k) (length-path sha256 n (leaf_digests h) ∙ ap (path_length n) count)

  -- a kept journal leads to the root
  pub leads_in : (e : Entry) → StandsIn h e → sealed_size h ≡ model.size h → fold_bytes sha256 (tree.leaf sha256 (headers.spelling e.header)) e.header.jsn (head_of h).size (path_in h e.header.jsn) ≡ Some (head_of h).root.0
  unfolding path model.root
  leads_in e stands settled =
      let n = e.header.jsn in
      let within : n < model.size h = slice_get_within (journals h) n e stands.place in
      let count : length (leaf_digests h) ≡ sealed_size h = length-map (journals h) leaf_digest ∙ sym settled in
      let there : slice_get (leaf_digests h) n ≡ Some (leaf_digest e) = slice_get-map leaf_digest (journals h) n ∙ ap (option_map leaf_digest) stands.place in
      let leaf_is : get_or (leaf_digests h) n [] ≡ leaf_digest e = get_or_from_slice_get (leaf_digests h) n (leaf_digest e) [] there in
      let all : tree.root sha256 (leaf_digests h) ≡ model.root h (sealed_size h) =
      ap (tree.root sha256) (sym (take_all (sealed_size h) (leaf_digests h) (omega (arith, count))))
      ∙ ap (λ xs. tree.root sha256 (take (sealed_size h) xs)) (digests_of (journals h))
      ∙ ap (tree.root sha256) (take-map (tree.leaf sha256) (sealed_size h) (map (λ (j : Entry). headers.spelling j.header) (journals h))) in
      ap (λ d. fold_bytes sha256 d n (sealed_size h) (path_in h n)) (sym leaf_is)
      ∙ ap (λ m. fold_bytes sha256 (get_or (leaf_digests h) n []) n m (path_in h n)) (sym count)
      ∙ fold_bytes-concat sha256 (get_or (leaf_digests h) n []) n (length (leaf_digests h)) (path sha256 n (leaf_digests h)) (path_is_wide n)
      ∙ path_gives_root sha256 n (leaf_digests h) (omega (arith, count, settled, within))
      ∙ ap (λ (r : List ℕ). Some r) all

-- ---- journals of a history

all_filter : {A : Type 0} (P : A → Type 0) (p : A → Bool) (xs : List A) → AllByRecursion P xs → AllByRecursion P (filter p xs)
all_filter P p [] all = tt
all_filter P p (x ∷ xs) all = elim (cases_Bool (p x)) [
  | inl is ↦ subst (λ b. AllByRecursion P (cond b (x ∷ filter p xs) (filter p xs))) (sym is) (all.0, all_filter P p xs all.1)
  | inr not ↦ subst (λ b. AllByRecursion P (cond b (x ∷ filter p xs) (filter p xs))) (sym not) (all_filter P p xs all.1)
]

-- those that pass a test, with what the test says
all_tested : {A : Type 0} (P Q : A → Type 0) (p : A → Bool) (xs : List A) → ((x : A) → P x → p x ≡ true → Q x) → AllByRecursion P xs → AllByRecursion Q (filter p xs)
all_tested P Q p [] gives all = tt
all_tested P Q p (x ∷ xs) gives all = elim (cases_Bool (p x)) [
  | inl is ↦ subst (λ b. AllByRecursion Q (cond b (x ∷ filter p xs) (filter p xs))) (sym is) (gives x all.0 is, all_tested P Q p xs gives all.1)
  | inr not ↦ subst (λ b. AllByRecursion Q (cond b (x ∷ filter p xs) (filter p xs))) (sym not) (all_tested P Q p xs gives all.1)
]

all_take : {A : Type 0} (P : A → Type 0) (k : ℕ) (xs : List A) → AllByRecursion P xs → AllByRecursion P (take k xs)
all_take P zero xs all = tt
all_take P (suc k) [] all = tt
all_take P (suc k) (x ∷ xs) all = (all.0, all_take P k xs all.1)

pub all_more : {A : Type 0} (P : A → Type 0) (xs : List A) (x : A) → AllByRecursion P xs → P x → AllByRecursion P (xs ++ x ∷ [])
all_more P [] x all one = (one, tt)
all_more P (y ∷ xs) x all one = (all.0, all_more P xs x all.1 one)

pub all_at : {A : Type 0} (P : A → Type 0) (xs : List A) (i : ℕ) (x : A) → AllByRecursion P xs → slice_get xs i ≡ Some x → P x
all_at P [] i x all e = absurd cc
all_at P (y ∷ xs) zero x all e = subst P (same_Some y x e) all.0
all_at P (y ∷ xs) (suc i) x all e = all_at P xs i x all.1 e

placed_at : (front : List Entry) (e : Entry) (es : List Entry) → slice_get (front ++ e ∷ es) (length front) ≡ Some e
placed_at [] e es = refl
placed_at (x ∷ front) e es = placed_at front e es

-- what holds of each journal of a lawful history
record Own (h : History) (e : Entry) : Type 0 where
  place : slice_get (journals h) e.header.jsn ≡ Some e
  layout : IsHeader e.header

all_own : (h : History) (front es : List Entry) → journals h ≡ front ++ es → AreFrom (length front) es → AllByRecursion (Own h) es
all_own h front [] is from = tt
all_own h front (e ∷ es) is from = (
  record { place = ap (slice_get (journals h)) from.0 ∙ ap (λ (l : List Entry). slice_get l (length front)) is ∙ placed_at front e es; layout = from.1 },
  all_own h (front ++ e ∷ []) es (is ∙ sym (append_assoc front (e ∷ []) es)) (subst (λ n. AreFrom n es) (sym (length-append front (e ∷ []))) from.2),
)

-- what holds of each record that is shown
pub record Shown (h : History) (clue : Digest) (e : Entry) : Type 0 where
  pub stands : StandsIn h e
  pub layout : IsHeader e.header
  pub record_of : IsRecordOf clue (item_in h e)
  pub clued : is_no_clue clue ≡ false

record OwnRecord (h : History) (clue : Digest) (e : Entry) : Type 0 where
  own : Own h e
  is : is_of_clue clue e ≡ true

module _ (h : History) (lawful : AreLawful (journals h)) (clue : Digest) where
  all_kept : AllByRecursion (Shown h clue) (kept_records clue h)
  all_kept =
      let own = all_own h [] (journals h) refl (lawful_from (journals h) lawful) in
      let records = all_tested (Own h) (OwnRecord h clue) (is_of_clue clue) (journals h) (λ e o is. record { own = o; is = is }) own in
      all_tested (OwnRecord h clue) (Shown h clue) (λ e. nat_le (model.point h) e.header.jsn) (records_of clue h)
      (λ e r kept.
      let c = own_clue clue e r.is in
      record {
        stands = record { kept = leb-true (model.point h) e.header.jsn kept; place = r.own.place };
        layout = r.own.layout;
        record_of = record { kind = clued_is_record e.header.kind e.header.clue (ap is_no_clue c.0 ∙ c.1) r.own.layout.clue; clue_is = c.0 };
        clued = c.1;
      })
      records

  pub all_shown : (from : ℕ) → AllByRecursion (Shown h clue) (take 1024 (shown_from from clue h))
  all_shown from = all_take (Shown h clue) 1024 (shown_from from clue h) (all_filter (Shown h clue) (λ e. nat_le from e.header.clue_ord) (kept_records clue h) all_kept)

  records_chain : Chain 1 0 (records_of clue h)
  records_chain = lawful_chain clue (journals h) lawful

  -- the kept records, and those of them that are shown, are the last ones of those before
  pub record ShownSo (from : ℕ) : Type 0 where
    pub first : ℕ
    pub before : ℕ
    pub counted : first + length (kept_records clue h) ≡ length (records_of clue h)
    pub shown : shown_from from clue h ≡ drop (from - (1 + first)) (kept_records clue h)
    pub chain : Chain (1 + first + (from - (1 + first))) before (shown_from from clue h)

  pub shown_so : (from : ℕ) → ShownSo from
  shown_so from =
      let kept = numbers_behind (model.point h) 1 0 (records_of clue h) records_chain in
      let behind = chain_drop kept.count 1 0 (records_of clue h) records_chain in
      let chain : Chain (1 + kept.count) behind.0 (kept_records clue h) = subst (λ (l : List Entry). Chain (1 + kept.count) behind.0 l) (sym kept.is) behind.1 in
      let shown : shown_from from clue h ≡ drop (from - (1 + kept.count)) (kept_records clue h) = ordinals_behind from (1 + kept.count) behind.0 (kept_records clue h) chain in
      let later = chain_drop (from - (1 + kept.count)) (1 + kept.count) behind.0 (kept_records clue h) chain in
      record {
        first = kept.count;
        before = later.0;
        counted = kept.counted;
        shown = shown;
        chain = subst (λ (l : List Entry). Chain (1 + kept.count + (from - (1 + kept.count))) later.0 l) (sym shown) later.1;
      }

  -- the numbers of the records that are shown
  numbers_filtered : (p : ℕ) (es : List Entry) → filter (λ jsn. nat_le p jsn) (map (λ (e : Entry). e.header.jsn) es) ≡ map (λ (e : Entry). e.header.jsn) (filter (λ (e : Entry). nat_le p e.header.jsn) es)
  numbers_filtered p [] = refl
  numbers_filtered p (e ∷ es) = elim (cases_Bool (nat_le p e.header.jsn)) [
    | inl is ↦ rw is (ap (λ rest. e.header.jsn ∷ rest) (numbers_filtered p es))
    | inr not ↦ rw not (numbers_filtered p es)
  ]

  pub kept_numbers : kept_with h clue ≡ map (λ (e : Entry). e.header.jsn) (kept_records clue h)
  unfolding jsns_with
  kept_numbers = numbers_filtered (model.point h) (records_of clue h)

  pub records_counted : length (jsns_with h clue) ≡ length (records_of clue h)
  unfolding jsns_with
  records_counted = length-map (records_of clue h) (λ (e : Entry). e.header.jsn)

  pub shown_numbers : (from count : ℕ) (numbers given front : List ℕ) → count ≡ length (jsns_with h clue) → numbers ≡ kept_with h clue → given ≡ numbers → front ≡ take 1024 (drop (from - (count - length given + 1)) given)
      → front ≡ map (λ (e : Entry). e.header.jsn) (take 1024 (shown_from from clue h))
  shown_numbers from count numbers given front count_is numbers_are given_is front_is =
      let so = shown_so from in
      let jsn : Entry → ℕ = λ e. e.header.jsn in
      let all : given ≡ map jsn (kept_records clue h) = given_is ∙ numbers_are ∙ kept_numbers in
      let fewer : length given ≡ length (kept_records clue h) = ap length all ∙ length-map (kept_records clue h) jsn in
      let first : count - length given + 1 ≡ 1 + so.first = omega (arith, count_is, records_counted, fewer, so.counted) in
      front_is ∙ ap (λ k. take 1024 (drop (from - k) given)) first
      ∙ ap (λ (l : List ℕ). take 1024 (drop (from - (1 + so.first)) l)) all
      ∙ ap (take 1024) (drop-map jsn (from - (1 + so.first)) (kept_records clue h))
      ∙ take-map jsn 1024 (drop (from - (1 + so.first)) (kept_records clue h))
      ∙ ap (λ (l : List Entry). map jsn (take 1024 l)) (sym so.shown)

-- ---- it is accepted

abbrev Wide : Entry → Type 0
Wide e = HasWidths e.header

all_mapped : {A B : Type 0} (P : A → Type 0) (Q : B → Type 0) (f : A → B) (xs : List A) → ((x : A) → P x → Q (f x)) → AllByRecursion P xs → AllByRecursion Q (map f xs)
all_mapped P Q f [] gives all = tt
all_mapped P Q f (x ∷ xs) gives all = (gives x all.0, all_mapped P Q f xs gives all.1)

module _ (h : History) (few : model.size h < 2 ^ 32) where
  path_digests : (n : ℕ) → IsDigests (path_in h n)
  path_digests n =
      let len = path_bytes_length h n in
      let most = path_few n (model.size h) few in
      record { whole = omega (arith, len); count = omega (arith, len, most) }

  items_fit : (clue : Digest) (es : List Entry) → AllByRecursion (Shown h clue) es → AllByRecursion Wide es → All IsItem (map (item_in h) es)
  items_fit clue [] shown wide = All-nil IsItem
  items_fit clue (e ∷ es) shown wide =
      All-cons IsItem (item_in h e) (map (item_in h) es) (record { rules = shown.0.layout; widths = wide.0; path = path_digests e.header.jsn }) (items_fit clue es shown.1 wide.1)

  behind_items : (x : Header) (n : ℕ) (es : List Entry) → x.clue_ord ≡ n → Chain (n + 1) x.jsn es → FollowOn x (map (item_in h) es)
  behind_items x n [] is chain = tt
  behind_items x n (e ∷ es) is chain = (record { ordinal = omega (arith, chain.0, is); previous = chain.1 }, behind_items e.header (n + 1) es chain.0 chain.3)

  linked_items : (n prev : ℕ) (es : List Entry) → Chain n prev es → AreLinked (map (item_in h) es)
  linked_items n prev [] chain = tt
  linked_items n prev (e ∷ es) chain = behind_items e.header n es chain.0 chain.3

  module _ (lawful : AreLawful (journals h)) (clue : Digest) (from : ℕ) (wide : AllByRecursion Wide (take 1024 (shown_from from clue h))) (settled : sealed_size h ≡ model.size h) where
    abbrev es : List Entry
    es = take 1024 (shown_from from clue h)

    accepted_of : (fs : List Entry) → es ≡ fs → 1 ≤ length fs → IsAccepted sha256 (spelling (lineage_in from clue h)) clue (head_of h) (run_of (map (item_in h) es))
    accepted_of [] is some = absurd (omega (arith, some))
    accepted_of (e ∷ fs) is some =
        let shown = all_shown h lawful clue from in
        let first : Shown h clue e = (subst (λ (l : List Entry). AllByRecursion (Shown h clue) l) is shown).0 in
        let first_wide : HasWidths e.header = (subst (λ (l : List Entry). AllByRecursion Wide l) is wide).0 in
        let so = shown_so h lawful clue from in
        let chain = chain_take 1024 (1 + so.first + (from - (1 + so.first))) so.before (shown_from from clue h) so.chain in
        let counted : length (map (item_in h) es) ≡ length es = length-map es (item_in h) in
        record {
          lineage = lineage_in from clue h;
          is_lineage = record {
            size = omega (arith, few);
            clue = ap (λ (d : Digest). length d.0) (sym first.record_of.clue_is) ∙ first_wide.clue;
            some = omega (arith, counted, ap length is, some);
            most = omega (arith, counted, length-take 1024 (shown_from from clue h));
            items = items_fit clue es shown wide;
          };
          text = refl;
          size = sym settled;
          clue_is = refl;
          some = first.clued;
          records = all_mapped (Shown h clue) (IsRecordOf clue) (item_in h) es (λ x s. s.record_of) shown;
          linked = linked_items (1 + so.first + (from - (1 + so.first))) so.before es chain;
          lead = all_mapped (Shown h clue) (Leads sha256 (head_of h)) (item_in h) es (λ x s. leads_in h x s.stands settled) shown;
          run_is = refl;
        }

    pub made_accepted : (bytes : List ℕ) → bytes ≡ spelling (lineage_in from clue h) → 1 ≤ length (take 1024 (shown_from from clue h)) → IsOk (acceptance sha256 bytes clue (head_of h))
    made_accepted bytes text some =
        let yes = accepted_only sha256 (spelling (lineage_in from clue h)) clue (head_of h) (run_of (map (item_in h) es)) (accepted_of es refl some) in
        ap (λ r. is_ok r) (ap (λ b. acceptance sha256 b clue (head_of h)) text ∙ yes)

pub settled_size : (k : Kept) (h : History) → Serves k h → k.sealed ≡ k.size → sealed_size h ≡ model.size h
settled_size k h s settled = sym s.stands.counts.sealed_is ∙ settled ∙ s.stands.counts.size

-- ---- what is written

module _ (k : Kept) (h : History) (s : Serves k h) (e : Entry) (stands : StandsIn h e) where
  pub above_floor : k.floor ≤ e.header.jsn
  above_floor = omega (arith, s.seen, point_is k h s, stands.kept)

  pub within_size : e.header.jsn < k.size
  within_size = omega (arith, slice_get_within (journals h) e.header.jsn e stands.place, s.stands.counts.size)

  pub header_told : (n : ℕ) (found : Option Header) → e.header.jsn ≡ n → found ≡ cond (nat_le k.floor n) (slice_get (book_headers h) n) None → found ≡ Some e.header
  header_told n found is told =
      told ∙ ap (λ v. cond v (slice_get (book_headers h) n) None) (le-leb k.floor n (omega (arith, above_floor, is)))
      ∙ slice_get-map (λ (j : Entry). j.header) (journals h) n
      ∙ ap (option_map (λ (j : Entry). j.header)) (ap (slice_get (journals h)) (sym is) ∙ stands.place)

  pub path_written : (n size : ℕ) (digests given : List Digest) → e.header.jsn ≡ n → size ≡ k.size → given ≡ digests → map (λ (d : Digest). d.0) digests ≡ path sha256 n (take size (leaf_digests h))
      → (length given ∷ concat (map (λ (d : Digest). d.0) given)) ≡ with_count (path_in h e.header.jsn)
  path_written n size digests given is size_is same told =
      let count : length (leaf_digests h) ≡ size = length-map (journals h) leaf_digest ∙ sym s.stands.counts.size ∙ sym size_is in
      let all : map (λ (d : Digest). d.0) given ≡ path sha256 e.header.jsn (leaf_digests h) =
      ap (map (λ (d : Digest). d.0)) same ∙ told ∙ ap (path sha256 n) (take_all size (leaf_digests h) (omega (arith, count))) ∙ ap (λ m. path sha256 m (leaf_digests h)) (sym is) in
      let number : length given ≡ length (path_in h e.header.jsn) / 32 =
      omega (arith, length-map given (λ (d : Digest). d.0), ap length all, joined_length (path sha256 e.header.jsn (leaf_digests h)) (path_is_wide h e.header.jsn)) in
      ap (λ m. m ∷ concat (map (λ (d : Digest). d.0) given)) number ∙ ap (λ (l : List (List ℕ)). (length (path_in h e.header.jsn) / 32) ∷ concat l) all

  pub item_written : (w x y text digests : List ℕ) → text ≡ headers.spelling e.header → x ≡ w ++ text → y ≡ x ++ digests → digests ≡ with_count (path_in h e.header.jsn) → y ≡ w ++ item_text (item_in h e)
  unfolding item_text
  item_written w x y text digests text_is first second digests_is =
      second ∙ ap (λ (l : List ℕ). l ++ digests) (first ∙ ap (λ (t : List ℕ). w ++ t) text_is) ∙ append_assoc w (headers.spelling e.header) digests
      ∙ ap (λ (l : List ℕ). w ++ (headers.spelling e.header ++ l)) digests_is

items_last : (h : History) (es : List Entry) (i : ℕ) (e : Entry) → slice_get es i ≡ Some e → items_text (map (item_in h) (take (i + 1) es)) ≡ items_text (map (item_in h) (take i es)) ++ item_text (item_in h e)
items_last h [] i e there = absurd cc
items_last h (x ∷ es) zero e there = append-nil (item_text (item_in h x)) ∙ ap (λ (y : Entry). item_text (item_in h y)) (same_Some x e there)
items_last h (x ∷ es) (suc i) e there =
    let next : suc i + 1 ≡ suc (i + 1) = omega arith in
    ap (λ n. items_text (map (item_in h) (take n (x ∷ es)))) next
    ∙ ap (λ (l : List ℕ). item_text (item_in h x) ++ l) (items_last h es i e there)
    ∙ sym (append_assoc (item_text (item_in h x)) (items_text (map (item_in h) (take i es))) (item_text (item_in h e)))

-- one journal more is written
pub items_more : (h : History) (es : List Entry) (i : ℕ) (e : Entry) (w x y : List ℕ) → slice_get es i ≡ Some e → x ≡ w ++ items_text (map (item_in h) (take i es)) → y ≡ x ++ item_text (item_in h e)
    → y ≡ w ++ items_text (map (item_in h) (take (i + 1) es))
items_more h es i e w x y there so_far more =
    more ∙ ap (λ (l : List ℕ). l ++ item_text (item_in h e)) so_far ∙ append_assoc w _ (item_text (item_in h e))
    ∙ ap (λ (l : List ℕ). w ++ l) (sym (items_last h es i e there))

-- the number of one of some journals
pub entry_at : (es : List Entry) (numbers : List ℕ) (i : ℕ) → map (λ (e : Entry). e.header.jsn) es ≡ numbers → i < length numbers → (e : Entry) × (slice_get es i ≡ Some e) × (e.header.jsn ≡ get_or numbers i 0)
entry_at [] numbers i is inside = absurd (omega (arith, ap length is, inside))
entry_at (x ∷ es) [] i is inside = absurd (omega (arith, inside))
entry_at (x ∷ es) (n ∷ ns) zero is inside = (x, refl, ap (λ (l : List ℕ). get_or l 0 0) is)
entry_at (x ∷ es) (n ∷ ns) (suc i) is inside = entry_at es ns i (ap (drop 1) is) (omega (arith, inside))

-- .. and so is that it fits
pub more_fit : (P : Entry → Type 0) (es : List Entry) (i : ℕ) (e : Entry) → slice_get es i ≡ Some e → AllByRecursion P (take i es) → P e → AllByRecursion P (take (i + 1) es)
more_fit P es i e there all one =
    subst (λ (l : List Entry). AllByRecursion P l) (sym (take_more es i e (slice_get_within es i e there) ∙ ap (λ (x : Entry). take i es ++ x ∷ []) (get_or_from_slice_get es i e e there))) (all_more P (take i es) e all one)

pub never_none : {A : Type 0} (x : A) (B : Type 0) → (let none : Option A = None in none ≡ Some x) → B
never_none x B e = absurd cc

-- .. and of a path a digest more
pub path_more : (digests : List Digest) (i : ℕ) (d : Digest) (w x y : List ℕ) → i < length digests → x ≡ w ++ length digests ∷ concat (map (λ (e : Digest). e.0) (take i digests)) → y ≡ x ++ (get_or digests i d).0
    → y ≡ w ++ length digests ∷ concat (map (λ (e : Digest). e.0) (take (i + 1) digests))
path_more digests i d w x y inside so_far more =
    more ∙ ap (λ (l : List ℕ). l ++ (get_or digests i d).0) so_far ∙ append_assoc w (length digests ∷ concat (map (λ (e : Digest). e.0) (take i digests))) (get_or digests i d).0
    ∙ ap (λ (l : List ℕ). w ++ length digests ∷ l) (sym (path_next digests i d inside))

-- all of a lineage is written
pub all_written : (h : History) (clue : Digest) (es : List Entry) (size : ℕ) (numbers w x y : List ℕ) → w ≡ [] → x ≡ w ++ front_text size clue (length numbers) → y ≡ x ++ items_text (map (item_in h) es)
    → size ≡ model.size h → map (λ (e : Entry). e.header.jsn) es ≡ numbers → y ≡ spelling (lineage_over h clue es)
unfolding spelling
all_written h clue es size numbers w x y empty front items size_is is =
    let count : length numbers ≡ length (map (item_in h) es) = ap length (sym is) ∙ length-map es (λ (e : Entry). e.header.jsn) ∙ sym (length-map es (item_in h)) in
    items ∙ ap (λ (l : List ℕ). l ++ items_text (map (item_in h) es)) (front ∙ ap (λ (l : List ℕ). l ++ front_text size clue (length numbers)) empty)
    ∙ ap (λ n. front_text n clue (length numbers) ++ items_text (map (item_in h) es)) size_is
    ∙ ap (λ n. front_text (model.size h) clue n ++ items_text (map (item_in h) es)) count

-- ---- what comes

shown_none : (shown : List Entry) → length (take 1024 shown) ≡ 0 → shown ≡ []
shown_none [] e = refl
shown_none (x ∷ shown) e = absurd (omega (arith, e))

some_shown : (shown : List Entry) → 1 ≤ length (take 1024 shown) → shown ≢ []
some_shown shown some is = omega (arith, some, ap (λ (l : List Entry). length (take 1024 l)) is)

mapped_ok : {A E : Type 0} (r : Result A E) (P Q : A → Type 0) → ((x : A) → P x → Q x) → IfOk r P → IfOk r Q
mapped_ok (Ok x) P Q gives it = gives x it
mapped_ok (Err e) P Q gives it = tt

makes_so : (from : ℕ) (clue : Digest) (h : History) (r : Result (List ℕ) LineageErr) → IfOk r (λ bytes. bytes ≡ spelling (lineage_in from clue h)) → IfErr r (λ e. e ≡ NoMemory) → shown_from from clue h ≢ [] → Makes from clue h r
makes_so from clue h (Ok bytes) text err some = (some, text)
makes_so from clue h (Err NoLineage) text err some = absurd (never err) where
  never : (let none : LineageErr = NoLineage in none ≡ NoMemory) → ⊥
  never e = absurd cc
makes_so from clue h (Err NoMemory) text err some = tt

-- what is known where a book was asked for the numbers of a clue's journals
module _ (k : Kept) (from : ℕ) (clue : Digest) (count : ℕ) (numbers given front : List ℕ)
    (counted : (h : History) → Serves k h → count ≡ length (jsns_with h clue)) (kept : (h : History) → Serves k h → numbers ≡ kept_with h clue) (given_is : given ≡ numbers)
    (front_is : front ≡ take 1024 (drop (from - (count - length given + 1)) given)) where
  numbers_are : (h : History) → Serves k h → map (λ (e : Entry). e.header.jsn) (take 1024 (shown_from from clue h)) ≡ front
  numbers_are h s = sym (shown_numbers h s.stands.lawful clue from count numbers given front (counted h s) (kept h s) given_is front_is)

  shown_count : (h : History) → Serves k h → length (take 1024 (shown_from from clue h)) ≡ length front
  shown_count h s = sym (length-map (take 1024 (shown_from from clue h)) (λ (e : Entry). e.header.jsn)) ∙ ap length (numbers_are h s)

  pub none_there : length front ≡ 0 → (h : History) → Serves k h → shown_from from clue h ≡ []
  none_there none h s = shown_none (shown_from from clue h) (shown_count h s ∙ none)

  pub few_chosen : length front ≤ 1024
  few_chosen = omega (arith, ap length front_is, length-take 1024 (drop (from - (count - length given + 1)) given))

  stand : (h : History) → Serves k h → AllByRecursion (StandsIn h) (take 1024 (shown_from from clue h))
  stand h s = weaken (take 1024 (shown_from from clue h)) (all_shown h s.stands.lawful clue from) where
    weaken : (es : List Entry) → AllByRecursion (Shown h clue) es → AllByRecursion (StandsIn h) es
    weaken [] all = tt
    weaken (e ∷ es) all = (all.0.stands, weaken es all.1)

  module _ (r : Result (List ℕ) LineageErr) (some : 1 ≤ length front)
      (text : IfOk r (λ bytes. (h : History) (es : List Entry) → Serves k h → AllByRecursion (StandsIn h) es → map (λ (e : Entry). e.header.jsn) es ≡ front → (bytes ≡ spelling (lineage_over h clue es)) × AllByRecursion (λ (e : Entry). HasWidths e.header) es))
      (err : (h : History) (es : List Entry) → Serves k h → AllByRecursion (StandsIn h) es → map (λ (e : Entry). e.header.jsn) es ≡ front → IfErr r (λ e. e ≡ NoMemory)) where
    pub makes : (h : History) → Serves k h → Makes from clue h r
    makes h s =
        makes_so from clue h r
        (mapped_ok r _ (λ bytes. bytes ≡ spelling (lineage_in from clue h)) (λ bytes told. (told h (take 1024 (shown_from from clue h)) s (stand h s) (numbers_are h s)).0) text)
        (err h (take 1024 (shown_from from clue h)) s (stand h s) (numbers_are h s)) (some_shown (shown_from from clue h) (omega (arith, shown_count h s, some)))

    pub accepted : k.sealed ≡ k.size → k.size < 2 ^ 32 → IfOk r (λ bytes. (h : History) → Serves k h → IsOk (acceptance sha256 bytes clue (head_of h)))
    accepted settled few =
        mapped_ok r _ (λ bytes. (h : History) → Serves k h → IsOk (acceptance sha256 bytes clue (head_of h)))
        (λ bytes told h s.
        let both = told h (take 1024 (shown_from from clue h)) s (stand h s) (numbers_are h s) in
        made_accepted h (omega (arith, s.stands.counts.size, few)) s.stands.lawful clue from both.1 (settled_size k h s settled) bytes both.0 (omega (arith, shown_count h s, some)))
        text

pub positive : (n : ℕ) → (n == 0) ≡ false → 1 ≤ n
positive zero e = absurd cc
positive (suc n) e = omega arith

-- a book's tree has a leaf for each journal
pub tree_size : (k : Kept) (h : History) → Serves k h → (t : Levels) → StandsFor sha256 t (leaf_digests h) → t.size ≡ k.size
unfolding StandsFor
tree_size k h s t stands = sym stands.0 ∙ length-map (journals h) leaf_digest ∙ sym s.stands.counts.size
