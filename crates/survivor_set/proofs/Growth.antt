-- What is carried on of a set.
use Rattle.std.specs.Prelude.{⊤, OnOk, All, slice_get, nat_le, nat_lt, not, bytes_eq, Result, Ok, Err, IsErr, IsErrAnd, option_map}
use Rattle.std.specs.List.{concat}
use Rattle.std.specs.Option.{option_or}
use Rattle.std.proofs.Common.{◌≡◌, ℕ, ◌+◌, ◌*◌, ◌<◌, ◌≤◌, ◌^◌, Bool, true, false, cond, inl, inr, List, [], ◌∷◌, ◌++◌, length, map, get_or, take, Option, Some, None, refl, sym, ap, ap₂, ◌∙◌, subst, arith, append_assoc, append-nil}
use Rattle.std.proofs.lemmas.Bool.{cases_lt, le-leb, lt-leb, lt-ltb, le-ltb}
use Rattle.std.proofs.lemmas.Grind.{flat_map-append}
use Rattle.std.proofs.lemmas.List.{take_more, map-append, length-map}
use Rattle.std.proofs.lemmas.List.Elements.{All-map, All-take}
use Rattle.std.proofs.lemmas.Option.{none-some, get_or_from_slice_get, slice_get_within, slice_get-map}
use Rattle.sha2.specs.Sha256.{sha256}
use Rattle.sha2.proofs.Facts256.{length-sha256}
use Rattle.tree_model.specs.Path.{path, path_length}
use Rattle.tree_model.specs.Tree.{cut}
use Rattle.tree_model.proofs.Paths.{path_length_below}
use Rattle.tree_model.proofs.Pieces.{cut-concat, concat-cut}
use Rattle.tree_model.proofs.Widths.{IsWide, path_wide}
use Rattle.merkle_batch.specs.Rows.{Levels, StandsFor}
use Rattle.ledger_bytes.specs.Digests.{digest}
use Rattle.ledger_bytes.specs.declared.digest.Digest.{Digest}
use Rattle.ledger_bytes.specs.declared.refusal.Refusal.TheVariants.{NoJournal, Purged, RootDiffers, Damaged}
use Rattle.journal_record.specs.Entry.{Entry, content_digest_of, who_digest_of}
use Rattle.journal_record.specs.Header.{spelling}
use Rattle.journal_record.specs.declared.header.Header.{Header}
use Rattle.ledger_model.specs.Getting.{damage}
use Rattle.journal_record.specs.Items.{Item, IsItem}
use Rattle.ledger_model.specs.History as model
use Rattle.ledger_model.specs.History.{History, journals, id, size, point, leaf_digest}
use Rattle.ledger_book.specs.Books.{leaf_digests}
use Rattle.proof_maker.specs.Making.{is_fault}
use Rattle.survivor_set.specs.Sets.{Saved, SavedSet, IsSaved, saved_text, survivors_text, front_text, set_text}
use Rattle.survivor_set.specs.Carries.{HasPath, carried_over, PutsCarried, PutsAll}
use Rattle.survivor_set.specs.Outcomes.{Tells, AreJournalsOf, IsSurvivorOf, carried_set, later_refusal, time_refusal, kind_refusal, path_refusal, body_damage, survivor_refusal, survivors_refusal, front_refusal, set_refusal, carry_refusal, CarryEnds, CarriesOn}
use Rattle.survivor_set.specs.declared.failure.SetErr.{SetErr}
use Rattle.survivor_set.specs.declared.failure.SetErr.TheVariants.{Refused, Bad, NotBelow, OtherLedger, LeafPath, DiskFault, NoMemory}

-- ---- one survivor

-- a path that was carried on is one of a set
pub is_saved : (x : Saved) (path : List ℕ) (item : Item) (n q : ℕ) → IsSaved x → item ≡ x.item → length path ≡ 32 * path_length n q → q < 2 ^ 64 → IsSaved (record { item = item; path = path })
is_saved x path item n q saved is len fits =
    let few : path_length n q ≤ 64 = path_length_below 64 n q (omega (arith, fits)) in
    record { item = subst IsItem (sym is) saved.item; whole = omega (arith, len); few = omega (arith, len, few) }

-- it stays as it is where it isn't carried on
stays : (leaves : List (List ℕ)) (p q : ℕ) (x : Saved) → p ≡ q → IsSaved x → HasPath leaves p x → x.path ≡ concat (path sha256 x.item.header.jsn (take q leaves))
stays leaves p q x same saved has = sym (concat-cut 32 x.path saved.whole) ∙ ap concat has ∙ ap (λ n. concat (path sha256 x.item.header.jsn (take n leaves))) same

pub puts_same : {A E : Type 0} (r : Result A E) (t : Levels) (p q : ℕ) (x : Saved) (item : Item) (row : List ℕ) (old new : List ℕ) → p ≡ q → IsSaved x → item ≡ x.item → row ≡ x.path → OnOk r (new ≡ old ++ saved_text (record { item = item; path = row }))
    → OnOk r (PutsCarried t p q x old new)
puts_same (Err e) t p q x item row old new same saved item_is row_is puts = tt
puts_same (Ok done) t p q x item row old new same saved item_is row_is puts = λ leaves stands has.
    puts ∙ ap (λ z. old ++ saved_text z) (ap₂ (λ (i : Item) (b : List ℕ). record { item = i; path = b }) item_is (row_is ∙ stays leaves p q x same saved has))

-- and else it's the one that was carried on
pub puts_other : {A E : Type 0} (r : Result A E) (t : Levels) (p q n : ℕ) (x : Saved) (item : Item) (made row below : List ℕ) (old new : List ℕ) → n ≡ x.item.header.jsn → item ≡ x.item → below ≡ x.path → row ≡ made
    → ((ds : List (List ℕ)) → StandsFor sha256 t ds → cut 32 below ≡ path sha256 n (take p ds) → made ≡ concat (path sha256 n (take q ds)))
    → OnOk r (new ≡ old ++ saved_text (record { item = item; path = row })) → OnOk r (PutsCarried t p q x old new)
puts_other (Err e) t p q n x item made row below old new n_is item_is below_is row_is carried puts = tt
puts_other (Ok done) t p q n x item made row below old new n_is item_is below_is row_is carried puts = λ leaves stands has.
    let is : row ≡ concat (path sha256 x.item.header.jsn (take q leaves)) =
    row_is ∙ carried leaves stands (ap (cut 32) below_is ∙ has ∙ ap (λ k. path sha256 k (take p leaves)) (sym n_is)) ∙ ap (λ k. concat (path sha256 k (take q leaves))) n_is in
    puts ∙ ap (λ z. old ++ saved_text z) (ap₂ (λ (i : Item) (b : List ℕ). record { item = i; path = b }) item_is is)

-- ---- one after the other

at_here : (P : Saved → Type 0) (xs : List Saved) (i : ℕ) (x : Saved) → slice_get xs i ≡ Some x → All P xs → P x
at_here P xs i x here each = subst P (get_or_from_slice_get xs i x x here) (each i x (slice_get_within xs i x here))

pub puts_more : (t : Levels) (p q : ℕ) (xs : List Saved) (i : ℕ) (x : Saved) (old mid new : List ℕ) → slice_get xs i ≡ Some x → PutsAll t p q xs (take i xs) old mid → PutsCarried t p q x mid new → PutsAll t p q xs (take (i + 1) xs) old new
puts_more t p q xs i x old mid new here far puts = λ leaves stands each.
    let f = carried_over leaves q in
    let front = map f (take i xs) in
    let more : map f (take (i + 1) xs) ≡ front ++ f x ∷ [] =
    ap (map f) (take_more xs i x (slice_get_within xs i x here) ∙ ap (λ y. take i xs ++ y ∷ []) (get_or_from_slice_get xs i x x here)) ∙ map-append f (take i xs) (x ∷ []) in
    puts leaves stands (at_here (HasPath leaves p) xs i x here each)
    ∙ ap (λ u. u ++ saved_text (f x)) (far leaves stands each) ∙ append_assoc old (survivors_text front) (saved_text (f x))
    ∙ ap (λ u. old ++ u) (sym (ap survivors_text more ∙ flat_map-append saved_text front (f x ∷ []) ∙ ap (λ u. survivors_text front ++ u) (append-nil (saved_text (f x)))))

-- ---- of a history

pub leaves_wide : (h : History) → All IsWide (leaf_digests h)
leaves_wide h = All-map IsWide leaf_digest (journals h) (λ k d lt. length-sha256 (0 ∷ spelling (get_or (journals h) k d).header))

pub has_path : (h : History) (p : ℕ) (x : Saved) → IsSurvivorOf h p x → HasPath (leaf_digests h) p x
unfolding path
has_path h p x is =
    let leaves = take p (leaf_digests h) in
    ap (cut 32) is.path_is ∙ cut-concat 32 (omega arith) (path sha256 x.item.header.jsn leaves)
    (path_wide sha256 length-sha256 (length leaves) x.item.header.jsn leaves (All-take IsWide p (leaf_digests h) (leaves_wide h)))

have_paths : (h : History) (s : SavedSet) → AreJournalsOf h s → All (HasPath (leaf_digests h) s.point) s.survivors
have_paths h s are = λ k d lt. has_path h s.point (get_or s.survivors k d) (are k d lt)

-- ---- the carried set

pub carried_told : (h : History) (s : SavedSet) (t : Levels) (q : ℕ) (id root : Digest) (count : ℕ) (mid new : List ℕ) → StandsFor sha256 t (leaf_digests h) → id ≡ s.id → root.0 ≡ model.root h q → count ≡ length s.survivors
    → mid ≡ front_text id q root count → PutsAll t s.point q s.survivors s.survivors mid new → AreJournalsOf h s → new ≡ set_text (carried_set h q s)
unfolding carried_set set_text
carried_told h s t q id root count mid new stands id_is root_is count_is front puts are =
    let xs = map (carried_over (leaf_digests h) q) s.survivors in
    let number : count ≡ length xs = count_is ∙ sym (length-map s.survivors (carried_over (leaf_digests h) q)) in
    puts (leaf_digests h) stands (have_paths h s are)
    ∙ ap (λ (u : List ℕ). u ++ survivors_text xs) (front ∙ ap (λ (d : Digest). front_text d q root count) id_is ∙ ap (λ (d : List ℕ). front_text s.id q (digest d) count) root_is ∙ ap (λ n. front_text s.id q (digest (model.root h q)) n) number)

-- ---- refusals

module _ (h : History) (s : SavedSet) (q : ℕ) where
  pub later_absent : (n : ℕ) → n ≡ size h → size h ≤ q → later_refusal h s q ≡ Some (Refused (NoJournal n))
  unfolding later_refusal
  later_absent n is above = rw (le-leb (size h) q above) (ap (λ k. Some (Refused (NoJournal k))) (sym is))

  module _ (there : q < size h) where
    pub later_below : (p : ℕ) → p ≡ s.point → q < s.point → later_refusal h s q ≡ Some (NotBelow p)
    unfolding later_refusal
    later_below p is below = rw (lt-leb (size h) q there, lt-ltb q s.point below) (ap (λ k. Some (NotBelow k)) (sym is))

    pub later_time : {A : Type 0} (r : Result A SetErr) → s.point ≤ q → Tells r (time_refusal (slice_get (journals h) q)) → Tells r (later_refusal h s q)
    unfolding later_refusal
    later_time r from time = rw (lt-leb (size h) q there, le-ltb q s.point from) time

  -- a set can be carried on to a journal where nothing refuses it
  pub later_passes : later_refusal h s q ≡ None → (s.point ≤ q) × (q < size h)
  later_passes none = elim (cases_lt q (size h)) [
    | inr above ↦ absurd (none-some (Refused (NoJournal (size h))) (sym none ∙ later_absent (size h) refl above))
    | inl there ↦ elim (cases_lt q s.point) [
      | inl below ↦ absurd (none-some (NotBelow s.point) (sym none ∙ later_below there s.point refl below))
      | inr from ↦ (from, there)
    ]
  ]

-- the kind of the journal at a point
pub time_kind : (js : List Entry) (n floor : ℕ) (header : Header) → floor ≤ n → Some header ≡ cond (nat_le floor n) (slice_get (map (λ (j : Entry). j.header) js) n) None → time_refusal (slice_get js n) ≡ kind_refusal header.kind
time_kind js n floor header low is = go (slice_get js n) (is ∙ ap (λ b. cond b (slice_get (map (λ (j : Entry). j.header) js) n) None) (le-leb floor n low) ∙ slice_get-map (λ (j : Entry). j.header) js n)
  where
    go : (o : Option Entry) → Some header ≡ option_map (λ (j : Entry). j.header) o → time_refusal o ≡ kind_refusal header.kind
    go None e = absurd cc
    go (Some x) e = let one : header ≡ x.header = cc in ap (λ (a : Header). kind_refusal a.kind) (sym one)

pub no_time : (js : List Entry) (n floor : ℕ) → floor ≤ n → (let none : Option Header = None in none ≡ cond (nat_le floor n) (slice_get (map (λ (j : Entry). j.header) js) n) none) → time_refusal (slice_get js n) ≡ None
no_time js n floor low is = go (slice_get js n) (is ∙ ap (λ b. cond b (slice_get (map (λ (j : Entry). j.header) js) n) None) (le-leb floor n low) ∙ slice_get-map (λ (j : Entry). j.header) js n)
  where
    go : (o : Option Entry) → (let none : Option Header = None in none ≡ option_map (λ (j : Entry). j.header) o) → time_refusal o ≡ None
    go None e = refl
    go (Some x) e = absurd cc

-- ---- how a call ends

-- a refusal, and no want of memory nor a fault
abbrev pub IsRefusing : SetErr → Type 0
IsRefusing (Refused why) = is_fault why ≡ false
IsRefusing (Bad bad) = ⊥
IsRefusing (NotBelow p) = ⊤
IsRefusing (OtherLedger kept) = ⊤
IsRefusing LeafPath = ⊤
IsRefusing DiskFault = ⊥
IsRefusing NoMemory = ⊥

abbrev pub Refuses : Option SetErr → Type 0
Refuses o = (e : SetErr) → o ≡ Some e → IsRefusing e

none_refuses : Refuses None
none_refuses e is = absurd cc

some_refuses : (x : SetErr) → IsRefusing x → Refuses (Some x)
some_refuses x ok e is = let one : x ≡ e = cc in subst IsRefusing one ok

if_refuses : (b : Bool) (x y : Option SetErr) → Refuses x → Refuses y → Refuses (cond b x y)
if_refuses true x y one two = one
if_refuses false x y one two = two

or_refuses : (x y : Option SetErr) → Refuses x → Refuses y → Refuses (option_or x y)
or_refuses None y one two = two
or_refuses (Some x) y one two = one

damage_refuses : (kept : Digest) (found : List ℕ) → Refuses (option_map Refused (damage kept found))
damage_refuses kept found = go (bytes_eq found kept.0)
  where
    go : (b : Bool) → Refuses (option_map Refused (cond b None (Some (Damaged kept (digest found)))))
    go true = none_refuses
    go false = some_refuses (Refused (Damaged kept (digest found))) refl

body_refuses : (header : Header) (body : Option (List ℕ)) → Refuses (option_map Refused (body_damage header body))
body_refuses header None = none_refuses
body_refuses header (Some content) = damage_refuses header.content_digest (content_digest_of content)

survivor_refuses : (s : SavedSet) (x : Saved) → Refuses (survivor_refusal s x)
unfolding survivor_refusal
survivor_refuses s x = or_refuses (path_refusal s x.item.header x.path) _ (if_refuses _ None (Some LeafPath) none_refuses (some_refuses LeafPath tt))
    (or_refuses (option_map Refused (body_damage x.item.header x.item.body)) _ (body_refuses x.item.header x.item.body) (damage_refuses x.item.header.who_digest (who_digest_of x.item.who)))

pub survivors_refuse : (s : SavedSet) (xs : List Saved) → Refuses (survivors_refusal s xs)
survivors_refuse s [] = none_refuses
survivors_refuse s (x ∷ xs) = or_refuses (survivor_refusal s x) (survivors_refusal s xs) (survivor_refuses s x) (survivors_refuse s xs)

front_refuses : (h : History) (s : SavedSet) → Refuses (front_refusal h s)
unfolding front_refusal
front_refuses h s =
    let a = OtherLedger (digest (id h)) in
    let b = Refused (NoJournal (size h)) in
    let c = Refused (Purged (point h)) in
    let d = Refused (RootDiffers (digest (model.root h s.point))) in
    if_refuses (not (bytes_eq s.id.0 (id h))) (Some a) _ (some_refuses a tt) (if_refuses (nat_le (size h) s.point) (Some b) _ (some_refuses b refl)
    (if_refuses (nat_lt s.point (point h)) (Some c) _ (some_refuses c refl) (if_refuses (not (bytes_eq s.root.0 (model.root h s.point))) (Some d) None (some_refuses d refl) none_refuses)))

pub set_refuses : (h : History) (s : SavedSet) → Refuses (set_refusal h s)
unfolding set_refusal
set_refuses h s = or_refuses (front_refusal h s) (survivors_refusal s s.survivors) (front_refuses h s) (survivors_refuse s s.survivors)

time_refuses : (o : Option Entry) → Refuses (time_refusal o)
time_refuses None = none_refuses
time_refuses (Some e) = if_refuses _ None (Some (Refused _)) none_refuses (some_refuses _ refl)

later_refuses : (h : History) (s : SavedSet) (q : ℕ) → Refuses (later_refusal h s q)
unfolding later_refusal
later_refuses h s q = if_refuses _ (Some (Refused _)) _ (some_refuses _ refl) (if_refuses _ (Some (NotBelow _)) _ (some_refuses _ tt) (time_refuses (slice_get (journals h) q)))

pub ended : (why : Option SetErr) → Refuses why → (e : SetErr) → why ≡ Some e → CarryEnds why e
ended why refuses (Refused x) is = is
ended why refuses (Bad x) is = refuses (Bad x) is
ended why refuses (NotBelow p) is = is
ended why refuses (OtherLedger kept) is = is
ended why refuses LeafPath is = is
ended why refuses DiskFault is = refuses DiskFault is
ended why refuses NoMemory is = absurd (refuses NoMemory is)

pub carries_err : (h : History) (s : SavedSet) (q : ℕ) (r : Result (List ℕ) SetErr) (e : SetErr) → IsErr r × IsErrAnd r (λ f. f ≡ e) → carry_refusal h s q ≡ Some e → CarriesOn h s q r
carries_err h s q (Ok bytes) e is why = absurd (cc is.0)
carries_err h s q (Err f) e is why = ended (carry_refusal h s q) (or_refuses (set_refusal h s) (later_refusal h s q) (set_refuses h s) (later_refuses h s q)) f (why ∙ ap Some (sym is.1))
