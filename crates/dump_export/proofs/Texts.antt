-- The pieces of a dump's bytes, joined.
use Rattle.std.specs.Prelude.{map, slice_get}
use Rattle.std.specs.List.{flat_map, concat}
use Rattle.std.proofs.Common.{◌≡◌, ℕ, zero, suc, ◌+◌, ◌-◌, ◌≤◌, List, [], ◌∷◌, ◌++◌, length, take, drop, Some, refl, sym, ap, ap₂, ◌∙◌, append_assoc, append-nil, arith, length-drop}
use Rattle.std.proofs.Math.Seq.{take-add}
use Rattle.std.proofs.lemmas.Grind.{flat_map-append}
use Rattle.std.proofs.lemmas.List.{length-map, take_all, take-append-drop}
use Rattle.std.proofs.lemmas.List.Folds.{concat-append}
use Rattle.std.proofs.lemmas.Option.{none-some, slice_get-map}
use Rattle.std.specs.Option.{option_map}
use Rattle.block_file.specs.declared.place.PlaceAt.{PlaceAt}
use Rattle.journal_record.specs.Entry.{Entry}
use Rattle.journal_record.specs.Items.{Item, item_text}
use Rattle.ledger_book.specs.Books.{Kept, sealed_size}
use Rattle.ledger_book.specs.Seals.{head_of}
use Rattle.ledger_model.specs.Bases.{base_of}
use Rattle.ledger_model.specs.History.{History, journals, journals_of, size, root, id, point}
use Rattle.ledger_open.specs.Pieces.{IsReadAs}
use Rattle.pseudo_genesis.specs.Bases.{base_spelling}
use Rattle.dump_model.specs.Dumps.{Dump, dump_text, base_text, magic, number_text}
use Rattle.dump_model.specs.Shown.{ledger_dump, shown, base_at}
use Rattle.merkle_tree.specs.declared.head.Head.{Head}
use Rattle.sha2.specs.Sha256.{sha256}
use Rattle.tree_model.specs.Tree.{mth}
use Rattle.dump_export.specs.Damages.{shown_journals}
use Rattle.dump_export.specs.Exports.{IsBookOf}
use Rattle.dump_export.specs.Texts.{front_text, first_journals, journal_at, journals_text, first_entries, entry_at, entries_text, head_text, root_text, tail_text}

-- ---- lists

-- the element at an index, as a list
pub one_at : {A : Type 0} (xs : List A) (k : ℕ) (x : A) → slice_get xs k ≡ Some x → take 1 (drop k xs) ≡ x ∷ []
one_at [] k x is = absurd (none-some x is)
one_at (y ∷ ys) zero x is = let same : y ≡ x = cc is in ap (λ z. z ∷ []) same
one_at (y ∷ ys) (suc k) x is = one_at ys k x is

-- ---- the dump

pub dump_parts : (d : Dump) → front_text d ++ (journals_text d ++ tail_text d) ≡ dump_text d
unfolding dump_text
dump_parts d = simp append_assoc

pub entries_are : (h : History) (entries : List (List ℕ)) → (ledger_dump h entries).entries ≡ entries
unfolding ledger_dump
entries_are h entries = refl

pub items_are : (h : History) (entries : List (List ℕ)) → (ledger_dump h entries).items ≡ map (shown h) (shown_journals h)
unfolding ledger_dump
items_are h entries = refl

-- how many journals it has
pub items_count : (h : History) (entries : List (List ℕ)) → length (ledger_dump h entries).items ≡ size h - point h
items_count h entries = ap length (items_are h entries) ∙ length-map (shown_journals h) (shown h) ∙ length-drop (point h) (journals h)

-- the bytes of the base behind which there is a journal
pub base_there : (h : History) (p : ℕ) → 1 ≤ p → base_text (base_at h p) ≡ base_spelling (base_of h p)
base_there h zero some = absurd (omega arith)
base_there h (suc n) some = refl

-- ---- one journal more

pub next_journal : (k : ℕ) (d : Dump) → first_journals k d ++ journal_at k d ≡ first_journals (k + 1) d
next_journal k d = sym (ap (flat_map item_text) (take-add k 1 d.items) ∙ flat_map-append item_text (take k d.items) (take 1 (drop k d.items)))

-- what stands behind some first journals
abbrev pub behind_journals : ℕ → Dump → List ℕ
behind_journals k d = flat_map item_text (drop k d.items)

pub split_journals : (k : ℕ) (d : Dump) → (first_journals k d ++ journal_at k d) ++ behind_journals (k + 1) d ≡ journals_text d
split_journals k d =
    ap (λ (l : List ℕ). l ++ behind_journals (k + 1) d) (next_journal k d)
    ∙ sym (flat_map-append item_text (take (k + 1) d.items) (drop (k + 1) d.items))
    ∙ ap (flat_map item_text) (take-append-drop (k + 1) d.items)

pub all_journals : (k : ℕ) (d : Dump) → length d.items ≤ k → first_journals k d ≡ journals_text d
all_journals k d le = ap (flat_map item_text) (take_all k d.items le)

-- the bytes of a journal that is shown
pub journal_text_is : (h : History) (entries : List (List ℕ)) (k : ℕ) (e : Entry) → slice_get (shown_journals h) k ≡ Some e → item_text (shown h e) ≡ journal_at k (ledger_dump h entries)
journal_text_is h entries k e is =
    let there : slice_get (ledger_dump h entries).items k ≡ Some (shown h e) =
    ap (λ (l : List Item). slice_get l k) (items_are h entries) ∙ slice_get-map (shown h) (shown_journals h) k ∙ ap (option_map (shown h)) is in
    sym (ap (flat_map item_text) (one_at (ledger_dump h entries).items k (shown h e) there) ∙ append-nil (item_text (shown h e)))

-- ---- one entry more

pub next_entry : (k : ℕ) (d : Dump) → first_entries k d ++ entry_at k d ≡ first_entries (k + 1) d
next_entry k d = sym (ap concat (take-add k 1 d.entries) ∙ concat-append (take k d.entries) (take 1 (drop k d.entries)))

-- what stands behind some first entries
abbrev pub behind_entries : ℕ → Dump → List ℕ
behind_entries k d = concat (drop k d.entries)

pub split_entries : (k : ℕ) (d : Dump) → (first_entries k d ++ entry_at k d) ++ behind_entries (k + 1) d ≡ entries_text d
split_entries k d =
    ap (λ (l : List ℕ). l ++ behind_entries (k + 1) d) (next_entry k d)
    ∙ sym (concat-append (take (k + 1) d.entries) (drop (k + 1) d.entries))
    ∙ ap concat (take-append-drop (k + 1) d.entries)

pub all_entries : (k : ℕ) (d : Dump) → length d.entries ≤ k → first_entries k d ≡ entries_text d
all_entries k d le = ap concat (take_all k d.entries le)

-- the bytes of an entry
pub entry_text_is : (h : History) (entries : List (List ℕ)) (k : ℕ) (entry : List ℕ) → slice_get entries k ≡ Some entry → entry ≡ entry_at k (ledger_dump h entries)
entry_text_is h entries k entry is =
    sym (ap (λ (l : List (List ℕ)). concat (take 1 (drop k l))) (entries_are h entries) ∙ ap concat (one_at entries k entry is) ∙ append-nil entry)

-- ---- the book

-- a book that is read with its file is that of the history
pub book_of : (book : Kept) (places : List PlaceAt) (file : List ℕ) (h : History) → IsReadAs book places file h → IsBookOf book h
book_of book places file h is = record { serves = is.ends.serves; floor = is.floor; none = is.ends.none }

-- how many journals it has from where it begins
pub count_is : (book : Kept) (h : History) (entries : List (List ℕ)) → IsBookOf book h → length (ledger_dump h entries).items ≡ book.size - book.floor
count_is book h entries is = items_count h entries ∙ ap₂ (λ (m n : ℕ). m - n) (sym is.serves.stands.counts.size) (sym is.floor)

-- ---- what a book tells

-- the bytes in front of the journals
pub front_is : (book : Kept) (h : History) (entries : List (List ℕ)) (name base : List ℕ) (count : ℕ) → IsBookOf book h
    → name ≡ id h → base ≡ base_text (base_at h (point h)) → count ≡ book.size - book.floor
    → magic ++ (name ++ (number_text (length base) ++ (base ++ number_text count))) ≡ front_text (ledger_dump h entries)
unfolding ledger_dump
front_is book h entries name base count is name_is base_is count_is' =
    let many : count ≡ length (map (shown h) (shown_journals h)) = count_is' ∙ sym (count_is book h entries is) ∙ ap length (items_are h entries) in
    ap (λ (l : List ℕ). magic ++ (l ++ (number_text (length base) ++ (base ++ number_text count)))) name_is
    ∙ ap (λ (l : List ℕ). magic ++ (id h ++ (number_text (length l) ++ (l ++ number_text count)))) base_is
    ∙ ap (λ (n : ℕ). magic ++ (id h ++ (number_text (length (base_text (base_at h (point h)))) ++ (base_text (base_at h (point h)) ++ number_text n)))) many

-- all journals stand in blocks that have ended
sealed_all : (h : History) → h.waiting ≡ [] → sealed_size h ≡ size h
sealed_all h none = sym (ap (λ (w : List Entry). length (journals_of h.closed ++ w)) none ∙ ap length (append-nil (journals_of h.closed)))

-- the bytes of the head, and of a number of entries
pub head_is : (book : Kept) (h : History) (entries : List (List ℕ)) (head : Head) (count : ℕ) → IsBookOf book h
    → head ≡ head_of h → count ≡ length entries
    → number_text head.size ++ (head.root.0 ++ number_text count) ≡ head_text (ledger_dump h entries)
unfolding ledger_dump
head_is book h entries head count is head_is' count_is' =
    ap (λ (x : Head). number_text x.size ++ (x.root.0 ++ number_text count)) head_is'
    ∙ ap (λ (m : ℕ). number_text m ++ (root h m ++ number_text count)) (sealed_all h is.none)
    ∙ ap (λ (n : ℕ). number_text (size h) ++ (root h (size h) ++ number_text n)) count_is'

-- the root over the entries
pub root_is : (h : History) (entries : List (List ℕ)) (bytes : List ℕ) → bytes ≡ mth sha256 entries → bytes ≡ root_text (ledger_dump h entries)
unfolding ledger_dump
root_is h entries bytes is = is
