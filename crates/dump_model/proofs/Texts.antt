-- The bytes of a dump tell it.
use Rattle.std.specs.Int.{w64, to_be_bytes}
use Rattle.std.specs.List.{flat_map, concat}
use Rattle.std.specs.Prelude.{IfSome}
use Rattle.std.proofs.Common.{◌≡◌, ℕ, ◌^◌, ◌<◌, List, [], ◌++◌, length, drop, All, Option, Some, None, refl, sym, ap, ap₂, ◌∙◌, arith, append_assoc, append-nil}
use Rattle.ledger_bytes.specs.Fields.{number_at, digest_at, bytes_at}
use Rattle.ledger_bytes.specs.declared.digest.Digest.{Digest}
use Rattle.ledger_bytes.proofs.Fields.{wide64, number_back, digest_back, bytes_back}
use Rattle.journal_record.specs.Items.{Item, IsItem, item_text, item_at}
use Rattle.journal_record.proofs.ItemLaws.{item_back}
use Rattle.merkle_tree.specs.declared.head.Head.{Head}
use Rattle.pseudo_genesis.specs.Bases as bases
use Rattle.pseudo_genesis.specs.Bases.{IsBase, IsWide, base_spelling}
use Rattle.pseudo_genesis.specs.Reading.{base_at}
use Rattle.pseudo_genesis.specs.declared.base.Base.{Base}
use Rattle.pseudo_genesis.proofs.Wholes as wholes
use Rattle.dump_model.specs.Dumps.{Dump, IsDump, IsNotaryEntry, magic, number_text, base_text, dump_text}
use Rattle.dump_model.proofs.Lengths.{base_fits, base_some}
use Rattle.dump_model.proofs.Same.{same_read, same_spelled, same_many, concat_is}

-- ---- the same parts

abbrev Fits : Option Base → Type 0
Fits base = IfSome base (λ b. IsBase b × bases.HasWidths b)

same_number : (m n : ℕ) (rest more : List ℕ) → m < 2 ^ 64 → n < 2 ^ 64 → number_text m ++ rest ≡ number_text n ++ more → (m ≡ n) × (rest ≡ more)
same_number m n rest more fit_m fit_n same = same_spelled (number_at w64) (to_be_bytes w64) (λ k. k < 2 ^ 64) (number_back w64 (2 ^ 64) wide64) m n rest more fit_m fit_n same

same_digest : (d e : Digest) (rest more : List ℕ) → IsWide d → IsWide e → d.0 ++ rest ≡ e.0 ++ more → (d ≡ e) × (rest ≡ more)
same_digest d e rest more wide_d wide_e same = same_spelled digest_at (λ x. x.0) (λ x. length x.0 ≡ 32) digest_back d e rest more wide_d wide_e same

same_base : (x y : Option Base) (rest more : List ℕ) → Fits x → Fits y
    → number_text (length (base_text x)) ++ (base_text x ++ rest) ≡ number_text (length (base_text y)) ++ (base_text y ++ more) → (x ≡ y) × (rest ≡ more)
same_base None None rest more fit_x fit_y same = (refl, (same_number 0 0 rest more (omega arith) (omega arith) same).1)
same_base None (Some y) rest more fit_x fit_y same =
    let count = (same_number 0 (length (base_spelling y)) rest (base_spelling y ++ more) (omega arith) (base_fits y fit_y.0 fit_y.1) same).0 in
    absurd (omega (arith, count, base_some y))
same_base (Some x) None rest more fit_x fit_y same =
    let count = (same_number (length (base_spelling x)) 0 (base_spelling x ++ rest) more (base_fits x fit_x.0 fit_x.1) (omega arith) same).0 in
    absurd (omega (arith, count, base_some x))
same_base (Some x) (Some y) rest more fit_x fit_y same =
    let behind = (same_number (length (base_spelling x)) (length (base_spelling y)) (base_spelling x ++ rest) (base_spelling y ++ more) (base_fits x fit_x.0 fit_x.1) (base_fits y fit_y.0 fit_y.1) same).1 in
    let parts = same_read base_at x y (base_spelling x) (base_spelling y) rest more ((wholes.base_text x 0 fit_x.0 fit_x.1).again rest) ((wholes.base_text y 0 fit_y.0 fit_y.1).again more) behind in
    (ap (λ b. Some b) parts.0, parts.1)

same_items : (xs ys : List Item) (rest more : List ℕ) → All IsItem xs → All IsItem ys → length xs < 2 ^ 64 → length ys < 2 ^ 64
    → number_text (length xs) ++ (flat_map item_text xs ++ rest) ≡ number_text (length ys) ++ (flat_map item_text ys ++ more) → (xs ≡ ys) × (rest ≡ more)
same_items xs ys rest more fit_xs fit_ys few_xs few_ys same =
    let parts = same_number (length xs) (length ys) (flat_map item_text xs ++ rest) (flat_map item_text ys ++ more) few_xs few_ys same in
    same_many item_at item_text IsItem item_back xs ys rest more fit_xs fit_ys parts.0 parts.1

same_entries : (xs ys : List (List ℕ)) (rest more : List ℕ) → All IsNotaryEntry xs → All IsNotaryEntry ys → length xs < 2 ^ 64 → length ys < 2 ^ 64
    → number_text (length xs) ++ (concat xs ++ rest) ≡ number_text (length ys) ++ (concat ys ++ more) → (xs ≡ ys) × (rest ≡ more)
same_entries xs ys rest more fit_xs fit_ys few_xs few_ys same =
    let parts = same_number (length xs) (length ys) (concat xs ++ rest) (concat ys ++ more) few_xs few_ys same in
    let joined : flat_map (λ x. x) xs ++ rest ≡ flat_map (λ x. x) ys ++ more =
    ap (λ bytes. bytes ++ rest) (sym (concat_is xs)) ∙ parts.1 ∙ ap (λ bytes. bytes ++ more) (concat_is ys) in
    same_many (bytes_at 72) (λ x. x) IsNotaryEntry (bytes_back 72) xs ys rest more fit_xs fit_ys parts.0 joined

-- ---- the same dump

-- the bytes of a dump with others behind them, from the front on
abbrev text_before : Dump → List ℕ → List ℕ
text_before dump more =
    magic
    ++ (dump.id.0
    ++ (number_text (length (base_text dump.base)) ++ (base_text dump.base
    ++ (number_text (length dump.items) ++ (flat_map item_text dump.items
    ++ (number_text dump.head.size ++ (dump.head.root.0
    ++ (number_text (length dump.entries) ++ (concat dump.entries
    ++ (dump.notary_root.0 ++ more))))))))))

-- what is behind two texts is behind the second
behind : (x y more z : List ℕ) → y ++ more ≡ z → (x ++ y) ++ more ≡ x ++ z
behind x y more z is = append_assoc x y more ∙ ap (λ bytes. x ++ bytes) is

text_is : (dump : Dump) (more : List ℕ) → dump_text dump ++ more ≡ text_before dump more
unfolding dump_text
text_is dump more =
    behind magic _ more _ (behind dump.id.0 _ more _
    (behind (number_text (length (base_text dump.base))) _ more _ (behind (base_text dump.base) _ more _
    (behind (number_text (length dump.items)) _ more _ (behind (flat_map item_text dump.items) _ more _
    (behind (number_text dump.head.size) _ more _ (behind dump.head.root.0 _ more _
    (behind (number_text (length dump.entries)) _ more _ (append_assoc (concat dump.entries) dump.notary_root.0 more)))))))))

abbrev dump_from : Digest → Option Base → List Item → Head → List (List ℕ) → Digest → Dump
dump_from id base items head entries notary_root = record { id = id; base = base; items = items; head = head; entries = entries; notary_root = notary_root }

-- dumps whose bytes are the same, whatever follows, are the same, and so is what follows
same_dump : (x y : Dump) (rest more : List ℕ) → IsDump x → IsDump y → text_before x rest ≡ text_before y more → (x ≡ y) × (rest ≡ more)
same_dump x y rest more fit_x fit_y same =
    let id = same_digest x.id y.id _ _ fit_x.id fit_y.id (ap (λ bytes. drop 8 bytes) same) in
    let base = same_base x.base y.base _ _ fit_x.base fit_y.base id.1 in
    let items = same_items x.items y.items _ _ fit_x.items fit_y.items fit_x.item_count fit_y.item_count base.1 in
    let size = same_number x.head.size y.head.size _ _ fit_x.size fit_y.size items.1 in
    let root = same_digest x.head.root y.head.root _ _ fit_x.root fit_y.root size.1 in
    let entries = same_entries x.entries y.entries _ _ fit_x.entries fit_y.entries fit_x.entry_count fit_y.entry_count root.1 in
    let notary = same_digest x.notary_root y.notary_root rest more fit_x.notary_root fit_y.notary_root entries.1 in
    let head : x.head ≡ y.head = ap₂ (λ n r. record { size = n; root = r }) size.0 root.0 in
    let first : x ≡ dump_from y.id y.base x.items x.head x.entries x.notary_root = ap₂ (λ i b. dump_from i b x.items x.head x.entries x.notary_root) id.0 base.0 in
    let second : dump_from y.id y.base x.items x.head x.entries x.notary_root ≡ dump_from y.id y.base y.items y.head x.entries x.notary_root =
    ap₂ (λ js h. dump_from y.id y.base js h x.entries x.notary_root) items.0 head in
    let third : dump_from y.id y.base y.items y.head x.entries x.notary_root ≡ y = ap₂ (λ es r. dump_from y.id y.base y.items y.head es r) entries.0 notary.0 in
    (first ∙ second ∙ third, notary.1)

pub whole_text : (dump other : Dump) (more : List ℕ) → IsDump dump → IsDump other → dump_text dump ++ more ≡ dump_text other → (dump ≡ other) × (more ≡ [])
whole_text dump other more fits fits_other same =
    same_dump dump other more [] fits fits_other (sym (text_is dump more) ∙ same ∙ sym (append-nil (dump_text other)) ∙ text_is other [])

pub same_text : (dump other : Dump) → IsDump dump → IsDump other → dump_text dump ≡ dump_text other → dump ≡ other
same_text dump other fits fits_other same = (whole_text dump other [] fits fits_other (append-nil (dump_text dump) ∙ same)).0
