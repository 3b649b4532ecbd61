-- A file that begins later: the blocks from the point on, behind the base there.
use Rattle.std.proofs.Common.{◌≡◌, ℕ, ◌+◌, Bool, List, [], ◌∷◌, ◌++◌, length, drop, refl, sym, ◌∙◌, ap, subst, arith, append-nil, append_assoc, length-append}
use Rattle.std.proofs.lemmas.List.{map-append, drop_at, length-map}
use Rattle.std.proofs.lemmas.List.Concat.{flat_map-append}
use Rattle.sha2.specs.Sha256.{sha256}
use Rattle.tree_model.specs.Tree.{mth}
use Rattle.journal_record.specs.Entry.{Entry}
use Rattle.journal_record.specs.Header.{spelling}
use Rattle.journal_record.specs.Blocks.{block_bytes, leaves_of, AreBlocks, written_blocks}
use Rattle.block_file.specs.File.{IsFileOf}
use Rattle.ledger_model.specs.History.{History, journals_of}
use Rattle.ledger_open.specs.Heads.{Edition, IsFront}
use Rattle.ledger_open.specs.Standing.{HasBlocks, SameButHidden, floor_behind}
use Rattle.ledger_open.proofs.FloorLaws.{floor_root, floor_first}
use Rattle.ledger_open.proofs.KeptLaws.{all_kept, header_map_same}

-- ---- blocks as they are written

-- journals with these leaves stand below the floor
pub written_above : (root : List (List ℕ) → List ℕ) (below seen : List (List ℕ)) (bs : List (List Entry)) → written_blocks (λ xs. root (below ++ xs)) seen bs ≡ written_blocks root (below ++ seen) bs
written_above root below seen [] = refl
written_above root below seen (b ∷ bs) =
    ap (λ (l : List (List ℕ)). block_bytes (root l) b ∷ written_blocks (λ xs. root (below ++ xs)) (seen ++ leaves_of b) bs) (sym (append_assoc below seen (leaves_of b)))
    ∙ ap (λ (l : List (List ℕ)). block_bytes (root ((below ++ seen) ++ leaves_of b)) b ∷ l) (written_above root below (seen ++ leaves_of b) bs ∙ ap (λ (l : List (List ℕ)). written_blocks root l bs) (sym (append_assoc below seen (leaves_of b))))

-- the first blocks, and those behind them
pub written_parts : (root : List (List ℕ) → List ℕ) (seen : List (List ℕ)) (as_ bs : List (List Entry)) → written_blocks root seen (as_ ++ bs) ≡ written_blocks root seen as_ ++ written_blocks root (seen ++ leaves_of (journals_of as_)) bs
written_parts root seen [] bs = ap (λ (l : List (List ℕ)). written_blocks root l bs) (sym (append-nil seen))
written_parts root seen (a ∷ as_) bs =
    ap (λ (l : List (List ℕ)). block_bytes (root (seen ++ leaves_of a)) a ∷ l)
    (written_parts root (seen ++ leaves_of a) as_ bs
    ∙ ap (λ (l : List (List ℕ)). written_blocks root (seen ++ leaves_of a) as_ ++ written_blocks root l bs) (append_assoc seen (leaves_of a) (leaves_of (journals_of as_)) ∙ ap (λ (l : List (List ℕ)). seen ++ l) (sym (map-append (λ (e : Entry). spelling e.header) a (journals_of as_)))))

-- two roots that agree
pub written_same : (r s : List (List ℕ) → List ℕ) → ((xs : List (List ℕ)) → r xs ≡ s xs) → (seen : List (List ℕ)) (bs : List (List Entry)) → written_blocks r seen bs ≡ written_blocks s seen bs
written_same r s same seen [] = refl
written_same r s same seen (b ∷ bs) =
    ap (λ (x : List ℕ). block_bytes x b ∷ written_blocks r (seen ++ leaves_of b) bs) (same (seen ++ leaves_of b)) ∙ ap (λ (l : List (List ℕ)). block_bytes (s (seen ++ leaves_of b)) b ∷ l) (written_same r s same (seen ++ leaves_of b) bs)

-- ---- the blocks behind some others

-- blocks behind others
pub blocks_behind : (n : ℕ) (as_ bs : List (List Entry)) → AreBlocks n (as_ ++ bs) → AreBlocks (n + length (journals_of as_)) bs
blocks_behind n [] bs are = subst (λ (m : ℕ). AreBlocks m bs) (omega arith) are
blocks_behind n (a ∷ as_) bs are = subst (λ (m : ℕ). AreBlocks m bs) (omega (arith, length-append a (journals_of as_))) (blocks_behind (n + length a) as_ bs are.1)

journals_more : (as_ bs : List (List Entry)) → length (journals_of (as_ ++ bs)) ≡ length (journals_of as_) + length (journals_of bs)
journals_more as_ bs = ap length (flat_map-append (λ (b : List Entry). b) as_ bs) ∙ length-append (journals_of as_) (journals_of bs)

leaves_more : (as_ bs : List (List Entry)) → leaves_of (journals_of (as_ ++ bs)) ≡ leaves_of (journals_of as_) ++ leaves_of (journals_of bs)
leaves_more as_ bs = ap leaves_of (flat_map-append (λ (b : List Entry). b) as_ bs) ∙ map-append (λ (e : Entry). spelling e.header) (journals_of as_) (journals_of bs)

pub length_written : (root : List (List ℕ) → List ℕ) (seen : List (List ℕ)) (bs : List (List Entry)) → length (written_blocks root seen bs) ≡ length bs
length_written root seen [] = refl
length_written root seen (b ∷ bs) = omega (arith, length_written root (seen ++ leaves_of b) bs)

-- The roots of the blocks behind: in a file of the whole floor and in one that begins behind these.
module _ (h : History) (gone mid kept : List (List Entry)) (are : h.closed ≡ gone ++ (mid ++ kept)) where
  later : h.closed ≡ (gone ++ mid) ++ kept
  later = are ∙ sym (append_assoc gone mid kept)

  root_later : (xs : List (List ℕ)) → (floor_behind h gone).root (leaves_of (journals_of mid) ++ xs) ≡ (floor_behind h (gone ++ mid)).root xs
  root_later xs =
      floor_root h gone (mid ++ kept) are (leaves_of (journals_of mid) ++ xs)
      ∙ ap (mth sha256) (sym (append_assoc (leaves_of (journals_of gone)) (leaves_of (journals_of mid)) xs) ∙ ap (λ (l : List (List ℕ)). l ++ xs) (sym (leaves_more gone mid)))
      ∙ sym (floor_root h (gone ++ mid) kept later xs)

  -- fs are what the file has of the blocks that are left out
  module _ (fs ks : List (List Entry)) (same : leaves_of (journals_of fs) ≡ leaves_of (journals_of mid)) where
    pub written_later : written_blocks (floor_behind h gone).root (leaves_of (journals_of fs)) ks ≡ written_blocks (floor_behind h (gone ++ mid)).root [] ks
    written_later =
        ap (λ (l : List (List ℕ)). written_blocks (floor_behind h gone).root l ks) (same ∙ sym (append-nil (leaves_of (journals_of mid))))
        ∙ sym (written_above (floor_behind h gone).root (leaves_of (journals_of mid)) [] ks)
        ∙ written_same (λ xs. (floor_behind h gone).root (leaves_of (journals_of mid) ++ xs)) (floor_behind h (gone ++ mid)).root root_later [] ks

    pub copied : (edition next : Edition) (image new front : List ℕ) → (x : HasBlocks (floor_behind h gone) edition (fs ++ ks) image)
        → length (journals_of fs) ≡ length (journals_of mid) → IsFront next (floor_behind h (gone ++ mid)).base front
        → IsFileOf front (drop (length fs) (written_blocks (floor_behind h gone).root [] (fs ++ ks))) new
        → HasBlocks (floor_behind h (gone ++ mid)) next ks new
    copied edition next image new front x count head stands = record {
      front = front;
      head = head;
      lawful = subst (λ (n : ℕ). AreBlocks n ks) (omega (arith, floor_first h gone, floor_first h (gone ++ mid), journals_more gone mid, count)) (blocks_behind (floor_behind h gone).first fs ks x.lawful);
      stands = subst (λ (l : List (List ℕ)). IsFileOf front l new) parts stands;
    } where
      parts : drop (length fs) (written_blocks (floor_behind h gone).root [] (fs ++ ks)) ≡ written_blocks (floor_behind h (gone ++ mid)).root [] ks
      parts =
          ap (drop (length fs)) (written_parts (floor_behind h gone).root [] fs ks)
          ∙ drop_at (written_blocks (floor_behind h gone).root [] fs) (written_blocks (floor_behind h gone).root (leaves_of (journals_of fs)) ks) (length fs) (length_written (floor_behind h gone).root [] fs)
          ∙ written_later

-- what is kept of blocks, in two parts
pub record Halves (hid gone : ℕ → Bool) (as_ bs cs : List (List Entry)) : Type 0 where
  pub first : List (List Entry)
  pub second : List (List Entry)
  pub are : cs ≡ first ++ second
  pub one : SameButHidden hid gone as_ first
  pub two : SameButHidden hid gone bs second

pub halves : (hid gone : ℕ → Bool) (as_ bs cs : List (List Entry)) → SameButHidden hid gone (as_ ++ bs) cs → Halves hid gone as_ bs cs
halves hid gone [] bs cs s = record { first = []; second = cs; are = refl; one = tt; two = s }
halves hid gone (a ∷ as_) bs [] s = absurd s
halves hid gone (a ∷ as_) bs (c ∷ cs) s =
    let r = halves hid gone as_ bs cs s.1 in
    record { first = c ∷ r.first; second = r.second; are = ap (λ (l : List (List Entry)). c ∷ l) r.are; one = (s.0, r.one); two = r.two }

-- they have the same leaves
pub same_leaves : (hid gone : ℕ → Bool) (as_ cs : List (List Entry)) → SameButHidden hid gone as_ cs → leaves_of (journals_of cs) ≡ leaves_of (journals_of as_)
same_leaves hid gone as_ cs s = sym (header_map_same hid gone spelling (journals_of as_) (journals_of cs) (all_kept hid gone as_ cs s))

pub same_count : (hid gone : ℕ → Bool) (as_ cs : List (List Entry)) → SameButHidden hid gone as_ cs → length (journals_of cs) ≡ length (journals_of as_)
same_count hid gone as_ cs s = sym (length-map (journals_of cs) (λ (e : Entry). spelling e.header)) ∙ ap length (same_leaves hid gone as_ cs s) ∙ length-map (journals_of as_) (λ (e : Entry). spelling e.header)
