-- A file stands for one list of blocks.
use Rattle.std.specs.Int.{from_be_bytes, w64}
use Rattle.std.proofs.Common.{◌≡◌, ◌≢◌, ℕ, ◌≤◌, List, [], ◌∷◌, ◌++◌, length, take, drop, refl, sym, ◌∙◌, ap, arith, append_assoc, length-drop}
use Rattle.std.proofs.lemmas.List.{drop_at, take_at, take-append-le, drop-append-le}
use Rattle.journal_record.specs.Records.{number_8}
use Rattle.block_file.specs.File.{IsFileOf, open_blocks, IsWhole, AreWhole}

-- blocks, and a shut gate behind them
record Follows (blocks : List (List ℕ)) (bytes : List ℕ) : Type 0 where
  pub gate : ℕ
  pub rest : List ℕ
  pub is : bytes ≡ open_blocks blocks ++ gate ∷ rest
  pub shut : gate ≢ 1

follows : (front : List ℕ) (blocks : List (List ℕ)) (file : List ℕ) → IsFileOf front blocks file → Follows blocks (drop (length front) file)
follows front blocks file stands =
    record {
      gate = stands.gate;
      rest = stands.rest;
      is = ap (λ (l : List ℕ). drop (length front) l) (stands.is ∙ append_assoc front (open_blocks blocks) (stands.gate ∷ stands.rest)) ∙ drop_at front (open_blocks blocks ++ stands.gate ∷ stands.rest) (length front) refl;
      shut = stands.shut;
    }

-- two blocks of which each is followed by bytes that make them one list
one_block : (a b r s : List ℕ) → IsWhole a → IsWhole b → a ++ r ≡ b ++ s → (a ≡ b) × (r ≡ s)
one_block a b r s whole_a whole_b is =
    let number : (x y : List ℕ) → 44 ≤ length x → number_8 4 (x ++ y) ≡ number_8 4 x = λ x y long.
    ap (λ (l : List ℕ). number_8 0 l) (drop-append-le 4 x y (omega (arith, long))) ∙ number_front (drop 4 x) y (omega (arith, long, length-drop 4 x)) in
    let size : length a ≡ length b = omega (arith, whole_a.size, whole_b.size, number a r whole_a.long, number b s whole_b.long, ap (λ (l : List ℕ). number_8 4 l) is) in (
      sym (take_at a r (length a) refl) ∙ ap (λ (l : List ℕ). take (length a) l) is ∙ take_at b s (length a) (sym size),
      sym (drop_at a r (length a) refl) ∙ ap (λ (l : List ℕ). drop (length a) l) is ∙ drop_at b s (length a) (sym size),
    ) where
      number_front : (x y : List ℕ) → 8 ≤ length x → number_8 0 (x ++ y) ≡ number_8 0 x
      number_front x y long = ap (λ (l : List ℕ). from_be_bytes w64 l) (take-append-le 8 x y long)

follows_same : (xs ys : List (List ℕ)) (bytes : List ℕ) → AreWhole xs → AreWhole ys → Follows xs bytes → Follows ys bytes → xs ≡ ys
follows_same [] [] bytes wx wy x y = refl
follows_same [] (b ∷ ys) bytes wx wy x y = absurd (let one : x.gate ≡ 1 = cc (x.is, y.is) in x.shut one)
follows_same (a ∷ xs) [] bytes wx wy x y = absurd (let one : y.gate ≡ 1 = cc (x.is, y.is) in y.shut one)
follows_same (a ∷ xs) (b ∷ ys) bytes wx wy x y =
    let flat_x : drop 1 bytes ≡ a ++ (open_blocks xs ++ x.gate ∷ x.rest) = ap (λ (l : List ℕ). drop 1 l) x.is ∙ append_assoc a (open_blocks xs) (x.gate ∷ x.rest) in
    let flat_y : drop 1 bytes ≡ b ++ (open_blocks ys ++ y.gate ∷ y.rest) = ap (λ (l : List ℕ). drop 1 l) y.is ∙ append_assoc b (open_blocks ys) (y.gate ∷ y.rest) in
    let one = one_block a b _ _ wx.0 wy.0 (sym flat_x ∙ flat_y) in
    let rest = follows_same xs ys (open_blocks xs ++ x.gate ∷ x.rest) wx.1 wy.1 (record { gate = x.gate; rest = x.rest; is = refl; shut = x.shut }) (record { gate = y.gate; rest = y.rest; is = one.1; shut = y.shut }) in
    ap (λ (z : List ℕ). z ∷ xs) one.0 ∙ ap (λ (l : List (List ℕ)). b ∷ l) rest

pub one_parse : (front : List ℕ) (blocks others : List (List ℕ)) (file : List ℕ) → AreWhole blocks → AreWhole others → IsFileOf front blocks file → IsFileOf front others file → blocks ≡ others
one_parse front blocks others file whole_blocks whole_others x y = follows_same blocks others (drop (length front) file) whole_blocks whole_others (follows front blocks file x) (follows front others file y)
