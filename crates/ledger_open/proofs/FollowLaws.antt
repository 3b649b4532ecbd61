-- What follows in a file behind the blocks that were read.
use Rattle.std.proofs.Common.{◌≡◌, ◌≢◌, ◌⊎◌, inl, inr, ℕ, ◌+◌, ◌≤◌, List, [], ◌∷◌, ◌++◌, length, get_or, drop, refl, sym, ◌∙◌, ap, subst, arith, append_assoc, append-nil, length-append}
use Rattle.std.proofs.lemmas.List.{drop_at, get_or-drop, map-append}
use Rattle.block_file.specs.Blocks.{AreBlock, BeginsAt, IsOpenBlock}
use Rattle.block_file.specs.File.{open_blocks}
use Rattle.journal_record.specs.Blocks.{block_bytes, leaves_of, AreFrom, IsBlock, AreBlocks, written_blocks}
use Rattle.journal_record.specs.Entry.{Entry}
use Rattle.journal_record.specs.Header.{spelling}
use Rattle.ledger_model.specs.History.{journals_of}
use Rattle.ledger_open.specs.Heads.{Edition}
use Rattle.ledger_open.specs.Damages.{Begun}
use Rattle.ledger_open.specs.Standing.{Floor, HasBlocks}
use Rattle.ledger_open.proofs.AgainLaws.{block_again, front_again, flat}
use Rattle.ledger_open.proofs.SizeLaws.{GivesDigests, readable}

-- the blocks that follow those that were read
record Follows (root : List (List ℕ) → List ℕ) (seen : List (List ℕ)) (n : ℕ) (ks cs : List (List Entry)) (rest : List ℕ) (g : ℕ) (r : List ℕ) : Type 0 where
  pub more : List (List Entry)
  pub are : cs ≡ ks ++ more
  pub lawful : AreBlocks (n + length (journals_of ks)) more
  pub left : rest ≡ open_blocks (written_blocks root (seen ++ leaves_of (journals_of ks)) more) ++ g ∷ r

follows : (root : List (List ℕ) → List ℕ) → GivesDigests root → (seen : List (List ℕ)) (n : ℕ) (ks cs : List (List Entry)) (rest : List ℕ) (g : ℕ) (r : List ℕ) → AreBlocks n ks → AreBlocks n cs → g ≢ 1
    → open_blocks (written_blocks root seen ks) ++ rest ≡ open_blocks (written_blocks root seen cs) ++ g ∷ r → Follows root seen n ks cs rest g r
follows root digests seen n [] cs rest g r kk cc gg is = record {
  more = cs;
  are = refl;
  lawful = subst (λ (m : ℕ). AreBlocks m cs) (omega arith) cc;
  left = is ∙ ap (λ (l : List (List ℕ)). open_blocks (written_blocks root l cs) ++ g ∷ r) (sym (append-nil seen));
}
follows root digests seen n (b ∷ bs) [] rest g r kk cc gg is = absurd (gg (sym (ap (λ (l : List ℕ). get_or l 0 0) is)))
follows root digests seen n (b ∷ bs) (c ∷ cs) rest g r kk cc gg is =
    let behind = ap (λ (l : List ℕ). drop 1 l) is in
    let one = block_again (root (seen ++ leaves_of b)) (root (seen ++ leaves_of c)) b c (open_blocks (written_blocks root (seen ++ leaves_of b) bs) ++ rest) (open_blocks (written_blocks root (seen ++ leaves_of c) cs) ++ g ∷ r) (digests (seen ++ leaves_of b)) (digests (seen ++ leaves_of c)) kk.0.most cc.0.most (readable n b kk.0.entries) (readable n c cc.0.entries)
    (sym (append_assoc (block_bytes (root (seen ++ leaves_of b)) b) (open_blocks (written_blocks root (seen ++ leaves_of b) bs)) rest) ∙ behind ∙ append_assoc (block_bytes (root (seen ++ leaves_of c)) c) (open_blocks (written_blocks root (seen ++ leaves_of c) cs)) (g ∷ r)) in
    let there : AreBlocks (n + length b) cs = subst (λ (x : List Entry). AreBlocks (n + length x) cs) (sym one.1) cc.1 in
    let f = follows root digests (seen ++ leaves_of b) (n + length b) bs cs rest g r kk.1 there gg
    (one.2 ∙ ap (λ (x : List Entry). open_blocks (written_blocks root (seen ++ leaves_of x) cs) ++ g ∷ r) (sym one.1)) in
    record {
      more = f.more;
      are = ap (λ (x : List Entry). x ∷ cs) (sym one.1) ∙ ap (λ (xs : List (List Entry)). b ∷ xs) f.are;
      lawful = subst (λ (m : ℕ). AreBlocks m f.more) (omega (arith, length-append b (journals_of bs))) f.lawful;
      left = f.left ∙ ap (λ (l : List (List ℕ)). open_blocks (written_blocks root l f.more) ++ g ∷ r) (append_assoc seen (leaves_of b) (leaves_of (journals_of bs)) ∙ ap (λ (l : List (List ℕ)). seen ++ l) (sym (map-append (λ (e : Entry). spelling e.header) b (journals_of bs))));
    }

-- what a file that has these blocks has behind those that were read
pub record IsBehind (floor : Floor) (file : List ℕ) (ks cs : List (List Entry)) (at : ℕ) : Type 0 where
  pub more : List (List Entry)
  pub are : cs ≡ ks ++ more
  pub lawful : AreBlocks (floor.first + length (journals_of ks)) more
  pub gate : ℕ
  pub rest : List ℕ
  pub shut : gate ≢ 1
  pub left : drop at file ≡ open_blocks (written_blocks floor.root (leaves_of (journals_of ks)) more) ++ gate ∷ rest

pub behind : (floor : Floor) → GivesDigests floor.root → (edition : Edition) (file : List ℕ) (ks cs : List (List Entry)) (at : ℕ) → Begun floor file ks at → HasBlocks floor edition cs file → IsBehind floor file ks cs at
behind floor digests edition file ks cs at b x =
    let parts : b.front ++ (open_blocks (written_blocks floor.root [] ks) ++ b.rest) ≡ x.front ++ (open_blocks (written_blocks floor.root [] cs) ++ x.stands.gate ∷ x.stands.rest) =
    sym (append_assoc b.front (open_blocks (written_blocks floor.root [] ks)) b.rest) ∙ sym b.is ∙ flat x.front (written_blocks floor.root [] cs) file x.stands in
    let one = front_again b.edition edition floor.base floor.base b.front x.front _ _ b.head x.head parts in
    let f = follows floor.root digests [] floor.first ks cs b.rest x.stands.gate x.stands.rest b.lawful x.lawful x.stands.shut one.2 in
    record {
      more = f.more;
      are = f.are;
      lawful = f.lawful;
      gate = x.stands.gate;
      rest = x.stands.rest;
      shut = x.stands.shut;
      left = ap (λ (l : List ℕ). drop at l) b.is ∙ drop_at (b.front ++ open_blocks (written_blocks floor.root [] ks)) b.rest at b.place ∙ f.left;
    }

gate_at : (at : ℕ) (file : List ℕ) → get_or file at 0 ≡ get_or (drop at file) 0 0
gate_at at file = let e : at ≡ at + 0 = omega arith in ap (λ (k : ℕ). get_or file k 0) e ∙ sym (get_or-drop at file 0 0)

-- where no block follows, the next gate is shut
pub behind_none : (floor : Floor) (file : List ℕ) (ks cs : List (List Entry)) (at : ℕ) (x : IsBehind floor file ks cs at) → x.more ≡ [] → get_or file at 0 ≢ 1
behind_none floor file ks cs at x none is =
    x.shut (sym (ap (λ (l : List ℕ). get_or l 0 0) (x.left ∙ ap (λ (m : List (List Entry)). open_blocks (written_blocks floor.root (leaves_of (journals_of ks)) m) ++ x.gate ∷ x.rest) none)) ∙ sym (gate_at at file) ∙ is)

-- bytes of which there is one
record Parted (bytes : List ℕ) : Type 0 where
  pub first : ℕ
  pub others : List ℕ
  pub is : bytes ≡ first ∷ others

parted : (bytes : List ℕ) → 1 ≤ length bytes → Parted bytes
parted [] some = absurd (omega (arith, some))
parted (x ∷ xs) some = record { first = x; others = xs; is = refl }

begins : (n : ℕ) (es : List Entry) → AreFrom n es → BeginsAt n es
begins n [] a = tt
begins n (e ∷ es) a = a.0.jsn

pub are_block : (n : ℕ) (es : List Entry) → IsBlock n es → AreBlock n es
are_block n es b = record { some = b.some; most = b.most; readable = readable n es b.entries; begins = begins n es b.entries }

-- where a block follows and a byte behind it, it is open
module _ (floor : Floor) (digests : GivesDigests floor.root) (file : List ℕ) (seen : List (List ℕ)) (at : ℕ) (end : List ℕ) (b : List Entry) (bs : List (List Entry))
    (left : drop at file ≡ open_blocks (written_blocks floor.root seen (b ∷ bs)) ++ end) (some : 1 ≤ length end) where
  abbrev root : List ℕ
  root = floor.root (seen ++ leaves_of b)

  tail : List ℕ
  tail = open_blocks (written_blocks floor.root (seen ++ leaves_of b) bs) ++ end

  tail_some : Parted tail
  unfolding tail
  tail_some = parted (open_blocks (written_blocks floor.root (seen ++ leaves_of b) bs) ++ end) (omega (arith, some, length-append (open_blocks (written_blocks floor.root (seen ++ leaves_of b) bs)) end))

  stands : drop at file ≡ 1 ∷ (block_bytes root b ++ tail)
  unfolding tail
  stands = left ∙ ap (λ (l : List ℕ). 1 ∷ l) (append_assoc (block_bytes root b) (open_blocks (written_blocks floor.root (seen ++ leaves_of b) bs)) end)

  pub follows_open : IsOpenBlock at root b file
  follows_open = record {
    digest = digests (seen ++ leaves_of b);
    gate = tail_some.first;
    rest = tail_some.others;
    is = stands ∙ ap (λ (l : List ℕ). 1 ∷ (block_bytes root b ++ l)) tail_some.is;
  }

module _ (floor : Floor) (digests : GivesDigests floor.root) (file : List ℕ) (ks cs : List (List Entry)) (at : ℕ) (x : IsBehind floor file ks cs at) (b : List Entry) (bs : List (List Entry)) (is : x.more ≡ b ∷ bs) where
  pub behind_open : IsOpenBlock at (floor.root (leaves_of (journals_of ks) ++ leaves_of b)) b file
  behind_open =
      follows_open floor digests file (leaves_of (journals_of ks)) at (x.gate ∷ x.rest) b bs
      (x.left ∙ ap (λ (m : List (List Entry)). open_blocks (written_blocks floor.root (leaves_of (journals_of ks)) m) ++ x.gate ∷ x.rest) is) (omega arith)

  pub behind_block : IsBlock (floor.first + length (journals_of ks)) b
  behind_block = (subst (λ (m : List (List Entry)). AreBlocks (floor.first + length (journals_of ks)) m) is x.lawful).0

-- one open block stands at a place
pub open_same : (at n m : ℕ) (file a c : List ℕ) (es fs : List Entry) → IsOpenBlock at a es file → IsOpenBlock at c fs file → AreBlock n es → AreBlock m fs → (a ≡ c) × (es ≡ fs)
open_same at n m file a c es fs x y ee ff =
    let one = block_again a c es fs (x.gate ∷ x.rest) (y.gate ∷ y.rest) x.digest y.digest ee.most ff.most ee.readable ff.readable (ap (λ (l : List ℕ). drop 1 l) (sym x.is ∙ y.is)) in
    (one.0, one.1)

-- ---- two readings of one file

-- of two lists of blocks the second goes on from the first
record GoesOnFrom (root : List (List ℕ) → List ℕ) (seen : List (List ℕ)) (n : ℕ) (ks cs : List (List Entry)) (rest end : List ℕ) : Type 0 where
  pub more : List (List Entry)
  pub are : cs ≡ ks ++ more
  pub lawful : AreBlocks (n + length (journals_of ks)) more
  pub left : rest ≡ open_blocks (written_blocks root (seen ++ leaves_of (journals_of ks)) more) ++ end

from_none : (root : List (List ℕ) → List ℕ) (seen : List (List ℕ)) (n : ℕ) (cs : List (List Entry)) (rest end : List ℕ) → AreBlocks n cs → rest ≡ open_blocks (written_blocks root seen cs) ++ end → GoesOnFrom root seen n [] cs rest end
from_none root seen n cs rest end cc is = record {
  more = cs;
  are = refl;
  lawful = subst (λ (m : ℕ). AreBlocks m cs) (omega arith) cc;
  left = is ∙ ap (λ (l : List (List ℕ)). open_blocks (written_blocks root l cs) ++ end) (sym (append-nil seen));
}

from_more : (root : List (List ℕ) → List ℕ) (seen : List (List ℕ)) (n : ℕ) (b : List Entry) (bs cs : List (List Entry)) (rest end : List ℕ) → GoesOnFrom root (seen ++ leaves_of b) (n + length b) bs cs rest end → GoesOnFrom root seen n (b ∷ bs) (b ∷ cs) rest end
from_more root seen n b bs cs rest end f = record {
  more = f.more;
  are = ap (λ (xs : List (List Entry)). b ∷ xs) f.are;
  lawful = subst (λ (m : ℕ). AreBlocks m f.more) (omega (arith, length-append b (journals_of bs))) f.lawful;
  left = f.left ∙ ap (λ (l : List (List ℕ)). open_blocks (written_blocks root l f.more) ++ end) (append_assoc seen (leaves_of b) (leaves_of (journals_of bs)) ∙ ap (λ (l : List (List ℕ)). seen ++ l) (sym (map-append (λ (e : Entry). spelling e.header) b (journals_of bs))));
}

compare : (root : List (List ℕ) → List ℕ) → GivesDigests root → (seen : List (List ℕ)) (n : ℕ) (ks cs : List (List Entry)) (rest end : List ℕ) → AreBlocks n ks → AreBlocks n cs
    → open_blocks (written_blocks root seen ks) ++ rest ≡ open_blocks (written_blocks root seen cs) ++ end → GoesOnFrom root seen n ks cs rest end ⊎ GoesOnFrom root seen n cs ks end rest
compare root digests seen n [] cs rest end kk cc is = inl (from_none root seen n cs rest end cc is)
compare root digests seen n (b ∷ bs) [] rest end kk cc is = inr (from_none root seen n (b ∷ bs) end rest kk (sym is))
compare root digests seen n (b ∷ bs) (c ∷ cs) rest end kk cc is =
    let behind = ap (λ (l : List ℕ). drop 1 l) is in
    let one = block_again (root (seen ++ leaves_of b)) (root (seen ++ leaves_of c)) b c (open_blocks (written_blocks root (seen ++ leaves_of b) bs) ++ rest) (open_blocks (written_blocks root (seen ++ leaves_of c) cs) ++ end) (digests (seen ++ leaves_of b)) (digests (seen ++ leaves_of c)) kk.0.most cc.0.most (readable n b kk.0.entries) (readable n c cc.0.entries)
    (sym (append_assoc (block_bytes (root (seen ++ leaves_of b)) b) (open_blocks (written_blocks root (seen ++ leaves_of b) bs)) rest) ∙ behind ∙ append_assoc (block_bytes (root (seen ++ leaves_of c)) c) (open_blocks (written_blocks root (seen ++ leaves_of c) cs)) end) in
    let there : AreBlocks (n + length b) cs = subst (λ (x : List Entry). AreBlocks (n + length x) cs) (sym one.1) cc.1 in
    let left = one.2 ∙ ap (λ (x : List Entry). open_blocks (written_blocks root (seen ++ leaves_of x) cs) ++ end) (sym one.1) in
    elim (compare root digests (seen ++ leaves_of b) (n + length b) bs cs rest end kk.1 there left) [
      | inl f ↦ inl (subst (λ (x : List Entry). GoesOnFrom root seen n (b ∷ bs) (x ∷ cs) rest end) one.1 (from_more root seen n b bs cs rest end f))
      | inr f ↦ inr (subst (λ (x : List Entry). GoesOnFrom root seen n (x ∷ cs) (b ∷ bs) end rest) one.1 (from_more root seen n b cs bs end rest f))
    ]

-- a file that begins with some blocks has others in front of them, and at this place what follows those
pub record GoesOn (floor : Floor) (file : List ℕ) (ks cs : List (List Entry)) (at : ℕ) (end : List ℕ) : Type 0 where
  pub more : List (List Entry)
  pub are : cs ≡ ks ++ more
  pub lawful : AreBlocks (floor.first + length (journals_of ks)) more
  pub left : drop at file ≡ open_blocks (written_blocks floor.root (leaves_of (journals_of ks)) more) ++ end

begun_left : (floor : Floor) (file : List ℕ) (ks : List (List Entry)) (at : ℕ) (b : Begun floor file ks at) → drop at file ≡ b.rest
begun_left floor file ks at b = ap (λ (l : List ℕ). drop at l) b.is ∙ drop_at (b.front ++ open_blocks (written_blocks floor.root [] ks)) b.rest at b.place

-- of two readings of one file one goes on from the other
pub readings : (floor : Floor) → GivesDigests floor.root → (file : List ℕ) (ks cs : List (List Entry)) (at place : ℕ) → Begun floor file ks at → Begun floor file cs place
    → GoesOn floor file ks cs at (drop place file) ⊎ GoesOn floor file cs ks place (drop at file)
readings floor digests file ks cs at place x y =
    let parts : x.front ++ (open_blocks (written_blocks floor.root [] ks) ++ x.rest) ≡ y.front ++ (open_blocks (written_blocks floor.root [] cs) ++ y.rest) =
    sym (append_assoc x.front (open_blocks (written_blocks floor.root [] ks)) x.rest) ∙ sym x.is ∙ y.is ∙ append_assoc y.front (open_blocks (written_blocks floor.root [] cs)) y.rest in
    let one = front_again x.edition y.edition floor.base floor.base x.front y.front _ _ x.head y.head parts in
    let left = begun_left floor file ks at x in
    let right = begun_left floor file cs place y in
    elim (compare floor.root digests [] floor.first ks cs x.rest y.rest x.lawful y.lawful one.2) [
      | inl f ↦ inl (record { more = f.more; are = f.are; lawful = f.lawful; left = left ∙ f.left ∙ ap (λ (l : List ℕ). open_blocks (written_blocks floor.root (leaves_of (journals_of ks)) f.more) ++ l) (sym right) })
      | inr f ↦ inr (record { more = f.more; are = f.are; lawful = f.lawful; left = right ∙ f.left ∙ ap (λ (l : List ℕ). open_blocks (written_blocks floor.root (leaves_of (journals_of cs)) f.more) ++ l) (sym left) })
    ]
