-- The proof of a leaf has a spelling, and leads to the root.
use Rattle.std.proofs.Common.{◌≡◌, ℕ, zero, suc, ◌+◌, ◌-◌, ◌*◌, ◌<◌, ◌≤◌, ◌^◌, true, false, cond, List, [], ◌∷◌, ◌++◌, length, map, take, drop, get_or, Some, refl, sym, ap, ◌∙◌, subst, arith, append-nil, length-append}
use Rattle.std.specs.Prelude.{All, nat_le, nat_lt}
use Rattle.std.specs.List.{concat}
use Rattle.std.proofs.lemmas.List.{map-append, take_all, take_more}
use Rattle.std.proofs.lemmas.List.Folds.{concat-append}
use Rattle.std.proofs.lemmas.List.Elements.{All-nil, All-cons, All-append, All-take, All-drop}
use Rattle.sha2.specs.Sha256.{sha256}
use Rattle.sha2.proofs.Facts256.{length-sha256}
use Rattle.tree_model.specs.Path.{path, path_at, path_length, fold_bytes}
use Rattle.tree_model.specs.Tree as tree
use Rattle.tree_model.specs.Tree.{root_at}
use Rattle.tree_model.proofs.Folds.{path_gives_root, fold_bytes-concat}
use Rattle.tree_model.proofs.Paths.{path_length_below}
use Rattle.ledger_bytes.specs.declared.digest.Digest.{Digest}
use Rattle.merkle_tree.specs.declared.head.Head.{Head}
use Rattle.merkle_batch.specs.Rows.{Levels, StandsFor}
use Rattle.merkle_batch.proofs.Keeping.{stands_size}
use Rattle.proof_codec.specs.Proofs.{HasFields, IsProof, spelling}
use Rattle.proof_codec.proofs.Breaks.{length-proof}
use Rattle.ledger_bytes.specs.Digests.{digest}
use Rattle.script_lines.specs.declared.said.Which.TheVariants.{Ledger}
use Rattle.audit_core.specs.Trust.{Trust, root_of, ledger_at}
use Rattle.proof_board.specs.History.{Digests, IsWide}
use Rattle.proof_board.specs.Bare.{bare, IsBareOf, IsAcceptedUnder, IsProved}

-- ---- digests joined one by one

pub record AreJoined (digests : List Digest) (bytes : List ℕ) : Type 0 where
  pub bytes_are : bytes ≡ concat (map (λ (d : Digest). d.0) digests)
  pub count : length bytes ≡ 32 * length digests

pub joined_none : (digests : List Digest) (bytes : List ℕ) → bytes ≡ [] → AreJoined (take 0 digests) bytes
joined_none digests bytes none = record { bytes_are = none; count = ap length none }

pub joined_more : (digests : List Digest) (i : ℕ) (d : Digest) (bytes new : List ℕ) → i < length digests → AreJoined (take i digests) bytes → new ≡ bytes ++ (get_or digests i d).0 → length (get_or digests i d).0 ≡ 32
    → AreJoined (take (i + 1) digests) new
joined_more digests i d bytes new inside so_far more width =
    let x = get_or digests i d in
    let next : take (i + 1) digests ≡ take i digests ++ x ∷ [] = take_more digests i d inside in record {
      bytes_are =
          more ∙ ap (λ (l : List ℕ). l ++ x.0) so_far.bytes_are
          ∙ ap (λ (l : List ℕ). concat (map (λ (y : Digest). y.0) (take i digests)) ++ l) (sym (append-nil x.0))
          ∙ sym (concat-append (map (λ (y : Digest). y.0) (take i digests)) (x.0 ∷ []))
          ∙ ap concat (sym (map-append (λ (y : Digest). y.0) (take i digests) (x ∷ [])))
          ∙ ap (λ (l : List Digest). concat (map (λ (y : Digest). y.0) l)) (sym next);
      count = omega (arith, ap length more, length-append bytes x.0, so_far.count, width, ap length next, length-append (take i digests) (x ∷ []));
    }

pub joined_all : (digests : List Digest) (i : ℕ) (bytes : List ℕ) → length digests ≤ i → AreJoined (take i digests) bytes → AreJoined digests bytes
joined_all digests i bytes all = subst (λ (l : List Digest). AreJoined l bytes) (take_all i digests all)

-- ---- widths

root_wide : (h : ℕ) (ds : List (List ℕ)) → All IsWide ds → IsWide (root_at sha256 h ds)
unfolding root_at
root_wide zero [] each = length-sha256 []
root_wide zero (d ∷ ds) each = each 0 [] (omega arith)
root_wide (suc h) ds each =
    let halves = root_at sha256 h (take (2 ^ h) ds) ++ root_at sha256 h (drop (2 ^ h) ds) in
    elim (nat_le (length ds) (2 ^ h)) as (λ v. IsWide (cond v (root_at sha256 h ds) (sha256 (1 ∷ halves)))) [ true ↦ root_wide h ds each | false ↦ length-sha256 (1 ∷ halves) ]

one_wide : (d : List ℕ) → IsWide d → All IsWide (d ∷ [])
one_wide d wide = All-cons IsWide d [] wide (All-nil IsWide)

path_wide : (h n : ℕ) (ds : List (List ℕ)) → All IsWide ds → All IsWide (path_at sha256 h n ds)
unfolding path_at
path_wide zero n ds each = All-nil IsWide
path_wide (suc h) n ds each =
    let front = take (2 ^ h) ds in
    let back = drop (2 ^ h) ds in
    let front_each = All-take IsWide (2 ^ h) ds each in
    let back_each = All-drop IsWide (2 ^ h) ds each in
    let left = path_at sha256 h n front ++ root_at sha256 h back ∷ [] in
    let right = path_at sha256 h (n - 2 ^ h) back ++ root_at sha256 h front ∷ [] in
    elim (nat_le (length ds) (2 ^ h)) as (λ v. All IsWide (cond v (path_at sha256 h n ds) (cond (nat_lt n (2 ^ h)) left right))) [
      | true ↦ path_wide h n ds each
      | false ↦ elim (nat_lt n (2 ^ h)) as (λ v. All IsWide (cond v left right)) [
        | true ↦ All-append IsWide (path_at sha256 h n front) (root_at sha256 h back ∷ []) (path_wide h n front front_each) (one_wide (root_at sha256 h back) (root_wide h back back_each))
        | false ↦ All-append IsWide (path_at sha256 h (n - 2 ^ h) back) (root_at sha256 h front ∷ []) (path_wide h (n - 2 ^ h) back back_each) (one_wide (root_at sha256 h front) (root_wide h front front_each))
      ]
    ]

leaf_leads : (ds : List (List ℕ)) (n : ℕ) → n < length ds → All IsWide ds → fold_bytes sha256 (get_or ds n []) n (length ds) (concat (path sha256 n ds)) ≡ Some (tree.root sha256 ds)
unfolding path
leaf_leads ds n within each =
    fold_bytes-concat sha256 (get_or ds n []) n (length ds) (path sha256 n ds) (path_wide (length ds) n ds each) ∙ path_gives_root sha256 n ds within

-- ---- the proof

pub bare_is : (size n : ℕ) (leaf : Digest) (row : List ℕ) (count : ℕ) → size < 2 ^ 62 → n < size → length leaf.0 ≡ 32 → length row ≡ 32 * count → count ≡ path_length n size → IsProof (bare size n leaf row)
bare_is size n leaf row count small within wide len few =
    let below = path_length_below 62 n size (omega (arith, small)) in
    let fields : HasFields (bare size n leaf row) = record {
      size = omega (arith, small);
      n = omega (arith, small, within);
      leaf = wide;
      path = record { whole = omega (arith, len); count = omega (arith, len, few, below) };
      lower = tt;
      upper = tt;
      notary_size = refl;
      lo_path = refl;
      hi_path = refl;
    } in record { fields = fields; room = omega (arith, length-proof (bare size n leaf row) fields, len, few, below) }

known_at : (trust : Trust) (id : Digest) (head : Head) → trust.id ≡ Some id → root_of Ledger trust head.size ≡ Some head.root → ledger_at trust head.size ≡ Some (record { id = id; root = head.root })
known_at trust id head is trusted = rw (is, trusted) refl

-- who trusts the head accepts a proof that leads to it
pub leading_accepted : (n : ℕ) (leaf : Digest) (row : List ℕ) (head : Head) (bytes : List ℕ) → IsProof (bare head.size n leaf row) → bytes ≡ spelling (bare head.size n leaf row)
    → fold_bytes sha256 leaf.0 n head.size row ≡ Some head.root.0 → IsAcceptedUnder head n leaf bytes
leading_accepted n leaf row head bytes made text leads = λ trust id is trusted.
    record {
      proof = bare head.size n leaf row;
      is_proof = made;
      text = text;
      claimed = refl;
      ledger = record { id = id; root = head.root };
      trusted = known_at trust id head is trusted;
      leads = leads;
      lower = tt;
      upper = tt;
      order = λ l u low high. absurd cc;
    }

-- a list that the tree stands for has its leaf proved under the tree's head
pub bare_proved : (t : Levels) (n : ℕ) (bytes : List ℕ) (ds : Digests) (head : Head) → IsBareOf t n bytes → StandsFor sha256 t ds → All IsWide ds → n < t.size → head.size ≡ t.size → head.root.0 ≡ tree.root sha256 ds → IsProved ds n head bytes
bare_proved t n bytes ds head made stands wide within size root =
    let long : length ds ≡ t.size = stands_size sha256 t ds stands in
    let told : made.leaf ≡ digest (get_or ds n []) = ap digest (made.leaf_is ds stands) in
    let leads : fold_bytes sha256 made.leaf.0 n head.size made.row ≡ Some head.root.0 =
    (λ i. fold_bytes sha256 (made.leaf_is ds stands i) n ((size ∙ sym long) i) (made.row_is ds stands i))
    ∙ leaf_leads ds n (omega (arith, long, within)) wide ∙ ap Some (sym root) in record {
      root_is = root;
      text = made.text ∙ (λ i. spelling (bare (sym long i) n (told i) (made.row_is ds stands i)));
      accepted = subst (λ (d : Digest). IsAcceptedUnder head n d bytes) told
          (leading_accepted n made.leaf made.row head bytes (subst (λ (s : ℕ). IsProof (bare s n made.leaf made.row)) (sym size) made.is_proof)
          (made.text ∙ ap (λ (s : ℕ). spelling (bare s n made.leaf made.row)) (sym size)) leads);
    }
