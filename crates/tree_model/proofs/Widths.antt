-- Where a hash has 32 bytes, so has each digest of a path and of a proof over digests of 32 bytes.
use Rattle.std.proofs.Common.{◌≡◌, ℕ, zero, suc, ◌-◌, ◌^◌, Bool, true, false, cond, List, [], ◌∷◌, ◌++◌, length, take, drop, arith}
use Rattle.std.specs.Prelude.{All, nat_le, nat_lt}
use Rattle.std.proofs.lemmas.List.Elements.{All-nil, All-cons, All-append, All-take, All-drop}
use Rattle.tree_model.specs.Extension.{sub_at}
use Rattle.tree_model.specs.Path.{path_at}
use Rattle.tree_model.specs.Tree.{Hash, root_at}
use Rattle.tree_model.proofs.PathClashes.{Makes}

abbrev pub IsWide : List ℕ → Type 0
IsWide d = length d ≡ 32

module _ (hash : Hash) (makes : Makes hash) where
  pub root_wide : (h : ℕ) (ds : List (List ℕ)) → All IsWide ds → IsWide (root_at hash h ds)
  unfolding root_at
  root_wide zero [] each = makes []
  root_wide zero (d ∷ ds) each = each 0 [] (omega arith)
  root_wide (suc h) ds each =
      let halves = root_at hash h (take (2 ^ h) ds) ++ root_at hash h (drop (2 ^ h) ds) in
      elim (nat_le (length ds) (2 ^ h)) as (λ v. IsWide (cond v (root_at hash h ds) (hash (1 ∷ halves)))) [ true ↦ root_wide h ds each | false ↦ makes (1 ∷ halves) ]

  one_wide : (d : List ℕ) → IsWide d → All IsWide (d ∷ [])
  one_wide d wide = All-cons IsWide d [] wide (All-nil IsWide)

  pub path_wide : (h n : ℕ) (ds : List (List ℕ)) → All IsWide ds → All IsWide (path_at hash h n ds)
  unfolding path_at
  path_wide zero n ds each = All-nil IsWide
  path_wide (suc h) n ds each =
      let front = take (2 ^ h) ds in
      let back = drop (2 ^ h) ds in
      let front_each = All-take IsWide (2 ^ h) ds each in
      let back_each = All-drop IsWide (2 ^ h) ds each in
      let left = path_at hash h n front ++ root_at hash h back ∷ [] in
      let right = path_at hash h (n - 2 ^ h) back ++ root_at hash h front ∷ [] in
      elim (nat_le (length ds) (2 ^ h)) as (λ v. All IsWide (cond v (path_at hash h n ds) (cond (nat_lt n (2 ^ h)) left right))) [
        | true ↦ path_wide h n ds each
        | false ↦ elim (nat_lt n (2 ^ h)) as (λ v. All IsWide (cond v left right)) [
          | true ↦ All-append IsWide (path_at hash h n front) (root_at hash h back ∷ []) (path_wide h n front front_each) (one_wide (root_at hash h back) (root_wide h back back_each))
          | false ↦ All-append IsWide (path_at hash h (n - 2 ^ h) back) (root_at hash h front ∷ []) (path_wide h (n - 2 ^ h) back back_each) (one_wide (root_at hash h front) (root_wide h front front_each))
        ]
      ]

  known_wide : (known : Bool) (d : List ℕ) → IsWide d → All IsWide (cond known [] (d ∷ []))
  known_wide true d wide = All-nil IsWide
  known_wide false d wide = one_wide d wide

  pub proof_wide : (h m : ℕ) (known : Bool) (ds : List (List ℕ)) → All IsWide ds → All IsWide (sub_at hash h m known ds)
  unfolding sub_at
  proof_wide zero m known ds each = known_wide known (root_at hash zero ds) (root_wide zero ds each)
  proof_wide (suc h) m known ds each =
      let front = take (2 ^ h) ds in
      let back = drop (2 ^ h) ds in
      let front_each = All-take IsWide (2 ^ h) ds each in
      let back_each = All-drop IsWide (2 ^ h) ds each in
      let all = cond known [] (root_at hash (suc h) ds ∷ []) in
      let left = sub_at hash h m known front ++ root_at hash h back ∷ [] in
      let right = sub_at hash h (m - 2 ^ h) false back ++ root_at hash h front ∷ [] in
      elim (nat_le (length ds) (2 ^ h)) as (λ v. All IsWide (cond v (sub_at hash h m known ds) (cond (nat_le (length ds) m) all (cond (nat_le m (2 ^ h)) left right)))) [
        | true ↦ proof_wide h m known ds each
        | false ↦ elim (nat_le (length ds) m) as (λ v. All IsWide (cond v all (cond (nat_le m (2 ^ h)) left right))) [
          | true ↦ known_wide known (root_at hash (suc h) ds) (root_wide (suc h) ds each)
          | false ↦ elim (nat_le m (2 ^ h)) as (λ v. All IsWide (cond v left right)) [
            | true ↦ All-append IsWide (sub_at hash h m known front) (root_at hash h back ∷ []) (proof_wide h m known front front_each) (one_wide (root_at hash h back) (root_wide h back back_each))
            | false ↦ All-append IsWide (sub_at hash h (m - 2 ^ h) false back) (root_at hash h front ∷ []) (proof_wide h (m - 2 ^ h) false back back_each) (one_wide (root_at hash h front) (root_wide h front front_each))
          ]
        ]
      ]
