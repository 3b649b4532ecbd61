-- What it means that something is told to be a root.
use Rattle.std.proofs.Common.{◌≡◌, ℕ, true, List, Option, Some, None, refl, ap, ◌∙◌}
use Rattle.std.specs.Str.{bytes_eq}
use Rattle.std.proofs.lemmas.Slice.Eq.{bytes_eq-Decides}
use Rattle.ledger_bytes.specs.declared.digest.Digest.{Digest}
use Rattle.audit_core.specs.Leading.{is_root}

pub same_digest : (a b : Digest) → bytes_eq a.0 b.0 ≡ true → a ≡ b
same_digest a b e =
    let made : List ℕ → Digest = λ bytes. record { 0 = bytes } in
    ap made ((bytes_eq-Decides a.0 b.0).0 e)

pub same_bytes : (xs : List ℕ) → bytes_eq xs xs ≡ true
same_bytes xs = (bytes_eq-Decides xs xs).1 refl

pub is_root_means : (root : Digest) (folded : Option (List ℕ)) → is_root root folded ≡ true → folded ≡ Some root.0
is_root_means root (Some folded) e = ap (λ (x : List ℕ). Some x) ((bytes_eq-Decides folded root.0).0 e)
is_root_means root None e = absurd cc

pub is_root_of : (root : Digest) (folded : Option (List ℕ)) → folded ≡ Some root.0 → is_root root folded ≡ true
is_root_of root folded e = ap (is_root root) e ∙ same_bytes root.0
