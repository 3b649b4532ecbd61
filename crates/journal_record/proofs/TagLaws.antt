-- What the tag scheme's definitions say of one another.
use Rattle.std.proofs.Common.{◌≡◌, ℕ, ◌∷◌, List, ◌++◌, length, take, drop, Some, sym, ap, subst, ◌∙◌, arith, eq-eqb, length-append, take-append-drop}
use Rattle.std.proofs.lemmas.Bool.{and_from, and_parts, cond-true}
use Rattle.std.proofs.lemmas.Option.{cond_some}
use Rattle.std.proofs.Math.Seq.{take-append_seam, drop-append_seam}
use Rattle.std.proofs.lemmas.Slice.Eq.{bytes_eq-Decides}
use Rattle.sha2.proofs.Facts256.{length-sha256}
use Rattle.journal_record.specs.Tags.{tag_of, tag_key_of, tag_proof_of}

-- a key's proof begins with the key
take-tag_proof_of : (key message : List ℕ) → length key ≡ 32 → take 32 (tag_proof_of key message) ≡ key
take-tag_proof_of key message width =
    subst (λ n. take n (tag_proof_of key message) ≡ key) width (take-append_seam key (tag_of key message))

-- behind the key stands the tag
drop-tag_proof_of : (key message : List ℕ) → length key ≡ 32 → drop 32 (tag_proof_of key message) ≡ tag_of key message
drop-tag_proof_of key message width =
    subst (λ n. drop n (tag_proof_of key message) ≡ tag_of key message) width (drop-append_seam key (tag_of key message))

-- a key's proof has 64 bytes
length-tag_proof_of : (key message : List ℕ) → length key ≡ 32 → length (tag_proof_of key message) ≡ 64
length-tag_proof_of key message width =
    omega (arith, length-append key (tag_of key message), length-sha256 (64 ∷ (key ++ message)))

-- a key's proof shows that key
pub tag_key_of-tag_proof_of : (key message : List ℕ) → length key ≡ 32 → tag_key_of message (tag_proof_of key message) ≡ Some key
tag_key_of-tag_proof_of key message width =
    let proof : List ℕ = tag_proof_of key message in
    let front = take-tag_proof_of key message width in
    let whole = eq-eqb (length proof) 64 (length-tag_proof_of key message width) in
    let same =
    (bytes_eq-Decides (drop 32 proof) (tag_of (take 32 proof) message)).1
    (drop-tag_proof_of key message width ∙ ap (λ k. tag_of k message) (sym front)) in
    cond-true _ _ _ (and_from _ _ whole same) ∙ ap (λ k. Some k) front

-- what shows a key is that key's proof
pub only_tag_proof_of : (message proof key : List ℕ) → tag_key_of message proof ≡ Some key → proof ≡ tag_proof_of key message
only_tag_proof_of message proof key shown =
    let fits = cond_some _ _ _ shown in
    let same = (bytes_eq-Decides (drop 32 proof) (tag_of (take 32 proof) message)).0 (and_parts _ _ fits.0).1 in
    sym (take-append-drop 32 proof) ∙ (ap (λ d. take 32 proof ++ d) same ∙ ap (λ k. tag_proof_of k message) fits.1)
