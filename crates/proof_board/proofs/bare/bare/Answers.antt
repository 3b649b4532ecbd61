use Rattle.std.proofs.Common.{◌≡◌, ◌<◌, ◌^◌, List, ℕ, length, map, take, sym, ap, ◌∙◌, subst, arith}
use Rattle.std.specs.List.{concat}
use Rattle.std.proofs.lemmas.List.{take_all}
use Rattle.sha2.specs.Sha256.{sha256}
use Rattle.tree_model.specs.Path.{path}
use Rattle.ledger_bytes.specs.declared.digest.Digest.{Digest}
use Rattle.merkle_batch.proofs.Keeping.{stands_size}
use Rattle.proof_codec.specs.Proofs.{IsProof, spelling}
use Rattle.proof_board.specs.Bare.{bare}
use Rattle.proof_board.proofs.BareLaws.{bare_is}
use Rattle.proof_board.proofs.bare.bare.Goals as goal

pub encode-requires : goal.encode-requires
encode-requires c =
    let small : c.size-size.result < 2 ^ 62 = subst (λ (s : ℕ). s < 2 ^ 62) (sym c.size-size.ensures) c.requires.small in
    let within : c.args.n < c.size-size.result = subst (λ (s : ℕ). c.args.n < s) (sym c.size-size.ensures) c.requires.within in
    bare_is c.size-size.result c.args.n c.in-Ok.leaf c.as_slice-2.result.now (length c.as_slice.result.now) small within c.is_wide.ensures
    (ap length c.as_slice-2.ensures ∙ c.in_ok-path.ensures.len) (ap length c.as_slice.ensures.value ∙ c.in-Ok-path.ensures.count)

pub returns : goal.returns
returns c =
    let small : c.size-size.result < 2 ^ 62 = subst (λ (s : ℕ). s < 2 ^ 62) (sym c.size-size.ensures) c.requires.small in
    let within : c.args.n < c.size-size.result = subst (λ (s : ℕ). c.args.n < s) (sym c.size-size.ensures) c.requires.within in
    let row = c.as_slice-2.result.now in
    let made = bare_is c.size-size.result c.args.n c.in-Ok.leaf row (length c.as_slice.result.now) small within c.is_wide.ensures
    (ap length c.as_slice-2.ensures ∙ c.in_ok-path.ensures.len) (ap length c.as_slice.ensures.value ∙ c.in-Ok-path.ensures.count) in record {
      leaf = c.in-Ok.leaf;
      row = row;
      is_proof = subst (λ (s : ℕ). IsProof (bare s c.args.n c.in-Ok.leaf row)) c.size-size.ensures made;
      text = c.in_ok-bytes.ensures.text ∙ ap (λ (s : ℕ). spelling (bare s c.args.n c.in-Ok.leaf row)) c.size-size.ensures;
      leaf_is = c.in-Ok.ensures.leaf;
      row_is = λ ds stands.
          let whole : take c.size-size.result ds ≡ ds = take_all c.size-size.result ds (omega (arith, stands_size sha256 c.args.tree.now ds stands, c.size-size.ensures)) in
          c.as_slice-2.ensures ∙ c.in_ok-path.ensures.bytes ∙ ap (λ (l : List Digest). concat (map (λ (d : Digest). d.0) l)) c.as_slice.ensures.value
          ∙ ap concat (c.in-Ok-path.ensures.path ds stands) ∙ ap (λ (l : List (List ℕ)). concat (path sha256 c.args.n l)) whole;
    }
