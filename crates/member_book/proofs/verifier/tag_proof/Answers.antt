use Rattle.std.proofs.Common.{◌≡◌, ◌∙◌, ◌++◌, ap, arith, length}
use Rattle.journal_record.proofs.TagLaws.{tag_key_of-tag_proof_of}
use Rattle.journal_record.specs.Tags.{tag_key_of, tag_proof_of}
use Rattle.member_book.proofs.verifier.tag_proof.Goals as goal

pub returns-clause-shown : goal.returns-clause-shown
returns-clause-shown c =
    let width : length c.args.key.now.0 ≡ 32 = omega (arith, ap length c.copy_from_slice.ensures.after) in
    let made : c.copy_from_slice.new.self ++ c.copy_from_slice-2.new.self ≡ tag_proof_of c.args.key.now.0 c.args.message.now.0 = cc in
    ap (tag_key_of c.args.message.now.0) made ∙ tag_key_of-tag_proof_of c.args.key.now.0 c.args.message.now.0 width
