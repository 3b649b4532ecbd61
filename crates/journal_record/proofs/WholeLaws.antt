-- A header from the fields that stand at their places.
use Rattle.std.proofs.Common.{◌≡◌, ℕ, ◌+◌, ◌≤◌, List, [], ◌∷◌, ◌++◌, length, length-take, length-drop, get_or, take, drop, sym, ap, ◌∙◌, arith, append_assoc, append-nil, take-append-drop}
use Rattle.std.specs.Int.{w32, w64, from_be_bytes, to_be_bytes}
use Rattle.std.proofs.lemmas.List.{drop-drop, drop_more, nil_from_length}
use Rattle.std.proofs.lemmas.Nat.{be_bytes_4, be_bytes_8}
use Rattle.ledger_bytes.specs.Fields.{IsBytes}
use Rattle.ledger_bytes.proofs.Fields.{IsBytes-drop, IsBytes-take}
use Rattle.journal_record.specs.declared.header.Header.{Header}
use Rattle.journal_record.specs.Header.{code_of, spelling}

-- each field is what stands at its place
pub record IsAtPlaces (l : List ℕ) (h : Header) : Type 0 where
  pub version : h.version ≡ get_or l 0 0
  pub kind : code_of h.kind ≡ get_or l 1 0
  pub jsn : h.jsn ≡ from_be_bytes w64 (take 8 (drop 2 l))
  pub member : h.member ≡ from_be_bytes w32 (take 4 (drop 10 l))
  pub clue : h.clue.0 ≡ take 32 (drop 14 l)
  pub clue_ord : h.clue_ord ≡ from_be_bytes w32 (take 4 (drop 46 l))
  pub clue_prev : h.clue_prev ≡ from_be_bytes w64 (take 8 (drop 50 l))
  pub a : h.a ≡ from_be_bytes w64 (take 8 (drop 58 l))
  pub b : h.b ≡ from_be_bytes w64 (take 8 (drop 66 l))
  pub link : h.link.0 ≡ take 32 (drop 74 l)
  pub content_len : h.content_len ≡ from_be_bytes w32 (take 4 (drop 106 l))
  pub content_digest : h.content_digest.0 ≡ take 32 (drop 110 l)
  pub who_digest : h.who_digest.0 ≡ take 32 (drop 142 l)

regroup : (a b c d e f g h i j k l m : List ℕ) → a ++ b ++ c ++ d ++ e ++ f ++ g ++ h ++ i ++ j ++ k ++ l ++ m ≡ a ++ (b ++ (c ++ (d ++ (e ++ (f ++ (g ++ (h ++ (i ++ (j ++ (k ++ (l ++ (m ++ []))))))))))))
regroup a b c d e f g h i j k l m = sym (append-nil (a ++ b ++ c ++ d ++ e ++ f ++ g ++ h ++ i ++ j ++ k ++ l ++ m)) ∙ simp append_assoc

module _ (l : List ℕ) (bytes : IsBytes l) (size : length l ≡ 174) where
  -- a number at a place, and what stands behind it
  four : (at n : ℕ) → at + 4 ≤ 174 → n ≡ from_be_bytes w32 (take 4 (drop at l)) → drop at l ≡ to_be_bytes w32 n ++ drop (at + 4) l
  four at n within is =
      let text : to_be_bytes w32 n ≡ take 4 (drop at l) =
      be_bytes_4 (take 4 (drop at l)) n (omega (arith, length-take 4 (drop at l), length-drop at l, size, within)) (λ i. omega (arith, IsBytes-take 4 (drop at l) (IsBytes-drop at l bytes) i)) is in
      sym (take-append-drop 4 (drop at l)) ∙ ap (λ (t : List ℕ). t ++ drop 4 (drop at l)) (sym text) ∙ ap (λ (r : List ℕ). to_be_bytes w32 n ++ r) (drop-drop 4 at l)

  eight : (at n : ℕ) → at + 8 ≤ 174 → n ≡ from_be_bytes w64 (take 8 (drop at l)) → drop at l ≡ to_be_bytes w64 n ++ drop (at + 8) l
  eight at n within is =
      let text : to_be_bytes w64 n ≡ take 8 (drop at l) =
      be_bytes_8 (take 8 (drop at l)) n (omega (arith, length-take 8 (drop at l), length-drop at l, size, within)) (λ i. omega (arith, IsBytes-take 8 (drop at l) (IsBytes-drop at l bytes) i)) is in
      sym (take-append-drop 8 (drop at l)) ∙ ap (λ (t : List ℕ). t ++ drop 8 (drop at l)) (sym text) ∙ ap (λ (r : List ℕ). to_be_bytes w64 n ++ r) (drop-drop 8 at l)

  -- a digest at a place, and what stands behind it
  digest_at : (at : ℕ) (d : List ℕ) → at + 32 ≤ 174 → d ≡ take 32 (drop at l) → drop at l ≡ d ++ drop (at + 32) l
  digest_at at d within is =
      sym (take-append-drop 32 (drop at l)) ∙ ap (λ (t : List ℕ). t ++ drop 32 (drop at l)) (sym is) ∙ ap (λ (r : List ℕ). d ++ r) (drop-drop 32 at l)

  -- the bytes are those of the header
  pub spelled : (h : Header) → IsAtPlaces l h → l ≡ spelling h
  unfolding spelling
  spelled h p =
      let end : drop 174 l ≡ [] = nil_from_length (drop 174 l) (omega (arith, length-drop 174 l, size)) in
      let who_digest_text : drop 142 l ≡ h.who_digest.0 ++ ([]) = digest_at 142 h.who_digest.0 (omega arith) p.who_digest ∙ ap (λ (r : List ℕ). h.who_digest.0 ++ r) end in
      let content_digest_text : drop 110 l ≡ h.content_digest.0 ++ (h.who_digest.0 ++ []) = digest_at 110 h.content_digest.0 (omega arith) p.content_digest ∙ ap (λ (r : List ℕ). h.content_digest.0 ++ r) who_digest_text in
      let content_len_text : drop 106 l ≡ to_be_bytes w32 h.content_len ++ (h.content_digest.0 ++ (h.who_digest.0 ++ [])) = four 106 h.content_len (omega arith) p.content_len ∙ ap (λ (r : List ℕ). to_be_bytes w32 h.content_len ++ r) content_digest_text in
      let link_text : drop 74 l ≡ h.link.0 ++ (to_be_bytes w32 h.content_len ++ (h.content_digest.0 ++ (h.who_digest.0 ++ []))) = digest_at 74 h.link.0 (omega arith) p.link ∙ ap (λ (r : List ℕ). h.link.0 ++ r) content_len_text in
      let b_text : drop 66 l ≡ to_be_bytes w64 h.b ++ (h.link.0 ++ (to_be_bytes w32 h.content_len ++ (h.content_digest.0 ++ (h.who_digest.0 ++ [])))) = eight 66 h.b (omega arith) p.b ∙ ap (λ (r : List ℕ). to_be_bytes w64 h.b ++ r) link_text in
      let a_text : drop 58 l ≡ to_be_bytes w64 h.a ++ (to_be_bytes w64 h.b ++ (h.link.0 ++ (to_be_bytes w32 h.content_len ++ (h.content_digest.0 ++ (h.who_digest.0 ++ []))))) = eight 58 h.a (omega arith) p.a ∙ ap (λ (r : List ℕ). to_be_bytes w64 h.a ++ r) b_text in
      let clue_prev_text : drop 50 l ≡ to_be_bytes w64 h.clue_prev ++ (to_be_bytes w64 h.a ++ (to_be_bytes w64 h.b ++ (h.link.0 ++ (to_be_bytes w32 h.content_len ++ (h.content_digest.0 ++ (h.who_digest.0 ++ [])))))) = eight 50 h.clue_prev (omega arith) p.clue_prev ∙ ap (λ (r : List ℕ). to_be_bytes w64 h.clue_prev ++ r) a_text in
      let clue_ord_text : drop 46 l ≡ to_be_bytes w32 h.clue_ord ++ (to_be_bytes w64 h.clue_prev ++ (to_be_bytes w64 h.a ++ (to_be_bytes w64 h.b ++ (h.link.0 ++ (to_be_bytes w32 h.content_len ++ (h.content_digest.0 ++ (h.who_digest.0 ++ []))))))) = four 46 h.clue_ord (omega arith) p.clue_ord ∙ ap (λ (r : List ℕ). to_be_bytes w32 h.clue_ord ++ r) clue_prev_text in
      let clue_text : drop 14 l ≡ h.clue.0 ++ (to_be_bytes w32 h.clue_ord ++ (to_be_bytes w64 h.clue_prev ++ (to_be_bytes w64 h.a ++ (to_be_bytes w64 h.b ++ (h.link.0 ++ (to_be_bytes w32 h.content_len ++ (h.content_digest.0 ++ (h.who_digest.0 ++ [])))))))) = digest_at 14 h.clue.0 (omega arith) p.clue ∙ ap (λ (r : List ℕ). h.clue.0 ++ r) clue_ord_text in
      let member_text : drop 10 l ≡ to_be_bytes w32 h.member ++ (h.clue.0 ++ (to_be_bytes w32 h.clue_ord ++ (to_be_bytes w64 h.clue_prev ++ (to_be_bytes w64 h.a ++ (to_be_bytes w64 h.b ++ (h.link.0 ++ (to_be_bytes w32 h.content_len ++ (h.content_digest.0 ++ (h.who_digest.0 ++ []))))))))) = four 10 h.member (omega arith) p.member ∙ ap (λ (r : List ℕ). to_be_bytes w32 h.member ++ r) clue_text in
      let jsn_text : drop 2 l ≡ to_be_bytes w64 h.jsn ++ (to_be_bytes w32 h.member ++ (h.clue.0 ++ (to_be_bytes w32 h.clue_ord ++ (to_be_bytes w64 h.clue_prev ++ (to_be_bytes w64 h.a ++ (to_be_bytes w64 h.b ++ (h.link.0 ++ (to_be_bytes w32 h.content_len ++ (h.content_digest.0 ++ (h.who_digest.0 ++ [])))))))))) = eight 2 h.jsn (omega arith) p.jsn ∙ ap (λ (r : List ℕ). to_be_bytes w64 h.jsn ++ r) member_text in
      let kind_text : drop 1 l ≡ code_of h.kind ∷ drop 2 l = drop_more l 1 0 (omega (arith, size)) ∙ ap (λ (n : ℕ). n ∷ drop 2 l) (sym p.kind) in
      let version_text : l ≡ h.version ∷ drop 1 l = drop_more l 0 0 (omega (arith, size)) ∙ ap (λ (n : ℕ). n ∷ drop 1 l) (sym p.version) in
      version_text ∙ ap (λ (r : List ℕ). h.version ∷ r) (kind_text ∙ ap (λ (r : List ℕ). code_of h.kind ∷ r) jsn_text)
      ∙ sym (regroup (h.version ∷ []) (code_of h.kind ∷ []) (to_be_bytes w64 h.jsn) (to_be_bytes w32 h.member) h.clue.0 (to_be_bytes w32 h.clue_ord) (to_be_bytes w64 h.clue_prev) (to_be_bytes w64 h.a) (to_be_bytes w64 h.b) h.link.0 (to_be_bytes w32 h.content_len) h.content_digest.0 h.who_digest.0)
