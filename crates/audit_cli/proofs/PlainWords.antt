-- Words of their forms make a command.
use Rattle.std.proofs.Common.{◌≡◌, ◌∙◌, ℕ, true, eqb, List, [], ◌∷◌, length, codes, Option, Some, None, option_map, refl, sym, ap, inl, inr, ◌%◌, ◌/◌, ◌-◌, ◌^◌}
use Rattle.std.specs.Prelude.{nat_lt, option_and_then, ◌==◌}
use Rattle.std.specs.Result.{result_ok}
use Rattle.std.proofs.lemmas.Bool.{cases_Bool, eqb-true}
use Rattle.hex.specs.Hex.{decode_pairs}
use Rattle.ledger_bytes.specs.Digests.{digest}
use Rattle.ledger_bytes.specs.declared.digest.Digest.{Digest}
use Rattle.merkle_tree.specs.declared.head.Head.{Head}
use Rattle.script_lines.specs.Spellings.{clue_of, digest_of, number_of}
use Rattle.audit_words.specs.Words.{is_plain_word}
use Rattle.audit_words.proofs.WordLaws.{dump_asked, lineage_asked, plain_dashes, plain_strip, script_asked}
use Rattle.audit_cli.specs.Words.{command_for, command_of, head_of, named_clue}
use Rattle.audit_cli.specs.declared.words.Command.TheVariants.{Script, Dump, Lineage}

-- ---- a word that begins with a hyphen is no number and no digest

no_pairs : (text : List ℕ) → result_ok (decode_pairs 0 (45 ∷ text)) ≡ None
unfolding decode_pairs
no_pairs [] = refl
no_pairs (digit ∷ text) = refl

no_digest : (text : List ℕ) → digest_of (45 ∷ text) ≡ None
no_digest text = elim (cases_Bool (length (45 ∷ text) % 2 == 1)) [
  | inl odd ↦ rw odd refl
  | inr even ↦ elim (cases_Bool (length (45 ∷ text) / 2 == 32)) [
    | inl whole ↦ rw (even, whole) (ap (option_map digest) (no_pairs text))
    | inr other ↦ rw (even, other) refl
  ]
]

no_number : (most : ℕ) (text : List ℕ) → number_of most (45 ∷ text) ≡ None
no_number most text = elim (cases_Bool (nat_lt 0 (length (45 ∷ text)))) [
  | inl some ↦ rw some refl
  | inr none ↦ rw none refl
]

-- what spells something doesn't begin with a hyphen, where nothing that does spells anything
plain_spelling : {A : Type 0} (spells : List ℕ → Option A) → ((text : List ℕ) → spells (45 ∷ text) ≡ None) → (word : List ℕ) (value : A) → spells word ≡ Some value → is_plain_word word ≡ true
plain_spelling spells none [] value is = refl
plain_spelling spells none (byte ∷ bytes) value is = elim (cases_Bool (eqb byte 45)) [
  | inl hyphen ↦ absurd (let bad : None ≡ Some value = sym (none bytes) ∙ ap (λ b. spells (b ∷ bytes)) (sym (eqb-true byte 45 hyphen)) ∙ is in cc)
  | inr other ↦ rw other refl
]

-- ---- heads

both_some : {A B : Type 0} (first : Option A) (second : A → Option B) (value : B) → option_and_then second first ≡ Some value → (x : A) × (first ≡ Some x) × (second x ≡ Some value)
both_some None second value is = absurd cc
both_some (Some x) second value is = (x, refl, is)

-- the words of a head
plain_head : (size root : List ℕ) (head : Head) → head_of size root ≡ Some head → (is_plain_word size ≡ true) × (is_plain_word root ≡ true)
plain_head size root head is =
    let sized = both_some (number_of (2 ^ 64 - 1) size) _ head is in
    let rooted = both_some (digest_of root) _ head sized.2 in
    (plain_spelling (number_of (2 ^ 64 - 1)) (no_number (2 ^ 64 - 1)) size sized.0 sized.1, plain_spelling digest_of no_digest root rooted.0 rooted.1)

-- ---- commands

pub script_made : command_of (codes "script" ∷ []) ≡ Some Script
script_made = ap (option_and_then command_for) script_asked

pub dump_made : (id size root notary_size notary_root : List ℕ) (d : Digest) (ledger notary : Head) → digest_of id ≡ Some d → head_of size root ≡ Some ledger → head_of notary_size notary_root ≡ Some notary
    → command_of (codes "dump" ∷ id ∷ size ∷ root ∷ notary_size ∷ notary_root ∷ []) ≡ Some (Dump d ledger notary)
dump_made id size root notary_size notary_root d ledger notary id_is ledger_is notary_is =
    let p : is_plain_word id ≡ true = plain_spelling digest_of no_digest id d id_is in
    let q = plain_head size root ledger ledger_is in
    let r = plain_head notary_size notary_root notary notary_is in
    ap (option_and_then command_for) (dump_asked id size root notary_size notary_root (plain_strip id p) (plain_strip size q.0) (plain_strip root q.1) (plain_strip notary_size r.0) (plain_strip notary_root r.1)
    (plain_dashes id p) (plain_dashes size q.0) (plain_dashes root q.1) (plain_dashes notary_size r.0) (plain_dashes notary_root r.1))
    ∙ ap (option_and_then (λ i. option_and_then (λ l. option_and_then (λ n. Some (Dump i l n)) (head_of notary_size notary_root)) (head_of size root))) id_is
    ∙ ap (option_and_then (λ l. option_and_then (λ n. Some (Dump d l n)) (head_of notary_size notary_root))) ledger_is
    ∙ ap (option_and_then (λ n. Some (Dump d ledger n))) notary_is

pub lineage_made : (name_word size root name : List ℕ) (head : Head) → is_plain_word name_word ≡ true → clue_of name_word ≡ Some name → head_of size root ≡ Some head
    → command_of (codes "lineage" ∷ name_word ∷ size ∷ root ∷ []) ≡ Some (Lineage (named_clue name) head)
lineage_made name_word size root name head p name_is head_is =
    let q = plain_head size root head head_is in
    ap (option_and_then command_for) (lineage_asked name_word size root (plain_strip name_word p) (plain_strip size q.0) (plain_strip root q.1) (plain_dashes name_word p) (plain_dashes size q.0) (plain_dashes root q.1))
    ∙ ap (option_and_then (λ n. option_and_then (λ k. Some (Lineage (named_clue n) k)) (head_of size root))) name_is
    ∙ ap (option_and_then (λ k. Some (Lineage (named_clue name) k))) head_is
