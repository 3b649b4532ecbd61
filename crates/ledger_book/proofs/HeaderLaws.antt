-- Lemmas on headers: with the right digests they are those of the journals.
use Rattle.std.proofs.Common.{◌≡◌, ℕ, List, [], ◌∷◌, length, ap, sym, ◌∙◌}
use Rattle.ledger_bytes.specs.Digests.{digest, zero_digest}
use Rattle.ledger_bytes.specs.declared.digest.Digest.{Digest}
use Rattle.journal_record.specs.Approval.{who_of}
use Rattle.journal_record.specs.Entry.{content_digest_of, who_digest_of}
use Rattle.journal_record.specs.Request.{name_digest_of}
use Rattle.journal_record.specs.Rules.{version_of}
use Rattle.journal_record.specs.declared.approval.Approval.{Approval}
use Rattle.journal_record.specs.declared.header.Header.{Header}
use Rattle.journal_record.specs.declared.header.Kind.{Kind}
use Rattle.journal_record.specs.declared.header.Kind.TheVariants as kind
use Rattle.ledger_model.specs.Appends.{append_header, member_header, clue_occult_header}
use Rattle.ledger_model.specs.Genesis.{founders_content, genesis_header}
use Rattle.ledger_model.specs.Headers.{plain_header}
use Rattle.ledger_model.specs.declared.genesis.Genesis.{Genesis}

-- a header with these parts
abbrev header_with : Kind → ℕ → ℕ → Digest → ℕ → ℕ → ℕ → Digest → ℕ → Digest → Digest → Header
header_with kind jsn member clue ordinal previous a link count content who = record {
  version = 1;
  kind = kind;
  jsn = jsn;
  member = member;
  clue = clue;
  clue_ord = ordinal;
  clue_prev = previous;
  a = a;
  b = 0;
  link = link;
  content_len = count;
  content_digest = content;
  who_digest = who;
}

pub genesis_is : (genesis : Genesis) (link content who : Digest) → link.0 ≡ name_digest_of genesis.name → content.0 ≡ content_digest_of (founders_content genesis) → who.0 ≡ who_digest_of []
    → header_with kind.Genesis 0 0 zero_digest 0 0 0 link 64 content who ≡ genesis_header genesis
unfolding genesis_header
genesis_is genesis link content who l c w =
    ap (λ x. header_with kind.Genesis 0 0 zero_digest 0 0 0 (digest x) 64 content who) l
    ∙ ap (λ x. header_with kind.Genesis 0 0 zero_digest 0 0 0 (digest (name_digest_of genesis.name)) 64 (digest x) who) c
    ∙ ap (λ x. header_with kind.Genesis 0 0 zero_digest 0 0 0 (digest (name_digest_of genesis.name)) 64 (digest (content_digest_of (founders_content genesis))) (digest x)) w

pub record_is : (version jsn member : ℕ) (clue : Digest) (ordinal previous count : ℕ) (content : List ℕ) (content_digest request who : Digest) (number : ℕ) → version ≡ version_of kind.Content number count → length content ≡ count
    → record (header_with kind.Content jsn member clue ordinal previous number request count content_digest who) { version = version } ≡ append_header jsn member clue ordinal previous content content_digest request who number
unfolding append_header
record_is version jsn member clue ordinal previous count content content_digest request who number v n =
    ap (λ x. record (header_with kind.Content jsn member clue ordinal previous number request count content_digest who) { version = x }) v
    ∙ ap (λ x. record (header_with kind.Content jsn member clue ordinal previous number request x content_digest who) { version = version_of kind.Content number x }) (sym n)

pub plain_is : (k : Kind) (version jsn a b : ℕ) (link content who_digest : Digest) (who : List ℕ) → version ≡ version_of k a 0 → content.0 ≡ content_digest_of [] → who_digest.0 ≡ who_digest_of who
    → record (header_with k jsn 0 zero_digest 0 0 a link 0 content who_digest) { version = version; b = b } ≡ plain_header k jsn a b link who
plain_is k version jsn a b link content who_digest who v c w =
    ap (λ x. record (header_with k jsn 0 zero_digest 0 0 a link 0 content who_digest) { version = x; b = b }) v
    ∙ ap (λ x. record (header_with k jsn 0 zero_digest 0 0 a link 0 (digest x) who_digest) { version = version_of k a 0; b = b }) c
    ∙ ap (λ x. record (header_with k jsn 0 zero_digest 0 0 a link 0 (digest (content_digest_of [])) (digest x)) { version = version_of k a 0; b = b }) w

-- the count of an occult by clue as wide as the field
pub clue_is : (jsn count a : ℕ) (clue : Digest) (given : List Approval) (header : Header) → a ≡ count → header ≡ plain_header kind.ClueOccult jsn a 0 clue (who_of given) → header ≡ clue_occult_header jsn clue count given
unfolding clue_occult_header
clue_is jsn count a clue given header n is = is ∙ ap (λ x. plain_header kind.ClueOccult jsn x 0 clue (who_of given)) n

-- the number of a new member as wide as the field
pub member_is : (jsn number a : ℕ) (key : Digest) (by : Approval) (header : Header) → a ≡ number → header ≡ plain_header kind.Member jsn a 0 key (who_of (by ∷ [])) → header ≡ member_header jsn number key by
unfolding member_header
member_is jsn number a key by header n is = is ∙ ap (λ x. plain_header kind.Member jsn x 0 key (who_of (by ∷ []))) n
