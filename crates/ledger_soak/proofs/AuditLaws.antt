-- The auditor follows the ledger and its notary.
use Rattle.std.specs.Prelude.{Bool, true, false, IsOk, IsSomeAnd, IfSome, IfOk, Result, Ok, Err, nat_lt}
use Rattle.std.specs.Option.{option_or}
use Rattle.std.specs.Str.{bytes_eq}
use Rattle.std.proofs.Common.{◌≡◌, ℕ, ◌<◌, ◌≤◌, cond, eqb, List, [], length, take, Option, Some, None, refl, ap, sym, ◌∙◌, arith, eq-eqb}
use Rattle.std.proofs.lemmas.List.{take_all}
use Rattle.std.proofs.lemmas.Bool.{lt-leb, le-ltb, ne_eqb, eqb-true}
use Rattle.sha2.specs.Sha256.{sha256}
use Rattle.tree_model.specs.Tree.{Hash, mth}
use Rattle.ledger_bytes.specs.Digests.{digest}
use Rattle.ledger_bytes.specs.declared.digest.Digest.{Digest}
use Rattle.merkle_tree.specs.declared.head.Head.{Head}
use Rattle.ledger_book.specs.Books.{Kept, Serves}
use Rattle.ledger_book.specs.Seals.{head_of, head_at}
use Rattle.ledger_bytes.specs.declared.refusal.Refusal.TheVariants.{Purged}
use Rattle.ledger_model.specs.History.{History, journals, id, size, root, point}
use Rattle.ledger_model.specs.Bounds.{has_bound}
use Rattle.ledger_model.specs.Texts.{proof_reply, told_mark}
use Rattle.script_lines.specs.Replies.{reply_text}
use Rattle.script_lines.specs.declared.reply.Reply.TheVariants.{Proof}
use Rattle.proof_codec.specs.Claims.{claim_of}
use Rattle.proof_codec.specs.declared.claim.Claim.{Claim}
use Rattle.proof_maker.specs.declared.made.Made.{Made}
use Rattle.audit_core.specs.Acceptance.{IsAccepted}
use Rattle.ledger_model.specs.Proofs.{shown_of, size_refusal, extend_refusal as extend_refusal_of}
use Rattle.ledger_model.proofs.LawfulLaws.{some_journal}
use Rattle.script_lines.specs.declared.said.Which.{Which}
use Rattle.script_lines.specs.declared.said.Which.TheVariants.{Ledger, Notary}
use Rattle.audit_core.specs.Extending.{extension_refusal, extend_refusal, extension, unless, IsExtension}
use Rattle.audit_core.specs.Trust.{Trust, nothing_trusted, root_of, root_in, heads_of, heads_with, with_ledger, with_head, ledger_at, digest_fault, room_fault, head_refusal}
use Rattle.audit_core.specs.declared.refusal.No.{No}
use Rattle.audit_core.specs.declared.refusal.No.TheVariants.{HeadsFull}
use Rattle.audit_core.proofs.ExtensionLaws.{extension_only}
use Rattle.audit_core.proofs.RootLaws.{same_bytes}
use Rattle.proof_maker.specs.Making.{IsMade, TrustsHead, TrustsList, TrustsJournals, TrustsEntries}
use Rattle.ledger_soak.proofs.TreeLaws.{settled_head}
use Rattle.ledger_soak.specs.Auditing.{IsHeadOfFirst, IsListHead, IsFoundIn}

-- ---- extensions

unless_none : (refusal : Option No) → IsOk (unless refusal) → refusal ≡ None
unless_none None ok = refl
unless_none (Some why) ok = absurd cc

-- nothing stands against an extension that is one, where there is room for a head
pub extends_freely : (hash : Hash) (which : Which) (m : ℕ) (head : Head) (bytes : List ℕ) (trust : Trust) → length (heads_of which trust) < 65536 → IsExtension hash which m head bytes trust → extend_refusal hash which m head bytes trust ≡ None
extends_freely hash which m head bytes trust few it =
    ap (λ o. option_or o (head_refusal which head trust)) (unless_none (extension_refusal hash which m head bytes trust) (extension_only hash which m head bytes trust (extension hash which m head bytes trust) refl it))
    ∙ by_kept (root_of which trust head.size) refl where
      by_kept : (o : Option Digest) → root_of which trust head.size ≡ o → digest_fault o head.root (room_fault (heads_of which trust)) ≡ None
      by_kept None is = ap (λ b. cond b (Some HeadsFull) None) (lt-leb 65536 (length (heads_of which trust)) few)
      by_kept (Some kept) is =
          let same : bytes_eq kept.0 head.root.0 ≡ true = ap (λ (d : Digest). bytes_eq kept.0 d.0) (sym (it.agrees kept is)) ∙ same_bytes kept.0 in
          rw same refl

-- ---- values that are there

pub some_and : {A : Type 0} (P Q : A → Type 0) → ((a : A) → P a → Q a) → (o : Option A) → IsSomeAnd o P → IsSomeAnd o Q
some_and P Q weaker None p = absurd p
some_and P Q weaker (Some a) p = weaker a p

pub some_if : {A : Type 0} (P Q : A → Type 0) → ((a : A) → P a → Q a) → (o : Option A) → IfSome o P → IfSome o Q
some_if P Q weaker None p = tt
some_if P Q weaker (Some a) p = weaker a p

pub ok_and : {A E : Type 0} (P Q : A → Type 0) → ((a : A) → P a → Q a) → (r : Result A E) → IfOk r P → IfOk r Q
ok_and P Q weaker (Ok a) p = weaker a p
ok_and P Q weaker (Err e) p = tt

-- ---- one head

-- the root of its own size
own_root : (which : Which) (new old : Trust) (head : Head) (n : ℕ) → head.size ≡ n → IsFoundIn which new old head → root_of which new n ≡ Some head.root
own_root which new old head n is found = found n ∙ ap (λ b. cond b (Some head.root) (root_of which old n)) (eq-eqb n head.size (sym is))

-- where nothing else was trusted each root is the head's
only_root : (which : Which) (new base : Trust) (head : Head) (n : ℕ) (kept : Digest) → IsFoundIn which new base head → root_of which base n ≡ None → root_of which new n ≡ Some kept → (n ≡ head.size) × (kept ≡ head.root)
only_root which new base head n kept found none is = by_size (eqb n head.size) refl where
  by_size : (b : Bool) → eqb n head.size ≡ b → (n ≡ head.size) × (kept ≡ head.root)
  by_size true e = (eqb-true n head.size e, let both : Some head.root ≡ Some kept = sym (found n ∙ ap (λ b. cond b (Some head.root) (root_of which base n)) e) ∙ is in cc)
  by_size false e = let no : None ≡ Some kept = sym (found n ∙ ap (λ b. cond b (Some head.root) (root_of which base n)) e ∙ none) ∙ is in absurd cc

known_at : (trust : Trust) (id root : Digest) (n : ℕ) → trust.id ≡ Some id → root_of Ledger trust n ≡ Some root → ledger_at trust n ≡ Some (record { id = id; root = root })
known_at trust id root n is found = rw (is, found) refl

pub size_unrefused : (m size : ℕ) → 0 < m → m ≤ size → size_refusal size m ≡ None
size_unrefused m size some le = rw (ne_eqb m 0 (λ none. omega (arith, none, some)), le-ltb size m le) refl

-- ---- the ledger's head

-- nothing refuses an extension of some first journals that aren't purged
pub unrefused : (h : History) (m : ℕ) → 0 < m → m ≤ size h → point h ≤ m → extend_refusal_of h m ≡ None
unfolding extend_refusal_of
unrefused h m some le kept =
    ap (λ o. option_or o (cond (nat_lt m (point h)) (Some (Purged (point h))) None)) (size_unrefused m (size h) some le) ∙ rw (le-ltb m (point h) kept) refl

module _ (k : Kept) (h : History) (serves : Serves k h) (settled : k.sealed ≡ k.size) where
  pub now_at : (now : Head) → now ≡ head_of h → now ≡ head_at h (size h)
  now_at now is = settled_head k h serves.stands now settled is

  pub now_first : (now : Head) → now ≡ head_of h → IsHeadOfFirst h now
  now_first now is =
      let some : 1 ≤ size h = some_journal (journals h) serves.stands.lawful in
      let at = now_at now is in record {
        some = omega (arith, some, ap (λ (x : Head). x.size) at);
        within = omega (arith, ap (λ (x : Head). x.size) at);
        root_is = ap (λ (x : Head). x.root) at ∙ ap (λ n. digest (root h n)) (sym (ap (λ (x : Head). x.size) at));
      }

module _ (h : History) (id_now : Digest) (id_is : id_now.0 ≡ id h) where
  pub head_trusted : (heads base : Trust) (head : Head) → head ≡ head_at h (size h) → heads.id ≡ Some id_now → IsFoundIn Ledger heads base head → TrustsHead heads h
  head_trusted heads base head at is found =
      known_at heads (digest (id h)) (digest (root h (size h))) (size h) (is ∙ ap (λ l. Some (digest l)) id_is)
      (own_root Ledger heads base head (size h) (ap (λ (x : Head). x.size) at) found ∙ ap (λ (x : Head). Some x.root) at)

  -- it is trusted as it stands
  pub trusts_anew : (now : Head) → now ≡ head_at h (size h) → (heads : Trust) → heads ≡ with_ledger nothing_trusted id_now now → IsFoundIn Ledger heads nothing_trusted now → TrustsHead heads h × (heads.notary ≡ [])
  trusts_anew now at heads is found = (head_trusted heads nothing_trusted now at (ap (λ (t : Trust). t.id) is) found, ap (λ (t : Trust). t.notary) is)

  -- the one before was, and who trusts it takes the extension
  module _ (old : Head) (first : IsHeadOfFirst h old) (heads : Trust) (is : heads ≡ with_ledger nothing_trusted id_now old) (found : IsFoundIn Ledger heads nothing_trusted old) where
    pub trusts_first : TrustsJournals heads h old.size
    trusts_first = record {
      trusted = own_root Ledger heads nothing_trusted old old.size refl found ∙ ap Some first.root_is;
      agrees = λ kept at.
          let one = only_root Ledger heads nothing_trusted old (size h) kept found refl at in
          one.1 ∙ first.root_is ∙ ap (λ n. digest (root h n)) (sym one.0);
    }

    one_head : length (heads_with old []) ≡ 1
    one_head = refl

    few_heads : length (heads_of Ledger heads) < 65536
    few_heads = omega (arith, ap (λ (t : Trust). length t.ledger) is, one_head)

    pub ledger_followed : (head : Head) (bytes : List ℕ) (after : Option Trust) → head ≡ head_at h (size h) → IsExtension sha256 Ledger old.size head bytes heads
        → (extend_refusal sha256 Ledger old.size head bytes heads ≡ None → IsSomeAnd after (λ t. (t ≡ with_head Ledger head heads) × IsFoundIn Ledger t heads head))
        → IsSomeAnd after (λ t. TrustsHead t h × (t.notary ≡ []))
    ledger_followed head bytes after at it told =
        some_and (λ t. (t ≡ with_head Ledger head heads) × IsFoundIn Ledger t heads head) (λ t. TrustsHead t h × (t.notary ≡ []))
        (λ t so. (head_trusted t heads head at (ap (λ (x : Trust). x.id) so.0 ∙ ap (λ (x : Trust). x.id) is) so.1, ap (λ (x : Trust). x.notary) so.0 ∙ ap (λ (x : Trust). x.notary) is))
        after (told (extends_freely sha256 Ledger old.size head bytes heads few_heads it))

-- ---- the notary's head

module _ (es : List (List ℕ)) where
  pub list_anew : (base heads : Trust) (now : Head) → now.size ≡ length es → now.root.0 ≡ mth sha256 es → IsFoundIn Notary heads base now → TrustsList heads es
  list_anew base heads now size_is root_is found = own_root Notary heads base now (length es) size_is found ∙ ap (λ l. Some (digest l)) root_is

  pub now_listed : (now : Head) → now.size ≡ length es → now.root.0 ≡ mth sha256 es → IsListHead es now
  now_listed now size_is root_is = record {
    within = omega (arith, size_is);
    root_is = ap digest (root_is ∙ sym (ap (mth sha256) (ap (λ n. take n es) size_is ∙ take_all (length es) es (omega arith))));
  }

  module _ (base : Trust) (none : base.notary ≡ []) (old : Head) (listed : IsListHead es old) (heads : Trust) (is : heads ≡ with_head Notary old base) (found : IsFoundIn Notary heads base old) where
    -- nothing was trusted of the list before
    none_before : (n : ℕ) → root_of Notary base n ≡ None
    none_before n = ap (λ hs. root_in hs n) none

    pub trusts_entries : TrustsEntries heads es old.size
    trusts_entries = record {
      trusted = own_root Notary heads base old old.size refl found ∙ ap Some listed.root_is;
      agrees = λ kept at.
          let one = only_root Notary heads base old (length es) kept found (none_before (length es)) at in
          one.1 ∙ listed.root_is ∙ ap (λ n. digest (mth sha256 (take n es))) (sym one.0) ∙ ap (λ l. digest (mth sha256 l)) (take_all (length es) es (omega arith));
    }

    one_list : length (heads_with old []) ≡ 1
    one_list = refl

    few_lists : length (heads_of Notary heads) < 65536
    few_lists = omega (arith, ap (λ (t : Trust). length t.notary) is, ap (λ hs. length (heads_with old hs)) none, one_list)

    pub list_followed : (head : Head) (bytes : List ℕ) (after : Option Trust) → head.size ≡ length es → head.root.0 ≡ mth sha256 es → IsExtension sha256 Notary old.size head bytes heads
        → (extend_refusal sha256 Notary old.size head bytes heads ≡ None → IsSomeAnd after (λ t. (t ≡ with_head Notary head heads) × IsFoundIn Notary t heads head))
        → IsSomeAnd after (λ t. TrustsList t es × (t.ledger ≡ base.ledger) × (t.id ≡ base.id))
    list_followed head bytes after size_is root_is it told =
        some_and (λ t. (t ≡ with_head Notary head heads) × IsFoundIn Notary t heads head) (λ t. TrustsList t es × (t.ledger ≡ base.ledger) × (t.id ≡ base.id))
        (λ t so. (list_anew heads t head size_is root_is so.1, ap (λ (x : Trust). x.ledger) so.0 ∙ ap (λ (x : Trust). x.ledger) is, ap (λ (x : Trust). x.id) so.0 ∙ ap (λ (x : Trust). x.id) is))
        after (told (extends_freely sha256 Notary old.size head bytes heads few_lists it))

-- ---- a proof

-- what was trusted of the ledger still is, beside the notary's head
pub trusts_both : (h : History) (es : List (List ℕ)) (before : Trust) (after : Option Trust) → TrustsHead before h → IsSomeAnd after (λ t. TrustsList t es × (t.ledger ≡ before.ledger) × (t.id ≡ before.id)) → IsSomeAnd after (λ t. TrustsHead t h × TrustsList t es)
trusts_both h es before after head so =
    some_and (λ t. TrustsList t es × (t.ledger ≡ before.ledger) × (t.id ≡ before.id)) (λ t. TrustsHead t h × TrustsList t es) (λ t x. (rw (x.1, x.2) head, x.0)) after so

-- the line of a proof that was made, under heads by which it is accepted
pub line_accepted : (h : History) (es : List (List ℕ)) (n : ℕ) (made : Made) (heads : Option Trust) (line : Option (List ℕ)) → IsMade (shown_of h es n) made
    → ((trust : Trust) → TrustsHead trust h → (has_bound h n ≡ true → TrustsList trust es) → IsAccepted sha256 made.proof made.claim trust) → IsSomeAnd heads (λ t. TrustsHead t h × TrustsList t es)
    → IfSome heads (λ t. IsAccepted sha256 made.proof made.claim t → line ≡ Some (reply_text 0 1 (Proof made.claim.n made.claim.leaf (told_mark made.claim.lo) (told_mark made.claim.hi) made.proof)))
    → line ≡ Some (reply_text 0 1 (proof_reply (shown_of h es n)))
line_accepted h es n made None line is accepts trusts told = absurd trusts
line_accepted h es n made (Some t) line is accepts trusts told =
    told (accepts t trusts.0 (λ b. trusts.1))
    ∙ ap (λ (c : Claim). Some (reply_text 0 1 (Proof c.n c.leaf (told_mark c.lo) (told_mark c.hi) made.proof))) is.claim_is
    ∙ ap (λ p. let c = claim_of (shown_of h es n) in Some (reply_text 0 1 (Proof c.n c.leaf (told_mark c.lo) (told_mark c.hi) p))) is.proof_is
