-- What histories have in common that agree but for hidden contents: all that depends on headers, and on the first content.
use Rattle.std.specs.List.{fold}
use Rattle.std.specs.Option.{is_some}
use Rattle.std.specs.Prelude.{◌==◌, filter, find, option_map, slice_get, drop, max, not, nat_lt, nat_le, bytes_eq}
use Rattle.std.specs.Set.{distinct_count}
use Rattle.std.proofs.Common.{◌≡◌, ℕ, zero, suc, ◌+◌, ◌≤◌, Bool, true, false, cond, ◌&&◌, List, [], ◌∷◌, ◌++◌, length, get_or, map, take, Option, Some, None, refl, sym, ◌∙◌, ap, subst, arith, length-append}
use Rattle.std.proofs.lemmas.List.{length-map}
use Rattle.sha2.specs.Sha256.{sha256}
use Rattle.tree_model.specs.Tree.{mth, leaf}
use Rattle.clue_index.specs.Added.{Mark}
use Rattle.clue_index.specs.Index as index
use Rattle.journal_record.specs.Entry.{Entry}
use Rattle.journal_record.specs.Header.{spelling}
use Rattle.journal_record.specs.Rules.{is_no_clue}
use Rattle.journal_record.specs.declared.header.Header.{Header}
use Rattle.journal_record.specs.declared.member.Member.{Member}
use Rattle.ledger_book.specs.Books.{Kept, Serves, leaf_digests, aged_members}
use Rattle.ledger_bytes.specs.declared.digest.Digest.{Digest}
use Rattle.ledger_bytes.specs.declared.refusal.Refusal.TheVariants.{CluesFull}
use Rattle.ledger_model.proofs.HideLaws.{hidden_is}
use Rattle.ledger_model.proofs.LawfulLaws.{AreFrom, lawful_from}
use Rattle.ledger_model.specs.Bases.{clue_mark_of}
use Rattle.ledger_model.specs.Bounds.{marks_of}
use Rattle.ledger_model.specs.Clues.{has_clue, is_of_clue, last_of, jsns_with, clue_count, next_ordinal, last_journal}
use Rattle.ledger_model.specs.Ends.{ends_from}
use Rattle.ledger_model.specs.History.{History, history, journals_of, journals, size, leaves, root, id, seen_point, purge_point, greatest_point, first_leaf_digest, leaf_digest}
use Rattle.ledger_model.specs.Judgements.{clues_full}
use Rattle.ledger_model.specs.Lawful.{AreLawful}
use Rattle.ledger_model.specs.Limits.{real_limits}
use Rattle.ledger_model.specs.Targets.{hides_as, is_hidden, hider_among, hider}
use Rattle.ledger_model.specs.Members.{founders, is_member, member_of, admitted_members, members}
use Rattle.merkle_batch.specs.Rows.{StandsFor}
use Rattle.proof_codec.specs.Claims as claims
use Rattle.proof_codec.specs.Reading.{is_time}
use Rattle.time_peg.specs.Times.{marks_from}
use Rattle.ledger_open.specs.Standing.{AllKept, SameButHidden}
use Rattle.ledger_open.proofs.HidingLaws.{journals_closed}
use Rattle.ledger_open.proofs.KeptLaws.{all_kept, header_map_same}

-- a journal of which only the header is looked at
abbrev pub bare : Header → Entry
bare x = record { header = x; content = []; who = [] }

pub header_filter_same : {A : Type 0} (hid gone : ℕ → Bool) (p : Header → Bool) (f : Header → A) (es fs : List Entry) → AllKept hid gone es fs
    → map (λ (e : Entry). f e.header) (filter (λ (e : Entry). p e.header) es) ≡ map (λ (e : Entry). f e.header) (filter (λ (e : Entry). p e.header) fs)
header_filter_same hid gone p f [] [] a = refl
header_filter_same hid gone p f [] (y ∷ ys) a = absurd a
header_filter_same hid gone p f (x ∷ xs) [] a = absurd a
header_filter_same {A} hid gone p f (x ∷ xs) (y ∷ ys) a =
    let more = header_filter_same hid gone p f xs ys a.1 in
    ap (λ (h : Header). map (λ (e : Entry). f e.header) (cond (p h) (x ∷ filter (λ (e : Entry). p e.header) xs) (filter (λ (e : Entry). p e.header) xs))) (sym a.0.header)
    ∙ elim (p y.header) as (λ v. map (λ (e : Entry). f e.header) (cond v (x ∷ filter (λ (e : Entry). p e.header) xs) (filter (λ (e : Entry). p e.header) xs)) ≡ map (λ (e : Entry). f e.header) (cond v (y ∷ filter (λ (e : Entry). p e.header) ys) (filter (λ (e : Entry). p e.header) ys))) [
      | true ↦ ap (λ (h : Header). f h ∷ map (λ (e : Entry). f e.header) (filter (λ (e : Entry). p e.header) xs)) (sym a.0.header) ∙ ap (λ (l : List A). f y.header ∷ l) more
      | false ↦ more
    ]

header_find_same : {A : Type 0} (hid gone : ℕ → Bool) (p : Header → Bool) (f : Header → A) (es fs : List Entry) → AllKept hid gone es fs
    → option_map (λ (e : Entry). f e.header) (find (λ (e : Entry). p e.header) es) ≡ option_map (λ (e : Entry). f e.header) (find (λ (e : Entry). p e.header) fs)
header_find_same hid gone p f [] [] a = refl
header_find_same hid gone p f [] (y ∷ ys) a = absurd a
header_find_same hid gone p f (x ∷ xs) [] a = absurd a
header_find_same {A} hid gone p f (x ∷ xs) (y ∷ ys) a =
    let more = header_find_same hid gone p f xs ys a.1 in
    ap (λ (h : Header). option_map (λ (e : Entry). f e.header) (cond (p h) (Some x) (find (λ (e : Entry). p e.header) xs))) (sym a.0.header)
    ∙ elim (p y.header) as (λ v. option_map (λ (e : Entry). f e.header) (cond v (Some x) (find (λ (e : Entry). p e.header) xs)) ≡ option_map (λ (e : Entry). f e.header) (cond v (Some y) (find (λ (e : Entry). p e.header) ys))) [
      | true ↦ ap (λ (h : Header). Some (f h)) (sym a.0.header)
      | false ↦ more
    ]

-- who hides a journal: by what is kept, and of what is kept
hider_by : (hid gone : ℕ → Bool) (target : Option Entry) (es fs : List Entry) → AllKept hid gone es fs → hider_among es target ≡ hider_among fs target
hider_by hid gone None es fs a = refl
hider_by hid gone (Some t) es fs a = header_find_same hid gone (λ (x : Header). hides_as x.kind x t.header) (λ (x : Header). x.jsn) es fs a

hider_of : (hid gone : ℕ → Bool) (hiders es fs : List Entry) (n : ℕ) → AllKept hid gone es fs → hider_among hiders (slice_get es n) ≡ hider_among hiders (slice_get fs n)
hider_of hid gone hiders [] [] n a = refl
hider_of hid gone hiders [] (f ∷ fs) n a = absurd a
hider_of hid gone hiders (e ∷ es) [] n a = absurd a
hider_of hid gone hiders (e ∷ es) (f ∷ fs) zero a = ap (λ (x : Header). option_map (λ (j : Entry). j.header.jsn) (find (λ (j : Entry). hides_as j.header.kind j.header x) hiders)) (sym a.0.header)
hider_of hid gone hiders (e ∷ es) (f ∷ fs) (suc n) a = hider_of hid gone hiders es fs n a.1

pub hider_same : (hid gone : ℕ → Bool) (es fs : List Entry) (n : ℕ) → AllKept hid gone es fs → hider (history [] es) n ≡ hider (history [] fs) n
hider_same hid gone es fs n a = hider_by hid gone (slice_get es n) es fs a ∙ hider_of hid gone fs es fs n a

-- .. so whether it is hidden
pub hidden_same : (hid gone : ℕ → Bool) (es fs : List Entry) (n : ℕ) → AllKept hid gone es fs → is_hidden (history [] es) n ≡ is_hidden (history [] fs) n
hidden_same hid gone es fs n a = hidden_is (history [] es) n ∙ ap is_some (hider_same hid gone es fs n a) ∙ sym (hidden_is (history [] fs) n)

kept_drop : (hid gone : ℕ → Bool) (n : ℕ) (es fs : List Entry) → AllKept hid gone es fs → AllKept hid gone (drop n es) (drop n fs)
kept_drop hid gone zero es fs a = a
kept_drop hid gone (suc n) [] [] a = tt
kept_drop hid gone (suc n) [] (f ∷ fs) a = absurd a
kept_drop hid gone (suc n) (e ∷ es) [] a = absurd a
kept_drop hid gone (suc n) (e ∷ es) (f ∷ fs) a = kept_drop hid gone n es fs a.1

-- ---- journals of which the same is kept

module _ (hid gone : ℕ → Bool) (es fs : List Entry) (a : AllKept hid gone es fs) where
  pub count_kept : length es ≡ length fs
  count_kept = sym (length-map es (λ (e : Entry). e.header.jsn)) ∙ ap length (header_map_same hid gone (λ (x : Header). x.jsn) es fs a) ∙ length-map fs (λ (e : Entry). e.header.jsn)

  admitted_kept : admitted_members es ≡ admitted_members fs
  admitted_kept = header_filter_same hid gone (λ (x : Header). is_member x.kind) (λ (x : Header). member_of (bare x)) es fs a

  pub greatest_kept : greatest_point es ≡ greatest_point fs
  greatest_kept = ap (fold max 0) (header_map_same hid gone (λ (x : Header). purge_point (bare x)) es fs a)

  marks_kept : map clue_mark_of (filter has_clue es) ≡ map clue_mark_of (filter has_clue fs)
  marks_kept = header_filter_same hid gone (λ (x : Header). has_clue (bare x)) (λ (x : Header). clue_mark_of (bare x)) es fs a

  times_kept : marks_of es ≡ marks_of fs
  times_kept = header_filter_same hid gone (λ (x : Header). is_time x.kind) claims.mark_of es fs a

  numbers_kept : (clue : Digest) → jsns_with (history [] es) clue ≡ jsns_with (history [] fs) clue
  unfolding jsns_with
  numbers_kept clue = header_filter_same hid gone (λ (x : Header). is_of_clue clue (bare x)) (λ (x : Header). x.jsn) es fs a

  pub ordinal_kept : (clue : Digest) → next_ordinal (history [] es) clue ≡ next_ordinal (history [] fs) clue
  unfolding next_ordinal
  ordinal_kept clue = ap (λ (l : List ℕ). cond (is_no_clue clue) 0 (length l + 1)) (numbers_kept clue)

  pub last_kept : (clue : Digest) → last_journal (history [] es) clue ≡ last_journal (history [] fs) clue
  unfolding last_journal
  last_kept clue = ap (λ (l : List ℕ). cond (is_no_clue clue) 0 (last_of l)) (numbers_kept clue)

  different_kept : clue_count (history [] es) ≡ clue_count (history [] fs)
  unfolding clue_count
  different_kept = ap (λ (l : List (List ℕ)). distinct_count bytes_eq l) (header_filter_same hid gone (λ (x : Header). has_clue (bare x)) (λ (x : Header). x.clue.0) es fs a)

  pub room_kept : (clue : Digest) → clues_full real_limits (history [] es) clue ≡ clues_full real_limits (history [] fs) clue
  unfolding clues_full
  room_kept clue =
      ap (λ (l : List ℕ). cond (not (is_no_clue clue) && length l == 0 && nat_le real_limits.clues (clue_count (history [] es))) (Some CluesFull) None) (numbers_kept clue)
      ∙ ap (λ (n : ℕ). cond (not (is_no_clue clue) && length (jsns_with (history [] fs) clue) == 0 && nat_le real_limits.clues n) (Some CluesFull) None) different_kept

  founders_count : (xs ys : List Entry) → AllKept hid gone xs ys → length (founders xs) ≡ length (founders ys)
  founders_count [] [] k = refl
  founders_count [] (y ∷ ys) k = absurd k
  founders_count (x ∷ xs) [] k = absurd k
  founders_count (x ∷ xs) (y ∷ ys) k = refl

  pub members_count : length (members (history [] es)) ≡ length (members (history [] fs))
  unfolding members
  members_count = omega (arith, length-append (founders es) (admitted_members es), length-append (founders fs) (admitted_members fs), founders_count es fs a, ap length admitted_kept)

-- ---- histories whose blocks have ended, and agree but for hidden contents

blocks_count : (hid gone : ℕ → Bool) (bs cs : List (List Entry)) → SameButHidden hid gone bs cs → length bs ≡ length cs
blocks_count hid gone [] [] s = refl
blocks_count hid gone [] (c ∷ cs) s = absurd s
blocks_count hid gone (b ∷ bs) [] s = absurd s
blocks_count hid gone (b ∷ bs) (c ∷ cs) s = omega (arith, blocks_count hid gone bs cs s.1)

ends_same : (hid gone : ℕ → Bool) (n : ℕ) (bs cs : List (List Entry)) → SameButHidden hid gone bs cs → ends_from n bs ≡ ends_from n cs
ends_same hid gone n [] [] s = refl
ends_same hid gone n [] (c ∷ cs) s = absurd s
ends_same hid gone n (b ∷ bs) [] s = absurd s
ends_same hid gone n (b ∷ bs) (c ∷ cs) s =
    ap (λ (m : ℕ). (n + m) ∷ ends_from (n + m) bs) (count_kept hid gone b c s.0) ∙ ap (λ (l : List ℕ). (n + length c) ∷ l) (ends_same hid gone (n + length c) bs cs s.1)

pub first_number : (es : List Entry) → AreLawful es → (e : Entry) (rest : List Entry) → es ≡ e ∷ rest → e.header.jsn ≡ 0
first_number es l e rest is = (subst (λ (l : List Entry). AreFrom 0 l) is (lawful_from es l)).0

first_same : (hid gone : ℕ → Bool) (es fs : List Entry) → AllKept hid gone es fs → hid 0 ≡ false → AreLawful es → founders es ≡ founders fs
first_same hid gone [] fs a s l = absurd l.founded
first_same hid gone (x ∷ xs) [] a s l = absurd a
first_same hid gone (x ∷ xs) (y ∷ ys) a s l =
    ap (λ (c : List ℕ). founders (record { header = x.header; content = c; who = x.who } ∷ [])) (sym (a.0.shown (ap hid (first_number (x ∷ xs) l x xs refl) ∙ s)))

first_of : (es : List Entry) → first_leaf_digest es ≡ get_or (map leaf_digest es) 0 []
first_of [] = refl
first_of (e ∷ es) = refl

module _ (hid gone : ℕ → Bool) (h k : History) (same : SameButHidden hid gone h.closed k.closed) (hh : h.waiting ≡ []) (kk : k.waiting ≡ []) where
  pub journals_alike : AllKept hid gone (journals h) (journals k)
  journals_alike = subst (λ (l : List Entry). AllKept hid gone l (journals k)) (sym (journals_closed h hh))
      (subst (λ (l : List Entry). AllKept hid gone (journals_of h.closed) l) (sym (journals_closed k kk)) (all_kept hid gone h.closed k.closed same))

  size_alike : size h ≡ size k
  size_alike = count_kept hid gone (journals h) (journals k) journals_alike

  sealed_alike : length (journals_of h.closed) ≡ length (journals_of k.closed)
  sealed_alike = count_kept hid gone (journals_of h.closed) (journals_of k.closed) (all_kept hid gone h.closed k.closed same)

  leaves_alike : leaves h ≡ leaves k
  leaves_alike = header_map_same hid gone spelling (journals h) (journals k) journals_alike

  digests_alike : leaf_digests h ≡ leaf_digests k
  digests_alike = header_map_same hid gone (λ (x : Header). leaf sha256 (spelling x)) (journals h) (journals k) journals_alike

  root_alike : (m : ℕ) → root h m ≡ root k m
  unfolding root
  root_alike m = ap (λ (l : List (List ℕ)). mth sha256 (take m l)) leaves_alike

  id_alike : id h ≡ id k
  unfolding id
  id_alike = first_of (journals h) ∙ ap (λ (l : List (List ℕ)). get_or l 0 []) digests_alike ∙ sym (first_of (journals k))

  hider_alike : (n : ℕ) → hider h n ≡ hider k n
  hider_alike n = hider_same hid gone (journals h) (journals k) n journals_alike

  seen_alike : (floor : ℕ) → seen_point floor h ≡ seen_point floor k
  unfolding seen_point
  seen_alike floor = greatest_kept hid gone (drop floor (journals h)) (drop floor (journals k)) (kept_drop hid gone floor (journals h) (journals k) journals_alike)

  module _ (shown : hid 0 ≡ false) (legal : AreLawful (journals h)) where
    members_alike : members h ≡ members k
    unfolding members
    members_alike =
        ap (λ (l : List Member). l ++ admitted_members (journals h)) (first_same hid gone (journals h) (journals k) journals_alike shown legal)
        ∙ ap (λ (l : List Member). founders (journals k) ++ l) (admitted_kept hid gone (journals h) (journals k) journals_alike)

    -- a book that serves one of them serves the other, where that is lawful
    pub serves_both : (b : Kept) → AreLawful (journals k) → Serves b h → Serves b k
    serves_both b lawful s = record {
      stands = record {
        lawful = lawful;
        counts = record {
          size = s.stands.counts.size ∙ size_alike;
          floor = subst (λ (n : ℕ). b.floor ≤ n) sealed_alike s.stands.counts.floor;
          point = s.stands.counts.point ∙ seen_alike b.floor;
          blocks = s.stands.counts.blocks ∙ blocks_count hid gone h.closed k.closed same;
          sealed_is = s.stands.counts.sealed_is ∙ sealed_alike;
          ends = s.stands.counts.ends ∙ ap (filter (λ (end : ℕ). nat_lt b.floor end)) (ends_same hid gone 0 h.closed k.closed same);
        };
        tree = record {
          root = s.stands.tree.root ∙ root_alike (length (journals_of h.closed)) ∙ ap (root k) sealed_alike;
          id = s.stands.tree.id ∙ id_alike;
          headers_are = s.stands.tree.headers_are ∙ ap (drop b.floor) (header_map_same hid gone (λ (x : Header). x) (journals h) (journals k) journals_alike);
          leaves = subst (λ (l : List (List ℕ)). StandsFor sha256 b.tree l) digests_alike s.stands.tree.leaves;
        };
        members = s.stands.members ∙ ap (aged_members b.floor) members_alike;
        clues = subst (λ (l : List Mark). index.StandsForTrails b.clues (record { states = []; marks = l; floor = b.floor })) (marks_kept hid gone (journals h) (journals k) journals_alike) s.stands.clues;
        hiders = λ n le. s.stands.hiders n le ∙ hider_alike n;
        times = s.stands.times ∙ ap (marks_from b.point) (times_kept hid gone (drop b.floor (journals h)) (drop b.floor (journals k)) (kept_drop hid gone b.floor (journals h) (journals k) journals_alike));
      };
      reached = s.reached;
      seen = s.seen;
    }

-- .. by its own law
pub serves_alike : (hid gone : ℕ → Bool) (h k : History) → SameButHidden hid gone h.closed k.closed → h.waiting ≡ [] → k.waiting ≡ [] → hid 0 ≡ false → AreLawful (journals k) → (b : Kept) → Serves b h → Serves b k
serves_alike hid gone h k same hh kk shown lawful b s = serves_both hid gone h k same hh kk shown s.stands.lawful b lawful s
