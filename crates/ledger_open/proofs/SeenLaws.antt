-- Each journal of a lawful history is the next one behind no base, and whether it is depends on headers alone.
use Rattle.std.specs.List.{list_any}
use Rattle.std.specs.Prelude.{Bool, cond, filter, nat_le, not, Option, Some, None}
use Rattle.std.proofs.Common.{◌≡◌, ℕ, ◌+◌, ◌-◌, ◌<◌, ◌≤◌, ◌&&◌, ◌==◌, List, [], ◌∷◌, ◌++◌, length, get_or, map, refl, sym, ◌∙◌, ap, subst, arith, append_assoc, length-append}
use Rattle.std.proofs.lemmas.List.{length-map, nil_from_length}
use Rattle.std.proofs.lemmas.List.Elements.{filter_agree}
use Rattle.sha2.specs.Sha256.{sha256}
use Rattle.tree_model.specs.Tree.{leaf}
use Rattle.clue_index.specs.Added.{Added, Mark, trail_of, different_clues}
use Rattle.clue_index.specs.Trail.{count_of, last_of}
use Rattle.ledger_bytes.specs.declared.digest.Digest.{Digest}
use Rattle.journal_record.specs.Entry.{Entry}
use Rattle.journal_record.specs.Header.{spelling}
use Rattle.journal_record.specs.Rules.{is_no_clue}
use Rattle.journal_record.specs.declared.header.Header.{Header}
use Rattle.journal_record.specs.declared.header.Kind.{Kind}
use Rattle.journal_record.specs.declared.header.Kind.TheVariants as kind
use Rattle.ledger_book.proofs.GroundLaws.{ground_next}
use Rattle.ledger_book.proofs.NumberedLaws.{told_numbered}
use Rattle.ledger_model.specs.Behind.{first_of, count_behind, clues_behind, numbered_from, has_own_purge, is_purge_to, shown_behind, IsOwnBehind, BeginsWell, IsNextBehind, AreBehind}
use Rattle.ledger_model.specs.Bases.{clue_mark_of}
use Rattle.ledger_model.specs.Clues.{has_clue, is_of_clue}
use Rattle.ledger_model.specs.History.{history, greatest_point}
use Rattle.ledger_model.specs.Lawful.{AreLawful, IsNext}
use Rattle.ledger_model.specs.Members.{is_member, member_of}
use Rattle.ledger_model.specs.Targets.{is_occult, names, hides_as, hides, kind_at, leaf_at}
use Rattle.pseudo_genesis.specs.declared.base.Base.{Base}
use Rattle.ledger_open.specs.Standing.{AllKept}
use Rattle.ledger_open.proofs.FirstLaws.{genesis_first}
use Rattle.ledger_open.proofs.KeptLaws.{all_more, header_map_same, header_any_same}
use Rattle.ledger_open.proofs.LikeLaws.{bare, header_filter_same, hidden_same, count_kept, greatest_kept, members_count}
use Rattle.ledger_open.proofs.NextLaws.{lawful_front, next_one}

-- ---- behind no base

ground_by : (before fs : List Entry) → 1 ≤ length before → AreLawful (before ++ fs) → AreBehind None before fs
ground_by before [] some lawful = tt
ground_by before (e ∷ fs) some lawful = (
  ground_next before e.header (lawful_front before (e ∷ fs) some lawful) (next_one [] before e fs lawful.next),
  ground_by (before ++ e ∷ []) fs (omega (arith, some, length-append before (e ∷ []))) (subst AreLawful (sym (append_assoc before (e ∷ []) fs)) lawful),
)

ground_first : (x : Header) → IsNext (history [] []) x → IsNextBehind None [] x
ground_first x next = record {
  layout = next.layout;
  jsn = next.jsn;
  below = next.below;
  begins = tt;
  own = subst (IsOwnBehind None [] x) (sym (genesis_first x.kind x.jsn next.layout.jsn next.jsn)) tt;
}

pub all_ground : (es : List Entry) → AreLawful es → AreBehind None [] es
all_ground [] lawful = tt
all_ground (e ∷ es) lawful = (ground_first e.header lawful.next.0, ground_by (e ∷ []) es (omega arith) lawful)

-- ---- it depends on headers alone

module _ (start : Option Base) (hid gone : ℕ → Bool) (es fs : List Entry) (a : AllKept hid gone es fs) where
  count_same : (s : Option Base) → count_behind s es ≡ count_behind s fs
  count_same None = members_count hid gone es fs a
  count_same (Some b) = ap (λ n. length b.keys + n) (ap length (header_filter_same hid gone (λ (x : Header). is_member x.kind) (λ (x : Header). member_of (bare x)) es fs a))

  marks_same : map clue_mark_of (filter has_clue es) ≡ map clue_mark_of (filter has_clue fs)
  marks_same = header_filter_same hid gone (λ (x : Header). has_clue (bare x)) (λ (x : Header). clue_mark_of (bare x)) es fs a

  clues_kept : (s : Option Base) → clues_behind s es ≡ clues_behind s fs
  clues_kept None = ap (λ (ms : List Mark). record { states = []; marks = ms; floor = 0 }) marks_same
  clues_kept (Some b) = ap (λ (ms : List Mark). record { states = b.clues; marks = ms; floor = b.point }) marks_same

  named_kept : (n : ℕ) → list_any (names n) es ≡ list_any (names n) fs
  named_kept n = header_any_same hid gone (λ (x : Header). is_occult x.kind && x.a == n) es fs a

  kind_kept : (n : ℕ) → kind_at (history [] es) n ≡ kind_at (history [] fs) n
  kind_kept n = ap (λ (l : List Kind). get_or l n kind.Genesis) (header_map_same hid gone (λ (x : Header). x.kind) es fs a)

  leaf_kept : (n : ℕ) → leaf_at (history [] es) n ≡ leaf_at (history [] fs) n
  leaf_kept n = ap (λ (l : List (List ℕ)). get_or l n []) (header_map_same hid gone (λ (x : Header). leaf sha256 (spelling x)) es fs a)

  points : greatest_point es ≡ greatest_point fs
  points = greatest_kept hid gone es fs a

  fresh_kept : (first m r : ℕ) → numbered_from first (greatest_point es) es m r ≡ numbered_from first (greatest_point fs) fs m r
  fresh_kept first m r =
      let headers : List Header = map (λ (e : Entry). e.header) es in
      sym (told_numbered first (greatest_point es) m r es headers refl) ∙ told_numbered first (greatest_point es) m r fs headers (header_map_same hid gone (λ (x : Header). x) es fs a)
      ∙ ap (λ p. numbered_from first p fs m r) points

  owned_kept : (s : Option Base) → has_own_purge s es ≡ has_own_purge s fs
  owned_kept None = refl
  owned_kept (Some b) = header_any_same hid gone (is_purge_to b.point) es fs a

  -- the records of a clue that are shown
  shown_kept : (clue : Digest) → map (λ (e : Entry). e.header) (shown_behind es clue) ≡ map (λ (e : Entry). e.header) (shown_behind fs clue)
  shown_kept clue =
      header_filter_same hid gone (λ (x : Header). is_of_clue clue (bare x) && (nat_le (greatest_point es) x.jsn && not (list_any (hides (bare x)) es))) (λ (x : Header). x) es fs a
      ∙ ap (map (λ (e : Entry). e.header)) (filter_agree (λ (e : Entry). is_of_clue clue e && (nat_le (greatest_point es) e.header.jsn && not (list_any (hides e) es))) _ (λ e.
      ap (λ (p : ℕ). is_of_clue clue e && (nat_le p e.header.jsn && not (list_any (hides e) es))) points
      ∙ ap (λ (v : Bool). is_of_clue clue e && (nat_le (greatest_point fs) e.header.jsn && not v)) (header_any_same hid gone (λ (x : Header). hides_as x.kind x e.header) es fs a)) fs)

  none_shown : (clue : Digest) → shown_behind fs clue ≡ [] → shown_behind es clue ≡ []
  none_shown clue none =
      nil_from_length (shown_behind es clue)
      (omega (arith, ap length (shown_kept clue), length-map (shown_behind es clue) (λ (e : Entry). e.header), length-map (shown_behind fs clue) (λ (e : Entry). e.header), ap length none))

  own_kept : (x : Header) (k : Kind) → IsOwnBehind start es x k → IsOwnBehind start fs x k
  own_kept x kind.Genesis o = tt
  own_kept x kind.Content o = record {
    member = omega (arith, o.member, count_same start);
    clue_ord = o.clue_ord ∙ ap (λ (t : Added). cond (is_no_clue x.clue) 0 (count_of (trail_of t x.clue.0) + 1)) (clues_kept start);
    clue_prev = o.clue_prev ∙ ap (λ (t : Added). cond (is_no_clue x.clue) 0 (last_of (trail_of t x.clue.0))) (clues_kept start);
    room = λ has none. subst (λ (t : Added). length (different_clues t) < 1_048_576) (clues_kept start) (o.room has (ap (λ (t : Added). count_of (trail_of t x.clue.0)) (clues_kept start) ∙ none));
    fresh = sym (fresh_kept (first_of start) x.member x.a) ∙ o.fresh;
  }
  own_kept x kind.Member o = o ∙ count_same start
  own_kept x kind.Time o = tt
  own_kept x kind.Occult o = record {
    named = λ less. sym (named_kept x.a) ∙ o.named less;
    shown = λ le. sym (hidden_same hid gone es fs (x.a - first_of start) a) ∙ o.shown le;
    front = λ less. sym (owned_kept start) ∙ o.front less;
    kept = λ le. omega (arith, o.kept le, points);
    target_is = λ le. sym (kind_kept (x.a - first_of start)) ∙ o.target_is le;
    leaf_is = λ le. o.leaf_is le ∙ leaf_kept (x.a - first_of start);
  }
  own_kept x kind.ClueOccult o = record {
    count = o.count ∙ ap (λ (t : Added). count_of (trail_of t x.link.0)) (clues_kept start);
    shown = λ owned none. o.shown (owned_kept start ∙ owned) (none_shown x.link none);
  }
  own_kept x kind.Purge o = record { above = omega (arith, o.above, points); target_is = λ le. sym (kind_kept (x.a - first_of start)) ∙ o.target_is le }

begins_kept : (start : Option Base) (hid gone : ℕ → Bool) (es fs : List Entry) (x : Header) → AllKept hid gone es fs → BeginsWell start es x → BeginsWell start fs x
begins_kept None hid gone es fs x a w = tt
begins_kept (Some b) hid gone [] [] x a w = w
begins_kept (Some b) hid gone [] (f ∷ fs) x a w = absurd a
begins_kept (Some b) hid gone (e ∷ es) [] x a w = absurd a
begins_kept (Some b) hid gone (e ∷ es) (f ∷ fs) x a w = tt

next_kept : (start : Option Base) (hid gone : ℕ → Bool) (es fs : List Entry) (x : Header) → AllKept hid gone es fs → IsNextBehind start es x → IsNextBehind start fs x
next_kept start hid gone es fs x a n = record {
  layout = n.layout;
  jsn = omega (arith, n.jsn, count_kept hid gone es fs a);
  below = n.below;
  begins = begins_kept start hid gone es fs x a n.begins;
  own = own_kept start hid gone es fs a x x.kind n.own;
}

pub behind_kept : (start : Option Base) (hid gone : ℕ → Bool) (bs cs es fs : List Entry) → AllKept hid gone bs cs → AllKept hid gone es fs → AreBehind start bs es → AreBehind start cs fs
behind_kept start hid gone bs cs [] [] b a n = tt
behind_kept start hid gone bs cs [] (f ∷ fs) b a n = absurd a
behind_kept start hid gone bs cs (e ∷ es) [] b a n = absurd a
behind_kept start hid gone bs cs (e ∷ es) (f ∷ fs) b a n = (
  subst (IsNextBehind start cs) (sym a.0.header) (next_kept start hid gone bs cs e.header b n.0),
  behind_kept start hid gone (bs ++ e ∷ []) (cs ++ f ∷ []) es fs (all_more hid gone bs cs (e ∷ []) (f ∷ []) b (a.0, tt)) a.1 n.1,
)
