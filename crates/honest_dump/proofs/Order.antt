-- Whether a journal is the next one depends on headers alone, so it doesn't matter which contents a dump leaves out.
use Rattle.std.specs.Prelude.{All, IfSome, zero, suc, filter, not, nat_le, slice_get, if◌then◌else◌}
use Rattle.std.specs.List.{list_any, fold}
use Rattle.std.specs.Option.{option_or}
use Rattle.std.proofs.Common.{◌≡◌, ℕ, ◌+◌, ◌-◌, ◌<◌, ◌==◌, ◌||◌, ◌&&◌, max, Bool, true, false, cond, List, [], ◌∷◌, ◌++◌, length, map, get_or, drop, Option, Some, None, refl, sym, ap, ap₂, ◌∙◌, subst, arith}
use Rattle.std.proofs.lemmas.List.{map-append, length-map, drop-map}
use Rattle.std.proofs.lemmas.List.Elements.{All-map, All-drop}
use Rattle.std.proofs.lemmas.Simd.{map-map}
use Rattle.clue_index.specs.Added.{Added, Mark, trail_of, different_clues}
use Rattle.clue_index.specs.Trail.{count_of, last_of}
use Rattle.ledger_bytes.specs.declared.digest.Digest.{Digest}
use Rattle.journal_record.specs.Entry.{Entry, content_digest_of}
use Rattle.journal_record.specs.Rules.{is_no_clue}
use Rattle.journal_record.specs.declared.header.Header.{Header}
use Rattle.journal_record.specs.declared.header.Kind.{Kind}
use Rattle.journal_record.specs.declared.header.Kind.TheVariants as kind
use Rattle.journal_record.specs.declared.member.Member.{Member}
use Rattle.pseudo_genesis.specs.declared.base.Base.{Base}
use Rattle.ledger_model.specs.Bases.{base_of, clue_mark_of}
use Rattle.ledger_model.specs.Behind.{AreBehind, BeginsWell, IsNextBehind, IsOwnBehind, clues_behind, count_behind, first_of, has_own_purge, is_purge_to, numbered_from, shown_behind}
use Rattle.ledger_model.specs.Clues.{has_clue, is_of_clue}
use Rattle.ledger_model.specs.History.{History, history, journals, greatest_point, leaf_digest, point, purge_point}
use Rattle.ledger_model.specs.Members.{admits, admitted_members, founders, member_of, members}
use Rattle.ledger_model.specs.Numbers.{is_numbered, numbered_in, place_from}
use Rattle.ledger_model.specs.Targets.{hides, hides_as, is_hidden, is_hidden_by, kind_at, leaf_at, names}
use Rattle.dump_model.specs.Shown.{base_at, shown, ledger_dump}
use Rattle.audit_dump.specs.Contents.{IsKeptWhole}
use Rattle.audit_dump.specs.Known.{journal_of, journals_of}
use Rattle.audit_dump.proofs.Kept.{kept_next, all_next}
use Rattle.honest_dump.proofs.Facts.{IsMade, all_places, whole_there}
use Rattle.honest_dump.proofs.Seen.{seen}

module _ (h : History) where
  abbrev pub seen_all : List Entry → List Entry
  seen_all es = map (seen h) es

  -- ---- what is counted and looked for

  filter_as : (p q : Entry → Bool) → ((e : Entry) → p (seen h e) ≡ q e) → (es : List Entry) → filter p (seen_all es) ≡ seen_all (filter q es)
  filter_as p q same [] = refl
  filter_as p q same (e ∷ es) =
      ap (λ v. cond v (seen h e ∷ filter p (seen_all es)) (filter p (seen_all es))) (same e) ∙ ap (λ (l : List Entry). cond (q e) (seen h e ∷ l) l) (filter_as p q same es)
      ∙ by (q e) where
        by : (v : Bool) → cond v (seen h e ∷ seen_all (filter q es)) (seen_all (filter q es)) ≡ seen_all (cond v (e ∷ filter q es) (filter q es))
        by true = refl
        by false = refl

  pub filter_seen : (p : Entry → Bool) → ((e : Entry) → p (seen h e) ≡ p e) → (es : List Entry) → filter p (seen_all es) ≡ seen_all (filter p es)
  filter_seen p same es = filter_as p p same es

  any_seen : (p : Header → Bool) (es : List Entry) → list_any (λ (e : Entry). p e.header) (seen_all es) ≡ list_any (λ (e : Entry). p e.header) es
  any_seen p [] = refl
  any_seen p (e ∷ es) = ap (λ v. p e.header || v) (any_seen p es)

  pub admitted_seen : (es : List Entry) → admitted_members (seen_all es) ≡ admitted_members es
  admitted_seen es = ap (map member_of) (filter_seen admits (λ e. refl) es) ∙ map-map member_of (seen h) (filter admits es)

  members_seen : (es : List Entry) → length (members (history [] (seen_all es))) ≡ length (members (history [] es))
  unfolding members
  members_seen [] = refl
  members_seen (e ∷ es) = ap (λ (l : List Member). length (founders (seen h e ∷ []) ++ l)) (admitted_seen (e ∷ es))

  count_seen : (start : Option Base) (es : List Entry) → count_behind start (seen_all es) ≡ count_behind start es
  count_seen None es = members_seen es
  count_seen (Some b) es = ap (λ (l : List Member). length b.keys + length l) (admitted_seen es)

  marks_seen : (es : List Entry) → map clue_mark_of (filter has_clue (seen_all es)) ≡ map clue_mark_of (filter has_clue es)
  marks_seen es = ap (map clue_mark_of) (filter_seen has_clue (λ e. refl) es) ∙ map-map clue_mark_of (seen h) (filter has_clue es)

  clues_seen : (start : Option Base) (es : List Entry) → clues_behind start (seen_all es) ≡ clues_behind start es
  clues_seen None es = ap (λ (ms : List Mark). record { states = []; marks = ms; floor = 0 }) (marks_seen es)
  clues_seen (Some b) es = ap (λ (ms : List Mark). record { states = b.clues; marks = ms; floor = b.point }) (marks_seen es)

  pub points_seen : (es : List Entry) → greatest_point (seen_all es) ≡ greatest_point es
  points_seen es = ap (fold max 0) (map-map purge_point (seen h) es)

  kinds_seen : (es : List Entry) (n : ℕ) → kind_at (history [] (seen_all es)) n ≡ kind_at (history [] es) n
  kinds_seen es n = ap (λ (l : List Kind). get_or l n kind.Genesis) (map-map (λ (e : Entry). e.header.kind) (seen h) es)

  leaves_at_seen : (es : List Entry) (n : ℕ) → leaf_at (history [] (seen_all es)) n ≡ leaf_at (history [] es) n
  leaves_at_seen es n = ap (λ (l : List (List ℕ)). get_or l n []) (map-map leaf_digest (seen h) es)

  own_purge_seen : (start : Option Base) (es : List Entry) → has_own_purge start (seen_all es) ≡ has_own_purge start es
  own_purge_seen None es = refl
  own_purge_seen (Some b) es = any_seen (is_purge_to b.point) es

  places_seen : (n : ℕ) (p : Entry → Bool) → ((e : Entry) → p (seen h e) ≡ p e) → (es : List Entry) → place_from n p (seen_all es) ≡ place_from n p es
  places_seen n p same [] = refl
  places_seen n p same (e ∷ es) =
      ap (λ v. option_or (place_from (n + 1) p (seen_all es)) (if v then Some n else None)) (same e)
      ∙ ap (λ (o : Option ℕ). option_or o (if p e then Some n else None)) (places_seen (n + 1) p same es)

  numbers_seen : (n member number : ℕ) (es : List Entry) → numbered_in n (seen_all es) member number ≡ numbered_in n es member number
  numbers_seen n member number es = ap (λ (o : Option ℕ). if number == 0 then None else o) (places_seen n (is_numbered member number) (λ e. refl) es)

  fresh_seen : (first member number : ℕ) (es : List Entry) → numbered_from first (greatest_point (seen_all es)) (seen_all es) member number ≡ numbered_from first (greatest_point es) es member number
  fresh_seen first member number es =
      let p = greatest_point es in
      ap (λ (q : ℕ). numbered_from first q (seen_all es) member number) (points_seen es)
      ∙ ap (λ (l : List Entry). numbered_in (first + (p - first)) l member number) (drop-map (seen h) (p - first) es)
      ∙ numbers_seen (first + (p - first)) member number (drop (p - first) es)

  -- ---- what is hidden

  hides_seen : (target : Entry) (es : List Entry) → list_any (hides (seen h target)) (seen_all es) ≡ list_any (hides target) es
  hides_seen target es = any_seen (λ (y : Header). hides_as y.kind y target.header) es

  hidden_seen : (es all : List Entry) (n : ℕ) → is_hidden_by (seen_all all) (slice_get (seen_all es) n) ≡ is_hidden_by all (slice_get es n)
  hidden_seen [] all n = refl
  hidden_seen (e ∷ es) all zero = hides_seen e all
  hidden_seen (e ∷ es) all (suc n) = hidden_seen es all n

  shown_seen : (es : List Entry) (clue : Digest) → shown_behind (seen_all es) clue ≡ seen_all (shown_behind es clue)
  shown_seen es clue =
      filter_as (λ e. is_of_clue clue e && (nat_le (greatest_point (seen_all es)) e.header.jsn && not (list_any (hides e) (seen_all es))))
      (λ e. is_of_clue clue e && (nat_le (greatest_point es) e.header.jsn && not (list_any (hides e) es)))
      (λ e. ap₂ (λ (p : ℕ) (v : Bool). is_of_clue clue e && (nat_le p e.header.jsn && not v)) (points_seen es) (hides_seen e es)) es

  none_seen : (es : List Entry) → seen_all es ≡ [] → es ≡ []
  none_seen [] is = refl
  none_seen (e ∷ es) is = absurd cc

  -- ---- the next journal

  own_seen : (start : Option Base) (es : List Entry) (x : Header) (k : Kind) → IsOwnBehind start es x k → IsOwnBehind start (seen_all es) x k
  own_seen start es x kind.Genesis o = tt
  own_seen start es x kind.Content o =
      let same = sym (clues_seen start es) in record {
        member = omega (arith, o.member, count_seen start es);
        clue_ord = o.clue_ord ∙ ap (λ (t : Added). cond (is_no_clue x.clue) 0 (count_of (trail_of t x.clue.0) + 1)) same;
        clue_prev = o.clue_prev ∙ ap (λ (t : Added). cond (is_no_clue x.clue) 0 (last_of (trail_of t x.clue.0))) same;
        room = λ has none. subst (λ (t : Added). length (different_clues t) < 1_048_576) same (o.room has (ap (λ (t : Added). count_of (trail_of t x.clue.0)) same ∙ none));
        fresh = fresh_seen (first_of start) x.member x.a es ∙ o.fresh;
      }
  own_seen start es x kind.Member o = o ∙ sym (count_seen start es)
  own_seen start es x kind.Time o = tt
  own_seen start es x kind.Occult o = record {
    named = λ less. any_seen (λ (y : Header). names x.a (record { header = y; content = []; who = [] })) es ∙ o.named less;
    shown = λ le. hidden_seen es es (x.a - first_of start) ∙ o.shown le;
    front = λ less. own_purge_seen start es ∙ o.front less;
    kept = λ le. omega (arith, o.kept le, points_seen es);
    target_is = λ le. kinds_seen es (x.a - first_of start) ∙ o.target_is le;
    leaf_is = λ le. o.leaf_is le ∙ sym (leaves_at_seen es (x.a - first_of start));
  }
  own_seen start es x kind.ClueOccult o = record {
    count = o.count ∙ ap (λ (t : Added). count_of (trail_of t x.link.0)) (sym (clues_seen start es));
    shown = λ own none. o.shown (sym (own_purge_seen start es) ∙ own) (none_seen (shown_behind es x.link) (sym (shown_seen es x.link) ∙ none));
  }
  own_seen start es x kind.Purge o = record { above = omega (arith, o.above, points_seen es); target_is = λ le. kinds_seen es (x.a - first_of start) ∙ o.target_is le }

  begins_seen : (start : Option Base) (es : List Entry) (x : Header) → BeginsWell start es x → BeginsWell start (seen_all es) x
  begins_seen None es x w = tt
  begins_seen (Some b) [] x w = w
  begins_seen (Some b) (e ∷ es) x w = tt

  next_seen : (start : Option Base) (es : List Entry) (x : Header) → IsNextBehind start es x → IsNextBehind start (seen_all es) x
  next_seen start es x n = record {
    layout = n.layout;
    jsn = omega (arith, n.jsn, length-map es (seen h));
    below = n.below;
    begins = begins_seen start es x n.begins;
    own = own_seen start es x x.kind n.own;
  }

  behind_seen : (start : Option Base) (before es : List Entry) → AreBehind start before es → AreBehind start (seen_all before) (seen_all es)
  behind_seen start before [] n = tt
  behind_seen start before (e ∷ es) n = (
    next_seen start before e.header n.0,
    subst (λ (l : List Entry). AreBehind start l (seen_all es)) (map-append (seen h) before (e ∷ [])) (behind_seen start (before ++ e ∷ []) es n.1),
  )

  -- ---- the journals of a dump

  pub journals_are : (es : List Entry) → journals_of (map (shown h) es) ≡ seen_all es
  journals_are es = map-map journal_of (shown h) es

  module _ (m : IsMade h) where
    all_behind : (p : ℕ) → greatest_point (journals h) ≡ p → AreBehind (base_at h p) [] (drop p (journals h))
    all_behind zero is = all_next (journals h) m.lawful.journals_are
    all_behind (suc q) is =
        subst (λ (n : ℕ). AreBehind (Some (base_of h n)) [] (drop n (journals h))) is (kept_next h m.lawful.journals_are (omega (arith, is)))

    pub dump_behind : (entries : List (List ℕ)) → AreBehind (ledger_dump h entries).base [] (journals_of (ledger_dump h entries).items)
    unfolding ledger_dump point
    dump_behind entries =
        let p = greatest_point (journals h) in
        subst (AreBehind (base_at h p) []) (sym (journals_are (drop p (journals h)))) (behind_seen (base_at h p) [] (drop p (journals h)) (all_behind p refl))

    -- ---- the parts of a journal

    pub whole_item : (front : List Entry) (e : Entry) (more : List Entry) → journals h ≡ front ++ e ∷ more → IsKeptWhole (shown h e)
    whole_item front e more is = record { content = by_hidden (is_hidden h e.header.jsn); who = (whole_there h m front e more is).who_is } where
      by_hidden : (hidden : Bool) → IfSome (if hidden then None else Some e.content) (λ content. e.header.content_digest.0 ≡ content_digest_of content)
      by_hidden true = tt
      by_hidden false = (whole_there h m front e more is).content_is

    pub dump_whole : (entries : List (List ℕ)) → All IsKeptWhole (ledger_dump h entries).items
    unfolding ledger_dump
    dump_whole entries =
        All-map IsKeptWhole (shown h) (drop (point h) (journals h)) (All-drop (λ (e : Entry). IsKeptWhole (shown h e)) (point h) (journals h) (all_places (λ (e : Entry). IsKeptWhole (shown h e)) [] (journals h) whole_item))
