-- Each purge of a history that runs make links the digest of the base at its point, so the dump has the purge that made its base.
use Rattle.std.specs.Prelude.{All, IsTrue, nat_lt, filter, max, nat_le, zero, suc, ◌||◌, if◌then◌else◌, IfSome}
use Rattle.std.specs.List.{list_any}
use Rattle.std.specs.Option.{option_map}
use Rattle.std.proofs.Common.{◌≡◌, ℕ, ◌+◌, ◌<◌, ◌≤◌, Bool, true, false, cond, List, [], ◌∷◌, ◌++◌, length, map, take, drop, Option, Some, None, Result, Ok, Err, inl, inr, refl, sym, ap, ◌∙◌, subst, arith, append-nil, append_assoc, take-append-drop, length-append}
use Rattle.std.proofs.lemmas.Bool.{and_from, and_parts, cases_lt, eq-eqb, lt-leb, ltb-true}
use Rattle.std.proofs.lemmas.List.{take-append-le, take-map}
use Rattle.std.proofs.lemmas.List.Elements.{All-nil, All-cons, All-drop, All-head, All-push, All-tail, All-weaker, filter-append}
use Rattle.std.proofs.lemmas.Option.{same_Some}
use Rattle.std.proofs.lemmas.Slice.Eq.{bytes_eq-Decides}
use Rattle.sha2.specs.Sha256.{sha256}
use Rattle.tree_model.specs.Peaks.{peaks}
use Rattle.ledger_bytes.specs.Digests.{digest}
use Rattle.ledger_bytes.specs.declared.digest.Digest.{Digest}
use Rattle.clue_index.specs.Added.{states_at}
use Rattle.journal_record.specs.Entry.{Entry}
use Rattle.journal_record.specs.declared.header.Kind.{Kind}
use Rattle.journal_record.specs.declared.header.Kind.TheVariants as kind
use Rattle.journal_record.specs.declared.member.Member.{Member}
use Rattle.journal_record.specs.declared.stamp.Stamp.{Stamp}
use Rattle.pseudo_genesis.specs.declared.base.Base.{Base}
use Rattle.script_lines.specs.declared.line.Line.{Line}
use Rattle.script_lines.specs.declared.line.Line.TheVariants as line
use Rattle.script_lines.specs.declared.said.SaidApproval.{SaidApproval}
use Rattle.time_peg.specs.Entries.{Making}
use Rattle.journal_record.specs.Request.{purge_request_digest_of}
use Rattle.ledger_model.specs.Anchors.{stamp_of, time_header, time_journal}
use Rattle.ledger_model.specs.Appends.{approval_of, append_header, append_with, member_header, member_job, occult_header, occult_job, clue_occult_header, clue_occult_job, purge_header, purge_job}
use Rattle.ledger_model.specs.Bases.{base_of, clues_added, digest_of_base}
use Rattle.ledger_model.specs.Ends.{ends_from}
use Rattle.ledger_model.specs.Genesis.{genesis_header, new_ledger}
use Rattle.ledger_model.specs.History.{History, history, id, journals, journals_of, close_by, ends, greatest_point, is_purge, leaf_digest, point, purge_point, seen_point, size, close}
use Rattle.ledger_model.specs.Lawful.{AreNext, IsLawful}
use Rattle.journal_record.specs.Rules.{a_ok}
use Rattle.ledger_model.specs.Limits.{real_limits}
use Rattle.ledger_model.specs.Members.{members}
use Rattle.ledger_model.specs.Scheme.{Scheme}
use Rattle.ledger_model.specs.Step.{Step}
use Rattle.ledger_model.specs.declared.genesis.Genesis.{Genesis}
use Rattle.ledger_model.proofs.AcceptedLaws.{purge_own}
use Rattle.ledger_model.proofs.EndLaws.{ends_push, ends_split}
use Rattle.ledger_model.proofs.KeepLaws.{each_line, journals_close, journals_wider, founded_lawful, real_within}
use Rattle.ledger_model.proofs.LawfulLaws.{point_seen, two_points}
use Rattle.ledger_model.proofs.PreparedLaws.{id_kept}
use Rattle.dump_model.specs.Checks.{makes_base}
use Rattle.dump_model.specs.Shown.{base_at, shown, ledger_dump}
use Rattle.audit_dump.specs.Ending.Late.{of_purge}
use Rattle.honest_dump.specs.Runs.{IsOfRuns, PassesHonestly, first_blocks}
use Rattle.honest_dump.proofs.Facts.{IsMade, all_at, all_places, next_at}
use Rattle.honest_dump.proofs.Fewer.{first_grows, first_journals, first_lawful, first_some, rest, runs_keep}
use Rattle.honest_dump.proofs.Running.{Places, LinePlaces, wider, id_close, run_keeps, unrepeated}

-- ---- the base at a journal stays

abbrev as_base : Digest → ℕ → List ℕ → List (List ℕ) → List Entry → Base
as_base known p counted digests es =
    record {
      id = known;
      point = p;
      blocks = length counted;
      peaks = map digest (peaks sha256 digests);
      keys = map (λ (x : Member). x.key) (members (history [] es));
      clues = states_at p (clues_added 0 es);
    }

base_alike : (h g : History) (p : ℕ) → id g ≡ id h → take p (journals g) ≡ take p (journals h) → filter (λ end. nat_le end p) (ends g) ≡ filter (λ end. nat_le end p) (ends h) → base_of g p ≡ base_of h p
base_alike h g p same_id same_front same_ends =
    let leaves : take p (map leaf_digest (journals g)) ≡ take p (map leaf_digest (journals h)) = take-map leaf_digest p (journals g) ∙ ap (map leaf_digest) same_front ∙ sym (take-map leaf_digest p (journals h)) in
    ap (λ (i : List ℕ). as_base (digest i) p (filter (λ end. nat_le end p) (ends g)) (take p (map leaf_digest (journals g))) (take p (journals g))) same_id
    ∙ ap (λ (c : List ℕ). as_base (digest (id h)) p c (take p (map leaf_digest (journals g))) (take p (journals g))) same_ends
    ∙ ap (λ (ds : List (List ℕ)). as_base (digest (id h)) p (filter (λ end. nat_le end p) (ends h)) ds (take p (journals g))) leaves
    ∙ ap (as_base (digest (id h)) p (filter (λ end. nat_le end p) (ends h)) (take p (map leaf_digest (journals h)))) same_front

ends_close : (h : History) (p : ℕ) → p < size h → filter (λ end. nat_le end p) (ends (close h)) ≡ filter (λ end. nat_le end p) (ends h)
unfolding close
ends_close h p lt = by_waiting h.closed h.waiting lt where
  by_waiting : (blocks : List (List Entry)) (waiting : List Entry) → p < length (journals_of blocks ++ waiting) → filter (λ end. nat_le end p) (ends (close_by blocks waiting)) ≡ filter (λ end. nat_le end p) (ends_from 0 blocks)
  by_waiting blocks [] lt = refl
  by_waiting blocks (j ∷ js) lt =
      let last = 0 + length (journals_of blocks) + length (j ∷ js) in
      ap (filter (λ end. nat_le end p)) (ends_push 0 blocks (j ∷ js)) ∙ filter-append (λ end. nat_le end p) (ends_from 0 blocks) (last ∷ [])
      ∙ ap (λ v. filter (λ end. nat_le end p) (ends_from 0 blocks) ++ cond v (last ∷ []) []) (lt-leb last p (omega (arith, lt, length-append (journals_of blocks) (j ∷ js))))
      ∙ append-nil (filter (λ end. nat_le end p) (ends_from 0 blocks))

base_close : (h : History) (p : ℕ) → p < size h → base_of (close h) p ≡ base_of h p
base_close h p lt = base_alike h (close h) p (id_close h) (ap (take p) (journals_close h)) (ends_close h p lt)

base_wider : (h : History) (e : Entry) (p : ℕ) → p < size h → base_of (wider h e) p ≡ base_of h p
base_wider h e p lt =
    base_alike h (wider h e) p (id_kept h (wider h e) (record { more = e ∷ []; journals_are = journals_wider h e; blocks = []; closed_are = sym (append-nil h.closed) }) (omega (arith, lt)))
    (ap (take p) (journals_wider h e) ∙ take-append-le p (journals h) (e ∷ []) (omega (arith, lt))) refl

-- ---- what a purge links

-- a purge's point is a journal of the history, and it links the digest of the base there
abbrev pub Links : History → Entry → Type 0
Links h e = e.header.kind ≡ kind.Purge → (e.header.a < size h) × (e.header.link.0 ≡ digest_of_base (base_of h e.header.a))

abbrev pub AllLink : History → Type 0
AllLink h = All (Links h) (journals h)

links_grow : (h g : History) → size h ≤ size g → ((p : ℕ) → p < size h → base_of g p ≡ base_of h p) → (es : List Entry) → All (Links h) es → All (Links g) es
links_grow h g le same es all =
    All-weaker (Links h) (Links g) (λ e link purge. let old = link purge in (omega (arith, old.0, le), old.1 ∙ ap digest_of_base (sym (same e.header.a old.0)))) es all

links_ended : (h : History) → AllLink h → AllLink (close h)
links_ended h all = subst (All (Links (close h))) (sym (journals_close h)) (links_grow h (close h) (omega (arith, ap length (journals_close h))) (base_close h) (journals h) all)

-- .. and those of the first blocks, whose points lie among their journals
ends_high : (n p : ℕ) (blocks : List (List Entry)) → p < n → filter (λ end. nat_le end p) (ends_from n blocks) ≡ []
ends_high n p [] lt = refl
ends_high n p (b ∷ blocks) lt =
    let later = n + length b in
    ap (λ v. cond v (later ∷ filter (λ end. nat_le end p) (ends_from later blocks)) (filter (λ end. nat_le end p) (ends_from later blocks))) (lt-leb later p (omega (arith, lt)))
    ∙ ends_high later p blocks (omega (arith, lt))

links_first : (n : ℕ) (h : History) → 0 < n → IsLawful h → h.waiting ≡ [] → AllLink h → AllLink (first_blocks n h)
links_first n h left lawful none all =
    all_places (Links g) [] (journals g) (λ front e more is purge.
    let layout = (next_at [] front e more (subst (AreNext []) is g_lawful.journals_are.next)) in
    let behind : e.header.a < e.header.jsn = ltb-true e.header.a e.header.jsn (and_parts (nat_lt 0 e.header.a) (nat_lt e.header.a e.header.jsn) (subst (λ k. IsTrue (a_ok k e.header.jsn e.header.a)) purge layout.layout.a)).1 in
    let within : e.header.a < size g = omega (arith, behind, layout.jsn, ap length is, length-append front (e ∷ more)) in
    let link = all_at (Links h) front e (more ++ rest n h) (subst (All (Links h)) (first_journals n h ∙ ap (λ (l : List Entry). l ++ rest n h) is ∙ append_assoc front (e ∷ more) (rest n h)) all) purge in
    (within, link.1 ∙ ap digest_of_base (base_first e.header.a within)))
  where
    g : History
    g = first_blocks n h

    g_lawful : IsLawful (first_blocks n h)
    g_lawful = first_lawful n h left lawful none

    base_first : (p : ℕ) → p < size (first_blocks n h) → base_of h p ≡ base_of (first_blocks n h) p
    base_first p lt =
        let same_id = id_kept (first_blocks n h) h (first_grows n h) (first_some n h left lawful none) in
        let front = take n h.closed in
        let at = 0 + length (journals_of front) in
        base_alike (first_blocks n h) h p same_id (ap (take p) (first_journals n h) ∙ take-append-le p (journals (first_blocks n h)) (rest n h) (omega (arith, lt)))
        (ap (λ (bs : List (List Entry)). filter (λ end. nat_le end p) (ends_from 0 bs)) (sym (take-append-drop n h.closed)) ∙ ap (filter (λ end. nat_le end p)) (ends_split 0 front (drop n h.closed))
        ∙ filter-append (λ end. nat_le end p) (ends_from 0 front) (ends_from at (drop n h.closed))
        ∙ ap (λ (l : List ℕ). filter (λ end. nat_le end p) (ends_from 0 front) ++ l) (ends_high at p (drop n h.closed) (omega (arith, lt, length-append (journals_of front) [])))
        ∙ append-nil (filter (λ end. nat_le end p) (ends_from 0 front)))

module _ (scheme : Scheme) where
  stamp_links : (h : History) (o : Option Stamp) (e : Entry) → option_map (time_journal (size h)) o ≡ Some e → Links h e
  unfolding time_header
  stamp_links h None e placed = absurd cc
  stamp_links h (Some s) e placed = subst (Links h) (same_Some _ e placed) (λ purge. absurd cc)

  line_links : (h : History) (making : Option Making) (step : Step) (said : Line) (e : Entry) → LinePlaces scheme h making step said e → Links h e
  unfolding append_with append_header member_job member_header occult_job occult_header clue_occult_job clue_occult_header purge_job purge_header
  line_links h making step said e =
      each_line scheme (id h) (λ said job. Places h making step said job e → Links h e) (λ member clue content proof number p. subst (Links h) (unrepeated _ _ e p.placed).1 (λ purge. absurd cc))
      (λ number key proof p. subst (Links h) (same_Some _ e p.placed) (λ purge. absurd cc)) (λ p. stamp_links h (stamp_of step) e p.placed)
      (λ target leaf given p. subst (Links h) (same_Some _ e p.placed) (λ purge. absurd cc))
      (λ name count given p. subst (Links h) (same_Some _ e p.placed) (λ purge. absurd cc)) purges (λ said query p. let never = p.placed in absurd cc) said
    where
      purges : (q : ℕ) (told : Digest) (given : List SaidApproval) → Places h making step (line.Purge q told given) (purge_job scheme (id h) q told given) e → Links h e
      purges q told given p =
          let message = purge_request_digest_of (id h) q told.0 in
          let own = purge_own real_limits real_within h q told (map (λ (by : SaidApproval). approval_of scheme by.member message by.proof) given) p.accepted told p.lawful.journals_are in
          subst (Links h) (same_Some _ e p.placed) (λ purge. (own.before, refl))

  links_placed : (h : History) (making : Option Making) (step : Step) (said : Line) (e : Entry) → LinePlaces scheme h making step said e → AllLink h → AllLink (wider h e)
  links_placed h making step said e p all =
      let more = journals_wider h e in
      subst (All (Links (wider h e))) (sym more) (links_grow h (wider h e) (omega (arith, ap length more, length-append (journals h) (e ∷ []))) (base_wider h e) (journals h ++ e ∷ []) (All-push (Links h) (journals h) e all (line_links h making step said e p)))

  links_new : (genesis : Genesis) → AllLink (new_ledger genesis)
  unfolding genesis_header
  links_new genesis = All-cons (Links (new_ledger genesis)) _ [] (λ purge. absurd cc) (All-nil (Links (new_ledger genesis)))

  pub run_links : (h : History) → IsOfRuns scheme h → AllLink h
  run_links h r =
      subst AllLink (sym r.history_is)
      (runs_keep scheme AllLink (λ g run l took k. run_keeps scheme AllLink links_ended links_placed g run.old_notary run.new_notary run.windows l took k) links_first (new_ledger r.genesis) r.runs (founded_lawful r.genesis) refl r.are (links_new r.genesis))

-- ---- the purge that made the base

purge_of : (k : Kind) (a n : ℕ) → (if is_purge k then a else 0) ≡ suc n → (k ≡ kind.Purge) × (a ≡ suc n)
purge_of kind.Purge a n is = (refl, is)
purge_of kind.Genesis a n is = absurd (omega (arith, is))
purge_of kind.Content a n is = absurd (omega (arith, is))
purge_of kind.Member a n is = absurd (omega (arith, is))
purge_of kind.Time a n is = absurd (omega (arith, is))
purge_of kind.Occult a n is = absurd (omega (arith, is))
purge_of kind.ClueOccult a n is = absurd (omega (arith, is))

or_true : (v w : Bool) → w ≡ true → (v || w) ≡ true
or_true true w is = refl
or_true false w is = is

module _ (h : History) (q : ℕ) where
  abbrev base : Base
  base = base_of h (suc q)

  one_makes : (e : Entry) → Links h e → purge_point e ≡ suc q → makes_base sha256 base (shown h e) ≡ true
  one_makes e link is =
      let own = purge_of e.header.kind e.header.a q is in
      let linked : e.header.link.0 ≡ digest_of_base base = (link own.0).1 ∙ ap (λ n. digest_of_base (base_of h n)) own.1 in
      and_from _ _ (ap is_purge own.0) (and_from _ _ (eq-eqb e.header.a (suc q) own.1) ((bytes_eq-Decides e.header.link.0 (digest_of_base base)).1 linked))

  some_makes : (es : List Entry) → All (Links h) es → greatest_point es ≡ suc q → list_any (makes_base sha256 base) (map (shown h) es) ≡ true
  some_makes [] all is = absurd (omega (arith, is))
  some_makes (e ∷ es) all is =
      let parts : greatest_point (e ∷ es) ≡ max (greatest_point (e ∷ [])) (greatest_point es) = two_points (e ∷ []) es in
      let first = makes_base sha256 base (shown h e) in
      let rest = list_any (makes_base sha256 base) (map (shown h) es) in
      elim (cases_lt (purge_point e) (suc q)) [
        | inl below ↦ or_true first rest (some_makes es (All-tail (Links h) e es all) (omega (arith, parts, is, below)))
        | inr above ↦ ap (λ v. v || rest) (one_makes e (All-head (Links h) e es all) (omega (arith, parts, is, above)))
      ]

pub has_purge : (scheme : Scheme) (h : History) (entries : List (List ℕ)) → IsOfRuns scheme h → IsMade h → PassesHonestly h entries of_purge
unfolding ledger_dump point seen_point
has_purge scheme h entries r m = by_point (point h) refl where
  by_point : (p : ℕ) → point h ≡ p → IfSome (base_at h p) (λ (b : Base). list_any (makes_base sha256 b) (map (shown h) (drop p (journals h))) ≡ true)
  by_point zero is = tt
  by_point (suc q) is =
      let there : greatest_point (drop (suc q) (journals h)) ≡ suc q = ap (λ n. greatest_point (drop n (journals h))) (sym is) ∙ point_seen h m.lawful.journals_are ∙ is in
      some_makes h q (drop (suc q) (journals h)) (All-drop (Links h) (suc q) (journals h) (run_links scheme h r)) there

pub purge_linked : (scheme : Scheme) (h : History) (front : List Entry) (e : Entry) (more : List Entry) → IsOfRuns scheme h → journals h ≡ front ++ e ∷ more → e.header.kind ≡ kind.Purge → e.header.link.0 ≡ digest_of_base (base_of h e.header.a)
purge_linked scheme h front e more r is purge = (all_at (Links h) front e more (subst (All (Links h)) is (run_links scheme h r)) purge).1
