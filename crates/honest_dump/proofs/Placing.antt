-- Each journal of a history that runs make was placed by those who had to.
use Rattle.std.specs.Prelude.{All, ⊤, nat_le, ◌&&◌}
use Rattle.std.specs.List.{list_all}
use Rattle.std.specs.Option.{option_map}
use Rattle.std.proofs.Common.{◌≡◌, ◌<◌, ℕ, ◌≤◌, true, List, [], ◌∷◌, ◌++◌, length, Option, Some, None, Result, Ok, Err, refl, sym, ◌∙◌, subst, append-nil, append_assoc}
use Rattle.std.proofs.lemmas.Bool.{and_parts, leb-true}
use Rattle.std.proofs.lemmas.List.Elements.{All-nil, All-cons}
use Rattle.std.proofs.lemmas.Option.{same_Some}
use Rattle.ledger_bytes.specs.declared.limits.TheConstants.{APPROVAL_LIMIT, CONTENT_LIMIT, NAME_LIMIT, PROOF_LIMIT}
use Rattle.journal_record.specs.Entry.{Entry}
use Rattle.journal_record.specs.declared.stamp.Stamp.{Stamp}
use Rattle.script_lines.specs.Limits.{fits_approvals}
use Rattle.script_lines.specs.declared.line.Line.{Line}
use Rattle.script_lines.specs.declared.line.Line.TheVariants as line
use Rattle.script_lines.specs.declared.said.SaidApproval.{SaidApproval}
use Rattle.time_peg.specs.Entries.{Making}
use Rattle.ledger_model.specs.Anchors.{stamp_of, time_header, time_journal}
use Rattle.ledger_model.specs.Appends.{append_header, append_with, clue_of, member_header, member_job, occult_header, occult_job, clue_occult_header, clue_occult_job, purge_header, purge_job}
use Rattle.ledger_model.specs.Genesis.{genesis_header, new_ledger}
use Rattle.ledger_model.specs.History.{History, id, journals, size, close}
use Rattle.ledger_model.specs.Lawful.{IsLawful}
use Rattle.ledger_model.specs.Limits.{real_limits}
use Rattle.ledger_model.specs.Scheme.{Scheme}
use Rattle.ledger_model.specs.Step.{Step}
use Rattle.ledger_model.specs.declared.genesis.Genesis.{Genesis}
use Rattle.ledger_model.proofs.KeepLaws.{each_line, journals_close, journals_wider, founded_lawful}
use Rattle.ledger_model.proofs.LawfulLaws.{some_journal}
use Rattle.ledger_model.proofs.PreparedLaws.{id_kept}
use Rattle.audit_dump.specs.Approvals.{IsPlacedBy}
use Rattle.audit_dump.specs.Placed.{shown_whole}
use Rattle.audit_dump.proofs.Placed.{record_is, occult_is, clue_occult_is, member_is, purge_is}
use Rattle.honest_dump.specs.Runs.{IsOfRuns, first_blocks}
use Rattle.honest_dump.proofs.Fewer.{first_grows, first_journals, first_some, rest, runs_keep}
use Rattle.honest_dump.proofs.Running.{Places, LinePlaces, wider, id_close, run_keeps, unrepeated}

-- ---- something holds of each journal behind those in front of it

abbrev pub EachBehind : (List Entry → Entry → Type 0) → List Entry → List Entry → Type 0
EachBehind Holds before [] = ⊤
EachBehind Holds before (e ∷ es) = Holds before e × EachBehind Holds (before ++ e ∷ []) es

module _ (Holds : List Entry → Entry → Type 0) where
  pub each_more : (before es : List Entry) (e : Entry) → EachBehind Holds before es → Holds (before ++ es) e → EachBehind Holds before (es ++ e ∷ [])
  each_more before [] e each more = (subst (λ (l : List Entry). Holds l e) (append-nil before) more, tt)
  each_more before (x ∷ es) e each more = (each.0, each_more (before ++ x ∷ []) es e each.1 (subst (λ (l : List Entry). Holds l e) (sym (append_assoc before (x ∷ []) es)) more))

  pub each_at : (before front : List Entry) (e : Entry) (more : List Entry) → EachBehind Holds before (front ++ e ∷ more) → Holds (before ++ front) e
  each_at before [] e more each = subst (λ (l : List Entry). Holds l e) (sym (append-nil before)) each.0
  each_at before (x ∷ front) e more each = subst (λ (l : List Entry). Holds l e) (append_assoc before (x ∷ []) front) (each_at (before ++ x ∷ []) front e more each.1)

  pub each_first : (before es fs : List Entry) → EachBehind Holds before (es ++ fs) → EachBehind Holds before es
  each_first before [] fs each = tt
  each_first before (e ∷ es) fs each = (each.0, each_first (before ++ e ∷ []) es fs each.1)

-- ---- who placed a journal

-- a journal behind others on the ledger with this id was placed by those who had to
abbrev pub IsPlaced : Scheme → List ℕ → List Entry → Entry → Type 0
IsPlaced scheme known before e = IsPlacedBy scheme known None before (shown_whole e) e.header.kind

all_short : (given : List SaidApproval) → fits_approvals given ≡ true → All (λ by. length by.proof ≤ PROOF_LIMIT) given
all_short given fits = by given (and_parts (nat_le (length given) APPROVAL_LIMIT) (list_all (λ (a : SaidApproval). nat_le (length a.proof) PROOF_LIMIT) given) fits).1 where
  by : (gs : List SaidApproval) → list_all (λ (a : SaidApproval). nat_le (length a.proof) PROOF_LIMIT) gs ≡ true → All (λ by. length by.proof ≤ PROOF_LIMIT) gs
  by [] all = All-nil (λ (a : SaidApproval). length a.proof ≤ PROOF_LIMIT)
  by (g ∷ gs) all =
      let both = and_parts (nat_le (length g.proof) PROOF_LIMIT) (list_all (λ (a : SaidApproval). nat_le (length a.proof) PROOF_LIMIT) gs) all in
      All-cons (λ (a : SaidApproval). length a.proof ≤ PROOF_LIMIT) g gs (leb-true (length g.proof) PROOF_LIMIT both.0) (by gs both.1)

module _ (scheme : Scheme) where
  stamp_placed : (h : History) (o : Option Stamp) (e : Entry) → option_map (time_journal (size h)) o ≡ Some e → IsPlaced scheme (id h) (journals h) e
  unfolding time_header
  stamp_placed h None e placed = absurd cc
  stamp_placed h (Some s) e placed = subst (IsPlaced scheme (id h) (journals h)) (same_Some _ e placed) refl

  line_placed : (h : History) (making : Option Making) (step : Step) (said : Line) (e : Entry) → LinePlaces scheme h making step said e → IsPlaced scheme (id h) (journals h) e
  unfolding append_with append_header member_job member_header occult_job occult_header clue_occult_job clue_occult_header purge_job purge_header
  line_placed h making step said e =
      each_line scheme (id h) (λ said job. Places h making step said job e → IsPlaced scheme (id h) (journals h) e) record_placed
      (λ number key proof p. subst (IsPlaced scheme (id h) (journals h)) (same_Some _ e p.placed) (member_is scheme real_limits h number key proof (leb-true (length proof) PROOF_LIMIT p.fits) p.accepted)) (λ p. stamp_placed h (stamp_of step) e p.placed)
      (λ target leaf given p. subst (IsPlaced scheme (id h) (journals h)) (same_Some _ e p.placed) (occult_is scheme real_limits h target leaf given (all_short given p.fits) p.accepted))
      (λ name count given p. subst (IsPlaced scheme (id h) (journals h)) (same_Some _ e p.placed) (clue_occult_is scheme real_limits h name count given (all_short given (and_parts (nat_le (length name) NAME_LIMIT) (fits_approvals given) p.fits).1) p.accepted))
      (λ q told given p. subst (IsPlaced scheme (id h) (journals h)) (same_Some _ e p.placed) (purge_is scheme real_limits h q told given (all_short given p.fits) p.accepted)) (λ said query p. let never = p.placed in absurd cc) said
    where
      record_placed : (member : ℕ) (clue content proof : List ℕ) (number : ℕ) → Places h making step (line.Append member clue content proof number) (append_with scheme (id h) member (clue_of clue) content proof number) e → IsPlaced scheme (id h) (journals h) e
      record_placed member clue content proof number p =
          let parts = and_parts (nat_le (length clue) NAME_LIMIT && nat_le (length content) CONTENT_LIMIT) (nat_le (length proof) PROOF_LIMIT) p.fits in
          subst (IsPlaced scheme (id h) (journals h)) (unrepeated _ _ e p.placed).1 (record_is scheme real_limits h member (clue_of clue) content proof number (leb-true (length proof) PROOF_LIMIT parts.1) p.accepted)

  -- ---- along a run

  module _ (known : List ℕ) where
    -- each journal was, and the id is this one
    abbrev pub ArePlaced : History → Type 0
    ArePlaced h = (id h ≡ known) × EachBehind (IsPlaced scheme known) [] (journals h)

    placed_ended : (h : History) → ArePlaced h → ArePlaced (close h)
    placed_ended h a = (id_close h ∙ a.0, subst (EachBehind (IsPlaced scheme known) []) (sym (journals_close h)) a.1)

    id_wider : (h : History) (e : Entry) → 1 ≤ size h → id (wider h e) ≡ id h
    id_wider h e some = id_kept h (wider h e) (record { more = e ∷ []; journals_are = journals_wider h e; blocks = []; closed_are = sym (append-nil h.closed) }) some

    placed_more : (h : History) (making : Option Making) (step : Step) (said : Line) (e : Entry) → LinePlaces scheme h making step said e → ArePlaced h → ArePlaced (wider h e)
    placed_more h making step said e p a = (
      id_wider h e (some_journal (journals h) p.lawful.journals_are) ∙ a.0,
      subst (EachBehind (IsPlaced scheme known) []) (sym (journals_wider h e))
          (each_more (IsPlaced scheme known) [] (journals h) e a.1 (subst (λ (i : List ℕ). IsPlaced scheme i (journals h) e) a.0 (line_placed h making step said e p))),
    )

  placed_new : (genesis : Genesis) → ArePlaced (id (new_ledger genesis)) (new_ledger genesis)
  unfolding genesis_header
  placed_new genesis = (refl, (refl, tt))

  -- .. and of its first blocks
  placed_first : (known : List ℕ) (n : ℕ) (h : History) → 0 < n → IsLawful h → h.waiting ≡ [] → ArePlaced known h → ArePlaced known (first_blocks n h)
  placed_first known n h left l none a = (
    sym (id_kept (first_blocks n h) h (first_grows n h) (first_some n h left l none)) ∙ a.0,
    each_first (IsPlaced scheme known) [] (journals (first_blocks n h)) (rest n h) (subst (EachBehind (IsPlaced scheme known) []) (first_journals n h) a.1),
  )

  pub run_placed : (h : History) → IsOfRuns scheme h → EachBehind (IsPlaced scheme (id h)) [] (journals h)
  run_placed h r =
      let known = id (new_ledger r.genesis) in
      let all : ArePlaced known h = subst (ArePlaced known) (sym r.history_is)
      (runs_keep scheme (ArePlaced known) (λ g run l took k. run_keeps scheme (ArePlaced known) (placed_ended known) (placed_more known) g run.old_notary run.new_notary run.windows l took k) (placed_first known)
      (new_ledger r.genesis) r.runs (founded_lawful r.genesis) refl r.are (placed_new r.genesis)) in
      subst (λ (i : List ℕ). EachBehind (IsPlaced scheme i) [] (journals h)) (sym all.0) all.1

  pub journal_placed : (h : History) (front : List Entry) (e : Entry) (more : List Entry) → IsOfRuns scheme h → journals h ≡ front ++ e ∷ more → IsPlacedBy scheme (id h) None front (shown_whole e) e.header.kind
  journal_placed h front e more r is = each_at (IsPlaced scheme (id h)) [] front e more (subst (EachBehind (IsPlaced scheme (id h)) []) is (run_placed h r))
