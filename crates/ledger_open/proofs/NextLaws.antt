-- Journals of which each is the next one, in parts; and which of them may share a block.
use Rattle.std.specs.List.{list_all}
use Rattle.std.specs.Prelude.{Option}
use Rattle.std.proofs.Common.{ℕ, zero, suc, ◌<◌, ◌≤◌, Bool, ◌&&◌, List, [], ◌∷◌, ◌++◌, length, get_or, take, refl, sym, ◌∙◌, ap, subst, arith, append_assoc, append-nil}
use Rattle.std.proofs.lemmas.Bool.{and_parts}
use Rattle.std.proofs.lemmas.List.{take_all}
use Rattle.journal_record.specs.Entry.{Entry}
use Rattle.ledger_model.specs.History.{history}
use Rattle.ledger_model.specs.Lawful as lawful
use Rattle.ledger_model.specs.Lawful.{IsNext, AreNext, AreLawful, IsFounded, AllGather, gathers}
use Rattle.ledger_model.specs.Behind.{IsNextBehind, AreBehind}
use Rattle.pseudo_genesis.specs.declared.base.Base.{Base}
use Rattle.ledger_open.specs.Damages.{CanShare}

-- ---- of a history

pub next_front : (before es fs : List Entry) → AreNext before (es ++ fs) → AreNext before es
next_front before [] fs n = tt
next_front before (e ∷ es) fs n = (n.0, next_front (before ++ e ∷ []) es fs n.1)

-- the one behind the first of them
pub next_one : (before es : List Entry) (e : Entry) (fs : List Entry) → AreNext before (es ++ e ∷ fs) → IsNext (history [] (before ++ es)) e.header
next_one before [] e fs n = subst (λ (l : List Entry). IsNext (history [] l) e.header) (sym (append-nil before)) n.0
next_one before (x ∷ es) e fs n = subst (λ (l : List Entry). IsNext (history [] l) e.header) (append_assoc before (x ∷ []) es) (next_one (before ++ x ∷ []) es e fs n.1)

founded_front : (es fs : List Entry) → 1 ≤ length es → IsFounded (es ++ fs) → IsFounded es
founded_front [] fs some f = absurd (omega (arith, some))
founded_front (e ∷ es) fs some f = f

-- journals in front of others
pub lawful_front : (es fs : List Entry) → 1 ≤ length es → AreLawful (es ++ fs) → AreLawful es
lawful_front es fs some l = record { next = next_front [] es fs l.next; founded = founded_front es fs some l.founded }

-- ---- behind a base

module _ (start : Option Base) where
  pub behind_rest : (before es fs : List Entry) → AreBehind start before (es ++ fs) → AreBehind start (before ++ es) fs
  behind_rest before [] fs n = subst (λ (l : List Entry). AreBehind start l fs) (sym (append-nil before)) n
  behind_rest before (e ∷ es) fs n = subst (λ (l : List Entry). AreBehind start l fs) (append_assoc before (e ∷ []) es) (behind_rest (before ++ e ∷ []) es fs n.1)

  pub behind_front : (before es fs : List Entry) → AreBehind start before (es ++ fs) → AreBehind start before es
  behind_front before [] fs n = tt
  behind_front before (e ∷ es) fs n = (n.0, behind_front (before ++ e ∷ []) es fs n.1)

  pub behind_index : (before es : List Entry) (i : ℕ) (d : Entry) → AreBehind start before es → i < length es → IsNextBehind start (before ++ take i es) (get_or es i d).header
  behind_index before [] i d n lt = absurd (omega (arith, lt))
  behind_index before (e ∷ es) zero d n lt = subst (λ (l : List Entry). IsNextBehind start l e.header) (sym (append-nil before)) n.0
  behind_index before (e ∷ es) (suc i) d n lt = subst (λ (l : List Entry). IsNextBehind start l (get_or es i d).header) (append_assoc before (e ∷ []) (take i es)) (behind_index (before ++ e ∷ []) es i d n.1 (omega (arith, lt)))

  pub behind_more : (before es fs : List Entry) → AreBehind start before es → AreBehind start (before ++ es) fs → AreBehind start before (es ++ fs)
  behind_more before [] fs a b = subst (λ (l : List Entry). AreBehind start l fs) (append-nil before) b
  behind_more before (e ∷ es) fs a b = (a.0, behind_more (before ++ e ∷ []) es fs a.1 (subst (λ (l : List Entry). AreBehind start l fs) (sym (append_assoc before (e ∷ []) es)) b))

-- the first of some journals that gather
pub gather_take : (k : ℕ) (es : List Entry) → AllGather es → AllGather (take k es)
gather_take zero es g = refl
gather_take (suc k) [] g = refl
gather_take (suc k) (e ∷ es) g =
    let both = and_parts (gathers e.header.kind) (list_all (λ (e : Entry). gathers e.header.kind) es) g in
    ap (λ (v : Bool). v && list_all (λ (x : Entry). gathers x.header.kind) (take k es)) both.0 ∙ gather_take k es both.1

-- the first of a block's journals may share one
pub share_take : (k : ℕ) (es : List Entry) → lawful.IsBlock es → 1 ≤ k → CanShare (take k es)
share_take k es b some more = gather_take k es (b.gathered (λ one. more (ap (λ (l : List Entry). length l) (take_all k es (omega (arith, one, some))) ∙ one)))
