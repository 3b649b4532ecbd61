-- What holds of the first blocks of a history, and of what is left of runs.
use Rattle.std.specs.Prelude.{All, zero, suc}
use Rattle.std.proofs.Common.{◌≡◌, ℕ, ◌<◌, ◌≤◌, List, [], ◌∷◌, ◌++◌, length, take, drop, refl, sym, ap, ◌∙◌, subst, arith, append-nil, length-append, take-append-drop}
use Rattle.std.proofs.lemmas.List.{take_at}
use Rattle.std.proofs.lemmas.List.Elements.{All-head, All-take}
use Rattle.journal_record.specs.Entry.{Entry}
use Rattle.ledger_model.specs.Genesis.{HasKeys, new_ledger}
use Rattle.ledger_model.specs.declared.genesis.Genesis.{Genesis}
use Rattle.ledger_model.specs.Growing.{Grows}
use Rattle.ledger_model.specs.History.{History, journals, journals_of, size, close}
use Rattle.ledger_model.specs.Lawful.{AreNext, IsBlock, IsFounded, IsLawful}
use Rattle.ledger_model.specs.Rules.{after, after_steps}
use Rattle.ledger_model.specs.Scheme.{Scheme}
use Rattle.ledger_model.specs.Step.{Step}
use Rattle.ledger_model.specs.Took.{TookAll}
use Rattle.ledger_model.proofs.BaseLaws.{front_next, journals_split}
use Rattle.ledger_model.proofs.GrowLaws.{close_none}
use Rattle.ledger_model.proofs.KeepLaws.{run_lawful}
use Rattle.ledger_model.proofs.LawfulLaws.{some_journal}
use Rattle.honest_dump.specs.Runs.{AreRuns, IsOfRuns, Run, first_blocks, left_of, left_of_all}

-- nothing waits behind a run of windows
pub run_none : (scheme : Scheme) (h : History) (windows : List (List Step)) → h.waiting ≡ [] → (after scheme h windows).waiting ≡ []
run_none scheme h [] none = none
run_none scheme h (window ∷ windows) none = run_none scheme (close (after_steps scheme h window)) windows (close_none (after_steps scheme h window))

-- what holds of all holds of the first
pub all_first : (P : Entry → Type 0) (es fs : List Entry) → All P (es ++ fs) → All P es
all_first P es fs all = subst (All P) (take_at es fs (length es) refl) (All-take P (length es) (es ++ fs) all)

some_block : (blocks : List (List Entry)) (n : ℕ) → 0 < n → All IsBlock blocks → 1 ≤ length (journals_of blocks ++ []) → 1 ≤ length (journals_of (take n blocks) ++ [])
some_block blocks zero left all some = absurd (omega (arith, left))
some_block [] (suc n) left all some = some
some_block (b ∷ bs) (suc n) left all some =
    let one = (All-head IsBlock b bs all).some in
    omega (arith, one, length-append b (journals_of (take n bs)), length-append (b ++ journals_of (take n bs)) [])

founded_first : (es fs : List Entry) → 1 ≤ length es → IsFounded (es ++ fs) → IsFounded es
founded_first [] fs some founded = absurd (omega (arith, some))
founded_first (e ∷ es) fs some founded = founded

module _ (n : ℕ) (h : History) where
  abbrev pub rest : List Entry
  rest = journals_of (drop n h.closed) ++ h.waiting

  -- the journals of the first blocks are the first
  pub first_journals : journals h ≡ journals (first_blocks n h) ++ rest
  first_journals =
      journals_split h (take n h.closed) (drop n h.closed) (sym (take-append-drop n h.closed)) ∙ ap (λ (l : List Entry). l ++ rest) (sym (append-nil (journals_of (take n h.closed))))

  pub first_grows : Grows (first_blocks n h) h
  first_grows = record { more = rest; journals_are = first_journals; blocks = drop n h.closed; closed_are = sym (take-append-drop n h.closed) }

  module _ (left : 0 < n) (lawful : IsLawful h) (none : h.waiting ≡ []) where
    pub first_some : 1 ≤ size (first_blocks n h)
    first_some =
        let all : journals h ≡ journals_of h.closed ++ [] = ap (λ (l : List Entry). journals_of h.closed ++ l) none in
        some_block h.closed n left lawful.blocks_are (omega (arith, ap length all, some_journal (journals h) lawful.journals_are))

    pub first_lawful : IsLawful (first_blocks n h)
    first_lawful = record {
      journals_are = record {
        next = front_next [] (journals (first_blocks n h)) rest (subst (AreNext []) first_journals lawful.journals_are.next);
        founded = founded_first (journals (first_blocks n h)) rest first_some (subst IsFounded first_journals lawful.journals_are.founded);
      };
      blocks_are = All-take IsBlock n h.closed lawful.blocks_are;
      waiting_is = record { room = omega arith; gathered = refl };
    }

-- what runs keep, and what the first blocks keep, holds of all that is left
module _ (scheme : Scheme) (Keeps : History → Type 0)
    (more : (h : History) (run : Run) → IsLawful h → TookAll scheme h run.old_notary run.windows run.new_notary → Keeps h → Keeps (after scheme h run.windows))
    (fewer : (n : ℕ) (h : History) → 0 < n → IsLawful h → h.waiting ≡ [] → Keeps h → Keeps (first_blocks n h)) where
  pub runs_keep : (h : History) (runs : List Run) → IsLawful h → h.waiting ≡ [] → AreRuns scheme h runs → Keeps h → Keeps (left_of_all scheme h runs)
  runs_keep h [] lawful none are k = k
  runs_keep h (run ∷ runs) lawful none are k =
      let g = after scheme h run.windows in
      let g_lawful = run_lawful scheme h run.windows lawful in
      let g_none = run_none scheme h run.windows none in
      runs_keep (left_of scheme h run) runs (first_lawful run.left g are.0 g_lawful g_none) refl are.2 (fewer run.left g are.0 g_lawful g_none (more h run lawful are.1 k))

pub runs_none : (scheme : Scheme) (h : History) (runs : List Run) → h.waiting ≡ [] → (left_of_all scheme h runs).waiting ≡ []
runs_none scheme h [] none = none
runs_none scheme h (run ∷ runs) none = runs_none scheme (left_of scheme h run) runs refl

-- ---- histories of runs

pub new_is : (scheme : Scheme) (genesis : Genesis) → HasKeys genesis → IsOfRuns scheme (new_ledger genesis)
new_is scheme genesis keys = record { genesis = genesis; keys = keys; runs = []; are = tt; history_is = refl }

-- one run more
module _ (scheme : Scheme) (run : Run) where
  left_more : (h : History) (runs : List Run) → left_of_all scheme h (runs ++ run ∷ []) ≡ left_of scheme (left_of_all scheme h runs) run
  left_more h [] = refl
  left_more h (r ∷ runs) = left_more (left_of scheme h r) runs

  are_more : (h : History) (runs : List Run) → AreRuns scheme h runs → 0 < run.left → TookAll scheme (left_of_all scheme h runs) run.old_notary run.windows run.new_notary → AreRuns scheme h (runs ++ run ∷ [])
  are_more h [] are left took = (left, took, tt)
  are_more h (r ∷ runs) are left took = (are.0, are.1, are_more (left_of scheme h r) runs are.2 left took)

pub more_is : (scheme : Scheme) (h : History) (run : Run) → IsOfRuns scheme h → 0 < run.left → TookAll scheme h run.old_notary run.windows run.new_notary → IsOfRuns scheme (left_of scheme h run)
more_is scheme h run r left took =
    let new = new_ledger r.genesis in
    record {
      genesis = r.genesis;
      keys = r.keys;
      runs = r.runs ++ run ∷ [];
      are = are_more scheme run new r.runs r.are left (subst (λ (g : History). TookAll scheme g run.old_notary run.windows run.new_notary) r.history_is took);
      history_is = ap (λ (g : History). left_of scheme g run) r.history_is ∙ sym (left_more scheme run new r.runs);
    }
