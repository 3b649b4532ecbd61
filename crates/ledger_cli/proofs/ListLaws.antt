-- Lemmas on the notary's list, which only goes on.
use Rattle.std.proofs.Common.{Option, ◌≡◌, ℕ, ◌+◌, ◌≤◌, Bool, true, false, inl, inr, List, [], ◌∷◌, ◌++◌, length, ap, sym, ◌∙◌, arith, append-nil, length-append}
use Rattle.batch_committer.proofs.WayLaws.{begins_then}
use Rattle.ledger_bytes.specs.Begins.{Begins}
use Rattle.time_peg.specs.Entries.{Making, NotaryState, HasOneMore, entry_of}
use Rattle.ledger_model.specs.Anchors.{peg_at}
use Rattle.ledger_model.specs.History.{History, id, size}
use Rattle.ledger_model.specs.Notary.{asks, Changes, Attends}
use Rattle.ledger_model.specs.Rules.{job_of, judged_at, after_step, after_window, after}
use Rattle.ledger_model.specs.Scheme.{Scheme}
use Rattle.ledger_model.specs.Step.{Step}
use Rattle.ledger_model.specs.Took.{Took, TookAll, notary_after}
use Rattle.ledger_cli.specs.Taken.{taken, TookSome}
use Rattle.ledger_cli.proofs.NotaryLaws.{flat, taken_begins}

-- a list goes on from another by at most so many entries
pub record GoesOnBy (most : ℕ) (first last : List (List ℕ)) : Type 0 where
  pub begins : Begins first last
  pub few : length last ≤ length first + most

stays : (most : ℕ) (first last : List (List ℕ)) → last ≡ first → GoesOnBy most first last
stays most first last same = record { begins = record { rest = []; is = same ∙ sym (append-nil first) }; few = (let e = ap length same in omega (arith, e)) }

goes_then : (n m : ℕ) (x y z : List (List ℕ)) → GoesOnBy n x y → GoesOnBy m y z → GoesOnBy (n + m) x z
goes_then n m x y z a b = record { begins = begins_then x y z a.begins b.begins; few = (let p = a.few in let q = b.few in omega (arith, p, q)) }

goes_wider : (n m : ℕ) (x y : List (List ℕ)) → n ≤ m → GoesOnBy n x y → GoesOnBy m x y
goes_wider n m x y less a = record { begins = a.begins; few = (let p = a.few in omega (arith, p, less)) }

one_more : (making : Option Making) (peg : List ℕ) (before after : List (List ℕ)) → HasOneMore making peg before after → GoesOnBy 1 before after
one_more making peg before after o =
    let e = entry_of o.0 peg o.1 in
    record { begins = record { rest = e ∷ []; is = o.3 }; few = (let l = ap length o.3 in let k = length-append before (e ∷ []) in omega (arith, l, k)) }

change_goes : (making : Option Making) (asked failed : Bool) (peg : List ℕ) (before after : List (List ℕ)) → Changes asked failed making peg before after → GoesOnBy 1 before after
change_goes making false failed peg before after c = stays 1 before after c
change_goes making true false peg before after c = one_more making peg before after c.0
change_goes making true true peg before after (inl same) = stays 1 before after same
change_goes making true true peg before after (inr more) = one_more making peg before after more.0

attends_goes : (scheme : Scheme) (h : History) (making : Option Making) (step : Step) → Attends scheme h making step → GoesOnBy 1 step.before step.after
attends_goes scheme h making step a =
    let job = job_of scheme (id h) step.line in
    let g = judged_at h job in
    change_goes making (asks g step.before job) step.failed (peg_at g (size g)) step.before step.after a.list

pub took_goes : (scheme : Scheme) (h : History) (n m : NotaryState) (steps : List Step) → Took scheme h n steps m → GoesOnBy (length steps) n.entries m.entries
took_goes scheme h n m [] t = stays 0 n.entries m.entries (ap (λ (x : NotaryState). x.entries) t)
took_goes scheme h n m (step ∷ steps) t =
    let one = attends_goes scheme h n.origin.making step t.1 in
    let more = took_goes scheme (after_step scheme h step) (notary_after n step) m steps t.2 in
    goes_wider (1 + length steps) (length (step ∷ steps)) n.entries m.entries (omega arith)
    (goes_then 1 (length steps) n.entries step.after m.entries (record {
      begins = record { rest = one.begins.rest; is = one.begins.is ∙ ap (λ es. es ++ one.begins.rest) t.0 };
      few = (let f = one.few in let e = ap length t.0 in omega (arith, f, e));
    }) more)

pub all_goes : (scheme : Scheme) (h : History) (n m : NotaryState) (windows : List (List Step)) → TookAll scheme h n windows m → GoesOnBy (length (flat windows)) n.entries m.entries
all_goes scheme h n m [] t = stays 0 n.entries m.entries (ap (λ (x : NotaryState). x.entries) t)
all_goes scheme h n m (window ∷ windows) t =
    goes_wider (length window + length (flat windows)) (length (flat (window ∷ windows))) n.entries m.entries (let l = length-append window (flat windows) in omega (arith, l))
    (goes_then (length window) (length (flat windows)) n.entries t.0.entries m.entries (took_goes scheme h n t.0 window t.1) (all_goes scheme (after_window scheme h window) t.0 m windows t.2))

pub some_goes : (scheme : Scheme) (h : History) (n m : NotaryState) (windows : List (List Step)) → TookSome scheme h n windows m → GoesOnBy (length (flat windows)) n.entries m.entries
some_goes scheme h n m windows t =
    let steps = flat (taken t.done t.now) in
    let b = taken_begins scheme h n m windows t in
    goes_wider (length steps) (length (flat windows)) n.entries m.entries (let e = ap length b.is in let l = length-append steps b.rest in omega (arith, e, l))
    (all_goes scheme h n m (taken t.done t.now) t.took)
