-- A file has one list.
use Rattle.std.specs.List.{AllByRecursion}
use Rattle.std.proofs.Common.{◌≡◌, inl, inr, ℕ, ◌+◌, ◌<◌, ◌≤◌, List, [], ◌∷◌, ◌++◌, length, take, drop, refl, sym, ◌∙◌, ap, subst, arith, append_assoc, length-append}
use Rattle.std.proofs.lemmas.List.{take_at, drop_at}
use Rattle.time_peg.specs.Entries.{NeverFalls, last_time, time_in}
use Rattle.journal_record.specs.declared.rules.TheConstants.{NOTARY_LIMIT}
use Rattle.notary_ledger.specs.Slots.{opened, IsShutSlot, Lists}

-- a slot that is open isn't shut
open_slot : (count least : ℕ) (e rest : List ℕ) → length e ≡ 72 → 1 ≤ length rest → least ≤ time_in e → count < NOTARY_LIMIT → IsShutSlot count least (1 ∷ (e ++ rest)) → ⊥
open_slot count least e rest width some later few (inl full) = omega (arith, full, few)
open_slot count least e rest width some later few (inr (inl short)) = omega (arith, short, length-append e rest, width, some)
open_slot count least e rest width some later few (inr (inr (inl shut))) = shut refl
open_slot count least e rest width some later few (inr (inr (inr early))) = omega (arith, early, later, ap time_in (take_at e rest 72 width))

-- the slots behind so many, of which each follows in time
one_list : (es fs : List (List ℕ)) (r s : List ℕ) (least n : ℕ) → AllByRecursion (λ (e : List ℕ). length e ≡ 72) es → AllByRecursion (λ (e : List ℕ). length e ≡ 72) fs
    → NeverFalls least es → NeverFalls least fs → n + length es ≤ NOTARY_LIMIT → n + length fs ≤ NOTARY_LIMIT → opened es ++ r ≡ opened fs ++ s
    → IsShutSlot (n + length es) (last_time least es) r → IsShutSlot (n + length fs) (last_time least fs) s → (0 < length es → 1 ≤ length r) → (0 < length fs → 1 ≤ length s) → es ≡ fs
one_list [] [] r s least n we wf te tf le lf is ended ended' some some' = refl
one_list [] (f ∷ fs) r s least n we wf te tf le lf is ended ended' some some' =
    absurd (open_slot n least f (opened fs ++ s) wf.0 (omega (arith, length-append (opened fs) s, some' (omega arith))) tf.0 (omega (arith, lf))
    (subst (λ (l : List ℕ). IsShutSlot n least l) (is ∙ append_assoc (1 ∷ f) (opened fs) s) (subst (λ k. IsShutSlot k least r) (omega arith) ended)))
one_list (e ∷ es) [] r s least n we wf te tf le lf is ended ended' some some' =
    absurd (open_slot n least e (opened es ++ r) we.0 (omega (arith, length-append (opened es) r, some (omega arith))) te.0 (omega (arith, le))
    (subst (λ (l : List ℕ). IsShutSlot n least l) (sym is ∙ append_assoc (1 ∷ e) (opened es) r) (subst (λ k. IsShutSlot k least s) (omega arith) ended')))
one_list (e ∷ es) (f ∷ fs) r s least n we wf te tf le lf is ended ended' some some' =
    let whole : 1 ∷ (e ++ (opened es ++ r)) ≡ 1 ∷ (f ++ (opened fs ++ s)) = sym (append_assoc (1 ∷ e) (opened es) r) ∙ is ∙ append_assoc (1 ∷ f) (opened fs) s in
    let tails : e ++ (opened es ++ r) ≡ f ++ (opened fs ++ s) = ap (drop 1) whole in
    let same : e ≡ f = sym (take_at e (opened es ++ r) 72 we.0) ∙ ap (take 72) tails ∙ take_at f (opened fs ++ s) 72 wf.0 in
    let rest : opened es ++ r ≡ opened fs ++ s = sym (drop_at e (opened es ++ r) 72 we.0) ∙ ap (drop 72) tails ∙ drop_at f (opened fs ++ s) 72 wf.0 in
    let others : es ≡ fs = one_list es fs r s (time_in e) (n + 1) we.1 wf.1 te.1 (subst (λ (x : List ℕ). NeverFalls (time_in x) fs) (sym same) tf.1) (omega (arith, le)) (omega (arith, lf)) rest
    (subst (λ k. IsShutSlot k (last_time (time_in e) es) r) (omega arith) ended)
    (subst (λ k. IsShutSlot k (last_time (time_in e) fs) s) (omega arith) (subst (λ (x : List ℕ). IsShutSlot (n + length (f ∷ fs)) (last_time (time_in x) fs) s) (sym same) ended')) (λ more. some (omega arith)) (λ more. some' (omega arith)) in
    ap (λ (x : List ℕ). x ∷ es) same ∙ ap (λ (l : List (List ℕ)). f ∷ l) others

pub lists_unique : (es fs : List (List ℕ)) (file : List ℕ) (l : Lists es file) (m : Lists fs file) → es ≡ fs
lists_unique es fs file l m =
    one_list es fs l.rest m.rest 0 0 l.list.widths m.list.widths l.list.times m.list.times (omega (arith, l.list.few)) (omega (arith, m.list.few)) (sym l.is ∙ m.is)
    (subst (λ k. IsShutSlot k (last_time 0 es) l.rest) (omega arith) l.ended) (subst (λ k. IsShutSlot k (last_time 0 fs) m.rest) (omega arith) m.ended) l.room m.room
