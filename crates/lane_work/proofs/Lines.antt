use Rattle.std.proofs.Common.{◌≡◌, ◌≢◌, ℕ, zero, suc, ◌<◌, List, [], ◌∷◌, ◌++◌, length, get_or, set, refl, sym, ap, ◌∙◌, subst, arith, Bool, cond, eq-eqb, ne_eqb, ◌≤◌, append_assoc, length-append, get_or-set_other, get_or-set_same}
use lib.ListN.{get_or-append}
use mathlib.Core.Logic.{dite}
use native.Mathlib.Decide.{ℕ_discrete}
use Rattle.std.specs.Prelude.{Vec}
use Rattle.std.proofs.Common.{Global}
use Rattle.intake_queue.specs.Lanes.{of_lane}
use Rattle.intake_queue.proofs.Lists.{grown_here, grown_else}
use Rattle.lane_work.specs.declared.kinds.LaneLine.{LaneLine}
use Rattle.std.specs.Prelude.{slice_index}
use Rattle.intake_queue.specs.declared.intake.LanePass.{LanePass}
use Rattle.lane_work.specs.declared.kinds.Made.{Made}
use Rattle.lane_work.specs.declared.hands.LaneJob.{LaneJob}
use Rattle.lane_work.specs.Making.{lines_of}

pub lines_are : (k : ℕ) (xs : List LaneLine) → lines_of k xs ≡ of_lane (λ (s : LaneLine). s.lane) k xs
unfolding of_lane
lines_are k xs = refl

lines_here : (k : ℕ) (xs : List LaneLine) (s : LaneLine) → s.lane ≡ k → lines_of k (xs ++ s ∷ []) ≡ lines_of k xs ++ s ∷ []
unfolding of_lane
lines_here k xs s e = grown_here (λ (s : LaneLine). s.lane) k xs s e

lines_else : (k : ℕ) (xs : List LaneLine) (s : LaneLine) → s.lane ≢ k → lines_of k (xs ++ s ∷ []) ≡ lines_of k xs
unfolding of_lane
lines_else k xs s e = grown_else (λ (s : LaneLine). s.lane) k xs s e

abbrev pub Divided : List (Vec LaneLine Global) → List LaneLine → Type 0
Divided lanes xs = (k : ℕ) (d : Vec LaneLine Global) → k < 8 → (get_or lanes k d).items ≡ lines_of k xs

pub divided_push : (lanes : List (Vec LaneLine Global)) (xs : List LaneLine) (s : LaneLine) (at : ℕ) (new : Vec LaneLine Global)
    → length lanes ≡ 8 → at ≡ s.lane → at < 8 → Divided lanes xs → ((d : Vec LaneLine Global) → new.items ≡ (get_or lanes at d).items ++ s ∷ []) → Divided (set lanes at new) (xs ++ s ∷ [])
divided_push lanes xs s at new long here low h is k d less =
    dite (ℕ_discrete k at)
    (λ (e : k ≡ at). let in' : at < length lanes = omega (arith, long) in
    subst (λ (k : ℕ). (get_or (set lanes at new) k d).items ≡ lines_of k (xs ++ s ∷ [])) (sym e)
    (ap (λ (v : Vec LaneLine Global). v.items) (get_or-set_same lanes at new d in') ∙ is d ∙ ap (λ (l : List LaneLine). l ++ s ∷ []) (h at d low) ∙ sym (lines_here at xs s (sym here))))
    (λ e. ap (λ (v : Vec LaneLine Global). v.items) (get_or-set_other lanes at k new d e) ∙ h k d less ∙ sym (lines_else k xs s (λ q. e (sym q ∙ sym here))))

pub any_default : {A : Type 0} (xs : List A) (i : ℕ) (d e : A) → i < length xs → get_or xs i d ≡ get_or xs i e
any_default [] i d e less = absurd (omega arith)
any_default (x ∷ xs) zero d e less = refl
any_default (x ∷ xs) (suc i) d e less = any_default xs i d e (omega arith)

-- the first jobs, and the passes and lines that are left
pub record AreSome (yielded passes : List (LanePass Made)) (lanes : List (Vec LaneLine Global)) (first : List ℕ) (more : List (LanePass Made)) (rest : List (Vec LaneLine Global)) (jobs : List LaneJob) : Type 0 where
  pub used : List (Vec LaneLine Global)
  pub passes_are : yielded ++ more ≡ passes
  pub lanes_are : used ++ rest ≡ lanes
  pub used_long : length used ≡ length jobs
  pub yielded_long : length yielded ≡ length jobs
  pub each : (k : ℕ) (d : LaneJob) (e : LanePass Made) (f : Vec LaneLine Global) → k < length jobs
      → ((get_or jobs k d).pass ≡ get_or yielded k e) × ((get_or jobs k d).lines ≡ get_or used k f) × ((get_or jobs k d).start ≡ slice_index first k)

at_length : {X : Type 0} (xs : List X) (x d : X) → get_or (xs ++ x ∷ []) (length xs) d ≡ x
at_length [] x d = refl
at_length (y ∷ xs) x d = at_length xs x d

last_of : {X : Type 0} (xs : List X) (x d : X) (k : ℕ) → k ≡ length xs → get_or (xs ++ x ∷ []) k d ≡ x
last_of xs x d k e = ap (λ (n : ℕ). get_or (xs ++ x ∷ []) n d) e ∙ at_length xs x d

module _ (passes : List (LanePass Made)) (lanes : List (Vec LaneLine Global)) (first : List ℕ) where
  pub some_push : (yielded more : List (LanePass Made)) (rest : List (Vec LaneLine Global)) (jobs : List LaneJob) (p : LanePass Made) (l : Vec LaneLine Global) (j : LaneJob)
      → AreSome yielded passes lanes first (p ∷ more) (l ∷ rest) jobs → j.pass ≡ p → j.lines ≡ l → j.start ≡ slice_index first (length jobs)
      → AreSome (yielded ++ p ∷ []) passes lanes first more rest (jobs ++ j ∷ [])
  some_push yielded more rest jobs p l j h is_pass is_lines is_start =
      let ul = h.used_long in let yl = h.yielded_long in
      record {
        used = h.used ++ l ∷ [];
        passes_are = append_assoc yielded (p ∷ []) more ∙ h.passes_are;
        lanes_are = append_assoc h.used (l ∷ []) rest ∙ h.lanes_are;
        used_long = (let a = length-append h.used (l ∷ []) in let b = length-append jobs (j ∷ []) in omega (arith, a, b, ul));
        yielded_long = (let a = length-append yielded (p ∷ []) in let b = length-append jobs (j ∷ []) in omega (arith, a, b, yl));
        each = λ k d e f less. dite (ℕ_discrete k (length jobs))
            (λ (q : k ≡ length jobs).
            let job : get_or (jobs ++ j ∷ []) k d ≡ j = last_of jobs j d k q in (
              ap (λ (y : LaneJob). y.pass) job ∙ is_pass ∙ sym (last_of yielded p e k (q ∙ sym yl)),
              ap (λ (y : LaneJob). y.lines) job ∙ is_lines ∙ sym (last_of h.used l f k (q ∙ sym ul)),
              ap (λ (y : LaneJob). y.start) job ∙ is_start ∙ ap (λ (n : ℕ). slice_index first n) (sym q),
            ))
            (λ q.
            let b = length-append jobs (j ∷ []) in
            let low : k < length jobs = omega (arith, b, q) in
            let low_y : k < length yielded = omega (arith, low, yl) in
            let low_u : k < length h.used = omega (arith, low, ul) in
            let job : get_or (jobs ++ j ∷ []) k d ≡ get_or jobs k d = get_or-append jobs (j ∷ []) d k low in
            let old = h.each k d e f low in (
              ap (λ (y : LaneJob). y.pass) job ∙ old.0 ∙ sym (get_or-append yielded (p ∷ []) e k low_y),
              ap (λ (y : LaneJob). y.lines) job ∙ old.1 ∙ sym (get_or-append h.used (l ∷ []) f k low_u),
              ap (λ (y : LaneJob). y.start) job ∙ old.2,
            ));
      }

pub lines_short : (k : ℕ) (xs : List LaneLine) → length (lines_of k xs) ≤ length xs
lines_short k [] = omega arith
lines_short k (s ∷ xs) = let r = lines_short k xs in dite (ℕ_discrete s.lane k)
    (λ e. subst (λ (b : Bool). length (cond b (s ∷ lines_of k xs) (lines_of k xs)) ≤ suc (length xs)) (sym (eq-eqb s.lane k e)) (omega (arith, r)))
    (λ e. subst (λ (b : Bool). length (cond b (s ∷ lines_of k xs) (lines_of k xs)) ≤ suc (length xs)) (sym (ne_eqb s.lane k e)) (omega (arith, r)))
