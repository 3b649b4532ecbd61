-- Lists of items, lane by lane.
use Rattle.std.proofs.Common.{◌≡◌, ◌≢◌, ℕ, zero, suc, ◌+◌, ◌<◌, ◌≤◌, Bool, cond, List, [], ◌∷◌, ◌++◌, length, get_or, sym, refl, ap, ◌∙◌, subst, sum, append-nil, arith, eq-eqb, ne_eqb}
use Rattle.std.proofs.lemmas.List.Sums.{sum_by-cons}
use Rattle.std.proofs.lemmas.List.Elements.{filter-append}
use mathlib.Core.Logic.{dite}
use native.Mathlib.Decide.{ℕ_discrete}
use Rattle.intake_queue.specs.Lanes.{Plan, first_in, quota_in, plan_of, room, of_lane, CountsOn, Below}

module _ {T : Type 0} (lane : T → ℕ) where
  pub of_append : (k : ℕ) (xs ys : List T) → of_lane lane k (xs ++ ys) ≡ of_lane lane k xs ++ of_lane lane k ys
  unfolding of_lane
  of_append k xs ys = filter-append _ xs ys

  pub of_nil : (k : ℕ) → of_lane lane k [] ≡ []
  unfolding of_lane
  of_nil k = refl

  pub of_cons_here : (k : ℕ) (x : T) (xs : List T) → lane x ≡ k → of_lane lane k (x ∷ xs) ≡ x ∷ of_lane lane k xs
  unfolding of_lane
  of_cons_here k x xs e = ap (λ (b : Bool). cond b (x ∷ of_lane lane k xs) (of_lane lane k xs)) (eq-eqb (lane x) k e)

  pub of_cons_else : (k : ℕ) (x : T) (xs : List T) → lane x ≢ k → of_lane lane k (x ∷ xs) ≡ of_lane lane k xs
  unfolding of_lane
  of_cons_else k x xs e = ap (λ (b : Bool). cond b (x ∷ of_lane lane k xs) (of_lane lane k xs)) (ne_eqb (lane x) k e)

  pub grown_here : (k : ℕ) (all : List T) (x : T) → lane x ≡ k → of_lane lane k (all ++ x ∷ []) ≡ of_lane lane k all ++ x ∷ []
  grown_here k all x e = of_append k all (x ∷ []) ∙ ap (λ (l : List T). of_lane lane k all ++ l) (of_cons_here k x [] e ∙ ap (λ (l : List T). x ∷ l) (of_nil k))

  pub grown_else : (k : ℕ) (all : List T) (x : T) → lane x ≢ k → of_lane lane k (all ++ x ∷ []) ≡ of_lane lane k all
  grown_else k all x e = of_append k all (x ∷ []) ∙ ap (λ (l : List T). of_lane lane k all ++ l) (of_cons_else k x [] e ∙ of_nil k) ∙ append-nil (of_lane lane k all)

  pub below_append : (n : ℕ) (xs ys : List T) → Below lane n xs → Below lane n ys → Below lane n (xs ++ ys)
  unfolding Below
  below_append n [] ys a b = b
  below_append n (x ∷ xs) ys a b = (a.0, below_append n xs ys a.1 b)

  pub below_push : (n : ℕ) (xs : List T) (x : T) → Below lane n xs → lane x < n → Below lane n (xs ++ x ∷ [])
  unfolding Below
  below_push n xs x a b = below_append n xs (x ∷ []) a (b, tt)

  pub below_at : (n : ℕ) (xs : List T) (x : T) (ys : List T) → Below lane n (xs ++ x ∷ ys) → lane x < n
  unfolding Below
  below_at n [] x ys a = a.0
  below_at n (y ∷ xs) x ys a = below_at n xs x ys a.1

  pub below_none : (xs : List T) → Below lane 0 xs → xs ≡ []
  unfolding Below
  below_none [] a = refl
  below_none (x ∷ xs) a = let h = a.0 in absurd (omega arith)

  pub below_nil : (n : ℕ) → Below lane n []
  unfolding Below
  below_nil n = tt

  -- the items of the lanes from j on, counted lane by lane
  pub used : ℕ → Plan → List T → ℕ
  used j [] all = 0
  used j (p ∷ ps) all = length (of_lane lane j all) + used (suc j) ps all

  used_below : (j : ℕ) (plan : Plan) (x : T) (xs : List T) → lane x < j → used j plan (x ∷ xs) ≡ used j plan xs
  unfolding used
  used_below j [] x xs low = refl
  used_below j (p ∷ ps) x xs low =
      let e = ap length (of_cons_else j x xs (λ h. omega arith)) in
      let r = used_below (suc j) ps x xs (omega arith) in
      λ i. e i + r i

  used_cons : (j : ℕ) (plan : Plan) (x : T) (xs : List T) → j ≤ lane x → lane x < j + length plan → used j plan (x ∷ xs) ≡ suc (used j plan xs)
  unfolding used
  used_cons j [] x xs low high = absurd (omega arith)
  used_cons j (p ∷ ps) x xs low high =
      dite (ℕ_discrete (lane x) j)
      (λ e. let a = ap length (of_cons_here j x xs e) in let r = used_below (suc j) ps x xs (omega arith) in omega (arith, a, r))
      (λ e. let a = ap length (of_cons_else j x xs e) in let r = used_cons (suc j) ps x xs (omega arith) (omega arith) in omega (arith, a, r))

  used_nil : (j : ℕ) (plan : Plan) → used j plan [] ≡ 0
  unfolding used
  used_nil j [] = refl
  used_nil j (p ∷ ps) = let a = ap length (of_nil j) in let r = used_nil (suc j) ps in omega (arith, a, r)

  pub used_all : (plan : Plan) (all : List T) → Below lane (length plan) all → used 0 plan all ≡ length all
  unfolding Below
  used_all plan [] b = used_nil 0 plan
  used_all plan (x ∷ xs) b = let h = b.0 in used_cons 0 plan x xs (omega arith) (omega arith) ∙ ap suc (used_all plan xs b.1)

  quotas_hold : (j : ℕ) (plan : Plan) (all : List T) → ((k : ℕ) → k < length plan → length (of_lane lane (j + k) all) ≤ quota_in plan k) → used j plan all ≤ room plan
  unfolding used room
  quotas_hold j [] all w = omega arith
  quotas_hold j (p ∷ ps) all w =
      let a : length (of_lane lane j all) ≤ p.1 = subst (λ (n : ℕ). length (of_lane lane n all) ≤ p.1) (omega arith) (w 0 (omega arith)) in
      let r = quotas_hold (suc j) ps all (λ k h. subst (λ (n : ℕ). length (of_lane lane n all) ≤ quota_in ps k) (omega arith) (w (suc k) (omega arith))) in
      omega (arith, a, r)

  some_left : (j : ℕ) (plan : Plan) (all : List T) → ((k : ℕ) → k < length plan → length (of_lane lane (j + k) all) ≤ quota_in plan k)
      → (at : ℕ) → at < length plan → length (of_lane lane (j + at) all) < quota_in plan at → used j plan all < room plan
  unfolding used room
  some_left j [] all w at in' less = absurd (omega arith)
  some_left j (p ∷ ps) all w zero in' less =
      let a : length (of_lane lane j all) < p.1 = subst (λ (n : ℕ). length (of_lane lane n all) < p.1) (omega arith) less in
      let r = quotas_hold (suc j) ps all (λ k h. subst (λ (n : ℕ). length (of_lane lane n all) ≤ quota_in ps k) (omega arith) (w (suc k) (omega arith))) in
      omega (arith, a, r)
  some_left j (p ∷ ps) all w (suc at) in' less =
      let a : length (of_lane lane j all) ≤ p.1 = subst (λ (n : ℕ). length (of_lane lane n all) ≤ p.1) (omega arith) (w 0 (omega arith)) in
      let r = some_left (suc j) ps all (λ k h. subst (λ (n : ℕ). length (of_lane lane n all) ≤ quota_in ps k) (omega arith) (w (suc k) (omega arith))) at (omega arith)
      (subst (λ (n : ℕ). length (of_lane lane n all) < quota_in ps at) (omega arith) less) in
      omega (arith, a, r)

  -- while a lane has quota left, fewer than all were sent
  pub has_room : (plan : Plan) (all : List T) → Below lane (length plan) all → ((k : ℕ) → length (of_lane lane k all) ≤ quota_in plan k)
      → (at : ℕ) → at < length plan → length (of_lane lane at all) < quota_in plan at → length all < room plan
  has_room plan all b w at in' less =
      let e = used_all plan all b in
      let r = some_left 0 plan all (λ k h. subst (λ (n : ℕ). length (of_lane lane n all) ≤ quota_in plan k) (omega arith) (w k)) at in'
      (subst (λ (n : ℕ). length (of_lane lane n all) < quota_in plan at) (omega arith) less) in
      omega (arith, e, r)

module _ {T : Type 0} (index : T → ℕ) where
  pub counts_nil : (n : ℕ) → CountsOn index n []
  unfolding CountsOn
  counts_nil n = tt

  pub counts_push : (n : ℕ) (xs : List T) (x : T) → CountsOn index n xs → index x ≡ n + length xs → CountsOn index n (xs ++ x ∷ [])
  unfolding CountsOn
  counts_push n [] x c e = ((omega (arith, e)), tt)
  counts_push n (y ∷ ys) x c e = (c.0, counts_push (n + 1) ys x c.1 (omega (arith, e)))

  pub counts_at : (n : ℕ) (xs : List T) (x : T) (ys : List T) → CountsOn index n (xs ++ x ∷ ys) → index x ≡ n + length xs
  unfolding CountsOn
  counts_at n [] x ys c = let e = c.0 in omega (arith, e)
  counts_at n (y ∷ xs) x ys c = let e = counts_at (n + 1) xs x ys c.1 in omega (arith, e)

pub plan_length : (fs qs : List ℕ) → length fs ≡ length qs → length (plan_of fs qs) ≡ length qs
unfolding plan_of
plan_length [] qs e = e
plan_length (f ∷ fs) [] e = absurd (omega arith)
plan_length (f ∷ fs) (q ∷ qs) e = ap suc (plan_length fs qs (omega arith))

-- the room is the sum of the quotas
pub room_sum : (fs qs : List ℕ) → length fs ≡ length qs → room (plan_of fs qs) ≡ sum qs
unfolding plan_of room
room_sum [] [] e = refl
room_sum [] (q ∷ qs) e = absurd (omega arith)
room_sum (f ∷ fs) [] e = absurd (omega arith)
room_sum (f ∷ fs) (q ∷ qs) e = let r = room_sum fs qs (omega arith) in let s = sum_by-cons (λ (n : ℕ). n) q qs in omega (arith, r, s)

-- what holds at each place holds with one more item
pub at_push : {X : Type 0} (P : ℕ → X → Type 0) (xs : List X) (x : X) → ((k : ℕ) (d : X) → k < length xs → P k (get_or xs k d)) → P (length xs) x
    → (k : ℕ) (d : X) → k < length (xs ++ x ∷ []) → P k (get_or (xs ++ x ∷ []) k d)
at_push P [] x h p zero d less = p
at_push P [] x h p (suc k) d less = absurd (omega arith)
at_push P (y ∷ ys) x h p zero d less = h 0 d (omega arith)
at_push P (y ∷ ys) x h p (suc k) d less = at_push (λ k. P (suc k)) ys x (λ k d l. h (suc k) d (omega arith)) p k d (omega arith)

-- the first of the rest stands at the end of what was yielded
module _ {X : Type 0} where
  abbrev pub EachAt : (ℕ → X → Type 0) → List X → Type 0
  EachAt P xs = (k : ℕ) (d : X) → k < length xs → P k (get_or xs k d)

  next_of : (P : ℕ → X → Type 0) (xs : List X) (x : X) (rest : List X) → EachAt P (xs ++ x ∷ rest) → P (length xs) x
  next_of P [] x rest h = h 0 x (omega arith)
  next_of P (y ∷ ys) x rest h = next_of (λ k. P (suc k)) ys x rest (λ k d l. h (suc k) d (omega arith))

  pub next_at : (P : ℕ → X → Type 0) (xs : List X) (x : X) (rest all : List X) → xs ++ x ∷ rest ≡ all → EachAt P all → P (length xs) x
  next_at P xs x rest all e h = next_of P xs x rest (subst (λ (l : List X). EachAt P l) (sym e) h)

pub none_left : {X : Type 0} (xs : List X) → length xs ≡ 0 → xs ≡ []
none_left [] e = refl
none_left (x ∷ xs) e = absurd (omega arith)

-- lists with as many items of each lane are as long
pub same_used : {A B : Type 0} (la : A → ℕ) (lb : B → ℕ) (j : ℕ) (plan : Plan) (xs : List A) (ys : List B)
    → ((k : ℕ) → k < length plan → length (of_lane la (j + k) xs) ≡ length (of_lane lb (j + k) ys)) → used la j plan xs ≡ used lb j plan ys
unfolding used
same_used la lb j [] xs ys e = refl
same_used {A} {B} la lb j (p ∷ ps) xs ys e =
    let a : length (of_lane la j xs) ≡ length (of_lane lb j ys) = subst (λ (n : ℕ). length (of_lane la n xs) ≡ length (of_lane lb n ys)) (omega arith) (e 0 (omega arith)) in
    let r = same_used la lb (suc j) ps xs ys (λ k h. subst (λ (n : ℕ). length (of_lane la n xs) ≡ length (of_lane lb n ys)) (omega arith) (e (suc k) (omega arith))) in
    λ i. a i + r i

-- the quota and the first index of a lane
pub plan_quota : (fs qs : List ℕ) (k : ℕ) → length fs ≡ length qs → quota_in (plan_of fs qs) k ≡ get_or qs k 0
unfolding plan_of
plan_quota [] [] k e = refl
plan_quota [] (q ∷ qs) k e = absurd (omega arith)
plan_quota (f ∷ fs) [] k e = absurd (omega arith)
plan_quota (f ∷ fs) (q ∷ qs) zero e = refl
plan_quota (f ∷ fs) (q ∷ qs) (suc k) e = plan_quota fs qs k (omega arith)

pub plan_first : (fs qs : List ℕ) (k : ℕ) → length fs ≡ length qs → first_in (plan_of fs qs) k ≡ get_or fs k 0
unfolding plan_of
plan_first [] [] k e = refl
plan_first [] (q ∷ qs) k e = absurd (omega arith)
plan_first (f ∷ fs) [] k e = absurd (omega arith)
plan_first (f ∷ fs) (q ∷ qs) zero e = refl
plan_first (f ∷ fs) (q ∷ qs) (suc k) e = plan_first fs qs k (omega arith)

-- where each quota is the number of the lane's items, the room is the number of all
used_room : {A : Type 0} (la : A → ℕ) (j : ℕ) (plan : Plan) (xs : List A) → ((k : ℕ) → k < length plan → quota_in plan k ≡ length (of_lane la (j + k) xs)) → room plan ≡ used la j plan xs
unfolding used room
used_room la j [] xs e = refl
used_room la j (p ∷ ps) xs e =
    let a : p.1 ≡ length (of_lane la j xs) = subst (λ (n : ℕ). p.1 ≡ length (of_lane la n xs)) (omega arith) (e 0 (omega arith)) in
    let r = used_room la (suc j) ps xs (λ k h. subst (λ (n : ℕ). quota_in ps k ≡ length (of_lane la n xs)) (omega arith) (e (suc k) (omega arith))) in
    λ i. a i + r i

pub exact_room : {A : Type 0} (la : A → ℕ) (plan : Plan) (xs : List A) → Below la (length plan) xs → ((k : ℕ) → k < length plan → quota_in plan k ≡ length (of_lane la k xs)) → room plan ≡ length xs
exact_room la plan xs below e =
    used_room la 0 plan xs (λ k h. e k h ∙ ap (λ (n : ℕ). length (of_lane la n xs)) (omega arith)) ∙ used_all la plan xs below
