-- Each step keeps the rule.
use Rattle.std.proofs.Common.{◌≡◌, ◌≢◌, ℕ, zero, suc, ◌+◌, ◌<◌, ◌≤◌, ◌⊎◌, Bool, true, cond, true≢false, eqb, eq-eqb, ne_eqb, List, [], ◌∷◌, ◌++◌, length, set, sym, refl, ap, ◌∙◌, subst, append_assoc, arith, length-append, inl, inr, ⊎_elim}
use Rattle.std.specs.Prelude.{slice_index_or}
use mathlib.Core.Option.{some, some-ne-none, some-injective}
use lib.ListN.{get_elem?, get_or-append}
use mathlib.Core.Logic.{dite}
use native.Mathlib.Decide.{ℕ_discrete}
use Rattle.crossbeam_queue.specs.Fifo.{Pushes, Pops, Forks, Merges, Learns}
use Rattle.crossbeam_queue.proofs.Lists.{at_set}
use Rattle.intake_queue.specs.declared.view.View.{View}
use Rattle.intake_queue.specs.Lanes.{Plan, first_in, quota_in, room, unopened, taker, sender, spent, of_lane, CountsOn, Below, FitsLane, FitsTaker, KeepsRule, Took, Stood, Settled}
use Rattle.intake_queue.proofs.Lists.{of_append, of_nil, of_cons_here, grown_here, grown_else, below_push, below_at, below_none, below_nil, has_room, counts_nil, counts_push, counts_at}

module _ {T : Type 0} where
  at_more : (l : List (View T)) (a b : View T) (j : ℕ) → get_elem? (l ++ a ∷ []) j ≡ some b → (get_elem? l j ≡ some b) ⊎ ((length l ≡ j) × (a ≡ b))
  at_more [] a b zero e = inr (refl, some-injective a b e)
  at_more [] a b (suc j) e = absurd (some-ne-none b (sym e))
  at_more (x ∷ xs) a b zero e = inl e
  at_more (x ∷ xs) a b (suc j) e = ⊎_elim (λ t. inl t) (λ t. inr (ap suc t.0, t.1)) (at_more xs a b j e)

  at_short : (l : List (View T)) (b : View T) (j : ℕ) → get_elem? l j ≡ some b → j < length l
  at_short [] b j e = absurd (some-ne-none b (sym e))
  at_short (x ∷ xs) b zero e = omega arith
  at_short (x ∷ xs) b (suc j) e = let r = at_short xs b j e in omega (arith, r)

  abbrev Each : (ℕ → View T → Type 0) → List (View T) → Type 0
  Each F views = (port : ℕ) (v : View T) → get_elem? views port ≡ some v → F port v

  each_set : (F : ℕ → View T → Type 0) (views : List (View T)) (port : ℕ) (w : View T) → F port w → ((j : ℕ) (u : View T) → j ≢ port → get_elem? views j ≡ some u → F j u) → Each F (set views port w)
  each_set F views port w mine others j u e = ⊎_elim (λ (x : (j ≡ port) × (w ≡ u)). subst (λ (y : ℕ × View T). F y.0 y.1) (λ i. (sym x.0 i, x.1 i)) mine)
      (λ (x : (j ≢ port) × (get_elem? views j ≡ some u)). others j u x.0 x.1) (at_set views port j w u e)

  each_one : (F : ℕ → View T → Type 0) (w : View T) → F 0 w → Each F (w ∷ [])
  each_one F w mine zero u e = subst (λ (y : View T). F 0 y) (some-injective w u e) mine
  each_one F w mine (suc j) u e = absurd (some-ne-none u (sym e))

  -- one more pass, at the end
  each_more : (F : ℕ → View T → Type 0) (views : List (View T)) (w : View T) → F (length views) w → Each F views → Each F (views ++ w ∷ [])
  each_more F views w mine old j u e = ⊎_elim (λ x. old j u x) (λ (x : (length views ≡ j) × (w ≡ u)). subst (λ (y : ℕ × View T). F y.0 y.1) (λ i. (x.0 i, x.1 i)) mine) (at_more views w u j e)

at_the_end : {A : Type 0} (l : List (List A)) (a : List A) → slice_index_or (l ++ a ∷ []) (length l) [] ≡ a
at_the_end [] a = refl
at_the_end (x ∷ xs) a = at_the_end xs a

module _ {T : Type 0} (lane index : T → ℕ) where
  pub begins : KeepsRule lane index [] (unopened ∷ [])
  begins = record {
    plan = [];
    seat = λ _. 0;
    reader = 0;
    back = 0;
    lent = 0;
    all = [];
    got = [];
    whole = refl;
    ordered = omega arith;
    fewer = omega arith;
    lanes = below_nil lane 0;
    counts = λ k. subst (λ (l : List T). CountsOn index 0 l) (sym (of_nil lane k)) (counts_nil index 0);
    within = λ k. let e = ap length (of_nil lane k) in omega (arith, e);
    lane_fits = each_one (λ port v. v.sends ≡ true → FitsLane lane index [] (λ _. 0) 0 0 [] port v) unopened (λ p. absurd (true≢false (sym p)));
    taker_fits = each_one (λ port v. v.gets ≡ true → FitsTaker lane index [] 0 0 0 [] [] port v) unopened
        (λ p. record { is = refl; here = refl; returned = refl; known = λ k h. absurd (omega arith); idle = λ k h. of_nil lane k });
  }

  pub sends : (n port : ℕ) (v : View T) (x : T) → v.sends ≡ true → lane x ≡ v.lane → index x ≡ first_in v.plan v.lane + length v.sent → length v.sent < quota_in v.plan v.lane
      → Pushes (KeepsRule lane index) n port v x (λ w. w ≡ sender v.plan v.lane (v.sent ++ x ∷ []))
  sends n port v x may same next left items views _ h at =
      let mine = h.lane_fits port v at may in
      let plan_is : v.plan ≡ h.plan = ap (λ (y : View T). y.plan) mine.is in
      let sent_is : v.sent ≡ of_lane lane v.lane h.all = ap (λ (y : View T). y.sent) mine.is in
      let w : View T = sender v.plan v.lane (v.sent ++ x ∷ []) in
      let all : List T = h.all ++ x ∷ [] in
      let out = mine.out in let lent_out = mine.lent_out in let fewer = h.fewer in
      let here : of_lane lane v.lane all ≡ of_lane lane v.lane h.all ++ x ∷ [] = grown_here lane v.lane h.all x same in
      let long : length v.sent ≡ length (of_lane lane v.lane h.all) = ap length sent_is in
      let next' : index x ≡ first_in h.plan v.lane + length (of_lane lane v.lane h.all) = next ∙ (λ i. first_in (plan_is i) v.lane + long i) in
      let left' : length (of_lane lane v.lane h.all) < quota_in h.plan v.lane = subst (λ (y : ℕ × Plan). y.0 < quota_in y.1 v.lane) (λ i. (long i, plan_is i)) left in
      let below : lane x < length h.plan = omega (arith, same) in (
        w,
        record {
          plan = h.plan;
          seat = h.seat;
          reader = h.reader;
          back = h.back;
          lent = h.lent;
          all = all;
          got = h.got;
          whole = ap (λ (l : List T). l ++ x ∷ []) h.whole ∙ append_assoc h.got items (x ∷ []);
          ordered = h.ordered;
          fewer = h.fewer;
          lanes = below_push lane (length h.plan) h.all x h.lanes below;
          counts = λ k. dite (ℕ_discrete v.lane k)
              (λ (e : v.lane ≡ k). subst (λ (k : ℕ). CountsOn index (first_in h.plan k) (of_lane lane k all)) e
              (subst (λ (l : List T). CountsOn index (first_in h.plan v.lane) l) (sym here) (counts_push index (first_in h.plan v.lane) (of_lane lane v.lane h.all) x (h.counts v.lane) next')))
              (λ e. subst (λ (l : List T). CountsOn index (first_in h.plan k) l) (sym (grown_else lane k h.all x (λ p. e (sym same ∙ p)))) (h.counts k));
          within = λ k. dite (ℕ_discrete v.lane k)
              (λ (e : v.lane ≡ k). subst (λ (k : ℕ). length (of_lane lane k all) ≤ quota_in h.plan k) e
              (let a = ap length here in let b = length-append (of_lane lane v.lane h.all) (x ∷ []) in omega (arith, a, b, left')))
              (λ e. subst (λ (l : List T). length l ≤ quota_in h.plan k) (sym (grown_else lane k h.all x (λ p. e (sym same ∙ p)))) (h.within k));
          lane_fits = each_set (λ port u. u.sends ≡ true → FitsLane lane index h.plan h.seat h.back h.lent all port u) views port w
              (λ _. record {
                is = λ i. sender (plan_is i) v.lane ((ap (λ (l : List T). l ++ x ∷ []) sent_is ∙ sym here) i);
                here = mine.here;
                out = mine.out;
                lent_out = mine.lent_out;
              })
              (λ j u apart e p.
              let old = h.lane_fits j u e p in
              let other : lane x ≢ u.lane = λ q. apart (old.here ∙ ap h.seat (sym q ∙ same) ∙ sym mine.here) in
              record {
                is = old.is ∙ ap (λ (l : List T). sender h.plan u.lane l) (sym (grown_else lane u.lane h.all x other));
                here = old.here;
                out = old.out;
                lent_out = old.lent_out;
              });
          taker_fits = each_set (λ port u. u.gets ≡ true → FitsTaker lane index h.plan h.reader h.back h.lent all h.got port u) views port w
              (λ p. absurd (true≢false (sym p)))
              (λ j u apart e p.
              let old = h.taker_fits j u e p in
              record {
                is = old.is;
                here = old.here;
                returned = old.returned;
                known = λ k less. old.known k less ∙ sym (grown_else lane k h.all x (λ q. omega (arith, q, same)));
                idle = λ k more. grown_else lane k h.all x (λ q. omega (arith, q, same)) ∙ old.idle k more;
              });
        },
        refl,
      )

  pub has_room_left : (port : ℕ) (v : View T) → v.sends ≡ true → length v.sent < quota_in v.plan v.lane → Learns (KeepsRule lane index) port v (λ items. length items < room v.plan)
  has_room_left port v may left items views h at =
      let mine = h.lane_fits port v at may in
      let plan_is : v.plan ≡ h.plan = ap (λ (y : View T). y.plan) mine.is in
      let long : length v.sent ≡ length (of_lane lane v.lane h.all) = ap (λ (y : View T). length y.sent) mine.is in
      let left' : length (of_lane lane v.lane h.all) < quota_in h.plan v.lane = subst (λ (y : ℕ × Plan). y.0 < quota_in y.1 v.lane) (λ i. (long i, plan_is i)) left in
      let lent_out = mine.lent_out in let fewer = h.fewer in
      let all_less : length h.all < room h.plan = has_room lane h.plan h.all h.lanes h.within v.lane (omega arith) left' in
      let e = ap length h.whole in let f = length-append h.got items in
      let less : length items < room h.plan = omega (arith, all_less, e, f) in
      subst (λ (p : Plan). length items < room p) (sym plan_is) less

  pub takes : (port : ℕ) (v : View T) → v.gets ≡ true → Pops (KeepsRule lane index) port v (Took lane index v)
  takes port v may x items views h at =
      let mine = h.taker_fits port v at may in
      let plan_is : v.plan ≡ h.plan = ap (λ (y : View T). y.plan) mine.is in
      let got_is : v.got ≡ h.got = ap (λ (y : View T). y.got) mine.is in
      let lent_is : v.lent ≡ h.lent = ap (λ (y : View T). y.lent) mine.is in
      let w : View T = taker v.plan (v.got ++ x ∷ []) v.lent v.back in
      let got : List T = h.got ++ x ∷ [] in
      let low : lane x < length h.plan = below_at lane (length h.plan) h.got x items (subst (λ (l : List T). Below lane (length h.plan) l) h.whole h.lanes) in
      let picked : of_lane lane (lane x) h.all ≡ of_lane lane (lane x) h.got ++ x ∷ of_lane lane (lane x) items =
      ap (λ (l : List T). of_lane lane (lane x) l) h.whole ∙ of_append lane (lane x) h.got (x ∷ items) ∙ ap (λ (l : List T). of_lane lane (lane x) h.got ++ l) (of_cons_here lane (lane x) x items refl) in
      let next : index x ≡ first_in h.plan (lane x) + length (of_lane lane (lane x) h.got) =
      counts_at index (first_in h.plan (lane x)) (of_lane lane (lane x) h.got) x (of_lane lane (lane x) items) (subst (λ (l : List T). CountsOn index (first_in h.plan (lane x)) l) picked (h.counts (lane x))) in (
        w,
        record {
          plan = h.plan;
          seat = h.seat;
          reader = h.reader;
          back = h.back;
          lent = h.lent;
          all = h.all;
          got = got;
          whole = h.whole ∙ sym (append_assoc h.got (x ∷ []) items);
          ordered = h.ordered;
          fewer = h.fewer;
          lanes = h.lanes;
          counts = h.counts;
          within = h.within;
          lane_fits = each_set (λ port u. u.sends ≡ true → FitsLane lane index h.plan h.seat h.back h.lent h.all port u) views port w
              (λ p. absurd (true≢false (sym p)))
              (λ j u apart e p. h.lane_fits j u e p);
          taker_fits = each_set (λ port u. u.gets ≡ true → FitsTaker lane index h.plan h.reader h.back h.lent h.all got port u) views port w
              (λ _. record {
                is = λ i. taker (plan_is i) (got_is i ++ x ∷ []) (lent_is i) v.back;
                here = mine.here;
                returned = mine.returned;
                known = mine.known;
                idle = mine.idle;
              })
              (λ j u apart e p. absurd (apart ((h.taker_fits j u e p).here ∙ sym mine.here)));
        },
        (
          refl,
          subst (λ (p : Plan). lane x < length p) (sym plan_is) low,
          subst (λ (y : Plan × List T). index x ≡ first_in y.0 (lane x) + length (of_lane lane (lane x) y.1)) (λ i. (sym plan_is i, sym got_is i)) next,
        ),
      )

  pub stands : (port : ℕ) (v : View T) → Learns (KeepsRule lane index) port v (Stood lane index v)
  stands port v items views h at = (views, port, h, at)

  pub opens : (port : ℕ) (v : View T) (plan : Plan) → v ≡ unopened → Forks (KeepsRule lane index) port v (taker plan [] 0 []) spent
  opens port v plan blank items views h at =
      let gets : v.gets ≡ true = ap (λ (y : View T). y.gets) blank in
      let mine = h.taker_fits port v at gets in
      let none : h.plan ≡ [] = sym (ap (λ (y : View T). y.plan) mine.is) ∙ ap (λ (y : View T). y.plan) blank in
      let got_none : h.got ≡ [] = sym (ap (λ (y : View T). y.got) mine.is) ∙ ap (λ (y : View T). y.got) blank in
      let lent_none : h.lent ≡ 0 = sym (ap (λ (y : View T). y.lent) mine.is) ∙ ap (λ (y : View T). y.lent) blank in
      let empty : h.all ≡ [] = below_none lane h.all (subst (λ (p : Plan). Below lane (length p) h.all) none h.lanes) in
      let of_none : (k : ℕ) → of_lane lane k h.all ≡ [] = λ k. ap (λ (l : List T). of_lane lane k l) empty ∙ of_nil lane k in
      let w : View T = taker plan [] 0 [] in
      record {
        plan = plan;
        seat = h.seat;
        reader = h.reader;
        back = 0;
        lent = 0;
        all = h.all;
        got = h.got;
        whole = h.whole;
        ordered = omega arith;
        fewer = omega arith;
        lanes = subst (λ (l : List T). Below lane (length plan) l) (sym empty) (below_nil lane (length plan));
        counts = λ k. subst (λ (l : List T). CountsOn index (first_in plan k) l) (sym (of_none k)) (counts_nil index (first_in plan k));
        within = λ k. let e = ap length (of_none k) in omega (arith, e);
        lane_fits = each_more (λ port u. u.sends ≡ true → FitsLane lane index plan h.seat 0 0 h.all port u) (set views port w) spent (λ p. absurd (true≢false (sym p)))
            (each_set (λ port u. u.sends ≡ true → FitsLane lane index plan h.seat 0 0 h.all port u) views port w (λ p. absurd (true≢false (sym p)))
            (λ j u apart e p. let old = h.lane_fits j u e p in let l = old.lent_out in absurd (omega (arith, l, lent_none))));
        taker_fits = each_more (λ port u. u.gets ≡ true → FitsTaker lane index plan h.reader 0 0 h.all h.got port u) (set views port w) spent (λ p. absurd (true≢false (sym p)))
            (each_set (λ port u. u.gets ≡ true → FitsTaker lane index plan h.reader 0 0 h.all h.got port u) views port w
            (λ _. record {
              is = λ i. taker plan (sym got_none i) 0 [];
              here = mine.here;
              returned = refl;
              known = λ k less. absurd (omega arith);
              idle = λ k more. of_none k;
            })
            (λ j u apart e p. absurd (apart ((h.taker_fits j u e p).here ∙ sym mine.here))));
      }

  pub lends : (port : ℕ) (v : View T) → v.gets ≡ true → v.lent < length v.plan → Forks (KeepsRule lane index) port v (taker v.plan v.got (v.lent + 1) v.back) (sender v.plan v.lent [])
  lends port v may left items views h at =
      let mine = h.taker_fits port v at may in
      let plan_is : v.plan ≡ h.plan = ap (λ (y : View T). y.plan) mine.is in
      let got_is : v.got ≡ h.got = ap (λ (y : View T). y.got) mine.is in
      let lent_is : v.lent ≡ h.lent = ap (λ (y : View T). y.lent) mine.is in
      let left' : h.lent < length h.plan = subst (λ (y : ℕ × Plan). y.0 < length y.1) (λ i. (lent_is i, plan_is i)) left in
      let w : View T = taker v.plan v.got (v.lent + 1) v.back in
      let u0 : View T = sender v.plan v.lent [] in
      let vs : List (View T) = set views port w in
      let seat : ℕ → ℕ = λ k. cond (eqb k h.lent) (length vs) (h.seat k) in
      let seat_new : seat h.lent ≡ length vs = ap (λ (b : Bool). cond b (length vs) (h.seat h.lent)) (eq-eqb h.lent h.lent refl) in
      let seat_old : (k : ℕ) → k < h.lent → seat k ≡ h.seat k = λ k less. ap (λ (b : Bool). cond b (length vs) (h.seat k)) (ne_eqb k h.lent (λ q. omega (arith, q))) in
      let idle : of_lane lane h.lent h.all ≡ [] = mine.idle h.lent (omega arith) in
      let behind : h.back ≤ h.lent = h.ordered in
      record {
        plan = h.plan;
        seat = seat;
        reader = h.reader;
        back = h.back;
        lent = h.lent + 1;
        all = h.all;
        got = h.got;
        whole = h.whole;
        ordered = omega arith;
        fewer = omega arith;
        lanes = h.lanes;
        counts = h.counts;
        within = h.within;
        lane_fits = each_more (λ port u. u.sends ≡ true → FitsLane lane index h.plan seat h.back (h.lent + 1) h.all port u) vs u0
            (λ _. record {
              is = λ i. sender (plan_is i) v.lent ((sym idle ∙ ap (λ (k : ℕ). of_lane lane k h.all) (sym lent_is)) i);
              here = sym seat_new ∙ ap seat (sym lent_is);
              out = omega (arith, lent_is);
              lent_out = omega (arith, lent_is);
            })
            (each_set (λ port u. u.sends ≡ true → FitsLane lane index h.plan seat h.back (h.lent + 1) h.all port u) views port w (λ p. absurd (true≢false (sym p)))
            (λ j u apart e p. let old = h.lane_fits j u e p in let l = old.lent_out in
            record { is = old.is; here = old.here ∙ sym (seat_old u.lane l); out = old.out; lent_out = omega (arith, l) }));
        taker_fits = each_more (λ port u. u.gets ≡ true → FitsTaker lane index h.plan h.reader h.back (h.lent + 1) h.all h.got port u) vs u0 (λ p. absurd (true≢false (sym p)))
            (each_set (λ port u. u.gets ≡ true → FitsTaker lane index h.plan h.reader h.back (h.lent + 1) h.all h.got port u) views port w
            (λ _. record {
              is = λ i. taker (plan_is i) (got_is i) (lent_is i + 1) v.back;
              here = mine.here;
              returned = mine.returned;
              known = mine.known;
              idle = λ k more. mine.idle k (omega arith);
            })
            (λ j u apart e p. absurd (apart ((h.taker_fits j u e p).here ∙ sym mine.here))));
      }

  pub returns : (port : ℕ) (v : View T) (other : ℕ) (u : View T) → v.gets ≡ true → u.sends ≡ true → u.lane ≡ length v.back
      → Merges (KeepsRule lane index) port v other u (taker v.plan v.got v.lent (v.back ++ u.sent ∷ [])) spent
  returns port v other u may theirs next items views h at two at' =
      let mine = h.taker_fits port v at may in
      let plan_is : v.plan ≡ h.plan = ap (λ (y : View T). y.plan) mine.is in
      let got_is : v.got ≡ h.got = ap (λ (y : View T). y.got) mine.is in
      let lent_is : v.lent ≡ h.lent = ap (λ (y : View T). y.lent) mine.is in
      let w : View T = taker v.plan v.got v.lent (v.back ++ u.sent ∷ []) in
      let vs : List (View T) = set views port w in
      let was : get_elem? views other ≡ some u = ⊎_elim (λ x. absurd (two x.0)) (λ x. x.1) (at_set views port other w u at') in
      let them = h.lane_fits other u was theirs in
      let sent_is : u.sent ≡ of_lane lane u.lane h.all = ap (λ (y : View T). y.sent) them.is in
      let lane_is : u.lane ≡ h.back = next ∙ mine.returned in
      let under : u.lane < h.lent = them.lent_out in
      let long : length (v.back ++ u.sent ∷ []) ≡ h.back + 1 = (let e = length-append v.back (u.sent ∷ []) in let f = mine.returned in omega (arith, e, f)) in
      let F : ℕ → View T → Type 0 = λ port y. y.sends ≡ true → FitsLane lane index h.plan h.seat (h.back + 1) h.lent h.all port y in
      let G : ℕ → View T → Type 0 = λ port y. y.gets ≡ true → FitsTaker lane index h.plan h.reader (h.back + 1) h.lent h.all h.got port y in
      record {
        plan = h.plan;
        seat = h.seat;
        reader = h.reader;
        back = h.back + 1;
        lent = h.lent;
        all = h.all;
        got = h.got;
        whole = h.whole;
        ordered = omega (arith, lane_is);
        fewer = h.fewer;
        lanes = h.lanes;
        counts = h.counts;
        within = h.within;
        lane_fits = each_set F vs other spent (λ p. absurd (true≢false (sym p)))
            (λ j y apart e. each_set (λ j y. j ≢ other → F j y) views port w (λ _ p. absurd (true≢false (sym p)))
            (λ j y _ e apart p.
            let old = h.lane_fits j y e p in
            let out = old.out in
            let others : y.lane ≢ h.back = λ q. apart (old.here ∙ ap h.seat (q ∙ sym lane_is) ∙ sym them.here) in
            record { is = old.is; here = old.here; out = omega (arith, out, others); lent_out = old.lent_out })
            j y e apart);
        taker_fits = each_set G vs other spent (λ p. absurd (true≢false (sym p)))
            (λ j y _ e. each_set G views port w
            (λ _. record {
              is = λ i. taker (plan_is i) (got_is i) (lent_is i) (v.back ++ u.sent ∷ []);
              here = mine.here;
              returned = long;
              known = λ k less. dite (ℕ_discrete k h.back)
                  (λ e. subst (λ (k : ℕ). slice_index_or (v.back ++ u.sent ∷ []) k [] ≡ of_lane lane k h.all) (mine.returned ∙ sym e)
                  (at_the_end v.back u.sent ∙ sent_is ∙ ap (λ (k : ℕ). of_lane lane k h.all) next))
                  (λ e. let r = mine.returned in let in' : k < length v.back = omega (arith, r, e) in let low : k < h.back = omega (arith, e) in
                  get_or-append v.back (u.sent ∷ []) [] k in' ∙ mine.known k low);
              idle = mine.idle;
            })
            (λ j y apart e p. absurd (apart ((h.taker_fits j y e p).here ∙ sym mine.here)))
            j y e);
      }

  pub settles : (port : ℕ) (v : View T) → v.gets ≡ true → length v.back ≡ length v.plan → Learns (KeepsRule lane index) port v (λ items. Settled lane index v.plan v.back v.got items)
  settles port v may full items views h at =
      let mine = h.taker_fits port v at may in
      let plan_is : v.plan ≡ h.plan = ap (λ (y : View T). y.plan) mine.is in
      let got_is : v.got ≡ h.got = ap (λ (y : View T). y.got) mine.is in
      let whole : h.all ≡ v.got ++ items = h.whole ∙ ap (λ (l : List T). l ++ items) (sym got_is) in (
        subst (λ (y : Plan × List T). Below lane (length y.0) y.1) (λ i. (sym plan_is i, whole i)) h.lanes,
        λ k less. let r = mine.returned in mine.known k (omega (arith, r, full)) ∙ ap (λ (l : List T). of_lane lane k l) whole,
      )
